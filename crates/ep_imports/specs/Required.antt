-- The required interfaces, as the code has them.
use Rattle.ep_imports.specs.Offers.{Offered}
use Rattle.ep_imports.specs.declared.brought.Exporter.TheVariants.{Required}
use Rattle.ep_imports.specs.declared.required.RequiredOffer.{RequiredOffer}

abbrev pub offered_in : RequiredOffer → Offered
offered_in r = record { exporter = Required r.interface; constituents = r.constituents }
