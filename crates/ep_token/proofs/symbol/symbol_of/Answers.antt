-- The table of the code is the list of the special symbols.
use Rattle.std.proofs.Common.{◌≡◌, Some, None, ap, ◌∙◌}
use Rattle.ep_token.specs.Spellings.{place_of}
use Rattle.ep_token.specs.Symbols.{special_symbols}
use Rattle.ep_token.proofs.symbol.symbol_of.Goals as goal

pub returns-in-None : goal.returns-in-None
unfolding special_symbols
returns-in-None c = let e : None ≡ place_of special_symbols c.reference_spelling.result.now = c.in-None.ensures.place in e ∙ ap (place_of special_symbols) c.reference_spelling.ensures

pub returns-in-Some : goal.returns-in-Some
unfolding special_symbols
returns-in-Some c = let e : Some c.in-Some.place ≡ place_of special_symbols c.reference_spelling.result.now = c.in-Some.ensures.place in e ∙ ap (place_of special_symbols) c.reference_spelling.ensures
