use Rattle.std.proofs.Common.{◌≡◌, ◌∙◌, Some, map, refl, sym}
use Rattle.std.specs.Option.{option_map}
use Rattle.ep_rules.specs.Judgements.{Accepts}
use Rattle.ep_stmt_rules.specs.Answers.{heads_of}
use Rattle.ep_threats.specs.Variables.{entire_of}
use Rattle.ep_threats.specs.Callees.{callees_among}
use Rattle.ep_stmt_rules.specs.Statements.{heads_threat}
use Rattle.ep_stmt_rules.proofs.Threatening.{is_kept}
use Rattle.ep_stmt_rules.proofs.records.unless_places_threaten.Goals as goal

pub returns : goal.returns
returns c =
    let is : Accepts (option_map heads_of c.args.heads) ≡ Accepts (Some (heads_of c.in-Some.records)) = rw c.in-Some.is refl in
    is_kept (heads_threat (callees_among c.args.routines.now)) (map entire_of c.args.controls.now) (Accepts (option_map heads_of c.args.heads)) (heads_of c.in-Some.records) is (rw (c.items.ensures, c.callees.ensures) at (sym c.places_threaten_one.ensures ∙ c.if-places_threaten_one.false))
