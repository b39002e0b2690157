use Rattle.std.proofs.Common.{◌≡◌, ◌∙◌, ℕ, List, cond, is_some, true, false, Some, subst, sym}
use Rattle.std.specs.Str.{bytes_eq}
use Rattle.std.proofs.lemmas.Map.Text.{btree_map_updates_str}
use Rattle.ep_linkable.specs.declared.register.Register.{Register}
use Rattle.ep_linkable.specs.Registers.{place_under}
use Rattle.ep_linkable.proofs.Entries.{first_inserted, first_stays}
use Rattle.ep_linkable.proofs.register.Register.add.Goals as goal

pub returns-then-contains_key-clause-places : goal.returns-then-contains_key-clause-places
returns-then-contains_key-clause-places c =
    let places = place_under c.args.self.now in
    let there : is_some (places c.args.name.now) ≡ true =
    subst (λ bs. is_some (places bs) ≡ true) c.bytes.ensures.bytes
    (sym c.contains_key.ensures ∙ c.if-contains_key.true) in
    first_stays places c.args.name.now c.args.place there

pub returns-clause-places : goal.returns-clause-places
returns-clause-places c =
    let before = c.args.self.now in
    let places = place_under before in
    let after : Register = record { places = c.insert.new.self; twice = before.twice } in
    let none : is_some (places c.args.name.now) ≡ false =
    subst (λ bs. is_some (places bs) ≡ false) c.bytes.ensures.bytes
    (sym c.contains_key.ensures ∙ c.if-contains_key.false) in
    first_inserted places (place_under after) c.args.name.now c.args.place none
    (subst
    (λ bs. (other : List ℕ)
    → place_under after other ≡ cond (bytes_eq bs other) (Some c.args.place) (places other))
    c.bytes-2.ensures.bytes
    (λ other. btree_map_updates_str c.bytes-2.result.now before.places c.insert.new.self _
    c.in_ok-insert.ensures.updates
    other))
