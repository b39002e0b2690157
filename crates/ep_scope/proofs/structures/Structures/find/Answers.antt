use Rattle.std.proofs.Common.{◌≡◌, ◌∙◌, Some, None, slice_get, option_map, sym, ap, refl}
use Rattle.std.proofs.lemmas.Option.{slice_get_past, slice_get_read}
use Rattle.ep_scope.proofs.Places.{composition_at, composition-placed}
use Rattle.ep_scope.proofs.structures.Structures.find.Goals as goal

pub returns-in-None : goal.returns-in-None
returns-in-None c =
    rw (← c.self.view_is)
    (ap (composition_at c.self.inside.all) (c.in-None.ensures.value ∙ c.self.invariant c.args.number) ∙ sym (composition-placed c.args.number c.self.inside.all))

pub returns-in-None-get : goal.returns-in-None-get
returns-in-None-get c =
    let past : slice_get c.items.result.now c.in-Some.place.now ≡ None = slice_get_past c.items.result.now c.in-Some.place.now c.in-None-get.ensures.lookup.3 in
    let found : None ≡ slice_get c.self.inside.all c.in-Some.place.now = sym past ∙ ap (λ l. slice_get l c.in-Some.place.now) c.items.ensures in
    rw (← c.self.view_is)
    (ap (option_map (λ s. s.composition)) found ∙ ap (composition_at c.self.inside.all) (c.in-Some.ensures.value ∙ c.self.invariant c.args.number)
    ∙ sym (composition-placed c.args.number c.self.inside.all))

pub returns-in-Some-get : goal.returns-in-Some-get
returns-in-Some-get c =
    let there : slice_get c.items.result.now c.in-Some.place.now ≡ Some c.in-Some-get.structured.now =
    slice_get_read c.items.result.now _ c.in-Some.place.now c.in-Some-get.structured.now refl c.in-Some-get.ensures.lookup.3.0 c.in-Some-get.ensures.lookup.1 in
    let found : Some c.in-Some-get.structured.now ≡ slice_get c.self.inside.all c.in-Some.place.now = sym there ∙ ap (λ l. slice_get l c.in-Some.place.now) c.items.ensures in
    rw (← c.self.view_is)
    (ap (option_map (λ s. s.composition)) found ∙ ap (composition_at c.self.inside.all) (c.in-Some.ensures.value ∙ c.self.invariant c.args.number)
    ∙ sym (composition-placed c.args.number c.self.inside.all))
