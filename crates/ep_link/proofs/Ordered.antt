-- Objects in an order, one by one.
use Rattle.std.proofs.Common.{◌≡◌, ℕ, ◌+◌, ◌<◌, ◌≤◌, List, [], ◌∷◌, length, drop, get_or, All, refl, ap, ◌∙◌}
use Rattle.std.proofs.lemmas.List.{at_drop_more, drop_all}
use Rattle.std.proofs.lemmas.Option.{slice_get_read}
use Rattle.ep_object.specs.declared.code.Object.{Object}
use Rattle.ep_link.specs.Linking.{in_order, with_picked}

-- the next object, and those behind it
pub ordered-more : (objects : List Object) (order : List ℕ) (i : ℕ) (o : Object)
    → i < length order → All (λ place. place < length objects) order → o ≡ get_or objects (get_or order i 0) o
    → in_order objects (drop i order) ≡ o ∷ in_order objects (drop (i + 1) order)
ordered-more objects order i o h within is =
    let place : ℕ = get_or order i 0 in
    at_drop_more (in_order objects) order i 0 h
    ∙ ap (λ x. with_picked x (in_order objects (drop (i + 1) order)))
    (slice_get_read objects (length objects) place o refl (within i 0 h) is)

-- no object is left
pub ordered-all : (objects : List Object) (order : List ℕ) (i : ℕ) → length order ≤ i
    → in_order objects (drop i order) ≡ []
ordered-all objects order i h = ap (in_order objects) (drop_all i order h)
