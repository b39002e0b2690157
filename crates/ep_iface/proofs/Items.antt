-- Reading items one behind the other, as a loop does.
use Rattle.std.proofs.Common.{◌≡◌, ℕ, suc, ◌-◌, ◌+◌, ◌≤◌, ◌<◌, List, [], ◌∷◌, ◌++◌, Ok, Err, refl, sym, ap, ◌∙◌, append_assoc, arith}
use Rattle.std.proofs.lemmas.List.{append-nil}
use Rattle.ep_fields.specs.Fields.{Position, Reading, ◌>>=◌}
use Rattle.ep_fields.specs.declared.refusal.FieldRefusal.{FieldRefusal}
use Rattle.ep_fields.specs.declared.refusal.FieldRefusal.TheVariants as refused
use Rattle.ep_iface.specs.Formats.{Gives, items_at}

-- what was read before, and what is still read
abbrev pub with_front : {A : Type 0} → List A → Reading (List A) → Reading (List A)
with_front front read = read >>= λ x. Ok (front ++ x.0, x.1)

regroup : {A : Type 0} (front : List A) (x : A) (read : Reading (List A))
    → with_front front (read >>= λ y. Ok (x ∷ y.0, y.1)) ≡ with_front (front ++ x ∷ []) read
regroup {A} front x (Ok y) = ap (λ (xs : List A). Ok (xs, y.1)) (simp append_assoc)
regroup front x (Err f) = refl

pub goes_on : {A : Type 0} (item : Position → Reading A) (front : List A) (count i : ℕ) (p q : Position) (x : A)
    (total : Reading (List A)) → i < count → item p ≡ Ok (x, q)
    → with_front front (items_at item (count - i) p) ≡ total
    → with_front (front ++ x ∷ []) (items_at item (count - (i + 1)) q) ≡ total
unfolding items_at
goes_on item front count i p q x total lt h so_far =
    let k : count - i ≡ suc (count - (i + 1)) = omega arith in
    let one : with_front front (items_at item (count - i) p) ≡ with_front (front ++ x ∷ []) (items_at item (count - (i + 1)) q) =
    rw (k, h) (regroup front x (items_at item (count - (i + 1)) q)) in
    sym one ∙ so_far

pub ends : {A : Type 0} (e : FieldRefusal) (item : Position → Reading A) (front : List A) (count i : ℕ) (p q : Position)
    (total : Reading (List A)) → i < count → Gives (Err e) q (item p)
    → with_front front (items_at item (count - i) p) ≡ total → Gives (Err e) q total
unfolding items_at
ends refused.NoMemory item front count i p q total lt h so_far = tt
ends (refused.Short place) item front count i p q total lt h so_far =
    let k : count - i ≡ suc (count - (i + 1)) = omega arith in
    let one : with_front front (items_at item (count - i) p) ≡ Err (refused.Short place) = rw (k, h) refl in
    sym so_far ∙ one
ends (refused.Bad place) item front count i p q total lt h so_far =
    let k : count - i ≡ suc (count - (i + 1)) = omega arith in
    let one : with_front front (items_at item (count - i) p) ≡ Err (refused.Bad place) = rw (k, h) refl in
    sym so_far ∙ one

pub is_done : {A : Type 0} (item : Position → Reading A) (front : List A) (count i : ℕ) (p : Position)
    (total : Reading (List A)) → count ≤ i → with_front front (items_at item (count - i) p) ≡ total
    → total ≡ Ok (front, p)
unfolding items_at
is_done {A} item front count i p total le so_far =
    let k : count - i ≡ 0 = omega arith in
    let one : with_front front (items_at item (count - i) p) ≡ Ok (front, p) =
    rw k (ap (λ (xs : List A). Ok (xs, p)) (append-nil front)) in
    sym so_far ∙ one
