-- Lists: where what holds of each item.
use Rattle.std.proofs.Common.{◌≡◌, ℕ, zero, suc, ◌<◌, ◌^◌, List, [], ◌∷◌, ◌++◌, length, Ok, refl, sym, ap, subst, ◌∙◌, arith}
use Rattle.std.specs.List.{flat_map, AllByRecursion}
use Rattle.std.proofs.lemmas.List.Concat.{flat_map-cons}
use Rattle.ep_fields.specs.Fields.{Position, Reading, number, number_at}
use Rattle.ep_fields.specs.Laws.{FieldLaws, IsReadAgain, IsSpelled}
use Rattle.ep_iface.specs.Formats.{AreListed, items_at, list_at, listed}
use Rattle.ep_fields.proofs.public.Readings.{bind_ok, ok_is}
use Rattle.ep_iface.proofs.Fields.{Takes, Took, before_again, before_takes, row1, row1_again, spelled, IsOf}

items_again : {A : Type 0} (item : Position → Reading A) (spelling : A → List ℕ) (Fits : A → Type 0)
    → ((x : A) → Fits x → IsReadAgain item (spelling x) x) → (xs : List A) → AllByRecursion Fits xs
    → IsReadAgain (items_at item (length xs)) (flat_map spelling xs) xs
unfolding items_at
items_again item spelling Fits law [] fits place rest = ap (λ (n : ℕ). Ok ([], record { place = n; rest = rest })) (omega arith)
items_again {A} item spelling Fits law (x ∷ xs) fits place rest =
    subst (λ (s : List ℕ). IsReadAgain (items_at item (suc (length xs))) s (x ∷ xs)) (sym (flat_map-cons spelling x xs))
    (before_again item (λ y. row1 (items_at item (length xs)) (λ ys. y ∷ ys)) (spelling x) (flat_map spelling xs) x (x ∷ xs)
    (law x fits.0)
    (row1_again (items_at item (length xs)) (λ ys. x ∷ ys) (flat_map spelling xs) xs (items_again item spelling Fits law xs fits.1)))
    place rest

pub list_again : {A : Type 0} → FieldLaws → (item : Position → Reading A) (spelling : A → List ℕ) (Fits : A → Type 0)
    → ((x : A) → Fits x → IsReadAgain item (spelling x) x) → (xs : List A) → AreListed Fits xs
    → IsReadAgain (list_at item) (listed spelling xs) xs
unfolding list_at
list_again laws item spelling Fits law xs fits =
    before_again number_at (λ n. items_at item n) (number (length xs)) (flat_map spelling xs) (length xs) xs
    (laws.numbers_again (length xs) fits.0) (items_again item spelling Fits law xs fits.1)

-- so many items that can be, and this is how they are spelled
record AreOf {A : Type 0} (spelling : A → List ℕ) (Fits : A → Type 0) (n : ℕ) (xs : List A) (s : List ℕ) : Type 0 where
  count : length xs ≡ n
  each : AllByRecursion Fits xs
  is : s ≡ flat_map spelling xs

items_take : {A : Type 0} (item : Position → Reading A) (spelling : A → List ℕ) (Fits : A → Type 0)
    → IsSpelled item spelling Fits → (n : ℕ) → Takes (items_at item n) (AreOf spelling Fits n)
unfolding items_at
items_take {A} item spelling Fits law zero p q y bytes e =
    subst (λ (z : List A × Position). Took p z.0 z.1 (AreOf spelling Fits 0)) (ok_is ([], p) (y, q) e)
    (record { spelled = []; stood = record { bytes = refl; place = omega arith }; is = record { count = refl; each = tt; is = refl } })
items_take {A} item spelling Fits law (suc n) p q y bytes e =
    before_takes item (λ x. row1 (items_at item n) (λ xs. x ∷ xs)) spelling Fits (AreOf spelling Fits (suc n)) law
    (λ x fits p q y bytes e.
    let a = bind_ok (items_at item n p) (λ (xs : List A × Position). Ok (x ∷ xs.0, xs.1)) (y, q) e in
    let t = items_take item spelling Fits law n p a.0.1 a.0.0 bytes a.1 in
    subst (λ (z : List A × Position). Took p z.0 z.1 (λ ys s. AreOf spelling Fits (suc n) ys (spelling x ++ s))) (ok_is (x ∷ a.0.0, a.0.1) (y, q) a.2)
    (record {
      spelled = t.spelled;
      stood = t.stood;
      is =
          record {
            count = ap suc t.is.count;
            each = (fits, t.is.each);
            is = ap (λ (s : List ℕ). spelling x ++ s) t.is.is ∙ sym (flat_map-cons spelling x a.0.0);
          };
    }))
    p q y bytes e

pub list_spelled : {A : Type 0} → FieldLaws → (item : Position → Reading A) (spelling : A → List ℕ) (Fits : A → Type 0)
    → IsSpelled item spelling Fits → IsSpelled (list_at item) (listed spelling) (AreListed Fits)
unfolding list_at
list_spelled {A} laws item spelling Fits law =
    spelled (list_at item) (listed spelling) (AreListed Fits)
    (before_takes number_at (λ n. items_at item n) number (λ n. n < 2 ^ 32) (IsOf (listed spelling) (AreListed Fits)) laws.numbers_spelled
    (λ n fits p q y bytes e.
    let t = items_take item spelling Fits law n p q y bytes e in
    record {
      spelled = t.spelled;
      stood = t.stood;
      is = (ap (λ (s : List ℕ). number n ++ s) t.is.is ∙ ap (λ (k : ℕ). number k ++ flat_map spelling y) (sym t.is.count), (omega (arith, fits, t.is.count), t.is.each));
    }))
