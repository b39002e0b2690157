-- Words that hold a value of a set type: what is loaded of them, and what is stored.
use Rattle.std.proofs.Common.{◌≡◌, ℕ, ℤ, suc, ◌+◌, ◌<◌, List, [], ◌∷◌, length, IsTrue, Some, slice_get, refl, sym, ap, ◌∙◌, arith}
use Rattle.std.proofs.lemmas.Option.{same_Some}
use Rattle.ep_object.specs.Effects.{Continues, Fails}
use Rattle.ep_simulation.specs.Matching.{MembersAt}
use Rattle.ep_object.specs.Operands.{Operand, Set}
use Rattle.ep_object.specs.Places.{set_loaded}
use Rattle.ep_object.specs.Sets.{IsSet, set_size, words_of_set}
use Rattle.ep_object.specs.State.{undefined}
use Rattle.ep_object.proofs.public.SetWords.{words_loaded, words_many}
use Rattle.ep_values.specs.Sets.{are_between}
use Rattle.ep_values.specs.declared.run_error.TheConstants as run_error

-- lists of one length with the same elements
same_list : {A : Type 0} (xs ys : List A) → length xs ≡ length ys → ((k : ℕ) → k < length xs → slice_get xs k ≡ slice_get ys k) → xs ≡ ys
same_list [] [] many h = refl
same_list [] (y ∷ ys) many h = absurd (omega (arith, many))
same_list (x ∷ xs) [] many h = absurd (omega (arith, many))
same_list (x ∷ xs) (y ∷ ys) many h =
    let first : x ≡ y = same_Some x y (h 0 (omega arith)) in
    let rest : xs ≡ ys = same_list xs ys (omega (arith, many)) (λ k less. h (suc k) (omega (arith, less))) in
    λ i. first i ∷ rest i

-- words from the first one on
from_first : (ws : List ℤ) (k : ℕ) → slice_get ws (0 + k) ≡ slice_get ws k
from_first ws k = ap (slice_get ws) {x = 0 + k} {y = k} (omega arith)

-- the words of a set are loaded as the set
pub members_loaded : (low high : ℤ) (ms : List ℕ) (ws : List ℤ) (st : List Operand) → length ws ≡ set_size → MembersAt low high ms (slice_get ws) 0
    → set_loaded ws st ≡ Continues (Set ms ∷ st)
members_loaded low high ms ws st many h =
    ap (λ us. set_loaded us st) (same_list ws (words_of_set ms) (many ∙ sym (words_many ms)) (λ k less. sym (from_first ws k) ∙ h.told k (omega (arith, many, less)))) ∙ words_loaded ms st h.is_set

-- those of an undefined one are an error
pub undefined_loaded : (ws : List ℤ) (st : List Operand) → ((k : ℕ) → k < set_size → slice_get ws (0 + k) ≡ Some undefined) → set_loaded ws st ≡ Fails run_error.UNDEFINED_VALUE
undefined_loaded [] st h = let first = h 0 (omega arith) in cc
undefined_loaded (w ∷ ws) st h = ap (λ u. set_loaded (u ∷ ws) st) (same_Some w undefined (h 0 (omega arith)))

-- the words of a set hold it
pub words_hold : (low high : ℤ) (ms : List ℕ) → IsSet ms → IsTrue (are_between low high ms) → MembersAt low high ms (slice_get (words_of_set ms)) 0
words_hold low high ms is_set within = record { is_set = is_set; within = within; told = λ k less. from_first (words_of_set ms) k }
