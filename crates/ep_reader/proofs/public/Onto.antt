-- Items of a row that are added to others.
use Rattle.std.proofs.Common.{◌≡◌, ℕ, zero, suc, Bool, true, false, if◌then◌else◌, List, [], ◌∷◌, ◌++◌, length, Result, Ok, Err, refl, sym, ap, ◌∙◌, append_assoc}
use Rattle.std.proofs.lemmas.List.{append-nil}
use Rattle.ep_token.specs.declared.token.Token.{Token}
use Rattle.ep_grammar.specs.declared.stop.Stop.{Stop}
use Rattle.ep_grammar.specs.Classes.{Class, has, class_of}
use Rattle.ep_grammar.specs.Descriptions.{Step, More, Last}
use Rattle.ep_grammar.specs.Reading.{ReadOutcome, Parser, Reads, ReadsOnto, and_then, applied, go_on, steps}
use Rattle.ep_reader.specs.Rows.{from_found}
use Rattle.ep_reader.proofs.public.Outcomes.{applied_err, applied_ok}

-- what was found, after these
abbrev behind : {A B : Type 0} → List A → List A × B → List A × B
behind before w = (before ++ w.0, w.1)

module _ {A B : Type 0} (cs : List Class) (step : Parser (Step A B)) (r : B) (n : ℕ) (before : List A) (ih : (found : List A) (j : List Token) → steps cs step r n (before ++ found) j ≡ applied (behind before) (steps cs step r n found j)) (found : List A) (i : List Token) where
  turn_onto : (b : Bool) (o : ReadOutcome (Step A B)) → (if b then and_then o (go_on (steps cs step r n) (before ++ found)) else Ok ((before ++ found, r), i)) ≡ applied (behind before) (if b then and_then o (go_on (steps cs step r n) found) else Ok ((found, r), i))
  turn_onto false o = refl
  turn_onto true (Err e) = refl
  turn_onto true (Ok (More x, j)) = ap (λ w. steps cs step r n w j) (append_assoc before found (x ∷ [])) ∙ ih (found ++ x ∷ []) j
  turn_onto true (Ok (Last q, j)) = refl

steps_onto : {A B : Type 0} (cs : List Class) (step : Parser (Step A B)) (r : B) (n : ℕ) (before found : List A) (i : List Token) → steps cs step r n (before ++ found) i ≡ applied (behind before) (steps cs step r n found i)
unfolding steps
steps_onto cs step r zero before found i = refl
steps_onto cs step r (suc n) before found i = turn_onto cs step r n before (λ f j. steps_onto cs step r n before f j) found i (has cs (class_of i)) (step i)

lists_onto : {A B : Type 0} (before : List A) (o : ReadOutcome (List A × B)) → and_then (applied (behind before) o) (λ w k. Ok (w.0, k)) ≡ applied (λ w. before ++ w) (and_then o (λ w k. Ok (w.0, k)))
lists_onto before (Ok p) = refl
lists_onto before (Err e) = refl

found_onto : {A B : Type 0} (cs : List Class) (step : Parser (Step A B)) (r : B) (before : List A) (i : List Token) → from_found cs step r before i ≡ applied (λ w. before ++ w) (from_found cs step r [] i)
found_onto cs step r before i =
    ap (λ w. from_found cs step r w i) (sym (append-nil before))
    ∙ ap (λ o. and_then o (λ w k. Ok (w.0, k))) (steps_onto cs step r (length i) before [] i)
    ∙ lists_onto before (steps cs step r (length i) [] i)

-- the items that a row adds to those before it
pub onto : {A B : Type 0} (cs : List Class) (step : Parser (Step A B)) (q : B) (before : List A) (i : List Token) (r : Result (List A) Stop) (new : List Token) → Reads (from_found cs step q before i) r new → ReadsOnto before (from_found cs step q [] i) r new
onto cs step q before i (Ok all) new h = applied_ok (λ w. before ++ w) (from_found cs step q [] i) all new (sym (found_onto cs step q before i) ∙ h)
onto cs step q before i (Err e) new h = λ n. applied_err (λ w. before ++ w) (from_found cs step q [] i) e new (sym (found_onto cs step q before i) ∙ h n)
