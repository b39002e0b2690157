-- A row of the grammar, beside a loop that counts its turns up.
use Rattle.std.proofs.Common.{◌≡◌, ℕ, zero, suc, ◌+◌, ◌-◌, ◌<◌, ◌≤◌, true, false, List, [], ◌∷◌, ◌++◌, Ok, Err, refl, sym, ap, ◌∙◌, arith}
use Rattle.ep_token.specs.declared.token.Token.{Token}
use Rattle.ep_grammar.specs.declared.stop.Stop.{Stop}
use Rattle.ep_grammar.specs.Classes.{Class, has, class_of}
use Rattle.ep_grammar.specs.Descriptions.{Step, More, Last}
use Rattle.ep_grammar.specs.Reading.{ReadOutcome, Parser, and_then, go_on, turns, steps}

-- The outcome is that of the turns from `at` to `n`, after the items that were found.
pub record Turning {A B : Type 0} (o : ReadOutcome (List A)) (cs : List Class) (step : Parser (Step A B)) (r : B) (n at : ℕ) (found : List A) (i : List Token) : Type 0 where
  pub is : o ≡ turns cs step r (n - at) found i

pub one_more : {X : Type 0} {x : X} (f : ℕ → X) (n at : ℕ) → at < n → x ≡ f (n - at) → x ≡ f (suc (n - (at + 1)))
one_more f n at below e = let turn : n - at ≡ suc (n - (at + 1)) = omega arith in e ∙ ap f turn

pub no_more : {X : Type 0} {x : X} (f : ℕ → X) (n at : ℕ) → n ≤ at → x ≡ f (n - at) → x ≡ f 0
no_more f n at done e = let none : n - at ≡ 0 = omega arith in e ∙ ap f none

no_turn : {A B : Type 0} (cs : List Class) (step : Parser (Step A B)) (r : B) (n : ℕ) (found : List A) (i : List Token) → has cs (class_of i) ≡ false → turns cs step r n found i ≡ Ok (found, i)
unfolding steps
no_turn cs step r zero found i h = refl
no_turn cs step r (suc n) found i h = rw h refl

turn_is_made : {A B : Type 0} (cs : List Class) (step : Parser (Step A B)) (r : B) (n : ℕ) (found : List A) (i : List Token) → has cs (class_of i) ≡ true → turns cs step r (suc n) found i ≡ and_then (and_then (step i) (go_on (steps cs step r n) found)) (λ p k. Ok (p.0, k))
unfolding steps
turn_is_made cs step r n found i h = rw h refl

turn_gives : {A B : Type 0} (cs : List Class) (step : Parser (Step A B)) (r : B) (n : ℕ) (found : List A) (i : List Token) (x : A) (j : List Token) → has cs (class_of i) ≡ true → step i ≡ Ok (More x, j) → turns cs step r (suc n) found i ≡ turns cs step r n (found ++ x ∷ []) j
unfolding steps
turn_gives cs step r n found i x j h s = rw (h, s) refl

turn_ends : {A B : Type 0} (cs : List Class) (step : Parser (Step A B)) (r q : B) (n : ℕ) (found : List A) (i : List Token) (j : List Token) → has cs (class_of i) ≡ true → step i ≡ Ok (Last q, j) → turns cs step r (suc n) found i ≡ Ok (found, j)
unfolding steps
turn_ends cs step r q n found i j h s = rw (h, s) refl

-- no item follows
pub row_ends : {A B : Type 0} {o : ReadOutcome (List A)} {cs : List Class} {step : Parser (Step A B)} {r : B} {n at : ℕ} {found : List A} {i : List Token} → Turning o cs step r n at found i → has cs (class_of i) ≡ false → o ≡ Ok (found, i)
row_ends {cs = cs} {step = step} {r = r} {n = n} {at = at} {found = found} {i = i} t h = t.is ∙ no_turn cs step r (n - at) found i h

-- no turn is left
pub row_is_over : {A B : Type 0} {o : ReadOutcome (List A)} {cs : List Class} {step : Parser (Step A B)} {r : B} {n at : ℕ} {found : List A} {i : List Token} → Turning o cs step r n at found i → n ≤ at → o ≡ Ok (found, i)
unfolding steps
row_is_over {cs = cs} {step = step} {r = r} {n = n} {at = at} {found = found} {i = i} t done = no_more (λ m. turns cs step r m found i) n at done t.is

-- a turn is made
pub row_turns : {A B : Type 0} {o : ReadOutcome (List A)} {cs : List Class} {step : Parser (Step A B)} {r : B} {n at : ℕ} {found : List A} {i : List Token} → Turning o cs step r n at found i → at < n → has cs (class_of i) ≡ true → o ≡ and_then (and_then (step i) (go_on (steps cs step r (n - (at + 1))) found)) (λ p k. Ok (p.0, k))
row_turns {cs = cs} {step = step} {r = r} {n = n} {at = at} {found = found} {i = i} t below h =
    one_more (λ m. turns cs step r m found i) n at below t.is ∙ turn_is_made cs step r (n - (at + 1)) found i h

-- a turn ends the row
pub row_is_ended : {A B : Type 0} {o : ReadOutcome (List A)} {cs : List Class} {step : Parser (Step A B)} {r : B} {n at : ℕ} {found : List A} {i : List Token} {j : List Token} (q : B) → Turning o cs step r n at found i → at < n → has cs (class_of i) ≡ true → step i ≡ Ok (Last q, j) → o ≡ Ok (found, j)
row_is_ended {cs = cs} {step = step} {r = r} {n = n} {at = at} {found = found} {i = i} {j = j} q t below h s =
    one_more (λ m. turns cs step r m found i) n at below t.is ∙ turn_ends cs step r q (n - (at + 1)) found i j h s

-- a turn is refused
pub row_refused : {A B : Type 0} {o : ReadOutcome (List A)} {cs : List Class} {step : Parser (Step A B)} {r : B} {n at : ℕ} {found : List A} {i j : List Token} {e : Stop} → Turning o cs step r n at found i → at < n → has cs (class_of i) ≡ true → step i ≡ Err (e, j) → o ≡ Err (e, j)
row_refused t below h s = row_turns t below h ∙ rw s refl

-- an item is found
pub row_goes_on : {A B : Type 0} {o : ReadOutcome (List A)} {cs : List Class} {step : Parser (Step A B)} {r : B} {n at : ℕ} {found all : List A} {i j : List Token} (x : A) → Turning o cs step r n at found i → at < n → has cs (class_of i) ≡ true → step i ≡ Ok (More x, j) → all ≡ found ++ x ∷ [] → Turning o cs step r n (at + 1) all j
row_goes_on {o = o} {cs = cs} {step = step} {r = r} {n = n} {at = at} {found = found} {all = all} {i = i} {j = j} x t below h s added = record {
  is = one_more (λ m. turns cs step r m found i) n at below t.is ∙ turn_gives cs step r (n - (at + 1)) found i x j h s ∙ ap (λ w. turns cs step r (n - (at + 1)) w j) (sym added);
}
