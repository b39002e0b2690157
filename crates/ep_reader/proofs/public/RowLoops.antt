-- Rows of items that a loop reads, of which each turn takes one.
use Rattle.std.proofs.Common.{◌≡◌, ◌≢◌, ℕ, suc, ◌+◌, ◌-◌, ◌<◌, ◌≤◌, true, false, List, [], ◌∷◌, ◌++◌, length, Option, Ok, Err, refl, sym, ap, ◌∙◌, arith}
use Rattle.ep_token.specs.declared.symbol.TheConstants as symbols
use Rattle.ep_token.specs.declared.token.Token.{Token}
use Rattle.ep_grammar.specs.declared.stop.Stop.{Stop}
use Rattle.ep_grammar.specs.declared.stop.Stop.TheVariants.{NoMemory}
use Rattle.ep_grammar.specs.Classes.{Class, Symbol, exactly, same, has, class_of}
use Rattle.ep_grammar.specs.Descriptions.{Step, More, Last, Syntax, give, either, apply, row, symbol, single}
use Rattle.ep_grammar.specs.Reading.{ReadOutcome, Parser, Inside, and_then, applied, steps, read, read_token}
use Rattle.ep_reader.proofs.public.Outcomes.{chosen, one_class, passed}

-- The outcome is that of the turns from this one to the last, after the items that were found.
pub record Turns {A B C : Type 0} (o : ReadOutcome C) (node : List A × B → C) (e : Option Inside) (cs : List Class) (s : Syntax (Step A B)) (r : B) (last turn : ℕ) (found : List A) (i : List Token) : Type 0 where
  pub same : o ≡ applied node (steps cs (read e s) r (last - turn) found i)

-- ---- one turn

steps_more : {A B : Type 0} (cs : List Class) (step : Parser (Step A B)) (r : B) (n : ℕ) (found : List A) (i j : List Token) (x : A) → has cs (class_of i) ≡ true → step i ≡ Ok (More x, j) → steps cs step r (suc n) found i ≡ steps cs step r n (found ++ x ∷ []) j
unfolding steps
steps_more cs step r n found i j x h q = rw (h, q) refl

steps_last : {A B : Type 0} (cs : List Class) (step : Parser (Step A B)) (r b : B) (n : ℕ) (found : List A) (i j : List Token) → has cs (class_of i) ≡ true → step i ≡ Ok (Last b, j) → steps cs step r (suc n) found i ≡ Ok ((found, b), j)
unfolding steps
steps_last cs step r b n found i j h q = rw (h, q) refl

steps_refused : {A B : Type 0} (cs : List Class) (step : Parser (Step A B)) (r : B) (n : ℕ) (found : List A) (i j : List Token) (c : Stop) → has cs (class_of i) ≡ true → step i ≡ Err (c, j) → steps cs step r (suc n) found i ≡ Err (c, j)
unfolding steps
steps_refused cs step r n found i j c h q = rw (h, q) refl

steps_none : {A B : Type 0} (cs : List Class) (step : Parser (Step A B)) (r : B) (n : ℕ) (found : List A) (i : List Token) → has cs (class_of i) ≡ false → steps cs step r (suc n) found i ≡ Ok ((found, r), i)
unfolding steps
steps_none cs step r n found i h = rw h refl

steps_over : {A B : Type 0} (cs : List Class) (step : Parser (Step A B)) (r : B) (found : List A) (i : List Token) → steps cs step r 0 found i ≡ Ok ((found, r), i)
unfolding steps
steps_over cs step r found i = refl

-- ---- the turns of a loop

this_turn : (last turn : ℕ) → turn < last → last - turn ≡ suc (last - (turn + 1))
this_turn last turn h = omega arith

no_turn : (last turn : ℕ) → last ≤ turn → last - turn ≡ 0
no_turn last turn h = omega arith

module _ {A B C : Type 0} {o : ReadOutcome C} {node : List A × B → C} {e : Option Inside} {cs : List Class} {s : Syntax (Step A B)} {r : B} {last turn : ℕ} {found : List A} {i : List Token} (t : Turns o node e cs s r last turn found i) where
  at_turn : turn < last → o ≡ applied node (steps cs (read e s) r (suc (last - (turn + 1))) found i)
  at_turn h = t.same ∙ ap (λ n. applied node (steps cs (read e s) r n found i)) (this_turn last turn h)

  pub turn_more : {x : A} {j : List Token} {grown : List A} → turn < last → has cs (class_of i) ≡ true → read e s i ≡ Ok (More x, j) → grown ≡ found ++ x ∷ [] → Turns o node e cs s r last (turn + 1) grown j
  turn_more {x} {j} {grown} h c q g =
      let same = at_turn h ∙ ap (applied node) (steps_more cs (read e s) r (last - (turn + 1)) found i j x c q) in
      record { same = same ∙ ap (λ w. applied node (steps cs (read e s) r (last - (turn + 1)) w j)) (sym g) }

  pub turn_last : {b : B} {j : List Token} → turn < last → has cs (class_of i) ≡ true → read e s i ≡ Ok (Last b, j) → o ≡ Ok (node (found, b), j)
  turn_last {b} {j} h c q = at_turn h ∙ ap (applied node) (steps_last cs (read e s) r b (last - (turn + 1)) found i j c q)

  pub turn_refused : {c : Stop} {j : List Token} → turn < last → has cs (class_of i) ≡ true → read e s i ≡ Err (c, j) → o ≡ Err (c, j)
  turn_refused {c} {j} h b q = at_turn h ∙ ap (applied node) (steps_refused cs (read e s) r (last - (turn + 1)) found i j c b q)

  pub turn_none : turn < last → has cs (class_of i) ≡ false → o ≡ Ok (node (found, r), i)
  turn_none h c = at_turn h ∙ ap (applied node) (steps_none cs (read e s) r (last - (turn + 1)) found i c)

  pub turns_over : last ≤ turn → o ≡ Ok (node (found, r), i)
  turns_over h = t.same ∙ ap (λ n. applied node (steps cs (read e s) r n found i)) (no_turn last turn h) ∙ ap (applied node) (steps_over cs (read e s) r found i)

-- ---- how a row begins

all_left : (last n : ℕ) → last ≡ n → n ≡ last - 0
all_left last n h = omega arith

begun : {A B C : Type 0} (node : List A × B → C) (cs : List Class) (step : Parser (Step A B)) (r : B) (last : ℕ) (given found : List A) (j : List Token) → last ≡ length j → given ≡ found → applied node (steps cs step r (length j) given j) ≡ applied node (steps cs step r (last - 0) found j)
begun node cs step r last given found j l g =
    ap (λ n. applied node (steps cs step r n given j)) (all_left last (length j) l) ∙ ap (λ w. applied node (steps cs step r (last - 0) w j)) g

first_found : {A : Type 0} {none found : List A} {x : A} → none ≡ [] → found ≡ none ++ x ∷ [] → x ∷ [] ≡ found
first_found {A} {none} {found} {x} f g = sym (g ∙ ap (λ w. w ++ x ∷ []) f)

same_outcome : {A : Type 0} (o : ReadOutcome A) → o ≡ applied (λ x. x) o
same_outcome (Ok p) = refl
same_outcome (Err p) = refl

-- the row of which the first item was read
module _ {A B C : Type 0} (node : List A × B → C) (e : Option Inside) (cs : List Class) (s : Syntax A) (step : Syntax (Step A B)) (r : B) (i : List Token) {j : List Token} {x : A} {last : ℕ} {none found : List A} (h : read e s i ≡ Ok (x, j)) (f : none ≡ []) (g : found ≡ none ++ x ∷ []) (l : last ≡ length j) where
  row_begun : applied node (read e (row (apply (give single) s) cs step r) i) ≡ applied node (steps cs (read e step) r (last - 0) found j)
  row_begun =
      ap (λ (w : ReadOutcome A). applied node (and_then (and_then w (λ x k. Ok (single x, k))) (λ found j. steps cs (read e step) r (length j) found j))) h ∙ begun node cs (read e step) r last (x ∷ []) found j l (first_found f g)

-- ---- what one step answers

meant_ok : {A X : Type 0} (e : Option Inside) (f : A → X) (s : Syntax A) (i : List Token) {j : List Token} {x : A} → read e s i ≡ Ok (x, j) → read e (apply (give f) s) i ≡ Ok (f x, j)
meant_ok e f s i h = ap (λ w. and_then w (λ x k. Ok (f x, k))) h

meant_err : {A X : Type 0} (e : Option Inside) (f : A → X) (s : Syntax A) (i : List Token) {j : List Token} {c : Stop} → read e s i ≡ Err (c, j) → read e (apply (give f) s) i ≡ Err (c, j)
meant_err e f s i h = ap (λ w. and_then w (λ x k. Ok (f x, k))) h

-- a step after a symbol that was read
after_symbol : {A X : Type 0} (e : Option Inside) (n : ℕ) (f : A → X) (s : Syntax A) (i : List Token) {j : List Token} {u : Unit {0}} → read_token (exactly (Symbol n)) i ≡ Ok (u, j) → read e (apply (apply (give (λ u x. f x)) (symbol n)) s) i ≡ and_then (read e s j) (λ x k. Ok (f x, k))
after_symbol {A} {X} e n f s i a = ap (λ w. and_then (and_then w (λ u k. Ok (f, k))) (λ (h : A → X) j. and_then (read e s j) (λ x k. Ok (h x, k)))) a

after_ok : {A X : Type 0} (e : Option Inside) (n : ℕ) (f : A → X) (s : Syntax A) (i : List Token) {j k : List Token} {u : Unit {0}} {x : A} → read_token (exactly (Symbol n)) i ≡ Ok (u, j) → read e s j ≡ Ok (x, k) → read e (apply (apply (give (λ u x. f x)) (symbol n)) s) i ≡ Ok (f x, k)
after_ok e n f s i a h = after_symbol e n f s i a ∙ ap (λ w. and_then w (λ x k. Ok (f x, k))) h

after_err : {A X : Type 0} (e : Option Inside) (n : ℕ) (f : A → X) (s : Syntax A) (i : List Token) {j k : List Token} {u : Unit {0}} {c : Stop} → read_token (exactly (Symbol n)) i ≡ Ok (u, j) → read e s j ≡ Err (c, k) → read e (apply (apply (give (λ u x. f x)) (symbol n)) s) i ≡ Err (c, k)
after_err e n f s i a h = after_symbol e n f s i a ∙ ap (λ w. and_then w (λ x k. Ok (f x, k))) h

-- a step that is an item after a semicolon, or a semicolon at the end, which means this
abbrev pub or_end : {A B : Type 0} → List Class → Syntax A → B → Syntax (Step A B)
or_end cs s b = apply (apply (give (λ u x. x)) (symbol symbols.SEMICOLON)) (either cs (apply (give More) s) (give (Last b)))

module _ {A B : Type 0} (e : Option Inside) (cs : List Class) (s : Syntax A) (b : B) (i : List Token) {j : List Token} {u : Unit {0}} (a : read_token (exactly (Symbol symbols.SEMICOLON)) i ≡ Ok (u, j)) where
  end_ok : {k : List Token} {x : A} → true ≡ has cs (class_of j) → read e s j ≡ Ok (x, k) → read e (or_end cs s b) i ≡ Ok (More x, k)
  end_ok h q = after_ok e symbols.SEMICOLON (λ x. x) (either cs (apply (give More) s) (give (Last b))) i a (chosen (read e (apply (give More) s) j) (Ok (Last b, j)) (sym h) ∙ meant_ok e More s j q)

  end_err : {k : List Token} {c : Stop} → true ≡ has cs (class_of j) → read e s j ≡ Err (c, k) → read e (or_end cs s b) i ≡ Err (c, k)
  end_err h q = after_err e symbols.SEMICOLON (λ x. x) (either cs (apply (give More) s) (give (Last b))) i a (chosen (read e (apply (give More) s) j) (Ok (Last b, j)) (sym h) ∙ meant_err e More s j q)

  end_last : false ≡ has cs (class_of j) → read e (or_end cs s b) i ≡ Ok (Last b, j)
  end_last h = after_ok e symbols.SEMICOLON (λ x. x) (either cs (apply (give More) s) (give (Last b))) i a (passed (read e (apply (give More) s) j) (Ok (Last b, j)) (sym h))

-- no symbol follows
pub after_none : {A B C : Type 0} {o : ReadOutcome C} {node : List A × B → C} {e : Option Inside} {n : ℕ} {s : Syntax (Step A B)} {r : B} {last turn : ℕ} {found : List A} {i : List Token} → Turns o node e (Symbol n ∷ []) s r last turn found i → turn < last → false ≡ same (class_of i) (Symbol n) → o ≡ Ok (node (found, r), i)
after_none {A} {B} {C} {o} {node} {e} {n} {s} {r} {last} {turn} {found} {i} t h b = turn_none t h (one_class (same (class_of i) (Symbol n)) false b)

-- ---- items with a semicolon between them and perhaps at the end

-- the row, and what its end means
pub ended_begun : {A B : Type 0} {e : Option Inside} {cs : List Class} (s : Syntax A) {step : Syntax (Step A B)} {r : B} (i : List Token) {j : List Token} {x : A} {last : ℕ} {none found : List A} → read e s i ≡ Ok (x, j) → none ≡ [] → found ≡ none ++ x ∷ [] → last ≡ length j → Turns (read e (row (apply (give single) s) cs step r) i) (λ p. p) e cs step r last 0 found j
ended_begun {A} {B} {e} {cs} s {step} {r} i h f g l =
    record { same = same_outcome (read e (row (apply (give single) s) cs step r) i) ∙ row_begun (λ p. p) e cs s step r i h f g l }

module _ {A B C : Type 0} {o : ReadOutcome C} {node : List A × B → C} {e : Option Inside} {cs : List Class} {s : Syntax A} {b r : B} {last turn : ℕ} {found : List A} {i : List Token} (t : Turns o node e (Symbol symbols.SEMICOLON ∷ []) (or_end cs s b) r last turn found i) where
  pub end_more : {u : Unit {0}} {x : A} {j k : List Token} {grown : List A} → turn < last → true ≡ same (class_of i) (Symbol symbols.SEMICOLON) → read_token (exactly (Symbol symbols.SEMICOLON)) i ≡ Ok (u, j) → true ≡ has cs (class_of j) → read e s j ≡ Ok (x, k) → grown ≡ found ++ x ∷ [] → Turns o node e (Symbol symbols.SEMICOLON ∷ []) (or_end cs s b) r last (turn + 1) grown k
  end_more h m a c q g = turn_more t h (one_class (same (class_of i) (Symbol symbols.SEMICOLON)) true m) (end_ok e cs s b i a c q) g

  pub end_refused : {u : Unit {0}} {c : Stop} {j k : List Token} → turn < last → true ≡ same (class_of i) (Symbol symbols.SEMICOLON) → read_token (exactly (Symbol symbols.SEMICOLON)) i ≡ Ok (u, j) → true ≡ has cs (class_of j) → (c ≢ NoMemory → read e s j ≡ Err (c, k)) → c ≢ NoMemory → o ≡ Err (c, k)
  end_refused h m a d q y = turn_refused t h (one_class (same (class_of i) (Symbol symbols.SEMICOLON)) true m) (end_err e cs s b i a d (q y))

  pub end_reached : {u : Unit {0}} {j : List Token} → turn < last → true ≡ same (class_of i) (Symbol symbols.SEMICOLON) → read_token (exactly (Symbol symbols.SEMICOLON)) i ≡ Ok (u, j) → false ≡ has cs (class_of j) → o ≡ Ok (node (found, b), j)
  end_reached h m a d = turn_last t h (one_class (same (class_of i) (Symbol symbols.SEMICOLON)) true m) (end_last e cs s b i a d)
