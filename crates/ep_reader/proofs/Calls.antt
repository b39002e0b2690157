-- Calls of a closure that reads an item.
use Rattle.std.proofs.Common.{◌≡◌, ℕ, ◌-◌, Bool, true, false, if◌then◌else◌, List, [], ◌∷◌, ◌++◌, length, Option, None, Some, Result, Ok, Err, refl, sym, ap, ◌∙◌, arith}
use Rattle.std.specs.Borrow.{MutBor}
use Rattle.std.specs.Fn.{Shared}
use Rattle.ep_token.specs.declared.symbol.TheConstants as symbols
use Rattle.ep_token.specs.declared.token.Token.{Token}
use Rattle.ep_grammar.specs.declared.stop.Stop.{Stop}
use Rattle.ep_grammar.specs.Classes.{Class, Symbol, exactly, same, has, class_of}
use Rattle.ep_grammar.specs.Descriptions.{Step, More, Last}
use Rattle.ep_grammar.specs.Reading.{ReadOutcome, Parser, Reads, and_then, read_token, steps, turns}
use Rattle.ep_reader.specs.Rows.{ReadsBy, optional_by, item_by, item_after_by, item_or_end_by, row_by}
use Rattle.ep_reader.proofs.public.Outcomes.{one_class}
use Rattle.ep_reader.proofs.public.Turning.{Turning}

-- what one call answers
pub called_reads : {F T : Type 0} {g : Shared F (MutBor (List Token) × Unit {0}) (Result T Stop × (MutBor (List Token) × Unit {0}))} {p : Parser T} {f : F} {y z : MutBor (List Token)} {r : Result T Stop} → ReadsBy g f p → g.post f (y, tt) (r, (z, tt)) → Reads (p y.now) r z.now
called_reads h e = h _ _ _ (record { shown = _; shows = refl; left = _; met = e; leaves = refl })

-- ---- an item where one begins

some_there : {A : Type 0} (b : Bool) (o : ReadOutcome A) (i j : List Token) (x : A) → (if b then and_then o (λ x k. Ok (Some x, k)) else Ok (None, i)) ≡ Ok (Some x, j) → (b ≡ true) × (o ≡ Ok (x, j))
some_there {A} true (Ok p) i j x h =
    let q : (Some p.0, p.1) ≡ (Some x, j) = cc in
    let one : Some p.0 ≡ Some x = ap (λ (w : Option A × List Token). w.0) q in
    let y : p.0 ≡ x = cc in
    let z : p.1 ≡ j = ap (λ (w : Option A × List Token). w.1) q in
    (refl, ap (λ w. Ok (w, p.1)) y ∙ ap (λ w. Ok (x, w)) z)
some_there true (Err e) i j x h = absurd (cc)
some_there {A} false o i j x h =
    let none : Option A = None in
    let q : (none, i) ≡ (Some x, j) = cc in
    let never : none ≡ Some x = ap (λ (w : Option A × List Token). w.0) q in
    absurd (cc)

none_there : {A : Type 0} (b : Bool) (o : ReadOutcome A) (i j : List Token) → (if b then and_then o (λ x k. Ok (Some x, k)) else Ok (None, i)) ≡ Ok (None, j) → (b ≡ false) × (i ≡ j)
none_there {A} true (Ok p) i j h =
    let none : Option A = None in
    let q : (Some p.0, p.1) ≡ (none, j) = cc in
    let never : Some p.0 ≡ none = ap (λ (w : Option A × List Token). w.0) q in
    absurd (cc)
none_there true (Err e) i j h = absurd (cc)
none_there {A} false o i j h =
    let none : Option A = None in
    let q : (none, i) ≡ (none, j) = cc in
    (refl, ap (λ (w : Option A × List Token). w.1) q)

refused_there : {A : Type 0} (b : Bool) (o : ReadOutcome A) (i j : List Token) (e : Stop) → (if b then and_then o (λ x k. Ok (Some x, k)) else Ok (None, i)) ≡ Err (e, j) → (b ≡ true) × (o ≡ Err (e, j))
refused_there true (Ok p) i j e h = absurd (cc)
refused_there {A} true (Err d) i j e h = let q : d ≡ (e, j) = cc in (refl, ap (λ w. (let o : ReadOutcome A = Err w in o)) q)
refused_there false o i j e h = absurd (cc)

module _ {A : Type 0} (cs : List Class) (p : Parser A) (i : List Token) {j : List Token} where
  pub item_there : {x : A} → optional_by cs p i ≡ Ok (Some x, j) → (has cs (class_of i) ≡ true) × (p i ≡ Ok (x, j))
  item_there {x} h = some_there (has cs (class_of i)) (p i) i j x h

  pub item_not_there : optional_by cs p i ≡ Ok (None, j) → (has cs (class_of i) ≡ false) × (i ≡ j)
  item_not_there h = none_there (has cs (class_of i)) (p i) i j h

  pub item_refused : {e : Stop} → optional_by cs p i ≡ Err (e, j) → (has cs (class_of i) ≡ true) × (p i ≡ Err (e, j))
  item_refused {e} h = refused_there (has cs (class_of i)) (p i) i j e h

-- ---- how a row begins

all_left : (last n : ℕ) → last ≡ n → n ≡ last - 0
all_left last n h = omega arith

pub row_begins : {A B : Type 0} {cs : List Class} {step : Parser (Step A B)} {r : B} {last : ℕ} {found : List A} (i : List Token) → last ≡ length i → Turning (turns cs step r (length i) found i) cs step r last 0 found i
row_begins {A} {B} {cs} {step} {r} {last} {found} i l = record { is = ap (λ n. turns cs step r n found i) (all_left last (length i) l) }

-- the row of which the first item was read
pub first_found : {A : Type 0} (cs : List Class) (step : Parser (Step A (Unit {0}))) (p : Parser A) (i : List Token) {j : List Token} {x : A} {last : ℕ} {none found : List A} → p i ≡ Ok (x, j) → none ≡ [] → found ≡ none ++ x ∷ [] → last ≡ length j → Turning (row_by p cs step i) cs step (tt {0}) last 0 found j
first_found {A} cs step p i {j} {x} {last} {none} {found} h f g l =
    let grown : x ∷ [] ≡ found = sym (g ∙ ap (λ w. w ++ x ∷ []) f) in
    record {
      is = ap (λ (w : ReadOutcome A). and_then (and_then (and_then w (λ x k. Ok (x ∷ [], k))) (λ found j. steps cs step (tt {0}) (length j) found j)) (λ w k. Ok (w.0, k))) h
          ∙ ap (λ m. turns cs step (tt {0}) m (x ∷ []) j) (all_left last (length j) l)
          ∙ ap (λ w. turns cs step (tt {0}) (last - 0) w j) grown;
    }

-- the row of which the first item was refused
pub first_refused : {A : Type 0} (cs : List Class) (step : Parser (Step A (Unit {0}))) (p : Parser A) (i : List Token) {j : List Token} {e : Stop} → p i ≡ Err (e, j) → row_by p cs step i ≡ Err (e, j)
first_refused cs step p i h = rw h refl

-- ---- what one step answers

-- the class of the next token is this one, or is not
pub at_symbol : (n : ℕ) (i : List Token) {v : Bool} → v ≡ same (class_of i) (Symbol n) → has (Symbol n ∷ []) (class_of i) ≡ v
at_symbol n i {v} h = one_class (same (class_of i) (Symbol n)) v h

module _ {A : Type 0} (p : Parser A) (i : List Token) {j : List Token} where
  pub step_ok : {x : A} → p i ≡ Ok (x, j) → item_by p i ≡ Ok (More x, j)
  step_ok h = rw h refl

  pub step_err : {e : Stop} → p i ≡ Err (e, j) → item_by p i ≡ Err (e, j)
  step_err h = rw h refl

module _ {A : Type 0} (n : ℕ) (p : Parser A) (i : List Token) {j k : List Token} {u : Unit {0}} (a : read_token (exactly (Symbol n)) i ≡ Ok (u, j)) where
  pub after_ok : {x : A} → p j ≡ Ok (x, k) → item_after_by n p i ≡ Ok (More x, k)
  after_ok h = rw (a, h) refl

  pub after_err : {e : Stop} → p j ≡ Err (e, k) → item_after_by n p i ≡ Err (e, k)
  after_err h = rw (a, h) refl

module _ {A : Type 0} (cs : List Class) (p : Parser A) (i : List Token) {j k : List Token} {u : Unit {0}} (a : read_token (exactly (Symbol symbols.SEMICOLON)) i ≡ Ok (u, j)) where
  pub closed_ok : {x : A} → optional_by cs p j ≡ Ok (Some x, k) → item_or_end_by cs p i ≡ Ok (More x, k)
  closed_ok h = let there = item_there cs p j h in rw (a, there.0, there.1) refl

  pub closed_err : {e : Stop} → optional_by cs p j ≡ Err (e, k) → item_or_end_by cs p i ≡ Err (e, k)
  closed_err h = let there = item_refused cs p j h in rw (a, there.0, there.1) refl

  pub closed_end : optional_by cs p j ≡ Ok (None, k) → item_or_end_by cs p i ≡ Ok (Last (tt {0}), k)
  closed_end h = let there = item_not_there cs p j h in rw (a, there.0, there.1) refl
