-- The marks of a row, turn by turn.
use Rattle.std.proofs.Common.{◌≡◌, ℕ, zero, suc, ◌+◌, ◌-◌, ◌<◌, Bool, true, false, List, [], ◌∷◌, ◌++◌, length, map, Ok, refl, sym, ap, ◌∙◌}
use Rattle.ep_token.specs.declared.token.Token.{Token}
use Rattle.ep_token.specs.declared.symbol.TheConstants as symbols
use Rattle.ep_grammar.specs.Classes.{Class, has, class_of}
use Rattle.ep_grammar.specs.Descriptions.{Syntax, Step, More, Last, give, apply, row, symbol, item_after, item_or_end}
use Rattle.ep_grammar.specs.Expressions.{of_name}
use Rattle.ep_grammar.specs.Reading.{steps, read}
use Rattle.ep_grammar.specs.Rules.{inside_at}
use Rattle.ep_grammar.specs.Types.{field_section, section_step}
use Rattle.ep_marks.specs.declared.mark.Mark.{Mark}
use Rattle.ep_marks.specs.Marks.{and_marks, by_step, step_marks, marks}
use Rattle.ep_marks.specs.Productions as styles
use Rattle.ep_marks.specs.Styles.{Style, plain, part, choice, rows, ◌&◌, ◌<*◌}
use Rattle.ep_marks.specs.Texts.{inner_at}
use Rattle.ep_marker.specs.declared.marker.Marker.{Marker}
use Rattle.ep_marker.specs.Marking.{lowered, Marked}
use Rattle.ep_marker.proofs.Forms.{append-nil, added, gives, ands, skips, under, firsts, seconds}

-- ---- the steps of a row

-- these steps, of which at most so many are left, bring the marker from the one state to the other, and end with this
pub record Turns {A B : Type 0} (room : ℕ) (z : Style) (cs : List Class) (t : Syntax (Step A B)) (r : B) (depth n : ℕ) (v : B) (a b : Marker) : Type 0 where
  pub reads : (found : List A) → (all : List A) × (steps cs (read (inside_at room) t) r n found a.reader ≡ Ok ((all, v), b.reader))
  pub adds : b.marks.items ≡ a.marks.items ++ map (lowered depth) (step_marks cs (read (inside_at room) t) (marks (inside_at room) (inner_at room) z t) n a.reader)

-- a step that is an item
pub record Stepped {A B : Type 0} (room : ℕ) (z : Style) (t : Syntax (Step A B)) (depth : ℕ) (a b : Marker) : Type 0 where
  pub item : A
  pub reads : read (inside_at room) t a.reader ≡ Ok (More item, b.reader)
  pub adds : b.marks.items ≡ a.marks.items ++ map (lowered depth) (marks (inside_at room) (inner_at room) z t a.reader)

-- a step that ends the row with this
pub record Ended {A B : Type 0} (room : ℕ) (z : Style) (t : Syntax (Step A B)) (depth : ℕ) (v : B) (a b : Marker) : Type 0 where
  pub reads : read (inside_at room) t a.reader ≡ Ok (Last v, b.reader)
  pub adds : b.marks.items ≡ a.marks.items ++ map (lowered depth) (marks (inside_at room) (inner_at room) z t a.reader)

pub over : {A B : Type 0} {room : ℕ} {z : Style} {cs : List Class} {t : Syntax (Step A B)} {r : B} {depth : ℕ} {a : Marker} → Turns room z cs t r depth 0 r a a
unfolding steps
over {a = a} = record { reads = λ found. (found, refl); adds = append-nil a.marks.items }

pub none : {A B : Type 0} {room : ℕ} {z : Style} {cs : List Class} {t : Syntax (Step A B)} {r : B} {depth : ℕ} {a : Marker} (n : ℕ) → has cs (class_of a.reader) ≡ false → Turns room z cs t r depth n r a a
unfolding steps
none {a = a} zero h = record { reads = λ found. (found, refl); adds = append-nil a.marks.items }
none {a = a} (suc n) h = record { reads = λ found. (found, rw h refl); adds = rw h (append-nil a.marks.items) }

pub more : {A B : Type 0} {room : ℕ} {z : Style} {cs : List Class} {t : Syntax (Step A B)} {r v : B} {depth n : ℕ} {a b c : Marker} → has cs (class_of a.reader) ≡ true → Stepped room z t depth a b → Turns room z cs t r depth n v b c → Turns room z cs t r depth (suc n) v a c
unfolding steps
more {A} {B} {room} {z} {cs} {t} {r} {v} {depth} {n} {a} {b} {c} h s w =
    let first : List Mark = marks (inside_at room) (inner_at room) z t a.reader in
    let later : List Token → List Mark = step_marks cs (read (inside_at room) t) (marks (inside_at room) (inner_at room) z t) n in
    let all : step_marks cs (read (inside_at room) t) (marks (inside_at room) (inner_at room) z t) (suc n) a.reader ≡ first ++ later b.reader = rw h (ap (λ o. first ++ and_marks o (by_step later)) s.reads) in
    record {
      reads = λ found. (let w' = w.reads (found ++ s.item ∷ []) in (w'.0, rw (h, s.reads) w'.1));
      adds = added depth a.marks.items b.marks.items c.marks.items first (later b.reader) _ s.adds w.adds all;
    }

pub last : {A B : Type 0} {room : ℕ} {z : Style} {cs : List Class} {t : Syntax (Step A B)} {r v : B} {depth n : ℕ} {a b : Marker} → has cs (class_of a.reader) ≡ true → Ended room z t depth v a b → Turns room z cs t r depth (suc n) v a b
unfolding steps
last {A} {B} {room} {z} {cs} {t} {r} {v} {depth} {n} {a} {b} h s =
    let first : List Mark = marks (inside_at room) (inner_at room) z t a.reader in
    let later : List Token → List Mark = step_marks cs (read (inside_at room) t) (marks (inside_at room) (inner_at room) z t) n in
    let all : step_marks cs (read (inside_at room) t) (marks (inside_at room) (inner_at room) z t) (suc n) a.reader ≡ first ++ [] = rw h (ap (λ o. first ++ and_marks o (by_step later)) s.reads) in
    record {
      reads = λ found. (found, rw (h, s.reads) refl);
      adds = s.adds ∙ ap (λ l. a.marks.items ++ map (lowered depth) l) (append-nil first ∙ sym all);
    }

-- ---- how a row begins

pub row-reads : {A B : Type 0} {room : ℕ} {y z : Style} {s : Syntax (List A)} {cs : List Class} {t : Syntax (Step A B)} {r v : B} {depth : ℕ} {a b c : Marker} → (m : Marked room y s depth a b) → Turns room z cs t r depth (length b.reader) v b c → (all : List A) × (read (inside_at room) (row s cs t r) a.reader ≡ Ok ((all, v), c.reader))
row-reads m w = (let w' = w.reads m.meaning in (w'.0, rw m.reads w'.1))

pub row-adds : {A B : Type 0} {room : ℕ} {y z : Style} {s : Syntax (List A)} {cs : List Class} {t : Syntax (Step A B)} {r v : B} {depth : ℕ} {a b c : Marker} → (m : Marked room y s depth a b) → Turns room z cs t r depth (length b.reader) v b c → c.marks.items ≡ a.marks.items ++ map (lowered depth) (marks (inside_at room) (inner_at room) (rows y z) (row s cs t r) a.reader)
row-adds {A} {B} {room} {y} {z} {s} {cs} {t} {r} {v} {depth} {a} {b} {c} m w =
    let behind : List A → List Token → List Mark = λ found j. step_marks cs (read (inside_at room) t) (marks (inside_at room) (inner_at room) z t) (length j) j in
    added depth a.marks.items b.marks.items c.marks.items (marks (inside_at room) (inner_at room) y s a.reader)
    (step_marks cs (read (inside_at room) t) (marks (inside_at room) (inner_at room) z t) (length b.reader) b.reader)
    (marks (inside_at room) (inner_at room) (rows y z) (row s cs t r) a.reader) m.adds w.adds
    (ap (λ o. marks (inside_at room) (inner_at room) y s a.reader ++ and_marks o behind) m.reads)

-- the list of a row
pub row-list : {A B X : Type 0} {room : ℕ} {y z : Style} {s : Syntax (List A)} {cs : List Class} {t : Syntax (Step A B)} {r v : B} {f : List A × B → X} {depth : ℕ} {a b c : Marker} → Marked room y s depth a b → Turns room z cs t r depth (length b.reader) v b c → Marked room (part plain (rows y z)) (apply (give f) (row s cs t r)) depth a c
row-list {v = v} m w =
    let all = row-reads m w in
    ands gives (record { meaning = (all.0, v); reads = all.1; adds = row-adds m w })

-- ---- the steps of the rows of the grammar

-- an item
pub item : {A B : Type 0} {room : ℕ} {y : Style} {s : Syntax A} {depth : ℕ} {a b : Marker} → Marked room y s depth a b → Stepped {A = A} {B = B} room (part plain y) (apply (give More) s) depth a b
item {A} {B} {room} {y} {s} {depth} {a} {b} m =
    let t : Syntax (Step A B) = apply (give More) s in
    let k : Marked room (part plain y) t depth a b = ands gives m in
    record { item = m.meaning; reads = rw m.reads refl; adds = k.adds }

-- an item after a symbol
pub after : {A : Type 0} {room n : ℕ} {y : Style} {s : Syntax A} {depth : ℕ} {a b c : Marker} → Marked room plain (symbol n) depth a b → Marked room y s depth b c → Stepped room (part plain y) (item_after n s) depth a c
after {A} {room} {n} {y} {s} {depth} {a} {b} {c} m k =
    let both : Marked room (part plain y) (item_after n s) depth a c = ands (under m) k in
    record { item = k.meaning; reads = rw (m.reads, k.reads) refl; adds = both.adds }

module _ {A : Type 0} {room : ℕ} {cs : List Class} {y : Style} {s : Syntax A} {depth : ℕ} {a b : Marker} where
  -- an item after a semicolon
  pub closed-item : {c : Marker} → Marked room plain (symbol symbols.SEMICOLON) depth a b → true ≡ has cs (class_of b.reader) → Marked room y s depth b c → Stepped room (part plain (choice (part plain y) plain)) (item_or_end cs s) depth a c
  closed-item {c} m h k =
      let both : Marked room (part plain (choice (part plain y) plain)) (item_or_end cs s) depth a c = ands (under m) (firsts h (ands gives k)) in
      record { item = k.meaning; reads = rw (m.reads, sym h, k.reads) refl; adds = both.adds }

  -- a semicolon at the end
  pub closed-end : Marked room plain (symbol symbols.SEMICOLON) depth a b → false ≡ has cs (class_of b.reader) → Ended room (part plain (choice (part plain y) plain)) (item_or_end cs s) depth (tt {0}) a b
  closed-end m h =
      let both : Marked room (part plain (choice (part plain y) plain)) (item_or_end cs s) depth a b = ands (under m) (seconds h gives) in
      record { reads = rw (m.reads, sym h) refl; adds = both.adds }

-- the same for the sections of fields
module _ (r : Bool) {room depth : ℕ} {a b : Marker} where
  pub listed-item : {c : Marker} → Marked room plain (symbol symbols.SEMICOLON) depth a b → true ≡ has of_name (class_of b.reader) → Marked room (styles.field_section r) field_section depth b c → Stepped room (plain <* plain & choice (plain & styles.field_section r) plain) section_step depth a c
  listed-item {c} m h k =
      let both : Marked room (plain <* plain & choice (plain & styles.field_section r) plain) section_step depth a c = ands (skips gives m) (firsts h (ands gives k)) in
      record { item = k.meaning; reads = rw (m.reads, sym h, k.reads) refl; adds = both.adds }

  pub listed-end : Marked room plain (symbol symbols.SEMICOLON) depth a b → false ≡ has of_name (class_of b.reader) → Ended room (plain <* plain & choice (plain & styles.field_section r) plain) section_step depth true a b
  listed-end m h =
      let both : Marked room (plain <* plain & choice (plain & styles.field_section r) plain) section_step depth a b = ands (skips gives m) (seconds h gives) in
      record { reads = rw (m.reads, sym h) refl; adds = both.adds }
