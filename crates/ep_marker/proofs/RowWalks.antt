-- The walk over a row, beside a loop that counts its turns up.
use Rattle.std.proofs.Common.{◌≡◌, ◌≢◌, ℕ, suc, ◌+◌, ◌-◌, ◌<◌, ◌≤◌, Bool, true, false, inl, inr, List, [], ◌∷◌, ◌++◌, length, Some, None, Ok, sym, subst, arith}
use Rattle.ep_token.specs.declared.symbol.TheConstants as symbols
use Rattle.ep_grammar.specs.declared.stop.Stop.{Stop}
use Rattle.ep_grammar.specs.declared.stop.Stop.TheVariants as cause
use Rattle.ep_grammar.specs.Classes.{Class, Symbol, has, class_of}
use Rattle.ep_grammar.specs.Descriptions.{Syntax, Step, More, give, apply, row, symbol, item_after, item_or_end, single}
use Rattle.ep_grammar.specs.Expressions.{of_name}
use Rattle.ep_grammar.specs.Reading.{go_on, steps, read}
use Rattle.ep_grammar.specs.Rules.{inside_at}
use Rattle.ep_grammar.specs.Types.{field_section, section_step, sections}
use Rattle.ep_marks.specs.Productions as styles
use Rattle.ep_marks.specs.Styles.{Style, plain, part, choice, rows, ◌&◌, ◌<*◌}
use Rattle.ep_marker.specs.declared.marker.Marker.{Marker}
use Rattle.ep_marker.specs.Marking.{IsRefused, Marked, SectionsWalked, Walked}
use Rattle.ep_marker.proofs.Rows as rows_of
use Rattle.ep_marker.proofs.Rows.{Ended, Stepped, Turns}
use Rattle.ep_marker.proofs.Walks.{ands, firsts, gives, going, no-stop, refused-then, same-cause, seconds, skips, under, went-on}

-- ---- the turns of a row

-- a walk over the steps of a row, of which at most so many are left, and which end with this
pub record Turned {A B : Type 0} (room : ℕ) (z : Style) (cs : List Class) (t : Syntax (Step A B)) (r : B) (depth n : ℕ) (v : B) (a b : Marker) : Type 0 where
  pub stays : (e : Stop) → a.stop ≡ Some e → b.stop ≡ Some e
  pub stops : (e : Stop) → a.stop ≡ None → b.stop ≡ Some e → e ≢ cause.NoMemory → (found : List A) → IsRefused (steps cs (read (inside_at room) t) r n found a.reader)
  pub turns : a.stop ≡ None → b.stop ≡ None → Turns room z cs t r depth n v a b

-- a walk over a step that is an item
pub record Taken {A B : Type 0} (room : ℕ) (z : Style) (t : Syntax (Step A B)) (depth : ℕ) (a b : Marker) : Type 0 where
  pub walked : Walked room z t depth a b
  pub stepped : a.stop ≡ None → b.stop ≡ None → Stepped room z t depth a b

-- a walk over a step that ends the row with this
pub record Closed {A B : Type 0} (room : ℕ) (z : Style) (t : Syntax (Step A B)) (depth : ℕ) (v : B) (a b : Marker) : Type 0 where
  pub walked : Walked room z t depth a b
  pub ended : a.stop ≡ None → b.stop ≡ None → Ended room z t depth v a b

rests : {A B : Type 0} {room : ℕ} {z : Style} {cs : List Class} {t : Syntax (Step A B)} {r v : B} {depth n : ℕ} {a : Marker} → Turns room z cs t r depth n v a a → Turned room z cs t r depth n v a a
rests w = record {
  stays = λ e h. h;
  stops = λ e h k ne found. absurd (no-stop h k);
  turns = λ h k. w;
}

more : {A B : Type 0} {room : ℕ} {z : Style} {cs : List Class} {t : Syntax (Step A B)} {r v : B} {depth n : ℕ} {a b c : Marker} → has cs (class_of a.reader) ≡ true → Taken room z t depth a b → Turned room z cs t r depth n v b c → Turned room z cs t r depth (suc n) v a c
unfolding steps
more {A} {B} {room} {z} {cs} {t} {r} {v} {depth} {n} {a} {b} {c} h s w = record {
  stays = λ e p. w.stays e (s.walked.stays e p);
  stops = λ e p q ne found.
      elim (going b.stop) [
        | inl g ↦ (let one = s.stepped p g in rw (h, one.reads) (w.stops e g q ne (found ++ one.item ∷ [])))
        | inr d ↦
            rw h (refused-then (read (inside_at room) t a.reader) (go_on (steps cs (read (inside_at room) t) r n) found)
            (s.walked.stops d.0 p d.1 (same-cause (w.stays d.0 d.1) q ne)))
      ];
  turns = λ p q. (let g = went-on w.stays q in rows_of.more h (s.stepped p g) (w.turns g q));
}

last : {A B : Type 0} {room : ℕ} {z : Style} {cs : List Class} {t : Syntax (Step A B)} {r v : B} {depth n : ℕ} {a b : Marker} → has cs (class_of a.reader) ≡ true → Closed room z t depth v a b → Turned room z cs t r depth (suc n) v a b
unfolding steps
last {A} {B} {room} {z} {cs} {t} {r} {v} {depth} {n} {a} {b} h s = record {
  stays = s.walked.stays;
  stops = λ e p q ne found.
      rw h (refused-then (read (inside_at room) t a.reader) (go_on (steps cs (read (inside_at room) t) r n) found) (s.walked.stops e p q ne));
  turns = λ p q. rows_of.last h (s.ended p q);
}

-- ---- a loop

-- what is to be shown of the end follows from the steps that are left
pub record InRow {A B : Type 0} (P : B → Marker → Type 0) (room : ℕ) (z : Style) (cs : List Class) (t : Syntax (Step A B)) (r : B) (depth n : ℕ) (a : Marker) : Type 0 where
  pub ends : (v : B) (b : Marker) → Turned room z cs t r depth n v a b → P v b

this-turn : (last turn : ℕ) → turn < last → last - turn ≡ suc (last - (turn + 1))
this-turn last turn h = omega arith

no-turn : (last turn : ℕ) → last ≤ turn → last - turn ≡ 0
no-turn last turn h = omega arith

all-turns : (last n : ℕ) → last ≡ n → last - 0 ≡ n
all-turns last n h = omega arith

pub has-none : {A B : Type 0} {P : B → Marker → Type 0} {room : ℕ} {z : Style} {cs : List Class} {t : Syntax (Step A B)} {r : B} {depth n : ℕ} {a : Marker} → InRow P room z cs t r depth n a → false ≡ has cs (class_of a.reader) → P r a
has-none {r = r} {n = n} {a = a} w h = w.ends r a (rests (rows_of.none n (sym h)))

module _ {A B : Type 0} {P : B → Marker → Type 0} {room : ℕ} {z : Style} {cs : List Class} {t : Syntax (Step A B)} {r : B} {depth end turn : ℕ} {a : Marker} (w : InRow P room z cs t r depth (end - turn) a) where
  pub goes-on : {b : Marker} → turn < end → true ≡ has cs (class_of a.reader) → Taken room z t depth a b → InRow P room z cs t r depth (end - (turn + 1)) b
  goes-on {b} below h s = record {
    ends = λ v c rest. w.ends v c (subst (λ n. Turned room z cs t r depth n v a c) (sym (this-turn end turn below)) (more (sym h) s rest));
  }

  pub is-ended : {v : B} {b : Marker} → turn < end → true ≡ has cs (class_of a.reader) → Closed room z t depth v a b → P v b
  is-ended {v} {b} below h s = w.ends v b (subst (λ n. Turned room z cs t r depth n v a b) (sym (this-turn end turn below)) (last (sym h) s))

  pub is-over : end ≤ turn → P r a
  is-over done = w.ends r a (subst (λ n. Turned room z cs t r depth n r a a) (sym (no-turn end turn done)) (rests rows_of.over))

-- ---- how a row begins

row-refused : {A B : Type 0} {room : ℕ} {y : Style} {s : Syntax (List A)} (cs : List Class) (t : Syntax (Step A B)) (r : B) {depth : ℕ} {a b : Marker} → (m : Marked room y s depth a b) → IsRefused (steps cs (read (inside_at room) t) r (length b.reader) m.meaning b.reader) → IsRefused (read (inside_at room) (row s cs t r) a.reader)
row-refused cs t r m h = rw m.reads h

-- a row of which the first items were read is refused, if its steps are
row-stops : {A B : Type 0} {room : ℕ} {y z : Style} {s : Syntax (List A)} {cs : List Class} {t : Syntax (Step A B)} {r v : B} {depth : ℕ} {a b c : Marker} → Walked room y s depth a b → Turned room z cs t r depth (length b.reader) v b c → (e : Stop) → a.stop ≡ None → c.stop ≡ Some e → e ≢ cause.NoMemory → IsRefused (read (inside_at room) (row s cs t r) a.reader)
row-stops {A} {B} {room} {y} {z} {s} {cs} {t} {r} {v} {depth} {a} {b} {c} m w e h k ne =
    elim (going b.stop) [
      | inl g ↦ (let begun = m.marked h g in row-refused cs t r begun (w.stops e g k ne begun.meaning))
      | inr d ↦
          refused-then (read (inside_at room) s a.reader) (λ found j. steps cs (read (inside_at room) t) r (length j) found j)
          (m.stops d.0 h d.1 (same-cause (w.stays d.0 d.1) k ne))
    ]

-- the list of a row, of which the first items were read
pub begins : {A B X : Type 0} {room : ℕ} {y z : Style} {s : Syntax (List A)} {cs : List Class} {t : Syntax (Step A B)} {r : B} {f : List A × B → X} {depth end : ℕ} {a b : Marker} → Walked room y s depth a b → end ≡ length b.reader → InRow (λ v c. Walked room (part plain (rows y z)) (apply (give f) (row s cs t r)) depth a c) room z cs t r depth (end - 0) b
begins {A} {B} {X} {room} {y} {z} {s} {cs} {t} {r} {f} {depth} {end} {a} {b} m l = record {
  ends = λ v c turns.
      (let w : Turned room z cs t r depth (length b.reader) v b c = subst (λ n. Turned room z cs t r depth n v b c) (all-turns end (length b.reader) l) turns in
      record {
        stays = λ e h. w.stays e (m.stays e h);
        stops = λ e h k ne. refused-then (read (inside_at room) (row s cs t r) a.reader) (λ x j. Ok (f x, j)) (row-stops m w e h k ne);
        marked = λ h k. (let g = went-on w.stays k in rows_of.row-list (m.marked h g) (w.turns g k));
      });
}

-- ---- the steps of the rows of the grammar

-- an item
pub item : {A B : Type 0} {room : ℕ} {y : Style} {s : Syntax A} {depth : ℕ} {a b : Marker} → Walked room y s depth a b → Taken {A = A} {B = B} room (part plain y) (apply (give More) s) depth a b
item m = record { walked = ands gives m; stepped = λ h k. rows_of.item (m.marked h k) }

-- an item after a symbol
pub after : {A : Type 0} {room n : ℕ} {y : Style} {s : Syntax A} {depth : ℕ} {a b c : Marker} → Walked room plain (symbol n) depth a b → Walked room y s depth b c → Taken room (part plain y) (item_after n s) depth a c
after m k = record {
  walked = ands (under m) k;
  stepped = λ p q. (let g = went-on k.stays q in rows_of.after (m.marked p g) (k.marked g q));
}

module _ {A : Type 0} {room : ℕ} {cs : List Class} {y : Style} {s : Syntax A} {depth : ℕ} {a b : Marker} where
  -- an item after a semicolon
  pub closed-item : {c : Marker} → Walked room plain (symbol symbols.SEMICOLON) depth a b → true ≡ has cs (class_of b.reader) → Walked room y s depth b c → Taken room (part plain (choice (part plain y) plain)) (item_or_end cs s) depth a c
  closed-item {c} m h k = record {
    walked = ands (under m) (firsts h (ands gives k));
    stepped = λ p q. (let g = went-on k.stays q in rows_of.closed-item (m.marked p g) h (k.marked g q));
  }

  -- a semicolon at the end
  pub closed-end : Walked room plain (symbol symbols.SEMICOLON) depth a b → false ≡ has cs (class_of b.reader) → Closed room (part plain (choice (part plain y) plain)) (item_or_end cs s) depth (tt {0}) a b
  closed-end m h = record {
    walked = ands (under m) (seconds h gives);
    ended = λ p q. rows_of.closed-end (m.marked p q) h;
  }

-- the same for the sections of fields
module _ (r : Bool) {room depth : ℕ} {a b : Marker} where
  pub listed-item : {c : Marker} → Walked room plain (symbol symbols.SEMICOLON) depth a b → true ≡ has of_name (class_of b.reader) → Walked room (styles.field_section r) field_section depth b c → Taken room (plain <* plain & choice (plain & styles.field_section r) plain) section_step depth a c
  listed-item {c} m h k = record {
    walked = ands (skips gives m) (firsts h (ands gives k));
    stepped = λ p q. (let g = went-on k.stays q in rows_of.listed-item r (m.marked p g) h (k.marked g q));
  }

  pub listed-end : Walked room plain (symbol symbols.SEMICOLON) depth a b → false ≡ has of_name (class_of b.reader) → Closed room (plain <* plain & choice (plain & styles.field_section r) plain) section_step depth true a b
  listed-end m h = record {
    walked = ands (skips gives m) (seconds h gives);
    ended = λ p q. rows_of.listed-end r (m.marked p q) h;
  }

-- the sections of fields, of which the first was read
pub begins-sections : {room depth end : ℕ} {r : Bool} {a b : Marker} → Walked room (plain & styles.field_section r) (apply (give single) field_section) depth a b → end ≡ length b.reader → InRow (λ v c. SectionsWalked room r depth v a c) room (plain <* plain & choice (plain & styles.field_section r) plain) (Symbol symbols.SEMICOLON ∷ []) section_step false depth (end - 0) b
unfolding sections
begins-sections {room} {depth} {end} {r} {a} {b} m l = record {
  ends = λ v c turns.
      (let w = subst (λ n. Turned room (plain <* plain & choice (plain & styles.field_section r) plain) (Symbol symbols.SEMICOLON ∷ []) section_step false depth n v b c) (all-turns end (length b.reader) l) turns in
      record {
        stays = λ e h. w.stays e (m.stays e h);
        stops = λ e h k ne. row-stops m w e h k ne;
        marked = λ h k.
            (let g = went-on w.stays k in
            let all = rows_of.row-reads (m.marked h g) (w.turns g k) in
            record { found = all.0; reads = all.1; adds = rows_of.row-adds (m.marked h g) (w.turns g k) });
      });
}
