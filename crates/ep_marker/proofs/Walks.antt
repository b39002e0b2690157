-- The walk over a production, form by form.
use Rattle.std.proofs.Common.{◌≡◌, ◌≢◌, ℕ, zero, suc, ◌+◌, ◌-◌, Bool, true, false, ◌⊎◌, inl, inr, List, length, Option, Some, None, Result, Ok, Err, refl, sym, ap, subst, ◌∙◌, vec_len}
use Rattle.std.specs.Result.{result_err}
use Rattle.ep_token.specs.declared.token.Token.{Token}
use Rattle.ep_grammar.specs.declared.stop.Stop.{Stop}
use Rattle.ep_grammar.specs.declared.stop.Stop.TheVariants as cause
use Rattle.ep_grammar.specs.Classes.{Class, has, class_of}
use Rattle.ep_grammar.specs.Descriptions.{Nonterminal, Syntax, give, line, inside, apply, either, switch, deeper}
use Rattle.ep_grammar.specs.Reading.{ReadOutcome, Parser, Reads, and_then, read}
use Rattle.ep_grammar.specs.Rules.{inside_at, rule}
use Rattle.ep_marks.specs.Productions as styles
use Rattle.ep_marks.specs.Styles.{Style, plain, within, part, choice, level, starts, indents, given}
use Rattle.ep_marker.specs.declared.marker.Marker.{Marker}
use Rattle.ep_marker.specs.Marking.{IsRefused, Marked, Opened, Passed, Started, Walked, first_stop}
use Rattle.ep_marker.proofs.Forms as forms

-- ---- the end of a walk

pub going : (o : Option Stop) → (o ≡ None) ⊎ ((e : Stop) × (o ≡ Some e))
going None = inl refl
going (Some e) = inr (e, refl)

pub no-stop : {e : Stop} {o : Option Stop} → o ≡ None → o ≡ Some e → ⊥
no-stop h k = absurd (cc)

-- a walk that goes on went on before
pub went-on : {o p : Option Stop} → ((e : Stop) → o ≡ Some e → p ≡ Some e) → p ≡ None → o ≡ None
went-on {o} {p} stays h =
    elim (going o) [
      | inl g ↦ g
      | inr q ↦ absurd (no-stop h (stays q.0 q.1))
    ]

-- a cause that stays
pub same-cause : {o : Option Stop} {d e : Stop} → o ≡ Some d → o ≡ Some e → e ≢ cause.NoMemory → d ≢ cause.NoMemory
same-cause h k ne q = ne (cc)

pub stayed : {o p : Option Stop} (d : Stop) {e : Stop} → p ≡ Some (first_stop o d) → o ≡ Some e → p ≡ Some e
stayed {o} {p} d {e} h k = h ∙ ap (λ w. Some (first_stop w d)) k

pub fresh : {o p : Option Stop} (d : Stop) → p ≡ Some (first_stop o d) → o ≡ None → p ≡ Some d
fresh {o} {p} d h k = h ∙ ap (λ w. Some (first_stop w d)) k

pub refused-then : {A B : Type 0} (o : ReadOutcome A) (f : A → Parser B) → IsRefused o → IsRefused (and_then o f)
refused-then (Ok p) f h = absurd h
refused-then (Err e) f h = tt

-- ---- the forms

unmoved : {X : Type 0} {room depth : ℕ} {y : Style} {s : Syntax X} {a : Marker} → Marked room y s depth a a → Walked room y s depth a a
unmoved m = record {
  stays = λ e h. h;
  stops = λ e h k ne. absurd (no-stop h k);
  marked = λ h k. m;
}

pub gives : {X : Type 0} {room depth : ℕ} {x : X} {a : Marker} → Walked room plain (give x) depth a a
gives = unmoved forms.gives

pub lines : {room depth : ℕ} {a : Marker} → Walked room plain line depth a a
lines = unmoved forms.lines

refused-second : {A X : Type 0} {room depth : ℕ} {y : Style} {s : Syntax (A → X)} (t : Syntax A) {a b : Marker} → Marked room y s depth a b → IsRefused (read (inside_at room) t b.reader) → IsRefused (read (inside_at room) (apply s t) a.reader)
refused-second {A} {X} {room} {depth} {y} {s} t {a} {b} m r =
    rw m.reads (refused-then (read (inside_at room) t b.reader) (λ x k. Ok (m.meaning x, k)) r)

-- one after the other
pub ands : {A X : Type 0} {room depth : ℕ} {y z : Style} {s : Syntax (A → X)} {t : Syntax A} {a b c : Marker} → Walked room y s depth a b → Walked room z t depth b c → Walked room (part y z) (apply s t) depth a c
ands {A} {X} {room} {depth} {y} {z} {s} {t} {a} {b} {c} m n = record {
  stays = λ e h. n.stays e (m.stays e h);
  stops = λ e h k ne.
      elim (going b.stop) [
        | inl g ↦ refused-second t (m.marked h g) (n.stops e g k ne)
        | inr d ↦
            refused-then (read (inside_at room) s a.reader) (λ f j. and_then (read (inside_at room) t j) (λ x i. Ok (f x, i)))
            (m.stops d.0 h d.1 (same-cause (n.stays d.0 d.1) k ne))
      ];
  marked = λ h k. (let g = went-on n.stays k in forms.ands (m.marked h g) (n.marked g k));
}

-- a function of what was read, in no style of its own
pub under : {A X : Type 0} {room depth : ℕ} {f : A → X} {s : Syntax A} {a b : Marker} → Walked room plain s depth a b → Walked room plain (apply (give f) s) depth a b
under {A} {X} {room} {depth} {f} {s} {a} {b} m = record {
  stays = m.stays;
  stops = λ e h k ne. refused-then (read (inside_at room) s a.reader) (λ x j. Ok (f x, j)) (m.stops e h k ne);
  marked = λ h k. forms.under (m.marked h k);
}

-- the second means nothing
pub skips : {A X Y : Type 0} {room depth : ℕ} {y z : Style} {f : X → A → Y} {s : Syntax X} {t : Syntax A} {a b c : Marker} → Walked room y s depth a b → Walked room z t depth b c → Walked room (part (part plain y) z) (apply (apply (give f) s) t) depth a c
skips m n = ands (ands gives m) n

-- the forms as they are written in productions
infixl 10 ◌▸◌
pub ◌▸◌ : {A X : Type 0} {room depth : ℕ} {y z : Style} {s : Syntax (A → X)} {t : Syntax A} {a b c : Marker} → Walked room y s depth a b → Walked room z t depth b c → Walked room (part y z) (apply s t) depth a c
m ▸ n = ands m n

infixl 10 ◌▹◌
pub ◌▹◌ : {A X Y : Type 0} {room depth : ℕ} {y z : Style} {f : X → A → Y} {s : Syntax X} {t : Syntax A} {a b c : Marker} → Walked room y s depth a b → Walked room z t depth b c → Walked room (part (part plain y) z) (apply (apply (give f) s) t) depth a c
m ▹ n = skips m n

module _ {X : Type 0} {room depth : ℕ} {cs : List Class} {y z : Style} {s t : Syntax X} {a b : Marker} where
  pub firsts : true ≡ has cs (class_of a.reader) → Walked room y s depth a b → Walked room (choice y z) (either cs s t) depth a b
  firsts h m = record { stays = m.stays; stops = λ e p q ne. rw (sym h) (m.stops e p q ne); marked = λ p q. forms.firsts h (m.marked p q) }

  pub seconds : false ≡ has cs (class_of a.reader) → Walked room z t depth a b → Walked room (choice y z) (either cs s t) depth a b
  seconds h m = record { stays = m.stays; stops = λ e p q ne. rw (sym h) (m.stops e p q ne); marked = λ p q. forms.seconds h (m.marked p q) }

  pub switch-firsts : true ≡ has cs (class_of a.reader) → Walked room y s depth a b → Walked room (choice y z) (switch cs s t) depth a b
  switch-firsts h m = record { stays = m.stays; stops = λ e p q ne. rw (sym h) (m.stops e p q ne); marked = λ p q. forms.switch-firsts h (m.marked p q) }

  pub switch-seconds : false ≡ has cs (class_of a.reader) → Walked room z t depth a b → Walked room (choice y z) (switch cs s t) depth a b
  switch-seconds h m = record { stays = m.stays; stops = λ e p q ne. rw (sym h) (m.stops e p q ne); marked = λ p q. forms.switch-seconds h (m.marked p q) }

-- the one or the other, in no style of its own
module _ {X : Type 0} {room depth : ℕ} {cs : List Class} {s t : Syntax X} {a b : Marker} where
  pub plain-firsts : true ≡ has cs (class_of a.reader) → Walked room plain s depth a b → Walked room plain (either cs s t) depth a b
  plain-firsts h m = record { stays = m.stays; stops = λ e p q ne. rw (sym h) (m.stops e p q ne); marked = λ p q. forms.plain-firsts h (m.marked p q) }

  pub plain-seconds : false ≡ has cs (class_of a.reader) → Walked room plain t depth a b → Walked room plain (either cs s t) depth a b
  plain-seconds h m = record { stays = m.stays; stops = λ e p q ne. rw (sym h) (m.stops e p q ne); marked = λ p q. forms.plain-seconds h (m.marked p q) }

-- a style by what comes next
module _ {X : Type 0} {room depth : ℕ} {cs : List Class} {y z : Style} {s : Syntax X} {a b : Marker} where
  pub given-firsts : true ≡ has cs (class_of a.reader) → Walked room y s depth a b → Walked room (given cs y z) s depth a b
  given-firsts h m = record { stays = m.stays; stops = m.stops; marked = λ p q. forms.given-firsts h (m.marked p q) }

  pub given-seconds : false ≡ has cs (class_of a.reader) → Walked room z s depth a b → Walked room (given cs y z) s depth a b
  given-seconds h m = record { stays = m.stays; stops = m.stops; marked = λ p q. forms.given-seconds h (m.marked p q) }

-- what needs a level
pub levels : {X : Type 0} {room depth : ℕ} {cs : List Class} {y : Style} {s : Syntax X} {a b c : Marker} → Opened room a b → Walked room y s depth b c → Walked room (level y) (deeper cs s) depth a c
unfolding inside_at
levels {room = zero} {depth = depth} {y = y} {s = s} {a = a} {b = b} {c = c} o m = record {
  stays = λ e h. m.stays e (stayed {o = a.stop} cause.Nested o h);
  stops = λ e h k ne. tt;
  marked = λ h k. absurd (no-stop k (m.stays (first_stop a.stop cause.Nested) o));
}
levels {X = X} {room = suc n} {depth = depth} {cs = cs} {y = y} {s = s} {a = a} {b = b} {c = c} o m =
    let w : Walked (suc n) y s depth a c = subst (λ v. Walked (suc n) y s depth v c) o m in
    record {
      stays = w.stays;
      stops = w.stops;
      marked = λ h k. forms.levels {inner = n} refl (w.marked h k);
    }

-- what stands one level deeper
pub withins : (in_record : Bool) (n : Nonterminal) {room depth inner : ℕ} {a b : Marker} → room ≡ suc inner → Walked inner (styles.style in_record n) (rule n) depth a b → Walked room (within in_record) (inside n) depth a b
unfolding inside_at
withins in_record n q m = record {
  stays = m.stays;
  stops = λ e h k ne. rw q (m.stops e h k ne);
  marked = λ h k. forms.withins in_record n q (m.marked h k);
}

-- what would stand one level deeper, where none is left
pub no-level : (in_record : Bool) (n : Nonterminal) {room depth : ℕ} {a b : Marker} → room ≡ 0 → b.stop ≡ Some (first_stop a.stop cause.Nested) → Walked room (within in_record) (inside n) depth a b
unfolding inside_at
no-level in_record n {a = a} q o = record {
  stays = λ e h. stayed {o = a.stop} cause.Nested o h;
  stops = λ e h k ne. rw q tt;
  marked = λ h k. absurd (no-stop k o);
}

-- each of its tokens stands one deeper
pub indented : {X : Type 0} {room depth : ℕ} {y : Style} {s : Syntax X} {a b : Marker} → Walked room y s (depth + 1) a b → Walked room (indents y) s depth a b
indented m = record { stays = m.stays; stops = m.stops; marked = λ h k. forms.indented (m.marked h k) }

-- its first token starts a line
pub started : {X : Type 0} {room depth first : ℕ} {y : Style} {s : Syntax X} {a b c : Marker} → first ≡ vec_len a.marks → Walked room y s depth a b → Started first b c → Walked room (starts y) s depth a c
started {a = a} l m st = record {
  stays = λ e h. st.0 ∙ m.stays e h;
  stops = λ e h k ne. m.stops e h (sym st.0 ∙ k) ne;
  marked = λ h k. forms.started (l ∙ a.marks.ok.0) (m.marked h (sym st.0 ∙ k)) (st.1, st.2);
}

-- a part of the fields of a record, or of a variant
pub in-record : {X : Type 0} {room depth : ℕ} {r : Bool} {y : Style} {s : Syntax X} {a b : Marker} → true ≡ r → Walked room (starts y) s depth a b → Walked room (styles.of_fields r y) s depth a b
in-record {X} {room} {depth} {r} {y} {s} {a} {b} h m = subst (λ w. Walked room (styles.of_fields w y) s depth a b) h m

pub in-variant : {X : Type 0} {room depth : ℕ} {r : Bool} {y : Style} {s : Syntax X} {a b : Marker} → false ≡ r → Walked room y s depth a b → Walked room (styles.of_fields r y) s depth a b
in-variant {X} {room} {depth} {r} {y} {s} {a} {b} h m = subst (λ w. Walked room (styles.of_fields w y) s depth a b) h m

-- ---- what the parser reads

-- a marker whose reader was handed to the parser
abbrev pub with_reader : Marker → List Token → Marker
with_reader a j = record { reader = j; marks = a.marks; stop = a.stop }

-- tokens that the parser refused
refused : {X : Type 0} {room depth : ℕ} {s : Syntax X} {d : Stop} {j : List Token} {a c : Marker} → (d ≢ cause.NoMemory → read (inside_at room) s a.reader ≡ Err (d, j)) → c.stop ≡ Some (first_stop a.stop d) → Walked room plain s depth a c
refused {X} {room} {depth} {s} {d} {j} {a} {c} h o = record {
  stays = λ e p. stayed {o = a.stop} d o p;
  stops = λ e p q ne. rw (h (same-cause (fresh {o = a.stop} d o p) q ne)) tt;
  marked = λ p q. absurd (no-stop q o);
}

-- tokens that it read
pub passed : {X : Type 0} {room depth before : ℕ} {s : Syntax X} {x : X} {j : List Token} {a c : Marker} → read (inside_at room) s a.reader ≡ Ok (x, j) → before ≡ length a.reader → Passed None before depth (with_reader a j) c → Walked room plain s depth a c
passed {X} {room} {depth} {before} {s} {x} {j} {a} {c} h l p =
    elim p [
      | inl o ↦ record {
        stays = λ e q. stayed {o = a.stop} cause.NoMemory o q;
        stops = λ e q k ne. absurd (same-cause (fresh {o = a.stop} cause.NoMemory o q) k ne refl);
        marked = λ q k. absurd (no-stop k o);
      }
      | inr w ↦ record {
        stays = λ e q. w.0 ∙ q;
        stops = λ e q k ne. absurd (no-stop (w.0 ∙ q) k);
        marked = λ q k. forms.leaf h l (w.1, w.2);
      }
    ]

pub leaf : {X : Type 0} {room depth before : ℕ} {s : Syntax X} (r : Result X Stop) (j : List Token) {refusal : Option Stop} {a c : Marker} → Reads (read (inside_at room) s a.reader) r j → refusal ≡ result_err r → before ≡ length a.reader → Passed refusal before depth (with_reader a j) c → Walked room plain s depth a c
leaf {X} {room} {depth} {before} {s} (Ok x) j {refusal} {a} {c} h e l p = passed h l (subst (λ w. Passed w before depth (with_reader a j) c) e p)
leaf {X} {room} {depth} {before} {s} (Err d) j {refusal} {a} {c} h e l p = refused h (subst (λ w. Passed w before depth (with_reader a j) c) e p)
