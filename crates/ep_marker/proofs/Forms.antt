-- The marks of a production, form by form.
use Rattle.std.proofs.Common.{◌≡◌, ℕ, zero, suc, ◌+◌, ◌-◌, ◌<◌, ◌≤◌, Bool, true, false, List, [], ◌∷◌, ◌++◌, length, map, replicate, take, drop, get_or, set, Ok, if◌then◌else◌, refl, sym, ap, subst, ◌∙◌, arith, add-one}
use Rattle.ep_token.specs.declared.token.Token.{Token}
use Rattle.ep_grammar.specs.Classes.{Class, has, class_of, line_of}
use Rattle.ep_grammar.specs.Descriptions.{Nonterminal, Syntax, give, line, inside, apply, either, switch, deeper}
use Rattle.ep_grammar.specs.Reading.{ReadOutcome, Parser, and_then, within as level_within, read}
use Rattle.ep_grammar.specs.Rules.{inside_at, rule}
use Rattle.ep_marks.specs.declared.mark.Mark.{Mark}
use Rattle.ep_marks.specs.Marks.{no_mark, deeper_mark, first_starting, unmarked, and_marks, marks}
use Rattle.ep_marks.specs.Productions as styles
use Rattle.ep_marks.specs.Styles.{Style, plain, within, part, choice, level, starts, indents, given}
use Rattle.ep_marks.specs.Texts.{inner_at}
use Rattle.ep_marker.specs.declared.marker.Marker.{Marker}
use Rattle.ep_marker.specs.Marking.{mark_at, lowered, Marked}

-- ---- lists of marks

map-append : (f : Mark → Mark) (ms ns : List Mark) → map f (ms ++ ns) ≡ map f ms ++ map f ns
map-append f [] ns = refl
map-append f (m ∷ ms) ns = ap (λ l. f m ∷ l) (map-append f ms ns)

append-assoc : (xs ys cs : List Mark) → (xs ++ ys) ++ cs ≡ xs ++ (ys ++ cs)
append-assoc [] ys cs = refl
append-assoc (a ∷ xs) ys cs = ap (λ l. a ∷ l) (append-assoc xs ys cs)

pub append-nil : (xs : List Mark) → xs ≡ xs ++ []
append-nil [] = refl
append-nil (a ∷ xs) = ap (λ l. a ∷ l) (append-nil xs)

take-front : (xs ys : List Mark) → take (length xs) (xs ++ ys) ≡ xs
take-front [] ys = refl
take-front (a ∷ xs) ys = ap (λ l. a ∷ l) (take-front xs ys)

drop-front : (xs ys : List Mark) → drop (length xs) (xs ++ ys) ≡ ys
drop-front [] ys = refl
drop-front (a ∷ xs) ys = drop-front xs ys

abbrev mark-of : Bool → ℕ → Mark
mark-of first depth = record { starts = first; depth = depth }

no-more : (n : ℕ) → n + 0 ≡ n
no-more n = omega arith

none-more : (n : ℕ) → 0 + n ≡ n
none-more n = omega arith

same-count : (n : ℕ) → n - n ≡ 0
same-count n = omega arith

one-deeper : (n m : ℕ) → (n + 1) + m ≡ n + suc m
one-deeper n m = omega arith

lowered-none : (depth n : ℕ) → map (lowered depth) (replicate n no_mark) ≡ replicate n (mark_at depth)
lowered-none depth zero = refl
lowered-none depth (suc n) = ap (λ m. mark-of false m ∷ map (lowered depth) (replicate n no_mark)) (no-more depth) ∙ ap (λ l. mark_at depth ∷ l) (lowered-none depth n)

lowered-deeper : (depth : ℕ) (ms : List Mark) → map (lowered (depth + 1)) ms ≡ map (lowered depth) (map deeper_mark ms)
lowered-deeper depth [] = refl
lowered-deeper depth (m ∷ ms) = ap (λ n. mark-of m.starts n ∷ map (lowered (depth + 1)) ms) (one-deeper depth m.depth) ∙ ap (λ l. mark-of m.starts (depth + suc m.depth) ∷ l) (lowered-deeper depth ms)

lowered-first : (depth : ℕ) (ms : List Mark) → first_starting (map (lowered depth) ms) ≡ map (lowered depth) (first_starting ms)
lowered-first depth [] = refl
lowered-first depth (m ∷ ms) = refl

-- marks that come to others, and then more
pub added : (depth : ℕ) (xs ys cs ms ns all : List Mark) → ys ≡ xs ++ map (lowered depth) ms → cs ≡ ys ++ map (lowered depth) ns → all ≡ ms ++ ns → cs ≡ xs ++ map (lowered depth) all
added depth xs ys cs ms ns all h k e =
    k ∙ ap (λ l. l ++ map (lowered depth) ns) h ∙ append-assoc xs (map (lowered depth) ms) (map (lowered depth) ns)
    ∙ ap (λ l. xs ++ l) (sym (map-append (lowered depth) ms ns)) ∙ ap (λ l. xs ++ map (lowered depth) l) (sym e)

-- no mark comes to others where no token was read
pub added-none : {X : Type 0} (x : X) (depth : ℕ) (i : List Token) (xs : List Mark) → xs ≡ xs ++ map (lowered depth) (unmarked (let o : ReadOutcome X = Ok (x, i) in o) i)
added-none x depth i xs = append-nil xs ∙ ap (λ n. xs ++ map (lowered depth) (replicate n no_mark)) (sym (same-count (length i)))

-- ---- the forms

pub gives : {X : Type 0} {room depth : ℕ} {x : X} {a : Marker} → Marked room plain (give x) depth a a
gives {X} {room} {depth} {x} {a} = record { meaning = x; reads = refl; adds = added-none x depth a.reader a.marks.items }

pub lines : {room depth : ℕ} {a : Marker} → Marked room plain line depth a a
lines {room} {depth} {a} = record { meaning = line_of a.reader; reads = refl; adds = added-none (line_of a.reader) depth a.reader a.marks.items }

-- one after the other
pub ands : {A X : Type 0} {room depth : ℕ} {y z : Style} {s : Syntax (A → X)} {t : Syntax A} {a b c : Marker} → Marked room y s depth a b → Marked room z t depth b c → Marked room (part y z) (apply s t) depth a c
ands {A} {X} {room} {depth} {y} {z} {s} {t} {a} {b} {c} m n =
    let behind : (A → X) → List Token → List Mark = λ f j. marks (inside_at room) (inner_at room) z t j in
    record {
      meaning = m.meaning n.meaning;
      reads = rw (m.reads, n.reads) refl;
      adds =
          added depth a.marks.items b.marks.items c.marks.items (marks (inside_at room) (inner_at room) y s a.reader)
          (marks (inside_at room) (inner_at room) z t b.reader) (marks (inside_at room) (inner_at room) (part y z) (apply s t) a.reader) m.adds n.adds
          (ap (λ o. marks (inside_at room) (inner_at room) y s a.reader ++ and_marks o behind) m.reads);
    }

-- a function of what was read, in no style of its own
pub under : {A X : Type 0} {room depth : ℕ} {f : A → X} {s : Syntax A} {a b : Marker} → Marked room plain s depth a b → Marked room plain (apply (give f) s) depth a b
under {A} {X} {room} {depth} {f} {s} {a} {b} m =
    let reads : read (inside_at room) (apply (give f) s) a.reader ≡ Ok (f m.meaning, b.reader) = ap (λ o. and_then o (λ x k. Ok (f x, k))) m.reads in
    record {
      meaning = f m.meaning;
      reads = reads;
      adds = m.adds ∙ ap (λ l. a.marks.items ++ map (lowered depth) l) (ap (λ o. unmarked o a.reader) m.reads ∙ sym (ap (λ o. unmarked o a.reader) reads));
    }

-- the second means nothing
pub skips : {A X Y : Type 0} {room depth : ℕ} {y z : Style} {f : X → A → Y} {s : Syntax X} {t : Syntax A} {a b c : Marker} → Marked room y s depth a b → Marked room z t depth b c → Marked room (part (part plain y) z) (apply (apply (give f) s) t) depth a c
skips m n = ands (ands gives m) n

pub firsts : {X : Type 0} {room depth : ℕ} {cs : List Class} {y z : Style} {s t : Syntax X} {a b : Marker} → true ≡ has cs (class_of a.reader) → Marked room y s depth a b → Marked room (choice y z) (either cs s t) depth a b
firsts h m = record { meaning = m.meaning; reads = rw (sym h) m.reads; adds = rw (sym h) m.adds }

pub seconds : {X : Type 0} {room depth : ℕ} {cs : List Class} {y z : Style} {s t : Syntax X} {a b : Marker} → false ≡ has cs (class_of a.reader) → Marked room z t depth a b → Marked room (choice y z) (either cs s t) depth a b
seconds h m = record { meaning = m.meaning; reads = rw (sym h) m.reads; adds = rw (sym h) m.adds }

pub switch-firsts : {X : Type 0} {room depth : ℕ} {cs : List Class} {y z : Style} {s t : Syntax X} {a b : Marker} → true ≡ has cs (class_of a.reader) → Marked room y s depth a b → Marked room (choice y z) (switch cs s t) depth a b
switch-firsts h m = record { meaning = m.meaning; reads = rw (sym h) m.reads; adds = rw (sym h) m.adds }

pub switch-seconds : {X : Type 0} {room depth : ℕ} {cs : List Class} {y z : Style} {s t : Syntax X} {a b : Marker} → false ≡ has cs (class_of a.reader) → Marked room z t depth a b → Marked room (choice y z) (switch cs s t) depth a b
switch-seconds h m = record { meaning = m.meaning; reads = rw (sym h) m.reads; adds = rw (sym h) m.adds }

-- the one or the other, in no style of its own
pub plain-firsts : {X : Type 0} {room depth : ℕ} {cs : List Class} {s t : Syntax X} {a b : Marker} → true ≡ has cs (class_of a.reader) → Marked room plain s depth a b → Marked room plain (either cs s t) depth a b
plain-firsts h m = record { meaning = m.meaning; reads = rw (sym h) m.reads; adds = rw (sym h) m.adds }

pub plain-seconds : {X : Type 0} {room depth : ℕ} {cs : List Class} {s t : Syntax X} {a b : Marker} → false ≡ has cs (class_of a.reader) → Marked room plain t depth a b → Marked room plain (either cs s t) depth a b
plain-seconds h m = record { meaning = m.meaning; reads = rw (sym h) m.reads; adds = rw (sym h) m.adds }

-- a style by what comes next
pub given-firsts : {X : Type 0} {room depth : ℕ} {cs : List Class} {y z : Style} {s : Syntax X} {a b : Marker} → true ≡ has cs (class_of a.reader) → Marked room y s depth a b → Marked room (given cs y z) s depth a b
given-firsts h m = record { meaning = m.meaning; reads = m.reads; adds = rw (sym h) m.adds }

pub given-seconds : {X : Type 0} {room depth : ℕ} {cs : List Class} {y z : Style} {s : Syntax X} {a b : Marker} → false ≡ has cs (class_of a.reader) → Marked room z s depth a b → Marked room (given cs y z) s depth a b
given-seconds h m = record { meaning = m.meaning; reads = m.reads; adds = rw (sym h) m.adds }

-- what needs a level, where one is left
opened : {X : Type 0} {room inner : ℕ} (cs : List Class) (p : Parser X) (i : List Token) → room ≡ suc inner → level_within (inside_at room) cs p i ≡ p i
unfolding inside_at
opened cs p i q = rw q refl

pub levels : {X : Type 0} {room inner depth : ℕ} {cs : List Class} {y : Style} {s : Syntax X} {a b : Marker} → room ≡ suc inner → Marked room y s depth a b → Marked room (level y) (deeper cs s) depth a b
levels {X} {room} {inner} {depth} {cs} {y} {s} {a} {b} e m = record { meaning = m.meaning; reads = opened cs (read (inside_at room) s) a.reader e ∙ m.reads; adds = m.adds }

-- what stands one level deeper
pub withins : (in_record : Bool) (n : Nonterminal) {room inner depth : ℕ} {a b : Marker} → room ≡ suc inner → Marked inner (styles.style in_record n) (rule n) depth a b → Marked room (within in_record) (inside n) depth a b
unfolding inside_at inner_at
withins in_record n {room} {inner} {depth} {a} {b} e m =
    subst (λ k. Marked k (within in_record) (inside n) depth a b) (sym e)
    (record { meaning = m.meaning; reads = m.reads; adds = m.adds })

-- each of its tokens stands one deeper
pub indented : {X : Type 0} {room depth : ℕ} {y : Style} {s : Syntax X} {a b : Marker} → Marked room y s (depth + 1) a b → Marked room (indents y) s depth a b
indented {X} {room} {depth} {y} {s} {a} {b} m = record {
  meaning = m.meaning;
  reads = m.reads;
  adds = m.adds ∙ ap (λ l. a.marks.items ++ l) (lowered-deeper depth (marks (inside_at room) (inner_at room) y s a.reader));
}

-- its first token starts a line
pub started : {X : Type 0} {room depth first : ℕ} {y : Style} {s : Syntax X} {a b c : Marker} → first ≡ length a.marks.items → Marked room y s depth a b → (c.reader ≡ b.reader) × (c.marks.items ≡ take first b.marks.items ++ first_starting (drop first b.marks.items)) → Marked room (starts y) s depth a c
started {X} {room} {depth} {first} {y} {s} {a} {b} {c} l m h =
    let ms : List Mark = marks (inside_at room) (inner_at room) y s a.reader in
    let split : List Mark → List Mark = λ w. take (length a.marks.items) w ++ first_starting (drop (length a.marks.items) w) in
    record {
      meaning = m.meaning;
      reads = m.reads ∙ ap (λ r. Ok (m.meaning, r)) (sym h.0);
      adds =
          h.1 ∙ ap (λ n. take n b.marks.items ++ first_starting (drop n b.marks.items)) l ∙ ap split m.adds
          ∙ ap (λ w. w ++ first_starting (drop (length a.marks.items) (a.marks.items ++ map (lowered depth) ms))) (take-front a.marks.items (map (lowered depth) ms))
          ∙ ap (λ w. a.marks.items ++ first_starting w) (drop-front a.marks.items (map (lowered depth) ms))
          ∙ ap (λ w. a.marks.items ++ w) (lowered-first depth ms);
    }

-- what the parser read, whose tokens were marked then
pub leaf : {X : Type 0} {room depth before : ℕ} {s : Syntax X} {x : X} {j : List Token} {a c : Marker} → read (inside_at room) s a.reader ≡ Ok (x, j) → before ≡ length a.reader → (c.reader ≡ j) × (c.marks.items ≡ a.marks.items ++ replicate (before - length j) (mark_at depth)) → Marked room plain s depth a c
leaf {X} {room} {depth} {before} {s} {x} {j} {a} {c} h l p = record {
  meaning = x;
  reads = h ∙ ap (λ k. Ok (x, k)) (sym p.0);
  adds =
      p.1 ∙ ap (λ n. a.marks.items ++ replicate (n - length j) (mark_at depth)) l
      ∙ ap (λ w. a.marks.items ++ w) (sym (lowered-none depth (length a.reader - length j)))
      ∙ ap (λ o. a.marks.items ++ map (lowered depth) (unmarked o a.reader)) (sym h);
}

-- whether the only class of a list comes next
pub alone : {v b : Bool} → v ≡ b → v ≡ (if b then true else false)
alone {b = true} h = h
alone {b = false} h = h

-- ---- marks that are counted

one-mark : (n : ℕ) (m : Mark) → replicate n m ++ m ∷ [] ≡ replicate (suc n) m
one-mark zero m = refl
one-mark (suc n) m = ap (λ l. m ∷ l) (one-mark n m)

pub one-more : (xs ys cs : List Mark) (n : ℕ) (m : Mark) → ys ≡ xs ++ replicate n m → cs ≡ ys ++ m ∷ [] → cs ≡ xs ++ replicate (n + 1) m
one-more xs ys cs n m h k = rw add-one (k ∙ ap (λ l. l ++ m ∷ []) h ∙ append-assoc xs (replicate n m) (m ∷ []) ∙ ap (λ l. xs ++ l) (one-mark n m))

pub same-length : {turn end n : ℕ} → turn ≤ end → end ≤ turn → end ≡ n → turn ≡ n
same-length h k e = omega (arith, h, k, e)

-- ---- whole texts

lowered-id : (ms : List Mark) → map (lowered 0) ms ≡ ms
lowered-id [] = refl
lowered-id (m ∷ ms) = ap (λ n. mark-of m.starts n ∷ map (lowered 0) ms) (none-more m.depth) ∙ ap (λ l. m ∷ l) (lowered-id ms)

-- the marks of a text that is read
pub marked-whole : {X : Type 0} {room : ℕ} {y : Style} {s : Syntax X} {ts : List Token} {a b : Marker} → a.reader ≡ ts → a.marks.items ≡ [] → Marked room y s 0 a b → b.marks.items ≡ marks (inside_at room) (inner_at room) y s ts
marked-whole {X} {room} {y} {s} {ts} {a} {b} h k m =
    m.adds ∙ ap (λ l. l ++ map (lowered 0) (marks (inside_at room) (inner_at room) y s a.reader)) k
    ∙ lowered-id (marks (inside_at room) (inner_at room) y s a.reader) ∙ ap (λ i. marks (inside_at room) (inner_at room) y s i) h

-- the token with this number starts a line
pub set-starting : (first : ℕ) (ms : List Mark) (m : Mark) → first < length ms → m ≡ get_or ms first m → set ms first (mark-of true m.depth) ≡ take first ms ++ first_starting (drop first ms)
set-starting first [] m h e = absurd (omega arith)
set-starting zero (n ∷ ms) m h e = ap (λ (w : Mark). mark-of true w.depth ∷ ms) e
set-starting (suc first) (n ∷ ms) m h e = ap (λ l. n ∷ l) (set-starting first ms m (omega arith) e)

pub take-all : (xs : List Mark) (n : ℕ) → length xs ≤ n → xs ≡ take n xs ++ first_starting (drop n xs)
take-all [] zero h = refl
take-all [] (suc n) h = refl
take-all (m ∷ ms) zero h = absurd (omega arith)
take-all (m ∷ ms) (suc n) h = ap (λ l. m ∷ l) (take-all ms n (omega arith))
