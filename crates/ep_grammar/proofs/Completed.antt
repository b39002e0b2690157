-- A text at which a parser stops for want of levels can be completed so that a parser with two more levels takes it all.
use Rattle.std.proofs.Common.{◌≡◌, ℕ, zero, suc, Bool, true, false, List, [], ◌∷◌, ◌++◌, length, Option, Some, None, refl, ap, arith, inl, inr}
use Rattle.std.specs.Prelude.{if◌then◌else◌, ◌⊎◌}
use Rattle.ep_token.specs.declared.token.Token.{Token}
use Rattle.ep_grammar.specs.declared.stop.Stop.TheVariants.{Syntax, Nested}
use Rattle.ep_grammar.specs.Classes.{Class, has, class_of, class_of_kind, End}
use Rattle.ep_grammar.specs.Descriptions.{Nonterminal, Node, Step, More, Last, HasShape, AlwaysOne, always_first, always_second, give, token, line, inside, apply, either, switch, row, deeper, shaped}
use Rattle.ep_grammar.specs.Descriptions as d
use Rattle.ep_grammar.specs.Reading.{Parser, and_then, taken, peek, go_on, steps, Inside, read_inside, cause, within, by_shape, refused, read}
use Rattle.ep_grammar.specs.Rules.{rule, inside_at, read_components}
use Rattle.ep_grammar.specs.Units.{components}
use Rattle.ep_grammar.proofs.public.Outcomes.{took, stopped, never_stops}
use Rattle.ep_grammar.proofs.Classed.{true_false, also, not_also, out_front, out_end}
use Rattle.ep_grammar.proofs.Static.{both, any, only_if, nullable, first, first_inside, guarded, Good, both_case}
use Rattle.ep_grammar.proofs.Ahead.{Ahead, stopped_same, bind_stop, map_stop, which, ahead_wider, ahead_as, ahead_map, ahead_if, ahead_second, row_first, row_second}
use Rattle.ep_grammar.proofs.Checked.{good_rule, good_components, rule_guarded, components_guarded}
use Rattle.ep_grammar.proofs.Sorts.{there}
use Rattle.ep_grammar.proofs.Ending.{beyond, beyond_inside, much_room, opens, opens_inside, ends, all_open, clear, closes}
use Rattle.ep_grammar.proofs.Ended.{rule_closes, rule_beyond, components_close}
use Rattle.ep_grammar.proofs.public.Like.{Like, Takes}
use Rattle.ep_grammar.proofs.public.Looks.{ends_not, no_end, step_takes_at, grows_at, grows}
use Rattle.ep_grammar.proofs.Passing.{Passes, Ready, any_both, any_false, passes_at, ready}
use Rattle.ep_grammar.proofs.Reach.{Reach, Onward, reach_then, within_there, each_opens, shaped_rest, shaped_close, reaches, reaches_inside, onward_apply, onward_row, onward_first, onward_second}

-- behind the first of these tokens
abbrev pub PastFirst : List Token → List Token → Type 0
PastFirst b later = length b ≡ suc (length later)

-- The parser stopped at b, and the text can be completed from behind the first token of b on.
abbrev pub Completed : {X : Type 0} → Parser X → List Class → List Token → List Token → Type 0
Completed q cs a b = Ahead q cs a (PastFirst b)

-- a token is refused for syntax alone
syntax_only : {A : Type 0} {X : Type 0} (o : Option A) (i b : List Token) → taken o i ≡ stopped Nested b → X
syntax_only None i b h = absurd (let q = (stopped_same h).0 in cc)
syntax_only (Some x) i b h = never_stops h

-- ---- the parts

-- the one of two that a shape decides
completed_shape : {C X : Type 0} (o : Option C) (p p' : Parser (C → X)) (q q' : Parser X) (ds : List Class) (a b : List Token) → (p a ≡ stopped Nested b → Completed p' ds a b) → (q a ≡ stopped Nested b → Completed q' ds a b) → by_shape o p q a ≡ stopped Nested b → Completed (by_shape o p' q') ds a b
completed_shape None p p' q q' ds a b f k h = k h
completed_shape (Some c) p p' q q' ds a b f k h = ahead_map p' (λ h. h c) ds a (PastFirst b) (f (map_stop (p a) (λ h. h c) h))

-- one after the other
completed_then : {A B : Type 0} (p q : Parser A) (g h : A → Parser B) (cs ds : List Class) → Like false p q → Onward h cs ds → (a b : List Token) → (p a ≡ stopped Nested b → Completed q cs a b) → ((x : A) (m : List Token) → g x m ≡ stopped Nested b → Completed (h x) ds m b) → and_then (p a) g ≡ stopped Nested b → Completed (λ i. and_then (q i) h) ds a b
completed_then p q g h cs ds l n a b f k e = elim (bind_stop (p a) g e) [
  | inl w ↦ let c = f w in record { up = c.up; later = c.later; is = c.is; left = c.left; some = c.some; reach = reach_then q h cs ds c.up n c.reach }
  | inr w ↦ ahead_second false p q h ds l a w.1 (PastFirst b) w.0 w.2 (k w.0 w.1 w.3)
]

-- ---- rows

module _ {A B : Type 0} (cs ds : List Class) (p q : Parser (Step A B)) (r : B) (l : Like false p q) (tq : Takes q) (e : has cs End ≡ false) (v : (a b : List Token) → p a ≡ stopped Nested b → Completed q ds a b) where
  abbrev Nests : List A → List Token → List Token → Type 0
  Nests found a b = Completed (λ j. steps cs q r (length j) found j) (ds ++ cs) a b

  row_step : (more : List A → Parser (List A × B)) → ((found : List A) (a b : List Token) → more found a ≡ stopped Nested b → Nests found a b) → (found : List A) (s : Step A B) (a m b : List Token) → has cs (class_of a) ≡ true → p a ≡ took s m → go_on more found s m ≡ stopped Nested b → Nests found a b
  row_step more rec found (More x) a m b h k f = row_second cs ds false p q r l tq e found a m (PastFirst b) x h k (rec (found ++ x ∷ []) m b f)
  row_step more rec found (Last x) a m b h k f = never_stops f

  row_turn : (more : List A → Parser (List A × B)) → ((found : List A) (a b : List Token) → more found a ≡ stopped Nested b → Nests found a b) → (found : List A) (a b : List Token) → has cs (class_of a) ≡ true → and_then (p a) (go_on more found) ≡ stopped Nested b → Nests found a b
  row_turn more rec found a b h k = elim (bind_stop (p a) (go_on more found) k) [
    | inl w ↦ row_first cs ds false p q r l tq e found a (PastFirst b) h (v a b w)
    | inr w ↦ row_step more rec found w.0 a w.1 b h w.2 w.3
  ]

  rows : (n : ℕ) (found : List A) (a b : List Token) → steps cs p r n found a ≡ stopped Nested b → Nests found a b
  unfolding steps
  rows zero found a b h = never_stops h
  rows (suc n) found a b h = elim (which (has cs (class_of a)) (and_then (p a) (go_on (steps cs p r n) found)) (took (found, r) a) h) [
    | inl w ↦ row_turn (steps cs p r n) (λ found a b h. rows n found a b h) found a b w.0 w.1
    | inr w ↦ never_stops w.1
  ]

-- ---- every description

nested_cause : (v : Bool) → cause v ≡ Nested → v ≡ true
nested_cause true h = refl
nested_cause false h = absurd (cc)

-- a level was left, or there is a token that would open one
within_stop : {X : Type 0} (p : Option Inside) (cs : List Class) (r : Parser X) (a b : List Token) → within p cs r a ≡ stopped Nested b → ((there p ≡ true) × (r a ≡ stopped Nested b)) ⊎ ((has cs (class_of a) ≡ true) × (a ≡ b))
within_stop None cs r a b h = let q = stopped_same h in inr (nested_cause (has cs (class_of a)) q.0, q.1)
within_stop (Some e) cs r a b h = inl (refl, h)

refused_not_nested : {A : Type 0} {X : Type 0} (a b : List Token) → stopped {A = A} Syntax a ≡ stopped Nested b → X
refused_not_nested a b h = absurd (let q = (stopped_same h).0 in cc)

-- the token at which a level would open
opened : {X : Type 0} (q : Parser X) (cs ds : List Class) → has cs End ≡ false → ((t : Token) → has cs (class_of_kind t.kind) ≡ true → Reach q ds (t ∷ [])) → (a b : List Token) → has cs (class_of a) ≡ true → a ≡ b → Completed q ds a b
opened q cs ds e f [] b h k = true_false h e
opened q cs ds e f (t ∷ later) b h k = record {
  up = t ∷ [];
  later = later;
  is = refl;
  left = omega (arith, ap length k);
  some = omega arith;
  reach = f t h;
}

module _ (p q : Option Inside) (levels : there q ≡ true) (li : (X : Type 0) (s : d.Syntax X) → Good s → Like false (read p s) (read q s)) (tq : (A B : Type 0) (t : d.Syntax (Step A B)) → Good t → nullable t ≡ false → Takes (read q t))
    (ps : (X : Type 0) (s : d.Syntax X) → Good s → Ready q s → (a : List Token) → has (first s) (class_of a) ≡ false → Passes (nullable s) (read q s a) a)
    (ri : (n : Nonterminal) (t : Token) → has (first_inside n) (class_of_kind t.kind) ≡ true → opens_inside much_room n (class_of_kind t.kind) ≡ true → Reach (read_inside q n) (beyond_inside n) (t ∷ []))
    (vi : there p ≡ true → (n : Nonterminal) (a b : List Token) → read_inside p n a ≡ stopped Nested b → Completed (read_inside q n) (beyond_inside n) a b) where
  abbrev Completes : {X : Type 0} → d.Syntax X → Type 0
  Completes s = (a b : List Token) → read p s a ≡ stopped Nested b → Completed (read q s) (beyond s) a b

  -- levels are left
  at_hand : {X : Type 0} (s : d.Syntax X) → Ready q s
  at_hand s = ap (λ z. any z (guarded s)) levels

  -- each description can be completed from its first token on
  begins_there : {X : Type 0} (s : d.Syntax X) → Good s → closes s ≡ true → (t : Token) → has (first s) (class_of_kind t.kind) ≡ true → opens s much_room (class_of_kind t.kind) ≡ true → Reach (read q s) (beyond s) (t ∷ [])
  begins_there s g c t h o = reaches q much_room (λ h. levels) ps ri s g c (at_hand s) t h o

  completes_apply : {A X : Type 0} (s : d.Syntax (A → X)) (t : d.Syntax A) → Good (apply s t) → closes (apply s t) ≡ true → Completes s → Completes t → Completes (apply s t)
  completes_apply s t g c vs vt a b h =
      let u = both_case (closes s) (both (closes t) (both (clear (beyond s) t) (ends t much_room))) c in
      let v = both_case (closes t) (both (clear (beyond s) t) (ends t much_room)) u.1 in
      let w = both_case (clear (beyond s) t) (ends t much_room) v.1 in
      completed_then (read p s) (read q s) (λ f j. and_then (read p t j) (λ x k. took (f x) k)) (λ f j. and_then (read q t j) (λ x k. took (f x) k)) (beyond s) (beyond (apply s t)) (li _ s g.0)
      (onward_apply q much_room (λ h. levels) ps ri s t g.1 (at_hand t) w.0 w.1 (begins_there t g.1 v.0)) a b (vs a b)
      (λ f m k. ahead_map (read q t) f (beyond (apply s t)) m (PastFirst b) (ahead_wider (read q t) (beyond t) (beyond (apply s t)) m (PastFirst b) (out_front (beyond t) (only_if (nullable t) (beyond s))) (vt m b (map_stop (read p t m) f k)))) h

  completes_choice : {X : Type 0} (cs : List Class) (s t : d.Syntax X) → Completes s → Completes t → (a b : List Token) → (if has cs (class_of a) then read p s a else read p t a) ≡ stopped Nested b → Completed (λ i. if has cs (class_of i) then read q s i else read q t i) (beyond s ++ (beyond t ++ only_if (nullable t) cs)) a b
  completes_choice cs s t vs vt a b h = ahead_if cs (beyond s ++ (beyond t ++ only_if (nullable t) cs)) (read q s) (read q t) a (PastFirst b) (elim (which (has cs (class_of a)) (read p s a) (read p t a) h) [
    | inl w ↦ inl (w.0, ahead_wider (read q s) (beyond s) (beyond s ++ (beyond t ++ only_if (nullable t) cs)) a (PastFirst b) (out_front (beyond s) (beyond t ++ only_if (nullable t) cs)) (vs a b w.1))
    | inr w ↦ inr (w.0, ahead_wider (read q t) (beyond t) (beyond s ++ (beyond t ++ only_if (nullable t) cs)) a (PastFirst b) (λ c o. out_front (beyond t) (only_if (nullable t) cs) c (out_end (beyond s) (beyond t ++ only_if (nullable t) cs) c o)) (vt a b w.1))
  ])

  completes_row : {A B : Type 0} (s : d.Syntax (List A)) (cs : List Class) (t : d.Syntax (Step A B)) (r : B) → Good (row s cs t r) → Completes s → Completes t → Completes (row s cs t r)
  completes_row s cs t r g vs vt a b h =
      completed_then (read p s) (read q s) (λ found j. steps cs (read p t) r (length j) found j) (λ found j. steps cs (read q t) r (length j) found j) (beyond s) (beyond (row s cs t r)) (li _ s g.0)
      (onward_row q much_room (λ h. levels) ps ri s cs t r) a b (vs a b)
      (λ found m k. ahead_wider (λ j. steps cs (read q t) r (length j) found j) (beyond t ++ cs) (beyond (row s cs t r)) m (PastFirst b) (out_end (beyond s) (beyond t ++ cs))
      (rows cs (beyond t) (read p t) (read q t) r (li _ t g.1) (tq _ _ t g.1 g.2) (ends_not cs (first t) g.3 (no_end t g.1)) vt (length m) found m b k)) h

  completes_deeper : {X : Type 0} (cs : List Class) (s : d.Syntax X) → Good (deeper cs s) → closes (deeper cs s) ≡ true → (there p ≡ true → Completes s) → Completes (deeper cs s)
  completes_deeper cs s g c vs a b h =
      let u = both_case (closes s) (all_open s much_room cs) c in
      ahead_as (read q s) (within q cs (read q s)) (beyond s) a (PastFirst b) (λ i e. within_there q cs (read q s) i levels) (elim (within_stop p cs (read p s) a b h) [
        | inl w ↦ vs w.0 a b w.1
        | inr w ↦ opened (read q s) cs (beyond s) (ends_not cs (first s) g.2 (no_end s g.0)) (λ t k. begins_there s g.0 u.0 t (also cs (first s) (class_of_kind t.kind) g.2.0 k) (each_opens s much_room cs (class_of_kind t.kind) u.1 k)) a b w.0 w.1
      ])

  onward_shaped : {A C D X : Type 0} (s : d.Syntax A) (f : A → Option C) (cs : List Class) (t : d.Syntax (C → X)) (k : A → Option D) (u : d.Syntax (D → X)) (o : AlwaysOne f k) → Good (shaped s f cs t k u o) → closes (shaped s f cs t k u o) ≡ true → Onward (λ y j. if has cs (class_of j) then by_shape (f y) (read q t) (by_shape (k y) (read q u) refused) j else by_shape (k y) (read q u) refused j) (beyond s) (beyond (shaped s f cs t k u o))
  onward_shaped s f cs t k u (always_first e) g c = let w = shaped_rest s t u (beyond s) t c in onward_first q much_room (λ h. levels) ps ri s f cs t k u e g w.3 w.4 (begins_there t g.1 w.1)
  onward_shaped s f cs t k u (always_second e) g c = let w = shaped_rest s t u (beyond s ++ cs) u c in onward_second q much_room (λ h. levels) ps ri s f cs t k u e g (at_hand u) w.3 w.4 (begins_there u g.2 w.2)

  completes_shaped : {A C D X : Type 0} (s : d.Syntax A) (f : A → Option C) (cs : List Class) (t : d.Syntax (C → X)) (k : A → Option D) (u : d.Syntax (D → X)) (o : AlwaysOne f k) → Good (shaped s f cs t k u o) → closes (shaped s f cs t k u o) ≡ true → Completes s → Completes t → Completes u → Completes (shaped s f cs t k u o)
  completes_shaped {A} s f cs t k u o g c vs vt vu a b h =
      completed_then (read p s) (read q s) (λ y j. if has cs (class_of j) then by_shape (f y) (read p t) (by_shape (k y) (read p u) refused) j else by_shape (k y) (read p u) refused j) (λ y j. if has cs (class_of j) then by_shape (f y) (read q t) (by_shape (k y) (read q u) refused) j else by_shape (k y) (read q u) refused j) (beyond s) ds (li _ s g.0)
      (onward_shaped s f cs t k u o g c) a b (vs a b) behind h
    where
      ds : List Class
      ds = beyond t ++ (beyond u ++ only_if (nullable u) (beyond s ++ cs))

      of_second : (y : A) (m : List Token) → by_shape (k y) (read p u) refused m ≡ stopped Nested b → Completed (by_shape (k y) (read q u) refused) ds m b
      of_second y m h = completed_shape (k y) (read p u) (read q u) refused refused ds m b
          (λ h. ahead_wider (read q u) (beyond u) ds m (PastFirst b) (λ c o. out_front (beyond u) (only_if (nullable u) (beyond s ++ cs)) c (out_end (beyond t) (beyond u ++ only_if (nullable u) (beyond s ++ cs)) c o)) (vu m b h))
          (λ h. refused_not_nested m b h) h

      of_first : (y : A) (m : List Token) → by_shape (f y) (read p t) (by_shape (k y) (read p u) refused) m ≡ stopped Nested b → Completed (by_shape (f y) (read q t) (by_shape (k y) (read q u) refused)) ds m b
      of_first y m h = completed_shape (f y) (read p t) (read q t) (by_shape (k y) (read p u) refused) (by_shape (k y) (read q u) refused) ds m b
          (λ h. ahead_wider (read q t) (beyond t) ds m (PastFirst b) (λ c o. out_front (beyond t) (beyond u ++ only_if (nullable u) (beyond s ++ cs)) c o) (vt m b h))
          (λ h. of_second y m h) h

      behind : (y : A) (m : List Token) → (if has cs (class_of m) then by_shape (f y) (read p t) (by_shape (k y) (read p u) refused) m else by_shape (k y) (read p u) refused m) ≡ stopped Nested b → Completed (λ j. if has cs (class_of j) then by_shape (f y) (read q t) (by_shape (k y) (read q u) refused) j else by_shape (k y) (read q u) refused j) ds m b
      behind y m h = ahead_if cs ds (by_shape (f y) (read q t) (by_shape (k y) (read q u) refused)) (by_shape (k y) (read q u) refused) m (PastFirst b) (elim (which (has cs (class_of m)) (by_shape (f y) (read p t) (by_shape (k y) (read p u) refused) m) (by_shape (k y) (read p u) refused m) h) [
        | inl w ↦ inl (w.0, of_first y m w.1)
        | inr w ↦ inr (w.0, of_second y m w.1)
      ])

  pub completes : {X : Type 0} (s : d.Syntax X) → Good s → closes s ≡ true → Ready p s → Completes s
  completes (give x) g c r a b h = never_stops h
  completes (token s) g c r a b h = syntax_only (peek s a) a b h
  completes line g c r a b h = never_stops h
  completes (inside n) g c r a b h = vi (any_false (there p) r) n a b h
  completes (apply s t) g c r a b h =
      let w = any_both (there p) (guarded s) (guarded t) r in
      let u = both_case (closes s) (both (closes t) (both (clear (beyond s) t) (ends t much_room))) c in
      completes_apply s t g c (completes s g.0 u.0 w.0) (completes t g.1 (both_case (closes t) (both (clear (beyond s) t) (ends t much_room)) u.1).0 w.1) a b h
  completes (either cs s t) g c r a b h =
      let w = any_both (there p) (guarded s) (guarded t) r in
      let u = both_case (closes s) (closes t) c in
      completes_choice cs s t (completes s g.0 u.0 w.0) (completes t g.1 u.1 w.1) a b h
  completes (switch cs s t) g c r a b h =
      let w = any_both (there p) (guarded s) (guarded t) r in
      let u = both_case (closes s) (closes t) c in
      completes_choice cs s t (completes s g.0 u.0 w.0) (completes t g.1 u.1 w.1) a b h
  completes (row s cs t e) g c r a b h =
      let w = any_both (there p) (guarded s) (guarded t) r in
      let u = both_case (closes s) (closes t) c in
      completes_row s cs t e g (completes s g.0 u.0 w.0) (completes t g.1 u.1 w.1) a b h
  completes (deeper cs s) g c r a b h =
      completes_deeper cs s g c (λ v. completes s g.0 (both_case (closes s) (all_open s much_room cs) c).0 (ap (λ z. any z (guarded s)) v)) a b h
  completes (shaped s f cs t k u o) g c r a b h =
      let v = any_both (there p) (guarded s) (both (guarded t) (guarded u)) r in
      let w = any_both (there p) (guarded t) (guarded u) v.1 in
      let e = shaped_close s f cs t k u o c in
      completes_shaped s f cs t k u o g c (completes s g.0 e.0 v.0) (completes t g.1 e.1 w.0) (completes u g.2 e.2 w.1) a b h

-- ---- with two more levels

abbrev CompletesInside : ℕ → Type 0
CompletesInside k = there (inside_at k) ≡ true → (n : Nonterminal) (a b : List Token) → read_inside (inside_at k) n a ≡ stopped Nested b → Completed (read_inside (inside_at (suc (suc k))) n) (beyond_inside n) a b

-- a level is left
levels_there : (k : ℕ) → there (inside_at (suc k)) ≡ true
unfolding inside_at
levels_there k = refl

completes_by : (k : ℕ) → CompletesInside k → {X : Type 0} (s : d.Syntax X) → Good s → closes s ≡ true → guarded s ≡ true → (a b : List Token) → read (inside_at k) s a ≡ stopped Nested b → Completed (read (inside_at (suc (suc k))) s) (beyond s) a b
completes_by k vi s g c r a b h =
    completes (inside_at k) (inside_at (suc (suc k))) (levels_there (suc k)) (λ X s g. grows_at k (suc (suc k)) (omega arith) s g (grows k (suc (suc k)) (omega arith))) (step_takes_at (suc (suc k))) (λ X s g r a h. passes_at (suc (suc k)) s g r a h) (reaches_inside (suc (suc k))) vi s g c (ready k s r) a b h

completes_inside : (k : ℕ) → CompletesInside k
unfolding inside_at
completes_inside zero v n a b h = absurd (cc)
completes_inside (suc k) v n a b h = ahead_wider (read (inside_at (suc (suc k))) (rule n)) (beyond (rule n)) (beyond_inside n) a (PastFirst b) (λ c o. not_also (beyond (rule n)) (beyond_inside n) c (rule_beyond n) o) (completes_by k (completes_inside k) (rule n) (good_rule n) (rule_closes n) (rule_guarded n) a b h)

-- a text at which a parser stops for want of levels
pub components_complete : (k : ℕ) (ts left : List Token) → read_components k ts ≡ stopped Nested left → Completed (read_components (suc (suc k))) (beyond components) ts left
components_complete k ts left h = completes_by k (completes_inside k) components good_components components_close components_guarded ts left h
