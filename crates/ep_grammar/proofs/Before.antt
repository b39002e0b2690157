-- The tokens that a parser took before it stopped can be completed so that the same parser takes them all.
use Rattle.std.proofs.Common.{◌≡◌, ℕ, zero, suc, ◌<◌, Bool, true, false, List, [], ◌∷◌, ◌++◌, length, Option, Some, None, refl, ap, ◌∙◌, subst, arith, inl, inr, length-append}
use Rattle.std.specs.Prelude.{if◌then◌else◌, ◌⊎◌}
use Rattle.ep_token.specs.declared.token.Token.{Token}
use Rattle.ep_grammar.specs.declared.stop.Stop.{Stop}
use Rattle.ep_grammar.specs.Classes.{Class, has, class_of, class_of_kind, End}
use Rattle.ep_grammar.specs.Descriptions.{Nonterminal, Step, More, Last, AlwaysOne, always_first, always_second, Syntax, give, token, line, inside, apply, either, switch, row, deeper, shaped}
use Rattle.ep_grammar.specs.Reading.{ReadOutcome, Parser, and_then, taken, peek, go_on, steps, Inside, read_inside, within, by_shape, refused, read}
use Rattle.ep_grammar.specs.Rules.{rule, inside_at, read_components}
use Rattle.ep_grammar.specs.Units.{components}
use Rattle.ep_grammar.proofs.public.Outcomes.{took, stopped, never_stops}
use Rattle.ep_grammar.proofs.Classed.{by_cases, not_also, out_front, out_end}
use Rattle.ep_grammar.proofs.Static.{both, any, opposite, only_if, nullable, first, first_inside, guarded, Good, both_case}
use Rattle.ep_grammar.proofs.Checked.{good_rule, good_components, rule_guarded, components_guarded}
use Rattle.ep_grammar.proofs.Sorts.{there}
use Rattle.ep_grammar.proofs.Ending.{beyond, beyond_inside, steady, lasts, none, ends, opens_inside, clear, closes, all_open, much_room, Room, room_at, some_room}
use Rattle.ep_grammar.proofs.Ended.{rule_closes, rule_beyond, components_close, components_last_little, components_last_much, components_end_little, components_end_much, components_clear}
use Rattle.ep_grammar.proofs.public.Like.{rest_of, Like, Takes}
use Rattle.ep_grammar.proofs.public.Looks.{ends_not, no_end, step_takes_at, alike_at, looks_at}
use Rattle.ep_grammar.proofs.Passing.{Passes, Ready, any_both, passes_at, ready}
use Rattle.ep_grammar.proofs.Reach.{Reach, Onward, Finish, within_there, shaped_rest, shaped_close, rooms_there, finish, reaches, reaches_inside, reach_then, onward_apply, onward_row, onward_first, onward_second}
use Rattle.ep_grammar.proofs.Ahead.{Ahead, stopped_same, bind_stop, map_stop, which, ahead_wider, ahead_as, ahead_map, ahead_if, ahead_second, row_first, row_second}
use Rattle.ep_grammar.proofs.Kept.{Kept, if_any, row_last, shaped_last, room_there, rule_lasts, keeps_at}

-- from these tokens on
abbrev pub From : List Token → List Token → Type 0
From b later = later ≡ b

-- the parser took tokens up to b, and the text can be completed from there on
abbrev pub Started : {X : Type 0} → Parser X → List Class → List Token → List Token → Type 0
Started q cs a b = Ahead q cs a (From b)

-- or it took none
abbrev pub Before : {X : Type 0} → Parser X → List Class → List Token → List Token → Type 0
Before q cs a b = (a ≡ b) ⊎ Started q cs a b

-- ---- the parts

before_on : {X Y : Type 0} (q : Parser X) (p : Parser Y) (cs ds : List Class) (a b : List Token) → (Started q cs a b → Started p ds a b) → Before q cs a b → Before p ds a b
before_on q p cs ds a b f (inl e) = inl e
before_on q p cs ds a b f (inr c) = inr (f c)

-- what is left after some tokens is shorter
up_shorter : (up a b : List Token) → a ≡ up ++ b → 0 < length up → length b < length a
up_shorter up a b e h = omega (arith, ap length e, length-append up b)

-- what was taken needs nothing more
started_of : {X : Type 0} (q : Parser X) (cs : List Class) (v : Bool) (x : X) (a b : List Token) (k : Kept q cs v x a b) → 0 < length k.up → Started q cs a b
started_of q cs v x a b k h = record { up = k.up; later = b; is = k.is; left = refl; some = h; reach = record { rest = []; reads = λ z o. let r = k.reads z o in (r.0, r.2) } }

-- one after the other
module _ {A B : Type 0} (q : Parser A) (h : A → Parser B) (cs ds : List Class) (v : Bool) (l : Like true q q) (a b : List Token) (e : Stop) (n : length (rest_of (q a)) < length a → Onward h cs ds) where
  -- the first stopped
  before_first : q a ≡ stopped e b → Started q cs a b → Started (λ i. and_then (q i) h) ds a b
  before_first f c = record {
    up = c.up;
    later = c.later;
    is = c.is;
    left = c.left;
    some = c.some;
    reach = reach_then q h cs ds c.up (n (omega (arith, ap length (ap rest_of f), ap length c.left, up_shorter c.up a c.later c.is c.some))) c.reach;
  }

  -- the second took nothing
  before_next : (x : A) (m : List Token) → q a ≡ took x m → m ≡ b → (k : Kept q cs v x a m) → (up : List Token) → k.up ≡ up → Before (λ i. and_then (q i) h) ds a b
  before_next x m f g k [] u = inl (k.is ∙ ap (λ w. w ++ m) u ∙ g)
  before_next x m f g k (t ∷ up) u =
      let some : 0 < length k.up = omega (arith, ap length u) in
      let on = n (omega (arith, ap length (ap rest_of f), up_shorter k.up a m k.is some)) in
      inr (record {
        up = k.up;
        later = m;
        is = k.is;
        left = g;
        some = some;
        reach = record {
          rest = on.rest;
          reads = λ z o.
              let r = k.reads (on.rest ++ z) (on.begins z o) in
              let s = on.reads r.0 z o in
              (s.0, ap (λ o. and_then o h) r.2 ∙ s.1);
        };
      })

  before_second : (x : A) (m : List Token) → q a ≡ took x m → Kept q cs v x a m → Before (h x) ds m b → Before (λ i. and_then (q i) h) ds a b
  before_second x m f k (inl g) = before_next x m f g k k.up refl
  before_second x m f k (inr c) = inr (ahead_second true q q h ds l a m (From b) x f c)

  pub before_then : (q a ≡ stopped e b → Before q cs a b) → ((x : A) (m : List Token) → q a ≡ took x m → Kept q cs v x a m) → ((x : A) (m : List Token) → h x m ≡ stopped e b → Before (h x) ds m b) → and_then (q a) h ≡ stopped e b → Before (λ i. and_then (q i) h) ds a b
  before_then f kp k g = elim (bind_stop (q a) h g) [
    | inl w ↦ before_on q (λ i. and_then (q i) h) cs ds a b (before_first w) (f w)
    | inr w ↦ before_second w.0 w.1 w.2 (kp w.0 w.1 w.2) (k w.0 w.1 w.3)
  ]

-- the one of two that a class decides
before_if : {X : Type 0} (cs ds : List Class) (p q : Parser X) (a b : List Token) → ((has cs (class_of a) ≡ true) × Before p ds a b) ⊎ ((has cs (class_of a) ≡ false) × Before q ds a b) → Before (λ i. if has cs (class_of i) then p i else q i) ds a b
before_if cs ds p q a b (inl w) = before_on p (λ i. if has cs (class_of i) then p i else q i) ds ds a b (λ c. ahead_if cs ds p q a (From b) (inl (w.0, c))) w.1
before_if cs ds p q a b (inr w) = before_on q (λ i. if has cs (class_of i) then p i else q i) ds ds a b (λ c. ahead_if cs ds p q a (From b) (inr (w.0, c))) w.1

-- the one of two that a shape decides
before_shape : {C X : Type 0} (o : Option C) (p : Parser (C → X)) (q : Parser X) (ds : List Class) (a b : List Token) (e : Stop) → (p a ≡ stopped e b → Before p ds a b) → (q a ≡ stopped e b → Before q ds a b) → by_shape o p q a ≡ stopped e b → Before (by_shape o p q) ds a b
before_shape None p q ds a b e f k h = k h
before_shape (Some c) p q ds a b e f k h = before_on p (λ i. and_then (p i) (λ h k. took (h c) k)) ds ds a b (ahead_map p (λ h. h c) ds a (From b)) (f (map_stop (p a) (λ h. h c) h))

-- ---- rows

module _ {A B : Type 0} (cs ds : List Class) (p : Parser (Step A B)) (r : B) (v : Bool) (l : Like true p p) (tp : Takes p) (ec : has cs End ≡ false) (kp : (a : List Token) (s : Step A B) (b : List Token) → p a ≡ took s b → Kept p ds v s a b) (e : Stop) (bp : (a b : List Token) → p a ≡ stopped e b → Before p ds a b) where
  abbrev RowBefore : List A → List Token → List Token → Type 0
  RowBefore found a b = Before (λ j. steps cs p r (length j) found j) (ds ++ cs) a b

  -- the row can end after a step that took an item
  row_started : (found : List A) (x : A) (a m b : List Token) → has cs (class_of a) ≡ true → p a ≡ took (More x) m → m ≡ b → Started (λ j. steps cs p r (length j) found j) (ds ++ cs) a b
  row_started found x a m b h f g =
      let k = row_last cs ds p r v l tp ec kp found (More x) a m h f in
      subst (λ i. Started (λ j. steps cs p r (length j) found j) (ds ++ cs) a i) g (started_of (λ j. steps cs p r (length j) found j) (ds ++ cs) v (found ++ x ∷ [], r) a m k (omega (arith, tp a (More x) m f, ap length k.is, length-append k.up m)))

  row_before_step : (more : List A → Parser (List A × B)) → ((found : List A) (a b : List Token) → more found a ≡ stopped e b → RowBefore found a b) → (found : List A) (s : Step A B) (a m b : List Token) → has cs (class_of a) ≡ true → p a ≡ took s m → go_on more found s m ≡ stopped e b → RowBefore found a b
  row_before_step more rec found (More x) a m b h f g = elim (rec (found ++ x ∷ []) m b g) [
    | inl w ↦ inr (row_started found x a m b h f w)
    | inr w ↦ inr (row_second cs ds true p p r l tp ec found a m (From b) x h f w)
  ]
  row_before_step more rec found (Last x) a m b h f g = never_stops g

  pub rows_before : (n : ℕ) (found : List A) (a b : List Token) → steps cs p r n found a ≡ stopped e b → RowBefore found a b
  unfolding steps
  rows_before zero found a b h = never_stops h
  rows_before (suc n) found a b h = elim (which (has cs (class_of a)) (and_then (p a) (go_on (steps cs p r n) found)) (took (found, r) a) h) [
    | inl w ↦ elim (bind_stop (p a) (go_on (steps cs p r n) found) w.1) [
      | inl u ↦ before_on p (λ j. steps cs p r (length j) found j) ds (ds ++ cs) a b (row_first cs ds true p p r l tp ec found a (From b) w.0) (bp a b u)
      | inr u ↦ row_before_step (steps cs p r n) (λ found a b h. rows_before n found a b h) found u.0 a u.1 b w.0 u.2 u.3
    ]
    | inr w ↦ never_stops w.1
  ]

-- ---- every description

-- where nothing was taken, everything is left
passes_rest : {X : Type 0} (v : Bool) (o : ReadOutcome X) (a : List Token) → Passes v o a → rest_of o ≡ a
passes_rest true o a h = ap rest_of h.1
passes_rest false o a h = ap rest_of h

some_has : (cs : List Class) (c : Class) → has cs c ≡ true → none cs ≡ false
some_has [] c h = absurd (cc)
some_has (d ∷ cs) c h = refl

token_stop : {A : Type 0} (o : Option A) (a b : List Token) (e : Stop) → taken o a ≡ stopped e b → a ≡ b
token_stop None a b e h = (stopped_same h).1
token_stop (Some x) a b e h = never_stops h

-- a level was left, or nothing was taken
within_stops : {X : Type 0} (p : Option Inside) (cs : List Class) (r : Parser X) (a b : List Token) (e : Stop) → within p cs r a ≡ stopped e b → ((there p ≡ true) × (r a ≡ stopped e b)) ⊎ (a ≡ b)
within_stops None cs r a b e h = inr (stopped_same h).1
within_stops (Some i) cs r a b e h = inl (refl, h)

module _ (p : Option Inside) (l : Room) (levels : there p ≡ true → some_room l ≡ true) (room : some_room l ≡ true → there p ≡ true) (li : (X : Type 0) (s : Syntax X) → Good s → Like true (read p s) (read p s)) (tp : (A B : Type 0) (t : Syntax (Step A B)) → Good t → nullable t ≡ false → Takes (read p t))
    (ps : (X : Type 0) (s : Syntax X) → Good s → Ready p s → (a : List Token) → has (first s) (class_of a) ≡ false → Passes (nullable s) (read p s a) a)
    (ri : (n : Nonterminal) (t : Token) → has (first_inside n) (class_of_kind t.kind) ≡ true → opens_inside l n (class_of_kind t.kind) ≡ true → Reach (read_inside p n) (beyond_inside n) (t ∷ []))
    (kp : (X : Type 0) (s : Syntax X) → Good s → lasts s l ≡ true → (a : List Token) (x : X) (b : List Token) → read p s a ≡ took x b → Kept (read p s) (beyond s) (steady s) x a b)
    (e : Stop) (bi : (n : Nonterminal) (a b : List Token) → read_inside p n a ≡ stopped e b → Before (read_inside p n) (beyond_inside n) a b) where
  abbrev Precedes : {X : Type 0} → Syntax X → Type 0
  Precedes s = (a b : List Token) → read p s a ≡ stopped e b → Before (read p s) (beyond s) a b

  -- what takes tokens begins with one of its classes
  begins_some : {X : Type 0} (s : Syntax X) → Good s → Ready p s → (a : List Token) → length (rest_of (read p s a)) < length a → has (first s) (class_of a) ≡ true
  begins_some s g r a less = by_cases (has (first s) (class_of a)) (λ h. h) (λ h. absurd (omega (arith, less, ap length (passes_rest (nullable s) (read p s a) a (ps _ s g r a h)))))

  precedes_apply : {A X : Type 0} (s : Syntax (A → X)) (t : Syntax A) → Good (apply s t) → closes (apply s t) ≡ true → Ready p (apply s t) → lasts (apply s t) l ≡ true → Precedes s → Precedes t → Precedes (apply s t)
  precedes_apply s t g c r last vs vt a b h =
      let q = any_both (there p) (guarded s) (guarded t) r in
      let u = both_case (closes s) (both (closes t) (both (clear (beyond s) t) (ends t much_room))) c in
      let v = both_case (closes t) (both (clear (beyond s) t) (ends t much_room)) u.1 in
      let w = both_case (lasts s l) (both (lasts t l) (any (none (first s)) (ends t l))) last in
      let o = both_case (lasts t l) (any (none (first s)) (ends t l)) w.1 in
      before_then (read p s) (λ f j. and_then (read p t j) (λ x k. took (f x) k)) (beyond s) (beyond (apply s t)) (steady s) (li _ s g.0) a b e
      (λ less. onward_apply p l room ps ri s t g.1 q.1 (both_case (clear (beyond s) t) (ends t much_room) v.1).0 (subst (λ z. any z (ends t l) ≡ true) (some_has (first s) (class_of a) (begins_some s g.0 q.0 a less)) o.1) (reaches p l room ps ri t g.1 v.0 q.1))
      (vs a b) (λ x m f. kp _ s g.0 w.0 a x m f)
      (λ f m k. before_on (read p t) (λ j. and_then (read p t j) (λ x k. took (f x) k)) (beyond t) (beyond (apply s t)) m b (λ c. ahead_map (read p t) f (beyond (apply s t)) m (From b) (ahead_wider (read p t) (beyond t) (beyond (apply s t)) m (From b) (out_front (beyond t) (only_if (nullable t) (beyond s))) c)) (vt m b (map_stop (read p t m) f k))) h

  precedes_choice : {X : Type 0} (cs : List Class) (s t : Syntax X) → Precedes s → Precedes t → (a b : List Token) → (if has cs (class_of a) then read p s a else read p t a) ≡ stopped e b → Before (λ i. if has cs (class_of i) then read p s i else read p t i) (beyond s ++ (beyond t ++ only_if (nullable t) cs)) a b
  precedes_choice cs s t vs vt a b h = before_if cs (beyond s ++ (beyond t ++ only_if (nullable t) cs)) (read p s) (read p t) a b (elim (which (has cs (class_of a)) (read p s a) (read p t a) h) [
    | inl w ↦ inl (w.0, before_on (read p s) (read p s) (beyond s) (beyond s ++ (beyond t ++ only_if (nullable t) cs)) a b (ahead_wider (read p s) (beyond s) (beyond s ++ (beyond t ++ only_if (nullable t) cs)) a (From b) (out_front (beyond s) (beyond t ++ only_if (nullable t) cs))) (vs a b w.1))
    | inr w ↦ inr (w.0, before_on (read p t) (read p t) (beyond t) (beyond s ++ (beyond t ++ only_if (nullable t) cs)) a b (ahead_wider (read p t) (beyond t) (beyond s ++ (beyond t ++ only_if (nullable t) cs)) a (From b) (λ c o. out_front (beyond t) (only_if (nullable t) cs) c (out_end (beyond s) (beyond t ++ only_if (nullable t) cs) c o))) (vt a b w.1))
  ])

  precedes_row : {A B : Type 0} (s : Syntax (List A)) (cs : List Class) (t : Syntax (Step A B)) (r : B) → Good (row s cs t r) → lasts (row s cs t r) l ≡ true → Precedes s → Precedes t → Precedes (row s cs t r)
  precedes_row s cs t r g last vs vt a b h =
      let w = both_case (lasts s l) (lasts t l) last in
      before_then (read p s) (λ found j. steps cs (read p t) r (length j) found j) (beyond s) (beyond (row s cs t r)) (steady s) (li _ s g.0) a b e
      (λ less. onward_row p l room ps ri s cs t r)
      (vs a b) (λ x m f. kp _ s g.0 w.0 a x m f)
      (λ found m k. before_on (λ j. steps cs (read p t) r (length j) found j) (λ j. steps cs (read p t) r (length j) found j) (beyond t ++ cs) (beyond (row s cs t r)) m b (ahead_wider (λ j. steps cs (read p t) r (length j) found j) (beyond t ++ cs) (beyond (row s cs t r)) m (From b) (out_end (beyond s) (beyond t ++ cs)))
      (rows_before cs (beyond t) (read p t) r (steady t) (li _ t g.1) (tp _ _ t g.1 g.2) (ends_not cs (first t) g.3 (no_end t g.1)) (λ a x b f. kp _ t g.1 w.1 a x b f) e vt (length m) found m b k)) h

  precedes_deeper : {X : Type 0} (cs : List Class) (s : Syntax X) → (there p ≡ true → Precedes s) → Precedes (deeper cs s)
  precedes_deeper cs s vs a b h = elim (within_stops p cs (read p s) a b e h) [
    | inl w ↦ before_on (read p s) (within p cs (read p s)) (beyond s) (beyond s) a b (ahead_as (read p s) (within p cs (read p s)) (beyond s) a (From b) (λ i f. within_there p cs (read p s) i w.0)) (vs w.0 a b w.1)
    | inr w ↦ inl w
  ]

  -- what stands behind the first part of a shaped description
  onward_shaped : {A C D X : Type 0} (s : Syntax A) (f : A → Option C) (cs : List Class) (t : Syntax (C → X)) (k : A → Option D) (u : Syntax (D → X)) (o : AlwaysOne f k) → Good (shaped s f cs t k u o) → closes (shaped s f cs t k u o) ≡ true → Ready p (shaped s f cs t k u o) → lasts (shaped s f cs t k u o) l ≡ true → Onward (λ y j. if has cs (class_of j) then by_shape (f y) (read p t) (by_shape (k y) (read p u) refused) j else by_shape (k y) (read p u) refused j) (beyond s) (beyond (shaped s f cs t k u o))
  onward_shaped s f cs t k u (always_first h) g c r last =
      let q = any_both (there p) (guarded t) (guarded u) (any_both (there p) (guarded s) (both (guarded t) (guarded u)) r).1 in
      let w = shaped_rest s t u (beyond s) t c in
      let v = both_case (lasts t l) (both (lasts u l) (both (ends t l) (any (opposite (nullable u)) (steady s)))) (both_case (lasts s l) (both (lasts t l) (both (lasts u l) (both (ends t l) (any (opposite (nullable u)) (steady s))))) last).1 in
      onward_first p l room ps ri s f cs t k u h g w.3 (both_case (ends t l) (any (opposite (nullable u)) (steady s)) (both_case (lasts u l) (both (ends t l) (any (opposite (nullable u)) (steady s))) v.1).1).0 (reaches p l room ps ri t g.1 w.1 q.0)
  onward_shaped s f cs t k u (always_second h) g c r last =
      let q = any_both (there p) (guarded t) (guarded u) (any_both (there p) (guarded s) (both (guarded t) (guarded u)) r).1 in
      let w = shaped_rest s t u (beyond s ++ cs) u c in
      let v = both_case (lasts t l) (both (lasts u l) (ends u l)) (both_case (lasts s l) (both (lasts t l) (both (lasts u l) (ends u l))) last).1 in
      onward_second p l room ps ri s f cs t k u h g q.1 w.3 (both_case (lasts u l) (ends u l) v.1).1 (reaches p l room ps ri u g.2 w.2 q.1)

  precedes_shaped : {A C D X : Type 0} (s : Syntax A) (f : A → Option C) (cs : List Class) (t : Syntax (C → X)) (k : A → Option D) (u : Syntax (D → X)) (o : AlwaysOne f k) → Good (shaped s f cs t k u o) → closes (shaped s f cs t k u o) ≡ true → Ready p (shaped s f cs t k u o) → lasts (shaped s f cs t k u o) l ≡ true → lasts s l ≡ true → Precedes s → Precedes t → Precedes u → Precedes (shaped s f cs t k u o)
  precedes_shaped {A} s f cs t k u o g c r last ls vs vt vu a b h =
      before_then (read p s) (λ y j. if has cs (class_of j) then by_shape (f y) (read p t) (by_shape (k y) (read p u) refused) j else by_shape (k y) (read p u) refused j) (beyond s) ds (steady s) (li _ s g.0) a b e
      (λ less. onward_shaped s f cs t k u o g c r last) (vs a b) (λ x m f. kp _ s g.0 ls a x m f) behind h
    where
      ds : List Class
      ds = beyond t ++ (beyond u ++ only_if (nullable u) (beyond s ++ cs))

      of_second : (y : A) (m : List Token) → by_shape (k y) (read p u) refused m ≡ stopped e b → Before (by_shape (k y) (read p u) refused) ds m b
      of_second y m h = before_shape (k y) (read p u) refused ds m b e
          (λ h. before_on (read p u) (read p u) (beyond u) ds m b (ahead_wider (read p u) (beyond u) ds m (From b) (λ c o. out_front (beyond u) (only_if (nullable u) (beyond s ++ cs)) c (out_end (beyond t) (beyond u ++ only_if (nullable u) (beyond s ++ cs)) c o))) (vu m b h))
          (λ h. inl (stopped_same h).1) h

      of_first : (y : A) (m : List Token) → by_shape (f y) (read p t) (by_shape (k y) (read p u) refused) m ≡ stopped e b → Before (by_shape (f y) (read p t) (by_shape (k y) (read p u) refused)) ds m b
      of_first y m h = before_shape (f y) (read p t) (by_shape (k y) (read p u) refused) ds m b e
          (λ h. before_on (read p t) (read p t) (beyond t) ds m b (ahead_wider (read p t) (beyond t) ds m (From b) (λ c o. out_front (beyond t) (beyond u ++ only_if (nullable u) (beyond s ++ cs)) c o)) (vt m b h))
          (λ h. of_second y m h) h

      behind : (y : A) (m : List Token) → (if has cs (class_of m) then by_shape (f y) (read p t) (by_shape (k y) (read p u) refused) m else by_shape (k y) (read p u) refused m) ≡ stopped e b → Before (λ j. if has cs (class_of j) then by_shape (f y) (read p t) (by_shape (k y) (read p u) refused) j else by_shape (k y) (read p u) refused j) ds m b
      behind y m h = before_if cs ds (by_shape (f y) (read p t) (by_shape (k y) (read p u) refused)) (by_shape (k y) (read p u) refused) m b (elim (which (has cs (class_of m)) (by_shape (f y) (read p t) (by_shape (k y) (read p u) refused) m) (by_shape (k y) (read p u) refused m) h) [
        | inl w ↦ inl (w.0, of_first y m w.1)
        | inr w ↦ inr (w.0, of_second y m w.1)
      ])

  pub precedes : {X : Type 0} (s : Syntax X) → Good s → closes s ≡ true → Ready p s → lasts s l ≡ true → Precedes s
  precedes (give x) g c r last a b h = never_stops h
  precedes (token s) g c r last a b h = inl (token_stop (peek s a) a b e h)
  precedes line g c r last a b h = never_stops h
  precedes (inside n) g c r last a b h = bi n a b h
  precedes (apply s t) g c r last a b h =
      let q = any_both (there p) (guarded s) (guarded t) r in
      let u = both_case (closes s) (both (closes t) (both (clear (beyond s) t) (ends t much_room))) c in
      let w = both_case (lasts s l) (both (lasts t l) (any (none (first s)) (ends t l))) last in
      precedes_apply s t g c r last (precedes s g.0 u.0 q.0 w.0) (precedes t g.1 (both_case (closes t) (both (clear (beyond s) t) (ends t much_room)) u.1).0 q.1 (both_case (lasts t l) (any (none (first s)) (ends t l)) w.1).0) a b h
  precedes (either cs s t) g c r last a b h =
      let q = any_both (there p) (guarded s) (guarded t) r in
      let u = both_case (closes s) (closes t) c in
      let w = both_case (lasts s l) (lasts t l) last in
      precedes_choice cs s t (precedes s g.0 u.0 q.0 w.0) (precedes t g.1 u.1 q.1 w.1) a b h
  precedes (switch cs s t) g c r last a b h =
      let q = any_both (there p) (guarded s) (guarded t) r in
      let u = both_case (closes s) (closes t) c in
      let w = both_case (lasts s l) (lasts t l) last in
      precedes_choice cs s t (precedes s g.0 u.0 q.0 w.0) (precedes t g.1 u.1 q.1 w.1) a b h
  precedes (row s cs t y) g c r last a b h =
      let q = any_both (there p) (guarded s) (guarded t) r in
      let u = both_case (closes s) (closes t) c in
      let w = both_case (lasts s l) (lasts t l) last in
      precedes_row s cs t y g last (precedes s g.0 u.0 q.0 w.0) (precedes t g.1 u.1 q.1 w.1) a b h
  precedes (deeper cs s) g c r last a b h =
      precedes_deeper cs s (λ v. precedes s g.0 (both_case (closes s) (all_open s much_room cs) c).0 (ap (λ z. any z (guarded s)) v) (if_any (some_room l) (lasts s l) last (levels v))) a b h
  precedes (shaped s f cs t k u o) g c r last a b h =
      let v = any_both (there p) (guarded s) (both (guarded t) (guarded u)) r in
      let w = any_both (there p) (guarded t) (guarded u) v.1 in
      let i = shaped_close s f cs t k u o c in
      let y = shaped_last l s f cs t k u o last in
      precedes_shaped s f cs t k u o g c r last y.0 (precedes s g.0 i.0 v.0 y.0) (precedes t g.1 i.1 w.0 y.1) (precedes u g.2 i.2 w.1 y.2) a b h

-- ---- at each number of levels

abbrev PrecedesInside : ℕ → Stop → Type 0
PrecedesInside k e = (n : Nonterminal) (a b : List Token) → read_inside (inside_at k) n a ≡ stopped e b → Before (read_inside (inside_at k) n) (beyond_inside n) a b

precedes_by : (k : ℕ) (e : Stop) → PrecedesInside k e → {X : Type 0} (s : Syntax X) → Good s → closes s ≡ true → guarded s ≡ true → lasts s (room_at k) ≡ true → (a b : List Token) → read (inside_at k) s a ≡ stopped e b → Before (read (inside_at k) s) (beyond s) a b
precedes_by k e bi s g c r last a b h =
    precedes (inside_at k) (room_at k) (room_there k) (rooms_there k) (λ X s g. alike_at true k s g (looks_at true k)) (step_takes_at k) (λ X s g r a h. passes_at k s g r a h) (reaches_inside k) (λ X s g last a x b h. keeps_at k s g last a x b h) e bi s g c (ready k s r) last a b h

precedes_inside : (k : ℕ) (e : Stop) → PrecedesInside k e
unfolding inside_at
precedes_inside zero e n a b h = inl (stopped_same h).1
precedes_inside (suc k) e n a b h =
    before_on (read (inside_at k) (rule n)) (read (inside_at k) (rule n)) (beyond (rule n)) (beyond_inside n) a b (ahead_wider (read (inside_at k) (rule n)) (beyond (rule n)) (beyond_inside n) a (From b) (λ c o. not_also (beyond (rule n)) (beyond_inside n) c (rule_beyond n) o))
    (precedes_by k e (precedes_inside k e) (rule n) (good_rule n) (rule_closes n) (rule_guarded n) (rule_lasts k n) a b h)

-- ---- whole texts, where a level is left

components_last : (k : ℕ) → lasts components (room_at (suc k)) ≡ true
components_last zero = components_last_little
components_last (suc k) = components_last_much

components_end : (k : ℕ) → ends components (room_at (suc k)) ≡ true
components_end zero = components_end_little
components_end (suc k) = components_end_much

-- the tokens before the one at which a parser stops
pub components_before : (k : ℕ) (ts left : List Token) (e : Stop) → read_components (suc k) ts ≡ stopped e left → Before (read_components (suc k)) (beyond components) ts left
components_before k ts left e h = precedes_by (suc k) e (precedes_inside (suc k) e) components good_components components_close components_guarded (components_last k) ts left h

-- the tokens before those that a parser leaves
pub components_kept : (k : ℕ) (ts left : List Token) (cs : List _) → read_components (suc k) ts ≡ took cs left → Kept (read_components (suc k)) (beyond components) (steady components) cs ts left
components_kept k ts left cs h = keeps_at (suc k) components good_components (components_last k) ts cs left h

-- there is a text
pub components_finish : (k : ℕ) → Finish (read_components (suc k)) [] (beyond components ++ only_if (nullable components) [])
components_finish k =
    finish (inside_at (suc k)) (room_at (suc k)) (rooms_there (suc k)) (λ X s g r a h. passes_at (suc k) s g r a h) (reaches_inside (suc k)) components [] good_components (ready (suc k) components components_guarded) components_clear (components_end k)
    (reaches (inside_at (suc k)) (room_at (suc k)) (rooms_there (suc k)) (λ X s g r a h. passes_at (suc k) s g r a h) (reaches_inside (suc k)) components good_components components_close (ready (suc k) components components_guarded))
