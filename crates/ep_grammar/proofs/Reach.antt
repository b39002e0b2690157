-- From a token with which a description begins, tokens can be added so that a parser takes them all.
use Rattle.std.proofs.Common.{◌≡◌, ℕ, zero, suc, ◌<◌, Bool, true, false, List, [], ◌∷◌, ◌++◌, length, Option, Some, None, refl, sym, ap, ◌∙◌, subst, append_assoc, arith, inl, inr}
use Rattle.std.specs.Prelude.{if◌then◌else◌, ◌⊎◌}
use Rattle.ep_token.specs.declared.token.Token.{Token}
use Rattle.ep_grammar.specs.Classes.{Class, Sort, classes, has, same, class_of, class_of_kind, after_first, End, meaning}
use Rattle.ep_grammar.specs.Descriptions.{Nonterminal, field_lists, statements, Step, More, Last, HasShape, AlwaysOne, always_first, always_second, Syntax, give, token, line, inside, apply, either, switch, row, deeper, shaped}
use Rattle.ep_grammar.specs.Reading.{Parser, and_then, taken, read_token, go_on, steps, Inside, read_inside, within, by_shape, refused, read}
use Rattle.ep_grammar.specs.Rules.{rule, inside_at}
use Rattle.ep_grammar.proofs.public.Outcomes.{took}
use Rattle.ep_grammar.proofs.Classed.{by_cases, true_false, same_true, also, not_also, out_front, out_end, out_both, in_either}
use Rattle.ep_grammar.proofs.Static.{both, any, opposite, only_if, nullable, nullable_inside, first, first_inside, guarded, Good, both_case, flipped}
use Rattle.ep_grammar.proofs.Ending.{lead, token_for, kind_for, kind_class, beyond, beyond_inside, Room, no_room, little_room, much_room, room_at, some_room, pick, opens, opens_inside, ends, all_open, clear, closes}
use Rattle.ep_grammar.proofs.Ended.{rule_closes, rule_ends, rule_opens, rule_opens_more, rule_begins, rule_beyond}
use Rattle.ep_grammar.proofs.Checked.{good_rule, rule_guarded}
use Rattle.ep_grammar.proofs.Sorts.{there, sort_class}
use Rattle.ep_grammar.proofs.Complete.{if_true, if_false}
use Rattle.ep_grammar.proofs.public.Looks.{only_if_out, no_end}
use Rattle.ep_grammar.proofs.Passing.{Passes, Ready, any_both, no_steps, passes_at, ready}

-- Tokens can be added to these so that the parser takes them all, where none of these classes follows.
pub record Reach {X : Type 0} (q : Parser X) (cs : List Class) (up : List Token) : Type 0 where
  pub rest : List Token
  pub reads : (z : List Token) → has cs (class_of z) ≡ false → (x : X) × (q (up ++ (rest ++ z)) ≡ took x z)

-- the same from the beginning, and what is added begins with none of the first classes
pub record Finish {X : Type 0} (q : Parser X) (cs ds : List Class) : Type 0 where
  pub rest : List Token
  pub begins : (z : List Token) → has ds (class_of z) ≡ false → has cs (class_of (rest ++ z)) ≡ false
  pub reads : (z : List Token) → has ds (class_of z) ≡ false → (x : X) × (q (rest ++ z) ≡ took x z)

-- the same for parsers that each go on from a meaning
pub record Onward {A B : Type 0} (h : A → Parser B) (cs ds : List Class) : Type 0 where
  pub rest : List Token
  pub begins : (z : List Token) → has ds (class_of z) ≡ false → has cs (class_of (rest ++ z)) ≡ false
  pub reads : (x : A) (z : List Token) → has ds (class_of z) ≡ false → (y : B) × (h x (rest ++ z) ≡ took y z)

-- ---- the parts

-- with more classes that must not follow
pub reach_wider : {X : Type 0} (q : Parser X) (cs ds : List Class) (up : List Token) → ((c : Class) → has ds c ≡ false → has cs c ≡ false) → Reach q cs up → Reach q ds up
reach_wider q cs ds up f r = record { rest = r.rest; reads = λ z o. r.reads z (f (class_of z) o) }

-- another parser that answers the same from there on
pub reach_as : {X : Type 0} (q p : Parser X) (cs : List Class) (up : List Token) → ((z : List Token) → p (up ++ z) ≡ q (up ++ z)) → Reach q cs up → Reach p cs up
reach_as q p cs up f r = record { rest = r.rest; reads = λ z o. let w = r.reads z o in (w.0, f (r.rest ++ z) ∙ w.1) }

-- what follows takes nothing, or tokens that are added too
pub reach_then : {A B : Type 0} (q : Parser A) (h : A → Parser B) (cs ds : List Class) (up : List Token) → Onward h cs ds → Reach q cs up → Reach (λ i. and_then (q i) h) ds up
reach_then q h cs ds up n r = record {
  rest = r.rest ++ n.rest;
  reads = λ z o.
      let f = r.reads (n.rest ++ z) (n.begins z o) in
      let g = n.reads f.0 z o in
      (g.0, ap (λ v. and_then (q (up ++ v)) h) (append_assoc r.rest n.rest z) ∙ ap (λ v. and_then v h) f.1 ∙ g.1);
}

-- with another meaning
pub reach_map : {A B : Type 0} (q : Parser A) (h : A → B) (cs : List Class) (up : List Token) → Reach q cs up → Reach (λ i. and_then (q i) (λ x k. took (h x) k)) cs up
reach_map q h cs up r = record { rest = r.rest; reads = λ z o. let f = r.reads z o in (h f.0, ap (λ v. and_then v (λ x k. took (h x) k)) f.1) }

-- ---- what was computed of a description

-- which of the two was computed
picked : (v : Bool) (f g : Unit {0} → Bool) → pick v f g ≡ true → ((v ≡ true) × (f tt ≡ true)) ⊎ ((v ≡ false) × (g tt ≡ true))
picked true f g h = inl (refl, h)
picked false f g h = inr (refl, h)

-- what cannot be nothing begins with its first class, which is none of these
cleared : {X : Type 0} (cs : List Class) (t : Syntax X) → clear cs t ≡ true → nullable t ≡ false → (has (first t) (lead (first t)) ≡ true) × (has cs (lead (first t)) ≡ false)
cleared cs t h v =
    let u = both_case (has (first t) (lead (first t))) (opposite (has cs (lead (first t)))) (subst (λ z. any z (both (has (first t) (lead (first t))) (opposite (has cs (lead (first t))))) ≡ true) v h) in
    (u.0, flipped (has cs (lead (first t))) u.1)

-- one of some classes that each begin it
pub each_opens : {X : Type 0} (s : Syntax X) (l : Room) (cs : List Class) (c : Class) → all_open s l cs ≡ true → has cs c ≡ true → opens s l c ≡ true
each_opens s l [] c h k = absurd (cc)
each_opens s l (d ∷ cs) c h k =
    let u = both_case (opens s l d) (all_open s l cs) h in
    by_cases (same c d)
    (λ e. subst (λ z. opens s l z ≡ true) (sym (same_true c d e)) u.0)
    (λ e. each_opens s l cs c u.1 (sym (ap (λ b. if b then true else has cs c) e) ∙ k))

-- the first class of a description is that of a token
lead_class : {X : Type 0} (t : Syntax X) → Good t → has (first t) (lead (first t)) ≡ true → class_of_kind (kind_for (lead (first t))) ≡ lead (first t)
lead_class t g h = kind_class (lead (first t)) (by_cases (same (lead (first t)) End) (λ e. true_false (subst (λ c. has (first t) c ≡ true) (same_true (lead (first t)) End e) h) (no_end t g)) (λ e. e))

-- what must not follow a description that can be nothing, for what stands before it
pub behind_nothing : {v : Bool} → v ≡ true → (cs : List Class) (c : Class) → has (only_if v cs) c ≡ false → has cs c ≡ false
behind_nothing h cs c o = subst (λ v. has (only_if v cs) c ≡ false) h o

nothing_begins_inside : (n : Nonterminal) → nullable_inside n ≡ true → (c : Class) → has (beyond_inside n) c ≡ false → has (first_inside n) c ≡ false
nothing_begins_inside field_lists h c o = not_also (first_inside field_lists) (beyond_inside field_lists) c refl o
nothing_begins_inside statements h c o = not_also (first_inside statements) (beyond_inside statements) c refl o
nothing_begins_inside n h c o = absurd (cc)

-- what must not follow a description that can be nothing has all with which it begins
pub nothing_begins : {X : Type 0} (s : Syntax X) → Good s → nullable s ≡ true → (c : Class) → has (beyond s) c ≡ false → has (first s) c ≡ false
nothing_begins (give x) g v c o = refl
nothing_begins (token s) g v c o = absurd (cc)
nothing_begins line g v c o = refl
nothing_begins (inside n) g v c o = nothing_begins_inside n v c o
nothing_begins (apply s t) g v c o =
    let u = both_case (nullable s) (nullable t) v in
    out_both (first s) (only_if (nullable s) (first t)) c
    (nothing_begins s g.0 u.0 c (behind_nothing u.1 (beyond s) c (out_end (beyond t) (only_if (nullable t) (beyond s)) c o)))
    (only_if_out (nullable s) (first t) c (nothing_begins t g.1 u.1 c (out_front (beyond t) (only_if (nullable t) (beyond s)) c o)))
nothing_begins (either cs s t) g v c o =
    let u = out_end (beyond s) (beyond t ++ only_if (nullable t) cs) c o in
    out_both (first s) (first t) c (not_also (first s) cs c g.3.1 (behind_nothing v cs c (out_end (beyond t) (only_if (nullable t) cs) c u))) (nothing_begins t g.1 v c (out_front (beyond t) (only_if (nullable t) cs) c u))
nothing_begins (switch cs s t) g v c o =
    let u = out_end (beyond s) (beyond t ++ only_if (nullable t) cs) c o in
    out_both cs (first t) c (behind_nothing v cs c (out_end (beyond t) (only_if (nullable t) cs) c u)) (nothing_begins t g.1 v c (out_front (beyond t) (only_if (nullable t) cs) c u))
nothing_begins (row s cs t r) g v c o =
    out_both (first s) (only_if (nullable s) (first t)) c (nothing_begins s g.0 v c (out_front (beyond s) (beyond t ++ cs) c o))
    (only_if_out (nullable s) (first t) c (not_also (first t) cs c g.3.1 (out_end (beyond t) cs c (out_end (beyond s) (beyond t ++ cs) c o))))
nothing_begins (deeper cs s) g v c o = absurd (cc)
nothing_begins (shaped s f cs t k u e) g v c o = absurd (cc)

-- ---- one step of a row, and the end

-- what was found, and one step more
abbrev pub one_step_more : {A B : Type 0} → List A → B → Step A B → List A × B
one_step_more found r (More x) = (found ++ x ∷ [], r)
one_step_more found r (Last q) = (found, q)

step_ends : {A B : Type 0} (cs : List Class) (q : Parser (Step A B)) (r : B) (n : ℕ) (found : List A) (x : Step A B) (z : List Token) → has cs (class_of z) ≡ false → go_on (steps cs q r n) found x z ≡ took (one_step_more found r x) z
step_ends cs q r n found (More x) z h = no_steps cs q r n (found ++ x ∷ []) z h
step_ends cs q r n found (Last y) z h = refl

-- a row ends after a step where what follows begins none
pub one_step_ends : {A B : Type 0} (cs : List Class) (q : Parser (Step A B)) (r : B) (n : ℕ) (found : List A) (a z : List Token) (x : Step A B) → 0 < n → has cs (class_of a) ≡ true → q a ≡ took x z → has cs (class_of z) ≡ false → steps cs q r n found a ≡ took (one_step_more found r x) z
unfolding steps
one_step_ends cs q r zero found a z x some h e k = absurd (omega arith)
one_step_ends cs q r (suc n) found a z x some h e k = if_true (has cs (class_of a)) (and_then (q a) (go_on (steps cs q r n) found)) (took (found, r) a) (took (one_step_more found r x) z) h (ap (λ o. and_then o (go_on (steps cs q r n) found)) e ∙ step_ends cs q r n found x z k)

reach_token : (s : Sort) (t : Token) → has (classes s) (class_of_kind t.kind) ≡ true → Reach (read_token s) [] (t ∷ [])
reach_token s t h = record { rest = []; reads = λ z o. reads_some (meaning s t.kind) (t ∷ z) (sort_class s t.kind ∙ h) }
  where
    reads_some : {A : Type 0} (o : Option A) (i : List Token) → there o ≡ true → (x : A) × (taken o i ≡ took x (after_first i))
    reads_some None i h = absurd (cc)
    reads_some (Some x) i h = (x, refl)

-- ---- the shapes

-- the first of two, where its shape is there
pub shape_first : {C X : Type 0} (o : Option C) (p : Parser (C → X)) (q : Parser X) (j z : List Token) → HasShape o → (h : C → X) × (p j ≡ took h z) → (x : X) × (by_shape o p q j ≡ took x z)
shape_first None p q j z s e = absurd s
shape_first (Some c) p q j z s e = (e.0 c, ap (λ o. and_then o (λ h k. took (h c) k)) e.1)

-- what the closing of a shaped description says of its parts
pub shaped_rest : {A B C D : Type 0} (s : Syntax A) (t : Syntax B) (u : Syntax C) (cs : List Class) (v : Syntax D) → both (closes s) (both (closes t) (both (closes u) (both (clear cs v) (ends v much_room)))) ≡ true → (closes s ≡ true) × (closes t ≡ true) × (closes u ≡ true) × (clear cs v ≡ true) × (ends v much_room ≡ true)
shaped_rest s t u cs v c =
    let d = both_case (closes s) (both (closes t) (both (closes u) (both (clear cs v) (ends v much_room)))) c in
    let e = both_case (closes t) (both (closes u) (both (clear cs v) (ends v much_room))) d.1 in
    let f = both_case (closes u) (both (clear cs v) (ends v much_room)) e.1 in
    let g = both_case (clear cs v) (ends v much_room) f.1 in
    (d.0, e.0, f.0, g.0, g.1)

pub shaped_close : {A C D X : Type 0} (s : Syntax A) (f : A → Option C) (cs : List Class) (t : Syntax (C → X)) (k : A → Option D) (u : Syntax (D → X)) (o : AlwaysOne f k) → closes (shaped s f cs t k u o) ≡ true → (closes s ≡ true) × (closes t ≡ true) × (closes u ≡ true)
shaped_close s f cs t k u (always_first a) c = let d = shaped_rest s t u (beyond s) t c in (d.0, d.1, d.2)
shaped_close s f cs t k u (always_second a) c = let d = shaped_rest s t u (beyond s ++ cs) u c in (d.0, d.1, d.2)

pub within_there : {X : Type 0} (p : Option Inside) (cs : List Class) (q : Parser X) (a : List Token) → there p ≡ true → within p cs q a ≡ q a
within_there None cs q a h = absurd (cc)
within_there (Some e) cs q a h = refl

-- ---- every description

module _ (p : Option Inside) (l : Room) (room : some_room l ≡ true → there p ≡ true)
    (ps : (X : Type 0) (s : Syntax X) → Good s → Ready p s → (a : List Token) → has (first s) (class_of a) ≡ false → Passes (nullable s) (read p s a) a)
    (ri : (n : Nonterminal) (t : Token) → has (first_inside n) (class_of_kind t.kind) ≡ true → opens_inside l n (class_of_kind t.kind) ≡ true → Reach (read_inside p n) (beyond_inside n) (t ∷ [])) where
  abbrev Reaches : {X : Type 0} → Syntax X → Type 0
  Reaches s = (t : Token) → has (first s) (class_of_kind t.kind) ≡ true → opens s l (class_of_kind t.kind) ≡ true → Reach (read p s) (beyond s) (t ∷ [])

  finish_nothing : {X : Type 0} (t : Syntax X) (cs : List Class) → Good t → Ready p t → nullable t ≡ true → Finish (read p t) cs (beyond t ++ only_if (nullable t) cs)
  finish_nothing t cs g r v = record {
    rest = [];
    begins = λ z o. behind_nothing v cs (class_of z) (out_end (beyond t) (only_if (nullable t) cs) (class_of z) o);
    reads = λ z o. subst (λ w. Passes w (read p t z) z) v (ps _ t g r z (nothing_begins t g v (class_of z) (out_front (beyond t) (only_if (nullable t) cs) (class_of z) o)));
  }

  ends_some : {X : Type 0} (t : Syntax X) → ends t l ≡ true → nullable t ≡ false → opens t l (lead (first t)) ≡ true
  ends_some t e v = elim (picked (nullable t) (λ y. true) (λ y. opens t l (lead (first t))) e) [ inl w ↦ true_false w.0 v | inr w ↦ w.1 ]

  -- from its first class on
  reach_lead : {X : Type 0} (t : Syntax X) → Good t → has (first t) (lead (first t)) ≡ true → ends t l ≡ true → nullable t ≡ false → Reaches t → Reach (read p t) (beyond t) (token_for (lead (first t)) ∷ [])
  reach_lead t g h e v k =
      let c = sym (lead_class t g h) in
      k (token_for (lead (first t))) (subst (λ d. has (first t) d ≡ true) c h) (subst (λ d. opens t l d ≡ true) c (ends_some t e v))

  finish_some : {X : Type 0} (t : Syntax X) (cs : List Class) → Good t → clear cs t ≡ true → ends t l ≡ true → nullable t ≡ false → Reaches t → Finish (read p t) cs (beyond t ++ only_if (nullable t) cs)
  finish_some t cs g c e v k =
      let u = cleared cs t c v in
      let r = reach_lead t g u.0 e v k in
      record {
        rest = token_for (lead (first t)) ∷ r.rest;
        begins = λ z o. ap (has cs) (lead_class t g u.0) ∙ u.1;
        reads = λ z o. r.reads z (out_front (beyond t) (only_if (nullable t) cs) (class_of z) o);
      }

  pub finish : {X : Type 0} (t : Syntax X) (cs : List Class) → Good t → Ready p t → clear cs t ≡ true → ends t l ≡ true → Reaches t → Finish (read p t) cs (beyond t ++ only_if (nullable t) cs)
  finish t cs g r c e k = by_cases (nullable t) (λ v. finish_nothing t cs g r v) (λ v. finish_some t cs g c e v k)

  -- ---- what stands behind a first part

  pub onward_apply : {A X : Type 0} (s : Syntax (A → X)) (t : Syntax A) → Good t → Ready p t → clear (beyond s) t ≡ true → ends t l ≡ true → Reaches t → Onward (λ (f : A → X) j. and_then (read p t j) (λ x k. took (f x) k)) (beyond s) (beyond (apply s t))
  onward_apply s t g r c e k = let f = finish t (beyond s) g r c e k in record {
    rest = f.rest;
    begins = f.begins;
    reads = λ x z o. let w = f.reads z o in (x w.0, ap (λ v. and_then v (λ y k. took (x y) k)) w.1);
  }

  pub onward_row : {A B : Type 0} (s : Syntax (List A)) (cs : List Class) (t : Syntax (Step A B)) (r : B) → Onward (λ found j. steps cs (read p t) r (length j) found j) (beyond s) (beyond (row s cs t r))
  onward_row s cs t r = record {
    rest = [];
    begins = λ z o. out_front (beyond s) (beyond t ++ cs) (class_of z) o;
    reads = λ x z o. ((x, r), no_steps cs (read p t) r (length z) x z (out_end (beyond t) cs (class_of z) (out_end (beyond s) (beyond t ++ cs) (class_of z) o)));
  }

  abbrev onward_by : {A C D X : Type 0} → (A → Option C) → List Class → Syntax (C → X) → (A → Option D) → Syntax (D → X) → A → Parser X
  onward_by f cs t k u y j = if has cs (class_of j) then by_shape (f y) (read p t) (by_shape (k y) (read p u) refused) j else by_shape (k y) (read p u) refused j

  pub onward_first : {A C D X : Type 0} (s : Syntax A) (f : A → Option C) (cs : List Class) (t : Syntax (C → X)) (k : A → Option D) (u : Syntax (D → X)) (a : (y : A) → HasShape (f y)) → Good (shaped s f cs t k u (always_first a)) → clear (beyond s) t ≡ true → ends t l ≡ true → Reaches t → Onward (onward_by f cs t k u) (beyond s) (beyond (shaped s f cs t k u (always_first a)))
  onward_first s f cs t k u a g c e rt =
      let h = cleared (beyond s) t c g.4 in
      let r = reach_lead t g.1 h.0 e g.4 rt in
      let is_lead = lead_class t g.1 h.0 in
      record {
        rest = token_for (lead (first t)) ∷ r.rest;
        begins = λ z o. ap (has (beyond s)) is_lead ∙ h.1;
        reads = λ y z o.
            let i = token_for (lead (first t)) ∷ (r.rest ++ z) in
            let w = shape_first (f y) (read p t) (by_shape (k y) (read p u) refused) i z (a y) (r.reads z (out_front (beyond t) (beyond u ++ only_if (nullable u) (beyond s ++ cs)) (class_of z) o)) in
            (w.0, if_true (has cs (class_of i)) (by_shape (f y) (read p t) (by_shape (k y) (read p u) refused) i) (by_shape (k y) (read p u) refused i) (took w.0 z) (ap (has cs) is_lead ∙ also (first t) cs (lead (first t)) g.5.1 h.0) w.1);
      }

  pub onward_second : {A C D X : Type 0} (s : Syntax A) (f : A → Option C) (cs : List Class) (t : Syntax (C → X)) (k : A → Option D) (u : Syntax (D → X)) (a : (y : A) → HasShape (k y)) → Good (shaped s f cs t k u (always_second a)) → Ready p u → clear (beyond s ++ cs) u ≡ true → ends u l ≡ true → Reaches u → Onward (onward_by f cs t k u) (beyond s) (beyond (shaped s f cs t k u (always_second a)))
  onward_second s f cs t k u a g r c e ru =
      let h = finish u (beyond s ++ cs) g.2 r c e ru in
      let out = λ (z : List Token) (o : has (beyond t ++ (beyond u ++ only_if (nullable u) (beyond s ++ cs))) (class_of z) ≡ false). out_end (beyond t) (beyond u ++ only_if (nullable u) (beyond s ++ cs)) (class_of z) o in
      record {
        rest = h.rest;
        begins = λ z o. out_front (beyond s) cs (class_of (h.rest ++ z)) (h.begins z (out z o));
        reads = λ y z o.
            let w = shape_first (k y) (read p u) refused (h.rest ++ z) z (a y) (h.reads z (out z o)) in
            (w.0, if_false (has cs (class_of (h.rest ++ z))) (by_shape (f y) (read p t) (by_shape (k y) (read p u) refused) (h.rest ++ z)) (by_shape (k y) (read p u) refused (h.rest ++ z)) (took w.0 z) (out_end (beyond s) cs (class_of (h.rest ++ z)) (h.begins z (out z o))) w.1);
      }

  -- ---- from a token on

  -- the first of two takes nothing
  passed : {A : Type 0} (s : Syntax A) → Good s → Ready p s → (t : Token) → has (first s) (class_of_kind t.kind) ≡ false → nullable s ≡ true → (y : List Token) → (x : A) × (read p s (t ∷ y) ≡ took x (t ∷ y))
  passed s g r t h v y = subst (λ w. Passes w (read p s (t ∷ y)) (t ∷ y)) v (ps _ s g r (t ∷ y) h)

  -- behind a first of two that has none of its classes
  second : (xs ys : List Class) (v : Bool) (c : Class) → has (xs ++ only_if v ys) c ≡ true → has xs c ≡ false → (v ≡ true) × (has ys c ≡ true)
  second xs ys true c h k = elim (in_either xs ys c h) [ inl w ↦ true_false w k | inr w ↦ (refl, w) ]
  second xs ys false c h k = elim (in_either xs [] c h) [ inl w ↦ true_false w k | inr w ↦ absurd (cc) ]

  reach_apply : {A X : Type 0} (s : Syntax (A → X)) (t : Syntax A) → Good (apply s t) → closes (apply s t) ≡ true → Ready p (apply s t) → Reaches s → Reaches t → Reaches (apply s t)
  reach_apply s t g c r rs rt k h o =
      let q = any_both (there p) (guarded s) (guarded t) r in
      let u = both_case (closes s) (both (closes t) (both (clear (beyond s) t) (ends t much_room))) c in
      let v = both_case (clear (beyond s) t) (ends t much_room) (both_case (closes t) (both (clear (beyond s) t) (ends t much_room)) u.1).1 in
      elim (picked (has (first s) (class_of_kind k.kind)) (λ y. both (opens s l (class_of_kind k.kind)) (ends t l)) (λ y. opens t l (class_of_kind k.kind)) o) [
        | inl w ↦ let e = both_case (opens s l (class_of_kind k.kind)) (ends t l) w.1 in
            reach_then (read p s) (λ f j. and_then (read p t j) (λ x k. took (f x) k)) (beyond s) (beyond (apply s t)) (k ∷ []) (onward_apply s t g.1 q.1 v.0 e.1 rt) (rs k w.0 e.0)
        | inr w ↦ let e = second (first s) (first t) (nullable s) (class_of_kind k.kind) h w.0 in let f = rt k e.1 w.1 in record {
          rest = f.rest;
          reads = λ z o. let x = passed s g.0 q.0 k w.0 e.0 (f.rest ++ z) in let y = f.reads z (out_front (beyond t) (only_if (nullable t) (beyond s)) (class_of z) o) in
              (x.0 y.0, ap (λ v. and_then v (λ f j. and_then (read p t j) (λ x k. took (f x) k))) x.1 ∙ ap (λ v. and_then v (λ y k. took (x.0 y) k)) y.1);
        }
      ]

  reach_choice : {X : Type 0} (cs : List Class) (s t : Syntax X) (k : Token) → ((has cs (class_of_kind k.kind) ≡ true) × Reach (read p s) (beyond s) (k ∷ [])) ⊎ ((has cs (class_of_kind k.kind) ≡ false) × Reach (read p t) (beyond t) (k ∷ [])) → Reach (λ i. if has cs (class_of i) then read p s i else read p t i) (beyond s ++ (beyond t ++ only_if (nullable t) cs)) (k ∷ [])
  reach_choice cs s t k (inl w) = reach_as (read p s) (λ i. if has cs (class_of i) then read p s i else read p t i) (beyond s ++ (beyond t ++ only_if (nullable t) cs)) (k ∷ []) (λ z. if_true (has cs (class_of_kind k.kind)) (read p s (k ∷ z)) (read p t (k ∷ z)) (read p s (k ∷ z)) w.0 refl) (reach_wider (read p s) (beyond s) (beyond s ++ (beyond t ++ only_if (nullable t) cs)) (k ∷ []) (out_front (beyond s) (beyond t ++ only_if (nullable t) cs)) w.1)
  reach_choice cs s t k (inr w) = reach_as (read p t) (λ i. if has cs (class_of i) then read p s i else read p t i) (beyond s ++ (beyond t ++ only_if (nullable t) cs)) (k ∷ []) (λ z. if_false (has cs (class_of_kind k.kind)) (read p s (k ∷ z)) (read p t (k ∷ z)) (read p t (k ∷ z)) w.0 refl) (reach_wider (read p t) (beyond t) (beyond s ++ (beyond t ++ only_if (nullable t) cs)) (k ∷ []) (λ c o. out_front (beyond t) (only_if (nullable t) cs) c (out_end (beyond s) (beyond t ++ only_if (nullable t) cs) c o)) w.1)

  reach_either : {X : Type 0} (cs : List Class) (s t : Syntax X) → Good (either cs s t) → Reaches s → Reaches t → Reaches (either cs s t)
  reach_either cs s t g rs rt k h o = reach_choice cs s t k (elim (picked (has cs (class_of_kind k.kind)) (λ y. opens s l (class_of_kind k.kind)) (λ y. opens t l (class_of_kind k.kind)) o) [
    | inl w ↦ inl (w.0, rs k (also cs (first s) (class_of_kind k.kind) g.3.0 w.0) w.1)
    | inr w ↦ inr (w.0, rt k (second (first s) (first t) true (class_of_kind k.kind) h (not_also (first s) cs (class_of_kind k.kind) g.3.1 w.0)).1 w.1)
  ])

  reach_switch : {X : Type 0} (cs : List Class) (s t : Syntax X) → Good (switch cs s t) → Reaches s → Reaches t → Reaches (switch cs s t)
  reach_switch cs s t g rs rt k h o = reach_choice cs s t k (elim (picked (has cs (class_of_kind k.kind)) (λ y. opens s l (class_of_kind k.kind)) (λ y. opens t l (class_of_kind k.kind)) o) [
    | inl w ↦ inl (w.0, rs k (also cs (first s) (class_of_kind k.kind) g.3 w.0) w.1)
    | inr w ↦ inr (w.0, rt k (second cs (first t) true (class_of_kind k.kind) h w.0).1 w.1)
  ])

  reach_row : {A B : Type 0} (s : Syntax (List A)) (cs : List Class) (t : Syntax (Step A B)) (r : B) → Good (row s cs t r) → Ready p (row s cs t r) → Reaches s → Reaches t → Reaches (row s cs t r)
  reach_row s cs t r g q rs rt k h o = elim (picked (has (first s) (class_of_kind k.kind)) (λ y. opens s l (class_of_kind k.kind)) (λ y. opens t l (class_of_kind k.kind)) o) [
    | inl w ↦ reach_then (read p s) (λ found j. steps cs (read p t) r (length j) found j) (beyond s) (beyond (row s cs t r)) (k ∷ []) (onward_row s cs t r) (rs k w.0 w.1)
    | inr w ↦ let e = second (first s) (first t) (nullable s) (class_of_kind k.kind) h w.0 in let f = rt k e.1 w.1 in record {
      rest = f.rest;
      reads = λ z o.
          let x = passed s g.0 (any_both (there p) (guarded s) (guarded t) q).0 k w.0 e.0 (f.rest ++ z) in
          let out = out_end (beyond s) (beyond t ++ cs) (class_of z) o in
          let y = f.reads z (out_front (beyond t) cs (class_of z) out) in
          (one_step_more x.0 r y.0, ap (λ v. and_then v (λ found j. steps cs (read p t) r (length j) found j)) x.1 ∙ one_step_ends cs (read p t) r (length (k ∷ (f.rest ++ z))) x.0 (k ∷ (f.rest ++ z)) z y.0 (omega arith) (also (first t) cs (class_of_kind k.kind) g.3.1 e.1) y.1 (out_end (beyond t) cs (class_of z) out));
    }
  ]

  reach_deeper : {X : Type 0} (cs : List Class) (s : Syntax X) → Reaches s → Reaches (deeper cs s)
  reach_deeper cs s rs k h o =
      let u = both_case (some_room l) (opens s l (class_of_kind k.kind)) o in
      reach_as (read p s) (within p cs (read p s)) (beyond s) (k ∷ []) (λ z. within_there p cs (read p s) (k ∷ z) (room u.0)) (rs k h u.1)

  reach_shaped : {A C D X : Type 0} (s : Syntax A) (f : A → Option C) (cs : List Class) (t : Syntax (C → X)) (g : A → Option D) (u : Syntax (D → X)) (o : AlwaysOne f g) → Good (shaped s f cs t g u o) → closes (shaped s f cs t g u o) ≡ true → Ready p (shaped s f cs t g u o) → Reaches s → Reaches t → Reaches u → Reaches (shaped s f cs t g u o)
  reach_shaped s f cs t k u (always_first a) g c r rs rt ru b h o =
      let e = both_case (opens s l (class_of_kind b.kind)) (ends t l) o in
      reach_then (read p s) (onward_by f cs t k u) (beyond s) (beyond (shaped s f cs t k u (always_first a))) (b ∷ []) (onward_first s f cs t k u a g (shaped_rest s t u (beyond s) t c).3 e.1 rt) (rs b h e.0)
  reach_shaped s f cs t k u (always_second a) g c r rs rt ru b h o =
      let e = both_case (opens s l (class_of_kind b.kind)) (ends u l) o in
      let q = any_both (there p) (guarded t) (guarded u) (any_both (there p) (guarded s) (both (guarded t) (guarded u)) r).1 in
      reach_then (read p s) (onward_by f cs t k u) (beyond s) (beyond (shaped s f cs t k u (always_second a))) (b ∷ []) (onward_second s f cs t k u a g q.1 (shaped_rest s t u (beyond s ++ cs) u c).3 e.1 ru) (rs b h e.0)

  pub reaches : {X : Type 0} (s : Syntax X) → Good s → closes s ≡ true → Ready p s → Reaches s
  reaches (give x) g c r t h o = absurd (cc)
  reaches (token s) g c r t h o = reach_token s t h
  reaches line g c r t h o = absurd (cc)
  reaches (inside n) g c r t h o = ri n t h o
  reaches (apply s t) g c r k h o =
      let q = any_both (there p) (guarded s) (guarded t) r in
      let u = both_case (closes s) (both (closes t) (both (clear (beyond s) t) (ends t much_room))) c in
      reach_apply s t g c r (reaches s g.0 u.0 q.0) (reaches t g.1 (both_case (closes t) (both (clear (beyond s) t) (ends t much_room)) u.1).0 q.1) k h o
  reaches (either cs s t) g c r k h o =
      let q = any_both (there p) (guarded s) (guarded t) r in
      let u = both_case (closes s) (closes t) c in
      reach_either cs s t g (reaches s g.0 u.0 q.0) (reaches t g.1 u.1 q.1) k h o
  reaches (switch cs s t) g c r k h o =
      let q = any_both (there p) (guarded s) (guarded t) r in
      let u = both_case (closes s) (closes t) c in
      reach_switch cs s t g (reaches s g.0 u.0 q.0) (reaches t g.1 u.1 q.1) k h o
  reaches (row s cs t e) g c r k h o =
      let q = any_both (there p) (guarded s) (guarded t) r in
      let u = both_case (closes s) (closes t) c in
      reach_row s cs t e g r (reaches s g.0 u.0 q.0) (reaches t g.1 u.1 q.1) k h o
  reaches (deeper cs s) g c r k h o =
      let e = room (both_case (some_room l) (opens s l (class_of_kind k.kind)) o).0 in
      reach_deeper cs s (reaches s g.0 (both_case (closes s) (all_open s much_room cs) c).0 (ap (λ z. any z (guarded s)) e)) k h o
  reaches (shaped s f cs t k u v) g c r b h o =
      let q = any_both (there p) (guarded s) (both (guarded t) (guarded u)) r in
      let w = any_both (there p) (guarded t) (guarded u) q.1 in
      let e = shaped_close s f cs t k u v c in
      reach_shaped s f cs t k u v g c r (reaches s g.0 e.0 q.0) (reaches t g.1 e.1 w.0) (reaches u g.2 e.2 w.1) b h o

-- ---- at each number of levels

pub rooms_there : (k : ℕ) → some_room (room_at k) ≡ true → there (inside_at k) ≡ true
unfolding inside_at
rooms_there zero h = absurd (cc)
rooms_there (suc k) h = refl

abbrev ReachesInside : ℕ → Type 0
ReachesInside k = (n : Nonterminal) (t : Token) → has (first_inside n) (class_of_kind t.kind) ≡ true → opens_inside (room_at k) n (class_of_kind t.kind) ≡ true → Reach (read_inside (inside_at k) n) (beyond_inside n) (t ∷ [])

reaches_by : (k : ℕ) → ReachesInside k → {X : Type 0} (s : Syntax X) → Good s → closes s ≡ true → Ready (inside_at k) s → (t : Token) → has (first s) (class_of_kind t.kind) ≡ true → opens s (room_at k) (class_of_kind t.kind) ≡ true → Reach (read (inside_at k) s) (beyond s) (t ∷ [])
reaches_by k ri s g c r t h o = reaches (inside_at k) (room_at k) (rooms_there k) (λ X s g r a h. passes_at k s g r a h) ri s g c r t h o

-- a production one level deeper
reach_rule : (k : ℕ) → ReachesInside k → (n : Nonterminal) (t : Token) → has (first_inside n) (class_of_kind t.kind) ≡ true → opens (rule n) (room_at k) (class_of_kind t.kind) ≡ true → Reach (read (inside_at k) (rule n)) (beyond_inside n) (t ∷ [])
reach_rule k ri n t h o =
    reach_wider (read (inside_at k) (rule n)) (beyond (rule n)) (beyond_inside n) (t ∷ []) (λ c o. not_also (beyond (rule n)) (beyond_inside n) c (rule_beyond n) o)
    (reaches_by k ri (rule n) (good_rule n) (rule_closes n) (ready k (rule n) (rule_guarded n)) t (also (first_inside n) (first (rule n)) (class_of_kind t.kind) (rule_begins n) h) o)

-- with no further level the first class is enough
opens_first : (n : Nonterminal) (c : Class) → both (opposite (nullable_inside n)) (same c (lead (first_inside n))) ≡ true → opens (rule n) no_room c ≡ true
opens_first n c h =
    let u = both_case (opposite (nullable_inside n)) (same c (lead (first_inside n))) h in
    subst (λ d. opens (rule n) no_room d ≡ true) (sym (same_true c (lead (first_inside n)) u.1)) (subst (λ v. any v (opens (rule n) no_room (lead (first_inside n))) ≡ true) (flipped (nullable_inside n) u.0) (rule_ends n))

pub reaches_inside : (k : ℕ) → ReachesInside k
unfolding inside_at
reaches_inside zero n t h o = absurd (cc)
reaches_inside (suc zero) n t h o = reach_rule zero (reaches_inside zero) n t h (opens_first n (class_of_kind t.kind) o)
reaches_inside (suc (suc zero)) n t h o = reach_rule (suc zero) (reaches_inside (suc zero)) n t h (each_opens (rule n) little_room (first_inside n) (class_of_kind t.kind) (rule_opens n) h)
reaches_inside (suc (suc (suc k))) n t h o = reach_rule (suc (suc k)) (reaches_inside (suc (suc k))) n t h (each_opens (rule n) much_room (first_inside n) (class_of_kind t.kind) (rule_opens_more n) h)

pub reaches_at : (k : ℕ) {X : Type 0} (s : Syntax X) → Good s → closes s ≡ true → Ready (inside_at k) s → (t : Token) → has (first s) (class_of_kind t.kind) ≡ true → opens s (room_at k) (class_of_kind t.kind) ≡ true → Reach (read (inside_at k) s) (beyond s) (t ∷ [])
reaches_at k s g c r t h o = reaches_by k (reaches_inside k) s g c r t h o
