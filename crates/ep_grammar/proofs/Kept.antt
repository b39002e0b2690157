-- What a parser took it takes too before other tokens, and with the same meaning where that holds no line of a token that follows.
use Rattle.std.proofs.Common.{◌≡◌, ℕ, zero, suc, ◌<◌, Bool, true, false, List, [], ◌∷◌, ◌++◌, length, Option, Some, None, refl, sym, ap, ◌∙◌, subst, append_assoc, arith, inl, inr, length-append}
use Rattle.std.specs.Prelude.{if◌then◌else◌, ◌⊎◌}
use Rattle.ep_token.specs.declared.token.Token.{Token}
use Rattle.ep_grammar.specs.Classes.{Class, has, class_of, line_of, End}
use Rattle.ep_grammar.specs.Descriptions.{Nonterminal, Node, Step, More, Last, HasShape, AlwaysOne, always_first, always_second, Syntax, give, token, line, inside, apply, either, switch, row, deeper, shaped}
use Rattle.ep_grammar.specs.Reading.{Parser, and_then, taken, go_on, steps, Inside, read_inside, within, by_shape, refused, read}
use Rattle.ep_grammar.specs.Rules.{rule, derived_at, inside_at}
use Rattle.ep_grammar.proofs.public.Outcomes.{took, never, bind_ok, same_took}
use Rattle.ep_grammar.proofs.Classed.{true_false, not_also, out_front, out_end}
use Rattle.ep_grammar.proofs.Static.{both, any, opposite, only_if, nullable, first, Good, both_case}
use Rattle.ep_grammar.proofs.Checked.{good_rule}
use Rattle.ep_grammar.proofs.Sorts.{there}
use Rattle.ep_grammar.proofs.Sound.{token_ok, chosen, within_ok, by_shape_ok, sound}
use Rattle.ep_grammar.proofs.Complete.{begun, if_true, if_false, shape_took}
use Rattle.ep_grammar.proofs.public.Knot.{sound_at, begun_at}
use Rattle.ep_grammar.proofs.Ending.{beyond, beyond_inside, steady, steady_inside, lasts, none, ends, Room, room_at, some_room}
use Rattle.ep_grammar.proofs.Ended.{rule_beyond, rule_steady, rule_lasts_none, rule_lasts_little, rule_lasts_much}
use Rattle.ep_grammar.proofs.public.Like.{Like, Takes, shorter}
use Rattle.ep_grammar.proofs.public.Looks.{ends_not, no_end, step_takes_at, alike_at, looks_at}
use Rattle.ep_grammar.proofs.Passing.{no_steps}
use Rattle.ep_grammar.proofs.Reach.{behind_nothing, one_step_more, one_step_ends, within_there}
use Rattle.ep_grammar.proofs.Ahead.{class_up, moved, longer, next_steps}

-- From a the parser took tokens up to b and made x of them. It takes the same before what does not go on with them, and where the Boolean is true it makes x of them.
pub record Kept {X : Type 0} (q : Parser X) (cs : List Class) (v : Bool) (x : X) (a b : List Token) : Type 0 where
  pub up : List Token
  pub is : a ≡ up ++ b
  pub reads : (z : List Token) → has cs (class_of z) ≡ false → (y : X) × (v ≡ true → y ≡ x) × (q (up ++ z) ≡ took y z)

-- ---- the parts

-- with more classes that must not follow, and less often the same meaning
kept_weaker : {X : Type 0} (q : Parser X) (cs ds : List Class) (v w : Bool) (x : X) (a b : List Token) → ((c : Class) → has ds c ≡ false → has cs c ≡ false) → (w ≡ true → v ≡ true) → Kept q cs v x a b → Kept q ds w x a b
kept_weaker q cs ds v w x a b f g k = record { up = k.up; is = k.is; reads = λ z o. let r = k.reads z (f (class_of z) o) in (r.0, λ e. r.1 (g e), r.2) }

-- another parser that answers the same
kept_same : {X : Type 0} (q p : Parser X) (cs : List Class) (v : Bool) (x : X) (a b : List Token) → ((i : List Token) → p i ≡ q i) → Kept q cs v x a b → Kept p cs v x a b
kept_same q p cs v x a b f k = record { up = k.up; is = k.is; reads = λ z o. let r = k.reads z o in (r.0, r.1, f (k.up ++ z) ∙ r.2) }

-- with another meaning
kept_map : {A B : Type 0} (q : Parser A) (h : A → B) (cs : List Class) (v : Bool) (x : A) (a b : List Token) → Kept q cs v x a b → Kept (λ i. and_then (q i) (λ x k. took (h x) k)) cs v (h x) a b
kept_map q h cs v x a b k = record { up = k.up; is = k.is; reads = λ z o. let r = k.reads z o in (h r.0, λ e. ap h (r.1 e), ap (λ o. and_then o (λ x k. took (h x) k)) r.2) }

-- where nothing was taken
kept_nothing : {X : Type 0} (q : Parser X) (cs : List Class) (v : Bool) (x : X) (a b : List Token) → Kept q cs v x a b → a ≡ b → (z : List Token) → has cs (class_of z) ≡ false → (y : X) × (v ≡ true → y ≡ x) × (q z ≡ took y z)
kept_nothing q cs v x a b k h z o = let r = k.reads z o in (r.0, r.1, ap (λ w. q (w ++ z)) (sym (shorter k.up b (sym k.is ∙ h))) ∙ r.2)

-- one after the other: the second took tokens, or none
module _ {A B : Type 0} (q : Parser A) (h : A → Parser B) (cs ds : List Class) (v w : Bool) (x : A) (y : B) (a m b : List Token) (l : Like true q q) (e : q a ≡ took x m) (s : Kept q cs v x a m)
    (out : m ≡ b → (c : Class) → has ds c ≡ false → has cs c ≡ false)
    (near : m ≡ b → (x' : A) → (v ≡ true → x' ≡ x) → (z : List Token) → has ds (class_of z) ≡ false → (y' : B) × (w ≡ true → y' ≡ y) × (h x' z ≡ took y' z)) where
  kept_behind : (up : List Token) → m ≡ up ++ b → ((z : List Token) → has ds (class_of z) ≡ false → (y' : B) × (w ≡ true → y' ≡ y) × (h x (up ++ z) ≡ took y' z)) → Kept (λ i. and_then (q i) h) ds w y a b
  kept_behind [] f reads = record {
    up = s.up;
    is = s.is ∙ ap (λ r. s.up ++ r) f;
    reads = λ z o.
        let r = s.reads z (out f (class_of z) o) in
        let n = near f r.0 r.1 z o in
        (n.0, n.1, ap (λ o. and_then o h) r.2 ∙ n.2);
  }
  kept_behind (t ∷ up) f reads =
      let g = moved true q q l a m x e (t ∷ up) b f (omega arith) in
      record {
        up = g.0 ++ (t ∷ up);
        is = g.1 ∙ ap (λ w. g.0 ++ w) f ∙ sym (append_assoc g.0 (t ∷ up) b);
        reads = λ z o.
            let r = reads z o in
            (r.0, r.1, ap (λ i. and_then (q i) h) (append_assoc g.0 (t ∷ up) z) ∙ ap (λ o. and_then o h) (g.2 z) ∙ r.2);
      }

  pub kept_then : Kept (h x) ds w y m b → Kept (λ i. and_then (q i) h) ds w y a b
  kept_then k = kept_behind k.up k.is k.reads

-- nothing was taken, or the first token is the same
at_first : (up a b : List Token) → a ≡ up ++ b → (z : List Token) → ((a ≡ b) × (up ≡ [])) ⊎ (class_of (up ++ z) ≡ class_of a)
at_first [] a b e z = inl (e, refl)
at_first (t ∷ up) a b e z = inr (sym (ap class_of e))

-- the one of two that a class decides
kept_if : {X : Type 0} (cs ds : List Class) (p q : Parser X) (w : Bool) (x : X) (a b : List Token) → ((has cs (class_of a) ≡ true) × Kept p ds w x a b × (a ≡ b → Kept q ds w x a b)) ⊎ ((has cs (class_of a) ≡ false) × Kept q ds w x a b) → (a ≡ b → (c : Class) → has ds c ≡ false → has cs c ≡ false) → Kept (λ i. if has cs (class_of i) then p i else q i) ds w x a b
kept_if cs ds p q w x a b (inl k) out = record {
  up = k.1.up;
  is = k.1.is;
  reads = λ z o. elim (at_first k.1.up a b k.1.is z) [
    | inl f ↦ let r = kept_nothing q ds w x a b (k.2 f.0) f.0 z o in (r.0, r.1, ap (λ u. if has cs (class_of (u ++ z)) then p (u ++ z) else q (u ++ z)) f.1 ∙ if_false (has cs (class_of z)) (p z) (q z) (took r.0 z) (out f.0 (class_of z) o) r.2)
    | inr f ↦ let r = k.1.reads z o in (r.0, r.1, if_true (has cs (class_of (k.1.up ++ z))) (p (k.1.up ++ z)) (q (k.1.up ++ z)) (took r.0 z) (ap (has cs) f ∙ k.0) r.2)
  ];
}
kept_if cs ds p q w x a b (inr k) out = record {
  up = k.1.up;
  is = k.1.is;
  reads = λ z o.
      let r = k.1.reads z o in
      let class : has cs (class_of (k.1.up ++ z)) ≡ false = elim (at_first k.1.up a b k.1.is z) [
        | inl f ↦ ap (λ u. has cs (class_of (u ++ z))) f.1 ∙ out f.0 (class_of z) o
        | inr f ↦ ap (has cs) f ∙ k.0
      ] in
      (r.0, r.1, if_false (has cs (class_of (k.1.up ++ z))) (p (k.1.up ++ z)) (q (k.1.up ++ z)) (took r.0 z) class r.2);
}

-- the one of two that a shape decides
kept_shape : {C X : Type 0} (o : Option C) (p : Parser (C → X)) (q : Parser X) (ds : List Class) (w : Bool) (x : X) (a b : List Token) → ((h : C → X) → p a ≡ took h b → Kept p ds w h a b) → (q a ≡ took x b → Kept q ds w x a b) → by_shape o p q a ≡ took x b → Kept (by_shape o p q) ds w x a b
kept_shape None p q ds w x a b f g e = g e
kept_shape (Some c) p q ds w x a b f g e =
    let v = bind_ok (p a) (λ h k. took (h c) k) e in
    let s = same_took v.3 in
    subst (λ y. Kept (by_shape (Some c) p q) ds w y a b) s.0 (kept_map p (λ h. h c) ds w v.0 a b (f v.0 (v.2 ∙ ap (took v.0) s.1)))

-- ---- rows

module _ {A B : Type 0} (cs ds : List Class) (p : Parser (Step A B)) (r : B) (v : Bool) (l : Like true p p) (tp : Takes p) (e : has cs End ≡ false) (kp : (a : List Token) (s : Step A B) (b : List Token) → p a ≡ took s b → Kept p ds v s a b) where
  abbrev RowKept : List A → List A × B → List Token → List Token → Type 0
  RowKept found out a b = Kept (λ j. steps cs p r (length j) found j) (ds ++ cs) v out a b

  -- no step
  row_end : (found : List A) (a b : List Token) (out : List A × B) → took (found, r) a ≡ took out b → RowKept found out a b
  row_end found a b out h = let q = same_took h in record { up = []; is = q.1; reads = λ z o. ((found, r), λ f. q.0, no_steps cs p r (length z) found z (out_end ds cs (class_of z) o)) }

  -- the last step
  pub row_last : (found : List A) (s : Step A B) (a m : List Token) → has cs (class_of a) ≡ true → p a ≡ took s m → RowKept found (one_step_more found r s) a m
  row_last found s a m h f = let k = kp a s m f in record {
    up = k.up;
    is = k.is;
    reads = λ z o.
        let w = k.reads z (out_front ds cs (class_of z) o) in
        let some : 0 < length k.up = omega (arith, tp a s m f, ap length k.is, length-append k.up m) in
        (one_step_more found r w.0, λ f. ap (one_step_more found r) (w.1 f), one_step_ends cs p r (length (k.up ++ z)) found (k.up ++ z) z w.0 (longer_front k.up z some) (ap (has cs) (class_up k.up z m some ∙ ap class_of (sym k.is)) ∙ h) w.2 (out_end ds cs (class_of z) o));
  }
    where
      longer_front : (up z : List Token) → 0 < length up → 0 < length (up ++ z)
      longer_front up z h = omega (arith, length-append up z)

  -- a step that took an item, and steps that took tokens or none
  row_more : (found : List A) (x : A) (a m b : List Token) (out : List A × B) → has cs (class_of a) ≡ true → p a ≡ took (More x) m → (up : List Token) → m ≡ up ++ b → ((z : List Token) → has (ds ++ cs) (class_of z) ≡ false → (y : List A × B) × (v ≡ true → y ≡ out) × (steps cs p r (length (up ++ z)) (found ++ x ∷ []) (up ++ z) ≡ took y z)) → RowKept found out a b
  row_more found x a m b out h f [] g reads = let k = row_last found (More x) a m h f in record {
    up = k.up;
    is = k.is ∙ ap (λ w. k.up ++ w) g;
    reads = λ z o.
        let w = k.reads z o in
        let y = reads z o in
        (w.0, λ f. w.1 f ∙ (same_took (sym (no_steps cs p r (length z) (found ++ x ∷ []) z (out_end ds cs (class_of z) o)) ∙ y.2)).0 ∙ y.1 f, w.2);
  }
  row_more found x a m b out h f (t ∷ up) g reads =
      let w = moved true p p l a m (More x) f (t ∷ up) b g (omega arith) in
      record {
        up = w.0 ++ (t ∷ up);
        is = w.1 ∙ ap (λ u. w.0 ++ u) g ∙ sym (append_assoc w.0 (t ∷ up) b);
        reads = λ z o.
            let y = reads z o in
            let u = t ∷ up in
            let begun : class_of (w.0 ++ (u ++ z)) ≡ class_of a = ap class_of (sym (append_assoc w.0 u z)) ∙ class_up (w.0 ++ u) z b (longer w.0 u (omega arith)) ∙ ap class_of (append_assoc w.0 u b ∙ ap (λ i. w.0 ++ i) (sym g) ∙ sym w.1) in
            (y.0, y.1, ap (λ i. steps cs p r (length i) found i) (append_assoc w.0 u z) ∙ next_steps cs ds true p p r l tp e (length (w.0 ++ (u ++ z))) found (w.0 ++ (u ++ z)) (u ++ z) x (omega arith) (ap (has cs) begun ∙ h) (w.2 z) ∙ y.2);
      }

  row_kept_step : (more : List A → Parser (List A × B)) → ((found : List A) (a : List Token) (out : List A × B) (b : List Token) → more found a ≡ took out b → RowKept found out a b) → (found : List A) (s : Step A B) (a m : List Token) (out : List A × B) (b : List Token) → has cs (class_of a) ≡ true → p a ≡ took s m → go_on more found s m ≡ took out b → RowKept found out a b
  row_kept_step more rec found (More x) a m out b h f g = let k = rec (found ++ x ∷ []) m out b g in row_more found x a m b out h f k.up k.is k.reads
  row_kept_step more rec found (Last q) a m out b h f g = let w = same_took g in subst (λ y. RowKept found y a b) w.0 (subst (λ i. RowKept found (found, q) a i) w.1 (row_last found (Last q) a m h f))

  pub rows_kept : (n : ℕ) (found : List A) (a : List Token) (out : List A × B) (b : List Token) → steps cs p r n found a ≡ took out b → RowKept found out a b
  unfolding steps
  rows_kept zero found a out b h = row_end found a b out h
  rows_kept (suc n) found a out b h = elim (chosen (has cs (class_of a)) (and_then (p a) (go_on (steps cs p r n) found)) (took (found, r) a) h) [
    | inl w ↦ let u = bind_ok (p a) (go_on (steps cs p r n) found) w.1 in row_kept_step (steps cs p r n) (λ found a out b h. rows_kept n found a out b h) found u.0 a u.1 out b w.0 u.2 u.3
    | inr w ↦ row_end found a b out w.1
  ]

-- steps that took nothing leave what was found
steps_nothing : {A B : Type 0} (cs ds : List Class) (p : Parser (Step A B)) (r : B) (v : Bool) (found : List A) (out : List A × B) (a b : List Token) → Kept (λ j. steps cs p r (length j) found j) (ds ++ cs) v out a b → a ≡ b → (z : List Token) → has (ds ++ cs) (class_of z) ≡ false → v ≡ true → (found, r) ≡ out
steps_nothing cs ds p r v found out a b k h z o e =
    let y = kept_nothing (λ j. steps cs p r (length j) found j) (ds ++ cs) v out a b k h z o in
    let none_taken : (found, r) ≡ y.0 = (same_took (sym (no_steps cs p r (length z) found z (out_end ds cs (class_of z) o)) ∙ y.2)).0 in
    none_taken ∙ y.1 e

-- ---- every description

-- the parts of a shaped description
pub shaped_last : {A C D X : Type 0} (l : Room) (s : Syntax A) (f : A → Option C) (cs : List Class) (t : Syntax (C → X)) (k : A → Option D) (u : Syntax (D → X)) (o : AlwaysOne f k) → lasts (shaped s f cs t k u o) l ≡ true → (lasts s l ≡ true) × (lasts t l ≡ true) × (lasts u l ≡ true)
shaped_last l s f cs t k u (always_first h) last =
    let v = both_case (lasts s l) (both (lasts t l) (both (lasts u l) (both (ends t l) (any (opposite (nullable u)) (steady s))))) last in
    let w = both_case (lasts t l) (both (lasts u l) (both (ends t l) (any (opposite (nullable u)) (steady s)))) v.1 in
    (v.0, w.0, (both_case (lasts u l) (both (ends t l) (any (opposite (nullable u)) (steady s))) w.1).0)
shaped_last l s f cs t k u (always_second h) last =
    let v = both_case (lasts s l) (both (lasts t l) (both (lasts u l) (ends u l))) last in
    let w = both_case (lasts t l) (both (lasts u l) (ends u l)) v.1 in
    (v.0, w.0, (both_case (lasts u l) (ends u l) w.1).0)

-- what took tokens where levels are tested had one
there_within : {X : Type 0} (p : Option Inside) (cs : List Class) (q : Parser X) (a : List Token) (x : X) (b : List Token) → within p cs q a ≡ took x b → there p ≡ true
there_within None cs q a x b h = never h
there_within (Some e) cs q a x b h = refl

shape_there : {C : Type 0} (o : Option C) → HasShape o → (c : C) × (o ≡ Some c)
shape_there None h = absurd h
shape_there (Some c) h = (c, refl)

same_some : {A : Type 0} {x y : A} → Some x ≡ Some y → x ≡ y
same_some h = cc

pub if_any : (a b : Bool) → any (opposite a) b ≡ true → a ≡ true → b ≡ true
if_any true b h e = h
if_any false b h e = absurd (cc)

module _ (p : Option Inside) (l : Room) (room : there p ≡ true → some_room l ≡ true) (li : (X : Type 0) (s : Syntax X) → Good s → Like true (read p s) (read p s)) (tp : (A B : Type 0) (t : Syntax (Step A B)) → Good t → nullable t ≡ false → Takes (read p t))
    (nu : (X : Type 0) (s : Syntax X) → Good s → (a : List Token) (x : X) → read p s a ≡ took x a → nullable s ≡ true)
    (ki : (n : Nonterminal) (a : List Token) (x : Node n) (b : List Token) → read_inside p n a ≡ took x b → Kept (read_inside p n) (beyond_inside n) (steady_inside n) x a b) where
  abbrev Keeps : {X : Type 0} → Syntax X → Type 0
  Keeps s = (a : List Token) (x : _) (b : List Token) → read p s a ≡ took x b → Kept (read p s) (beyond s) (steady s) x a b

  -- what took nothing can be nothing
  took_nothing : {X : Type 0} (s : Syntax X) → Good s → (a : List Token) (x : X) (b : List Token) → read p s a ≡ took x b → a ≡ b → nullable s ≡ true
  took_nothing s g a x b h e = nu _ s g a x (h ∙ ap (took x) (sym e))

  keeps_apply : {A X : Type 0} (s : Syntax (A → X)) (t : Syntax A) → Good (apply s t) → Keeps s → Keeps t → Keeps (apply s t)
  keeps_apply s t g ks kt a x b h =
      let u = bind_ok (read p s a) (λ f j. and_then (read p t j) (λ y k. took (f y) k)) h in
      let v = bind_ok (read p t u.1) (λ y k. took (u.0 y) k) u.3 in
      let q = same_took v.3 in
      subst (λ w. Kept (read p (apply s t)) (beyond (apply s t)) (steady (apply s t)) w a b) q.0 (on u.0 u.1 v.0 u.2 (v.2 ∙ ap (took v.0) q.1))
    where
      on : (f : _ → _) (m : List Token) (y : _) → read p s a ≡ took f m → read p t m ≡ took y b → Kept (read p (apply s t)) (beyond (apply s t)) (steady (apply s t)) (f y) a b
      on f m y e d =
          let k = kt m y b d in
          kept_then (read p s) (λ f j. and_then (read p t j) (λ y k. took (f y) k)) (beyond s) (beyond (apply s t)) (steady s) (steady (apply s t)) f (f y) a m b (li _ s g.0) e (ks a f m e)
          (λ i c o. behind_nothing (took_nothing t g.1 m y b d i) (beyond s) c (out_end (beyond t) (only_if (nullable t) (beyond s)) c o))
          (λ i f' same z o.
          let r = kept_nothing (read p t) (beyond t) (steady t) y m b k i z (out_front (beyond t) (only_if (nullable t) (beyond s)) (class_of z) o) in
          (f' r.0, λ w. let c = both_case (steady t) (any (opposite (nullable t)) (steady s)) w in ap (λ g. g r.0) (same (if_any (nullable t) (steady s) c.1 (took_nothing t g.1 m y b d i))) ∙ ap f (r.1 c.0), ap (λ o. and_then o (λ y k. took (f' y) k)) r.2))
          (kept_weaker (λ j. and_then (read p t j) (λ y k. took (f y) k)) (beyond t) (beyond (apply s t)) (steady t) (steady (apply s t)) (f y) m b (out_front (beyond t) (only_if (nullable t) (beyond s))) (λ w. (both_case (steady t) (any (opposite (nullable t)) (steady s)) w).0) (kept_map (read p t) f (beyond t) (steady t) y m b k))

  keeps_choice : {X : Type 0} (cs : List Class) (s t : Syntax X) → Good s → Good t → nullable s ≡ false → Keeps s → Keeps t → (a : List Token) (x : X) (b : List Token) → (if has cs (class_of a) then read p s a else read p t a) ≡ took x b → Kept (λ i. if has cs (class_of i) then read p s i else read p t i) (beyond s ++ (beyond t ++ only_if (nullable t) cs)) (both (steady s) (steady t)) x a b
  keeps_choice {X} cs s t gs gt ns ks kt a x b h = elim (chosen (has cs (class_of a)) (read p s a) (read p t a) h) [
    | inl w ↦ let no : (Y : Type 0) → a ≡ b → Y = λ Y e. true_false (took_nothing s gs a x b w.1 e) ns in
        kept_if cs ds (read p s) (read p t) v x a b (inl (w.0, kept_weaker (read p s) (beyond s) ds (steady s) v x a b (out_front (beyond s) (beyond t ++ only_if (nullable t) cs)) (λ e. (both_case (steady s) (steady t) e).0) (ks a x b w.1), λ e. no (Kept (read p t) ds v x a b) e)) (λ e c o. no (has cs c ≡ false) e)
    | inr w ↦ kept_if cs ds (read p s) (read p t) v x a b (inr (w.0, kept_weaker (read p t) (beyond t) ds (steady t) v x a b (λ c o. out_front (beyond t) (only_if (nullable t) cs) c (out_end (beyond s) (beyond t ++ only_if (nullable t) cs) c o)) (λ e. (both_case (steady s) (steady t) e).1) (kt a x b w.1)))
        (λ e c o. behind_nothing (took_nothing t gt a x b w.1 e) cs c (out_end (beyond t) (only_if (nullable t) cs) c (out_end (beyond s) (beyond t ++ only_if (nullable t) cs) c o)))
  ]
    where
      ds : List Class
      ds = beyond s ++ (beyond t ++ only_if (nullable t) cs)

      v : Bool
      v = both (steady s) (steady t)

  keeps_row : {A B : Type 0} (s : Syntax (List A)) (cs : List Class) (t : Syntax (Step A B)) (r : B) → Good (row s cs t r) → Keeps s → Keeps t → Keeps (row s cs t r)
  keeps_row s cs t r g ks kt a x b h =
      let u = bind_ok (read p s a) (λ found j. steps cs (read p t) r (length j) found j) h in
      let k = rows_kept cs (beyond t) (read p t) r (steady t) (li _ t g.1) (tp _ _ t g.1 g.2) (ends_not cs (first t) g.3 (no_end t g.1)) kt (length u.1) u.0 u.1 x b u.3 in
      kept_then (read p s) (λ found j. steps cs (read p t) r (length j) found j) (beyond s) (beyond (row s cs t r)) (steady s) (both (steady s) (steady t)) u.0 x a u.1 b (li _ s g.0) u.2 (ks a u.0 u.1 u.2)
      (λ i c o. out_front (beyond s) (beyond t ++ cs) c o)
      (λ i found same z o.
      let out = out_end (beyond s) (beyond t ++ cs) (class_of z) o in
      ((found, r), λ w. let c = both_case (steady s) (steady t) w in ap (λ f. (f, r)) (same c.0) ∙ steps_nothing cs (beyond t) (read p t) r (steady t) u.0 x u.1 b k i z out c.1, no_steps cs (read p t) r (length z) found z (out_end (beyond t) cs (class_of z) out)))
      (kept_weaker (λ j. steps cs (read p t) r (length j) u.0 j) (beyond t ++ cs) (beyond (row s cs t r)) (steady t) (both (steady s) (steady t)) x u.1 b (out_end (beyond s) (beyond t ++ cs)) (λ w. (both_case (steady s) (steady t) w).1) k)

  keeps_deeper : {X : Type 0} (cs : List Class) (s : Syntax X) → (there p ≡ true → Keeps s) → Keeps (deeper cs s)
  keeps_deeper cs s ks a x b h =
      let e = there_within p cs (read p s) a x b h in
      kept_same (read p s) (within p cs (read p s)) (beyond s) (steady s) x a b (λ i. within_there p cs (read p s) i e) (ks e a x b (within_ok p cs (read p s) a x b h))

  -- the second of two shapes, of which nothing was taken
  abbrev SecondNothing : {A D X : Type 0} → (A → Option D) → Syntax (D → X) → A → X → List Token → List Token → Type 0
  SecondNothing k u y x m b = (c : _) × (h : _) × (k y ≡ Some c) × (read p u m ≡ took h b) × (x ≡ h c)

  by_second : {A D X : Type 0} (k : A → Option D) (u : Syntax (D → X)) (y : A) (x : X) (m b : List Token) → by_shape (k y) (read p u) refused m ≡ took x b → SecondNothing k u y x m b
  by_second k u y x m b e = elim (by_shape_ok (k y) (read p u) refused m x b e) [ inl w ↦ w | inr w ↦ never w ]

  -- where the second of two shapes may be nothing, it is there before other tokens too
  still_there : {A C D X : Type 0} (s : Syntax A) (f : A → Option C) (cs : List Class) (t : Syntax (C → X)) (k : A → Option D) (u : Syntax (D → X)) (o : AlwaysOne f k) → lasts (shaped s f cs t k u o) l ≡ true → nullable u ≡ true → (y y' : A) → (steady s ≡ true → y' ≡ y) → (c : D) → k y ≡ Some c → (c' : D) × (k y' ≡ Some c')
  still_there s f cs t k u (always_first h) last nul y y' same c e =
      let v = both_case (lasts s l) (both (lasts t l) (both (lasts u l) (both (ends t l) (any (opposite (nullable u)) (steady s))))) last in
      let w = both_case (lasts t l) (both (lasts u l) (both (ends t l) (any (opposite (nullable u)) (steady s)))) v.1 in
      let z = both_case (lasts u l) (both (ends t l) (any (opposite (nullable u)) (steady s))) w.1 in
      (c, ap k (same (if_any (nullable u) (steady s) (both_case (ends t l) (any (opposite (nullable u)) (steady s)) z.1).1 nul)) ∙ e)
  still_there s f cs t k u (always_second h) last nul y y' same c e = shape_there (k y') (h y')

  module _ {A C D X : Type 0} (s : Syntax A) (f : A → Option C) (cs : List Class) (t : Syntax (C → X)) (k : A → Option D) (u : Syntax (D → X)) (o : AlwaysOne f k) (g : Good (shaped s f cs t k u o)) (last : lasts (shaped s f cs t k u o) l ≡ true) (ks : Keeps s) (kt : Keeps t) (ku : Keeps u) where
    abbrev Out : List Class
    Out = beyond t ++ (beyond u ++ only_if (nullable u) (beyond s ++ cs))

    abbrev Fixed : Bool
    Fixed = both (steady t) (both (steady u) (any (opposite (nullable u)) (steady s)))

    abbrev Second : A → Parser X
    Second y = by_shape (k y) (read p u) refused

    abbrev Behind : A → Parser X
    Behind y j = if has cs (class_of j) then by_shape (f y) (read p t) (Second y) j else Second y j

    out_second : (c : Class) → has Out c ≡ false → has (beyond u) c ≡ false
    out_second c o = out_front (beyond u) (only_if (nullable u) (beyond s ++ cs)) c (out_end (beyond t) (beyond u ++ only_if (nullable u) (beyond s ++ cs)) c o)

    out_nothing : nullable u ≡ true → (c : Class) → has Out c ≡ false → has (beyond s ++ cs) c ≡ false
    out_nothing v c o = behind_nothing v (beyond s ++ cs) c (out_end (beyond u) (only_if (nullable u) (beyond s ++ cs)) c (out_end (beyond t) (beyond u ++ only_if (nullable u) (beyond s ++ cs)) c o))

    shaped_nothing : (y : A) (x : X) (m b : List Token) → Behind y m ≡ took x b → m ≡ b → SecondNothing k u y x m b
    shaped_nothing y x m b e i = elim (chosen (has cs (class_of m)) (by_shape (f y) (read p t) (Second y) m) (Second y m) e) [
      | inl v ↦ elim (by_shape_ok (f y) (read p t) (Second y) m x b v.1) [
        | inl z ↦ true_false (took_nothing t g.1 m z.1 b z.3 i) g.4
        | inr z ↦ by_second k u y x m b z
      ]
      | inr v ↦ by_second k u y x m b v.1
    ]

    -- of which nothing was taken
    second_null : (y : A) (x : X) (m b : List Token) → Behind y m ≡ took x b → m ≡ b → nullable u ≡ true
    second_null y x m b e i = let d = shaped_nothing y x m b e i in took_nothing u g.2 m d.1 b d.3 i

    of_second : (y : A) (x : X) (m b : List Token) → Second y m ≡ took x b → Kept (Second y) Out Fixed x m b
    of_second y x m b e = kept_shape (k y) (read p u) refused Out Fixed x m b (λ h d. kept_weaker (read p u) (beyond u) Out (steady u) Fixed h m b out_second (λ w. (both_case (steady u) (any (opposite (nullable u)) (steady s)) (both_case (steady t) (both (steady u) (any (opposite (nullable u)) (steady s))) w).1).0) (ku m h b d)) (λ d. never d) e

    of_first : (y : A) (x : X) (m b : List Token) → by_shape (f y) (read p t) (Second y) m ≡ took x b → Kept (by_shape (f y) (read p t) (Second y)) Out Fixed x m b
    of_first y x m b e = kept_shape (f y) (read p t) (Second y) Out Fixed x m b (λ h d. kept_weaker (read p t) (beyond t) Out (steady t) Fixed h m b (out_front (beyond t) (beyond u ++ only_if (nullable u) (beyond s ++ cs))) (λ w. (both_case (steady t) (both (steady u) (any (opposite (nullable u)) (steady s))) w).0) (kt m h b d)) (λ d. of_second y x m b d) e

    -- the first of two shapes took nothing, so it was not there
    first_nothing : (y : A) (x : X) (m b : List Token) → by_shape (f y) (read p t) (Second y) m ≡ took x b → m ≡ b → Kept (Second y) Out Fixed x m b
    first_nothing y x m b e i = elim (by_shape_ok (f y) (read p t) (Second y) m x b e) [ inl z ↦ true_false (took_nothing t g.1 m z.1 b z.3 i) g.4 | inr z ↦ of_second y x m b z ]

    behind : (y : A) (x : X) (m b : List Token) → Behind y m ≡ took x b → Kept (Behind y) Out Fixed x m b
    behind y x m b e = kept_if cs Out (by_shape (f y) (read p t) (Second y)) (Second y) Fixed x m b (elim (chosen (has cs (class_of m)) (by_shape (f y) (read p t) (Second y) m) (Second y m) e) [
      | inl v ↦ inl (v.0, of_first y x m b v.1, λ i. first_nothing y x m b v.1 i)
      | inr v ↦ inr (v.0, of_second y x m b v.1)
    ]) (λ i c o. out_end (beyond s) cs c (out_nothing (second_null y x m b e i) c o))

    near : (y : A) (x : X) (m b : List Token) → Behind y m ≡ took x b → m ≡ b → (y' : A) → (steady s ≡ true → y' ≡ y) → (z : List Token) → has Out (class_of z) ≡ false → (x' : X) × (Fixed ≡ true → x' ≡ x) × (Behind y' z ≡ took x' z)
    near y x m b e i y' same z far =
        let d = shaped_nothing y x m b e i in
        let nul = second_null y x m b e i in
        let c = still_there s f cs t k u o last nul y y' same d.0 d.2 in
        let r = kept_nothing (read p u) (beyond u) (steady u) d.1 m b (ku m d.1 b d.3) i z (out_second (class_of z) far) in (
          r.0 c.0,
          λ w. let v = both_case (steady u) (any (opposite (nullable u)) (steady s)) (both_case (steady t) (both (steady u) (any (opposite (nullable u)) (steady s))) w).1 in
              ap (λ q. q c.0) (r.1 v.0) ∙ ap d.1 (same_some (sym c.1 ∙ ap k (same (if_any (nullable u) (steady s) v.1 nul)) ∙ d.2)) ∙ sym d.4,
          if_false (has cs (class_of z)) (by_shape (f y') (read p t) (Second y') z) (Second y' z) (took (r.0 c.0) z) (out_end (beyond s) cs (class_of z) (out_nothing nul (class_of z) far)) (shape_took (k y') (read p u) refused z c.0 r.0 (r.0 c.0) z c.1 r.2 refl),
        )

    keeps_shaped : Keeps (shaped s f cs t k u o)
    keeps_shaped a x b h =
        let v = bind_ok (read p s a) Behind h in
        kept_then (read p s) Behind (beyond s) Out (steady s) Fixed v.0 x a v.1 b (li _ s g.0) v.2 (ks a v.0 v.1 v.2)
        (λ i c o. out_front (beyond s) cs c (out_nothing (second_null v.0 x v.1 b v.3 i) c o))
        (λ i y' same z o. near v.0 x v.1 b v.3 i y' same z o)
        (behind v.0 x v.1 b v.3)

  pub keeps : {X : Type 0} (s : Syntax X) → Good s → lasts s l ≡ true → Keeps s
  keeps (give y) g last a x b h = let q = same_took h in record { up = []; is = q.1; reads = λ z o. (y, λ e. q.0, refl) }
  keeps (token s) g last a x b h = let t = token_ok s a x b h in record { up = t.0 ∷ []; is = t.1; reads = λ z o. (x, λ e. refl, ap (λ o. taken o (t.0 ∷ z)) t.2) }
  keeps line g last a x b h = let q = same_took h in record { up = []; is = q.1; reads = λ z o. (line_of z, λ e. absurd (cc), refl) }
  keeps (inside n) g last a x b h = ki n a x b h
  keeps (apply s t) g last a x b h =
      let u = both_case (lasts s l) (both (lasts t l) (any (none (first s)) (ends t l))) last in
      keeps_apply s t g (keeps s g.0 u.0) (keeps t g.1 (both_case (lasts t l) (any (none (first s)) (ends t l)) u.1).0) a x b h
  keeps (either cs s t) g last a x b h = let u = both_case (lasts s l) (lasts t l) last in keeps_choice cs s t g.0 g.1 g.2 (keeps s g.0 u.0) (keeps t g.1 u.1) a x b h
  keeps (switch cs s t) g last a x b h = let u = both_case (lasts s l) (lasts t l) last in keeps_choice cs s t g.0 g.1 g.2 (keeps s g.0 u.0) (keeps t g.1 u.1) a x b h
  keeps (row s cs t r) g last a x b h = let u = both_case (lasts s l) (lasts t l) last in keeps_row s cs t r g (keeps s g.0 u.0) (keeps t g.1 u.1) a x b h
  keeps (deeper cs s) g last a x b h = keeps_deeper cs s (λ e. keeps s g.0 (if_any (some_room l) (lasts s l) last (room e))) a x b h
  keeps (shaped s f cs t k u o) g last a x b h = let v = shaped_last l s f cs t k u o last in keeps_shaped s f cs t k u o g last (keeps s g.0 v.0) (keeps t g.1 v.1) (keeps u g.2 v.2) a x b h

-- ---- at each number of levels

pub room_there : (k : ℕ) → there (inside_at k) ≡ true → some_room (room_at k) ≡ true
unfolding inside_at
room_there zero h = absurd (cc)
room_there (suc zero) h = refl
room_there (suc (suc k)) h = refl

-- what took nothing can be nothing
nothing_taken : (k : ℕ) (X : Type 0) (s : Syntax X) → Good s → (a : List Token) (x : X) → read (inside_at k) s a ≡ took x a → nullable s ≡ true
nothing_taken k X s g a x h = elim (begun (derived_at k) (begun_at k) s g a a x (sound (derived_at k) (inside_at k) (sound_at k) s a x a h)) [ inl w ↦ absurd (let less = w.1 in omega arith) | inr w ↦ w.0 ]

pub rule_lasts : (k : ℕ) (n : Nonterminal) → lasts (rule n) (room_at k) ≡ true
rule_lasts zero n = rule_lasts_none n
rule_lasts (suc zero) n = rule_lasts_little n
rule_lasts (suc (suc k)) n = rule_lasts_much n

abbrev KeepsInside : ℕ → Type 0
KeepsInside k = (n : Nonterminal) (a : List Token) (x : Node n) (b : List Token) → read_inside (inside_at k) n a ≡ took x b → Kept (read_inside (inside_at k) n) (beyond_inside n) (steady_inside n) x a b

keeps_by : (k : ℕ) → KeepsInside k → {X : Type 0} (s : Syntax X) → Good s → lasts s (room_at k) ≡ true → (a : List Token) (x : X) (b : List Token) → read (inside_at k) s a ≡ took x b → Kept (read (inside_at k) s) (beyond s) (steady s) x a b
keeps_by k ki s g last a x b h = keeps (inside_at k) (room_at k) (room_there k) (λ X s g. alike_at true k s g (looks_at true k)) (step_takes_at k) (nothing_taken k) ki s g last a x b h

keeps_inside : (k : ℕ) → KeepsInside k
unfolding inside_at
keeps_inside zero n a x b h = never h
keeps_inside (suc k) n a x b h = kept_weaker (read (inside_at k) (rule n)) (beyond (rule n)) (beyond_inside n) (steady (rule n)) (steady_inside n) x a b (λ c o. not_also (beyond (rule n)) (beyond_inside n) c (rule_beyond n) o) (if_any (steady_inside n) (steady (rule n)) (rule_steady n)) (keeps_by k (keeps_inside k) (rule n) (good_rule n) (rule_lasts k n) a x b h)

pub keeps_at : (k : ℕ) {X : Type 0} (s : Syntax X) → Good s → lasts s (room_at k) ≡ true → (a : List Token) (x : X) (b : List Token) → read (inside_at k) s a ≡ took x b → Kept (read (inside_at k) s) (beyond s) (steady s) x a b
keeps_at k s g last a x b h = keeps_by k (keeps_inside k) s g last a x b h
