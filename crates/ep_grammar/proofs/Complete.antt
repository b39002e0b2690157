-- What is derived is read, where a token decides each choice and what follows cannot go on with it.
use Rattle.std.proofs.Common.{◌≡◌, ℕ, zero, suc, ◌<◌, ◌≤◌, Bool, true, false, List, [], ◌∷◌, ◌++◌, length, Option, Some, None, refl, sym, ap, ◌∙◌, subst, append_assoc, arith}
use Rattle.std.proofs.lemmas.List.{append-nil}
use Rattle.std.specs.Prelude.{if◌then◌else◌, ◌⊎◌}
use Rattle.std.proofs.Common.{inl, inr}
use Rattle.ep_token.specs.declared.token.Token.{Token}
use Rattle.ep_grammar.specs.Classes.{Class, classes, has, class_of, line_of}
use Rattle.ep_grammar.specs.Descriptions.{Nonterminal, Node, Step, More, Last, AlwaysOne, Syntax, give, token, line, inside, apply, either, switch, row, deeper, shaped}
use Rattle.ep_grammar.specs.Derived.{Family, Steps, no_step, last_step, one_step, derives}
use Rattle.ep_grammar.specs.Reading.{ReadOutcome, Parser, and_then, taken, read_token, go_on, steps, Inside, read_inside, within, by_shape, refused, read}
use Rattle.ep_grammar.proofs.public.Outcomes.{took}
use Rattle.ep_grammar.proofs.Classed.{disjoint, true_false, by_cases, apart, also, in_front, in_end, out_front, out_end, out_both}
use Rattle.ep_grammar.proofs.Static.{both, any, only_if, nullable, nullable_inside, first, first_inside, after, after_inside, needs, Good, Alike, both_case}
use Rattle.ep_grammar.proofs.Sorts.{there, sort_class}

-- ---- how a derivation begins: with a token of its first classes, or with nothing

abbrev pub Begun : List Class → Bool → List Token → List Token → Type 0
Begun cs v a b = ((has cs (class_of a) ≡ true) × (length b < length a)) ⊎ ((v ≡ true) × (a ≡ b))

abbrev pub Shorter : List Token → List Token → Type 0
Shorter b a = length b ≤ length a

begun_shorter : (cs : List Class) (v : Bool) (a b : List Token) → Begun cs v a b → length b ≤ length a
begun_shorter cs v a b (inl w) = omega arith
begun_shorter cs v a b (inr w) = omega (arith, ap length w.1)

-- one after the other
begun_then : (cs ds : List Class) (v w : Bool) (a m b : List Token) → Begun cs v a m → Begun ds w m b → Begun (cs ++ only_if v ds) (both v w) a b
begun_then cs ds v w a m b (inl p) q = inl (in_front cs (only_if v ds) (class_of a) p.0, (let l = begun_shorter ds w m b q in omega arith))
begun_then cs ds v w a m b (inr p) (inl q) = inl (subst (λ z. has (cs ++ only_if z ds) (class_of a) ≡ true) (sym p.0) (in_end cs ds (class_of a) (ap (λ z. has ds (class_of z)) p.1 ∙ q.0)), omega (arith, ap length p.1))
begun_then cs ds v w a m b (inr p) (inr q) = inr (subst (λ z. both z w ≡ true) (sym p.0) q.0, p.1 ∙ q.1)

begun_steps : {A B : Type 0} (D : Family (Step A B)) (ds : List Class) (r : B) → ((a b : List Token) (x : Step A B) → D a b x → Begun ds false a b) → (a b : List Token) (xs : List A) (q : B) → Steps D r a b xs q → Begun ds true a b
begun_steps D ds r f a b xs q no_step = inr (refl, refl)
begun_steps D ds r f a b xs q (last_step d) = only (f a b _ d)
  where
    only : Begun ds false a b → Begun ds true a b
    only (inl w) = inl w
    only (inr w) = absurd (cc)
begun_steps D ds r f a b xs q (one_step {m = m} d more) = joined (f a m _ d) (begun_steps D ds r f m b _ q more)
  where
    joined : Begun ds false a m → Begun ds true m b → Begun ds true a b
    joined (inl w) v = inl (w.0, (let l = begun_shorter ds true m b v in omega arith))
    joined (inr w) v = absurd (cc)

begun_front : (cs ds : List Class) (v w : Bool) (a b : List Token) → v ≡ false → Begun cs v a b → Begun (cs ++ ds) w a b
begun_front cs ds v w a b h (inl p) = inl (in_front cs ds (class_of a) p.0, p.1)
begun_front cs ds v w a b h (inr p) = true_false p.0 h

begun_by : (cs ds es : List Class) (v w : Bool) (a b : List Token) → v ≡ false → has cs (class_of a) ≡ true → Begun ds v a b → Begun (cs ++ es) w a b
begun_by cs ds es v w a b h k (inl p) = inl (in_front cs es (class_of a) k, p.1)
begun_by cs ds es v w a b h k (inr p) = true_false p.0 h

begun_end : (cs ds : List Class) (w : Bool) (a b : List Token) → Begun ds w a b → Begun (cs ++ ds) w a b
begun_end cs ds w a b (inl p) = inl (in_end cs ds (class_of a) p.0, p.1)
begun_end cs ds w a b (inr p) = inr p

begun_more : (cs ds : List Class) (v w : Bool) (a m b : List Token) → v ≡ false → Begun cs v a m → Begun ds w m b → Begun cs false a b
begun_more cs ds v w a m b h (inl p) q = inl (p.0, (let l = begun_shorter ds w m b q in omega arith))
begun_more cs ds v w a m b h (inr p) q = true_false p.0 h

both_true : (v : Bool) → both v true ≡ v
both_true true = refl
both_true false = refl

module _ (e : (n : Nonterminal) → Family (Node n)) (be : (n : Nonterminal) (a b : List Token) (x : Node n) → e n a b x → Begun (first_inside n) (nullable_inside n) a b) where
  pub begun : {X : Type 0} (s : Syntax X) → Good s → (a b : List Token) (x : X) → derives e s a b x → Begun (first s) (nullable s) a b
  begun (give y) g a b x d = inr (refl, d.0)
  begun (token s) g a b x d = inl (ap (λ z. has (classes s) (class_of z)) d.1 ∙ sym (sort_class s d.0.kind) ∙ ap there d.2, omega (arith, ap length d.1))
  begun line g a b x d = inr (refl, d.0)
  begun (inside n) g a b x d = be n a b x d
  begun (apply s t) g a b x d = begun_then (first s) (first t) (nullable s) (nullable t) a d.0 b (begun s g.0 a d.0 d.1 d.3) (begun t g.1 d.0 b d.2 d.4)
  begun (either cs s t) g a b x (inl d) = begun_front (first s) (first t) (nullable s) (nullable t) a b g.2 (begun s g.0 a b x d)
  begun (either cs s t) g a b x (inr d) = begun_end (first s) (first t) (nullable t) a b (begun t g.1 a b x d)
  begun (switch cs s t) g a b x (inl d) = begun_by cs (first s) (first t) (nullable s) (nullable t) a b g.2 d.0 (begun s g.0 a b x d.1)
  begun (switch cs s t) g a b x (inr d) = begun_end cs (first t) (nullable t) a b (begun t g.1 a b x d.1)
  begun (row s cs t r) g a b x d =
      subst (λ v. Begun (first s ++ only_if (nullable s) (first t)) v a b) (both_true (nullable s))
      (begun_then (first s) (first t) (nullable s) true a d.0 b (begun s g.0 a d.0 d.1 d.4)
      (begun_steps (derives e t) (first t) r (λ a b x k. subst (λ v. Begun (first t) v a b) g.2 (begun t g.1 a b x k)) d.0 b d.2 d.3 d.5))
  begun (deeper cs s) g a b x d = subst (λ v. Begun (first s) v a b) g.1 (begun s g.0 a b x d)
  begun (shaped s f cs t k u o) g a b x (m, y, d, inl w) = begun_more (first s) (first t) (nullable s) (nullable t) a m b g.3 (begun s g.0 a m y d) (begun t g.1 m b w.1 w.3)
  begun (shaped s f cs t k u o) g a b x (m, y, d, inr w) = begun_more (first s) (first u) (nullable s) (nullable u) a m b g.3 (begun s g.0 a m y d) (begun u g.2 m b w.1 w.3)

-- ---- where nothing may stand inside, what needs a level is not derived

any_case : (a b : Bool) → any a b ≡ true → (a ≡ true) ⊎ (b ≡ true)
any_case true b h = inl refl
any_case false b h = inr h

module _ (e : (n : Nonterminal) → Family (Node n)) (none : (n : Nonterminal) (a b : List Token) (x : Node n) → e n a b x → ⊥) where
  pub unneeded : {X : Type 0} (s : Syntax X) → needs s ≡ true → (a b : List Token) (x : X) → derives e s a b x → ⊥
  unneeded (give y) h a b x d = absurd (cc)
  unneeded (token s) h a b x d = absurd (cc)
  unneeded line h a b x d = absurd (cc)
  unneeded (inside n) h a b x d = none n a b x d
  unneeded (apply s t) h a b x d = elim (any_case (needs s) (needs t) h) [ inl k ↦ unneeded s k a d.0 d.1 d.3 | inr k ↦ unneeded t k d.0 b d.2 d.4 ]
  unneeded (either cs s t) h a b x (inl d) = unneeded s (both_case (needs s) (needs t) h).0 a b x d
  unneeded (either cs s t) h a b x (inr d) = unneeded t (both_case (needs s) (needs t) h).1 a b x d
  unneeded (switch cs s t) h a b x (inl d) = unneeded s (both_case (needs s) (needs t) h).0 a b x d.1
  unneeded (switch cs s t) h a b x (inr d) = unneeded t (both_case (needs s) (needs t) h).1 a b x d.1
  unneeded (row s cs t r) h a b x d = unneeded s h a d.0 d.1 d.4
  unneeded (deeper cs s) h a b x d = unneeded s h a b x d
  unneeded (shaped s f cs t g u o) h a b x (m, y, d, w) = elim (any_case (needs s) (both (needs t) (needs u)) h) [
    | inl k ↦ unneeded s k a m y d
    | inr k ↦ elim w [
      | inl v ↦ unneeded t (both_case (needs t) (needs u) k).0 m b v.1 v.3
      | inr v ↦ unneeded u (both_case (needs t) (needs u) k).1 m b v.1 v.3
    ]
  ]

-- ---- what follows cannot go on

outside : (xs ys : List Class) (c : Class) → disjoint xs ys ≡ true → has ys c ≡ true → has xs c ≡ false
outside xs ys c h k = by_cases (has xs c) (λ p. true_false k (apart xs ys c h p)) (λ p. p)

-- what stands between two parts cannot go on with the first
between : (xs ys zs : List Class) (v : Bool) (m b : List Token) → disjoint xs ys ≡ true → has (zs ++ only_if v xs) (class_of b) ≡ false → Begun ys v m b → has xs (class_of m) ≡ false
between xs ys zs v m b h k (inl w) = outside xs ys (class_of m) h w.0
between xs ys zs v m b h k (inr w) = ap (λ z. has xs (class_of z)) w.1 ∙ subst (λ z. has (only_if z xs) (class_of b) ≡ false) w.0 (out_end zs (only_if v xs) (class_of b) k)

pub if_true : {A : Type 0} (v : Bool) (p q r : A) → v ≡ true → p ≡ r → (if v then p else q) ≡ r
if_true true p q r h k = k
if_true false p q r h k = absurd (cc)

pub if_false : {A : Type 0} (v : Bool) (p q r : A) → v ≡ false → q ≡ r → (if v then p else q) ≡ r
if_false true p q r h k = absurd (cc)
if_false false p q r h k = k

begins_it : (cs ds : List Class) (v : Bool) (a b : List Token) → v ≡ false → Alike cs ds → Begun ds v a b → has cs (class_of a) ≡ true
begins_it cs ds v a b h k (inl w) = also ds cs (class_of a) k.1 w.0
begins_it cs ds v a b h k (inr w) = true_false w.0 h

-- the second of two does not begin as the first
begins_other : (cs ds zs : List Class) (v : Bool) (a b : List Token) → disjoint cs ds ≡ true → has (zs ++ only_if v cs) (class_of b) ≡ false → Begun ds v a b → has cs (class_of a) ≡ false
begins_other cs ds zs v a b h k w = between cs ds zs v a b h k w

within_some : {X : Type 0} (p : Option Inside) (cs : List Class) (q : Parser X) (a : List Token) → (p ≡ None → ⊥) → within p cs q a ≡ q a
within_some None cs q a h = absurd (h refl)
within_some (Some e) cs q a h = refl

both_took : {A : Type 0} (x y : A) (a b : List Token) → a ≡ b → x ≡ y → took y a ≡ took x b
both_took x y a b p q = ap (took y) p ∙ ap (λ w. took w b) (sym q)

then_took : {A B : Type 0} (o : ReadOutcome A) (f : A → Parser B) (x : A) (m : List Token) (y : B) (b : List Token) → o ≡ took x m → f x m ≡ took y b → and_then o f ≡ took y b
then_took o f x m y b h k = ap (λ z. and_then z f) h ∙ k

shape_between : (xs cs ys zs : List Class) (v : Bool) (m b : List Token) → disjoint cs ys ≡ true → disjoint xs (cs ++ ys) ≡ true → has (zs ++ only_if v (xs ++ cs)) (class_of b) ≡ false → Begun ys v m b → (has xs (class_of m) ≡ false) × (has cs (class_of m) ≡ false)
shape_between xs cs ys zs v m b h k l (inl w) = (outside xs (cs ++ ys) (class_of m) k (in_end cs ys (class_of m) w.0), outside cs ys (class_of m) h w.0)
shape_between xs cs ys zs v m b h k l (inr w) =
    let o = subst (λ z. has (only_if z (xs ++ cs)) (class_of b) ≡ false) w.0 (out_end zs (only_if v (xs ++ cs)) (class_of b) l) in
    let to_b = (λ (ds : List Class). ap (λ z. has ds (class_of z)) w.1) in
    (to_b xs ∙ out_front xs cs (class_of b) o, to_b cs ∙ out_end xs cs (class_of b) o)

pub shape_took : {C X : Type 0} (o : Option C) (p : Parser (C → X)) (q : Parser X) (m : List Token) (c : C) (g : C → X) (x : X) (b : List Token) → o ≡ Some c → p m ≡ took g b → x ≡ g c → by_shape o p q m ≡ took x b
shape_took o p q m c g x b h k l = ap (λ z. by_shape z p q m) h ∙ then_took (p m) (λ g k. took (g c) k) g b x b k (ap (λ z. took z b) (sym l))

-- ---- rows

module _ {A B : Type 0} (cs ds zs : List Class) (p : Parser (Step A B)) (D : Family (Step A B)) (r : B) (al : Alike cs ds) (dis : disjoint zs cs ≡ true)
    (bd : (a b : List Token) (x : Step A B) → D a b x → Begun ds false a b)
    (cd : (a b : List Token) (x : Step A B) → D a b x → has zs (class_of b) ≡ false → p a ≡ took x b) where
  after_step : (m b : List Token) → has zs (class_of b) ≡ false → Begun ds true m b → has zs (class_of m) ≡ false
  after_step m b h (inl w) = outside zs cs (class_of m) dis (also ds cs (class_of m) al.1 w.0)
  after_step m b h (inr w) = ap (λ z. has zs (class_of z)) w.1 ∙ h

  begins : (a b : List Token) (x : Step A B) → D a b x → has cs (class_of a) ≡ true
  begins a b x d = begins_it cs ds false a b refl al (bd a b x d)

  takes : (a b : List Token) (x : Step A B) → D a b x → length b < length a
  takes a b x d = elim (bd a b x d) [ inl w ↦ w.1 | inr w ↦ absurd (cc) ]

  pub steps_took : (n : ℕ) (found : List A) (a b : List Token) (ys : List A) (q : B) → length a ≤ n → has cs (class_of b) ≡ false → has zs (class_of b) ≡ false → Steps D r a b ys q → steps cs p r n found a ≡ took (found ++ ys, q) b
  unfolding steps
  steps_took zero found a b ys q le hc hz no_step = ap (λ w. took (w, r) a) (sym (append-nil found))
  steps_took (suc n) found a b ys q le hc hz no_step = if_false (has cs (class_of a)) (and_then (p a) (go_on (steps cs p r n) found)) (took (found, r) a) (took (found ++ [], r) a) hc (ap (λ w. took (w, r) a) (sym (append-nil found)))
  steps_took zero found a b ys q le hc hz (last_step d) = absurd (let l = takes a b _ d in omega arith)
  steps_took (suc n) found a b ys q le hc hz (last_step d) =
      if_true (has cs (class_of a)) (and_then (p a) (go_on (steps cs p r n) found)) (took (found, r) a) (took (found ++ [], q) b) (begins a b (Last q) d)
      (then_took (p a) (go_on (steps cs p r n) found) (Last q) b (found ++ [], q) b (cd a b (Last q) d hz) (ap (λ w. took (w, q) b) (sym (append-nil found))))
  steps_took zero found a b ys q le hc hz (one_step {m = m} d more) = absurd (let l = takes a m _ d in omega arith)
  steps_took (suc n) found a b ys q le hc hz (one_step {m = m} {x = x} {xs = xs} d more) =
      if_true (has cs (class_of a)) (and_then (p a) (go_on (steps cs p r n) found)) (took (found, r) a) (took (found ++ (x ∷ xs), q) b) (begins a m (More x) d)
      (then_took (p a) (go_on (steps cs p r n) found) (More x) m (found ++ (x ∷ xs), q) b (cd a m (More x) d (after_step m b hz (begun_steps D ds r bd m b xs q more)))
      (steps_took n (found ++ x ∷ []) m b xs q (let l = takes a m (More x) d in omega arith) hc hz more ∙ ap (λ w. took (w, q) b) (append_assoc found (x ∷ []) xs)))

module _ (e : (n : Nonterminal) → Family (Node n)) (p : Option Inside)
    (be : (n : Nonterminal) (a b : List Token) (x : Node n) → e n a b x → Begun (first_inside n) (nullable_inside n) a b)
    (ce : (n : Nonterminal) (a b : List Token) (x : Node n) → e n a b x → has (after_inside n) (class_of b) ≡ false → read_inside p n a ≡ took x b)
    (ne : p ≡ None → (n : Nonterminal) (a b : List Token) (x : Node n) → e n a b x → ⊥) where
  abbrev Reads : {X : Type 0} → Syntax X → Type 0
  Reads s = (a b : List Token) (x : _) → derives e s a b x → has (after s) (class_of b) ≡ false → read p s a ≡ took x b

  reads_apply : {A X : Type 0} (s : Syntax (A → X)) (t : Syntax A) → Good (apply s t) → Reads s → Reads t → Reads (apply s t)
  reads_apply s t g rs rt a b x d h =
      then_took (read p s a) (λ f j. and_then (read p t j) (λ y k. took (f y) k)) d.1 d.0 x b
      (rs a d.0 d.1 d.3 (between (after s) (first t) (after t) (nullable t) d.0 b g.2 h (begun e be t g.1 d.0 b d.2 d.4)))
      (then_took (read p t d.0) (λ y k. took (d.1 y) k) d.2 b x b (rt d.0 b d.2 d.4 (out_front (after t) (only_if (nullable t) (after s)) (class_of b) h)) (ap (λ w. took w b) (sym d.5)))

  reads_either : {X : Type 0} (cs : List Class) (s t : Syntax X) → Good (either cs s t) → Reads s → Reads t → Reads (either cs s t)
  reads_either cs s t g rs rt a b x (inl d) h = if_true (has cs (class_of a)) (read p s a) (read p t a) (took x b) (begins_it cs (first s) (nullable s) a b g.2 g.3 (begun e be s g.0 a b x d)) (rs a b x d (out_front (after s) (after t ++ only_if (nullable t) cs) (class_of b) h))
  reads_either cs s t g rs rt a b x (inr d) h =
      let k = out_end (after s) (after t ++ only_if (nullable t) cs) (class_of b) h in
      if_false (has cs (class_of a)) (read p s a) (read p t a) (took x b) (between cs (first t) (after t) (nullable t) a b g.4 k (begun e be t g.1 a b x d)) (rt a b x d (out_front (after t) (only_if (nullable t) cs) (class_of b) k))

  reads_switch : {X : Type 0} (cs : List Class) (s t : Syntax X) → Reads s → Reads t → Reads (switch cs s t)
  reads_switch cs s t rs rt a b x (inl d) h = if_true (has cs (class_of a)) (read p s a) (read p t a) (took x b) d.0 (rs a b x d.1 (out_front (after s) (after t) (class_of b) h))
  reads_switch cs s t rs rt a b x (inr d) h = if_false (has cs (class_of a)) (read p s a) (read p t a) (took x b) d.0 (rt a b x d.1 (out_end (after s) (after t) (class_of b) h))

  reads_row : {A B : Type 0} (s : Syntax (List A)) (cs : List Class) (t : Syntax (Step A B)) (r : B) → Good (row s cs t r) → Reads s → Reads t → Reads (row s cs t r)
  reads_row s cs t r g rs rt a b x (m, xs, ys, q, ds, st, eq) h =
      let ha = out_front (after s) (after t ++ cs) (class_of b) h in
      let ht = out_end (after s) (after t ++ cs) (class_of b) h in
      let hz = out_front (after t) cs (class_of b) ht in
      let hc = out_end (after t) cs (class_of b) ht in
      let both_out = out_both (after s) (after t) (class_of b) ha hz in
      let bt = (λ (a b : List Token) (x : Step _ _) (k : derives e t a b x). subst (λ v. Begun (first t) v a b) g.2 (begun e be t g.1 a b x k)) in
      let bs = begun_steps (derives e t) (first t) r bt m b ys q st in
      let hm = after_step cs (first t) (after s ++ after t) (read p t) (derives e t) r g.3 g.4 bt (λ a b x k l. rt a b x k (out_end (after s) (after t) (class_of b) l)) m b both_out bs in
      then_took (read p s a) (λ found j. steps cs (read p t) r (length j) found j) xs m x b
      (rs a m xs ds (out_front (after s) (after t) (class_of m) hm))
      (steps_took cs (first t) (after s ++ after t) (read p t) (derives e t) r g.3 g.4 bt (λ a b x k l. rt a b x k (out_end (after s) (after t) (class_of b) l)) (length m) xs m b ys q (omega arith) hc both_out st
      ∙ ap (λ w. took w b) (sym eq))

  reads_shaped : {A C D X : Type 0} (s : Syntax A) (f : A → Option C) (cs : List Class) (t : Syntax (C → X)) (k : A → Option D) (u : Syntax (D → X)) (o : AlwaysOne f k) → Good (shaped s f cs t k u o) → Reads s → Reads t → Reads u → Reads (shaped s f cs t k u o)
  reads_shaped s f cs t k u o g rs rt ru a b x (m, y, d, inl w) h =
      let hm = begins_it cs (first t) (nullable t) m b g.4 g.5 (begun e be t g.1 m b w.1 w.3) in
      then_took (read p s a) (λ y j. if has cs (class_of j) then by_shape (f y) (read p t) (by_shape (k y) (read p u) refused) j else by_shape (k y) (read p u) refused j) y m x b
      (rs a m y d (outside (after s) (cs ++ first u) (class_of m) g.7 (in_front cs (first u) (class_of m) hm)))
      (if_true (has cs (class_of m)) (by_shape (f y) (read p t) (by_shape (k y) (read p u) refused) m) (by_shape (k y) (read p u) refused m) (took x b) hm
      (shape_took (f y) (read p t) (by_shape (k y) (read p u) refused) m w.0 w.1 x b w.2 (rt m b w.1 w.3 (out_front (after t) (after u ++ only_if (nullable u) (after s ++ cs)) (class_of b) h)) w.4))
  reads_shaped s f cs t k u o g rs rt ru a b x (m, y, d, inr w) h =
      let l = out_end (after t) (after u ++ only_if (nullable u) (after s ++ cs)) (class_of b) h in
      let hs = shape_between (after s) cs (first u) (after u) (nullable u) m b g.6 g.7 l (begun e be u g.2 m b w.1 w.3) in
      then_took (read p s a) (λ y j. if has cs (class_of j) then by_shape (f y) (read p t) (by_shape (k y) (read p u) refused) j else by_shape (k y) (read p u) refused j) y m x b
      (rs a m y d hs.0)
      (if_false (has cs (class_of m)) (by_shape (f y) (read p t) (by_shape (k y) (read p u) refused) m) (by_shape (k y) (read p u) refused m) (took x b) hs.1
      (shape_took (k y) (read p u) refused m w.0 w.1 x b w.2 (ru m b w.1 w.3 (out_front (after u) (only_if (nullable u) (after s ++ cs)) (class_of b) l)) w.4))

  pub complete : {X : Type 0} (s : Syntax X) → Good s → (a b : List Token) (x : X) → derives e s a b x → has (after s) (class_of b) ≡ false → read p s a ≡ took x b
  complete (give y) g a b x d h = both_took x y a b d.0 d.1
  complete (token s) g a b x d h = ap (read_token s) d.1 ∙ ap (λ o. taken o (d.0 ∷ b)) d.2
  complete line g a b x d h = both_took x (line_of a) a b d.0 d.1
  complete (inside n) g a b x d h = ce n a b x d h
  complete (apply s t) g a b x d h = reads_apply s t g (complete s g.0) (complete t g.1) a b x d h
  complete (either cs s t) g a b x d h = reads_either cs s t g (complete s g.0) (complete t g.1) a b x d h
  complete (switch cs s t) g a b x d h = reads_switch cs s t (complete s g.0) (complete t g.1) a b x d h
  complete (row s cs t r) g a b x d h = reads_row s cs t r g (complete s g.0) (complete t g.1) a b x d h
  complete (deeper cs s) g a b x d h = within_some p cs (read p s) a (λ q. unneeded e (ne q) s g.3 a b x d) ∙ complete s g.0 a b x d h
  complete (shaped s f cs t k u o) g a b x d h = reads_shaped s f cs t k u o g (complete s g.0) (complete t g.1) (complete u g.2) a b x d h
