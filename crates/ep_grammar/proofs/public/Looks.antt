-- A parser of a description looks no further than the token at which it stops, and more levels change only `Nested`.
use Rattle.std.proofs.Common.{◌≡◌, ℕ, zero, suc, ◌≤◌, Bool, true, false, List, ◌∷◌, ◌++◌, length, Option, Some, None, refl, ap, ◌∙◌, subst, arith, inl, inr}
use Rattle.std.specs.Prelude.{if◌then◌else◌}
use Rattle.ep_token.specs.declared.token.Token.{Token}
use Rattle.ep_grammar.specs.declared.stop.Stop.TheVariants.{Syntax, Nested}
use Rattle.ep_grammar.specs.Classes.{Class, has, class_of, line_of, End}
use Rattle.ep_grammar.specs.Descriptions.{Nonterminal, Node, Step, More, Last, give, token, line, inside, apply, either, switch, row, deeper, shaped}
use Rattle.ep_grammar.specs.Descriptions as d
use Rattle.ep_grammar.specs.Derived.{Family}
use Rattle.ep_grammar.specs.Reading.{Parser, and_then, steps, Inside, read_inside, cause, within, by_shape, refused, read}
use Rattle.ep_grammar.specs.Units.{components}
use Rattle.ep_grammar.specs.Rules.{rule, derived_at, inside_at, read_components}
use Rattle.ep_grammar.proofs.public.Outcomes.{took, stopped}
use Rattle.ep_grammar.proofs.Classed.{true_false, not_also, out_both}
use Rattle.ep_grammar.proofs.Static.{any, only_if, nullable_inside, first_inside, nullable, first, guarded, Good, Alike}
use Rattle.ep_grammar.proofs.Checked.{good_rule, good_components}
use Rattle.ep_grammar.proofs.Sound.{Sounds, sound}
use Rattle.ep_grammar.proofs.Complete.{Begun, begun}
use Rattle.ep_grammar.proofs.public.Knot.{sound_at, begun_at}
use Rattle.ep_grammar.proofs.public.Like.{Like, Takes, like_give, like_stop, like_by, like_then, like_class, like_token, like_shape, like_row, like_nested}
use Rattle.ep_grammar.proofs.Sorts.{there}
use Rattle.ep_grammar.proofs.Passing.{Passes, passes_at}

-- the classes that begin a row's step are no end of a text
pub ends_not : (cs ds : List Class) → Alike cs ds → has ds End ≡ false → has cs End ≡ false
ends_not cs ds al h = not_also cs ds End al.0 h

-- how one parser of what stands inside relates to another
abbrev pub InsideLike : Bool → Option Inside → Option Inside → Type 0
InsideLike v p q = (n : Nonterminal) → Like v (read_inside p n) (read_inside q n)

no_end_inside : (n : Nonterminal) → has (first_inside n) End ≡ false
no_end_inside d.expressions = refl
no_end_inside d.factors = refl
no_end_inside d.component_values = refl
no_end_inside d.elements = refl
no_end_inside d.bracketed_values = refl
no_end_inside d.plains = refl
no_end_inside d.field_lists = refl
no_end_inside d.statements = refl
no_end_inside d.routines = refl

pub only_if_out : (v : Bool) (cs : List Class) (c : Class) → has cs c ≡ false → has (only_if v cs) c ≡ false
only_if_out true cs c h = h
only_if_out false cs c h = refl

-- no description begins at the end of a text
pub no_end : {X : Type 0} (s : d.Syntax X) → Good s → has (first s) End ≡ false
no_end (give x) g = refl
no_end (token s) g = g
no_end line g = refl
no_end (inside n) g = no_end_inside n
no_end (apply s t) g = out_both (first s) (only_if (nullable s) (first t)) End (no_end s g.0) (only_if_out (nullable s) (first t) End (no_end t g.1))
no_end (either cs s t) g = out_both (first s) (first t) End (no_end s g.0) (no_end t g.1)
no_end (switch cs s t) g = out_both cs (first t) End (not_also cs (first s) End g.3 (no_end s g.0)) (no_end t g.1)
no_end (row s cs t r) g = out_both (first s) (only_if (nullable s) (first t)) End (no_end s g.0) (only_if_out (nullable s) (first t) End (no_end t g.1))
no_end (deeper cs s) g = no_end s g.0
no_end (shaped s f cs t k u o) g = no_end s g.0

module _ (e : (n : Nonterminal) → Family (Node n)) (p : Option Inside) (so : (n : Nonterminal) → Sounds (read_inside p n) (e n)) (be : (n : Nonterminal) (a b : List Token) (x : Node n) → e n a b x → Begun (first_inside n) (nullable_inside n) a b) where
  pub step_takes : {A B : Type 0} (t : d.Syntax (Step A B)) → Good t → nullable t ≡ false → Takes (read p t)
  step_takes t g h a s b r = elim (begun e be t g a b s (sound e p so t a s b r)) [ inl w ↦ w.1 | inr w ↦ true_false w.0 h ]

like_cause : {A : Type 0} (v b : Bool) → Like {A = A} v (λ i. stopped (cause b) i) (λ i. stopped (cause b) i)
like_cause v b = like_stop v (cause b)

-- with no level left under both, or a level under both
like_within : {X : Type 0} (v : Bool) (p : Option Inside) (cs : List Class) (r : Parser X) → Like v r r → Like v (within p cs r) (within p cs r)
like_within v None cs r l = like_by v (λ i. has cs (class_of i)) (λ b i. stopped (cause b) i) (λ b i. stopped (cause b) i) (λ t y z. refl) (λ b. like_cause v b)
like_within v (Some e) cs r l = l

-- a parser that answers the same
like_as : {A : Type 0} (v : Bool) (p q q' : Parser A) → ((a : List Token) → q' a ≡ q a) → Like v p q → Like v p q'
like_as v p q q' e l = record {
  front = l.front;
  same = λ pre t y z h c. e (pre ++ t ∷ z) ∙ l.same pre t y z h c;
  more = λ a c. e a ∙ l.more a c;
}

like_opened : {X : Type 0} (b : Bool) (q : Parser X) → Like false (λ i. stopped (cause b) i) (λ i. if b then q i else stopped Syntax i)
like_opened true q = like_nested q
like_opened false q = like_stop false Syntax

otherwise_stops : {X : Type 0} (b : Bool) (q : Parser X) (a : List Token) → (b ≡ false → q a ≡ stopped Syntax a) → q a ≡ (if b then q a else stopped Syntax a)
otherwise_stops true q a h = refl
otherwise_stops false q a h = h refl

-- with no level left under the first alone
like_deeper : {X : Type 0} (cs : List Class) (q : Parser X) → ((a : List Token) → has cs (class_of a) ≡ false → q a ≡ stopped Syntax a) → Like false (λ i. stopped (cause (has cs (class_of i))) i) q
like_deeper cs q h = like_as false (λ i. stopped (cause (has cs (class_of i))) i) (λ i. if has cs (class_of i) then q i else stopped Syntax i) q (λ a. otherwise_stops (has cs (class_of a)) q a (h a))
    (like_by false (λ i. has cs (class_of i)) (λ b i. stopped (cause b) i) (λ b i. if b then q i else stopped Syntax i) (λ t y z. refl) (λ b. like_opened b q))

-- a parser with levels and one with at least as many
module _ (v : Bool) (p q : Option Inside) (li : InsideLike v p q)
    (stp : (A B : Type 0) (t : d.Syntax (Step A B)) → Good t → nullable t ≡ false → Takes (read p t)) (stq : (A B : Type 0) (t : d.Syntax (Step A B)) → Good t → nullable t ≡ false → Takes (read q t))
    (de : (X : Type 0) (cs : List Class) (s : d.Syntax X) → Good (deeper cs s) → Like v (read p s) (read q s) → Like v (within p cs (read p s)) (within q cs (read q s))) where
  pub looks : {X : Type 0} (s : d.Syntax X) → Good s → Like v (read p s) (read q s)
  looks (give x) g = like_give v x
  looks (token s) g = like_token v s
  looks line g = like_by v line_of (λ x i. took x i) (λ x i. took x i) (λ t y z. refl) (λ x. like_give v x)
  looks (inside n) g = li n
  looks (apply s t) g = like_then v (read p s) (read q s) (λ f j. and_then (read p t j) (λ y k. took (f y) k)) (λ f j. and_then (read q t j) (λ y k. took (f y) k)) (looks s g.0) (λ f. like_then v (read p t) (read q t) (λ y k. took (f y) k) (λ y k. took (f y) k) (looks t g.1) (λ y. like_give v (f y)))
  looks (either cs s t) g = like_class v cs (read p s) (read q s) (read p t) (read q t) (looks s g.0) (looks t g.1)
  looks (switch cs s t) g = like_class v cs (read p s) (read q s) (read p t) (read q t) (looks s g.0) (looks t g.1)
  looks (row s cs t r) g = like_then v (read p s) (read q s) (λ found j. steps cs (read p t) r (length j) found j) (λ found j. steps cs (read q t) r (length j) found j) (looks s g.0) (λ found. like_row v cs (read p t) (read q t) r (looks t g.1) (stp _ _ t g.1 g.2) (stq _ _ t g.1 g.2) (ends_not cs (first t) g.3 (no_end t g.1)) found)
  looks (deeper cs s) g = de _ cs s g (looks s g.0)
  looks (shaped s f cs t k u o) g = like_then v (read p s) (read q s) (λ y j. if has cs (class_of j) then by_shape (f y) (read p t) (by_shape (k y) (read p u) refused) j else by_shape (k y) (read p u) refused j) (λ y j. if has cs (class_of j) then by_shape (f y) (read q t) (by_shape (k y) (read q u) refused) j else by_shape (k y) (read q u) refused j) (looks s g.0)
      (λ y. let l = like_shape v (k y) (read p u) (read q u) refused refused (looks u g.2) (like_stop v Syntax) in
      like_class v cs (by_shape (f y) (read p t) (by_shape (k y) (read p u) refused)) (by_shape (f y) (read q t) (by_shape (k y) (read q u) refused)) (by_shape (k y) (read p u) refused) (by_shape (k y) (read q u) refused)
      (like_shape v (f y) (read p t) (read q t) (by_shape (k y) (read p u) refused) (by_shape (k y) (read q u) refused) (looks t g.1) l) l)

pub step_takes_at : (k : ℕ) (A B : Type 0) (t : d.Syntax (Step A B)) → Good t → nullable t ≡ false → Takes (read (inside_at k) t)
step_takes_at k A B t g h = step_takes (derived_at k) (inside_at k) (sound_at k) (begun_at k) t g h

-- ---- at one number of levels

pub alike_at : (v : Bool) (k : ℕ) {X : Type 0} (s : d.Syntax X) → Good s → InsideLike v (inside_at k) (inside_at k) → Like v (read (inside_at k) s) (read (inside_at k) s)
alike_at v k s g li = looks v (inside_at k) (inside_at k) li (step_takes_at k) (step_takes_at k) (λ X cs s g l. like_within v (inside_at k) cs (read (inside_at k) s) l) s g

pub looks_at : (v : Bool) (k : ℕ) → InsideLike v (inside_at k) (inside_at k)
unfolding inside_at
looks_at v zero n = like_stop v Nested
looks_at v (suc k) n = alike_at v k (rule n) (good_rule n) (looks_at v k)

pub components_look : (v : Bool) (k : ℕ) → Like v (read_components k) (read_components k)
components_look v k = alike_at v k components good_components (looks_at v k)

-- ---- at a number of levels and a greater one

deeper_stops : (m : ℕ) {X : Type 0} (cs : List Class) (s : d.Syntax X) → Good (deeper cs s) → there (inside_at m) ≡ true → (a : List Token) → has cs (class_of a) ≡ false → read (inside_at m) s a ≡ stopped Syntax a
deeper_stops m cs s g e a h = subst (λ z. Passes z (read (inside_at m) s a) a) g.1 (passes_at m s g.0 (ap (λ z. any z (guarded s)) e) a (not_also (first s) cs (class_of a) g.2.1 h))

grow_within : (k m : ℕ) → k ≤ m → (X : Type 0) (cs : List Class) (s : d.Syntax X) → Good (deeper cs s) → Like false (read (inside_at k) s) (read (inside_at m) s) → Like false (within (inside_at k) cs (read (inside_at k) s)) (within (inside_at m) cs (read (inside_at m) s))
unfolding inside_at
grow_within zero zero le X cs s g l = like_within false None cs (read None s) (looks_here s g.0)
  where
    looks_here : {X : Type 0} (s : d.Syntax X) → Good s → Like false (read None s) (read None s)
    looks_here s g = alike_at false zero s g (looks_at false zero)
grow_within zero (suc m) le X cs s g l = like_deeper cs (read (inside_at (suc m)) s) (deeper_stops (suc m) cs s g refl)
grow_within (suc k) zero le X cs s g l = absurd (omega arith)
grow_within (suc k) (suc m) le X cs s g l = l

pub grows_at : (k m : ℕ) → k ≤ m → {X : Type 0} (s : d.Syntax X) → Good s → InsideLike false (inside_at k) (inside_at m) → Like false (read (inside_at k) s) (read (inside_at m) s)
grows_at k m le s g li = looks false (inside_at k) (inside_at m) li (step_takes_at k) (step_takes_at m) (grow_within k m le) s g

pub grows : (k m : ℕ) → k ≤ m → InsideLike false (inside_at k) (inside_at m)
unfolding inside_at
grows zero m le n = like_nested (read_inside (inside_at m) n)
grows (suc k) zero le n = absurd (omega arith)
grows (suc k) (suc m) le n = grows_at k m (omega arith) (rule n) (good_rule n) (grows k m (omega arith))

pub components_grow : (k m : ℕ) → k ≤ m → Like false (read_components k) (read_components m)
components_grow k m le = grows_at k m le components good_components (grows k m le)
