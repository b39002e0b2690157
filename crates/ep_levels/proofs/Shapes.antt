-- The nesting of what has a shape by which productions with a common beginning are told apart.
use Rattle.std.proofs.Common.{◌≡◌, ℕ, suc, max, List, [], ◌∷◌, Option, Some, None, refl, sym, ap, ◌∙◌, arith}
use Rattle.ep_tree.specs.declared.operator.QualifiedName.{QualifiedName}
use Rattle.ep_tree.specs.declared.expression.Expression.{Expression, out-Expression, roll-out-Expression}
use Rattle.ep_tree.specs.declared.expression.Simple.{Simple, out-Simple, roll-out-Simple}
use Rattle.ep_tree.specs.declared.expression.Addend.{Addend}
use Rattle.ep_tree.specs.declared.expression.Term.{Term, out-Term, roll-out-Term}
use Rattle.ep_tree.specs.declared.expression.Comparison.{Comparison}
use Rattle.ep_tree.specs.declared.expression.Element.{Element}
use Rattle.ep_tree.specs.declared.expression.Multiplier.{Multiplier}
use Rattle.ep_tree.specs.declared.expression.Values.{Values}
use Rattle.ep_tree.specs.declared.expression.Factor.{Factor, out-Factor, roll-Factor, roll-out-Factor}
use Rattle.ep_tree.specs.declared.expression.Access.{Access, out-Access, roll-out-Access}
use Rattle.ep_tree.specs.declared.expression.Selector.{Selector, out-Selector, roll-Selector, roll-out-Selector}
use Rattle.ep_tree.specs.declared.expression.Argument.{Argument, out-Argument, roll-out-Argument}
use Rattle.ep_tree.specs.declared.expression.Label.{Label, out-Label, roll-out-Label}
use Rattle.ep_tree.specs.declared.expression.ComponentValue.{ComponentValue}
use Rattle.ep_tree.specs.declared.expression.ComponentValue.TheFolds.{fold-roll-Factor, fold-roll-Selector}
use Rattle.ep_tree.specs.declared.expression.ComponentValue.TheOpen.{Factor-F, Selector-F}
use Rattle.ep_tree.specs.Nesting.{access_nesting, argument_nesting, expression_nesting, factor_nesting, label_nesting, selector_nesting, simple_nesting, term_nesting, addend_nesting, multiplier_nesting, comparison_nesting}
use Rattle.ep_tree.specs.Nodes.{qualified_node}
use Rattle.ep_tree.specs.Shapes.{added, all_of, alone, single_label, all_single, when_none, when_empty, when_some, when_plain, bare_term, bare_simple, bare, access_in, as_identifier, field_in, arguments_in, plain_argument, all_plain, named_last, named_by, named_from, as_named}
use Rattle.ep_levels.proofs.Measures.{most, there}
use Rattle.ep_levels.proofs.ExpressionNodes.{inside_is, expression_is, simple_is, term_is, access_is, argument_is, label_is}

-- ---- opened nodes

-- an expression nests as deep as its sides
expression_opened : (e : Expression) → expression_nesting e ≡ max (simple_nesting (out-Expression e).left) (there comparison_nesting (out-Expression e).right)
expression_opened e = ap expression_nesting (sym (roll-out-Expression e)) ∙ expression_is (out-Expression e).line (out-Expression e).left (out-Expression e).right

-- a simple expression as deep as its terms
simple_opened : (s : Simple) → simple_nesting s ≡ max (term_nesting (out-Simple s).first) (most addend_nesting (out-Simple s).more)
simple_opened s = ap simple_nesting (sym (roll-out-Simple s)) ∙ simple_is (out-Simple s).line (out-Simple s).sign (out-Simple s).first (out-Simple s).more

-- a term as deep as its factors
term_opened : (t : Term) → term_nesting t ≡ max (factor_nesting (out-Term t).first) (most multiplier_nesting (out-Term t).more)
term_opened t = ap term_nesting (sym (roll-out-Term t)) ∙ term_is (out-Term t).line (out-Term t).first (out-Term t).more

-- an access as deep as its selectors
access_opened : (a : Access) → access_nesting a ≡ most selector_nesting (out-Access a).selectors
access_opened a = ap access_nesting (sym (roll-out-Access a)) ∙ access_is (out-Access a).line (out-Access a).name (out-Access a).selectors

-- an argument as deep as its expressions
argument_opened : (a : Argument) → argument_nesting a ≡ max (expression_nesting (out-Argument a).value) (there expression_nesting (out-Argument a).width)
argument_opened a = ap argument_nesting (sym (roll-out-Argument a)) ∙ argument_is (out-Argument a).line (out-Argument a).value (out-Argument a).width

-- a label as deep as its expressions
label_opened : (l : Label) → label_nesting l ≡ max (expression_nesting (out-Label l).low) (there expression_nesting (out-Label l).high)
label_opened l = ap label_nesting (sym (roll-out-Label l)) ∙ label_is (out-Label l).line (out-Label l).low (out-Label l).high

-- ---- what was found where something was found

-- the first was absent
none_is : {A B : Type 0} (o : Option A) (p : Option B) (c : B) → when_none o p ≡ Some c → (o ≡ None) × (p ≡ Some c)
none_is None p c h = (refl, h)
none_is (Some x) p c h = absurd (cc)

-- the list was empty
empty_is : {A B : Type 0} (xs : List A) (p : Option B) (c : B) → when_empty xs p ≡ Some c → (xs ≡ []) × (p ≡ Some c)
empty_is [] p c h = (refl, h)
empty_is (x ∷ xs) p c h = absurd (cc)

-- the list was empty
plain_is : {A B : Type 0} (xs : List A) (b c : B) → when_plain xs b ≡ Some c → xs ≡ []
plain_is [] b c h = refl
plain_is (x ∷ xs) b c h = absurd (cc)

-- the first was there
some_is : {A B : Type 0} (o : Option A) (f : A → Option B) (c : B) → when_some o f ≡ Some c → (x : A) × (o ≡ Some x) × (f x ≡ Some c)
some_is None f c h = absurd (cc)
some_is (Some x) f c h = (x, refl, h)

-- the other was absent
alone_is : {A B : Type 0} (x : A) (o : Option B) (c : A) → alone x o ≡ Some c → (o ≡ None) × (x ≡ c)
alone_is x None c h = (refl, cc)
alone_is x (Some y) c h = absurd (cc)

-- both were there
added_is : {A : Type 0} (o : Option A) (p : Option (List A)) (c : List A) → added o p ≡ Some c → (x : A) × (xs : List A) × (o ≡ Some x) × (p ≡ Some xs) × (c ≡ x ∷ xs)
added_is None None c h = absurd (cc)
added_is None (Some xs) c h = absurd (cc)
added_is (Some x) None c h = absurd (cc)
added_is (Some x) (Some xs) c h = (x, xs, refl, refl, cc)

-- what each item gives takes as many levels as the item
all_of_take : {A B : Type 0} (g : A → Option B) (f : A → ℕ) (h : B → ℕ) → ((x : A) (y : B) → g x ≡ Some y → f x ≡ h y) → (xs : List A) (ys : List B) → all_of g xs ≡ Some ys → most f xs ≡ most h ys
unfolding all_of
all_of_take g f h i [] ys e = let j : [] ≡ ys = cc in ap (most h) j
all_of_take g f h i (x ∷ xs) ys e =
    let v = added_is (g x) (all_of g xs) ys e in
    ap (λ n. max n (most f xs)) (i x v.0 v.2) ∙ ap (λ n. max (h v.0) n) (all_of_take g f h i xs v.1 v.3) ∙ ap (most h) (sym v.4)

-- what is absent takes no level
there_none : {A : Type 0} (f : A → ℕ) (o : Option A) → o ≡ None → there f o ≡ 0
there_none f o h = ap (there f) h

-- nor does an empty list
most_none : {A : Type 0} (f : A → ℕ) (xs : List A) → xs ≡ [] → most f xs ≡ 0
most_none f xs h = ap (most f) h

-- ---- labels and arguments that are one expression

-- a label that is one expression takes as many levels as that
single_takes : (l : Label) (e : Expression) → single_label l ≡ Some e → suc (label_nesting l) ≡ suc (expression_nesting e)
single_takes l e h =
    let v = alone_is (out-Label l).low (out-Label l).high e h in
    omega (arith, label_opened l, there_none expression_nesting (out-Label l).high v.0, ap expression_nesting v.1)

-- the same of all labels
pub single_labels_take : (ls : List Label) (es : List Expression) → all_single ls ≡ Some es → most (λ l. suc (label_nesting l)) ls ≡ most (λ e. suc (expression_nesting e)) es
single_labels_take ls es h = all_of_take single_label (λ l. suc (label_nesting l)) (λ e. suc (expression_nesting e)) single_takes ls es h

-- an argument that is one expression takes as many levels as that
plain_takes : (a : Argument) (e : Expression) → plain_argument a ≡ Some e → suc (argument_nesting a) ≡ suc (expression_nesting e)
plain_takes a e h =
    let v = alone_is (out-Argument a).value (out-Argument a).width e h in
    omega (arith, argument_opened a, there_none expression_nesting (out-Argument a).width v.0, ap expression_nesting v.1)

-- the same of all arguments
plain_arguments_take : (xs : List Argument) (es : List Expression) → all_plain xs ≡ Some es → most (λ a. suc (argument_nesting a)) xs ≡ most (λ e. suc (expression_nesting e)) es
plain_arguments_take xs es h = all_of_take plain_argument (λ a. suc (argument_nesting a)) (λ e. suc (expression_nesting e)) plain_takes xs es h

-- ---- expressions that are one factor

-- an expression that is one factor takes as many levels as that
bare_takes : (e : Expression) (f : Factor) → bare e ≡ Some f → expression_nesting e ≡ factor_nesting f
bare_takes e f h =
    let s = (out-Expression e).left in
    let t = (out-Simple s).first in
    let u = none_is (out-Expression e).right (bare_simple s) f h in
    let v = none_is (out-Simple s).sign (when_empty (out-Simple s).more (bare_term t)) f u.1 in
    let w = empty_is (out-Simple s).more (bare_term t) f v.1 in
    let x = empty_is (out-Term t).more (Some (out-Term t).first) f w.1 in
    let y : (out-Term t).first ≡ f = cc (x.1) in
    omega (arith, expression_opened e, simple_opened s, term_opened t, there_none comparison_nesting (out-Expression e).right u.0, most_none addend_nesting (out-Simple s).more w.0, most_none multiplier_nesting (out-Term t).more x.0, ap factor_nesting y)

-- the layer of a factor
abbrev Opened : Type 0
Opened = Factor-F ComponentValue Element Factor Selector Access Addend Argument Comparison Expression Label Multiplier Simple Term Values

-- a factor that is an access, made of its layer
access_rolled : (w : Opened) (a : Access) → access_in w ≡ Some a → factor_nesting (roll-Factor w) ≡ access_nesting a
access_rolled (Factor-F.Access b) a h = simp fold-roll-Factor (let i : b ≡ a = cc in ap access_nesting i)
access_rolled (Factor-F.Number at n) a h = absurd (cc)
access_rolled (Factor-F.Text at b) a h = absurd (cc)
access_rolled (Factor-F.Nil at) a h = absurd (cc)
access_rolled (Factor-F.Parenthesized at e) a h = absurd (cc)
access_rolled (Factor-F.Not at f) a h = absurd (cc)
access_rolled (Factor-F.Set at ls) a h = absurd (cc)
access_rolled (Factor-F.Structured at n v) a h = absurd (cc)

-- a factor that is an access takes as many levels as that
access_takes : (f : Factor) (a : Access) → access_in (out-Factor f) ≡ Some a → factor_nesting f ≡ access_nesting a
access_takes f a h = ap factor_nesting (sym (roll-out-Factor f)) ∙ access_rolled (out-Factor f) a h

-- an identifier takes no level
pub identifier_takes : (e : Expression) (n : List ℕ) → as_identifier e ≡ Some n → expression_nesting e ≡ 0
identifier_takes e n h =
    let v = some_is (bare e) (λ f. when_some (access_in (out-Factor f)) (λ a. when_plain (out-Access a).selectors (out-Access a).name)) n h in
    let w = some_is (access_in (out-Factor v.0)) (λ a. when_plain (out-Access a).selectors (out-Access a).name) n v.2 in
    bare_takes e v.0 v.1 ∙ access_takes v.0 w.0 w.1 ∙ access_opened w.0 ∙ most_none selector_nesting (out-Access w.0).selectors (plain_is (out-Access w.0).selectors (out-Access w.0).name n w.2)

-- ---- expressions that are a name with arguments

-- the layer of a selector
abbrev OpenedSelector : Type 0
OpenedSelector = Selector-F ComponentValue Element Factor Selector Access Addend Argument Comparison Expression Label Multiplier Simple Term Values

-- a field, made of its layer
field_rolled : (w : OpenedSelector) (n : List ℕ) → field_in w ≡ Some n → selector_nesting (roll-Selector w) ≡ 0
field_rolled (Selector-F.Field at m) n h = simp fold-roll-Selector
field_rolled (Selector-F.Index at es) n h = absurd (cc)
field_rolled (Selector-F.Dereference at) n h = absurd (cc)
field_rolled (Selector-F.Arguments at xs) n h = absurd (cc)

-- a field takes no level
field_takes : (s : Selector) (n : List ℕ) → field_in (out-Selector s) ≡ Some n → selector_nesting s ≡ 0
field_takes s n h = ap selector_nesting (sym (roll-out-Selector s)) ∙ field_rolled (out-Selector s) n h

-- arguments, made of their layer
arguments_rolled : (w : OpenedSelector) (xs : List Argument) → arguments_in w ≡ Some xs → selector_nesting (roll-Selector w) ≡ most (λ a. suc (argument_nesting a)) xs
arguments_rolled (Selector-F.Field at m) xs h = absurd (cc)
arguments_rolled (Selector-F.Index at es) xs h = absurd (cc)
arguments_rolled (Selector-F.Dereference at) xs h = absurd (cc)
arguments_rolled (Selector-F.Arguments at ys) xs h = simp fold-roll-Selector (let i : ys ≡ xs = cc in inside_is argument_nesting ys ∙ ap (most (λ a. suc (argument_nesting a))) i)

-- arguments take as many levels as they have inside their parentheses
arguments_take : (s : Selector) (xs : List Argument) → arguments_in (out-Selector s) ≡ Some xs → selector_nesting s ≡ most (λ a. suc (argument_nesting a)) xs
arguments_take s xs h = ap selector_nesting (sym (roll-out-Selector s)) ∙ arguments_rolled (out-Selector s) xs h

-- a name with its arguments
abbrev Named : Type 0
Named = QualifiedName × List Expression

-- the levels of the arguments
abbrev pub named_most : QualifiedName × List Expression → ℕ
named_most p = most (λ e. suc (expression_nesting e)) p.1

-- no selector is left, or one with arguments
last_takes : (q : QualifiedName) (ss : List Selector) (p : Named) → named_last q ss ≡ Some p → most selector_nesting ss ≡ named_most p
last_takes q [] p h = let i : (q, []) ≡ p = cc in ap named_most i
last_takes q (s ∷ []) p h =
    let v = some_is (arguments_in (out-Selector s)) (λ xs. when_some (all_plain xs) (λ es. Some (q, es))) p h in
    let w = some_is (all_plain v.0) (λ es. Some (q, es)) p v.2 in
    let i : (q, w.0) ≡ p = cc (w.2) in
    let j : most selector_nesting (s ∷ []) ≡ selector_nesting s = omega arith in
    j ∙ arguments_take s v.0 v.1 ∙ plain_arguments_take v.0 w.0 w.1 ∙ ap named_most i
last_takes q (s ∷ u ∷ more) p h = absurd (cc)

-- the first selector is a field of the name, or it is not
by_takes : (at : ℕ) (n : List ℕ) (s : Selector) (more : List Selector) (o : Option (List ℕ)) (p : Named) → field_in (out-Selector s) ≡ o → named_by at n s more o ≡ Some p → most selector_nesting (s ∷ more) ≡ named_most p
by_takes at n s more None p g h = last_takes (qualified_node at n None) (s ∷ more) p h
by_takes at n s more (Some m) p g h = omega (arith, field_takes s m g, last_takes (qualified_node at n (Some m)) more p h)

-- a name and its selectors
from_takes : (at : ℕ) (n : List ℕ) (ss : List Selector) (p : Named) → named_from at n ss ≡ Some p → most selector_nesting ss ≡ named_most p
from_takes at n [] p h = let i : (qualified_node at n None, []) ≡ p = cc in ap named_most i
from_takes at n (s ∷ more) p h = by_takes at n s more (field_in (out-Selector s)) p refl h

-- a name with arguments takes what these take inside their parentheses
pub named_takes : (e : Expression) (p : QualifiedName × List Expression) → as_named e ≡ Some p → expression_nesting e ≡ named_most p
named_takes e p h =
    let v = some_is (bare e) (λ f. when_some (access_in (out-Factor f)) (λ a. named_from (out-Access a).line (out-Access a).name (out-Access a).selectors)) p h in
    let w = some_is (access_in (out-Factor v.0)) (λ a. named_from (out-Access a).line (out-Access a).name (out-Access a).selectors) p v.2 in
    bare_takes e v.0 v.1 ∙ access_takes v.0 w.0 w.1 ∙ access_opened w.0 ∙ from_takes (out-Access w.0).line (out-Access w.0).name (out-Access w.0).selectors p w.2
