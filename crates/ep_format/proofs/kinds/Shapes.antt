-- What is told of two trees of tokens of the same kinds: they agree in the shapes by which productions with a common beginning are told apart.
use Rattle.std.proofs.Common.{◌≡◌, ℕ, Bool, true, false, cond, List, [], ◌∷◌, ◌++◌, Option, Some, None, refl, sym, ap, ◌∙◌, subst}
use Rattle.std.specs.Prelude.{ℤ}
use Rattle.ep_tree.specs.declared.operator.QualifiedName.{QualifiedName}
use Rattle.ep_tree.specs.declared.operator.Sign.{Sign}
use Rattle.ep_tree.specs.declared.expression.Expression.{Expression, out-roll-Expression}
use Rattle.ep_tree.specs.declared.expression.Simple.{Simple, out-roll-Simple}
use Rattle.ep_tree.specs.declared.expression.Term.{Term, out-roll-Term}
use Rattle.ep_tree.specs.declared.expression.Factor.{Factor, out-Factor, out-roll-Factor}
use Rattle.ep_tree.specs.declared.expression.Factor.TheVariants as factor_is
use Rattle.ep_tree.specs.declared.expression.Addend.{Addend}
use Rattle.ep_tree.specs.declared.expression.Comparison.{Comparison}
use Rattle.ep_tree.specs.declared.expression.Multiplier.{Multiplier}
use Rattle.ep_tree.specs.declared.expression.Values.{Values}
use Rattle.ep_tree.specs.declared.expression.Access.{Access, out-Access, out-roll-Access}
use Rattle.ep_tree.specs.declared.expression.Selector.{Selector, out-Selector, out-roll-Selector}
use Rattle.ep_tree.specs.declared.expression.Selector.TheVariants as selector_is
use Rattle.ep_tree.specs.declared.expression.Argument.{Argument, out-Argument, out-roll-Argument}
use Rattle.ep_tree.specs.declared.expression.Label.{Label, out-Label, out-roll-Label}
use Rattle.ep_tree.specs.declared.types.FieldSection.{FieldSection}
use Rattle.ep_tree.specs.declared.expression.ComponentValue.TheOpen.{Factor-F, Selector-F}
use Rattle.ep_tree.specs.Nodes.{qualified_node, access_node, argument_node, expression_node, label_node, simple_node, term_node}
use Rattle.ep_tree.specs.Shapes.{added, all_of, alone, single_label, when_none, when_empty, when_some, when_plain, bare_term, bare_simple, bare, access_in, as_identifier, field_in, arguments_in, plain_argument, all_plain, named_last, named_by, named_from, as_named}
use Rattle.ep_grammar.specs.Expressions.{Called, field_of, single_labels}
use Rattle.ep_grammar.specs.Types.{ended, listed}
use Rattle.ep_format.proofs.kinds.Forms.{Any, Each, Perhaps, InPair, Shaping}

-- ---- what is told of each

abbrev pub ArgumentAs : Argument → Argument → Type 0
ArgumentAs x y = Perhaps Any (out-Argument x).width (out-Argument y).width

abbrev pub SelectorAs : Selector → Selector → Type 0
SelectorAs s t = Perhaps Any (field_in (out-Selector s)) (field_in (out-Selector t)) × Perhaps (Each ArgumentAs) (arguments_in (out-Selector s)) (arguments_in (out-Selector t))

abbrev pub AccessAs : Access → Access → Type 0
AccessAs a b = Each SelectorAs (out-Access a).selectors (out-Access b).selectors

abbrev pub FactorAs : Factor → Factor → Type 0
FactorAs f g = Perhaps AccessAs (access_in (out-Factor f)) (access_in (out-Factor g))

abbrev pub TermAs : Term → Term → Type 0
TermAs t u = Perhaps FactorAs (bare_term t) (bare_term u)

abbrev pub SimpleAs : Simple → Simple → Type 0
SimpleAs s t = Perhaps FactorAs (bare_simple s) (bare_simple t)

abbrev pub ExpressionAs : Expression → Expression → Type 0
ExpressionAs e f = Perhaps FactorAs (bare e) (bare f)

abbrev pub LabelAs : Label → Label → Type 0
LabelAs l m = Perhaps Any (out-Label l).high (out-Label m).high

abbrev pub StartAs : ℕ × List Label → ℕ × List Label → Type 0
StartAs p q = Each LabelAs p.1 q.1

-- the factors that two make of a name
abbrev pub CalledAs : Called → Called → Type 0
CalledAs r s = (l m : ℕ) (n k : List ℕ) (o p : Option (ℕ × List ℕ)) → Perhaps Any o p → FactorAs (r l n o) (s m k p)

abbrev pub Equal : {A : Type 0} → A → A → Type 0
Equal x y = x ≡ y

abbrev pub SectionsAs : List FieldSection × Bool → List FieldSection × Bool → Type 0
SectionsAs = InPair (Each Any) Equal

-- ---- the nodes

-- a relation of two parts, by what they are
by_parts : {A : Type 0} (R : A → A → Type 0) (x y u v : A) → x ≡ u → y ≡ v → R u v → R x y
by_parts R x y u v e f h = subst (λ z. R z y) (sym e) (subst (R u) (sym f) h)

width_is : (l : ℕ) (e : Expression) (o : Option Expression) → (out-Argument (argument_node l e o)).width ≡ o
width_is l e o =
    let rolled = out-roll-Argument (record { line = l; value = e; width = o }) in
    ap (λ r. r.width) rolled

pub argument_node_as : (l m : ℕ) (e f : Expression) (o p : Option Expression) → Perhaps Any o p → ArgumentAs (argument_node l e o) (argument_node m f p)
argument_node_as l m e f o p h = by_parts (Perhaps Any) (out-Argument (argument_node l e o)).width (out-Argument (argument_node m f p)).width o p (width_is l e o) (width_is m f p) h

high_is : (l : ℕ) (e : Expression) (o : Option Expression) → (out-Label (label_node l e o)).high ≡ o
high_is l e o =
    let rolled = out-roll-Label (record { line = l; low = e; high = o }) in
    ap (λ r. r.high) rolled

pub label_node_as : (l m : ℕ) (e f : Expression) (o p : Option Expression) → Perhaps Any o p → LabelAs (label_node l e o) (label_node m f p)
label_node_as l m e f o p h = by_parts (Perhaps Any) (out-Label (label_node l e o)).high (out-Label (label_node m f p)).high o p (high_is l e o) (high_is m f p) h

pub field_node_as : (l m : ℕ) (n k : List ℕ) → SelectorAs (selector_is.Field l n) (selector_is.Field m k)
unfolding out-Selector denote.Hole.Carrier.out
field_node_as l m n k = (tt, tt)

pub index_node_as : (l m : ℕ) (es fs : List Expression) → SelectorAs (selector_is.Index l es) (selector_is.Index m fs)
unfolding out-Selector denote.Hole.Carrier.out
index_node_as l m es fs = (tt, tt)

pub dereference_node_as : (l m : ℕ) → SelectorAs (selector_is.Dereference l) (selector_is.Dereference m)
unfolding out-Selector denote.Hole.Carrier.out
dereference_node_as l m = (tt, tt)

arguments_are : (l : ℕ) (xs : List Argument) → arguments_in (out-Selector (selector_is.Arguments l xs)) ≡ Some xs
arguments_are l xs = ap (λ s. arguments_in (out-Selector s)) (sym (selector_is.rolls-Arguments l xs)) ∙ ap arguments_in (out-roll-Selector (Selector-F.Arguments l xs))

no_field : (l m : ℕ) (xs ys : List Argument) → Perhaps Any (field_in (out-Selector (selector_is.Arguments l xs))) (field_in (out-Selector (selector_is.Arguments m ys)))
unfolding out-Selector denote.Hole.Carrier.out
no_field l m xs ys = tt

pub arguments_node_as : (l m : ℕ) (xs ys : List Argument) → Each ArgumentAs xs ys → SelectorAs (selector_is.Arguments l xs) (selector_is.Arguments m ys)
arguments_node_as l m xs ys h = (
  no_field l m xs ys,
  by_parts (Perhaps (Each ArgumentAs)) (arguments_in (out-Selector (selector_is.Arguments l xs))) (arguments_in (out-Selector (selector_is.Arguments m ys))) (Some xs) (Some ys) (arguments_are l xs) (arguments_are m ys) h,
)

selectors_are : (l : ℕ) (n : List ℕ) (xs : List Selector) → (out-Access (access_node l n xs)).selectors ≡ xs
selectors_are l n xs =
    let rolled = out-roll-Access (record { line = l; name = n; selectors = xs }) in
    ap (λ r. r.selectors) rolled

access_node_as : (l m : ℕ) (n k : List ℕ) (xs ys : List Selector) → Each SelectorAs xs ys → AccessAs (access_node l n xs) (access_node m k ys)
access_node_as l m n k xs ys h = by_parts (Each SelectorAs) (out-Access (access_node l n xs)).selectors (out-Access (access_node m k ys)).selectors xs ys (selectors_are l n xs) (selectors_are m k ys) h

access_is : (a : Access) → access_in (out-Factor (factor_is.Access a)) ≡ Some a
access_is a = ap (λ f. access_in (out-Factor f)) (sym (factor_is.rolls-Access a)) ∙ ap access_in (out-roll-Factor (Factor-F.Access a))

access_factor_as : (a b : Access) → AccessAs a b → FactorAs (factor_is.Access a) (factor_is.Access b)
access_factor_as a b h = by_parts (Perhaps AccessAs) (access_in (out-Factor (factor_is.Access a))) (access_in (out-Factor (factor_is.Access b))) (Some a) (Some b) (access_is a) (access_is b) h

-- a field before other selectors
field_as : (o p : Option (ℕ × List ℕ)) → Perhaps Any o p → (xs ys : List Selector) → Each SelectorAs xs ys → Each SelectorAs (field_of o ++ xs) (field_of p ++ ys)
field_as None None h xs ys i = i
field_as (Some a) (Some b) h xs ys i = (field_node_as a.0 b.0 a.1 b.1, i)
field_as None (Some b) h xs ys i = absurd h
field_as (Some a) None h xs ys i = absurd h

-- an access of a name with or without a field
pub accessed_as : (l m : ℕ) (n k : List ℕ) (o p : Option (ℕ × List ℕ)) → Perhaps Any o p → (xs ys : List Selector) → Each SelectorAs xs ys → FactorAs (factor_is.Access (access_node l n (field_of o ++ xs))) (factor_is.Access (access_node m k (field_of p ++ ys)))
accessed_as l m n k o p h xs ys i =
    access_factor_as (access_node l n (field_of o ++ xs)) (access_node m k (field_of p ++ ys))
    (access_node_as l m n k (field_of o ++ xs) (field_of p ++ ys) (field_as o p h xs ys i))

pub structured_node_as : (l m : ℕ) (q r : QualifiedName) (v w : Values) → FactorAs (factor_is.Structured l q v) (factor_is.Structured m r w)
unfolding out-Factor denote.Hole.Carrier.out
structured_node_as l m q r v w = tt

pub number_node_as : (l m : ℕ) (n k : ℤ) → FactorAs (factor_is.Number l n) (factor_is.Number m k)
unfolding out-Factor denote.Hole.Carrier.out
number_node_as l m n k = tt

pub text_node_as : (l m : ℕ) (n k : List ℕ) → FactorAs (factor_is.Text l n) (factor_is.Text m k)
unfolding out-Factor denote.Hole.Carrier.out
text_node_as l m n k = tt

pub nil_node_as : (l m : ℕ) → FactorAs (factor_is.Nil l) (factor_is.Nil m)
unfolding out-Factor denote.Hole.Carrier.out
nil_node_as l m = tt

pub parenthesized_node_as : (l m : ℕ) (e f : Expression) → FactorAs (factor_is.Parenthesized l e) (factor_is.Parenthesized m f)
unfolding out-Factor denote.Hole.Carrier.out
parenthesized_node_as l m e f = tt

pub not_node_as : (l m : ℕ) (f g : Factor) → FactorAs (factor_is.Not l f) (factor_is.Not m g)
unfolding out-Factor denote.Hole.Carrier.out
not_node_as l m f g = tt

pub set_node_as : (l m : ℕ) (ls ms : List Label) → FactorAs (factor_is.Set l ls) (factor_is.Set m ms)
unfolding out-Factor denote.Hole.Carrier.out
set_node_as l m ls ms = tt

empty_as : {A B : Type 0} (P : B → B → Type 0) (xs ys : List A) → Each Any xs ys → (o p : Option B) → Perhaps P o p → Perhaps P (when_empty xs o) (when_empty ys p)
empty_as P [] [] h o p i = i
empty_as P (x ∷ xs) (y ∷ ys) h o p i = tt
empty_as P [] (y ∷ ys) h o p i = absurd h
empty_as P (x ∷ xs) [] h o p i = absurd h

none_as : {A B : Type 0} (P : B → B → Type 0) (x y : Option A) → Perhaps Any x y → (o p : Option B) → Perhaps P o p → Perhaps P (when_none x o) (when_none y p)
none_as P None None h o p i = i
none_as P (Some x) (Some y) h o p i = tt
none_as P None (Some y) h o p i = absurd h
none_as P (Some x) None h o p i = absurd h

term_is : (l : ℕ) (f : Factor) (ms : List Multiplier) → bare_term (term_node l f ms) ≡ when_empty ms (Some f)
term_is l f ms =
    let rolled = out-roll-Term (record { line = l; first = f; more = ms }) in
    ap (λ r. when_empty r.more (Some r.first)) rolled

pub term_node_as : (l m : ℕ) (f g : Factor) (ms ns : List Multiplier) → FactorAs f g → Each Any ms ns → TermAs (term_node l f ms) (term_node m g ns)
term_node_as l m f g ms ns h i =
    by_parts (Perhaps FactorAs) (bare_term (term_node l f ms)) (bare_term (term_node m g ns)) (when_empty ms (Some f)) (when_empty ns (Some g)) (term_is l f ms) (term_is m g ns)
    (empty_as FactorAs ms ns i (Some f) (Some g) h)

simple_is : (l : ℕ) (o : Option Sign) (t : Term) (ads : List Addend) → bare_simple (simple_node l o t ads) ≡ when_none o (when_empty ads (bare_term t))
simple_is l o t ads =
    let rolled = out-roll-Simple (record { line = l; sign = o; first = t; more = ads }) in
    ap (λ r. when_none r.sign (when_empty r.more (bare_term r.first))) rolled

pub simple_node_as : (l m : ℕ) (o p : Option Sign) (t u : Term) (ads bds : List Addend) → Perhaps Any o p → TermAs t u → Each Any ads bds → SimpleAs (simple_node l o t ads) (simple_node m p u bds)
simple_node_as l m o p t u ads bds h i j =
    by_parts (Perhaps FactorAs) (bare_simple (simple_node l o t ads)) (bare_simple (simple_node m p u bds)) (when_none o (when_empty ads (bare_term t))) (when_none p (when_empty bds (bare_term u))) (simple_is l o t ads) (simple_is m p u bds)
    (none_as FactorAs o p h (when_empty ads (bare_term t)) (when_empty bds (bare_term u)) (empty_as FactorAs ads bds j (bare_term t) (bare_term u) i))

expression_is : (l : ℕ) (s : Simple) (c : Option Comparison) → bare (expression_node l s c) ≡ when_none c (bare_simple s)
expression_is l s c =
    let rolled = out-roll-Expression (record { line = l; left = s; right = c }) in
    ap (λ r. when_none r.right (bare_simple r.left)) rolled

pub expression_node_as : (l m : ℕ) (s t : Simple) (c d : Option Comparison) → SimpleAs s t → Perhaps Any c d → ExpressionAs (expression_node l s c) (expression_node m t d)
expression_node_as l m s t c d h i =
    by_parts (Perhaps FactorAs) (bare (expression_node l s c)) (bare (expression_node m t d)) (when_none c (bare_simple s)) (when_none d (bare_simple t)) (expression_is l s c) (expression_is m t d)
    (none_as FactorAs c d i (bare_simple s) (bare_simple t) h)

-- ---- what has a shape has it wherever it is related

-- something is there
abbrev There : {A : Type 0} → Option A → Type 0
There o = (d : _) × (o ≡ Some d)

added_is : {A : Type 0} (o : Option A) (p : Option (List A)) (c : List A) → added o p ≡ Some c → There o × There p
added_is None None c h = absurd cc
added_is None (Some xs) c h = absurd cc
added_is (Some x) None c h = absurd cc
added_is (Some x) (Some xs) c h = ((x, refl), (xs, refl))

added_there : {A : Type 0} (o : Option A) (p : Option (List A)) → There o → There p → There (added o p)
added_there o p h i = (h.0 ∷ i.0, ap (λ z. added z p) h.1 ∙ ap (added (Some h.0)) i.1)

all_of_as : {A B : Type 0} (P : A → A → Type 0) (f : A → Option B) → ((x y : A) (c : B) → P x y → f x ≡ Some c → There (f y)) → (xs ys : List A) → Each P xs ys → (c : List B) → all_of f xs ≡ Some c → There (all_of f ys)
unfolding all_of
all_of_as P f h [] [] e c g = ([], refl)
all_of_as P f h (x ∷ xs) (y ∷ ys) e c g =
    let v = added_is (f x) (all_of f xs) c g in
    added_there (f y) (all_of f ys) (h x y v.0.0 e.0 v.0.1) (all_of_as P f h xs ys e.1 v.1.0 v.1.1)
all_of_as P f h [] (y ∷ ys) e c g = absurd e
all_of_as P f h (x ∷ xs) [] e c g = absurd e

alone_as : {A B : Type 0} (x y : A) (o p : Option B) (c : A) → Perhaps Any o p → alone x o ≡ Some c → There (alone y p)
alone_as x y None None c h e = (y, refl)
alone_as x y (Some a) (Some b) c h e = absurd cc
alone_as x y None (Some b) c h e = absurd h
alone_as x y (Some a) None c h e = absurd h

some_as : {A B : Type 0} (P : A → A → Type 0) (f g : A → Option B) → ((x y : A) (c : B) → P x y → f x ≡ Some c → There (g y)) → (o p : Option A) → Perhaps P o p → (c : B) → when_some o f ≡ Some c → There (when_some p g)
some_as P f g h None None r c e = absurd cc
some_as P f g h (Some x) (Some y) r c e = h x y c r e
some_as P f g h None (Some y) r c e = absurd r
some_as P f g h (Some x) None r c e = absurd r

plain_as : {A B : Type 0} (P : A → A → Type 0) (xs ys : List A) → Each P xs ys → (a b c : B) → when_plain xs a ≡ Some c → There (when_plain ys b)
plain_as P [] [] h a b c e = (b, refl)
plain_as P (x ∷ xs) (y ∷ ys) h a b c e = absurd cc
plain_as P [] (y ∷ ys) h a b c e = absurd h
plain_as P (x ∷ xs) [] h a b c e = absurd h

label_as : (l m : Label) (c : Expression) → LabelAs l m → single_label l ≡ Some c → There (single_label m)
label_as l m c h e = alone_as (out-Label l).low (out-Label m).low (out-Label l).high (out-Label m).high c h e

argument_as : (a b : Argument) (c : Expression) → ArgumentAs a b → plain_argument a ≡ Some c → There (plain_argument b)
argument_as a b c h e = alone_as (out-Argument a).value (out-Argument b).value (out-Argument a).width (out-Argument b).width c h e

-- each label is one expression
pub single_as : Shaping StartAs single_labels Any
single_as p q c h e =
    let v = all_of_as LabelAs single_label label_as p.1 q.1 h c e in
    (v.0, v.1, tt)

-- an identifier alone
abbrev identifier_of : Access → Option (List ℕ)
identifier_of a = when_plain (out-Access a).selectors (out-Access a).name

abbrev identifier_in : Factor → Option (List ℕ)
identifier_in f = when_some (access_in (out-Factor f)) identifier_of

identifier_of_as : (a b : Access) (c : List ℕ) → AccessAs a b → identifier_of a ≡ Some c → There (identifier_of b)
identifier_of_as a b c h e = plain_as SelectorAs (out-Access a).selectors (out-Access b).selectors h (out-Access a).name (out-Access b).name c e

identifier_in_as : (f g : Factor) (c : List ℕ) → FactorAs f g → identifier_in f ≡ Some c → There (identifier_in g)
identifier_in_as f g c h e = some_as AccessAs identifier_of identifier_of identifier_of_as (access_in (out-Factor f)) (access_in (out-Factor g)) h c e

pub identifier_as : Shaping ExpressionAs as_identifier Any
identifier_as e f c h g =
    let v = some_as FactorAs identifier_in identifier_in identifier_in_as (bare e) (bare f) h c g in
    (v.0, v.1, tt)

abbrev with_name : QualifiedName → List Expression → Option (QualifiedName × List Expression)
with_name q es = Some (q, es)

named_there : (q r : QualifiedName) (xs ys : List Argument) (o : Option (List Expression)) (c : QualifiedName × List Expression) → Each ArgumentAs xs ys → all_plain xs ≡ o → when_some o (with_name q) ≡ Some c → There (when_some (all_plain ys) (with_name r))
named_there q r xs ys None c h i e = absurd cc
named_there q r xs ys (Some es) c h i e =
    let v = all_of_as ArgumentAs plain_argument argument_as xs ys h es i in
    ((r, v.0), ap (λ o. when_some o (with_name r)) v.1)

plain_arguments_as : (q r : QualifiedName) (xs ys : List Argument) (c : QualifiedName × List Expression) → Each ArgumentAs xs ys → when_some (all_plain xs) (with_name q) ≡ Some c → There (when_some (all_plain ys) (with_name r))
plain_arguments_as q r xs ys c h e = named_there q r xs ys (all_plain xs) c h refl e

last_as : (q r : QualifiedName) (ss ts : List Selector) → Each SelectorAs ss ts → (c : QualifiedName × List Expression) → named_last q ss ≡ Some c → There (named_last r ts)
last_as q r [] [] h c e = ((r, []), refl)
last_as q r (s ∷ []) (t ∷ []) h c e = some_as (Each ArgumentAs) (λ xs. when_some (all_plain xs) (with_name q)) (λ xs. when_some (all_plain xs) (with_name r)) (plain_arguments_as q r) (arguments_in (out-Selector s)) (arguments_in (out-Selector t)) h.0.1 c e
last_as q r (s ∷ u ∷ more) ts h c e = absurd cc
last_as q r [] (t ∷ ts) h c e = absurd h
last_as q r (s ∷ []) [] h c e = absurd h
last_as q r (s ∷ []) (t ∷ v ∷ rest) h c e = absurd h.1

by_as : (at bt : ℕ) (n k : List ℕ) (s t : Selector) (more rest : List Selector) (o p : Option (List ℕ)) → SelectorAs s t → Each SelectorAs more rest → Perhaps Any o p → (c : QualifiedName × List Expression) → named_by at n s more o ≡ Some c → There (named_by bt k t rest p)
by_as at bt n k s t more rest None None h i j c e = last_as (qualified_node at n None) (qualified_node bt k None) (s ∷ more) (t ∷ rest) (h, i) c e
by_as at bt n k s t more rest (Some m) (Some l) h i j c e = last_as (qualified_node at n (Some m)) (qualified_node bt k (Some l)) more rest i c e
by_as at bt n k s t more rest None (Some l) h i j c e = absurd j
by_as at bt n k s t more rest (Some m) None h i j c e = absurd j

from_as : (at bt : ℕ) (n k : List ℕ) (ss ts : List Selector) → Each SelectorAs ss ts → (c : QualifiedName × List Expression) → named_from at n ss ≡ Some c → There (named_from bt k ts)
from_as at bt n k [] [] h c e = ((qualified_node bt k None, []), refl)
from_as at bt n k (s ∷ more) (t ∷ rest) h c e = by_as at bt n k s t more rest (field_in (out-Selector s)) (field_in (out-Selector t)) h.0 h.1 h.0.0 c e
from_as at bt n k [] (t ∷ rest) h c e = absurd h
from_as at bt n k (s ∷ more) [] h c e = absurd h

-- a name with arguments
abbrev named_of : Access → Option (QualifiedName × List Expression)
named_of a = named_from (out-Access a).line (out-Access a).name (out-Access a).selectors

abbrev named_in : Factor → Option (QualifiedName × List Expression)
named_in f = when_some (access_in (out-Factor f)) named_of

named_of_as : (a b : Access) (c : QualifiedName × List Expression) → AccessAs a b → named_of a ≡ Some c → There (named_of b)
named_of_as a b c h e = from_as (out-Access a).line (out-Access b).line (out-Access a).name (out-Access b).name (out-Access a).selectors (out-Access b).selectors h c e

named_in_as : (f g : Factor) (c : QualifiedName × List Expression) → FactorAs f g → named_in f ≡ Some c → There (named_in g)
named_in_as f g c h e = some_as AccessAs named_of named_of named_of_as (access_in (out-Factor f)) (access_in (out-Factor g)) h c e

pub named_as : Shaping ExpressionAs as_named Any
named_as e f c h g =
    let v = some_as FactorAs named_in named_in named_in_as (bare e) (bare f) h c g in
    (v.0, v.1, tt)

-- a semicolon behind sections
ended_is : (b : Bool) (x c : List FieldSection) → cond b (Some x) None ≡ Some c → b ≡ true
ended_is true x c h = refl
ended_is false x c h = absurd cc

pub ended_as : Shaping SectionsAs ended Any
ended_as p q c h e = (q.0, ap (λ b. cond b (Some q.0) None) (sym h.1 ∙ ended_is p.1 p.0 c e), tt)

pub listed_as : Shaping SectionsAs listed Any
listed_as p q c h e = (q.0, refl, tt)
