-- Properties of typed forms that each rule keeps: a form has them where its parts do.
use Rattle.std.proofs.Common.{◌≡◌, ℕ, ℤ, Bool, true, false, List, [], ◌∷◌, Option, Some, None, refl}
use Rattle.std.specs.Prelude.{⊤, if◌then◌else◌}
use Rattle.ep_tree.specs.declared.operator.AddingOperator.{AddingOperator}
use Rattle.ep_tree.specs.declared.operator.MultiplyingOperator.{MultiplyingOperator}
use Rattle.ep_tree.specs.declared.operator.RelationalOperator.{RelationalOperator}
use Rattle.ep_tree.specs.declared.operator.Sign.{Sign}
use Rattle.ep_typed.specs.Trees as tree
use Rattle.ep_scope.specs.Scopes.{Region, Meant, Declares, Requires, FieldOf, Nothing, depth_in, meant, meant_in}
use Rattle.ep_scope.specs.Scopes as meaning
use Rattle.ep_scope.specs.declared.kind.Host.TheVariants as host
use Rattle.ep_scope.specs.declared.kind.Kind.TheVariants as kind
use Rattle.ep_scope.specs.declared.required.Function.{Function}
use Rattle.ep_rules.specs.declared.access.Access.TheVariants as access
use Rattle.ep_rules.specs.Constructors.{Label, set_judged}
use Rattle.ep_rules.specs.Names.{spelled, call_declared, leaf, parenthesized, value_named}
use Rattle.ep_rules.specs.FieldDesignators.{designated}
use Rattle.ep_rules.specs.Functions.{Given, applied_one, applied_two}
use Rattle.ep_rules.specs.Indexing.{indexed}
use Rattle.ep_rules.specs.Judgements.{Judged, Accepts, Breaks, Typed, both, when_accepted}
use Rattle.ep_rules.specs.Operators.{signed, negated, added, multiplied, compared}
use Rattle.ep_check_expr.specs.StructuredValues.{Chosen, Components, Labelled, Valued, Written, WrittenRow, next_written, no_written, row_of, structure_judged}

-- what is accepted has the property
abbrev pub Satisfies : {A : Type 0} → (A → Type 0) → Judged A → Type 0
Satisfies Q (Accepts t) = Q t
Satisfies Q (Breaks rules) = ⊤

-- anything that is accepted
pub any-satisfies : {A : Type 0} (J : Judged A) → Satisfies (λ a. ⊤) J
any-satisfies (Accepts a) = tt
any-satisfies (Breaks rules) = tt

-- a form of one part
pub then-satisfies : {A B : Type 0} (P : A → Type 0) (Q : B → Type 0) (f : A → Judged B) (J : Judged A) → Satisfies P J → ((a : A) → P a → Satisfies Q (f a)) → Satisfies Q (when_accepted f J)
then-satisfies P Q f (Accepts a) h g = g a h
then-satisfies P Q f (Breaks rules) h g = tt

-- a form of two parts
pub both-satisfies : {A B C : Type 0} (P : A → Type 0) (Q : B → Type 0) (R : C → Type 0) (f : A → B → Judged C) (J : Judged A) (K : Judged B)
    → Satisfies P J → Satisfies Q K → ((a : A) (b : B) → P a → Q b → Satisfies R (f a b)) → Satisfies R (both f J K)
both-satisfies P Q R f (Accepts a) (Accepts b) h k g = g a b h k
both-satisfies P Q R f (Accepts a) (Breaks rules) h k g = tt
both-satisfies P Q R f (Breaks rules) (Accepts b) h k g = tt
both-satisfies P Q R f (Breaks rules) (Breaks more) h k g = tt

-- what has one property has another
pub weaker-satisfies : {A : Type 0} (P Q : A → Type 0) (J : Judged A) → ((a : A) → P a → Q a) → Satisfies P J → Satisfies Q J
weaker-satisfies P Q (Accepts a) f h = f a h
weaker-satisfies P Q (Breaks rules) f h = tt

-- two properties at once
pub pair-satisfies : {A : Type 0} (P Q : A → Type 0) (J : Judged A) → Satisfies P J → Satisfies Q J → Satisfies (λ a. P a × Q a) J
pair-satisfies P Q (Accepts a) p q = (p, q)
pair-satisfies P Q (Breaks rules) p q = tt

-- whichever is chosen
pub if-satisfies : (Q : Typed → Type 0) (b : Bool) (J K : Judged Typed) → (b ≡ true → Satisfies Q J) → Satisfies Q K → Satisfies Q (if b then J else K)
if-satisfies Q true J K f s = f refl
if-satisfies Q false J K f s = s

-- all arguments have it
abbrev pub AreGiven : (Typed → Type 0) → List Given → Type 0
AreGiven Q [] = ⊤
AreGiven Q (g ∷ gs) = Satisfies Q g.value × AreGiven Q gs

-- both values of a label have it
abbrev pub IsHigh : (Typed → Type 0) → Option (Judged Typed) → Type 0
IsHigh Q None = ⊤
IsHigh Q (Some high) = Satisfies Q high

abbrev pub AreLabels : (Typed → Type 0) → List Label → Type 0
AreLabels Q [] = ⊤
AreLabels Q (l ∷ ls) = (Satisfies Q l.low × IsHigh Q l.high) × AreLabels Q ls

-- whatever is asked of a component value, it has it
abbrev pub IsValued : (Typed → Type 0) → Valued → Type 0
IsValued Q value = (asked : Option ℕ) → Satisfies Q (value asked)

abbrev mutual
  -- what is written for components has it: labels and values, or the value of a tag and all that is given in the variant
  pub IsWritten : (Typed → Type 0) → Written → Type 0
  IsWritten Q (Labelled ls value) = AreLabels Q ls × IsValued Q value
  IsWritten Q (Chosen name tag completed row) = Satisfies Q tag × IsRow Q row

  pub IsRow : (Typed → Type 0) → WrittenRow → Type 0
  IsRow Q no_written = ⊤
  IsRow Q (next_written w row) = IsWritten Q w × IsRow Q row

abbrev pub AreWritten : (Typed → Type 0) → List Written → Type 0
AreWritten Q ws = IsRow Q (row_of ws)

abbrev pub IsValuedIf : (Typed → Type 0) → Option Valued → Type 0
IsValuedIf Q None = ⊤
IsValuedIf Q (Some value) = IsValued Q value

-- all that stands in the brackets of a structured value has it
abbrev pub AreComponents : (Typed → Type 0) → Components → Type 0
AreComponents Q c = AreWritten Q c.elements × IsValuedIf Q c.otherwise

-- what is declared has it with arguments that have it, in code of a depth
abbrev pub IsCalled : ℕ → (Typed → Type 0) → Meant → Type 0
IsCalled depth Q (Declares d) = (gs : List Given) → AreGiven Q gs → Satisfies Q (call_declared depth d d.what gs)
IsCalled depth Q (meaning.Standard file) = ⊤
IsCalled depth Q (Requires r) = ⊤
IsCalled depth Q (FieldOf f) = ⊤
IsCalled depth Q Nothing = ⊤

-- each rule keeps the property, and what names mean in these scopes has it
pub record IsKept (Q : Typed → Type 0) (scopes : List Region) : Type 0 where
  pub number : (z : ℤ) → Satisfies Q (spelled host.Integer z)
  pub character : (z : ℤ) → Satisfies Q (spelled host.Char z)
  pub text : (bytes : List ℕ) → Satisfies Q (leaf (tree.Text bytes) kind.Text access.Value)
  pub named : (name : List ℕ) → Satisfies Q (value_named (depth_in scopes) name (meant scopes name))
  pub within : (interface name : List ℕ) → Satisfies Q (value_named (depth_in scopes) name (meant_in scopes interface name))
  pub called : (name : List ℕ) → IsCalled (depth_in scopes) Q (meant scopes name)
  pub indexes : (x i : Typed) → Q x → Q i → Satisfies Q (indexed scopes x i)
  pub fields : (name : List ℕ) (x : Typed) → Q x → Satisfies Q (designated scopes name x)
  pub parenthesizes : (x : Typed) → Q x → Q (parenthesized x)
  pub signs : (o : Option Sign) (x : Typed) → Q x → Satisfies Q (signed o x)
  pub negates : (x : Typed) → Q x → Satisfies Q (negated x)
  pub adds : (o : AddingOperator) (x y : Typed) → Q x → Q y → Satisfies Q (added o x y)
  pub multiplies : (o : MultiplyingOperator) (x y : Typed) → Q x → Q y → Satisfies Q (multiplied o x y)
  pub compares : (o : RelationalOperator) (x y : Typed) → Q x → Q y → Satisfies Q (compared o x y)
  pub applies_one : (f : Function) (x : Typed) → Q x → Satisfies Q (applied_one f x)
  pub constructs : (ls : List Label) → AreLabels Q ls → Satisfies Q (set_judged ls)
  pub structures : (c : Components) → AreComponents Q c → (n : ℕ) → Satisfies Q (structure_judged scopes c n)
  pub applies_two : (f : Function) (x y : Typed) → Q x → Q y → Satisfies Q (applied_two f x y)
