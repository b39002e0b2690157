-- The forms of which a production is made.
use Rattle.std.specs.Prelude.{ℕ, Bool, true, false, List, [], ◌∷◌, Option, Some, None}
use Rattle.ep_token.specs.declared.symbol.TheConstants as sym
use Rattle.ep_tree.specs.declared.expression.Expression.{Expression}
use Rattle.ep_tree.specs.declared.expression.Factor.{Factor}
use Rattle.ep_tree.specs.declared.expression.ComponentValue.{ComponentValue}
use Rattle.ep_tree.specs.declared.expression.Element.{Element}
use Rattle.ep_tree.specs.declared.expression.Values.{Values}
use Rattle.ep_tree.specs.declared.types.Plain.{Plain}
use Rattle.ep_tree.specs.declared.types.Fields.{Fields}
use Rattle.ep_tree.specs.declared.statement.Statement.{Statement}
use Rattle.ep_tree.specs.declared.routine.Routine.{Routine}
use Rattle.ep_grammar.specs.Classes.{Class, Word, Symbol, Sort, carried}

-- what may stand one level deeper
pub data Nonterminal : Type 0 where
  expressions factors component_values elements bracketed_values plains field_lists statements routines : Nonterminal

abbrev pub Node : Nonterminal → Type 0
Node expressions = Expression
Node factors = Factor
Node component_values = ComponentValue
Node elements = Element
Node bracketed_values = Values
Node plains = Plain
Node field_lists = Fields
Node statements = Statement
Node routines = Routine

-- an item of a row, after which it goes on, or what ends the row
pub data Step (A B : Type 0) : Type 0 where
  More : A → Step A B
  Last : B → Step A B

-- whether there is a shape
abbrev pub HasShape : {C : Type 0} → Option C → Type 0
HasShape None = ⊥
HasShape (Some c) = Unit {0}

-- everything has the first of two shapes, or everything has the second, so what has begun can be brought to its end
pub data AlwaysOne {A C D : Type 0} (f : A → Option C) (g : A → Option D) : Type 0 where
  always_first : ((y : A) → HasShape (f y)) → AlwaysOne f g
  always_second : ((y : A) → HasShape (g y)) → AlwaysOne f g

-- A production, or a part of one. The classes are those of the tokens that begin what stands behind them.
pub data Syntax : Type 0 → Type 1 where
  -- nothing, which means this
  give : {X : Type 0} → X → Syntax X
  -- a token
  token : (s : Sort) → Syntax (carried s)
  -- nothing, which means the line of the next token
  line : Syntax ℕ
  -- what may stand one level deeper
  inside : (n : Nonterminal) → Syntax (Node n)
  -- one after the other, of which the first means a function
  apply : {A X : Type 0} → Syntax (A → X) → Syntax A → Syntax X
  -- the one or the other
  either : {X : Type 0} → List Class → Syntax X → Syntax X → Syntax X
  -- the first where the next token is of one of these classes, and the second where it is not
  switch : {X : Type 0} → List Class → Syntax X → Syntax X → Syntax X
  -- items, and then steps, until one is the last or no more follows
  row : {A B : Type 0} → Syntax (List A) → List Class → Syntax (Step A B) → B → Syntax (List A × B)
  -- what needs a level inside it
  deeper : {X : Type 0} → List Class → Syntax X → Syntax X
  -- the first, and then the second where the first has the one shape, or the third where it has the other; it has one
  -- of them always
  shaped :
      {A C D X : Type 0} → Syntax A → (f : A → Option C) → List Class → Syntax (C → X) → (g : A → Option D) →
      Syntax (D → X) → AlwaysOne f g → Syntax X

infixl 10 ◌&◌
abbrev pub ◌&◌ : {A X : Type 0} → Syntax (A → X) → Syntax A → Syntax X
s & t = apply s t

-- the second means nothing
infixl 10 ◌<*◌
abbrev pub ◌<*◌ : {A X : Type 0} → Syntax X → Syntax A → Syntax X
s <* t = apply (apply (give (λ x a. x)) s) t

abbrev pub symbol : ℕ → Syntax (Unit {0})
symbol n = token (Sort.exactly (Symbol n))

abbrev pub keyword : ℕ → Syntax (Unit {0})
keyword n = token (Sort.exactly (Word n))

abbrev pub optional : {X : Type 0} → List Class → Syntax X → Syntax (Option X)
optional cs s = either cs (apply (give Some) s) (give None)

abbrev pub flag : ℕ → Syntax Bool
flag w = either (Word w ∷ []) (apply (give (λ x. true)) (keyword w)) (give false)

abbrev pub optional_list : {X : Type 0} → List Class → Syntax (List X) → Syntax (List X)
optional_list cs s = either cs s (give [])

abbrev pub first_of_pair : {A B : Type 0} → A × B → A
first_of_pair p = p.0

abbrev pub single : {A : Type 0} → A → List A
single a = a ∷ []

-- a step that is an item
abbrev pub item : {A : Type 0} → Syntax A → Syntax (Step A (Unit {0}))
item s = apply (give More) s

-- a step that is an item after this symbol
abbrev pub item_after : {A : Type 0} → ℕ → Syntax A → Syntax (Step A (Unit {0}))
item_after n s = apply (apply (give (λ u x. More x)) (symbol n)) s

-- as many as there are
abbrev pub many : {A : Type 0} → List Class → Syntax A → Syntax (List A)
many cs s = apply (give first_of_pair) (row (give []) cs (item s) (tt {0}))

-- one or more
abbrev pub some : {A : Type 0} → List Class → Syntax A → Syntax (List A)
some cs s = apply (give first_of_pair) (row (apply (give single) s) cs (item s) (tt {0}))

-- one or more, with this symbol between them
abbrev pub separated : {A : Type 0} → ℕ → Syntax A → Syntax (List A)
separated n s = apply (give first_of_pair) (row (apply (give single) s) (Symbol n ∷ []) (item_after n s) (tt {0}))

-- a step that is an item after a semicolon, or a semicolon at the end
abbrev pub item_or_end : {A : Type 0} → List Class → Syntax A → Syntax (Step A (Unit {0}))
item_or_end cs s =
    apply (apply (give (λ u x. x)) (symbol sym.SEMICOLON)) (either cs (apply (give More) s) (give (Last (tt {0}))))

-- one or more, with semicolons between them and perhaps at the end
abbrev pub closed : {A : Type 0} → List Class → Syntax A → Syntax (List A)
closed cs s =
    apply (give first_of_pair) (row (apply (give single) s) (Symbol sym.SEMICOLON ∷ []) (item_or_end cs s) (tt {0}))
