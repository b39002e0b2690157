-- What the grammar tells apart in tokens: their classes, and what a token of a sort carries.
use Rattle.std.specs.Prelude.{ℕ, ℤ, Bool, true, false, if◌then◌else◌, ◌==◌, List, [], ◌∷◌, Option, Some, None, codes}
use Rattle.std.specs.Str.{bytes_eq}
use Rattle.ep_token.specs.declared.symbol.TheConstants as sym
use Rattle.ep_token.specs.declared.word.TheConstants as word
use Rattle.ep_token.specs.declared.token.Token.{Token}
use Rattle.ep_token.specs.declared.token.TokenKind.{TokenKind}
use Rattle.ep_token.specs.declared.token.TokenKind.TheVariants as kind
use Rattle.ep_tree.specs.declared.operator.RelationalOperator.{RelationalOperator}
use Rattle.ep_tree.specs.declared.operator.RelationalOperator.TheVariants as relational
use Rattle.ep_tree.specs.declared.operator.Sign.{Sign}
use Rattle.ep_tree.specs.declared.operator.Sign.TheVariants as sign
use Rattle.ep_tree.specs.declared.operator.AddingOperator.{AddingOperator}
use Rattle.ep_tree.specs.declared.operator.AddingOperator.TheVariants as adding
use Rattle.ep_tree.specs.declared.operator.MultiplyingOperator.{MultiplyingOperator}
use Rattle.ep_tree.specs.declared.operator.MultiplyingOperator.TheVariants as multiplying
use Rattle.ep_tree.specs.declared.operator.Direction.{Direction}
use Rattle.ep_tree.specs.declared.operator.Direction.TheVariants as direction

-- `interface`, `implementation` and `forward` are identifiers with that spelling, and a text ends with `End`
pub data Class : Type 0 where
  Word : ℕ → Class
  Symbol : ℕ → Class
  Name Number Text Interface Implementation Forward End : Class

abbrev pub same : Class → Class → Bool
same (Word n) (Word m) = n == m
same (Symbol n) (Symbol m) = n == m
same Name Name = true
same Number Number = true
same Text Text = true
same Interface Interface = true
same Implementation Implementation = true
same Forward Forward = true
same End End = true
same _ _ = false

-- whether a class is one of these
abbrev pub has : List Class → Class → Bool
has [] c = false
has (d ∷ ds) c = if same c d then true else has ds c

-- the class of an identifier
unfoldable pub class_of_name : List ℕ → Class
class_of_name n =
    if bytes_eq n (codes "interface") then Interface else (
    if bytes_eq n (codes "implementation") then Implementation else (
    if bytes_eq n (codes "forward") then Forward else Name))

abbrev pub class_of_kind : TokenKind → Class
class_of_kind (kind.Word w) = Word w
class_of_kind (kind.Sym s) = Symbol s
class_of_kind (kind.Id n) = class_of_name n
class_of_kind (kind.Number n) = Number
class_of_kind (kind.Str b) = Text

-- the class of the next token
abbrev pub class_of : List Token → Class
class_of [] = End
class_of (t ∷ ts) = class_of_kind t.kind

-- the line of the next token
abbrev pub line_of : List Token → ℕ
line_of [] = 0
line_of (t ∷ ts) = t.line

abbrev pub after_first : List Token → List Token
after_first [] = []
after_first (t ∷ ts) = ts

-- what is asked of a token: its class alone, or a class of a group, with what the token means
pub data Sort : Type 0 where
  exactly : Class → Sort
  names numbers texts relational_operators signs adding_operators multiplying_operators directions : Sort

abbrev pub carried : Sort → Type 0
carried (exactly c) = Unit {0}
carried names = List ℕ
carried numbers = ℤ
carried texts = List ℕ
carried relational_operators = RelationalOperator
carried signs = Sign
carried adding_operators = AddingOperator
carried multiplying_operators = MultiplyingOperator
carried directions = Direction

-- the classes of the tokens of a sort
abbrev pub classes : Sort → List Class
classes (exactly c) = c ∷ []
classes names = Name ∷ Interface ∷ Implementation ∷ Forward ∷ []
classes numbers = Number ∷ []
classes texts = Text ∷ []
classes relational_operators =
    Symbol sym.EQUAL ∷ Symbol sym.NOT_EQUAL ∷ Symbol sym.LESS ∷ Symbol sym.GREATER ∷ Symbol sym.AT_MOST ∷
    Symbol sym.AT_LEAST ∷ Word word.IN ∷ []
classes signs = Symbol sym.PLUS ∷ Symbol sym.MINUS ∷ []
classes adding_operators =
    Symbol sym.PLUS ∷ Symbol sym.MINUS ∷ Symbol sym.SYMMETRIC_DIFFERENCE ∷ Word word.OR ∷ Word word.OR_ELSE ∷ []
classes multiplying_operators =
    Symbol sym.STAR ∷ Word word.DIV ∷ Word word.MOD ∷ Word word.AND ∷ Word word.AND_THEN ∷ []
classes directions = Word word.TO ∷ Word word.DOWNTO ∷ []

abbrev pub when : {A : Type 0} → Bool → A → Option A → Option A
when true a o = Some a
when false a o = o

abbrev pub carried_name : TokenKind → Option (List ℕ)
carried_name (kind.Id n) = Some n
carried_name _ = None

abbrev pub carried_number : TokenKind → Option ℤ
carried_number (kind.Number n) = Some n
carried_number _ = None

abbrev pub carried_text : TokenKind → Option (List ℕ)
carried_text (kind.Str b) = Some b
carried_text _ = None

abbrev pub relational_at : Class → Option RelationalOperator
relational_at c =
    when (same c (Symbol sym.EQUAL)) relational.Equal (
    when (same c (Symbol sym.NOT_EQUAL)) relational.NotEqual (
    when (same c (Symbol sym.LESS)) relational.Less (
    when (same c (Symbol sym.GREATER)) relational.Greater (
    when (same c (Symbol sym.AT_MOST)) relational.AtMost (
    when (same c (Symbol sym.AT_LEAST)) relational.AtLeast (
    when (same c (Word word.IN)) relational.In None))))))

abbrev pub sign_at : Class → Option Sign
sign_at c = when (same c (Symbol sym.PLUS)) sign.Plus (when (same c (Symbol sym.MINUS)) sign.Minus None)

abbrev pub adding_at : Class → Option AddingOperator
adding_at c =
    when (same c (Symbol sym.PLUS)) adding.Plus (
    when (same c (Symbol sym.MINUS)) adding.Minus (
    when (same c (Symbol sym.SYMMETRIC_DIFFERENCE)) adding.SymmetricDifference (
    when (same c (Word word.OR)) adding.Or (
    when (same c (Word word.OR_ELSE)) adding.OrElse None))))

abbrev pub multiplying_at : Class → Option MultiplyingOperator
multiplying_at c =
    when (same c (Symbol sym.STAR)) multiplying.Times (
    when (same c (Word word.DIV)) multiplying.Div (
    when (same c (Word word.MOD)) multiplying.Mod (
    when (same c (Word word.AND)) multiplying.And (
    when (same c (Word word.AND_THEN)) multiplying.AndThen None))))

abbrev pub direction_at : Class → Option Direction
direction_at c = when (same c (Word word.TO)) direction.To (when (same c (Word word.DOWNTO)) direction.Downto None)

-- what a token means under a sort, if it is of that sort
abbrev pub meaning : (s : Sort) → TokenKind → Option (carried s)
meaning (exactly c) k = when (same (class_of_kind k) c) (tt {0}) None
meaning names k = carried_name k
meaning numbers k = carried_number k
meaning texts k = carried_text k
meaning relational_operators k = relational_at (class_of_kind k)
meaning signs k = sign_at (class_of_kind k)
meaning adding_operators k = adding_at (class_of_kind k)
meaning multiplying_operators k = multiplying_at (class_of_kind k)
meaning directions k = direction_at (class_of_kind k)
