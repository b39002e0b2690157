-- A token is of a sort exactly where its class is one of the sort's.
use Rattle.std.proofs.Common.{◌≡◌, ℕ, Bool, true, false, List, [], ◌∷◌, Option, Some, None, refl, sym}
use Rattle.std.specs.Prelude.{if◌then◌else◌, codes}
use Rattle.std.specs.Str.{bytes_eq}
use Rattle.ep_token.specs.declared.symbol.TheConstants as sym
use Rattle.ep_token.specs.declared.word.TheConstants as word
use Rattle.ep_tree.specs.declared.operator.RelationalOperator.TheVariants as relational
use Rattle.ep_tree.specs.declared.operator.Sign.TheVariants as sign
use Rattle.ep_tree.specs.declared.operator.AddingOperator.TheVariants as adding
use Rattle.ep_tree.specs.declared.operator.MultiplyingOperator.TheVariants as multiplying
use Rattle.ep_tree.specs.declared.operator.Direction.TheVariants as direction
use Rattle.ep_token.specs.declared.token.TokenKind.{TokenKind}
use Rattle.ep_token.specs.declared.token.TokenKind.TheVariants as kind
use Rattle.ep_grammar.specs.Classes.{Class, Word, Symbol, Name, Number, Text, Interface, Implementation, Forward, Sort, exactly, names, numbers, texts, relational_operators, signs, adding_operators, multiplying_operators, directions, classes, same, has, class_of_kind, class_of_name, when, meaning}

abbrev pub there : {A : Type 0} → Option A → Bool
there (Some x) = true
there None = false

-- what a class means by a table
abbrev look : {A : Type 0} → List (Class × A) → Class → Option A
look [] c = None
look (p ∷ ps) c = when (same c p.0) p.1 (look ps c)

abbrev heads : {A : Type 0} → List (Class × A) → List Class
heads [] = []
heads (p ∷ ps) = p.0 ∷ heads ps

when_there : {A : Type 0} (b : Bool) (x : A) (o : Option A) (v : Bool) → there o ≡ v → there (when b x o) ≡ (if b then true else v)
when_there true x o v h = refl
when_there false x o v h = h

look_there : {A : Type 0} (ps : List (Class × A)) (c : Class) → there (look ps c) ≡ has (heads ps) c
look_there [] c = refl
look_there (p ∷ ps) c = when_there (same c p.0) p.1 (look ps c) (has (heads ps) c) (look_there ps c)

abbrev name_kinds : List Class
name_kinds = Name ∷ Interface ∷ Implementation ∷ Forward ∷ []

name_in : (b c d : Bool) → has name_kinds (if b then Interface else (if c then Implementation else (if d then Forward else Name))) ≡ true
name_in true c d = refl
name_in false true d = refl
name_in false false true = refl
name_in false false false = refl

name_class : (n : List ℕ) → has name_kinds (class_of_name n) ≡ true
unfolding class_of_name
name_class n = name_in (bytes_eq n (codes "interface")) (bytes_eq n (codes "implementation")) (bytes_eq n (codes "forward"))

not_number : (b c d : Bool) → has (Number ∷ []) (if b then Interface else (if c then Implementation else (if d then Forward else Name))) ≡ false
not_number true c d = refl
not_number false true d = refl
not_number false false true = refl
not_number false false false = refl

not_text : (b c d : Bool) → has (Text ∷ []) (if b then Interface else (if c then Implementation else (if d then Forward else Name))) ≡ false
not_text true c d = refl
not_text false true d = refl
not_text false false true = refl
not_text false false false = refl

no_number : (n : List ℕ) → has (Number ∷ []) (class_of_name n) ≡ false
unfolding class_of_name
no_number n = not_number (bytes_eq n (codes "interface")) (bytes_eq n (codes "implementation")) (bytes_eq n (codes "forward"))

no_text : (n : List ℕ) → has (Text ∷ []) (class_of_name n) ≡ false
unfolding class_of_name
no_text n = not_text (bytes_eq n (codes "interface")) (bytes_eq n (codes "implementation")) (bytes_eq n (codes "forward"))

pub sort_class : (s : Sort) (k : TokenKind) → there (meaning s k) ≡ has (classes s) (class_of_kind k)
sort_class (exactly c) k = when_there (same (class_of_kind k) c) (tt {0}) None false refl
sort_class names (kind.Word w) = refl
sort_class names (kind.Sym w) = refl
sort_class names (kind.Id n) = sym (name_class n)
sort_class names (kind.Number n) = refl
sort_class names (kind.Str b) = refl
sort_class numbers (kind.Word w) = refl
sort_class numbers (kind.Sym w) = refl
sort_class numbers (kind.Id n) = sym (no_number n)
sort_class numbers (kind.Number n) = refl
sort_class numbers (kind.Str b) = refl
sort_class texts (kind.Word w) = refl
sort_class texts (kind.Sym w) = refl
sort_class texts (kind.Id n) = sym (no_text n)
sort_class texts (kind.Number n) = refl
sort_class texts (kind.Str b) = refl
sort_class relational_operators k = look_there ((Symbol sym.EQUAL, relational.Equal) ∷ (Symbol sym.NOT_EQUAL, relational.NotEqual) ∷ (Symbol sym.LESS, relational.Less) ∷ (Symbol sym.GREATER, relational.Greater) ∷ (Symbol sym.AT_MOST, relational.AtMost) ∷ (Symbol sym.AT_LEAST, relational.AtLeast) ∷ (Word word.IN, relational.In) ∷ []) (class_of_kind k)
sort_class signs k = look_there ((Symbol sym.PLUS, sign.Plus) ∷ (Symbol sym.MINUS, sign.Minus) ∷ []) (class_of_kind k)
sort_class adding_operators k = look_there ((Symbol sym.PLUS, adding.Plus) ∷ (Symbol sym.MINUS, adding.Minus) ∷ (Symbol sym.SYMMETRIC_DIFFERENCE, adding.SymmetricDifference) ∷ (Word word.OR, adding.Or) ∷ (Word word.OR_ELSE, adding.OrElse) ∷ []) (class_of_kind k)
sort_class multiplying_operators k = look_there ((Symbol sym.STAR, multiplying.Times) ∷ (Word word.DIV, multiplying.Div) ∷ (Word word.MOD, multiplying.Mod) ∷ (Word word.AND, multiplying.And) ∷ (Word word.AND_THEN, multiplying.AndThen) ∷ []) (class_of_kind k)
sort_class directions k = look_there ((Word word.TO, direction.To) ∷ (Word word.DOWNTO, direction.Downto) ∷ []) (class_of_kind k)
