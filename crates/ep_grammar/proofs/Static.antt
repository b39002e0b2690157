-- What can be told of a description without reading: the classes with which it can begin, those that must not follow
-- it, whether it needs a level, and whether a token decides each of its choices.
use Rattle.std.proofs.Common.{◌≡◌, Bool, true, false, List, [], ◌∷◌, ◌++◌, refl}
use Rattle.ep_token.specs.declared.symbol.TheConstants as sym
use Rattle.ep_token.specs.declared.word.TheConstants as word
use Rattle.ep_grammar.specs.Classes.{Class, Word, Symbol, End, has, classes, relational_operators, adding_operators, multiplying_operators}
use Rattle.ep_grammar.specs.Descriptions.{Nonterminal, expressions, factors, component_values, elements, bracketed_values, plains, field_lists, statements, routines, Syntax, give, token, line, inside, apply, either, switch, row, deeper, shaped}
use Rattle.ep_grammar.specs.Expressions.{of_name, of_factor, of_expression, of_element, of_values}
use Rattle.ep_grammar.specs.Types.{of_structure}
use Rattle.ep_grammar.specs.Statements.{of_loop}
use Rattle.ep_grammar.proofs.Classed.{disjoint, within_list}

abbrev pub both : Bool → Bool → Bool
both true b = b
both false b = false

abbrev pub any : Bool → Bool → Bool
any true b = true
any false b = b

abbrev pub only_if : Bool → List Class → List Class
only_if true cs = cs
only_if false cs = []

-- ---- whether it may be nothing

abbrev pub nullable_inside : Nonterminal → Bool
nullable_inside field_lists = true
nullable_inside statements = true
nullable_inside _ = false

abbrev pub nullable : {X : Type 0} → Syntax X → Bool
nullable (give x) = true
nullable (token s) = false
nullable line = true
nullable (inside n) = nullable_inside n
nullable (apply s t) = both (nullable s) (nullable t)
nullable (either cs s t) = nullable t
nullable (switch cs s t) = nullable t
nullable (row s cs t r) = nullable s
nullable (deeper cs s) = false
nullable (shaped s f cs t g u o) = false

-- ---- the classes with which it begins

abbrev pub first_inside : Nonterminal → List Class
first_inside expressions = of_expression
first_inside factors = of_factor
first_inside component_values = Symbol sym.LEFT_BRACKET ∷ of_expression
first_inside elements = of_element
first_inside bracketed_values = of_values
first_inside plains = Word word.BINDABLE ∷ Symbol sym.LEFT_PARENTHESIS ∷ Symbol sym.CARET ∷ Word word.RESTRICTED ∷ Word word.TYPE ∷ (of_structure ++ of_expression)
first_inside field_lists = of_name ++ Word word.CASE ∷ []
first_inside statements = of_name ++ Word word.BEGIN ∷ Word word.IF ∷ Word word.CASE ∷ of_loop
first_inside routines = Word word.PROCEDURE ∷ Word word.FUNCTION ∷ []

abbrev pub first : {X : Type 0} → Syntax X → List Class
first (give x) = []
first (token s) = classes s
first line = []
first (inside n) = first_inside n
first (apply s t) = first s ++ only_if (nullable s) (first t)
first (either cs s t) = first s ++ first t
first (switch cs s t) = cs ++ first t
first (row s cs t r) = first s ++ only_if (nullable s) (first t)
first (deeper cs s) = first s
first (shaped s f cs t g u o) = first s

-- ---- the classes that must not follow it, since a parser would go on with them

abbrev pub after_expression : List Class
after_expression = classes relational_operators ++ (classes adding_operators ++ (classes multiplying_operators ++ (Symbol sym.PERIOD ∷ Symbol sym.LEFT_BRACKET ∷ Symbol sym.CARET ∷ Symbol sym.LEFT_PARENTHESIS ∷ [])))

abbrev pub after_inside : Nonterminal → List Class
after_inside expressions = after_expression
after_inside factors = Symbol sym.PERIOD ∷ Symbol sym.LEFT_BRACKET ∷ Symbol sym.CARET ∷ Symbol sym.LEFT_PARENTHESIS ∷ []
after_inside component_values = after_expression
after_inside elements = after_expression
after_inside bracketed_values = Symbol sym.SEMICOLON ∷ Word word.OTHERWISE ∷ (of_element ++ after_expression)
after_inside plains = Symbol sym.RANGE ∷ Symbol sym.PERIOD ∷ after_expression
after_inside field_lists = Symbol sym.SEMICOLON ∷ Word word.OTHERWISE ∷ Word word.CASE ∷ Word word.VALUE ∷ Symbol sym.RANGE ∷ (of_expression ++ after_expression)
after_inside statements = Symbol sym.ASSIGN ∷ (first_inside statements ++ after_expression)
after_inside routines = []

abbrev pub after : {X : Type 0} → Syntax X → List Class
after (give x) = []
after (token s) = []
after line = []
after (inside n) = after_inside n
after (apply s t) = after t ++ only_if (nullable t) (after s)
after (either cs s t) = after s ++ (after t ++ only_if (nullable t) cs)
after (switch cs s t) = after s ++ after t
after (row s cs t r) = after s ++ (after t ++ cs)
after (deeper cs s) = after s
after (shaped s f cs t g u o) = after t ++ (after u ++ only_if (nullable u) (after s ++ cs))

-- ---- whether it needs a level

abbrev pub needs : {X : Type 0} → Syntax X → Bool
needs (give x) = false
needs (token s) = false
needs line = false
needs (inside n) = true
needs (apply s t) = any (needs s) (needs t)
needs (either cs s t) = both (needs s) (needs t)
needs (switch cs s t) = both (needs s) (needs t)
needs (row s cs t r) = needs s
needs (deeper cs s) = needs s
needs (shaped s f cs t g u o) = any (needs s) (both (needs t) (needs u))

-- ---- whether what may stand inside is read only behind a test of the levels

abbrev pub guarded : {X : Type 0} → Syntax X → Bool
guarded (give x) = true
guarded (token s) = true
guarded line = true
guarded (inside n) = false
guarded (apply s t) = both (guarded s) (guarded t)
guarded (either cs s t) = both (guarded s) (guarded t)
guarded (switch cs s t) = both (guarded s) (guarded t)
guarded (row s cs t r) = both (guarded s) (guarded t)
guarded (deeper cs s) = true
guarded (shaped s f cs t g u o) = both (guarded s) (both (guarded t) (guarded u))

-- ---- whether a token decides each choice

abbrev pub Alike : List Class → List Class → Type 0
Alike cs ds = (within_list cs ds ≡ true) × (within_list ds cs ≡ true)

abbrev pub Good : {X : Type 0} → Syntax X → Type 0
Good (give x) = Unit {0}
Good (token s) = has (classes s) End ≡ false
Good line = Unit {0}
Good (inside n) = Unit {0}
Good (apply s t) = Good s × Good t × (disjoint (after s) (first t) ≡ true)
Good (either cs s t) = Good s × Good t × (nullable s ≡ false) × Alike cs (first s) × (disjoint cs (first t) ≡ true)
Good (switch cs s t) = Good s × Good t × (nullable s ≡ false) × (within_list cs (first s) ≡ true)
Good (row s cs t r) = Good s × Good t × (nullable t ≡ false) × Alike cs (first t) × (disjoint (after s ++ after t) cs ≡ true)
Good (deeper cs s) = Good s × (nullable s ≡ false) × Alike cs (first s) × (needs s ≡ true)
Good (shaped s f cs t g u o) = Good s × Good t × Good u × (nullable s ≡ false) × (nullable t ≡ false) × Alike cs (first t) × (disjoint cs (first u) ≡ true) × (disjoint (after s) (cs ++ first u) ≡ true)

-- the same as a Boolean
abbrev pub opposite : Bool → Bool
opposite true = false
opposite false = true

abbrev pub alike : List Class → List Class → Bool
alike cs ds = both (within_list cs ds) (within_list ds cs)

abbrev pub check : {X : Type 0} → Syntax X → Bool
check (give x) = true
check (token s) = opposite (has (classes s) End)
check line = true
check (inside n) = true
check (apply s t) = both (check s) (both (check t) (disjoint (after s) (first t)))
check (either cs s t) = both (check s) (both (check t) (both (opposite (nullable s)) (both (alike cs (first s)) (disjoint cs (first t)))))
check (switch cs s t) = both (check s) (both (check t) (both (opposite (nullable s)) (within_list cs (first s))))
check (row s cs t r) = both (check s) (both (check t) (both (opposite (nullable t)) (both (alike cs (first t)) (disjoint (after s ++ after t) cs))))
check (deeper cs s) = both (check s) (both (opposite (nullable s)) (both (alike cs (first s)) (needs s)))
check (shaped s f cs t g u o) = both (check s) (both (check t) (both (check u) (both (opposite (nullable s)) (both (opposite (nullable t)) (both (alike cs (first t)) (both (disjoint cs (first u)) (disjoint (after s) (cs ++ first u))))))))

pub both_case : (a b : Bool) → both a b ≡ true → (a ≡ true) × (b ≡ true)
both_case true b h = (refl, h)
both_case false b h = absurd (cc)

pub flipped : (b : Bool) → opposite b ≡ true → b ≡ false
flipped true h = absurd (cc)
flipped false h = refl

alike_is : (cs ds : List Class) → alike cs ds ≡ true → Alike cs ds
alike_is cs ds h = both_case (within_list cs ds) (within_list ds cs) h

pub checked : {X : Type 0} (s : Syntax X) → check s ≡ true → Good s
checked (give x) h = tt
checked (token s) h = flipped (has (classes s) End) h
checked line h = tt
checked (inside n) h = tt
checked (apply s t) h =
    let u = both_case (check s) (both (check t) (disjoint (after s) (first t))) h in
    let v = both_case (check t) (disjoint (after s) (first t)) u.1 in
    (checked s u.0, checked t v.0, v.1)
checked (either cs s t) h =
    let u = both_case (check s) (both (check t) (both (opposite (nullable s)) (both (alike cs (first s)) (disjoint cs (first t))))) h in
    let v = both_case (check t) (both (opposite (nullable s)) (both (alike cs (first s)) (disjoint cs (first t)))) u.1 in
    let w = both_case (opposite (nullable s)) (both (alike cs (first s)) (disjoint cs (first t))) v.1 in
    let x = both_case (alike cs (first s)) (disjoint cs (first t)) w.1 in
    (checked s u.0, checked t v.0, flipped (nullable s) w.0, alike_is cs (first s) x.0, x.1)
checked (switch cs s t) h =
    let u = both_case (check s) (both (check t) (both (opposite (nullable s)) (within_list cs (first s)))) h in
    let v = both_case (check t) (both (opposite (nullable s)) (within_list cs (first s))) u.1 in
    let w = both_case (opposite (nullable s)) (within_list cs (first s)) v.1 in
    (checked s u.0, checked t v.0, flipped (nullable s) w.0, w.1)
checked (row s cs t r) h =
    let u = both_case (check s) (both (check t) (both (opposite (nullable t)) (both (alike cs (first t)) (disjoint (after s ++ after t) cs)))) h in
    let v = both_case (check t) (both (opposite (nullable t)) (both (alike cs (first t)) (disjoint (after s ++ after t) cs))) u.1 in
    let w = both_case (opposite (nullable t)) (both (alike cs (first t)) (disjoint (after s ++ after t) cs)) v.1 in
    let x = both_case (alike cs (first t)) (disjoint (after s ++ after t) cs) w.1 in
    (checked s u.0, checked t v.0, flipped (nullable t) w.0, alike_is cs (first t) x.0, x.1)
checked (deeper cs s) h =
    let u = both_case (check s) (both (opposite (nullable s)) (both (alike cs (first s)) (needs s))) h in
    let v = both_case (opposite (nullable s)) (both (alike cs (first s)) (needs s)) u.1 in
    let w = both_case (alike cs (first s)) (needs s) v.1 in
    (checked s u.0, flipped (nullable s) v.0, alike_is cs (first s) w.0, w.1)
checked (shaped s f cs t g u o) h =
    let a = both_case (check s) (both (check t) (both (check u) (both (opposite (nullable s)) (both (opposite (nullable t)) (both (alike cs (first t)) (both (disjoint cs (first u)) (disjoint (after s) (cs ++ first u)))))))) h in
    let b = both_case (check t) (both (check u) (both (opposite (nullable s)) (both (opposite (nullable t)) (both (alike cs (first t)) (both (disjoint cs (first u)) (disjoint (after s) (cs ++ first u))))))) a.1 in
    let c = both_case (check u) (both (opposite (nullable s)) (both (opposite (nullable t)) (both (alike cs (first t)) (both (disjoint cs (first u)) (disjoint (after s) (cs ++ first u)))))) b.1 in
    let d = both_case (opposite (nullable s)) (both (opposite (nullable t)) (both (alike cs (first t)) (both (disjoint cs (first u)) (disjoint (after s) (cs ++ first u))))) c.1 in
    let e = both_case (opposite (nullable t)) (both (alike cs (first t)) (both (disjoint cs (first u)) (disjoint (after s) (cs ++ first u)))) d.1 in
    let f' = both_case (alike cs (first t)) (both (disjoint cs (first u)) (disjoint (after s) (cs ++ first u))) e.1 in
    let k = both_case (disjoint cs (first u)) (disjoint (after s) (cs ++ first u)) f'.1 in
    (checked s a.0, checked t b.0, checked u c.0, flipped (nullable s) d.0, flipped (nullable t) e.0, alike_is cs (first t) f'.0, k.0, k.1)
