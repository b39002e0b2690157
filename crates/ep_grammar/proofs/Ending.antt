-- What can be told of a description, without reading, of how a text that has begun is brought to its end: the tokens that can be added, the levels that they need, and the classes that must not follow.
use Rattle.std.proofs.Common.{◌≡◌, ℕ, zero, suc, Bool, true, false, List, [], ◌∷◌, ◌++◌, refl}
use Rattle.std.specs.Prelude.{pos, codes}
use Rattle.ep_token.specs.declared.word.TheConstants as word
use Rattle.ep_token.specs.declared.token.Token.{Token}
use Rattle.ep_token.specs.declared.token.TokenKind.{TokenKind}
use Rattle.ep_token.specs.declared.token.TokenKind.TheVariants as kind
use Rattle.ep_grammar.specs.Classes.{Class, Word, Symbol, Name, Number, Text, Interface, Implementation, Forward, End, same, has, class_of_kind, class_of_name}
use Rattle.ep_grammar.specs.Descriptions.{Nonterminal, field_lists, statements, Syntax, give, token, line, inside, apply, either, switch, row, deeper, shaped, always_first, always_second}
use Rattle.ep_grammar.proofs.Static.{both, any, opposite, only_if, nullable, nullable_inside, first, first_inside, after_inside}

-- ---- a token of a class

-- no token is of the class of the end
abbrev pub kind_for : Class → TokenKind
kind_for (Word n) = kind.Word n
kind_for (Symbol n) = kind.Sym n
kind_for Name = kind.Id []
kind_for Number = kind.Number (pos 0)
kind_for Text = kind.Str []
kind_for Interface = kind.Id (codes "interface")
kind_for Implementation = kind.Id (codes "implementation")
kind_for Forward = kind.Id (codes "forward")
kind_for End = kind.Str []

abbrev pub token_for : Class → Token
token_for c = record { kind = kind_for c; line = 0; start = 0; end = 0 }

pub kind_class : (c : Class) → same c End ≡ false → class_of_kind (kind_for c) ≡ c
unfolding class_of_name
kind_class (Word n) h = refl
kind_class (Symbol n) h = refl
kind_class Name h = refl
kind_class Number h = refl
kind_class Text h = refl
kind_class Interface h = refl
kind_class Implementation h = refl
kind_class Forward h = refl
kind_class End h = absurd (cc)

-- the first of some classes
abbrev pub lead : List Class → Class
lead [] = End
lead (c ∷ cs) = c

-- ---- the classes that must not follow what was added, since a parser would go on with them

abbrev pub beyond_inside : Nonterminal → List Class
beyond_inside statements = Word word.ELSE ∷ after_inside statements
beyond_inside n = after_inside n

abbrev pub beyond : {X : Type 0} → Syntax X → List Class
beyond (give x) = []
beyond (token s) = []
beyond line = []
beyond (inside n) = beyond_inside n
beyond (apply s t) = beyond t ++ only_if (nullable t) (beyond s)
beyond (either cs s t) = beyond s ++ (beyond t ++ only_if (nullable t) cs)
beyond (switch cs s t) = beyond s ++ (beyond t ++ only_if (nullable t) cs)
beyond (row s cs t r) = beyond s ++ (beyond t ++ cs)
beyond (deeper cs s) = beyond s
beyond (shaped s f cs t g u o) = beyond t ++ (beyond u ++ only_if (nullable u) (beyond s ++ cs))

-- ---- whether a token can be followed by more, up to the end

-- how many levels are left: none, one, or more
pub data Room : Type 0 where
  no_room little_room much_room : Room

abbrev pub room_at : ℕ → Room
room_at zero = no_room
room_at (suc zero) = little_room
room_at (suc (suc k)) = much_room

abbrev pub some_room : Room → Bool
some_room no_room = false
some_room little_room = true
some_room much_room = true

-- with one level left its first class is enough, where it cannot be nothing
abbrev pub opens_inside : Room → Nonterminal → Class → Bool
opens_inside no_room n c = false
opens_inside little_room n c = both (opposite (nullable_inside n)) (same c (lead (first_inside n)))
opens_inside much_room n c = true

-- goes on with one of two, and computes only that one
abbrev pub pick : Bool → (Unit {0} → Bool) → (Unit {0} → Bool) → Bool
pick true f g = f (tt {0})
pick false f g = g (tt {0})

abbrev pub opens : {X : Type 0} → Syntax X → Room → Class → Bool
opens (give x) l c = true
opens (token s) l c = true
opens line l c = true
opens (inside n) l c = opens_inside l n c
opens (apply s t) l c = pick (has (first s) c) (λ y. both (opens s l c) (pick (nullable t) (λ y. true) (λ y. opens t l (lead (first t))))) (λ y. opens t l c)
opens (either cs s t) l c = pick (has cs c) (λ y. opens s l c) (λ y. opens t l c)
opens (switch cs s t) l c = pick (has cs c) (λ y. opens s l c) (λ y. opens t l c)
opens (row s cs t r) l c = pick (has (first s) c) (λ y. opens s l c) (λ y. opens t l c)
opens (deeper cs s) l c = both (some_room l) (opens s l c)
opens (shaped s f cs t g u (always_first h)) l c = both (opens s l c) (pick (nullable t) (λ y. true) (λ y. opens t l (lead (first t))))
opens (shaped s f cs t g u (always_second h)) l c = both (opens s l c) (pick (nullable u) (λ y. true) (λ y. opens u l (lead (first u))))

-- where it can be nothing, or its first class begins it
abbrev pub ends : {X : Type 0} → Syntax X → Room → Bool
ends t l = pick (nullable t) (λ y. true) (λ y. opens t l (lead (first t)))

-- whether each of some classes begins it, with this many levels
abbrev pub all_open : {X : Type 0} → Syntax X → Room → List Class → Bool
all_open s l [] = true
all_open s l (c ∷ cs) = both (opens s l c) (all_open s l cs)

-- ---- whether each part can be brought to its end

-- where it cannot be nothing, its first class is one of its own, and none of these
abbrev pub clear : {X : Type 0} → List Class → Syntax X → Bool
clear cs t = any (nullable t) (both (has (first t) (lead (first t))) (opposite (has cs (lead (first t)))))

abbrev pub closes : {X : Type 0} → Syntax X → Bool
closes (give x) = true
closes (token s) = true
closes line = true
closes (inside n) = true
closes (apply s t) = both (closes s) (both (closes t) (both (clear (beyond s) t) (ends t much_room)))
closes (either cs s t) = both (closes s) (closes t)
closes (switch cs s t) = both (closes s) (closes t)
closes (row s cs t r) = both (closes s) (closes t)
closes (deeper cs s) = both (closes s) (all_open s much_room cs)
closes (shaped s f cs t g u (always_first h)) = both (closes s) (both (closes t) (both (closes u) (both (clear (beyond s) t) (ends t much_room))))
closes (shaped s f cs t g u (always_second h)) = both (closes s) (both (closes t) (both (closes u) (both (clear (beyond s ++ cs) u) (ends u much_room))))

-- ---- whether what was taken can be brought to its end with no level more

-- the meaning holds no line of a token that follows
abbrev pub steady_inside : Nonterminal → Bool
steady_inside field_lists = false
steady_inside statements = false
steady_inside n = true

abbrev pub steady : {X : Type 0} → Syntax X → Bool
steady (give x) = true
steady (token s) = true
steady line = false
steady (inside n) = steady_inside n
steady (apply s t) = both (steady t) (any (opposite (nullable t)) (steady s))
steady (either cs s t) = both (steady s) (steady t)
steady (switch cs s t) = both (steady s) (steady t)
steady (row s cs t r) = both (steady s) (steady t)
steady (deeper cs s) = steady s
steady (shaped s f cs t g u o) = both (steady t) (both (steady u) (any (opposite (nullable u)) (steady s)))

abbrev pub none : List Class → Bool
none [] = true
none (c ∷ cs) = false

-- behind each part that has tokens, the next one can be added; and where the second of two shapes may be nothing, the shape does not depend on what follows
abbrev pub lasts : {X : Type 0} → Syntax X → Room → Bool
lasts (give x) l = true
lasts (token s) l = true
lasts line l = true
lasts (inside n) l = true
lasts (apply s t) l = both (lasts s l) (both (lasts t l) (any (none (first s)) (ends t l)))
lasts (either cs s t) l = both (lasts s l) (lasts t l)
lasts (switch cs s t) l = both (lasts s l) (lasts t l)
lasts (row s cs t r) l = both (lasts s l) (lasts t l)
lasts (deeper cs s) l = any (opposite (some_room l)) (lasts s l)
lasts (shaped s f cs t g u (always_first h)) l = both (lasts s l) (both (lasts t l) (both (lasts u l) (both (ends t l) (any (opposite (nullable u)) (steady s)))))
lasts (shaped s f cs t g u (always_second h)) l = both (lasts s l) (both (lasts t l) (both (lasts u l) (ends u l)))
