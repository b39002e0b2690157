-- What a description derives: a relation between the tokens from here, the tokens from there, and the meaning.
use Rattle.std.specs.Prelude.{◌≡◌, true, false, List, [], ◌∷◌, ◌++◌, Some, ◌⊎◌}
use Rattle.ep_token.specs.declared.token.Token.{Token}
use Rattle.ep_grammar.specs.Classes.{has, class_of, line_of, meaning}
use Rattle.ep_grammar.specs.Descriptions.{Nonterminal, Node, Step, More, Last, Syntax, give, token, line, inside}
use Rattle.ep_grammar.specs.Descriptions.{apply, either, switch, row, deeper, shaped}

abbrev pub Family : Type 0 → Type 1
Family X = List Token → List Token → X → Type 0

-- the steps of a row, and what ends it
pub data Steps {A B : Type 0} (D : List Token → List Token → Step A B → Type 0) (r : B) :
    List Token → List Token → List A → B → Type 0 where
  no_step : {a : List Token} → Steps D r a a [] r
  last_step : {a b : List Token} {q : B} → D a b (Last q) → Steps D r a b [] q
  one_step :
      {a m b : List Token} {x : A} {xs : List A} {q : B} → D a m (More x) → Steps D r m b xs q →
      Steps D r a b (x ∷ xs) q

-- by what may stand one level deeper
abbrev pub derives :
    ((n : Nonterminal) → Family (Node n)) → {X : Type 0} → Syntax X → List Token → List Token → X → Type 0
derives e (give y) a b x = (a ≡ b) × (x ≡ y)
derives e (token s) a b x = (t : Token) × (a ≡ t ∷ b) × (meaning s t.kind ≡ Some x)
derives e line a b x = (a ≡ b) × (x ≡ line_of a)
derives e (inside n) a b x = e n a b x
derives e (apply s t) a b x = (m : List Token) × (f : _) × (y : _) × derives e s a m f × derives e t m b y × (x ≡ f y)
derives e (either cs s t) a b x = derives e s a b x ⊎ derives e t a b x
derives e (switch cs s t) a b x =
    ((has cs (class_of a) ≡ true) × derives e s a b x) ⊎ ((has cs (class_of a) ≡ false) × derives e t a b x)
derives e (row s cs t r) a b x =
    (m : List Token) × (xs : _) × (ys : _) × (q : _) ×
    derives e s a m xs × Steps (derives e t) r m b ys q × (x ≡ (xs ++ ys, q))
derives e (deeper cs s) a b x = derives e s a b x
derives e (shaped s f cs t g u o) a b x =
    (m : List Token) × (y : _) × derives e s a m y ×
    (((c : _) × (h : _) × (f y ≡ Some c) × derives e t m b h × (x ≡ h c)) ⊎
    ((c : _) × (h : _) × (g y ≡ Some c) × derives e u m b h × (x ≡ h c)))
