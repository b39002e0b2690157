-- How many levels a derivation takes.
use Rattle.std.proofs.Common.{ℕ, suc, ◌≤◌, max, List, arith, inl, inr}
use Rattle.ep_token.specs.declared.token.Token.{Token}
use Rattle.ep_tree.specs.Nesting.{component_value_nesting, element_nesting, expression_nesting, factor_nesting, fields_nesting, plain_nesting, routine_nesting, statement_nesting, values_nesting}
use Rattle.ep_grammar.specs.Descriptions.{Nonterminal, Node, expressions, factors, component_values, elements, bracketed_values, plains, field_lists, statements, routines, Step, More, Last, Syntax, give, token, line, inside, apply, either, switch, row, deeper, shaped}
use Rattle.ep_grammar.specs.Derived.{Family, Steps, no_step, last_step, one_step, derives}

-- what may stand one level deeper
abbrev pub Families : Type 1
Families = (n : Nonterminal) → Family (Node n)

-- the levels that such a node takes, with its own
abbrev pub height : (n : Nonterminal) → Node n → ℕ
height expressions x = suc (expression_nesting x)
height factors x = suc (factor_nesting x)
height component_values x = suc (component_value_nesting x)
height elements x = suc (element_nesting x)
height bracketed_values x = values_nesting x
height plains x = plain_nesting x
height field_lists x = fields_nesting x
height statements x = statement_nesting x
height routines x = routine_nesting x

-- the levels that the steps of a row take
unfoldable pub steps_depth : {A B : Type 0} {D : List Token → List Token → Step A B → Type 0} {r : B} → ((a b : List Token) (x : Step A B) → D a b x → ℕ) → {a b : List Token} {xs : List A} {q : B} → Steps D r a b xs q → ℕ
steps_depth f no_step = 0
steps_depth f (last_step {a} {b} {q} d) = f a b (Last q) d
steps_depth f (one_step {a} {m} {b} {x} {xs} {q} d ds) = max (f a m (More x) d) (steps_depth f ds)

-- the levels that a derivation takes: the greatest height of what stands one level deeper in it
unfoldable pub depth : (e : Families) {X : Type 0} (s : Syntax X) (a b : List Token) (x : X) → derives e s a b x → ℕ
depth e (give y) a b x d = 0
depth e (token s) a b x d = 0
depth e line a b x d = 0
depth e (inside n) a b x d = height n x
depth e (apply s t) a b x d = max (depth e s a d.0 d.1 d.3) (depth e t d.0 b d.2 d.4)
depth e (either cs s t) a b x d = elim d [ inl w ↦ depth e s a b x w | inr w ↦ depth e t a b x w ]
depth e (switch cs s t) a b x d = elim d [ inl w ↦ depth e s a b x w.1 | inr w ↦ depth e t a b x w.1 ]
depth e (row s cs t r) a b x d = max (depth e s a d.0 d.1 d.4) (steps_depth (λ a b x w. depth e t a b x w) d.5)
depth e (deeper cs s) a b x d = depth e s a b x d
depth e (shaped s f cs t g u o) a b x d = max (elim d.3 [ inl w ↦ depth e t d.0 b w.1 w.3 | inr w ↦ depth e u d.0 b w.1 w.3 ]) (depth e s a d.0 d.1 d.2)

-- ---- what stands one level deeper is replaced

-- the same for the steps of a row
steps_replaced : (k : ℕ) {A B : Type 0} {D D' : List Token → List Token → Step A B → Type 0} {r : B} (f : (a b : List Token) (x : Step A B) → D a b x → ℕ) → ((a b : List Token) (x : Step A B) (d : D a b x) → f a b x d ≤ k → D' a b x) → {a b : List Token} {xs : List A} {q : B} (w : Steps D r a b xs q) → steps_depth f w ≤ k → Steps D' r a b xs q
unfolding steps_depth
steps_replaced k f g no_step h = no_step
steps_replaced k f g (last_step {a} {b} {q} d) h = last_step (g a b (Last q) d h)
steps_replaced k f g (one_step {a} {m} {b} {x} {xs} {q} d ds) h = one_step (g a m (More x) d (omega arith)) (steps_replaced k f g ds (omega arith))

-- a derivation that takes at most k levels needs only those of what stands one level deeper that take at most k
pub replaced : (e e' : Families) (k : ℕ) → ((n : Nonterminal) (a b : List Token) (x : Node n) → e n a b x → height n x ≤ k → e' n a b x) → {X : Type 0} (s : Syntax X) (a b : List Token) (x : X) (d : derives e s a b x) → depth e s a b x d ≤ k → derives e' s a b x
unfolding depth
replaced e e' k i (give y) a b x d h = d
replaced e e' k i (token s) a b x d h = d
replaced e e' k i line a b x d h = d
replaced e e' k i (inside n) a b x d h = i n a b x d h
replaced e e' k i (apply s t) a b x d h = (d.0, d.1, d.2, replaced e e' k i s a d.0 d.1 d.3 (omega arith), replaced e e' k i t d.0 b d.2 d.4 (omega arith), d.5)
replaced e e' k i (either cs s t) a b x (inl w) h = inl (replaced e e' k i s a b x w h)
replaced e e' k i (either cs s t) a b x (inr w) h = inr (replaced e e' k i t a b x w h)
replaced e e' k i (switch cs s t) a b x (inl w) h = inl (w.0, replaced e e' k i s a b x w.1 h)
replaced e e' k i (switch cs s t) a b x (inr w) h = inr (w.0, replaced e e' k i t a b x w.1 h)
replaced e e' k i (row s cs t r) a b x d h = (d.0, d.1, d.2, d.3, replaced e e' k i s a d.0 d.1 d.4 (omega arith), steps_replaced k (λ a b x w. depth e t a b x w) (λ a b x w g. replaced e e' k i t a b x w g) d.5 (omega arith), d.6)
replaced e e' k i (deeper cs s) a b x d h = replaced e e' k i s a b x d h
replaced e e' k i (shaped s f cs t g u o) a b x (m, y, d, inl w) h = (m, y, replaced e e' k i s a m y d (omega arith), inl (w.0, w.1, w.2, replaced e e' k i t m b w.1 w.3 (omega arith), w.4))
replaced e e' k i (shaped s f cs t g u o) a b x (m, y, d, inr w) h = (m, y, replaced e e' k i s a m y d (omega arith), inr (w.0, w.1, w.2, replaced e e' k i u m b w.1 w.3 (omega arith), w.4))

-- the same for the steps of a row
steps_bounded : (k : ℕ) {A B : Type 0} {D : List Token → List Token → Step A B → Type 0} {r : B} (f : (a b : List Token) (x : Step A B) → D a b x → ℕ) → ((a b : List Token) (x : Step A B) (d : D a b x) → f a b x d ≤ k) → {a b : List Token} {xs : List A} {q : B} (w : Steps D r a b xs q) → steps_depth f w ≤ k
unfolding steps_depth
steps_bounded k f g no_step = omega arith
steps_bounded k f g (last_step {a} {b} {q} d) = g a b (Last q) d
steps_bounded k f g (one_step {a} {m} {b} {x} {xs} {q} d ds) = let u = g a m (More x) d in let v = steps_bounded k f g ds in omega (arith, u, v)

-- a derivation takes at most k levels where what stands one level deeper does
pub bounded : (e : Families) (k : ℕ) → ((n : Nonterminal) (a b : List Token) (x : Node n) → e n a b x → height n x ≤ k) → {X : Type 0} (s : Syntax X) (a b : List Token) (x : X) (d : derives e s a b x) → depth e s a b x d ≤ k
unfolding depth
bounded e k i (give y) a b x d = omega arith
bounded e k i (token s) a b x d = omega arith
bounded e k i line a b x d = omega arith
bounded e k i (inside n) a b x d = i n a b x d
bounded e k i (apply s t) a b x d = omega (arith, bounded e k i s a d.0 d.1 d.3, bounded e k i t d.0 b d.2 d.4)
bounded e k i (either cs s t) a b x (inl w) = bounded e k i s a b x w
bounded e k i (either cs s t) a b x (inr w) = bounded e k i t a b x w
bounded e k i (switch cs s t) a b x (inl w) = bounded e k i s a b x w.1
bounded e k i (switch cs s t) a b x (inr w) = bounded e k i t a b x w.1
bounded e k i (row s cs t r) a b x d = omega (arith, bounded e k i s a d.0 d.1 d.4, steps_bounded k (λ a b x w. depth e t a b x w) (λ a b x w. bounded e k i t a b x w) d.5)
bounded e k i (deeper cs s) a b x d = bounded e k i s a b x d
bounded e k i (shaped s f cs t g u o) a b x (m, y, d, inl w) = omega (arith, bounded e k i s a m y d, bounded e k i t m b w.1 w.3)
bounded e k i (shaped s f cs t g u o) a b x (m, y, d, inr w) = omega (arith, bounded e k i s a m y d, bounded e k i u m b w.1 w.3)
