-- What stands one level deeper takes as many levels as its height says, and the law of whole texts.
use Rattle.std.proofs.Common.{◌≡◌, ℕ, zero, suc, ◌≤◌, ◌<◌, List, [], ◌∷◌, ap, arith}
use Rattle.std.specs.Prelude.{◌↔◌, Bool, IsTrue, min, slice_index_or}
use Rattle.std.specs.List.{All}
use Rattle.std.proofs.lemmas.List.Elements.{All-nil, All-cons, All-head, All-tail}
use Rattle.ep_token.specs.declared.token.Token.{Token}
use Rattle.ep_tree.specs.declared.component.Component.{Component}
use Rattle.ep_tree.specs.Nesting.{component_nesting}
use Rattle.ep_grammar.specs.Descriptions.{Nonterminal, Node, expressions, factors, component_values, elements, bracketed_values, plains, field_lists, statements, routines}
use Rattle.ep_grammar.specs.Units.{components}
use Rattle.ep_grammar.specs.Rules.{rule, derived_at, Grammar}
use Rattle.ep_levels.specs.Levels.{LevelsAreNesting}
use Rattle.ep_levels.proofs.Depth.{height, replaced, bounded}
use Rattle.ep_levels.proofs.Measures.{Measures, so, most}
use Rattle.ep_levels.proofs.Expressions.{expression_takes, factor_takes}
use Rattle.ep_levels.proofs.Values.{component_value_takes, element_takes, values_take}
use Rattle.ep_levels.proofs.Types.{plain_takes, fields_take}
use Rattle.ep_levels.proofs.Statements.{statement_takes}
use Rattle.ep_levels.proofs.Declarations.{routine_takes}
use Rattle.ep_levels.proofs.Units.{components_take}

-- a node takes one level more than the derivation by its production
rule_takes : (n : Nonterminal) → Measures (rule n) (λ x k. suc k ≡ height n x)
rule_takes expressions = so expression_takes (λ x k h. ap suc h)
rule_takes factors = so factor_takes (λ x k h. ap suc h)
rule_takes component_values = so component_value_takes (λ x k h. ap suc h)
rule_takes elements = so element_takes (λ x k h. ap suc h)
rule_takes bracketed_values = values_take
rule_takes plains = plain_takes
rule_takes field_lists = fields_take
rule_takes statements = statement_takes
rule_takes routines = routine_takes

-- with k levels only nodes that take at most k are derived
high_enough : (k : ℕ) (n : Nonterminal) (a b : List Token) (x : Node n) → derived_at k n a b x → height n x ≤ k
unfolding derived_at
high_enough zero n a b x d = absurd d
high_enough (suc k) n a b x d = omega (arith, (rule_takes n).holds (derived_at k) a b x d, bounded (derived_at k) k (high_enough k) (rule n) a b x d)

-- a node that takes at most k levels is derived with k, where it is with some number of them
lowered : (m k : ℕ) (n : Nonterminal) (a b : List Token) (x : Node n) → derived_at m n a b x → height n x ≤ k → derived_at k n a b x
unfolding derived_at
lowered zero k n a b x d h = absurd d
lowered (suc m) zero n a b x d h = absurd (omega (arith, (rule_takes n).holds (derived_at m) a b x d))
lowered (suc m) (suc k) n a b x d h = replaced (derived_at m) (derived_at k) k (lowered m k) (rule n) a b x d (omega (arith, (rule_takes n).holds (derived_at m) a b x d))

-- ---- whole texts

-- with k levels no component nests deeper than k
low_grammar : (k : ℕ) (ts : List Token) (cs : List Component) → Grammar k ts cs → most component_nesting cs ≤ k
low_grammar k ts cs d = omega (arith, components_take.holds (derived_at k) ts [] cs d, bounded (derived_at k) k (high_enough k) components ts [] cs d)

-- components that nest at most k deep are derived with k, where they are with some number of levels
lowered_grammar : (m k : ℕ) (ts : List Token) (cs : List Component) → Grammar m ts cs → most component_nesting cs ≤ k → Grammar k ts cs
lowered_grammar m k ts cs d h = replaced (derived_at m) (derived_at k) k (lowered m k) components ts [] cs d (omega (arith, components_take.holds (derived_at m) ts [] cs d))

-- the greatest number bounds each
all_low : (k : ℕ) (cs : List Component) → most component_nesting cs ≤ k → All (λ c. component_nesting c ≤ k) cs
all_low k [] h = All-nil (λ c. component_nesting c ≤ k)
all_low k (c ∷ cs) h = All-cons (λ c. component_nesting c ≤ k) c cs (omega arith) (all_low k cs (omega arith))

-- what bounds each bounds the greatest number
most_low : (k : ℕ) (cs : List Component) → All (λ c. component_nesting c ≤ k) cs → most component_nesting cs ≤ k
most_low k [] h = omega arith
most_low k (c ∷ cs) h = omega (arith, All-head (λ c. component_nesting c ≤ k) c cs h, most_low k cs (All-tail (λ c. component_nesting c ≤ k) c cs h))

-- the law
pub levels_are_nesting : LevelsAreNesting
levels_are_nesting k ts cs = (λ d. ((k, d), all_low k cs (low_grammar k ts cs d)), λ w. lowered_grammar w.0.0 k ts cs w.0.1 (most_low k cs w.1))

-- what is counted up to a number beyond k is at most k
below : (n greatest k : ℕ) → k < greatest → min n greatest ≤ k → n ≤ k
below n greatest k less h = omega arith

-- what is at most k is so where it is counted up to a number
above : (n greatest k : ℕ) → n ≤ k → min n greatest ≤ k
above n greatest k h = omega arith

-- the same for components that have a text, whose nesting is counted up to a number beyond the levels
pub levels_decide : (k m greatest : ℕ) (ts : List Token) (cs : List Component) (answer : Bool) → k < greatest → Grammar m ts cs → (IsTrue answer ↔ All (λ c. min (component_nesting c) greatest ≤ k) cs) → (IsTrue answer ↔ Grammar k ts cs)
levels_decide k m greatest ts cs answer less d h = (
  λ y. (levels_are_nesting k ts cs).1 ((m, d), λ i c l. below (component_nesting (slice_index_or cs i c)) greatest k less (h.0 y i c l)),
  λ g. h.1 (λ i c l. above (component_nesting (slice_index_or cs i c)) greatest k (((levels_are_nesting k ts cs).0 g).1 i c l)),
)
