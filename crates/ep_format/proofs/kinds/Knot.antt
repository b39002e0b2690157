-- The productions at each number of levels, and the law: what tokens derive, other tokens of the same kinds derive too.
use Rattle.std.proofs.Common.{◌≡◌, ℕ, zero, suc, List, [], ◌∷◌, map, refl, subst}
use Rattle.ep_token.specs.declared.token.Token.{Token}
use Rattle.ep_grammar.specs.Descriptions.{Nonterminal, expressions, factors, component_values, elements, bracketed_values, plains, field_lists, statements, routines}
use Rattle.ep_grammar.specs.Derived.{derives}
use Rattle.ep_grammar.specs.Rules.{rule, derived_at}
use Rattle.ep_grammar.specs.Units.{components}
use Rattle.ep_pieces.specs.Pieces.{token_kind}
use Rattle.ep_format.specs.Kinds.{KindsDecide}
use Rattle.ep_format.proofs.kinds.Forms.{Alike, Settled}
use Rattle.ep_format.proofs.kinds.Simply.{Simply, simply}
use Rattle.ep_format.proofs.kinds.Expressions.{expression_decided, factor_as}
use Rattle.ep_format.proofs.kinds.Values.{component_value_decided, element_decided, values_decided}
use Rattle.ep_format.proofs.kinds.Types.{plain_decided, fields_decided}
use Rattle.ep_format.proofs.kinds.Statements.{statement_decided}
use Rattle.ep_format.proofs.kinds.Declarations.{routine_decided}
use Rattle.ep_format.proofs.kinds.Units.{components_decided}

rule_decided : (n : Nonterminal) → Simply (rule n)
rule_decided expressions = expression_decided
rule_decided factors = simply factor_as
rule_decided component_values = component_value_decided
rule_decided elements = element_decided
rule_decided bracketed_values = values_decided
rule_decided plains = plain_decided
rule_decided field_lists = fields_decided
rule_decided statements = statement_decided
rule_decided routines = routine_decided

settled_at : (k : ℕ) → Settled (derived_at k)
unfolding derived_at
settled_at zero n a c b x same d = absurd d
settled_at (suc k) n a c b x same d =
    let v = (rule_decided n).holds (derived_at k) (settled_at k) a c b x same d in
    record { rest = v.rest; alike = v.alike; means = v.means; derived = v.derived; related = tt }

same_kinds : (ts us : List Token) → map token_kind ts ≡ map token_kind us → Alike ts us
same_kinds [] [] h = tt
same_kinds (t ∷ ts) (u ∷ us) h =
    let first : t.kind ≡ u.kind = cc in
    let rest : map token_kind ts ≡ map token_kind us = cc in
    (first, same_kinds ts us rest)
same_kinds [] (u ∷ us) h = absurd cc
same_kinds (t ∷ ts) [] h = absurd cc

none_left : (rest : List Token) → Alike [] rest → rest ≡ []
none_left [] h = refl
none_left (t ∷ ts) h = absurd h

pub kinds-decide : KindsDecide
kinds-decide k ts us cs same g =
    let v = components_decided.holds (derived_at k) (settled_at k) ts us [] cs (same_kinds ts us same) g in
    (v.means, subst (λ rest. derives (derived_at k) components us rest v.means) (none_left v.rest v.alike) v.derived)
