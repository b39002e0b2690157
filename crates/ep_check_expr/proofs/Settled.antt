-- Constants that need not be made anew.
use Rattle.std.proofs.Common.{◌≡◌, ◌∙◌, ℕ, ◌+◌, ◌<◌, ◌≤◌, List, [], ◌∷◌, Ok, Err, Some, drop, length, map, refl, sym, ap, subst}
use Rattle.std.proofs.lemmas.List.{drop_all, drop_more}
use Rattle.std.specs.Prelude.{get_or}
use Rattle.ep_typed.specs.Trees.{AtField, AtRanges, Structured, elements}
use Rattle.ep_typed.specs.Viewed.{element_of, expr_of}
use Rattle.ep_typed.specs.declared.tree.Actual.TheFolds.{fold-roll-Element, fold-roll-TypedExpr}
use Rattle.ep_typed.specs.declared.tree.CaseRange.{CaseRange}
use Rattle.ep_typed.specs.declared.tree.Element.{Element}
use Rattle.ep_typed.specs.declared.tree.Element.TheVariants as element
use Rattle.ep_typed.specs.declared.tree.TypedExpr.{TypedExpr}
use Rattle.ep_typed.specs.declared.tree.TypedExpr.TheVariants as expr
use Rattle.ep_scope.specs.Scopes.{Region, structure_in}
use Rattle.ep_check_expr.specs.StructuredConstants.{Constancy, array_in, constancy, element_constancy, elements_constancy, field_given, form_in, of_one, ranges_given, structured, with_first, AreSettled, IsSettled, IsSettledElement}
use Rattle.ep_check_expr.specs.declared.structured_constants.ConstantValue.{ConstantValue}

-- ---- forms

structured_is : (n : ℕ) (es : List Element) → expr_of (expr.Structured n es) ≡ Structured n (elements (map element_of es))
structured_is n es = ap expr_of (sym (expr.rolls-Structured n es)) ∙ simp fold-roll-TypedExpr

-- an array or a record is the constant of what its components are given
pub constant_settled : (n : ℕ) (es : List Element) → AreSettled es → (scopes : List Region) → constancy scopes (expr_of (expr.Structured n es)) ≡ structured n (Ok es)
constant_settled n es all scopes =
    ap (constancy scopes) (structured_is n es) ∙ ap (structured n) (all scopes (array_in (structure_in scopes n)))

pub settled_structured : (n : ℕ) (es : List Element) → AreSettled es → IsSettled (expr.Structured n es)
settled_structured n es all scopes = ap (of_one form_in) (constant_settled n es all scopes)

-- ---- what components are given

given_ranges : (c : Constancy ConstantValue) (rs : List CaseRange) (v : TypedExpr) → of_one form_in c ≡ Ok v → ranges_given (Ok rs) c ≡ Ok (Some (element.AtRanges rs v))
given_ranges (Ok x) rs v is = cc
given_ranges (Err why) rs v is = cc

given_field : (c : Constancy ConstantValue) (steps : List ℕ) (v : TypedExpr) → of_one form_in c ≡ Ok v → field_given steps c ≡ Ok (Some (element.AtField steps v))
given_field (Ok x) steps v is = cc
given_field (Err why) steps v is = cc

ranges_are : (rs : List CaseRange) (v : TypedExpr) → element_of (element.AtRanges rs v) ≡ AtRanges rs (expr_of v)
ranges_are rs v = ap element_of (sym (element.rolls-AtRanges rs v)) ∙ simp fold-roll-Element

field_is : (steps : List ℕ) (v : TypedExpr) → element_of (element.AtField steps v) ≡ AtField steps (expr_of v)
field_is steps v = ap element_of (sym (element.rolls-AtField steps v)) ∙ simp fold-roll-Element

pub settled_ranges : (rs : List CaseRange) (v : TypedExpr) → IsSettled v → IsSettledElement (element.AtRanges rs v)
settled_ranges rs v is scopes of =
    ap (element_constancy scopes of) (ranges_are rs v) ∙ given_ranges (constancy scopes (expr_of v)) rs v (is scopes)

pub settled_field : (steps : List ℕ) (v : TypedExpr) → IsSettled v → IsSettledElement (element.AtField steps v)
settled_field steps v is scopes of =
    ap (element_constancy scopes of) (field_is steps v) ∙ given_field (constancy scopes (expr_of v)) steps v (is scopes)

-- ---- in order

settled_first : (e : Element) (es : List Element) → IsSettledElement e → AreSettled es → AreSettled (e ∷ es)
settled_first e es one more scopes of =
    ap (λ f. with_first f (elements_constancy scopes of (elements (map element_of es)))) (one scopes of) ∙ ap (with_first (Ok (Some e))) (more scopes of)

pub settled_step : (all : List Element) (i : ℕ) (e : Element) → i < length all → e ≡ get_or all i e → IsSettledElement e → (AreSettled (drop i all) → AreSettled all) → AreSettled (drop (i + 1) all) → AreSettled all
settled_step all i e lt same one whole more =
    let rest = drop (i + 1) all in
    let next : drop i all ≡ e ∷ rest = drop_more all i e lt ∙ ap (λ y. y ∷ rest) (sym same) in
    whole (subst AreSettled (sym next) (settled_first e rest one more))

pub settled_all : (all : List Element) (i : ℕ) → length all ≤ i → (AreSettled (drop i all) → AreSettled all) → AreSettled all
settled_all all i done whole = whole (subst AreSettled (sym (drop_all i all done)) (λ scopes of. refl))
