-- What components of constants are given, one after another.
use Rattle.std.proofs.Common.{◌≡◌, ◌∙◌, ℕ, ◌+◌, ◌<◌, List, [], ◌∷◌, ◌++◌, Option, Ok, Err, drop, length, map, refl, sym, ap}
use Rattle.std.proofs.lemmas.List.{drop_more}
use Rattle.std.specs.Prelude.{false, get_or, option_to_list, ◌==◌}
use Rattle.ep_typed.specs.Trees.{AtIndexes, designators, elements}
use Rattle.ep_typed.specs.Viewed.{designator_of, element_of, expr_of}
use Rattle.ep_typed.specs.declared.tree.Actual.TheFolds.{fold-roll-Element}
use Rattle.ep_typed.specs.declared.tree.Element.{Element}
use Rattle.ep_typed.specs.declared.tree.Element.TheVariants as element
use Rattle.ep_typed.specs.declared.tree.MemberDesignator.{MemberDesignator}
use Rattle.ep_typed.specs.declared.tree.TypedExpr.{TypedExpr}
use Rattle.ep_scope.specs.Scopes.{Region}
use Rattle.ep_scope.specs.declared.structure.ArrayType.{ArrayType}
use Rattle.ep_check_expr.specs.StructuredConstants.{Constancy, element_constancy, elements_constancy, joined, with_first, with_last}
use Rattle.ep_check_expr.specs.declared.structured_constants.NoConstant.TheVariants as reason

pub joined_none : (more : Constancy (List Element)) → joined (Ok []) more ≡ more
joined_none (Ok xs) = refl
joined_none (Err why) = refl

append_first : (xs : List Element) (x : Option Element) (ys : List Element) → (xs ++ option_to_list x) ++ ys ≡ xs ++ (option_to_list x ++ ys)
append_first [] x ys = refl
append_first (z ∷ zs) x ys = ap (λ l. z ∷ l) (append_first zs x ys)

-- one that is the last of those before is the first of the others
joined_first : (before : Constancy (List Element)) (one : Constancy (Option Element)) (more : Constancy (List Element)) → joined (with_last before one) more ≡ joined before (with_first one more)
joined_first (Ok xs) (Ok x) (Ok ys) = ap (λ l. Ok l) (append_first xs x ys)
joined_first (Ok xs) (Ok x) (Err why) = refl
joined_first (Ok xs) (Err why) (Ok ys) = refl
joined_first (Ok xs) (Err why) (Err other) = refl
joined_first (Err why) (Ok x) (Ok ys) = refl
joined_first (Err why) (Ok x) (Err other) = refl
joined_first (Err why) (Err other) (Ok ys) = refl
joined_first (Err reason.Varies) (Err other) (Err last) = refl
joined_first (Err reason.Errs) (Err other) (Err last) = refl

module _ (scopes : List Region) (of : Option ArrayType) where
  abbrev given : List Element → Constancy (List Element)
  given xs = elements_constancy scopes of (elements (map element_of xs))

  pub joined_step : (all : List Element) (i : ℕ) (x : Element) (before after : Constancy (List Element)) (one : Constancy (Option Element)) (whole : Constancy (List Element)) → i < length all → x ≡ get_or all i x
      → after ≡ with_last before one → one ≡ element_constancy scopes of (element_of x) → joined before (given (drop i all)) ≡ whole → joined after (given (drop (i + 1) all)) ≡ whole
  joined_step all i x before after one whole lt same last is found =
      let rest = drop (i + 1) all in
      let next : drop i all ≡ x ∷ rest = drop_more all i x lt ∙ ap (λ y. y ∷ rest) (sym same) in
      ap (λ f. joined f (given rest)) last
      ∙ (joined_first before one (given rest) ∙ (ap (λ y. joined before (with_first y (given rest))) is ∙ (sym (ap (λ xs. joined before (given xs)) next) ∙ found)))

  indexes_are : (ds : List MemberDesignator) (v : TypedExpr) → element_of (element.AtIndexes ds v) ≡ AtIndexes (designators (map designator_of ds)) (expr_of v)
  indexes_are ds v = ap element_of (sym (element.rolls-AtIndexes ds v)) ∙ simp fold-roll-Element

  -- indexes that designators give vary
  pub varies_at : (e : Element) (ds : List MemberDesignator) (v : TypedExpr) → e ≡ element.AtIndexes ds v → false ≡ (length ds == 0) → Err reason.Varies ≡ element_constancy scopes of (element_of e)
  varies_at e [] v is some = cc
  varies_at e (d ∷ ds) v is some = sym (ap (λ x. element_constancy scopes of (element_of x)) is ∙ ap (element_constancy scopes of) (indexes_are (d ∷ ds) v))
