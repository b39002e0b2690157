-- Labels of variants, their bounds, and names of fields, by the steps that the functions take.
use Rattle.std.proofs.Common.{◌≡◌, ℕ, ℤ, zero, suc, ◌+◌, ◌<◌, Bool, true, false, cond, ◌||◌, is_some, List, [], ◌∷◌, drop, length, Option, Some, None, refl, sym, ap, ◌∙◌, subst, arith}
use Rattle.std.proofs.lemmas.Iterator.Adapters.{position_from-zero}
use Rattle.std.specs.List.{position_from}
use Rattle.std.specs.Str.{bytes_eq}
use Rattle.ep_tree.specs.declared.expression.Expression.{Expression}
use Rattle.ep_typed.specs.declared.tree.CaseRange.{CaseRange}
use Rattle.ep_scope.specs.Fields.{field_number}
use Rattle.ep_scope.specs.Scopes.{Region}
use Rattle.ep_scope.specs.declared.structure.FieldType.{FieldType}
use Rattle.ep_rules.specs.Judgements.{Accepts}
use Rattle.ep_rules.specs.declared.forms.Refusal.{Refusal}
use Rattle.ep_rules.specs.Answers.{Refuses}
use Rattle.ep_rules.proofs.public.Refusing.{first_refused, part_refused, second_refused}
use Rattle.ep_unit_rules.specs.Types.{counted}
use Rattle.ep_unit_rules.specs.Variants.{bounds_nodes, is_among_fields}
use Rattle.ep_unit_rules.specs.Labels.{end_judged, range_judged, ranging}
use Rattle.ep_unit_rules.specs.declared.labels.TagValues.{TagValues}

-- ---- labels

module _ (scopes : List Region) (t : TagValues) (e : Refusal) (low : Expression) where
  -- the first end is refused
  pub low_refused : (high : Option Expression) → Refuses e (end_judged scopes t low) → Refuses e (range_judged scopes t low high)
  low_refused None h = part_refused (λ z. ranging z z) e (end_judged scopes t low) h
  low_refused (Some high) h = first_refused ranging e (end_judged scopes t low) (end_judged scopes t high) h

  -- the last one is
  pub high_refused : (o : Option Expression) (high : Expression) (z : Option ℤ) → o ≡ Some high → end_judged scopes t low ≡ Accepts z → Refuses e (end_judged scopes t high) → Refuses e (range_judged scopes t low o)
  high_refused o high z there is h = subst (λ x. Refuses e (range_judged scopes t low x)) (sym there) (second_refused ranging e (end_judged scopes t low) (end_judged scopes t high) z is h)

-- the bounds of one more
pub next_bounds : (nodes : ℕ) (ranges : List CaseRange) (i : ℕ) → i < length ranges → bounds_nodes nodes (drop i ranges) ≡ bounds_nodes (counted nodes 2) (drop (i + 1) ranges)
next_bounds nodes [] i lt = absurd (omega (arith, lt))
next_bounds nodes (r ∷ rs) zero lt = refl
next_bounds nodes (r ∷ rs) (suc i) lt = next_bounds nodes rs i (omega (arith, lt)) ∙ ap (λ k. bounds_nodes (counted nodes 2) (drop k (r ∷ rs))) {x = suc (i + 1)} {y = suc i + 1} (omega arith)

-- ---- names of fields

placed_from : (fields : List FieldType) (name : List ℕ) (n : ℕ) → is_some (position_from (λ f. bytes_eq f.name name) n fields) ≡ is_among_fields fields name
placed_from [] name n = refl
placed_from (f ∷ fs) name n = at (bytes_eq f.name name) (placed_from fs name (n + 1))
  where
    at : (b : Bool) → is_some (position_from (λ g. bytes_eq g.name name) (n + 1) fs) ≡ is_among_fields fs name
        → is_some (cond b (Some n) (position_from (λ g. bytes_eq g.name name) (n + 1) fs)) ≡ (b || is_among_fields fs name)
    at true rest = refl
    at false rest = rest

-- a field of the name has a place
pub placed_among : (fields : List FieldType) (name : List ℕ) → is_some (field_number fields name) ≡ is_among_fields fields name
placed_among fields name = ap is_some (position_from-zero (λ f. bytes_eq f.name name) fields) ∙ placed_from fields name 0
