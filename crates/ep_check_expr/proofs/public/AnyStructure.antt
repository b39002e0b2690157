-- What holds of every typed form holds of structured values that are accepted.
use Rattle.std.proofs.Common.{◌≡◌, ℕ, suc, nat_le, Bool, true, false, List, [], ◌∷◌, ◌++◌, Option, Some, None, refl}
use Rattle.std.specs.Prelude.{⊤, if◌then◌else◌}
use Rattle.ep_typed.specs.Trees.{Element, Expr, elements}
use Rattle.ep_scope.specs.Scopes.{Region, structure_in}
use Rattle.ep_scope.specs.declared.kind.Kind.TheVariants as kind
use Rattle.ep_scope.specs.declared.rule.TheConstants as rule
use Rattle.ep_scope.specs.declared.structure.ArrayType.{ArrayType}
use Rattle.ep_scope.specs.declared.structure.Composition.{Composition}
use Rattle.ep_scope.specs.declared.structure.Composition.TheVariants as composition
use Rattle.ep_scope.specs.declared.structure.FieldType.{FieldType}
use Rattle.ep_rules.specs.Judgements.{Judged, Accepts, Breaks, Typed, when_accepted}
use Rattle.ep_rules.specs.declared.access.Access.TheVariants as access
use Rattle.ep_rules.specs.declared.forms.TheConstants as limit
use Rattle.ep_check_expr.specs.StructuredValues.{Components, arranged, array_begun, array_elements, array_judged, completes, composed, filled, is_arranged, nothing_filled, record_judged, structure_judged, structured, unfit, values_filled}
use Rattle.ep_check_expr.proofs.public.Keeping.{Satisfies, any-satisfies, if-satisfies, then-satisfies}

-- ---- a property that every structured value has
pub unless-unfit : {A : Type 0} (P : A → Type 0) (b : Bool) (J : Judged A) → (b ≡ true → Satisfies P J) → Satisfies P (if b then J else unfit)
unless-unfit P true J h = h refl
unless-unfit P false J h = tt

module _ (P : Typed → Type 0) (n : ℕ) (every : (form : Option Expr) (depth : ℕ) → P (record { form = form; kind = kind.Structured n; depth = depth; access = access.Value })) where
  made-any : (es : Option (List Element)) (depth : ℕ) → Satisfies P (structured n es depth)
  made-any es depth = if-satisfies P (nat_le (suc depth) limit.DEPTH) (Accepts _) (Breaks (rule.TOO_DEEP ∷ [])) (λ e. every _ _) tt

  array-any : (a : ArrayType) (c : Components) → Satisfies P (array_judged n a c)
  array-any a c =
      let parts = when_accepted (array_elements a c.elements) (array_begun a c.otherwise) in
      then-satisfies (λ r. ⊤) P (arranged n a (completes c.otherwise)) parts (any-satisfies parts) (λ r t. unless-unfit P (is_arranged a (completes c.otherwise) r.indexes) _ (λ e. made-any r.elements r.depth))

  record-any : (fs : List FieldType) (c : Components) → Satisfies P (record_judged n fs c)
  record-any fs c =
      let parts = values_filled fs [] c nothing_filled in
      then-satisfies (λ r. ⊤) P (filled n) parts (any-satisfies parts) (λ r t. made-any r.elements r.depth)

  composed-any : (o : Option Composition) (c : Components) → Satisfies P (composed n o c)
  composed-any None c = tt
  composed-any (Some (composition.Array a)) c = array-any a c
  composed-any (Some (composition.Record fs)) c = record-any fs c

  pub structure-any : (scopes : List Region) (c : Components) → Satisfies P (structure_judged scopes c n)
  structure-any scopes c = composed-any (structure_in scopes n) c
