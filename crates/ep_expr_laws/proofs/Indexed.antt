-- What an index gives of a valid form is valid.
use Rattle.std.proofs.Common.{◌≡◌, true, ℕ, suc, max, nat_le, List, [], ◌∷◌, Option, Some, None, refl, subst, sym}
use Rattle.std.specs.Prelude.{All, unwrap_or}
use Rattle.ep_typed.specs.Trees as tree
use Rattle.ep_typed.specs.Trees.{Elements, Place, Expr, Constant, Text, Read, One, Two, Short, Step, Function, IndexedValue, FieldValue, VariantValue, SetConstant, SetOf, OnSets, Card, Indexed}
use Rattle.ep_meaning.specs.Valid.{Declarations}
use Rattle.ep_typed.specs.declared.unit.UnitType.{UnitType}
use Rattle.ep_scope.specs.Scopes.{Region, structure_in}
use Rattle.ep_scope.specs.declared.kind.Kind.TheVariants as kind
use Rattle.ep_scope.specs.declared.rule.TheConstants as rule
use Rattle.ep_scope.specs.declared.structure.ArrayType.{ArrayType}
use Rattle.ep_scope.specs.declared.structure.Composition.TheVariants as composition
use Rattle.ep_scope.specs.declared.structure.StructuredType.{StructuredType}
use Rattle.ep_expr_laws.specs.Agreement.{HoldsStructure, IsAccessOf, IsFormOf, IsStructuredAt, IsStructuredValue, TypeValues, structures_of}
use Rattle.ep_rules.specs.ConstantAccesses.{element_known}
use Rattle.ep_rules.specs.Folding.{folded}
use Rattle.ep_rules.specs.Indexing.{component_depth, component_form, component_typed, element_form, indexed}
use Rattle.ep_rules.specs.Judgements.{Judged, Accepts, Breaks, Typed}
use Rattle.ep_rules.specs.Operators.{are_compatible, character, unbuilt_typed}
use Rattle.ep_rules.specs.declared.access.Access.{Access}
use Rattle.ep_rules.specs.declared.forms.TheConstants as limit
use Rattle.ep_expr_laws.proofs.public.Components.{IsComponentForm, built-component, element-known, indexed-component, unbuilt-component}
use Rattle.ep_check_expr.proofs.public.Keeping.{Satisfies, if-satisfies}
use Rattle.ep_expr_laws.proofs.public.Passing.{IsForm}
use Rattle.ep_expr_laws.proofs.public.Places.{component-place, made_so, some-component, some-list, structure_in-holds}
use Rattle.ep_expr_laws.proofs.Sound.{compatible-form}
use Rattle.ep_check_expr.proofs.public.Selected.{index-given}

-- ---- valid forms
module _ (declared : Declarations) (types : TypeValues) (structures : List StructuredType) where
  -- what is accepted is valid
  abbrev Holds : Judged Typed → Type 0
  Holds = Satisfies (IsForm declared types structures)

  module _ (a : ArrayType) (n : ℕ) (in_view : (list : List UnitType) → All (HoldsStructure types list) structures → HoldsStructure types list (made_so n (composition.Array a))) where
    -- a component has a valid form, where the array and the index have one
    abbrev IsElement : Access → Option Expr → Option Expr → Type 0
    IsElement whole x i = IsComponentForm declared types structures a.component a.kind whole (component_form a.kind x i)

    -- where the array or the index is not built
    unbuilt-element : (list : List UnitType) → All (HoldsStructure types list) structures → (whole : Access) → IsComponentForm declared types structures a.component a.kind whole None
    unbuilt-element list all whole = unbuilt-component declared types structures a.component a.kind (some-component declared types structures n (composition.Array a) in_view a refl) list all whole

    -- where the array is read of a variable
    read-element : (place : Place) (i : Option Expr) → IsStructuredAt declared types structures n place → IsFormOf declared types structures (kind.Ordinal a.index) i → (whole : Access) → IsElement whole (Some (Read place)) i
    read-element place None at f whole = let p = some-list declared types structures n place at in unbuilt-element p.0 p.1 whole
    read-element place (Some x) at f whole = built-component declared types structures a.component a.kind (Indexed place x) (component-place declared types structures n (composition.Array a) in_view a refl place x at f.1) whole

    -- where it is a value
    value-element : (x : Expr) → ((j : Expr) → element_form a.kind x j ≡ IndexedValue x j) → ((place : Place) → x ≡ Read place → ⊥) → (i : Option Expr) → IsStructuredValue declared types structures n x → IsFormOf declared types structures (kind.Ordinal a.index) i
        → (whole : Access) → IsAccessOf declared types whole (Some x) → IsElement whole (Some x) i
    value-element x is unread None v f whole g = unbuilt-element v.1.0 v.1.1 whole
    value-element x is unread (Some j) v f whole g =
        subst (λ z. IsComponentForm declared types structures a.component a.kind whole (Some z)) (sym (is j))
        (indexed-component declared types structures n x unread v a j (in_view v.1.0 v.1.1) f.1 whole g)

    -- where it is written out
    known-element : (number : ℕ) (es : Elements) (j : Expr) → (v : IsStructuredValue declared types structures n (tree.Structured number es)) → IsFormOf declared types structures (kind.Ordinal a.index) (Some j) → (whole : Access) → IsAccessOf declared types whole (Some (tree.Structured number es))
        → (o : Option Expr) → element_known a.kind es (folded j) ≡ o → IsComponentForm declared types structures a.component a.kind whole (Some (unwrap_or o (IndexedValue (tree.Structured number es) j)))
    known-element number es j v f whole g None e = indexed-component declared types structures n (tree.Structured number es) (λ place is. cc) v a j (in_view v.1.0 v.1.1) f.1 whole g
    known-element number es j v f whole g (Some y) e = element-known declared types structures n (tree.Structured number es) (λ place is. cc) v a number es refl (folded j) (in_view v.1.0 v.1.1) whole g y e

    written-element : (number : ℕ) (es : Elements) (i : Option Expr) → IsStructuredValue declared types structures n (tree.Structured number es) → IsFormOf declared types structures (kind.Ordinal a.index) i → (whole : Access) → IsAccessOf declared types whole (Some (tree.Structured number es))
        → IsElement whole (Some (tree.Structured number es)) i
    written-element number es None v f whole g = unbuilt-element v.1.0 v.1.1 whole
    written-element number es (Some j) v f whole g = known-element number es j v f whole g (element_known a.kind es (folded j)) refl

    -- each way
    element-valid : (x i : Option Expr) → IsFormOf declared types structures (kind.Structured n) x → IsFormOf declared types structures (kind.Ordinal a.index) i → (whole : Access) → IsAccessOf declared types whole x → IsElement whole x i
    element-valid None i f g whole h = unbuilt-element f.0 f.1 whole
    element-valid (Some (Read place)) i f g whole h = read-element place i f g whole
    element-valid (Some (Function callee given)) i f g whole h = value-element (Function callee given) (λ j. refl) (λ place e. cc) i f g whole h
    element-valid (Some (IndexedValue array index)) i f g whole h = value-element (IndexedValue array index) (λ j. refl) (λ place e. cc) i f g whole h
    element-valid (Some (FieldValue inner number)) i f g whole h = value-element (FieldValue inner number) (λ j. refl) (λ place e. cc) i f g whole h
    element-valid (Some (VariantValue inner selection number)) i f g whole h = value-element (VariantValue inner selection number) (λ j. refl) (λ place e. cc) i f g whole h
    element-valid (Some (tree.Structured number es)) i f g whole h = written-element number es i f g whole h
    element-valid (Some (Constant z)) i f g whole h = absurd f
    element-valid (Some (Text bytes)) i f g whole h = absurd f
    element-valid (Some (One operation x)) i f g whole h = absurd f
    element-valid (Some (Two operation x y)) i f g whole h = absurd f
    element-valid (Some (Short operation x y)) i f g whole h = absurd f
    element-valid (Some (Step down low high x y)) i f g whole h = absurd f
    element-valid (Some (SetConstant members)) i f g whole h = absurd f
    element-valid (Some (SetOf members)) i f g whole h = absurd f
    element-valid (Some (OnSets operation x y)) i f g whole h = absurd f
    element-valid (Some (Card x)) i f g whole h = absurd f

    -- a component of a valid array at a valid index is valid
    component-fits : (x i : Typed) → IsFormOf declared types structures (kind.Structured n) x.form → IsFormOf declared types structures (kind.Ordinal a.index) i.form → IsAccessOf declared types x.access x.form → Holds (component_typed a x i)
    component-fits x i f g h =
        let c = element-valid x.form i.form f g x.access h in
        if-satisfies (IsForm declared types structures) (nat_le (component_depth x.access x.depth i.depth) limit.DEPTH) (Accepts _) (Breaks (rule.TOO_DEEP ∷ [])) (λ e. c) tt

module _ (declared : Declarations) (types : TypeValues) (scopes : List Region) where
  -- what is accepted is valid where these scopes are in view
  abbrev Fits : Judged Typed → Type 0
  Fits = Satisfies (IsForm declared types (structures_of scopes))

  -- an index is valid where it has the host of the index type
  array-fits : (n : ℕ) (a : ArrayType) (x i : Typed) → structure_in scopes n ≡ Some (composition.Array a) → are_compatible (kind.Ordinal a.index) i.kind ≡ true
      → IsFormOf declared types (structures_of scopes) (kind.Structured n) x.form → IsFormOf declared types (structures_of scopes) i.kind i.form → IsAccessOf declared types x.access x.form → Fits (component_typed a x i)
  array-fits n a x i e same f g h =
      component-fits declared types (structures_of scopes) a n (λ list all. structure_in-holds (HoldsStructure types list) n scopes (composition.Array a) all e) x i f
      (compatible-form declared types (structures_of scopes) a.index i.kind i.form same g) h

  -- a character of a string is valid
  character-fits : (x i : Typed) → Fits (unbuilt_typed character x i)
  character-fits x i = if-satisfies (IsForm declared types (structures_of scopes)) (nat_le (suc (max x.depth i.depth)) limit.DEPTH) (Accepts _) (Breaks (rule.TOO_DEEP ∷ [])) (λ e. (refl, tt)) tt

  -- what an index gives of a valid form is one
  pub indexed-fits : (x i : Typed) → IsForm declared types (structures_of scopes) x → IsForm declared types (structures_of scopes) i → Fits (indexed scopes x i)
  indexed-fits x i p q =
      index-given (IsForm declared types (structures_of scopes)) scopes x.kind x i (λ n a is e same. array-fits n a x i e same (subst (λ k. IsFormOf declared types (structures_of scopes) k x.form) is p.0) q.0 p.1) (character-fits x i)
