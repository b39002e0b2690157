-- A valid form that is constant, an array or a record too, may begin each type of its kind.
use Rattle.std.proofs.Common.{◌≡◌, ◌∙◌, ℕ, ℤ, pos, negsuc, arith, Bool, true, false, IsTrue, List, [], ◌∷◌, ◌++◌, map, Option, Some, None, Ok, Err, refl, sym, ap, subst}
use Rattle.std.proofs.lemmas.Bool.Decides.{nat_tests}
use Rattle.std.proofs.lemmas.List.Elements.{All-cons, All-nil}
use Rattle.std.proofs.lemmas.Option.{same_Some}
use Rattle.std.specs.Prelude.{All, ⊤, int_le, option_to_list, ◌&&◌, if◌then◌else◌}
use Rattle.ep_meaning.proofs.public.Typed.{typed_bare}
use Rattle.ep_typed.specs.Hosts.{Host}
use Rattle.ep_typed.specs.Trees as tree
use Rattle.ep_typed.specs.Trees.{Expr, AtIndex, AtField, SameField, AtRanges, AtIndexes, Elements, no_element, next_element, elements, no_member, next_member, Named}
use Rattle.ep_values.specs.TypeValues as type
use Rattle.ep_values.specs.TypeValues.{TypeValue, bare_of}
use Rattle.ep_meaning.specs.Valid as valid
use Rattle.ep_meaning.specs.Valid.{AreElements, AreStartsFor, Declarations, HasRange, IsDenoter, IsElement, IsExpr, IsRangeWithin, IsStartFor, IsStructured, IsTyped, IsTypeOf, IsTypeOfKind}
use Rattle.ep_typed.specs.Viewed.{constant_expr, element_of, expr_of}
use Rattle.ep_typed.specs.declared.tree.Actual.TheFolds.{fold-roll-Element, fold-roll-TypedExpr}
use Rattle.ep_typed.specs.declared.tree.CaseRange.{CaseRange}
use Rattle.ep_typed.specs.declared.tree.Element.{Element}
use Rattle.ep_typed.specs.declared.tree.Element.TheVariants as element
use Rattle.ep_typed.specs.declared.tree.TypedExpr.TheVariants as expr
use Rattle.ep_typed.specs.declared.unit.UnitType.{UnitType}
use Rattle.ep_scope.specs.Scopes.{Region, depth_in, structure_in}
use Rattle.ep_scope.specs.declared.structure.ArrayType.{ArrayType}
use Rattle.ep_scope.specs.declared.structure.Composition.{Composition}
use Rattle.ep_scope.specs.declared.structure.Composition.TheVariants as composition
use Rattle.ep_expr_laws.specs.Agreement.{AgreesBy, TypeValues, structures_of}
use Rattle.ep_rules.specs.Folding.{folded, number_in}
use Rattle.ep_check_expr.specs.StructuredConstants.{Constancy, array_in, constancy, element_constancy, elements_constancy, index_constancy, form_in, index_range, known_constancy, of_both, of_one, value_in, value_known}
use Rattle.ep_rules.specs.declared.folding.Folded.{Folded}
use Rattle.ep_rules.specs.declared.folding.Folded.TheVariants.{Known, Varies, Errs}
use Rattle.ep_rules.specs.declared.folding.KnownValue.{KnownValue}
use Rattle.ep_rules.specs.declared.folding.KnownValue.TheVariants as known_value
use Rattle.ep_check_expr.specs.declared.structured_constants.ConstantValue.{ConstantValue}
use Rattle.ep_check_expr.specs.declared.structured_constants.ConstantValue.TheVariants as constant
use Rattle.ep_check_expr.specs.declared.structured_constants.NoConstant.TheVariants as reason
use Rattle.ep_expr_laws.proofs.Known.{OfKind, known-of_kind}
use Rattle.ep_expr_laws.proofs.public.Listed.{listed-made, structure_in-listed}
use Rattle.ep_expr_laws.proofs.public.Places.{made_so}
use Rattle.ep_check_expr.proofs.public.Rows.{and_first, and_second}

-- ---- constants as plain data

-- the typed form that a component is given is that of the value
form_is : (v : ConstantValue) → expr_of (form_in v) ≡ constant_expr (value_in v)
form_is (constant.Known (known_value.Number z)) = ap expr_of (sym (expr.rolls-Constant z)) ∙ simp fold-roll-TypedExpr
form_is (constant.Known (known_value.Members ms)) = ap expr_of (sym (expr.rolls-SetConstant ms)) ∙ simp fold-roll-TypedExpr
form_is (constant.Structured n es) = ap expr_of (sym (expr.rolls-Structured n es)) ∙ simp fold-roll-TypedExpr

ranges_are : (rs : List CaseRange) (v : ConstantValue) → element_of (element.AtRanges rs (form_in v)) ≡ AtRanges rs (constant_expr (value_in v))
ranges_are rs v = (ap element_of (sym (element.rolls-AtRanges rs (form_in v))) ∙ simp fold-roll-Element) ∙ ap (AtRanges rs) (form_is v)

field_is : (steps : List ℕ) (v : ConstantValue) → element_of (element.AtField steps (form_in v)) ≡ AtField steps (constant_expr (value_in v))
field_is steps v = (ap element_of (sym (element.rolls-AtField steps (form_in v))) ∙ simp fold-roll-Element) ∙ ap (AtField steps) (form_is v)

same_is : (from to : List ℕ) → element_of (element.SameField from to) ≡ SameField from to
same_is from to = ap element_of (sym (element.rolls-SameField from to)) ∙ simp fold-roll-Element

-- ---- what constants are made of

-- two parts that are constant
record BothConstant {A B C : Type 0} (f : A → B → C) (r : Constancy A) (s : Constancy B) (c : C) : Type 0 where
  left : A
  right : B
  left_is : r ≡ Ok left
  right_is : s ≡ Ok right
  gives : f left right ≡ c

same_Ok : {A : Type 0} (a b : A) → ◌≡◌ {A = Constancy A} (Ok a) (Ok b) → a ≡ b
same_Ok a b e = cc

of_both-constant : {A B C : Type 0} (f : A → B → C) (r : Constancy A) (s : Constancy B) (c : C) → of_both f r s ≡ Ok c → BothConstant f r s c
of_both-constant f (Ok a) (Ok b) c e = record { left = a; right = b; left_is = refl; right_is = refl; gives = same_Ok (f a b) c e }
of_both-constant f (Ok a) (Err why) c e = cc
of_both-constant f (Err why) (Ok b) c e = cc
of_both-constant f (Err why) (Err other) c e = cc

-- one of them
record OneConstant {A B : Type 0} (f : A → B) (r : Constancy A) (b : B) : Type 0 where
  part : A
  is : r ≡ Ok part
  gives : f part ≡ b

of_one-constant : {A B : Type 0} (f : A → B) (r : Constancy A) (b : B) → of_one f r ≡ Ok b → OneConstant f r b
of_one-constant f (Ok a) b e = record { part = a; is = refl; gives = same_Ok (f a) b e }
of_one-constant f (Err why) b e = cc

-- ---- constants that may be initial states

module _ (list : List UnitType) where
  -- what components are given, as it is found
  abbrev AreGiven : TypeValue → List Element → Type 0
  AreGiven t xs = AreStartsFor list t (elements (map element_of xs))

  -- what one is given, before whatever else
  abbrev IsGiven : TypeValue → Element → Type 0
  IsGiven t x = (more : Elements) → AreStartsFor list t more → AreStartsFor list t (next_element (element_of x) more)

  -- where one is
  abbrev IsGivenIf : TypeValue → Option Element → Type 0
  IsGivenIf t None = ⊤
  IsGivenIf t (Some x) = IsGiven t x

  -- one, where there is one, before whatever else
  given-first : (t : TypeValue) (x : Option Element) (xs : List Element) → IsGivenIf t x → AreGiven t xs → AreGiven t (option_to_list x ++ xs)
  given-first t None xs p q = q
  given-first t (Some x) xs p q = p (elements (map element_of xs)) q

  -- a value that is known
  known-starts : (k : valid.ValueKind) (t : TypeValue) (y : KnownValue) → OfKind k y → IsTypeOfKind k t → IsStartFor list t (constant_expr (value_known y))
  known-starts (valid.Ordinal h) (type.Ordinal low high) (known_value.Number z) p s = valid.word_start low high h z s p
  known-starts (valid.Ordinal h) type.Text (known_value.Number z) p s = absurd s
  known-starts (valid.Ordinal h) (type.Array low high of) (known_value.Number z) p s = absurd s
  known-starts (valid.Ordinal h) (type.Record ts) (known_value.Number z) p s = absurd s
  known-starts (valid.Ordinal h) (type.Set low high) (known_value.Number z) p s = absurd s
  known-starts (valid.Ordinal h) (type.Initial of start) (known_value.Number z) p s = absurd s
  known-starts (valid.Ordinal h) t (known_value.Members ms) p s = absurd p
  known-starts (valid.Set h) (type.Set low high) (known_value.Members ms) p s = valid.set_start low high h ms s p.0 p.1
  known-starts (valid.Set h) (type.Ordinal low high) (known_value.Members ms) p s = absurd s
  known-starts (valid.Set h) type.Text (known_value.Members ms) p s = absurd s
  known-starts (valid.Set h) (type.Array low high of) (known_value.Members ms) p s = absurd s
  known-starts (valid.Set h) (type.Record ts) (known_value.Members ms) p s = absurd s
  known-starts (valid.Set h) (type.Initial of start) (known_value.Members ms) p s = absurd s
  known-starts (valid.Set h) t (known_value.Number z) p s = absurd p
  known-starts valid.Bytes t y p s = absurd s
  known-starts (valid.Structured u) t (known_value.Number z) p s = absurd p
  known-starts (valid.Structured u) t (known_value.Members ms) p s = absurd p

  -- what is known of a form
  folded-starts : (k : valid.ValueKind) (t : TypeValue) (r : Folded) (v : ConstantValue) → ((y : KnownValue) → r ≡ Known y → OfKind k y) → known_constancy r ≡ Ok v → IsTypeOfKind k t → IsStartFor list t (constant_expr (value_in v))
  folded-starts k t (Known y) v p e s = subst (λ w. IsStartFor list t (constant_expr (value_in w))) (same_Ok (constant.Known y) v e) (known-starts k t y (p y refl) s)
  folded-starts k t Varies v p e s = cc
  folded-starts k t Errs v p e s = cc

-- ---- indexes

self_le : (z : ℤ) → IsTrue (int_le z z)
self_le (pos n) = grind (arith, nat_tests)
self_le (negsuc n) = grind (arith, nat_tests)

-- the array type has the bounds of the type value, where both are of arrays
abbrev IsBounded : Option ArrayType → TypeValue → Type 0
IsBounded None t = ⊤
IsBounded (Some a) (type.Array low high of) = (a.low ≡ low) × (a.high ≡ high)
IsBounded (Some a) t = ⊤

-- the ranges of an index lie in the bounds
abbrev AreWithin : ℤ → ℤ → List CaseRange → Type 0
AreWithin low high rs = HasRange rs × All (IsRangeWithin low high) rs

index-within : (low high : ℤ) (of : TypeValue) (a : ArrayType) (z : ℤ) (rs : List CaseRange) → IsBounded (Some a) (type.Array low high of) → index_range (Some a) z ≡ Ok rs → AreWithin low high rs
index-within low high of a z rs bounds e = go (int_le a.low z && int_le z a.high) refl e
  where
    one : List CaseRange
    one = record { low = z; high = z } ∷ []

    go : (b : Bool) → (int_le a.low z && int_le z a.high) ≡ b → (if b then Ok one else Err reason.Errs) ≡ Ok rs → AreWithin low high rs
    go true within e =
        subst (AreWithin low high) (same_Ok one rs e) (
          tt,
          All-cons (IsRangeWithin low high) (record { low = z; high = z }) []
              (subst (λ x. IsTrue (int_le x z)) bounds.0 (and_first (int_le a.low z) (int_le z a.high) within), self_le z, subst (λ x. IsTrue (int_le z x)) bounds.1 (and_second (int_le a.low z) (int_le z a.high) within))
              (All-nil (IsRangeWithin low high)),
        )
    go false within e = cc

indexes-within : (low high : ℤ) (of : TypeValue) (o : Option ArrayType) (r : Folded) (rs : List CaseRange) → IsBounded o (type.Array low high of) → index_constancy o r ≡ Ok rs → AreWithin low high rs
indexes-within low high of None (Known x) rs bounds e = cc
indexes-within low high of (Some a) (Known x) rs bounds e = index-within low high of a (number_in x) rs bounds e
indexes-within low high of o Varies rs bounds e = cc
indexes-within low high of o Errs rs bounds e = cc

-- ---- forms

module _ (declared : Declarations) (types : TypeValues) (scopes : List Region) (agrees : AgreesBy declared types (structures_of scopes) (depth_in scopes) scopes) where
  abbrev list : List UnitType
  list = declared.types

  -- the array type of a number has the bounds of its type value
  bounded : (n : ℕ) (t : TypeValue) (d : IsDenoter list (Named n [])) → bare_of d.type_value ≡ t → (o : Option Composition) → structure_in scopes n ≡ o → IsBounded (array_in o) t
  bounded n t d is None found = tt
  bounded n t d is (Some (composition.Record fs)) found = tt
  bounded n t d is (Some (composition.Array a)) found =
      let listed = structure_in-listed declared types (structures_of scopes) (depth_in scopes) n scopes (composition.Array a) agrees found in
      let made = listed-made declared types (made_so n (composition.Array a)) listed in
      let same = same_Some d.type_value listed.0.type_value (sym d.has_type ∙ listed.0.has_type) in
      subst (IsBounded (Some a)) (sym made.1 ∙ (ap bare_of (sym same) ∙ is)) (refl, refl)

  -- the components in ranges, and their value
  ranges-start : (low high : ℤ) (h : Host) (of : TypeValue) (rs : List CaseRange) (v : ConstantValue) → IsTypeOf h (type.Ordinal low high) → AreWithin low high rs → IsStartFor list of (constant_expr (value_in v))
      → IsGiven list (type.Array low high of) (element.AtRanges rs (form_in v))
  ranges-start low high h of rs v i within s =
      λ more rest. subst (λ e. AreStartsFor list (type.Array low high of) (next_element e more)) (sym (ranges_are rs v))
      (valid.ranges_given low high h of rs (constant_expr (value_in v)) more i within.0 within.1 s rest)

  mutual
    -- a valid form that is constant may be the initial state of each type of its kind
    pub constancy-starts : (x : Expr) (k : valid.ValueKind) (t : TypeValue) (v : ConstantValue) → IsExpr declared k x → constancy scopes x ≡ Ok v → IsTypeOfKind k t → IsStartFor list t (constant_expr (value_in v))
    constancy-starts (tree.Structured n es) k t v f e s =
        let p = of_one-constant (λ xs. constant.Structured n xs) (elements_constancy scopes (array_in (structure_in scopes n)) es) v e in
        let is : (bare_of f.0.type_value ≡ t) × IsStructured (bare_of f.0.type_value) = subst (λ j. IsTypeOfKind j t) f.1 s in
        let same : f.0.type_value ≡ t = sym (typed_bare list (Named n []) f.0.type_value f.0.typed) ∙ is.0 in
        let given = elements-start (array_in (structure_in scopes n)) t es p.part (bounded n t f.0 is.0 (structure_in scopes n) refl) (subst (λ u. AreElements declared u es) is.0 f.3) p.is in
        subst (λ w. IsStartFor list t (constant_expr (value_in w))) p.gives (valid.structured_start n t (elements (map element_of p.part)) (f.0.has_type ∙ ap Some same) (subst (IsTyped list (Named n [])) same f.0.typed) (subst IsStructured is.0 is.1) given)
    constancy-starts x k t v f e s = folded-starts list k t (folded x) v (λ y q. known-of_kind declared x k y f q) e s

    -- what a component is given
    element-starts : (o : Option ArrayType) (t : TypeValue) (d : tree.Element) (x : Option Element) → IsBounded o t → IsElement declared t d → element_constancy scopes o d ≡ Ok x → IsGivenIf list t x
    element-starts o (type.Array low high of) (AtIndex i y) x bounds f e =
        let p = of_both-constant (λ rs v. Some (element.AtRanges rs (form_in v))) (index_constancy o (folded i)) (constancy scopes y) x e in
        subst (IsGivenIf list (type.Array low high of)) p.gives
        (ranges-start low high f.0.0 of p.left p.right f.0.1 (indexes-within low high of o (folded i) p.left bounds p.left_is) (constancy-starts y f.1.0 of p.right f.1.2 p.right_is f.1.1))
    element-starts o (type.Array low high of) (AtRanges ranges y) x bounds f e =
        let p = of_both-constant (λ rs v. Some (element.AtRanges rs (form_in v))) (Ok ranges) (constancy scopes y) x e in
        subst (IsGivenIf list (type.Array low high of)) p.gives
        (ranges-start low high f.0.0 of p.left p.right f.0.1 (subst (AreWithin low high) (same_Ok ranges p.left p.left_is) (f.1, f.2)) (constancy-starts y f.3.0 of p.right f.3.2 p.right_is f.3.1))
    element-starts o (type.Array low high of) (AtIndexes no_member y) x bounds f e =
        let p = of_one-constant (λ v. None) (constancy scopes y) x e in
        subst (IsGivenIf list (type.Array low high of)) p.gives tt
    element-starts o (type.Array low high of) (AtIndexes (next_member d ds) y) x bounds f e = cc
    element-starts o (type.Array low high of) (AtField steps y) x bounds f e = absurd f
    element-starts o (type.Array low high of) (SameField from to) x bounds f e = absurd f
    element-starts o (type.Record ts) (AtField steps y) x bounds f e =
        let p = of_one-constant (λ v. Some (element.AtField steps (form_in v))) (constancy scopes y) x e in
        subst (IsGivenIf list (type.Record ts)) p.gives
        (λ more rest. subst (λ d. AreStartsFor list (type.Record ts) (next_element d more)) (sym (field_is steps p.part))
        (valid.field_given ts steps f.1.0 (constant_expr (value_in p.part)) more f.1.1 (constancy-starts y f.0 f.1.0 p.part f.2 p.is f.1.2) rest))
    element-starts o (type.Record ts) (SameField from to) x bounds f e =
        subst (IsGivenIf list (type.Record ts)) (same_Ok (Some (element.SameField from to)) x e)
        (λ more rest. subst (λ d. AreStartsFor list (type.Record ts) (next_element d more)) (sym (same_is from to)) (valid.same_given ts from to f.0 more f.1 f.2 rest))
    element-starts o (type.Record ts) (AtIndex i y) x bounds f e = absurd f
    element-starts o (type.Record ts) (AtRanges ranges y) x bounds f e = absurd f
    element-starts o (type.Record ts) (AtIndexes ds y) x bounds f e = absurd f
    element-starts o (type.Ordinal low high) d x bounds f e = absurd f
    element-starts o type.Text d x bounds f e = absurd f
    element-starts o (type.Set low high) d x bounds f e = absurd f
    element-starts o (type.Initial of start) d x bounds f e = absurd f

    -- what components are given
    elements-start : (o : Option ArrayType) (t : TypeValue) (es : Elements) (xs : List Element) → IsBounded o t → AreElements declared t es → elements_constancy scopes o es ≡ Ok xs → AreGiven list t xs
    elements-start o t no_element xs bounds f e = subst (AreGiven list t) (same_Ok [] xs e) (valid.none_given t)
    elements-start o t (next_element d more) xs bounds f e =
        let p = of_both-constant (λ y ys. option_to_list y ++ ys) (element_constancy scopes o d) (elements_constancy scopes o more) xs e in
        subst (AreGiven list t) p.gives (given-first list t p.left p.right (element-starts o t d p.left bounds f.0 p.left_is) (elements-start o t more p.right bounds f.1 p.right_is))
