-- What a typed form is as a constant that may be an array or a record (ISO 10206, 6.6, 6.8.2 and 6.8.7): its
-- components are such constants.
use Rattle.std.specs.Prelude.{ℕ, ℤ, int_le, ◌&&◌, List, [], ◌∷◌, ◌++◌, Option, Some, None, option_to_list, Result, Ok}
use Rattle.std.specs.Prelude.{Err, if◌then◌else◌, ◌≡◌, map}
use Rattle.ep_typed.specs.Trees as tree
use Rattle.ep_typed.specs.Viewed.{element_of, expr_of}
use Rattle.ep_typed.specs.Trees.{Expr, AtIndex, AtField, SameField, AtRanges, AtIndexes, Elements, no_element}
use Rattle.ep_typed.specs.Trees.{next_element, no_member, next_member}
use Rattle.ep_typed.specs.declared.tree.CaseRange.{CaseRange}
use Rattle.ep_typed.specs.declared.tree.Element.{Element}
use Rattle.ep_typed.specs.declared.tree.Element.TheVariants as element
use Rattle.ep_typed.specs.declared.tree.TypedExpr.{TypedExpr}
use Rattle.ep_typed.specs.declared.tree.TypedExpr.TheVariants as expr
use Rattle.ep_typed.specs.declared.value.Value.{Value}
use Rattle.ep_typed.specs.declared.value.Value.TheVariants as value
use Rattle.ep_scope.specs.Scopes.{Region, structure_in}
use Rattle.ep_scope.specs.declared.structure.ArrayType.{ArrayType}
use Rattle.ep_scope.specs.declared.structure.Composition.{Composition}
use Rattle.ep_scope.specs.declared.structure.Composition.TheVariants as composition
use Rattle.ep_rules.specs.Folding.{folded, number_in}
use Rattle.ep_rules.specs.declared.folding.Folded.{Folded}
use Rattle.ep_rules.specs.declared.folding.Folded.TheVariants.{Known, Varies, Errs}
use Rattle.ep_rules.specs.declared.folding.KnownValue.{KnownValue}
use Rattle.ep_rules.specs.declared.folding.KnownValue.TheVariants as known
use Rattle.ep_check_expr.specs.declared.structured_constants.ConstantValue.{ConstantValue}
use Rattle.ep_check_expr.specs.declared.structured_constants.ConstantValue.TheVariants as constant
use Rattle.ep_check_expr.specs.declared.structured_constants.NoConstant.{NoConstant}
use Rattle.ep_check_expr.specs.declared.structured_constants.NoConstant.TheVariants as reason

-- a constant, or why there is none: a variable is read or a function is called, or there would be an error
abbrev pub Constancy : Type 0 → Type 0
Constancy A = Result A NoConstant

-- of two reasons: where one part varies, so does the whole
abbrev pub either : NoConstant → NoConstant → NoConstant
either reason.Varies other = reason.Varies
either reason.Errs other = other

-- what is made of two parts, where both are constant
abbrev pub of_both : {A B C : Type 0} → (A → B → C) → Constancy A → Constancy B → Constancy C
of_both f (Ok a) (Ok b) = Ok (f a b)
of_both f (Ok a) (Err why) = Err why
of_both f (Err why) (Ok b) = Err why
of_both f (Err why) (Err other) = Err (either why other)

-- what is made of one part
abbrev pub of_one : {A B : Type 0} → (A → B) → Constancy A → Constancy B
of_one f (Ok a) = Ok (f a)
of_one f (Err why) = Err why

-- the value of a constant that is known
abbrev pub value_known : KnownValue → Value
value_known (known.Number z) = value.Word z
value_known (known.Members ms) = value.Set ms

-- the value of a constant
abbrev pub value_in : ConstantValue → Value
value_in (constant.Known x) = value_known x
value_in (constant.Structured n es) = value.Structured n es

-- a constant that is known as a typed form
abbrev pub form_known : KnownValue → TypedExpr
form_known (known.Number z) = expr.Constant z
form_known (known.Members ms) = expr.SetConstant ms

-- a constant as the typed form that a component is given
abbrev pub form_in : ConstantValue → TypedExpr
form_in (constant.Known x) = form_known x
form_in (constant.Structured n es) = expr.Structured n es

-- what is known of a form that is no array and no record
abbrev pub known_constancy : Folded → Constancy ConstantValue
known_constancy (Known x) = Ok (constant.Known x)
known_constancy Varies = Err reason.Varies
known_constancy Errs = Err reason.Errs

-- the array type, where it is one
abbrev pub array_in : Option Composition → Option ArrayType
array_in (Some (composition.Array a)) = Some a
array_in _ = None

-- the range of one index of an array; outside of the bounds there would be an error
abbrev pub index_range : Option ArrayType → ℤ → Constancy (List CaseRange)
index_range None z = Err reason.Errs
index_range (Some a) z =
    if int_le a.low z && int_le z a.high then Ok (record { low = z; high = z } ∷ []) else Err reason.Errs

-- alike, by what is known of the index
abbrev pub index_constancy : Option ArrayType → Folded → Constancy (List CaseRange)
index_constancy of (Known x) = index_range of (number_in x)
index_constancy of Varies = Err reason.Varies
index_constancy of Errs = Err reason.Errs

-- the components in ranges and the value of all of them
abbrev pub ranges_given : Constancy (List CaseRange) → Constancy ConstantValue → Constancy (Option Element)
ranges_given ranges v = of_both (λ rs x. Some (element.AtRanges rs (form_in x))) ranges v

-- no component, which is given nothing
abbrev pub none_given : Constancy ConstantValue → Constancy (Option Element)
none_given v = of_one (λ x. None) v

-- the component of a record and its value
abbrev pub field_given : List ℕ → Constancy ConstantValue → Constancy (Option Element)
field_given steps v = of_one (λ x. Some (element.AtField steps (form_in x))) v

-- an array or a record
abbrev pub structured : ℕ → Constancy (List Element) → Constancy ConstantValue
structured n es = of_one (λ xs. constant.Structured n xs) es

-- what components are given before, and besides
abbrev pub joined : Constancy (List Element) → Constancy (List Element) → Constancy (List Element)
joined before more = of_both (◌++◌) before more

-- elements behind one, where there is one
abbrev pub with_first : Constancy (Option Element) → Constancy (List Element) → Constancy (List Element)
with_first first more = of_both (λ x xs. option_to_list x ++ xs) first more

-- elements with one more, where there is one
abbrev pub with_last : Constancy (List Element) → Constancy (Option Element) → Constancy (List Element)
with_last before last = of_both (λ xs x. xs ++ option_to_list x) before last

module _ (scopes : List Region) where
  abbrev mutual
    -- a constant, or why the form is none
    pub constancy : Expr → Constancy ConstantValue
    constancy (tree.Structured n es) = structured n (elements_constancy (array_in (structure_in scopes n)) es)
    constancy x = known_constancy (folded x)

    -- What a component is given, of a value of this array type or of a record. Where none is, its value is constant
    -- all the same; indexes that are given by designators vary.
    pub element_constancy : Option ArrayType → tree.Element → Constancy (Option Element)
    element_constancy of (AtIndex x y) = ranges_given (index_constancy of (folded x)) (constancy y)
    element_constancy of (AtRanges ranges y) = ranges_given (Ok ranges) (constancy y)
    element_constancy of (AtField steps y) = field_given steps (constancy y)
    element_constancy of (SameField from to) = Ok (Some (element.SameField from to))
    element_constancy of (AtIndexes no_member y) = none_given (constancy y)
    element_constancy of (AtIndexes (next_member d more) y) = Err reason.Varies

    -- what components are given
    pub elements_constancy : Option ArrayType → Elements → Constancy (List Element)
    elements_constancy of no_element = Ok []
    elements_constancy of (next_element e more) = with_first (element_constancy of e) (elements_constancy of more)

-- A form is a constant as it stands, whatever is known of types: what a component is given of it is the form itself.
abbrev pub IsSettled : TypedExpr → Type 0
IsSettled x = (scopes : List Region) → of_one form_in (constancy scopes (expr_of x)) ≡ Ok x

abbrev pub IsSettledElement : Element → Type 0
IsSettledElement e =
    (scopes : List Region) (of : Option ArrayType) → element_constancy scopes of (element_of e) ≡ Ok (Some e)

abbrev pub AreSettled : List Element → Type 0
AreSettled es =
    (scopes : List Region) (of : Option ArrayType)
    → elements_constancy scopes of (tree.elements (map element_of es)) ≡ Ok es
