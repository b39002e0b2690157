-- The code that elaborates types, which leaves the type's number. It has the order of the elaboration: the parts of an
-- array
-- or a record in the order of the text, the base type of a set, or a type and its initial state, and then the array,
-- the record,
-- the set or the type with the initial state. A type that has a name is elaborated by a routine of its own.
use Rattle.std.specs.Prelude.{ℕ, ℤ, pos, suc, List, [], ◌∷◌, ◌++◌, Option, Some}
use Rattle.ep_gen_code.specs.Referring.{type_reference}
use Rattle.ep_gen_code.specs.Instructions.{bare, instr, members_code, push}
use Rattle.ep_object.specs.declared.code.Instr.{Instr}
use Rattle.ep_typed.specs.Denoters.{enumeration_type, required_type, subrange_type}
use Rattle.ep_gen_expr.specs.ExprCode.{begin_code, end_code, first_code, first_index, ranges_code, reach_code}
use Rattle.ep_gen_expr.specs.ExprCode.{same_code}
use Rattle.ep_typed.specs.Trees.{Expr, Constant, SetConstant, Structured, Element, AtIndex, AtField, SameField}
use Rattle.ep_typed.specs.Trees.{AtRanges, AtIndexes, Elements, no_element, next_element, Denoter, Required, Named}
use Rattle.ep_typed.specs.Trees.{Subrange, Enumeration, Array, Record, Set, Initial, Denoters, no_denoter}
use Rattle.ep_typed.specs.Trees.{next_denoter}
use Rattle.ep_values.specs.TypeValues as type
use Rattle.ep_values.specs.TypeValues.{TypeValue}
use Rattle.ep_object.specs.declared.op.TheConstants as op

-- the bounds of an ordinal type, and the type
abbrev pub ordinal_code : ℕ → ℤ → ℤ → List Instr
ordinal_code line low high = push line low ∷ push line high ∷ bare line op.T_ORD ∷ []

-- the code of a type that is made of no others; what has no type value has no meaning and no code
abbrev pub simple_code : ℕ → Option TypeValue → List Instr
simple_code line (Some (type.Ordinal low high)) = ordinal_code line low high
simple_code line _ = []

abbrev mutual
  -- The code that leaves an initial state; an array or a record is made as a structured value is. What is no constant
  -- is none.
  pub start_code : ℕ → Expr → List Instr
  start_code line (Constant z) = push line z ∷ []
  start_code line (SetConstant ms) = bare line op.SET_NONE ∷ members_code line ms
  start_code line (Structured of es) = begin_code line of ++ (parts_code line es ++ end_code line)
  start_code line _ = []

  -- the code of what a component is given
  pub part_code : ℕ → Element → List Instr
  part_code line (AtRanges ranges x) =
      first_code line ranges
      ++ (start_code line x ++ bare line op.STORE ∷ ranges_code line (first_index ranges) ranges)
  part_code line (AtField steps x) = reach_code line steps ++ (start_code line x ++ bare line op.STORE ∷ [])
  part_code line (SameField from to) = same_code line from to
  part_code line (AtIndex x y) = []
  part_code line (AtIndexes ds x) = []

  -- in order
  pub parts_code : ℕ → Elements → List Instr
  parts_code line no_element = []
  parts_code line (next_element e more) = part_code line e ++ parts_code line more

-- how many denoters there are
abbrev pub how_many : Denoters → ℕ
how_many no_denoter = 0
how_many (next_denoter d ds) = suc (how_many ds)

module _ (line : ℕ) where
  abbrev mutual
    -- the code of a denoter; a name is a call of the routine that elaborates it, whose reference has one more than the
    -- number of the type
    pub type_code : Denoter → List Instr
    type_code (Required r) = simple_code line (Some (required_type r))
    type_code (Named index []) = instr op.CALL (pos (type_reference index)) 0 line ∷ []
    type_code (Named index (b ∷ bs)) = []
    type_code (Subrange host low high) = simple_code line (subrange_type low high)
    type_code (Enumeration names) = simple_code line (enumeration_type names)
    type_code (Array index component) = type_code index ++ (type_code component ++ bare line op.T_ARR ∷ [])
    type_code (Record ds) = each_code ds ++ instr op.T_REC (pos (how_many ds)) 0 line ∷ []
    type_code (Set base) = type_code base ++ bare line op.T_SET ∷ []
    type_code (Initial of value) = type_code of ++ (start_code line value ++ bare line op.T_INIT ∷ [])

    -- one after another
    pub each_code : Denoters → List Instr
    each_code no_denoter = []
    each_code (next_denoter d ds) = type_code d ++ each_code ds
