-- The required identifiers and what they stand for (ISO 10206, 6.2.2.10).
use Rattle.std.specs.Prelude.{ℕ, List, [], ◌∷◌, codes, Option, Some, None, if◌then◌else◌}
use Rattle.std.specs.Str.{bytes_eq}
use Rattle.ep_typed.specs.declared.denoter.RequiredType.{RequiredType}
use Rattle.ep_typed.specs.declared.denoter.RequiredType.TheVariants as type
use Rattle.ep_scope.specs.declared.required.Required.{Required}
use Rattle.ep_scope.specs.declared.required.Required.TheVariants as is
use Rattle.ep_scope.specs.declared.required.RequiredConstant.{RequiredConstant}
use Rattle.ep_scope.specs.declared.required.RequiredConstant.TheVariants as constant
use Rattle.ep_scope.specs.declared.required.Function.{Function}
use Rattle.ep_scope.specs.declared.required.Function.TheVariants as function
use Rattle.ep_scope.specs.declared.required.Procedure.{Procedure}
use Rattle.ep_scope.specs.declared.required.Procedure.TheVariants as procedure

-- what a list of entries has under a name
abbrev pub look_up : {A : Type 0} → List (List ℕ × A) → List ℕ → Option A
look_up [] name = None
look_up (e ∷ es) name = if bytes_eq name e.0 then Some e.1 else look_up es name

-- the required constants (ISO 10206, 6.4.2.2)
abbrev pub required_constants : List (List ℕ × RequiredConstant)
required_constants =
    (codes "maxint", constant.MaxInt) ∷ (codes "maxchar", constant.MaxChar) ∷ (codes "true", constant.True)
    ∷ (codes "false", constant.False) ∷ []

-- the required types (ISO 10206, 6.4.2.2)
abbrev pub required_types : List (List ℕ × RequiredType)
required_types = (codes "integer", type.Integer) ∷ (codes "char", type.Char) ∷ (codes "boolean", type.Boolean) ∷ []

-- the required functions (ISO 10206, 6.7.6)
abbrev pub required_functions : List (List ℕ × Function)
required_functions =
    (codes "abs", function.Absolute) ∷ (codes "sqr", function.Square) ∷ (codes "odd", function.Odd)
    ∷ (codes "ord", function.Ordinal) ∷ (codes "chr", function.Character)
    ∷ (codes "succ", function.Successor) ∷ (codes "pred", function.Predecessor) ∷ (codes "card", function.Cardinality)
    ∷ []

-- the required procedures (ISO 10206, 6.7.5 and 6.10)
abbrev pub required_procedures : List (List ℕ × Procedure)
required_procedures =
    (codes "halt", procedure.Halt) ∷ (codes "write", procedure.Write) ∷ (codes "writeln", procedure.WriteLine) ∷ []

-- this, or else the other
abbrev pub or_required : {A : Type 0} → (A → Required) → Option A → Option Required → Option Required
or_required form None other = other
or_required form (Some x) other = Some (form x)

-- what a name stands for where no scope has it
abbrev pub required_of : List ℕ → Option Required
required_of name =
    or_required is.Constant (look_up required_constants name)
    (or_required is.«Type» (look_up required_types name)
    (or_required is.Function (look_up required_functions name) (or_required is.Procedure
    (look_up required_procedures name) None)))
