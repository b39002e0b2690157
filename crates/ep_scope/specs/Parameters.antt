-- Types by what brings them into being, and formal parameters.
use Rattle.std.specs.Prelude.{Bool, true, false, ◌==◌, ◌&&◌, List, [], ◌∷◌}
use Rattle.std.specs.Str.{bytes_eq}
use Rattle.ep_typed.specs.declared.denoter.RequiredType.{RequiredType}
use Rattle.ep_typed.specs.declared.denoter.RequiredType.TheVariants as simple
use Rattle.ep_typed.specs.declared.interface.FormalMode.{FormalMode}
use Rattle.ep_typed.specs.declared.interface.FormalMode.TheVariants as mode
use Rattle.ep_scope.specs.declared.parameter.FormalParameter.{FormalParameter}
use Rattle.ep_scope.specs.declared.parameter.Protection.{Protection}
use Rattle.ep_scope.specs.declared.parameter.Protection.TheVariants as protection
use Rattle.ep_scope.specs.declared.parameter.TypeName.{TypeName}
use Rattle.ep_scope.specs.declared.parameter.TypeName.TheVariants as type_name

abbrev pub same_required : RequiredType → RequiredType → Bool
same_required simple.Integer simple.Integer = true
same_required simple.Char simple.Char = true
same_required simple.Boolean simple.Boolean = true
same_required _ _ = false

-- one type: the same required one, or of one definition of the unit (ISO 10206, 6.4.1)
abbrev pub same_type : TypeName → TypeName → Bool
same_type (type_name.Required r) (type_name.Required s) = same_required r s
same_type (type_name.Entry m) (type_name.Entry n) = m == n
same_type _ _ = false

-- parameters are given alike (ISO 10206, 6.7.3.1)
abbrev pub same_mode : FormalMode → FormalMode → Bool
same_mode mode.Value mode.Value = true
same_mode mode.Variable mode.Variable = true
same_mode mode.ProtectedValue mode.ProtectedValue = true
same_mode mode.ProtectedVariable mode.ProtectedVariable = true
same_mode _ _ = false

-- the protection of a parameter that is given so
abbrev pub protection_of : FormalMode → Protection
protection_of mode.Value = protection.Unprotected
protection_of mode.Variable = protection.Unprotected
protection_of mode.ProtectedValue = protection.Protected
protection_of mode.ProtectedVariable = protection.Protected

-- one name, section and type, and given alike
abbrev pub same_parameter : FormalParameter → FormalParameter → Bool
same_parameter p q =
    bytes_eq p.name q.name && same_mode p.mode q.mode && p.section == q.section && same_type p.of.is q.of.is

-- as many, and the same one for one
abbrev pub same_parameters : List FormalParameter → List FormalParameter → Bool
same_parameters [] [] = true
same_parameters (p ∷ ps) (q ∷ qs) = same_parameter p q && same_parameters ps qs
same_parameters _ _ = false
