-- A type that is the same as another one.
use Rattle.std.proofs.Common.{◌≡◌, true, refl, ap, arith}
use Rattle.std.proofs.lemmas.Bool.Decides.{nat_tests}
use Rattle.ep_typed.specs.declared.denoter.RequiredType.{RequiredType}
use Rattle.ep_typed.specs.declared.denoter.RequiredType.TheVariants as simple
use Rattle.ep_scope.specs.Parameters.{same_required, same_type}
use Rattle.ep_scope.specs.declared.parameter.TypeName.{TypeName}
use Rattle.ep_scope.specs.declared.parameter.TypeName.TheVariants as type_name

required_same : (r s : RequiredType) → same_required r s ≡ true → r ≡ s
required_same simple.Integer simple.Integer e = refl
required_same simple.Char simple.Char e = refl
required_same simple.Boolean simple.Boolean e = refl
required_same simple.Integer simple.Char e = cc
required_same simple.Integer simple.Boolean e = cc
required_same simple.Char simple.Integer e = cc
required_same simple.Char simple.Boolean e = cc
required_same simple.Boolean simple.Integer e = cc
required_same simple.Boolean simple.Char e = cc

-- types that the test finds the same are one
pub type_same : (t u : TypeName) → same_type t u ≡ true → t ≡ u
type_same (type_name.Required r) (type_name.Required s) e = ap type_name.Required (required_same r s e)
type_same (type_name.Entry m) (type_name.Entry n) e = ap type_name.Entry (grind (arith, nat_tests))
type_same (type_name.Required r) (type_name.Entry n) e = cc
type_same (type_name.Entry m) (type_name.Required s) e = cc
