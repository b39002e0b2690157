-- The references that the code of a unit begins with.
use Rattle.std.proofs.Common.{◌≡◌, ℕ, ◌+◌, ◌<◌, length, Some, slice_get, subst, arith}
use Rattle.ep_gen_code.proofs.public.Named.{named_at}
use Rattle.ep_gen_code.proofs.public.Pushed.{get_later}
use Rattle.ep_gen_code.specs.Instructions.{reference}
use Rattle.ep_gen_code.specs.Referring.{AreReferred, AreArraysReferred, IsSwapReferred, type_reference}
use Rattle.ep_gen_code.specs.declared.references.TheConstants as routine
use Rattle.ep_gen_unit.specs.UnitCode.{IsUnitCode}
use Rattle.ep_simulation.specs.Promises.{fill_routine, range_routine, spread_routine, swap_routine, type_routine}
use Rattle.ep_object.specs.declared.code.Object.{Object}
use Rattle.ep_meaning.specs.Valid.{Declarations}
use Rattle.ep_typed.specs.Routines.{first_private}
use Rattle.ep_typed.specs.declared.unit.Unit.{Unit as TypedUnit}

-- in the code of a program each of the first references is to one of the routines behind the stop
first_referred : (u : TypedUnit) (o : Object) → IsUnitCode u o → (k : ℕ) → k < type_reference (length u.types) → slice_get o.references k ≡ Some (reference u.name (swap_routine (first_private u) + k))
first_referred u o is k less = get_later k (reference u.name (swap_routine (first_private u) + k)) is.named (named_at u.name (swap_routine (first_private u)) (type_reference (length u.types)) k less)

-- those behind the first four are to those that elaborate types
pub types_referred : (declared : Declarations) (u : TypedUnit) (o : Object) → IsUnitCode u o → declared.first_private ≡ first_private u → AreReferred declared u.name u.types o.references
types_referred declared u o is many index less =
    subst (λ k. slice_get o.references (type_reference index) ≡ Some (reference u.name k)) {x = swap_routine (first_private u) + type_reference index} {y = type_routine declared.first_private index} (omega (arith, many))
    (first_referred u o is (type_reference index) (omega (arith, less)))

-- and these to those that structured values call
pub swap_referred : (declared : Declarations) (u : TypedUnit) (o : Object) → IsUnitCode u o → declared.first_private ≡ first_private u → IsSwapReferred declared u.name o.references
swap_referred declared u o is many =
    subst (λ k. slice_get o.references routine.SWAP ≡ Some (reference u.name k)) {x = swap_routine (first_private u) + routine.SWAP} {y = swap_routine declared.first_private} (omega (arith, many))
    (first_referred u o is routine.SWAP (omega arith))

pub arrays_referred : (declared : Declarations) (u : TypedUnit) (o : Object) → IsUnitCode u o → declared.first_private ≡ first_private u → AreArraysReferred declared u.name o.references
arrays_referred declared u o is many =
    record {
      fill = subst (λ k. slice_get o.references routine.FILL ≡ Some (reference u.name k)) {x = swap_routine (first_private u) + routine.FILL} {y = fill_routine declared.first_private} (omega (arith, many)) (first_referred u o is routine.FILL (omega arith));
      range = subst (λ k. slice_get o.references routine.RANGE ≡ Some (reference u.name k)) {x = swap_routine (first_private u) + routine.RANGE} {y = range_routine declared.first_private} (omega (arith, many)) (first_referred u o is routine.RANGE (omega arith));
      spread = subst (λ k. slice_get o.references routine.SPREAD ≡ Some (reference u.name k)) {x = swap_routine (first_private u) + routine.SPREAD} {y = spread_routine declared.first_private} (omega (arith, many)) (first_referred u o is routine.SPREAD (omega arith));
    }
