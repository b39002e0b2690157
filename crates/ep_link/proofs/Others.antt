-- The instructions that stay as they are.
use Rattle.std.proofs.Common.{◌≡◌, ◌≢◌, ℕ, zero, suc, ◌+◌, Bool, true, false, ◌&&◌, ◌||◌, ◌==◌, not, List, [], ◌∷◌}
use Rattle.std.proofs.Common.{Option, Some, slice_get, inl, inr, refl, sym, subst, arith}
use Rattle.std.proofs.lemmas.Bool.{cases_Bool}
use Rattle.std.proofs.lemmas.Bool.Decides.{nat_tests}
use Rattle.ep_object.specs.Table.{Op, ops, op_of, Text, Jump, JumpFalse, Call, Unit, TConst}
use Rattle.ep_object.specs.declared.code.Instr.{Instr}
use Rattle.ep_object.specs.declared.op.TheConstants as op
use Rattle.ep_link.specs.Instrs.{placed_op, placed_instr}
use Rattle.ep_link.specs.declared.placement.Placement.{Placement}
use Rattle.ep_link.specs.declared.target.Target.{Target}

-- the codes whose field is placed anew
abbrev is_placed : ℕ → Bool
is_placed code =
    code == op.TEXT || code == op.JUMP || code == op.JUMP_FALSE || code == op.CALL || code == op.UNIT
    || code == op.T_CONST

abbrev moves : Option Op → Bool
moves (Some Text) = true
moves (Some Jump) = true
moves (Some JumpFalse) = true
moves (Some Call) = true
moves (Some Unit) = true
moves (Some TConst) = true
moves _ = false

-- in a list of operations that begins at a code only those of these codes have such a field
abbrev fits : ℕ → List Op → Bool
fits code [] = true
fits code (o ∷ os) = (not (moves (Some o)) || is_placed code) && fits (suc code) os

both : (a b : Bool) → (a && b) ≡ true → (a ≡ true) × (b ≡ true)
both true b h = (refl, h)
both false b h = absurd cc

either : (a b : Bool) → (not a || b) ≡ true → a ≡ true → b ≡ true
either true b h e = h
either false b h e = absurd cc

fits_at : (code : ℕ) (os : List Op) → fits code os ≡ true → (n : ℕ) → moves (slice_get os n) ≡ true
    → is_placed (n + code) ≡ true
fits_at code [] h n m = absurd cc
fits_at code (o ∷ os) h zero m =
    let p = both (not (moves (Some o)) || is_placed code) (fits (suc code) os) h in
    let same : code ≡ zero + code = omega arith in
    subst (λ (k : ℕ). is_placed k ≡ true) same (either (moves (Some o)) (is_placed code) p.0 m)
fits_at code (o ∷ os) h (suc n) m =
    let p = both (not (moves (Some o)) || is_placed code) (fits (suc code) os) h in
    let same : n + suc code ≡ suc n + code = omega arith in
    subst (λ (k : ℕ). is_placed k ≡ true) same (fits_at (suc code) os p.1 n m)

stays : (p : Placement) (targets : List Target) (o : Option Op) (i : Instr) → moves o ≡ false
    → placed_op p targets o i ≡ i
stays p targets (Some Text) i h = absurd cc
stays p targets (Some Jump) i h = absurd cc
stays p targets (Some JumpFalse) i h = absurd cc
stays p targets (Some Call) i h = absurd cc
stays p targets (Some Unit) i h = absurd cc
stays p targets (Some TConst) i h = absurd cc
stays p targets _ i h = refl

-- none of the codes
not_placed : (n : ℕ)
    → n ≢ op.TEXT → n ≢ op.JUMP → n ≢ op.JUMP_FALSE → n ≢ op.CALL → n ≢ op.UNIT → n ≢ op.T_CONST → is_placed n ≡ false
not_placed n a b c d e f =
    let a1 : (n == op.TEXT) ≡ false = grind (arith, nat_tests) in
    let b1 : (n == op.JUMP) ≡ false = grind (arith, nat_tests) in
    let c1 : (n == op.JUMP_FALSE) ≡ false = grind (arith, nat_tests) in
    let d1 : (n == op.CALL) ≡ false = grind (arith, nat_tests) in
    let e1 : (n == op.UNIT) ≡ false = grind (arith, nat_tests) in
    let f1 : (n == op.T_CONST) ≡ false = grind (arith, nat_tests) in
    rw (a1, b1, c1, d1, e1, f1) refl

-- an instruction of any other code stays as it is
pub placed-other : (p : Placement) (targets : List Target) (i : Instr)
    → i.op ≢ op.TEXT → i.op ≢ op.JUMP → i.op ≢ op.JUMP_FALSE → i.op ≢ op.CALL → i.op ≢ op.UNIT → i.op ≢ op.T_CONST
    → i ≡ placed_instr p targets i
placed-other p targets i a b c d e f =
    let none : is_placed i.op ≡ false = not_placed i.op a b c d e f in
    elim (cases_Bool (moves (op_of i.op))) [
      | inl m ↦
          let one : is_placed (i.op + 0) ≡ true = fits_at 0 ops refl i.op m in
          let two : i.op + 0 ≡ i.op = omega arith in
          absurd cc
      | inr m ↦ sym (stays p targets (op_of i.op) i m)
    ]
