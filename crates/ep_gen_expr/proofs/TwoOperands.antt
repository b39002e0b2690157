-- The machine follows the operations with two operands.
use Rattle.std.proofs.Common.{◌≡◌, ℕ, ℤ, ◌+◌, not, ◌&&◌, ◌||◌, IsTrue, List, [], ◌∷◌, arith}
use Rattle.ep_simulation.specs.Follows.{Facts}
use Rattle.std.specs.Prelude.{◌+ℤ◌, ◌-ℤ◌, ◌*ℤ◌, int_le, int_lt}
use Rattle.ep_simulation.specs.Layouts.{Layout}
use Rattle.ep_simulation.specs.Matching.{Slots, MachineMemory, Injection}
use Rattle.ep_object.specs.Operands.{Operand, Word}
use Rattle.ep_object.specs.Placing.{Placement, CodeStands}
use Rattle.ep_object.specs.Runs.{unit_in}
use Rattle.ep_object.specs.declared.code.Image.{Image}
use Rattle.ep_object.specs.declared.code.Reference.{Reference}
use Rattle.ep_simulation.proofs.public.following.Fragments.{fragment_to}
use Rattle.ep_simulation.proofs.public.rows.Rows.{RowAnswers, add_answers, sub_answers, mul_answers, div_answers, mod_answers, and_answers, or_answers, equal_answers, unequal_answers, less_answers, greater_answers, at_most_answers, at_least_answers}
use Rattle.ep_meaning.specs.Calls.{Handler}
use Rattle.ep_values.specs.Operations.{Number, is_same, is_true, ordinal_of, binary_answer}
use Rattle.ep_meaning.specs.Valid.{ValueKind, Ordinal, IsArithmetic, IsLogical, IsComparison, IsBinary}
use Rattle.ep_values.specs.declared.operations.Binary.{Binary}
use Rattle.ep_values.specs.declared.operations.Binary.TheVariants as binary
use Rattle.ep_typed.specs.Hosts.{Host, is_of_host}
use Rattle.ep_typed.specs.Hosts as host
use Rattle.ep_gen_expr.specs.ExprCode.{two_code}
use Rattle.ep_gen_expr.proofs.public.Answering.{Evaluates, answering, answer_follows}
use Rattle.ep_gen_expr.proofs.Hosts.{given, integer_answer, divided_answer, modulo_answer, ordinal_boolean}

module _ (layout : Layout) (G : Image) (untouched : Slots) (Here : Facts) (ps : List Placement) (p : Placement) (references : List Reference) (call : Handler) (g : ℕ) (unit : List ℕ) (line : ℕ) where
  -- from the values of both operands, the machine follows the operation to the end of its code
  abbrev Operates : ℕ → ℕ → Binary → Host → Host → Type 0
  Operates n at operation operand result =
      (x y : ℤ) → IsTrue (is_of_host operand x) → IsTrue (is_of_host operand y)
      → (injection : Injection) (memory : MachineMemory) (below : List Operand) (d : ℕ)
      → unit_in G memory.frames ≡ unit
      → Evaluates layout G untouched Here n injection memory (p.instructions.before + at) (Word y ∷ Word x ∷ below) (answering call g unit line (binary_answer operation x y)) (p.instructions.before + (at + 1)) (Ordinal result) below (d + 16) (d + 8)

  -- the same where the kinds of the operands and the result are those
  pub record BinaryFollows (n at : ℕ) (operation : Binary) (left right result_kind : ValueKind) : Type 0 where
    pub operand : Host
    pub result : Host
    pub left_is : left ≡ Ordinal operand
    pub right_is : right ≡ Ordinal operand
    pub result_is : result_kind ≡ Ordinal result
    pub follows : Operates n at operation operand result

  -- the instruction gives the answer
  abbrev Rows : ℕ → Binary → Host → Type 0
  Rows at operation operand = (x y : ℤ) (below : List Operand) → IsTrue (is_of_host operand x)
      → IsTrue (is_of_host operand y)
      → RowAnswers G (p.instructions.before + at) line (Word y ∷ Word x ∷ below) below (binary_answer operation x y)

  -- the answer is a value of the host
  abbrev Answers : Binary → Host → Host → Type 0
  Answers operation operand result = (x y w : ℤ) → IsTrue (is_of_host operand x) → IsTrue (is_of_host operand y)
      → binary_answer operation x y ≡ Number w → IsTrue (is_of_host result w)

  operates : (n at : ℕ) (operation : Binary) (operand result : Host) → Rows at operation operand
      → Answers operation operand result → Operates n at operation operand result
  operates n at operation operand result row answers x y of_x of_y injection memory below d unit_is =
      fragment_to (omega arith) (answer_follows call g unit line n (p.instructions.before + at) (Word y ∷ Word x ∷ below) below (binary_answer operation x y) (row x y below of_x of_y) result (λ w is. answers x y w of_x of_y is) injection memory (d + 16) (d + 8) unit_is (omega arith) (omega arith))

  arithmetic : (n at : ℕ) (operation : Binary) (left right result : ValueKind) → IsArithmetic left right result
      → Rows at operation host.Integer → Answers operation host.Integer host.Integer
      → BinaryFollows n at operation left right result
  arithmetic n at operation left right result (l, r, e) row answers =
      record { operand = host.Integer; result = host.Integer; left_is = l; right_is = r; result_is = e; follows = operates n at operation host.Integer host.Integer row answers }

  logical : (n at : ℕ) (operation : Binary) (left right result : ValueKind) → IsLogical left right result
      → Rows at operation host.Boolean → Answers operation host.Boolean host.Boolean
      → BinaryFollows n at operation left right result
  logical n at operation left right result (l, r, e) row answers =
      record { operand = host.Boolean; result = host.Boolean; left_is = l; right_is = r; result_is = e; follows = operates n at operation host.Boolean host.Boolean row answers }

  comparison : (n at : ℕ) (operation : Binary) (left right result : ValueKind) → IsComparison left right result
      → ((h : Host) → Rows at operation h) → ((h : Host) → Answers operation h host.Boolean)
      → BinaryFollows n at operation left right result
  comparison n at operation left right result (k, e) row answers =
      record { operand = k.0; result = host.Boolean; left_is = k.1; right_is = k.2; result_is = e; follows = operates n at operation k.0 host.Boolean (row k.0) (answers k.0) }

  pub binary_follows : (n at : ℕ) (operation : Binary) (left right result : ValueKind)
      → IsBinary operation left right result → CodeStands G ps p references at (two_code line operation ∷ [])
      → BinaryFollows n at operation left right result
  binary_follows n at binary.Add left right result kinds stands =
      arithmetic n at binary.Add left right result kinds (λ x y below of_x of_y. add_answers G (p.instructions.before + at) line below x y stands.0) (λ x y w of_x of_y is. integer_answer (x +ℤ y) w is)
  binary_follows n at binary.Subtract left right result kinds stands =
      arithmetic n at binary.Subtract left right result kinds (λ x y below of_x of_y. sub_answers G (p.instructions.before + at) line below x y stands.0) (λ x y w of_x of_y is. integer_answer (x -ℤ y) w is)
  binary_follows n at binary.Multiply left right result kinds stands =
      arithmetic n at binary.Multiply left right result kinds (λ x y below of_x of_y. mul_answers G (p.instructions.before + at) line below x y stands.0) (λ x y w of_x of_y is. integer_answer (x *ℤ y) w is)
  binary_follows n at binary.Divide left right result kinds stands =
      arithmetic n at binary.Divide left right result kinds (λ x y below of_x of_y. div_answers G (p.instructions.before + at) line below x y stands.0) (λ x y w of_x of_y is. divided_answer x y w is)
  binary_follows n at binary.Modulo left right result kinds stands =
      arithmetic n at binary.Modulo left right result kinds (λ x y below of_x of_y. mod_answers G (p.instructions.before + at) line below x y stands.0) (λ x y w of_x of_y is. modulo_answer x y w of_y is)
  binary_follows n at binary.And left right result kinds stands =
      logical n at binary.And left right result kinds (λ x y below of_x of_y. and_answers G (p.instructions.before + at) line below x y of_x of_y stands.0) (λ x y w of_x of_y is. given host.Boolean (ordinal_of (is_true x && is_true y)) w (ordinal_boolean (is_true x && is_true y)) is)
  binary_follows n at binary.Or left right result kinds stands =
      logical n at binary.Or left right result kinds (λ x y below of_x of_y. or_answers G (p.instructions.before + at) line below x y of_x of_y stands.0) (λ x y w of_x of_y is. given host.Boolean (ordinal_of (is_true x || is_true y)) w (ordinal_boolean (is_true x || is_true y)) is)
  binary_follows n at binary.Equal left right result kinds stands =
      comparison n at binary.Equal left right result kinds (λ h x y below of_x of_y. equal_answers G (p.instructions.before + at) line below x y stands.0) (λ h x y w of_x of_y is. given host.Boolean (ordinal_of (is_same x y)) w (ordinal_boolean (is_same x y)) is)
  binary_follows n at binary.Unequal left right result kinds stands =
      comparison n at binary.Unequal left right result kinds (λ h x y below of_x of_y. unequal_answers G (p.instructions.before + at) line below x y stands.0) (λ h x y w of_x of_y is. given host.Boolean (ordinal_of (not (is_same x y))) w (ordinal_boolean (not (is_same x y))) is)
  binary_follows n at binary.Less left right result kinds stands =
      comparison n at binary.Less left right result kinds (λ h x y below of_x of_y. less_answers G (p.instructions.before + at) line below x y stands.0) (λ h x y w of_x of_y is. given host.Boolean (ordinal_of (int_lt x y)) w (ordinal_boolean (int_lt x y)) is)
  binary_follows n at binary.Greater left right result kinds stands =
      comparison n at binary.Greater left right result kinds (λ h x y below of_x of_y. greater_answers G (p.instructions.before + at) line below x y stands.0) (λ h x y w of_x of_y is. given host.Boolean (ordinal_of (int_lt y x)) w (ordinal_boolean (int_lt y x)) is)
  binary_follows n at binary.AtMost left right result kinds stands =
      comparison n at binary.AtMost left right result kinds (λ h x y below of_x of_y. at_most_answers G (p.instructions.before + at) line below x y stands.0) (λ h x y w of_x of_y is. given host.Boolean (ordinal_of (int_le x y)) w (ordinal_boolean (int_le x y)) is)
  binary_follows n at binary.AtLeast left right result kinds stands =
      comparison n at binary.AtLeast left right result kinds (λ h x y below of_x of_y. at_least_answers G (p.instructions.before + at) line below x y stands.0) (λ h x y w of_x of_y is. given host.Boolean (ordinal_of (int_le y x)) w (ordinal_boolean (int_le y x)) is)
