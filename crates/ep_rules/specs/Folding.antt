-- What is known of a typed form as a constant, by the operations that a run has (ISO 10206, 6.8.2).
use Rattle.std.specs.Prelude.{◌≡◌, ℕ, ℤ, pos, List, [], length, Option, Some, None, Result, Ok, Err, if◌then◌else◌}
use Rattle.ep_values.specs.Operations.{Answer, Number, Fault, is_integer, decides, unary_answer, binary_answer}
use Rattle.ep_values.specs.Operations.{step_answer}
use Rattle.ep_values.specs.Printing as run
use Rattle.ep_values.specs.Sets.{union, with_number, with_numbers}
use Rattle.ep_values.specs.SetOperations.{set_answer}
use Rattle.ep_typed.specs.Trees.{Expr, Constant, Text, Read, One, Two, Short, Step, Function, IndexedValue, FieldValue}
use Rattle.ep_typed.specs.Trees.{VariantValue, Structured, SetConstant, SetOf, OnSets, Card, Designator, Single, Range}
use Rattle.ep_typed.specs.Trees.{Designators, no_member, next_member}
use Rattle.ep_values.specs.declared.operations.ShortOperation.{ShortOperation}
use Rattle.ep_rules.specs.declared.folding.Folded.{Folded}
use Rattle.ep_rules.specs.declared.folding.Folded.TheVariants.{Known, Varies, Errs}
use Rattle.ep_rules.specs.declared.folding.KnownValue.{KnownValue}
use Rattle.ep_rules.specs.declared.folding.KnownValue.TheVariants as known

-- what is known, as a run has it
abbrev pub result_of : KnownValue → run.Result
result_of (known.Number z) = run.Number z
result_of (known.Members ms) = run.Members ms

-- the number that is known; a set is none
abbrev pub number_in : KnownValue → ℤ
number_in x = run.number_of (result_of x)

-- the members of the set that is known; a number has none
abbrev pub members_in : KnownValue → List ℕ
members_in x = run.members_of (result_of x)

-- what a run would have is known, where it is a number or a set
abbrev pub as_known : run.Result → Folded
as_known (run.Number z) = Known (known.Number z)
as_known (run.Members ms) = Known (known.Members ms)
as_known _ = Errs

-- the number; one that is no integer is none of any form that the rules accept
abbrev pub answered : Answer → Folded
answered (Number z) = if is_integer z then Known (known.Number z) else Errs
answered (Fault error) = Errs

-- the set of members, where each may be one
abbrev pub set_found : Option (List ℕ) → Folded
set_found (Some ms) = Known (known.Members ms)
set_found None = Errs

abbrev pub one_folded : (KnownValue → Folded) → Folded → Folded
one_folded f (Known x) = f x
one_folded f Varies = Varies
one_folded f Errs = Errs

-- where one of two parts varies, so does the whole
abbrev pub two_folded : (KnownValue → KnownValue → Folded) → Folded → Folded → Folded
two_folded f (Known x) (Known y) = f x y
two_folded f (Known x) Varies = Varies
two_folded f (Known x) Errs = Errs
two_folded f Varies right = Varies
two_folded f Errs (Known y) = Errs
two_folded f Errs Varies = Varies
two_folded f Errs Errs = Errs

-- where the left number decides, an error of the right operand counts for nothing; a variable in it does
abbrev pub short_folded : ShortOperation → Folded → Folded → Folded
short_folded operation (Known x) (Known y) = Known (if decides operation (number_in x) then x else y)
short_folded operation (Known x) Varies = Varies
short_folded operation (Known x) Errs = if decides operation (number_in x) then Known x else Errs
short_folded operation Varies right = Varies
short_folded operation Errs (Known y) = Errs
short_folded operation Errs Varies = Varies
short_folded operation Errs Errs = Errs

abbrev pub one_number : (ℤ → Answer) → Folded → Folded
one_number f x = one_folded (λ a. answered (f (number_in a))) x

abbrev pub two_numbers : (ℤ → ℤ → Answer) → Folded → Folded → Folded
two_numbers f x y = two_folded (λ a b. answered (f (number_in a) (number_in b))) x y

-- the set of what is in one of two
abbrev pub joined : Folded → Folded → Folded
joined x y = two_folded (λ a b. Known (known.Members (union (members_in a) (members_in b)))) x y

-- how many members there are
abbrev pub counted : Folded → Folded
counted x = one_folded (λ a. Known (known.Number (pos (length (members_in a))))) x

-- what one value is, as a member; one that may be none is an error
abbrev pub single_folded : Folded → Folded
single_folded x = one_folded (λ a. set_found (with_number (number_in a) [])) x

-- alike the values from one to another
abbrev pub range_folded : Folded → Folded → Folded
range_folded x y = two_folded (λ a b. set_found (with_numbers (number_in a) (number_in b) [])) x y

abbrev mutual
  -- a number or a set, that a variable is read or a function called, or that there would be an error
  pub folded : Expr → Folded
  folded (Constant z) = Known (known.Number z)
  folded (Text bytes) = Errs
  folded (Read place) = Varies
  folded (One operation x) = one_number (unary_answer operation) (folded x)
  folded (Two operation x y) = two_numbers (binary_answer operation) (folded x) (folded y)
  folded (Short operation x y) = short_folded operation (folded x) (folded y)
  folded (Step down low high x count) = two_numbers (step_answer down low high) (folded x) (folded count)
  folded (Function callee given) = Varies
  folded (IndexedValue array index) = Varies
  folded (FieldValue whole number) = Varies
  folded (VariantValue whole selection number) = Varies
  folded (Structured number es) = Varies
  folded (SetConstant members) = Known (known.Members members)
  folded (SetOf members) = folded_members (Known (known.Members [])) members
  folded (OnSets operation x y) =
      two_folded (λ a b. as_known (set_answer operation (result_of a) (result_of b))) (folded x) (folded y)
  folded (Card x) = counted (folded x)

  -- the set of what a designator gives
  pub folded_member : Designator → Folded
  folded_member (Single x) = single_folded (folded x)
  folded_member (Range x y) = range_folded (folded x) (folded y)

  -- the set of what designators give besides what is found of those before
  pub folded_members : Folded → Designators → Folded
  folded_members found no_member = found
  folded_members found (next_member d more) = folded_members (joined found (folded_member d)) more

-- two values, or what is known of a form of the two
abbrev pub AnswersPair : Folded → Folded → Result (KnownValue × KnownValue) Folded → Type 0
AnswersPair left right (Ok p) = (left ≡ Known p.0) × (right ≡ Known p.1)
AnswersPair left right (Err other) = (f : KnownValue → KnownValue → Folded) → two_folded f left right ≡ other
