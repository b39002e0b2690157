-- What `for` statements are made of (ISO 10206, 6.9.3.9.2 and 6.9.3.9.3).
use Rattle.std.specs.Prelude.{pos, if◌then◌else◌}
use Rattle.ep_typed.specs.Trees.{Control, MemberControl, entire, Expr, Constant, Read, One, Two, Step, SetOf, OnSets}
use Rattle.ep_typed.specs.Trees.{Single, no_member, next_member}
use Rattle.ep_values.specs.declared.operations.Unary.TheVariants as unary
use Rattle.ep_values.specs.declared.operations.Binary.TheVariants as binary
use Rattle.ep_values.specs.declared.operations.SetOperation.TheVariants as set_operation

-- whether there is a turn: the initial value is not behind the final one
abbrev pub in_order : Control → Expr
in_order c = Two (if c.falls then binary.AtLeast else binary.AtMost) (Read (entire c.initial)) (Read (entire c.last))

-- the next value of the control variable, which is `succ` or `pred` of the one that it has
abbrev pub next_value : Control → Expr
next_value c = Step c.falls c.low c.high (Read (entire c.variable)) (Constant (pos 1))

-- whether members are still to come
abbrev pub has_more : MemberControl → Expr
has_more c = OnSets set_operation.Unequal (Read (entire c.rest)) (SetOf no_member)

-- those of them that are another one than the control variable has
abbrev pub others : MemberControl → Expr
others c =
    OnSets set_operation.Difference (Read (entire c.rest))
    (SetOf (next_member (Single (One unary.Same (Read (entire c.variable)))) no_member))
