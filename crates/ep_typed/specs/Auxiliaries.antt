-- The auxiliary variables of statements. A block with a `for` with bounds has two (ISO 10206, 6.9.3.9.2), of which an
-- assignment
-- to a tag (6.5.3.3) needs the first one, and one with a `for` over members has a set (6.9.3.9.3). All such statements
-- of the
-- block share them, and they are made behind the variables that it declares. Each `with` has one (ISO 10206,
-- 6.9.3.10), behind all of
-- those, in the order of the text; it is never made, but is the variable that is accessed, once that is found.
use Rattle.std.specs.Prelude.{codes, ℕ, pos, false, List, [], ◌∷◌, ◌++◌, Option, Some, None}
use Rattle.std.specs.Option.{option_or}
use Rattle.ep_typed.specs.Trees.{Stmt, Stmts, Empty, Compound, Assign, AssignTag, If, While, Repeat, For, ForIn, With}
use Rattle.ep_typed.specs.Trees.{Procedure, Halt, Write, none, next, Case, Arms, no_arm, next_arm, Other, no_other}
use Rattle.ep_typed.specs.Trees.{otherwise_do}
use Rattle.ep_values.specs.Sets.{last_member}
use Rattle.ep_typed.specs.declared.denoter.Bound.TheVariants as bound
use Rattle.ep_typed.specs.declared.denoter.Denoter.TheVariants as denoter
use Rattle.ep_typed.specs.declared.denoter.RequiredType.TheVariants as simple
use Rattle.ep_typed.specs.declared.unit.UnitVariable.{UnitVariable}

abbrev mutual
  -- the line of the first `for` with bounds or assignment to a tag in a statement, where it has one
  pub first_for : Stmt → Option ℕ
  first_for Empty = None
  first_for (Compound ss) = first_for_of ss
  first_for (Assign line p x) = None
  first_for (AssignTag line c p s x) = Some line
  first_for (If line x a b) = option_or (first_for a) (first_for b)
  first_for (While line x s) = first_for s
  first_for (Repeat line ss x) = first_for_of ss
  first_for (For line c x y s) = Some line
  first_for (ForIn line c x s) = first_for s
  first_for (With line v of p s) = first_for s
  first_for (Procedure line callee given) = None
  first_for (Case line x arms o) = option_or (first_for_arms arms) (first_for_other o)
  first_for (Halt line) = None
  first_for (Write line items ends_line) = None

  pub first_for_of : Stmts → Option ℕ
  first_for_of none = None
  first_for_of (next s ss) = option_or (first_for s) (first_for_of ss)

  pub first_for_arms : Arms → Option ℕ
  first_for_arms no_arm = None
  first_for_arms (next_arm ranges s arms) = option_or (first_for s) (first_for_arms arms)

  pub first_for_other : Other → Option ℕ
  first_for_other no_other = None
  first_for_other (otherwise_do ss) = first_for_of ss

-- an auxiliary variable, which is an integer, has the name of no other variable, and counts as declared on the line
abbrev pub auxiliary_variable : ℕ → UnitVariable
auxiliary_variable line =
    record {
      name = codes "for";
      line = line;
      declaration = 0;
      denoter = denoter.Required simple.Integer;
      tuple = [];
      parameter = false;
    }

-- those of a block whose first `for` with bounds or assignment to a tag is on this line, or which has none: the one of
-- the initial value, and that of the final one
abbrev pub auxiliary_variables : Option ℕ → List UnitVariable
auxiliary_variables None = []
auxiliary_variables (Some line) = auxiliary_variable line ∷ auxiliary_variable line ∷ []

abbrev mutual
  -- the line of the first `for` over members in a statement, where it has one
  pub first_for_in : Stmt → Option ℕ
  first_for_in Empty = None
  first_for_in (Compound ss) = first_for_in_of ss
  first_for_in (Assign line p x) = None
  first_for_in (AssignTag line c p s x) = None
  first_for_in (If line x a b) = option_or (first_for_in a) (first_for_in b)
  first_for_in (While line x s) = first_for_in s
  first_for_in (Repeat line ss x) = first_for_in_of ss
  first_for_in (For line c x y s) = first_for_in s
  first_for_in (ForIn line c x s) = Some line
  first_for_in (With line v of p s) = first_for_in s
  first_for_in (Procedure line callee given) = None
  first_for_in (Case line x arms o) = option_or (first_for_in_arms arms) (first_for_in_other o)
  first_for_in (Halt line) = None
  first_for_in (Write line items ends_line) = None

  pub first_for_in_of : Stmts → Option ℕ
  first_for_in_of none = None
  first_for_in_of (next s ss) = option_or (first_for_in s) (first_for_in_of ss)

  pub first_for_in_arms : Arms → Option ℕ
  first_for_in_arms no_arm = None
  first_for_in_arms (next_arm ranges s arms) = option_or (first_for_in s) (first_for_in_arms arms)

  pub first_for_in_other : Other → Option ℕ
  first_for_in_other no_other = None
  first_for_in_other (otherwise_do ss) = first_for_in_of ss

-- the auxiliary variable of members, a set of any ordinals that may be members, has the name of no other variable
abbrev pub member_variable : ℕ → UnitVariable
member_variable line =
    record {
      name = codes "in";
      line = line;
      declaration = 0;
      denoter =
          denoter.Set
          (denoter.Subrange (denoter.Required simple.Integer) (bound.Constant (pos 0))
          (bound.Constant (pos last_member)));
      tuple = [];
      parameter = false;
    }

-- that of a block whose first `for` over members is on this line, or which has none
abbrev pub member_variables : Option ℕ → List UnitVariable
member_variables None = []
member_variables (Some line) = member_variable line ∷ []

-- those of a block that are made: those of `for` with bounds and of assignments to tags, and the one of `for` over
-- members
abbrev pub block_auxiliaries : Stmt → List UnitVariable
block_auxiliaries s = auxiliary_variables (first_for s) ++ member_variables (first_for_in s)

-- The variable of a `with` on a line, for a variable of the record type of this number, has the name of no other one.
abbrev pub with_variable : ℕ → ℕ → UnitVariable
with_variable line of =
    record {
      name = codes "with";
      line = line;
      declaration = 0;
      denoter = denoter.Named of [];
      tuple = [];
      parameter = false;
    }

abbrev mutual
  -- those of the `with` statements in a statement, in the order of the text
  pub with_variables : Stmt → List UnitVariable
  with_variables Empty = []
  with_variables (Compound ss) = with_variables_of ss
  with_variables (Assign line p x) = []
  with_variables (AssignTag line c p s x) = []
  with_variables (If line x a b) = with_variables a ++ with_variables b
  with_variables (While line x s) = with_variables s
  with_variables (Repeat line ss x) = with_variables_of ss
  with_variables (For line c x y s) = with_variables s
  with_variables (ForIn line c x s) = with_variables s
  with_variables (With line v of p s) = with_variable line of ∷ with_variables s
  with_variables (Procedure line callee given) = []
  with_variables (Case line x arms o) = with_variables_in arms ++ with_variables_other o
  with_variables (Halt line) = []
  with_variables (Write line items ends_line) = []

  pub with_variables_of : Stmts → List UnitVariable
  with_variables_of none = []
  with_variables_of (next s ss) = with_variables s ++ with_variables_of ss

  pub with_variables_in : Arms → List UnitVariable
  with_variables_in no_arm = []
  with_variables_in (next_arm ranges s arms) = with_variables s ++ with_variables_in arms

  pub with_variables_other : Other → List UnitVariable
  with_variables_other no_other = []
  with_variables_other (otherwise_do ss) = with_variables_of ss
