-- Which instructions are the code of a statement, under given tables of texts and references. Jumps name places of
-- the object, so the code of a statement depends on where it begins.
use Rattle.std.specs.Prelude.{◌≡◌, ℕ, pos, suc, ◌+◌, Bool, true, false, List, [], ◌∷◌, ◌++◌, length, Option, Some}
use Rattle.std.specs.Prelude.{None, ◌*◌}
use Rattle.ep_values.specs.declared.operations.Binary.TheVariants as binary
use Rattle.ep_meaning.specs.Controls.{has_more, in_order, next_value, others}
use Rattle.ep_gen_code.specs.Instructions.{◌▸◌, instr, bare, push}
use Rattle.ep_gen_expr.specs.ExprCode.{two_code, standard_code, tests_code, IsPlaceCode, IsExprCode}
use Rattle.ep_gen_code.specs.declared.code.TheConstants as code
use Rattle.ep_gen_unit.specs.TagCode.{IsTriedCode, IsChangeCode, IsTakenCode, selected_code, selected_length}
use Rattle.ep_gen_type.specs.TypeCode.{type_code}
use Rattle.ep_object.specs.declared.code.Instr.{Instr}
use Rattle.ep_object.specs.declared.code.Reference.{Reference}
use Rattle.ep_typed.specs.Trees.{Place, Expr, Read, Function, Item, Plain, Wide, Stmt, Stmts, Empty, Compound, Assign}
use Rattle.ep_typed.specs.Trees.{AssignTag, If, While, Repeat, Control, For, MemberControl, ForIn, With, Procedure}
use Rattle.ep_typed.specs.Trees.{Halt, Write, none, next, Case, Arms, no_arm, next_arm, Other, no_other, otherwise_do}
use Rattle.ep_typed.specs.Trees.{Entire, OfUnit, OfRoutine, WithRecord, entire}
use Rattle.ep_typed.specs.Denoters.{host_of}
use Rattle.ep_typed.specs.Hosts.{Host}
use Rattle.ep_typed.specs.Viewed.{denoter_of}
use Rattle.ep_values.specs.declared.operations.Print.{Print}
use Rattle.ep_values.specs.declared.operations.Print.TheVariants as print
use Rattle.ep_values.specs.declared.run_error.TheConstants as run_error
use Rattle.ep_typed.specs.declared.tree.StandardFile.TheVariants as file
use Rattle.ep_typed.specs.declared.unit.UnitType.{UnitType}
use Rattle.ep_typed.specs.declared.interface.Formal.{Formal}
use Rattle.ep_typed.specs.declared.interface.FormalMode.{FormalMode}
use Rattle.ep_typed.specs.declared.interface.FormalMode.TheVariants as mode
use Rattle.ep_typed.specs.declared.interface.RoutineResult.{RoutineResult}
use Rattle.ep_typed.specs.declared.unit.UnitVariable.{UnitVariable}
use Rattle.ep_object.specs.declared.op.TheConstants as op
use Rattle.ep_gen_unit.specs.declared.items.TheConstants as constant

module _ (line : ℕ) where
  -- the place of `output`
  abbrev pub output_code : Instr
  output_code = standard_code line file.Output

  -- after a value: the text that is written of it
  abbrev pub plain_code : Print → List Instr
  plain_code print.Integer = instr op.FORM constant.FORM_INTEGER 0 line ∷ []
  plain_code print.Char = bare line op.CHARS ∷ []
  plain_code print.Boolean = instr op.FORM constant.FORM_BOOLEAN 0 line ∷ []
  plain_code print.Text = []

  -- after a value and before its width: a char is made a text
  abbrev pub before_width : Print → List Instr
  before_width print.Integer = []
  before_width print.Char = bare line op.CHARS ∷ []
  before_width print.Boolean = []
  before_width print.Text = []

  -- after a value and its width: the text that is written
  abbrev pub wide_code : Print → Instr
  wide_code print.Integer = instr op.FORM constant.FORM_INTEGER 1 line
  wide_code print.Char = instr op.FORM constant.FORM_TEXT 1 line
  wide_code print.Boolean = instr op.FORM constant.FORM_BOOLEAN 1 line
  wide_code print.Text = instr op.FORM constant.FORM_TEXT 1 line

  -- the line end
  abbrev pub line_end_code : List Instr
  line_end_code = output_code ∷ push line constant.LINE_END ∷ bare line op.CHARS ∷ bare line op.PUT ∷ []

-- the slot of an entire variable of the block, which has its number
abbrev pub slot_of : Entire → ℕ
slot_of (OfUnit unit number) = number
slot_of (OfRoutine levels number) = number

-- The code of a `for` that begins at this place, by its parts: what is before the turns, the first value, the body,
-- the test behind it, the next value, and the end.
abbrev pub for_code : ℕ → ℕ → List Instr → List Instr → List Instr → List Instr → List Instr → List Instr → List Instr
for_code line at bounds first body test step ends =
    let body_at = at ▸ bounds + 1 ▸ first in
    let done = body_at ▸ body ▸ test + 1 ▸ step + 1 in
    bounds ++ instr op.JUMP_FALSE (pos (done + 1)) 0 line
    ∷ (first
    ++ (body ++ (test ++ instr op.JUMP_FALSE (pos done) 0 line
    ∷ (step ++ instr op.JUMP (pos body_at) 0 line ∷ bare line op.DROP ∷ ends))))

-- The code of a `for` over members that begins at this place, by its parts: the set; whether members are to come; the
-- least one, what is to come after it, the body, which what is to come is stored behind, and the jump back; and the
-- end.
abbrev pub for_in_code : ℕ → ℕ → List Instr → List Instr → List Instr → List Instr → List Instr → List Instr
    → List Instr
for_in_code line at sets test first kept body ends =
    let done = at ▸ sets ▸ test + 1 ▸ first ▸ kept ▸ body + 1 + 1 in
    sets ++ ((test ++ instr op.JUMP_FALSE (pos done) 0 line
    ∷ ((first ++ (kept ++ (body ++ bare line op.STORE ∷ []))) ++ instr op.JUMP (pos (at ▸ sets)) 0 line ∷ [])) ++ ends)

module _ (texts : List (List ℕ)) (references : List Reference) where
  -- the code that writes an item, which has this line and begins at this place
  abbrev pub IsItemCode : ℕ → ℕ → Item → List Instr → Type 0
  IsItemCode line at (Plain print x) is =
      (xs : List Instr) × IsExprCode texts references line (at + 1) x xs
      × (is ≡ output_code line ∷ (xs ++ (plain_code line print ++ bare line op.PUT ∷ [])))
  IsItemCode line at (Wide print x w) is =
      (xs ws : List Instr) × IsExprCode texts references line (at + 1) x xs
      × IsExprCode texts references line (at + 1 ▸ xs ▸ before_width line print) w ws
      × (is ≡ output_code line
      ∷ (xs ++ (before_width line print ++ (ws ++ wide_code line print ∷ bare line op.PUT ∷ []))))

  -- the code that writes items, and then a line end where there is one
  abbrev pub AreItemsCode : ℕ → ℕ → List Item → Bool → List Instr → Type 0
  AreItemsCode line at [] false is = is ≡ []
  AreItemsCode line at [] true is = is ≡ line_end_code line
  AreItemsCode line at (i ∷ items) ends_line is =
      (xs ys : List Instr) × IsItemCode line at i xs × AreItemsCode line (at ▸ xs) items ends_line ys
      × (is ≡ xs ++ ys)

  -- the code of an assignment
  abbrev pub IsAssignCode : ℕ → ℕ → Place → Expr → List Instr → Type 0
  IsAssignCode line at p x is =
      (ps xs : List Instr) × IsPlaceCode texts references line at p ps
      × IsExprCode texts references line (at ▸ ps) x xs × (is ≡ ps ++ (xs ++ bare line op.STORE ∷ []))

  -- The code of a `for` before its turns: the auxiliary variables get the bounds, and whether there is a turn is on
  -- top.
  abbrev pub AreBoundsCode : ℕ → ℕ → Control → Expr → Expr → List Instr → Type 0
  AreBoundsCode line at c x y is =
      (xs ys ts : List Instr) × IsAssignCode line at (entire c.initial) x xs
      × IsAssignCode line (at ▸ xs) (entire c.last) y ys
      × IsExprCode texts references line (at ▸ xs ▸ ys) (in_order c) ts × (is ≡ xs ++ (ys ++ ts))

  -- The final value, which stays on the operands while there are turns; and the control variable gets the final value,
  -- by which both bounds are tried, and then the initial one.
  abbrev pub IsFirstCode : ℕ → ℕ → Control → List Instr → Type 0
  IsFirstCode line at c is =
      (bs ls fs : List Instr) × IsExprCode texts references line at (Read (entire c.last)) bs
      × IsAssignCode line (at ▸ bs) (entire c.variable) (Read (entire c.last)) ls
      × IsAssignCode line (at ▸ bs ▸ ls) (entire c.variable) (Read (entire c.initial)) fs
      × (is ≡ bs ++ (ls ++ fs))

  -- over the final value: whether the control variable has another one
  abbrev pub IsTestCode : ℕ → ℕ → Control → List Instr → Type 0
  IsTestCode line at c is =
      (rs : List Instr) × IsExprCode texts references line (at + 1) (Read (entire c.variable)) rs
      × (is ≡ bare line op.DUP ∷ (rs ++ two_code line binary.Unequal ∷ []))

  -- the variable becomes undefined
  abbrev pub IsUndefineCode : ℕ → ℕ → Entire → List Instr → Type 0
  IsUndefineCode line at v is =
      (ps : List Instr) × IsPlaceCode texts references line at (entire v) ps × (is ≡ ps ++ bare line op.UNDEFINE ∷ [])

  -- the control variable gets the least member that is to come
  abbrev pub IsLeastCode : ℕ → ℕ → MemberControl → List Instr → Type 0
  IsLeastCode line at c is =
      (vs rs : List Instr) × IsPlaceCode texts references line at (entire c.variable) vs
      × IsExprCode texts references line (at ▸ vs + 1) (Read (entire c.rest)) rs
      × (is ≡ vs ++ push line (pos 0) ∷ (rs ++ bare line op.NEXT ∷ bare line op.STORE ∷ []))

  -- the place of the auxiliary variable, and the members that are to come behind that one
  abbrev pub IsKeptCode : ℕ → ℕ → MemberControl → List Instr → Type 0
  IsKeptCode line at c is =
      (vs xs : List Instr) × IsPlaceCode texts references line at (entire c.rest) vs
      × IsExprCode texts references line (at ▸ vs) (others c) xs × (is ≡ vs ++ xs)

  -- a record that a `with` opens: the place, which goes into the slot of the variable that stands for it
  abbrev pub IsBindCode : ℕ → ℕ → Entire → Place → List Instr → Type 0
  IsBindCode line at v p is =
      (ps : List Instr) × IsPlaceCode texts references line at p ps
      × (is ≡ ps ++ instr op.BIND (pos (slot_of v)) 0 line ∷ [])

  -- the beginning of a `with` of several records
  abbrev pub AreBindsCode : ℕ → ℕ → List WithRecord → List Instr → Type 0
  AreBindsCode line at [] is = is ≡ []
  AreBindsCode line at (r ∷ more) is =
      (xs ys : List Instr) × IsBindCode line at r.variable r.place xs × AreBindsCode line (at ▸ xs) more ys
      × (is ≡ xs ++ ys)

  abbrev mutual
    -- the code of a statement that begins at this place
    pub IsStmtCode : ℕ → Stmt → List Instr → Type 0
    IsStmtCode at Empty is = is ≡ []
    IsStmtCode at (Compound ss) is = AreStmtsCode at ss is
    IsStmtCode at (Assign line p x) is = IsAssignCode line at p x is
    -- the record, whose place stays; the value; the trial of it; the number of the variant that was selected; the
    -- change of the
    -- variant; and the tag
    IsStmtCode at (AssignTag line c p s x) is =
        (rs vs ts cs ls : List Instr) × IsPlaceCode texts references line at p rs
        × IsAssignCode line (at ▸ rs) (entire c.value) x vs
        × IsTriedCode texts references line (at ▸ rs ▸ vs) c s ts
        × IsChangeCode texts references line (at ▸ rs ▸ vs ▸ ts + selected_length s) c s cs
        × IsTakenCode texts references line (at ▸ rs ▸ vs ▸ ts + selected_length s ▸ cs) c s ls
        × (is ≡ rs ++ (vs ++ (ts ++ (selected_code line (at ▸ rs ▸ vs ▸ ts) s ++ (cs ++ ls)))))
    IsStmtCode at (If line x a b) is =
        (xs ys zs : List Instr) × IsExprCode texts references line at x xs × IsStmtCode (at ▸ xs + 1) a ys
        × IsStmtCode (at ▸ xs + 1 ▸ ys + 1) b zs
        × (is ≡ xs ++ instr op.JUMP_FALSE (pos (at ▸ xs + 1 ▸ ys + 1)) 0 line
        ∷ (ys ++ instr op.JUMP (pos (at ▸ xs + 1 ▸ ys + 1 ▸ zs)) 0 line ∷ zs))
    IsStmtCode at (While line x s) is =
        (xs ys : List Instr) × IsExprCode texts references line at x xs × IsStmtCode (at ▸ xs + 1) s ys
        × (is ≡ xs ++ instr op.JUMP_FALSE (pos (at ▸ xs + 1 ▸ ys + 1)) 0 line
        ∷ (ys ++ instr op.JUMP (pos at) 0 line ∷ []))
    IsStmtCode at (Repeat line ss x) is =
        (ys xs : List Instr) × AreStmtsCode at ss ys × IsExprCode texts references line (at ▸ ys) x xs
        × (is ≡ ys ++ (xs ++ instr op.JUMP_FALSE (pos at) 0 line ∷ []))
    IsStmtCode at (For line c x y s) is =
        (bounds first body test step ends : List Instr) × AreBoundsCode line at c x y bounds
        × IsFirstCode line (at ▸ bounds + 1) c first
        × IsStmtCode (at ▸ bounds + 1 ▸ first) s body
        × IsTestCode line (at ▸ bounds + 1 ▸ first ▸ body) c test
        × IsAssignCode line (at ▸ bounds + 1 ▸ first ▸ body ▸ test + 1) (entire c.variable) (next_value c) step
        × IsUndefineCode line (at ▸ bounds + 1 ▸ first ▸ body ▸ test + 1 ▸ step + 1 + 1) c.variable ends
        × (is ≡ for_code line at bounds first body test step ends)
    IsStmtCode at (ForIn line c x s) is =
        (sets test first kept body ends : List Instr) × IsAssignCode line at (entire c.rest) x sets
        × IsExprCode texts references line (at ▸ sets) (has_more c) test
        × IsLeastCode line (at ▸ sets ▸ test + 1) c first
        × IsKeptCode line (at ▸ sets ▸ test + 1 ▸ first) c kept
        × IsStmtCode (at ▸ sets ▸ test + 1 ▸ first ▸ kept) s body
        × IsUndefineCode line (at ▸ sets ▸ test + 1 ▸ first ▸ kept ▸ body + 1 + 1) c.variable ends
        × (is ≡ for_in_code line at sets test first kept body ends)
    IsStmtCode at (With line v of p s) is =
        (xs ys : List Instr) × IsBindCode line at v p xs × IsStmtCode (at ▸ xs) s ys × (is ≡ xs ++ ys)
    -- that of a function designator: the jump behind the call has the tick for the step that the statement spends when
    -- the call is done
    IsStmtCode at (Procedure line callee given) is = IsExprCode texts references line at (Function callee given) is
    IsStmtCode at (Case line x arms o) is =
        (xs ys zs : List Instr) × IsExprCode texts references line at x xs
        × AreArmsCode line (at ▸ xs + 1) (at ▸ xs + 2) arms ys
        × IsOtherCode line (at ▸ xs + 2 ▸ ys) o zs
        × (is ≡ xs ++ instr op.JUMP (pos (at ▸ xs + 2)) 0 line ∷ instr op.JUMP (pos (at ▸ xs + 2 ▸ ys ▸ zs)) 0 line
        ∷ (ys ++ zs))
    IsStmtCode at (Halt line) is = is ≡ bare line op.HALT ∷ []
    IsStmtCode at (Write line items ends_line) is = AreItemsCode line at items ends_line is

    pub AreStmtsCode : ℕ → Stmts → List Instr → Type 0
    AreStmtsCode at none is = is ≡ []
    AreStmtsCode at (next s ss) is =
        (xs ys : List Instr) × IsStmtCode at s xs × AreStmtsCode (at ▸ xs) ss ys × (is ≡ xs ++ ys)

    -- The code of the arms of a `case`, with the value of the selector on top: the tests of an arm, the jump over its
    -- statement, that statement without the value, and the jump to the place from which the `case` is left.
    pub AreArmsCode : ℕ → ℕ → ℕ → Arms → List Instr → Type 0
    AreArmsCode line leave at no_arm is = is ≡ []
    AreArmsCode line leave at (next_arm ranges s arms) is =
        (ss rest : List Instr) × IsStmtCode (at + 6 * length ranges + 2) s ss
        × AreArmsCode line leave (at + 6 * length ranges + 2 ▸ ss + 1) arms rest
        × (is ≡ tests_code line (at + 6 * length ranges + 1) at ranges
        ++ instr op.JUMP (pos (at + 6 * length ranges + 2 ▸ ss + 1)) 0 line ∷ bare line op.DROP
        ∷ (ss ++ instr op.JUMP (pos leave) 0 line ∷ rest))

    -- what a `case` does where no range has the value of the selector, which is on top
    pub IsOtherCode : ℕ → ℕ → Other → List Instr → Type 0
    IsOtherCode line at no_other is = is ≡ instr op.FAIL (pos run_error.NO_CASE) 0 line ∷ []
    IsOtherCode line at (otherwise_do ss) is =
        (ys : List Instr) × AreStmtsCode (at + 1) ss ys × (is ≡ bare line op.DROP ∷ ys)

-- the code that makes a variable in a slot
abbrev pub make_code : ℕ → UnitVariable → List Instr
make_code number v = type_code v.line (denoter_of v.denoter) ++ instr op.MAKE (pos number) 0 v.line ∷ []

-- the code that makes the variables from this number on
abbrev pub make_all_code : ℕ → List UnitVariable → List Instr
make_all_code number [] = []
make_all_code number (v ∷ vs) = make_code number v ++ make_all_code (suc number) vs

abbrev pub value_code : ℕ → ℕ → Formal → List Instr
value_code line number f =
    type_code line (denoter_of f.denoter) ++ instr op.MAKE (pos number) 0 line ∷ instr op.SLOT (pos number) 0 line
    ∷ instr op.ARG (pos number) 0 line ∷ bare line op.STORE ∷ []

abbrev pub place_taken : ℕ → ℕ → List Instr
place_taken line number = instr op.ARG (pos number) 0 line ∷ instr op.BIND (pos number) 0 line ∷ []

-- The code by which a formal parameter takes its argument, as the variable of this number of a
-- routine that is declared on this line: a value is stored in a variable that is made, and a place goes into the slot.
abbrev pub take_code : ℕ → ℕ → FormalMode → Formal → List Instr
take_code line number mode.Value f = value_code line number f
take_code line number mode.ProtectedValue f = value_code line number f
take_code line number mode.Variable f = place_taken line number
take_code line number mode.ProtectedVariable f = place_taken line number

-- formal parameters, from this number on
abbrev pub take_all_code : ℕ → ℕ → List Formal → List Instr
take_all_code line number [] = []
take_all_code line number (f ∷ fs) = take_code line number f.mode f ++ take_all_code line (suc number) fs

-- the instruction that leaves a routine, which no statement asks for
abbrev pub return_code : Instr
return_code = bare code.NO_LINE op.RETURN

-- The end of a function that is declared on this line, which begins at this place: it leaves the value of the variable
-- of
-- this number, or ends with an error where that is undefined.
abbrev pub result_code : ℕ → ℕ → ℕ → List Instr
result_code line number at =
    instr op.SLOT (pos number) 0 line ∷ bare line op.DUP ∷ bare line op.DEFINED
    ∷ instr op.JUMP_FALSE (pos (at + 6)) 0 line ∷ bare line op.LOAD ∷ bare line op.RETURN
    ∷ instr op.FAIL (pos run_error.RESULT_UNDEFINED) 0 line ∷ []

-- the same of a function whose result is an array or a record, which it leaves with its components as they are, or a
-- set
abbrev pub structure_code : ℕ → ℕ → List Instr
structure_code line number = instr op.SLOT (pos number) 0 line ∷ bare line op.LOAD ∷ bare line op.RETURN ∷ []

-- the end of a function, by the host of its result, which an array, a record or a set has not
abbrev pub function_end : Option Host → ℕ → ℕ → ℕ → List Instr
function_end None line number at = structure_code line number
function_end (Some h) line number at = result_code line number at

-- the end of a routine of a unit with these types, where a function has its result in the variable of this number
abbrev pub end_code : List UnitType → ℕ → ℕ → ℕ → Option RoutineResult → List Instr
end_code types line number at None = return_code ∷ []
end_code types line number at (Some r) = function_end (host_of types (denoter_of r.denoter)) line number at
