-- What holds of every state that an instruction leaves, where it holds after each change that an instruction makes.
use Rattle.std.proofs.Common.{◌≡◌, ℕ, ℤ, List, [], ◌∷◌, length, refl, Option, Some, None, Bool, true, false, cond, ltb, unsigned_abs}
use Rattle.ep_object.specs.Effects.{Effect, Continues, Jumps, Returns, Fails, Halts, Breaks, Work, mapped, mapped_work, having, having_weighed, provided, provided_weighed, only_a_weighed, has_no_field, has_one_field, index}
use Rattle.ep_object.specs.Calls.{call_limit, parent_by, top_of, called, call_row, left, return_over, return_row, argument_at, arg_of, arg_over, arg_row}
use Rattle.ep_object.specs.Control.{fail_row}
use Rattle.ep_object.specs.Operands.{Operand}
use Rattle.ep_object.specs.Places.{Making, make_row, bind_row}
use Rattle.ep_object.specs.Routines.{routine_of}
use Rattle.ep_object.specs.State.{State, Frame}
use Rattle.ep_object.specs.Table as table
use Rattle.ep_object.specs.Frames.{slots_of}
use Rattle.ep_object.specs.Table.{Op, obey, obey_op, op_of, on_operands, in_segments, with_bound, bind_in, making, with_making, with_storage, typing, with_typing, with_events}
use Rattle.ep_object.specs.Types.{Typing}
use Rattle.ep_object.specs.WordRows.{is_error}
use Rattle.ep_object.specs.declared.code.Image.{Image}
use Rattle.ep_object.specs.declared.code.Instr.{Instr}
use Rattle.ep_object.specs.declared.state.Place.{Place}
use Rattle.ep_object.specs.declared.state.Segment.{Segment}
use Rattle.ep_values.specs.Events.{Trace}
use Rattle.ep_values.specs.declared.run_error.TheConstants as run_error

module _ (Holds : State → Type 0) where
  -- it holds of the state that the effect leaves, where there is one
  abbrev pub HoldsAfter : Effect State → Type 0
  HoldsAfter (Continues t) = Holds t
  HoldsAfter (Jumps target t) = Holds t
  HoldsAfter Returns = Unit {0}
  HoldsAfter (Fails n) = Unit {0}
  HoldsAfter Halts = Unit {0}
  HoldsAfter Breaks = Unit {0}

  mapped_keeps : {A : Type 0} (f : A → State) → ((a : A) → Holds (f a)) → (e : Effect A) → HoldsAfter (mapped f e)
  mapped_keeps f h (Continues a) = h a
  mapped_keeps f h (Jumps target a) = h a
  mapped_keeps f h Returns = tt
  mapped_keeps f h (Fails n) = tt
  mapped_keeps f h Halts = tt
  mapped_keeps f h Breaks = tt

  halts : (b : Bool) → HoldsAfter (provided b Halts)
  halts true = tt
  halts false = tt

  fails : (b : Bool) (n : ℕ) → HoldsAfter (provided b (Fails n))
  fails true n = tt
  fails false n = tt

  only_where : (b : Bool) (e : Effect State) → HoldsAfter e → HoldsAfter (provided b e)
  only_where true e h = h
  only_where false e h = tt

  only_where_weighed : (b : Bool) (w : Work State) → HoldsAfter w.effect → HoldsAfter (provided_weighed b w).effect
  only_where_weighed true w h = h
  only_where_weighed false w h = tt

  if_there_weighed : {A : Type 0} (o : Option A) (f : A → Work State) → ((a : A) → HoldsAfter (f a).effect) → HoldsAfter (having_weighed o f).effect
  if_there_weighed None f h = tt
  if_there_weighed (Some a) f h = h a

  module _ (s : State) (operands : (st : List Operand) → Holds (record s { operands = st })) (segments : (p : List Operand × List (Option Segment)) → Holds (in_segments s p)) (makes : (m : Making) → Holds (with_making s m)) (types : (t : Typing) → Holds (with_typing s t)) (events : (p : List Operand × Trace) → Holds (with_events s p)) (quiet : (t : State) → t.trace ≡ s.trace → Holds t) where
    kept : (e : Effect (List Operand)) → HoldsAfter (on_operands s e)
    kept e = mapped_keeps (λ st. record s { operands = st }) operands e

    in_frame : (row : List (Option Place) → Work Making) (o : Option (List (Option Place))) → HoldsAfter (having_weighed o (λ slots. mapped_work (with_making s) (row slots))).effect
    in_frame row None = tt
    in_frame row (Some slots) = mapped_keeps (with_making s) makes (row slots).effect

    return_keeps : (calls : List Frame) → HoldsAfter (return_over calls s)
    return_keeps [] = tt
    return_keeps (c ∷ calls) = quiet (left c calls s) refl

    entry_keeps : (b : Bool) (to : ℕ) (t : State) (number : ℕ) → t.trace ≡ s.trace
        → HoldsAfter (cond b (Jumps to t) (Fails number))
    entry_keeps true to t number e = quiet t e
    entry_keeps false to t number e = tt

    call_keeps : (G : Image) (a : ℤ) (b : ℕ) → HoldsAfter (call_row G a b s).effect
    call_keeps G a b =
        if_there_weighed (index (length G.routines) a) _ (λ n.
        if_there_weighed (routine_of G n) _ (λ r.
        if_there_weighed (parent_by s.frames r b) _ (λ parent.
        if_there_weighed (top_of r.arguments s.operands) _ (λ p.
        entry_keeps (ltb (length s.frames.calls) call_limit) r.entry (called n r parent p.0 p.1 s) run_error.CALL_DEPTH refl))))

    arg_keeps : (a : ℤ) (calls : List Frame) → HoldsAfter (arg_over calls a s).effect
    arg_keeps a [] = tt
    arg_keeps a (c ∷ calls) = if_there_weighed (index (length c.arguments) a) _ (λ k. if_there_weighed (argument_at c.arguments k) _ (λ x. quiet (arg_of c calls k x s) refl))

    bind_keeps : (slots : Option (List (Option Place))) (row : List (Option Place) → Effect (List (Option Place) × List Operand))
        → HoldsAfter (having slots (λ slots. mapped (with_bound s) (row slots)))
    bind_keeps None row = tt
    bind_keeps (Some slots) row = mapped_keeps (with_bound s) (λ p. quiet (with_bound s p) refl) (row slots)

    abbrev HoldsAfterWork : Work State → Type 0
    HoldsAfterWork w = HoldsAfter w.effect

    op_keeps : (G : Image) (i : Instr) (o : Option Op) → HoldsAfterWork (obey_op G i o s)
    op_keeps G i None = tt
    op_keeps G i (Some table.Push) = kept _
    op_keeps G i (Some table.Jump) = kept _
    op_keeps G i (Some table.JumpFalse) = kept _
    op_keeps G i (Some table.Unit) = kept _
    op_keeps G i (Some table.Field) = kept _
    op_keeps G i (Some table.Index) = kept _
    op_keeps G i (Some table.Load) = kept _
    op_keeps G i (Some table.Add) = kept _
    op_keeps G i (Some table.Sub) = kept _
    op_keeps G i (Some table.Mul) = kept _
    op_keeps G i (Some table.Div) = kept _
    op_keeps G i (Some table.Mod) = kept _
    op_keeps G i (Some table.Neg) = kept _
    op_keeps G i (Some table.Abs) = kept _
    op_keeps G i (Some table.Sqr) = kept _
    op_keeps G i (Some table.Odd) = kept _
    op_keeps G i (Some table.Not) = kept _
    op_keeps G i (Some table.And) = kept _
    op_keeps G i (Some table.Or) = kept _
    op_keeps G i (Some table.Cmp) = kept _
    op_keeps G i (Some table.Between) = kept _
    op_keeps G i (Some table.Check) = kept _
    op_keeps G i (Some table.Step) = kept _
    op_keeps G i (Some table.SetNone) = kept _
    op_keeps G i (Some table.SetAdd) = kept _
    op_keeps G i (Some table.SetSpan) = kept _
    op_keeps G i (Some table.SetOp) = kept _
    op_keeps G i (Some table.SetCmp) = kept _
    op_keeps G i (Some table.In) = kept _
    op_keeps G i (Some table.Card) = kept _
    op_keeps G i (Some table.Next) = kept _
    op_keeps G i (Some table.Text) = kept _
    op_keeps G i (Some table.Drop) = kept _
    op_keeps G i (Some table.Dup) = kept _
    op_keeps G i (Some table.Chars) = kept _
    op_keeps G i (Some table.Form) = kept _
    op_keeps G i (Some table.Fail) = only_where (has_one_field i) (fail_row i.a) (fails (is_error i.a) (unsigned_abs i.a))
    op_keeps G i (Some table.Halt) = halts (has_no_field i)
    op_keeps G i (Some table.Call) = call_keeps G i.a i.b
    op_keeps G i (Some table.Return) = only_where (has_no_field i) (return_row s) (return_keeps s.frames.calls)
    op_keeps G i (Some table.Arg) = only_where_weighed (has_one_field i) (arg_row i.a s) (arg_keeps i.a s.frames.calls)
    op_keeps G i (Some table.Peek) = kept _
    op_keeps G i (Some table.Bind) = only_where (has_one_field i) (bind_in i s) (bind_keeps (slots_of s.frames) (λ slots. bind_row slots i.a s.operands))
    op_keeps G i (Some table.Undefine) = mapped_keeps (in_segments s) segments _
    op_keeps G i (Some table.Like) = kept _
    op_keeps G i (Some table.Defined) = kept _
    op_keeps G i (Some table.Slot) = kept _
    op_keeps G i (Some table.Make) = in_frame (λ slots. only_a_weighed i (make_row s.types i.a (making s slots))) (slots_of s.frames)
    op_keeps G i (Some table.New) = mapped_keeps (with_storage s) (λ m. quiet (with_storage s m) refl) _
    op_keeps G i (Some table.Dispose) = mapped_keeps (with_storage s) (λ m. quiet (with_storage s m) refl) _
    op_keeps G i (Some table.Deref) = kept _
    op_keeps G i (Some table.Store) = mapped_keeps (in_segments s) segments _
    op_keeps G i (Some table.TOrd) = mapped_keeps (with_typing s) types _
    op_keeps G i (Some table.TSet) = mapped_keeps (with_typing s) types _
    op_keeps G i (Some table.TArr) = mapped_keeps (with_typing s) types _
    op_keeps G i (Some table.TRec) = mapped_keeps (with_typing s) types _
    op_keeps G i (Some table.TInit) = mapped_keeps (with_typing s) types _
    op_keeps G i (Some table.Put) = mapped_keeps (with_events s) events _
    op_keeps G i (Some _) = tt

    -- it holds of what an instruction leaves
    pub obey_keeps : (G : Image) (i : Instr) → HoldsAfter (obey G i s).effect
    obey_keeps G i = op_keeps G i (op_of i.op)
