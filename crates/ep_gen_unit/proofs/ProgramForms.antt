-- The object of a program, from the code of its parts.
use Rattle.std.proofs.Common.{◌≡◌, ℕ, suc, pos, ◌+◌, ◌<◌, List, [], ◌∷◌, ◌++◌, map, take, length, length-append, get_or, slice_get, ◌⊎◌, inl, inr, Option, None, Some, Result, Ok, Err, IfOk, refl, sym, ap, ◌∙◌, subst, append_assoc, append-nil, arith}
use Rattle.std.proofs.lemmas.List.{take_more, length-map, length-take-le}
use Rattle.std.proofs.lemmas.Option.{slice_get_within}
use Rattle.ep_object.proofs.public.Elements.{slice_get-push}
use Rattle.ep_object.specs.declared.code.Instr.{Instr}
use Rattle.ep_object.specs.declared.code.CodeRoutine.{CodeRoutine}
use Rattle.ep_object.specs.declared.code.Object.{Object}
use Rattle.ep_typed.specs.Auxiliaries.{block_auxiliaries, with_variables}
use Rattle.ep_typed.specs.Trees.{Stmt}
use Rattle.ep_typed.specs.Routines.{first_private, formal_variable, made_by_unit, made_variables, result_variable, unit_block, unit_variables, variables_of}
use Rattle.ep_typed.specs.Viewed.{denoter_of, stmt_of}
use Rattle.ep_typed.specs.declared.unit.Unit.{Unit as TypedUnit}
use Rattle.ep_typed.specs.declared.unit.UnitRoutine.{UnitRoutine}
use Rattle.ep_typed.specs.declared.interface.Formal.{Formal}
use Rattle.ep_typed.specs.declared.interface.RoutineResult.{RoutineResult}
use Rattle.ep_values.specs.declared.run_error.TheConstants as run_error
use Rattle.ep_typed.specs.declared.unit.UnitVariable.{UnitVariable}
use Rattle.ep_gen_code.specs.Instructions.{instr, bare, push}
use Rattle.ep_gen_code.specs.Referring.{type_reference}
use Rattle.ep_gen_code.specs.declared.references.TheConstants as routine
use Rattle.ep_gen_code.specs.Growth.{Grows, IsTable, AreDistinct, begun_code}
use Rattle.ep_gen_code.proofs.public.Named.{named_distinct}
use Rattle.ep_gen_type.specs.TypeCode.{type_code}
use Rattle.ep_simulation.specs.Promises.{copying_code, first_code, next_code, ranging_code, row_code, spreading_code, swap_routine}
use Rattle.ep_object.specs.WordRows.{at_most, less}
use Rattle.ep_typed.specs.Denoters.{definition_of}
use Rattle.ep_meaning.specs.Meaning.{line_where}
use Rattle.ep_typed.specs.declared.unit.UnitType.{UnitType}
use Rattle.ep_gen_code.specs.declared.code.Code.{Code}
use Rattle.ep_gen_code.specs.declared.code.TheConstants as code
use Rattle.ep_gen_code.proofs.public.Growing.{grows_at}
use Rattle.ep_gen_type.specs.TypeCode.{type_code}
use Rattle.ep_gen_unit.specs.StmtCode.{IsStmtCode, make_code, make_all_code, value_code, place_taken, take_code, take_all_code, return_code, result_code, function_end, end_code}
use Rattle.std.specs.Prelude.{is_some, true, false}
use Rattle.ep_typed.specs.Denoters.{host_of}
use Rattle.ep_typed.specs.Hosts.{Host}
use Rattle.ep_gen_code.specs.Jumps.{IsNextPlace}
use Rattle.ep_gen_unit.specs.StmtGrowth.{Follows, AppendsBlock, AppendsStmt, AppendsStart, AppendsRoutine, AppendsRoutines, AppendsArrays, AppendsFill, AppendsShuffle, AppendsSwap, AppendsType, AppendsTypes, IsCompact, MakesBlock, MakesOwn, MakesResult, assembled}
use Rattle.ep_gen_unit.specs.UnitCode.{IsUnitCode, HasProgramParts, IsSwapCode, swap_code, IsFillCode, IsShuffleCode, fill_code, IsRoutineCode, IsTypeCode, AreRoutinesCode, AreTypesCode, StandsIn, elaborating_code, own_code, its_end, entry_of, plain_at, routine_at}
use Rattle.ep_gen_unit.proofs.Following.{later_follows, stmt_later, follows_none, follows_grows, follows_line, follows_then, grown_length}
use Rattle.ep_object.specs.declared.op.TheConstants as op

pub makes_variable : {b c : Code} (a : Code) (v : UnitVariable) (slot : ℕ) → Grows (record a { line = v.line }) b (type_code v.line (denoter_of v.denoter)) → Grows b c (instr op.MAKE (pos slot) 0 b.line ∷ []) → Follows a c (make_code slot v)
makes_variable a v slot p q = follows_line a v.line (follows_grows (grows_at (λ l. instr op.MAKE (pos slot) 0 l ∷ []) p q))

make_push : (number : ℕ) (vs : List UnitVariable) (v : UnitVariable) → make_all_code number (vs ++ v ∷ []) ≡ make_all_code number vs ++ make_code (number + length vs) v
make_push number [] v =
    let here : number ≡ number + 0 = omega arith in
    append-nil (make_code number v) ∙ ap (λ n. make_code n v) here
make_push number (w ∷ vs) v =
    let there : suc number + length vs ≡ number + length (w ∷ vs) = omega arith in
    ap (λ l. make_code number w ++ l) (make_push (suc number) vs v ∙ ap (λ n. make_all_code (suc number) vs ++ make_code n v) there)
    ∙ sym (append_assoc (make_code number w) (make_all_code (suc number) vs) (make_code (number + length (w ∷ vs)) v))

-- one more variable of a slice
pub makes_more : {a b c : Code} (first : ℕ) (vs : List UnitVariable) (k slot : ℕ) (v : UnitVariable) → k < length vs → v ≡ get_or vs k v → slot ≡ first + k → Follows a b (make_all_code first (take k vs)) → Follows b c (make_code slot v) → Follows a c (make_all_code first (take (k + 1) vs))
makes_more {a = a} {c = c} first vs k slot v h e at p q =
    let few : length (take k vs) ≡ k = length-take-le k vs (omega (arith, h)) in
    let place : first + length (take k vs) ≡ slot = omega (arith, few, at) in
    let step : make_all_code first (take k vs) ++ make_code slot v ≡ make_all_code first (take (k + 1) vs) =
    ap (λ n. make_all_code first (take k vs) ++ make_code n v) (sym place) ∙ sym (make_push first (take k vs) v) ∙ ap (λ w. make_all_code first (take k vs ++ w ∷ [])) e ∙ ap (make_all_code first) (sym (take_more vs k v h)) in
    subst (λ l. Follows a c l) step (follows_then p q)

-- ---- formal parameters

-- a value is stored in a variable that is made
pub grows_value : {a b c d e f : Code} (number : ℕ) (w : Formal) → Grows a b (type_code a.line (denoter_of w.denoter)) → Grows b c (instr op.MAKE (pos number) 0 b.line ∷ []) → Grows c d (instr op.SLOT (pos number) 0 c.line ∷ []) → Grows d e (instr op.ARG (pos number) 0 d.line ∷ []) → Grows e f (bare e.line op.STORE ∷ []) → Grows a f (value_code a.line number w)
grows_value {a = a} {f = f} number w elaborates make slot arg store =
    let rest = grows_at (λ l. bare l op.STORE ∷ []) (grows_at (λ l. instr op.ARG (pos number) 0 l ∷ []) (grows_at (λ l. instr op.SLOT (pos number) 0 l ∷ []) make slot) arg) store in
    grows_at (λ l. instr op.MAKE (pos number) 0 l ∷ instr op.SLOT (pos number) 0 l ∷ instr op.ARG (pos number) 0 l ∷ bare l op.STORE ∷ []) elaborates rest

-- a place goes into its slot
pub grows_place : {a b c : Code} (number : ℕ) → Grows a b (instr op.ARG (pos number) 0 a.line ∷ []) → Grows b c (instr op.BIND (pos number) 0 b.line ∷ []) → Grows a c (place_taken a.line number)
grows_place number p q = grows_at (λ l. instr op.BIND (pos number) 0 l ∷ []) p q

take_push : (line number : ℕ) (fs : List Formal) (f : Formal) → take_all_code line number (fs ++ f ∷ []) ≡ take_all_code line number fs ++ take_code line (number + length fs) f.mode f
take_push line number [] f =
    let here : number ≡ number + 0 = omega arith in
    append-nil (take_code line number f.mode f) ∙ ap (λ n. take_code line n f.mode f) here
take_push line number (w ∷ fs) f =
    let there : suc number + length fs ≡ number + length (w ∷ fs) = omega arith in
    ap (λ l. take_code line number w.mode w ++ l) (take_push line (suc number) fs f ∙ ap (λ n. take_all_code line (suc number) fs ++ take_code line n f.mode f) there)
    ∙ sym (append_assoc (take_code line number w.mode w) (take_all_code line (suc number) fs) (take_code line (number + length (w ∷ fs)) f.mode f))

-- one more formal parameter of a slice
pub takes_more : {a b c : Code} (fs : List Formal) (k slot : ℕ) (f : Formal) → k < length fs → f ≡ get_or fs k f → slot ≡ k → Grows a b (take_all_code a.line 0 (take k fs)) → Grows b c (take_code b.line slot f.mode f) → Grows a c (take_all_code a.line 0 (take (k + 1) fs))
takes_more {a = a} {c = c} fs k slot f h e at p q =
    let few : length (take k fs) ≡ k = length-take-le k fs (omega (arith, h)) in
    let place : 0 + length (take k fs) ≡ slot = omega (arith, few, at) in
    let step : take_all_code a.line 0 (take k fs) ++ take_code a.line slot f.mode f ≡ take_all_code a.line 0 (take (k + 1) fs) =
    ap (λ n. take_all_code a.line 0 (take k fs) ++ take_code a.line n f.mode f) (sym place) ∙ sym (take_push a.line 0 (take k fs) f) ∙ ap (λ w. take_all_code a.line 0 (take k fs ++ w ∷ [])) e ∙ ap (take_all_code a.line 0) (sym (take_more fs k f h)) in
    subst (λ l. Grows a c l) step (grows_at (λ line. take_code line slot f.mode f) p q)

-- all of them, on a line
pub takes_whole : {b : Code} (a : Code) (line : ℕ) (fs : List Formal) → Grows (record a { line = line }) b (take_all_code line 0 fs) → Follows a b (take_all_code line 0 fs)
takes_whole a line fs g = follows_line a line (follows_grows g)

nothing_distinct : {A : Type 0} → AreDistinct {A = A} []
nothing_distinct = λ j k x p q. cc

-- a block, and the `Return` behind it
pub appends_block : {b c d : Code} (block : Stmt) → AppendsStmt b c block → Grows (record c { line = code.NO_LINE }) d (return_code ∷ []) → AppendsBlock b d block
appends_block {b = b} {c = c} {d = d} block s r =
    let ends : Follows c d (return_code ∷ []) = follows_line c code.NO_LINE (follows_grows r) in
    record {
      code = s.code;
      is_code = stmt_later (length b.instructions) block s.code (later_follows ends) s.is_code;
      follows = follows_then s.follows ends;
    }

-- the code of the start and of the stop, from that of their parts
module _ (u : TypedUnit) {a b c d : Code} (makes : Follows a b (make_all_code 0 (made_by_unit u))) (start : AppendsBlock b c (stmt_of u.start)) (stop_entry : ℕ) (next : IsNextPlace c stop_entry) (stop : AppendsBlock c d (stmt_of u.stop)) where
  made : length b.instructions ≡ length a.instructions + length (make_all_code 0 (made_by_unit u))
  made = grown_length makes

  -- the stop stands behind the `Return` of the start
  stops : length c.instructions ≡ length a.instructions + length (make_all_code 0 (made_by_unit u)) + length start.code + 1
  stops = omega (arith, made, grown_length start.follows, length-append start.code (return_code ∷ []))

  blocks : Follows b d (start.code ++ return_code ∷ (stop.code ++ return_code ∷ []))
  blocks = subst (λ l. Follows b d l) (append_assoc start.code (return_code ∷ []) (stop.code ++ return_code ∷ [])) (follows_then start.follows stop.follows)

  pub appends_start : AppendsStart a d u stop_entry
  appends_start = record {
    code = start.code;
    is_code = subst (λ at. IsStmtCode d.texts d.references at (stmt_of u.start) start.code) made (stmt_later (length b.instructions) (stmt_of u.start) start.code (later_follows stop.follows) start.is_code);
    stop_code = stop.code;
    is_stop_code = subst (λ at. IsStmtCode d.texts d.references at (stmt_of u.stop) stop.code) stops stop.is_code;
    follows = follows_then makes blocks;
    stops = next.is_length ∙ stops;
  }

-- ---- routines

-- what makes variables makes those behind them too
make_append : (number : ℕ) (vs ws : List UnitVariable) → make_all_code number (vs ++ ws) ≡ make_all_code number vs ++ make_all_code (number + length vs) ws
make_append number [] ws = ap (λ n. make_all_code n ws) {x = number} {y = number + 0} (omega arith)
make_append number (v ∷ vs) ws =
    let there : suc number + length vs ≡ number + length (v ∷ vs) = omega arith in
    ap (λ l. make_code number v ++ l) (make_append (suc number) vs ws ∙ ap (λ n. make_all_code (suc number) vs ++ make_all_code n ws) there)
    ∙ sym (append_assoc (make_code number v) (make_all_code (suc number) vs) (make_all_code (number + length (v ∷ vs)) ws))

-- a procedure has no variable for a result
pub makes_none : (a : Code) (r : UnitRoutine) (fs : List Formal) (o : Option RoutineResult) (slot : ℕ) → fs ≡ r.formals → o ≡ r.result → o ≡ None → slot ≡ length fs
    → MakesResult a a r slot
makes_none a r fs o slot formals_are result_is none many =
    let is : result_variable r.name r.line r.result ≡ [] = ap (result_variable r.name r.line) (sym result_is ∙ none) in
    record {
      follows = subst (λ l. Follows a a (make_all_code (length r.formals) l)) (sym is) (follows_none a);
      count = omega (arith, many, ap length formals_are, ap length is);
    }

-- the variable of a function's result
pub makes_one : {b c : Code} (a : Code) (r : UnitRoutine) (fs : List Formal) (o : Option RoutineResult) (x : RoutineResult) (slot first : ℕ) → fs ≡ r.formals → o ≡ r.result → o ≡ Some x → slot ≡ length fs
    → Grows (record a { line = r.line }) b (type_code r.line (denoter_of x.denoter)) → Grows b c (instr op.MAKE (pos slot) 0 b.line ∷ []) → first ≡ slot + 1
    → MakesResult a c r first
makes_one {c = c} a r fs o x slot first formals_are result_is some many elaborates make behind =
    let is : result_variable r.name r.line r.result ≡ result_variable r.name r.line (Some x) = ap (result_variable r.name r.line) (sym result_is ∙ some) in
    let made : Follows a c (type_code r.line (denoter_of x.denoter) ++ instr op.MAKE (pos slot) 0 r.line ∷ []) = follows_line a r.line (follows_grows (grows_at (λ l. instr op.MAKE (pos slot) 0 l ∷ []) elaborates make)) in
    record {
      follows = subst (λ l. Follows a c (make_all_code (length r.formals) l)) (sym is)
          (subst (λ l. Follows a c l) (sym (append-nil _)) (subst (λ n. Follows a c (type_code r.line (denoter_of x.denoter) ++ instr op.MAKE (pos n) 0 r.line ∷ [])) (many ∙ ap length formals_are) made));
      count = omega (arith, many, behind, ap length formals_are, ap length is);
    }

-- a consequence of what holds of a result
pub if_ok_then : {T E : Type 0} {P Q : T → Type 0} (r : Result T E) → ((t : T) → P t → Q t) → IfOk r P → IfOk r Q
if_ok_then (Ok t) f h = f t h
if_ok_then (Err e) f h = tt

-- those that a block declares, and then its auxiliary ones
pub makes_block : {b c : Code} (a : Code) (first : ℕ) (vs ws : List UnitVariable) → Follows a b (make_all_code first vs) → Follows b c (make_all_code (first + length vs) ws) → Follows a c (make_all_code first (vs ++ ws))
makes_block {c = c} a first vs ws p q = subst (λ l. Follows a c l) (sym (make_append first vs ws)) (follows_then p q)

-- those of a unit
pub makes_unit : {b c : Code} (a : Code) (u : TypedUnit) (vs ws ys : List UnitVariable) → vs ≡ u.variables → ws ≡ block_auxiliaries (unit_block u) → ys ≡ ws → Follows a b (make_all_code 0 vs) → Follows b c (make_all_code (length vs) ys) → Follows a c (make_all_code 0 (made_by_unit u))
makes_unit {b = b} {c = c} a u vs ws ys variables_are is same p q =
    subst (λ l. Follows a c (make_all_code 0 l)) {x = vs ++ ys} {y = made_by_unit u} (λ i. variables_are i ++ (same ∙ is) i)
    (makes_block a 0 vs ys p (subst (λ n. Follows b c (make_all_code n ys)) {x = length vs} {y = 0 + length vs} (omega arith) q))

-- both, by the steps of its function
pub block_made : {b c : Code} (a : Code) (first middle behind : ℕ) (vs ws ys zs : List UnitVariable) (block : Stmt) → middle ≡ first + length vs → ws ≡ block_auxiliaries block → ys ≡ ws → zs ≡ ws → behind ≡ middle + length ys → Follows a b (make_all_code first vs) → Follows b c (make_all_code middle zs)
    → MakesBlock a c first vs block behind
block_made {b = b} {c = c} a first middle behind vs ws ys zs block at is same other count p q =
    record {
      follows = makes_block a first vs (block_auxiliaries block) p (subst (λ n. Follows b c (make_all_code n (block_auxiliaries block))) at (subst (λ l. Follows b c (make_all_code middle l)) (other ∙ is) q));
      count = omega (arith, count, at, ap length same, ap length is, length-append vs (block_auxiliaries block));
    }

-- how many variables a routine has
pub length_of : (r : UnitRoutine) → length (variables_of r) ≡ length r.formals + length (made_variables r) + length (with_variables (stmt_of r.block))
length_of r =
    omega (arith, length-append (map (formal_variable r.line) r.formals) (made_variables r ++ with_variables (stmt_of r.block)), length-map r.formals (formal_variable r.line), length-append (made_variables r) (with_variables (stmt_of r.block)))

-- and all of a routine
pub makes_own : {b c : Code} (a : Code) (r : UnitRoutine) (vs : List UnitVariable) (first made slots : ℕ) → vs ≡ r.variables → MakesResult a b r first → MakesBlock b c first vs (stmt_of r.block) made
    → slots ≡ made + length (with_variables (stmt_of r.block)) → MakesOwn a c r slots
makes_own {b = b} {c = c} a r vs first made slots variables_are result makes whole_count =
    let results : List UnitVariable = result_variable r.name r.line r.result in
    let more : List UnitVariable = block_auxiliaries (stmt_of r.block) in
    let others : Follows b c (make_all_code (length r.formals + length results) (r.variables ++ more)) = subst (λ n. Follows b c (make_all_code n (r.variables ++ more))) result.count (subst (λ l. Follows b c (make_all_code first (l ++ more))) variables_are makes.follows) in
    record {
      follows = subst (λ l. Follows a c l) (sym (make_append (length r.formals) results (r.variables ++ more))) (follows_then result.follows others);
      count = omega (arith, whole_count, makes.count, result.count, ap length variables_are, length-append vs more, length-append r.variables more, length-append results (r.variables ++ more), length_of r);
    }

-- what a function ends with
pub grows_result : {a b c d e f g h : Code} (number n : ℕ) → Grows a b (instr op.SLOT (pos number) 0 a.line ∷ []) → Grows b c (bare b.line op.DUP ∷ []) → Grows c d (bare c.line op.DEFINED ∷ []) → IsNextPlace d n
    → Grows d e (instr op.JUMP_FALSE (pos (n + 3)) 0 d.line ∷ []) → Grows e f (bare e.line op.LOAD ∷ []) → Grows f g (bare f.line op.RETURN ∷ []) → Grows g h (instr op.FAIL (pos run_error.RESULT_UNDEFINED) 0 g.line ∷ [])
    → Grows a h (result_code a.line number (length a.instructions))
grows_result {a = a} {d = d} {h = h} number n slot dup defined next jump load return fail =
    let three = grows_at (λ l. bare l op.DEFINED ∷ []) (grows_at (λ l. bare l op.DUP ∷ []) slot dup) defined in
    let target : n + 3 ≡ length a.instructions + 6 = omega (arith, next.is_length, ap length three.instructions, length-append a.instructions (instr op.SLOT (pos number) 0 a.line ∷ bare a.line op.DUP ∷ bare a.line op.DEFINED ∷ [])) in
    let four = grows_at (λ l. instr op.JUMP_FALSE (pos (n + 3)) 0 l ∷ []) three jump in
    let all = grows_at (λ l. instr op.FAIL (pos run_error.RESULT_UNDEFINED) 0 l ∷ []) (grows_at (λ l. bare l op.RETURN ∷ []) (grows_at (λ l. bare l op.LOAD ∷ []) four load) return) fail in
    subst (λ k. Grows a h (instr op.SLOT (pos number) 0 a.line ∷ bare a.line op.DUP ∷ bare a.line op.DEFINED ∷ instr op.JUMP_FALSE (pos k) 0 a.line ∷ bare a.line op.LOAD ∷ bare a.line op.RETURN ∷ instr op.FAIL (pos run_error.RESULT_UNDEFINED) 0 a.line ∷ [])) target all

-- a procedure ends with a `Return`
pub ends_procedure : {e : Code} (d : Code) (types : List UnitType) (line number : ℕ) (o result : Option RoutineResult) → o ≡ result → o ≡ None → Grows (record d { line = code.NO_LINE }) e (return_code ∷ [])
    → Follows d e (end_code types line number (length d.instructions) result)
ends_procedure {e = e} d types line number o result is none last =
    subst (λ r. Follows d e (end_code types line number (length d.instructions) r)) (sym none ∙ is) (follows_line d code.NO_LINE (follows_grows last))

-- a function with its result
pub ends_function : {e : Code} (d : Code) (types : List UnitType) (line number : ℕ) (o result : Option RoutineResult) (x : RoutineResult) → o ≡ result → o ≡ Some x → Grows (record d { line = line }) e (function_end (host_of types (denoter_of x.denoter)) line number (length d.instructions))
    → Follows d e (end_code types line number (length d.instructions) result)
ends_function {e = e} d types line number o result x is some last =
    subst (λ r. Follows d e (end_code types line number (length d.instructions) r)) (sym some ∙ is) (follows_line d line (follows_grows last))

-- its result is a word, or all of an array or a record
pub grows_end : {a b : Code} (o : Option Host) (number : ℕ) → is_some o ≡ true → Grows a b (result_code a.line number (length a.instructions)) → Grows a b (function_end o a.line number (length a.instructions))
grows_end None number is h = cc
grows_end (Some x) number is h = h

pub grows_whole : {a b c d : Code} (o : Option Host) (number : ℕ) → is_some o ≡ false → Grows a b (instr op.SLOT (pos number) 0 a.line ∷ []) → Grows b c (bare b.line op.LOAD ∷ []) → Grows c d (bare c.line op.RETURN ∷ [])
    → Grows a d (function_end o a.line number (length a.instructions))
grows_whole None number is slot load return = grows_at (λ l. bare l op.RETURN ∷ []) (grows_at (λ l. bare l op.LOAD ∷ []) slot load) return
grows_whole (Some x) number is slot load return = cc

-- the code of a routine, from that of its formal parameters, its variables, its block and its end
pub appends_routine : {b c d e : Code} (a : Code) (types : List UnitType) (r : UnitRoutine) (fs : List Formal) (entry arguments slots : ℕ) (x : CodeRoutine) → fs ≡ r.formals → arguments ≡ length fs
    → IsNextPlace a entry → Follows a b (take_all_code r.line 0 fs) → MakesOwn b c r slots → AppendsStmt c d (stmt_of r.block)
    → Follows d e (end_code types r.line arguments (length d.instructions) r.result) → x ≡ routine_at entry arguments slots → AppendsRoutine a e types r x
appends_routine {b = b} {c = c} {d = d} {e = e} a types r fs entry arguments slots x formals_are many next takes makes s last is =
    let made = makes.follows in
    let m : Follows a c (own_code r) = follows_then (subst (λ l. Follows a b (take_all_code r.line 0 l)) formals_are takes) made in
    let place : length d.instructions ≡ length a.instructions + length (own_code r) + length s.code = omega (arith, grown_length m, grown_length s.follows) in
    let number : arguments ≡ length r.formals = many ∙ ap length formals_are in
    let ends : Follows d e (its_end types (length a.instructions + length (own_code r) + length s.code) r) =
    subst (λ k. Follows d e (end_code types r.line k (length a.instructions + length (own_code r) + length s.code) r.result)) number (subst (λ k. Follows d e (end_code types r.line arguments k r.result)) place last) in
    record {
      plain = is ∙ (ap (λ k. routine_at k arguments slots) next.is_length ∙ (ap (λ k. routine_at (length a.instructions) k slots) number ∙ ap (λ k. routine_at (length a.instructions) (length r.formals) k) makes.count));
      code = s.code;
      is_code = subst (λ at. IsStmtCode e.texts e.references at (stmt_of r.block) s.code) (grown_length m) (stmt_later (length c.instructions) (stmt_of r.block) s.code (later_follows ends) s.is_code);
      follows = follows_then m (follows_then s.follows ends);
    }

-- what stands in code stands in longer code
stands_longer : {instructions later : List Instr} {place : ℕ} {is : List Instr} (more : List Instr) → later ≡ instructions ++ more
    → StandsIn instructions place is → StandsIn later place is
stands_longer {is = is} more e s =
    record {
      before = s.before;
      after = s.after ++ more;
      is = e ∙ (ap (λ l. l ++ more) s.is ∙ (append_assoc s.before (is ++ s.after) more ∙ ap (λ l. s.before ++ l) (append_assoc is s.after more)));
      from = s.from;
    }

routine_longer : {a b : Code} {is : List Instr} (types : List UnitType) (r : UnitRoutine) (x : CodeRoutine) → Follows a b is
    → IsRoutineCode a.texts a.references a.instructions types r x → IsRoutineCode b.texts b.references b.instructions types r x
routine_longer {a = a} {b = b} {is = is} types r x p h =
    record {
      plain = h.plain;
      code = h.code;
      is_code = stmt_later (x.entry + length (own_code r)) (stmt_of r.block) h.code (later_follows p) h.is_code;
      stands = stands_longer is p.instructions h.stands;
    }

-- no routine yet
pub no_routines : (a : Code) (types : List UnitType) → AppendsRoutines a a types [] []
no_routines a types = record { code = []; follows = follows_none a; blocks = record { count = refl; each = λ k r x p q. cc } }

-- one more routine
routines_then : {a b c : Code} (types : List UnitType) (rs : List UnitRoutine) (entries : List CodeRoutine) (r : UnitRoutine) (x : CodeRoutine)
    → AppendsRoutines a b types rs entries → AppendsRoutine b c types r x → AppendsRoutines a c types (rs ++ r ∷ []) (entries ++ x ∷ [])
routines_then {b = b} {c = c} types rs entries r x p q =
    let blocks = p.blocks in
    record {
      code = p.code ++ (own_code r ++ (q.code ++ its_end types (length b.instructions + length (own_code r) + length q.code) r));
      follows = follows_then p.follows q.follows;
      blocks = record {
        count = omega (arith, blocks.count, length-append entries (x ∷ []), length-append rs (r ∷ []));
        each = λ k s y at_rs at_entries. either k s y (slice_get-push rs r s k at_rs) (slice_get-push entries x y k at_entries);
      };
    }
  where
    newest : IsRoutineCode c.texts c.references c.instructions types r x
    newest =
        let entry : x.entry ≡ length b.instructions = ap (λ (y : CodeRoutine). y.entry) q.plain in
        record {
          plain = q.plain ∙ ap (λ k. entry_of k r) (sym entry);
          code = q.code;
          is_code = subst (λ k. IsStmtCode c.texts c.references (k + length (own_code r)) (stmt_of r.block) q.code) (sym entry) q.is_code;
          stands = subst (λ k. StandsIn c.instructions k (own_code r ++ (q.code ++ its_end types (k + length (own_code r) + length q.code) r))) (sym entry) (record {
            before = b.instructions;
            after = [];
            is = let f = q.follows in f.instructions ∙ ap (λ l. b.instructions ++ l) (sym (append-nil (own_code r ++ (q.code ++ its_end types (length b.instructions + length (own_code r) + length q.code) r))));
            from = refl;
          });
        }

    either : (k : ℕ) (s : UnitRoutine) (y : CodeRoutine) → (slice_get rs k ≡ Some s) ⊎ ((k ≡ length rs) × (s ≡ r))
        → (slice_get entries k ≡ Some y) ⊎ ((k ≡ length entries) × (y ≡ x)) → IsRoutineCode c.texts c.references c.instructions types s y
    either k s y (inl at_rs) (inl at_entries) = let blocks = p.blocks in routine_longer types s y q.follows (blocks.each k s y at_rs at_entries)
    either k s y (inl at_rs) (inr last) = let blocks = p.blocks in absurd (omega (arith, slice_get_within rs k s at_rs, last.0, blocks.count))
    either k s y (inr last) (inl at_entries) = let blocks = p.blocks in absurd (omega (arith, slice_get_within entries k y at_entries, last.0, blocks.count))
    either k s y (inr last) (inr newer) =
        subst (λ z. IsRoutineCode c.texts c.references c.instructions types z y) (sym last.1) (subst (IsRoutineCode c.texts c.references c.instructions types r) (sym newer.1) newest)

-- one more routine of a slice
pub routines_more : {a b c : Code} (types : List UnitType) (rs : List UnitRoutine) (k : ℕ) (entries : List CodeRoutine) (r : UnitRoutine) (x : CodeRoutine) → k < length rs → r ≡ get_or rs k r
    → AppendsRoutines a b types (take k rs) entries → AppendsRoutine b c types r x → AppendsRoutines a c types (take (k + 1) rs) (entries ++ x ∷ [])
routines_more {a = a} {c = c} types rs k entries r x less e p q =
    let grown : take k rs ++ r ∷ [] ≡ take (k + 1) rs = ap (λ y. take k rs ++ y ∷ []) e ∙ sym (take_more rs k r less) in
    subst (λ l. AppendsRoutines a c types l (entries ++ x ∷ [])) grown (routines_then types (take k rs) entries r x p q)

-- routines stay what they are in longer code
routines_longer : {a b : Code} {is : List Instr} (types : List UnitType) (rs : List UnitRoutine) (entries : List CodeRoutine) → Follows a b is
    → AreRoutinesCode a.texts a.references a.instructions types rs entries → AreRoutinesCode b.texts b.references b.instructions types rs entries
routines_longer types rs entries p h = record { count = h.count; each = λ k r x at_rs at_entries. routine_longer types r x p (h.each k r x at_rs at_entries) }

-- ---- the routines that elaborate types

-- no type yet
pub no_types : (a : Code) (before : List CodeRoutine) → AppendsTypes a a [] before before
no_types a before = record { code = []; follows = follows_none a; entries = []; are = sym (append-nil before); types = record { count = refl; each = λ k t x p q. cc } }

-- one more type
types_then : {a b c : Code} (ts : List UnitType) (before middle after : List CodeRoutine) (t : UnitType) (entry : ℕ)
    → AppendsTypes a b ts before middle → AppendsType b c t entry → after ≡ middle ++ plain_at entry ∷ [] → AppendsTypes a c (ts ++ t ∷ []) before after
types_then {b = b} {c = c} ts before middle after t entry p q is =
    let old = p.types in
    record {
      code = p.code ++ elaborating_code t;
      follows = follows_then p.follows q.follows;
      entries = p.entries ++ plain_at entry ∷ [];
      are = is ∙ (ap (λ l. l ++ plain_at entry ∷ []) p.are ∙ append_assoc before p.entries (plain_at entry ∷ []));
      types = record {
        count = omega (arith, old.count, length-append p.entries (plain_at entry ∷ []), length-append ts (t ∷ []));
        each = λ k s y at_ts at_entries. either k s y (slice_get-push ts t s k at_ts) (slice_get-push p.entries (plain_at entry) y k at_entries);
      };
    }
  where
    newest : IsTypeCode c.instructions t (plain_at entry)
    newest =
        record {
          plain = refl;
          stands = record {
            before = b.instructions;
            after = [];
            is = let f = q.follows in f.instructions ∙ ap (λ l. b.instructions ++ l) (sym (append-nil (elaborating_code t)));
            from = sym q.starts;
          };
        }

    either : (k : ℕ) (s : UnitType) (y : CodeRoutine) → (slice_get ts k ≡ Some s) ⊎ ((k ≡ length ts) × (s ≡ t))
        → (slice_get p.entries k ≡ Some y) ⊎ ((k ≡ length p.entries) × (y ≡ plain_at entry)) → IsTypeCode c.instructions s y
    either k s y (inl at_ts) (inl at_entries) =
        let old = p.types in
        let x = old.each k s y at_ts at_entries in
        record { plain = x.plain; stands = let f = q.follows in stands_longer (elaborating_code t) f.instructions x.stands }
    either k s y (inl at_ts) (inr last) = let old = p.types in absurd (omega (arith, slice_get_within ts k s at_ts, last.0, old.count))
    either k s y (inr last) (inl at_entries) = let old = p.types in absurd (omega (arith, slice_get_within p.entries k y at_entries, last.0, old.count))
    either k s y (inr last) (inr newer) = subst (λ z. IsTypeCode c.instructions z y) (sym last.1) (subst (IsTypeCode c.instructions t) (sym newer.1) newest)

-- one more type of a slice
pub types_more : {a b c : Code} (ts : List UnitType) (k : ℕ) (before middle after : List CodeRoutine) (t : UnitType) (entry : ℕ) → k < length ts → t ≡ get_or ts k t
    → AppendsTypes a b (take k ts) before middle → AppendsType b c t entry → after ≡ middle ++ plain_at entry ∷ [] → AppendsTypes a c (take (k + 1) ts) before after
types_more {a = a} {c = c} ts k before middle after t entry less e p q is =
    let grown : take k ts ++ t ∷ [] ≡ take (k + 1) ts = ap (λ y. take k ts ++ y ∷ []) e ∙ sym (take_more ts k t less) in
    subst (λ l. AppendsTypes a c l before after) grown (types_then (take k ts) before middle after t entry p q is)

-- the code of a type and its `Return`, on the line of its definition
pub appends_type : {b c : Code} (a : Code) (t : UnitType) (entry line : ℕ) → IsNextPlace a entry → line ≡ line_where t.line
    → Grows (record a { line = line }) b (type_code line (definition_of t)) → Grows b c (bare b.line op.RETURN ∷ []) → AppendsType a c t entry
appends_type {c = c} a t entry line next at p q =
    record { starts = next.is_length; follows = subst (λ l. Follows a c (type_code l (definition_of t) ++ bare l op.RETURN ∷ [])) at (follows_line a line (follows_grows (grows_at (λ l. bare l op.RETURN ∷ []) p q))) }

-- the code that leaves two operands in the other order
pub appends_swap : {b c d : Code} (a : Code) (entry : ℕ) → IsNextPlace a entry → Grows (record a { line = code.NO_LINE }) b (instr op.ARG (pos 1) 0 code.NO_LINE ∷ []) → Grows b c (instr op.ARG (pos 0) 0 b.line ∷ []) → Grows c d (bare c.line op.RETURN ∷ []) → AppendsSwap a d entry
appends_swap {b = b} {d = d} a entry next upper lower last =
    record { starts = next.is_length; follows = follows_line a code.NO_LINE (follows_grows (grows_at (λ l. instr op.ARG (pos 0) 0 l ∷ bare l op.RETURN ∷ []) upper (grows_at (λ l. bare l op.RETURN ∷ []) lower last))) }

-- it is the code of the routine
swap_stands : {e g : Code} (entry : ℕ) → AppendsSwap e g entry → IsSwapCode g.instructions (routine_at entry 2 0)
swap_stands {e = e} entry p =
    record {
      plain = refl;
      stands = record {
        before = e.instructions;
        after = [];
        is = let f = p.follows in f.instructions ∙ ap (λ l. e.instructions ++ l) (sym (append-nil swap_code));
        from = sym p.starts;
      };
    }

-- the code that gives the value of a component of an array to others
pub grows_copying : {a b c d e f g h i j : Code} → Grows a b (bare a.line op.DUP ∷ []) → Grows b c (bare b.line op.SLOT ∷ []) → Grows c d (instr op.CALL (pos routine.SWAP) 0 c.line ∷ []) → Grows d e (bare d.line op.INDEX ∷ []) → Grows e f (bare e.line op.SLOT ∷ []) → Grows f g (instr op.PEEK (pos 1) 0 f.line ∷ [])
    → Grows g h (bare g.line op.INDEX ∷ []) → Grows h i (bare h.line op.LOAD ∷ []) → Grows i j (bare i.line op.STORE ∷ []) → Grows a j (copying_code routine.SWAP a.line)
grows_copying p q r s t u v w x =
    grows_at (λ l. bare l op.STORE ∷ []) (grows_at (λ l. bare l op.LOAD ∷ []) (grows_at (λ l. bare l op.INDEX ∷ []) (grows_at (λ l. instr op.PEEK (pos 1) 0 l ∷ []) (grows_at (λ l. bare l op.SLOT ∷ [])
    (grows_at (λ l. bare l op.INDEX ∷ []) (grows_at (λ l. instr op.CALL (pos routine.SWAP) 0 l ∷ []) (grows_at (λ l. bare l op.SLOT ∷ []) p q) r) s) t) u) v) w) x

pub grows_next : {a b c d e f g h i j : Code} (entry : ℕ) → Grows a b (bare a.line op.DUP ∷ []) → Grows b c (instr op.PEEK (pos 3) 0 b.line ∷ []) → Grows c d (instr op.CMP less 0 c.line ∷ []) → Grows d e (instr op.JUMP_FALSE (pos (entry + 19)) 0 d.line ∷ []) → Grows e f (push e.line (pos 1) ∷ []) → Grows f g (bare f.line op.ADD ∷ [])
    → Grows g h (instr op.JUMP (pos (entry + 3)) 0 g.line ∷ []) → Grows h i (bare h.line op.DROP ∷ []) → Grows i j (bare i.line op.RETURN ∷ []) → Grows a j (next_code entry a.line)
grows_next entry p q r s t u v w x =
    grows_at (λ l. bare l op.RETURN ∷ []) (grows_at (λ l. bare l op.DROP ∷ []) (grows_at (λ l. instr op.JUMP (pos (entry + 3)) 0 l ∷ []) (grows_at (λ l. bare l op.ADD ∷ []) (grows_at (λ l. push l (pos 1) ∷ [])
    (grows_at (λ l. instr op.JUMP_FALSE (pos (entry + 19)) 0 l ∷ []) (grows_at (λ l. instr op.CMP less 0 l ∷ []) (grows_at (λ l. instr op.PEEK (pos 3) 0 l ∷ []) p q) r) s) t) u) v) w) x

pub appends_fill : {b c d e f : Code} (a : Code) (entry : ℕ) → IsNextPlace a entry → Grows (record a { line = code.NO_LINE }) b (instr op.ARG (pos 0) 0 code.NO_LINE ∷ []) → Grows b c (bare b.line op.BIND ∷ []) → Grows c d (instr op.PEEK (pos 2) 0 c.line ∷ []) → Grows d e (copying_code routine.SWAP d.line) → Grows e f (next_code entry e.line) → AppendsFill a f entry
appends_fill a entry next p q r s t =
    record {
      starts = next.is_length;
      follows = follows_line a code.NO_LINE (follows_grows (grows_at (next_code entry) (grows_at (copying_code routine.SWAP) (grows_at (λ l. instr op.PEEK (pos 2) 0 l ∷ []) (grows_at (λ l. bare l op.BIND ∷ []) p q) r) s) t));
    }

-- it is the code of the routine
fill_stands : {e g : Code} (entry : ℕ) → AppendsFill e g entry → IsFillCode g.instructions (routine_at entry 4 1)
fill_stands {e = e} entry p =
    record {
      plain = refl;
      stands = record {
        before = e.instructions;
        after = [];
        is = let f = p.follows in f.instructions ∙ ap (λ l. e.instructions ++ l) (sym (append-nil (fill_code entry)));
        from = sym p.starts;
      };
    }

-- ---- the other routines of arrays

-- three more at the end
pub three_pushed : {A : Type 0} (xs : List A) (a b c : A) {l m n : List A} → l ≡ xs ++ a ∷ [] → m ≡ l ++ b ∷ [] → n ≡ m ++ c ∷ [] → n ≡ xs ++ a ∷ b ∷ c ∷ []
three_pushed xs a b c p q r = r ∙ (ap (λ t. t ++ c ∷ []) (q ∙ (ap (λ t. t ++ b ∷ []) p ∙ append_assoc xs (a ∷ []) (b ∷ []))) ∙ append_assoc xs (a ∷ b ∷ []) (c ∷ []))

pub grows_ranging : {a b c d e f g h i j k : Code} → Grows a b (instr op.ARG (pos 0) 0 a.line ∷ []) → Grows b c (bare b.line op.BIND ∷ []) → Grows c d (instr op.PEEK (pos 1) 0 c.line ∷ []) → Grows d e (instr op.PEEK (pos 2) 0 d.line ∷ []) → Grows e f (bare e.line op.SLOT ∷ []) → Grows f g (bare f.line op.SLOT ∷ [])
    → Grows g h (instr op.PEEK (pos 2) 0 g.line ∷ []) → Grows h i (bare h.line op.SLOT ∷ []) → Grows i j (instr op.PEEK (pos 1) 0 i.line ∷ []) → Grows j k (bare j.line op.RETURN ∷ []) → Grows a k (ranging_code a.line)
grows_ranging p q r s t u v w x y =
    grows_at (λ l. bare l op.RETURN ∷ []) (grows_at (λ l. instr op.PEEK (pos 1) 0 l ∷ []) (grows_at (λ l. bare l op.SLOT ∷ []) (grows_at (λ l. instr op.PEEK (pos 2) 0 l ∷ []) (grows_at (λ l. bare l op.SLOT ∷ []) (grows_at (λ l. bare l op.SLOT ∷ [])
    (grows_at (λ l. instr op.PEEK (pos 2) 0 l ∷ []) (grows_at (λ l. instr op.PEEK (pos 1) 0 l ∷ []) (grows_at (λ l. bare l op.BIND ∷ []) p q) r) s) t) u) v) w) x) y

pub grows_row : {a b c d e f g h i : Code} → Grows a b (instr op.ARG (pos 2) 0 a.line ∷ []) → Grows b c (bare b.line op.BIND ∷ []) → Grows c d (bare c.line op.SLOT ∷ []) → Grows d e (instr op.ARG (pos 3) 0 d.line ∷ []) → Grows e f (bare e.line op.SLOT ∷ []) → Grows f g (bare f.line op.PEEK ∷ [])
    → Grows g h (bare g.line op.PEEK ∷ []) → Grows h i (instr op.PEEK (pos 1) 0 h.line ∷ []) → Grows a i (row_code a.line)
grows_row p q r s t u v w =
    grows_at (λ l. instr op.PEEK (pos 1) 0 l ∷ []) (grows_at (λ l. bare l op.PEEK ∷ []) (grows_at (λ l. bare l op.PEEK ∷ []) (grows_at (λ l. bare l op.SLOT ∷ []) (grows_at (λ l. instr op.ARG (pos 3) 0 l ∷ [])
    (grows_at (λ l. bare l op.SLOT ∷ []) (grows_at (λ l. bare l op.BIND ∷ []) p q) r) s) t) u) v) w

pub grows_first : {a b c d e f g h : Code} → Grows a b (instr op.ARG (pos 4) 0 a.line ∷ []) → Grows b c (bare b.line op.SLOT ∷ []) → Grows c d (bare c.line op.PEEK ∷ []) → Grows d e (bare d.line op.PEEK ∷ []) → Grows e f (instr op.PEEK (pos 1) 0 e.line ∷ []) → Grows f g (instr op.CMP at_most 0 f.line ∷ []) → Grows g h (bare g.line op.RETURN ∷ [])
    → Grows a h (first_code a.line)
grows_first p q r s t u v =
    grows_at (λ l. bare l op.RETURN ∷ []) (grows_at (λ l. instr op.CMP at_most 0 l ∷ []) (grows_at (λ l. instr op.PEEK (pos 1) 0 l ∷ []) (grows_at (λ l. bare l op.PEEK ∷ []) (grows_at (λ l. bare l op.PEEK ∷ []) (grows_at (λ l. bare l op.SLOT ∷ []) p q) r) s) t) u) v

pub appends_shuffle : {b : Code} (a : Code) (its : ℕ → List Instr) (entry : ℕ) → IsNextPlace a entry → Grows (record a { line = code.NO_LINE }) b (its code.NO_LINE) → AppendsShuffle a b (its code.NO_LINE) entry
appends_shuffle a its entry next p = record { starts = next.is_length; follows = follows_line a code.NO_LINE (follows_grows p) }

-- it is the code of the routine
shuffle_stands : {e g : Code} (operands : ℕ) (its : List Instr) (entry : ℕ) → AppendsShuffle e g its entry → IsShuffleCode g.instructions operands its (routine_at entry operands 1)
shuffle_stands {e = e} operands its entry p =
    record {
      plain = refl;
      stands = record {
        before = e.instructions;
        after = [];
        is = let f = p.follows in f.instructions ∙ ap (λ l. e.instructions ++ l) (sym (append-nil its));
        from = sym p.starts;
      };
    }

-- all of them
pub appends_arrays : {a b c d : Code} (fill_entry range_entry spread_entry : ℕ) → AppendsFill a b fill_entry → AppendsShuffle b c (ranging_code code.NO_LINE) range_entry → AppendsShuffle c d (spreading_code code.NO_LINE) spread_entry
    → (before after : List CodeRoutine) → after ≡ before ++ routine_at fill_entry 4 1 ∷ routine_at range_entry 3 1 ∷ routine_at spread_entry 5 1 ∷ [] → AppendsArrays a d before after
appends_arrays fill_entry range_entry spread_entry fill range spread before after are =
    let ranging = shuffle_stands 3 (ranging_code code.NO_LINE) range_entry range in
    let filling = fill_stands fill_entry fill in
    let behind_range = spread.follows in
    let behind_fill = follows_then range.follows spread.follows in
    record {
      code = fill_code fill_entry ++ (ranging_code code.NO_LINE ++ spreading_code code.NO_LINE);
      follows = follows_then fill.follows behind_fill;
      filling = routine_at fill_entry 4 1;
      fills = record { plain = filling.plain; stands = stands_longer (ranging_code code.NO_LINE ++ spreading_code code.NO_LINE) behind_fill.instructions filling.stands };
      ranging = routine_at range_entry 3 1;
      ranges = record { plain = ranging.plain; stands = stands_longer (spreading_code code.NO_LINE) behind_range.instructions ranging.stands };
      spreading = routine_at spread_entry 5 1;
      spreads = shuffle_stands 5 (spreading_code code.NO_LINE) spread_entry spread;
      are = are;
    }

-- the object of a program, from the code of its start, of its routines and of its types
module _ (u : TypedUnit) {a b e h i f : Code} (begins : a ≡ begun_code u) (few : IsTable a.references) (name : List ℕ) (named : name ≡ u.name) (slots stop_entry swap_entry start : ℕ) (appends : AppendsStart a b u stop_entry)
    (rs : List UnitRoutine) (routines_are : rs ≡ u.routines) (entries : List CodeRoutine) (types : List UnitType) (types_are : types ≡ u.types) (more : AppendsRoutines b e types rs entries) (swap : AppendsSwap e h swap_entry) (before middle after : List CodeRoutine) (arrays : AppendsArrays h i before middle)
    (all : before ≡ entries ++ plain_at 0 ∷ plain_at stop_entry ∷ routine_at swap_entry 2 0 ∷ []) (ts : List UnitType) (ts_are : ts ≡ u.types) (last : AppendsTypes i f ts middle after) (starts : start ≡ length entries) (o : Object) (is : o ≡ assembled name f after start slots) where
  whole : AppendsStart (begun_code u) b u stop_entry
  whole = subst (λ code. AppendsStart code b u stop_entry) begins appends

  begins_block : 0 + length (make_all_code 0 (made_by_unit u)) ≡ length (make_all_code 0 (made_by_unit u))
  begins_block = omega arith

  stop_begins : stop_entry ≡ length (make_all_code 0 (made_by_unit u)) + length whole.code + 1
  stop_begins = omega (arith, whole.stops)

  stop_at : 0 + length (make_all_code 0 (made_by_unit u)) + length whole.code + 1 ≡ length (make_all_code 0 (made_by_unit u)) + length whole.code + 1
  stop_at = omega arith

  -- the code of the start and of the stop
  abbrev blocks_code : List Instr
  blocks_code = whole.code ++ return_code ∷ (whole.stop_code ++ return_code ∷ [])

  behind_swap : Follows h f (arrays.code ++ last.code)
  behind_swap = follows_then arrays.follows last.follows

  -- the code behind that of the routines
  abbrev rest : List Instr
  rest = swap_code ++ (arrays.code ++ last.code)

  behind_routines : Follows e f rest
  behind_routines = follows_then swap.follows behind_swap

  behind_start : Follows b f (more.code ++ rest)
  behind_start = follows_then more.follows behind_routines

  its_blocks : AreRoutinesCode f.texts f.references f.instructions u.types u.routines entries
  its_blocks =
      routines_longer u.types u.routines entries behind_routines
      (subst (λ l. AreRoutinesCode e.texts e.references e.instructions l u.routines entries) types_are (subst (λ l. AreRoutinesCode e.texts e.references e.instructions types l entries) routines_are more.blocks))

  all_code : Follows (begun_code u) f ((make_all_code 0 (made_by_unit u) ++ blocks_code) ++ (more.code ++ rest))
  all_code = follows_then whole.follows behind_start

  abbrev its_arrays : List CodeRoutine
  its_arrays = arrays.filling ∷ arrays.ranging ∷ arrays.spreading ∷ []

  -- the start, the stop, and the routine that leaves two operands in the other order
  abbrev three : List CodeRoutine
  three = plain_at 0 ∷ plain_at (length (make_all_code 0 (made_by_unit u)) + length whole.code + 1) ∷ routine_at swap_entry 2 0 ∷ []

  pub is_unit : slots ≡ length (unit_variables u) → IsUnitCode u o
  is_unit n = subst (λ object. IsUnitCode u object) (sym is) (record {
    code = whole.code;
    is_code = subst (λ at. IsStmtCode f.texts f.references at (stmt_of u.start) whole.code) begins_block (stmt_later (0 + length (make_all_code 0 (made_by_unit u))) (stmt_of u.start) whole.code (later_follows behind_start) whole.is_code);
    stop_code = whole.stop_code;
    is_stop_code = subst (λ at. IsStmtCode f.texts f.references at (stmt_of u.stop) whole.stop_code) stop_at (stmt_later (0 + length (make_all_code 0 (made_by_unit u)) + length whole.code + 1) (stmt_of u.stop) whole.stop_code (later_follows behind_start) whole.is_stop_code);
    others = more.code ++ rest;
    instructions =
        all_code.instructions ∙ (append_assoc (make_all_code 0 (made_by_unit u)) blocks_code (more.code ++ rest)
        ∙ ap (λ l. make_all_code 0 (made_by_unit u) ++ l) (append_assoc whole.code (return_code ∷ (whole.stop_code ++ return_code ∷ [])) (more.code ++ rest)
        ∙ ap (λ l. whole.code ++ return_code ∷ l) (append_assoc whole.stop_code (return_code ∷ []) (more.code ++ rest))));
    entries = entries;
    blocks = its_blocks;
    swapping = routine_at swap_entry 2 0;
    swaps = let x = swap_stands swap_entry swap in record { plain = x.plain; stands = let g = behind_swap in stands_longer (arrays.code ++ last.code) g.instructions x.stands };
    filling = arrays.filling;
    fills = let x = arrays.fills in record { plain = x.plain; stands = let g = last.follows in stands_longer last.code g.instructions x.stands };
    ranging = arrays.ranging;
    ranges = let x = arrays.ranges in record { plain = x.plain; stands = let g = last.follows in stands_longer last.code g.instructions x.stands };
    spreading = arrays.spreading;
    spreads = let x = arrays.spreads in record { plain = x.plain; stands = let g = last.follows in stands_longer last.code g.instructions x.stands };
    elaborating = last.entries;
    types = subst (λ l. AreTypesCode f.instructions l last.entries) ts_are last.types;
    named = all_code.references.begins;
    routines = last.are ∙ (ap (λ l. l ++ last.entries) (arrays.are ∙ ap (λ l. l ++ its_arrays) (all ∙ ap (λ at. entries ++ plain_at 0 ∷ plain_at at ∷ routine_at swap_entry 2 0 ∷ []) stop_begins)) ∙ (ap (λ l. l ++ last.entries) (append_assoc entries three its_arrays) ∙ append_assoc entries (three ++ its_arrays) last.entries));
    start = starts ∙ its_blocks.count;
    stop = ap (λ k. k + 1) (starts ∙ its_blocks.count);
    unit_slots = n;
    name = named;
    constant_types = all_code.constant_types;
  })

  pub has_parts : HasProgramParts o
  has_parts = subst HasProgramParts (sym is) (record { is_program = refl; interface = refl; imports = refl })

  pub is_compact : IsTable f.instructions → IsCompact o
  is_compact small = subst (λ object. IsCompact object) (sym is) (record {
    few_texts = all_code.texts.small (omega arith);
    few_references = all_code.references.small (subst (λ (code : Code). IsTable code.references) begins few);
    few_instructions = small;
    texts = all_code.texts.distinct nothing_distinct;
    references = all_code.references.distinct (named_distinct u.name (swap_routine (first_private u)) (type_reference (length u.types)));
  })
