-- The routines of a unit whose object stands in an image simulate the start and the stop of the unit.
use Rattle.std.proofs.Common.{inl, inr, ◌≡◌, ℕ, ◌+◌, ◌≤◌, ◌<◌, List, [], ◌∷◌, ◌++◌, length, length-append, append_assoc, IsTrue, false, Some, slice_get, refl, sym, ap, ◌∙◌, subst, arith}
use Rattle.std.proofs.lemmas.Bool.{lt-ltb}
use Rattle.std.proofs.lemmas.Option.{slice_get_within, same_Some}
use Rattle.ep_gen_expr.proofs.public.Following.{place_follows, expression_follows, call_then}
use Rattle.ep_gen_unit.specs.StmtCode.{IsStmtCode, make_all_code, return_code}
use Rattle.ep_gen_unit.specs.UnitCode.{IsUnitCode, plain_at}
use Rattle.ep_gen_unit.specs.UnitLaws.{AreDeclared}
use Rattle.ep_gen_code.specs.Referring.{AreReferred, AreArraysReferred, IsSwapReferred}
use Rattle.ep_gen_unit.proofs.Referred.{arrays_referred, swap_referred, types_referred}
use Rattle.ep_gen_unit.proofs.Declared.{declared_is, declared_valid, own_declared, made_declared}
use Rattle.ep_gen_unit.proofs.Makes.{VariablesAreFree, make_all_moves, same_frame}
use Rattle.ep_gen_unit.proofs.Parts.{Moves, code_stands-parts}
use Rattle.ep_gen_unit.proofs.Starts.{MakesFollow, body_follows}
use Rattle.ep_gen_unit.proofs.StmtMoves.{statement_moves}
use Rattle.ep_gen_unit.proofs.WithMoves.{BindsFollow, unit_binds_follow}
use Rattle.ep_simulation.proofs.public.following.Kept.{IsHome}
use Rattle.ep_simulation.proofs.public.following.Bind.{follows_less, follows_post, follows_from}
use Rattle.ep_simulation.proofs.public.following.Fragments.{fragment_to, fragment_credit}
use Rattle.ep_simulation.proofs.public.rows.MakeRow.{RunsInUnit}
use Rattle.ep_simulation.proofs.public.matching.Names.{none_named}
use Rattle.ep_simulation.proofs.public.matching.MoreMemory.{among_same, no_calls, since_here, since_lasts}
use Rattle.ep_object.specs.Effects.{Returns, light}
use Rattle.ep_object.specs.Table.{obey}
use Rattle.ep_typed.specs.Routines.{first_private, made_by_unit, unit_block, unit_variables}
use Rattle.ep_typed.specs.Auxiliaries.{with_variables}
use Rattle.ep_values.specs.Events.{Trace}
use Rattle.ep_simulation.specs.Activations.{KnowsNames}
use Rattle.ep_simulation.specs.Follows.{Facts, Fragment, Inside, Lasts, Since, Bare, point}
use Rattle.ep_simulation.specs.Layouts.{Layout}
use Rattle.ep_simulation.specs.Matching.{MachineMemory, Injection, no_variable, is_hidden_in, kept_slots, at as standing}
use Rattle.ep_object.specs.Operands.{Operand}
use Rattle.ep_object.specs.Placing.{Placement, Span, CodeStands, IsPlacementOf, Stands, HasDistinctNames, moved, placed, placed_routine, placed_object_unit}
use Rattle.ep_simulation.specs.Promises.{CallsAreKept}
use Rattle.ep_object.specs.Routines.{routine_of}
use Rattle.ep_object.specs.Runs.{unit_in}
use Rattle.ep_simulation.proofs.public.Joined.{slots_stand}
use Rattle.ep_simulation.specs.Scene.{GivenStand, AreLaidOut, VariableStands, Scene}
use Rattle.ep_simulation.specs.Simulates.{routine_credit, Enters, Simulates}
use Rattle.ep_object.specs.State.{State, Frames}
use Rattle.ep_object.specs.declared.code.CodeRoutine.{CodeRoutine}
use Rattle.ep_object.specs.declared.code.Image.{Image}
use Rattle.ep_object.specs.declared.code.ImageRoutine.{ImageRoutine}
use Rattle.ep_object.specs.declared.code.ImageUnit.{ImageUnit}
use Rattle.ep_object.specs.declared.code.Instr.{Instr}
use Rattle.ep_object.specs.declared.code.Object.{Object}
use Rattle.ep_object.specs.declared.code.Reference.{Reference}
use Rattle.ep_meaning.specs.Steady.{IsSteadyHandler}
use Rattle.ep_meaning.specs.Calls.{Handler}
use Rattle.ep_meaning.specs.Meaning.{make_all, exec, start_of, stop_of}
use Rattle.ep_meaning.specs.Steps.{Computation, bind, spend}
use Rattle.ep_meaning.specs.Steps as meaning
use Rattle.ep_meaning.specs.Units.{GivenUnit, IsValid, declared_of}
use Rattle.ep_meaning.specs.Valid.{variables_up, Declarations, IsStmt}
use Rattle.ep_typed.specs.Trees.{Stmt}
use Rattle.ep_typed.specs.Viewed.{stmt_of}
use Rattle.ep_typed.specs.declared.unit.UnitVariable.{UnitVariable}
use Rattle.ep_typed.specs.declared.unit.Unit.{Unit as TypedUnit}

-- a number of an object's own stands behind what comes before
pub moved_own : (span : Span) (n : ℕ) → n < span.own → moved span n ≡ span.before + n
moved_own span n h = rw (lt-ltb n span.own h) refl

-- code that stands in an image ends in it
code_within : (G : Image) (ps : List Placement) (p : Placement) (references : List Reference) (at : ℕ) (i : Instr) (is : List Instr)
    → CodeStands G ps p references at (i ∷ is) → p.instructions.before + (at + length (i ∷ is)) ≤ length G.instructions
code_within G ps p references at i [] h = omega (arith, slice_get_within G.instructions (p.instructions.before + at) (placed ps p references i) h.0)
code_within G ps p references at i (j ∷ is) h = omega (arith, code_within G ps p references (at + 1) j is h.1)

-- what stands behind a list
behind : {A : Type 0} (xs : List A) (x : A) (ys : List A) → slice_get (xs ++ x ∷ ys) (length xs) ≡ Some x
behind [] x ys = refl
behind (y ∷ xs) x ys = behind xs x ys

one_behind : {A : Type 0} (xs : List A) (x y : A) (ys : List A) → slice_get (xs ++ x ∷ y ∷ ys) (length xs + 1) ≡ Some y
one_behind xs x y ys =
    let size : length xs + 1 ≡ length (xs ++ x ∷ []) = omega (arith, length-append xs (x ∷ [])) in
    rw size (ap (λ l. slice_get l (length (xs ++ x ∷ []))) (sym (append_assoc xs (x ∷ []) (y ∷ ys))) ∙ behind (xs ++ x ∷ []) y ys)

-- an empty list has nothing
none_declared : {A : Type 0} (xs : List A) → xs ≡ [] → (k : ℕ) (x : A) → slice_get xs k ≡ Some x → ⊥
none_declared [] e k x is = absurd cc
none_declared (y ∷ xs) e k x is = absurd cc

module _ (u : TypedUnit) (o : Object) (is : IsUnitCode u o) (G : Image) (ps : List Placement) (p : Placement) (stands : Stands G ps p o) where
  -- the instructions behind the making of the variables
  abbrev begins_block : ℕ
  begins_block = length (make_all_code 0 (made_by_unit u))

  -- the place of the `Return` of the start, in the object
  abbrev ends_block : ℕ
  ends_block = begins_block + length is.code

  -- what stands from there on: the `Return`, and then the stop
  abbrev behind_block : List Instr
  behind_block = return_code ∷ (is.stop_code ++ return_code ∷ is.others)

  -- where the stop begins, and the place of its `Return`
  abbrev begins_stop : ℕ
  begins_stop = ends_block + 1

  abbrev ends_stop : ℕ
  ends_stop = begins_stop + length is.stop_code

  pub of_object : IsPlacementOf p o
  of_object = stands.of_object

  pub instructions_own : p.instructions.own ≡ ends_stop + 1 + length is.others
  instructions_own =
      let whole = of_object in
      omega (arith, whole.instructions, ap length is.instructions, length-append (make_all_code 0 (made_by_unit u)) (is.code ++ behind_block), length-append is.code behind_block, length-append is.stop_code (return_code ∷ is.others))

  -- what makes the variables stands in the image, and all that is behind it
  all_stand : CodeStands G ps p o.references 0 (make_all_code 0 (made_by_unit u)) × CodeStands G ps p o.references (0 + begins_block) (is.code ++ behind_block)
  all_stand = code_stands-parts G ps p o.references 0 (make_all_code 0 (made_by_unit u)) (is.code ++ behind_block) (subst (λ k. CodeStands G ps p o.references 0 k) is.instructions stands.code)

  makes_stand : CodeStands G ps p o.references 0 (make_all_code 0 (made_by_unit u))
  makes_stand = all_stand.0

  -- the statement of the start, and what is behind it
  block_stands : CodeStands G ps p o.references begins_block is.code × CodeStands G ps p o.references ends_block behind_block
  block_stands = code_stands-parts G ps p o.references begins_block is.code behind_block (subst (λ k. CodeStands G ps p o.references k (is.code ++ behind_block)) {x = 0 + begins_block} {y = begins_block} (omega arith) all_stand.1)

  -- the statement of the stop, and what is behind it
  stop_stands : CodeStands G ps p o.references begins_stop is.stop_code × CodeStands G ps p o.references ends_stop (return_code ∷ is.others)
  stop_stands = code_stands-parts G ps p o.references begins_stop is.stop_code (return_code ∷ is.others) block_stands.1.1

  pub room : p.instructions.before + p.instructions.own ≤ length G.instructions
  room =
      let size = code_within G ps p o.references ends_stop return_code is.others stop_stands.1 in
      omega (arith, instructions_own, size)

  -- a routine of the object is one of the image
  pub routine_there : (n : ℕ) (r : CodeRoutine) → slice_get o.routines n ≡ Some r
      → routine_of G (moved p.routines n) ≡ Some (placed_routine p r)
  routine_there n r h =
      let whole = of_object in
      let within = slice_get_within o.routines n r h in
      rw (moved_own p.routines n (omega (arith, whole.routines, within)), stands.routines n r h, stands.unit) refl

  -- while it runs errors tell the unit's name
  home : (n : ℕ) (r : CodeRoutine) → slice_get o.routines n ≡ Some r → (frames : Frames)
      → frames.calls ≡ [] → frames.routine ≡ moved p.routines n → unit_in G frames ≡ u.name
  home n r h frames alone runs =
      let whole = of_object in
      let within = slice_get_within o.routines n r h in
      rw (alone, runs, moved_own p.routines n (omega (arith, whole.routines, within)), stands.routines n r h, stands.unit) is.name

  -- the machine enters a routine of the object at the place of its entry
  at_entry : {layout : Layout} {injection : Injection} {memory : MachineMemory} {below : List Operand} {s : meaning.State} {k : State} (n : ℕ) (r : CodeRoutine)
      → slice_get o.routines n ≡ Some r → r.entry < p.instructions.own
      → Enters layout G p.unit (moved p.routines n) injection memory below s k
      → k ≡ standing (p.instructions.before + r.entry) below memory s.trace
  at_entry {memory = memory} {below = below} {s = s} n r has inside enters =
      let same : enters.image_routine ≡ placed_routine p r = same_Some enters.image_routine (placed_routine p r) (sym enters.there ∙ routine_there n r has) in
      enters.is ∙ (ap (λ (x : ImageRoutine). standing x.entry below memory s.trace) same ∙ ap (λ place. standing place below memory s.trace) (moved_own p.instructions r.entry inside))

  -- where no call is under way the `Return` leaves the start or the stop
  returns_from : (place : ℕ) (below : List Operand) (memory : MachineMemory) (trace : Trace) → memory.frames.calls ≡ []
      → obey G return_code (standing place below memory trace) ≡ light Returns
  returns_from place below memory trace alone = rw alone refl

  pub start_is : slice_get o.routines o.start ≡ Some (plain_at 0)
  start_is =
      let blocks = is.blocks in
      ap (slice_get o.routines) (is.start ∙ sym blocks.count)
      ∙ (ap (λ l. slice_get l (length is.entries)) is.routines ∙ behind is.entries (plain_at 0) (plain_at begins_stop ∷ is.swapping ∷ is.filling ∷ is.ranging ∷ is.spreading ∷ is.elaborating))

  stop_is : slice_get o.routines o.stop ≡ Some (plain_at begins_stop)
  stop_is =
      let blocks = is.blocks in
      ap (slice_get o.routines) (is.stop ∙ ap (λ k. k + 1) (sym blocks.count))
      ∙ (ap (λ l. slice_get l (length is.entries + 1)) is.routines ∙ one_behind is.entries (plain_at 0) (plain_at begins_stop) (is.swapping ∷ is.filling ∷ is.ranging ∷ is.spreading ∷ is.elaborating))

  module _ (declared : Declarations) (layout : Layout) (types : declared.types ≡ u.types) (many : declared.first_private ≡ first_private u) (are_declared : AreDeclared declared u.name 0 (unit_variables u)) (distinct : HasDistinctNames G) (scene : Scene declared layout G ps p o.texts) (call : Handler) (steady_call : IsSteadyHandler call) (n : ℕ) (kept : CallsAreKept declared layout G ps call n) (no_routine : declared.levels ≡ []) (of_unit : declared.home ≡ u.name) where
    -- the slots of the variables are not hidden
    free : VariablesAreFree declared G (kept_slots layout G) (placed_object_unit p o)
    free unit there k v is_declared hidden =
        let laid = scene.laid_out (placed_object_unit p o).name k v is_declared in
        not_hidden (subst IsTrue (ap (λ x. is_hidden_in layout x k) there ∙ ap no_variable laid.there) hidden)
      where
        not_hidden : IsTrue false → ⊥
        not_hidden h = cc

    -- each type has a reference of its number
    referred : AreReferred declared (placed_object_unit p o).name declared.types o.references
    referred =
        subst (λ n. AreReferred declared n declared.types o.references) (sym is.name) (subst (λ ts. AreReferred declared u.name ts o.references) (sym types) (types_referred declared u o is many))

    -- and so are the routines that structured values call
    unit_swap : IsSwapReferred declared (placed_object_unit p o).name o.references
    unit_swap = subst (λ n. IsSwapReferred declared n o.references) (sym is.name) (swap_referred declared u o is many)

    unit_arrays : AreArraysReferred declared (placed_object_unit p o).name o.references
    unit_arrays = subst (λ n. AreArraysReferred declared n o.references) (sym is.name) (arrays_referred declared u o is many)

    own_referred : AreReferred declared u.name declared.types o.references
    own_referred = subst (λ ts. AreReferred declared u.name ts o.references) (sym types) (types_referred declared u o is many)

    -- names are declared in a block of the unit
    at_home : IsHome declared (placed_object_unit p o).name declared.types
    at_home = (is.name ∙ sym of_unit, refl)

    -- the machine makes the variables of the unit
    makes : {Here : Facts} → Lasts (kept_slots layout G) Here
        → MakesFollow layout G (kept_slots layout G) Here p call n u
    makes {Here = Here} lasts injection memory below d enough home framed =
        let there : RunsInUnit G memory.frames (placed_object_unit p o) = record { calls = framed.calls; unit = ap (slice_get G.units) framed.unit ∙ stands.unit } in
        fragment_to {to = p.instructions.before + (0 + begins_block)} (omega arith) (make_all_moves declared layout G (kept_slots layout G) Here lasts ps p o.references call steady_call n (placed_object_unit p o) free distinct scene.types_valid scene.laid_out at_home among_same kept referred unit_swap unit_arrays u.name is.name n 0 0 (made_by_unit u) (made_declared declared u.name (made_by_unit u) (with_variables (unit_block u)) are_declared) (omega (arith, is.unit_slots, length-append (made_by_unit u) (with_variables (unit_block u)))) makes_stand injection memory below d enough there (home ∙ sym is.name))

    -- each variable of the unit has a slot of its frame
    its_slot : (k : ℕ) (v : UnitVariable) → declared.variables (placed_object_unit p o).name k ≡ Some v → k < (placed_object_unit p o).slots
    its_slot k v h =
        let x = scene.variables_stand (placed_object_unit p o).name k v h in
        let same : x.number ≡ p.unit = distinct x.number p.unit x.image_unit (placed_object_unit p o) x.there stands.unit x.named in
        let one : x.image_unit ≡ placed_object_unit p o = same_Some x.image_unit (placed_object_unit p o) (sym x.there ∙ (ap (slice_get G.units) same ∙ stands.unit)) in
        subst (λ (y : ImageUnit). k < y.slots) one x.within

    -- the machine follows the `Bind` of the variable of a `with`
    binds : (injection : Injection) (s : meaning.State) (memory : MachineMemory) → memory.frames.calls ≡ [] → memory.frames.unit ≡ p.unit
        → BindsFollow declared layout G (kept_slots layout G) (Since (kept_slots layout G) injection s memory) ps p o.references call n u.name
    binds injection s memory alone at_home =
        unit_binds_follow since_lasts ps p o.references call n u.name no_routine (placed_object_unit p o) (is.name ∙ sym of_unit) free distinct scene.laid_out its_slot
        (λ longer t after since. same_frame G (placed_object_unit p o) memory.frames after.frames since.routine (record { calls = alone; unit = ap (slice_get G.units) at_home ∙ stands.unit }))

    -- the machine follows a statement of the unit, in its frame
    block_moves : (injection : Injection) (s : meaning.State) (memory : MachineMemory) → memory.frames.calls ≡ [] → memory.frames.unit ≡ p.unit
        → (block : Stmt) (at : ℕ) (code : List Instr) → IsStmt declared block → IsStmtCode o.texts o.references at block code → CodeStands G ps p o.references at code → at + length code < p.instructions.own
        → Moves layout G (kept_slots layout G) (Since (kept_slots layout G) injection s memory) ps p o.texts o.references call n u.name at (at + length code) (exec call n u.name block)
    block_moves injection s memory alone at_home block at code valid is_code code_stands inside =
        let knows : KnowsNames declared (Since (kept_slots layout G) injection s memory) = λ longer t after since. none_named declared no_routine longer t after in
        statement_moves {Here = Since (kept_slots layout G) injection s memory} since_lasts ps p o.texts o.references call steady_call n u.name room scene
        (λ x_kind x is_x line at code is_code x_stands inside v1 m1 operands d enough x_home. expression_follows ps p o.texts o.references scene knows call steady_call n u.name room since_lasts among_same n kept (sym of_unit) own_referred (swap_referred declared u o is many) (arrays_referred declared u o is many) x_kind x is_x line at code is_code x_stands inside v1 m1 operands d (omega arith) x_home)
        (λ q q_valid t has_type line at code is_code x_stands inside v1 m1 operands d enough x_home. place_follows ps p o.texts o.references scene knows call steady_call n u.name room since_lasts among_same n kept (sym of_unit) own_referred (swap_referred declared u o is many) (arrays_referred declared u o is many) q q_valid t has_type line at code is_code x_stands inside v1 m1 operands d (omega arith) x_home)
        (λ line at to callee k given xs r keeps given_valid is_code is_declared named xs_stands xs_inside v1 m1 operands d enough x_home rest steady behind. call_then ps p o.texts o.references scene knows call steady_call n u.name room since_lasts among_same n kept (sym of_unit) own_referred (swap_referred declared u o is many) (arrays_referred declared u o is many) {to = to} line at callee k given xs r keeps given_valid is_code is_declared named xs_stands xs_inside v1 m1 operands d enough x_home rest steady (λ rs longer after pushed grown routine top. fragment_credit {d = d} {e = λ b. d} (omega arith) (λ b. omega arith) (behind rs longer after pushed grown routine top)))
        kept (binds injection s memory alone at_home) block at code valid is_code code_stands inside

    -- A routine of the object that takes nothing simulates, behind the step of its call, what the machine follows from its entry to a `Return`.
    simulates : (number entry to : ℕ) → slice_get o.routines number ≡ Some (plain_at entry) → entry < p.instructions.own → slice_get G.instructions (p.instructions.before + to) ≡ Some return_code → (body : Computation (Unit {0}))
        → ((injection : Injection) (s : meaning.State) (memory : MachineMemory) (below : List Operand) → memory.frames.calls ≡ [] → memory.frames.unit ≡ p.unit → unit_in G memory.frames ≡ u.name
        → Fragment layout G (Since (kept_slots layout G) injection s memory) n (point injection memory (p.instructions.before + entry) below) body (p.instructions.before + to) (λ a. Inside (kept_slots layout G) injection memory (Bare below a)) routine_credit (λ a. routine_credit))
        → Simulates layout G p.unit (moved p.routines number) n (spend 1 body) Bare
    simulates number entry to number_is inside return_stands body moves =
        record {
          image_routine = placed_routine p (plain_at entry);
          there = routine_there number (plain_at entry) number_is;
          of_unit = refl;
          body = body;
          called = refl;
          follows = λ m le injection memory below s k enters.
              let its = moves injection s memory below enters.without_calls enters.in_unit (home number (plain_at entry) number_is memory.frames enters.without_calls enters.runs) in
              follows_from (at_entry number (plain_at entry) number_is inside enters)
              (follows_less {n = n} (omega arith) (follows_post (λ a t l lands. record { place = p.instructions.before + to; instruction = return_code; stands = return_stands; returns = (let routine = lands.post.routine in subst (λ (x : State). obey G return_code x ≡ light Returns) (sym lands.is) (returns_from (p.instructions.before + to) lands.operands lands.memory t.trace (no_calls memory.frames.calls lands.memory.frames.calls routine.calls enters.without_calls))); lands = lands }) (its.by s enters.matches (since_here injection s memory))));
        }

    -- the start makes the variables and runs its statement
    pub start_simulates : IsStmt declared (stmt_of u.start) → Simulates layout G p.unit (moved p.routines o.start) n (start_of call n u) Bare
    start_simulates valid =
        simulates o.start 0 ends_block start_is (omega (arith, instructions_own)) block_stands.1.0 (bind (make_all call n u.name 0 (made_by_unit u)) (λ a. exec call n u.name (stmt_of u.start)))
        (λ injection s memory below alone at_home at_unit.
        body_follows {Here = Since (kept_slots layout G) injection s memory} ps p o.texts o.references call steady_call n u (makes since_lasts) ends_block
        (block_moves injection s memory alone at_home (stmt_of u.start) begins_block is.code valid is.is_code block_stands.0 (omega (arith, instructions_own)))
        injection memory below routine_credit (omega arith) at_unit (record { calls = alone; unit = at_home }))

    -- and the stop runs its own
    pub stop_simulates : IsStmt declared (stmt_of u.stop) → Simulates layout G p.unit (moved p.routines o.stop) n (stop_of call n u) Bare
    stop_simulates valid =
        simulates o.stop begins_stop ends_stop stop_is (omega (arith, instructions_own)) stop_stands.1.0 (exec call n u.name (stmt_of u.stop))
        (λ injection s memory below alone at_home at_unit.
        block_moves injection s memory alone at_home (stmt_of u.stop) begins_stop is.stop_code valid is.is_stop_code stop_stands.0 (omega (arith, instructions_own))
        injection memory below routine_credit (omega arith) at_unit)

  module _ (given : List GivenUnit) (valid : IsValid given u) (stand : GivenStand G ps given) where
    -- the variables that may be named have their slots
    variable_stands : (unit : List ℕ) (k : ℕ) (v : UnitVariable) → (declared_of given u).variables unit k ≡ Some v → VariableStands G ps unit k
    variable_stands unit k v h = elim (declared_is given u unit k v h) [ inl w ↦ subst (λ n. VariableStands G ps n k) w.0 (own_stand (slice_get_within (unit_variables u) k v w.1)) | inr w ↦ stand unit k v w ]
      where
        own_stand : k < length (unit_variables u) → VariableStands G ps u.name k
        own_stand less = slots_stand u o G ps p stands is.name (omega (arith, is.unit_slots)) k less

    -- what the code of the unit needs of the image is there
    pub scene_of : (layout : Layout) → AreLaidOut (declared_of given u) layout → Scene (declared_of given u) layout G ps p o.texts
    scene_of layout laid =
        let whole = of_object in
        record {
          texts_stand = λ k bytes h. let within = slice_get_within o.texts k bytes h in record { own = lt-ltb k p.texts.own (omega (arith, whole.texts, within)); there = stands.texts k bytes h };
          variables_stand = variable_stands;
          types_valid = declared_valid given u valid;
          own_types_valid = λ up k v is. absurd (none_declared (variables_up (declared_of given u) up) refl k v is);
          laid_out = laid;
        }

    module _ (distinct : HasDistinctNames G) (layout : Layout) (laid : AreLaidOut (declared_of given u) layout) (call : Handler) (steady_call : IsSteadyHandler call) (n : ℕ) (kept : CallsAreKept (declared_of given u) layout G ps call n) where
      pub unit_simulates : Simulates layout G p.unit (moved p.routines o.start) n (start_of call n u) Bare
      unit_simulates = start_simulates (declared_of given u) layout refl refl (own_declared given u) distinct (scene_of layout laid) call steady_call n kept refl refl valid.start

      pub unit_stop_simulates : Simulates layout G p.unit (moved p.routines o.stop) n (stop_of call n u) Bare
      unit_stop_simulates = stop_simulates (declared_of given u) layout refl refl (own_declared given u) distinct (scene_of layout laid) call steady_call n kept refl refl valid.stop
