-- A typed unit that the rules give is valid.
use Rattle.std.proofs.Common.{◌≡◌, ◌∙◌, ℕ, ◌≤◌, List, [], ◌∷◌, map, length, Option, Some, None, option_map, slice_get, refl, sym, ap, subst, arith}
use Rattle.std.proofs.lemmas.List.Elements.{All-nil, All-same}
use Rattle.std.proofs.lemmas.Option.{slice_get-map}
use Rattle.ep_outside.specs.Known.{IsPrefix}
use Rattle.ep_tree.specs.declared.component.Component.TheVariants as component_is
use Rattle.ep_tree.specs.declared.component.Program.{Program}
use Rattle.ep_values.specs.Operations.{maxint}
use Rattle.ep_typed.specs.Trees.{Stmts}
use Rattle.ep_meaning.specs.Units as given
use Rattle.ep_meaning.specs.Units.{IsGivenUnit, IsRoutine, IsValid, headed_routines, levels_of, own}
use Rattle.ep_meaning.specs.Valid.{IsConstant, IsStmt, IsType, IsVariable, in_routine}
use Rattle.ep_typed.specs.Viewed.{stmt_of}
use Rattle.ep_typed.specs.declared.unit.Unit.{Unit as TypedUnit}
use Rattle.ep_typed.specs.declared.unit.UnitRoutine.{UnitRoutine}
use Rattle.ep_rules.specs.Judgements.{Judged, Accepts, Breaks}
use Rattle.ep_expr_laws.specs.Laws.{BoundsAreKnown, BoundsAreSound, ConstantsAreKnown, ConstantsAreSound, InitialStatesAreSound}
use Rattle.ep_unit_laws.proofs.Auxiliaries.{AreBehind, auxiliaries_of, for_auxiliaries, for_in_auxiliaries, unit_behind, unit_unmade, with_auxiliaries}
use Rattle.ep_scope.specs.Scopes.{depth_in}
use Rattle.ep_expr_laws.specs.Agreement.{AgreesBy, structures_of}
use Rattle.ep_stmt_laws.specs.Laws.{ResultsAreThere, StatementsAreSound}
use Rattle.ep_stmt_rules.specs.Statements.{Judgement, Passes, Waits, Fails, after}
use Rattle.ep_stmt_laws.proofs.public.judged.Auxiliaries.{bounded_there, members_there}
use Rattle.ep_stmt_rules.proofs.public.judged.Fits.{Fits}
use Rattle.ep_check_unit.specs.Declarations.{Standing, Stands, Falls, and_then, at_line, scopes_of}
use Rattle.ep_check_unit.specs.Functions.{assigned_functions}
use Rattle.ep_check_unit.specs.Routines.{context_of, locals_of, parts_declared, statements_judged}
use Rattle.ep_unit_laws.specs.Laws.{UnitsAreValid}
use Rattle.ep_check_unit.specs.Units.{IsTypedProgram, IsUnitOf, ProgramForm, body_judged, declarations_wait, first_missing, parameters_entered, program_block, program_form, program_judged, unless_missing}
use Rattle.ep_check_unit.specs.Blocks.{Block, routine_form}
use Rattle.ep_unit_laws.proofs.Agreeing.{block_agrees, structures_in_view, within}
use Rattle.ep_unit_laws.proofs.Holds.{Holds, HoldsStructuredType, HoldsParameter, HoldsRoutine, HoldsRoutines, head_of, holds_scopes, innermost, levels_at, type_values}
use Rattle.ep_unit_laws.proofs.Open.{IsOpen}
use Rattle.ep_unit_laws.proofs.Items.{LeadsOn, parameters_lead}
use Rattle.ep_unit_laws.proofs.Leading.{Leads, head_in, leads_trans, variables_in}
use Rattle.ep_unit_laws.proofs.Prefixes.{prefix_refl}
use Rattle.ep_unit_laws.proofs.Routines.{parts_lead}

-- a program that passes, by its parts
record IsMade (p : Program) (form : ProgramForm) : Type 0 where
  first : Block
  entered : parameters_entered p.parameters (program_block p) ≡ Accepts first
  declared : parts_declared p.parts first ≡ Stands form.block
  waits : form.block.waits ≡ None
  statements : statements_judged form.block p.body ≡ Passes form.statements

-- the declarations and statements of what passes
record BodyPasses (p : Program) (s : Standing) (form : ProgramForm) : Type 0 where
  stands : s ≡ Stands form.block
  waits : form.block.waits ≡ None
  statements : statements_judged form.block p.body ≡ Passes form.statements

row_passes : (p : Program) (b : Block) (missing waits : Option ℕ) (row : Judgement Stmts) (form : ProgramForm) → b.waits ≡ waits → statements_judged b p.body ≡ row
    → unless_missing missing (after program_form (declarations_wait b waits) row) ≡ Passes form → BodyPasses p (Stands b) form
row_passes p b None None (Passes ss) form w c e =
    let is : program_form b ss ≡ form = cc in
    subst (BodyPasses p (Stands b)) is (record { stands = refl; waits = w; statements = c })
row_passes p b None None (Waits line) form w c e = cc
row_passes p b None None (Fails line rules) form w c e = cc
row_passes p b None (Some line) (Passes ss) form w c e = cc
row_passes p b None (Some line) (Waits other) form w c e = cc
row_passes p b None (Some line) (Fails other rules) form w c e = cc
row_passes p b (Some at) None (Passes ss) form w c e = cc
row_passes p b (Some at) None (Waits line) form w c e = cc
row_passes p b (Some at) None (Fails line rules) form w c e = cc
row_passes p b (Some at) (Some line) (Passes ss) form w c e = cc
row_passes p b (Some at) (Some line) (Waits other) form w c e = cc
row_passes p b (Some at) (Some line) (Fails other rules) form w c e = cc

body_passes : (p : Program) (s : Standing) (form : ProgramForm) → body_judged p s ≡ Passes form → BodyPasses p s form
body_passes p (Stands b) form e = row_passes p b (first_missing b.forwards b.bodies) b.waits (statements_judged b p.body) form refl refl e
body_passes p (Falls line rules) form e = cc

parts_pass : (p : Program) (j : Judged Block) (form : ProgramForm) → parameters_entered p.parameters (program_block p) ≡ j → BodyPasses p (and_then (parts_declared p.parts) (at_line p.line j)) form → IsMade p form
parts_pass p (Accepts first) form e h = record { first = first; entered = e; declared = h.stands; waits = h.waits; statements = h.statements }
parts_pass p (Breaks rules) form e h = let s = h.stands in cc

program_made : (p : Program) (form : ProgramForm) → program_judged p ≡ Passes form → IsMade p form
program_made p form e =
    parts_pass p (parameters_entered p.parameters (program_block p)) form refl (body_passes p (and_then (parts_declared p.parts) (at_line p.line (parameters_entered p.parameters (program_block p)))) form e)

-- ---- the routines of the unit, by those of the block

-- their headings are those of the unit
forms_headings : (rs : List UnitRoutine) → map head_in (map routine_form rs) ≡ map head_of rs
forms_headings [] = refl
forms_headings (r ∷ rs) = ap (λ hs. head_of r ∷ hs) (forms_headings rs)

-- a routine at its place, by its form
form_there : (rs : List UnitRoutine) (n : ℕ) (r : UnitRoutine) → slice_get rs n ≡ Some r → slice_get (map routine_form rs) n ≡ Some (routine_form r)
form_there rs n r at = slice_get-map routine_form rs n ∙ ap (option_map routine_form) at

routine_valid : (u : TypedUnit) (number : ℕ) (r : UnitRoutine) → slice_get u.routines number ≡ Some r → HoldsRoutine u number (routine_form r) → IsRoutine [] u number r
routine_valid u number r at held = record {
  formals = held.formals;
  result = held.result;
  variables = held.variables;
  around = held.around;
  block = subst (λ o. IsStmt (in_routine (record { number = number; variables = given.variables_in o; first_with = given.first_with_in o } ∷ levels_of u.routines r.around) (own u)) (stmt_of r.block)) at held.block;
}

routines_valid : (u : TypedUnit) → HoldsRoutines u (map routine_form u.routines) → (number : ℕ) (r : UnitRoutine) → slice_get u.routines number ≡ Some r → IsRoutine [] u number r
routines_valid u held number r at = routine_valid u number r at (held number (routine_form r) (form_there u.routines number r at))

module _ (statements : StatementsAreSound) (constants : ConstantsAreSound) (bounds : BoundsAreSound) (constant_hosts : ConstantsAreKnown) (bound_hosts : BoundsAreKnown) (initial_states : InitialStatesAreSound) where
  -- all declarations lead to its block
  block_leads : (p : Program) (u : TypedUnit) (form : ProgramForm) → IsMade p form → length u.constants ≤ maxint → Leads u (program_block p) form.block
  block_leads p u form made few =
      let entered : Leads u (program_block p) made.first = subst (Fits (Leads u (program_block p))) made.entered (parameters_lead u p.parameters (program_block p)) in
      let declared : Leads u made.first form.block = subst (LeadsOn u made.first) made.declared (parts_lead u few statements constants bounds constant_hosts bound_hosts initial_states p.parts made.first) in
      leads_trans u (program_block p) made.first form.block entered declared

  -- in which no routine is under way
  none_under_way : (p : Program) (u : TypedUnit) (form : ProgramForm) → IsMade p form → length u.constants ≤ maxint → form.block.own.enclosing ≡ []
  none_under_way p u form made few = (block_leads p u form made few).grows.enclosing

  block_open : (p : Program) (u : TypedUnit) (form : ProgramForm) → IsMade p form → length u.constants ≤ maxint → IsOpen form.block
  block_open p u form made few = (block_leads p u form made few).grows.opens (record { things = tt; around = tt; under_way = tt; below = tt })

  -- so it assigns to the name of no function
  no_result : (p : Program) (u : TypedUnit) (form : ProgramForm) → IsMade p form → length u.constants ≤ maxint → ResultsAreThere (own u) (type_values u) (depth_in (scopes_of form.block)) (assigned_functions form.block.own.enclosing)
  no_result p u form made few = subst (λ es. ResultsAreThere (own u) (type_values u) (depth_in (scopes_of form.block)) (assigned_functions es)) (sym (none_under_way p u form made few)) tt

  -- the unit holds its block
  block_held : (p : Program) (u : TypedUnit) (form : ProgramForm) → IsMade p form → length u.constants ≤ maxint → IsUnitOf p form u → Holds u (length form.block.types) form.block
  block_held p u form made few is =
      let all = block_leads p u form made few in
      all.holds (record { things = tt; around = tt; under_way = tt; below = tt })
      (record {
        types = subst (IsPrefix form.block.types) (sym is.types) (prefix_refl form.block.types);
        constants = subst (IsPrefix form.block.constants) (sym is.constants) (prefix_refl form.block.constants);
        variables = subst (IsPrefix form.block.variables) (sym is.variables) (prefix_refl form.block.variables);
        line = 0;
        name = [];
        own = subst (λ vs. IsPrefix (variables_in 0 [] vs) (innermost (levels_at u.routines vs.enclosing))) (sym (all.grows.alone refl)) (prefix_refl []);
        headings = subst (IsPrefix (map head_in form.block.routines)) (ap (map head_in) (sym is.routines) ∙ forms_headings u.routines) (prefix_refl (map head_in form.block.routines));
        bodies = λ n r has at. subst (λ rs. slice_get rs n ≡ Some r) (sym is.routines) at;
      })
      made.waits
      (record {
        unit = sym is.name;
        names = record { things = tt; plain = (refl, refl); structures = All-nil (HoldsStructuredType u 0); outer = (tt, (refl, refl), All-nil (HoldsStructuredType u 0), tt) };
        lists = record { types = All-nil (IsType u.types); constants = All-nil (IsConstant u.types); variables = All-nil (IsVariable u.types) };
        under_way = record { parameters = All-nil (HoldsParameter u 0); result = tt; owned = All-nil (IsVariable u.types); headed = tt; results = tt };
        routines = λ n r at. cc;
      })

  program_valid : (p : Program) (u : TypedUnit) → IsTypedProgram p u → length u.constants ≤ maxint → IsValid [] u
  program_valid p u t few =
      let made = program_made p t.form t.passes in
      let held = block_held p u t.form made few t.unit in
      let le : length t.form.block.types ≤ length u.types = omega (arith, ap length t.unit.types) in
      let auxiliaries : AreBehind (own u) u.types (locals_of t.form.block) (auxiliaries_of t.form.statements) =
      unit_behind u t.form.block t.form.statements held.unit t.unit.variables t.unit.start t.unit.stop (none_under_way p u t.form made few) in
      record {
        heading = λ k r less there. absurd (let none : headed_routines u.interface ≡ 0 = ap headed_routines t.unit.interface in omega (arith, none, less));
        given_valid = All-nil (IsGivenUnit u.types);
        types = All-same (IsType u.types) u.types t.form.block.types t.unit.types held.types;
        constants = All-same (IsConstant u.types) u.constants t.form.block.constants t.unit.constants held.constants;
        variables = All-same (IsVariable u.types) u.variables t.form.block.variables t.unit.variables held.variables;
        routines = routines_valid u (subst (HoldsRoutines u) (sym t.unit.routines) held.routines);
        start = subst (IsStmt (own u)) (sym t.unit.start)
            (statements (context_of t.form.block p.body) p.body t.form.statements made.statements (own u) (
              type_values u,
              subst (λ es. AgreesBy (within u es) (type_values u) (structures_of (scopes_of t.form.block)) (depth_in (scopes_of t.form.block)) (scopes_of t.form.block)) (none_under_way p u t.form made few)
                  (block_agrees u (length t.form.block.types) t.form.block (block_open p u t.form made few) le held),
            ) (no_result p u t.form made few)
            (for_auxiliaries (own u) u.types (locals_of t.form.block) t.form.statements auxiliaries)
            (for_in_auxiliaries (own u) u.types (locals_of t.form.block) t.form.statements auxiliaries (scopes_of t.form.block) p.body (bounded_there (context_of t.form.block p.body) p.body t.form.statements made.statements))
            (with_auxiliaries (own u) u.types (locals_of t.form.block) t.form.statements auxiliaries (type_values u) (structures_of (scopes_of t.form.block)) (λ of. refl)
            (structures_in_view u t.form.block.own.enclosing (length t.form.block.types) (scopes_of t.form.block) le (holds_scopes u (length t.form.block.types) t.form.block held))
            (unit_unmade u t.form.block t.form.statements held.unit t.unit.variables t.unit.start t.unit.stop (none_under_way p u t.form made few)) (scopes_of t.form.block) p.body
            (bounded_there (context_of t.form.block p.body) p.body t.form.statements made.statements) (members_there (context_of t.form.block p.body) p.body t.form.statements made.statements)));
        stop = subst (IsStmt (own u)) (sym t.unit.stop) tt;
      }

  pub units_valid : UnitsAreValid
  units_valid (component_is.Program p) u t few = program_valid p u t few
  units_valid (component_is.Heading h) u t few = absurd t
  units_valid (component_is.Block b) u t few = absurd t
  units_valid (component_is.Module m) u t few = absurd t
