-- Blocks of routines lead from one block to the next, and so do all parts of a block.
use Rattle.std.proofs.Common.{◌≡◌, ℕ, ◌+◌, zero, suc, ◌≤◌, Bool, true, false, List, [], ◌∷◌, ◌++◌, map, length, Option, Some, None, option_map, slice_get, refl, sym, ap, ◌∙◌, subst, append_assoc, arith}
use Rattle.std.proofs.lemmas.List.{length-append, length-map}
use Rattle.std.proofs.lemmas.List.Elements.{All-head, All-nil, All-tail}
use Rattle.std.proofs.lemmas.Option.{slice_get-map}
use Rattle.std.specs.Option.{option_or}
use Rattle.std.specs.Prelude.{All, slice_set}
use Rattle.ep_tree.specs.declared.routine.BlockPart.TheFolds.{fold-roll-BlockPart, fold-roll-Routine, fold-roll-RoutineBody, ind-BlockPart}
use Rattle.ep_tree.specs.declared.routine.BlockPart.TheOpen.{BlockPart-F, Routine-F, RoutineBody-F}
use Rattle.ep_tree.specs.declared.routine.BlockPart.{BlockPart, map-BlockPart, roll-BlockPart}
use Rattle.ep_tree.specs.declared.routine.Routine.{Routine, map-Routine, roll-Routine}
use Rattle.ep_tree.specs.declared.routine.RoutineBody.{RoutineBody, map-RoutineBody, roll-RoutineBody}
use Rattle.ep_tree.specs.declared.routine.RoutineStart.{RoutineStart}
use Rattle.ep_tree.specs.declared.statement.Compound.{Compound}
use Rattle.ep_outside.specs.Known.{IsPrefix}
use Rattle.ep_typed.specs.Auxiliaries.{block_auxiliaries, with_variables, with_variables_of}
use Rattle.ep_values.specs.Operations.{maxint}
use Rattle.ep_typed.specs.Routines.{result_name, result_variable}
use Rattle.ep_typed.specs.Trees as tree
use Rattle.ep_typed.specs.Trees.{Stmt, Stmts}
use Rattle.ep_meaning.specs.Units as given
use Rattle.ep_meaning.specs.Units.{levels_of, own}
use Rattle.ep_meaning.specs.Valid.{AreStmts, IsStmt, IsVariable, in_routine}
use Rattle.ep_typed.specs.Routines.{formal_variable}
use Rattle.ep_typed.specs.declared.interface.RoutineResult.{RoutineResult}
use Rattle.ep_typed.specs.declared.unit.Unit.{Unit as TypedUnit}
use Rattle.ep_typed.specs.declared.unit.UnitRoutine.{UnitRoutine}
use Rattle.ep_typed.specs.declared.unit.UnitVariable.{UnitVariable}
use Rattle.ep_scope.specs.Parameters.{protection_of}
use Rattle.ep_scope.specs.Scopes.{Row, closed, closed_onto}
use Rattle.ep_scope.specs.declared.parameter.FormalParameter.{FormalParameter}
use Rattle.ep_scope.specs.declared.parameter.Protection.TheVariants as protection
use Rattle.ep_scope.specs.declared.thing.Declaration.TheVariants as declaration
use Rattle.ep_rules.specs.Judgements.{Judged, Accepts, Breaks}
use Rattle.ep_expr_laws.specs.Agreement.{structures_of}
use Rattle.ep_expr_laws.specs.Laws.{BoundsAreKnown, BoundsAreSound, ConstantsAreKnown, ConstantsAreSound, InitialStatesAreSound}
use Rattle.ep_stmt_laws.specs.Laws.{StatementsAreSound}
use Rattle.ep_stmt_rules.specs.Statements.{Judgement, Passes, Waits, Fails}
use Rattle.ep_stmt_laws.proofs.public.judged.Auxiliaries.{bounded_there, members_there}
use Rattle.ep_stmt_rules.proofs.public.judged.Fits.{Fits, fits_then}
use Rattle.ep_unit_rules.specs.Own.{around_of, own_count, result_count}
use Rattle.ep_check_unit.specs.Blocks.{Block, RoutineForm, routine_form}
use Rattle.ep_unit_rules.specs.Types.{type_denoter}
use Rattle.ep_check_unit.specs.Declarations.{Standing, Stands, Falls, and_then, at_line, entered, own_thing, scopes_of, type_definitions}
use Rattle.ep_unit_rules.specs.Functions.{in_block, own_result, result_name as given_name}
use Rattle.ep_check_unit.specs.Functions.{if_given, is_assigned, is_in_view, is_named, own_name_entered, result_entered, row_gives}
use Rattle.ep_unit_rules.specs.Formals.{formal_of}
use Rattle.ep_unit_rules.specs.Headings.{start_name}
use Rattle.ep_unit_rules.specs.Numbers.{has_number}
use Rattle.ep_threats.specs.RoutineForms.{set_to, with_its_block}
use Rattle.ep_check_unit.specs.Routines.{BodyJudged, Headed, PartJudged, all_declared, block_declared, body_closed, body_declared, body_ended, context_of, first_auxiliary, formals_entered, forwarded, given_among, heading_entered, inside_declared, locals_in, locals_of, of_body, of_part, of_routine, part_judged, parts_declared, routine_body_judged, routine_judged, scope_opened, start_headed, statements_judged}
use Rattle.ep_unit_rules.specs.declared.own.Enclosing.{Enclosing}
use Rattle.ep_unit_rules.specs.declared.own.OwnResult.{OwnResult}
use Rattle.ep_unit_rules.specs.declared.functions.HeadingResult.{HeadingResult}
use Rattle.ep_check_unit.proofs.public.Forms.{each_set}
use Rattle.ep_unit_laws.proofs.Auxiliaries.{AreBehind, IsUnmadeFrom, auxiliaries_of, for_auxiliaries, for_in_auxiliaries, own_behind, own_unmade, with_auxiliaries}
use Rattle.ep_unit_laws.proofs.Denoting.{DenotesKind}
use Rattle.ep_unit_laws.proofs.Headings.{HeadsOn, HoldsHeaded, IsResultOf, after_heading, forward_leads, headed_leads}
use Rattle.ep_unit_laws.proofs.Agreeing.{holds_agrees, holds_results, structures_in_view, within}
use Rattle.ep_unit_laws.proofs.Holds.{Head, Holds, HoldsStructuredType, HoldsOwn, HoldsOwnResult, HoldsParameter, HoldsResult, HoldsResultOf, HoldsRoutine, HoldsNames, HoldsRoutines, head_of, holds_more, holds_scopes, innermost, levels_at, name_denotes, own_innermost, results_deeper, scopes_deeper, type_values}
use Rattle.ep_unit_laws.proofs.Items.{LeadsOn, constants_lead, further, line_leads, then_leads, type_definitions-leads, variables_lead}
use Rattle.ep_unit_laws.proofs.Leading.{Extends, Grows, Leads, entered_leads, extends_before, head_in, leads_on, leads_refl, result_in, variables_in, waits_some}
use Rattle.ep_unit_laws.proofs.Prefixes.{length_push, prefix_get, prefix_length, prefix_trans}
use Rattle.ep_unit_laws.proofs.Open as around
use Rattle.ep_unit_laws.proofs.Open.{IsOpen, IsOpenBy, KeepsBodies, pushed_kept, pushed_there}
use Rattle.ep_meaning.proofs.public.Lists.{get_within}

-- ---- places of lists

same_there : {A : Type 0} (o : Option A) (x y : A) → o ≡ Some x → o ≡ Some y → x ≡ y
same_there o x y e f = cc

-- an item that is replaced, and the others
set_same : {A : Type 0} (xs : List A) (n : ℕ) (x y : A) → slice_get xs n ≡ Some x → slice_get (slice_set xs n y) n ≡ Some y
set_same [] n x y e = cc
set_same (z ∷ zs) zero x y e = refl
set_same (z ∷ zs) (suc n) x y e = set_same zs n x y e

set_other : {A : Type 0} (xs : List A) (n m : ℕ) (x y : A) → (n ≡ m → ⊥) → slice_get xs m ≡ Some x → slice_get (slice_set xs n y) m ≡ Some x
set_other [] n m x y apart e = cc
set_other (z ∷ zs) zero zero x y apart e = absurd (apart refl)
set_other (z ∷ zs) zero (suc m) x y apart e = e
set_other (z ∷ zs) (suc n) zero x y apart e = e
set_other (z ∷ zs) (suc n) (suc m) x y apart e = set_other zs n m x y (λ same. apart (ap suc same)) e

to_same : {A : Type 0} (xs : List A) (n : ℕ) (f : A → A) (x : A) → slice_get xs n ≡ Some x → slice_get (set_to xs n f (slice_get xs n)) n ≡ Some (f x)
to_same xs n f x e = ap (λ o. slice_get (set_to xs n f o) n) e ∙ set_same xs n x (f x) e

to_other : {A : Type 0} (xs : List A) (n m : ℕ) (f : A → A) (o : Option A) (x : A) → (n ≡ m → ⊥) → slice_get xs m ≡ Some x → slice_get (set_to xs n f o) m ≡ Some x
to_other xs n m f None x apart e = e
to_other xs n m f (Some y) x apart e = set_other xs n m x (f y) apart e

set_length : {A : Type 0} (xs : List A) (n : ℕ) (y : A) → length (slice_set xs n y) ≡ length xs
set_length [] n y = refl
set_length (z ∷ zs) zero y = refl
set_length (z ∷ zs) (suc n) y = ap suc (set_length zs n y)

to_length : {A : Type 0} (xs : List A) (n : ℕ) (f : A → A) (o : Option A) → length (set_to xs n f o) ≡ length xs
to_length xs n f None = refl
to_length xs n f (Some y) = set_length xs n (f y)

-- an item between others
all_between : {A : Type 0} (P : A → Type 0) (xs : List A) (y : A) (ys : List A) → All P (xs ++ y ∷ ys) → P y
all_between P [] y ys h = All-head P y ys h
all_between P (x ∷ xs) y ys h = all_between P xs y ys (All-tail P x (xs ++ y ∷ ys) h)

-- a form at a place, and its heading there
heading_at : (rs : List RoutineForm) (n : ℕ) (r : RoutineForm) → slice_get rs n ≡ Some r → slice_get (map head_in rs) n ≡ Some (head_in r)
heading_at rs n r e = slice_get-map head_in rs n ∙ ap (option_map head_in) e

-- headings stay where a routine gets its block
set_headings : (line : ℕ) (vs : List UnitVariable) (s : Stmt) (rs : List RoutineForm) (n : ℕ) → map head_in (set_to rs n (with_its_block line vs s) (slice_get rs n)) ≡ map head_in rs
set_headings line vs s [] n = refl
set_headings line vs s (r ∷ rs) zero = refl
set_headings line vs s (r ∷ rs) (suc n) = at (slice_get rs n) (set_headings line vs s rs n)
  where
    at : (o : Option RoutineForm) → map head_in (set_to rs n (with_its_block line vs s) o) ≡ map head_in rs → map head_in (set_to (r ∷ rs) (suc n) (with_its_block line vs s) o) ≡ head_in r ∷ map head_in rs
    at None e = refl
    at (Some x) e = ap (λ hs. head_in r ∷ hs) e

-- a parameter at a place, as a variable of its routine
formal_at : (line : ℕ) (before : List FormalParameter) (p : FormalParameter) (ps : List FormalParameter) (vs : List UnitVariable)
    → slice_get (map (formal_variable line) (map formal_of (before ++ p ∷ ps)) ++ vs) (length before) ≡ Some (formal_variable line (formal_of p))
formal_at line [] p ps vs = refl
formal_at line (b ∷ before) p ps vs = formal_at line before p ps vs

-- the variable of the result behind them
result_at : (line : ℕ) (name : List ℕ) (ps : List FormalParameter) (r : OwnResult) (vs : List UnitVariable)
    → slice_get (map (formal_variable line) (map formal_of ps) ++ (result_in line name (Some r) ++ vs)) (length ps) ≡ Some (record { name = name; line = line; declaration = 0; denoter = type_denoter r.of.name; tuple = []; parameter = false })
result_at line name [] r vs = refl
result_at line name (p ∷ ps) r vs = result_at line name ps r vs

-- variables behind those of three lists
seam_behind : {A : Type 0} (xs ys zs ws : List A) → (xs ++ (ys ++ zs)) ++ ws ≡ xs ++ (ys ++ (zs ++ ws))
seam_behind xs ys zs ws = append_assoc xs (ys ++ zs) ws ∙ ap (λ l. xs ++ l) (append_assoc ys zs ws)

-- the last two of five lists
two_behind : {A : Type 0} (xs ys zs vs ws : List A) → xs ++ ((ys ++ (zs ++ vs)) ++ ws) ≡ (xs ++ (ys ++ zs)) ++ (vs ++ ws)
two_behind xs ys zs vs ws = ap (λ l. xs ++ l) (append_assoc ys (zs ++ vs) ws ∙ ap (λ l. ys ++ l) (append_assoc zs vs ws)) ∙ sym (seam_behind xs ys zs (vs ++ ws))

-- the name of the variable that has the result of a routine
abbrev result_called : List ℕ → Option RoutineResult → List ℕ
result_called name None = []
result_called name (Some r) = result_name name r.name

abbrev variable_name : Option RoutineForm → List ℕ
variable_name None = []
variable_name (Some r) = result_called r.name r.result

-- so its variable is the one that the block of the routine has
result_same : (line : ℕ) (called : List ℕ) (result : Option RoutineResult) (number variable : ℕ) (r : Option HeadingResult) → IsResultOf r result
    → result_variable called line result ≡ result_in line (result_called called result) (own_result number variable r)
result_same line called result number variable None e = ap (result_variable called line) e
result_same line called result number variable (Some r) e =
    subst (λ x. result_variable called line x ≡ result_in line (result_called called x) (own_result number variable (Some r))) (sym e.1) refl

-- the variables of a routine, by its form
abbrev form_variables : RoutineForm → List UnitVariable
form_variables f = map (formal_variable f.line) f.formals ++ ((result_variable f.name f.line f.result ++ (f.variables ++ block_auxiliaries f.block)) ++ with_variables f.block)

given_variables : (rs : List UnitRoutine) (n : ℕ) (f : RoutineForm) → slice_get (map routine_form rs) n ≡ Some f → given.variables_in (slice_get rs n) ≡ form_variables f
given_variables [] n f e = cc
given_variables (r ∷ rs) zero f e = let same : routine_form r ≡ f = cc in ap form_variables same
given_variables (r ∷ rs) (suc n) f e = given_variables rs n f e

-- the number of the first one that no code makes
abbrev form_first : RoutineForm → ℕ
form_first f = length f.formals + length (result_variable f.name f.line f.result ++ (f.variables ++ block_auxiliaries f.block))

given_first : (rs : List UnitRoutine) (n : ℕ) (f : RoutineForm) → slice_get (map routine_form rs) n ≡ Some f → given.first_with_in (slice_get rs n) ≡ form_first f
given_first [] n f e = cc
given_first (r ∷ rs) zero f e = let same : routine_form r ≡ f = cc in ap form_first same
given_first (r ∷ rs) (suc n) f e = given_first rs n f e

-- how many there are before it
made_length : (line : ℕ) (name : List ℕ) (ps : List FormalParameter) (r : Option OwnResult) (vs made : List UnitVariable)
    → length (map formal_of ps) + length (result_in line name r ++ (vs ++ made)) ≡ length ps + result_count r + length vs + length made
made_length line name ps None vs made = omega (arith, length-map ps formal_of, length-append vs made)
made_length line name ps (Some r) vs made = omega (arith, length-map ps formal_of, length-append vs made)

module _ (u : TypedUnit) (few : length u.constants ≤ maxint) (statements : StatementsAreSound) (constants : ConstantsAreSound) (bounds : BoundsAreSound) (constant_hosts : ConstantsAreKnown) (bound_hosts : BoundsAreKnown) (initial_states : InitialStatesAreSound) where
  -- ---- the block of a routine begins with its formal parameters and its result

  -- a formal parameter is a variable of the routine
  formal_held : (i : ℕ) (before : List FormalParameter) (p : FormalParameter) (ps : List FormalParameter) (b : Block) → b.own.parameters ≡ before ++ p ∷ ps → Extends u b → All (HoldsParameter u i) b.own.parameters
      → HoldsOwn u b.own.enclosing i (length b.own.enclosing) (length before) p.of.is p.kind
  formal_held i before p ps b is e held =
      let x : HoldsParameter u i p = all_between (HoldsParameter u i) before p ps (subst (All (HoldsParameter u i)) is held) in
      let v : UnitVariable = formal_variable e.line (formal_of p) in
      let rest : List UnitVariable = result_in e.line e.name b.own.result ++ b.own.variables in
      let first : slice_get (map (formal_variable e.line) (map formal_of b.own.parameters) ++ rest) (length before) ≡ Some v =
      subst (λ qs. slice_get (map (formal_variable e.line) (map formal_of qs) ++ rest) (length before) ≡ Some v) (sym is) (formal_at e.line before p ps rest) in
      own_innermost u b.own.enclosing i (length before) p.of.is p.kind v x.lists (prefix_get (variables_in e.line e.name b.own) (innermost (levels_at u.routines b.own.enclosing)) (length before) v e.own first)
      (x.denotes.0, subst (λ d. DenotesKind u.types i d p.kind x.denotes.0) (sym (name_denotes p.of.name)) x.denotes.1, x.denotes.2)

  formals_lead : (before ps : List FormalParameter) (n : ℕ) (b : Block) → length before ≡ n → b.own.parameters ≡ before ++ ps → Fits (Leads u b) (formals_entered n ps b)
  formals_lead before [] n b count is = leads_refl u b
  formals_lead before (p ∷ ps) n b count is =
      let t = own_thing b n (declaration.Own p.of.is p.kind (protection_of p.mode)) in
      fits_then (Leads u b) (Leads u b) (formals_entered (suc n) ps) (entered p.name t b)
      (entered_leads u p.name t b (λ under. tt) (λ under e x. (x.unit, subst (λ k. HoldsOwn u b.own.enclosing (length b.types) (length b.own.enclosing) k p.of.is p.kind) count (formal_held (length b.types) before p ps b is e x.parameters))))
      (λ c l. leads_on u b c (formals_entered (suc n) ps c) l
      (formals_lead (before ++ p ∷ []) ps (suc n) c (length_push before p ∙ ap suc count) (l.grows.parameters ∙ (is ∙ sym (append_assoc before (p ∷ []) ps)))))

  -- so is the result
  own_held : (i : ℕ) (r : OwnResult) (b : Block) → b.own.result ≡ Some r → Extends u b → HoldsResult u i b.own.parameters b.own.result → HoldsOwn u b.own.enclosing i (length b.own.enclosing) r.variable r.of.is r.kind
  own_held i r b is e held =
      let x : HoldsOwnResult u i b.own.parameters r = subst (HoldsResult u i b.own.parameters) is held in
      let v : UnitVariable = record { name = e.name; line = e.line; declaration = 0; denoter = type_denoter r.of.name; tuple = []; parameter = false } in
      let first : slice_get (variables_in e.line e.name b.own) (length b.own.parameters) ≡ Some v =
      subst (λ s. slice_get (map (formal_variable e.line) (map formal_of b.own.parameters) ++ (result_in e.line e.name s ++ b.own.variables)) (length b.own.parameters) ≡ Some v) (sym is) (result_at e.line e.name b.own.parameters r b.own.variables) in
      own_innermost u b.own.enclosing i r.variable r.of.is r.kind v x.lists
      (subst (λ n. slice_get (innermost (levels_at u.routines b.own.enclosing)) n ≡ Some v) (sym x.variable) (prefix_get (variables_in e.line e.name b.own) (innermost (levels_at u.routines b.own.enclosing)) (length b.own.parameters) v e.own first))
      (x.denotes.0, subst (λ d. DenotesKind u.types i d r.kind x.denotes.0) (sym (name_denotes r.of.name)) x.denotes.1, x.denotes.2)

  -- a name of its own stands for it
  result_leads : (number : ℕ) (ps : List FormalParameter) (r : Option HeadingResult) (b : Block) → b.own.result ≡ own_result number (length ps) r → Fits (Leads u b) (result_entered number (length ps) r b)
  result_leads number ps None b is = leads_refl u b
  result_leads number ps (Some r) b is = named r.name
    where
      named : (name : Option (List ℕ)) → Fits (Leads u b) (own_name_entered (in_block number (length ps) r) name b)
      named None = leads_refl u b
      named (Some name) =
          entered_leads u name (own_thing b (length ps) (declaration.Own r.of.is r.kind protection.Unprotected)) b
          (λ under. tt) (λ under e x. (x.unit, own_held (length b.types) (in_block number (length ps) r) b is e x.result))

  -- the scopes behind it are those before it
  closed_again : (r : Row) (before : Row) → r.outer ≡ before.inner ∷ before.outer → closed r ≡ before
  closed_again r before e = ap (closed_onto r.inner) e

  given_leads : (b : Block) (line : ℕ) (given : Bool) (s : Standing) → LeadsOn u b s → LeadsOn u b (if_given line given s)
  given_leads b line true s h = h
  given_leads b line false s h = tt

  -- ---- from the block around a routine to the one behind it

  module _ (line : ℕ) (b : Block) (h : Headed) (heads : HeadsOn u b h) where
    -- the routine as one that is under way, and those around it
    abbrev Inner : Enclosing
    Inner = record { number = h.number; result = own_result h.number (length h.parameters) h.result }

    abbrev Around : List Enclosing
    Around = h.block.own.enclosing

    abbrev Opened : Block
    Opened = scope_opened h h.block

    opened_open : IsOpen b → IsOpen Opened
    opened_open under =
        around.opened h.block.scopes.inner.entries h.block.scopes.outer Around (length h.block.routines) h.block.bodies (length Around) Inner h.block.scopes.inner refl (heads.stands.numbered under) (heads.bodiless under) (heads.stands.leads.grows.opens under)

    -- the result of the routine, where it is a function
    opened_result : (i : ℕ) (r : Option OwnResult) → Opened.own.result ≡ r → Extends u Opened → HoldsResult u i h.parameters Opened.own.result → HoldsResultOf u (Inner ∷ Around) i (suc (length Around)) r
    opened_result i None e ext x = tt
    opened_result i (Some r) e ext x = own_held i r Opened e ext x

    -- the scopes around are those of the block around
    opened_held : (i : ℕ) → HoldsHeaded u Around i h.number h.parameters h.result → Extends u Opened → Holds u i h.block → Holds u i Opened
    opened_held i held ext x = record {
      unit = x.unit;
      names = record { things = tt; plain = (refl, refl); structures = All-nil (HoldsStructuredType u i); outer = scopes_deeper u Inner Around i (scopes_of h.block) (holds_scopes u i h.block x) };
      lists = x.lists;
      under_way = record {
        parameters = held.parameters;
        result = held.owned;
        owned = All-nil (IsVariable u.types);
        headed = ((held.heading, held.at), x.headed);
        results = (opened_result i (own_result h.number (length h.parameters) h.result) refl ext held.owned, results_deeper u Inner Around i Around x.results);
      };
      routines = x.routines;
    }

    module _ (c : Block) (inside : Leads u Opened c) where
      -- behind the end of the block, with these routines
      abbrev Behind : List RoutineForm → Option ℕ → Block
      Behind rs waits = record c { scopes = closed c.scopes; own = h.block.own; bodies = c.bodies ++ h.number ∷ []; routines = rs; waits = waits }

      scopes_again : closed c.scopes ≡ h.block.scopes
      scopes_again = closed_again c.scopes h.block.scopes inside.grows.outer

      -- what is known of the numbers at the end of the block
      inside_open : IsOpen b → IsOpenBy c.scopes.inner.entries (h.block.scopes.inner ∷ h.block.scopes.outer) (Inner ∷ Around) (length c.routines) c.bodies
      inside_open under =
          subst (λ es. IsOpenBy c.scopes.inner.entries (h.block.scopes.inner ∷ h.block.scopes.outer) es (length c.routines) c.bodies) inside.grows.enclosing
          (subst (λ rs. IsOpenBy c.scopes.inner.entries rs c.own.enclosing (length c.routines) c.bodies) inside.grows.outer (inside.grows.opens (opened_open under)))

      -- no other routine has its number and a body
      another : IsOpen b → (n : ℕ) → has_number n c.bodies ≡ true → h.number ≡ n → ⊥
      another under n has same = let none = (inside_open under).under_way.0.bodiless in let there : has_number h.number c.bodies ≡ true = subst (λ k. has_number k c.bodies ≡ true) (sym same) has in cc

      behind_open : (rs : List RoutineForm) (waits : Option ℕ) → length rs ≡ length c.routines → IsOpen b → IsOpen (Behind rs waits)
      behind_open rs waits count under =
          subst (λ n. IsOpenBy (closed c.scopes).inner.entries (closed c.scopes).outer Around n (c.bodies ++ h.number ∷ [])) (sym count)
          (subst (λ s. IsOpenBy s.inner.entries s.outer Around (length c.routines) (c.bodies ++ h.number ∷ [])) (sym scopes_again)
          (around.closed c.scopes.inner.entries h.block.scopes.outer Around (length c.routines) c.bodies Inner h.block.scopes.inner (inside_open under)))

      -- what has its body stays, where the others of these routines are those before
      abbrev Others : List RoutineForm → Type 0
      Others rs = (n : ℕ) (r : RoutineForm) → (h.number ≡ n → ⊥) → slice_get c.routines n ≡ Some r → slice_get rs n ≡ Some r

      behind_keeps : (rs : List RoutineForm) (waits : Option ℕ) → Others rs → IsOpen b → KeepsBodies h.block (Behind rs waits)
      behind_keeps rs waits others under n r has at =
          let k = inside.grows.bodies (opened_open under) n r has at in
          (pushed_kept n h.number c.bodies k.0, others n r (another under n k.0) k.1)

      behind_grows : (rs : List RoutineForm) (waits : Option ℕ) → length rs ≡ length c.routines → map head_in rs ≡ map head_in c.routines → Others rs → (waits ≡ None → c.waits ≡ None) → Grows b (Behind rs waits)
      behind_grows rs waits count heads_same others waited =
          let g = heads.stands.leads.grows in
          record {
            types = prefix_trans b.types h.block.types c.types g.types inside.grows.types;
            constants = prefix_trans b.constants h.block.constants c.constants g.constants inside.grows.constants;
            variables = prefix_trans b.variables h.block.variables c.variables g.variables inside.grows.variables;
            own = g.own;
            parameters = g.parameters;
            result = g.result;
            enclosing = g.enclosing;
            outer = ap (λ s. s.outer) scopes_again ∙ g.outer;
            alone = g.alone;
            headings = subst (IsPrefix (map head_in b.routines)) (sym heads_same) (prefix_trans (map head_in b.routines) (map head_in h.block.routines) (map head_in c.routines) g.headings inside.grows.headings);
            waits = λ w. g.waits (inside.grows.waits (waited w));
            opens = λ under. behind_open rs waits count under;
            bodies = λ under n r has at. let k = g.bodies under n r has at in behind_keeps rs waits others under n r k.0 k.1;
          }

      -- ---- with its statements

      module _ (compound : Compound) (ss : Stmts) (pass : statements_judged c compound ≡ Passes ss) where
        abbrev Given : RoutineForm → RoutineForm
        Given = with_its_block line c.own.variables (tree.Compound ss)

        abbrev Routines : List RoutineForm
        Routines = set_to c.routines h.number Given (slice_get c.routines h.number)

        abbrev Ended : Block
        Ended = Behind Routines c.waits

        ended_others : Others Routines
        ended_others n r apart at = to_other c.routines h.number n Given (slice_get c.routines h.number) r apart at

        ended_grows : Grows b Ended
        ended_grows = behind_grows Routines c.waits (to_length c.routines h.number Given (slice_get c.routines h.number)) (set_headings line c.own.variables (tree.Compound ss) c.routines h.number) ended_others (λ w. w)

        -- the name of the variable that has its result
        abbrev Called : List ℕ
        Called = variable_name (slice_get c.routines h.number)

        module _ (under : IsOpen b) (e : Extends u Ended) (free : c.waits ≡ None) (x : Holds u (length b.types) b) where
          -- the block of the heading, in the unit
          headings_there : IsPrefix (map head_in c.routines) (map head_of u.routines)
          headings_there = subst (λ hs. IsPrefix hs (map head_of u.routines)) (set_headings line c.own.variables (tree.Compound ss) c.routines h.number) e.headings

          heading_there : Extends u h.block
          heading_there = record {
            types = prefix_trans h.block.types c.types u.types inside.grows.types e.types;
            constants = prefix_trans h.block.constants c.constants u.constants inside.grows.constants e.constants;
            variables = prefix_trans h.block.variables c.variables u.variables inside.grows.variables e.variables;
            line = e.line;
            name = e.name;
            own = e.own;
            headings = prefix_trans (map head_in h.block.routines) (map head_in c.routines) (map head_of u.routines) inside.grows.headings headings_there;
            bodies = λ n r has at. let k = behind_keeps Routines c.waits ended_others under n r has at in e.bodies n r k.0 k.1;
          }

          heading_held : Holds u (length h.block.types) h.block
          heading_held = heads.stands.leads.holds under heading_there (inside.grows.waits free) x

          headed : HoldsHeaded u Around (length h.block.types) h.number h.parameters h.result
          headed = heads.stands.held under (length h.block.types) heading_held

          -- the routine, by its form, which the unit has
          found : (r : RoutineForm) × (slice_get c.routines h.number ≡ Some r)
          found = get_within c.routines h.number (inside_open under).under_way.0.below

          one : (r : RoutineForm) → slice_get c.routines h.number ≡ Some r → head_in r ≡ (headed.heading, around_of Around)
          one r at =
              same_there (slice_get (map head_of u.routines) h.number) (head_in r) (headed.heading, around_of Around) (prefix_get (map head_in c.routines) (map head_of u.routines) h.number (head_in r) headings_there (heading_at c.routines h.number r at)) headed.at

          formals_same : (r : RoutineForm) → slice_get c.routines h.number ≡ Some r → r.formals ≡ map formal_of c.own.parameters
          formals_same r at = ap (λ (k : Head). k.0.formals) (one r at) ∙ (headed.formals ∙ ap (map formal_of) (sym inside.grows.parameters))

          result_there : (r : RoutineForm) → slice_get c.routines h.number ≡ Some r → result_variable r.name line r.result ≡ result_in line Called c.own.result
          result_there r at =
              let of : IsResultOf h.result r.result = subst (IsResultOf h.result) (sym (ap (λ (k : Head). k.0.result) (one r at))) headed.result in
              result_same line r.name r.result h.number (length h.parameters) h.result of
              ∙ (ap (λ n. result_in line n (own_result h.number (length h.parameters) h.result)) (sym (ap variable_name at)) ∙ ap (result_in line Called) (sym inside.grows.result))

          -- so the unit gives it the variables of the block, and the auxiliary ones behind them
          its_variables : innermost (levels_at u.routines (Inner ∷ Around)) ≡ variables_in line Called c.own ++ auxiliaries_of ss
          its_variables =
              let r = found.0 in
              given_variables u.routines h.number (Given r) (e.bodies h.number (Given r) (pushed_there h.number c.bodies) (to_same c.routines h.number Given r found.1))
              ∙ (ap (λ fs. map (formal_variable line) fs ++ ((result_variable r.name line r.result ++ (c.own.variables ++ block_auxiliaries (tree.Compound ss))) ++ with_variables_of ss)) (formals_same r found.1)
              ∙ (ap (λ rs. map (formal_variable line) (map formal_of c.own.parameters) ++ ((rs ++ (c.own.variables ++ block_auxiliaries (tree.Compound ss))) ++ with_variables_of ss)) (result_there r found.1)
              ∙ two_behind (map (formal_variable line) (map formal_of c.own.parameters)) (result_in line Called c.own.result) c.own.variables (block_auxiliaries (tree.Compound ss)) (with_variables_of ss)))

          there : Extends u c
          there = record {
            types = e.types;
            constants = e.constants;
            variables = e.variables;
            line = line;
            name = Called;
            own = subst (λ es. IsPrefix (variables_in line Called c.own) (innermost (levels_at u.routines es))) (sym inside.grows.enclosing) (record { rest = auxiliaries_of ss; is = its_variables });
            headings = headings_there;
            bodies = λ n r has at. e.bodies n r (pushed_kept n h.number c.bodies has) (ended_others n r (another under n has) at);
          }

          c_open : IsOpen c
          c_open = inside.grows.opens (opened_open under)

          c_held : Holds u (length c.types) c
          c_held = inside.holds (opened_open under) there free (opened_held (length h.block.types) headed (extends_before u Opened c inside.grows (opened_open under) there) heading_held)

          few_types : length c.types ≤ length u.types
          few_types = prefix_length c.types u.types e.types

          -- the auxiliary variables
          auxiliaries : AreBehind (within u c.own.enclosing) u.types (locals_of c) (auxiliaries_of ss)
          auxiliaries =
              subst (λ es. AreBehind (within u es) u.types (locals_in c es) (auxiliaries_of ss)) (sym inside.grows.enclosing)
              (own_behind u Inner Around c line Called (auxiliaries_of ss) its_variables)

          first_unmade : given.first_with_in (slice_get u.routines h.number) ≡ own_count c.own + length (block_auxiliaries (tree.Compound ss))
          first_unmade =
              let r = found.0 in
              given_first u.routines h.number (Given r) (e.bodies h.number (Given r) (pushed_there h.number c.bodies) (to_same c.routines h.number Given r found.1))
              ∙ (ap (λ fs. length fs + length (result_variable r.name line r.result ++ (c.own.variables ++ block_auxiliaries (tree.Compound ss)))) (formals_same r found.1)
              ∙ (ap (λ rs. length (map formal_of c.own.parameters) + length (rs ++ (c.own.variables ++ block_auxiliaries (tree.Compound ss)))) (result_there r found.1)
              ∙ made_length line Called c.own.parameters c.own.result c.own.variables (block_auxiliaries (tree.Compound ss))))

          unmade : IsUnmadeFrom (within u c.own.enclosing) u.types (locals_of c) (first_auxiliary (locals_of c) + length (block_auxiliaries (tree.Compound ss)))
          unmade =
              subst (λ es. IsUnmadeFrom (within u es) u.types (locals_in c es) (first_auxiliary (locals_in c es) + length (block_auxiliaries (tree.Compound ss)))) (sym inside.grows.enclosing)
              (own_unmade u Inner Around c line Called (auxiliaries_of ss) its_variables (length (block_auxiliaries (tree.Compound ss))) first_unmade)

          -- what the routine does is valid
          block_valid : AreStmts (within u (Inner ∷ Around)) ss
          block_valid =
              subst (λ es. AreStmts (within u es) ss) inside.grows.enclosing
              (statements (context_of c compound) compound ss pass (within u c.own.enclosing) (holds_agrees u (length c.types) c c_open few_types c_held) (holds_results u (length c.types) c c_open few_types c_held)
              (for_auxiliaries (within u c.own.enclosing) u.types (locals_of c) ss auxiliaries)
              (for_in_auxiliaries (within u c.own.enclosing) u.types (locals_of c) ss auxiliaries (scopes_of c) compound (bounded_there (context_of c compound) compound ss pass))
              (with_auxiliaries (within u c.own.enclosing) u.types (locals_of c) ss auxiliaries (type_values u) (structures_of (scopes_of c)) (λ of. refl)
              (structures_in_view u c.own.enclosing (length c.types) (scopes_of c) few_types (holds_scopes u (length c.types) c c_held)) unmade (scopes_of c) compound
              (bounded_there (context_of c compound) compound ss pass) (members_there (context_of c compound) compound ss pass)))

          routine_valid : (o : Option RoutineForm) → slice_get c.routines h.number ≡ o → HoldsRoutines u (set_to c.routines h.number Given o)
          routine_valid None at = c_held.routines
          routine_valid (Some r) at =
              let old : HoldsRoutine u h.number r = c_held.routines h.number r at in
              each_set (HoldsRoutine u) c.routines h.number (Given r) c_held.routines (record {
                result = old.result;
                around = old.around;
                formals = old.formals;
                variables = c_held.owned;
                block = subst (λ ns. IsStmt (in_routine (levels_of u.routines (h.number ∷ ns)) (own u)) (tree.Compound ss)) (sym (ap (λ (k : Head). k.1) (one r at))) block_valid;
              })

          ended_held : Holds u (length c.types) Ended
          ended_held =
              let z : Holds u (length c.types) h.block = holds_more u (length h.block.types) (length c.types) h.block (prefix_length h.block.types c.types inside.grows.types) heading_held in
              record {
                unit = c_held.unit;
                names = subst (HoldsNames u Around (length c.types)) (sym scopes_again) z.names;
                lists = c_held.lists;
                under_way = z.under_way;
                routines = routine_valid (slice_get c.routines h.number) refl;
              }

      closed_leads : (compound : Compound) (row : Judgement Stmts) → statements_judged c compound ≡ row → LeadsOn u b (body_closed line h.number h.block.own c row)
      closed_leads compound (Passes ss) is = record { grows = ended_grows compound ss is; holds = λ under e w x. ended_held compound ss is under e w x }
      closed_leads compound (Waits at) is = record {
        grows = behind_grows c.routines (option_or c.waits (Some at)) refl refl (λ n r apart there. there) (λ w. absurd (waits_some c.waits at w));
        holds = λ under e w x. absurd (waits_some c.waits at w);
      }
      closed_leads compound (Fails at rules) is = tt

    module _ (name : List ℕ) (ps : List PartJudged) (parts_lead : (d : Block) → LeadsOn u d (all_declared ps d)) (c : Compound) where
      parts_ended : (s : Standing) → LeadsOn u Opened s → LeadsOn u b (and_then (body_declared line name h.number h.block.own c) s)
      parts_ended (Stands d) g =
          let row = statements_judged d c in
          given_leads b line (is_in_view d.own.result name d) (body_ended line h.number h.block.own d row)
          (given_leads b line (row_gives d row) (body_closed line h.number h.block.own d row) (closed_leads d g c row refl))
      parts_ended (Falls at rules) g = tt

      heading_ended : (j : Judged Block) → Fits (Leads u Opened) j → LeadsOn u b (and_then (inside_declared line name (given_name name h.result) h.number h.block.own ps c) (at_line line j))
      heading_ended (Accepts d) g =
          given_leads b line (is_assigned d.own.result (given_name name h.result) (given_among (is_named d.own.result) (given_name name h.result) ps) c) (and_then (body_declared line name h.number h.block.own c) (all_declared ps d))
          (parts_ended (all_declared ps d) (further u Opened d (all_declared ps d) g (parts_lead d)))
      heading_ended (Breaks rules) g = tt

      block_leads : LeadsOn u b (block_declared line name ps c h)
      block_leads =
          heading_ended (heading_entered h Opened)
          (fits_then (Leads u Opened) (Leads u Opened) (result_entered h.number (length h.parameters) h.result) (formals_entered 0 h.parameters Opened) (formals_lead [] h.parameters 0 Opened refl refl)
          (λ d l. leads_on u Opened d (result_entered h.number (length h.parameters) h.result d) l (result_leads h.number h.parameters h.result d l.grows.result)))

  -- ---- all parts, by the tree

  abbrev PartLeads : BlockPart → Type 0
  PartLeads p = (b : Block) → LeadsOn u b ((part_judged p).declares b)

  abbrev BodyLeads : RoutineBody → Type 0
  BodyLeads p = (line : ℕ) (s : RoutineStart) (b : Block) → LeadsOn u b ((routine_body_judged p).declares line s b)

  abbrev RoutineLeads : Routine → Type 0
  RoutineLeads r = (b : Block) → LeadsOn u b ((routine_judged r).declares b)

  abbrev LeadingPart : Type 0
  LeadingPart = (p : BlockPart) × PartLeads p

  abbrev LeadingBody : Type 0
  LeadingBody = (p : RoutineBody) × BodyLeads p

  abbrev LeadingRoutine : Type 0
  LeadingRoutine = (r : Routine) × RoutineLeads r

  -- parts in order
  abbrev only : List LeadingPart → List BlockPart
  only ps = map (λ p. p.0) ps

  row_leads : (ps : List LeadingPart) (b : Block) → LeadsOn u b (all_declared (map part_judged (only ps)) b)
  row_leads [] b = leads_refl u b
  row_leads (p ∷ ps) b = then_leads u b (all_declared (map part_judged (only ps))) ((part_judged p.0).declares b) (p.1 b) (λ c. row_leads ps c)

  abbrev part_layer : BlockPart-F LeadingPart LeadingBody LeadingRoutine → BlockPart-F BlockPart RoutineBody Routine
  part_layer = map-BlockPart LeadingPart LeadingBody LeadingRoutine BlockPart RoutineBody Routine (λ p. p.0) (λ p. p.0) (λ r. r.0)

  abbrev body_layer : RoutineBody-F LeadingPart LeadingBody LeadingRoutine → RoutineBody-F BlockPart RoutineBody Routine
  body_layer = map-RoutineBody LeadingPart LeadingBody LeadingRoutine BlockPart RoutineBody Routine (λ p. p.0) (λ p. p.0) (λ r. r.0)

  abbrev routine_layer : Routine-F LeadingPart LeadingBody LeadingRoutine → Routine-F BlockPart RoutineBody Routine
  routine_layer = map-Routine LeadingPart LeadingBody LeadingRoutine BlockPart RoutineBody Routine (λ p. p.0) (λ p. p.0) (λ r. r.0)

  rolled_part : (x : BlockPart-F BlockPart RoutineBody Routine) → ((b : Block) → LeadsOn u b ((of_part (map-BlockPart BlockPart RoutineBody Routine PartJudged BodyJudged PartJudged part_judged routine_body_judged routine_judged x)).declares b)) → PartLeads (roll-BlockPart x)
  rolled_part x g b = subst (λ (j : PartJudged). LeadsOn u b (j.declares b)) (sym (fold-roll-BlockPart PartJudged BodyJudged PartJudged of_part of_body of_routine x)) (g b)

  rolled_body : (x : RoutineBody-F BlockPart RoutineBody Routine)
      → ((line : ℕ) (s : RoutineStart) (b : Block) → LeadsOn u b ((of_body (map-RoutineBody BlockPart RoutineBody Routine PartJudged BodyJudged PartJudged part_judged routine_body_judged routine_judged x)).declares line s b)) → BodyLeads (roll-RoutineBody x)
  rolled_body x g line s b = subst (λ (j : BodyJudged). LeadsOn u b (j.declares line s b)) (sym (fold-roll-RoutineBody PartJudged BodyJudged PartJudged of_part of_body of_routine x)) (g line s b)

  rolled_routine : (x : Routine-F BlockPart RoutineBody Routine) → ((b : Block) → LeadsOn u b ((routine_body_judged x.body).declares x.line x.start b)) → RoutineLeads (roll-Routine x)
  rolled_routine x g b = subst (λ (j : PartJudged). LeadsOn u b (j.declares b)) (sym (fold-roll-Routine PartJudged BodyJudged PartJudged of_part of_body of_routine x)) (g b)

  part_step : (y : BlockPart-F LeadingPart LeadingBody LeadingRoutine) → PartLeads (roll-BlockPart (part_layer y))
  part_step (BlockPart-F.Constants c) = rolled_part (BlockPart-F.Constants c) (λ b. constants_lead u few bounds bound_hosts initial_states constants constant_hosts c.definitions b)
  part_step (BlockPart-F.Types t) = rolled_part (BlockPart-F.Types t) (λ b. line_leads u b t.line (type_definitions t.line t.definitions b) (type_definitions-leads u few bounds bound_hosts initial_states t.line t.definitions b))
  part_step (BlockPart-F.Variables v) = rolled_part (BlockPart-F.Variables v) (λ b. variables_lead u few bounds bound_hosts initial_states v.declarations b)
  part_step (BlockPart-F.Routine r) = rolled_part (BlockPart-F.Routine r.0) (λ b. r.1 b)

  body_step : (y : RoutineBody-F LeadingPart LeadingBody LeadingRoutine) → BodyLeads (roll-RoutineBody (body_layer y))
  body_step (RoutineBody-F.Forward at) =
      rolled_body (RoutineBody-F.Forward at)
      (λ line s b. after_heading u b line (λ h. Stands (forwarded line h)) (start_headed true line s b) (headed_leads u true line s b) (λ h k. further u b h.block (Stands (forwarded line h)) k.stands.leads (forward_leads u line h)))
  body_step (RoutineBody-F.Block at ps c) =
      rolled_body (RoutineBody-F.Block at (only ps) c)
      (λ line s b. after_heading u b line (block_declared line (start_name s) (map part_judged (only ps)) c) (start_headed false line s b) (headed_leads u false line s b) (λ h k. block_leads line b h k (start_name s) (map part_judged (only ps)) (row_leads ps) c))

  part_leads : (p : BlockPart) → PartLeads p
  part_leads =
      ind-BlockPart PartLeads BodyLeads RoutineLeads
      (λ x y e. subst (λ z. PartLeads (roll-BlockPart z)) e (part_step y))
      (λ x y e. subst (λ z. BodyLeads (roll-RoutineBody z)) e (body_step y))
      (λ x y e. subst (λ z. RoutineLeads (roll-Routine z)) e (rolled_routine (routine_layer y) (λ b. y.body.1 y.line y.start b)))

  pub parts_lead : (ps : List BlockPart) (b : Block) → LeadsOn u b (parts_declared ps b)
  parts_lead [] b = leads_refl u b
  parts_lead (p ∷ ps) b = then_leads u b (parts_declared ps) ((part_judged p).declares b) (part_leads p b) (λ c. parts_lead ps c)
