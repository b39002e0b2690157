-- Items lead from one block to the next: definitions, variable declarations and program parameters.
use Rattle.std.proofs.Common.{◌≡◌, ℕ, nat_le, suc, ◌≤◌, ◌+◌, Bool, true, false, List, [], ◌∷◌, ◌++◌, map, length, Option, Some, None, slice_get, refl, sym, ap, ◌∙◌, subst, arith, append_assoc}
use Rattle.std.proofs.lemmas.List.Elements.{All-push}
use Rattle.std.specs.Prelude.{⊤, if◌then◌else◌}
use Rattle.ep_tree.specs.declared.declaration.ConstantDefinition.{ConstantDefinition}
use Rattle.ep_tree.specs.declared.declaration.TypeDefinition.{TypeDefinition}
use Rattle.ep_tree.specs.declared.declaration.VariableDeclaration.{VariableDeclaration}
use Rattle.ep_values.specs.Operations.{maxint}
use Rattle.ep_outside.specs.Known.{IsPrefix}
use Rattle.ep_meaning.specs.Valid.{IsVariable}
use Rattle.ep_typed.specs.Routines.{formal_variable}
use Rattle.ep_typed.specs.Viewed.{denoter_of}
use Rattle.ep_typed.specs.declared.denoter.Denoter.{Denoter}
use Rattle.ep_typed.specs.declared.tree.StandardFile.{StandardFile}
use Rattle.ep_typed.specs.declared.unit.Unit.{Unit as TypedUnit}
use Rattle.ep_typed.specs.declared.unit.UnitVariable.{UnitVariable}
use Rattle.ep_scope.specs.declared.kind.Kind.{Kind}
use Rattle.ep_scope.specs.declared.parameter.FormalParameter.{FormalParameter}
use Rattle.ep_scope.specs.declared.parameter.Protection.TheVariants as protection
use Rattle.ep_scope.specs.declared.parameter.TypeName.{TypeName}
use Rattle.ep_scope.specs.declared.thing.Declaration.TheVariants as declaration
use Rattle.ep_scope.specs.declared.thing.Thing.TheVariants as thing
use Rattle.ep_rules.specs.Judgements.{Judged, Accepts, Breaks, when_accepted}
use Rattle.ep_expr_laws.specs.Laws.{BoundsAreKnown, BoundsAreSound, ConstantsAreKnown, ConstantsAreSound, InitialStatesAreSound}
use Rattle.ep_stmt_rules.proofs.public.judged.Fits.{Any, Fits, fits_any, fits_then}
use Rattle.ep_scope.specs.declared.rule.TheConstants as rule
use Rattle.ep_unit_rules.specs.declared.types.TheConstants as limit
use Rattle.ep_check_unit.specs.Declarations.{Standing, Stands, Falls, Written, all_variables_declared, and_then, at_line, constant_definition, constants_declared, declaration_ended, is_outermost, new_variable, own_thing, settled_type, unless_large, type_definition, type_definitions, type_entered, type_written, unused, variable_declaration, variable_entered, variables_declared, variables_entered, with_name, with_own_variable, with_type, with_unit_variable, with_variable}
use Rattle.ep_unit_rules.specs.Formals.{formal_of}
use Rattle.ep_check_unit.specs.Units.{parameter_entered, parameters_entered, standard_file}
use Rattle.ep_unit_rules.specs.Own.{own_count, result_count}
use Rattle.ep_check_unit.specs.Blocks.{Block}
use Rattle.ep_unit_rules.specs.declared.own.Enclosing.{Enclosing}
use Rattle.ep_unit_rules.specs.declared.own.OwnResult.{OwnResult}
use Rattle.ep_unit_rules.specs.declared.own.OwnVariables.{OwnVariables}
use Rattle.ep_unit_laws.proofs.Constants.{constant_definition-leads}
use Rattle.ep_unit_laws.proofs.Denoters.{settled_type-settles, type_written-writes}
use Rattle.ep_unit_laws.proofs.Denoting.{DenotesKind, kind_valid}
use Rattle.ep_typed.proofs.public.Forms.{named_is}
use Rattle.ep_unit_laws.proofs.Holds.{HasTypeHere, Holds, ListsKind, innermost, levels_at, own_innermost}
use Rattle.ep_unit_laws.proofs.Leading.{Enters, Extends, Leads, counted_leads, enters_refl, enters_then, enters_trans, entered_leads, extends_before, grown, grows_trans, leads_refl, leads_then, leads_trans, named_enters, named_grows, named_holds, result_in, stays, variables_in}
use Rattle.ep_unit_laws.proofs.Prefixes.{length_push, prefix_last, prefix_length, prefix_more}
use Rattle.ep_unit_laws.proofs.Types.{Settles, Writes, new_entry, written_settles}

pub own_length : (line : ℕ) (name : List ℕ) (ps : List FormalParameter) (r : Option OwnResult) (vs : List UnitVariable)
    → length (map (formal_variable line) (map formal_of ps) ++ (result_in line name r ++ vs)) ≡ length ps + result_count r + length vs
own_length line name [] None vs = omega arith
own_length line name [] (Some r) vs = omega arith
own_length line name (p ∷ ps) r vs = omega (arith, own_length line name ps r vs)

-- the variable of a routine that was added last, by its number
own_last : (own : OwnVariables) (v : UnitVariable) (line : ℕ) (name : List ℕ) (o : List UnitVariable)
    → IsPrefix (variables_in line name (record { parameters = own.parameters; result = own.result; variables = own.variables ++ v ∷ []; enclosing = own.enclosing })) o → slice_get o (own_count own) ≡ Some v
own_last own v line name o p =
    let front : List UnitVariable = map (formal_variable line) (map formal_of own.parameters) in
    let result : List UnitVariable = result_in line name own.result in
    let last : front ++ (result ++ (own.variables ++ v ∷ [])) ≡ (front ++ (result ++ own.variables)) ++ v ∷ [] =
    ap (λ l. front ++ l) (sym (append_assoc result own.variables (v ∷ []))) ∙ sym (append_assoc front (result ++ own.variables) (v ∷ [])) in
    subst (λ n. slice_get o n ≡ Some v) (own_length line name own.parameters own.result own.variables)
    (prefix_last (front ++ (result ++ own.variables)) v o (subst (λ l. IsPrefix l o) last p))

-- in a routine one is under way
inner_has_outer : (es : List Enclosing) → is_outermost es ≡ false → es ≡ [] → ⊥
inner_has_outer [] e f = cc
inner_has_outer (x ∷ es) e f = cc

-- a type that is not too large is what it was
small_fits : (P : Written → Type 0) (j : Judged Written) → Fits P j → Fits P (when_accepted unless_large j)
small_fits P j h = fits_then P P unless_large j h small
  where
    chosen : (w : Written) (c : Bool) → P w → Fits P (if c then Accepts w else Breaks (rule.LARGE_TYPE ∷ []))
    chosen w true p = p
    chosen w false p = tt

    small : (w : Written) → P w → Fits P (unless_large w)
    small w p = chosen w (nat_le w.nodes limit.TYPE_NODES) p

module _ (u : TypedUnit) where
  -- ---- type definitions

  definition_leads : (d : TypeDefinition) (b : Block) (w : Written) → Writes u b w → Fits (Leads u b) (type_entered d w)
  definition_leads d b w wr =
      let c : Block = with_type (Some d.name) d.line w.denoter w.block in
      let s = written_settles u (Some d.name) d.line b w wr in
      let t = own_thing w.block (length w.block.types) (declaration.«Type» w.of w.kind w.nodes) in
      fits_then Any (Leads u b) (λ _. Accepts (with_name d.name t c)) (unused d.name c) (fits_any (unused d.name c))
      (λ a k. record {
        grows = grows_trans b c (with_name d.name t c) s.grows (named_grows d.name t c (λ x. tt));
        holds = λ under ext free x.
            let y = s.holds under (extends_before u c (with_name d.name t c) (named_grows d.name t c (λ x. tt)) (s.grows.opens under) ext) free x in
            named_holds u (length c.types) d.name t c (
              y.block.unit,
              record {
                lists = y.lists;
                before = let total : length c.types ≡ suc (length w.block.types) = length_push w.block.types (new_entry (Some d.name) d.line w.denoter w.block) in omega (arith, total);
                denotes = (y.denotes.0, subst (λ n. DenotesKind u.types (length c.types) n w.kind y.denotes.0) (named_is (length w.block.types) []) y.denotes.1, y.denotes.2);
              },
            ) y.block;
      })

  -- ---- rows of items

  -- what stands is led to
  abbrev pub LeadsOn : Block → Standing → Type 0
  LeadsOn b (Stands c) = Leads u b c
  LeadsOn b (Falls line rules) = ⊤

  pub line_leads : (b : Block) (line : ℕ) (j : Judged Block) → Fits (Leads u b) j → LeadsOn b (at_line line j)
  line_leads b line (Accepts c) h = h
  line_leads b line (Breaks rules) h = tt

  pub further : (b c : Block) (s : Standing) → Leads u b c → LeadsOn c s → LeadsOn b s
  further b c (Stands d) p q = leads_trans u b c d p q
  further b c (Falls line rules) p q = tt

  pub then_leads : (b : Block) (more : Block → Standing) (s : Standing) → LeadsOn b s → ((c : Block) → LeadsOn c (more c)) → LeadsOn b (and_then more s)
  then_leads b more (Stands c) h g = further b c (more c) h (g c)
  then_leads b more (Falls line rules) h g = tt

  module _ (few : length u.constants ≤ maxint) (bounds : BoundsAreSound) (bound_hosts : BoundsAreKnown) (initial_states : InitialStatesAreSound) where
    type_definition-leads : (line : ℕ) (d : TypeDefinition) (b : Block) → Fits (Leads u b) (type_definition line d b)
    type_definition-leads line d b =
        fits_then (Writes u b) (Leads u b) (type_entered d) (when_accepted unless_large (type_written line d.of b)) (small_fits (Writes u b) (type_written line d.of b) (type_written-writes u few bounds bound_hosts initial_states line d.of b)) (λ w wr. definition_leads d b w wr)

    pub type_definitions-leads : (line : ℕ) (ds : List TypeDefinition) (b : Block) → Fits (Leads u b) (type_definitions line ds b)
    type_definitions-leads line [] b = leads_refl u b
    type_definitions-leads line (d ∷ ds) b = leads_then u b (type_definitions line ds) (type_definition line d b) (type_definition-leads line d b) (λ c. type_definitions-leads line ds c)

    -- ---- variable declarations

    -- the type of the variables stands
    abbrev IsStanding : ℕ → Denoter → TypeName → Kind → Type 0
    IsStanding i d of k = (i ≤ length u.types) × HasTypeHere u i (denoter_of d) of k × ListsKind u i k

    -- a variable of the unit
    unit_variable_enters : (i line : ℕ) (d : Denoter) (of : TypeName) (k : Kind) (name : List ℕ) (b : Block) → Enters u (IsStanding i d of k) i b (with_unit_variable line d of k name b)
    unit_variable_enters i line d of k name b =
        let v = new_variable line d name b in
        let c : Block = record b { variables = b.variables ++ v ∷ [] } in
        enters_trans u (IsStanding i d of k) i b c (with_unit_variable line d of k name b)
        (record {
          grows = grown b (record (stays b) { to = c; variables = prefix_more b.variables (v ∷ []) });
          same = refl;
          holds = λ p under ext x. record {
            unit = x.unit;
            names = x.names;
            lists = record {
              types = x.types;
              constants = x.constants;
              variables = All-push (IsVariable u.types) b.variables v x.variables (record { denoter = kind_valid u.types i (denoter_of d) k p.1.0 p.0 p.1.1; tuple = refl });
            };
            under_way = x.under_way;
            routines = x.routines;
          };
        })
        (named_enters u (IsStanding i d of k) i name (own_thing b (length b.variables) (declaration.Variable of k protection.Unprotected)) c (λ under. tt)
        (λ p ext x. (x.unit, record { lists = p.2; variable = v; at = prefix_last b.variables v u.variables ext.variables; denotes = p.1 })))

    -- a variable of the routine
    own_variable_enters : (i line : ℕ) (d : Denoter) (of : TypeName) (k : Kind) (name : List ℕ) (b : Block) → is_outermost b.own.enclosing ≡ false → Enters u (IsStanding i d of k) i b (with_own_variable line d of k name b)
    own_variable_enters i line d of k name b inside =
        let v = new_variable line d name b in
        let c : Block = record b { own = record b.own { variables = b.own.variables ++ v ∷ [] } } in
        enters_trans u (IsStanding i d of k) i b c (with_own_variable line d of k name b)
        (record {
          grows = grown b (record (stays b) { to = c; own = prefix_more b.own.variables (v ∷ []); alone = λ e. absurd (inner_has_outer b.own.enclosing inside e) });
          same = refl;
          holds = λ p under ext x. record {
            unit = x.unit;
            names = x.names;
            lists = x.lists;
            under_way = record {
              parameters = x.parameters;
              result = x.result;
              owned = All-push (IsVariable u.types) b.own.variables v x.owned (record { denoter = kind_valid u.types i (denoter_of d) k p.1.0 p.0 p.1.1; tuple = refl });
              headed = x.headed;
              results = x.results;
            };
            routines = x.routines;
          };
        })
        (named_enters u (IsStanding i d of k) i name (own_thing b (own_count b.own) (declaration.Own of k protection.Unprotected)) c (λ under. tt)
        (λ p ext x. (x.unit, own_innermost u b.own.enclosing i (own_count b.own) of k v p.2 (own_last b.own v ext.line ext.name (innermost (levels_at u.routines b.own.enclosing)) ext.own) p.1)))

    -- whichever it is
    placed_enters : (i line : ℕ) (d : Denoter) (of : TypeName) (k : Kind) (name : List ℕ) (b : Block) (outermost : Bool) → is_outermost b.own.enclosing ≡ outermost → Enters u (IsStanding i d of k) i b (if outermost then with_unit_variable line d of k name b else with_own_variable line d of k name b)
    placed_enters i line d of k name b true e = unit_variable_enters i line d of k name b
    placed_enters i line d of k name b false e = own_variable_enters i line d of k name b e

    variable_enters : (i line : ℕ) (d : Denoter) (of : TypeName) (k : Kind) (name : List ℕ) (b : Block) → Fits (Enters u (IsStanding i d of k) i b) (variable_entered line d of k name b)
    variable_enters i line d of k name b =
        fits_then Any (Enters u (IsStanding i d of k) i b) (λ _. Accepts (with_variable line d of k name b)) (unused name b) (fits_any (unused name b))
        (λ a free. placed_enters i line d of k name b (is_outermost b.own.enclosing) refl)

    variables_enter : (i line : ℕ) (d : Denoter) (of : TypeName) (k : Kind) (names : List (List ℕ)) (b : Block) → Fits (Enters u (IsStanding i d of k) i b) (variables_entered line d of k names b)
    variables_enter i line d of k [] b = enters_refl u (IsStanding i d of k) i b
    variables_enter i line d of k (name ∷ names) b =
        enters_then u (IsStanding i d of k) i b (variables_entered line d of k names) (variable_entered line d of k name b) (variable_enters i line d of k name b) (λ c. variables_enter i line d of k names c)

    ended_leads : (b c : Block) (w : Written) → Settles u b w → Enters u (IsStanding (length w.block.types) w.denoter w.of w.kind) (length w.block.types) w.block c → Leads u b (declaration_ended c)
    ended_leads b c w s e =
        leads_trans u b c (declaration_ended c)
        (record {
          grows = grows_trans b w.block c s.grows e.grows;
          holds = λ under ext free x.
              let before : Extends u w.block = extends_before u w.block c e.grows (s.grows.opens under) ext in
              let y = s.holds under before (e.grows.waits free) x in
              let count : length c.types ≡ length w.block.types = ap length e.same in
              subst (λ n. Holds u n c) (sym count) (e.holds (prefix_length w.block.types u.types before.types, y.denotes, y.lists) (s.grows.opens under) ext y.block);
        })
        (counted_leads u (suc c.declarations) c.forwards c)

    variable_declaration-leads : (d : VariableDeclaration) (b : Block) → Fits (Leads u b) (variable_declaration d b)
    variable_declaration-leads d b =
        fits_then (Settles u b) (Leads u b) (variables_declared d) (when_accepted unless_large (settled_type d.line d.of b)) (small_fits (Settles u b) (settled_type d.line d.of b) (settled_type-settles u few bounds bound_hosts initial_states d.line d.of b))
        (λ w s. fits_then (Enters u (IsStanding (length w.block.types) w.denoter w.of w.kind) (length w.block.types) w.block) (Leads u b) (λ c. Accepts (declaration_ended c)) (variables_entered d.line w.denoter w.of w.kind d.names w.block)
        (variables_enter (length w.block.types) d.line w.denoter w.of w.kind d.names w.block) (λ c e. ended_leads b c w s e))

    -- ---- parts of a block

    pub variables_lead : (ds : List VariableDeclaration) (b : Block) → LeadsOn b (all_variables_declared ds b)
    variables_lead [] b = leads_refl u b
    variables_lead (d ∷ ds) b = then_leads b (all_variables_declared ds) (at_line d.line (variable_declaration d b)) (line_leads b d.line (variable_declaration d b) (variable_declaration-leads d b)) (λ c. variables_lead ds c)

    module _ (constants : ConstantsAreSound) (constant_hosts : ConstantsAreKnown) where
      pub constants_lead : (ds : List ConstantDefinition) (b : Block) → LeadsOn b (constants_declared ds b)
      constants_lead [] b = leads_refl u b
      constants_lead (d ∷ ds) b = then_leads b (constants_declared ds) (at_line d.line (constant_definition d b)) (line_leads b d.line (constant_definition d b) (constant_definition-leads u constants constant_hosts d b)) (λ c. constants_lead ds c)

  -- ---- parameters of a program

  parameter_leads : (name : List ℕ) (f : Option StandardFile) (b : Block) → Fits (Leads u b) (parameter_entered name f b)
  parameter_leads name None b = tt
  parameter_leads name (Some f) b = entered_leads u name (thing.Standard f) b (λ under. tt) (λ under e x. tt)

  pub parameters_lead : (names : List (List ℕ)) (b : Block) → Fits (Leads u b) (parameters_entered names b)
  parameters_lead [] b = leads_refl u b
  parameters_lead (name ∷ names) b = leads_then u b (parameters_entered names) (parameter_entered name (standard_file name) b) (parameter_leads name (standard_file name) b) (λ c. parameters_lead names c)
