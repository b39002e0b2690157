-- A block stays that of its unit.
use Rattle.std.proofs.Common.{◌≡◌, ℕ, nat_le, pos, suc, Bool, true, false, not, ◌&&◌, ◌||◌, List, [], ◌∷◌, length, map, Option, Some, None, subst, sym}
use Rattle.std.specs.Prelude.{⊤, is_none, is_some, if◌then◌else◌}
use Rattle.ep_tree.specs.declared.declaration.ConstantDefinition.{ConstantDefinition}
use Rattle.ep_tree.specs.declared.declaration.TypeDefinition.{TypeDefinition}
use Rattle.ep_tree.specs.declared.declaration.VariableDeclaration.{VariableDeclaration}
use Rattle.ep_tree.specs.declared.declaration.RoutineHeading.TheVariants as heading
use Rattle.ep_tree.specs.declared.routine.BlockPart.TheFolds.{fold-roll-BlockPart, fold-roll-Routine, fold-roll-RoutineBody, ind-BlockPart}
use Rattle.ep_tree.specs.declared.routine.BlockPart.TheOpen.{BlockPart-F, Routine-F, RoutineBody-F}
use Rattle.ep_tree.specs.declared.routine.BlockPart.{BlockPart, map-BlockPart, roll-BlockPart}
use Rattle.ep_tree.specs.declared.routine.Routine.{Routine, map-Routine, roll-Routine}
use Rattle.ep_tree.specs.declared.routine.RoutineBody.{RoutineBody, map-RoutineBody, roll-RoutineBody}
use Rattle.ep_tree.specs.declared.routine.RoutineStart.{RoutineStart}
use Rattle.ep_tree.specs.declared.routine.RoutineStart.TheVariants as start
use Rattle.ep_tree.specs.declared.statement.Compound.{Compound}
use Rattle.ep_tree.specs.declared.expression.ComponentValue.{ComponentValue}
use Rattle.ep_tree.specs.declared.expression.Label.{Label}
use Rattle.ep_tree.specs.declared.types.TypeDenoter.{TypeDenoter}
use Rattle.ep_tree.specs.declared.types.VariantSelector.{VariantSelector}
use Rattle.ep_typed.specs.Trees.{Stmts}
use Rattle.ep_typed.specs.declared.denoter.Denoter.{Denoter}
use Rattle.ep_typed.specs.declared.tree.CaseRange.{CaseRange}
use Rattle.ep_typed.specs.declared.tree.StandardFile.{StandardFile}
use Rattle.ep_typed.specs.declared.value.Value.{Value}
use Rattle.ep_typed.specs.declared.value.Value.TheVariants as value
use Rattle.ep_scope.specs.Parameters.{protection_of}
use Rattle.ep_scope.specs.Required.{look_up}
use Rattle.ep_scope.specs.Scopes.{Meant, Declares, Standard, Requires, FieldOf, Nothing, meant, meant_in}
use Rattle.ep_scope.specs.declared.kind.Host.{Host}
use Rattle.ep_scope.specs.declared.kind.Kind.{Kind}
use Rattle.ep_scope.specs.declared.kind.Kind.TheVariants as kind
use Rattle.ep_scope.specs.declared.parameter.FormalParameter.{FormalParameter}
use Rattle.ep_scope.specs.declared.parameter.Protection.TheVariants as protection
use Rattle.ep_scope.specs.declared.parameter.TypeName.{TypeName}
use Rattle.ep_scope.specs.declared.required.Required.TheVariants as required
use Rattle.ep_scope.specs.declared.rule.TheConstants as rule
use Rattle.ep_scope.specs.declared.thing.Declaration.{Declaration}
use Rattle.ep_scope.specs.declared.thing.Declaration.TheVariants as declaration
use Rattle.ep_scope.specs.declared.thing.Declared.{Declared}
use Rattle.ep_scope.specs.declared.thing.Thing.{Thing}
use Rattle.ep_scope.specs.declared.thing.Thing.TheVariants as thing
use Rattle.ep_rules.specs.Judgements.{Judged, Accepts, Breaks, when_accepted}
use Rattle.ep_check_expr.specs.Constants.{bound_judged, initial_state_judged}
use Rattle.ep_rules.specs.Names.{undeclared}
use Rattle.ep_check_expr.specs.StructuredValues.{asked_by}
use Rattle.ep_check_expr.specs.declared.constants.ConstantForm.{ConstantForm}
use Rattle.ep_stmt_rules.proofs.public.judged.Fits.{Any, Fits, fits_then, fits_both, fits_any}
use Rattle.ep_stmt_rules.specs.Statements.{Judgement, Passes, Waits, Fails}
use Rattle.ep_unit_rules.specs.InitialStates.{may_begin}
use Rattle.ep_unit_rules.specs.Records.{fields_named}
use Rattle.ep_unit_rules.specs.Types.{common_host, index_host, ordered}
use Rattle.ep_unit_rules.specs.Variants.{Tag, all_fields}
use Rattle.ep_check_unit.specs.Declarations.{constant_fitting, unless_large, Fielded, Gathered, Labelled, ListJudged, Listed, DenoterPart, PartJudged as VariantsJudged, Section, VariantJudged, completing_added, completing_written, field_of, labels_noted, list_ended, list_written, record_over, selection_of, tag_written, unless_left_out, variant_added, variant_list, variant_listing, variant_part_written, variant_written, variants_after, variants_written, none_gathered, section_written, sections_written, set_on, set_over, unless_wide, all_variables_declared, and_then, array_over, at_line, constant_definition, constant_entered, begun, begun_with, constants_declared, denoter_part, fitting_state, with_initial_state, declaration_ended, declared_type, entered, enumerated, enumeration, index_values, next_enumeration, noted, range, scopes_of, settled, settled_part, settled_type, Standing, Stands, Falls, subrange, type_definition, type_definitions, type_entered, type_meant, type_named, type_written, unused, variable_declaration, variable_entered, variables_declared, variables_entered, with_constant, with_name, with_type, is_outermost, with_own_variable, with_unit_variable, with_variable, own_thing, Written}
use Rattle.ep_unit_rules.specs.Functions.{in_block, result_name, routine_declaration, same_result}
use Rattle.ep_check_unit.specs.Functions.{if_given, is_assigned, is_in_view, is_named, own_name_entered, result_entered, row_gives}
use Rattle.ep_unit_rules.specs.Formals.{is_repeated}
use Rattle.ep_unit_rules.specs.Headings.{start_name}
use Rattle.ep_check_unit.specs.Routines.{BodyJudged, Headed, PartJudged, all_declared, block_declared, body_closed, body_declared, body_ended, declared_routine, formals_entered, given_among, forwarded, has_body, headed_again, headed_first, headed_over, headed_then, heading_entered, identified_again, identified_over, inside_declared, of_body, of_part, of_routine, part_judged, parts_declared, result_headed, result_judged, routine_body_judged, routine_judged, routine_there, scope_opened, sections_judged, start_headed, statements_judged, with_routine}
use Rattle.ep_unit_rules.specs.declared.functions.HeadingResult.{HeadingResult}
use Rattle.ep_unit_rules.specs.Labels.{completed, variant_labelled}
use Rattle.ep_unit_rules.specs.declared.labels.Labels.{Labels}
use Rattle.ep_unit_rules.specs.declared.labels.TagValues.{TagValues}
use Rattle.ep_check_unit.specs.Units.{parameter_entered, parameters_entered, standard_file}
use Rattle.ep_check_unit.specs.Blocks.{Block}
use Rattle.ep_unit_rules.specs.declared.types.TheConstants as limit
use Rattle.ep_check_unit.proofs.public.Denoters.{AreKept, AreVariantsKept, IsKeptIf, KeptByDenoters, each_type, over_part, record_part, set_part}
use Rattle.ep_unit_rules.specs.declared.own.OwnResult.{OwnResult}
use Rattle.ep_unit_rules.specs.declared.own.OwnVariables.{OwnVariables}

module _ (n : List ℕ) where
  abbrev pub IsOf : Block → Type 0
  IsOf b = b.unit ≡ n

  abbrev IsIn : Written → Type 0
  IsIn w = IsOf w.block

  entered-kept : (name : List ℕ) (t : Thing) (b : Block) → IsOf b → Fits IsOf (entered name t b)
  entered-kept name t b h = fits_then Any IsOf (λ _. Accepts (with_name name t b)) (unused name b) (fits_any (unused name b)) (λ a i. h)

  noted-kept : (built : Bool) (line : ℕ) (b : Block) → IsOf b → IsOf (noted built line b)
  noted-kept true line b h = h
  noted-kept false line b h = h

  constant_entered-kept : (name : List ℕ) (k : Kind) (v : Value) (deep : ℕ) (b : Block) → IsOf b → Fits IsOf (constant_entered name k v deep b)
  constant_entered-kept name k v deep b h = fits_then Any IsOf (λ _. Accepts (with_constant name k v deep b)) (unused name b) (fits_any (unused name b)) (λ a i. h)

  -- ---- types

  declared_type-kept : (d : Declared) (what : Declaration) (b : Block) → IsOf b → Fits IsIn (declared_type d what b)
  declared_type-kept d (declaration.«Type» of h nodes) b i = i
  declared_type-kept d (declaration.Constant k v deep) b i = tt
  declared_type-kept d (declaration.Variable of k guarded) b i = tt
  declared_type-kept d (declaration.Own of k guarded) b i = tt
  declared_type-kept d (declaration.Procedure ps) b i = tt
  declared_type-kept d (declaration.Function ps of h) b i = tt

  type_meant-kept : (missing : List ℕ) (m : Meant) (b : Block) → IsOf b → Fits IsIn (type_meant missing m b)
  type_meant-kept missing (Declares d) b h = declared_type-kept d d.what b h
  type_meant-kept missing (Standard f) b h = tt
  type_meant-kept missing (FieldOf f) b h = tt
  type_meant-kept missing (Requires (required.Constant c)) b h = tt
  type_meant-kept missing (Requires (required.«Type» t)) b h = h
  type_meant-kept missing (Requires (required.Function f)) b h = tt
  type_meant-kept missing (Requires (required.Procedure p)) b h = tt
  type_meant-kept missing Nothing b h = tt

  type_named-kept : (first : List ℕ) (second : Option (List ℕ)) (b : Block) → IsOf b → Fits IsIn (type_named first second b)
  type_named-kept first None b h = type_meant-kept (undeclared first) (meant (scopes_of b) first) b h
  type_named-kept first (Some name) b h = type_meant-kept (rule.UNDECLARED ∷ []) (meant_in (scopes_of b) first name) b h

  range-kept : (line : ℕ) (b : Block) (low high : ConstantForm) → IsOf b → Fits IsIn (range line b low high)
  range-kept line b low high i =
      fits_then Any IsIn _ (common_host low.kind high.kind) (fits_any (common_host low.kind high.kind))
      (λ h j. fits_then Any IsIn (λ _. Accepts (subrange line h low high b)) (ordered low high) (fits_any (ordered low high)) (λ a k. noted-kept (low.built && high.built) line b i))

  enumerated-kept : (h : Host) (ordinal : ℕ) (names : List (List ℕ)) (b : Block) → IsOf b → Fits IsOf (enumerated h ordinal names b)
  enumerated-kept h ordinal [] b i = i
  enumerated-kept h ordinal (name ∷ names) b i =
      fits_then IsOf IsOf (enumerated h (suc ordinal) names) (constant_entered name (kind.Ordinal h) (value.Word (pos ordinal)) 1 b) (constant_entered-kept name (kind.Ordinal h) (value.Word (pos ordinal)) 1 b i)
      (λ c j. enumerated-kept h (suc ordinal) names c j)

  enumeration-kept : (names : List (List ℕ)) (b : Block) → IsOf b → Fits IsIn (enumeration names b)
  enumeration-kept [] b i = tt
  enumeration-kept (first ∷ others) b i =
      fits_then IsOf IsIn _ (enumerated (next_enumeration (length others) b) 0 (first ∷ others) b) (enumerated-kept (next_enumeration (length others) b) 0 (first ∷ others) b i) (λ c j. j)

  -- what a part writes is in a block of the same unit
  abbrev IsKeptPart : DenoterPart → Type 0
  IsKeptPart p = (line : ℕ) (b : Block) → IsOf b → Fits IsIn (p.written line b)

  settled_if-kept : (is_name : Bool) (line : ℕ) (w : Written) → IsIn w → IsIn (if is_name then w else settled line w)
  settled_if-kept true line w i = i
  settled_if-kept false line w i = i

  settled_part-kept : (p : DenoterPart) → IsKeptPart p → (line : ℕ) (b : Block) → IsOf b → Fits IsIn (settled_part p line b)
  settled_part-kept p h line b i = fits_then IsIn IsIn (λ w. Accepts (if p.is_name then w else settled line w)) (p.written line b) (h line b i) (λ w j. settled_if-kept p.is_name line w j)

  array_written-kept : (index of : DenoterPart) → IsKeptPart index → IsKeptPart of → IsKeptPart (over_part index of)
  array_written-kept index of h g line b i =
      fits_then IsIn IsIn (λ w. when_accepted (λ v. when_accepted (λ below. Accepts (array_over w.denoter w.nodes v below)) (settled_part of line w.block)) (index_values w)) (settled_part index line b) (settled_part-kept index h line b i)
      (λ w j. fits_then Any IsIn (λ v. when_accepted (λ below. Accepts (array_over w.denoter w.nodes v below)) (settled_part of line w.block)) (index_values w) (fits_any (index_values w))
      (λ v k. fits_then IsIn IsIn (λ below. Accepts (array_over w.denoter w.nodes v below)) (settled_part of line w.block) (settled_part-kept of g line w.block j) (λ below l. l)))

  set_written-kept : (base : DenoterPart) → IsKeptPart base → IsKeptPart (set_part base)
  set_written-kept base h line b i =
      fits_then IsIn IsIn set_on (settled_part base line b) (settled_part-kept base h line b i)
      (λ w j. fits_then Any IsIn (λ host. when_accepted (λ _. Accepts (set_over host w)) (unless_wide w)) (index_host w.kind) (fits_any (index_host w.kind))
      (λ host k. fits_then Any IsIn (λ _. Accepts (set_over host w)) (unless_wide w) (fits_any (unless_wide w)) (λ done l. j)))

  abbrev IsInFields : Fielded → Type 0
  IsInFields f = IsOf f.block

  section_written-kept : (line : ℕ) (s : Section) → IsKeptPart s.of → (f : Fielded) → IsInFields f → Fits IsInFields (section_written line s f)
  section_written-kept line s h f i =
      fits_then IsIn IsInFields (λ w. when_accepted (λ fields. Accepts (record { fields = fields; block = w.block })) (fields_named (field_of w) s.names f.fields)) (settled_part s.of line f.block) (settled_part-kept s.of h line f.block i)
      (λ w j. fits_then Any IsInFields (λ fields. Accepts (record { fields = fields; block = w.block })) (fields_named (field_of w) s.names f.fields) (fits_any (fields_named (field_of w) s.names f.fields)) (λ fields k. j))

  sections_written-kept : (line : ℕ) (ss : List Section) → AreKept IsKeptPart ss → (f : Fielded) → IsInFields f → Fits IsInFields (sections_written line ss f)
  sections_written-kept line [] h f i = i
  sections_written-kept line (s ∷ ss) h f i = fits_then IsInFields IsInFields (sections_written line ss) (section_written line s f) (section_written-kept line s h.0 f i) (λ g j. sections_written-kept line ss h.1 g j)

  -- lists of fields, and variants
  abbrev IsInList : Listed → Type 0
  IsInList l = IsOf l.block

  abbrev IsKeptList : ListJudged → Type 0
  IsKeptList fields = (line : ℕ) (b : Block) → IsOf b → Fits IsInList (fields line b)

  abbrev IsKeptVariants : VariantsJudged → Type 0
  IsKeptVariants part = (line : ℕ) (f : Fielded) → IsInFields f → Fits IsInList (part line f)

  abbrev IsInGathered : Gathered → Type 0
  IsInGathered g = IsOf g.block

  abbrev IsInLabelled : Labelled → Type 0
  IsInLabelled x = IsOf x.block

  labels_noted-kept : (line : ℕ) (t : TagValues) (ls : List Label) (b : Block) (found : Labels) → IsOf b → Fits IsInLabelled (labels_noted line t ls b found)
  labels_noted-kept line t ls b found i =
      fits_then Any IsInLabelled (λ (x : List CaseRange × Labels). Accepts (record { ranges = x.0; labels = x.1; block = noted x.1.built line b })) (variant_labelled (scopes_of b) t ls found) (fits_any (variant_labelled (scopes_of b) t ls found))
      (λ x j. noted-kept x.1.built line b i)

  variant_written-kept : (line : ℕ) (t : TagValues) (v : VariantJudged) → IsKeptList v.fields → (g : Gathered) → IsInGathered g → Fits IsInGathered (variant_written line t v g)
  variant_written-kept line t v h g i =
      fits_then IsInLabelled IsInGathered (λ x. when_accepted (λ l. Accepts (variant_added x.ranges x.labels l g)) (v.fields line x.block)) (labels_noted line t v.labels g.block g.labels) (labels_noted-kept line t v.labels g.block g.labels i)
      (λ x j. fits_then IsInList IsInGathered (λ l. Accepts (variant_added x.ranges x.labels l g)) (v.fields line x.block) (h line x.block j) (λ l k. k))

  variants_written-kept : (line : ℕ) (t : TagValues) (vs : List VariantJudged) → AreVariantsKept IsKeptList vs → (g : Gathered) → IsInGathered g → Fits IsInGathered (variants_written line t vs g)
  variants_written-kept line t [] h g i = i
  variants_written-kept line t (v ∷ vs) h g i =
      fits_then IsInGathered IsInGathered (variants_written line t vs) (variant_written line t v g) (variant_written-kept line t v h.0 g i) (λ d j. variants_written-kept line t vs h.1 d j)

  completing_written-kept : (line : ℕ) (other : Option ListJudged) → IsKeptIf IsKeptList other → (g : Gathered) → IsInGathered g → Fits IsInGathered (completing_written line other g)
  completing_written-kept line None h g i = i
  completing_written-kept line (Some fields) h g i = fits_then IsInList IsInGathered (λ l. Accepts (completing_added l g)) (fields line g.block) (h line g.block i) (λ l j. j)

  left_out-kept : (t : TagValues) (g : Gathered) → IsInGathered g → Fits IsInGathered (unless_left_out t g)
  left_out-kept t g i = fits_then Any IsInGathered (λ _. Accepts g) (completed t g.labels (is_some g.completing)) (fits_any (completed t g.labels (is_some g.completing))) (λ done j. i)

  variant_list-kept : (f : Fielded) (t : Tag) (g : Gathered) → IsInGathered g → Fits IsInList (variant_list f t g)
  variant_list-kept f t g i =
      let all = all_fields (selection_of (length f.fields) g) t f.fields g.lists in
      fits_then Any IsInList (λ fields. Accepts (variant_listing f t g fields)) all (fits_any all) (λ fields j. i)

  variants_after-kept : (line : ℕ) (vs : List VariantJudged) (other : Option ListJudged) → AreVariantsKept IsKeptList vs → IsKeptIf IsKeptList other → (f : Fielded) → IsInFields f → (t : Tag) → Fits IsInList (variants_after line vs other f t)
  variants_after-kept line vs other h o f i t =
      let first = variants_written line t.values vs (none_gathered f.block) in
      let second = when_accepted (completing_written line other) first in
      let third = when_accepted (unless_left_out t.values) second in
      let first-kept : Fits IsInGathered first = variants_written-kept line t.values vs h (none_gathered f.block) i in
      let second-kept : Fits IsInGathered second = fits_then IsInGathered IsInGathered (completing_written line other) first first-kept (completing_written-kept line other o) in
      let third-kept : Fits IsInGathered third = fits_then IsInGathered IsInGathered (unless_left_out t.values) second second-kept (left_out-kept t.values) in
      fits_then IsInGathered IsInList (variant_list f t) third third-kept (variant_list-kept f t)

  variant_part-kept : (s : VariantSelector) (vs : List VariantJudged) (other : Option ListJudged) → AreVariantsKept IsKeptList vs → IsKeptIf IsKeptList other → IsKeptVariants (variant_part_written s vs other)
  variant_part-kept s vs other h o line f i = fits_then Any IsInList (variants_after line vs other f) (tag_written s f.block) (fits_any (tag_written s f.block)) (λ t j. variants_after-kept line vs other h o f i t)

  list_ended-kept : (line : ℕ) (part : Option VariantsJudged) → IsKeptIf IsKeptVariants part → (f : Fielded) → IsInFields f → Fits IsInList (list_ended line part f)
  list_ended-kept line None h f i = i
  list_ended-kept line (Some part) h f i = h line f i

  list_written-kept : (sections : List Section) (part : Option VariantsJudged) → AreKept IsKeptPart sections → IsKeptIf IsKeptVariants part → IsKeptList (list_written sections part)
  list_written-kept sections part h g line b i =
      fits_then IsInFields IsInList (list_ended line part) (sections_written line sections (record { fields = []; block = b })) (sections_written-kept line sections h (record { fields = []; block = b }) i) (list_ended-kept line part g)

  record_written-kept : (fields : ListJudged) → IsKeptList fields → IsKeptPart (record_part fields)
  record_written-kept fields h line b i = fits_then IsInList IsIn (λ l. Accepts (record_over l)) (fields line b) (h line b i) (λ l j. j)

  fitting-kept : (line : ℕ) (w : Written) (c : ConstantForm) → IsIn w → Fits IsIn (fitting_state line w c)
  fitting-kept line w c i = chosen (may_begin c.kind w.kind)
    where
      chosen : (fits : Bool) → Fits IsIn (if fits then Accepts (with_initial_state line w c) else Breaks (rule.INITIAL_STATE ∷ []))
      chosen true = noted-kept c.built line w.block i
      chosen false = tt

  begun-kept : (p : DenoterPart) (v : ComponentValue) → IsKeptPart p → IsKeptPart (begun p (Some v))
  begun-kept p v h line b i =
      fits_then IsIn IsIn (begun_with line v) (settled_part p line b) (settled_part-kept p h line b i)
      (λ w j. fits_then Any IsIn (fitting_state line w) (initial_state_judged (scopes_of w.block) (asked_by w.kind) v) (fits_any (initial_state_judged (scopes_of w.block) (asked_by w.kind) v)) (λ c k. fitting-kept line w c j))

  parts_kept : KeptByDenoters IsKeptPart IsKeptList IsKeptVariants
  parts_kept = record {
    names = λ name line b i. type_named-kept name.first name.second b i;
    ranges = λ low high line b i.
        fits_both Any Any IsIn (range line b) (bound_judged (scopes_of b) low) (bound_judged (scopes_of b) high) (fits_any (bound_judged (scopes_of b) low)) (fits_any (bound_judged (scopes_of b) high))
        (λ x y j k. range-kept line b x y i);
    enumerations = λ names line b i. enumeration-kept names b i;
    others = λ line b i. tt;
    arrays = array_written-kept;
    lists = list_written-kept;
    variants = variant_part-kept;
    records = record_written-kept;
    sets = set_written-kept;
    structures = λ p h line b i. h line b i;
    initial_states = begun-kept;
  }

  type_written-kept : (line : ℕ) (t : TypeDenoter) (b : Block) → IsOf b → Fits IsIn (type_written line t b)
  type_written-kept line t b i = each_type IsKeptPart IsKeptList IsKeptVariants parts_kept t line b i

  settled_type-kept : (line : ℕ) (t : TypeDenoter) (b : Block) → IsOf b → Fits IsIn (settled_type line t b)
  settled_type-kept line t b i = settled_part-kept (denoter_part t) (each_type IsKeptPart IsKeptList IsKeptVariants parts_kept t) line b i

  large_kept : (w : Written) → IsIn w → Fits IsIn (unless_large w)
  large_kept w i = chosen (nat_le w.nodes limit.TYPE_NODES)
    where
      chosen : (c : Bool) → Fits IsIn (if c then Accepts w else Breaks (rule.LARGE_TYPE ∷ []))
      chosen true = i
      chosen false = tt

  few_kept : (j : Judged Written) → Fits IsIn j → Fits IsIn (when_accepted unless_large j)
  few_kept j h = fits_then IsIn IsIn unless_large j h large_kept

  -- ---- items

  constant_definition-kept : (d : ConstantDefinition) (b : Block) → IsOf b → Fits IsOf (constant_definition d b)
  constant_definition-kept d b i =
      fits_both Any Any IsOf _ (constant_fitting d.value b) (unused d.name b) (fits_any (constant_fitting d.value b)) (fits_any (unused d.name b))
      (λ form new j k. noted-kept form.built d.line (with_constant d.name form.kind form.value form.depth b) i)

  type_definition-kept : (line : ℕ) (d : TypeDefinition) (b : Block) → IsOf b → Fits IsOf (type_definition line d b)
  type_definition-kept line d b i =
      fits_then IsIn IsOf (type_entered d) (when_accepted unless_large (type_written line d.of b)) (few_kept (type_written line d.of b) (type_written-kept line d.of b i))
      (λ w j. entered-kept d.name (own_thing w.block (length w.block.types) (declaration.«Type» w.of w.kind w.nodes)) (with_type (Some d.name) d.line w.denoter w.block) j)

  type_definitions-kept : (line : ℕ) (ds : List TypeDefinition) (b : Block) → IsOf b → Fits IsOf (type_definitions line ds b)
  type_definitions-kept line [] b i = i
  type_definitions-kept line (d ∷ ds) b i = fits_then IsOf IsOf (type_definitions line ds) (type_definition line d b) (type_definition-kept line d b i) (λ c j. type_definitions-kept line ds c j)

  placed-kept : (line : ℕ) (d : Denoter) (of : TypeName) (k : Kind) (name : List ℕ) (b : Block) (outermost : Bool) → IsOf b → IsOf (if outermost then with_unit_variable line d of k name b else with_own_variable line d of k name b)
  placed-kept line d of k name b true i = i
  placed-kept line d of k name b false i = i

  variables_entered-kept : (line : ℕ) (d : Denoter) (of : TypeName) (k : Kind) (names : List (List ℕ)) (b : Block) → IsOf b → Fits IsOf (variables_entered line d of k names b)
  variables_entered-kept line d of k [] b i = i
  variables_entered-kept line d of k (name ∷ names) b i =
      fits_then IsOf IsOf (variables_entered line d of k names) (variable_entered line d of k name b)
      (fits_then Any IsOf (λ _. Accepts (with_variable line d of k name b)) (unused name b) (fits_any (unused name b)) (λ a j. placed-kept line d of k name b (is_outermost b.own.enclosing) i)) (λ c j. variables_entered-kept line d of k names c j)

  variable_declaration-kept : (d : VariableDeclaration) (b : Block) → IsOf b → Fits IsOf (variable_declaration d b)
  variable_declaration-kept d b i =
      fits_then IsIn IsOf (variables_declared d) (when_accepted unless_large (settled_type d.line d.of b)) (few_kept (settled_type d.line d.of b) (settled_type-kept d.line d.of b i))
      (λ w j. fits_then IsOf IsOf (λ c. Accepts (declaration_ended c)) (variables_entered d.line w.denoter w.of w.kind d.names w.block) (variables_entered-kept d.line w.denoter w.of w.kind d.names w.block j) (λ c l. l))

  -- ---- parts

  abbrev pub Remains : Standing → Type 0
  Remains (Stands b) = IsOf b
  Remains (Falls line rules) = ⊤

  line-kept : (line : ℕ) (j : Judged Block) → Fits IsOf j → Remains (at_line line j)
  line-kept line (Accepts b) h = h
  line-kept line (Breaks rules) h = tt

  then-kept : (more : Block → Standing) (s : Standing) → Remains s → ((b : Block) → IsOf b → Remains (more b)) → Remains (and_then more s)
  then-kept more (Stands b) h g = g b h
  then-kept more (Falls line rules) h g = tt

  constants-kept : (ds : List ConstantDefinition) (b : Block) → IsOf b → Remains (constants_declared ds b)
  constants-kept [] b i = i
  constants-kept (d ∷ ds) b i = then-kept (constants_declared ds) (at_line d.line (constant_definition d b)) (line-kept d.line (constant_definition d b) (constant_definition-kept d b i)) (λ c j. constants-kept ds c j)

  variables-kept : (ds : List VariableDeclaration) (b : Block) → IsOf b → Remains (all_variables_declared ds b)
  variables-kept [] b i = i
  variables-kept (d ∷ ds) b i = then-kept (all_variables_declared ds) (at_line d.line (variable_declaration d b)) (line-kept d.line (variable_declaration d b) (variable_declaration-kept d b i)) (λ c j. variables-kept ds c j)

  -- ---- routines

  abbrev IsHeaded : Headed → Type 0
  IsHeaded h = IsOf h.block

  headed_first-kept : (name : List ℕ) (line : ℕ) (ps : List FormalParameter) (r : Option HeadingResult) (b : Block) → IsOf b → Fits IsHeaded (headed_first name line ps r b)
  headed_first-kept name line ps r b i =
      let t = own_thing b (length b.routines) (routine_declaration ps r) in
      fits_then IsOf IsHeaded (λ c. Accepts (record { number = length b.routines; parameters = ps; result = r; block = c })) (entered name t (with_routine name line ps r b))
      (entered-kept name t (with_routine name line ps r b) i) (λ c k. k)

  declared_routine-kept : (number : ℕ) (d : Declaration) (b : Block) → IsOf b → Fits IsHeaded (declared_routine number d b)
  declared_routine-kept number (declaration.Procedure ps) b i = i
  declared_routine-kept number (declaration.Function ps of h) b i = i
  declared_routine-kept number (declaration.Constant k v deep) b i = tt
  declared_routine-kept number (declaration.«Type» of h nodes) b i = tt
  declared_routine-kept number (declaration.Variable of k guarded) b i = tt
  declared_routine-kept number (declaration.Own of k guarded) b i = tt

  routine_there-kept : (t : Thing) (b : Block) → IsOf b → Fits IsHeaded (routine_there t b)
  routine_there-kept (thing.Declared d) b i = declared_routine-kept d.number d.what b i
  routine_there-kept (thing.Standard file) b i = tt

  again_if-kept : (repeated : Bool) (h : Headed) → IsHeaded h → Fits IsHeaded (if repeated then Breaks (rule.REPEATED_HEADING ∷ []) else Accepts h)
  again_if-kept true h i = tt
  again_if-kept false h i = i

  headed_over-kept : (is_forward : Bool) (name : List ℕ) (line : ℕ) (o : Option Thing) (b : Block) (r : Option HeadingResult) (ps : List FormalParameter) → IsOf b → Fits IsHeaded (headed_over is_forward name line o b r ps)
  headed_over-kept is_forward name line None b r ps i = headed_first-kept name line ps r b i
  headed_over-kept is_forward name line (Some t) b r ps i =
      fits_then IsHeaded IsHeaded (headed_again is_forward ps r) (routine_there t b) (routine_there-kept t b i)
      (λ h k. again_if-kept (is_forward || has_body h.number h.block || not (is_repeated ps h.parameters) || not (same_result r h.result)) h k)

  identified_over-kept : (is_forward : Bool) (o : Option Thing) (b : Block) → IsOf b → Fits IsHeaded (identified_over is_forward o b)
  identified_over-kept is_forward None b i = tt
  identified_over-kept is_forward (Some t) b i =
      fits_then IsHeaded IsHeaded (identified_again is_forward) (routine_there t b) (routine_there-kept t b i) (λ h k. again_if-kept (is_forward || has_body h.number h.block || is_none h.result) h k)

  start-kept : (is_forward : Bool) (line : ℕ) (s : RoutineStart) (b : Block) → IsOf b → Fits IsHeaded (start_headed is_forward line s b)
  start-kept is_forward line (start.Heading (heading.Procedure at name sections)) b i =
      fits_then Any IsHeaded (headed_over is_forward name line (look_up b.scopes.inner.entries name) b None) (sections_judged name 0 sections b []) (fits_any (sections_judged name 0 sections b []))
      (λ ps k. headed_over-kept is_forward name line (look_up b.scopes.inner.entries name) b None ps i)
  start-kept is_forward line (start.Heading (heading.Function at name sections own of)) b i =
      fits_then Any IsHeaded (result_headed is_forward line name own of b) (sections_judged name 0 sections b []) (fits_any (sections_judged name 0 sections b []))
      (λ ps k. fits_then Any IsHeaded (λ r. headed_over is_forward name line (look_up b.scopes.inner.entries name) b (Some r) ps) (result_judged name own of b) (fits_any (result_judged name own of b))
      (λ r j. headed_over-kept is_forward name line (look_up b.scopes.inner.entries name) b (Some r) ps i))
  start-kept is_forward line (start.Function at name) b i = identified_over-kept is_forward (look_up b.scopes.inner.entries name) b i

  headed_then-kept : (line : ℕ) (more : Headed → Standing) (j : Judged Headed) → Fits IsHeaded j → ((h : Headed) → IsHeaded h → Remains (more h)) → Remains (headed_then line more j)
  headed_then-kept line more (Accepts h) p g = g h p
  headed_then-kept line more (Breaks rules) p g = tt

  if_given-kept : (line : ℕ) (given : Bool) (s : Standing) → Remains s → Remains (if_given line given s)
  if_given-kept line true s h = h
  if_given-kept line false s h = tt

  body_closed-kept : (line number : ℕ) (before : OwnVariables) (b : Block) (row : Judgement Stmts) → IsOf b → Remains (body_closed line number before b row)
  body_closed-kept line number before b (Passes ss) i = i
  body_closed-kept line number before b (Waits at) i = i
  body_closed-kept line number before b (Fails at rules) i = tt

  formals-kept : (number : ℕ) (ps : List FormalParameter) (b : Block) → IsOf b → Fits IsOf (formals_entered number ps b)
  formals-kept number [] b i = i
  formals-kept number (p ∷ ps) b i =
      let t = own_thing b number (declaration.Own p.of.is p.kind (protection_of p.mode)) in
      fits_then IsOf IsOf (formals_entered (suc number) ps) (entered p.name t b) (entered-kept p.name t b i) (λ c j. formals-kept (suc number) ps c j)

  own_name-kept : (own : OwnResult) (name : Option (List ℕ)) (b : Block) → IsOf b → Fits IsOf (own_name_entered own name b)
  own_name-kept own None b i = i
  own_name-kept own (Some name) b i = entered-kept name (own_thing b own.variable (declaration.Own own.of.is own.kind protection.Unprotected)) b i

  result-kept : (number variable : ℕ) (r : Option HeadingResult) (b : Block) → IsOf b → Fits IsOf (result_entered number variable r b)
  result-kept number variable None b i = i
  result-kept number variable (Some r) b i = own_name-kept (in_block number variable r) r.name b i

  body-kept : (line : ℕ) (name : List ℕ) (number : ℕ) (before : OwnVariables) (c : Compound) (b : Block) → IsOf b → Remains (body_declared line name number before c b)
  body-kept line name number before c b i =
      let row = statements_judged b c in
      if_given-kept line (is_in_view b.own.result name b) (body_ended line number before b row) (if_given-kept line (row_gives b row) (body_closed line number before b row) (body_closed-kept line number before b row i))

  -- what is declared keeps a block one of the unit
  abbrev Keeps : (Block → Standing) → Type 0
  Keeps declares = (b : Block) → IsOf b → Remains (declares b)

  inside-kept : (line : ℕ) (name own : List ℕ) (number : ℕ) (before : OwnVariables) (ps : List PartJudged) (c : Compound) → Keeps (all_declared ps) → Keeps (inside_declared line name own number before ps c)
  inside-kept line name own number before ps c h b i =
      if_given-kept line (is_assigned b.own.result own (given_among (is_named b.own.result) own ps) c) (and_then (body_declared line name number before c) (all_declared ps b))
      (then-kept (body_declared line name number before c) (all_declared ps b) (h b i) (λ d k. body-kept line name number before c d k))

  block-kept : (line : ℕ) (name : List ℕ) (ps : List PartJudged) (c : Compound) → Keeps (all_declared ps) → (h : Headed) → IsHeaded h → Remains (block_declared line name ps c h)
  block-kept line name ps c inner h i =
      let b : Block = scope_opened h h.block in
      then-kept (inside_declared line name (result_name name h.result) h.number h.block.own ps c) (at_line line (heading_entered h b))
      (line-kept line (heading_entered h b) (fits_then IsOf IsOf (result_entered h.number (length h.parameters) h.result) (formals_entered 0 h.parameters b) (formals-kept 0 h.parameters b i) (λ d k. result-kept h.number (length h.parameters) h.result d k)))
      (λ d k. inside-kept line name (result_name name h.result) h.number h.block.own ps c inner d k)

  -- ---- all parts, with those inside of them

  abbrev IsPartKept : BlockPart → Type 0
  IsPartKept p = Keeps (part_judged p).declares

  abbrev IsBodyKept : RoutineBody → Type 0
  IsBodyKept body = (line : ℕ) (s : RoutineStart) → Keeps ((routine_body_judged body).declares line s)

  abbrev IsRoutineKept : Routine → Type 0
  IsRoutineKept r = Keeps (routine_judged r).declares

  abbrev KeptPart : Type 0
  KeptPart = (p : BlockPart) × IsPartKept p

  abbrev KeptBody : Type 0
  KeptBody = (body : RoutineBody) × IsBodyKept body

  abbrev KeptRoutine : Type 0
  KeptRoutine = (r : Routine) × IsRoutineKept r

  -- layers of such parts, without what holds of them
  abbrev part_layer : BlockPart-F KeptPart KeptBody KeptRoutine → BlockPart-F BlockPart RoutineBody Routine
  part_layer = map-BlockPart KeptPart KeptBody KeptRoutine BlockPart RoutineBody Routine (λ p. p.0) (λ body. body.0) (λ r. r.0)

  abbrev body_layer : RoutineBody-F KeptPart KeptBody KeptRoutine → RoutineBody-F BlockPart RoutineBody Routine
  body_layer = map-RoutineBody KeptPart KeptBody KeptRoutine BlockPart RoutineBody Routine (λ p. p.0) (λ body. body.0) (λ r. r.0)

  abbrev routine_layer : Routine-F KeptPart KeptBody KeptRoutine → Routine-F BlockPart RoutineBody Routine
  routine_layer = map-Routine KeptPart KeptBody KeptRoutine BlockPart RoutineBody Routine (λ p. p.0) (λ body. body.0) (λ r. r.0)

  rolled-part : (x : BlockPart-F BlockPart RoutineBody Routine) → Keeps (of_part (map-BlockPart BlockPart RoutineBody Routine PartJudged BodyJudged PartJudged part_judged routine_body_judged routine_judged x)).declares → IsPartKept (roll-BlockPart x)
  rolled-part x h b i = subst (λ (p : PartJudged). Remains (p.declares b)) (sym (fold-roll-BlockPart PartJudged BodyJudged PartJudged of_part of_body of_routine x)) (h b i)

  rolled-body : (x : RoutineBody-F BlockPart RoutineBody Routine)
      → ((line : ℕ) (s : RoutineStart) → Keeps ((of_body (map-RoutineBody BlockPart RoutineBody Routine PartJudged BodyJudged PartJudged part_judged routine_body_judged routine_judged x)).declares line s)) → IsBodyKept (roll-RoutineBody x)
  rolled-body x h line s b i = subst (λ (body : BodyJudged). Remains (body.declares line s b)) (sym (fold-roll-RoutineBody PartJudged BodyJudged PartJudged of_part of_body of_routine x)) (h line s b i)

  rolled-routine : (x : Routine-F BlockPart RoutineBody Routine) → IsBodyKept x.body → IsRoutineKept (roll-Routine x)
  rolled-routine x h b i = subst (λ (r : PartJudged). Remains (r.declares b)) (sym (fold-roll-Routine PartJudged BodyJudged PartJudged of_part of_body of_routine x)) (h x.line x.start b i)

  inner_parts-kept : (ps : List KeptPart) → Keeps (all_declared (map part_judged (map (λ p. p.0) ps)))
  inner_parts-kept [] b i = i
  inner_parts-kept (p ∷ ps) b i = then-kept (all_declared (map part_judged (map (λ q. q.0) ps))) ((part_judged p.0).declares b) (p.1 b i) (λ c j. inner_parts-kept ps c j)

  part-step : (y : BlockPart-F KeptPart KeptBody KeptRoutine) → IsPartKept (roll-BlockPart (part_layer y))
  part-step (BlockPart-F.Constants c) = rolled-part (BlockPart-F.Constants c) (λ b i. constants-kept c.definitions b i)
  part-step (BlockPart-F.Types t) = rolled-part (BlockPart-F.Types t) (λ b i. line-kept t.line (type_definitions t.line t.definitions b) (type_definitions-kept t.line t.definitions b i))
  part-step (BlockPart-F.Variables v) = rolled-part (BlockPart-F.Variables v) (λ b i. variables-kept v.declarations b i)
  part-step (BlockPart-F.Routine r) = rolled-part (BlockPart-F.Routine r.0) r.1

  body-step : (y : RoutineBody-F KeptPart KeptBody KeptRoutine) → IsBodyKept (roll-RoutineBody (body_layer y))
  body-step (RoutineBody-F.Forward at) =
      rolled-body (RoutineBody-F.Forward at) (λ line s b i. headed_then-kept line (λ h. Stands (forwarded line h)) (start_headed true line s b) (start-kept true line s b i) (λ h j. j))
  body-step (RoutineBody-F.Block at ps c) =
      let inner : List PartJudged = map part_judged (map (λ p. p.0) ps) in
      rolled-body (RoutineBody-F.Block at (map (λ p. p.0) ps) c)
      (λ line s b i. headed_then-kept line (block_declared line (start_name s) inner c) (start_headed false line s b) (start-kept false line s b i) (λ h j. block-kept line (start_name s) inner c (inner_parts-kept ps) h j))

  part-kept : (p : BlockPart) → IsPartKept p
  part-kept =
      ind-BlockPart IsPartKept IsBodyKept IsRoutineKept
      (λ x y e. subst (λ z. IsPartKept (roll-BlockPart z)) e (part-step y))
      (λ x y e. subst (λ z. IsBodyKept (roll-RoutineBody z)) e (body-step y))
      (λ x y e. subst (λ z. IsRoutineKept (roll-Routine z)) e (rolled-routine (routine_layer y) y.body.1))

  parts-kept : (ps : List BlockPart) → Keeps (parts_declared ps)
  parts-kept [] b i = i
  parts-kept (p ∷ ps) b i = then-kept (parts_declared ps) ((part_judged p).declares b) (part-kept p b i) (λ c j. parts-kept ps c j)

  -- so the block after parts that stand is one of the same unit
  pub parts-remain : (ps : List BlockPart) (b c : Block) → parts_declared ps b ≡ Stands c → IsOf b → IsOf c
  parts-remain ps b c e i = subst Remains e (parts-kept ps b i)

  parameter-kept : (name : List ℕ) (f : Option StandardFile) (b : Block) → IsOf b → Fits IsOf (parameter_entered name f b)
  parameter-kept name None b i = tt
  parameter-kept name (Some f) b i = entered-kept name (thing.Standard f) b i

  parameters-kept : (names : List (List ℕ)) (b : Block) → IsOf b → Fits IsOf (parameters_entered names b)
  parameters-kept [] b i = i
  parameters-kept (name ∷ names) b i = fits_then IsOf IsOf (parameters_entered names) (parameter_entered name (standard_file name) b) (parameter-kept name (standard_file name) b i) (λ c j. parameters-kept names c j)

  pub parameters-remain : (names : List (List ℕ)) (b c : Block) → parameters_entered names b ≡ Accepts c → IsOf b → IsOf c
  parameters-remain names b c e i = subst (Fits IsOf) e (parameters-kept names b i)
