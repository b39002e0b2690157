-- The headings of routines lead from one block to the next.
use Rattle.std.proofs.Common.{◌≡◌, ℕ, suc, ◌<◌, ◌≤◌, Bool, true, false, not, ◌||◌, List, [], ◌∷◌, ◌++◌, map, length, Option, Some, None, slice_get, bytes_eq, refl, sym, ap, ◌∙◌, subst, arith}
use Rattle.std.proofs.lemmas.List.{length-map, map-append}
use Rattle.std.proofs.lemmas.List.Elements.{All-nil, All-push}
use Rattle.std.specs.Prelude.{All, ⊤, is_none, if◌then◌else◌}
use Rattle.ep_tree.specs.declared.declaration.FormalSection.{FormalSection}
use Rattle.ep_tree.specs.declared.declaration.FormalType.{FormalType}
use Rattle.ep_tree.specs.declared.declaration.FormalType.TheVariants as formal_type
use Rattle.ep_tree.specs.declared.declaration.RoutineHeading.TheVariants as heading
use Rattle.ep_tree.specs.declared.operator.QualifiedName.{QualifiedName}
use Rattle.ep_tree.specs.declared.routine.RoutineStart.{RoutineStart}
use Rattle.ep_tree.specs.declared.routine.RoutineStart.TheVariants as start
use Rattle.ep_outside.specs.Known.{IsPrefix}
use Rattle.ep_meaning.specs.Units.{IsResult}
use Rattle.ep_meaning.specs.Valid.{HasKind, IsVariable}
use Rattle.ep_typed.specs.declared.interface.FormalMode.{FormalMode}
use Rattle.ep_typed.specs.declared.interface.RoutineEntry.{RoutineEntry}
use Rattle.ep_typed.specs.declared.interface.RoutineResult.{RoutineResult}
use Rattle.ep_typed.specs.declared.unit.Unit.{Unit as TypedUnit}
use Rattle.ep_typed.specs.Viewed.{denoter_of}
use Rattle.ep_scope.specs.Required.{look_up}
use Rattle.ep_scope.specs.Scopes.{Entries}
use Rattle.ep_scope.specs.declared.parameter.FormalParameter.{FormalParameter}
use Rattle.ep_scope.specs.declared.rule.TheConstants as rule
use Rattle.ep_scope.specs.declared.thing.Declaration.{Declaration}
use Rattle.ep_scope.specs.declared.thing.Declaration.TheVariants as declaration
use Rattle.ep_scope.specs.declared.thing.Declared.{Declared}
use Rattle.ep_scope.specs.declared.thing.Thing.{Thing}
use Rattle.ep_scope.specs.declared.thing.Thing.TheVariants as thing
use Rattle.ep_rules.specs.Judgements.{Judged, Accepts, Breaks}
use Rattle.ep_stmt_rules.proofs.public.judged.Fits.{Any, Fits, fits_any, fits_then, fits_weaker}
use Rattle.ep_unit_rules.specs.Own.{around_of}
use Rattle.ep_check_unit.specs.Blocks.{Block, RoutineForm}
use Rattle.ep_unit_rules.specs.Types.{type_denoter}
use Rattle.ep_check_unit.specs.Declarations.{Standing, Written, entered, own_thing, type_named, unused, with_name, written_type}
use Rattle.ep_unit_rules.specs.Functions.{own_result, routine_declaration, same_result, typed_result}
use Rattle.ep_check_unit.specs.Functions.{own_name_at}
use Rattle.ep_unit_rules.specs.Formals.{formal_of, is_parameter, is_repeated, parameter_added, parameters_added, section_mode}
use Rattle.ep_unit_rules.specs.Numbers.{has_number}
use Rattle.ep_check_unit.specs.Routines.{Headed, declared_routine, forwarded, has_body, headed_again, headed_first, headed_form, headed_over, headed_then, hidden_type, identified_again, identified_over, parameter_type, result_headed, result_judged, routine_there, section_judged, section_type, sections_judged, start_headed, with_routine}
use Rattle.ep_unit_rules.specs.declared.own.Enclosing.{Enclosing}
use Rattle.ep_unit_rules.specs.declared.functions.HeadingResult.{HeadingResult}
use Rattle.ep_check_unit.proofs.public.Forms.{each_push}
use Rattle.ep_unit_laws.proofs.Denoting.{DenotesKind, kind_has_values}
use Rattle.ep_unit_laws.proofs.Holds.{HasTypeHere, Holds, HoldsDeclaration, HoldsParameter, HoldsResult, HoldsRoutine, HoldsThings, HoldsThing, ListsKind, around_innermost, formals_valid, head_of, headed_around, name_denotes, named_tree}
use Rattle.ep_unit_laws.proofs.Items.{LeadsOn}
use Rattle.ep_unit_laws.proofs.Leading.{Extends, Grows, Leads, counted_leads, grown, head_in, leads_refl, named_holds, stays}
use Rattle.ep_unit_laws.proofs.Prefixes.{length_push, prefix_last, prefix_length, prefix_more}
use Rattle.ep_unit_laws.proofs.Meant.{HoldsIf, look_up_holds}
use Rattle.ep_unit_laws.proofs.Open.{IsNumbered, IsNumberedAs, IsOpen, IsThingIf, IsThingOf, floor_below, look_up_numbered, not_below, open_more, open_push}
use Rattle.ep_unit_laws.proofs.Types.{Names, type_named-names}
use Rattle.ep_meaning.proofs.public.Lists.{get_front}

-- a typed result is that of a heading, whatever its name
abbrev pub IsResultOf : Option HeadingResult → Option RoutineResult → Type 0
IsResultOf None result = result ≡ None
IsResultOf (Some r) result = (name : Option (List ℕ)) × (result ≡ Some (record { name = name; denoter = type_denoter r.of.name }))

module _ (u : TypedUnit) where
  -- ---- lists of formal parameters

  -- the parameters have types, wherever those before them have
  abbrev HeldIn : Block → List FormalParameter → List FormalParameter → Type 0
  HeldIn b before ps = (i : ℕ) → Holds u i b → All (HoldsParameter u i) before → All (HoldsParameter u i) ps

  hidden_names : (second : Option (List ℕ)) (b : Block) → Fits (Names u b) (hidden_type second)
  hidden_names None b = tt
  hidden_names (Some name) b = tt

  type_if : (hidden : Bool) (first : List ℕ) (second : Option (List ℕ)) (b : Block) → Fits (Names u b) (if hidden then hidden_type second else type_named first second b)
  type_if true first second b = hidden_names second b
  type_if false first second b = type_named-names u first second b

  section_named : (routine : List ℕ) (before : List FormalParameter) (t : FormalType) (b : Block) → Fits (Names u b) (section_type routine before t b)
  section_named routine before (formal_type.Named name) b = type_if (bytes_eq routine name.first || is_parameter name.first before) name.first name.second b
  section_named routine before (formal_type.TypeOf line name) b = tt

  -- the name that is written for a type denotes it
  names_written : (b : Block) (w : Written) → Names u b w → (i : ℕ) → HasTypeHere u i (denoter_of w.denoter) w.of w.kind → HasTypeHere u i (named_tree (written_type w).name) w.of w.kind
  names_written b w n i x = (x.0, subst (λ d. DenotesKind u.types i d w.kind x.0) (ap denoter_of n.named ∙ name_denotes (written_type w).name) x.1, x.2)

  added_if : (twice : Bool) (b : Block) (before : List FormalParameter) (p : FormalParameter) → ((i : ℕ) → Holds u i b → HoldsParameter u i p)
      → Fits (HeldIn b before) (if twice then Breaks (rule.TWICE ∷ []) else Accepts (before ++ p ∷ []))
  added_if true b before p h = tt
  added_if false b before p h = λ i x all. All-push (HoldsParameter u i) before p all (h i x)

  added_held : (b : Block) (m : FormalMode) (section : ℕ) (w : Written) → Names u b w → (names : List (List ℕ)) (before : List FormalParameter) → Fits (HeldIn b before) (parameters_added m section (written_type w) w.kind names before)
  added_held b m section w n [] before = λ i x all. all
  added_held b m section w n (name ∷ names) before =
      let p : FormalParameter = record { name = name; mode = m; section = section; of = written_type w; kind = w.kind } in
      fits_then (HeldIn b before) (HeldIn b before) (parameters_added m section (written_type w) w.kind names) (parameter_added p before)
      (added_if (is_parameter name before) b before p (λ i x. let y = n.holds i x in record { lists = y.1; denotes = names_written b w n i y.0 }))
      (λ ps h. fits_weaker (HeldIn b ps) (HeldIn b before) (parameters_added m section (written_type w) w.kind names ps) (λ qs g i x all. g i x (h i x all)) (added_held b m section w n names ps))

  section_held : (routine : List ℕ) (section : ℕ) (s : FormalSection) (b : Block) (before : List FormalParameter) → Fits (HeldIn b before) (section_judged routine section s b before)
  section_held routine section s b before =
      fits_then (Names u b) (HeldIn b before) (λ w. parameters_added (section_mode s.protected s.variable) section (written_type w) w.kind s.names before) (section_type routine before s.of b) (section_named routine before s.of b)
      (λ w n. added_held b (section_mode s.protected s.variable) section w n s.names before)

  sections_held : (routine : List ℕ) (section : ℕ) (ss : List FormalSection) (b : Block) (before : List FormalParameter) → Fits (HeldIn b before) (sections_judged routine section ss b before)
  sections_held routine section [] b before = λ i x all. all
  sections_held routine section (s ∷ ss) b before =
      fits_then (HeldIn b before) (HeldIn b before) (sections_judged routine (suc section) ss b) (section_judged routine section s b before) (section_held routine section s b before)
      (λ ps h. fits_weaker (HeldIn b ps) (HeldIn b before) (sections_judged routine (suc section) ss b ps) (λ qs g i x all. g i x (h i x all)) (sections_held routine (suc section) ss b ps))

  -- ---- headings

  abbrev ParametersHeld : Block → List FormalParameter → Type 0
  ParametersHeld b ps = (i : ℕ) → Holds u i b → All (HoldsParameter u i) ps

  -- the result of a heading has a type
  abbrev HoldsTyped : ℕ → Option HeadingResult → Type 0
  HoldsTyped i None = ⊤
  HoldsTyped i (Some r) = HasTypeHere u i (named_tree r.of.name) r.of.is r.kind × ListsKind u i r.kind

  abbrev ResultHeld : Block → Option HeadingResult → Type 0
  ResultHeld b r = (i : ℕ) → Holds u i b → HoldsTyped i r

  -- what it holds of a procedure or a function that is declared in the blocks of these
  pub record HoldsHeaded (es : List Enclosing) (i number : ℕ) (ps : List FormalParameter) (r : Option HeadingResult) : Type 0 where
    pub heading : RoutineEntry
    pub at : slice_get (map head_of u.routines) number ≡ Some (heading, around_of es)
    pub formals : heading.formals ≡ map formal_of ps
    pub parameters : All (HoldsParameter u i) ps
    pub result : IsResultOf r heading.result
    pub owned : HoldsResult u i ps (own_result number (length ps) r)

  -- by what its name stands for in their innermost block
  declares_headed : (es : List Enclosing) (i : ℕ) (d : Declared) (ps : List FormalParameter) (r : Option HeadingResult) → d.level ≡ length es → HoldsDeclaration u es i d (routine_declaration ps r) → HoldsHeaded es i d.number ps r
  declares_headed es i d ps None e x = record {
    heading = x.heading;
    at = x.at ∙ ap (λ ns. Some (x.heading, ns)) (around_innermost u es d.level e);
    formals = x.formals;
    parameters = x.parameters;
    result = x.is_procedure;
    owned = tt;
  }
  declares_headed es i d ps (Some r) e x = record {
    heading = x.heading;
    at = x.at ∙ ap (λ ns. Some (x.heading, ns)) (around_innermost u es d.level e);
    formals = x.formals;
    parameters = x.parameters;
    result = (x.name, x.result);
    owned = record { lists = x.lists; denotes = x.denotes; variable = refl };
  }

  -- The block leads to that of a routine that is declared in it, which the unit holds.
  pub record StandsOn (b : Block) (h : Headed) : Type 0 where
    pub leads : Leads u b h.block
    pub numbered : IsOpen b → IsNumbered h.block.own.enclosing (length h.block.routines) (length h.block.own.enclosing) h.number
    pub held : IsOpen b → (i : ℕ) → Holds u i h.block → HoldsHeaded h.block.own.enclosing i h.number h.parameters h.result

  -- And it has no body.
  pub record HeadsOn (b : Block) (h : Headed) : Type 0 where
    pub stands : StandsOn b h
    pub bodiless : IsOpen b → has_number h.number h.block.bodies ≡ false

  -- the headings of the unit begin with these
  routine_at : (name : List ℕ) (line : ℕ) (ps : List FormalParameter) (r : Option HeadingResult) (b : Block) → IsPrefix (map head_in (b.routines ++ headed_form name line ps r b.own.enclosing ∷ [])) (map head_of u.routines)
      → slice_get (map head_of u.routines) (length b.routines) ≡ Some (head_in (headed_form name line ps r b.own.enclosing))
  routine_at name line ps r b p =
      let f = headed_form name line ps r b.own.enclosing in
      subst (λ n. slice_get (map head_of u.routines) n ≡ Some (head_in f)) (length-map b.routines head_in)
      (prefix_last (map head_in b.routines) (head_in f) (map head_of u.routines) (subst (λ hs. IsPrefix hs (map head_of u.routines)) (map-append head_in b.routines (f ∷ [])) p))

  -- a result that has a type is valid
  typed_valid : (i : ℕ) (r : Option HeadingResult) → i ≤ length u.types → HoldsTyped i r → IsResult u.types (typed_result r)
  typed_valid i None le x = tt
  typed_valid i (Some r) le x = subst (HasKind u.types) (sym (name_denotes r.of.name)) (kind_has_values u.types i (named_tree r.of.name) r.kind x.0.0 le x.0.1)

  -- one routine more
  routine_grows : (name : List ℕ) (line : ℕ) (ps : List FormalParameter) (r : Option HeadingResult) (b : Block) → Grows b (with_routine name line ps r b)
  routine_grows name line ps r b =
      let f = headed_form name line ps r b.own.enclosing in
      grown b (record (stays b) {
        to = with_routine name line ps r b;
        headings = subst (IsPrefix (map head_in b.routines)) (sym (map-append head_in b.routines (f ∷ []))) (prefix_more (map head_in b.routines) (head_in f ∷ []));
        opens = λ x. open_more b.scopes.inner.entries b.scopes.outer b.own.enclosing (length b.routines) (length (b.routines ++ f ∷ [])) b.bodies (omega (arith, length_push b.routines f)) x;
        bodies = λ x n g has at. (has, get_front b.routines (f ∷ []) n g at);
      })

  routine_leads : (name : List ℕ) (line : ℕ) (ps : List FormalParameter) (r : Option HeadingResult) (b : Block) → ParametersHeld b ps → ResultHeld b r → Leads u b (with_routine name line ps r b)
  routine_leads name line ps r b held typed = record {
    grows = routine_grows name line ps r b;
    holds = λ under e w x. record {
      unit = x.unit;
      names = x.names;
      lists = x.lists;
      under_way = x.under_way;
      routines = each_push (HoldsRoutine u) b.routines (headed_form name line ps r b.own.enclosing) x.routines (record {
        result = typed_valid (length b.types) r (prefix_length b.types u.types e.types) (typed (length b.types) x);
        around = headed_around u b.own.enclosing (length b.routines) b.bodies under.under_way x.headed;
        formals = formals_valid u (length b.types) ps (prefix_length b.types u.types e.types) (held (length b.types) x);
        variables = All-nil (IsVariable u.types);
        block = tt;
      });
    };
  }

  -- the block before there was one routine more
  before_routine : (i : ℕ) (name : List ℕ) (line : ℕ) (ps : List FormalParameter) (r : Option HeadingResult) (b : Block) → Holds u i (with_routine name line ps r b) → Holds u i b
  before_routine i name line ps r b x = record {
    unit = x.unit;
    names = x.names;
    lists = x.lists;
    under_way = x.under_way;
    routines = λ n f at. x.routines n f (get_front b.routines (headed_form name line ps r b.own.enclosing ∷ []) n f at);
  }

  -- the name that was entered last
  last_held : (es : List Enclosing) (i : ℕ) (xs : Entries) (name : List ℕ) (t : Thing) → HoldsThings u es i (xs ++ (name, t) ∷ []) → HoldsThing u es i t
  last_held es i [] name t x = x.0
  last_held es i (y ∷ ys) name t x = last_held es i ys name t x.1

  -- a routine by its form, which the unit has
  form_held : (es : List Enclosing) (i : ℕ) (d : Declared) (name : List ℕ) (line : ℕ) (ps : List FormalParameter) (r : Option HeadingResult) → d.level ≡ length es → slice_get (map head_of u.routines) d.number ≡ Some (head_in (headed_form name line ps r es))
      → All (HoldsParameter u i) ps → HoldsTyped i r → HoldsDeclaration u es i d (routine_declaration ps r)
  form_held es i d name line ps None e at held typed =
      let h = (head_in (headed_form name line ps None es)).0 in
      record { inside = omega (arith, e); heading = h; at = at ∙ ap (λ ns. Some (h, ns)) (sym (around_innermost u es d.level e)); is_procedure = refl; formals = refl; parameters = held }
  form_held es i d name line ps (Some r) e at held typed =
      let h = (head_in (headed_form name line ps (Some r) es)).0 in
      record {
        inside = omega (arith, e);
        heading = h;
        at = at ∙ ap (λ ns. Some (h, ns)) (sym (around_innermost u es d.level e));
        name = r.name;
        result = refl;
        formals = refl;
        parameters = held;
        lists = typed.1;
        denotes = typed.0;
      }

  -- its name is one of the innermost block
  first_numbered : (b : Block) (ps : List FormalParameter) (r : Option HeadingResult) (count : ℕ) → length b.routines < count → IsOpen b → IsThingOf b.own.enclosing count (own_thing b (length b.routines) (routine_declaration ps r))
  first_numbered b ps None count lt x = record { level_is = refl; above = floor_below b.own.enclosing (length b.routines) b.bodies x.under_way; below = lt }
  first_numbered b ps (Some r) count lt x = record { level_is = refl; above = floor_below b.own.enclosing (length b.routines) b.bodies x.under_way; below = lt }

  module _ (name : List ℕ) (line : ℕ) (ps : List FormalParameter) (r : Option HeadingResult) (b : Block) (held : ParametersHeld b ps) (typed : ResultHeld b r) where
    abbrev Form : RoutineForm
    Form = headed_form name line ps r b.own.enclosing

    abbrev Added : Block
    Added = with_routine name line ps r b

    abbrev Own : Thing
    Own = own_thing b (length b.routines) (routine_declaration ps r)

    abbrev First : Headed
    First = record { number = length b.routines; parameters = ps; result = r; block = with_name name Own Added }

    one_more : length b.routines < length (b.routines ++ Form ∷ [])
    one_more = omega (arith, length_push b.routines Form)

    first_grows : Grows b First.block
    first_grows =
        let g = routine_grows name line ps r b in
        grown b (record (stays b) {
          to = First.block;
          headings = g.headings;
          opens = λ x. open_push b.scopes.inner.entries b.scopes.outer b.own.enclosing (length (b.routines ++ Form ∷ [])) b.bodies name Own (first_numbered b ps r (length (b.routines ++ Form ∷ [])) one_more x) (g.opens x);
          bodies = g.bodies;
        })

    abbrev Declares : Declared
    Declares = record { unit = b.unit; number = length b.routines; level = length b.own.enclosing; what = routine_declaration ps r }

    first_leads : Leads u b First.block
    first_leads = record {
      grows = first_grows;
      holds = λ under e w x.
          let added : Extends u Added = record { types = e.types; constants = e.constants; variables = e.variables; line = e.line; name = e.name; own = e.own; headings = e.headings; bodies = e.bodies } in
          let y = (routine_leads name line ps r b held typed).holds under added w x in
          named_holds u (length b.types) name Own Added (
            y.unit,
            form_held b.own.enclosing (length b.types) Declares name line ps r refl (routine_at name line ps r b e.headings) (held (length b.types) x) (typed (length b.types) x),
          ) y;
    }

    first_heads : HeadsOn b First
    first_heads = record {
      stands = record {
        leads = first_leads;
        numbered = λ under. record { level_is = refl; above = floor_below b.own.enclosing (length b.routines) b.bodies under.under_way; below = one_more };
        held = λ under i x. declares_headed b.own.enclosing i Declares ps r refl (last_held b.own.enclosing i b.scopes.inner.entries name Own x.things).1;
      };
      bodiless = λ under. not_below (length b.routines) (length b.routines) b.bodies under.below (omega arith);
    }

    first_headed : Fits (HeadsOn b) (headed_first name line ps r b)
    first_headed =
        fits_then (λ d. d ≡ with_name name Own Added) (HeadsOn b) (λ d. Accepts (record { number = length b.routines; parameters = ps; result = r; block = d })) (entered name Own Added)
        (fits_then Any (λ d. d ≡ with_name name Own Added) (λ _. Accepts (with_name name Own Added)) (unused name Added) (fits_any (unused name Added)) (λ a k. refl))
        (λ d p. subst (λ k. HeadsOn b (record { number = length b.routines; parameters = ps; result = r; block = k })) (sym p) first_heads)

  -- ---- a routine that is declared already

  declared_stands : (d : Declared) (what : Declaration) (b : Block) → (IsOpen b → IsNumberedAs b.own.enclosing (length b.routines) d what) → ((i : ℕ) → Holds u i b → HoldsDeclaration u b.own.enclosing i d what) → Fits (StandsOn b) (declared_routine d.number what b)
  declared_stands d (declaration.Procedure ps) b numbered held = record {
    leads = leads_refl u b;
    numbered = λ under. let n = numbered under in record { level_is = refl; above = n.above; below = n.below };
    held = λ under i x. declares_headed b.own.enclosing i d ps None (numbered under).level_is (held i x);
  }
  declared_stands d (declaration.Function ps of k) b numbered held = record {
    leads = leads_refl u b;
    numbered = λ under. let n = numbered under in record { level_is = refl; above = n.above; below = n.below };
    held = λ under i x. declares_headed b.own.enclosing i d ps (Some (record { name = own_name_at (slice_get b.routines d.number); of = of; kind = k })) (numbered under).level_is (held i x);
  }
  declared_stands d (declaration.Constant k v deep) b numbered held = tt
  declared_stands d (declaration.«Type» of h nodes) b numbered held = tt
  declared_stands d (declaration.Variable of k guarded) b numbered held = tt
  declared_stands d (declaration.Own of k guarded) b numbered held = tt

  -- what a name stands for in the innermost scope
  abbrev FoundIn : Block → Option Thing → Type 0
  FoundIn b o = (IsOpen b → IsThingIf b.own.enclosing (length b.routines) o) × ((i : ℕ) → Holds u i b → HoldsIf u b.own.enclosing i o)

  there_stands : (t : Thing) (b : Block) → FoundIn b (Some t) → Fits (StandsOn b) (routine_there t b)
  there_stands (thing.Declared d) b f = declared_stands d d.what b f.0 (λ i x. (f.1 i x).1)
  there_stands (thing.Standard file) b f = tt

  -- the second of three tests that all fail, and three of four
  second_fails : (a b c : Bool) → (a || b || c) ≡ false → b ≡ false
  second_fails true b c e = cc
  second_fails false true c e = cc
  second_fails false false c e = refl

  three_fail : (abc d : Bool) → (abc || d) ≡ false → abc ≡ false
  three_fail true d e = cc
  three_fail false d e = refl

  again_if : (repeated : Bool) (b : Block) (h : Headed) → (repeated ≡ false → has_number h.number h.block.bodies ≡ false) → StandsOn b h → Fits (HeadsOn b) (if repeated then Breaks (rule.REPEATED_HEADING ∷ []) else Accepts h)
  again_if true b h none k = tt
  again_if false b h none k = record { stands = k; bodiless = λ under. none refl }

  over_leads : (is_forward : Bool) (name : List ℕ) (line : ℕ) (o : Option Thing) (b : Block) (r : Option HeadingResult) (ps : List FormalParameter) → FoundIn b o → ParametersHeld b ps → ResultHeld b r
      → Fits (HeadsOn b) (headed_over is_forward name line o b r ps)
  over_leads is_forward name line None b r ps there held typed = first_headed name line ps r b held typed
  over_leads is_forward name line (Some t) b r ps there held typed =
      fits_then (StandsOn b) (HeadsOn b) (headed_again is_forward ps r) (routine_there t b) (there_stands t b there)
      (λ h k. again_if (is_forward || has_body h.number h.block || not (is_repeated ps h.parameters) || not (same_result r h.result)) b h (λ e. second_fails is_forward (has_body h.number h.block) (not (is_repeated ps h.parameters)) (three_fail (is_forward || has_body h.number h.block || not (is_repeated ps h.parameters)) (not (same_result r h.result)) e)) k)

  -- what a name stands for in the scope
  found_held : (name : List ℕ) (b : Block) → FoundIn b (look_up b.scopes.inner.entries name)
  found_held name b = (λ under. look_up_numbered b.own.enclosing (length b.routines) b.scopes.inner.entries name under.things, λ i x. look_up_holds u b.own.enclosing i b.scopes.inner.entries name x.things)

  all_held : (name : List ℕ) (sections : List FormalSection) (b : Block) → Fits (ParametersHeld b) (sections_judged name 0 sections b [])
  all_held name sections b = fits_weaker (HeldIn b []) (ParametersHeld b) (sections_judged name 0 sections b []) (λ ps h i x. h i x (All-nil (HoldsParameter u i))) (sections_held name 0 sections b [])

  result_held : (function : List ℕ) (own : Option (List ℕ)) (of : QualifiedName) (b : Block) → Fits (λ r. ResultHeld b (Some r)) (result_judged function own of b)
  result_held function own of b =
      fits_then (Names u b) (λ r. ResultHeld b (Some r)) (λ w. Accepts (record { name = own; of = written_type w; kind = w.kind })) (parameter_type function [] of.first of.second b)
      (type_if (bytes_eq function of.first || is_parameter of.first []) of.first of.second b) (λ w n i x. let y = n.holds i x in (names_written b w n i y.0, y.1))

  identified_leads : (is_forward : Bool) (o : Option Thing) (b : Block) → FoundIn b o → Fits (HeadsOn b) (identified_over is_forward o b)
  identified_leads is_forward None b there = tt
  identified_leads is_forward (Some t) b there =
      fits_then (StandsOn b) (HeadsOn b) (identified_again is_forward) (routine_there t b) (there_stands t b there)
      (λ h k. again_if (is_forward || has_body h.number h.block || is_none h.result) b h (λ e. second_fails is_forward (has_body h.number h.block) (is_none h.result) e) k)

  pub headed_leads : (is_forward : Bool) (line : ℕ) (s : RoutineStart) (b : Block) → Fits (HeadsOn b) (start_headed is_forward line s b)
  headed_leads is_forward line (start.Heading (heading.Procedure at name sections)) b =
      fits_then (ParametersHeld b) (HeadsOn b) (headed_over is_forward name line (look_up b.scopes.inner.entries name) b None) (sections_judged name 0 sections b []) (all_held name sections b)
      (λ ps h. over_leads is_forward name line (look_up b.scopes.inner.entries name) b None ps (found_held name b) h (λ i x. tt))
  headed_leads is_forward line (start.Heading (heading.Function at name sections own of)) b =
      fits_then (ParametersHeld b) (HeadsOn b) (result_headed is_forward line name own of b) (sections_judged name 0 sections b []) (all_held name sections b)
      (λ ps h. fits_then (λ r. ResultHeld b (Some r)) (HeadsOn b) (λ r. headed_over is_forward name line (look_up b.scopes.inner.entries name) b (Some r) ps) (result_judged name own of b) (result_held name own of b)
      (λ r typed. over_leads is_forward name line (look_up b.scopes.inner.entries name) b (Some r) ps (found_held name b) h typed))
  headed_leads is_forward line (start.Function at name) b = identified_leads is_forward (look_up b.scopes.inner.entries name) b (found_held name b)

  pub after_heading : (b : Block) (line : ℕ) (more : Headed → Standing) (j : Judged Headed) → Fits (HeadsOn b) j → ((h : Headed) → HeadsOn b h → LeadsOn u b (more h)) → LeadsOn u b (headed_then line more j)
  after_heading b line rest (Accepts h) p g = g h p
  after_heading b line rest (Breaks rules) p g = tt

  pub forward_leads : (line : ℕ) (h : Headed) → Leads u h.block (forwarded line h)
  forward_leads line h = counted_leads u h.block.declarations (h.block.forwards ++ record { number = h.number; line = line } ∷ []) h.block
