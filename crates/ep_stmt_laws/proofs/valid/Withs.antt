-- The records of a `with` statement that the rules accept are valid, where the variables that stand for them are there.
use Rattle.std.proofs.Common.{◌≡◌, ℕ, suc, ◌+◌, List, [], ◌∷◌, ◌++◌, length, Option, Some, None, refl, sym, ap, ◌∙◌, subst, arith}
use Rattle.std.specs.Prelude.{All, ⊤}
use Rattle.std.proofs.lemmas.List.{length_push}
use Rattle.std.proofs.lemmas.List.Elements.{All-nil}
use Rattle.ep_tree.specs.declared.expression.Access as syntax
use Rattle.ep_typed.specs.Denoters.{bare_type_of}
use Rattle.ep_typed.specs.Trees as tree
use Rattle.ep_typed.specs.Auxiliaries.{with_variables}
use Rattle.ep_typed.proofs.public.Withs.{first_for_in_with, first_for_with}
use Rattle.ep_typed.specs.Trees.{Denoter, Entire, Expr, Named, Place, Stmt, WithRecord, entire, with_form}
use Rattle.ep_values.specs.TypeValues.{TypeValue}
use Rattle.ep_values.specs.TypeValues as type
use Rattle.ep_meaning.specs.Valid.{Declarations, IsStmt, IsStructured, IsWith}
use Rattle.ep_typed.specs.declared.unit.UnitType.{UnitType}
use Rattle.ep_scope.specs.Scopes.{OpenRecord, Region, structure_in, within}
use Rattle.ep_scope.specs.declared.kind.Kind.{Kind}
use Rattle.ep_scope.specs.declared.kind.Kind.TheVariants as kind
use Rattle.ep_scope.specs.declared.parameter.Protection.{Protection}
use Rattle.ep_scope.specs.declared.parameter.TypeName.TheVariants as type_name
use Rattle.ep_scope.specs.declared.structure.Composition.{Composition}
use Rattle.ep_scope.specs.declared.structure.Composition.TheVariants as composition
use Rattle.ep_scope.specs.declared.structure.FieldType.{FieldType}
use Rattle.ep_scope.specs.declared.structure.StructuredType.{StructuredType}
use Rattle.ep_expr_laws.specs.Agreement.{HasKind, HasStructure, HoldsStructure, IsFormOf, IsListed, IsOpen, IsStructuredAt, TypeValues}
use Rattle.ep_rules.specs.Arguments.{place_read}
use Rattle.ep_check_expr.specs.Expressions.{name_judged}
use Rattle.ep_rules.specs.Judgements.{Judged, Accepts, Breaks, Typed, when_accepted}
use Rattle.ep_expr_laws.specs.Laws.{VariablesAreSound}
use Rattle.ep_rules.specs.declared.access.Access.{Access}
use Rattle.ep_rules.specs.declared.access.Access.TheVariants as access
use Rattle.ep_expr_laws.proofs.public.Components.{fields-at}
use Rattle.ep_expr_laws.proofs.public.Passing.{IfForm}
use Rattle.ep_expr_laws.proofs.public.Places.{made_so, place_at, place_wider, structure_in-holds}
use Rattle.ep_stmt_laws.specs.Laws.{WithIsThere, WithsAreThere}
use Rattle.ep_stmt_rules.specs.Statements.{Context, Opened, RecordNamed, block_variable, inside, none_opened, one_after, one_opened, record_accessed, record_made, record_of_kind, record_opened, records_opened, with_head}
use Rattle.ep_stmt_rules.proofs.public.judged.Fits.{Fits, fits_then}
use Rattle.ep_stmt_laws.proofs.valid.Sound.{AgreedIn, IsSound, agrees_in}

-- ---- records in a row

module _ (declared : Declarations) (types : TypeValues) (structures : List StructuredType) where
  -- the variables that stand for them are there
  abbrev pub HeadsAreThere : List WithRecord → Type 0
  HeadsAreThere [] = ⊤
  HeadsAreThere (h ∷ hs) = WithIsThere declared types structures h.variable h.of × HeadsAreThere hs

  front_there : (hs : List WithRecord) (h : WithRecord) → HeadsAreThere (hs ++ h ∷ []) → HeadsAreThere hs
  front_there [] h p = tt
  front_there (g ∷ hs) h p = (p.0, front_there hs h p.1)

  last_there : (hs : List WithRecord) (h : WithRecord) → HeadsAreThere (hs ++ h ∷ []) → WithIsThere declared types structures h.variable h.of
  last_there [] h p = p.0
  last_there (g ∷ hs) h p = last_there hs h p.1

  -- they are valid
  abbrev pub AreHeads : List WithRecord → Type 0
  AreHeads [] = ⊤
  AreHeads (h ∷ hs) = IsWith declared h.variable h.of h.place × AreHeads hs

  one_valid : (hs : List WithRecord) (h : WithRecord) → AreHeads hs → IsWith declared h.variable h.of h.place → AreHeads (hs ++ h ∷ [])
  one_valid [] h p q = (q, tt)
  one_valid (g ∷ hs) h p q = (p.0, one_valid hs h p.1 q)

  module _ (depth : ℕ) where
    module _ (n : ℕ) (fs : List FieldType) (in_view : (list : List UnitType) → All (HoldsStructure types list) structures → HoldsStructure types list (made_so n (composition.Record fs))) (v : Entire) (there : WithIsThere declared types structures v n) where
      abbrev Denotes : List UnitType → Denoter → Type 0
      Denotes list d = (d ≡ Named n []) × (bare_type_of list d ≡ types (type_name.Entry n)) × All (HoldsStructure types list) structures

      -- the variable has the record type
      stands_at : IsStructuredAt declared types structures n (entire v)
      stands_at = place_wider declared Denotes (λ list d. HasKind types list d (kind.Structured n) × All (HoldsStructure types list) structures) (entire v) kinded there.1
        where
          kinded : (list : List UnitType) (d : Denoter) → Denotes list d → HasKind types list d (kind.Structured n) × All (HoldsStructure types list) structures
          kinded list d q =
              let h = in_view list q.2 in
              let structured : IsStructured h.type_value = subst IsStructured (sym h.value_made.1) tt in (
                ((h.structure, subst (λ (e : Denoter). HasStructure list e h.structure) (sym q.0) h.has_structure, h.has_structure), (h.type_value, (h.has_value, structured), q.1 ∙ h.has_value)),
                q.2,
              )

      -- so it is open with its fields
      pub opens : (guarded : Protection) → IsOpen declared types structures depth (record { variable = v; guarded = guarded; fields = fs })
      opens guarded = fields-at declared types structures depth n fs in_view (entire v) stands_at

      -- and stands for a place of that type
      pub stands : (place : Place) → IsStructuredAt declared types structures n place → IsWith declared v n place
      stands place at =
          let h = in_view _ (place_at declared Denotes (entire v) there.1).2.2 in
          let value : types (type_name.Entry n) ≡ Some (type.Record h.value_made.0) = h.has_value ∙ ap Some h.value_made.1 in
          record {
            components = h.value_made.0;
            unmade = there.0;
            variable = place_wider declared Denotes (λ list d. (d ≡ Named n []) × (bare_type_of list d ≡ Some (type.Record h.value_made.0))) (entire v) (λ list d q. (q.0, q.1 ∙ value)) there.1;
            place = place_wider declared (λ list d. HasKind types list d (kind.Structured n) × All (HoldsStructure types list) structures) (λ list d. bare_type_of list d ≡ Some (type.Record h.value_made.0)) place (λ list d k. k.0.1.2 ∙ (sym k.0.1.1.0 ∙ value)) at;
          }

    -- ---- records that are opened one after another

    -- where one more record is open
    agrees_within : (r : OpenRecord) (scopes : List Region) → AgreedIn declared types structures depth scopes → IsOpen declared types structures depth r → AgreedIn declared types structures depth (within r scopes)
    agrees_within r [] h fields = (h.0, h.1, (tt, tt, tt, (fields, tt), All-nil (IsListed declared types)))
    agrees_within r (g ∷ gs) h fields = (h.0, h.1, (h.2.0, h.2.1, h.2.2, (fields, h.2.3), h.2.4))

    module _ (variables : VariablesAreSound) (c : Context) where
      -- they have the next numbers
      abbrev pub AreNumbered : ℕ → List WithRecord → Type 0
      AreNumbered number [] = ⊤
      AreNumbered number (h ∷ hs) = (h.variable ≡ block_variable c.locals number) × AreNumbered (number + 1) hs

      one_numbered : (hs : List WithRecord) (h : WithRecord) (number : ℕ) → AreNumbered number hs → h.variable ≡ block_variable c.locals (number + length hs) → AreNumbered number (hs ++ h ∷ [])
      one_numbered [] h number p q = (subst (λ m. h.variable ≡ block_variable c.locals m) {x = number + 0} {y = number} (omega arith) q, tt)
      one_numbered (g ∷ hs) h number p q = (p.0, one_numbered hs h (number + 1) p.1 (subst (λ m. h.variable ≡ block_variable c.locals m) {x = number + suc (length hs)} {y = (number + 1) + length hs} (omega arith) q))

      -- the records, where they are built
      abbrev pub IfBuilt : Opened → Option (List WithRecord) → Type 0
      IfBuilt o None = ⊤
      IfBuilt o (Some hs) =
          (o.withs ≡ c.withs + length hs) × AreNumbered c.withs hs × (AgreedIn declared types structures depth c.scopes → HeadsAreThere hs → AreHeads hs × AgreedIn declared types structures depth o.scopes)

      abbrev pub IsOpened : Opened → Type 0
      IsOpened o = IfBuilt o o.heads

      module _ (o : Opened) (opened : IsOpened o) where
        -- a record in view, whose place is one of its type
        abbrev IsRecord : RecordNamed → Type 0
        IsRecord r = (structure_in c.scopes r.of ≡ Some (composition.Record r.fields)) × (AgreedIn declared types structures depth o.scopes → IfForm (IsStructuredAt declared types structures r.of) r.place)

        abbrev IsFormed : Typed → Type 0
        IsFormed t = AgreedIn declared types structures depth o.scopes → IsFormOf declared types structures t.kind t.form

        read_place : (n : ℕ) (form : Option Expr) → IsFormOf declared types structures (kind.Structured n) form → IfForm (IsStructuredAt declared types structures n) (place_read form)
        read_place n None f = tt
        read_place n (Some (tree.Read place)) f = f
        read_place n (Some (tree.Function callee given)) f = tt
        read_place n (Some (tree.IndexedValue array index)) f = tt
        read_place n (Some (tree.FieldValue whole number)) f = tt
        read_place n (Some (tree.VariantValue whole selection number)) f = tt
        read_place n (Some (tree.Structured number es)) f = tt
        read_place n (Some (tree.Constant z)) f = tt
        read_place n (Some (tree.Text bytes)) f = tt
        read_place n (Some (tree.One operation x)) f = tt
        read_place n (Some (tree.Two operation x y)) f = tt
        read_place n (Some (tree.Short operation x y)) f = tt
        read_place n (Some (tree.Step down low high x y)) f = tt
        read_place n (Some (tree.SetConstant members)) f = tt
        read_place n (Some (tree.SetOf members)) f = tt
        read_place n (Some (tree.OnSets operation x y)) f = tt
        read_place n (Some (tree.Card x)) f = tt

        made_fits : (n : ℕ) (guarded : Protection) (form : Option Expr) (k : Option Composition) → structure_in c.scopes n ≡ k → (AgreedIn declared types structures depth o.scopes → IsFormOf declared types structures (kind.Structured n) form) → Fits IsRecord (record_made n guarded form k)
        made_fits n guarded form None e f = tt
        made_fits n guarded form (Some (composition.Array a)) e f = tt
        made_fits n guarded form (Some (composition.Record fs)) e f = (e, λ agreed. read_place n form (f agreed))

        kind_fits : (guarded : Protection) (form : Option Expr) (k : Kind) → (AgreedIn declared types structures depth o.scopes → IsFormOf declared types structures k form) → Fits IsRecord (record_of_kind c.scopes guarded form k)
        kind_fits guarded form (kind.Ordinal h) f = tt
        kind_fits guarded form (kind.Structured n) f = made_fits n guarded form (structure_in c.scopes n) refl f
        kind_fits guarded form (kind.Set h) f = tt
        kind_fits guarded form kind.EmptySet f = tt
        kind_fits guarded form kind.Text f = tt
        kind_fits guarded form kind.File f = tt

        accessed_fits : (a : Access) (form : Option Expr) (k : Kind) → (AgreedIn declared types structures depth o.scopes → IsFormOf declared types structures k form) → Fits IsRecord (record_accessed c.scopes a form k)
        accessed_fits (access.Variable of guarded) form k f = kind_fits guarded form k f
        accessed_fits (access.Tag of guarded tag) form k f = tt
        accessed_fits access.File form k f = tt
        accessed_fits access.Constant form k f = tt
        accessed_fits access.Value form k f = tt

        name_fits : (a : syntax.Access) → Fits IsFormed (name_judged o.scopes a)
        name_fits a = go (name_judged o.scopes a) refl
          where
            go : (j : Judged Typed) → name_judged o.scopes a ≡ j → Fits IsFormed j
            go (Accepts t) is = λ agreed. subst (λ s. IsFormOf declared types s t.kind t.form) agreed.0 ((variables o.scopes a t is).0 declared types (agrees_in declared types structures depth o.scopes agreed).1)
            go (Breaks rules) is = tt

        abbrev after_record : RecordNamed → Opened
        after_record r = one_opened c.locals o r

        one_built : (r : RecordNamed) → IsRecord r → (hs : Option (List WithRecord)) (place : Option Place) → r.place ≡ place → IfBuilt o hs → IfBuilt (after_record r) (one_after hs (with_head (block_variable c.locals o.withs) r.of place))
        one_built r p None None g h = tt
        one_built r p None (Some place) g h = tt
        one_built r p (Some hs) None g h = tt
        one_built r p (Some hs) (Some place) g h =
            let v : Entire = block_variable c.locals o.withs in
            let head : WithRecord = record { variable = v; of = r.of; place = place } in (
              omega (arith, h.0, length_push hs head),
              one_numbered hs head c.withs h.1 (ap (block_variable c.locals) h.0),
              λ agreed there.
                  let before = h.2 agreed (front_there hs head there) in
                  let its : WithIsThere declared types structures v r.of = last_there hs head there in
                  let in_view : (list : List UnitType) → All (HoldsStructure types list) structures → HoldsStructure types list (made_so r.of (composition.Record r.fields)) =
                  λ list all. structure_in-holds (HoldsStructure types list) r.of c.scopes (composition.Record r.fields) (subst (λ s. All (HoldsStructure types list) s) (sym agreed.0) all) p.0 in
                  let at : IsStructuredAt declared types structures r.of place = subst (λ (q : Option Place). IfForm (IsStructuredAt declared types structures r.of) q) g (p.1 before.1) in
                  (one_valid hs head before.0 (stands r.of r.fields in_view v its place at), agrees_within (record { variable = v; guarded = r.guarded; fields = r.fields }) o.scopes before.1 (opens r.of r.fields in_view v its r.guarded)),
            )

        pub record_fits : (a : syntax.Access) → Fits IsOpened (record_opened c a o)
        record_fits a =
            fits_then IsRecord IsOpened (λ r. Accepts (one_opened c.locals o r)) (when_accepted (λ t. record_accessed c.scopes t.access t.form t.kind) (name_judged o.scopes a))
            (fits_then IsFormed IsRecord (λ t. record_accessed c.scopes t.access t.form t.kind) (name_judged o.scopes a) (name_fits a) (λ t f. accessed_fits t.access t.form t.kind f))
            (λ r p. one_built r p o.heads r.place refl opened)

      records_fit : (accesses : List syntax.Access) (o : Opened) → IsOpened o → Fits IsOpened (records_opened c accesses o)
      records_fit [] o h = h
      records_fit (a ∷ more) o h = fits_then IsOpened IsOpened (records_opened c more) (record_opened c a o) (record_fits o h a) (λ p q. records_fit more p q)

      pub opened_fits : (accesses : List syntax.Access) → Fits IsOpened (records_opened c accesses (none_opened c))
      opened_fits accesses = records_fit accesses (none_opened c) (omega arith, tt, λ agreed there. (tt, agreed))

      -- ---- the statement

      module _ (line : ℕ) (s : Stmt) where
        -- the variables that stand for the records come before those of the body
        heads_there : (hs : List WithRecord) (number : ℕ) → AreNumbered number hs → WithsAreThere declared types structures c.locals number (with_variables (with_form line hs s)) → HeadsAreThere hs
        heads_there [] number p q = tt
        heads_there (h ∷ hs) number p q = (
          subst (λ v. WithIsThere declared types structures v h.of) (sym p.0) (subst (λ m. WithIsThere declared types structures (block_variable c.locals m) h.of) {x = number + 0} {y = number} (omega arith) (q 0 line h.of refl)),
          heads_there hs (number + 1) p.1 (more_there h hs number q),
        )
          where
            more_there : (h : WithRecord) (hs : List WithRecord) (number : ℕ) → WithsAreThere declared types structures c.locals number (with_variables (with_form line (h ∷ hs) s)) → WithsAreThere declared types structures c.locals (number + 1) (with_variables (with_form line hs s))
            more_there h hs number q k at of e = subst (λ m. WithIsThere declared types structures (block_variable c.locals m) of) {x = number + suc k} {y = (number + 1) + k} (omega arith) (q (suc k) at of e)

        body_there : (hs : List WithRecord) (number : ℕ) → WithsAreThere declared types structures c.locals number (with_variables (with_form line hs s)) → WithsAreThere declared types structures c.locals (number + length hs) (with_variables s)
        body_there [] number q k at of e = subst (λ m. WithIsThere declared types structures (block_variable c.locals m) of) {x = number + k} {y = (number + 0) + k} (omega arith) (q k at of e)
        body_there (h ∷ hs) number q k at of e =
            subst (λ m. WithIsThere declared types structures (block_variable c.locals m) of) {x = ((number + 1) + length hs) + k} {y = (number + suc (length hs)) + k} (omega arith)
            (body_there hs (number + 1) (λ j a o f. subst (λ m. WithIsThere declared types structures (block_variable c.locals m) o) {x = number + suc j} {y = (number + 1) + j} (omega arith) (q (suc j) a o f)) k at of e)

        -- it is valid, where they stand for their places and the body is valid
        nested_valid : (hs : List WithRecord) → AreHeads hs → IsStmt declared s → IsStmt declared (with_form line hs s)
        nested_valid [] p q = q
        nested_valid (h ∷ hs) p q = (p.0, nested_valid hs p.1 q)

        pub nested_sound : (o : Opened) (hs : List WithRecord) → IfBuilt o (Some hs) → IsSound declared types structures depth (inside c o) s → IsSound declared types structures depth c (with_form line hs s)
        nested_sound o hs built body agreed there =
            let valid = built.2 agreed.0 (heads_there hs c.withs built.1 there.2) in
            nested_valid hs valid.0
            (body (valid.1, agreed.1) (
              λ at e. there.0 at (first_for_with line hs s ∙ e),
              λ at e. there.1 at (first_for_in_with line hs s ∙ e),
              subst (λ m. WithsAreThere declared types structures c.locals m (with_variables s)) (sym built.0) (body_there hs c.withs there.2),
            ))
