-- Assignments that the rules accept are valid, those to tags where the first auxiliary variable is there.
use Rattle.std.proofs.Common.{◌≡◌, ℕ, ◌-◌, Bool, true, false, List, [], ◌∷◌, Option, Some, None, refl, sym, subst}
use Rattle.std.specs.Prelude.{⊤, if◌then◌else◌}
use Rattle.std.specs.Option.{option_map}
use Rattle.ep_tree.specs.declared.expression.Access.{out-Access}
use Rattle.ep_tree.specs.declared.expression.Access as syntax
use Rattle.ep_tree.specs.declared.expression.ComponentValue.{ComponentValue}
use Rattle.ep_tree.specs.declared.expression.Selector.{Selector}
use Rattle.ep_typed.specs.Auxiliaries.{first_for}
use Rattle.ep_typed.specs.Trees as tree
use Rattle.ep_typed.specs.Trees.{Entire, Actual, Callee, Place, Expr, Item, Other, Stmt, Stmts}
use Rattle.ep_values.specs.TypeValues.{TypeValue}
use Rattle.ep_meaning.specs.Valid as valid
use Rattle.ep_meaning.specs.Valid.{AreItems, Declarations, IsExpr, IsItem, IsOfKind, IsPlace, IsPlaceWhere, IsStmt, WritesSomething, printed_kind}
use Rattle.ep_scope.specs.Scopes.{Region, Meant, Declares, Standard, Requires, FieldOf, Nothing, depth_in, meant, OpenField}
use Rattle.ep_scope.specs.declared.structure.StructuredType.{StructuredType}
use Rattle.ep_scope.specs.declared.kind.Host.{Host}
use Rattle.ep_scope.specs.declared.kind.Kind.{Kind}
use Rattle.ep_scope.specs.declared.kind.Kind.TheVariants as kind
use Rattle.ep_scope.specs.declared.parameter.Protection.{Protection}
use Rattle.ep_scope.specs.declared.parameter.TypeName.{TypeName}
use Rattle.ep_scope.specs.declared.structure.TagType.{TagType}
use Rattle.ep_scope.specs.declared.thing.Declaration.{Declaration}
use Rattle.ep_scope.specs.declared.thing.Declaration.TheVariants as declaration
use Rattle.ep_scope.specs.declared.thing.Declared.{Declared}
use Rattle.ep_rules.specs.declared.access.Access.{Access}
use Rattle.ep_rules.specs.declared.access.Access.TheVariants as access
use Rattle.ep_expr_laws.specs.Agreement.{Agrees, IsDeclaration, IsFormOf, IsStoredIn, IsValueOf, structures_of, IsAccessOf, IsTaggedBy, IsTaggedIf}
use Rattle.ep_rules.specs.Arguments.{given_to, own_place, place_read, unless_protected, tagged_read}
use Rattle.ep_check_expr.specs.Expressions.{given, judged_value, name_judged}
use Rattle.ep_rules.specs.Hosts.{typed_host}
use Rattle.ep_rules.specs.Names.{field_place, tagged_place}
use Rattle.ep_rules.specs.Judgements.{Judged, Accepts, Breaks, Typed, both, when_accepted}
use Rattle.ep_expr_laws.specs.Laws.{ValuesAreSound, VariablesAreSound}
use Rattle.ep_rules.specs.Operators.{map_both}
use Rattle.ep_expr_laws.proofs.public.Meant.{IsMeant, meant-declared}
use Rattle.ep_expr_laws.proofs.public.Passing.{IfForm, given-fits, set-fits, structured-fits}
use Rattle.ep_expr_laws.proofs.public.Places.{structured-place}
use Rattle.ep_stmt_laws.specs.Laws.{IsResultAt, ResultsAreThere, AuxiliariesAreThere}
use Rattle.ep_stmt_rules.specs.Statements.{Context, FunctionResult, Target, assigned, declared_target, function_target, has_result, place_named, asked_of, target_judged, value_judged, target_of_selectors, variable_target, At, Locals, Receiver, TagOf, assignment, field_target_of, tag_target}
use Rattle.ep_stmt_rules.proofs.public.judged.Fits.{Any, Fits, fits_any, fits_both, fits_then}

-- an assignment is valid where the auxiliary variables are there, if it has the first one
abbrev pub IsAssigned : Declarations → Locals → Stmt → Type 0
IsAssigned declared locals s = ((line : ℕ) → first_for s ≡ Some line → AuxiliariesAreThere declared locals) → IsStmt declared s

same_host : (g h : Host) → kind.Ordinal g ≡ kind.Ordinal h → g ≡ h
same_host g h e = cc

no_structure : (n : ℕ) (h : Host) → kind.Structured n ≡ kind.Ordinal h → ⊥
no_structure n h e = cc

no_set : (g h : Host) → kind.Set g ≡ kind.Ordinal h → ⊥
no_set g h e = cc

module _ (declared : Declarations) (values : ValuesAreSound) (variables : VariablesAreSound) (scopes : List Region) (agrees : Agrees declared scopes) where
  -- the structured types in view
  abbrev structures : List StructuredType
  structures = structures_of scopes

  -- a typed form is valid
  abbrev IsSoundForm : Typed → Type 0
  IsSoundForm t = IsFormOf declared agrees.0 structures t.kind t.form

  value_fits : (v : ComponentValue) (asked : Option ℕ) → Fits IsSoundForm (judged_value scopes v asked)
  value_fits v asked = go (judged_value scopes v asked) refl
    where
      go : (j : Judged Typed) → judged_value scopes v asked ≡ j → Fits IsSoundForm j
      go (Accepts t) is = values scopes v asked t is declared agrees.0 agrees.1
      go (Breaks rules) is = tt

  -- ---- what is assigned to

  -- the place is that of a variable of the structured type of this number
  abbrev IsStructure : ℕ → Place → Type 0
  IsStructure n place = (t : TypeValue) × IsValueOf agrees.0 n t × IsPlaceWhere declared (IsOfKind (valid.Structured t)) place

  -- it is that of a variable of the kind, where values of the kind have code
  abbrev IsVariable : Kind → Place → Type 0
  IsVariable (kind.Ordinal h) place = IsPlace declared (typed_host h) place
  IsVariable (kind.Structured n) place = IsStructure n place
  IsVariable (kind.Set h) place = IsPlaceWhere declared (IsOfKind (valid.Set (typed_host h))) place
  IsVariable kind.EmptySet place = ⊤
  IsVariable kind.Text place = ⊤
  IsVariable kind.File place = ⊤

  -- such a variable, or the tag of a record, which is ordinal
  abbrev IsReceiver : Kind → Receiver → Type 0
  IsReceiver k (At place) = IsVariable k place
  IsReceiver k (TagOf whole tag) = (k ≡ kind.Ordinal tag.host) × IsTaggedBy declared agrees.0 tag whole

  -- what is assigned to is one, where it is built
  abbrev IsTarget : Target → Type 0
  IsTarget t = IfForm (IsReceiver t.kind) t.receiver

  -- a variable that is declared is such a place
  variable_fits : (place : Place) (k : Kind) → IsStoredIn declared agrees.0 structures place k → IsVariable k place
  variable_fits place (kind.Ordinal h) x = x.1
  variable_fits place (kind.Structured n) x = structured-place declared agrees.0 structures n place x
  variable_fits place (kind.Set h) x = x.1
  variable_fits place kind.EmptySet x = tt
  variable_fits place kind.Text x = tt
  variable_fits place kind.File x = tt

  -- so is any place, where nothing is asked of it
  any_place : (k : Kind) → ((place : Place) → IsVariable k place) → (place : Option Place) → IfForm (IsReceiver k) (option_map At place)
  any_place k h None = tt
  any_place k h (Some place) = h place

  -- so is what is read of a variable
  read_fits : (k : Kind) (form : Option Expr) → IsFormOf declared agrees.0 structures k form → IfForm (IsReceiver k) (option_map At (place_read form))
  read_fits (kind.Ordinal h) None f = tt
  read_fits (kind.Ordinal h) (Some (tree.Read place)) f = f.1
  read_fits (kind.Ordinal h) (Some (tree.Constant z)) f = tt
  read_fits (kind.Ordinal h) (Some (tree.Text bytes)) f = tt
  read_fits (kind.Ordinal h) (Some (tree.One operation x)) f = tt
  read_fits (kind.Ordinal h) (Some (tree.Two operation x y)) f = tt
  read_fits (kind.Ordinal h) (Some (tree.Short operation x y)) f = tt
  read_fits (kind.Ordinal h) (Some (tree.Step down low high x y)) f = tt
  read_fits (kind.Ordinal h) (Some (tree.Function callee given)) f = tt
  read_fits (kind.Ordinal h) (Some (tree.IndexedValue array index)) f = tt
  read_fits (kind.Ordinal h) (Some (tree.FieldValue whole number)) f = tt
  read_fits (kind.Ordinal h) (Some (tree.VariantValue whole selection number)) f = tt
  read_fits (kind.Ordinal h) (Some (tree.Structured number es)) f = tt
  read_fits (kind.Ordinal h) (Some (tree.SetConstant members)) f = tt
  read_fits (kind.Ordinal h) (Some (tree.SetOf members)) f = tt
  read_fits (kind.Ordinal h) (Some (tree.OnSets operation x y)) f = tt
  read_fits (kind.Ordinal h) (Some (tree.Card x)) f = tt
  read_fits (kind.Structured n) None f = tt
  read_fits (kind.Structured n) (Some (tree.Read place)) f = structured-place declared agrees.0 structures n place f
  read_fits (kind.Structured n) (Some (tree.Function callee given)) f = tt
  read_fits (kind.Structured n) (Some (tree.IndexedValue array index)) f = tt
  read_fits (kind.Structured n) (Some (tree.FieldValue whole number)) f = tt
  read_fits (kind.Structured n) (Some (tree.VariantValue whole selection number)) f = tt
  read_fits (kind.Structured n) (Some (tree.Structured number es)) f = tt
  read_fits (kind.Structured n) (Some (tree.Constant z)) f = tt
  read_fits (kind.Structured n) (Some (tree.Text bytes)) f = tt
  read_fits (kind.Structured n) (Some (tree.One operation x)) f = tt
  read_fits (kind.Structured n) (Some (tree.Two operation x y)) f = tt
  read_fits (kind.Structured n) (Some (tree.Short operation x y)) f = tt
  read_fits (kind.Structured n) (Some (tree.Step down low high x y)) f = tt
  read_fits (kind.Structured n) (Some (tree.SetConstant members)) f = tt
  read_fits (kind.Structured n) (Some (tree.SetOf members)) f = tt
  read_fits (kind.Structured n) (Some (tree.OnSets operation x y)) f = tt
  read_fits (kind.Structured n) (Some (tree.Card x)) f = tt
  read_fits (kind.Set h) None f = tt
  read_fits (kind.Set h) (Some (tree.Read place)) f = f.1
  read_fits (kind.Set h) (Some (tree.Constant z)) f = tt
  read_fits (kind.Set h) (Some (tree.Text bytes)) f = tt
  read_fits (kind.Set h) (Some (tree.One operation x)) f = tt
  read_fits (kind.Set h) (Some (tree.Two operation x y)) f = tt
  read_fits (kind.Set h) (Some (tree.Short operation x y)) f = tt
  read_fits (kind.Set h) (Some (tree.Step down low high x y)) f = tt
  read_fits (kind.Set h) (Some (tree.Function callee given)) f = tt
  read_fits (kind.Set h) (Some (tree.IndexedValue array index)) f = tt
  read_fits (kind.Set h) (Some (tree.FieldValue whole number)) f = tt
  read_fits (kind.Set h) (Some (tree.VariantValue whole selection number)) f = tt
  read_fits (kind.Set h) (Some (tree.Structured number es)) f = tt
  read_fits (kind.Set h) (Some (tree.SetConstant members)) f = tt
  read_fits (kind.Set h) (Some (tree.SetOf members)) f = tt
  read_fits (kind.Set h) (Some (tree.OnSets operation x y)) f = tt
  read_fits (kind.Set h) (Some (tree.Card x)) f = tt
  read_fits kind.EmptySet form f = any_place kind.EmptySet (λ place. tt) (place_read form)
  read_fits kind.Text form f = any_place kind.Text (λ place. tt) (place_read form)
  read_fits kind.File form f = any_place kind.File (λ place. tt) (place_read form)

  -- and the tag of a record, which is read of its component
  tag_fits : (of : TypeName) (guarded : Protection) (tag : TagType) (form : Option Expr) → IsAccessOf declared agrees.0 (access.Tag of guarded tag) form → IsTarget (tag_target tag (tagged_read form))
  tag_fits of guarded tag None g = tt
  tag_fits of guarded tag (Some x) g = subst (λ y. IsTarget (tag_target tag (tagged_read (Some y)))) (sym g.2) (refl, g.4)

  -- the variable that an access denotes
  accessed_fits : (a : Access) (k : Kind) (form : Option Expr) → IsFormOf declared agrees.0 structures k form → IsAccessOf declared agrees.0 a form → Fits IsTarget (variable_target a form k)
  accessed_fits (access.Variable of guarded) k form f g =
      fits_then Any IsTarget (λ done. Accepts (record { receiver = option_map At (place_read form); kind = k })) (unless_protected guarded) (fits_any (unless_protected guarded)) (λ a i. read_fits k form f)
  accessed_fits (access.Tag of guarded tag) k form f g = fits_then Any IsTarget (λ done. Accepts (tag_target tag (tagged_read form))) (unless_protected guarded) (fits_any (unless_protected guarded)) (λ a i. tag_fits of guarded tag form g)
  accessed_fits access.File k form f g = tt
  accessed_fits access.Constant k form f g = tt
  accessed_fits access.Value k form f g = tt

  -- how many routines are around the statements
  abbrev depth : ℕ
  depth = depth_in scopes

  -- the variables of results are there
  abbrev Results : Context → Type 0
  Results c = ResultsAreThere declared agrees.0 depth c.results

  -- so is the variable of a result
  result_fits : (k : Kind) (place : Place) → IsResultAt declared agrees.0 k place → IsVariable k place
  result_fits (kind.Ordinal h) place x = x.1
  result_fits (kind.Structured n) place x = x
  result_fits (kind.Set h) place x = x.1
  result_fits kind.EmptySet place x = tt
  result_fits kind.Text place x = tt
  result_fits kind.File place x = tt

  function_fits : (unit : List ℕ) (d : Declared) (results : List FunctionResult) → ResultsAreThere declared agrees.0 depth results → Fits IsTarget (function_target depth unit d results)
  function_fits unit d [] there = tt
  function_fits unit d (r ∷ rs) there = go (has_result unit d r) (function_fits unit d rs there.1)
    where
      go : (own : Bool) → Fits IsTarget (function_target depth unit d rs) → Fits IsTarget (if own then Accepts (record { receiver = Some (At (tree.Own (depth - r.level) r.variable)); kind = r.kind }) else function_target depth unit d rs)
      go true others = result_fits r.kind (tree.Own (depth - r.level) r.variable) there.0
      go false others = others

  -- and a field of an open record, which may be a tag
  field_fits : (f : OpenField) (tag : Option TagType) → IsStoredIn declared agrees.0 structures (field_place f) f.field.kind → IsTaggedIf declared agrees.0 tag (tagged_place f) → IsTarget (field_target_of f tag)
  field_fits f None x y = variable_fits (field_place f) f.field.kind x
  field_fits f (Some tag) x y = (refl, y)

  module _ (unit : List ℕ) (results : List FunctionResult) (there : ResultsAreThere declared agrees.0 depth results) where
    declared_fits : (d : Declared) (what : Declaration) → IsDeclaration declared agrees.0 structures depth d what → Fits IsTarget (declared_target depth unit results d what)
    declared_fits d (declaration.Variable of k guarded) x =
        fits_then Any IsTarget (λ done. Accepts (record { receiver = Some (At (tree.Variable d.unit d.number)); kind = k })) (unless_protected guarded) (fits_any (unless_protected guarded)) (λ a i. variable_fits (tree.Variable d.unit d.number) k x.0)
    declared_fits d (declaration.Own of k guarded) x =
        fits_then Any IsTarget (λ done. Accepts (record { receiver = Some (At (own_place depth d)); kind = k })) (unless_protected guarded) (fits_any (unless_protected guarded)) (λ a i. variable_fits (own_place depth d) k x.0)
    declared_fits d (declaration.Constant k v deep) x = tt
    declared_fits d (declaration.«Type» of h nodes) x = tt
    declared_fits d (declaration.Procedure parameters) x = tt
    declared_fits d (declaration.Function parameters of h) x = function_fits unit d results there

    place_fits : (name : List ℕ) (m : Meant) → IsMeant declared agrees.0 structures depth m → Fits IsTarget (place_named depth unit results name m)
    place_fits name (Declares d) x = declared_fits d d.what x
    place_fits name (Standard f) x = tt
    place_fits name (Requires r) x = tt
    place_fits name (FieldOf f) x =
        fits_then Any IsTarget (λ done. Accepts (field_target_of f f.field.tag)) (unless_protected f.guarded) (fits_any (unless_protected f.guarded)) (λ a i. field_fits f f.field.tag x.0 x.2)
    place_fits name Nothing x = tt

  access_fits : (a : syntax.Access) → Fits IsTarget (when_accepted (λ t. variable_target t.access t.form t.kind) (name_judged scopes a))
  access_fits a = go (name_judged scopes a) refl
    where
      go : (j : Judged Typed) → name_judged scopes a ≡ j → Fits IsTarget (when_accepted (λ t. variable_target t.access t.form t.kind) j)
      go (Accepts t) is = accessed_fits t.access t.kind t.form ((variables scopes a t is).0 declared agrees.0 agrees.1) ((variables scopes a t is).1 declared agrees.0 agrees.1)
      go (Breaks rules) is = tt

  target_fits : (c : Context) → c.scopes ≡ scopes → Results c → (a : syntax.Access) (selectors : List Selector) → Fits IsTarget (target_of_selectors c a selectors)
  target_fits c is there a [] =
      let name = (out-Access a).name in
      subst (λ s. Fits IsTarget (place_named (depth_in s) c.unit c.results name (meant s name))) (sym is) (place_fits c.unit c.results there name (meant scopes name) (meant-declared declared agrees.0 structures depth scopes name agrees.1))
  target_fits c is there a (s ∷ ss) =
      subst (λ r. Fits IsTarget (when_accepted (λ t. variable_target t.access t.form t.kind) (name_judged r a))) (sym is) (access_fits a)

  -- ---- assignments

  -- in a block with these variables
  module _ (locals : Locals) where
    -- a value is given to a tag
    tagged_fits : (h : Host) (line : ℕ) (whole : Place) (tag : TagType) (x : Expr) → kind.Ordinal h ≡ kind.Ordinal tag.host → IsTaggedBy declared agrees.0 tag whole → IsExpr declared (valid.Ordinal (typed_host h)) x
        → IsAssigned declared locals (assignment locals line (TagOf whole tag) x)
    tagged_fits h line whole tag x e t q = λ there. (typed_host tag.host, record { value = (there line refl).0; record_is = t }, subst (λ g. IsExpr declared (valid.Ordinal (typed_host g)) x) (same_host h tag.host e) q)

    -- a value that is given to a variable of an ordinal type, or to a tag
    placed_fits : (h : Host) (line : ℕ) (r : Option Receiver) (x : Option Expr) → IfForm (IsReceiver (kind.Ordinal h)) r → IfForm (IsExpr declared (valid.Ordinal (typed_host h))) x → IfForm (IsAssigned declared locals) (map_both (assignment locals line) r x)
    placed_fits h line None x p q = tt
    placed_fits h line (Some r) None p q = tt
    placed_fits h line (Some (At place)) (Some x) p q = λ there. (valid.Ordinal (typed_host h), p, q)
    placed_fits h line (Some (TagOf whole tag)) (Some x) p q = tagged_fits h line whole tag x p.0 p.1 q

    -- to one of a structured type
    whole_fits : (line : ℕ) (place : Place) (t : TypeValue) → IsPlaceWhere declared (IsOfKind (valid.Structured t)) place → (x : Option Expr) → IfForm (IsExpr declared (valid.Structured t)) x → IfForm (IsAssigned declared locals) (map_both (assignment locals line) (Some (At place)) x)
    whole_fits line place t p None q = tt
    whole_fits line place t p (Some x) q = λ there. (valid.Structured t, p, q)

    -- and to one of a set type
    set_placed : (h : Host) (line : ℕ) (r : Option Receiver) (x : Option Expr) → IfForm (IsReceiver (kind.Set h)) r → IfForm (IsExpr declared (valid.Set (typed_host h))) x → IfForm (IsAssigned declared locals) (map_both (assignment locals line) r x)
    set_placed h line None x p q = tt
    set_placed h line (Some r) None p q = tt
    set_placed h line (Some (At place)) (Some x) p q = λ there. (valid.Set (typed_host h), p, q)
    set_placed h line (Some (TagOf whole tag)) (Some x) p q = absurd (no_set h tag.host p.0)

  -- nothing that is built is given to another one
  abbrev IsNone : Option Expr → Type 0
  IsNone x = x ≡ None

  to_text : (from : Kind) (form : Option Expr) → Fits IsNone (given_to (λ x. x) kind.Text from form)
  to_text (kind.Ordinal g) form = tt
  to_text (kind.Structured n) form = tt
  to_text (kind.Set base) form = tt
  to_text kind.EmptySet form = tt
  to_text kind.Text form = tt
  to_text kind.File form = tt

  to_empty : (from : Kind) (form : Option Expr) → Fits IsNone (given_to (λ x. x) kind.EmptySet from form)
  to_empty (kind.Ordinal g) form = tt
  to_empty (kind.Structured n) form = tt
  to_empty (kind.Set base) form = tt
  to_empty kind.EmptySet form = tt
  to_empty kind.Text form = tt
  to_empty kind.File form = tt

  to_file_fits : (from : Kind) (form : Option Expr) → Fits IsNone (given_to (λ x. x) kind.File from form)
  to_file_fits (kind.Ordinal g) form = tt
  to_file_fits (kind.Structured n) form = tt
  to_file_fits (kind.Set base) form = tt
  to_file_fits kind.EmptySet form = tt
  to_file_fits kind.Text form = tt
  to_file_fits kind.File form = tt

  module _ (locals : Locals) where
    unplaced_fits : (line : ℕ) (r : Option Receiver) (j : Judged (Option Expr)) → Fits IsNone j → Fits (IfForm (IsAssigned declared locals)) (when_accepted (λ x. Accepts (map_both (assignment locals line) r x)) j)
    unplaced_fits line r j p =
        fits_then IsNone (IfForm (IsAssigned declared locals)) (λ x. Accepts (map_both (assignment locals line) r x)) j p (λ x e. subst (λ y. IfForm (IsAssigned declared locals) (map_both (assignment locals line) r y)) (sym e) (nothing r))
      where
        nothing : (r : Option Receiver) → IfForm (IsAssigned declared locals) (map_both (assignment locals line) r None)
        nothing None = tt
        nothing (Some p) = tt

    assign_fits : (to from : Kind) (line : ℕ) (r : Option Receiver) (form : Option Expr) → IfForm (IsReceiver to) r → IsFormOf declared agrees.0 structures from form
        → Fits (IfForm (IsAssigned declared locals)) (when_accepted (λ x. Accepts (map_both (assignment locals line) r x)) (given_to (λ x. x) to from form))
    assign_fits (kind.Ordinal h) from line r form p f =
        fits_then (IfForm (IsExpr declared (valid.Ordinal (typed_host h)))) (IfForm (IsAssigned declared locals)) (λ x. Accepts (map_both (assignment locals line) r x)) (given_to (λ x. x) (kind.Ordinal h) from form)
        (given-fits declared agrees.0 structures (IsExpr declared (valid.Ordinal (typed_host h))) (λ x. x) h (λ x q. q) from form f) (λ x q. placed_fits locals h line r x p q)
    assign_fits (kind.Structured m) from line None form p f =
        fits_then Any (IfForm (IsAssigned declared locals)) (λ x. Accepts (map_both (assignment locals line) None x)) (given_to (λ x. x) (kind.Structured m) from form) (fits_any (given_to (λ x. x) (kind.Structured m) from form)) (λ x a. tt)
    assign_fits (kind.Structured m) from line (Some (At place)) form p f =
        fits_then (IfForm (IsExpr declared (valid.Structured p.0))) (IfForm (IsAssigned declared locals)) (λ x. Accepts (map_both (assignment locals line) (Some (At place)) x)) (given_to (λ x. x) (kind.Structured m) from form)
        (structured-fits declared agrees.0 structures (IsExpr declared (valid.Structured p.0)) (λ x. x) m p.0 p.1 (λ x q. q) from form f) (λ x q. whole_fits locals line place p.0 p.2 x q)
    assign_fits (kind.Structured m) from line (Some (TagOf whole tag)) form p f = absurd (no_structure m tag.host p.0)
    assign_fits (kind.Set h) from line r form p f =
        fits_then (IfForm (IsExpr declared (valid.Set (typed_host h)))) (IfForm (IsAssigned declared locals)) (λ x. Accepts (map_both (assignment locals line) r x)) (given_to (λ x. x) (kind.Set h) from form)
        (set-fits declared agrees.0 structures (IsExpr declared (valid.Set (typed_host h))) (λ x. x) h (λ x q. q) from form f) (λ x q. set_placed locals h line r x p q)
    assign_fits kind.EmptySet from line r form p f = unplaced_fits line r (given_to (λ x. x) kind.EmptySet from form) (to_empty from form)
    assign_fits kind.Text from line r form p f = unplaced_fits line r (given_to (λ x. x) kind.Text from form) (to_text from form)
    assign_fits kind.File from line r form p f = unplaced_fits line r (given_to (λ x. x) kind.File from form) (to_file_fits from form)

  pub assignment_fits : (c : Context) → c.scopes ≡ scopes → Results c → (line : ℕ) (a : syntax.Access) (v : ComponentValue) → Fits (IfForm (IsAssigned declared c.locals)) (both (assigned c.locals line) (target_judged c a) (value_judged c a v))
  assignment_fits c is there line a v =
      fits_both IsTarget IsSoundForm (IfForm (IsAssigned declared c.locals)) (assigned c.locals line) (target_judged c a) (value_judged c a v) (target_fits c is there a (out-Access a).selectors)
      (subst (λ s. Fits IsSoundForm (judged_value s v (asked_of (target_judged c a)))) (sym is) (value_fits v (asked_of (target_judged c a)))) (λ t x p f. assign_fits c.locals t.kind x.kind line t.receiver x.form p f)
