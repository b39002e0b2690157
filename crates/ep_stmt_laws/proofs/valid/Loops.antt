-- A `for` statement of either form that the rules accept is valid, where the auxiliary variables are there.
use Rattle.std.proofs.Common.{◌≡◌, ℕ, ◌-◌, Bool, true, false, List, [], ◌∷◌, Option, Some, None, refl, sym, subst}
use Rattle.std.specs.Prelude.{⊤, if◌then◌else◌}
use Rattle.std.specs.Option.{option_map}
use Rattle.ep_tree.specs.declared.expression.Expression.{Expression}
use Rattle.ep_typed.specs.Hosts as typed
use Rattle.ep_typed.specs.Trees as tree
use Rattle.ep_typed.specs.Trees.{Entire, Expr, Place, Stmt}
use Rattle.ep_meaning.specs.Valid as valid
use Rattle.ep_meaning.specs.Valid.{Declarations, IsControl, IsExpr, IsMemberControl, IsPlace}
use Rattle.ep_scope.specs.Scopes.{Region, Meant, Declares, Standard, Requires, FieldOf, Nothing, depth_in, meant}
use Rattle.ep_scope.specs.declared.kind.Host.{Host}
use Rattle.ep_scope.specs.declared.kind.Kind.{Kind}
use Rattle.ep_scope.specs.declared.kind.Kind.TheVariants as kind
use Rattle.ep_scope.specs.declared.parameter.Protection.{Protection}
use Rattle.ep_scope.specs.declared.parameter.Protection.TheVariants as protection
use Rattle.ep_scope.specs.declared.rule.TheConstants as rule
use Rattle.ep_scope.specs.declared.thing.Declaration.{Declaration}
use Rattle.ep_scope.specs.declared.thing.Declaration.TheVariants as declaration
use Rattle.ep_scope.specs.declared.structure.StructuredType.{StructuredType}
use Rattle.ep_scope.specs.declared.thing.Declared.{Declared}
use Rattle.ep_expr_laws.specs.Agreement.{Agrees, IsDeclaration, IsFormOf, IsHost, IsStoredIn, TypeValues, structures_of}
use Rattle.ep_rules.specs.Arguments.{own_place}
use Rattle.ep_check_expr.specs.Expressions.{judged}
use Rattle.ep_rules.specs.Hosts.{typed_host}
use Rattle.ep_rules.specs.Judgements.{Judged, Accepts, Breaks, Typed, when_accepted}
use Rattle.ep_rules.specs.Operators.{map_both}
use Rattle.ep_expr_laws.proofs.public.Meant.{IsMeant, meant-declared}
use Rattle.ep_expr_laws.proofs.public.Passing.{IfForm, given-fits, set-fits}
use Rattle.ep_stmt_laws.specs.Laws.{AuxiliariesAreThere, MembersAreThere}
use Rattle.ep_stmt_rules.specs.Statements.{Context, Counted, ForHead, Locals, MemberHead, Named, Under, at_item, bound_judged, bounds_judged, control_if, control_judged, control_named, counted_by, declared_control, declares_own, declares_variable, for_head, for_in_judged, for_judged, head_threat, is_threatened_in, member_head, member_threat, members_judged, set_judged, unless_threatened_in, unless_threatening}
use Rattle.ep_stmt_rules.proofs.public.judged.Fits.{Fits, fits_both, fits_then}
use Rattle.ep_stmt_laws.proofs.valid.Passing.{FitsRow, after_fits, fits_if, item_fits, unthreatening_fits}
use Rattle.ep_stmt_laws.proofs.valid.Sound.{Agreed, AgreedIn, IsSound, agrees_in}

-- a head is valid, where the auxiliary variables are there
abbrev IsHeadIn : Declarations → Locals → ForHead → Type 0
IsHeadIn declared locals head = AuxiliariesAreThere declared locals → (h : typed.Host) × IsControl declared h head.control × IsExpr declared (valid.Ordinal h) head.initial × IsExpr declared (valid.Ordinal h) head.last

-- so is one of a `for` over members
abbrev IsMemberHeadIn : Declarations → Context → MemberHead → Type 0
IsMemberHeadIn declared c head = MembersAreThere declared c.locals c.members → (h : typed.Host) × IsMemberControl declared h head.control × IsExpr declared (valid.Set h) head.set

module _ (declared : Declarations) (scopes : List Region) (agrees : Agrees declared scopes) (sound : (e : Expression) → Fits (λ t. IsFormOf declared agrees.0 (structures_of scopes) t.kind t.form) (judged scopes e)) where
  -- ---- the control variable

  -- a variable of an ordinal type is a place, and the numbers of its host are integers
  abbrev IsVariableOf : Kind → Place → Type 0
  IsVariableOf (kind.Ordinal h) place = IsHost h × IsPlace declared (typed_host h) place
  IsVariableOf (kind.Structured n) place = ⊤
  IsVariableOf (kind.Set base) place = ⊤
  IsVariableOf kind.EmptySet place = ⊤
  IsVariableOf kind.Text place = ⊤
  IsVariableOf kind.File place = ⊤

  abbrev IsVariable : Named → Type 0
  IsVariable v = IsVariableOf v.kind (tree.entire v.variable)

  stored_fits : (place : Place) (k : Kind) → IsStoredIn declared agrees.0 (structures_of scopes) place k → IsVariableOf k place
  stored_fits place (kind.Ordinal h) x = x
  stored_fits place (kind.Structured n) x = tt
  stored_fits place (kind.Set base) x = tt
  stored_fits place kind.EmptySet x = tt
  stored_fits place kind.Text x = tt
  stored_fits place kind.File x = tt

  if_fits : (own : Bool) (guarded : Protection) (t : Named) → IsVariable t → Fits IsVariable (control_if own guarded t)
  if_fits true protection.Unprotected t x = x
  if_fits true protection.Protected t x = tt
  if_fits false guarded t x = tt

  declared_fits : (locals : Locals) (d : Declared) (what : Declaration) → IsDeclaration declared agrees.0 (structures_of scopes) (depth_in scopes) d what → Fits IsVariable (declared_control locals (depth_in scopes) d what)
  declared_fits locals d (declaration.Variable of k guarded) x = if_fits (declares_variable locals d.unit) guarded (record { variable = tree.OfUnit d.unit d.number; kind = k }) (stored_fits (tree.Variable d.unit d.number) k x.0)
  declared_fits locals d (declaration.Own of k guarded) x = if_fits (declares_own locals (depth_in scopes) d) guarded (record { variable = tree.OfRoutine (depth_in scopes - d.level) d.number; kind = k }) (stored_fits (own_place (depth_in scopes) d) k x.0)
  declared_fits locals d (declaration.Constant k v deep) x = tt
  declared_fits locals d (declaration.«Type» of h nodes) x = tt
  declared_fits locals d (declaration.Procedure parameters) x = tt
  declared_fits locals d (declaration.Function parameters of h) x = tt

  named_fits : (locals : Locals) (name : List ℕ) (m : Meant) → IsMeant declared agrees.0 (structures_of scopes) (depth_in scopes) m → Fits IsVariable (control_named locals (depth_in scopes) name m)
  named_fits locals name (Declares d) x = declared_fits locals d d.what x
  named_fits locals name (Standard f) x = tt
  named_fits locals name (Requires r) x = tt
  named_fits locals name (FieldOf f) x = tt
  named_fits locals name Nothing x = tt

  abbrev IsCounted : Counted → Type 0
  IsCounted c = IsHost c.host × IsPlace declared (typed_host c.host) (tree.entire c.variable)

  counted_fits : (v : Entire) (k : Kind) → IsVariableOf k (tree.entire v) → Fits IsCounted (counted_by v k)
  counted_fits v (kind.Ordinal h) x = x
  counted_fits v (kind.Structured n) x = tt
  counted_fits v (kind.Set base) x = tt
  counted_fits v kind.EmptySet x = tt
  counted_fits v kind.Text x = tt
  counted_fits v kind.File x = tt

  unless_fits : (threatened : Bool) (c : Counted) → IsCounted c → Fits IsCounted (if threatened then Breaks (rule.CONTROL_THREATENED ∷ []) else Accepts c)
  unless_fits true c x = tt
  unless_fits false c x = x

  pub control_fits : (c : Context) → c.scopes ≡ scopes → (name : List ℕ) → Fits IsCounted (control_judged c name)
  control_fits c is name =
      fits_then IsCounted IsCounted (unless_threatened_in c.locals c.callees) (when_accepted (λ v. counted_by v.variable v.kind) (control_named c.locals (depth_in c.scopes) name (meant c.scopes name)))
      (fits_then IsVariable IsCounted (λ v. counted_by v.variable v.kind) (control_named c.locals (depth_in c.scopes) name (meant c.scopes name))
      (subst (λ s. Fits IsVariable (control_named c.locals (depth_in s) name (meant s name))) (sym is) (named_fits c.locals name (meant scopes name) (meant-declared declared agrees.0 (structures_of scopes) (depth_in scopes) scopes name agrees.1)))
      (λ v x. counted_fits v.variable v.kind x))
      (λ k x. unless_fits (is_threatened_in c.locals c.callees k.variable) k x)

  -- ---- the head

  abbrev IsBound : Host → Expr → Type 0
  IsBound h x = IsExpr declared (valid.Ordinal (typed_host h)) x

  bound_fits : (h : Host) (e : Expression) → Fits (IfForm (IsBound h)) (when_accepted (bound_judged h) (judged scopes e))
  bound_fits h e =
      fits_then (λ (t : Typed). IsFormOf declared agrees.0 (structures_of scopes) t.kind t.form) (IfForm (IsBound h)) (bound_judged h) (judged scopes e) (sound e) (λ t f. given-fits declared agrees.0 (structures_of scopes) (IsBound h) (λ x. x) h (λ x q. q) t.kind t.form f)

  abbrev IsHead : Locals → ForHead → Type 0
  IsHead locals head = IsHeadIn declared locals head

  head_fits : (locals : Locals) (falls : Bool) (c : Counted) → IsCounted c → (x y : Option Expr) → IfForm (IsBound c.host) x → IfForm (IsBound c.host) y → IfForm (IsHead locals) (map_both (for_head locals falls c) x y)
  head_fits locals falls c is None y p q = tt
  head_fits locals falls c is (Some x) None p q = tt
  head_fits locals falls c is (Some x) (Some y) p q = λ there. (typed_host c.host, record { variable = is.1; initial = there.0; last = there.1; low = refl; high = refl }, p, q)

  bounds_fit : (locals : Locals) (falls : Bool) (c : Counted) → IsCounted c → (start end : Expression) → Fits (IfForm (IsHead locals)) (bounds_judged locals falls c (judged scopes start) (judged scopes end))
  bounds_fit locals falls c is start end =
      fits_both (IfForm (IsBound c.host)) (IfForm (IsBound c.host)) (IfForm (IsHead locals)) (λ initial last. Accepts (map_both (for_head locals falls c) initial last)) (when_accepted (bound_judged c.host) (judged scopes start)) (when_accepted (bound_judged c.host) (judged scopes end))
      (bound_fits c.host start) (bound_fits c.host end) (λ x y p q. head_fits locals falls c is x y p q)

  pub head_row_fits : (c : Context) → c.scopes ≡ scopes → (controls : List Entire) (line : ℕ) (k : Counted) (falls : Bool) (start end : Expression) → IsCounted k
      → FitsRow (IsHead c.locals) (at_item line (unless_threatening (head_threat c.callees) controls (bounds_judged c.locals falls k (judged c.scopes start) (judged c.scopes end))))
  head_row_fits c is controls line k falls start end p =
      subst (λ s. FitsRow (IsHead c.locals) (at_item line (unless_threatening (head_threat c.callees) controls (bounds_judged c.locals falls k (judged s start) (judged s end))))) (sym is)
      (item_fits (IsHead c.locals) line _ (unthreatening_fits (IsHead c.locals) (head_threat c.callees) controls (bounds_judged c.locals falls k (judged scopes start) (judged scopes end)) (bounds_fit c.locals falls k p start end)))

  -- ---- the head of a `for` over members

  abbrev IsSetOver : Host → Expr → Type 0
  IsSetOver h x = IsExpr declared (valid.Set (typed_host h)) x

  set_fits : (h : Host) (e : Expression) → Fits (IfForm (IsSetOver h)) (when_accepted (set_judged h) (judged scopes e))
  set_fits h e =
      fits_then (λ (t : Typed). IsFormOf declared agrees.0 (structures_of scopes) t.kind t.form) (IfForm (IsSetOver h)) (set_judged h) (judged scopes e) (sound e) (λ t f. set-fits declared agrees.0 (structures_of scopes) (IsSetOver h) (λ x. x) h (λ x q. q) t.kind t.form f)

  abbrev IsMemberHead : Context → MemberHead → Type 0
  IsMemberHead c head = IsMemberHeadIn declared c head

  member_head_fits : (c : Context) (k : Counted) → IsCounted k → (x : Option Expr) → IfForm (IsSetOver k.host) x → IfForm (IsMemberHead c) (option_map (member_head c.locals c.members k) x)
  member_head_fits c k is None p = tt
  member_head_fits c k is (Some x) p = λ there. (typed_host k.host, record { variable = is.1; rest = there; numbered = is.0 }, p)

  members_fit : (c : Context) (k : Counted) → IsCounted k → (set : Expression) → Fits (IfForm (IsMemberHead c)) (members_judged c.locals c.members k (judged scopes set))
  members_fit c k is set =
      fits_then (IfForm (IsSetOver k.host)) (IfForm (IsMemberHead c)) (λ x. Accepts (option_map (member_head c.locals c.members k) x)) (when_accepted (set_judged k.host) (judged scopes set)) (set_fits k.host set) (λ x p. member_head_fits c k is x p)

  pub member_row_fits : (c : Context) → c.scopes ≡ scopes → (controls : List Entire) (line : ℕ) (k : Counted) (set : Expression) → IsCounted k
      → FitsRow (IsMemberHead c) (at_item line (unless_threatening (member_threat c.callees) controls (members_judged c.locals c.members k (judged c.scopes set))))
  member_row_fits c is controls line k set p =
      subst (λ s. FitsRow (IsMemberHead c) (at_item line (unless_threatening (member_threat c.callees) controls (members_judged c.locals c.members k (judged s set))))) (sym is)
      (item_fits (IsMemberHead c) line _ (unthreatening_fits (IsMemberHead c) (member_threat c.callees) controls (members_judged c.locals c.members k (judged scopes set)) (members_fit c k p set)))

-- ---- the statements

module _ (declared : Declarations) (types : TypeValues) (structures : List StructuredType) (depth : ℕ) (c : Context) (expressions : (agreed : AgreedIn declared types structures depth c.scopes) (e : Expression) → Fits (λ t. IsFormOf declared types (structures_of c.scopes) t.kind t.form) (judged c.scopes e)) where
  abbrev Sound : Context → Stmt → Type 0
  Sound d = IsSound declared types structures depth d

  -- the control variable that a name is
  counted : (agreed : AgreedIn declared types structures depth c.scopes) (name : List ℕ) (k : Counted) → control_judged c name ≡ Accepts k → IsCounted declared c.scopes (agrees_in declared types structures depth c.scopes agreed) (expressions agreed) k
  counted agreed name k e =
      let agrees = agrees_in declared types structures depth c.scopes agreed in
      subst (λ j. Fits (IsCounted declared c.scopes agrees (expressions agreed)) j) e (control_fits declared c.scopes agrees (expressions agreed) c refl name)

  pub for_fits : (controls : List Entire) (line : ℕ) (name : List ℕ) (falls : Bool) (start end : Expression) (body : Under Stmt) → ((d : Context) (inner : List Entire) → FitsRow (Sound d) (body d inner))
      → FitsRow (Sound c) (for_judged c controls line (control_judged c name) falls start end body)
  for_fits controls line name falls start end body p = go (control_judged c name) refl
    where
      go : (j : Judged Counted) → control_judged c name ≡ j → FitsRow (Sound c) (for_judged c controls line j falls start end body)
      go (Breaks rules) is = tt
      go (Accepts k) is =
          after_fits (λ h. Agreed declared types structures depth c → IsHeadIn declared c.locals h) (Sound c) (Sound c) (λ h s. tree.For line h.control h.initial h.last s) _ (body c (k.variable ∷ controls))
          (fits_if (Agreed declared types structures depth c) (IsHeadIn declared c.locals) (at_item line (unless_threatening (head_threat c.callees) controls (bounds_judged c.locals falls k (judged c.scopes start) (judged c.scopes end))))
          (λ agreed. head_row_fits declared c.scopes (agrees_in declared types structures depth c.scopes agreed.0) (expressions agreed.0) c refl controls line k falls start end (counted agreed.0 name k is)))
          (p c (k.variable ∷ controls))
          (λ h s f g. λ agreed there. (f agreed (there.0 line refl), g agreed (λ other e. there.0 line refl, there.1, there.2)))

  pub for_in_fits : (controls : List Entire) (line : ℕ) (name : List ℕ) (set : Expression) (body : Under Stmt) → ((d : Context) (inner : List Entire) → FitsRow (Sound d) (body d inner))
      → FitsRow (Sound c) (for_in_judged c controls line (control_judged c name) set body)
  for_in_fits controls line name set body p = go (control_judged c name) refl
    where
      go : (j : Judged Counted) → control_judged c name ≡ j → FitsRow (Sound c) (for_in_judged c controls line j set body)
      go (Breaks rules) is = tt
      go (Accepts k) is =
          after_fits (λ h. Agreed declared types structures depth c → IsMemberHeadIn declared c h) (Sound c) (Sound c) (λ h s. tree.ForIn line h.control h.set s) _ (body c (k.variable ∷ controls))
          (fits_if (Agreed declared types structures depth c) (IsMemberHeadIn declared c) (at_item line (unless_threatening (member_threat c.callees) controls (members_judged c.locals c.members k (judged c.scopes set))))
          (λ agreed. member_row_fits declared c.scopes (agrees_in declared types structures depth c.scopes agreed.0) (expressions agreed.0) c refl controls line k set (counted agreed.0 name k is)))
          (p c (k.variable ∷ controls))
          (λ h s f g. λ agreed there. (f agreed (there.1 line refl), g agreed (there.0, λ other e. there.1 line refl, there.2)))
