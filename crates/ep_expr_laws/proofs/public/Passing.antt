-- Arguments that the rules accept are valid for the formal parameters of the routine.
use Rattle.std.proofs.Common.{◌≡◌, ◌==◌, ℕ, suc, Bool, true, false, nat_le, List, [], ◌∷◌, ◌++◌, Option, Some, None, refl, sym, ◌∙◌, ap, subst}
use Rattle.std.specs.Prelude.{⊤, if◌then◌else◌}
use Rattle.std.proofs.lemmas.Option.{same_Some}
use Rattle.std.specs.Option.{option_map}
use Rattle.ep_typed.specs.Trees as tree
use Rattle.ep_typed.specs.Trees.{Actual, Callee, Expr}
use Rattle.ep_values.specs.TypeValues.{TypeValue}
use Rattle.ep_meaning.specs.Valid as valid
use Rattle.ep_meaning.specs.Valid.{Declarations, IsExpr, IsGiven}
use Rattle.ep_typed.specs.Viewed.{denoter_of}
use Rattle.ep_typed.specs.declared.interface.Formal.{Formal}
use Rattle.ep_typed.specs.declared.interface.FormalMode.{FormalMode}
use Rattle.ep_typed.specs.declared.interface.FormalMode.TheVariants as mode
use Rattle.ep_typed.specs.declared.unit.UnitType.{UnitType}
use Rattle.ep_scope.specs.Kinds.{same_host}
use Rattle.ep_scope.specs.Parameters.{same_type}
use Rattle.ep_scope.specs.declared.structure.StructuredType.{StructuredType}
use Rattle.ep_scope.specs.declared.kind.Host.{Host}
use Rattle.ep_scope.specs.declared.kind.Host.TheVariants as host
use Rattle.ep_scope.specs.declared.kind.Kind.{Kind}
use Rattle.ep_scope.specs.declared.kind.Kind.TheVariants as kind
use Rattle.ep_scope.specs.declared.parameter.FormalParameter.{FormalParameter}
use Rattle.ep_scope.specs.declared.parameter.Protection.{Protection}
use Rattle.ep_scope.specs.declared.parameter.TypeName.{TypeName}
use Rattle.ep_scope.specs.declared.parameter.TypeName.TheVariants as type_name
use Rattle.ep_scope.specs.declared.rule.TheConstants as rule
use Rattle.ep_rules.specs.declared.access.Access.{Access}
use Rattle.ep_rules.specs.declared.access.Access.TheVariants as access
use Rattle.ep_expr_laws.specs.Agreement.{AreActuals, AreParameters, HasKind, IsAccessOf, IsFormOf, IsFunctionOf, IsParameter, IsStructuredForm, IsValueOf, TypeValues}
use Rattle.ep_rules.specs.Arguments.{Taken, accessed, actual_taken, argument_judged, argument_taken, arguments_judged, call_form, function_called, function_typed, given_to, joined, one_taken, threatened, value_taken, variable_taken}
use Rattle.ep_rules.specs.Functions.{Given, given_faults, unless_faults}
use Rattle.ep_rules.specs.Hosts.{typed_host}
use Rattle.ep_rules.specs.Judgements.{Judged, Accepts, Breaks, Typed}
use Rattle.ep_rules.specs.Operators.{map_both}
use Rattle.ep_rules.specs.declared.forms.TheConstants as limit
use Rattle.ep_check_expr.proofs.public.Keeping.{AreGiven, Satisfies, both-satisfies, if-satisfies, then-satisfies, weaker-satisfies, any-satisfies}
use Rattle.ep_expr_laws.proofs.public.Places.{same_number, structured-place}
use Rattle.ep_expr_laws.proofs.public.SameHost.{host_same}
use Rattle.ep_expr_laws.proofs.SameType.{type_same}

-- a form has the property, where it is there
abbrev pub IfForm : {A : Type 0} → (A → Type 0) → Option A → Type 0
IfForm P None = ⊤
IfForm P (Some a) = P a

-- anything that is accepted
abbrev Any : {A : Type 0} → A → Type 0
Any a = ⊤

unless_faults-satisfies : (Q : Typed → Type 0) (rules : List ℕ) (J : Judged Typed) → Satisfies Q J → Satisfies Q (unless_faults rules J)
unless_faults-satisfies Q [] J h = h
unless_faults-satisfies Q (r ∷ rs) J h = tt

-- ---- values that are given

module _ (declared : Declarations) (types : TypeValues) (structures : List StructuredType) {A : Type 0} (P : A → Type 0) (form : Expr → A) (h : Host) (fits : (x : Expr) → IsExpr declared (valid.Ordinal (typed_host h)) x → P (form x)) where
  given_form : (g : Host) (value : Option Expr) → same_host h g ≡ true → IsFormOf declared types structures (kind.Ordinal g) value → IfForm P (option_map form value)
  given_form g None s f = tt
  given_form g (Some x) s f = fits x (subst (λ k. IsExpr declared (valid.Ordinal k) x) (host_same h g s) f.1)

  given_if : (same : Bool) (g : Host) (value : Option Expr) → same_host h g ≡ same → IsFormOf declared types structures (kind.Ordinal g) value → Satisfies (IfForm P) (if same then Accepts (option_map form value) else Breaks (rule.ASSIGNMENT ∷ []))
  given_if true g value s f = given_form g value s f
  given_if false g value s f = tt

  -- what is made of a value that is given has the property, where its making gives it that
  pub given-fits : (from : Kind) (value : Option Expr) → IsFormOf declared types structures from value → Satisfies (IfForm P) (given_to form (kind.Ordinal h) from value)
  given-fits (kind.Ordinal g) value f = given_if (same_host h g) g value refl f
  given-fits (kind.Structured n) value f = array_fits h value
    where
      array_fits : (h : Host) (value : Option Expr) → Satisfies (IfForm P) (given_to form (kind.Ordinal h) (kind.Structured n) value)
      array_fits host.Char value = tt
      array_fits host.Integer value = tt
      array_fits host.Boolean value = tt
      array_fits (host.Enumeration e) value = tt
  given-fits (kind.Set base) value f = set_fits h value
    where
      set_fits : (h : Host) (value : Option Expr) → Satisfies (IfForm P) (given_to form (kind.Ordinal h) (kind.Set base) value)
      set_fits host.Char value = tt
      set_fits host.Integer value = tt
      set_fits host.Boolean value = tt
      set_fits (host.Enumeration e) value = tt
  given-fits kind.EmptySet value f = empty_fits h value
    where
      empty_fits : (h : Host) (value : Option Expr) → Satisfies (IfForm P) (given_to form (kind.Ordinal h) kind.EmptySet value)
      empty_fits host.Char value = tt
      empty_fits host.Integer value = tt
      empty_fits host.Boolean value = tt
      empty_fits (host.Enumeration e) value = tt
  given-fits kind.Text value f = text_fits h value
    where
      text_fits : (h : Host) (value : Option Expr) → Satisfies (IfForm P) (given_to form (kind.Ordinal h) kind.Text value)
      text_fits host.Char value = tt
      text_fits host.Integer value = tt
      text_fits host.Boolean value = tt
      text_fits (host.Enumeration e) value = tt
  given-fits kind.File value f = file_fits h value
    where
      file_fits : (h : Host) (value : Option Expr) → Satisfies (IfForm P) (given_to form (kind.Ordinal h) kind.File value)
      file_fits host.Char value = tt
      file_fits host.Integer value = tt
      file_fits host.Boolean value = tt
      file_fits (host.Enumeration e) value = tt

-- a value of a structured type is an expression of its type value
pub structured-expr : (declared : Declarations) (types : TypeValues) (structures : List StructuredType) (n : ℕ) (x : Expr) → IsStructuredForm declared types structures n x → (t : TypeValue) × IsValueOf types n t × IsExpr declared (valid.Structured t) x
structured-expr declared types structures n (tree.Read place) f = structured-place declared types structures n place f
structured-expr declared types structures n (tree.Function callee given) f = f.0
structured-expr declared types structures n (tree.IndexedValue array index) f = f.0
structured-expr declared types structures n (tree.FieldValue whole number) f = f.0
structured-expr declared types structures n (tree.VariantValue whole selection number) f = f.0
structured-expr declared types structures n (tree.Structured number es) f = f.0
structured-expr declared types structures n (tree.Constant z) f = absurd f
structured-expr declared types structures n (tree.Text bytes) f = absurd f
structured-expr declared types structures n (tree.One operation x) f = absurd f
structured-expr declared types structures n (tree.Two operation x y) f = absurd f
structured-expr declared types structures n (tree.Short operation x y) f = absurd f
structured-expr declared types structures n (tree.Step down low high x y) f = absurd f
structured-expr declared types structures n (tree.SetConstant members) f = absurd f
structured-expr declared types structures n (tree.SetOf members) f = absurd f
structured-expr declared types structures n (tree.OnSets operation x y) f = absurd f
structured-expr declared types structures n (tree.Card x) f = absurd f

-- a structured type has one type value
pub one-value : (types : TypeValues) (m n : ℕ) (t u : TypeValue) → m ≡ n → IsValueOf types m t → IsValueOf types n u → t ≡ u
one-value types m n t u same p q = same_Some t u (sym p.0 ∙ (ap (λ k. types (type_name.Entry k)) same ∙ q.0))

module _ (declared : Declarations) (types : TypeValues) (structures : List StructuredType) {A : Type 0} (P : A → Type 0) (form : Expr → A) (m : ℕ) (t : TypeValue) (of : IsValueOf types m t) (fits : (x : Expr) → IsExpr declared (valid.Structured t) x → P (form x)) where
  structured-form : (n : ℕ) (value : Option Expr) → m ≡ n → IsFormOf declared types structures (kind.Structured n) value → IfForm P (option_map form value)
  structured-form n None same f = tt
  structured-form n (Some x) same f =
      let e = structured-expr declared types structures n x f in
      fits x (subst (λ u. IsExpr declared (valid.Structured u) x) (sym (one-value types m n t e.0 same of e.1)) e.2)

  structured-if : (same : Bool) (n : ℕ) (value : Option Expr) → (m == n) ≡ same → IsFormOf declared types structures (kind.Structured n) value → Satisfies (IfForm P) (if same then Accepts (option_map form value) else Breaks (rule.ASSIGNMENT ∷ []))
  structured-if true n value e f = structured-form n value (same_number m n e) f
  structured-if false n value e f = tt

  -- alike what is made of a value that is given to something of a structured type
  pub structured-fits : (from : Kind) (value : Option Expr) → IsFormOf declared types structures from value → Satisfies (IfForm P) (given_to form (kind.Structured m) from value)
  structured-fits (kind.Ordinal h) value f = tt
  structured-fits (kind.Structured n) value f = structured-if (m == n) n value refl f
  structured-fits (kind.Set base) value f = tt
  structured-fits kind.EmptySet value f = tt
  structured-fits kind.Text value f = tt
  structured-fits kind.File value f = tt

module _ (declared : Declarations) (types : TypeValues) (structures : List StructuredType) {A : Type 0} (P : A → Type 0) (form : Expr → A) (h : Host) (fits : (x : Expr) → IsExpr declared (valid.Set (typed_host h)) x → P (form x)) where
  set_form : (g : Host) (value : Option Expr) → same_host h g ≡ true → IsFormOf declared types structures (kind.Set g) value → IfForm P (option_map form value)
  set_form g None s f = tt
  set_form g (Some x) s f = fits x (subst (λ k. IsExpr declared (valid.Set k) x) (host_same h g s) f.1)

  set_if : (same : Bool) (g : Host) (value : Option Expr) → same_host h g ≡ same → IsFormOf declared types structures (kind.Set g) value → Satisfies (IfForm P) (if same then Accepts (option_map form value) else Breaks (rule.ASSIGNMENT ∷ []))
  set_if true g value s f = set_form g value s f
  set_if false g value s f = tt

  empty_form : (value : Option Expr) → IsFormOf declared types structures kind.EmptySet value → IfForm P (option_map form value)
  empty_form None f = tt
  empty_form (Some x) f = fits x (f (typed_host h))

  -- alike what is made of a value that is given to something of a set type
  pub set-fits : (from : Kind) (value : Option Expr) → IsFormOf declared types structures from value → Satisfies (IfForm P) (given_to form (kind.Set h) from value)
  set-fits (kind.Ordinal g) value f = tt
  set-fits (kind.Structured n) value f = tt
  set-fits (kind.Set g) value f = set_if (same_host h g) g value refl f
  set-fits kind.EmptySet value f = empty_form value f
  set-fits kind.Text value f = tt
  set-fits kind.File value f = tt

module _ (declared : Declarations) (types : TypeValues) (structures : List StructuredType) where
  -- a valid form of its kind, read of a variable of its type where it is the bare name of one
  abbrev pub IsForm : Typed → Type 0
  IsForm t = IsFormOf declared types structures t.kind t.form × IsAccessOf declared types t.access t.form

  module _ (list : List UnitType) where
    module _ (p : FormalParameter) (f : Formal) (is : IsParameter types list p f) where
      -- what may be given for a variable parameter
      abbrev IsVariable : Actual → Type 0
      IsVariable = IsGiven declared list mode.Variable f

      -- ---- variables that are given

      taken_form : (of : TypeName) (guarded : Protection) (form : Option Expr) → same_type p.of.is of ≡ true → IsAccessOf declared types (access.Variable of guarded) form → IfForm IsVariable (accessed form)
      taken_form of guarded None s x = tt
      taken_form of guarded (Some e) s x = subst (λ z. IfForm IsVariable (accessed (Some z))) (sym x.1) (x.2.0, is.has_type ∙ (ap types (type_same p.of.is of s) ∙ x.2.1), x.2.2)

      taken_if : (same : Bool) (of : TypeName) (guarded : Protection) (form : Option Expr) → same_type p.of.is of ≡ same → IsAccessOf declared types (access.Variable of guarded) form
          → Satisfies (IfForm IsVariable) (if same then Accepts (accessed form) else Breaks (rule.VARIABLE_ARGUMENT ∷ []))
      taken_if true of guarded form s x = taken_form of guarded form s x
      taken_if false of guarded form s x = tt

      variable-fits : (a : Access) (form : Option Expr) → IsAccessOf declared types a form → Satisfies (IfForm IsVariable) (variable_taken p.of.is a form)
      variable-fits (access.Variable of guarded) form x = taken_if (same_type p.of.is of) of guarded form refl x
      variable-fits (access.Tag of guarded tag) form x = tt
      variable-fits access.File form x = tt
      variable-fits access.Constant form x = tt
      variable-fits access.Value form x = tt

      -- ---- arguments

      kind-given : (k : Kind) → HasKind types list (denoter_of f.denoter) k → (v : Typed) → IsForm v → Satisfies (IfForm (IsGiven declared list mode.Value f)) (value_taken k v)
      kind-given (kind.Ordinal h) has v x = given-fits declared types structures (IsGiven declared list mode.Value f) tree.Evaluated h (λ e q. (valid.Ordinal (typed_host h), has.1, q)) v.kind v.form x.0
      kind-given (kind.Structured m) has v x =
          structured-fits declared types structures (IsGiven declared list mode.Value f) tree.Evaluated m has.1.0 has.1.1 (λ e q. (valid.Structured has.1.0, (has.1.2, has.1.1.1), q)) v.kind v.form x.0
      kind-given (kind.Set h) has v x = set-fits declared types structures (IsGiven declared list mode.Value f) tree.Evaluated h (λ e q. (valid.Set (typed_host h), has.1, q)) v.kind v.form x.0
      kind-given kind.EmptySet has v x = absurd has
      kind-given kind.Text has v x = absurd has
      kind-given kind.File has v x = absurd has

      value-fits : (v : Typed) → IsForm v → Satisfies (IfForm (IsGiven declared list mode.Value f)) (value_taken p.kind v)
      value-fits v x = kind-given p.kind is.has_kind v x

      -- what is protected is given alike
      protected_value : (x : Option Actual) → IfForm (IsGiven declared list mode.Value f) x → IfForm (IsGiven declared list mode.ProtectedValue f) x
      protected_value None h = tt
      protected_value (Some (tree.Evaluated x)) h = h
      protected_value (Some (tree.Accessed place)) h = absurd h

      protected_variable : (x : Option Actual) → IfForm IsVariable x → IfForm (IsGiven declared list mode.ProtectedVariable f) x
      protected_variable None h = tt
      protected_variable (Some (tree.Evaluated x)) h = absurd h
      protected_variable (Some (tree.Accessed place)) h = h

      actual-fits : (m : FormalMode) (v : Typed) → IsForm v → Satisfies (IfForm (IsGiven declared list m f)) (actual_taken m p v)
      actual-fits mode.Value v x = value-fits v x
      actual-fits mode.ProtectedValue v x = weaker-satisfies (IfForm (IsGiven declared list mode.Value f)) (IfForm (IsGiven declared list mode.ProtectedValue f)) (value_taken p.kind v) protected_value (value-fits v x)
      actual-fits mode.Variable v x =
          both-satisfies (IfForm IsVariable) Any (IfForm IsVariable) (λ actual done. Accepts actual) (variable_taken p.of.is v.access v.form) (threatened v.access) (variable-fits v.access v.form x.1) (any-satisfies (threatened v.access)) (λ a done y z. y)
      actual-fits mode.ProtectedVariable v x = weaker-satisfies (IfForm IsVariable) (IfForm (IsGiven declared list mode.ProtectedVariable f)) (variable_taken p.of.is v.access v.form) protected_variable (variable-fits v.access v.form x.1)

    -- what is given for these formal parameters
    abbrev IsTaken : List Formal → Taken → Type 0
    IsTaken fs t = AreActuals declared list fs t.actuals

    one-fits : (f : Formal) (depth : ℕ) (a : Option Actual) → IfForm (IsGiven declared list f.mode f) a → IsTaken (f ∷ []) (one_taken depth a)
    one-fits f depth None h = tt
    one-fits f depth (Some a) h = (h, tt)

    argument-fits : (p : FormalParameter) (f : Formal) → IsParameter types list p f → (g : Given) → Satisfies IsForm g.value → Satisfies (IsTaken (f ∷ [])) (argument_judged p g)
    argument-fits p f is g h =
        then-satisfies IsForm (IsTaken (f ∷ [])) (argument_taken p) (unless_faults (given_faults g) g.value) (unless_faults-satisfies IsForm (given_faults g) g.value h)
        (λ v x. then-satisfies (IfForm (IsGiven declared list f.mode f)) (IsTaken (f ∷ [])) (λ actual. Accepts (one_taken v.depth actual)) (actual_taken p.mode p v)
        (subst (λ m. Satisfies (IfForm (IsGiven declared list m f)) (actual_taken p.mode p v)) (sym is.mode) (actual-fits p f is p.mode v x)) (λ a y. one-fits f v.depth a y))

    joined-form : (f : Formal) (fs : List Formal) (xs ys : Option (List Actual)) → AreActuals declared list (f ∷ []) xs → AreActuals declared list fs ys → AreActuals declared list (f ∷ fs) (map_both (λ us vs. us ++ vs) xs ys)
    joined-form f fs None ys h g = tt
    joined-form f fs (Some xs) None h g = tt
    joined-form f fs (Some []) (Some ys) h g = absurd h
    joined-form f fs (Some (a ∷ [])) (Some ys) h g = (h.0, g)
    joined-form f fs (Some (a ∷ b ∷ more)) (Some ys) h g = absurd h.1

    -- one for each formal parameter
    pub arguments-fit : (ps : List FormalParameter) (fs : List Formal) (gs : List Given) → AreParameters types list ps fs → AreGiven IsForm gs → Satisfies (IsTaken fs) (arguments_judged ps gs)
    arguments-fit [] [] [] h k = tt
    arguments-fit [] [] (g ∷ gs) h k = tt
    arguments-fit [] (f ∷ fs) gs h k = absurd h
    arguments-fit (p ∷ ps) [] gs h k = absurd h
    arguments-fit (p ∷ ps) (f ∷ fs) [] h k = tt
    arguments-fit (p ∷ ps) (f ∷ fs) (g ∷ gs) h k =
        both-satisfies (IsTaken (f ∷ [])) (IsTaken fs) (IsTaken (f ∷ fs)) (λ x xs. Accepts (joined x xs)) (argument_judged p g) (arguments_judged ps gs)
        (argument-fits p f h.0 g k.0) (arguments-fit ps fs gs h.1 k.1) (λ x xs y ys. joined-form f fs x.actuals xs.actuals y ys)

  -- ---- function designators

  -- what is built of a call is valid
  function-form : (callee : Callee) (ps : List FormalParameter) (k : Kind) (s : IsFunctionOf declared types structures callee ps k) (xs : Option (List Actual))
      → AreActuals declared declared.types s.0.formals xs → IsFormOf declared types structures k (call_form callee k xs)
  function-form callee ps (kind.Ordinal h) s None x = s.2.1
  function-form callee ps (kind.Ordinal h) s (Some xs) x = (s.2.1, (s.0, s.1, s.2.0, x))
  function-form callee ps (kind.Structured n) s None x = (declared.types, s.2.3)
  function-form callee ps (kind.Structured n) s (Some xs) x =
      let v = s.2.2.1 in
      ((v.0, v.1, (s.0, s.1, record { result = s.2.0; has_result = s.2.1; has_kind = (v.2, v.1.1) }, x)), (declared.types, s.2.3))
  function-form callee ps (kind.Set h) s None x = s.2.1
  function-form callee ps (kind.Set h) s (Some xs) x = (s.2.1, (s.0, s.1, s.2.0, x))
  function-form callee ps kind.EmptySet s xs x = absurd s.2
  function-form callee ps kind.Text s xs x = absurd s.2
  function-form callee ps kind.File s xs x = absurd s.2

  -- a call of a function that is accepted is valid
  pub function_called-fits : (callee : Callee) (ps : List FormalParameter) (k : Kind) (gs : List Given) → IsFunctionOf declared types structures callee ps k → AreGiven IsForm gs → Satisfies IsForm (function_called callee ps k gs)
  function_called-fits callee ps k gs s given =
      then-satisfies (IsTaken declared.types s.0.formals) IsForm (function_typed callee k) (arguments_judged ps gs) (arguments-fit declared.types ps s.0.formals gs s.3 given)
      (λ t x. if-satisfies IsForm (nat_le (suc t.depth) limit.DEPTH) (Accepts _) (Breaks (rule.TOO_DEEP ∷ [])) (λ e. (function-form callee ps k s t.actuals x, tt)) tt)
