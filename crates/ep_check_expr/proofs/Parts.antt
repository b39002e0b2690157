-- A form has a property that the rules keep where its parts have it: chains of operands, calls with arguments, and accesses.
use Rattle.std.proofs.Common.{ℕ, pos, List, [], ◌∷◌, ◌++◌, length}
use Rattle.std.specs.Prelude.{⊤}
use Rattle.ep_tree.specs.declared.operator.RelationalOperator.{RelationalOperator}
use Rattle.ep_scope.specs.Scopes.{Region, Meant, Declares, Requires, FieldOf, Nothing, depth_in, meant, meant_in}
use Rattle.ep_scope.specs.Scopes as meaning
use Rattle.ep_scope.specs.declared.required.Function.{Function}
use Rattle.ep_scope.specs.declared.required.Required.{Required}
use Rattle.ep_scope.specs.declared.required.Required.TheVariants as required
use Rattle.ep_check_expr.specs.Expressions.{Operand, Selected, Field, Indexes, Arguments, Other, chained, string_judged, access_judged, selected_all}
use Rattle.ep_rules.specs.FieldDesignators.{designated}
use Rattle.ep_rules.specs.Functions.{Given, all_faults, accepted, accepted_first, called, number_faults, takes, unless_faults, applied}
use Rattle.ep_rules.specs.Indexing.{indexed, indexed_all}
use Rattle.ep_rules.specs.Judgements.{Judged, Accepts, Breaks, Typed, both, when_accepted}
use Rattle.ep_rules.specs.Names.{call_required, call_named, is_nothing, qualified_value, value_named}
use Rattle.ep_rules.specs.Operators.{compared}
use Rattle.ep_check_expr.proofs.public.Keeping.{AreGiven, IsCalled, IsKept, Satisfies, if-satisfies}

module _ (Q : Typed → Type 0) where
  -- a rule of two operands that keeps the property
  abbrev pub Keeps : (Typed → Typed → Judged Typed) → Type 0
  Keeps f = (x y : Typed) → Q x → Q y → Satisfies Q (f x y)

  -- all operands of a chain have it
  abbrev pub AreOperands : {O : Type 0} → List (Operand O) → Type 0
  AreOperands [] = ⊤
  AreOperands (o ∷ os) = Satisfies Q o.operand × AreOperands os

  -- all indexes have it
  abbrev pub AreIndexes : List (Judged Typed) → Type 0
  AreIndexes [] = ⊤
  AreIndexes (i ∷ is) = Satisfies Q i × AreIndexes is

  -- all indexes and arguments that follow a name have it
  abbrev pub IsSelected : Selected → Type 0
  IsSelected (Field name) = ⊤
  IsSelected (Indexes is) = AreIndexes is
  IsSelected (Arguments gs) = AreGiven Q gs
  IsSelected Other = ⊤

  abbrev pub AreSelected : List Selected → Type 0
  AreSelected [] = ⊤
  AreSelected (s ∷ ss) = IsSelected s × AreSelected ss

  -- valid forms of their kinds
  abbrev AreForms : List Typed → Type 0
  AreForms [] = ⊤
  AreForms (x ∷ xs) = Q x × AreForms xs

  -- a form of one part
  pub when_accepted-fits : (f : Typed → Judged Typed) → ((x : Typed) → Q x → Satisfies Q (f x)) → (a : Judged Typed) → Satisfies Q a → Satisfies Q (when_accepted f a)
  when_accepted-fits f s (Accepts x) p = s x p
  when_accepted-fits f s (Breaks rules) p = tt

  -- a form of two parts
  both-fits : (f : Typed → Typed → Judged Typed) → Keeps f → (a b : Judged Typed) → Satisfies Q a → Satisfies Q b → Satisfies Q (both f a b)
  both-fits f s (Accepts x) (Accepts y) p q = s x y p q
  both-fits f s (Accepts x) (Breaks rules) p q = tt
  both-fits f s (Breaks rules) (Accepts y) p q = tt
  both-fits f s (Breaks rules) (Breaks more) p q = tt

  -- operands after a first one
  pub chained-fits : {O : Type 0} (rule : O → Typed → Typed → Judged Typed) → ((o : O) → Keeps (rule o)) → (first : Judged Typed) (os : List (Operand O)) → Satisfies Q first → AreOperands os → Satisfies Q (chained rule first os)
  chained-fits rule s first [] p q = p
  chained-fits rule s first (o ∷ os) p q = chained-fits rule s (both (rule o.operator) first o.operand) os (both-fits (rule o.operator) (s o.operator) first o.operand p q.0) q.1

  -- one more argument, where it is accepted
  accepted_first-forms : (a : Judged Typed) (xs : List Typed) → Satisfies Q a → AreForms xs → AreForms (accepted_first a xs)
  accepted_first-forms (Accepts x) xs p q = (p, q)
  accepted_first-forms (Breaks rules) xs p q = q

  -- the arguments that are accepted have it
  accepted-forms : (gs : List Given) → AreGiven Q gs → AreForms (accepted gs)
  accepted-forms [] p = tt
  accepted-forms (g ∷ gs) p = accepted_first-forms g.value (accepted gs) p.0 (accepted-forms gs p.1)

  module _ (scopes : List Region) (kept : IsKept Q scopes) where
    -- a comparison
    pub comparison_of-fits : (operator : RelationalOperator) (left right : Judged Typed) → Satisfies Q left → Satisfies Q right → Satisfies Q (both (compared operator) left right)
    comparison_of-fits operator left right p q = both-fits (compared operator) (kept.compares operator) left right p q

    -- a character string
    pub string_judged-fits : (bytes : List ℕ) → Satisfies Q (string_judged bytes)
    string_judged-fits [] = kept.text []
    string_judged-fits (b ∷ []) = kept.character (pos b)
    string_judged-fits (b ∷ c ∷ bs) = kept.text (b ∷ c ∷ bs)

    -- a call with arguments that are all accepted
    called-fits : (f : Function) (xs : List Typed) → AreForms xs → Satisfies Q (called f xs)
    called-fits f [] p = tt
    called-fits f (x ∷ []) p = kept.applies_one f x p.0
    called-fits f (x ∷ y ∷ []) p = kept.applies_two f x y p.0 p.1.0
    called-fits f (x ∷ y ∷ z ∷ zs) p = tt

    -- what stands where no rule fails
    unless_faults-fits : (rules : List ℕ) (J : Judged Typed) → Satisfies Q J → Satisfies Q (unless_faults rules J)
    unless_faults-fits [] J p = p
    unless_faults-fits (r ∷ rs) J p = tt

    -- a call of a required function
    applied-fits : (f : Function) (gs : List Given) → AreGiven Q gs → Satisfies Q (applied f gs)
    applied-fits f gs p = unless_faults-fits (all_faults gs ++ number_faults (takes f (length gs))) (called f (accepted gs)) (called-fits f (accepted gs) (accepted-forms gs p))

    -- a required name with arguments
    call_required-fits : (r : Required) (gs : List Given) → AreGiven Q gs → Satisfies Q (call_required r gs)
    call_required-fits (required.Constant c) gs p = tt
    call_required-fits (required.«Type» t) gs p = tt
    call_required-fits (required.Function f) gs p = applied-fits f gs p
    call_required-fits (required.Procedure q) gs p = tt

    -- a name with arguments
    call_named-fits : (depth : ℕ) (name : List ℕ) (m : Meant) (gs : List Given) → IsCalled depth Q m → AreGiven Q gs → Satisfies Q (call_named depth name m gs)
    call_named-fits depth name (Declares d) gs c p = c gs p
    call_named-fits depth name (meaning.Standard file) gs c p = tt
    call_named-fits depth name (Requires r) gs c p = call_required-fits r gs p
    call_named-fits depth name (FieldOf f) gs c p = tt
    call_named-fits depth name Nothing gs c p = tt

    -- a value with indexes
    indexed_all-fits : (x : Judged Typed) (is : List (Judged Typed)) → Satisfies Q x → AreIndexes is → Satisfies Q (indexed_all scopes x is)
    indexed_all-fits x [] p q = p
    indexed_all-fits x (i ∷ is) p q = indexed_all-fits (both (indexed scopes) x i) is (both-fits (indexed scopes) kept.indexes x i p q.0) q.1

    -- a value with indexes and fields
    selected_all-fits : (x : Judged Typed) (ss : List Selected) → Satisfies Q x → AreSelected ss → Satisfies Q (selected_all scopes x ss)
    selected_all-fits x [] p q = p
    selected_all-fits x (Indexes is ∷ ss) p q = selected_all-fits (indexed_all scopes x is) ss (indexed_all-fits x is p q.0) q.1
    selected_all-fits x (Field name ∷ ss) p q = selected_all-fits (when_accepted (designated scopes name) x) ss (when_accepted-fits (designated scopes name) (kept.fields name) x p) q.1
    selected_all-fits x (Arguments gs ∷ ss) p q = tt
    selected_all-fits x (Other ∷ ss) p q = tt

    -- a name that an interface has, or a field
    qualified-fits : (first second : List ℕ) → Satisfies Q (qualified_value scopes first second)
    qualified-fits first second =
        if-satisfies Q (is_nothing (meant_in scopes first second)) (when_accepted (designated scopes second) (value_named (depth_in scopes) first (meant scopes first))) (value_named (depth_in scopes) second (meant_in scopes first second))
        (λ e. when_accepted-fits (designated scopes second) (kept.fields second) (value_named (depth_in scopes) first (meant scopes first)) (kept.named first)) (kept.within first second)

    -- a name with what follows it
    pub access_judged-fits : (name : List ℕ) (ss : List Selected) → AreSelected ss → Satisfies Q (access_judged scopes name ss)
    access_judged-fits name [] p = kept.named name
    access_judged-fits name (Arguments gs ∷ ss) p = selected_all-fits (call_named (depth_in scopes) name (meant scopes name) gs) ss (call_named-fits (depth_in scopes) name (meant scopes name) gs (kept.called name) p.0) p.1
    access_judged-fits name (Field field ∷ ss) p = selected_all-fits (qualified_value scopes name field) ss (qualified-fits name field) p.1
    access_judged-fits name (Indexes is ∷ ss) p = selected_all-fits (value_named (depth_in scopes) name (meant scopes name)) (Indexes is ∷ ss) (kept.named name) p
    access_judged-fits name (Other ∷ ss) p = tt
