-- What is said of an access before it is judged is what the rules accept: a variable of its kind, or a tag.
use Rattle.std.proofs.Common.{◌≡◌, ℕ, ◌+◌, nat_le, Bool, true, false, List, [], ◌∷◌, map, slice_get, Option, Some, None, refl, sym, ap, ◌∙◌, subst}
use Rattle.std.specs.Prelude.{is_some, ⊤}
use Rattle.std.specs.Option.{option_map}
use Rattle.ep_tree.specs.Shapes.{field_in, when_some}
use Rattle.ep_tree.specs.declared.expression.Access.{Access, out-Access}
use Rattle.ep_tree.specs.declared.expression.Addend.{Addend}
use Rattle.ep_tree.specs.declared.expression.Argument.{Argument}
use Rattle.ep_tree.specs.declared.expression.Comparison.{Comparison}
use Rattle.ep_tree.specs.declared.expression.ComponentValue.TheFolds.{fold-roll-Selector}
use Rattle.ep_tree.specs.declared.expression.ComponentValue.TheOpen.{Selector-F}
use Rattle.ep_tree.specs.declared.expression.ComponentValue.{ComponentValue}
use Rattle.ep_tree.specs.declared.expression.Element.{Element}
use Rattle.ep_tree.specs.declared.expression.Expression.{Expression}
use Rattle.ep_tree.specs.declared.expression.Factor.{Factor}
use Rattle.ep_tree.specs.declared.expression.Label.{Label}
use Rattle.ep_tree.specs.declared.expression.Multiplier.{Multiplier}
use Rattle.ep_tree.specs.declared.expression.Selector.{Selector, out-Selector, roll-Selector, roll-out-Selector}
use Rattle.ep_tree.specs.declared.expression.Simple.{Simple}
use Rattle.ep_tree.specs.declared.expression.Term.{Term}
use Rattle.ep_tree.specs.declared.expression.Values.{Values}
use Rattle.ep_typed.specs.Trees.{Callee}
use Rattle.ep_scope.specs.Fields.{field_number}
use Rattle.ep_scope.specs.Scopes.{Region, Meant, Declares, Requires, FieldOf, Nothing, depth_in, meant, meant_in, structure_in}
use Rattle.ep_tree.specs.declared.expression.Selector.TheVariants as selector
use Rattle.ep_scope.specs.Scopes as meaning
use Rattle.ep_scope.specs.declared.kind.Kind.{Kind}
use Rattle.ep_scope.specs.declared.kind.Kind.TheVariants as kind
use Rattle.ep_scope.specs.declared.parameter.Protection.{Protection}
use Rattle.ep_scope.specs.declared.parameter.TypeName.{TypeName}
use Rattle.ep_scope.specs.declared.required.Function.{Function}
use Rattle.ep_scope.specs.declared.required.Required.{Required}
use Rattle.ep_scope.specs.declared.required.Required.TheVariants as required
use Rattle.ep_scope.specs.declared.required.RequiredConstant.TheVariants as constant
use Rattle.ep_scope.specs.declared.rule.TheConstants as rule
use Rattle.ep_scope.specs.declared.structure.Composition.{Composition}
use Rattle.ep_scope.specs.declared.structure.Composition.TheVariants as composition
use Rattle.ep_scope.specs.declared.structure.FieldType.{FieldType}
use Rattle.ep_scope.specs.declared.structure.TagType.{TagType}
use Rattle.ep_scope.specs.declared.thing.Declaration.{Declaration}
use Rattle.ep_scope.specs.declared.thing.Declaration.TheVariants as declaration
use Rattle.ep_scope.specs.declared.thing.Declared.{Declared}
use Rattle.ep_rules.specs.declared.access.Access as accessing
use Rattle.ep_rules.specs.declared.access.Access.TheVariants as access
use Rattle.ep_rules.specs.declared.forms.TheConstants as limit
use Rattle.ep_rules.specs.Arguments.{Taken, arguments_judged, callee_at, function_typed}
use Rattle.ep_check_expr.specs.Expressions.{Arguments, Field, Indexes, Other, Selected, access_judged, given, judged, name_judged, selected, selected_all}
use Rattle.ep_rules.specs.FieldDesignators.{designated, designated_by, field_access, field_by, field_if, field_within, steps_to, variable_access}
use Rattle.ep_rules.specs.Functions.{Given, accepted, called, unless_faults}
use Rattle.ep_rules.specs.Indexing.{component_access, component_depth, component_typed, indexed, indexed_all, indexed_by, indexed_if, no_index}
use Rattle.ep_rules.specs.Judgements.{Judged, Accepts, Breaks, Typed, both, when_accepted}
use Rattle.ep_rules.specs.Names as names
use Rattle.ep_rules.specs.Names.{call_declared, call_named, call_required, qualified_value, value_declared, value_named, value_required}
use Rattle.ep_rules.specs.Operators.{are_compatible, character, is_integer, unbuilt_typed}
use Rattle.ep_check_expr.specs.Shapes.{field_first}
use Rattle.ep_check_expr.proofs.public.Selected.{field-given}
use Rattle.ep_check_expr.proofs.public.Folds.{name_judged-is}
use Rattle.ep_check_expr.proofs.public.Selected.{index-given}
use Rattle.ep_check_expr.proofs.public.Keeping.{if-satisfies}
use Rattle.ep_check_expr.proofs.public.Nodes.{indexes-judged}
use Rattle.ep_check_expr.proofs.public.Plain.{applied_one-plain, applied_two-plain, deep-plain}
use Rattle.ep_stmt_rules.specs.Tags as tags
use Rattle.ep_stmt_rules.specs.declared.tags.Reached.{Reached}
use Rattle.ep_stmt_rules.proofs.public.judged.Fits.{Any, Fits, fits_any, fits_both, fits_then}

-- it is no variable
abbrev pub IsNoVariable : accessing.Access → Type 0
IsNoVariable (access.Variable of guarded) = ⊥
IsNoVariable (access.Tag of guarded tag) = ⊥
IsNoVariable access.File = ⊤
IsNoVariable access.Constant = ⊤
IsNoVariable access.Value = ⊤

-- it is a variable, which is a tag or none
abbrev pub IsVariable : Bool → accessing.Access → Type 0
IsVariable b (access.Variable of guarded) = b ≡ false
IsVariable b (access.Tag of guarded tag) = b ≡ true
IsVariable b access.File = ⊥
IsVariable b access.Constant = ⊥
IsVariable b access.Value = ⊥

pub never_both : (b : Bool) (a : accessing.Access) → IsNoVariable a → IsVariable b a → ⊥
never_both b (access.Variable of guarded) h v = h
never_both b (access.Tag of guarded tag) h v = h
never_both b access.File h v = v
never_both b access.Constant h v = v
never_both b access.Value h v = v

-- what is accepted is what is said of it: no variable, or one of the kind
abbrev pub IsReached : Option Reached → Typed → Type 0
IsReached None t = IsNoVariable t.access
IsReached (Some r) t = (t.kind ≡ r.kind) × IsVariable r.is_tag t.access

-- ---- names and calls

function_reached : (callee : Callee) (k : Kind) (j : Judged Taken) → Fits (IsReached None) (when_accepted (function_typed callee k) j)
function_reached callee k (Accepts t) = deep-plain (IsReached None) (λ form kind depth. tt) _ _ _
function_reached callee k (Breaks rules) = tt

declared_reached : (depth : ℕ) (d : Declared) (what : Declaration) → Fits (IsReached (tags.declared_reached what)) (value_declared depth d what)
declared_reached depth d (declaration.Constant k v deep) = tt
declared_reached depth d (declaration.«Type» of h nodes) = tt
declared_reached depth d (declaration.Variable of k guarded) = (refl, refl)
declared_reached depth d (declaration.Own of k guarded) = (refl, refl)
declared_reached depth d (declaration.Procedure parameters) = tt
declared_reached depth d (declaration.Function parameters of k) = function_reached (callee_at depth d) k (arguments_judged parameters [])

required_reached : (r : Required) → Fits (IsReached None) (value_required r)
required_reached (required.Constant constant.MaxInt) = tt
required_reached (required.Constant constant.MaxChar) = tt
required_reached (required.Constant constant.True) = tt
required_reached (required.Constant constant.False) = tt
required_reached (required.«Type» t) = tt
required_reached (required.Function f) = tt
required_reached (required.Procedure p) = tt

-- a field is a tag where it has one
tag_variable : (of : TypeName) (guarded : Protection) (tag : Option TagType) → IsVariable (is_some tag) (variable_access of guarded tag)
tag_variable of guarded None = refl
tag_variable of guarded (Some tag) = refl

named_reached : (depth : ℕ) (name : List ℕ) (m : Meant) → Fits (IsReached (tags.name_reached m)) (value_named depth name m)
named_reached depth name (Declares d) = declared_reached depth d d.what
named_reached depth name (meaning.Standard file) = tt
named_reached depth name (Requires r) = required_reached r
named_reached depth name (FieldOf f) = (refl, tag_variable f.field.of f.guarded f.field.tag)
named_reached depth name Nothing = tt

-- what is called is no variable
declared_called : (depth : ℕ) (d : Declared) (what : Declaration) (gs : List Given) → Fits (IsReached None) (call_declared depth d what gs)
declared_called depth d (declaration.Constant k v deep) gs = tt
declared_called depth d (declaration.«Type» of h nodes) gs = tt
declared_called depth d (declaration.Variable of k guarded) gs = tt
declared_called depth d (declaration.Own of k guarded) gs = tt
declared_called depth d (declaration.Procedure parameters) gs = tt
declared_called depth d (declaration.Function parameters of k) gs = function_reached (callee_at depth d) k (arguments_judged parameters gs)

unless_reached : (rules : List ℕ) (j : Judged Typed) → Fits (IsReached None) j → Fits (IsReached None) (unless_faults rules j)
unless_reached [] j h = h
unless_reached (r ∷ rs) j h = tt

function_called : (f : Function) (xs : List Typed) → Fits (IsReached None) (called f xs)
function_called f [] = tt
function_called f (x ∷ []) = applied_one-plain (IsReached None) (λ form kind depth. tt) f x
function_called f (x ∷ y ∷ []) = applied_two-plain (IsReached None) (λ form kind depth. tt) f x y
function_called f (x ∷ y ∷ z ∷ more) = tt

required_called : (r : Required) (gs : List Given) → Fits (IsReached None) (call_required r gs)
required_called (required.Constant c) gs = tt
required_called (required.«Type» t) gs = tt
required_called (required.Function f) gs = unless_reached _ (called f (accepted gs)) (function_called f (accepted gs))
required_called (required.Procedure p) gs = tt

name_called : (depth : ℕ) (name : List ℕ) (m : Meant) (gs : List Given) → Fits (IsReached None) (call_named depth name m gs)
name_called depth name (Declares d) gs = declared_called depth d d.what gs
name_called depth name (meaning.Standard file) gs = tt
name_called depth name (Requires r) gs = required_called r gs
name_called depth name (FieldOf f) gs = tt
name_called depth name Nothing gs = tt

-- ---- components and fields

-- a component of a variable is one that is no tag, and one of another value is none
component_variable : (of : TypeName) (b : Bool) (a : accessing.Access) → IsVariable b a → IsVariable false (component_access of a)
component_variable of b (access.Variable t guarded) h = refl
component_variable of b (access.Tag t guarded tag) h = refl
component_variable of b access.File h = absurd h
component_variable of b access.Constant h = absurd h
component_variable of b access.Value h = absurd h

component_none : (of : TypeName) (a : accessing.Access) → IsNoVariable a → IsNoVariable (component_access of a)
component_none of (access.Variable t guarded) h = absurd h
component_none of (access.Tag t guarded tag) h = absurd h
component_none of access.File h = tt
component_none of access.Constant h = tt
component_none of access.Value h = tt

-- alike for a field
field_variable : (f : FieldType) (b : Bool) (a : accessing.Access) → IsVariable b a → IsVariable (is_some f.tag) (field_access f a)
field_variable f b (access.Variable t guarded) h = tag_variable f.of guarded f.tag
field_variable f b (access.Tag t guarded tag) h = tag_variable f.of guarded f.tag
field_variable f b access.File h = absurd h
field_variable f b access.Constant h = absurd h
field_variable f b access.Value h = absurd h

field_none : (f : FieldType) (a : accessing.Access) → IsNoVariable a → IsNoVariable (field_access f a)
field_none f (access.Variable t guarded) h = absurd h
field_none f (access.Tag t guarded tag) h = absurd h
field_none f access.File h = tt
field_none f access.Constant h = tt
field_none f access.Value h = tt

module _ (scopes : List Region) where
  -- a component of a variable
  module _ (b : Bool) (x i : Typed) (variable : IsVariable b x.access) where
    array_reached : (o : Option Composition) → Fits (IsReached (tags.component_reached o)) (indexed_if o x i)
    array_reached None = tt
    array_reached (Some (composition.Array a)) =
        if-satisfies (IsReached (Some (tags.of_kind a.kind))) (are_compatible (kind.Ordinal a.index) i.kind) (component_typed a x i) no_index
        (λ e. if-satisfies (IsReached (Some (tags.of_kind a.kind))) (nat_le (component_depth x.access x.depth i.depth) limit.DEPTH) (Accepts _) (Breaks (rule.TOO_DEEP ∷ [])) (λ f. (refl, component_variable a.component b x.access variable)) tt) tt
    array_reached (Some (composition.Record fs)) = tt

    kind_reached : (k : Kind) → Fits (IsReached (tags.component_reached (tags.composition_of scopes k))) (indexed_by scopes k x i)
    kind_reached (kind.Ordinal h) = tt
    kind_reached (kind.Structured n) = array_reached (structure_in scopes n)
    kind_reached (kind.Set h) = tt
    kind_reached kind.EmptySet = tt
    kind_reached kind.Text = if-satisfies (IsReached None) (is_integer i.kind) (unbuilt_typed character x i) no_index (λ e. deep-plain (IsReached None) (λ form kind depth. tt) _ _ _) tt
    kind_reached kind.File = tt

  one_indexed : (r : Option Reached) (x i : Typed) → IsReached r x → Fits (IsReached (when_some r (λ y. tags.component_reached (tags.composition_of scopes y.kind)))) (indexed scopes x i)
  one_indexed None x i h =
      index-given (IsReached None) scopes x.kind x i
      (λ n a is e same. if-satisfies (IsReached None) (nat_le (component_depth x.access x.depth i.depth) limit.DEPTH) (Accepts _) (Breaks (rule.TOO_DEEP ∷ [])) (λ f. component_none a.component x.access h) tt)
      (deep-plain (IsReached None) (λ form kind depth. tt) _ _ _)
  one_indexed (Some y) x i h = subst (λ k. Fits (IsReached (tags.component_reached (tags.composition_of scopes k))) (indexed scopes x i)) h.0 (kind_reached y.is_tag x i h.1 x.kind)

  all_indexed : (is : List Expression) (r : Option Reached) (x : Judged Typed) → Fits (IsReached r) x → Fits (IsReached (tags.indexed scopes is r)) (indexed_all scopes x (map (judged scopes) is))
  all_indexed [] r x h = h
  all_indexed (i ∷ is) r x h =
      all_indexed is (when_some r (λ y. tags.component_reached (tags.composition_of scopes y.kind))) (both (indexed scopes) x (judged scopes i))
      (fits_both (IsReached r) Any (IsReached (when_some r (λ y. tags.component_reached (tags.composition_of scopes y.kind)))) (indexed scopes) x (judged scopes i) h (fits_any (judged scopes i)) (λ a b p q. one_indexed r a b p))

  -- a field of a variable
  module _ (b : Bool) (x : Typed) (name : List ℕ) (variable : IsVariable b x.access) where
    place_reached : (o : Option FieldType) → Fits (IsReached (option_map tags.of_field o)) (field_if o x)
    place_reached None = tt
    place_reached (Some f) =
        if-satisfies (IsReached (Some (tags.of_field f))) (nat_le (steps_to f + x.depth) limit.DEPTH) (Accepts _) (Breaks (rule.TOO_DEEP ∷ [])) (λ e. (refl, field_variable f b x.access variable)) tt

    number_reached : (fs : List FieldType) (o : Option ℕ) → Fits (IsReached (tags.field_at fs o)) (field_by fs o x)
    number_reached fs None = tt
    number_reached fs (Some place) = place_reached (slice_get fs place)

    record_reached : (o : Option Composition) → Fits (IsReached (tags.field_reached name o)) (field_within o name x)
    record_reached None = tt
    record_reached (Some (composition.Array a)) = tt
    record_reached (Some (composition.Record fs)) = number_reached fs (field_number fs name)

    field_kind_reached : (k : Kind) → Fits (IsReached (tags.field_reached name (tags.composition_of scopes k))) (designated_by scopes k name x)
    field_kind_reached (kind.Ordinal h) = tt
    field_kind_reached (kind.Structured n) = record_reached (structure_in scopes n)
    field_kind_reached (kind.Set h) = tt
    field_kind_reached kind.EmptySet = tt
    field_kind_reached kind.Text = tt
    field_kind_reached kind.File = tt

  field_reached : (name : List ℕ) (r : Option Reached) (x : Typed) → IsReached r x → Fits (IsReached (tags.designated scopes name r)) (designated scopes name x)
  field_reached name None x h =
      field-given (IsReached None) scopes x.kind name x
      (λ n fs number f is e there. if-satisfies (IsReached None) (nat_le (steps_to f + x.depth) limit.DEPTH) (Accepts _) (Breaks (rule.TOO_DEEP ∷ [])) (λ g. field_none f x.access h) tt)
  field_reached name (Some y) x h = subst (λ k. Fits (IsReached (tags.field_reached name (tags.composition_of scopes k))) (designated scopes name x)) h.0 (field_kind_reached y.is_tag x name h.1 x.kind)

  -- ---- selectors

  abbrev Layer : Type 0
  Layer = Selector-F ComponentValue Element Factor Selector Access Addend Argument Comparison Expression Label Multiplier Simple Term Values

  -- what is judged of a selector
  abbrev told : Layer → Selected
  told (Selector-F.Field line name) = Field name
  told (Selector-F.Index line indexes) = Indexes (map (judged scopes) indexes)
  told (Selector-F.Dereference line) = Other
  told (Selector-F.Arguments line arguments) = Arguments (map (given scopes) arguments)

  rolled_told : (l : Layer) → selected scopes (roll-Selector l) ≡ told l
  rolled_told (Selector-F.Field line name) = simp fold-roll-Selector
  rolled_told (Selector-F.Index line indexes) = ap (selected scopes) (selector.rolls-Index line indexes) ∙ indexes-judged scopes line indexes
  rolled_told (Selector-F.Dereference line) = simp fold-roll-Selector
  rolled_told (Selector-F.Arguments line arguments) = simp fold-roll-Selector

  selected_told : (s : Selector) → selected scopes s ≡ told (out-Selector s)
  selected_told s = ap (selected scopes) (sym (roll-out-Selector s)) ∙ rolled_told (out-Selector s)

  -- selectors behind what is reached
  abbrev Behind : List Selector → Type 0
  Behind ss = (r : Option Reached) (x : Judged Typed) → Fits (IsReached r) x → Fits (IsReached (tags.selected_all scopes ss r)) (selected_all scopes x (map (selected scopes) ss))

  layer_reached : (l : Layer) (rest : List Selector) → Behind rest → (r : Option Reached) (x : Judged Typed) → Fits (IsReached r) x
      → Fits (IsReached (tags.selected_all scopes rest (tags.selected_by scopes l r))) (selected_all scopes x (told l ∷ map (selected scopes) rest))
  layer_reached (Selector-F.Field line name) rest more r x h =
      more (tags.designated scopes name r) (when_accepted (designated scopes name) x) (fits_then (IsReached r) (IsReached (tags.designated scopes name r)) (designated scopes name) x h (λ t p. field_reached name r t p))
  layer_reached (Selector-F.Index line indexes) rest more r x h = more (tags.indexed scopes indexes r) (indexed_all scopes x (map (judged scopes) indexes)) (all_indexed indexes r x h)
  layer_reached (Selector-F.Dereference line) rest more r x h = tt
  layer_reached (Selector-F.Arguments line arguments) rest more r x h = tt

  behind : (ss : List Selector) → Behind ss
  behind [] r x h = h
  behind (s ∷ rest) r x h =
      subst (λ z. Fits (IsReached (tags.selected_all scopes rest (tags.selected_by scopes (out-Selector s) r))) (selected_all scopes x (z ∷ map (selected scopes) rest))) (sym (selected_told s))
      (layer_reached (out-Selector s) rest (behind rest) r x h)

  -- ---- accesses

  qualified_reached : (first second : List ℕ) (m : Meant) → Fits (IsReached (tags.constituent_or_field scopes first second m)) (names.constituent_or_field scopes first second m)
  qualified_reached first second (Declares d) = named_reached (depth_in scopes) second (Declares d)
  qualified_reached first second (meaning.Standard file) = named_reached (depth_in scopes) second (meaning.Standard file)
  qualified_reached first second (Requires r) = named_reached (depth_in scopes) second (Requires r)
  qualified_reached first second (FieldOf f) = named_reached (depth_in scopes) second (FieldOf f)
  qualified_reached first second Nothing =
      let r : Option Reached = tags.name_reached (meant scopes first) in
      fits_then (IsReached r) (IsReached (tags.designated scopes second r)) (designated scopes second) (value_named (depth_in scopes) first (meant scopes first)) (named_reached (depth_in scopes) first (meant scopes first)) (λ t p. field_reached second r t p)

  module _ (name : List ℕ) (s : Selector) (rest : List Selector) where
    abbrev first : Layer → Option (List ℕ × List Selector)
    first l = when_some {B = List ℕ × List Selector} (field_in l) (λ n. Some (n, rest))

    begun_layer : (l : Layer) → out-Selector s ≡ l → Fits (IsReached (tags.begun scopes name (s ∷ rest) (first l))) (access_judged scopes name (told l ∷ map (selected scopes) rest))
    begun_layer (Selector-F.Field line field) e = behind rest (tags.constituent_or_field scopes name field (meant_in scopes name field)) (qualified_value scopes name field) (qualified_reached name field (meant_in scopes name field))
    begun_layer (Selector-F.Index line indexes) e =
        subst (λ z. Fits (IsReached (tags.selected_all scopes (s ∷ rest) (tags.name_reached (meant scopes name)))) (selected_all scopes (value_named (depth_in scopes) name (meant scopes name)) (z ∷ map (selected scopes) rest))) (selected_told s ∙ ap told e)
        (behind (s ∷ rest) (tags.name_reached (meant scopes name)) (value_named (depth_in scopes) name (meant scopes name)) (named_reached (depth_in scopes) name (meant scopes name)))
    begun_layer (Selector-F.Dereference line) e = tt
    begun_layer (Selector-F.Arguments line arguments) e =
        let j : Judged Typed = call_named (depth_in scopes) name (meant scopes name) (map (given scopes) arguments) in
        subst (λ l. Fits (IsReached (tags.selected_all scopes rest (tags.selected_by scopes l (tags.name_reached (meant scopes name))))) (selected_all scopes j (map (selected scopes) rest))) (sym e)
        (behind rest None j (name_called (depth_in scopes) name (meant scopes name) (map (given scopes) arguments)))

  begun_reached : (name : List ℕ) (ss : List Selector) → Fits (IsReached (tags.begun scopes name ss (field_first ss))) (access_judged scopes name (map (selected scopes) ss))
  begun_reached name [] = named_reached (depth_in scopes) name (meant scopes name)
  begun_reached name (s ∷ rest) =
      subst (λ z. Fits (IsReached (tags.begun scopes name (s ∷ rest) (field_first (s ∷ rest)))) (access_judged scopes name (z ∷ map (selected scopes) rest))) (sym (selected_told s)) (begun_layer name s rest (out-Selector s) refl)

  -- an access that is accepted is what is said of it
  pub access_reached : (a : Access) → Fits (IsReached (tags.access_reached scopes a)) (name_judged scopes a)
  access_reached a = subst (Fits (IsReached (tags.access_reached scopes a))) (sym (name_judged-is scopes a)) (begun_reached (out-Access a).name (out-Access a).selectors)
