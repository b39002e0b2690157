-- Rows of indexes and fields, read from the left, behind a name or a call.
use Rattle.std.proofs.Common.{◌≡◌, ℕ, ◌+◌, ◌<◌, true, false, not, List, [], ◌∷◌, drop, get_or, length, map, Option, Some, None, ◌⊎◌, inl, inr, refl, sym, ap, ◌∙◌, subst}
use Rattle.std.specs.Prelude.{if◌then◌else◌}
use Rattle.std.specs.List.{list_all}
use Rattle.std.specs.Option.{option_or}
use Rattle.ep_built.specs.Built as built
use Rattle.ep_built.specs.Built.{Belonging, Found, Placed, Selecting, access_unbuilt, argument_unbuilt, at_node, behind_call, built_access, expression_unbuilt, first_in, form_told, is_call, is_component, is_later, lines_in, placed_access, selector_belonging}
use Rattle.ep_scope.specs.Scopes.{Region, depth_in, meant}
use Rattle.ep_tree.specs.Shapes.{arguments_in, field_in, when_some}
use Rattle.ep_tree.specs.declared.expression.ComponentValue.TheFolds.{fold_out-Access, fold-roll-Selector}
use Rattle.ep_tree.specs.declared.expression.ComponentValue.TheOpen.{Selector-F}
use Rattle.ep_tree.specs.declared.expression.ComponentValue.{ComponentValue}
use Rattle.ep_tree.specs.declared.expression.Access.{Access, out-Access}
use Rattle.ep_tree.specs.declared.expression.Addend.{Addend}
use Rattle.ep_tree.specs.declared.expression.Argument.{Argument}
use Rattle.ep_tree.specs.declared.expression.Comparison.{Comparison}
use Rattle.ep_tree.specs.declared.expression.Element.{Element}
use Rattle.ep_tree.specs.declared.expression.Expression.{Expression}
use Rattle.ep_tree.specs.declared.expression.Factor.{Factor}
use Rattle.ep_tree.specs.declared.expression.Label.{Label}
use Rattle.ep_tree.specs.declared.expression.Multiplier.{Multiplier}
use Rattle.ep_tree.specs.declared.expression.Selector.{Selector, out-Selector, roll-Selector, roll-out-Selector}
use Rattle.ep_tree.specs.declared.expression.Selector.TheVariants as selector
use Rattle.ep_tree.specs.declared.expression.Simple.{Simple}
use Rattle.ep_tree.specs.declared.expression.Term.{Term}
use Rattle.ep_tree.specs.declared.expression.Values.{Values}
use Rattle.ep_check_expr.specs.Expressions.{Indexes, access_judged, given, judged, name_judged, selected, selected_all}
use Rattle.ep_rules.specs.FieldDesignators.{designated}
use Rattle.ep_rules.specs.Indexing.{indexed, indexed_all}
use Rattle.ep_rules.specs.Judgements.{Judged, Accepts, Typed, both, breaks, when_accepted}
use Rattle.ep_rules.specs.Names.{call_named, qualified_value, value_named}
use Rattle.ep_check_expr.specs.Shapes.{arguments_first, field_first}
use Rattle.ep_rules.proofs.public.Breaking.{both-first, both-second, when_accepted-part}
use Rattle.ep_check_expr.proofs.public.Folds.{name_judged-is}
use Rattle.ep_check_expr.proofs.public.Nodes.{arguments-judged, field-judged, indexes-judged}
use Rattle.ep_check_expr.proofs.public.Rows.{and_first, and_second, at_node-built, at_node-inner, left-cons, or-first, or-second}

-- ---- indexes and fields

-- what an index selector is told to its access
pub index_belonging : (at : ℕ) (more : List Expression) → selector_belonging (selector.Index at more) ≡ (built.Indexes, first_in (map expression_unbuilt more))
index_belonging at more = ap selector_belonging (sym (selector.rolls-Index at more)) ∙ simp fold-roll-Selector

-- whether a selector is one of components
abbrev pub IsComponent : Selector → Type 0
IsComponent s = is_component (form_told (selector_belonging s)) ≡ true

-- all of them are
abbrev pub AreComponents : List Selector → Type 0
AreComponents ss = list_all is_component (map form_told (map selector_belonging ss)) ≡ true

pub first_component : (s : Selector) (ss : List Selector) → AreComponents (s ∷ ss) → IsComponent s
first_component s ss h = and_first (is_component (form_told (selector_belonging s))) (list_all is_component (map form_told (map selector_belonging ss))) h

pub other_components : (s : Selector) (ss : List Selector) → AreComponents (s ∷ ss) → AreComponents ss
other_components s ss h = and_second (is_component (form_told (selector_belonging s))) (list_all is_component (map form_told (map selector_belonging ss))) h

-- a selector that is neither an index nor a field is none
abbrev pub IndexNode : Selector → Type 0
IndexNode s = (line : ℕ) × (indexes : List Expression) × (s ≡ selector.Index line indexes)

abbrev pub FieldNode : Selector → Type 0
FieldNode s = (line : ℕ) × (name : List ℕ) × (s ≡ selector.Field line name)

-- by the layers of selectors
component-layer : (l : Selector-F ComponentValue Element Factor Selector Access Addend Argument Comparison Expression Label Multiplier Simple Term Values) → IsComponent (roll-Selector l) → IndexNode (roll-Selector l) ⊎ FieldNode (roll-Selector l)
component-layer (Selector-F.Index line indexes) h = inl (line, indexes, selector.rolls-Index line indexes)
component-layer (Selector-F.Field line name) h = inr (line, name, selector.rolls-Field line name)
component-layer (Selector-F.Dereference line) h = let e = rw fold-roll-Selector at h in cc
component-layer (Selector-F.Arguments line arguments) h = let e = rw fold-roll-Selector at h in cc

pub component-node : (s : Selector) → IsComponent s → IndexNode s ⊎ FieldNode s
component-node s = subst (λ z. IsComponent z → IndexNode z ⊎ FieldNode z) (roll-out-Selector s) (component-layer (out-Selector s))

module _ (scopes : List Region) where
  -- a rule that fails in what is indexed
  pub indexed_all-first : (n : ℕ) (x : Judged Typed) (is : List (Judged Typed)) → breaks n x ≡ true → breaks n (indexed_all scopes x is) ≡ true
  indexed_all-first n x [] h = h
  indexed_all-first n x (i ∷ is) h = indexed_all-first n (both (indexed scopes) x i) is (both-first n (indexed scopes) x i h)

  -- what a selector does to what stands before it
  abbrev pub ActsAs : Selector → (Judged Typed → Judged Typed) → Type 0
  ActsAs s act = (x : Judged Typed) (rest : List Selector) → selected_all scopes x (map (selected scopes) (s ∷ rest)) ≡ selected_all scopes (act x) (map (selected scopes) rest)

  -- where a rule fails there it fails behind
  abbrev pub KeepsFaults : (Judged Typed → Judged Typed) → Type 0
  KeepsFaults act = (n : ℕ) (x : Judged Typed) → breaks n x ≡ true → breaks n (act x) ≡ true

  abbrev pub by_indexes : List Expression → Judged Typed → Judged Typed
  by_indexes indexes x = indexed_all scopes x (map (judged scopes) indexes)

  abbrev pub by_field : List ℕ → Judged Typed → Judged Typed
  by_field name x = when_accepted (designated scopes name) x

  pub index-acts : (s : Selector) (line : ℕ) (indexes : List Expression) → s ≡ selector.Index line indexes → ActsAs s (by_indexes indexes)
  index-acts s line indexes is x rest = ap (λ z. selected_all scopes x (z ∷ map (selected scopes) rest)) (ap (selected scopes) is ∙ indexes-judged scopes line indexes)

  pub field-acts : (s : Selector) (line : ℕ) (name : List ℕ) → s ≡ selector.Field line name → ActsAs s (by_field name)
  field-acts s line name is x rest = ap (λ z. selected_all scopes x (z ∷ map (selected scopes) rest)) (ap (selected scopes) is ∙ field-judged scopes line name)

  -- so all components do
  abbrev Act : Selector → Type 0
  Act s = (act : Judged Typed → Judged Typed) × ActsAs s act × KeepsFaults act

  acts : (s : Selector) → IndexNode s ⊎ FieldNode s → Act s
  acts s (inl i) = (by_indexes i.1, index-acts s i.0 i.1 i.2, λ n x h. indexed_all-first n x (map (judged scopes) i.1) h)
  acts s (inr f) = (by_field f.1, field-acts s f.0 f.1 f.2, λ n x h. when_accepted-part n (designated scopes f.1) x h)

  -- a rule that fails before them
  pub selected_all-first : (n : ℕ) (x : Judged Typed) (ss : List Selector) → AreComponents ss → breaks n x ≡ true → breaks n (selected_all scopes x (map (selected scopes) ss)) ≡ true
  selected_all-first n x [] all h = h
  selected_all-first n x (s ∷ ss) all h =
      let a = acts s (component-node s (first_component s ss all)) in
      rw (a.1 x ss) (selected_all-first n (a.0 x) ss (other_components s ss all) (a.2 n x h))

  -- ---- the turn of a loop over selectors

  module _ (xs : List Selector) (i : ℕ) (x : Selector) (within : i < length xs) (is : x ≡ get_or xs i x) where
    -- the selectors that are left are components
    left-components : AreComponents (drop i xs) → AreComponents (x ∷ drop (i + 1) xs)
    left-components h = subst AreComponents (left-cons xs i x within is) h

    pub next-component : AreComponents (drop i xs) → IsComponent x
    next-component h = first_component x (drop (i + 1) xs) (left-components h)

    pub rest-components : AreComponents (drop i xs) → AreComponents (drop (i + 1) xs)
    rest-components h = other_components x (drop (i + 1) xs) (left-components h)

    -- and built
    lines-left : lines_in (map selector_belonging (drop i xs)) ≡ option_or (selector_belonging x).1 (lines_in (map selector_belonging (drop (i + 1) xs)))
    lines-left = ap (λ ys. lines_in (map selector_belonging ys)) (left-cons xs i x within is)

    next-lines : lines_in (map selector_belonging (drop i xs)) ≡ None → (selector_belonging x).1 ≡ None
    next-lines h = or-first (selector_belonging x).1 (lines_in (map selector_belonging (drop (i + 1) xs))) (sym lines-left ∙ h)

    pub rest-lines : lines_in (map selector_belonging (drop i xs)) ≡ None → lines_in (map selector_belonging (drop (i + 1) xs)) ≡ None
    rest-lines h = or-second (selector_belonging x).1 (lines_in (map selector_belonging (drop (i + 1) xs))) (sym lines-left ∙ h)

    -- so are the indexes of the next one
    pub node-lines : (line : ℕ) (indexes : List Expression) → x ≡ selector.Index line indexes → lines_in (map selector_belonging (drop i xs)) ≡ None → first_in (map expression_unbuilt indexes) ≡ None
    node-lines line indexes node h = ap (λ p. p.1) (sym (ap selector_belonging node ∙ index_belonging line indexes)) ∙ next-lines h

    module _ (act : Judged Typed → Judged Typed) (does : ActsAs x act) where
      -- the next one, after what it acts on
      turn : (a : Judged Typed) → selected_all scopes a (map (selected scopes) (drop i xs)) ≡ selected_all scopes (act a) (map (selected scopes) (drop (i + 1) xs))
      turn a = ap (λ ys. selected_all scopes a (map (selected scopes) ys)) (left-cons xs i x within is) ∙ does a (drop (i + 1) xs)

      -- which is accepted
      pub selector-turned : (a c : Typed) → act (Accepts a) ≡ Accepts c → selected_all scopes (Accepts c) (map (selected scopes) (drop (i + 1) xs)) ≡ selected_all scopes (Accepts a) (map (selected scopes) (drop i xs))
      selector-turned a c e = sym (turn (Accepts a) ∙ ap (λ z. selected_all scopes z (map (selected scopes) (drop (i + 1) xs))) e)

      -- or in which a rule fails
      pub selector-fails : (n : ℕ) (a : Typed) → AreComponents (drop i xs) → breaks n (act (Accepts a)) ≡ true → breaks n (selected_all scopes (Accepts a) (map (selected scopes) (drop i xs))) ≡ true
      selector-fails n a all h = rw (turn (Accepts a)) (selected_all-first n (act (Accepts a)) (drop (i + 1) xs) (rest-components all) h)

  -- ---- the turn of a loop over indexes

  module _ (xs : List Expression) (i : ℕ) (x : Expression) (within : i < length xs) (is : x ≡ get_or xs i x) (a : Typed) where
    -- the next index
    index-left : indexed_all scopes (Accepts a) (map (judged scopes) (drop i xs)) ≡ indexed_all scopes (both (indexed scopes) (Accepts a) (judged scopes x)) (map (judged scopes) (drop (i + 1) xs))
    index-left = ap (λ ys. indexed_all scopes (Accepts a) (map (judged scopes) ys)) (left-cons xs i x within is)

    -- which is accepted
    pub index-turned : (b c : Typed) → judged scopes x ≡ Accepts b → indexed scopes a b ≡ Accepts c → indexed_all scopes (Accepts c) (map (judged scopes) (drop (i + 1) xs)) ≡ indexed_all scopes (Accepts a) (map (judged scopes) (drop i xs))
    index-turned b c operand accepted = sym (index-left ∙ rw (operand, accepted) refl)

    -- a rule that fails in an index
    pub index-fails : (n : ℕ) → breaks n (judged scopes x) ≡ true → breaks n (indexed_all scopes (Accepts a) (map (judged scopes) (drop i xs))) ≡ true
    index-fails n h = rw index-left (indexed_all-first n (both (indexed scopes) (Accepts a) (judged scopes x)) (map (judged scopes) (drop (i + 1) xs)) (both-second n (indexed scopes) (Accepts a) (judged scopes x) h))

    -- a rule of indexing that fails
    pub indexing-fails : (n : ℕ) (b : Typed) → judged scopes x ≡ Accepts b → breaks n (indexed scopes a b) ≡ true → breaks n (indexed_all scopes (Accepts a) (map (judged scopes) (drop i xs))) ≡ true
    indexing-fails n b operand h = rw (index-left, operand) (indexed_all-first n (indexed scopes a b) (map (judged scopes) (drop (i + 1) xs)) h)

-- ---- accesses

-- the line of the first node of an access that is not built
placed-is : (a : Access) → placed_access a ≡ ((out-Access a).line, at_node (built_access (out-Access a).name (map form_told (map selector_belonging (out-Access a).selectors))) (out-Access a).line (lines_in (map selector_belonging (out-Access a).selectors)))
placed-is a = fold_out-Access Found Found Found Selecting Placed Belonging Found Belonging Found Found Belonging Found Found Found built.at_component_value built.at_element built.at_factor built.at_selector built.at_access built.at_addend built.at_argument built.at_comparison built.at_expression built.at_label built.at_multiplier built.at_simple built.at_term built.at_values a

unbuilt-is : (a : Access) → access_unbuilt a ≡ at_node (built_access (out-Access a).name (map form_told (map selector_belonging (out-Access a).selectors))) (out-Access a).line (lines_in (map selector_belonging (out-Access a).selectors))
unbuilt-is a = ap (λ p. p.1) (placed-is a)

-- by the layers of selectors: without arguments a selector is no call
call-layer : (l : Selector-F ComponentValue Element Factor Selector Access Addend Argument Comparison Expression Label Multiplier Simple Term Values) → arguments_in l ≡ None → is_call (form_told (selector_belonging (roll-Selector l))) ≡ false
call-layer (Selector-F.Index line indexes) h = rw fold-roll-Selector refl
call-layer (Selector-F.Field line name) h = rw fold-roll-Selector refl
call-layer (Selector-F.Dereference line) h = rw fold-roll-Selector refl
call-layer (Selector-F.Arguments line arguments) h = cc

-- what gives nothing of a selector has nothing of it
none-first : {A : Type 0} (more : List Selector) (o : Option A) → when_some {B = A × List Selector} o (λ a. Some (a, more)) ≡ None → o ≡ None
none-first more None h = refl
none-first more (Some a) h = cc

-- where no arguments come first, all selectors stand behind no call
no_call : (ss : List Selector) → arguments_first ss ≡ None → behind_call (map form_told (map selector_belonging ss)) ≡ map form_told (map selector_belonging ss)
no_call [] h = refl
no_call (s ∷ more) h =
    let e : is_call (form_told (selector_belonging s)) ≡ false = ap (λ z. is_call (form_told (selector_belonging z))) (sym (roll-out-Selector s)) ∙ call-layer (out-Selector s) (none-first more (arguments_in (out-Selector s)) h) in
    ap (λ b. if b then map form_told (map selector_belonging more) else form_told (selector_belonging s) ∷ map form_told (map selector_belonging more)) e

module _ (a : Access) (built_is : access_unbuilt a ≡ None) where
  -- the selectors of an access that is built are
  pub access-lines : lines_in (map selector_belonging (out-Access a).selectors) ≡ None
  access-lines = at_node-inner _ _ _ (sym (unbuilt-is a) ∙ built_is)

  -- and they are of components, behind a call or alone
  selectors-behind : list_all is_component (behind_call (map form_told (map selector_belonging (out-Access a).selectors))) ≡ true
  selectors-behind = and_first (list_all is_component (behind_call (map form_told (map selector_belonging (out-Access a).selectors)))) (not (is_later (out-Access a).name)) (at_node-built _ _ _ (sym (unbuilt-is a) ∙ built_is))

  pub access-components : arguments_first (out-Access a).selectors ≡ None → AreComponents (out-Access a).selectors
  access-components none = subst (λ forms. list_all is_component forms ≡ true) (no_call (out-Access a).selectors none) selectors-behind

-- ---- arguments that come first

-- the first selector and the others
abbrev pub FirstArguments : List Selector → List Selector → List Argument → Type 0
FirstArguments ss more arguments = (s : Selector) × (line : ℕ) × (s ≡ selector.Arguments line arguments) × (ss ≡ s ∷ more)

arguments_layer : (l : Selector-F ComponentValue Element Factor Selector Access Addend Argument Comparison Expression Label Multiplier Simple Term Values) (rest more : List Selector) (arguments : List Argument)
    → when_some {B = List Argument × List Selector} (arguments_in l) (λ xs. Some (xs, rest)) ≡ Some (arguments, more) → FirstArguments (roll-Selector l ∷ rest) more arguments
arguments_layer (Selector-F.Arguments line xs) rest more arguments h =
    let both : ◌≡◌ {A = List Argument × List Selector} (xs, rest) (arguments, more) = cc in
    (roll-Selector (Selector-F.Arguments line xs), line, selector.rolls-Arguments line xs ∙ ap (λ z. selector.Arguments line z.0) both, ap (λ z. roll-Selector (Selector-F.Arguments line xs) ∷ z.1) both)
arguments_layer (Selector-F.Field line name) rest more arguments h = cc
arguments_layer (Selector-F.Index line indexes) rest more arguments h = cc
arguments_layer (Selector-F.Dereference line) rest more arguments h = cc

pub arguments-split : (ss more : List Selector) (arguments : List Argument) → arguments_first ss ≡ Some (arguments, more) → FirstArguments ss more arguments
arguments-split [] more arguments h = cc
arguments-split (s ∷ rest) more arguments h = subst (λ z. FirstArguments (z ∷ rest) more arguments) (roll-out-Selector s) (arguments_layer (out-Selector s) rest more arguments h)

-- what such a selector is told to its access
arguments_belonging : (at : ℕ) (more : List Argument) → selector_belonging (selector.Arguments at more) ≡ (built.Parentheses, first_in (map argument_unbuilt more))
arguments_belonging at more = ap selector_belonging (sym (selector.rolls-Arguments at more)) ∙ simp fold-roll-Selector

module _ (a : Access) (built_is : access_unbuilt a ≡ None) (arguments : List Argument) (more : List Selector) (split : arguments_first (out-Access a).selectors ≡ Some (arguments, more)) where
  call_split : FirstArguments (out-Access a).selectors more arguments
  call_split = arguments-split (out-Access a).selectors more arguments split

  told : selector_belonging call_split.0 ≡ (built.Parentheses, first_in (map argument_unbuilt arguments))
  told = ap selector_belonging call_split.2 ∙ arguments_belonging call_split.1 arguments

  call_lines : option_or (selector_belonging call_split.0).1 (lines_in (map selector_belonging more)) ≡ None
  call_lines = subst (λ ss. lines_in (map selector_belonging ss) ≡ None) call_split.3 (access-lines a built_is)

  -- the selectors behind a call are components
  pub call-components : AreComponents more
  call-components =
      let behind : list_all is_component (behind_call (map form_told (map selector_belonging (call_split.0 ∷ more)))) ≡ true =
      subst (λ ss. list_all is_component (behind_call (map form_told (map selector_belonging ss))) ≡ true) call_split.3 (selectors-behind a built_is) in
      subst (λ b. list_all is_component (if b then map form_told (map selector_belonging more) else form_told (selector_belonging call_split.0) ∷ map form_told (map selector_belonging more)) ≡ true)
      (ap (λ p. is_call (form_told p)) told) behind

  -- they are built
  pub call-lines : lines_in (map selector_belonging more) ≡ None
  call-lines = or-second (selector_belonging call_split.0).1 (lines_in (map selector_belonging more)) call_lines

  -- and so are the arguments
  pub call-built : first_in (map argument_unbuilt arguments) ≡ None
  call-built = ap (λ p. p.1) (sym told) ∙ or-first (selector_belonging call_split.0).1 (lines_in (map selector_belonging more)) call_lines

  module _ (scopes : List Region) where
    -- what is called
    abbrev pub called : Judged Typed
    called = call_named (depth_in scopes) (out-Access a).name (meant scopes (out-Access a).name) (map (given scopes) arguments)

    pub access-call : name_judged scopes a ≡ selected_all scopes called (map (selected scopes) more)
    access-call =
        name_judged-is scopes a ∙
        (ap (λ zs. access_judged scopes (out-Access a).name (map (selected scopes) zs)) call_split.3 ∙ ap (λ z. access_judged scopes (out-Access a).name (z ∷ map (selected scopes) more)) (ap (selected scopes) call_split.2 ∙ arguments-judged scopes call_split.1 arguments))

    -- a rule that fails in the call
    pub access-call-fails : (n : ℕ) → breaks n called ≡ true → breaks n (name_judged scopes a) ≡ true
    access-call-fails n h = rw access-call (selected_all-first scopes n called more call-components h)

-- ---- a field that comes first

-- the first selector and the others
abbrev pub FirstField : List Selector → List Selector → List ℕ → Type 0
FirstField ss more field = (s : Selector) × (line : ℕ) × (s ≡ selector.Field line field) × (ss ≡ s ∷ more)

split_layer : (l : Selector-F ComponentValue Element Factor Selector Access Addend Argument Comparison Expression Label Multiplier Simple Term Values) (rest more : List Selector) (field : List ℕ)
    → when_some {B = List ℕ × List Selector} (field_in l) (λ f. Some (f, rest)) ≡ Some (field, more) → FirstField (roll-Selector l ∷ rest) more field
split_layer (Selector-F.Field line name) rest more field h =
    let both : ◌≡◌ {A = List ℕ × List Selector} (name, rest) (field, more) = cc in
    (roll-Selector (Selector-F.Field line name), line, selector.rolls-Field line name ∙ ap (λ z. selector.Field line z.0) both, ap (λ z. roll-Selector (Selector-F.Field line name) ∷ z.1) both)
split_layer (Selector-F.Index line indexes) rest more field h = cc
split_layer (Selector-F.Dereference line) rest more field h = cc
split_layer (Selector-F.Arguments line arguments) rest more field h = cc

pub field-split : (ss more : List Selector) (field : List ℕ) → field_first ss ≡ Some (field, more) → FirstField ss more field
field-split [] more field h = cc
field-split (s ∷ rest) more field h = subst (λ z. FirstField (z ∷ rest) more field) (roll-out-Selector s) (split_layer (out-Selector s) rest more field h)

-- where there is none, a component comes by an index
index-layer : (l : Selector-F ComponentValue Element Factor Selector Access Addend Argument Comparison Expression Label Multiplier Simple Term Values) → field_in l ≡ None → IsComponent (roll-Selector l) → IndexNode (roll-Selector l)
index-layer (Selector-F.Index line indexes) none h = (line, indexes, selector.rolls-Index line indexes)
index-layer (Selector-F.Field line name) none h = cc
index-layer (Selector-F.Dereference line) none h = let e = rw fold-roll-Selector at h in cc
index-layer (Selector-F.Arguments line arguments) none h = let e = rw fold-roll-Selector at h in cc

index-node : (s : Selector) (more : List Selector) → field_first (s ∷ more) ≡ None → IsComponent s → IndexNode s
index-node s more none h = subst IndexNode (roll-out-Selector s) (index-layer (out-Selector s) (none-first more (field_in (out-Selector s)) none) (subst IsComponent (sym (roll-out-Selector s)) h))

-- ---- the name of an access with what follows it

module _ (scopes : List Region) (name : List ℕ) where
  abbrev pub alone : Judged Typed
  alone = value_named (depth_in scopes) name (meant scopes name)

  -- a field comes first
  pub field-first : (ss more : List Selector) (field : List ℕ) → field_first ss ≡ Some (field, more) → access_judged scopes name (map (selected scopes) ss) ≡ selected_all scopes (qualified_value scopes name field) (map (selected scopes) more)
  field-first ss more field h =
      let p = field-split ss more field h in
      ap (λ zs. access_judged scopes name (map (selected scopes) zs)) p.3 ∙ ap (λ z. access_judged scopes name (z ∷ map (selected scopes) more)) (ap (selected scopes) p.2 ∙ field-judged scopes p.1 field)

  -- none does
  pub no-field-first : (ss : List Selector) → AreComponents ss → field_first ss ≡ None → access_judged scopes name (map (selected scopes) ss) ≡ selected_all scopes alone (map (selected scopes) ss)
  no-field-first [] all none = refl
  no-field-first (s ∷ more) all none =
      let i = index-node s more none (first_component s more all) in
      let e : selected scopes s ≡ Indexes (map (judged scopes) i.1) = ap (selected scopes) i.2 ∙ indexes-judged scopes i.0 i.1 in
      ap (λ z. access_judged scopes name (z ∷ map (selected scopes) more)) e ∙ sym (ap (λ z. selected_all scopes alone (z ∷ map (selected scopes) more)) e)

module _ (a : Access) (built_is : access_unbuilt a ≡ None) (none : arguments_first (out-Access a).selectors ≡ None) (scopes : List Region) where
  abbrev Selectors : List Selector
  Selectors = (out-Access a).selectors

  module _ (field : List ℕ) (more : List Selector) (split : field_first Selectors ≡ Some (field, more)) where
    both_split : FirstField Selectors more field
    both_split = field-split Selectors more field split

    -- the selectors behind the first field
    pub more-components : AreComponents more
    more-components = other_components both_split.0 more (subst AreComponents both_split.3 (access-components a built_is none))

    pub more-lines : lines_in (map selector_belonging more) ≡ None
    more-lines = or-second (selector_belonging both_split.0).1 (lines_in (map selector_belonging more)) (subst (λ ss. lines_in (map selector_belonging ss) ≡ None) both_split.3 (access-lines a built_is))

    pub access-field : name_judged scopes a ≡ selected_all scopes (qualified_value scopes (out-Access a).name field) (map (selected scopes) more)
    access-field = name_judged-is scopes a ∙ field-first scopes (out-Access a).name Selectors more field split

    -- a rule that fails in what is named
    pub access-field-fails : (n : ℕ) → breaks n (qualified_value scopes (out-Access a).name field) ≡ true → breaks n (name_judged scopes a) ≡ true
    access-field-fails n h = rw access-field (selected_all-first scopes n (qualified_value scopes (out-Access a).name field) more more-components h)

  module _ (plain : field_first Selectors ≡ None) where
    pub access-alone : name_judged scopes a ≡ selected_all scopes (alone scopes (out-Access a).name) (map (selected scopes) Selectors)
    access-alone = name_judged-is scopes a ∙ no-field-first scopes (out-Access a).name Selectors (access-components a built_is none) plain

    pub access-alone-fails : (n : ℕ) → breaks n (alone scopes (out-Access a).name) ≡ true → breaks n (name_judged scopes a) ≡ true
    access-alone-fails n h = rw access-alone (selected_all-first scopes n (alone scopes (out-Access a).name) Selectors (access-components a built_is none) h)
