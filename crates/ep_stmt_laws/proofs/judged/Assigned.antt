-- What is assigned to is a tag exactly where that is said of its access before it is judged.
use Rattle.std.proofs.Common.{◌≡◌, ℕ, ◌-◌, Bool, true, false, List, [], ◌∷◌, Option, Some, None, refl, sym, subst}
use Rattle.std.specs.Prelude.{is_some, if◌then◌else◌}
use Rattle.std.specs.Option.{option_map, option_map_or}
use Rattle.ep_tree.specs.declared.expression.Access.{Access, out-Access}
use Rattle.ep_tree.specs.declared.expression.ComponentValue.{ComponentValue}
use Rattle.ep_tree.specs.declared.expression.Selector.{Selector}
use Rattle.ep_typed.specs.Auxiliaries.{first_for, first_for_in}
use Rattle.ep_typed.specs.Trees as tree
use Rattle.ep_typed.specs.Trees.{Expr, Place, Stmt}
use Rattle.ep_scope.specs.Scopes.{OpenField, Meant, Declares, Standard, Requires, FieldOf, Nothing, depth_in, meant}
use Rattle.ep_scope.specs.declared.kind.Kind.{Kind}
use Rattle.ep_scope.specs.declared.structure.TagType.{TagType}
use Rattle.ep_scope.specs.declared.thing.Declaration.{Declaration}
use Rattle.ep_scope.specs.declared.thing.Declaration.TheVariants as declaration
use Rattle.ep_scope.specs.declared.thing.Declared.{Declared}
use Rattle.ep_rules.specs.declared.access.Access as accessing
use Rattle.ep_rules.specs.declared.access.Access.TheVariants as access
use Rattle.ep_rules.specs.Arguments.{given_to, own_place, place_read, tagged_read, unless_protected}
use Rattle.ep_check_expr.specs.Expressions.{name_judged}
use Rattle.ep_rules.specs.Judgements.{Accepts, both, when_accepted}
use Rattle.ep_rules.specs.Operators.{map_both}
use Rattle.ep_check_expr.specs.Shapes.{field_first}
use Rattle.ep_expr_laws.proofs.public.Passing.{IfForm}
use Rattle.ep_stmt_rules.specs.Statements.{At, Context, FunctionResult, Locals, Receiver, TagOf, Target, assigned, assignment, declared_target, field_target_of, function_target, has_result, place_named, tag_target, target_judged, value_judged, target_of_selectors, variable_target}
use Rattle.ep_stmt_rules.specs.Tags as tags
use Rattle.ep_stmt_rules.specs.declared.tags.Reached.{Reached}
use Rattle.ep_stmt_rules.proofs.public.judged.Fits.{Any, Fits, fits_any, fits_both, fits_then}
use Rattle.ep_stmt_laws.proofs.judged.Reached.{IsReached, IsVariable, access_reached}

-- it is a tag, or none
abbrev IsTagIf : Bool → Receiver → Type 0
IsTagIf b (At place) = b ≡ false
IsTagIf b (TagOf whole tag) = b ≡ true

-- where it is built
abbrev Targets : Bool → Target → Type 0
Targets b t = IfForm (IsTagIf b) t.receiver

abbrev said : Option Reached → Bool
said r = option_map_or (λ (t : Reached). t.is_tag) r false

at_place : (place : Option Place) → IfForm (IsTagIf false) (option_map At place)
at_place None = tt
at_place (Some place) = refl

at_tag : (tag : TagType) (whole : Option Place) → IfForm (IsTagIf true) (option_map (λ p. TagOf p tag) whole)
at_tag tag None = tt
at_tag tag (Some whole) = refl

-- ---- by what an access denotes

variable_targets : (b : Bool) (a : accessing.Access) (form : Option Expr) (k : Kind) → IsVariable b a → Fits (Targets b) (variable_target a form k)
variable_targets b (access.Variable of guarded) form k h =
    subst (λ x. Fits (Targets x) (variable_target (access.Variable of guarded) form k)) (sym h)
    (fits_then Any (Targets false) (λ done. Accepts (record { receiver = option_map At (place_read form); kind = k })) (unless_protected guarded) (fits_any (unless_protected guarded)) (λ d p. at_place (place_read form)))
variable_targets b (access.Tag of guarded tag) form k h =
    subst (λ x. Fits (Targets x) (variable_target (access.Tag of guarded tag) form k)) (sym h)
    (fits_then Any (Targets true) (λ done. Accepts (tag_target tag (tagged_read form))) (unless_protected guarded) (fits_any (unless_protected guarded)) (λ d p. at_tag tag (tagged_read form)))
variable_targets b access.File form k h = absurd h
variable_targets b access.Constant form k h = absurd h
variable_targets b access.Value form k h = absurd h

-- what is no variable has no place
other_targets : (a : accessing.Access) (form : Option Expr) (k : Kind) (depth : ℕ) → IsReached None (record { form = form; kind = k; depth = depth; access = a }) → Fits (Targets false) (variable_target a form k)
other_targets (access.Variable of guarded) form k depth h = absurd h
other_targets (access.Tag of guarded tag) form k depth h = absurd h
other_targets access.File form k depth h = tt
other_targets access.Constant form k depth h = tt
other_targets access.Value form k depth h = tt

-- ---- by what a name means

module _ (depth : ℕ) (unit : List ℕ) (results : List FunctionResult) where
  function_targets : (d : Declared) (rs : List FunctionResult) → Fits (Targets false) (function_target depth unit d rs)
  function_targets d [] = tt
  function_targets d (r ∷ rs) = go (has_result unit d r) (function_targets d rs)
    where
      go : (own : Bool) → Fits (Targets false) (function_target depth unit d rs) → Fits (Targets false) (if own then Accepts (record { receiver = Some (At (tree.Own (depth - r.level) r.variable)); kind = r.kind }) else function_target depth unit d rs)
      go true others = refl
      go false others = others

  declared_targets : (d : Declared) (what : Declaration) → Fits (Targets (said (tags.declared_reached what))) (declared_target depth unit results d what)
  declared_targets d (declaration.Variable of k guarded) =
      fits_then Any (Targets false) (λ done. Accepts (record { receiver = Some (At (tree.Variable d.unit d.number)); kind = k })) (unless_protected guarded) (fits_any (unless_protected guarded)) (λ a p. refl)
  declared_targets d (declaration.Own of k guarded) =
      fits_then Any (Targets false) (λ done. Accepts (record { receiver = Some (At (own_place depth d)); kind = k })) (unless_protected guarded) (fits_any (unless_protected guarded)) (λ a p. refl)
  declared_targets d (declaration.Constant k v deep) = tt
  declared_targets d (declaration.«Type» of h nodes) = tt
  declared_targets d (declaration.Procedure parameters) = tt
  declared_targets d (declaration.Function parameters of k) = function_targets d results

  field_targets : (f : OpenField) (tag : Option TagType) → Targets (is_some tag) (field_target_of f tag)
  field_targets f None = refl
  field_targets f (Some tag) = refl

  name_targets : (name : List ℕ) (m : Meant) → Fits (Targets (said (tags.name_reached m))) (place_named depth unit results name m)
  name_targets name (Declares d) = declared_targets d d.what
  name_targets name (Standard f) = refl
  name_targets name (Requires r) = tt
  name_targets name (FieldOf f) =
      fits_then Any (Targets (is_some f.field.tag)) (λ done. Accepts (field_target_of f f.field.tag)) (unless_protected f.guarded) (fits_any (unless_protected f.guarded)) (λ a p. field_targets f f.field.tag)
  name_targets name Nothing = tt

module _ (c : Context) (a : Access) where
  denoted_targets : (r : Option Reached) → Fits (IsReached r) (name_judged c.scopes a) → Fits (Targets (said r)) (when_accepted (λ t. variable_target t.access t.form t.kind) (name_judged c.scopes a))
  denoted_targets None h =
      fits_then (IsReached None) (Targets false) (λ t. variable_target t.access t.form t.kind) (name_judged c.scopes a) h (λ t p. other_targets t.access t.form t.kind t.depth p)
  denoted_targets (Some r) h =
      fits_then (IsReached (Some r)) (Targets r.is_tag) (λ t. variable_target t.access t.form t.kind) (name_judged c.scopes a) h (λ t p. variable_targets r.is_tag t.access t.form t.kind p.1)

  selected_targets : (ss : List Selector) → (out-Access a).selectors ≡ ss → Fits (Targets (tags.is_tag c.scopes a)) (target_of_selectors c a ss)
  selected_targets [] e =
      let name = (out-Access a).name in
      subst (λ zs. Fits (Targets (said (tags.begun c.scopes name zs (field_first zs)))) (place_named (depth_in c.scopes) c.unit c.results name (meant c.scopes name))) (sym e) (name_targets (depth_in c.scopes) c.unit c.results name (meant c.scopes name))
  selected_targets (s ∷ more) e = denoted_targets (tags.access_reached c.scopes a) (access_reached c.scopes a)

  access_targets : Fits (Targets (tags.is_tag c.scopes a)) (target_judged c a)
  access_targets = selected_targets (out-Access a).selectors refl

-- ---- assignments

-- it is an assignment to a tag, or another one
abbrev pub AssignsTag : Bool → Stmt → Type 0
AssignsTag b s = (is_some (first_for s) ≡ b) × (is_some (first_for_in s) ≡ false)

placed_assigns : (locals : Locals) (line : ℕ) (b : Bool) (r : Option Receiver) (x : Option Expr) → IfForm (IsTagIf b) r → IfForm (AssignsTag b) (map_both (assignment locals line) r x)
placed_assigns locals line b None x h = tt
placed_assigns locals line b (Some r) None h = tt
placed_assigns locals line b (Some (At place)) (Some x) h = (sym h, refl)
placed_assigns locals line b (Some (TagOf whole tag)) (Some x) h = (sym h, refl)

-- an assignment is one to a tag exactly where that is said of its access
pub assignment_assigns : (c : Context) (line : ℕ) (a : Access) (v : ComponentValue) → Fits (IfForm (AssignsTag (tags.is_tag c.scopes a))) (both (assigned c.locals line) (target_judged c a) (value_judged c a v))
assignment_assigns c line a v =
    let b : Bool = tags.is_tag c.scopes a in
    fits_both (Targets b) Any (IfForm (AssignsTag b)) (assigned c.locals line) (target_judged c a) (value_judged c a v) (access_targets c a) (fits_any (value_judged c a v))
    (λ t x p q. fits_then Any (IfForm (AssignsTag b)) (λ form. Accepts (map_both (assignment c.locals line) t.receiver form)) (given_to (λ form. form) t.kind x.kind x.form) (fits_any (given_to (λ form. form) t.kind x.kind x.form)) (λ form r. placed_assigns c.locals line b t.receiver form p))
