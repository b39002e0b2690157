-- What a denoter stands for, step by step (specs/Definitions.antt).
use Rattle.std.proofs.Common.{◌≡◌, ◌∙◌, ℕ, suc, ◌<◌, ◌≤◌, true, false, ltb, List, map, length, get_or, slice_get, Option, Some, None, refl, sym, ap, subst, rules}
use Rattle.std.proofs.lemmas.Option.{slice_get_past, slice_get_read}
use Rattle.ep_typed.specs.Denoters.{definition_of, found_of}
use Rattle.ep_typed.specs.Trees as tree
use Rattle.ep_typed.specs.Viewed.{bound_of, denoter_of}
use Rattle.ep_typed.specs.declared.denoter.Bound.{Bound}
use Rattle.ep_typed.specs.declared.denoter.Denoter.{Denoter, out-Denoter, roll-Denoter, roll-out-Denoter}
use Rattle.ep_typed.specs.declared.denoter.Denoter.TheOpen as layer
use Rattle.ep_typed.specs.declared.denoter.Denoter.TheOpen.{Denoter-F}
use Rattle.ep_typed.specs.declared.denoter.Denoter.TheVariants as written
use Rattle.ep_typed.specs.declared.denoter.FieldPart.{FieldPart}
use Rattle.ep_typed.specs.declared.denoter.RecordField.{RecordField}
use Rattle.ep_typed.specs.declared.denoter.Selector.{Selector}
use Rattle.ep_typed.specs.declared.denoter.Variant.{Variant}
use Rattle.ep_typed.specs.declared.denoter.VariantPart.{VariantPart}
use Rattle.ep_typed.specs.declared.unit.UnitType.{UnitType}
use Rattle.ep_typed.proofs.public.Forms.{array_is, enumeration_is, initial_is, named_is, record_is, required_is, set_is, subrange_is}
use Rattle.ep_unit_rules.specs.Definitions.{followed_step, followed_within, without_states}

module _ (types : List UnitType) where
  -- what is no name stands for itself
  abbrev Itself : (tree.Denoter → Option tree.Denoter) → tree.Denoter → Type 0
  Itself find d = followed_step types find d ≡ Some d

  layer_itself : (find : tree.Denoter → Option tree.Denoter) (x : Denoter-F Denoter Selector FieldPart RecordField Variant VariantPart) → ((number : ℕ) (tuple : List Bound) → roll-Denoter x ≡ written.Named number tuple → ⊥) → Itself find (denoter_of (roll-Denoter x))
  layer_itself find (layer.Required r) other = subst (Itself find) (sym (ap denoter_of (written.rolls-Required r) ∙ required_is r)) refl
  layer_itself find (layer.Named number tuple) other = absurd (other number tuple (written.rolls-Named number tuple))
  layer_itself find (layer.Subrange host low high) other = subst (Itself find) (sym (ap denoter_of (written.rolls-Subrange host low high) ∙ subrange_is host low high)) refl
  layer_itself find (layer.Enumeration names) other = subst (Itself find) (sym (ap denoter_of (written.rolls-Enumeration names) ∙ enumeration_is names)) refl
  layer_itself find (layer.Array index component) other = subst (Itself find) (sym (ap denoter_of (written.rolls-Array index component) ∙ array_is index component)) refl
  layer_itself find (layer.Record part) other = subst (Itself find) (sym (ap denoter_of (written.rolls-Record part) ∙ record_is part)) refl
  layer_itself find (layer.Set base) other = subst (Itself find) (sym (ap denoter_of (written.rolls-Set base) ∙ set_is base)) refl
  layer_itself find (layer.Initial of value) other = subst (Itself find) (sym (ap denoter_of (written.rolls-Initial of value) ∙ initial_is of value)) refl

  itself : (find : tree.Denoter → Option tree.Denoter) (d : Denoter) → ((number : ℕ) (tuple : List Bound) → d ≡ written.Named number tuple → ⊥) → followed_step types find (denoter_of d) ≡ Some (denoter_of d)
  itself find d other =
      subst (λ z. Itself find (denoter_of z)) (roll-out-Denoter d) (layer_itself find (out-Denoter d) (λ number tuple is. other number tuple (sym (roll-out-Denoter d) ∙ is)))

  -- at each step the denoter without initial states decides
  step_of : (n k : ℕ) (d f : tree.Denoter) (o : Option tree.Denoter) → n ≡ suc k → f ≡ without_states d → followed_within types n d ≡ o → followed_step types (followed_within types k) f ≡ o
  step_of n k d f o e g h = subst (λ x. followed_step types (followed_within types k) x ≡ o) (sym g) (subst (λ m. followed_within types m d ≡ o) e h)

  -- where it is no name, it is what the denoter stands for
  pub found_itself : (n k : ℕ) (d : tree.Denoter) (f : Denoter) (o : Option tree.Denoter) → n ≡ suc k → denoter_of f ≡ without_states d → followed_within types n d ≡ o → ((number : ℕ) (tuple : List Bound) → f ≡ written.Named number tuple → ⊥) → Some (denoter_of f) ≡ o
  found_itself n k d f o e g h other = sym (itself (followed_within types k) f other) ∙ step_of n k d (denoter_of f) o e g h

  -- a name, by what the list has there
  named_step : (n k : ℕ) (d : tree.Denoter) (f : Denoter) (o : Option tree.Denoter) (number : ℕ) (tuple : List Bound) → n ≡ suc k → denoter_of f ≡ without_states d → followed_within types n d ≡ o → f ≡ written.Named number tuple
      → followed_step types (followed_within types k) (tree.Named number (map bound_of tuple)) ≡ o
  named_step n k d f o number tuple e g h is = step_of n k d (tree.Named number (map bound_of tuple)) o e (sym (ap denoter_of is ∙ named_is number tuple) ∙ g) h

  -- a name of nothing
  pub named_none : (n k : ℕ) (d : tree.Denoter) (f : Denoter) (o : Option tree.Denoter) (number : ℕ) (tuple : List Bound) → n ≡ suc k → denoter_of f ≡ without_states d → followed_within types n d ≡ o → f ≡ written.Named number tuple
      → false ≡ ltb number (length types) → None ≡ o
  named_none n k d f o number tuple e g h is past =
      let behind : length types ≤ number = search rules in
      sym (ap (found_of (followed_within types k)) (slice_get_past types number behind)) ∙ named_step n k d f o number tuple e g h is

  -- a name of a definition, which is looked at next
  pub named_next : (n k : ℕ) (d : tree.Denoter) (f : Denoter) (o : Option tree.Denoter) (number : ℕ) (tuple : List Bound) (t : UnitType) → n ≡ suc k → denoter_of f ≡ without_states d → followed_within types n d ≡ o → f ≡ written.Named number tuple
      → true ≡ ltb number (length types) → t ≡ get_or types number t → followed_within types k (definition_of t) ≡ o
  named_next n k d f o number tuple t e g h is less there =
      let within : number < length types = search rules in
      sym (ap (found_of (followed_within types k)) (slice_get_read types (length types) number t refl within there)) ∙ named_step n k d f o number tuple e g h is
