-- What an open record changes of the scopes in view: the meaning of names alone.
use Rattle.std.proofs.Common.{◌≡◌, ◌∙◌, ℕ, List, [], ◌∷◌, Option, Some, None, refl, ap, sym}
use Rattle.ep_scope.specs.Required.{look_up, required_of}
use Rattle.ep_scope.specs.Scopes.{Meant, Nothing, OpenField, OpenRecord, Region, as_required, depth_in, field_among, field_of, field_or, look_up_in, meant, meant_in, or_field, or_outside, structure_in, unless_field, unless_hidden, within, within_all}

-- the routines around are the same
pub depth_within : (r : OpenRecord) (scopes : List Region) → depth_in (within r scopes) ≡ depth_in scopes
depth_within r [] = refl
depth_within r (g ∷ gs) = refl

pub depth_within_all : (rs : List OpenRecord) (scopes : List Region) → depth_in (within_all rs scopes) ≡ depth_in scopes
depth_within_all [] scopes = refl
depth_within_all (r ∷ rs) scopes = depth_within r (within_all rs scopes) ∙ depth_within_all rs scopes

-- so are the structured types
structure_within : (r : OpenRecord) (scopes : List Region) (number : ℕ) → structure_in (within r scopes) number ≡ structure_in scopes number
structure_within r [] number = refl
structure_within r (g ∷ gs) number = refl

pub structure_within_all : (rs : List OpenRecord) (scopes : List Region) (number : ℕ) → structure_in (within_all rs scopes) number ≡ structure_in scopes number
structure_within_all [] scopes number = refl
structure_within_all (r ∷ rs) scopes number = structure_within r (within_all rs scopes) number ∙ structure_within_all rs scopes number

-- a field of one of two rows of records
or_field_or : (f g : Option OpenField) (m : Meant) → or_field (field_or f g) m ≡ or_field f (or_field g m)
or_field_or None g m = refl
or_field_or (Some x) g m = refl

unless_field_or : (f g : Option OpenField) (m : Meant) → unless_field (field_or f g) m ≡ unless_field f (unless_field g m)
unless_field_or None g m = refl
unless_field_or (Some x) g m = refl

unless_nothing : (f : Option OpenField) → unless_field f Nothing ≡ Nothing
unless_nothing None = refl
unless_nothing (Some x) = refl

-- a field hides what its name means outside
pub meant_within : (r : OpenRecord) (scopes : List Region) (name : List ℕ) → meant (within r scopes) name ≡ or_field (field_of r name) (meant scopes name)
meant_within r [] name = or_field_or (field_of r name) None (as_required (required_of name))
meant_within r (g ∷ gs) name = or_field_or (field_of r name) (field_among g.records name) (or_outside (look_up g.entries name) (meant gs name))

pub meant_within_all : (rs : List OpenRecord) (scopes : List Region) (name : List ℕ) → meant (within_all rs scopes) name ≡ or_field (field_among rs name) (meant scopes name)
meant_within_all [] scopes name = refl
meant_within_all (r ∷ rs) scopes name =
    meant_within r (within_all rs scopes) name ∙ ap (or_field (field_of r name)) (meant_within_all rs scopes name) ∙ sym (or_field_or (field_of r name) (field_among rs name) (meant scopes name))

-- and an interface of its name
meant_in_within : (r : OpenRecord) (scopes : List Region) (interface name : List ℕ) → meant_in (within r scopes) interface name ≡ unless_field (field_of r interface) (meant_in scopes interface name)
meant_in_within r [] interface name = unless_field_or (field_of r interface) None Nothing
meant_in_within r (g ∷ gs) interface name =
    unless_field_or (field_of r interface) (field_among g.records interface) (unless_hidden (look_up g.entries interface) (or_outside (look_up_in g interface name) (meant_in gs interface name)))

pub meant_in_within_all : (rs : List OpenRecord) (scopes : List Region) (interface name : List ℕ) → meant_in (within_all rs scopes) interface name ≡ unless_field (field_among rs interface) (meant_in scopes interface name)
meant_in_within_all [] scopes interface name = refl
meant_in_within_all (r ∷ rs) scopes interface name =
    meant_in_within r (within_all rs scopes) interface name ∙ ap (unless_field (field_of r interface)) (meant_in_within_all rs scopes interface name)
    ∙ sym (unless_field_or (field_of r interface) (field_among rs interface) (meant_in scopes interface name))
