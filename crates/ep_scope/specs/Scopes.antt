-- What names stand for: lists of declarations, and what a name means in them.
use Rattle.std.specs.Prelude.{ℕ, ◌-◌, ◌==◌, List, [], ◌∷◌, ◌++◌, length, slice_get, Option, Some, None, if◌then◌else◌}
use Rattle.std.specs.Str.{bytes_eq}
use Rattle.ep_typed.specs.Trees.{Entire}
use Rattle.ep_typed.specs.declared.tree.StandardFile.{StandardFile}
use Rattle.ep_scope.specs.Fields.{field_number}
use Rattle.ep_scope.specs.Required.{look_up, required_of}
use Rattle.ep_scope.specs.declared.required.Required.{Required}
use Rattle.ep_scope.specs.declared.parameter.Protection.{Protection}
use Rattle.ep_scope.specs.declared.structure.Composition.{Composition}
use Rattle.ep_scope.specs.declared.structure.FieldType.{FieldType}
use Rattle.ep_scope.specs.declared.structure.StructuredType.{StructuredType}
use Rattle.ep_scope.specs.declared.thing.Declared.{Declared}
use Rattle.ep_scope.specs.declared.thing.Thing.{Thing}
use Rattle.ep_scope.specs.declared.thing.Thing.TheVariants as thing

-- names with what they stand for, in the order in which they were entered
abbrev pub Entries : Type 0
Entries = List (List ℕ × Thing)

-- A record that is open by `with` (ISO 10206, 6.9.3.10): the variable that stands for it, whether it is protected, and
-- its
-- fields, tags and those of variants among them, whose names stand for those of the variable.
pub record OpenRecord : Type 0 where
  pub variable : Entire
  pub guarded : Protection
  pub fields : List FieldType

-- one of its fields
pub record OpenField : Type 0 where
  pub variable : Entire
  pub guarded : Protection
  pub field : FieldType

-- what a scope has under names, what its interfaces have (ISO 10206, 6.2.2 and 6.11.3), the structured types that are
-- written in it, and the records that are open in it, the innermost first
pub record Region : Type 0 where
  pub entries : Entries
  pub qualified : List (List ℕ × Entries)
  pub structures : List StructuredType
  pub records : List OpenRecord

-- no name yet
abbrev pub empty_region : Region
empty_region = record { entries = []; qualified = []; structures = []; records = [] }

-- one name more
abbrev pub with_entry : Region → List ℕ → Thing → Region
with_entry r name thing = record r { entries = r.entries ++ (name, thing) ∷ [] }

-- one structured type more
abbrev pub with_structure : Region → StructuredType → Region
with_structure r s = record r { structures = r.structures ++ s ∷ [] }

-- what the structured type of this number is made of
abbrev pub structure_among : ℕ → List StructuredType → Option Composition
structure_among number [] = None
structure_among number (s ∷ more) = if s.number == number then Some s.composition else structure_among number more

abbrev pub structure_or : Option Composition → Option Composition → Option Composition
structure_or None outside = outside
structure_or (Some c) outside = Some c

-- in these scopes
abbrev pub structure_in : List Region → ℕ → Option Composition
structure_in [] number = None
structure_in (r ∷ rs) number = structure_or (structure_among number r.structures) (structure_in rs number)

-- what an interface has under a name
abbrev pub look_up_if : Option Entries → List ℕ → Option Thing
look_up_if None name = None
look_up_if (Some entries) name = look_up entries name

abbrev pub look_up_in : Region → List ℕ → List ℕ → Option Thing
look_up_in r interface name = look_up_if (look_up r.qualified interface) name

-- one interface more, with its first name
abbrev pub with_interface : Region → List ℕ → List ℕ → Thing → Region
with_interface r interface name thing = record r { qualified = r.qualified ++ (interface, (name, thing) ∷ []) ∷ [] }

-- one constituent more of an interface, which is the last one where it is new
abbrev pub with_constituent : List (List ℕ × Entries) → List ℕ → List ℕ → Thing → List (List ℕ × Entries)
with_constituent [] interface name thing = (interface, (name, thing) ∷ []) ∷ []
with_constituent (e ∷ es) interface name thing =
    if bytes_eq interface e.0 then (e.0, e.1 ++ (name, thing) ∷ []) ∷ es
    else e ∷ with_constituent es interface name thing

-- what a name may stand for
pub data Meant : Type 0 where
  Declares : (declared : Declared) → Meant
  Standard : (file : StandardFile) → Meant
  Requires : (required : Required) → Meant
  -- a field of a record that is open
  FieldOf : (field : OpenField) → Meant
  Nothing : Meant

-- the field, where there is one
abbrev pub field_if : OpenRecord → Option FieldType → Option OpenField
field_if r None = None
field_if r (Some f) = Some (record { variable = r.variable; guarded = r.guarded; field = f })

-- the one at this place among its fields
abbrev pub field_at : OpenRecord → Option ℕ → Option OpenField
field_at r None = None
field_at r (Some place) = field_if r (slice_get r.fields place)

-- the field of this name
abbrev pub field_of : OpenRecord → List ℕ → Option OpenField
field_of r name = field_at r (field_number r.fields name)

abbrev pub field_or : Option OpenField → Option OpenField → Option OpenField
field_or None outside = outside
field_or (Some f) outside = Some f

-- that of the innermost of these records which has one (ISO 10206, 6.2.2.5)
abbrev pub field_among : List OpenRecord → List ℕ → Option OpenField
field_among [] name = None
field_among (r ∷ rs) name = field_or (field_of r name) (field_among rs name)

-- a field hides what its name means else
abbrev pub or_field : Option OpenField → Meant → Meant
or_field None outside = outside
or_field (Some f) outside = FieldOf f

abbrev pub as_thing : Thing → Meant
as_thing (thing.Declared declared) = Declares declared
as_thing (thing.Standard file) = Standard file

abbrev pub as_required : Option Required → Meant
as_required None = Nothing
as_required (Some required) = Requires required

abbrev pub or_outside : Option Thing → Meant → Meant
or_outside None outside = outside
or_outside (Some thing) outside = as_thing thing

-- The innermost scope that has the name (ISO 10206, 6.2.2.5), or the required identifier (6.2.2.10). The records that
-- are
-- open in a scope are inside of it.
abbrev pub meant : List Region → List ℕ → Meant
meant [] name = as_required (required_of name)
meant (r ∷ rs) name = or_field (field_among r.records name) (or_outside (look_up r.entries name) (meant rs name))

-- How many routines are around code that sees these scopes. The last one is around the block of the unit and counts as
-- no level, and the one before it is that of the block.
abbrev pub depth_in : List Region → ℕ
depth_in rs = length rs - 2

-- nothing where the name of the interface is that of something else
abbrev pub unless_hidden : Option Thing → Meant → Meant
unless_hidden None inside = inside
unless_hidden (Some thing) inside = Nothing

abbrev pub unless_field : Option OpenField → Meant → Meant
unless_field None inside = inside
unless_field (Some f) inside = Nothing

-- `i.a`: the innermost scope whose interface i has the name a, where neither it nor a scope or an open record inside
-- of it has i itself (own)
abbrev pub meant_in : List Region → List ℕ → List ℕ → Meant
meant_in [] interface name = Nothing
meant_in (r ∷ rs) interface name =
    unless_field (field_among r.records interface)
    (unless_hidden (look_up r.entries interface)
    (or_outside (look_up_in r interface name) (meant_in rs interface name)))

-- the scopes in view where this record is open inside of all of them
abbrev pub within : OpenRecord → List Region → List Region
within r [] = record empty_region { records = r ∷ [] } ∷ []
within r (g ∷ gs) = record g { records = r ∷ g.records } ∷ gs

-- where these are, the innermost first
abbrev pub within_all : List OpenRecord → List Region → List Region
within_all [] scopes = scopes
within_all (r ∷ rs) scopes = within r (within_all rs scopes)

-- ---- the scopes in view at a place of a text

-- The innermost one, and those around it from the inside to the outside (ISO 10206, 6.2.2). The last one is that of no
-- block: it is around the block of the unit and has what the unit's heading imports (own).
pub record Row : Type 0 where
  pub inner : Region
  pub outer : List Region

-- the row in the block of a unit that has no name yet, where this scope is around it
abbrev pub row_in : Region → Row
row_in around = record { inner = empty_region; outer = around ∷ [] }

-- all of them, the innermost first
abbrev pub in_view : Row → List Region
in_view r = r.inner ∷ r.outer

-- one name more in the innermost one
abbrev pub with_inner : Row → List ℕ → Thing → Row
with_inner r name thing = record r { inner = with_entry r.inner name thing }

-- one structured type more in it
abbrev pub with_inner_structure : Row → StructuredType → Row
with_inner_structure r s = record r { inner = with_structure r.inner s }

-- one scope more, without names
abbrev pub opened : Row → Row
opened r = record { inner = empty_region; outer = in_view r }

-- the scopes without the innermost one; the outermost one stays
abbrev pub closed_onto : Region → List Region → Row
closed_onto inner [] = record { inner = inner; outer = [] }
closed_onto inner (r ∷ rs) = record { inner = r; outer = rs }

abbrev pub closed : Row → Row
closed r = closed_onto r.inner r.outer

-- a list of scopes as a row
abbrev pub row_of : List Region → Row
row_of [] = record { inner = empty_region; outer = [] }
row_of (r ∷ rs) = record { inner = r; outer = rs }
