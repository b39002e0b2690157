-- When a state of the machine matches a state of the meaning.
use Rattle.std.specs.Prelude.{◌≡◌, ℕ, ℤ, zero, suc, ◌+◌, ◌*◌, ◌≤◌, ◌<◌, ◌==◌, cond, is_some, ltb, Bool, true, false}
use Rattle.std.specs.Prelude.{IsTrue, List, [], ◌∷◌, length, slice_get, Option, Some, None, option_map, ⊤}
use Rattle.std.specs.Prelude.{if◌then◌else◌}
use Rattle.std.specs.List.{list_any}
use Rattle.ep_outside.specs.Known.{IsPrefix}
use Rattle.ep_values.specs.Bounds.{count_of}
use Rattle.ep_typed.specs.Denoters.{IsInstance}
use Rattle.ep_values.specs.Events.{Trace}
use Rattle.ep_values.specs.Operations.{is_integer}
use Rattle.ep_values.specs.Values.{Value, Undefined, component_of}
use Rattle.ep_meaning.specs.Steps.{Component, Allocation, Resources}
use Rattle.ep_values.specs.TypeValues.{is_within, same_type, size_of}
use Rattle.ep_meaning.specs.Steps as meaning
use Rattle.ep_meaning.specs.Valid.{Declarations}
use Rattle.ep_typed.specs.Viewed.{denoter_of}
use Rattle.ep_values.specs.Sets.{are_between}
use Rattle.ep_values.specs.TypeValues.{ComponentTypes, TypeValue, bare_of, is_started}
use Rattle.ep_values.specs.TypeValues as type
use Rattle.ep_typed.specs.declared.unit.UnitType.{UnitType}
use Rattle.ep_typed.specs.declared.unit.UnitVariable.{UnitVariable}
use Rattle.ep_object.specs.Frames.{slots_over}
use Rattle.ep_object.specs.Operands.{Operand}
use Rattle.ep_object.specs.Sets.{IsSet, set_size, words_of_set}
use Rattle.ep_simulation.specs.Layouts.{Layout}
use Rattle.ep_simulation.specs.Starts.{words_kept}
use Rattle.ep_object.specs.State.{Frames, Segments, TypeTable, State, bare_number, text_entry, first_types, undefined}
use Rattle.ep_object.specs.Types.{ordinal_entry, array_entry, record_entry, set_entry}
use Rattle.ep_object.specs.declared.code.Image.{Image}
use Rattle.ep_object.specs.declared.code.ImageUnit.{ImageUnit}
use Rattle.ep_object.specs.declared.state.TypeKind.{TypeKind}
use Rattle.ep_object.specs.declared.state.TypeKind.TheVariants as kind
use Rattle.ep_object.specs.declared.state.Place.{Place}
use Rattle.ep_object.specs.declared.state.RecordPart.{RecordPart}
use Rattle.ep_object.specs.declared.state.Segment.{Segment}
use Rattle.ep_object.specs.declared.state.TypeEntry.{TypeEntry}

-- what a machine has besides its operands, the place in the code and its events
pub record MachineMemory : Type 0 where
  pub frames : Frames
  pub segments : Segments
  pub types : TypeTable
  pub live : ℕ

-- the state at a place in the code
abbrev pub at : ℕ → List Operand → MachineMemory → Trace → State
at place operands memory trace =
    record {
      place = place;
      operands = operands;
      frames = memory.frames;
      segments = memory.segments;
      types = memory.types;
      live = memory.live;
      trace = trace;
    }

-- where an allocation is, and its type without initial states
pub record Mapped : Type 0 where
  pub segment : ℕ
  pub type_value : TypeValue

-- The injection of allocations into segments: the segment of each allocation, in the order of making, with the type.
-- The
-- allocation of number 1, which is `input`, is its first item. Segments that are in no item are hidden ones.
abbrev pub Injection : Type 0
Injection = List Mapped

-- the item is that of this segment
abbrev pub is_at : ℕ → Mapped → Bool
is_at segment m = m.segment == segment

-- the allocation of this number is in the segment
abbrev pub IsIn : Injection → ℕ → ℕ → Type 0
IsIn injection zero segment = ⊥
IsIn injection (suc n) segment = option_map (λ m. m.segment) (slice_get injection n) ≡ Some segment

-- the allocation of this number is of the type
abbrev pub IsOf : Injection → ℕ → TypeValue → Type 0
IsOf injection zero t = ⊥
IsOf injection (suc n) t = option_map (λ m. m.type_value) (slice_get injection n) ≡ Some t

-- ---- which types of the table are those of type values

abbrev mutual
  -- the type of this number is the bare form of the type value, which is the same type without initial states
  pub IsBare : TypeTable → ℕ → TypeValue → Type 0
  IsBare types n (type.Ordinal low high) = slice_get types n ≡ Some (ordinal_entry low high)
  IsBare types n type.Text = slice_get types n ≡ Some text_entry
  IsBare types n (type.Array low high of) =
      (c : ℕ) × (slice_get types n ≡ Some (array_entry low high c (size_of (type.Array low high of))))
      × IsBare types c of
  IsBare types n (type.Record ts) =
      (ps : List RecordPart) × (slice_get types n ≡ Some (record_entry ps (size_of (type.Record ts))))
      × AreBare types 0 ps ts
  IsBare types n (type.Set low high) = slice_get types n ≡ Some (set_entry low high)
  IsBare types n (type.Initial of start) = IsBare types n of

  -- components behind so many words have types that are the bare forms of these, one for one, and stand one behind the
  -- other
  pub AreBare : TypeTable → ℕ → List RecordPart → ComponentTypes → Type 0
  AreBare types before [] type.no_component = ⊤
  AreBare types before [] (type.next_component t ts) = ⊥
  AreBare types before (p ∷ ps) type.no_component = ⊥
  AreBare types before (p ∷ ps) (type.next_component t ts) =
      (p.offset ≡ before) × IsBare types p.type_number t × AreBare types (before + size_of t) ps ts

-- A type of the table that is of such a kind describes the type value: it has its size, begins with its initial state,
-- and tells
-- its bare form, which is another type exactly where an initial state is given to it or in it.
pub record IsEntry (types : TypeTable) (n : ℕ) (t : TypeValue) (IsKind : TypeKind → Type 0) : Type 0 where
  pub kind : TypeKind
  pub bare : Option ℕ
  pub stands : slice_get types n ≡ Some (record { kind = kind; size = size_of t; start = words_kept t; bare = bare })
  pub is_kind : IsKind kind
  pub form : IsBare types (bare_number n bare) t
  pub other : is_some bare ≡ is_started t

abbrev mutual
  -- the kind of the type value, whose components have types that describe them, each with its own initial state
  pub IsKindOf : TypeTable → TypeValue → TypeKind → Type 0
  IsKindOf types (type.Ordinal low high) k = k ≡ kind.Ord low high
  IsKindOf types type.Text k = k ≡ kind.Text
  IsKindOf types (type.Array low high of) k =
      (c : ℕ) × (k ≡ kind.Array low high c) × IsEntry types c of (IsKindOf types of)
  IsKindOf types (type.Record ts) k = (ps : List RecordPart) × (k ≡ kind.Record ps) × AreEntries types 0 ps ts
  IsKindOf types (type.Set low high) k = k ≡ kind.Set low high
  IsKindOf types (type.Initial of start) k = IsKindOf types of k

  -- so do components behind so many words, one for one, which stand one behind the other
  pub AreEntries : TypeTable → ℕ → List RecordPart → ComponentTypes → Type 0
  AreEntries types before [] type.no_component = ⊤
  AreEntries types before [] (type.next_component t ts) = ⊥
  AreEntries types before (p ∷ ps) type.no_component = ⊥
  AreEntries types before (p ∷ ps) (type.next_component t ts) =
      (p.offset ≡ before) × IsEntry types p.type_number t (IsKindOf types t)
      × AreEntries types (before + size_of t) ps ts

-- the type of this number describes the type value, with its initial states
abbrev pub Describes : TypeTable → ℕ → TypeValue → Type 0
Describes types n t = IsEntry types n t (IsKindOf types t)

-- the type of this number describes a type value that is this one but for initial states
abbrev pub IsLike : TypeTable → ℕ → TypeValue → Type 0
IsLike types n t = (u : TypeValue) × (bare_of u ≡ t) × Describes types n u

-- a component of a type: how many words are before it, and its type
pub record TypePart : Type 0 where
  pub offset : ℕ
  pub type_value : TypeValue

abbrev pub part_behind : ℕ → Option TypePart → Option TypePart
part_behind n None = None
part_behind n (Some p) = Some (record p { offset = n + p.offset })

-- the component of this number, of which the first one is behind so many words
abbrev pub part_among : ℕ → ComponentTypes → ℕ → Option TypePart
part_among before type.no_component k = None
part_among before (type.next_component t ts) zero = Some (record { offset = before; type_value = t })
part_among before (type.next_component t ts) (suc k) = part_among (before + size_of t) ts k

-- the component of this number, where the type has one
abbrev pub part_of : TypeValue → ℕ → Option TypePart
part_of (type.Ordinal low high) k = None
part_of type.Text k = None
part_of (type.Array low high of) k =
    cond (ltb k (count_of low high)) (Some (record { offset = k * size_of of; type_value = of })) None
part_of (type.Record ts) k = part_among 0 ts k
part_of (type.Set low high) k = None
part_of (type.Initial of start) k = part_of of k

-- the part at a path, of a part that begins behind so many words
abbrev pub part_along : Option TypePart → List ℕ → Option TypePart
part_along part [] = part
part_along None (k ∷ path) = None
part_along (Some p) (k ∷ path) = part_along (part_behind p.offset (part_of p.type_value k)) path

-- all of a type
abbrev pub all_of : TypeValue → TypePart
all_of t = record { offset = 0; type_value = t }

-- words by number
abbrev pub Words : Type 0
Words = ℕ → Option ℤ

-- a word is a simple value of the type: a number of the type, or the undefined word
abbrev pub WordAt : TypeValue → Value → Option ℤ → Type 0
WordAt t Undefined word = word ≡ Some undefined
WordAt t (meaning.Word w) word = (word ≡ Some w) × IsTrue (is_within t w)
WordAt t (meaning.Components of) word = ⊥
WordAt t (meaning.Members ms) word = ⊥

-- a word is a value of the ordinal type with these bounds, which are integers
pub record OrdinalAt (low high : ℤ) (value : Value) (word : Option ℤ) : Type 0 where
  pub low_fits : IsTrue (is_integer low)
  pub high_fits : IsTrue (is_integer high)
  pub is : WordAt (type.Ordinal low high) value word

-- a word is that of a file variable, which has no value
abbrev pub FileAt : Value → Option ℤ → Type 0
FileAt Undefined word = word ≡ Some undefined
FileAt (meaning.Word w) word = ⊥
FileAt (meaning.Components of) word = ⊥
FileAt (meaning.Members ms) word = ⊥

-- the words from an offset on are those of the set, whose members lie within the bounds
pub record MembersAt (low high : ℤ) (ms : List ℕ) (words : Words) (offset : ℕ) : Type 0 where
  pub is_set : IsSet ms
  pub within : IsTrue (are_between low high ms)
  pub told : (k : ℕ) → k < set_size → words (offset + k) ≡ slice_get (words_of_set ms) k

-- the words from an offset on are a value of the set type with these bounds: those of a set, or each the undefined
-- word
abbrev pub SetAt : ℤ → ℤ → Value → Words → ℕ → Type 0
SetAt low high Undefined words offset = (k : ℕ) → k < set_size → words (offset + k) ≡ Some undefined
SetAt low high (meaning.Word w) words offset = ⊥
SetAt low high (meaning.Components of) words offset = ⊥
SetAt low high (meaning.Members ms) words offset = MembersAt low high ms words offset

-- The words from an offset on hold the value, and it is one of the type. Words that the value leaves free may be any.
-- Where a value is a pointer, the injection says which segment its word is the number of.
abbrev mutual
  pub HasAt : Injection → TypeValue → Value → Words → ℕ → Type 0
  HasAt injection (type.Ordinal low high) value words offset = OrdinalAt low high value (words offset)
  HasAt injection type.Text value words offset = FileAt value (words offset)
  HasAt injection (type.Array low high of) value words offset =
      (k : ℕ) → k < count_of low high → HasAt injection of (component_of value k) words (offset + k * size_of of)
  HasAt injection (type.Record ts) value words offset = HaveAt injection ts (component_of value) words offset
  HasAt injection (type.Set low high) value words offset = SetAt low high value words offset
  HasAt injection (type.Initial of start) value words offset = HasAt injection of value words offset

  -- so do those of components, which stand one behind the other
  pub HaveAt : Injection → ComponentTypes → (ℕ → Value) → Words → ℕ → Type 0
  HaveAt injection type.no_component values words offset = ⊤
  HaveAt injection (type.next_component t ts) values words offset =
      HasAt injection t (values 0) words offset × HaveAt injection ts (λ k. values (suc k)) words (offset + size_of t)

-- A segment has as many words as the type of an allocation that lives, they hold its value, and the segment's type
-- describes
-- the allocation's.
pub record Represents (injection : Injection) (segments : Segments) (types : TypeTable) (segment : ℕ)
    (allocation : Allocation) : Type 0 where
  pub type_number : ℕ
  pub words : List ℤ
  pub stands : slice_get segments segment ≡ Some (Some (record { type_number = type_number; words = words }))
  pub described : Describes types type_number allocation.type_value
  pub sized : length words ≡ size_of allocation.type_value
  pub holds : HasAt injection allocation.type_value allocation.value (slice_get words) 0

abbrev pub IsRepresentedWhere : Bool → Injection → Segments → TypeTable → ℕ → Allocation → Type 0
IsRepresentedWhere true injection segments types segment allocation = slice_get segments segment ≡ Some None
IsRepresentedWhere false injection segments types segment allocation =
    Represents injection segments types segment allocation

-- the segment of an allocation that has ended has ended, and that of one that lives represents it
abbrev pub IsRepresented : Injection → Segments → TypeTable → ℕ → Allocation → Type 0
IsRepresented injection segments types segment allocation =
    IsRepresentedWhere allocation.ended injection segments types segment allocation

-- A place is that of a variable: it is in the segment of the variable's allocation, where the path leads in that
-- allocation's type, and its type describes that of the variable, whatever initial states the two have. What the
-- segment has
-- does not matter, nor whether it has ended.
pub record IsSpot (injection : Injection) (types : TypeTable) (variable : Component) (place : Place) : Type 0 where
  pub is_in : IsIn injection variable.allocation place.segment
  pub root : TypeValue
  pub is_of : IsOf injection variable.allocation root
  pub type_value : TypeValue
  pub leads : part_along (Some (all_of root)) variable.path
      ≡ Some (record { offset = place.offset; type_value = type_value })
  pub described : IsLike types place.type_number type_value

-- a slot holds the place of a variable once it is made, and none before
abbrev pub MatchesSlot : Injection → TypeTable → Option Component → Option Place → Type 0
MatchesSlot injection types None None = ⊤
MatchesSlot injection types None (Some place) = ⊥
MatchesSlot injection types (Some variable) None = ⊥
MatchesSlot injection types (Some variable) (Some place) = IsSpot injection types variable place

-- a slot of a frame, where both are there
abbrev pub slot_of_frame : Option (List (Option Place)) → ℕ → Option (Option Place)
slot_of_frame None k = None
slot_of_frame (Some slots) k = slice_get slots k

-- the slot of this number of the unit's frame
abbrev pub slot_in : Frames → ℕ → ℕ → Option (Option Place)
slot_in frames unit k = slot_of_frame (slice_get frames.units unit) k

-- a slot of the frame of the innermost call
abbrev pub own_slot : Frames → ℕ → Option (Option Place)
own_slot frames k = slot_of_frame (slots_over frames.calls None) k

-- the type value is that of a variable, under a list of types, without initial states
abbrev pub HasTypeUnder : List UnitType → UnitVariable → TypeValue → Type 0
HasTypeUnder types v t = (u : TypeValue) × IsInstance types (denoter_of v.denoter) u × (bare_of u ≡ t)

-- the type value is that of a variable of the unit
abbrev pub HasType : Layout → List ℕ → UnitVariable → TypeValue → Type 0
HasType layout unit v t = HasTypeUnder (layout.types unit) v t

-- the type value is that of a variable of the routine in whose block names are declared so
abbrev pub HasOwnType : Declarations → UnitVariable → TypeValue → Type 0
HasOwnType declared v t = HasTypeUnder declared.types v t

-- The words of the hidden segments from this number on, those in which no allocation is, with one more for each.
abbrev pub hidden_from : Injection → ℕ → Segments → ℕ
hidden_from injection k [] = 0
hidden_from injection k (None ∷ segments) = hidden_from injection (suc k) segments
hidden_from injection k (Some x ∷ segments) =
    (if list_any (is_at k) injection then 0 else length x.words + 1) + hidden_from injection (suc k) segments

-- the words of all hidden segments, with one more for each
abbrev pub hidden_words : Injection → Segments → ℕ
hidden_words injection segments = hidden_from injection 0 segments

-- ---- matching, in groups: each is over what it reads, so that it goes on holding where nothing of that changes

-- each allocation that was made is in a segment of its own, and has the type that is told with it, but for initial
-- states
pub record MatchesInjection (injection : Injection) (allocations : List Allocation)
    (segments : Segments) : Type 0 where
  pub made : length injection ≡ length allocations
  pub apart : (m n segment : ℕ) → IsIn injection m segment → IsIn injection n segment → m ≡ n
  pub within : (n segment : ℕ) → IsIn injection n segment → suc segment ≤ length segments
  pub typed : (n : ℕ) (t : TypeValue) → IsOf injection n t
      → option_map bare_of (meaning.type_in (meaning.allocation_at allocations n)) ≡ Some t

-- the store: the segment of an allocation represents it, or both have ended
pub record MatchesStore (injection : Injection) (allocations : List Allocation) (segments : Segments)
    (types : TypeTable) : Type 0 where
  pub represented : (n segment : ℕ) (allocation : Allocation) → IsIn injection n segment
      → meaning.allocation_at allocations n ≡ Some allocation
      → IsRepresented injection segments types segment allocation

-- components stand one behind the other, behind so many words, and with them there are so many
abbrev pub HaveSize : TypeTable → ℕ → List RecordPart → ℕ → Type 0
HaveSize types before [] size = size ≡ before
HaveSize types before (p ∷ ps) size =
    (p.offset ≡ before) × (e : TypeEntry) × (slice_get types p.type_number ≡ Some e)
    × HaveSize types (before + e.size) ps size

-- the size that a type of this kind has
abbrev pub HasSize : TypeTable → TypeKind → ℕ → Type 0
HasSize types (kind.Ord low high) size = size ≡ 1
HasSize types kind.Pointer size = size ≡ 1
HasSize types kind.Text size = size ≡ 1
HasSize types (kind.Array low high c) size =
    (e : TypeEntry) × (slice_get types c ≡ Some e) × (size ≡ count_of low high * e.size)
HasSize types (kind.Record ps) size = HaveSize types 0 ps size
HasSize types (kind.Set low high) size = size ≡ set_size

-- The types: the table begins with the first ones, each entry has the size that its kind gives, none stands twice, and
-- one
-- describes each type value that was elaborated. Which others there are is left open.
pub record MatchesTypes (elaborated : List TypeValue) (types : TypeTable) : Type 0 where
  pub first : IsPrefix first_types types
  pub sized : (n : ℕ) (entry : TypeEntry) → slice_get types n ≡ Some entry → HasSize types entry.kind entry.size
  pub shared : (m n : ℕ) (entry : TypeEntry) → slice_get types m ≡ Some entry → slice_get types n ≡ Some entry
      → m ≡ n
  pub known : (t : TypeValue) → IsTrue (list_any (same_type t) elaborated) → (n : ℕ) × Describes types n t

-- The frame of a unit has the places of its variables, with types that describe those of their declarations, but for
-- initial states; its other slots match nothing.
pub record MatchesFrame (layout : Layout) (injection : Injection) (variables : List ℕ → ℕ → Option Component)
    (units : List (List (Option Place))) (types : TypeTable) (unit : ℕ) (u : ImageUnit) : Type 0 where
  pub slots : List (Option Place)
  pub is : slice_get units unit ≡ Some slots
  pub count : length slots ≡ u.slots
  pub matches : (k : ℕ) (v : UnitVariable) (slot : Option Place) → layout.variables u.name k ≡ Some v
      → slice_get slots k ≡ Some slot → MatchesSlot injection types (variables u.name k) slot
  pub described : (k : ℕ) (v : UnitVariable) (place : Place) (t : TypeValue)
      → layout.variables u.name k ≡ Some v → slice_get slots k ≡ Some (Some place)
      → HasType layout u.name v t → IsLike types place.type_number t

-- the variable has a type of which this holds, without its initial states
pub record IsOfType (allocations : List Allocation) (variable : Component) (Holds : TypeValue → Type 0) : Type 0 where
  pub type_value : TypeValue
  pub is : option_map bare_of
      (meaning.type_along (meaning.type_in (meaning.allocation_at allocations variable.allocation)) variable.path)
      ≡ Some type_value
  pub holds : Holds type_value

-- the slots of units: the frame of each unit matches, and a variable has the type of its declaration
pub record MatchesUnits (layout : Layout) (G : Image) (injection : Injection)
    (allocations : List Allocation) (variables : List ℕ → ℕ → Option Component) (units : List (List (Option Place)))
    (types : TypeTable) : Type 0 where
  pub frames : (unit : ℕ) (u : ImageUnit) → slice_get G.units unit ≡ Some u
      → MatchesFrame layout injection variables units types unit u
  pub typed : (unit : List ℕ) (k : ℕ) (c : Component) (v : UnitVariable) → variables unit k ≡ Some c
      → layout.variables unit k ≡ Some v → IsOfType allocations c (HasType layout unit v)

-- the outside: `output` is the second allocation and the second segment, is a text file, and lives
pub record MatchesOutside (injection : Injection) (allocations : List Allocation) : Type 0 where
  pub output : IsIn injection 2 2
  pub file : IsOf injection 2 type.Text
  pub lives : meaning.ended_in (meaning.allocation_at allocations 2) ≡ false

-- The counts: no more words live than were counted, where a type value counts 4 for each of its words; hidden segments
-- take no more than was set aside; and no more types were added than two for each that was elaborated, of which one is
-- its bare
-- form.
pub record MatchesCounts (injection : Injection) (resources : Resources) (segments : Segments)
    (types : TypeTable) (live : ℕ) : Type 0 where
  pub words : live ≤ resources.allocated + hidden_words injection segments + 4 * resources.typed
  pub hidden : hidden_words injection segments ≤ resources.reserved
  pub number : length types ≤ 2 * length resources.types + 5

-- the state of the meaning matches the machine's memory by the injection, where the units are laid out so
pub record Matches (layout : Layout) (G : Image) (injection : Injection) (s : meaning.State)
    (memory : MachineMemory) : Type 0 where
  pub injected : MatchesInjection injection s.allocations memory.segments
  pub store : MatchesStore injection s.allocations memory.segments memory.types
  pub types : MatchesTypes s.resources.types memory.types
  pub units : MatchesUnits layout G injection s.allocations s.variables memory.frames.units memory.types
  pub outside : MatchesOutside injection s.allocations
  pub counts : MatchesCounts injection s.resources memory.segments memory.types memory.live
  -- no more calls are under way than the meaning has under way
  pub depth : length memory.frames.calls ≤ length s.calls

-- ---- growing

-- a segment in which no allocation is
abbrev pub IsHidden : Injection → ℕ → Type 0
IsHidden injection segment = (n : ℕ) → IsIn injection n segment → ⊥

-- which slots: of units' frames, by the number of the unit and their own, and of the frame of the innermost call
pub record Slots : Type 0 where
  pub of_units : ℕ → ℕ → Bool
  pub own : ℕ → Bool

-- all slots
abbrev pub every_slot : Slots
every_slot = record { of_units = λ unit k. true; own = λ k. true }

-- some slots are among others
pub record AreAmong (some others : Slots) : Type 0 where
  pub of_units : (unit k : ℕ) → IsTrue (some.of_units unit k) → IsTrue (others.of_units unit k)
  pub own : (k : ℕ) → IsTrue (some.own k) → IsTrue (others.own k)

abbrev pub no_variable : Option UnitVariable → Bool
no_variable None = true
no_variable (Some v) = false

abbrev pub is_hidden_in : Layout → Option ImageUnit → ℕ → Bool
is_hidden_in layout None k = false
is_hidden_in layout (Some u) k = no_variable (layout.variables u.name k)

-- a slot of a unit's frame that none of its variables has
abbrev pub is_hidden_slot : Layout → Image → ℕ → ℕ → Bool
is_hidden_slot layout G unit k = is_hidden_in layout (slice_get G.units unit) k

-- the slots that a call leaves to its caller as they were: those of units' frames that are hidden, and all of its own
abbrev pub kept_slots : Layout → Image → Slots
kept_slots layout G = record { of_units = is_hidden_slot layout G; own = λ k. true }

-- The injection is a longer one, hidden segments are what they were, those that are new have ended, these slots are
-- untouched, and no segment changes its type.
pub record Grown (untouched : Slots) (injection : Injection) (memory : MachineMemory) (longer : Injection)
    (after : MachineMemory) : Type 0 where
  pub larger : IsPrefix injection longer
  pub types : IsPrefix memory.types after.types
  pub segments : length memory.segments ≤ length after.segments
  pub hidden : (segment : ℕ) → suc segment ≤ length memory.segments → IsHidden injection segment
      → IsHidden longer segment
  pub others : (segment : ℕ) → suc segment ≤ length memory.segments → IsHidden injection segment
      → slice_get after.segments segment ≡ slice_get memory.segments segment
  pub allocated : (segment : ℕ) (y : Segment) → length memory.segments ≤ segment
      → slice_get after.segments segment ≡ Some (Some y) → (n : ℕ) × IsIn longer n segment
  pub slots : (unit k : ℕ) → IsTrue (untouched.of_units unit k)
      → slot_in after.frames unit k ≡ slot_in memory.frames unit k
  pub typed : (segment : ℕ) (x y : Segment) → slice_get memory.segments segment ≡ Some (Some x)
      → slice_get after.segments segment ≡ Some (Some y) → y.type_number ≡ x.type_number
  pub ended : (segment : ℕ) (y : Segment) → suc segment ≤ length memory.segments
      → slice_get after.segments segment ≡ Some (Some y)
      → (x : Segment) × (slice_get memory.segments segment ≡ Some (Some x))
