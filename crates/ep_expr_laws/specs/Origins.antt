-- Where the host of an expression comes from: it is a required type, or the host of something that the scopes declare.
use Rattle.std.specs.Prelude.{◌≡◌, ℕ, List, [], ◌∷◌, ◌⊎◌, ⊤}
use Rattle.ep_scope.specs.Scopes.{Entries, OpenRecord, Region}
use Rattle.ep_scope.specs.declared.kind.Host.{Host}
use Rattle.ep_scope.specs.declared.kind.Host.TheVariants as host
use Rattle.ep_scope.specs.declared.kind.Kind.{Kind}
use Rattle.ep_scope.specs.declared.kind.Kind.TheVariants as kind
use Rattle.ep_scope.specs.declared.structure.Composition.{Composition}
use Rattle.ep_scope.specs.declared.structure.Composition.TheVariants as composition
use Rattle.ep_scope.specs.declared.structure.FieldType.{FieldType}
use Rattle.ep_scope.specs.declared.structure.StructuredType.{StructuredType}
use Rattle.ep_scope.specs.declared.thing.Declaration.{Declaration}
use Rattle.ep_scope.specs.declared.thing.Declaration.TheVariants as declaration
use Rattle.ep_scope.specs.declared.thing.Thing.{Thing}
use Rattle.ep_scope.specs.declared.thing.Thing.TheVariants as thing

-- the host is a required type (ISO 10206, 6.4.2.2)
abbrev pub IsRequiredHost : Host → Type 0
IsRequiredHost host.Integer = ⊤
IsRequiredHost host.Char = ⊤
IsRequiredHost host.Boolean = ⊤
IsRequiredHost (host.Enumeration e) = ⊥

-- the kind is ordinal with this host, or a set over it
abbrev pub HasHost : Kind → Host → Type 0
HasHost (kind.Ordinal g) h = g ≡ h
HasHost (kind.Structured n) h = ⊥
HasHost (kind.Set g) h = g ≡ h
HasHost kind.EmptySet h = ⊥
HasHost kind.Text h = ⊥
HasHost kind.File h = ⊥

-- a constant or variable of the host is declared, or a type or the result of a function with it
abbrev pub DeclaresHost : Declaration → Host → Type 0
DeclaresHost (declaration.Constant k v deep) h = HasHost k h
DeclaresHost (declaration.«Type» of k nodes) h = HasHost k h
DeclaresHost (declaration.Variable of k guarded) h = HasHost k h
DeclaresHost (declaration.Own of k guarded) h = HasHost k h
DeclaresHost (declaration.Procedure parameters) h = ⊥
DeclaresHost (declaration.Function parameters of k) h = HasHost k h

abbrev pub ThingHasHost : Thing → Host → Type 0
ThingHasHost (thing.Declared d) h = DeclaresHost d.what h
ThingHasHost (thing.Standard file) h = ⊥

-- some entry has the host
abbrev pub EntriesHaveHost : Entries → Host → Type 0
EntriesHaveHost [] h = ⊥
EntriesHaveHost (e ∷ es) h = ThingHasHost e.1 h ⊎ EntriesHaveHost es h

abbrev pub InterfacesHaveHost : List (List ℕ × Entries) → Host → Type 0
InterfacesHaveHost [] h = ⊥
InterfacesHaveHost (e ∷ es) h = EntriesHaveHost e.1 h ⊎ InterfacesHaveHost es h

-- some field has it
abbrev pub FieldsHaveHost : List FieldType → Host → Type 0
FieldsHaveHost [] h = ⊥
FieldsHaveHost (f ∷ fs) h = HasHost f.kind h ⊎ FieldsHaveHost fs h

-- the components have it
abbrev pub CompositionHasHost : Composition → Host → Type 0
CompositionHasHost (composition.Array a) h = HasHost a.kind h
CompositionHasHost (composition.Record fs) h = FieldsHaveHost fs h

-- those of some structured type have it
abbrev pub StructuresHaveHost : List StructuredType → Host → Type 0
StructuresHaveHost [] h = ⊥
StructuresHaveHost (s ∷ more) h = CompositionHasHost s.composition h ⊎ StructuresHaveHost more h

-- and the fields of some open record
abbrev pub RecordsHaveHost : List OpenRecord → Host → Type 0
RecordsHaveHost [] h = ⊥
RecordsHaveHost (r ∷ more) h = FieldsHaveHost r.fields h ⊎ RecordsHaveHost more h

abbrev pub ScopesHaveHost : List Region → Host → Type 0
ScopesHaveHost [] h = ⊥
ScopesHaveHost (r ∷ rs) h =
    EntriesHaveHost r.entries h
    ⊎ (InterfacesHaveHost r.qualified h
    ⊎ (StructuresHaveHost r.structures h ⊎ (ScopesHaveHost rs h ⊎ RecordsHaveHost r.records h)))

-- the host is required, or the scopes declare something that has it
abbrev pub IsKnownHost : List Region → Host → Type 0
IsKnownHost scopes h = IsRequiredHost h ⊎ ScopesHaveHost scopes h

-- alike of a kind; structured types, texts and files have no host
abbrev pub IsKnownKind : List Region → Kind → Type 0
IsKnownKind scopes (kind.Ordinal h) = IsKnownHost scopes h
IsKnownKind scopes (kind.Structured n) = ⊤
IsKnownKind scopes (kind.Set h) = IsKnownHost scopes h
IsKnownKind scopes kind.EmptySet = ⊤
IsKnownKind scopes kind.Text = ⊤
IsKnownKind scopes kind.File = ⊤
