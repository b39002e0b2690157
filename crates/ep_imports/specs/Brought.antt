-- What an import of an interface brings, by names (ISO 10206, 6.11.3).
use Rattle.std.specs.Prelude.{ℕ, Bool, List, [], ◌∷◌, ◌++◌, map, Option, Some, None, if◌then◌else◌}
use Rattle.std.specs.List.{list_any}
use Rattle.std.specs.Str.{bytes_eq}
use Rattle.ep_interface.specs.declared.interface.Constituent.{Constituent}
use Rattle.ep_interface.specs.declared.interface.ImportSpec.{ImportSpec}
use Rattle.ep_interface.specs.declared.interface.NamePair.{NamePair}
use Rattle.ep_imports.specs.declared.brought.Brought.{Brought}
use Rattle.ep_imports.specs.declared.brought.Denoted.{Denoted}

-- what a constituent denotes
abbrev pub denoted_of : Constituent → Denoted
denoted_of c = record { kind = c.kind; index = c.index; protected = c.protected }

-- what the first constituent of this name denotes
abbrev pub denoted_as : List Constituent → List ℕ → Option Denoted
denoted_as [] name = None
denoted_as (c ∷ cs) name = if bytes_eq name c.name then Some (denoted_of c) else denoted_as cs name

-- a name here, where the constituent is there
abbrev pub brought_as : List ℕ → Option Denoted → List Brought
brought_as here None = []
brought_as here (Some denoted) = record { here = here; denoted = denoted } ∷ []

-- what the listed pairs bring, in the order of the text
abbrev pub listed : List Constituent → List NamePair → List Brought
listed cs [] = []
listed cs (p ∷ ps) = brought_as p.here (denoted_as cs p.constituent) ++ listed cs ps

-- whether a constituent is listed
abbrev pub is_listed : List NamePair → List ℕ → Bool
is_listed ps name = list_any (λ p. bytes_eq name p.constituent) ps

-- a constituent under its own name
abbrev pub own_name : Constituent → Brought
own_name c = record { here = c.name; denoted = denoted_of c }

-- the constituents that are not listed, under their own names, in the order of the interface
abbrev pub unlisted : List NamePair → List Constituent → List Brought
unlisted ps [] = []
unlisted ps (c ∷ cs) = (if is_listed ps c.name then [] else own_name c ∷ []) ++ unlisted ps cs

-- what an import brings: the listed ones, and with no `only` the rest too
abbrev pub brought : ImportSpec → List Constituent → List Brought
brought spec cs = listed cs spec.pairs ++ (if spec.only then [] else unlisted spec.pairs cs)

-- their names here
abbrev pub names_here : List Brought → List (List ℕ)
names_here bs = map (λ b. b.here) bs

-- the name, where its constituent is absent
abbrev pub absent_or : List ℕ → Option Denoted → Option (List ℕ) → Option (List ℕ)
absent_or name None later = Some name
absent_or name (Some denoted) later = later

-- the first listed constituent that the interface does not have
abbrev pub first_absent : List Constituent → List NamePair → Option (List ℕ)
first_absent cs [] = None
first_absent cs (p ∷ ps) = absent_or p.constituent (denoted_as cs p.constituent) (first_absent cs ps)

-- the first of these names that is doubled
abbrev pub first_doubled : List (List ℕ) → Option (List ℕ)
first_doubled [] = None
first_doubled (n ∷ ns) = if list_any (bytes_eq n) ns then Some n else first_doubled ns
