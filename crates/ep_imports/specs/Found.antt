-- What is kept under names.
use Rattle.std.specs.Prelude.{ℕ, List, [], ◌∷◌, map, Option, Some, None, if◌then◌else◌}
use Rattle.std.specs.Global.{Vec}
use Rattle.std.specs.Str.{bytes_eq}

-- what a list has first under a name
abbrev pub found : {A : Type 0} → List (List ℕ × A) → List ℕ → Option A
found [] name = None
found (e ∷ es) name = if bytes_eq name e.0 then Some e.1 else found es name

-- the one, or else the other
abbrev pub or_else : {A : Type 0} → Option A → Option A → Option A
or_else None other = other
or_else (Some x) other = Some x

-- each entry with the bytes of its key
abbrev pub by_bytes : {A : Type 0} → List (Vec ℕ × A) → List (List ℕ × A)
by_bytes entries = map (λ e. (e.0.items, e.1)) entries
