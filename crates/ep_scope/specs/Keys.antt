-- Entries by the bytes of their keys.
use Rattle.std.specs.Prelude.{ℕ, List, map}
use Rattle.std.specs.Global.{Vec}

-- each entry with the bytes of its key
abbrev pub by_bytes : {A : Type 0} → List (Vec ℕ × A) → List (List ℕ × A)
by_bytes entries = map (λ e. (e.0.items, e.1)) entries
