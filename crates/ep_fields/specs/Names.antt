-- Texts that are names.
use Rattle.std.specs.Prelude.{ℕ, List, Option, Some, None, if◌then◌else◌}
use Rattle.ep_base.specs.Identifiers.{is_name}

-- the text where it is a name
abbrev pub name_if : List ℕ → Option (List ℕ)
name_if text = if is_name text then Some text else None
