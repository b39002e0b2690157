-- The law of verdicts.
use Rattle.std.specs.Prelude.{ℕ, List}
use Rattle.ep_outside.specs.Known.{Directory}
use Rattle.ep_drive.specs.Verdicts.{Verdict, IsSameVerdict, IsVerdict}

-- There is at most one verdict on words and a directory, but for which rule is named of those that fail at one item.
abbrev pub AtMostOneVerdict : Type 0
AtMostOneVerdict =
    (words : List (List ℕ)) (directory : Directory) (verdict other : Verdict) → IsVerdict words directory verdict
    → IsVerdict words directory other → IsSameVerdict verdict other
