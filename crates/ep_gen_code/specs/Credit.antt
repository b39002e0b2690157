-- What code may cost beside the steps that are spent.
use Rattle.std.specs.Prelude.{ℕ}

-- the credit that is there before each fragment of code: what instructions without a step may cost within it
abbrev pub least_credit : ℕ
least_credit = 32
