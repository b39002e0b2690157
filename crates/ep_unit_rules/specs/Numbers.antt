-- Numbers of what a unit declares, which have 32 bits.
use Rattle.std.specs.Prelude.{ℕ, nat_eq, Bool, List}
use Rattle.std.specs.List.{list_any}
use Rattle.std.specs.Prelude.{◌≡◌, Result, Ok, Err, ⊤}
use Rattle.ep_rules.specs.declared.forms.Refusal.{Refusal}
use Rattle.ep_rules.specs.declared.forms.Refusal.TheVariants.{Rule, NoMemory}

-- whether a list has a number
abbrev pub has_number : ℕ → List ℕ → Bool
has_number number numbers = list_any (λ n. nat_eq n number) numbers

-- a count as a number of 32 bits, where it is one
abbrev pub AnswersNumber : ℕ → Result ℕ Refusal → Type 0
AnswersNumber count (Ok n) = n ≡ count
AnswersNumber count (Err (Rule rule)) = ⊥
AnswersNumber count (Err NoMemory) = ⊤
