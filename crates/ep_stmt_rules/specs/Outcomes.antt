-- The refusals of items, by their lines.
use Rattle.std.specs.Prelude.{ℕ, Option, Some, None, Result, Ok, Err}
use Rattle.ep_rules.specs.declared.forms.Refusal.{Refusal}
use Rattle.ep_rules.specs.declared.forms.Refusal.TheVariants.{Rule, NoMemory}
use Rattle.ep_stmt_rules.specs.declared.outcome.CheckRefusal.{CheckRefusal}
use Rattle.ep_stmt_rules.specs.declared.outcome.CheckRefusal.TheVariants as refusal
use Rattle.ep_stmt_rules.specs.declared.outcome.Admission.{Admission}
use Rattle.ep_stmt_rules.specs.declared.outcome.Admission.TheVariants.{Passes, Waits}

-- a rule that fails is broken on the line of the item
abbrev pub refused_at : ℕ → Refusal → CheckRefusal
refused_at line (Rule rule) = refusal.Broken (record { rule = rule; line = line })
refused_at line NoMemory = refusal.NoMemory

-- an item whose form is there where it is built
abbrev pub item_at : {T : Type 0} → ℕ → Result (Option T) Refusal → Result (Admission T) CheckRefusal
item_at line (Ok (Some form)) = Ok (Passes form)
item_at line (Ok None) = Ok (Waits line)
item_at line (Err r) = Err (refused_at line r)
