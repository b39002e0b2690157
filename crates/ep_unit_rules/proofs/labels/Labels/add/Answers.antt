use Rattle.std.proofs.Common.{◌≡◌, [], ◌∷◌, ◌++◌, true, false, rules}
use Rattle.std.specs.List.{list_all}
use Rattle.ep_typed.specs.CaseRanges.{is_apart}
use Rattle.ep_unit_rules.proofs.TakenLabels.{label_added, label_refused}
use Rattle.ep_unit_rules.proofs.labels.Labels.add.Goals as goal

pub returns-then-not-branch : goal.returns-then-not-branch
returns-then-not-branch c =
    let shared : list_all (λ s. is_apart s c.in-Some.range) c.self.inside.taken ≡ false = search rules in
    label_refused c.self.invariant c.self.inside.built c.args.self.now c.args.range c.in-Some.range c.self.view_is c.in-Some.is shared

pub returns : goal.returns
returns c =
    let apart : list_all (λ s. is_apart s c.in-Some.range) c.self.inside.taken ≡ true = search rules in
    let grown : c.add.new.self ≡ c.self.inside.taken ++ c.in-Some.range ∷ [] = search rules in
    label_added c.self.invariant c.self.inside.built c.args.self.now c.args.range c.in-Some.range c.self.view_is c.in-Some.is c.add.new.self grown apart
