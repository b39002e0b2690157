-- The block of a routine, by the steps of its functions.
use Rattle.std.proofs.Common.{◌≡◌, ℕ, List, ap, sym, ◌∙◌, subst}
use Rattle.ep_tree.specs.declared.statement.Compound.{Compound}
use Rattle.ep_scope.specs.Scopes.{Row, opened}
use Rattle.ep_rules.specs.Judgements.{Accepts}
use Rattle.ep_rules.specs.declared.forms.Refusal.{Refusal}
use Rattle.ep_rules.specs.Answers.{Refuses}
use Rattle.ep_stmt_rules.specs.Outcomes.{refused_at}
use Rattle.ep_check_unit.specs.Answers.{RefusesItems}
use Rattle.ep_check_unit.specs.Blocks.{Block}
use Rattle.ep_unit_rules.specs.declared.own.OwnVariables.{OwnVariables}
use Rattle.ep_check_unit.specs.Declarations.{Standing, and_then, at_line}
use Rattle.ep_unit_rules.specs.Functions.{result_name}
use Rattle.ep_unit_rules.specs.Headings.{own_variables}
use Rattle.ep_check_unit.specs.Routines.{Headed, PartJudged, block_declared, heading_entered, inside_declared, scope_opened}
use Rattle.ep_check_unit.proofs.Refusing.{line_refused, then_refused}
use Rattle.ep_check_unit.proofs.Subranges.{accepted_same}

-- the block of a routine begins with its scope, and with the variables of its heading
begun_same : (h : Headed) (scopes : Row) (own now : OwnVariables) → scopes ≡ opened h.block.scopes → now ≡ own → Accepts (own_variables h.number h.parameters h.result h.block.own.enclosing) ≡ Accepts own
    → record h.block { scopes = scopes; own = now } ≡ scope_opened h h.block
begun_same h scopes own now inner is begun =
    let b : Block = h.block in
    let there : now ≡ own_variables h.number h.parameters h.result b.own.enclosing = is ∙ accepted_same (own_variables h.number h.parameters h.result b.own.enclosing) own begun in
    ap (λ s. record b { scopes = s; own = now }) inner ∙ ap (λ o. record b { scopes = opened b.scopes; own = o }) there

-- what is inside of a routine whose heading is entered is what its block comes to
pub heading_passed : (line : ℕ) (name : List ℕ) (ps : List PartJudged) (c : Compound) (h : Headed) (scopes : Row) (own now : OwnVariables) (entered : Block) (Holds : Standing → Type 0)
    → scopes ≡ opened h.block.scopes → now ≡ own → Accepts (own_variables h.number h.parameters h.result h.block.own.enclosing) ≡ Accepts own → heading_entered h (record h.block { scopes = scopes; own = now }) ≡ Accepts entered
    → Holds (inside_declared line name (result_name name h.result) h.number h.block.own ps c entered) → Holds (block_declared line name ps c h)
heading_passed line name ps c h scopes own now entered Holds inner is begun accepted held =
    let there : heading_entered h (scope_opened h h.block) ≡ Accepts entered = ap (heading_entered h) (sym (begun_same h scopes own now inner is begun)) ∙ accepted in
    subst (λ j. Holds (and_then (inside_declared line name (result_name name h.result) h.number h.block.own ps c) (at_line line j))) (sym there) held

-- a heading that is refused in the block of its routine
pub heading_refused : (line : ℕ) (name : List ℕ) (ps : List PartJudged) (c : Compound) (h : Headed) (scopes : Row) (own now : OwnVariables) (e : Refusal)
    → scopes ≡ opened h.block.scopes → now ≡ own → Accepts (own_variables h.number h.parameters h.result h.block.own.enclosing) ≡ Accepts own → Refuses e (heading_entered h (record h.block { scopes = scopes; own = now })) → RefusesItems (refused_at line e) (block_declared line name ps c h)
heading_refused line name ps c h scopes own now e inner is begun refused =
    then_refused (inside_declared line name (result_name name h.result) h.number h.block.own ps c) (refused_at line e) (at_line line (heading_entered h (scope_opened h h.block)))
    (line_refused line e (heading_entered h (scope_opened h h.block)) (subst (λ k. Refuses e (heading_entered h k)) (begun_same h scopes own now inner is begun) refused))
