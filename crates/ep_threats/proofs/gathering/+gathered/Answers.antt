use Rattle.std.proofs.Common.{◌≡◌, map}
use Rattle.std.specs.Prelude.{OnOk}
use Rattle.ep_typed.specs.Viewed.{stmt_of, with_record_of}
use Rattle.ep_threats.specs.Callees.{callees_of, formals_at}
use Rattle.ep_threats.specs.Threatened.{Gathers, opened_threat}
use Rattle.ep_threats.specs.Threats as spec
use Rattle.ep_threats.proofs.OpenedThreats.{with_added}
use Rattle.ep_threats.proofs.gathering.+gathered.Goals as goal

pub gather-returns-in_ok-gather-in-With : goal.gather-returns-in_ok-gather-in-With
gather-returns-in_ok-gather-in-With t c =
    let x = c.in-With in
    let formals = formals_at (callees_of c.args.routines.now) in
    let first : Gathers c.args.of (λ v. spec.threatens formals v (stmt_of x.body)) c.args.found.now c.gather-in-With.new.found = rw c.get-in-With.ensures at c.in_ok-gather-in-With.ensures in
    let second : OnOk c.opened_gathered.result (Gathers c.args.of (λ v. opened_threat formals v (map with_record_of x.records) (stmt_of x.body)) c.gather-in-With.new.found c.opened_gathered.new.found) = rw (c.get-in-With-2.ensures, c.items-in-With.ensures) at c.opened_gathered.ensures in
    rw x.is (with_added c.args.of formals x.field-0 x.records x.body c.args.found.now c.gather-in-With.new.found c.opened_gathered.new.found c.opened_gathered.result first second)
