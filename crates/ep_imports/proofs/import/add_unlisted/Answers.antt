use Rattle.std.proofs.Common.{ap, sym, ◌∙◌}
use Rattle.std.specs.List.{list_any}
use Rattle.std.specs.Str.{bytes_eq}
use Rattle.ep_imports.proofs.Listing.{own_listed, own_there}
use Rattle.ep_imports.proofs.import.add_unlisted.Goals as goal

pub returns-then-is_listed : goal.returns-then-is_listed
returns-then-is_listed c =
    own_listed c.args.all.now c.args.constituent.now _
    (ap (λ t. list_any (bytes_eq t) c.args.names.now) (sym c.bytes.ensures.bytes) ∙ sym c.has-is_listed.ensures ∙ c.if-is_listed.true)

pub returns-in_ok-push : goal.returns-in_ok-push
returns-in_ok-push c =
    own_there c.args.all.now c.push.new.self c.args.constituent.now c.in_ok-here.here c.denoted_of-denoted.result _
    (ap (λ t. list_any (bytes_eq t) c.args.names.now) (sym c.bytes.ensures.bytes) ∙ sym c.has-is_listed.ensures ∙ c.if-is_listed.false)
    c.in_ok-here.ensures c.denoted_of-denoted.ensures c.in_ok-push.ensures.ok
