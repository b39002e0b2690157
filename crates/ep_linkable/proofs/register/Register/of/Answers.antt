use Rattle.std.specs.Option.{option_copied}
use Rattle.ep_linkable.proofs.Entries.{all_seen, register_places, register_twice}
use Rattle.ep_linkable.proofs.register.Register.of.Goals as goal

pub loop-entry-preserved : goal.loop-entry-preserved
loop-entry-preserved c = record {
  places = register_places c.args.entries.now c.loop-entry.entry-index c.entry-item.result c.loop-entry.register
      c.add.new.self c.loop-entry-test.true c.entry-item.is c.loop-entry.invariant.places c.in_ok-add.ensures.places;
  twice = register_twice c.args.entries.now c.loop-entry.entry-index c.entry-item.result c.loop-entry.register
      c.add.new.self c.loop-entry-test.true c.entry-item.is c.loop-entry.invariant.places c.loop-entry.invariant.twice
      c.in_ok-add.ensures.twice;
}

pub returns-clause-twice : goal.returns-clause-twice
returns-clause-twice c =
    all_seen c.args.entries.now c.loop-entry.entry-index (option_copied c.loop-entry.register.twice)
    c.loop-entry-test.false c.loop-entry.invariant.twice
