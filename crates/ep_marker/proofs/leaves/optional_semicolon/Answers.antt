use Rattle.ep_marker.proofs.Forms.{alone}
use Rattle.ep_marker.proofs.Walks.{gives, plain-firsts, plain-seconds, under}
use Rattle.ep_marker.proofs.leaves.optional_semicolon.Goals as goal

pub returns-then-not-sees_symbol : goal.returns-then-not-sees_symbol
returns-then-not-sees_symbol c = plain-seconds (alone c.if-not-sees_symbol.ensures) gives

pub returns : goal.returns
returns c = plain-firsts (alone c.if-not-sees_symbol.ensures) (under (c.symbol.ensures _))
