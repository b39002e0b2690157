-- The row of longest pieces is one.
use Rattle.ep_token.proofs.public.TokenLaws.{text-answer, tokens-one, tokens-apart, stuck-one}
use Rattle.ep_token.proofs.source.one_reading.Goals as goal

pub returns-clause-some : goal.returns-clause-some
returns-clause-some c = text-answer

pub returns-clause-list : goal.returns-clause-list
returns-clause-list c = tokens-one

pub returns-clause-apart : goal.returns-clause-apart
returns-clause-apart c = tokens-apart

pub returns-clause-place : goal.returns-clause-place
returns-clause-place c = stuck-one
