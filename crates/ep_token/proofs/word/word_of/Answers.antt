-- The table of the code is the list of the word symbols.
use Rattle.ep_token.specs.Words.{word_symbols}
use Rattle.ep_token.proofs.word.word_of.Goals as goal

pub returns-in-None : goal.returns-in-None
unfolding word_symbols
returns-in-None c = c.in-None.ensures.place

pub returns-in-Some : goal.returns-in-Some
unfolding word_symbols
returns-in-Some c = c.in-Some.ensures.place
