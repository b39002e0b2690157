use Rattle.ep_grammar.proofs.public.Knot.{grammar_sound, grammar_complete}
use Rattle.ep_grammar.proofs.public.Refusal.{one_tree, more_levels}
use Rattle.ep_grammar.proofs.laws.laws_of_the_grammar.Goals as goal

pub returns-clause-sound : goal.returns-clause-sound
returns-clause-sound c = grammar_sound

pub returns-clause-complete : goal.returns-clause-complete
returns-clause-complete c = grammar_complete

pub returns-clause-one_tree : goal.returns-clause-one_tree
returns-clause-one_tree c = one_tree

pub returns-clause-more_levels : goal.returns-clause-more_levels
returns-clause-more_levels c = more_levels
