-- A text that is derived has a mark for each of its tokens.
use Rattle.std.proofs.Common.{ℕ, zero, suc, Bool, [], arith}
use Rattle.ep_grammar.specs.Descriptions.{Nonterminal}
use Rattle.ep_grammar.specs.Reading.{read_inside}
use Rattle.ep_grammar.specs.Rules.{rule, inside_at}
use Rattle.ep_grammar.specs.Units as grammar
use Rattle.ep_grammar.proofs.public.Outcomes.{never}
use Rattle.ep_grammar.proofs.public.Knot.{grammar_complete}
use Rattle.ep_marks.specs.Productions.{components, style}
use Rattle.ep_marks.specs.Texts.{inner_at, StylesFit, EachTokenIsMarked}
use Rattle.ep_marks.proofs.Counts.{Shrinks, Marked, read-shrinks, counts}
use Rattle.ep_marks.proofs.Fits.{fits-rule, fits-components}

shrinks-at : (k : ℕ) (n : Nonterminal) → Shrinks (read_inside (inside_at k) n)
unfolding inside_at
shrinks-at zero n i x j e = never e
shrinks-at (suc k) n i x j e = read-shrinks (inside_at k) (shrinks-at k) (rule n) i x j e

marked-at : (k : ℕ) (in_record : Bool) (n : Nonterminal) → Marked (read_inside (inside_at k) n) (inner_at k in_record n)
unfolding inside_at inner_at
marked-at zero in_record n i x j e = never e
marked-at (suc k) in_record n i x j e = counts (inside_at k) (inner_at k) (shrinks-at k) (marked-at k) (style in_record n) (rule n) (fits-rule in_record n) i x j e

pub styles-fit : StylesFit
styles-fit = (fits-components, fits-rule)

pub each-is-marked : EachTokenIsMarked
each-is-marked k ts cs g =
    omega (arith, counts (inside_at k) (inner_at k) (shrinks-at k) (marked-at k) components grammar.components fits-components ts cs [] (grammar_complete k ts cs g))
