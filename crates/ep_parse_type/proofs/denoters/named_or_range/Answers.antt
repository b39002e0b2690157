use Rattle.std.proofs.Common.{Some, ◌∙◌, ap, subst, sym, refl}
use Rattle.ep_token.specs.declared.symbol.TheConstants as symbols
use Rattle.ep_tree.specs.Shapes.{as_named}
use Rattle.ep_tree.specs.declared.types.Core.{Core}
use Rattle.ep_grammar.specs.Descriptions.{give}
use Rattle.ep_grammar.specs.Expressions.{expression, on}
use Rattle.ep_grammar.specs.Types.{named_or_range, named_core, range_end}
use Rattle.ep_grammar.specs.Reading.{ReadOutcome, Reads}
use Rattle.ep_grammar.specs.Rules.{inside_at}
use Rattle.ep_reader.proofs.public.Shaped.{shaped_first, shaped_second, one_of}
use Rattle.ep_parse_type.proofs.denoters.named_or_range.Goals as goal

pub returns-then-sees_symbol : goal.returns-then-sees_symbol
unfolding named_or_range
returns-then-sees_symbol c =
    let same = shaped_first (inside_at c.args.room) expression Some (on symbols.RANGE) range_end as_named (give named_core) c.args.reader.now c.line-line.ensures c.in_ok-low.ensures (one_of _ _ c.if-sees_symbol.ensures) refl in
    subst (λ (o : ReadOutcome Core). Reads o c.range_end.result c.range_end.new.reader) (sym same) c.range_end.ensures

pub returns : goal.returns
unfolding named_or_range
returns c =
    shaped_second (inside_at c.args.room) expression Some (on symbols.RANGE) range_end as_named (give named_core) c.args.reader.now c.line-line.ensures c.in_ok-low.ensures (one_of _ _ c.if-sees_symbol.ensures) (ap as_named (sym c.into_inner.ensures) ∙ sym c.in_ok-name.ensures ∙ c.in-Some.is)
