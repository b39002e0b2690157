use Rattle.std.proofs.Common.{◌≡◌, ◌≢◌, length, Ok, Err, subst, sym, ap, ◌∙◌, arith}
use Rattle.ep_grammar.specs.declared.stop.TheConstants as stop
use Rattle.ep_grammar.specs.declared.stop.Stop.TheVariants.{NoMemory}
use Rattle.ep_grammar.specs.Rules.{read_components}
use Rattle.ep_parse.specs.Refusals.{Refuses}
use Rattle.ep_parse.proofs.Texts.{derived, only, only_memory, refused_stop, refused_left}
use Rattle.ep_parse.proofs.text.components.Goals as goal

pub returns-then-left-gt0-clause-accepted : goal.returns-then-left-gt0-clause-accepted
returns-then-left-gt0-clause-accepted c list d =
    let h : read_components stop.MAX_NESTING c.args.tokens.now ≡ Ok (c.in-Ok.found.items, c.all_components.new.reader) = subst (λ ts. read_components stop.MAX_NESTING ts ≡ Ok (c.in-Ok.found.items, c.all_components.new.reader)) c.new-reader.ensures c.in-Ok.ensures.found in
    let none = (only stop.MAX_NESTING c.args.tokens.now c.in-Ok.found.items list c.all_components.new.reader h d).1 in
    absurd (omega (arith, ap length none))

pub returns-then-left-gt0-clause-refused : goal.returns-then-left-gt0-clause-refused
returns-then-left-gt0-clause-refused c =
    let h : read_components stop.MAX_NESTING c.args.tokens.now ≡ Ok (c.in-Ok.found.items, c.all_components.new.reader) = subst (λ ts. read_components stop.MAX_NESTING ts ≡ Ok (c.in-Ok.found.items, c.all_components.new.reader)) c.new-reader.ensures c.in-Ok.ensures.found in
    subst (Refuses stop.MAX_NESTING c.args.tokens.now) (sym c.refusal.ensures) (refused_left stop.MAX_NESTING c.args.tokens.now c.in-Ok.found.items c.all_components.new.reader h (omega arith))

pub returns-else-left-gt0-clause-derived : goal.returns-else-left-gt0-clause-derived
returns-else-left-gt0-clause-derived c =
    let h : read_components stop.MAX_NESTING c.args.tokens.now ≡ Ok (c.in-Ok.found.items, c.all_components.new.reader) = subst (λ ts. read_components stop.MAX_NESTING ts ≡ Ok (c.in-Ok.found.items, c.all_components.new.reader)) c.new-reader.ensures c.in-Ok.ensures.found in
    derived stop.MAX_NESTING c.args.tokens.now c.in-Ok.found.items c.all_components.new.reader h (omega arith)

pub returns-else-left-gt0-clause-accepted : goal.returns-else-left-gt0-clause-accepted
returns-else-left-gt0-clause-accepted c list d =
    let h : read_components stop.MAX_NESTING c.args.tokens.now ≡ Ok (c.in-Ok.found.items, c.all_components.new.reader) = subst (λ ts. read_components stop.MAX_NESTING ts ≡ Ok (c.in-Ok.found.items, c.all_components.new.reader)) c.new-reader.ensures c.in-Ok.ensures.found in
    (only stop.MAX_NESTING c.args.tokens.now c.in-Ok.found.items list c.all_components.new.reader h d).0

pub returns-in-Err-clause-accepted : goal.returns-in-Err-clause-accepted
returns-in-Err-clause-accepted c list d =
    let h : c.in-Err.stop ≢ NoMemory → read_components stop.MAX_NESTING c.args.tokens.now ≡ Err (c.in-Err.stop, c.all_components.new.reader) = λ some. subst (λ ts. read_components stop.MAX_NESTING ts ≡ Err (c.in-Err.stop, c.all_components.new.reader)) c.new-reader.ensures (c.in-Err.ensures.stopped some) in
    c.refusal-in-Err.ensures ∙ only_memory stop.MAX_NESTING c.args.tokens.now c.in-Err.stop c.all_components.new.reader list _ _ h d

pub returns-in-Err-clause-refused : goal.returns-in-Err-clause-refused
returns-in-Err-clause-refused c =
    let h : c.in-Err.stop ≢ NoMemory → read_components stop.MAX_NESTING c.args.tokens.now ≡ Err (c.in-Err.stop, c.all_components.new.reader) = λ some. subst (λ ts. read_components stop.MAX_NESTING ts ≡ Err (c.in-Err.stop, c.all_components.new.reader)) c.new-reader.ensures (c.in-Err.ensures.stopped some) in
    subst (Refuses stop.MAX_NESTING c.args.tokens.now) (sym c.refusal-in-Err.ensures) (refused_stop stop.MAX_NESTING c.args.tokens.now c.in-Err.stop c.all_components.new.reader h)
