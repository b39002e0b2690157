use Rattle.std.proofs.Common.{◌≡◌, ◌∷◌, ◌∙◌, Some, ap, sym, subst, rules, w64, of_z, to_z}
use Rattle.std.specs.Prelude.{int_lt}
use Rattle.ep_frames.specs.Stacks.{value_top}
use Rattle.ep_object.specs.Effects.{Continues, having}
use Rattle.ep_object.specs.Operands.{Word}
use Rattle.ep_object.specs.Parts.{defined_any_row, one_word}
use Rattle.ep_object.specs.State.{undefined}
use Rattle.ep_object.specs.WordRows.{bit}
use Rattle.ep_rows.specs.Steps.{IsStep}
use Rattle.ep_rows.proofs.Elements.{on_value}
use Rattle.ep_rows.proofs.parts.defined.Goals as goal

pub returns-in-Some-one_word : goal.returns-in-Some-one_word
returns-in-Some-one_word c =
    let is : Some (c.in-Some.type_number, c.in-Some.words.now) ≡ value_top c.args.stack.now = search rules in
    let top = on_value c.args.stack.now c.in-Some.type_number c.in-Some.words.now is in
    let word : one_word c.args.types.now c.in-Some.type_number c.in-Some.words.now ≡ Some c.in-Some-one_word.word = sym c.one_word.ensures ∙ c.in-Some-one_word.is in
    let row : defined_any_row c.args.types.now c.args.memory.now.segments c.args.stack.now ≡ Continues (Word (bit (int_lt undefined c.in-Some-one_word.word)) ∷ top.0) =
    ap (defined_any_row c.args.types.now c.args.memory.now.segments) top.1 ∙ ap (λ o. having o (λ w. Continues (Word (bit (int_lt undefined w)) ∷ top.0))) word
    in
    let same : to_z w64 (of_z w64 c.in-Some-one_word.word) ≡ c.in-Some-one_word.word = search rules in
    let told : IsStep (Continues (Word (bit (int_lt undefined c.in-Some-one_word.word)) ∷ top.0)) c.tell.result c.tell.new.stack =
    subst (λ w. IsStep (Continues (Word (bit (int_lt undefined w)) ∷ top.0)) c.tell.result c.tell.new.stack) same (c.tell.ensures c.in-Some.type_number c.in-Some.words.now top.0 top.1)
    in
    subst (λ e. IsStep e c.tell.result c.tell.new.stack) (sym row) told
