use Rattle.std.proofs.Common.{◌≡◌, Some, refl, ◌∙◌, ap, rules}
use Rattle.ep_frames.specs.Stacks.{value_under_word, word_top}
use Rattle.ep_object.specs.Parts.{index_any_row, value_element}
use Rattle.ep_rows.specs.Taken.{element_told}
use Rattle.ep_rows.proofs.Elements.{under_word}
use Rattle.ep_rows.proofs.parts.element.Goals as goal

pub returns-in-Broken-clause-done : goal.returns-in-Broken-clause-done
returns-in-Broken-clause-done c =
    let index = c.in-Some-word_top.index in
    let is : Some (c.in-Some.array, c.in-Some.words.now) ≡ value_under_word c.args.stack.now = search rules in
    let top : Some index ≡ word_top c.args.stack.now = search rules in
    let under = under_word c.args.stack.now index c.in-Some.array c.in-Some.words.now is top in
    let told : value_element c.args.types.now index c.in-Some.array c.in-Some.words.now under.0 ≡ element_told c.in-Some.words.now c.element_found.result under.0 = search rules in
    let row : index_any_row c.args.types.now c.args.memory.now.segments c.args.stack.now ≡ element_told c.in-Some.words.now c.element_found.result under.0 =
    ap (index_any_row c.args.types.now c.args.memory.now.segments) under.1 ∙ told in
    let broken = rw c.in-Broken.is at row in
    rw broken (search (rules, c.requires))

pub returns-in-Outside-clause-done : goal.returns-in-Outside-clause-done
returns-in-Outside-clause-done c =
    let index = c.in-Some-word_top.index in
    let is : Some (c.in-Some.array, c.in-Some.words.now) ≡ value_under_word c.args.stack.now = search rules in
    let top : Some index ≡ word_top c.args.stack.now = search rules in
    let under = under_word c.args.stack.now index c.in-Some.array c.in-Some.words.now is top in
    let told : value_element c.args.types.now index c.in-Some.array c.in-Some.words.now under.0 ≡ element_told c.in-Some.words.now c.element_found.result under.0 = search rules in
    let row : index_any_row c.args.types.now c.args.memory.now.segments c.args.stack.now ≡ element_told c.in-Some.words.now c.element_found.result under.0 =
    ap (index_any_row c.args.types.now c.args.memory.now.segments) under.1 ∙ told in
    let outside = rw c.in-Outside.is at row in
    rw outside (c.outside.ensures.done c.in-Some.words.now c.args.stack.now refl)

pub returns-in-There-clause-done : goal.returns-in-There-clause-done
returns-in-There-clause-done c =
    let index = c.in-Some-word_top.index in
    let is : Some (c.in-Some.array, c.in-Some.words.now) ≡ value_under_word c.args.stack.now = search rules in
    let top : Some index ≡ word_top c.args.stack.now = search rules in
    let under = under_word c.args.stack.now index c.in-Some.array c.in-Some.words.now is top in
    let told : value_element c.args.types.now index c.in-Some.array c.in-Some.words.now under.0 ≡ element_told c.in-Some.words.now c.element_found.result under.0 = search rules in
    let row : index_any_row c.args.types.now c.args.memory.now.segments c.args.stack.now ≡ element_told c.in-Some.words.now c.element_found.result under.0 =
    ap (index_any_row c.args.types.now c.args.memory.now.segments) under.1 ∙ told in
    let found = rw c.in-There.is at row in
    let there = rw c.in-There.is at c.element_found.ensures.there in
    rw found (c.leave_indexed.ensures.done index c.in-Some.array c.in-Some.words.now under.0 under.1 refl there)
