use Rattle.std.proofs.Common.{◌≡◌, ◌<◌, ◌*◌, Some, None, length, sym, ◌∙◌, rules}
use Rattle.ep_values.specs.Bounds.{component_at}
use Rattle.ep_rows.proofs.Elements.{element_is, past}
use Rattle.ep_rows.proofs.Indexing.{found}
use Rattle.ep_rows.proofs.parts.element_found.Goals as goal

pub returns-in_default-component_at-clause-told : goal.returns-in_default-component_at-clause-told
returns-in_default-component_at-clause-told c st =
    let array = c.in-Some.ensures.lookup in
    let entry = c.in-Some-get.ensures.lookup in
    let number : c.component_at.result ≡ component_at c.in-Array.lo c.in-Array.hi c.args.index = search rules in
    element_is c.args.types.now c.args.words.now c.args.array c.in-Array.type_number c.args.index c.in-Array.lo c.in-Array.hi c.in-Some.entry.now c.in-Some-get.component.now None st
    (found _ _ _ array.0 array.1) c.in-Array.is (found _ _ _ entry.0 entry.1) (sym c.in_default-component_at.is ∙ number)

pub returns-in_default-offset_of-clause-told : goal.returns-in_default-offset_of-clause-told
returns-in_default-offset_of-clause-told c st =
    let array = c.in-Some.ensures.lookup in
    let entry = c.in-Some-get.ensures.lookup in
    let number : c.component_at.result ≡ component_at c.in-Array.lo c.in-Array.hi c.args.index = search rules in
    let less : length c.args.words.now < c.in-Some-component_at.number * c.in-Some-get.component.now.size = search rules in
    element_is c.args.types.now c.args.words.now c.args.array c.in-Array.type_number c.args.index c.in-Array.lo c.in-Array.hi c.in-Some.entry.now c.in-Some-get.component.now (Some c.in-Some-component_at.number) st
    (found _ _ _ array.0 array.1) c.in-Array.is (found _ _ _ entry.0 entry.1) (sym c.in-Some-component_at.is ∙ number)
    ∙ past c.args.types.now c.args.words.now (c.in-Some-component_at.number * c.in-Some-get.component.now.size) c.in-Array.type_number c.in-Some-get.component.now st (found _ _ _ entry.0 entry.1) less

pub returns-in-Some-part_of-clause-told : goal.returns-in-Some-part_of-clause-told
returns-in-Some-part_of-clause-told c st =
    let array = c.in-Some.ensures.lookup in
    let entry = c.in-Some-get.ensures.lookup in
    let number : c.component_at.result ≡ component_at c.in-Array.lo c.in-Array.hi c.args.index = search rules in
    let offset : c.in-Some-offset_of.offset ≡ c.in-Some-component_at.number * c.in-Some-get.component.now.size = search rules in
    element_is c.args.types.now c.args.words.now c.args.array c.in-Array.type_number c.args.index c.in-Array.lo c.in-Array.hi c.in-Some.entry.now c.in-Some-get.component.now (Some c.in-Some-component_at.number) st
    (found _ _ _ array.0 array.1) c.in-Array.is (found _ _ _ entry.0 entry.1) (sym c.in-Some-component_at.is ∙ number)
    ∙ rw (← offset) (c.in-Some-part_of.ensures.told st)

pub returns-in-None-clause-told : goal.returns-in-None-clause-told
returns-in-None-clause-told c st =
    let array = c.in-Some.ensures.lookup in
    let entry = c.in-Some-get.ensures.lookup in
    let number : c.component_at.result ≡ component_at c.in-Array.lo c.in-Array.hi c.args.index = search rules in
    let offset : c.in-Some-offset_of.offset ≡ c.in-Some-component_at.number * c.in-Some-get.component.now.size = search rules in
    element_is c.args.types.now c.args.words.now c.args.array c.in-Array.type_number c.args.index c.in-Array.lo c.in-Array.hi c.in-Some.entry.now c.in-Some-get.component.now (Some c.in-Some-component_at.number) st
    (found _ _ _ array.0 array.1) c.in-Array.is (found _ _ _ entry.0 entry.1) (sym c.in-Some-component_at.is ∙ number)
    ∙ rw (← offset) (c.in-None.ensures.told st)
