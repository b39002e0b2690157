use Rattle.std.proofs.Common.{◌≡◌, ◌∙◌, ◌+◌, length, Ok, drop, sym, ap}
use Rattle.std.proofs.lemmas.List.{drop-drop}
use Rattle.ep_fields.proofs.Names.{named}
use Rattle.ep_fields.specs.Fields.{behind, field_of}
use Rattle.ep_fields.proofs.reader.FieldReader.name.Goals as goal

pub returns : goal.returns
returns c =
    let text = c.in-Some.text.now in
    let inside = c.self.inside in
    let moved : behind (4 + length text) c.args.self.now ≡ record { place = inside.place + (4 + length text); rest = drop (inside.place + (4 + length text)) inside.bytes.now } =
    rw (← c.self.view_is) (ap (λ rest. record { place = inside.place + (4 + length text); rest = rest }) (drop-drop (4 + length text) inside.place inside.bytes.now)) in
    named c.args.self.now text c.in-Some-2.name (ap field_of (sym c.rest.ensures) ∙ sym c.in-Some.ensures.is) (sym c.in-Some-2.is ∙ c.in_ok-name.ensures)
    ∙ ap (λ p. Ok (c.in-Some-2.name, p)) moved
