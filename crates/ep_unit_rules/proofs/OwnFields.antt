-- The fields of a list that are in none of its variants are taken one after another.
use Rattle.std.proofs.Common.{◌≡◌, ℕ, suc, ◌+◌, ◌<◌, List, [], ◌∷◌, ◌++◌, map, length, drop, get_or, None, sym, ap, ◌∙◌, append_assoc, arith}
use Rattle.ep_scope.specs.declared.structure.FieldType.{FieldType}
use Rattle.ep_check_expr.proofs.public.Rows.{left-cons as next_item}
use Rattle.ep_unit_rules.specs.Answers.{field_in}
use Rattle.ep_unit_rules.specs.Records.{Field, own_fields}
use Rattle.ep_unit_rules.specs.declared.records.WrittenField.{WrittenField}

-- the field of this number
abbrev pub own_field : ℕ → Field → FieldType
own_field number f = record { name = f.name; of = f.of; kind = f.kind; path = []; number = number; tag = None }

-- one more stands behind those before
pub next_own : (fields : List WrittenField) (n : ℕ) (f : WrittenField) → n < length fields → f ≡ get_or fields n f → (all : List FieldType)
    → (all ++ own_field n (field_in f) ∷ []) ++ own_fields (n + 1) (map field_in (drop (n + 1) fields)) ≡ all ++ own_fields n (map field_in (drop n fields))
next_own fields n f lt is all =
    let rest : List Field = map field_in (drop (n + 1) fields) in
    append_assoc all (own_field n (field_in f) ∷ []) (own_fields (n + 1) rest)
    ∙ ap (λ l. all ++ l) (ap (λ m. own_field n (field_in f) ∷ own_fields m rest) {x = n + 1} {y = suc n} (omega arith) ∙ sym (ap (λ xs. own_fields n (map field_in xs)) (next_item fields n f lt is)))
