-- What the keys of a table stand for.
use Rattle.std.specs.Prelude.{ℕ, List, map}
use Rattle.std.specs.Global.{Vec}
use Rattle.ep_object.specs.declared.code.Reference.{Reference}
use Rattle.ep_gen_code.specs.declared.keys.ReferenceKey.{ReferenceKey}

-- texts that are keys
abbrev pub texts_of : List (Vec ℕ) → List (List ℕ)
texts_of keys = map (λ v. v.items) keys

-- references that are keys
abbrev pub references_of : List ReferenceKey → List Reference
references_of keys = map (λ k. k.reference) keys
