-- What is found among the names of a list is found in the list.
use Rattle.std.proofs.Common.{◌≡◌, ℕ, Bool, true, false, ◌||◌, List, [], ◌∷◌, ◌++◌, map, refl, sym, ap, ◌∙◌}
use Rattle.std.specs.Bool.{one_answer}
use Rattle.std.specs.Global.{Vec}
use Rattle.std.specs.List.{list_any}
use Rattle.std.specs.Prelude.{if◌then◌else◌}
use Rattle.std.specs.Str.{bytes_eq}
use Rattle.std.proofs.lemmas.List.{map-append}
use Rattle.std.proofs.lemmas.Slice.Eq.{bytes_eq-Decides}
use Rattle.indexmap.specs.IndexSet.{insert_key}
use Rattle.ep_scope.specs.declared.parameter.FormalParameter.{FormalParameter}
use Rattle.ep_unit_rules.specs.Answers.{field_in}
use Rattle.ep_unit_rules.specs.Records.{has_field}
use Rattle.ep_unit_rules.specs.Formals.{is_parameter}
use Rattle.ep_unit_rules.specs.declared.records.WrittenField.{WrittenField}

swapped : (xs ys : List ℕ) → bytes_eq xs ys ≡ bytes_eq ys xs
swapped xs ys =
    let d = bytes_eq-Decides ys xs in
    one_answer (bytes_eq xs ys) (bytes_eq ys xs) (bytes_eq-Decides xs ys) (λ h. sym (d.0 h), λ e. d.1 (sym e))

-- ---- keys

-- a set of byte strings has a name where it is among their bytes
pub found_by_bytes : (name : List ℕ) (keys : List (Vec ℕ)) → list_any (λ k. bytes_eq name k.items) keys ≡ list_any (bytes_eq name) (map (λ k. k.items) keys)
found_by_bytes name [] = refl
found_by_bytes name (k ∷ ks) = ap (λ b. bytes_eq name k.items || b) (found_by_bytes name ks)

module _ (key : Vec ℕ) where
  added_last : (b : Bool) (keys : List (Vec ℕ)) → b ≡ false → map (λ k. k.items) (if b then keys else keys ++ key ∷ []) ≡ map (λ k. k.items) keys ++ key.items ∷ []
  added_last true keys absent = cc
  added_last false keys absent = map-append (λ (k : Vec ℕ). k.items) keys (key ∷ [])

  -- a key that is not there goes last
  pub key_added : (keys new : List (Vec ℕ)) (old : List (List ℕ)) (name : List ℕ) → map (λ k. k.items) keys ≡ old → key.items ≡ name → list_any (bytes_eq name) old ≡ false
      → new ≡ insert_key (λ x y. bytes_eq x.items y.items) keys key → map (λ k. k.items) new ≡ old ++ name ∷ []
  key_added keys new old name view items absent grows =
      rw (grows, ← view, ← items) (added_last (list_any (λ k. bytes_eq key.items k.items) keys) keys (found_by_bytes key.items keys ∙ rw (view, items) absent))

-- ---- parameters and fields

pub found_parameter : (name : List ℕ) (ps : List FormalParameter) → list_any (bytes_eq name) (map (λ p. p.name) ps) ≡ is_parameter name ps
found_parameter name [] = refl
found_parameter name (p ∷ ps) = rw (swapped name p.name, found_parameter name ps) refl

pub found_field : (name : List ℕ) (fields : List WrittenField) → list_any (bytes_eq name) (map (λ f. f.name) fields) ≡ has_field (map field_in fields) name
found_field name [] = refl
found_field name (f ∷ fs) = rw (swapped name f.name, found_field name fs) refl
