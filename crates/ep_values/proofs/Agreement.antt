-- Components one for one, for `agree` of src/type_value.rt.
use Rattle.std.proofs.Common.{◌≡◌, ◌≢◌, suc, ◌&&◌, Bool, true, false, List, [], ◌∷◌, length, refl, sym, ap}
use Rattle.ep_values.specs.TypeValues.{bare_each, bare_of, same_type, same_types}
use Rattle.ep_values.specs.ViewedTypes.{type_value_of, type_values_of}
use Rattle.ep_values.specs.declared.type_value.TypeValue.{TypeValue}

-- lists of other lengths do not have the same types
pub other_lengths : (ts us : List TypeValue) → length ts ≢ length us → false ≡ same_types (bare_each (type_values_of ts)) (bare_each (type_values_of us))
other_lengths [] [] differ = absurd (differ refl)
other_lengths [] (u ∷ us) differ = refl
other_lengths (t ∷ ts) [] differ = refl
other_lengths (t ∷ ts) (u ∷ us) differ =
    let others : false ≡ same_types (bare_each (type_values_of ts)) (bare_each (type_values_of us)) = other_lengths ts us (λ same. differ (ap suc same)) in
    rw (sym others) (go (same_type (bare_of (type_value_of t)) (bare_of (type_value_of u))))
  where
    go : (b : Bool) → false ≡ b && false
    go true = refl
    go false = refl
