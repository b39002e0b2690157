-- Components and words one for one, for `same_parts` and `same_words` of src/type_entry.rt.
use Rattle.std.proofs.Common.{◌≡◌, ◌≢◌, ℤ, suc, ◌==◌, ◌&&◌, Bool, true, false, List, [], ◌∷◌, length, refl, sym, ap}
use Rattle.ep_object.specs.Types.{same_parts, same_word, same_words}
use Rattle.ep_object.specs.declared.state.RecordPart.{RecordPart}

-- lists of other lengths are not the same
pub other_lengths : (ps qs : List RecordPart) → length ps ≢ length qs → false ≡ same_parts ps qs
other_lengths [] [] differ = absurd (differ refl)
other_lengths [] (q ∷ qs) differ = refl
other_lengths (p ∷ ps) [] differ = refl
other_lengths (p ∷ ps) (q ∷ qs) differ =
    let others : false ≡ same_parts ps qs = other_lengths ps qs (λ same. differ (ap suc same)) in
    rw (sym others) (go (p.type_number == q.type_number && p.offset == q.offset))
  where
    go : (b : Bool) → false ≡ b && false
    go true = refl
    go false = refl

-- and neither are words of other numbers
pub other_counts : (ws zs : List ℤ) → length ws ≢ length zs → false ≡ same_words ws zs
other_counts [] [] differ = absurd (differ refl)
other_counts [] (z ∷ zs) differ = refl
other_counts (w ∷ ws) [] differ = refl
other_counts (w ∷ ws) (z ∷ zs) differ =
    let others : false ≡ same_words ws zs = other_counts ws zs (λ same. differ (ap suc same)) in
    rw (sym others) (go (same_word w z))
  where
    go : (b : Bool) → false ≡ b && false
    go true = refl
    go false = refl
