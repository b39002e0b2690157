-- A map with lists of bytes as its keys, seen by the bytes, after an insert.
use Rattle.std.proofs.Common.{◌≡◌, ℕ, Bool, true, false, cond, List, Option, Some, refl, sym, subst, ◌∙◌}
use mathlib.Core.Logic.{⊎_elim}
use Rattle.std.specs.Option.{option_map}
use Rattle.std.specs.Ordering.{is_eq, nat_cmp}
use Rattle.std.specs.Cmp.{eq_by_cmp_equiv}
use Rattle.std.specs.Cmp.Lexicographic.{slice_cmp, bytes_decides, nat_list_cmp_total, nat_list_eq_equiv}
use Rattle.std.specs.Str.{bytes_eq}
use Rattle.std.specs.Map.{lookup, IsKeyTest, AreApart, KeepsOthers}
use Rattle.std.specs.BTreeMap.{BTreeMap, UpdatesBy, get_by}
use Rattle.std.proofs.lemmas.Bool.{cases_Bool, cond-true, cond-false}
use Rattle.std.proofs.lemmas.Map.Text.{is_eq-slice_cmp}
use Rattle.std.specs.declared.vec.Vec.{Vec}
use Rattle.std.specs.declared.alloc.Global.{Global}

-- what the map has at these bytes
abbrev pub at_bytes : {X : Type 0} → BTreeMap (Vec ℕ Global) X → List ℕ → Option X
at_bytes m bytes = get_by (λ key. slice_cmp nat_cmp bytes key.items) m

-- a key that ties with some bytes doesn't tie with others
apart : (bs cs ks : List ℕ) → bytes_eq bs cs ≡ false → is_eq (slice_cmp nat_cmp bs ks) ≡ true → is_eq (slice_cmp nat_cmp cs ks) ≡ false
apart bs cs ks n y =
    let same : bytes_eq bs ks ≡ true = sym (is_eq-slice_cmp bs ks) ∙ y in
    is_eq-slice_cmp cs ks ∙ nat_list_eq_equiv.symm cs ks ∙ sym (nat_list_eq_equiv.congr bs ks cs same) ∙ n

others : {K X : Type 0} (eq : K → K → Bool) (test : K → Bool) (old new : List (K × X)) → KeepsOthers eq test old new → (other : K → Bool) → IsKeyTest eq other → AreApart test other → lookup other new ≡ lookup other old
unfolding KeepsOthers
others eq test old new h = h

-- other bytes keep what they had
pub at_others : {X : Type 0} (bs : List ℕ) (m n : BTreeMap (Vec ℕ Global) X) (w : Option X)
    → UpdatesBy (λ x y. slice_cmp nat_cmp x.items y.items) (λ key. slice_cmp nat_cmp bs key.items) m n w → (cs : List ℕ) → bytes_eq bs cs ≡ false → at_bytes n cs ≡ at_bytes m cs
at_others bs m n w h cs e = others _ _ _ _ h.3 _ (λ x y. (eq_by_cmp_equiv nat_list_cmp_total).congr cs x.items y.items) (λ key. apart bs cs key.items e)

-- the bytes have what was put there, and others what they had
pub at_inserted : {X : Type 0} (bs : List ℕ) (m n : BTreeMap (Vec ℕ Global) X) (w : Option X)
    → UpdatesBy (λ x y. slice_cmp nat_cmp x.items y.items) (λ key. slice_cmp nat_cmp bs key.items) m n w → (cs : List ℕ) → at_bytes n cs ≡ cond (bytes_eq bs cs) w (at_bytes m cs)
at_inserted bs m n w h cs =
    ⊎_elim
    (λ y. subst (λ l. at_bytes n l ≡ w) ((bytes_decides bs cs).0 y) h.1 ∙ sym (cond-true (bytes_eq bs cs) w (at_bytes m cs) y))
    (λ no. at_others bs m n w h cs no ∙ sym (cond-false (bytes_eq bs cs) w (at_bytes m cs) no))
    (cases_Bool (bytes_eq bs cs))

-- the same of the bytes that the values hold
pub bytes_at-cond : (b : Bool) (v : Vec ℕ Global) (o : Option (Vec ℕ Global)) → option_map (λ bytes. bytes.items) (cond b (Some v) o) ≡ cond b (Some v.items) (option_map (λ bytes. bytes.items) o)
bytes_at-cond true v o = refl
bytes_at-cond false v o = refl
