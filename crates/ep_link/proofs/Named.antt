-- A map with names as its keys, seen by the names, after an insert, and the placement that is found first.
use Rattle.std.proofs.Common.{◌≡◌, ℕ, Bool, true, false, cond, List, ◌∷◌, Option, Some, None, is_some, refl, sym}
use Rattle.std.proofs.Common.{ap, subst, ◌∙◌}
use Rattle.std.specs.Option.{option_map}
use Rattle.std.specs.Ordering.{is_eq, nat_cmp}
use Rattle.std.specs.Cmp.{eq_by_cmp_equiv}
use Rattle.std.specs.Cmp.Lexicographic.{slice_cmp, bytes_decides, nat_list_cmp_total, nat_list_eq_equiv}
use Rattle.std.specs.Str.{bytes_eq}
use Rattle.std.specs.Map.{lookup, IsKeyTest, AreApart, KeepsOthers}
use Rattle.std.specs.BTreeMap.{BTreeMap, UpdatesBy, get_by}
use Rattle.std.proofs.lemmas.Map.Text.{is_eq-slice_cmp}
use Rattle.std.specs.declared.vec.Vec.{Vec}
use Rattle.std.specs.declared.alloc.Global.{Global}
use Rattle.ep_object.specs.Placing.{Placement, placement_of}
use Rattle.ep_object.specs.declared.code.Object.{Object}
use Rattle.ep_link.specs.Placements.{nameless, placement_at}
use Rattle.ep_link.specs.Units.{if_none, with_first}
use Rattle.ep_link.specs.declared.placement.Bases.{Bases}
use Rattle.ep_link.specs.declared.placement.Placement.{Placement as Nameless}
use Rattle.ep_link.proofs.Placed.{bases_behind, placements_at}

-- what the map has at these bytes
abbrev pub at_bytes : {X : Type 0} → BTreeMap (Vec ℕ Global) X → List ℕ → Option X
at_bytes m bytes = get_by (λ key. slice_cmp nat_cmp bytes key.items) m

-- a key that ties with some bytes doesn't tie with others
apart : (bs cs ks : List ℕ) → bytes_eq bs cs ≡ false → is_eq (slice_cmp nat_cmp bs ks) ≡ true
    → is_eq (slice_cmp nat_cmp cs ks) ≡ false
apart bs cs ks n y =
    let same : bytes_eq bs ks ≡ true = sym (is_eq-slice_cmp bs ks) ∙ y in
    is_eq-slice_cmp cs ks ∙ nat_list_eq_equiv.symm cs ks ∙ sym (nat_list_eq_equiv.congr bs ks cs same) ∙ n

others : {K X : Type 0} (eq : K → K → Bool) (test : K → Bool) (old new : List (K × X)) → KeepsOthers eq test old new
    → (other : K → Bool) → IsKeyTest eq other → AreApart test other → lookup other new ≡ lookup other old
unfolding KeepsOthers
others eq test old new h = h

-- other bytes keep what they had
at_others : {X : Type 0} (bs : List ℕ) (m n : BTreeMap (Vec ℕ Global) X) (w : Option X)
    → UpdatesBy (λ x y. slice_cmp nat_cmp x.items y.items) (λ key. slice_cmp nat_cmp bs key.items) m n w
    → (cs : List ℕ) → bytes_eq bs cs ≡ false → at_bytes n cs ≡ at_bytes m cs
at_others bs m n w h cs e =
    others _ _ _ _ h.3 _ (λ x y. (eq_by_cmp_equiv nat_list_cmp_total).congr cs x.items y.items)
    (λ key. apart bs cs key.items e)

-- nothing more is found
pub found-all : (found : Option Nameless) → if_none found None ≡ found
found-all None = refl
found-all (Some p) = refl

-- an insert at bytes that had nothing
pub first_inserted : (bs : List ℕ) (m n : BTreeMap (Vec ℕ Global) Nameless) (p : Nameless)
    → is_some (at_bytes m bs) ≡ false
    → UpdatesBy (λ x y. slice_cmp nat_cmp x.items y.items) (λ key. slice_cmp nat_cmp bs key.items) m n (Some p)
    → (cs : List ℕ) → at_bytes n cs ≡ with_first (at_bytes m) bs p cs
first_inserted bs m n p none h cs = go (bytes_eq bs cs) refl
  where
    nothing : (o : Option Nameless) → is_some o ≡ false → o ≡ None
    nothing None e = refl
    nothing (Some q) e = cc

    go : (b : Bool) → bytes_eq bs cs ≡ b → at_bytes n cs ≡ if_none (at_bytes m cs) (cond b (Some p) None)
    go true e =
        let same : bs ≡ cs = (bytes_decides bs cs).0 e in
        subst (λ l. at_bytes n l ≡ Some p) same h.1
        ∙ sym (ap (λ o. if_none o (Some p)) (subst (λ l. at_bytes m l ≡ None) same (nothing (at_bytes m bs) none)))
    go false e = at_others bs m n (Some p) h cs e ∙ sym (found-all (at_bytes m cs))

-- nothing is added where a placement of the name is there
pub first_stays : (bs : List ℕ) (m : BTreeMap (Vec ℕ Global) Nameless) (p : Nameless)
    → is_some (at_bytes m bs) ≡ true → (cs : List ℕ) → at_bytes m cs ≡ with_first (at_bytes m) bs p cs
first_stays bs m p there cs = go (bytes_eq bs cs) refl
  where
    full : (o : Option Nameless) (q : Option Nameless) → is_some o ≡ true → o ≡ if_none o q
    full None q h = cc
    full (Some x) q h = refl

    go : (b : Bool) → bytes_eq bs cs ≡ b → at_bytes m cs ≡ if_none (at_bytes m cs) (cond b (Some p) None)
    go true e =
        let same : bs ≡ cs = (bytes_decides bs cs).0 e in
        full (at_bytes m cs) (Some p) (subst (λ l. is_some (at_bytes m l) ≡ true) same there)
    go false e = sym (found-all (at_bytes m cs))

-- what objects that follow give a name
abbrev pub found_at : Bases → List Object → List ℕ → Option Nameless
found_at b os name = option_map nameless (placement_of (placements_at b os) name)

-- one more unit is the one that the first of these objects gave
pub found-more : (found : List ℕ → Option Nameless) (b : Bases) (o : Object) (os : List Object) (name : List ℕ)
    → if_none (with_first found o.name (nameless (placement_at b o)) name) (found_at (bases_behind b o) os name)
    ≡ if_none (found name) (found_at b (o ∷ os) name)
found-more found b o os name =
    go (found name) (bytes_eq o.name name) (placement_of (placements_at (bases_behind b o) os) name)
  where
    go : (f : Option Nameless) (same : Bool) (rest : Option Placement)
        → if_none (if_none f (cond same (Some (nameless (placement_at b o))) None)) (option_map nameless rest)
        ≡ if_none f (option_map nameless (cond same (Some (placement_at b o)) rest))
    go (Some x) same rest = refl
    go None true rest = refl
    go None false rest = refl
