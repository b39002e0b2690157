-- Walks from units to suppliers of theirs, and the circles at their ends.
use Rattle.std.proofs.Common.{◌≡◌, ℕ, ◌<◌, ◌+◌, Bool, true, false, ◌⊎◌, arith, List, [], ◌∷◌, ◌++◌, length, reverse, take, drop, get_or, slice_get, Some, inl, inr, sym, subst, ◌∙◌, ap}
use Rattle.std.specs.List.{All, Contains}
use Rattle.std.specs.Ordering.{is_lt, nat_cmp}
use Rattle.std.specs.declared.cmp.Ordering.{Ordering}
use Rattle.std.specs.Cmp.Lexicographic.{slice_cmp}
use Rattle.std.proofs.lemmas.Option.{slice_get-get_or}
use Rattle.std.proofs.lemmas.List.{take-append-drop, map-append}
use Rattle.std.proofs.lemmas.List.Elements.{All-append, All-drop, All-take, All-map, All-weaker, All-contains, Contains-push_cases, Contains-append_left}
use Rattle.std.proofs.lemmas.List.Sorted.{All-permutation, IsPermutation-reverse}
use Rattle.ep_order.specs.declared.dependent.Dependent.{Dependent}
use Rattle.ep_order.specs.Systems.{Supplies, IsUpTo}
use Rattle.ep_order.specs.Circles.{Follows, IsApart, IsCircle}
use Rattle.ep_order.specs.Dependents.{IsModuleAt, IsSystem, name_at, names_at, system_of}
use Rattle.ep_order.specs.Placings.{SuppliesAt, IsWalk}
use Rattle.ep_order.proofs.Lists.{contains_none, contains_cases, contains_at, all_from, drop_at, same_or_not}
use Rattle.ep_order.proofs.public.Laws.{upto_itself, upto_trans, upto_below, upto_back}
use Rattle.ep_order.proofs.Chains.{IsRing, ring_turn, ring_reverse, ring_of_walk, follows_more, follows_map, apart_push, apart_behind, apart_turn, apart_reverse, apart_map}
use Rattle.ep_order.proofs.Naming.{one_place, module_within, supplies_names}

pub walk_begin : (units : List Dependent) (start : ℕ) → IsModuleAt units start → IsWalk units [] start
walk_begin units start m = record {
  apart = tt;
  modules = λ other has. elim (contains_cases start [] other has) [ inl e ↦ subst (IsModuleAt units) e m | inr c ↦ absurd (contains_none other c) ];
  supplied = tt;
}

pub walk_more : (units : List Dependent) (path : List ℕ) (place supplier : ℕ) → IsWalk units path place → ¬ Contains path place → SuppliesAt units supplier place → IsModuleAt units supplier → IsWalk units (path ++ place ∷ []) supplier
walk_more units path place supplier w new at m = record {
  apart = apart_push path place w.apart new;
  modules = λ other has. elim (Contains-push_cases (path ++ place ∷ []) supplier other has) [ inl c ↦ w.modules other c | inr e ↦ subst (IsModuleAt units) e m ];
  supplied = follows_more (λ client other. SuppliesAt units other client) path place supplier w.supplied at;
}

module _ (units : List Dependent) (system : IsSystem units) (path : List ℕ) (again begin : ℕ) (walk : IsWalk units path again) (at : slice_get path begin ≡ Some again) where
  -- the end of the walk, from its end to its beginning
  abbrev pub back_round : List ℕ
  back_round = reverse (drop begin path)

  pub back_modules : All (IsModuleAt units) back_round
  back_modules =
      let on_path : All (IsModuleAt units) path = all_from (IsModuleAt units) path (λ i place e. walk.modules place (Contains-append_left path (again ∷ []) place (contains_at path i place e))) in
      All-permutation (IsModuleAt units) (drop begin path) back_round (IsPermutation-reverse (drop begin path)) (All-drop (IsModuleAt units) begin path on_path)

  back_ring : IsRing (SuppliesAt units) back_round
  back_ring = ring_reverse (λ client other. SuppliesAt units other client) (drop begin path) (ring_of_walk (λ client other. SuppliesAt units other client) path begin again walk.supplied at)

  back_apart : IsApart back_round
  back_apart = apart_reverse (drop begin path) (apart_behind (take begin path) (drop begin path) (subst IsApart (sym (take-append-drop begin path)) walk.apart))

  module _ (least : ℕ) (within : least < length back_round) (first : All (λ place. IsUpTo (name_at units (get_or back_round least 0)) (name_at units place)) back_round) where
    turned : drop least back_round ++ take least back_round ≡ get_or back_round least 0 ∷ (drop (least + 1) back_round ++ take least back_round)
    turned = ap (λ l. l ++ take least back_round) (drop_at back_round least (get_or back_round least 0) (slice_get-get_or back_round least 0 within))

    modules_turned : All (IsModuleAt units) (drop least back_round ++ take least back_round)
    modules_turned = All-append (IsModuleAt units) (drop least back_round) (take least back_round) (All-drop (IsModuleAt units) least back_round back_modules) (All-take (IsModuleAt units) least back_round back_modules)

    pub round_within : All (λ place. place < length units) (drop least back_round ++ take least back_round)
    round_within = All-weaker (IsModuleAt units) (λ place. place < length units) (module_within units) (drop least back_round ++ take least back_round) modules_turned

    circle_at : (x : ℕ) (xs : List ℕ) → drop least back_round ++ take least back_round ≡ x ∷ xs → All (λ place. IsUpTo (name_at units x) (name_at units place)) xs → IsCircle (system_of units) (names_at units (x ∷ xs))
    circle_at x xs is up =
        let ring : IsRing (SuppliesAt units) (x ∷ xs) = subst (IsRing (SuppliesAt units)) is (ring_turn (SuppliesAt units) (take least back_round) (drop least back_round) (subst (IsRing (SuppliesAt units)) (sym (take-append-drop least back_round)) back_ring)) in
        let apart : IsApart (x ∷ xs) = subst IsApart is (apart_turn (take least back_round) (drop least back_round) (subst IsApart (sym (take-append-drop least back_round)) back_apart)) in
        let modules : All (IsModuleAt units) (x ∷ xs) = subst (All (IsModuleAt units)) is modules_turned in
        record {
          apart = apart_map (name_at units) (x ∷ xs) (λ a b p q e. let m = All-contains (IsModuleAt units) (x ∷ xs) a modules p in let n = All-contains (IsModuleAt units) (x ∷ xs) b modules q in one_place units system a b m.0 n.0 m.1 n.1 e) apart;
          supplied = subst (Follows (Supplies (system_of units))) (map-append (name_at units) (x ∷ xs) (x ∷ [])) (follows_map (SuppliesAt units) (Supplies (system_of units)) (name_at units) (supplies_names units) (x ∷ xs ++ x ∷ []) ring);
          least = All-map (IsUpTo (name_at units x)) (name_at units) xs up;
        }

    pub round_circle : IsCircle (system_of units) (names_at units (drop least back_round ++ take least back_round))
    round_circle = subst (λ l. IsCircle (system_of units) (names_at units l)) (sym turned)
        (circle_at (get_or back_round least 0) (drop (least + 1) back_round ++ take least back_round) turned
        (All-append (λ place. IsUpTo (name_at units (get_or back_round least 0)) (name_at units place)) (drop (least + 1) back_round) (take least back_round)
        (All-drop (λ place. IsUpTo (name_at units (get_or back_round least 0)) (name_at units place)) (least + 1) back_round first) (All-take (λ place. IsUpTo (name_at units (get_or back_round least 0)) (name_at units place)) least back_round first)))

-- ---- the least name so far

pub least_more : (units : List Dependent) (places : List ℕ) (least number next : ℕ) (x y : List ℕ) (o : Ordering) (r : Bool) → x ≡ name_at units (get_or places number 0) → y ≡ name_at units (get_or places least 0) → o ≡ slice_cmp nat_cmp x y → r ≡ is_lt o
    → ((k : ℕ) → k < number → IsUpTo (name_at units (get_or places least 0)) (name_at units (get_or places k 0))) → ((r ≡ true) × (next ≡ number)) ⊎ ((r ≡ false) × (next ≡ least))
    → (k : ℕ) → k < number + 1 → IsUpTo (name_at units (get_or places next 0)) (name_at units (get_or places k 0))
least_more units places least number next x y o r ex ey eo er before cases k l = go cases (same_or_not k number)
  where
    told : r ≡ is_lt (slice_cmp nat_cmp (name_at units (get_or places number 0)) (name_at units (get_or places least 0)))
    told = er ∙ ap is_lt (eo ∙ ap (λ z. slice_cmp nat_cmp z y) ex ∙ ap (slice_cmp nat_cmp (name_at units (get_or places number 0))) ey)

    at : (n : ℕ) → next ≡ n → IsUpTo (name_at units (get_or places n 0)) (name_at units (get_or places k 0)) → IsUpTo (name_at units (get_or places next 0)) (name_at units (get_or places k 0))
    at n e h = subst (λ m. IsUpTo (name_at units (get_or places m 0)) (name_at units (get_or places k 0))) (sym e) h

    go : ((r ≡ true) × (next ≡ number)) ⊎ ((r ≡ false) × (next ≡ least)) → (k ≡ number) ⊎ (k ≡ number → ⊥) → IsUpTo (name_at units (get_or places next 0)) (name_at units (get_or places k 0))
    go (inl (t, e)) (inl same) = at number e (subst (λ m. IsUpTo (name_at units (get_or places number 0)) (name_at units (get_or places m 0))) (sym same) (upto_itself (name_at units (get_or places number 0))))
    go (inl (t, e)) (inr ne) = at number e (upto_trans (name_at units (get_or places number 0)) (name_at units (get_or places least 0)) (name_at units (get_or places k 0)) (upto_below (name_at units (get_or places number 0)) (name_at units (get_or places least 0)) (sym told ∙ t)) (before k (omega arith)))
    go (inr (f, e)) (inl same) = at least e (subst (λ m. IsUpTo (name_at units (get_or places least 0)) (name_at units (get_or places m 0))) (sym same) (upto_back (name_at units (get_or places least 0)) (name_at units (get_or places number 0)) (sym told ∙ f)))
    go (inr (f, e)) (inr ne) = at least e (before k (omega arith))
