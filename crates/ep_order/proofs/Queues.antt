-- For `Queue`: what is kept when a module is put in.
use Rattle.std.proofs.Common.{◌≡◌, ◌≢◌, ℕ, ◌<◌, ◌≤◌, Bool, true, false, cond, List, [], ◌∷◌, ◌++◌, length, get_or, slice_get, slice_set, Some, ◌⊎◌, inl, inr, refl, sym, subst, ◌∙◌, ap, arith}
use Rattle.std.specs.List.{All, Contains}
use Rattle.std.specs.Str.{bytes_eq}
use Rattle.std.specs.Cmp.Lexicographic.{bytes_decides}
use Rattle.std.specs.declared.vec.Vec.{Vec}
use Rattle.std.specs.declared.alloc.Global.{Global}
use Rattle.std.proofs.lemmas.Option.{slice_get-get_or, slice_get_within, same_Some}
use Rattle.std.proofs.lemmas.List.Elements.{Contains-push, Contains-push_cases, Contains-append_left, All-contains}
use Rattle.ep_order.specs.declared.dependent.Dependent.{Dependent}
use Rattle.ep_order.specs.declared.queue.Waiter.{Waiter}
use Rattle.ep_order.specs.declared.queue.Queue.{Queue}
use Rattle.ep_order.specs.Dependents.{StandsAt, IsModuleAt, IsSystem, name_at, name_of}
use Rattle.ep_order.specs.Placings.{IsReadyAt, ArePlacedBefore}
use Rattle.ep_order.specs.Queues.{ready_under, Waits, IsWaiter, IsSound, IsKept}
use Rattle.ep_order.proofs.Lists.{set_same, set_other, length-set, same_or_not}

pub placed_all : (placed suppliers : List ℕ) (number : ℕ) → ArePlacedBefore placed suppliers number → length suppliers ≤ number → All (Contains placed) suppliers
placed_all placed suppliers number before far k d within = before k (get_or suppliers k d) (omega arith) (slice_get-get_or suppliers k d within)

-- a module of which all suppliers are placed
pub ready_from : (units : List Dependent) (placed : List ℕ) (place : ℕ) (unit : Dependent) (suppliers : List ℕ) → IsModuleAt units place → ¬ Contains placed place → StandsAt units place unit → suppliers ≡ unit.suppliers → All (Contains placed) suppliers → IsReadyAt units placed place
ready_from units placed place unit suppliers m un stands e all = record {
  stands = m;
  unplaced = un;
  supplied = λ supplier s. All-contains (Contains placed) suppliers supplier all (subst (λ l. Contains l supplier) (ap (λ (u : Dependent). u.suppliers) (same_Some s.0 unit (sym s.1 ∙ stands)) ∙ sym e) s.2);
}

-- a module of which one supplier is the first that is not
pub waiter_from : (units : List Dependent) (placed : List ℕ) (supplier place number : ℕ) (unit : Dependent) (suppliers : List ℕ) → StandsAt units place unit → unit.is_program ≡ false → suppliers ≡ unit.suppliers → slice_get suppliers number ≡ Some supplier → ArePlacedBefore placed suppliers number → IsWaiter units placed supplier place number
waiter_from units placed supplier place number unit suppliers stands m e at before =
    (unit, stands, m, subst (λ l. slice_get l number ≡ Some supplier) e at, subst (λ l. ArePlacedBefore placed l number) e before)

-- ---- a module that may come next

-- a module is put to those that may come next
pub record IsReadied (before after : Queue) (place : ℕ) (name : List ℕ) : Type 0 where
  pub others : (other : List ℕ) → ready_under after other ≡ cond (bytes_eq name other) (Some place) (ready_under before other)
  pub waiting : after.waiting ≡ before.waiting

module _ (units : List Dependent) (system : IsSystem units) (placed : List ℕ) (before after : Queue) (place : ℕ) (name : List ℕ) (named : name_at units place ≡ name) (is : IsReadyAt units placed place) (sound : IsSound units placed before) (change : IsReadied before after place name) where
  waits_back : (supplier other number : ℕ) → Waits after supplier other number → Waits before supplier other number
  waits_back supplier other number h = (h.0, subst (λ w. slice_get w.items supplier ≡ Some h.0) change.waiting h.1, h.2)

  waits_on : (supplier other number : ℕ) → Waits before supplier other number → Waits after supplier other number
  waits_on supplier other number h = (h.0, subst (λ w. slice_get w.items supplier ≡ Some h.0) (sym change.waiting) h.1, h.2)

  -- two modules of one name are one
  one : (other : ℕ) → IsModuleAt units other → name ≡ name_at units other → place ≡ other
  one other stands e =
      system.apart place other is.stands.0 stands.0 is.stands.1 stands.1
      (sym (ap name_of is.stands.1) ∙ named ∙ e ∙ ap name_of stands.1)

  readied_at : (b : Bool) (other : List ℕ) (second : ℕ) → bytes_eq name other ≡ b → cond b (Some place) (ready_under before other) ≡ Some second → (name_at units second ≡ other) × IsReadyAt units placed second
  readied_at true other second e h =
      let same : name ≡ other = (bytes_decides name other).0 e in
      let place_is : place ≡ second = same_Some _ _ h in
      (subst (λ p. name_at units p ≡ other) place_is (named ∙ same), subst (IsReadyAt units placed) place_is is)
  readied_at false other second e h = sound.ready other second h

  kept_at : (b : Bool) (other : ℕ) → bytes_eq name (name_at units other) ≡ b → ready_under before (name_at units other) ≡ Some other → cond b (Some place) (ready_under before (name_at units other)) ≡ Some other
  kept_at true other e h = ap Some (one other (sound.ready _ other h).1.stands ((bytes_decides name (name_at units other)).0 e))
  kept_at false other e h = h

  pub readied_sound : IsSound units placed after
  readied_sound = record {
    rows = subst (λ w. length w.items ≡ length units) (sym change.waiting) sound.rows;
    ready = λ other second h. readied_at (bytes_eq name other) other second refl (sym (change.others other) ∙ h);
    waits = λ supplier other number un h. sound.waits supplier other number un (waits_back supplier other number h);
  }

  pub readied_kept : (other : ℕ) → IsKept units placed before other → IsKept units placed after other
  readied_kept other (inl h) = inl (change.others (name_at units other) ∙ kept_at (bytes_eq name (name_at units other)) other refl h)
  readied_kept other (inr h) = inr (h.0, h.1, h.2, waits_on h.0 other h.1 h.3)

  pub readied_entered : IsKept units placed after place
  readied_entered =
      let same : bytes_eq name (name_at units place) ≡ true = (bytes_decides name (name_at units place)).1 (sym named) in
      inl (change.others (name_at units place) ∙ ap (λ b. cond b (Some place) (ready_under before (name_at units place))) same)

-- ---- a module that waits

-- a module is put to those that wait for a supplier
pub record IsWaiting (before after : Queue) (supplier place number : ℕ) : Type 0 where
  pub row : Vec Waiter Global
  pub longer : Vec Waiter Global
  pub was : slice_get before.waiting.items supplier ≡ Some row
  pub added : longer.items ≡ row.items ++ record { unit = place; supplier = number } ∷ []
  pub rows : after.waiting.items ≡ slice_set before.waiting.items supplier longer
  pub ready : after.ready ≡ before.ready

module _ (units : List Dependent) (placed : List ℕ) (before after : Queue) (supplier place number : ℕ) (open' : Contains placed supplier → ⊥) (is : IsWaiter units placed supplier place number) (sound : IsSound units placed before) (change : IsWaiting before after supplier place number) where
  within : supplier < length before.waiting.items
  within = slice_get_within before.waiting.items supplier change.row change.was

  -- who waits afterwards waited before, or is the one that is put in
  waits_was : (other second n : ℕ) → Waits after other second n → Waits before other second n ⊎ ((other ≡ supplier) × (second ≡ place) × (n ≡ number))
  waits_was other second n h = go (same_or_not other supplier)
    where
      at : slice_get (slice_set before.waiting.items supplier change.longer) other ≡ Some h.0
      at = subst (λ w. slice_get w other ≡ Some h.0) change.rows h.1

      go : (other ≡ supplier) ⊎ (other ≢ supplier) → Waits before other second n ⊎ ((other ≡ supplier) × (second ≡ place) × (n ≡ number))
      go (inr ne) = inl (h.0, sym (set_other before.waiting.items supplier other change.longer ne) ∙ at, h.2)
      go (inl e) =
          let row_is : change.longer ≡ h.0 = same_Some _ _ (sym (set_same before.waiting.items supplier change.longer within) ∙ subst (λ s. slice_get (slice_set before.waiting.items supplier change.longer) s ≡ Some h.0) e at) in
          let has : Contains (change.row.items ++ record { unit = place; supplier = number } ∷ []) (record { unit = second; supplier = n }) = subst (λ items. Contains items (record { unit = second; supplier = n })) change.added (subst (λ (r : Vec Waiter Global). Contains r.items (record { unit = second; supplier = n })) (sym row_is) h.2) in
          elim (Contains-push_cases change.row.items _ _ has) [
            | inl c ↦ inl (change.row, subst (λ s. slice_get before.waiting.items s ≡ Some change.row) (sym e) change.was, c)
            | inr same ↦ inr (e, ap (λ (w : Waiter). w.unit) (sym same), ap (λ (w : Waiter). w.supplier) (sym same))
          ]

  waits_still : (other second n : ℕ) → Waits before other second n → Waits after other second n
  waits_still other second n h = go (same_or_not other supplier)
    where
      placed_at : (row : Vec Waiter Global) → slice_get (slice_set before.waiting.items supplier change.longer) other ≡ Some row → slice_get after.waiting.items other ≡ Some row
      placed_at row e = subst (λ w. slice_get w other ≡ Some row) (sym change.rows) e

      go : (other ≡ supplier) ⊎ (other ≢ supplier) → Waits after other second n
      go (inr ne) = (h.0, placed_at h.0 (set_other before.waiting.items supplier other change.longer ne ∙ h.1), h.2)
      go (inl e) =
          let row_is : change.row ≡ h.0 = same_Some _ _ (sym change.was ∙ subst (λ s. slice_get before.waiting.items s ≡ Some h.0) e h.1) in
          let has = Contains-append_left change.row.items (record { unit = place; supplier = number } ∷ []) (record { unit = second; supplier = n }) (subst (λ (r : Vec Waiter Global). Contains r.items (record { unit = second; supplier = n })) (sym row_is) h.2) in
          (change.longer, placed_at change.longer (subst (λ s. slice_get (slice_set before.waiting.items supplier change.longer) s ≡ Some change.longer) (sym e) (set_same before.waiting.items supplier change.longer within)), subst (λ items. Contains items (record { unit = second; supplier = n })) (sym change.added) has)

  ready_same : (name : List ℕ) → ready_under after name ≡ ready_under before name
  ready_same name = ap (λ m. ready_under (record before { ready = m }) name) change.ready

  pub waiting_sound : IsSound units placed after
  waiting_sound = record {
    rows = ap length change.rows ∙ length-set before.waiting.items supplier change.longer ∙ sound.rows;
    ready = λ name second h. sound.ready name second (sym (ready_same name) ∙ h);
    waits = λ other second n un h. elim (waits_was other second n h) [
      | inl w ↦ sound.waits other second n un w
      | inr e ↦ subst (λ s. IsWaiter units placed s second n) (sym e.0) (subst (λ p. IsWaiter units placed supplier p n) (sym e.1) (subst (IsWaiter units placed supplier place) (sym e.2) is))
    ];
  }

  pub waiting_kept : (other : ℕ) → IsKept units placed before other → IsKept units placed after other
  waiting_kept other (inl h) = inl (ready_same (name_at units other) ∙ h)
  waiting_kept other (inr h) = inr (h.0, h.1, h.2, waits_still h.0 other h.1 h.3)

  pub waiting_entered : IsKept units placed after place
  waiting_entered = inr (supplier, number, open', (change.longer, subst (λ w. slice_get w supplier ≡ Some change.longer) (sym change.rows) (set_same before.waiting.items supplier change.longer within), subst (λ items. Contains items (record { unit = place; supplier = number })) (sym change.added) (Contains-push change.row.items _)))
