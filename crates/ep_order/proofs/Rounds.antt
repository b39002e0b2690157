-- For `Queue`: a module is taken out and placed, and those that wait for it go on.
use Rattle.std.proofs.Common.{◌≡◌, ◌≢◌, ℕ, ◌≤◌, ◌+◌, Bool, true, false, cond, List, [], ◌∷◌, ◌++◌, length, drop, slice_get, slice_set, None, Some, ◌⊎◌, inl, inr, refl, sym, subst, ◌∙◌, ap}
use Rattle.std.specs.List.{Contains}
use Rattle.std.specs.Str.{bytes_eq}
use Rattle.std.specs.Cmp.Lexicographic.{bytes_decides}
use Rattle.std.specs.declared.vec.Vec.{Vec}
use Rattle.std.specs.declared.alloc.Global.{Global}
use Rattle.std.proofs.lemmas.Option.{same_Some, none-some, slice_get_within}
use Rattle.std.proofs.lemmas.List.{drop_all}
use Rattle.std.proofs.lemmas.List.Elements.{Contains-push, Contains-push_cases, Contains-append_left}
use Rattle.ep_order.specs.declared.dependent.Dependent.{Dependent}
use Rattle.ep_order.specs.declared.queue.Waiter.{Waiter}
use Rattle.ep_order.specs.declared.queue.Queue.{Queue}
use Rattle.ep_order.specs.Systems.{IsUpTo}
use Rattle.ep_order.specs.Dependents.{IsModuleAt, IsSystem, name_at}
use Rattle.ep_order.specs.Placings.{SuppliesAt, IsReadyAt, IsPlacing, IsStuck}
use Rattle.ep_order.specs.Queues.{ready_under, Waits, IsWaiter, IsSound, IsKept, IsWhole, IsWoken, IsTaken}
use Rattle.ep_order.proofs.Lists.{set_same, set_other, length-set, same_or_not, contains_at, contains_none, contains_cases, drop_at}
use Rattle.ep_order.proofs.Naming.{one_place}
use Rattle.ep_order.proofs.Placing.{placing_more}

-- who waits is supplied by what it waits for
waiter_supplied : (units : List Dependent) (placed : List ℕ) (supplier place number : ℕ) → IsWaiter units placed supplier place number → SuppliesAt units supplier place
waiter_supplied units placed supplier place number w = (w.0, w.1, contains_at w.0.suppliers number supplier w.3)

-- where none may come next, each module that is left has a supplier that is
pub stuck_from : (units : List Dependent) (placed : List ℕ) (queue : Queue) → IsSound units placed queue → IsWhole units placed queue → ((name : List ℕ) → ready_under queue name ≡ None) → IsStuck units placed
stuck_from units placed queue sound whole none place m un = go (whole place m)
  where
    kept : IsKept units placed queue place → (supplier : ℕ) × SuppliesAt units supplier place × ¬ Contains placed supplier
    kept (inl h) = absurd (none-some place (sym (none (name_at units place)) ∙ h))
    kept (inr w) = (w.0, waiter_supplied units placed w.0 place w.1 (sound.waits w.0 place w.1 w.2 w.3), w.2)

    go : Contains placed place ⊎ IsKept units placed queue place → (supplier : ℕ) × SuppliesAt units supplier place × ¬ Contains placed supplier
    go (inl c) = absurd (un c)
    go (inr k) = kept k

-- a queue that keeps nothing
pub empty_sound : (units : List Dependent) (placed : List ℕ) (queue : Queue) → length queue.waiting.items ≡ length units → ((name : List ℕ) → ready_under queue name ≡ None) → ((supplier place number : ℕ) → ¬ Waits queue supplier place number) → IsSound units placed queue
empty_sound units placed queue rows none nobody = record {
  rows = rows;
  ready = λ name place h. absurd (none-some place (sym (none name) ∙ h));
  waits = λ supplier place number _ h. absurd (nobody supplier place number h);
}

-- ---- one is taken out and placed

module _ (units : List Dependent) (system : IsSystem units) (placed : List ℕ) (before after : Queue) (place : ℕ) (name : List ℕ) (placing : IsPlacing units placed) (sound : IsSound units placed before) (whole : IsWhole units placed before) (taken : IsTaken before after place name) where
  pub taken_ready : IsReadyAt units placed place
  taken_ready = (sound.ready name place taken.was).1

  named_so : name_at units place ≡ name
  named_so = (sound.ready name place taken.was).0

  least : (other : ℕ) → IsReadyAt units placed other → IsUpTo (name_at units place) (name_at units other)
  least other r = go (whole other r.stands)
    where
      kept : IsKept units placed before other → IsUpTo (name_at units place) (name_at units other)
      kept (inl h) = subst (λ n. IsUpTo n (name_at units other)) (sym named_so) (taken.least (name_at units other) other h)
      kept (inr w) = absurd (w.2 (r.supplied w.0 (waiter_supplied units placed w.0 other w.1 (sound.waits w.0 other w.1 w.2 w.3))))

      go : Contains placed other ⊎ IsKept units placed before other → IsUpTo (name_at units place) (name_at units other)
      go (inl c) = absurd (r.unplaced c)
      go (inr k) = kept k

  pub taken_placing : IsPlacing units (placed ++ place ∷ [])
  taken_placing = placing_more units system placed placing place taken_ready least

  more : (other : ℕ) → Contains placed other → Contains (placed ++ place ∷ []) other
  more other c = Contains-append_left placed (place ∷ []) other c

  not_more : (other : ℕ) → ¬ Contains placed other → other ≢ place → ¬ Contains (placed ++ place ∷ []) other
  not_more other un ne has = elim (Contains-push_cases placed place other has) [ inl c ↦ un c | inr e ↦ ne (sym e) ]

  ready_more : (other : ℕ) → IsReadyAt units placed other → other ≢ place → IsReadyAt units (placed ++ place ∷ []) other
  ready_more other r ne = record { stands = r.stands; unplaced = not_more other r.unplaced ne; supplied = λ supplier s. more supplier (r.supplied supplier s) }

  waiter_more : (supplier other number : ℕ) → IsWaiter units placed supplier other number → IsWaiter units (placed ++ place ∷ []) supplier other number
  waiter_more supplier other number w = (w.0, w.1, w.2, w.3, λ k s l e. more s (w.4 k s l e))

  waits_back : (supplier other number : ℕ) → Waits after supplier other number → Waits before supplier other number
  waits_back supplier other number h = (h.0, subst (λ w. slice_get w.items supplier ≡ Some h.0) taken.waiting h.1, h.2)

  waits_on : (supplier other number : ℕ) → Waits before supplier other number → Waits after supplier other number
  waits_on supplier other number h = (h.0, subst (λ w. slice_get w.items supplier ≡ Some h.0) (sym taken.waiting) h.1, h.2)

  -- the name that is taken out is that of no other module
  differs : (other : ℕ) → IsReadyAt units placed other → other ≢ place → bytes_eq name (name_at units other) ≡ false
  differs other r ne = go (bytes_eq name (name_at units other)) refl
    where
      go : (b : Bool) → bytes_eq name (name_at units other) ≡ b → b ≡ false
      go true e = absurd (ne (one_place units system other place r.stands.0 taken_ready.stands.0 r.stands.1 taken_ready.stands.1 (sym ((bytes_decides name (name_at units other)).0 e) ∙ sym named_so)))
      go false e = refl

  -- who may come next afterwards might before, under another name
  ready_at : (b : Bool) (other : List ℕ) (second : ℕ) → bytes_eq name other ≡ b → cond b None (ready_under before other) ≡ Some second → (name_at units second ≡ other) × IsReadyAt units (placed ++ place ∷ []) second
  ready_at true other second e h = absurd (none-some second h)
  ready_at false other second e h =
      let r = sound.ready other second h in (
        r.0,
        ready_more second r.1 (λ same.
            let names : name ≡ other = sym named_so ∙ ap (name_at units) (sym same) ∙ r.0 in
            let yes : bytes_eq name other ≡ true = (bytes_decides name other).1 names in
            let no : true ≡ false = sym yes ∙ e in
            cc),
      )

  taken_sound : IsSound units (placed ++ place ∷ []) after
  taken_sound = record {
    rows = subst (λ w. length w.items ≡ length units) (sym taken.waiting) sound.rows;
    ready = λ other second h. ready_at (bytes_eq name other) other second refl (sym (taken.others other) ∙ h);
    waits = λ supplier other number un h. waiter_more supplier other number (sound.waits supplier other number (λ c. un (more supplier c)) (waits_back supplier other number h));
  }

  still : (other : ℕ) → Contains placed other ⊎ IsKept units placed before other → (Contains (placed ++ place ∷ []) other ⊎ IsKept units (placed ++ place ∷ []) after other) ⊎ ((number : ℕ) × Waits after place other number)
  still other (inl c) = inl (inl (more other c))
  still other (inr (inl h)) = go (same_or_not other place)
    where
      r : IsReadyAt units placed other
      r = (sound.ready (name_at units other) other h).1

      go : (other ≡ place) ⊎ (other ≢ place) → (Contains (placed ++ place ∷ []) other ⊎ IsKept units (placed ++ place ∷ []) after other) ⊎ ((number : ℕ) × Waits after place other number)
      go (inl e) = inl (inl (subst (Contains (placed ++ place ∷ [])) (sym e) (Contains-push placed place)))
      go (inr ne) = inl (inr (inl (taken.others (name_at units other) ∙ ap (λ b. cond b None (ready_under before (name_at units other))) (differs other r ne) ∙ h)))
  still other (inr (inr w)) = go (same_or_not w.0 place)
    where
      go : (w.0 ≡ place) ⊎ (w.0 ≢ place) → (Contains (placed ++ place ∷ []) other ⊎ IsKept units (placed ++ place ∷ []) after other) ⊎ ((number : ℕ) × Waits after place other number)
      go (inl e) = inr (w.1, subst (λ s. Waits after s other w.1) e (waits_on w.0 other w.1 w.3))
      go (inr ne) = inl (inr (inr (w.0, w.1, not_more w.0 w.2 ne, waits_on w.0 other w.1 w.3)))

  pub taken_woken : IsWoken units (placed ++ place ∷ []) after place
  taken_woken = record {
    sound = taken_sound;
    whole = λ other m. still other (whole other m);
    unplaced = λ other number h has.
        let s = waiter_supplied units placed place other number (sound.waits place other number taken_ready.unplaced (waits_back place other number h)) in
        taken_ready.unplaced (elim (Contains-push_cases placed place other has) [
          | inl c ↦ placing.closed place other c s
          | inr e ↦ taken_ready.supplied place (subst (SuppliesAt units place) (sym e) s)
        ]);
    waits = λ other number h. waiter_more place other number (sound.waits place other number taken_ready.unplaced (waits_back place other number h));
  }

-- ---- those that wait for it go on, one by one

-- those from this number on have still to go on
pub record IsWaking (units : List Dependent) (placed : List ℕ) (place : ℕ) (woken : List Waiter) (queue : Queue) (index : ℕ) : Type 0 where
  pub sound : IsSound units placed queue
  pub whole : (other : ℕ) → IsModuleAt units other → (Contains placed other ⊎ IsKept units placed queue other)
      ⊎ ((number : ℕ) × Contains (drop index woken) (record { unit = other; supplier = number }))
  pub unplaced : (other number : ℕ) → Contains woken (record { unit = other; supplier = number }) → ¬ Contains placed other
  pub waits : (other number : ℕ) → Contains woken (record { unit = other; supplier = number }) → IsWaiter units placed place other number

module _ (units : List Dependent) (placed : List ℕ) (before after : Queue) (place : ℕ) (row empty : Vec Waiter Global) (woken : IsWoken units placed before place) (was : slice_get before.waiting.items place ≡ Some row) (none : empty.items ≡ []) (rows : after.waiting.items ≡ slice_set before.waiting.items place empty) (ready : after.ready ≡ before.ready) where
  ready_same : (name : List ℕ) → ready_under after name ≡ ready_under before name
  ready_same name = ap (λ m. ready_under (record before { ready = m }) name) ready

  -- nobody waits that did not before
  waits_was : (supplier other number : ℕ) → Waits after supplier other number → Waits before supplier other number
  waits_was supplier other number h = go (same_or_not supplier place)
    where
      at : slice_get (slice_set before.waiting.items place empty) supplier ≡ Some h.0
      at = subst (λ w. slice_get w supplier ≡ Some h.0) rows h.1

      go : (supplier ≡ place) ⊎ (supplier ≢ place) → Waits before supplier other number
      go (inl e) =
          let is : empty ≡ h.0 = same_Some _ _ (sym (set_same before.waiting.items place empty (slice_get_within before.waiting.items place row was)) ∙ subst (λ s. slice_get (slice_set before.waiting.items place empty) s ≡ Some h.0) e at) in
          absurd (contains_none (record { unit = other; supplier = number }) (subst (λ items. Contains items (record { unit = other; supplier = number })) none (subst (λ (r : Vec Waiter Global). Contains r.items (record { unit = other; supplier = number })) (sym is) h.2)))
      go (inr ne) = (h.0, sym (set_other before.waiting.items place supplier empty ne) ∙ at, h.2)

  waits_still : (supplier other number : ℕ) → supplier ≢ place → Waits before supplier other number → Waits after supplier other number
  waits_still supplier other number ne h = (h.0, subst (λ w. slice_get w supplier ≡ Some h.0) (sym rows) (set_other before.waiting.items place supplier empty ne ∙ h.1), h.2)

  in_row : (other number : ℕ) → Waits before place other number → Contains row.items (record { unit = other; supplier = number })
  in_row other number h = subst (λ (r : Vec Waiter Global). Contains r.items (record { unit = other; supplier = number })) (same_Some _ _ (sym h.1 ∙ was)) h.2

  still_kept : (other : ℕ) → (Contains placed other ⊎ IsKept units placed before other) ⊎ ((number : ℕ) × Waits before place other number) → (Contains placed other ⊎ IsKept units placed after other) ⊎ ((number : ℕ) × Contains row.items (record { unit = other; supplier = number }))
  still_kept other (inl (inl c)) = inl (inl c)
  still_kept other (inl (inr (inl h))) = inl (inr (inl (ready_same (name_at units other) ∙ h)))
  still_kept other (inl (inr (inr w))) = elim (same_or_not w.0 place) [
    | inl e ↦ inr (w.1, in_row other w.1 (subst (λ s. Waits before s other w.1) e w.3))
    | inr ne ↦ inl (inr (inr (w.0, w.1, w.2, waits_still w.0 other w.1 ne w.3)))
  ]
  still_kept other (inr w) = inr (w.0, in_row other w.0 w.1)

  pub waking_begin : IsWaking units placed place row.items after 0
  waking_begin = record {
    sound = record {
      rows = ap length rows ∙ length-set before.waiting.items place empty ∙ woken.sound.rows;
      ready = λ name second h. woken.sound.ready name second (sym (ready_same name) ∙ h);
      waits = λ supplier other number un h. woken.sound.waits supplier other number un (waits_was supplier other number h);
    };
    whole = λ other m. still_kept other (woken.whole other m);
    unplaced = λ other number has. woken.unplaced other number (row, was, has);
    waits = λ other number has. woken.waits other number (row, was, has);
  }

pub waking_more : (units : List Dependent) (placed : List ℕ) (place : ℕ) (woken : List Waiter) (before after : Queue) (index : ℕ) (waiter : Waiter) → IsWaking units placed place woken before index → slice_get woken index ≡ Some waiter
    → IsSound units placed after → ((other : ℕ) → IsKept units placed before other → IsKept units placed after other) → IsKept units placed after waiter.unit → IsWaking units placed place woken after (index + 1)
waking_more units placed place woken before after index waiter h at sound kept entered = record {
  sound = sound;
  whole = λ other m. go other (h.whole other m);
  unplaced = h.unplaced;
  waits = h.waits;
}
  where
    go : (other : ℕ) → (Contains placed other ⊎ IsKept units placed before other) ⊎ ((number : ℕ) × Contains (drop index woken) (record { unit = other; supplier = number })) → (Contains placed other ⊎ IsKept units placed after other) ⊎ ((number : ℕ) × Contains (drop (index + 1) woken) (record { unit = other; supplier = number }))
    go other (inl (inl c)) = inl (inl c)
    go other (inl (inr k)) = inl (inr (kept other k))
    go other (inr w) = elim (contains_cases waiter (drop (index + 1) woken) (record { unit = other; supplier = w.0 }) (subst (λ l. Contains l (record { unit = other; supplier = w.0 })) (drop_at woken index waiter at) w.1)) [
      | inl e ↦ inl (inr (subst (IsKept units placed after) (ap (λ (v : Waiter). v.unit) e) entered))
      | inr d ↦ inr (w.0, d)
    ]

pub waking_end : (units : List Dependent) (placed : List ℕ) (place : ℕ) (woken : List Waiter) (queue : Queue) (index : ℕ) → IsWaking units placed place woken queue index → length woken ≤ index → IsWhole units placed queue
waking_end units placed place woken queue index h far other m = go (h.whole other m)
  where
    go : (Contains placed other ⊎ IsKept units placed queue other) ⊎ ((number : ℕ) × Contains (drop index woken) (record { unit = other; supplier = number })) → Contains placed other ⊎ IsKept units placed queue other
    go (inl k) = k
    go (inr w) = absurd (contains_none (record { unit = other; supplier = w.0 }) (subst (λ l. Contains l (record { unit = other; supplier = w.0 })) (drop_all index woken far) w.1))
