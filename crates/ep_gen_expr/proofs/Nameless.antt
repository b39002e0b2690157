-- The machine follows a variable without a name: it is made, and in the end its value is taken.
use Rattle.std.proofs.Common.{◌≡◌, ℕ, pos, suc, ◌+◌, ◌*◌, ◌≤◌, ◌<◌, ◌⊎◌, inl, inr, List, [], ◌∷◌, Some, length, slice_get, false, refl, sym, subst, arith}
use Rattle.ep_gen_code.specs.Instructions.{bare}
use Rattle.ep_simulation.specs.Follows.{Facts, Follows, GivesUp, Inside, IsNotLeft, IsStructure, Lands, Lasts, Fragment, OnTop, point}
use Rattle.ep_simulation.specs.Layouts.{Layout}
use Rattle.ep_simulation.specs.Matching.{Describes, Injection, IsLike, IsSpot, Matches, MachineMemory, Slots, at as standing}
use Rattle.ep_object.specs.Operands.{Operand, Word, weight}
use Rattle.ep_object.specs.Operands as operand
use Rattle.ep_simulation.specs.Promises.{CallsAt, IsSwap}
use Rattle.ep_object.specs.Runs.{outcome, unit_in}
use Rattle.ep_simulation.specs.Starts.{AreStarts}
use Rattle.ep_object.specs.State.{Running}
use Rattle.ep_object.specs.declared.code.Image.{Image}
use Rattle.ep_object.specs.declared.op.TheConstants as op
use Rattle.ep_object.specs.declared.state.Place.{Place as PlaceOf}
use Rattle.ep_simulation.proofs.public.following.Bind.{follows_counted, follows_credit, follows_give, follows_gives_up, follows_paid, follows_waits}
use Rattle.ep_simulation.proofs.public.following.Choices.{fragment_using}
use Rattle.ep_simulation.proofs.public.following.Fragments.{Does, FailsWith, fragment_less, landed}
use Rattle.ep_simulation.proofs.public.following.Swapping.{swap_follows, swap_ticks}
use Rattle.ep_simulation.proofs.public.matching.Awaiting.{value-grown, value_weight}
use Rattle.ep_simulation.proofs.public.matching.MoreMemory.{grown_refl, not_left-here, same_routine-refl}
use Rattle.ep_simulation.proofs.public.matching.Standing.{Stands, place_stands}
use Rattle.ep_simulation.proofs.public.rows.NamelessRows.{NamelessOnTop, dispose_does, matches_depth, new_does}
use Rattle.ep_simulation.proofs.public.rows.PlaceRows.{load_fails, structure_loads}
use Rattle.ep_meaning.proofs.public.Steady.{grows_ended, grows_nameless, steady_bind, steady_change, steady_give, steady_spend}
use Rattle.ep_meaning.specs.Calls.{Handler}
use Rattle.ep_meaning.specs.Meaning.{taken}
use Rattle.ep_meaning.specs.Nameless.{begins_nameless, made_nameless, newest_nameless, taken_and_ended, with_depth}
use Rattle.ep_values.specs.Printing.{Result, Structure}
use Rattle.ep_meaning.specs.Results.{result_of, weight_of}
use Rattle.ep_meaning.specs.Steps.{Computation, bind, change, counted, found, give, fetch, has_ended, spend, whole, with_all_ended}
use Rattle.ep_values.specs.Values.{Value}
use Rattle.ep_values.specs.TypeValues.{size_of}
use Rattle.ep_meaning.specs.Steps as meaning
use Rattle.ep_values.specs.TypeValues.{TypeValue}
use Rattle.ep_meaning.specs.Valid.{IsStructured, IsTypeValue}
use Rattle.ep_meaning.specs.Valid as kind
use Rattle.ep_values.specs.declared.run_error.TheConstants as run_error

-- what the end of a structured value costs besides its weight
abbrev pub end_ticks : TypeValue → ℕ
end_ticks u = 7 + 4 * size_of u

module _ (layout : Layout) (G : Image) (untouched : Slots) (Here : Facts) (lasts : Lasts untouched Here) (line : ℕ) where
  -- `New`, over the number of a type
  pub begins_follows : (n place : ℕ) (t : TypeValue) (number : ℕ) → slice_get G.instructions place ≡ Some (bare line op.NEW)
      → (injection : Injection) (memory : MachineMemory) (below : List Operand) (d : ℕ) → 1 ≤ d → Describes memory.types number t → IsTypeValue t → AreStarts t
      → Fragment layout G Here n (point injection memory place (Word (pos number) ∷ below)) (begins_nameless t) (place + 1) (λ m. Inside untouched injection memory (NamelessOnTop t below m)) d (λ m. d + 63 + 62 * size_of t)
  begins_follows n place t number has injection memory below d enough described valid starts =
      fragment_less {n = suc n} (omega arith) (record { by = λ s matches here. follows_counted (counted t) (go s (new_does matches t number described valid starts place line below has lasts here)) })
    where
      After : ℕ → Injection → MachineMemory → List Operand → Type 0
      After m = Inside untouched injection memory (NamelessOnTop t below m)

      go : (s : meaning.State)
          → Does layout G Here (standing place (Word (pos number) ∷ below) memory s.trace) (size_of t) (place + 1) (After (suc (length s.allocations))) (made_nameless t (counted t s))
          ⊎ GivesUp G (standing place (Word (pos number) ∷ below) memory s.trace) 0 1 (counted t s)
          → Follows (λ k. IsNotLeft memory.frames k.frames) G (suc n) (standing place (Word (pos number) ∷ below) memory s.trace) (counted t s) (spend (suc (size_of t + size_of t)) (newest_nameless t)) (λ m. Lands layout G Here (place + 1) (After m)) d (λ m. d + 63 + 62 * size_of t)
      go s (inl x) =
          let made = follows_counted {Within = λ k. IsNotLeft memory.frames k.frames} {G = G} {n = n} {s = counted t s} {P = λ m. Lands layout G Here (place + 1) (After m)} {d = d + 63 + 62 * size_of t} {e = λ m. d + 63 + 62 * size_of t} (made_nameless t) (follows_give (suc (length s.allocations)) (omega arith) (landed x)) in
          follows_paid {v = size_of t} {w = size_of t + size_of t} {d1 = d + 63 + 62 * size_of t} (not_left-here memory.frames) refl x.does (omega arith) (omega arith) (omega arith) (record { by = λ m l. made.by m l })
      go s (inr x) = follows_gives_up (steady_spend (suc (size_of t + size_of t)) (record { by = λ m s. grows_nameless t s })) enough x

  module _ (call : Handler) (g : ℕ) (unit : List ℕ) (routine : ℕ) (swap : IsSwap G routine) (place k : ℕ) (u : TypeValue) (structured : IsStructured u) (load : slice_get G.instructions place ≡ Some (bare line op.LOAD)) (calls : CallsAt G (place + 1) routine 0 line) (disposes : slice_get G.instructions (place + 1 + 1) ≡ Some (bare line op.DISPOSE)) (injection : Injection) (memory : MachineMemory) (below : List Operand) (q : PlaceOf) (home : unit_in G memory.frames ≡ unit) (spot : IsSpot injection memory.types (whole k) q) (described : IsLike memory.types q.type_number u) (numbered : 2 < k) (above : 2 < q.segment) where
    abbrev number_on : Operand
    number_on = Word (pos q.segment)

    abbrev After : Result → Injection → MachineMemory → List Operand → Type 0
    After r = Inside untouched injection memory (OnTop (kind.Structured u) below r)

    -- it ends
    abbrev ends : Result → Computation Result
    ends r = bind (change (with_all_ended (k ∷ []))) (λ _. give r)

    -- `Dispose` of the variable, below whose number its value is
    disposed : (n d : ℕ) (s : meaning.State) (r : Result) (o : Operand) → IsStructure u r injection memory o → Matches layout G injection s memory → Here injection s memory → has_ended k s ≡ false
        → Follows (λ l. IsNotLeft memory.frames l.frames) G n (standing (place + 1 + 1) (number_on ∷ o ∷ below) memory s.trace) (with_depth s) (ends r) (λ b. Lands layout G Here (place + 1 + 1 + 1) (After b)) (1 + (d + weight_of r)) (λ b. d + weight_of b)
    disposed n d s r o holds matches here living =
        let x : Stands injection s memory (whole k) q = place_stands matches spot living in
        let deep : Here injection (with_depth s) memory = lasts.by injection injection s (with_depth s) memory memory (record { grown = grown_refl injection memory; routine = same_routine-refl memory.frames; own = λ j. refl; calls = refl }) here in
        let z = dispose_does layout G (place + 1 + 1) line (o ∷ below) k q.segment _ disposes numbered above injection memory (with_depth s) spot.is_in (x.represents).stands lasts (matches_depth matches) deep in
        let l = landed z in
        follows_waits (not_left-here memory.frames) z.does
        (follows_counted (with_all_ended (k ∷ [])) (follows_give r (omega arith)
        (record { injection = l.injection; memory = l.memory; operands = l.operands; is = l.is; matches = l.matches; here = l.here; post = record { grown = (l.post).grown; routine = (l.post).routine; operands_are = record { operand = o; holds = value-grown (kind.Structured u) r o (l.post).grown holds; is = (l.post).operands_are } } })))

    -- the value is brought below the number, and the variable ends
    swapped : (n d : ℕ) (s : meaning.State) (r : Result) (o : Operand) → IsStructure u r injection memory o → Matches layout G injection s memory → Here injection s memory → has_ended k s ≡ false
        → Follows (λ l. IsNotLeft memory.frames l.frames) G n (standing (place + 1) (o ∷ number_on ∷ below) memory s.trace) s (taken_and_ended k r) (λ b. Lands layout G Here (place + 1 + 1 + 1) (After b)) (swap_ticks number_on o + (1 + (d + weight_of r))) (λ b. d + weight_of b)
    swapped n d s r o holds matches here living =
        follows_counted with_depth (swap_follows G routine swap (place + 1) line calls number_on o below memory s.trace s refl (steady_bind (steady_change (grows_ended (k ∷ []))) (λ _. steady_give r)) (omega (arith, matches.depth)) (λ l stays. stays) (disposed n d s r o holds matches here living))

    -- All of it, from `Load` on.
    pub taken_follows : (n d : ℕ) → Fragment layout G Here n (point injection memory place (operand.Place q ∷ number_on ∷ below)) (taken call g unit line k) (place + 1 + 1 + 1) After (end_ticks u + d) (λ r. d + weight_of r)
    taken_follows n d =
        fragment_using k
        (λ s matches ended. subst (λ v. FailsWith G (standing place (operand.Place q ∷ number_on ∷ below) memory s.trace) 0 run_error.DISPOSED v line s) home (load_fails layout G place line (number_on ∷ below) (kind.Structured u) u (whole k) q (refl, structured) load injection memory spot described s matches ended))
        (omega arith)
        (λ s matches here living.
        let x = structure_loads layout G place line (number_on ∷ below) u (whole k) q structured load injection memory spot described s matches living in
        go s matches here living x.0 x.1 x.2 x.3 x.4)
      where
        go : (s : meaning.State) → Matches layout G injection s memory → Here injection s memory → has_ended k s ≡ false
            → (value : Value) → result_of (whole k) s ≡ Some (Structure u value) → (o : Operand) → IsStructure u (Structure u value) injection memory o
            → outcome G (standing place (operand.Place q ∷ number_on ∷ below) memory s.trace) ≡ record { weight = size_of u; to = Running 0 (standing (place + 1) (o ∷ number_on ∷ below) memory s.trace) }
            → Follows (λ l. IsNotLeft memory.frames l.frames) G n (standing place (operand.Place q ∷ number_on ∷ below) memory s.trace) s (bind (fetch (meaning.Error run_error.UNDEFINED_VALUE unit line) (result_of (whole k))) (taken_and_ended k)) (λ b. Lands layout G Here (place + 1 + 1 + 1) (After b)) (end_ticks u + d) (λ r. d + weight_of r)
        go s matches here living value is o holds loads =
            let r : Result = Structure u value in
            let same : weight o ≡ size_of u = value_weight injection memory (kind.Structured u) r o holds in
            let waits = follows_credit {d = suc (size_of u) + (swap_ticks number_on o + (1 + (d + weight_of r)))} {d2 = end_ticks u + d} {e = λ b. d + weight_of b} {e2 = λ b. d + weight_of b} (omega (arith, same)) (λ b. omega arith) (follows_waits (not_left-here memory.frames) loads (swapped n d s r o holds matches here living)) in
            let found_it = subst (λ x. Follows (λ l. IsNotLeft memory.frames l.frames) G n (standing place (operand.Place q ∷ number_on ∷ below) memory s.trace) s (bind (found (meaning.Error run_error.UNDEFINED_VALUE unit line) x) (taken_and_ended k)) (λ b. Lands layout G Here (place + 1 + 1 + 1) (After b)) (end_ticks u + d) (λ r. d + weight_of r)) (sym is) (record { by = λ m l. waits.by m l }) in
            record { by = λ m l. found_it.by m l }
