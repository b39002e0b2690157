-- What is found in entries by the bytes of their keys.
use Rattle.std.proofs.Common.{◌≡◌, ℕ, Bool, true, false, List, [], ◌∷◌, ◌++◌, Some, None, refl, ap, cond, Result, Ok, Err, sym, ◌∙◌}
use Rattle.std.specs.Global.{Vec}
use Rattle.std.specs.Map.{lookup, set_value}
use Rattle.std.specs.Prelude.{if◌then◌else◌}
use Rattle.std.specs.Str.{bytes_eq}
use Rattle.indexmap.specs.IndexMap.{insert_entry}
use Rattle.ep_scope.specs.Entering.{AnswersEntry, AnswersEntryIn}
use Rattle.ep_scope.specs.Keys.{by_bytes}
use Rattle.ep_scope.specs.Required.{look_up}
use Rattle.ep_scope.specs.Scopes.{Entries, Region, with_interface, with_constituent, look_up_in}
use Rattle.ep_scope.specs.declared.entries.EntryRefusal.{EntryRefusal}
use Rattle.ep_scope.specs.declared.entries.EntryRefusal.TheVariants.{There, NoMemory}
use Rattle.ep_scope.specs.declared.structure.StructuredType.{StructuredType}
use Rattle.ep_scope.specs.declared.thing.Thing.{Thing}

-- a map finds what the entries have
pub lookup-by_bytes : {A : Type 0} (name : List ℕ) (es : List (Vec ℕ × A)) → lookup (λ k. bytes_eq name k.items) es ≡ look_up (by_bytes es) name
lookup-by_bytes name [] = refl
lookup-by_bytes name (e ∷ es) = ap (λ o. if bytes_eq name e.0.items then Some e.1 else o) (lookup-by_bytes name es)

module _ {A : Type 0} (eq : Vec ℕ → Vec ℕ → Bool) (key : Vec ℕ) (thing : A) (same : (k : Vec ℕ) → eq key k ≡ bytes_eq key.items k.items) where
  -- a key that is not there goes last
  insert_entry-new : (es : List (Vec ℕ × A)) → look_up (by_bytes es) key.items ≡ None → by_bytes (insert_entry eq es key thing) ≡ by_bytes es ++ (key.items, thing) ∷ []
  insert_entry-new [] absent = refl
  insert_entry-new (e ∷ es) absent = at (bytes_eq key.items e.0.items) (same e.0) absent (insert_entry-new es)
    where
      at : (b : Bool) → eq key e.0 ≡ b → (if b then Some e.1 else look_up (by_bytes es) key.items) ≡ None
          → (look_up (by_bytes es) key.items ≡ None → by_bytes (insert_entry eq es key thing) ≡ by_bytes es ++ (key.items, thing) ∷ [])
          → by_bytes (insert_entry eq (e ∷ es) key thing) ≡ by_bytes (e ∷ es) ++ (key.items, thing) ∷ []
      at true is absent rest = cc
      at false is absent rest = rw is (ap (λ l. (e.0.items, e.1) ∷ l) (rest absent))

  -- and so does its name
  pub entered : (es new : List (Vec ℕ × A)) (old : List (List ℕ × A)) (name : List ℕ) → by_bytes es ≡ old → key.items ≡ name → look_up old name ≡ None → new ≡ insert_entry eq es key thing → by_bytes new ≡ old ++ (name, thing) ∷ []
  entered es new old name view items absent grows = rw (grows, ← view, ← items) (insert_entry-new es (rw (view, items) absent))

-- ---- interfaces

module _ (interface name : List ℕ) (thing : Thing) where
  -- the keys that are the interface's name
  abbrev is_interface : Vec ℕ → Bool
  is_interface k = bytes_eq interface k.items

  -- the names of an interface that is there grow
  set_value-constituent : (es : List (Vec ℕ × Entries)) (old : Entries) → lookup is_interface es ≡ Some old
      → by_bytes (set_value is_interface es (old ++ (name, thing) ∷ [])) ≡ with_constituent (by_bytes es) interface name thing
  set_value-constituent [] old found = cc
  set_value-constituent (e ∷ es) old found = at (is_interface e.0) refl found (set_value-constituent es old)
    where
      at : (b : Bool) → is_interface e.0 ≡ b → cond b (Some e.1) (lookup is_interface es) ≡ Some old
          → (lookup is_interface es ≡ Some old → by_bytes (set_value is_interface es (old ++ (name, thing) ∷ [])) ≡ with_constituent (by_bytes es) interface name thing)
          → by_bytes (set_value is_interface (e ∷ es) (old ++ (name, thing) ∷ [])) ≡ with_constituent (by_bytes (e ∷ es)) interface name thing
      at true is found rest =
          let same : e.1 ≡ old = cc in
          rw (is, same) refl
      at false is found rest = rw is (ap (λ l. (e.0.items, e.1) ∷ l) (rest found))

  -- or stay
  set_value-same : (es : List (Vec ℕ × Entries)) (old : Entries) → lookup is_interface es ≡ Some old → set_value is_interface es old ≡ es
  set_value-same [] old found = cc
  set_value-same (e ∷ es) old found = at (is_interface e.0) refl found (set_value-same es old)
    where
      at : (b : Bool) → is_interface e.0 ≡ b → cond b (Some e.1) (lookup is_interface es) ≡ Some old → (lookup is_interface es ≡ Some old → set_value is_interface es old ≡ es)
          → set_value is_interface (e ∷ es) old ≡ e ∷ es
      at true is found rest =
          let same : old ≡ e.1 = cc in
          rw (is, same) refl
      at false is found rest = rw is (ap (λ l. e ∷ l) (rest found))

  -- a name is entered among those of an interface that is there
  pub entered_in : (es : List (Vec ℕ × Entries)) (entries : Entries) (structures : List StructuredType) (old new : Entries) (result : Result (Unit {0}) EntryRefusal) → lookup is_interface es ≡ Some old → AnswersEntry old name thing result new
      → AnswersEntryIn (record { entries = entries; qualified = by_bytes es; structures = structures; records = [] }) interface name thing result (record { entries = entries; qualified = by_bytes (set_value is_interface es new); structures = structures; records = [] })
  entered_in es entries structures old new (Ok done) found a =
      (rw (← lookup-by_bytes interface es, found) a.0, rw a.1 (ap (λ q. record { entries = entries; qualified = q; structures = structures; records = [] }) (set_value-constituent es old found)))
  entered_in es entries structures old new (Err There) found a =
      (rw (← lookup-by_bytes interface es, found) a.0, rw a.1 (ap (λ q. record { entries = entries; qualified = by_bytes q; structures = structures; records = [] }) (set_value-same es old found)))
  entered_in es entries structures old new (Err NoMemory) found a =
      (rw (← lookup-by_bytes interface es, found) a.0, rw a.1 (ap (λ q. record { entries = entries; qualified = by_bytes q; structures = structures; records = [] }) (set_value-same es old found)))

  -- an interface that is not there goes last
  with_constituent-new : (es : List (List ℕ × Entries)) → look_up es interface ≡ None → with_constituent es interface name thing ≡ es ++ (interface, (name, thing) ∷ []) ∷ []
  with_constituent-new [] absent = refl
  with_constituent-new (e ∷ es) absent = at (bytes_eq interface e.0) refl absent (with_constituent-new es)
    where
      at : (b : Bool) → bytes_eq interface e.0 ≡ b → (if b then Some e.1 else look_up es interface) ≡ None
          → (look_up es interface ≡ None → with_constituent es interface name thing ≡ es ++ (interface, (name, thing) ∷ []) ∷ [])
          → with_constituent (e ∷ es) interface name thing ≡ (e ∷ es) ++ (interface, (name, thing) ∷ []) ∷ []
      at true is absent rest = cc
      at false is absent rest = rw is (ap (λ l. e ∷ l) (rest absent))

  -- an interface that is not there has no name
  pub absent_in : (r : Region) → look_up r.qualified interface ≡ None → look_up_in r interface name ≡ None
  absent_in r absent = rw absent refl

  -- and then it has the name alone
  pub opened_in : (r new : Region) → look_up r.qualified interface ≡ None → new ≡ with_interface r interface name thing
      → (look_up_in r interface name ≡ None) × (new ≡ record r { qualified = with_constituent r.qualified interface name thing })
  opened_in r new absent is = (absent_in r absent, is ∙ ap (λ q. record r { qualified = q }) (sym (with_constituent-new r.qualified absent)))
