-- What is found among texts and under names.
use Rattle.std.proofs.Common.{◌≡◌, ℕ, Bool, true, false, ◌||◌, List, [], ◌∷◌, ◌++◌, map, Option, Some, None, refl, sym, ap, ◌∙◌, cond}
use Rattle.std.specs.Global.{Vec}
use Rattle.std.specs.List.{list_any}
use Rattle.std.specs.Map.{lookup}
use Rattle.std.specs.Prelude.{if◌then◌else◌}
use Rattle.std.specs.Str.{bytes_eq}
use Rattle.std.proofs.lemmas.List.{map-append}
use Rattle.std.proofs.lemmas.List.Folds.{list_any-append}
use Rattle.std.proofs.lemmas.Slice.Eq.{bytes_eq-Decides}
use Rattle.indexmap.specs.IndexMap.{insert_entry}
use Rattle.indexmap.specs.IndexSet.{insert_key}
use Rattle.ep_imports.specs.Found.{found, by_bytes, or_else}

pub or-false : (b : Bool) → (b || false) ≡ b
or-false true = refl
or-false false = refl

-- ---- texts

-- a set of byte strings has a text where it is among their bytes
pub found_by_bytes : (text : List ℕ) (keys : List (Vec ℕ)) → list_any (λ k. bytes_eq text k.items) keys ≡ list_any (bytes_eq text) (map (λ k. k.items) keys)
found_by_bytes text [] = refl
found_by_bytes text (k ∷ ks) = ap (λ b. bytes_eq text k.items || b) (found_by_bytes text ks)

-- a text that is there is no new one
again : (texts : List (List ℕ)) (text other : List ℕ) → list_any (bytes_eq text) texts ≡ true → list_any (bytes_eq other) texts ≡ (list_any (bytes_eq other) texts || bytes_eq other text)
again texts text other is = at (bytes_eq other text) refl
  where
    at : (b : Bool) → bytes_eq other text ≡ b → list_any (bytes_eq other) texts ≡ (list_any (bytes_eq other) texts || b)
    at false e = sym (or-false _)
    at true e =
        let same : other ≡ text = (bytes_eq-Decides other text).0 e in
        let there : list_any (bytes_eq other) texts ≡ true = rw same is in
        rw there refl

module _ (key : Vec ℕ) where
  added_at : (b : Bool) (keys : List (Vec ℕ)) (other : List ℕ) → list_any (bytes_eq key.items) (map (λ k. k.items) keys) ≡ b
      → list_any (bytes_eq other) (map (λ k. k.items) (if b then keys else keys ++ key ∷ [])) ≡ (list_any (bytes_eq other) (map (λ k. k.items) keys) || bytes_eq other key.items)
  added_at true keys other is = again (map (λ k. k.items) keys) key.items other is
  added_at false keys other is =
      ap (list_any (bytes_eq other)) (map-append (λ (k : Vec ℕ). k.items) keys (key ∷ []))
      ∙ list_any-append (bytes_eq other) (map (λ k. k.items) keys) (key.items ∷ [])
      ∙ ap (λ b. list_any (bytes_eq other) (map (λ k. k.items) keys) || b) (or-false _)

  -- a key is added to those of a set
  pub key_added : (keys new : List (Vec ℕ)) (old : List (List ℕ)) (text : List ℕ) → map (λ k. k.items) keys ≡ old → key.items ≡ text
      → new ≡ insert_key (λ x y. bytes_eq x.items y.items) keys key
      → (other : List ℕ) → list_any (bytes_eq other) (map (λ k. k.items) new) ≡ (list_any (bytes_eq other) old || bytes_eq other text)
  key_added keys new old text view items grows other =
      rw (grows, ← view, ← items) (added_at (list_any (λ k. bytes_eq key.items k.items) keys) keys other (sym (found_by_bytes key.items keys)))

-- ---- names

-- a map finds what the entries have
pub lookup-by_bytes : {A : Type 0} (name : List ℕ) (es : List (Vec ℕ × A)) → lookup (λ k. bytes_eq name k.items) es ≡ found (by_bytes es) name
lookup-by_bytes name [] = refl
lookup-by_bytes name (e ∷ es) = ap (λ o. if bytes_eq name e.0.items then Some e.1 else o) (lookup-by_bytes name es)

module _ {A : Type 0} (eq : Vec ℕ → Vec ℕ → Bool) (key : Vec ℕ) (value : A) (same : (k : Vec ℕ) → eq key k ≡ bytes_eq key.items k.items) where
  -- a key that is not there goes last
  insert_entry-new : (es : List (Vec ℕ × A)) → found (by_bytes es) key.items ≡ None → by_bytes (insert_entry eq es key value) ≡ by_bytes es ++ (key.items, value) ∷ []
  insert_entry-new [] absent = refl
  insert_entry-new (e ∷ es) absent = at (bytes_eq key.items e.0.items) (same e.0) absent (insert_entry-new es)
    where
      at : (b : Bool) → eq key e.0 ≡ b → (if b then Some e.1 else found (by_bytes es) key.items) ≡ None
          → (found (by_bytes es) key.items ≡ None → by_bytes (insert_entry eq es key value) ≡ by_bytes es ++ (key.items, value) ∷ [])
          → by_bytes (insert_entry eq (e ∷ es) key value) ≡ by_bytes (e ∷ es) ++ (key.items, value) ∷ []
      at true is absent rest = cc
      at false is absent rest = rw is (ap (λ l. (e.0.items, e.1) ∷ l) (rest absent))

  -- and so does its name
  pub entered : (es new : List (Vec ℕ × A)) (old : List (List ℕ × A)) (name : List ℕ) → by_bytes es ≡ old → key.items ≡ name → found old name ≡ None → new ≡ insert_entry eq es key value → by_bytes new ≡ old ++ (name, value) ∷ []
  entered es new old name view items absent grows = rw (grows, ← view, ← items) (insert_entry-new es (rw (view, items) absent))

module _ {A : Type 0} (name : List ℕ) (value : A) where
  -- what is found with one entry more
  pub found-append : (es : List (List ℕ × A)) (other : List ℕ) → found (es ++ (name, value) ∷ []) other ≡ or_else (found es other) (if bytes_eq other name then Some value else None)
  found-append [] other = refl
  found-append (e ∷ es) other = at (bytes_eq other e.0) (found-append es other)
    where
      at : (b : Bool) → found (es ++ (name, value) ∷ []) other ≡ or_else (found es other) (if bytes_eq other name then Some value else None)
          → (if b then Some e.1 else found (es ++ (name, value) ∷ []) other) ≡ or_else (if b then Some e.1 else found es other) (if bytes_eq other name then Some value else None)
      at true rest = refl
      at false rest = rest

  or_nothing : (o : Option A) → o ≡ or_else o None
  or_nothing None = refl
  or_nothing (Some x) = refl

  -- an entry of a name that is there changes nothing
  pub found-there : (es : List (List ℕ × A)) (there : A) (other : List ℕ) → found es name ≡ Some there → found es other ≡ or_else (found es other) (if bytes_eq other name then Some value else None)
  found-there es there other is = at (bytes_eq other name) refl
    where
      at : (b : Bool) → bytes_eq other name ≡ b → found es other ≡ or_else (found es other) (if b then Some value else None)
      at false e = or_nothing (found es other)
      at true e =
          let same : other ≡ name = (bytes_eq-Decides other name).0 e in
          let held : found es other ≡ Some there = rw same is in
          rw held refl
