-- Tables that have for each key the place of the first item of that key.
use Rattle.std.proofs.Common.{◌≡◌, ℕ, suc, ◌+◌, ◌==◌, Bool, true, false, true≢false, if◌then◌else◌, List, [], ◌∷◌, ◌++◌, length, slice_get, Option, Some, None, is_some, refl, ap, subst, cond, sym, ◌∙◌, position, arith}
use Rattle.std.proofs.lemmas.Iterator.Adapters.{position_from-zero}
use Rattle.std.specs.List.{position_from}
use Rattle.std.specs.Map.{lookup}
use Rattle.std.specs.Option.{option_map}
use Rattle.indexmap.specs.IndexMap.{insert_entry}
use Rattle.ep_scope.specs.Numbers.{type_number}
use Rattle.ep_scope.specs.Scopes.{structure_among}
use Rattle.ep_scope.specs.declared.structure.Composition.{Composition}
use Rattle.ep_scope.specs.declared.structure.StructuredType.{StructuredType}

-- the one, or else the other
abbrev or_else : Option ℕ → Option ℕ → Option ℕ
or_else None other = other
or_else (Some n) other = Some n

module _ {X : Type 0} (p : X → Bool) where
  -- the first place in a list with one item more, counted from a number
  place_from-more : (n : ℕ) (xs : List X) (x : X)
      → position_from p n (xs ++ x ∷ []) ≡ or_else (position_from p n xs) (cond (p x) (Some (n + length xs)) None)
  place_from-more n [] x = ap (λ k. cond (p x) (Some k) None) (omega arith)
  place_from-more n (y ∷ ys) x = at (p y) refl (place_from-more (n + 1) ys x)
    where
      at : (b : Bool) → p y ≡ b
          → position_from p (n + 1) (ys ++ x ∷ []) ≡ or_else (position_from p (n + 1) ys) (cond (p x) (Some (n + 1 + length ys)) None)
          → cond (p y) (Some n) (position_from p (n + 1) (ys ++ x ∷ [])) ≡ or_else (cond (p y) (Some n) (position_from p (n + 1) ys)) (cond (p x) (Some (n + length (y ∷ ys))) None)
      at true is rest = rw is refl
      at false is rest =
          rw is (rest ∙ ap (λ k. or_else (position_from p (n + 1) ys) (cond (p x) (Some k) None)) (omega arith))

  -- and from 0
  place-more : (xs : List X) (x : X) → position p (xs ++ x ∷ []) ≡ or_else (position p xs) (cond (p x) (Some (length xs)) None)
  place-more xs x =
      position_from-zero p (xs ++ x ∷ []) ∙ place_from-more 0 xs x
      ∙ ap (λ k. or_else (position_from p 0 xs) (cond (p x) (Some k) None)) (omega arith)
      ∙ ap (λ o. or_else o (cond (p x) (Some (length xs)) None)) (sym (position_from-zero p xs))

module _ {K : Type 0} (test : K → Bool) where
  -- what a key finds with one entry more
  lookup-more : (es : List (K × ℕ)) (k : K) (n : ℕ) → lookup test (es ++ (k, n) ∷ []) ≡ or_else (lookup test es) (cond (test k) (Some n) None)
  lookup-more [] k n = refl
  lookup-more (e ∷ es) k n = at (test e.0) refl (lookup-more es k n)
    where
      at : (b : Bool) → test e.0 ≡ b → lookup test (es ++ (k, n) ∷ []) ≡ or_else (lookup test es) (cond (test k) (Some n) None)
          → cond (test e.0) (Some e.1) (lookup test (es ++ (k, n) ∷ [])) ≡ or_else (cond (test e.0) (Some e.1) (lookup test es)) (cond (test k) (Some n) None)
      at true is rest = rw is refl
      at false is rest = rw is rest

module _ {K Q X : Type 0} (keyed : K → Q) (own : X → Q) (same : Q → Q → Bool) (swaps : (a b : Q) → same a b ≡ same b a) (equal : (a b : Q) → same a b ≡ true → a ≡ b) where
  -- entries that have for each key the place of its first item
  abbrev AreFirst : List (K × ℕ) → List X → Type 0
  AreFirst es xs = (q : Q) → lookup (λ k. same q (keyed k)) es ≡ position (λ x. same (own x) q) xs

  -- an item of a new key has an entry
  pub first-new : (es new : List (K × ℕ)) (xs : List X) (x : X) (k : K) → AreFirst es xs → keyed k ≡ own x
      → new ≡ es ++ (k, length xs) ∷ [] → AreFirst new (xs ++ x ∷ [])
  first-new es new xs x k first is grows q =
      ap (lookup (λ j. same q (keyed j))) grows ∙ lookup-more (λ j. same q (keyed j)) es k (length xs)
      ∙ ap (λ o. or_else o (cond (same q (keyed k)) (Some (length xs)) None)) (first q)
      ∙ ap (λ b. or_else (position (λ y. same (own y) q) xs) (cond b (Some (length xs)) None)) (swaps q (keyed k) ∙ ap (λ j. same j q) is)
      ∙ sym (place-more (λ y. same (own y) q) xs x)

  -- and one of a key that is there has none
  pub first-there : (es : List (K × ℕ)) (xs : List X) (x : X) (n : ℕ) → AreFirst es xs
      → lookup (λ k. same (own x) (keyed k)) es ≡ Some n → AreFirst es (xs ++ x ∷ [])
  first-there es xs x n first found q = first q ∙ at (same (own x) q) refl ∙ sym (place-more (λ y. same (own y) q) xs x)
    where
      at : (b : Bool) → same (own x) q ≡ b → position (λ y. same (own y) q) xs ≡ or_else (position (λ y. same (own y) q) xs) (cond (same (own x) q) (Some (length xs)) None)
      at false is = rw is (none (position (λ y. same (own y) q) xs))
        where
          none : (o : Option ℕ) → o ≡ or_else o None
          none None = refl
          none (Some m) = refl
      at true is =
          let there : position (λ y. same (own y) q) xs ≡ Some n = subst (λ j. position (λ y. same (own y) j) xs ≡ Some n) (equal (own x) q is) (sym (first (own x)) ∙ found) in
          rw there refl

  module _ (es table : List (K × ℕ)) (xs ys : List X) (x : X) (first : AreFirst es xs) (kept : table ≡ es) (grows : ys ≡ xs ++ x ∷ []) where
    abbrev found : Option ℕ
    found = lookup (λ k. same (own x) (keyed k)) es

    -- an item of a key that is there, in a table of the same entries
    pub first-kept : is_some found ≡ true → AreFirst table ys
    first-kept there = at found refl there
      where
        at : (o : Option ℕ) → found ≡ o → is_some o ≡ true → AreFirst table ys
        at None is some = absurd (true≢false (sym some))
        at (Some n) is some = subst (λ l. AreFirst l ys) (sym kept) (subst (AreFirst es) (sym grows) (first-there es xs x n first is))

    module _ (eq : K → K → Bool) (key : K) (n : ℕ) (alike : (k : K) → eq key k ≡ same (keyed key) (keyed k)) where
      -- a key that is not there goes last
      inserted-last : (fs : List (K × ℕ)) → is_some (lookup (λ k. same (keyed key) (keyed k)) fs) ≡ false → insert_entry eq fs key n ≡ fs ++ (key, n) ∷ []
      inserted-last [] absent = refl
      inserted-last (e ∷ fs) absent = at (same (keyed key) (keyed e.0)) refl absent (inserted-last fs)
        where
          at : (b : Bool) → same (keyed key) (keyed e.0) ≡ b → is_some (cond b (Some e.1) (lookup (λ k. same (keyed key) (keyed k)) fs)) ≡ false
              → (is_some (lookup (λ k. same (keyed key) (keyed k)) fs) ≡ false → insert_entry eq fs key n ≡ fs ++ (key, n) ∷ [])
              → (if eq key e.0 then (e.0, n) ∷ fs else e ∷ insert_entry eq fs key n) ≡ e ∷ (fs ++ (key, n) ∷ [])
          at true is some rest = absurd (true≢false some)
          at false is none rest = rw (alike e.0, is) (ap (λ l. e ∷ l) (rest none))

      -- an item of a new key, whose place is put there
      pub first-put : (new : List (K × ℕ)) → keyed key ≡ own x → n ≡ length xs → is_some found ≡ false → new ≡ insert_entry eq table key n → AreFirst new ys
      first-put new is counted absent put =
          let last : new ≡ es ++ (key, length xs) ∷ [] =
          put ∙ ap (λ l. insert_entry eq l key n) kept
          ∙ inserted-last es (subst (λ q. is_some (lookup (λ k. same q (keyed k)) es) ≡ false) (sym is) absent)
          ∙ ap (λ m. es ++ (key, m) ∷ []) counted in
          subst (AreFirst new) (sym grows) (first-new es new xs x key first is last)

-- ---- what stands at a place

module _ {X : Type 0} (p : X → Bool) where
  -- the first place counted from one more
  place_from-suc : (n : ℕ) (xs : List X) → position_from p (n + 1) xs ≡ option_map suc (position_from p n xs)
  place_from-suc n [] = refl
  place_from-suc n (y ∷ ys) = at (p y) refl (place_from-suc (n + 1) ys)
    where
      at : (b : Bool) → p y ≡ b → position_from p (n + 1 + 1) ys ≡ option_map suc (position_from p (n + 1) ys)
          → cond (p y) (Some (n + 1)) (position_from p (n + 1 + 1) ys) ≡ option_map suc (cond (p y) (Some n) (position_from p (n + 1) ys))
      at true is rest = rw is (ap Some (omega arith))
      at false is rest = rw is rest

  -- the first place in a list with one item more in front
  pub place-cons : (x : X) (xs : List X) → position p (x ∷ xs) ≡ cond (p x) (Some 0) (option_map suc (position p xs))
  place-cons x xs =
      position_from-zero p (x ∷ xs)
      ∙ ap (λ o. cond (p x) (Some 0) o) (place_from-suc 0 xs ∙ ap (option_map suc) (sym (position_from-zero p xs)))

-- what the type at a place is made of
abbrev pub composition_at : List StructuredType → Option ℕ → Option Composition
composition_at types None = None
composition_at types (Some n) = option_map (λ s. s.composition) (slice_get types n)

composition-behind : (s : StructuredType) (types : List StructuredType) (o : Option ℕ) → composition_at types o ≡ composition_at (s ∷ types) (option_map suc o)
composition-behind s types None = refl
composition-behind s types (Some n) = refl

-- that of a number is made of what the type at its place is
pub composition-placed : (number : ℕ) (types : List StructuredType) → structure_among number types ≡ composition_at types (type_number types number)
composition-placed number [] = refl
composition-placed number (s ∷ types) = rw (place-cons (λ t. t.number == number) s types) (at (s.number == number) (composition-placed number types))
  where
    at : (b : Bool) → structure_among number types ≡ composition_at types (type_number types number)
        → (if b then Some s.composition else structure_among number types) ≡ composition_at (s ∷ types) (cond b (Some 0) (option_map suc (type_number types number)))
    at true rest = refl
    at false rest = rest ∙ composition-behind s types (type_number types number)
