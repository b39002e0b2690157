-- The fields of records in layers.
use Rattle.std.proofs.Common.{◌≡◌, ℕ, zero, suc, ◌+◌, ◌-◌, ◌<◌, ◌≤◌, Bool, true, false, true≢false, nat_lt, List, [], ◌∷◌, ◌++◌, length, drop, get_or, slice_get, Option, Some, None, is_some, refl, ap, subst, cond, sym, ◌∙◌, position, if◌then◌else◌, arith}
use Rattle.std.proofs.lemmas.Iterator.Adapters.{position_from-zero}
use Rattle.std.proofs.lemmas.List.{drop_more}
use Rattle.std.proofs.lemmas.Option.{none-some}
use Rattle.std.proofs.lemmas.Slice.Eq.{bytes_eq-Decides}
use Rattle.std.specs.Cmp.Lexicographic.{nat_list_eq_equiv}
use Rattle.std.specs.Global.{Vec}
use Rattle.std.specs.List.{position_from}
use Rattle.std.specs.Map.{lookup}
use Rattle.std.specs.Option.{option_map, option_or}
use Rattle.std.specs.Str.{bytes_eq}
use Rattle.indexmap.specs.IndexMap.{insert_entry}
use Rattle.ep_scope.specs.Fields.{field_number}
use Rattle.ep_scope.specs.Layers.{Adds, Asked, Listed, AreBelow, AreLayers, HasFields, IsBelow, IsTable, inside_out, large_place, later, layers_field, place_field, place_in, place_in_record, place_of, record_field, records_of, small_place, table_field}
use Rattle.ep_scope.specs.Records.{open_of}
use Rattle.ep_scope.specs.Scopes as scope
use Rattle.ep_scope.specs.Scopes.{field_among, field_at, field_of, field_or}
use Rattle.ep_scope.specs.declared.layer.FieldPlace.{FieldPlace}
use Rattle.ep_scope.specs.declared.layer.FieldTable.{FieldTable}
use Rattle.ep_scope.specs.declared.layer.Layer.{Layer}
use Rattle.ep_scope.specs.declared.record.OpenRecord.{OpenRecord}
use Rattle.ep_scope.specs.declared.structure.FieldType.{FieldType}
use Rattle.ep_scope.proofs.Places.{place-cons}

-- ---- records in layers

-- a record more behind others is inside of them
pub inside_out-more : (rs : List OpenRecord) (r : OpenRecord) (around : List scope.OpenRecord) → inside_out (rs ++ r ∷ []) around ≡ open_of r ∷ inside_out rs around
inside_out-more [] r around = refl
inside_out-more (x ∷ rs) r around = inside_out-more rs r (open_of x ∷ around)

field_or-assoc : (a b c : Option scope.OpenField) → field_or (field_or a b) c ≡ field_or a (field_or b c)
field_or-assoc None b c = refl
field_or-assoc (Some f) b c = refl

no_field_more : (o : Option scope.OpenField) → field_or o None ≡ o
no_field_more None = refl
no_field_more (Some f) = refl

-- what records have that are inside of others, or else these
field_inside : (rs : List OpenRecord) (around : List scope.OpenRecord) (name : List ℕ)
    → field_among (inside_out rs around) name ≡ field_or (field_among (inside_out rs []) name) (field_among around name)
field_inside [] around name = refl
field_inside (r ∷ rs) around name =
    field_inside rs (open_of r ∷ around) name
    ∙ sym (field_or-assoc (field_among (inside_out rs []) name) (field_of (open_of r) name) (field_among around name))
    ∙ ap (λ f. field_or f (field_among around name)) (sym (one (field_inside rs (open_of r ∷ []) name)))
  where
    one : field_among (inside_out rs (open_of r ∷ [])) name ≡ field_or (field_among (inside_out rs []) name) (field_or (field_of (open_of r) name) None)
        → field_among (inside_out rs (open_of r ∷ [])) name ≡ field_or (field_among (inside_out rs []) name) (field_of (open_of r) name)
    one is = is ∙ ap (field_or (field_among (inside_out rs []) name)) (no_field_more (field_of (open_of r) name))

-- layers with good tables find the fields of their records
pub layers_find : (ls : List Layer) → AreLayers ls → (name : List ℕ) → layers_field ls name ≡ field_among (records_of ls) name
layers_find [] are name = refl
layers_find (l ∷ ls) are name =
    ap (λ f. field_or f (layers_field ls name)) (are.0.finds name)
    ∙ ap (field_or (field_among (inside_out l.records.now []) name)) (layers_find ls are.1 name)
    ∙ sym (field_inside l.records.now (records_of ls) name)

-- ---- places among records

module _ {X : Type 0} where
  -- what a list has a longer one has too
  get_front : (xs : List X) (x : X) (k : ℕ) → k < length xs → slice_get (xs ++ x ∷ []) k ≡ slice_get xs k
  get_front [] x k below = absurd (omega (arith, below))
  get_front (y ∷ xs) x zero below = refl
  get_front (y ∷ xs) x (suc k) below = get_front xs x k (omega (arith, below))

  -- and its last one
  get_last : (xs : List X) (x : X) → slice_get (xs ++ x ∷ []) (length xs) ≡ Some x
  get_last [] x = refl
  get_last (y ∷ xs) x = get_last xs x

  length_more : (xs : List X) (x : X) → length (xs ++ x ∷ []) ≡ suc (length xs)
  length_more [] x = refl
  length_more (y ∷ xs) x = ap suc (length_more xs x)

module _ {X : Type 0} where
  -- what a list has from a place on, with the item before it
  drop_back : (xs : List X) (at : ℕ) (d : X) → 0 < at → at ≤ length xs → drop (at - 1) xs ≡ get_or xs (at - 1) d ∷ drop at xs
  drop_back xs at d some within = drop_more xs (at - 1) d (omega (arith, some, within)) ∙ ap (λ k. get_or xs (at - 1) d ∷ drop k xs) (omega (arith, some))

abbrev number_or : ℕ → Option ℕ → ℕ
number_or d None = d
number_or d (Some n) = n

some_is : (m n : ℕ) → Some m ≡ Some n → m ≡ n
some_is m n e = ap (number_or m) e

module _ {X : Type 0} (p : X → Bool) where
  abbrev IsPlaced : List X → Type 0
  IsPlaced xs = (n : ℕ) → position p xs ≡ Some n → (x : X) × (slice_get xs n ≡ Some x)

  -- at the place that is found stands something
  placed : (xs : List X) (n : ℕ) → position p xs ≡ Some n → (x : X) × (slice_get xs n ≡ Some x)
  placed [] n is = absurd (none-some n is)
  placed (x ∷ xs) n is = at (λ m found. placed xs m found) (p x) (sym (place-cons p x xs) ∙ is)
    where
      behind : IsPlaced xs → (o : Option ℕ) → position p xs ≡ o → option_map suc o ≡ Some n → (y : X) × (slice_get (x ∷ xs) n ≡ Some y)
      behind rest None found e = absurd (none-some n e)
      behind rest (Some m) found e = let y = rest m found in (y.0, subst (λ k. slice_get (x ∷ xs) k ≡ Some y.0) (some_is (suc m) n e) y.1)

      at : IsPlaced xs → (b : Bool) → cond b (Some 0) (option_map suc (position p xs)) ≡ Some n → (y : X) × (slice_get (x ∷ xs) n ≡ Some y)
      at rest true e = (x, subst (λ k. slice_get (x ∷ xs) k ≡ Some x) (some_is 0 n e) refl)
      at rest false e = behind rest (position p xs) refl e

or-assoc : (a b c : Option FieldPlace) → option_or (option_or a b) c ≡ option_or a (option_or b c)
or-assoc None b c = refl
or-assoc (Some p) b c = refl

module _ (rs : List OpenRecord) (r : OpenRecord) where
  -- where records have a field they have it with one more behind them
  place_in-more : (k : ℕ) (name : List ℕ) → k < length rs → place_in (rs ++ r ∷ []) k name ≡ place_in rs k name
  place_in-more k name below = rw (get_front rs r k below) refl

  large-more : (ks : List ℕ) (name : List ℕ) → AreBelow ks (length rs) → large_place (rs ++ r ∷ []) ks name ≡ large_place rs ks name
  large-more [] name below = refl
  large-more (k ∷ ks) name below = rw (large-more ks name below.1, place_in-more k name below.0) refl

  place_field-more : (p : Option FieldPlace) → IsBelow p (length rs) → place_field (rs ++ r ∷ []) p ≡ place_field rs p
  place_field-more None below = refl
  place_field-more (Some p) below = rw (get_front rs r p.number below) refl

-- one number more is asked first
large-last : (rs : List OpenRecord) (ks : List ℕ) (k : ℕ) (name : List ℕ) → large_place rs (ks ++ k ∷ []) name ≡ option_or (place_in rs k name) (large_place rs ks name)
large-last rs [] k name = no_more (place_in rs k name)
  where
    no_more : (o : Option FieldPlace) → option_or None o ≡ option_or o None
    no_more None = refl
    no_more (Some p) = refl
large-last rs (j ∷ ks) k name =
    ap (λ o. option_or o (place_in rs j name)) (large-last rs ks k name) ∙ or-assoc (place_in rs k name) (large_place rs ks name) (place_in rs j name)

-- a place that is found is that of a record
place_of-below : (n k : ℕ) (o : Option ℕ) → k < n → IsBelow (place_of k o) n
place_of-below n k None below = tt
place_of-below n k (Some f) below = below

or-below : (n : ℕ) (a b : Option FieldPlace) → IsBelow a n → IsBelow b n → IsBelow (option_or a b) n
or-below n None b x y = y
or-below n (Some p) b x y = x

place_in-below : (rs : List OpenRecord) (n k : ℕ) (name : List ℕ) → k < n → IsBelow (place_in rs k name) n
place_in-below rs n k name below = at (slice_get rs k)
  where
    at : (o : Option OpenRecord) → IsBelow (place_in_record k o name) n
    at None = tt
    at (Some r) = place_of-below n k (field_number r.fields.now name) below

large-below : (rs : List OpenRecord) (ks : List ℕ) (n : ℕ) (name : List ℕ) → AreBelow ks n → IsBelow (large_place rs ks name) n
large-below rs [] n name below = tt
large-below rs (k ∷ ks) n name below = or-below n (large_place rs ks name) (place_in rs k name) (large-below rs ks n name below.1) (place_in-below rs n k name below.0)

later-below : (n : ℕ) (a b : Option FieldPlace) → IsBelow a n → IsBelow b n → IsBelow (later a b) n
later-below n None b x y = y
later-below n (Some p) None x y = x
later-below n (Some p) (Some q) x y = at (nat_lt p.number q.number)
  where
    at : (c : Bool) → IsBelow (if c then Some q else Some p) n
    at true = y
    at false = x

IsBelow-suc : (n : ℕ) (a : Option FieldPlace) → IsBelow a n → IsBelow a (suc n)
IsBelow-suc n None below = tt
IsBelow-suc n (Some p) below = omega (arith, below)

AreBelow-last : (n : ℕ) (ks : List ℕ) → AreBelow ks n → AreBelow (ks ++ n ∷ []) (suc n)
AreBelow-last n [] below = (omega arith, tt)
AreBelow-last n (k ∷ ks) below = (omega (arith, below.0), AreBelow-last n ks below.1)

AreBelow-suc : (n : ℕ) (ks : List ℕ) → AreBelow ks n → AreBelow ks (suc n)
AreBelow-suc n [] below = tt
AreBelow-suc n (k ∷ ks) below = (omega (arith, below.0), AreBelow-suc n ks below.1)

-- ---- one record more

-- the place of a field of the last record is later than others
later-large : (n : ℕ) (o : Option ℕ) (small large : Option FieldPlace) → IsBelow small n → later small (option_or (place_of n o) large) ≡ option_or (place_of n o) (later small large)
later-large n None small large below = refl
later-large n (Some f) None large below = refl
later-large n (Some f) (Some p) large below = at (nat_lt p.number n) (grind (arith, below))
  where
    at : (c : Bool) → c ≡ true → (if c then Some (record { number = n; field = f }) else Some p) ≡ Some (record { number = n; field = f })
    at true is = refl
    at false is = absurd (true≢false (sym is))

later-small : (n : ℕ) (o : Option ℕ) (small large : Option FieldPlace) → IsBelow large n → later (option_or (place_of n o) small) large ≡ option_or (place_of n o) (later small large)
later-small n None small large below = refl
later-small n (Some f) small None below = refl
later-small n (Some f) small (Some p) below = at (nat_lt n p.number) (grind (arith, below))
  where
    at : (c : Bool) → c ≡ false → (if c then Some p else Some (record { number = n; field = f })) ≡ Some (record { number = n; field = f })
    at false is = refl
    at true is = absurd (true≢false is)

module _ (rs : List OpenRecord) (r : OpenRecord) (old new : FieldTable) (is : IsTable rs old) where
  module _ (name : List ℕ) where
    abbrev small : Option FieldPlace
    small = small_place old.places.entries name

    abbrev large : Option FieldPlace
    large = large_place rs old.large name

    abbrev own : Option FieldPlace
    own = place_of (length rs) (field_number r.fields.now name)

    large_fits : IsBelow large (length rs)
    large_fits = large-below rs old.large (length rs) name is.large

    -- the field at a place of the last record, or else what was found
    own_or : place_field (rs ++ r ∷ []) (option_or own (later small large)) ≡ field_or (field_of (open_of r) name) (place_field rs (later small large))
    own_or = at (field_number r.fields.now name) refl
      where
        at : (o : Option ℕ) → field_number r.fields.now name ≡ o → place_field (rs ++ r ∷ []) (option_or (place_of (length rs) o) (later small large)) ≡ field_or (field_at (open_of r) o) (place_field rs (later small large))
        at None found = place_field-more rs r (later small large) (later-below (length rs) small large (is.small name) large_fits)
        at (Some f) found =
            let there = placed (λ g. bytes_eq g.name name) r.fields.now f found in
            ap (λ o. record_field o f) (get_last rs r)
            ∙ (rw there.1 refl)

    -- where the table finds a field now
    later_now : Adds old (length rs) r.fields.now new → later (small_place new.places.entries name) (large_place (rs ++ r ∷ []) new.large name) ≡ option_or own (later small large)
    later_now (Asked places larges) =
        ap (λ m. later (small_place m.entries name) (large_place (rs ++ r ∷ []) new.large name)) places
        ∙ ap (λ ks. later small (large_place (rs ++ r ∷ []) ks name)) larges
        ∙ ap (later small) (large-last (rs ++ r ∷ []) old.large (length rs) name)
        ∙ ap (λ o. later small (option_or (place_in_record (length rs) o name) (large_place (rs ++ r ∷ []) old.large name))) (get_last rs r)
        ∙ ap (λ o. later small (option_or own o)) (large-more rs r old.large name is.large)
        ∙ later-large (length rs) (field_number r.fields.now name) small large (is.small name)
    later_now (Listed larges places) =
        ap (λ o. later o (large_place (rs ++ r ∷ []) new.large name)) (places name)
        ∙ ap (λ ks. later (option_or own small) (large_place (rs ++ r ∷ []) ks name)) larges
        ∙ ap (later (option_or own small)) (large-more rs r old.large name is.large)
        ∙ later-small (length rs) (field_number r.fields.now name) small large large_fits

    finds_now : Adds old (length rs) r.fields.now new → table_field (rs ++ r ∷ []) new name ≡ field_among (inside_out (rs ++ r ∷ []) []) name
    finds_now adds =
        ap (place_field (rs ++ r ∷ [])) (later_now adds) ∙ own_or
        ∙ ap (field_or (field_of (open_of r) name)) (is.finds name)
        ∙ ap (λ os. field_among os name) (sym (inside_out-more rs r []))

    small_now : Adds old (length rs) r.fields.now new → IsBelow (small_place new.places.entries name) (length (rs ++ r ∷ []))
    small_now (Asked places larges) =
        rw (length_more rs r, places) (IsBelow-suc (length rs) small (is.small name))
    small_now (Listed larges places) =
        rw (length_more rs r, places name)
        (or-below (suc (length rs)) own small (place_of-below (suc (length rs)) (length rs) (field_number r.fields.now name) (omega arith)) (IsBelow-suc (length rs) small (is.small name)))

  large_now : Adds old (length rs) r.fields.now new → AreBelow new.large (length (rs ++ r ∷ []))
  large_now (Asked places larges) = rw (length_more rs r, larges) (AreBelow-last (length rs) old.large is.large)
  large_now (Listed larges places) = rw (length_more rs r, larges) (AreBelow-suc (length rs) old.large is.large)

  -- a table with the fields of a record more is one of those records
  table_more : Adds old (length rs) r.fields.now new → IsTable (rs ++ r ∷ []) new
  table_more adds = record { large = large_now adds; small = λ name. small_now name adds; finds = λ name. finds_now name adds }

-- one of these records, if its table and their list are what they are to be
pub table_grown : (rs grown : List OpenRecord) (r : OpenRecord) (old new : FieldTable) (number : ℕ) → IsTable rs old → number ≡ length rs → Adds old number r.fields.now new → grown ≡ rs ++ r ∷ [] → IsTable grown new
table_grown rs grown r old new number is counted adds grows =
    subst (λ l. IsTable l new) (sym grows) (table_more rs r old new is (subst (λ n. Adds old n r.fields.now new) counted adds))

-- ---- how the large ones are asked

-- what is found behind is found
large_behind : (rs : List OpenRecord) (ks : List ℕ) (at : ℕ) (name : List ℕ) (p : FieldPlace) → large_place rs (drop at ks) name ≡ Some p → large_place rs ks name ≡ Some p
large_behind rs ks zero name p is = is
large_behind rs [] (suc at) name p is = is
large_behind rs (k ∷ ks) (suc at) name p is = ap (λ o. option_or o (place_in rs k name)) (large_behind rs ks at name p is)

-- where none is found behind a number, what its record has is found first
large_at : (rs : List OpenRecord) (ks : List ℕ) (at d : ℕ) (name : List ℕ) → 0 < at → at ≤ length ks
    → large_place rs (drop at ks) name ≡ None → large_place rs (drop (at - 1) ks) name ≡ place_in rs (get_or ks (at - 1) d) name
large_at rs ks at d name some within none =
    ap (λ l. large_place rs l name) (drop_back ks at d some within) ∙ ap (λ o. option_or o (place_in rs (get_or ks (at - 1) d) name)) none

-- what that record has is found among all, or else none is found from its number on
pub found_at : (rs : List OpenRecord) (ks : List ℕ) (at d : ℕ) (name : List ℕ) (found : Option FieldPlace) → 0 < at → at ≤ length ks
    → large_place rs (drop at ks) name ≡ None → found ≡ place_in rs (get_or ks (at - 1) d) name → is_some found ≡ true → found ≡ large_place rs ks name
found_at rs ks at d name None some within none has there = absurd (true≢false (sym there))
found_at rs ks at d name (Some p) some within none has there =
    sym (large_behind rs ks (at - 1) name p (large_at rs ks at d name some within none ∙ sym has))

pub none_at : (rs : List OpenRecord) (ks : List ℕ) (at d : ℕ) (name : List ℕ) (found : Option FieldPlace) → 0 < at → at ≤ length ks
    → large_place rs (drop at ks) name ≡ None → found ≡ place_in rs (get_or ks (at - 1) d) name → is_some found ≡ false → large_place rs (drop (at - 1) ks) name ≡ None
none_at rs ks at d name None some within none has absent = large_at rs ks at d name some within none ∙ sym has
none_at rs ks at d name (Some p) some within none has absent = absurd (true≢false absent)

-- ---- the fields of a record in a table

-- places that have the fields from a number on
abbrev pub HasFieldsFrom : List (Vec ℕ × FieldPlace) → ℕ → ℕ → List FieldType → List (Vec ℕ × FieldPlace) → Type 0
HasFieldsFrom old number at fields new =
    (name : List ℕ) → small_place new name ≡ option_or (place_of number (position_from (λ f. bytes_eq f.name name) at fields)) (small_place old name)

-- from 0 on these are all
pub fields_all : (old : List (Vec ℕ × FieldPlace)) (number at : ℕ) (fields : List FieldType) (new : List (Vec ℕ × FieldPlace)) → at ≡ 0 → HasFieldsFrom old number at (drop at fields) new → HasFields old number fields new
fields_all old number at fields new start has name =
    subst (λ k. HasFieldsFrom old number k (drop k fields) new) start has name
    ∙ ap (λ o. option_or (place_of number o) (small_place old name)) (sym (position_from-zero (λ f. bytes_eq f.name name) fields))

module _ {V : Type 0} (eq : Vec ℕ → Vec ℕ → Bool) (key : Vec ℕ) (v : V) (same : (k : Vec ℕ) → eq key k ≡ bytes_eq key.items k.items) (name : List ℕ) where
  abbrev test : Vec ℕ → Bool
  test k = bytes_eq name k.items

  -- a key that was put there finds its value, and the others what they found
  found-inserted : (es : List (Vec ℕ × V)) → lookup test (insert_entry eq es key v) ≡ cond (bytes_eq name key.items) (Some v) (lookup test es)
  found-inserted [] = refl
  found-inserted (e ∷ es) = at (bytes_eq key.items e.0.items) refl (found-inserted es)
    where
      -- the key is that of the first entry
      first : key.items ≡ e.0.items → cond (bytes_eq name e.0.items) (Some v) (lookup test es) ≡ cond (bytes_eq name key.items) (Some v) (cond (bytes_eq name e.0.items) (Some e.1) (lookup test es))
      first is = rw is (by (bytes_eq name e.0.items))
        where
          by : (b : Bool) → cond b (Some v) (lookup test es) ≡ cond b (Some v) (cond b (Some e.1) (lookup test es))
          by true = refl
          by false = refl

      -- or it is not
      other : (b c : Bool) → bytes_eq name key.items ≡ b → bytes_eq name e.0.items ≡ c → bytes_eq key.items e.0.items ≡ false
          → cond c (Some e.1) (cond b (Some v) (lookup test es)) ≡ cond b (Some v) (cond c (Some e.1) (lookup test es))
      other true true is_key is_first apart =
          let is : key.items ≡ e.0.items = sym ((bytes_eq-Decides name key.items).0 is_key) ∙ (bytes_eq-Decides name e.0.items).0 is_first in
          absurd (true≢false (sym ((bytes_eq-Decides key.items e.0.items).1 is) ∙ apart))
      other true false is_key is_first apart = refl
      other false true is_key is_first apart = refl
      other false false is_key is_first apart = refl

      at : (b : Bool) → bytes_eq key.items e.0.items ≡ b → lookup test (insert_entry eq es key v) ≡ cond (bytes_eq name key.items) (Some v) (lookup test es)
          → lookup test (if eq key e.0 then (e.0, v) ∷ es else e ∷ insert_entry eq es key v) ≡ cond (bytes_eq name key.items) (Some v) (cond (bytes_eq name e.0.items) (Some e.1) (lookup test es))
      at true is rest = rw (same e.0, is) (first ((bytes_eq-Decides key.items e.0.items).0 is))
      at false is rest =
          rw (same e.0, is) (ap (λ o. cond (bytes_eq name e.0.items) (Some e.1) o) rest ∙ other (bytes_eq name key.items) (bytes_eq name e.0.items) refl refl is)

-- places that have the fields from behind a number on have those from it on once the one at it is put there
fields-more : (old table new : List (Vec ℕ × FieldPlace)) (number at : ℕ) (f : FieldType) (fs : List FieldType) (eq : Vec ℕ → Vec ℕ → Bool) (key : Vec ℕ)
    → ((k : Vec ℕ) → eq key k ≡ bytes_eq key.items k.items) → key.items ≡ f.name
    → HasFieldsFrom old number (at + 1) fs table → new ≡ insert_entry eq table key (record { number = number; field = at }) → HasFieldsFrom old number at (f ∷ fs) new
fields-more old table new number at f fs eq key same key_is has is name =
    ap (λ es. small_place es name) is ∙ found-inserted eq key (record { number = number; field = at }) same name table
    ∙ ap (λ b. cond b (Some (record { number = number; field = at })) (small_place table name)) (ap (bytes_eq name) key_is ∙ nat_list_eq_equiv.symm name f.name)
    ∙ by (bytes_eq f.name name)
  where
    by : (b : Bool) → cond b (Some (record { number = number; field = at })) (small_place table name)
        ≡ option_or (place_of number (cond b (Some at) (position_from (λ g. bytes_eq g.name name) (at + 1) fs))) (small_place old name)
    by true = refl
    by false = has name

pub fields_before : (old table new : List (Vec ℕ × FieldPlace)) (number at : ℕ) (f : FieldType) (fs : List FieldType) (eq : Vec ℕ → Vec ℕ → Bool) (key : Vec ℕ)
    → 0 < at → at ≤ length fs → f ≡ get_or fs (at - 1) f
    → ((k : Vec ℕ) → eq key k ≡ bytes_eq key.items k.items) → key.items ≡ f.name
    → HasFieldsFrom old number at (drop at fs) table → new ≡ insert_entry eq table key (record { number = number; field = at - 1 }) → HasFieldsFrom old number (at - 1) (drop (at - 1) fs) new
fields_before old table new number at f fs eq key some within is same key_is has put =
    subst (λ gs. HasFieldsFrom old number (at - 1) gs new) (sym (drop_back fs at f some within ∙ ap (λ g. g ∷ drop at fs) (sym is)))
    (fields-more old table new number (at - 1) f (drop at fs) eq key same key_is (subst (λ k. HasFieldsFrom old number k (drop at fs) table) (omega (arith, some)) has) put)
