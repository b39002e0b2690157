-- The value of a number, and where a number ends.
use Rattle.std.proofs.Common.{◌≡◌, ℕ, suc, ◌+◌, ◌<◌, ◌≤◌, Bool, true, false, cond, ◌==◌, ◌&&◌, not, nat_lt, nat_le, inl, inr, List, [], ◌∷◌, ◌++◌, length, take, drop, get_or, Option, Some, None, refl, sym, ap, subst, ◌∙◌, arith, length-append, append_assoc, append-nil, take-append-drop}
use Rattle.std.specs.List.{list_all, prefix_len, position, position_or_len}
use Rattle.std.specs.Char.{is_ascii_alphanumeric}
use Rattle.std.proofs.lemmas.List.{take_at, drop_at}
use Rattle.std.proofs.lemmas.List.Sums.{prefix_len_stops}
use Rattle.std.proofs.lemmas.Bool.Decides.{nat_tests}
use Rattle.ep_token.specs.Numbers.{maxint, digit_value, is_digit_of, value_of, IsNumeral, IsNumber, continues_number}
use Rattle.ep_token.specs.Tokens.{begins}
use Rattle.ep_token.specs.Reading.{numeral, in_radix, split_number, number_value}
use Rattle.ep_token.proofs.Steps.{truth, and-parts, drop-at}

-- ---- where a row of bytes ends

pub prefix_len-all : (p : ℕ → Bool) (t r : List ℕ) → list_all p t ≡ true → begins p r ≡ false → prefix_len p (t ++ r) ≡ length t
prefix_len-all p [] [] h e = refl
prefix_len-all p [] (x ∷ r) h e = rw e refl
prefix_len-all p (x ∷ t) r h e =
    let parts = and-parts (p x) (list_all p t) h in
    rw parts.0 (omega (arith, prefix_len-all p t r parts.1 e))

pub prefix_len-stop : (p : ℕ → Bool) (xs : List ℕ) → begins p (drop (prefix_len p xs) xs) ≡ false
prefix_len-stop p [] = refl
prefix_len-stop p (x ∷ xs) =
    elim (truth (p x)) [
      | inl h ↦ ap (λ b. begins p (drop (cond b (1 + prefix_len p xs) 0) (x ∷ xs))) h ∙ ap (λ k. begins p (drop k (x ∷ xs))) (let k : 1 + prefix_len p xs ≡ suc (prefix_len p xs) = omega arith in k) ∙ prefix_len-stop p xs
      | inr h ↦ ap (λ b. begins p (drop (cond b (1 + prefix_len p xs) 0) (x ∷ xs))) h ∙ h
    ]

list_all-weaken : (p q : ℕ → Bool) → ((x : ℕ) → p x ≡ true → q x ≡ true) → (xs : List ℕ) → list_all p xs ≡ true → list_all q xs ≡ true
list_all-weaken p q h [] e = refl
list_all-weaken p q h (x ∷ xs) e =
    let parts = and-parts (p x) (list_all p xs) e in
    rw (h x parts.0, list_all-weaken p q h xs parts.1) refl

list_all-append : (p : ℕ → Bool) (xs ys : List ℕ) → list_all p xs ≡ true → list_all p ys ≡ true → list_all p (xs ++ ys) ≡ true
list_all-append p [] ys h e = e
list_all-append p (x ∷ xs) ys h e =
    let parts = and-parts (p x) (list_all p xs) h in
    rw (parts.0, list_all-append p xs ys parts.1 e) refl

-- ---- digits

digit-alphanumeric : (b : ℕ) → digit_value b < 36 → is_ascii_alphanumeric b ≡ true
unfolding digit_value
digit-alphanumeric b h = grind (arith, nat_tests)

digit-test : (radix b : ℕ) → radix ≤ 36 → is_digit_of radix b ≡ true → digit_value b < 36
digit-test radix b h e = let lt : digit_value b < radix = grind (arith, nat_tests) in omega arith

alphanumeric-continues : (b : ℕ) → is_ascii_alphanumeric b ≡ true → continues_number b ≡ true
unfolding continues_number
alphanumeric-continues b h = rw h refl

alphanumeric-no_mark : (b : ℕ) → is_ascii_alphanumeric b ≡ true → not (b == 35) ≡ true
alphanumeric-no_mark b h = grind (arith, nat_tests)

digits-continue : (radix : ℕ) (digits : List ℕ) → radix ≤ 36 → list_all (is_digit_of radix) digits ≡ true → list_all continues_number digits ≡ true
digits-continue radix digits h e = list_all-weaken (is_digit_of radix) continues_number (λ x p. alphanumeric-continues x (digit-alphanumeric x (digit-test radix x h p))) digits e

digits-no_mark : (digits : List ℕ) → list_all (is_digit_of 10) digits ≡ true → list_all (λ b. not (b == 35)) digits ≡ true
digits-no_mark digits e = list_all-weaken (is_digit_of 10) (λ b. not (b == 35)) (λ x p. alphanumeric-no_mark x (digit-alphanumeric x (digit-test 10 x (omega arith) p))) digits e

mark-continues : (ds : List ℕ) → list_all continues_number ds ≡ true → list_all continues_number (35 ∷ ds) ≡ true
unfolding continues_number
mark-continues ds e = e

-- a number has only bytes that may not follow one
pub number-continues : (text : List ℕ) (n : ℕ) → IsNumber text n → list_all continues_number text ≡ true
number-continues text n (inl decimal, h) = digits-continue 10 text (omega arith) decimal.each
number-continues text n (inr r, h) =
    ap (list_all continues_number) r.split ∙ list_all-append continues_number r.front (35 ∷ r.digits) (digits-continue 10 r.front (omega arith) r.radix_is.each) (mark-continues r.digits (digits-continue r.radix r.digits r.greatest r.value_is.each))

-- ---- values

some_is : (a b : ℕ) → Some a ≡ Some b → a ≡ b
some_is a b h = cc

none_some : (m : ℕ) → None ≡ Some m → ⊥
none_some m h = cc

nil_cons : (b : ℕ) (bs : List ℕ) → b ∷ bs ≡ [] → ⊥
nil_cons b bs h = cc

choice_some : (b : Bool) (x n : ℕ) → cond b (Some x) None ≡ Some n → (b ≡ true) × (x ≡ n)
choice_some true x n h = (refl, some_is x n h)
choice_some false x n h = absurd (none_some n h)

le-test : (a b : ℕ) → nat_le a b ≡ true → a ≤ b
le-test a b h = grind (arith, nat_tests)

test-le : (a b : ℕ) → a ≤ b → nat_le a b ≡ true
test-le a b h = grind (arith, nat_tests)

numeral-is : (radix : ℕ) (digits : List ℕ) (n : ℕ) → numeral radix digits ≡ Some n → IsNumeral radix digits n × (n ≤ maxint)
unfolding numeral
numeral-is radix [] n h = absurd (none_some n h)
numeral-is radix (b ∷ bs) n h =
    let choice = choice_some (list_all (is_digit_of radix) (b ∷ bs) && nat_le (value_of radix (b ∷ bs)) maxint) (value_of radix (b ∷ bs)) n h in
    let parts = and-parts (list_all (is_digit_of radix) (b ∷ bs)) (nat_le (value_of radix (b ∷ bs)) maxint) choice.0 in
    (record { some = nil_cons b bs; each = parts.0; value_is = sym choice.1 }, subst (λ k. k ≤ maxint) choice.1 (le-test (value_of radix (b ∷ bs)) maxint parts.1))

numeral-of : (radix : ℕ) (digits : List ℕ) (n : ℕ) → IsNumeral radix digits n → n ≤ maxint → numeral radix digits ≡ Some n
unfolding numeral
numeral-of radix [] n h l = absurd (h.some refl)
numeral-of radix (b ∷ bs) n h l =
    let fits = test-le (value_of radix (b ∷ bs)) maxint (subst (λ k. k ≤ maxint) h.value_is l) in
    rw (h.each, fits, ← h.value_is) refl

-- ---- the mark of a radix

abbrev is_mark : ℕ → Bool
is_mark b = b == 35

abbrev is_no_mark : ℕ → Bool
is_no_mark b = not (b == 35)

lt-test : (a b : ℕ) → nat_lt a b ≡ true → a < b
lt-test a b h = grind (arith, nat_tests)

test-lt : (a b : ℕ) → a < b → nat_lt a b ≡ true
test-lt a b h = grind (arith, nat_tests)

test-ge : (a b : ℕ) → b ≤ a → nat_lt a b ≡ false
test-ge a b h = grind (arith, nat_tests)

position-some : (front digits : List ℕ) → list_all is_no_mark front ≡ true → position is_mark (front ++ 35 ∷ digits) ≡ Some (length front)
position-some front digits h =
    let len : position_or_len is_mark (front ++ 35 ∷ digits) ≡ length front = prefix_len-all is_no_mark front (35 ∷ digits) h refl in
    let test : nat_lt (position_or_len is_mark (front ++ 35 ∷ digits)) (length (front ++ 35 ∷ digits)) ≡ true = test-lt _ _ (omega (arith, len, length-append front (35 ∷ digits))) in
    ap (λ b. cond b (Some (position_or_len is_mark (front ++ 35 ∷ digits))) None) test ∙ ap (λ k. Some k) len

position-none : (text : List ℕ) → list_all is_no_mark text ≡ true → position is_mark text ≡ None
position-none text h =
    let len : position_or_len is_mark text ≡ length text = ap (prefix_len is_no_mark) (sym (append-nil text)) ∙ prefix_len-all is_no_mark text [] h refl in
    let test : nat_lt (position_or_len is_mark text) (length text) ≡ false = test-ge _ _ (omega (arith, len)) in
    ap (λ b. cond b (Some (position_or_len is_mark text)) None) test

mark-test : (b : ℕ) → not (b == 35) ≡ false → b ≡ 35
mark-test b h = grind (arith, nat_tests)

position-is : (text : List ℕ) (i : ℕ) → position is_mark text ≡ Some i → (i < length text) × (text ≡ take i text ++ 35 ∷ drop (i + 1) text)
position-is text i h =
    let choice = choice_some (nat_lt (position_or_len is_mark text) (length text)) (position_or_len is_mark text) i h in
    let lt : i < length text = subst (λ k. k < length text) choice.1 (lt-test _ _ choice.0) in
    let stop : is_no_mark (get_or text i 0) ≡ false = subst (λ k. is_no_mark (get_or text k 0) ≡ false) choice.1 (prefix_len_stops is_no_mark text 0 (lt-test _ _ choice.0)) in
    (lt, sym (take-append-drop i text) ∙ ap (λ (l : List ℕ). take i text ++ l) (drop-at text i lt ∙ ap (λ x. x ∷ drop (i + 1) text) (mark-test _ stop)))

-- ---- numbers

in_radix-is : (o : Option ℕ) (digits : List ℕ) (n : ℕ) → in_radix o digits ≡ Some n → (radix : ℕ) × (o ≡ Some radix) × (2 ≤ radix) × (radix ≤ 36) × (numeral radix digits ≡ Some n)
in_radix-is None digits n h = absurd (none_some n h)
in_radix-is (Some radix) digits n h =
    elim (truth (nat_le 2 radix && nat_le radix 36)) [
      | inl p ↦
          let parts = and-parts (nat_le 2 radix) (nat_le radix 36) p in
          (radix, refl, le-test _ _ parts.0, le-test _ _ parts.1, rw p at h)
      | inr p ↦ absurd (none_some n (rw p at h))
    ]

split_number-is : (text : List ℕ) (n : ℕ) (o : Option ℕ) → position is_mark text ≡ o → split_number o text ≡ Some n → IsNumber text n
split_number-is text n None e h = let r = numeral-is 10 text n h in (inl r.0, r.1)
split_number-is text n (Some i) e h =
    let mark = position-is text i e in
    let r = in_radix-is (numeral 10 (take i text)) (drop (i + 1) text) n h in
    let front = numeral-is 10 (take i text) r.0 r.1 in
    let value = numeral-is r.0 (drop (i + 1) text) n r.4 in
    (inr (record { front = take i text; digits = drop (i + 1) text; radix = r.0; split = mark.1; radix_is = front.0; least = r.2; greatest = r.3; value_is = value.0 }), value.1)

pub number_value-is : (text : List ℕ) (n : ℕ) → number_value text ≡ Some n → IsNumber text n
unfolding number_value
number_value-is text n h = split_number-is text n (position is_mark text) refl h

in_radix-of : (o : Option ℕ) (digits : List ℕ) (radix n : ℕ) → o ≡ Some radix → 2 ≤ radix → radix ≤ 36 → numeral radix digits ≡ Some n → in_radix o digits ≡ Some n
in_radix-of o digits radix n e l g h =
    let t : nat_le 2 radix ≡ true = test-le _ _ l in
    let u : nat_le radix 36 ≡ true = test-le _ _ g in
    ap (λ v. in_radix v digits) e ∙ rw (t, u) h

fits-maxint : 36 ≤ maxint
fits-maxint = omega arith

pub number_value-of : (text : List ℕ) (n : ℕ) → IsNumber text n → number_value text ≡ Some n
unfolding number_value
number_value-of text n (inl decimal, h) = ap (λ o. split_number o text) (position-none text (digits-no_mark text decimal.each)) ∙ numeral-of 10 text n decimal h
number_value-of text n (inr r, h) =
    let mark : position is_mark text ≡ Some (length r.front) = ap (position is_mark) r.split ∙ position-some r.front r.digits (digits-no_mark r.front r.radix_is.each) in
    let front : take (length r.front) text ≡ r.front = ap (take (length r.front)) r.split ∙ take_at r.front (35 ∷ r.digits) (length r.front) refl in
    let digits : drop (length r.front + 1) text ≡ r.digits =
    ap (drop (length r.front + 1)) (r.split ∙ sym (append_assoc r.front (35 ∷ []) r.digits)) ∙ drop_at (r.front ++ 35 ∷ []) r.digits (length r.front + 1) (omega (arith, length-append r.front (35 ∷ []))) in
    let radix : numeral 10 (take (length r.front) text) ≡ Some r.radix = ap (numeral 10) front ∙ numeral-of 10 r.front r.radix r.radix_is (omega (arith, r.greatest, fits-maxint)) in
    let value : numeral r.radix (drop (length r.front + 1) text) ≡ Some n = ap (numeral r.radix) digits ∙ numeral-of r.radix r.digits n r.value_is h in
    ap (λ o. split_number o text) mark ∙ in_radix-of (numeral 10 (take (length r.front) text)) (drop (length r.front + 1) text) r.radix n radix r.least r.greatest value
