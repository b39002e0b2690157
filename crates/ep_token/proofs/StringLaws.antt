-- The walk over a character string finds the longest one, and its bytes.
use Rattle.std.proofs.Common.{◌≡◌, ◌≢◌, ℕ, zero, suc, ◌+◌, ◌-◌, ◌≤◌, Bool, true, false, ◌==◌, ◌⊎◌, inl, inr, List, [], ◌∷◌, ◌++◌, length, take, Option, Some, None, refl, sym, ap, subst, ◌∙◌, arith, length-append, append_assoc}
use Rattle.std.specs.Prelude.{All}
use Rattle.std.specs.List.{flat_map}
use Rattle.std.proofs.lemmas.List.{take_at}
use Rattle.std.proofs.lemmas.Bool.Decides.{nat_tests}
use Rattle.ep_token.specs.Strings.{string_element, IsString}
use Rattle.ep_token.specs.Reading.{string_end, undoubled}
use Rattle.ep_token.proofs.Strings.{string_end-nil, string_end-line, string_end-quote, string_end-other, string_end-again, string_end-closed, undoubled-first, undoubled-second, undoubled-other}
use Rattle.ep_token.proofs.Steps.{truth}

-- bytes as they stand between quotes
abbrev pub doubled : List ℕ → List ℕ
doubled bytes = flat_map string_element bytes

string_element-quote : (b : ℕ) → (b == 39) ≡ true → string_element b ≡ 39 ∷ 39 ∷ []
unfolding string_element
string_element-quote b h = rw h refl

string_element-other : (b : ℕ) → (b == 39) ≡ false → string_element b ≡ b ∷ []
unfolding string_element
string_element-other b h = rw h refl

doubled-quote : (b : ℕ) (bs more : List ℕ) → (b == 39) ≡ true → doubled (b ∷ bs) ++ more ≡ 39 ∷ 39 ∷ (doubled bs ++ more)
doubled-quote b bs more h = ap (λ l. (l ++ doubled bs) ++ more) (string_element-quote b h)

doubled-other : (b : ℕ) (bs more : List ℕ) → (b == 39) ≡ false → doubled (b ∷ bs) ++ more ≡ b ∷ (doubled bs ++ more)
doubled-other b bs more h = ap (λ l. (l ++ doubled bs) ++ more) (string_element-other b h)

length-doubled-quote : (b : ℕ) (bs : List ℕ) → (b == 39) ≡ true → length (doubled (b ∷ bs)) ≡ suc (suc (length (doubled bs)))
length-doubled-quote b bs h = ap (λ l. length (l ++ doubled bs)) (string_element-quote b h)

length-doubled-other : (b : ℕ) (bs : List ℕ) → (b == 39) ≡ false → length (doubled (b ∷ bs)) ≡ suc (length (doubled bs))
length-doubled-other b bs h = ap (λ l. length (l ++ doubled bs)) (string_element-other b h)

abbrev IsOneLine : List ℕ → Type 0
IsOneLine bytes = All (λ b. b ≢ 10) bytes

one_line-head : (b : ℕ) (bs : List ℕ) → IsOneLine (b ∷ bs) → (b == 10) ≡ false
one_line-head b bs h = let no : b ≢ 10 = h 0 0 (omega arith) in grind (arith, nat_tests)

one_line-tail : (b : ℕ) (bs : List ℕ) → IsOneLine (b ∷ bs) → IsOneLine bs
one_line-tail b bs h k d lt = h (suc k) d (omega arith)

one_line-cons : (b : ℕ) (bs : List ℕ) → (b == 10) ≡ false → IsOneLine bs → IsOneLine (b ∷ bs)
one_line-cons b bs n h zero d lt = grind (arith, nat_tests)
one_line-cons b bs n h (suc k) d lt = h k d (omega arith)

one_line-nil : IsOneLine []
one_line-nil k d lt = absurd (omega arith)

-- an end that was found is kept or passed
string_end-some : (o : Bool) (e i : ℕ) (bs : List ℕ) → e ≤ i → (m : ℕ) × (string_end o (Some e) i bs ≡ Some m) × (e ≤ m)
string_end-some o e i [] h = (e, string_end-nil o (Some e) i, omega arith)
string_end-some true e i (b ∷ bs) h =
    elim (truth (b == 10)) [
      | inl p ↦ (e, string_end-line (Some e) i b bs p, omega arith)
      | inr p ↦ elim (truth (b == 39)) [
        | inl q ↦ let r = string_end-some false (i + 1) (i + 1) bs (omega arith) in (r.0, string_end-quote (Some e) i b bs p q ∙ r.1, omega (arith, r.2))
        | inr q ↦ let r = string_end-some true e (i + 1) bs (omega arith) in (r.0, string_end-other (Some e) i b bs p q ∙ r.1, r.2)
      ]
    ]
string_end-some false e i (b ∷ bs) h =
    elim (truth (b == 39)) [
      | inl q ↦ let r = string_end-some true e (i + 1) bs (omega arith) in (r.0, string_end-again (Some e) i b bs q ∙ r.1, r.2)
      | inr q ↦ (e, string_end-closed (Some e) i b bs q, omega arith)
    ]

-- a string is not longer than what is found
string_end-max : (e : Option ℕ) (i : ℕ) (bytes more : List ℕ) → IsOneLine bytes → (m : ℕ) × (string_end true e i (doubled bytes ++ 39 ∷ more) ≡ Some m) × (i + length (doubled bytes) + 1 ≤ m)
string_end-max e i [] more h =
    let r = string_end-some false (i + 1) (i + 1) more (omega arith) in
    (r.0, string_end-quote e i 39 more refl refl ∙ r.1, omega (arith, r.2))
string_end-max e i (b ∷ bs) more h =
    elim (truth (b == 39)) [
      | inl q ↦
          let r = string_end-max (Some (i + 1)) (i + 1 + 1) bs more (one_line-tail b bs h) in
          (r.0, ap (string_end true e i) (doubled-quote b bs (39 ∷ more) q) ∙ string_end-quote e i 39 (39 ∷ (doubled bs ++ 39 ∷ more)) refl refl ∙ string_end-again (Some (i + 1)) (i + 1) 39 (doubled bs ++ 39 ∷ more) refl ∙ r.1, omega (arith, r.2, length-doubled-quote b bs q))
      | inr q ↦
          let r = string_end-max e (i + 1) bs more (one_line-tail b bs h) in
          (r.0, ap (string_end true e i) (doubled-other b bs (39 ∷ more) q) ∙ string_end-other e i b (doubled bs ++ 39 ∷ more) (one_line-head b bs h) q ∙ r.1, omega (arith, r.2, length-doubled-other b bs q))
    ]

-- what is found is a string without its first quote
record IsStringRest (cs : List ℕ) (from to : ℕ) : Type 0 where
  pub bytes : List ℕ
  pub more : List ℕ
  pub split : cs ≡ doubled bytes ++ 39 ∷ more
  pub one_line : IsOneLine bytes
  pub end : to ≡ from + length (doubled bytes) + 1

abbrev IsFound : Bool → List ℕ → ℕ → ℕ → Type 0
IsFound true cs from to = IsStringRest cs from to
IsFound false cs from to = (rest : List ℕ) × (cs ≡ 39 ∷ rest) × IsStringRest rest (from + 1) to

rest-quote : (b : ℕ) (cs : List ℕ) (from to : ℕ) → (b == 39) ≡ true → to ≡ from + 1 → IsStringRest (b ∷ cs) from to
rest-quote b cs from to q e = record { bytes = []; more = cs; split = ap (λ x. x ∷ cs) (let at : b ≡ 39 = grind (arith, nat_tests) in at); one_line = one_line-nil; end = omega arith }

rest-pair : (b : ℕ) (cs rest : List ℕ) (from to : ℕ) → (b == 39) ≡ true → cs ≡ 39 ∷ rest → IsStringRest rest (from + 1 + 1) to → IsStringRest (b ∷ cs) from to
rest-pair b cs rest from to q e r =
    let at : b ≡ 39 = grind (arith, nat_tests) in
    record {
      bytes = 39 ∷ r.bytes;
      more = r.more;
      split = ap (λ x. x ∷ cs) at ∙ ap (λ l. 39 ∷ l) e ∙ ap (λ l. 39 ∷ 39 ∷ l) r.split ∙ sym (doubled-quote 39 r.bytes (39 ∷ r.more) refl);
      one_line = one_line-cons 39 r.bytes refl r.one_line;
      end = omega (arith, r.end, length-doubled-quote 39 r.bytes refl);
    }

rest-other : (b : ℕ) (cs : List ℕ) (from to : ℕ) → (b == 10) ≡ false → (b == 39) ≡ false → IsStringRest cs (from + 1) to → IsStringRest (b ∷ cs) from to
rest-other b cs from to p q r =
    record {
      bytes = b ∷ r.bytes;
      more = r.more;
      split = ap (λ l. b ∷ l) r.split ∙ sym (doubled-other b r.bytes (39 ∷ r.more) q);
      one_line = one_line-cons b r.bytes p r.one_line;
      end = omega (arith, r.end, length-doubled-other b r.bytes q);
    }

some_is : (a b : ℕ) → Some a ≡ Some b → a ≡ b
some_is a b h = cc

string_end-found : (o : Bool) (e : Option ℕ) (i m : ℕ) (cs : List ℕ) → string_end o e i cs ≡ Some m → (e ≡ Some m) ⊎ IsFound o cs i m
string_end-found o e i m [] h = inl (sym (string_end-nil o e i) ∙ h)
string_end-found true e i m (b ∷ bs) h =
    elim (truth (b == 10)) [
      | inl p ↦ inl (sym (string_end-line e i b bs p) ∙ h)
      | inr p ↦ elim (truth (b == 39)) [
        | inl q ↦ elim (string_end-found false (Some (i + 1)) (i + 1) m bs (sym (string_end-quote e i b bs p q) ∙ h)) [
          | inl s ↦ inr (rest-quote b bs i m q (sym (some_is (i + 1) m s)))
          | inr r ↦ inr (rest-pair b bs r.0 i m q r.1 r.2)
        ]
        | inr q ↦ elim (string_end-found true e (i + 1) m bs (sym (string_end-other e i b bs p q) ∙ h)) [
          | inl s ↦ inl s
          | inr r ↦ inr (rest-other b bs i m p q r)
        ]
      ]
    ]
string_end-found false e i m (b ∷ bs) h =
    elim (truth (b == 39)) [
      | inl q ↦ elim (string_end-found true e (i + 1) m bs (sym (string_end-again e i b bs q) ∙ h)) [
        | inl s ↦ inl s
        | inr r ↦ inr (bs, ap (λ x. x ∷ bs) (let at : b ≡ 39 = grind (arith, nat_tests) in at), r)
      ]
      | inr q ↦ inl (sym (string_end-closed e i b bs q) ∙ h)
    ]

undoubled-nil : undoubled false [] ≡ []
unfolding undoubled
undoubled-nil = refl

-- the bytes are found again
undoubled-doubled : (bytes : List ℕ) → undoubled false (doubled bytes) ≡ bytes
undoubled-doubled [] = undoubled-nil
undoubled-doubled (b ∷ bs) =
    elim (truth (b == 39)) [
      | inl q ↦
          let at : b ≡ 39 = grind (arith, nat_tests) in
          ap (λ l. undoubled false (l ++ doubled bs)) (string_element-quote b q) ∙ undoubled-first 39 (39 ∷ doubled bs) ∙ ap (λ l. 39 ∷ l) (undoubled-second 39 (doubled bs) refl ∙ undoubled-doubled bs) ∙ ap (λ x. x ∷ bs) (sym at)
      | inr q ↦ ap (λ l. undoubled false (l ++ doubled bs)) (string_element-other b q) ∙ undoubled-other false b (doubled bs) q ∙ ap (λ l. b ∷ l) (undoubled-doubled bs)
    ]

take_front : (front more : List ℕ) (n : ℕ) → n ≡ length front → take n (front ++ more) ≡ front
take_front front more n e = take_at front more n (sym e)

-- the bytes of a string that ends there
undoubled-front : (cs bytes more : List ℕ) (n : ℕ) → cs ≡ doubled bytes ++ 39 ∷ more → n ≡ length (doubled bytes) → undoubled false (take n cs) ≡ bytes
undoubled-front cs bytes more n e l = ap (λ t. undoubled false (take n t)) e ∙ ap (undoubled false) (take_front (doubled bytes) (39 ∷ more) n l) ∙ undoubled-doubled bytes

none_some : (m : ℕ) → None ≡ Some m → ⊥
none_some m h = cc

-- what is found is a string
pub string_end-string : (c : ℕ) (cs : List ℕ) (m : ℕ) → c ≡ 39 → string_end true None 0 cs ≡ Some m → IsString (take (m + 1) (c ∷ cs)) (undoubled false (take (m - 1) cs)) × (m ≤ length cs)
string_end-string c cs m at h =
    elim (string_end-found true None 0 m cs h) [
      | inl n ↦ absurd (none_some m n)
      | inr r ↦
          let bytes_are : undoubled false (take (m - 1) cs) ≡ r.bytes = undoubled-front cs r.bytes r.more (m - 1) r.split (omega (arith, r.end)) in
          let whole : cs ≡ (doubled r.bytes ++ 39 ∷ []) ++ r.more = r.split ∙ sym (append_assoc (doubled r.bytes) (39 ∷ []) r.more) in
          let len : m ≡ length (doubled r.bytes ++ 39 ∷ []) = omega (arith, r.end, length-append (doubled r.bytes) (39 ∷ [])) in
          let text : take (suc m) (c ∷ cs) ≡ 39 ∷ (doubled r.bytes ++ 39 ∷ []) = ap (λ x. x ∷ take m cs) at ∙ ap (λ l. 39 ∷ take m l) whole ∙ ap (λ l. 39 ∷ l) (take_front (doubled r.bytes ++ 39 ∷ []) r.more m len) in (
            record {
              text_is = ap (λ k. take k (c ∷ cs)) (let k : m + 1 ≡ suc m = omega arith in k) ∙ text ∙ ap (λ b. 39 ∷ (doubled b ++ 39 ∷ [])) (sym bytes_are);
              one_line = subst IsOneLine (sym bytes_are) r.one_line;
            },
            omega (arith, ap length whole, length-append (doubled r.bytes ++ 39 ∷ []) r.more, len),
          )
    ]

-- a string is at most as long as what is found, and has its bytes where it is as long
pub string_end-greatest : (cs bytes more : List ℕ) → cs ≡ doubled bytes ++ 39 ∷ more → All (λ b. b ≢ 10) bytes
    → (m : ℕ) × (string_end true None 0 cs ≡ Some m) × (length (doubled bytes) + 1 ≤ m) × (m ≡ length (doubled bytes) + 1 → undoubled false (take (m - 1) cs) ≡ bytes)
string_end-greatest cs bytes more e one_line =
    let r = string_end-max None 0 bytes more one_line in
    (r.0, ap (string_end true None 0) e ∙ r.1, omega (arith, r.2), λ l. undoubled-front cs bytes more (r.0 - 1) e (omega (arith, l)))
