-- The walk over an identifier finds the longest one.
use Rattle.std.proofs.Common.{◌≡◌, ℕ, zero, suc, ◌+◌, ◌-◌, ◌<◌, ◌≤◌, Bool, true, false, ◌==◌, ◌&&◌, ◌⊎◌, inl, inr, List, [], ◌∷◌, ◌++◌, length, take, drop, get_or, refl, sym, ap, ◌∙◌, arith, length-append, length-take-le, take-append-drop, length-drop, append_assoc}
use Rattle.std.proofs.lemmas.List.{take_at}
use Rattle.std.proofs.lemmas.Bool.Decides.{nat_tests}
use Rattle.std.specs.Char.{is_ascii_alphabetic, is_ascii_alphanumeric}
use Rattle.ep_base.specs.Identifiers.{is_identifier, is_identifier_rest}
use Rattle.ep_token.specs.Reading.{name_end}
use Rattle.ep_token.specs.Tokens.{IsLongestName}
use Rattle.ep_token.proofs.Names.{name_end-letter, name_end-underscore, name_end-other, name_end-second}
use Rattle.ep_token.proofs.Steps.{truth, and-parts}

name_end-nil : (u : Bool) (e i : ℕ) → name_end u e i [] ≡ e
unfolding name_end
name_end-nil u e i = refl

-- what was found is kept
name_end-grows : (u : Bool) (e i : ℕ) (bs : List ℕ) → e ≤ i → e ≤ name_end u e i bs
name_end-grows u e i [] h = rw (name_end-nil u e i) (omega arith)
name_end-grows true e i (b ∷ bs) h =
    elim (truth (is_ascii_alphanumeric b)) [
      | inl p ↦ rw (name_end-letter true e i b bs p) (omega (arith, name_end-grows false (i + 1) (i + 1) bs (omega arith)))
      | inr p ↦ rw (name_end-second e i b bs p) (omega arith)
    ]
name_end-grows false e i (b ∷ bs) h =
    elim (truth (is_ascii_alphanumeric b)) [
      | inl p ↦ rw (name_end-letter false e i b bs p) (omega (arith, name_end-grows false (i + 1) (i + 1) bs (omega arith)))
      | inr p ↦ elim (truth (b == 95)) [
        | inl q ↦ rw (name_end-underscore e i b bs p q) (name_end-grows true e (i + 1) bs (omega arith))
        | inr q ↦ rw (name_end-other false e i b bs p q) (omega arith)
      ]
    ]

-- a row that may follow a letter is not longer than what is found
name_end-max : (i : ℕ) (t more : List ℕ) → is_identifier_rest t ≡ true → i + length t ≤ name_end false i i (t ++ more)
name_end-max i [] more h = omega (arith, name_end-grows false i i more (omega arith))
name_end-max i (c ∷ []) more h = rw (name_end-letter false i i c more h) (omega (arith, name_end-grows false (i + 1) (i + 1) more (omega arith)))
name_end-max i (c ∷ d ∷ ds) more h =
    elim (truth (is_ascii_alphanumeric c)) [
      | inl p ↦ rw (name_end-letter false i i c (d ∷ (ds ++ more)) p) (omega (arith, name_end-max (i + 1) (d ∷ ds) more (rw p at h)))
      | inr p ↦
          let k = rw p at h in
          let both = and-parts (c == 95 && is_ascii_alphanumeric d) (is_identifier_rest ds) k in
          let marks = and-parts (c == 95) (is_ascii_alphanumeric d) both.0 in
          rw (name_end-underscore i i c (d ∷ (ds ++ more)) p marks.0, name_end-letter true i (i + 1) d (ds ++ more) marks.1) (omega (arith, name_end-max (i + 1 + 1) ds more both.1))
    ]

rest-letter : (c : ℕ) (t : List ℕ) → is_ascii_alphanumeric c ≡ true → is_identifier_rest t ≡ true → is_identifier_rest (c ∷ t) ≡ true
rest-letter c [] p h = p
rest-letter c (d ∷ ds) p h = rw p h

rest-underscore : (c : ℕ) (t : List ℕ) → is_ascii_alphanumeric c ≡ true → is_identifier_rest t ≡ true → is_identifier_rest (95 ∷ c ∷ t) ≡ true
rest-underscore c t p h = rw (p, h) refl

-- what is found is the front of a row that may follow a letter
pub record IsRest (cs : List ℕ) (from : ℕ) (to : ℕ) : Type 0 where
  pub front : List ℕ
  pub back : List ℕ
  pub split : cs ≡ front ++ back
  pub rest : is_identifier_rest front ≡ true
  pub end : to ≡ from + length front

-- the same behind an underscore
pub record IsMarked (cs : List ℕ) (from : ℕ) (to : ℕ) : Type 0 where
  pub front : List ℕ
  pub back : List ℕ
  pub split : cs ≡ front ++ back
  pub rest : is_identifier_rest (95 ∷ front) ≡ true
  pub end : to ≡ from + 1 + length front

mutual
  name_end-found : (i : ℕ) (cs : List ℕ) → IsRest cs i (name_end false i i cs)
  name_end-found i [] = record { front = []; back = []; split = refl; rest = refl; end = rw (name_end-nil false i i) (omega arith) }
  name_end-found i (c ∷ cs) =
      elim (truth (is_ascii_alphanumeric c)) [
        | inl p ↦
            let r = name_end-found (i + 1) cs in
            record { front = c ∷ r.front; back = r.back; split = ap (λ l. c ∷ l) r.split; rest = rest-letter c r.front p r.rest; end = rw (name_end-letter false i i c cs p) (omega (arith, r.end)) }
        | inr p ↦ elim (truth (c == 95)) [
          | inl q ↦
              let at : c ≡ 95 = grind (arith, nat_tests) in
              elim (name_end-marked i cs) [
                | inl e ↦ record { front = []; back = c ∷ cs; split = refl; rest = refl; end = rw (name_end-underscore i i c cs p q) (omega (arith, e)) }
                | inr m ↦ record { front = 95 ∷ m.front; back = m.back; split = ap (λ l. c ∷ l) m.split ∙ ap (λ x. x ∷ (m.front ++ m.back)) at; rest = m.rest; end = rw (name_end-underscore i i c cs p q) (omega (arith, m.end)) }
              ]
          | inr q ↦ record { front = []; back = c ∷ cs; split = refl; rest = refl; end = rw (name_end-other false i i c cs p q) (omega arith) }
        ]
      ]

  name_end-marked : (e : ℕ) (cs : List ℕ) → (name_end true e (e + 1) cs ≡ e) ⊎ IsMarked cs e (name_end true e (e + 1) cs)
  name_end-marked e [] = inl (name_end-nil true e (e + 1))
  name_end-marked e (c ∷ cs) =
      elim (truth (is_ascii_alphanumeric c)) [
        | inl p ↦
            let r = name_end-found (e + 1 + 1) cs in
            inr (record { front = c ∷ r.front; back = r.back; split = ap (λ l. c ∷ l) r.split; rest = rest-underscore c r.front p r.rest; end = rw (name_end-letter true e (e + 1) c cs p) (omega (arith, r.end)) })
        | inr p ↦ inl (name_end-second e (e + 1) c cs p)
      ]

-- what is found is an identifier
pub record IsNameEnd (bytes : List ℕ) (n : ℕ) : Type 0 where
  pub some : 0 < n
  pub within : n ≤ length bytes
  pub identifier : is_identifier (take n bytes) ≡ true
  pub greatest : (m : ℕ) → m ≤ length bytes → is_identifier (take m bytes) ≡ true → m ≤ n

alphabetic-alphanumeric : (c : ℕ) → is_ascii_alphabetic c ≡ true → is_ascii_alphanumeric c ≡ true
alphabetic-alphanumeric c h = grind (arith, nat_tests)

identifier-nil : is_identifier [] ≡ true → ⊥
identifier-nil h = cc

name_end-cons : (c : ℕ) (cs : List ℕ) (n : ℕ) → is_ascii_alphabetic c ≡ true → n ≡ name_end false 1 1 cs → IsNameEnd (c ∷ cs) n
name_end-cons c cs n h e =
    let r = name_end-found 1 cs in
    let len : n ≡ suc (length r.front) = omega (arith, e, r.end) in
    let cut : take n (c ∷ cs) ≡ c ∷ r.front = ap (λ k. take k (c ∷ cs)) len ∙ ap (λ l. c ∷ take (length r.front) l) r.split ∙ ap (λ l. c ∷ l) (take_at r.front r.back (length r.front) refl) in
    record {
      some = omega arith;
      within = omega (arith, len, ap length r.split, length-append r.front r.back);
      identifier = rw (cut, h) r.rest;
      greatest = greatest_in;
    }
  where
    greatest_in : (m : ℕ) → m ≤ length (c ∷ cs) → is_identifier (take m (c ∷ cs)) ≡ true → m ≤ n
    greatest_in zero within i = omega arith
    greatest_in (suc k) within i =
        let rest = (and-parts (is_ascii_alphabetic c) (is_identifier_rest (take k cs)) i).1 in
        let most = name_end-max 1 (take k cs) (drop k cs) rest in
        let whole : name_end false 1 1 (take k cs ++ drop k cs) ≡ name_end false 1 1 cs = ap (λ l. name_end false 1 1 l) (take-append-drop k cs) in
        omega (arith, most, whole, e, length-take-le k cs (omega arith))

pub name_end-is : (bytes : List ℕ) → 0 < length bytes → is_ascii_alphabetic (get_or bytes 0 0) ≡ true → IsNameEnd bytes (name_end true 0 0 bytes)
name_end-is [] h p = absurd (omega arith)
name_end-is (c ∷ cs) h p = name_end-cons c cs _ p (name_end-letter true 0 0 c cs (alphabetic-alphanumeric c p))

-- no longer identifier begins there
pub name_end-longest : (bytes : List ℕ) (n : ℕ) → IsNameEnd bytes n → IsLongestName (take n bytes) (drop n bytes)
name_end-longest bytes n name more after split i =
    let whole : bytes ≡ (take n bytes ++ more) ++ after = sym (take-append-drop n bytes) ∙ ap (λ l. take n bytes ++ l) split ∙ sym (append_assoc (take n bytes) more after) in
    let len : length (take n bytes ++ more) ≡ n + length more = omega (arith, length-append (take n bytes) more, length-take-le n bytes name.within) in
    let cut : take (n + length more) bytes ≡ take n bytes ++ more = ap (take (n + length more)) whole ∙ take_at (take n bytes ++ more) after (n + length more) len in
    let most = name.greatest (n + length more) (omega (arith, len, ap length whole, length-append (take n bytes ++ more) after)) (rw cut i) in
    empty more (omega (arith, most))
  where
    empty : (l : List ℕ) → length l ≤ 0 → l ≡ []
    empty [] h = refl
    empty (x ∷ l) h = absurd (omega arith)

-- an identifier where no longer one begins is what is found
pub name_end-only : (bytes : List ℕ) (n m : ℕ) → IsNameEnd bytes n → m ≤ length bytes → is_identifier (take m bytes) ≡ true → IsLongestName (take m bytes) (drop m bytes) → m ≡ n
name_end-only bytes n m name within i longest =
    let most = name.greatest m within i in
    let more = take (n - m) (drop m bytes) in
    let rest = drop (n - m) (drop m bytes) in
    let all : take m bytes ++ more ≡ take n bytes =
    sym (take_at (take m bytes ++ more) rest n (omega (arith, length-append (take m bytes) more, length-take-le m bytes within, length-take-le (n - m) (drop m bytes) (omega (arith, length-drop m bytes, name.within)))))
    ∙ ap (take n) (append_assoc (take m bytes) more rest ∙ ap (λ l. take m bytes ++ l) (take-append-drop (n - m) (drop m bytes)) ∙ take-append-drop m bytes) in
    let none : more ≡ [] = longest more rest (sym (take-append-drop (n - m) (drop m bytes))) (rw all name.identifier) in
    omega (arith, most, ap length none, length-take-le (n - m) (drop m bytes) (omega (arith, length-drop m bytes, name.within)))

-- the identifier that was found is one
pub name_end-identifier : (bytes : List ℕ) (n : ℕ) → 0 < length bytes → is_ascii_alphabetic (get_or bytes 0 0) ≡ true → n ≡ name_end true 0 0 bytes → is_identifier (take n bytes) ≡ true
name_end-identifier bytes n h p e = rw e (name_end-is bytes h p).identifier
