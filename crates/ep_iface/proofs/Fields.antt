-- Rows of fields: what is written is read again, and what is read is spelled so, where that holds of each field.
use Rattle.std.proofs.Common.{◌≡◌, ℕ, ◌+◌, ◌<◌, Bool, true, false, cond, List, ◌++◌, length, get_or, Ok, refl, sym, ap, subst, ◌∙◌, append_assoc, arith}
use Rattle.std.proofs.lemmas.List.{get_or-append-add, length-append}
use Rattle.ep_fields.specs.Fields.{Position, Reading, ◌>>=◌}
use Rattle.ep_fields.specs.Laws.{AreBytes, IsReadAgain, IsSpelled, Stood}
use Rattle.ep_fields.proofs.public.Readings.{bind_ok, ok_is}

-- ---- readings in a row

-- one field, and what is made of it
abbrev pub row1 : {A B : Type 0} → (Position → Reading A) → (A → B) → Position → Reading B
row1 first whole p = first p >>= λ a. Ok (whole a.0, a.1)

-- a field, and what follows it
abbrev pub before : {A B : Type 0} → (Position → Reading A) → (A → Position → Reading B) → Position → Reading B
before first rest p = first p >>= λ a. rest a.0 a.1

abbrev pub row2 : {A B Z : Type 0} → (Position → Reading A) → (Position → Reading B) → (A → B → Z) → Position → Reading Z
row2 first second whole = before first (λ a. row1 second (whole a))

abbrev pub row3 : {A B C Z : Type 0} → (Position → Reading A) → (Position → Reading B) → (Position → Reading C)
    → (A → B → C → Z) → Position → Reading Z
row3 first second third whole = before first (λ a. row2 second third (whole a))

abbrev pub row4 : {A B C D Z : Type 0} → (Position → Reading A) → (Position → Reading B) → (Position → Reading C)
    → (Position → Reading D) → (A → B → C → D → Z) → Position → Reading Z
row4 first second third fourth whole = before first (λ a. row3 second third fourth (whole a))

-- ---- what is written is read again

abbrev position : ℕ → List ℕ → Position
position a r = record { place = a; rest = r }

position_is : (a b : ℕ) (r s : List ℕ) → a ≡ b → r ≡ s → position a r ≡ position b s
position_is a b r s e f = rw (e, f) refl

pub row1_again : {A B : Type 0} (first : Position → Reading A) (whole : A → B) (s : List ℕ) (a : A)
    → IsReadAgain first s a → IsReadAgain (row1 first whole) s (whole a)
row1_again first whole s a again place rest = rw (again place rest) refl

pub before_again : {A B : Type 0} (first : Position → Reading A) (others : A → Position → Reading B) (s t : List ℕ)
    (a : A) (b : B) → IsReadAgain first s a → IsReadAgain (others a) t b → IsReadAgain (before first others) (s ++ t) b
before_again {A} {B} first others s t a b again then place rest =
    let read : before first others (position place (s ++ (t ++ rest))) ≡ others a (position (place + length s) (t ++ rest)) =
    rw (again place (t ++ rest)) refl in
    let end : position (place + length s + length t) rest ≡ position (place + length (s ++ t)) rest =
    position_is _ _ _ _ (omega (arith, length-append s t)) refl in
    ap (λ (r : List ℕ). before first others (position place r)) (append_assoc s t rest)
    ∙ read ∙ then (place + length s) rest ∙ ap (λ (p : Position). Ok (b, p)) end

pub row2_again : {A B Z : Type 0} (ra : Position → Reading A) (rb : Position → Reading B) (whole : A → B → Z)
    (s t : List ℕ) (a : A) (b : B) → IsReadAgain ra s a → IsReadAgain rb t b
    → IsReadAgain (row2 ra rb whole) (s ++ t) (whole a b)
row2_again ra rb whole s t a b first second =
    before_again ra (λ a. row1 rb (whole a)) s t a (whole a b) first (row1_again rb (whole a) t b second)

pub row3_again : {A B C Z : Type 0} (ra : Position → Reading A) (rb : Position → Reading B) (rc : Position → Reading C)
    (whole : A → B → C → Z) (s t u : List ℕ) (a : A) (b : B) (c : C)
    → IsReadAgain ra s a → IsReadAgain rb t b → IsReadAgain rc u c
    → IsReadAgain (row3 ra rb rc whole) (s ++ (t ++ u)) (whole a b c)
row3_again ra rb rc whole s t u a b c first second third =
    before_again ra (λ a. row2 rb rc (whole a)) s (t ++ u) a (whole a b c) first
    (row2_again rb rc (whole a) t u b c second third)

pub row4_again : {A B C D Z : Type 0} (ra : Position → Reading A) (rb : Position → Reading B) (rc : Position → Reading C)
    (rd : Position → Reading D) (whole : A → B → C → D → Z) (s t u v : List ℕ) (a : A) (b : B) (c : C) (d : D)
    → IsReadAgain ra s a → IsReadAgain rb t b → IsReadAgain rc u c → IsReadAgain rd v d
    → IsReadAgain (row4 ra rb rc rd whole) (s ++ (t ++ (u ++ v))) (whole a b c d)
row4_again ra rb rc rd whole s t u v a b c d first second third fourth =
    before_again ra (λ a. row3 rb rc rd (whole a)) s (t ++ (u ++ v)) a (whole a b c d) first
    (row3_again rb rc rd (whole a) t u v b c d second third fourth)

-- ---- what is read is spelled so

-- What is read took bytes of which this holds with it.
pub record Took {B : Type 0} (p : Position) (y : B) (q : Position) (Of : B → List ℕ → Type 0) : Type 0 where
  pub spelled : List ℕ
  pub stood : Stood p q spelled
  pub is : Of y spelled

abbrev pub Takes : {B : Type 0} → (Position → Reading B) → (B → List ℕ → Type 0) → Type 0
Takes {B} read Of = (p q : Position) (y : B) → AreBytes p.rest → read p ≡ Ok (y, q) → Took p y q Of

-- the bytes behind a field are bytes
pub rest_fits : (p q : Position) (s : List ℕ) → AreBytes p.rest → Stood p q s → AreBytes q.rest
rest_fits p q s fits stood i =
    subst (λ n. n < 256) (ap (λ (r : List ℕ). get_or r (length s + i) 0) stood.bytes ∙ get_or-append-add s q.rest i 0) (fits (length s + i))

pub both_stood : (p q r : Position) (s t : List ℕ) → Stood p q s → Stood q r t → Stood p r (s ++ t)
both_stood p q r s t first second =
    record {
      bytes = first.bytes ∙ ap (λ (x : List ℕ). s ++ x) second.bytes ∙ sym (append_assoc s t r.rest);
      place = omega (arith, first.place, second.place, length-append s t);
    }

pub row1_takes : {A B : Type 0} (first : Position → Reading A) (whole : A → B) (spelling : A → List ℕ)
    (Fits : A → Type 0) (Of : B → List ℕ → Type 0) → IsSpelled first spelling Fits
    → ((a : A) → Fits a → Of (whole a) (spelling a)) → Takes (row1 first whole) Of
row1_takes {A} {B} first whole spelling Fits Of law so p q y bytes e =
    let a = bind_ok (first p) (λ a. Ok (whole a.0, a.1)) (y, q) e in
    let f = law p a.0.1 a.0.0 bytes a.1 in
    subst (λ (z : B × Position). Took p z.0 z.1 Of) (ok_is (whole a.0.0, a.0.1) (y, q) a.2)
    (record { spelled = spelling a.0.0; stood = f.0; is = so a.0.0 f.1 })

pub before_takes : {A B : Type 0} (first : Position → Reading A) (others : A → Position → Reading B)
    (spelling : A → List ℕ) (Fits : A → Type 0) (Of : B → List ℕ → Type 0) → IsSpelled first spelling Fits
    → ((a : A) → Fits a → Takes (others a) (λ y s. Of y (spelling a ++ s))) → Takes (before first others) Of
before_takes first others spelling Fits Of law then p q y bytes e =
    let a = bind_ok (first p) (λ a. others a.0 a.1) (y, q) e in
    let f = law p a.0.1 a.0.0 bytes a.1 in
    let t = then a.0.0 f.1 a.0.1 q y (rest_fits p a.0.1 (spelling a.0.0) bytes f.0) a.2 in
    record {
      spelled = spelling a.0.0 ++ t.spelled;
      stood = both_stood p a.0.1 q (spelling a.0.0) t.spelled f.0 t.stood;
      is = t.is;
    }

pub row2_takes : {A B Z : Type 0} (ra : Position → Reading A) (rb : Position → Reading B) (whole : A → B → Z)
    (sa : A → List ℕ) (sb : B → List ℕ) (Fa : A → Type 0) (Fb : B → Type 0) (Of : Z → List ℕ → Type 0)
    → IsSpelled ra sa Fa → IsSpelled rb sb Fb
    → ((a : A) (b : B) → Fa a → Fb b → Of (whole a b) (sa a ++ sb b)) → Takes (row2 ra rb whole) Of
row2_takes ra rb whole sa sb Fa Fb Of first second so =
    before_takes ra (λ a. row1 rb (whole a)) sa Fa Of first
    (λ a fa. row1_takes rb (whole a) sb Fb (λ y s. Of y (sa a ++ s)) second (λ b fb. so a b fa fb))

pub row3_takes : {A B C Z : Type 0} (ra : Position → Reading A) (rb : Position → Reading B) (rc : Position → Reading C)
    (whole : A → B → C → Z) (sa : A → List ℕ) (sb : B → List ℕ) (sc : C → List ℕ)
    (Fa : A → Type 0) (Fb : B → Type 0) (Fc : C → Type 0) (Of : Z → List ℕ → Type 0)
    → IsSpelled ra sa Fa → IsSpelled rb sb Fb → IsSpelled rc sc Fc
    → ((a : A) (b : B) (c : C) → Fa a → Fb b → Fc c → Of (whole a b c) (sa a ++ (sb b ++ sc c)))
    → Takes (row3 ra rb rc whole) Of
row3_takes ra rb rc whole sa sb sc Fa Fb Fc Of first second third so =
    before_takes ra (λ a. row2 rb rc (whole a)) sa Fa Of first
    (λ a fa. row2_takes rb rc (whole a) sb sc Fb Fc (λ y s. Of y (sa a ++ s)) second third (λ b c fb fc. so a b c fa fb fc))

pub row4_takes : {A B C D Z : Type 0} (ra : Position → Reading A) (rb : Position → Reading B) (rc : Position → Reading C)
    (rd : Position → Reading D) (whole : A → B → C → D → Z)
    (sa : A → List ℕ) (sb : B → List ℕ) (sc : C → List ℕ) (sd : D → List ℕ)
    (Fa : A → Type 0) (Fb : B → Type 0) (Fc : C → Type 0) (Fd : D → Type 0) (Of : Z → List ℕ → Type 0)
    → IsSpelled ra sa Fa → IsSpelled rb sb Fb → IsSpelled rc sc Fc → IsSpelled rd sd Fd
    → ((a : A) (b : B) (c : C) (d : D) → Fa a → Fb b → Fc c → Fd d → Of (whole a b c d) (sa a ++ (sb b ++ (sc c ++ sd d))))
    → Takes (row4 ra rb rc rd whole) Of
row4_takes ra rb rc rd whole sa sb sc sd Fa Fb Fc Fd Of first second third fourth so =
    before_takes ra (λ a. row3 rb rc rd (whole a)) sa Fa Of first
    (λ a fa. row3_takes rb rc rd (whole a) sb sc sd Fb Fc Fd (λ y s. Of y (sa a ++ s)) second third fourth (λ b c d fb fc fd. so a b c d fa fb fc fd))

-- one of two readings, by a test
pub if_takes : {B : Type 0} (b : Bool) (m n : Position → Reading B) (Of : B → List ℕ → Type 0)
    → (b ≡ true → Takes m Of) → (b ≡ false → Takes n Of) → Takes (λ p. cond b (m p) (n p)) Of
if_takes true m n Of one other = one refl
if_takes false m n Of one other = other refl

-- a value is spelled so and can be
abbrev pub IsOf : {B : Type 0} → (B → List ℕ) → (B → Type 0) → B → List ℕ → Type 0
IsOf spelling Fits y s = (s ≡ spelling y) × Fits y

pub spelled : {B : Type 0} (read : Position → Reading B) (spelling : B → List ℕ) (Fits : B → Type 0)
    → Takes read (IsOf spelling Fits) → IsSpelled read spelling Fits
spelled read spelling Fits takes p q y bytes e =
    let t = takes p q y bytes e in (subst (Stood p q) t.is.0 t.stood, t.is.1)
