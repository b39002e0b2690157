-- Constant types: what is written is read again, and what is read is spelled so.
use Rattle.std.specs.Prelude.{⊤}
use Rattle.std.proofs.Common.{◌≡◌, ℕ, ◌<◌, ◌^◌, Bool, true, false, cond, eqb, List, [], ◌∷◌, ◌++◌, FitsSigned, Ok, Err, refl, sym, ap, subst, ◌∙◌, arith}
use Rattle.std.specs.Int.{w64}
use Rattle.std.proofs.lemmas.Bool.{eqb-true}
use Rattle.ep_fields.specs.Fields.{Position, Reading, byte_at, integer, integer_at, number, number_at}
use Rattle.ep_fields.specs.Laws.{FieldLaws, IsReadAgain, IsSpelled, Stood}
use Rattle.ep_fields.specs.declared.refusal.FieldRefusal.TheVariants.{Bad}
use Rattle.ep_object.specs.declared.code.ConstantType.{ConstantType}
use Rattle.ep_object.specs.declared.code.ConstantType.TheVariants.{Ord, Set, Str, Arr, Rec, Init}
use Rattle.ep_iface.specs.Formats.{AreListed, flag, flag_at, flag_or_bad, list_at, listed}
use Rattle.ep_iface.specs.ConstantTypes.{IsConstantType, arr_at, constant_type_at, constant_type_bytes, init_at, kind_at, ord_at, rec_at, set_at, str_at}
use Rattle.ep_fields.proofs.public.Readings.{bind_ok, ok_is}
use Rattle.ep_iface.proofs.Fields.{IsOf, if_takes, Takes, before, before_again, before_takes, row1_again, row1_takes, row2_again, row2_takes, row4_again, row4_takes, spelled}
use Rattle.ep_iface.proofs.Lists.{list_again, list_spelled}

-- ---- flags

pub flag_again : FieldLaws → (b : Bool) → IsReadAgain flag_at (flag b) b
unfolding flag_at
flag_again laws true place rest = rw (laws.bytes_again 1 (omega arith) place rest) refl
flag_again laws false place rest = rw (laws.bytes_again 0 (omega arith) place rest) refl

abbrev done_at : Bool → Position → Reading Bool
done_at b p = Ok (b, p)

-- a byte that is a flag
flag_of : (place n : ℕ) (b : Bool) (p q : Position) → flag_or_bad place (n, p) ≡ Ok (b, q) → (n ∷ [] ≡ flag b) × (p ≡ q)
flag_of place n b p q = zero_or (eqb n 0) refl
  where
    one_or : (c : Bool) → eqb n 1 ≡ c → cond c (done_at true p) (Err (Bad place)) ≡ Ok (b, q) → (n ∷ [] ≡ flag b) × (p ≡ q)
    one_or true is e =
        let f = ok_is (true, p) (b, q) e in
        (ap (λ (k : ℕ). k ∷ []) (eqb-true n 1 is) ∙ ap (λ (x : Bool × Position). flag x.0) f, ap (λ (x : Bool × Position). x.1) f)
    one_or false is e = absurd cc

    zero_or : (c : Bool) → eqb n 0 ≡ c → cond c (done_at false p) (cond (eqb n 1) (done_at true p) (Err (Bad place))) ≡ Ok (b, q)
        → (n ∷ [] ≡ flag b) × (p ≡ q)
    zero_or true is e =
        let f = ok_is (false, p) (b, q) e in
        (ap (λ (k : ℕ). k ∷ []) (eqb-true n 0 is) ∙ ap (λ (x : Bool × Position). flag x.0) f, ap (λ (x : Bool × Position). x.1) f)
    zero_or false is e = one_or (eqb n 1) refl e

pub flag_spelled : FieldLaws → IsSpelled flag_at flag (λ b. ⊤)
unfolding flag_at
flag_spelled laws p q b bytes e =
    let a = bind_ok (byte_at p) (flag_or_bad p.place) (b, q) e in
    let f = laws.bytes_spelled p a.0.1 a.0.0 bytes a.1 in
    let g = flag_of p.place a.0.0 b a.0.1 q a.2 in
    (subst (λ (s : List ℕ). Stood p q s) g.0 (subst (λ (r : Position). Stood p r (a.0.0 ∷ [])) g.1 f.0), tt)

-- ---- each kind, behind its tag

pub kind_again : FieldLaws → (place : ℕ) (t : ConstantType) → IsConstantType t
    → IsReadAgain (before byte_at (kind_at place)) (constant_type_bytes t) t
unfolding ord_at set_at str_at arr_at rec_at init_at
kind_again laws place (Ord lo hi) fits =
    before_again byte_at (kind_at place) (0 ∷ []) (integer lo ++ integer hi) 0 (Ord lo hi) (laws.bytes_again 0 (omega arith))
    (row2_again integer_at integer_at Ord (integer lo) (integer hi) lo hi (laws.integers_again lo fits.0) (laws.integers_again hi fits.1))
kind_again laws place (Set lo hi) fits =
    before_again byte_at (kind_at place) (1 ∷ []) (integer lo ++ integer hi) 1 (Set lo hi) (laws.bytes_again 1 (omega arith))
    (row2_again integer_at integer_at Set (integer lo) (integer hi) lo hi (laws.integers_again lo fits.0) (laws.integers_again hi fits.1))
kind_again laws place (Str capacity) fits =
    before_again byte_at (kind_at place) (2 ∷ []) (integer capacity) 2 (Str capacity) (laws.bytes_again 2 (omega arith))
    (row1_again integer_at Str (integer capacity) capacity (laws.integers_again capacity fits))
kind_again laws place (Arr fixed lo hi component) fits =
    before_again byte_at (kind_at place) (3 ∷ []) (flag fixed ++ (integer lo ++ (integer hi ++ number component))) 3 (Arr fixed lo hi component) (laws.bytes_again 3 (omega arith))
    (row4_again flag_at integer_at integer_at number_at Arr (flag fixed) (integer lo) (integer hi) (number component) fixed lo hi component
    (flag_again laws fixed) (laws.integers_again lo fits.0) (laws.integers_again hi fits.1) (laws.numbers_again component fits.2))
kind_again laws place (Rec components) fits =
    before_again byte_at (kind_at place) (4 ∷ []) (listed number components) 4 (Rec components) (laws.bytes_again 4 (omega arith))
    (row1_again (list_at number_at) Rec (listed number components) components
    (list_again laws number_at number (λ n. n < 2 ^ 32) laws.numbers_again components fits))
kind_again laws place (Init type_number words) fits =
    before_again byte_at (kind_at place) (5 ∷ []) (number type_number ++ listed integer words) 5 (Init type_number words) (laws.bytes_again 5 (omega arith))
    (row2_again number_at (list_at integer_at) Init (number type_number) (listed integer words) type_number words
    (laws.numbers_again type_number fits.0)
    (list_again laws integer_at integer (FitsSigned w64) laws.integers_again words fits.1))

pub constant_type_again : FieldLaws → (t : ConstantType) → IsConstantType t
    → IsReadAgain constant_type_at (constant_type_bytes t) t
unfolding constant_type_at
constant_type_again laws t fits place rest = kind_again laws place t fits place rest

-- what follows a tag is spelled so, with the tag
abbrev Tagged : ℕ → ConstantType → List ℕ → Type 0
Tagged tag t s = IsOf constant_type_bytes IsConstantType t (tag ∷ s)

-- the kinds of tags from one on
abbrev kinds5 : ℕ → ℕ → Position → Reading ConstantType
kinds5 place tag p = cond (eqb tag 5) (init_at p) (Err (Bad place))

abbrev kinds4 : ℕ → ℕ → Position → Reading ConstantType
kinds4 place tag p = cond (eqb tag 4) (rec_at p) (kinds5 place tag p)

abbrev kinds3 : ℕ → ℕ → Position → Reading ConstantType
kinds3 place tag p = cond (eqb tag 3) (arr_at p) (kinds4 place tag p)

abbrev kinds2 : ℕ → ℕ → Position → Reading ConstantType
kinds2 place tag p = cond (eqb tag 2) (str_at p) (kinds3 place tag p)

abbrev kinds1 : ℕ → ℕ → Position → Reading ConstantType
kinds1 place tag p = cond (eqb tag 1) (set_at p) (kinds2 place tag p)

ord_takes : FieldLaws → Takes ord_at (Tagged 0)
unfolding ord_at
ord_takes laws =
    row2_takes integer_at integer_at Ord integer integer (FitsSigned w64) (FitsSigned w64) (Tagged 0) laws.integers_spelled laws.integers_spelled
    (λ lo hi fl fh. (refl, (fl, fh)))

set_takes : FieldLaws → Takes set_at (Tagged 1)
unfolding set_at
set_takes laws =
    row2_takes integer_at integer_at Set integer integer (FitsSigned w64) (FitsSigned w64) (Tagged 1) laws.integers_spelled laws.integers_spelled
    (λ lo hi fl fh. (refl, (fl, fh)))

str_takes : FieldLaws → Takes str_at (Tagged 2)
unfolding str_at
str_takes laws =
    row1_takes integer_at Str integer (FitsSigned w64) (Tagged 2) laws.integers_spelled (λ capacity fits. (refl, fits))

arr_takes : FieldLaws → Takes arr_at (Tagged 3)
unfolding arr_at
arr_takes laws =
    row4_takes flag_at integer_at integer_at number_at Arr flag integer integer number (λ b. ⊤) (FitsSigned w64) (FitsSigned w64) (λ n. n < 2 ^ 32) (Tagged 3)
    (flag_spelled laws) laws.integers_spelled laws.integers_spelled laws.numbers_spelled
    (λ fixed lo hi component ff fl fh fc. (refl, (fl, fh, fc)))

rec_takes : FieldLaws → Takes rec_at (Tagged 4)
unfolding rec_at
rec_takes laws =
    row1_takes (list_at number_at) Rec (listed number) (AreListed (λ n. n < 2 ^ 32)) (Tagged 4)
    (list_spelled laws number_at number (λ n. n < 2 ^ 32) laws.numbers_spelled) (λ components fits. (refl, fits))

init_takes : FieldLaws → Takes init_at (Tagged 5)
unfolding init_at
init_takes laws =
    row2_takes number_at (list_at integer_at) Init number (listed integer) (λ n. n < 2 ^ 32) (AreListed (FitsSigned w64)) (Tagged 5)
    laws.numbers_spelled (list_spelled laws integer_at integer (FitsSigned w64) laws.integers_spelled)
    (λ type_number words fn fw. (refl, (fn, fw)))

-- a kind that belongs to the tag, where the tag is that one
of_tag : (read : Position → Reading ConstantType) (tag k : ℕ) → Takes read (Tagged k) → eqb tag k ≡ true → Takes read (Tagged tag)
of_tag read tag k takes is = subst (λ (n : ℕ). Takes read (Tagged n)) (sym (eqb-true tag k is)) takes

none_takes : (place tag : ℕ) → Takes (λ p. Err (Bad place)) (Tagged tag)
none_takes place tag p q y bytes e = absurd cc

kind_takes : FieldLaws → (place tag : ℕ) → Takes (kind_at place tag) (Tagged tag)
kind_takes laws place tag =
    if_takes (eqb tag 0) ord_at (kinds1 place tag) (Tagged tag) (of_tag ord_at tag 0 (ord_takes laws)) (λ n0.
    if_takes (eqb tag 1) set_at (kinds2 place tag) (Tagged tag) (of_tag set_at tag 1 (set_takes laws)) (λ n1.
    if_takes (eqb tag 2) str_at (kinds3 place tag) (Tagged tag) (of_tag str_at tag 2 (str_takes laws)) (λ n2.
    if_takes (eqb tag 3) arr_at (kinds4 place tag) (Tagged tag) (of_tag arr_at tag 3 (arr_takes laws)) (λ n3.
    if_takes (eqb tag 4) rec_at (kinds5 place tag) (Tagged tag) (of_tag rec_at tag 4 (rec_takes laws)) (λ n4.
    if_takes (eqb tag 5) init_at (λ p. Err (Bad place)) (Tagged tag) (of_tag init_at tag 5 (init_takes laws)) (λ n5. none_takes place tag))))))

pub constant_type_spelled : FieldLaws → IsSpelled constant_type_at constant_type_bytes IsConstantType
unfolding constant_type_at
constant_type_spelled laws p q t bytes e =
    spelled (before byte_at (kind_at p.place)) constant_type_bytes IsConstantType
    (before_takes byte_at (kind_at p.place) (λ b. b ∷ []) (λ b. b < 256) (IsOf constant_type_bytes IsConstantType) laws.bytes_spelled (λ tag fits. kind_takes laws p.place tag))
    p q t bytes e
