-- How the parts of an object are placed in an image of its own.
use Rattle.std.proofs.Common.{◌≡◌, ◌≢◌, ℕ, zero, suc, ◌+◌, ◌<◌, ◌≤◌, Bool, true, false, ◌&&◌, ◌||◌, ◌==◌, not, List, [], ◌∷◌, ◌++◌, length, take, get_or, map, Option, Some, None, slice_get, inl, inr, refl, sym, ap, subst, arith, add-one, take-suc, take_all, bytes_eq}
use Rattle.std.proofs.lemmas.Bool.{cases_Bool}
use Rattle.std.proofs.lemmas.Bool.Decides.{nat_tests}
use Rattle.ep_object.specs.Placing.{Placement, first_placement, placed_op, referred}
use Rattle.ep_object.specs.Table.{Op, ops, op_of, Text, Jump, JumpFalse, Call, Unit, TConst}
use Rattle.ep_object.specs.declared.code.Instr.{Instr}
use Rattle.ep_object.specs.declared.code.Object.{Object}
use Rattle.ep_object.specs.declared.code.Reference.{Reference}
use Rattle.ep_drive.specs.Images.{placed_in, placements_in}
use Rattle.std.proofs.lemmas.Bool.{and_parts}

-- one more item that a loop over a list appends
pub map-more : {A B : Type 0} (f : A → B) (xs : List A) (i : ℕ) (x : A) → i < length xs → x ≡ get_or xs i x → map f (take i xs) ++ f x ∷ [] ≡ map f (take (i + 1) xs)
map-more f xs i x h e = rw (add-one, take-suc xs i x h, ← e) (sym (map-append f (take i xs) (x ∷ [])))
  where
    map-append : {A B : Type 0} (f : A → B) (xs ys : List A) → map f (xs ++ ys) ≡ map f xs ++ map f ys
    map-append f [] ys = refl
    map-append f (x ∷ xs) ys = ap (λ zs. f x ∷ zs) (map-append f xs ys)

-- all items
pub map-all : {A B : Type 0} (f : A → B) (xs : List A) (i : ℕ) → length xs ≤ i → map f (take i xs) ≡ map f xs
map-all f xs i h = ap (map f) (take_all i xs h)

pub ruleset mapped = (map-more, map-all)

-- a reference to another unit names nothing here
pub other_unit : (o : Object) (found : Option Reference) (r : Reference) → found ≡ Some r → bytes_eq o.name r.unit ≡ false → referred (placements_in o) found ≡ None
other_unit o found r e h = rw (e, h) refl

-- ---- instructions that stay as they are

-- the codes whose field is placed anew
abbrev pub is_placed : ℕ → Bool
is_placed code = code == 1 || code == 4 || code == 5 || code == 8 || code == 13 || code == 58

abbrev pub moves : Option Op → Bool
moves (Some Text) = true
moves (Some Jump) = true
moves (Some JumpFalse) = true
moves (Some Call) = true
moves (Some Unit) = true
moves (Some TConst) = true
moves _ = false

-- in a list of operations that begins at a code only those of these codes have such a field
abbrev pub fits : ℕ → List Op → Bool
fits code [] = true
fits code (o ∷ os) = (not (moves (Some o)) || is_placed code) && fits (suc code) os

either : (a b : Bool) → (not a || b) ≡ true → a ≡ true → b ≡ true
either true b h e = h
either false b h e = absurd cc

fits_at : (code : ℕ) (os : List Op) → fits code os ≡ true → (n : ℕ) → moves (slice_get os n) ≡ true → is_placed (n + code) ≡ true
fits_at code [] h n m = absurd cc
fits_at code (o ∷ os) h zero m =
    let p = and_parts (not (moves (Some o)) || is_placed code) (fits (suc code) os) h in
    let same : code ≡ zero + code = omega arith in
    subst (λ (k : ℕ). is_placed k ≡ true) same (either (moves (Some o)) (is_placed code) p.0 m)
fits_at code (o ∷ os) h (suc n) m =
    let p = and_parts (not (moves (Some o)) || is_placed code) (fits (suc code) os) h in
    let same : n + suc code ≡ suc n + code = omega arith in
    subst (λ (k : ℕ). is_placed k ≡ true) same (fits_at (suc code) os p.1 n m)

stays : (ps : List Placement) (p : Placement) (references : List Reference) (o : Option Op) (i : Instr) → moves o ≡ false → placed_op ps p references o i ≡ i
stays ps p references (Some Text) i h = absurd cc
stays ps p references (Some Jump) i h = absurd cc
stays ps p references (Some JumpFalse) i h = absurd cc
stays ps p references (Some Call) i h = absurd cc
stays ps p references (Some Unit) i h = absurd cc
stays ps p references (Some TConst) i h = absurd cc
stays ps p references _ i h = refl

-- none of the codes
not_placed : (n : ℕ) → n ≢ 1 → n ≢ 4 → n ≢ 5 → n ≢ 8 → n ≢ 13 → n ≢ 58 → is_placed n ≡ false
not_placed n a b c d e f =
    let a1 : (n == 1) ≡ false = grind (arith, nat_tests) in
    let b1 : (n == 4) ≡ false = grind (arith, nat_tests) in
    let c1 : (n == 5) ≡ false = grind (arith, nat_tests) in
    let d1 : (n == 8) ≡ false = grind (arith, nat_tests) in
    let e1 : (n == 13) ≡ false = grind (arith, nat_tests) in
    let f1 : (n == 58) ≡ false = grind (arith, nat_tests) in
    rw (a1, b1, c1, d1, e1, f1) refl

-- an instruction of any other code stays as it is
pub placed-other : (o : Object) (i : Instr) → i.op ≢ 1 → i.op ≢ 4 → i.op ≢ 5 → i.op ≢ 8 → i.op ≢ 13 → i.op ≢ 58 → i ≡ placed_in o i
placed-other o i a b c d e f =
    let none : is_placed i.op ≡ false = not_placed i.op a b c d e f in
    elim (cases_Bool (moves (op_of i.op))) [
      | inl m ↦
          let one : is_placed (i.op + 0) ≡ true = fits_at 0 ops refl i.op m in
          let two : i.op + 0 ≡ i.op = omega arith in
          absurd cc
      | inr m ↦ sym (stays (placements_in o) (first_placement o) o.references (op_of i.op) i m)
    ]
