-- Images: what is written is read again, and what is read is spelled so.
use Rattle.std.proofs.Common.{◌≡◌, ℕ, ℤ, ◌+◌, ◌<◌, ◌^◌, Bool, true, false, cond, eqb, List, [], ◌∷◌, ◌++◌, FitsSigned, length, Result, Ok, Err, refl, sym, ap, subst, ◌∙◌, arith}
use Rattle.std.specs.Prelude.{IfOk}
use Rattle.std.specs.Int.{w64}
use Rattle.std.proofs.lemmas.Bool.{eqb-true, eq-eqb}
use Rattle.std.proofs.lemmas.List.{append-nil, nil_from_length}
use Rattle.ep_base.specs.Identifiers.{is_name}
use Rattle.ep_fields.specs.Fields.{Position, Reading, byte_at, byte_field, byte_field_at, integer, integer_at, name_at, number, number_at}
use Rattle.ep_fields.specs.Laws.{AreBytes, FieldLaws, IsReadAgain, IsSpelled, Stood}
use Rattle.ep_fields.specs.declared.refusal.FieldRefusal.{FieldRefusal}
use Rattle.ep_fields.specs.declared.refusal.FieldRefusal.TheVariants.{Bad}
use Rattle.ep_object.specs.declared.code.ConstantType.{ConstantType}
use Rattle.ep_object.specs.declared.code.Image.{Image}
use Rattle.ep_object.specs.declared.code.ImageRoutine.{ImageRoutine}
use Rattle.ep_object.specs.declared.code.ImageUnit.{ImageUnit}
use Rattle.ep_object.specs.declared.code.Instr.{Instr}
use Rattle.ep_iface.specs.declared.refusal.FileRefusal.{FileRefusal}
use Rattle.ep_iface.specs.ConstantTypes.{IsConstantType, constant_type_at, constant_type_bytes}
use Rattle.ep_iface.specs.Formats.{AreListed, Tells, ended, letters_at, letters_or_bad, list_at, listed, whole}
use Rattle.ep_iface.specs.Images.{IsImage, IsInstr, IsRoutine, IsText, IsUnit, image_at, image_bytes, image_letters, instr_at, instr_bytes, routine_at, routine_bytes, unit_at, unit_bytes}
use Rattle.ep_iface.proofs.ConstantTypeLaws.{constant_type_again, constant_type_spelled}
use Rattle.ep_fields.proofs.public.Readings.{bind_ok, done, ok_is}
use Rattle.ep_iface.proofs.Fields.{IsOf, before, before_again, before_takes, row4, row4_again, row4_takes, spelled}
use Rattle.ep_iface.proofs.Lists.{list_again, list_spelled}

-- ---- the parts

abbrev unit_of : List ℕ → ℕ → ℕ → ℕ → ImageUnit
unit_of name slots start stop = record { name = name; slots = slots; start = start; stop = stop }

unit_again : FieldLaws → (u : ImageUnit) → IsUnit u → IsReadAgain unit_at (unit_bytes u) u
unfolding unit_at
unit_again laws u fits =
    row4_again name_at number_at number_at number_at unit_of (byte_field u.name) (number u.slots) (number u.start) (number u.stop) u.name u.slots u.start u.stop
    (laws.names_again u.name fits.name) (laws.numbers_again u.slots fits.slots) (laws.numbers_again u.start fits.start) (laws.numbers_again u.stop fits.stop)

unit_spelled : FieldLaws → IsSpelled unit_at unit_bytes IsUnit
unfolding unit_at
unit_spelled laws =
    spelled unit_at unit_bytes IsUnit
    (row4_takes name_at number_at number_at number_at unit_of byte_field number number number (λ name. is_name name ≡ true) (λ n. n < 2 ^ 32) (λ n. n < 2 ^ 32) (λ n. n < 2 ^ 32) (IsOf unit_bytes IsUnit)
    laws.names_spelled laws.numbers_spelled laws.numbers_spelled laws.numbers_spelled
    (λ name slots start stop fn fs fa fo. (refl, record { name = fn; slots = fs; start = fa; stop = fo })))

abbrev routine_of : ℕ → ℕ → ℕ → ℕ → ImageRoutine
routine_of entry unit arguments slots = record { entry = entry; unit = unit; arguments = arguments; slots = slots }

routine_again : FieldLaws → (r : ImageRoutine) → IsRoutine r → IsReadAgain routine_at (routine_bytes r) r
unfolding routine_at
routine_again laws r fits =
    row4_again number_at number_at number_at number_at routine_of (number r.entry) (number r.unit) (number r.arguments) (number r.slots) r.entry r.unit r.arguments r.slots
    (laws.numbers_again r.entry fits.entry) (laws.numbers_again r.unit fits.unit) (laws.numbers_again r.arguments fits.arguments) (laws.numbers_again r.slots fits.slots)

routine_spelled : FieldLaws → IsSpelled routine_at routine_bytes IsRoutine
unfolding routine_at
routine_spelled laws =
    spelled routine_at routine_bytes IsRoutine
    (row4_takes number_at number_at number_at number_at routine_of number number number number (λ n. n < 2 ^ 32) (λ n. n < 2 ^ 32) (λ n. n < 2 ^ 32) (λ n. n < 2 ^ 32) (IsOf routine_bytes IsRoutine)
    laws.numbers_spelled laws.numbers_spelled laws.numbers_spelled laws.numbers_spelled
    (λ entry unit arguments slots fe fu fa fs. (refl, record { entry = fe; unit = fu; arguments = fa; slots = fs })))

abbrev instr_of : ℕ → ℤ → ℕ → ℕ → Instr
instr_of op a b line = record { op = op; a = a; b = b; line = line }

instr_again : FieldLaws → (i : Instr) → IsInstr i → IsReadAgain instr_at (instr_bytes i) i
unfolding instr_at
instr_again laws i fits =
    row4_again byte_at integer_at number_at number_at instr_of (i.op ∷ []) (integer i.a) (number i.b) (number i.line) i.op i.a i.b i.line
    (laws.bytes_again i.op fits.op) (laws.integers_again i.a fits.a) (laws.numbers_again i.b fits.b) (laws.numbers_again i.line fits.line)

instr_spelled : FieldLaws → IsSpelled instr_at instr_bytes IsInstr
unfolding instr_at
instr_spelled laws =
    spelled instr_at instr_bytes IsInstr
    (row4_takes byte_at integer_at number_at number_at instr_of (λ b. b ∷ []) integer number number (λ b. b < 256) (FitsSigned w64) (λ n. n < 2 ^ 32) (λ n. n < 2 ^ 32) (IsOf instr_bytes IsInstr)
    laws.bytes_spelled laws.integers_spelled laws.numbers_spelled laws.numbers_spelled
    (λ op a b line fo fa fb fl. (refl, record { op = fo; a = fa; b = fb; line = fl })))

-- ---- the letters

abbrev done_at : Position → Reading (Unit {0})
done_at p = Ok (tt, p)

letters_again : FieldLaws → (letters : ℕ) → letters < 2 ^ 32 → IsReadAgain (letters_at letters) (number letters) tt
unfolding letters_at
letters_again laws letters fits place rest = rw (laws.numbers_again letters fits place rest, eq-eqb letters letters refl) refl

letters_of : (place n letters : ℕ) (x : Unit {0}) (p q : Position) → letters_or_bad place letters (n, p) ≡ Ok (x, q) → (n ≡ letters) × (p ≡ q)
letters_of place n letters x p q e = by (eqb n letters) refl e
  where
    by : (b : Bool) → eqb n letters ≡ b → cond b (done_at p) (Err (Bad place)) ≡ Ok (x, q) → (n ≡ letters) × (p ≡ q)
    by true is f = (eqb-true n letters is, ap (λ (y : Unit {0} × Position). y.1) (ok_is (tt, p) (x, q) f))
    by false is f = absurd cc

letters_spelled : FieldLaws → (letters : ℕ) → IsSpelled (letters_at letters) (λ x. number letters) (λ x. letters < 2 ^ 32)
unfolding letters_at
letters_spelled laws letters p q x bytes e =
    let a = bind_ok (number_at p) (letters_or_bad p.place letters) (x, q) e in
    let f = laws.numbers_spelled p a.0.1 a.0.0 bytes a.1 in
    let g = letters_of p.place a.0.0 letters x a.0.1 q a.2 in
    (subst (λ (n : ℕ). Stood p q (number n)) g.0 (subst (λ (r : Position). Stood p r (number a.0.0)) g.1 f.0), subst (λ (n : ℕ). n < 2 ^ 32) g.0 f.1)

-- ---- the whole

abbrev image_of : Unit {0} → List ImageUnit → List ImageRoutine → List (List ℕ) → List ConstantType → List Instr → Image
image_of x units routines texts constant_types instructions =
    record { units = units; routines = routines; texts = texts; constant_types = constant_types; instructions = instructions }

abbrev from_routines : Unit {0} → List ImageUnit → Position → Reading Image
from_routines x units = row4 (list_at routine_at) (list_at byte_field_at) (list_at constant_type_at) (list_at instr_at) (image_of x units)

abbrev from_units : Unit {0} → Position → Reading Image
from_units x = before (list_at unit_at) (from_routines x)

-- the bytes from the routines on, and from the units on
abbrev routines_bytes : Image → List ℕ
routines_bytes g =
    listed routine_bytes g.routines ++ (listed byte_field g.texts ++ (listed constant_type_bytes g.constant_types ++ listed instr_bytes g.instructions))

abbrev units_bytes : Image → List ℕ
units_bytes g = listed unit_bytes g.units ++ routines_bytes g

image_again : FieldLaws → (g : Image) → IsImage g → IsReadAgain image_at (image_bytes g) g
unfolding image_at
image_again laws g fits =
    before_again (letters_at image_letters) from_units (number image_letters) (units_bytes g) tt g (letters_again laws image_letters (omega arith))
    (before_again (list_at unit_at) (from_routines tt) (listed unit_bytes g.units) (routines_bytes g) g.units g (list_again laws unit_at unit_bytes IsUnit (unit_again laws) g.units fits.units)
    (row4_again (list_at routine_at) (list_at byte_field_at) (list_at constant_type_at) (list_at instr_at) (image_of tt g.units)
    (listed routine_bytes g.routines) (listed byte_field g.texts) (listed constant_type_bytes g.constant_types) (listed instr_bytes g.instructions)
    g.routines g.texts g.constant_types g.instructions
    (list_again laws routine_at routine_bytes IsRoutine (routine_again laws) g.routines fits.routines)
    (list_again laws byte_field_at byte_field IsText laws.byte_fields_again g.texts fits.texts)
    (list_again laws constant_type_at constant_type_bytes IsConstantType (constant_type_again laws) g.constant_types fits.constant_types)
    (list_again laws instr_at instr_bytes IsInstr (instr_again laws) g.instructions fits.instructions)))

image_spelled : FieldLaws → IsSpelled image_at image_bytes IsImage
unfolding image_at
image_spelled laws =
    spelled image_at image_bytes IsImage
    (before_takes (letters_at image_letters) from_units (λ x. number image_letters) (λ x. image_letters < 2 ^ 32) (IsOf image_bytes IsImage) (letters_spelled laws image_letters)
    (λ x fx. before_takes (list_at unit_at) (from_routines x) (listed unit_bytes) (AreListed IsUnit) (λ g s. IsOf image_bytes IsImage g (number image_letters ++ s)) (list_spelled laws unit_at unit_bytes IsUnit (unit_spelled laws))
    (λ units fu. row4_takes (list_at routine_at) (list_at byte_field_at) (list_at constant_type_at) (list_at instr_at) (image_of x units)
    (listed routine_bytes) (listed byte_field) (listed constant_type_bytes) (listed instr_bytes)
    (AreListed IsRoutine) (AreListed IsText) (AreListed IsConstantType) (AreListed IsInstr)
    (λ g s. IsOf image_bytes IsImage g (number image_letters ++ (listed unit_bytes units ++ s)))
    (list_spelled laws routine_at routine_bytes IsRoutine (routine_spelled laws))
    (list_spelled laws byte_field_at byte_field IsText laws.byte_fields_spelled)
    (list_spelled laws constant_type_at constant_type_bytes IsConstantType (constant_type_spelled laws))
    (list_spelled laws instr_at instr_bytes IsInstr (instr_spelled laws))
    (λ routines texts constant_types instructions fr ft fc fi.
    (refl, record { units = fu; routines = fr; texts = ft; constant_types = fc; instructions = fi })))))

-- ---- a file

guard_ended : {A : Type 0} (b : Bool) (d : FieldRefusal) (x y : A) → cond b (done x) (Err d) ≡ Ok y → (b ≡ true) × (x ≡ y)
guard_ended true d x y e = (refl, cc)
guard_ended false d x y e = absurd cc

-- what a file holds is spelled by all of its bytes
pub image_whole : FieldLaws → (bytes : List ℕ) (g : Image) → AreBytes bytes → whole image_at bytes ≡ Ok g
    → IsImage g × (bytes ≡ image_bytes g)
image_whole laws bytes g are e =
    let start : Position = record { place = 0; rest = bytes } in
    let a = bind_ok (image_at start) ended g e in
    let f = image_spelled laws start a.0.1 a.0.0 are a.1 in
    let h = guard_ended (eqb (length a.0.1.rest) 0) (Bad a.0.1.place) a.0.0 g a.2 in
    let nothing : a.0.1.rest ≡ [] = nil_from_length a.0.1.rest (eqb-true _ _ h.0) in
    let all : bytes ≡ image_bytes a.0.0 = f.0.bytes ∙ ap (λ (r : List ℕ). image_bytes a.0.0 ++ r) nothing ∙ append-nil (image_bytes a.0.0) in
    subst (λ (v : Image). IsImage v × (bytes ≡ image_bytes v)) h.1 (f.1, all)

-- and what is spelled so is read
pub whole_image : FieldLaws → (g : Image) → IsImage g → whole image_at (image_bytes g) ≡ Ok g
whole_image laws g fits =
    let start : List ℕ → Position = λ r. record { place = 0; rest = r } in
    let read : image_at (start (image_bytes g)) ≡ Ok (g, record { place = 0 + length (image_bytes g); rest = [] }) =
    ap (λ (r : List ℕ). image_at (start r)) (sym (append-nil (image_bytes g))) ∙ image_again laws g fits 0 [] in
    rw read refl

pub is_found : FieldLaws → (bytes : List ℕ) (r : Result Image FileRefusal) → AreBytes bytes
    → Tells r (whole image_at bytes) → IfOk r (λ g. IsImage g × (bytes ≡ image_bytes g))
is_found laws bytes (Ok g) are given = image_whole laws bytes g are given
is_found laws bytes (Err e) are given = tt

pub is_read : FieldLaws → (bytes : List ℕ) (r : Result Image FileRefusal) → Tells r (whole image_at bytes)
    → (g : Image) → IsImage g → bytes ≡ image_bytes g → Tells r (Ok g)
is_read laws bytes r given g fits e =
    subst (Tells r) (ap (whole image_at) e ∙ whole_image laws g fits) given
