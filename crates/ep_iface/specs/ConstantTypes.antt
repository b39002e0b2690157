-- The format of constant types: a tag of one byte, and the fields of that kind.
use Rattle.std.specs.Prelude.{ℕ, ◌<◌, ◌^◌, ◌==◌, if◌then◌else◌, List, ◌∷◌, ◌++◌, Ok, Err, FitsSigned}
use Rattle.std.specs.Int.{w64}
use Rattle.ep_fields.specs.Fields.{Position, Reading, ◌>>=◌, byte_at, integer, integer_at, number, number_at}
use Rattle.ep_fields.specs.declared.refusal.FieldRefusal.TheVariants.{Bad}
use Rattle.ep_iface.specs.Formats.{AreListed, flag, flag_at, list_at, listed}
use Rattle.ep_object.specs.declared.code.ConstantType.{ConstantType}
use Rattle.ep_object.specs.declared.code.ConstantType.TheVariants.{Ord, Set, Str, Arr, Rec, Init}

-- ---- spelling

abbrev pub constant_type_bytes : ConstantType → List ℕ
constant_type_bytes (Ord lo hi) = 0 ∷ (integer lo ++ integer hi)
constant_type_bytes (Set lo hi) = 1 ∷ (integer lo ++ integer hi)
constant_type_bytes (Str capacity) = 2 ∷ integer capacity
constant_type_bytes (Arr fixed lo hi component) = 3 ∷ (flag fixed ++ (integer lo ++ (integer hi ++ number component)))
constant_type_bytes (Rec components) = 4 ∷ listed number components
constant_type_bytes (Init type_number words) = 5 ∷ (number type_number ++ listed integer words)

-- ---- reading

unfoldable pub ord_at : Position → Reading ConstantType
ord_at p = do
  lo ← integer_at p
  hi ← integer_at lo.1
  Ok (Ord lo.0 hi.0, hi.1)

unfoldable pub set_at : Position → Reading ConstantType
set_at p = do
  lo ← integer_at p
  hi ← integer_at lo.1
  Ok (Set lo.0 hi.0, hi.1)

unfoldable pub str_at : Position → Reading ConstantType
str_at p = do
  capacity ← integer_at p
  Ok (Str capacity.0, capacity.1)

unfoldable pub arr_at : Position → Reading ConstantType
arr_at p = do
  fixed ← flag_at p
  lo ← integer_at fixed.1
  hi ← integer_at lo.1
  component ← number_at hi.1
  Ok (Arr fixed.0 lo.0 hi.0 component.0, component.1)

unfoldable pub rec_at : Position → Reading ConstantType
rec_at p = do
  components ← list_at number_at p
  Ok (Rec components.0, components.1)

unfoldable pub init_at : Position → Reading ConstantType
init_at p = do
  type_number ← number_at p
  words ← list_at integer_at type_number.1
  Ok (Init type_number.0 words.0, words.1)

-- what follows a tag that stands at this place
abbrev pub kind_at : ℕ → ℕ → Position → Reading ConstantType
kind_at place tag p =
    if tag == 0 then ord_at p
    else if tag == 1 then set_at p
    else if tag == 2 then str_at p
    else if tag == 3 then arr_at p
    else if tag == 4 then rec_at p
    else if tag == 5 then init_at p
    else Err (Bad place)

unfoldable pub constant_type_at : Position → Reading ConstantType
constant_type_at p = do
  tag ← byte_at p
  kind_at p.place tag.0 tag.1

-- ---- which can be spelled

-- those whose numbers are such, and which have fewer than 2^32 components or words
abbrev pub IsConstantType : ConstantType → Type 0
IsConstantType (Ord lo hi) = FitsSigned w64 lo × FitsSigned w64 hi
IsConstantType (Set lo hi) = FitsSigned w64 lo × FitsSigned w64 hi
IsConstantType (Str capacity) = FitsSigned w64 capacity
IsConstantType (Arr fixed lo hi component) = FitsSigned w64 lo × FitsSigned w64 hi × (component < 2 ^ 32)
IsConstantType (Rec components) = AreListed (λ n. n < 2 ^ 32) components
IsConstantType (Init type_number words) = (type_number < 2 ^ 32) × AreListed (FitsSigned w64) words
