-- The machine follows the elaboration of types.
use Rattle.std.proofs.Common.{◌≡◌, ℕ, ℤ, pos, suc, ◌+◌, ◌*◌, ◌-◌, ◌≤◌, ◌<◌, IsTrue, List, [], ◌∷◌, ◌++◌, length, length-append, Some, slice_get, refl, sym, ap, ◌∙◌, subst, arith}
use Rattle.std.specs.Prelude.{int_le, neg_ℤ}
use Rattle.ep_gen_code.specs.Instructions.{bare, instr}
use Rattle.ep_gen_code.specs.Credit.{least_credit}
use Rattle.ep_gen_code.specs.Referring.{AreReferred, AreArraysReferred, IsSwapReferred, type_reference}
use Rattle.ep_gen_code.proofs.public.Placed.{code_front, code_back}
use Rattle.ep_gen_type.specs.TypeCode.{ordinal_code, how_many, start_code, each_code, type_code}
use Rattle.ep_gen_type.proofs.InitialStates.{start_follows}
use Rattle.ep_object.specs.declared.code.Instr.{Instr}
use Rattle.ep_simulation.proofs.public.following.Kept.{IsHome, type_kept}
use Rattle.ep_simulation.specs.Follows.{point, Facts, Lasts, Fragment, Inside, TypeOnTop}
use Rattle.ep_simulation.specs.Layouts.{Layout}
use Rattle.ep_simulation.specs.Matching.{AreAmong, Slots, MachineMemory, Injection, Describes, IsLike, kept_slots}
use Rattle.ep_object.specs.Operands.{Operand, Word}
use Rattle.ep_object.specs.Placing.{Placement, CodeStands}
use Rattle.ep_simulation.specs.Promises.{CallsAt, CallsAreKept, TypeKeeps, type_credit}
use Rattle.ep_object.specs.Runs.{unit_in}
use Rattle.ep_object.specs.declared.code.Image.{Image}
use Rattle.ep_object.specs.declared.code.Reference.{Reference}
use Rattle.ep_simulation.proofs.public.following.Fragments.{inside_bind, fragment_from, fragment_give, fragment_to, fragment_less, fragment_waits, fragment_credit}
use Rattle.ep_simulation.proofs.public.following.Losing.{fragment_counted}
use Rattle.ep_simulation.proofs.public.following.Promising.{type_follows}
use Rattle.ep_simulation.proofs.public.matching.MoreMemory.{described-longer, inside_here, unit_in-same}
use Rattle.ep_simulation.specs.Starts.{AreStarts, AreStartsOfEach}
use Rattle.ep_simulation.proofs.public.rows.NewTypes.{AreDescribed, stacked, ord_does, arr_does, rec_does, set_does}
use Rattle.ep_simulation.proofs.public.rows.Rows.{push_pushes}
use Rattle.ep_meaning.specs.Steady.{IsSteadyHandler}
use Rattle.ep_typed.specs.declared.denoter.RequiredType.TheVariants as simple
use Rattle.ep_meaning.specs.Calls.{Handler}
use Rattle.ep_values.specs.Sets.{is_ordinal}
use Rattle.std.proofs.lemmas.Bool.Decides.{nat_tests}
use Rattle.std.proofs.lemmas.Option.{slice_get_within}
use Rattle.ep_meaning.proofs.public.Steady.{grows_refl, steady_bind, steady_give, steady_elaborate, steady_elaborate_each, steady_begins_where, steady_elaborated, steady_elaborated_where, steady_eval}
use Rattle.ep_meaning.proofs.public.Bares.{bare_twice}
use Rattle.ep_typed.specs.Denoters.{array_over, array_type, set_over, set_type}
use Rattle.ep_meaning.specs.Results.{start_from}
use Rattle.ep_meaning.specs.Meaning.{elaborated, elaborated_where, elaborate, elaborate_each}
use Rattle.ep_values.specs.Operations.{last_char, maxint}
use Rattle.ep_meaning.specs.Steps.{Computation, bind, give, with_type}
use Rattle.ep_meaning.specs.Valid.{AreTyped, Declarations, IsTyped, array, components, enumeration, initial, named, next_typed, none_typed, required, set, subrange}
use Rattle.ep_typed.specs.Trees.{Denoter, Array, Denoters, Named, no_denoter}
use Rattle.ep_values.specs.TypeValues.{ComponentTypes, TypeValue, bare_each, bare_of}
use Rattle.ep_values.specs.TypeValues as type
use Rattle.ep_typed.specs.declared.unit.UnitType.{UnitType}
use Rattle.ep_object.specs.declared.op.TheConstants as op

-- no constant of an enumeration is before the first one
from_zero : (n : ℕ) → IsTrue (int_le (pos 0) (pos n))
from_zero n = grind (arith, nat_tests)

-- what is given is of a type, but for initial states, whose bare form is this
over_given : (a i : TypeValue) → bare_of a ≡ i → (u : TypeValue) → bare_of i ≡ u → bare_of a ≡ u
over_given a i is u over = sym (bare_twice a) ∙ (ap bare_of is ∙ over)

-- the types of components are given, but for initial states, and the numbers of so many types that describe them are on top
record TypesOnTop (count : ℕ) (ts : ComponentTypes) (below : List Operand) (given : ComponentTypes) (injection : Injection)
    (memory : MachineMemory) (operands : List Operand) : Type 0 where
  types_are : bare_each given ≡ ts
  numbers : List ℕ
  many : length numbers ≡ count
  is : operands ≡ stacked numbers below
  described : AreDescribed memory.types numbers given
  starts : AreStartsOfEach given

module _ (declared : Declarations) (layout : Layout) (G : Image) (untouched : Slots) (Here : Facts) (lasts : Lasts untouched Here) (ps : List Placement) (p : Placement) (references : List Reference) (call : Handler) (steady_call : IsSteadyHandler call) (n g : ℕ) (unit : List ℕ) (line : ℕ) where
  -- from a place of the object, the machine follows the elaboration through the code, and leaves the type on top
  abbrev pub IsElaborated : ℕ → List Instr → TypeValue → Computation TypeValue → Type 0
  IsElaborated at code t c =
      CodeStands G ps p references at code
      → (injection : Injection) (memory : MachineMemory) (below : List Operand) (d : ℕ) → least_credit ≤ d → unit_in G memory.frames ≡ unit
      → Fragment layout G Here n (point injection memory (p.instructions.before + at) below) c (p.instructions.before + (at + length code)) (λ a. Inside untouched injection memory (TypeOnTop t below a)) d (λ a. d + 4)

  -- the bounds of an ordinal type, and `TOrd` over them
  ordinal_elaborates : (at : ℕ) (low high : ℤ) → IsTrue (int_le low high) → IsElaborated at (ordinal_code line low high) (type.Ordinal low high) (elaborated call g unit (type.Ordinal low high))
  ordinal_elaborates at low high ordered stands injection memory below d enough home =
      let second : p.instructions.before + at + 1 ≡ p.instructions.before + (at + 1) = omega arith in
      let third : p.instructions.before + (at + 1) + 1 ≡ p.instructions.before + (at + 1 + 1) = omega arith in
      fragment_to {to = p.instructions.before + (at + 1 + 1) + 1} (omega arith)
      (fragment_waits {d1 = d - 1} (λ s matches. push_pushes G (p.instructions.before + at) line below low stands.0 memory s.trace) (omega (arith, enough))
      (fragment_from second (fragment_waits {d1 = d - 2} (λ s matches. push_pushes G (p.instructions.before + (at + 1)) line (Word low ∷ below) high stands.1.0 memory s.trace) (omega (arith, enough))
      (fragment_from third (fragment_less {n = suc n} (omega arith) (fragment_counted {weight = 0} 0 (with_type (type.Ordinal low high)) (λ s. s) (type.Ordinal low high) (λ s. refl) grows_refl (λ s matches here. ord_does layout G (p.instructions.before + (at + 1 + 1)) line below low high ordered stands.1.1.0 lasts injection memory s matches here) (omega (arith, enough)) (omega (arith, enough)) (omega (arith, enough)) (omega (arith, enough))))))))

  -- `TArr`, over the index type and the type of the components
  array_elaborates : (at : ℕ) (low high : ℤ) (of : TypeValue) (index component : ℕ) → (injection : Injection) (memory : MachineMemory) (below : List Operand) (d : ℕ) → least_credit ≤ d
      → IsLike memory.types index (type.Ordinal low high) → Describes memory.types component of → AreStarts of
      → CodeStands G ps p references at (bare line op.T_ARR ∷ [])
      → Fragment layout G Here n (point injection memory (p.instructions.before + at) (Word (pos component) ∷ Word (pos index) ∷ below)) (elaborated call g unit (type.Array low high of)) (p.instructions.before + at + 1) (λ a. Inside untouched injection memory (TypeOnTop (type.Array low high (bare_of of)) below a)) d (λ a. d)
  array_elaborates at low high of index component injection memory below d enough index_is component_is starts stands =
      fragment_less {n = suc n} (omega arith) (fragment_counted {weight = 0} 0 (with_type (type.Array low high of)) (λ s. s) (type.Array low high of) (λ s. refl) grows_refl (λ s matches here. arr_does layout G (p.instructions.before + at) line below low high of index component stands.0 lasts injection memory s index_is component_is starts matches here) (omega (arith, enough)) (omega (arith, enough)) (omega (arith, enough)) (omega (arith, enough)))

  -- `TSet`, over the base type
  set_elaborates : (at : ℕ) (low high : ℤ) (base : ℕ) → IsTrue (is_ordinal low) → IsTrue (is_ordinal high) → (injection : Injection) (memory : MachineMemory) (below : List Operand) (d : ℕ) → least_credit ≤ d
      → IsLike memory.types base (type.Ordinal low high)
      → CodeStands G ps p references at (bare line op.T_SET ∷ [])
      → Fragment layout G Here n (point injection memory (p.instructions.before + at) (Word (pos base) ∷ below)) (elaborated call g unit (type.Set low high)) (p.instructions.before + at + 1) (λ a. Inside untouched injection memory (TypeOnTop (type.Set low high) below a)) d (λ a. d)
  set_elaborates at low high base from to injection memory below d enough base_is stands =
      fragment_less {n = suc n} (omega arith) (fragment_counted {weight = 0} 0 (with_type (type.Set low high)) (λ s. s) (type.Set low high) (λ s. refl) grows_refl (λ s matches here. set_does layout G (p.instructions.before + at) line below low high base from to stands.0 lasts injection memory s base_is matches here) (omega (arith, enough)) (omega (arith, enough)) (omega (arith, enough)) (omega (arith, enough)))

  -- `TRec`, over the types of the components
  record_elaborates : (at count : ℕ) (ts given : ComponentTypes) (injection : Injection) (memory : MachineMemory) (below pushed : List Operand) (d : ℕ) → least_credit ≤ d
      → TypesOnTop count ts below given injection memory pushed → CodeStands G ps p references at (instr op.T_REC (pos count) 0 line ∷ [])
      → Fragment layout G Here n (point injection memory (p.instructions.before + at) pushed) (elaborated call g unit (type.Record given)) (p.instructions.before + at + 1) (λ a. Inside untouched injection memory (TypeOnTop (type.Record ts) below a)) (d + 4 * count) (λ a. d + 4)
  record_elaborates at count ts given injection memory below pushed d enough top stands =
      let numbers : List ℕ = top.numbers in
      let has : slice_get G.instructions (p.instructions.before + at) ≡ Some (instr op.T_REC (pos (length numbers)) 0 line) = stands.0 ∙ ap (λ m. Some (instr op.T_REC (pos m) 0 line)) (sym top.many) in
      subst (λ o. Fragment layout G Here n (point injection memory (p.instructions.before + at) o) (elaborated call g unit (type.Record given)) (p.instructions.before + at + 1) (λ a. Inside untouched injection memory (TypeOnTop (type.Record ts) below a)) (d + 4 * count) (λ a. d + 4)) (sym top.is)
      (subst (λ us. Fragment layout G Here n (point injection memory (p.instructions.before + at) (stacked numbers below)) (elaborated call g unit (type.Record given)) (p.instructions.before + at + 1) (λ a. Inside untouched injection memory (TypeOnTop (type.Record us) below a)) (d + 4 * count) (λ a. d + 4)) top.types_are
      (fragment_less {n = suc n} (omega arith) (fragment_counted {weight = length numbers} 0 (with_type (type.Record given)) (λ s. s) (type.Record given) (λ s. refl) grows_refl (λ s matches here. rec_does layout G (p.instructions.before + at) line below numbers given has lasts injection memory s top.described top.starts matches here) (omega (arith, enough, top.many)) (omega arith) (omega (arith, enough, top.many)) (omega (arith, enough, top.many)))))

  module _ (types : List UnitType) (at_home : IsHome declared unit types) (among : AreAmong untouched (kept_slots layout G)) (kept : CallsAreKept declared layout G ps call n) (referred : AreReferred declared unit types references) (swap_referred : IsSwapReferred declared unit references) (arrays_referred : AreArraysReferred declared unit references) where
    -- a name, by a call of the routine that elaborates its type
    named_elaborates : (at index : ℕ) (t : TypeValue) → IsTyped types (Named index []) t → index < length types → IsElaborated at (instr op.CALL (pos (type_reference index)) 0 line ∷ []) t (call.named_type unit line index)
    named_elaborates at index t typed within stands injection memory below d enough home =
        let keeps : TypeKeeps layout G ps call n declared.first_private unit index t = type_kept kept unit types at_home index t typed in
        let place : ℕ = p.instructions.before + at in
        let calls : CallsAt G place keeps.routine 0 line =
        record { instruction = instr op.CALL (pos keeps.routine) 0 line; stands = stands.0 ∙ ap (λ i. Some i) (rw (referred index within) (keeps.placed (instr op.CALL (pos (type_reference index)) 0 line))); is_call = refl; names = refl; parent = refl; at_line = refl } in
        fragment_to (omega arith) (fragment_credit {d = 0} {e = λ a. type_credit} (omega arith) (λ a. omega arith)
        (type_follows lasts among place injection memory below (λ s. keeps.promise place line calls injection s memory below home)))

    -- the components behind the index type, and `TArr`
    then_component : (at : ℕ) (index component : Denoter) (below : List Operand) (d : ℕ) → least_credit ≤ d → (a : TypeValue) (longer : Injection) (after : MachineMemory) (pushed : List Operand) (i : TypeValue) (low high : ℤ) (of : TypeValue) → bare_of i ≡ type.Ordinal low high
        → (top : TypeOnTop i below a longer after pushed)
        → Fragment layout G Here n (point longer after (p.instructions.before + (at + length (type_code line index))) (Word (pos top.number) ∷ below)) (elaborate call g unit line component) (p.instructions.before + (at + length (type_code line index) + length (type_code line component))) (λ u. Inside untouched longer after (TypeOnTop of (Word (pos top.number) ∷ below) u)) (d + 4) (λ u. d + 4 + 4)
        → CodeStands G ps p references (at + length (type_code line index) + length (type_code line component)) (bare line op.T_ARR ∷ [])
        → at + length (type_code line index) + length (type_code line component) + 1 ≡ at + length (type_code line (Array index component))
        → Fragment layout G Here n (point longer after (p.instructions.before + (at + length (type_code line index))) pushed) (bind (elaborate call g unit line component) (λ u. elaborated_where call g unit (array_type (Some a) (Some u)))) (p.instructions.before + (at + length (type_code line (Array index component)))) (λ b. Inside untouched longer after (TypeOnTop (type.Array low high of) below b)) (d + 4) (λ b. d + 4)
    then_component at index component below d enough a longer after pushed i low high of over top follows stands ends =
        subst (λ o. Fragment layout G Here n (point longer after (p.instructions.before + (at + length (type_code line index))) o) (bind (elaborate call g unit line component) (λ u. elaborated_where call g unit (array_type (Some a) (Some u)))) (p.instructions.before + (at + length (type_code line (Array index component)))) (λ b. Inside untouched longer after (TypeOnTop (type.Array low high of) below b)) (d + 4) (λ b. d + 4)) (sym top.is)
        (subst (λ t. Fragment layout G Here n (point longer after (p.instructions.before + (at + length (type_code line index))) (Word (pos top.number) ∷ below)) (bind (elaborate call g unit line component) (λ u. elaborated_where call g unit (array_over (Some t) (Some u)))) (p.instructions.before + (at + length (type_code line (Array index component)))) (λ b. Inside untouched longer after (TypeOnTop (type.Array low high of) below b)) (d + 4) (λ b. d + 4)) (sym (over_given a i top.type_is (type.Ordinal low high) over))
        (inside_bind {e = λ u. d + 4 + 4} (λ u. steady_elaborated_where call steady_call g unit (array_over (Some (type.Ordinal low high)) (Some u))) follows
        (λ u last final above grown routine second.
        subst (λ o. Fragment layout G Here n (point last final (p.instructions.before + (at + length (type_code line index) + length (type_code line component))) o) (elaborated call g unit (type.Array low high u)) (p.instructions.before + (at + length (type_code line (Array index component)))) (λ b. Inside untouched last final (TypeOnTop (type.Array low high of) below b)) (d + 4 + 4) (λ b. d + 4)) (sym second.is)
        (subst (λ t. Fragment layout G Here n (point last final (p.instructions.before + (at + length (type_code line index) + length (type_code line component))) (Word (pos second.number) ∷ Word (pos top.number) ∷ below)) (elaborated call g unit (type.Array low high u)) (p.instructions.before + (at + length (type_code line (Array index component)))) (λ b. Inside untouched last final (TypeOnTop (type.Array low high t) below b)) (d + 4 + 4) (λ b. d + 4)) second.type_is
        (fragment_to (ap (λ k. p.instructions.before + k) ends) (fragment_to (omega arith) (fragment_credit {d = d + 4 + 4} {e = λ b. d + 4 + 4} (omega arith) (λ b. omega arith)
        (array_elaborates (at + length (type_code line index) + length (type_code line component)) low high u top.number second.number last final below (d + 4 + 4) (omega (arith, enough)) (a, over_given a i top.type_is (type.Ordinal low high) over, described-longer after.types final.types top.number a grown.types top.described) second.described second.starts stands))))))))

    -- the rest behind the first one of them
    then_rest : (at to : ℕ) (ds : Denoters) (below : List Operand) (d : ℕ) (a : TypeValue) (longer : Injection) (after : MachineMemory) (pushed : List Operand) (t : TypeValue) (ts : ComponentTypes)
        → (top : TypeOnTop t below a longer after pushed)
        → Fragment layout G Here n (point longer after at (Word (pos top.number) ∷ below)) (elaborate_each call g unit line ds) to (λ us. Inside untouched longer after (TypesOnTop (how_many ds) ts (Word (pos top.number) ∷ below) us)) (d + 4) (λ us. d + 4 + 4 * how_many ds)
        → Fragment layout G Here n (point longer after at pushed) (bind (elaborate_each call g unit line ds) (λ us. give (type.next_component a us))) to (λ b. Inside untouched longer after (TypesOnTop (suc (how_many ds)) (type.next_component t ts) below b)) (d + 4) (λ b. d + 4 * suc (how_many ds))
    then_rest at to ds below d a longer after pushed t ts top follows =
        subst (λ o. Fragment layout G Here n (point longer after at o) (bind (elaborate_each call g unit line ds) (λ us. give (type.next_component a us))) to (λ b. Inside untouched longer after (TypesOnTop (suc (how_many ds)) (type.next_component t ts) below b)) (d + 4) (λ b. d + 4 * suc (how_many ds))) (sym top.is)
        (inside_bind {e = λ us. d + 4 + 4 * how_many ds} (λ us. steady_give (type.next_component a us)) follows
        (λ us last final above grown routine rest.
        fragment_give (omega arith) (inside_here (record {
          types_are = λ k. type.next_component (top.type_is k) (rest.types_are k);
          numbers = top.number ∷ rest.numbers;
          many = ap suc rest.many;
          is = rest.is;
          described = (described-longer after.types final.types top.number a grown.types top.described, rest.described);
          starts = (top.starts, rest.starts);
        }))))

    -- denoters one after another, where they have these type values
    abbrev IsElaboratedEach : ℕ → Denoters → ComponentTypes → Type 0
    IsElaboratedEach at ds ts =
        CodeStands G ps p references at (each_code line ds)
        → (injection : Injection) (memory : MachineMemory) (below : List Operand) (d : ℕ) → least_credit ≤ d → unit_in G memory.frames ≡ unit
        → Fragment layout G Here n (point injection memory (p.instructions.before + at) below) (elaborate_each call g unit line ds) (p.instructions.before + (at + length (each_code line ds))) (λ a. Inside untouched injection memory (TypesOnTop (how_many ds) ts below a)) d (λ a. d + 4 * how_many ds)

    none_elaborate : (at : ℕ) → IsElaboratedEach at no_denoter type.no_component
    none_elaborate at stands injection memory below d enough home =
        fragment_to (omega arith) (fragment_give (omega arith) (inside_here (record { types_are = refl; numbers = []; many = refl; is = refl; described = tt; starts = tt })))

    mutual
      -- the machine follows the elaboration of a valid denoter through its code
      pub elaborates : (at : ℕ) (d : Denoter) (t : TypeValue) → IsTyped types d t → IsElaborated at (type_code line d) t (elaborate call g unit line d)
      elaborates at d t (required simple.Integer) = ordinal_elaborates at (neg_ℤ (pos maxint)) (pos maxint) refl
      elaborates at d t (required simple.Char) = ordinal_elaborates at (pos 0) (pos last_char) refl
      elaborates at d t (required simple.Boolean) = ordinal_elaborates at (pos 0) (pos 1) refl
      elaborates at d t (named index x there typed) = named_elaborates at index t (named index x there typed) (slice_get_within types index x there)
      elaborates at d t (subrange of low high h has within) = ordinal_elaborates at low high within.0
      elaborates at d t (enumeration first others fits) = ordinal_elaborates at (pos 0) (pos (length others)) (from_zero (length others))
      elaborates at d t (array index component i low high of first over second) = λ stands injection memory below d enough home.
          let xs : List Instr = type_code line index in
          let ys : List Instr = type_code line component in
          let rest : CodeStands G ps p references (at + length xs) (ys ++ bare line op.T_ARR ∷ []) = code_back G ps p references at xs (ys ++ bare line op.T_ARR ∷ []) stands in
          let ends : at + length xs + length ys + 1 ≡ at + length (xs ++ (ys ++ bare line op.T_ARR ∷ [])) = omega (arith, length-append xs (ys ++ bare line op.T_ARR ∷ []), length-append ys (bare line op.T_ARR ∷ [])) in
          inside_bind {e = λ a. d + 4} (λ a. steady_bind (steady_elaborate call steady_call g unit line component) (λ u. steady_elaborated_where call steady_call g unit (array_type (Some a) (Some u))))
          (elaborates at index i first (code_front G ps p references at xs (ys ++ bare line op.T_ARR ∷ []) stands) injection memory below d enough home)
          (λ a longer after pushed grown routine top.
          then_component at index component below d enough a longer after pushed i low high of over top
          (elaborates (at + length xs) component of second (code_front G ps p references (at + length xs) ys (bare line op.T_ARR ∷ []) rest) longer after (Word (pos top.number) ∷ below) (d + 4) (omega (arith, enough)) (unit_in-same G routine ∙ home))
          (code_back G ps p references (at + length xs) ys (bare line op.T_ARR ∷ []) rest) ends)
      elaborates at d t (components ds ts all) = λ stands injection memory below d enough home.
          let xs : List Instr = each_code line ds in
          let last : Instr = instr op.T_REC (pos (how_many ds)) 0 line in
          let ends : p.instructions.before + (at + length xs) + 1 ≡ p.instructions.before + (at + length (xs ++ last ∷ [])) = omega (arith, length-append xs (last ∷ [])) in
          inside_bind {e = λ us. d + 4 * how_many ds} (λ us. steady_elaborated call steady_call g unit (type.Record us))
          (each_elaborates at ds ts all (code_front G ps p references at xs (last ∷ []) stands) injection memory below d enough home)
          (λ us longer after pushed grown routine top.
          fragment_to ends (record_elaborates (at + length xs) (how_many ds) ts us longer after below pushed d enough top (code_back G ps p references at xs (last ∷ []) stands)))
      elaborates at d t (set base b low high typed over from upto) = λ stands injection memory below d enough home.
          let xs : List Instr = type_code line base in
          let last : Instr = bare line op.T_SET in
          let middle : ℕ = p.instructions.before + (at + length xs) in
          let end : ℕ = p.instructions.before + (at + length (xs ++ last ∷ [])) in
          let ends : middle + 1 ≡ end = omega (arith, length-append xs (last ∷ [])) in
          inside_bind {e = λ a. d + 4} (λ a. steady_elaborated_where call steady_call g unit (set_type (Some a)))
          (elaborates at base b typed (code_front G ps p references at xs (last ∷ []) stands) injection memory below d enough home)
          (λ a longer after pushed grown routine top.
          subst (λ o. Fragment layout G Here n (point longer after middle o) (elaborated_where call g unit (set_type (Some a))) end (λ c. Inside untouched longer after (TypeOnTop (type.Set low high) below c)) (d + 4) (λ c. d + 4)) (sym top.is)
          (subst (λ u. Fragment layout G Here n (point longer after middle (Word (pos top.number) ∷ below)) (elaborated_where call g unit (set_over (Some u))) end (λ c. Inside untouched longer after (TypeOnTop (type.Set low high) below c)) (d + 4) (λ c. d + 4)) (sym (over_given a b top.type_is (type.Ordinal low high) over))
          (fragment_to ends (set_elaborates (at + length xs) low high top.number from upto longer after below (d + 4) (omega (arith, enough)) (a, over_given a b top.type_is (type.Ordinal low high) over, top.described) (code_back G ps p references at xs (last ∷ []) stands)))))
      elaborates at d t (initial of value u typed fits) = λ stands injection memory below d enough home.
          let xs : List Instr = type_code line of in
          let ys : List Instr = start_code line value ++ bare line op.T_INIT ∷ [] in
          let ends : p.instructions.before + (at + length xs + length ys) ≡ p.instructions.before + (at + length (xs ++ ys)) = omega (arith, length-append xs ys) in
          inside_bind {e = λ a. d + 4} (λ a. steady_bind (steady_eval call steady_call g unit line value) (λ r. steady_begins_where call steady_call g unit line a r (start_from r)))
          (elaborates at of u typed (code_front G ps p references at xs ys stands) injection memory below d enough home)
          (λ a longer after pushed grown routine top.
          fragment_to ends (start_follows declared layout G untouched Here lasts among ps p references call steady_call n kept g unit line types at_home referred swap_referred arrays_referred (at + length xs) u value fits (code_back G ps p references at xs ys stands) longer after below pushed a (d + 4) (omega (arith, enough)) (unit_in-same G routine ∙ home) top))

      each_elaborates : (at : ℕ) (ds : Denoters) (ts : ComponentTypes) → AreTyped types ds ts → IsElaboratedEach at ds ts
      each_elaborates at ds ts none_typed = none_elaborate at
      each_elaborates at ds ts (next_typed e es t others first rest) = λ stands injection memory below d enough home.
          let xs : List Instr = type_code line e in
          let ys : List Instr = each_code line es in
          let ends : p.instructions.before + (at + length xs + length ys) ≡ p.instructions.before + (at + length (xs ++ ys)) = omega (arith, length-append xs ys) in
          inside_bind {e = λ a. d + 4} (λ a. steady_bind (steady_elaborate_each call steady_call g unit line es) (λ vs. steady_give (type.next_component a vs)))
          (elaborates at e t first (code_front G ps p references at xs ys stands) injection memory below d enough home)
          (λ a longer after pushed grown routine top.
          fragment_to ends (then_rest (p.instructions.before + (at + length xs)) (p.instructions.before + (at + length xs + length ys)) es below d a longer after pushed t others top
          (each_elaborates (at + length xs) es others rest (code_back G ps p references at xs ys stands) longer after (Word (pos top.number) ∷ below) (d + 4) (omega (arith, enough)) (unit_in-same G routine ∙ home))))
