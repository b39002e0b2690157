-- Arguments that lie in the frame of a call until its routine takes them.
use Rattle.std.proofs.Common.{◌≡◌, ℕ, suc, ◌+◌, ◌-◌, ◌≤◌, ◌<◌, List, [], ◌∷◌, ◌++◌, map, length, length-append, Option, Some, None, slice_get, slice_set, refl, sym, ap, ◌∙◌, subst, append_assoc, arith}
use Rattle.std.proofs.lemmas.List.{length-map}
use Rattle.std.specs.Prelude.{⊤}
use Rattle.ep_object.specs.Calls.{argument_at, flat}
use Rattle.ep_simulation.specs.Matching.{MachineMemory, Injection, Slots, Grown, IsBare}
use Rattle.ep_simulation.specs.Follows.{OnTop}
use Rattle.ep_object.specs.Operands.{Operand, Set, Text, Word, weight, weights}
use Rattle.ep_simulation.specs.Promises.{Passing, ByValue, ByReference, IsArgument, AreArguments, IsValueOf}
use Rattle.ep_object.specs.State.{Frame}
use Rattle.ep_object.proofs.public.Elements.{length-set, slice_get-set-other}
use Rattle.ep_simulation.proofs.public.matching.MoreMemory.{bare-longer, describes-grown, is_spot-grown}
use Rattle.ep_meaning.specs.Calls.{Argument, Value, Variable}
use Rattle.ep_simulation.proofs.matching.Words.{has_at-longer}
use Rattle.ep_meaning.specs.Meaning.{weights_of}
use Rattle.ep_values.specs.Printing.{Result}
use Rattle.ep_meaning.specs.Results.{weight_of}
use Rattle.ep_meaning.specs.Valid as kind
use Rattle.ep_meaning.specs.Valid.{ValueKind}

-- the arguments in the frame of the innermost call
abbrev pub arguments_in : List Frame → List (Option Operand)
arguments_in [] = []
arguments_in (c ∷ calls) = c.arguments

-- those of these formal parameters are there, of which the first has this number
abbrev pub AreAwaited : Injection → MachineMemory → List Passing → List Argument → ℕ → List (Option Operand) → Type 0
AreAwaited injection memory [] [] k inside = ⊤
AreAwaited injection memory [] (x ∷ xs) k inside = ⊥
AreAwaited injection memory (f ∷ fs) [] k inside = ⊥
AreAwaited injection memory (f ∷ fs) (x ∷ xs) k inside =
    (o : Operand) × (argument_at inside k ≡ Some o) × (suc k ≤ length inside) × IsArgument injection memory f x o × AreAwaited injection memory fs xs (suc k) inside

-- ---- what lasts

-- a value is one while memory grows
pub value-grown : {untouched : Slots} {injection longer : Injection} {memory after : MachineMemory} (k : ValueKind) (r : Result) (o : Operand)
    → Grown untouched injection memory longer after → IsValueOf injection memory k r o → IsValueOf longer after k r o
value-grown (kind.Ordinal h) r o g v = v
value-grown kind.Bytes r o g v = v
value-grown (kind.Set h) r o g v = v
value-grown {memory = memory} {after = after} (kind.Structured t) r o g v =
    record { value = v.value; is_structure = v.is_structure; type_number = v.type_number; words = v.words; is = v.is; bare = v.bare; described = bare-longer memory.types after.types v.type_number t g.types v.described; sized = v.sized; holds = has_at-longer g.larger t v.value (slice_get v.words) 0 v.holds }

-- and in whatever memory has the same types
pub value_anywhere : (injection : Injection) (memory later : MachineMemory) → later.types ≡ memory.types → (k : ValueKind) (r : Result) (o : Operand)
    → IsValueOf injection memory k r o → IsValueOf injection later k r o
value_anywhere injection memory later same (kind.Ordinal h) r o v = v
value_anywhere injection memory later same kind.Bytes r o v = v
value_anywhere injection memory later same (kind.Set h) r o v = v
value_anywhere injection memory later same (kind.Structured t) r o v =
    record { value = v.value; is_structure = v.is_structure; type_number = v.type_number; words = v.words; is = v.is; bare = v.bare; described = subst (λ types. IsBare types v.type_number t) (sym same) v.described; sized = v.sized; holds = v.holds }

-- it has the weight of the result
pub value_weight : (injection : Injection) (memory : MachineMemory) (k : ValueKind) (r : Result) (o : Operand) → IsValueOf injection memory k r o → weight o ≡ weight_of r
value_weight injection memory (kind.Ordinal h) r o (z, r_is, of_host, o_is) = ap (λ x. weight x) o_is ∙ sym (ap weight_of r_is)
value_weight injection memory kind.Bytes r o (bytes, r_is, o_is) = ap (λ x. weight x) o_is ∙ sym (ap weight_of r_is)
value_weight injection memory (kind.Set h) r o (ms, r_is, is_set, o_is) = ap (λ x. weight x) o_is ∙ sym (ap weight_of r_is)
value_weight injection memory (kind.Structured t) r o v = ap (λ x. weight x) v.is ∙ (v.sized ∙ sym (ap weight_of v.is_structure))

-- what lies on top as a result of the kind is its value
pub value_on_top : (k : ValueKind) (below : List Operand) (r : Result) (injection : Injection) (memory : MachineMemory) (operands : List Operand)
    → OnTop k below r injection memory operands → (o : Operand) × IsValueOf injection memory k r o × (operands ≡ o ∷ below)
value_on_top (kind.Ordinal h) below r injection memory operands top = (Word top.number, (top.number, top.is_number, top.of_host, refl), top.is)
value_on_top kind.Bytes below r injection memory operands top = (Text top.bytes, (top.bytes, top.is_text, refl), top.is)
value_on_top (kind.Set h) below r injection memory operands top = (Set top.members, (top.members, top.is_members, top.is_set, refl), top.is)
value_on_top (kind.Structured t) below r injection memory operands top = (top.operand, top.holds, top.is)

pub on_top : (k : ValueKind) (below : List Operand) (r : Result) (o : Operand) (injection : Injection) (memory : MachineMemory) (operands : List Operand)
    → IsValueOf injection memory k r o → operands ≡ o ∷ below → OnTop k below r injection memory operands
on_top (kind.Ordinal h) below r o injection memory operands (z, r_is, of_host, o_is) is =
    record { number = z; is_number = r_is; of_host = of_host; is = is ∙ ap (λ x. x ∷ below) o_is }
on_top kind.Bytes below r o injection memory operands (bytes, r_is, o_is) is = record { bytes = bytes; is_text = r_is; is = is ∙ ap (λ x. x ∷ below) o_is }
on_top (kind.Set h) below r o injection memory operands (ms, r_is, is_set, o_is) is =
    record { members = ms; is_members = r_is; is_set = is_set; is = is ∙ ap (λ x. x ∷ below) o_is }
on_top (kind.Structured t) below r o injection memory operands v is = record { operand = o; holds = v; is = is }

-- an argument is one while memory grows
pub is_argument-grown : {untouched : Slots} {injection longer : Injection} {memory after : MachineMemory} (f : Passing) (x : Argument) (o : Operand)
    → Grown untouched injection memory longer after → IsArgument injection memory f x o → IsArgument longer after f x o
is_argument-grown {injection = injection} {longer = longer} {memory = memory} {after = after} (ByValue k) (Value r) o g h = value-grown k r o g h
is_argument-grown (ByValue k) (Variable n) o g h = h
is_argument-grown (ByReference t) (Value r) o g h = h
is_argument-grown (ByReference t) (Variable n) o g (p, is, spot, described) = (p, is, is_spot-grown g spot, describes-grown p.type_number t g described)

pub awaited-grown : {untouched : Slots} {injection longer : Injection} {memory after : MachineMemory} → Grown untouched injection memory longer after
    → (fs : List Passing) (xs : List Argument) (k : ℕ) (inside : List (Option Operand)) → AreAwaited injection memory fs xs k inside → AreAwaited longer after fs xs k inside
awaited-grown g [] [] k inside h = tt
awaited-grown g [] (x ∷ xs) k inside h = h
awaited-grown g (f ∷ fs) [] k inside h = h
awaited-grown g (f ∷ fs) (x ∷ xs) k inside (o, there, within, is, rest) = (o, there, within, is_argument-grown f x o g is, awaited-grown g fs xs (suc k) inside rest)

-- the arguments without the one of this number
abbrev pub without_argument : ℕ → List (Option Operand) → List (Option Operand)
without_argument k inside = slice_set inside (length inside - suc k) None

-- the later ones stay where one is taken
pub awaited-taken : (injection : Injection) (memory : MachineMemory) (k : ℕ) (inside : List (Option Operand)) → suc k ≤ length inside
    → (fs : List Passing) (xs : List Argument) (j : ℕ) → k < j → AreAwaited injection memory fs xs j inside → AreAwaited injection memory fs xs j (without_argument k inside)
awaited-taken injection memory k inside le [] [] j later h = tt
awaited-taken injection memory k inside le [] (x ∷ xs) j later h = h
awaited-taken injection memory k inside le (f ∷ fs) [] j later h = h
awaited-taken injection memory k inside le (f ∷ fs) (x ∷ xs) j later (o, there, within, is, rest) =
    let many : length (without_argument k inside) ≡ length inside = length-set inside (length inside - suc k) None in
    let apart : (length inside - suc k ≡ length inside - suc j → ⊥) = λ e. absurd (omega (arith, e, le, within, later)) in
    (o, ap (λ n. flat (slice_get (without_argument k inside) (n - suc j))) many ∙ (ap flat (slice_get-set-other inside (length inside - suc k) (length inside - suc j) None apart) ∙ there), omega (arith, many, within), is, awaited-taken injection memory k inside le fs xs (suc j) (omega (arith, later)) rest)

-- ---- arguments that are handed over

-- an argument weighs what its value does
abbrev pub argument_weight : Argument → ℕ
argument_weight (Value r) = weight_of r
argument_weight (Variable c) = 0

weighs : (injection : Injection) (memory : MachineMemory) (f : Passing) (x : Argument) (o : Operand) → IsArgument injection memory f x o → weight o ≡ argument_weight x
weighs injection memory (ByValue k) (Value r) o is = value_weight injection memory k r o is
weighs injection memory (ByValue k) (Variable n) o is = absurd is
weighs injection memory (ByReference t) (Value r) o is = absurd is
weighs injection memory (ByReference t) (Variable n) o (p, is, spot, described) = ap (λ y. weight y) is

weights_first : (x : Argument) (xs : List Argument) → weights_of (x ∷ xs) ≡ argument_weight x + weights_of xs
weights_first (Value r) xs = refl
weights_first (Variable c) xs = omega arith

-- the operand in the middle of arguments
at_middle : (xs ys : List Operand) (o : Operand) → slice_get (map Some (xs ++ o ∷ ys)) (length xs) ≡ Some (Some o)
at_middle [] ys o = refl
at_middle (x ∷ xs) ys o = at_middle xs ys o

weights-last : (xs : List Operand) (o : Operand) → weights (xs ++ o ∷ []) ≡ weights xs + weight o
weights-last [] o = omega arith
weights-last (x ∷ xs) o = let rest = weights-last xs o in omega (arith, rest)

-- the operands of arguments, the last one on top, and that they are awaited once they lie in the frame
pub record Handed (injection : Injection) (memory : MachineMemory) (formals : List Passing) (xs : List Argument) (below operands : List Operand) : Type 0 where
  pub top : List Operand
  pub is : operands ≡ top ++ below
  pub many : length top ≡ length formals
  pub weigh : weights top ≡ weights_of xs
  pub awaited : (k : ℕ) (rest : List Operand) → length rest ≡ k → AreAwaited injection memory formals xs k (map Some (top ++ rest))

pub handed : (injection : Injection) (memory : MachineMemory) (formals : List Passing) (xs : List Argument) (below operands : List Operand)
    → AreArguments injection memory formals xs below operands → Handed injection memory formals xs below operands
handed injection memory [] [] below operands h = record { top = []; is = h; many = refl; weigh = refl; awaited = λ k rest e. tt }
handed injection memory [] (x ∷ xs) below operands h = absurd h
handed injection memory (f ∷ fs) [] below operands h = absurd h
handed injection memory (f ∷ fs) (x ∷ xs) below operands (o, is, rest_are) =
    let later = handed injection memory fs xs (o ∷ below) operands rest_are in
    let top : List Operand = later.top ++ o ∷ [] in
    record {
      top = top;
      is = later.is ∙ sym (append_assoc later.top (o ∷ []) below);
      many = omega (arith, later.many, length-append later.top (o ∷ []));
      weigh = omega (arith, weights-last later.top o, weighs injection memory f x o is, later.weigh, weights_first x xs);
      awaited = λ k rest e.
          let same : (later.top ++ o ∷ []) ++ rest ≡ later.top ++ o ∷ rest = append_assoc later.top (o ∷ []) rest in
          let inside : List (Option Operand) = map Some (later.top ++ o ∷ rest) in
          let size : length inside ≡ length later.top + suc k = omega (arith, length-map (later.top ++ o ∷ rest) Some, length-append later.top (o ∷ rest), e) in
          let place : length inside - suc k ≡ length later.top = omega (arith, size) in
          subst (λ l. AreAwaited injection memory (f ∷ fs) (x ∷ xs) k (map Some l)) (sym same)
          (o, ap (λ n. flat (slice_get inside n)) place ∙ ap flat (at_middle later.top rest o), omega (arith, size), is, later.awaited (suc k) (o ∷ rest) (ap suc e));
    }
