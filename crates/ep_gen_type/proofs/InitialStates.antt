-- The machine follows initial states of types: the constant, and then `TInit` over the type and its value.
use Rattle.std.proofs.Common.{◌≡◌, ℕ, pos, suc, ◌+◌, ◌-◌, ◌≤◌, ◌<◌, List, [], ◌∷◌, ◌++◌, length, length-append, Some, refl, sym, ap, ◌∙◌, subst, arith}
use Rattle.ep_gen_code.specs.Instructions.{bare}
use Rattle.ep_gen_code.specs.Credit.{least_credit}
use Rattle.ep_gen_code.specs.Referring.{AreReferred, AreArraysReferred, IsSwapReferred}
use Rattle.ep_gen_code.proofs.public.Constants.{set_follows, word_follows}
use Rattle.ep_gen_code.proofs.public.Placed.{code_back, code_front}
use Rattle.ep_gen_expr.specs.ExprCode.{end_code, first_code, ranges_code, reach_code, same_code}
use Rattle.ep_gen_expr.proofs.public.Answering.{IsFollowed}
use Rattle.ep_gen_expr.proofs.public.FilledRanges.{at_ranges_follow}
use Rattle.ep_gen_expr.proofs.public.SameFields.{same_field_follows}
use Rattle.ep_gen_expr.proofs.public.StructuredValues.{AreElementsFollowed, at_field_follows, next_element_follows, no_element_follows}
use Rattle.ep_gen_expr.proofs.public.WholeStructures.{named_within, structured_spares, structured_follows}
use Rattle.ep_gen_type.specs.TypeCode.{parts_code, start_code}
use Rattle.ep_simulation.proofs.public.following.Kept.{IsHome, arrays_kept, swap_kept}
use Rattle.ep_simulation.specs.Follows.{point, Facts, Lasts, Fragment, Inside, IsStructure, TypeOnTop}
use Rattle.ep_simulation.specs.Layouts.{Layout}
use Rattle.ep_simulation.specs.Matching.{AreAmong, Describes, Matches, Slots, MachineMemory, Injection, kept_slots}
use Rattle.ep_object.specs.Operands.{Operand, Word, weight}
use Rattle.ep_object.specs.Operands as operand
use Rattle.ep_object.specs.Placing.{Placement, CodeStands}
use Rattle.ep_simulation.specs.Promises.{CallsAreKept}
use Rattle.ep_object.specs.Runs.{unit_in}
use Rattle.ep_object.specs.declared.code.Image.{Image}
use Rattle.ep_object.specs.declared.code.Instr.{Instr}
use Rattle.ep_object.specs.declared.code.Reference.{Reference}
use Rattle.ep_object.specs.declared.op.TheConstants as op
use Rattle.ep_simulation.proofs.public.following.Fragments.{inside_bind, fragment_credit, fragment_post, fragment_to}
use Rattle.ep_simulation.proofs.public.matching.Awaiting.{value_weight}
use Rattle.ep_simulation.proofs.public.matching.MoreMemory.{described-longer, unit_in-same}
use Rattle.ep_simulation.proofs.public.rows.InitialRow.{IsTried, init_follows, set_begins, value_begins, word_begins}
use Rattle.ep_meaning.specs.Steady.{IsSteadyHandler}
use Rattle.ep_meaning.specs.Calls.{Handler}
use Rattle.ep_meaning.proofs.public.Bares.{bare_size}
use Rattle.ep_meaning.proofs.public.Steady.{steady_begins_where}
use Rattle.ep_meaning.proofs.public.Typed.{typed_bare, typed_value}
use Rattle.ep_meaning.specs.Meaning.{begins_where, eval}
use Rattle.ep_values.specs.Printing.{Result}
use Rattle.ep_meaning.specs.Results.{start_from, start_in, weight_of}
use Rattle.ep_meaning.specs.Steps.{bind}
use Rattle.ep_meaning.specs.Steps as meaning
use Rattle.ep_typed.specs.Trees.{AtField, AtRanges, Elements, Expr, Named, SameField}
use Rattle.ep_typed.specs.Trees as tree
use Rattle.ep_values.specs.TypeValues.{Start, TypeValue, bare_of, size_of}
use Rattle.ep_values.specs.TypeValues as type
use Rattle.ep_meaning.specs.Valid.{AreStartsFor, Declarations, IsStartFor, IsStructured, IsTyped, IsTypeOfKind, ValueKind, Ordinal, Structured, field_given, none_given, ranges_given, same_given, set_start, structured_start, word_start}
use Rattle.ep_meaning.specs.Valid as kind
use Rattle.ep_typed.specs.declared.unit.UnitType.{UnitType}

-- the kind of a constant that may be the initial state of a type
abbrev start_kind : (types : List UnitType) (t : TypeValue) (v : Expr) → IsStartFor types t v → (k : ValueKind) × IsTypeOfKind k t
start_kind types t v (word_start low high h w bounds of_host) = (Ordinal h, bounds)
start_kind types t v (set_start low high h ms base is_set between) = (kind.Set h, base)
start_kind types t v (structured_start of t2 es found typed structured parts) = (Structured t2, (refl, structured))

module _ (declared : Declarations) (layout : Layout) (G : Image) (untouched : Slots) (Here : Facts) (lasts : Lasts untouched Here) (among : AreAmong untouched (kept_slots layout G)) (ps : List Placement) (p : Placement) (references : List Reference) (call : Handler) (steady_call : IsSteadyHandler call) (n : ℕ) (kept : CallsAreKept declared layout G ps call n) (g : ℕ) (unit : List ℕ) (line : ℕ) (types : List UnitType) (at_home : IsHome declared unit types) (referred : AreReferred declared unit types references) (swap_referred : IsSwapReferred declared unit references) (arrays_referred : AreArraysReferred declared unit references) where
  -- a unit that has a type has types
  some_types : (number : ℕ) (t : TypeValue) → IsTyped types (Named number []) t → 0 < length types
  some_types number t typed = let within : number < length types = named_within types number t typed in omega (arith, within)

  -- where the code of the components stands
  inner : (of : ℕ) (es : Elements) (at : ℕ) → CodeStands G ps p references at (start_code line (tree.Structured of es)) → CodeStands G ps p references (at + 4) (parts_code line es)
  inner of es at stands =
      code_front G ps p references (at + 4) (parts_code line es) (end_code line)
      (subst (λ i. CodeStands G ps p references i (parts_code line es ++ end_code line)) {x = at + 1 + 1 + 1 + 1} {y = at + 4} (omega arith) stands.1.1.1.1)

  of_bare : (t : TypeValue) {number : ℕ} → IsTyped types (Named number []) t → (es : Elements) (at : ℕ) → CodeStands G ps p references at (start_code line (tree.Structured number es))
      → AreElementsFollowed layout G untouched Here lasts ps p references call steady_call g unit line n t es (at + 4) (parts_code line es)
      → AreElementsFollowed layout G untouched Here lasts ps p references call steady_call g unit line n (bare_of t) es (at + 4) (parts_code line es)
  of_bare t {number} typed es at stands h =
      subst (λ u. AreElementsFollowed layout G untouched Here lasts ps p references call steady_call g unit line n u es (at + 4) (parts_code line es)) (sym (typed_bare types (Named number []) t typed)) h

  mutual
    -- the machine follows a constant that may be an initial state
    constant_follows : (t : TypeValue) (v : Expr) (h : IsStartFor types t v) (at : ℕ) → CodeStands G ps p references at (start_code line v)
        → IsFollowed layout G untouched Here p call g unit n (start_kind types t v h).0 v line at (start_code line v)
    constant_follows t v (word_start low high h w bounds of_host) at stands injection memory below d enough home =
        fragment_post (λ r longer after pushed i. record { grown = i.grown; routine = i.routine; operands_are = record { number = w; is_number = (i.operands_are).0; of_host = of_host; is = (i.operands_are).1 } })
        (word_follows ps p references call g unit line n w at stands injection memory below d)
    constant_follows t v (set_start low high h ms base is_set between) at stands injection memory below d enough home =
        fragment_post (λ r longer after pushed i. record { grown = i.grown; routine = i.routine; operands_are = record { members = ms; is_members = (i.operands_are).0; is_set = is_set; is = (i.operands_are).1 } })
        (fragment_to (omega arith) (set_follows ps p references call g unit line n ms is_set at stands injection memory below d))
    constant_follows t v (structured_start of t2 es found typed structured parts) at stands injection memory below d enough home =
        subst (λ u. IsFollowed layout G untouched Here p call g unit n (Structured u) (tree.Structured of es) line at (start_code line (tree.Structured of es))) (typed_bare types (Named of []) t2 typed)
        (structured_follows declared layout G untouched Here lasts among ps p references call steady_call n kept g unit line types at_home referred swap_referred of t2 typed
        (subst IsStructured (sym (typed_bare types (Named of []) t2 typed)) structured) es at (parts_code line es)
        (of_bare t2 typed es at stands (parts_follow t2 es parts (some_types of t2 typed) (at + 4) (inner of es at stands))) stands) injection memory below d enough home

    -- and what components are given that are such constants
    parts_follow : (t : TypeValue) (es : Elements) → AreStartsFor types t es → 0 < length types → (at : ℕ) → CodeStands G ps p references at (parts_code line es)
        → AreElementsFollowed layout G untouched Here lasts ps p references call steady_call g unit line n t es at (parts_code line es)
    parts_follow t es (none_given u) some at stands = no_element_follows layout G untouched Here lasts ps p references call steady_call g unit line n t at [] refl
    parts_follow t es (ranges_given low high h of [] v more bounds has within its rest) some at stands = absurd has
    parts_follow t es (ranges_given low high h of (r ∷ rs) v more bounds has within its rest) some at stands =
        let first : List Instr = first_code line (r ∷ rs) in
        let xs : List Instr = start_code line v in
        let behind : List Instr = bare line op.STORE ∷ ranges_code line r.low (r ∷ rs) in
        let one : List Instr = first ++ (xs ++ behind) in
        let here : CodeStands G ps p references at one = code_front G ps p references at one (parts_code line more) stands in
        let k = start_kind types of v its in
        next_element_follows layout G untouched Here lasts ps p references call steady_call g unit line n (type.Array low high of) (AtRanges (r ∷ rs) v) more at one (parts_code line more) (one ++ parts_code line more) refl
        (at_ranges_follow declared layout G untouched Here lasts ps p references call steady_call g unit line n (let arrays = arrays_kept kept unit types at_home some in arrays.fill) arrays_referred.fill low high bounds.3 bounds.4 of k.0 k.1 r rs within v at xs
        (constant_follows of v its (at + 3) (code_front G ps p references (at + 3) xs behind (code_back G ps p references at first (xs ++ behind) here))) here)
        (parts_follow (type.Array low high of) more rest some (at + length one) (code_back G ps p references at one (parts_code line more) stands))
    parts_follow t es (field_given ts steps of v more leads its rest) some at stands =
        let first : List Instr = reach_code line steps in
        let xs : List Instr = start_code line v in
        let behind : List Instr = bare line op.STORE ∷ [] in
        let one : List Instr = first ++ (xs ++ behind) in
        let here : CodeStands G ps p references at one = code_front G ps p references at one (parts_code line more) stands in
        let k = start_kind types of v its in
        next_element_follows layout G untouched Here lasts ps p references call steady_call g unit line n (type.Record ts) (AtField steps v) more at one (parts_code line more) (one ++ parts_code line more) refl
        (at_field_follows layout G untouched Here lasts ps p references call steady_call g unit line n ts of k.0 steps v leads k.1 at xs
        (constant_follows of v its (at + length first) (code_front G ps p references (at + length first) xs behind (code_back G ps p references at first (xs ++ behind) here))) here)
        (parts_follow (type.Record ts) more rest some (at + length one) (code_back G ps p references at one (parts_code line more) stands))
    parts_follow t es (same_given ts from to k more source goal rest) some at stands =
        let one : List Instr = same_code line from to in
        next_element_follows layout G untouched Here lasts ps p references call steady_call g unit line n (type.Record ts) (SameField from to) more at one (parts_code line more) (one ++ parts_code line more) refl
        (same_field_follows declared layout G untouched Here lasts ps p references call steady_call g unit line n (swap_kept kept unit types at_home some) swap_referred ts from to k source goal at (code_front G ps p references at one (parts_code line more) stands))
        (parts_follow (type.Record ts) more rest some (at + length one) (code_back G ps p references at one (parts_code line more) stands))

  -- A result is given that may be tried as the initial state of a type, and its operand is on top of the type's number.
  record GivenStart (a : TypeValue) (number : ℕ) (below : List Operand) (q : Result) (injection : Injection) (memory : MachineMemory) (operands : List Operand) : Type 0 where
    x : Operand
    is : operands ≡ x ∷ Word (pos number) ∷ below
    weighs : weight x ≡ weight_of q
    start : Start
    from : start_from q ≡ Some start
    tried : (d : Describes memory.types number a) (s : meaning.State) → Matches layout G injection s memory → IsTried memory.types number a d.kind d.bare q x

  -- The machine follows a constant, of a type but for initial states, to what may be tried, with credit for the words of the type.
  record IsTriedBehind (a : TypeValue) (number : ℕ) (v : Expr) (at : ℕ) (injection : Injection) (memory : MachineMemory) (below : List Operand) (d : ℕ) : Type 0 where
    extra : ℕ
    enough : suc (size_of a) ≤ d + 8 + extra
    follows : Fragment layout G Here n (point injection memory (p.instructions.before + at) (Word (pos number) ∷ below)) (eval call g unit line v) (p.instructions.before + (at + length (start_code line v)))
        (λ q. Inside untouched injection memory (GivenStart a number below q)) d (λ q. d + 8 + extra + weight_of q)

  value_follows : (t a : TypeValue) (number : ℕ) → bare_of a ≡ t → (v : Expr) → IsStartFor types t v → (at : ℕ) → CodeStands G ps p references at (start_code line v)
      → (injection : Injection) (memory : MachineMemory) (below : List Operand) (d : ℕ) → least_credit ≤ d → unit_in G memory.frames ≡ unit → IsTriedBehind a number v at injection memory below d
  value_follows t a number over v (word_start low high h w bounds of_host) at stands injection memory below d least home =
      let size : size_of a ≡ 1 = sym (bare_size a) ∙ ap size_of over in
      record {
        extra = 0;
        enough = omega (arith, size, least);
        follows =
            fragment_credit {d = d} {e = λ q. d + 8 + weight_of q} (omega arith) (λ q. omega arith)
            (fragment_post (λ q longer after pushed i. record {
              grown = i.grown;
              routine = i.routine;
              operands_are = record {
                x = Word w;
                is = (i.operands_are).1;
                weighs = ap weight_of (sym (i.operands_are).0);
                start = type.simple_start w;
                from = ap start_from (i.operands_are).0;
                tried = λ e s matches. subst (λ r. IsTried after.types number a e.kind e.bare r (Word w)) (sym (i.operands_are).0) (word_begins after.types number a low high w over e);
              };
            })
            (word_follows ps p references call g unit line n w at stands injection memory (Word (pos number) ∷ below) d));
      }
  value_follows t a number over v (set_start low high h ms base is_set between) at stands injection memory below d least home =
      let size : size_of a ≡ type.set_size = sym (bare_size a) ∙ ap size_of over in
      record {
        extra = 0;
        enough = omega (arith, size, least);
        follows =
            fragment_credit {d = d} {e = λ q. d + 8 + weight_of q} (omega arith) (λ q. omega arith)
            (fragment_post (λ q longer after pushed i. record {
              grown = i.grown;
              routine = i.routine;
              operands_are = record {
                x = operand.Set ms;
                is = (i.operands_are).1;
                weighs = ap weight_of (sym (i.operands_are).0);
                start = type.set_start ms;
                from = ap start_from (i.operands_are).0;
                tried = λ e s matches. subst (λ r. IsTried after.types number a e.kind e.bare r (operand.Set ms)) (sym (i.operands_are).0) (set_begins after.types number a low high ms is_set over e);
              };
            })
            (fragment_to (omega arith) (set_follows ps p references call g unit line n ms is_set at stands injection memory (Word (pos number) ∷ below) d)));
      }
  value_follows t a number over v (structured_start of t2 es found typed structured parts) at stands injection memory below d least home =
      let bare_is : bare_of t2 ≡ t2 = typed_bare types (Named of []) t2 typed in
      let sizes : size_of (bare_of t2) ≡ size_of a = ap size_of (bare_is ∙ sym over) ∙ bare_size a in
      record {
        extra = size_of a;
        enough = omega (arith, least);
        follows =
            fragment_post (λ q longer after pushed i.
            let top = i.operands_are in
            let holds = subst (λ u. IsStructure u q longer after top.operand) bare_is top.holds in
            record {
              grown = i.grown;
              routine = i.routine;
              operands_are = record {
                x = top.operand;
                is = top.is;
                weighs = value_weight longer after (Structured t2) q top.operand holds;
                start = start_in t2 holds.value;
                from = ap start_from holds.is_structure;
                tried = λ e s matches. value_begins after.types number a longer after t2 q top.operand refl matches.types over structured (typed_value types (Named of []) t2 typed) holds e;
              };
            })
            (structured_spares declared layout G untouched Here lasts among ps p references call steady_call n kept g unit line types at_home referred swap_referred of t2 typed
            (subst IsStructured (sym bare_is) structured) es at (parts_code line es)
            (of_bare t2 typed es at stands (parts_follow t2 es parts (some_types of t2 typed) (at + 4) (inner of es at stands))) stands (size_of a) (omega (arith, sizes)) injection memory (Word (pos number) ∷ below) d least home);
      }

  -- the value of a valid initial state over its type, and the type with it
  pub start_follows : (at : ℕ) (t : TypeValue) (v : Expr) → IsStartFor types t v → CodeStands G ps p references at (start_code line v ++ bare line op.T_INIT ∷ [])
      → (injection : Injection) (memory : MachineMemory) (below pushed : List Operand) (a : TypeValue) (d : ℕ) → least_credit ≤ d → unit_in G memory.frames ≡ unit
      → TypeOnTop t below a injection memory pushed
      → Fragment layout G Here n (point injection memory (p.instructions.before + at) pushed) (bind (eval call g unit line v) (λ q. begins_where call g unit line a q (start_from q))) (p.instructions.before + (at + length (start_code line v ++ bare line op.T_INIT ∷ []))) (λ b. Inside untouched injection memory (TypeOnTop t below b)) d (λ b. d)
  start_follows at t v fits stands injection memory below pushed a d least home top =
      let value : IsTriedBehind a top.number v at injection memory below d = value_follows t a top.number top.type_is v fits at (code_front G ps p references at (start_code line v) (bare line op.T_INIT ∷ []) stands) injection memory below d least home in
      let extra : ℕ = value.extra in
      let enough : suc (size_of a) ≤ d + 8 + extra = value.enough in
      subst (λ o. Fragment layout G Here n (point injection memory (p.instructions.before + at) o) (bind (eval call g unit line v) (λ q. begins_where call g unit line a q (start_from q))) end (λ b. Inside untouched injection memory (TypeOnTop t below b)) d (λ b. d)) (sym top.is)
      (inside_bind {First = GivenStart a top.number below} {e = λ q. d + 8 + extra + weight_of q} (λ q. steady_begins_where call steady_call g unit line a q (start_from q)) value.follows
      (λ q longer after operands grown routine given.
      let described : Describes after.types top.number a = described-longer memory.types after.types top.number a grown.types top.described in
      subst (λ o. Fragment layout G Here n (point longer after middle o) (begins_where call g unit line a q (start_from q)) end (λ b. Inside untouched longer after (TypeOnTop t below b)) (d + 8 + extra + weight_of q) (λ b. d)) (sym given.is)
      (subst (λ u. Fragment layout G Here n (point longer after middle (given.x ∷ Word (pos top.number) ∷ below)) (begins_where call g unit line a q (start_from q)) end (λ b. Inside untouched longer after (TypeOnTop u below b)) (d + 8 + extra + weight_of q) (λ b. d)) top.type_is
      (fragment_to ends (fragment_credit {d = d + 8 + extra + weight_of q} {e = λ b. d + 8 + extra + weight_of q - weight given.x} (omega arith) (λ b. omega (arith, given.weighs))
      (init_follows layout G middle line below a top.number q given.x last.0 call g unit lasts longer after (unit_in-same G routine ∙ home) described top.starts given.start given.from (given.tried described) n (d + 8 + extra + weight_of q) (omega (arith, enough, given.weighs))))))))
    where
      middle : ℕ
      middle = p.instructions.before + (at + length (start_code line v))

      end : ℕ
      end = p.instructions.before + (at + length (start_code line v ++ bare line op.T_INIT ∷ []))

      ends : middle + 1 ≡ end
      ends = omega (arith, length-append (start_code line v) (bare line op.T_INIT ∷ []))

      last : CodeStands G ps p references (at + length (start_code line v)) (bare line op.T_INIT ∷ [])
      last = code_back G ps p references at (start_code line v) (bare line op.T_INIT ∷ []) stands
