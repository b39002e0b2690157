-- How `TInit` follows a type that gets its initial state, which may be refused (ISO 10206, 6.6).
use Rattle.std.proofs.Common.{◌≡◌, ℕ, ℤ, pos, suc, ◌+◌, ◌-◌, ◌≤◌, Bool, true, false, List, [], ◌∷◌, Some, Option, cond, slice_get, refl, sym, ap, ◌∙◌, subst, arith}
use Rattle.std.specs.Prelude.{◌==◌, if◌then◌else◌}
use Rattle.std.proofs.lemmas.Bool.Decides.{nat_tests}
use Rattle.ep_object.specs.Effects.{Continues, Effect, Fails, Work, having_weighed, mapped}
use Rattle.ep_simulation.specs.Follows.{Facts, Fragment, Inside, IsStructure, Lasts, point, TypeOnTop}
use Rattle.ep_simulation.specs.Layouts.{Layout}
use Rattle.ep_simulation.specs.Matching.{Describes, Injection, IsBare, Matches, MatchesTypes, MachineMemory, Slots, at}
use Rattle.ep_object.specs.Operands.{Operand, Word, weight}
use Rattle.ep_object.specs.Operands as operand
use Rattle.ep_object.specs.Runs.{TurnOutcome, after, outcome, outcome_of, unit_in}
use Rattle.ep_object.specs.Sets.{IsSet, words_of_set}
use Rattle.ep_object.specs.State.{Error, State, Stopped, TypeTable, bare_number}
use Rattle.ep_object.specs.Table.{typing, with_typing}
use Rattle.ep_object.specs.Types.{Numbered, Typing, initial_as, words_begin, words_for}
use Rattle.ep_object.specs.declared.code.Image.{Image}
use Rattle.ep_object.specs.declared.code.Instr.{Instr}
use Rattle.ep_object.specs.declared.op.TheConstants as op
use Rattle.ep_object.specs.declared.state.TypeKind.{TypeKind}
use Rattle.ep_object.specs.declared.state.TypeKind.TheVariants as kinds
use Rattle.ep_simulation.proofs.public.following.Fragments.{FailsWith, fragment_less, fragment_stop}
use Rattle.ep_simulation.proofs.public.following.Losing.{fragment_counted}
use Rattle.ep_simulation.proofs.matching.Described.{bare_form, one_bare_number}
use Rattle.ep_simulation.proofs.public.matching.MoreMemory.{entry_as}
use Rattle.ep_simulation.proofs.matching.Likes.{IsKindLike, kind_like}
use Rattle.ep_simulation.proofs.matching.Starting.{start_bare, value_words}
use Rattle.ep_simulation.proofs.matching.Values.{type_is_same}
use Rattle.ep_simulation.specs.Starts.{AreStarts, IsStartOf, words_of_start}
use Rattle.ep_simulation.proofs.public.rows.NewTypes.{init_does, numbered_there}
use Rattle.ep_simulation.proofs.public.rows.Rows.{instr}
use Rattle.ep_meaning.proofs.public.Bares.{bare_among_values, bare_base}
use Rattle.ep_meaning.proofs.public.Steady.{grows_refl}
use Rattle.ep_meaning.specs.Calls.{Handler}
use Rattle.ep_meaning.specs.Meaning.{begins_where}
use Rattle.ep_values.specs.Printing.{Members, Number, Result}
use Rattle.ep_meaning.specs.Results.{has_base, misfit, start_from, start_in, suits}
use Rattle.ep_meaning.specs.Steps.{Computation, bind, change, give, spend, stop, with_type}
use Rattle.ep_values.specs.TypeValues.{is_within}
use Rattle.ep_meaning.specs.Steps as meaning
use Rattle.ep_values.specs.TypeValues as type
use Rattle.ep_values.specs.TypeValues.{Start, TypeValue, bare_of, same_type, set_start, simple_start, size_of}
use Rattle.ep_meaning.specs.Valid.{IsStructured, IsTypeValue}
use Rattle.ep_values.specs.declared.run_error.TheConstants as run_error

-- ---- initial states that may be tried

-- A result may be tried as the initial state of a type, whose number stands below the operand: where the type could be assigned it,
-- the words of the operand are those of the initial state that it is, which is one of the type; else it is an error.
pub record IsTried (types : TypeTable) (number : ℕ) (of : TypeValue) (kind : TypeKind) (bare : Option ℕ) (r : Result) (x : Operand) : Type 0 where
  pub start : Start
  pub is : start_from r ≡ Some start
  pub takes : suits (Some of) r ≡ true → IsStartOf of start × (words_for kind (bare_number number bare) x ≡ Continues (words_of_start start))
  pub refuses : suits (Some of) r ≡ false → words_for kind (bare_number number bare) x ≡ Fails (misfit r)

-- it is, where the type is described
abbrev pub MayBegin : TypeTable → ℕ → TypeValue → Result → Operand → Type 0
MayBegin types number of r x = (d : Describes types number of) → IsTried types number of d.kind d.bare r x

module _ (types : TypeTable) (number : ℕ) (of : TypeValue) where
  -- the kind of what is described but for initial states
  kind_is : (t : TypeValue) → bare_of of ≡ t → (d : Describes types number of) → IsKindLike types t d.kind
  kind_is t over d = subst (λ u. IsKindLike types u d.kind) over (kind_like types of d.kind d.is_kind)

  -- a number, of an ordinal type
  pub word_begins : (low high w : ℤ) → bare_of of ≡ type.Ordinal low high → MayBegin types number of (Number w) (Word w)
  word_begins low high w over d =
      let is : d.kind ≡ kinds.Ord low high = kind_is (type.Ordinal low high) over d in
      let same : is_within of w ≡ is_within (type.Ordinal low high) w = sym (bare_among_values (Some of) w) ∙ ap (λ t. is_within t w) over in
      record {
        start = simple_start w;
        is = refl;
        takes = λ fits.
            let here : is_within (type.Ordinal low high) w ≡ true = sym same ∙ fits in (
              start_bare of (simple_start w) (subst (λ t. IsStartOf t (simple_start w)) (sym over) here),
              (λ i. words_for (is i) (bare_number number d.bare) (Word w)) ∙ ap (λ b. cond b (Continues (w ∷ [])) (Fails run_error.OUTSIDE_TYPE)) here,
            );
        refuses = λ outside.
            (λ i. words_for (is i) (bare_number number d.bare) (Word w)) ∙ ap (λ b. cond b (Continues (w ∷ [])) (Fails run_error.OUTSIDE_TYPE)) (sym same ∙ outside);
      }

  -- a set, of a set type
  pub set_begins : (low high : ℤ) (ms : List ℕ) → IsSet ms → bare_of of ≡ type.Set low high → MayBegin types number of (Members ms) (operand.Set ms)
  set_begins low high ms is_set over d =
      let is : d.kind ≡ kinds.Set low high = kind_is (type.Set low high) over d in
      let same : has_base of ms ≡ has_base (type.Set low high) ms = sym (bare_base (Some of) ms) ∙ ap (λ t. has_base t ms) over in
      record {
        start = set_start ms;
        is = refl;
        takes = λ fits.
            let here : has_base (type.Set low high) ms ≡ true = sym same ∙ fits in (
              start_bare of (set_start ms) (subst (λ t. IsStartOf t (set_start ms)) (sym over) (is_set, here)),
              (λ i. words_for (is i) (bare_number number d.bare) (operand.Set ms)) ∙ ap (λ b. cond b (Continues (words_of_set ms)) (Fails run_error.SET_MEMBER)) here,
            );
        refuses = λ outside.
            (λ i. words_for (is i) (bare_number number d.bare) (operand.Set ms)) ∙ ap (λ b. cond b (Continues (words_of_set ms)) (Fails run_error.SET_MEMBER)) (sym same ∙ outside);
      }

  -- the words that the kind of an array or a record takes of a value whose type has its bare form
  value_takes : (t : TypeValue) (k : TypeKind) (own bare : ℕ) (words : List ℤ) → IsStructured t → IsKindLike types t k → own ≡ bare → words_for k bare (operand.Value own words) ≡ Continues words
  value_takes (type.Ordinal low high) k own bare words structured is same = absurd structured
  value_takes type.Text k own bare words structured is same = absurd structured
  value_takes (type.Set low high) k own bare words structured is same = absurd structured
  value_takes (type.Initial other start) k own bare words structured is same = absurd structured
  value_takes (type.Array low high of) k own bare words structured is same =
      let equal : (own == bare) ≡ true = grind (arith, nat_tests) in
      let k_is = is.1 in
      (λ i. words_for (k_is i) bare (operand.Value own words)) ∙ ap (λ b. cond b (Continues words) (Fails run_error.TUPLES_DIFFER)) equal
  value_takes (type.Record ts) k own bare words structured is same =
      let equal : (own == bare) ≡ true = grind (arith, nat_tests) in
      let k_is = is.1 in
      (λ i. words_for (k_is i) bare (operand.Value own words)) ∙ ap (λ b. cond b (Continues words) (Fails run_error.TUPLES_DIFFER)) equal

  -- an array or a record, of that type
  pub value_begins : {elaborated : List TypeValue} (injection : Injection) (memory : MachineMemory) (t : TypeValue) (r : Result) (x : Operand) → memory.types ≡ types → MatchesTypes elaborated types
      → bare_of of ≡ t → IsStructured t → IsTypeValue t → IsStructure t r injection memory x → MayBegin types number of r x
  value_begins injection memory t r x table matches over structured valid v d =
      let words = value_words injection t v.value v.words valid v.sized v.holds in
      let own : IsBare types v.type_number t = subst (λ ts. IsBare ts v.type_number t) table v.described in
      let form : IsBare types (bare_number number d.bare) t = subst (IsBare types (bare_number number d.bare)) over (bare_form types (bare_number number d.bare) of d.form) in
      let same : v.type_number ≡ bare_number number d.bare = one_bare_number types t v.type_number (bare_number number d.bare) matches own form in
      let fits : same_type (bare_of of) t ≡ true = ap (λ u. same_type u t) over ∙ type_is_same t in
      record {
        start = start_in t v.value;
        is = ap start_from v.is_structure;
        takes = λ suited. (
          start_bare of (start_in t v.value) (subst (λ u. IsStartOf u (start_in t v.value)) (sym over) words.0),
          ap (words_for d.kind (bare_number number d.bare)) v.is ∙ (value_takes t d.kind v.type_number (bare_number number d.bare) v.words structured (kind_is t over d) same ∙ ap Continues words.1),
        );
        refuses = λ outside. never (sym (ap (suits (Some of)) v.is_structure ∙ fits) ∙ outside);
      }
    where
      never : {A : Type 0} → true ≡ false → A
      never e = cc

-- ---- the row

module _ (layout : Layout) (G : Image) (place line : ℕ) (below : List Operand) (of : TypeValue) (number : ℕ) (r : Result) (x : Operand) (has : slice_get G.instructions place ≡ Some (instr op.T_INIT (pos 0) 0 line)) where
  -- the operands before it
  abbrev operands : List Operand
  operands = x ∷ Word (pos number) ∷ below

  -- `TInit`, over the number of a type and a value that no variable of it may have
  pub init_fails : (memory : MachineMemory) (s : meaning.State) → (d : Describes memory.types number of) → IsTried memory.types number of d.kind d.bare r x → suits (Some of) r ≡ false
      → FailsWith G (at place operands memory s.trace) (weight x) (misfit r) (unit_in G memory.frames) line s
  init_fails memory s d tried outside =
      record {
        fails =
            ap (λ y. outcome_of G y k) has
            ∙ (ap entry_to (numbered_there memory.types number (entry_as of d.kind d.bare) d.stands)
            ∙ ap words_to (tried.refuses outside));
      }
    where
      i : Instr
      i = instr op.T_INIT (pos 0) 0 line

      k : State
      k = at place operands memory s.trace

      led : Work Typing → TurnOutcome
      led w = record { weight = w.weight; to = after G i k (mapped (with_typing k) w.effect) }

      entry_to : Option Numbered → TurnOutcome
      entry_to o = led (having_weighed o (λ n. initial_as n (weight x) (words_begin n x) below (typing k)))

      words_to : Effect (List ℤ) → TurnOutcome
      words_to w = led (initial_as (record { number = number; entry = entry_as of d.kind d.bare }) (weight x) w below (typing k))

  -- It follows what gives a type its initial state: the type with that, where a variable could be assigned it, and else the error.
  pub init_follows : {untouched : Slots} {Here : Facts} (call : Handler) (g : ℕ) (unit : List ℕ) → Lasts untouched Here → (injection : Injection) (memory : MachineMemory) → unit_in G memory.frames ≡ unit
      → (d : Describes memory.types number of) → AreStarts of → (start : Start) → start_from r ≡ Some start
      → ((s : meaning.State) → Matches layout G injection s memory → IsTried memory.types number of d.kind d.bare r x) → (n credit : ℕ) → suc (weight x + size_of of) ≤ credit
      → Fragment layout G Here n (point injection memory place operands) (begins_where call g unit line of r (start_from r)) (place + 1)
      (λ a. Inside untouched injection memory (TypeOnTop (bare_of of) below a)) credit (λ a. credit - weight x)
  init_follows {untouched = untouched} {Here = Here} call g unit lasts injection memory home d starts start is tried n credit enough =
      subst (λ o. Fragment layout G Here n (point injection memory place operands) (begins_where call g unit line of r o) (place + 1) (λ a. Inside untouched injection memory (TypeOnTop (bare_of of) below a)) credit (λ a. credit - weight x)) (sym is)
      (by_case (suits (Some of) r) refl)
    where
      started : Computation TypeValue
      started = bind (change (with_type (type.Initial of start))) (λ _. spend (suc (size_of of)) (give (type.Initial of start)))

      refused : Computation TypeValue
      refused = stop (meaning.Error (misfit r) unit line)

      by_case : (b : Bool) → suits (Some of) r ≡ b
          → Fragment layout G Here n (point injection memory place operands) (if b then started else refused) (place + 1) (λ a. Inside untouched injection memory (TypeOnTop (bare_of of) below a)) credit (λ a. credit - weight x)
      by_case true fits =
          fragment_less {n = suc n} (omega arith)
          (fragment_counted {weight = weight x + size_of of} (size_of of) (with_type (type.Initial of start)) (λ s. s) (type.Initial of start) (λ s. refl) grows_refl
          (λ s matches here.
          let t = tried s matches in
          let one : t.start ≡ start = same_start_is t.start start (sym t.is ∙ is) in
          let ok = t.takes fits in
          init_does layout G place line below of start number x has lasts injection memory s d starts (subst (IsStartOf of) one ok.0) (ok.1 ∙ ap (λ u. Continues (words_of_start u)) one) matches here)
          (omega (arith, enough)) (omega (arith, enough)) (omega (arith, enough)) (omega (arith, enough)))
        where
          same_start_is : (a b : Start) → ◌≡◌ {A = Option Start} (Some a) (Some b) → a ≡ b
          same_start_is a b e = cc
      by_case false outside =
          fragment_stop {weight = weight x}
          (λ s matches.
          let f = init_fails memory s d (tried s matches) outside in
          subst (λ u. outcome G (at place operands memory s.trace) ≡ record { weight = weight x; to = Stopped (Error (misfit r) u line) s.trace }) home f.fails)
          (omega (arith, enough))
