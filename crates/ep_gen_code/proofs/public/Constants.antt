-- The machine follows constants: what is given is the constant, and its value is on top.
use Rattle.std.proofs.Common.{◌≡◌, ℕ, ℤ, pos, zero, suc, ◌+◌, ◌*◌, ◌-◌, ◌≤◌, List, [], ◌∷◌, length, refl, ap, subst, arith}
use Rattle.ep_simulation.specs.Follows.{After, Facts, Fragment, Inside, IsNotLeft, Lands, Operands, Point, point, state_at}
use Rattle.ep_simulation.specs.Layouts.{Layout}
use Rattle.ep_simulation.specs.Matching.{Injection, MachineMemory, Slots}
use Rattle.ep_object.specs.Operands.{Operand, Set, Word}
use Rattle.ep_object.specs.Placing.{Placement, CodeStands}
use Rattle.ep_object.specs.Sets.{IsSet, member_limit}
use Rattle.ep_object.specs.declared.code.Image.{Image}
use Rattle.ep_object.specs.declared.code.Reference.{Reference}
use Rattle.ep_object.specs.declared.op.TheConstants as op
use Rattle.ep_object.proofs.public.SetWords.{AreOrdinals, all_members, few_members, set_ordinals, with_members}
use Rattle.ep_simulation.proofs.public.following.Bind.{Met}
use Rattle.ep_simulation.proofs.public.following.Fragments.{fragment_from, fragment_give, fragment_less, fragment_moves, fragment_one, fragment_to}
use Rattle.ep_simulation.proofs.public.matching.MoreMemory.{inside_here}
use Rattle.ep_simulation.proofs.public.rows.Rows.{push_pushes}
use Rattle.ep_simulation.proofs.public.rows.SetRows.{add_pushes, none_pushes}
use Rattle.ep_meaning.specs.Calls.{Handler}
use Rattle.ep_meaning.specs.Meaning.{eval}
use Rattle.ep_values.specs.Printing.{Result}
use Rattle.ep_values.specs.Printing as result
use Rattle.ep_meaning.specs.Results.{weight_of}
use Rattle.ep_values.specs.Sets.{with_member}
use Rattle.ep_meaning.specs.Steps.{Computation, give, spend}
use Rattle.ep_meaning.specs.Steps as meaning
use Rattle.ep_typed.specs.Trees.{Constant, SetConstant}
use Rattle.ep_values.specs.TypeValues.{set_size}
use Rattle.ep_gen_code.specs.Instructions.{bare, members_code, push}
use Rattle.ep_gen_code.proofs.public.Waiting.{row_waits}

-- ---- steps that are spent one by one

-- so many steps are one, and then the others
one_by_one : {A : Type 0} (steps : ℕ) (c : Computation A) (m : ℕ) (s : meaning.State) → spend 1 (spend steps c) m s ≡ spend (suc steps) c m s
one_by_one steps c zero s = refl
one_by_one steps c (suc m) s = refl

-- what is followed of a computation is followed of one that does the same
fragment_same : {A : Type 0} {layout : Layout} {G : Image} {Here : Facts} {n : ℕ} {from : Point} {c other : Computation A} {to d : ℕ} {P : A → After} {e : A → ℕ}
    → ((m : ℕ) (s : meaning.State) → c m s ≡ other m s) → Fragment layout G Here n from c to P d e → Fragment layout G Here n from other to P d e
fragment_same {layout = layout} {G = G} {Here = Here} {from = from} {to = to} {d = d} {P = P} {e = e} same h =
    record {
      by = λ s matches here.
          let z = h.by s matches here in
          record { by = λ m l. subst (λ o. Met (λ k. IsNotLeft from.memory.frames k.frames) G (state_at from s.trace) m (λ a. Lands layout G Here to (P a)) d e o) (same m s) (z.by m l) };
    }

-- ---- constants

-- this result is given, and this operand is on top
abbrev pub GivenOnTop : List Operand → Result → Operand → Result → Operands
GivenOnTop below r o given injection memory operands = (given ≡ r) × (operands ≡ o ∷ below)

module _ {layout : Layout} {G : Image} {untouched : Slots} {Here : Facts} (ps : List Placement) (p : Placement) (references : List Reference) (call : Handler) (g : ℕ) (unit : List ℕ) (line n : ℕ) where
  -- a constant of an ordinal type, by `Push`
  pub word_follows : (z : ℤ) (at : ℕ) → CodeStands G ps p references at (push line z ∷ [])
      → (injection : Injection) (memory : MachineMemory) (below : List Operand) (d : ℕ)
      → Fragment layout G Here n (point injection memory (p.instructions.before + at) below) (eval call g unit line (Constant z)) (p.instructions.before + (at + 1)) (λ r. Inside untouched injection memory (GivenOnTop below (result.Number z) (Word z) r)) d (λ r. d + 8 + weight_of r)
  word_follows z at stands injection memory below d =
      fragment_less {n = suc n} (omega arith) (fragment_to (omega arith) (fragment_one {n = n} {d1 = d + 8} (λ s matches. push_pushes G (p.instructions.before + at) line below z stands.0 memory s.trace) (omega arith)
      (fragment_give (omega arith) (inside_here (refl, refl)))))

  -- Members that are added one after another. The first ones spend the steps that are left, one with each tick of `Push`,
  -- and what is left of these behind the last member costs credit.
  members_follow : (all ms ns : List ℕ) (steps at : ℕ) → AreOrdinals ms → with_members ms ns ≡ all → CodeStands G ps p references at (members_code line ms)
      → (injection : Injection) (memory : MachineMemory) (below : List Operand) (c e : ℕ) → e + 2 * length ms ≤ c + 63 * steps → e + steps ≤ c
      → Fragment layout G Here (steps + n) (point injection memory (p.instructions.before + at) (Set ns ∷ below)) (spend steps (give (result.Members all))) (p.instructions.before + (at + length (members_code line ms))) (λ r. Inside untouched injection memory (GivenOnTop below (result.Members all) (Set all) r)) c (λ r. e + weight_of r)
  members_follow all [] ns steps at ordinals is stands injection memory below c e spent left =
      fragment_to {to = p.instructions.before + at} (omega arith)
      (fragment_moves {n = n} steps {d1 = e} (omega (arith, left)) (fragment_give (omega arith) (inside_here (refl, ap (λ l. Set l ∷ below) is))))
  members_follow all (m ∷ ms) ns zero at ordinals is stands injection memory below c e spent left =
      let second : p.instructions.before + at + 1 ≡ p.instructions.before + (at + 1) = omega arith in
      let third : p.instructions.before + (at + 1) + 1 ≡ p.instructions.before + (at + 1 + 1) = omega arith in
      fragment_to {to = p.instructions.before + (at + 1 + 1 + length (members_code line ms))} (omega arith)
      (row_waits {d1 = c - 1} (push_pushes G (p.instructions.before + at) line (Set ns ∷ below) (pos m) stands.0) (omega (arith, spent))
      (fragment_from second (row_waits {d1 = c - 2} (add_pushes G (p.instructions.before + (at + 1)) line below m ns ordinals.0 stands.1.0) (omega (arith, spent))
      (fragment_from third (members_follow all ms (with_member m ns) 0 (at + 1 + 1) ordinals.1 is stands.1.1 injection memory below (c - 2) e (omega (arith, spent)) (omega (arith, spent)))))))
  members_follow all (m ∷ ms) ns (suc steps) at ordinals is stands injection memory below c e spent left =
      let second : p.instructions.before + at + 1 ≡ p.instructions.before + (at + 1) = omega arith in
      let third : p.instructions.before + (at + 1) + 1 ≡ p.instructions.before + (at + 1 + 1) = omega arith in
      fragment_to {to = p.instructions.before + (at + 1 + 1 + length (members_code line ms))} (omega arith)
      (fragment_less {n = suc (steps + n)} (omega arith) (fragment_same (one_by_one steps (give (result.Members all))) (fragment_one {n = steps + n} {d1 = c + 63} (λ s matches. push_pushes G (p.instructions.before + at) line (Set ns ∷ below) (pos m) stands.0 memory s.trace) (omega arith)
      (fragment_from second (row_waits {d1 = c + 62} (add_pushes G (p.instructions.before + (at + 1)) line below m ns ordinals.0 stands.1.0) (omega arith)
      (fragment_from third (members_follow all ms (with_member m ns) steps (at + 1 + 1) ordinals.1 is stands.1.1 injection memory below (c + 62) e (omega (arith, spent)) (omega (arith, left)))))))))

  -- a constant that is a set
  pub set_follows : (ms : List ℕ) → IsSet ms → (at : ℕ) → CodeStands G ps p references at (bare line op.SET_NONE ∷ members_code line ms)
      → (injection : Injection) (memory : MachineMemory) (below : List Operand) (d : ℕ)
      → Fragment layout G Here n (point injection memory (p.instructions.before + at) below) (eval call g unit line (SetConstant ms)) (p.instructions.before + (at + 1 + length (members_code line ms))) (λ r. Inside untouched injection memory (GivenOnTop below (result.Members ms) (Set ms) r)) d (λ r. d + 8 + weight_of r)
  set_follows ms is_set at stands injection memory below d =
      let second : p.instructions.before + at + 1 ≡ p.instructions.before + (at + 1) = omega arith in
      let many : length ms ≤ member_limit = few_members ms is_set in
      fragment_less {n = suc (set_size + n)} (omega arith) (fragment_same (one_by_one set_size (give (result.Members ms))) (fragment_one {n = set_size + n} {d1 = d + 63} (λ s matches. none_pushes G (p.instructions.before + at) line below stands.0 memory s.trace) (omega arith)
      (fragment_from second (members_follow ms ms [] set_size (at + 1) (set_ordinals ms is_set) (all_members ms is_set) stands.1 injection memory below (d + 63) (d + 8) (omega (arith, many)) (omega arith)))))
