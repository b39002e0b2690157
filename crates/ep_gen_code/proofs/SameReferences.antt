-- References that are the same where their names and numbers are.
use Rattle.std.proofs.Common.{◌≡◌, ℕ, ◌==◌, Decides, List, ap}
use Rattle.std.proofs.lemmas.Slice.Eq.{bytes_eq-Decides}
use Rattle.std.specs.Cmp.{first_so, second_so, unsigned_Decides}
use Rattle.std.specs.Cmp.Derive.{both_true}
use Rattle.std.specs.Str.{bytes_eq}
use Rattle.ep_gen_code.specs.Instructions.{reference}
use Rattle.ep_gen_code.specs.Keys.{same}
use Rattle.ep_object.specs.declared.code.Reference.{Reference}

pub same_decides : (unit : List ℕ) (number : ℕ) (r : Reference) → Decides (same (unit, number) (r.unit, r.number)) (reference unit number ≡ r)
same_decides unit number r = (
  λ is.
      let names : unit ≡ r.unit = (bytes_eq-Decides unit r.unit).0 (first_so (bytes_eq unit r.unit) (number == r.number) is) in
      let numbers : number ≡ r.number = (unsigned_Decides number r.number).0 (second_so (bytes_eq unit r.unit) (number == r.number) is) in
      λ i. reference (names i) (numbers i),
  λ is. both_true ((bytes_eq-Decides unit r.unit).1 (ap (λ (q : Reference). q.unit) is)) ((unsigned_Decides number r.number).1 (ap (λ (q : Reference). q.number) is)),
)
