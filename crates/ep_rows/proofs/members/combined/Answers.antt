use Rattle.std.proofs.Common.{◌≡◌, ◌/◌, ◌%◌, ℕ, get_or, refl, ◌∙◌, arith}
use Rattle.std.proofs.lemmas.List.{length-set}
use Rattle.ep_rows.specs.Members.{either, is_one}
use Rattle.ep_rows.proofs.SetBits.{combined_set, set_each}
use Rattle.ep_rows.proofs.members.combined.Goals as goal

pub loop-place-init : goal.loop-place-init
loop-place-init c = record { size = refl; done = λ k less. absurd (omega (arith, less)) }

pub loop-place-preserved : goal.loop-place-preserved
loop-place-preserved c =
    let combination = c.args.combination in
    let a = c.args.a.words in
    let b = c.args.b.words in
    record {
      size = length-set c.loop-place.words c.loop-place.place c.combined_word.result ∙ c.loop-place.invariant.size;
      done =
          set_each (λ k w. (i : ℕ) → is_one w i ≡ either combination (is_one (get_or a k 0) i) (is_one (get_or b k 0) i)) c.loop-place.words c.loop-place.place c.combined_word.result 0
          (omega (arith, c.loop-place.invariant.size, c.loop-place-test.true)) c.loop-place.invariant.done c.combined_word.ensures;
    }

pub returns-clause-told : goal.returns-clause-told
returns-clause-told c n less = c.loop-place.invariant.done (n / 32) (omega (arith, less, c.loop-place-test.false)) (n % 32)

pub returns-clause-set : goal.returns-clause-set
returns-clause-set c =
    combined_set c.args.combination c.args.a c.args.b _ (λ n less. c.loop-place.invariant.done (n / 32) (omega (arith, less, c.loop-place-test.false)) (n % 32))
