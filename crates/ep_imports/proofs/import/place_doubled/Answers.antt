use Rattle.std.proofs.Common.{◌≡◌, [], length, ℕ, refl, ap, subst, sym, ◌∙◌, arith, drop}
use Rattle.std.proofs.lemmas.List.{drop_all}
use Rattle.std.specs.List.{list_any}
use Rattle.std.specs.Str.{bytes_eq}
use Rattle.ep_imports.specs.Brought.{names_here, first_doubled}
use Rattle.ep_imports.specs.Parts.{IsFirstDoubled}
use Rattle.ep_imports.specs.declared.brought.Brought.{Brought}
use Rattle.ep_imports.proofs.Listing.{behind_more, doubled_more}
use Rattle.ep_imports.proofs.import.place_doubled.Goals as goal

pub loop-place-init : goal.loop-place-init
loop-place-init c =
    let none : drop (length c.args.brought.now) c.args.brought.now ≡ [] = drop_all (length c.args.brought.now) c.args.brought.now (omega arith) in
    record {
      same = λ text. ap (list_any (bytes_eq text)) c.new-behind.ensures ∙ ap (λ l. list_any (bytes_eq text) (names_here l)) (sym none);
      first = ap (λ l. first_doubled (names_here l)) none;
    }

pub loop-place-preserved : goal.loop-place-preserved
loop-place-preserved c =
    let texted : c.bytes-name.result.now ≡ c.index-brought-place.result.here = c.bytes-name.ensures.bytes ∙ ap (λ (b : Brought). b.here) (sym c.index-brought-place.is) in
    record {
      same = behind_more c.args.brought.now c.loop-place.place c.index-brought-place.result c.loop-place.behind c.add.new.self c.bytes-name.result.now
          c.loop-place-test.true c.loop-place.auto.place c.index-brought-place.is texted c.loop-place.invariant.same c.in_ok-add.ensures;
      first = doubled_more c.args.brought.now c.loop-place.place c.index-brought-place.result c.loop-place.behind c.bytes-name.result.now c.has.result c.loop-place.doubled c.place_or-doubled.result
          c.loop-place-test.true c.loop-place.auto.place c.index-brought-place.is texted c.loop-place.invariant.same c.has.ensures c.place_or-doubled.ensures c.loop-place.invariant.first;
    }

pub returns : goal.returns
returns c =
    let start : c.loop-place.place ≡ 0 = omega (arith, c.loop-place-test.false) in
    subst (λ n. IsFirstDoubled c.args.brought.now (drop n c.args.brought.now) c.loop-place.doubled) start c.loop-place.invariant.first
