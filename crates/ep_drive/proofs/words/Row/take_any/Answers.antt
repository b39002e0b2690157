use Rattle.std.proofs.Common.{◌≡◌, false, bytes_eq, codes, subst, sym, ap, refl, ◌∙◌}
use Rattle.std.proofs.lemmas.Bool.Decides.{Decides-eqb}
use Rattle.std.proofs.lemmas.Slice.Eq.{strip_prefix_is}
use Rattle.ep_drive.specs.Commands.{is_option}
use Rattle.ep_drive.specs.WordReading.{Gives, taken_by}
use Rattle.ep_drive.proofs.Refused.{match_some, match_none}
use Rattle.ep_drive.proofs.WordRows.{take_any-joined, take_any-other}
use Rattle.ep_drive.proofs.words.Row.take_any.Goals as goal

pub returns-in-Some : goal.returns-in-Some
returns-in-Some c =
    let cases = strip_prefix_is Decides-eqb c.as_bytes-bytes.result.now (codes "--ticks=") c.strip_prefix.result c.strip_prefix.ensures.cases in
    let is = sym c.as_bytes-bytes.ensures.value ∙ match_some c.strip_prefix.result _ _ c.in-Some.number cases c.in-Some.is in
    subst (λ o. Gives taken_by c.take_ticks.result o) (sym (take_any-joined (taken_by c.args.self) c.args.word.now c.in-Some.number.now is)) c.take_ticks.ensures

pub returns-in-None : goal.returns-in-None
returns-in-None c =
    let ends : bytes_eq c.args.word.now (codes "--") ≡ false = cc in
    let other : bytes_eq c.args.word.now (codes "--ticks") ≡ false = cc in
    let cases = strip_prefix_is Decides-eqb c.as_bytes-bytes.result.now (codes "--ticks=") c.strip_prefix.result c.strip_prefix.ensures.cases in
    let none = match_none c.strip_prefix.result _ _ cases c.in-None.is in
    let option = ap is_option (sym c.as_bytes-bytes.ensures.value) ∙ sym c.is_option.ensures ∙ c.if-is_option.true in
    take_any-other (taken_by c.args.self) c.args.word.now ends other (λ rest e. none rest (c.as_bytes-bytes.ensures.value ∙ e)) ∙ rw option refl
