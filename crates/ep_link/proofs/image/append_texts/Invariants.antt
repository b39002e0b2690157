use Rattle.std.proofs.Common.{◌≡◌, ◌++◌, take}
use Rattle.ep_link.proofs.image.append_texts.Given as goal

abbrev pub invariant-loop-text : goal.invariant-loop-text
invariant-loop-text l = l.image ≡ l.initial.image ++ take l.text-index l.texts
