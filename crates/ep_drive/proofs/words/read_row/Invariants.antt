use Rattle.std.proofs.Common.{◌≡◌, drop}
use Rattle.ep_drive.specs.Commands.{bytes_of}
use Rattle.ep_drive.specs.WordReading.{take_words, taken_by, nothing_taken}
use Rattle.ep_drive.proofs.words.read_row.Given as goal

abbrev pub invariant-loop-word : goal.invariant-loop-word
invariant-loop-word l = take_words (taken_by l.row) (bytes_of (drop l.word-index l.words)) ≡ take_words nothing_taken (bytes_of l.words)
