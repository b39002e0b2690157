use Rattle.std.proofs.Common.{◌≡◌, ◌≤◌, ◌*◌, ◌^◌, drop, option_map}
use Rattle.ep_object.specs.Types.{entries_of, words_behind}
use Rattle.ep_rows.specs.Records.{words_of_all}
use Rattle.ep_rows.proofs.records.words_of_all.Given as goal

abbrev pub invariant-loop-number : goal.invariant-loop-number
invariant-loop-number l =
    record {
      same : words_of_all l.types l.numbers ≡ option_map (words_behind l.words) (entries_of l.types (drop l.number-index l.numbers));
      small : l.words ≤ l.number-index * 2 ^ 32;
    }
