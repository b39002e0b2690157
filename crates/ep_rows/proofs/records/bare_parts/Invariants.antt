use Rattle.std.proofs.Common.{◌≡◌, ◌++◌, drop, option_map}
use Rattle.ep_object.specs.Types.{bare_forms, entries_of, words_behind, parts_behind}
use Rattle.ep_rows.specs.Records.{words_of_all, bare_parts_of_all}
use Rattle.ep_rows.proofs.records.bare_parts.Given as goal

abbrev pub invariant-loop-number : goal.invariant-loop-number
invariant-loop-number l =
    record {
      words : words_of_all l.types l.numbers ≡ option_map (words_behind l.offset) (entries_of l.types (drop l.number-index l.numbers));
      parts : bare_parts_of_all l.types l.numbers ≡ option_map (λ ns. l.parts ++ parts_behind l.offset (bare_forms ns)) (entries_of l.types (drop l.number-index l.numbers));
    }
