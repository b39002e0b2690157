-- The files that a table in memory has.
use Rattle.std.specs.Option.{option_map}
use Rattle.std.specs.Ordering.{nat_cmp}
use Rattle.std.specs.Cmp.Lexicographic.{slice_cmp}
use Rattle.std.specs.BTreeMap.{get_by}
use Rattle.ep_outside.specs.Known.{Directory}
use Rattle.ep_outside.specs.declared.mem_files.FileTable.{FileTable}

-- the bytes of the file of each name
abbrev pub directory_of : FileTable → Directory
directory_of t = λ name. option_map (λ bytes. bytes.items) (get_by (λ key. slice_cmp nat_cmp name key.items) t.bytes)
