-- The standard files that code may use (ISO 10206, 6.11.4 and 6.12).
use Rattle.std.specs.Prelude.{Bool}
use Rattle.ep_typed.specs.declared.tree.StandardFile.{StandardFile}
use Rattle.ep_typed.specs.declared.tree.StandardFile.TheVariants as file
use Rattle.ep_scope.specs.declared.standard.StandardFiles.{StandardFiles}

-- whether a file is one of them
abbrev pub is_usable : StandardFiles → StandardFile → Bool
is_usable files file.Input = files.input
is_usable files file.Output = files.output
