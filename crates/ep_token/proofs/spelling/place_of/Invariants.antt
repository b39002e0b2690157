use Rattle.std.proofs.Common.{◌≡◌, drop, map}
use Rattle.std.specs.List.{position_from}
use Rattle.std.specs.Str.{bytes_eq}
use Rattle.ep_token.specs.Spellings.{place_of}
use Rattle.ep_token.proofs.spelling.place_of.Given as goal

abbrev pub invariant-loop-place : goal.invariant-loop-place
invariant-loop-place l = position_from (λ s. bytes_eq s l.text) l.place (map (λ s. s.now) (drop l.place l.table)) ≡ place_of (map (λ s. s.now) l.table) l.text
