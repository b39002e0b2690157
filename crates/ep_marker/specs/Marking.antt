-- What a function promises that marks the tokens of a production.
use Rattle.std.specs.Prelude.{◌≡◌, ◌≢◌, ℕ, zero, suc, ◌+◌, ◌-◌, ◌⊎◌, Bool, false, List, ◌++◌, length, map, take, drop}
use Rattle.std.specs.Prelude.{replicate, Option, None, Some, Ok, Err}
use Rattle.ep_tree.specs.declared.types.FieldSection.{FieldSection}
use Rattle.ep_grammar.specs.declared.stop.Stop.{Stop}
use Rattle.ep_grammar.specs.declared.stop.Stop.TheVariants as cause
use Rattle.ep_grammar.specs.Descriptions.{Syntax}
use Rattle.ep_grammar.specs.Reading.{ReadOutcome, read}
use Rattle.ep_grammar.specs.Rules.{inside_at}
use Rattle.ep_grammar.specs.Types.{sections}
use Rattle.ep_marks.specs.declared.mark.Mark.{Mark}
use Rattle.ep_marks.specs.Marks.{first_starting, marks}
use Rattle.ep_marks.specs.Productions as style
use Rattle.ep_marks.specs.Styles.{Style}
use Rattle.ep_marks.specs.Texts.{inner_at}
use Rattle.ep_marker.specs.declared.marker.Marker.{Marker}

-- the mark of a token that starts no line
abbrev pub mark_at : ℕ → Mark
mark_at depth = record { starts = false; depth = depth }

-- the mark of a token in what stands this deep
abbrev pub lowered : ℕ → Mark → Mark
lowered depth m = record { starts = m.starts; depth = depth + m.depth }

-- whether tokens are refused
abbrev pub IsRefused : {A : Type 0} → ReadOutcome A → Type 0
IsRefused (Ok p) = ⊥
IsRefused (Err e) = Unit {0}

-- the cause of an end, where there may have been another one before
abbrev pub first_stop : Option Stop → Stop → Stop
first_stop None later = later
first_stop (Some first) later = first

-- the tokens up to those that are left are read as this description, where so many levels are left, and the marks of
-- its style come to the others, in what stands so deep
pub record Marked {X : Type 0} (room : ℕ) (y : Style) (s : Syntax X) (depth : ℕ) (old new : Marker) : Type 0 where
  pub meaning : X
  pub reads : read (inside_at room) s old.reader ≡ Ok (meaning, new.reader)
  pub adds :
      new.marks.items ≡
      old.marks.items ++ map (lowered depth) (marks (inside_at room) (inner_at room) y s old.reader)

-- a walk over a description: it was ended before, ends for want of memory or because the tokens are refused, or marks
-- the tokens
pub record Walked {X : Type 0} (room : ℕ) (y : Style) (s : Syntax X) (depth : ℕ) (old new : Marker) : Type 0 where
  pub stays : (e : Stop) → old.stop ≡ Some e → new.stop ≡ Some e
  pub stops :
      (e : Stop) → old.stop ≡ None → new.stop ≡ Some e → e ≢ cause.NoMemory →
      IsRefused (read (inside_at room) s old.reader)
  pub marked : old.stop ≡ None → new.stop ≡ None → Marked room y s depth old new

-- sections are marked, and this tells whether a semicolon follows the last
pub record SectionsMarked (room : ℕ) (in_record : Bool) (depth : ℕ) (ended : Bool) (old new : Marker) : Type 0 where
  pub found : List FieldSection
  pub reads : read (inside_at room) sections old.reader ≡ Ok ((found, ended), new.reader)
  pub adds :
      new.marks.items ≡
      old.marks.items ++
      map (lowered depth) (marks (inside_at room) (inner_at room) (style.sections in_record) sections old.reader)

-- a walk over sections
pub record SectionsWalked (room : ℕ) (in_record : Bool) (depth : ℕ) (ended : Bool) (old new : Marker) : Type 0 where
  pub stays : (e : Stop) → old.stop ≡ Some e → new.stop ≡ Some e
  pub stops :
      (e : Stop) → old.stop ≡ None → new.stop ≡ Some e → e ≢ cause.NoMemory →
      IsRefused (read (inside_at room) sections old.reader)
  pub marked : old.stop ≡ None → new.stop ≡ None → SectionsMarked room in_record depth ended old new

-- what needs a level begins, or the walk is ended
abbrev pub Opened : ℕ → Marker → Marker → Type 0
Opened zero old new = new.stop ≡ Some (first_stop old.stop cause.Nested)
Opened (suc n) old new = new ≡ old

-- each token since this many were left has a mark and starts no line
abbrev pub AddsPassed : ℕ → ℕ → Marker → Marker → Type 0
AddsPassed before depth old new =
    (new.stop ≡ old.stop) × (new.reader ≡ old.reader)
    × (new.marks.items ≡ old.marks.items ++ replicate (before - length old.reader) (mark_at depth))

-- tokens were passed since this many were left, unless they were refused or memory is wanting
abbrev pub Passed : Option Stop → ℕ → ℕ → Marker → Marker → Type 0
Passed (Some e) before depth old new = new.stop ≡ Some (first_stop old.stop e)
Passed None before depth old new =
    (new.stop ≡ Some (first_stop old.stop cause.NoMemory)) ⊎ AddsPassed before depth old new

-- the token with this number starts a line, if there is one
abbrev pub Started : ℕ → Marker → Marker → Type 0
Started first old new =
    (new.stop ≡ old.stop) × (new.reader ≡ old.reader)
    × (new.marks.items ≡ take first old.marks.items ++ first_starting (drop first old.marks.items))
