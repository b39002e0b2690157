-- The marks of the tokens of a text: which of them start a line, and how deep each stands.
use Rattle.std.specs.Prelude.{ℕ, zero, suc, ◌-◌, Bool, true, false, if◌then◌else◌}
use Rattle.std.specs.Prelude.{List, [], ◌∷◌, ◌++◌, length, map, replicate}
use Rattle.std.specs.Prelude.{Option, Some, None, Ok, Err}
use Rattle.ep_token.specs.declared.token.Token.{Token}
use Rattle.ep_grammar.specs.Classes.{Class, has, class_of}
use Rattle.ep_grammar.specs.Descriptions.{Nonterminal, Step, More, Last, Syntax, inside, apply}
use Rattle.ep_grammar.specs.Descriptions.{either, switch, row, deeper, shaped}
use Rattle.ep_grammar.specs.Reading.{Inside, ReadOutcome, Parser, read}
pub use Rattle.ep_marks.specs.declared.mark.Mark.{Mark}
use Rattle.ep_marks.specs.Styles.{Style, within, part, choice, rows, level, shapes, starts, indents, given}

abbrev pub no_mark : Mark
no_mark = record { starts = false; depth = 0 }

abbrev pub starting : Mark → Mark
starting m = record { starts = true; depth = m.depth }

abbrev pub deeper_mark : Mark → Mark
deeper_mark m = record { starts = m.starts; depth = suc m.depth }

abbrev pub first_starting : List Mark → List Mark
first_starting [] = []
first_starting (m ∷ ms) = starting m ∷ ms

-- the marks of what may stand one level deeper, which may be the fields of a record
abbrev pub Family : Type 0
Family = Bool → Nonterminal → List Token → List Mark

-- no mark for each token that is read
abbrev pub unmarked : {A : Type 0} → ReadOutcome A → List Token → List Mark
unmarked (Ok p) i = replicate (length i - length p.1) no_mark
unmarked (Err e) i = []

-- the marks of what follows
abbrev pub and_marks : {A : Type 0} → ReadOutcome A → (A → List Token → List Mark) → List Mark
and_marks (Ok p) f = f p.0 p.1
and_marks (Err e) f = []

abbrev pub by_step : {A B : Type 0} → (List Token → List Mark) → Step A B → List Token → List Mark
by_step more (More x) = more
by_step more (Last q) = λ i. []

-- the marks of the steps of a row; the number bounds the turns, as in the reading of a row
abbrev pub step_marks :
    {A B : Type 0} → List Class → Parser (Step A B) → (List Token → List Mark) → ℕ → List Token → List Mark
step_marks cs step mark zero = λ i. []
step_marks cs step mark (suc n) =
    λ i. if has cs (class_of i) then mark i ++ and_marks (step i) (by_step (step_marks cs step mark n)) else []

abbrev pub shape_marks : {C D : Type 0} → Bool → Option C → Option D → List Mark → List Mark → List Mark
shape_marks true (Some c) second ms ns = ms
shape_marks true None (Some d) ms ns = ns
shape_marks true None None ms ns = []
shape_marks false first (Some d) ms ns = ns
shape_marks false first None ms ns = []

-- the marks of the tokens that are read as a description, in a style that fits it
abbrev pub marks : Option Inside → Family → Style → {X : Type 0} → Syntax X → List Token → List Mark
marks e inner (within r) (inside n) i = inner r n i
marks e inner (part y z) (apply s t) i = marks e inner y s i ++ and_marks (read e s i) (λ f j. marks e inner z t j)
marks e inner (choice y z) (either cs s t) i =
    if has cs (class_of i) then marks e inner y s i else marks e inner z t i
marks e inner (choice y z) (switch cs s t) i =
    if has cs (class_of i) then marks e inner y s i else marks e inner z t i
marks e inner (rows y z) (row s cs t r) i =
    marks e inner y s i ++
    and_marks (read e s i) (λ found j. step_marks cs (read e t) (marks e inner z t) (length j) j)
marks e inner (level y) (deeper cs s) i = marks e inner y s i
marks e inner (shapes y z w) (shaped s f cs t g u o) i =
    marks e inner y s i ++
    and_marks (read e s i) (λ x j.
    shape_marks (has cs (class_of j)) (f x) (g x) (marks e inner z t j) (marks e inner w u j))
marks e inner (starts y) s i = first_starting (marks e inner y s i)
marks e inner (indents y) s i = map deeper_mark (marks e inner y s i)
marks e inner (given cs y z) s i = if has cs (class_of i) then marks e inner y s i else marks e inner z s i
marks e inner y s i = unmarked (read e s i) i
