-- What a schedule of failing calls has counted, and which call is to fail.
use Rattle.std.specs.Prelude.{◌≡◌, ◌<◌, ◌+◌, ◌-◌, ◌^◌, ℕ, List, Contains, min}
use Rattle.ep_outside.specs.declared.schedule.Schedule.{Schedule}

-- how many calls failed
abbrev pub faults_of : Schedule → ℕ
faults_of s = s.faults

-- how many calls there were
abbrev pub calls_of : Schedule → ℕ
calls_of s = s.calls

-- the numbers of the calls that are to fail
abbrev pub fails_of : Schedule → List ℕ
fails_of s = s.fails.items

-- the end of a count, which rises no more there
abbrev pub count_end : ℕ
count_end = 2 ^ 64 - 1

-- the number of the next call, counted from 1
abbrev pub next_call : Schedule → ℕ
next_call s = min (calls_of s + 1) count_end

-- The next call is to fail: its number is listed. None is once the count of faults is at its end.
abbrev pub FailsNext : Schedule → Type 0
FailsNext s = Contains (fails_of s) (next_call s) × (faults_of s < count_end)

-- no call so far, and the calls of these numbers are to fail
pub record Begins (fails : List ℕ) (s : Schedule) : Type 0 where
  pub calls : calls_of s ≡ 0
  pub faults : faults_of s ≡ 0
  pub listed : fails_of s ≡ fails

-- one call is counted, and the list is as it was
pub record CountsCall (old new : Schedule) : Type 0 where
  pub calls : calls_of new ≡ next_call old
  pub listed : fails_of new ≡ fails_of old
