-- What a list of words asks for.
use Rattle.std.specs.Prelude.{◌≡◌, ℕ, ◌<◌, ◌≤◌, ◌^◌, Bool, true, false, ◌==◌, List, [], ◌∷◌, ◌++◌, length, codes, map}
use Rattle.std.specs.Char.{is_ascii_digit}
use Rattle.std.specs.List.{list_all}
use Rattle.std.specs.String.{string_bytes}
use Rattle.std.specs.declared.string.String.{String}
use Rattle.std.specs.declared.alloc.Global.{Global}
use Rattle.ep_drive.specs.Numbers.{value_of}

-- compile, link and run source texts, within a budget of ticks
pub data Command : Type 0 where
  Go : (budget : ℕ) (sources : List (List ℕ)) → Command

-- two or more bytes that begin with a hyphen
abbrev pub is_option : List ℕ → Bool
is_option [] = false
is_option (byte ∷ []) = false
is_option (byte ∷ next ∷ rest) = byte == 45

-- the number of an option `--ticks`: 1 to 10 decimal digits of a value from 1 to 9,999,999,999
pub record IsTicks (text : List ℕ) (ticks : ℕ) : Type 0 where
  pub digits : list_all is_ascii_digit text ≡ true
  pub short : length text ≤ 10
  pub value : value_of text ≡ ticks
  pub least : 0 < ticks
  pub greatest : ticks < 10 ^ 10

-- the row of words has these numbers of options `--ticks` and these sources, each in order
pub data IsWordRow : List (List ℕ) → List ℕ → List (List ℕ) → Type 0 where
  nothing : IsWordRow [] [] []
  -- the number is the word that follows
  option : {word text : List ℕ} {n : ℕ} {words sources : List (List ℕ)} {ticks : List ℕ} → word ≡ codes "--ticks"
      → IsTicks text n → IsWordRow words ticks sources → IsWordRow (word ∷ text ∷ words) (n ∷ ticks) sources
  -- the number stands behind an equals sign
  joined : {word : List ℕ} (text : List ℕ) {n : ℕ} {words sources : List (List ℕ)} {ticks : List ℕ}
      → word ≡ codes "--ticks=" ++ text → IsTicks text n → IsWordRow words ticks sources
      → IsWordRow (word ∷ words) (n ∷ ticks) sources
  -- the options end, and all words that follow are sources
  ended : {word : List ℕ} {words : List (List ℕ)} → word ≡ codes "--" → IsWordRow (word ∷ words) [] words
  named : {word : List ℕ} {words sources : List (List ℕ)} {ticks : List ℕ} → is_option word ≡ false
      → IsWordRow words ticks sources → IsWordRow (word ∷ words) ticks (word ∷ sources)

-- the ticks of a run where no option says how many
abbrev pub usual_budget : ℕ
usual_budget = 400000000

-- there is at most one option, which has the budget
abbrev pub IsBudget : List ℕ → ℕ → Type 0
IsBudget [] budget = budget ≡ usual_budget
IsBudget (n ∷ []) budget = budget ≡ n
IsBudget (n ∷ m ∷ more) budget = ⊥

-- the words are `go` and a row with at most one option and, so far, exactly one source
pub record AreGo (words : List (List ℕ)) (budget : ℕ) (sources : List (List ℕ)) : Type 0 where
  pub row : List (List ℕ)
  pub ticks : List ℕ
  pub words_are : words ≡ codes "go" ∷ row
  pub row_is : IsWordRow row ticks sources
  pub one : length sources ≡ 1
  pub budget_is : IsBudget ticks budget
  pub few : length words < 2 ^ 32

-- the words are this command (own rules)
abbrev pub WordsOf : List (List ℕ) → Command → Type 0
WordsOf words (Go budget sources) = AreGo words budget sources

-- the bytes of each word
abbrev pub bytes_of : List (String Global) → List (List ℕ)
bytes_of words = map (λ word. string_bytes word) words
