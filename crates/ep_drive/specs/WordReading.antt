-- The command of a list of words, word by word from the left, as the reader finds it.
use Rattle.std.specs.Prelude.{◌≡◌, ℕ, ◌^◌, ◌&&◌, ◌==◌, nat_lt, nat_le, if◌then◌else◌, List, [], ◌∷◌, length, codes}
use Rattle.std.specs.Prelude.{Option, Some, None, is_some, unwrap_or}
use Rattle.std.specs.Char.{is_ascii_digit}
use Rattle.std.specs.List.{list_all}
use Rattle.std.specs.Option.{option_map}
use Rattle.std.specs.Str.{bytes_eq}
use Rattle.ep_drive.specs.Commands.{Command, Go, is_option, usual_budget}
use Rattle.ep_drive.specs.Numbers.{number_of}
use Rattle.ep_drive.specs.declared.words.Expected.{Expected}
use Rattle.ep_drive.specs.declared.words.Expected.TheVariants.{Any, Ticks, Source}
use Rattle.ep_drive.specs.declared.words.Row.{Row}

infixl 10 ◌>>=◌
abbrev pub ◌>>=◌ : {A B : Type 0} → Option A → (A → Option B) → Option B
(Some x) >>= f = f x
None >>= f = None

-- what a function returned, seen by view, is what reading gives
abbrev pub Gives : {X Y : Type 0} → (X → Y) → Option X → Option Y → Type 0
Gives view (Some x) read = read ≡ Some (view x)
Gives view None read = read ≡ None

-- what the words so far ask for, and what may follow
pub record Taken : Type 0 where
  pub expected : Expected
  pub ticks : Option ℕ
  pub source : Option (List ℕ)

abbrev pub taken : Expected → Option ℕ → Option (List ℕ) → Taken
taken expected ticks source = record { expected = expected; ticks = ticks; source = source }

-- the code's row, without where its source lies
abbrev pub taken_by : Row → Taken
taken_by r = taken r.expected r.ticks (option_map (λ source. source.now) r.source)

-- a number of ticks
abbrev pub as_ticks : ℕ → Option ℕ
as_ticks n = if nat_lt 0 n && nat_lt n (10 ^ 10) then Some n else None

-- the number of ticks that a text spells
abbrev pub ticks_of : List ℕ → Option ℕ
ticks_of text = if list_all is_ascii_digit text && nat_le (length text) 10 then number_of text >>= as_ticks else None

-- what follows a front
abbrev pub after_front : List ℕ → List ℕ → Option (List ℕ)
after_front [] text = Some text
after_front (byte ∷ front) [] = None
after_front (byte ∷ front) (next ∷ text) = if next == byte then after_front front text else None

-- after the number of an option
abbrev pub take_ticks : Taken → List ℕ → Option Taken
take_ticks r text = if is_some r.ticks then None else ticks_of text >>= λ n. Some (taken Any (Some n) r.source)

-- after a source
abbrev pub take_source : Taken → List ℕ → Option Taken
take_source r word = if is_some r.source then None else Some (taken r.expected r.ticks (Some word))

-- after a word that is not one of the options without a number in it
abbrev pub take_other : Taken → List ℕ → Option (List ℕ) → Option Taken
take_other r word (Some text) = take_ticks r text
take_other r word None = if is_option word then None else take_source r word

-- after a word where options may stand
abbrev pub take_any : Taken → List ℕ → Option Taken
take_any r word =
    if bytes_eq word (codes "--") then Some (taken Source r.ticks r.source)
    else if bytes_eq word (codes "--ticks") then Some (taken Ticks r.ticks r.source)
    else take_other r word (after_front (codes "--ticks=") word)

-- after one more word
abbrev pub take_as : Expected → Taken → List ℕ → Option Taken
take_as Any r word = take_any r word
take_as Ticks r word = take_ticks r word
take_as Source r word = take_source r word

unfoldable pub take_word : Taken → List ℕ → Option Taken
take_word r word = take_as r.expected r word

-- after more words
abbrev pub take_words : Taken → List (List ℕ) → Option Taken
take_words r [] = Some r
take_words r (word ∷ words) = take_word r word >>= λ next. take_words next words

-- the command, where no number is wanting and there is a source
abbrev pub asked_with : Expected → Option ℕ → Option (List ℕ) → Option Command
asked_with Ticks ticks source = None
asked_with _ ticks None = None
asked_with _ ticks (Some source) = Some (Go (unwrap_or ticks usual_budget) (source ∷ []))

abbrev pub asked : Taken → Option Command
asked r = asked_with r.expected r.ticks r.source

abbrev pub nothing_taken : Taken
nothing_taken = taken Any None None

-- the command of the words behind the first one
abbrev pub read_row : List (List ℕ) → Option Command
read_row words = take_words nothing_taken words >>= asked

-- the command of all words
abbrev pub read_words : List (List ℕ) → Option Command
read_words [] = None
read_words (word ∷ words) =
    if bytes_eq word (codes "go") && nat_lt (length (word ∷ words)) (2 ^ 32) then read_row words else None
