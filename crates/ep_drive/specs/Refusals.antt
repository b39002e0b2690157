-- Why a call is refused, and what it then answers and reports.
use Rattle.std.specs.Prelude.{◌≡◌, ℕ, ⊤, ◌⊎◌, List, [], ◌++◌, Some, codes, decimal}
use Rattle.ep_token.specs.Tokens.{Tokens, Stuck}
use Rattle.ep_token.specs.declared.refusal.TokenRefusal.{TokenRefusal}
use Rattle.ep_token.specs.declared.refusal.TokenRefusal.TheVariants as token
use Rattle.ep_token.specs.declared.token.Token.{Token}
use Rattle.ep_grammar.specs.declared.stop.TheConstants.{MAX_NESTING}
use Rattle.ep_parse.specs.Refusals.{Refuses}
use Rattle.ep_parse.specs.declared.text.ParseRefusal.{ParseRefusal}
use Rattle.ep_parse.specs.declared.text.ParseRefusal.TheVariants as parse
use Rattle.ep_tree.specs.declared.component.Component.{Component}
use Rattle.ep_stmt_rules.specs.declared.outcome.CheckRefusal.{CheckRefusal}
use Rattle.ep_stmt_rules.specs.declared.outcome.CheckRefusal.TheVariants as check
use Rattle.ep_check_unit.specs.Units.{BreaksAt, WaitsAt}
use Rattle.ep_drive.specs.ProgramTexts.{HasUnbuilt, HasBuilt, IsTooLarge}
use Rattle.ep_drive.specs.declared.source.SourceRefusal.{SourceRefusal}
use Rattle.ep_drive.specs.declared.source.SourceRefusal.TheVariants as source
use Rattle.ep_drive.specs.declared.source.SourceStop.{SourceStop}
use Rattle.ep_drive.specs.declared.source.SourceStop.TheVariants as stop
use Rattle.ep_drive.specs.declared.status.Status.{Status}
use Rattle.ep_drive.specs.declared.status.Status.TheVariants as status

-- the words are no command; a named file is missing, or has more bytes than a source may have; or its text is refused
pub data Refusal : Type 0 where
  Usage : Refusal
  Missing : (file : List ℕ) → Refusal
  TooLong : (file : List ℕ) (bytes : ℕ) → Refusal
  InSource : (file : List ℕ) (why : SourceRefusal) → Refusal

-- the most bytes of a source
abbrev pub source_limit : ℕ
source_limit = 1048576

-- ---- what is answered and reported

-- the source is outside the language, or it is not built
abbrev pub source_status : SourceRefusal → Status
source_status (source.NotBuilt line) = status.Unbuilt
source_status _ = status.SourceRefused

-- the status of a refusal
abbrev pub status_of : Refusal → Status
status_of Usage = status.Usage
status_of (Missing file) = status.FileMissing
status_of (TooLong file bytes) = status.FileMissing
status_of (InSource file why) = source_status why

-- what is reported behind the file where a line of its text is refused
abbrev pub on_line : ℕ → List ℕ → List ℕ
on_line line words = codes ": line " ++ decimal line ++ codes ": " ++ words

-- what is reported behind the file of a source that is refused; want of memory is no refusal, and has no words
abbrev pub source_words : SourceRefusal → List ℕ
source_words (source.Token (token.NoToken line)) = on_line line (codes "no token")
source_words (source.Token (token.OpenComment line)) = on_line line (codes "open comment")
source_words (source.Token (token.OpenString line)) = on_line line (codes "open string")
source_words (source.Token (token.BadNumber line)) = on_line line (codes "bad number")
source_words (source.Token (token.LongName line)) = on_line line (codes "long name")
source_words (source.Parse (parse.Syntax place line)) = on_line line (codes "syntax")
source_words (source.Parse (parse.Nested place line)) = on_line line (codes "nested")
source_words (source.NotBuilt line) = on_line line (codes "not built")
source_words (source.Broken b) = on_line b.line (codes "rule " ++ decimal b.rule)
source_words (source.TooLarge name nodes) = codes ": unit " ++ name ++ codes " too large " ++ decimal nodes
source_words _ = []

-- the report of a refusal, one line
abbrev pub report_of : Refusal → List ℕ
report_of Usage = codes "usage\n"
report_of (Missing file) = file ++ codes ": missing\n"
report_of (TooLong file bytes) = file ++ codes ": too long " ++ decimal bytes ++ codes "\n"
report_of (InSource file why) = file ++ source_words why ++ codes "\n"

-- ---- why a source is refused

-- the text has a place where nothing can be taken, which is refused so
abbrev pub IsStuck : List ℕ → TokenRefusal → Type 0
IsStuck text refusal = (place : ℕ) × Stuck text place refusal

-- the text has tokens, which are refused so
pub record HasNoTree (text : List ℕ) (refusal : ParseRefusal) : Type 0 where
  pub tokens : List Token
  pub are_tokens : Tokens text tokens
  pub refused : Refuses MAX_NESTING tokens refusal

-- the text is outside the language, and is refused so: it has no tokens, or these have no tree
abbrev pub IsOutside : List ℕ → SourceRefusal → Type 0
IsOutside text (source.Token why) = IsStuck text why
IsOutside text (source.Parse parse.NoMemory) = ⊥
IsOutside text (source.Parse why) = HasNoTree text why
IsOutside text (source.NotBuilt line) = ⊥
IsOutside text (source.Broken b) = ⊥
IsOutside text (source.TooLarge name nodes) = ⊥

-- The component, all of whose nodes are built, is ruled out so: its first item that breaks a static rule begins on
-- this line and the rule fails there; or it breaks none, and its first item that is accepted and not built begins on
-- this line; or its unit has too many nodes.
abbrev pub RulesOut : Component → SourceRefusal → Type 0
RulesOut component (source.Broken b) = BreaksAt component b.rule b.line
RulesOut component (source.NotBuilt line) = WaitsAt component line
RulesOut component (source.TooLarge name nodes) = IsTooLarge component name nodes
RulesOut component _ = ⊥

-- the text is such a component
abbrev pub IsRuledOut : List ℕ → SourceRefusal → Type 0
IsRuledOut text why = HasBuilt text (λ component. RulesOut component why)

-- the text is refused so: it is outside the language, or its first node that is not built begins on this line, or it
-- is ruled out
abbrev pub IsRefusedText : List ℕ → SourceRefusal → Type 0
IsRefusedText text (source.NotBuilt line) = HasUnbuilt text (Some line) ⊎ IsRuledOut text (source.NotBuilt line)
IsRefusedText text (source.Broken b) = IsRuledOut text (source.Broken b)
IsRefusedText text (source.TooLarge name nodes) = IsRuledOut text (source.TooLarge name nodes)
IsRefusedText text why = IsOutside text why

-- Two refusals of a source that are the same, but for which rule is named of those that fail at one item.
abbrev pub AreAlike : SourceRefusal → SourceRefusal → Type 0
AreAlike (source.Broken b) (source.Broken c) = b.line ≡ c.line
AreAlike why other = why ≡ other

-- some text is refused so, as none is for want of memory
abbrev pub RefusesSome : SourceRefusal → Type 0
RefusesSome why = (text : List ℕ) × IsRefusedText text why

-- the refusal of a source is one of a text
abbrev pub IsRefusal : Refusal → Type 0
IsRefusal (InSource file why) = RefusesSome why
IsRefusal _ = ⊤

-- ---- how a text comes to have no program

-- the text is refused so; want of memory says nothing of it
abbrev pub StopsText : List ℕ → SourceStop → Type 0
StopsText text (stop.Refused why) = IsRefusedText text why
StopsText text stop.NoMemory = ⊤

-- the component, all of whose nodes are built, is ruled out so; want of memory says nothing of it
abbrev pub StopsComponent : Component → SourceStop → Type 0
StopsComponent component (stop.Refused why) = RulesOut component why
StopsComponent component stop.NoMemory = ⊤

-- what becomes of a text that has no tokens
abbrev pub by_tokens : TokenRefusal → SourceStop
by_tokens token.NoMemory = stop.NoMemory
by_tokens why = stop.Refused (source.Token why)

-- what becomes of tokens that have no tree
abbrev pub by_grammar : ParseRefusal → SourceStop
by_grammar parse.NoMemory = stop.NoMemory
by_grammar why = stop.Refused (source.Parse why)

-- what becomes of a component that the static rules refuse
abbrev pub by_rules : CheckRefusal → SourceStop
by_rules (check.Broken b) = stop.Refused (source.Broken b)
by_rules (check.NotBuilt line) = stop.Refused (source.NotBuilt line)
by_rules check.NoMemory = stop.NoMemory
