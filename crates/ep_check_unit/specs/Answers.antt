-- What the functions answer of what is judged: the form, or a rule that fails first; want of memory is free.
use Rattle.std.specs.Prelude.{◌≡◌, ℕ, Bool, true, List, [], ◌∷◌, length, map, Option, Result, Ok, Err, IsTrue, ⊤}
use Rattle.ep_typed.specs.declared.denoter.Denoter.{Denoter}
use Rattle.ep_typed.specs.declared.tree.CaseRange.{CaseRange}
use Rattle.ep_typed.specs.declared.value.Value.{Value}
use Rattle.ep_scope.specs.declared.kind.Kind.{Kind}
use Rattle.ep_rules.specs.Judgements.{Judged, Accepts, when_accepted}
use Rattle.ep_rules.specs.declared.forms.Refusal.{Refusal}
use Rattle.ep_rules.specs.declared.forms.Refusal.TheVariants.{Rule, NoMemory}
use Rattle.ep_rules.specs.Answers.{Refuses}
use Rattle.ep_stmt_rules.specs.declared.outcome.CheckRefusal.{CheckRefusal}
use Rattle.ep_stmt_rules.specs.declared.outcome.CheckRefusal.TheVariants as refusal
use Rattle.ep_check_unit.specs.Declarations as spec
use Rattle.ep_check_unit.specs.Declarations.{Standing, Stands, falls_at}
use Rattle.ep_check_unit.specs.Blocks.{Block}
use Rattle.ep_check_unit.specs.Functions.{if_given}
use Rattle.ep_stmt_rules.specs.Answers.{locals_of}
use Rattle.ep_stmt_rules.specs.Statements as rows
use Rattle.ep_stmt_rules.specs.declared.statements.Locals.{Locals}
use Rattle.ep_check_unit.specs.Routines.{Headed}
use Rattle.ep_unit_rules.specs.declared.headings.Heading.{Heading}
use Rattle.ep_unit_rules.specs.declared.types.NamedType.{NamedType}
use Rattle.ep_unit_rules.specs.declared.types.Written.{Written}
use Rattle.ep_unit_rules.specs.declared.labels.Labels.{Labels}
use Rattle.ep_unit_rules.specs.declared.labels.TagValues.{TagValues}
use Rattle.ep_unit_rules.specs.declared.records.Listing.{Listing}
use Rattle.ep_unit_rules.specs.declared.records.WrittenField.{WrittenField}
use Rattle.ep_check_unit.specs.declared.variants.Gathered.{Gathered}
use Rattle.ep_unit_rules.specs.Answers.{field_in}
use Rattle.ep_unit_rules.specs.Constants.{entry_denoter, with_entry}
use Rattle.ep_unit_rules.specs.Types.{type_denoter}

-- the variables of a block, where their numbers have 32 bits
abbrev pub AnswersLocals : rows.Locals → Result Locals Refusal → Type 0
AnswersLocals all (Ok found) = locals_of found ≡ all
AnswersLocals all (Err (Rule rule)) = ⊥
AnswersLocals all (Err NoMemory) = ⊤

-- the block after what is judged, exactly where it is accepted, or a refusal
abbrev pub AnswersBlock : Result (Unit {0}) Refusal → Block → Judged Block → Type 0
AnswersBlock (Ok done) new judged = judged ≡ Accepts new
AnswersBlock (Err refusal) new judged = Refuses refusal judged

-- a rule that fails at the first item that breaks one, or want of memory
abbrev pub RefusesItems : CheckRefusal → Standing → Type 0
RefusesItems (refusal.Broken b) standing = IsTrue (falls_at b.rule b.line standing)
RefusesItems (refusal.NotBuilt line) standing = ⊥
RefusesItems refusal.NoMemory standing = ⊤

-- the block after some items, exactly where they break no rule, or a refusal
abbrev pub AnswersStanding : Result (Unit {0}) CheckRefusal → Block → Standing → Type 0
AnswersStanding (Ok done) new standing = standing ≡ Stands new
AnswersStanding (Err r) new standing = RefusesItems r standing

-- a result that is given, or a rule that fails in its place
abbrev pub AnswersGiven : ℕ → Bool → Result (Unit {0}) CheckRefusal → Type 0
AnswersGiven line given (Ok done) = given ≡ true
AnswersGiven line given (Err r) = (s : Standing) → RefusesItems r (if_given line given s)

-- types that are written, in a block
abbrev pub named_in : Block → NamedType → spec.Written
named_in b t = record { denoter = type_denoter t.name; of = t.of; kind = t.kind; nodes = t.nodes; block = b }

abbrev pub written_in : Block → Written → spec.Written
written_in b w = record { denoter = w.denoter; of = w.of; kind = w.kind; nodes = w.nodes; block = b }

-- index types from left to right, each with an entry where it needs one, and the block behind them
abbrev pub indexes_written : ℕ → List spec.DenoterPart → Block → Judged (List (Denoter × ℕ × TagValues) × Block)
indexes_written line [] b = Accepts ([], b)
indexes_written line (p ∷ ps) b =
    when_accepted
    (λ w. when_accepted
    (λ v. when_accepted (λ r. Accepts ((w.denoter, w.nodes, v) ∷ r.0, r.1)) (indexes_written line ps w.block))
    (spec.index_values w))
    (spec.settled_part p line b)

-- arrays of these index types over a type, the innermost first, each with an entry of its own
abbrev pub arrays_below : ℕ → List (Denoter × ℕ × TagValues) → spec.Written → spec.Written
arrays_below line [] w = w
arrays_below line (i ∷ is) w = spec.settled line (spec.array_over i.0 i.1 i.2 (arrays_below line is w))

-- a list of fields that is written, in a block
abbrev pub listed_in : Block → Listing → spec.Listed
listed_in b l = record { listing = l; block = b }

-- the ranges of a variant, with the labels behind it, in a block
abbrev pub labelled_in : Block → List CaseRange → Labels → spec.Labelled
labelled_in b ranges found = record { ranges = ranges; labels = found; block = b }

-- variants that are written so far, in a block
abbrev pub gathered_in : Block → Gathered → spec.Gathered
gathered_in b g =
    record {
      labels = g.labels;
      variants = g.variants;
      lists = g.lists;
      nodes = g.nodes;
      completing = g.completing;
      block = b;
    }

-- fields that are written, in a block
abbrev pub fields_in : Block → List WrittenField → spec.Fielded
fields_in b fields = record { fields = map field_in fields; block = b }

-- a routine that is declared, in a block
abbrev pub headed_in : Block → Heading → Headed
headed_in b h = record { number = h.number; parameters = h.parameters; result = h.result; block = b }

-- a constant's entry more, where it has one
abbrev pub with_constant_entry : List ℕ → Kind → Value → Block → Block
with_constant_entry name k v b = record b { constants = with_entry name (entry_denoter k v) v b.constants }

-- a type more, by its number
abbrev pub AnswersType : Option (List ℕ) → ℕ → Denoter → Block → Result ℕ Refusal → Block → Type 0
AnswersType name line d old (Ok number) new = (number ≡ length old.types) × (new ≡ spec.with_type name line d old)
AnswersType name line d old (Err (Rule rule)) new = ⊥
AnswersType name line d old (Err NoMemory) new = ⊤
