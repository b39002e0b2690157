-- A rule that fails in an item fails where the items of a block are taken: for the exits of the functions that declare.
use Rattle.std.proofs.Common.{◌≡◌, ℕ, nat_eq, ◌==◌, eq-eqb, Bool, true, false, ◌&&◌, [], ◌∷◌, refl, ap}
use Rattle.std.specs.Prelude.{IsTrue}
use Rattle.std.specs.List.{list_any}
use Rattle.ep_rules.specs.Judgements.{Judged, Accepts, Breaks}
use Rattle.ep_rules.specs.declared.forms.Refusal.{Refusal}
use Rattle.ep_rules.specs.declared.forms.Refusal.TheVariants.{Rule, NoMemory}
use Rattle.ep_rules.specs.Answers.{Refuses}
use Rattle.ep_stmt_rules.specs.Outcomes.{refused_at}
use Rattle.ep_stmt_rules.specs.Statements.{Fails, fails_at}
use Rattle.ep_scope.specs.declared.rule.TheConstants as rule
use Rattle.ep_stmt_rules.specs.declared.outcome.CheckRefusal.{CheckRefusal}
use Rattle.ep_stmt_rules.specs.declared.outcome.CheckRefusal.TheVariants as refusal
use Rattle.ep_check_unit.specs.Answers.{RefusesItems}
use Rattle.ep_check_unit.specs.Declarations.{Standing, Stands, Falls, and_then, at_line}
use Rattle.ep_check_unit.specs.Blocks.{Block}

both_pass : (a b : Bool) → a ≡ true → b ≡ true → (a && b) ≡ true
both_pass true b p q = q
both_pass false b p q = p

-- the refusal of an item on its line
pub line_refused : (line : ℕ) (e : Refusal) (j : Judged Block) → Refuses e j → RefusesItems (refused_at line e) (at_line line j)
line_refused line NoMemory j h = tt
line_refused line (Rule r) (Accepts b) h = cc
line_refused line (Rule r) (Breaks rules) h = both_pass (line == line) (list_any (nat_eq r) rules) (eq-eqb line line refl) h

pub then_refused : (more : Block → Standing) (r : CheckRefusal) (s : Standing) → RefusesItems r s → RefusesItems r (and_then more s)
then_refused more refusal.NoMemory s h = tt
then_refused more (refusal.NotBuilt line) s h = h
then_refused more (refusal.Broken b) (Stands block) h = cc
then_refused more (refusal.Broken b) (Falls line rules) h = h

-- what stands after it
pub then_stands : (more : Block → Standing) (s : Standing) (b : Block) → s ≡ Stands b → and_then more s ≡ more b
then_stands more s b is = ap (and_then more) is

-- a rule that fails on its line
pub there : (A : Type 0) (line : ℕ) → IsTrue (fails_at {A = A} rule.NO_BODY line (Fails line (rule.NO_BODY ∷ [])))
there A line = both_pass (line == line) (list_any (nat_eq rule.NO_BODY) (rule.NO_BODY ∷ [])) (eq-eqb line line refl) refl
