-- The variables of a unit or of a routine that are threatened, gathered by their numbers.
use Rattle.std.specs.Prelude.{◌≡◌, ℕ, nat_eq, Bool, false, List, [], ◌∷◌, Option, Some, None, ◌||◌, ◌&&◌}
use Rattle.std.specs.List.{list_any}
use Rattle.ep_typed.specs.Trees.{Entire, OfUnit, OfRoutine, Stmt, WithRecord, with_form}
use Rattle.ep_typed.specs.declared.interface.Formal.{Formal}
use Rattle.ep_threats.specs.Callees.{Callees, formals_at}
use Rattle.ep_threats.specs.Threats.{inner_threatens, is_variable, place_threatens, threatens}
use Rattle.ep_threats.specs.declared.gathering.Owner.{Owner}
use Rattle.ep_threats.specs.declared.gathering.Owner.TheVariants as owner
use Rattle.ep_threats.specs.declared.routines.Gathered.{Gathered}
use Rattle.ep_threats.specs.declared.routines.Gathered.TheVariants as gathered

-- the variable of this number of the unit or of the routine
abbrev pub owned : Owner → ℕ → Entire
owned (owner.Unit unit) number = OfUnit unit.now number
owned (owner.Routine up) number = OfRoutine up number

-- whether a number is among these
abbrev pub has : List ℕ → ℕ → Bool
has numbers n = list_any (nat_eq n) numbers

-- whether it is this one
abbrev pub is_number : Option ℕ → ℕ → Bool
is_number None n = false
is_number (Some number) n = nat_eq n number

-- the numbers that pass are added
abbrev pub Adds : (ℕ → Bool) → List ℕ → List ℕ → Type 0
Adds passes old new = (n : ℕ) → has new n ≡ (has old n || passes n)

-- whether the place of a record threatens the variable, or is a component of it, while this statement, in which the
-- records behind it are open, threatens the variable that stands for it
abbrev pub record_threat : (List ℕ → ℕ → List Formal) → Entire → WithRecord → List WithRecord → Stmt → Bool
record_threat formals v r behind s =
    place_threatens formals v r.place || is_variable v r.place && threatens formals r.variable (with_form 0 behind s)

-- whether one of the records that are open in the statement does
abbrev pub opened_threat : (List ℕ → ℕ → List Formal) → Entire → List WithRecord → Stmt → Bool
opened_threat formals v [] s = false
opened_threat formals v (r ∷ behind) s = record_threat formals v r behind s || opened_threat formals v behind s

-- the numbers of the variables of the unit or of the routine that are threatened are added
abbrev pub Gathers : Owner → (Entire → Bool) → List ℕ → List ℕ → Type 0
Gathers of threat old new = Adds (λ n. threat (owned of n)) old new

-- whether a routine of the unit threatens this variable
abbrev pub one_threatens : Callees → Entire → Bool
one_threatens callees variable = list_any (λ r. threatens (formals_at callees) variable r.block) callees.own

-- the numbers are those of the variables that routines threaten
abbrev pub KnowsThreats : Gathered → Callees → List ℕ → Type 0
KnowsThreats gathered.Nothing callees numbers = Unit {0}
KnowsThreats (gathered.OfUnit unit) callees numbers =
    (n : ℕ) → has numbers n ≡ one_threatens callees (OfUnit unit.now n)
KnowsThreats (gathered.OfRoutine routine) callees numbers =
    (n : ℕ) → has numbers n ≡ inner_threatens routine callees n
