-- Calls of routines: what is handed over, what a call does, and how long it is under way.
use Rattle.std.specs.Prelude.{ℕ, suc, ◌+◌, ◌||◌, not, nat_le, List, [], ◌∷◌, length}
use Rattle.ep_values.specs.Printing.{Result}
use Rattle.ep_meaning.specs.Steps.{Component, Call, State, Resources, Outcome, Gives, Ends, Cut, Computation, watched}
use Rattle.ep_meaning.specs.Steps.{with_all_ended, around_by}
use Rattle.ep_typed.specs.Trees.{Callee}
use Rattle.ep_values.specs.TypeValues.{TypeValue}

-- what is handed over for a formal: a value, or a variable (ISO 10206, 6.7.3)
pub data Argument : Type 0 where
  Value : (result : Result) → Argument
  Variable : (variable : Component) → Argument

-- What calls do. That of a routine is told by the unit and the line of the statement or declaration that makes it, the
-- routine, and the arguments; it gives as many results as the routine has. The elaboration of a type by its name
-- counts as a
-- call too (own): it is told by the unit and the line that need the type, and by its place in that unit's list of
-- types.
pub record Handler : Type 0 where
  pub routine : List ℕ → ℕ → Callee → List Argument → Computation (List Result)
  pub named_type : List ℕ → ℕ → ℕ → Computation TypeValue

-- The words that are set aside for an activation. With the auxiliary variables of `for`, which are two of two words
-- each and
-- one of nine, none counts more than 64 besides its own variables.
abbrev pub activation_words : ℕ
activation_words = 51

-- every run has room for so many calls in each other
abbrev pub room_for_calls : ℕ
room_for_calls = 9000

-- so many calls are under way
abbrev pub nested : ℕ → Resources → Resources
nested depth r = record r { lost = r.lost || not (nat_le depth room_for_calls) }

-- one more call is under way, of a routine that is declared so many levels up, and so many words are set aside for its
-- activation
abbrev pub entered : ℕ → ℕ → Call → State → State
entered words levels x s =
    record s {
      calls = record x { around = around_by levels s.calls } ∷ s.calls;
      resources =
          nested (suc (length s.calls)) (watched (record s.resources { reserved = s.resources.reserved + words }));
    }

-- what was made in the innermost call
abbrev pub made_in : List Call → List ℕ
made_in [] = []
made_in (c ∷ calls) = c.made

-- those before it are under way, and what was set aside for it is given back
abbrev pub back_in : State → State → State
back_in before s =
    record s { calls = before.calls; resources = record s.resources { reserved = before.resources.reserved } }

-- when a call is left what was made in it ends (ISO 10206, 6.2.3.2)
abbrev pub left_from : State → State → State
left_from before s = back_in before (with_all_ended (made_in s.calls) s)

abbrev pub given_back : {A : Type 0} → State → Outcome A → Outcome A
given_back before (Gives left a s) = Gives left a (left_from before s)
given_back before (Ends left e s) = Ends left e s
given_back before (Cut s) = Cut s

-- a computation while a call is under way, of a routine that is declared so many levels up, for which so many words
-- are set
-- aside
abbrev pub in_call : {A : Type 0} → ℕ → ℕ → Call → Computation A → Computation A
in_call words levels x c m s = given_back s (c m (entered words levels x s))
