-- The numbers of run errors, written out. All else names an error and would follow a number that is changed in the code;
-- here such a number is refused.
use Rattle.std.proofs.Common.{◌≡◌, refl, ℕ, List, [], ◌∷◌, map}
use Rattle.ep_values.specs.declared.run_error.TheConstants as run_error

-- each error with its number, which a report tells (own)
abbrev numbered : List (ℕ × ℕ)
numbered =
    (run_error.UNDEFINED_VALUE, 1) ∷ (run_error.OUTSIDE_TYPE, 2) ∷ (run_error.INDEX, 3) ∷
    (run_error.DISCRIMINANT, 4) ∷ (run_error.OUTSIDE_DOMAIN, 5) ∷ (run_error.TUPLES_DIFFER, 6) ∷
    (run_error.CAPACITY, 7) ∷ (run_error.OVERFLOW, 8) ∷ (run_error.DIVISOR, 9) ∷ (run_error.NIL, 10) ∷
    (run_error.DISPOSED, 11) ∷ (run_error.NO_CASE, 12) ∷ (run_error.INACTIVE_VARIANT, 13) ∷
    (run_error.SUCCESSOR, 14) ∷ (run_error.SUBSTRING, 15) ∷ (run_error.PAST_END, 16) ∷
    (run_error.NOT_AN_INTEGER, 17) ∷ (run_error.FILE_STATE, 18) ∷ (run_error.BOUND_ALREADY, 19) ∷
    (run_error.FILE_MISSING, 20) ∷ (run_error.NEGATIVE_WIDTH, 21) ∷ (run_error.RESULT_UNDEFINED, 22) ∷
    (run_error.SET_MEMBER, 23) ∷ (run_error.STORAGE_LIMIT, 24) ∷ (run_error.CALL_DEPTH, 25) ∷
    (run_error.LAST, 25) ∷ []

-- the numbers are these
errors_are_numbered : map (λ e. e.0) numbered ≡ map (λ e. e.1) numbered
errors_are_numbered = refl
