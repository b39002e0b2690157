-- The numbers of the static rules, written out. All else names a rule and would follow a number that is changed in the
-- code; here such a number is refused.
use Rattle.std.proofs.Common.{◌≡◌, refl, ℕ, List, [], ◌∷◌, map}
use Rattle.ep_scope.specs.declared.rule.TheConstants as rule

-- each rule with its number, which a refusal tells (own)
abbrev numbered : List (ℕ × ℕ)
numbered =
    (rule.TWICE, 1) ∷ (rule.UNDECLARED, 2) ∷ (rule.OTHER_THING, 3) ∷ (rule.INTERFACE, 4) ∷ (rule.CONSTITUENT, 5) ∷
    (rule.IMPORTED_TWICE, 6) ∷ (rule.NO_BODY, 7) ∷ (rule.REPEATED_HEADING, 8) ∷ (rule.DOMAIN, 9) ∷
    (rule.NOT_IN_HEADING, 10) ∷ (rule.EXPORTED_TWICE, 11) ∷ (rule.EXPORT_RANGE, 12) ∷ (rule.PROTECTED_EXPORT, 13) ∷
    (rule.HEADING, 14) ∷ (rule.PARAMETER, 15) ∷ (rule.STANDARD_FILE, 16) ∷ (rule.BOUND_CONSTANT, 17) ∷
    (rule.SCHEMA_BOUND, 18) ∷ (rule.EMPTY_RANGE, 19) ∷ (rule.ORDINAL, 20) ∷ (rule.SET_BASE, 21) ∷ (rule.HOSTS, 22) ∷
    (rule.DISCRIMINANTS, 23) ∷ (rule.SCHEMA_ALONE, 24) ∷ (rule.FILE_TYPE, 25) ∷ (rule.VARIANT_LABELS, 26) ∷
    (rule.INITIAL_STATE, 27) ∷ (rule.LARGE_TYPE, 28) ∷ (rule.BINDABLE, 29) ∷ (rule.TYPE_OF, 30) ∷
    (rule.RESTRICTED_TYPE, 31) ∷ (rule.OPERANDS, 32) ∷ (rule.CONSTANT, 33) ∷ (rule.VARIABLE_NEEDED, 34) ∷
    (rule.INDEX, 35) ∷ (rule.FIELD, 36) ∷ (rule.ARGUMENTS, 37) ∷ (rule.ASSIGNMENT, 38) ∷
    (rule.VARIABLE_ARGUMENT, 39) ∷ (rule.ARGUMENT_COMPONENT, 40) ∷ (rule.PROCEDURE, 41) ∷
    (rule.STRUCTURED_VALUE, 42) ∷ (rule.WIDTH, 43) ∷ (rule.WRITTEN_TYPE, 44) ∷ (rule.RESTRICTED_VALUE, 45) ∷
    (rule.PROTECTED, 46) ∷ (rule.CONSTANT_THREATENED, 47) ∷ (rule.CONTROL_THREATENED, 48) ∷
    (rule.CONTROL_VARIABLE, 49) ∷ (rule.FUNCTION_ASSIGNED, 50) ∷ (rule.NO_RESULT, 51) ∷ (rule.CASE_LABELS, 52) ∷
    (rule.WITH_RECORD, 53) ∷ (rule.POINTER_ARGUMENT, 54) ∷ (rule.CONDITION, 55) ∷ (rule.NOT_BINDABLE, 56) ∷
    (rule.REQUIRED_ARGUMENT, 57) ∷ (rule.TOO_DEEP, 58) ∷ []

-- the numbers are these
rules_are_numbered : map (λ e. e.0) numbered ≡ map (λ e. e.1) numbered
rules_are_numbered = refl
