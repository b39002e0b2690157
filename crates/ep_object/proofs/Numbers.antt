-- The codes of instructions, the limits of a run and the numbers in its states, written out. All else names them and
-- would follow one that is changed in the code; here it is refused.
use Rattle.std.proofs.Common.{◌≡◌, refl, ℕ, List, [], ◌∷◌, map}
use Rattle.ep_object.specs.declared.limit.TheConstants as limit
use Rattle.ep_object.specs.declared.op.TheConstants as op
use Rattle.ep_object.specs.declared.state.TheConstants as state

-- each instruction with its code, which objects and images have (own)
abbrev codes : List (ℕ × ℕ)
codes =
    (op.PUSH, 0) ∷ (op.TEXT, 1) ∷ (op.DROP, 2) ∷ (op.DUP, 3) ∷ (op.JUMP, 4) ∷ (op.JUMP_FALSE, 5) ∷ (op.FAIL, 6) ∷
    (op.HALT, 7) ∷ (op.CALL, 8) ∷ (op.RETURN, 9) ∷ (op.ARG, 10) ∷ (op.PEEK, 11) ∷ (op.SLOT, 12) ∷ (op.UNIT, 13) ∷
    (op.BIND, 14) ∷ (op.MAKE, 15) ∷ (op.NEW, 16) ∷ (op.DISPOSE, 17) ∷ (op.DEREF, 18) ∷ (op.FIELD, 19) ∷
    (op.INDEX, 20) ∷ (op.DISC, 21) ∷ (op.LOAD, 22) ∷ (op.STORE, 23) ∷ (op.UNDEFINE, 24) ∷ (op.ADD, 25) ∷
    (op.SUB, 26) ∷ (op.MUL, 27) ∷ (op.DIV, 28) ∷ (op.MOD, 29) ∷ (op.NEG, 30) ∷ (op.ABS, 31) ∷ (op.SQR, 32) ∷
    (op.ODD, 33) ∷ (op.NOT, 34) ∷ (op.AND, 35) ∷ (op.OR, 36) ∷ (op.CMP, 37) ∷ (op.BETWEEN, 38) ∷ (op.CHECK, 39) ∷
    (op.STEP, 40) ∷ (op.SET_NONE, 41) ∷ (op.SET_ADD, 42) ∷ (op.SET_SPAN, 43) ∷ (op.SET_OP, 44) ∷ (op.SET_CMP, 45) ∷
    (op.IN, 46) ∷ (op.CARD, 47) ∷ (op.NEXT, 48) ∷ (op.LIKE, 49) ∷ (op.SAME, 50) ∷ (op.T_ORD, 51) ∷ (op.T_SET, 52) ∷
    (op.T_ARR, 53) ∷ (op.T_STR, 54) ∷ (op.T_REC, 55) ∷ (op.T_SCH, 56) ∷ (op.T_INIT, 57) ∷ (op.T_CONST, 58) ∷
    (op.CHARS, 59) ∷ (op.TO_CHAR, 60) ∷ (op.JOIN, 61) ∷ (op.TEXT_CMP, 62) ∷ (op.LENGTH, 63) ∷ (op.FIND, 64) ∷
    (op.CUT, 65) ∷ (op.TRIM, 66) ∷ (op.FORM, 67) ∷ (op.PUT, 68) ∷ (op.GET, 69) ∷ (op.GET_LINE, 70) ∷ (op.EOF, 71) ∷
    (op.EOLN, 72) ∷ (op.OPEN, 73) ∷ (op.BIND_FILE, 74) ∷ (op.UNBIND, 75) ∷ (op.BINDING, 76) ∷ (op.DEFINED, 77) ∷ []

-- the codes are these
instructions_have_codes : map (λ e. e.0) codes ≡ map (λ e. e.1) codes
instructions_have_codes = refl

-- each limit (own)
abbrev limits : List (ℕ × ℕ)
limits =
    (limit.LIVE_WORDS, 16777216) ∷ (limit.TYPE_WORDS, 16777216) ∷ (limit.TYPES, 1048576) ∷ (limit.CALLS, 10000) ∷ []

-- they are these
runs_are_limited : map (λ e. e.0) limits ≡ map (λ e. e.1) limits
runs_are_limited = refl

-- each number that states have (own)
abbrev state_numbers : List (ℕ × ℕ)
state_numbers =
    (state.TEXT_TYPE, 3) ∷ (state.INPUT_SEGMENT, 1) ∷ (state.OUTPUT_SEGMENT, 2) ∷ (state.SET_MEMBERS, 256) ∷
    (state.SET_WORDS, 8) ∷ (state.WORD_MEMBERS, 32) ∷ (state.FIRST_LIVE_WORDS, 4) ∷ []

-- they are these
states_are_numbered : map (λ e. e.0) state_numbers ≡ map (λ e. e.1) state_numbers
states_are_numbered = refl
