-- What the rows on texts lead to.
use Rattle.std.proofs.Common.{◌≡◌, ℕ, ℤ, pos, negsuc, zero, suc, ◌+◌, ◌*◌, ◌<◌, true, IsTrue, List, [], ◌∷◌, length, Some, slice_get, refl, ap, ◌∙◌, arith, take, zero-add}
use Rattle.std.proofs.lemmas.Bool.{lt-ltb}
use Rattle.std.specs.Prelude.{ltb}
use Rattle.std.proofs.lemmas.Bool.Decides.{nat_tests}
use Rattle.std.proofs.lemmas.Option.{slice_get_within}
use Rattle.std.specs.Fmt.{signed_decimal}
use Rattle.std.specs.Prelude.{unsigned_abs}
use Rattle.ep_simulation.specs.Matching.{MachineMemory, at}
use Rattle.ep_object.specs.Operands.{Operand, Word, Text, weight}
use Rattle.ep_object.specs.Operands as operand
use Rattle.ep_object.specs.declared.state.Place.{Place}
use Rattle.ep_object.specs.Runs.{TurnOutcome, outcome, unit_in}
use Rattle.ep_object.specs.State.{Running, Stopped, Error}
use Rattle.ep_object.specs.Texts as rows
use Rattle.ep_object.specs.WordRows.{is_boolean}
use Rattle.ep_object.specs.declared.code.Image.{Image}
use Rattle.ep_simulation.proofs.rows.Answers.{is_boolean-same}
use Rattle.ep_simulation.proofs.public.rows.Rows.{instr, RowPushes, outcome_at}
use Rattle.ep_values.specs.Operations.{last_char}
use Rattle.ep_values.specs.Events.{Trace}
use Rattle.ep_values.specs.Printing.{Number, Bytes, boolean_text, plain_text, wide_text, piece_events}
use Rattle.ep_typed.specs.Hosts.{is_of_host}
use Rattle.ep_values.specs.declared.operations.Print.TheVariants as print
use Rattle.ep_typed.specs.Hosts as host
use Rattle.ep_object.specs.declared.op.TheConstants as op
use Rattle.ep_values.specs.declared.run_error.TheConstants as run_error

-- the words of a Boolean are the same
pub boolean_text-same : (z : ℤ) → rows.boolean_text z ≡ boolean_text z
boolean_text-same (pos zero) = refl
boolean_text-same (pos (suc n)) = refl
boolean_text-same (negsuc n) = refl

-- so are the events of a text that is written
pub written-same : (bytes : List ℕ) → rows.written bytes ≡ piece_events bytes
written-same [] = refl
written-same (byte ∷ bytes) = refl

-- the instruction at the place fails so, after these ticks besides one
abbrev pub RowFails : Image → ℕ → ℕ → List Operand → ℕ → ℕ → Type 0
RowFails G place line operands weight number =
    (memory : MachineMemory) (trace : Trace) → outcome G (at place operands memory trace) ≡ record { weight = weight; to = Stopped (Error number (unit_in G memory.frames) line) trace }

-- an outcome that pushes a text
abbrev pub text_on : ℕ → List Operand → MachineMemory → Trace → ℕ → List ℕ → TurnOutcome
text_on place below memory trace weight bytes = record { weight = weight; to = Running 0 (at (place + 1) (Text bytes ∷ below) memory trace) }

module _ (G : Image) (place line : ℕ) (below : List Operand) where
  -- a text of the image
  pub text_pushes : (k : ℕ) (bytes : List ℕ) → slice_get G.texts k ≡ Some bytes → slice_get G.instructions place ≡ Some (instr op.TEXT (pos k) 0 line) → RowPushes G place below (length bytes) (Text bytes ∷ below)
  text_pushes k bytes there has memory trace =
      let inside : k < length G.texts = slice_get_within G.texts k bytes there in
      outcome_at G (instr op.TEXT (pos k) 0 line) place below memory trace has ∙ (rw (lt-ltb k (length G.texts) inside, there) refl ∙ ap (λ w. text_on place below memory trace w bytes) (zero-add (length bytes)))

  -- `Chars`, of a char
  pub chars_pushes : (z : ℤ) → IsTrue (is_of_host host.Char z) → slice_get G.instructions place ≡ Some (instr op.CHARS (pos 0) 0 line) → RowPushes G place (Word z ∷ below) 1 (Text (unsigned_abs z ∷ []) ∷ below)
  chars_pushes (pos c) h has memory trace =
      let inside : ltb c (last_char + 1) ≡ true = grind (arith, nat_tests) in
      outcome_at G (instr op.CHARS (pos 0) 0 line) place (Word (pos c) ∷ below) memory trace has ∙ rw inside refl
  chars_pushes (negsuc n) h has memory trace = absurd (no h)
    where
      no : IsTrue (is_of_host host.Char (negsuc n)) → ⊥
      no h = grind (arith, nat_tests)

  -- `Form`, of an integer
  pub form_integer : (z : ℤ) → slice_get G.instructions place ≡ Some (instr op.FORM (pos 0) 0 line) → RowPushes G place (Word z ∷ below) (length (plain_text print.Integer (Number z))) (Text (plain_text print.Integer (Number z)) ∷ below)
  form_integer z has memory trace =
      outcome_at G (instr op.FORM (pos 0) 0 line) place (Word z ∷ below) memory trace has ∙ ap (λ w. text_on place below memory trace w (signed_decimal z)) (zero-add (length (signed_decimal z)))

  -- of a Boolean
  pub form_boolean : (z : ℤ) → IsTrue (is_of_host host.Boolean z) → slice_get G.instructions place ≡ Some (instr op.FORM (pos 1) 0 line) → RowPushes G place (Word z ∷ below) (length (plain_text print.Boolean (Number z))) (Text (plain_text print.Boolean (Number z)) ∷ below)
  form_boolean z h has memory trace =
      let e : is_boolean z ≡ true = is_boolean-same z h in
      outcome_at G (instr op.FORM (pos 1) 0 line) place (Word z ∷ below) memory trace has ∙ (rw e refl ∙ (ap (λ x. text_on place below memory trace (0 + length x) x) (boolean_text-same z) ∙ ap (λ w. text_on place below memory trace w (boolean_text z)) (zero-add (length (boolean_text z)))))

  -- in so many places, of an integer
  pub form_wide_integer : (z : ℤ) (width : ℕ) → slice_get G.instructions place ≡ Some (instr op.FORM (pos 0) 1 line) → RowPushes G place (Word (pos width) ∷ Word z ∷ below) (length (wide_text print.Integer width (Number z))) (Text (wide_text print.Integer width (Number z)) ∷ below)
  form_wide_integer z width has memory trace =
      let text : List ℕ = wide_text print.Integer width (Number z) in
      outcome_at G (instr op.FORM (pos 0) 1 line) place (Word (pos width) ∷ Word z ∷ below) memory trace has ∙ ap (λ w. text_on place below memory trace w text) (zero-add (length text))

  -- of a Boolean
  pub form_wide_boolean : (z : ℤ) (width : ℕ) → IsTrue (is_of_host host.Boolean z) → slice_get G.instructions place ≡ Some (instr op.FORM (pos 1) 1 line) → RowPushes G place (Word (pos width) ∷ Word z ∷ below) (length (wide_text print.Boolean width (Number z))) (Text (wide_text print.Boolean width (Number z)) ∷ below)
  form_wide_boolean z width h has memory trace =
      let text : List ℕ = wide_text print.Boolean width (Number z) in
      let e : is_boolean z ≡ true = is_boolean-same z h in
      outcome_at G (instr op.FORM (pos 1) 1 line) place (Word (pos width) ∷ Word z ∷ below) memory trace has ∙ (rw e refl ∙ (ap (λ x. text_on place below memory trace (0 + length (rows.padded width (take width x))) (rows.padded width (take width x))) (boolean_text-same z) ∙ ap (λ w. text_on place below memory trace w text) (zero-add (length text))))

  -- of a text, as of a char that has become one; the text is popped
  pub form_wide_text : (bytes : List ℕ) (width : ℕ) → slice_get G.instructions place ≡ Some (instr op.FORM (pos 2) 1 line) → RowPushes G place (Word (pos width) ∷ Text bytes ∷ below) (length bytes + length (wide_text print.Text width (Bytes bytes))) (Text (wide_text print.Text width (Bytes bytes)) ∷ below)
  form_wide_text bytes width has memory trace = outcome_at G (instr op.FORM (pos 2) 1 line) place (Word (pos width) ∷ Text bytes ∷ below) memory trace has

  -- a negative width is an error
  pub form_negative_integer : (z : ℤ) (n : ℕ) → slice_get G.instructions place ≡ Some (instr op.FORM (pos 0) 1 line) → RowFails G place line (Word (negsuc n) ∷ Word z ∷ below) 0 run_error.NEGATIVE_WIDTH
  form_negative_integer z n has memory trace = outcome_at G (instr op.FORM (pos 0) 1 line) place (Word (negsuc n) ∷ Word z ∷ below) memory trace has

  -- for a Boolean
  pub form_negative_boolean : (z : ℤ) (n : ℕ) → IsTrue (is_of_host host.Boolean z) → slice_get G.instructions place ≡ Some (instr op.FORM (pos 1) 1 line) → RowFails G place line (Word (negsuc n) ∷ Word z ∷ below) 0 run_error.NEGATIVE_WIDTH
  form_negative_boolean z n h has memory trace =
      let e : is_boolean z ≡ true = is_boolean-same z h in
      outcome_at G (instr op.FORM (pos 1) 1 line) place (Word (negsuc n) ∷ Word z ∷ below) memory trace has ∙ rw e refl

  -- for a text
  pub form_negative_text : (bytes : List ℕ) (n : ℕ) → slice_get G.instructions place ≡ Some (instr op.FORM (pos 2) 1 line) → RowFails G place line (Word (negsuc n) ∷ Text bytes ∷ below) (length bytes) run_error.NEGATIVE_WIDTH
  form_negative_text bytes n has memory trace = outcome_at G (instr op.FORM (pos 2) 1 line) place (Word (negsuc n) ∷ Text bytes ∷ below) memory trace has

  -- the top operand goes
  pub drop_drops : (x : Operand) → slice_get G.instructions place ≡ Some (instr op.DROP (pos 0) 0 line) → RowPushes G place (x ∷ below) (weight x) below
  drop_drops x has memory trace = outcome_at G (instr op.DROP (pos 0) 0 line) place (x ∷ below) memory trace has

  -- a place is there twice
  pub dup_place : (q : Place) → slice_get G.instructions place ≡ Some (instr op.DUP (pos 0) 0 line) → RowPushes G place (operand.Place q ∷ below) 0 (operand.Place q ∷ operand.Place q ∷ below)
  dup_place q has memory trace = outcome_at G (instr op.DUP (pos 0) 0 line) place (operand.Place q ∷ below) memory trace has

  -- a value of an array or a record is there twice
  pub dup_value : (n : ℕ) (ws : List ℤ) → slice_get G.instructions place ≡ Some (instr op.DUP (pos 0) 0 line) → RowPushes G place (operand.Value n ws ∷ below) (3 * length ws) (operand.Value n ws ∷ operand.Value n ws ∷ below)
  dup_value n ws has memory trace = outcome_at G (instr op.DUP (pos 0) 0 line) place (operand.Value n ws ∷ below) memory trace has

  -- a number is there twice
  pub dup_pushes : (z : ℤ) → slice_get G.instructions place ≡ Some (instr op.DUP (pos 0) 0 line) → RowPushes G place (Word z ∷ below) 0 (Word z ∷ Word z ∷ below)
  dup_pushes z has memory trace = outcome_at G (instr op.DUP (pos 0) 0 line) place (Word z ∷ below) memory trace has
