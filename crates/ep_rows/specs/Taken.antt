-- A component that is taken out of a value.
use Rattle.std.specs.Prelude.{◌≤◌, ℕ, ℤ, ◌+◌, List, ◌∷◌, length, Option, Some, None, ⊤}
use Rattle.ep_object.specs.Effects.{Breaks, Continues, Fails, Work, having, having_weighed, light, weighing}
use Rattle.ep_object.specs.Operands.{Operand, Value}
use Rattle.ep_object.specs.Places.{loaded, set_defined, words_at}
use Rattle.ep_frames.specs.Members.{set_of}
use Rattle.ep_rows.specs.declared.parts.AtIndex.{AtIndex}
use Rattle.ep_rows.specs.declared.parts.AtIndex.TheVariants as at_index
use Rattle.ep_rows.specs.declared.parts.Found.{Found}
use Rattle.ep_rows.specs.declared.parts.Content.{Content}
use Rattle.ep_rows.specs.declared.parts.Content.TheVariants as content
use Rattle.ep_values.specs.declared.run_error.TheConstants as run_error

-- what comes of a component with the type of this number whose words begin at an offset in those of a value
abbrev pub part_told : List ℤ → ℕ → ℕ → Content → List Operand → Work (List Operand)
part_told ws offset n (content.Word w) st = weighing (length ws) (having w (λ x. loaded x st))
part_told ws offset n (content.Set w m) st = weighing (length ws) (having w (λ x. set_defined x (set_of m) st))
part_told ws offset n (content.Words size) st =
    having_weighed (words_at ws offset size) (λ us. weighing (length ws + length us) (Continues (Value n us ∷ st)))

-- what comes of one that was found, or of broken code in its place
abbrev pub found_told : List ℤ → Option Found → List Operand → Work (List Operand)
found_told ws None st = light Breaks
found_told ws (Some f) st = part_told ws f.offset f.type_number f.content st

-- what comes of what is at an index
abbrev pub element_told : List ℤ → AtIndex → List Operand → Work (List Operand)
element_told ws at_index.Broken st = light Breaks
element_told ws at_index.Outside st = weighing (length ws) (Fails run_error.INDEX)
element_told ws (at_index.There f) st = found_told ws (Some f) st

-- as many words as the component has are there, from the offset on
abbrev pub IsThere : List ℤ → ℕ → Content → Type 0
IsThere ws offset (content.Word w) = ⊤
IsThere ws offset (content.Set w m) = ⊤
IsThere ws offset (content.Words size) = offset + size ≤ length ws

-- where an element is found it is there
abbrev pub OnThere : List ℤ → AtIndex → Type 0
OnThere ws at_index.Broken = ⊤
OnThere ws at_index.Outside = ⊤
OnThere ws (at_index.There f) = IsThere ws f.offset f.content

-- the ticks that a component spends that is taken out of a value of so many words
abbrev pub weight_of : ℕ → Content → ℕ
weight_of size (content.Word w) = size
weight_of size (content.Set w m) = size
weight_of size (content.Words kept) = size + kept
