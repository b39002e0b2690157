-- The machine matches the meaning before the first start.
use Rattle.std.proofs.Common.{◌≡◌, ℕ, zero, suc, ◌≤◌, List, [], ◌∷◌, length, Option, Some, None, slice_get, replicate, map, refl, sym, ap, ◌∙◌, subst, arith, option_map}
use Rattle.std.specs.Prelude.{pos, int_le, if◌then◌else◌}
use Rattle.ep_values.specs.Operations.{last_char}
use Rattle.ep_object.specs.declared.state.TypeKind.TheVariants as kind
use Rattle.ep_simulation.specs.Layouts.{Layout}
use Rattle.ep_simulation.specs.Matching.{MachineMemory, Injection, IsIn, IsOf, HasSize, MatchesSlot, Represents, IsRepresented, Matches, Describes}
use Rattle.ep_object.specs.State.{Frames, TypeTable, empty_slots, first_segments, first_types, integer_entry, char_entry, boolean_entry, text_entry, pointer_entry, first_live, undefined}
use Rattle.ep_object.specs.declared.code.Image.{Image}
use Rattle.ep_object.specs.declared.state.Place.{Place}
use Rattle.ep_object.specs.declared.state.TypeKind.{TypeKind}
use Rattle.ep_object.specs.declared.state.TypeKind.TheVariants.{Ord, Pointer, Text, Array, Record, Set}
use Rattle.ep_object.specs.declared.state.TypeEntry.{TypeEntry}
use Rattle.ep_object.proofs.public.Grows.{is_prefix}
use Rattle.ep_meaning.specs.Steps.{Component, Allocation}
use Rattle.ep_meaning.specs.Steps as meaning
use Rattle.ep_values.specs.TypeValues.{TypeValue, bare_of}
use Rattle.ep_values.specs.TypeValues as type

-- before the first start, in these frames
abbrev pub first_memory : Frames → MachineMemory
first_memory frames = record { frames = frames; segments = first_segments; types = first_types; live = first_live }

-- `input` and `output` have the first two segments
abbrev pub first_injection : Injection
first_injection = record { segment = 1; type_value = type.Text } ∷ record { segment = 2; type_value = type.Text } ∷ []

-- an element of a list is mapped in its place
pub map_at : {A B : Type 0} (f : A → B) (xs : List A) (k : ℕ) (x : A) → slice_get xs k ≡ Some x
    → slice_get (map f xs) k ≡ Some (f x)
map_at f [] k x h = cc
map_at f (y ∷ ys) zero x h = let e : y ≡ x = cc in ap (λ z. Some (f z)) e
map_at f (y ∷ ys) (suc k) x h = map_at f ys k x h

replicate_at : {A : Type 0} (n : ℕ) (x y : A) (k : ℕ) → slice_get (replicate n x) k ≡ Some y → x ≡ y
replicate_at zero x y k h = cc
replicate_at (suc n) x y zero h = cc
replicate_at (suc n) x y (suc k) h = replicate_at n x y k h

length-replicate : {A : Type 0} (n : ℕ) (x : A) → length (replicate n x) ≡ n
length-replicate zero x = refl
length-replicate (suc n) x = ap suc (length-replicate n x)

-- no slot holds a place yet
empty_slot : (types : TypeTable) (slot : Option Place) → ◌≡◌ {A = Option Place} None slot
    → MatchesSlot first_injection types None slot
empty_slot types None h = tt
empty_slot types (Some place) h = cc

-- the first types have the sizes that their kinds give
first_sized : (n : ℕ) (entry : TypeEntry) → slice_get first_types n ≡ Some entry
    → HasSize first_types entry.kind entry.size
first_sized zero e h = let f : integer_entry ≡ e = cc in subst (λ x. HasSize first_types x.kind x.size) f refl
first_sized (suc zero) e h = let f : char_entry ≡ e = cc in subst (λ x. HasSize first_types x.kind x.size) f refl
first_sized (suc (suc zero)) e h = let f : boolean_entry ≡ e = cc in subst (λ x. HasSize first_types x.kind x.size) f refl
first_sized (suc (suc (suc zero))) e h = let f : text_entry ≡ e = cc in subst (λ x. HasSize first_types x.kind x.size) f refl
first_sized (suc (suc (suc (suc zero)))) e h = let f : pointer_entry ≡ e = cc in subst (λ x. HasSize first_types x.kind x.size) f refl
first_sized (suc (suc (suc (suc (suc n))))) e h = cc

-- the place of a first type is told by its kind
abbrev spot_kind : TypeKind → ℕ
spot_kind (Ord low high) = if int_le high (pos 1) then 2 else (if int_le high (pos last_char) then 1 else 0)
spot_kind Text = 3
spot_kind Pointer = 4
spot_kind (Array low high c) = 5
spot_kind (Record ps) = 5
spot_kind (Set low high) = 5

place_is : (n : ℕ) (entry : TypeEntry) → slice_get first_types n ≡ Some entry → spot_kind entry.kind ≡ n
place_is zero e h = let f : integer_entry ≡ e = cc in subst (λ x. spot_kind x.kind ≡ 0) f refl
place_is (suc zero) e h = let f : char_entry ≡ e = cc in subst (λ x. spot_kind x.kind ≡ 1) f refl
place_is (suc (suc zero)) e h = let f : boolean_entry ≡ e = cc in subst (λ x. spot_kind x.kind ≡ 2) f refl
place_is (suc (suc (suc zero))) e h = let f : text_entry ≡ e = cc in subst (λ x. spot_kind x.kind ≡ 3) f refl
place_is (suc (suc (suc (suc zero)))) e h = let f : pointer_entry ≡ e = cc in subst (λ x. spot_kind x.kind ≡ 4) f refl
place_is (suc (suc (suc (suc (suc n))))) e h = cc

-- no first type stands twice
first_shared : (m n : ℕ) (entry : TypeEntry) → slice_get first_types m ≡ Some entry
    → slice_get first_types n ≡ Some entry → m ≡ n
first_shared m n e at_m at_n = sym (place_is m e at_m) ∙ place_is n e at_n

first_within : (n segment : ℕ) → IsIn first_injection n segment → suc segment ≤ 3
first_within zero segment h = absurd h
first_within (suc zero) segment h = let e : 1 ≡ segment = cc in omega arith
first_within (suc (suc zero)) segment h = let e : 2 ≡ segment = cc in omega arith
first_within (suc (suc (suc n))) segment h = cc

first_apart : (m n segment : ℕ) → IsIn first_injection m segment → IsIn first_injection n segment → m ≡ n
first_apart zero n segment h k = absurd h
first_apart m zero segment h k = absurd k
first_apart (suc zero) (suc zero) segment h k = refl
first_apart (suc (suc zero)) (suc (suc zero)) segment h k = refl
first_apart (suc zero) (suc (suc zero)) segment h k = let e : 1 ≡ segment = cc in let f : 2 ≡ segment = cc in absurd (omega arith)
first_apart (suc (suc zero)) (suc zero) segment h k = let e : 2 ≡ segment = cc in let f : 1 ≡ segment = cc in absurd (omega arith)
first_apart (suc (suc (suc m))) n segment h k = cc
first_apart m (suc (suc (suc n))) segment h k = cc

first_typed : (n : ℕ) (t : TypeValue) → IsOf first_injection n t
    → option_map bare_of (meaning.type_in (meaning.allocation_at meaning.first_state.allocations n)) ≡ Some t
first_typed zero t h = absurd h
first_typed (suc zero) t h = h
first_typed (suc (suc zero)) t h = h
first_typed (suc (suc (suc n))) t h = cc

-- a standard file
abbrev file : Allocation
file = meaning.standard_allocation

file_described : Describes first_types 3 type.Text
file_described = record { kind = kind.Text; bare = None; stands = refl; is_kind = refl; form = refl; other = refl }

input_represented : Represents first_injection first_segments first_types 1 file
input_represented = record { type_number = 3; words = undefined ∷ []; stands = refl; described = file_described; sized = refl; holds = refl }

output_represented : Represents first_injection first_segments first_types 2 file
output_represented = record { type_number = 3; words = undefined ∷ []; stands = refl; described = file_described; sized = refl; holds = refl }

first_represented : (n segment : ℕ) (allocation : Allocation) → IsIn first_injection n segment
    → meaning.allocation_at meaning.first_state.allocations n ≡ Some allocation
    → IsRepresented first_injection first_segments first_types segment allocation
first_represented zero segment a h k = absurd h
first_represented (suc zero) segment a h k = let e : 1 ≡ segment = cc in let f : file ≡ a = cc in subst (λ x. IsRepresented first_injection first_segments first_types x a) e (subst (λ x. IsRepresented first_injection first_segments first_types 1 x) f input_represented)
first_represented (suc (suc zero)) segment a h k = let e : 2 ≡ segment = cc in let f : file ≡ a = cc in subst (λ x. IsRepresented first_injection first_segments first_types x a) e (subst (λ x. IsRepresented first_injection first_segments first_types 2 x) f output_represented)
first_represented (suc (suc (suc n))) segment a h k = cc

no_place : (place : Place) → ◌≡◌ {A = Option Place} None (Some place) → ⊥
no_place place h = cc

nothing : (c : Component) → ◌≡◌ {A = Option Component} None (Some c) → ⊥
nothing c h = cc

-- no variable is made, no type is met, and nothing is written
pub first_matches : (layout : Layout) (G : Image) (frames : Frames)
    → frames.units ≡ map empty_slots G.units → frames.calls ≡ []
    → Matches layout G first_injection meaning.first_state (first_memory frames)
first_matches layout G frames empty alone =
    record {
      injected = record { made = refl; apart = first_apart; within = first_within; typed = first_typed };
      store = record { represented = first_represented };
      types = record { first = is_prefix first_types; sized = first_sized; shared = first_shared; known = λ t h. cc };
      units = record {
        frames = λ unit u there. record {
          slots = empty_slots u;
          is = ap (λ units. slice_get units unit) empty ∙ map_at empty_slots G.units unit u there;
          count = length-replicate u.slots None;
          matches = λ k v slot is_declared at_k. empty_slot first_types slot (replicate_at u.slots None slot k at_k);
          described = λ k v place t is_declared at_k has_type. absurd (no_place place (replicate_at u.slots None (Some place) k at_k));
        };
        typed = λ unit k c v h e. absurd (nothing c h);
      };
      outside = record { output = refl; file = refl; lives = refl };
      counts = record { words = omega arith; hidden = omega arith; number = omega arith };
      depth = omega (arith, ap length alone);
    }
