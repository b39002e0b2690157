-- Array types that are written in a block: the unit that has the block's lists has them as valid types.
use Rattle.std.proofs.Common.{◌≡◌, ℕ, ℤ, suc, ◌<◌, ◌≤◌, [], length, Some, None, refl, sym, ◌∙◌, subst, arith}
use Rattle.std.proofs.lemmas.Option.{slice_get_within}
use Rattle.ep_typed.specs.Denoters.{ArrayParts, array_of}
use Rattle.ep_typed.specs.Trees as tree
use Rattle.ep_values.specs.TypeValues as type
use Rattle.ep_values.specs.TypeValues.{TypeValue}
use Rattle.ep_meaning.specs.Valid.{IsTypeOf}
use Rattle.ep_typed.specs.Viewed.{denoter_of}
use Rattle.ep_typed.specs.declared.unit.Unit.{Unit as TypedUnit}
use Rattle.ep_typed.proofs.public.Forms.{array_is}
use Rattle.ep_scope.specs.declared.structure.ArrayType.{ArrayType}
use Rattle.ep_scope.specs.declared.structure.Composition.TheVariants as composition
use Rattle.ep_scope.specs.declared.structure.StructuredType.{StructuredType}
use Rattle.ep_scope.specs.declared.kind.Host.{Host}
use Rattle.ep_scope.specs.declared.kind.Kind.TheVariants as kind
use Rattle.ep_expr_laws.specs.Agreement.{Arrays, IsArrayValue}
use Rattle.ep_rules.specs.Hosts.{typed_host}
use Rattle.ep_rules.specs.Judgements.{Accepts, when_accepted}
use Rattle.ep_stmt_rules.proofs.public.judged.Fits.{Fits, fits_then}
use Rattle.ep_check_unit.specs.Blocks.{Block}
use Rattle.ep_unit_rules.specs.OrdinalTypes.{value_of}
use Rattle.ep_check_unit.specs.Declarations.{DenoterPart, Written, array_over, array_written, index_values, settled_part}
use Rattle.ep_unit_laws.proofs.Denoting.{Denotes, DenotesStructured, array_there, denotes_array, denotes_hosted, kind_bare, kind_more, kind_valued, kind_valid}
use Rattle.ep_unit_laws.proofs.Holds.{HasTypeHere, Holds, HoldsElements, HoldsStructuredType, ListsKind, has_type_more, holds_more, lists_more, lists_kind_more, lists_kind_small, type_values}
use Rattle.ep_unit_laws.proofs.Leading.{Extends, Grows, extends_before, grows_trans}
use Rattle.ep_unit_laws.proofs.Prefixes.{prefix_length}
use Rattle.ep_unit_laws.proofs.Open.{IsOpen}
use Rattle.ep_unit_laws.proofs.Ordinals.{IsValued, index_valued, value_is}
use Rattle.ep_unit_laws.proofs.Types.{IsNext, Settles, Stood, Wrote, Writes, next_denotes}
use Rattle.ep_unit_laws.proofs.Structures.{IsKnown, part_settles, structure_grows, structure_held}

module _ (u : TypedUnit) where
  -- ---- an array of an index type and components that stand

  module _ (b : Block) (index below : Written) (h : Host) (low high : ℤ) (first : Settles u b index) (valued : IsValued index.kind (value_of index.block.types index.of) h low high) (second : Settles u index.block below) where
    abbrev Number : ℕ
    Number = length below.block.types

    abbrev Over : Written
    Over = array_over index.denoter index.nodes (record { host = h; low = low; high = high }) below

    abbrev Elements : ArrayType
    Elements = record { index = h; low = low; high = high; component = below.of; kind = below.kind }

    abbrev Made : StructuredType
    Made = record { number = Number; composition = composition.Array Elements }

    abbrev Parts : ArrayParts
    Parts = record { index = denoter_of index.denoter; component = denoter_of below.denoter }

    over_grows : Grows b Over.block
    over_grows = grows_trans b below.block Over.block (grows_trans b index.block below.block first.grows second.grows) (structure_grows Made below.block)

    module _ (under : IsOpen b) (ext : Extends u Over.block) (free : below.block.waits ≡ None) (next : IsNext u Number (denoter_of Over.denoter)) (x : Holds u (length b.types) b) where
      below_there : Extends u below.block
      below_there = extends_before u below.block Over.block (structure_grows Made below.block) (second.grows.opens (first.grows.opens under)) ext

      index_there : Extends u index.block
      index_there = extends_before u index.block below.block second.grows (first.grows.opens under) below_there

      index_stood : Stood u index
      index_stood = first.holds under index_there (second.grows.waits free) x

      below_stood : Stood u below
      below_stood = second.holds (first.grows.opens under) below_there free index_stood.block

      count_grows : length index.block.types ≤ Number
      count_grows = prefix_length index.block.types below.block.types second.grows.types

      -- the index type, behind as many names as there are types before the array
      index_here : HasTypeHere u (length index.block.types) (denoter_of index.denoter) index.of (kind.Ordinal h)
      index_here = subst (HasTypeHere u (length index.block.types) (denoter_of index.denoter) index.of) valued.ordinal index_stood.denotes

      index_denotes : Denotes u.types Number (denoter_of index.denoter) (typed_host h) index_here.0
      index_denotes = kind_more u.types (length index.block.types) Number (denoter_of index.denoter) (kind.Ordinal h) index_here.0 count_grows index_here.1

      index_listed : ListsKind u Number (kind.Ordinal h)
      index_listed = lists_kind_more u (length index.block.types) Number (kind.Ordinal h) count_grows (subst (ListsKind u (length index.block.types)) valued.ordinal index_stood.lists)

      within : Number < length u.types
      within = slice_get_within u.types Number next.entry next.at

      parts_there : array_of u.types (tree.Named Number []) ≡ Some Parts
      parts_there = array_there u.types Number next.entry (denoter_of index.denoter) (denoter_of below.denoter) next.at (next.definition ∙ array_is index.denoter below.denoter) (omega (arith, within))

      -- its bounds
      bounds : index_here.0 ≡ type.Ordinal low high
      bounds =
          let count : ℕ = length index.block.types in
          let of = index_here.2.has_bare in
          sym of.bare
          ∙ value_is u.types (suc count) index.block.types index.of of.type_value (type.Ordinal low high) index_there.types (of.has_type (suc (suc count)) (omega arith)) valued.has_value

      abbrev Value : TypeValue
      Value = type.Array low high below_stood.denotes.0

      over_denotes : DenotesStructured u.types Number (denoter_of Over.denoter) Number Value
      over_denotes =
          subst (λ d. DenotesStructured u.types Number d Number Value) (sym (array_is index.denoter below.denoter))
          (denotes_array u.types Number Number next.entry (denoter_of index.denoter) (denoter_of below.denoter) (typed_host h) low high below_stood.denotes.0
          (subst (Denotes u.types Number (denoter_of index.denoter) (typed_host h)) bounds index_denotes)
          (kind_bare u.types Number (denoter_of below.denoter) below.kind below_stood.denotes.0 below_stood.denotes.1)
          next.at (next.definition ∙ array_is index.denoter below.denoter) within)

      elements_held : HoldsElements u (suc Number) Elements Parts
      elements_held = record {
        index_lists = lists_more u Number (suc Number) h (omega arith) index_listed;
        index = (index_here.0, kind_more u.types Number (suc Number) (denoter_of index.denoter) (kind.Ordinal h) index_here.0 (omega arith) index_denotes);
        lists = lists_kind_more u Number (suc Number) below.kind (omega arith) below_stood.lists;
        denotes = has_type_more u Number (suc Number) (denoter_of below.denoter) below.of below.kind (omega arith) below_stood.denotes;
      }

      -- its type value is that of its index type and of its components
      value_made : IsArrayValue (type_values u) Elements Value
      value_made = (
        below_stood.denotes.0,
        refl,
        subst (IsTypeOf (typed_host h)) bounds (denotes_hosted u.types Number (denoter_of index.denoter) (typed_host h) index_here.0 (omega (arith, within)) index_denotes),
        kind_valued u.types (type_values u) (λ n. refl) Number (denoter_of below.denoter) below.kind below_stood.denotes.0 (omega (arith, within)) (lists_kind_small u Number below.kind below_stood.lists) below_stood.denotes.1,
      )

      -- so has its number
      number_denotes : DenotesStructured u.types (suc Number) (tree.Named Number []) Number Value
      number_denotes = next_denotes u Number (denoter_of Over.denoter) (kind.Structured Number) Value next over_denotes

      type_held : HoldsStructuredType u (suc Number) Made
      type_held = record {
        structure = Arrays Parts;
        has_structure = parts_there;
        denoter = kind_valid u.types (suc Number) (tree.Named Number []) (kind.Structured Number) Value (omega (arith, within)) number_denotes;
        components = elements_held;
        type_value = Value;
        has_value = over_denotes.of_number;
        value_made = value_made;
      }

      over_wrote : Wrote u Number Over
      over_wrote = record {
        block = structure_held u (suc Number) Made below.block type_held (holds_more u Number (suc Number) below.block (omega arith) below_stood.block);
        denotes = (Value, over_denotes);
        of = number_denotes;
        lists = tt;
      }

    over_writes : Writes u b Over
    over_writes = record { grows = over_grows; holds = λ under ext free next x. over_wrote under ext free next x }

  pub array_writes : (index of : DenoterPart) → IsKnown u index → IsKnown u of → (line : ℕ) (b : Block) → Fits (Writes u b) (array_written index of line b)
  array_writes index of i o line b =
      fits_then (Settles u b) (Writes u b) (λ w. when_accepted (λ v. when_accepted (λ below. Accepts (array_over w.denoter w.nodes v below)) (settled_part of line w.block)) (index_values w)) (settled_part index line b) (part_settles u index i line b)
      (λ w first. fits_then (λ v. IsValued w.kind (value_of w.block.types w.of) v.host v.low v.high) (Writes u b) (λ v. when_accepted (λ below. Accepts (array_over w.denoter w.nodes v below)) (settled_part of line w.block)) (index_values w) (index_valued w)
      (λ v valued. fits_then (Settles u w.block) (Writes u b) (λ below. Accepts (array_over w.denoter w.nodes v below)) (settled_part of line w.block) (part_settles u of o line w.block)
      (λ below second. over_writes b w below v.host v.low v.high first valued second)))
