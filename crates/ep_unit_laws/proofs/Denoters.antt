-- All denoters: the unit that has a block's lists has those that are written in the block as valid types.
use Rattle.std.proofs.Common.{◌≡◌, ℕ, ◌≤◌, length}
use Rattle.ep_tree.specs.declared.types.TypeDenoter.{TypeDenoter}
use Rattle.ep_values.specs.Operations.{maxint}
use Rattle.ep_typed.specs.declared.unit.Unit.{Unit as TypedUnit}
use Rattle.ep_check_expr.specs.Constants.{bound_judged}
use Rattle.ep_rules.specs.Judgements.{Accepts}
use Rattle.ep_expr_laws.specs.Laws.{BoundsAreSound, BoundsAreKnown, InitialStatesAreSound}
use Rattle.ep_stmt_rules.proofs.public.judged.Fits.{Fits, fits_both, fits_is}
use Rattle.ep_check_unit.specs.Blocks.{Block}
use Rattle.ep_check_unit.specs.Declarations.{denoter_part, range, scopes_of, settled_type, type_written}
use Rattle.ep_check_unit.proofs.public.Denoters.{KeptByDenoters, each_type}
use Rattle.ep_unit_laws.proofs.Types.{Settles, Writes, enumeration-writes, range_writes, type_named-names}
use Rattle.ep_unit_laws.proofs.Arrays.{array_writes}
use Rattle.ep_unit_laws.proofs.InitialStates.{initial_writes}
use Rattle.ep_unit_laws.proofs.Records.{IsKnownList, record_writes}
use Rattle.ep_unit_laws.proofs.Sets.{set_writes}
use Rattle.ep_unit_laws.proofs.Structures.{IsKnown, part_settles, part_writes}
use Rattle.ep_unit_laws.proofs.Variants.{IsKnownVariants, list_fits, variant_part_fits}

module _ (u : TypedUnit) where
  -- ---- all denoters

  module _ (few : length u.constants ≤ maxint) (sound : BoundsAreSound) (bound_hosts : BoundsAreKnown) (initial_states : InitialStatesAreSound) where
    known_kept : KeptByDenoters (IsKnown u) (IsKnownList u) (IsKnownVariants u)
    known_kept = record {
      names = λ name line b. type_named-names u name.first name.second b;
      ranges = λ low high line b.
          fits_both (λ x. bound_judged (scopes_of b) low ≡ Accepts x) (λ y. bound_judged (scopes_of b) high ≡ Accepts y) (Writes u b) (range line b) (bound_judged (scopes_of b) low) (bound_judged (scopes_of b) high) (fits_is (bound_judged (scopes_of b) low)) (fits_is (bound_judged (scopes_of b) high))
          (λ x y e f. range_writes u sound bound_hosts line b low high x y e f);
      enumerations = λ names line b. enumeration-writes u few names b;
      others = λ line b. tt;
      arrays = λ index of i o line b. array_writes u index of i o line b;
      lists = λ sections part known also line b. list_fits u sections part known also line b;
      variants = λ s vs other known also line b f x. variant_part_fits u s vs other known also line b f x;
      records = λ fields known line b. record_writes u fields known line b;
      sets = λ base known line b. set_writes u base known line b;
      structures = λ p known line b. part_writes u p known line b;
      initial_states = λ p v known line b. initial_writes u initial_states p v known line b;
    }

    pub type_written-writes : (line : ℕ) (t : TypeDenoter) (b : Block) → Fits (Writes u b) (type_written line t b)
    type_written-writes line t b = part_writes u (denoter_part t) (each_type (IsKnown u) (IsKnownList u) (IsKnownVariants u) known_kept t) line b

    pub settled_type-settles : (line : ℕ) (t : TypeDenoter) (b : Block) → Fits (Settles u b) (settled_type line t b)
    settled_type-settles line t b = part_settles u (denoter_part t) (each_type (IsKnown u) (IsKnownList u) (IsKnownVariants u) known_kept t) line b
