-- Structured types and parts of denoters that are written in a block.
use Rattle.std.proofs.Common.{ℕ, Bool, true, false, None}
use Rattle.std.proofs.lemmas.List.Elements.{All-push}
use Rattle.std.specs.Prelude.{if◌then◌else◌}
use Rattle.ep_typed.specs.declared.unit.Unit.{Unit as TypedUnit}
use Rattle.ep_scope.specs.declared.structure.StructuredType.{StructuredType}
use Rattle.ep_rules.specs.Judgements.{Accepts}
use Rattle.ep_stmt_rules.proofs.public.judged.Fits.{Fits, fits_then, fits_weaker}
use Rattle.ep_check_unit.specs.Blocks.{Block}
use Rattle.ep_check_unit.specs.Declarations.{DenoterPart, Written, settled, settled_part, with_structure}
use Rattle.ep_unit_laws.proofs.Holds.{Holds, HoldsStructuredType}
use Rattle.ep_unit_laws.proofs.Leading.{Grows, grown, stays}
use Rattle.ep_unit_laws.proofs.Types.{Names, Settles, Writes, named_settles, named_writes, written_settles}

pub structure_grows : (s : StructuredType) (b : Block) → Grows b (with_structure s b)
structure_grows s b = grown b (record (stays b) { to = with_structure s b })

module _ (u : TypedUnit) where
  -- one structured type more in the innermost scope
  pub structure_held : (i : ℕ) (s : StructuredType) (b : Block) → HoldsStructuredType u i s → Holds u i b → Holds u i (with_structure s b)
  structure_held i s b h x = record {
    unit = x.unit;
    names = record {
      things = x.things;
      plain = x.plain;
      structures = All-push (HoldsStructuredType u i) b.scopes.inner.structures s x.structures h;
      outer = x.outer;
    };
    lists = x.lists;
    under_way = x.under_way;
    routines = x.routines;
  }

  -- ---- parts of denoters

  -- a name, or another denoter
  abbrev pub Known : Bool → Block → Written → Type 0
  Known true b w = Names u b w
  Known false b w = Writes u b w

  abbrev pub IsKnown : DenoterPart → Type 0
  IsKnown p = (line : ℕ) (b : Block) → Fits (Known p.is_name b) (p.written line b)

  settles_if : (is_name : Bool) (line : ℕ) (b : Block) (w : Written) → Known is_name b w → Settles u b (if is_name then w else settled line w)
  settles_if true line b w k = named_settles u b w k
  settles_if false line b w k = written_settles u None line b w k

  pub part_settles : (p : DenoterPart) → IsKnown p → (line : ℕ) (b : Block) → Fits (Settles u b) (settled_part p line b)
  part_settles p known line b = fits_then (Known p.is_name b) (Settles u b) (λ w. Accepts (if p.is_name then w else settled line w)) (p.written line b) (known line b) (λ w k. settles_if p.is_name line b w k)

  writes_if : (is_name : Bool) (b : Block) (w : Written) → Known is_name b w → Writes u b w
  writes_if true b w k = named_writes u b w k
  writes_if false b w k = k

  pub part_writes : (p : DenoterPart) → IsKnown p → (line : ℕ) (b : Block) → Fits (Writes u b) (p.written line b)
  part_writes p known line b = fits_weaker (Known p.is_name b) (Writes u b) (p.written line b) (λ w k. writes_if p.is_name b w k) (known line b)
