-- An array of several index types is written from left to right: first all index types, then the components, and then the arrays, the innermost first.
use Rattle.std.proofs.Common.{◌≡◌, ℕ, ◌+◌, ◌-◌, ◌<◌, ◌≤◌, false, List, [], ◌∷◌, ◌++◌, map, length, take, drop, get_or, refl, sym, ap, ◌∙◌, subst, append_assoc, arith}
use Rattle.std.proofs.lemmas.List.{map_more}
use Rattle.std.specs.Prelude.{if◌then◌else◌}
use Rattle.ep_tree.specs.declared.expression.Expression.{Expression}
use Rattle.ep_tree.specs.declared.operator.QualifiedName.{QualifiedName}
use Rattle.ep_tree.specs.declared.types.Core.TheFolds.{fold-roll-Core, fold-roll-Structure}
use Rattle.ep_tree.specs.declared.types.Core.TheOpen.{Core-F, Structure-F}
use Rattle.ep_tree.specs.declared.types.Core.TheVariants as core
use Rattle.ep_tree.specs.declared.types.Core.{Core, out-Core, roll-Core, roll-out-Core}
use Rattle.ep_tree.specs.declared.types.FieldSection.{FieldSection}
use Rattle.ep_tree.specs.declared.types.Fields.{Fields}
use Rattle.ep_tree.specs.declared.types.TypeDenoter.{TypeDenoter}
use Rattle.ep_tree.specs.declared.types.Variant.{Variant}
use Rattle.ep_tree.specs.declared.types.VariantPart.{VariantPart}
use Rattle.ep_tree.specs.declared.types.Plain.{Plain}
use Rattle.ep_tree.specs.declared.types.Structure.{Structure, out-Structure, roll-Structure, roll-out-Structure}
use Rattle.ep_tree.specs.declared.types.Structure.TheVariants as structure
use Rattle.ep_typed.specs.declared.denoter.Denoter.{Denoter}
use Rattle.ep_rules.specs.Judgements.{Judged, Accepts, Breaks, when_accepted}
use Rattle.ep_rules.specs.declared.forms.Refusal.{Refusal}
use Rattle.ep_rules.specs.declared.forms.Refusal.TheVariants.{Rule, NoMemory}
use Rattle.ep_rules.specs.Answers.{Refuses}
use Rattle.ep_rules.proofs.public.Refusing.{part_refused}
use Rattle.ep_stmt_rules.proofs.public.judged.Rounds.{next_item}
use Rattle.ep_unit_rules.specs.Answers.{index_of}
use Rattle.ep_check_unit.specs.Answers.{arrays_below, indexes_written, named_in}
use Rattle.ep_check_unit.specs.Blocks.{Block}
use Rattle.ep_unit_rules.specs.Types.{type_denoter}
use Rattle.ep_check_unit.specs.Declarations.{ListJudged, DenoterPart, PartJudged, Section, VariantJudged, Written, array_over, array_part, at_core, at_field_section, at_fields, at_plain, at_structure, at_type_denoter, at_variant, at_variant_part, core_part, index_values, plain_part, settled, settled_part, structure_part, structured}
use Rattle.ep_unit_rules.specs.declared.labels.TagValues.{TagValues}
use Rattle.ep_unit_rules.specs.declared.types.IndexType.{IndexType}
use Rattle.ep_unit_rules.specs.declared.types.NamedType.{NamedType}
use Rattle.ep_check_unit.proofs.public.Forms.{map_push}
use Rattle.ep_check_unit.proofs.Subranges.{accepted_same}

-- index types
abbrev Indexes : Type 0
Indexes = List (Denoter × ℕ × TagValues)

-- a judgement is what it accepts, or breaks the same rules
alone : (j : Judged Written) → j ≡ when_accepted (λ w. Accepts w) j
alone (Accepts w) = refl
alone (Breaks rules) = refl

-- the arrays over components, behind these index types
abbrev pub over_components : ℕ → DenoterPart → Judged (Indexes × Block) → Judged Written
over_components line of j = when_accepted (λ r. when_accepted (λ w. Accepts (arrays_below line r.0 w)) (settled_part of line r.1)) j

-- the same but for the last array
abbrev pub last_over : ℕ → DenoterPart → Denoter → ℕ → TagValues → Judged (Indexes × Block) → Judged Written
last_over line of d n v j = when_accepted (λ r. when_accepted (λ w. Accepts (array_over d n v (arrays_below line r.0 w))) (settled_part of line r.1)) j

last_settled : (line : ℕ) (of : DenoterPart) (d : Denoter) (n : ℕ) (v : TagValues) (j : Judged (Indexes × Block))
    → when_accepted (λ w. Accepts (settled line w)) (when_accepted (λ below. Accepts (array_over d n v below)) (over_components line of j)) ≡ over_components line of (when_accepted (λ r. Accepts ((d, n, v) ∷ r.0, r.1)) j)
last_settled line of d n v (Breaks rules) = refl
last_settled line of d n v (Accepts r) = at (settled_part of line r.1)
  where
    at : (k : Judged Written) → when_accepted (λ w. Accepts (settled line w)) (when_accepted (λ below. Accepts (array_over d n v below)) (when_accepted (λ w. Accepts (arrays_below line r.0 w)) k)) ≡ when_accepted (λ w. Accepts (settled line (array_over d n v (arrays_below line r.0 w)))) k
    at (Accepts w) = refl
    at (Breaks rules) = refl

last_written : (line : ℕ) (of : DenoterPart) (d : Denoter) (n : ℕ) (v : TagValues) (j : Judged (Indexes × Block)) → when_accepted (λ below. Accepts (array_over d n v below)) (over_components line of j) ≡ last_over line of d n v j
last_written line of d n v (Breaks rules) = refl
last_written line of d n v (Accepts r) = at (settled_part of line r.1)
  where
    at : (k : Judged Written) → when_accepted (λ below. Accepts (array_over d n v below)) (when_accepted (λ w. Accepts (arrays_below line r.0 w)) k) ≡ when_accepted (λ w. Accepts (array_over d n v (arrays_below line r.0 w))) k
    at (Accepts w) = refl
    at (Breaks rules) = refl

-- by an index type that is judged first, and its values
settled_first : (line : ℕ) (of : DenoterPart) (is : List DenoterPart) (i : Judged Written) (values : Written → Judged TagValues) → ((b : Block) → settled_part (array_part of is) line b ≡ over_components line of (indexes_written line is b))
    → when_accepted (λ w. Accepts (settled line w)) (when_accepted (λ w. when_accepted (λ v. when_accepted (λ below. Accepts (array_over w.denoter w.nodes v below)) (settled_part (array_part of is) line w.block)) (values w)) i)
    ≡ over_components line of (when_accepted (λ w. when_accepted (λ v. when_accepted (λ r. Accepts ((w.denoter, w.nodes, v) ∷ r.0, r.1)) (indexes_written line is w.block)) (values w)) i)
settled_first line of is (Breaks rules) values same = refl
settled_first line of is (Accepts w) values same = at (values w)
  where
    at : (k : Judged TagValues)
        → when_accepted (λ x. Accepts (settled line x)) (when_accepted (λ v. when_accepted (λ below. Accepts (array_over w.denoter w.nodes v below)) (settled_part (array_part of is) line w.block)) k)
        ≡ over_components line of (when_accepted (λ v. when_accepted (λ r. Accepts ((w.denoter, w.nodes, v) ∷ r.0, r.1)) (indexes_written line is w.block)) k)
    at (Breaks rules) = refl
    at (Accepts v) = ap (λ s. when_accepted (λ x. Accepts (settled line x)) (when_accepted (λ below. Accepts (array_over w.denoter w.nodes v below)) s)) (same w.block) ∙ last_settled line of w.denoter w.nodes v (indexes_written line is w.block)

-- what is below an index type
pub settled_below : (line : ℕ) (of : DenoterPart) (is : List DenoterPart) (b : Block) → settled_part (array_part of is) line b ≡ over_components line of (indexes_written line is b)
settled_below line of [] b = alone (settled_part of line b)
settled_below line of (i ∷ is) b = settled_first line of is (settled_part i line b) index_values (λ c. settled_below line of is c)

-- the array of all index types, by the first one and the others; one without index types is its component
abbrev pub by_first : ℕ → DenoterPart → Judged (Indexes × Block) → Judged Written
by_first line of (Breaks rules) = Breaks rules
by_first line of (Accepts ([], b)) = of.written line b
by_first line of (Accepts (i ∷ is, b)) = when_accepted (λ w. Accepts (array_over i.0 i.1 i.2 (arrays_below line is w))) (settled_part of line b)

first_over : (line : ℕ) (of : DenoterPart) (d : Denoter) (n : ℕ) (v : TagValues) (j : Judged (Indexes × Block)) → last_over line of d n v j ≡ by_first line of (when_accepted (λ r. Accepts ((d, n, v) ∷ r.0, r.1)) j)
first_over line of d n v (Accepts r) = refl
first_over line of d n v (Breaks rules) = refl

written_first : (line : ℕ) (of : DenoterPart) (is : List DenoterPart) (i : Judged Written) (values : Written → Judged TagValues)
    → when_accepted (λ w. when_accepted (λ v. when_accepted (λ below. Accepts (array_over w.denoter w.nodes v below)) (settled_part (array_part of is) line w.block)) (values w)) i
    ≡ by_first line of (when_accepted (λ w. when_accepted (λ v. when_accepted (λ r. Accepts ((w.denoter, w.nodes, v) ∷ r.0, r.1)) (indexes_written line is w.block)) (values w)) i)
written_first line of is (Breaks rules) values = refl
written_first line of is (Accepts w) values = at (values w)
  where
    at : (k : Judged TagValues)
        → when_accepted (λ v. when_accepted (λ below. Accepts (array_over w.denoter w.nodes v below)) (settled_part (array_part of is) line w.block)) k
        ≡ by_first line of (when_accepted (λ v. when_accepted (λ r. Accepts ((w.denoter, w.nodes, v) ∷ r.0, r.1)) (indexes_written line is w.block)) k)
    at (Breaks rules) = refl
    at (Accepts v) = ap (when_accepted (λ below. Accepts (array_over w.denoter w.nodes v below))) (settled_below line of is w.block) ∙ (last_written line of w.denoter w.nodes v (indexes_written line is w.block) ∙ first_over line of w.denoter w.nodes v (indexes_written line is w.block))

-- so an array is written
array_by_first : (line : ℕ) (of : DenoterPart) (is : List DenoterPart) (b : Block) → (array_part of is).written line b ≡ by_first line of (indexes_written line is b)
array_by_first line of [] b = refl
array_by_first line of (i ∷ is) b = written_first line of is (settled_part i line b) index_values

-- ---- index types one after another

-- those that were written stand before the others
abbrev pub behind : Indexes → Judged (Indexes × Block) → Judged (Indexes × Block)
behind all j = when_accepted (λ r. Accepts (all ++ r.0, r.1)) j

-- one more stands behind those before
one_behind : (all : Indexes) (d : Denoter × ℕ × TagValues) (j : Judged (Indexes × Block)) → behind (all ++ d ∷ []) j ≡ behind all (when_accepted (λ r. Accepts (d ∷ r.0, r.1)) j)
one_behind all d (Accepts r) = ap (λ xs. Accepts (xs, r.1)) (append_assoc all (d ∷ []) r.0)
one_behind all d (Breaks rules) = refl

pub next_index : (line : ℕ) (plains : List Plain) (n : ℕ) (p : Plain) → n < length plains → p ≡ get_or plains n p
    → (made pushed : List IndexType) (index : NamedType) (values : TagValues) (b new : Block) (all : Judged (Indexes × Block)) → pushed ≡ made ++ record { name = index.name; values = values; nodes = index.nodes } ∷ []
    → settled_part (plain_part p) line b ≡ Accepts (named_in new index) → index_values (named_in new index) ≡ Accepts values
    → behind (map index_of made) (indexes_written line (map plain_part (drop n plains)) b) ≡ all → behind (map index_of pushed) (indexes_written line (map plain_part (drop (n + 1) plains)) new) ≡ all
next_index line plains n p lt is made pushed index values b new all push settles valued same =
    let rest : List DenoterPart = map plain_part (drop (n + 1) plains) in
    let item : IndexType = record { name = index.name; values = values; nodes = index.nodes } in
    let step : indexes_written line (map plain_part (drop n plains)) b ≡ when_accepted (λ r. Accepts (index_of item ∷ r.0, r.1)) (indexes_written line rest new) =
    ap (λ xs. indexes_written line (map plain_part xs) b) (next_item plains n p lt is)
    ∙ (ap (when_accepted (λ w. when_accepted (λ v. when_accepted (λ r. Accepts ((w.denoter, w.nodes, v) ∷ r.0, r.1)) (indexes_written line rest w.block)) (index_values w))) settles
    ∙ ap (when_accepted (λ v. when_accepted (λ r. Accepts ((type_denoter index.name, index.nodes, v) ∷ r.0, r.1)) (indexes_written line rest new))) valued) in
    ap (λ xs. behind (map index_of xs) (indexes_written line rest new)) push
    ∙ (ap (λ xs. behind xs (indexes_written line rest new)) (map_push index_of made item)
    ∙ (one_behind (map index_of made) (index_of item) (indexes_written line rest new)
    ∙ (ap (behind (map index_of made)) (sym step) ∙ same)))

-- ---- the innermost array first

below_last : (line : ℕ) (is : Indexes) (i : Denoter × ℕ × TagValues) (w : Written) → arrays_below line (is ++ i ∷ []) w ≡ arrays_below line is (settled line (array_over i.0 i.1 i.2 w))
below_last line [] i w = refl
below_last line (j ∷ js) i w = ap (λ x. settled line (array_over j.0 j.1 j.2 x)) (below_last line js i w)

-- the array of the last of the index types that are left is below those before
pub next_below : (line : ℕ) (indexes : List IndexType) (place : ℕ) (d : IndexType) → 0 < place → place ≤ length indexes → (below over above : Written)
    → Accepts (array_over (index_of (get_or indexes (place - 1) d)).0 (index_of (get_or indexes (place - 1) d)).1 (index_of (get_or indexes (place - 1) d)).2 below) ≡ Accepts over → Accepts (settled line over) ≡ Accepts above
    → arrays_below line (map index_of (take (place - 1) indexes)) above ≡ arrays_below line (map index_of (take place indexes)) below
next_below line indexes place d some within below over above made settles =
    let last : IndexType = get_or indexes (place - 1) d in
    let is : Denoter × ℕ × TagValues = index_of last in
    let back : (place - 1) + 1 ≡ place = omega (arith, some) in
    let above_is : settled line (array_over is.0 is.1 is.2 below) ≡ above = accepted_same above (settled line (array_over is.0 is.1 is.2 below)) (sym (ap (λ w. Accepts (settled line w)) (sym (accepted_same (array_over is.0 is.1 is.2 below) over made)) ∙ settles)) in
    ap (arrays_below line (map index_of (take (place - 1) indexes))) (sym above_is)
    ∙ (sym (below_last line (map index_of (take (place - 1) indexes)) is below)
    ∙ ap (λ xs. arrays_below line xs below) (sym (map_more index_of indexes (place - 1) d (omega (arith, some, within))) ∙ ap (λ k. map index_of (take k indexes)) back))

-- ---- structures

array_rolled : (at : ℕ) (is : List Plain) (of : Plain) → structure_part (structure.Array at is of) ≡ structured (array_part (plain_part of) (map plain_part is))
array_rolled at is of = ap structure_part (sym (structure.rolls-Array at is of)) ∙ fold-roll-Structure DenoterPart DenoterPart Section ListJudged DenoterPart DenoterPart VariantJudged PartJudged at_core at_structure at_field_section at_fields at_plain at_type_denoter at_variant at_variant_part (Structure-F.Array at is of)

structure_unnamed : (x : Structure-F Core Structure FieldSection Fields Plain TypeDenoter Variant VariantPart) → (structure_part (roll-Structure x)).is_name ≡ false
structure_unnamed (Structure-F.Array at is of) = ap (λ (p : DenoterPart). p.is_name) (fold-roll-Structure DenoterPart DenoterPart Section ListJudged DenoterPart DenoterPart VariantJudged PartJudged at_core at_structure at_field_section at_fields at_plain at_type_denoter at_variant at_variant_part (Structure-F.Array at is of))
structure_unnamed (Structure-F.Record at fields) = ap (λ (p : DenoterPart). p.is_name) (fold-roll-Structure DenoterPart DenoterPart Section ListJudged DenoterPart DenoterPart VariantJudged PartJudged at_core at_structure at_field_section at_fields at_plain at_type_denoter at_variant at_variant_part (Structure-F.Record at fields))
structure_unnamed (Structure-F.Set at base) = ap (λ (p : DenoterPart). p.is_name) (fold-roll-Structure DenoterPart DenoterPart Section ListJudged DenoterPart DenoterPart VariantJudged PartJudged at_core at_structure at_field_section at_fields at_plain at_type_denoter at_variant at_variant_part (Structure-F.Set at base))

structures_unnamed : (s : Structure) → (structure_part s).is_name ≡ false
structures_unnamed s = subst (λ z. (structure_part z).is_name ≡ false) (roll-out-Structure s) (structure_unnamed (out-Structure s))

module _ (line : ℕ) (s : Structure) (at : ℕ) (is : List Plain) (of : Plain) (b : Block) (array : s ≡ structure.Array at is of) where
  structure_written : (structure_part s).written line b ≡ by_first line (plain_part of) (indexes_written line (map plain_part is) b)
  structure_written = ap (λ (p : DenoterPart). p.written line b) (ap structure_part array ∙ array_rolled at is of) ∙ array_by_first line (plain_part of) (map plain_part is) b

  by_first_refused : (e : Refusal) (j : Judged (Indexes × Block)) → Refuses e j → Refuses e (by_first line (plain_part of) j)
  by_first_refused NoMemory j h = tt
  by_first_refused (Rule r) (Accepts x) h = cc
  by_first_refused (Rule r) (Breaks rules) h = h

  -- an index type is refused
  pub index_refused : (e : Refusal) → Refuses e (indexes_written line (map plain_part is) b) → Refuses e ((structure_part s).written line b)
  index_refused e h = subst (Refuses e) (sym structure_written) (by_first_refused e (indexes_written line (map plain_part is) b) h)

  module _ (made : List IndexType) (new : Block) (written : indexes_written line (map plain_part is) b ≡ Accepts (map index_of made, new)) where
    made_first : (structure_part s).written line b ≡ by_first line (plain_part of) (Accepts (map index_of made, new))
    made_first = structure_written ∙ ap (by_first line (plain_part of)) written

    -- there is none
    pub without_index : length made ≡ 0 → (structure_part s).written line b ≡ (plain_part of).written line new
    without_index none = made_first ∙ ap (λ xs. by_first line (plain_part of) (Accepts (map index_of xs, new))) (empty made none)
      where
        empty : (xs : List IndexType) → length xs ≡ 0 → xs ≡ []
        empty [] e = refl
        empty (x ∷ xs) e = cc

    module _ (first : IndexType) (others : List IndexType) (split : made ≡ first ∷ others) where
      pub split_written : (structure_part s).written line b ≡ when_accepted (λ w. Accepts (array_over (type_denoter first.name) first.nodes first.values (arrays_below line (map index_of others) w))) (settled_part (plain_part of) line new)
      split_written = made_first ∙ ap (λ xs. by_first line (plain_part of) (Accepts (map index_of xs, new))) split

      -- the component is refused
      pub component_refused : (e : Refusal) → Refuses e (settled_part (plain_part of) line new) → Refuses e ((structure_part s).written line b)
      component_refused e h =
          subst (Refuses e) (sym split_written)
          (part_refused (λ w. Accepts (array_over (type_denoter first.name) first.nodes first.values (arrays_below line (map index_of others) w))) e (settled_part (plain_part of) line new) h)

      -- the array over its components
      pub array_accepted : (below : NamedType) (component : Written) (last : Block) → settled_part (plain_part of) line new ≡ Accepts component → Accepts (arrays_below line (map index_of others) component) ≡ Accepts (named_in last below)
          → (structure_part s).written line b ≡ Accepts (array_over (type_denoter first.name) first.nodes first.values (named_in last below))
      array_accepted below component last settles under =
          split_written
          ∙ (ap (when_accepted (λ w. Accepts (array_over (type_denoter first.name) first.nodes first.values (arrays_below line (map index_of others) w)))) settles
          ∙ ap (λ w. Accepts (array_over (type_denoter first.name) first.nodes first.values w)) (accepted_same (named_in last below) (arrays_below line (map index_of others) component) (sym under)))

-- ---- a part that is no name

pub other_settled : (p : DenoterPart) (line : ℕ) (b : Block) (w : Written) → p.is_name ≡ false → p.written line b ≡ Accepts w → settled_part p line b ≡ Accepts (settled line w)
other_settled p line b w other writes = ap (λ n. when_accepted (λ v. Accepts (if n then v else settled line v)) (p.written line b)) other ∙ ap (when_accepted (λ v. Accepts (settled line v))) writes

-- what is no name is none for its part
core_unnamed : (x : Core-F Core Structure FieldSection Fields Plain TypeDenoter Variant VariantPart) → ((at : ℕ) (name : QualifiedName) (tuple : List Expression) → roll-Core x ≡ core.Named at name tuple → ⊥) → (core_part (roll-Core x)).is_name ≡ false
core_unnamed (Core-F.Named at name tuple) other = absurd (other at name tuple (core.rolls-Named at name tuple))
core_unnamed (Core-F.Range at low high) other = ap (λ (p : DenoterPart). p.is_name) (fold-roll-Core DenoterPart DenoterPart Section ListJudged DenoterPart DenoterPart VariantJudged PartJudged at_core at_structure at_field_section at_fields at_plain at_type_denoter at_variant at_variant_part (Core-F.Range at low high))
core_unnamed (Core-F.Enumeration at names) other = ap (λ (p : DenoterPart). p.is_name) (fold-roll-Core DenoterPart DenoterPart Section ListJudged DenoterPart DenoterPart VariantJudged PartJudged at_core at_structure at_field_section at_fields at_plain at_type_denoter at_variant at_variant_part (Core-F.Enumeration at names))
core_unnamed (Core-F.Pointer at name) other = ap (λ (p : DenoterPart). p.is_name) (fold-roll-Core DenoterPart DenoterPart Section ListJudged DenoterPart DenoterPart VariantJudged PartJudged at_core at_structure at_field_section at_fields at_plain at_type_denoter at_variant at_variant_part (Core-F.Pointer at name))
core_unnamed (Core-F.Structured at packed structure) other = ap (λ (p : DenoterPart). p.is_name) (fold-roll-Core DenoterPart DenoterPart Section ListJudged DenoterPart DenoterPart VariantJudged PartJudged at_core at_structure at_field_section at_fields at_plain at_type_denoter at_variant at_variant_part (Core-F.Structured at packed structure)) ∙ structures_unnamed structure
core_unnamed (Core-F.Restricted at name) other = ap (λ (p : DenoterPart). p.is_name) (fold-roll-Core DenoterPart DenoterPart Section ListJudged DenoterPart DenoterPart VariantJudged PartJudged at_core at_structure at_field_section at_fields at_plain at_type_denoter at_variant at_variant_part (Core-F.Restricted at name))
core_unnamed (Core-F.TypeOf at name) other = ap (λ (p : DenoterPart). p.is_name) (fold-roll-Core DenoterPart DenoterPart Section ListJudged DenoterPart DenoterPart VariantJudged PartJudged at_core at_structure at_field_section at_fields at_plain at_type_denoter at_variant at_variant_part (Core-F.TypeOf at name))

pub unnamed : (c : Core) → ((at : ℕ) (name : QualifiedName) (tuple : List Expression) → c ≡ core.Named at name tuple → ⊥) → (core_part c).is_name ≡ false
unnamed c other =
    subst (λ z. (core_part z).is_name ≡ false) (roll-out-Core c) (core_unnamed (out-Core c) (λ at name tuple is. other at name tuple (sym (roll-out-Core c) ∙ is)))
