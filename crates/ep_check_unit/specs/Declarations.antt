-- What the static rules say of declarations, item by item: what has been declared so far, or the first item that
-- breaks a rule.
--
-- Items are taken in the order of the text. A constant definition and a variable declaration are items, on the line of
-- their first token, and a type part is one, on the line of the word `type`. A name means what is declared before its
-- use, or outside of the block: a later declaration of it plays no part (own).
use Rattle.std.specs.List.{list_any}
use Rattle.std.specs.Prelude.{ℕ, nat_eq, nat_le, ◌==◌, ◌+◌, pos, suc, Bool, true, false, ◌&&◌, List}
use Rattle.std.specs.Prelude.{[], ◌∷◌, ◌++◌, length, Option, Some, None, is_some, if◌then◌else◌}
use Rattle.std.specs.Option.{option_or}
use Rattle.ep_tree.specs.declared.expression.ComponentValue.{ComponentValue}
use Rattle.ep_tree.specs.declared.expression.Label.{Label}
use Rattle.ep_tree.specs.Folds as fold
use Rattle.ep_tree.specs.declared.types.Core.TheOpen.{Core-F, Structure-F}
use Rattle.ep_tree.specs.declared.types.Core.{Core}
use Rattle.ep_tree.specs.declared.types.FieldSection.{FieldSection}
use Rattle.ep_tree.specs.declared.types.Fields.{Fields}
use Rattle.ep_tree.specs.declared.types.Plain.{Plain}
use Rattle.ep_tree.specs.declared.types.Structure.{Structure}
use Rattle.ep_tree.specs.declared.types.TypeDenoter.{TypeDenoter}
use Rattle.ep_tree.specs.declared.types.Variant.{Variant as VariantTree}
use Rattle.ep_tree.specs.declared.types.VariantPart.{VariantPart as VariantPartTree}
use Rattle.ep_tree.specs.declared.types.VariantSelector.{VariantSelector}
use Rattle.ep_tree.specs.declared.types.VariantSelector.TheVariants as selector
use Rattle.ep_tree.specs.declared.declaration.ConstantDefinition.{ConstantDefinition}
use Rattle.ep_tree.specs.declared.declaration.TypeDefinition.{TypeDefinition}
use Rattle.ep_tree.specs.declared.declaration.VariableDeclaration.{VariableDeclaration}
use Rattle.ep_values.specs.TypeValues as type
use Rattle.ep_typed.specs.declared.denoter.Denoter.{Denoter}
use Rattle.ep_typed.specs.declared.denoter.Denoter.TheVariants as denoter
use Rattle.ep_typed.specs.declared.denoter.FieldPart.{FieldPart}
use Rattle.ep_typed.specs.declared.denoter.Selector.TheVariants as written_selector
use Rattle.ep_typed.specs.declared.denoter.Variant.{Variant, roll-Variant}
use Rattle.ep_typed.specs.declared.denoter.VariantPart.{VariantPart, roll-VariantPart}
use Rattle.ep_typed.specs.declared.tree.CaseRange.{CaseRange}
use Rattle.ep_typed.specs.declared.tree.Selection.{Selection}
use Rattle.ep_typed.specs.declared.unit.UnitVariable.{UnitVariable}
use Rattle.ep_typed.specs.declared.value.Value.{Value}
use Rattle.ep_typed.specs.declared.value.Value.TheVariants as value
use Rattle.ep_scope.specs.Required.{look_up}
use Rattle.ep_scope.specs.Scopes.{Region, in_view, with_inner, with_inner_structure, Meant, Declares, Standard}
use Rattle.ep_scope.specs.Scopes.{Requires, FieldOf, Nothing, meant, meant_in}
use Rattle.ep_scope.specs.declared.kind.Host.{Host}
use Rattle.ep_scope.specs.declared.kind.Host.TheVariants as host
use Rattle.ep_scope.specs.declared.kind.Kind.{Kind}
use Rattle.ep_scope.specs.declared.kind.Kind.TheVariants as kind
use Rattle.ep_scope.specs.declared.parameter.Protection.TheVariants as protection
use Rattle.ep_scope.specs.declared.parameter.TypeName.{TypeName}
use Rattle.ep_scope.specs.declared.parameter.TypeName.TheVariants as type_name
use Rattle.ep_scope.specs.declared.parameter.WrittenType.{WrittenType}
use Rattle.ep_scope.specs.declared.required.Required.TheVariants as required
use Rattle.ep_scope.specs.declared.rule.TheConstants as rule
use Rattle.ep_scope.specs.declared.structure.Composition.TheVariants as composition
use Rattle.ep_scope.specs.declared.structure.FieldType.{FieldType}
use Rattle.ep_scope.specs.declared.structure.StructuredType.{StructuredType}
use Rattle.ep_scope.specs.declared.thing.Declaration.{Declaration}
use Rattle.ep_scope.specs.declared.thing.Declaration.TheVariants as declaration
use Rattle.ep_scope.specs.declared.thing.Declared.{Declared}
use Rattle.ep_scope.specs.declared.thing.Thing.{Thing}
use Rattle.ep_scope.specs.declared.thing.Thing.TheVariants as thing
use Rattle.ep_rules.specs.Judgements.{Judged, Accepts, Breaks, unbuilt, when_accepted, both}
use Rattle.ep_check_expr.specs.Constants.{constant_judged, bound_judged, initial_state_judged}
use Rattle.ep_check_expr.specs.declared.constants.ConstantForm.{ConstantForm}
use Rattle.ep_rules.specs.Names.{undeclared}
use Rattle.ep_check_expr.specs.StructuredValues.{asked_by}
use Rattle.ep_unit_rules.specs.OrdinalTypes.{value_of}
use Rattle.ep_unit_rules.specs.FittingConstants.{unless_outside}
use Rattle.ep_unit_rules.specs.Own.{own_count}
use Rattle.ep_check_unit.specs.Blocks.{Block}
use Rattle.ep_unit_rules.specs.Labels.{completed, no_labels, tag_values, variant_labelled}
use Rattle.ep_unit_rules.specs.declared.own.Enclosing.{Enclosing}
use Rattle.ep_unit_rules.specs.declared.labels.Labels.{Labels}
use Rattle.ep_unit_rules.specs.declared.labels.TagValues.{TagValues}
use Rattle.ep_unit_rules.specs.declared.records.Listing.{Listing}
use Rattle.ep_unit_rules.specs.declared.types.TheConstants as limit
use Rattle.ep_unit_rules.specs.Constants.{entry_denoter, with_entry}
use Rattle.ep_unit_rules.specs.InitialStates.{may_begin}
use Rattle.ep_unit_rules.specs.Records.{Field, fields_named, own_fields, fields_nodes, field_part}
use Rattle.ep_unit_rules.specs.Sets.{are_members}
use Rattle.ep_unit_rules.specs.Types.{type_denoter, required_host, counted, subrange_nodes, written_by}
use Rattle.ep_unit_rules.specs.Types.{subrange_denoter, common_host, ordered, index_host}
use Rattle.ep_unit_rules.specs.Variants.{Tag, variant_nodes, all_fields}

-- ---- names

-- the scopes in view, the innermost first
abbrev pub scopes_of : Block → List Region
scopes_of b = in_view b.scopes

-- no name is declared twice in one scope (ISO 10206, 6.2.2.7)
abbrev pub unless_there : Option Thing → Judged (Unit {0})
unless_there None = Accepts tt
unless_there (Some other) = Breaks (rule.TWICE ∷ [])

abbrev pub unused : List ℕ → Block → Judged (Unit {0})
unused name b = unless_there (look_up b.scopes.inner.entries name)

-- what a declaration of this unit is, by its number; around it are the routines whose blocks are under way
abbrev pub own_thing : Block → ℕ → Declaration → Thing
own_thing b number what =
    thing.Declared (record { unit = b.unit; number = number; level = length b.own.enclosing; what = what })

-- one name more
abbrev pub with_name : List ℕ → Thing → Block → Block
with_name name t b = record b { scopes = with_inner b.scopes name t }

-- a name is entered, where it is not there
abbrev pub entered : List ℕ → Thing → Block → Judged Block
entered name t b = when_accepted (λ _. Accepts (with_name name t b)) (unused name b)

-- an item on this line that is accepted, and maybe not built
abbrev pub noted : Bool → ℕ → Block → Block
noted true line b = b
noted false line b = record b { waits = option_or b.waits (Some line) }

-- ---- types

-- a constant is entered, with its entry in the list of constants
abbrev pub with_constant : List ℕ → Kind → Value → ℕ → Block → Block
with_constant name k v deep b =
    with_name name (own_thing b (length b.constants) (declaration.Constant k v deep))
    (record b { constants = with_entry name (entry_denoter k v) v b.constants })

-- a constant whose name is not there yet
abbrev pub constant_entered : List ℕ → Kind → Value → ℕ → Block → Judged Block
constant_entered name k v deep b = when_accepted (λ _. Accepts (with_constant name k v deep b)) (unused name b)

-- a type that is written: its denoter, which type it is, its kind, and how many nodes it has, and what has been
-- declared with it
pub record Written : Type 0 where
  pub denoter : Denoter
  pub of : TypeName
  pub kind : Kind
  pub nodes : ℕ
  pub block : Block

-- a type has not too many nodes (own)
abbrev pub unless_large : Written → Judged Written
unless_large w = if nat_le w.nodes limit.TYPE_NODES then Accepts w else Breaks (rule.LARGE_TYPE ∷ [])

abbrev pub misnamed : Judged Written
misnamed = Breaks (rule.OTHER_THING ∷ [])

-- a type by a name of the unit, which is its entry in the list of types
abbrev pub declared_type : Declared → Declaration → Block → Judged Written
declared_type d (declaration.«Type» of k nodes) b =
    Accepts (record { denoter = denoter.Named d.number []; of = of; kind = k; nodes = nodes; block = b })
declared_type d _ b = misnamed

-- a type by a name that means this (ISO 10206, 6.4.1), or else these rules fail
abbrev pub type_meant : List ℕ → Meant → Block → Judged Written
type_meant missing (Declares d) b = declared_type d d.what b
type_meant missing (Standard file) b = misnamed
type_meant missing (FieldOf f) b = misnamed
type_meant missing (Requires (required.«Type» r)) b =
    Accepts (record {
      denoter = denoter.Required r;
      of = type_name.Required r;
      kind = kind.Ordinal (required_host
          r);
      nodes = 1;
      block = b;
    })
type_meant missing (Requires _) b = misnamed
type_meant missing Nothing b = Breaks missing

-- a type by its name, or by the name of an interface and that of its constituent
abbrev pub type_named : List ℕ → Option (List ℕ) → Block → Judged Written
type_named name None b = type_meant (undeclared name) (meant (scopes_of b) name) b
type_named interface (Some name) b = type_meant (rule.UNDECLARED ∷ []) (meant_in (scopes_of b) interface name) b

abbrev pub written_type : Written → WrittenType
written_type w = written_by w.of w.denoter

-- a type that is not there yet, which is the next one of the unit
abbrev pub next_type : Block → TypeName
next_type b = type_name.Entry (length b.types)

-- a subrange of a host
abbrev pub subrange : ℕ → Host → ConstantForm → ConstantForm → Block → Written
subrange line h low high b =
    record {
      denoter = subrange_denoter h low high;
      of = next_type b;
      kind = kind.Ordinal h;
      nodes = subrange_nodes;
      block = noted (low.built && high.built) line b;
    }

-- two bounds of one host, in order
abbrev pub range : ℕ → Block → ConstantForm → ConstantForm → Judged Written
range line b low high =
    when_accepted (λ h. when_accepted (λ _. Accepts (subrange line h low high b)) (ordered low high))
    (common_host low.kind high.kind)

-- an enumeration whose entry in the list of types is the next one, by the ordinal number of its last constant
abbrev pub next_enumeration : ℕ → Block → Host
next_enumeration last b = host.Enumeration (record { number = length b.types; last = last })

-- its constants from this number on, in order
abbrev pub enumerated : Host → ℕ → List (List ℕ) → Block → Judged Block
enumerated h ordinal [] b = Accepts b
enumerated h ordinal (name ∷ names) b =
    when_accepted (enumerated h (suc ordinal) names)
    (constant_entered name (kind.Ordinal h) (value.Word (pos ordinal)) 1 b)

-- an enumeration (ISO 10206, 6.4.2.3); no text has one without constants, which would be an empty range
abbrev pub enumeration_of : Host → List (List ℕ) → Block → Judged Written
enumeration_of h names b =
    when_accepted
    (λ c. Accepts
    (record {
      denoter = denoter.Enumeration names;
      of = next_type b;
      kind = kind.Ordinal h;
      nodes = 1;
      block = c;
    }))
    (enumerated h 0 names b)

abbrev pub enumeration : List (List ℕ) → Block → Judged Written
enumeration [] b = Breaks (rule.EMPTY_RANGE ∷ [])
enumeration (first ∷ others) b = enumeration_of (next_enumeration (length others) b) (first ∷ others) b

-- one entry more of the list of types, of this name and line
abbrev pub with_type : Option (List ℕ) → ℕ → Denoter → Block → Block
with_type name line d b =
    record b {
      types =
          b.types
          ++ record {
            entry = record { «module» = b.unit; number = length b.types; name = name; formals = []; denoter = d };
            line = Some line;
          } ∷ [];
    }

-- A denoter that is no name becomes an entry without a name, which is named where it is part of another denoter or the
-- type of variables (own).
abbrev pub settled : ℕ → Written → Written
settled line w =
    record {
      denoter = denoter.Named (length w.block.types) [];
      of = w.of;
      kind = w.kind;
      nodes = w.nodes;
      block = with_type None line w.denoter w.block;
    }

-- what a denoter comes to in an item on a line, and whether it is a name
pub record DenoterPart : Type 0 where
  pub is_name : Bool
  pub written : ℕ → Block → Judged Written

abbrev pub settled_part : DenoterPart → ℕ → Block → Judged Written
settled_part p line b = when_accepted (λ w. Accepts (if p.is_name then w else settled line w)) (p.written line b)

-- the values of an index type, or of the type of a tag (ISO 10206, 6.4.3.4)
abbrev pub index_values : Written → Judged TagValues
index_values w = when_accepted (λ h. tag_values h (value_of w.block.types w.of)) (index_host w.kind)

-- a structured type more in the innermost scope
abbrev pub with_structure : StructuredType → Block → Block
with_structure s b = record b { scopes = with_inner_structure b.scopes s }

-- the array type of an index type with these values, whose components are so
abbrev pub array_over : Denoter → ℕ → TagValues → Written → Written
array_over index nodes v of =
    record {
      denoter = denoter.Array index of.denoter;
      of = next_type of.block;
      kind = kind.Structured (length of.block.types);
      nodes = counted (counted 1 nodes) of.nodes;
      block =
          with_structure
          (record {
            number = length of.block.types;
            composition = composition.Array
                (record { index = v.host; low = v.low; high = v.high; component = of.of; kind = of.kind });
          })
          of.block;
    }

-- an array of this index type and these components
abbrev pub array_written : DenoterPart → DenoterPart → ℕ → Block → Judged Written
array_written index of line b =
    when_accepted
    (λ i. when_accepted
    (λ v. when_accepted (λ below. Accepts (array_over i.denoter i.nodes v below)) (settled_part of line
    i.block))
    (index_values i))
    (settled_part index line b)

-- An array of several index types is an array of the first one, whose components are an array of the others (ISO
-- 10206, 6.4.3.2).
abbrev pub array_part : DenoterPart → List DenoterPart → DenoterPart
array_part of [] = of
array_part of (i ∷ is) = record { is_name = false; written = array_written i (array_part of is) }

abbrev pub unless_wide : Written → Judged (Unit {0})
unless_wide w = if are_members (value_of w.block.types w.of) then Accepts tt else Breaks (rule.SET_BASE ∷ [])

-- the set type of a base type with this host
abbrev pub set_over : Host → Written → Written
set_over h base =
    record {
      denoter = denoter.Set base.denoter;
      of = next_type base.block;
      kind = kind.Set h;
      nodes = counted 1 base.nodes;
      block = base.block;
    }

-- the set type of a base type (ISO 10206, 6.4.3.5)
abbrev pub set_on : Written → Judged Written
set_on w = when_accepted (λ h. when_accepted (λ _. Accepts (set_over h w)) (unless_wide w)) (index_host w.kind)

abbrev pub set_written : DenoterPart → ℕ → Block → Judged Written
set_written base line b = when_accepted set_on (settled_part base line b)

-- fields that are written, and what has been declared with them
pub record Fielded : Type 0 where
  pub fields : List Field
  pub block : Block

-- a section of fields: their names, and their type
pub record Section : Type 0 where
  pub names : List (List ℕ)
  pub of : DenoterPart

abbrev pub field_of : Written → List ℕ → Field
field_of w name = record { name = name; denoter = w.denoter; of = w.of; kind = w.kind; nodes = w.nodes }

-- a section behind others
abbrev pub section_written : ℕ → Section → Fielded → Judged Fielded
section_written line s f =
    when_accepted
    (λ w. when_accepted (λ fields. Accepts (record { fields = fields; block = w.block }))
    (fields_named (field_of w) s.names f.fields))
    (settled_part s.of line f.block)

-- sections from left to right
abbrev pub sections_written : ℕ → List Section → Fielded → Judged Fielded
sections_written line [] f = Accepts f
sections_written line (s ∷ ss) f = when_accepted (sections_written line ss) (section_written line s f)

-- ---- lists of fields: those of a record, and those of its variants (ISO 10206, 6.4.3.4)

-- a list of fields that is written (its part of the denoter, its fields with its tag and those of its variants, and
-- how many nodes it has), and what has been declared with it
pub record Listed : Type 0 where
  pub listing : Listing
  pub block : Block

-- a list without a variant part
abbrev pub plain_list : Fielded → Listed
plain_list f =
    record {
      listing =
          record {
            part = field_part f.fields None;
            fields = own_fields 0 f.fields;
            nodes = fields_nodes 0 f.fields;
          };
      block = f.block;
    }

-- what a list of fields comes to in an item on a line
abbrev pub ListJudged : Type 0
ListJudged = ℕ → Block → Judged Listed

abbrev pub tag_named : List ℕ → Written → TagValues → Tag
tag_named name w values = record { name = name; denoter = w.denoter; of = w.of; values = values; nodes = w.nodes }

-- its type is ordinal
abbrev pub tag_of : List ℕ → Written → Judged Tag
tag_of name w = when_accepted (λ values. Accepts (tag_named name w values)) (index_values w)

-- selection by a discriminant is not built
abbrev pub tag_written : VariantSelector → Block → Judged Tag
tag_written (selector.Tag at name of) b = when_accepted (tag_of name) (type_named of.first of.second b)
tag_written (selector.Discriminant at name) b = unbuilt

-- What is gathered of variants, with what has been declared behind them: their labels, their denoters, the fields of
-- each, and how many nodes they have; and the variant that completes the others, whose fields are then the last ones.
pub record Gathered : Type 0 where
  pub labels : Labels
  pub variants : List Variant
  pub lists : List (List FieldType)
  pub nodes : ℕ
  pub completing : Option FieldPart
  pub block : Block

abbrev pub none_gathered : Block → Gathered
none_gathered b = record { labels = no_labels; variants = []; lists = []; nodes = 0; completing = None; block = b }

-- a variant, by its labels and its fields
pub record VariantJudged : Type 0 where
  pub labels : List Label
  pub fields : ListJudged

-- one more, with these ranges, behind which the labels are these
abbrev pub variant_added : List CaseRange → Labels → Listed → Gathered → Gathered
variant_added ranges found l g =
    record g {
      labels = found;
      variants = g.variants ++ roll-Variant (record { ranges = ranges; part = l.listing.part }) ∷ [];
      lists = g.lists ++ l.listing.fields ∷ [];
      nodes = variant_nodes g.nodes ranges l.listing.nodes;
      block = l.block;
    }

-- the ranges of a variant, the labels behind it, and the block, which waits where they are not all built
pub record Labelled : Type 0 where
  pub ranges : List CaseRange
  pub labels : Labels
  pub block : Block

abbrev pub labels_noted : ℕ → TagValues → List Label → Block → Labels → Judged Labelled
labels_noted line t ls b found =
    when_accepted
    (λ (x : List CaseRange × Labels). Accepts
    (record { ranges = x.0; labels = x.1; block = noted x.1.built line b }))
    (variant_labelled (scopes_of b) t ls found)

-- its labels, and then its fields
abbrev pub variant_written : ℕ → TagValues → VariantJudged → Gathered → Judged Gathered
variant_written line t v g =
    when_accepted (λ x. when_accepted (λ l. Accepts (variant_added x.ranges x.labels l g)) (v.fields line x.block))
    (labels_noted line t v.labels g.block g.labels)

abbrev pub variants_written : ℕ → TagValues → List VariantJudged → Gathered → Judged Gathered
variants_written line t [] g = Accepts g
variants_written line t (v ∷ vs) g = when_accepted (variants_written line t vs) (variant_written line t v g)

-- the one that completes them, where there is one
abbrev pub completing_added : Listed → Gathered → Gathered
completing_added l g =
    record g {
      lists = g.lists ++ l.listing.fields ∷ [];
      nodes = variant_nodes g.nodes [] l.listing.nodes;
      completing = Some l.listing.part;
      block = l.block;
    }

abbrev pub completing_written : ℕ → Option ListJudged → Gathered → Judged Gathered
completing_written line None g = Accepts g
completing_written line (Some fields) g = when_accepted (λ l. Accepts (completing_added l g)) (fields line g.block)

-- no value of the tag is left out
abbrev pub unless_left_out : TagValues → Gathered → Judged Gathered
unless_left_out t g = when_accepted (λ _. Accepts g) (completed t g.labels (is_some g.completing))

-- how the variants are selected, by a tag in the component of this number
abbrev pub selection_of : ℕ → Gathered → Selection
selection_of number g = record { tag = number; labels = g.labels.before; completed = is_some g.completing }

-- the variant part, as a denoter has it
abbrev pub variant_part : Tag → Gathered → VariantPart
variant_part t g =
    roll-VariantPart
    (record { selector = written_selector.Tag t.name t.denoter; variants = g.variants; completing = g.completing })

-- a list with these variants
abbrev pub variant_listing : Fielded → Tag → Gathered → List FieldType → Listed
variant_listing f t g fields =
    record {
      listing =
          record {
            part = field_part f.fields (Some (variant_part t g));
            fields = fields;
            nodes = counted (counted (fields_nodes 0 f.fields) t.nodes) g.nodes;
          };
      block = g.block;
    }

abbrev pub variant_list : Fielded → Tag → Gathered → Judged Listed
variant_list f t g =
    when_accepted (λ fields. Accepts (variant_listing f t g fields))
    (all_fields (selection_of (length f.fields) g) t f.fields g.lists)

-- a variant part behind the fields of its list
abbrev pub PartJudged : Type 0
PartJudged = ℕ → Fielded → Judged Listed

abbrev pub variants_after : ℕ → List VariantJudged → Option ListJudged → Fielded → Tag → Judged Listed
variants_after line variants other f t =
    when_accepted (variant_list f t)
    (when_accepted (unless_left_out t.values)
    (when_accepted (completing_written line other) (variants_written line t.values variants
    (none_gathered f.block))))

abbrev pub variant_part_written : VariantSelector → List VariantJudged → Option ListJudged → PartJudged
variant_part_written s variants other line f =
    when_accepted (variants_after line variants other f) (tag_written s f.block)

-- fields that are written, with what follows them
abbrev pub list_ended : ℕ → Option PartJudged → Fielded → Judged Listed
list_ended line None f = Accepts (plain_list f)
list_ended line (Some part) f = part line f

abbrev pub list_written : List Section → Option PartJudged → ListJudged
list_written sections part line b =
    when_accepted (list_ended line part) (sections_written line sections (record { fields = []; block = b }))

-- the record type with these fields (ISO 10206, 6.4.3.4)
abbrev pub record_over : Listed → Written
record_over l =
    record {
      denoter = denoter.Record l.listing.part;
      of = next_type l.block;
      kind = kind.Structured (length l.block.types);
      nodes = counted 1 l.listing.nodes;
      block =
          with_structure (record { number = length l.block.types; composition = composition.Record l.listing.fields })
          l.block;
    }

abbrev pub record_written : ListJudged → ℕ → Block → Judged Written
record_written fields line b = when_accepted (λ l. Accepts (record_over l)) (fields line b)

-- ---- initial states (ISO 10206, 6.6)

-- the type with this initial state
abbrev pub with_initial_state : ℕ → Written → ConstantForm → Written
with_initial_state line w c =
    record {
      denoter = denoter.Initial w.denoter c.value;
      of = w.of;
      kind = w.kind;
      nodes = counted 1 w.nodes;
      block = noted c.built line w.block;
    }

-- An initial state fits its type, whose values it may lie outside of: that is an error where the type is elaborated
-- (own).
abbrev pub fitting_state : ℕ → Written → ConstantForm → Judged Written
fitting_state line w c =
    if may_begin c.kind w.kind then Accepts (with_initial_state line w c) else Breaks (rule.INITIAL_STATE ∷ [])

-- a type, by its name, with an initial state, in which the constants may stand that are declared with the type
abbrev pub begun_with : ℕ → ComponentValue → Written → Judged Written
begun_with line v w =
    when_accepted (fitting_state line w) (initial_state_judged (scopes_of w.block) (asked_by w.kind) v)

abbrev pub initial_written : DenoterPart → ComponentValue → ℕ → Block → Judged Written
initial_written p v line b = when_accepted (begun_with line v) (settled_part p line b)

-- a type with the initial state that may be given to it
abbrev pub begun : DenoterPart → Option ComponentValue → DenoterPart
begun p None = p
begun p (Some v) = record { is_name = false; written = initial_written p v }

-- ---- denoters, node by node

-- a structure is no name
abbrev pub structured : DenoterPart → DenoterPart
structured p = record { is_name = false; written = p.written }

-- what is not built
abbrev pub unbuilt_part : DenoterPart
unbuilt_part = record { is_name = false; written = λ line b. unbuilt }

-- what the rules come to for each kind of node
abbrev pub type_results : fold.TypeResults
type_results =
    record (fold.types_as DenoterPart) {
      field_section = Section;
      fields = ListJudged;
      variant = VariantJudged;
      variant_part = PartJudged;
    }

abbrev pub at_variant : fold.VariantOf type_results → VariantJudged
at_variant v = record { labels = v.labels; fields = v.fields }

abbrev pub at_variant_part : fold.VariantPartOf type_results → PartJudged
at_variant_part p = variant_part_written p.selector p.variants p.otherwise

abbrev pub at_fields : fold.FieldsOf type_results → ListJudged
at_fields f = list_written f.sections f.variants

abbrev pub at_field_section : fold.FieldSectionOf type_results → Section
at_field_section s = record { names = s.names; of = s.of }

abbrev pub at_plain : fold.PlainOf type_results → DenoterPart
at_plain p = p.core

abbrev pub at_type_denoter : fold.TypeDenoterOf type_results → DenoterPart
at_type_denoter t = begun t.plain t.initial

-- a structure, which is an array, a record or a set
abbrev pub at_structure : fold.StructureOf type_results → DenoterPart
at_structure (Structure-F.Array at indexes component) = structured (array_part component indexes)
at_structure (Structure-F.Record at fields) = record { is_name = false; written = record_written fields }
at_structure (Structure-F.Set at base) = record { is_name = false; written = set_written base }

-- a denoter
abbrev pub at_core : fold.CoreOf type_results → DenoterPart
at_core (Core-F.Named at name tuple) =
    record { is_name = true; written = λ line b. type_named name.first name.second b }
at_core (Core-F.Range at low high) =
    record {
      is_name = false;
      written = λ line b. both (range line b) (bound_judged (scopes_of b) low) (bound_judged (scopes_of b) high);
    }
at_core (Core-F.Enumeration at names) = record { is_name = false; written = λ line b. enumeration names b }
at_core (Core-F.Structured at packed structure) = structure
at_core _ = unbuilt_part

-- these rules together
abbrev pub at_types : fold.TypeRules type_results
at_types =
    record {
      core = at_core;
      structure = at_structure;
      field_section = at_field_section;
      fields = at_fields;
      plain = at_plain;
      type_denoter = at_type_denoter;
      variant = at_variant;
      variant_part = at_variant_part;
    }

abbrev pub core_part : Core → DenoterPart
core_part = fold.of_core at_types

-- that of a structure, of fields and of a section of them, of a variant part and of a variant, and that of a plain
-- denoter
abbrev pub structure_part : Structure → DenoterPart
structure_part = fold.of_structure at_types

abbrev pub fields_judged : Fields → ListJudged
fields_judged = fold.of_fields at_types

abbrev pub section_part : FieldSection → Section
section_part = fold.of_field_section at_types

abbrev pub variants_judged : VariantPartTree → PartJudged
variants_judged = fold.of_variant_part at_types

abbrev pub variant_judged : VariantTree → VariantJudged
variant_judged = fold.of_variant at_types

abbrev pub plain_part : Plain → DenoterPart
plain_part = fold.of_plain at_types

-- that of a denoter with or without an initial state
abbrev pub denoter_part : TypeDenoter → DenoterPart
denoter_part = fold.of_type_denoter at_types

abbrev pub core_written : ℕ → Core → Block → Judged Written
core_written line c b = (core_part c).written line b

abbrev pub type_written : ℕ → TypeDenoter → Block → Judged Written
type_written line t b = (denoter_part t).written line b

-- ---- constant definitions (ISO 10206, 6.3.1)

-- the value of a definition, which lies in its type
abbrev pub constant_fitting : ComponentValue → Block → Judged ConstantForm
constant_fitting v b = when_accepted (unless_outside b.types (scopes_of b)) (constant_judged (scopes_of b) v)

abbrev pub constant_definition : ConstantDefinition → Block → Judged Block
constant_definition d b =
    both (λ form new. Accepts (noted form.built d.line (with_constant d.name form.kind form.value form.depth b)))
    (constant_fitting d.value b) (unused d.name b)

-- ---- type parts (ISO 10206, 6.4.1)

-- the entry of a definition, and then its name
abbrev pub type_entered : TypeDefinition → Written → Judged Block
type_entered d w =
    entered d.name (own_thing w.block (length w.block.types) (declaration.«Type» w.of w.kind w.nodes))
    (with_type (Some d.name) d.line w.denoter w.block)

-- a definition in a type part on this line
abbrev pub type_definition : ℕ → TypeDefinition → Block → Judged Block
type_definition line d b = when_accepted (type_entered d) (when_accepted unless_large (type_written line d.of b))

abbrev pub type_definitions : ℕ → List TypeDefinition → Block → Judged Block
type_definitions line [] b = Accepts b
type_definitions line (d ∷ ds) b = when_accepted (type_definitions line ds) (type_definition line d b)

-- ---- variable declarations (ISO 10206, 6.5.1)

-- the type of the declaration
abbrev pub settled_type : ℕ → TypeDenoter → Block → Judged Written
settled_type line t b = settled_part (denoter_part t) line b

-- a variable of the declaration that is under way
abbrev pub new_variable : ℕ → Denoter → List ℕ → Block → UnitVariable
new_variable line d name b =
    record { name = name; line = line; declaration = b.declarations; denoter = d; tuple = []; parameter = false }

-- it is one of the unit
abbrev pub with_unit_variable : ℕ → Denoter → TypeName → Kind → List ℕ → Block → Block
with_unit_variable line d of k name b =
    with_name name (own_thing b (length b.variables) (declaration.Variable of k protection.Unprotected))
    (record b { variables = b.variables ++ new_variable line d name b ∷ [] })

-- it is one of the routine whose block is under way, where it comes behind the formal parameters and the result
abbrev pub with_own_variable : ℕ → Denoter → TypeName → Kind → List ℕ → Block → Block
with_own_variable line d of k name b =
    with_name name (own_thing b (own_count b.own) (declaration.Own of k protection.Unprotected))
    (record b {
      own = record {
        parameters = b.own.parameters;
        result = b.own.result;
        variables = b.own.variables ++ new_variable line d name b ∷ [];
        enclosing = b.own.enclosing;
      };
    })

-- whether the block is that of the unit itself, and of no routine
abbrev pub is_outermost : List Enclosing → Bool
is_outermost [] = true
is_outermost (e ∷ es) = false

-- In the block of a routine a variable is one of the routine, and else one of the unit.
abbrev pub with_variable : ℕ → Denoter → TypeName → Kind → List ℕ → Block → Block
with_variable line d of k name b =
    if is_outermost b.own.enclosing then with_unit_variable line d of k name b
    else with_own_variable line d of k name b

-- the block with it, where its name is not there
abbrev pub variable_placed : Block → List ℕ → Block → Judged Block
variable_placed c name b = when_accepted (λ _. Accepts c) (unused name b)

abbrev pub variable_entered : ℕ → Denoter → TypeName → Kind → List ℕ → Block → Judged Block
variable_entered line d of k name b = variable_placed (with_variable line d of k name b) name b

abbrev pub variables_entered : ℕ → Denoter → TypeName → Kind → List (List ℕ) → Block → Judged Block
variables_entered line d of k [] b = Accepts b
variables_entered line d of k (name ∷ names) b =
    when_accepted (variables_entered line d of k names) (variable_entered line d of k name b)

-- one declaration more
abbrev pub declaration_ended : Block → Block
declaration_ended b = record b { declarations = suc b.declarations }

abbrev pub variables_declared : VariableDeclaration → Written → Judged Block
variables_declared d w =
    when_accepted (λ b. Accepts (declaration_ended b)) (variables_entered d.line w.denoter w.of w.kind d.names w.block)

abbrev pub variable_declaration : VariableDeclaration → Block → Judged Block
variable_declaration d b =
    when_accepted (variables_declared d) (when_accepted unless_large (settled_type d.line d.of b))

-- ---- parts of a block (ISO 10206, 6.2.1)

-- what stands after some items, or the line of the first one that breaks a rule, with the rules that fail there
pub data Standing : Type 0 where
  Stands : (block : Block) → Standing
  Falls : (line : ℕ) (rules : List ℕ) → Standing

-- whether the first item that breaks a rule begins on this line, and this rule fails there
abbrev pub falls_at : ℕ → ℕ → Standing → Bool
falls_at rule line (Stands b) = false
falls_at rule line (Falls first rules) = line == first && list_any (nat_eq rule) rules

-- an item on this line
abbrev pub at_line : ℕ → Judged Block → Standing
at_line line (Accepts b) = Stands b
at_line line (Breaks rules) = Falls line rules

-- and then more
abbrev pub and_then : (Block → Standing) → Standing → Standing
and_then more (Stands b) = more b
and_then more (Falls line rules) = Falls line rules

abbrev pub constants_declared : List ConstantDefinition → Block → Standing
constants_declared [] b = Stands b
constants_declared (d ∷ ds) b = and_then (constants_declared ds) (at_line d.line (constant_definition d b))

abbrev pub all_variables_declared : List VariableDeclaration → Block → Standing
all_variables_declared [] b = Stands b
all_variables_declared (d ∷ ds) b = and_then (all_variables_declared ds) (at_line d.line (variable_declaration d b))
