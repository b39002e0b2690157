-- Whether the statements of a block assign to a tag (ISO 10206, 6.5.3.3), and so need the first auxiliary variable of
-- `for` statements.
--
-- It is told before they are judged: by what their names mean and by the types of what these name, whatever stands in
-- an index. So it does not depend on the numbers of the variables that stand for records of `with` statements, which
-- it settles.
use Rattle.std.specs.Prelude.{ℕ, Bool, false, ◌||◌, List, [], ◌∷◌, slice_get, Option, Some, None, is_some}
use Rattle.std.specs.Prelude.{if◌then◌else◌}
use Rattle.std.specs.List.{list_any}
use Rattle.std.specs.Option.{option_map, option_map_or}
use Rattle.ep_tree.specs.Shapes.{when_some}
use Rattle.ep_tree.specs.declared.expression.Access.{Access, out-Access}
use Rattle.ep_tree.specs.declared.expression.ComponentValue.TheOpen.{Selector-F}
use Rattle.ep_tree.specs.declared.expression.Selector.{Selector, out-Selector}
use Rattle.ep_tree.specs.Folds as fold
use Rattle.ep_tree.specs.declared.statement.Statement.TheOpen.{Statement-F}
use Rattle.ep_tree.specs.declared.statement.Statement.{Statement}
use Rattle.ep_tree.specs.declared.statement.Arm.{Arm}
use Rattle.ep_tree.specs.declared.statement.Compound.{Compound}
use Rattle.ep_tree.specs.declared.statement.Otherwise.{Otherwise}
use Rattle.ep_typed.specs.Trees.{OfRoutine}
use Rattle.ep_scope.specs.Fields.{field_number}
use Rattle.ep_scope.specs.Scopes.{Region, Meant, Declares, Standard, Requires, FieldOf, Nothing, meant, meant_in}
use Rattle.ep_scope.specs.Scopes.{structure_in, within}
use Rattle.ep_scope.specs.declared.kind.Kind.{Kind}
use Rattle.ep_scope.specs.declared.kind.Kind.TheVariants as kind
use Rattle.ep_scope.specs.declared.parameter.Protection.TheVariants as protection
use Rattle.ep_scope.specs.declared.structure.Composition.{Composition}
use Rattle.ep_scope.specs.declared.structure.Composition.TheVariants as composition
use Rattle.ep_scope.specs.declared.structure.FieldType.{FieldType}
use Rattle.ep_scope.specs.declared.thing.Declaration.{Declaration}
use Rattle.ep_scope.specs.declared.thing.Declaration.TheVariants as declaration
use Rattle.ep_rules.specs.Names.{is_nothing}
use Rattle.ep_check_expr.specs.Shapes.{field_first}
use Rattle.ep_stmt_rules.specs.declared.tags.Reached.{Reached}

-- ---- what an access names, by its kind, and whether it is a tag

abbrev pub of_kind : Kind → Reached
of_kind k = record { kind = k; is_tag = false }

abbrev pub of_field : FieldType → Reached
of_field f = record { kind = f.kind; is_tag = is_some f.tag }

-- what is declared, where it is a variable
abbrev pub declared_reached : Declaration → Option Reached
declared_reached (declaration.Variable of k guarded) = Some (of_kind k)
declared_reached (declaration.Own of k guarded) = Some (of_kind k)
declared_reached (declaration.Constant k value deep) = None
declared_reached (declaration.«Type» of k nodes) = None
declared_reached (declaration.Procedure parameters) = None
declared_reached (declaration.Function parameters of k) = None

-- a name that means this
abbrev pub name_reached : Meant → Option Reached
name_reached (Declares d) = declared_reached d.what
name_reached (Standard file) = None
name_reached (Requires r) = None
name_reached (FieldOf f) = Some (of_field f.field)
name_reached Nothing = None

-- a component of an array
abbrev pub component_reached : Option Composition → Option Reached
component_reached None = None
component_reached (Some (composition.Array a)) = Some (of_kind a.kind)
component_reached (Some (composition.Record fs)) = None

-- the field at a place among those of a record, where there is one
abbrev pub field_at : List FieldType → Option ℕ → Option Reached
field_at fs None = None
field_at fs (Some place) = option_map of_field (slice_get fs place)

-- the field of a name
abbrev pub field_reached : List ℕ → Option Composition → Option Reached
field_reached name None = None
field_reached name (Some (composition.Array a)) = None
field_reached name (Some (composition.Record fs)) = field_at fs (field_number fs name)

-- what a structured type is made of
abbrev pub composition_of : List Region → Kind → Option Composition
composition_of scopes (kind.Structured n) = structure_in scopes n
composition_of scopes (kind.Ordinal h) = None
composition_of scopes (kind.Set h) = None
composition_of scopes kind.EmptySet = None
composition_of scopes kind.Text = None
composition_of scopes kind.File = None

module _ (scopes : List Region) where
  -- a component of what is named, for each index
  abbrev pub indexed : {A : Type 0} → List A → Option Reached → Option Reached
  indexed [] r = r
  indexed (index ∷ more) r = indexed more (when_some r (λ x. component_reached (composition_of scopes x.kind)))

  -- a field of what is named
  abbrev pub designated : List ℕ → Option Reached → Option Reached
  designated name r = when_some r (λ x. field_reached name (composition_of scopes x.kind))

  abbrev pub selected_by : {A B C D E F G H I J K L M N : Type 0} → Selector-F A B C D E F G H I J K L M N
      → Option Reached → Option Reached
  selected_by (Selector-F.Field line name) r = designated name r
  selected_by (Selector-F.Index line indexes) r = indexed indexes r
  selected_by (Selector-F.Dereference line) r = None
  selected_by (Selector-F.Arguments line arguments) r = None

  -- what is named, with selectors behind it
  abbrev pub selected_all : List Selector → Option Reached → Option Reached
  selected_all [] r = r
  selected_all (s ∷ more) r = selected_all more (selected_by (out-Selector s) r)

  -- `i.a`, a name that an interface has (ISO 10206, 6.11.3), or else a field
  abbrev pub constituent_or_field : List ℕ → List ℕ → Meant → Option Reached
  constituent_or_field first second within =
      if is_nothing within then designated second (name_reached (meant scopes first)) else name_reached within

  -- a name with these selectors, by what the first of them says where that is a field
  abbrev pub begun : List ℕ → List Selector → Option (List ℕ × List Selector) → Option Reached
  begun name selectors None = selected_all selectors (name_reached (meant scopes name))
  begun name selectors (Some (field, more)) =
      selected_all more (constituent_or_field name field (meant_in scopes name field))

  abbrev pub access_reached : Access → Option Reached
  access_reached a = begun (out-Access a).name (out-Access a).selectors (field_first (out-Access a).selectors)

  -- whether it is a tag
  abbrev pub is_tag : Access → Bool
  is_tag a = option_map_or (λ r. r.is_tag) (access_reached a) false

-- ---- records of `with` (ISO 10206, 6.9.3.10), whose variables play no part here

abbrev pub one_within : Option Composition → List Region → List Region
one_within None scopes = scopes
one_within (Some (composition.Array a)) scopes = scopes
one_within (Some (composition.Record fs)) scopes =
    within (record { variable = OfRoutine 0 0; guarded = protection.Unprotected; fields = fs }) scopes

-- one that is named where others are open inside of the scopes
abbrev pub record_within : List Region → Access → List Region → List Region
record_within scopes a inner =
    one_within (when_some (access_reached inner a) (λ r. composition_of scopes r.kind)) inner

abbrev pub records_within : List Region → List Access → List Region → List Region
records_within scopes [] inner = inner
records_within scopes (a ∷ more) inner = records_within scopes more (record_within scopes a inner)

-- ---- statements, in view of scopes

abbrev pub Assigning : Type 0
Assigning = List Region → Bool

abbrev pub any_assigns : List Assigning → Assigning
any_assigns ss scopes = list_any (λ (s : Assigning). s scopes) ss

abbrev pub assigns_if : Option Assigning → Assigning
assigns_if None scopes = false
assigns_if (Some s) scopes = s scopes

-- whether a statement assigns to a tag, or one inside of it
abbrev pub in_statement : fold.StatementOf (fold.statements_as Assigning) → Assigning
in_statement (Statement-F.Empty line) scopes = false
in_statement (Statement-F.Assignment line access value) scopes = is_tag scopes access
in_statement (Statement-F.Call line access) scopes = false
in_statement (Statement-F.Compound compound) scopes = compound scopes
in_statement (Statement-F.If line condition then_part other) scopes = then_part scopes || assigns_if other scopes
in_statement (Statement-F.Case line selector arms other) scopes = any_assigns arms scopes || assigns_if other scopes
in_statement (Statement-F.While line condition body) scopes = body scopes
in_statement (Statement-F.Repeat line statements condition) scopes = any_assigns statements scopes
in_statement (Statement-F.For line variable start direction end body) scopes = body scopes
in_statement (Statement-F.ForIn line variable members body) scopes = body scopes
in_statement (Statement-F.With line accesses body) scopes = body (records_within scopes accesses scopes)

abbrev pub in_arm : fold.ArmOf (fold.statements_as Assigning) → Assigning
in_arm a = a.body

abbrev pub in_compound : fold.CompoundOf (fold.statements_as Assigning) → Assigning
in_compound c = any_assigns c.statements

abbrev pub in_otherwise : fold.OtherwiseOf (fold.statements_as Assigning) → Assigning
in_otherwise o = any_assigns o.statements

-- these rules together
abbrev pub in_statements : fold.StatementRules (fold.statements_as Assigning)
in_statements =
    record {
      statement = in_statement;
      arm = in_arm;
      compound = in_compound;
      otherwise = in_otherwise;
    }

abbrev pub statement_assigns : Statement → Assigning
statement_assigns = fold.of_statement in_statements

abbrev pub arm_assigns : Arm → Assigning
arm_assigns = fold.of_arm in_statements

abbrev pub otherwise_assigns : Otherwise → Assigning
otherwise_assigns = fold.of_otherwise in_statements

-- whether a statement part has an assignment to a tag, in view of scopes
abbrev pub compound_assigns : Compound → Assigning
compound_assigns = fold.of_compound in_statements

abbrev pub assigns_tag : List Region → Compound → Bool
assigns_tag scopes c = compound_assigns c scopes
