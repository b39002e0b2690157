-- What the rules say of small assignments to tags.
use Rattle.std.proofs.Common.{◌≡◌, ℕ, pos, true, false, List, [], ◌∷◌, Option, Some, None, refl, codes}
use Rattle.ep_tree.specs.Nodes.{access_node, expression_node, simple_node, term_node}
use Rattle.ep_tree.specs.declared.expression.Access.{Access}
use Rattle.ep_tree.specs.declared.expression.Expression.{Expression}
use Rattle.ep_tree.specs.declared.expression.Factor.TheVariants as factor
use Rattle.ep_tree.specs.declared.expression.Selector as selectors
use Rattle.ep_tree.specs.declared.expression.Selector.TheVariants as selector
use Rattle.ep_typed.specs.Trees as tree
use Rattle.ep_typed.specs.Trees.{AssignTag, Constant, Place, Stmt, Variable}
use Rattle.ep_typed.specs.declared.denoter.RequiredType.TheVariants as simple
use Rattle.ep_typed.specs.declared.tree.Selection.{Selection}
use Rattle.ep_typed.specs.declared.value.Value.TheVariants as value
use Rattle.ep_scope.specs.Scopes.{Region, within}
use Rattle.ep_scope.specs.declared.kind.Host.{Host}
use Rattle.ep_scope.specs.declared.kind.Host.TheVariants as host
use Rattle.ep_scope.specs.declared.kind.Kind.TheVariants as kind
use Rattle.ep_scope.specs.declared.parameter.Protection.{Protection}
use Rattle.ep_scope.specs.declared.parameter.Protection.TheVariants as protection
use Rattle.ep_scope.specs.declared.parameter.TypeName.TheVariants as type_name
use Rattle.ep_scope.specs.declared.rule.TheConstants as rule
use Rattle.ep_scope.specs.declared.structure.Composition.TheVariants as composition
use Rattle.ep_scope.specs.declared.structure.FieldType.{FieldType}
use Rattle.ep_scope.specs.declared.structure.StructuredType.{StructuredType}
use Rattle.ep_scope.specs.declared.structure.TagType.{TagType}
use Rattle.ep_scope.specs.declared.thing.Declaration.{Declaration}
use Rattle.ep_scope.specs.declared.thing.Declaration.TheVariants as declaration
use Rattle.ep_scope.specs.declared.thing.Thing.{Thing}
use Rattle.ep_scope.specs.declared.thing.Thing.TheVariants as thing
use Rattle.ep_check_expr.specs.Expressions.{judged}
use Rattle.ep_rules.specs.Judgements.{Judged, Accepts, Breaks, both}
use Rattle.ep_check_expr.proofs.public.Nodes.{access-judged, expression-judged, field-judged, name-judged, simple-judged, term-judged}
use Rattle.ep_stmt_rules.specs.Statements.{Context, OfUnit, assigned, target_judged}
use Rattle.ep_stmt_rules.specs.Tags.{is_tag}

-- the colors, of which red is the first and blue the last one
abbrev color : Host
color = host.Enumeration (record { number = 0; last = 1 })

-- a tag of a color, behind one component, which selects a variant for red and one for all others
abbrev by_color : Selection
by_color = record { tag = 1; labels = (record { low = pos 0; high = pos 0 } ∷ []) ∷ []; completed = true }

abbrev color_tag : TagType
color_tag = record { selection = by_color; host = color; low = pos 0; high = pos 1 }

-- the fields of a record: an integer x, and the tag k
abbrev fields : List FieldType
fields =
    record { name = codes "x"; of = type_name.Required simple.Integer; kind = kind.Ordinal host.Integer; path = []; number = 0; tag = None } ∷ record { name = codes "k"; of = type_name.Entry 0; kind = kind.Ordinal color; path = []; number = 1; tag = Some color_tag } ∷ []

abbrev shape : StructuredType
shape = record { number = 5; composition = composition.Record fields }

abbrev declares : ℕ → Declaration → Thing
declares number what = thing.Declared (record { unit = codes "u"; number = number; level = 0; what = what })

-- the color red, the record v, and the protected one g
abbrev in_view : List Region
in_view =
    record {
      entries =
          (codes "red", declares 0 (declaration.Constant (kind.Ordinal color) (value.Word (pos 0)) 1)) ∷ (codes "v", declares 7 (declaration.Variable (type_name.Entry 5) (kind.Structured 5) protection.Unprotected))
          ∷ (codes "g", declares 0 (declaration.Own (type_name.Entry 5) (kind.Structured 5) protection.Protected)) ∷ [];
      qualified = [];
      structures = shape ∷ [];
      records = [];
    } ∷ []

-- such a record that is open, for which variable 9 stands
abbrev opened : Protection → List Region
opened guarded = within (record { variable = tree.OfUnit (codes "u") 9; guarded = guarded; fields = fields }) in_view

abbrev context : List Region → Context
context scopes = record { unit = codes "u"; scopes = scopes; files = record { input = false; output = false }; results = []; locals = OfUnit (codes "u") 2; members = 2; callees = record { own = []; given = [] }; withs = 9 }

-- a name, and one with a field
abbrev alone : List ℕ → Access
alone n = access_node 1 n []

abbrev field : List ℕ → List ℕ → Access
field n f = access_node 1 n (selector.Field 1 f ∷ [])

abbrev red : Expression
red = expression_node 1 (simple_node 1 None (term_node 1 (factor.Access (alone (codes "red"))) []) []) None

-- the assignment of red
abbrev assigns : List Region → Access → Judged (Option Stmt)
assigns scopes a = both (assigned (context scopes).locals 1) (target_judged (context scopes) a) (judged scopes red)

-- it goes by the first auxiliary variable, and by the bounds of the type
abbrev to_tag : Place → Stmt
to_tag whole = AssignTag 1 (record { value = tree.OfUnit (codes "u") 2; low = pos 0; high = pos 1 }) whole by_color (Constant (pos 0))

-- v.k := red
tag_assigned : assigns in_view (field (codes "v") (codes "k")) ≡ Accepts (Some (to_tag (Variable (codes "u") 7)))
tag_assigned = simp (access-judged, field-judged, expression-judged, simple-judged, term-judged, name-judged) refl

-- v.x := red, where x is an integer
other_field : assigns in_view (field (codes "v") (codes "x")) ≡ Breaks (rule.ASSIGNMENT ∷ [])
other_field = simp (access-judged, field-judged, expression-judged, simple-judged, term-judged, name-judged) refl

-- g.k := red
protected_tag : assigns in_view (field (codes "g") (codes "k")) ≡ Breaks (rule.PROTECTED ∷ [])
protected_tag = simp (access-judged, field-judged, expression-judged, simple-judged, term-judged, name-judged) refl

-- k := red where the record is open
open_tag : assigns (opened protection.Unprotected) (alone (codes "k")) ≡ Accepts (Some (to_tag (Variable (codes "u") 9)))
open_tag = simp (expression-judged, simple-judged, term-judged, name-judged) refl

protected_open_tag : assigns (opened protection.Protected) (alone (codes "k")) ≡ Breaks (rule.PROTECTED ∷ [])
protected_open_tag = simp (expression-judged, simple-judged, term-judged, name-judged) refl

-- what is said of these before they are judged
said_of_tag : is_tag in_view (field (codes "v") (codes "k")) ≡ true
unfolding selectors.out-Selector denote.Hole.Carrier.out
said_of_tag = refl

said_of_field : is_tag in_view (field (codes "v") (codes "x")) ≡ false
unfolding selectors.out-Selector denote.Hole.Carrier.out
said_of_field = refl

said_of_open_tag : is_tag (opened protection.Protected) (alone (codes "k")) ≡ true
said_of_open_tag = refl

said_of_no_field : is_tag in_view (alone (codes "k")) ≡ false
said_of_no_field = refl
