-- The law of typed statements: what the rules accept is valid wherever the declarations hold what the scopes declare.
use Rattle.std.specs.Prelude.{◌≡◌, ℕ, ◌+◌, ◌-◌, All, List, [], ◌∷◌, Some, slice_get, ⊤}
use Rattle.ep_tree.specs.declared.statement.Compound.{Compound}
use Rattle.ep_typed.specs.Auxiliaries.{first_for_in_of, first_for_of, with_variable, with_variables_of}
use Rattle.ep_typed.specs.Denoters.{bare_type_of}
use Rattle.ep_typed.specs.Hosts as host
use Rattle.ep_typed.specs.Trees.{Entire, Named, Place, Stmts, Own, entire}
use Rattle.ep_values.specs.TypeValues.{TypeValue}
use Rattle.ep_meaning.specs.Valid.{AreStmts, Declarations, IsOfKind, IsPlace, IsPlaceWhere, IsUnmade}
use Rattle.ep_typed.specs.declared.unit.UnitVariable.{UnitVariable}
use Rattle.ep_meaning.specs.Valid as valid
use Rattle.ep_scope.specs.Scopes.{depth_in}
use Rattle.ep_scope.specs.declared.parameter.TypeName.TheVariants as type_name
use Rattle.ep_scope.specs.declared.structure.StructuredType.{StructuredType}
use Rattle.ep_scope.specs.declared.kind.Kind.{Kind}
use Rattle.ep_scope.specs.declared.kind.Kind.TheVariants as kind
use Rattle.ep_expr_laws.specs.Agreement.{Agrees, HoldsStructure, IsHost, IsValueOf, TypeValues, structures_of}
use Rattle.ep_rules.specs.Hosts.{typed_host}
use Rattle.ep_stmt_rules.specs.Statements.{Context, FunctionResult, Locals, Passes, compound_judged, initial_variable}
use Rattle.ep_stmt_rules.specs.Statements.{last_variable, block_variable}

-- The place is that of a variable for results of this kind. No function has a result of a string type or a file type
-- so far.
abbrev pub IsResultAt : Declarations → TypeValues → Kind → Place → Type 0
IsResultAt declared types (kind.Ordinal h) place = IsHost h × IsPlace declared (typed_host h) place
IsResultAt declared types (kind.Structured n) place =
    (t : TypeValue) × IsValueOf types n t × IsPlaceWhere declared (IsOfKind (valid.Structured t)) place
IsResultAt declared types (kind.Set h) place =
    IsHost h × IsPlaceWhere declared (IsOfKind (valid.Set (typed_host h))) place
IsResultAt declared types kind.EmptySet place = ⊤
IsResultAt declared types kind.Text place = ⊤
IsResultAt declared types kind.File place = ⊤

-- the variable that has a result is there from code of a depth, and of its kind
abbrev pub ResultIsThere : Declarations → TypeValues → ℕ → FunctionResult → Type 0
ResultIsThere declared types depth r = IsResultAt declared types r.kind (Own (depth - r.level) r.variable)

abbrev pub ResultsAreThere : Declarations → TypeValues → ℕ → List FunctionResult → Type 0
ResultsAreThere declared types depth [] = ⊤
ResultsAreThere declared types depth (r ∷ rs) =
    ResultIsThere declared types depth r × ResultsAreThere declared types depth rs

-- the auxiliary variables are there and are integers
abbrev pub AuxiliariesAreThere : Declarations → Locals → Type 0
AuxiliariesAreThere declared locals =
    IsPlace declared host.Integer (entire (initial_variable locals))
    × IsPlace declared host.Integer (entire (last_variable locals))

-- the one of `for` over members, which has this number, is there and is a set over integers
abbrev pub MembersAreThere : Declarations → Locals → ℕ → Type 0
MembersAreThere declared locals number =
    IsPlaceWhere declared (IsOfKind (valid.Set host.Integer)) (entire (block_variable locals number))

-- The variable stands for a record of the type of this number, under a list of types that holds the structured types:
-- no code makes it, its denoter is the name of that type, and its type value is the one that the type has wherever it
-- is named.
abbrev pub WithIsThere : Declarations → TypeValues → List StructuredType → Entire → ℕ → Type 0
WithIsThere declared types structures v of =
    IsUnmade declared v
    × IsPlaceWhere declared (λ list d. (d ≡ Named of []) × (bare_type_of list d ≡ types (type_name.Entry of))
    × All (HoldsStructure types list) structures) (entire v)

-- so do the variables of `with` statements, from this number on
abbrev pub WithsAreThere : Declarations → TypeValues → List StructuredType → Locals → ℕ → List UnitVariable → Type 0
WithsAreThere declared types structures locals number withs =
    (k line of : ℕ) → slice_get withs k ≡ Some (with_variable line of)
    → WithIsThere declared types structures (block_variable locals (number + k)) of

-- the statements of a compound statement that pass are valid, where the auxiliary variables are there if there is a
-- `for` among them that has these, and those of their `with` statements are
abbrev pub StatementsAreSound : Type 0
StatementsAreSound =
    (context : Context) (c : Compound) (ss : Stmts) → compound_judged context c ≡ Passes ss
    → (declared : Declarations) (agrees : Agrees declared context.scopes)
    → ResultsAreThere declared agrees.0 (depth_in context.scopes) context.results
    → ((line : ℕ) → first_for_of ss ≡ Some line → AuxiliariesAreThere declared context.locals)
    → ((line : ℕ) → first_for_in_of ss ≡ Some line → MembersAreThere declared context.locals context.members)
    → WithsAreThere declared agrees.0 (structures_of context.scopes) context.locals context.withs (with_variables_of
    ss)
    → AreStmts declared ss
