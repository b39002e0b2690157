-- A built component is ruled out in one way, but for which rule is named, and is then no program.
use Rattle.std.proofs.Common.{◌≡◌, ℕ, ◌+◌, ◌<◌, ◌≤◌, ◌==◌, min, length, sum, map, Bool, true, false, ◌&&◌, IsTrue, List, [], ◌∷◌, refl, sym, ap, ◌∙◌, subst, arith}
use Rattle.std.proofs.lemmas.Bool.Decides.{Decides-eqb}
use Rattle.ep_token.proofs.public.TokenLaws.{tokens-one}
use Rattle.ep_tree.specs.declared.component.Component.{Component}
use Rattle.ep_tree.specs.declared.component.Component.TheVariants as component_is
use Rattle.ep_grammar.proofs.public.Refusal.{one_tree}
use Rattle.ep_grammar.specs.Rules.{Grammar}
use Rattle.ep_grammar.specs.declared.stop.TheConstants.{MAX_NESTING}
use Rattle.ep_typed.specs.Nodes.{unit_nodes, heading_nodes, type_nodes, constant_nodes, variable_nodes, routine_nodes, stmt_nodes}
use Rattle.ep_typed.specs.Viewed.{stmt_of}
use Rattle.ep_typed.specs.declared.unit.Unit.{Unit as TypedUnit}
use Rattle.ep_typed.specs.declared.unit.UnitRoutine.{UnitRoutine}
use Rattle.ep_stmt_rules.specs.Statements.{Judgement, Passes, Waits, Fails, fails_at}
use Rattle.ep_check_unit.specs.Blocks.{RoutineForm, routine_form}
use Rattle.ep_check_unit.specs.Units.{ProgramForm, IsUnitOf, IsTyped, BreaksAt, WaitsAt, component_judged}
use Rattle.ep_drive.specs.ProgramTexts.{HasBuilt, IsSound, IsTooLarge}
use Rattle.ep_drive.specs.Refusals.{RulesOut, IsRuledOut, AreAlike}
use Rattle.ep_drive.specs.declared.source.SourceRefusal.{SourceRefusal}
use Rattle.ep_drive.specs.declared.source.SourceRefusal.TheVariants as source

-- both facts are about one component
pub both_built : {C : Type 0} (text : List ℕ) (P Q : Component → Type 0) → ((c : Component) → P c → Q c → C) → HasBuilt text P → HasBuilt text Q → C
both_built text P Q f p q =
    let derived : Grammar MAX_NESTING q.tokens (p.component ∷ []) = subst (λ ts. Grammar MAX_NESTING ts (p.component ∷ [])) (tokens-one text p.tokens q.tokens p.are_tokens q.are_tokens) p.derived in
    let lists : p.component ∷ [] ≡ q.component ∷ [] = one_tree MAX_NESTING MAX_NESTING q.tokens (p.component ∷ []) (q.component ∷ []) derived q.derived in
    let same : p.component ≡ q.component = cc in
    f q.component (subst P same p.holds) q.holds

-- the form of a component that has a typed unit, and the unit by it
record HasForm (c : Component) (u : TypedUnit) : Type 0 where
  form : ProgramForm
  passes : component_judged c ≡ Passes form

has_form : (c : Component) (u : TypedUnit) → IsTyped c u → HasForm c u
has_form (component_is.Program p) u t = record { form = t.form; passes = t.passes }
has_form (component_is.Heading h) u t = absurd t
has_form (component_is.Block b) u t = absurd t
has_form (component_is.Module m) u t = absurd t

-- the typed nodes of a routine, by its form
abbrev form_nodes : RoutineForm → ℕ
form_nodes f = heading_nodes f.formals f.result + sum (map variable_nodes f.variables) + stmt_nodes f.block

routines_nodes : (rs : List UnitRoutine) → map routine_nodes rs ≡ map form_nodes (map routine_form rs)
routines_nodes [] = refl
routines_nodes (r ∷ rs) = ap (λ ns. routine_nodes r ∷ ns) (routines_nodes rs)

-- two units that have the same parts, to all that is said of them
pub record SameParts (u v : TypedUnit) : Type 0 where
  pub names : u.name ≡ v.name
  pub types : u.types ≡ v.types
  pub variables : u.variables ≡ v.variables
  pub starts : stmt_of u.start ≡ stmt_of v.start
  pub stops : stmt_of u.stop ≡ stmt_of v.stop
  pub routines : map routine_form u.routines ≡ map routine_form v.routines
  pub nodes : unit_nodes u ≡ unit_nodes v

-- the typed units of one component
pub one_unit : (c : Component) (u v : TypedUnit) → IsTyped c u → IsTyped c v → SameParts u v
one_unit (component_is.Program p) u v a b =
    let forms : Passes a.form ≡ Passes b.form = sym a.passes ∙ b.passes in
    let same : a.form ≡ b.form = cc in
    alike (subst (λ form. IsUnitOf p form u) same a.unit) b.unit
  where
    alike : {form : ProgramForm} → IsUnitOf p form u → IsUnitOf p form v → SameParts u v
    alike x y =
        let imports = x.imports ∙ sym y.imports in
        let types = x.types ∙ sym y.types in
        let constants = x.constants ∙ sym y.constants in
        let variables = x.variables ∙ sym y.variables in
        let routines : map routine_form u.routines ≡ map routine_form v.routines = x.routines ∙ sym y.routines in
        let counts : sum (map routine_nodes u.routines) ≡ sum (map routine_nodes v.routines) =
        ap sum (routines_nodes u.routines ∙ (ap (map form_nodes) routines ∙ sym (routines_nodes v.routines))) in
        let starts = x.start ∙ sym y.start in
        let stops = x.stop ∙ sym y.stop in
        record {
          names = x.name ∙ sym y.name;
          types = types;
          variables = variables;
          starts = starts;
          stops = stops;
          routines = routines;
          nodes = λ i.
              length (imports i) + sum (map type_nodes (types i)) + sum (map constant_nodes (constants i)) + sum (map variable_nodes (variables i))
              + counts i + stmt_nodes (starts i) + stmt_nodes (stops i);
        }
one_unit (component_is.Heading h) u v a b = absurd a
one_unit (component_is.Block b) u v a c = absurd a
one_unit (component_is.Module m) u v a b = absurd a

-- ---- one way

-- the number of nodes that is told
one_large : (c : Component) (name other : List ℕ) (n m : ℕ) → IsTooLarge c name n → IsTooLarge c other m → source.TooLarge name n ≡ source.TooLarge other m
one_large c name other n m a b =
    let same = one_unit c a.unit b.unit a.typed b.typed in
    let names : name ≡ other = a.named ∙ same.names ∙ sym b.named in
    let counts : n ≡ m = a.told ∙ ap (λ k. min k 18446744073709551615) same.nodes ∙ sym b.told in
    λ i. source.TooLarge (names i) (counts i)

no_truth : IsTrue false → ⊥
no_truth h = cc

first_of_both : (a b : Bool) → IsTrue (a && b) → IsTrue a
first_of_both true b t = refl
first_of_both false b t = t

-- what is judged has one first item that breaks a rule
one_line : {A : Type 0} (rule line other at : ℕ) (j : Judgement A) → IsTrue (fails_at rule line j) → IsTrue (fails_at other at j) → line ≡ at
one_line rule line other at (Passes form) x y = absurd (no_truth x)
one_line rule line other at (Waits place) x y = absurd (no_truth x)
one_line rule line other at (Fails first rules) x y =
    let same = Decides-eqb line first in
    let also = Decides-eqb at first in
    same.0 (first_of_both (line == first) _ x) ∙ sym (also.0 (first_of_both (at == first) _ y))

-- and is then neither accepted nor waits
not_passing : {A : Type 0} (rule line : ℕ) (j : Judgement A) (form : A) → IsTrue (fails_at rule line j) → j ≡ Passes form → ⊥
not_passing rule line j form h e = no_truth (subst (λ k. IsTrue (fails_at rule line k)) e h)

not_waiting : {A : Type 0} (rule line at : ℕ) (j : Judgement A) → IsTrue (fails_at rule line j) → j ≡ Waits at → ⊥
not_waiting rule line at j h e = no_truth (subst (λ k. IsTrue (fails_at rule line k)) e h)

-- a component that breaks a rule, or that waits, has no typed unit
broken_untyped : (c : Component) (rule line : ℕ) (u : TypedUnit) → BreaksAt c rule line → IsTyped c u → ⊥
broken_untyped c rule line u x t = let h = has_form c u t in not_passing rule line (component_judged c) h.form x h.passes

waiting_untyped : (c : Component) (line : ℕ) (u : TypedUnit) → WaitsAt c line → IsTyped c u → ⊥
waiting_untyped c line u x t =
    let h = has_form c u t in
    let no : Waits line ≡ Passes h.form = sym x ∙ h.passes in
    absurd cc

waits_once : {A : Type 0} (j : Judgement A) (line at : ℕ) → j ≡ Waits line → j ≡ Waits at → line ≡ at
waits_once j line at x y = let e : Waits line ≡ Waits at = sym x ∙ y in cc

-- a component is ruled out in one way
one_rule : (c : Component) (why other : SourceRefusal) → RulesOut c why → RulesOut c other → AreAlike why other
one_rule c (source.Broken b) (source.Broken d) x y = one_line b.rule b.line d.rule d.line (component_judged c) x y
one_rule c (source.Broken b) (source.NotBuilt line) x y = absurd (not_waiting b.rule b.line line (component_judged c) x y)
one_rule c (source.Broken b) (source.TooLarge name n) x y = let large : IsTooLarge c name n = y in absurd (broken_untyped c b.rule b.line large.unit x large.typed)
one_rule c (source.NotBuilt line) (source.Broken d) x y = absurd (not_waiting d.rule d.line line (component_judged c) y x)
one_rule c (source.NotBuilt line) (source.NotBuilt at) x y = ap (λ l. source.NotBuilt l) (waits_once (component_judged c) line at x y)
one_rule c (source.NotBuilt line) (source.TooLarge name n) x y = let large : IsTooLarge c name n = y in absurd (waiting_untyped c line large.unit x large.typed)
one_rule c (source.TooLarge name n) (source.Broken d) x y = let large : IsTooLarge c name n = x in absurd (broken_untyped c d.rule d.line large.unit y large.typed)
one_rule c (source.TooLarge name n) (source.NotBuilt line) x y = let large : IsTooLarge c name n = x in absurd (waiting_untyped c line large.unit y large.typed)
one_rule c (source.TooLarge name n) (source.TooLarge other m) x y = one_large c name other n m x y
one_rule c (source.Token refusal) other x y = absurd x
one_rule c (source.Parse refusal) other x y = absurd x
one_rule c why (source.Token refusal) x y = absurd y
one_rule c why (source.Parse refusal) x y = absurd y

-- a text is ruled out in one way
pub one_ruled : (text : List ℕ) (why other : SourceRefusal) → IsRuledOut text why → IsRuledOut text other → AreAlike why other
one_ruled text why other a b = both_built text (λ c. RulesOut c why) (λ c. RulesOut c other) (λ c x y. one_rule c why other x y) a b

-- ---- no program

-- a component that is ruled out has no unit that is small enough
no_unit : (c : Component) (why : SourceRefusal) (u : TypedUnit) → RulesOut c why → IsTyped c u → unit_nodes u ≤ 65536 → ⊥
no_unit c (source.Broken b) u x t small = broken_untyped c b.rule b.line u x t
no_unit c (source.NotBuilt line) u x t small = waiting_untyped c line u x t
no_unit c (source.TooLarge name n) u x t small =
    let of : IsTooLarge c name n = x in
    let same = one_unit c of.unit u of.typed t in
    let large : 65536 < unit_nodes of.unit = of.large in
    let nodes : unit_nodes of.unit ≡ unit_nodes u = same.nodes in
    omega arith
no_unit c (source.Token refusal) u x t small = absurd x
no_unit c (source.Parse refusal) u x t small = absurd x

pub ruled_unsound : (text : List ℕ) (why : SourceRefusal) → IsRuledOut text why → IsSound text → ⊥
ruled_unsound text why a s = both_built text (λ c. RulesOut c why) _ (λ c x y. no_unit c why s.0 x y.typed y.small) a s.1
