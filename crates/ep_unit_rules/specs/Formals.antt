-- Lists of formal parameters (ISO 10206, 6.7.3).
use Rattle.std.specs.List.{list_any}
use Rattle.std.specs.Prelude.{ℕ, ◌+◌, Bool, true, false, List, [], ◌∷◌, ◌++◌}
use Rattle.std.specs.Prelude.{if◌then◌else◌}
use Rattle.std.specs.Str.{bytes_eq}
use Rattle.ep_typed.specs.declared.interface.Formal.{Formal}
use Rattle.ep_typed.specs.declared.interface.FormalMode.{FormalMode}
use Rattle.ep_typed.specs.declared.interface.FormalMode.TheVariants as mode
use Rattle.ep_scope.specs.Parameters.{same_parameters}
use Rattle.ep_scope.specs.declared.kind.Kind.{Kind}
use Rattle.ep_scope.specs.declared.parameter.FormalParameter.{FormalParameter}
use Rattle.ep_scope.specs.declared.parameter.WrittenType.{WrittenType}
use Rattle.ep_scope.specs.declared.rule.TheConstants as rule
use Rattle.ep_rules.specs.Judgements.{Judged, Accepts, Breaks, when_accepted}
use Rattle.ep_unit_rules.specs.Types.{type_denoter}

-- how the parameters of a section are given: by the words `protected` and `var`
abbrev pub section_mode : Bool → Bool → FormalMode
section_mode false false = mode.Value
section_mode false true = mode.Variable
section_mode true false = mode.ProtectedValue
section_mode true true = mode.ProtectedVariable

-- whether a parameter has the name
abbrev pub is_parameter : List ℕ → List FormalParameter → Bool
is_parameter name ps = list_any (λ p. bytes_eq p.name name) ps

-- no name stands twice in a list of parameters
abbrev pub parameter_added : FormalParameter → List FormalParameter → Judged (List FormalParameter)
parameter_added p before = if is_parameter p.name before then Breaks (rule.TWICE ∷ []) else Accepts (before ++ p ∷ [])

-- the parameters of these names, of a section with this number
abbrev pub parameters_added : FormalMode → ℕ → WrittenType → Kind → List (List ℕ) → List FormalParameter
    → Judged (List FormalParameter)
parameters_added m section of k [] before = Accepts before
parameters_added m section of k (name ∷ names) before =
    when_accepted (parameters_added m section of k names)
    (parameter_added (record { name = name; mode = m; section = section; of = of; kind = k }) before)

-- a formal parameter of a typed routine
abbrev pub formal_of : FormalParameter → Formal
formal_of p = record { name = p.name; mode = p.mode; section = p.section; denoter = type_denoter p.of.name }

-- A heading that is given again has no parameters, or those of the first one.
abbrev pub is_repeated : List FormalParameter → List FormalParameter → Bool
is_repeated [] first = true
is_repeated (p ∷ ps) first = same_parameters (p ∷ ps) first
