-- Which texts are programs and which are refused: no text is both, and a text is one program at most.
use Rattle.std.proofs.Common.{◌≡◌, ℕ, ◌+◌, ◌≤◌, List, [], ◌∷◌, ◌++◌, length, inl, inr, Option, Some, None, Result, Ok, Err, get_or, refl, sym, ap, ◌∙◌, subst, arith, map}
use Rattle.std.specs.Prelude.{IsOkUnless, MatchResult}
use Rattle.std.specs.Option.{option_or}
use Rattle.ep_token.specs.Tokens.{AreInOrder}
use Rattle.ep_token.specs.declared.token.Token.{Token}
use Rattle.ep_built.specs.Built.{component_line, component_unbuilt}
use Rattle.ep_tree.specs.declared.component.Component.{Component}
use Rattle.ep_grammar.specs.Rules.{Grammar}
use Rattle.ep_grammar.specs.Units.{components}
use Rattle.ep_grammar.specs.declared.stop.TheConstants.{MAX_NESTING}
use Rattle.ep_typed.specs.Viewed.{stmt_of}
use Rattle.ep_typed.specs.declared.unit.Unit.{Unit as TypedUnit}
use Rattle.ep_check_unit.specs.Blocks.{routine_form}
use Rattle.ep_drive.specs.ProgramTexts.{HasBuilt, HasComponents, IsProgram, IsProgramText, IsSound, IsBuilt, components_unbuilt}
use Rattle.ep_drive.specs.Refusals.{IsRefusedText, IsRuledOut, StopsText}
use Rattle.ep_drive.specs.declared.source.SourceRefusal.{SourceRefusal}
use Rattle.ep_drive.specs.declared.source.SourceRefusal.TheVariants as source
use Rattle.ep_drive.specs.declared.source.SourceStop.{SourceStop}
use Rattle.ep_drive.specs.declared.source.SourceStop.TheVariants as stop
use Rattle.ep_drive.proofs.Causes.{no_tree, one_unbuilt}
use Rattle.ep_drive.proofs.Ruled.{SameParts, both_built, one_unit, ruled_unsound}

-- ---- the components of a text

-- tokens in order are no more than the bytes
pub in_order-length : (from : ℕ) (ts : List Token) (to : ℕ) → AreInOrder from ts to → from + length ts ≤ to
in_order-length from [] to o = omega (arith, o)
in_order-length from (t ∷ ts) to o = omega (arith, o.0, o.1, in_order-length t.end ts to o.2)

-- a text has a component
pub not_empty : (k : ℕ) (ts : List Token) → Grammar k ts [] → ⊥
unfolding components
not_empty k ts d =
    let row = d.4 in
    let first = row.4 in
    let all : [] ≡ first.2 ∷ row.2 = d.5 ∙ (λ i. (d.3.1 i) (row.6 i)) ∙ ap (λ (cs : List Component). cs ++ row.2) (first.5 ∙ (λ i. (first.3.1 i) first.2)) in
    absurd cc

first_none : (first second : Option ℕ) → option_or first second ≡ None → first ≡ None
first_none None second e = refl
first_none (Some line) second e = cc

rest_unbuilt : (first second : Option ℕ) → option_or first second ≡ None → second ≡ None
rest_unbuilt None second e = e
rest_unbuilt (Some line) second e = cc

-- one component, which is built
pub record IsOnly (cs : List Component) : Type 0 where
  pub component : Component
  pub is : cs ≡ component ∷ []
  pub built : component_unbuilt component ≡ None

pub one_component : (cs : List Component) → (cs ≡ [] → ⊥) → components_unbuilt cs ≡ None → IsOnly cs
one_component [] some e = absurd (some refl)
one_component (c ∷ []) some e = record { component = c; is = refl; built = first_none (component_unbuilt c) None e }
one_component (c ∷ b ∷ more) some e =
    let no : Some (component_line b) ≡ None = rest_unbuilt (component_unbuilt c) (Some (component_line b)) e in
    absurd cc

-- ---- why a text is refused

-- all nodes of a text that is one built component are built
pub has_built : (text : List ℕ) (P : Component → Type 0) → HasBuilt text P → IsBuilt text
has_built text P p = record { tokens = p.tokens; are_tokens = p.are_tokens; components = p.component ∷ []; derived = p.derived; unbuilt = ap (λ o. option_or o None) p.built }

-- and so are those of a program
pub sound_built : (text : List ℕ) → IsSound text → IsBuilt text
sound_built text s = has_built text (λ c. IsProgram c s.0) s.1

-- the text of a program is refused in no way
apart : (text : List ℕ) (why : SourceRefusal) (u : TypedUnit) → IsRefusedText text why → IsProgramText text u → ⊥
apart text (source.NotBuilt line) u (inl c) p = let no : Some line ≡ None = one_unbuilt text (Some line) None c (sound_built text (u, p)) in absurd cc
apart text (source.NotBuilt line) u (inr c) p = ruled_unsound text (source.NotBuilt line) c (u, p)
apart text (source.Broken b) u c p = ruled_unsound text (source.Broken b) c (u, p)
apart text (source.TooLarge name nodes) u c p = ruled_unsound text (source.TooLarge name nodes) c (u, p)
apart text (source.Token refusal) u c p = no_tree text (source.Token refusal) c (None, sound_built text (u, p))
apart text (source.Parse refusal) u c p = no_tree text (source.Parse refusal) c (None, sound_built text (u, p))

-- a text that is ruled out is refused
pub ruled_refused : (text : List ℕ) (why : SourceRefusal) → IsRuledOut text why → IsRefusedText text why
ruled_refused text (source.NotBuilt line) h = inr h
ruled_refused text (source.Broken b) h = h
ruled_refused text (source.TooLarge name nodes) h = h
ruled_refused text (source.Token refusal) h = absurd h.holds
ruled_refused text (source.Parse refusal) h = absurd h.holds

-- so it is read, unless memory is wanting
pub accepted : (text : List ℕ) (r : Result TypedUnit SourceStop) (P : TypedUnit → Type 0) → MatchResult r P (StopsText text) → (u : TypedUnit) → IsProgramText text u → IsOkUnless r stop.NoMemory
accepted text (Ok x) P h u p = tt
accepted text (Err (stop.Refused why)) P h u p = absurd (apart text why u h p)
accepted text (Err stop.NoMemory) P h u p = refl

-- ---- a text is one program

-- what the meaning of a unit looks at
pub record AreAlike (u v : TypedUnit) : Type 0 where
  pub names : u.name ≡ v.name
  pub types : u.types ≡ v.types
  pub variables : u.variables ≡ v.variables
  pub starts : stmt_of u.start ≡ stmt_of v.start
  pub stops : stmt_of u.stop ≡ stmt_of v.stop
  pub routines : map routine_form u.routines ≡ map routine_form v.routines

pub one_program : (text : List ℕ) (u v : TypedUnit) → IsProgramText text u → IsProgramText text v → AreAlike u v
one_program text u v p q =
    both_built text (λ c. IsProgram c u) (λ c. IsProgram c v) (λ c a b. of (one_unit c u v a.typed b.typed)) p q
  where
    of : SameParts u v → AreAlike u v
    of s = record { names = s.names; types = s.types; variables = s.variables; starts = s.starts; stops = s.stops; routines = s.routines }

-- the first of a list of one
only_item : (all : List Component) (c d : Component) → all ≡ c ∷ [] → d ≡ get_or all 0 d → d ≡ c
only_item all c d is e = e ∙ ap (λ cs. get_or cs 0 d) is

-- the component of a text that has components, all of whose nodes are built, is the first of these
pub only_built : (text : List ℕ) (all : List Component) (d : Component) → (all ≡ [] → ⊥) → components_unbuilt all ≡ None → d ≡ get_or all 0 d → HasComponents text all → (P : Component → Type 0) → P d → HasBuilt text P
only_built text all d some none item has P holds =
    let only = one_component all some none in
    let same : d ≡ only.component = only_item all only.component d only.is item in
    let is : all ≡ d ∷ [] = only.is ∙ ap (λ c. c ∷ []) (sym same) in
    record {
      tokens = has.tokens;
      are_tokens = has.are_tokens;
      component = d;
      derived = subst (λ cs. Grammar MAX_NESTING has.tokens cs) is has.derived;
      built = subst (λ c. component_unbuilt c ≡ None) (sym same) only.built;
      holds = holds;
    }
