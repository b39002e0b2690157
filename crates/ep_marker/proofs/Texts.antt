-- A text of the grammar is not refused.
use Rattle.std.proofs.Common.{◌≡◌, ◌≢◌, ℕ, List, None, Some, refl, subst}
use Rattle.ep_token.specs.declared.token.Token.{Token}
use Rattle.ep_tree.specs.declared.component.Component.{Component}
use Rattle.ep_grammar.specs.declared.stop.Stop.{Stop}
use Rattle.ep_grammar.specs.declared.stop.Stop.TheVariants as cause
use Rattle.ep_grammar.specs.Reading.{ReadOutcome, read}
use Rattle.ep_grammar.specs.Rules.{Grammar, inside_at, read_components}
use Rattle.ep_grammar.specs.Units.{components}
use Rattle.ep_grammar.proofs.public.Knot.{grammar_complete}
use Rattle.ep_marks.specs.Productions as styles
use Rattle.ep_marker.specs.declared.marker.Marker.{Marker}
use Rattle.ep_marker.specs.Marking.{IsRefused, Walked}

never-refused : (k : ℕ) (ts : List Token) (list : List Component) {a b : Marker} → a.reader ≡ ts → a.stop ≡ None → Walked k styles.components components 0 a b → (e : Stop) → b.stop ≡ Some e → Grammar k ts list → e ≢ cause.NoMemory → ⊥
never-refused k ts list r s w e h d ne =
    let there : IsRefused (read_components k ts) = subst (λ i. IsRefused (read (inside_at k) components i)) r (w.stops e s h ne) in
    let P : ReadOutcome (List Component) → Type 0 = λ o. IsRefused o in
    subst P (grammar_complete k ts list d) there

only-memory : (e : Stop) → (e ≢ cause.NoMemory → ⊥) → e ≡ cause.NoMemory
only-memory cause.NoMemory h = refl
only-memory cause.Syntax h = absurd (h (λ q. absurd (cc)))
only-memory cause.Nested h = absurd (h (λ q. absurd (cc)))

-- the walk over a text of the grammar ends for want of memory alone
pub memory-ends : (k : ℕ) (ts : List Token) (list : List Component) {a b : Marker} → a.reader ≡ ts → a.stop ≡ None → Walked k styles.components components 0 a b → (e : Stop) → b.stop ≡ Some e → Grammar k ts list → e ≡ cause.NoMemory
memory-ends k ts list r s w e h d = only-memory e (never-refused k ts list r s w e h d)
