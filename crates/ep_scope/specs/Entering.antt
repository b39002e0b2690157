-- How a name is entered.
use Rattle.std.specs.Prelude.{◌≡◌, ℕ, List, [], ◌∷◌, ◌++◌, None, IsSome, Result, Ok, Err}
use Rattle.ep_scope.specs.Required.{look_up}
use Rattle.ep_scope.specs.Scopes.{Entries, Region, Row, with_entry, with_constituent, with_inner, look_up_in}
use Rattle.ep_scope.specs.declared.entries.EntryRefusal.{EntryRefusal}
use Rattle.ep_scope.specs.declared.entries.EntryRefusal.TheVariants.{There, NoMemory}
use Rattle.ep_scope.specs.declared.scope.ScopeRefusal.{ScopeRefusal}
use Rattle.ep_scope.specs.declared.scope.ScopeRefusal.TheVariants as refusal
use Rattle.ep_scope.specs.declared.thing.Thing.{Thing}

-- A name that is not there is added at the end. It is refused exactly where it is there; a refusal changes nothing.
abbrev pub AnswersEntry : Entries → List ℕ → Thing → Result (Unit {0}) EntryRefusal → Entries → Type 0
AnswersEntry old name thing (Ok done) new = (look_up old name ≡ None) × (new ≡ old ++ (name, thing) ∷ [])
AnswersEntry old name thing (Err There) new = IsSome (look_up old name) × (new ≡ old)
AnswersEntry old name thing (Err NoMemory) new = (look_up old name ≡ None) × (new ≡ old)

-- A scope alike, which gives the name back where it is there.
abbrev pub AnswersEntered : Region → List ℕ → Thing → Result (Unit {0}) ScopeRefusal → Region → Type 0
AnswersEntered old name thing (Ok done) new = (look_up old.entries name ≡ None) × (new ≡ with_entry old name thing)
AnswersEntered old name thing (Err (refusal.Twice twice)) new =
    IsSome (look_up old.entries name) × (twice ≡ name) × (new ≡ old)
AnswersEntered old name thing (Err refusal.NoMemory) new = (look_up old.entries name ≡ None) × (new ≡ old)
AnswersEntered old name thing (Err (refusal.NoInterface interface)) new = ⊥
AnswersEntered old name thing (Err (refusal.NoConstituent constituent)) new = ⊥

-- the innermost scope of a row alike
abbrev pub AnswersInner : Row → List ℕ → Thing → Result (Unit {0}) ScopeRefusal → Row → Type 0
AnswersInner old name thing (Ok done) new = (look_up old.inner.entries name ≡ None) × (new ≡ with_inner old name thing)
AnswersInner old name thing (Err (refusal.Twice twice)) new =
    IsSome (look_up old.inner.entries name) × (twice ≡ name) × (new ≡ old)
AnswersInner old name thing (Err refusal.NoMemory) new = (look_up old.inner.entries name ≡ None) × (new ≡ old)
AnswersInner old name thing (Err (refusal.NoInterface interface)) new = ⊥
AnswersInner old name thing (Err (refusal.NoConstituent constituent)) new = ⊥

-- alike, of a constituent of an interface
abbrev pub AnswersConstituent : Region → List ℕ → List ℕ → Thing → Result (Unit {0}) ScopeRefusal → Region → Type 0
AnswersConstituent old interface name thing (Ok done) new =
    (look_up_in old interface name ≡ None)
    × (new ≡ record old { qualified = with_constituent old.qualified interface name thing })
AnswersConstituent old interface name thing (Err (refusal.Twice twice)) new =
    IsSome (look_up_in old interface name) × (twice ≡ name) × (new ≡ old)
AnswersConstituent old interface name thing (Err refusal.NoMemory) new =
    (look_up_in old interface name ≡ None) × (new ≡ old)
AnswersConstituent old interface name thing (Err (refusal.NoInterface other)) new = ⊥
AnswersConstituent old interface name thing (Err (refusal.NoConstituent constituent)) new = ⊥

abbrev pub AnswersEntryIn : Region → List ℕ → List ℕ → Thing → Result (Unit {0}) EntryRefusal → Region → Type 0
AnswersEntryIn old interface name thing (Ok done) new =
    (look_up_in old interface name ≡ None)
    × (new ≡ record old { qualified = with_constituent old.qualified interface name thing })
AnswersEntryIn old interface name thing (Err There) new = IsSome (look_up_in old interface name) × (new ≡ old)
AnswersEntryIn old interface name thing (Err NoMemory) new = (look_up_in old interface name ≡ None) × (new ≡ old)
