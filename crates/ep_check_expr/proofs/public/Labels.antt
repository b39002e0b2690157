-- What holds of the members of a set constructor, where it holds of none and each label keeps it.
use Rattle.std.proofs.Common.{◌≡◌, ◌∙◌, ◌+◌, ◌<◌, ℕ, true, List, [], ◌∷◌, drop, get_or, length, map, Option, Some, None, ap}
use Rattle.std.specs.Prelude.{⊤}
use Rattle.ep_typed.specs.Trees.{Expr}
use Rattle.ep_scope.specs.declared.kind.Kind.{Kind}
use Rattle.ep_rules.specs.Constructors.{Label, Members, constructed, gathered, no_members, pair, set_judged, with_label, with_pair, with_range, with_single, with_values}
use Rattle.ep_rules.specs.Judgements.{Judged, Accepts, Breaks, Typed, both, breaks}
use Rattle.ep_rules.specs.declared.access.Access.TheVariants as access
use Rattle.ep_rules.proofs.public.Breaking.{both-first, both-second}
use Rattle.ep_check_expr.proofs.public.Keeping.{AreLabels, IsHigh, Satisfies, both-satisfies, then-satisfies, weaker-satisfies}
use Rattle.ep_check_expr.proofs.public.Plain.{deep-plain}
use Rattle.ep_check_expr.proofs.public.Rows.{left-cons}

module _ (Q : Typed → Type 0) (P : Members → Type 0) (single : (ms : Members) (x : Typed) → P ms → Q x → Satisfies P (with_single ms x)) (range : (ms : Members) (x y : Typed) → P ms → Q x → Q y → Satisfies P (with_range ms x y)) where
  values-have : (J : Judged Members) (low : Judged Typed) (high : Option (Judged Typed)) → Satisfies P J → Satisfies Q low → IsHigh Q high → Satisfies P (with_values J low high)
  values-have J low None p q h = both-satisfies P Q P with_single J low p q single
  values-have J low (Some high) p q h =
      both-satisfies P (λ r. Q r.0 × Q r.1) P with_pair J (both pair low high) p
      (both-satisfies Q Q (λ r. Q r.0 × Q r.1) pair low high q h (λ x y a b. (a, b))) (λ m r a b. range m r.0 r.1 a b.0 b.1)

  gathered-have : (J : Judged Members) (ls : List Label) → Satisfies P J → AreLabels Q ls → Satisfies P (gathered J ls)
  gathered-have J [] p q = p
  gathered-have J (l ∷ ls) p q = gathered-have (with_label J l) ls (values-have J l.low l.high p q.0.0 q.0.1) q.1

  -- so it does of the set
  pub set-has : (R : Typed → Type 0) → P no_members → ((ms : Members) → P ms → Satisfies R (constructed ms)) → (ls : List Label) → AreLabels Q ls → Satisfies R (set_judged ls)
  set-has R none made ls q = then-satisfies P R constructed (gathered (Accepts no_members) ls) (gathered-have (Accepts no_members) ls none q) made

high-weaker : (P Q : Typed → Type 0) → ((t : Typed) → P t → Q t) → (high : Option (Judged Typed)) → IsHigh P high → IsHigh Q high
high-weaker P Q f None h = tt
high-weaker P Q f (Some high) h = weaker-satisfies P Q high f h

-- labels that have one property have another
pub labels-weaker : (P Q : Typed → Type 0) → ((t : Typed) → P t → Q t) → (ls : List Label) → AreLabels P ls → AreLabels Q ls
labels-weaker P Q f [] h = tt
labels-weaker P Q f (l ∷ ls) h = ((weaker-satisfies P Q l.low f h.0.0, high-weaker P Q f l.high h.0.1), labels-weaker P Q f ls h.1)

-- ---- a property that every value has that is no bare name

anything : (J : Judged Members) → Satisfies (λ m. ⊤) J
anything (Accepts m) = tt
anything (Breaks rules) = tt

module _ (Q : Typed → Type 0) (every : (form : Option Expr) (k : Kind) (depth : ℕ) → Q (record { form = form; kind = k; depth = depth; access = access.Value })) where
  pub constructed-plain : (ls : List Label) → Satisfies Q (set_judged ls)
  constructed-plain ls = then-satisfies (λ m. ⊤) Q constructed (gathered (Accepts no_members) ls) (anything (gathered (Accepts no_members) ls)) (λ ms p. deep-plain Q every _ _ _)

-- ---- labels that are read one after another

-- a rule that fails before labels, and one that fails in the values of a label
pub gathered-first : (n : ℕ) (J : Judged Members) (ls : List Label) → breaks n J ≡ true → breaks n (gathered J ls) ≡ true
gathered-first n J [] h = h
gathered-first n J (l ∷ ls) h = gathered-first n (with_label J l) ls (with-first l.low l.high)
  where
    with-first : (low : Judged Typed) (high : Option (Judged Typed)) → breaks n (with_values J low high) ≡ true
    with-first low None = both-first n with_single J low h
    with-first low (Some high) = both-first n with_pair J (both pair low high) h

pub low-fails : (n : ℕ) (J : Judged Members) (low : Judged Typed) (high : Option (Judged Typed)) → breaks n low ≡ true → breaks n (with_values J low high) ≡ true
low-fails n J low None h = both-second n with_single J low h
low-fails n J low (Some high) h = both-second n with_pair J (both pair low high) (both-first n pair low high h)

pub high-fails : (n : ℕ) (J : Judged Members) (low high : Judged Typed) → breaks n high ≡ true → breaks n (with_values J low (Some high)) ≡ true
high-fails n J low high h = both-second n with_pair J (both pair low high) (both-second n pair low high h)

module _ {X : Type 0} (view : X → Label) (all : List X) (i : ℕ) (x : X) (within : i < length all) (is : x ≡ get_or all i x) where
  -- the label that comes next
  pub next-label : (J : Judged Members) → gathered J (map view (drop i all)) ≡ gathered (with_label J (view x)) (map view (drop (i + 1) all))
  next-label J = ap (λ xs. gathered J (map view xs)) (left-cons all i x within is)

  -- one that is accepted
  pub label-turned : (before now : Members) → with_label (Accepts before) (view x) ≡ Accepts now → gathered (Accepts before) (map view (drop i all)) ≡ gathered (Accepts now) (map view (drop (i + 1) all))
  label-turned before now e = next-label (Accepts before) ∙ ap (λ J. gathered J (map view (drop (i + 1) all))) e

  -- one that fails
  pub label-fails : (n : ℕ) (J : Judged Members) → breaks n (with_label J (view x)) ≡ true → breaks n (gathered J (map view (drop i all))) ≡ true
  label-fails n J h = rw (next-label J) (gathered-first n (with_label J (view x)) (map view (drop (i + 1) all)) h)
