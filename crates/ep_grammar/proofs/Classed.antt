-- Classes of tokens, and lists of them.
use Rattle.std.proofs.Common.{◌≡◌, Bool, true, false, List, [], ◌∷◌, ◌++◌, refl, sym, ap, ◌∙◌}
use Rattle.std.specs.Prelude.{if◌then◌else◌, ◌⊎◌}
use Rattle.std.proofs.Common.{inl, inr}
use Rattle.std.proofs.lemmas.Bool.{eqb-true}
use Rattle.ep_grammar.specs.Classes.{Class, Word, Symbol, Name, Number, Text, Interface, Implementation, Forward, End, same, has}

pub same_true : (c d : Class) → same c d ≡ true → c ≡ d
same_true (Word n) (Word m) h = ap Word (eqb-true n m h)
same_true (Symbol n) (Symbol m) h = ap Symbol (eqb-true n m h)
same_true Name Name h = refl
same_true Number Number h = refl
same_true Text Text h = refl
same_true Interface Interface h = refl
same_true Implementation Implementation h = refl
same_true Forward Forward h = refl
same_true End End h = refl
same_true c d h = absurd (cc)

-- whether no class is in both
abbrev pub disjoint : List Class → List Class → Bool
disjoint [] ds = true
disjoint (c ∷ cs) ds = if has ds c then false else disjoint cs ds

-- whether each class of the first is in the second
abbrev pub within_list : List Class → List Class → Bool
within_list [] ds = true
within_list (c ∷ cs) ds = if has ds c then within_list cs ds else false

pub true_false : {X : Type 0} {b : Bool} → b ≡ true → b ≡ false → X
true_false h k = absurd (cc)

-- a Boolean is one of the two, with the equation
pub by_cases : {X : Type 0} (b : Bool) → (b ≡ true → X) → (b ≡ false → X) → X
by_cases true f g = f refl
by_cases false f g = g refl

pub apart : (cs ds : List Class) (c : Class) → disjoint cs ds ≡ true → has cs c ≡ true → has ds c ≡ false
apart [] ds c h k = absurd (cc)
apart (d ∷ cs) ds c h k = by_cases (has ds d) (λ p. true_false (sym (ap (λ b. if b then false else disjoint cs ds) p) ∙ h) refl) (λ p.
    by_cases (same c d)
    (λ q. ap (has ds) (same_true c d q) ∙ p)
    (λ q. apart cs ds c (sym (ap (λ b. if b then false else disjoint cs ds) p) ∙ h) (sym (ap (λ b. if b then true else has cs c) q) ∙ k)))

pub also : (cs ds : List Class) (c : Class) → within_list cs ds ≡ true → has cs c ≡ true → has ds c ≡ true
also [] ds c h k = absurd (cc)
also (d ∷ cs) ds c h k = by_cases (has ds d)
    (λ p. by_cases (same c d)
    (λ q. ap (has ds) (same_true c d q) ∙ p)
    (λ q. also cs ds c (sym (ap (λ b. if b then within_list cs ds else false) p) ∙ h) (sym (ap (λ b. if b then true else has cs c) q) ∙ k)))
    (λ p. true_false h (ap (λ b. if b then within_list cs ds else false) p))

pub not_also : (cs ds : List Class) (c : Class) → within_list cs ds ≡ true → has ds c ≡ false → has cs c ≡ false
not_also cs ds c h k = by_cases (has cs c) (λ p. true_false (also cs ds c h p) k) (λ p. p)

pub in_front : (cs ds : List Class) (c : Class) → has cs c ≡ true → has (cs ++ ds) c ≡ true
in_front [] ds c k = absurd (cc)
in_front (d ∷ cs) ds c k = by_cases (same c d)
    (λ q. ap (λ b. if b then true else has (cs ++ ds) c) q)
    (λ q. ap (λ b. if b then true else has (cs ++ ds) c) q ∙ in_front cs ds c (sym (ap (λ b. if b then true else has cs c) q) ∙ k))

pub in_end : (cs ds : List Class) (c : Class) → has ds c ≡ true → has (cs ++ ds) c ≡ true
in_end [] ds c k = k
in_end (d ∷ cs) ds c k = by_cases (same c d)
    (λ q. ap (λ b. if b then true else has (cs ++ ds) c) q)
    (λ q. ap (λ b. if b then true else has (cs ++ ds) c) q ∙ in_end cs ds c k)

pub out_front : (cs ds : List Class) (c : Class) → has (cs ++ ds) c ≡ false → has cs c ≡ false
out_front cs ds c k = by_cases (has cs c) (λ p. true_false (in_front cs ds c p) k) (λ p. p)

pub out_end : (cs ds : List Class) (c : Class) → has (cs ++ ds) c ≡ false → has ds c ≡ false
out_end cs ds c k = by_cases (has ds c) (λ p. true_false (in_end cs ds c p) k) (λ p. p)

pub out_both : (cs ds : List Class) (c : Class) → has cs c ≡ false → has ds c ≡ false → has (cs ++ ds) c ≡ false
out_both [] ds c p q = q
out_both (d ∷ cs) ds c p q = by_cases (same c d)
    (λ r. true_false (ap (λ b. if b then true else has cs c) r) p)
    (λ r. ap (λ b. if b then true else has (cs ++ ds) c) r ∙ out_both cs ds c (sym (ap (λ b. if b then true else has cs c) r) ∙ p) q)

pub in_either : (cs ds : List Class) (c : Class) → has (cs ++ ds) c ≡ true → (has cs c ≡ true) ⊎ (has ds c ≡ true)
in_either cs ds c k = by_cases (has cs c) (λ p. inl p) (λ p. by_cases (has ds c) (λ q. inr q) (λ q. true_false k (out_both cs ds c p q)))
