-- There is one order at most, and none where there is a circle.
use Rattle.std.proofs.Common.{◌≡◌, ℕ, true, false, List, [], ◌∷◌, ◌++◌, inl, inr, refl, sym, subst, ◌∙◌, ap, append_assoc, append-nil}
use Rattle.std.specs.List.{Contains}
use Rattle.std.specs.Ordering.{is_gt, is_lt, is_eq, nat_cmp, ordering_reverse}
use Rattle.std.specs.declared.cmp.Ordering.{Ordering}
use Rattle.std.specs.declared.cmp.Ordering.TheVariants.{Less, Equal, Greater}
use Rattle.std.specs.Cmp.Lexicographic.{slice_cmp, bytes_decides}
use Rattle.std.proofs.lemmas.Cmp.{nat_list_cmp_total, upto, tied_itself}
use Rattle.std.proofs.lemmas.Map.Text.{is_eq-slice_cmp}
use Rattle.std.proofs.lemmas.List.Elements.{All-contains, Contains-push, Contains-push_cases, Contains-append_left}
use Rattle.ep_order.specs.Systems.{NamedUnit, Supplies, IsUpTo}
use Rattle.ep_order.specs.Orders.{IsReady, EachIsNext, IsOrder}
use Rattle.ep_order.specs.Circles.{Follows, IsCircle}
use Rattle.ep_order.proofs.Lists.{contains_none, contains_first, contains_more, contains_cases, contains_at, all_from}

-- ---- the order of names

pub upto_itself : (a : List ℕ) → IsUpTo a a
upto_itself a = ap is_gt (tied_itself nat_list_cmp_total a)

pub upto_same : (a b : List ℕ) → IsUpTo a b → IsUpTo b a → a ≡ b
upto_same a b h k = go (slice_cmp nat_cmp a b) refl h
  where
    go : (o : Ordering) → slice_cmp nat_cmp a b ≡ o → is_gt o ≡ false → a ≡ b
    go Less e h =
        let g : slice_cmp nat_cmp b a ≡ Greater = nat_list_cmp_total.antisymm b a ∙ ap ordering_reverse e in
        let no : true ≡ false = sym (ap is_gt g) ∙ k in
        cc
    go Equal e h = (bytes_decides a b).0 (sym (is_eq-slice_cmp a b) ∙ ap is_eq e)
    go Greater e h = cc

pub upto_trans : (a b c : List ℕ) → IsUpTo a b → IsUpTo b c → IsUpTo a c
upto_trans a b c h k = upto nat_list_cmp_total a b c h k

-- a name that is not below another is not passed by it
pub upto_back : (a b : List ℕ) → is_lt (slice_cmp nat_cmp b a) ≡ false → IsUpTo a b
upto_back a b h = go (slice_cmp nat_cmp b a) refl h
  where
    go : (o : Ordering) → slice_cmp nat_cmp b a ≡ o → is_lt o ≡ false → IsUpTo a b
    go Less e h = cc
    go Equal e h = ap is_gt (nat_list_cmp_total.antisymm a b ∙ ap ordering_reverse e)
    go Greater e h = ap is_gt (nat_list_cmp_total.antisymm a b ∙ ap ordering_reverse e)

pub upto_below : (a b : List ℕ) → is_lt (slice_cmp nat_cmp a b) ≡ true → IsUpTo a b
upto_below a b h = go (slice_cmp nat_cmp a b) h
  where
    go : (o : Ordering) → is_lt o ≡ true → is_gt o ≡ false
    go Less h = refl
    go Equal h = cc
    go Greater h = cc

-- ---- one order at most

one_from : (units : List NamedUnit) (placed order other : List (List ℕ)) → EachIsNext units placed order → EachIsNext units placed other
    → ((unit : NamedUnit) → Contains units unit → Contains (placed ++ order) unit.name) → ((unit : NamedUnit) → Contains units unit → Contains (placed ++ other) unit.name) → order ≡ other
one_from units placed [] [] h k p q = refl
one_from units placed [] (y ∷ ys) h k p q =
    let r = k.0.ready in
    absurd (r.unplaced (subst (λ l. Contains l y) (append-nil placed) (subst (Contains (placed ++ [])) r.stands.2 (p r.stands.0 r.stands.1))))
one_from units placed (x ∷ xs) [] h k p q =
    let r = h.0.ready in
    absurd (r.unplaced (subst (λ l. Contains l x) (append-nil placed) (subst (Contains (placed ++ [])) r.stands.2 (q r.stands.0 r.stands.1))))
one_from units placed (x ∷ xs) (y ∷ ys) h k p q =
    let same : x ≡ y = upto_same x y (h.0.least y k.0.ready) (k.0.least x h.0.ready) in
    let rest : xs ≡ ys = one_from units (placed ++ x ∷ []) xs ys h.1 (subst (λ z. EachIsNext units (placed ++ z ∷ []) ys) (sym same) k.1)
    (λ unit has. subst (λ l. Contains l unit.name) (sym (append_assoc placed (x ∷ []) xs)) (p unit has))
    (λ unit has. subst (λ l. Contains l unit.name) (sym (append_assoc placed (x ∷ []) ys)) (subst (λ z. Contains (placed ++ z ∷ ys) unit.name) (sym same) (q unit has))) in
    ap (λ z. z ∷ xs) same ∙ ap (λ l. y ∷ l) rest

pub one_order : (units : List NamedUnit) (order other : List (List ℕ)) → IsOrder units order → IsOrder units other → order ≡ other
one_order units order other h k =
    one_from units [] order other h.each k.each (λ unit has. All-contains (λ (u : NamedUnit). Contains order u.name) units unit h.whole has) (λ unit has. All-contains (λ (u : NamedUnit). Contains other u.name) units unit k.whole has)

-- ---- a circle has no order

-- a name that is supplied by one that is not placed is not placed
none_from : (units : List NamedUnit) (waits : List ℕ → Type 0) → ((name : List ℕ) → waits name → (supplier : List ℕ) × waits supplier × Supplies units supplier name)
    → (placed order : List (List ℕ)) → ((name : List ℕ) → waits name → ¬ Contains placed name) → EachIsNext units placed order → (name : List ℕ) → waits name → ¬ Contains (placed ++ order) name
none_from units waits supplied placed [] none h name w has = none name w (subst (λ l. Contains l name) (append-nil placed) has)
none_from units waits supplied placed (x ∷ xs) none h name w has =
    none_from units waits supplied (placed ++ x ∷ []) xs
    (λ other v c. elim (Contains-push_cases placed x other c) [
      | inl d ↦ none other v d
      | inr e ↦ let s = supplied other v in none s.0 s.1 (h.0.ready.supplied s.0 (subst (Supplies units s.0) (sym e) s.2))
    ])
    h.1 name w (subst (λ l. Contains l name) (sym (append_assoc placed (x ∷ []) xs)) has)

-- in a list of which each supplies the next, each but the first is supplied by one of the list
supplied_in : (units : List NamedUnit) (names : List (List ℕ)) (first : List ℕ) → Follows (Supplies units) (first ∷ names) → (name : List ℕ) → Contains names name → (supplier : List ℕ) × Contains (first ∷ names) supplier × Supplies units supplier name
supplied_in units [] first h name has = absurd (contains_none name has)
supplied_in units (second ∷ names) first h name has = elim (contains_cases second names name has) [
  | inl e ↦ (first, contains_first first (second ∷ names), subst (Supplies units first) e h.0)
  | inr c ↦ let r = supplied_in units names second h.1 name c in (r.0, contains_more first (second ∷ names) r.0 r.1, r.2)
]

pub circle_unordered : (units : List NamedUnit) (circle order : List (List ℕ)) → IsCircle units circle → ¬ IsOrder units order
circle_unordered units [] order c o = c
circle_unordered units (first ∷ rest) order c o =
    let s = supplied first (contains_first first rest) in
    none_from units (Contains (first ∷ rest)) supplied [] order (λ name _ has. contains_none name has) o.each first (contains_first first rest)
    (subst (Contains order) s.2.2 (All-contains (λ (u : NamedUnit). Contains order u.name) units s.2.0 o.whole s.2.1))
  where
    -- the first one stands again at the end
    back : (name : List ℕ) → Contains (first ∷ rest) name → Contains (rest ++ first ∷ []) name
    back name has = elim (contains_cases first rest name has) [ inl e ↦ subst (Contains (rest ++ first ∷ [])) e (Contains-push rest first) | inr d ↦ Contains-append_left rest (first ∷ []) name d ]

    front : (name : List ℕ) → Contains (first ∷ (rest ++ first ∷ [])) name → Contains (first ∷ rest) name
    front name has = elim (contains_cases first (rest ++ first ∷ []) name has) [
      | inl e ↦ subst (Contains (first ∷ rest)) e (contains_first first rest)
      | inr d ↦ elim (Contains-push_cases rest first name d) [ inl f ↦ contains_more first rest name f | inr e ↦ subst (Contains (first ∷ rest)) e (contains_first first rest) ]
    ]

    supplied : (name : List ℕ) → Contains (first ∷ rest) name → (supplier : List ℕ) × Contains (first ∷ rest) supplier × Supplies units supplier name
    supplied name has = let r = supplied_in units (rest ++ first ∷ []) first c.supplied name (back name has) in (r.0, front r.0 r.1, r.2)

-- ---- the order of the list plays no part

module _ (units others : List NamedUnit) (there : (unit : NamedUnit) → Contains units unit → Contains others unit) (back : (unit : NamedUnit) → Contains others unit → Contains units unit) where
  ready_same : (placed : List (List ℕ)) (name : List ℕ) → IsReady units placed name → IsReady others placed name
  ready_same placed name h = record {
    stands = (h.stands.0, there h.stands.0 h.stands.1, h.stands.2);
    unplaced = h.unplaced;
    supplied = λ supplier s. h.supplied supplier (s.0, back s.0 s.1, s.2, s.3);
    last = λ p other m. h.last (p.0, back p.0 p.1, p.2, p.3) other (m.0, back m.0 m.1, m.2, m.3);
  }

each_same : (units others : List NamedUnit) → ((unit : NamedUnit) → Contains units unit → Contains others unit) → ((unit : NamedUnit) → Contains others unit → Contains units unit)
    → (placed order : List (List ℕ)) → EachIsNext units placed order → EachIsNext others placed order
each_same units others there back placed [] h = tt
each_same units others there back placed (x ∷ xs) h = (
  record { ready = ready_same units others there back placed x h.0.ready; least = λ other r. h.0.least other (ready_same others units back there placed other r) },
  each_same units others there back (placed ++ x ∷ []) xs h.1,
)

-- systems of the same units have the same order
pub same_order : (units others : List NamedUnit) → ((unit : NamedUnit) → Contains units unit → Contains others unit) → ((unit : NamedUnit) → Contains others unit → Contains units unit)
    → (order : List (List ℕ)) → IsOrder units order → IsOrder others order
same_order units others there back order h = record {
  each = each_same units others there back [] order h.each;
  whole = all_from (λ (u : NamedUnit). Contains order u.name) others (λ i unit e. All-contains (λ (u : NamedUnit). Contains order u.name) units unit h.whole (back unit (contains_at others i unit e)));
}
