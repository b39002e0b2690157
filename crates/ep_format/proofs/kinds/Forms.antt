-- What tokens derive, other tokens of the same kinds derive too: the forms of a description. Their trees differ in lines alone, so a relation says what is told of them where a shape decides.
use Rattle.std.proofs.Common.{◌≡◌, ℕ, Bool, true, false, List, [], ◌∷◌, ◌++◌, Option, Some, None, refl, sym, ap, ◌∙◌, subst, inl, inr}
use Rattle.ep_token.specs.declared.token.Token.{Token}
use Rattle.ep_grammar.specs.Classes.{Class, Sort, carried, has, class_of, class_of_kind, line_of, meaning}
use Rattle.ep_grammar.specs.Descriptions.{Nonterminal, Node, Step, More, Last, AlwaysOne, Syntax, give, token, line, inside, apply, either, switch, row, deeper, shaped, optional, first_of_pair, single, item_or_end, many, some, separated, closed, ◌<*◌}
use Rattle.ep_grammar.specs.Derived.{Family, Steps, no_step, last_step, one_step, derives}

-- tokens of the same kinds, one by one
abbrev pub Alike : List Token → List Token → Type 0
Alike [] [] = Unit {0}
Alike (t ∷ ts) (u ∷ us) = (t.kind ≡ u.kind) × Alike ts us
Alike [] (u ∷ us) = ⊥
Alike (t ∷ ts) [] = ⊥

pub class_alike : (a b : List Token) → Alike a b → class_of a ≡ class_of b
class_alike [] [] h = refl
class_alike (t ∷ ts) (u ∷ us) h = ap class_of_kind h.0
class_alike [] (u ∷ us) h = absurd h
class_alike (t ∷ ts) [] h = absurd h

abbrev pub Families : Type 1
Families = (n : Nonterminal) → Family (Node n)

-- what tokens of the same kinds derive, of which a relation holds, and what they leave
pub record Found {X : Type 0} (D : Family X) (R : X → Type 0) (a b : List Token) : Type 0 where
  pub rest : List Token
  pub alike : Alike b rest
  pub means : X
  pub derived : D a rest means
  pub related : R means

-- everything
abbrev pub Any : {X : Type 0} → X → X → Type 0
Any x y = Unit {0}

-- so of what stands one level deeper
abbrev pub Settled : Families → Type 0
Settled e =
    (n : Nonterminal) (a c b : List Token) (x : Node n) → Alike a c → e n a b x → Found (e n) (Any x) c b

-- What tokens derive by a description, tokens of the same kinds derive too, and a relation holds of the two meanings.
pub record Decided {X : Type 0} (s : Syntax X) (R : X → X → Type 0) : Type 1 where
  pub holds : (e : Families) → Settled e → (a c b : List Token) (x : X) → Alike a c → derives e s a b x → Found (derives e s) (R x) c b

-- ---- relations

-- functions that give what is so related, of what is so related
abbrev pub To : {A X : Type 0} → (A → A → Type 0) → (X → X → Type 0) → (A → X) → (A → X) → Type 0
To P R f g = (y z : _) → P y z → R (f y) (g z)

-- lists of one length, item by item
abbrev pub Each : {A : Type 0} → (A → A → Type 0) → List A → List A → Type 0
Each P [] [] = Unit {0}
Each P (x ∷ xs) (y ∷ ys) = P x y × Each P xs ys
Each P [] (y ∷ ys) = ⊥
Each P (x ∷ xs) [] = ⊥

-- both there or both absent
abbrev pub Perhaps : {A : Type 0} → (A → A → Type 0) → Option A → Option A → Type 0
Perhaps P None None = Unit {0}
Perhaps P (Some x) (Some y) = P x y
Perhaps P None (Some y) = ⊥
Perhaps P (Some x) None = ⊥

abbrev pub InStep : {A B : Type 0} → (A → A → Type 0) → (B → B → Type 0) → Step A B → Step A B → Type 0
InStep P Q (More x) (More y) = P x y
InStep P Q (Last x) (Last y) = Q x y
InStep P Q (More x) (Last y) = ⊥
InStep P Q (Last x) (More y) = ⊥

abbrev pub InPair : {A B : Type 0} → (A → A → Type 0) → (B → B → Type 0) → A × B → A × B → Type 0
InPair P Q p q = P p.0 q.0 × Q p.1 q.1

-- what has a shape has it wherever it is related
abbrev pub Shaping : {A C : Type 0} → (A → A → Type 0) → (A → Option C) → (C → C → Type 0) → Type 0
Shaping P f Q = (y z : _) (c : _) → P y z → f y ≡ Some c → (d : _) × (f z ≡ Some d) × Q c d

-- ---- the forms

pub given : {X : Type 0} {y : X} {R : X → X → Type 0} → R y y → Decided (give y) R
given {X} {y} {R} h = record {
  holds = λ e k a c b x same d. record {
    rest = c;
    alike = subst (λ i. Alike i c) d.0 same;
    means = y;
    derived = (refl, refl);
    related = subst (λ z. R z y) (sym d.1) h;
  };
}

token_found : (s : Sort) (e : Families) (c b : List Token) (t : Token) (x : carried s) → Alike (t ∷ b) c → meaning s t.kind ≡ Some x → Found (derives e (token s)) (λ y. x ≡ y) c b
token_found s e [] b t x same m = absurd same
token_found s e (u ∷ us) b t x same m = record {
  rest = us;
  alike = same.1;
  means = x;
  derived = (u, refl, subst (λ k. meaning s k ≡ Some x) same.0 m);
  related = refl;
}

-- a token means the same
a_token : {s : Sort} → Decided (token s) (λ x y. x ≡ y)
a_token {s} = record { holds = λ e k a c b x same d. token_found s e c b d.0 x (subst (λ i. Alike i c) d.1 same) d.2 }

pub a_line : Decided line Any
a_line = record {
  holds = λ e k a c b x same d. record {
    rest = c;
    alike = subst (λ i. Alike i c) d.0 same;
    means = line_of c;
    derived = (refl, refl);
    related = tt;
  };
}

pub within : (n : Nonterminal) → Decided (inside n) Any
within n = record { holds = λ e k a c b x same d. k n a c b x same d }

pub after : {A X : Type 0} {s : Syntax (A → X)} {t : Syntax A} {P : A → A → Type 0} {R : X → X → Type 0} → Decided t P → Decided s (To P R) → Decided (apply s t) R
after {A} {X} {s} {t} {P} {R} q p = record {
  holds = λ e k a c b x same d.
      let v = p.holds e k a c d.0 d.1 same d.3 in
      let w = q.holds e k d.0 v.rest b d.2 v.alike d.4 in
      record {
        rest = w.rest;
        alike = w.alike;
        means = v.means w.means;
        derived = (v.rest, v.means, w.means, v.derived, w.derived, refl);
        related = subst (λ z. R z (v.means w.means)) (sym d.5) (v.related d.2 w.means w.related);
      };
}

-- with another relation, which follows
pub so : {X : Type 0} {s : Syntax X} {P R : X → X → Type 0} → Decided s P → ((x y : X) → P x y → R x y) → Decided s R
so p i = record {
  holds = λ e k a c b x same d.
      let v = p.holds e k a c b x same d in
      record { rest = v.rest; alike = v.alike; means = v.means; derived = v.derived; related = i x v.means v.related };
}

-- the one or the other
either_found : {X : Type 0} (cs : List Class) {s t : Syntax X} {R : X → X → Type 0} → Decided s R → Decided t R → (e : Families) → Settled e → (a c b : List Token) (x : X) → Alike a c → derives e (either cs s t) a b x → Found (derives e (either cs s t)) (R x) c b
either_found cs p q e k a c b x same (inl w) =
    let v = p.holds e k a c b x same w in
    record { rest = v.rest; alike = v.alike; means = v.means; derived = inl v.derived; related = v.related }
either_found cs p q e k a c b x same (inr w) =
    let v = q.holds e k a c b x same w in
    record { rest = v.rest; alike = v.alike; means = v.means; derived = inr v.derived; related = v.related }

pub one_of : {X : Type 0} {cs : List Class} {s t : Syntax X} {R : X → X → Type 0} → Decided s R → Decided t R → Decided (either cs s t) R
one_of {X} {cs} p q = record { holds = either_found cs p q }

-- the one or the other, by the next token
switch_found : {X : Type 0} (cs : List Class) {s t : Syntax X} {R : X → X → Type 0} → Decided s R → Decided t R → (e : Families) → Settled e → (a c b : List Token) (x : X) → Alike a c → derives e (switch cs s t) a b x → Found (derives e (switch cs s t)) (R x) c b
switch_found cs p q e k a c b x same (inl w) =
    let v = p.holds e k a c b x same w.1 in
    record { rest = v.rest; alike = v.alike; means = v.means; derived = inl (ap (has cs) (sym (class_alike a c same)) ∙ w.0, v.derived); related = v.related }
switch_found cs p q e k a c b x same (inr w) =
    let v = q.holds e k a c b x same w.1 in
    record { rest = v.rest; alike = v.alike; means = v.means; derived = inr (ap (has cs) (sym (class_alike a c same)) ∙ w.0, v.derived); related = v.related }

pub by_class : {X : Type 0} {cs : List Class} {s t : Syntax X} {R : X → X → Type 0} → Decided s R → Decided t R → Decided (switch cs s t) R
by_class {X} {cs} p q = record { holds = switch_found cs p q }

-- a parser's test of the levels changes nothing
pub behind : {X : Type 0} {cs : List Class} {s : Syntax X} {R : X → X → Type 0} → Decided s R → Decided (deeper cs s) R
behind p = record {
  holds = λ e k a c b x same d.
      let v = p.holds e k a c b x same d in
      record { rest = v.rest; alike = v.alike; means = v.means; derived = v.derived; related = v.related };
}

-- the one or the other, by what comes first: its relation settles both shapes
shaped_found : {A C D X : Type 0} (s : Syntax A) (f : A → Option C) (cs : List Class) (t : Syntax (C → X)) (g : A → Option D) (u : Syntax (D → X)) (o : AlwaysOne f g) {P : A → A → Type 0} {Q : C → C → Type 0} {U : D → D → Type 0} (R : X → X → Type 0) → Decided s P → Shaping P f Q → Decided t (To Q R) → Shaping P g U → Decided u (To U R) → (e : Families) → Settled e → (a c b : List Token) (x : X) → Alike a c → derives e (shaped s f cs t g u o) a b x → Found (derives e (shaped s f cs t g u o)) (R x) c b
shaped_found s f cs t g u o R p i q j r e k a c b x same (m, y, d, inl w) =
    let v = p.holds e k a c m y same d in
    let h = i y v.means w.0 v.related w.2 in
    let z = q.holds e k m v.rest b w.1 v.alike w.3 in
    record {
      rest = z.rest;
      alike = z.alike;
      means = z.means h.0;
      derived = (v.rest, v.means, v.derived, inl (h.0, z.means, h.1, z.derived, refl));
      related = subst (λ n. R n (z.means h.0)) (sym w.4) (z.related w.0 h.0 h.2);
    }
shaped_found s f cs t g u o R p i q j r e k a c b x same (m, y, d, inr w) =
    let v = p.holds e k a c m y same d in
    let h = j y v.means w.0 v.related w.2 in
    let z = r.holds e k m v.rest b w.1 v.alike w.3 in
    record {
      rest = z.rest;
      alike = z.alike;
      means = z.means h.0;
      derived = (v.rest, v.means, v.derived, inr (h.0, z.means, h.1, z.derived, refl));
      related = subst (λ n. R n (z.means h.0)) (sym w.4) (z.related w.0 h.0 h.2);
    }

pub by_shape : {A C D X : Type 0} {s : Syntax A} {f : A → Option C} {cs : List Class} {t : Syntax (C → X)} {g : A → Option D} {u : Syntax (D → X)} {o : AlwaysOne f g} {P : A → A → Type 0} {Q : C → C → Type 0} {U : D → D → Type 0} {R : X → X → Type 0} → Decided s P → Shaping P f Q → Decided t (To Q R) → Shaping P g U → Decided u (To U R) → Decided (shaped s f cs t g u o) R
by_shape {s = s} {f} {cs} {t} {g} {u} {o} {R = R} p i q j r = record { holds = shaped_found s f cs t g u o R p i q j r }

-- ---- rows

-- what the steps of a row derive
record StepsFound {A B : Type 0} (D : Family (Step A B)) (r : B) (P : List A → Type 0) (Q : B → Type 0) (a b : List Token) : Type 0 where
  rest : List Token
  alike : Alike b rest
  found : List A
  end : B
  derived : Steps D r a rest found end
  related : P found
  ended : Q end

last_found : {A B : Type 0} (D : Family (Step A B)) (r : B) (P : A → A → Type 0) (Q : B → B → Type 0) (q : B) (c b rest : List Token) (y : Step A B) → Alike b rest → D c rest y → InStep P Q (Last q) y → StepsFound D r (Each P []) (Q q) c b
last_found D r P Q q c b rest (More x) same d h = absurd h
last_found D r P Q q c b rest (Last z) same d h = record { rest = rest; alike = same; found = []; end = z; derived = last_step d; related = tt; ended = h }

one_found : {A B : Type 0} (D : Family (Step A B)) (r : B) (P : A → A → Type 0) (Q : B → B → Type 0) (x : A) (xs : List A) (q : B) (c m b : List Token) (y : Step A B) → D c m y → InStep P Q (More x) y → StepsFound D r (Each P xs) (Q q) m b → StepsFound D r (Each P (x ∷ xs)) (Q q) c b
one_found D r P Q x xs q c m b (More z) d h v = record { rest = v.rest; alike = v.alike; found = z ∷ v.found; end = v.end; derived = one_step d v.derived; related = (h, v.related); ended = v.ended }
one_found D r P Q x xs q c m b (Last z) d h v = absurd h

steps_found : {A B : Type 0} (D : Family (Step A B)) (r : B) (P : A → A → Type 0) (Q : B → B → Type 0) → Q r r → ((a c b : List Token) (x : Step A B) → Alike a c → D a b x → Found D (InStep P Q x) c b) → {a b : List Token} {xs : List A} {q : B} → Steps D r a b xs q → (c : List Token) → Alike a c → StepsFound D r (Each P xs) (Q q) c b
steps_found D r P Q z h no_step c same = record { rest = c; alike = same; found = []; end = r; derived = no_step; related = tt; ended = z }
steps_found D r P Q z h (last_step {a} {b} {q} d) c same =
    let v = h a c b (Last q) same d in
    last_found D r P Q q c b v.rest v.means v.alike v.derived v.related
steps_found D r P Q z h (one_step {a} {m} {b} {x} {xs} {q} d ds) c same =
    let v = h a c m (More x) same d in
    one_found D r P Q x xs q c v.rest b v.means v.derived v.related (steps_found D r P Q z h ds v.rest v.alike)

each_append : {A : Type 0} (P : A → A → Type 0) (xs us ys vs : List A) → Each P xs us → Each P ys vs → Each P (xs ++ ys) (us ++ vs)
each_append P [] [] ys vs h i = i
each_append P (x ∷ xs) (u ∷ us) ys vs h i = (h.0, each_append P xs us ys vs h.1 i)
each_append P [] (u ∷ us) ys vs h i = absurd h
each_append P (x ∷ xs) [] ys vs h i = absurd h

-- items, and what ends them
pub items : {A B : Type 0} {s : Syntax (List A)} {cs : List Class} {t : Syntax (Step A B)} {r : B} {P : A → A → Type 0} {Q : B → B → Type 0} → Decided s (Each P) → Decided t (InStep P Q) → Q r r → Decided (row s cs t r) (InPair (Each P) Q)
items {A} {B} {s} {cs} {t} {r} {P} {Q} p q z = record {
  holds = λ e k a c b x same d.
      let v = p.holds e k a c d.0 d.1 same d.4 in
      let w = steps_found (derives e t) r P Q z (λ a c b x same d. q.holds e k a c b x same d) d.5 v.rest v.alike in
      record {
        rest = w.rest;
        alike = w.alike;
        means = (v.means ++ w.found, w.end);
        derived = (v.rest, v.means, w.found, w.end, v.derived, w.derived, refl);
        related = subst (λ y. InPair (Each P) Q y (v.means ++ w.found, w.end)) (sym d.6) (each_append P d.1 v.means d.2 w.found v.related w.related, w.ended);
      };
}

-- items, without what ends them
pub first_items : {A B : Type 0} {s : Syntax (List A)} {cs : List Class} {t : Syntax (Step A B)} {r : B} {P : A → A → Type 0} → Decided s (Each P) → Decided t (InStep P Any) → Decided (apply (give first_of_pair) (row s cs t r)) (Each P)
first_items {P = P} p q = after (items {P = P} {Q = Any} p q tt) (given (λ y z h. h.0))

-- ---- the shorthands

-- the second means nothing
pub past : {A X : Type 0} {s : Syntax X} {t : Syntax A} {R : X → X → Type 0} → Decided t Any → Decided s R → Decided (s <* t) R
past q p = after q (after p (given (λ f g h y z i. h)))

-- what may be left out
pub perhaps : {X : Type 0} {cs : List Class} {s : Syntax X} {P : X → X → Type 0} → Decided s P → Decided (optional cs s) (Perhaps P)
perhaps p = one_of (after p (given (λ y z h. h))) (given tt)

-- as many as there are
pub all_many : {A : Type 0} {cs : List Class} {s : Syntax A} {P : A → A → Type 0} → Decided s P → Decided (many cs s) (Each P)
all_many p = first_items (given tt) (after p (given (λ y z h. h)))

-- the first of a row
one_item : {A : Type 0} {s : Syntax A} {P : A → A → Type 0} → Decided s P → Decided (apply (give single) s) (Each P)
one_item p = after p (given (λ y z h. (h, tt)))

-- one or more
pub all_some : {A : Type 0} {cs : List Class} {s : Syntax A} {P : A → A → Type 0} → Decided s P → Decided (some cs s) (Each P)
all_some p = first_items (one_item p) (after p (given (λ y z h. h)))

-- whether it is a token alone
abbrev pub is_token : {X : Type 0} → Syntax X → Bool
is_token (give x) = false
is_token (token s) = true
is_token line = false
is_token (inside n) = false
is_token (apply s t) = false
is_token (either cs s t) = false
is_token (switch cs s t) = false
is_token (row s cs t r) = false
is_token (deeper cs s) = false
is_token (shaped s f cs t g u o) = false

token_decided : {X : Type 0} (s : Syntax X) → is_token s ≡ true → Decided s Any
token_decided (give x) h = absurd cc
token_decided (token s) h = so a_token (λ x y i. tt)
token_decided line h = absurd cc
token_decided (inside n) h = absurd cc
token_decided (apply s t) h = absurd cc
token_decided (either cs s t) h = absurd cc
token_decided (switch cs s t) h = absurd cc
token_decided (row s cs t r) h = absurd cc
token_decided (deeper cs s) h = absurd cc
token_decided (shaped s f cs t g u o) h = absurd cc

-- a token, whatever it means
pub mark : {X : Type 0} {s : Syntax X} → is_token s ≡ true → Decided s Any
mark {s = s} h = token_decided s h

-- one or more, with a symbol between them
pub all_separated : {A : Type 0} {n : ℕ} {s : Syntax A} {P : A → A → Type 0} → Decided s P → Decided (separated n s) (Each P)
all_separated p = first_items (one_item p) (after p (after (mark refl) (given (λ u v i y z h. h))))

-- a step that is an item after a semicolon, or a semicolon at the end
pub one_or_end : {A : Type 0} {cs : List Class} {s : Syntax A} {P : A → A → Type 0} → Decided s P → Decided (item_or_end cs s) (InStep P Any)
one_or_end {P = P} p = after {P = InStep P Any} (one_of (after p (given (λ y z h. h))) (given tt)) (after (mark refl) (given (λ u v i y z h. h)))

-- one or more, with semicolons between them and perhaps at the end
pub all_closed : {A : Type 0} {cs : List Class} {s : Syntax A} {P : A → A → Type 0} → Decided s P → Decided (closed cs s) (Each P)
all_closed p = first_items (one_item p) (one_or_end p)
