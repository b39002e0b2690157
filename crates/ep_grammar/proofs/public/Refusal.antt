-- What the outcome of a parser of texts says of the text.
use Rattle.std.proofs.Common.{◌≡◌, ℕ, zero, suc, ◌+◌, ◌-◌, ◌<◌, ◌≤◌, true, false, List, [], ◌∷◌, ◌++◌, length, take, Ok, Err, refl, sym, ap, ◌∙◌, subst, append_assoc, arith, length-append, inl, inr}
use Rattle.ep_token.specs.declared.token.Token.{Token}
use Rattle.ep_tree.specs.declared.component.Component.{Component}
use Rattle.ep_grammar.specs.declared.stop.Stop.{Stop}
use Rattle.ep_grammar.specs.declared.stop.Stop.TheVariants.{NoMemory, Syntax, Nested}
use Rattle.ep_grammar.specs.Reading.{ReadOutcome}
use Rattle.ep_grammar.specs.Rules.{Grammar, Begins, read_components}
use Rattle.ep_grammar.specs.Refusals.{RefusedAt, SyntaxRefusedAt, NestingRefusedAt, RefusedFor, place_of}
use Rattle.ep_grammar.specs.Units.{components}
use Rattle.ep_grammar.proofs.public.Outcomes.{took, stopped, never, same_took}
use Rattle.ep_grammar.proofs.public.Like.{Calm, rest_of, with_rest}
use Rattle.ep_grammar.proofs.public.Looks.{components_look, components_grow, only_if_out}
use Rattle.ep_grammar.specs.Classes.{End}
use Rattle.ep_grammar.proofs.Before.{components_before, components_kept, components_finish}
use Rattle.ep_grammar.proofs.Classed.{out_both}
use Rattle.ep_grammar.proofs.Static.{only_if, nullable}
use Rattle.ep_grammar.proofs.Completed.{Completed, components_complete}
use Rattle.ep_grammar.proofs.Ended.{components_beyond}
use Rattle.ep_grammar.proofs.Ending.{beyond}
use Rattle.ep_grammar.proofs.public.Knot.{grammar_sound, grammar_complete, one_tree_at}

-- an outcome that leaves a token is none that reads a text to its end
not_whole : (o : ReadOutcome (List Component)) (t : Token) (z : List Token) (cs : List Component) → with_rest o (t ∷ z) ≡ took cs [] → ⊥
not_whole (Ok p) t z cs h = absurd (let q : t ∷ z ≡ [] = (same_took h).1 in cc)
not_whole (Err e) t z cs h = never h

-- a text that is not read past a token has no derivation, whatever follows the token
pub none_begins : (k : ℕ) (pre : List Token) (t : Token) (y : List Token) → rest_of (read_components k (pre ++ t ∷ y)) ≡ t ∷ y → (z : List Token) (cs : List Component) → Grammar k (pre ++ t ∷ z) cs → ⊥
none_begins k pre t y h z cs d = not_whole (read_components k (pre ++ t ∷ y)) t z cs (sym ((components_look true k).same pre t y z h tt) ∙ grammar_complete k (pre ++ t ∷ z) cs d)

take_more : (pre : List Token) (t : Token) (y : List Token) → take (suc (length pre)) (pre ++ t ∷ y) ≡ pre ++ t ∷ []
take_more [] t y = refl
take_more (u ∷ pre) t y = ap (λ w. u ∷ w) (take_more pre t y)

take_front : (pre : List Token) (t : Token) (y : List Token) (n : ℕ) → n ≡ length pre → take (n + 1) (pre ++ t ∷ y) ≡ pre ++ t ∷ []
take_front pre t y n h = ap (λ m. take m (pre ++ t ∷ y)) (let e : n + 1 ≡ suc (length pre) = omega arith in e) ∙ take_more pre t y

-- the tokens up to one that is refused begin no text
pub refused_begins : (k : ℕ) (pre : List Token) (t : Token) (y : List Token) → rest_of (read_components k (pre ++ t ∷ y)) ≡ t ∷ y → Begins k (pre ++ t ∷ []) → ⊥
refused_begins k pre t y h b = none_begins k pre t y h b.0 b.1 (subst (λ w. Grammar k w b.1) (append_assoc pre (t ∷ []) b.0) b.2)

-- ---- what the outcome of a parser says of the text

refused_from : (k : ℕ) (ts pre r : List Token) → ts ≡ pre ++ r → rest_of (read_components k ts) ≡ r → ((cs : List Component) → read_components k ts ≡ took cs [] → ⊥) → (n : ℕ) → n ≡ length ts - length r → RefusedAt k ts n
refused_from k ts pre [] e h none n p = record {
  inside = omega arith;
  not_derived = λ cs d. none cs (grammar_complete k ts cs d);
  no_text = λ less b. absurd (omega arith);
}
refused_from k ts pre (t ∷ y) e h none n p =
    let at : n ≡ length pre = omega (arith, ap length e, length-append pre (t ∷ y)) in
    let here : rest_of (read_components k (pre ++ t ∷ y)) ≡ t ∷ y = subst (λ w. rest_of (read_components k w) ≡ t ∷ y) e h in
    record {
      inside = omega (arith, ap length e, length-append pre (t ∷ y));
      not_derived = λ cs d. none cs (grammar_complete k ts cs d);
      no_text = λ less b. refused_begins k pre t y here (subst (Begins k) (ap (take (n + 1)) e ∙ take_front pre t y n at) b);
    }

refused_at : (k : ℕ) (ts : List Token) (o : ReadOutcome (List Component)) → read_components k ts ≡ o → ((cs : List Component) → o ≡ took cs [] → ⊥) → (n : ℕ) → n ≡ length ts - length (rest_of o) → RefusedAt k ts n
refused_at k ts o h none n p =
    let f = (components_look true k).front ts in
    refused_from k ts f.0 (rest_of o) (f.1 ∙ ap (λ w. f.0 ++ rest_of w) h) (ap rest_of h) (λ cs e. none cs (sym h ∙ e)) n p

-- ---- more levels

pub more_levels : (k m : ℕ) (ts : List Token) (cs : List Component) → k ≤ m → Grammar k ts cs → Grammar m ts cs
more_levels k m ts cs le d =
    let e = grammar_complete k ts cs d in
    grammar_sound m ts cs ((components_grow k m le).more ts (subst (Calm false) (sym e) tt) ∙ e)

pub one_tree : (k m : ℕ) (ts : List Token) (cs ds : List Component) → Grammar k ts cs → Grammar m ts ds → cs ≡ ds
one_tree k m ts cs ds c d = one_tree_at (k + m) ts cs ds (more_levels k (k + m) ts cs (omega arith) c) (more_levels m (k + m) ts ds (omega arith) d)

less_refused : (k m : ℕ) (ts : List Token) (n : ℕ) → k ≤ m → RefusedAt m ts n → RefusedAt k ts n
less_refused k m ts n le f = record {
  inside = f.inside;
  not_derived = λ cs d. f.not_derived cs (more_levels k m ts cs le d);
  no_text = λ less b. f.no_text less (b.0, b.1, more_levels k m (take (n + 1) ts ++ b.0) b.1 le b.2);
}

-- an outcome that is not for want of levels is the outcome at each number of levels
refused_anywhere : (k : ℕ) (ts : List Token) (o : ReadOutcome (List Component)) → read_components k ts ≡ o → Calm false o → ((cs : List Component) → o ≡ took cs [] → ⊥) → (m : ℕ) → RefusedAt m ts (place_of ts (rest_of o))
refused_anywhere k ts o h calm none m =
    less_refused m (m + k) ts (place_of ts (rest_of o)) (omega arith)
    (refused_at (m + k) ts o ((components_grow k (m + k) (omega arith)).more ts (subst (Calm false) (sym h) calm) ∙ h) none (place_of ts (rest_of o)) refl)

-- ---- the tokens that a parser took

take_up : (up later : List Token) → take (length up) (up ++ later) ≡ up
take_up [] later = refl
take_up (t ∷ up) later = ap (λ w. t ∷ w) (take_up up later)

up_to : (ts up later : List Token) (n : ℕ) → ts ≡ up ++ later → n ≡ length up → take n ts ≡ up
up_to ts up later n e h = ap (take n) e ∙ ap (λ m. take m (up ++ later)) h ∙ take_up up later

-- the tokens to a place begin a text where they can be completed
begins_with : (k : ℕ) (ts up later rest : List Token) (n : ℕ) (cs : List Component) → ts ≡ up ++ later → n ≡ length up → read_components k (up ++ rest) ≡ took cs [] → Begins k (take n ts)
begins_with k ts up later rest n cs e h r = (rest, cs, subst (λ w. Grammar k (w ++ rest) cs) (sym (up_to ts up later n e h)) (grammar_sound k (up ++ rest) cs r))

begun_text : (k : ℕ) (ts left : List Token) → ts ≡ left → Begins (suc k) (take (place_of ts left) ts)
begun_text k ts left i =
    let f = components_finish k in
    let whole = f.reads [] (out_both (beyond components) (only_if (nullable components) []) End components_beyond (only_if_out (nullable components) [] End refl)) in
    begins_with (suc k) ts [] ts (f.rest ++ []) (place_of ts left) whole.0 refl (omega (arith, ap length i)) whole.1

begun_before : (k : ℕ) (ts left : List Token) (e : Stop) → read_components k ts ≡ stopped e left → 0 < k → Begins k (take (place_of ts left) ts)
begun_before zero ts left e h some = absurd (omega arith)
begun_before (suc k) ts left e h some = elim (components_before k ts left e h) [
  | inl i ↦ begun_text k ts left i
  | inr c ↦ let whole = c.reach.reads [] components_beyond in
      begins_with (suc k) ts c.up c.later (c.reach.rest ++ []) (place_of ts left) whole.0 c.is (omega (arith, ap length c.is, length-append c.up c.later, ap length c.left)) whole.1
]

begun_left : (k : ℕ) (ts left : List Token) (cs : List Component) → read_components k ts ≡ took cs left → 0 < k → Begins k (take (place_of ts left) ts)
begun_left zero ts left cs h some = absurd (omega arith)
begun_left (suc k) ts left cs h some =
    let c = components_kept k ts left cs h in
    let whole = c.reads [] components_beyond in
    begins_with (suc k) ts c.up left [] (place_of ts left) whole.0 c.is (omega (arith, ap length c.is, length-append c.up left)) whole.2

-- ---- the laws

syntax_refused : (k : ℕ) (ts left : List Token) → read_components k ts ≡ stopped Syntax left → SyntaxRefusedAt k ts (place_of ts left)
syntax_refused k ts left h = record {
  refused = refused_anywhere k ts (stopped Syntax left) h tt (λ cs e. never e);
  begun_before = begun_before k ts left Syntax h;
}

-- a text that a parser with more levels reads on
nesting_refused : (k : ℕ) (ts left : List Token) → read_components k ts ≡ stopped Nested left → Completed (read_components (suc (suc k))) (beyond components) ts left → NestingRefusedAt k ts (place_of ts left)
nesting_refused k ts left h c =
    let whole = c.reach.reads [] components_beyond in
    record {
      refused = refused_at k ts (stopped Nested left) h (λ cs e. never e) (place_of ts left) refl;
      begun_before = begun_before k ts left Nested h;
      at_token = omega (arith, ap length c.is, length-append c.up c.later, c.left, c.some);
      deeper_text = (suc (suc k), begins_with (suc (suc k)) ts c.up c.later (c.reach.rest ++ []) (place_of ts left + 1) whole.0 c.is (omega (arith, ap length c.is, length-append c.up c.later, c.left, c.some)) whole.1);
    }

pub stop_refused : (k : ℕ) (ts : List Token) (cause : Stop) (left : List Token) → read_components k ts ≡ stopped cause left → RefusedFor cause k ts (place_of ts left)
stop_refused k ts NoMemory left h = tt
stop_refused k ts Syntax left h = syntax_refused k ts left h
stop_refused k ts Nested left h = nesting_refused k ts left h (components_complete k ts left h)

pub left_refused : (k : ℕ) (ts : List Token) (cs : List Component) (left : List Token) → read_components k ts ≡ took cs left → 0 < length left → SyntaxRefusedAt k ts (place_of ts left)
left_refused k ts cs left h some = record {
  refused = refused_anywhere k ts (took cs left) h tt (λ ds e. absurd (omega (arith, ap length (same_took e).1)));
  begun_before = begun_left k ts left cs h;
}
