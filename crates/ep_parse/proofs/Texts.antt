-- What the outcome of a whole text says of the text.
use Rattle.std.proofs.Common.{◌≡◌, ◌≢◌, ℕ, suc, ◌-◌, ◌<◌, ◌≤◌, true, List, [], ◌∷◌, ◌++◌, length, drop, get_or, refl, sym, ap, ◌∙◌, arith, length-append}
use Rattle.std.proofs.Math.Seq.{drop-append_seam}
use Rattle.ep_token.specs.declared.token.Token.{Token}
use Rattle.ep_tree.specs.declared.component.Component.{Component}
use Rattle.ep_grammar.specs.declared.stop.Stop.{Stop}
use Rattle.ep_grammar.specs.declared.stop.Stop.TheVariants as stop
use Rattle.ep_grammar.specs.Rules.{Grammar, read_components}
use Rattle.ep_grammar.proofs.public.Outcomes.{took, stopped, never, same_took}
use Rattle.ep_grammar.proofs.public.Like.{rest_of}
use Rattle.ep_grammar.proofs.public.Looks.{components_look}
use Rattle.ep_grammar.proofs.public.Knot.{grammar_sound, grammar_complete}
use Rattle.ep_grammar.proofs.public.Refusal.{stop_refused, left_refused}
use Rattle.ep_parse.specs.declared.text.ParseRefusal.TheVariants as refusal
use Rattle.ep_parse.specs.Refusals.{Refuses, first_line, last_line, line_at, refusal_at}

-- what is read to the end is derived
pub derived : (k : ℕ) (ts : List Token) (cs : List Component) (r : List Token) → read_components k ts ≡ took cs r → length r ≡ 0 → Grammar k ts cs
derived k ts cs [] h e = grammar_sound k ts cs h
derived k ts cs (t ∷ r) h e = absurd (omega arith)

-- what is read is what is derived, and no token is left
pub only : (k : ℕ) (ts : List Token) (cs list : List Component) (r : List Token) → read_components k ts ≡ took cs r → Grammar k ts list → (cs ≡ list) × (r ≡ [])
only k ts cs list r h d = same_took (sym h ∙ grammar_complete k ts list d)

-- what is derived is not refused but for want of memory
pub only_memory : (k : ℕ) (ts : List Token) (c : Stop) (r : List Token) (list : List Component) (place line : ℕ) → (c ≢ stop.NoMemory → read_components k ts ≡ stopped c r) → Grammar k ts list → refusal_at c place line ≡ refusal.NoMemory
only_memory k ts stop.NoMemory r list place line h d = refl
only_memory k ts stop.Syntax r list place line h d = never (sym (h (λ e. absurd (cc))) ∙ grammar_complete k ts list d)
only_memory k ts stop.Nested r list place line h d = never (sym (h (λ e. absurd (cc))) ∙ grammar_complete k ts list d)

-- ---- the line of a refusal

pub last_is : (line : ℕ) (ts : List Token) (t : Token) → 1 ≤ length ts → last_line line ts ≡ (get_or ts (length ts - 1) t).line
last_is line [] t h = absurd (omega arith)
last_is line (u ∷ []) t h = refl
last_is line (u ∷ w ∷ ts) t h =
    let at : length (u ∷ w ∷ ts) - 1 ≡ suc (length (w ∷ ts) - 1) = omega arith in
    last_is u.line (w ∷ ts) t (omega arith) ∙ ap (λ n. (get_or (u ∷ w ∷ ts) n t).line) (sym at)

pub line_at_end : (line : ℕ) (r : List Token) → length r ≤ 0 → first_line line r ≡ line
line_at_end line [] h = refl
line_at_end line (t ∷ r) h = absurd (omega arith)

end_of : (pre r : List Token) → drop (length (pre ++ r) - length r) (pre ++ r) ≡ r
end_of pre r =
    let n : length (pre ++ r) - length r ≡ length pre = omega (arith, length-append pre r) in
    ap (λ m. drop m (pre ++ r)) n ∙ drop-append_seam pre r

line_of_end : (ts pre r : List Token) → ts ≡ pre ++ r → first_line (last_line 1 ts) r ≡ line_at ts (length ts - length r)
line_of_end ts pre r e =
    let same : drop (length ts - length r) ts ≡ r = ap (λ w. drop (length w - length r) w) e ∙ end_of pre r in
    ap (first_line (last_line 1 ts)) (sym same)

line_left : (k : ℕ) (ts r : List Token) → rest_of (read_components k ts) ≡ r → first_line (last_line 1 ts) r ≡ line_at ts (length ts - length r)
line_left k ts r h =
    let f = (components_look true k).front ts in
    line_of_end ts f.0 r (f.1 ∙ ap (λ w. f.0 ++ w) h)

-- ---- the refusals

-- a text whose reading stops is refused there
pub refused_stop : (k : ℕ) (ts : List Token) (c : Stop) (r : List Token) → (c ≢ stop.NoMemory → read_components k ts ≡ stopped c r) → Refuses k ts (refusal_at c (length ts - length r) (first_line (last_line 1 ts) r))
refused_stop k ts stop.NoMemory r h = tt
refused_stop k ts stop.Syntax r h =
    let e = h (λ e. absurd (cc)) in
    (stop_refused k ts stop.Syntax r e, line_left k ts r (ap rest_of e))
refused_stop k ts stop.Nested r h =
    let e = h (λ e. absurd (cc)) in
    (stop_refused k ts stop.Nested r e, line_left k ts r (ap rest_of e))

-- a text of which tokens are left is refused there
pub refused_left : (k : ℕ) (ts : List Token) (cs : List Component) (r : List Token) → read_components k ts ≡ took cs r → 0 < length r → Refuses k ts (refusal_at stop.Syntax (length ts - length r) (first_line (last_line 1 ts) r))
refused_left k ts cs r h some = (left_refused k ts cs r h some, line_left k ts r (ap rest_of h))
