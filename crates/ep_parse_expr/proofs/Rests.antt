-- What follows the name of a factor, and the labels of a bracket.
use Rattle.std.proofs.Common.{◌≡◌, ◌≢◌, ℕ, true, false, if◌then◌else◌, List, [], ◌∷◌, ◌++◌, Option, None, Some, Result, Ok, Err, refl, sym, ap, ◌∙◌}
use Rattle.std.specs.Result.{IsErrAnd}
use Rattle.ep_token.specs.declared.symbol.TheConstants as symbols
use Rattle.ep_token.specs.declared.token.Token.{Token}
use Rattle.ep_tree.specs.declared.expression.ComponentValue.{ComponentValue}
use Rattle.ep_tree.specs.declared.expression.ComponentValue.TheVariants as value_is
use Rattle.ep_tree.specs.declared.expression.Element.TheVariants as element_is
use Rattle.ep_tree.specs.declared.expression.Factor.TheVariants as factor_is
use Rattle.ep_tree.specs.declared.expression.Element.{Element}
use Rattle.ep_tree.specs.declared.expression.Expression.{Expression}
use Rattle.ep_tree.specs.declared.expression.Label.{Label}
use Rattle.ep_tree.specs.declared.expression.Selector.{Selector}
use Rattle.ep_tree.specs.declared.expression.Values.{Values}
use Rattle.ep_tree.specs.Nodes.{access_node, qualified_node, values_node}
use Rattle.ep_tree.specs.Shapes.{all_single}
use Rattle.ep_grammar.specs.declared.stop.Stop.{Stop}
use Rattle.ep_grammar.specs.declared.stop.Stop.TheVariants as stop
use Rattle.ep_grammar.specs.Classes.{Symbol, class_of, exactly, line_of, same}
use Rattle.ep_grammar.specs.Descriptions.{component_values}
use Rattle.ep_grammar.specs.Expressions.{Called, Rest, bracket_labels, component_value, element, field_of, index_tail, inner_labels, inner_values_end, inner_values_rest, label_of, labels, labels_start, more_elements_of, otherwise_of, second_of, value_labels, values_rest_of, structured, structured_tail, values_from, values_tail}
use Rattle.ep_grammar.specs.Reading.{Inside, ReadOutcome, Parser, and_then, applied, read, read_inside, read_token}
use Rattle.ep_grammar.specs.Rules.{inside_at, inside_with}
use Rattle.ep_reader.proofs.public.Outcomes.{applied_err, applied_ok}
use Rattle.ep_parse_expr.specs.Called.{ReadsRest, RestIs, factor_with, last_field, name_in}
use Rattle.ep_parse_expr.specs.Tails.{labelled_tail}

pub last_of : (front : List Selector) (s : Selector) → last_field (front ++ s ∷ []) ≡ name_in s
last_of [] s = refl
last_of (a ∷ []) s = refl
last_of (a ∷ b ∷ front) s = last_of (b ∷ front) s

field_last : (second : Option (ℕ × List ℕ)) → second_of second ≡ last_field (field_of second)
field_last None = refl
field_last (Some p) = refl

-- a factor of its name and what follows it
pub rest_factor : (second : Option (ℕ × List ℕ)) (o : ReadOutcome Called) (selectors : List Selector) (values : Option Values) (at : ℕ) (name : List ℕ) (new : List Token) → RestIs (field_of second) o selectors values new → applied (λ r. r at name second) o ≡ Ok (factor_with at name selectors values, new)
rest_factor second o selectors None at name new h =
    ap (applied (λ (r : Called). r at name second)) h.1 ∙ ap (λ w. Ok (factor_is.Access (access_node at name w), new)) (sym h.2)
rest_factor second o selectors (Some values) at name new h =
    ap (applied (λ (r : Called). r at name second)) h.0 ∙ ap (λ w. Ok (factor_is.Structured at (qualified_node at name w) values, new)) (field_last second ∙ ap last_field (sym h.1))

-- the labels inside a bracket are labels where one level less is left
pub labels_inside : (k : ℕ) (i : List Token) → read (inside_with k) inner_labels i ≡ read (inside_at k) labels i
unfolding inner_labels labels label_of
labels_inside k i = refl

-- ---- what follows the labels of the first element

after_value : {V R X Y : Type 0} (f : V → R → X) (h : X → Y) (o : ReadOutcome V) (q : Parser R) → and_then (and_then o (λ v k. Ok ((λ r. h (f v r)), k))) (λ (g : R → Y) j. and_then (q j) (λ r k. Ok (g r, k))) ≡ applied h (and_then (and_then o (λ v k. Ok (f v, k))) (λ (g : R → X) j. and_then (q j) (λ r k. Ok (g r, k))))
after_value {V} {R} {X} {Y} f h (Ok p) q = go (q p.1)
  where
    go : (o : ReadOutcome R) → and_then o (λ r k. Ok (h (f p.0 r), k)) ≡ applied h (and_then o (λ r k. Ok (f p.0 r, k)))
    go (Ok w) = refl
    go (Err e) = refl
after_value f h (Err e) q = refl

after_colon : {U V R X Y : Type 0} (f : V → R → X) (h : X → Y) (o : ReadOutcome U) (p : Parser V) (q : Parser R) → and_then (and_then (and_then o (λ u k. Ok ((λ v r. h (f v r)), k))) (λ (g : V → R → Y) j. and_then (p j) (λ v k. Ok (g v, k)))) (λ (g : R → Y) j. and_then (q j) (λ r k. Ok (g r, k))) ≡ applied h (and_then (and_then (and_then o (λ u k. Ok (f, k))) (λ (g : V → R → X) j. and_then (p j) (λ v k. Ok (g v, k)))) (λ (g : R → X) j. and_then (q j) (λ r k. Ok (g r, k))))
after_colon f h (Ok w) p q = after_value f h (p w.1) q
after_colon f h (Err e) p q = refl

pub structured_tail_is : (e : Option Inside) (i : List Token) → read e structured_tail i ≡ applied (λ w start. structured (w start.0 start.1)) (read e labelled_tail i)
unfolding structured_tail labelled_tail
structured_tail_is e i = after_colon (λ v rest at ls. values_from rest at (element_is.Labelled at ls v)) (λ w (start : ℕ × List Label). structured (w start.0 start.1)) (read_token (exactly (Symbol symbols.COLON)) i) (read_inside e component_values) (read e inner_values_end)

pub values_tail_is : (e : Option Inside) (i : List Token) → read e values_tail i ≡ applied (λ w at ls at_bracket. value_is.Bracketed at_bracket (w at ls)) (read e labelled_tail i)
unfolding values_tail labelled_tail
values_tail_is e i = after_colon {Y = ℕ → List Label → ℕ → ComponentValue} (λ v rest at ls. values_from rest at (element_is.Labelled at ls v)) (λ (w : ℕ → List Label → Values) at ls at_bracket. value_is.Bracketed at_bracket (w at ls)) (read_token (exactly (Symbol symbols.COLON)) i) (read_inside e component_values) (read e inner_values_end)

-- the rest of the values inside a bracket is that where one level less is left
rest_inside : (k : ℕ) (i : List Token) → read (inside_with k) inner_values_rest i ≡ read (inside_at k) (values_rest_of element component_value) i
unfolding inner_values_rest values_rest_of more_elements_of otherwise_of
rest_inside k i = refl

grown : {x : Element} {none first : List Element} → none ≡ [] → first ≡ none ++ x ∷ [] → x ∷ [] ≡ first
grown {x} f g = sym (g ∙ ap (λ w. w ++ x ∷ []) f)

module _ (k start : ℕ) (ls : List Label) (i : List Token) {j l : List Token} {u : Unit {0}} {v : ComponentValue} {none first : List Element} (a : read_token (exactly (Symbol symbols.COLON)) i ≡ Ok (u, j)) (h : read (inside_at k) component_value j ≡ Ok (v, l)) (f : none ≡ []) (g : first ≡ none ++ element_is.Labelled start ls v ∷ []) where
  pub labelled_ok : {m n : List Token} {values : Values} {w : Unit {0}} → applied (λ (p : Rest). values_node start (first ++ p.0) p.1) (read (inside_at k) (values_rest_of element component_value) l) ≡ Ok (values, m) → read_token (exactly (Symbol symbols.RIGHT_BRACKET)) m ≡ Ok (w, n) → applied (λ w. w start ls) (read (inside_with k) labelled_tail i) ≡ Ok (values, n)
  unfolding labelled_tail inner_values_end
  labelled_ok {m} {n} {values} r b =
      let e = applied_ok (λ (p : Rest). values_node start (first ++ p.0) p.1) (read (inside_at k) (values_rest_of element component_value) l) values m r in
      rw (a, h, rest_inside k l ∙ e.1, b) (ap (λ w. Ok (w, n)) (ap (λ w. values_node start (w ++ e.0.0) e.0.1) (grown f g) ∙ sym e.2))

  pub labelled_unended : {m n : List Token} {values : Values} {c : Stop} → applied (λ (p : Rest). values_node start (first ++ p.0) p.1) (read (inside_at k) (values_rest_of element component_value) l) ≡ Ok (values, m) → read_token (exactly (Symbol symbols.RIGHT_BRACKET)) m ≡ Err (c, n) → applied (λ w. w start ls) (read (inside_with k) labelled_tail i) ≡ Err (c, n)
  unfolding labelled_tail inner_values_end
  labelled_unended {m} {n} {values} r b =
      let e = applied_ok (λ (p : Rest). values_node start (first ++ p.0) p.1) (read (inside_at k) (values_rest_of element component_value) l) values m r in
      rw (a, h, rest_inside k l ∙ e.1, b) refl

  pub labelled_refused : {m : List Token} {c : Stop} → applied (λ (p : Rest). values_node start (first ++ p.0) p.1) (read (inside_at k) (values_rest_of element component_value) l) ≡ Err (c, m) → applied (λ w. w start ls) (read (inside_with k) labelled_tail i) ≡ Err (c, m)
  unfolding labelled_tail inner_values_end
  labelled_refused {m} {c} r =
      let e = applied_err (λ (p : Rest). values_node start (first ++ p.0) p.1) (read (inside_at k) (values_rest_of element component_value) l) c m r in
      rw (a, h, rest_inside k l ∙ e) refl

-- ---- the labels of a component value's bracket, and no set

module _ (k at_bracket : ℕ) (i : List Token) {start : ℕ} {j new : List Token} {ls : List Label} (s : start ≡ line_of i) (l : read (inside_at k) labels i ≡ Ok (ls, j)) (c : false ≡ same (class_of j) (Symbol symbols.RIGHT_BRACKET)) where
  pub value_ok : {values : Values} → applied (λ w. w start ls) (read (inside_with k) labelled_tail j) ≡ Ok (values, new) → applied (λ r. r at_bracket) (read (inside_with k) value_labels i) ≡ Ok (value_is.Bracketed at_bracket values, new)
  unfolding value_labels
  value_ok {values} h =
      let e = applied_ok (λ (w : ℕ → List Label → Values). w start ls) (read (inside_with k) labelled_tail j) values new h in
      let t = values_tail_is (inside_with k) j ∙ ap (applied {B = ℕ → List Label → ℕ → ComponentValue} (λ (w : ℕ → List Label → Values) at ls at_bracket. value_is.Bracketed at_bracket (w at ls))) e.1 in
      rw (labels_inside k i ∙ l, ← c, t) (ap (λ w. Ok (value_is.Bracketed at_bracket w, new)) (ap (λ n. e.0 n ls) (sym s) ∙ sym e.2))

  pub value_refused : {q : Stop} → applied (λ w. w start ls) (read (inside_with k) labelled_tail j) ≡ Err (q, new) → applied (λ r. r at_bracket) (read (inside_with k) value_labels i) ≡ Err (q, new)
  unfolding value_labels
  value_refused {q} h =
      let e = applied_err (λ (w : ℕ → List Label → Values). w start ls) (read (inside_with k) labelled_tail j) q new h in
      let t = values_tail_is (inside_with k) j ∙ ap (applied {B = ℕ → List Label → ℕ → ComponentValue} (λ (w : ℕ → List Label → Values) at ls at_bracket. value_is.Bracketed at_bracket (w at ls))) e in
      rw (labels_inside k i ∙ l, ← c, t) refl

-- ---- the labels of a bracket after a name

pub bracket_refused : (k at_bracket : ℕ) (i : List Token) {j : List Token} {q : Stop} → read (inside_at k) labels i ≡ Err (q, j) → applied (λ r. r at_bracket) (read (inside_with k) bracket_labels i) ≡ Err (q, j)
unfolding bracket_labels labels_start
bracket_refused k at_bracket i h = rw (labels_inside k i ∙ h) refl

twice : {C Z : Type 0} (o : ReadOutcome (C → ℕ → Z)) (c : C) (at : ℕ) → applied (λ (h : ℕ → Z). h at) (and_then o (λ h k. Ok (h c, k))) ≡ applied (λ r. r c at) o
twice (Ok p) c at = refl
twice (Err p) c at = refl

module _ (k at_bracket : ℕ) (i : List Token) {start : ℕ} {j new : List Token} {ls : List Label} (s : start ≡ line_of i) (l : read (inside_at k) labels i ≡ Ok (ls, j)) where
  pub bracket_values : true ≡ same (class_of j) (Symbol symbols.COLON) → {values : Values} → applied (λ w. w start ls) (read (inside_with k) labelled_tail j) ≡ Ok (values, new) → applied (λ r. r at_bracket) (read (inside_with k) bracket_labels i) ≡ Ok (structured values 0, new)
  unfolding bracket_labels labels_start
  bracket_values c {values} h =
      let e = applied_ok (λ (w : ℕ → List Label → Values). w start ls) (read (inside_with k) labelled_tail j) values new h in
      let t = structured_tail_is (inside_with k) j ∙ ap (applied {B = ℕ × List Label → ℕ → Called} (λ (w : ℕ → List Label → Values) (start : ℕ × List Label). structured (w start.0 start.1))) e.1 in
      rw (labels_inside k i ∙ l, ← c, t) (ap (λ w. Ok (structured w 0, new)) (ap (λ n. e.0 n ls) (sym s) ∙ sym e.2))

  pub bracket_values_refused : true ≡ same (class_of j) (Symbol symbols.COLON) → {q : Stop} → applied (λ w. w start ls) (read (inside_with k) labelled_tail j) ≡ Err (q, new) → applied (λ r. r at_bracket) (read (inside_with k) bracket_labels i) ≡ Err (q, new)
  unfolding bracket_labels labels_start
  bracket_values_refused c {q} h =
      let e = applied_err (λ (w : ℕ → List Label → Values). w start ls) (read (inside_with k) labelled_tail j) q new h in
      let t = structured_tail_is (inside_with k) j ∙ ap (applied {B = ℕ × List Label → ℕ → Called} (λ (w : ℕ → List Label → Values) (start : ℕ × List Label). structured (w start.0 start.1))) e in
      rw (labels_inside k i ∙ l, ← c, t) refl

pub bracket_neither : (k at_bracket : ℕ) (i : List Token) {j : List Token} {ls : List Label} → read (inside_at k) labels i ≡ Ok (ls, j) → false ≡ same (class_of j) (Symbol symbols.COLON) → all_single ls ≡ None → applied (λ r. r at_bracket) (read (inside_with k) bracket_labels i) ≡ Err (stop.Syntax, j)
unfolding bracket_labels labels_start
bracket_neither k at_bracket i l c n = rw (labels_inside k i ∙ l, ← c, n) refl

pub bracket_indexes : (k at_bracket : ℕ) (i : List Token) {j : List Token} {ls : List Label} {es : List Expression} → read (inside_at k) labels i ≡ Ok (ls, j) → false ≡ same (class_of j) (Symbol symbols.COLON) → all_single ls ≡ Some es → applied (λ r. r at_bracket) (read (inside_with k) bracket_labels i) ≡ applied (λ r. r es at_bracket) (read (inside_with k) index_tail j)
unfolding bracket_labels labels_start
bracket_indexes k at_bracket i {j} {ls} {es} l c n = rw (labels_inside k i ∙ l, ← c, n) (twice (read (inside_with k) index_tail j) es at_bracket)

-- a refusal is handed on
pub handed_rest : (before : List Selector) (o : ReadOutcome Called) (r : Result (List Selector × Option Values) Stop) (new : List Token) (q : Stop) → IsErrAnd r (λ e. e ≡ q) → (q ≢ stop.NoMemory → o ≡ Err (q, new)) → ReadsRest before o r new
handed_rest before o (Ok rest) new q h f = absurd h
handed_rest before o (Err e) new q h f = λ n. f (λ m. n (h ∙ m)) ∙ ap (λ w. (let x : ReadOutcome Called = Err (w, new) in x)) (sym h)
