-- The labels of variants that the rules accept are values of the tag's type, and no value is in two of them.
use Rattle.std.proofs.Common.{◌≡◌, ℤ, suc, Bool, true, false, not, ◌&&◌, ◌||◌, List, [], ◌∷◌, ◌++◌, length, Option, Some, None, IsTrue, refl, sym, ap, ◌∙◌, subst, append_assoc, append-nil, arith}
use Rattle.std.proofs.lemmas.Bool.{and_parts}
use Rattle.std.proofs.lemmas.Bool.Decides.{nat_tests}
use Rattle.std.proofs.lemmas.List.{length-append}
use Rattle.std.proofs.lemmas.List.Elements.{All-cons, All-head, All-nil, All-push, All-tail}
use Rattle.std.specs.Prelude.{All, int_le, if◌then◌else◌}
use Rattle.std.specs.List.{list_all}
use Rattle.ep_tree.specs.declared.expression.Expression.{Expression}
use Rattle.ep_tree.specs.declared.expression.Label.{Label, out-Label}
use Rattle.ep_typed.specs.Hosts.{Host, is_of_host}
use Rattle.ep_typed.specs.CaseRanges.{is_apart}
use Rattle.ep_meaning.specs.Valid.{AreApart, Declarations, HasRange, IsRange, labels_joined}
use Rattle.ep_typed.specs.declared.tree.CaseRange.{CaseRange}
use Rattle.ep_typed.specs.declared.value.Value.{Value}
use Rattle.ep_typed.specs.declared.value.Value.TheVariants as value
use Rattle.ep_scope.specs.Kinds.{same_host}
use Rattle.ep_scope.specs.Scopes.{Region}
use Rattle.ep_scope.specs.declared.kind.Kind.{Kind}
use Rattle.ep_scope.specs.declared.kind.Kind.TheVariants as kind
use Rattle.ep_check_expr.specs.Constants.{constant_expression}
use Rattle.ep_rules.specs.Judgements.{Accepts}
use Rattle.ep_expr_laws.proofs.public.Passing.{IfForm}
use Rattle.ep_stmt_rules.proofs.public.judged.Fits.{Any, Fits, fits_any, fits_both, fits_then}
use Rattle.ep_unit_rules.specs.Variants.{Tag}
use Rattle.ep_unit_rules.specs.Labels.{added, behind, end_judged, fitting, has_label, is_apart_from, label_taken, labels_taken, mislabelled, no_labels, range_judged, ranging, valued, variant_ended, variant_labelled}
use Rattle.ep_unit_rules.specs.declared.labels.Labels.{Labels}

-- ---- ranges that are apart

all_front : (p : CaseRange → Bool) (xs ys : List CaseRange) → list_all p xs ≡ true → list_all p ys ≡ true → list_all p (xs ++ ys) ≡ true
all_front p [] ys e f = f
all_front p (x ∷ xs) ys e f = let q = and_parts (p x) (list_all p xs) e in ap (λ b. b && list_all p (xs ++ ys)) q.0 ∙ all_front p xs ys q.1 f

-- a range that is apart from those of each variant and from these
apart_joined : (r : CaseRange) (all : List (List CaseRange)) (own : List CaseRange) → list_all (is_apart_from r) all ≡ true → is_apart_from r own ≡ true → list_all (λ s. is_apart s r) (labels_joined all ++ own) ≡ true
apart_joined r [] own e f = f
apart_joined r (rs ∷ all) own e f =
    let p = and_parts (is_apart_from r rs) (list_all (is_apart_from r) all) e in
    ap (list_all (λ s. is_apart s r)) (append_assoc rs (labels_joined all) own) ∙ all_front (λ s. is_apart s r) rs (labels_joined all ++ own) p.0 (apart_joined r all own p.1 f)

-- one range more, which is apart from each of those before it
apart_push : (rs : List CaseRange) (r : CaseRange) → AreApart rs → list_all (λ s. is_apart s r) rs ≡ true → AreApart (rs ++ r ∷ [])
apart_push [] r h t = (All-nil (λ s. IsTrue (is_apart r s)), tt)
apart_push (x ∷ rs) r h t =
    let p = and_parts (is_apart x r) (list_all (λ s. is_apart s r) rs) t in
    (All-push (λ s. IsTrue (is_apart x s)) rs r h.0 p.0, apart_push rs r h.1 p.1)

-- the ranges of one variant more
joined_push : (all : List (List CaseRange)) (own : List CaseRange) → labels_joined (all ++ own ∷ []) ≡ labels_joined all ++ own
joined_push [] own = append-nil own
joined_push (rs ∷ all) own = ap (λ l. rs ++ l) (joined_push all own) ∙ sym (append_assoc rs (labels_joined all) own)

module _ (t : Tag) where
  -- ---- labels of the tag

  abbrev IsEnd : ℤ → Type 0
  IsEnd z = IsTrue (int_le t.values.low z && int_le z t.values.high)

  -- a range of values of the tag's type
  abbrev pub IsRangeOf : CaseRange → Type 0
  IsRangeOf r = IsTrue (int_le r.low r.high) × IsEnd r.low × IsEnd r.high

  valued_fits : (z : ℤ) (built : Bool) → Fits (IfForm IsEnd) (valued t.values z built)
  valued_fits z false = tt
  valued_fits z true = chosen (int_le t.values.low z && int_le z t.values.high) refl
    where
      chosen : (b : Bool) → (int_le t.values.low z && int_le z t.values.high) ≡ b → Fits (IfForm IsEnd) (if b then Accepts (Some z) else mislabelled)
      chosen true e = e
      chosen false e = tt

  word_fits : (b : Bool) (z : ℤ) (built : Bool) → Fits (IfForm IsEnd) (if b then valued t.values z built else mislabelled)
  word_fits true z built = valued_fits z built
  word_fits false z built = tt

  fitting_fits : (k : Kind) (v : Value) (built : Bool) → Fits (IfForm IsEnd) (fitting t.values k v built)
  fitting_fits (kind.Ordinal g) (value.Word z) built = word_fits (same_host t.values.host g) z built
  fitting_fits (kind.Ordinal g) (value.Text bytes) built = tt
  fitting_fits (kind.Ordinal g) (value.Set members) built = tt
  fitting_fits (kind.Ordinal g) (value.Structured of es) built = tt
  fitting_fits (kind.Structured n) v built = tt
  fitting_fits (kind.Set h) v built = tt
  fitting_fits kind.EmptySet v built = tt
  fitting_fits kind.Text v built = tt
  fitting_fits kind.File v built = tt

  ranging_fits : (low high : Option ℤ) → IfForm IsEnd low → IfForm IsEnd high → Fits (IfForm IsRangeOf) (ranging low high)
  ranging_fits None high p q = tt
  ranging_fits (Some low) None p q = tt
  ranging_fits (Some low) (Some high) p q = chosen (int_le low high) refl
    where
      chosen : (b : Bool) → int_le low high ≡ b → Fits (IfForm IsRangeOf) (if b then Accepts (Some (record { low = low; high = high })) else mislabelled)
      chosen true e = (e, p, q)
      chosen false e = tt

  -- the ranges so far are of the tag, no value is in two of them, and each variant has one, where all labels are built
  pub record AreLabels (found : Labels) : Type 0 where
    pub each : found.built ≡ true → All (λ rs. has_label rs ≡ true) found.before
    pub ranges : All IsRangeOf (labels_joined found.before ++ found.own)
    pub apart : AreApart (labels_joined found.before ++ found.own)

  pub none_yet : AreLabels no_labels
  none_yet = record { each = λ e. All-nil (λ rs. has_label rs ≡ true); ranges = All-nil IsRangeOf; apart = tt }

  -- a label more, and none before the variant
  abbrev Taken : Labels → Labels → Type 0
  Taken old new = AreLabels new × (new.before ≡ old.before)

  added_by : (old : Labels) (r : CaseRange) (b : Bool) → (list_all (is_apart_from r) old.before && is_apart_from r old.own) ≡ b → AreLabels old → IsRangeOf r
      → Fits (Taken old) (if b then Accepts (record old { own = old.own ++ r ∷ [] }) else mislabelled)
  added_by old r false e x y = tt
  added_by old r true e x y =
      let p = and_parts (list_all (is_apart_from r) old.before) (is_apart_from r old.own) e in
      let all = labels_joined old.before in (
        record {
          each = x.each;
          ranges = subst (All IsRangeOf) (append_assoc all old.own (r ∷ [])) (All-push IsRangeOf (all ++ old.own) r x.ranges y);
          apart = subst AreApart (append_assoc all old.own (r ∷ [])) (apart_push (all ++ old.own) r x.apart (apart_joined r old.before old.own p.0 p.1));
        },
        refl,
      )

  added_fits : (old : Labels) (r : Option CaseRange) → AreLabels old → IfForm IsRangeOf r → Fits (Taken old) (added old r)
  added_fits old None x y = (record { each = λ e. cc; ranges = x.ranges; apart = x.apart }, refl)
  added_fits old (Some r) x y = added_by old r (list_all (is_apart_from r) old.before && is_apart_from r old.own) refl x y

  -- ---- a variant more

  -- the labels behind it
  pub record OneMore (old new : Labels) : Type 0 where
    pub labels : AreLabels new
    pub counted : length new.before ≡ suc (length old.before)
    pub ended : new.own ≡ []

  built_labelled : (own : List CaseRange) (built : Bool) → (has_label own || not built) ≡ true → built ≡ true → has_label own ≡ true
  built_labelled (r ∷ rs) built e f = refl
  built_labelled [] true e f = cc
  built_labelled [] false e f = cc

  ended_by : (old found : Labels) → Taken old found → (b : Bool) → (has_label found.own || not found.built) ≡ b → Fits (λ (x : List CaseRange × Labels). OneMore old x.1) (if b then Accepts (found.own, behind found) else mislabelled)
  ended_by old found x false e = tt
  ended_by old found x true e =
      let joined : labels_joined (found.before ++ found.own ∷ []) ++ [] ≡ labels_joined found.before ++ found.own = append-nil (labels_joined (found.before ++ found.own ∷ [])) ∙ joined_push found.before found.own in
      record {
        labels = record {
          each = λ f. All-push (λ rs. has_label rs ≡ true) found.before found.own (x.0.each f) (built_labelled found.own found.built e f);
          ranges = subst (All IsRangeOf) (sym joined) x.0.ranges;
          apart = subst AreApart (sym joined) x.0.apart;
        };
        counted = omega (arith, length-append found.before (found.own ∷ []), ap length x.1);
        ended = refl;
      }

  -- ---- labels as they are written

  module _ (scopes : List Region) where
    end_fits : (e : Expression) → Fits (IfForm IsEnd) (end_judged scopes t.values e)
    end_fits e = fits_then Any (IfForm IsEnd) (λ c. fitting t.values c.kind c.value c.built) (constant_expression scopes e) (fits_any (constant_expression scopes e)) (λ c i. fitting_fits c.kind c.value c.built)

    range_fits : (low : Expression) (high : Option Expression) → Fits (IfForm IsRangeOf) (range_judged scopes t.values low high)
    range_fits low None = fits_then (IfForm IsEnd) (IfForm IsRangeOf) (λ z. ranging z z) (end_judged scopes t.values low) (end_fits low) (λ z p. ranging_fits z z p p)
    range_fits low (Some high) = fits_both (IfForm IsEnd) (IfForm IsEnd) (IfForm IsRangeOf) ranging (end_judged scopes t.values low) (end_judged scopes t.values high) (end_fits low) (end_fits high) (λ x y p q. ranging_fits x y p q)

    label_fits : (l : Label) (old : Labels) → AreLabels old → Fits (Taken old) (label_taken scopes t.values l old)
    label_fits l old x =
        fits_then (IfForm IsRangeOf) (Taken old) (added old) (range_judged scopes t.values (out-Label l).low (out-Label l).high) (range_fits (out-Label l).low (out-Label l).high) (λ r y. added_fits old r x y)

    labels_fit : (ls : List Label) (first old : Labels) → Taken first old → Fits (Taken first) (labels_taken scopes t.values ls old)
    labels_fit [] first old x = x
    labels_fit (l ∷ ls) first old x =
        fits_then (Taken old) (Taken first) (labels_taken scopes t.values ls) (label_taken scopes t.values l old) (label_fits l old x.0) (λ new y. labels_fit ls first new (y.0, y.1 ∙ x.1))

    pub variant_fits : (ls : List Label) (old : Labels) → AreLabels old → Fits (λ (x : List CaseRange × Labels). OneMore old x.1) (variant_labelled scopes t.values ls old)
    variant_fits ls old x =
        fits_then (Taken old) (λ (y : List CaseRange × Labels). OneMore old y.1) variant_ended (labels_taken scopes t.values ls old) (labels_fit ls old old (x, refl)) (λ found y. ended_by old found y (has_label found.own || not found.built) refl)

  -- ---- all labels, where the bounds of the tag's type are of a host

  module _ (declared : Declarations) (h : Host) (low_is : IsTrue (is_of_host h t.values.low)) (high_is : IsTrue (is_of_host h t.values.high)) where
    of_host : (z : ℤ) → IsEnd z → IsTrue (is_of_host h z)
    of_host z e = grind (arith, nat_tests)

    pub ranges_hosted : (rs : List CaseRange) → All IsRangeOf rs → All (IsRange declared h) rs
    ranges_hosted [] x = All-nil (IsRange declared h)
    ranges_hosted (r ∷ rs) x = let y = All-head IsRangeOf r rs x in All-cons (IsRange declared h) r rs (y.0, of_host r.low y.1, of_host r.high y.2) (ranges_hosted rs (All-tail IsRangeOf r rs x))

    pub all_labelled : (all : List (List CaseRange)) → All (λ rs. has_label rs ≡ true) all → All HasRange all
    all_labelled [] x = All-nil HasRange
    all_labelled (rs ∷ all) x = All-cons HasRange rs all (has rs (All-head (λ rs. has_label rs ≡ true) rs all x)) (all_labelled all (All-tail (λ rs. has_label rs ≡ true) rs all x))
      where
        has : (rs : List CaseRange) → has_label rs ≡ true → HasRange rs
        has [] e = cc
        has (r ∷ rs) e = tt
