-- The selector and the labels of a `case` that the rules accept, its arms and its ranges.
use Rattle.std.proofs.Common.{◌≡◌, ℕ, ℤ, Bool, true, false, List, [], ◌∷◌, ◌++◌, map, Option, Some, None, refl, sym, ap, ◌∙◌, subst, append_assoc, append-nil}
use Rattle.std.specs.Prelude.{All, ⊤, IsTrue, int_le, if◌then◌else◌}
use Rattle.std.specs.List.{list_all}
use Rattle.std.proofs.lemmas.List.Elements.{All-nil, All-push}
use Rattle.ep_tree.specs.declared.expression.Expression.{Expression}
use Rattle.ep_tree.specs.declared.expression.Label.{Label, out-Label}
use Rattle.ep_typed.specs.Auxiliaries.{first_for, first_for_arms, first_for_in, first_for_in_arms, first_for_in_other, first_for_other, with_variables, with_variables_in, with_variables_other}
use Rattle.ep_typed.specs.Hosts.{is_of_host}
use Rattle.ep_typed.specs.CaseRanges.{is_apart}
use Rattle.ep_typed.specs.Trees as tree
use Rattle.ep_typed.specs.Trees.{Entire, Expr, Stmt, Arms, Other, next_arm}
use Rattle.ep_meaning.specs.Valid as valid
use Rattle.ep_meaning.specs.Valid.{AreApart, Declarations, HasRange, IsExpr, IsRange, ranges_of}
use Rattle.ep_typed.specs.declared.tree.CaseRange.{CaseRange}
use Rattle.ep_typed.specs.declared.value.Value.{Value}
use Rattle.ep_typed.specs.declared.value.Value.TheVariants as value
use Rattle.ep_scope.specs.Kinds.{same_host}
use Rattle.ep_scope.specs.Scopes.{Region}
use Rattle.ep_scope.specs.declared.kind.Host.{Host}
use Rattle.ep_scope.specs.declared.kind.Kind.{Kind}
use Rattle.ep_scope.specs.declared.kind.Kind.TheVariants as kind
use Rattle.ep_scope.specs.declared.rule.TheConstants as rule
use Rattle.ep_typed.specs.declared.unit.UnitVariable.{UnitVariable}
use Rattle.ep_scope.specs.declared.structure.StructuredType.{StructuredType}
use Rattle.ep_expr_laws.specs.Agreement.{Agrees, IsConstantIf, TypeValues}
use Rattle.ep_check_expr.specs.Constants.{label_judged}
use Rattle.ep_rules.specs.Hosts.{typed_host}
use Rattle.ep_rules.specs.Judgements.{Judged, Accepts, Breaks, when_accepted}
use Rattle.ep_expr_laws.specs.Laws.{LabelsAreSound}
use Rattle.ep_check_expr.specs.declared.constants.ConstantForm.{ConstantForm}
use Rattle.ep_expr_laws.proofs.public.Passing.{IfForm}
use Rattle.ep_expr_laws.proofs.public.SameHost.{host_same}
use Rattle.ep_stmt_rules.specs.Cases.{CaseSelector, added, arms_taken, at_least_one, end_judged, fitting, label_taken, labelled, labels_taken, no_labels, own_ranges, range_judged, ranges_formed, ranging}
use Rattle.ep_stmt_rules.specs.Statements.{ArmJudged, Context, Judgement, after, arm_row, arms_in_order, at_item, behind, case_row}
use Rattle.ep_stmt_rules.specs.declared.cases.Labels.{Labels}
use Rattle.ep_stmt_rules.proofs.public.judged.Fits.{Fits, fits_both, fits_then}
use Rattle.ep_stmt_laws.proofs.valid.Passing.{FitsRow, after_fits, behind_fits, fits_if, form_if, item_fits}
use Rattle.ep_stmt_laws.proofs.valid.Sound.{Agreed, ArmsAreSound, IsSound, OtherIsSound, agrees_in, behind_withs, first_part, second_part}
use Rattle.std.proofs.lemmas.Bool.{and_parts}

-- ---- ranges that are apart

-- one range more, which is apart from each of those before it
apart_push : (rs : List CaseRange) (r : CaseRange) → AreApart rs → list_all (λ s. is_apart s r) rs ≡ true → AreApart (rs ++ r ∷ [])
apart_push [] r h t = (All-nil (λ s. IsTrue (is_apart r s)), tt)
apart_push (x ∷ rs) r h t =
    let p = and_parts (is_apart x r) (list_all (λ s. is_apart s r) rs) t in
    (All-push (λ s. IsTrue (is_apart x s)) rs r h.0 p.0, apart_push rs r h.1 p.1)

-- ---- the same labels after others

-- two rows of labels have grown by the same ranges
record Alike (x x2 y y2 : Labels) : Type 0 where
  more : List CaseRange
  first : x2.ranges ≡ x.ranges ++ more
  second : y2.ranges ≡ y.ranges ++ more

-- one label more, and then others that are alike
module _ (take : Labels → Judged Labels) (again : (x x2 y y2 : Labels) → take x ≡ Accepts x2 → take y ≡ Accepts y2 → Alike x x2 y y2) (x x2 y y2 : Labels) where
  one_alike : (r : CaseRange) (a b : Bool) → when_accepted take (if a then Accepts (record x { ranges = x.ranges ++ r ∷ [] }) else Breaks (rule.CASE_LABELS ∷ [])) ≡ Accepts x2 → when_accepted take (if b then Accepts (record y { ranges = y.ranges ++ r ∷ [] }) else Breaks (rule.CASE_LABELS ∷ [])) ≡ Accepts y2 → Alike x x2 y y2
  one_alike r true true p q =
      let z = again (record x { ranges = x.ranges ++ r ∷ [] }) x2 (record y { ranges = y.ranges ++ r ∷ [] }) y2 p q in
      record { more = r ∷ z.more; first = z.first ∙ append_assoc x.ranges (r ∷ []) z.more; second = z.second ∙ append_assoc y.ranges (r ∷ []) z.more }
  one_alike r false b p q = cc
  one_alike r true false p q = cc

  next_alike : (j : Judged (Option CaseRange)) → when_accepted take (when_accepted (added x) j) ≡ Accepts x2 → when_accepted take (when_accepted (added y) j) ≡ Accepts y2 → Alike x x2 y y2
  next_alike (Breaks rules) p q = cc
  next_alike (Accepts None) p q =
      let z = again (record x { built = false }) x2 (record y { built = false }) y2 p q in
      record { more = z.more; first = z.first; second = z.second }
  next_alike (Accepts (Some r)) p q = one_alike r (list_all (λ s. is_apart s r) x.ranges) (list_all (λ s. is_apart s r) y.ranges) p q

module _ (scopes : List Region) (h : Host) where
  alike : (ls : List Label) (x x2 y y2 : Labels) → labels_taken scopes h ls x ≡ Accepts x2 → labels_taken scopes h ls y ≡ Accepts y2 → Alike x x2 y y2
  alike [] x x2 y y2 p q =
      let a : x ≡ x2 = cc in
      let b : y ≡ y2 = cc in
      record { more = []; first = ap (λ l. l.ranges) (sym a) ∙ sym (append-nil x.ranges); second = ap (λ l. l.ranges) (sym b) ∙ sym (append-nil y.ranges) }
  alike (l ∷ ls) x x2 y y2 p q = next_alike (labels_taken scopes h ls) (alike ls) x x2 y y2 (range_judged scopes h (out-Label l).low (out-Label l).high) p q

  -- what the labels of an arm are after others: their own ranges more
  abbrev HasOwn : List Label → List CaseRange → Type 0
  HasOwn ls rs = (found more : Labels) → labels_taken scopes h ls found ≡ Accepts more → more.ranges ≡ found.ranges ++ rs

  abbrev HaveOwn : List (List Label) → Arms → Type 0
  HaveOwn all arms = (found more : Labels) → arms_taken scopes h all found ≡ Accepts more → more.ranges ≡ found.ranges ++ ranges_of arms

  own_is : (ls : List Label) → Fits (IfForm (HasOwn ls)) (own_ranges scopes h ls)
  own_is ls = go (labels_taken scopes h ls no_labels) refl
    where
      by_ranges : (found : Labels) (rs : List CaseRange) → labels_taken scopes h ls no_labels ≡ Accepts found → found.ranges ≡ rs → Fits (IfForm (HasOwn ls)) (at_least_one rs)
      by_ranges found [] is e = tt
      by_ranges found (r ∷ rs) is e = λ before more taken.
          let z = alike ls no_labels found before more is taken in
          z.second ∙ ap (λ l. before.ranges ++ l) (sym z.first ∙ e)

      by_built : (found : Labels) (b : Bool) → labels_taken scopes h ls no_labels ≡ Accepts found → Fits (IfForm (HasOwn ls)) (if b then at_least_one found.ranges else Accepts None)
      by_built found true is = by_ranges found found.ranges is refl
      by_built found false is = tt

      go : (j : Judged Labels) → labels_taken scopes h ls no_labels ≡ j → Fits (IfForm (HasOwn ls)) (when_accepted ranges_formed j)
      go (Breaks rules) is = tt
      go (Accepts found) is = by_built found found.built is

  one_more : (ls : List Label) (all : List (List Label)) (rs : List CaseRange) (s : Stmt) (arms : Arms) → HasOwn ls rs → HaveOwn all arms → HaveOwn (ls ∷ all) (next_arm rs s arms)
  one_more ls all rs s arms p q found more taken = go (labels_taken scopes h ls found) refl taken
    where
      go : (j : Judged Labels) → labels_taken scopes h ls found ≡ j → when_accepted (arms_taken scopes h all) j ≡ Accepts more → more.ranges ≡ found.ranges ++ (rs ++ ranges_of arms)
      go (Breaks rules) is e = cc
      go (Accepts next) is e = q next more e ∙ (ap (λ l. l ++ ranges_of arms) (p found next is) ∙ append_assoc found.ranges rs (ranges_of arms))

-- the ranges of an arm: at least one, and each of the host
abbrev AreOwn : Declarations → Host → List CaseRange → Type 0
AreOwn declared h rs = HasRange rs × All (IsRange declared (typed_host h)) rs

-- the labels of all arms
abbrev pub AreApartIn : List Region → Host → List (List Label) → Type 0
AreApartIn scopes h all = (found : Labels) × (arms_taken scopes h all no_labels ≡ Accepts found) × AreApart found.ranges

-- the form of a selector of this host, and the labels of all arms
abbrev pub IsSelected : Declarations → List Region → Host → List (List Label) → Option Expr → Type 0
IsSelected declared scopes h all form = IfForm (λ x. IsExpr declared (valid.Ordinal (typed_host h)) x) form × AreApartIn scopes h all

module _ (declared : Declarations) (labels : LabelsAreSound) (scopes : List Region) (agrees : Agrees declared scopes) (h : Host) where
  -- ---- labels

  -- an end of a label is a value of the host
  abbrev IsEnd : ℤ → Type 0
  IsEnd z = IsTrue (is_of_host (typed_host h) z)

  end_by : (g : Host) (z : ℤ) (built same : Bool) → same_host h g ≡ same → IsTrue (is_of_host (typed_host g) z) → Fits (IfForm IsEnd) (if same then Accepts (if built then Some z else None) else Breaks (rule.CASE_LABELS ∷ []))
  end_by g z true true e p = subst (λ k. IsTrue (is_of_host k z)) (host_same h g e) p
  end_by g z false true e p = tt
  end_by g z built false e p = tt

  fitting_fits : (k : Kind) (v : Value) (built : Bool) → IsConstantIf built agrees.0 declared.types k v → Fits (IfForm IsEnd) (fitting h k v built)
  fitting_fits (kind.Ordinal g) (value.Word z) built p = end_by g z built (same_host h g) refl p.1
  fitting_fits (kind.Ordinal g) (value.Text bytes) built p = absurd p
  fitting_fits (kind.Ordinal g) (value.Set members) built p = absurd p
  fitting_fits (kind.Ordinal g) (value.Structured of es) built p = absurd p
  fitting_fits (kind.Structured n) (value.Word z) built p = tt
  fitting_fits (kind.Structured n) (value.Text bytes) built p = tt
  fitting_fits (kind.Structured n) (value.Set members) built p = tt
  fitting_fits (kind.Structured n) (value.Structured of es) built p = tt
  fitting_fits (kind.Set base) (value.Word z) built p = tt
  fitting_fits (kind.Set base) (value.Text bytes) built p = tt
  fitting_fits (kind.Set base) (value.Set members) built p = tt
  fitting_fits (kind.Set base) (value.Structured of es) built p = tt
  fitting_fits kind.EmptySet (value.Word z) built p = tt
  fitting_fits kind.EmptySet (value.Text bytes) built p = tt
  fitting_fits kind.EmptySet (value.Set members) built p = tt
  fitting_fits kind.EmptySet (value.Structured of es) built p = tt
  fitting_fits kind.Text (value.Word z) built p = tt
  fitting_fits kind.Text (value.Text bytes) built p = tt
  fitting_fits kind.Text (value.Set members) built p = tt
  fitting_fits kind.Text (value.Structured of es) built p = tt
  fitting_fits kind.File (value.Word z) built p = tt
  fitting_fits kind.File (value.Text bytes) built p = tt
  fitting_fits kind.File (value.Set members) built p = tt
  fitting_fits kind.File (value.Structured of es) built p = tt

  end_fits : (e : Expression) → Fits (IfForm IsEnd) (end_judged scopes h e)
  end_fits e = go (label_judged scopes e) refl
    where
      go : (j : Judged ConstantForm) → label_judged scopes e ≡ j → Fits (IfForm IsEnd) (when_accepted (λ c. fitting h c.kind c.value c.built) j)
      go (Accepts c) is = fitting_fits c.kind c.value c.built (labels scopes e c is declared agrees.0 agrees.1)
      go (Breaks rules) is = tt

  abbrev IsRangeOf : CaseRange → Type 0
  IsRangeOf r = IsRange declared (typed_host h) r

  ordered : (low high : ℤ) (t : Bool) → int_le low high ≡ t → IsEnd low → IsEnd high → Fits (IfForm IsRangeOf) (if t then Accepts (Some (record { low = low; high = high })) else Breaks (rule.CASE_LABELS ∷ []))
  ordered low high true e p q = (e, p, q)
  ordered low high false e p q = tt

  ranging_fits : (low high : Option ℤ) → IfForm IsEnd low → IfForm IsEnd high → Fits (IfForm IsRangeOf) (ranging low high)
  ranging_fits (Some low) (Some high) p q = ordered low high (int_le low high) refl p q
  ranging_fits None None p q = tt
  ranging_fits None (Some high) p q = tt
  ranging_fits (Some low) None p q = tt

  range_fits : (low : Expression) (high : Option Expression) → Fits (IfForm IsRangeOf) (range_judged scopes h low high)
  range_fits low None = fits_then (IfForm IsEnd) (IfForm IsRangeOf) (λ z. ranging z z) (end_judged scopes h low) (end_fits low) (λ z p. ranging_fits z z p p)
  range_fits low (Some high) = fits_both (IfForm IsEnd) (IfForm IsEnd) (IfForm IsRangeOf) ranging (end_judged scopes h low) (end_judged scopes h high) (end_fits low) (end_fits high) (λ x y p q. ranging_fits x y p q)

  -- the ranges so far are of the host, and no value is in two of them
  abbrev AreLabels : Labels → Type 0
  AreLabels found = All IsRangeOf found.ranges × AreApart found.ranges

  added_by : (found : Labels) (r : CaseRange) (t : Bool) → list_all (λ s. is_apart s r) found.ranges ≡ t → AreLabels found → IsRangeOf r → Fits AreLabels (if t then Accepts (record found { ranges = found.ranges ++ r ∷ [] }) else Breaks (rule.CASE_LABELS ∷ []))
  added_by found r true e p q = (All-push IsRangeOf found.ranges r p.0 q, apart_push found.ranges r p.1 e)
  added_by found r false e p q = tt

  added_fits : (found : Labels) (r : Option CaseRange) → AreLabels found → IfForm IsRangeOf r → Fits AreLabels (added found r)
  added_fits found None p q = p
  added_fits found (Some r) p q = added_by found r (list_all (λ s. is_apart s r) found.ranges) refl p q

  labels_fit : (ls : List Label) (found : Labels) → AreLabels found → Fits AreLabels (labels_taken scopes h ls found)
  labels_fit [] found p = p
  labels_fit (l ∷ ls) found p =
      fits_then AreLabels AreLabels (labels_taken scopes h ls) (label_taken scopes h l found)
      (fits_then (IfForm IsRangeOf) AreLabels (added found) (range_judged scopes h (out-Label l).low (out-Label l).high) (range_fits (out-Label l).low (out-Label l).high) (λ r q. added_fits found r p q)) (λ next q. labels_fit ls next q)

  all_labels_fit : (all : List (List Label)) (found : Labels) → AreLabels found → Fits AreLabels (arms_taken scopes h all found)
  all_labels_fit [] found p = p
  all_labels_fit (ls ∷ all) found p = fits_then AreLabels AreLabels (arms_taken scopes h all) (labels_taken scopes h ls found) (labels_fit ls found p) (λ next q. all_labels_fit all next q)

  none_yet : AreLabels no_labels
  none_yet = (All-nil IsRangeOf, tt)

  -- ---- arms

  at_least : (rs : List CaseRange) → All IsRangeOf rs → Fits (IfForm (AreOwn declared h)) (at_least_one rs)
  at_least [] p = tt
  at_least (r ∷ rs) p = (tt, p)

  formed_by : (found : Labels) (t : Bool) → AreLabels found → Fits (IfForm (AreOwn declared h)) (if t then at_least_one found.ranges else Accepts None)
  formed_by found true p = at_least found.ranges p.0
  formed_by found false p = tt

  pub own_fits : (ls : List Label) → Fits (IfForm (AreOwn declared h)) (own_ranges scopes h ls)
  own_fits ls = fits_then AreLabels (IfForm (AreOwn declared h)) ranges_formed (labels_taken scopes h ls no_labels) (labels_fit ls no_labels none_yet) (λ found p. formed_by found found.built p)

  -- the form, where the labels are built too
  pub labelled_fits : (all : List (List Label)) (form : Option Expr) → IfForm (λ x. IsExpr declared (valid.Ordinal (typed_host h)) x) form → Fits (λ (s : CaseSelector). (s.host ≡ h) × IsSelected declared scopes h all s.form) (labelled scopes all (record { host = h; form = form }))
  labelled_fits all form p = go (arms_taken scopes h all no_labels) refl (all_labels_fit all no_labels none_yet)
    where
      by_built : (found : Labels) (t : Bool) → arms_taken scopes h all no_labels ≡ Accepts found → AreApart found.ranges → IsSelected declared scopes h all (if t then form else None)
      by_built found true is q = (p, (found, is, q))
      by_built found false is q = (tt, (found, is, q))

      go : (j : Judged Labels) → arms_taken scopes h all no_labels ≡ j → Fits AreLabels j → Fits (λ (s : CaseSelector). (s.host ≡ h) × IsSelected declared scopes h all s.form) (when_accepted (λ found. Accepts (record { host = h; form = if found.built then form else None })) j)
      go (Accepts found) is q = (refl, by_built found found.built is q.1)
      go (Breaks rules) is q = tt

-- ---- arms

pair_if : (P Q : List CaseRange → Type 0) (j : Judged (Option (List CaseRange))) → Fits (IfForm P) j → Fits (IfForm Q) j → Fits (IfForm (λ rs. P rs × Q rs)) j
pair_if P Q (Accepts None) p q = tt
pair_if P Q (Accepts (Some rs)) p q = (p, q)
pair_if P Q (Breaks rules) p q = tt

abbrev pub labels_in : List ArmJudged → List (List Label)
labels_in all = map (λ (a : ArmJudged). a.0) all

module _ (declared : Declarations) (types : TypeValues) (structures : List StructuredType) (depth : ℕ) (labels : LabelsAreSound) (h : Host) where
  abbrev Sound : Context → Stmt → Type 0
  Sound c = IsSound declared types structures depth c

  -- the statement of each arm is valid, where it passes
  abbrev pub BodiesFit : List ArmJudged → Type 0
  BodiesFit [] = ⊤
  BodiesFit (a ∷ all) = ((c : Context) (controls : List Entire) → FitsRow (Sound c) (a.1 c controls)) × BodiesFit all

  abbrev AreOwnArms : List Region → List ArmJudged → Context → Arms → Type 0
  AreOwnArms scopes all c arms = ArmsAreSound declared types structures depth c (typed_host h) arms × HaveOwn scopes h (labels_in all) arms

  -- an arm with its own ranges
  abbrev IsOwnArm : List Label → Context → tree.Arm → Type 0
  IsOwnArm ls c x = ((Agreed declared types structures depth c → AreOwn declared h x.0) × HasOwn c.scopes h ls x.0) × Sound c x.1

  abbrev arm_withs : tree.Arm → List UnitVariable
  arm_withs x = with_variables x.1

  one_arm_more : (c : Context) (a : ArmJudged) (all : List ArmJudged) (x : tree.Arm) (arms : Arms) → IsOwnArm a.0 c x → AreOwnArms c.scopes all (behind_withs c (arm_withs x)) arms → AreOwnArms c.scopes (a ∷ all) c (next_arm x.0 x.1 arms)
  one_arm_more c a all x arms q r = (
    λ agreed there.
        (let own = q.0.0 agreed in (
          own.0,
          own.1,
          q.1 agreed (first_part declared types structures depth c (first_for x.1) (first_for_arms arms) (first_for_in x.1) (first_for_in_arms arms) (with_variables x.1) (with_variables_in arms) there),
          r.0 agreed (second_part declared types structures depth c (first_for x.1) (first_for_arms arms) (first_for_in x.1) (first_for_in_arms arms) (with_variables x.1) (with_variables_in arms) there),
        )),
    one_more c.scopes h a.0 (labels_in all) x.0 x.1 arms q.0.1 r.1,
  )

  -- an arm by itself
  arm_fits : (c : Context) (line : ℕ) (controls : List Entire) (a : ArmJudged) → ((d : Context) (inner : List Entire) → FitsRow (Sound d) (a.1 d inner)) → FitsRow (IsOwnArm a.0 c) (arm_row line h a c controls)
  arm_fits c line controls a p =
      let ranges : Judged (Option (List CaseRange)) = own_ranges c.scopes h a.0 in
      after_fits (λ rs. (Agreed declared types structures depth c → AreOwn declared h rs) × HasOwn c.scopes h a.0 rs) (Sound c) (IsOwnArm a.0 c) (λ rs s. (rs, s)) (at_item line ranges) (a.1 c controls)
      (item_fits (λ rs. (Agreed declared types structures depth c → AreOwn declared h rs) × HasOwn c.scopes h a.0 rs) line ranges
      (pair_if (λ rs. Agreed declared types structures depth c → AreOwn declared h rs) (HasOwn c.scopes h a.0) ranges
      (form_if (Agreed declared types structures depth c) (AreOwn declared h) ranges (λ agreed. own_fits declared labels c.scopes (agrees_in declared types structures depth c.scopes agreed.0) h a.0)) (own_is c.scopes h a.0)))
      (p c controls) (λ rs s q r. (q, r))

  -- the scopes are those of the arms before
  arms_fit : (line : ℕ) (controls : List Entire) (all : List ArmJudged) → BodiesFit all → (c : Context) → FitsRow (AreOwnArms c.scopes all c) (arms_in_order line h all c controls)
  arms_fit line controls [] p c = (λ agreed there. tt, λ found more e. let same : found ≡ more = cc in ap (λ l. l.ranges) (sym same) ∙ sym (append-nil found.ranges))
  arms_fit line controls (a ∷ all) p c =
      behind_fits (IsOwnArm a.0 c) (λ d arms. d.scopes ≡ c.scopes → AreOwnArms c.scopes all d arms) (AreOwnArms c.scopes (a ∷ all) c) _ arm_withs c (arm_row line h a c controls) (λ d. arms_in_order line h all d controls)
      (arm_fits c line controls a p.0)
      (λ d. fits_if (d.scopes ≡ c.scopes) (AreOwnArms c.scopes all d) (arms_in_order line h all d controls) (λ e. subst (λ s. FitsRow (AreOwnArms s all d) (arms_in_order line h all d controls)) e (arms_fit line controls all p.1 d)))
      (λ x arms q r. one_arm_more c a all x arms q (r refl))

  -- ---- the statement

  pub row_fits : (line : ℕ) (c : Context) (controls : List Entire) (form : Option Expr) (selector : Judged (Option Expr)) (all : List ArmJudged) (other : Context → Judgement Other)
      → Fits (IfForm (λ x. Agreed declared types structures depth c → IsExpr declared (valid.Ordinal (typed_host h)) x)) selector → (Agreed declared types structures depth c → AreApartIn c.scopes h (labels_in all)) → BodiesFit all
      → ((d : Context) → FitsRow (OtherIsSound declared types structures depth d) (other d))
      → FitsRow (Sound c) (case_row line selector (arms_in_order line h all c controls) (other (behind with_variables_in c (arms_in_order line h all c controls))))
  row_fits line c controls form selector all other p a q r =
      after_fits (λ x. Agreed declared types structures depth c → IsExpr declared (valid.Ordinal (typed_host h)) x) (λ (x : Arms × Other). AreOwnArms c.scopes all c x.0 × OtherIsSound declared types structures depth (behind_withs c (with_variables_in x.0)) x.1) (Sound c) _ (at_item line selector)
      (after (λ a b. (a, b)) (arms_in_order line h all c controls) (other (behind with_variables_in c (arms_in_order line h all c controls))))
      (item_fits (λ x. Agreed declared types structures depth c → IsExpr declared (valid.Ordinal (typed_host h)) x) line selector p)
      (behind_fits (AreOwnArms c.scopes all c) (λ d o. OtherIsSound declared types structures depth d o) (λ (x : Arms × Other). AreOwnArms c.scopes all c x.0 × OtherIsSound declared types structures depth (behind_withs c (with_variables_in x.0)) x.1) (λ a b. (a, b)) with_variables_in c
      (arms_in_order line h all c controls) other (arms_fit line controls all q c) r (λ a b x y. (x, y)))
      (λ x parts e f. λ agreed there.
      (let apart = a agreed in (
        (typed_host h, e agreed, f.0.0 agreed (first_part declared types structures depth c (first_for_arms parts.0) (first_for_other parts.1) (first_for_in_arms parts.0) (first_for_in_other parts.1) (with_variables_in parts.0) (with_variables_other parts.1) there)),
        f.1 agreed (second_part declared types structures depth c (first_for_arms parts.0) (first_for_other parts.1) (first_for_in_arms parts.0) (first_for_in_other parts.1) (with_variables_in parts.0) (with_variables_other parts.1) there),
        subst AreApart (f.0.1 no_labels apart.0 apart.1) apart.2,
      )))
