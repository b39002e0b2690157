-- The labels of variants that are taken stand one after another.
use Rattle.std.proofs.Common.{◌≡◌, ℕ, ℤ, Bool, true, false, ◌&&◌, ◌||◌, List, [], ◌∷◌, ◌++◌, length, take, drop, Option, Some, refl, sym, ap, ◌∙◌, subst, arith}
use Rattle.std.specs.List.{list_all, list_any}
use Rattle.std.specs.Prelude.{IsTrue, if◌then◌else◌, nat_eq}
use Rattle.std.proofs.lemmas.Bool.Decides.{nat_tests}
use Rattle.std.proofs.Math.Bool.{or-false}
use Rattle.std.proofs.Math.Seq.{take-length}
use Rattle.std.proofs.lemmas.List.{append-nil, append_assoc, drop-append-le, length-append, nil_from_length, take-append-drop, take-append-le}
use Rattle.std.proofs.lemmas.List.Folds.{list_all-append, list_any-append}
use Rattle.ep_typed.specs.CaseRanges.{is_apart, is_in}
use Rattle.ep_typed.specs.declared.tree.CaseRange.{CaseRange}
use Rattle.ep_scope.specs.declared.rule.TheConstants as rule
use Rattle.ep_rules.specs.Judgements.{Accepts, breaks}
use Rattle.ep_unit_rules.specs.Labels.{added, is_apart_from, is_labelled, mislabelled}
use Rattle.ep_unit_rules.specs.TakenLabels.{StandsBefore, TakenLabels, joined}

all_joined : (p : CaseRange → Bool) (all : List (List CaseRange)) → list_all p (joined all) ≡ list_all (λ ranges. list_all p ranges) all
all_joined p [] = refl
all_joined p (ranges ∷ more) = list_all-append p ranges (joined more) ∙ ap (λ b. list_all p ranges && b) (all_joined p more)

any_joined : (p : CaseRange → Bool) (all : List (List CaseRange)) → list_any p (joined all) ≡ list_any (λ ranges. list_any p ranges) all
any_joined p [] = refl
any_joined p (ranges ∷ more) = list_any-append p ranges (joined more) ∙ ap (λ b. list_any p ranges || b) (any_joined p more)

one_more : (all : List (List CaseRange)) (own : List CaseRange) → joined (all ++ own ∷ []) ≡ joined all ++ own
one_more [] own = append-nil own
one_more (ranges ∷ more) own = ap (λ rs. ranges ++ rs) (one_more more own) ∙ sym (append_assoc ranges (joined more) own)

pub no_range : (ranges : List CaseRange) → nat_eq (length ranges) 0 ≡ true → ranges ≡ []
no_range ranges e = nil_from_length ranges (grind (arith, nat_tests, e))

-- one label more, by whether it has no value of those before it
added_is : (found : TakenLabels) (r : CaseRange) (b : Bool) → (list_all (is_apart_from r) found.before && is_apart_from r found.own) ≡ b → added found (Some r) ≡ (if b then Accepts (record found { own = found.own ++ r ∷ [] }) else mislabelled)
added_is found r b e = ap (λ x. if x then Accepts (record found { own = found.own ++ r ∷ [] }) else mislabelled) e

module _ {before : List (List CaseRange)} {start : ℕ} {taken : List CaseRange} (s : StandsBefore before start taken) where
  -- a range has no value of those that are taken where it has none of those before and of the variant's own
  pub apart_from_taken : (r : CaseRange) → list_all (λ t. is_apart t r) taken ≡ (list_all (is_apart_from r) before && is_apart_from r (drop start taken))
  apart_from_taken r =
      let p : CaseRange → Bool = λ t. is_apart t r in
      ap (list_all p) (sym (take-append-drop start taken))
      ∙ (list_all-append p (take start taken) (drop start taken)
      ∙ ap (λ b. b && list_all p (drop start taken)) (ap (list_all p) (sym s.first) ∙ all_joined p before))

  -- what is judged of one label more
  module _ (built : Bool) (found : TakenLabels) (o : Option CaseRange) (r : CaseRange) (same : record { before = before; own = drop start taken; built = built } ≡ found) (is : o ≡ Some r) where
    pub label_refused : list_all (λ t. is_apart t r) taken ≡ false → IsTrue (breaks rule.VARIANT_LABELS (added found o))
    label_refused shared =
        let refused = added_is (record { before = before; own = drop start taken; built = built }) r false (sym (apart_from_taken r) ∙ shared) in
        subst (λ f. IsTrue (breaks rule.VARIANT_LABELS (added f o))) same
        (subst (λ x. IsTrue (breaks rule.VARIANT_LABELS (added (record { before = before; own = drop start taken; built = built }) x))) (sym is)
        (subst (λ j. IsTrue (breaks rule.VARIANT_LABELS j)) (sym refused) refl))

    pub label_added : (new : List CaseRange) → new ≡ taken ++ r ∷ [] → list_all (λ t. is_apart t r) taken ≡ true → added found o ≡ Accepts (record { before = before; own = drop start new; built = built })
    label_added new grown apart =
        let accepted = added_is (record { before = before; own = drop start taken; built = built }) r true (sym (apart_from_taken r) ∙ apart) in
        ap (λ f. added f o) (sym same)
        ∙ (ap (added (record { before = before; own = drop start taken; built = built })) is
        ∙ (accepted
        ∙ ap (λ own. Accepts (record { before = before; own = own; built = built })) (sym (drop-append-le start taken (r ∷ []) s.fits) ∙ ap (drop start) (sym grown))))

  -- one label more
  pub stands_with : (r : CaseRange) → StandsBefore before start (taken ++ r ∷ [])
  stands_with r = record {
    fits = let n = length-append taken (r ∷ []) in let f = s.fits in omega (arith, n, f);
    first = s.first ∙ sym (take-append-le start taken (r ∷ []) s.fits);
  }

  -- the end of a variant
  pub stands_ended : StandsBefore (before ++ drop start taken ∷ []) (length taken) taken
  stands_ended = record {
    fits = omega arith;
    first = one_more before (drop start taken) ∙ (ap (λ rs. rs ++ drop start taken) s.first ∙ (take-append-drop start taken ∙ sym (take-length taken)));
  }

  -- between two variants what has a label has it of a variant before
  pub labelled_before : (z : ℤ) → drop start taken ≡ [] → list_any (λ r. is_in r z) taken ≡ is_labelled before z
  labelled_before z none =
      let p : CaseRange → Bool = λ r. is_in r z in
      ap (list_any p) (sym (take-append-drop start taken))
      ∙ (list_any-append p (take start taken) (drop start taken)
      ∙ (ap (λ rs. list_any p (take start taken) || list_any p rs) none
      ∙ (or-false (list_any p (take start taken))
      ∙ (ap (list_any p) (sym s.first) ∙ any_joined p before))))
