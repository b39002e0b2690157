-- A subrange, by the steps that its function takes.
use Rattle.std.proofs.Common.{◌≡◌, ℕ, List, Err, sym, ap, ◌∙◌, subst}
use Rattle.ep_tree.specs.declared.expression.Expression.{Expression}
use Rattle.ep_scope.specs.Scopes.{Region}
use Rattle.ep_scope.specs.declared.kind.Host.{Host}
use Rattle.ep_rules.specs.Answers.{AnswersJudged}
use Rattle.ep_check_expr.specs.Constants.{bound_judged}
use Rattle.ep_rules.specs.Judgements.{Judged, Accepts, when_accepted, both}
use Rattle.ep_check_expr.specs.declared.constants.ConstantForm.{ConstantForm}
use Rattle.ep_rules.specs.declared.forms.Refusal.{Refusal}
use Rattle.ep_rules.specs.Answers.{Refuses}
use Rattle.ep_rules.proofs.public.Refusing.{from_judged, first_refused, second_refused, both_refused, part_refused, rest_refused, both_accepted}
use Rattle.ep_unit_rules.specs.Types.{common_host, ordered}
use Rattle.ep_check_unit.specs.Declarations.{Written, range, scopes_of, subrange}
use Rattle.ep_check_unit.specs.Blocks.{Block}

-- a subrange with these bounds
abbrev pub ranged : ℕ → Block → Expression → Expression → Judged Written
ranged line b low high = both (range line b) (bound_judged (scopes_of b) low) (bound_judged (scopes_of b) high)

-- what is accepted is one thing
pub accepted_same : {A : Type 0} (x y : A) → Accepts x ≡ Accepts y → y ≡ x
accepted_same x y e = cc

-- a bound with the scopes of the block
at_scopes : (scopes : List Region) (b : Block) (e : Expression) (form : ConstantForm) → scopes ≡ scopes_of b → bound_judged scopes e ≡ Accepts form → bound_judged (scopes_of b) e ≡ Accepts form
at_scopes scopes b e form is h = ap (λ s. bound_judged s e) (sym is) ∙ h

module _ (line : ℕ) (b : Block) (low high : Expression) (scopes more : List Region) (is : scopes ≡ scopes_of b) (also : more ≡ scopes_of b) where
  -- the lower bound is refused
  pub low_refused : (e : Refusal) → AnswersJudged (λ (c : ConstantForm). c) (Err e) (bound_judged scopes low) → Refuses e (ranged line b low high)
  low_refused e h =
      first_refused (range line b) e (bound_judged (scopes_of b) low) (bound_judged (scopes_of b) high) (subst (λ s. Refuses e (bound_judged s low)) is (from_judged (λ (c : ConstantForm). c) e (bound_judged scopes low) h))

  module _ (least : ConstantForm) (low_is : bound_judged scopes low ≡ Accepts least) where
    -- the upper bound is refused
    pub high_refused : (e : Refusal) → AnswersJudged (λ (c : ConstantForm). c) (Err e) (bound_judged more high) → Refuses e (ranged line b low high)
    high_refused e h =
        second_refused (range line b) e (bound_judged (scopes_of b) low) (bound_judged (scopes_of b) high) least (at_scopes scopes b low least is low_is)
        (subst (λ s. Refuses e (bound_judged s high)) also (from_judged (λ (c : ConstantForm). c) e (bound_judged more high) h))

    module _ (greatest : ConstantForm) (high_is : bound_judged more high ≡ Accepts greatest) where
      -- what is refused of two bounds
      inside : (e : Refusal) → Refuses e (range line b least greatest) → Refuses e (ranged line b low high)
      inside e h =
          both_refused (range line b) e (bound_judged (scopes_of b) low) (bound_judged (scopes_of b) high) least greatest (at_scopes scopes b low least is low_is) (at_scopes more b high greatest also high_is) h

      -- they have no common host
      pub host_refused : (e : Refusal) → AnswersJudged (λ (h : Host). h) (Err e) (common_host least.kind greatest.kind) → Refuses e (ranged line b low high)
      host_refused e h =
          inside e (part_refused (λ host. when_accepted (λ _. Accepts (subrange line host least greatest b)) (ordered least greatest)) e (common_host least.kind greatest.kind) (from_judged (λ (h : Host). h) e (common_host least.kind greatest.kind) h))

      module _ (host : Host) (host_is : common_host least.kind greatest.kind ≡ Accepts host) where
        -- they are not in order
        pub order_refused : (e : Refusal) → AnswersJudged (λ (u : Unit {0}). u) (Err e) (ordered least greatest) → Refuses e (ranged line b low high)
        order_refused e h =
            inside e
            (rest_refused (λ host. when_accepted (λ _. Accepts (subrange line host least greatest b)) (ordered least greatest)) e (common_host least.kind greatest.kind) host host_is
            (part_refused (λ _. Accepts (subrange line host least greatest b)) e (ordered least greatest) (from_judged (λ (u : Unit {0}). u) e (ordered least greatest) h)))

        -- the subrange
        pub range_accepted : (u : Unit {0}) → ordered least greatest ≡ Accepts u → ranged line b low high ≡ Accepts (subrange line host least greatest b)
        range_accepted u h =
            both_accepted (range line b) (bound_judged (scopes_of b) low) (bound_judged (scopes_of b) high) least greatest (at_scopes scopes b low least is low_is) (at_scopes more b high greatest also high_is)
            ∙ ap (when_accepted (λ host. when_accepted (λ _. Accepts (subrange line host least greatest b)) (ordered least greatest))) host_is
            ∙ ap (when_accepted (λ _. Accepts (subrange line host least greatest b))) h
