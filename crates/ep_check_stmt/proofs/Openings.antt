-- The records of a `with`, one more where those before it are open.
use Rattle.std.proofs.Common.{◌≡◌, ◌∙◌, ℕ, ◌+◌, ◌<◌, List, ◌∷◌, drop, get_or, length, sym, ap, subst}
use Rattle.ep_rules.specs.Answers.{Refuses}
use Rattle.ep_rules.specs.Judgements.{Judged, Accepts, Breaks, when_accepted}
use Rattle.ep_rules.specs.declared.forms.Refusal.{Refusal}
use Rattle.ep_rules.specs.declared.forms.Refusal.TheVariants.{Rule, NoMemory}
use Rattle.ep_tree.specs.declared.expression.Access.{Access}
use Rattle.ep_stmt_rules.specs.Statements.{Context, Opened, record_opened, records_opened}
use Rattle.ep_stmt_rules.proofs.public.judged.Rounds.{next_item}

module _ (c : Context) (all : List Access) (i : ℕ) (a : Access) (within : i < length all) (is : a ≡ get_or all i a) (o : Opened) where
  -- the next one, and those behind it
  next_opened : records_opened c (drop i all) o ≡ when_accepted (records_opened c (drop (i + 1) all)) (record_opened c a o)
  next_opened = ap (λ rest. records_opened c rest o) (next_item all i a within is)

  -- one that is accepted is open where those behind it are named
  pub one_further : (whole : Judged Opened) (more : Opened) → records_opened c (drop i all) o ≡ whole → record_opened c a o ≡ Accepts more → records_opened c (drop (i + 1) all) more ≡ whole
  one_further whole more same accepted =
      sym (ap (when_accepted (records_opened c (drop (i + 1) all))) accepted) ∙ sym next_opened ∙ same

  -- what is refused of it is refused of them all
  pub one_refused : (whole : Judged Opened) (e : Refusal) → records_opened c (drop i all) o ≡ whole → Refuses e (record_opened c a o) → Refuses e whole
  one_refused whole e same refused =
      subst (Refuses e) (sym next_opened ∙ same) (at e (record_opened c a o) refused)
    where
      at : (e : Refusal) (j : Judged Opened) → Refuses e j → Refuses e (when_accepted (records_opened c (drop (i + 1) all)) j)
      at NoMemory j h = tt
      at (Rule n) (Accepts x) h = absurd cc
      at (Rule n) (Breaks rules) h = h
