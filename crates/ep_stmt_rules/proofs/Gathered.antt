-- What is written for parameters, gathered one after another.
use Rattle.std.proofs.Common.{◌≡◌, ℕ, ◌+◌, ◌<◌, List, [], ◌∷◌, ◌++◌, map, drop, length, get_or, Option, Some, None, refl, sym, ap, ◌∙◌, subst, append_assoc}
use Rattle.ep_rules.specs.Functions.{Given}
use Rattle.ep_rules.specs.Judgements.{Judged, Accepts, Breaks, both, when_accepted}
use Rattle.ep_rules.specs.declared.forms.Refusal.{Refusal}
use Rattle.ep_rules.specs.declared.forms.Refusal.TheVariants.{Rule, NoMemory}
use Rattle.ep_stmt_rules.specs.Answers.{Refuses}
use Rattle.ep_stmt_rules.specs.Statements.{item_judged, items_judged, one_after, one_more}
use Rattle.ep_rules.proofs.public.Refusing.{first_refused}
use Rattle.ep_stmt_rules.proofs.public.judged.Rounds.{next_item}

-- what is made so far, where all are built, and what comes
abbrev pub gathered : {A : Type 0} → Option (List A) → Judged (Option (List A)) → Judged (Option (List A))
gathered found (Breaks rules) = Breaks rules
gathered found (Accepts None) = Accepts None
gathered None (Accepts (Some more)) = Accepts None
gathered (Some found) (Accepts (Some more)) = Accepts (Some (found ++ more))

-- one more that comes
one_taken : {A : Type 0} (found : Option (List A)) (x : Option A) (rest : Judged (Option (List A)))
    → gathered found (both (λ y ys. Accepts (one_more y ys)) (Accepts x) rest) ≡ gathered (one_after found x) rest
one_taken found x (Breaks rules) = refl
one_taken found None (Accepts None) = refl
one_taken found (Some x) (Accepts None) = refl
one_taken found None (Accepts (Some more)) = refl
one_taken None (Some x) (Accepts (Some more)) = refl
one_taken (Some found) (Some x) (Accepts (Some more)) = ap (λ xs. Accepts (Some xs)) (sym (append_assoc found (x ∷ []) more))

taken : {A : Type 0} (found now : Option (List A)) (j : Judged (Option A)) (rest : Judged (Option (List A)))
    → when_accepted (λ x. Accepts (one_after found x)) j ≡ Accepts now → gathered found (both (λ x xs. Accepts (one_more x xs)) j rest) ≡ gathered now rest
taken found now (Accepts x) rest e = let same : one_after found x ≡ now = cc in one_taken found x rest ∙ ap (λ xs. gathered xs rest) same
taken found now (Breaks rules) rest e = cc

-- what refuses all with one more refuses that one
one_refused : {A : Type 0} (view : Option A → Option (List A)) (e : Refusal) (j : Judged (Option A)) → Refuses e (when_accepted (λ x. Accepts (view x)) j) → Refuses e j
one_refused view NoMemory j r = tt
one_refused view (Rule rule) (Accepts x) r = r
one_refused view (Rule rule) (Breaks rules) r = r

refused_through : {A : Type 0} (e : Refusal) (found : Option (List A)) (j : Judged (Option (List A))) → Refuses e j → Refuses e (gathered found j)
refused_through NoMemory found j r = tt
refused_through (Rule rule) found (Accepts o) r = cc
refused_through (Rule rule) found (Breaks rules) r = r

module _ {A : Type 0} (one : Judged (Option A)) (rest left all : Judged (Option (List A))) (next : left ≡ both (λ x xs. Accepts (one_more x xs)) one rest) (found : Option (List A)) (same : gathered found left ≡ all) where
  -- the turn of a loop
  pub one_gathered : (now : Option (List A)) → when_accepted (λ x. Accepts (one_after found x)) one ≡ Accepts now → gathered now rest ≡ all
  one_gathered now e = sym (taken found now one rest e) ∙ (sym (ap (gathered found) next) ∙ same)

  -- the one that comes is refused
  pub one_falls : (e : Refusal) → Refuses e (when_accepted (λ x. Accepts (one_after found x)) one) → Refuses e all
  one_falls e r = subst (Refuses e) same (refused_through e found left (subst (Refuses e) (sym next) (first_refused (λ x xs. Accepts (one_more x xs)) e one rest (one_refused (one_after found) e one r))))

-- the items that a statement writes: the next one, and those after it
pub next_written : {X : Type 0} (view : X → Given) (all : List X) (n : ℕ) (x : X) → n < length all → x ≡ get_or all n x
    → items_judged (map view (drop n all)) ≡ both (λ i is. Accepts (one_more i is)) (item_judged (view x)) (items_judged (map view (drop (n + 1) all)))
next_written view all n x h is = ap (λ xs. items_judged (map view xs)) (next_item all n x h is)
