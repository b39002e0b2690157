-- Rows of items: an item on its line, statements one after another, and the refusal of a part.
use Rattle.std.proofs.Common.{◌≡◌, ℕ, nat_eq, ◌==◌, eq-eqb, ◌+◌, ◌<◌, ◌≤◌, Bool, true, false, ◌&&◌, List, [], ◌∷◌, ◌++◌, map, drop, length, get_or, Option, Some, None, Result, Ok, Err, refl, sym, ap, ◌∙◌, subst}
use Rattle.std.specs.List.{list_any}
use Rattle.std.specs.Option.{option_map, option_or}
use Rattle.std.proofs.lemmas.List.{drop_all}
use Rattle.ep_tree.specs.declared.expression.Access.{Access}
use Rattle.ep_tree.specs.declared.expression.ComponentValue.{ComponentValue}
use Rattle.ep_tree.specs.declared.statement.Statement.TheOpen.{Statement-F}
use Rattle.ep_tree.specs.declared.statement.Statement.TheVariants as statement
use Rattle.ep_tree.specs.declared.statement.Statement.{fold-roll-Statement}
use Rattle.ep_typed.specs.Auxiliaries.{with_variables}
use Rattle.ep_typed.specs.Trees.{Entire, Stmt, Stmts, none, next, stmts}
use Rattle.ep_typed.specs.Viewed.{stmt_of}
use Rattle.ep_typed.specs.declared.tree.TypedStmt.{TypedStmt}
use Rattle.ep_rules.specs.Judgements.{Judged, Accepts, Breaks}
use Rattle.ep_rules.specs.declared.forms.Refusal.{Refusal}
use Rattle.ep_rules.specs.declared.forms.Refusal.TheVariants.{Rule, NoMemory}
use Rattle.ep_stmt_rules.specs.Answers.{AnswersForm, AnswersRow, RefusesRow, passed}
use Rattle.ep_stmt_rules.specs.Outcomes.{item_at}
use Rattle.ep_stmt_rules.specs.Statements.{ArmJudged, Context, Under, Judgement, behind, Passes, Waits, Fails, after, at_arm, at_compound, at_item, at_otherwise, at_statement, in_order, statement_judged}
use Rattle.ep_stmt_rules.specs.declared.outcome.CheckRefusal.{CheckRefusal}
use Rattle.ep_stmt_rules.specs.declared.outcome.CheckRefusal.TheVariants as refusal
use Rattle.ep_stmt_rules.specs.declared.outcome.Admission.{Admission}
use Rattle.ep_stmt_rules.specs.declared.outcome.Admission.TheVariants as outcome
use Rattle.ep_stmt_rules.proofs.public.judged.Rounds.{next_item}

both_pass : (a b : Bool) → a ≡ true → b ≡ true → (a && b) ≡ true
both_pass true b p q = q
both_pass false b p q = p

-- a rule of these fails on their line
pub own_line : (line : ℕ) (rules : List ℕ) (rule : ℕ) → list_any (nat_eq rule) rules ≡ true → ((line == line) && list_any (nat_eq rule) rules) ≡ true
own_line line rules rule h = both_pass (line == line) (list_any (nat_eq rule) rules) (eq-eqb line line refl) h

-- the answer to an item is that to its row
pub item_answers : {T A : Type 0} (view : T → A) (line : ℕ) (r : Result (Option T) Refusal) (j : Judged (Option A)) → AnswersForm (option_map view) r j → AnswersRow view (item_at line r) (at_item line j)
item_answers view line (Ok None) j h = ap (at_item line) h
item_answers view line (Ok (Some t)) j h = ap (at_item line) h
item_answers view line (Err NoMemory) j h = tt
item_answers view line (Err (Rule rule)) (Accepts form) h = cc
item_answers view line (Err (Rule rule)) (Breaks rules) h = own_line line rules rule h

-- the refusal of the first row, or of the second where the first breaks no rule
pub first_falls : {A B C : Type 0} (f : A → B → C) (r : CheckRefusal) (x : Judgement A) (y : Judgement B) → RefusesRow r x → RefusesRow r (after f x y)
first_falls f refusal.NoMemory x y h = tt
first_falls f (refusal.NotBuilt line) x y h = h
first_falls f (refusal.Broken b) (Passes a) y h = cc
first_falls f (refusal.Broken b) (Waits line) y h = cc
first_falls f (refusal.Broken b) (Fails line rules) y h = h

pub second_falls : {T A B C : Type 0} (f : A → B → C) (view : T → A) (r : CheckRefusal) (x : Judgement A) (y : Judgement B) (found : Admission T) → x ≡ passed view found → RefusesRow r y → RefusesRow r (after f x y)
second_falls f view refusal.NoMemory x y found is h = tt
second_falls f view (refusal.NotBuilt line) x y found is h = h
second_falls f view (refusal.Broken b) x (Passes c) found is h = cc
second_falls f view (refusal.Broken b) x (Waits line) found is h = cc
second_falls f view (refusal.Broken b) x (Fails line rules) (outcome.Passes t) is h = subst (λ j. RefusesRow (refusal.Broken b) (after f j (Fails line rules))) (sym is) h
second_falls f view (refusal.Broken b) x (Fails line rules) (outcome.Waits other) is h = subst (λ j. RefusesRow (refusal.Broken b) (after f j (Fails line rules))) (sym is) h

-- ---- statements one after another

-- these statements before those
abbrev pub joined : List Stmt → Stmts → Stmts
joined [] ss = ss
joined (s ∷ found) ss = next s (joined found ss)

joined_more : (found : List Stmt) (s : Stmt) (ss : Stmts) → joined found (next s ss) ≡ joined (found ++ s ∷ []) ss
joined_more [] s ss = refl
joined_more (t ∷ found) s ss = ap (next t) (joined_more found s ss)

-- those that come are none
pub joined_all : (found : List Stmt) → joined found none ≡ stmts found
joined_all [] = refl
joined_all (s ∷ found) = ap (next s) (joined_all found)

-- the statements so far, of which the first that is not built begins on this line, and those that come
abbrev pub together : List Stmt → Option ℕ → Judgement Stmts → Judgement Stmts
together found waits (Fails line rules) = Fails line rules
together found None (Passes ss) = Passes (joined found ss)
together found None (Waits line) = Waits line
together found (Some line) (Passes ss) = Waits line
together found (Some line) (Waits other) = Waits line

-- none so far
pub together_none : (j : Judgement Stmts) → together [] None j ≡ j
together_none (Passes ss) = refl
together_none (Waits line) = refl
together_none (Fails line rules) = refl

one_passes : (found : List Stmt) (waits : Option ℕ) (s : Stmt) (rest : Judgement Stmts) → together found waits (after next (Passes s) rest) ≡ together (found ++ s ∷ []) waits rest
one_passes found None s (Passes ss) = ap Passes (joined_more found s ss)
one_passes found (Some line) s (Passes ss) = refl
one_passes found None s (Waits line) = refl
one_passes found (Some first) s (Waits line) = refl
one_passes found waits s (Fails line rules) = refl

one_waits : (found : List Stmt) (waits : Option ℕ) (line : ℕ) (rest : Judgement Stmts) → together found waits (after next (Waits line) rest) ≡ together found (option_or waits (Some line)) rest
one_waits found None line (Passes ss) = refl
one_waits found (Some first) line (Passes ss) = refl
one_waits found None line (Waits other) = refl
one_waits found (Some first) line (Waits other) = refl
one_waits found None line (Fails other rules) = refl
one_waits found (Some first) line (Fails other rules) = refl

refused_through : (r : CheckRefusal) (found : List Stmt) (waits : Option ℕ) (j : Judgement Stmts) → RefusesRow r j → RefusesRow r (together found waits j)
refused_through refusal.NoMemory found waits j h = tt
refused_through (refusal.NotBuilt line) found waits j h = h
refused_through (refusal.Broken b) found waits (Passes ss) h = cc
refused_through (refusal.Broken b) found waits (Waits line) h = cc
refused_through (refusal.Broken b) found waits (Fails line rules) h = h

module _ {X : Type 0} (view : X → Under Stmt) (controls : List Entire) (all : List X) (n : ℕ) (x : X) (h : n < length all) (is : x ≡ get_or all n x) where
  abbrev rest : Context → Judgement Stmts
  rest c = in_order (map view (drop (n + 1) all)) c controls

  at_next : (c : Context) → in_order (map view (drop n all)) c controls ≡ after next (view x c controls) (rest (behind with_variables c (view x c controls)))
  at_next c = ap (λ xs. in_order (map view xs) c controls) (next_item all n x h is)

  -- the turn of a loop, with a statement that is built
  pub more_together : (c : Context) (found : List Stmt) (waits : Option ℕ) (s : Stmt) (j : Judgement Stmts) → view x c controls ≡ Passes s → together found waits (in_order (map view (drop n all)) c controls) ≡ j
      → together (found ++ s ∷ []) waits (rest (record c { withs = c.withs + length (with_variables s) })) ≡ j
  more_together c found waits s j e same =
      sym (one_passes found waits s (rest (record c { withs = c.withs + length (with_variables s) })))
      ∙ (sym (ap (together found waits) (at_next c ∙ ap (λ k. after next k (rest (behind with_variables c k))) e)) ∙ same)

  -- with one that is not
  pub less_together : (c : Context) (found : List Stmt) (waits : Option ℕ) (line : ℕ) (j : Judgement Stmts) → view x c controls ≡ Waits line → together found waits (in_order (map view (drop n all)) c controls) ≡ j
      → together found (option_or waits (Some line)) (rest c) ≡ j
  less_together c found waits line j e same = sym (one_waits found waits line (rest c)) ∙ (sym (ap (together found waits) (at_next c ∙ ap (λ k. after next k (rest (behind with_variables c k))) e)) ∙ same)

  -- the statement is refused
  pub statement_falls : (c : Context) (r : CheckRefusal) (found : List Stmt) (waits : Option ℕ) (j : Judgement Stmts) → together found waits (in_order (map view (drop n all)) c controls) ≡ j → RefusesRow r (view x c controls) → RefusesRow r j
  statement_falls c r found waits j same f =
      subst (RefusesRow r) same
      (refused_through r found waits (in_order (map view (drop n all)) c controls)
      (subst (RefusesRow r) (sym (at_next c)) (first_falls next r (view x c controls) (rest (behind with_variables c (view x c controls))) f)))

-- one statement more at the end
pub statements_more : (found : List TypedStmt) (s : TypedStmt) → map stmt_of (found ++ s ∷ []) ≡ map stmt_of found ++ stmt_of s ∷ []
statements_more [] s = refl
statements_more (t ∷ found) s = ap (λ ss. stmt_of t ∷ ss) (statements_more found s)

-- the end of a loop in which all were built
pub all_together : {X : Type 0} (view : X → Under Stmt) (c : Context) (controls : List Entire) (all : List X) (n : ℕ) (found : List Stmt) (waits : Option ℕ) (j : Judgement Stmts) → length all ≤ n → waits ≡ None
    → together found waits (in_order (map view (drop n all)) c controls) ≡ j → j ≡ Passes (stmts found)
all_together view c controls all n found waits j h none_waits same =
    sym same ∙ (ap (λ xs. together found waits (in_order (map view xs) c controls)) (drop_all n all h) ∙ (ap (λ w. together found w (Passes none)) none_waits ∙ ap Passes (joined_all found)))

-- what an assignment statement is judged to be
pub assignment_is : (context : Context) (line : ℕ) (access : Access) (v : ComponentValue) (controls : List Entire) → statement_judged (statement.Assignment line access v) context controls ≡ at_statement (Statement-F.Assignment line access v) context controls
assignment_is context line access v controls =
    ap (λ s. statement_judged s context controls) (sym (statement.rolls-Assignment line access v))
    ∙ ap (λ (judge : Under Stmt). judge context controls) (fold-roll-Statement (Under Stmt) ArmJudged (Under Stmts) (Under Stmts) at_statement at_arm at_compound at_otherwise (Statement-F.Assignment line access v))
