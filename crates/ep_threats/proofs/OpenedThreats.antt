-- What a `with` of several records threatens, by its body and by its records.
use Rattle.std.proofs.Common.{◌≡◌, ℕ, Bool, true, false, ◌||◌, ◌&&◌, List, [], ◌∷◌, map, Result, Ok, Err, refl, sym, ap, ◌∙◌}
use Rattle.std.specs.Prelude.{OnOk}
use Rattle.ep_typed.specs.Trees.{Entire, Stmt, WithRecord, with_form}
use Rattle.ep_typed.specs.declared.interface.Formal.{Formal}
use Rattle.ep_typed.specs.Viewed.{stmt_of, with_record_of}
use Rattle.ep_typed.specs.declared.tree.TypedStmt.{TypedStmt}
use Rattle.ep_typed.specs.declared.tree.TypedStmt.TheVariants as typed
use Rattle.ep_typed.specs.declared.tree.WithRecord.{WithRecord as Written}
use Rattle.ep_typed.proofs.public.Statements.{with_is}
use Rattle.ep_threats.specs.Threatened.{Gathers, has, opened_threat, owned}
use Rattle.ep_threats.specs.Threats.{is_variable, place_threatens, threatens}
use Rattle.ep_threats.specs.declared.gathering.Owner.{Owner}
use Rattle.ep_threats.proofs.Adding.{or_grouped, or_none}

regrouped : (p b o x : Bool) → (p || ((b || o) || x)) ≡ (b || ((p || x) || o))
regrouped true true o x = refl
regrouped true false o x = refl
regrouped false true o x = refl
regrouped false false true true = refl
regrouped false false true false = refl
regrouped false false false true = refl
regrouped false false false false = refl

module _ (formals : List ℕ → ℕ → List Formal) (s : Stmt) where
  pub opened_threatens : (v : Entire) (line : ℕ) (rs : List WithRecord) → threatens formals v (with_form line rs s) ≡ (threatens formals v s || opened_threat formals v rs s)
  opened_threatens v line [] = sym (or_none (threatens formals v s))
  opened_threatens v line (r ∷ behind) =
      ap (λ b. place_threatens formals v r.place || (b || is_variable v r.place && threatens formals r.variable (with_form line behind s))) (opened_threatens v line behind)
      ∙ (ap (λ b. place_threatens formals v r.place || ((threatens formals v s || opened_threat formals v behind s) || is_variable v r.place && b)) (opened_threatens r.variable line behind ∙ sym (opened_threatens r.variable 0 behind))
      ∙ regrouped (place_threatens formals v r.place) (threatens formals v s) (opened_threat formals v behind s) (is_variable v r.place && threatens formals r.variable (with_form 0 behind s)))

-- what is gathered of the body, and then of the records
pub with_added : {T E : Type 0} (of : Owner) (formals : List ℕ → ℕ → List Formal) (line : ℕ) (records : List Written) (body : TypedStmt) (old between new : List ℕ) (r : Result T E)
    → Gathers of (λ v. threatens formals v (stmt_of body)) old between
    → OnOk r (Gathers of (λ v. opened_threat formals v (map with_record_of records) (stmt_of body)) between new)
    → OnOk r (Gathers of (λ v. threatens formals v (stmt_of (typed.With line records body))) old new)
with_added of formals line records body old between new (Ok t) first second = λ n.
    second n
    ∙ (ap (λ b. b || opened_threat formals (owned of n) (map with_record_of records) (stmt_of body)) (first n)
    ∙ (or_grouped (has old n) (threatens formals (owned of n) (stmt_of body)) (opened_threat formals (owned of n) (map with_record_of records) (stmt_of body))
    ∙ ap (λ b. has old n || b) (sym (opened_threatens formals (stmt_of body) (owned of n) line (map with_record_of records)) ∙ ap (threatens formals (owned of n)) (sym (with_is line records body)))))
with_added of formals line records body old between new (Err e) first second = tt
