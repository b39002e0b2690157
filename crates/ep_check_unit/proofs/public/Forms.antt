-- Lists of routines that change, by the forms of the routines.
use Rattle.std.proofs.Common.{◌≡◌, ℕ, zero, suc, ◌<◌, List, [], ◌∷◌, ◌++◌, map, length, Option, Some, None, slice_get, get_or, refl, sym, ap, ◌∙◌, subst, arith}
use Rattle.std.specs.Prelude.{slice_set}
use Rattle.ep_typed.specs.declared.unit.UnitRoutine.{UnitRoutine}
use Rattle.ep_scope.specs.declared.parameter.FormalParameter.{FormalParameter}
use Rattle.ep_scope.specs.declared.thing.Declaration.{Declaration}
use Rattle.ep_scope.specs.declared.thing.Thing.{Thing}
use Rattle.ep_rules.specs.Judgements.{Accepts, when_accepted}
use Rattle.ep_check_unit.specs.Blocks.{Block, RoutineForm, routine_form}
use Rattle.ep_check_unit.specs.Declarations.{entered, own_thing}
use Rattle.ep_unit_rules.specs.Functions.{routine_declaration}
use Rattle.ep_check_unit.specs.Routines.{headed_first, headed_form, with_routine}
use Rattle.ep_unit_rules.specs.declared.functions.HeadingResult.{HeadingResult}

-- something holds of each item by its place
abbrev pub Each : {X : Type 0} → (ℕ → X → Type 0) → List X → Type 0
Each {X = X} P xs = (n : ℕ) (x : X) → slice_get xs n ≡ Some x → P n x

-- it does where one of them is replaced
pub each_set : {X : Type 0} (P : ℕ → X → Type 0) (xs : List X) (n : ℕ) (x : X) → Each P xs → P n x → Each P (slice_set xs n x)
each_set P [] n x h p m z e = h m z e
each_set P (y ∷ ys) zero x h p zero z e = let same : x ≡ z = cc in subst (P 0) same p
each_set P (y ∷ ys) zero x h p (suc m) z e = h (suc m) z e
each_set P (y ∷ ys) (suc n) x h p zero z e = h zero z e
each_set P (y ∷ ys) (suc n) x h p (suc m) z e = each_set (λ k. P (suc k)) ys n x (λ k w f. h (suc k) w f) p m z e

-- and where there is one more
pub each_push : {X : Type 0} (P : ℕ → X → Type 0) (xs : List X) (x : X) → Each P xs → P (length xs) x → Each P (xs ++ x ∷ [])
each_push P [] x h p zero z e = let same : x ≡ z = cc in subst (P 0) same p
each_push P [] x h p (suc m) z e = cc
each_push P (y ∷ ys) x h p zero z e = h zero z e
each_push P (y ∷ ys) x h p (suc m) z e = each_push (λ k. P (suc k)) ys x (λ k w f. h (suc k) w f) p m z e

pub map_push : {X Y : Type 0} (f : X → Y) (xs : List X) (x : X) → map f (xs ++ x ∷ []) ≡ map f xs ++ f x ∷ []
map_push f [] x = refl
map_push f (y ∷ ys) x = ap (λ zs. f y ∷ zs) (map_push f ys x)

pub length_forms : (rs : List UnitRoutine) → length (map routine_form rs) ≡ length rs
length_forms [] = refl
length_forms (r ∷ rs) = ap suc (length_forms rs)

-- the first declaration of a routine, by the steps of its function
pub first_headed : (name : List ℕ) (line : ℕ) (ps : List FormalParameter) (r : Option HeadingResult) (b added : Block) (form : RoutineForm) (number : ℕ) (t : Thing) (new : Block)
    → added ≡ record b { routines = b.routines ++ form ∷ [] } → form ≡ headed_form name line ps r b.own.enclosing → number ≡ length b.routines → t ≡ own_thing added number (routine_declaration ps r) → entered name t added ≡ Accepts new
    → headed_first name line ps r b ≡ Accepts (record { number = number; parameters = ps; result = r; block = new })
first_headed name line ps r b added form number t new is formed count thing h =
    let d : Declaration = routine_declaration ps r in
    let first : Block = with_routine name line ps r b in
    let same : added ≡ first = is ∙ ap (λ f. record b { routines = b.routines ++ f ∷ [] }) formed in
    let named : t ≡ own_thing b (length b.routines) d = thing ∙ (ap (λ k. own_thing k number d) same ∙ ap (λ n. own_thing b n d) count) in
    let there : entered name (own_thing b (length b.routines) d) first ≡ Accepts new = subst (λ x. entered name x first ≡ Accepts new) named (subst (λ k. entered name t k ≡ Accepts new) same h) in
    ap (when_accepted (λ c. Accepts (record { number = length b.routines; parameters = ps; result = r; block = c }))) there
    ∙ ap (λ n. Accepts (record { number = n; parameters = ps; result = r; block = new })) (sym count)
