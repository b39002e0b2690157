-- What holds of all that is accepted.
use Rattle.std.proofs.Common.{◌≡◌, refl}
use Rattle.std.specs.Prelude.{⊤}
use Rattle.ep_rules.specs.Judgements.{Judged, Accepts, Breaks}
pub use Rattle.ep_check_expr.proofs.public.Keeping.{Satisfies as Fits, then-satisfies as fits_then, both-satisfies as fits_both, weaker-satisfies as fits_weaker, pair-satisfies as fits_pair}

-- anything that is accepted
abbrev pub Any : {A : Type 0} → A → Type 0
Any a = ⊤

pub fits_any : {A : Type 0} (j : Judged A) → Fits Any j
fits_any (Accepts a) = tt
fits_any (Breaks rules) = tt

-- what is accepted, is
pub fits_is : {A : Type 0} (j : Judged A) → Fits (λ a. j ≡ Accepts a) j
fits_is (Accepts a) = refl
fits_is (Breaks rules) = tt
