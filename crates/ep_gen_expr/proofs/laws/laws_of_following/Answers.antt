use Rattle.std.proofs.Common.{arith}
use Rattle.ep_simulation.proofs.public.following.Fragments.{fragment_credit}
use Rattle.ep_simulation.proofs.public.matching.MoreMemory.{since_lasts}
use Rattle.ep_simulation.proofs.public.matching.Names.{since_knows-names}
use Rattle.ep_gen_expr.proofs.public.Following.{place_follows, expression_follows}
use Rattle.ep_gen_expr.proofs.laws.laws_of_following.Goals as goal

pub returns : goal.returns
returns c = record {
  places = λ declared layout G ps p texts references scene call steady turns unit q valid t has_type line at code is_code stands inside room untouched among n calls_kept unit_is referred swap_referred arrays_referred begun injection memory own below credit enough home. place_follows ps p texts references scene (since_knows-names declared own) call steady turns unit room since_lasts among n calls_kept unit_is referred swap_referred arrays_referred q valid t has_type line at code is_code stands inside injection memory below credit (omega (arith, enough)) home;
  expressions = λ declared layout G ps p texts references scene call steady turns unit kind x is_x line at code is_code stands inside room untouched among n calls_kept unit_is referred swap_referred arrays_referred begun injection memory own below credit enough home. fragment_credit {d = credit} (omega arith) (λ r. omega arith) (expression_follows ps p texts references scene (since_knows-names declared own) call steady turns unit room since_lasts among n calls_kept unit_is referred swap_referred arrays_referred kind x is_x line at code is_code stands inside injection memory below credit (omega (arith, enough)) home);
}
