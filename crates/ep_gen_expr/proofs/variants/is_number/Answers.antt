use Rattle.std.proofs.Common.{arith}
use Rattle.std.proofs.lemmas.Bool.Decides.{nat_tests}
use Rattle.ep_gen_expr.proofs.variants.is_number.Goals as goal

pub returns : goal.returns
returns c = grind (arith, nat_tests)
