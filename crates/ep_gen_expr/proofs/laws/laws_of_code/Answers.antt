use Rattle.ep_gen_expr.proofs.public.Stays.{place_code_stays, expr_code_stays, place_code_short, expr_code_short}
use Rattle.ep_gen_expr.proofs.laws.laws_of_code.Goals as goal

pub returns : goal.returns
returns c = record {
  place_stays = λ ts us rs ss line at p is a b h. place_code_stays ts us rs ss line a b at p is h;
  expr_stays = λ ts us rs ss line at x is a b h. expr_code_stays ts us rs ss line a b at x is h;
  place_short = place_code_short;
  expr_short = expr_code_short;
}
