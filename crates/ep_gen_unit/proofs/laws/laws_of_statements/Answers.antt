use Rattle.ep_gen_unit.proofs.StmtStays.{stmt_code_stays, stmt_code_short}
use Rattle.ep_gen_unit.proofs.laws.laws_of_statements.Goals as goal

pub returns : goal.returns
returns c = record {
  stays = λ ts us rs ss at s is a b h. stmt_code_stays ts us rs ss a b at s is h;
  short = stmt_code_short;
}
