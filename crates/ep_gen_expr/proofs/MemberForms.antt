-- The code of what `for` statements over members are made of, from that of its parts.
use Rattle.std.proofs.Common.{[], ◌∷◌}
use Rattle.ep_object.specs.declared.op.TheConstants as op
use Rattle.ep_meaning.specs.Controls.{has_more, others}
use Rattle.ep_typed.specs.Trees.{MemberControl, entire, Read, One, SetOf, Single, no_member, next_member}
use Rattle.ep_values.specs.declared.operations.Unary.TheVariants as unary
use Rattle.ep_values.specs.declared.operations.SetOperation.TheVariants as set
use Rattle.ep_gen_code.specs.Instructions.{bare}
use Rattle.ep_gen_expr.specs.ExprCode.{one_code, set_code}
use Rattle.ep_gen_code.specs.Growth.{Grows}
use Rattle.ep_gen_expr.specs.Growth.{AppendsExpr}
use Rattle.ep_gen_code.specs.declared.code.Code.{Code}
use Rattle.ep_gen_expr.proofs.Forms.{appends_one}
use Rattle.ep_gen_expr.proofs.SetForms.{appends_on_sets, appends_single, set_none, set_push}

-- whether members are still to come
pub appends_has_more : {a b c d : Code} (k : MemberControl) → AppendsExpr a b (Read (entire k.rest)) → Grows b c (bare b.line op.SET_NONE ∷ []) → Grows c d (set_code c.line set.Unequal ∷ []) → AppendsExpr a d (has_more k)
appends_has_more k p q r = appends_on_sets set.Unequal (Read (entire k.rest)) (SetOf no_member) p (set_none q) r

-- the others
pub appends_others : {a b c d e f g : Code} (k : MemberControl) → AppendsExpr a b (Read (entire k.rest)) → Grows b c (bare b.line op.SET_NONE ∷ []) → AppendsExpr c d (Read (entire k.variable)) → Grows d e (one_code d.line unary.Same) → Grows e f (bare e.line op.SET_ADD ∷ []) → Grows f g (set_code f.line set.Difference ∷ []) → AppendsExpr a g (others k)
appends_others k p q r s t u =
    let number = appends_one unary.Same (Read (entire k.variable)) r s in
    let member = set_push [] (Single (One unary.Same (Read (entire k.variable)))) (set_none q) (appends_single (One unary.Same (Read (entire k.variable))) number t) in
    appends_on_sets set.Difference (Read (entire k.rest)) (SetOf (next_member (Single (One unary.Same (Read (entire k.variable)))) no_member)) p member u
