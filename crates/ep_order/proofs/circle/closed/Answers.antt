use Rattle.std.proofs.Common.{◌≡◌, ◌<◌, ◌-◌, ◌++◌, length, length-drop, arith, get_or, take, drop, reverse, sym, subst, ap, ◌∙◌}
use Rattle.std.specs.List.{All}
use Rattle.std.proofs.lemmas.List.{take_all}
use Rattle.std.proofs.lemmas.List.Elements.{All-weaker}
use Rattle.ep_order.specs.Systems.{IsUpTo}
use Rattle.ep_order.specs.Circles.{IsCircle}
use Rattle.ep_order.specs.Dependents.{IsModuleAt, name_at, names_at, system_of}
use Rattle.ep_order.proofs.Naming.{module_within}
use Rattle.ep_order.proofs.Walks.{back_modules, round_within, round_circle}
use Rattle.ep_order.proofs.circle.closed.Goals as goal

pub least_name-least-requires-clause-within : goal.least_name-least-requires-clause-within
least_name-least-requires-clause-within c =
    let back : c.deref.result.now ≡ reverse (drop c.number_of-begin.result c.args.path.now) = c.deref.ensures.value ∙ c.reverse.ensures.items ∙ ap reverse (c.in_ok-circle.ensures.items ∙ take_all (length c.args.path.now - c.number_of-begin.result) (drop c.number_of-begin.result c.args.path.now) (omega (arith, length-drop c.number_of-begin.result c.args.path.now))) in
    let modules = back_modules c.args.units.now c.requires.system c.args.path.now c.args.again c.number_of-begin.result c.requires.walk c.number_of-begin.ensures in
    subst (All (λ place. place < length c.args.units.now)) (sym back) (All-weaker (IsModuleAt c.args.units.now) (λ place. place < length c.args.units.now) (module_within c.args.units.now) (reverse (drop c.number_of-begin.result c.args.path.now)) modules)

pub returns-clause-within : goal.returns-clause-within
returns-clause-within c =
    let turned : c.reverse.new.self.items ≡ reverse (drop c.number_of-begin.result c.args.path.now) = c.reverse.ensures.items ∙ ap reverse (c.in_ok-circle.ensures.items ∙ take_all (length c.args.path.now - c.number_of-begin.result) (drop c.number_of-begin.result c.args.path.now) (omega (arith, length-drop c.number_of-begin.result c.args.path.now))) in
    let back : c.deref.result.now ≡ reverse (drop c.number_of-begin.result c.args.path.now) = c.deref.ensures.value ∙ turned in
    let final : c.from_vec.result ≡ drop c.least_name-least.result (reverse (drop c.number_of-begin.result c.args.path.now)) ++ take c.least_name-least.result (reverse (drop c.number_of-begin.result c.args.path.now)) =
    c.from_vec.ensures ∙ c.rotate_left.ensures.items ∙ ap (λ l. drop c.least_name-least.result l ++ take c.least_name-least.result l) turned in
    subst (All (λ place. place < length c.args.units.now)) (sym final)
    (round_within c.args.units.now c.requires.system c.args.path.now c.args.again c.number_of-begin.result c.requires.walk c.number_of-begin.ensures c.least_name-least.result
    (subst (λ l. c.least_name-least.result < length l) back c.least_name-least.ensures.within)
    (subst (λ l. All (λ place. IsUpTo (name_at c.args.units.now (get_or l c.least_name-least.result 0)) (name_at c.args.units.now place)) l) back c.least_name-least.ensures.least))

pub returns-clause-circle : goal.returns-clause-circle
returns-clause-circle c =
    let turned : c.reverse.new.self.items ≡ reverse (drop c.number_of-begin.result c.args.path.now) = c.reverse.ensures.items ∙ ap reverse (c.in_ok-circle.ensures.items ∙ take_all (length c.args.path.now - c.number_of-begin.result) (drop c.number_of-begin.result c.args.path.now) (omega (arith, length-drop c.number_of-begin.result c.args.path.now))) in
    let back : c.deref.result.now ≡ reverse (drop c.number_of-begin.result c.args.path.now) = c.deref.ensures.value ∙ turned in
    let final : c.from_vec.result ≡ drop c.least_name-least.result (reverse (drop c.number_of-begin.result c.args.path.now)) ++ take c.least_name-least.result (reverse (drop c.number_of-begin.result c.args.path.now)) =
    c.from_vec.ensures ∙ c.rotate_left.ensures.items ∙ ap (λ l. drop c.least_name-least.result l ++ take c.least_name-least.result l) turned in
    subst (λ l. IsCircle (system_of c.args.units.now) (names_at c.args.units.now l)) (sym final)
    (round_circle c.args.units.now c.requires.system c.args.path.now c.args.again c.number_of-begin.result c.requires.walk c.number_of-begin.ensures c.least_name-least.result
    (subst (λ l. c.least_name-least.result < length l) back c.least_name-least.ensures.within)
    (subst (λ l. All (λ place. IsUpTo (name_at c.args.units.now (get_or l c.least_name-least.result 0)) (name_at c.args.units.now place)) l) back c.least_name-least.ensures.least))
