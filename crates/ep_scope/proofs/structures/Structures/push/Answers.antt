use Rattle.std.proofs.Common.{rules, ◌≡◌, ◌==◌, ◌∙◌, false, sym, ap, length, is_some, refl}
use Rattle.std.specs.Cmp.{nat_eq_equiv, unsigned_Decides}
use Rattle.std.specs.Map.{lookup}
use Rattle.ep_scope.proofs.Places.{first-put}
use Rattle.ep_scope.proofs.structures.Structures.push.Goals as goal

pub invariant_of-self-in-Ok : goal.invariant_of-self-in-Ok
invariant_of-self-in-Ok c =
    let absent : is_some (lookup (λ k. c.args.structured.number == k) c.self.inside.places.entries) ≡ false =
    sym c.contains_key-is_there.ensures ∙ grind (rules, c.if-not-is_there.true) in
    first-put (λ k. k) (λ s. s.number) (λ a b. a == b) nat_eq_equiv.symm (λ a b. (unsigned_Decides a b).0)
    c.self.inside.places.entries c.reserve.new.self.entries c.self.inside.all c.push.new.self c.args.structured
    c.self.invariant c.in_ok-reserve.ensures.entries c.in_ok-push.ensures.ok
    _ c.args.structured.number _ (λ k. refl) c.insert.new.self.entries refl
    (ap length c.items-place.ensures) absent c.in-Ok.ensures.entries
