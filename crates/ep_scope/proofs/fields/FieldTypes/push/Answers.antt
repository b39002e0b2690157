use Rattle.std.proofs.Common.{rules, ◌≡◌, ◌∙◌, true, false, sym, ap, length, is_some, refl}
use Rattle.std.proofs.lemmas.Slice.Eq.{bytes_eq-Decides}
use Rattle.std.specs.Cmp.Lexicographic.{nat_list_eq_equiv}
use Rattle.std.specs.Map.{lookup}
use Rattle.std.specs.Str.{bytes_eq}
use Rattle.ep_scope.proofs.Places.{first-kept, first-put}
use Rattle.ep_scope.proofs.fields.FieldTypes.push.Goals as goal

pub invariant_of-self-in-Ok : goal.invariant_of-self-in-Ok
invariant_of-self-in-Ok c =
    let absent : is_some (lookup (λ k. bytes_eq c.args.field.name k.items) c.self.inside.places.entries) ≡ false =
    rw (← c.bytes-2.ensures.bytes) (sym c.contains_key-is_there.ensures ∙ grind (rules, c.if-not-is_there.true)) in
    first-put (λ k. k.items) (λ f. f.name) bytes_eq nat_list_eq_equiv.symm (λ a b. (bytes_eq-Decides a b).0)
    c.self.inside.places.entries c.reserve.new.self.entries c.self.inside.all c.push.new.self c.args.field
    c.self.invariant c.in_ok-reserve.ensures.entries c.in_ok-push.ensures.ok
    _ c.in_ok-key.key _ (λ k. refl) c.insert.new.self.entries (c.in_ok-key.ensures.items ∙ c.bytes.ensures.bytes)
    (ap length c.items-place.ensures) absent c.in-Ok.ensures.entries

pub invariant_of-self-else-not-is_there : goal.invariant_of-self-else-not-is_there
invariant_of-self-else-not-is_there c =
    let there : is_some (lookup (λ k. bytes_eq c.args.field.name k.items) c.self.inside.places.entries) ≡ true =
    rw (← c.bytes-2.ensures.bytes) (sym c.contains_key-is_there.ensures ∙ grind (rules, c.if-not-is_there.false)) in
    first-kept (λ k. k.items) (λ f. f.name) bytes_eq nat_list_eq_equiv.symm (λ a b. (bytes_eq-Decides a b).0)
    c.self.inside.places.entries c.reserve.new.self.entries c.self.inside.all c.push.new.self c.args.field
    c.self.invariant c.in_ok-reserve.ensures.entries c.in_ok-push.ensures.ok there
