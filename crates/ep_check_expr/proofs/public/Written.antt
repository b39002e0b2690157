-- Arguments that are built anywhere are so where they are written or given.
use Rattle.std.proofs.Common.{◌≡◌, ℕ, Bool, true, false, List, [], ◌∷◌, map, Option, Some, None, refl, sym, ap, ◌∙◌}
use Rattle.std.specs.Prelude.{if◌then◌else◌}
use Rattle.std.specs.Option.{option_map, option_or}
use Rattle.ep_built.specs.Built.{argument_unbuilt, expression_unbuilt, first_if, first_in, is_bare_text, written_unbuilt}
use Rattle.ep_tree.specs.Nodes.{argument_node}
use Rattle.ep_tree.specs.Shapes.{bare}
use Rattle.ep_tree.specs.declared.expression.Argument.{Argument, out-Argument, roll-out-Argument}
use Rattle.ep_tree.specs.declared.expression.ComponentValue.TheFolds.{fold-roll-Argument}
use Rattle.ep_tree.specs.declared.expression.Expression.{Expression}

value_first : (a b : Option ℕ) (c : Bool) → option_or a b ≡ None → option_or (if c then None else a) b ≡ None
value_first None b true h = h
value_first None b false h = h
value_first (Some line) b c h = cc

argument_at : (line : ℕ) (value : Expression) (width : Option Expression) → argument_unbuilt (argument_node line value width) ≡ option_or (expression_unbuilt value) (first_if (option_map expression_unbuilt width))
argument_at line value None = simp fold-roll-Argument
argument_at line value (Some w) = simp fold-roll-Argument

argument_is : (a : Argument) → argument_unbuilt a ≡ option_or (expression_unbuilt (out-Argument a).value) (first_if (option_map expression_unbuilt (out-Argument a).width))
argument_is a = ap argument_unbuilt (sym (roll-out-Argument a)) ∙ argument_at (out-Argument a).line (out-Argument a).value (out-Argument a).width

written_too : (a : Argument) → argument_unbuilt a ≡ None → written_unbuilt a ≡ None
written_too a h =
    value_first (expression_unbuilt (out-Argument a).value) (first_if (option_map expression_unbuilt (out-Argument a).width)) (is_bare_text (bare (out-Argument a).value)) (sym (argument_is a) ∙ h)

both_none : (a more b rest : Option ℕ) → option_or a more ≡ None → (a ≡ None → b ≡ None) → (more ≡ None → rest ≡ None) → option_or b rest ≡ None
both_none None more b rest h f g = ap (λ o. option_or o rest) (f refl) ∙ g h
both_none (Some line) more b rest h f g = cc

-- the arguments of a call
pub all_written : (arguments : List Argument) → first_in (map argument_unbuilt arguments) ≡ None → first_in (map written_unbuilt arguments) ≡ None
all_written [] h = refl
all_written (a ∷ more) h = both_none (argument_unbuilt a) (first_in (map argument_unbuilt more)) (written_unbuilt a) (first_in (map written_unbuilt more)) h (written_too a) (all_written more)
