-- The productions at each number of levels: what is read is derived, what is derived is read, and a text has one tree.
use Rattle.std.proofs.Common.{◌≡◌, ℕ, zero, suc, false, List, [], None, sym, ◌∙◌, inl, inr}
use Rattle.ep_token.specs.declared.token.Token.{Token}
use Rattle.ep_tree.specs.declared.component.Component.{Component}
use Rattle.ep_grammar.specs.Classes.{has, class_of}
use Rattle.ep_grammar.specs.Descriptions.{Nonterminal, Node}
use Rattle.ep_grammar.specs.Reading.{read_inside}
use Rattle.ep_grammar.specs.Units.{components}
use Rattle.ep_grammar.specs.Rules.{rule, derived_at, inside_at, Grammar, read_components}
use Rattle.ep_grammar.proofs.public.Outcomes.{took, never, same_took}
use Rattle.ep_grammar.proofs.Classed.{also, not_also}
use Rattle.ep_grammar.proofs.Static.{nullable_inside, first_inside, after_inside, nullable, first, after}
use Rattle.ep_grammar.proofs.Checked.{good_rule, good_components, rule_first, rule_nullable, rule_after, components_end}
use Rattle.ep_grammar.proofs.Sound.{sound}
use Rattle.ep_grammar.proofs.Complete.{Begun, begun, complete}

pub sound_at : (k : ℕ) (n : Nonterminal) (a : List Token) (x : Node n) (b : List Token) → read_inside (inside_at k) n a ≡ took x b → derived_at k n a b x
unfolding inside_at derived_at
sound_at zero n a x b h = never h
sound_at (suc k) n a x b h = sound (derived_at k) (inside_at k) (sound_at k) (rule n) a x b h

begun_is : (n : Nonterminal) (a b : List Token) → Begun (first (rule n)) (nullable (rule n)) a b → Begun (first_inside n) (nullable_inside n) a b
begun_is n a b (inl w) = inl (also (first (rule n)) (first_inside n) (class_of a) (rule_first n) w.0, w.1)
begun_is n a b (inr w) = inr (sym (rule_nullable n) ∙ w.0, w.1)

pub begun_at : (k : ℕ) (n : Nonterminal) (a b : List Token) (x : Node n) → derived_at k n a b x → Begun (first_inside n) (nullable_inside n) a b
unfolding derived_at
begun_at zero n a b x d = absurd d
begun_at (suc k) n a b x d = begun_is n a b (begun (derived_at k) (begun_at k) (rule n) (good_rule n) a b x d)

pub none_at : (k : ℕ) → inside_at k ≡ None → (n : Nonterminal) (a b : List Token) (x : Node n) → derived_at k n a b x → ⊥
unfolding inside_at derived_at
none_at zero h n a b x d = d
none_at (suc k) h n a b x d = absurd (cc)

pub complete_at : (k : ℕ) (n : Nonterminal) (a b : List Token) (x : Node n) → derived_at k n a b x → has (after_inside n) (class_of b) ≡ false → read_inside (inside_at k) n a ≡ took x b
unfolding inside_at derived_at
complete_at zero n a b x d h = absurd d
complete_at (suc k) n a b x d h = complete (derived_at k) (inside_at k) (begun_at k) (complete_at k) (none_at k) (rule n) (good_rule n) a b x d (not_also (after (rule n)) (after_inside n) (class_of b) (rule_after n) h)

-- what is read to the end is derived
pub grammar_sound : (k : ℕ) (ts : List Token) (cs : List Component) → read_components k ts ≡ took cs [] → Grammar k ts cs
grammar_sound k ts cs h = sound (derived_at k) (inside_at k) (sound_at k) components ts cs [] h

-- what is derived is read to the end
pub grammar_complete : (k : ℕ) (ts : List Token) (cs : List Component) → Grammar k ts cs → read_components k ts ≡ took cs []
grammar_complete k ts cs d = complete (derived_at k) (inside_at k) (begun_at k) (complete_at k) (none_at k) components good_components ts [] cs d components_end

-- at one number of levels a text derives one list of components
pub one_tree_at : (k : ℕ) (ts : List Token) (cs ds : List Component) → Grammar k ts cs → Grammar k ts ds → cs ≡ ds
one_tree_at k ts cs ds c d = (same_took (sym (grammar_complete k ts cs c) ∙ grammar_complete k ts ds d)).0
