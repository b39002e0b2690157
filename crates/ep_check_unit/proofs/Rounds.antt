-- A loop over items that a definition takes one after another in a block: the refusal of the item that comes next.
use Rattle.std.proofs.Common.{◌≡◌, ℕ, ◌+◌, ◌<◌, List, ◌∷◌, drop, length, get_or, sym, ap, ◌∙◌, subst}
use Rattle.ep_rules.specs.Judgements.{Judged, Accepts, when_accepted}
use Rattle.ep_rules.specs.declared.forms.Refusal.{Refusal}
use Rattle.ep_rules.specs.Answers.{Refuses}
use Rattle.ep_stmt_rules.specs.Outcomes.{refused_at}
use Rattle.ep_stmt_rules.specs.declared.outcome.CheckRefusal.{CheckRefusal}
use Rattle.ep_rules.proofs.public.Refusing.{part_refused}
use Rattle.ep_stmt_rules.proofs.public.judged.Rounds.{next_item}
use Rattle.ep_check_unit.specs.Answers.{RefusesItems}
use Rattle.ep_check_unit.specs.Declarations.{Standing, and_then, at_line}
use Rattle.ep_check_unit.specs.Blocks.{Block}
use Rattle.ep_check_unit.proofs.Refusing.{line_refused, then_refused}

-- items that are taken one after another
abbrev pub Takes : {X : Type 0} → (List X → Block → Judged Block) → (X → Block → Judged Block) → Type 0
Takes {X} all_of one_of = (x : X) (xs : List X) (b : Block) → all_of (x ∷ xs) b ≡ when_accepted (all_of xs) (one_of x b)

-- the refusal of the item that comes next is that of all
pub item_refused : {X : Type 0} (all_of : List X → Block → Judged Block) (one_of : X → Block → Judged Block) → Takes all_of one_of
    → (all : List X) (i : ℕ) (x : X) (first now : Block) (e : Refusal) → i < length all → x ≡ get_or all i x → all_of (drop i all) now ≡ all_of all first
    → Refuses e (one_of x now) → Refuses e (all_of all first)
item_refused all_of one_of takes all i x first now e h is same r =
    subst (Refuses e) (sym (takes x (drop (i + 1) all) now) ∙ (sym (ap (λ xs. all_of xs now) (next_item all i x h is)) ∙ same)) (part_refused (all_of (drop (i + 1) all)) e (one_of x now) r)

-- declarations that are taken one after another
abbrev pub Stand : {X : Type 0} → (List X → Block → Standing) → (X → Block → Standing) → Type 0
Stand {X} all_of one_of = (x : X) (xs : List X) (b : Block) → all_of (x ∷ xs) b ≡ and_then (all_of xs) (one_of x b)

-- the refusal of the one that comes next is that of all
pub part_falls : {X : Type 0} (all_of : List X → Block → Standing) (one_of : X → Block → Standing) → Stand all_of one_of
    → (all : List X) (i : ℕ) (x : X) (first now : Block) (r : CheckRefusal) → i < length all → x ≡ get_or all i x → all_of (drop i all) now ≡ all_of all first
    → RefusesItems r (one_of x now) → RefusesItems r (all_of all first)
part_falls all_of one_of takes all i x first now r h is same f =
    subst (RefusesItems r) (sym (takes x (drop (i + 1) all) now) ∙ (sym (ap (λ xs. all_of xs now) (next_item all i x h is)) ∙ same)) (then_refused (all_of (drop (i + 1) all)) r (one_of x now) f)

-- the same of an item on its line
pub item_falls : {X : Type 0} (line_of : X → ℕ) (all_of : List X → Block → Standing) (one_of : X → Block → Judged Block) → Stand all_of (λ x b. at_line (line_of x) (one_of x b))
    → (all : List X) (i : ℕ) (x : X) (first now : Block) (e : Refusal) → i < length all → x ≡ get_or all i x → all_of (drop i all) now ≡ all_of all first
    → Refuses e (one_of x now) → RefusesItems (refused_at (line_of x) e) (all_of all first)
item_falls line_of all_of one_of takes all i x first now e h is same f =
    part_falls all_of (λ y b. at_line (line_of y) (one_of y b)) takes all i x first now (refused_at (line_of x) e) h is same (line_refused (line_of x) e (one_of x now) f)

-- what stands after it stands after all before it
pub item_stands : {X : Type 0} (line_of : X → ℕ) (all_of : List X → Block → Standing) (one_of : X → Block → Judged Block) → Stand all_of (λ x b. at_line (line_of x) (one_of x b))
    → (all : List X) (i : ℕ) (x : X) (now new : Block) (s : Standing) → i < length all → x ≡ get_or all i x → all_of (drop i all) now ≡ s → one_of x now ≡ Accepts new → all_of (drop (i + 1) all) new ≡ s
item_stands line_of all_of one_of takes all i x now new s h is same accepted =
    sym (ap (λ j. and_then (all_of (drop (i + 1) all)) (at_line (line_of x) j)) accepted) ∙ (sym (takes x (drop (i + 1) all) now) ∙ (sym (ap (λ xs. all_of xs now) (next_item all i x h is)) ∙ same))
