-- What tokens derive, other tokens of the same kinds derive too, where nothing need be told of the two meanings: each lemma has the form of the description that it is of.
use Rattle.std.proofs.Common.{refl, ℕ, List}
use Rattle.ep_grammar.specs.Classes.{Class}
use Rattle.ep_grammar.specs.Descriptions.{Syntax, give, apply, optional, optional_list, flag, many, some, separated, closed}
use Rattle.ep_format.proofs.kinds.Forms.{Decided, Any, To, given, mark, after, so, one_of, perhaps, all_many, all_some, all_separated, all_closed}

abbrev pub Simply : {X : Type 0} → Syntax X → Type 1
Simply s = Decided s Any

-- without what is told of the two meanings
pub simply : {X : Type 0} {s : Syntax X} {R : X → X → Type 0} → Decided s R → Simply s
simply p = so p (λ x y h. tt)

-- a function of which nothing is told
pub function : {A X : Type 0} {s : Syntax (A → X)} → Simply s → Decided s (To Any Any)
function p = so p (λ f g h y z i. tt)

pub anything : {X : Type 0} {y : X} → Simply (give y)
anything = given tt

infixl 10 ◌&◌
pub ◌&◌ : {A X : Type 0} {s : Syntax (A → X)} {t : Syntax A} → Simply s → Simply t → Simply (apply s t)
p & q = after q (function p)

infixl 10 ◌<*◌
pub ◌<*◌ : {A X : Type 0} {s : Syntax X} {t : Syntax A} → Simply s → Simply t → Simply (apply (apply (give (λ x a. x)) s) t)
p <* q = (anything & p) & q

pub maybe : {X : Type 0} {cs : List Class} {s : Syntax X} → Simply s → Simply (optional cs s)
maybe p = simply (perhaps p)

pub maybe_list : {X : Type 0} {cs : List Class} {s : Syntax (List X)} → Simply s → Simply (optional_list cs s)
maybe_list p = one_of p anything

pub a_flag : {w : ℕ} → Simply (flag w)
a_flag = one_of (anything & mark refl) anything

pub each_of_many : {A : Type 0} {cs : List Class} {s : Syntax A} → Simply s → Simply (many cs s)
each_of_many p = simply (all_many p)

pub each_of_some : {A : Type 0} {cs : List Class} {s : Syntax A} → Simply s → Simply (some cs s)
each_of_some p = simply (all_some p)

pub each_separated : {A : Type 0} {n : ℕ} {s : Syntax A} → Simply s → Simply (separated n s)
each_separated p = simply (all_separated p)

pub each_closed : {A : Type 0} {cs : List Class} {s : Syntax A} → Simply s → Simply (closed cs s)
each_closed p = simply (all_closed p)
