-- Rows of operands, read from the left.
use Rattle.std.proofs.Common.{◌≡◌, ℕ, suc, ◌+◌, ◌<◌, Bool, true, false, ◌&&◌, List, [], ◌∷◌, ◌++◌, append_assoc, drop, get_or, length, map, Some, None, refl, sym, ap, ◌∙◌, add-one, drop-cons}
use Rattle.std.specs.Option.{option_or}
use Rattle.ep_built.specs.Built.{Belonging, Found, at_node, first_in, lines_in, all_are_built}
use Rattle.ep_rules.proofs.public.Breaking.{both-first, both-second}
use Rattle.ep_check_expr.specs.Expressions.{Operand, chained}
use Rattle.ep_rules.specs.Judgements.{Judged, Accepts, Typed, breaks, both}

module _ (n : ℕ) where
  -- a rule that fails in the first operand fails in all of the row
  pub chained-first : {O : Type 0} (rule : O → Typed → Typed → Judged Typed) (x : Judged Typed) (os : List (Operand O)) → breaks n x ≡ true → breaks n (chained rule x os) ≡ true
  chained-first rule x [] h = h
  chained-first rule x (o ∷ os) h = chained-first rule (both (rule o.operator) x o.operand) os (both-first n (rule o.operator) x o.operand h)

-- the item at a place is the first one of what is left there
pub left-cons : {I : Type 0} (xs : List I) (i : ℕ) (x : I) → i < length xs → x ≡ get_or xs i x → drop i xs ≡ x ∷ drop (i + 1) xs
left-cons xs i x h e = rw (add-one, drop-cons xs i x) (ap (λ y. y ∷ drop (suc i) xs) (sym e))

-- the item at a place, behind those before it
pub pushed_left : {I : Type 0} (before xs : List I) (i : ℕ) (x : I) → i < length xs → x ≡ get_or xs i x → (before ++ x ∷ []) ++ drop (i + 1) xs ≡ before ++ drop i xs
pushed_left before xs i x h e = append_assoc before (x ∷ []) (drop (i + 1) xs) ∙ ap (λ ys. before ++ ys) (sym (left-cons xs i x h e))

module _ {I O : Type 0} (rule : O → Typed → Typed → Judged Typed) (f : I → Operand O) (xs : List I) (i : ℕ) (x : I) (within : i < length xs) (is : x ≡ get_or xs i x)
    (operator : O) (J : Judged Typed) (form : f x ≡ record { operator = operator; operand = J }) (a : Typed) where
  chained-left : chained rule (Accepts a) (map f (drop i xs)) ≡ chained rule (both (rule operator) (Accepts a) J) (map f (drop (i + 1) xs))
  chained-left =
      ap (λ ys. chained rule (Accepts a) (map f ys)) (left-cons xs i x within is) ∙ ap (λ o. chained rule (both (rule o.operator) (Accepts a) o.operand) (map f (drop (i + 1) xs))) form

  -- one operand more
  pub chained-step : (b c : Typed) → J ≡ Accepts b → rule operator a b ≡ Accepts c → chained rule (Accepts c) (map f (drop (i + 1) xs)) ≡ chained rule (Accepts a) (map f (drop i xs))
  chained-step b c operand accepted = sym (chained-left ∙ rw (operand, accepted) refl)

  -- an operand that breaks a rule
  pub chained-operand : (n : ℕ) → breaks n J ≡ true → breaks n (chained rule (Accepts a) (map f (drop i xs))) ≡ true
  chained-operand n h = rw chained-left (chained-first n rule (both (rule operator) (Accepts a) J) (map f (drop (i + 1) xs)) (both-second n (rule operator) (Accepts a) J h))

  -- an operator whose rule fails
  pub chained-operator : (b : Typed) → J ≡ Accepts b → (n : ℕ) → breaks n (rule operator a b) ≡ true → breaks n (chained rule (Accepts a) (map f (drop i xs))) ≡ true
  chained-operator b operand n h = rw (chained-left, operand) (chained-first n rule (rule operator a b) (map f (drop (i + 1) xs)) h)

pub or-first : (a b : Found) → option_or a b ≡ None → a ≡ None
or-first None b h = refl
or-first (Some line) b h = h

pub or-second : (a b : Found) → option_or a b ≡ None → b ≡ None
or-second None b h = h
or-second (Some line) b h = cc

pub and_first : (a b : Bool) → (a && b) ≡ true → a ≡ true
and_first true b e = refl
and_first false b e = e

pub and_second : (a b : Bool) → (a && b) ≡ true → b ≡ true
and_second true b e = e
and_second false b e = cc

-- a node that is built, and its parts
pub at_node-built : (b : Bool) (line : ℕ) (f : Found) → at_node b line f ≡ None → b ≡ true
at_node-built true line f h = refl
at_node-built false line f h = cc

pub at_node-inner : (b : Bool) (line : ℕ) (f : Found) → at_node b line f ≡ None → f ≡ None
at_node-inner true line f h = h
at_node-inner false line f h = cc

module _ {I : Type 0} (g : I → Belonging) (xs : List I) (i : ℕ) (x : I) (within : i < length xs) (is : x ≡ get_or xs i x) (b : Bool) (o : Found) (form : g x ≡ (b, o)) where
  lines_in-left : lines_in (map g (drop i xs)) ≡ option_or o (lines_in (map g (drop (i + 1) xs)))
  lines_in-left = ap (λ ys. lines_in (map g ys)) (left-cons xs i x within is) ∙ ap (λ p. option_or p.1 (lines_in (map g (drop (i + 1) xs)))) form

  built-left : all_are_built (map g (drop i xs)) ≡ (b && all_are_built (map g (drop (i + 1) xs)))
  built-left = ap (λ ys. all_are_built (map g ys)) (left-cons xs i x within is) ∙ ap (λ p. p.0 && all_are_built (map g (drop (i + 1) xs))) form

  -- the operands that are left are built
  pub operands-built : lines_in (map g (drop i xs)) ≡ None → lines_in (map g (drop (i + 1) xs)) ≡ None
  operands-built h = or-second o (lines_in (map g (drop (i + 1) xs))) (sym lines_in-left ∙ h)

  -- an operator is, and those that are left
  pub operator-built : all_are_built (map g (drop i xs)) ≡ true → b ≡ true
  operator-built h = and_first b (all_are_built (map g (drop (i + 1) xs))) (sym built-left ∙ h)

  pub operators-built : all_are_built (map g (drop i xs)) ≡ true → all_are_built (map g (drop (i + 1) xs)) ≡ true
  operators-built h = and_second b (all_are_built (map g (drop (i + 1) xs))) (sym built-left ∙ h)

-- of items that are built, the next one, and those after it
module _ {I : Type 0} (line_of : I → Found) (xs : List I) (i : ℕ) (x : I) (within : i < length xs) (is : x ≡ get_or xs i x) where
  first_left : first_in (map line_of (drop i xs)) ≡ option_or (line_of x) (first_in (map line_of (drop (i + 1) xs)))
  first_left = ap (λ ys. first_in (map line_of ys)) (left-cons xs i x within is)

  pub next-built : first_in (map line_of (drop i xs)) ≡ None → line_of x ≡ None
  next-built h = or-first (line_of x) (first_in (map line_of (drop (i + 1) xs))) (sym first_left ∙ h)

  pub rest-built : first_in (map line_of (drop i xs)) ≡ None → first_in (map line_of (drop (i + 1) xs)) ≡ None
  rest-built h = or-second (line_of x) (first_in (map line_of (drop (i + 1) xs))) (sym first_left ∙ h)
