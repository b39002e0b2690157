-- A text that is outside the language is refused in one way, and has no tree; a text with a tree has one first node that is not built.
use Rattle.std.proofs.Common.{◌≡◌, ℕ, ◌+◌, ◌-◌, ◌<◌, ◌≤◌, length, take, drop, List, ◌++◌, ◌⊎◌, inl, inr, Option, refl, sym, ap, ◌∙◌, subst, arith, append_assoc}
use Rattle.std.proofs.Math.Seq.{take-add}
use Rattle.std.proofs.lemmas.Bool.{cases_lt}
use Rattle.ep_token.proofs.public.TokenLaws.{tokens-one, tokens-apart, stuck-one}
use Rattle.ep_token.specs.Tokens.{Tokens}
use Rattle.ep_token.specs.declared.refusal.TokenRefusal.{TokenRefusal}
use Rattle.ep_token.specs.declared.token.Token.{Token}
use Rattle.ep_grammar.proofs.public.Refusal.{one_tree}
use Rattle.ep_grammar.specs.Refusals.{RefusedAt}
use Rattle.ep_grammar.specs.Rules.{Grammar, Begins}
use Rattle.ep_grammar.specs.declared.stop.TheConstants.{MAX_NESTING}
use Rattle.ep_parse.specs.Refusals.{line_at}
use Rattle.ep_parse.specs.declared.text.ParseRefusal.TheVariants as parse
use Rattle.ep_drive.specs.ProgramTexts.{HasUnbuilt, HasTree, components_unbuilt}
use Rattle.ep_drive.specs.Refusals.{IsStuck, IsOutside}
use Rattle.ep_drive.specs.declared.source.SourceRefusal.{SourceRefusal}
use Rattle.ep_drive.specs.declared.source.SourceRefusal.TheVariants as source

-- ---- the place of a refusal is the least

-- what begins a text begins one with all of its fronts
begins-front : (k : ℕ) (ts : List Token) (p q : ℕ) → p ≤ q → Begins k (take q ts) → Begins k (take p ts)
begins-front k ts p q h b =
    let sum : q ≡ p + (q - p) = omega arith in
    let parts : take q ts ≡ take p ts ++ take (q - p) (drop p ts) = ap (λ n. take n ts) sum ∙ take-add p (q - p) ts in
    let more = take (q - p) (drop p ts) ++ b.0 in
    (more, b.1, subst (λ x. Grammar k x b.1) (ap (λ (x : List Token). x ++ b.0) parts ∙ append_assoc (take p ts) (take (q - p) (drop p ts)) b.0) b.2)

-- a place where no text goes on, and the tokens before it begin a text
record IsLeast (k : ℕ) (ts : List Token) (place : ℕ) : Type 0 where
  refused : RefusedAt k ts place
  begun : Begins k (take place ts)

not_before : (k : ℕ) (ts : List Token) (p q : ℕ) → IsLeast k ts p → IsLeast k ts q → p < q → ⊥
not_before k ts p q a b h =
    let r = a.refused in
    let s = b.refused in
    let inside : q ≤ length ts = s.inside in
    r.no_text (omega arith) (begins-front k ts (p + 1) q (omega arith) b.begun)

same_place : (k : ℕ) (ts : List Token) (p q : ℕ) → IsLeast k ts p → IsLeast k ts q → p ≡ q
same_place k ts p q a b = elim (cases_lt p q) [
  | inl h ↦ absurd (not_before k ts p q a b h)
  | inr h ↦ elim (cases_lt q p) [ inl m ↦ absurd (not_before k ts q p b a m) | inr m ↦ omega arith ]
]

-- ---- refusals by where they are found

-- the text has no tokens
record HasStuck (text : List ℕ) (why : SourceRefusal) : Type 0 where
  refusal : TokenRefusal
  stuck : IsStuck text refusal
  is : why ≡ source.Token refusal

-- the tokens have no tree, whatever the levels, or only with more of them
abbrev Which : List Token → ℕ → SourceRefusal → Type 0
Which ts place why =
    ((why ≡ source.Parse (parse.Syntax place (line_at ts place))) × ((m : ℕ) → RefusedAt m ts place))
    ⊎ ((why ≡ source.Parse (parse.Nested place (line_at ts place))) × (place < length ts) × ((m : ℕ) × Begins m (take (place + 1) ts)))

record HasRefused (ts : List Token) (why : SourceRefusal) : Type 0 where
  place : ℕ
  least : IsLeast MAX_NESTING ts place
  which : Which ts place why

abbrev Sorted : List ℕ → SourceRefusal → Type 0
Sorted text why = HasStuck text why ⊎ ((ts : List Token) × Tokens text ts × HasRefused ts why)

some_level : 0 < MAX_NESTING
some_level = omega arith

sorted : (text : List ℕ) (why : SourceRefusal) → IsOutside text why → Sorted text why
sorted text (source.Token refusal) c = inl (record { refusal = refusal; stuck = c; is = refl })
sorted text (source.Parse parse.NoMemory) c = absurd c
sorted text (source.Parse (parse.Syntax place line)) c =
    let r = c.refused.0 in
    inr (
      c.tokens,
      c.are_tokens,
      record {
        place = place;
        least = record { refused = r.refused MAX_NESTING; begun = r.begun_before some_level };
        which = inl (ap (λ at. source.Parse (parse.Syntax place at)) c.refused.1, r.refused);
      },
    )
sorted text (source.Parse (parse.Nested place line)) c =
    let r = c.refused.0 in
    inr (
      c.tokens,
      c.are_tokens,
      record {
        place = place;
        least = record { refused = r.refused; begun = r.begun_before some_level };
        which = inr (ap (λ at. source.Parse (parse.Nested place at)) c.refused.1, r.at_token, r.deeper_text);
      },
    )
sorted text (source.NotBuilt line) c = absurd c
sorted text (source.Broken b) c = absurd c
sorted text (source.TooLarge name nodes) c = absurd c

-- ---- one refusal

one_stuck : (text : List ℕ) (why other : SourceRefusal) → HasStuck text why → HasStuck text other → why ≡ other
one_stuck text why other a b =
    let same = stuck-one text a.stuck.0 b.stuck.0 a.refusal b.refusal a.stuck.1 b.stuck.1 in
    a.is ∙ ap (λ refusal. source.Token refusal) same.1 ∙ sym b.is

-- no deeper text goes on where no text goes on at all
not_both : (ts : List Token) (place : ℕ) → ((m : ℕ) → RefusedAt m ts place) → place < length ts → ((m : ℕ) × Begins m (take (place + 1) ts)) → ⊥
not_both ts place r h b = let s = r b.0 in s.no_text h b.1

one_which : (ts : List Token) (place : ℕ) (why other : SourceRefusal) → Which ts place why → Which ts place other → why ≡ other
one_which ts place why other (inl a) (inl b) = a.0 ∙ sym b.0
one_which ts place why other (inl a) (inr b) = absurd (not_both ts place a.1 b.1 b.2)
one_which ts place why other (inr a) (inl b) = absurd (not_both ts place b.1 a.1 a.2)
one_which ts place why other (inr a) (inr b) = a.0 ∙ sym b.0

one_refused : (ts : List Token) (why other : SourceRefusal) → HasRefused ts why → HasRefused ts other → why ≡ other
one_refused ts why other a b =
    one_which ts a.place why other a.which (subst (λ place. Which ts place other) (same_place MAX_NESTING ts b.place a.place b.least a.least) b.which)

-- a text is refused in one way
pub one_refusal : (text : List ℕ) (why other : SourceRefusal) → IsOutside text why → IsOutside text other → why ≡ other
one_refusal text why other c d = of_both (sorted text why c) (sorted text other d) where
  of_both : Sorted text why → Sorted text other → why ≡ other
  of_both (inl a) (inl b) = one_stuck text why other a b
  of_both (inl a) (inr b) = absurd (tokens-apart text b.0 a.stuck.0 a.refusal b.1 a.stuck.1)
  of_both (inr a) (inl b) = absurd (tokens-apart text a.0 b.stuck.0 b.refusal a.1 b.stuck.1)
  of_both (inr a) (inr b) = one_refused a.0 why other a.2 (subst (λ ts. HasRefused ts other) (tokens-one text b.0 a.0 b.1 a.1) b.2)

-- and it has no tree
pub no_tree : (text : List ℕ) (why : SourceRefusal) → IsOutside text why → HasTree text → ⊥
no_tree text why c t = of (sorted text why c) where
  of : Sorted text why → ⊥
  of (inl a) = let u = t.1 in tokens-apart text u.tokens a.stuck.0 a.refusal u.are_tokens a.stuck.1
  of (inr a) =
      let u = t.1 in
      let x = a.2 in
      let l = x.least in
      let r = l.refused in
      r.not_derived u.components (subst (λ ts. Grammar MAX_NESTING ts u.components) (tokens-one text u.tokens a.0 u.are_tokens a.1) u.derived)

-- a text has one first node that is not built, if any
pub one_unbuilt : (text : List ℕ) (line at : Option ℕ) → HasUnbuilt text line → HasUnbuilt text at → line ≡ at
one_unbuilt text line at a b =
    let derived : Grammar MAX_NESTING a.tokens b.components = subst (λ ts. Grammar MAX_NESTING ts b.components) (tokens-one text b.tokens a.tokens b.are_tokens a.are_tokens) b.derived in
    let same : a.components ≡ b.components = one_tree MAX_NESTING MAX_NESTING a.tokens a.components b.components a.derived derived in
    sym a.unbuilt ∙ ap components_unbuilt same ∙ b.unbuilt
