-- The walk over a comment finds its end.
use Rattle.std.proofs.Common.{◌≡◌, ℕ, ◌+◌, Bool, true, false, ◌==◌, ◌⊎◌, inl, inr, List, [], ◌∷◌, ◌++◌, length, Some, None, refl, sym, ap, ◌∙◌, arith}
use Rattle.std.proofs.lemmas.Bool.Decides.{nat_tests}
use Rattle.ep_token.specs.Comments.{IsCloser}
use Rattle.ep_token.specs.Tokens.{begins}
use Rattle.ep_token.specs.Reading.{comment_end}
use Rattle.ep_token.proofs.Comments.{comment_end-brace, comment_end-star, comment_end-other, comment_end-plain}
use Rattle.ep_token.proofs.Steps.{truth}

abbrev pub HasNoCloser : List ℕ → Type 0
HasNoCloser body = (front other back : List ℕ) → IsCloser other → body ≡ front ++ (other ++ back) → ⊥

no_closer-brace : (b : ℕ) (bs : List ℕ) → HasNoCloser (b ∷ bs) → (b == 125) ≡ false
no_closer-brace b bs h =
    elim (truth (b == 125)) [
      | inl p ↦ let at : b ≡ 125 = grind (arith, nat_tests) in absurd (h [] (125 ∷ []) bs (inl refl) (ap (λ x. x ∷ bs) at))
      | inr p ↦ p
    ]

no_closer-tail : (b : ℕ) (bs : List ℕ) → HasNoCloser (b ∷ bs) → HasNoCloser bs
no_closer-tail b bs h front other back closes e = h (b ∷ front) other back closes (ap (λ l. b ∷ l) e)

no_closer-star : (b : ℕ) (bs : List ℕ) → HasNoCloser (b ∷ bs) → (b == 42) ≡ true → begins (λ x. x == 41) bs ≡ false
no_closer-star b [] h p = refl
no_closer-star b (c ∷ cs) h p =
    elim (truth (c == 41)) [
      | inl q ↦
          let at : b ≡ 42 = grind (arith, nat_tests) in
          let after : c ≡ 41 = grind (arith, nat_tests) in
          absurd (h [] (42 ∷ 41 ∷ []) cs (inr refl) (ap (λ x. x ∷ c ∷ cs) at ∙ ap (λ x. 42 ∷ x ∷ cs) after))
      | inr q ↦ q
    ]

-- one byte that closes nothing
comment_end-step : (a : Bool) (i b : ℕ) (bs : List ℕ) → (b == 125) ≡ false → (a ≡ true → (b == 41) ≡ false) → comment_end a i (b ∷ bs) ≡ comment_end (b == 42) (i + 1) bs
comment_end-step true i b bs h p = comment_end-other true i b bs h (p refl)
comment_end-step false i b bs h p = comment_end-plain i b bs h

-- a comment is what is found
pub comment_end-whole : (a : Bool) (i : ℕ) (body closer more : List ℕ) → IsCloser closer → HasNoCloser body → (a ≡ true → begins (λ b. b == 41) body ≡ false) → comment_end a i (body ++ (closer ++ more)) ≡ Some (i + length body + length closer)
comment_end-whole a i [] closer more (inl e) h p =
    ap (λ (l : List ℕ). comment_end a i (l ++ more)) e ∙ comment_end-brace a i 125 more refl ∙ ap (λ n. Some n) (let k : i + 1 ≡ i + 0 + length closer = omega (arith, ap length e) in k)
comment_end-whole a i [] closer more (inr e) h p =
    ap (λ (l : List ℕ). comment_end a i (l ++ more)) e ∙ comment_end-other a i 42 (41 ∷ more) refl refl ∙ comment_end-star (i + 1) 41 more refl ∙ ap (λ n. Some n) (let k : i + 1 + 1 ≡ i + 0 + length closer = omega (arith, ap length e) in k)
comment_end-whole a i (b ∷ bs) closer more closes h p =
    comment_end-step a i b (bs ++ (closer ++ more)) (no_closer-brace b bs h) p
    ∙ comment_end-whole (b == 42) (i + 1) bs closer more closes (no_closer-tail b bs h) (no_closer-star b bs h)
    ∙ ap (λ n. Some n) (let k : i + 1 + length bs + length closer ≡ i + length (b ∷ bs) + length closer = omega arith in k)

-- what is found closes a comment
pub record IsBody (a : Bool) (cs : List ℕ) (from to : ℕ) : Type 0 where
  pub body : List ℕ
  pub closer : List ℕ
  pub more : List ℕ
  pub split : cs ≡ body ++ (closer ++ more)
  pub closes : IsCloser closer
  pub first : HasNoCloser body
  pub apart : a ≡ true → begins (λ b. b == 41) body ≡ false
  pub end : to ≡ from + length body + length closer

no_closer-nil : HasNoCloser []
no_closer-nil [] other back (inl e) s = let k = ap (λ (l : List ℕ). length (l ++ back)) e in absurd (omega (arith, ap length s, k))
no_closer-nil [] other back (inr e) s = let k = ap (λ (l : List ℕ). length (l ++ back)) e in absurd (omega (arith, ap length s, k))
no_closer-nil (f ∷ front) other back closes s = absurd (omega (arith, ap length s))

head_is : (x y : ℕ) (xs ys : List ℕ) → x ∷ xs ≡ y ∷ ys → (x ≡ y) × (xs ≡ ys)
head_is x y xs ys e = (cc, cc)

no_closer-cons : (b : ℕ) (body : List ℕ) → (b == 125) ≡ false → ((b == 42) ≡ true → begins (λ x. x == 41) body ≡ false) → HasNoCloser body → HasNoCloser (b ∷ body)
no_closer-cons b body p q h [] other back (inl e) s =
    let parts = head_is b 125 body back (s ∙ ap (λ (l : List ℕ). l ++ back) e) in
    let test : (b == 125) ≡ true = rw parts.0 refl in
    absurd cc
no_closer-cons b body p q h [] other back (inr e) s =
    let parts = head_is b 42 body (41 ∷ back) (s ∙ ap (λ (l : List ℕ). l ++ back) e) in
    let test : (b == 42) ≡ true = rw parts.0 refl in
    let after : begins (λ x. x == 41) body ≡ true = rw parts.1 refl in
    let not = q test in
    absurd cc
no_closer-cons b body p q h (f ∷ front) other back closes s = h front other back closes (head_is b f body (front ++ (other ++ back)) s).1

comment_end-nil : (a : Bool) (i : ℕ) → comment_end a i [] ≡ None
unfolding comment_end
comment_end-nil a i = refl

none_some : (m : ℕ) → None ≡ Some m → ⊥
none_some m h = cc

some_is : (a b : ℕ) → Some a ≡ Some b → a ≡ b
some_is a b h = cc

abbrev IsStarred : Bool → List ℕ → ℕ → ℕ → Type 0
IsStarred a cs i m = (a ≡ true) × (rest : List ℕ) × (cs ≡ 41 ∷ rest) × (m ≡ i + 1)

body-brace : (a : Bool) (b : ℕ) (bs : List ℕ) (i m : ℕ) → (b == 125) ≡ true → m ≡ i + 1 → IsBody a (b ∷ bs) i m
body-brace a b bs i m p e = record { body = []; closer = 125 ∷ []; more = bs; split = ap (λ x. x ∷ bs) (let at : b ≡ 125 = grind (arith, nat_tests) in at); closes = inl refl; first = no_closer-nil; apart = λ _. refl; end = omega arith }

body-star : (a : Bool) (b : ℕ) (bs rest : List ℕ) (i m : ℕ) → (b == 42) ≡ true → bs ≡ 41 ∷ rest → m ≡ i + 1 + 1 → IsBody a (b ∷ bs) i m
body-star a b bs rest i m p s e = record { body = []; closer = 42 ∷ 41 ∷ []; more = rest; split = ap (λ x. x ∷ bs) (let at : b ≡ 42 = grind (arith, nat_tests) in at) ∙ ap (λ l. 42 ∷ l) s; closes = inr refl; first = no_closer-nil; apart = λ _. refl; end = omega arith }

body-step : (a : Bool) (b : ℕ) (bs : List ℕ) (i m : ℕ) → (b == 125) ≡ false → (a ≡ true → (b == 41) ≡ false) → IsBody (b == 42) bs (i + 1) m → IsBody a (b ∷ bs) i m
body-step a b bs i m p q r = record { body = b ∷ r.body; closer = r.closer; more = r.more; split = ap (λ l. b ∷ l) r.split; closes = r.closes; first = no_closer-cons b r.body p r.apart r.first; apart = q; end = omega (arith, r.end) }

comment_end-found : (a : Bool) (i m : ℕ) (cs : List ℕ) → comment_end a i cs ≡ Some m → IsStarred a cs i m ⊎ IsBody a cs i m
comment_end-found a i m [] h = absurd (none_some m (sym (comment_end-nil a i) ∙ h))
comment_end-found true i m (b ∷ bs) h =
    elim (truth (b == 125)) [
      | inl p ↦ inr (body-brace true b bs i m p (sym (some_is (i + 1) m (sym (comment_end-brace true i b bs p) ∙ h))))
      | inr p ↦ elim (truth (b == 41)) [
        | inl q ↦ inl (refl, bs, ap (λ x. x ∷ bs) (let at : b ≡ 41 = grind (arith, nat_tests) in at), sym (some_is (i + 1) m (sym (comment_end-star i b bs q) ∙ h)))
        | inr q ↦ elim (comment_end-found (b == 42) (i + 1) m bs (sym (comment_end-other true i b bs p q) ∙ h)) [
          | inl s ↦ inr (body-star true b bs s.1 i m s.0 s.2 s.3)
          | inr r ↦ inr (body-step true b bs i m p (λ _. q) r)
        ]
      ]
    ]
comment_end-found false i m (b ∷ bs) h =
    elim (truth (b == 125)) [
      | inl p ↦ inr (body-brace false b bs i m p (sym (some_is (i + 1) m (sym (comment_end-brace false i b bs p) ∙ h))))
      | inr p ↦ elim (comment_end-found (b == 42) (i + 1) m bs (sym (comment_end-plain i b bs p) ∙ h)) [
        | inl s ↦ inr (body-star false b bs s.1 i m s.0 s.2 s.3)
        | inr r ↦ inr (body-step false b bs i m p (λ (e : false ≡ true). absurd cc) r)
      ]
    ]

pub comment_end-body : (m : ℕ) (cs : List ℕ) → comment_end false 0 cs ≡ Some m → IsBody false cs 0 m
comment_end-body m cs h =
    elim (comment_end-found false 0 m cs h) [
      | inl s ↦ let e : false ≡ true = s.0 in absurd cc
      | inr r ↦ r
    ]
