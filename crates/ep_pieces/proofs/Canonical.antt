-- A piece as it is written spells what the text did from which it comes, and gives the same piece.
use Rattle.std.proofs.Common.{◌≡◌, ◌≢◌, ℕ, ◌+◌, ◌-◌, ◌*◌, ◌<◌, ◌≤◌, true, ◌==◌, cond, ◌⊎◌, inl, inr, List, [], ◌∷◌, ◌++◌, length, take, drop, get_or, Option, Some, None, refl, sym, ap, subst, ◌∙◌, arith, append_assoc, length-append}
use Rattle.std.specs.Prelude.{fold}
use Rattle.std.specs.List.{list_all}
use Rattle.std.specs.Char.{is_ascii_alphabetic, is_ascii_alphanumeric, to_ascii_lowercase}
use Rattle.std.specs.Str.{bytes_eq}
use Rattle.std.proofs.lemmas.Str.Ascii.{lowercase-lowercase}
use Rattle.std.specs.Option.{option_to_list}
use Rattle.std.proofs.lemmas.Bool.{cases_lt}
use Rattle.std.proofs.lemmas.Bool.Decides.{nat_tests}
use Rattle.std.proofs.lemmas.Slice.Eq.{bytes_eq-Decides}
use Rattle.std.proofs.lemmas.Grind.{common_steps}
use Rattle.std.proofs.lemmas.List.{take_at, drop_at}
use Rattle.ep_base.specs.Identifiers.{is_identifier, is_identifier_rest, lower_case}
use Rattle.ep_token.specs.declared.token.TokenKind.{TokenKind}
use Rattle.ep_token.specs.declared.token.TokenKind.TheVariants.{Word, Id, Number, Str, Sym}
use Rattle.ep_token.specs.Comments.{IsComment, IsOpener, IsCloser}
use Rattle.ep_token.specs.Numbers.{digit_value, is_digit_of, IsNumeral, IsNumber}
use Rattle.ep_token.specs.Spellings.{place_of}
use Rattle.ep_token.specs.Symbols.{special_symbols, reference_spelling}
use Rattle.ep_token.specs.Words.{word_symbols}
use Rattle.ep_token.specs.Tokens.{Piece as Taken}
use Rattle.ep_token.specs.Tokens.{AreTaken, IsSpelled}
use Rattle.ep_pieces.specs.declared.piece.Piece.{Piece}
use Rattle.ep_pieces.specs.Pieces.{piece_of, pieces_of, comment_piece, comment_body, opener_length, closer_length, token_piece, written}
use Rattle.ep_pieces.proofs.Rows.{truth, spelled-comment, spelled-separator}
use Rattle.ep_pieces.proofs.Spellings.{bracket, close, caret, first}

-- ---- lower case

alphanumeric-lower : (b : ℕ) → is_ascii_alphanumeric (to_ascii_lowercase b) ≡ is_ascii_alphanumeric b
alphanumeric-lower b = grind (arith, nat_tests)

alphabetic-lower : (b : ℕ) → is_ascii_alphabetic (to_ascii_lowercase b) ≡ is_ascii_alphabetic b
alphabetic-lower b = grind (arith, nat_tests)

underscore-lower : (b : ℕ) → (to_ascii_lowercase b == 95) ≡ (b == 95)
underscore-lower b = grind (arith, nat_tests)

digit-lower : (b : ℕ) → digit_value (to_ascii_lowercase b) ≡ digit_value b
unfolding digit_value
digit-lower b = grind (arith, nat_tests)

lower-lower : (text : List ℕ) → lower_case (lower_case text) ≡ lower_case text
lower-lower [] = refl
lower-lower (b ∷ bs) = ap (λ x. x ∷ lower_case (lower_case bs)) (lowercase-lowercase b) ∙ ap (λ l. to_ascii_lowercase b ∷ l) (lower-lower bs)

length-lower : (text : List ℕ) → length (lower_case text) ≡ length text
length-lower [] = refl
length-lower (b ∷ bs) = omega (arith, length-lower bs)

lower-append : (xs ys : List ℕ) → lower_case (xs ++ ys) ≡ lower_case xs ++ lower_case ys
lower-append [] ys = refl
lower-append (x ∷ xs) ys = ap (λ l. to_ascii_lowercase x ∷ l) (lower-append xs ys)

rest-lower : (text : List ℕ) → is_identifier_rest (lower_case text) ≡ is_identifier_rest text
rest-lower [] = refl
rest-lower (c ∷ []) = alphanumeric-lower c
rest-lower (c ∷ d ∷ ds) =
    rw (alphanumeric-lower c, underscore-lower c, alphanumeric-lower d, rest-lower (d ∷ ds), rest-lower ds) refl

identifier-lower : (text : List ℕ) → is_identifier (lower_case text) ≡ is_identifier text
identifier-lower [] = refl
identifier-lower (c ∷ cs) = rw (alphabetic-lower c, rest-lower cs) refl

digits-lower : (radix : ℕ) (digits : List ℕ) → list_all (is_digit_of radix) (lower_case digits) ≡ list_all (is_digit_of radix) digits
digits-lower radix [] = refl
digits-lower radix (b ∷ bs) = rw (digit-lower b, digits-lower radix bs) refl

fold-lower : (radix from : ℕ) (digits : List ℕ) → fold (λ value b. value * radix + digit_value b) from (lower_case digits) ≡ fold (λ value b. value * radix + digit_value b) from digits
fold-lower radix from [] = refl
fold-lower radix from (b ∷ bs) =
    fold-lower radix (from * radix + digit_value (to_ascii_lowercase b)) bs
    ∙ ap (λ v. fold (λ value b. value * radix + digit_value b) (from * radix + v) bs) (digit-lower b)

some-lower : (digits : List ℕ) → digits ≢ [] → lower_case digits ≢ []
some-lower [] h e = h refl
some-lower (b ∷ bs) h e = absurd cc

numeral-lower : (radix : ℕ) (digits : List ℕ) (value : ℕ) → IsNumeral radix digits value → IsNumeral radix (lower_case digits) value
numeral-lower radix digits value n =
    record { some = some-lower digits n.some; each = digits-lower radix digits ∙ n.each; value_is = n.value_is ∙ sym (fold-lower radix 0 digits) }

number-lower : (text : List ℕ) (value : ℕ) → IsNumber text value → IsNumber (lower_case text) value
number-lower text value (inl n, h) = (inl (numeral-lower 10 text value n), h)
number-lower text value (inr r, h) = (
  inr (record {
    front = lower_case r.front;
    digits = lower_case r.digits;
    radix = r.radix;
    split = ap lower_case r.split ∙ lower-append r.front (35 ∷ r.digits);
    radix_is = numeral-lower 10 r.front r.radix r.radix_is;
    least = r.least;
    greatest = r.greatest;
    value_is = numeral-lower r.radix r.digits value r.value_is;
  }),
  h,
)

-- ---- symbols

bytes_same : (xs ys : List ℕ) → bytes_eq xs ys ≡ true → xs ≡ ys
bytes_same xs ys h = grind (arith, bytes_eq-Decides)

of-bracket : reference_spelling (91 ∷ []) ≡ 91 ∷ []
unfolding reference_spelling
of-bracket = refl

of-close : reference_spelling (93 ∷ []) ≡ 93 ∷ []
unfolding reference_spelling
of-close = refl

of-caret : reference_spelling (94 ∷ []) ≡ 94 ∷ []
unfolding reference_spelling
of-caret = refl

fixed : (text spelling : List ℕ) → reference_spelling text ≡ spelling → reference_spelling spelling ≡ spelling → reference_spelling (reference_spelling text) ≡ reference_spelling text
fixed text spelling e f = ap reference_spelling e ∙ f ∙ sym e

spelling-once : (text : List ℕ) → reference_spelling (reference_spelling text) ≡ reference_spelling text
spelling-once text =
    elim (truth (bytes_eq text (40 ∷ 46 ∷ []))) [
      | inl p ↦ fixed text (91 ∷ []) (bracket text _ refl p) of-bracket
      | inr p ↦ elim (truth (bytes_eq text (46 ∷ 41 ∷ []))) [
        | inl q ↦ fixed text (93 ∷ []) (close text _ _ refl refl p q) of-close
        | inr q ↦ elim (truth (bytes_eq text (64 ∷ []))) [
          | inl r ↦ fixed text (94 ∷ []) (caret text _ _ _ refl refl refl p q r) of-caret
          | inr r ↦ ap reference_spelling (first text _ _ _ refl refl refl p q r)
        ]
      ]
    ]

-- ---- comments

last-at : (xs ys : List ℕ) (i d : ℕ) → get_or (xs ++ ys) (length xs + i) d ≡ get_or ys i d
last-at xs ys i d = grind (arith, common_steps)

brace-closes : (opener body : List ℕ) → closer_length (opener ++ (body ++ 125 ∷ [])) ≡ 1
brace-closes opener body =
    let text : List ℕ = opener ++ (body ++ 125 ∷ []) in
    let whole : text ≡ (opener ++ body) ++ 125 ∷ [] = sym (append_assoc opener body (125 ∷ [])) in
    let at : length text - 1 ≡ length (opener ++ body) + 0 = omega (arith, ap length whole, length-append (opener ++ body) (125 ∷ [])) in
    let last : get_or text (length text - 1) 0 ≡ 125 = ap (λ k. get_or text k 0) at ∙ ap (λ l. get_or l (length (opener ++ body) + 0) 0) whole ∙ last-at (opener ++ body) (125 ∷ []) 0 0 in
    ap (λ b. cond (b == 125) 1 2) last

mark-closes : (opener body : List ℕ) → closer_length (opener ++ (body ++ 42 ∷ 41 ∷ [])) ≡ 2
mark-closes opener body =
    let text : List ℕ = opener ++ (body ++ 42 ∷ 41 ∷ []) in
    let whole : text ≡ (opener ++ body) ++ 42 ∷ 41 ∷ [] = sym (append_assoc opener body (42 ∷ 41 ∷ [])) in
    let at : length text - 1 ≡ length (opener ++ body) + 1 = omega (arith, ap length whole, length-append (opener ++ body) (42 ∷ 41 ∷ [])) in
    let last : get_or text (length text - 1) 0 ≡ 41 = ap (λ k. get_or text k 0) at ∙ ap (λ l. get_or l (length (opener ++ body) + 1) 0) whole ∙ last-at (opener ++ body) (42 ∷ 41 ∷ []) 1 0 in
    ap (λ b. cond (b == 125) 1 2) last

closer-is : (opener body closer : List ℕ) → IsCloser closer → closer_length (opener ++ (body ++ closer)) ≡ length closer
closer-is opener body closer (inl is) = ap (λ c. closer_length (opener ++ (body ++ c))) is ∙ brace-closes opener body ∙ ap length (sym is)
closer-is opener body closer (inr is) = ap (λ c. closer_length (opener ++ (body ++ c))) is ∙ mark-closes opener body ∙ ap length (sym is)

opener-is : (opener rest : List ℕ) → IsOpener opener → opener_length (opener ++ rest) ≡ length opener
opener-is opener rest (inl is) = ap (λ o. opener_length (o ++ rest)) is ∙ ap length (sym is)
opener-is opener rest (inr is) = ap (λ o. opener_length (o ++ rest)) is ∙ ap length (sym is)

-- the body of a comment is what stands between its marks
body-is : (text : List ℕ) (c : IsComment text) → comment_body text ≡ c.body
body-is text c =
    let whole : List ℕ = c.opener ++ (c.body ++ c.closer) in
    let mark = opener-is c.opener (c.body ++ c.closer) c.opens in
    let closed = closer-is c.opener c.body c.closer c.closes in
    let len : length whole - length c.opener - length c.closer ≡ length c.body = omega (arith, length-append c.opener (c.body ++ c.closer), length-append c.body c.closer) in
    ap comment_body c.text_is
    ∙ ap (λ k. take (length whole - k - closer_length whole) (drop k whole)) mark
    ∙ ap (λ k. take (length whole - length c.opener - k) (drop (length c.opener) whole)) closed
    ∙ ap (λ k. take k (drop (length c.opener) whole)) len
    ∙ ap (take (length c.body)) (drop_at c.opener (c.body ++ c.closer) (length c.opener) refl)
    ∙ take_at c.body c.closer (length c.body) refl

braced-comment : (body : List ℕ) → ((front other back : List ℕ) → IsCloser other → body ≡ front ++ (other ++ back) → ⊥) → IsComment (123 ∷ (body ++ 125 ∷ []))
braced-comment body h = record { opener = 123 ∷ []; body = body; closer = 125 ∷ []; text_is = refl; opens = inl refl; closes = inl refl; first = h }

-- ---- the piece as it is written

-- what a piece spells as it is written, which is the piece
pub record Spells (p : Piece) : Type 0 where
  pub kind : Option TokenKind
  pub spelled : IsSpelled (written p) kind
  pub is : piece_of (written p) kind ≡ Some p

-- the text of a token's piece spells the token
pub token-spelled : (text : List ℕ) (kind : TokenKind) → IsSpelled text (Some kind) → IsSpelled (token_piece text kind).text (Some kind)
token-spelled text (Word w) s = (identifier-lower text ∙ s.0, ap (place_of word_symbols) (lower-lower text) ∙ s.1)
token-spelled text (Id n) s =
    (identifier-lower text ∙ s.0, omega (arith, length-lower text, s.1), ap (place_of word_symbols) (lower-lower text) ∙ s.2, s.3 ∙ sym (lower-lower text))
token-spelled text (Number n) s = (s.0, number-lower text s.0 s.1, s.2)
token-spelled text (Str b) s = s
token-spelled text (Sym n) s = ap (place_of special_symbols) (spelling-once text) ∙ s

pub token-spells : (text : List ℕ) (kind : TokenKind) → IsSpelled text (Some kind) → Spells (token_piece text kind)
token-spells text (Word w) s =
    record { kind = Some (Word w); spelled = token-spelled text (Word w) s; is = ap (λ l. Some (record { kind = 0; text = l })) (lower-lower text) }
token-spells text (Id n) s =
    record { kind = Some (Id n); spelled = token-spelled text (Id n) s; is = ap (λ l. Some (record { kind = 1; text = l })) (lower-lower text) }
token-spells text (Number n) s =
    record { kind = Some (Number n); spelled = token-spelled text (Number n) s; is = ap (λ l. Some (record { kind = 2; text = l })) (lower-lower text) }
token-spells text (Str b) s = record { kind = Some (Str b); spelled = s; is = refl }
token-spells text (Sym n) s =
    record { kind = Some (Sym n); spelled = token-spelled text (Sym n) s; is = ap (λ l. Some (record { kind = 4; text = l })) (spelling-once text) }

braced-spells : (body : List ℕ) → IsComment (123 ∷ (body ++ 125 ∷ [])) → comment_body (123 ∷ (body ++ 125 ∷ [])) ≡ body → Spells (record { kind = 5; text = body })
braced-spells body c e = record { kind = None; spelled = inr c; is = ap (λ l. Some (record { kind = 5; text = l })) e }

pub comment-spells : (text : List ℕ) → IsComment text → Spells (comment_piece text)
unfolding braced-comment
comment-spells text c =
    let d = braced-comment c.body c.first in
    subst (λ l. Spells (record { kind = 5; text = l })) (sym (body-is text c)) (braced-spells c.body d (body-is (123 ∷ (c.body ++ 125 ∷ [])) d))

abbrev pub Each : List Piece → Type 0
Each [] = Unit {0}
Each (p ∷ ps) = Spells p × Each ps

each-comment : (text : List ℕ) (ps : List Piece) → IsSpelled text None → Each ps → Each (option_to_list (piece_of text None) ++ ps)
each-comment text ps s e =
    elim (long (length text)) [
      | inl h ↦
          let c = spelled-comment text s h in
          subst (λ b. Each (option_to_list (cond b (Some (comment_piece text)) None) ++ ps)) (sym c.1) (comment-spells text c.0, e)
      | inr h ↦ subst (λ o. Each (option_to_list o ++ ps)) (sym (spelled-separator text s h)) e
    ]
  where
    long : (n : ℕ) → (1 < n) ⊎ (n ≤ 1)
    long n = cases_lt 1 n

-- the pieces of what is taken spell what they are
pub each-of : (bytes : List ℕ) (row : List Taken) (rest : List ℕ) → AreTaken bytes row rest → Each (pieces_of bytes row)
each-of bytes [] rest a = tt
each-of bytes ((n, None) ∷ row) rest a = each-comment (take n bytes) (pieces_of (drop n bytes) row) a.0.can.spelled (each-of (drop n bytes) row rest a.1)
each-of bytes ((n, Some k) ∷ row) rest a = (token-spells (take n bytes) k a.0.can.spelled, each-of (drop n bytes) row rest a.1)
