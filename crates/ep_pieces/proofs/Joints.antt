-- Where two pieces join, or a separating byte stands behind a piece, the piece ends there.
use Rattle.std.proofs.Common.{◌≡◌, ℕ, ◌<◌, Bool, true, false, not, ◌&&◌, ◌||◌, ◌==◌, cond, ◌⊎◌, inl, inr, List, [], ◌∷◌, ◌++◌, length, Option, Some, None, refl, sym, ap, subst, ◌∙◌, arith}
use Rattle.std.specs.List.{list_all}
use Rattle.std.specs.Char.{is_ascii_alphabetic, is_ascii_digit}
use Rattle.std.specs.Str.{bytes_eq}
use Rattle.std.proofs.lemmas.Bool.Decides.{nat_tests}
use Rattle.std.proofs.lemmas.Slice.Eq.{bytes_eq-Decides}
use Rattle.ep_base.specs.Identifiers.{is_identifier, is_identifier_rest}
use Rattle.ep_token.specs.declared.token.TokenKind.{TokenKind}
use Rattle.ep_token.specs.declared.token.TokenKind.TheVariants.{Word, Id, Number, Str, Sym}
use Rattle.ep_token.specs.Comments.{opens_comment}
use Rattle.ep_token.specs.Numbers.{continues_number}
use Rattle.ep_token.specs.Spellings.{place_of}
use Rattle.ep_token.specs.Symbols.{special_symbols, reference_spelling}
use Rattle.ep_token.specs.Tokens.{IsTaken, IsSpelled, begins, is_separator}
use Rattle.ep_token.specs.Reading.{symbol_of}
use Rattle.ep_pieces.specs.declared.piece.Piece.{Piece}
use Rattle.ep_pieces.specs.Pieces.{piece_of, comment_piece, token_piece, written}
use Rattle.ep_pieces.specs.Joining.{is_symbol, is_word, opens, closes, begins_apart, joins_end, joins_opener, joins_selector, joins_name, joined}
use Rattle.ep_pieces.specs.Joining.{is_identifier as is_identifier_piece}
use Rattle.ep_pieces.proofs.Rows.{truth, and-parts}
use Rattle.ep_pieces.proofs.Spellings.{first}
use Rattle.ep_pieces.proofs.Canonical.{Spells}
use Rattle.ep_pieces.proofs.Fronts.{IsBounded, name_byte, is_some, glues, goes_on, is_symbol_text, all_symbols, place-test, longest-name, front-taken, name-bounded, number-bounded, number-digit, string-bounded, symbol-bounded, comment-bounded}

bytes_same : (xs ys : List ℕ) → bytes_eq xs ys ≡ true → xs ≡ ys
bytes_same xs ys h = grind (arith, bytes_eq-Decides)

some_is : (p q : Piece) → Some p ≡ Some q → p ≡ q
some_is p q e = cc

no_piece : (p : Piece) → None ≡ Some p → ⊥
no_piece p e = cc

not-true : (b : Bool) → not b ≡ true → b ≡ false
not-true true h = absurd cc
not-true false h = refl

or-cases : (a b : Bool) → (a || b) ≡ true → (a ≡ true) ⊎ (b ≡ true)
or-cases true b h = inl refl
or-cases false b h = inr h

or-parts : (a b : Bool) → (a || b) ≡ false → (a ≡ false) × (b ≡ false)
or-parts true b h = absurd cc
or-parts false b h = (refl, h)

no-truth : (b : Bool) → b ≡ true → b ≡ false → ⊥
no-truth b h k = cc

-- ---- a piece is taken where it is written

-- a piece that spells no comment is written as its text
plain-written : (p : Piece) (k : ℕ) → p.kind ≡ k → (k == 5) ≡ false → written p ≡ p.text
plain-written p k e h = rw (e, h) refl

comment-written : (p : Piece) → p.kind ≡ 5 → written p ≡ 123 ∷ (p.text ++ 125 ∷ [])
comment-written p e = rw e refl

comment-is : (p : Piece) → piece_of (written p) None ≡ Some p → written p ≡ 123 ∷ (p.text ++ 125 ∷ [])
comment-is p e =
    elim (truth (opens_comment (written p))) [
      | inl h ↦ comment-written p (sym (ap (λ (q : Piece). q.kind) (some_is (comment_piece (written p)) p (sym (ap (λ b. cond b (Some (comment_piece (written p))) None) h) ∙ e))))
      | inr h ↦ absurd (no_piece p (sym (ap (λ b. cond b (Some (comment_piece (written p))) None) h) ∙ e))
    ]

symbol-is : (p : Piece) (n : ℕ) → piece_of (written p) (Some (Sym n)) ≡ Some p → (p.kind ≡ 4) × (written p ≡ p.text) × (reference_spelling (written p) ≡ written p)
symbol-is p n e =
    let q = some_is (token_piece (written p) (Sym n)) p e in
    let kind : p.kind ≡ 4 = sym (ap (λ (r : Piece). r.kind) q) in
    let text : written p ≡ p.text = plain-written p 4 kind refl in
    (kind, text, ap (λ (r : Piece). r.text) q ∙ sym text)

symbol-text : (text : List ℕ) (n : ℕ) → IsSpelled text (Some (Sym n)) → reference_spelling text ≡ text → is_symbol_text text ≡ true
symbol-text text n s e = place-test is_symbol_text special_symbols 0 n text all_symbols (ap (place_of special_symbols) (sym e) ∙ s)

identifier-some : (text : List ℕ) → is_identifier text ≡ true → 0 < length text
identifier-some [] h = absurd cc
identifier-some (b ∷ bs) h = omega arith

digit-some : (text : List ℕ) → begins is_ascii_digit text ≡ true → 0 < length text
digit-some [] h = absurd cc
digit-some (b ∷ bs) h = omega arith

symbol-some : (text : List ℕ) → is_symbol_text text ≡ true → 0 < length text
unfolding is_symbol_text
symbol-some [] h = absurd cc
symbol-some (b ∷ bs) h = omega arith

symbol-ends : (text rest : List ℕ) → begins (glues text) rest ≡ false → text ≡ 40 ∷ [] → begins (λ b. b == 42) rest ≡ false
symbol-ends text [] h e = refl
symbol-ends text (b ∷ rest) h e =
    let opened : bytes_eq text (40 ∷ []) ≡ true = ap (λ t. bytes_eq t (40 ∷ [])) e in
    let k = (or-parts (is_some (symbol_of (text ++ b ∷ []))) (b == 42 && bytes_eq text (40 ∷ [])) h).1 in
    and-true (b == 42) (rw opened at k)
  where
    and-true : (a : Bool) → (a && true) ≡ false → a ≡ false
    and-true true h = h
    and-true false h = refl

spelled-taken : (p : Piece) (rest : List ℕ) (kind : Option TokenKind) → IsSpelled (written p) kind → piece_of (written p) kind ≡ Some p → begins (goes_on kind (written p)) rest ≡ false → (0 < length (written p)) × IsTaken (written p ++ rest) (length (written p)) kind
spelled-taken p rest None s e g =
    let text = comment-is p e in
    let some : 0 < length (written p) = omega (arith, ap length text) in
    (some, front-taken (written p) rest None some s tt (subst (λ t. IsBounded t rest) (sym text) (comment-bounded p.text rest)))
spelled-taken p rest (Some (Word w)) s e g =
    let some = identifier-some (written p) s.0 in
    (some, front-taken (written p) rest (Some (Word w)) some s (longest-name (written p) rest g) (name-bounded (written p) rest s.0 g))
spelled-taken p rest (Some (Id n)) s e g =
    let some = identifier-some (written p) s.0 in
    (some, front-taken (written p) rest (Some (Id n)) some s (longest-name (written p) rest g) (name-bounded (written p) rest s.0 g))
spelled-taken p rest (Some (Number n)) s e g =
    let digit = number-digit (written p) s.0 s.1 in
    let some = digit-some (written p) digit in
    (some, front-taken (written p) rest (Some (Number n)) some s g (number-bounded (written p) rest digit g))
spelled-taken p rest (Some (Str b)) s e g =
    let some : 0 < length (written p) = omega (arith, ap length s.text_is) in
    (some, front-taken (written p) rest (Some (Str b)) some s tt (string-bounded (written p) rest b s g))
spelled-taken p rest (Some (Sym n)) s e g =
    let text = symbol-text (written p) n s (symbol-is p n e).2 in
    let some = symbol-some (written p) text in
    (some, front-taken (written p) rest (Some (Sym n)) some s (symbol-ends (written p) rest g) (symbol-bounded (written p) rest text g))

-- a piece is taken where it is written, if what stands behind does not go on with it
pub piece-front : (p : Piece) (s : Spells p) (rest : List ℕ) → begins (goes_on s.kind (written p)) rest ≡ false → (0 < length (written p)) × IsTaken (written p ++ rest) (length (written p)) s.kind
piece-front p s rest g = spelled-taken p rest s.kind s.spelled s.is g

-- ---- the bytes that end a symbol of two bytes, or open a comment behind one

unfoldable ends_symbol : ℕ → Bool
ends_symbol b = b == 60 || b == 61 || b == 62 || b == 46 || b == 41 || b == 42

unfoldable last_ok : List ℕ → Bool
last_ok [] = true
last_ok (x ∷ []) = true
last_ok (x ∷ y ∷ []) = ends_symbol y
last_ok (x ∷ y ∷ z ∷ zs) = false

all_last : list_all last_ok special_symbols ≡ true
unfolding last_ok ends_symbol special_symbols
all_last = refl

last-mark : (last_ok (40 ∷ 46 ∷ []) ≡ true) × (last_ok (46 ∷ 41 ∷ []) ≡ true) × (last_ok (64 ∷ []) ≡ true)
unfolding last_ok ends_symbol
last-mark = (refl, refl, refl)

symbol-last : (text : List ℕ) (w : ℕ) → symbol_of text ≡ Some w → last_ok text ≡ true
symbol-last text w e =
    elim (truth (bytes_eq text (40 ∷ 46 ∷ []))) [
      | inl p ↦ ap last_ok (bytes_same text (40 ∷ 46 ∷ []) p) ∙ last-mark.0
      | inr p ↦ elim (truth (bytes_eq text (46 ∷ 41 ∷ []))) [
        | inl q ↦ ap last_ok (bytes_same text (46 ∷ 41 ∷ []) q) ∙ last-mark.1
        | inr q ↦ elim (truth (bytes_eq text (64 ∷ []))) [
          | inl r ↦ ap last_ok (bytes_same text (64 ∷ []) r) ∙ last-mark.2
          | inr r ↦ place-test last_ok special_symbols 0 w text all_last (ap (place_of special_symbols) (sym (first text _ _ _ refl refl refl p q r)) ∙ e)
        ]
      ]
    ]

last-byte : (text : List ℕ) (b : ℕ) → 0 < length text → last_ok (text ++ b ∷ []) ≡ true → ends_symbol b ≡ true
unfolding last_ok
last-byte [] b h e = absurd (omega arith)
last-byte (x ∷ []) b h e = e
last-byte (x ∷ y ∷ []) b h e = absurd cc
last-byte (x ∷ y ∷ z ∷ zs) b h e = absurd cc

no-symbol : (text : List ℕ) (b : ℕ) (o : Option ℕ) → symbol_of (text ++ b ∷ []) ≡ o → 0 < length text → ends_symbol b ≡ false → is_some o ≡ false
no-symbol text b None e h k = refl
no-symbol text b (Some w) e h k = absurd (no-truth (ends_symbol b) (last-byte text b h (symbol-last (text ++ b ∷ []) w e)) k)

ends-star : (b : ℕ) → ends_symbol b ≡ false → (b == 42) ≡ false
unfolding ends_symbol
ends-star b h = grind (arith, nat_tests)

-- no other byte goes on with a symbol
no-glue : (text : List ℕ) (b : ℕ) → 0 < length text → ends_symbol b ≡ false → glues text b ≡ false
no-glue text b h k = rw (no-symbol text b (symbol_of (text ++ b ∷ [])) refl h k, ends-star b k) refl

-- ---- separating bytes

separator-name : (b : ℕ) → is_separator b ≡ true → name_byte b ≡ false
unfolding is_separator
separator-name b h = grind (arith, nat_tests)

separator-number : (b : ℕ) → is_separator b ≡ true → continues_number b ≡ false
unfolding is_separator continues_number
separator-number b h = grind (arith, nat_tests)

separator-quote : (b : ℕ) → is_separator b ≡ true → (b == 39) ≡ false
unfolding is_separator
separator-quote b h = grind (arith, nat_tests)

separator-symbol : (b : ℕ) → is_separator b ≡ true → ends_symbol b ≡ false
unfolding is_separator ends_symbol
separator-symbol b h = grind (arith, nat_tests)

separator-goes : (p : Piece) (b : ℕ) (kind : Option TokenKind) → IsSpelled (written p) kind → piece_of (written p) kind ≡ Some p → is_separator b ≡ true → goes_on kind (written p) b ≡ false
separator-goes p b None s e h = refl
separator-goes p b (Some (Word w)) s e h = separator-name b h
separator-goes p b (Some (Id n)) s e h = separator-name b h
separator-goes p b (Some (Number n)) s e h = separator-number b h
separator-goes p b (Some (Str t)) s e h = separator-quote b h
separator-goes p b (Some (Sym n)) s e h = no-glue (written p) b (symbol-some (written p) (symbol-text (written p) n s (symbol-is p n e).2)) (separator-symbol b h)

-- no separating byte goes on with a piece
pub separator-ends : (p : Piece) (s : Spells p) (b : ℕ) (rest : List ℕ) → is_separator b ≡ true → begins (goes_on s.kind (written p)) (b ∷ rest) ≡ false
separator-ends p s b rest h = separator-goes p b s.kind s.spelled s.is h

-- ---- the bytes with which the second of two pieces begins that join

-- what a piece is that spells this: a symbol, or a byte that no other piece goes on with does not go on with it
unfoldable is_plain : ℕ → Bool
is_plain b = not (name_byte b) && not (continues_number b) && not (b == 39)

abbrev IsSymbolOf : Piece → Option TokenKind → Type 0
IsSymbolOf p kind = (n : ℕ) × (kind ≡ Some (Sym n)) × (p.kind ≡ 4) × (written p ≡ p.text) × (place_of special_symbols p.text ≡ Some n)

symbol-of : (p : Piece) (n : ℕ) → IsSpelled (written p) (Some (Sym n)) → piece_of (written p) (Some (Sym n)) ≡ Some p → IsSymbolOf p (Some (Sym n))
symbol-of p n s e =
    let is = symbol-is p n e in
    (n, refl, is.0, is.1, ap (place_of special_symbols) (sym is.1 ∙ sym is.2) ∙ s)

plain-goes : (p : Piece) (b : ℕ) (kind : Option TokenKind) → IsSpelled (written p) kind → piece_of (written p) kind ≡ Some p → is_plain b ≡ true → IsSymbolOf p kind ⊎ (goes_on kind (written p) b ≡ false)
unfolding is_plain
plain-goes p b None s e h = inr refl
plain-goes p b (Some (Word w)) s e h =
    let k = and-parts (not (name_byte b) && not (continues_number b)) (not (b == 39)) h in
    inr (not-true (name_byte b) (and-parts (not (name_byte b)) (not (continues_number b)) k.0).0)
plain-goes p b (Some (Id n)) s e h =
    let k = and-parts (not (name_byte b) && not (continues_number b)) (not (b == 39)) h in
    inr (not-true (name_byte b) (and-parts (not (name_byte b)) (not (continues_number b)) k.0).0)
plain-goes p b (Some (Number n)) s e h =
    let k = and-parts (not (name_byte b) && not (continues_number b)) (not (b == 39)) h in
    inr (not-true (continues_number b) (and-parts (not (name_byte b)) (not (continues_number b)) k.0).1)
plain-goes p b (Some (Str t)) s e h = inr (not-true (b == 39) (and-parts (not (name_byte b) && not (continues_number b)) (not (b == 39)) h).1)
plain-goes p b (Some (Sym n)) s e h = inl (symbol-of p n s e)

-- a symbol's byte behind a piece that is a symbol
symbol-goes : (p : Piece) (b : ℕ) (s : Spells p) → IsSymbolOf p s.kind → glues p.text b ≡ false → goes_on s.kind (written p) b ≡ false
symbol-goes p b s is g = ap (λ k. goes_on k (written p) b) is.1 ∙ ap (λ t. glues t b) is.3 ∙ g

place-some : (text : List ℕ) (n : ℕ) → place_of special_symbols text ≡ Some n → 0 < length text
place-some text n e = symbol-some text (place-test is_symbol_text special_symbols 0 n text all_symbols e)

-- a byte that ends no symbol
byte-goes : (p : Piece) (b : ℕ) (s : Spells p) → is_plain b ≡ true → ends_symbol b ≡ false → goes_on s.kind (written p) b ≡ false
byte-goes p b s plain ends =
    elim (plain-goes p b s.kind s.spelled s.is plain) [
      | inl is ↦ symbol-goes p b s is (no-glue p.text b (place-some p.text is.0 is.4) ends)
      | inr apart ↦ apart
    ]

abbrev Plain : ℕ → Type 0
Plain b = (is_plain b ≡ true) × (ends_symbol b ≡ false)

colon : Plain 58
unfolding is_plain ends_symbol continues_number
colon = (refl, refl)

comma : Plain 44
unfolding is_plain ends_symbol continues_number
comma = (refl, refl)

semicolon : Plain 59
unfolding is_plain ends_symbol continues_number
semicolon = (refl, refl)

bracket-close : Plain 93
unfolding is_plain ends_symbol continues_number
bracket-close = (refl, refl)

parenthesis-open : Plain 40
unfolding is_plain ends_symbol continues_number
parenthesis-open = (refl, refl)

bracket-open : Plain 91
unfolding is_plain ends_symbol continues_number
bracket-open = (refl, refl)

caret : Plain 94
unfolding is_plain ends_symbol continues_number
caret = (refl, refl)

parenthesis-plain : is_plain 41 ≡ true
unfolding is_plain continues_number
parenthesis-plain = refl

period-plain : is_plain 46 ≡ true
unfolding is_plain continues_number
period-plain = refl

symbol-written : (q : Piece) (text : List ℕ) → is_symbol text q ≡ true → (q.kind ≡ 4) × (q.text ≡ text) × (written q ≡ text)
symbol-written q text h =
    let parts = and-parts (q.kind == 4) (bytes_eq q.text text) h in
    let kind : q.kind ≡ 4 = kind-is q.kind parts.0 in
    let same = bytes_same q.text text parts.1 in
    (kind, same, plain-written q 4 kind refl ∙ same)
  where
    kind-is : (k : ℕ) → (k == 4) ≡ true → k ≡ 4
    kind-is k h = grind (arith, nat_tests)

-- the second piece begins with this byte
ends-by : (p q : Piece) (s : Spells p) (more : List ℕ) (b : ℕ) → is_symbol (b ∷ []) q ≡ true → goes_on s.kind (written p) b ≡ false → begins (goes_on s.kind (written p)) (written q ++ more) ≡ false
ends-by p q s more b h g = ap (λ (l : List ℕ). begins (goes_on s.kind (written p)) (l ++ more)) (symbol-written q (b ∷ []) h).2 ∙ g

-- ---- `)` behind what is not `.`

unfoldable close_ok : List ℕ → Bool
close_ok text = not (glues text 41) || bytes_eq text (46 ∷ [])

all_close : list_all close_ok special_symbols ≡ true
unfolding close_ok special_symbols reference_spelling
all_close = refl

close-text : (text : List ℕ) (n : ℕ) → place_of special_symbols text ≡ Some n → bytes_eq text (46 ∷ []) ≡ false → glues text 41 ≡ false
unfolding close_ok
close-text text n e h =
    let ok : close_ok text ≡ true = place-test close_ok special_symbols 0 n text all_close e in
    elim (or-cases (not (glues text 41)) (bytes_eq text (46 ∷ [])) ok) [
      | inl k ↦ not-true (glues text 41) k
      | inr k ↦ absurd (no-truth (bytes_eq text (46 ∷ [])) k h)
    ]

four : (4 == 4) ≡ true
four = refl

no-period : (p : Piece) → p.kind ≡ 4 → is_symbol (46 ∷ []) p ≡ false → bytes_eq p.text (46 ∷ []) ≡ false
no-period p e h = sym (rw e refl) ∙ h

close-goes : (p : Piece) (s : Spells p) → is_symbol (46 ∷ []) p ≡ false → goes_on s.kind (written p) 41 ≡ false
close-goes p s h =
    elim (plain-goes p 41 s.kind s.spelled s.is parenthesis-plain) [
      | inl is ↦ symbol-goes p 41 s is (close-text p.text is.0 is.4 (no-period p is.2 h))
      | inr apart ↦ apart
    ]

-- ---- `.` behind `)`, `]` or `^`

glue-period : (glues (41 ∷ []) 46 ≡ false) × (glues (93 ∷ []) 46 ≡ false) × (glues (94 ∷ []) 46 ≡ false)
unfolding special_symbols reference_spelling
glue-period = (refl, refl, refl)

abbrev selects : Piece → Bool
selects p = (is_identifier_piece p || closes p || is_symbol (94 ∷ []) p) || is_word (101 ∷ 110 ∷ 100 ∷ []) p

other-kind : (k : ℕ) → k ≡ 4 → ((k == 1) ≡ false) × ((k == 0) ≡ false)
other-kind k e = rw e (refl, refl)

symbol-period : (p : Piece) → p.kind ≡ 4 → selects p ≡ true → glues p.text 46 ≡ false
symbol-period p e h =
    elim (or-cases (is_identifier_piece p || closes p || is_symbol (94 ∷ []) p) (is_word (101 ∷ 110 ∷ 100 ∷ []) p) h) [
      | inl k ↦ elim (or-cases (is_identifier_piece p || closes p) (is_symbol (94 ∷ []) p) k) [
        | inl l ↦ elim (or-cases (is_identifier_piece p) (closes p) l) [
          | inl m ↦ absurd (no-truth (p.kind == 1) m (other-kind p.kind e).0)
          | inr m ↦ elim (or-cases (is_symbol (41 ∷ []) p) (is_symbol (93 ∷ []) p) m) [
            | inl n ↦ ap (λ t. glues t 46) (symbol-written p (41 ∷ []) n).1 ∙ glue-period.0
            | inr n ↦ ap (λ t. glues t 46) (symbol-written p (93 ∷ []) n).1 ∙ glue-period.1
          ]
        ]
        | inr l ↦ ap (λ t. glues t 46) (symbol-written p (94 ∷ []) l).1 ∙ glue-period.2
      ]
      | inr k ↦ absurd (no-truth (p.kind == 0) (and-parts (p.kind == 0) (bytes_eq p.text (101 ∷ 110 ∷ 100 ∷ [])) k).0 (other-kind p.kind e).1)
    ]

period-goes : (p : Piece) (s : Spells p) → selects p ≡ true → goes_on s.kind (written p) 46 ≡ false
period-goes p s h =
    elim (plain-goes p 46 s.kind s.spelled s.is period-plain) [
      | inl is ↦ symbol-goes p 46 s is (symbol-period p is.2 h)
      | inr apart ↦ apart
    ]

-- ---- what is a symbol by its kind

kind-symbol : (p : Piece) (kind : Option TokenKind) → IsSpelled (written p) kind → piece_of (written p) kind ≡ Some p → p.kind ≡ 4 → IsSymbolOf p kind
kind-symbol p None s e h =
    elim (truth (opens_comment (written p))) [
      | inl o ↦ let k : 5 ≡ p.kind = ap (λ (q : Piece). q.kind) (some_is (comment_piece (written p)) p (sym (ap (λ b. cond b (Some (comment_piece (written p))) None) o) ∙ e)) in absurd (omega (arith, h, k))
      | inr o ↦ absurd (no_piece p (sym (ap (λ b. cond b (Some (comment_piece (written p))) None) o) ∙ e))
    ]
kind-symbol p (Some (Word w)) s e h = let k : 0 ≡ p.kind = ap (λ (q : Piece). q.kind) (some_is (token_piece (written p) (Word w)) p e) in absurd (omega (arith, h, k))
kind-symbol p (Some (Id n)) s e h = let k : 1 ≡ p.kind = ap (λ (q : Piece). q.kind) (some_is (token_piece (written p) (Id n)) p e) in absurd (omega (arith, h, k))
kind-symbol p (Some (Number n)) s e h = let k : 2 ≡ p.kind = ap (λ (q : Piece). q.kind) (some_is (token_piece (written p) (Number n)) p e) in absurd (omega (arith, h, k))
kind-symbol p (Some (Str t)) s e h = let k : 3 ≡ p.kind = ap (λ (q : Piece). q.kind) (some_is (token_piece (written p) (Str t)) p e) in absurd (omega (arith, h, k))
kind-symbol p (Some (Sym n)) s e h = symbol-of p n s e

-- ---- behind `(` and `[`

glue-parenthesis : (b : ℕ) → (b == 42) ≡ false → (b == 46) ≡ false → glues (40 ∷ []) b ≡ false
unfolding special_symbols reference_spelling
glue-parenthesis b h k = rw (h, k) refl

and-false : (b : Bool) → (b && false) ≡ false
and-false true = refl
and-false false = refl

glue-bracket : (b : ℕ) → glues (91 ∷ []) b ≡ false
unfolding special_symbols reference_spelling
glue-bracket b = and-false (b == 42)

glue-opener : (p : Piece) (b : ℕ) → opens p ≡ true → (b == 42 || b == 46) ≡ false → glues p.text b ≡ false
glue-opener p b h k =
    let apart = or-parts (b == 42) (b == 46) k in
    elim (or-cases (is_symbol (40 ∷ []) p) (is_symbol (91 ∷ []) p) h) [
      | inl o ↦ ap (λ t. glues t b) (symbol-written p (40 ∷ []) o).1 ∙ glue-parenthesis b apart.0 apart.1
      | inr o ↦ ap (λ t. glues t b) (symbol-written p (91 ∷ []) o).1 ∙ glue-bracket b
    ]

opener-symbol : (p : Piece) → opens p ≡ true → p.kind ≡ 4
opener-symbol p h =
    elim (or-cases (is_symbol (40 ∷ []) p) (is_symbol (91 ∷ []) p) h) [
      | inl o ↦ (symbol-written p (40 ∷ []) o).0
      | inr o ↦ (symbol-written p (91 ∷ []) o).0
    ]

opener-ends : (p : Piece) (s : Spells p) (text more : List ℕ) → 0 < length text → opens p ≡ true → begins (λ b. b == 42 || b == 46) text ≡ false → begins (goes_on s.kind (written p)) (text ++ more) ≡ false
opener-ends p s [] more h o a = absurd (omega arith)
opener-ends p s (b ∷ bs) more h o a = symbol-goes p b s (kind-symbol p s.kind s.spelled s.is (opener-symbol p o)) (glue-opener p b o a)

-- ---- a name behind `.` or `^`

letter-apart : (b : ℕ) → is_ascii_alphabetic b ≡ true → ((b == 42) ≡ false) × ((b == 41) ≡ false) × ((46 == b) ≡ false) × (ends_symbol b ≡ false)
unfolding ends_symbol
letter-apart b h = (grind (arith, nat_tests), grind (arith, nat_tests), grind (arith, nat_tests), grind (arith, nat_tests))

name-ends : (p : Piece) (s : Spells p) (text more : List ℕ) → is_identifier text ≡ true → (is_symbol (46 ∷ []) p || is_symbol (94 ∷ []) p) ≡ true → begins (goes_on s.kind (written p)) (text ++ more) ≡ false
name-ends p s [] more i h = absurd cc
name-ends p s (b ∷ bs) more i h =
    let letter = letter-apart b (and-parts (is_ascii_alphabetic b) (is_identifier_rest bs) i).0 in
    let kind : p.kind ≡ 4 = elim (or-cases (is_symbol (46 ∷ []) p) (is_symbol (94 ∷ []) p) h) [
      | inl o ↦ (symbol-written p (46 ∷ []) o).0
      | inr o ↦ (symbol-written p (94 ∷ []) o).0
    ] in
    let is = kind-symbol p s.kind s.spelled s.is kind in
    symbol-goes p b s is (no-glue p.text b (place-some p.text is.0 is.4) letter.3)

identifier-text : (q : Piece) (kind : Option TokenKind) → IsSpelled (written q) kind → piece_of (written q) kind ≡ Some q → q.kind ≡ 1 → is_identifier (written q) ≡ true
identifier-text q None s e h =
    elim (truth (opens_comment (written q))) [
      | inl o ↦ let k : 5 ≡ q.kind = ap (λ (q : Piece). q.kind) (some_is (comment_piece (written q)) q (sym (ap (λ b. cond b (Some (comment_piece (written q))) None) o) ∙ e)) in absurd (omega (arith, h, k))
      | inr o ↦ absurd (no_piece q (sym (ap (λ b. cond b (Some (comment_piece (written q))) None) o) ∙ e))
    ]
identifier-text q (Some (Word w)) s e h = s.0
identifier-text q (Some (Id n)) s e h = s.0
identifier-text q (Some (Number n)) s e h = let k : 2 ≡ q.kind = ap (λ (q : Piece). q.kind) (some_is (token_piece (written q) (Number n)) q e) in absurd (omega (arith, h, k))
identifier-text q (Some (Str t)) s e h = let k : 3 ≡ q.kind = ap (λ (q : Piece). q.kind) (some_is (token_piece (written q) (Str t)) q e) in absurd (omega (arith, h, k))
identifier-text q (Some (Sym n)) s e h = let k : 4 ≡ q.kind = ap (λ (q : Piece). q.kind) (some_is (token_piece (written q) (Sym n)) q e) in absurd (omega (arith, h, k))

one-is : (k : ℕ) → (k == 1) ≡ true → k ≡ 1
one-is k h = grind (arith, nat_tests)

-- ---- two pieces that join

end-joint : (p q : Piece) (s : Spells p) (more : List ℕ) → joins_end p q ≡ true → begins (goes_on s.kind (written p)) (written q ++ more) ≡ false
end-joint p q s more h =
    elim (or-cases (is_symbol (58 ∷ []) q) ((is_symbol (44 ∷ []) q || is_symbol (59 ∷ []) q || closes q) && not (is_symbol (46 ∷ []) p || is_symbol (42 ∷ []) p)) h) [
      | inl k ↦ ends-by p q s more 58 k (byte-goes p 58 s colon.0 colon.1)
      | inr k ↦
          let both = and-parts (is_symbol (44 ∷ []) q || is_symbol (59 ∷ []) q || closes q) (not (is_symbol (46 ∷ []) p || is_symbol (42 ∷ []) p)) k in
          let apart = or-parts (is_symbol (46 ∷ []) p) (is_symbol (42 ∷ []) p) (not-true _ both.1) in
          elim (or-cases (is_symbol (44 ∷ []) q || is_symbol (59 ∷ []) q) (closes q) both.0) [
            | inl l ↦ elim (or-cases (is_symbol (44 ∷ []) q) (is_symbol (59 ∷ []) q) l) [
              | inl m ↦ ends-by p q s more 44 m (byte-goes p 44 s comma.0 comma.1)
              | inr m ↦ ends-by p q s more 59 m (byte-goes p 59 s semicolon.0 semicolon.1)
            ]
            | inr l ↦ elim (or-cases (is_symbol (41 ∷ []) q) (is_symbol (93 ∷ []) q) l) [
              | inl m ↦ ends-by p q s more 41 m (close-goes p s apart.0)
              | inr m ↦ ends-by p q s more 93 m (byte-goes p 93 s bracket-close.0 bracket-close.1)
            ]
          ]
    ]

selector-joint : (p q : Piece) (s : Spells p) (more : List ℕ) → joins_selector p q ≡ true → begins (goes_on s.kind (written p)) (written q ++ more) ≡ false
selector-joint p q s more h =
    elim (or-cases ((opens q || is_symbol (46 ∷ []) q || is_symbol (94 ∷ []) q) && (is_identifier_piece p || closes p || is_symbol (94 ∷ []) p)) (is_word (101 ∷ 110 ∷ 100 ∷ []) p && is_symbol (46 ∷ []) q) h) [
      | inl k ↦
          let both = and-parts (opens q || is_symbol (46 ∷ []) q || is_symbol (94 ∷ []) q) (is_identifier_piece p || closes p || is_symbol (94 ∷ []) p) k in
          elim (or-cases (opens q || is_symbol (46 ∷ []) q) (is_symbol (94 ∷ []) q) both.0) [
            | inl l ↦ elim (or-cases (opens q) (is_symbol (46 ∷ []) q) l) [
              | inl m ↦ elim (or-cases (is_symbol (40 ∷ []) q) (is_symbol (91 ∷ []) q) m) [
                | inl n ↦ ends-by p q s more 40 n (byte-goes p 40 s parenthesis-open.0 parenthesis-open.1)
                | inr n ↦ ends-by p q s more 91 n (byte-goes p 91 s bracket-open.0 bracket-open.1)
              ]
              | inr m ↦ ends-by p q s more 46 m (period-goes p s (rw both.1 refl))
            ]
            | inr l ↦ ends-by p q s more 94 l (byte-goes p 94 s caret.0 caret.1)
          ]
      | inr k ↦
          let both = and-parts (is_word (101 ∷ 110 ∷ 100 ∷ []) p) (is_symbol (46 ∷ []) q) k in
          ends-by p q s more 46 both.1 (period-goes p s (or-right (is_identifier_piece p || closes p || is_symbol (94 ∷ []) p) (is_word (101 ∷ 110 ∷ 100 ∷ []) p) both.0))
    ]
  where
    or-right : (a b : Bool) → b ≡ true → (a || b) ≡ true
    or-right true b h = refl
    or-right false b h = h

-- where two pieces join, the second does not go on with the first
pub joint : (p q : Piece) (s : Spells p) (t : Spells q) (more : List ℕ) → 0 < length (written q) → joined p q ≡ true → begins (goes_on s.kind (written p)) (written q ++ more) ≡ false
unfolding joined
joint p q s t more some h =
    elim (or-cases (joins_end p q || joins_opener p q || joins_selector p q) (joins_name p q) h) [
      | inl k ↦ elim (or-cases (joins_end p q || joins_opener p q) (joins_selector p q) k) [
        | inl l ↦ elim (or-cases (joins_end p q) (joins_opener p q) l) [
          | inl m ↦ end-joint p q s more m
          | inr m ↦
              let both = and-parts (opens p) (not (begins_apart q)) m in
              opener-ends p s (written q) more some both.0 (not-true _ both.1)
        ]
        | inr l ↦ selector-joint p q s more l
      ]
      | inr k ↦
          let both = and-parts (is_symbol (46 ∷ []) p || is_symbol (94 ∷ []) p) (is_identifier_piece q) k in
          name-ends p s (written q) more (identifier-text q t.kind t.spelled t.is (one-is q.kind both.1)) both.0
    ]
