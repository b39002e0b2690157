-- What is read at a place can be taken there, and nothing longer can; where nothing is read, the cause is right.
use Rattle.std.proofs.Common.{◌≡◌, ◌≢◌, ℕ, zero, suc, ◌+◌, ◌<◌, ◌≤◌, pos, Bool, true, false, ◌&&◌, ◌==◌, nat_lt, nat_le, inl, inr, List, [], ◌∷◌, ◌++◌, length, take, drop, get_or, Option, Some, None, Result, Ok, Err, refl, sym, ap, subst, ◌∙◌, arith, length-append, append_assoc, take-append-drop, length-take-le}
use Rattle.std.specs.Prelude.{All}
use Rattle.std.specs.List.{list_all, prefix_len}
use Rattle.std.specs.Char.{is_ascii_alphabetic, is_ascii_digit}
use Rattle.std.proofs.lemmas.List.{take_at}
use Rattle.std.proofs.lemmas.List.Sums.{prefix_len-le-length}
use Rattle.std.proofs.lemmas.Bool.Decides.{nat_tests}
use Rattle.std.proofs.lemmas.Grind.{common_steps}
use Rattle.ep_base.specs.Identifiers.{is_identifier, is_identifier_rest, lower_case}
use Rattle.ep_token.specs.declared.token.TokenKind.{TokenKind}
use Rattle.ep_token.specs.declared.token.TokenKind.TheVariants.{Word, Id, Number, Str, Sym}
use Rattle.ep_token.specs.declared.refusal.TokenRefusal.{TokenRefusal}
use Rattle.ep_token.specs.declared.refusal.TokenRefusal.TheVariants.{NoToken, OpenComment, OpenString, BadNumber, LongName, NoMemory}
use Rattle.ep_token.specs.Spellings.{place_of}
use Rattle.ep_token.specs.Words.{word_symbols}
use Rattle.ep_token.specs.Numbers.{digit_value, is_digit_of, IsNumeral, IsNumber, continues_number}
use Rattle.ep_token.specs.Strings.{IsString}
use Rattle.ep_token.specs.Comments.{IsComment, IsOpener, opens_comment}
use Rattle.ep_token.specs.Tokens.{Piece, IsSpelled, MayPrecede, IsLongestName, CanBeTaken, HasCause, BeginsLongName, begins, is_separator}
use Rattle.ep_token.specs.Reading.{comment_at, comment_found, comment_end, string_at, string_found, string_end, number_at, number_found, number_value, name_at, name_found, name_kind, name_end, symbol_at, symbol_of, short_symbol, long_symbol, piece_at}
use Rattle.ep_token.proofs.CommentLaws.{comment_end-whole, comment_end-body}
use Rattle.ep_token.proofs.NameLaws.{IsNameEnd, name_end-is, name_end-longest, name_end-only}
use Rattle.ep_token.proofs.NumberLaws.{prefix_len-all, prefix_len-stop, number-continues, number_value-is, number_value-of}
use Rattle.ep_token.proofs.StringLaws.{doubled, string_end-string, string_end-greatest}
use Rattle.ep_token.proofs.SymbolLaws.{BeginsSymbol, symbol-begins, place-test}
use Rattle.ep_token.proofs.Steps.{truth, and-parts}

-- what is read can be taken, or has its cause
abbrev pub Sound : ℕ → List ℕ → Result Piece TokenRefusal → Type 0
Sound line bytes (Ok piece) = (0 < piece.0) × CanBeTaken bytes piece.0 piece.1
Sound line bytes (Err refusal) = HasCause bytes line refusal

-- what is read is at least as long, and the same if it is as long
abbrev pub Covers : ℕ → Option TokenKind → Result Piece TokenRefusal → Type 0
Covers n kind (Ok piece) = (n ≤ piece.0) × (piece.0 ≡ n → piece.1 ≡ kind)
Covers n kind (Err refusal) = ⊥

covers-same : (n : ℕ) (kind : Option TokenKind) (r : Result Piece TokenRefusal) → r ≡ Ok (n, kind) → Covers n kind r
covers-same n kind r e = subst (Covers n kind) (sym e) (omega arith, λ _. refl)

take_front : (front more : List ℕ) (n : ℕ) → n ≡ length front → take n (front ++ more) ≡ front
take_front front more n e = take_at front more n (sym e)

-- the bytes again
parts : (bytes text : List ℕ) (n : ℕ) → take n bytes ≡ text → bytes ≡ text ++ drop n bytes
parts bytes text n e = sym (take-append-drop n bytes) ∙ ap (λ (l : List ℕ). l ++ drop n bytes) e

text-length : (bytes text : List ℕ) (n : ℕ) → n ≤ length bytes → take n bytes ≡ text → n ≡ length text
text-length bytes text n h e = sym (length-take-le n bytes h) ∙ ap length e

first-take : (bytes : List ℕ) (n : ℕ) → 0 < length (take n bytes) → get_or (take n bytes) 0 0 ≡ get_or bytes 0 0
first-take [] zero h = absurd (omega arith)
first-take [] (suc n) h = absurd (omega arith)
first-take (b ∷ bs) zero h = absurd (omega arith)
first-take (b ∷ bs) (suc n) h = refl

begins-first : (test : ℕ → Bool) (bytes : List ℕ) → 0 < length bytes → begins test bytes ≡ test (get_or bytes 0 0)
begins-first test [] h = absurd (omega arith)
begins-first test (b ∷ bs) h = refl

-- ---- comments

comment_found-sound : (line : ℕ) (bytes opener cs : List ℕ) (o : Option ℕ) → opens_comment bytes ≡ true → comment_end false 0 cs ≡ o → bytes ≡ opener ++ cs → IsOpener opener → 0 < length opener → Sound line bytes (comment_found line (length opener) o)
comment_found-sound line bytes opener cs None opens e split is some = (refl, opens)
comment_found-sound line bytes opener cs (Some m) opens e split is some =
    let r = comment_end-body m cs e in
    let whole : bytes ≡ (opener ++ (r.body ++ r.closer)) ++ r.more =
    split ∙ ap (λ (l : List ℕ). opener ++ l) (r.split ∙ sym (append_assoc r.body r.closer r.more)) ∙ sym (append_assoc opener (r.body ++ r.closer) r.more) in
    let len : length opener + m ≡ length (opener ++ (r.body ++ r.closer)) = omega (arith, r.end, length-append opener (r.body ++ r.closer), length-append r.body r.closer) in (
      omega arith,
      record {
        within = omega (arith, len, ap length whole, length-append (opener ++ (r.body ++ r.closer)) r.more);
        spelled = inr (record { opener = opener; body = r.body; closer = r.closer; text_is = ap (take (length opener + m)) whole ∙ take_front (opener ++ (r.body ++ r.closer)) r.more (length opener + m) len; opens = is; closes = r.closes; first = r.first });
        ends = tt;
      },
    )

comment_at-brace : (line c : ℕ) (cs : List ℕ) → (c == 123) ≡ true → comment_at line (c ∷ cs) ≡ comment_found line 1 (comment_end false 0 cs)
unfolding comment_at
comment_at-brace line c cs h = rw h refl

comment_at-mark : (line c d : ℕ) (cs : List ℕ) → (c == 123) ≡ false → comment_at line (c ∷ d ∷ cs) ≡ comment_found line 2 (comment_end false 0 cs)
unfolding comment_at
comment_at-mark line c d cs h = rw h refl

comment_at-sound : (line : ℕ) (bytes : List ℕ) → opens_comment bytes ≡ true → Sound line bytes (comment_at line bytes)
comment_at-sound line [] opens = let e : false ≡ true = opens in absurd cc
comment_at-sound line (c ∷ []) opens =
    elim (truth (c == 123)) [
      | inl p ↦
          let at : c ≡ 123 = grind (arith, nat_tests) in
          subst (Sound line (c ∷ [])) (sym (comment_at-brace line c [] p)) (comment_found-sound line (c ∷ []) (123 ∷ []) [] (comment_end false 0 []) opens refl (ap (λ x. x ∷ []) at) (inl refl) (omega arith))
      | inr p ↦ let e : (c == 40 && false) ≡ true = rw p at opens in let f = (and-parts (c == 40) false e).1 in absurd cc
    ]
comment_at-sound line (c ∷ d ∷ cs) opens =
    elim (truth (c == 123)) [
      | inl p ↦
          let at : c ≡ 123 = grind (arith, nat_tests) in
          subst (Sound line (c ∷ d ∷ cs)) (sym (comment_at-brace line c (d ∷ cs) p)) (comment_found-sound line (c ∷ d ∷ cs) (123 ∷ []) (d ∷ cs) (comment_end false 0 (d ∷ cs)) opens refl (ap (λ x. x ∷ d ∷ cs) at) (inl refl) (omega arith))
      | inr p ↦
          let e : (c == 40 && d == 42) ≡ true = rw p at opens in
          let both = and-parts (c == 40) (d == 42) e in
          let first : c ≡ 40 = grind (arith, nat_tests) in
          let second : d ≡ 42 = grind (arith, nat_tests) in
          subst (Sound line (c ∷ d ∷ cs)) (sym (comment_at-mark line c d cs p)) (comment_found-sound line (c ∷ d ∷ cs) (40 ∷ 42 ∷ []) cs (comment_end false 0 cs) opens refl (ap (λ x. x ∷ d ∷ cs) first ∙ ap (λ x. 40 ∷ x ∷ cs) second) (inr refl) (omega arith))
    ]

comment_at-read : (line n : ℕ) (opener rest : List ℕ) (k : ℕ) → IsOpener opener → comment_end false 0 rest ≡ Some k → n ≡ length opener + k → (opens_comment (opener ++ rest) ≡ true) × (comment_at line (opener ++ rest) ≡ Ok (n, None))
comment_at-read line n opener rest k (inl at) end len = (
  ap (λ (o : List ℕ). opens_comment (o ++ rest)) at,
  ap (λ (o : List ℕ). comment_at line (o ++ rest)) at ∙ comment_at-brace line 123 rest refl ∙ ap (comment_found line 1) end ∙ ap (λ m. Ok (m, None)) (let m : 1 + k ≡ n = omega (arith, len, ap length at) in m),
)
comment_at-read line n opener rest k (inr at) end len = (
  ap (λ (o : List ℕ). opens_comment (o ++ rest)) at,
  ap (λ (o : List ℕ). comment_at line (o ++ rest)) at ∙ comment_at-mark line 40 42 rest refl ∙ ap (comment_found line 2) end ∙ ap (λ m. Ok (m, None)) (let m : 2 + k ≡ n = omega (arith, len, ap length at) in m),
)

-- a comment is read, and begins as one
comment_at-greatest : (line : ℕ) (bytes : List ℕ) (n : ℕ) → n ≤ length bytes → IsComment (take n bytes) → (opens_comment bytes ≡ true) × (comment_at line bytes ≡ Ok (n, None))
comment_at-greatest line bytes n within c =
    let rest = c.body ++ (c.closer ++ drop n bytes) in
    let whole : bytes ≡ c.opener ++ rest =
    parts bytes (c.opener ++ (c.body ++ c.closer)) n c.text_is ∙ append_assoc c.opener (c.body ++ c.closer) (drop n bytes) ∙ ap (λ (l : List ℕ). c.opener ++ l) (append_assoc c.body c.closer (drop n bytes)) in
    let len = text-length bytes (c.opener ++ (c.body ++ c.closer)) n within c.text_is in
    let read = comment_at-read line n c.opener rest (0 + length c.body + length c.closer) c.opens (comment_end-whole false 0 c.body c.closer (drop n bytes) c.closes c.first (λ (h : false ≡ true). absurd cc)) (omega (arith, len, length-append c.opener (c.body ++ c.closer), length-append c.body c.closer)) in
    (ap opens_comment whole ∙ read.0, ap (comment_at line) whole ∙ read.1)

-- ---- strings

string_found-sound : (line c : ℕ) (cs : List ℕ) (o : Option ℕ) → (c == 39) ≡ true → string_end true None 0 cs ≡ o → Sound line (c ∷ cs) (string_found line cs o)
string_found-sound line c cs None q e = (refl, q)
string_found-sound line c cs (Some m) q e =
    let at : c ≡ 39 = grind (arith, nat_tests) in
    let r = string_end-string c cs m at e in
    (omega arith, record { within = omega (arith, r.1); spelled = r.0; ends = tt })

string_at-sound : (line : ℕ) (bytes : List ℕ) → (get_or bytes 0 0 == 39) ≡ true → Sound line bytes (string_at line bytes)
unfolding string_at
string_at-sound line [] q = let e : false ≡ true = q in absurd cc
string_at-sound line (c ∷ cs) q = string_found-sound line c cs (string_end true None 0 cs) q refl

string_at-read : (line n : ℕ) (cs bytes more : List ℕ) → cs ≡ doubled bytes ++ 39 ∷ more → All (λ b. b ≢ 10) bytes → n ≡ suc (length (doubled bytes) + 1) → Covers n (Some (Str bytes)) (string_at line (39 ∷ cs))
unfolding string_at
string_at-read line n cs bytes more e one_line len =
    let r = string_end-greatest cs bytes more e one_line in
    subst (λ o. Covers n (Some (Str bytes)) (string_found line cs o)) (sym r.1) (omega (arith, r.2), λ l. ap (λ t. Some (Str t)) (r.3 (omega (arith, l))))

string_at-greatest : (line : ℕ) (bytes : List ℕ) (n : ℕ) (s : List ℕ) → n ≤ length bytes → IsString (take n bytes) s → ((get_or bytes 0 0 == 39) ≡ true) × Covers n (Some (Str s)) (string_at line bytes)
string_at-greatest line bytes n s within is =
    let whole : bytes ≡ 39 ∷ (doubled s ++ 39 ∷ drop n bytes) =
    parts bytes (39 ∷ (doubled s ++ 39 ∷ [])) n is.text_is ∙ ap (λ l. 39 ∷ l) (append_assoc (doubled s) (39 ∷ []) (drop n bytes)) in
    let len = text-length bytes (39 ∷ (doubled s ++ 39 ∷ [])) n within is.text_is in (
      ap (λ (l : List ℕ). get_or l 0 0 == 39) whole,
      subst (λ l. Covers n (Some (Str s)) (string_at line l)) (sym whole) (string_at-read line n (doubled s ++ 39 ∷ drop n bytes) s (drop n bytes) refl is.one_line (omega (arith, len, length-append (doubled s) (39 ∷ [])))),
    )

-- ---- numbers

decimal-digit : (b : ℕ) → is_digit_of 10 b ≡ true → is_ascii_digit b ≡ true
unfolding digit_value
decimal-digit b h = grind (arith, nat_tests)

numeral-first : (digits : List ℕ) (n : ℕ) → IsNumeral 10 digits n → (is_ascii_digit (get_or digits 0 0) ≡ true) × (0 < length digits)
numeral-first [] n h = absurd (h.some refl)
numeral-first (b ∷ bs) n h = (decimal-digit b (and-parts (is_digit_of 10 b) (list_all (is_digit_of 10) bs) h.each).0, omega arith)

first-append : (front more : List ℕ) → 0 < length front → get_or (front ++ more) 0 0 ≡ get_or front 0 0
first-append [] more h = absurd (omega arith)
first-append (b ∷ front) more h = refl

number-first : (text : List ℕ) (n : ℕ) → IsNumber text n → (is_ascii_digit (get_or text 0 0) ≡ true) × (0 < length text)
number-first text n (inl decimal, h) = numeral-first text n decimal
number-first text n (inr r, h) =
    let f = numeral-first r.front r.radix r.radix_is in
    (ap (λ t. is_ascii_digit (get_or t 0 0)) r.split ∙ ap is_ascii_digit (first-append r.front (35 ∷ r.digits) f.1) ∙ f.0, omega (arith, ap length r.split, length-append r.front (35 ∷ r.digits)))

number_found-sound : (line : ℕ) (bytes : List ℕ) (n : ℕ) (o : Option ℕ) → is_ascii_digit (get_or bytes 0 0) ≡ true → 0 < length bytes → n ≤ length bytes → begins continues_number (drop n bytes) ≡ false → number_value (take n bytes) ≡ o → Sound line bytes (number_found line n o)
number_found-sound line bytes n None digit some within stop e = (refl, begins-first is_ascii_digit bytes some ∙ digit)
number_found-sound line bytes n (Some v) digit some within stop e =
    let is = number_value-is (take n bytes) v e in
    (omega (arith, (number-first (take n bytes) v is).1, length-take-le n bytes within), record { within = within; spelled = (v, is, refl); ends = stop })

digit-zero : is_ascii_digit 0 ≡ true → ⊥
digit-zero h = let e : false ≡ true = h in cc

number_at-sound : (line : ℕ) (bytes : List ℕ) → is_ascii_digit (get_or bytes 0 0) ≡ true → Sound line bytes (number_at line bytes)
unfolding number_at
number_at-sound line [] digit = absurd (digit-zero digit)
number_at-sound line (c ∷ cs) digit = number_found-sound line (c ∷ cs) (prefix_len continues_number (c ∷ cs)) _ digit (omega arith) (prefix_len-le-length continues_number (c ∷ cs)) (prefix_len-stop continues_number (c ∷ cs)) refl

number_at-greatest : (line : ℕ) (bytes : List ℕ) (n v : ℕ) → n ≤ length bytes → IsNumber (take n bytes) v → begins continues_number (drop n bytes) ≡ false → (is_ascii_digit (get_or bytes 0 0) ≡ true) × (number_at line bytes ≡ Ok (n, Some (Number (pos v))))
unfolding number_at
number_at-greatest line bytes n v within is stop =
    let first = number-first (take n bytes) v is in
    let end : prefix_len continues_number bytes ≡ n =
    ap (prefix_len continues_number) (sym (take-append-drop n bytes)) ∙ prefix_len-all continues_number (take n bytes) (drop n bytes) (number-continues (take n bytes) v is) stop ∙ length-take-le n bytes within in (
      ap is_ascii_digit (sym (first-take bytes n first.1)) ∙ first.0,
      ap (λ k. number_found line k (number_value (take k bytes))) end ∙ ap (number_found line n) (number_value-of (take n bytes) v is),
    )

-- ---- names

identifier-first : (text : List ℕ) → is_identifier text ≡ true → (is_ascii_alphabetic (get_or text 0 0) ≡ true) × (0 < length text)
identifier-first [] h = let e : false ≡ true = h in absurd cc
identifier-first (b ∷ bs) h = ((and-parts (is_ascii_alphabetic b) (is_identifier_rest bs) h).0, omega arith)

name_kind-spelled : (text : List ℕ) (o : Option ℕ) → is_identifier text ≡ true → length text ≤ 255 → place_of word_symbols (lower_case text) ≡ o → IsSpelled text (Some (name_kind o (lower_case text)))
name_kind-spelled text None i short e = (i, short, e, refl)
name_kind-spelled text (Some w) i short e = (i, e)

name_kind-ends : (text name rest : List ℕ) (o : Option ℕ) → IsLongestName text rest → MayPrecede text (Some (name_kind o name)) rest
name_kind-ends text name rest None h = h
name_kind-ends text name rest (Some w) h = h

long-test : (n : ℕ) → nat_lt 255 n ≡ true → 255 < n
long-test n h = grind (arith, nat_tests)

short-test : (n : ℕ) → nat_lt 255 n ≡ false → n ≤ 255
short-test n h = grind (arith, nat_tests)

test-short : (n : ℕ) → n ≤ 255 → nat_lt 255 n ≡ false
test-short n h = grind (arith, nat_tests)

name_found-sound : (line : ℕ) (bytes : List ℕ) (n : ℕ) → IsNameEnd bytes n → Sound line bytes (name_found line n (take n bytes))
name_found-sound line bytes n name =
    elim (truth (nat_lt 255 n)) [
      | inl p ↦ rw p (refl, (n, long-test n p, name.within, name.identifier))
      | inr p ↦ rw p (
        name.some,
        record {
          within = name.within;
          spelled = name_kind-spelled (take n bytes) (place_of word_symbols (lower_case (take n bytes))) name.identifier (omega (arith, short-test n p, length-take-le n bytes name.within)) refl;
          ends = name_kind-ends (take n bytes) (lower_case (take n bytes)) (drop n bytes) (place_of word_symbols (lower_case (take n bytes))) (name_end-longest bytes n name);
        },
      )
    ]

name_at-sound : (line : ℕ) (bytes : List ℕ) → 0 < length bytes → is_ascii_alphabetic (get_or bytes 0 0) ≡ true → Sound line bytes (name_at line bytes)
unfolding name_at
name_at-sound line bytes some letter = name_found-sound line bytes (name_end true 0 0 bytes) (name_end-is bytes some letter)

-- an identifier where no longer one begins is what is read
name_at-only : (line : ℕ) (bytes : List ℕ) (n : ℕ) → n ≤ length bytes → is_identifier (take n bytes) ≡ true → IsLongestName (take n bytes) (drop n bytes) → n ≤ 255
    → (is_ascii_alphabetic (get_or bytes 0 0) ≡ true) × (name_at line bytes ≡ Ok (n, Some (name_kind (place_of word_symbols (lower_case (take n bytes))) (lower_case (take n bytes)))))
unfolding name_at
name_at-only line bytes n within i longest short =
    let first = identifier-first (take n bytes) i in
    let letter : is_ascii_alphabetic (get_or bytes 0 0) ≡ true = ap is_ascii_alphabetic (sym (first-take bytes n first.1)) ∙ first.0 in
    let some : 0 < length bytes = omega (arith, first.1, length-take-le n bytes within) in
    let end : n ≡ name_end true 0 0 bytes = name_end-only bytes (name_end true 0 0 bytes) n (name_end-is bytes some letter) within i longest in
    (letter, ap (λ k. name_found line k (take k bytes)) (sym end) ∙ rw (test-short n short) refl)

all_short : list_all (λ t. nat_le (length t) 255) word_symbols ≡ true
unfolding word_symbols
all_short = refl

le-test : (a b : ℕ) → nat_le a b ≡ true → a ≤ b
le-test a b h = grind (arith, nat_tests)

length-lower : (text : List ℕ) → length (lower_case text) ≡ length text
length-lower text = grind (arith, common_steps)

word-short : (text : List ℕ) (w : ℕ) → place_of word_symbols (lower_case text) ≡ Some w → length text ≤ 255
word-short text w e = omega (arith, le-test _ _ (place-test (λ t. nat_le (length t) 255) word_symbols 0 w (lower_case text) all_short e), length-lower text)

-- ---- symbols

short_symbol-sound : (line : ℕ) (bytes : List ℕ) (o : Option ℕ) → 0 < length bytes → BeginsSymbol bytes → symbol_of (take 1 bytes) ≡ o → Sound line bytes (short_symbol line o)
short_symbol-sound line bytes None some is e =
    (refl, is.comment, begins-first (λ b. b == 39) bytes some ∙ is.quote, begins-first is_ascii_digit bytes some ∙ is.digit, no_long_name)
  where
    no_long_name : BeginsLongName bytes → ⊥
    no_long_name long =
        let first = identifier-first (take long.0 bytes) long.3 in
        let letter : is_ascii_alphabetic (get_or bytes 0 0) ≡ true = ap is_ascii_alphabetic (sym (first-take bytes long.0 first.1)) ∙ first.0 in
        let not = is.letter in
        absurd cc
short_symbol-sound line [] (Some s) some is e = absurd (omega arith)
short_symbol-sound line (c ∷ cs) (Some s) some is e = (omega arith, record { within = omega arith; spelled = e; ends = λ at. no_star cs (opened (ap (λ l. get_or l 0 0) at) is.comment) })
  where
    opened : c ≡ 40 → opens_comment (c ∷ cs) ≡ false → (get_or cs 0 0 == 42) ≡ false
    opened at h = rw at at h

    no_star : (l : List ℕ) → (get_or l 0 0 == 42) ≡ false → begins (λ b. b == 42) l ≡ false
    no_star [] h = refl
    no_star (d ∷ ds) h = h

long_symbol-sound : (line : ℕ) (bytes : List ℕ) (o : Option ℕ) → 2 ≤ length bytes → BeginsSymbol bytes → symbol_of (take 2 bytes) ≡ o → Sound line bytes (long_symbol line bytes o)
long_symbol-sound line bytes None two is e = short_symbol-sound line bytes (symbol_of (take 1 bytes)) (omega arith) is refl
long_symbol-sound line bytes (Some s) two is e =
    (omega arith, record { within = two; spelled = e; ends = λ at. absurd (omega (arith, ap length at, length-take-le 2 bytes two)) })

symbol_at-sound : (line : ℕ) (bytes : List ℕ) → 0 < length bytes → BeginsSymbol bytes → Sound line bytes (symbol_at line bytes)
unfolding symbol_at
symbol_at-sound line bytes some is =
    elim (truth (nat_le 2 (length bytes))) [
      | inl p ↦ rw p (long_symbol-sound line bytes (symbol_of (take 2 bytes)) (le-test _ _ p) is refl)
      | inr p ↦ rw p (short_symbol-sound line bytes (symbol_of (take 1 bytes)) some is refl)
    ]

short_symbol-one : (line s : ℕ) (o : Option ℕ) → o ≡ Some s → Covers 1 (Some (Sym s)) (short_symbol line o)
short_symbol-one line s o e = subst (λ p. Covers 1 (Some (Sym s)) (short_symbol line p)) (sym e) (omega arith, λ _. refl)

long_symbol-one : (line s : ℕ) (bytes : List ℕ) (o : Option ℕ) → symbol_of (take 1 bytes) ≡ Some s → Covers 1 (Some (Sym s)) (long_symbol line bytes o)
long_symbol-one line s bytes None e = short_symbol-one line s (symbol_of (take 1 bytes)) e
long_symbol-one line s bytes (Some t) e = (omega arith, λ (l : 2 ≡ 1). absurd (omega (arith, l)))

symbol_at-one : (line s : ℕ) (bytes : List ℕ) → symbol_of (take 1 bytes) ≡ Some s → Covers 1 (Some (Sym s)) (symbol_at line bytes)
unfolding symbol_at
symbol_at-one line s bytes e =
    elim (truth (nat_le 2 (length bytes))) [
      | inl p ↦ rw p (long_symbol-one line s bytes (symbol_of (take 2 bytes)) e)
      | inr p ↦ rw p (short_symbol-one line s (symbol_of (take 1 bytes)) e)
    ]

symbol_at-two : (line s : ℕ) (bytes : List ℕ) → 2 ≤ length bytes → symbol_of (take 2 bytes) ≡ Some s → Covers 2 (Some (Sym s)) (symbol_at line bytes)
unfolding symbol_at
symbol_at-two line s bytes two e =
    let t : nat_le 2 (length bytes) ≡ true = grind (arith, nat_tests) in
    rw t (subst (λ o. Covers 2 (Some (Sym s)) (long_symbol line bytes o)) (sym e) (omega arith, λ _. refl))

symbol_at-greatest : (line s n : ℕ) (bytes : List ℕ) → n ≤ length bytes → symbol_of (take n bytes) ≡ Some s → (take n bytes ≡ 40 ∷ [] → begins (λ b. b == 42) (drop n bytes) ≡ false) → BeginsSymbol bytes × Covers n (Some (Sym s)) (symbol_at line bytes)
symbol_at-greatest line s n bytes within e ends = (subst BeginsSymbol (take-append-drop n bytes) r.0, covers n within e (omega (arith, r.1, len)) (omega (arith, r.2, len)))
  where
    r : BeginsSymbol (take n bytes ++ drop n bytes) × (length (take n bytes) ≤ 2) × (0 < length (take n bytes))
    r = symbol-begins (take n bytes) (drop n bytes) s e ends

    len : length (take n bytes) ≡ n
    len = length-take-le n bytes within

    covers : (k : ℕ) → k ≤ length bytes → symbol_of (take k bytes) ≡ Some s → k ≤ 2 → 0 < k → Covers k (Some (Sym s)) (symbol_at line bytes)
    covers zero l f g h = absurd (omega arith)
    covers (suc zero) l f g h = symbol_at-one line s bytes f
    covers (suc (suc zero)) l f g h = symbol_at-two line s bytes l f
    covers (suc (suc (suc k))) l f g h = absurd (omega arith)

-- ---- what begins what

opens-separator : (bytes : List ℕ) → opens_comment bytes ≡ true → is_separator (get_or bytes 0 0) ≡ false
unfolding is_separator
opens-separator bytes h = grind (arith, nat_tests)

quote-others : (bytes : List ℕ) → (get_or bytes 0 0 == 39) ≡ true → (is_separator (get_or bytes 0 0) ≡ false) × (opens_comment bytes ≡ false)
unfolding is_separator
quote-others bytes h = (grind (arith, nat_tests), grind (arith, nat_tests))

digit-others : (bytes : List ℕ) → is_ascii_digit (get_or bytes 0 0) ≡ true → (is_separator (get_or bytes 0 0) ≡ false) × (opens_comment bytes ≡ false) × ((get_or bytes 0 0 == 39) ≡ false)
unfolding is_separator
digit-others bytes h = (grind (arith, nat_tests), grind (arith, nat_tests), grind (arith, nat_tests))

letter-others : (bytes : List ℕ) → is_ascii_alphabetic (get_or bytes 0 0) ≡ true → (is_separator (get_or bytes 0 0) ≡ false) × (opens_comment bytes ≡ false) × ((get_or bytes 0 0 == 39) ≡ false) × (is_ascii_digit (get_or bytes 0 0) ≡ false)
unfolding is_separator
letter-others bytes h = (grind (arith, nat_tests), grind (arith, nat_tests), grind (arith, nat_tests), grind (arith, nat_tests))

piece_at-separator : (line : ℕ) (bytes : List ℕ) → is_separator (get_or bytes 0 0) ≡ true → piece_at line bytes ≡ Ok (1, None)
unfolding piece_at
piece_at-separator line bytes s = rw s refl

piece_at-comment : (line : ℕ) (bytes : List ℕ) → is_separator (get_or bytes 0 0) ≡ false → opens_comment bytes ≡ true → piece_at line bytes ≡ comment_at line bytes
unfolding piece_at
piece_at-comment line bytes s c = rw (s, c) refl

piece_at-string : (line : ℕ) (bytes : List ℕ) → is_separator (get_or bytes 0 0) ≡ false → opens_comment bytes ≡ false → (get_or bytes 0 0 == 39) ≡ true → piece_at line bytes ≡ string_at line bytes
unfolding piece_at
piece_at-string line bytes s c q = rw (s, c, q) refl

piece_at-number : (line : ℕ) (bytes : List ℕ) → is_separator (get_or bytes 0 0) ≡ false → opens_comment bytes ≡ false → (get_or bytes 0 0 == 39) ≡ false → is_ascii_digit (get_or bytes 0 0) ≡ true → piece_at line bytes ≡ number_at line bytes
unfolding piece_at
piece_at-number line bytes s c q d = rw (s, c, q, d) refl

piece_at-name : (line : ℕ) (bytes : List ℕ) → is_separator (get_or bytes 0 0) ≡ false → opens_comment bytes ≡ false → (get_or bytes 0 0 == 39) ≡ false → is_ascii_digit (get_or bytes 0 0) ≡ false → is_ascii_alphabetic (get_or bytes 0 0) ≡ true → piece_at line bytes ≡ name_at line bytes
unfolding piece_at
piece_at-name line bytes s c q d l = rw (s, c, q, d, l) refl

piece_at-symbol : (line : ℕ) (bytes : List ℕ) → BeginsSymbol bytes → piece_at line bytes ≡ symbol_at line bytes
unfolding piece_at
piece_at-symbol line bytes is = let s = is.separator in let c = is.comment in let q = is.quote in let d = is.digit in let l = is.letter in rw (s, c, q, d, l) refl

-- ---- the whole piece

one-first : (bytes : List ℕ) → 0 < length bytes → take 1 bytes ≡ get_or bytes 0 0 ∷ []
one-first [] h = absurd (omega arith)
one-first (b ∷ bs) h = refl

-- what is read can be taken, or has its cause
pub piece_at-sound : (line : ℕ) (bytes : List ℕ) → 0 < length bytes → Sound line bytes (piece_at line bytes)
piece_at-sound line bytes some =
    elim (truth (is_separator (get_or bytes 0 0))) [
      | inl s ↦ subst (Sound line bytes) (sym (piece_at-separator line bytes s)) (omega arith, record { within = omega arith; spelled = inl (get_or bytes 0 0, one-first bytes some, s); ends = tt })
      | inr s ↦ elim (truth (opens_comment bytes)) [
        | inl c ↦ subst (Sound line bytes) (sym (piece_at-comment line bytes s c)) (comment_at-sound line bytes c)
        | inr c ↦ elim (truth (get_or bytes 0 0 == 39)) [
          | inl q ↦ subst (Sound line bytes) (sym (piece_at-string line bytes s c q)) (string_at-sound line bytes q)
          | inr q ↦ elim (truth (is_ascii_digit (get_or bytes 0 0))) [
            | inl d ↦ subst (Sound line bytes) (sym (piece_at-number line bytes s c q d)) (number_at-sound line bytes d)
            | inr d ↦ elim (truth (is_ascii_alphabetic (get_or bytes 0 0))) [
              | inl l ↦ subst (Sound line bytes) (sym (piece_at-name line bytes s c q d l)) (name_at-sound line bytes some l)
              | inr l ↦
                  let is : BeginsSymbol bytes = record { separator = s; comment = c; quote = q; digit = d; letter = l } in
                  subst (Sound line bytes) (sym (piece_at-symbol line bytes is)) (symbol_at-sound line bytes some is)
            ]
          ]
        ]
      ]
    ]

name-covers : (line : ℕ) (bytes : List ℕ) (n : ℕ) (kind : TokenKind) → n ≤ length bytes → is_identifier (take n bytes) ≡ true → IsLongestName (take n bytes) (drop n bytes) → n ≤ 255
    → name_kind (place_of word_symbols (lower_case (take n bytes))) (lower_case (take n bytes)) ≡ kind → Covers n (Some kind) (piece_at line bytes)
name-covers line bytes n kind within i longest short e =
    let read = name_at-only line bytes n within i longest short in
    let others = letter-others bytes read.0 in
    covers-same n (Some kind) (piece_at line bytes) (piece_at-name line bytes others.0 others.1 others.2 others.3 read.0 ∙ read.1 ∙ ap (λ k. Ok (n, Some k)) e)

-- whatever can be taken is read, or something longer
pub piece_at-greatest : (line : ℕ) (bytes : List ℕ) (n : ℕ) (kind : Option TokenKind) → n ≤ length bytes → IsSpelled (take n bytes) kind → MayPrecede (take n bytes) kind (drop n bytes) → Covers n kind (piece_at line bytes)
piece_at-greatest line bytes n None within (inl s) ends =
    let len = text-length bytes (s.0 ∷ []) n within s.1 in
    let first : get_or bytes 0 0 ≡ s.0 = sym (first-take bytes n (omega (arith, ap length s.1))) ∙ ap (λ l. get_or l 0 0) s.1 in
    covers-same n None (piece_at line bytes) (piece_at-separator line bytes (ap is_separator first ∙ s.2) ∙ ap (λ k. Ok (k, None)) (sym len))
piece_at-greatest line bytes n None within (inr c) ends =
    let read = comment_at-greatest line bytes n within c in
    covers-same n None (piece_at line bytes) (piece_at-comment line bytes (opens-separator bytes read.0) read.0 ∙ read.1)
piece_at-greatest line bytes n (Some (Word w)) within s ends =
    name-covers line bytes n (Word w) within s.0 ends (omega (arith, word-short (take n bytes) w s.1, length-take-le n bytes within)) (ap (λ o. name_kind o (lower_case (take n bytes))) s.1)
piece_at-greatest line bytes n (Some (Id name)) within s ends =
    name-covers line bytes n (Id name) within s.0 ends (omega (arith, s.1, length-take-le n bytes within)) (ap (λ o. name_kind o (lower_case (take n bytes))) s.2 ∙ ap Id (sym s.3))
piece_at-greatest line bytes n (Some (Number z)) within s ends =
    let read = number_at-greatest line bytes n s.0 within s.1 ends in
    let others = digit-others bytes read.0 in
    covers-same n (Some (Number z)) (piece_at line bytes) (piece_at-number line bytes others.0 others.1 others.2 read.0 ∙ read.1 ∙ ap (λ v. Ok (n, Some (Number v))) (sym s.2))
piece_at-greatest line bytes n (Some (Str b)) within s ends =
    let read = string_at-greatest line bytes n b within s in
    let others = quote-others bytes read.0 in
    subst (Covers n (Some (Str b))) (sym (piece_at-string line bytes others.0 others.1 read.0)) read.1
piece_at-greatest line bytes n (Some (Sym s)) within e ends =
    let read = symbol_at-greatest line s n bytes within e ends in
    subst (Covers n (Some (Sym s))) (sym (piece_at-symbol line bytes read.0)) read.1

-- ---- one cause

abbrev failed : TokenRefusal → Result Piece TokenRefusal
failed e = Err e

err_is : (e f : TokenRefusal) → failed e ≡ failed f → e ≡ f
err_is e f h = cc

ok_err : (p : Piece) (f : TokenRefusal) → Ok p ≡ Err f → ⊥
ok_err p f h = cc

comment_found-err : (line opener : ℕ) (o : Option ℕ) (f : TokenRefusal) → comment_found line opener o ≡ Err f → OpenComment line ≡ f
comment_found-err line opener None f h = err_is _ _ h
comment_found-err line opener (Some n) f h = absurd (ok_err _ f h)

comment_at-err : (line : ℕ) (bytes : List ℕ) (f : TokenRefusal) → comment_at line bytes ≡ Err f → OpenComment line ≡ f
unfolding comment_at
comment_at-err line bytes f h =
    elim (truth (get_or bytes 0 0 == 123)) [
      | inl p ↦ comment_found-err line 1 (comment_end false 0 (drop 1 bytes)) f (rw p at h)
      | inr p ↦ comment_found-err line 2 (comment_end false 0 (drop 2 bytes)) f (rw p at h)
    ]

string_found-err : (line : ℕ) (text : List ℕ) (o : Option ℕ) (f : TokenRefusal) → string_found line text o ≡ Err f → OpenString line ≡ f
string_found-err line text None f h = err_is _ _ h
string_found-err line text (Some n) f h = absurd (ok_err _ f h)

string_at-err : (line : ℕ) (bytes : List ℕ) (f : TokenRefusal) → string_at line bytes ≡ Err f → OpenString line ≡ f
unfolding string_at
string_at-err line bytes f h = string_found-err line (drop 1 bytes) (string_end true None 0 (drop 1 bytes)) f h

number_found-err : (line n : ℕ) (o : Option ℕ) (f : TokenRefusal) → number_found line n o ≡ Err f → BadNumber line ≡ f
number_found-err line n None f h = err_is _ _ h
number_found-err line n (Some v) f h = absurd (ok_err _ f h)

number_at-err : (line : ℕ) (bytes : List ℕ) (f : TokenRefusal) → number_at line bytes ≡ Err f → BadNumber line ≡ f
unfolding number_at
number_at-err line bytes f h = number_found-err line (prefix_len continues_number bytes) (number_value (take (prefix_len continues_number bytes) bytes)) f h

name_at-err : (line : ℕ) (bytes : List ℕ) (f : TokenRefusal) → name_at line bytes ≡ Err f → LongName line ≡ f
unfolding name_at
name_at-err line bytes f h =
    elim (truth (nat_lt 255 (name_end true 0 0 bytes))) [
      | inl p ↦ err_is _ _ (rw p at h)
      | inr p ↦ absurd (ok_err _ f (rw p at h))
    ]

short_symbol-err : (line : ℕ) (o : Option ℕ) (f : TokenRefusal) → short_symbol line o ≡ Err f → NoToken line ≡ f
short_symbol-err line None f h = err_is _ _ h
short_symbol-err line (Some s) f h = absurd (ok_err _ f h)

long_symbol-err : (line : ℕ) (bytes : List ℕ) (o : Option ℕ) (f : TokenRefusal) → long_symbol line bytes o ≡ Err f → NoToken line ≡ f
long_symbol-err line bytes None f h = short_symbol-err line (symbol_of (take 1 bytes)) f h
long_symbol-err line bytes (Some s) f h = absurd (ok_err _ f h)

symbol_at-err : (line : ℕ) (bytes : List ℕ) (f : TokenRefusal) → symbol_at line bytes ≡ Err f → NoToken line ≡ f
unfolding symbol_at
symbol_at-err line bytes f h =
    elim (truth (nat_le 2 (length bytes))) [
      | inl p ↦ long_symbol-err line bytes (symbol_of (take 2 bytes)) f (rw p at h)
      | inr p ↦ short_symbol-err line (symbol_of (take 1 bytes)) f (rw p at h)
    ]

long-letter : (bytes : List ℕ) → BeginsLongName bytes → is_ascii_alphabetic (get_or bytes 0 0) ≡ true
long-letter bytes long =
    let first = identifier-first (take long.0 bytes) long.3 in
    ap is_ascii_alphabetic (sym (first-take bytes long.0 first.1)) ∙ first.0

-- a cause at a place where nothing is read is what is answered
pub cause-read : (line : ℕ) (bytes : List ℕ) (e f : TokenRefusal) → 0 < length bytes → HasCause bytes line e → piece_at line bytes ≡ Err f → e ≡ f
cause-read line bytes (OpenComment at) f some h r =
    ap OpenComment h.0 ∙ comment_at-err line bytes f (sym (piece_at-comment line bytes (opens-separator bytes h.1) h.1) ∙ r)
cause-read line bytes (OpenString at) f some h r =
    let q : (get_or bytes 0 0 == 39) ≡ true = sym (begins-first (λ b. b == 39) bytes some) ∙ h.1 in
    let others = quote-others bytes q in
    ap OpenString h.0 ∙ string_at-err line bytes f (sym (piece_at-string line bytes others.0 others.1 q) ∙ r)
cause-read line bytes (BadNumber at) f some h r =
    let d : is_ascii_digit (get_or bytes 0 0) ≡ true = sym (begins-first is_ascii_digit bytes some) ∙ h.1 in
    let others = digit-others bytes d in
    ap BadNumber h.0 ∙ number_at-err line bytes f (sym (piece_at-number line bytes others.0 others.1 others.2 d) ∙ r)
cause-read line bytes (LongName at) f some h r =
    let l = long-letter bytes h.1 in
    let others = letter-others bytes l in
    ap LongName h.0 ∙ name_at-err line bytes f (sym (piece_at-name line bytes others.0 others.1 others.2 others.3 l) ∙ r)
cause-read line bytes (NoToken at) f some h r =
    let q : (get_or bytes 0 0 == 39) ≡ false = sym (begins-first (λ b. b == 39) bytes some) ∙ h.2 in
    let d : is_ascii_digit (get_or bytes 0 0) ≡ false = sym (begins-first is_ascii_digit bytes some) ∙ h.3 in
    elim (truth (is_separator (get_or bytes 0 0))) [
      | inl s ↦ absurd (ok_err _ f (sym (piece_at-separator line bytes s) ∙ r))
      | inr s ↦ elim (truth (is_ascii_alphabetic (get_or bytes 0 0))) [
        | inl l ↦
            let named = sym (piece_at-name line bytes s h.1 q d l) ∙ r in
            let sound : HasCause bytes line (LongName line) = subst (Sound line bytes) (named ∙ ap (λ g. Err g) (sym (name_at-err line bytes f named))) (name_at-sound line bytes some l) in
            absurd (h.4 sound.1)
        | inr l ↦ ap NoToken h.0 ∙ symbol_at-err line bytes f (sym (piece_at-symbol line bytes (record { separator = s; comment = h.1; quote = q; digit = d; letter = l })) ∙ r)
      ]
    ]
cause-read line bytes NoMemory f some h r = absurd h
