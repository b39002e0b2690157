-- The spellings of symbols.
use Rattle.std.proofs.Common.{◌≡◌, ℕ, ◌+◌, ◌<◌, ◌≤◌, Bool, true, false, not, ◌&&◌, ◌==◌, inl, inr, List, [], ◌∷◌, ◌++◌, length, get_or, Some, None, refl, sym, ap, ◌∙◌, arith}
use Rattle.std.proofs.lemmas.Bool.Decides.{nat_tests}
use Rattle.std.proofs.lemmas.Slice.Eq.{bytes_eq-Decides}
use Rattle.std.specs.Char.{is_ascii_alphabetic, is_ascii_digit}
use Rattle.std.specs.List.{list_all, position_from}
use Rattle.std.specs.Str.{bytes_eq}
use Rattle.ep_token.specs.Comments.{opens_comment}
use Rattle.ep_token.specs.Reading.{symbol_of}
use Rattle.ep_token.specs.Spellings.{place_of}
use Rattle.ep_token.specs.Symbols.{special_symbols, reference_spelling}
use Rattle.ep_token.specs.Tokens.{begins, is_separator}
use Rattle.ep_token.proofs.Steps.{truth, and-parts}

pub reference_spelling-bracket : (text w : List ℕ) → w ≡ 40 ∷ 46 ∷ [] → bytes_eq text w ≡ true → reference_spelling text ≡ 91 ∷ []
unfolding reference_spelling
reference_spelling-bracket text w e h = let k = rw e at h in rw k refl

pub reference_spelling-close : (text w v : List ℕ) → w ≡ 40 ∷ 46 ∷ [] → v ≡ 46 ∷ 41 ∷ [] → bytes_eq text w ≡ false → bytes_eq text v ≡ true → reference_spelling text ≡ 93 ∷ []
unfolding reference_spelling
reference_spelling-close text w v e f h g = let k = rw e at h in let l = rw f at g in rw (k, l) refl

pub reference_spelling-caret : (text w v u : List ℕ) → w ≡ 40 ∷ 46 ∷ [] → v ≡ 46 ∷ 41 ∷ [] → u ≡ 64 ∷ [] → bytes_eq text w ≡ false → bytes_eq text v ≡ false → bytes_eq text u ≡ true → reference_spelling text ≡ 94 ∷ []
unfolding reference_spelling
reference_spelling-caret text w v u e f d h g i = let k = rw e at h in let l = rw f at g in let m = rw d at i in rw (k, l, m) refl

pub reference_spelling-same : (text w v u : List ℕ) → w ≡ 40 ∷ 46 ∷ [] → v ≡ 46 ∷ 41 ∷ [] → u ≡ 64 ∷ [] → bytes_eq text w ≡ false → bytes_eq text v ≡ false → bytes_eq text u ≡ false → reference_spelling text ≡ text
unfolding reference_spelling
reference_spelling-same text w v u e f d h g i = let k = rw e at h in let l = rw f at g in let m = rw d at i in rw (k, l, m) refl

-- ---- what every spelling of a symbol is like

abbrev pub is_symbol_byte : ℕ → Bool
is_symbol_byte b = not (is_separator b) && not (b == 123) && not (b == 39) && not (is_ascii_digit b) && not (is_ascii_alphabetic b)

-- one or two bytes that begin nothing else
unfoldable pub is_symbol_text : List ℕ → Bool
is_symbol_text [] = false
is_symbol_text (b ∷ []) = is_symbol_byte b
is_symbol_text (b ∷ c ∷ []) = is_symbol_byte b && not (b == 40 && c == 42)
is_symbol_text (b ∷ c ∷ d ∷ bs) = false

bytes_same : (xs ys : List ℕ) → bytes_eq xs ys ≡ true → xs ≡ ys
bytes_same xs ys h = grind (arith, bytes_eq-Decides)

-- a text that has a place passes each test that all texts pass
pub place-test : (test : List ℕ → Bool) (all : List (List ℕ)) (i w : ℕ) (text : List ℕ) → list_all test all ≡ true → position_from (λ s. bytes_eq s text) i all ≡ Some w → test text ≡ true
place-test test [] i w text h e = let n : None ≡ Some w = e in absurd cc
place-test test (s ∷ all) i w text h e =
    let parts = and-parts (test s) (list_all test all) h in
    elim (truth (bytes_eq s text)) [
      | inl p ↦ ap test (sym (bytes_same s text p)) ∙ parts.0
      | inr p ↦ place-test test all (i + 1) w text parts.1 (rw p at e)
    ]

all_symbols : list_all is_symbol_text special_symbols ≡ true
unfolding is_symbol_text special_symbols is_separator
all_symbols = refl

test-bracket : is_symbol_text (40 ∷ 46 ∷ []) ≡ true
unfolding is_symbol_text is_separator
test-bracket = refl

test-close : is_symbol_text (46 ∷ 41 ∷ []) ≡ true
unfolding is_symbol_text is_separator
test-close = refl

test-caret : is_symbol_text (64 ∷ []) ≡ true
unfolding is_symbol_text is_separator
test-caret = refl

pub symbol-text : (text : List ℕ) (s : ℕ) → symbol_of text ≡ Some s → is_symbol_text text ≡ true
symbol-text text s e =
    elim (truth (bytes_eq text (40 ∷ 46 ∷ []))) [
      | inl p ↦ ap is_symbol_text (bytes_same text (40 ∷ 46 ∷ []) p) ∙ test-bracket
      | inr p ↦ elim (truth (bytes_eq text (46 ∷ 41 ∷ []))) [
        | inl q ↦ ap is_symbol_text (bytes_same text (46 ∷ 41 ∷ []) q) ∙ test-close
        | inr q ↦ elim (truth (bytes_eq text (64 ∷ []))) [
          | inl r ↦ ap is_symbol_text (bytes_same text (64 ∷ []) r) ∙ test-caret
          | inr r ↦ place-test is_symbol_text special_symbols 0 s text all_symbols (ap (place_of special_symbols) (sym (reference_spelling-same text _ _ _ refl refl refl p q r)) ∙ e)
        ]
      ]
    ]

not-true : (b : Bool) → not b ≡ true → b ≡ false
not-true true h = absurd cc
not-true false h = refl

-- the first byte of a symbol begins nothing else
pub record BeginsSymbol (bytes : List ℕ) : Type 0 where
  pub separator : is_separator (get_or bytes 0 0) ≡ false
  pub comment : opens_comment bytes ≡ false
  pub quote : (get_or bytes 0 0 == 39) ≡ false
  pub digit : is_ascii_digit (get_or bytes 0 0) ≡ false
  pub letter : is_ascii_alphabetic (get_or bytes 0 0) ≡ false

record IsSymbolByte (b : ℕ) : Type 0 where
  pub separator : is_separator b ≡ false
  pub brace : (b == 123) ≡ false
  pub quote : (b == 39) ≡ false
  pub digit : is_ascii_digit b ≡ false
  pub letter : is_ascii_alphabetic b ≡ false

symbol_byte-is : (b : ℕ) → is_symbol_byte b ≡ true → IsSymbolByte b
symbol_byte-is b h =
    let p = and-parts (not (is_separator b) && not (b == 123) && not (b == 39) && not (is_ascii_digit b)) (not (is_ascii_alphabetic b)) h in
    let q = and-parts (not (is_separator b) && not (b == 123) && not (b == 39)) (not (is_ascii_digit b)) p.0 in
    let r = and-parts (not (is_separator b) && not (b == 123)) (not (b == 39)) q.0 in
    let s = and-parts (not (is_separator b)) (not (b == 123)) r.0 in
    record { separator = not-true _ s.0; brace = not-true _ s.1; quote = not-true _ r.1; digit = not-true _ q.1; letter = not-true _ p.1 }

begins-second : (cs : List ℕ) → begins (λ b. b == 42) cs ≡ false → (get_or cs 0 0 == 42) ≡ false
begins-second [] h = refl
begins-second (c ∷ cs) h = h

opens-not : (b : ℕ) (bs : List ℕ) → (b == 123) ≡ false → (b == 40 && get_or bs 0 0 == 42) ≡ false → opens_comment (b ∷ bs) ≡ false
opens-not b bs h e = rw (h, e) refl

one-star : (b : ℕ) (cs : List ℕ) → (b ∷ [] ≡ 40 ∷ [] → begins (λ x. x == 42) cs ≡ false) → (b == 40 && get_or cs 0 0 == 42) ≡ false
one-star b cs ends =
    elim (truth (b == 40)) [
      | inl p ↦ let at : b ≡ 40 = grind (arith, nat_tests) in rw (p, begins-second cs (ends (ap (λ x. x ∷ []) at))) refl
      | inr p ↦ rw p refl
    ]

symbol_text-begins : (text more : List ℕ) → is_symbol_text text ≡ true → (text ≡ 40 ∷ [] → begins (λ b. b == 42) more ≡ false) → BeginsSymbol (text ++ more) × (length text ≤ 2) × (0 < length text)
unfolding is_symbol_text
symbol_text-begins [] more h ends = let e : false ≡ true = h in absurd cc
symbol_text-begins (b ∷ []) more h ends =
    let r = symbol_byte-is b h in
    (record { separator = r.separator; comment = opens-not b more r.brace (one-star b more ends); quote = r.quote; digit = r.digit; letter = r.letter }, omega arith, omega arith)
symbol_text-begins (b ∷ c ∷ []) more h ends =
    let parts = and-parts (is_symbol_byte b) (not (b == 40 && c == 42)) h in
    let r = symbol_byte-is b parts.0 in
    (record { separator = r.separator; comment = opens-not b (c ∷ more) r.brace (not-true _ parts.1); quote = r.quote; digit = r.digit; letter = r.letter }, omega arith, omega arith)
symbol_text-begins (b ∷ c ∷ d ∷ bs) more h ends = let e : false ≡ true = h in absurd cc

-- a symbol at the front, of one byte or of two
pub symbol-begins : (text more : List ℕ) (s : ℕ) → symbol_of text ≡ Some s → (text ≡ 40 ∷ [] → begins (λ b. b == 42) more ≡ false) → BeginsSymbol (text ++ more) × (length text ≤ 2) × (0 < length text)
symbol-begins text more s e ends = symbol_text-begins text more (symbol-text text s e) ends
