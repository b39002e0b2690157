-- What a text spells is taken at the front of a longer one, where what stands behind cannot go on with it.
use Rattle.std.proofs.Common.{◌≡◌, ◌≢◌, ℕ, suc, ◌+◌, ◌-◌, ◌<◌, ◌≤◌, Bool, true, false, not, ◌&&◌, ◌||◌, ◌==◌, nat_lt, nat_le, inl, inr, List, [], ◌∷◌, ◌++◌, length, take, drop, get_or, Option, Some, None, Result, Ok, Err, refl, sym, ap, subst, ◌∙◌, arith, append_assoc, length-take-le, length-append, take-append-drop}
use Rattle.std.specs.List.{list_all, prefix_len, position_from}
use Rattle.std.specs.Char.{is_ascii_alphabetic, is_ascii_alphanumeric, is_ascii_digit}
use Rattle.std.specs.Str.{bytes_eq}
use Rattle.std.proofs.Math.Seq.{take-append-add}
use Rattle.std.proofs.lemmas.Bool.{cases_lt}
use Rattle.std.proofs.lemmas.Bool.Decides.{nat_tests}
use Rattle.std.proofs.lemmas.Slice.Eq.{bytes_eq-Decides}
use Rattle.std.proofs.lemmas.List.{take_at, drop_at}
use Rattle.ep_base.specs.declared.name.TheConstants.{MAX_NAME}
use Rattle.ep_base.specs.Identifiers.{is_identifier, is_identifier_rest, lower_case}
use Rattle.ep_token.specs.declared.token.TokenKind.{TokenKind}
use Rattle.ep_token.specs.declared.token.TokenKind.TheVariants.{Word, Id, Number, Str, Sym}
use Rattle.ep_token.specs.declared.refusal.TokenRefusal.{TokenRefusal}
use Rattle.ep_token.specs.declared.refusal.TokenRefusal.TheVariants.{LongName}
use Rattle.ep_token.specs.Comments.{IsComment, IsOpener, IsCloser}
use Rattle.ep_token.specs.Numbers.{digit_value, is_digit_of, IsNumeral, IsNumber, continues_number}
use Rattle.ep_token.specs.Spellings.{place_of}
use Rattle.ep_token.specs.Strings.{string_element, IsString}
use Rattle.ep_token.specs.Symbols.{special_symbols}
use Rattle.ep_token.specs.Words.{word_symbols}
use Rattle.ep_token.specs.Tokens.{Piece as Taken}
use Rattle.ep_token.specs.Tokens.{CanBeTaken, IsTaken, IsSpelled, MayPrecede, IsLongestName, begins, is_separator}
use Rattle.ep_token.specs.Reading.{piece_at, name_at, name_found, name_kind, number_at, number_found, string_at, string_found, symbol_at, symbol_of, short_symbol, long_symbol, comment_at, comment_found, comment_end}
use Rattle.ep_token.proofs.public.TokenLaws.{piece-taken, piece-none}
use Rattle.ep_pieces.proofs.Once.{spelled-one}
use Rattle.ep_pieces.proofs.Rows.{truth, and-parts}

-- ---- what may go on with a spelling

abbrev pub name_byte : ℕ → Bool
name_byte b = is_ascii_alphanumeric b || b == 95

-- a symbol with one byte more is a symbol, or opens a comment
abbrev pub is_some : Option ℕ → Bool
is_some None = false
is_some (Some n) = true

abbrev pub glues : List ℕ → ℕ → Bool
glues text b = is_some (symbol_of (text ++ b ∷ [])) || (b == 42 && bytes_eq text (40 ∷ []))

-- whether a byte may go on with what a text spells
abbrev pub goes_on : Option TokenKind → List ℕ → ℕ → Bool
goes_on None text b = false
goes_on (Some (Word w)) text b = name_byte b
goes_on (Some (Id n)) text b = name_byte b
goes_on (Some (Number n)) text b = continues_number b
goes_on (Some (Str s)) text b = b == 39
goes_on (Some (Sym n)) text b = glues text b

-- ---- the front of a text

take-front : (text rest : List ℕ) → take (length text) (text ++ rest) ≡ text
take-front text rest = take_at text rest (length text) refl

drop-front : (text rest : List ℕ) → drop (length text) (text ++ rest) ≡ rest
drop-front text rest = drop_at text rest (length text) refl

-- a longer front has bytes of the rest
record Longer (text rest : List ℕ) (m : ℕ) : Type 0 where
  pub byte : ℕ
  pub more : List ℕ
  pub after : List ℕ
  pub rest_is : rest ≡ (byte ∷ more) ++ after
  pub front_is : take m (text ++ rest) ≡ text ++ byte ∷ more
  pub count : m ≡ length text + length (byte ∷ more)

longer-by : (text rest : List ℕ) (m d : ℕ) (more after : List ℕ) → m ≡ length text + d → 0 < d → d ≤ length rest → take d rest ≡ more → drop d rest ≡ after → Longer text rest m
longer-by text rest m d [] after e p w t a = absurd (omega (arith, ap length t, length-take-le d rest w))
longer-by text rest m d (b ∷ more) after e p w t a =
    record {
      byte = b;
      more = more;
      after = after;
      rest_is = sym (take-append-drop d rest) ∙ ap (λ (l : List ℕ). l ++ drop d rest) t ∙ ap (λ (l : List ℕ). (b ∷ more) ++ l) a;
      front_is = ap (λ k. take k (text ++ rest)) e ∙ take-append-add text rest d ∙ ap (λ (l : List ℕ). text ++ l) t;
      count = omega (arith, e, sym (ap length t), length-take-le d rest w);
    }

longer : (text rest : List ℕ) (m : ℕ) → length text < m → m ≤ length (text ++ rest) → Longer text rest m
longer text rest m h w =
    longer-by text rest m (m - length text) (take (m - length text) rest) (drop (m - length text) rest) (omega arith) (omega arith) (omega (arith, w, length-append text rest)) refl refl

begins-append : (test : ℕ → Bool) (rest : List ℕ) (b : ℕ) (more after : List ℕ) → rest ≡ (b ∷ more) ++ after → begins test rest ≡ test b
begins-append test rest b more after e = ap (begins test) e

-- ---- a spelling at the front is taken there, if nothing longer is read

can-front : (text rest : List ℕ) (kind : Option TokenKind) → IsSpelled text kind → MayPrecede text kind rest → CanBeTaken (text ++ rest) (length text) kind
can-front text rest kind s e =
    record {
      within = omega (arith, length-append text rest);
      spelled = subst (λ t. IsSpelled t kind) (sym (take-front text rest)) s;
      ends = subst (λ t. MayPrecede t kind (drop (length text) (text ++ rest))) (sym (take-front text rest)) (subst (λ t. MayPrecede text kind t) (sym (drop-front text rest)) e);
    }

-- nothing longer than the text is read
abbrev pub IsBounded : List ℕ → List ℕ → Type 0
IsBounded text rest = (m : ℕ) (other : Option TokenKind) → piece_at 1 (text ++ rest) ≡ Ok (m, other) → IsTaken (text ++ rest) m other → m ≤ length text

front-cases : (text rest : List ℕ) (kind : Option TokenKind) (r : Result Taken TokenRefusal) → piece_at 1 (text ++ rest) ≡ r → 0 < length text → IsSpelled text kind → MayPrecede text kind rest → IsBounded text rest → IsTaken (text ++ rest) (length text) kind
front-cases text rest kind (Err f) e some s ends bounded = absurd (piece-none 1 (text ++ rest) f e (length text) kind (can-front text rest kind s ends))
front-cases text rest kind (Ok p) e some s ends bounded =
    let can = can-front text rest kind s ends in
    let read = (piece-taken 1 (text ++ rest) p.0 p.1 (omega (arith, length-append text rest)) e).0 in
    let len : p.0 ≡ length text = omega (arith, bounded p.0 p.1 e read, read.longest (length text) kind can) in
    let spelled : IsSpelled text p.1 = subst (λ t. IsSpelled t p.1) (ap (λ k. take k (text ++ rest)) len ∙ take-front text rest) read.can.spelled in
    let same : p.1 ≡ kind = spelled-one text p.1 kind spelled s in
    subst (λ k. IsTaken (text ++ rest) (length text) k) same (subst (λ k. IsTaken (text ++ rest) k p.1) len read)

pub front-taken : (text rest : List ℕ) (kind : Option TokenKind) → 0 < length text → IsSpelled text kind → MayPrecede text kind rest → IsBounded text rest → IsTaken (text ++ rest) (length text) kind
front-taken text rest kind some s ends bounded = front-cases text rest kind (piece_at 1 (text ++ rest)) refl some s ends bounded

-- ---- names

rest-all : (l : List ℕ) → is_identifier_rest l ≡ true → list_all name_byte l ≡ true
rest-all [] h = refl
rest-all (c ∷ []) h = rw h refl
rest-all (c ∷ d ∷ ds) h =
    elim (truth (is_ascii_alphanumeric c)) [
      | inl p ↦ rw p (rest-all (d ∷ ds) (rw p at h))
      | inr p ↦
          let k = rw p at h in
          let both = and-parts (c == 95 && is_ascii_alphanumeric d) (is_identifier_rest ds) k in
          let marks = and-parts (c == 95) (is_ascii_alphanumeric d) both.0 in
          rw (p, marks.0, marks.1) (rest-all ds both.1)
    ]

alphabetic-name : (b : ℕ) → is_ascii_alphabetic b ≡ true → name_byte b ≡ true
alphabetic-name b h = grind (arith, nat_tests)

identifier-all : (l : List ℕ) → is_identifier l ≡ true → list_all name_byte l ≡ true
identifier-all [] h = refl
identifier-all (c ∷ cs) h =
    let parts = and-parts (is_ascii_alphabetic c) (is_identifier_rest cs) h in
    rw (alphabetic-name c parts.0) (rest-all cs parts.1)

all-second : (p : ℕ → Bool) (xs : List ℕ) (y : ℕ) (ys : List ℕ) → list_all p (xs ++ y ∷ ys) ≡ true → p y ≡ true
all-second p [] y ys h = (and-parts (p y) (list_all p ys) h).0
all-second p (x ∷ xs) y ys h = all-second p xs y ys (and-parts (p x) (list_all p (xs ++ y ∷ ys)) h).1

longest-by : (text rest more after : List ℕ) → begins name_byte rest ≡ false → rest ≡ more ++ after → is_identifier (text ++ more) ≡ true → more ≡ []
longest-by text rest [] after b e h = refl
longest-by text rest (x ∷ xs) after b e h =
    let yes = all-second name_byte text x xs (identifier-all (text ++ x ∷ xs) h) in
    let no : name_byte x ≡ false = sym (ap (begins name_byte) e) ∙ b in
    absurd cc

pub longest-name : (text rest : List ℕ) → begins name_byte rest ≡ false → IsLongestName text rest
longest-name text rest b = λ more after e h. longest-by text rest more after b e h

name-read : (b : ℕ) (bs : List ℕ) → is_ascii_alphabetic b ≡ true → piece_at 1 (b ∷ bs) ≡ name_at 1 (b ∷ bs)
unfolding piece_at is_separator
name-read b bs h =
    let tab : (b == 9) ≡ false = grind (arith, nat_tests) in
    let feed : (b == 10) ≡ false = grind (arith, nat_tests) in
    let return : (b == 13) ≡ false = grind (arith, nat_tests) in
    let blank : (b == 32) ≡ false = grind (arith, nat_tests) in
    let brace : (b == 123) ≡ false = grind (arith, nat_tests) in
    let parenthesis : (b == 40) ≡ false = grind (arith, nat_tests) in
    let quote : (b == 39) ≡ false = grind (arith, nat_tests) in
    let digit : is_ascii_digit b ≡ false = grind (arith, nat_tests) in
    rw (tab, feed, return, blank, brace, parenthesis, quote, digit, h) refl

-- a name is spelled
abbrev IsNamed : Option TokenKind → Type 0
IsNamed kind = (text : List ℕ) → IsSpelled text kind → is_identifier text ≡ true

named : (o : Option ℕ) (name : List ℕ) → IsNamed (Some (name_kind o name))
named None name text s = s.0
named (Some w) name text s = s.0

abbrev found : Taken → Result Taken TokenRefusal
found p = Ok p

found-is : (n m : ℕ) (kind other : Option TokenKind) → found (n, kind) ≡ found (m, other) → (n ≡ m) × (kind ≡ other)
found-is n m kind other e =
    let same : (n, kind) ≡ (m, other) = cc in
    (ap (λ (p : Taken). p.0) same, ap (λ (p : Taken). p.1) same)

refused-found : (f : TokenRefusal) (p : Taken) → Err f ≡ found p → ⊥
refused-found f p e = cc

name_found-named : (n : ℕ) (text : List ℕ) (m : ℕ) (other : Option TokenKind) → name_found 1 n text ≡ Ok (m, other) → IsNamed other
name_found-named n text m other e =
    elim (truth (nat_lt MAX_NAME n)) [
      | inl p ↦ absurd (refused-found (LongName 1) (m, other) (rw p at e))
      | inr p ↦ subst IsNamed (found-is n m _ other (rw p at e)).1 (named (place_of word_symbols (lower_case text)) (lower_case text))
    ]

name_at-named : (bytes : List ℕ) (m : ℕ) (other : Option TokenKind) → name_at 1 bytes ≡ Ok (m, other) → IsNamed other
unfolding name_at
name_at-named bytes m other e = name_found-named _ _ m other e

pub name-bounded : (text rest : List ℕ) → is_identifier text ≡ true → begins name_byte rest ≡ false → IsBounded text rest
name-bounded [] rest h b m other e taken = absurd cc
name-bounded (c ∷ cs) rest h b m other e taken =
    let read = sym (name-read c (cs ++ rest) (and-parts (is_ascii_alphabetic c) (is_identifier_rest cs) h).0) ∙ e in
    let is = name_at-named (c ∷ (cs ++ rest)) m other read (take m (c ∷ (cs ++ rest))) taken.can.spelled in
    elim (cases_lt (length (c ∷ cs)) m) [
      | inl l ↦
          let more = longer (c ∷ cs) rest m l taken.can.within in
          let none : more.byte ∷ more.more ≡ [] = longest-by (c ∷ cs) rest (more.byte ∷ more.more) more.after b more.rest_is (ap is_identifier (sym more.front_is) ∙ is) in
          absurd cc
      | inr l ↦ l
    ]

-- ---- numbers

digit-read : (b : ℕ) (bs : List ℕ) → is_ascii_digit b ≡ true → piece_at 1 (b ∷ bs) ≡ number_at 1 (b ∷ bs)
unfolding piece_at is_separator
digit-read b bs h =
    let tab : (b == 9) ≡ false = grind (arith, nat_tests) in
    let feed : (b == 10) ≡ false = grind (arith, nat_tests) in
    let return : (b == 13) ≡ false = grind (arith, nat_tests) in
    let blank : (b == 32) ≡ false = grind (arith, nat_tests) in
    let brace : (b == 123) ≡ false = grind (arith, nat_tests) in
    let parenthesis : (b == 40) ≡ false = grind (arith, nat_tests) in
    let quote : (b == 39) ≡ false = grind (arith, nat_tests) in
    rw (tab, feed, return, blank, brace, parenthesis, quote, h) refl

prefix-bounded : (p : ℕ → Bool) (text rest : List ℕ) → begins p rest ≡ false → prefix_len p (text ++ rest) ≤ length text
prefix-bounded p [] [] b = omega arith
prefix-bounded p [] (x ∷ rest) b = rw b (omega arith)
prefix-bounded p (x ∷ text) rest b =
    elim (truth (p x)) [
      | inl h ↦ rw h (omega (arith, prefix-bounded p text rest b))
      | inr h ↦ rw h (omega arith)
    ]

number_found-count : (n m : ℕ) (o : Option ℕ) (other : Option TokenKind) → number_found 1 n o ≡ Ok (m, other) → n ≡ m
number_found-count n m None other e = absurd (refused-found _ (m, other) e)
number_found-count n m (Some v) other e = (found-is n m _ other e).0

number_at-count : (bytes : List ℕ) (m : ℕ) (other : Option TokenKind) → number_at 1 bytes ≡ Ok (m, other) → prefix_len continues_number bytes ≡ m
unfolding number_at
number_at-count bytes m other e = number_found-count (prefix_len continues_number bytes) m _ other e

decimal-digit : (b : ℕ) → is_digit_of 10 b ≡ true → is_ascii_digit b ≡ true
unfolding digit_value
decimal-digit b h = grind (arith, nat_tests)

begins-digit : (digits rest : List ℕ) (n : ℕ) → IsNumeral 10 digits n → begins is_ascii_digit (digits ++ rest) ≡ true
begins-digit [] rest n h = absurd (h.some refl)
begins-digit (b ∷ bs) rest n h = decimal-digit b (and-parts (is_digit_of 10 b) (list_all (is_digit_of 10) bs) h.each).0

begins-front : (test : ℕ → Bool) (text : List ℕ) → begins test (text ++ []) ≡ begins test text
begins-front test [] = refl
begins-front test (b ∷ bs) = refl

pub number-digit : (text : List ℕ) (n : ℕ) → IsNumber text n → begins is_ascii_digit text ≡ true
number-digit text n (inl decimal, h) = sym (begins-front is_ascii_digit text) ∙ begins-digit text [] n decimal
number-digit text n (inr r, h) = ap (begins is_ascii_digit) r.split ∙ begins-digit r.front (35 ∷ r.digits) r.radix r.radix_is

pub number-bounded : (text rest : List ℕ) → begins is_ascii_digit text ≡ true → begins continues_number rest ≡ false → IsBounded text rest
number-bounded [] rest h b m other e taken = absurd cc
number-bounded (c ∷ cs) rest h b m other e taken =
    let count = number_at-count (c ∷ (cs ++ rest)) m other (sym (digit-read c (cs ++ rest) h) ∙ e) in
    omega (arith, count, prefix-bounded continues_number (c ∷ cs) rest b)

-- ---- strings

abbrev doubled : List ℕ → List ℕ
doubled bytes = Rattle.std.specs.List.flat_map string_element bytes

element-quote : (b : ℕ) → (b == 39) ≡ true → string_element b ≡ 39 ∷ 39 ∷ []
unfolding string_element
element-quote b h = rw h refl

element-other : (b : ℕ) → (b == 39) ≡ false → string_element b ≡ b ∷ []
unfolding string_element
element-other b h = rw h refl

doubled-quote : (b : ℕ) (bs more : List ℕ) → (b == 39) ≡ true → doubled (b ∷ bs) ++ more ≡ 39 ∷ 39 ∷ (doubled bs ++ more)
doubled-quote b bs more h = ap (λ l. (l ++ doubled bs) ++ more) (element-quote b h)

doubled-other : (b : ℕ) (bs more : List ℕ) → (b == 39) ≡ false → doubled (b ∷ bs) ++ more ≡ b ∷ (doubled bs ++ more)
doubled-other b bs more h = ap (λ l. (l ++ doubled bs) ++ more) (element-other b h)

heads : (x y : ℕ) (xs ys : List ℕ) → x ∷ xs ≡ y ∷ ys → (x ≡ y) × (xs ≡ ys)
heads x y xs ys e = (cc, cc)

not-quote : (b : ℕ) → (b == 39) ≡ false → b ≡ 39 → ⊥
not-quote b h e = omega (arith, grind-not b h, e)
  where
    grind-not : (b : ℕ) → (b == 39) ≡ false → b ≢ 39
    grind-not b h = grind (arith, nat_tests)

-- what stands behind the last quote of a string that ends with a later quote begins with one
string-goes : (s t : List ℕ) (b : ℕ) (more : List ℕ) → doubled s ++ 39 ∷ b ∷ more ≡ doubled t ++ 39 ∷ [] → b ≡ 39
string-goes [] [] b more e = absurd (omega (arith, ap length e))
string-goes [] (c ∷ t) b more e =
    elim (truth (c == 39)) [
      | inl q ↦ (heads b 39 more (doubled t ++ 39 ∷ []) (heads 39 39 (b ∷ more) (39 ∷ (doubled t ++ 39 ∷ [])) (e ∙ doubled-quote c t (39 ∷ []) q)).1).0
      | inr q ↦ absurd (not-quote c q (sym (heads 39 c (b ∷ more) (doubled t ++ 39 ∷ []) (e ∙ doubled-other c t (39 ∷ []) q)).0))
    ]
string-goes (a ∷ s) [] b more e =
    elim (truth (a == 39)) [
      | inl q ↦ absurd (omega (arith, ap length (sym (doubled-quote a s (39 ∷ b ∷ more) q) ∙ e)))
      | inr q ↦ absurd (not-quote a q (heads a 39 (doubled s ++ 39 ∷ b ∷ more) [] (sym (doubled-other a s (39 ∷ b ∷ more) q) ∙ e)).0)
    ]
string-goes (a ∷ s) (c ∷ t) b more e =
    elim (truth (a == 39)) [
      | inl q ↦ elim (truth (c == 39)) [
        | inl r ↦
            let k = sym (doubled-quote a s (39 ∷ b ∷ more) q) ∙ e ∙ doubled-quote c t (39 ∷ []) r in
            string-goes s t b more (heads 39 39 (doubled s ++ 39 ∷ b ∷ more) (doubled t ++ 39 ∷ []) (heads 39 39 (39 ∷ (doubled s ++ 39 ∷ b ∷ more)) (39 ∷ (doubled t ++ 39 ∷ [])) k).1).1
        | inr r ↦
            let k = sym (doubled-quote a s (39 ∷ b ∷ more) q) ∙ e ∙ doubled-other c t (39 ∷ []) r in
            absurd (not-quote c r (sym (heads 39 c (39 ∷ (doubled s ++ 39 ∷ b ∷ more)) (doubled t ++ 39 ∷ []) k).0))
      ]
      | inr q ↦ elim (truth (c == 39)) [
        | inl r ↦
            let k = sym (doubled-other a s (39 ∷ b ∷ more) q) ∙ e ∙ doubled-quote c t (39 ∷ []) r in
            absurd (not-quote a q (heads a 39 (doubled s ++ 39 ∷ b ∷ more) (39 ∷ (doubled t ++ 39 ∷ [])) k).0)
        | inr r ↦
            let k = sym (doubled-other a s (39 ∷ b ∷ more) q) ∙ e ∙ doubled-other c t (39 ∷ []) r in
            string-goes s t b more (heads a c (doubled s ++ 39 ∷ b ∷ more) (doubled t ++ 39 ∷ []) k).1
      ]
    ]

quote-read : (bs : List ℕ) → piece_at 1 (39 ∷ bs) ≡ string_at 1 (39 ∷ bs)
unfolding piece_at is_separator
quote-read bs = refl

abbrev IsStringKind : Option TokenKind → Type 0
IsStringKind kind = (text : List ℕ) → IsSpelled text kind → (s : List ℕ) × IsString text s

string_found-kind : (text : List ℕ) (o : Option ℕ) (m : ℕ) (other : Option TokenKind) → string_found 1 text o ≡ Ok (m, other) → IsStringKind other
string_found-kind text None m other e = absurd (refused-found _ (m, other) e)
string_found-kind text (Some n) m other e = subst IsStringKind (found-is (n + 1) m _ other e).1 (λ t s. (_, s))

string_at-kind : (bytes : List ℕ) (m : ℕ) (other : Option TokenKind) → string_at 1 bytes ≡ Ok (m, other) → IsStringKind other
unfolding string_at
string_at-kind bytes m other e = string_found-kind (drop 1 bytes) _ m other e

pub string-bounded : (text rest s : List ℕ) → IsString text s → begins (λ b. b == 39) rest ≡ false → IsBounded text rest
string-bounded text rest s is b m other e taken =
    let first : text ++ rest ≡ 39 ∷ ((doubled s ++ 39 ∷ []) ++ rest) = ap (λ (l : List ℕ). l ++ rest) is.text_is in
    let read = sym (quote-read ((doubled s ++ 39 ∷ []) ++ rest)) ∙ ap (piece_at 1) (sym first) ∙ e in
    let kind = string_at-kind (39 ∷ ((doubled s ++ 39 ∷ []) ++ rest)) m other read in
    let other = kind (take m (text ++ rest)) taken.can.spelled in
    elim (cases_lt (length text) m) [
      | inl l ↦
          let more = longer text rest m l taken.can.within in
          let whole : 39 ∷ (doubled s ++ 39 ∷ more.byte ∷ more.more) ≡ 39 ∷ (doubled other.0 ++ 39 ∷ []) =
          ap (λ l. 39 ∷ l) (sym (append_assoc (doubled s) (39 ∷ []) (more.byte ∷ more.more))) ∙ ap (λ (l : List ℕ). l ++ more.byte ∷ more.more) (sym is.text_is) ∙ sym more.front_is ∙ other.1.text_is in
          let quote = string-goes s other.0 more.byte more.more (heads 39 39 (doubled s ++ 39 ∷ more.byte ∷ more.more) (doubled other.0 ++ 39 ∷ []) whole).1 in
          let no : (more.byte == 39) ≡ false = sym (begins-append (λ b. b == 39) rest more.byte more.more more.after more.rest_is) ∙ b in
          absurd (not-quote more.byte no quote)
      | inr l ↦ l
    ]

-- ---- symbols

-- one or two bytes that begin nothing else
abbrev pub is_symbol_byte : ℕ → Bool
is_symbol_byte b = not (is_separator b) && not (b == 123) && not (b == 39) && not (is_ascii_digit b) && not (is_ascii_alphabetic b)

unfoldable pub is_symbol_text : List ℕ → Bool
is_symbol_text [] = false
is_symbol_text (b ∷ []) = is_symbol_byte b
is_symbol_text (b ∷ c ∷ []) = is_symbol_byte b && not (b == 40 && c == 42)
is_symbol_text (b ∷ c ∷ d ∷ bs) = false

bytes_same : (xs ys : List ℕ) → bytes_eq xs ys ≡ true → xs ≡ ys
bytes_same xs ys h = grind (arith, bytes_eq-Decides)

-- a text that has a place passes each test that all texts pass
pub place-test : (test : List ℕ → Bool) (all : List (List ℕ)) (i w : ℕ) (text : List ℕ) → list_all test all ≡ true → position_from (λ s. bytes_eq s text) i all ≡ Some w → test text ≡ true
place-test test [] i w text h e = let n : None ≡ Some w = e in absurd cc
place-test test (s ∷ all) i w text h e =
    let parts = and-parts (test s) (list_all test all) h in
    elim (truth (bytes_eq s text)) [
      | inl p ↦ ap test (sym (bytes_same s text p)) ∙ parts.0
      | inr p ↦ place-test test all (i + 1) w text parts.1 (rw p at e)
    ]

pub all_symbols : list_all is_symbol_text special_symbols ≡ true
unfolding is_symbol_text special_symbols is_separator
all_symbols = refl

symbol-read-byte : (b : ℕ) (bs : List ℕ) → is_symbol_byte b ≡ true → (b == 40 && get_or bs 0 0 == 42) ≡ false → piece_at 1 (b ∷ bs) ≡ symbol_at 1 (b ∷ bs)
unfolding piece_at
symbol-read-byte b bs h c =
    let p = and-parts (not (is_separator b) && not (b == 123) && not (b == 39) && not (is_ascii_digit b)) (not (is_ascii_alphabetic b)) h in
    let q = and-parts (not (is_separator b) && not (b == 123) && not (b == 39)) (not (is_ascii_digit b)) p.0 in
    let r = and-parts (not (is_separator b) && not (b == 123)) (not (b == 39)) q.0 in
    let s = and-parts (not (is_separator b)) (not (b == 123)) r.0 in
    rw (not-true _ s.0, not-true _ s.1, c, not-true _ r.1, not-true _ q.1, not-true _ p.1) refl
  where
    not-true : (b : Bool) → not b ≡ true → b ≡ false
    not-true true h = absurd cc
    not-true false h = refl

short-count : (o : Option ℕ) (m : ℕ) (other : Option TokenKind) → short_symbol 1 o ≡ Ok (m, other) → 1 ≡ m
short-count None m other e = absurd (refused-found _ (m, other) e)
short-count (Some n) m other e = (found-is 1 m _ other e).0

long-count : (bytes : List ℕ) (o : Option ℕ) (m : ℕ) (other : Option TokenKind) → long_symbol 1 bytes o ≡ Ok (m, other) → (m ≤ 2) × (is_some o ≡ false → m ≤ 1)
long-count bytes None m other e = let k = short-count (symbol_of (take 1 bytes)) m other e in (omega arith, λ _. omega arith)
long-count bytes (Some n) m other e = let k = (found-is 2 m _ other e).0 in (omega arith, λ (h : true ≡ false). absurd cc)

symbol_at-one : (b m : ℕ) (other : Option TokenKind) → symbol_at 1 (b ∷ []) ≡ Ok (m, other) → 1 ≡ m
unfolding symbol_at
symbol_at-one b m other e = short-count (symbol_of (b ∷ [])) m other e

symbol_at-two : (b c : ℕ) (bs : List ℕ) (m : ℕ) (other : Option TokenKind) → symbol_at 1 (b ∷ c ∷ bs) ≡ Ok (m, other) → (m ≤ 2) × (is_some (symbol_of (b ∷ c ∷ [])) ≡ false → m ≤ 1)
unfolding symbol_at
symbol_at-two b c bs m other e =
    let two : nat_le 2 (suc (suc (length bs))) ≡ true = grind (arith, nat_tests) in
    long-count (b ∷ c ∷ bs) (symbol_of (b ∷ c ∷ [])) m other (rw two at e)

or-parts : (a b : Bool) → (a || b) ≡ false → (a ≡ false) × (b ≡ false)
or-parts true b h = absurd cc
or-parts false b h = (refl, h)

one-apart : (b c : ℕ) → glues (b ∷ []) c ≡ false → (b == 40 && c == 42) ≡ false
one-apart b c h =
    elim (truth (b == 40)) [
      | inl p ↦
          let at : b ≡ 40 = grind (arith, nat_tests) in
          let opened : bytes_eq (b ∷ []) (40 ∷ []) ≡ true = ap (λ x. bytes_eq (x ∷ []) (40 ∷ [])) at in
          let k = (or-parts (is_some (symbol_of (b ∷ c ∷ []))) (c == 42 && bytes_eq (b ∷ []) (40 ∷ [])) h).1 in
          rw p (and-true (c == 42) (rw opened at k))
      | inr p ↦ rw p refl
    ]
  where
    and-true : (a : Bool) → (a && true) ≡ false → a ≡ false
    and-true true h = h
    and-true false h = refl

pub symbol-bounded : (text rest : List ℕ) → is_symbol_text text ≡ true → begins (glues text) rest ≡ false → IsBounded text rest
unfolding is_symbol_text
symbol-bounded [] rest h g m other e taken = absurd cc
symbol-bounded (b ∷ []) [] h g m other e taken =
    let k = symbol_at-one b m other (sym (symbol-read-byte b [] h (and-no (b == 40))) ∙ e) in omega arith
  where
    and-no : (a : Bool) → (a && false) ≡ false
    and-no true = refl
    and-no false = refl
symbol-bounded (b ∷ []) (r ∷ rest) h g m other e taken =
    let none = (or-parts (is_some (symbol_of (b ∷ r ∷ []))) (r == 42 && bytes_eq (b ∷ []) (40 ∷ [])) g).0 in
    (symbol_at-two b r rest m other (sym (symbol-read-byte b (r ∷ rest) h (one-apart b r g)) ∙ e)).1 none
symbol-bounded (b ∷ c ∷ []) rest h g m other e taken =
    let parts = and-parts (is_symbol_byte b) (not (b == 40 && c == 42)) h in
    (symbol_at-two b c rest m other (sym (symbol-read-byte b (c ∷ rest) parts.0 (not-true _ parts.1)) ∙ e)).0
  where
    not-true : (b : Bool) → not b ≡ true → b ≡ false
    not-true true h = absurd cc
    not-true false h = refl
symbol-bounded (b ∷ c ∷ d ∷ bs) rest h g m other e taken = absurd cc

-- ---- comments

brace-read : (bs : List ℕ) → piece_at 1 (123 ∷ bs) ≡ comment_at 1 (123 ∷ bs)
unfolding piece_at is_separator
brace-read bs = refl

comment_found-none : (n : ℕ) (o : Option ℕ) (m : ℕ) (other : Option TokenKind) → comment_found 1 n o ≡ Ok (m, other) → other ≡ None
comment_found-none n None m other e = absurd (refused-found _ (m, other) e)
comment_found-none n (Some k) m other e = sym (found-is (n + k) m None other e).1

comment_at-none : (bs : List ℕ) (m : ℕ) (other : Option TokenKind) → comment_at 1 (123 ∷ bs) ≡ Ok (m, other) → other ≡ None
unfolding comment_at
comment_at-none bs m other e = comment_found-none 1 (comment_end false 0 bs) m other e

closer-short : (closer : List ℕ) → IsCloser closer → length closer ≤ 2
closer-short closer (inl is) = omega (arith, ap length is)
closer-short closer (inr is) = omega (arith, ap length is)

-- a body that is longer than another one before a brace has that brace
has-brace : (body other closer : List ℕ) (b : ℕ) (more : List ℕ) → other ++ closer ≡ body ++ 125 ∷ b ∷ more → IsCloser closer → (front : List ℕ) × (back : List ℕ) × (other ≡ front ++ ((125 ∷ []) ++ back))
has-brace [] [] closer b more e (inl is) = absurd (omega (arith, ap length (sym is ∙ e)))
has-brace [] [] closer b more e (inr is) = let k = (heads 42 125 (41 ∷ []) (b ∷ more) (sym is ∙ e)).0 in absurd (omega (arith, k))
has-brace [] (o ∷ other) closer b more e closes = ([], other, ap (λ x. x ∷ other) (heads o 125 (other ++ closer) (b ∷ more) e).0)
has-brace (x ∷ body) [] closer b more e closes = absurd (omega (arith, ap length e, length-append body (125 ∷ b ∷ more), closer-short closer closes))
has-brace (x ∷ body) (o ∷ other) closer b more e closes =
    let r = has-brace body other closer b more (heads o x (other ++ closer) (body ++ 125 ∷ b ∷ more) e).1 closes in
    (o ∷ r.0, r.1, ap (λ l. o ∷ l) r.2)

mark-no : (rest more : List ℕ) (opener : List ℕ) → opener ≡ 40 ∷ 42 ∷ [] → 123 ∷ rest ≡ opener ++ more → ⊥
mark-no rest more opener is e = let k = (heads 123 40 rest (42 ∷ more) (e ∙ ap (λ (l : List ℕ). l ++ more) is)).0 in omega (arith, k)

comment-longer : (body rest text : List ℕ) (b : ℕ) (more : List ℕ) → text ≡ 123 ∷ (body ++ 125 ∷ b ∷ more) → IsComment text → ⊥
comment-longer body rest text b more e c = opened c.opens
  where
    opened : IsOpener c.opener → ⊥
    opened (inr is) = mark-no (body ++ 125 ∷ b ∷ more) (c.body ++ c.closer) c.opener is (sym e ∙ c.text_is)
    opened (inl is) =
        let inner = (heads 123 123 (c.body ++ c.closer) (body ++ 125 ∷ b ∷ more) (ap (λ (l : List ℕ). l ++ (c.body ++ c.closer)) (sym is) ∙ sym c.text_is ∙ e)).1 in
        let r = has-brace body c.body c.closer b more inner c.closes in
        c.first r.0 (125 ∷ []) r.1 (inl refl) r.2

separator-no : (text rest : List ℕ) (b : ℕ) → text ≡ b ∷ [] → is_separator b ≡ true → text ≡ 123 ∷ rest → ⊥
unfolding is_separator
separator-no text rest b e s t = let k : b ≡ 123 = (heads b 123 [] rest (sym e ∙ t)).0 in let no : false ≡ true = rw k at s in cc

comment-spelled : (body text : List ℕ) (b : ℕ) (more : List ℕ) → text ≡ 123 ∷ (body ++ 125 ∷ b ∷ more) → IsSpelled text None → ⊥
comment-spelled body text b more e (inl s) = separator-no text (body ++ 125 ∷ b ∷ more) s.0 s.1 s.2 e
comment-spelled body text b more e (inr c) = comment-longer body [] text b more e c

pub comment-bounded : (body rest : List ℕ) → IsBounded (123 ∷ (body ++ 125 ∷ [])) rest
comment-bounded body rest m other e taken =
    let none = comment_at-none ((body ++ 125 ∷ []) ++ rest) m other (sym (brace-read ((body ++ 125 ∷ []) ++ rest)) ∙ e) in
    elim (cases_lt (length (123 ∷ (body ++ 125 ∷ []))) m) [
      | inl l ↦
          let more = longer (123 ∷ (body ++ 125 ∷ [])) rest m l taken.can.within in
          let spelled = subst (λ k. IsSpelled (take m (123 ∷ ((body ++ 125 ∷ []) ++ rest))) k) none taken.can.spelled in
          absurd (comment-spelled body (take m (123 ∷ ((body ++ 125 ∷ []) ++ rest))) more.byte more.more (more.front_is ∙ ap (λ l. 123 ∷ l) (append_assoc body (125 ∷ []) (more.byte ∷ more.more))) spelled)
      | inr l ↦ l
    ]
