-- The reader of words finds exactly the command that they are.
use Rattle.std.proofs.Common.{◌≡◌, ℕ, ◌<◌, ◌≤◌, ◌^◌, Bool, true, false, ◌==◌, ◌&&◌, nat_lt, nat_le, cond, ◌⊎◌, inl, inr, List, [], ◌∷◌, ◌++◌, length, codes, Option, Some, None, unwrap_or, refl, sym, ap, subst, ◌∙◌, append-nil, arith, lt-ltb, ltb-true, bytes_eq, ◌+◌, drop, get_or, drop-cons, drop_of_length-le, add-one, MatchOption}
use Rattle.std.specs.List.{list_all}
use Rattle.std.specs.Char.{is_ascii_digit}
use Rattle.std.proofs.lemmas.Bool.{cases_Bool, eqb-true}
use Rattle.std.proofs.lemmas.Bool.Decides.{nat_tests}
use Rattle.std.proofs.lemmas.Option.{cond_some, same_Some}
use Rattle.std.proofs.lemmas.Slice.Eq.{bytes_eq-Decides}
use Rattle.std.specs.String.{string_bytes}
use Rattle.std.specs.declared.string.String.{String}
use Rattle.std.specs.declared.alloc.Global.{Global}
use Rattle.ep_drive.specs.Asked.{asked_by}
use Rattle.ep_drive.specs.declared.words.Command.{Command as ReadCommand}
use Rattle.ep_drive.specs.Commands.{Command, Go, bytes_of, is_option, IsTicks, IsWordRow, nothing, option, joined, ended, named, usual_budget, IsBudget, WordsOf}
use Rattle.ep_drive.specs.Numbers.{value_of, number_of}
use Rattle.ep_drive.specs.WordReading.{◌>>=◌, Gives, Taken, taken, as_ticks, ticks_of, after_front, take_ticks, take_source, take_other, take_any, take_word, take_words, asked, asked_with, nothing_taken, read_row, read_words}
use Rattle.ep_drive.specs.declared.words.Expected.{Expected}
use Rattle.ep_drive.specs.declared.words.Expected.TheVariants.{Any, Ticks, Source}
use Rattle.std.proofs.lemmas.Bool.{and_parts}

-- a test that was made first
chosen : {A : Type 0} (b : Bool) (x y z : A) → cond b x y ≡ z → ((b ≡ true) × (x ≡ z)) ⊎ ((b ≡ false) × (y ≡ z))
chosen true x y z e = inl (refl, e)
chosen false x y z e = inr (refl, e)

-- what is there of an option
abbrev pub list_of : {A : Type 0} → Option A → List A
list_of None = []
list_of (Some x) = x ∷ []

-- a number, and then a row
abbrev pub IsNumbered : List (List ℕ) → List ℕ → List (List ℕ) → Type 0
IsNumbered [] ticks sources = ⊥
IsNumbered (text ∷ words) [] sources = ⊥
IsNumbered (text ∷ words) (n ∷ ticks) sources = IsTicks text n × IsWordRow words ticks sources

-- the words that follow have these numbers and these sources
abbrev pub IsRowAt : Expected → List (List ℕ) → List ℕ → List (List ℕ) → Type 0
IsRowAt Any words ticks sources = IsWordRow words ticks sources
IsRowAt Ticks words ticks sources = IsNumbered words ticks sources
IsRowAt Source words ticks sources = (ticks ≡ []) × (sources ≡ words)

-- a step that did not fail
bound : {A B P : Type 0} (o : Option A) (f : A → Option B) (y : B) → (o >>= f) ≡ Some y → ((x : A) → o ≡ Some x → f x ≡ Some y → P) → P
bound None f y e k = absurd cc
bound (Some x) f y e k = k x refl e

word_is : (word text : List ℕ) → bytes_eq word text ≡ true → word ≡ text
word_is word text h = (bytes_eq-Decides word text).0 h

-- ---- what is read is a command

number_is : (text : List ℕ) (n : ℕ) → number_of text ≡ Some n → value_of text ≡ n
number_is text n e = (cond_some (nat_lt (value_of text) (2 ^ 63)) (value_of text) n e).1

ticks-are : (text : List ℕ) (n : ℕ) → ticks_of text ≡ Some n → IsTicks text n
ticks-are text n e =
    let c = cond_some_of (list_all is_ascii_digit text && nat_le (length text) 10) (number_of text >>= as_ticks) n e in
    let d = and_parts (list_all is_ascii_digit text) (nat_le (length text) 10) c.0 in
    bound (number_of text) as_ticks n c.1 (λ m m_is e1.
    let a = cond_some (nat_lt 0 m && nat_lt m (10 ^ 10)) m n e1 in
    let r = and_parts (nat_lt 0 m) (nat_lt m (10 ^ 10)) a.0 in
    record {
      digits = d.0;
      short = short (length text) d.1;
      value = number_is text m m_is ∙ a.1;
      least = subst (λ (k : ℕ). 0 < k) a.1 (ltb-true 0 m r.0);
      greatest = subst (λ (k : ℕ). k < 10 ^ 10) a.1 (ltb-true m (10 ^ 10) r.1);
    })
  where
    cond_some_of : (b : Bool) (o : Option ℕ) (y : ℕ) → cond b o None ≡ Some y → (b ≡ true) × (o ≡ Some y)
    cond_some_of true o y e = (refl, e)
    cond_some_of false o y e = absurd cc

    short : (k : ℕ) → nat_le k 10 ≡ true → k ≤ 10
    short k h = grind (arith, nat_tests)

-- behind a front stands the rest
front-is : (front text rest : List ℕ) → after_front front text ≡ Some rest → text ≡ front ++ rest
front-is [] text rest e = same_Some text rest e
front-is (byte ∷ front) [] rest e = absurd cc
front-is (byte ∷ front) (next ∷ text) rest e =
    elim (chosen (next == byte) (after_front front text) None (Some rest) e) [
      | inl h ↦
          let same : next ≡ byte = eqb-true next byte h.0 in
          rw (same, front-is front text rest h.1) refl
      | inr h ↦ absurd cc
    ]

-- the numbers and sources of words, which stand behind those that were taken
pub record Reads (e : Expected) (t : Option ℕ) (s : Option (List ℕ)) (words : List (List ℕ)) (r : Taken) : Type 0 where
  pub ticks : List ℕ
  pub sources : List (List ℕ)
  pub row : IsRowAt e words ticks sources
  pub all_ticks : list_of t ++ ticks ≡ list_of r.ticks
  pub all_sources : list_of s ++ sources ≡ list_of r.source

-- after a number
numbered : (t : Option ℕ) (s : Option (List ℕ)) (text : List ℕ) (next : Taken) → take_ticks (taken Any t s) text ≡ Some next → (n : ℕ) × (t ≡ None) × IsTicks text n × (next ≡ taken Any (Some n) s)
numbered (Some x) s text next e = absurd cc
numbered None s text next e = bound (ticks_of text) (λ n. Some (taken Any (Some n) s)) next e (λ n n_is e1. (n, refl, ticks-are text n n_is, sym (same_Some (taken Any (Some n) s) next e1)))

-- after a source
sourced : (e : Expected) (t : Option ℕ) (s : Option (List ℕ)) (word : List ℕ) (next : Taken) → take_source (taken e t s) word ≡ Some next → (s ≡ None) × (next ≡ taken e t (Some word))
sourced e t (Some x) word next h = absurd cc
sourced e t None word next h = (refl, sym (same_Some (taken e t (Some word)) next h))

module _ (r : Taken) (whole : r.expected ≡ Ticks → ⊥) where
  -- what is read of the words that follow
  abbrev Goes : List (List ℕ) → Type 0
  Goes words = (e : Expected) (t : Option ℕ) (s : Option (List ℕ)) → take_words (taken e t s) words ≡ Some r → Reads e t s words r

  -- behind a number that was taken
  after-number : (e : Expected) (t : Option ℕ) (s : Option (List ℕ)) (word text : List ℕ) (words : List (List ℕ)) → Goes words
      → ((n : ℕ) (ticks : List ℕ) (sources : List (List ℕ)) → IsTicks text n → IsWordRow words ticks sources → IsRowAt e (word ∷ words) (n ∷ ticks) sources)
      → (next : Taken) → take_ticks (taken Any t s) text ≡ Some next → take_words next words ≡ Some r → Reads e t s (word ∷ words) r
  after-number e t s word text words go make next h rest =
      let n = numbered t s text next h in
      let more = go Any (Some n.0) s (subst (λ (x : Taken). take_words x words ≡ Some r) n.3 rest) in
      record {
        ticks = n.0 ∷ more.ticks;
        sources = more.sources;
        row = make n.0 more.ticks more.sources n.2 more.row;
        all_ticks = subst (λ (o : Option ℕ). list_of o ++ (n.0 ∷ more.ticks) ≡ list_of r.ticks) (sym n.1) more.all_ticks;
        all_sources = more.all_sources;
      }

  -- behind a source that was taken
  after-source : (e : Expected) (t : Option ℕ) (s : Option (List ℕ)) (word : List ℕ) (words : List (List ℕ)) → Goes words
      → ((ticks : List ℕ) (sources : List (List ℕ)) → IsRowAt e words ticks sources → IsRowAt e (word ∷ words) ticks (word ∷ sources))
      → (next : Taken) → take_source (taken e t s) word ≡ Some next → take_words next words ≡ Some r → Reads e t s (word ∷ words) r
  after-source e t s word words go make next h rest =
      let n = sourced e t s word next h in
      let more = go e t (Some word) (subst (λ (x : Taken). take_words x words ≡ Some r) n.1 rest) in
      record {
        ticks = more.ticks;
        sources = word ∷ more.sources;
        row = make more.ticks more.sources more.row;
        all_ticks = more.all_ticks;
        all_sources = subst (λ (o : Option (List ℕ)). list_of o ++ (word ∷ more.sources) ≡ list_of r.source) (sym n.0) more.all_sources;
      }

  -- behind the word that ends the options
  after-end : (t : Option ℕ) (s : Option (List ℕ)) (word : List ℕ) (words : List (List ℕ)) → Goes words → word ≡ codes "--"
      → (next : Taken) → Some (taken Source t s) ≡ Some next → take_words next words ≡ Some r → Reads Any t s (word ∷ words) r
  after-end t s word words go is next h rest =
      let more = go Source t s (subst (λ (x : Taken). take_words x words ≡ Some r) (sym (same_Some (taken Source t s) next h)) rest) in
      let row : IsWordRow (word ∷ words) [] words = ended is in
      let row2 : IsWordRow (word ∷ words) more.ticks words = subst (λ (ts : List ℕ). IsWordRow (word ∷ words) ts words) (sym more.row.0) row in
      record {
        ticks = more.ticks;
        sources = more.sources;
        row = subst (λ (ss : List (List ℕ)). IsWordRow (word ∷ words) more.ticks ss) (sym more.row.1) row2;
        all_ticks = more.all_ticks;
        all_sources = more.all_sources;
      }

  option_row : (word : List ℕ) (words : List (List ℕ)) (ticks : List ℕ) (sources : List (List ℕ)) → word ≡ codes "--ticks" → IsNumbered words ticks sources → IsWordRow (word ∷ words) ticks sources
  option_row word [] ticks sources is h = absurd h
  option_row word (text ∷ words) [] sources is h = absurd h
  option_row word (text ∷ words) (n ∷ ticks) sources is h = option is h.0 h.1

  -- behind an option whose number follows
  after-option : (t : Option ℕ) (s : Option (List ℕ)) (word : List ℕ) (words : List (List ℕ)) → Goes words → word ≡ codes "--ticks"
      → (next : Taken) → Some (taken Ticks t s) ≡ Some next → take_words next words ≡ Some r → Reads Any t s (word ∷ words) r
  after-option t s word words go is next h rest =
      let more = go Ticks t s (subst (λ (x : Taken). take_words x words ≡ Some r) (sym (same_Some (taken Ticks t s) next h)) rest) in
      record {
        ticks = more.ticks;
        sources = more.sources;
        row = option_row word words more.ticks more.sources is more.row;
        all_ticks = more.all_ticks;
        all_sources = more.all_sources;
      }

  -- behind any other word
  after-other : (t : Option ℕ) (s : Option (List ℕ)) (word : List ℕ) (words : List (List ℕ)) (o : Option (List ℕ)) → after_front (codes "--ticks=") word ≡ o → Goes words
      → (next : Taken) → take_other (taken Any t s) word o ≡ Some next → take_words next words ≡ Some r → Reads Any t s (word ∷ words) r
  after-other t s word words (Some text) is go next h rest =
      after-number Any t s word text words go (λ n ticks sources k row. joined text (front-is (codes "--ticks=") word text is) k row) next h rest
  after-other t s word words None is go next h rest =
      elim (chosen (is_option word) None (take_source (taken Any t s) word) (Some next) h) [
        | inl c ↦ absurd cc
        | inr c ↦ after-source Any t s word words go (λ ticks sources row. named c.0 row) next c.1 rest
      ]

  -- behind a word where options may stand
  after-any : (t : Option ℕ) (s : Option (List ℕ)) (word : List ℕ) (words : List (List ℕ)) → Goes words
      → (next : Taken) → take_any (taken Any t s) word ≡ Some next → take_words next words ≡ Some r → Reads Any t s (word ∷ words) r
  after-any t s word words go next h rest =
      elim (chosen (bytes_eq word (codes "--")) (Some (taken Source t s)) (cond (bytes_eq word (codes "--ticks")) (Some (taken Ticks t s)) (take_other (taken Any t s) word (after_front (codes "--ticks=") word))) (Some next) h) [
        | inl c ↦ after-end t s word words go (word_is word (codes "--") c.0) next c.1 rest
        | inr c ↦
            elim (chosen (bytes_eq word (codes "--ticks")) (Some (taken Ticks t s)) (take_other (taken Any t s) word (after_front (codes "--ticks=") word)) (Some next) c.1) [
              | inl d ↦ after-option t s word words go (word_is word (codes "--ticks") d.0) next d.1 rest
              | inr d ↦ after-other t s word words (after_front (codes "--ticks=") word) refl go next d.1 rest
            ]
      ]

  row-is : (words : List (List ℕ)) → Goes words
  unfolding take_word
  row-is [] Any t s h =
      let same : taken Any t s ≡ r = same_Some (taken Any t s) r h in
      record { ticks = []; sources = []; row = nothing; all_ticks = append-nil (list_of t) ∙ ap (λ (x : Taken). list_of x.ticks) same; all_sources = append-nil (list_of s) ∙ ap (λ (x : Taken). list_of x.source) same }
  row-is [] Ticks t s h = absurd (whole (ap (λ (x : Taken). x.expected) (sym (same_Some (taken Ticks t s) r h))))
  row-is [] Source t s h =
      let same : taken Source t s ≡ r = same_Some (taken Source t s) r h in
      record { ticks = []; sources = []; row = (refl, refl); all_ticks = append-nil (list_of t) ∙ ap (λ (x : Taken). list_of x.ticks) same; all_sources = append-nil (list_of s) ∙ ap (λ (x : Taken). list_of x.source) same }
  row-is (word ∷ words) Any t s h = bound (take_any (taken Any t s) word) (λ next. take_words next words) r h (λ next a b. after-any t s word words (row-is words) next a b)
  row-is (word ∷ words) Ticks t s h =
      bound (take_ticks (taken Ticks t s) word) (λ next. take_words next words) r h (λ next a b. after-number Ticks t s word word words (row-is words) (λ n ticks sources k row. (k, row)) next a b)
  row-is (word ∷ words) Source t s h =
      bound (take_source (taken Source t s) word) (λ next. take_words next words) r h (λ next a b.
      after-source Source t s word words (row-is words) (λ ticks sources row. (row.0, ap (λ (ws : List (List ℕ)). word ∷ ws) row.1)) next a b)

budget-is : (t : Option ℕ) (ticks : List ℕ) → ticks ≡ list_of t → IsBudget ticks (unwrap_or t usual_budget)
budget-is None ticks e = subst (λ (ts : List ℕ). IsBudget ts usual_budget) (sym e) refl
budget-is (Some n) ticks e = subst (λ (ts : List ℕ). IsBudget ts n) (sym e) refl

-- a row of words that is read
record IsGoRow (row : List (List ℕ)) (budget : ℕ) (sources : List (List ℕ)) : Type 0 where
  ticks : List ℕ
  row_is : IsWordRow row ticks sources
  one : length sources ≡ 1
  budget_is : IsBudget ticks budget

asked-is : (e : Expected) (t : Option ℕ) (s : Option (List ℕ)) (c : Command) → asked_with e t s ≡ Some c → (e ≡ Ticks → ⊥) × ((source : List ℕ) × (s ≡ Some source) × (c ≡ Go (unwrap_or t usual_budget) (source ∷ [])))
asked-is Ticks t s c h = absurd cc
asked-is Any t None c h = absurd cc
asked-is Any t (Some x) c h = ((λ e. cc), (x, refl, sym (same_Some (Go (unwrap_or t usual_budget) (x ∷ [])) c h)))
asked-is Source t None c h = absurd cc
asked-is Source t (Some x) c h = ((λ e. cc), (x, refl, sym (same_Some (Go (unwrap_or t usual_budget) (x ∷ [])) c h)))

row-asks : (row : List (List ℕ)) (budget : ℕ) (sources : List (List ℕ)) → read_row row ≡ Some (Go budget sources) → IsGoRow row budget sources
row-asks row budget sources h =
    bound (take_words nothing_taken row) asked (Go budget sources) h (λ r r_is e.
    let a = asked-is r.expected r.ticks r.source (Go budget sources) e in
    let more = row-is r a.0 row Any None None r_is in
    let same : Go budget sources ≡ Go (unwrap_or r.ticks usual_budget) (a.1.0 ∷ []) = a.1.2 in
    let same_sources : sources ≡ a.1.0 ∷ [] = cc in
    let same_budget : budget ≡ unwrap_or r.ticks usual_budget = cc in
    let all : more.sources ≡ sources = more.all_sources ∙ ap list_of a.1.1 ∙ sym same_sources in
    record {
      ticks = more.ticks;
      row_is = subst (λ (ss : List (List ℕ)). IsWordRow row more.ticks ss) all more.row;
      one = ap length same_sources;
      budget_is = subst (λ (b : ℕ). IsBudget more.ticks b) (sym same_budget) (budget-is r.ticks more.ticks more.all_ticks);
    })

-- what is read is the command of the words
pub words-are : (words : List (List ℕ)) (c : Command) → read_words words ≡ Some c → WordsOf words c
words-are [] (Go budget sources) h = absurd cc
words-are (word ∷ words) (Go budget sources) h =
    elim (chosen (bytes_eq word (codes "go") && nat_lt (length (word ∷ words)) (2 ^ 32)) (read_row words) None (Some (Go budget sources)) h) [
      | inl c ↦
          let d = and_parts (bytes_eq word (codes "go")) (nat_lt (length (word ∷ words)) (2 ^ 32)) c.0 in
          let row = row-asks words budget sources c.1 in
          let first : word ≡ codes "go" = word_is word (codes "go") d.0 in
          record { row = words; ticks = row.ticks; words_are = ap (λ (w : List ℕ). w ∷ words) first; row_is = row.row_is; one = row.one; budget_is = row.budget_is; few = ltb-true (length (word ∷ words)) (2 ^ 32) d.1 }
      | inr c ↦ absurd cc
    ]

-- ---- a command is read

number-read : (digits : List ℕ) (number : ℕ) → value_of digits ≡ number → number < 2 ^ 63 → number_of digits ≡ Some number
number-read digits number e h =
    let small : nat_lt number (2 ^ 63) ≡ true = lt-ltb number (2 ^ 63) h in
    rw (e, small) refl

ticks-read : (text : List ℕ) (n : ℕ) → IsTicks text n → ticks_of text ≡ Some n
ticks-read text n is =
    let digits : list_all is_ascii_digit text ≡ true = is.digits in
    let short : nat_le (length text) 10 ≡ true = grind (arith, nat_tests, is.short) in
    let number : number_of text ≡ Some n = number-read text n is.value (omega (arith, is.greatest)) in
    let least : nat_lt 0 n ≡ true = lt-ltb 0 n is.least in
    let greatest : nat_lt n (10 ^ 10) ≡ true = lt-ltb n (10 ^ 10) is.greatest in
    rw (digits, short, number) (rw (least, greatest) refl)

-- nothing follows one that was taken
alone : {A : Type 0} (o p : Option A) → list_of o ++ [] ≡ list_of p → o ≡ p
alone None None h = refl
alone None (Some x) h = absurd cc
alone (Some x) None h = absurd cc
alone (Some x) (Some y) h = let same : x ≡ y = cc in ap (λ z. Some z) same

-- where one follows, none was taken
first_one : {A : Type 0} (o p : Option A) (x : A) (xs : List A) → list_of o ++ (x ∷ xs) ≡ list_of p → o ≡ None
first_one None p x xs h = refl
first_one (Some y) None x xs h = absurd cc
first_one (Some y) (Some z) x xs h = absurd cc

-- the words are taken, and no number is wanting
pub record IsTaken (e : Expected) (t : Option ℕ) (s : Option (List ℕ)) (words : List (List ℕ)) (t2 : Option ℕ) (s2 : Option (List ℕ)) : Type 0 where
  pub expected : Expected
  pub whole : expected ≡ Ticks → ⊥
  pub is : take_words (taken e t s) words ≡ Some (taken expected t2 s2)

not_bytes : (a b : List ℕ) → (a ≡ b → ⊥) → bytes_eq a b ≡ false
not_bytes a b h =
    elim (cases_Bool (bytes_eq a b)) [
      | inl e ↦ absurd (h (word_is a b e))
      | inr e ↦ e
    ]

no_source_word : (word : List ℕ) → is_option word ≡ false → (bytes_eq word (codes "--") ≡ false) × (bytes_eq word (codes "--ticks") ≡ false) × (after_front (codes "--ticks=") word ≡ None)
no_source_word [] h = (refl, refl, refl)
no_source_word (byte ∷ []) h =
    (not_bytes (byte ∷ []) (codes "--") (λ e. cc), not_bytes (byte ∷ []) (codes "--ticks") (λ e. cc), elim (byte == 45) as (λ b. ◌≡◌ {A = Option (List ℕ)} (cond b None None) None) [ true ↦ refl | false ↦ refl ])
no_source_word (byte ∷ next ∷ rest) h = (rw h refl, rw h refl, rw h refl)

-- behind the word that ends the options all words are sources
sources-read : (t : Option ℕ) (s s2 : Option (List ℕ)) (words : List (List ℕ)) → list_of s ++ words ≡ list_of s2 → take_words (taken Source t s) words ≡ Some (taken Source t s2)
unfolding take_word
sources-read t s s2 [] h = ap (λ (o : Option (List ℕ)). Some (taken Source t o)) (alone s s2 h)
sources-read t s s2 (word ∷ words) h =
    let none : s ≡ None = first_one s s2 word words h in
    let rest : list_of (Some word) ++ words ≡ list_of s2 = subst (λ (o : Option (List ℕ)). list_of o ++ (word ∷ words) ≡ list_of s2) none h in
    rw none (sources-read t (Some word) s2 words rest)

-- behind an option whose number follows
option-read : (t : Option ℕ) (s : Option (List ℕ)) (word text : List ℕ) (words : List (List ℕ)) (n : ℕ) (r : Taken) → word ≡ codes "--ticks" → IsTicks text n → t ≡ None
    → take_words (taken Any (Some n) s) words ≡ Some r → take_words (taken Any t s) (word ∷ text ∷ words) ≡ Some r
unfolding take_word
option-read t s word text words n r w is none rest = rw (w, none, ticks-read text n is) rest

-- behind an option with its number
joined-read : (t : Option ℕ) (s : Option (List ℕ)) (word text : List ℕ) (words : List (List ℕ)) (n : ℕ) (r : Taken) → word ≡ codes "--ticks=" ++ text → IsTicks text n → t ≡ None
    → take_words (taken Any (Some n) s) words ≡ Some r → take_words (taken Any t s) (word ∷ words) ≡ Some r
unfolding take_word
joined-read t s word text words n r w is none rest = rw (w, none, ticks-read text n is) rest

-- behind a source
named-read : (t : Option ℕ) (s : Option (List ℕ)) (word : List ℕ) (words : List (List ℕ)) (r : Taken) → is_option word ≡ false → s ≡ None
    → take_words (taken Any t (Some word)) words ≡ Some r → take_words (taken Any t s) (word ∷ words) ≡ Some r
unfolding take_word
named-read t s word words r w none rest =
    let plain = no_source_word word w in
    rw (plain.0, plain.1, plain.2, w, none) rest

-- behind the word that ends the options
ended-read : (t : Option ℕ) (s s2 : Option (List ℕ)) (word : List ℕ) (words : List (List ℕ)) → word ≡ codes "--" → list_of s ++ words ≡ list_of s2 → take_words (taken Any t s) (word ∷ words) ≡ Some (taken Source t s2)
unfolding take_word
ended-read t s s2 word words w h = rw w (sources-read t s s2 words h)

row-read : {words sources : List (List ℕ)} {ticks : List ℕ} → IsWordRow words ticks sources → (t t2 : Option ℕ) (s s2 : Option (List ℕ)) → list_of t ++ ticks ≡ list_of t2 → list_of s ++ sources ≡ list_of s2 → IsTaken Any t s words t2 s2
row-read nothing t t2 s s2 h k =
    let same : taken Any t s ≡ taken Any t2 s2 = λ i. taken Any (alone t t2 h i) (alone s s2 k i) in
    record { expected = Any; whole = λ e. cc; is = ap (λ (x : Taken). Some x) same }
row-read (option {word} {text} {n} {words} {sources} {ticks} w is row) t t2 s s2 h k =
    let none : t ≡ None = first_one t t2 n ticks h in
    let more = row-read row (Some n) t2 s s2 (subst (λ (o : Option ℕ). list_of o ++ (n ∷ ticks) ≡ list_of t2) none h) k in
    record { expected = more.expected; whole = more.whole; is = option-read t s word text words n (taken more.expected t2 s2) w is none more.is }
row-read (joined {word} text {n} {words} {sources} {ticks} w is row) t t2 s s2 h k =
    let none : t ≡ None = first_one t t2 n ticks h in
    let more = row-read row (Some n) t2 s s2 (subst (λ (o : Option ℕ). list_of o ++ (n ∷ ticks) ≡ list_of t2) none h) k in
    record { expected = more.expected; whole = more.whole; is = joined-read t s word text words n (taken more.expected t2 s2) w is none more.is }
row-read (ended {word} {words} w) t t2 s s2 h k =
    let same : t ≡ t2 = alone t t2 h in
    record { expected = Source; whole = λ e. cc; is = ended-read t s s2 word words w k ∙ ap (λ (o : Option ℕ). Some (taken Source o s2)) same }
row-read (named {word} {words} {sources} {ticks} w row) t t2 s s2 h k =
    let none : s ≡ None = first_one s s2 word sources k in
    let more = row-read row t t2 (Some word) s2 h (subst (λ (o : Option (List ℕ)). list_of o ++ (word ∷ sources) ≡ list_of s2) none k) in
    record { expected = more.expected; whole = more.whole; is = named-read t s word words (taken more.expected t2 s2) w none more.is }

asked-read : (e : Expected) (t : Option ℕ) (source : List ℕ) → (e ≡ Ticks → ⊥) → asked_with e t (Some source) ≡ Some (Go (unwrap_or t usual_budget) (source ∷ []))
asked-read Any t source h = refl
asked-read Ticks t source h = absurd (h refl)
asked-read Source t source h = refl

row-read_all : (row : List (List ℕ)) (ticks : List ℕ) (budget : ℕ) (sources : List (List ℕ)) → length sources ≡ 1 → IsWordRow row ticks sources → IsBudget ticks budget → read_row row ≡ Some (Go budget sources)
row-read_all row ticks budget [] one is h = absurd cc
row-read_all row ticks budget (source ∷ next ∷ more) one is h = absurd (omega (arith, one))
row-read_all row [] budget (source ∷ []) one is h =
    let more = row-read is None None None (Some source) refl refl in
    rw (more.is, asked-read more.expected None source more.whole) (ap (λ (b : ℕ). Some (Go b (source ∷ []))) (sym h))
row-read_all row (n ∷ []) budget (source ∷ []) one is h =
    let more = row-read is None (Some n) None (Some source) refl refl in
    rw (more.is, asked-read more.expected (Some n) source more.whole) (ap (λ (b : ℕ). Some (Go b (source ∷ []))) (sym h))
row-read_all row (n ∷ m ∷ ticks) budget (source ∷ []) one is h = absurd h

-- the command of the words is read
pub words-read : (words : List (List ℕ)) (c : Command) → WordsOf words c → read_words words ≡ Some c
words-read words (Go budget sources) is =
    let few : nat_lt (length (codes "go" ∷ is.row)) (2 ^ 32) ≡ true = lt-ltb _ (2 ^ 32) (subst (λ (ws : List (List ℕ)). length ws < 2 ^ 32) is.words_are is.few) in
    rw (is.words_are, few) (row-read_all is.row is.ticks budget sources is.one is.row_is is.budget_is)

-- words are at most one command
pub words-one : (words : List (List ℕ)) (c d : Command) → WordsOf words c → WordsOf words d → d ≡ c
words-one words c d h k = same_Some d c (sym (words-read words d k) ∙ words-read words c h)

-- ---- the steps of the reader

-- an option whose number stands behind an equals sign
pub take_any-joined : (r : Taken) (word text : List ℕ) → word ≡ codes "--ticks=" ++ text → take_any r word ≡ take_ticks r text
take_any-joined r word text e = rw e refl

-- a word that is none of the options
pub take_any-other : (r : Taken) (word : List ℕ) → bytes_eq word (codes "--") ≡ false → bytes_eq word (codes "--ticks") ≡ false → ((rest : List ℕ) → word ≡ codes "--ticks=" ++ rest → ⊥)
    → take_any r word ≡ cond (is_option word) None (take_source r word)
take_any-other r word ends other none =
    elim (none_or (after_front (codes "--ticks=") word)) [
      | inl h ↦ rw (ends, other, h) refl
      | inr h ↦ absurd (none h.0 (front-is (codes "--ticks=") word h.0 h.1))
    ]
  where
    none_or : (o : Option (List ℕ)) → (o ≡ None) ⊎ ((x : List ℕ) × (o ≡ Some x))
    none_or None = inl refl
    none_or (Some x) = inr (x, refl)

-- what a text is where no front was found
pub no_front : {A : Type 0} (o : Option A) (P : Type 0) (Q : A → Type 0) → MatchOption o P Q → o ≡ None → P
no_front o P Q h e = subst (λ p. MatchOption p P Q) e h

-- the words from a place on
pub take_words-next : (r next : Taken) (words : List (String Global)) (i : ℕ) (word : String Global) → i < length words → word ≡ get_or words i word → take_word r (string_bytes word) ≡ Some next
    → take_words r (bytes_of (drop i words)) ≡ take_words next (bytes_of (drop (i + 1) words))
take_words-next r next words i word h e is = rw (add-one, drop-cons words i word h, ← e, is) refl

pub take_words-stops : (r : Taken) (words : List (String Global)) (i : ℕ) (word : String Global) → i < length words → word ≡ get_or words i word → take_word r (string_bytes word) ≡ None
    → take_words r (bytes_of (drop i words)) ≡ None
take_words-stops r words i word h e is = rw (drop-cons words i word h, ← e, is) refl

pub take_words-ends : (r : Taken) (words : List (String Global)) (i : ℕ) → length words ≤ i → take_words r (bytes_of (drop i words)) ≡ Some r
take_words-ends r words i h = rw (drop_of_length-le words h) refl

-- what a reader may answer
pub words-exact : (words : List (List ℕ)) (found : Option ReadCommand) → Gives asked_by found (read_words words)
    → MatchOption found ((other : Command) → WordsOf words other → ⊥) (λ command. WordsOf words (asked_by command) × ((other : Command) → WordsOf words other → other ≡ asked_by command))
words-exact words None e = λ other is. let none : None ≡ Some other = sym e ∙ words-read words other is in absurd cc
words-exact words (Some command) e = (words-are words (asked_by command) e, λ other is. words-one words (asked_by command) other (words-are words (asked_by command) e) is)
