-- A text has one row of longest pieces: so it has one list of tokens, or one place where nothing can be taken.
use Rattle.std.proofs.Common.{◌≡◌, ℕ, zero, suc, ◌+◌, ◌-◌, ◌<◌, ◌≤◌, cond, ◌==◌, ◌⊎◌, inl, inr, List, [], ◌∷◌, ◌++◌, length, take, drop, Option, Some, None, Result, Ok, Err, refl, sym, ap, subst, ◌∙◌, arith, append_assoc, append-nil, length-take-le, length-drop, map}
use Rattle.std.specs.Prelude.{count_by}
use Rattle.std.specs.Option.{option_to_list}
use Rattle.std.proofs.Math.Seq.{take-add}
use Rattle.std.proofs.lemmas.Bool.{cases_lt}
use Rattle.std.proofs.lemmas.Grind.{common_steps}
use Rattle.std.proofs.lemmas.List.Sums.{sum_by-append}
use Rattle.ep_token.specs.declared.token.Token.{Token}
use Rattle.ep_token.specs.declared.token.TokenKind.{TokenKind}
use Rattle.ep_token.specs.declared.refusal.TokenRefusal.{TokenRefusal}
use Rattle.ep_token.specs.Tokens.{Piece, CanBeTaken, IsTaken, AreTaken, line_at, token_of, token_at, tokens_of, Tokens, Stuck, HasCause, AreInOrder, is_separator}
use Rattle.ep_token.specs.declared.refusal.TokenRefusal.TheVariants.{NoToken, OpenComment, OpenString, BadNumber, LongName, NoMemory}
use Rattle.ep_token.specs.Symbols.{special_symbols, reference_spelling}
use Rattle.ep_token.specs.Reading.{Fails, piece_at, symbol_at}
use Rattle.ep_token.proofs.PieceLaws.{Sound, Covers, piece_at-sound, piece_at-greatest, cause-read}
use Rattle.ep_token.proofs.Steps.{drop-end, drop-add}

-- ---- one piece

abbrev AreNone : List ℕ → Type 0
AreNone bytes = (n : ℕ) (kind : Option TokenKind) → CanBeTaken bytes n kind → ⊥

covers : (line : ℕ) (bytes : List ℕ) (n : ℕ) (kind : Option TokenKind) → CanBeTaken bytes n kind → Covers n kind (piece_at line bytes)
covers line bytes n kind can = piece_at-greatest line bytes n kind can.within can.spelled can.ends

-- what is read is taken
pub piece-taken : (line : ℕ) (bytes : List ℕ) (n : ℕ) (kind : Option TokenKind) → 0 < length bytes → piece_at line bytes ≡ Ok (n, kind) → IsTaken bytes n kind × (0 < n)
piece-taken line bytes n kind some e =
    let sound : (0 < n) × CanBeTaken bytes n kind = subst (Sound line bytes) e (piece_at-sound line bytes some) in
    (record { can = sound.1; longest = λ m other can. (longest m other can) }, sound.0)
  where
    longest : (m : ℕ) (other : Option TokenKind) → CanBeTaken bytes m other → m ≤ n
    longest m other can = (subst (Covers m other) e (covers line bytes m other can)).0

-- where nothing is read nothing can be taken
pub piece-none : (line : ℕ) (bytes : List ℕ) (f : TokenRefusal) → piece_at line bytes ≡ Err f → AreNone bytes
piece-none line bytes f e n kind can = subst (Covers n kind) e (covers line bytes n kind can)

pub piece-cause : (line : ℕ) (bytes : List ℕ) (f : TokenRefusal) → 0 < length bytes → piece_at line bytes ≡ Err f → HasCause bytes line f
piece-cause line bytes f some e = subst (Sound line bytes) e (piece_at-sound line bytes some)

abbrev read : Piece → Result Piece TokenRefusal
read p = Ok p

read_is : (p q : Piece) → read p ≡ read q → p ≡ q
read_is p q h = cc

same-piece : (bytes : List ℕ) (n : ℕ) (kind : Option TokenKind) (p : Piece) → IsTaken bytes n kind → CanBeTaken bytes p.0 p.1 → (n ≤ p.0) × (p.0 ≡ n → p.1 ≡ kind) → read p ≡ read (n, kind)
same-piece bytes n kind p taken can h =
    let m : p.0 ≡ n = omega (arith, h.0, taken.longest p.0 p.1 can) in
    ap (λ k. read (k, p.1)) m ∙ ap (λ k. read (n, k)) (h.1 m)

read-cases : (line : ℕ) (bytes : List ℕ) (n : ℕ) (kind : Option TokenKind) (r : Result Piece TokenRefusal) → IsTaken bytes n kind → Sound line bytes r → Covers n kind r → r ≡ Ok (n, kind)
read-cases line bytes n kind (Ok p) taken sound h = same-piece bytes n kind p taken sound.1 h
read-cases line bytes n kind (Err f) taken sound h = absurd h

-- what is taken is read
taken-piece : (line : ℕ) (bytes : List ℕ) (n : ℕ) (kind : Option TokenKind) → 0 < length bytes → IsTaken bytes n kind → piece_at line bytes ≡ Ok (n, kind)
taken-piece line bytes n kind some taken = read-cases line bytes n kind (piece_at line bytes) taken (piece_at-sound line bytes some) (covers line bytes n kind taken.can)

none-cases : (line : ℕ) (bytes : List ℕ) (r : Result Piece TokenRefusal) → piece_at line bytes ≡ r → Sound line bytes r → AreNone bytes → (f : TokenRefusal) × (piece_at line bytes ≡ Err f)
none-cases line bytes (Ok p) e sound none = absurd (none p.0 p.1 sound.1)
none-cases line bytes (Err f) e sound none = (f, e)

-- ---- a row of pieces

piece_at-empty : piece_at 1 [] ≡ Err (NoToken 1)
unfolding piece_at symbol_at special_symbols reference_spelling is_separator
piece_at-empty = refl

none-empty : AreNone []
none-empty = piece-none 1 [] (NoToken 1) piece_at-empty

some-bytes : (bytes : List ℕ) (n : ℕ) (kind : Option TokenKind) → CanBeTaken bytes n kind → 0 < length bytes
some-bytes [] n kind can = absurd (none-empty n kind can)
some-bytes (b ∷ bs) n kind can = omega arith

taken-some : (bytes : List ℕ) (n : ℕ) (kind : Option TokenKind) → IsTaken bytes n kind → 0 < n
taken-some bytes n kind taken =
    let some = some-bytes bytes n kind taken.can in
    (piece-taken 1 bytes n kind some (taken-piece 1 bytes n kind some taken)).1

taken-one : (bytes : List ℕ) (p q : Piece) → IsTaken bytes p.0 p.1 → IsTaken bytes q.0 q.1 → p ≡ q
taken-one bytes p q a b =
    let some = some-bytes bytes p.0 p.1 a.can in
    read_is p q (sym (taken-piece 1 bytes p.0 p.1 some a) ∙ taken-piece 1 bytes q.0 q.1 some b)

-- two rows that go as far as they can are one
row-one : (bytes : List ℕ) (ps qs : List Piece) (r s : List ℕ) → AreTaken bytes ps r → AreTaken bytes qs s → AreNone r → AreNone s → (ps ≡ qs) × (r ≡ s)
row-one bytes [] [] r s a b n m = (refl, sym a ∙ b)
row-one bytes [] (q ∷ qs) r s a b n m = absurd (n q.0 q.1 (subst (λ t. CanBeTaken t q.0 q.1) a b.0.can))
row-one bytes (p ∷ ps) [] r s a b n m = absurd (m p.0 p.1 (subst (λ t. CanBeTaken t p.0 p.1) b a.0.can))
row-one bytes (p ∷ ps) (q ∷ qs) r s a b n m =
    let one = taken-one bytes p q a.0 b.0 in
    let rest = row-one (drop p.0 bytes) ps qs r s a.1 (subst (λ (k : Piece). AreTaken (drop k.0 bytes) qs s) (sym one) b.1) n m in
    (ap (λ x. x ∷ ps) one ∙ ap (λ l. q ∷ l) rest.0, rest.1)

-- ---- one answer

pub tokens-one : (bytes : List ℕ) (list other : List Token) → Tokens bytes list → Tokens bytes other → list ≡ other
tokens-one bytes list other t u =
    let row = row-one bytes t.pieces u.pieces [] [] t.taken u.taken none-empty none-empty in
    t.list_is ∙ ap (tokens_of bytes 0) row.0 ∙ sym u.list_is

pub tokens-apart : (bytes : List ℕ) (list : List Token) (place : ℕ) (refusal : TokenRefusal) → Tokens bytes list → Stuck bytes place refusal → ⊥
tokens-apart bytes list place refusal t s =
    let row = row-one bytes t.pieces s.pieces [] (drop place bytes) t.taken s.before none-empty s.none in
    let within = s.within in
    omega (arith, ap length row.1, length-drop place bytes)

pub stuck-one : (bytes : List ℕ) (place place' : ℕ) (refusal refusal' : TokenRefusal) → Stuck bytes place refusal → Stuck bytes place' refusal' → (place ≡ place') × (refusal ≡ refusal')
stuck-one bytes place place' refusal refusal' s t =
    let row = row-one bytes s.pieces t.pieces (drop place bytes) (drop place' bytes) s.before t.before s.none t.none in
    let within = s.within in
    let within' = t.within in
    let same : place ≡ place' = omega (arith, ap length row.1, length-drop place bytes, length-drop place' bytes) in
    let some : 0 < length (drop place bytes) = omega (arith, length-drop place bytes) in
    let read = none-cases (line_at bytes place) (drop place bytes) (piece_at (line_at bytes place) (drop place bytes)) refl (piece_at-sound (line_at bytes place) (drop place bytes) some) s.none in
    let other : HasCause (drop place bytes) (line_at bytes place) refusal' = subst (λ k. HasCause (drop k bytes) (line_at bytes k) refusal') (sym same) t.cause in
    (same, cause-read (line_at bytes place) (drop place bytes) refusal read.0 some s.cause read.1 ∙ sym (cause-read (line_at bytes place) (drop place bytes) refusal' read.0 some other read.1))

-- ---- the walk over a text

-- the number of bytes of a row
abbrev pub span : List Piece → ℕ
span [] = 0
span (p ∷ ps) = p.0 + span ps

span-push : (ps : List Piece) (p : Piece) → span (ps ++ p ∷ []) ≡ span ps + p.0
span-push [] p = omega arith
span-push (q ∷ ps) p = omega (arith, span-push ps p)

length-taken : (bytes : List ℕ) (ps : List Piece) (rest : List ℕ) → AreTaken bytes ps rest → length bytes ≡ span ps + length rest
length-taken bytes [] rest a = omega (arith, ap length a)
length-taken bytes (p ∷ ps) rest a = omega (arith, length-taken (drop p.0 bytes) ps rest a.1, length-drop p.0 bytes, a.0.can.within)

taken-push : (bytes : List ℕ) (ps : List Piece) (rest : List ℕ) (p : Piece) → AreTaken bytes ps rest → IsTaken rest p.0 p.1 → AreTaken bytes (ps ++ p ∷ []) (drop p.0 rest)
taken-push bytes [] rest p a t = (subst (λ l. IsTaken l p.0 p.1) (sym a) t, ap (drop p.0) a)
taken-push bytes (q ∷ ps) rest p a t = (a.0, taken-push (drop q.0 bytes) ps rest p a.1 t)

abbrev pub new_tokens : List ℕ → ℕ → Piece → List Token
new_tokens bytes place p = map (token_at bytes place p.0) (option_to_list p.1)

tokens_of-push : (bytes : List ℕ) (place : ℕ) (ps : List Piece) (p : Piece) → tokens_of bytes place (ps ++ p ∷ []) ≡ tokens_of bytes place ps ++ new_tokens bytes (place + span ps) p
tokens_of-push bytes place [] p =
    append-nil (new_tokens bytes place p) ∙ ap (λ k. new_tokens bytes k p) (let k : place ≡ place + 0 = omega arith in k)
tokens_of-push bytes place (q ∷ ps) p =
    ap (λ (l : List Token). new_tokens bytes place q ++ l) (tokens_of-push bytes (place + q.0) ps p ∙ ap (λ k. tokens_of bytes (place + q.0) ps ++ new_tokens bytes k p) (let k : place + q.0 + span ps ≡ place + (q.0 + span ps) = omega arith in k))
    ∙ sym (append_assoc (new_tokens bytes place q) (tokens_of bytes (place + q.0) ps) (new_tokens bytes (place + (q.0 + span ps)) p))

line_at-add : (bytes : List ℕ) (place n : ℕ) → line_at bytes (place + n) ≡ line_at bytes place + count_by (λ b. b == 10) (take n (drop place bytes))
line_at-add bytes place n =
    ap (λ l. suc (count_by (λ b. b == 10) l)) (take-add place n bytes)
    ∙ (let e = sum_by-append (λ b. cond (b == 10) 1 0) (take place bytes) (take n (drop place bytes)) in omega (arith, e))

-- the text before a place is read
pub record Reached (source : List ℕ) (found : List Token) (place line : ℕ) : Type 0 where
  pub pieces : List Piece
  pub taken : AreTaken source pieces (drop place source)
  pub found_is : found ≡ tokens_of source 0 pieces
  pub total : place ≡ span pieces
  pub within : place ≤ length source
  pub line_is : line ≡ line_at source place

pub reached-start : (source : List ℕ) → Reached source [] 0 1
reached-start source = record { pieces = []; taken = refl; found_is = refl; total = refl; within = omega arith; line_is = refl }

pub reached-end : (source : List ℕ) (found : List Token) (place line : ℕ) → Reached source found place line → length source ≤ place → Tokens source found
reached-end source found place line r h = record { pieces = r.pieces; taken = subst (AreTaken source r.pieces) (drop-end source place h) r.taken; list_is = r.found_is }

pub reached-stuck : (source : List ℕ) (found : List Token) (place line : ℕ) (refusal : TokenRefusal) → Reached source found place line → place < length source → piece_at line (drop place source) ≡ Err refusal → Stuck source place refusal
reached-stuck source found place line refusal r h e =
    record {
      pieces = r.pieces;
      before = r.taken;
      within = h;
      none = piece-none line (drop place source) refusal e;
      cause = subst (λ k. HasCause (drop place source) k refusal) r.line_is (piece-cause line (drop place source) refusal (omega (arith, length-drop place source)) e);
    }

pub reached-step : (source : List ℕ) (found : List Token) (place line n : ℕ) (kind : Option TokenKind) → Reached source found place line → place < length source → piece_at line (drop place source) ≡ Ok (n, kind)
    → Reached source (found ++ new_tokens source place (n, kind)) (place + n) (line + count_by (λ b. b == 10) (take n (drop place source)))
reached-step source found place line n kind r h e =
    let some : 0 < length (drop place source) = omega (arith, length-drop place source) in
    let taken = piece-taken line (drop place source) n kind some e in
    record {
      pieces = r.pieces ++ (n, kind) ∷ [];
      taken = subst (AreTaken source (r.pieces ++ (n, kind) ∷ [])) (drop-add place n source) (taken-push source r.pieces (drop place source) (n, kind) r.taken taken.0);
      found_is = ap (λ (l : List Token). l ++ new_tokens source place (n, kind)) r.found_is ∙ ap (λ k. tokens_of source 0 r.pieces ++ new_tokens source k (n, kind)) (let k : place ≡ 0 + span r.pieces = omega (arith, r.total) in k) ∙ sym (tokens_of-push source 0 r.pieces (n, kind));
      total = omega (arith, r.total, span-push r.pieces (n, kind));
      within = omega (arith, taken.0.can.within, length-drop place source);
      line_is = ap (λ k. k + count_by (λ b. b == 10) (take n (drop place source))) r.line_is ∙ sym (line_at-add source place n);
    }

-- ---- order

order-from : (from from' : ℕ) (list : List Token) (to : ℕ) → from ≤ from' → AreInOrder from' list to → AreInOrder from list to
order-from from from' [] to h o = omega (arith, o)
order-from from from' (t ∷ ts) to h o = (omega (arith, o.0), o.1, o.2)

order-row : (source bytes : List ℕ) (place : ℕ) (ps : List Piece) (rest : List ℕ) → AreTaken bytes ps rest → AreInOrder place (tokens_of source place ps) (place + span ps)
order-row source bytes place [] rest a = omega arith
order-row source bytes place ((n, None) ∷ ps) rest a =
    order-from place (place + n) (tokens_of source (place + n) ps) (place + (n + span ps)) (omega arith) (subst (AreInOrder (place + n) (tokens_of source (place + n) ps)) (let k : place + n + span ps ≡ place + (n + span ps) = omega arith in k) (order-row source (drop n bytes) (place + n) ps rest a.1))
order-row source bytes place ((n, Some kind) ∷ ps) rest a =
    (omega arith, omega (arith, taken-some bytes n (Some kind) a.0), subst (AreInOrder (place + n) (tokens_of source (place + n) ps)) (let k : place + n + span ps ≡ place + (n + span ps) = omega arith in k) (order-row source (drop n bytes) (place + n) ps rest a.1))

-- the tokens of a text lie in order within it
pub tokens-order : (bytes : List ℕ) (list : List Token) → Tokens bytes list → AreInOrder 0 list (length bytes)
tokens-order bytes list t =
    let row = order-row bytes bytes 0 t.pieces [] t.taken in
    let end : 0 + span t.pieces ≡ length bytes = omega (arith, length-taken bytes t.pieces [] t.taken) in
    subst (λ k. AreInOrder 0 list k) end (subst (λ l. AreInOrder 0 l (0 + span t.pieces)) (sym t.list_is) row)

-- ---- the rest of a text as a slice has it

abbrev rest_of : List ℕ → ℕ → List ℕ
rest_of source place = take (length source - place) (drop place source)

pub rest_of-drop : (source : List ℕ) (place : ℕ) → rest_of source place ≡ drop place source
rest_of-drop source place = grind (arith, common_steps)

-- a piece of the rest lies within the text
pub piece-within : (source : List ℕ) (place line n : ℕ) (kind : Option TokenKind) → place < length source → piece_at line (rest_of source place) ≡ Ok (n, kind) → (place + n ≤ length source) × (0 < n)
piece-within source place line n kind h e =
    let at = ap (piece_at line) (sym (rest_of-drop source place)) ∙ e in
    let taken = piece-taken line (drop place source) n kind (omega (arith, length-drop place source)) at in
    (omega (arith, taken.0.can.within, length-drop place source), taken.1)

pub piece-slice : (source : List ℕ) (place line n : ℕ) (kind : Option TokenKind) → place < length source → piece_at line (rest_of source place) ≡ Ok (n, kind) → n ≡ length (take n (rest_of source place))
piece-slice source place line n kind h e =
    let within = (piece-within source place line n kind h e).0 in
    sym (length-take-le n (rest_of source place) (omega (arith, within, length-drop place source, ap length (rest_of-drop source place))))

pub step-found : (source : List ℕ) (found next : List Token) (place line n : ℕ) (kind : Option TokenKind) → Reached source found place line → place < length source → piece_at line (rest_of source place) ≡ Ok (n, kind)
    → next ≡ found ++ map (token_of line place (place + n)) (option_to_list kind)
    → Reached source next (place + n) (line + count_by (λ b. b == 10) (take n (rest_of source place)))
step-found source found next place line n kind r h e is =
    let at = ap (piece_at line) (sym (rest_of-drop source place)) ∙ e in
    let step = reached-step source found place line n kind r h at in
    let tokens : next ≡ found ++ new_tokens source place (n, kind) = is ∙ ap (λ k. found ++ map (token_of k place (place + n)) (option_to_list kind)) r.line_is in
    subst (λ l. Reached source next (place + n) (line + count_by (λ b. b == 10) (take n l))) (sym (rest_of-drop source place))
    (subst (λ l. Reached source l (place + n) (line + count_by (λ b. b == 10) (take n (drop place source)))) (sym tokens) step)

-- a refusal at the place that was reached
pub step-stuck : (source : List ℕ) (found : List Token) (place line : ℕ) (e : TokenRefusal) → Reached source found place line → place < length source → Fails e (piece_at line (rest_of source place)) → (e ≡ NoMemory) ⊎ ((at : ℕ) × Stuck source at e)
step-stuck source found place line NoMemory r h f = inl refl
step-stuck source found place line (NoToken l) r h f = inr (place, reached-stuck source found place line (NoToken l) r h (ap (piece_at line) (sym (rest_of-drop source place)) ∙ f))
step-stuck source found place line (OpenComment l) r h f = inr (place, reached-stuck source found place line (OpenComment l) r h (ap (piece_at line) (sym (rest_of-drop source place)) ∙ f))
step-stuck source found place line (OpenString l) r h f = inr (place, reached-stuck source found place line (OpenString l) r h (ap (piece_at line) (sym (rest_of-drop source place)) ∙ f))
step-stuck source found place line (BadNumber l) r h f = inr (place, reached-stuck source found place line (BadNumber l) r h (ap (piece_at line) (sym (rest_of-drop source place)) ∙ f))
step-stuck source found place line (LongName l) r h f = inr (place, reached-stuck source found place line (LongName l) r h (ap (piece_at line) (sym (rest_of-drop source place)) ∙ f))

-- ---- each text has an answer

abbrev pub HasAnswer : List ℕ → Type 0
HasAnswer source = ((list : List Token) × Tokens source list) ⊎ ((place : ℕ) × (refusal : TokenRefusal) × Stuck source place refusal)

-- an answer from a place on, if there are at most so many bytes
abbrev Answered : List ℕ → ℕ → Type 0
Answered source fuel = (found : List Token) (place line : ℕ) → Reached source found place line → length source ≤ place + fuel → HasAnswer source

answered-piece : (source : List ℕ) (fuel : ℕ) (found : List Token) (place line : ℕ) (r : Result Piece TokenRefusal) → Answered source fuel → Reached source found place line → place < length source → length source ≤ place + suc fuel → piece_at line (drop place source) ≡ r → HasAnswer source
answered-piece source fuel found place line (Ok p) more r h most e =
    let taken = piece-taken line (drop place source) p.0 p.1 (omega (arith, length-drop place source)) e in
    more (found ++ new_tokens source place p) (place + p.0) (line + count_by (λ b. b == 10) (take p.0 (drop place source))) (reached-step source found place line p.0 p.1 r h e) (omega (arith, taken.1))
answered-piece source fuel found place line (Err f) more r h most e = inr (place, f, reached-stuck source found place line f r h e)

answered : (source : List ℕ) (fuel : ℕ) → Answered source fuel
answered source zero found place line r most = inl (found, reached-end source found place line r (omega arith))
answered source (suc fuel) found place line r most =
    elim (cases_lt place (length source)) [
      | inl h ↦ answered-piece source fuel found place line (piece_at line (drop place source)) (answered source fuel) r h most refl
      | inr h ↦ inl (found, reached-end source found place line r h)
    ]

pub text-answer : (source : List ℕ) → HasAnswer source
text-answer source = answered source (length source) [] 0 1 (reached-start source) (omega arith)
