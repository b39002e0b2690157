-- What stands at a place, and the pieces of what was taken before it.
use Rattle.std.proofs.Common.{◌≡◌, ℕ, ◌+◌, ◌-◌, ◌<◌, ◌≤◌, Bool, true, false, ◌&&◌, ◌==◌, ◌⊎◌, inl, inr, List, [], ◌∷◌, ◌++◌, length, take, drop, get_or, Option, Some, None, Result, Ok, Err, refl, sym, ap, subst, ◌∙◌, arith, append_assoc, append-nil, length-take-le, length-drop, length-append, take-append-drop, map}
use Rattle.std.specs.Option.{option_to_list}
use Rattle.std.proofs.lemmas.Grind.{common_steps}
use Rattle.std.proofs.lemmas.Bool.Decides.{nat_tests}
use Rattle.ep_token.specs.declared.token.Token.{Token}
use Rattle.ep_token.specs.declared.token.TokenKind.{TokenKind}
use Rattle.ep_token.specs.declared.refusal.TokenRefusal.{TokenRefusal}
use Rattle.ep_token.specs.declared.refusal.TokenRefusal.TheVariants.{OpenComment}
use Rattle.ep_token.specs.Comments.{IsComment, IsOpener, IsCloser, opens_comment}
use Rattle.ep_token.specs.Tokens.{Piece as Taken}
use Rattle.ep_token.specs.Tokens.{CanBeTaken, IsTaken, AreTaken, token_at, tokens_of, Tokens, is_separator, IsSpelled}
use Rattle.ep_token.specs.Reading.{piece_at, comment_at, comment_end}
use Rattle.ep_token.proofs.public.TokenLaws.{piece-taken, piece-none, rest_of-drop}
use Rattle.ep_pieces.specs.declared.piece.Piece.{Piece}
use Rattle.ep_pieces.specs.Pieces.{Pieces, piece_of, pieces_of, starts_at, begins_mark, opener_length, token_piece}

pub truth : (b : Bool) → (b ≡ true) ⊎ (b ≡ false)
truth true = inl refl
truth false = inr refl

pub and-parts : (a b : Bool) → (a && b) ≡ true → (a ≡ true) × (b ≡ true)
and-parts true b h = (refl, h)
and-parts false b h = absurd cc

-- the rest of a text as a slice has it
abbrev pub rest_of : List ℕ → ℕ → List ℕ
rest_of source place = take (length source - place) (drop place source)

-- ---- one thing that is taken

positive-cases : (bytes : List ℕ) (n : ℕ) (kind : Option TokenKind) (r : Result Taken TokenRefusal) → 0 < length bytes → piece_at 1 bytes ≡ r → IsTaken bytes n kind → 0 < n
positive-cases bytes n kind (Ok p) some e taken =
    let read = piece-taken 1 bytes p.0 p.1 some e in
    omega (arith, read.1, taken.longest p.0 p.1 read.0.can)
positive-cases bytes n kind (Err f) some e taken = absurd (piece-none 1 bytes f e n kind taken.can)

-- what is taken has a byte
pub taken-positive : (bytes : List ℕ) (n : ℕ) (kind : Option TokenKind) → 0 < length bytes → IsTaken bytes n kind → 0 < n
taken-positive bytes n kind some taken = positive-cases bytes n kind (piece_at 1 bytes) some refl taken

-- what is taken in two ways is as long in both
pub taken-length : (bytes : List ℕ) (n m : ℕ) (kind other : Option TokenKind) → IsTaken bytes n kind → IsTaken bytes m other → n ≡ m
taken-length bytes n m kind other a b = omega (arith, a.longest m other b.can, b.longest n kind a.can)

pub taken-read : (bytes : List ℕ) (n : ℕ) → 0 < length bytes → piece_at 1 bytes ≡ Ok (n, None) → IsTaken bytes n None
taken-read bytes n some e = (piece-taken 1 bytes n None some e).0

-- ---- what stands where no token does

separator-read : (b : ℕ) (bs : List ℕ) → is_separator b ≡ true → piece_at 1 (b ∷ bs) ≡ Ok (1, None)
unfolding piece_at
separator-read b bs h = rw h refl

-- a separating byte is taken alone
pub separator-taken : (b : ℕ) (bs : List ℕ) → is_separator b ≡ true → IsTaken (b ∷ bs) 1 None
separator-taken b bs h = taken-read (b ∷ bs) 1 (omega arith) (separator-read b bs h)

brace-read : (c n : ℕ) (cs : List ℕ) → c ≡ 123 → comment_end false 0 cs ≡ Some n → piece_at 1 (c ∷ cs) ≡ Ok (1 + n, None)
unfolding piece_at is_separator comment_at
brace-read c n cs h e = rw (h, e) refl

mark-read : (c d n : ℕ) (cs : List ℕ) → c ≡ 40 → d ≡ 42 → comment_end false 0 cs ≡ Some n → piece_at 1 (c ∷ d ∷ cs) ≡ Ok (2 + n, None)
unfolding piece_at is_separator comment_at
mark-read c d n cs h k e = rw (h, k, e) refl

brace-open : (c : ℕ) (cs : List ℕ) → c ≡ 123 → comment_end false 0 cs ≡ None → piece_at 1 (c ∷ cs) ≡ Err (OpenComment 1)
unfolding piece_at is_separator comment_at
brace-open c cs h e = rw (h, e) refl

mark-open : (c d : ℕ) (cs : List ℕ) → c ≡ 40 → d ≡ 42 → comment_end false 0 cs ≡ None → piece_at 1 (c ∷ d ∷ cs) ≡ Err (OpenComment 1)
unfolding piece_at is_separator comment_at
mark-open c d cs h k e = rw (h, k, e) refl

-- what begins where a text has no token
data Front (bytes : List ℕ) : Type 0 where
  separator : (b : ℕ) (bs : List ℕ) → bytes ≡ b ∷ bs → is_separator b ≡ true → Front bytes
  brace : (cs : List ℕ) → bytes ≡ 123 ∷ cs → Front bytes
  mark : (cs : List ℕ) → bytes ≡ 40 ∷ 42 ∷ cs → Front bytes

parts : (bytes text : List ℕ) (n : ℕ) → take n bytes ≡ text → bytes ≡ text ++ drop n bytes
parts bytes text n e = sym (take-append-drop n bytes) ∙ ap (λ (l : List ℕ). l ++ drop n bytes) e

comment-front : (bytes opener rest : List ℕ) → bytes ≡ opener ++ rest → IsOpener opener → Front bytes
comment-front bytes opener rest e (inl is) = brace rest (e ∙ ap (λ (l : List ℕ). l ++ rest) is)
comment-front bytes opener rest e (inr is) = mark rest (e ∙ ap (λ (l : List ℕ). l ++ rest) is)

front-of : (bytes : List ℕ) (n : ℕ) → IsSpelled (take n bytes) None → Front bytes
front-of bytes n (inl s) = separator s.0 (drop n bytes) (parts bytes (s.0 ∷ []) n s.1) s.2
front-of bytes n (inr c) =
    comment-front bytes c.opener ((c.body ++ c.closer) ++ drop n bytes)
    (parts bytes (c.opener ++ (c.body ++ c.closer)) n c.text_is ∙ append_assoc c.opener (c.body ++ c.closer) (drop n bytes)) c.opens

abbrev pub IsBlank : List ℕ → Type 0
IsBlank bytes = (n : ℕ) × IsTaken bytes n None

front : (bytes : List ℕ) → IsBlank bytes → Front bytes
front bytes b = front-of bytes b.0 b.1.can.spelled

separator-mark : (b : ℕ) → is_separator b ≡ true → begins_mark b ≡ false
unfolding is_separator
separator-mark b h = grind (arith, nat_tests)

one-front : (bytes : List ℕ) → Front bytes → begins_mark (get_or bytes 0 0) ≡ false → IsTaken bytes 1 None
one-front bytes (separator b bs e h) m = subst (λ l. IsTaken l 1 None) (sym e) (separator-taken b bs h)
one-front bytes (brace cs e) m = let k : begins_mark 123 ≡ false = rw e at m in absurd cc
one-front bytes (mark cs e) m = let k : begins_mark 40 ≡ false = rw e at m in absurd cc

-- what begins with no mark is a separating byte
pub blank-one : (bytes : List ℕ) → IsBlank bytes → begins_mark (get_or bytes 0 0) ≡ false → IsTaken bytes 1 None
blank-one bytes b m = one-front bytes (front bytes b) m

opener-front : (bytes : List ℕ) → Front bytes → begins_mark (get_or bytes 0 0) ≡ true → opener_length bytes ≤ length bytes
opener-front bytes (separator b bs e h) m = let k : begins_mark b ≡ true = rw e at m in let l = separator-mark b h in absurd cc
opener-front bytes (brace cs e) m = subst (λ l. opener_length l ≤ length l) (sym e) (omega arith)
opener-front bytes (mark cs e) m = subst (λ l. opener_length l ≤ length l) (sym e) (omega arith)

pub blank-opener : (bytes : List ℕ) → IsBlank bytes → begins_mark (get_or bytes 0 0) ≡ true → opener_length bytes ≤ length bytes
blank-opener bytes b m = opener-front bytes (front bytes b) m

end-front : (bytes : List ℕ) (m : ℕ) → Front bytes → begins_mark (get_or bytes 0 0) ≡ true → comment_end false 0 (drop (opener_length bytes) bytes) ≡ Some m → IsTaken bytes (opener_length bytes + m) None
end-front bytes m (separator b bs e h) k end = let k : begins_mark b ≡ true = rw e at k in let l = separator-mark b h in absurd cc
end-front bytes m (brace cs e) k end =
    let end : comment_end false 0 cs ≡ Some m = rw e at end in
    subst (λ l. IsTaken l (opener_length l + m) None) (sym e) (taken-read (123 ∷ cs) (1 + m) (omega arith) (brace-read 123 m cs refl end))
end-front bytes m (mark cs e) k end =
    let end : comment_end false 0 cs ≡ Some m = rw e at end in
    subst (λ l. IsTaken l (opener_length l + m) None) (sym e) (taken-read (40 ∷ 42 ∷ cs) (2 + m) (omega arith) (mark-read 40 42 m cs refl refl end))

-- a comment is taken to its end
pub blank-end : (bytes : List ℕ) (m : ℕ) → IsBlank bytes → begins_mark (get_or bytes 0 0) ≡ true → comment_end false 0 (rest_of bytes (opener_length bytes)) ≡ Some m → IsTaken bytes (opener_length bytes + m) None
blank-end bytes m b k end = end-front bytes m (front bytes b) k (ap (comment_end false 0) (sym (rest_of-drop bytes (opener_length bytes))) ∙ end)

open-front : (bytes : List ℕ) (n : ℕ) → IsTaken bytes n None → Front bytes → begins_mark (get_or bytes 0 0) ≡ true → comment_end false 0 (drop (opener_length bytes) bytes) ≡ None → ⊥
open-front bytes n taken (separator b bs e h) k end = let k : begins_mark b ≡ true = rw e at k in let l = separator-mark b h in absurd cc
open-front bytes n taken (brace cs e) k end =
    let end : comment_end false 0 cs ≡ None = rw e at end in
    piece-none 1 (123 ∷ cs) (OpenComment 1) (brace-open 123 cs refl end) n None (subst (λ l. CanBeTaken l n None) e taken.can)
open-front bytes n taken (mark cs e) k end =
    let end : comment_end false 0 cs ≡ None = rw e at end in
    piece-none 1 (40 ∷ 42 ∷ cs) (OpenComment 1) (mark-open 40 42 cs refl refl end) n None (subst (λ l. CanBeTaken l n None) e taken.can)

-- and it has one
pub blank-open : (bytes : List ℕ) → IsBlank bytes → begins_mark (get_or bytes 0 0) ≡ true → comment_end false 0 (rest_of bytes (opener_length bytes)) ≡ None → ⊥
blank-open bytes b k end = open-front bytes b.0 b.1 (front bytes b) k (ap (comment_end false 0) (sym (rest_of-drop bytes (opener_length bytes))) ∙ end)

-- a comment has more than a byte, and a separating byte is one
pub spelled-comment : (text : List ℕ) → IsSpelled text None → 1 < length text → IsComment text × (opens_comment text ≡ true)
spelled-comment text (inl s) h = absurd (omega (arith, ap length s.1))
spelled-comment text (inr c) h = (c, opens-of text c.opener (c.body ++ c.closer) c.text_is c.opens)
  where
    opens-of : (text opener rest : List ℕ) → text ≡ opener ++ rest → IsOpener opener → opens_comment text ≡ true
    opens-of text opener rest e (inl is) = ap opens_comment (e ∙ ap (λ (l : List ℕ). l ++ rest) is)
    opens-of text opener rest e (inr is) = ap opens_comment (e ∙ ap (λ (l : List ℕ). l ++ rest) is)

closer-positive : (closer : List ℕ) → IsCloser closer → 0 < length closer
closer-positive closer (inl is) = omega (arith, ap length is)
closer-positive closer (inr is) = omega (arith, ap length is)

opener-positive : (opener : List ℕ) → IsOpener opener → 0 < length opener
opener-positive opener (inl is) = omega (arith, ap length is)
opener-positive opener (inr is) = omega (arith, ap length is)

pub separator-opens : (b : ℕ) → is_separator b ≡ true → opens_comment (b ∷ []) ≡ false
unfolding is_separator
separator-opens b h = grind (arith, nat_tests)

pub spelled-separator : (text : List ℕ) → IsSpelled text None → length text ≤ 1 → piece_of text None ≡ None
spelled-separator text (inl s) h = ap (λ l. piece_of l None) s.1 ∙ rw (separator-opens s.0 s.2) refl
spelled-separator text (inr c) h =
    absurd (omega (arith, ap length c.text_is, length-append c.opener (c.body ++ c.closer), length-append c.body c.closer, closer-positive c.closer c.closes, opener-positive c.opener c.opens))

-- ---- the walk over a text

-- the text before a place is taken, and the text behind it is a row with the tokens that are left
pub record Split (source : List ℕ) (tokens : List Token) (found : List Piece) (place taken : ℕ) : Type 0 where
  pub before : List Taken
  pub left : List Taken
  pub row : AreTaken source before (drop place source)
  pub rest : AreTaken (drop place source) left []
  pub found_is : found ≡ pieces_of source before
  pub tokens_are : drop taken tokens ≡ tokens_of source place left
  pub within : place ≤ length source
  pub count : taken ≤ length tokens

first-after : (source : List ℕ) (place : ℕ) (row : List Taken) (t : Token) (ts : List Token) → tokens_of source place row ≡ t ∷ ts → place ≤ t.start
first-after source place [] t ts e = absurd cc
first-after source place ((n, None) ∷ row) t ts e = omega (arith, first-after source (place + n) row t ts e)
first-after source place ((n, Some k) ∷ row) t ts e = omega (arith, ap start (head_is _ _ _ _ e))
  where
    start : Token → ℕ
    start t = t.start

    head_is : (x y : Token) (xs ys : List Token) → x ∷ xs ≡ y ∷ ys → x ≡ y
    head_is x y xs ys e = cc

taken-push : (bytes : List ℕ) (ps : List Taken) (rest : List ℕ) (p : Taken) → AreTaken bytes ps rest → IsTaken rest p.0 p.1 → AreTaken bytes (ps ++ p ∷ []) (drop p.0 rest)
taken-push bytes [] rest p a t = (subst (λ l. IsTaken l p.0 p.1) (sym a) t, ap (drop p.0) a)
taken-push bytes (q ∷ ps) rest p a t = (a.0, taken-push (drop q.0 bytes) ps rest p a.1 t)

abbrev new_pieces : List ℕ → Taken → List Piece
new_pieces bytes p = option_to_list (piece_of (take p.0 bytes) p.1)

pieces-push : (bytes : List ℕ) (ps : List Taken) (rest : List ℕ) (p : Taken) → AreTaken bytes ps rest → pieces_of bytes (ps ++ p ∷ []) ≡ pieces_of bytes ps ++ new_pieces rest p
pieces-push bytes [] rest p a = append-nil (new_pieces bytes p) ∙ ap (λ l. new_pieces l p) a
pieces-push bytes (q ∷ ps) rest p a =
    ap (λ (l : List Piece). new_pieces bytes q ++ l) (pieces-push (drop q.0 bytes) ps rest p a.1)
    ∙ sym (append_assoc (new_pieces bytes q) (pieces_of (drop q.0 bytes) ps) (new_pieces rest p))

drop-add : (n m : ℕ) (l : List ℕ) → drop m (drop n l) ≡ drop (n + m) l
drop-add n m l = grind (arith, common_steps)

-- what is left of a text begins with this
record Here (source : List ℕ) (tokens : List Token) (place taken : ℕ) (kind : Option TokenKind) : Type 0 where
  pub count : ℕ
  pub more : List Taken
  pub is_taken : IsTaken (drop place source) count kind
  pub positive : 0 < count
  pub rest : AreTaken (drop (place + count) source) more []
  pub tokens_are : drop taken tokens ≡ map (token_at source place count) (option_to_list kind) ++ tokens_of source (place + count) more

here-none : (source : List ℕ) (tokens : List Token) (place taken : ℕ) (left : List Taken) → AreTaken (drop place source) left [] → drop taken tokens ≡ tokens_of source place left → place < length source → starts_at place (drop taken tokens) ≡ false → Here source tokens place taken None
here-none source tokens place taken [] rest tokens_are h b = absurd (omega (arith, ap length rest, length-drop place source))
here-none source tokens place taken ((n, None) ∷ left) rest tokens_are h b =
    record { count = n; more = left; is_taken = rest.0; positive = taken-positive (drop place source) n None (omega (arith, length-drop place source)) rest.0; rest = subst (λ l. AreTaken l left []) (drop-add place n source) rest.1; tokens_are = tokens_are }
here-none source tokens place taken ((n, Some k) ∷ left) rest tokens_are h b =
    let e : (place == place) ≡ false = rw tokens_are at b in
    let same : (place == place) ≡ true = grind (arith, nat_tests) in
    absurd cc

record HereSome (source : List ℕ) (tokens : List Token) (place taken : ℕ) : Type 0 where
  pub kind : TokenKind
  pub here : Here source tokens place taken (Some kind)

after-start : (place n : ℕ) (t : Token) → place + n ≤ t.start → 0 < n → (t.start == place) ≡ true → ⊥
after-start place n t h p e = let same : t.start ≡ place = grind (arith, nat_tests) in omega arith

here-some-none : (source : List ℕ) (place n : ℕ) (left : List Taken) (ts : List Token) → ts ≡ tokens_of source (place + n) left → 0 < n → starts_at place ts ≡ true → ⊥
here-some-none source place n left [] e p b = let k : false ≡ true = b in absurd cc
here-some-none source place n left (t ∷ ts) e p b = after-start place n t (first-after source (place + n) left t ts (sym e)) p b

here-some : (source : List ℕ) (tokens : List Token) (place taken : ℕ) (left : List Taken) → AreTaken (drop place source) left [] → drop taken tokens ≡ tokens_of source place left → place < length source → starts_at place (drop taken tokens) ≡ true → HereSome source tokens place taken
here-some source tokens place taken [] rest tokens_are h b = absurd (omega (arith, ap length rest, length-drop place source))
here-some source tokens place taken ((n, None) ∷ left) rest tokens_are h b =
    absurd (here-some-none source place n left (drop taken tokens) tokens_are (taken-positive (drop place source) n None (omega (arith, length-drop place source)) rest.0) b)
here-some source tokens place taken ((n, Some k) ∷ left) rest tokens_are h b =
    record { kind = k; here = record { count = n; more = left; is_taken = rest.0; positive = taken-positive (drop place source) n (Some k) (omega (arith, length-drop place source)) rest.0; rest = subst (λ l. AreTaken l left []) (drop-add place n source) rest.1; tokens_are = tokens_are } }

pub split-start : (source : List ℕ) (tokens : List Token) → Tokens source tokens → Split source tokens [] 0 0
split-start source tokens t = record { before = []; left = t.pieces; row = refl; rest = t.taken; found_is = refl; tokens_are = t.list_is; within = omega arith; count = omega arith }

pub split-end : (source : List ℕ) (tokens : List Token) (found : List Piece) (place taken : ℕ) → Split source tokens found place taken → length source ≤ place → Pieces source found
split-end source tokens found place taken s h =
    record { row = s.before; taken = subst (AreTaken source s.before) (drop-all source place h) s.row; list_is = s.found_is }
  where
    drop-all : (s : List ℕ) (i : ℕ) → length s ≤ i → drop i s ≡ []
    drop-all s i h = grind (arith, common_steps)

-- a row with one thing more
split-step : (source : List ℕ) (tokens : List Token) (found : List Piece) (place taken next n : ℕ) (kind : Option TokenKind) (more : List Taken) → Split source tokens found place taken → IsTaken (drop place source) n kind → AreTaken (drop (place + n) source) more [] → drop next tokens ≡ tokens_of source (place + n) more → next ≤ length tokens
    → Split source tokens (found ++ new_pieces (drop place source) (n, kind)) (place + n) next
split-step source tokens found place taken next n kind more s is rest are count =
    record {
      before = s.before ++ (n, kind) ∷ [];
      left = more;
      row = subst (AreTaken source (s.before ++ (n, kind) ∷ [])) (drop-add place n source) (taken-push source s.before (drop place source) (n, kind) s.row is);
      rest = rest;
      found_is = ap (λ (l : List Piece). l ++ new_pieces (drop place source) (n, kind)) s.found_is ∙ sym (pieces-push source s.before (drop place source) (n, kind) s.row);
      tokens_are = are;
      within = omega (arith, is.can.within, length-drop place source, s.within);
      count = count;
    }

-- ---- a step that is no token

pub blank-here : (source : List ℕ) (tokens : List Token) (found : List Piece) (place taken : ℕ) → Split source tokens found place taken → place < length source → starts_at place (drop taken tokens) ≡ false → IsBlank (rest_of source place)
blank-here source tokens found place taken s h b =
    let here = here-none source tokens place taken s.left s.rest s.tokens_are h b in
    (here.count, subst (λ l. IsTaken l here.count None) (sym (rest_of-drop source place)) here.is_taken)

pub blank-step : (source : List ℕ) (tokens : List Token) (found next : List Piece) (place taken n : ℕ) → Split source tokens found place taken → place < length source → starts_at place (drop taken tokens) ≡ false → IsTaken (rest_of source place) n None → next ≡ found ++ option_to_list (piece_of (take n (rest_of source place)) None)
    → Split source tokens next (place + n) taken
blank-step source tokens found next place taken n s h b is e =
    let here = here-none source tokens place taken s.left s.rest s.tokens_are h b in
    let is : IsTaken (drop place source) n None = subst (λ l. IsTaken l n None) (rest_of-drop source place) is in
    let len : here.count ≡ n = taken-length (drop place source) here.count n None None here.is_taken is in
    let next_is : next ≡ found ++ new_pieces (drop place source) (n, None) = e ∙ ap (λ l. found ++ new_pieces l (n, None)) (rest_of-drop source place) in
    subst (λ l. Split source tokens l (place + n) taken) (sym next_is)
    (split-step source tokens found place taken taken n None here.more s is (subst (λ k. AreTaken (drop (place + k) source) here.more []) len here.rest) (subst (λ k. drop taken tokens ≡ tokens_of source (place + k) here.more) len here.tokens_are) s.count)

-- what is taken lies within the text
pub blank-within : (source : List ℕ) (place n : ℕ) → place < length source → IsTaken (rest_of source place) n None → (place + n ≤ length source) × (0 < n) × (n ≡ length (take n (rest_of source place))) × IsSpelled (take n (rest_of source place)) None
blank-within source place n h is =
    let e = rest_of-drop source place in
    let len : length (rest_of source place) ≡ length source - place = ap length e ∙ length-drop place source in
    (omega (arith, is.can.within, len), taken-positive (rest_of source place) n None (omega (arith, len)) is, sym (length-take-le n (rest_of source place) is.can.within), is.can.spelled)

-- ---- a step that is a token

pub record TokenStep (source : List ℕ) (tokens : List Token) (found : List Piece) (place taken : ℕ) (t : Token) : Type 0 where
  pub kind : TokenKind
  pub kind_is : t.kind ≡ kind
  pub after : place < t.end
  pub within : t.end ≤ length source
  pub count : taken < length tokens
  pub step : (next : List Piece) → next ≡ found ++ token_piece (take (t.end - place) (drop place source)) t.kind ∷ [] → Split source tokens next t.end (taken + 1)

cons-length : (tokens : List Token) (taken : ℕ) (t : Token) (ts : List Token) → drop taken tokens ≡ t ∷ ts → taken < length tokens
cons-length tokens taken t ts e = omega (arith, ap length e, length-drop taken tokens)

drop-tail : (tokens : List Token) (taken : ℕ) (t : Token) (ts : List Token) → drop taken tokens ≡ t ∷ ts → drop (taken + 1) tokens ≡ ts
drop-tail tokens taken t ts e = sym (add-drop taken 1 tokens) ∙ ap (drop 1) e
  where
    add-drop : (n m : ℕ) (l : List Token) → drop m (drop n l) ≡ drop (n + m) l
    add-drop n m l = grind (arith, common_steps)

drop-head : (tokens : List Token) (taken : ℕ) (t u : Token) (ts : List Token) → drop taken tokens ≡ t ∷ ts → get_or tokens taken u ≡ t
drop-head tokens taken t u ts e = sym (get-drop taken tokens u) ∙ ap (λ l. get_or l 0 u) e
  where
    get-drop : (n : ℕ) (l : List Token) (u : Token) → get_or (drop n l) 0 u ≡ get_or l n u
    get-drop n l u = grind (arith, common_steps)

pub token-step : (source : List ℕ) (tokens : List Token) (found : List Piece) (place taken : ℕ) (t : Token) → Split source tokens found place taken → place < length source → starts_at place (drop taken tokens) ≡ true → t ≡ get_or tokens taken t → TokenStep source tokens found place taken t
token-step source tokens found place taken t s h b is =
    let some = here-some source tokens place taken s.left s.rest s.tokens_are h b in
    let here = some.here in
    let t_is : t ≡ token_at source place here.count some.kind = is ∙ drop-head tokens taken (token_at source place here.count some.kind) t (tokens_of source (place + here.count) here.more) here.tokens_are in
    let end : t.end ≡ place + here.count = ap (λ (u : Token). u.end) t_is in
    let kind : t.kind ≡ some.kind = ap (λ (u : Token). u.kind) t_is in
    let len : t.end - place ≡ here.count = omega (arith, end) in
    let count = cons-length tokens taken (token_at source place here.count some.kind) (tokens_of source (place + here.count) here.more) here.tokens_are in
    record {
      kind = some.kind;
      kind_is = kind;
      after = omega (arith, end, here.positive);
      within = omega (arith, end, here.is_taken.can.within, length-drop place source);
      count = count;
      step = λ next e.
          subst (λ l. Split source tokens l t.end (taken + 1)) (sym (e ∙ ap (λ k. found ++ token_piece (take k (drop place source)) t.kind ∷ []) len ∙ ap (λ k. found ++ token_piece (take here.count (drop place source)) k ∷ []) kind))
          (subst (λ k. Split source tokens (found ++ token_piece (take here.count (drop place source)) some.kind ∷ []) k (taken + 1)) (sym end)
          (split-step source tokens found place taken (taken + 1) here.count (Some some.kind) here.more s here.is_taken here.rest (drop-tail tokens taken (token_at source place here.count some.kind) (tokens_of source (place + here.count) here.more) here.tokens_are) (omega (arith, count))));
    }
