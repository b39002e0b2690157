-- Imports one behind the other.
use Rattle.std.proofs.Common.{◌≡◌, ◌⊎◌, inl, inr, ℕ, ◌<◌, ◌+◌, Bool, true, false, ◌||◌, List, [], ◌∷◌, ◌++◌, length, take, drop, get_or, slice_get, Option, Some, None, Result, Ok, Err, refl, sym, ap, subst, ◌∙◌, append_assoc, if◌then◌else◌}
use Rattle.std.specs.List.{list_any}
use Rattle.std.specs.Str.{bytes_eq}
use Rattle.std.specs.Prelude.{OnOk}
use Rattle.std.specs.declared.alloc.AllocError.{AllocError}
use Rattle.std.proofs.lemmas.List.{append-nil}
use Rattle.std.proofs.lemmas.List.Folds.{list_any-append}
use Rattle.std.proofs.lemmas.Option.{slice_get-get_or}
use Rattle.ep_interface.specs.declared.interface.ImportSpec.{ImportSpec}
use Rattle.ep_interface.specs.declared.interface.Interface.{Interface}
use Rattle.ep_imports.specs.Imports.{AnswersImport, AnswersSole}
use Rattle.ep_imports.specs.Offers.{Offered}
use Rattle.ep_imports.specs.Parts.{AnswersNext, AreUnderway, HaveSame, told_of}
use Rattle.ep_imports.specs.Sequences.{AnswersBehind, AreOpened, IsFirstRefused, any_among, first_shared, qualified_name, spellings, spellings_before, spellings_of}
use Rattle.ep_imports.specs.declared.brought.Brought.{Brought}
use Rattle.ep_imports.specs.declared.brought.Imported.{Imported}
use Rattle.ep_imports.specs.declared.brought.ImportRefusal.{ImportRefusal}
use Rattle.ep_imports.specs.declared.brought.ImportRefusal.TheVariants.{NoInterface, NoConstituent, Twice, NoMemory}
use Rattle.ep_imports.proofs.Listing.{dropped, taken}
use Rattle.ep_imports.proofs.Finding.{or-false}

-- want of memory answers any import
pub no_memory : (spec : ImportSpec) (o : Option Offered) → AnswersSole spec o (Err NoMemory)
no_memory spec None = tt
no_memory spec (Some o) = tt

-- ---- lists that have the same texts

any_same : (xs ys : List (List ℕ)) → HaveSame xs ys → (ss : List (List ℕ)) → any_among ss xs ≡ any_among ss ys
any_same xs ys same [] = refl
any_same xs ys same (s ∷ ss) = ap (λ b. b || any_among ss xs) (same s) ∙ ap (λ b. list_any (bytes_eq s) ys || b) (any_same xs ys same ss)

shared_same : (xs ys : List (List ℕ)) → HaveSame xs ys → (interface : List ℕ) (qualified : Bool) (bs : List Brought) → first_shared xs interface qualified bs ≡ first_shared ys interface qualified bs
shared_same xs ys same interface qualified [] = refl
shared_same xs ys same interface qualified (b ∷ bs) =
    ap (λ t. if t then Some b.here else first_shared xs interface qualified bs) (any_same xs ys same (spellings interface qualified b.here))
    ∙ ap (λ o. if any_among (spellings interface qualified b.here) ys then Some b.here else o) (shared_same xs ys same interface qualified bs)

behind_same : (xs ys : List (List ℕ)) → HaveSame xs ys → (spec : ImportSpec) (given : List Interface) (result : Result Imported ImportRefusal) → AnswersBehind spec given xs result → AnswersBehind spec given ys result
behind_same xs ys same spec given (Ok i) a = (a.0, sym (shared_same xs ys same spec.interface i.qualified i.brought) ∙ a.1)
behind_same xs ys same spec given (Err (NoInterface name)) a = a
behind_same xs ys same spec given (Err (NoConstituent name)) a = a
behind_same xs ys same spec given (Err (Twice name)) (inl a) = inl a
behind_same xs ys same spec given (Err (Twice name)) (inr s) = inr (s.0, s.1, sym (shared_same xs ys same spec.interface s.0.qualified s.0.brought) ∙ s.2)
behind_same xs ys same spec given (Err NoMemory) a = a

-- lists with the same texts, and some more
pub same_grown : (new old start ts ss : List (List ℕ)) → HaveSame new (old ++ ss) → HaveSame old (start ++ ts) → HaveSame new (start ++ (ts ++ ss))
same_grown new old start ts ss grows same text =
    grows text ∙ list_any-append (bytes_eq text) old ss
    ∙ ap (λ b. b || list_any (bytes_eq text) ss) (same text)
    ∙ sym (list_any-append (bytes_eq text) (start ++ ts) ss)
    ∙ ap (list_any (bytes_eq text)) (append_assoc start ts ss)

-- ---- spellings

spellings_of-more : (interface : List ℕ) (qualified : Bool) (bs : List Brought) (b : Brought) → spellings_of interface qualified (bs ++ b ∷ []) ≡ spellings_of interface qualified bs ++ spellings interface qualified b.here
spellings_of-more interface qualified [] b = append-nil (spellings interface qualified b.here)
spellings_of-more interface qualified (a ∷ bs) b =
    ap (λ l. spellings interface qualified a.here ++ l) (spellings_of-more interface qualified bs b)
    ∙ sym (append_assoc (spellings interface qualified a.here) (spellings_of interface qualified bs) (spellings interface qualified b.here))

-- those of one name more
pub spelled_more : (interface : List ℕ) (qualified : Bool) (bs : List Brought) (i : ℕ) (b : Brought) (start old new : List (List ℕ)) → i < length bs → b ≡ get_or bs i b
    → HaveSame new (old ++ spellings interface qualified b.here) → HaveSame old (start ++ spellings_of interface qualified (take i bs))
    → HaveSame new (start ++ spellings_of interface qualified (take (i + 1) bs))
spelled_more interface qualified bs i b start old new within is grows same text =
    same_grown new old start (spellings_of interface qualified (take i bs)) (spellings interface qualified b.here) grows same text
    ∙ ap (λ l. list_any (bytes_eq text) (start ++ l)) (sym (spellings_of-more interface qualified (take i bs) b) ∙ ap (spellings_of interface qualified) (sym (taken bs i b within is)))

-- the plain spelling, and the long one before it
pub plainly : (old : List (List ℕ)) (name : List ℕ) (qualified : Bool) → qualified ≡ true → HaveSame old (old ++ (if qualified then [] else name ∷ []))
plainly old name qualified is text =
    ap (list_any (bytes_eq text)) (sym (append-nil old)) ∙ ap (λ (b : Bool). list_any (bytes_eq text) (old ++ (if b then [] else name ∷ []))) (sym is)

one_more : (old : List (List ℕ)) (text other : List ℕ) → (list_any (bytes_eq text) old || bytes_eq text other) ≡ list_any (bytes_eq text) (old ++ other ∷ [])
one_more old text other = ap (λ b. list_any (bytes_eq text) old || b) (sym (or-false (bytes_eq text other))) ∙ sym (list_any-append (bytes_eq text) old (other ∷ []))

pub plain_more : (old new : List (List ℕ)) (name spelling : List ℕ) (qualified : Bool) → qualified ≡ false → spelling ≡ name
    → ((text : List ℕ) → list_any (bytes_eq text) new ≡ (list_any (bytes_eq text) old || bytes_eq text spelling))
    → HaveSame new (old ++ (if qualified then [] else name ∷ []))
plain_more old new name spelling qualified is named grows text =
    grows text ∙ ap (λ l. list_any (bytes_eq text) old || bytes_eq text l) named ∙ one_more old text name
    ∙ ap (λ (b : Bool). list_any (bytes_eq text) (old ++ (if b then [] else name ∷ []))) (sym is)

pub long_more : (old middle new : List (List ℕ)) (interface name spelling : List ℕ) (qualified : Bool) → spelling ≡ qualified_name interface name
    → ((text : List ℕ) → list_any (bytes_eq text) middle ≡ (list_any (bytes_eq text) old || bytes_eq text spelling))
    → HaveSame new (middle ++ (if qualified then [] else name ∷ []))
    → HaveSame new (old ++ spellings interface qualified name)
long_more old middle new interface name spelling qualified named grows more text =
    let rest : List (List ℕ) = if qualified then [] else name ∷ [] in
    more text ∙ list_any-append (bytes_eq text) middle rest
    ∙ ap (λ b. b || list_any (bytes_eq text) rest) (grows text ∙ ap (λ l. list_any (bytes_eq text) old || bytes_eq text l) named ∙ one_more old text (qualified_name interface name))
    ∙ sym (list_any-append (bytes_eq text) (old ++ qualified_name interface name ∷ []) rest)
    ∙ ap (list_any (bytes_eq text)) (append_assoc old (qualified_name interface name ∷ []) rest)

-- ---- shared names

pub shared_step : (before : List (List ℕ)) (interface : List ℕ) (qualified : Bool) (bs : List Brought) (i : ℕ) (b : Brought) (there : Bool) → i < length bs → b ≡ get_or bs i b
    → there ≡ any_among (spellings interface qualified b.here) before → first_shared before interface qualified (drop i bs) ≡ first_shared before interface qualified bs
    → (if there then Some b.here else first_shared before interface qualified (drop (i + 1) bs)) ≡ first_shared before interface qualified bs
shared_step before interface qualified bs i b there within is has rest =
    ap (λ (t : Bool). if t then Some b.here else first_shared before interface qualified (drop (i + 1) bs)) has
    ∙ ap (first_shared before interface qualified) (sym (dropped bs i b within is)) ∙ rest

-- ---- imports

opened_more : (before : List (List ℕ)) (ss : List ImportSpec) (is : List Imported) (given : List Interface) (s : ImportSpec) (i : Imported) → AreOpened before ss given is
    → AnswersBehind s given (before ++ spellings_before ss is) (Ok i) → AreOpened before (ss ++ s ∷ []) given (is ++ i ∷ [])
opened_more before [] [] given s i opened a = (subst (λ l. AnswersBehind s given l (Ok i)) (append-nil before) a, tt)
opened_more before [] (j ∷ is) given s i opened a = absurd opened
opened_more before (t ∷ ss) [] given s i opened a = absurd opened
opened_more before (t ∷ ss) (j ∷ is) given s i opened a = (
  opened.0,
  opened_more (before ++ spellings_of t.interface j.qualified j.brought) ss is given s i opened.1
      (subst (λ l. AnswersBehind s given l (Ok i)) (sym (append_assoc before (spellings_of t.interface j.qualified j.brought) (spellings_before ss is))) a),
)

before_more : (before : List (List ℕ)) (ss : List ImportSpec) (is : List Imported) (given : List Interface) (s : ImportSpec) (i : Imported) → AreOpened before ss given is
    → spellings_before (ss ++ s ∷ []) (is ++ i ∷ []) ≡ spellings_before ss is ++ spellings_of s.interface i.qualified i.brought
before_more before [] [] given s i opened = append-nil (spellings_of s.interface i.qualified i.brought)
before_more before [] (j ∷ is) given s i opened = absurd opened
before_more before (t ∷ ss) [] given s i opened = absurd opened
before_more before (t ∷ ss) (j ∷ is) given s i opened =
    ap (λ l. spellings_of t.interface j.qualified j.brought ++ l) (before_more (before ++ spellings_of t.interface j.qualified j.brought) ss is given s i opened.1)
    ∙ sym (append_assoc (spellings_of t.interface j.qualified j.brought) (spellings_before ss is) (spellings_of s.interface i.qualified i.brought))

-- no import
pub underway_begin : (given : List Interface) (is : List Imported) (spelled : List (List ℕ)) → is ≡ [] → spelled ≡ [] → AreUnderway [] given is spelled
underway_begin given is spelled no_import no_text =
    subst (λ l. AreUnderway [] given l spelled) (sym no_import) (record { opened = tt; same = λ text. ap (list_any (bytes_eq text)) no_text })

-- one import more
pub underway_more : (specs : List ImportSpec) (n : ℕ) (s : ImportSpec) (given : List Interface) (is new : List Imported) (i : Imported) (spelled spelled_new : List (List ℕ)) → n < length specs → s ≡ get_or specs n s
    → AreUnderway (take n specs) given is spelled → AnswersBehind s given spelled (Ok i) → new ≡ is ++ i ∷ []
    → HaveSame spelled_new (spelled ++ spellings_of s.interface i.qualified i.brought) → AreUnderway (take (n + 1) specs) given new spelled_new
underway_more specs n s given is new i spelled spelled_new within at u a grows more =
    let ss : List ImportSpec = take n specs in
    let all : AreUnderway (ss ++ s ∷ []) given (is ++ i ∷ []) spelled_new =
    record {
      opened = opened_more [] ss is given s i u.opened (behind_same spelled (spellings_before ss is) u.same s given (Ok i) a);
      same = λ text.
          more text ∙ list_any-append (bytes_eq text) spelled (spellings_of s.interface i.qualified i.brought)
          ∙ ap (λ b. b || list_any (bytes_eq text) (spellings_of s.interface i.qualified i.brought)) (u.same text)
          ∙ sym (list_any-append (bytes_eq text) (spellings_before ss is) (spellings_of s.interface i.qualified i.brought))
          ∙ ap (list_any (bytes_eq text)) (sym (before_more [] ss is given s i u.opened));
    } in
    subst (λ l. AreUnderway l given new spelled_new) (sym (taken specs n s within at)) (subst (λ l. AreUnderway (ss ++ s ∷ []) given l spelled_new) (sym grows) all)

-- an import that is refused behind those that are opened
pub refused_here : (specs : List ImportSpec) (n : ℕ) (s : ImportSpec) (given : List Interface) (is : List Imported) (refusal : ImportRefusal) (spelled : List (List ℕ)) → n < length specs → s ≡ get_or specs n s
    → AreUnderway (take n specs) given is spelled → AnswersBehind s given spelled (Err refusal) → IsFirstRefused specs given n refusal
refused_here specs n s given is refusal spelled within at u a = record {
  spec = s;
  stands = slice_get-get_or specs n s within ∙ ap Some (sym at);
  before = is;
  opened = u.opened;
  refused = behind_same spelled (spellings_before (take n specs) is) u.same s given (Err refusal) a;
}

-- an import that is kept, or for which memory is wanting
pub next_kept : (spec : ImportSpec) (given : List Interface) (imports imports_now : List Imported) (spelled spelled_now : List (List ℕ)) (i : Imported)
    (kept : Result (Unit {0}) AllocError) (result : Result (Unit {0}) ImportRefusal) → result ≡ told_of kept → AnswersBehind spec given spelled (Ok i)
    → OnOk kept (imports_now ≡ imports ++ i ∷ []) → OnOk kept (HaveSame spelled_now (spelled ++ spellings_of spec.interface i.qualified i.brought))
    → AnswersNext spec given imports spelled result imports_now spelled_now
next_kept spec given imports imports_now spelled spelled_now i (Ok done) result told a grows same =
    subst (λ r. AnswersNext spec given imports spelled r imports_now spelled_now) (sym told) (i, grows, a, same)
next_kept spec given imports imports_now spelled spelled_now i (Err e) result told a grows same =
    subst (λ r. AnswersNext spec given imports spelled r imports_now spelled_now) (sym told) tt
