-- A front of a piece that was kept.
use Rattle.std.proofs.Common.{◌≡◌, ℕ, Bool, true, false, cond, List, [], ◌++◌, Some, take, drop, refl, sym, append-nil, take-append-drop, ◌∙◌, ◌⊎◌, inl, inr, Result, Ok, Err, OnOk, OnErr}
use Rattle.ep_outside.specs.Known.{IsPrefix, AppendsFront, Directory, appended, KeepsFiles, AppendsFrontTo}

pub take_IsPrefix : (n : ℕ) (piece : List ℕ) → IsPrefix (take n piece) piece
take_IsPrefix n piece = record { rest = drop n piece; is = sym (take-append-drop n piece) }

pub nil_IsPrefix : (piece : List ℕ) → IsPrefix [] piece
nil_IsPrefix piece = record { rest = piece; is = refl }

-- where memory was wanting, the front is empty
pub front_kept : (b : Bool) (n : ℕ) (old new piece : List ℕ) → new ≡ cond b (old ++ take n piece) old → AppendsFront (Some old) (Some new) piece
front_kept true n old new piece e = record { front = take n piece; begins = take_IsPrefix n piece; grows = e }
front_kept false n old new piece e = record { front = []; begins = nil_IsPrefix piece; grows = e ∙ sym (append-nil old) }

-- the same of a file, which is as before where memory was wanting
pub front_appended : {T E : Type 0} (r : Result T E) (name piece : List ℕ) (n : ℕ) (old new : Directory)
    → OnOk r ((other : List ℕ) → new other ≡ appended name (take n piece) old other) → OnErr r ((other : List ℕ) → new other ≡ old other)
    → KeepsFiles (Some old) (Some new) ⊎ AppendsFrontTo name piece (Some old) (Some new)
front_appended (Ok x) name piece n old new ok err = inr (record { front = take n piece; begins = take_IsPrefix n piece; changes = ok })
front_appended (Err e) name piece n old new ok err = inl err
