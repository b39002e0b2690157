-- How traces that were done, wholly or in part, follow one another.
use Rattle.std.proofs.Common.{◌≡◌, ℕ, List, [], ◌∷◌, ◌++◌, Option, None, Some, inl, inr, refl, sym, ap, ◌∙◌, subst, append_assoc, append-nil}
use Rattle.std.proofs.KnownBytes.{Keeps-refl, Keeps-trans, Appends-nil, Appends-trans, Appends-kept}
use Rattle.ep_outside.specs.Known.{Appends, Directory, created, appended, ChangesBy, KeepsFiles}
use Rattle.ep_values.specs.Events.{Event, Write, Create, Append, Trace, output_of, files_after, Outside, Same, Does, InHand, MayBegin, DoesPart, DoesFront}

same_functions : {A B : Type 0} {f g : A → B} → ((x : A) → f x ≡ g x) → f ≡ g
same_functions h i x = h x i

pub keeps_files-refl : (files : Option Directory) → KeepsFiles files files
keeps_files-refl None = tt
keeps_files-refl (Some files) = λ name. refl

pub changes-trans : (f g : Directory → Directory) (a b c : Option Directory) → ChangesBy f a b → ChangesBy g b c → ChangesBy (λ d. g (f d)) a c
changes-trans f g None b c p q = tt
changes-trans f g (Some x) None c p q = absurd p
changes-trans f g (Some x) (Some y) None p q = absurd q
changes-trans f g (Some x) (Some y) (Some z) p q = λ name. q name ∙ ap (λ d. g d name) (same_functions p)

-- a change that is pointwise another one
pub changes-as : (f g : Directory → Directory) (a b : Option Directory) → ((d : Directory) (name : List ℕ) → f d name ≡ g d name) → ChangesBy f a b → ChangesBy g a b
changes-as f g None b e p = tt
changes-as f g (Some x) None e p = absurd p
changes-as f g (Some x) (Some y) e p = λ name. p name ∙ e x name

pub output_of-append : (a b : Trace) → output_of (a ++ b) ≡ output_of a ++ output_of b
output_of-append [] b = refl
output_of-append (Write piece ∷ a) b = ap (λ l. piece ++ l) (output_of-append a b) ∙ sym (append_assoc piece (output_of a) (output_of b))
output_of-append (Create name ∷ a) b = output_of-append a b
output_of-append (Append name piece ∷ a) b = output_of-append a b

pub files_after-append : (a b : Trace) (d : Directory) → files_after (a ++ b) d ≡ files_after b (files_after a d)
files_after-append [] b d = refl
files_after-append (Write piece ∷ a) b d = files_after-append a b d
files_after-append (Create name ∷ a) b d = files_after-append a b (created name d)
files_after-append (Append name piece ∷ a) b d = files_after-append a b (appended name piece d)

pub same-refl : (s : Outside) → Same s s
same-refl s = record { output = Keeps-refl s.output; files = keeps_files-refl s.files }

pub same-trans : (s t u : Outside) → Same s t → Same t u → Same s u
same-trans s t u p q = record { output = Keeps-trans s.output t.output u.output p.output q.output; files = changes-trans (λ d. d) (λ d. d) s.files t.files u.files p.files q.files }

-- an empty trace changes nothing
pub does-nil : (s t : Outside) → Same s t → Does [] s t
does-nil s t p = record { output = Appends-kept s.output s.output t.output [] (Appends-nil s.output) p.output; files = p.files }

pub does-trans : (a b : Trace) (s t u : Outside) → Does a s t → Does b t u → Does (a ++ b) s u
does-trans a b s t u p q = record {
  output = subst (Appends s.output u.output) (sym (output_of-append a b)) (Appends-trans s.output t.output u.output (output_of a) (output_of b) p.output q.output);
  files = changes-as (λ d. files_after b (files_after a d)) (files_after (a ++ b)) s.files u.files (λ d name. ap (λ e. e name) (sym (files_after-append a b d))) (changes-trans (files_after a) (files_after b) s.files t.files u.files p.files q.files);
}

-- what may begin a trace may begin a longer one
may_begin-append : (a b : Trace) (s t : Outside) → MayBegin a s t → MayBegin (a ++ b) s t
may_begin-append [] [] s t p = p
may_begin-append [] (event ∷ b) s t p = inl p
may_begin-append (event ∷ a) b s t p = p

-- a part of a front of a trace is a part of it
pub does_part-front : (a b : Trace) (s t : Outside) → DoesPart a s t → DoesPart (a ++ b) s t
does_part-front a b s t p = record {
  done = p.done;
  left = p.left ++ b;
  is = ap (λ l. l ++ b) p.is ∙ append_assoc p.done p.left b;
  middle = p.middle;
  does = p.does;
  begins = may_begin-append p.left b p.middle t p.begins;
}

-- all of a trace, and then a part of another one
pub does_part-after : (a b : Trace) (s t u : Outside) → Does a s t → DoesPart b t u → DoesPart (a ++ b) s u
does_part-after a b s t u p q = record {
  done = a ++ q.done;
  left = q.left;
  is = ap (λ l. a ++ l) q.is ∙ sym (append_assoc a q.done q.left);
  middle = q.middle;
  does = does-trans a q.done s t q.middle p q.does;
  begins = q.begins;
}

-- nothing of a trace
pub does_part-none : (a : Trace) (s t : Outside) → Same s t → DoesPart a s t
does_part-none a s t p = record { done = []; left = a; is = refl; middle = t; does = does-nil s t p; begins = may_begin-append [] a t t (same-refl t) }

-- the whole of a trace is a part of it
pub does_part-all : (a : Trace) (s t : Outside) → Does a s t → DoesPart a s t
does_part-all a s t p = record { done = a; left = []; is = sym (append-nil a); middle = t; does = p; begins = same-refl t }

-- the first event of a trace is in hand
pub does_part-in_hand : (event : Event) (rest : Trace) (s t : Outside) → InHand event s t → DoesPart (event ∷ rest) s t
does_part-in_hand event rest s t p = record { done = []; left = event ∷ rest; is = refl; middle = s; does = does-nil s s (same-refl s); begins = inr p }

-- ---- whole events only

-- a whole front is a part
pub does_front-part : (a : Trace) (s t : Outside) → DoesFront a s t → DoesPart a s t
does_front-part a s t p = record { done = p.done; left = p.left; is = p.is; middle = t; does = p.does; begins = may_begin-append [] p.left t t (same-refl t) }

-- a whole front of a front of a trace is one of it
pub does_front-front : (a b : Trace) (s t : Outside) → DoesFront a s t → DoesFront (a ++ b) s t
does_front-front a b s t p =
    record { done = p.done; left = p.left ++ b; is = ap (λ l. l ++ b) p.is ∙ append_assoc p.done p.left b; does = p.does }

-- a whole front, and then one of the events that were left
pub does_front-trans : (a : Trace) (s t u : Outside) (p : DoesFront a s t) → DoesFront p.left t u → DoesFront a s u
does_front-trans a s t u p q = record {
  done = p.done ++ q.done;
  left = q.left;
  is = p.is ∙ (ap (λ l. p.done ++ l) q.is ∙ sym (append_assoc p.done q.done q.left));
  does = does-trans p.done q.done s t u p.does q.does;
}

-- all of a trace, and then a whole front of another one
pub does_front-after : (a b : Trace) (s t u : Outside) → Does a s t → DoesFront b t u → DoesFront (a ++ b) s u
does_front-after a b s t u p q = record {
  done = a ++ q.done;
  left = q.left;
  is = ap (λ l. a ++ l) q.is ∙ sym (append_assoc a q.done q.left);
  does = does-trans a q.done s t u p q.does;
}

-- nothing of a trace
pub does_front-none : (a : Trace) (s t : Outside) → Same s t → DoesFront a s t
does_front-none a s t p = record { done = []; left = a; is = refl; does = does-nil s t p }

-- the whole of a trace
pub does_front-all : (a : Trace) (s t : Outside) → Does a s t → DoesFront a s t
does_front-all a s t p = record { done = a; left = []; is = sym (append-nil a); does = p }
