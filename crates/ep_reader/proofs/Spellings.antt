-- The identifiers that the grammar tells apart by their spelling.
use Rattle.std.proofs.Common.{◌≡◌, ℕ, Bool, true, false, if◌then◌else◌, List, codes, bytes_eq, refl, arith}
use Rattle.std.proofs.lemmas.Slice.Eq.{bytes_eq-Decides}
use Rattle.ep_grammar.specs.Classes.{Class, Name, Interface, Implementation, Forward, same, class_of_name}

equal_bytes : (n m : List ℕ) → bytes_eq n m ≡ true → n ≡ m
equal_bytes n m h = grind (arith, bytes_eq-Decides)

-- an identifier is of a class exactly where it has the spelling, if each other spelling is of another class
spelled : (n m : List ℕ) (k : Class) → same (class_of_name m) k ≡ true → (bytes_eq n m ≡ false → same (class_of_name n) k ≡ false) → same (class_of_name n) k ≡ bytes_eq n m
spelled n m k is other = go (bytes_eq n m) refl
  where
    go : (b : Bool) → bytes_eq n m ≡ b → same (class_of_name n) k ≡ b
    go true e = rw (equal_bytes n m e) is
    go false e = other e

not_interface : (a b c : Bool) → a ≡ false → same (if a then Interface else (if b then Implementation else (if c then Forward else Name))) Interface ≡ false
not_interface true b c h = absurd (cc)
not_interface false true c h = refl
not_interface false false true h = refl
not_interface false false false h = refl

not_implementation : (a b c : Bool) → b ≡ false → same (if a then Interface else (if b then Implementation else (if c then Forward else Name))) Implementation ≡ false
not_implementation true b c h = refl
not_implementation false true c h = absurd (cc)
not_implementation false false true h = refl
not_implementation false false false h = refl

not_forward : (a b c : Bool) → c ≡ false → same (if a then Interface else (if b then Implementation else (if c then Forward else Name))) Forward ≡ false
not_forward true b c h = refl
not_forward false true c h = refl
not_forward false false true h = absurd (cc)
not_forward false false false h = refl

pub interface_is : (n : List ℕ) → same (class_of_name n) Interface ≡ bytes_eq n (codes "interface")
unfolding class_of_name
interface_is n = spelled n (codes "interface") Interface refl (not_interface (bytes_eq n (codes "interface")) (bytes_eq n (codes "implementation")) (bytes_eq n (codes "forward")))

pub implementation_is : (n : List ℕ) → same (class_of_name n) Implementation ≡ bytes_eq n (codes "implementation")
unfolding class_of_name
implementation_is n = spelled n (codes "implementation") Implementation refl (not_implementation (bytes_eq n (codes "interface")) (bytes_eq n (codes "implementation")) (bytes_eq n (codes "forward")))

pub forward_is : (n : List ℕ) → same (class_of_name n) Forward ≡ bytes_eq n (codes "forward")
unfolding class_of_name
forward_is n = spelled n (codes "forward") Forward refl (not_forward (bytes_eq n (codes "interface")) (bytes_eq n (codes "implementation")) (bytes_eq n (codes "forward")))
