-- Each object of a list stands in the image that they are linked to.
use Rattle.std.proofs.Common.{◌≡◌, ℕ, zero, suc, ◌+◌, Bool, true, false, cond, List, [], ◌∷◌, ◌++◌, map, length}
use Rattle.std.proofs.Common.{length-append, append_assoc, Option, Some, None, slice_get, bytes_eq, refl, sym, ap}
use Rattle.std.proofs.Common.{◌∙◌, subst, arith, zero-add}
use Rattle.std.specs.Option.{option_map}
use Rattle.std.proofs.lemmas.List.{length-map}
use Rattle.std.proofs.lemmas.Option.{slice_get-map}
use Rattle.std.proofs.lemmas.Slice.Eq.{bytes_eq-Decides}
use Rattle.ep_object.specs.Placing.{Placement, Stands, CodeStands}
use Rattle.ep_object.specs.Placing.{placed, placed_routine, placed_type, placed_object_unit, placement_of, placements}
use Rattle.ep_object.specs.Placing.{joined, image_part, empty_image, parts_of, linked}
use Rattle.ep_object.specs.declared.code.Image.{Image}
use Rattle.ep_object.specs.declared.code.ImageUnit.{ImageUnit}
use Rattle.ep_object.specs.declared.code.Instr.{Instr}
use Rattle.ep_object.specs.declared.code.Object.{Object}
use Rattle.ep_object.specs.declared.code.Reference.{Reference}
use Rattle.ep_link.specs.Laws.{LinkedStand, LinkedAreDistinct, LinkedHasAllUnits}
use Rattle.ep_link.specs.Linking.{AreDistinct}
use Rattle.ep_link.specs.Placements.{first_bases, placement_at}
use Rattle.ep_link.specs.declared.placement.Bases.{Bases}
use Rattle.ep_link.proofs.Placed.{bases_behind, placed_from_first, placements_at}

-- ---- lists one after another

map_at : {A B : Type 0} (f : A → B) (xs : List A) (k : ℕ) (x : A) → slice_get xs k ≡ Some x
    → slice_get (map f xs) k ≡ Some (f x)
map_at f xs k x h = slice_get-map f xs k ∙ ap (option_map f) h

-- what stands behind a list
behind : {A : Type 0} (xs ys : List A) (k : ℕ) → slice_get (xs ++ ys) (length xs + k) ≡ slice_get ys k
behind [] ys k = ap (slice_get ys) {x = 0 + k} {y = k} (zero-add k)
behind (x ∷ xs) ys k =
    ap (slice_get (x ∷ (xs ++ ys))) {x = suc (length xs) + k} {y = suc (length xs + k)} (omega arith) ∙ behind xs ys k

front : {A : Type 0} (xs ys : List A) (k : ℕ) (x : A) → slice_get xs k ≡ Some x → slice_get (xs ++ ys) k ≡ Some x
front [] ys k x e = cc
front (y ∷ xs) ys zero x e = e
front (y ∷ xs) ys (suc k) x e = front xs ys k x e

-- what a list in the middle has
within : {A : Type 0} (before xs after : List A) (n k : ℕ) (x : A)
    → length before ≡ n → slice_get xs k ≡ Some x → slice_get (before ++ (xs ++ after)) (n + k) ≡ Some x
within before xs after n k x is at =
    subst (λ m. slice_get (before ++ (xs ++ after)) (m + k) ≡ Some x) is
    (behind before (xs ++ after) k ∙ front xs after k x at)

-- ---- an object between others

-- so much stands in the image
record IsAt (before : Image) (b : Bases) : Type 0 where
  units : length before.units ≡ b.unit
  routines : length before.routines ≡ b.routines
  texts : length before.texts ≡ b.texts
  constant_types : length before.constant_types ≡ b.constant_types
  instructions : length before.instructions ≡ b.instructions

-- the image has the object's parts, behind these of others
record Between (G : Image) (ps : List Placement) (b : Bases) (o : Object) : Type 0 where
  before : Image
  after : Image
  is : G ≡ joined before (joined (image_part ps (placement_at b o) o) after)
  is_at : IsAt before b

stands_from : (G : Image) (ps : List Placement) (p : Placement) (rs : List Reference) (before after is : List Instr)
    (place : ℕ)
    → G.instructions ≡ before ++ (map (placed ps p rs) is ++ after) → length before ≡ p.instructions.before + place
    → CodeStands G ps p rs place is
stands_from G ps p rs before after [] place e l = tt
stands_from G ps p rs before after (i ∷ is) place e l =
    let f : Instr → Instr = placed ps p rs in
    let more : G.instructions ≡ (before ++ f i ∷ []) ++ (map f is ++ after) =
    e ∙ sym (append_assoc before (f i ∷ []) (map f is ++ after)) in
    let start : length before + 0 ≡ p.instructions.before + place = omega (arith, l) in
    let here : slice_get G.instructions (p.instructions.before + place) ≡ Some (f i) =
    ap (λ xs. slice_get xs (p.instructions.before + place)) e
    ∙ subst (λ n. slice_get (before ++ (f i ∷ (map f is ++ after))) n ≡ Some (f i)) start
    (behind before (f i ∷ (map f is ++ after)) 0) in
    let next : length (before ++ f i ∷ []) ≡ p.instructions.before + (place + 1) =
    omega (arith, l, length-append before (f i ∷ [])) in
    (here, stands_from G ps p rs (before ++ f i ∷ []) after is (place + 1) more next)

between_stands : (G : Image) (ps : List Placement) (b : Bases) (o : Object)
    → Between G ps b o → placement_of ps o.name ≡ Some (placement_at b o) → Stands G ps (placement_at b o) o
between_stands G ps b o w listed =
    let p : Placement = placement_at b o in
    let x = w.before in
    let y = w.after in
    let u : ImageUnit = placed_object_unit p o in
    let unit : slice_get (x.units ++ (u ∷ [] ++ y.units)) b.unit ≡ Some u =
    subst (λ n. slice_get (x.units ++ (u ∷ [] ++ y.units)) n ≡ Some u) {x = b.unit + 0} {y = b.unit} (omega arith)
    (within x.units (u ∷ []) y.units b.unit 0 u w.is_at.units refl) in
    record {
      of_object =
          record {
            name = refl;
            slots = refl;
            routines = refl;
            texts = refl;
            constant_types = refl;
            instructions = refl;
          };
      listed = listed;
      unit =
          ap (λ (g : Image). slice_get g.units b.unit) w.is ∙ unit;
      code =
          stands_from G ps p o.references x.instructions y.instructions o.instructions 0
          (ap (λ (g : Image). g.instructions) w.is) (omega (arith, w.is_at.instructions));
      routines = λ r t h.
          ap (λ (g : Image). slice_get g.routines (b.routines + r)) w.is
          ∙ within x.routines (map (placed_routine p) o.routines) y.routines b.routines r (placed_routine p t)
          w.is_at.routines (map_at (placed_routine p) o.routines r t h);
      texts = λ k t h.
          ap (λ (g : Image). slice_get g.texts (b.texts + k)) w.is
          ∙ within x.texts o.texts y.texts b.texts k t w.is_at.texts h;
      constant_types = λ k t h.
          ap (λ (g : Image). slice_get g.constant_types (b.constant_types + k)) w.is
          ∙ within x.constant_types (map (placed_type p.constant_types) o.constant_types) y.constant_types
          b.constant_types k (placed_type p.constant_types t) w.is_at.constant_types
          (map_at (placed_type p.constant_types) o.constant_types k t h);
    }

-- ---- an object of a list

pub regroup : (a b c : Image) → joined a (joined b c) ≡ joined (joined a b) c
regroup a b c =
    rw (
      append_assoc a.units b.units c.units,
      append_assoc a.routines b.routines c.routines,
      append_assoc a.texts b.texts c.texts,
      append_assoc a.constant_types b.constant_types c.constant_types,
      append_assoc a.instructions b.instructions c.instructions,
    ) refl

next_at : (ps : List Placement) (before : Image) (b : Bases) (o : Object)
    → IsAt before b → IsAt (joined before (image_part ps (placement_at b o) o)) (bases_behind b o)
next_at ps before b o w =
    let p : Placement = placement_at b o in
    record {
      units = omega (arith, length-append before.units (placed_object_unit p o ∷ []), w.units);
      routines =
          omega (
            arith,
            length-append before.routines (map (placed_routine p) o.routines),
            length-map o.routines (placed_routine p),
            w.routines,
          );
      texts = omega (arith, length-append before.texts o.texts, w.texts);
      constant_types =
          omega (
            arith,
            length-append before.constant_types (map (placed_type p.constant_types) o.constant_types),
            length-map o.constant_types (placed_type p.constant_types),
            w.constant_types,
          );
      instructions =
          omega (
            arith,
            length-append before.instructions (map (placed ps p o.references) o.instructions),
            length-map o.instructions (placed ps p o.references),
            w.instructions,
          );
    }

-- an object of the list with its placement, and with what stands before it and behind it
record Found (G : Image) (ps rest : List Placement) (first k : ℕ) (o : Object) : Type 0 where
  bases : Bases
  listed : slice_get rest k ≡ Some (placement_at bases o)
  number : bases.unit ≡ first + k
  between : Between G ps bases o

find : (G : Image) (ps : List Placement) (os : List Object) (b : Bases) (before : Image)
    → G ≡ joined before (parts_of ps (placements_at b os) os) → IsAt before b
    → (k : ℕ) (x : Object) → slice_get os k ≡ Some x → Found G ps (placements_at b os) b.unit k x
find G ps [] b before is w k x at = cc
find G ps (o ∷ os) b before is w zero x at =
    let same : o ≡ x = cc in
    let rest : Image = parts_of ps (placements_at (bases_behind b o) os) os in
    subst (Found G ps (placements_at b (o ∷ os)) b.unit 0) same
    (record {
      bases = b;
      listed = refl;
      number = omega arith;
      between = record { before = before; after = rest; is = is; is_at = w };
    })
find G ps (o ∷ os) b before is w (suc k) x at =
    let part : Image = image_part ps (placement_at b o) o in
    let rest : Image = parts_of ps (placements_at (bases_behind b o) os) os in
    let inner =
    find G ps os (bases_behind b o) (joined before part) (is ∙ regroup before part rest) (next_at ps before b o w)
    k x at in
    record { bases = inner.bases; listed = inner.listed; number = inner.number ∙ omega arith; between = inner.between }

-- the placement of a name is that of the only object that has it
named : (os : List Object) (b : Bases) (k : ℕ) (x : Object) (r : Placement)
    → slice_get os k ≡ Some x → slice_get (placements_at b os) k ≡ Some r
    → ((j : ℕ) (a : Object) → slice_get os j ≡ Some a → a.name ≡ x.name → j ≡ k)
    → placement_of (placements_at b os) x.name ≡ Some r
named [] b k x r at has only = cc
named (o ∷ os) b zero x r at has only =
    let is : o ≡ x = cc in
    let that : placement_at b o ≡ r = cc in
    go (bytes_eq o.name x.name) refl (ap (λ (z : Object). z.name) is) that
  where
    go : (same : Bool) → bytes_eq o.name x.name ≡ same → o.name ≡ x.name → placement_at b o ≡ r
        → cond same (Some (placement_at b o)) (placement_of (placements_at (bases_behind b o) os) x.name) ≡ Some r
    go true e n t = ap Some t
    go false e n t = absurd (grind (arith, bytes_eq-Decides))
named (o ∷ os) b (suc k) x r at has only =
    let alone : (j : ℕ) (a : Object) → slice_get os j ≡ Some a → a.name ≡ x.name → j ≡ k =
    λ j a h n. let e : suc j ≡ suc k = only (suc j) a h n in omega (arith, e) in
    go (bytes_eq o.name x.name) refl (named os (bases_behind b o) k x r at has alone)
  where
    go : (same : Bool) → bytes_eq o.name x.name ≡ same
        → placement_of (placements_at (bases_behind b o) os) x.name ≡ Some r
        → cond same (Some (placement_at b o)) (placement_of (placements_at (bases_behind b o) os) x.name) ≡ Some r
    go true e rest =
        let name : o.name ≡ x.name = grind (arith, bytes_eq-Decides) in
        let no : 0 ≡ suc k = only 0 o refl name in
        absurd (omega (arith, no))
    go false e rest = rest

-- the same of placements that are those of the list
stand_at : (os : List Object) (ps : List Placement) → ps ≡ placements_at first_bases os → AreDistinct os
    → (k : ℕ) (o : Object) → slice_get os k ≡ Some o
    → (p : Placement) × (slice_get ps k ≡ Some p) × (p.unit ≡ k) × Stands (parts_of ps ps os) ps p o
stand_at os ps same distinct k o at =
    let Goal : List Placement → Type 0 =
    λ qs. (p : Placement) × (slice_get qs k ≡ Some p) × (p.unit ≡ k) × Stands (parts_of qs qs os) qs p o in
    let qs : List Placement = placements_at first_bases os in
    let f = find (parts_of qs qs os) qs os first_bases empty_image refl
    (record { units = refl; routines = refl; texts = refl; constant_types = refl; instructions = refl }) k o at in
    let p : Placement = placement_at f.bases o in
    subst Goal (sym same) (
      p,
      f.listed,
      f.number ∙ zero-add k,
      between_stands (parts_of qs qs os) qs f.bases o f.between
          (named os first_bases k o p at f.listed (λ j a h n. distinct j k a o h at n)),
    )

pub linked_stand : LinkedStand
linked_stand os distinct k o at =
    let s = stand_at os (placements os) (placed_from_first os) distinct k o at in
    record { placement = s.0; listed = s.1; unit = s.2; stands = s.3 }

-- ---- the units of the image

unit_names : (ps : List Placement) (b : Bases) (os : List Object)
    → map (λ (u : ImageUnit). u.name) (parts_of ps (placements_at b os) os).units ≡ map (λ (o : Object). o.name) os
unit_names ps b [] = refl
unit_names ps b (o ∷ os) = ap (λ names. o.name ∷ names) (unit_names ps (bases_behind b o) os)

-- the names of the units are those of the objects, in order
pub linked_names : (os : List Object)
    → map (λ (u : ImageUnit). u.name) (linked os).units ≡ map (λ (o : Object). o.name) os
linked_names os =
    ap (λ ps. map (λ (u : ImageUnit). u.name) (parts_of (placements os) ps os).units) (placed_from_first os)
    ∙ unit_names (placements os) first_bases os

pub linked_units : LinkedHasAllUnits
linked_units os =
    sym (length-map (linked os).units (λ (u : ImageUnit). u.name)) ∙ ap length (linked_names os)
    ∙ length-map os (λ (o : Object). o.name)

-- the object whose name a unit has
object_at : (os : List Object) (i : ℕ) (u : ImageUnit) → slice_get (linked os).units i ≡ Some u
    → (o : Object) × (slice_get os i ≡ Some o) × (u.name ≡ o.name)
object_at os i u at =
    let named_at : Some u.name ≡ option_map (λ (o : Object). o.name) (slice_get os i) =
    sym (map_at (λ (v : ImageUnit). v.name) (linked os).units i u at)
    ∙ ap (λ names. slice_get names i) (linked_names os) ∙ slice_get-map (λ (o : Object). o.name) os i in
    go (slice_get os i) refl named_at
  where
    go : (found : Option Object) → slice_get os i ≡ found → Some u.name ≡ option_map (λ (o : Object). o.name) found
        → (o : Object) × (slice_get os i ≡ Some o) × (u.name ≡ o.name)
    go None e h = cc
    go (Some o) e h = (o, e, cc)

pub linked_distinct : LinkedAreDistinct
linked_distinct os distinct i j a b at_i at_j same =
    let x = object_at os i a at_i in
    let y = object_at os j b at_j in
    distinct i j x.0 y.0 x.1 y.1 (sym x.2 ∙ same ∙ y.2)
