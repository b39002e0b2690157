-- An object alone stands in its image.
use Rattle.std.proofs.Common.{◌≡◌, ℕ, zero, suc, true, List, [], ◌∷◌, ◌++◌, length, length-append, append_assoc, Some, slice_get, bytes_eq, map, refl, sym, ap, ◌∙◌, subst, arith, zero-add}
use Rattle.ep_object.specs.Placing.{Placement, CodeStands, Stands, HasDistinctNames, placed, placed_routine, placed_type, alone, first_placement}
use Rattle.std.proofs.lemmas.Slice.Eq.{bytes_eq-Decides}
use Rattle.ep_object.specs.declared.code.Instr.{Instr}
use Rattle.ep_object.specs.declared.code.Object.{Object}
use Rattle.ep_simulation.proofs.public.matching.Beginning.{map_at}

-- what stands behind other elements
get_behind : {A B : Type 0} (f : A → B) (front : List A) (x : A) (rest : List A) → slice_get (map f (front ++ x ∷ rest)) (length front) ≡ Some (f x)
get_behind f [] x rest = refl
get_behind f (y ∷ front) x rest = get_behind f front x rest

pub length-map : {A B : Type 0} (f : A → B) (xs : List A) → length (map f xs) ≡ length xs
length-map f [] = refl
length-map f (x ∷ xs) = ap suc (length-map f xs)

same_bytes : (a : List ℕ) → bytes_eq a a ≡ true
same_bytes a = grind (arith, bytes_eq-Decides)

module _ (o : Object) where
  -- its list of placements
  abbrev pub placements_alone : List Placement
  placements_alone = first_placement o ∷ []

  stands_behind : (front rest : List Instr) → o.instructions ≡ front ++ rest → CodeStands (alone o) placements_alone (first_placement o) o.references (length front) rest
  stands_behind front [] e = tt
  stands_behind front (i ∷ rest) e =
      let f : Instr → Instr = placed placements_alone (first_placement o) o.references in
      let longer : o.instructions ≡ (front ++ i ∷ []) ++ rest = e ∙ sym (append_assoc front (i ∷ []) rest) in
      let here : slice_get (map f o.instructions) (length front) ≡ Some (f i) = ap (λ xs. slice_get (map f xs) (length front)) e ∙ get_behind f front i rest in (
        ap (λ k. slice_get (map f o.instructions) k) (zero-add (length front)) ∙ here,
        subst (λ k. CodeStands (alone o) placements_alone (first_placement o) o.references k rest) (length-append front (i ∷ [])) (stands_behind (front ++ i ∷ []) rest longer),
      )

  -- all of its code stands there
  pub code_stands-alone : CodeStands (alone o) placements_alone (first_placement o) o.references 0 o.instructions
  code_stands-alone = stands_behind [] o.instructions refl

  -- the object stands in its image
  pub stands-alone : Stands (alone o) placements_alone (first_placement o) o
  stands-alone =
      let p = first_placement o in
      record {
        of_object = record { name = refl; slots = refl; routines = refl; texts = refl; constant_types = refl; instructions = refl };
        listed = rw (same_bytes o.name) refl;
        unit = refl;
        code = code_stands-alone;
        routines = λ r x h. ap (slice_get (map (placed_routine p) o.routines)) (zero-add r) ∙ map_at (placed_routine p) o.routines r x h;
        texts = λ k bytes h. ap (slice_get o.texts) (zero-add k) ∙ h;
        constant_types = λ k t h. ap (slice_get (map (placed_type p.constant_types) o.constant_types)) (zero-add k) ∙ map_at (placed_type p.constant_types) o.constant_types k t h;
      }

  -- the only unit has its name alone
  pub distinct-alone : HasDistinctNames (alone o)
  distinct-alone zero zero a b h k e = refl
  distinct-alone zero (suc j) a b h k e = cc
  distinct-alone (suc i) j a b h k e = cc
