-- The machine follows structured values: a variable without a name is made, is given its components, and is taken.
use Rattle.std.proofs.Common.{◌≡◌, ℕ, ℤ, suc, ◌+◌, ◌-◌, ◌≤◌, List, [], ◌∷◌, ◌++◌, length, length-append, refl, sym, ap, ◌∙◌, subst, arith}
use Rattle.ep_gen_code.specs.Credit.{least_credit}
use Rattle.ep_gen_code.specs.Instructions.{bare}
use Rattle.ep_gen_code.proofs.public.Placed.{code_back, code_front}
use Rattle.ep_gen_expr.proofs.public.Answering.{IsFollowed}
use Rattle.ep_gen_expr.proofs.Components.{reached_follows}
use Rattle.ep_gen_expr.specs.ExprCode.{reach_code, steps_code}
use Rattle.ep_simulation.specs.Follows.{Bare, Facts, Fragment, Inside, Lasts, PlaceOnTop, point}
use Rattle.ep_simulation.specs.Layouts.{Layout}
use Rattle.ep_simulation.specs.Matching.{Injection, IsLike, IsSpot, MachineMemory, Slots, at as standing}
use Rattle.ep_object.specs.Operands.{Operand, Word}
use Rattle.ep_object.specs.Operands as operand
use Rattle.ep_object.specs.Placing.{CodeStands, Placement}
use Rattle.ep_simulation.specs.Promises.{IsValueOf}
use Rattle.ep_object.specs.Runs.{unit_in}
use Rattle.ep_object.specs.declared.code.Image.{Image}
use Rattle.ep_object.specs.declared.code.Instr.{Instr}
use Rattle.ep_object.specs.declared.code.Reference.{Reference}
use Rattle.ep_object.specs.declared.op.TheConstants as op
use Rattle.ep_object.specs.declared.state.Place.{Place as PlaceOf}
use Rattle.ep_simulation.proofs.public.following.Choices.{Reads, follows_checked-spent, follows_fetched, fragment_using}
use Rattle.ep_simulation.proofs.public.following.Fragments.{FailsWith, fragment_bind_number, fragment_credit, fragment_from, fragment_give, fragment_less, fragment_to, fragment_waits, inside_bind}
use Rattle.ep_simulation.proofs.public.matching.Awaiting.{value_on_top}
use Rattle.ep_simulation.proofs.public.matching.MoreMemory.{describes-grown, inside_here, is_spot-grown, unit_in-same}
use Rattle.ep_simulation.proofs.public.rows.ChangeRows.{MayTake, may_take, value_does, value_ended, value_fails}
use Rattle.ep_simulation.proofs.public.rows.IndexRow.{index_fails, index_reads}
use Rattle.ep_simulation.proofs.public.rows.Rows.{outcome_at}
use Rattle.ep_meaning.proofs.public.Steady.{steady_bind, steady_eval, steady_given, steady_gives_all, steady_located}
use Rattle.ep_meaning.specs.Steady.{IsSteadyHandler}
use Rattle.ep_meaning.specs.Calls.{Handler}
use Rattle.ep_typed.specs.Hosts.{Host}
use Rattle.ep_meaning.specs.Meaning.{eval, given, gives, gives_all}
use Rattle.ep_values.specs.Printing.{Result, number_of}
use Rattle.ep_meaning.specs.Results.{misfit, suits, value_of, weight_of}
use Rattle.ep_meaning.specs.Steps.{Component, assigned, bind, component, component_number, type_at}
use Rattle.ep_typed.specs.Trees.{Element, Elements, AtField, AtIndex, Expr, next_element, no_element}
use Rattle.ep_values.specs.TypeValues.{ComponentTypes, TypeValue}
use Rattle.ep_values.specs.TypeValues as type
use Rattle.ep_meaning.specs.Valid.{IsTypeOfKind, ValueKind, LeadTo, Ordinal}
use Rattle.ep_values.specs.declared.run_error.TheConstants as run_error

-- what an element needs besides the least credit, for what stands before its value
abbrev pub element_credit : ℕ
element_credit = least_credit + 4

module _ (layout : Layout) (G : Image) (untouched : Slots) (Here : Facts) (lasts : Lasts untouched Here) (ps : List Placement) (p : Placement) (references : List Reference) (call : Handler) (steady_call : IsSteadyHandler call) (g : ℕ) (unit : List ℕ) (line n : ℕ) where
  -- From each memory of a routine of the unit, with the place of a variable of the type on top, the machine follows what a
  -- component of it is given through this code, and leaves the place on top.
  abbrev pub IsElementFollowed : TypeValue → Element → ℕ → List Instr → Type 0
  IsElementFollowed t e at code =
      (injection : Injection) (memory : MachineMemory) (rest : List Operand) (a : Component) (q : PlaceOf) (d : ℕ) → element_credit ≤ d → unit_in G memory.frames ≡ unit
      → IsSpot injection memory.types a q → IsLike memory.types q.type_number t
      → Fragment layout G Here n (point injection memory (p.instructions.before + at) (operand.Place q ∷ rest)) (gives call g unit line a e) (p.instructions.before + (at + length code)) (λ u. Inside untouched injection memory (Bare (operand.Place q ∷ rest) u)) d (λ u. d)

  -- the same of all that is given
  abbrev pub AreElementsFollowed : TypeValue → Elements → ℕ → List Instr → Type 0
  AreElementsFollowed t es at code =
      (injection : Injection) (memory : MachineMemory) (rest : List Operand) (a : Component) (q : PlaceOf) (d : ℕ) → element_credit ≤ d → unit_in G memory.frames ≡ unit
      → IsSpot injection memory.types a q → IsLike memory.types q.type_number t
      → Fragment layout G Here n (point injection memory (p.instructions.before + at) (operand.Place q ∷ rest)) (gives_all call g unit line a es) (p.instructions.before + (at + length code)) (λ u. Inside untouched injection memory (Bare (operand.Place q ∷ rest) u)) d (λ u. d)

  -- `Store`, where the place of a component and the value are on top
  pub store_given : (k : ValueKind) (t : TypeValue) (r : Result) (o : Operand) (a : Component) (q : PlaceOf) → MayTake k t → (at : ℕ) → CodeStands G ps p references at (bare line op.STORE ∷ []) → (injection : Injection) (memory : MachineMemory) → IsValueOf injection memory k r o → (below : List Operand) (d : ℕ) → least_credit ≤ d → unit_in G memory.frames ≡ unit → IsSpot injection memory.types a q → IsLike memory.types q.type_number t
      → Fragment layout G Here n (point injection memory (p.instructions.before + at) (o ∷ operand.Place q ∷ below)) (given call g unit line a r) (p.instructions.before + at + 1) (λ b. Inside untouched injection memory (Bare below b)) (d + weight_of r) (λ b. d)
  store_given k t r o a q takes at stands injection memory value below d enough home spot described =
      fragment_less {n = suc n} (omega arith) (fragment_using {n = suc n} {e = λ b. d} a.allocation
      (λ s matches ended. subst (λ u. FailsWith G (standing (p.instructions.before + at) (o ∷ operand.Place q ∷ below) memory s.trace) (weight_of r) 11 u line s) home (value_ended layout G (p.instructions.before + at) line below k t r o a q takes stands.0 injection memory value spot described s matches ended))
      (omega (arith, enough))
      (λ s matches here living. follows_checked-spent {weight = weight_of r} {e = λ b. d} (point injection memory (p.instructions.before + at) (o ∷ operand.Place q ∷ below)) (λ s. suits (type_at a s) r) (assigned a (value_of r)) s (weight_of r) (omega arith)
      (λ is. value_does layout G (p.instructions.before + at) line below k t r o a q takes stands.0 injection memory value spot described s matches living lasts here is)
      (λ is. subst (λ u. FailsWith G (standing (p.instructions.before + at) (o ∷ operand.Place q ∷ below) memory s.trace) (weight_of r) (misfit r) u line s) home (value_fails layout G (p.instructions.before + at) line below k t r o a q takes stands.0 injection memory value spot described s matches living is))
      (omega (arith, enough)) (omega arith)))

  -- the value of a component whose place is on top, and `Store`
  value_given : (k : ValueKind) (t : TypeValue) (x : Expr) → IsTypeOfKind k t → (at : ℕ) (xs : List Instr) → IsFollowed layout G untouched Here p call g unit n k x line at xs → CodeStands G ps p references (at + length xs) (bare line op.STORE ∷ [])
      → (injection : Injection) (memory : MachineMemory) (below : List Operand) (a : Component) (q : PlaceOf) (d : ℕ) → least_credit ≤ d → unit_in G memory.frames ≡ unit → IsSpot injection memory.types a q → IsLike memory.types q.type_number t
      → Fragment layout G Here n (point injection memory (p.instructions.before + at) (operand.Place q ∷ below)) (bind (eval call g unit line x) (given call g unit line a)) (p.instructions.before + (at + length xs + 1)) (λ u. Inside untouched injection memory (Bare below u)) d (λ u. d + 8)
  value_given k t x of_kind at xs follows stands injection memory below a q d enough home spot described =
      inside_bind {e = λ r. d + 8 + weight_of r} (λ r. steady_given call steady_call g unit line a r) (follows injection memory (operand.Place q ∷ below) d enough home) (λ r longer after pushed grown routine top.
      let v = value_on_top k (operand.Place q ∷ below) r longer after pushed top in
      subst (λ st. Fragment layout G Here n (point longer after (p.instructions.before + (at + length xs)) st) (given call g unit line a r) (p.instructions.before + (at + length xs + 1)) (λ u. Inside untouched longer after (Bare below u)) (d + 8 + weight_of r) (λ u. d + 8)) (sym v.2)
      (fragment_to (omega arith) (store_given k t r v.0 a q (may_take k t of_kind) (at + length xs) stands longer after v.1 below (d + 8) (omega (arith, enough)) (unit_in-same G routine ∙ home) (is_spot-grown grown spot) (describes-grown q.type_number t grown described))))

  -- the component of an array at an index
  pub at_index_follows : (low high : ℤ) (of : TypeValue) (h : Host) (k : ValueKind) (x y : Expr) → IsTypeOfKind k of → (at : ℕ) (xs ys : List Instr)
      → IsFollowed layout G untouched Here p call g unit n (Ordinal h) x line (at + 1) xs → IsFollowed layout G untouched Here p call g unit n k y line (at + 1 + length xs + 1) ys
      → CodeStands G ps p references at (bare line op.DUP ∷ (xs ++ bare line op.INDEX ∷ (ys ++ bare line op.STORE ∷ [])))
      → IsElementFollowed (type.Array low high of) (AtIndex x y) at (bare line op.DUP ∷ (xs ++ bare line op.INDEX ∷ (ys ++ bare line op.STORE ∷ [])))
  at_index_follows low high of h k x y of_kind at xs ys first second stands injection memory rest a q d enough home spot described =
      let behind : List Instr = bare line op.INDEX ∷ (ys ++ bare line op.STORE ∷ []) in
      let here = stands.1 in
      let index = code_back G ps p references (at + 1) xs behind here in
      let last = code_back G ps p references (at + 1 + length xs + 1) ys (bare line op.STORE ∷ []) index.1 in
      let place : ℕ = p.instructions.before + (at + 1 + length xs) in
      fragment_to {to = p.instructions.before + (at + 1 + length xs + 1 + length ys + 1)} (omega (arith, length-append xs behind, length-append ys (bare line op.STORE ∷ [])))
      (fragment_waits {d1 = d - 1} (λ s matches. outcome_at G (bare line op.DUP) (p.instructions.before + at) (operand.Place q ∷ rest) memory s.trace stands.0) (omega (arith, enough))
      (fragment_from {place = p.instructions.before + (at + 1)} (omega arith)
      (fragment_bind_number {host = h} {e = λ r. d - 1 + 8 + weight_of r} (λ z. steady_bind (steady_located call steady_call g unit line a (number_of z)) (λ c. steady_bind (steady_eval call steady_call g unit line y) (λ r. steady_given call steady_call g unit line c r)))
      (first injection memory (operand.Place q ∷ operand.Place q ∷ rest) (d - 1) (omega (arith, enough)) home) (λ z v1 m1 of_z grown1 routine1.
      let home1 : unit_in G m1.frames ≡ unit = unit_in-same G routine1 ∙ home in
      let spot1 : IsSpot v1 m1.types a q = is_spot-grown grown1 spot in
      let described1 : IsLike m1.types q.type_number (type.Array low high of) = describes-grown q.type_number (type.Array low high of) grown1 described in
      inside_bind {First = PlaceOnTop of (operand.Place q ∷ rest)} {e = λ c. d - 2} (λ c. steady_bind (steady_eval call steady_call g unit line y) (λ r. steady_given call steady_call g unit line c r))
      (fragment_to {to = place + 1} (omega arith) (fragment_using {e = λ c. d - 2} a.allocation
      (λ s matches ended. subst (λ u. FailsWith G (standing place (Word z ∷ operand.Place q ∷ operand.Place q ∷ rest) m1 s.trace) 0 run_error.DISPOSED u line s) home1 (index_fails layout G place line (operand.Place q ∷ rest) low high of z a q index.0 v1 m1 spot1 described1 s matches ended)) (omega (arith, enough))
      (λ s matches known living. follows_fetched {d1 = d - 2} (point v1 m1 place (Word z ∷ operand.Place q ∷ operand.Place q ∷ rest)) (λ s. component_number (type_at a s) z) (λ c. component a c) s
      (subst (λ u. Reads layout G Here (standing place (Word z ∷ operand.Place q ∷ operand.Place q ∷ rest) m1 s.trace) run_error.INDEX u line (place + 1) (λ c. Inside untouched v1 m1 (PlaceOnTop of (operand.Place q ∷ rest) (component a c))) s (component_number (type_at a s) z)) home1
      (index_reads layout G place line (operand.Place q ∷ rest) low high of z a q index.0 v1 m1 spot1 described1 s matches living known)) (omega (arith, enough)))))
      (λ c v2 m2 pushed grown2 routine2 top.
      subst (λ st. Fragment layout G Here n (point v2 m2 (place + 1) st) (bind (eval call g unit line y) (given call g unit line c)) (p.instructions.before + (at + 1 + length xs + 1 + length ys + 1)) (λ u. Inside untouched v2 m2 (Bare (operand.Place q ∷ rest) u)) (d - 2) (λ u. d)) (sym top.is)
      (fragment_from {place = p.instructions.before + (at + 1 + length xs + 1)} (omega arith)
      (fragment_credit {d = d - 2} {e = λ u. d - 2 + 8} (omega arith) (λ u. omega (arith, enough))
      (value_given k of y of_kind (at + 1 + length xs + 1) ys second last v2 m2 (operand.Place q ∷ rest) c top.place (d - 2) (omega (arith, enough)) (unit_in-same G routine2 ∙ home1) top.spot top.described))))))))

  -- the component of a record to which steps lead
  pub at_field_follows : (ts : ComponentTypes) (of : TypeValue) (k : ValueKind) (steps : List ℕ) (x : Expr) → LeadTo ts steps of → IsTypeOfKind k of → (at : ℕ) (xs : List Instr)
      → IsFollowed layout G untouched Here p call g unit n k x line (at + length (reach_code line steps)) xs
      → CodeStands G ps p references at (reach_code line steps ++ (xs ++ bare line op.STORE ∷ []))
      → IsElementFollowed (type.Record ts) (AtField steps x) at (reach_code line steps ++ (xs ++ bare line op.STORE ∷ []))
  at_field_follows ts of k steps x leads of_kind at xs follows stands injection memory rest a q d enough home spot described =
      let store : List Instr = bare line op.STORE ∷ [] in
      let middle : ℕ = at + length (reach_code line steps) in
      let end : ℕ = p.instructions.before + (middle + length xs + 1) in
      let last = code_back G ps p references middle xs store (code_back G ps p references at (reach_code line steps) (xs ++ store) stands) in
      fragment_to {to = end} (omega (arith, length-append (reach_code line steps) (xs ++ store), length-append xs store))
      (fragment_waits {d1 = d - 1} (λ s matches. outcome_at G (bare line op.DUP) (p.instructions.before + at) (operand.Place q ∷ rest) memory s.trace stands.0) (omega (arith, enough))
      (fragment_from {place = p.instructions.before + (at + 1)} (omega arith)
      (inside_bind {First = PlaceOnTop of (operand.Place q ∷ rest)} {e = λ c. d - 1} (λ c. steady_bind (steady_eval call steady_call g unit line x) (λ r. steady_given call steady_call g unit line c r))
      (reached_follows ps p references call steady_call g unit line n ts steps of leads (at + 1) (code_front G ps p references (at + 1) (steps_code line steps) (xs ++ store) stands.1) injection memory (operand.Place q ∷ rest) a q (d - 1) (omega (arith, enough)) home spot described)
      (λ c v2 m2 pushed grown2 routine2 top.
      subst (λ st. Fragment layout G Here n (point v2 m2 (p.instructions.before + (at + 1 + length (steps_code line steps))) st) (bind (eval call g unit line x) (given call g unit line c)) end (λ u. Inside untouched v2 m2 (Bare (operand.Place q ∷ rest) u)) (d - 1) (λ u. d)) (sym top.is)
      (fragment_from {place = p.instructions.before + middle} (omega arith)
      (fragment_credit {d = d - 1} {e = λ u. d - 1 + 8} (omega arith) (λ u. omega (arith, enough))
      (value_given k of x of_kind middle xs follows last v2 m2 (operand.Place q ∷ rest) c top.place (d - 1) (omega (arith, enough)) (unit_in-same G routine2 ∙ home) top.spot top.described)))))))

  -- nothing
  pub no_element_follows : (t : TypeValue) (at : ℕ) (is : List Instr) → is ≡ [] → AreElementsFollowed t no_element at is
  no_element_follows t at is none injection memory rest a q d enough home spot described =
      fragment_to {to = p.instructions.before + at} (omega (arith, ap length none)) (fragment_give (omega arith) (inside_here refl))

  -- one before others
  pub next_element_follows : (t : TypeValue) (e : Element) (es : Elements) (at : ℕ) (xs ys is : List Instr) → is ≡ xs ++ ys
      → IsElementFollowed t e at xs → AreElementsFollowed t es (at + length xs) ys → AreElementsFollowed t (next_element e es) at is
  next_element_follows t e es at xs ys is parts first others injection memory rest a q d enough home spot described =
      let ends : at + length xs + length ys ≡ at + length is = omega (arith, ap length parts, length-append xs ys) in
      fragment_to (ap (λ m. p.instructions.before + m) ends)
      (inside_bind {First = Bare (operand.Place q ∷ rest)} {e = λ u. d} (λ u. steady_gives_all call steady_call g unit line a es) (first injection memory rest a q d enough home spot described) (λ u v1 m1 pushed grown routine top.
      subst (λ st. Fragment layout G Here n (point v1 m1 (p.instructions.before + (at + length xs)) st) (gives_all call g unit line a es) (p.instructions.before + (at + length xs + length ys)) (λ w. Inside untouched v1 m1 (Bare (operand.Place q ∷ rest) w)) d (λ w. d)) (sym top)
      (others v1 m1 rest a q d enough (unit_in-same G routine ∙ home) (is_spot-grown grown spot) (describes-grown q.type_number t grown described))))
