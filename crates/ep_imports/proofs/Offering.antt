-- Which headings export an interface, one export more after another.
use Rattle.std.proofs.Common.{◌≡◌, ℕ, suc, zero, ◌+◌, ◌≤◌, ◌<◌, Bool, true, false, ◌||◌, true≢false, List, [], ◌∷◌, ◌++◌, length, map, take, get_or, Option, Some, None, is_some, refl, sym, ap, subst, ◌∙◌, append_assoc, arith, if◌then◌else◌}
use Rattle.std.specs.List.{list_any}
use Rattle.std.specs.Prelude.{OnOk, Result, Ok, Err}
use Rattle.std.specs.Str.{bytes_eq}
use Rattle.std.specs.declared.alloc.AllocError.{AllocError}
use Rattle.std.proofs.lemmas.Bool.{eq-eqb, ne_eqb}
use Rattle.std.proofs.lemmas.List.{append-nil, map_more, take_all}
use Rattle.std.proofs.lemmas.Slice.Eq.{bytes_eq-Decides}
use Rattle.ep_interface.specs.declared.interface.ExportEntry.{ExportEntry}
use Rattle.ep_interface.specs.declared.interface.Interface.{Interface}
use Rattle.ep_imports.specs.Found.{found, or_else}
use Rattle.ep_imports.specs.Offers.{Offered, export_of, offered_by, offered_from, sole}
use Rattle.ep_imports.specs.Tables.{IsTable, front_of, has_two, is_heading}
use Rattle.ep_imports.specs.declared.brought.Exporter.TheVariants.{Heading, Required}
use Rattle.ep_imports.proofs.Finding.{found-append, or-false}

-- the interface as the heading at a place exports it
abbrev here : ℕ → ExportEntry → Offered
here n e = record { exporter = Heading n; constituents = e.constituents }

-- ---- one row more

rows_from : (n : ℕ) (rows : List (List ExportEntry)) (es : List ExportEntry) (name : List ℕ)
    → offered_from n (rows ++ es ∷ []) name ≡ offered_from n rows name ++ offered_by (n + length rows) (export_of es name)
rows_from n [] es name = append-nil (offered_by n (export_of es name)) ∙ ap (λ k. offered_by k (export_of es name)) (omega arith)
rows_from n (r ∷ rows) es name =
    ap (λ l. offered_by n (export_of r name) ++ l) (rows_from (n + 1) rows es name)
    ∙ sym (append_assoc (offered_by n (export_of r name)) (offered_from (n + 1) rows name) (offered_by (n + 1 + length rows) (export_of es name)))
    ∙ ap (λ k. (offered_by n (export_of r name) ++ offered_from (n + 1) rows name) ++ offered_by k (export_of es name)) (omega arith)

-- and from the first place on
rows_more : (rows : List (List ExportEntry)) (es : List ExportEntry) (name : List ℕ)
    → offered_from 0 (rows ++ es ∷ []) name ≡ offered_from 0 rows name ++ offered_by (length rows) (export_of es name)
rows_more rows es name = rows_from 0 rows es name ∙ ap (λ k. offered_from 0 rows name ++ offered_by k (export_of es name)) (omega arith)

export_of-more : (es : List ExportEntry) (e : ExportEntry) (name : List ℕ) → export_of (es ++ e ∷ []) name ≡ or_else (export_of es name) (if bytes_eq name e.interface then Some e else None)
export_of-more [] e name = refl
export_of-more (d ∷ es) e name = at (bytes_eq name d.interface) (export_of-more es e name)
  where
    at : (b : Bool) → export_of (es ++ e ∷ []) name ≡ or_else (export_of es name) (if bytes_eq name e.interface then Some e else None)
        → (if b then Some d else export_of (es ++ e ∷ []) name) ≡ or_else (if b then Some d else export_of es name) (if bytes_eq name e.interface then Some e else None)
    at true rest = refl
    at false rest = rest

-- a row with one export more
row_more : (rows : List (List ExportEntry)) (es : List ExportEntry) (e : ExportEntry) (name : List ℕ)
    → offered_from 0 (rows ++ (es ++ e ∷ []) ∷ []) name
    ≡ offered_from 0 rows name ++ offered_by (length rows) (or_else (export_of es name) (if bytes_eq name e.interface then Some e else None))
row_more rows es e name = rows_more rows (es ++ e ∷ []) name ∙ ap (λ o. offered_from 0 rows name ++ offered_by (length rows) o) (export_of-more es e name)

-- the first that exports it stands before all later places
first_before : (n : ℕ) (rows : List (List ExportEntry)) (name : List ℕ) (k : ℕ) (o : Offered) → n + length rows ≤ k → front_of (offered_from n rows name) ≡ Some o → is_heading o.exporter k ≡ false
first_before n [] name k o within first = cc
first_before n (r ∷ rows) name k o within first = at (export_of r name) first (λ f. first_before (n + 1) rows name k o (omega arith) f)
  where
    at : (p : Option ExportEntry) → front_of (offered_by n p ++ offered_from (n + 1) rows name) ≡ Some o
        → (front_of (offered_from (n + 1) rows name) ≡ Some o → is_heading o.exporter k ≡ false) → is_heading o.exporter k ≡ false
    at None first rest = rest first
    at (Some e) first rest =
        let same : here n e ≡ o = cc in
        let less : n < k = omega arith in
        subst (λ p. is_heading p.exporter k ≡ false) same (ne_eqb n k (λ q. omega (arith, q)))

-- ---- what an export more changes

module _ (n : ℕ) (e : ExportEntry) where
  -- an export of an interface that none exports
  new_first : (xs : List Offered) (p : Option ExportEntry) (b : Bool) → (b ≡ true → front_of (xs ++ offered_by n p) ≡ None)
      → or_else (front_of (xs ++ offered_by n p)) (if b then Some (here n e) else None) ≡ front_of (xs ++ offered_by n (or_else p (if b then Some e else None)))
  new_first (x ∷ xs) p false absent = refl
  new_first (x ∷ xs) p true absent = let no : Some x ≡ None = absent refl in cc
  new_first [] None false absent = refl
  new_first [] None true absent = refl
  new_first [] (Some d) false absent = refl
  new_first [] (Some d) true absent = let no : Some (here n d) ≡ None = absent refl in cc

  new_two : (xs : List Offered) (p : Option ExportEntry) (b : Bool) → (b ≡ true → front_of (xs ++ offered_by n p) ≡ None)
      → has_two (xs ++ offered_by n p) ≡ has_two (xs ++ offered_by n (or_else p (if b then Some e else None)))
  new_two xs None false absent = refl
  new_two xs (Some d) b absent = refl
  new_two [] None true absent = refl
  new_two (x ∷ xs) None true absent = let no : Some x ≡ None = absent refl in cc

  -- an export of an interface that this heading exports
  kept_export : (p : Option ExportEntry) (b : Bool) → (b ≡ true → is_some p ≡ true) → p ≡ or_else p (if b then Some e else None)
  kept_export None false there = refl
  kept_export None true there = let no : false ≡ true = there refl in cc
  kept_export (Some d) b there = refl

  -- an export of an interface that a heading before exports
  other_first : (xs : List Offered) (p : Option ExportEntry) (b : Bool) → (b ≡ true → is_some (front_of xs) ≡ true)
      → front_of (xs ++ offered_by n p) ≡ front_of (xs ++ offered_by n (or_else p (if b then Some e else None)))
  other_first (x ∷ xs) p b there = refl
  other_first [] (Some d) b there = refl
  other_first [] None false there = refl
  other_first [] None true there = let no : false ≡ true = there refl in cc

  other_two : (xs : List Offered) (p : Option ExportEntry) (b : Bool) → (b ≡ true → is_some (front_of xs) ≡ true)
      → (has_two (xs ++ offered_by n p) || b) ≡ has_two (xs ++ offered_by n (or_else p (if b then Some e else None)))
  other_two xs None false there = or-false _
  other_two xs (Some d) false there = or-false _
  other_two [] p true there = let no : false ≡ true = there refl in cc
  other_two (x ∷ []) None true there = refl
  other_two (x ∷ []) (Some d) true there = refl
  other_two (x ∷ y ∷ xs) p true there = refl

-- the first one is of this heading where none before exports it
of_this : (n : ℕ) (xs : List Offered) (p : Option ExportEntry) (o : Offered) → ((x : Offered) → front_of xs ≡ Some x → is_heading x.exporter n ≡ false)
    → front_of (xs ++ offered_by n p) ≡ Some o → is_heading o.exporter n ≡ true → is_some p ≡ true
of_this n [] None o before first own = cc
of_this n [] (Some d) o before first own = refl
of_this n (x ∷ xs) p o before first own =
    let same : x ≡ o = cc in
    absurd (true≢false (sym own ∙ subst (λ y. is_heading y.exporter n ≡ false) same (before x refl)))

-- and else one before exports it
of_other : (n : ℕ) (xs : List Offered) (p : Option ExportEntry) (o : Offered) → front_of (xs ++ offered_by n p) ≡ Some o → is_heading o.exporter n ≡ false → is_some (front_of xs) ≡ true
of_other n (x ∷ xs) p o first other = refl
of_other n [] None o first other = cc
of_other n [] (Some d) o first other =
    let same : here n d ≡ o = cc in
    absurd (true≢false (sym (eq-eqb n n refl) ∙ subst (λ y. is_heading y.exporter n ≡ false) (sym same) other))

-- ---- the table

-- one export more of an interface that is not in the table
pub table_new : (offers new : List (List ℕ × Offered)) (doubled : List (List ℕ)) (rows : List (List ExportEntry)) (es : List ExportEntry) (e : ExportEntry) (text : List ℕ) (offer : Offered) (place : ℕ)
    → found offers e.interface ≡ None → text ≡ e.interface → offer ≡ record { exporter = Heading place; constituents = e.constituents } → length rows ≡ place
    → new ≡ offers ++ (text, offer) ∷ [] → IsTable offers doubled (rows ++ es ∷ []) → IsTable new doubled (rows ++ (es ++ e ∷ []) ∷ [])
table_new offers new doubled rows es e text offer place absent texted is placed grows t =
    let valued : offer ≡ here (length rows) e = is ∙ ap (λ k. here k e) (sym placed) in
    let none : (name : List ℕ) → bytes_eq name e.interface ≡ true → front_of (offered_from 0 rows name ++ offered_by (length rows) (export_of es name)) ≡ None = λ name q.
    ap front_of (sym (rows_more rows es name)) ∙ sym (t.firsts name) ∙ ap (found offers) ((bytes_eq-Decides name e.interface).0 q) ∙ absent in
    record {
      firsts = λ name.
          ap (λ l. found l name) grows ∙ found-append text offer offers name
          ∙ ap (λ k. or_else (found offers name) (if bytes_eq name k then Some offer else None)) texted
          ∙ ap (λ v. or_else (found offers name) (if bytes_eq name e.interface then Some v else None)) valued
          ∙ ap (λ o. or_else o (if bytes_eq name e.interface then Some (here (length rows) e) else None)) (t.firsts name ∙ ap front_of (rows_more rows es name))
          ∙ new_first (length rows) e (offered_from 0 rows name) (export_of es name) (bytes_eq name e.interface) (none name)
          ∙ ap front_of (sym (row_more rows es e name));
      doubles = λ name.
          t.doubles name ∙ ap has_two (rows_more rows es name)
          ∙ new_two (length rows) e (offered_from 0 rows name) (export_of es name) (bytes_eq name e.interface) (none name)
          ∙ ap has_two (sym (row_more rows es e name));
    }

-- what is in the table under the name of an export is the first that exports it
first_in : (offers : List (List ℕ × Offered)) (doubled : List (List ℕ)) (rows : List (List ExportEntry)) (es : List ExportEntry) (e : ExportEntry) (o : Offered)
    → found offers e.interface ≡ Some o → IsTable offers doubled (rows ++ es ∷ []) → (name : List ℕ) → bytes_eq name e.interface ≡ true
    → front_of (offered_from 0 rows name ++ offered_by (length rows) (export_of es name)) ≡ Some o
first_in offers doubled rows es e o there t name q =
    ap front_of (sym (rows_more rows es name)) ∙ sym (t.firsts name) ∙ ap (found offers) ((bytes_eq-Decides name e.interface).0 q) ∙ there

-- one export more of an interface that its heading exports already
pub table_same : (offers : List (List ℕ × Offered)) (doubled : List (List ℕ)) (rows : List (List ExportEntry)) (es : List ExportEntry) (e : ExportEntry) (o : Offered)
    → found offers e.interface ≡ Some o → is_heading o.exporter (length rows) ≡ true → IsTable offers doubled (rows ++ es ∷ []) → IsTable offers doubled (rows ++ (es ++ e ∷ []) ∷ [])
table_same offers doubled rows es e o there own t =
    let kept : (name : List ℕ) → export_of es name ≡ or_else (export_of es name) (if bytes_eq name e.interface then Some e else None) = λ name.
    kept_export (length rows) e (export_of es name) (bytes_eq name e.interface)
    (λ q. of_this (length rows) (offered_from 0 rows name) (export_of es name) o (λ x f. first_before 0 rows name (length rows) x (omega arith) f) (first_in offers doubled rows es e o there t name q) own) in
    let rest : (name : List ℕ) → offered_from 0 (rows ++ es ∷ []) name ≡ offered_from 0 (rows ++ (es ++ e ∷ []) ∷ []) name = λ name.
    rows_more rows es name ∙ ap (λ p. offered_from 0 rows name ++ offered_by (length rows) p) (kept name) ∙ sym (row_more rows es e name) in
    record { firsts = λ name. t.firsts name ∙ ap front_of (rest name); doubles = λ name. t.doubles name ∙ ap has_two (rest name) }

-- one export more of an interface that another heading exports
pub table_other : (offers : List (List ℕ × Offered)) (doubled new : List (List ℕ)) (rows : List (List ExportEntry)) (es : List ExportEntry) (e : ExportEntry) (text : List ℕ) (o : Offered)
    → found offers e.interface ≡ Some o → is_heading o.exporter (length rows) ≡ false → text ≡ e.interface
    → ((name : List ℕ) → list_any (bytes_eq name) new ≡ (list_any (bytes_eq name) doubled || bytes_eq name text))
    → IsTable offers doubled (rows ++ es ∷ []) → IsTable offers new (rows ++ (es ++ e ∷ []) ∷ [])
table_other offers doubled new rows es e text o there other texted grows t =
    let before : (name : List ℕ) → bytes_eq name e.interface ≡ true → is_some (front_of (offered_from 0 rows name)) ≡ true = λ name q.
    of_other (length rows) (offered_from 0 rows name) (export_of es name) o (first_in offers doubled rows es e o there t name q) other in
    record {
      firsts = λ name.
          t.firsts name ∙ ap front_of (rows_more rows es name)
          ∙ other_first (length rows) e (offered_from 0 rows name) (export_of es name) (bytes_eq name e.interface) (before name)
          ∙ ap front_of (sym (row_more rows es e name));
      doubles = λ name.
          grows name ∙ ap (λ k. list_any (bytes_eq name) doubled || bytes_eq name k) texted
          ∙ ap (λ b. b || bytes_eq name e.interface) (t.doubles name ∙ ap has_two (rows_more rows es name))
          ∙ other_two (length rows) e (offered_from 0 rows name) (export_of es name) (bytes_eq name e.interface) (before name)
          ∙ ap has_two (sym (row_more rows es e name));
    }

-- what holds where there was memory, as another fact
pub where_ok : {P Q : Type 0} (r : Result (Unit {0}) AllocError) → OnOk r P → (P → Q) → OnOk r Q
where_ok (Ok done) h f = f h
where_ok (Err e) h f = tt

-- a heading of which no export is taken yet
pub table_begin : (offers : List (List ℕ × Offered)) (doubled : List (List ℕ)) (rows : List (List ExportEntry)) → IsTable offers doubled rows → IsTable offers doubled (rows ++ [] ∷ [])
table_begin offers doubled rows t =
    let same : (name : List ℕ) → offered_from 0 rows name ≡ offered_from 0 (rows ++ [] ∷ []) name = λ name. sym (rows_more rows [] name ∙ append-nil (offered_from 0 rows name)) in
    record { firsts = λ name. t.firsts name ∙ ap front_of (same name); doubles = λ name. t.doubles name ∙ ap has_two (same name) }

-- ---- the rows of headings

pub counted : (is : List Interface) (i : ℕ) → i ≤ length is → length (map (λ (h : Interface). h.exports) (take i is)) ≡ i
counted is zero within = refl
counted [] (suc i) within = absurd (omega arith)
counted (h ∷ is) (suc i) within = let rest : length (map (λ (h : Interface). h.exports) (take i is)) ≡ i = counted is i (omega arith) in omega arith

pub row_taken : (is : List Interface) (i : ℕ) (h : Interface) → i < length is → h ≡ get_or is i h → map (λ (g : Interface). g.exports) (take (i + 1) is) ≡ map (λ (g : Interface). g.exports) (take i is) ++ h.exports ∷ []
row_taken is i h within at = map_more (λ (g : Interface). g.exports) is i h within ∙ ap (λ (g : Interface). map (λ (f : Interface). f.exports) (take i is) ++ g.exports ∷ []) (sym at)

-- ---- exactly one

pub no_sole : (os : List Offered) → has_two os ≡ true → None ≡ sole os
no_sole [] two = cc
no_sole (o ∷ []) two = cc
no_sole (o ∷ p ∷ os) two = refl

pub one_sole : (os : List Offered) → has_two os ≡ false → front_of os ≡ sole os
one_sole [] two = refl
one_sole (o ∷ []) two = refl
one_sole (o ∷ p ∷ os) two = cc

-- a required interface that a heading exports too, or not
pub none_beside : (o : Offered) (os : List Offered) → is_some (front_of os) ≡ true → None ≡ sole (o ∷ os)
none_beside o [] there = cc
none_beside o (p ∷ os) there = refl

pub one_beside : (o : Offered) (os : List Offered) → is_some (front_of os) ≡ false → Some o ≡ sole (o ∷ os)
one_beside o [] there = refl
one_beside o (p ∷ os) there = cc
