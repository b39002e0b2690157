-- What is brought of the first items of lists, one more after another.
use Rattle.std.proofs.Common.{◌≡◌, ℕ, ◌<◌, ◌+◌, ◌-◌, ◌≤◌, Bool, true, false, ◌||◌, true≢false, List, [], ◌∷◌, ◌++◌, length, map, take, drop, get_or, slice_get, Option, Some, None, refl, sym, ap, subst, ◌∙◌, append_assoc, arith, if◌then◌else◌}
use Rattle.std.specs.List.{list_any}
use Rattle.std.specs.Str.{bytes_eq}
use Rattle.std.proofs.lemmas.List.{append-nil, drop_more, take_more}
use Rattle.std.proofs.lemmas.List.Folds.{list_any-append}
use Rattle.std.proofs.lemmas.Option.{slice_get-get_or}
use Rattle.ep_interface.specs.declared.interface.Constituent.{Constituent}
use Rattle.ep_interface.specs.declared.interface.NamePair.{NamePair}
use Rattle.ep_imports.specs.Brought.{absent_or, brought_as, denoted_as, denoted_of, first_absent, first_doubled, is_listed, listed, names_here, own_name, unlisted}
use Rattle.ep_imports.specs.Found.{found, or_else}
use Rattle.ep_imports.specs.Parts.{HaveSame, IsFirstDoubled}
use Rattle.ep_imports.specs.declared.brought.Brought.{Brought}
use Rattle.ep_imports.specs.declared.brought.Denoted.{Denoted}
use Rattle.ep_imports.proofs.Finding.{or-false}

-- one item more
pub taken : {X : Type 0} (xs : List X) (i : ℕ) (x : X) → i < length xs → x ≡ get_or xs i x → take (i + 1) xs ≡ take i xs ++ x ∷ []
taken xs i x within is = take_more xs i x within ∙ ap (λ y. take i xs ++ y ∷ []) (sym is)

-- one item less
pub dropped : {X : Type 0} (xs : List X) (i : ℕ) (x : X) → i < length xs → x ≡ get_or xs i x → drop i xs ≡ x ∷ drop (i + 1) xs
dropped xs i x within is = drop_more xs i x within ∙ ap (λ y. y ∷ drop (i + 1) xs) (sym is)

-- ---- constituents by names

denoted_as-more : (cs : List Constituent) (c : Constituent) (name : List ℕ) → denoted_as (cs ++ c ∷ []) name ≡ or_else (denoted_as cs name) (if bytes_eq name c.name then Some (denoted_of c) else None)
denoted_as-more [] c name = refl
denoted_as-more (d ∷ cs) c name = at (bytes_eq name d.name) (denoted_as-more cs c name)
  where
    at : (b : Bool) → denoted_as (cs ++ c ∷ []) name ≡ or_else (denoted_as cs name) (if bytes_eq name c.name then Some (denoted_of c) else None)
        → (if b then Some (denoted_of d) else denoted_as (cs ++ c ∷ []) name) ≡ or_else (if b then Some (denoted_of d) else denoted_as cs name) (if bytes_eq name c.name then Some (denoted_of c) else None)
    at true rest = refl
    at false rest = rest

-- a table of the first constituents, with one more
pub named_more : (cs : List Constituent) (i : ℕ) (c : Constituent) (old new : List (List ℕ × Denoted)) (text : List ℕ) (value : Denoted)
    → i < length cs → c ≡ get_or cs i c → text ≡ c.name → value ≡ denoted_of c
    → ((name : List ℕ) → found old name ≡ denoted_as (take i cs) name)
    → ((name : List ℕ) → found new name ≡ or_else (found old name) (if bytes_eq name text then Some value else None))
    → (name : List ℕ) → found new name ≡ denoted_as (take (i + 1) cs) name
named_more cs i c old new text value within is texted valued before step name =
    step name
    ∙ ap (λ o. or_else o (if bytes_eq name text then Some value else None)) (before name)
    ∙ ap (λ t. or_else (denoted_as (take i cs) name) (if bytes_eq name t then Some value else None)) texted
    ∙ ap (λ v. or_else (denoted_as (take i cs) name) (if bytes_eq name c.name then Some v else None)) valued
    ∙ sym (denoted_as-more (take i cs) c name)
    ∙ ap (λ l. denoted_as l name) (sym (taken cs i c within is))

-- ---- listed pairs

-- a pair whose constituent is there is not the first that is absent
pub present_more : (cs : List Constituent) (ps : List NamePair) (i : ℕ) (p : NamePair) (denoted : Denoted) → i < length ps → p ≡ get_or ps i p
    → Some denoted ≡ denoted_as cs p.constituent → first_absent cs (drop i ps) ≡ first_absent cs ps → first_absent cs (drop (i + 1) ps) ≡ first_absent cs ps
present_more cs ps i p denoted within is there before =
    ap (λ o. absent_or p.constituent o (first_absent cs (drop (i + 1) ps))) there
    ∙ ap (first_absent cs) (sym (dropped ps i p within is)) ∙ before

-- and one that is not is
pub absent_here : (cs : List Constituent) (ps : List NamePair) (i : ℕ) (p : NamePair) → i < length ps → p ≡ get_or ps i p
    → None ≡ denoted_as cs p.constituent → first_absent cs (drop i ps) ≡ first_absent cs ps → Some p.constituent ≡ first_absent cs ps
absent_here cs ps i p within is absent before =
    ap (λ o. absent_or p.constituent o (first_absent cs (drop (i + 1) ps))) absent
    ∙ ap (first_absent cs) (sym (dropped ps i p within is)) ∙ before

listed-append : (cs : List Constituent) (ps qs : List NamePair) → listed cs (ps ++ qs) ≡ listed cs ps ++ listed cs qs
listed-append cs [] qs = refl
listed-append cs (p ∷ ps) qs =
    ap (λ l. brought_as p.here (denoted_as cs p.constituent) ++ l) (listed-append cs ps qs)
    ∙ sym (append_assoc (brought_as p.here (denoted_as cs p.constituent)) (listed cs ps) (listed cs qs))

-- what one pair more brings
pub listed_more : (cs : List Constituent) (ps : List NamePair) (i : ℕ) (p : NamePair) (old new : List Brought) → i < length ps → p ≡ get_or ps i p
    → old ≡ listed cs (take i ps) → new ≡ old ++ brought_as p.here (denoted_as cs p.constituent) → new ≡ listed cs (take (i + 1) ps)
listed_more cs ps i p old new within is before grows =
    grows ∙ ap (λ l. l ++ brought_as p.here (denoted_as cs p.constituent)) before
    ∙ ap (λ l. listed cs (take i ps) ++ l) (sym (append-nil (brought_as p.here (denoted_as cs p.constituent))))
    ∙ sym (listed-append cs (take i ps) (p ∷ []))
    ∙ ap (listed cs) (sym (taken ps i p within is))

-- what a pair brings
pub pair_there : (old new : List Brought) (here text : List ℕ) (denoted : Denoted) (o : Option Denoted) → Some denoted ≡ o → text ≡ here
    → new ≡ old ++ record { here = text; denoted = denoted } ∷ [] → new ≡ old ++ brought_as here o
pair_there old new here text denoted o there same grows =
    grows ∙ ap (λ t. old ++ brought_as t (Some denoted)) same ∙ ap (λ p. old ++ brought_as here p) there

pub pair_absent : (old : List Brought) (here : List ℕ) (o : Option Denoted) → None ≡ o → old ≡ old ++ brought_as here o
pair_absent old here o absent = sym (append-nil old) ∙ ap (λ p. old ++ brought_as here p) absent

-- ---- the rest

-- one listed name more
pub listed_names_more : (ps : List NamePair) (i : ℕ) (p : NamePair) (old new : List (List ℕ)) (text : List ℕ) → i < length ps → p ≡ get_or ps i p → text ≡ p.constituent
    → ((name : List ℕ) → list_any (bytes_eq name) old ≡ is_listed (take i ps) name)
    → ((name : List ℕ) → list_any (bytes_eq name) new ≡ (list_any (bytes_eq name) old || bytes_eq name text))
    → (name : List ℕ) → list_any (bytes_eq name) new ≡ is_listed (take (i + 1) ps) name
listed_names_more ps i p old new text within is texted before step name =
    step name
    ∙ ap (λ b. b || bytes_eq name text) (before name)
    ∙ ap (λ t. is_listed (take i ps) name || bytes_eq name t) texted
    ∙ ap (λ b. is_listed (take i ps) name || b) (sym (or-false (bytes_eq name p.constituent)))
    ∙ sym (list_any-append (λ (q : NamePair). bytes_eq name q.constituent) (take i ps) (p ∷ []))
    ∙ ap (λ l. is_listed l name) (sym (taken ps i p within is))

unlisted-append : (ps : List NamePair) (cs ds : List Constituent) → unlisted ps (cs ++ ds) ≡ unlisted ps cs ++ unlisted ps ds
unlisted-append ps [] ds = refl
unlisted-append ps (c ∷ cs) ds =
    ap (λ l. (if is_listed ps c.name then [] else own_name c ∷ []) ++ l) (unlisted-append ps cs ds)
    ∙ sym (append_assoc (if is_listed ps c.name then [] else own_name c ∷ []) (unlisted ps cs) (unlisted ps ds))

-- one constituent more that is not listed
pub unlisted_more : (ps : List NamePair) (cs : List Constituent) (i : ℕ) (c : Constituent) (names : List (List ℕ)) (start old new : List Brought) → i < length cs → c ≡ get_or cs i c
    → ((name : List ℕ) → list_any (bytes_eq name) names ≡ is_listed ps name)
    → old ≡ start ++ unlisted ps (take i cs)
    → new ≡ old ++ (if list_any (bytes_eq c.name) names then [] else own_name c ∷ [])
    → new ≡ start ++ unlisted ps (take (i + 1) cs)
unlisted_more ps cs i c names start old new within is same before grows =
    grows
    ∙ ap (λ b. old ++ (if b then [] else own_name c ∷ [])) (same c.name)
    ∙ ap (λ l. l ++ (if is_listed ps c.name then [] else own_name c ∷ [])) before
    ∙ append_assoc start (unlisted ps (take i cs)) (if is_listed ps c.name then [] else own_name c ∷ [])
    ∙ ap (λ l. start ++ (unlisted ps (take i cs) ++ l)) (sym (append-nil (if is_listed ps c.name then [] else own_name c ∷ [])))
    ∙ ap (λ l. start ++ l) (sym (unlisted-append ps (take i cs) (c ∷ [])) ∙ ap (unlisted ps) (sym (taken cs i c within is)))

-- a constituent under its own name, or none
pub own_there : (old new : List Brought) (c : Constituent) (text : List ℕ) (denoted : Denoted) (b : Bool) → b ≡ false → text ≡ c.name → denoted ≡ denoted_of c
    → new ≡ old ++ record { here = text; denoted = denoted } ∷ [] → new ≡ old ++ (if b then [] else own_name c ∷ [])
own_there old new c text denoted b is same valued grows =
    grows ∙ ap (λ t. old ++ brought_as t (Some denoted)) same ∙ ap (λ d. old ++ brought_as c.name (Some d)) valued
    ∙ ap (λ (e : Bool). old ++ (if e then [] else own_name c ∷ [])) (sym is)

pub own_listed : (old : List Brought) (c : Constituent) (b : Bool) → b ≡ true → old ≡ old ++ (if b then [] else own_name c ∷ [])
own_listed old c b is = sym (append-nil old) ∙ ap (λ (e : Bool). old ++ (if e then [] else own_name c ∷ [])) (sym is)

-- ---- doubled names

-- one name more in front: texts of those behind
pub behind_more : (bs : List Brought) (i : ℕ) (b : Brought) (old new : List (List ℕ)) (text : List ℕ) → 0 < i → i ≤ length bs → b ≡ get_or bs (i - 1) b → text ≡ b.here
    → HaveSame old (names_here (drop i bs))
    → ((other : List ℕ) → list_any (bytes_eq other) new ≡ (list_any (bytes_eq other) old || bytes_eq other text))
    → HaveSame new (names_here (drop (i - 1) bs))
behind_more bs i b old new text some within is texted same step other =
    let next : i - 1 + 1 ≡ i = omega arith in
    let front : drop (i - 1) bs ≡ b ∷ drop i bs = dropped bs (i - 1) b (omega arith) is ∙ ap (λ n. b ∷ drop n bs) next in
    step other ∙ ap (λ t. list_any (bytes_eq other) old || bytes_eq other t) texted
    ∙ ap (λ l. l || bytes_eq other b.here) (same other)
    ∙ swap (list_any (bytes_eq other) (names_here (drop i bs))) (bytes_eq other b.here)
    ∙ ap (λ l. list_any (bytes_eq other) (names_here l)) (sym front)
  where
    swap : (x y : Bool) → (x || y) ≡ (y || x)
    swap true true = refl
    swap true false = refl
    swap false true = refl
    swap false false = refl

-- and the first that is doubled
pub doubled_more : (bs : List Brought) (i : ℕ) (b : Brought) (behind : List (List ℕ)) (text : List ℕ) (there : Bool) (old new : Option ℕ) → 0 < i → i ≤ length bs → b ≡ get_or bs (i - 1) b → text ≡ b.here
    → HaveSame behind (names_here (drop i bs)) → there ≡ list_any (bytes_eq text) behind → new ≡ (if there then Some (i - 1) else old)
    → IsFirstDoubled bs (drop i bs) old → IsFirstDoubled bs (drop (i - 1) bs) new
doubled_more bs i b behind text there old new some within is texted same has chosen first =
    let next : i - 1 + 1 ≡ i = omega arith in
    let front : drop (i - 1) bs ≡ b ∷ drop i bs = dropped bs (i - 1) b (omega arith) is ∙ ap (λ n. b ∷ drop n bs) next in
    let again : list_any (bytes_eq b.here) (names_here (drop i bs)) ≡ there = sym (has ∙ ap (λ t. list_any (bytes_eq t) behind) texted ∙ same b.here) in
    let stands : slice_get bs (i - 1) ≡ Some b = slice_get-get_or bs (i - 1) b (omega arith) ∙ ap Some (sym is) in
    subst (λ l. IsFirstDoubled bs l new) (sym front) (subst (IsFirstDoubled bs (b ∷ drop i bs)) (sym chosen) (at there again stands first))
  where
    at : (there : Bool) → list_any (bytes_eq b.here) (names_here (drop i bs)) ≡ there → slice_get bs (i - 1) ≡ Some b
        → IsFirstDoubled bs (drop i bs) old → IsFirstDoubled bs (b ∷ drop i bs) (if there then Some (i - 1) else old)
    at true again stands first = (b, stands, rw again refl)
    at false again stands first = behind_one old again first
      where
        behind_one : (o : Option ℕ) → list_any (bytes_eq b.here) (names_here (drop i bs)) ≡ false → IsFirstDoubled bs (drop i bs) o → IsFirstDoubled bs (b ∷ drop i bs) o
        behind_one None again first = rw again first
        behind_one (Some place) again first = (first.0, first.1, rw again first.2)
