-- Rows whose first item was read, and whose other items `closed` reads.
use Rattle.std.proofs.Common.{◌≡◌, List, [], ◌∷◌, ◌++◌, Option, Result, Ok, sym, ap, ◌∙◌, subst, refl}
use Rattle.ep_token.specs.declared.token.Token.{Token}
use Rattle.ep_grammar.specs.declared.stop.Stop.{Stop}
use Rattle.ep_grammar.specs.Classes.{Class}
use Rattle.ep_grammar.specs.Descriptions.{Syntax, closed}
use Rattle.ep_grammar.specs.Reading.{Inside, Reads, read}
use Rattle.ep_reader.specs.Rows.{closed_by}

module _ {A : Type 0} (e : Option Inside) (cs : List Class) (s : Syntax A) (i : List Token) {j : List Token} {x : A} {none found : List A} (h : read e s i ≡ Ok (x, j)) (f : none ≡ []) (g : found ≡ none ++ x ∷ []) where
  one : x ∷ [] ≡ found
  one = sym (g ∙ ap (λ w. w ++ x ∷ []) f)

  -- `item { ";" item } [ ";" ]`
  pub closed_behind : (r : Result (List A) Stop) (k : List Token) → Reads (closed_by cs (read e s) found j) r k → Reads (read e (closed cs s) i) r k
  closed_behind r k m =
      let first : read e (closed cs s) i ≡ closed_by cs (read e s) (x ∷ []) j = rw h refl in
      subst (λ o. Reads o r k) (sym (first ∙ ap (λ w. closed_by cs (read e s) w j) one)) m
