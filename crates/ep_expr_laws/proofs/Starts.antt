-- What may begin a type is a valid expression of its kind.
use Rattle.std.proofs.Common.{◌≡◌, ◌∙◌, ℕ, List, [], refl, sym, ap, subst}
use Rattle.ep_meaning.proofs.public.Typed.{typed_bare}
use Rattle.ep_typed.specs.Trees as tree
use Rattle.ep_typed.specs.Trees.{Elements, Expr, Named}
use Rattle.ep_values.specs.TypeValues as type
use Rattle.ep_values.specs.TypeValues.{TypeValue, bare_of}
use Rattle.ep_meaning.specs.Valid.{AreElements, AreStartsFor, Declarations, IsDenoter, IsExpr, IsStartFor, IsStructured, IsTypeOfKind, ValueKind, Ordinal, Set, Structured, field_given, none_given, ranges_given, same_given, set_start, structured_start, word_start}
use Rattle.ep_typed.specs.declared.unit.UnitType.{UnitType}

module _ (declared : Declarations) where
  abbrev list : List UnitType
  list = declared.types

  -- a structured value is one of the type value of its type
  structured-valid : (t : TypeValue) (of : ℕ) (es : Elements) → bare_of t ≡ t → (d : IsDenoter list (Named of [])) → d.type_value ≡ t → IsStructured t → AreElements declared t es → IsExpr declared (Structured t) (tree.Structured of es)
  structured-valid t of es bare d same is given =
      let bare_same : bare_of d.type_value ≡ t = ap bare_of same ∙ bare in
      (d, ap Structured (sym bare_same), subst IsStructured (sym bare_same) is, subst (λ u. AreElements declared u es) (sym bare_same) given)

  mutual
    -- in whatever type it begins
    start-expr : (t : TypeValue) (x : Expr) → IsStartFor list t x → (k : ValueKind) × IsTypeOfKind k t × IsExpr declared k x
    start-expr t x (word_start low high h w of is) = (Ordinal h, of, (h, refl, is))
    start-expr t x (set_start low high h ms base set between) = (Set h, base, (h, refl, set, between))
    start-expr t x (structured_start of u es found typed is given) =
        (Structured u, (refl, is), structured-valid u of es (typed_bare list (Named of []) u typed) (record { type_value = u; has_type = found; typed = typed }) refl is (given-elements u es given))

    given-elements : (t : TypeValue) (es : Elements) → AreStartsFor list t es → AreElements declared t es
    given-elements t es (none_given u) = tt
    given-elements t es (ranges_given low high h of ranges x more is has within s rest) =
        (((h, is), has, within, start-expr of x s), given-elements (type.Array low high of) more rest)
    given-elements t es (field_given ts steps of x more leads s rest) =
        let e = start-expr of x s in
        ((e.0, (of, leads, e.1), e.2), given-elements (type.Record ts) more rest)
    given-elements t es (same_given ts from to k more p q rest) = ((k, p, q), given-elements (type.Record ts) more rest)

  -- an array or a record
  pub start-structured : (t : TypeValue) (of : ℕ) (es : Elements) → IsStartFor list t (tree.Structured of es) → IsExpr declared (Structured t) (tree.Structured of es)
  start-structured t of es (structured_start of2 u es2 found typed is given) =
      structured-valid u of2 es2 (typed_bare list (Named of2 []) u typed) (record { type_value = u; has_type = found; typed = typed }) refl is (given-elements u es2 given)
