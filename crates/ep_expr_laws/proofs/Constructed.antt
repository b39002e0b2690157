-- A set constructor of valid values has a valid form.
use Rattle.std.proofs.Common.{◌≡◌, ℕ, suc, max, Bool, true, false, List, [], ◌∷◌, ◌++◌, Option, Some, None, refl, sym, subst}
use Rattle.std.specs.Prelude.{⊤, if◌then◌else◌}
use Rattle.std.specs.Option.{option_map}
use Rattle.ep_typed.specs.Hosts as hosts
use Rattle.ep_typed.specs.Trees.{Designator, Expr, Range, SetOf, Single, designators}
use Rattle.ep_meaning.specs.Valid.{AreDesignators, Declarations, IsDesignator}
use Rattle.ep_scope.specs.declared.kind.Host.{Host}
use Rattle.ep_scope.specs.declared.kind.Kind.{Kind}
use Rattle.ep_scope.specs.declared.kind.Kind.TheVariants as kind
use Rattle.ep_scope.specs.declared.structure.StructuredType.{StructuredType}
use Rattle.ep_expr_laws.specs.Agreement.{IsFormOf, IsHost, TypeValues}
use Rattle.ep_rules.specs.Constructors.{Label, Members, extended, joined_by, may_join, no_member, set_judged, set_kind}
use Rattle.ep_rules.specs.Hosts.{typed_host}
use Rattle.ep_rules.specs.Judgements.{Accepts, Typed}
use Rattle.ep_rules.specs.Operators.{are_compatible, map_both}
use Rattle.ep_check_expr.proofs.public.Labels.{set-has}
use Rattle.ep_check_expr.proofs.public.Keeping.{AreLabels, Satisfies}
use Rattle.ep_expr_laws.proofs.public.SameHost.{host_same}
use Rattle.ep_expr_laws.proofs.Sound.{Fits, compatible-form, form-host, within_depth-fits}

-- one designator more
pub more_designators : (declared : Declarations) (h : hosts.Host) (ds : List Designator) (d : Designator) → AreDesignators declared h (designators ds) → IsDesignator declared h d → AreDesignators declared h (designators (ds ++ d ∷ []))
more_designators declared h [] d p q = (q, tt)
more_designators declared h (e ∷ ds) d p q = (p.0, more_designators declared h ds d p.1 q)

module _ (declared : Declarations) (types : TypeValues) (structures : List StructuredType) where
  abbrev Form : Kind → Option Expr → Type 0
  Form = IsFormOf declared types structures

  -- the designators are of the host, and there is none before there is a host
  abbrev AreDesigned : Option Host → Option (List Designator) → Type 0
  AreDesigned None ds = ds ≡ Some []
  AreDesigned (Some h) None = IsHost h
  AreDesigned (Some h) (Some ds) = IsHost h × AreDesignators declared (typed_host h) (designators ds)

  abbrev IsGathered : Members → Type 0
  IsGathered ms = AreDesigned ms.host ms.designators

  abbrev IsDesigned : Host → Option Designator → Type 0
  IsDesigned h None = ⊤
  IsDesigned h (Some d) = IsDesignator declared (typed_host h) d

  one-designed : (o : Option Host) (ds : Option (List Designator)) (h : Host) → may_join o h ≡ true → AreDesigned o ds → IsHost h → (d : Option Designator) → IsDesigned h d → AreDesigned (Some h) (map_both (λ es e. es ++ e ∷ []) ds d)
  one-designed None None h e p s d q = cc
  one-designed None (Some []) h e p s None q = s
  one-designed None (Some []) h e p s (Some d) q = (s, (q, tt))
  one-designed None (Some (x ∷ xs)) h e p s d q = cc
  one-designed (Some g) None h e p s None q = s
  one-designed (Some g) None h e p s (Some d) q = s
  one-designed (Some g) (Some ds) h e p s None q = s
  one-designed (Some g) (Some ds) h e p s (Some d) q = (s, more_designators declared (typed_host h) ds d (subst (λ t. AreDesignators declared t (designators ds)) (sym (host_same g h e)) p.1) q)

  joined-if : (same : Bool) (h : Host) (ms : Members) (d : Option Designator) (depth : ℕ) → may_join ms.host h ≡ same → IsGathered ms → IsHost h → IsDesigned h d → Satisfies IsGathered (if same then Accepts (extended ms d depth h) else no_member)
  joined-if true h ms d depth e p s q = one-designed ms.host ms.designators h e p s d q
  joined-if false h ms d depth e p s q = tt

  single-designed : (h : Host) (x : Option Expr) → Form (kind.Ordinal h) x → IsDesigned h (option_map Single x)
  single-designed h None f = tt
  single-designed h (Some x) f = f.1

  single-joined : (k : Kind) (ms : Members) (x : Option Expr) (depth : ℕ) → IsGathered ms → Form k x → Satisfies IsGathered (joined_by k ms (option_map Single x) depth)
  single-joined (kind.Ordinal h) ms x depth p f = joined-if (may_join ms.host h) h ms (option_map Single x) depth refl p (form-host declared types structures h x f) (single-designed h x f)
  single-joined (kind.Structured n) ms x depth p f = tt
  single-joined (kind.Set h) ms x depth p f = tt
  single-joined kind.EmptySet ms x depth p f = tt
  single-joined kind.Text ms x depth p f = tt
  single-joined kind.File ms x depth p f = tt

  range-designed : (h : Host) (x y : Option Expr) → Form (kind.Ordinal h) x → Form (kind.Ordinal h) y → IsDesigned h (map_both Range x y)
  range-designed h None None f g = tt
  range-designed h None (Some y) f g = tt
  range-designed h (Some x) None f g = tt
  range-designed h (Some x) (Some y) f g = (f.1, g.1)

  range-joined : (k l : Kind) (ms : Members) (x y : Option Expr) (depth : ℕ) → are_compatible k l ≡ true → IsGathered ms → Form k x → Form l y → Satisfies IsGathered (joined_by k ms (map_both Range x y) depth)
  range-joined (kind.Ordinal h) l ms x y depth e p f g =
      joined-if (may_join ms.host h) h ms (map_both Range x y) depth refl p (form-host declared types structures h x f) (range-designed h x y f (compatible-form declared types structures h l y e g))
  range-joined (kind.Structured n) l ms x y depth e p f g = tt
  range-joined (kind.Set h) l ms x y depth e p f g = tt
  range-joined kind.EmptySet l ms x y depth e p f g = tt
  range-joined kind.Text l ms x y depth e p f g = tt
  range-joined kind.File l ms x y depth e p f g = tt

  range-if : (same : Bool) (ms : Members) (x y : Typed) → are_compatible x.kind y.kind ≡ same → IsGathered ms → Form x.kind x.form → Form y.kind y.form
      → Satisfies IsGathered (if same then joined_by x.kind ms (map_both Range x.form y.form) (max x.depth y.depth) else no_member)
  range-if true ms x y e p f g = range-joined x.kind y.kind ms x.form y.form (max x.depth y.depth) e p f g
  range-if false ms x y e p f g = tt

  -- the set of such members
  made-form : (o : Option Host) (ds : Option (List Designator)) → AreDesigned o ds → Form (set_kind o) (option_map (λ es. SetOf (designators es)) ds)
  made-form None None p = tt
  made-form None (Some []) p = λ h. (h, refl, tt)
  made-form None (Some (d ∷ ds)) p = cc
  made-form (Some h) None p = p
  made-form (Some h) (Some ds) p = (p.0, (typed_host h, refl, p.1))

  pub constructed-fits : (ls : List Label) → AreLabels (λ t. Form t.kind t.form) ls → Fits declared types structures (set_judged ls)
  constructed-fits ls q =
      set-has (λ t. Form t.kind t.form) IsGathered (λ ms x p f. single-joined x.kind ms x.form x.depth p f) (λ ms x y p f g. range-if (are_compatible x.kind y.kind) ms x y refl p f g)
      (λ t. Form t.kind t.form) refl (λ ms p. within_depth-fits declared types structures _ (set_kind ms.host) (suc ms.depth) (made-form ms.host ms.designators p)) ls q
