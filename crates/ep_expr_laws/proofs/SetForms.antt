-- Operations on sets have valid forms where their operands have them. The empty set is one over each host.
use Rattle.std.proofs.Common.{◌≡◌, pos, true, int_le, IsTrue, List, Option, Some, None, refl, subst}
use Rattle.ep_typed.specs.Hosts as hosts
use Rattle.ep_typed.specs.Hosts.{greatest}
use Rattle.ep_values.specs.Operations.{maxint}
use Rattle.ep_typed.specs.Trees.{Card, Expr, OnSets}
use Rattle.ep_meaning.specs.Valid.{Declarations, IsExpr, IsOnSets}
use Rattle.ep_meaning.specs.Valid as valid
use Rattle.ep_values.specs.declared.operations.SetOperation.{SetOperation}
use Rattle.ep_values.specs.declared.operations.SetOperation.TheVariants as on_sets
use Rattle.std.specs.Option.{option_map}
use Rattle.ep_scope.specs.Kinds.{same_host}
use Rattle.ep_scope.specs.declared.kind.Host.{Host}
use Rattle.ep_scope.specs.declared.kind.Kind.{Kind}
use Rattle.ep_scope.specs.declared.kind.Kind.TheVariants as kind
use Rattle.ep_scope.specs.declared.structure.StructuredType.{StructuredType}
use Rattle.ep_expr_laws.specs.Agreement.{IsFormOf, IsHost, TypeValues}
use Rattle.ep_rules.specs.Hosts.{typed_host}
use Rattle.ep_rules.specs.Operators.{are_sets, boolean, integer, joint_kind, map_both, may_be_in}
use Rattle.ep_expr_laws.proofs.public.SameHost.{host_same}

module _ (declared : Declarations) (types : TypeValues) (structures : List StructuredType) where
  -- a valid form of a kind
  abbrev Form : Kind → Option Expr → Type 0
  Form = IsFormOf declared types structures

  set-host : (h : Host) (form : Option Expr) → Form (kind.Set h) form → IsHost h
  set-host h None f = f
  set-host h (Some x) f = f.0

  ordinal-host : (h : Host) (form : Option Expr) → Form (kind.Ordinal h) form → IsHost h
  ordinal-host h None f = f
  ordinal-host h (Some x) f = f.0

  -- a set over the same host
  same-set : (h g : Host) (form : Option Expr) → same_host h g ≡ true → Form (kind.Set g) form → Form (kind.Set h) form
  same-set h g None s f = subst (λ t. IsTrue (int_le (greatest t) (pos maxint))) (host_same h g s) f
  same-set h g (Some x) s f = (subst (λ t. IsTrue (int_le (greatest t) (pos maxint))) (host_same h g s) f.0, subst (λ t. IsExpr declared (valid.Set t) x) (host_same h g s) f.1)

  -- the empty set is one over any host
  any-set : (h : Host) → IsHost h → (form : Option Expr) → Form kind.EmptySet form → Form (kind.Set h) form
  any-set h s None f = s
  any-set h s (Some x) f = (s, f (typed_host h))

  -- what holds of two sets over one host, and of two empty ones, holds of what may stand together
  sets-both : (P : Kind → Type 0) (k l : Kind) (x y : Option Expr) → are_sets k l ≡ true → Form k x → Form l y
      → ((h : Host) → Form (kind.Set h) x → Form (kind.Set h) y → P (kind.Set h)) → (Form kind.EmptySet x → Form kind.EmptySet y → P kind.EmptySet) → P (joint_kind k l)
  sets-both P (kind.Set h) (kind.Set g) x y e f q two none = two h f (same-set h g y e q)
  sets-both P (kind.Set h) kind.EmptySet x y e f q two none = two h f (any-set h (set-host h x f) y q)
  sets-both P (kind.Set h) (kind.Ordinal g) x y e f q two none = cc
  sets-both P (kind.Set h) (kind.Structured n) x y e f q two none = cc
  sets-both P (kind.Set h) kind.Text x y e f q two none = cc
  sets-both P (kind.Set h) kind.File x y e f q two none = cc
  sets-both P kind.EmptySet (kind.Set h) x y e f q two none = two h (any-set h (set-host h y q) x f) q
  sets-both P kind.EmptySet kind.EmptySet x y e f q two none = none f q
  sets-both P kind.EmptySet (kind.Ordinal g) x y e f q two none = cc
  sets-both P kind.EmptySet (kind.Structured n) x y e f q two none = cc
  sets-both P kind.EmptySet kind.Text x y e f q two none = cc
  sets-both P kind.EmptySet kind.File x y e f q two none = cc
  sets-both P (kind.Ordinal h) l x y e f q two none = cc
  sets-both P (kind.Structured n) l x y e f q two none = cc
  sets-both P kind.Text l x y e f q two none = cc
  sets-both P kind.File l x y e f q two none = cc

  -- ---- operations that make sets

  abbrev pub IsCombining : SetOperation → Type 0
  IsCombining operation = (h : hosts.Host) → IsOnSets operation (valid.Set h) (valid.Set h) (valid.Set h)

  two-form : (operation : SetOperation) → IsCombining operation → (h : Host) (x y : Option Expr) → Form (kind.Set h) x → Form (kind.Set h) y → Form (kind.Set h) (map_both (OnSets operation) x y)
  two-form operation u h None None f g = f
  two-form operation u h None (Some y) f g = f
  two-form operation u h (Some x) None f g = f.0
  two-form operation u h (Some x) (Some y) f g = (f.0, (valid.Set (typed_host h), valid.Set (typed_host h), u (typed_host h), f.1, g.1))

  empty-form : (operation : SetOperation) → IsCombining operation → (x y : Option Expr) → Form kind.EmptySet x → Form kind.EmptySet y → Form kind.EmptySet (map_both (OnSets operation) x y)
  empty-form operation u None None f g = tt
  empty-form operation u None (Some y) f g = tt
  empty-form operation u (Some x) None f g = tt
  empty-form operation u (Some x) (Some y) f g = λ h. (valid.Set h, valid.Set h, u h, f h, g h)

  pub combined-form : (operation : SetOperation) → IsCombining operation → (k l : Kind) (x y : Option Expr) → are_sets k l ≡ true → Form k x → Form l y → Form (joint_kind k l) (map_both (OnSets operation) x y)
  combined-form operation u k l x y e f g =
      sets-both (λ j. Form j (map_both (OnSets operation) x y)) k l x y e f g (λ h p q. two-form operation u h x y p q) (λ p q. empty-form operation u x y p q)

  -- ---- comparisons

  abbrev pub IsRelating : SetOperation → Type 0
  IsRelating operation = (h : hosts.Host) → IsOnSets operation (valid.Set h) (valid.Set h) (valid.Ordinal hosts.Boolean)

  two-related : (operation : SetOperation) → IsRelating operation → (h : Host) (x y : Option Expr) → Form (kind.Set h) x → Form (kind.Set h) y → Form boolean (map_both (OnSets operation) x y)
  two-related operation u h None None f g = refl
  two-related operation u h None (Some y) f g = refl
  two-related operation u h (Some x) None f g = refl
  two-related operation u h (Some x) (Some y) f g = (refl, (valid.Set (typed_host h), valid.Set (typed_host h), u (typed_host h), f.1, g.1))

  empty-related : (operation : SetOperation) → IsRelating operation → (x y : Option Expr) → Form kind.EmptySet x → Form kind.EmptySet y → Form boolean (map_both (OnSets operation) x y)
  empty-related operation u None None f g = refl
  empty-related operation u None (Some y) f g = refl
  empty-related operation u (Some x) None f g = refl
  empty-related operation u (Some x) (Some y) f g = (refl, (valid.Set hosts.Integer, valid.Set hosts.Integer, u hosts.Integer, f hosts.Integer, g hosts.Integer))

  pub related-form : (operation : SetOperation) → IsRelating operation → (k l : Kind) (x y : Option Expr) → are_sets k l ≡ true → Form k x → Form l y → Form boolean (map_both (OnSets operation) x y)
  related-form operation u k l x y e f g =
      sets-both (λ j. Form boolean (map_both (OnSets operation) x y)) k l x y e f g (λ h p q. two-related operation u h x y p q) (λ p q. empty-related operation u x y p q)

  -- ---- `in`

  in-form : (h : Host) (x y : Option Expr) → Form (kind.Ordinal h) x → Form (kind.Set h) y → Form boolean (map_both (OnSets on_sets.In) x y)
  in-form h None None f g = refl
  in-form h None (Some y) f g = refl
  in-form h (Some x) None f g = refl
  in-form h (Some x) (Some y) f g = (refl, (valid.Ordinal (typed_host h), valid.Set (typed_host h), ((typed_host h, refl, refl), refl), f.1, g.1))

  pub membership-form : (k l : Kind) (x y : Option Expr) → may_be_in k l ≡ true → Form k x → Form l y → Form boolean (map_both (OnSets on_sets.In) x y)
  membership-form (kind.Ordinal h) (kind.Set g) x y e f q = in-form h x y f (same-set h g y e q)
  membership-form (kind.Ordinal h) kind.EmptySet x y e f q = in-form h x y f (any-set h (ordinal-host h x f) y q)
  membership-form (kind.Ordinal h) (kind.Ordinal g) x y e f q = cc
  membership-form (kind.Ordinal h) (kind.Structured n) x y e f q = cc
  membership-form (kind.Ordinal h) kind.Text x y e f q = cc
  membership-form (kind.Ordinal h) kind.File x y e f q = cc
  membership-form (kind.Structured n) l x y e f q = cc
  membership-form (kind.Set h) l x y e f q = cc
  membership-form kind.EmptySet l x y e f q = cc
  membership-form kind.Text l x y e f q = cc
  membership-form kind.File l x y e f q = cc

  -- ---- `card`

  pub card-form : (h : Host) (x : Option Expr) → Form (kind.Set h) x → Form integer (option_map Card x)
  card-form h None f = refl
  card-form h (Some x) f = (refl, (typed_host h, refl, f.1))

  pub empty_card-form : (x : Option Expr) → Form kind.EmptySet x → Form integer (option_map Card x)
  empty_card-form None f = refl
  empty_card-form (Some x) f = (refl, (hosts.Integer, refl, f hosts.Integer))
