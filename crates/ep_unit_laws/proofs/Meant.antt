-- What a name of a block means is held by the unit.
use Rattle.std.proofs.Common.{◌≡◌, ℕ, Bool, true, false, List, [], ◌∷◌, Option, Some, None, sym, subst}
use Rattle.std.specs.Prelude.{⊤, if◌then◌else◌}
use Rattle.std.specs.Str.{bytes_eq}
use Rattle.ep_typed.specs.declared.unit.Unit.{Unit as TypedUnit}
use Rattle.ep_scope.specs.Required.{look_up, required_of}
use Rattle.ep_scope.specs.Scopes.{Entries, Region, Meant, Declares, Standard, Requires, FieldOf, Nothing, as_required, as_thing, field_among, look_up_if, meant, meant_in, or_field, or_outside, unless_field, unless_hidden}
use Rattle.ep_scope.specs.declared.required.Required.{Required}
use Rattle.ep_scope.specs.declared.thing.Thing.{Thing}
use Rattle.ep_scope.specs.declared.thing.Thing.TheVariants as thing
use Rattle.ep_check_unit.specs.Declarations.{scopes_of}
use Rattle.ep_check_unit.specs.Blocks.{Block}
use Rattle.ep_unit_rules.specs.declared.own.Enclosing.{Enclosing}
use Rattle.ep_unit_laws.proofs.Holds.{Holds, HoldsDeclaration, HoldsScopes, HoldsThing, HoldsThings, holds_scopes}

module _ (u : TypedUnit) (es : List Enclosing) (i : ℕ) where
  -- what is meant is held
  abbrev pub HoldsMeant : Meant → Type 0
  HoldsMeant (Declares d) = (d.unit ≡ u.name) × HoldsDeclaration u es i d d.what
  HoldsMeant (Standard file) = ⊤
  HoldsMeant (Requires r) = ⊤
  HoldsMeant (FieldOf f) = ⊥
  HoldsMeant Nothing = ⊤

  abbrev pub HoldsIf : Option Thing → Type 0
  HoldsIf None = ⊤
  HoldsIf (Some t) = HoldsThing u es i t

  found_holds : (b : Bool) (t : Thing) (other : Option Thing) → HoldsThing u es i t → HoldsIf other → HoldsIf (if b then Some t else other)
  found_holds true t other h g = h
  found_holds false t other h g = g

  pub look_up_holds : (xs : Entries) (name : List ℕ) → HoldsThings u es i xs → HoldsIf (look_up xs name)
  look_up_holds [] name h = tt
  look_up_holds (x ∷ xs) name h = found_holds (bytes_eq name x.0) x.1 (look_up xs name) h.0 (look_up_holds xs name h.1)

  thing_meant : (t : Thing) → HoldsThing u es i t → HoldsMeant (as_thing t)
  thing_meant (thing.Declared d) h = h
  thing_meant (thing.Standard file) h = tt

  required_meant : (o : Option Required) → HoldsMeant (as_required o)
  required_meant None = tt
  required_meant (Some r) = tt

  outside_meant : (other : Option Thing) (m : Meant) → HoldsIf other → HoldsMeant m → HoldsMeant (or_outside other m)
  outside_meant None m h g = g
  outside_meant (Some t) m h g = thing_meant t h

  scopes_meant : (rs : List Region) (name : List ℕ) → HoldsScopes u es i rs → HoldsMeant (meant rs name)
  scopes_meant [] name h = required_meant (required_of name)
  scopes_meant (r ∷ rs) name h =
      subst (λ records. HoldsMeant (or_field (field_among records name) (or_outside (look_up r.entries name) (meant rs name)))) (sym h.1.1)
      (outside_meant (look_up r.entries name) (meant rs name) (look_up_holds r.entries name h.0) (scopes_meant rs name h.3))

  hidden_meant : (other : Option Thing) (m : Meant) → HoldsMeant m → HoldsMeant (unless_hidden other m)
  hidden_meant None m h = h
  hidden_meant (Some t) m h = tt

  scopes_meant_in : (rs : List Region) (interface name : List ℕ) → HoldsScopes u es i rs → HoldsMeant (meant_in rs interface name)
  scopes_meant_in [] interface name h = tt
  scopes_meant_in (r ∷ rs) interface name h =
      subst (λ records. HoldsMeant (unless_field (field_among records interface) (unless_hidden (look_up r.entries interface) (or_outside (look_up_if (look_up r.qualified interface) name) (meant_in rs interface name))))) (sym h.1.1)
      (hidden_meant (look_up r.entries interface) (or_outside (look_up_if (look_up r.qualified interface) name) (meant_in rs interface name))
      (subst (λ q. HoldsMeant (or_outside (look_up_if (look_up q interface) name) (meant_in rs interface name))) (sym h.1.0) (scopes_meant_in rs interface name h.3)))

module _ (u : TypedUnit) (i : ℕ) where
  -- a name of the block
  pub meant_holds : (b : Block) (name : List ℕ) → Holds u i b → HoldsMeant u b.own.enclosing i (meant (scopes_of b) name)
  meant_holds b name x = scopes_meant u b.own.enclosing i (scopes_of b) name (holds_scopes u i b x)

  -- a block has no interface
  pub meant_in_holds : (b : Block) (interface name : List ℕ) → Holds u i b → HoldsMeant u b.own.enclosing i (meant_in (scopes_of b) interface name)
  meant_in_holds b interface name x = scopes_meant_in u b.own.enclosing i (scopes_of b) interface name (holds_scopes u i b x)
