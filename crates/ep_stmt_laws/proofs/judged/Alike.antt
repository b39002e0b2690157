-- What is said of an access before it is judged does not depend on the variables that stand for open records, nor on what protects these.
use Rattle.std.proofs.Common.{◌≡◌, ℕ, false, List, [], ◌∷◌, map, slice_get, Option, Some, None, refl, sym, ap, ◌∙◌, subst}
use Rattle.std.specs.Prelude.{if◌then◌else◌}
use Rattle.std.specs.Option.{option_map, option_map_or}
use Rattle.ep_tree.specs.Shapes.{when_some}
use Rattle.ep_tree.specs.declared.expression.Access.{Access, out-Access}
use Rattle.ep_tree.specs.declared.expression.Addend.{Addend}
use Rattle.ep_tree.specs.declared.expression.Argument.{Argument}
use Rattle.ep_tree.specs.declared.expression.Comparison.{Comparison}
use Rattle.ep_tree.specs.declared.expression.ComponentValue.TheOpen.{Selector-F}
use Rattle.ep_tree.specs.declared.expression.ComponentValue.{ComponentValue}
use Rattle.ep_tree.specs.declared.expression.Element.{Element}
use Rattle.ep_tree.specs.declared.expression.Expression.{Expression}
use Rattle.ep_tree.specs.declared.expression.Factor.{Factor}
use Rattle.ep_tree.specs.declared.expression.Label.{Label}
use Rattle.ep_tree.specs.declared.expression.Multiplier.{Multiplier}
use Rattle.ep_tree.specs.declared.expression.Selector.{Selector, out-Selector}
use Rattle.ep_tree.specs.declared.expression.Simple.{Simple}
use Rattle.ep_tree.specs.declared.expression.Term.{Term}
use Rattle.ep_tree.specs.declared.expression.Values.{Values}
use Rattle.ep_typed.specs.Trees.{Expr, OfRoutine}
use Rattle.ep_scope.specs.Fields.{field_number}
use Rattle.ep_scope.specs.Required.{look_up, required_of}
use Rattle.ep_scope.specs.Scopes.{OpenField, OpenRecord, Region, Meant, Declares, Requires, FieldOf, Nothing, as_required, as_thing, field_among, field_at, field_if, field_of, field_or, look_up_in, meant, meant_in, or_field, or_outside, structure_among, structure_in, structure_or, unless_field, unless_hidden, within}
use Rattle.ep_scope.specs.Scopes as meaning
use Rattle.ep_scope.specs.declared.kind.Kind.{Kind}
use Rattle.ep_scope.specs.declared.kind.Kind.TheVariants as kind
use Rattle.ep_scope.specs.declared.parameter.Protection.{Protection}
use Rattle.ep_scope.specs.declared.parameter.Protection.TheVariants as protection
use Rattle.ep_scope.specs.declared.required.Required.{Required}
use Rattle.ep_scope.specs.declared.structure.Composition.{Composition}
use Rattle.ep_scope.specs.declared.structure.Composition.TheVariants as composition
use Rattle.ep_scope.specs.declared.structure.FieldType.{FieldType}
use Rattle.ep_scope.specs.declared.thing.Thing.{Thing}
use Rattle.ep_scope.specs.declared.thing.Thing.TheVariants as thing
use Rattle.ep_rules.specs.declared.access.Access as accessing
use Rattle.ep_rules.specs.declared.access.Access.TheVariants as access
use Rattle.ep_check_expr.specs.Expressions.{name_judged}
use Rattle.ep_rules.specs.Judgements.{Accepts, Typed, when_accepted}
use Rattle.ep_rules.specs.Names.{is_nothing}
use Rattle.ep_check_expr.specs.Shapes.{field_first}
use Rattle.ep_stmt_rules.specs.Statements.{Context, Opened, RecordNamed, block_variable, none_opened, one_opened, record_accessed, record_made, record_of_kind, record_opened, records_opened}
use Rattle.ep_stmt_rules.specs.Tags as tags
use Rattle.ep_stmt_rules.specs.declared.tags.Reached.{Reached}
use Rattle.ep_stmt_rules.proofs.public.judged.Fits.{Fits, fits_then}
use Rattle.ep_stmt_laws.proofs.judged.Reached.{IsReached, IsVariable, access_reached, never_both}

-- ---- scopes whose open records all have the same variable

abbrev plain_field : OpenField → OpenField
plain_field f = record { variable = OfRoutine 0 0; guarded = protection.Unprotected; field = f.field }

abbrev plain_record : OpenRecord → OpenRecord
plain_record r = record { variable = OfRoutine 0 0; guarded = protection.Unprotected; fields = r.fields }

abbrev plain_region : Region → Region
plain_region g = record g { records = map plain_record g.records }

abbrev pub plain : List Region → List Region
plain = map plain_region

-- they are the same but for these variables and what protects the records
abbrev pub Alike : List Region → List Region → Type 0
Alike x y = plain x ≡ plain y

-- what is meant in them
abbrev plain_meant : Meant → Meant
plain_meant (FieldOf f) = FieldOf (plain_field f)
plain_meant (Declares d) = Declares d
plain_meant (meaning.Standard file) = meaning.Standard file
plain_meant (Requires r) = Requires r
plain_meant Nothing = Nothing

if_plain : (r : OpenRecord) (o : Option FieldType) → field_if (plain_record r) o ≡ option_map plain_field (field_if r o)
if_plain r None = refl
if_plain r (Some f) = refl

at_plain : (r : OpenRecord) (o : Option ℕ) → field_at (plain_record r) o ≡ option_map plain_field (field_at r o)
at_plain r None = refl
at_plain r (Some place) = if_plain r (slice_get r.fields place)

or_plain : (a b : Option OpenField) → field_or (option_map plain_field a) (option_map plain_field b) ≡ option_map plain_field (field_or a b)
or_plain None b = refl
or_plain (Some f) b = refl

among_plain : (rs : List OpenRecord) (name : List ℕ) → field_among (map plain_record rs) name ≡ option_map plain_field (field_among rs name)
among_plain [] name = refl
among_plain (r ∷ rs) name =
    ap (λ a. field_or a (field_among (map plain_record rs) name)) (at_plain r (field_number r.fields name)) ∙ (ap (field_or (option_map plain_field (field_of r name))) (among_plain rs name) ∙ or_plain (field_of r name) (field_among rs name))

or_field_plain : (o : Option OpenField) (m : Meant) → or_field (option_map plain_field o) (plain_meant m) ≡ plain_meant (or_field o m)
or_field_plain None m = refl
or_field_plain (Some f) m = refl

thing_plain : (t : Thing) → as_thing t ≡ plain_meant (as_thing t)
thing_plain (thing.Declared d) = refl
thing_plain (thing.Standard file) = refl

outside_plain : (o : Option Thing) (m : Meant) → or_outside o (plain_meant m) ≡ plain_meant (or_outside o m)
outside_plain None m = refl
outside_plain (Some t) m = thing_plain t

required_plain : (o : Option Required) → as_required o ≡ plain_meant (as_required o)
required_plain None = refl
required_plain (Some r) = refl

meant_plain : (scopes : List Region) (name : List ℕ) → meant (plain scopes) name ≡ plain_meant (meant scopes name)
meant_plain [] name = required_plain (required_of name)
meant_plain (g ∷ gs) name =
    ap (λ o. or_field o (or_outside (look_up g.entries name) (meant (plain gs) name))) (among_plain g.records name)
    ∙ (ap (λ m. or_field (option_map plain_field (field_among g.records name)) (or_outside (look_up g.entries name) m)) (meant_plain gs name)
    ∙ (ap (or_field (option_map plain_field (field_among g.records name))) (outside_plain (look_up g.entries name) (meant gs name)) ∙ or_field_plain (field_among g.records name) (or_outside (look_up g.entries name) (meant gs name))))

unless_plain : (o : Option OpenField) (m : Meant) → unless_field (option_map plain_field o) m ≡ unless_field o m
unless_plain None m = refl
unless_plain (Some f) m = refl

meant_in_plain : (scopes : List Region) (interface name : List ℕ) → meant_in (plain scopes) interface name ≡ meant_in scopes interface name
meant_in_plain [] interface name = refl
meant_in_plain (g ∷ gs) interface name =
    ap (λ m. unless_field (field_among (map plain_record g.records) interface) (unless_hidden (look_up g.entries interface) (or_outside (look_up_in g interface name) m))) (meant_in_plain gs interface name)
    ∙ (ap (λ o. unless_field o (unless_hidden (look_up g.entries interface) (or_outside (look_up_in g interface name) (meant_in gs interface name)))) (among_plain g.records interface)
    ∙ unless_plain (field_among g.records interface) (unless_hidden (look_up g.entries interface) (or_outside (look_up_in g interface name) (meant_in gs interface name))))

structure_plain : (scopes : List Region) (n : ℕ) → structure_in (plain scopes) n ≡ structure_in scopes n
structure_plain [] n = refl
structure_plain (g ∷ gs) n = ap (structure_or (structure_among n g.structures)) (structure_plain gs n)

-- ---- what is said of accesses in them

name_reached_plain : (m : Meant) → tags.name_reached (plain_meant m) ≡ tags.name_reached m
name_reached_plain (FieldOf f) = refl
name_reached_plain (Declares d) = refl
name_reached_plain (meaning.Standard file) = refl
name_reached_plain (Requires r) = refl
name_reached_plain Nothing = refl

module _ (scopes : List Region) where
  composition_plain : (k : Kind) → tags.composition_of (plain scopes) k ≡ tags.composition_of scopes k
  composition_plain (kind.Structured n) = structure_plain scopes n
  composition_plain (kind.Ordinal h) = refl
  composition_plain (kind.Set h) = refl
  composition_plain kind.EmptySet = refl
  composition_plain kind.Text = refl
  composition_plain kind.File = refl

  named_plain : (name : List ℕ) → tags.name_reached (meant (plain scopes) name) ≡ tags.name_reached (meant scopes name)
  named_plain name = ap tags.name_reached (meant_plain scopes name) ∙ name_reached_plain (meant scopes name)

  one_plain : (r : Option Reached) → when_some r (λ x. tags.component_reached (tags.composition_of (plain scopes) x.kind)) ≡ when_some r (λ x. tags.component_reached (tags.composition_of scopes x.kind))
  one_plain None = refl
  one_plain (Some x) = ap tags.component_reached (composition_plain x.kind)

  indexed_plain : {A : Type 0} (is : List A) (r : Option Reached) → tags.indexed (plain scopes) is r ≡ tags.indexed scopes is r
  indexed_plain [] r = refl
  indexed_plain (i ∷ is) r = ap (tags.indexed (plain scopes) is) (one_plain r) ∙ indexed_plain is (when_some r (λ x. tags.component_reached (tags.composition_of scopes x.kind)))

  designated_plain : (name : List ℕ) (r : Option Reached) → tags.designated (plain scopes) name r ≡ tags.designated scopes name r
  designated_plain name None = refl
  designated_plain name (Some x) = ap (tags.field_reached name) (composition_plain x.kind)

  abbrev Layer : Type 0
  Layer = Selector-F ComponentValue Element Factor Selector Access Addend Argument Comparison Expression Label Multiplier Simple Term Values

  selected_plain : (l : Layer) (r : Option Reached) → tags.selected_by (plain scopes) l r ≡ tags.selected_by scopes l r
  selected_plain (Selector-F.Field line name) r = designated_plain name r
  selected_plain (Selector-F.Index line indexes) r = indexed_plain indexes r
  selected_plain (Selector-F.Dereference line) r = refl
  selected_plain (Selector-F.Arguments line arguments) r = refl

  selectors_plain : (ss : List Selector) (r : Option Reached) → tags.selected_all (plain scopes) ss r ≡ tags.selected_all scopes ss r
  selectors_plain [] r = refl
  selectors_plain (s ∷ ss) r = ap (tags.selected_all (plain scopes) ss) (selected_plain (out-Selector s) r) ∙ selectors_plain ss (tags.selected_by scopes (out-Selector s) r)

  constituent_plain : (first second : List ℕ) (m : Meant) → tags.constituent_or_field (plain scopes) first second m ≡ tags.constituent_or_field scopes first second m
  constituent_plain first second m =
      ap (λ r. if is_nothing m then r else tags.name_reached m) (ap (tags.designated (plain scopes) second) (named_plain first) ∙ designated_plain second (tags.name_reached (meant scopes first)))

  begun_plain : (name : List ℕ) (ss : List Selector) (o : Option (List ℕ × List Selector)) → tags.begun (plain scopes) name ss o ≡ tags.begun scopes name ss o
  begun_plain name ss None = ap (tags.selected_all (plain scopes) ss) (named_plain name) ∙ selectors_plain ss (tags.name_reached (meant scopes name))
  begun_plain name ss (Some (field, more)) =
      ap (tags.selected_all (plain scopes) more) (ap (tags.constituent_or_field (plain scopes) name field) (meant_in_plain scopes name field) ∙ constituent_plain name field (meant_in scopes name field))
      ∙ selectors_plain more (tags.constituent_or_field scopes name field (meant_in scopes name field))

  reached_plain : (a : Access) → tags.access_reached (plain scopes) a ≡ tags.access_reached scopes a
  reached_plain a = begun_plain (out-Access a).name (out-Access a).selectors (field_first (out-Access a).selectors)

-- ---- scopes that are alike

module _ (x y : List Region) (alike : Alike x y) where
  pub same_reached : (a : Access) → tags.access_reached x a ≡ tags.access_reached y a
  same_reached a = sym (reached_plain x a) ∙ (ap (λ s. tags.access_reached s a) alike ∙ reached_plain y a)

  pub same_tag : (a : Access) → tags.is_tag x a ≡ tags.is_tag y a
  same_tag a = ap (λ r. option_map_or (λ (t : Reached). t.is_tag) r false) (same_reached a)

  pub same_composition : (k : Kind) → tags.composition_of x k ≡ tags.composition_of y k
  same_composition k = sym (composition_plain x k) ∙ (ap (λ s. tags.composition_of s k) alike ∙ composition_plain y k)

-- one more open record with the same fields
within_plain : (r : OpenRecord) (scopes : List Region) → plain (within r scopes) ≡ within (plain_record r) (plain scopes)
within_plain r [] = refl
within_plain r (g ∷ gs) = refl

within_alike : (q r : OpenRecord) (x y : List Region) → q.fields ≡ r.fields → Alike x y → Alike (within q x) (within r y)
within_alike q r x y same alike =
    within_plain q x
    ∙ (ap (λ fs. within (record { variable = OfRoutine 0 0; guarded = protection.Unprotected; fields = fs }) (plain x)) same ∙ (ap (within (plain_record r)) alike ∙ sym (within_plain r y)))

-- ---- records of `with`

module _ (c : Context) (scopes : List Region) where
  -- a record is one that is said of its access
  module _ (a : Access) (o : Opened) where
    abbrev IsNamed : RecordNamed → Type 0
    IsNamed n = when_some (tags.access_reached o.scopes a) (λ r. tags.composition_of c.scopes r.kind) ≡ Some (composition.Record n.fields)

    made_named : (n : ℕ) (guarded : Protection) (form : Option Expr) (k : Option Composition) → when_some (tags.access_reached o.scopes a) (λ r. tags.composition_of c.scopes r.kind) ≡ k → Fits IsNamed (record_made n guarded form k)
    made_named n guarded form None e = tt
    made_named n guarded form (Some (composition.Array b)) e = tt
    made_named n guarded form (Some (composition.Record fs)) e = e

    kind_named : (guarded : Protection) (form : Option Expr) (k : Kind) → when_some (tags.access_reached o.scopes a) (λ r. tags.composition_of c.scopes r.kind) ≡ tags.composition_of c.scopes k → Fits IsNamed (record_of_kind c.scopes guarded form k)
    kind_named guarded form (kind.Structured n) e = made_named n guarded form (structure_in c.scopes n) e
    kind_named guarded form (kind.Ordinal h) e = tt
    kind_named guarded form (kind.Set h) e = tt
    kind_named guarded form kind.EmptySet e = tt
    kind_named guarded form kind.Text e = tt
    kind_named guarded form kind.File e = tt

    -- a variable has the kind that is said of it
    its_kind : (r : Option Reached) (t : Typed) → IsReached r t → IsVariable false t.access → when_some r (λ x. tags.composition_of c.scopes x.kind) ≡ tags.composition_of c.scopes t.kind
    its_kind None t h v = absurd (never_both false t.access h v)
    its_kind (Some x) t h v = ap (tags.composition_of c.scopes) (sym h.0)

    accessed_named : (of : accessing.Access) (form : Option Expr) (k : Kind) → (IsVariable false of → when_some (tags.access_reached o.scopes a) (λ r. tags.composition_of c.scopes r.kind) ≡ tags.composition_of c.scopes k) → Fits IsNamed (record_accessed c.scopes of form k)
    accessed_named (access.Variable of guarded) form k e = kind_named guarded form k (e refl)
    accessed_named (access.Tag of guarded tag) form k e = tt
    accessed_named access.File form k e = tt
    accessed_named access.Constant form k e = tt
    accessed_named access.Value form k e = tt

    record_named : Fits IsNamed (when_accepted (λ t. record_accessed c.scopes t.access t.form t.kind) (name_judged o.scopes a))
    record_named =
        fits_then (IsReached (tags.access_reached o.scopes a)) IsNamed (λ t. record_accessed c.scopes t.access t.form t.kind) (name_judged o.scopes a) (access_reached o.scopes a)
        (λ t h. accessed_named t.access t.form t.kind (λ v. its_kind (tags.access_reached o.scopes a) t h v))

    module _ (alike : Alike scopes c.scopes) (inner : List Region) (inside : Alike inner o.scopes) where
      abbrev IsAlike : Opened → Type 0
      IsAlike p = Alike (tags.record_within scopes a inner) p.scopes

      reached_record : (r : Option Reached) → when_some r (λ x. tags.composition_of scopes x.kind) ≡ when_some r (λ x. tags.composition_of c.scopes x.kind)
      reached_record None = refl
      reached_record (Some x) = same_composition scopes c.scopes alike x.kind

      said : (n : RecordNamed) → IsNamed n → when_some (tags.access_reached inner a) (λ r. tags.composition_of scopes r.kind) ≡ Some (composition.Record n.fields)
      said n e = ap (λ r. when_some r (λ (x : Reached). tags.composition_of scopes x.kind)) (same_reached inner o.scopes inside a) ∙ (reached_record (tags.access_reached o.scopes a) ∙ e)

      one_alike : (n : RecordNamed) → IsNamed n → IsAlike (one_opened c.locals o n)
      one_alike n e =
          subst (λ k. Alike (tags.one_within k inner) (one_opened c.locals o n).scopes) (sym (said n e))
          (within_alike (record { variable = OfRoutine 0 0; guarded = protection.Unprotected; fields = n.fields }) (record { variable = block_variable c.locals o.withs; guarded = n.guarded; fields = n.fields }) inner o.scopes refl inside)

      record_alike : Fits IsAlike (record_opened c a o)
      record_alike = fits_then IsNamed IsAlike (λ r. Accepts (one_opened c.locals o r)) (when_accepted (λ t. record_accessed c.scopes t.access t.form t.kind) (name_judged o.scopes a)) record_named one_alike

  module _ (alike : Alike scopes c.scopes) where
    records_alike : (accesses : List Access) (o : Opened) (inner : List Region) → Alike inner o.scopes → Fits (λ p. Alike (tags.records_within scopes accesses inner) p.scopes) (records_opened c accesses o)
    records_alike [] o inner inside = inside
    records_alike (a ∷ more) o inner inside =
        fits_then (IsAlike a o alike inner inside) (λ p. Alike (tags.records_within scopes more (tags.record_within scopes a inner)) p.scopes) (records_opened c more) (record_opened c a o) (record_alike a o alike inner inside)
        (λ p q. records_alike more p (tags.record_within scopes a inner) q)

    -- where all of them are open the scopes are alike
    pub opened_alike : (accesses : List Access) → Fits (λ p. Alike (tags.records_within scopes accesses scopes) p.scopes) (records_opened c accesses (none_opened c))
    opened_alike accesses = records_alike accesses (none_opened c) scopes alike
