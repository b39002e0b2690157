-- How a declaration leads from one block to the next: the lists grow, and where the unit has what is in the later block, it holds the later block if it holds the earlier one.
use Rattle.std.proofs.Common.{◌≡◌, ℕ, Bool, true, false, List, [], ◌∷◌, ◌++◌, map, length, Option, Some, None, slice_get, refl, sym, ◌∙◌, subst}
use Rattle.std.specs.Option.{option_or}
use Rattle.ep_outside.specs.Known.{IsPrefix}
use Rattle.ep_typed.specs.Routines.{formal_variable}
use Rattle.ep_typed.specs.declared.unit.Unit.{Unit as TypedUnit}
use Rattle.ep_typed.specs.declared.unit.UnitVariable.{UnitVariable}
use Rattle.ep_scope.specs.declared.thing.Thing.{Thing}
use Rattle.ep_rules.specs.Judgements.{Judged, Accepts, Breaks, when_accepted}
use Rattle.ep_stmt_rules.proofs.public.judged.Fits.{Any, Fits, fits_any, fits_then}
use Rattle.ep_unit_rules.specs.Types.{type_denoter}
use Rattle.ep_check_unit.specs.Declarations.{entered, noted, unused, with_name}
use Rattle.ep_unit_rules.specs.Formals.{formal_of}
use Rattle.ep_unit_rules.specs.Numbers.{has_number}
use Rattle.ep_check_unit.specs.Blocks.{Block, RoutineForm, routine_form}
use Rattle.ep_check_unit.specs.declared.block.Forward.{Forward}
use Rattle.ep_unit_rules.specs.declared.own.OwnResult.{OwnResult}
use Rattle.ep_unit_rules.specs.declared.own.OwnVariables.{OwnVariables}
use Rattle.ep_unit_laws.proofs.Holds.{Head, Holds, HoldsThing, head_of, innermost, levels_at, things_push}
use Rattle.ep_unit_laws.proofs.Prefixes.{prefix_front, prefix_refl, prefix_trans}
use Rattle.ep_unit_laws.proofs.Open.{IsOpen, IsThingOf, KeepsBodies, open_push}

-- the heading of a routine, and the routines around it
abbrev pub head_in : RoutineForm → Head
head_in r = (record { name = r.name; formals = r.formals; result = r.result }, r.around)

-- the variable of this name that has the result of a function, which is declared on this line
abbrev pub result_in : ℕ → List ℕ → Option OwnResult → List UnitVariable
result_in line name None = []
result_in line name (Some r) = record { name = name; line = line; declaration = 0; denoter = type_denoter r.of.name; tuple = []; parameter = false } ∷ []

-- the variables of a routine that is declared on this line, where that of its result has this name
abbrev pub variables_in : ℕ → List ℕ → OwnVariables → List UnitVariable
variables_in line name own = map (formal_variable line) (map formal_of own.parameters) ++ (result_in line name own.result ++ own.variables)

own_prefix : (line : ℕ) (name : List ℕ) (a b : OwnVariables) → b.parameters ≡ a.parameters → b.result ≡ a.result → IsPrefix a.variables b.variables → IsPrefix (variables_in line name a) (variables_in line name b)
own_prefix line name a b same same_result p =
    let front = map (formal_variable line) (map formal_of a.parameters) in
    subst (λ ps. IsPrefix (variables_in line name a) (map (formal_variable line) (map formal_of ps) ++ (result_in line name b.result ++ b.variables))) (sym same)
    (subst (λ r. IsPrefix (variables_in line name a) (front ++ (result_in line name r ++ b.variables))) (sym same_result)
    (prefix_front front (result_in line name a.result ++ a.variables) (result_in line name a.result ++ b.variables) (prefix_front (result_in line name a.result) a.variables b.variables p)))

-- the block's lists have grown, and an item that waited waits
pub record Grows (b c : Block) : Type 0 where
  pub types : IsPrefix b.types c.types
  pub constants : IsPrefix b.constants c.constants
  pub variables : IsPrefix b.variables c.variables
  pub own : IsPrefix b.own.variables c.own.variables
  pub parameters : c.own.parameters ≡ b.own.parameters
  pub result : c.own.result ≡ b.own.result
  pub enclosing : c.own.enclosing ≡ b.own.enclosing
  -- no scope around this one changes
  pub outer : c.scopes.outer ≡ b.scopes.outer
  -- outside of routines no variable of a routine is added
  pub alone : b.own.enclosing ≡ [] → c.own ≡ b.own
  -- a heading stays as it is, and so does what is around its routine
  pub headings : IsPrefix (map head_in b.routines) (map head_in c.routines)
  pub waits : c.waits ≡ None → b.waits ≡ None
  -- what is declared is still numbered behind the routines under way, and what has its body keeps it
  pub opens : IsOpen b → IsOpen c
  pub bodies : IsOpen b → KeepsBodies b c

-- A block that this one grows into, with why it does: `record (stays b) { to = c; .. }` tells what differs.
pub record Growth (b : Block) : Type 0 where
  pub to : Block
  pub types : IsPrefix b.types to.types
  pub constants : IsPrefix b.constants to.constants
  pub variables : IsPrefix b.variables to.variables
  pub own : IsPrefix b.own.variables to.own.variables
  pub parameters : to.own.parameters ≡ b.own.parameters
  pub result : to.own.result ≡ b.own.result
  pub enclosing : to.own.enclosing ≡ b.own.enclosing
  pub outer : to.scopes.outer ≡ b.scopes.outer
  pub alone : b.own.enclosing ≡ [] → to.own ≡ b.own
  pub headings : IsPrefix (map head_in b.routines) (map head_in to.routines)
  pub waits : to.waits ≡ None → b.waits ≡ None
  pub opens : IsOpen b → IsOpen to
  pub bodies : IsOpen b → KeepsBodies b to

-- a block that stays as it is
abbrev pub stays : (b : Block) → Growth b
stays b = record {
  to = b;
  types = prefix_refl b.types;
  constants = prefix_refl b.constants;
  variables = prefix_refl b.variables;
  own = prefix_refl b.own.variables;
  parameters = refl;
  result = refl;
  enclosing = refl;
  outer = refl;
  alone = λ e. refl;
  headings = prefix_refl (map head_in b.routines);
  waits = λ w. w;
  opens = λ x. x;
  bodies = λ x n r has at. (has, at);
}

pub grown : (b : Block) (g : Growth b) → Grows b g.to
grown b g = record {
  types = g.types;
  constants = g.constants;
  variables = g.variables;
  own = g.own;
  parameters = g.parameters;
  result = g.result;
  enclosing = g.enclosing;
  outer = g.outer;
  alone = g.alone;
  headings = g.headings;
  waits = g.waits;
  opens = g.opens;
  bodies = g.bodies;
}

pub grows_refl : (b : Block) → Grows b b
grows_refl b = grown b (stays b)

bodies_trans : (b c d : Block) → KeepsBodies b c → KeepsBodies c d → KeepsBodies b d
bodies_trans b c d p q = λ n r has at. let k = p n r has at in q n r k.0 k.1

pub grows_trans : (b c d : Block) → Grows b c → Grows c d → Grows b d
grows_trans b c d p q = record {
  types = prefix_trans b.types c.types d.types p.types q.types;
  constants = prefix_trans b.constants c.constants d.constants p.constants q.constants;
  variables = prefix_trans b.variables c.variables d.variables p.variables q.variables;
  own = prefix_trans b.own.variables c.own.variables d.own.variables p.own q.own;
  parameters = q.parameters ∙ p.parameters;
  result = q.result ∙ p.result;
  enclosing = q.enclosing ∙ p.enclosing;
  outer = q.outer ∙ p.outer;
  alone = λ e. q.alone (p.enclosing ∙ e) ∙ p.alone e;
  headings = prefix_trans (map head_in b.routines) (map head_in c.routines) (map head_in d.routines) p.headings q.headings;
  waits = λ w. p.waits (q.waits w);
  opens = λ x. q.opens (p.opens x);
  bodies = λ x. bodies_trans b c d (p.bodies x) (q.bodies (p.opens x));
}

-- an item that is not built makes the block wait
pub waits_some : (o : Option ℕ) (line : ℕ) → option_or o (Some line) ≡ None → ⊥
waits_some None line e = cc
waits_some (Some other) line e = cc

pub noted_grows : (built : Bool) (line : ℕ) (b : Block) → Grows b (noted built line b)
noted_grows true line b = grows_refl b
noted_grows false line b = grown b (record (stays b) { to = noted false line b; waits = λ w. absurd (waits_some b.waits line w) })

-- one name more
pub named_grows : (name : List ℕ) (t : Thing) (b : Block) → (IsOpen b → IsThingOf b.own.enclosing (length b.routines) t) → Grows b (with_name name t b)
named_grows name t b numbered =
    grown b (record (stays b) { to = with_name name t b; opens = λ x. open_push b.scopes.inner.entries b.scopes.outer b.own.enclosing (length b.routines) b.bodies name t (numbered x) x })

module _ (u : TypedUnit) where
  -- the unit has what is in the block's lists, and the routine under way its variables
  pub record Extends (c : Block) : Type 0 where
    pub types : IsPrefix c.types u.types
    pub constants : IsPrefix c.constants u.constants
    pub variables : IsPrefix c.variables u.variables
    -- the line of the routine's declaration
    pub line : ℕ
    -- the name of the variable that has its result
    pub name : List ℕ
    pub own : IsPrefix (variables_in line name c.own) (innermost (levels_at u.routines c.own.enclosing))
    pub headings : IsPrefix (map head_in c.routines) (map head_of u.routines)
    -- a routine that has its body is that of the unit
    pub bodies : (n : ℕ) (r : RoutineForm) → has_number n c.bodies ≡ true → slice_get c.routines n ≡ Some r → slice_get (map routine_form u.routines) n ≡ Some r

  -- so it has what was in them before
  pub extends_before : (b c : Block) → Grows b c → IsOpen b → Extends c → Extends b
  extends_before b c g under e = record {
    types = prefix_trans b.types c.types u.types g.types e.types;
    constants = prefix_trans b.constants c.constants u.constants g.constants e.constants;
    variables = prefix_trans b.variables c.variables u.variables g.variables e.variables;
    line = e.line;
    name = e.name;
    own = subst (λ es. IsPrefix (variables_in e.line e.name b.own) (innermost (levels_at u.routines es))) g.enclosing
        (prefix_trans (variables_in e.line e.name b.own) (variables_in e.line e.name c.own) (innermost (levels_at u.routines c.own.enclosing)) (own_prefix e.line e.name b.own c.own g.parameters g.result g.own) e.own);
    headings = prefix_trans (map head_in b.routines) (map head_in c.routines) (map head_of u.routines) g.headings e.headings;
    bodies = λ n r has at. let k = g.bodies under n r has at in e.bodies n r k.0 k.1;
  }

  -- ---- whole declarations

  pub record Leads (b c : Block) : Type 0 where
    pub grows : Grows b c
    pub holds : IsOpen b → Extends c → c.waits ≡ None → Holds u (length b.types) b → Holds u (length c.types) c

  pub leads_refl : (b : Block) → Leads b b
  leads_refl b = record { grows = grows_refl b; holds = λ under e w h. h }

  pub leads_trans : (b c d : Block) → Leads b c → Leads c d → Leads b d
  leads_trans b c d p q = record {
    grows = grows_trans b c d p.grows q.grows;
    holds = λ under e w h. q.holds (p.grows.opens under) e w (p.holds under (extends_before c d q.grows (p.grows.opens under) e) (q.grows.waits w) h);
  }

  pub leads_on : (b c : Block) (j : Judged Block) → Leads b c → Fits (Leads c) j → Fits (Leads b) j
  leads_on b c (Accepts d) p q = leads_trans b c d p q
  leads_on b c (Breaks rules) p q = tt

  -- one after another
  pub leads_then : (b : Block) (f : Block → Judged Block) (j : Judged Block) → Fits (Leads b) j → ((c : Block) → Fits (Leads c) (f c)) → Fits (Leads b) (when_accepted f j)
  leads_then b f j h g = fits_then (Leads b) (Leads b) f j h (λ c p. leads_on b c (f c) p (g c))

  -- an item that may not be built
  pub noted_leads : (built : Bool) (line : ℕ) (b c : Block) → (built ≡ true → Leads b c) → Grows b c → Leads b (noted built line c)
  noted_leads true line b c h g = h refl
  noted_leads false line b c h g = record {
    grows = grows_trans b c (noted false line c) g (noted_grows false line c);
    holds = λ under e w x. absurd (waits_some c.waits line w);
  }

  -- a block that differs in what it counts, and in which routines are to come
  pub counted_leads : (declarations : ℕ) (forwards : List Forward) (b : Block) → Leads b (record b { declarations = declarations; forwards = forwards })
  counted_leads declarations forwards b = record {
    grows = grown b (record (stays b) { to = record b { declarations = declarations; forwards = forwards } });
    holds = λ under e w x. record { unit = x.unit; names = x.names; lists = x.lists; under_way = x.under_way; routines = x.routines };
  }

  -- a name for something that the unit holds
  pub named_holds : (i : ℕ) (name : List ℕ) (t : Thing) (b : Block) → HoldsThing u b.own.enclosing i t → Holds u i b → Holds u i (with_name name t b)
  named_holds i name t b h x = record {
    unit = x.unit;
    names = record {
      things = things_push u b.own.enclosing i b.scopes.inner.entries name t x.things h;
      plain = x.plain;
      structures = x.structures;
      outer = x.outer;
    };
    lists = x.lists;
    under_way = x.under_way;
    routines = x.routines;
  }

  pub entered_leads : (name : List ℕ) (t : Thing) (b : Block) → (IsOpen b → IsThingOf b.own.enclosing (length b.routines) t) → (IsOpen b → Extends b → Holds u (length b.types) b → HoldsThing u b.own.enclosing (length b.types) t) → Fits (Leads b) (entered name t b)
  entered_leads name t b numbered h =
      fits_then Any (Leads b) (λ _. Accepts (with_name name t b)) (unused name b) (fits_any (unused name b))
      (λ a i. record {
        grows = named_grows name t b numbered;
        holds = λ under e w x. named_holds (length b.types) name t b (h under (extends_before b (with_name name t b) (named_grows name t b numbered) under e) x) x;
      })

  -- ---- declarations that leave the types as they are

  -- The first i types of the unit are there throughout, and P holds of them.
  pub record Enters (P : Type 0) (i : ℕ) (b c : Block) : Type 0 where
    pub grows : Grows b c
    pub same : c.types ≡ b.types
    pub holds : P → IsOpen b → Extends c → Holds u i b → Holds u i c

  pub enters_refl : (P : Type 0) (i : ℕ) (b : Block) → Enters P i b b
  enters_refl P i b = record { grows = grows_refl b; same = refl; holds = λ p under e x. x }

  pub enters_trans : (P : Type 0) (i : ℕ) (b c d : Block) → Enters P i b c → Enters P i c d → Enters P i b d
  enters_trans P i b c d p q = record {
    grows = grows_trans b c d p.grows q.grows;
    same = q.same ∙ p.same;
    holds = λ h under e x. q.holds h (p.grows.opens under) e (p.holds h under (extends_before c d q.grows (p.grows.opens under) e) x);
  }

  -- a name for something that the unit holds
  pub named_enters : (P : Type 0) (i : ℕ) (name : List ℕ) (t : Thing) (b : Block) → (IsOpen b → IsThingOf b.own.enclosing (length b.routines) t) → (P → Extends b → Holds u i b → HoldsThing u b.own.enclosing i t) → Enters P i b (with_name name t b)
  named_enters P i name t b numbered h = record {
    grows = named_grows name t b numbered;
    same = refl;
    holds = λ p under e x. named_holds i name t b (h p (extends_before b (with_name name t b) (named_grows name t b numbered) under e) x) x;
  }

  enters_on : (P : Type 0) (i : ℕ) (b c : Block) (j : Judged Block) → Enters P i b c → Fits (Enters P i c) j → Fits (Enters P i b) j
  enters_on P i b c (Accepts d) p q = enters_trans P i b c d p q
  enters_on P i b c (Breaks rules) p q = tt

  pub enters_then : (P : Type 0) (i : ℕ) (b : Block) (f : Block → Judged Block) (j : Judged Block) → Fits (Enters P i b) j → ((c : Block) → Fits (Enters P i c) (f c)) → Fits (Enters P i b) (when_accepted f j)
  enters_then P i b f j h g = fits_then (Enters P i b) (Enters P i b) f j h (λ c p. enters_on P i b c (f c) p (g c))
