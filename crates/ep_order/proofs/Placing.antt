-- Modules that are placed one behind the other are the beginning of an order, and with the program they are one.
use Rattle.std.proofs.Common.{◌≡◌, ℕ, ◌<◌, Bool, true, false, List, [], ◌∷◌, ◌++◌, length, ◌⊎◌, inl, inr, refl, sym, subst, ◌∙◌, ap, append_assoc, append-nil}
use Rattle.std.specs.List.{All, Contains}
use Rattle.std.proofs.lemmas.Option.{same_Some, slice_get_within}
use Rattle.std.proofs.lemmas.List.{map-append}
use Rattle.std.proofs.lemmas.List.Elements.{Contains-push, Contains-push_cases, Contains-append_left, All-push}
use Rattle.ep_order.specs.declared.dependent.Dependent.{Dependent}
use Rattle.ep_order.specs.Systems.{NamedUnit, IsModule, IsProgram, Supplies, IsUpTo}
use Rattle.ep_order.specs.Orders.{IsReady, IsNext, EachIsNext, IsOrder}
use Rattle.ep_order.specs.Dependents.{StandsAt, IsModuleAt, IsProgramAt, name_of, name_at, names_at, named, system_of, IsSystem}
use Rattle.ep_order.specs.Placings.{SuppliesAt, IsReadyAt, IsPlacing}
use Rattle.ep_order.proofs.Lists.{contains_map, all_from, contains_at}
use Rattle.ep_order.proofs.Naming.{one_place, has_name, unit_place, supplies_names, supplies_places, supplier_module, module_name, module_place, program_name, program_place, placed_place, module_within}
use Rattle.ep_order.proofs.public.Laws.{upto_itself}

-- one more that comes next
each_more : (units : List NamedUnit) (before names : List (List ℕ)) (name : List ℕ) → EachIsNext units before names → IsNext units (before ++ names) name → EachIsNext units before (names ++ name ∷ [])
each_more units before [] name h next = (subst (λ l. IsNext units l name) (append-nil before) next, tt)
each_more units before (n ∷ ns) name h next = (h.0, each_more units (before ++ n ∷ []) ns name h.1 (subst (λ l. IsNext units l name) (sym (append_assoc before (n ∷ []) ns)) next))

names_more : (units : List Dependent) (placed : List ℕ) (place : ℕ) → names_at units (placed ++ place ∷ []) ≡ names_at units placed ++ name_at units place ∷ []
names_more units placed place = map-append (name_at units) placed (place ∷ [])

module _ (units : List Dependent) (system : IsSystem units) (placed : List ℕ) (placing : IsPlacing units placed) where
  -- no place has both a module and a program
  not_both : (i k : ℕ) → IsModuleAt units i → IsProgramAt units k → ¬ (name_at units i ≡ name_at units k)
  not_both i k m p e =
      let same : i ≡ k = one_place units system i k m.0 p.0 m.1 p.1 e in
      let unit : m.0 ≡ p.0 = same_Some _ _ (sym (subst (λ n. StandsAt units n m.0) same m.1) ∙ p.1) in
      let no : false ≡ true = sym m.2 ∙ ap (λ (u : Dependent). u.is_program) unit ∙ p.2 in
      cc

  ready_name : (place : ℕ) → IsReadyAt units placed place → IsReady (system_of units) (names_at units placed) (name_at units place)
  ready_name place is = record {
    stands = has_name units place is.stands.0 is.stands.1;
    unplaced = λ has. is.unplaced (placed_place units system placed placing.modules place is.stands.0 is.stands.1 has);
    supplied = λ supplier h. let r = supplies_places units system supplier place is.stands.0 is.stands.1 h in subst (Contains (names_at units placed)) r.2 (contains_map (name_at units) placed r.0 (is.supplied r.0 r.1));
    last = λ h. let r = program_place units (name_at units place) h in absurd (not_both place r.0 is.stands r.1 (sym r.2));
  }

  -- a unit whose name may come next is a module that may, or else all modules are placed
  ready_place : (name : List ℕ) → IsReady (system_of units) (names_at units placed) name → ((place : ℕ) × IsReadyAt units placed place × (name_at units place ≡ name)) ⊎ IsProgram (system_of units) name
  ready_place name h = go (unit_place units h.stands.0 h.stands.1)
    where
      at : (place : ℕ) (unit : Dependent) (b : Bool) → StandsAt units place unit → name_at units place ≡ name → unit.is_program ≡ b → ((place : ℕ) × IsReadyAt units placed place × (name_at units place ≡ name)) ⊎ IsProgram (system_of units) name
      at place unit true stands e is = inr (subst (IsProgram (system_of units)) e (program_name units place (unit, stands, is)))
      at place unit false stands e is = inl (
        place,
        record {
          stands = (unit, stands, is);
          unplaced = λ has. h.unplaced (subst (Contains (names_at units placed)) e (contains_map (name_at units) placed place has));
          supplied = λ supplier s.
              let m = supplier_module units system supplier place s in
              placed_place units system placed placing.modules supplier m.0 m.1 (h.supplied (name_at units supplier) (subst (Supplies (system_of units) (name_at units supplier)) e (supplies_names units supplier place s)));
        },
        e,
      )

      go : (place : ℕ) × (unit : Dependent) × StandsAt units place unit × (named units unit ≡ h.stands.0) → ((place : ℕ) × IsReadyAt units placed place × (name_at units place ≡ name)) ⊎ IsProgram (system_of units) name
      go (place, unit, stands, e) = at place unit unit.is_program stands (ap name_of stands ∙ ap (λ (u : NamedUnit). u.name) e ∙ h.stands.2) refl

  -- the least module that may come next is the next one
  pub placing_more : (place : ℕ) → IsReadyAt units placed place → ((other : ℕ) → IsReadyAt units placed other → IsUpTo (name_at units place) (name_at units other)) → IsPlacing units (placed ++ place ∷ [])
  placing_more place is least = record {
    each = subst (EachIsNext (system_of units) []) (sym (names_more units placed place)) (each_more (system_of units) [] (names_at units placed) (name_at units place) placing.each next);
    modules = λ other has. elim (Contains-push_cases placed place other has) [ inl c ↦ placing.modules other c | inr e ↦ subst (IsModuleAt units) e is.stands ];
    closed = λ supplier other has s. Contains-append_left placed (place ∷ []) supplier (elim (Contains-push_cases placed place other has) [ inl c ↦ placing.closed supplier other c s | inr e ↦ is.supplied supplier (subst (SuppliesAt units supplier) (sym e) s) ]);
  }
    where
      next : IsNext (system_of units) (names_at units placed) (name_at units place)
      next = record {
        ready = ready_name place is;
        least = λ other h. elim (ready_place other h) [
          | inl r ↦ subst (IsUpTo (name_at units place)) r.2 (least r.0 r.1)
          | inr p ↦ absurd ((ready_name place is).unplaced (h.last p (name_at units place) (module_name units place is.stands)))
        ];
      }

  module _ (whole : (place : ℕ) → IsModuleAt units place → Contains placed place) where
    placed_within : All (λ place. place < length units) placed
    placed_within = all_from (λ place. place < length units) placed (λ i place e. module_within units place (placing.modules place (contains_at placed i place e)))

    -- the modules alone are an order where there is no program
    pub order_alone : ((place : ℕ) → ¬ IsProgramAt units place) → All (λ place. place < length units) placed × IsOrder (system_of units) (names_at units placed)
    order_alone none = (
      placed_within,
      record {
        each = placing.each;
        whole = all_from (λ (u : NamedUnit). Contains (names_at units placed) u.name) (system_of units) (λ i u e. go u (unit_place units u (contains_at (system_of units) i u e)));
      },
    )
      where
        at : (place : ℕ) (unit : Dependent) (b : Bool) → StandsAt units place unit → unit.is_program ≡ b → Contains (names_at units placed) (name_at units place)
        at place unit true stands is = absurd (none place (unit, stands, is))
        at place unit false stands is = contains_map (name_at units) placed place (whole place (unit, stands, is))

        go : (u : NamedUnit) → (place : ℕ) × (unit : Dependent) × StandsAt units place unit × (named units unit ≡ u) → Contains (names_at units placed) u.name
        go u (place, unit, stands, e) = subst (Contains (names_at units placed)) (ap name_of stands ∙ ap (λ (v : NamedUnit). v.name) e) (at place unit unit.is_program stands refl)

    -- and with the program behind them where there is one
    pub order_with : (program : ℕ) → IsProgramAt units program → All (λ place. place < length units) (placed ++ program ∷ []) × IsOrder (system_of units) (names_at units (placed ++ program ∷ []))
    order_with program p = (
      within,
      record {
        each = subst (EachIsNext (system_of units) []) (sym (names_more units placed program)) (each_more (system_of units) [] (names_at units placed) (name_at units program) placing.each next);
        whole = all_from (λ (u : NamedUnit). Contains (names_at units (placed ++ program ∷ [])) u.name) (system_of units) (λ i u e. go u (unit_place units u (contains_at (system_of units) i u e)));
      },
    )
      where
        within : All (λ place. place < length units) (placed ++ program ∷ [])
        within = All-push (λ place. place < length units) placed program placed_within (slice_get_within units program p.0 p.1)

        all_modules : (other : List ℕ) → IsModule (system_of units) other → Contains (names_at units placed) other
        all_modules other m = let r = module_place units other m in subst (Contains (names_at units placed)) r.2 (contains_map (name_at units) placed r.0 (whole r.0 r.1))

        next : IsNext (system_of units) (names_at units placed) (name_at units program)
        next = record {
          ready = record {
            stands = has_name units program p.0 p.1;
            unplaced = λ has. let r = placed_place units system placed placing.modules program p.0 p.1 has in not_both program program (placing.modules program r) p refl;
            supplied = λ supplier h. let r = supplies_places units system supplier program p.0 p.1 h in subst (Contains (names_at units placed)) r.2 (contains_map (name_at units) placed r.0 (whole r.0 (supplier_module units system r.0 program r.1)));
            last = λ _ other m. all_modules other m;
          };
          least = λ other h. elim (ready_place other h) [
            | inl r ↦ absurd (r.1.unplaced (whole r.0 r.1.stands))
            | inr q ↦
                let r = program_place units other q in
                let same : program ≡ r.0 = system.one_program program r.0 p.0 r.1.0 p.1 r.1.1 p.2 r.1.2 in
                subst (IsUpTo (name_at units program)) (ap (name_at units) same ∙ r.2) (upto_itself (name_at units program))
          ];
        }

        at : (place : ℕ) (unit : Dependent) (b : Bool) → StandsAt units place unit → unit.is_program ≡ b → Contains (placed ++ program ∷ []) place
        at place unit true stands is = subst (Contains (placed ++ program ∷ [])) (system.one_program program place p.0 unit p.1 stands p.2 is) (Contains-push placed program)
        at place unit false stands is = Contains-append_left placed (program ∷ []) place (whole place (unit, stands, is))

        go : (u : NamedUnit) → (place : ℕ) × (unit : Dependent) × StandsAt units place unit × (named units unit ≡ u) → Contains (names_at units (placed ++ program ∷ [])) u.name
        go u (place, unit, stands, e) = subst (Contains (names_at units (placed ++ program ∷ []))) (ap name_of stands ∙ ap (λ (v : NamedUnit). v.name) e) (contains_map (name_at units) (placed ++ program ∷ []) place (at place unit unit.is_program stands refl))
