-- Statements that the rules accept are valid under declarations that hold what the scopes declare.
use Rattle.std.proofs.Common.{◌≡◌, ℕ, Bool, true, false, List, [], ◌∷◌, map, Option, Some, None, refl, sym, ap, ◌∙◌, subst}
use Rattle.std.specs.Prelude.{⊤}
use Rattle.std.specs.Option.{option_map}
use Rattle.ep_tree.specs.Nodes.{argument_node}
use Rattle.ep_tree.specs.declared.expression.Access.{out-Access}
use Rattle.ep_tree.specs.declared.expression.Access as syntax
use Rattle.ep_tree.specs.declared.expression.Argument.{Argument, out-Argument, roll-out-Argument}
use Rattle.ep_tree.specs.declared.expression.Expression.{Expression}
use Rattle.ep_tree.specs.declared.expression.Label.{Label}
use Rattle.ep_tree.specs.declared.statement.Arm.{Arm, map-Arm, roll-Arm}
use Rattle.ep_tree.specs.declared.statement.Compound.{Compound, map-Compound, roll-Compound}
use Rattle.ep_tree.specs.declared.statement.Otherwise.{Otherwise, map-Otherwise, roll-Otherwise}
use Rattle.ep_tree.specs.declared.statement.Statement.{Statement, map-Statement, roll-Statement}
use Rattle.ep_tree.specs.declared.statement.Statement.TheFolds.{fold-roll-Arm, fold-roll-Compound, fold-roll-Otherwise, fold-roll-Statement, ind-Compound}
use Rattle.ep_tree.specs.declared.statement.Statement.TheOpen.{Statement-F, Arm-F, Compound-F, Otherwise-F}
use Rattle.ep_typed.specs.Auxiliaries.{first_for, first_for_in, first_for_in_of, first_for_of, with_variables, with_variables_in, with_variables_of}
use Rattle.ep_typed.specs.Hosts as typed
use Rattle.ep_typed.specs.Trees as tree
use Rattle.ep_typed.specs.Trees.{Entire, Actual, Callee, Expr, Item, Other, Stmt, Stmts, WithRecord, with_form}
use Rattle.ep_meaning.specs.Valid as valid
use Rattle.ep_meaning.specs.Valid.{AreItems, Declarations, IsExpr, IsItem, IsStmt, WritesSomething, printed_kind}
use Rattle.ep_values.specs.declared.operations.Print.{Print}
use Rattle.ep_typed.specs.declared.tree.StandardFile.{StandardFile}
use Rattle.ep_typed.specs.declared.tree.StandardFile.TheVariants as file
use Rattle.ep_scope.specs.Scopes.{Region, Meant, Declares, Standard, Requires, FieldOf, Nothing, depth_in, meant}
use Rattle.ep_scope.specs.declared.structure.StructuredType.{StructuredType}
use Rattle.ep_scope.specs.declared.kind.Host.{Host}
use Rattle.ep_scope.specs.declared.kind.Host.TheVariants as host
use Rattle.ep_scope.specs.declared.kind.Kind.{Kind}
use Rattle.ep_scope.specs.declared.kind.Kind.TheVariants as kind
use Rattle.ep_scope.specs.declared.parameter.FormalParameter.{FormalParameter}
use Rattle.ep_scope.specs.declared.required.Procedure.{Procedure}
use Rattle.ep_scope.specs.declared.required.Procedure.TheVariants as procedure
use Rattle.ep_scope.specs.declared.required.Required.{Required}
use Rattle.ep_scope.specs.declared.required.Required.TheVariants as required
use Rattle.ep_scope.specs.declared.thing.Declaration.{Declaration}
use Rattle.ep_scope.specs.declared.thing.Declaration.TheVariants as declaration
use Rattle.ep_scope.specs.declared.thing.Declared.{Declared}
use Rattle.ep_expr_laws.specs.Agreement.{Agrees, AreActuals, IsDeclaration, IsFormOf, IsProcedureOf, TypeValues, structures_of}
use Rattle.ep_rules.specs.Arguments.{Taken, arguments_judged, callee_at}
use Rattle.ep_check_expr.specs.Expressions.{given, judged}
use Rattle.ep_rules.specs.Functions.{Given}
use Rattle.ep_rules.specs.Hosts.{typed_host}
use Rattle.ep_rules.specs.Judgements.{Judged, Accepts, Breaks, Typed, when_accepted}
use Rattle.ep_expr_laws.specs.Laws.{ArgumentsAreSound, ExpressionsAreSound, LabelsAreSound, ValuesAreSound, VariablesAreSound}
use Rattle.ep_expr_laws.proofs.public.Meant.{IsMeant, meant-declared}
use Rattle.ep_check_expr.proofs.public.Nodes.{argument-judged, wide-judged}
use Rattle.ep_expr_laws.proofs.public.Passing.{IfForm}
use Rattle.ep_stmt_rules.specs.Cases.{CaseSelector, labelled, selecting, selector_judged}
use Rattle.ep_stmt_laws.specs.Laws.{ResultsAreThere, StatementsAreSound}
use Rattle.ep_stmt_rules.specs.Statements.{ArmJudged, Context, Judgement, Passes, Shown, Under, after, arm_judged, arms_in_order, at_arm, at_compound, at_item, at_otherwise, at_statement, available, call_arguments, call_judged, case_judged, compound_under, condition, condition_judged, declared_called, expr_item, expr_threat, falls_by, file_given, formed, if_judged, in_order, item_form, item_judged, items_judged, measured, name_called, one_more, own_called, otherwise_judged, procedure_called, required_called, shown, something, statement_judged, stmt_item, stmt_threat, tested, to_file, unless_threatening, usually_written, width_judged, write_judged, written, written_or, Waits, Fails, Opened, behind, heads_threat, inside, none_opened, records_opened, with_judged}
use Rattle.ep_stmt_rules.proofs.public.judged.Fits.{Any, Fits, fits_any, fits_both, fits_is, fits_pair, fits_then, fits_weaker}
use Rattle.ep_stmt_laws.proofs.valid.Passing.{FitsRow, after_fits, behind_fits, fits_if, form_if, formed_fits, item_fits, unthreatening_fits}
use Rattle.ep_stmt_laws.proofs.valid.Assignments.{IsAssigned, assignment_fits}
use Rattle.ep_stmt_laws.proofs.valid.Loops.{for_fits, for_in_fits}
use Rattle.ep_stmt_laws.proofs.valid.Sound.{Agreed, AreSound, IsSound, OtherIsSound, agrees_in, behind_withs, first_part, second_part}
use Rattle.ep_stmt_laws.proofs.valid.Cases.{BodiesFit, IsSelected, labelled_fits, labels_in, row_fits as arms_row_fits}
use Rattle.ep_stmt_laws.proofs.valid.Withs.{IfBuilt, IsOpened, nested_sound, opened_fits}

-- the two parts of an argument of a call
node_is : (scopes : List Region) (line : ℕ) (e : Expression) (w : Option Expression) → given scopes (argument_node line e w) ≡ record { value = judged scopes e; width = option_map (judged scopes) w }
node_is scopes line e None = argument-judged scopes line e
node_is scopes line e (Some w) = wide-judged scopes line e w

argument_is : (scopes : List Region) (a : Argument) → given scopes a ≡ record { value = judged scopes (out-Argument a).value; width = option_map (judged scopes) (out-Argument a).width }
argument_is scopes a = ap (given scopes) (sym (roll-out-Argument a)) ∙ node_is scopes (out-Argument a).line (out-Argument a).value (out-Argument a).width

module _ (declared : Declarations) (expressions : ExpressionsAreSound) (passed : ArgumentsAreSound) (values : ValuesAreSound) (labels : LabelsAreSound) (variables : VariablesAreSound) (scopes : List Region) (agrees : Agrees declared scopes) where
  -- the array types in view
  abbrev structures : List StructuredType
  structures = structures_of scopes

  -- a typed form is valid
  abbrev IsSoundForm : Typed → Type 0
  IsSoundForm t = IsFormOf declared agrees.0 structures t.kind t.form

  expression_fits : (e : Expression) → Fits IsSoundForm (judged scopes e)
  expression_fits e = go (judged scopes e) refl
    where
      go : (j : Judged Typed) → judged scopes e ≡ j → Fits IsSoundForm j
      go (Accepts t) is = expressions scopes e t is declared agrees.0 agrees.1
      go (Breaks rules) is = tt

  -- ---- conditions

  tested_fits : (k : Kind) (form : Option Expr) → IsFormOf declared agrees.0 structures k form → Fits (IfForm (IsExpr declared (valid.Ordinal typed.Boolean))) (tested k form)
  tested_fits (kind.Ordinal host.Boolean) None h = tt
  tested_fits (kind.Ordinal host.Boolean) (Some x) h = h.1
  tested_fits (kind.Ordinal host.Integer) form h = tt
  tested_fits (kind.Ordinal host.Char) form h = tt
  tested_fits (kind.Ordinal (host.Enumeration e)) form h = tt
  tested_fits (kind.Structured n) form h = tt
  tested_fits (kind.Set base) form h = tt
  tested_fits kind.EmptySet form h = tt
  tested_fits kind.Text form h = tt
  tested_fits kind.File form h = tt

  condition_fits : (c : Context) → c.scopes ≡ scopes → (controls : List Entire) (line : ℕ) (e : Expression) → FitsRow (IsExpr declared (valid.Ordinal typed.Boolean)) (condition_judged c controls line e)
  condition_fits c is controls line e =
      subst (λ s. FitsRow (IsExpr declared (valid.Ordinal typed.Boolean)) (at_item line (expr_item c controls (condition (judged s e))))) (sym is)
      (item_fits (IsExpr declared (valid.Ordinal typed.Boolean)) line (expr_item c controls (condition (judged scopes e)))
      (unthreatening_fits (IsExpr declared (valid.Ordinal typed.Boolean)) (expr_threat c.callees) controls (condition (judged scopes e))
      (fits_then IsSoundForm (IfForm (IsExpr declared (valid.Ordinal typed.Boolean))) (λ v. tested v.kind v.form) (judged scopes e) (expression_fits e) (λ t h. tested_fits t.kind t.form h))))

  -- ---- statements without statements inside

  -- one that is valid, inside of `for` statements
  stmt_fits : (c : Context) (controls : List Entire) (line : ℕ) (j : Judged (Option Stmt)) → Fits (IfForm (IsStmt declared)) j → FitsRow (IsStmt declared) (stmt_item c controls line j)
  stmt_fits c controls line j h = item_fits (IsStmt declared) line (unless_threatening (stmt_threat c.callees) controls j) (unthreatening_fits (IsStmt declared) (stmt_threat c.callees) controls j h)

  -- how many routines are around the statements
  abbrev depth : ℕ
  depth = depth_in scopes

  -- ---- `write` and `writeln`

  -- the form is of the kind that is printed so
  abbrev IsShown : Shown → Type 0
  IsShown s = IfForm (IsExpr declared (printed_kind s.print)) s.form

  ordinal_form : (h : Host) (form : Option Expr) → IsFormOf declared agrees.0 structures (kind.Ordinal h) form → IfForm (IsExpr declared (valid.Ordinal (typed_host h))) form
  ordinal_form h None f = tt
  ordinal_form h (Some x) f = f.1

  text_form : (form : Option Expr) → IsFormOf declared agrees.0 structures kind.Text form → IfForm (IsExpr declared valid.Bytes) form
  text_form None f = tt
  text_form (Some x) f = f

  shown_by : (k : Kind) (form : Option Expr) (t : Typed) → t.form ≡ form → t.kind ≡ k → IsFormOf declared agrees.0 structures k form → Fits IsShown (shown t)
  shown_by (kind.Ordinal host.Integer) form t e g f = rw (e, g) (ordinal_form host.Integer form f)
  shown_by (kind.Ordinal host.Char) form t e g f = rw (e, g) (ordinal_form host.Char form f)
  shown_by (kind.Ordinal host.Boolean) form t e g f = rw (e, g) (ordinal_form host.Boolean form f)
  shown_by (kind.Ordinal (host.Enumeration n)) form t e g f = rw (e, g) tt
  shown_by (kind.Structured n) form t e g f = rw (e, g) tt
  shown_by (kind.Set base) form t e g f = rw (e, g) tt
  shown_by kind.EmptySet form t e g f = rw (e, g) tt
  shown_by kind.Text form t e g f = rw (e, g) (text_form form f)
  shown_by kind.File form t e g f = rw (e, g) tt

  -- a width is an integer, where it is there
  abbrev IsWidth : Option (Option Expr) → Type 0
  IsWidth None = ⊤
  IsWidth (Some form) = IfForm (IsExpr declared (valid.Ordinal typed.Integer)) form

  measured_fits : (k : Kind) (form : Option Expr) → IsFormOf declared agrees.0 structures k form → Fits (IfForm (IsExpr declared (valid.Ordinal typed.Integer))) (measured k form)
  measured_fits (kind.Ordinal host.Integer) form f = ordinal_form host.Integer form f
  measured_fits (kind.Ordinal host.Char) form f = tt
  measured_fits (kind.Ordinal host.Boolean) form f = tt
  measured_fits (kind.Ordinal (host.Enumeration n)) form f = tt
  measured_fits (kind.Structured n) form f = tt
  measured_fits (kind.Set base) form f = tt
  measured_fits kind.EmptySet form f = tt
  measured_fits kind.Text form f = tt
  measured_fits kind.File form f = tt

  width_fits : (w : Option Expression) → Fits IsWidth (width_judged (option_map (judged scopes) w))
  width_fits None = tt
  width_fits (Some e) =
      fits_then IsSoundForm IsWidth _ (judged scopes e) (expression_fits e)
      (λ t h. fits_then (IfForm (IsExpr declared (valid.Ordinal typed.Integer))) IsWidth (λ form. Accepts (Some form)) (measured t.kind t.form) (measured_fits t.kind t.form h) (λ form p. p))

  item_form_fits : (how : Print) (form : Option Expr) (width : Option (Option Expr)) → IfForm (IsExpr declared (printed_kind how)) form → IsWidth width → IfForm (IsItem declared) (item_form how form width)
  item_form_fits how None width f w = tt
  item_form_fits how (Some x) None f w = f
  item_form_fits how (Some x) (Some None) f w = tt
  item_form_fits how (Some x) (Some (Some y)) f w = (f, w)

  item_judged_fits : (a : Argument) → Fits (IfForm (IsItem declared)) (item_judged (given scopes a))
  item_judged_fits a =
      subst (λ g. Fits (IfForm (IsItem declared)) (item_judged g)) (sym (argument_is scopes a))
      (fits_both IsShown IsWidth (IfForm (IsItem declared)) (λ value width. Accepts (item_form value.print value.form width)) (when_accepted shown (judged scopes (out-Argument a).value)) (width_judged (option_map (judged scopes) (out-Argument a).width))
      (fits_then IsSoundForm IsShown shown (judged scopes (out-Argument a).value) (expression_fits (out-Argument a).value) (λ t h. shown_by t.kind t.form t refl refl h))
      (width_fits (out-Argument a).width)
      (λ s w f g. item_form_fits s.print s.form w f g))

  more_fits : (x : Option Item) (xs : Option (List Item)) → IfForm (IsItem declared) x → IfForm (AreItems declared) xs → IfForm (AreItems declared) (one_more x xs)
  more_fits None xs f g = tt
  more_fits (Some x) None f g = tt
  more_fits (Some x) (Some xs) f g = (f, g)

  items_fit : (arguments : List Argument) → Fits (IfForm (AreItems declared)) (items_judged (map (given scopes) arguments))
  items_fit [] = tt
  items_fit (a ∷ arguments) = fits_both (IfForm (IsItem declared)) (IfForm (AreItems declared)) (IfForm (AreItems declared)) _ _ _ (item_judged_fits a) (items_fit arguments) (λ x xs f g. more_fits x xs f g)

  -- arguments many items arguments parameters, where they are built
  abbrev IsAsLong : List Given → Option (List Item) → Type 0
  IsAsLong [] (Some (x ∷ xs)) = ⊥
  IsAsLong (g ∷ gs) (Some []) = ⊥
  IsAsLong gs items = ⊤

  as_long : (x : Option Item) (xs : Option (List Item)) (g : Given) (gs : List Given) → IsAsLong (g ∷ gs) (one_more x xs)
  as_long None xs g gs = tt
  as_long (Some x) None g gs = tt
  as_long (Some x) (Some xs) g gs = tt

  items_long : (gs : List Given) → Fits (IsAsLong gs) (items_judged gs)
  items_long [] = tt
  items_long (g ∷ gs) = fits_both Any Any (IsAsLong (g ∷ gs)) _ (item_judged g) (items_judged gs) (fits_any (item_judged g)) (fits_any (items_judged gs)) (λ x xs p q. as_long x xs g gs)

  something_written : (ends_line : Bool) (gs : List Given) (items : List Item) (a : Unit {0}) → something ends_line gs ≡ Accepts a → IsAsLong gs (Some items) → WritesSomething declared items ends_line
  something_written true gs [] a e l = tt
  something_written true gs (x ∷ xs) a e l = tt
  something_written false [] [] a e l = cc
  something_written false [] (x ∷ xs) a e l = absurd l
  something_written false (g ∷ gs) [] a e l = absurd l
  something_written false (g ∷ gs) (x ∷ xs) a e l = tt

  file_fits : (f : StandardFile) (line : ℕ) (ends_line : Bool) (gs : List Given) (a : Unit {0}) (items : Option (List Item)) → something ends_line gs ≡ Accepts a → IfForm (AreItems declared) items → IsAsLong gs items
      → IfForm (IsStmt declared) (to_file f (option_map (λ is. tree.Write line is ends_line) items))
  file_fits file.Input line ends_line gs a items e f l = tt
  file_fits file.Output line ends_line gs a None e f l = tt
  file_fits file.Output line ends_line gs a (Some items) e f l = (f, something_written ends_line gs items a e l)

  written_fits : (f : StandardFile) (line : ℕ) (ends_line : Bool) (arguments : List Argument) → Fits (IfForm (IsStmt declared)) (written f line ends_line (map (given scopes) arguments))
  written_fits f line ends_line arguments =
      let gs = map (given scopes) arguments in
      fits_both (λ a. something ends_line gs ≡ Accepts a) (λ items. IfForm (AreItems declared) items × IsAsLong gs items) (IfForm (IsStmt declared)) _ (something ends_line gs) (items_judged gs)
      (fits_is (something ends_line gs))
      (fits_pair (IfForm (AreItems declared)) (IsAsLong gs) (items_judged gs) (items_fit arguments) (items_long gs))
      (λ a items e p. file_fits f line ends_line gs a items e p.0 p.1)

  usually_fits : (c : Context) → c.scopes ≡ scopes → (line : ℕ) (ends_line : Bool) (arguments : List Argument) → Fits (IfForm (IsStmt declared)) (usually_written c line ends_line arguments)
  usually_fits c is line ends_line arguments =
      fits_both (IfForm (IsStmt declared)) Any (IfForm (IsStmt declared)) (λ form there. Accepts form) _ (available c.files file.Output)
      (subst (λ s. Fits (IfForm (IsStmt declared)) (written file.Output line ends_line (map (given s) arguments))) (sym is) (written_fits file.Output line ends_line arguments)) (fits_any (available c.files file.Output)) (λ form there p q. p)

  written_or_fits : (c : Context) → c.scopes ≡ scopes → (f : Option StandardFile) (line : ℕ) (ends_line : Bool) (first : Argument) (more : List Argument) → Fits (IfForm (IsStmt declared)) (written_or c f line ends_line first more)
  written_or_fits c is (Some f) line ends_line first more = subst (λ s. Fits (IfForm (IsStmt declared)) (written f line ends_line (map (given s) more))) (sym is) (written_fits f line ends_line more)
  written_or_fits c is None line ends_line first more = usually_fits c is line ends_line (first ∷ more)

  write_fits : (c : Context) → c.scopes ≡ scopes → (line : ℕ) (ends_line : Bool) (arguments : List Argument) → Fits (IfForm (IsStmt declared)) (write_judged c line ends_line arguments)
  write_fits c is line ends_line [] = usually_fits c is line ends_line []
  write_fits c is line ends_line (first ∷ more) = written_or_fits c is (file_given c first) line ends_line first more

  -- ---- `case`

  -- a selector, with its labels
  abbrev IsChosen : List (List Label) → CaseSelector → Type 0
  IsChosen all s = IsSelected declared scopes s.host all s.form

  selecting_fits : (all : List (List Label)) (k : Kind) (form : Option Expr) → IsFormOf declared agrees.0 structures k form → Fits (IsChosen all) (when_accepted (labelled scopes all) (selecting k form))
  selecting_fits all (kind.Ordinal h) form f =
      fits_weaker (λ (s : CaseSelector). (s.host ≡ h) × IsSelected declared scopes h all s.form) (IsChosen all) (labelled scopes all (record { host = h; form = form }))
      (λ s p. subst (λ g. IsSelected declared scopes g all s.form) (sym p.0) p.1) (labelled_fits declared labels scopes agrees h all form (ordinal_form h form f))
  selecting_fits all (kind.Structured n) form f = tt
  selecting_fits all (kind.Set base) form f = tt
  selecting_fits all kind.EmptySet form f = tt
  selecting_fits all kind.Text form f = tt
  selecting_fits all kind.File form f = tt

  selector_fits : (e : Expression) (all : List (List Label)) → Fits (IsChosen all) (selector_judged scopes e all)
  selector_fits e all = go (judged scopes e) (expression_fits e)
    where
      go : (j : Judged Typed) → Fits IsSoundForm j → Fits (IsChosen all) (when_accepted (labelled scopes all) (when_accepted (λ t. selecting t.kind t.form) j))
      go (Accepts t) p = selecting_fits all t.kind t.form p
      go (Breaks rules) p = tt

  -- ---- calls

  procedure_fits : (c : Context) → c.scopes ≡ scopes → (line : ℕ) (p : Procedure) (arguments : List Argument) → Fits (IfForm (IsStmt declared)) (procedure_called c line p arguments)
  procedure_fits c is line procedure.Halt [] = tt
  procedure_fits c is line procedure.Halt (a ∷ arguments) = tt
  procedure_fits c is line procedure.Write arguments = write_fits c is line false arguments
  procedure_fits c is line procedure.WriteLine arguments = write_fits c is line true arguments

  required_fits : (c : Context) → c.scopes ≡ scopes → (line : ℕ) (r : Required) (arguments : List Argument) → Fits (IfForm (IsStmt declared)) (required_called c line r arguments)
  required_fits c is line (required.Constant k) arguments = tt
  required_fits c is line (required.«Type» t) arguments = tt
  required_fits c is line (required.Function f) arguments = tt
  required_fits c is line (required.Procedure p) arguments = procedure_fits c is line p arguments

  -- a call of a procedure with arguments that are valid for its formal parameters
  call_form : (line : ℕ) (callee : Callee) (parameters : List FormalParameter) (x : IsProcedureOf declared agrees.0 callee parameters) (given : Option (List Actual))
      → AreActuals declared declared.types x.0.formals given → IfForm (IsStmt declared) (option_map (λ xs. tree.Procedure line callee (tree.actuals xs)) given)
  call_form line callee parameters x None h = tt
  call_form line callee parameters x (Some given) h = (x.0, x.1, x.2, h)

  own_fits : (c : Context) → c.scopes ≡ scopes → (line : ℕ) (d : Declared) (parameters : List FormalParameter) (arguments : List Argument) → IsProcedureOf declared agrees.0 (callee_at depth d) parameters
      → Fits (IfForm (IsStmt declared)) (own_called c line d parameters arguments)
  own_fits c is line d parameters arguments x =
      subst (λ s. Fits (IfForm (IsStmt declared)) (when_accepted (form (depth_in s)) (arguments_judged parameters (map (given s) arguments)))) (sym is)
      (fits_then IsTaken (IfForm (IsStmt declared)) (form depth) (arguments_judged parameters (map (given scopes) arguments)) taken (λ t h. call_form line (callee_at depth d) parameters x t.actuals h))
    where
      form : ℕ → Taken → Judged (Option Stmt)
      form n t = Accepts (option_map (λ xs. tree.Procedure line (callee_at n d) (tree.actuals xs)) t.actuals)

      -- what is given is valid for the formal parameters of the procedure
      IsTaken : Taken → Type 0
      IsTaken t = AreActuals declared declared.types x.0.formals t.actuals

      taken : Fits IsTaken (arguments_judged parameters (map (given scopes) arguments))
      taken =
          fits_weaker (λ t. arguments_judged parameters (map (given scopes) arguments) ≡ Accepts t) IsTaken (arguments_judged parameters (map (given scopes) arguments))
          (λ t e. passed scopes parameters arguments t e declared agrees.0 agrees.1 declared.types x.0.formals x.3) (fits_is (arguments_judged parameters (map (given scopes) arguments)))

  declared_call_fits : (c : Context) → c.scopes ≡ scopes → (line : ℕ) (d : Declared) (what : Declaration) (arguments : List Argument) → IsDeclaration declared agrees.0 structures depth d what → Fits (IfForm (IsStmt declared)) (declared_called c line d what arguments)
  declared_call_fits c is line d (declaration.Procedure parameters) arguments x = own_fits c is line d parameters arguments x
  declared_call_fits c is line d (declaration.Function parameters of h) arguments x = tt
  declared_call_fits c is line d (declaration.Constant k v deep) arguments x = tt
  declared_call_fits c is line d (declaration.«Type» of h nodes) arguments x = tt
  declared_call_fits c is line d (declaration.Variable of k guarded) arguments x = tt
  declared_call_fits c is line d (declaration.Own of k guarded) arguments x = tt

  call_fits : (c : Context) → c.scopes ≡ scopes → (line : ℕ) (name : List ℕ) (m : Meant) (arguments : List Argument) → IsMeant declared agrees.0 structures depth m → Fits (IfForm (IsStmt declared)) (call_judged c line name m arguments)
  call_fits c is line name (Declares d) arguments x = declared_call_fits c is line d d.what arguments x
  call_fits c is line name (Standard f) arguments x = tt
  call_fits c is line name (Requires r) arguments x = required_fits c is line r arguments
  call_fits c is line name (FieldOf f) arguments x = tt
  call_fits c is line name Nothing arguments x = tt

  called_fits : (c : Context) → c.scopes ≡ scopes → (line : ℕ) (name : List ℕ) (arguments : Option (List Argument)) → Fits (IfForm (IsStmt declared)) (name_called c line name arguments)
  called_fits c is line name None = tt
  called_fits c is line name (Some arguments) = call_fits c is line name (meant c.scopes name) arguments (subst (λ s. IsMeant declared agrees.0 structures depth (meant s name)) (sym is) (meant-declared declared agrees.0 structures depth scopes name agrees.1))

-- ---- statements

module _ (declared : Declarations) (expressions : ExpressionsAreSound) (passed : ArgumentsAreSound) (values : ValuesAreSound) (labels : LabelsAreSound) (variables : VariablesAreSound) (types : TypeValues) (structures : List StructuredType) (depth : ℕ) where
  abbrev Agrees_with : Context → Type 0
  Agrees_with c = Agreed declared types structures depth c

  abbrev Sound : Context → Judgement Stmt → Type 0
  Sound c = FitsRow (IsSound declared types structures depth c)

  abbrev AllSound : Context → Judgement Stmts → Type 0
  AllSound c = FitsRow (AreSound declared types structures depth c)

  -- the declarations agree with its scopes
  abbrev agreement : (c : Context) → Agrees_with c → Agrees declared c.scopes
  agreement c agreed = agrees_in declared types structures depth c.scopes agreed.0

  -- the variables of results, by the depth of its scopes
  results_there : (c : Context) (agreed : Agrees_with c) → ResultsAreThere declared types (depth_in c.scopes) c.results
  results_there c agreed = subst (λ n. ResultsAreThere declared types n c.results) (sym agreed.0.1) agreed.1

  -- a statement that is valid where the declarations agree
  simple_fits : (c : Context) (controls : List Entire) (line : ℕ) (j : Judged (Option Stmt)) → (Agrees_with c → Fits (IfForm (IsStmt declared)) j) → Sound c (stmt_item c controls line j)
  simple_fits c controls line j h =
      weaker (stmt_item c controls line j)
      (fits_if (Agrees_with c) (IsStmt declared) (stmt_item c controls line j) (λ agreed. stmt_fits declared expressions passed values labels variables c.scopes (agreement c agreed) c controls line j (h agreed)))
    where
      weaker : (x : Judgement Stmt) → FitsRow (λ s. Agrees_with c → IsStmt declared s) x → Sound c x
      weaker (Passes s) p = λ agreed there. p agreed
      weaker (Waits line) p = tt
      weaker (Fails line rules) p = tt

  -- an assignment
  assigned_row : (c : Context) (controls : List Entire) (line : ℕ) (j : Judged (Option Stmt)) → (Agrees_with c → Fits (IfForm (IsAssigned declared c.locals)) j) → Sound c (stmt_item c controls line j)
  assigned_row c controls line j h =
      weaker (stmt_item c controls line j)
      (fits_if (Agrees_with c) (IsAssigned declared c.locals) (stmt_item c controls line j)
      (λ agreed. item_fits (IsAssigned declared c.locals) line (unless_threatening (stmt_threat c.callees) controls j) (unthreatening_fits (IsAssigned declared c.locals) (stmt_threat c.callees) controls j (h agreed))))
    where
      weaker : (x : Judgement Stmt) → FitsRow (λ s. Agrees_with c → IsAssigned declared c.locals s) x → Sound c x
      weaker (Passes s) p = λ agreed there. p agreed there.0
      weaker (Waits line) p = tt
      weaker (Fails line rules) p = tt

  -- a condition
  abbrev IsTested : Context → Expr → Type 0
  IsTested c x = Agrees_with c → IsExpr declared (valid.Ordinal typed.Boolean) x

  tested_row : (c : Context) (controls : List Entire) (line : ℕ) (e : Expression) → FitsRow (IsTested c) (condition_judged c controls line e)
  tested_row c controls line e =
      fits_if (Agrees_with c) (IsExpr declared (valid.Ordinal typed.Boolean)) (condition_judged c controls line e) (λ agreed. condition_fits declared expressions passed values labels variables c.scopes (agreement c agreed) c refl controls line e)

  -- the statements of arms are valid, where they pass
  abbrev ArmsFit : List ArmJudged → Type 0
  ArmsFit [] = ⊤
  ArmsFit (a ∷ all) = ((c : Context) (controls : List Entire) → Sound c (a.1 c controls)) × ArmsFit all

  bodies : (h : Host) (all : List ArmJudged) → ArmsFit all → BodiesFit declared types structures depth labels h all
  bodies h [] q = tt
  bodies h (a ∷ all) q = (q.0, bodies h all q.1)

  case_fits : (c : Context) (controls : List Entire) (line : ℕ) (e : Expression) (all : List ArmJudged) (other : Context → Judgement Other) → ArmsFit all → ((d : Context) → FitsRow (OtherIsSound declared types structures depth d) (other d))
      → Sound c (case_judged line (λ x. expr_item c controls (Accepts x)) (selector_judged c.scopes e (labels_in all)) (λ h. arms_in_order line h all c controls) (λ arms. other (behind with_variables_in c arms)))
  case_fits c controls line e all other q r = go (selector_judged c.scopes e (labels_in all)) refl
    where
      chosen : (s : CaseSelector) → selector_judged c.scopes e (labels_in all) ≡ Accepts s → Agrees_with c → IsSelected declared c.scopes s.host (labels_in all) s.form
      chosen s is agreed =
          subst (λ j. Fits (λ (x : CaseSelector). IsSelected declared c.scopes x.host (labels_in all) x.form) j) is (selector_fits declared expressions passed values labels variables c.scopes (agreement c agreed) e (labels_in all))

      go : (j : Judged CaseSelector) → selector_judged c.scopes e (labels_in all) ≡ j → Sound c (case_judged line (λ x. expr_item c controls (Accepts x)) j (λ h. arms_in_order line h all c controls) (λ arms. other (behind with_variables_in c arms)))
      go (Breaks rules) is = tt
      go (Accepts s) is =
          arms_row_fits declared types structures depth labels s.host line c controls s.form (expr_item c controls (Accepts s.form)) all other
          (form_if (Agrees_with c) (λ x. IsExpr declared (valid.Ordinal (typed_host s.host)) x) (expr_item c controls (Accepts s.form)) (λ agreed. unthreatening_fits (IsExpr declared (valid.Ordinal (typed_host s.host))) (expr_threat c.callees) controls (Accepts s.form) (chosen s is agreed).0))
          (λ agreed. (chosen s is agreed).1) (bodies s.host all q) r

  -- ---- each statement

  -- inside of any statements
  abbrev IsStatement : Statement → Type 0
  IsStatement s = (c : Context) (controls : List Entire) → Sound c (statement_judged s c controls)

  abbrev IsCompound : Compound → Type 0
  IsCompound s = (c : Context) (controls : List Entire) → AllSound c (compound_under s c controls)

  abbrev IsArm : Arm → Type 0
  IsArm a = (c : Context) (controls : List Entire) → Sound c ((arm_judged a).1 c controls)

  abbrev IsOtherwise : Otherwise → Type 0
  IsOtherwise o = (c : Context) (controls : List Entire) → AllSound c (otherwise_judged o c controls)

  abbrev ValidStatement : Type 0
  ValidStatement = (s : Statement) × IsStatement s

  abbrev ValidArm : Type 0
  ValidArm = (a : Arm) × IsArm a

  abbrev ValidCompound : Type 0
  ValidCompound = (s : Compound) × IsCompound s

  abbrev ValidOtherwise : Type 0
  ValidOtherwise = (o : Otherwise) × IsOtherwise o

  -- layers of such statements, without what holds of them
  abbrev statement_layer : Statement-F ValidStatement ValidArm ValidCompound ValidOtherwise → Statement-F Statement Arm Compound Otherwise
  statement_layer = map-Statement ValidStatement ValidArm ValidCompound ValidOtherwise Statement Arm Compound Otherwise (λ s. s.0) (λ a. a.0) (λ s. s.0) (λ o. o.0)

  abbrev compound_layer : Compound-F ValidStatement ValidArm ValidCompound ValidOtherwise → Compound-F Statement Arm Compound Otherwise
  compound_layer = map-Compound ValidStatement ValidArm ValidCompound ValidOtherwise Statement Arm Compound Otherwise (λ s. s.0) (λ a. a.0) (λ s. s.0) (λ o. o.0)

  abbrev arm_layer : Arm-F ValidStatement ValidArm ValidCompound ValidOtherwise → Arm-F Statement Arm Compound Otherwise
  arm_layer = map-Arm ValidStatement ValidArm ValidCompound ValidOtherwise Statement Arm Compound Otherwise (λ s. s.0) (λ a. a.0) (λ s. s.0) (λ o. o.0)

  abbrev otherwise_layer : Otherwise-F ValidStatement ValidArm ValidCompound ValidOtherwise → Otherwise-F Statement Arm Compound Otherwise
  otherwise_layer = map-Otherwise ValidStatement ValidArm ValidCompound ValidOtherwise Statement Arm Compound Otherwise (λ s. s.0) (λ a. a.0) (λ s. s.0) (λ o. o.0)

  rolled_arm : (x : Arm-F Statement Arm Compound Otherwise) → IsStatement x.body → IsArm (roll-Arm x)
  rolled_arm x h c controls = subst (λ (a : ArmJudged). Sound c (a.1 c controls)) (sym (fold-roll-Arm (Under Stmt) ArmJudged (Under Stmts) (Under Stmts) at_statement at_arm at_compound at_otherwise x)) (h c controls)

  rolled_otherwise : (x : Otherwise-F Statement Arm Compound Otherwise) → ((c : Context) (controls : List Entire) → AllSound c (in_order (map statement_judged x.statements) c controls)) → IsOtherwise (roll-Otherwise x)
  rolled_otherwise x h c controls = subst (λ (judge : Under Stmts). AllSound c (judge c controls)) (sym (fold-roll-Otherwise (Under Stmt) ArmJudged (Under Stmts) (Under Stmts) at_statement at_arm at_compound at_otherwise x)) (h c controls)

  rolled : (x : Statement-F Statement Arm Compound Otherwise) → ((c : Context) (controls : List Entire) → Sound c (at_statement (map-Statement Statement Arm Compound Otherwise (Under Stmt) ArmJudged (Under Stmts) (Under Stmts) statement_judged arm_judged compound_under otherwise_judged x) c controls)) → IsStatement (roll-Statement x)
  rolled x h c controls = subst (λ (judge : Under Stmt). Sound c (judge c controls)) (sym (fold-roll-Statement (Under Stmt) ArmJudged (Under Stmts) (Under Stmts) at_statement at_arm at_compound at_otherwise x)) (h c controls)

  rolled_compound : (x : Compound-F Statement Arm Compound Otherwise) → ((c : Context) (controls : List Entire) → AllSound c (in_order (map statement_judged x.statements) c controls)) → IsCompound (roll-Compound x)
  rolled_compound x h c controls = subst (λ (judge : Under Stmts). AllSound c (judge c controls)) (sym (fold-roll-Compound (Under Stmt) ArmJudged (Under Stmts) (Under Stmts) at_statement at_arm at_compound at_otherwise x)) (h c controls)

  -- one statement before others
  both_sound : (c : Context) (x : Stmt) (xs : Stmts) → IsSound declared types structures depth c x → AreSound declared types structures depth (behind_withs c (with_variables x)) xs → AreSound declared types structures depth c (tree.next x xs)
  both_sound c x xs p q = λ agreed there. (
    p agreed (first_part declared types structures depth c (first_for x) (first_for_of xs) (first_for_in x) (first_for_in_of xs) (with_variables x) (with_variables_of xs) there),
    q agreed (second_part declared types structures depth c (first_for x) (first_for_of xs) (first_for_in x) (first_for_in_of xs) (with_variables x) (with_variables_of xs) there),
  )

  row_fits : (ss : List ValidStatement) (c : Context) (controls : List Entire) → AllSound c (in_order (map statement_judged (map (λ s. s.0) ss)) c controls)
  row_fits [] c controls = λ agreed there. tt
  row_fits (s ∷ ss) c controls =
      behind_fits (IsSound declared types structures depth c) (λ d xs. AreSound declared types structures depth d xs) (AreSound declared types structures depth c) tree.next with_variables c (statement_judged s.0 c controls) (λ d. in_order (map statement_judged (map (λ t. t.0) ss)) d controls)
      (s.1 c controls) (λ d. row_fits ss d controls) (λ x xs p q. both_sound c x xs p q)

  -- two statements, the second one behind the first
  abbrev BothSound : Context → Stmt × Stmt → Type 0
  BothSound c p = IsSound declared types structures depth c p.0 × IsSound declared types structures depth (behind_withs c (with_variables p.0)) p.1

  if_fits : (c : Context) (line : ℕ) (x : Judgement Expr) (y : Judgement Stmt) (z : Context → Judgement Stmt) → FitsRow (IsTested c) x → Sound c y → ((d : Context) → Sound d (z d)) → Sound c (if_judged line x y (z (behind with_variables c y)))
  if_fits c line x y z h k l =
      after_fits (IsTested c) (BothSound c) (IsSound declared types structures depth c) _ x (after (λ a b. (a, b)) y (z (behind with_variables c y))) h
      (behind_fits (IsSound declared types structures depth c) (λ d s. IsSound declared types structures depth d s) (BothSound c) (λ a b. (a, b)) with_variables c y z k l (λ a b p q. (p, q)))
      (λ e p f g. λ agreed there. (
        f agreed,
        g.0 agreed (first_part declared types structures depth c (first_for p.0) (first_for p.1) (first_for_in p.0) (first_for_in p.1) (with_variables p.0) (with_variables p.1) there),
        g.1 agreed (second_part declared types structures depth c (first_for p.0) (first_for p.1) (first_for_in p.0) (first_for_in p.1) (with_variables p.0) (with_variables p.1) there),
      ))

  bodies_fit : (all : List ValidArm) → ArmsFit (map arm_judged (map (λ a. a.0) all))
  bodies_fit [] = tt
  bodies_fit (a ∷ all) = (a.1, bodies_fit all)

  nothing_there : (c : Context) → Sound c (Passes tree.Empty)
  nothing_there c = λ agreed there. tt

  with_fits : (c : Context) (controls : List Entire) (line : ℕ) (accesses : List syntax.Access) (body : Under Stmt) → ((d : Context) (inner : List Entire) → Sound d (body d inner)) → Sound c (with_judged c controls line (records_opened c accesses (none_opened c)) body)
  with_fits c controls line accesses body p = go (records_opened c accesses (none_opened c)) (opened_fits declared types structures depth variables c accesses)
    where
      go : (j : Judged Opened) → Fits (IsOpened declared types structures depth variables c) j → Sound c (with_judged c controls line j body)
      go (Breaks rules) h = tt
      go (Accepts o) h =
          after_fits (λ hs. IfBuilt declared types structures depth variables c o (Some hs)) (IsSound declared types structures depth (inside c o)) (IsSound declared types structures depth c) (with_form line) _ (body (inside c o) controls)
          (item_fits (λ hs. IfBuilt declared types structures depth variables c o (Some hs)) line (unless_threatening (heads_threat c.callees) controls (Accepts o.heads))
          (unthreatening_fits (λ hs. IfBuilt declared types structures depth variables c o (Some hs)) (heads_threat c.callees) controls (Accepts o.heads) (built o.heads h)))
          (p (inside c o) controls) (λ hs s f g. nested_sound declared types structures depth variables c line s o hs f g)
        where
          built : (hs : Option (List WithRecord)) → IfBuilt declared types structures depth variables c o hs → IfForm (λ xs. IfBuilt declared types structures depth variables c o (Some xs)) hs
          built None q = tt
          built (Some hs) q = q

  -- each statement, where those in it are valid
  statement_step : (y : Statement-F ValidStatement ValidArm ValidCompound ValidOtherwise) → IsStatement (roll-Statement (statement_layer y))
  statement_step (Statement-F.Empty line) = rolled (Statement-F.Empty line) (λ c controls. nothing_there c)
  statement_step (Statement-F.Assignment line access v) =
      rolled (Statement-F.Assignment line access v) (λ c controls. assigned_row c controls line _ (λ agreed. assignment_fits declared values variables c.scopes (agreement c agreed) c refl (results_there c agreed) line access v))
  statement_step (Statement-F.Call line access) =
      rolled (Statement-F.Call line access) (λ c controls. simple_fits c controls line _ (λ agreed. called_fits declared expressions passed values labels variables c.scopes (agreement c agreed) c refl line (out-Access access).name (call_arguments (out-Access access).selectors)))
  statement_step (Statement-F.Compound s) =
      rolled (Statement-F.Compound s.0) (λ c controls. formed_fits (AreSound declared types structures depth c) (IsSound declared types structures depth c) tree.Compound (compound_under s.0 c controls) (s.1 c controls) (λ ss p. p))
  statement_step (Statement-F.If line e then_part None) =
      rolled (statement_layer (Statement-F.If line e then_part None)) (λ c controls. if_fits c line (condition_judged c controls line e) (statement_judged then_part.0 c controls) (λ d. Passes tree.Empty) (tested_row c controls line e) (then_part.1 c controls) nothing_there)
  statement_step (Statement-F.If line e then_part (Some other)) =
      rolled (statement_layer (Statement-F.If line e then_part (Some other)))
      (λ c controls. if_fits c line (condition_judged c controls line e) (statement_judged then_part.0 c controls) (λ d. statement_judged other.0 d controls) (tested_row c controls line e) (then_part.1 c controls) (λ d. other.1 d controls))
  statement_step (Statement-F.While line e body) =
      rolled (Statement-F.While line e body.0)
      (λ c controls. after_fits (IsTested c) (IsSound declared types structures depth c) (IsSound declared types structures depth c) (tree.While line) (condition_judged c controls line e) (statement_judged body.0 c controls) (tested_row c controls line e) (body.1 c controls) (λ x s p q. λ agreed there. (p agreed, q agreed there)))
  statement_step (Statement-F.Case line e arms None) =
      rolled (statement_layer (Statement-F.Case line e arms None)) (λ c controls. case_fits c controls line e (map arm_judged (map (λ a. a.0) arms)) (λ d. Passes tree.no_other) (bodies_fit arms) (λ d. λ agreed there. tt))
  statement_step (Statement-F.Case line e arms (Some o)) =
      rolled (statement_layer (Statement-F.Case line e arms (Some o)))
      (λ c controls. case_fits c controls line e (map arm_judged (map (λ a. a.0) arms)) (λ d. formed tree.otherwise_do (otherwise_judged o.0 d controls)) (bodies_fit arms)
      (λ d. formed_fits (AreSound declared types structures depth d) (OtherIsSound declared types structures depth d) tree.otherwise_do (otherwise_judged o.0 d controls) (o.1 d controls) (λ ss p. p)))
  statement_step (Statement-F.Repeat line statements e) =
      rolled (statement_layer (Statement-F.Repeat line statements e))
      (λ c controls. after_fits (IsTested c) (AreSound declared types structures depth c) (IsSound declared types structures depth c) (λ form body. tree.Repeat line body form) (condition_judged c controls line e) (in_order (map statement_judged (map (λ s. s.0) statements)) c controls) (tested_row c controls line e) (row_fits statements c controls) (λ x ss p q. λ agreed there. (q agreed there, p agreed)))
  statement_step (Statement-F.For line variable start toward end body) =
      rolled (statement_layer (Statement-F.For line variable start toward end body))
      (λ c controls. for_fits declared types structures depth c (λ agreed. expression_fits declared expressions passed values labels variables c.scopes (agrees_in declared types structures depth c.scopes agreed)) controls line variable (falls_by toward) start end (statement_judged body.0) body.1)
  statement_step (Statement-F.ForIn line variable set body) =
      rolled (statement_layer (Statement-F.ForIn line variable set body))
      (λ c controls. for_in_fits declared types structures depth c (λ agreed. expression_fits declared expressions passed values labels variables c.scopes (agrees_in declared types structures depth c.scopes agreed)) controls line variable set (statement_judged body.0) body.1)
  statement_step (Statement-F.With line accesses body) = rolled (statement_layer (Statement-F.With line accesses body)) (λ c controls. with_fits c controls line accesses (statement_judged body.0) body.1)

  -- the statements of a compound statement that pass are valid
  pub compound_fits : (s : Compound) → IsCompound s
  compound_fits =
      ind-Compound IsStatement IsArm IsCompound IsOtherwise
      (λ x y e. subst (λ z. IsStatement (roll-Statement z)) e (statement_step y))
      (λ x y e. subst (λ z. IsArm (roll-Arm z)) e (rolled_arm (arm_layer y) y.body.1))
      (λ x y e. subst (λ z. IsCompound (roll-Compound z)) e (rolled_compound (compound_layer y) (λ c controls. row_fits y.statements c controls)))
      (λ x y e. subst (λ z. IsOtherwise (roll-Otherwise z)) e (rolled_otherwise (otherwise_layer y) (λ c controls. row_fits y.statements c controls)))

-- the law
pub statements_are_sound : ExpressionsAreSound → ArgumentsAreSound → ValuesAreSound → LabelsAreSound → VariablesAreSound → StatementsAreSound
statements_are_sound expressions passed values labels variables context c ss is declared agrees there auxiliary members withs =
    let structures : List StructuredType = structures_of context.scopes in
    let depth : ℕ = depth_in context.scopes in
    let sound : AreSound declared agrees.0 structures depth context ss = subst (FitsRow (AreSound declared agrees.0 structures depth context)) is (compound_fits declared expressions passed values labels variables agrees.0 structures depth c context []) in
    sound ((refl, refl, agrees.1), there) (auxiliary, members, withs)
