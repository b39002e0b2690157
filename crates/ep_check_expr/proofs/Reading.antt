-- What is the bare name of a variable is read of a place.
use Rattle.std.proofs.Common.{◌≡◌, ◌+◌, ℕ, nat_le, List, [], ◌∷◌, Option, Some, None, Result, Ok, Err, ap, refl, subst, sym, ◌∙◌}
use Rattle.std.specs.Prelude.{IfOk}
use Rattle.std.specs.Option.{option_map}
use Rattle.ep_tree.specs.declared.expression.Access as syntax
use Rattle.ep_tree.specs.declared.expression.Argument.{Argument, out-Argument}
use Rattle.ep_typed.specs.Trees.{Callee, Expr, Field, Indexed, Place, Read, Variable, entire}
use Rattle.ep_typed.specs.Viewed.{expr_of}
use Rattle.ep_scope.specs.Scopes.{Region, Meant, Declares, Requires, FieldOf, Nothing, depth_in, meant, meant_in}
use Rattle.ep_scope.specs.Scopes as meaning
use Rattle.ep_scope.specs.declared.kind.Host.TheVariants as host
use Rattle.ep_scope.specs.declared.kind.Kind.{Kind}
use Rattle.ep_scope.specs.declared.parameter.Protection.{Protection}
use Rattle.ep_scope.specs.declared.parameter.TypeName.{TypeName}
use Rattle.ep_scope.specs.declared.required.Required.{Required}
use Rattle.ep_scope.specs.declared.required.Required.TheVariants as required
use Rattle.ep_scope.specs.declared.required.RequiredConstant.TheVariants as constant
use Rattle.ep_scope.specs.declared.rule.TheConstants as rule
use Rattle.ep_scope.specs.declared.structure.ArrayType.{ArrayType}
use Rattle.ep_scope.specs.declared.structure.FieldType.{FieldType}
use Rattle.ep_scope.specs.declared.structure.TagType.{TagType}
use Rattle.ep_scope.specs.declared.thing.Declaration.{Declaration}
use Rattle.ep_scope.specs.declared.thing.Declaration.TheVariants as declaration
use Rattle.ep_scope.specs.declared.thing.Declared.{Declared}
use Rattle.ep_rules.specs.declared.access.Access.{Access}
use Rattle.ep_rules.specs.declared.access.Access.TheVariants as access
use Rattle.ep_rules.specs.declared.forms.TheConstants as limit
use Rattle.ep_rules.specs.declared.forms.Refusal.{Refusal}
use Rattle.ep_rules.specs.declared.forms.Typed as code
use Rattle.ep_rules.specs.Answers.{AnswersTyped, typed_of}
use Rattle.ep_rules.specs.Arguments.{IsReading, IsReadingIf, IsTagReadingIf, Taken, arguments_judged, callee_at, function_typed, own_place}
use Rattle.ep_check_expr.specs.Expressions.{given, name_judged}
use Rattle.ep_rules.specs.FieldDesignators.{along, component_place, field_access, field_form, field_typed, steps_to, variable_access}
use Rattle.ep_rules.specs.Functions.{Given}
use Rattle.ep_rules.specs.Indexing.{component_access, component_depth, component_form, component_typed, element_form}
use Rattle.ep_rules.specs.Judgements.{Judged, Accepts, Breaks, Typed, when_accepted}
use Rattle.ep_rules.specs.Names.{call_declared, value_declared, value_named, value_required}
use Rattle.ep_check_expr.proofs.public.Accepted.{accesses-fit, expressions-fit}
use Rattle.ep_check_expr.proofs.public.Selected.{field-given}
use Rattle.ep_check_expr.proofs.public.Selected.{index-given}
use Rattle.ep_check_expr.proofs.public.Plain.{deep-plain, spelled-plain, signed-plain, negated-plain, added-plain, multiplied-plain, compared-plain, applied_one-plain, applied_two-plain}
use Rattle.ep_check_expr.proofs.public.Labels.{constructed-plain}
use Rattle.ep_check_expr.proofs.public.AnyStructure.{structure-any}
use Rattle.ep_check_expr.proofs.public.Keeping.{IsCalled, IsKept, Satisfies, if-satisfies}
use Rattle.ep_check_expr.proofs.public.Nodes.{given-value}

abbrev IsPlaced : Typed → Type 0
IsPlaced t = IsReading t.access t.form

plain : (form : Option Expr) (k : Kind) (depth : ℕ) → IsPlaced (record { form = form; kind = k; depth = depth; access = access.Value })
plain form k depth = tt

function-placed : (callee : Callee) (k : Kind) (J : Judged Taken) → Satisfies IsPlaced (when_accepted (function_typed callee k) J)
function-placed callee k (Accepts t) = deep-plain IsPlaced plain _ _ _
function-placed callee k (Breaks rules) = tt

declared-placed : (depth : ℕ) (d : Declared) (what : Declaration) → Satisfies IsPlaced (value_declared depth d what)
declared-placed depth d (declaration.Constant k v deep) = tt
declared-placed depth d (declaration.«Type» of h nodes) = tt
declared-placed depth d (declaration.Variable of k guarded) = (Variable d.unit d.number, refl)
declared-placed depth d (declaration.Own of k guarded) = (own_place depth d, refl)
declared-placed depth d (declaration.Procedure parameters) = tt
declared-placed depth d (declaration.Function parameters of k) = function-placed (callee_at depth d) k (arguments_judged parameters [])

called-placed : (depth : ℕ) (d : Declared) (what : Declaration) (gs : List Given) → Satisfies IsPlaced (call_declared depth d what gs)
called-placed depth d (declaration.Constant k v deep) gs = tt
called-placed depth d (declaration.«Type» of h nodes) gs = tt
called-placed depth d (declaration.Variable of k guarded) gs = tt
called-placed depth d (declaration.Own of k guarded) gs = tt
called-placed depth d (declaration.Procedure parameters) gs = tt
called-placed depth d (declaration.Function parameters of k) gs = function-placed (callee_at depth d) k (arguments_judged parameters gs)

required-placed : (r : Required) → Satisfies IsPlaced (value_required r)
required-placed (required.Constant constant.MaxInt) = tt
required-placed (required.Constant constant.MaxChar) = tt
required-placed (required.Constant constant.True) = tt
required-placed (required.Constant constant.False) = tt
required-placed (required.«Type» t) = tt
required-placed (required.Function f) = tt
required-placed (required.Procedure p) = tt

-- what is read of a field is, and a tag of its record
field-read : (of : TypeName) (guarded : Protection) (tag : Option TagType) (number : ℕ) (whole : Place) → IsReading (variable_access of guarded tag) (Some (Read (component_place tag number whole)))
field-read of guarded None number whole = (Field whole number, refl)
field-read of guarded (Some tag) number whole = (whole, number, refl)

field-unread : (of : TypeName) (guarded : Protection) (tag : Option TagType) → IsReading (variable_access of guarded tag) None
field-unread of guarded None = tt
field-unread of guarded (Some tag) = tt

named-placed : (depth : ℕ) (name : List ℕ) (m : Meant) → Satisfies IsPlaced (value_named depth name m)
named-placed depth name (Declares d) = declared-placed depth d d.what
named-placed depth name (meaning.Standard file) = tt
named-placed depth name (Requires r) = required-placed r
named-placed depth name (FieldOf f) = field-read f.field.of f.guarded f.field.tag f.field.number (along f.field.path (entire f.variable))
named-placed depth name Nothing = tt

call-placed : (depth : ℕ) (m : Meant) → IsCalled depth IsPlaced m
call-placed depth (Declares d) = λ gs p. called-placed depth d d.what gs
call-placed depth (meaning.Standard file) = tt
call-placed depth (Requires r) = tt
call-placed depth (FieldOf f) = tt
call-placed depth Nothing = tt

-- a component is read of its place where the array is
component-placed : (k : Kind) (x i : Option Expr) → IsReadingIf x → IsReadingIf (component_form k x i)
component-placed k None i r = tt
component-placed k (Some x) None r = tt
component-placed k (Some x) (Some i) r = (Indexed r.0 i, ap (λ z. element_form k z i) r.1)

-- what is read of a tag is read of a place
tag-reads : (x : Option Expr) → IsTagReadingIf x → IsReadingIf x
tag-reads None r = tt
tag-reads (Some x) r = (Field (Field r.0 r.1) 0, r.2)

-- so is what is a variable, where the whole is one
access-placed : (component : TypeName) (a : Access) (x form : Option Expr) → (IsReadingIf x → IsReadingIf form) → IsReading a x → IsReading (component_access component a) form
access-placed component (access.Variable of guarded) x form f r = f r
access-placed component (access.Tag of guarded tag) x form f r = f (tag-reads x r)
access-placed component access.File x form f r = tt
access-placed component access.Constant x form f r = tt
access-placed component access.Value x form f r = tt

-- a component is read of a place where it is a variable
index-placed : (a : ArrayType) (x i : Typed) → IsPlaced x → Satisfies IsPlaced (component_typed a x i)
index-placed a x i p =
    if-satisfies IsPlaced (nat_le (component_depth x.access x.depth i.depth) limit.DEPTH) (Accepts _) (Breaks (rule.TOO_DEEP ∷ []))
    (λ e. access-placed a.component x.access x.form (component_form a.kind x.form i.form) (component-placed a.kind x.form i.form) p) tt

-- so is a field
field-built : (f : FieldType) (guarded : Protection) (x : Option Expr) → IsReadingIf x → IsReading (variable_access f.of guarded f.tag) (field_form f x)
field-built f guarded None r = field-unread f.of guarded f.tag
field-built f guarded (Some x) r =
    subst (λ z. IsReading (variable_access f.of guarded f.tag) (field_form f (Some z))) (sym r.1) (field-read f.of guarded f.tag f.number (along f.path r.0))

field-accessed : (f : FieldType) (a : Access) (x : Option Expr) → IsReading a x → IsReading (field_access f a) (field_form f x)
field-accessed f (access.Variable of guarded) x r = field-built f guarded x r
field-accessed f (access.Tag of guarded tag) x r = field-built f guarded x (tag-reads x r)
field-accessed f access.File x r = tt
field-accessed f access.Constant x r = tt
field-accessed f access.Value x r = tt

field-placed : (f : FieldType) (x : Typed) → IsPlaced x → Satisfies IsPlaced (field_typed f x)
field-placed f x p = if-satisfies IsPlaced (nat_le (steps_to f + x.depth) limit.DEPTH) (Accepts _) (Breaks (rule.TOO_DEEP ∷ [])) (λ e. field-accessed f x.access x.form p) tt

-- each rule keeps it
placing_is_kept : (scopes : List Region) → IsKept IsPlaced scopes
placing_is_kept scopes = record {
  number = spelled-plain IsPlaced plain host.Integer;
  character = spelled-plain IsPlaced plain host.Char;
  text = λ bytes. tt;
  named = λ name. named-placed (depth_in scopes) name (meant scopes name);
  within = λ interface name. named-placed (depth_in scopes) name (meant_in scopes interface name);
  called = λ name. call-placed (depth_in scopes) (meant scopes name);
  indexes = λ x i p q. index-given IsPlaced scopes x.kind x i (λ n a is e same. index-placed a x i p) (deep-plain IsPlaced plain _ _ _);
  fields = λ name x p. field-given IsPlaced scopes x.kind name x (λ n fs number f is e there. field-placed f x p);
  parenthesizes = λ x p. tt;
  signs = signed-plain IsPlaced plain;
  negates = λ x p. negated-plain IsPlaced plain x;
  adds = λ o x y p q. added-plain IsPlaced plain o x y;
  multiplies = λ o x y p q. multiplied-plain IsPlaced plain o x y;
  compares = λ o x y p q. compared-plain IsPlaced plain o x y;
  applies_one = λ f x p. applied_one-plain IsPlaced plain f x;
  constructs = λ ls p. constructed-plain IsPlaced plain ls;
  structures = λ c h n. structure-any IsPlaced n (λ form depth. tt) scopes c;
  applies_two = λ f x y p q. applied_two-plain IsPlaced plain f x y;
}

-- so is the value of an argument that is accepted
pub argument-reads : (scopes : List Region) (a : Argument) (t : Typed) → (given scopes a).value ≡ Accepts t → IsReading t.access t.form
argument-reads scopes a t h = subst (Satisfies IsPlaced) (sym (given-value scopes a) ∙ h) (expressions-fit IsPlaced scopes (placing_is_kept scopes) (out-Argument a).value)

-- and an access that is accepted
pub access-reads : (scopes : List Region) (a : syntax.Access) (t : Typed) → name_judged scopes a ≡ Accepts t → IsReading t.access t.form
access-reads scopes a t h = subst (Satisfies IsPlaced) h (accesses-fit IsPlaced scopes (placing_is_kept scopes) a)

-- so is what a call answers of one
pub access-answers : (scopes : List Region) (a : syntax.Access) (r : Result code.Typed Refusal) → AnswersTyped r (name_judged scopes a) → IfOk r (λ t. IsReading t.access (option_map expr_of t.form))
access-answers scopes a (Ok t) h = access-reads scopes a (typed_of t) h
access-answers scopes a (Err e) h = tt
