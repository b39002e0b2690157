-- What is known of the values of an ordinal type says which numbers lie in it.
use Rattle.std.proofs.Common.{◌≡◌, ℕ, ℤ, pos, false, List, Option, Some, None, ap, refl}
use Rattle.std.specs.List.{list_all}
use Rattle.std.specs.Prelude.{int_le, ◌&&◌}
use Rattle.ep_values.specs.TypeValues as type
use Rattle.ep_values.specs.TypeValues.{TypeValue}
use Rattle.ep_scope.specs.declared.kind.Host.{Host}
use Rattle.ep_rules.specs.Judgements.{Accepts}
use Rattle.ep_rules.specs.declared.forms.Refusal.TheVariants.{Rule}
use Rattle.ep_rules.specs.Answers.{Refuses}
use Rattle.ep_unit_rules.specs.FittingConstants.{are_members_in, is_number_in}
use Rattle.ep_unit_rules.specs.Labels.{tag_values}
use Rattle.ep_unit_rules.specs.declared.labels.TagValues.{TagValues}

pub number_told : (h : Host) (o : Option TypeValue) (t : TagValues) (z : ℤ) → tag_values h o ≡ Accepts t → is_number_in o z ≡ (int_le t.low z && int_le z t.high)
number_told h (Some (type.Ordinal low high)) t z e = cc
number_told h (Some type.Text) t z e = cc
number_told h (Some (type.Array low high of)) t z e = cc
number_told h (Some (type.Record ts)) t z e = cc
number_told h (Some (type.Set low high)) t z e = cc
number_told h (Some (type.Initial of start)) t z e = cc
number_told h None t z e = cc

pub number_refused : (h : Host) (o : Option TypeValue) (rule : ℕ) (z : ℤ) → Refuses (Rule rule) (tag_values h o) → is_number_in o z ≡ false
number_refused h (Some (type.Ordinal low high)) rule z e = cc
number_refused h (Some type.Text) rule z e = refl
number_refused h (Some (type.Array low high of)) rule z e = refl
number_refused h (Some (type.Record ts)) rule z e = refl
number_refused h (Some (type.Set low high)) rule z e = refl
number_refused h (Some (type.Initial of start)) rule z e = refl
number_refused h None rule z e = refl

pub members_told : (h : Host) (o : Option TypeValue) (t : TagValues) (ms : List ℕ) → tag_values h o ≡ Accepts t → are_members_in o ms ≡ list_all (λ m. int_le t.low (pos m) && int_le (pos m) t.high) ms
members_told h (Some (type.Ordinal low high)) t ms e =
    let same : record { host = h; low = low; high = high } ≡ t = cc in
    ap (λ (u : TagValues). list_all (λ m. int_le u.low (pos m) && int_le (pos m) u.high) ms) same
members_told h (Some type.Text) t ms e = cc
members_told h (Some (type.Array low high of)) t ms e = cc
members_told h (Some (type.Record ts)) t ms e = cc
members_told h (Some (type.Set low high)) t ms e = cc
members_told h (Some (type.Initial of start)) t ms e = cc
members_told h None t ms e = cc

pub members_refused : (h : Host) (o : Option TypeValue) (rule : ℕ) (ms : List ℕ) → Refuses (Rule rule) (tag_values h o) → are_members_in o ms ≡ false
members_refused h (Some (type.Ordinal low high)) rule ms e = cc
members_refused h (Some type.Text) rule ms e = refl
members_refused h (Some (type.Array low high of)) rule ms e = refl
members_refused h (Some (type.Record ts)) rule ms e = refl
members_refused h (Some (type.Set low high)) rule ms e = refl
members_refused h (Some (type.Initial of start)) rule ms e = refl
members_refused h None rule ms e = refl
