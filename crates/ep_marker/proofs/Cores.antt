-- The marks of cores and of fields.
use Rattle.std.proofs.Common.{◌≡◌, ℕ, Bool, true, false, ◌⊎◌, inl, inr, List, [], ◌∷◌, Some, None, Ok, if◌then◌else◌, refl, sym, subst}
use Rattle.ep_token.specs.declared.token.Token.{Token}
use Rattle.ep_token.specs.declared.word.TheConstants as word
use Rattle.ep_tree.specs.declared.types.FieldSection.{FieldSection}
use Rattle.ep_tree.specs.declared.types.Fields.{Fields}
use Rattle.ep_tree.specs.declared.types.VariantPart.{VariantPart}
use Rattle.ep_tree.specs.Nodes.{fields_node}
use Rattle.ep_grammar.specs.Classes.{Class, Word, Symbol, Name, Number, Text, Interface, Implementation, Forward, End, has, class_of, line_of}
use Rattle.ep_grammar.specs.Descriptions.{Syntax, give, shaped, always_second, either, switch}
use Rattle.ep_grammar.specs.Expressions.{on_word}
use Rattle.ep_grammar.specs.Reading.{Parser, ReadOutcome, and_then, by_shape, read, refused}
use Rattle.ep_grammar.specs.Rules.{inside_at}
use Rattle.ep_grammar.specs.Types.{core, of_structure, structured, listed, ended, section_fields, sections, sections_end, variant_part}
use Rattle.ep_marks.specs.declared.mark.Mark.{Mark}
use Rattle.ep_marks.specs.Marks.{marks}
use Rattle.ep_marks.specs.Productions as styles
use Rattle.ep_marks.specs.Styles.{Style, plain, choice, shapes, ◌&◌}
use Rattle.ep_marks.specs.Texts.{inner_at}
use Rattle.ep_marker.specs.declared.marker.Marker.{Marker}
use Rattle.ep_marker.specs.Marking.{IsRefused, Marked, SectionsMarked, SectionsWalked, Walked}
use Rattle.ep_marker.proofs.Forms as forms
use Rattle.ep_marker.proofs.Forms.{added}
use Rattle.ep_marker.proofs.Walks.{firsts, going, refused-then, same-cause, seconds, switch-firsts, switch-seconds, went-on}

truth : (b : Bool) → (true ≡ b) ⊎ (false ≡ b)
truth true = inl refl
truth false = inr refl

-- ---- cores

abbrev pub core-style : Style
core-style = choice plain (choice plain (choice styles.structured (choice plain (choice plain plain))))

-- what begins a structured type is a word symbol
no-symbol : (c : Class) (n : ℕ) → true ≡ has of_structure c → false ≡ has (Symbol n ∷ []) c
no-symbol (Word w) n h = refl
no-symbol (Symbol k) n h = absurd cc
no-symbol Name n h = absurd cc
no-symbol Number n h = absurd cc
no-symbol Text n h = absurd cc
no-symbol Interface n h = absurd cc
no-symbol Implementation n h = absurd cc
no-symbol Forward n h = absurd cc
no-symbol End n h = absurd cc

module _ {X : Type 0} {room depth : ℕ} {cs : List Class} {s t : Syntax X} {a b : Marker} where
  marked-first-of : true ≡ has cs (class_of a.reader) → Marked room plain (either cs s t) depth a b → Marked room plain s depth a b
  marked-first-of h m = record { meaning = m.meaning; reads = (rw (sym h) at m.reads); adds = (rw (sym h) at m.adds) }

  marked-second-of : false ≡ has cs (class_of a.reader) → Marked room plain (either cs s t) depth a b → Marked room plain t depth a b
  marked-second-of h m = record { meaning = m.meaning; reads = (rw (sym h) at m.reads); adds = (rw (sym h) at m.adds) }

  marked-switched-first : true ≡ has cs (class_of a.reader) → Marked room plain (switch cs s t) depth a b → Marked room plain s depth a b
  marked-switched-first h m = record { meaning = m.meaning; reads = (rw (sym h) at m.reads); adds = (rw (sym h) at m.adds) }

  marked-switched-second : false ≡ has cs (class_of a.reader) → Marked room plain (switch cs s t) depth a b → Marked room plain t depth a b
  marked-switched-second h m = record { meaning = m.meaning; reads = (rw (sym h) at m.reads); adds = (rw (sym h) at m.adds) }

module _ {X : Type 0} {room depth : ℕ} {cs : List Class} {s t : Syntax X} {a b : Marker} where
  first-of : true ≡ has cs (class_of a.reader) → Walked room plain (either cs s t) depth a b → Walked room plain s depth a b
  first-of h m = record { stays = m.stays; stops = λ e p q ne. (rw (sym h) at (m.stops e p q ne)); marked = λ p q. marked-first-of h (m.marked p q) }

  second-of : false ≡ has cs (class_of a.reader) → Walked room plain (either cs s t) depth a b → Walked room plain t depth a b
  second-of h m = record { stays = m.stays; stops = λ e p q ne. (rw (sym h) at (m.stops e p q ne)); marked = λ p q. marked-second-of h (m.marked p q) }

  switched-first : true ≡ has cs (class_of a.reader) → Walked room plain (switch cs s t) depth a b → Walked room plain s depth a b
  switched-first h m = record { stays = m.stays; stops = λ e p q ne. (rw (sym h) at (m.stops e p q ne)); marked = λ p q. marked-switched-first h (m.marked p q) }

  switched-second : false ≡ has cs (class_of a.reader) → Walked room plain (switch cs s t) depth a b → Walked room plain t depth a b
  switched-second h m = record { stays = m.stays; stops = λ e p q ne. (rw (sym h) at (m.stops e p q ne)); marked = λ p q. marked-switched-second h (m.marked p q) }

  -- the first in no style of its own, and the second in this one
  spread : {z : Style} → Walked room plain (either cs s t) depth a b → (Walked room plain t depth a b → Walked room z t depth a b) → Walked room (choice plain z) (either cs s t) depth a b
  spread m f =
      elim (truth (has cs (class_of a.reader))) [
        | inl h ↦ firsts h (first-of h m)
        | inr h ↦ seconds h (f (second-of h m))
      ]

  spread-switch : {z : Style} → Walked room plain (switch cs s t) depth a b → (Walked room plain t depth a b → Walked room z t depth a b) → Walked room (choice plain z) (switch cs s t) depth a b
  spread-switch m f =
      elim (truth (has cs (class_of a.reader))) [
        | inl h ↦ switch-firsts h (switched-first h m)
        | inr h ↦ switch-seconds h (f (switched-second h m))
      ]

pub core-structured : {room depth : ℕ} {a b : Marker} → true ≡ has of_structure (class_of a.reader) → Walked room styles.structured structured depth a b → Walked room core-style core depth a b
unfolding core
core-structured {a = a} h m = switch-seconds (no-symbol (class_of a.reader) _ h) (seconds (no-symbol (class_of a.reader) _ h) (firsts h m))

pub core-plain : {room depth : ℕ} {a b : Marker} → false ≡ has of_structure (class_of a.reader) → Walked room plain core depth a b → Walked room core-style core depth a b
unfolding core
core-plain h m = spread-switch m (λ n. spread n (λ o. seconds h (spread (second-of h o) (λ p. spread p (λ q. q)))))

-- ---- fields

abbrev fields-style : Bool → Style
fields-style r = plain & plain & shapes (styles.sections r) (plain & styles.variant_part r) plain

-- the node of sections alone
sections-node : List FieldSection → ℕ → Fields
sections-node fs at = fields_node at fs None

module _ {room depth : ℕ} {r : Bool} {a b : Marker} where
  -- sections, a semicolon and a variant part
  marked-fields-end : {c : Marker} → SectionsMarked room r depth true a b → true ≡ has (Word word.CASE ∷ []) (class_of b.reader) → Marked room (styles.variant_part r) variant_part depth b c → Marked room (fields-style r) section_fields depth a c
  unfolding section_fields sections_end
  marked-fields-end {c} s h m =
      let ms : List Mark = marks (inside_at room) (inner_at room) (styles.sections r) sections a.reader in
      let k : Marked room (plain & styles.variant_part r) sections_end depth b c = forms.ands forms.gives m in
      forms.ands (forms.ands forms.gives forms.lines) (record {
        meaning = k.meaning s.found;
        reads = rw (s.reads, sym h, k.reads) refl;
        adds = added depth a.marks.items b.marks.items c.marks.items ms _ _ s.adds k.adds (rw (s.reads, sym h) refl);
      })

  -- sections alone
  marked-fields-alone : {e : Bool} → SectionsMarked room r depth e a b → false ≡ has (Word word.CASE ∷ []) (class_of b.reader) → Marked room (fields-style r) section_fields depth a b
  unfolding section_fields sections_end sections-node
  marked-fields-alone {e} s h =
      let ms : List Mark = marks (inside_at room) (inner_at room) (styles.sections r) sections a.reader in
      let g : Marked room plain (give sections-node) depth b b = forms.gives in
      forms.ands (forms.ands forms.gives forms.lines) (record {
        meaning = sections-node s.found;
        reads = rw (s.reads, sym h) refl;
        adds = added depth a.marks.items b.marks.items b.marks.items ms _ _ s.adds g.adds (rw (s.reads, sym h) refl);
      })

  -- sections without a semicolon behind them
  marked-fields-open : SectionsMarked room r depth false a b → Marked room (fields-style r) section_fields depth a b
  unfolding section_fields sections_end sections-node
  marked-fields-open s =
      let ms : List Mark = marks (inside_at room) (inner_at room) (styles.sections r) sections a.reader in
      let g : Marked room plain (give sections-node) depth b b = forms.gives in
      elim (truth (has (Word word.CASE ∷ []) (class_of b.reader))) [
        | inl h ↦
            forms.ands (forms.ands forms.gives forms.lines) (record {
              meaning = sections-node s.found;
              reads = rw (s.reads, sym h) refl;
              adds = added depth a.marks.items b.marks.items b.marks.items ms _ _ s.adds g.adds (rw (s.reads, sym h) refl);
            })
        | inr h ↦ marked-fields-alone s h
      ]

-- whether a semicolon follows the last section
pub known : {room depth : ℕ} {r e f : Bool} {a b : Marker} → e ≡ f → SectionsWalked room r depth e a b → SectionsWalked room r depth f a b
known {room} {depth} {r} {e} {f} {a} {b} h s = subst (λ w. SectionsWalked room r depth w a b) h s

-- what begins with sections that are refused is refused
no-sections : (room : ℕ) (i : List Token) → IsRefused (read (inside_at room) sections i) → IsRefused (read (inside_at room) section_fields i)
unfolding section_fields
no-sections room i h =
    let node : List FieldSection → ℕ → Fields = λ fs at. fields_node at fs None in
    let rest : Syntax (ℕ → Fields) = shaped sections ended (on_word word.CASE) sections_end listed (give node) (always_second (λ p. tt {0})) in
    let behind : List FieldSection × Bool → Parser (ℕ → Fields) = λ y j.
    (if has (on_word word.CASE) (class_of j)
    then by_shape (ended y) (read (inside_at room) sections_end) (by_shape (listed y) (read (inside_at room) (give node)) refused) j
    else by_shape (listed y) (read (inside_at room) (give node)) refused j) in
    refused-then (read (inside_at room) rest i) (λ x k. Ok (x (line_of i), k)) (refused-then (read (inside_at room) sections i) behind h)

module _ {room depth : ℕ} {r : Bool} {a b : Marker} where
  -- so is what has a variant part that is refused
  no-variants : SectionsMarked room r depth true a b → true ≡ has (on_word word.CASE) (class_of b.reader) → IsRefused (read (inside_at room) variant_part b.reader) → IsRefused (read (inside_at room) section_fields a.reader)
  unfolding section_fields sections_end
  no-variants s h v =
      let node : VariantPart → List FieldSection → ℕ → Fields = λ x fs at. fields_node at fs (Some x) in
      let one : ReadOutcome (List FieldSection → ℕ → Fields) = and_then (read (inside_at room) variant_part b.reader) (λ x k. Ok (node x, k)) in
      let two : ReadOutcome (ℕ → Fields) = and_then one (λ g k. Ok (g s.found, k)) in
      let last : IsRefused two = refused-then one (λ g k. Ok (g s.found, k)) (refused-then (read (inside_at room) variant_part b.reader) (λ x k. Ok (node x, k)) v) in
      rw (s.reads, sym h) (refused-then two (λ g k. Ok (g (line_of a.reader), k)) last)

  -- sections, a semicolon and a variant part
  pub fields-end : {c : Marker} → SectionsWalked room r depth true a b → true ≡ has (on_word word.CASE) (class_of b.reader) → Walked room (styles.variant_part r) variant_part depth b c → Walked room (fields-style r) section_fields depth a c
  fields-end {c} s h m = record {
    stays = λ e p. m.stays e (s.stays e p);
    stops = λ e p q ne.
        elim (going b.stop) [
          | inl g ↦ no-variants (s.marked p g) h (m.stops e g q ne)
          | inr d ↦ no-sections room a.reader (s.stops d.0 p d.1 (same-cause (m.stays d.0 d.1) q ne))
        ];
    marked = λ p q. (let g = went-on m.stays q in marked-fields-end (s.marked p g) h (m.marked g q));
  }

  -- sections alone
  pub fields-alone : {e : Bool} → SectionsWalked room r depth e a b → false ≡ has (on_word word.CASE) (class_of b.reader) → Walked room (fields-style r) section_fields depth a b
  fields-alone s h = record {
    stays = s.stays;
    stops = λ e p q ne. no-sections room a.reader (s.stops e p q ne);
    marked = λ p q. marked-fields-alone (s.marked p q) h;
  }

  -- sections without a semicolon behind them
  pub fields-open : SectionsWalked room r depth false a b → Walked room (fields-style r) section_fields depth a b
  fields-open s = record {
    stays = s.stays;
    stops = λ e p q ne. no-sections room a.reader (s.stops e p q ne);
    marked = λ p q. marked-fields-open (s.marked p q);
  }
