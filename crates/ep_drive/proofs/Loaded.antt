-- A file of a directory has one text.
use Rattle.std.proofs.Common.{◌≡◌, ℕ, ◌<◌, ◌≤◌, length, List, None, Some, sym, ap, ◌∙◌, subst, arith}
use Rattle.std.proofs.lemmas.Option.{same_Some}
use Rattle.ep_outside.specs.Known.{Directory}
use Rattle.ep_drive.specs.Refusals.{source_limit}
use Rattle.ep_drive.specs.Verdicts.{HasText, IsLoaded}

-- what holds of the text of a file, from what else holds of it
pub weaker : (d : Directory) (P Q : List ℕ → Type 0) → ((text : List ℕ) → P text → Q text) → (file : List ℕ) → HasText d P file → HasText d Q file
weaker d P Q f file t = record { text = t.text; is = t.is; short = t.short; holds = f t.text t.holds }

pub text-loaded : (d : Directory) (P : List ℕ → Type 0) (file : List ℕ) → HasText d P file → IsLoaded d file
text-loaded d P file t = record { text = t.text; is = t.is; short = t.short; holds = tt }

-- both facts are about one text
pub same_text : (d : Directory) (P Q : List ℕ → Type 0) (file : List ℕ) (a : HasText d P file) (b : HasText d Q file) → b.text ≡ a.text
same_text d P Q file a b = same_Some b.text a.text (sym b.is ∙ a.is)

pub both_texts : {C : Type 0} (d : Directory) (P Q : List ℕ → Type 0) (file : List ℕ) → ((text : List ℕ) → P text → Q text → C) → HasText d P file → HasText d Q file → C
both_texts d P Q file f a b = f a.text a.holds (subst Q (same_text d P Q file a b) b.holds)

-- what is missing or too long is not loaded
pub not_missing : (d : Directory) (file : List ℕ) → d file ≡ None → IsLoaded d file → ⊥
not_missing d file none t = let no : None ≡ Some t.text = sym none ∙ t.is in cc

pub not_long : (d : Directory) (file text : List ℕ) → d file ≡ Some text → source_limit < length text → IsLoaded d file → ⊥
not_long d file text is long t =
    let same : t.text ≡ text = same_Some t.text text (sym t.is ∙ is) in
    let bytes : length t.text ≡ length text = ap length same in
    let short : length t.text ≤ source_limit = t.short in
    omega arith
