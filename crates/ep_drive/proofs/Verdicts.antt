-- There is at most one verdict on words and a directory, and what there is one on.
use Rattle.std.proofs.Common.{◌≡◌, ℕ, ◌<◌, ◌≤◌, length, replicate, List, [], ◌∷◌, ◌++◌, ◌⊎◌, inl, inr, Option, None, Some, refl, sym, ap, ◌∙◌, subst}
use Rattle.std.specs.Prelude.{All, IsSomeAnd}
use Rattle.std.proofs.lemmas.List.Elements.{All-nil, All-cons, All-head, All-tail, All-weaker}
use Rattle.std.proofs.lemmas.List.{length-replicate}
use Rattle.std.proofs.lemmas.Option.{same_Some}
use Rattle.ep_outside.specs.Known.{Directory, HasFile, HasLength}
use Rattle.ep_typed.specs.declared.unit.Unit.{Unit as TypedUnit}
use Rattle.ep_drive.specs.Commands.{Command, WordsOf}
use Rattle.ep_drive.specs.Commands as commands
use Rattle.ep_drive.specs.ProgramTexts.{HasUnbuilt, HasTree, IsBuilt, IsSound, Joins}
use Rattle.ep_drive.specs.Refusals.{Refusal, Usage, Missing, TooLong, InSource, source_limit, IsOutside, IsRuledOut, IsRefusedText, AreAlike}
use Rattle.ep_drive.specs.Verdicts.{Job, Go, Verdict, Refuse, Begin, IsSameVerdict, IsFirst, HasText, IsLoaded, AreTexts, OfSources, missing, too_long, outside, not_built, ruled_out, begin, OfCommand, IsVerdict, usage, asked, IsTold, HasVerdict}
use Rattle.ep_drive.specs.declared.source.SourceRefusal.{SourceRefusal}
use Rattle.ep_drive.specs.declared.source.SourceRefusal.TheVariants as source
use Rattle.ep_drive.proofs.Causes.{one_refusal, no_tree, one_unbuilt}
use Rattle.ep_drive.proofs.Loaded.{weaker, text-loaded, both_texts, not_missing, not_long}
use Rattle.ep_drive.proofs.Ruled.{one_ruled, ruled_unsound}
use Rattle.ep_drive.proofs.Sources.{has_built, sound_built}
use Rattle.ep_drive.proofs.WordRows.{words-one}

-- ---- the first that does not pass

module _ {A : Type 0} (P : A → Type 0) where
  middle : (before after : List A) (x : A) → All P (before ++ x ∷ after) → P x
  middle [] after x h = All-head P x after h
  middle (y ∷ before) after x h = middle before after x (All-tail P y (before ++ x ∷ after) h)

  first_fails : (x : A) (xs : List A) → IsFirst P x xs → (P x → ⊥) → All P xs → ⊥
  first_fails x xs f nx h = nx (middle f.before f.after x (subst (All P) f.is h))

  firsts : (us bs cs ds : List A) (x y : A) → us ++ x ∷ bs ≡ cs ++ y ∷ ds → All P us → All P cs → (P x → ⊥) → (P y → ⊥) → x ≡ y
  firsts [] bs [] ds x y e p q nx ny = cc
  firsts [] bs (c ∷ cs) ds x y e p q nx ny = let same : x ≡ c = cc in absurd (nx (subst P (sym same) (All-head P c cs q)))
  firsts (u ∷ us) bs [] ds x y e p q nx ny = let same : u ≡ y = cc in absurd (ny (subst P same (All-head P u us p)))
  firsts (u ∷ us) bs (c ∷ cs) ds x y e p q nx ny =
      let rest : us ++ x ∷ bs ≡ cs ++ y ∷ ds = cc in
      firsts us bs cs ds x y rest (All-tail P u us p) (All-tail P c cs q) nx ny

  first_same : (x y : A) (xs : List A) → IsFirst P x xs → (P x → ⊥) → IsFirst P y xs → (P y → ⊥) → x ≡ y
  first_same x y xs f nx g ny = firsts f.before f.after g.before g.after x y (sym f.is ∙ g.is) f.passed g.passed nx ny

-- ---- the same verdict

alike_itself : (why : SourceRefusal) → AreAlike why why
alike_itself (source.Broken b) = refl
alike_itself (source.Token refusal) = refl
alike_itself (source.Parse refusal) = refl
alike_itself (source.NotBuilt line) = refl
alike_itself (source.TooLarge name nodes) = refl

refused_itself : (r : Refusal) → IsSameVerdict (Refuse r) (Refuse r)
refused_itself Usage = refl
refused_itself (Missing file) = refl
refused_itself (TooLong file bytes) = refl
refused_itself (InSource file why) = (refl, alike_itself why)

itself : (v : Verdict) → IsSameVerdict v v
itself (Refuse r) = refused_itself r
itself (Begin job) = refl

same : (v w : Verdict) → v ≡ w → IsSameVerdict v w
same v w e = subst (IsSameVerdict v) e (itself v)

-- ---- the verdict on sources

module _ (d : Directory) (sources : List (List ℕ)) (job : List (List ℕ) → Job) where
  -- a source is the first that does not pass, and it gives this verdict
  record Fails (Passes : List ℕ → Type 0) (Gives : List ℕ → Verdict → Type 0) (v : Verdict) : Type 0 where
    file : List ℕ
    first : IsFirst Passes file sources
    stops : Passes file → ⊥
    gives : Gives file v

  -- a source does not pass, or all do and there is more
  abbrev Tested : (List ℕ → Type 0) → (List ℕ → Verdict → Type 0) → (Verdict → Type 0) → Verdict → Type 0
  Tested Passes Gives More v = Fails Passes Gives v ⊎ (All Passes sources × More v)

  -- at most one verdict holds
  abbrev IsOne : (Verdict → Type 0) → Type 0
  IsOne P = (v w : Verdict) → P v → P w → IsSameVerdict v w

  tested_one : (Passes : List ℕ → Type 0) (Gives : List ℕ → Verdict → Type 0) (More : Verdict → Type 0) → ((file : List ℕ) → IsOne (Gives file)) → IsOne More → IsOne (Tested Passes Gives More)
  tested_one Passes Gives More one more v w (inl a) (inl b) =
      let files : b.file ≡ a.file = first_same Passes b.file a.file sources b.first b.stops a.first a.stops in
      one a.file v w a.gives (subst (λ file. Gives file w) files b.gives)
  tested_one Passes Gives More one more v w (inl a) (inr b) = absurd (first_fails Passes a.file sources a.first a.stops b.0)
  tested_one Passes Gives More one more v w (inr a) (inl b) = absurd (first_fails Passes b.file sources b.first b.stops a.0)
  tested_one Passes Gives More one more v w (inr a) (inr b) = more v w a.1 b.1

  abbrev GivesUnloaded : List ℕ → Verdict → Type 0
  GivesUnloaded file v = ((d file ≡ None) × (v ≡ Refuse (Missing file))) ⊎ ((text : List ℕ) × (d file ≡ Some text) × (v ≡ Refuse (TooLong file (length text))))

  abbrev GivesOutside : List ℕ → Verdict → Type 0
  GivesOutside file v = (why : SourceRefusal) × HasText d (λ text. IsOutside text why) file × (v ≡ Refuse (InSource file why))

  abbrev GivesUnbuilt : List ℕ → Verdict → Type 0
  GivesUnbuilt file v = (line : ℕ) × HasText d (λ text. HasUnbuilt text (Some line)) file × (v ≡ Refuse (InSource file (source.NotBuilt line)))

  abbrev GivesRuled : List ℕ → Verdict → Type 0
  GivesRuled file v = (why : SourceRefusal) × HasText d (λ text. IsRuledOut text why) file × (v ≡ Refuse (InSource file why))

  abbrev GivesJob : Verdict → Type 0
  GivesJob v = (texts : List (List ℕ)) × AreTexts d sources texts × (v ≡ Begin (job texts))

  unloaded_one : (file : List ℕ) → IsOne (GivesUnloaded file)
  unloaded_one file v w (inl a) (inl b) = same v w (a.1 ∙ sym b.1)
  unloaded_one file v w (inl a) (inr b) = let no : None ≡ Some b.0 = sym a.0 ∙ b.1 in absurd cc
  unloaded_one file v w (inr a) (inl b) = let no : None ≡ Some a.0 = sym b.0 ∙ a.1 in absurd cc
  unloaded_one file v w (inr a) (inr b) =
      let texts : a.0 ≡ b.0 = same_Some a.0 b.0 (sym a.1 ∙ b.1) in
      same v w (a.2 ∙ ap (λ text. Refuse (TooLong file (length text))) texts ∙ sym b.2)

  outside_one : (file : List ℕ) → IsOne (GivesOutside file)
  outside_one file v w a b =
      let reasons : a.0 ≡ b.0 = both_texts d (λ text. IsOutside text a.0) (λ text. IsOutside text b.0) file (λ text p q. one_refusal text a.0 b.0 p q) a.1 b.1 in
      same v w (a.2 ∙ ap (λ why. Refuse (InSource file why)) reasons ∙ sym b.2)

  unbuilt_one : (file : List ℕ) → IsOne (GivesUnbuilt file)
  unbuilt_one file v w a b =
      let lines : Some a.0 ≡ Some b.0 = both_texts d (λ text. HasUnbuilt text (Some a.0)) (λ text. HasUnbuilt text (Some b.0)) file (λ text p q. one_unbuilt text (Some a.0) (Some b.0) p q) a.1 b.1 in
      same v w (a.2 ∙ ap (λ line. Refuse (InSource file (source.NotBuilt line))) (same_Some a.0 b.0 lines) ∙ sym b.2)

  ruled_one : (file : List ℕ) → IsOne (GivesRuled file)
  ruled_one file v w a b =
      let alike : AreAlike a.0 b.0 = both_texts d (λ text. IsRuledOut text a.0) (λ text. IsRuledOut text b.0) file (λ text p q. one_ruled text a.0 b.0 p q) a.1 b.1 in
      subst (λ x. IsSameVerdict x w) (sym a.2) (subst (IsSameVerdict (Refuse (InSource file a.0))) (sym b.2) (refl, alike))

  texts_one : (files texts others : List (List ℕ)) → AreTexts d files texts → AreTexts d files others → texts ≡ others
  texts_one [] [] [] a b = refl
  texts_one [] [] (other ∷ others) a b = absurd b
  texts_one [] (text ∷ texts) others a b = absurd a
  texts_one (file ∷ files) [] others a b = absurd a
  texts_one (file ∷ files) (text ∷ texts) [] a b = absurd b
  texts_one (file ∷ files) (text ∷ texts) (other ∷ others) a b =
      let first : text ≡ other = both_texts d (λ x. x ≡ text) (λ x. x ≡ other) file (λ x p q. sym p ∙ q) a.0 b.0 in
      λ i. first i ∷ texts_one files texts others a.1 b.1 i

  job_one : IsOne GivesJob
  job_one v w a b = same v w (a.2 ∙ ap (λ texts. Begin (job texts)) (texts_one sources a.0 b.0 a.1 b.1) ∙ sym b.2)

  -- the tests one after the other
  abbrev OfTests : Verdict → Type 0
  OfTests = Tested (IsLoaded d) GivesUnloaded (Tested (HasText d HasTree) GivesOutside (Tested (HasText d IsBuilt) GivesUnbuilt (Tested (HasText d IsSound) GivesRuled GivesJob)))

  all_loaded : (P : List ℕ → Type 0) → All (HasText d P) sources → All (IsLoaded d) sources
  all_loaded P = All-weaker (HasText d P) (IsLoaded d) (text-loaded d P) sources

  built_tree : (text : List ℕ) → IsBuilt text → HasTree text
  built_tree text b = (None, b)

  all_trees : All (HasText d IsBuilt) sources → All (HasText d HasTree) sources
  all_trees = All-weaker (HasText d IsBuilt) (HasText d HasTree) (weaker d IsBuilt HasTree built_tree) sources

  all_built : All (HasText d IsSound) sources → All (HasText d IsBuilt) sources
  all_built = All-weaker (HasText d IsSound) (HasText d IsBuilt) (weaker d IsSound IsBuilt sound_built) sources

  texts_sound : (files texts : List (List ℕ)) (units : List TypedUnit) → AreTexts d files texts → Joins texts units → All (HasText d IsSound) files
  texts_sound [] [] units a j = All-nil (HasText d IsSound)
  texts_sound [] (text ∷ texts) units a j = absurd a
  texts_sound (file ∷ files) [] units a j = absurd a
  texts_sound (file ∷ []) (text ∷ []) (unit ∷ []) a j =
      All-cons (HasText d IsSound) file [] (weaker d (λ x. x ≡ text) IsSound (λ x e. subst IsSound (sym e) (unit, j)) file a.0) (All-nil (HasText d IsSound))
  texts_sound (file ∷ []) (text ∷ []) [] a j = absurd j
  texts_sound (file ∷ []) (text ∷ []) (unit ∷ next ∷ units) a j = absurd j
  texts_sound (file ∷ next ∷ files) (text ∷ []) units a j = absurd a.1
  texts_sound (file ∷ files) (text ∷ other ∷ texts) units a j = absurd j

  tests : (v : Verdict) → OfSources d sources job v → OfTests v
  tests v (missing file first none) = inl (record { file = file; first = first; stops = not_missing d file none; gives = inl (none, refl) })
  tests v (too_long file text first is long) = inl (record { file = file; first = first; stops = not_long d file text is long; gives = inr (text, is, refl) })
  tests v (outside file why loaded first gives) =
      inr (loaded, inl (record { file = file; first = first; stops = λ t. both_texts d (λ text. IsOutside text why) HasTree file (λ text p q. no_tree text why p q) gives t; gives = (why, gives, refl) }))
  tests v (not_built file line trees first gives) =
      inr (
        all_loaded HasTree trees,
        inr (
          trees,
          inl (record {
            file = file;
            first = first;
            stops = λ t. both_texts d (λ text. HasUnbuilt text (Some line)) IsBuilt file (λ text p q. not_none line (one_unbuilt text (Some line) None p q)) gives t;
            gives = (line, gives, refl);
          }),
        ),
      )
    where
      not_none : (line : ℕ) → Some line ≡ None → ⊥
      not_none line e = cc
  tests v (ruled_out file why built first gives) =
      inr (
        all_loaded IsBuilt built,
        inr (
          all_trees built,
          inr (
            built,
            inl (record {
              file = file;
              first = first;
              stops = λ t. both_texts d (λ text. IsRuledOut text why) IsSound file (λ text p q. ruled_unsound text why p q) gives t;
              gives = (why, gives, refl);
            }),
          ),
        ),
      )
  tests v (begin texts units are joins) =
      let sound = texts_sound sources texts units are joins in
      let built = all_built sound in
      inr (all_loaded IsBuilt built, inr (all_trees built, inr (built, inr (sound, (texts, are, refl)))))

  sources_one : IsOne (OfSources d sources job)
  sources_one v w a b =
      tested_one (IsLoaded d) GivesUnloaded (Tested (HasText d HasTree) GivesOutside (Tested (HasText d IsBuilt) GivesUnbuilt (Tested (HasText d IsSound) GivesRuled GivesJob))) unloaded_one
      (tested_one (HasText d HasTree) GivesOutside (Tested (HasText d IsBuilt) GivesUnbuilt (Tested (HasText d IsSound) GivesRuled GivesJob)) outside_one
      (tested_one (HasText d IsBuilt) GivesUnbuilt (Tested (HasText d IsSound) GivesRuled GivesJob) unbuilt_one (tested_one (HasText d IsSound) GivesRuled GivesJob ruled_one job_one)))
      v w (tests v a) (tests w b)

-- ---- the verdict on words

command_one : (command : Command) (d : Directory) (v w : Verdict) → OfCommand command d v → OfCommand command d w → IsSameVerdict v w
command_one (commands.Go budget sources) d v w a b = sources_one d sources (Go budget) v w a b

pub one_verdict : (words : List (List ℕ)) (d : Directory) (v w : Verdict) → IsVerdict words d v → IsVerdict words d w → IsSameVerdict v w
one_verdict words d v w (usage none) (usage nothing) = refl
one_verdict words d v w (usage none) (asked command is of) = absurd (none command is)
one_verdict words d v w (asked command is of) (usage none) = absurd (none command is)
one_verdict words d v w (asked command is of) (asked other it by) =
    command_one command d v w of (subst (λ c. OfCommand c d w) (words-one words command other is it) by)

-- ---- the verdicts on one source

-- a directory that is as the files tell it, of which this holds
record IsKnown (files : Option Directory) (P : Directory → Type 0) : Type 0 where
  directory : Directory
  told : IsTold files directory
  holds : P directory

known_file : (files : Option Directory) (file : List ℕ) (content : Option (List ℕ)) → HasFile files file content → IsKnown files (λ d. d file ≡ content)
known_file None file content h = record { directory = λ name. content; told = tt; holds = refl }
known_file (Some d) file content h = record { directory = d; told = λ name. refl; holds = h }

known_length : (files : Option Directory) (file : List ℕ) (n : ℕ) → HasLength files file n → IsKnown files (λ d. (text : List ℕ) × (d file ≡ Some text) × (length text ≡ n))
known_length None file n h = record { directory = λ name. Some (replicate n 0); told = tt; holds = (replicate n 0, refl, length-replicate n 0) }
known_length (Some d) file n h = record { directory = d; told = λ name. refl; holds = there (d file) refl h }
  where
    there : (o : Option (List ℕ)) → d file ≡ o → IsSomeAnd o (λ bytes. length bytes ≡ n) → (text : List ℕ) × (d file ≡ Some text) × (length text ≡ n)
    there None e p = absurd p
    there (Some text) e p = (text, e, p)

only_first : (P : List ℕ → Type 0) (file : List ℕ) → IsFirst P file (file ∷ [])
only_first P file = record { before = []; after = []; is = refl; passed = All-nil P }

only_all : (P : List ℕ → Type 0) (file : List ℕ) → P file → All P (file ∷ [])
only_all P file p = All-cons P file [] p (All-nil P)

-- where the files tell nothing at all the words alone decide
pub usage_verdict : (words : List (List ℕ)) (files : Option Directory) → ((command : Command) → WordsOf words command → ⊥) → HasVerdict words files (Refuse Usage)
usage_verdict words None none = record { directory = λ name. None; told = tt; is = usage none }
usage_verdict words (Some d) none = record { directory = d; told = λ name. refl; is = usage none }

module _ (words : List (List ℕ)) (files : Option Directory) (budget : ℕ) (file : List ℕ) (command : WordsOf words (commands.Go budget (file ∷ []))) where
  go_asked : (d : Directory) (v : Verdict) → OfSources d (file ∷ []) (Go budget) v → IsVerdict words d v
  go_asked d v of = asked (commands.Go budget (file ∷ [])) command of

  pub missing_verdict : HasFile files file None → HasVerdict words files (Refuse (Missing file))
  missing_verdict h =
      let k = known_file files file None h in
      record { directory = k.directory; told = k.told; is = go_asked k.directory (Refuse (Missing file)) (missing file (only_first (IsLoaded k.directory) file) k.holds) }

  pub long_verdict : (n : ℕ) → source_limit < n → HasLength files file n → HasVerdict words files (Refuse (TooLong file n))
  long_verdict n long h =
      let k = known_length files file n h in
      let x = k.holds in
      record {
        directory = k.directory;
        told = k.told;
        is = subst (λ m. IsVerdict words k.directory (Refuse (TooLong file m))) x.2
            (go_asked k.directory (Refuse (TooLong file (length x.0))) (too_long file x.0 (only_first (IsLoaded k.directory) file) x.1 (subst (λ m. source_limit < m) (sym x.2) long)));
      }

  module _ (text : List ℕ) (loaded : HasFile files file (Some text)) (short : length text ≤ source_limit) where
    has : (P : List ℕ → Type 0) (d : Directory) → d file ≡ Some text → P text → HasText d P file
    has P d is p = record { text = text; is = is; short = short; holds = p }

    outside_verdict : (why : SourceRefusal) → IsOutside text why → HasVerdict words files (Refuse (InSource file why))
    outside_verdict why c =
        let k = known_file files file (Some text) loaded in
        let d = k.directory in
        record {
          directory = d;
          told = k.told;
          is = go_asked d (Refuse (InSource file why))
              (outside file why (only_all (IsLoaded d) file (has (λ t. Unit {0}) d k.holds tt)) (only_first (HasText d HasTree) file) (has (λ t. IsOutside t why) d k.holds c));
        }

    ruled_verdict : (why : SourceRefusal) → IsRuledOut text why → HasVerdict words files (Refuse (InSource file why))
    ruled_verdict why c =
        let k = known_file files file (Some text) loaded in
        let d = k.directory in
        record {
          directory = d;
          told = k.told;
          is = go_asked d (Refuse (InSource file why))
              (ruled_out file why (only_all (HasText d IsBuilt) file (has IsBuilt d k.holds (has_built text _ c))) (only_first (HasText d IsSound) file) (has (λ t. IsRuledOut t why) d k.holds c));
        }

    -- a text that is refused
    pub text_verdict : (why : SourceRefusal) → IsRefusedText text why → HasVerdict words files (Refuse (InSource file why))
    text_verdict (source.Token refusal) c = outside_verdict (source.Token refusal) c
    text_verdict (source.Parse refusal) c = outside_verdict (source.Parse refusal) c
    text_verdict (source.Broken b) c = ruled_verdict (source.Broken b) c
    text_verdict (source.TooLarge name nodes) c = ruled_verdict (source.TooLarge name nodes) c
    text_verdict (source.NotBuilt line) (inr c) = ruled_verdict (source.NotBuilt line) c
    text_verdict (source.NotBuilt line) (inl c) =
        let k = known_file files file (Some text) loaded in
        let d = k.directory in
        record {
          directory = d;
          told = k.told;
          is = go_asked d (Refuse (InSource file (source.NotBuilt line)))
              (not_built file line (only_all (HasText d HasTree) file (has HasTree d k.holds (Some line, c))) (only_first (HasText d IsBuilt) file) (has (λ t. HasUnbuilt t (Some line)) d k.holds c));
        }

    -- a text that is a program
    pub begin_verdict : (units : List TypedUnit) → Joins (text ∷ []) units → HasVerdict words files (Begin (Go budget (text ∷ [])))
    begin_verdict units joins =
        let k = known_file files file (Some text) loaded in
        let d = k.directory in
        record { directory = d; told = k.told; is = go_asked d (Begin (Go budget (text ∷ []))) (begin (text ∷ []) units (has (λ t. t ≡ text) d k.holds refl, tt) joins) }
