-- The records of a `with`, one more at the end.
use Rattle.std.proofs.Common.{◌≡◌, List, [], ◌∷◌, ◌++◌, refl, ap}
use Rattle.ep_typed.specs.Viewed.{with_record_of}
use Rattle.ep_typed.specs.declared.tree.WithRecord.{WithRecord}
use Rattle.ep_stmt_rules.specs.Answers.{heads_of}

pub heads_more : (heads : List WithRecord) (last : WithRecord) → heads_of (heads ++ last ∷ []) ≡ heads_of heads ++ with_record_of last ∷ []
heads_more [] last = refl
heads_more (h ∷ heads) last = ap (λ hs. with_record_of h ∷ hs) (heads_more heads last)
