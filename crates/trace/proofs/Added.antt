-- A record added to records with a last one.
use Rattle.std.proofs.Common.{◌≡◌, List, [], ◌∷◌, ◌++◌, refl, ap}
use Rattle.meaning.specs.declared.record.Record.{Record}
use Rattle.meaning.specs.Records.{joined, added}

pub added_last : (earlier : List Record) (last r : Record) → added (earlier ++ last ∷ []) r ≡ earlier ++ joined last r
added_last [] last r = refl
added_last (x ∷ []) last r = refl
added_last (x ∷ y ∷ ys) last r = ap (λ rs. x ∷ rs) (added_last (y ∷ ys) last r)
