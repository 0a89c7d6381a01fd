-- Records that go behind a trace one after another.
use Rattle.std.proofs.Common.{◌≡◌, List, [], ◌∷◌, ◌++◌, refl}
use Rattle.meaning.specs.declared.record.Record.{Record}
use Rattle.meaning.specs.Records.{added, added_all}

pub added_all-append : (trace rs ss : List Record) → added_all trace (rs ++ ss) ≡ added_all (added_all trace rs) ss
added_all-append trace [] ss = refl
added_all-append trace (r ∷ rs) ss = added_all-append (added trace r) rs ss
