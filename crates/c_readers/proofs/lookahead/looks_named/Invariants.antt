use Rattle.std.proofs.Common.{◌≡◌, drop}
use Rattle.c_tree.specs.Marks.{kinds_of}
use Rattle.c_readers.specs.inner.Readers.{looks_named}
use Rattle.c_readers.proofs.lookahead.looks_named.Given as goal

abbrev pub invariant-loop-token : goal.invariant-loop-token
invariant-loop-token l = looks_named l.names l.fn.tokens ≡ looks_named l.names (kinds_of (drop l.token-index l.token-items))
