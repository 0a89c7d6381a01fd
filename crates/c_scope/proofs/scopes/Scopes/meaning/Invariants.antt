use Rattle.std.proofs.Common.{◌≡◌, reverse, take}
use Rattle.c_scope.specs.Scopes.{meaning_of}
use Rattle.c_scope.proofs.scopes.Scopes.meaning.Given as goal

-- the outer scopes, which are left, decide
abbrev pub invariant-loop-i : goal.invariant-loop-i
invariant-loop-i l = meaning_of (reverse (take l.i l.tables)) l.fn.name ≡ meaning_of (reverse l.tables) l.fn.name
