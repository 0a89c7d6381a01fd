use Rattle.std.proofs.Common.{◌≡◌, ◌-◌, ◌≤◌, length}
use Rattle.c_tokens.specs.Lex.{line_at}
use Rattle.c_tokens.proofs.soundness.Texts.{Chain}
use Rattle.c_tokens.proofs.lexer.tokens_of.Given as goal

abbrev pub invariant-loop-alloc : goal.invariant-loop-alloc
invariant-loop-alloc l = record { inside : l.at ≤ length l.bytes; before : Chain l.bytes 0 l.tokens l.at; line : l.line ≡ line_at l.bytes l.at }

abbrev pub decreases-loop-alloc : goal.decreases-loop-alloc
decreases-loop-alloc l = length l.bytes - l.at
