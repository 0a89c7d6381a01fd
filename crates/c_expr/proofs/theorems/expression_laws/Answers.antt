use Rattle.c_expr.proofs.FormsBegin.{ExprReads-begins, SpecReads-begins, no_spec, some_spec}
use Rattle.c_expr.proofs.completeness.DeclaratorsBegin.{DeclaratorReads-begins}
use Rattle.c_expr.proofs.completeness.ReadersAreComplete.{readers_are_complete}
use Rattle.c_expr.proofs.soundness.ReadersAreSound.{readers_are_sound}
use Rattle.c_expr.proofs.theorems.expression_laws.Goals as goal

pub returns : goal.returns
returns c = record {
  sound = readers_are_sound;
  complete = readers_are_complete;
  first_tokens = λ names. record {
    expression = λ read. ExprReads-begins read;
    spec = λ read. SpecReads-begins read;
    declarator = λ read. DeclaratorReads-begins read;
    spec_seen = some_spec names;
    no_spec_seen = no_spec names;
  };
}
