use Rattle.std.proofs.Common.{refl, sym, ◌∙◌}
use Rattle.c_tokens.proofs.soundness.Tokens.{mark_token, byte_refused}
use Rattle.c_tokens.proofs.mark.mark_token.Goals as goal

pub returns-in-Some : goal.returns-in-Some
returns-in-Some c =
    rw c.text.ensures
    (mark_token c.args.bytes.now c.requires.no_blank c.in-Some.mark (sym c.starts_with.ensures.value ∙ c.if-starts_with.false) (sym c.in-Some.ensures))

pub returns-in-None : goal.returns-in-None
returns-in-None c = λ e. (
  byte_refused c.args.bytes.now c.requires.no_blank c.args.line (sym c.starts_with.ensures.value ∙ c.if-starts_with.false) c.requires.other (sym c.in-None.ensures),
  refl,
)
