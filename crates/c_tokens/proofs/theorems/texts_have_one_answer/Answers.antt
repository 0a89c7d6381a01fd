use Rattle.c_tokens.proofs.uniqueness.Texts.{Lexes-same, IsRefused-same, never_both}
use Rattle.c_tokens.proofs.theorems.texts_have_one_answer.Goals as goal

pub returns : goal.returns
returns c = λ bytes. record {
  one_list = Lexes-same bytes;
  one_refusal = IsRefused-same bytes;
  never_both = never_both bytes;
}
