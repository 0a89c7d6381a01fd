use Rattle.c_tokens.proofs.round_trip.SpacedTexts.{spaced_lexes}
use Rattle.c_tokens.proofs.theorems.spaced_text_lexes.Goals as goal

pub returns : goal.returns
returns c = spaced_lexes
