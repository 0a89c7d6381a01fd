use Rattle.c_expr.proofs.soundness.ReadersAreSound as sound
use Rattle.c_expr.proofs.theorems.readers_are_sound.Goals as goal

pub returns : goal.returns
returns c = sound.readers_are_sound
