use Rattle.icode.proofs.StandingCode.{standing_code_is_valid}
use Rattle.icode.proofs.theorems.standing_code_is_valid.Goals as goal

pub returns : goal.returns
returns c = standing_code_is_valid c.classes_are_unique.ensures c.pointers_hold.ensures c.arrays_are_as_their_elements.ensures c.holders_are_sensitive.ensures
