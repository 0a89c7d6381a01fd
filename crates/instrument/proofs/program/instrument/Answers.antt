use Rattle.std.proofs.Common.{refl}
use Rattle.instrument.proofs.Whole.{program_stands}
use Rattle.instrument.proofs.program.instrument.Goals as goal

pub returns-clause-stands : goal.returns-clause-stands
returns-clause-stands c =
    program_stands c.args.program.now c.args.classes.now _ c.types_have_classes.ensures c.requires.classes refl c.in_ok-functions.ensures

pub returns-clause-valid : goal.returns-clause-valid
returns-clause-valid c =
    c.standing_code_is_valid.ensures c.args.program.now _ c.requires.valid
    (program_stands c.args.program.now c.args.classes.now _ c.types_have_classes.ensures c.requires.classes refl c.in_ok-functions.ensures)
