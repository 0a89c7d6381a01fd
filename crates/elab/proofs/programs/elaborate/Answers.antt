use Rattle.elab.proofs.ValidPrograms.{answers_typed, answers_valid}
use Rattle.elab.proofs.programs.elaborate.Goals as goal

pub returns-clause-valid : goal.returns-clause-valid
returns-clause-valid c =
    λ tokens tree reads form.
    answers_valid c.args.typed.now c.whole_program.result c.whole_program.ensures.program c.whole_program.ensures.limits (c.accepted_programs_are_valid.ensures.derived tokens tree reads form)

pub returns-clause-typed : goal.returns-clause-typed
returns-clause-typed c =
    λ tokens tree reads form.
    answers_typed c.args.typed.now c.whole_program.result c.whole_program.ensures.program (c.accepted_programs_are_typed.ensures.derived tokens tree reads form)
