use Rattle.code_tests.proofs.programs.code.Goals as goal

pub safe_all-requires : goal.safe_all-requires
safe_all-requires c = c.valid.ensures.0 c.if-not-valid.false

pub instrument-requires-clause-valid : goal.instrument-requires-clause-valid
instrument-requires-clause-valid c = c.valid.ensures.0 c.if-not-valid.false
