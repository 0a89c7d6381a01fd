use Rattle.std.proofs.Common.{◌∙◌}
use Rattle.trace_reader.proofs.TracesAreBuilt.{pushed, added_last}
use Rattle.trace_reader.proofs.build.push_behind.Goals as goal

pub push-requires-clause-record : goal.push-requires-clause-record
push-requires-clause-record c = pushed c.args.entry c.requires.proper

pub returns-clause-records : goal.returns-clause-records
returns-clause-records c = c.push.ensures.records ∙ added_last c.args.trace.now.records c.args.entry c.requires.last
