use Rattle.sensitivity.proofs.SearchSteps.{read_more}
use Rattle.sensitivity.proofs.search.Search.read.Goals as goal

pub loop-s-preserved : goal.loop-s-preserved
loop-s-preserved c = record {
  search = c.in_ok-read_struct.ensures.search;
  read = read_more c.args.structs.now c.loop-s.search c.read_struct.new.self c.loop-s.s c.in_ok-read_struct.ensures.grows c.in_ok-read_struct.ensures.read c.loop-s.invariant.read;
}
