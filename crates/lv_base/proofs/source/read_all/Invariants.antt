-- What came so far is the prefix of what was left, and the measure is how far it is below the limit.
use Rattle.std.proofs.Common.{◌≤◌, vec_len, ◌-◌}
use Rattle.lv_base.specs.Whole.{Takes}
use Rattle.lv_base.proofs.source.read_all.Given as goal

abbrev pub invariant-loop-bytes : goal.invariant-loop-bytes
invariant-loop-bytes g l =
    let source = g.S.Source in
    record {
      all : Takes l.bytes.items (source.left l.fn.source) (source.left l.source) (source.bytes_read l.fn.source) (source.bytes_read l.source);
      within : vec_len l.bytes ≤ l.limit;
      counted : source.faults l.fn.source ≤ source.faults l.source;
    }

abbrev pub decreases-loop-bytes : goal.decreases-loop-bytes
decreases-loop-bytes g l = l.limit - vec_len l.bytes
