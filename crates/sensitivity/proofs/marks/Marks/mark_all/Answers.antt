use Rattle.std.proofs.Common.{take, sym}
use Rattle.std.proofs.lemmas.List.{take_all}
use Rattle.std.proofs.lemmas.List.Elements.{All-more, All-same, All-weaker}
use Rattle.sensitivity.specs.inner.Marks.{IsMarked}
use Rattle.sensitivity.proofs.Marking.{extends_then}
use Rattle.sensitivity.proofs.marks.Marks.mark_all.Goals as goal

pub loop-s-preserved : goal.loop-s-preserved
loop-s-preserved c = record {
  marked = λ defs are can.
      let old = c.loop-s.invariant.marked defs are can in
      let now = c.in_ok-mark.ensures.marked defs old.0 (can c.loop-s.s-index 0 c.loop-s-test.true) in (
        now.0,
        All-more (IsMarked c.mark.new.self) c.args.structs.now c.loop-s.s-index 0 c.loop-s-test.true
            (All-weaker (IsMarked c.loop-s.self) (IsMarked c.mark.new.self) (λ s is. c.in_ok-mark.ensures.extends.kept s is) (take c.loop-s.s-index c.args.structs.now) old.1) now.1,
      );
  extends = extends_then c.args.self.now c.loop-s.self c.mark.new.self c.loop-s.invariant.extends c.in_ok-mark.ensures.extends;
}

pub returns-clause-marked : goal.returns-clause-marked
returns-clause-marked c = λ defs are can.
    let old = c.loop-s.invariant.marked defs are can in
    (old.0, All-same (IsMarked c.loop-s.self) c.args.structs.now (take c.loop-s.s-index c.args.structs.now) (sym (take_all c.loop-s.s-index c.args.structs.now c.loop-s-test.false)) old.1)
