use Rattle.std.proofs.Common.{add-one, ◌∙◌}
use Rattle.std.proofs.lemmas.Result.{err_from_is_err_and}
use Rattle.meaning.specs.Blocks.{repeated}
use Rattle.system.proofs.RunsInParts.{append, repeated_parts, within}
use Rattle.system.proofs.run.System.run_rounds.Goals as goal

pub returns-in_err-run_events-clause-err : goal.returns-in_err-run_events-clause-err
returns-in_err-run_events-clause-err c =
    let p = err_from_is_err_and c.from_residual.result c.from_residual.ensures.1 in
    let events = c.args.events.now in
    let parts = repeated_parts c.args.times c.loop.counter events c.loop-test.true in
    rw (p.1, parts.1) (within c.args.code.now c.args.self.now c.loop.self c.args.trace.now.records c.loop.trace.records (repeated c.loop.counter events)
    c.run_events.new.trace.records events parts.0 c.loop.invariant.behind c.loop.invariant.kept.setting
    c.in_err-run_events.ensures.err)

pub loop-preserved : goal.loop-preserved
loop-preserved c =
    let events = c.args.events.now in
    let ran = c.in_ok-run_events.ensures.ok in
    record {
      behind =
          rw add-one (append c.args.code.now c.args.self.now c.loop.self c.args.trace.now.records c.loop.trace.records (repeated c.loop.counter events)
          c.run_events.new.self c.run_events.new.trace.records events c.loop.invariant.behind c.loop.invariant.kept.setting ran);
      kept = record {
        same = c.in_ok-run_events.ensures.kept.same;
        setting = c.in_ok-run_events.ensures.kept.setting ∙ c.loop.invariant.kept.setting;
        threads = c.in_ok-run_events.ensures.kept.threads ∙ c.loop.invariant.kept.threads;
      };
      inputs = c.in_ok-run_events.ensures.inputs ∙ c.loop.invariant.inputs;
    }
