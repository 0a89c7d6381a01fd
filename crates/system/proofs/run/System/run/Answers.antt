use Rattle.std.proofs.Common.{◌+◌, drop, length, take, ap, sym, ◌∙◌}
use Rattle.std.proofs.lemmas.Result.{err_from_is_err_and}
use Rattle.meaning.specs.Blocks.{events_of, listed}
use Rattle.machine.specs.Run.{steps_from}
use Rattle.machine.specs.Trace.{traced}
use Rattle.system.proofs.RunsInParts.{append, listed_more, listed_parts, taken, within}
use Rattle.system.specs.State.{setting_of, state_of}
use Rattle.system.proofs.run.System.run.Goals as goal

pub returns-in_err-run_block-clause-err : goal.returns-in_err-run_block-clause-err
returns-in_err-run_block-clause-err c =
    let p = err_from_is_err_and c.from_residual.result c.from_residual.ensures.1 in
    let blocks = c.blocks-block-items.result.now in
    let k = c.loop-block.block-index in
    let block = c.block-item.result in
    let parts = listed_parts blocks k block c.loop-block-test.true c.block-item.is in
    let stops = within c.args.code.now c.args.self.now c.loop-block.self c.args.trace.now.records c.loop-block.trace.records (listed (take k blocks))
    c.run_block.new.trace.records (events_of block) (listed (drop (k + 1) blocks)) c.loop-block.invariant.behind c.loop-block.invariant.kept.setting
    c.in_err-run_block.ensures.err in
    rw p.1 (
      length stops.done,
      stops.recorded
          ∙ ap (λ x. traced c.args.trace.now.records (steps_from (setting_of c.args.code.now c.args.self.now) (state_of c.args.self.now) x))
          (taken c.args.events.now stops.done stops.rest (sym c.blocks-block-items.ensures ∙ parts ∙ stops.split)),
    )

pub loop-block-preserved : goal.loop-block-preserved
loop-block-preserved c =
    let blocks = c.blocks-block-items.result.now in
    let k = c.loop-block.block-index in
    let block = c.block-item.result in
    let more = listed_more blocks k block c.loop-block-test.true c.block-item.is in
    record {
      behind =
          rw more (append c.args.code.now c.args.self.now c.loop-block.self c.args.trace.now.records c.loop-block.trace.records (listed (take k blocks))
          c.run_block.new.self c.run_block.new.trace.records (events_of block) c.loop-block.invariant.behind c.loop-block.invariant.kept.setting
          c.in_ok-run_block.ensures.ok);
      kept = record {
        same = c.in_ok-run_block.ensures.kept.same;
        setting = c.in_ok-run_block.ensures.kept.setting ∙ c.loop-block.invariant.kept.setting;
        threads = c.in_ok-run_block.ensures.kept.threads ∙ c.loop-block.invariant.kept.threads;
      };
      inputs = c.in_ok-run_block.ensures.inputs ∙ c.loop-block.invariant.inputs;
    }
