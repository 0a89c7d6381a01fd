use Rattle.std.proofs.Common.{◌≡◌, ◌+◌, [], ◌∷◌, ◌++◌, drop, get_or, take, ◌∙◌, sym}
use Rattle.std.proofs.lemmas.List.{take-append-drop, take_more}
use Rattle.std.proofs.lemmas.Result.{err_from_is_err_and}
use Rattle.meaning.specs.declared.event.Event.TheVariants.{Turn}
use Rattle.system.proofs.RunsInParts.{append}
use Rattle.system.proofs.run.System.run_events.Goals as goal

pub returns-in_err-step-clause-err : goal.returns-in_err-step-clause-err
returns-in_err-step-clause-err c =
    let p = err_from_is_err_and c.from_residual.result c.from_residual.ensures.1 in
    rw p.1 (record {
      done = take c.loop-event.event-index c.args.events.now;
      rest = drop c.loop-event.event-index c.args.events.now;
      split = sym (take-append-drop c.loop-event.event-index c.args.events.now);
      recorded = c.in_err-step.ensures.err ∙ c.loop-event.invariant.behind.recorded;
    })

pub loop-event-preserved : goal.loop-event-preserved
loop-event-preserved c =
    let event = get_or c.args.events.now c.loop-event.event-index (Turn 0) in
    let more : take (c.loop-event.event-index + 1) c.args.events.now ≡ take c.loop-event.event-index c.args.events.now ++ event ∷ [] =
    take_more c.args.events.now c.loop-event.event-index (Turn 0) c.loop-event-test.true in
    record {
      behind =
          rw more (append c.args.code.now c.args.self.now c.loop-event.self c.args.trace.now.records c.loop-event.trace.records (take c.loop-event.event-index c.args.events.now)
          c.step.new.self c.step.new.trace.records (event ∷ []) c.loop-event.invariant.behind c.loop-event.invariant.kept.setting
          (record { state = c.in_ok-step.ensures.ok; recorded = c.in_ok-step.ensures.recorded }));
      kept = record {
        same = c.in_ok-step.ensures.same;
        setting = c.in_ok-step.ensures.setting ∙ c.loop-event.invariant.kept.setting;
        threads = c.in_ok-step.ensures.threads ∙ c.loop-event.invariant.kept.threads;
      };
      inputs = c.in_ok-step.ensures.inputs ∙ c.loop-event.invariant.inputs;
    }
