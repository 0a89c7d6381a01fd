use Rattle.std.proofs.Common.{◌≡◌, ◌+◌, ◌-◌, [], ◌∷◌, sym, ap, ◌∙◌, arith}
use Rattle.std.proofs.lemmas.Result.{err_from_is_err_and}
use Rattle.meaning.specs.Blocks.{repeated}
use Rattle.meaning.specs.declared.event.Event.TheVariants.{Turn}
use Rattle.system.proofs.RunsInParts.{append, repeated-append}
use Rattle.system.proofs.run.System.run_turns.Goals as goal

pub returns-in_err-left-clause-err : goal.returns-in_err-left-clause-err
returns-in_err-left-clause-err c =
    let p = err_from_is_err_and c.from_residual.result c.from_residual.ensures.1 in
    let turn = Turn c.args.t ∷ [] in
    let left = c.loop-left.left in
    let done = c.args.times - left in
    let all : c.args.times ≡ done + left = omega (arith, c.loop-left.invariant.few) in
    rw p.1 (record {
      done = repeated done turn;
      rest = repeated left turn;
      split = ap (λ k. repeated k turn) all ∙ sym (repeated-append done left turn);
      recorded = c.in_err-left.ensures.err ∙ c.loop-left.invariant.behind.recorded;
    })

pub loop-left-preserved : goal.loop-left-preserved
loop-left-preserved c =
    let turn = Turn c.args.t ∷ [] in
    let left = c.loop-left.left in
    let taken = c.in_ok-left.field-0 in
    let done = c.args.times - left in
    let ran = c.in_ok-left.ensures in
    let invariant = c.loop-left.invariant in
    let more : done + taken ≡ c.args.times - (left - taken) = omega (arith, invariant.few, ran.most) in
    record {
      few = omega (arith, invariant.few);
      behind =
          rw (sym more, sym (repeated-append done taken turn))
          (append c.args.code.now c.args.self.now c.loop-left.self c.args.trace.now.records c.loop-left.trace.records (repeated done turn)
          c.turns.new.self c.turns.new.trace.records (repeated taken turn) invariant.behind invariant.kept.setting ran.ok);
      kept = record {
        same = ran.kept.same;
        setting = ran.kept.setting ∙ invariant.kept.setting;
        threads = ran.kept.threads ∙ invariant.kept.threads;
      };
      inputs = ran.inputs ∙ invariant.inputs;
    }
