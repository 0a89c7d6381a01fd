use Rattle.machine.specs.Run.{Setting}
use Rattle.machine.specs.ValidCode.{ValidCode}
use Rattle.run_laws.proofs.theorems.runs_are_good.Goals as goal

pub returns : goal.returns
returns c program setting threads events valid stands few some many =
    let code : ValidCode setting.code = c.standing_code_is_valid.ensures program setting.code valid stands in
    record {
      history = c.runs_are_legal.ensures setting threads events few some;
      transfers = c.transfers_are_good.ensures setting threads events code few;
      based = c.runs_are_based.ensures program setting threads events code stands few some many;
    }
