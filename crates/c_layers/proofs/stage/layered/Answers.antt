use Rattle.c_layers.proofs.stage.layered.Goals as goal

pub returns-in_default : goal.returns-in_default
returns-in_default c =
    let is = c.in_default.other-is in
    record {
      shape = c.round_no_type.ensures.shape c.args.structs.now;
      known = c.round_no_type.ensures.known c.args.structs.now;
    }
