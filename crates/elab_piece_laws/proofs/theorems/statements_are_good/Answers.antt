use Rattle.elab_piece_laws.proofs.GoodBodies as body
use Rattle.elab_piece_laws.proofs.GoodStatements as rows
use Rattle.elab_piece_laws.proofs.theorems.statements_are_good.Goals as goal

pub returns : goal.returns
returns c =
    let laws = c.parts_compose.ensures in
    record {
      statements = λ frame. record {
        nothing = rows.nothing_good laws frame;
        expression = rows.full_good laws frame;
        join = rows.joined_good laws frame;
        joins = rows.all_joined_good laws frame;
        expressions = rows.all_full_good laws frame;
        breaks = rows.break_good laws frame;
        continues = rows.continue_good laws frame;
        choice = rows.choice_good laws frame;
        while_loop = rows.while_good laws frame;
        do_loop = rows.do_good laws frame;
        for_loop = rows.loop_good laws frame;
        return_value = body.returned_good laws frame;
        return_nothing = body.returned_nothing_good laws frame;
      };
      bodies = body.body_good laws;
    }
