use Rattle.std.proofs.Common.{◌∙◌, length, ap, arith, length-append}
use Rattle.core_ir.specs.declared.instr.Instr.{Instr}
use Rattle.elab_statements.proofs.Lead.{closed_length, still_sound, within_more}
use Rattle.elab_statements.proofs.conditions.finish_do.Goals as goal

pub lead-requires : goal.lead-requires
lead-requires c =
    within_more c.args.jumps.now (length c.args.body.now.out.code) (length c.put-2.new.out.code)
    (omega (arith, ap length c.in_ok-put.ensures.made.added, ap length c.in_ok-put-2.ensures.made.added, length-append {A = Instr}))
    c.requires.jumps

pub returns-clause-sound : goal.returns-clause-sound
returns-clause-sound c =
    still_sound c.put-2.new.out c.lead.new.code c.in_ok-put-2.ensures.sound
    (ap length c.lead.ensures ∙ closed_length c.put-2.new.out.code c.args.jumps.now _ _)
