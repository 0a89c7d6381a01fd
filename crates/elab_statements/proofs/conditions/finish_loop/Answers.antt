use Rattle.std.proofs.Common.{◌≡◌, ◌∙◌, ◌<◌, length, ap, arith, length-append, subst}
use Rattle.std.proofs.Math.ListN.{length-set}
use Rattle.core_ir.specs.declared.instr.Instr.{Instr}
use Rattle.elab_statements.specs.inner.Jumps.{IsWithin}
use Rattle.elab_statements.proofs.Lead.{closed_length, still_sound, within_more}
use Rattle.elab_statements.proofs.conditions.finish_loop.Goals as goal

pub lead-requires : goal.lead-requires
lead-requires c =
    within_more c.args.jumps.now (length c.args.body.now.out.code) (length c.put.new.out.code)
    (omega (arith, ap length c.in_ok-put.ensures.made.added, length-append {A = Instr})) c.requires.jumps

pub set-requires : goal.set-requires
set-requires c =
    let before : c.in-Some.c.place < length c.args.body.now.out.code =
    subst (λ t. IsWithin (length c.args.body.now.out.code) t) c.in-Some.is c.requires.test in
    let kept : length c.lead.new.code ≡ length c.put.new.out.code =
    ap length c.lead.ensures ∙ closed_length c.put.new.out.code c.args.jumps.now _ _ in
    omega (arith, before, kept, ap length c.in_ok-put.ensures.made.added, length-append {A = Instr})

pub returns-in-Some-clause-sound : goal.returns-in-Some-clause-sound
returns-in-Some-clause-sound c =
    still_sound c.put.new.out c.set.new.self c.in_ok-put.ensures.sound
    (ap length c.set.ensures ∙ length-set c.lead.new.code _ _ ∙ ap length c.lead.ensures ∙ closed_length c.put.new.out.code c.args.jumps.now _ _)

pub returns-in_default-clause-sound : goal.returns-in_default-clause-sound
returns-in_default-clause-sound c =
    still_sound c.put.new.out c.lead.new.code c.in_ok-put.ensures.sound
    (ap length c.lead.ensures ∙ closed_length c.put.new.out.code c.args.jumps.now _ _)
