use Rattle.std.proofs.Common.{◌∙◌, ◌∷◌, ◌++◌, [], ap}
use Rattle.std.proofs.lemmas.Result.{on_ok_weaker}
use Rattle.elab.specs.inner.Programs.{noted}
use Rattle.elab.proofs.ProgramRows.{holds_more, holds_still}
use Rattle.elab.proofs.programs.Functions.add.Goals as goal

pub returns-in-Some : goal.returns-in-Some
returns-in-Some c = λ fs f h i.
    let old = c.args.self.now in
    let passed = c.note.ensures ∙ ap (λ b. noted old.passed c.args.made.body.registers c.args.made.body.out.slot b) c.has_room-room.ensures in
    on_ok_weaker c.push.result
    (λ e. holds_more old fs h f c.args.made i c.note.new.self passed c.push.new.self (e ∙ ap (λ g. old.list ++ g ∷ []) (c.in-Some.ensures f i))) c.push.ensures.ok

pub returns-in-None : goal.returns-in-None
returns-in-None c = λ fs f h i.
    let old = c.args.self.now in
    let passed = c.note.ensures ∙ ap (λ b. noted old.passed c.args.made.body.registers c.args.made.body.out.slot b) c.has_room-room.ensures in
    holds_still old fs h f c.args.made i c.note.new.self passed (c.in-None.ensures f i)
