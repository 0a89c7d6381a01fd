use Rattle.std.proofs.Common.{◌∙◌, true, false, sym, subst}
use Rattle.elab_pieces.specs.Entry.{entry_function}
use Rattle.elab_pieces.specs.Globals.{globals}
use Rattle.elab.specs.inner.Programs.{FunctionOutcome}
use Rattle.elab.proofs.programs.entry_of.Goals as goal

pub returns-clause-made : goal.returns-clause-made
returns-clause-made c =
    subst (λ s. FunctionOutcome (entry_function (record s { folds = true }) (globals c.args.typed.now.items) c.args.typed.now.strings) c.entry_function-entry.result)
    c.requires c.entry_function-entry.ensures

pub returns-clause-scope : goal.returns-clause-scope
returns-clause-scope c = (λ i. record (c.requires i) { folds = false }) ∙ sym c.requires
