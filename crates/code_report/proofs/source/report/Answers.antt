use Rattle.std.proofs.Common.{◌≡◌, ◌∙◌, length, ap, sym, subst, arith}
use Rattle.core_ir.specs.declared.program.Program.{Program}
use Rattle.elab_pieces.specs.Program.{definitions, program_of}
use Rattle.code_report.specs.Names.{global_names}
use Rattle.code_report.specs.inner.Appending.{HaveFunctions}
use Rattle.code_report.proofs.Programs.{have_functions, have_globals}
use Rattle.code_report.proofs.source.report.Goals as goal

pub push_globals-requires : goal.push_globals-requires
push_globals-requires c =
    let typed = c.args.typed.now in
    let same : c.as_slice.result.now ≡ (program_of typed).globals = c.as_slice.ensures ∙ ap (λ (p : Program). p.globals) c.requires.program in
    omega (arith, have_globals typed, ap length same, ap (λ is. length (global_names is)) c.as_slice-items.ensures)

pub push_functions-requires-clause-have : goal.push_functions-requires-clause-have
push_functions-requires-clause-have c =
    let typed = c.args.typed.now in
    subst (λ is. HaveFunctions (definitions is) c.args.program.now.functions) (sym c.as_slice-items.ensures)
    (subst (λ fs. HaveFunctions (definitions typed.items) fs) (sym (ap (λ (p : Program). p.functions) c.requires.program)) (have_functions typed))
