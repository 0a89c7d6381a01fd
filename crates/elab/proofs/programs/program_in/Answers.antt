use Rattle.std.proofs.Common.{◌≡◌, ◌∙◌, ◌<◌, ◌≤◌, length, Err, ap, sym, subst, arith}
use Rattle.std.proofs.lemmas.Result.{err_from_is_err_and}
use Rattle.core_ir.specs.Layout.{global_units}
use Rattle.core_ir.specs.Valid.{most_functions}
use Rattle.core_ir.specs.declared.program.Program.{Program}
use Rattle.elab_rows.specs.declared.scope.Scope.{Scope}
use Rattle.elab_pieces.specs.Limits.{first_limit}
use Rattle.elab_pieces.specs.Program.{definitions, function_list, program_of}
use Rattle.elab.specs.inner.Programs.{bare}
use Rattle.elab.specs.Refusals.{RefusesOnly}
use Rattle.elab.proofs.ProgramRows.{functions_count, many, names_count, refuses_functions, refuses_globals, within_all}
use Rattle.elab.proofs.programs.program_in.Goals as goal

pub returns-then-entry-gt-MOST_FUNCTIONS-clause-refused : goal.returns-then-entry-gt-MOST_FUNCTIONS-clause-refused
unfolding program_of
returns-then-entry-gt-MOST_FUNCTIONS-clause-refused c =
    let typed = c.args.typed.now in
    let n : c.len-entry.result ≡ length (definitions typed.items) =
    c.len-entry.ensures ∙ ap (λ (s : Scope). length s.functions) c.requires ∙ names_count typed in
    let more : most_functions < length (function_list typed) = omega (arith, n, functions_count typed) in
    subst (λ r. RefusesOnly {A = Program} (first_limit (program_of typed)) (Err r)) (sym c.limit.ensures) (many (program_of typed) more)

pub returns-in_err-functions-clause-refused : goal.returns-in_err-functions-clause-refused
unfolding program_of
returns-in_err-functions-clause-refused c =
    let typed = c.args.typed.now in
    let n : c.len-entry.result ≡ length (definitions typed.items) =
    c.len-entry.ensures ∙ ap (λ (s : Scope). length s.functions) c.requires ∙ names_count typed in
    let few : length (function_list typed) ≤ most_functions = omega (arith, n, functions_count typed) in
    let p = err_from_is_err_and c.from_residual.result c.from_residual.ensures.1 in
    rw (p.1, p.2)
    (refuses_functions (program_of typed) few c.in_err-functions.field-0.0 c.in_err-functions.ensures.functions)

pub returns-in_err-globals-clause-refused : goal.returns-in_err-globals-clause-refused
unfolding program_of
returns-in_err-globals-clause-refused c =
    let typed = c.args.typed.now in
    let n : c.len-entry.result ≡ length (definitions typed.items) =
    c.len-entry.ensures ∙ ap (λ (s : Scope). length s.functions) c.requires ∙ names_count typed in
    let few : length (function_list typed) ≤ most_functions = omega (arith, n, functions_count typed) in
    let fs = c.in_ok-functions.ensures.functions in
    let p = err_from_is_err_and c.from_residual-in_err-globals.result c.from_residual-in_err-globals.ensures.1 in
    rw (p.1, p.2)
    (refuses_globals (program_of typed) few fs.1 c.in_err-globals.field-0.0 c.in_err-globals.ensures)

pub returns-clause-program : goal.returns-clause-program
unfolding program_of
returns-clause-program c =
    let typed = c.args.typed.now in
    let n : c.len-entry.result ≡ length (definitions typed.items) =
    c.len-entry.ensures ∙ ap (λ (s : Scope). length s.functions) c.requires ∙ names_count typed in
    let structs = c.replace-structs.ensures.value ∙ ap (λ (s : Scope). s.structs) (c.in_ok-functions.ensures.scope ∙ ap bare c.requires) in
    λ i. record {
      functions = c.in_ok-functions.ensures.functions.0 i;
      globals = c.in_ok-globals.ensures.0 i;
      structs = structs i;
      entry = n i;
    }

pub returns-clause-limits : goal.returns-clause-limits
unfolding program_of
returns-clause-limits c =
    let typed = c.args.typed.now in
    let n : c.len-entry.result ≡ length (definitions typed.items) =
    c.len-entry.ensures ∙ ap (λ (s : Scope). length s.functions) c.requires ∙ names_count typed in
    let few : length (function_list typed) ≤ most_functions = omega (arith, n, functions_count typed) in
    let structs = c.replace-structs.ensures.value ∙ ap (λ (s : Scope). s.structs) (c.in_ok-functions.ensures.scope ∙ ap bare c.requires) in
    let fs = c.in_ok-functions.ensures.functions in
    let gs = c.in_ok-globals.ensures in
    let same : record { functions = c.in_ok-functions.functions; globals = c.in_ok-globals.globals; structs = c.replace-structs.result; entry = c.len-entry.result }
    ≡ program_of typed =
    λ i. record { functions = fs.0 i; globals = gs.0 i; structs = structs i; entry = n i } in
    ap first_limit same ∙ within_all (program_of typed) few fs.1 (omega (arith, gs.1, ap global_units gs.0))
