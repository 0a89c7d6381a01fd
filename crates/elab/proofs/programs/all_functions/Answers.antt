use Rattle.std.proofs.lemmas.Result.{err_from_is_err_and}
use Rattle.std.proofs.Common.{◌≡◌, ◌∙◌, [], ◌∷◌, ◌++◌, map, ap, subst, Err}
use Rattle.elab_rows.specs.declared.scope.Scope.{Scope}
use Rattle.elab_pieces.specs.Functions.{function_code}
use Rattle.elab_pieces.specs.Program.{definitions, file_scope, function_list}
use Rattle.elab.specs.inner.Programs.{AddsAll, HoldsAll, bare, entry_of}
use Rattle.elab.proofs.ProgramRows.{all_stop, last_stops}
use Rattle.elab.proofs.programs.all_functions.Goals as goal

pub returns-in_err-entry-clause-functions : goal.returns-in_err-entry-clause-functions
unfolding function_list
returns-in_err-entry-clause-functions c =
    let typed = c.args.typed.now in
    let p = err_from_is_err_and c.from_residual.result c.from_residual.ensures.1 in
    rw (p.1, p.2)
    (last_stops (map (function_code (file_scope typed)) (definitions typed.items)) (entry_of typed) c.in_err-entry.field-0.0 c.in_err-entry.ensures.made)

pub returns-in_err-add_definitions-clause-functions : goal.returns-in_err-add_definitions-clause-functions
unfolding function_list
returns-in_err-add_definitions-clause-functions c =
    let typed = c.args.typed.now in
    let gs = map (function_code (file_scope typed)) (definitions typed.items) in
    let new = c.add_definitions.new.functions in
    let e = c.in_err-add_definitions.field-0.0 in
    let file : bare c.entry_of.new.scope ≡ file_scope typed = ap bare (c.in_ok-entry.ensures.scope ∙ c.requires) in
    let k1 = subst (λ (s : Scope). AddsAll [] (map (function_code s) (definitions c.as_slice.result.now)) (Err e) new) file
    (c.in_err-add_definitions.ensures.added [] c.new-functions.ensures) in
    let k2 = subst (λ is. AddsAll [] (map (function_code (file_scope typed)) (definitions is)) (Err e) new) c.as_slice.ensures k1 in
    let p = err_from_is_err_and c.from_residual-in_err-add_definitions.result c.from_residual-in_err-add_definitions.ensures.1 in
    rw (p.1, p.2)
    (all_stop gs (entry_of typed ∷ []) e new k2)

pub returns-clause-functions : goal.returns-clause-functions
unfolding function_list
returns-clause-functions c =
    let typed = c.args.typed.now in
    let gs = map (function_code (file_scope typed)) (definitions typed.items) in
    let new = c.add_definitions.new.functions in
    let file : bare c.entry_of.new.scope ≡ file_scope typed = ap bare (c.in_ok-entry.ensures.scope ∙ c.requires) in
    let k1 = subst (λ (s : Scope). HoldsAll new (map (function_code s) (definitions c.as_slice.result.now))) file
    (c.in_ok-add_definitions.ensures.added [] c.new-functions.ensures) in
    let k2 = subst (λ is. HoldsAll new (map (function_code (file_scope typed)) (definitions is))) c.as_slice.ensures k1 in
    c.within_limits.ensures (gs ++ entry_of typed ∷ []) (c.in_ok-add.ensures gs (entry_of typed) k2 c.in_ok-entry.ensures.made)
