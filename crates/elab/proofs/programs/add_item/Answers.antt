use Rattle.std.proofs.Common.{[], ◌∷◌, ◌++◌, map, append-nil, sym, subst}
use Rattle.elab_pieces.specs.Functions.{function_code}
use Rattle.elab_pieces.specs.Program.{definitions}
use Rattle.elab.specs.inner.Programs.{AddsAll, HoldsAll, bare}
use Rattle.elab.proofs.programs.add_item.Goals as goal

pub returns-in-Function-clause-added : goal.returns-in-Function-clause-added
returns-in-Function-clause-added c = λ fs h.
    let g = function_code (bare c.args.scope.now) in
    subst (λ x. AddsAll fs (map g (definitions (x ∷ []))) c.add_function.result c.add_function.new.functions) (sym c.in-Function.is) (c.add_function.ensures.added fs h)

pub returns-in-Decl-clause-added : goal.returns-in-Decl-clause-added
returns-in-Decl-clause-added c = λ fs h.
    let g = function_code (bare c.args.scope.now) in
    subst (λ x. HoldsAll c.args.functions.now (fs ++ map g (definitions (x ∷ [])))) (sym c.in-Decl.is)
    (subst (λ gs. HoldsAll c.args.functions.now gs) (sym (append-nil fs)) h)

pub returns-in-Typedef-clause-added : goal.returns-in-Typedef-clause-added
returns-in-Typedef-clause-added c = λ fs h.
    let g = function_code (bare c.args.scope.now) in
    subst (λ x. HoldsAll c.args.functions.now (fs ++ map g (definitions (x ∷ [])))) (sym c.in-Typedef.is)
    (subst (λ gs. HoldsAll c.args.functions.now gs) (sym (append-nil fs)) h)
