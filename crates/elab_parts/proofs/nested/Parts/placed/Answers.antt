use Rattle.std.proofs.lemmas.Result.{err_from_is_err_and}
use Rattle.std.proofs.Common.{◌∙◌, arith, rules, sym}
use Rattle.std.proofs.lemmas.Grind.{common_steps}
use Rattle.elab_emit.specs.Emits.{code_of}
use Rattle.elab_rows.specs.Values.{part}
use Rattle.elab_parts.proofs.CallRows.{placed_stop}
use Rattle.elab_parts.proofs.PlacedRows.{kept_at, placed_at}
use Rattle.elab_parts.proofs.nested.Parts.placed.Goals as goal

pub returns-then-has_place-clause-made : goal.returns-then-has_place-clause-made
returns-then-has_place-clause-made g c =
    placed_at (code_of c.args.out.now (part c.args.self.now.scope.now c.args.callee.now).value) c.args.out.now _ _ _ _ c.len-from.ensures (first_of (search rules, grind (arith, common_steps)))
    c.in_ok-c.ensures.made (sym c.has_place.ensures ∙ c.if-has_place.true)

pub returns-clause-made : goal.returns-clause-made
returns-clause-made g c =
    kept_at (code_of c.args.out.now (part c.args.self.now.scope.now c.args.callee.now).value) c.args.out.now _ _ _ _ c.len-from.ensures (first_of (search rules, grind (arith, common_steps))) _ _
    c.in_ok-c.ensures.made (sym c.has_place.ensures ∙ c.if-has_place.false) c.keep.ensures.made

pub returns-in_err-c-clause-made : goal.returns-in_err-c-clause-made
returns-in_err-c-clause-made g c =
    let p = err_from_is_err_and c.from_residual.result c.from_residual.ensures.1 in
    rw (p.1, p.2) (placed_stop (code_of c.args.out.now (part c.args.self.now.scope.now c.args.callee.now).value) c.args.out.now _ c.in_err-c.ensures.made)
