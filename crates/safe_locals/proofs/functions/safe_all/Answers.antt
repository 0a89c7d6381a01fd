use Rattle.std.proofs.Common.{◌≡◌, ◌∙◌, ℕ, ◌+◌, Bool, List, [], ◌∷◌, Some, length, slice_get, refl, sym, ap, subst}
use Rattle.std.proofs.lemmas.List.{length-append}
use Rattle.std.proofs.lemmas.Option.{slice_get_read}
use Rattle.core_ir.specs.declared.program.Function.{Function}
use Rattle.safe_locals.specs.Safe.{AreSafe}
use Rattle.safe_locals.proofs.WholeFunctions.{all_more}
use Rattle.safe_locals.proofs.functions.safe_all.Goals as goal

pub loop-function-preserved : goal.loop-function-preserved
loop-function-preserved c =
    let items = c.as_slice-function-items.result.now in
    let fs = c.args.program.now.functions in
    let table = c.loop-function.table in
    let safe = c.in_ok-safe_of.field-0 in
    let k : ℕ = c.loop-function.function-index in
    let long : length c.push.new.self ≡ length table + 1 = ap length c.in_ok-push.ensures.ok ∙ length-append table (safe ∷ []) in
    let at : slice_get fs k ≡ Some c.function-item.result =
    ap (λ xs. slice_get xs k) (sym c.as_slice-function-items.ensures) ∙ slice_get_read items (length items) k c.function-item.result refl c.loop-function-test.true c.function-item.is in
    record {
      each = long ∙ ap (λ n. n + 1) c.loop-function.invariant.each;
      exact = subst (λ t. (n : ℕ) (f : Function) (s : List Bool) → slice_get fs n ≡ Some f → slice_get t n ≡ Some s → AreSafe f s) (sym c.in_ok-push.ensures.ok)
          (all_more fs table k c.function-item.result safe c.loop-function.invariant.each at c.in_ok-safe_of.ensures c.loop-function.invariant.exact);
    }
