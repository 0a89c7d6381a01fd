use Rattle.std.proofs.lemmas.Result.{err_from_is_err_and}
use Rattle.std.proofs.Common.{◌≡◌, ◌∙◌, ◌+◌, [], ◌∷◌, ◌++◌, map, take, drop, get_or, ap, append_assoc, sym, subst, arith, Err}
use Rattle.std.proofs.lemmas.List.{map-append}
use Rattle.elab_pieces.specs.Functions.{function_code}
use Rattle.elab_pieces.specs.Program.{definitions}
use Rattle.elab.specs.inner.Programs.{AddsAll, HoldsAll, bare}
use Rattle.elab.proofs.ProgramRows.{adds_stop}
use Rattle.elab.proofs.Turns.{definitions_all, definitions_split, definitions_turn}
use Rattle.elab.proofs.programs.add_definitions.Goals as goal

pub returns-in_err-add_item-clause-added : goal.returns-in_err-add_item-clause-added
returns-in_err-add_item-clause-added c = λ fs h.
    let g = function_code (bare c.args.scope.now) in
    let xs = c.args.items.now in
    let i = c.loop-item.item-index in
    let x = get_or xs i c.item-item.result in
    let new = c.add_item.new.functions in
    let e = c.in_err-add_item.field-0.0 in
    let before = fs ++ map g (definitions (take i xs)) in
    let split : map g (definitions xs) ≡ map g (definitions (take i xs)) ++ (map g (definitions (x ∷ [])) ++ map g (definitions (drop (i + 1) xs))) =
    ap (map g) (definitions_split xs i c.item-item.result (omega arith))
    ∙ map-append g (definitions (take i xs)) (definitions (x ∷ []) ++ definitions (drop (i + 1) xs))
    ∙ ap (λ ys. map g (definitions (take i xs)) ++ ys) (map-append g (definitions (x ∷ [])) (definitions (drop (i + 1) xs))) in
    let k = c.in_err-add_item.ensures.added before (c.loop-item.invariant.holds fs h) in
    let k1 = subst (λ s. AddsAll before (map (function_code s) (definitions (c.item-item.result ∷ []))) (Err e) new) c.loop-item.invariant.scope k in
    let k2 = subst (λ y. AddsAll before (map g (definitions (y ∷ []))) (Err e) new) c.item-item.is k1 in
    let p = err_from_is_err_and c.from_residual.result c.from_residual.ensures.1 in
    rw (p.1, p.2)
    (adds_stop fs (map g (definitions xs)) before (map g (definitions (take i xs))) (map g (definitions (x ∷ []))) (map g (definitions (drop (i + 1) xs))) split e new k2)

pub loop-item-preserved : goal.loop-item-preserved
loop-item-preserved c =
    let g = function_code (bare c.args.scope.now) in
    let xs = c.args.items.now in
    let i = c.loop-item.item-index in
    let x = get_or xs i c.item-item.result in
    let new = c.add_item.new.functions in
    record {
      holds = λ fs h.
          let before = fs ++ map g (definitions (take i xs)) in
          let k = c.in_ok-add_item.ensures.added before (c.loop-item.invariant.holds fs h) in
          let k1 = subst (λ s. HoldsAll new (before ++ map (function_code s) (definitions (c.item-item.result ∷ [])))) c.loop-item.invariant.scope k in
          let k2 = subst (λ y. HoldsAll new (before ++ map g (definitions (y ∷ [])))) c.item-item.is k1 in
          let same : before ++ map g (definitions (x ∷ [])) ≡ fs ++ map g (definitions (take (i + 1) xs)) =
          append_assoc fs (map g (definitions (take i xs))) (map g (definitions (x ∷ [])))
          ∙ ap (λ ys. fs ++ ys) (sym (map-append g (definitions (take i xs)) (definitions (x ∷ []))))
          ∙ ap (λ ys. fs ++ map g ys) (sym (definitions_turn xs i c.item-item.result (omega arith))) in
          subst (λ ys. HoldsAll new ys) same k2;
      scope = c.in_ok-add_item.ensures.scope ∙ c.loop-item.invariant.scope;
    }

pub returns-clause-added : goal.returns-clause-added
returns-clause-added c = λ fs h.
    let g = function_code (bare c.args.scope.now) in
    subst (λ ds. HoldsAll c.loop-item.functions (fs ++ map g ds)) (definitions_all c.args.items.now c.loop-item.item-index (omega arith))
    (c.loop-item.invariant.holds fs h)
