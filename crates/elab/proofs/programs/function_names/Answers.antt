use Rattle.std.proofs.Common.{◌≡◌, ◌∙◌, ◌+◌, [], ◌∷◌, ◌++◌, map, drop, get_or, ap, sym, arith, append_assoc}
use Rattle.std.proofs.lemmas.List.{map-append}
use Rattle.c_typed.specs.declared.unit.TypedFn.{TypedFn}
use Rattle.elab_pieces.specs.Program.{definitions, name_of}
use Rattle.elab.proofs.Turns.{definitions_next}
use Rattle.elab.proofs.programs.function_names.Goals as goal

pub loop-item-preserved : goal.loop-item-preserved
loop-item-preserved c =
    let g = λ (f : TypedFn). name_of f.declared in
    let xs = c.args.items.now in
    let i = c.loop-item.item-index in
    let x = c.item-item.result in
    let names = c.loop-item.names in
    let mine = map g (definitions (get_or xs i x ∷ [])) in
    let rest = map g (definitions (drop (i + 1) xs)) in
    let pushed : c.push_name.new.names ≡ names ++ mine =
    c.in_ok-push_name.ensures ∙ ap (λ y. names ++ map g (definitions (y ∷ []))) c.item-item.is in
    let turn : map g (definitions (drop i xs)) ≡ mine ++ rest =
    ap (map g) (definitions_next xs i x (omega arith)) ∙ map-append g (definitions (get_or xs i x ∷ [])) (definitions (drop (i + 1) xs)) in
    ap (λ ns. ns ++ rest) pushed ∙ append_assoc names mine rest ∙ ap (λ ys. names ++ ys) (sym turn) ∙ c.loop-item.invariant
