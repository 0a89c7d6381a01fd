use Rattle.std.proofs.Common.{◌≡◌, ◌+◌, [], ◌∷◌, length, drop, get_or, ap, arith, length-append}
use Rattle.elab_pieces.specs.Globals.{globals}
use Rattle.elab.proofs.Turns.{globals_turn}
use Rattle.elab.proofs.globals.count_globals.Goals as goal

pub loop-item-preserved : goal.loop-item-preserved
loop-item-preserved c =
    let xs = c.args.items.now in
    let i = c.loop-item.item-index in
    let x = c.item-item.result in
    let e : c.in-Some.sum + length (globals (drop (i + 1) xs)) ≡ length (globals xs) =
    omega (
      arith,
      c.loop-item.invariant,
      c.in-Some.ensures.1,
      c.in_ok-more.ensures,
      ap (λ y. length (globals (y ∷ []))) c.item-item.is,
      ap length (globals_turn xs i x (omega arith)),
      length-append (globals (get_or xs i x ∷ [])) (globals (drop (i + 1) xs)),
    ) in
    e
