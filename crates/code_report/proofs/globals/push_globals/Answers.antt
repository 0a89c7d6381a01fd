use Rattle.std.proofs.Common.{◌+◌, [], ◌∷◌, length, drop, get_or, ap, arith}
use Rattle.std.proofs.lemmas.List.{at_drop_all, at_drop_more}
use Rattle.code_report.specs.Names.{global_names}
use Rattle.code_report.specs.Report.{no_globals}
use Rattle.code_report.specs.inner.Appending.{GlobalLinesFrom}
use Rattle.code_report.proofs.NameCounts.{one_item}
use Rattle.code_report.proofs.Passing.{passes_end}
use Rattle.code_report.proofs.globals.push_globals.Goals as goal

pub push_item-requires : goal.push_item-requires
push_item-requires c =
    let xs = c.args.items.now in
    let i = c.loop-item.item-index in
    let x = c.item-item.result in
    omega (
      arith,
      c.loop-item.invariant.count,
      c.requires,
      ap length (at_drop_more global_names xs i x c.loop-item-test.true),
      ap (λ y. length (global_names (y ∷ []))) c.item-item.is,
      one_item (get_or xs i x) (drop (i + 1) xs),
    )

pub returns : goal.returns
returns c =
    let xs = c.args.items.now in
    let gs = c.args.globals.now in
    let i = c.loop-item.item-index in
    let n = c.loop-item.next in
    passes_end (GlobalLinesFrom gs) 0 (global_names xs) c.args.text.now.items n (global_names (drop i xs)) c.loop-item.text.items c.loop-item.invariant
    (at_drop_all global_names xs i (omega (arith, c.loop-item-test.false))) (no_globals (drop n gs))
