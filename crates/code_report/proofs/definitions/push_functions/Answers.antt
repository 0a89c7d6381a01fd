use Rattle.std.proofs.Common.{◌≡◌, ◌∙◌, ◌+◌, ◌∷◌, drop, ap, sym, subst, arith}
use Rattle.std.proofs.lemmas.List.{at_drop_all, at_drop_more}
use Rattle.elab_pieces.specs.Program.{definitions}
use Rattle.code_report.specs.inner.Appending.{FunctionLinesFrom, HaveFunctions}
use Rattle.code_report.proofs.FunctionsLeft.{have_next, is_defined, none_left}
use Rattle.code_report.proofs.Passing.{passes_end, passes_on}
use Rattle.code_report.proofs.definitions.push_functions.Goals as goal

pub push_item-requires-clause-has : goal.push_item-requires-clause-has
push_item-requires-clause-has c =
    let fs = c.args.program.now.functions in
    let xs = c.args.items.now in
    let i = c.loop-item.item-index in
    let x = c.item-item.result in
    let rest = drop (i + 1) xs in
    let e : definitions (drop i xs) ≡ definitions (x ∷ rest) =
    at_drop_more definitions xs i x c.loop-item-test.true ∙ ap (λ y. definitions (y ∷ rest)) (sym c.item-item.is) in
    is_defined fs c.loop-item.f x rest (subst (λ ds. HaveFunctions ds (drop c.loop-item.f fs)) e c.loop-item.invariant.have)

pub loop-item-preserved : goal.loop-item-preserved
loop-item-preserved c =
    let p = c.args.program.now in
    let fs = p.functions in
    let xs = c.args.items.now in
    let i = c.loop-item.item-index in
    let f = c.loop-item.f in
    let x = c.item-item.result in
    let rest = drop (i + 1) xs in
    let e : definitions (drop i xs) ≡ definitions (x ∷ rest) =
    at_drop_more definitions xs i x c.loop-item-test.true ∙ ap (λ y. definitions (y ∷ rest)) (sym c.item-item.is) in
    let one = c.in_ok-f.ensures rest in
    record {
      passes = passes_on (FunctionLinesFrom p) 0 (definitions xs) c.args.text.now.items f (definitions (drop i xs)) c.loop-item.text.items c.loop-item.invariant.passes
          (definitions (x ∷ rest)) c.in_ok-f.f (definitions rest) c.push_item.new.text.items e one;
      have = have_next fs f c.in_ok-f.f x rest one.count (subst (λ ds. HaveFunctions ds (drop f fs)) e c.loop-item.invariant.have);
    }

pub returns : goal.returns
returns c =
    let p = c.args.program.now in
    let xs = c.args.items.now in
    let i = c.loop-item.item-index in
    let f = c.loop-item.f in
    let none = at_drop_all definitions xs i (omega (arith, c.loop-item-test.false)) in
    passes_end (FunctionLinesFrom p) 0 (definitions xs) c.args.text.now.items f (definitions (drop i xs)) c.loop-item.text.items c.loop-item.invariant.passes none
    (none_left p f (subst (λ ds. HaveFunctions ds (drop f p.functions)) none c.loop-item.invariant.have))
