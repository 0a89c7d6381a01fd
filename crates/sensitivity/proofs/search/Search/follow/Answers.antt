use Rattle.std.proofs.Common.{sym, subst}
use Rattle.std.specs.List.{Contains}
use Rattle.std.proofs.lemmas.List.Elements.{All-contains}
use Rattle.sensitivity.specs.inner.Marks.{IsMarked}
use Rattle.sensitivity.proofs.SearchSteps.{askers_can, search_marks}
use Rattle.sensitivity.proofs.search.Search.follow.Goals as goal

pub returns-clause-search : goal.returns-clause-search
returns-clause-search c =
    let defs = c.args.structs.now in
    let can = askers_can defs c.args.self.now c.requires.search c.args.n c.requires.marked c.of.result.now c.of.ensures in
    search_marks defs c.args.self.now c.requires.search c.mark_all.new.self (c.in_ok-mark_all.ensures.marked defs c.requires.search.marked can).0

pub returns-clause-followed : goal.returns-clause-followed
returns-clause-followed c =
    let defs = c.args.structs.now in
    let can = askers_can defs c.args.self.now c.requires.search c.args.n c.requires.marked c.of.result.now c.of.ensures in
    λ s there.
    All-contains (IsMarked c.mark_all.new.self) c.of.result.now s (c.in_ok-mark_all.ensures.marked defs c.requires.search.marked can).1 (subst (λ xs. Contains xs s) (sym c.of.ensures) there)
