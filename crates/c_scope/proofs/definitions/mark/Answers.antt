use Rattle.std.proofs.Common.{◌≡◌, Some, slice_get}
use Rattle.c_scope.proofs.definitions.mark.Goals as goal
use Rattle.c_scope.proofs.MarkedFunctions.{names_stay}

pub replace-requires-clause-name : goal.replace-requires-clause-name
replace-requires-clause-name c = λ earlier there.
    let found : Some c.in-Some-get.function.now ≡ slice_get c.args.functions.now c.in-Some.place = c.in-Some-get.ensures in
    names_stay c.args.used c.args.defined _ _ earlier c.in_ok-marked.ensures found there
