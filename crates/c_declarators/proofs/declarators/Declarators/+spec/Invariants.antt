use Rattle.std.proofs.Common.{◌≡◌, ◌+◌, ◌*◌, ◌≤◌, ◌-◌}
use Rattle.c_readers.specs.inner.Nests.{below}
use Rattle.c_readers.specs.inner.Readers.{members, members_from}
use Rattle.c_declarators.proofs.declarators.Declarators.+spec.Given as goal

abbrev pub decreases-spec : goal.decreases-spec
decreases-spec g l = 5 * l.self.now.grammar.depth + 4

abbrev pub decreases-struct_spec : goal.decreases-struct_spec
decreases-struct_spec g l = 5 * l.self.now.grammar.depth + 3

abbrev pub decreases-struct_body : goal.decreases-struct_body
decreases-struct_body g l = 5 * l.self.now.grammar.depth + 2

abbrev pub decreases-members : goal.decreases-members
decreases-members g l = 5 * l.self.now.grammar.depth + 1

abbrev pub decreases-member : goal.decreases-member
decreases-member g l = 5 * l.self.now.grammar.depth

abbrev pub invariant-members-loop-turn : goal.invariant-members-loop-turn
invariant-members-loop-turn g l =
    let inner = below l.self.grammar.names.now l.self.grammar.depth in
    (members l.self.grammar.names.now inner l.initial.tokens ≡ members_from l.self.grammar.names.now inner (l._turn-end - l._turn) l.found l.height l.tokens) × (l.height ≤ l.self.grammar.depth - 1)
