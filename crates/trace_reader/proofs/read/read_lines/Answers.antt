use Rattle.std.proofs.Common.{◌≡◌, true, length, sym, ap, subst, ◌∙◌}
use Rattle.std.specs.Result.{is_ok}
use Rattle.std.proofs.lemmas.Bool.{both_ways, eqb-true}
use Rattle.std.proofs.lemmas.List.{nil_from_length}
use Rattle.trace_reader.proofs.LinesAreRead.{Read, read_none, read_more, read_bad, read_misplaced, read_all, at_ok}
use Rattle.trace_reader.proofs.read.read_lines.Goals as goal

pub loop-rest-init : goal.loop-rest-init
loop-rest-init c = rw (c.new.ensures, c.new-2.ensures) (read_none c.args.bytes.now)

pub returns-in_default-clause-refused : goal.returns-in_default-clause-refused
returns-in_default-clause-refused c =
    read_bad c.args.bytes.now c.loop-rest.rest.now c.loop-rest.number c.loop-rest.lines.inputs c.loop-rest.lines.records c.loop-rest.invariant
    c.line_len.result c.line_len.ensures.first (λ x is same. c.in_default.ensures x is (c.split_at.ensures.front ∙ same))

pub returns-then-not-takes-clause-refused : goal.returns-then-not-takes-clause-refused
returns-then-not-takes-clause-refused c =
    read_misplaced c.field_laws.ensures c.args.bytes.now c.loop-rest.rest.now c.loop-rest.number c.loop-rest.lines.inputs c.loop-rest.lines.records c.loop-rest.invariant
    c.line_len.result c.line_len.ensures.first c.in-Some.item c.in-Some.ensures.0 (sym c.split_at.ensures.front ∙ c.in-Some.ensures.1)
    (λ may. both_ways c.takes.result c.if-not-takes.true (c.takes.ensures.1 may))

pub loop-rest-preserved : goal.loop-rest-preserved
loop-rest-preserved c =
    let ok : is_ok c.add.result ≡ true = ap is_ok c.in_ok-add.was in
    rw c.split_at.ensures.back
    (read_more c.args.bytes.now c.loop-rest.rest.now c.loop-rest.number c.loop-rest.lines.inputs c.loop-rest.lines.records c.loop-rest.invariant
    c.line_len.result c.line_len.ensures.first c.line_len.ensures.some c.line_len.ensures.within
    c.in-Some.item c.in-Some.ensures.0 (sym c.split_at.ensures.front ∙ c.in-Some.ensures.1) (c.takes.ensures.0 c.if-not-takes.false)
    c.add.new.self.inputs c.add.new.self.records (at_ok c.add.result ok c.add.ensures))

pub returns-clause-found : goal.returns-clause-found
returns-clause-found c =
    let none = nil_from_length c.loop-rest.rest.now (eqb-true (length c.loop-rest.rest.now) 0 (sym c.is_empty.ensures ∙ c.loop-rest-test.false)) in
    read_all c.args.bytes.now c.loop-rest.number c.loop-rest.lines.inputs c.loop-rest.lines.records
    (subst (λ t. Read c.args.bytes.now t c.loop-rest.number c.loop-rest.lines.inputs c.loop-rest.lines.records) none c.loop-rest.invariant)
