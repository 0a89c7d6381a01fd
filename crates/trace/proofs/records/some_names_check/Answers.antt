use Rattle.std.proofs.Common.{◌≡◌, ℕ, ◌+◌, ◌||◌, ◌∙◌, Bool, true, false, List, Some, ap, sym, drop, slice_get}
use Rattle.meaning.specs.Records.{is_violated, names_check}
use Rattle.meaning.specs.declared.record.Record.{Record}
use Rattle.trace.proofs.Places.{drop_from}
use Rattle.trace.proofs.records.some_names_check.Goals as goal

-- the answer of one record and that of those behind it are the answer of all, where none before it names a check
violated_from : (all : List Record) (i : ℕ) (entry : Record) (b : Bool) → slice_get all i ≡ Some entry → b ≡ names_check entry
    → is_violated (drop i all) ≡ is_violated all → (b || is_violated (drop (i + 1) all)) ≡ is_violated all
violated_from all i entry b is named before =
    ap (λ c. c || is_violated (drop (i + 1) all)) named ∙ ap is_violated (sym (drop_from all i entry is)) ∙ before

pub returns-then-names_check : goal.returns-then-names_check
returns-then-names_check c =
    violated_from c.args.records.now.records c.loop-i.i c.at.result.now true c.at.ensures (sym c.if-names_check.true ∙ c.names_check.ensures) c.loop-i.invariant

pub loop-i-preserved : goal.loop-i-preserved
loop-i-preserved c =
    violated_from c.args.records.now.records c.loop-i.i c.at.result.now false c.at.ensures (sym c.if-names_check.false ∙ c.names_check.ensures) c.loop-i.invariant
