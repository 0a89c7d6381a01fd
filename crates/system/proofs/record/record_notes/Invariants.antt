use Rattle.std.proofs.Common.{◌≡◌, ◌≤◌, drop, length, map}
use Rattle.meaning.specs.declared.record.Record.TheVariants.{Noted}
use Rattle.meaning.specs.Records.{added_all}
use Rattle.system.proofs.record.record_notes.Given as goal

-- the records so far, and those of the notes that are left, are all of them; there is room for these
abbrev pub invariant-loop-note : goal.invariant-loop-note
invariant-loop-note l = record {
  records : added_all l.trace.records (map (Noted l.t) (drop l.note-index l.notes)) ≡ added_all l.fn.trace.records (map (Noted l.t) l.notes);
  inputs : l.trace.inputs ≡ l.fn.trace.inputs;
  spare : length (drop l.note-index l.notes) ≤ l.trace.spare;
}
