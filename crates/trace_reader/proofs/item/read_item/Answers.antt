use Rattle.std.proofs.Common.{◌∷◌, [], None, Some}
use Rattle.std.proofs.lemmas.Bool.Decides.{Decides-eqb}
use Rattle.std.proofs.lemmas.Slice.Eq.{strip_suffix_is}
use Rattle.trace_reader.proofs.ItemTexts.{reading_is, no_lf_reading}
use Rattle.trace_reader.proofs.item.read_item.Goals as goal

pub returns-in_err-text : goal.returns-in_err-text
returns-in_err-text c =
    rw c.from_residual.ensures (no_lf_reading c.field_laws.ensures c.args.raw.now (strip_suffix_is Decides-eqb c.args.raw.now (10 ∷ []) None c.in_err-text.ensures.cases))

pub returns : goal.returns
returns c =
    let read = c.read_whole.ensures in
    let text = c.in_ok-text.text in
    let line = strip_suffix_is Decides-eqb c.args.raw.now (10 ∷ []) (Some text) c.in_ok-text.ensures.cases in
    reading_is c.field_laws.ensures c.args.raw.now text.now c.read_whole.result c.read_whole.new.fields line
    (rw c.of.ensures at read.reads) (rw c.of.ensures at read.found) read.proper
