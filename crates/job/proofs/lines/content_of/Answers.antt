use Rattle.std.proofs.Common.{◌∷◌, [], None, Some, refl, sym, ap, ◌∙◌}
use Rattle.std.proofs.lemmas.Bool.Decides.{Decides-eqb}
use Rattle.std.proofs.lemmas.Slice.Eq.{strip_suffix_is}
use Rattle.job.proofs.LinesLemmas.{content-no_lf, content-unwrap}
use Rattle.job.proofs.lines.content_of.Goals as goal

pub returns-in-None : goal.returns-in-None
returns-in-None c = sym (content-no_lf c.args.line.now (strip_suffix_is Decides-eqb c.args.line.now (10 ∷ []) None c.in-None.ensures.cases))

pub returns-in-Some : goal.returns-in-Some
returns-in-Some c =
    let text = c.in-Some.text in
    let lf = strip_suffix_is Decides-eqb c.args.line.now (10 ∷ []) (Some text) c.in-Some.ensures.cases in
    let cr = strip_suffix_is Decides-eqb text.now (13 ∷ []) c.strip_suffix-in-Some.result c.strip_suffix-in-Some.ensures.cases in
    ap (λ x. x.now) c.unwrap_or.ensures ∙ content-unwrap c.args.line.now text.now c.strip_suffix-in-Some.result text lf refl cr
