use Rattle.levee_top.proofs.OneOutcome.{outcome_is_one}
use Rattle.levee_top.proofs.theorems.outcomes_are_unique.Goals as goal

pub returns : goal.returns
returns c = outcome_is_one (record {
  cuts = c.jobs_have_one_cut.ensures.one;
  marks = c.jobs_have_one_cut.ensures.marked;
  source = record {
    texts = c.texts_have_one_answer.ensures;
    trees = c.sources_have_one_tree.ensures;
    certain = c.refusals_are_certain.ensures;
    verdicts = c.sources_have_one_verdict.ensures;
  };
  scripts = c.scripts_have_one_answer.ensures.scripts;
  codes = c.programs_have_one_code.ensures;
})
