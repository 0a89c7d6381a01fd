use Rattle.code_report.proofs.OneReport.{reports_are_unique}
use Rattle.code_report.proofs.theorems.reports_are_unique.Goals as goal

pub returns : goal.returns
returns c = reports_are_unique c.classes_are_unique.ensures
