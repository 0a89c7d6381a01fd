use Rattle.std.proofs.Common.{◌∙◌, sym}
use Rattle.safe_locals.proofs.MarksAnswer.{chain_known, no_chain_known}
use Rattle.safe_locals.proofs.marks.Marks.first.Goals as goal

pub returns-in-Read : goal.returns-in-Read
returns-in-Read c = λ code u k knows. chain_known code u c.args.self.now.marks knows c.args.register c.in-Read.first (sym c.mark_at.ensures ∙ c.in-Read.is) k

pub returns-in_default : goal.returns-in_default
returns-in_default c = λ code u k knows. (λ chain. absurd (no_chain_known code u c.args.self.now.marks knows c.args.register (λ f is. c.in_default.not-Read f (c.mark_at.ensures ∙ is)) k chain), λ e. cc)
