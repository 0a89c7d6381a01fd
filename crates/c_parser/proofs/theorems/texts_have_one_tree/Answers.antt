use Rattle.std.proofs.Common.{◌≡◌, subst}
use Rattle.c_tree.specs.Marks.{kinds_of}
use Rattle.c_tree.specs.Statements.{SourceReads}
use Rattle.c_parser.proofs.theorems.texts_have_one_tree.Goals as goal

pub returns : goal.returns
returns c bytes a b first second =
    let same : second.tokens ≡ first.tokens = (c.texts_have_one_answer.ensures bytes).one_list second.tokens first.tokens second.lexed first.lexed in
    c.sources_have_one_tree.ensures (kinds_of first.tokens) a b first.read (subst (λ ts. SourceReads (kinds_of ts) b) same second.read)
