use Rattle.std.proofs.Common.{sym, ap, ◌∙◌, subst, take}
use Rattle.c_tokens.specs.declared.token.Kind.{Kind}
use Rattle.c_tokens.specs.declared.token.Kind.TheVariants.{Name}
use Rattle.c_tokens.specs.inner.Scan.{BeginsWithToken}
use Rattle.c_tokens.proofs.WordsLemmas.{keyword_found, no_keyword}
use Rattle.c_tokens.proofs.soundness.Tokens.{keyword_token, name_token}
use Rattle.c_tokens.proofs.word.word_token.Goals as goal
use Rattle.c_tokens.proofs.word.word_token.Goals.{in-Some, in-None+in_ok-from_slice-in-None}

pub returns : goal.returns
returns c =
    let bytes = c.args.bytes.now in
    let len = c.run_len-len.result in
    let word = take len bytes in
    let P : Kind → Type 0 = λ kind. BeginsWithToken bytes kind len in
    elim c.match-keyword_of.branch [
      | in-Some w ↦ subst P (sym w.kind-is) (keyword_token bytes len c.run_len-len.ensures w.in-Some.keyword (keyword_found word w.in-Some.keyword (sym w.in-Some.ensures)))
      | in-None+in_ok-from_slice-in-None w ↦
          subst P (sym (w.kind-is ∙ ap Name w.in_ok-from_slice-in-None.ensures)) (name_token bytes len c.run_len-len.ensures c.requires (no_keyword word (sym w.in-None.ensures)))
    ]
