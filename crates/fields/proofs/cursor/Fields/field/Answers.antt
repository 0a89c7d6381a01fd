use Rattle.std.proofs.Common.{◌∷◌, [], sym, ap, ◌∙◌, arith}
use Rattle.std.specs.Prelude.{nat_eq, not}
use Rattle.std.proofs.lemmas.Bool.Decides.{Decides-eqb}
use Rattle.std.proofs.lemmas.List.Sums.{prefix_len-le-length}
use Rattle.std.proofs.lemmas.Slice.Eq.{strip_prefix_is}
use Rattle.fields.specs.inner.Rest.{left}
use Rattle.fields.proofs.FieldLemmas.{first_field}
use Rattle.fields.proofs.cursor.Fields.field.Goals as goal

pub split_at-requires : goal.split_at-requires
split_at-requires c = omega (arith, c.len_before.ensures, prefix_len-le-length (λ b. not (nat_eq b 32)) c.in_ok-text.text.now)

pub returns : goal.returns
returns c =
    let text = c.in_ok-text.text.now in
    let behind = rw c.split_at.ensures.back at (strip_prefix_is Decides-eqb c.split_at.result.1.now (32 ∷ []) c.strip_prefix-self-inside.result c.strip_prefix-self-inside.ensures.cases) in
    let first = first_field text c.len_before.result c.strip_prefix-self-inside.result c.len_before.ensures behind in
    sym c.self.view_is ∙ ap left c.in_ok-text.was ∙ first ∙ ap (λ t. t ∷ left c.strip_prefix-self-inside.result) (sym c.split_at.ensures.front)
