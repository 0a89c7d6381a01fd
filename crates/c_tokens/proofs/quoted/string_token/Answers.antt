use Rattle.std.proofs.Common.{refl, sym, ◌∙◌}
use Rattle.std.proofs.lemmas.List.{take_rest}
use Rattle.c_tokens.proofs.soundness.Tokens.{string_token, open_string_refused}
use Rattle.c_tokens.proofs.quoted.string_token.Goals as goal

pub returns-then-not-starts_with : goal.returns-then-not-starts_with
returns-then-not-starts_with c = λ e.
    let found = simp take_rest at c.in_ok-spelling.ensures in
    let open_end = simp take_rest at c.starts_with.ensures.value in
    (open_string_refused c.args.line c.args.bytes.now c.in_ok-spelling.spelling c.in_ok-spelling.len c.requires found.pieces found.all (sym open_end ∙ c.if-not-starts_with.true), refl)

pub returns : goal.returns
returns c =
    let found = simp take_rest at c.in_ok-spelling.ensures in
    let closes = simp take_rest at c.starts_with.ensures.value in
    string_token c.args.bytes.now c.in_ok-spelling.spelling c.in_ok-spelling.len c.requires found.inside found.pieces (sym closes ∙ c.if-not-starts_with.false)
