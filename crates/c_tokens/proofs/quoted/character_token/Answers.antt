use Rattle.std.proofs.Common.{refl, sym, ◌∙◌, arith}
use Rattle.std.proofs.lemmas.Int.{ints}
use Rattle.std.proofs.lemmas.List.{take_rest}
use Rattle.c_tokens.proofs.soundness.Tokens.{character_token, no_piece_refused, open_character_refused}
use Rattle.c_tokens.proofs.quoted.character_token.Goals as goal
use Rattle.c_tokens.proofs.quoted.character_token.Goals.{in_default-via-in-Some+else-starts_with, in_default-via-in_default}

pub returns-in-Some : goal.returns-in-Some
returns-in-Some c =
    let found = simp take_rest at c.in-Some.ensures in
    let closes = simp take_rest at c.starts_with.ensures.value in
    character_token c.args.bytes.now c.in-Some.len c.in-Some.byte _ (omega (arith, ints)) c.requires found.inside found.piece (sym closes ∙ c.if-starts_with.true)

pub returns-in_default : goal.returns-in_default
returns-in_default c = λ e. (
  elim c.in_default.branch [
    | in_default-via-in-Some+else-starts_with w ↦
        let found = simp take_rest at w.in-Some.ensures in
        let open_end = simp take_rest at w.starts_with.ensures.value in
        open_character_refused c.args.line c.args.bytes.now w.in-Some.len w.in-Some.byte c.requires found.piece (sym open_end ∙ w.if-starts_with.false)
    | in_default-via-in_default w ↦ no_piece_refused c.args.line c.args.bytes.now c.requires (simp take_rest at w.in_default.ensures.piece)
  ],
  refl,
)
