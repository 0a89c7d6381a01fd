use Rattle.std.proofs.Common.{◌∙◌, [], ◌∷◌, ◌++◌, map, take, ap, sym, arith}
use Rattle.std.proofs.lemmas.List.{take_more}
use Rattle.elab_rows.specs.Units.{scalars}
use Rattle.elab_pieces.specs.Initialisers.{all_scalars}
use Rattle.elab_statements.proofs.ScalarLists.{members_more}
use Rattle.elab_statements.proofs.missing.member_scalars.Goals as goal

pub loop-member-preserved : goal.loop-member-preserved
loop-member-preserved c =
    let defs = c.args.structs.now in
    let ms = c.args.members.now in
    let i = c.loop-member.member-index in
    let m = c.member-item.result in
    c.in_ok-list_scalars.ensures
    ∙ ap (λ ts. ts ++ scalars defs m.ty) c.loop-member.invariant
    ∙ sym (members_more defs (take i ms) m)
    ∙ ap (λ ns. all_scalars defs (map (λ n. n.ty) ns)) (sym (take_more ms i m (omega arith) ∙ ap (λ n. take i ms ++ n ∷ []) (sym c.member-item.is)))
