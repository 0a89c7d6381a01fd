use Rattle.sensitivity.proofs.Complete.{classes_are, struct_read_kept}
use Rattle.sensitivity.proofs.class_table.classes.Goals as goal

pub returns : goal.returns
returns c =
    let defs = c.args.structs.now in
    classes_are defs c.spread.new.self c.in_ok-spread.ensures.search
    (λ s low. struct_read_kept defs c.in_ok-search.search c.spread.new.self s c.in_ok-spread.ensures.grows (c.in_ok-search.ensures.read s low))
    c.in_ok-spread.ensures.followed
