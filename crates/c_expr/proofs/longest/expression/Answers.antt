use Rattle.std.proofs.Common.{◌≡◌, drop, Some, None, ap, ◌∙◌, rules, arith}
use Rattle.std.proofs.lemmas.Grind.{common_steps}
use Rattle.std.proofs.lemmas.List.{take_rest}
use Rattle.c_tree.specs.Marks.{kinds_of}
use Rattle.c_readers.specs.inner.Readers.{readers}
use Rattle.c_expr.proofs.completeness.ReadersAreComplete.{readers_read_longest}
use Rattle.c_expr.proofs.completeness.LongestExpressions.{longest_at, none_at, none_behind, leaves_inside, read_by}
use Rattle.c_expr.proofs.soundness.ReadersAreSound.{readers_are_sound}
use Rattle.c_expr.proofs.longest.expression.Goals as goal

pub returns-then-place-len-clause-none : goal.returns-then-place-len-clause-none
returns-then-place-len-clause-none c = none_behind c.args.names.now c.args.depth c.args.at c.args.tokens.now (omega arith)

pub overflow_sub-result : goal.overflow_sub-result
overflow_sub-result c =
    let read : (readers c.args.names.now c.args.depth).expr 0 (kinds_of (drop c.args.at c.args.tokens.now)) ≡ Some ((c.in-Ok.expr, c.in-Ok._height), c.expr.new.tokens) =
    read_by c.args.depth _ c.in_ok-known.ensures ((simp take_rest at c.new-cursor.ensures) ∙ ap (λ ts. kinds_of (drop c.args.at ts)) c.as_slice.ensures) c.in-Ok.ensures.reads in
    let inside = leaves_inside readers_are_sound readers_read_longest c.args.names.now c.args.depth c.args.at c.args.tokens.now c.in-Ok.expr c.in-Ok._height c.expr.new.tokens read in
    omega arith

pub returns-in-Ok-clause-found : goal.returns-in-Ok-clause-found
returns-in-Ok-clause-found c =
    let read : (readers c.args.names.now c.args.depth).expr 0 (kinds_of (drop c.args.at c.args.tokens.now)) ≡ Some ((c.in-Ok.expr, c.in-Ok._height), c.expr.new.tokens) =
    read_by c.args.depth _ c.in_ok-known.ensures ((simp take_rest at c.new-cursor.ensures) ∙ ap (λ ts. kinds_of (drop c.args.at ts)) c.as_slice.ensures) c.in-Ok.ensures.reads in
    rw (c.len-in-Ok.ensures, c.left.ensures)
    (longest_at readers_are_sound readers_read_longest c.args.names.now c.args.depth c.args.at c.args.tokens.now c.in-Ok.expr c.in-Ok._height c.expr.new.tokens (omega arith) read)

pub returns-in-Err-Mismatch-clause-none : goal.returns-in-Err-Mismatch-clause-none
returns-in-Err-Mismatch-clause-none c =
    let heard : (readers c.in_ok-known.known c.args.depth).expr 0 c.new-cursor.result ≡ None = first_of (search rules, grind (arith, common_steps)) in
    let read : (readers c.args.names.now c.args.depth).expr 0 (kinds_of (drop c.args.at c.args.tokens.now)) ≡ None =
    read_by c.args.depth _ c.in_ok-known.ensures ((simp take_rest at c.new-cursor.ensures) ∙ ap (λ ts. kinds_of (drop c.args.at ts)) c.as_slice.ensures) heard in
    none_at readers_are_sound readers_read_longest c.args.names.now c.args.depth c.args.at c.args.tokens.now read
