use Rattle.std.proofs.Common.{◌≡◌, ◌∙◌, ◌+◌, ◌-◌, [], ◌∷◌, ◌++◌, map, ap, sym, subst, arith, Some, Ok, Err}
use Rattle.std.proofs.lemmas.Result.{err_from_is_err_and}
use Rattle.c_types.specs.declared.ty.Ty.TheVariants as ty
use Rattle.elab_rows.specs.Units.{scalars}
use Rattle.elab_pieces.specs.Initialisers.{ByExpr, brace_leaves, leaf_assigned, leaves, part_types}
use Rattle.elab_statements.specs.Bodies.{PieceOutcome, piece_at}
use Rattle.elab_statements.specs.inner.Leaves.{leaf_lines, lvalue_of, text_lines}
use Rattle.elab_statements.proofs.BraceLoops.{element_further, element_lines, element_stops, elements_full, elements_rest, member_further, member_lines, member_stops, members_full, members_rest, part_lines}
use Rattle.elab_statements.proofs.InitRows.{array_parts, part_braces, part_expr, part_text, struct_parts}
use Rattle.elab_statements.proofs.LeafLines.{one_full}
use Rattle.elab_statements.proofs.MissingLoops.{no_items}
use Rattle.elab_statements.proofs.initialisers.+parts.Goals as goal

-- ---- one equation a form

pub part-returns-in-Expr-clause-made : goal.part-returns-in-Expr-clause-made
part-returns-in-Expr-clause-made t c =
    let start = c.args.body.now in
    let scope = c.args.scope.now in
    let x = c.args.target.now in
    let r = c.given.result in
    let new = c.given.new.body in
    subst (λ d. PieceOutcome start (piece_at start d) r new)
    (sym (part_expr scope x c.args.init.now c.in-Expr.expr c.args.ty.now c.args.k c.in-Expr.is))
    (one_full start new (leaf_assigned scope (lvalue_of x (Some c.args.k) c.args.ty.now) (ByExpr c.in-Expr.expr)) r c.given.ensures.made)

pub part-returns-in-Text-clause-made : goal.part-returns-in-Text-clause-made
part-returns-in-Text-clause-made t c =
    let start = c.args.body.now in
    let scope = c.args.scope.now in
    let x = c.args.target.now in
    let ts = scalars scope.structs c.args.ty.now in
    let r = c.text.result in
    let new = c.text.new.body in
    subst (λ d. PieceOutcome start (piece_at start d) r new)
    (sym (part_text scope x c.args.init.now c.in-Text.bytes c.args.ty.now c.args.k c.in-Text.is))
    (subst (λ bs. PieceOutcome start (piece_at start (text_lines x (bs ++ 0 ∷ []) ts c.args.k)) r new) c.as_slice.ensures c.text.ensures.made)

pub part-returns-in-Braces-clause-made : goal.part-returns-in-Braces-clause-made
part-returns-in-Braces-clause-made t c =
    let start = c.args.body.now in
    let scope = c.args.scope.now in
    let x = c.args.target.now in
    let defs = scope.structs in
    let r = c.braces.result in
    let new = c.braces.new.body in
    subst (λ d. PieceOutcome start (piece_at start d) r new)
    (sym (part_braces scope x c.args.init.now c.in-Braces.parts c.args.ty.now c.args.k c.in-Braces.is))
    (subst (λ ps. PieceOutcome start (piece_at start (leaf_lines scope x (brace_leaves defs (map (leaves defs) ps) (part_types defs c.args.ty.now) c.args.k))) r new)
    c.as_slice-in-Braces.ensures c.braces.ensures.made)

pub braces-returns-in-Array-clause-made : goal.braces-returns-in-Array-clause-made
braces-returns-in-Array-clause-made t c =
    let start = c.args.body.now in
    let scope = c.args.scope.now in
    let x = c.args.target.now in
    let ps = map (leaves scope.structs) c.args.parts.now in
    let r = c.elements.result in
    let new = c.elements.new.body in
    subst (λ ls. PieceOutcome start (piece_at start (leaf_lines scope x ls)) r new)
    (sym (array_parts scope.structs ps c.args.ty.now c.get.result.now c.in-Array.bound c.args.k
    (c.in-Array.is ∙ ap (λ e. ty.Array e c.in-Array.bound) (sym c.get.ensures))))
    c.elements.ensures.made

pub braces-returns-in_ok-members_of-in-Struct-clause-made : goal.braces-returns-in_ok-members_of-in-Struct-clause-made
braces-returns-in_ok-members_of-in-Struct-clause-made t c =
    let start = c.args.body.now in
    let scope = c.args.scope.now in
    let x = c.args.target.now in
    let ps = map (leaves scope.structs) c.args.parts.now in
    let r = c.members.result in
    let new = c.members.new.body in
    subst (λ ls. PieceOutcome start (piece_at start (leaf_lines scope x ls)) r new)
    (sym (struct_parts scope.structs ps c.args.ty.now c.in-Struct.s c.in_ok-members_of-in-Struct.field-0.now c.args.k c.in-Struct.is c.in_ok-members_of-in-Struct.ensures))
    c.members.ensures.made

-- ---- elements

pub elements-returns-then-left-eq0-clause-made : goal.elements-returns-then-left-eq0-clause-made
elements-returns-then-left-eq0-clause-made t c =
    let start = c.args.body.now in
    let scope = c.args.scope.now in
    let x = c.args.target.now in
    let ps = c.args.parts.now in
    let e = c.args.element.now in
    elements_full scope x ps e start (piece_at start (element_lines scope x ps ps e c.args.bound c.args.k)) c.loop-item.body c.loop-item.item-index
    c.loop-item.left c.loop-item.at c.loop-item.invariant c.if-left-eq0.true

pub elements-returns-in_err-part-clause-made : goal.elements-returns-in_err-part-clause-made
elements-returns-in_err-part-clause-made t c =
    let start = c.args.body.now in
    let scope = c.args.scope.now in
    let x = c.args.target.now in
    let ps = c.args.parts.now in
    let e = c.args.element.now in
    let now = c.loop-item.body in
    let f = c.in_err-part.field-0.0 in
    let p = err_from_is_err_and c.from_residual-in_err-part.result c.from_residual-in_err-part.ensures.1 in
    rw (p.1, p.2)
    (element_stops scope x ps e start (piece_at start (element_lines scope x ps ps e c.args.bound c.args.k)) now c.loop-item.item-index
    c.loop-item.left c.loop-item.at c.loop-item.invariant c.item-item.result (omega arith) (c.loop-item.left - 1) (omega arith) c.part.new.body f
    (subst (λ i. PieceOutcome now (piece_at now (part_lines scope x ps i e c.loop-item.at)) (Err f) c.part.new.body) c.item-item.is
    c.in_err-part.ensures.made))

pub elements-loop-item-preserved : goal.elements-loop-item-preserved
elements-loop-item-preserved t c =
    let start = c.args.body.now in
    let scope = c.args.scope.now in
    let x = c.args.target.now in
    let ps = c.args.parts.now in
    let e = c.args.element.now in
    let now = c.loop-item.body in
    element_further scope x ps e start (piece_at start (element_lines scope x ps ps e c.args.bound c.args.k)) now c.loop-item.item-index
    c.loop-item.left c.loop-item.at c.loop-item.invariant c.item-item.result (omega arith) (c.loop-item.left - 1) (omega arith) c.part.new.body
    (subst (λ i. PieceOutcome now (piece_at now (part_lines scope x ps i e c.loop-item.at)) (Ok tt) c.part.new.body) c.item-item.is
    c.in_ok-part.ensures.made)
    c.in_ok-part.ensures.sound c.in_ok-at.at (c.in_ok-at.ensures ∙ ap (λ u. c.loop-item.at + u) c.in_ok-units.ensures)

pub elements-returns-clause-made : goal.elements-returns-clause-made
elements-returns-clause-made t c =
    let start = c.args.body.now in
    let scope = c.args.scope.now in
    let x = c.args.target.now in
    let ps = c.args.parts.now in
    let e = c.args.element.now in
    elements_rest scope x ps e start (piece_at start (element_lines scope x ps ps e c.args.bound c.args.k)) c.loop-item.body c.loop-item.item-index
    c.loop-item.left c.loop-item.at c.loop-item.invariant (omega arith) c.missing_elements.result c.missing_elements.new.body c.missing_elements.ensures.made

-- ---- members

pub members-returns-in_default-clause-made : goal.members-returns-in_default-clause-made
members-returns-in_default-clause-made t c =
    let start = c.args.body.now in
    let scope = c.args.scope.now in
    let x = c.args.target.now in
    let ps = c.args.parts.now in
    members_full scope x ps start (piece_at start (member_lines scope x ps ps c.args.members.now c.args.k)) c.loop-item.body c.loop-item.item-index
    c.loop-item.left.now c.loop-item.at c.loop-item.invariant (no_items c.loop-item.left.now c.in_default.ensures.cases)

pub members-returns-in_err-part-clause-made : goal.members-returns-in_err-part-clause-made
members-returns-in_err-part-clause-made t c =
    let start = c.args.body.now in
    let scope = c.args.scope.now in
    let x = c.args.target.now in
    let ps = c.args.parts.now in
    let now = c.loop-item.body in
    let m = c.in-Some.member.now in
    let f = c.in_err-part.field-0.0 in
    let split : c.loop-item.left.now ≡ m ∷ c.in-Some.behind.now = cc (c.in-Some.ensures.cases.0, c.in-Some.member-is, c.in-Some.behind-is) in
    let p = err_from_is_err_and c.from_residual.result c.from_residual.ensures.1 in
    rw (p.1, p.2)
    (member_stops scope x ps start (piece_at start (member_lines scope x ps ps c.args.members.now c.args.k)) now c.loop-item.item-index
    c.loop-item.left.now c.loop-item.at c.loop-item.invariant c.item-item.result (omega arith) m c.in-Some.behind.now split c.part.new.body f
    (subst (λ i. PieceOutcome now (piece_at now (part_lines scope x ps i m.ty c.loop-item.at)) (Err f) c.part.new.body) c.item-item.is
    c.in_err-part.ensures.made))

pub members-loop-item-preserved : goal.members-loop-item-preserved
members-loop-item-preserved t c =
    let start = c.args.body.now in
    let scope = c.args.scope.now in
    let x = c.args.target.now in
    let ps = c.args.parts.now in
    let now = c.loop-item.body in
    let m = c.in-Some.member.now in
    let split : c.loop-item.left.now ≡ m ∷ c.in-Some.behind.now = cc (c.in-Some.ensures.cases.0, c.in-Some.member-is, c.in-Some.behind-is) in
    member_further scope x ps start (piece_at start (member_lines scope x ps ps c.args.members.now c.args.k)) now c.loop-item.item-index
    c.loop-item.left.now c.loop-item.at c.loop-item.invariant c.item-item.result (omega arith) m c.in-Some.behind.now split c.part.new.body
    (subst (λ i. PieceOutcome now (piece_at now (part_lines scope x ps i m.ty c.loop-item.at)) (Ok tt) c.part.new.body) c.item-item.is
    c.in_ok-part.ensures.made)
    c.in_ok-part.ensures.sound c.in_ok-at.at (c.in_ok-at.ensures ∙ ap (λ u. c.loop-item.at + u) c.in_ok-units.ensures)

pub members-returns-clause-made : goal.members-returns-clause-made
members-returns-clause-made t c =
    let start = c.args.body.now in
    let scope = c.args.scope.now in
    let x = c.args.target.now in
    let ps = c.args.parts.now in
    members_rest scope x ps start (piece_at start (member_lines scope x ps ps c.args.members.now c.args.k)) c.loop-item.body c.loop-item.item-index
    c.loop-item.left.now c.loop-item.at c.loop-item.invariant (omega arith) c.missing_members.result c.missing_members.new.body
    c.missing_members.ensures.made
