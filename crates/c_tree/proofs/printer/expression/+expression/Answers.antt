use Rattle.std.proofs.Common.{◌≡◌, ◌∙◌, ℕ, inl, inr, ◌∷◌, [], map, refl, ap, sym, rules, arith, Some}
use Rattle.std.specs.Option.{option_map}
use Rattle.std.proofs.lemmas.Bool.{false≢true}
use Rattle.std.proofs.lemmas.Result.{on_ok_weaker}
use Rattle.c_tokens.specs.declared.token.Kind.TheVariants.{Name}
use Rattle.c_tree.specs.declared.expression.AbstractDeclarator.{out-AbstractDeclarator}
use Rattle.c_tree.specs.declared.expression.Expr.{out-Expr, the_lemmas}
use Rattle.c_tree.specs.declared.expression.Expr.TheVariants as expr
use Rattle.c_tree.specs.Grammar.{HasParts}
use Rattle.c_tree.specs.inner.Appended.{Appends}
use Rattle.c_tree.specs.inner.PrintedParts.{expr_parts}
use Rattle.c_tree.specs.Printed.{printed_type_word, joined, with_commas, body_kinds, bound_kinds, declarator_kinds, bracketed_kinds, expr_step, printed_abstract, sign, right_of_sign, left_of_sign, printed_expr, printed_direct, printed_spec, printed_member, printed_declarator, printed_suffix, printed_params, printed_param}
use Rattle.c_tree.proofs.PrintedLemmas as Printed
use Rattle.c_tree.proofs.AppendedLemmas.{then, begun, nothing, given, at, into, done, one_more}
use Rattle.c_tree.proofs.WrittenLemmas.{commas-more, commas-end, joined-more, joined-end}
use Rattle.c_tree.proofs.printer.expression.+expression.Goals as goal
use Rattle.c_tree.proofs.printer.expression.+expression.Goals.{push_abstract-in-Some+in_ok-push_mark+in_ok-push_abstract+in_ok-push_mark-2, push_abstract-in_default, push_declarator-else-declarator-eq0-via-then-declarator-eq0+else-is_empty, push_declarator-else-declarator-eq0-via-else-declarator-eq0, push_suffix-in-Some+in_ok-push_expr-in-Array, push_suffix-in_default}

pub push_abstract-returns : goal.push_abstract-returns
push_abstract-returns t c =
    let inside : Appends c.push_stars.new.out.items (bracketed_kinds (option_map printed_abstract (out-AbstractDeclarator c.args.declarator.now).bracketed)) c.match-declarator.out.items = elim c.match-declarator.branch [
      | push_abstract-in-Some+in_ok-push_mark+in_ok-push_abstract+in_ok-push_mark-2 w ↦ into (ap (λ o. o.items) w.out-is) (at (λ o. bracketed_kinds (option_map printed_abstract o)) (sym w.in-Some.is)
          (then w.in_ok-push_mark.ensures (then (at printed_abstract w.get.ensures w.in_ok-push_abstract.ensures) w.in_ok-push_mark-2.ensures)))
      | push_abstract-in_default w ↦ into (ap (λ o. o.items) w.out-is) (at (λ o. bracketed_kinds (option_map printed_abstract o)) (sym w.in_default.is) nothing)
    ] in
    on_ok_weaker _ (λ last. given (Printed.abstract-of _) (then (then c.in_ok-push_stars.ensures inside) (at (λ ss. joined (map printed_suffix ss)) c.as_slice.ensures last))) c.push_suffixes.ensures

pub push_arguments-loop-i-init : goal.push_arguments-loop-i-init
push_arguments-loop-i-init t c = refl

pub push_arguments-loop-i-preserved : goal.push_arguments-loop-i-preserved
push_arguments-loop-i-preserved t c = one_more _ _ c.loop-i.invariant (commas-more printed_expr c.args.arguments.now c.loop-i.i _ c.loop-i-test.true c.index-arguments-i.is) (then c.in_ok-push_separator.ensures c.in_ok-push_expr.ensures)

pub push_arguments-returns : goal.push_arguments-returns
push_arguments-returns t c = done c.loop-i.invariant (commas-end printed_expr c.args.arguments.now c.loop-i.i c.loop-i-test.false)

pub push_right-returns-in_ok-push_mark-in-Conditional : goal.push_right-returns-in_ok-push_mark-in-Conditional
push_right-returns-in_ok-push_mark-in-Conditional t c = on_ok_weaker _ (λ last. given (ap right_of_sign (Printed.parts-at _ (ap out-Expr c.in-Conditional.is ∙ expr.outs-Conditional _ _ _))) (then (at printed_expr c.get.ensures c.in_ok-push_expr-in-Conditional.ensures) (then c.in_ok-push_mark-in-Conditional.ensures (at printed_expr c.get-in-Conditional.ensures last)))) c.push_expr-in-Conditional.ensures

pub push_right-returns-in_ok-push_mark-in-Cast : goal.push_right-returns-in_ok-push_mark-in-Cast
push_right-returns-in_ok-push_mark-in-Cast t c = on_ok_weaker _ (λ last. given (ap right_of_sign (Printed.parts-at _ (ap out-Expr c.in-Cast.is ∙ expr.outs-Cast _ _))) (then (at printed_type_word c.get-in-Cast.ensures c.in_ok-push_type_word-in-Cast.ensures) (then c.in_ok-push_mark-in-Cast.ensures (at printed_expr c.get-in-Cast-2.ensures last)))) c.push_expr-in-Cast.ensures

pub push_right-returns-in_ok-push_type_word-in-SizeofType : goal.push_right-returns-in_ok-push_type_word-in-SizeofType
push_right-returns-in_ok-push_type_word-in-SizeofType t c = on_ok_weaker _ (λ last. given (ap right_of_sign (Printed.parts-at _ (ap out-Expr c.in-SizeofType.is ∙ expr.outs-SizeofType _))) (then c.in_ok-push_mark-in-SizeofType.ensures (then (at printed_type_word c.get-in-SizeofType.ensures c.in_ok-push_type_word-in-SizeofType.ensures) last))) c.push_mark-in-SizeofType-2.ensures

pub push_right-returns-in_ok-push_expr-in-Index : goal.push_right-returns-in_ok-push_expr-in-Index
push_right-returns-in_ok-push_expr-in-Index t c = on_ok_weaker _ (λ last. given (ap right_of_sign (Printed.parts-at _ (ap out-Expr c.in-Index.is ∙ expr.outs-Index _ _))) (then (at printed_expr c.get-in-Index.ensures c.in_ok-push_expr-in-Index.ensures) last)) c.push_mark-in-Index.ensures

pub push_right-returns-in_ok-push_arguments-in-Call : goal.push_right-returns-in_ok-push_arguments-in-Call
push_right-returns-in_ok-push_arguments-in-Call t c = on_ok_weaker _ (λ last. given (ap right_of_sign (Printed.parts-at _ (ap out-Expr c.in-Call.is ∙ expr.outs-Call _ _))) (then (at (λ es. with_commas (map printed_expr es)) c.as_slice.ensures c.in_ok-push_arguments-in-Call.ensures) last)) c.push_mark-in-Call.ensures

right-name : (t : ℕ) (c : goal.push_right-After-push_name t) → right_of_sign (expr_parts c.args.expr.now) ≡ Name c.in-Member.name ∷ []
unfolding expr_parts
right-name t c = search (rules, the_lemmas)

pub push_right-returns-in-Member : goal.push_right-returns-in-Member
push_right-returns-in-Member t c = on_ok_weaker _ (given (right-name t c)) c.push_name.ensures

right-operand : (t : ℕ) (c : goal.push_right-After-push_expr-in-Assign t) → right_of_sign (expr_parts c.args.expr.now) ≡ printed_expr c.in-Assign.operand
unfolding expr_parts
right-operand t c = search (rules, the_lemmas)

pub push_right-returns-in-Assign : goal.push_right-returns-in-Assign
push_right-returns-in-Assign t c = on_ok_weaker _ (λ last. given (right-operand t c) (at printed_expr c.get-in-Assign.ensures last)) c.push_expr-in-Assign.ensures

pub push_body-loop-member-init : goal.push_body-loop-member-init
push_body-loop-member-init t c = begun (joined (map printed_member c.args.members.now)) c.in_ok-push_mark.ensures

pub push_body-loop-member-preserved : goal.push_body-loop-member-preserved
push_body-loop-member-preserved t c = one_more _ _ c.loop-member.invariant (joined-more printed_member c.args.members.now c.loop-member.member-index _ c.loop-member-test.true c.member-item.is) (given (Printed.member-of _) (then (then c.in_ok-push_spec.ensures (at (λ ds. with_commas (map printed_declarator ds)) c.as_slice.ensures c.in_ok-push_declarators.ensures)) c.in_ok-push_mark-2.ensures))

pub push_body-returns : goal.push_body-returns
push_body-returns t c = on_ok_weaker _ (λ last. then (done c.loop-member.invariant (joined-end printed_member c.args.members.now c.loop-member.member-index c.loop-member-test.false)) last) c.push_mark-2.ensures

pub push_declarator-returns-then-is_empty : goal.push_declarator-returns-then-is_empty
push_declarator-returns-then-is_empty t c =
    let none : c.args.declarator.now.suffixes ≡ [] = search rules in
    let same : declarator_kinds c.args.declarator.now.stars (printed_direct c.args.declarator.now.direct) (map printed_suffix c.args.declarator.now.suffixes) ≡ printed_direct c.args.declarator.now.direct =
    λ i. declarator_kinds (c.if-declarator-eq0.true i) (printed_direct c.args.declarator.now.direct) (map printed_suffix (none i)) in
    on_ok_weaker _ (λ last. given (Printed.declarator-of _ ∙ same) last) c.push_direct.ensures

pub push_declarator-returns : goal.push_declarator-returns
push_declarator-returns t c =
    let parts : HasParts c.args.declarator.now.stars c.args.declarator.now.suffixes = elim c.else-declarator-eq0.branch [
      | push_declarator-else-declarator-eq0-via-then-declarator-eq0+else-is_empty w ↦ inr (λ none. false≢true (sym w.if-is_empty.false ∙ w.is_empty.ensures.1 none))
      | push_declarator-else-declarator-eq0-via-else-declarator-eq0 w ↦ let some = w.if-declarator-eq0.false in inl (omega (arith, some))
    ] in
    on_ok_weaker _ (λ last. given (Printed.declarator-of _ ∙ Printed.declarator-enclosed _ _ _ parts)
    (then c.in_ok-push_mark.ensures (then (then (then c.in_ok-push_stars.ensures c.in_ok-push_direct.ensures) (at (λ ss. joined (map printed_suffix ss)) c.as_slice.ensures c.in_ok-push_suffixes.ensures)) last))) c.push_mark-2.ensures

pub push_declarators-loop-i-init : goal.push_declarators-loop-i-init
push_declarators-loop-i-init t c = refl

pub push_declarators-loop-i-preserved : goal.push_declarators-loop-i-preserved
push_declarators-loop-i-preserved t c = one_more _ _ c.loop-i.invariant (commas-more printed_declarator c.args.declarators.now c.loop-i.i _ c.loop-i-test.true c.index-declarators-i.is) (then c.in_ok-push_separator.ensures c.in_ok-push_declarator.ensures)

pub push_declarators-returns : goal.push_declarators-returns
push_declarators-returns t c = done c.loop-i.invariant (commas-end printed_declarator c.args.declarators.now c.loop-i.i c.loop-i-test.false)

pub push_direct-returns-in-Name : goal.push_direct-returns-in-Name
push_direct-returns-in-Name t c = on_ok_weaker _ (λ last. given (ap printed_direct c.in-Name.is ∙ Printed.direct-Name _) last) c.push_name.ensures

pub push_direct-returns-in-Bracketed : goal.push_direct-returns-in-Bracketed
push_direct-returns-in-Bracketed t c = on_ok_weaker _ (λ last. given (ap printed_direct c.in-Bracketed.is ∙ Printed.direct-Bracketed _) (at printed_declarator c.get.ensures last)) c.push_declarator.ensures

pub push_expr-returns-in_ok-push_right-in_default : goal.push_expr-returns-in_ok-push_right-in_default
push_expr-returns-in_ok-push_right-in_default t c =
    on_ok_weaker _ (λ last. given (Printed.expr-of _ ∙ Printed.enclosed _ c.in_default.not-Identifier c.in_default.not-Number c.in_default.not-Text)
    (then c.in_ok-push_mark-in_default.ensures (then (then c.in_ok-push_left-in_default.ensures (then c.in_ok-push_sign-in_default.ensures c.in_ok-push_right-in_default.ensures)) last))) c.push_mark-in_default.ensures

one-token : (t : ℕ) (c : goal.push_expr-After-push_sign-in-Identifier t) → expr_step (expr_parts c.args.expr.now) ≡ sign (expr_parts c.args.expr.now) ∷ []
unfolding expr_parts
one-token t c = search (rules, the_lemmas)

pub push_expr-returns-in-Identifier : goal.push_expr-returns-in-Identifier
push_expr-returns-in-Identifier t c = on_ok_weaker _ (given (Printed.expr-of _ ∙ one-token t c)) c.push_sign-in-Identifier.ensures

left-operand : (t : ℕ) (c : goal.push_left-After-push_expr t) → left_of_sign (expr_parts c.args.expr.now) ≡ printed_expr c.in-Assign.operand
unfolding expr_parts
left-operand t c = search (rules, the_lemmas)

pub push_left-returns-in-Assign : goal.push_left-returns-in-Assign
push_left-returns-in-Assign t c = on_ok_weaker _ (λ last. given (left-operand t c) (at printed_expr c.get.ensures last)) c.push_expr.ensures

pub push_param-returns-in_ok-push_spec-in-Named : goal.push_param-returns-in_ok-push_spec-in-Named
push_param-returns-in_ok-push_spec-in-Named t c = on_ok_weaker _ (λ last. given (ap printed_param c.in-Named.is ∙ Printed.param-Named _ _) (then c.in_ok-push_spec-in-Named.ensures last)) c.push_declarator.ensures

pub push_param-returns-in_ok-push_spec-in-Unnamed : goal.push_param-returns-in_ok-push_spec-in-Unnamed
push_param-returns-in_ok-push_spec-in-Unnamed t c = on_ok_weaker _ (λ last. given (ap printed_param c.in-Unnamed.is ∙ Printed.param-Unnamed _ _) (then c.in_ok-push_spec-in-Unnamed.ensures last)) c.push_abstract.ensures

pub push_param_list-loop-i-init : goal.push_param_list-loop-i-init
push_param_list-loop-i-init t c = refl

pub push_param_list-loop-i-preserved : goal.push_param_list-loop-i-preserved
push_param_list-loop-i-preserved t c = one_more _ _ c.loop-i.invariant (commas-more printed_param c.args.params.now c.loop-i.i _ c.loop-i-test.true c.index-params-i.is) (then c.in_ok-push_separator.ensures c.in_ok-push_param.ensures)

pub push_param_list-returns : goal.push_param_list-returns
push_param_list-returns t c = done c.loop-i.invariant (commas-end printed_param c.args.params.now c.loop-i.i c.loop-i-test.false)

pub push_params-returns-in-Nothing : goal.push_params-returns-in-Nothing
push_params-returns-in-Nothing t c = given (ap printed_params c.in-Nothing.is ∙ Printed.params-Nothing) nothing

pub push_params-returns-in-VoidAlone : goal.push_params-returns-in-VoidAlone
push_params-returns-in-VoidAlone t c = on_ok_weaker _ (λ last. given (ap printed_params c.in-VoidAlone.is ∙ Printed.params-VoidAlone) last) c.push_word.ensures

pub push_params-returns-in-List : goal.push_params-returns-in-List
push_params-returns-in-List t c = on_ok_weaker _ (λ last. given (ap printed_params c.in-List.is ∙ Printed.params-List _) (at (λ ps. with_commas (map printed_param ps)) c.as_slice.ensures last)) c.push_param_list.ensures

pub push_spec-returns-in-Int : goal.push_spec-returns-in-Int
push_spec-returns-in-Int t c = on_ok_weaker _ (λ last. given (ap printed_spec c.in-Int.is ∙ Printed.spec-Int) last) c.push_word.ensures

pub push_spec-returns-in-Char : goal.push_spec-returns-in-Char
push_spec-returns-in-Char t c = on_ok_weaker _ (λ last. given (ap printed_spec c.in-Char.is ∙ Printed.spec-Char) last) c.push_word-in-Char.ensures

pub push_spec-returns-in-Void : goal.push_spec-returns-in-Void
push_spec-returns-in-Void t c = on_ok_weaker _ (λ last. given (ap printed_spec c.in-Void.is ∙ Printed.spec-Void) last) c.push_word-in-Void.ensures

pub push_spec-returns-in-TypeName : goal.push_spec-returns-in-TypeName
push_spec-returns-in-TypeName t c = on_ok_weaker _ (λ last. given (ap printed_spec c.in-TypeName.is ∙ Printed.spec-TypeName _) last) c.push_name.ensures

pub push_spec-returns-in-Some : goal.push_spec-returns-in-Some
push_spec-returns-in-Some t c = on_ok_weaker _ (λ last. given (ap printed_spec c.in-Struct.is ∙ Printed.spec-Struct _ _) (then c.in_ok-push_word-in-Struct.ensures (then c.in_ok-push_name-in-Struct.ensures (at (λ o. body_kinds (option_map (map printed_member) o)) (sym c.in-Some.is) (at (λ ms. body_kinds (Some (map printed_member ms))) c.as_slice.ensures last))))) c.push_body.ensures

pub push_spec-returns-in-None : goal.push_spec-returns-in-None
push_spec-returns-in-None t c = given (ap printed_spec c.in-Struct.is ∙ Printed.spec-Struct _ _) (then c.in_ok-push_word-in-Struct.ensures (then c.in_ok-push_name-in-Struct.ensures (at (λ o. body_kinds (option_map (map printed_member) o)) (sym c.in-None.is) nothing)))

pub push_suffix-returns-after-bound : goal.push_suffix-returns-after-bound
push_suffix-returns-after-bound t c =
    let bound : Appends c.push_mark.new.out.items (bound_kinds (option_map printed_expr c.in-Array.bound)) c.match-bound.out.items = elim c.match-bound.branch [
      | push_suffix-in-Some+in_ok-push_expr-in-Array w ↦ into (ap (λ o. o.items) w.out-is) (at (λ o. bound_kinds (option_map printed_expr o)) (sym w.in-Some.is) w.in_ok-push_expr-in-Array.ensures)
      | push_suffix-in_default w ↦ into (ap (λ o. o.items) w.out-is) (at (λ o. bound_kinds (option_map printed_expr o)) (sym w.in_default.is) nothing)
    ] in
    on_ok_weaker _ (λ last. given (ap printed_suffix c.in-Array.is ∙ Printed.suffix-Array _) (then (then c.in_ok-push_mark-in-Array.ensures bound) last)) c.push_mark-in-Array.ensures

pub push_suffix-returns-in_ok-push_params-in-Function : goal.push_suffix-returns-in_ok-push_params-in-Function
push_suffix-returns-in_ok-push_params-in-Function t c = on_ok_weaker _ (λ last. given (ap printed_suffix c.in-Function.is ∙ Printed.suffix-Function _) (then c.in_ok-push_mark-in-Function.ensures (then c.in_ok-push_params-in-Function.ensures last))) c.push_mark-in-Function-2.ensures

pub push_suffixes-loop-suffix-init : goal.push_suffixes-loop-suffix-init
push_suffixes-loop-suffix-init t c = refl

pub push_suffixes-loop-suffix-preserved : goal.push_suffixes-loop-suffix-preserved
push_suffixes-loop-suffix-preserved t c = one_more _ _ c.loop-suffix.invariant (joined-more printed_suffix c.args.suffixes.now c.loop-suffix.suffix-index _ c.loop-suffix-test.true c.suffix-item.is) c.in_ok-push_suffix.ensures

pub push_suffixes-returns : goal.push_suffixes-returns
push_suffixes-returns t c = done c.loop-suffix.invariant (joined-end printed_suffix c.args.suffixes.now c.loop-suffix.suffix-index c.loop-suffix-test.false)

pub push_type_word-returns : goal.push_type_word-returns
push_type_word-returns t c = on_ok_weaker _ (λ last. given (Printed.type_word-of _) (then c.in_ok-push_spec.ensures last)) c.push_abstract.ensures
