use Rattle.std.proofs.Common.{◌≡◌, ◌++◌, ◌∷◌, map, drop}
use Rattle.c_tokens.specs.declared.token.Kind.TheVariants.{Mark}
use Rattle.c_tokens.specs.declared.token.Mark.TheVariants as mark
use Rattle.c_tree.specs.Printed.{joined, with_commas, printed_expr, printed_member, printed_declarator, printed_suffix, printed_param}
use Rattle.c_tree.specs.Written.{written}
use Rattle.c_tree.proofs.WrittenLemmas.{commas_from}
use Rattle.c_tree.proofs.printer.expression.+expression.Given as goal

-- In each loop, what is written and what is left to write are the whole list.

abbrev pub invariant-push_arguments-loop-i : goal.invariant-push_arguments-loop-i
invariant-push_arguments-loop-i l =
    l.out.items ++ written (commas_from l.i (map printed_expr (drop l.i l.arguments))) ≡ l.fn.out.items ++ written (with_commas (map printed_expr l.arguments))

abbrev pub invariant-push_body-loop-member : goal.invariant-push_body-loop-member
invariant-push_body-loop-member l =
    l.out.items ++ written (joined (map printed_member (drop l.member-index l.members))) ≡ l.fn.out.items ++ written (Mark mark.LeftBrace ∷ joined (map printed_member l.members))

abbrev pub invariant-push_declarators-loop-i : goal.invariant-push_declarators-loop-i
invariant-push_declarators-loop-i l =
    l.out.items ++ written (commas_from l.i (map printed_declarator (drop l.i l.declarators))) ≡ l.fn.out.items ++ written (with_commas (map printed_declarator l.declarators))

abbrev pub invariant-push_param_list-loop-i : goal.invariant-push_param_list-loop-i
invariant-push_param_list-loop-i l =
    l.out.items ++ written (commas_from l.i (map printed_param (drop l.i l.params))) ≡ l.fn.out.items ++ written (with_commas (map printed_param l.params))

abbrev pub invariant-push_suffixes-loop-suffix : goal.invariant-push_suffixes-loop-suffix
invariant-push_suffixes-loop-suffix l =
    l.out.items ++ written (joined (map printed_suffix (drop l.suffix-index l.suffixes))) ≡ l.fn.out.items ++ written (joined (map printed_suffix l.suffixes))
