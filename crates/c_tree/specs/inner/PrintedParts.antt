-- What is printed of the parts of an expression, and in front of a part of a list.
use Rattle.std.specs.Prelude.{ℕ, zero, suc, [], ◌∷◌}
use Rattle.c_tokens.specs.declared.token.Kind.TheVariants.{Mark}
use Rattle.c_tokens.specs.declared.token.Mark.TheVariants as mark
use Rattle.c_tree.specs.declared.expression.Direct.TheOpen.{Expr-F}
use Rattle.c_tree.specs.declared.expression.Expr.{Expr}
use Rattle.c_tree.specs.Fold.{Node, Pass, expr_node}
use Rattle.c_tree.specs.Marks.{Kinds}
use Rattle.c_tree.specs.Printed.{Printed, printed_direct, printed_expr, printed_param, printed_params, printed_spec}
use Rattle.c_tree.specs.Printed.{printed_suffix, printed_abstract, printed_declarator, printed_member}
use Rattle.c_tree.specs.Printed.{printed_type_word}

-- what stands in front of the part at this place
abbrev pub separator : ℕ → Kinds
separator zero = []
separator (suc n) = Mark mark.Comma ∷ []

abbrev pub printed : Pass Printed
printed = record {
  direct = printed_direct;
  expr = printed_expr;
  param = printed_param;
  params = printed_params;
  spec = printed_spec;
  suffix = printed_suffix;
  abstract = printed_abstract;
  declarator = printed_declarator;
  member = printed_member;
  type_word = printed_type_word;
}

-- an expression's node, with what is printed of its parts
unfoldable pub expr_parts : Expr → Node Printed Expr-F
expr_parts = expr_node printed
