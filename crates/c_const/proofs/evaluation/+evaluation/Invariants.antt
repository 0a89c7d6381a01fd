use Rattle.std.proofs.Common.{◌≡◌, ◌+◌, ◌*◌, drop, map, max}
use denote.Param.Weighed.{most}
use Rattle.c_tree.specs.declared.expression.AbstractDeclarator.{size-AbstractDeclarator}
use Rattle.c_tree.specs.declared.expression.Declarator.{size-Declarator}
use Rattle.c_tree.specs.declared.expression.Expr.{size-Expr}
use Rattle.c_tree.specs.declared.expression.Param.{size-Param}
use Rattle.c_tree.specs.declared.expression.Params.{size-Params}
use Rattle.c_tree.specs.declared.expression.Suffix.{size-Suffix}
use Rattle.c_tree.specs.declared.expression.TypeWord.{size-TypeWord}
use Rattle.c_const.specs.Constant.{each, other_form}
use Rattle.c_const.specs.inner.Evaluated.{evaluated}
use Rattle.c_const.proofs.Lists.{each_from}
use Rattle.c_const.proofs.evaluation.+evaluation.Given as goal

-- Each call is of a part, or of the same tree by a function with a lesser rest.

abbrev pub decreases-expression : goal.decreases-expression
decreases-expression l = 4 * size-Expr l.expr.now + 1

abbrev pub decreases-expression_node : goal.decreases-expression_node
decreases-expression_node l = 4 * size-Expr l.expr.now

abbrev pub decreases-cast : goal.decreases-cast
decreases-cast l = 4 * max (size-TypeWord l.word.now) (size-Expr l.a.now) + 2

abbrev pub decreases-unary : goal.decreases-unary
decreases-unary l = 4 * size-Expr l.a.now + 2

abbrev pub decreases-binary : goal.decreases-binary
decreases-binary l = 4 * max (size-Expr l.a.now) (size-Expr l.b.now) + 2

abbrev pub decreases-conditional : goal.decreases-conditional
decreases-conditional l = 4 * max (size-Expr l.c.now) (max (size-Expr l.a.now) (size-Expr l.b.now)) + 2

abbrev pub decreases-operand : goal.decreases-operand
decreases-operand l = 4 * size-Expr l.a.now + 2

abbrev pub decreases-two_operands : goal.decreases-two_operands
decreases-two_operands l = 4 * max (size-Expr l.a.now) (size-Expr l.b.now) + 3

abbrev pub decreases-operands : goal.decreases-operands
decreases-operands l = 4 * most size-Expr l.all.now + 2

abbrev pub decreases-type_word : goal.decreases-type_word
decreases-type_word l = 4 * size-TypeWord l.word.now

abbrev pub decreases-abstract_layers : goal.decreases-abstract_layers
decreases-abstract_layers l = 4 * size-AbstractDeclarator l.declarator.now

abbrev pub decreases-declarator_layers : goal.decreases-declarator_layers
decreases-declarator_layers l = 4 * size-Declarator l.declarator.now

abbrev pub decreases-suffix_layers : goal.decreases-suffix_layers
decreases-suffix_layers l = 4 * most size-Suffix l.suffixes.now + 2

abbrev pub decreases-suffix_layer : goal.decreases-suffix_layer
decreases-suffix_layer l = 4 * size-Suffix l.suffix.now + 1

abbrev pub decreases-bounded : goal.decreases-bounded
decreases-bounded l = 4 * size-Expr l.value.now + 2

abbrev pub decreases-parameters : goal.decreases-parameters
decreases-parameters l = 4 * size-Params l.params.now

abbrev pub decreases-parameter_list : goal.decreases-parameter_list
decreases-parameter_list l = 4 * most size-Param l.params.now + 2

abbrev pub decreases-parameter : goal.decreases-parameter
decreases-parameter l = 4 * size-Param l.param.now + 1

-- In each loop, what is found and what is left are the whole list.

abbrev pub invariant-operands-loop-a : goal.invariant-operands-loop-a
invariant-operands-loop-a l =
    other_form (map (evaluated l.structs l.names).expr (drop l.a-index l.all)) l.live ≡ other_form (map (evaluated l.structs l.names).expr l.all) l.live

abbrev pub invariant-suffix_layers-loop-suffix : goal.invariant-suffix_layers-loop-suffix
invariant-suffix_layers-loop-suffix l =
    each_from l.layers (map (evaluated l.structs l.names).suffix (drop l.suffix-index l.suffixes)) ≡ each (map (evaluated l.structs l.names).suffix l.suffixes)

abbrev pub invariant-parameter_list-loop-param : goal.invariant-parameter_list-loop-param
invariant-parameter_list-loop-param l =
    each_from l.found (map (evaluated l.structs l.names).param (drop l.param-index l.params)) ≡ each (map (evaluated l.structs l.names).param l.params)
