use Rattle.std.proofs.Common.{◌≡◌, ℕ, ◌+◌, ◌*◌, drop, map, max, Option, Some, None}
use denote.Param.Weighed.{most}
use Rattle.c_tree.specs.declared.expression.AbstractDeclarator.{AbstractDeclarator, size-AbstractDeclarator}
use Rattle.c_tree.specs.declared.expression.Declarator.{size-Declarator}
use Rattle.c_tree.specs.declared.expression.Direct.{size-Direct}
use Rattle.c_tree.specs.declared.expression.Expr.{size-Expr}
use Rattle.c_tree.specs.declared.expression.MemberDecl.{size-MemberDecl}
use Rattle.c_tree.specs.declared.expression.Param.{size-Param}
use Rattle.c_tree.specs.declared.expression.Params.{size-Params}
use Rattle.c_tree.specs.declared.expression.Spec.{size-Spec}
use Rattle.c_tree.specs.declared.expression.Suffix.{size-Suffix}
use Rattle.c_tree.specs.declared.expression.TypeWord.{size-TypeWord}
use Rattle.c_rules.specs.declared.place.Place.TheVariants.{Value}
use Rattle.c_scope.specs.Walk.{each_pair}
use Rattle.c_scope.specs.inner.Lists.{each_from, each_pair_from}
use Rattle.c_expr_typing.specs.Trees.{arguments, member_declarators, members, walked}
use Rattle.c_expr_typing.proofs.MemberLists.{declarators_from, members_from}
use Rattle.c_expr_typing.proofs.walk.+walk.Given as goal

-- Each call is of a part, or of the same tree by a function with a lesser rest.

abbrev pub decreases-expression : goal.decreases-expression
decreases-expression l = 6 * size-Expr l.expr.now + 2

abbrev pub decreases-expression_node : goal.decreases-expression_node
decreases-expression_node l = 6 * size-Expr l.expr.now

abbrev pub decreases-operands : goal.decreases-operands
decreases-operands l = 6 * max (size-Expr l.a.now) (size-Expr l.b.now) + 3

abbrev pub decreases-arms : goal.decreases-arms
decreases-arms l = 6 * max (size-Expr l.c.now) (max (size-Expr l.a.now) (size-Expr l.b.now)) + 4

abbrev pub decreases-cast_parts : goal.decreases-cast_parts
decreases-cast_parts l = 6 * max (size-TypeWord l.word.now) (size-Expr l.a.now) + 3

abbrev pub decreases-called : goal.decreases-called
decreases-called l = 6 * max (size-Expr l.callee.now) (most size-Expr l.given.now) + 4

abbrev pub decreases-arguments : goal.decreases-arguments
decreases-arguments l = 6 * most size-Expr l.all.now + 3

abbrev pub decreases-type_word : goal.decreases-type_word
decreases-type_word l = 6 * size-TypeWord l.word.now

abbrev pub decreases-boxed_word : goal.decreases-boxed_word
decreases-boxed_word l = 6 * size-TypeWord l.word.now + 1

abbrev pub decreases-abstract_declarator : goal.decreases-abstract_declarator
decreases-abstract_declarator l = 6 * size-AbstractDeclarator l.declarator.now

abbrev inside_size : Option AbstractDeclarator → ℕ
inside_size None = 0
inside_size (Some a) = size-AbstractDeclarator a

abbrev pub decreases-bracketed : goal.decreases-bracketed
decreases-bracketed l = 6 * inside_size l.inside.now + 1

abbrev pub decreases-declarator : goal.decreases-declarator
decreases-declarator l = 6 * size-Declarator l.declarator.now

abbrev pub decreases-direct : goal.decreases-direct
decreases-direct l = 6 * size-Direct l.inside.now

abbrev pub decreases-suffixes : goal.decreases-suffixes
decreases-suffixes l = 6 * most size-Suffix l.all.now + 2

abbrev pub decreases-suffix : goal.decreases-suffix
decreases-suffix l = 6 * size-Suffix l.suffix.now + 1

abbrev pub decreases-bounded : goal.decreases-bounded
decreases-bounded l = 6 * size-Expr l.value.now + 3

abbrev pub decreases-parameters : goal.decreases-parameters
decreases-parameters l = 6 * size-Params l.params.now

abbrev pub decreases-scoped_parameters : goal.decreases-scoped_parameters
decreases-scoped_parameters l = 6 * most size-Param l.all.now + 3

abbrev pub decreases-parameter_list : goal.decreases-parameter_list
decreases-parameter_list l = 6 * most size-Param l.all.now + 2

abbrev pub decreases-param : goal.decreases-param
decreases-param l = 6 * size-Param l.param.now + 1

abbrev pub decreases-spec : goal.decreases-spec
decreases-spec l = 6 * size-Spec l.spec.now + 1

abbrev pub decreases-spec_node : goal.decreases-spec_node
decreases-spec_node l = 6 * size-Spec l.spec.now

abbrev pub decreases-struct_body : goal.decreases-struct_body
decreases-struct_body l = 6 * most size-MemberDecl l.all.now + 3

abbrev pub decreases-members : goal.decreases-members
decreases-members l = 6 * most size-MemberDecl l.all.now + 2

abbrev pub decreases-member_decl : goal.decreases-member_decl
decreases-member_decl l = 6 * size-MemberDecl l.line.now + 1

abbrev pub decreases-member_declarators : goal.decreases-member_declarators
decreases-member_declarators l = 6 * most size-Declarator l.all.now + 2

-- In each loop, what is found and what is left are the whole list.

abbrev pub invariant-arguments-loop-argument : goal.invariant-arguments-loop-argument
invariant-arguments-loop-argument l =
    each_from l.found (map (λ e. e Value) (map walked.expr (drop l.argument-index l.all))) l.world ≡ arguments (map walked.expr l.all) l.initial.world

abbrev pub invariant-suffixes-loop-one : goal.invariant-suffixes-loop-one
invariant-suffixes-loop-one l =
    each_pair_from l.found l.layers (map walked.suffix (drop l.one-index l.all)) l.world ≡ each_pair (map walked.suffix l.all) l.initial.world

abbrev pub invariant-parameter_list-loop-one : goal.invariant-parameter_list-loop-one
invariant-parameter_list-loop-one l =
    each_pair_from l.found l.params (map walked.param (drop l.one-index l.all)) l.world ≡ each_pair (map walked.param l.all) l.initial.world

abbrev pub invariant-members-loop-line : goal.invariant-members-loop-line
invariant-members-loop-line l =
    members_from l.found (map walked.member (drop l.line-index l.all)) l.members l.world ≡ members (map walked.member l.all) l.initial.members l.initial.world

abbrev pub invariant-member_declarators-loop-one : goal.invariant-member_declarators-loop-one
invariant-member_declarators-loop-one l =
    declarators_from l.base l.found (map walked.declarator (drop l.one-index l.all)) l.members l.world
    ≡ member_declarators l.base (map walked.declarator l.all) l.initial.members l.initial.world
