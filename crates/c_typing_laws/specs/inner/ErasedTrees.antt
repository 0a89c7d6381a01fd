-- Trees without their types.
use Rattle.c_tree.specs.declared.expression.AbstractDeclarator.{AbstractDeclarator}
use Rattle.c_tree.specs.declared.expression.Declarator.{Declarator}
use Rattle.c_tree.specs.declared.expression.Direct.{Direct}
use Rattle.c_tree.specs.declared.expression.Expr.{Expr}
use Rattle.c_tree.specs.declared.expression.MemberDecl.{MemberDecl}
use Rattle.c_tree.specs.declared.expression.Param.{Param}
use Rattle.c_tree.specs.declared.expression.Params.{Params}
use Rattle.c_tree.specs.declared.expression.Suffix.{Suffix}
use Rattle.c_tree.specs.declared.expression.TypeWord.{TypeWord}
use Rattle.c_typed.specs.declared.expression.TypedDirect.{TypedDirect, fold-TypedDirect}
use Rattle.c_typed.specs.declared.expression.TypedForm.{TypedForm, fold-TypedForm}
use Rattle.c_typed.specs.declared.expression.TypedParam.{TypedParam, fold-TypedParam}
use Rattle.c_typed.specs.declared.expression.TypedParams.{TypedParams, fold-TypedParams}
use Rattle.c_typed.specs.declared.expression.TypedSpec.{TypedSpec}
use Rattle.c_typed.specs.declared.expression.TypedSuffix.{TypedSuffix, fold-TypedSuffix}
use Rattle.c_typed.specs.declared.expression.Declared.{Declared}
use Rattle.c_typed.specs.declared.expression.TypedAbstractDeclarator.{TypedAbstractDeclarator, fold-TypedAbstractDeclarator}
use Rattle.c_typed.specs.declared.expression.TypedDeclarator.{TypedDeclarator, fold-TypedDeclarator}
use Rattle.c_typed.specs.declared.expression.TypedExpr.{TypedExpr}
use Rattle.c_typed.specs.declared.expression.TypedMemberDecl.{TypedMemberDecl, fold-TypedMemberDecl}
use Rattle.c_typed.specs.declared.expression.TypedTypeWord.{TypedTypeWord, fold-TypedTypeWord}
use Rattle.c_typed.specs.Erased.{erased_abstract, erased_declarator, erased_declared_node, erased_direct, erased_expr_node, erased_form, erased_member, erased_param, erased_params, erased_spec_node, erased_suffix, erased_type_word}

unfoldable pub direct_tree : TypedDirect → Direct
direct_tree = fold-TypedDirect _ _ _ _ _ _ _ _ _ _ _ _
    erased_direct erased_form erased_param erased_params erased_spec_node erased_suffix
    erased_declared_node erased_abstract erased_declarator erased_expr_node erased_member erased_type_word

unfoldable pub form_tree : TypedForm → Expr
form_tree = fold-TypedForm _ _ _ _ _ _ _ _ _ _ _ _
    erased_direct erased_form erased_param erased_params erased_spec_node erased_suffix
    erased_declared_node erased_abstract erased_declarator erased_expr_node erased_member erased_type_word

unfoldable pub param_tree : TypedParam → Param
param_tree = fold-TypedParam _ _ _ _ _ _ _ _ _ _ _ _
    erased_direct erased_form erased_param erased_params erased_spec_node erased_suffix
    erased_declared_node erased_abstract erased_declarator erased_expr_node erased_member erased_type_word

unfoldable pub params_tree : TypedParams → Params
params_tree = fold-TypedParams _ _ _ _ _ _ _ _ _ _ _ _
    erased_direct erased_form erased_param erased_params erased_spec_node erased_suffix
    erased_declared_node erased_abstract erased_declarator erased_expr_node erased_member erased_type_word

unfoldable pub suffix_tree : TypedSuffix → Suffix
suffix_tree = fold-TypedSuffix _ _ _ _ _ _ _ _ _ _ _ _
    erased_direct erased_form erased_param erased_params erased_spec_node erased_suffix
    erased_declared_node erased_abstract erased_declarator erased_expr_node erased_member erased_type_word

unfoldable pub abstract_tree : TypedAbstractDeclarator → AbstractDeclarator
abstract_tree = fold-TypedAbstractDeclarator _ _ _ _ _ _ _ _ _ _ _ _
    erased_direct erased_form erased_param erased_params erased_spec_node erased_suffix
    erased_declared_node erased_abstract erased_declarator erased_expr_node erased_member erased_type_word

unfoldable pub declarator_tree : TypedDeclarator → Declarator
declarator_tree = fold-TypedDeclarator _ _ _ _ _ _ _ _ _ _ _ _
    erased_direct erased_form erased_param erased_params erased_spec_node erased_suffix
    erased_declared_node erased_abstract erased_declarator erased_expr_node erased_member erased_type_word

unfoldable pub member_tree : TypedMemberDecl → MemberDecl
member_tree = fold-TypedMemberDecl _ _ _ _ _ _ _ _ _ _ _ _
    erased_direct erased_form erased_param erased_params erased_spec_node erased_suffix
    erased_declared_node erased_abstract erased_declarator erased_expr_node erased_member erased_type_word

unfoldable pub type_word_tree : TypedTypeWord → TypeWord
type_word_tree = fold-TypedTypeWord _ _ _ _ _ _ _ _ _ _ _ _
    erased_direct erased_form erased_param erased_params erased_spec_node erased_suffix
    erased_declared_node erased_abstract erased_declarator erased_expr_node erased_member erased_type_word

-- a layer, with trees in place of its parts
abbrev pub Layer : ((A B C D E F G H I J K L : Type 0) → Type 0) → Type 0
Layer F = F TypedDirect TypedForm TypedParam TypedParams TypedSpec TypedSuffix Declared TypedAbstractDeclarator TypedDeclarator TypedExpr TypedMemberDecl TypedTypeWord
