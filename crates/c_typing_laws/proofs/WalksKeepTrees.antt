-- The walk of each tree keeps it: an induction over the ten types of trees.
use Rattle.std.proofs.Common.{◌≡◌, subst}
use Rattle.c_tree.specs.declared.expression.Direct.{roll-Direct}
use Rattle.c_tree.specs.declared.expression.Expr.{Expr, roll-Expr, ind-Expr}
use Rattle.c_tree.specs.declared.expression.Param.{roll-Param}
use Rattle.c_tree.specs.declared.expression.Params.{roll-Params}
use Rattle.c_tree.specs.declared.expression.Spec.{Spec, roll-Spec, ind-Spec}
use Rattle.c_tree.specs.declared.expression.Suffix.{roll-Suffix}
use Rattle.c_tree.specs.declared.expression.AbstractDeclarator.{roll-AbstractDeclarator}
use Rattle.c_tree.specs.declared.expression.Declarator.{Declarator, roll-Declarator, ind-Declarator}
use Rattle.c_tree.specs.declared.expression.MemberDecl.{roll-MemberDecl}
use Rattle.c_tree.specs.declared.expression.TypeWord.{roll-TypeWord}
use Rattle.c_tree.specs.declared.expression.Direct.TheOpen.{Direct-F, Expr-F, Param-F, Params-F, Spec-F, Suffix-F, AbstractDeclarator-F, Declarator-F, MemberDecl-F, TypeWord-F}
use Rattle.c_tree.specs.Fold.{Node, Plain}
use Rattle.c_typing_laws.specs.inner.WalkedTrees.{WalksKeepTrees}
use Rattle.c_typing_laws.proofs.KeptNodes.{Kept, KeepsAbstractDeclarator, KeepsDeclarator, KeepsDirect, KeepsExpr, KeepsMemberDecl, KeepsParam, KeepsParams, KeepsSpec, KeepsSuffix, KeepsTypeWord, bare_abstract, bare_declarator, bare_direct, bare_expr, bare_member, bare_param, bare_params, bare_spec, bare_suffix, bare_type_word}
use Rattle.c_typing_laws.proofs.ExpressionsKeepTrees.{expr-kept}
use Rattle.c_typing_laws.proofs.PartsKeepTrees.{abstract-kept, declarator-kept, direct-kept, member-kept, param-kept, params-kept, spec-kept, suffix-kept, type_word-kept}

direct-step : (x : Node Plain Direct-F) (y : Kept Direct-F) → bare_direct y ≡ x → KeepsDirect (roll-Direct x)
direct-step x y is = subst (λ z. KeepsDirect (roll-Direct z)) is (direct-kept y)

expr-step : (x : Node Plain Expr-F) (y : Kept Expr-F) → bare_expr y ≡ x → KeepsExpr (roll-Expr x)
expr-step x y is = subst (λ z. KeepsExpr (roll-Expr z)) is (expr-kept y)

param-step : (x : Node Plain Param-F) (y : Kept Param-F) → bare_param y ≡ x → KeepsParam (roll-Param x)
param-step x y is = subst (λ z. KeepsParam (roll-Param z)) is (param-kept y)

params-step : (x : Node Plain Params-F) (y : Kept Params-F) → bare_params y ≡ x → KeepsParams (roll-Params x)
params-step x y is = subst (λ z. KeepsParams (roll-Params z)) is (params-kept y)

spec-step : (x : Node Plain Spec-F) (y : Kept Spec-F) → bare_spec y ≡ x → KeepsSpec (roll-Spec x)
spec-step x y is = subst (λ z. KeepsSpec (roll-Spec z)) is (spec-kept y)

suffix-step : (x : Node Plain Suffix-F) (y : Kept Suffix-F) → bare_suffix y ≡ x → KeepsSuffix (roll-Suffix x)
suffix-step x y is = subst (λ z. KeepsSuffix (roll-Suffix z)) is (suffix-kept y)

abstract-step : (x : Node Plain AbstractDeclarator-F) (y : Kept AbstractDeclarator-F) → bare_abstract y ≡ x → KeepsAbstractDeclarator (roll-AbstractDeclarator x)
abstract-step x y is = subst (λ z. KeepsAbstractDeclarator (roll-AbstractDeclarator z)) is (abstract-kept y)

declarator-step : (x : Node Plain Declarator-F) (y : Kept Declarator-F) → bare_declarator y ≡ x → KeepsDeclarator (roll-Declarator x)
declarator-step x y is = subst (λ z. KeepsDeclarator (roll-Declarator z)) is (declarator-kept y)

member-step : (x : Node Plain MemberDecl-F) (y : Kept MemberDecl-F) → bare_member y ≡ x → KeepsMemberDecl (roll-MemberDecl x)
member-step x y is = subst (λ z. KeepsMemberDecl (roll-MemberDecl z)) is (member-kept y)

type_word-step : (x : Node Plain TypeWord-F) (y : Kept TypeWord-F) → bare_type_word y ≡ x → KeepsTypeWord (roll-TypeWord x)
type_word-step x y is = subst (λ z. KeepsTypeWord (roll-TypeWord z)) is (type_word-kept y)

expr-keeps : (t : Expr) → KeepsExpr t
expr-keeps = ind-Expr
    KeepsDirect KeepsExpr KeepsParam KeepsParams KeepsSpec KeepsSuffix KeepsAbstractDeclarator KeepsDeclarator KeepsMemberDecl KeepsTypeWord
    direct-step expr-step param-step params-step spec-step suffix-step abstract-step declarator-step member-step type_word-step

spec-keeps : (t : Spec) → KeepsSpec t
spec-keeps = ind-Spec
    KeepsDirect KeepsExpr KeepsParam KeepsParams KeepsSpec KeepsSuffix KeepsAbstractDeclarator KeepsDeclarator KeepsMemberDecl KeepsTypeWord
    direct-step expr-step param-step params-step spec-step suffix-step abstract-step declarator-step member-step type_word-step

declarator-keeps : (t : Declarator) → KeepsDeclarator t
declarator-keeps = ind-Declarator
    KeepsDirect KeepsExpr KeepsParam KeepsParams KeepsSpec KeepsSuffix KeepsAbstractDeclarator KeepsDeclarator KeepsMemberDecl KeepsTypeWord
    direct-step expr-step param-step params-step spec-step suffix-step abstract-step declarator-step member-step type_word-step

pub walks-keep : WalksKeepTrees
walks-keep = record {
  expression = λ e place w new x is. (expr-keeps e place w).found (x, new) is;
  spec = λ s bodies w new x t is. (spec-keeps s bodies w).found ((x, t), new) is;
  declarator = λ d w new x is. (declarator-keeps d w).found (x, new) is;
}
