-- The walk of each tree finds what meets its rows: an induction over the ten types of trees.
use Rattle.std.proofs.Common.{◌≡◌, ℕ, List, Some, slice_get, subst}
use Rattle.c_types.specs.declared.ty.Ty.{Ty}
use Rattle.c_types.specs.Theorems.{TablesGrow, UnitsStay}
use Rattle.c_tree.specs.declared.expression.Direct.{roll-Direct}
use Rattle.c_tree.specs.declared.expression.Expr.{Expr, roll-Expr, ind-Expr}
use Rattle.c_tree.specs.declared.expression.Param.{roll-Param}
use Rattle.c_tree.specs.declared.expression.Params.{roll-Params}
use Rattle.c_tree.specs.declared.expression.Spec.{Spec, roll-Spec, ind-Spec}
use Rattle.c_tree.specs.declared.expression.Suffix.{roll-Suffix}
use Rattle.c_tree.specs.declared.expression.AbstractDeclarator.{roll-AbstractDeclarator}
use Rattle.c_tree.specs.declared.expression.Declarator.{Declarator, roll-Declarator, ind-Declarator}
use Rattle.c_tree.specs.declared.expression.MemberDecl.{roll-MemberDecl}
use Rattle.c_tree.specs.declared.expression.TypeWord.{roll-TypeWord}
use Rattle.c_tree.specs.declared.expression.Direct.TheOpen.{Direct-F, Expr-F, Param-F, Params-F, Spec-F, Suffix-F, AbstractDeclarator-F, Declarator-F, MemberDecl-F, TypeWord-F}
use Rattle.c_tree.specs.Fold.{Node, Plain}
use Rattle.c_typed_rows.specs.Contexts.{Context, global_type}
use Rattle.c_typing_laws.proofs.MetNodes as met
use Rattle.c_typing_laws.proofs.MetNodes.{Met}
use Rattle.c_typing_laws.proofs.ExpressionsMeetRows.{expr-met}
use Rattle.c_typing_laws.proofs.PartsMeetRows.{abstract-met, declarator-met, direct-met, member-met, param-met, params-met, spec-met, suffix-met, type_word-met}

module _ (stay : UnitsStay) (grow : TablesGrow) (k : Context) (gs : List Ty) (ahead : (n : ℕ) (t : Ty) → slice_get gs n ≡ Some t → global_type k n ≡ Some t) where
  direct-step : (x : Node Plain Direct-F) (y : Met stay grow k gs ahead Direct-F) → met.plain_direct stay grow k gs ahead y ≡ x → met.MeetsDirect stay grow k gs ahead (roll-Direct x)
  direct-step x y is = subst (λ z. met.MeetsDirect stay grow k gs ahead (roll-Direct z)) is (direct-met stay grow k gs ahead y)

  expr-step : (x : Node Plain Expr-F) (y : Met stay grow k gs ahead Expr-F) → met.plain_expr stay grow k gs ahead y ≡ x → met.MeetsExpr stay grow k gs ahead (roll-Expr x)
  expr-step x y is = subst (λ z. met.MeetsExpr stay grow k gs ahead (roll-Expr z)) is (expr-met stay grow k gs ahead y)

  param-step : (x : Node Plain Param-F) (y : Met stay grow k gs ahead Param-F) → met.plain_param stay grow k gs ahead y ≡ x → met.MeetsParam stay grow k gs ahead (roll-Param x)
  param-step x y is = subst (λ z. met.MeetsParam stay grow k gs ahead (roll-Param z)) is (param-met stay grow k gs ahead y)

  params-step : (x : Node Plain Params-F) (y : Met stay grow k gs ahead Params-F) → met.plain_params stay grow k gs ahead y ≡ x → met.MeetsParams stay grow k gs ahead (roll-Params x)
  params-step x y is = subst (λ z. met.MeetsParams stay grow k gs ahead (roll-Params z)) is (params-met stay grow k gs ahead y)

  spec-step : (x : Node Plain Spec-F) (y : Met stay grow k gs ahead Spec-F) → met.plain_spec stay grow k gs ahead y ≡ x → met.MeetsSpec stay grow k gs ahead (roll-Spec x)
  spec-step x y is = subst (λ z. met.MeetsSpec stay grow k gs ahead (roll-Spec z)) is (spec-met stay grow k gs ahead y)

  suffix-step : (x : Node Plain Suffix-F) (y : Met stay grow k gs ahead Suffix-F) → met.plain_suffix stay grow k gs ahead y ≡ x → met.MeetsSuffix stay grow k gs ahead (roll-Suffix x)
  suffix-step x y is = subst (λ z. met.MeetsSuffix stay grow k gs ahead (roll-Suffix z)) is (suffix-met stay grow k gs ahead y)

  abstract-step : (x : Node Plain AbstractDeclarator-F) (y : Met stay grow k gs ahead AbstractDeclarator-F) → met.plain_abstract stay grow k gs ahead y ≡ x → met.MeetsAbstractDeclarator stay grow k gs ahead (roll-AbstractDeclarator x)
  abstract-step x y is = subst (λ z. met.MeetsAbstractDeclarator stay grow k gs ahead (roll-AbstractDeclarator z)) is (abstract-met stay grow k gs ahead y)

  declarator-step : (x : Node Plain Declarator-F) (y : Met stay grow k gs ahead Declarator-F) → met.plain_declarator stay grow k gs ahead y ≡ x → met.MeetsDeclarator stay grow k gs ahead (roll-Declarator x)
  declarator-step x y is = subst (λ z. met.MeetsDeclarator stay grow k gs ahead (roll-Declarator z)) is (declarator-met stay grow k gs ahead y)

  member-step : (x : Node Plain MemberDecl-F) (y : Met stay grow k gs ahead MemberDecl-F) → met.plain_member stay grow k gs ahead y ≡ x → met.MeetsMemberDecl stay grow k gs ahead (roll-MemberDecl x)
  member-step x y is = subst (λ z. met.MeetsMemberDecl stay grow k gs ahead (roll-MemberDecl z)) is (member-met stay grow k gs ahead y)

  type_word-step : (x : Node Plain TypeWord-F) (y : Met stay grow k gs ahead TypeWord-F) → met.plain_type_word stay grow k gs ahead y ≡ x → met.MeetsTypeWord stay grow k gs ahead (roll-TypeWord x)
  type_word-step x y is = subst (λ z. met.MeetsTypeWord stay grow k gs ahead (roll-TypeWord z)) is (type_word-met stay grow k gs ahead y)

  pub expr-meets : (t : Expr) → met.MeetsExpr stay grow k gs ahead t
  expr-meets = ind-Expr
      (met.MeetsDirect stay grow k gs ahead) (met.MeetsExpr stay grow k gs ahead) (met.MeetsParam stay grow k gs ahead) (met.MeetsParams stay grow k gs ahead) (met.MeetsSpec stay grow k gs ahead) (met.MeetsSuffix stay grow k gs ahead) (met.MeetsAbstractDeclarator stay grow k gs ahead) (met.MeetsDeclarator stay grow k gs ahead) (met.MeetsMemberDecl stay grow k gs ahead) (met.MeetsTypeWord stay grow k gs ahead)
      direct-step expr-step param-step params-step spec-step suffix-step abstract-step declarator-step member-step type_word-step

  pub spec-meets : (t : Spec) → met.MeetsSpec stay grow k gs ahead t
  spec-meets = ind-Spec
      (met.MeetsDirect stay grow k gs ahead) (met.MeetsExpr stay grow k gs ahead) (met.MeetsParam stay grow k gs ahead) (met.MeetsParams stay grow k gs ahead) (met.MeetsSpec stay grow k gs ahead) (met.MeetsSuffix stay grow k gs ahead) (met.MeetsAbstractDeclarator stay grow k gs ahead) (met.MeetsDeclarator stay grow k gs ahead) (met.MeetsMemberDecl stay grow k gs ahead) (met.MeetsTypeWord stay grow k gs ahead)
      direct-step expr-step param-step params-step spec-step suffix-step abstract-step declarator-step member-step type_word-step

  pub declarator-meets : (t : Declarator) → met.MeetsDeclarator stay grow k gs ahead t
  declarator-meets = ind-Declarator
      (met.MeetsDirect stay grow k gs ahead) (met.MeetsExpr stay grow k gs ahead) (met.MeetsParam stay grow k gs ahead) (met.MeetsParams stay grow k gs ahead) (met.MeetsSpec stay grow k gs ahead) (met.MeetsSuffix stay grow k gs ahead) (met.MeetsAbstractDeclarator stay grow k gs ahead) (met.MeetsDeclarator stay grow k gs ahead) (met.MeetsMemberDecl stay grow k gs ahead) (met.MeetsTypeWord stay grow k gs ahead)
      direct-step expr-step param-step params-step spec-step suffix-step abstract-step declarator-step member-step type_word-step
