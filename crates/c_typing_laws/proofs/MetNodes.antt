-- Of each type of trees: that what its walk finds meets its rows.
use Rattle.std.proofs.Common.{◌≡◌, ℕ, true, false, List, Some, slice_get}
use Rattle.c_types.specs.declared.structs.Member.{Member}
use Rattle.c_types.specs.declared.ty.Ty.{Ty}
use Rattle.c_types.specs.Theorems.{TablesGrow, UnitsStay}
use Rattle.c_tree.specs.declared.expression.Direct.{Direct, map-Direct}
use Rattle.c_tree.specs.declared.expression.Expr.{Expr, map-Expr}
use Rattle.c_tree.specs.declared.expression.Param.{Param, map-Param}
use Rattle.c_tree.specs.declared.expression.Params.{Params, map-Params}
use Rattle.c_tree.specs.declared.expression.Spec.{Spec, map-Spec}
use Rattle.c_tree.specs.declared.expression.Suffix.{Suffix, map-Suffix}
use Rattle.c_tree.specs.declared.expression.AbstractDeclarator.{AbstractDeclarator, map-AbstractDeclarator}
use Rattle.c_tree.specs.declared.expression.Declarator.{Declarator, map-Declarator}
use Rattle.c_tree.specs.declared.expression.MemberDecl.{MemberDecl, map-MemberDecl}
use Rattle.c_tree.specs.declared.expression.TypeWord.{TypeWord, map-TypeWord}
use Rattle.c_tree.specs.declared.expression.Direct.TheOpen.{Direct-F, Expr-F, Param-F, Params-F, Spec-F, Suffix-F, AbstractDeclarator-F, Declarator-F, MemberDecl-F, TypeWord-F}
use Rattle.c_tree.specs.Fold.{Node, Plain}
use Rattle.c_scope.specs.declared.scopes.Binding.{Binding}
use Rattle.c_scope.specs.declared.world.World.{World}
use Rattle.c_rules.specs.declared.place.Place.{Place}
use Rattle.c_expr_typing.specs.Trees.{walked}
use Rattle.c_typed_rows.specs.Contexts.{Context, global_type}
use Rattle.c_typed_rows.specs.Expressions.{IsTypedSpec}
use Rattle.c_typing_laws.specs.inner.Goes.{Goes}
use Rattle.c_typing_laws.specs.inner.TypedTrees.{IsTypedAbstract, IsTypedDeclarator, IsTypedDirect, IsTypedMember, IsTypedParam, IsTypedParams, IsTypedSuffix, IsTypedTypeWord}
use Rattle.c_typing_laws.proofs.RulesMeetRows.{FoundAt, Here}
use Rattle.c_typing_laws.proofs.WorldSteps.{defining, inner, quiet}

module _ (stay : UnitsStay) (grow : TablesGrow) (k : Context) (gs : List Ty) (ahead : (n : ℕ) (t : Ty) → slice_get gs n ≡ Some t → global_type k n ≡ Some t) where
  abbrev pub MeetsDirect : Direct → Type 0
  MeetsDirect t = (w : World) → Goes k gs quiet w (walked.direct t w) (λ x. IsTypedDirect k x.0)

  abbrev pub MeetsExpr : Expr → Type 0
  MeetsExpr t = (ss : List (List Binding)) (ls : List Ty) (place : Place) (w : World) → Here stay grow k gs ahead ss ls w → Goes k gs quiet w (walked.expr t place w) (FoundAt stay grow k gs ahead ss ls place)

  abbrev pub MeetsParam : Param → Type 0
  MeetsParam t = (w : World) → Goes k gs inner w (walked.param t w) (λ x. IsTypedParam k x.0)

  abbrev pub MeetsParams : Params → Type 0
  MeetsParams t = (w : World) → Goes k gs quiet w (walked.params t w) (λ x. IsTypedParams k x.0)

  abbrev pub MeetsSpec : Spec → Type 0
  MeetsSpec t =
      ((w : World) → Goes k gs quiet w (walked.spec t false w) (λ x. IsTypedSpec k x.0))
      × ((w : World) → Goes k gs defining w (walked.spec t true w) (λ x. IsTypedSpec k x.0))

  abbrev pub MeetsSuffix : Suffix → Type 0
  MeetsSuffix t = (w : World) → Goes k gs quiet w (walked.suffix t w) (λ x. IsTypedSuffix k x.0)

  abbrev pub MeetsAbstractDeclarator : AbstractDeclarator → Type 0
  MeetsAbstractDeclarator t = (w : World) → Goes k gs quiet w (walked.abstract t w) (λ x. IsTypedAbstract k x.0)

  abbrev pub MeetsDeclarator : Declarator → Type 0
  MeetsDeclarator t = (w : World) → Goes k gs quiet w (walked.declarator t w) (λ x. IsTypedDeclarator k x.tree)

  abbrev pub MeetsMemberDecl : MemberDecl → Type 0
  MeetsMemberDecl t = (before : List Member) (w : World) → Goes k gs quiet w (walked.member t before w) (λ x. IsTypedMember k x.0)

  abbrev pub MeetsTypeWord : TypeWord → Type 0
  MeetsTypeWord t = (w : World) → Goes k gs quiet w (walked.type_word t w) (λ x. IsTypedTypeWord k x)

  abbrev pub MetDirect : Type 0
  MetDirect = (t : Direct) × MeetsDirect t

  abbrev pub MetExpr : Type 0
  MetExpr = (t : Expr) × MeetsExpr t

  abbrev pub MetParam : Type 0
  MetParam = (t : Param) × MeetsParam t

  abbrev pub MetParams : Type 0
  MetParams = (t : Params) × MeetsParams t

  abbrev pub MetSpec : Type 0
  MetSpec = (t : Spec) × MeetsSpec t

  abbrev pub MetSuffix : Type 0
  MetSuffix = (t : Suffix) × MeetsSuffix t

  abbrev pub MetAbstractDeclarator : Type 0
  MetAbstractDeclarator = (t : AbstractDeclarator) × MeetsAbstractDeclarator t

  abbrev pub MetDeclarator : Type 0
  MetDeclarator = (t : Declarator) × MeetsDeclarator t

  abbrev pub MetMemberDecl : Type 0
  MetMemberDecl = (t : MemberDecl) × MeetsMemberDecl t

  abbrev pub MetTypeWord : Type 0
  MetTypeWord = (t : TypeWord) × MeetsTypeWord t

  -- a node whose parts meet theirs
  abbrev pub Met : ((A B C D E F G H I J : Type 0) → Type 0) → Type 0
  Met F = F MetDirect MetExpr MetParam MetParams MetSpec MetSuffix MetAbstractDeclarator MetDeclarator MetMemberDecl MetTypeWord

  abbrev pub plain_direct : Met Direct-F → Node Plain Direct-F
  plain_direct = map-Direct MetDirect MetExpr MetParam MetParams MetSpec MetSuffix MetAbstractDeclarator MetDeclarator MetMemberDecl MetTypeWord
      Direct Expr Param Params Spec Suffix AbstractDeclarator Declarator MemberDecl TypeWord
      (λ e. e.0) (λ e. e.0) (λ e. e.0) (λ e. e.0) (λ e. e.0) (λ e. e.0) (λ e. e.0) (λ e. e.0) (λ e. e.0) (λ e. e.0)

  abbrev pub plain_expr : Met Expr-F → Node Plain Expr-F
  plain_expr = map-Expr MetDirect MetExpr MetParam MetParams MetSpec MetSuffix MetAbstractDeclarator MetDeclarator MetMemberDecl MetTypeWord
      Direct Expr Param Params Spec Suffix AbstractDeclarator Declarator MemberDecl TypeWord
      (λ e. e.0) (λ e. e.0) (λ e. e.0) (λ e. e.0) (λ e. e.0) (λ e. e.0) (λ e. e.0) (λ e. e.0) (λ e. e.0) (λ e. e.0)

  abbrev pub plain_param : Met Param-F → Node Plain Param-F
  plain_param = map-Param MetDirect MetExpr MetParam MetParams MetSpec MetSuffix MetAbstractDeclarator MetDeclarator MetMemberDecl MetTypeWord
      Direct Expr Param Params Spec Suffix AbstractDeclarator Declarator MemberDecl TypeWord
      (λ e. e.0) (λ e. e.0) (λ e. e.0) (λ e. e.0) (λ e. e.0) (λ e. e.0) (λ e. e.0) (λ e. e.0) (λ e. e.0) (λ e. e.0)

  abbrev pub plain_params : Met Params-F → Node Plain Params-F
  plain_params = map-Params MetDirect MetExpr MetParam MetParams MetSpec MetSuffix MetAbstractDeclarator MetDeclarator MetMemberDecl MetTypeWord
      Direct Expr Param Params Spec Suffix AbstractDeclarator Declarator MemberDecl TypeWord
      (λ e. e.0) (λ e. e.0) (λ e. e.0) (λ e. e.0) (λ e. e.0) (λ e. e.0) (λ e. e.0) (λ e. e.0) (λ e. e.0) (λ e. e.0)

  abbrev pub plain_spec : Met Spec-F → Node Plain Spec-F
  plain_spec = map-Spec MetDirect MetExpr MetParam MetParams MetSpec MetSuffix MetAbstractDeclarator MetDeclarator MetMemberDecl MetTypeWord
      Direct Expr Param Params Spec Suffix AbstractDeclarator Declarator MemberDecl TypeWord
      (λ e. e.0) (λ e. e.0) (λ e. e.0) (λ e. e.0) (λ e. e.0) (λ e. e.0) (λ e. e.0) (λ e. e.0) (λ e. e.0) (λ e. e.0)

  abbrev pub plain_suffix : Met Suffix-F → Node Plain Suffix-F
  plain_suffix = map-Suffix MetDirect MetExpr MetParam MetParams MetSpec MetSuffix MetAbstractDeclarator MetDeclarator MetMemberDecl MetTypeWord
      Direct Expr Param Params Spec Suffix AbstractDeclarator Declarator MemberDecl TypeWord
      (λ e. e.0) (λ e. e.0) (λ e. e.0) (λ e. e.0) (λ e. e.0) (λ e. e.0) (λ e. e.0) (λ e. e.0) (λ e. e.0) (λ e. e.0)

  abbrev pub plain_abstract : Met AbstractDeclarator-F → Node Plain AbstractDeclarator-F
  plain_abstract = map-AbstractDeclarator MetDirect MetExpr MetParam MetParams MetSpec MetSuffix MetAbstractDeclarator MetDeclarator MetMemberDecl MetTypeWord
      Direct Expr Param Params Spec Suffix AbstractDeclarator Declarator MemberDecl TypeWord
      (λ e. e.0) (λ e. e.0) (λ e. e.0) (λ e. e.0) (λ e. e.0) (λ e. e.0) (λ e. e.0) (λ e. e.0) (λ e. e.0) (λ e. e.0)

  abbrev pub plain_declarator : Met Declarator-F → Node Plain Declarator-F
  plain_declarator = map-Declarator MetDirect MetExpr MetParam MetParams MetSpec MetSuffix MetAbstractDeclarator MetDeclarator MetMemberDecl MetTypeWord
      Direct Expr Param Params Spec Suffix AbstractDeclarator Declarator MemberDecl TypeWord
      (λ e. e.0) (λ e. e.0) (λ e. e.0) (λ e. e.0) (λ e. e.0) (λ e. e.0) (λ e. e.0) (λ e. e.0) (λ e. e.0) (λ e. e.0)

  abbrev pub plain_member : Met MemberDecl-F → Node Plain MemberDecl-F
  plain_member = map-MemberDecl MetDirect MetExpr MetParam MetParams MetSpec MetSuffix MetAbstractDeclarator MetDeclarator MetMemberDecl MetTypeWord
      Direct Expr Param Params Spec Suffix AbstractDeclarator Declarator MemberDecl TypeWord
      (λ e. e.0) (λ e. e.0) (λ e. e.0) (λ e. e.0) (λ e. e.0) (λ e. e.0) (λ e. e.0) (λ e. e.0) (λ e. e.0) (λ e. e.0)

  abbrev pub plain_type_word : Met TypeWord-F → Node Plain TypeWord-F
  plain_type_word = map-TypeWord MetDirect MetExpr MetParam MetParams MetSpec MetSuffix MetAbstractDeclarator MetDeclarator MetMemberDecl MetTypeWord
      Direct Expr Param Params Spec Suffix AbstractDeclarator Declarator MemberDecl TypeWord
      (λ e. e.0) (λ e. e.0) (λ e. e.0) (λ e. e.0) (λ e. e.0) (λ e. e.0) (λ e. e.0) (λ e. e.0) (λ e. e.0) (λ e. e.0)
