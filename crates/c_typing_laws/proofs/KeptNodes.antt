-- Of each type of trees: that its walk keeps each tree, and the walk of a node by that of its parts.
use Rattle.std.proofs.Common.{◌≡◌, Bool, List}
use Rattle.c_types.specs.declared.structs.Member.{Member}
use Rattle.c_tree.specs.declared.expression.Direct.{Direct, roll-Direct, map-Direct, fold-roll-Direct}
use Rattle.c_tree.specs.declared.expression.Expr.{Expr, roll-Expr, map-Expr, fold-roll-Expr}
use Rattle.c_tree.specs.declared.expression.Param.{Param, roll-Param, map-Param, fold-roll-Param}
use Rattle.c_tree.specs.declared.expression.Params.{Params, roll-Params, map-Params, fold-roll-Params}
use Rattle.c_tree.specs.declared.expression.Spec.{Spec, roll-Spec, map-Spec, fold-roll-Spec}
use Rattle.c_tree.specs.declared.expression.Suffix.{Suffix, roll-Suffix, map-Suffix, fold-roll-Suffix}
use Rattle.c_tree.specs.declared.expression.AbstractDeclarator.{AbstractDeclarator, roll-AbstractDeclarator, map-AbstractDeclarator, fold-roll-AbstractDeclarator}
use Rattle.c_tree.specs.declared.expression.Declarator.{Declarator, roll-Declarator, map-Declarator, fold-roll-Declarator}
use Rattle.c_tree.specs.declared.expression.MemberDecl.{MemberDecl, roll-MemberDecl, map-MemberDecl, fold-roll-MemberDecl}
use Rattle.c_tree.specs.declared.expression.TypeWord.{TypeWord, roll-TypeWord, map-TypeWord, fold-roll-TypeWord}
use Rattle.c_tree.specs.declared.expression.Direct.TheOpen.{Direct-F, Expr-F, Param-F, Params-F, Spec-F, Suffix-F, AbstractDeclarator-F, Declarator-F, MemberDecl-F, TypeWord-F}
use Rattle.c_tree.specs.Fold.{Node, Plain, fold}
use Rattle.c_typed.specs.Erased.{erased_expr, erased_spec}
use Rattle.c_scope.specs.declared.world.World.{World}
use Rattle.c_rules.specs.declared.place.Place.{Place}
use Rattle.c_typing_laws.specs.inner.ErasedTrees.{abstract_tree, declarator_tree, direct_tree, member_tree, param_tree, params_tree, suffix_tree, type_word_tree}
use Rattle.c_expr_typing.specs.Trees.{abstract_step, declarator_step, direct_step, expr_step, member_step, param_step, params_step, spec_step, suffix_step, type_word_step, walked}
use Rattle.c_typing_laws.specs.inner.Yields.{Yields}

abbrev pub KeepsDirect : Direct → Type 0
KeepsDirect t = (w : World) → Yields (walked.direct t w) (λ x. direct_tree x.0 ≡ t)

abbrev pub KeepsExpr : Expr → Type 0
KeepsExpr t = (place : Place) (w : World) → Yields (walked.expr t place w) (λ x. erased_expr x ≡ t)

abbrev pub KeepsParam : Param → Type 0
KeepsParam t = (w : World) → Yields (walked.param t w) (λ x. param_tree x.0 ≡ t)

abbrev pub KeepsParams : Params → Type 0
KeepsParams t = (w : World) → Yields (walked.params t w) (λ x. params_tree x.0 ≡ t)

abbrev pub KeepsSpec : Spec → Type 0
KeepsSpec t = (bodies : Bool) (w : World) → Yields (walked.spec t bodies w) (λ x. erased_spec x.0 ≡ t)

abbrev pub KeepsSuffix : Suffix → Type 0
KeepsSuffix t = (w : World) → Yields (walked.suffix t w) (λ x. suffix_tree x.0 ≡ t)

abbrev pub KeepsAbstractDeclarator : AbstractDeclarator → Type 0
KeepsAbstractDeclarator t = (w : World) → Yields (walked.abstract t w) (λ x. abstract_tree x.0 ≡ t)

abbrev pub KeepsDeclarator : Declarator → Type 0
KeepsDeclarator t = (w : World) → Yields (walked.declarator t w) (λ x. declarator_tree x.tree ≡ t)

abbrev pub KeepsMemberDecl : MemberDecl → Type 0
KeepsMemberDecl t = (before : List Member) (w : World) → Yields (walked.member t before w) (λ x. member_tree x.0 ≡ t)

abbrev pub KeepsTypeWord : TypeWord → Type 0
KeepsTypeWord t = (w : World) → Yields (walked.type_word t w) (λ x. type_word_tree x ≡ t)

-- a tree that is kept

abbrev pub KeptDirect : Type 0
KeptDirect = (t : Direct) × KeepsDirect t

abbrev pub KeptExpr : Type 0
KeptExpr = (t : Expr) × KeepsExpr t

abbrev pub KeptParam : Type 0
KeptParam = (t : Param) × KeepsParam t

abbrev pub KeptParams : Type 0
KeptParams = (t : Params) × KeepsParams t

abbrev pub KeptSpec : Type 0
KeptSpec = (t : Spec) × KeepsSpec t

abbrev pub KeptSuffix : Type 0
KeptSuffix = (t : Suffix) × KeepsSuffix t

abbrev pub KeptAbstractDeclarator : Type 0
KeptAbstractDeclarator = (t : AbstractDeclarator) × KeepsAbstractDeclarator t

abbrev pub KeptDeclarator : Type 0
KeptDeclarator = (t : Declarator) × KeepsDeclarator t

abbrev pub KeptMemberDecl : Type 0
KeptMemberDecl = (t : MemberDecl) × KeepsMemberDecl t

abbrev pub KeptTypeWord : Type 0
KeptTypeWord = (t : TypeWord) × KeepsTypeWord t

-- a node whose parts are kept
abbrev pub Kept : ((A B C D E F G H I J : Type 0) → Type 0) → Type 0
Kept F = F KeptDirect KeptExpr KeptParam KeptParams KeptSpec KeptSuffix KeptAbstractDeclarator KeptDeclarator KeptMemberDecl KeptTypeWord

-- ---- the same node, of the parts alone

abbrev pub bare_direct : Kept Direct-F → Node Plain Direct-F
bare_direct = map-Direct KeptDirect KeptExpr KeptParam KeptParams KeptSpec KeptSuffix KeptAbstractDeclarator KeptDeclarator KeptMemberDecl KeptTypeWord
    Direct Expr Param Params Spec Suffix AbstractDeclarator Declarator MemberDecl TypeWord
    (λ e. e.0) (λ e. e.0) (λ e. e.0) (λ e. e.0) (λ e. e.0) (λ e. e.0) (λ e. e.0) (λ e. e.0) (λ e. e.0) (λ e. e.0)

abbrev pub bare_expr : Kept Expr-F → Node Plain Expr-F
bare_expr = map-Expr KeptDirect KeptExpr KeptParam KeptParams KeptSpec KeptSuffix KeptAbstractDeclarator KeptDeclarator KeptMemberDecl KeptTypeWord
    Direct Expr Param Params Spec Suffix AbstractDeclarator Declarator MemberDecl TypeWord
    (λ e. e.0) (λ e. e.0) (λ e. e.0) (λ e. e.0) (λ e. e.0) (λ e. e.0) (λ e. e.0) (λ e. e.0) (λ e. e.0) (λ e. e.0)

abbrev pub bare_param : Kept Param-F → Node Plain Param-F
bare_param = map-Param KeptDirect KeptExpr KeptParam KeptParams KeptSpec KeptSuffix KeptAbstractDeclarator KeptDeclarator KeptMemberDecl KeptTypeWord
    Direct Expr Param Params Spec Suffix AbstractDeclarator Declarator MemberDecl TypeWord
    (λ e. e.0) (λ e. e.0) (λ e. e.0) (λ e. e.0) (λ e. e.0) (λ e. e.0) (λ e. e.0) (λ e. e.0) (λ e. e.0) (λ e. e.0)

abbrev pub bare_params : Kept Params-F → Node Plain Params-F
bare_params = map-Params KeptDirect KeptExpr KeptParam KeptParams KeptSpec KeptSuffix KeptAbstractDeclarator KeptDeclarator KeptMemberDecl KeptTypeWord
    Direct Expr Param Params Spec Suffix AbstractDeclarator Declarator MemberDecl TypeWord
    (λ e. e.0) (λ e. e.0) (λ e. e.0) (λ e. e.0) (λ e. e.0) (λ e. e.0) (λ e. e.0) (λ e. e.0) (λ e. e.0) (λ e. e.0)

abbrev pub bare_spec : Kept Spec-F → Node Plain Spec-F
bare_spec = map-Spec KeptDirect KeptExpr KeptParam KeptParams KeptSpec KeptSuffix KeptAbstractDeclarator KeptDeclarator KeptMemberDecl KeptTypeWord
    Direct Expr Param Params Spec Suffix AbstractDeclarator Declarator MemberDecl TypeWord
    (λ e. e.0) (λ e. e.0) (λ e. e.0) (λ e. e.0) (λ e. e.0) (λ e. e.0) (λ e. e.0) (λ e. e.0) (λ e. e.0) (λ e. e.0)

abbrev pub bare_suffix : Kept Suffix-F → Node Plain Suffix-F
bare_suffix = map-Suffix KeptDirect KeptExpr KeptParam KeptParams KeptSpec KeptSuffix KeptAbstractDeclarator KeptDeclarator KeptMemberDecl KeptTypeWord
    Direct Expr Param Params Spec Suffix AbstractDeclarator Declarator MemberDecl TypeWord
    (λ e. e.0) (λ e. e.0) (λ e. e.0) (λ e. e.0) (λ e. e.0) (λ e. e.0) (λ e. e.0) (λ e. e.0) (λ e. e.0) (λ e. e.0)

abbrev pub bare_abstract : Kept AbstractDeclarator-F → Node Plain AbstractDeclarator-F
bare_abstract = map-AbstractDeclarator KeptDirect KeptExpr KeptParam KeptParams KeptSpec KeptSuffix KeptAbstractDeclarator KeptDeclarator KeptMemberDecl KeptTypeWord
    Direct Expr Param Params Spec Suffix AbstractDeclarator Declarator MemberDecl TypeWord
    (λ e. e.0) (λ e. e.0) (λ e. e.0) (λ e. e.0) (λ e. e.0) (λ e. e.0) (λ e. e.0) (λ e. e.0) (λ e. e.0) (λ e. e.0)

abbrev pub bare_declarator : Kept Declarator-F → Node Plain Declarator-F
bare_declarator = map-Declarator KeptDirect KeptExpr KeptParam KeptParams KeptSpec KeptSuffix KeptAbstractDeclarator KeptDeclarator KeptMemberDecl KeptTypeWord
    Direct Expr Param Params Spec Suffix AbstractDeclarator Declarator MemberDecl TypeWord
    (λ e. e.0) (λ e. e.0) (λ e. e.0) (λ e. e.0) (λ e. e.0) (λ e. e.0) (λ e. e.0) (λ e. e.0) (λ e. e.0) (λ e. e.0)

abbrev pub bare_member : Kept MemberDecl-F → Node Plain MemberDecl-F
bare_member = map-MemberDecl KeptDirect KeptExpr KeptParam KeptParams KeptSpec KeptSuffix KeptAbstractDeclarator KeptDeclarator KeptMemberDecl KeptTypeWord
    Direct Expr Param Params Spec Suffix AbstractDeclarator Declarator MemberDecl TypeWord
    (λ e. e.0) (λ e. e.0) (λ e. e.0) (λ e. e.0) (λ e. e.0) (λ e. e.0) (λ e. e.0) (λ e. e.0) (λ e. e.0) (λ e. e.0)

abbrev pub bare_type_word : Kept TypeWord-F → Node Plain TypeWord-F
bare_type_word = map-TypeWord KeptDirect KeptExpr KeptParam KeptParams KeptSpec KeptSuffix KeptAbstractDeclarator KeptDeclarator KeptMemberDecl KeptTypeWord
    Direct Expr Param Params Spec Suffix AbstractDeclarator Declarator MemberDecl TypeWord
    (λ e. e.0) (λ e. e.0) (λ e. e.0) (λ e. e.0) (λ e. e.0) (λ e. e.0) (λ e. e.0) (λ e. e.0) (λ e. e.0) (λ e. e.0)

-- ---- the walk of a node

pub walked-direct : (node : Node Plain Direct-F) → walked.direct (roll-Direct node) ≡ direct_step (map-Direct _ _ _ _ _ _ _ _ _ _ _ _ _ _ _ _ _ _ _ _
    walked.direct walked.expr walked.param walked.params walked.spec walked.suffix walked.abstract walked.declarator walked.member walked.type_word node)
unfolding walked fold
walked-direct node = fold-roll-Direct _ _ _ _ _ _ _ _ _ _
    direct_step expr_step param_step params_step spec_step suffix_step abstract_step declarator_step member_step type_word_step node

pub walked-expr : (node : Node Plain Expr-F) → walked.expr (roll-Expr node) ≡ expr_step (map-Expr _ _ _ _ _ _ _ _ _ _ _ _ _ _ _ _ _ _ _ _
    walked.direct walked.expr walked.param walked.params walked.spec walked.suffix walked.abstract walked.declarator walked.member walked.type_word node)
unfolding walked fold
walked-expr node = fold-roll-Expr _ _ _ _ _ _ _ _ _ _
    direct_step expr_step param_step params_step spec_step suffix_step abstract_step declarator_step member_step type_word_step node

pub walked-param : (node : Node Plain Param-F) → walked.param (roll-Param node) ≡ param_step (map-Param _ _ _ _ _ _ _ _ _ _ _ _ _ _ _ _ _ _ _ _
    walked.direct walked.expr walked.param walked.params walked.spec walked.suffix walked.abstract walked.declarator walked.member walked.type_word node)
unfolding walked fold
walked-param node = fold-roll-Param _ _ _ _ _ _ _ _ _ _
    direct_step expr_step param_step params_step spec_step suffix_step abstract_step declarator_step member_step type_word_step node

pub walked-params : (node : Node Plain Params-F) → walked.params (roll-Params node) ≡ params_step (map-Params _ _ _ _ _ _ _ _ _ _ _ _ _ _ _ _ _ _ _ _
    walked.direct walked.expr walked.param walked.params walked.spec walked.suffix walked.abstract walked.declarator walked.member walked.type_word node)
unfolding walked fold
walked-params node = fold-roll-Params _ _ _ _ _ _ _ _ _ _
    direct_step expr_step param_step params_step spec_step suffix_step abstract_step declarator_step member_step type_word_step node

pub walked-spec : (node : Node Plain Spec-F) → walked.spec (roll-Spec node) ≡ spec_step (map-Spec _ _ _ _ _ _ _ _ _ _ _ _ _ _ _ _ _ _ _ _
    walked.direct walked.expr walked.param walked.params walked.spec walked.suffix walked.abstract walked.declarator walked.member walked.type_word node)
unfolding walked fold
walked-spec node = fold-roll-Spec _ _ _ _ _ _ _ _ _ _
    direct_step expr_step param_step params_step spec_step suffix_step abstract_step declarator_step member_step type_word_step node

pub walked-suffix : (node : Node Plain Suffix-F) → walked.suffix (roll-Suffix node) ≡ suffix_step (map-Suffix _ _ _ _ _ _ _ _ _ _ _ _ _ _ _ _ _ _ _ _
    walked.direct walked.expr walked.param walked.params walked.spec walked.suffix walked.abstract walked.declarator walked.member walked.type_word node)
unfolding walked fold
walked-suffix node = fold-roll-Suffix _ _ _ _ _ _ _ _ _ _
    direct_step expr_step param_step params_step spec_step suffix_step abstract_step declarator_step member_step type_word_step node

pub walked-abstract : (node : Node Plain AbstractDeclarator-F) → walked.abstract (roll-AbstractDeclarator node) ≡ abstract_step (map-AbstractDeclarator _ _ _ _ _ _ _ _ _ _ _ _ _ _ _ _ _ _ _ _
    walked.direct walked.expr walked.param walked.params walked.spec walked.suffix walked.abstract walked.declarator walked.member walked.type_word node)
unfolding walked fold
walked-abstract node = fold-roll-AbstractDeclarator _ _ _ _ _ _ _ _ _ _
    direct_step expr_step param_step params_step spec_step suffix_step abstract_step declarator_step member_step type_word_step node

pub walked-declarator : (node : Node Plain Declarator-F) → walked.declarator (roll-Declarator node) ≡ declarator_step (map-Declarator _ _ _ _ _ _ _ _ _ _ _ _ _ _ _ _ _ _ _ _
    walked.direct walked.expr walked.param walked.params walked.spec walked.suffix walked.abstract walked.declarator walked.member walked.type_word node)
unfolding walked fold
walked-declarator node = fold-roll-Declarator _ _ _ _ _ _ _ _ _ _
    direct_step expr_step param_step params_step spec_step suffix_step abstract_step declarator_step member_step type_word_step node

pub walked-member : (node : Node Plain MemberDecl-F) → walked.member (roll-MemberDecl node) ≡ member_step (map-MemberDecl _ _ _ _ _ _ _ _ _ _ _ _ _ _ _ _ _ _ _ _
    walked.direct walked.expr walked.param walked.params walked.spec walked.suffix walked.abstract walked.declarator walked.member walked.type_word node)
unfolding walked fold
walked-member node = fold-roll-MemberDecl _ _ _ _ _ _ _ _ _ _
    direct_step expr_step param_step params_step spec_step suffix_step abstract_step declarator_step member_step type_word_step node

pub walked-type_word : (node : Node Plain TypeWord-F) → walked.type_word (roll-TypeWord node) ≡ type_word_step (map-TypeWord _ _ _ _ _ _ _ _ _ _ _ _ _ _ _ _ _ _ _ _
    walked.direct walked.expr walked.param walked.params walked.spec walked.suffix walked.abstract walked.declarator walked.member walked.type_word node)
unfolding walked fold
walked-type_word node = fold-roll-TypeWord _ _ _ _ _ _ _ _ _ _
    direct_step expr_step param_step params_step spec_step suffix_step abstract_step declarator_step member_step type_word_step node
