-- What holds of each tree, where it holds of a node whose parts have it; and the walk of a node by those of its parts.
use Rattle.std.proofs.Common.{◌≡◌, subst}
use Rattle.c_tree.specs.declared.expression.Direct.{Direct, roll-Direct, map-Direct, fold-roll-Direct}
use Rattle.c_tree.specs.declared.expression.Expr.{Expr, roll-Expr, map-Expr, fold-roll-Expr, ind-Expr}
use Rattle.c_tree.specs.declared.expression.Param.{Param, roll-Param, map-Param, fold-roll-Param}
use Rattle.c_tree.specs.declared.expression.Params.{Params, roll-Params, map-Params, fold-roll-Params}
use Rattle.c_tree.specs.declared.expression.Spec.{Spec, roll-Spec, map-Spec, fold-roll-Spec, ind-Spec}
use Rattle.c_tree.specs.declared.expression.Suffix.{Suffix, roll-Suffix, map-Suffix, fold-roll-Suffix}
use Rattle.c_tree.specs.declared.expression.AbstractDeclarator.{AbstractDeclarator, roll-AbstractDeclarator, map-AbstractDeclarator, fold-roll-AbstractDeclarator}
use Rattle.c_tree.specs.declared.expression.Declarator.{Declarator, roll-Declarator, map-Declarator, fold-roll-Declarator, ind-Declarator}
use Rattle.c_tree.specs.declared.expression.MemberDecl.{MemberDecl, roll-MemberDecl, map-MemberDecl, fold-roll-MemberDecl}
use Rattle.c_tree.specs.declared.expression.TypeWord.{TypeWord, roll-TypeWord, map-TypeWord, fold-roll-TypeWord}
use Rattle.c_tree.specs.declared.expression.Direct.TheOpen.{Direct-F, Expr-F, Param-F, Params-F, Spec-F, Suffix-F, AbstractDeclarator-F, Declarator-F, MemberDecl-F, TypeWord-F}
use Rattle.c_tree.specs.Fold.{Node, Plain, fold}
use Rattle.c_expr_typing.specs.Trees.{abstract_step, declarator_step, direct_step, expr_step, member_step, param_step, params_step, spec_step, suffix_step, type_word_step, walked}

-- ---- claims

-- what is claimed of each type of tree
pub record Claims : Type 1 where
  pub direct : Direct → Type 0
  pub expr : Expr → Type 0
  pub param : Param → Type 0
  pub params : Params → Type 0
  pub spec : Spec → Type 0
  pub suffix : Suffix → Type 0
  pub abstract : AbstractDeclarator → Type 0
  pub declarator : Declarator → Type 0
  pub member : MemberDecl → Type 0
  pub type_word : TypeWord → Type 0

module _ (c : Claims) where
  -- a node whose parts have what is claimed
  abbrev pub Held : ((A B C D E F G H I J : Type 0) → Type 0) → Type 0
  Held F = F ((t : Direct) × c.direct t) ((t : Expr) × c.expr t) ((t : Param) × c.param t) ((t : Params) × c.params t) ((t : Spec) × c.spec t) ((t : Suffix) × c.suffix t) ((t : AbstractDeclarator) × c.abstract t) ((t : Declarator) × c.declarator t) ((t : MemberDecl) × c.member t) ((t : TypeWord) × c.type_word t)

  abbrev pub bare_direct : Held Direct-F → Node Plain Direct-F
  bare_direct = map-Direct ((t : Direct) × c.direct t) ((t : Expr) × c.expr t) ((t : Param) × c.param t) ((t : Params) × c.params t) ((t : Spec) × c.spec t) ((t : Suffix) × c.suffix t) ((t : AbstractDeclarator) × c.abstract t) ((t : Declarator) × c.declarator t) ((t : MemberDecl) × c.member t) ((t : TypeWord) × c.type_word t)
      Direct Expr Param Params Spec Suffix AbstractDeclarator Declarator MemberDecl TypeWord (λ e. e.0) (λ e. e.0) (λ e. e.0) (λ e. e.0) (λ e. e.0) (λ e. e.0) (λ e. e.0) (λ e. e.0) (λ e. e.0) (λ e. e.0)

  abbrev pub bare_expr : Held Expr-F → Node Plain Expr-F
  bare_expr = map-Expr ((t : Direct) × c.direct t) ((t : Expr) × c.expr t) ((t : Param) × c.param t) ((t : Params) × c.params t) ((t : Spec) × c.spec t) ((t : Suffix) × c.suffix t) ((t : AbstractDeclarator) × c.abstract t) ((t : Declarator) × c.declarator t) ((t : MemberDecl) × c.member t) ((t : TypeWord) × c.type_word t)
      Direct Expr Param Params Spec Suffix AbstractDeclarator Declarator MemberDecl TypeWord (λ e. e.0) (λ e. e.0) (λ e. e.0) (λ e. e.0) (λ e. e.0) (λ e. e.0) (λ e. e.0) (λ e. e.0) (λ e. e.0) (λ e. e.0)

  abbrev pub bare_param : Held Param-F → Node Plain Param-F
  bare_param = map-Param ((t : Direct) × c.direct t) ((t : Expr) × c.expr t) ((t : Param) × c.param t) ((t : Params) × c.params t) ((t : Spec) × c.spec t) ((t : Suffix) × c.suffix t) ((t : AbstractDeclarator) × c.abstract t) ((t : Declarator) × c.declarator t) ((t : MemberDecl) × c.member t) ((t : TypeWord) × c.type_word t)
      Direct Expr Param Params Spec Suffix AbstractDeclarator Declarator MemberDecl TypeWord (λ e. e.0) (λ e. e.0) (λ e. e.0) (λ e. e.0) (λ e. e.0) (λ e. e.0) (λ e. e.0) (λ e. e.0) (λ e. e.0) (λ e. e.0)

  abbrev pub bare_params : Held Params-F → Node Plain Params-F
  bare_params = map-Params ((t : Direct) × c.direct t) ((t : Expr) × c.expr t) ((t : Param) × c.param t) ((t : Params) × c.params t) ((t : Spec) × c.spec t) ((t : Suffix) × c.suffix t) ((t : AbstractDeclarator) × c.abstract t) ((t : Declarator) × c.declarator t) ((t : MemberDecl) × c.member t) ((t : TypeWord) × c.type_word t)
      Direct Expr Param Params Spec Suffix AbstractDeclarator Declarator MemberDecl TypeWord (λ e. e.0) (λ e. e.0) (λ e. e.0) (λ e. e.0) (λ e. e.0) (λ e. e.0) (λ e. e.0) (λ e. e.0) (λ e. e.0) (λ e. e.0)

  abbrev pub bare_spec : Held Spec-F → Node Plain Spec-F
  bare_spec = map-Spec ((t : Direct) × c.direct t) ((t : Expr) × c.expr t) ((t : Param) × c.param t) ((t : Params) × c.params t) ((t : Spec) × c.spec t) ((t : Suffix) × c.suffix t) ((t : AbstractDeclarator) × c.abstract t) ((t : Declarator) × c.declarator t) ((t : MemberDecl) × c.member t) ((t : TypeWord) × c.type_word t)
      Direct Expr Param Params Spec Suffix AbstractDeclarator Declarator MemberDecl TypeWord (λ e. e.0) (λ e. e.0) (λ e. e.0) (λ e. e.0) (λ e. e.0) (λ e. e.0) (λ e. e.0) (λ e. e.0) (λ e. e.0) (λ e. e.0)

  abbrev pub bare_suffix : Held Suffix-F → Node Plain Suffix-F
  bare_suffix = map-Suffix ((t : Direct) × c.direct t) ((t : Expr) × c.expr t) ((t : Param) × c.param t) ((t : Params) × c.params t) ((t : Spec) × c.spec t) ((t : Suffix) × c.suffix t) ((t : AbstractDeclarator) × c.abstract t) ((t : Declarator) × c.declarator t) ((t : MemberDecl) × c.member t) ((t : TypeWord) × c.type_word t)
      Direct Expr Param Params Spec Suffix AbstractDeclarator Declarator MemberDecl TypeWord (λ e. e.0) (λ e. e.0) (λ e. e.0) (λ e. e.0) (λ e. e.0) (λ e. e.0) (λ e. e.0) (λ e. e.0) (λ e. e.0) (λ e. e.0)

  abbrev pub bare_abstract : Held AbstractDeclarator-F → Node Plain AbstractDeclarator-F
  bare_abstract = map-AbstractDeclarator ((t : Direct) × c.direct t) ((t : Expr) × c.expr t) ((t : Param) × c.param t) ((t : Params) × c.params t) ((t : Spec) × c.spec t) ((t : Suffix) × c.suffix t) ((t : AbstractDeclarator) × c.abstract t) ((t : Declarator) × c.declarator t) ((t : MemberDecl) × c.member t) ((t : TypeWord) × c.type_word t)
      Direct Expr Param Params Spec Suffix AbstractDeclarator Declarator MemberDecl TypeWord (λ e. e.0) (λ e. e.0) (λ e. e.0) (λ e. e.0) (λ e. e.0) (λ e. e.0) (λ e. e.0) (λ e. e.0) (λ e. e.0) (λ e. e.0)

  abbrev pub bare_declarator : Held Declarator-F → Node Plain Declarator-F
  bare_declarator = map-Declarator ((t : Direct) × c.direct t) ((t : Expr) × c.expr t) ((t : Param) × c.param t) ((t : Params) × c.params t) ((t : Spec) × c.spec t) ((t : Suffix) × c.suffix t) ((t : AbstractDeclarator) × c.abstract t) ((t : Declarator) × c.declarator t) ((t : MemberDecl) × c.member t) ((t : TypeWord) × c.type_word t)
      Direct Expr Param Params Spec Suffix AbstractDeclarator Declarator MemberDecl TypeWord (λ e. e.0) (λ e. e.0) (λ e. e.0) (λ e. e.0) (λ e. e.0) (λ e. e.0) (λ e. e.0) (λ e. e.0) (λ e. e.0) (λ e. e.0)

  abbrev pub bare_member : Held MemberDecl-F → Node Plain MemberDecl-F
  bare_member = map-MemberDecl ((t : Direct) × c.direct t) ((t : Expr) × c.expr t) ((t : Param) × c.param t) ((t : Params) × c.params t) ((t : Spec) × c.spec t) ((t : Suffix) × c.suffix t) ((t : AbstractDeclarator) × c.abstract t) ((t : Declarator) × c.declarator t) ((t : MemberDecl) × c.member t) ((t : TypeWord) × c.type_word t)
      Direct Expr Param Params Spec Suffix AbstractDeclarator Declarator MemberDecl TypeWord (λ e. e.0) (λ e. e.0) (λ e. e.0) (λ e. e.0) (λ e. e.0) (λ e. e.0) (λ e. e.0) (λ e. e.0) (λ e. e.0) (λ e. e.0)

  abbrev pub bare_type_word : Held TypeWord-F → Node Plain TypeWord-F
  bare_type_word = map-TypeWord ((t : Direct) × c.direct t) ((t : Expr) × c.expr t) ((t : Param) × c.param t) ((t : Params) × c.params t) ((t : Spec) × c.spec t) ((t : Suffix) × c.suffix t) ((t : AbstractDeclarator) × c.abstract t) ((t : Declarator) × c.declarator t) ((t : MemberDecl) × c.member t) ((t : TypeWord) × c.type_word t)
      Direct Expr Param Params Spec Suffix AbstractDeclarator Declarator MemberDecl TypeWord (λ e. e.0) (λ e. e.0) (λ e. e.0) (λ e. e.0) (λ e. e.0) (λ e. e.0) (λ e. e.0) (λ e. e.0) (λ e. e.0) (λ e. e.0)

  -- each node has it where its parts do
  pub record Made : Type 0 where
    pub direct : (y : Held Direct-F) → c.direct (roll-Direct (bare_direct y))
    pub expr : (y : Held Expr-F) → c.expr (roll-Expr (bare_expr y))
    pub param : (y : Held Param-F) → c.param (roll-Param (bare_param y))
    pub params : (y : Held Params-F) → c.params (roll-Params (bare_params y))
    pub spec : (y : Held Spec-F) → c.spec (roll-Spec (bare_spec y))
    pub suffix : (y : Held Suffix-F) → c.suffix (roll-Suffix (bare_suffix y))
    pub abstract : (y : Held AbstractDeclarator-F) → c.abstract (roll-AbstractDeclarator (bare_abstract y))
    pub declarator : (y : Held Declarator-F) → c.declarator (roll-Declarator (bare_declarator y))
    pub member : (y : Held MemberDecl-F) → c.member (roll-MemberDecl (bare_member y))
    pub type_word : (y : Held TypeWord-F) → c.type_word (roll-TypeWord (bare_type_word y))

  module _ (made : Made) where
    direct-step : (x : Node Plain Direct-F) (y : Held Direct-F) → bare_direct y ≡ x → c.direct (roll-Direct x)
    direct-step x y is = subst (λ z. c.direct (roll-Direct z)) is (made.direct y)

    expr-step : (x : Node Plain Expr-F) (y : Held Expr-F) → bare_expr y ≡ x → c.expr (roll-Expr x)
    expr-step x y is = subst (λ z. c.expr (roll-Expr z)) is (made.expr y)

    param-step : (x : Node Plain Param-F) (y : Held Param-F) → bare_param y ≡ x → c.param (roll-Param x)
    param-step x y is = subst (λ z. c.param (roll-Param z)) is (made.param y)

    params-step : (x : Node Plain Params-F) (y : Held Params-F) → bare_params y ≡ x → c.params (roll-Params x)
    params-step x y is = subst (λ z. c.params (roll-Params z)) is (made.params y)

    spec-step : (x : Node Plain Spec-F) (y : Held Spec-F) → bare_spec y ≡ x → c.spec (roll-Spec x)
    spec-step x y is = subst (λ z. c.spec (roll-Spec z)) is (made.spec y)

    suffix-step : (x : Node Plain Suffix-F) (y : Held Suffix-F) → bare_suffix y ≡ x → c.suffix (roll-Suffix x)
    suffix-step x y is = subst (λ z. c.suffix (roll-Suffix z)) is (made.suffix y)

    abstract-step : (x : Node Plain AbstractDeclarator-F) (y : Held AbstractDeclarator-F) → bare_abstract y ≡ x → c.abstract (roll-AbstractDeclarator x)
    abstract-step x y is = subst (λ z. c.abstract (roll-AbstractDeclarator z)) is (made.abstract y)

    declarator-step : (x : Node Plain Declarator-F) (y : Held Declarator-F) → bare_declarator y ≡ x → c.declarator (roll-Declarator x)
    declarator-step x y is = subst (λ z. c.declarator (roll-Declarator z)) is (made.declarator y)

    member-step : (x : Node Plain MemberDecl-F) (y : Held MemberDecl-F) → bare_member y ≡ x → c.member (roll-MemberDecl x)
    member-step x y is = subst (λ z. c.member (roll-MemberDecl z)) is (made.member y)

    type_word-step : (x : Node Plain TypeWord-F) (y : Held TypeWord-F) → bare_type_word y ≡ x → c.type_word (roll-TypeWord x)
    type_word-step x y is = subst (λ z. c.type_word (roll-TypeWord z)) is (made.type_word y)

    pub all-expr : (t : Expr) → c.expr t
    all-expr = ind-Expr c.direct c.expr c.param c.params c.spec c.suffix c.abstract c.declarator c.member c.type_word
        direct-step expr-step param-step params-step spec-step suffix-step abstract-step declarator-step member-step type_word-step

    pub all-spec : (t : Spec) → c.spec t
    all-spec = ind-Spec c.direct c.expr c.param c.params c.spec c.suffix c.abstract c.declarator c.member c.type_word
        direct-step expr-step param-step params-step spec-step suffix-step abstract-step declarator-step member-step type_word-step

    pub all-declarator : (t : Declarator) → c.declarator t
    all-declarator = ind-Declarator c.direct c.expr c.param c.params c.spec c.suffix c.abstract c.declarator c.member c.type_word
        direct-step expr-step param-step params-step spec-step suffix-step abstract-step declarator-step member-step type_word-step

-- ---- the walk of a node

pub walked-direct : (node : Node Plain Direct-F) → walked.direct (roll-Direct node) ≡ direct_step (map-Direct _ _ _ _ _ _ _ _ _ _ _ _ _ _ _ _ _ _ _ _
    walked.direct walked.expr walked.param walked.params walked.spec walked.suffix walked.abstract walked.declarator walked.member walked.type_word node)
unfolding walked fold
walked-direct node = fold-roll-Direct _ _ _ _ _ _ _ _ _ _
    direct_step expr_step param_step params_step spec_step suffix_step abstract_step declarator_step member_step type_word_step node

pub walked-expr : (node : Node Plain Expr-F) → walked.expr (roll-Expr node) ≡ expr_step (map-Expr _ _ _ _ _ _ _ _ _ _ _ _ _ _ _ _ _ _ _ _
    walked.direct walked.expr walked.param walked.params walked.spec walked.suffix walked.abstract walked.declarator walked.member walked.type_word node)
unfolding walked fold
walked-expr node = fold-roll-Expr _ _ _ _ _ _ _ _ _ _
    direct_step expr_step param_step params_step spec_step suffix_step abstract_step declarator_step member_step type_word_step node

pub walked-param : (node : Node Plain Param-F) → walked.param (roll-Param node) ≡ param_step (map-Param _ _ _ _ _ _ _ _ _ _ _ _ _ _ _ _ _ _ _ _
    walked.direct walked.expr walked.param walked.params walked.spec walked.suffix walked.abstract walked.declarator walked.member walked.type_word node)
unfolding walked fold
walked-param node = fold-roll-Param _ _ _ _ _ _ _ _ _ _
    direct_step expr_step param_step params_step spec_step suffix_step abstract_step declarator_step member_step type_word_step node

pub walked-params : (node : Node Plain Params-F) → walked.params (roll-Params node) ≡ params_step (map-Params _ _ _ _ _ _ _ _ _ _ _ _ _ _ _ _ _ _ _ _
    walked.direct walked.expr walked.param walked.params walked.spec walked.suffix walked.abstract walked.declarator walked.member walked.type_word node)
unfolding walked fold
walked-params node = fold-roll-Params _ _ _ _ _ _ _ _ _ _
    direct_step expr_step param_step params_step spec_step suffix_step abstract_step declarator_step member_step type_word_step node

pub walked-spec : (node : Node Plain Spec-F) → walked.spec (roll-Spec node) ≡ spec_step (map-Spec _ _ _ _ _ _ _ _ _ _ _ _ _ _ _ _ _ _ _ _
    walked.direct walked.expr walked.param walked.params walked.spec walked.suffix walked.abstract walked.declarator walked.member walked.type_word node)
unfolding walked fold
walked-spec node = fold-roll-Spec _ _ _ _ _ _ _ _ _ _
    direct_step expr_step param_step params_step spec_step suffix_step abstract_step declarator_step member_step type_word_step node

pub walked-suffix : (node : Node Plain Suffix-F) → walked.suffix (roll-Suffix node) ≡ suffix_step (map-Suffix _ _ _ _ _ _ _ _ _ _ _ _ _ _ _ _ _ _ _ _
    walked.direct walked.expr walked.param walked.params walked.spec walked.suffix walked.abstract walked.declarator walked.member walked.type_word node)
unfolding walked fold
walked-suffix node = fold-roll-Suffix _ _ _ _ _ _ _ _ _ _
    direct_step expr_step param_step params_step spec_step suffix_step abstract_step declarator_step member_step type_word_step node

pub walked-abstract : (node : Node Plain AbstractDeclarator-F) → walked.abstract (roll-AbstractDeclarator node) ≡ abstract_step (map-AbstractDeclarator _ _ _ _ _ _ _ _ _ _ _ _ _ _ _ _ _ _ _ _
    walked.direct walked.expr walked.param walked.params walked.spec walked.suffix walked.abstract walked.declarator walked.member walked.type_word node)
unfolding walked fold
walked-abstract node = fold-roll-AbstractDeclarator _ _ _ _ _ _ _ _ _ _
    direct_step expr_step param_step params_step spec_step suffix_step abstract_step declarator_step member_step type_word_step node

pub walked-declarator : (node : Node Plain Declarator-F) → walked.declarator (roll-Declarator node) ≡ declarator_step (map-Declarator _ _ _ _ _ _ _ _ _ _ _ _ _ _ _ _ _ _ _ _
    walked.direct walked.expr walked.param walked.params walked.spec walked.suffix walked.abstract walked.declarator walked.member walked.type_word node)
unfolding walked fold
walked-declarator node = fold-roll-Declarator _ _ _ _ _ _ _ _ _ _
    direct_step expr_step param_step params_step spec_step suffix_step abstract_step declarator_step member_step type_word_step node

pub walked-member : (node : Node Plain MemberDecl-F) → walked.member (roll-MemberDecl node) ≡ member_step (map-MemberDecl _ _ _ _ _ _ _ _ _ _ _ _ _ _ _ _ _ _ _ _
    walked.direct walked.expr walked.param walked.params walked.spec walked.suffix walked.abstract walked.declarator walked.member walked.type_word node)
unfolding walked fold
walked-member node = fold-roll-MemberDecl _ _ _ _ _ _ _ _ _ _
    direct_step expr_step param_step params_step spec_step suffix_step abstract_step declarator_step member_step type_word_step node

pub walked-type_word : (node : Node Plain TypeWord-F) → walked.type_word (roll-TypeWord node) ≡ type_word_step (map-TypeWord _ _ _ _ _ _ _ _ _ _ _ _ _ _ _ _ _ _ _ _
    walked.direct walked.expr walked.param walked.params walked.spec walked.suffix walked.abstract walked.declarator walked.member walked.type_word node)
unfolding walked fold
walked-type_word node = fold-roll-TypeWord _ _ _ _ _ _ _ _ _ _
    direct_step expr_step param_step params_step spec_step suffix_step abstract_step declarator_step member_step type_word_step node
