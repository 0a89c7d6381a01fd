-- Each form of a spec, a declarator and a type word, without its types.
use Rattle.std.proofs.Common.{◌≡◌, ◌∙◌, ℕ, List, map, Some, None, ap, sym}
use Rattle.c_tree.specs.declared.expression.Direct.TheVariants as direct
use Rattle.c_tree.specs.declared.expression.Param.TheVariants as param
use Rattle.c_tree.specs.declared.expression.Params.TheVariants as params
use Rattle.c_tree.specs.declared.expression.Spec.TheVariants as spec
use Rattle.c_tree.specs.declared.expression.Suffix.TheVariants as suffix
use Rattle.c_tree.specs.Trees as raw
use Rattle.c_types.specs.declared.ty.Ty.{Ty}
use Rattle.c_typed.specs.declared.expression.TypedDirect.{TypedDirect, roll-TypedDirect, map-TypedDirect, fold-roll-TypedDirect}
use Rattle.c_typed.specs.declared.expression.TypedParam.{TypedParam, roll-TypedParam, map-TypedParam, fold-roll-TypedParam}
use Rattle.c_typed.specs.declared.expression.TypedParams.{TypedParams, roll-TypedParams, map-TypedParams, fold-roll-TypedParams}
use Rattle.c_typed.specs.declared.expression.TypedSpec.{TypedSpec, roll-TypedSpec, map-TypedSpec, fold-roll-TypedSpec}
use Rattle.c_typed.specs.declared.expression.TypedSuffix.{TypedSuffix, roll-TypedSuffix, map-TypedSuffix, fold-roll-TypedSuffix}
use Rattle.c_typed.specs.declared.expression.Declared.{Declared, roll-Declared, fold-roll-Declared}
use Rattle.c_typed.specs.declared.expression.TypedAbstractDeclarator.{TypedAbstractDeclarator, roll-TypedAbstractDeclarator, fold-roll-TypedAbstractDeclarator}
use Rattle.c_typed.specs.declared.expression.TypedDeclarator.{TypedDeclarator, roll-TypedDeclarator, fold-roll-TypedDeclarator}
use Rattle.c_typed.specs.declared.expression.TypedExpr.{TypedExpr}
use Rattle.c_typed.specs.declared.expression.TypedMemberDecl.{TypedMemberDecl, roll-TypedMemberDecl, fold-roll-TypedMemberDecl}
use Rattle.c_typed.specs.declared.expression.TypedTypeWord.{roll-TypedTypeWord, fold-roll-TypedTypeWord}
use Rattle.c_typed.specs.declared.expression.TypedDirect.TheVariants as typed_direct
use Rattle.c_typed.specs.declared.expression.TypedParam.TheVariants as typed_param
use Rattle.c_typed.specs.declared.expression.TypedParams.TheVariants as typed_params
use Rattle.c_typed.specs.declared.expression.TypedSpec.TheVariants as typed_spec
use Rattle.c_typed.specs.declared.expression.TypedSuffix.TheVariants as typed_suffix
use Rattle.c_typed.specs.declared.expression.TypedDirect.TheOpen.{TypedDirect-F, TypedParam-F, TypedParams-F, TypedSpec-F, TypedSuffix-F}
use Rattle.c_typed.specs.Erased.{erased_abstract, erased_declarator, erased_declared, erased_declared_node, erased_direct, erased_expr, erased_expr_node, erased_form, erased_member, erased_param, erased_params, erased_spec, erased_spec_node, erased_suffix, erased_type_word}
use Rattle.c_typing_laws.specs.inner.ErasedTrees.{abstract_tree, declarator_tree, direct_tree, form_tree, Layer, member_tree, param_tree, params_tree, suffix_tree, type_word_tree}

-- ---- specs

spec-made : (node : Layer TypedSpec-F) → erased_spec (roll-TypedSpec node)
    ≡ erased_spec_node (map-TypedSpec _ _ _ _ _ _ _ _ _ _ _ _ _ _ _ _ _ _ _ _ _ _ _ _
    direct_tree form_tree param_tree params_tree erased_spec suffix_tree
    erased_declared abstract_tree declarator_tree erased_expr member_tree type_word_tree node)
unfolding direct_tree form_tree param_tree params_tree erased_spec suffix_tree erased_declared abstract_tree declarator_tree erased_expr member_tree type_word_tree
spec-made node = fold-roll-TypedSpec _ _ _ _ _ _ _ _ _ _ _ _
    erased_direct erased_form erased_param erased_params erased_spec_node erased_suffix
    erased_declared_node erased_abstract erased_declarator erased_expr_node erased_member erased_type_word node

pub spec-Int : erased_spec typed_spec.Int ≡ spec.Int
spec-Int = ap erased_spec (sym typed_spec.rolls-Int) ∙ spec-made TypedSpec-F.Int

pub spec-Char : erased_spec typed_spec.Char ≡ spec.Char
spec-Char = ap erased_spec (sym typed_spec.rolls-Char) ∙ spec-made TypedSpec-F.Char

pub spec-Void : erased_spec typed_spec.Void ≡ spec.Void
spec-Void = ap erased_spec (sym typed_spec.rolls-Void) ∙ spec-made TypedSpec-F.Void

pub spec-TypeName : (x : List ℕ) → erased_spec (typed_spec.TypeName x) ≡ spec.TypeName x
spec-TypeName x = ap erased_spec (sym (typed_spec.rolls-TypeName x)) ∙ spec-made (TypedSpec-F.TypeName x)

pub spec-tag : (x : List ℕ) → erased_spec (typed_spec.Struct x None) ≡ spec.Struct x None
spec-tag x = ap erased_spec (sym (typed_spec.rolls-Struct x None)) ∙ spec-made (TypedSpec-F.Struct x None)

pub spec-body : (x : List ℕ) (ms : List TypedMemberDecl) → erased_spec (typed_spec.Struct x (Some ms)) ≡ spec.Struct x (Some (map member_tree ms))
spec-body x ms = ap erased_spec (sym (typed_spec.rolls-Struct x (Some ms))) ∙ spec-made (TypedSpec-F.Struct x (Some ms))

-- ---- declarators

direct-made : (node : Layer TypedDirect-F) → direct_tree (roll-TypedDirect node)
    ≡ erased_direct (map-TypedDirect _ _ _ _ _ _ _ _ _ _ _ _ _ _ _ _ _ _ _ _ _ _ _ _
    direct_tree form_tree param_tree params_tree erased_spec suffix_tree
    erased_declared abstract_tree declarator_tree erased_expr member_tree type_word_tree node)
unfolding direct_tree form_tree param_tree params_tree erased_spec suffix_tree erased_declared abstract_tree declarator_tree erased_expr member_tree type_word_tree
direct-made node = fold-roll-TypedDirect _ _ _ _ _ _ _ _ _ _ _ _
    erased_direct erased_form erased_param erased_params erased_spec_node erased_suffix
    erased_declared_node erased_abstract erased_declarator erased_expr_node erased_member erased_type_word node

pub direct-Name : (x : List ℕ) → direct_tree (typed_direct.Name x) ≡ direct.Name x
direct-Name x = ap direct_tree (sym (typed_direct.rolls-Name x)) ∙ direct-made (TypedDirect-F.Name x)

pub direct-Bracketed : (d : TypedDeclarator) → direct_tree (typed_direct.Bracketed d) ≡ direct.Bracketed (declarator_tree d)
direct-Bracketed d = ap direct_tree (sym (typed_direct.rolls-Bracketed d)) ∙ direct-made (TypedDirect-F.Bracketed d)

-- ---- suffixes

suffix-made : (node : Layer TypedSuffix-F) → suffix_tree (roll-TypedSuffix node)
    ≡ erased_suffix (map-TypedSuffix _ _ _ _ _ _ _ _ _ _ _ _ _ _ _ _ _ _ _ _ _ _ _ _
    direct_tree form_tree param_tree params_tree erased_spec suffix_tree
    erased_declared abstract_tree declarator_tree erased_expr member_tree type_word_tree node)
unfolding direct_tree form_tree param_tree params_tree erased_spec suffix_tree erased_declared abstract_tree declarator_tree erased_expr member_tree type_word_tree
suffix-made node = fold-roll-TypedSuffix _ _ _ _ _ _ _ _ _ _ _ _
    erased_direct erased_form erased_param erased_params erased_spec_node erased_suffix
    erased_declared_node erased_abstract erased_declarator erased_expr_node erased_member erased_type_word node

pub suffix-open : suffix_tree (typed_suffix.Array None) ≡ suffix.Array None
suffix-open = ap suffix_tree (sym (typed_suffix.rolls-Array None)) ∙ suffix-made (TypedSuffix-F.Array None)

pub suffix-bound : (e : TypedExpr) → suffix_tree (typed_suffix.Array (Some e)) ≡ suffix.Array (Some (erased_expr e))
suffix-bound e = ap suffix_tree (sym (typed_suffix.rolls-Array (Some e))) ∙ suffix-made (TypedSuffix-F.Array (Some e))

pub suffix-Function : (p : TypedParams) → suffix_tree (typed_suffix.Function p) ≡ suffix.Function (params_tree p)
suffix-Function p = ap suffix_tree (sym (typed_suffix.rolls-Function p)) ∙ suffix-made (TypedSuffix-F.Function p)

-- ---- parameters

params-made : (node : Layer TypedParams-F) → params_tree (roll-TypedParams node)
    ≡ erased_params (map-TypedParams _ _ _ _ _ _ _ _ _ _ _ _ _ _ _ _ _ _ _ _ _ _ _ _
    direct_tree form_tree param_tree params_tree erased_spec suffix_tree
    erased_declared abstract_tree declarator_tree erased_expr member_tree type_word_tree node)
unfolding direct_tree form_tree param_tree params_tree erased_spec suffix_tree erased_declared abstract_tree declarator_tree erased_expr member_tree type_word_tree
params-made node = fold-roll-TypedParams _ _ _ _ _ _ _ _ _ _ _ _
    erased_direct erased_form erased_param erased_params erased_spec_node erased_suffix
    erased_declared_node erased_abstract erased_declarator erased_expr_node erased_member erased_type_word node

pub params-Nothing : params_tree typed_params.Nothing ≡ params.Nothing
params-Nothing = ap params_tree (sym typed_params.rolls-Nothing) ∙ params-made TypedParams-F.Nothing

pub params-VoidAlone : params_tree typed_params.VoidAlone ≡ params.VoidAlone
params-VoidAlone = ap params_tree (sym typed_params.rolls-VoidAlone) ∙ params-made TypedParams-F.VoidAlone

pub params-List : (ps : List TypedParam) → params_tree (typed_params.List ps) ≡ params.List (map param_tree ps)
params-List ps = ap params_tree (sym (typed_params.rolls-List ps)) ∙ params-made (TypedParams-F.List ps)

param-made : (node : Layer TypedParam-F) → param_tree (roll-TypedParam node)
    ≡ erased_param (map-TypedParam _ _ _ _ _ _ _ _ _ _ _ _ _ _ _ _ _ _ _ _ _ _ _ _
    direct_tree form_tree param_tree params_tree erased_spec suffix_tree
    erased_declared abstract_tree declarator_tree erased_expr member_tree type_word_tree node)
unfolding direct_tree form_tree param_tree params_tree erased_spec suffix_tree erased_declared abstract_tree declarator_tree erased_expr member_tree type_word_tree
param-made node = fold-roll-TypedParam _ _ _ _ _ _ _ _ _ _ _ _
    erased_direct erased_form erased_param erased_params erased_spec_node erased_suffix
    erased_declared_node erased_abstract erased_declarator erased_expr_node erased_member erased_type_word node

pub param-Named : (s : TypedSpec) (d : Declared) → param_tree (typed_param.Named s d) ≡ param.Named (erased_spec s) (erased_declared d)
param-Named s d = ap param_tree (sym (typed_param.rolls-Named s d)) ∙ param-made (TypedParam-F.Named s d)

pub param-Unnamed : (s : TypedSpec) (a : TypedAbstractDeclarator) (t : Ty) → param_tree (typed_param.Unnamed s a t) ≡ param.Unnamed (erased_spec s) (abstract_tree a)
param-Unnamed s a t = ap param_tree (sym (typed_param.rolls-Unnamed s a t)) ∙ param-made (TypedParam-F.Unnamed s a t)

-- ---- nodes with one form

pub declared-made : (d : TypedDeclarator) (t : Ty) → erased_declared (roll-Declared (record { declarator = d; ty = t }))
    ≡ declarator_tree d
unfolding direct_tree form_tree param_tree params_tree erased_spec suffix_tree erased_declared abstract_tree declarator_tree erased_expr member_tree type_word_tree
declared-made d t = fold-roll-Declared _ _ _ _ _ _ _ _ _ _ _ _
    erased_direct erased_form erased_param erased_params erased_spec_node erased_suffix
    erased_declared_node erased_abstract erased_declarator erased_expr_node erased_member erased_type_word
    (record { declarator = d; ty = t })

pub declarator-made : (n : ℕ) (d : TypedDirect) (ss : List TypedSuffix) → declarator_tree (roll-TypedDeclarator (record { stars = n; direct = d; suffixes = ss }))
    ≡ raw.declarator n (direct_tree d) (map suffix_tree ss)
unfolding direct_tree form_tree param_tree params_tree erased_spec suffix_tree erased_declared abstract_tree declarator_tree erased_expr member_tree type_word_tree
declarator-made n d ss = fold-roll-TypedDeclarator _ _ _ _ _ _ _ _ _ _ _ _
    erased_direct erased_form erased_param erased_params erased_spec_node erased_suffix
    erased_declared_node erased_abstract erased_declarator erased_expr_node erased_member erased_type_word
    (record { stars = n; direct = d; suffixes = ss })

pub abstract-bare : (n : ℕ) (ss : List TypedSuffix) → abstract_tree (roll-TypedAbstractDeclarator (record { stars = n; bracketed = None; suffixes = ss }))
    ≡ raw.abstract n None (map suffix_tree ss)
unfolding direct_tree form_tree param_tree params_tree erased_spec suffix_tree erased_declared abstract_tree declarator_tree erased_expr member_tree type_word_tree
abstract-bare n ss = fold-roll-TypedAbstractDeclarator _ _ _ _ _ _ _ _ _ _ _ _
    erased_direct erased_form erased_param erased_params erased_spec_node erased_suffix
    erased_declared_node erased_abstract erased_declarator erased_expr_node erased_member erased_type_word
    (record { stars = n; bracketed = None; suffixes = ss })

pub abstract-bracketed : (n : ℕ) (a : TypedAbstractDeclarator) (ss : List TypedSuffix) → abstract_tree (roll-TypedAbstractDeclarator (record { stars = n; bracketed = Some a; suffixes = ss }))
    ≡ raw.abstract n (Some (abstract_tree a)) (map suffix_tree ss)
unfolding direct_tree form_tree param_tree params_tree erased_spec suffix_tree erased_declared abstract_tree declarator_tree erased_expr member_tree type_word_tree
abstract-bracketed n a ss = fold-roll-TypedAbstractDeclarator _ _ _ _ _ _ _ _ _ _ _ _
    erased_direct erased_form erased_param erased_params erased_spec_node erased_suffix
    erased_declared_node erased_abstract erased_declarator erased_expr_node erased_member erased_type_word
    (record { stars = n; bracketed = Some a; suffixes = ss })

pub member-made : (s : TypedSpec) (ds : List Declared) → member_tree (roll-TypedMemberDecl (record { spec = s; declarators = ds }))
    ≡ raw.member_decl (erased_spec s) (map erased_declared ds)
unfolding direct_tree form_tree param_tree params_tree erased_spec suffix_tree erased_declared abstract_tree declarator_tree erased_expr member_tree type_word_tree
member-made s ds = fold-roll-TypedMemberDecl _ _ _ _ _ _ _ _ _ _ _ _
    erased_direct erased_form erased_param erased_params erased_spec_node erased_suffix
    erased_declared_node erased_abstract erased_declarator erased_expr_node erased_member erased_type_word
    (record { spec = s; declarators = ds })

pub type_word-made : (s : TypedSpec) (a : TypedAbstractDeclarator) (t : Ty) → type_word_tree (roll-TypedTypeWord (record { spec = s; declarator = a; ty = t }))
    ≡ raw.type_word (erased_spec s) (abstract_tree a)
unfolding direct_tree form_tree param_tree params_tree erased_spec suffix_tree erased_declared abstract_tree declarator_tree erased_expr member_tree type_word_tree
type_word-made s a t = fold-roll-TypedTypeWord _ _ _ _ _ _ _ _ _ _ _ _
    erased_direct erased_form erased_param erased_params erased_spec_node erased_suffix
    erased_declared_node erased_abstract erased_declarator erased_expr_node erased_member erased_type_word
    (record { spec = s; declarator = a; ty = t })
