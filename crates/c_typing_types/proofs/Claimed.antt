-- Of each type of tree: that its walk finds types that pass.
use Rattle.std.proofs.Common.{◌≡◌, ◌||◌, Bool, true, List}
use Rattle.c_types.specs.declared.structs.Member.{Member}
use Rattle.c_types.specs.declared.ty.Ty.{Ty}
use Rattle.c_layers.specs.declared.layer.Layer.{Layer}
use Rattle.c_layers.specs.declared.layer.Layer.TheVariants as layer
use Rattle.c_layers.specs.declared.layer.Parameter.{Parameter}
use Rattle.c_tree.specs.declared.expression.AbstractDeclarator.{AbstractDeclarator}
use Rattle.c_tree.specs.declared.expression.Declarator.{Declarator}
use Rattle.c_tree.specs.declared.expression.Direct.{Direct}
use Rattle.c_tree.specs.declared.expression.Expr.{Expr}
use Rattle.c_tree.specs.declared.expression.MemberDecl.{MemberDecl}
use Rattle.c_tree.specs.declared.expression.Param.{Param}
use Rattle.c_tree.specs.declared.expression.Params.{Params}
use Rattle.c_tree.specs.declared.expression.Spec.{Spec}
use Rattle.c_tree.specs.declared.expression.Suffix.{Suffix}
use Rattle.c_tree.specs.declared.expression.TypeWord.{TypeWord}
use Rattle.c_typed.specs.declared.expression.TypedAbstractDeclarator.{TypedAbstractDeclarator}
use Rattle.c_typed.specs.declared.expression.TypedDirect.{TypedDirect}
use Rattle.c_typed.specs.declared.expression.TypedMemberDecl.{TypedMemberDecl}
use Rattle.c_typed.specs.declared.expression.TypedParam.{TypedParam}
use Rattle.c_typed.specs.declared.expression.TypedParams.{TypedParams}
use Rattle.c_typed.specs.declared.expression.TypedSpec.{TypedSpec}
use Rattle.c_typed.specs.declared.expression.TypedSuffix.{TypedSuffix}
use Rattle.c_scope.specs.declared.world.World.{World}
use Rattle.c_scope.specs.BuiltIns.{Name}
use Rattle.c_rules.specs.declared.place.Place.{Place}
use Rattle.c_declarator_rules.specs.declared.declarators.LayeredDeclarator.{LayeredDeclarator}
use Rattle.c_expr_typing.specs.Trees.{walked}
use Rattle.c_typing_types.specs.Filled.{are_some, declares, spec_fills}
use Rattle.c_typed_rows.specs.Types.{SpecTypes}
use Rattle.c_typing_types.proofs.Good.{Fine, Good}
use Rattle.c_typing_types.proofs.Nodes.{Claims}
use Rattle.c_typing_types.proofs.Rules.{Ready, ReadyWord}
use Rattle.c_typing_types.proofs.Shaped.{LayerFine, LayersFine, ParameterFine}
use Rattle.c_typing_types.proofs.Steps.{Goes, MembersFine}
use Rattle.c_typing_types.proofs.TypedParts.{AbstractTypes, DeclaratorTypes, DirectTypes, MemberTypes, ParamTypes, ParamsTypes, SuffixTypes}

module _ (g : Good) where
  -- ---- what is found of each

  abbrev pub ReadyDirect : TypedDirect × Name × List Layer → Type 0
  ReadyDirect x = DirectTypes g.good x.0 × LayersFine g x.2

  abbrev pub ReadyParam : TypedParam × Parameter → Type 0
  ReadyParam x = ParamTypes g.good x.0 × ParameterFine g x.1

  abbrev pub ReadyParams : TypedParams × List Parameter → Type 0
  ReadyParams x = ParamsTypes g.good x.0 × LayerFine g (layer.Function x.1)

  abbrev pub ReadySpec : TypedSpec × Ty → Type 0
  ReadySpec x = SpecTypes g.good x.0 × Fine g x.1

  abbrev pub ReadySuffix : TypedSuffix × Layer → Type 0
  ReadySuffix x = SuffixTypes g.good x.0 × LayerFine g x.1

  abbrev pub ReadyAbstract : TypedAbstractDeclarator × List Layer → Type 0
  ReadyAbstract x = AbstractTypes g.good x.0 × LayersFine g x.1

  abbrev pub ReadyDeclarator : LayeredDeclarator → Type 0
  ReadyDeclarator x = DeclaratorTypes g.good x.tree × LayersFine g x.layers

  -- there is a member behind these where the line declares one, or where one stood before
  abbrev pub ReadyMember : Bool → List Member → TypedMemberDecl × List Member → Type 0
  ReadyMember some before x = MemberTypes g.good x.0 × MembersFine g x.1 × ((some || are_some before) ≡ true → are_some x.1 ≡ true)

  -- ---- what its walk does

  abbrev pub FindsDirect : Direct → Type 0
  FindsDirect t = (w : World) → Goes g (Unit {0}) w (walked.direct t w) ReadyDirect

  abbrev pub FindsExpr : Expr → Type 0
  FindsExpr t = (place : Place) (w : World) → Goes g (Unit {0}) w (walked.expr t place w) (Ready g)

  abbrev pub FindsParam : Param → Type 0
  FindsParam t = (w : World) → Goes g (Unit {0}) w (walked.param t w) ReadyParam

  abbrev pub FindsParams : Params → Type 0
  FindsParams t = (w : World) → Goes g (Unit {0}) w (walked.params t w) ReadyParams

  -- where a body may stand and something is asked, it isn't empty
  abbrev pub FindsSpec : Spec → Type 0
  FindsSpec t = (bodies : Bool) → (bodies ≡ true → (g.free || spec_fills t) ≡ true) → (w : World) → Goes g (Unit {0}) w (walked.spec t bodies w) ReadySpec

  abbrev pub FindsSuffix : Suffix → Type 0
  FindsSuffix t = (w : World) → Goes g (Unit {0}) w (walked.suffix t w) ReadySuffix

  abbrev pub FindsAbstract : AbstractDeclarator → Type 0
  FindsAbstract t = (w : World) → Goes g (Unit {0}) w (walked.abstract t w) ReadyAbstract

  abbrev pub FindsDeclarator : Declarator → Type 0
  FindsDeclarator t = (w : World) → Goes g (Unit {0}) w (walked.declarator t w) ReadyDeclarator

  -- behind members that pass
  abbrev pub FindsMember : MemberDecl → Type 0
  FindsMember t = (before : List Member) (w : World) → Goes g (MembersFine g before) w (walked.member t before w) (ReadyMember (declares t) before)

  abbrev pub FindsTypeWord : TypeWord → Type 0
  FindsTypeWord t = (w : World) → Goes g (Unit {0}) w (walked.type_word t w) (ReadyWord g)

  abbrev pub claims : Claims
  claims = record {
    direct = FindsDirect;
    expr = FindsExpr;
    param = FindsParam;
    params = FindsParams;
    spec = FindsSpec;
    suffix = FindsSuffix;
    abstract = FindsAbstract;
    declarator = FindsDeclarator;
    member = FindsMember;
    type_word = FindsTypeWord;
  }
