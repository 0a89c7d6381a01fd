-- The walk of each tree finds types that pass: an induction over the ten types of trees.
use Rattle.c_tree.specs.declared.expression.Declarator.{Declarator}
use Rattle.c_tree.specs.declared.expression.Expr.{Expr}
use Rattle.c_tree.specs.declared.expression.Spec.{Spec}
use Rattle.c_typing_types.proofs.Claimed.{FindsDeclarator, FindsExpr, FindsSpec, claims}
use Rattle.c_typing_types.proofs.Expressions.{expr-goes}
use Rattle.c_typing_types.proofs.Good.{Good}
use Rattle.c_typing_types.proofs.Nodes.{Made, all-declarator, all-expr, all-spec}
use Rattle.c_typing_types.proofs.Parts.{abstract-goes, declarator-goes, direct-goes, member-goes, param-goes, params-goes, spec-goes, suffix-goes, type_word-goes}

module _ (g : Good) where
  made : Made (claims g)
  made = record {
    direct = direct-goes g;
    expr = expr-goes g;
    param = param-goes g;
    params = params-goes g;
    spec = spec-goes g;
    suffix = suffix-goes g;
    abstract = abstract-goes g;
    declarator = declarator-goes g;
    member = member-goes g;
    type_word = type_word-goes g;
  }

  pub expr-finds : (t : Expr) → FindsExpr g t
  expr-finds = all-expr (claims g) made

  pub spec-finds : (t : Spec) → FindsSpec g t
  spec-finds = all-spec (claims g) made

  pub declarator-finds : (t : Declarator) → FindsDeclarator g t
  declarator-finds = all-declarator (claims g) made
