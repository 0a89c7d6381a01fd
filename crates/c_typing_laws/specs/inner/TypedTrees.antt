-- Trees whose every expression meets its row.
use Rattle.c_typed.specs.declared.expression.TypedAbstractDeclarator.{TypedAbstractDeclarator, every-TypedAbstractDeclarator}
use Rattle.c_typed.specs.declared.expression.TypedDeclarator.{TypedDeclarator, every-TypedDeclarator}
use Rattle.c_typed.specs.declared.expression.TypedDirect.{TypedDirect, every-TypedDirect}
use Rattle.c_typed.specs.declared.expression.TypedForm.{TypedForm, every-TypedForm}
use Rattle.c_typed.specs.declared.expression.TypedMemberDecl.{TypedMemberDecl, every-TypedMemberDecl}
use Rattle.c_typed.specs.declared.expression.TypedParam.{TypedParam, every-TypedParam}
use Rattle.c_typed.specs.declared.expression.TypedParams.{TypedParams, every-TypedParams}
use Rattle.c_typed.specs.declared.expression.TypedSuffix.{TypedSuffix, every-TypedSuffix}
use Rattle.c_typed.specs.declared.expression.TypedTypeWord.{TypedTypeWord, every-TypedTypeWord}
use Rattle.c_typed_rows.specs.Contexts.{Context}
use Rattle.c_typed_rows.specs.Expressions.{NodeLevel}

unfoldable pub IsTypedDirect : Context → TypedDirect → Type 0
IsTypedDirect k = every-TypedDirect (λ _. Unit {0}) (λ _. Unit {0}) (λ _. Unit {0}) (λ _. Unit {0}) (λ _. Unit {0}) (λ _. Unit {0})
    (λ _. Unit {0}) (λ _. Unit {0}) (λ _. Unit {0}) (NodeLevel k) (λ _. Unit {0}) (λ _. Unit {0})

unfoldable pub IsTypedForm : Context → TypedForm → Type 0
IsTypedForm k = every-TypedForm (λ _. Unit {0}) (λ _. Unit {0}) (λ _. Unit {0}) (λ _. Unit {0}) (λ _. Unit {0}) (λ _. Unit {0})
    (λ _. Unit {0}) (λ _. Unit {0}) (λ _. Unit {0}) (NodeLevel k) (λ _. Unit {0}) (λ _. Unit {0})

unfoldable pub IsTypedParam : Context → TypedParam → Type 0
IsTypedParam k = every-TypedParam (λ _. Unit {0}) (λ _. Unit {0}) (λ _. Unit {0}) (λ _. Unit {0}) (λ _. Unit {0}) (λ _. Unit {0})
    (λ _. Unit {0}) (λ _. Unit {0}) (λ _. Unit {0}) (NodeLevel k) (λ _. Unit {0}) (λ _. Unit {0})

unfoldable pub IsTypedParams : Context → TypedParams → Type 0
IsTypedParams k = every-TypedParams (λ _. Unit {0}) (λ _. Unit {0}) (λ _. Unit {0}) (λ _. Unit {0}) (λ _. Unit {0}) (λ _. Unit {0})
    (λ _. Unit {0}) (λ _. Unit {0}) (λ _. Unit {0}) (NodeLevel k) (λ _. Unit {0}) (λ _. Unit {0})

unfoldable pub IsTypedSuffix : Context → TypedSuffix → Type 0
IsTypedSuffix k = every-TypedSuffix (λ _. Unit {0}) (λ _. Unit {0}) (λ _. Unit {0}) (λ _. Unit {0}) (λ _. Unit {0}) (λ _. Unit {0})
    (λ _. Unit {0}) (λ _. Unit {0}) (λ _. Unit {0}) (NodeLevel k) (λ _. Unit {0}) (λ _. Unit {0})

unfoldable pub IsTypedAbstract : Context → TypedAbstractDeclarator → Type 0
IsTypedAbstract k = every-TypedAbstractDeclarator (λ _. Unit {0}) (λ _. Unit {0}) (λ _. Unit {0}) (λ _. Unit {0}) (λ _. Unit {0}) (λ _. Unit {0})
    (λ _. Unit {0}) (λ _. Unit {0}) (λ _. Unit {0}) (NodeLevel k) (λ _. Unit {0}) (λ _. Unit {0})

unfoldable pub IsTypedDeclarator : Context → TypedDeclarator → Type 0
IsTypedDeclarator k = every-TypedDeclarator (λ _. Unit {0}) (λ _. Unit {0}) (λ _. Unit {0}) (λ _. Unit {0}) (λ _. Unit {0}) (λ _. Unit {0})
    (λ _. Unit {0}) (λ _. Unit {0}) (λ _. Unit {0}) (NodeLevel k) (λ _. Unit {0}) (λ _. Unit {0})

unfoldable pub IsTypedMember : Context → TypedMemberDecl → Type 0
IsTypedMember k = every-TypedMemberDecl (λ _. Unit {0}) (λ _. Unit {0}) (λ _. Unit {0}) (λ _. Unit {0}) (λ _. Unit {0}) (λ _. Unit {0})
    (λ _. Unit {0}) (λ _. Unit {0}) (λ _. Unit {0}) (NodeLevel k) (λ _. Unit {0}) (λ _. Unit {0})

unfoldable pub IsTypedTypeWord : Context → TypedTypeWord → Type 0
IsTypedTypeWord k = every-TypedTypeWord (λ _. Unit {0}) (λ _. Unit {0}) (λ _. Unit {0}) (λ _. Unit {0}) (λ _. Unit {0}) (λ _. Unit {0})
    (λ _. Unit {0}) (λ _. Unit {0}) (λ _. Unit {0}) (NodeLevel k) (λ _. Unit {0}) (λ _. Unit {0})
