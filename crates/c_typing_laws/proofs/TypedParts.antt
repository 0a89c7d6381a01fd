-- Trees whose parts meet their rows meet theirs.
use Rattle.std.proofs.Common.{ℕ, ℤ, List, map, Some, None, refl, subst}
use Rattle.c_tree.specs.declared.operator.AssignOperator.{AssignOperator}
use Rattle.c_tree.specs.declared.operator.BinaryOperator.{BinaryOperator}
use Rattle.c_tree.specs.declared.operator.UnaryOperator.{UnaryOperator}
use Rattle.c_types.specs.declared.ty.Ty.{Ty}
use Rattle.c_typed.specs.declared.entity.Constant.{Constant}
use Rattle.c_typed.specs.declared.entity.Entity.{Entity}
use Rattle.c_typed.specs.declared.expression.TypedDirect.{TypedDirect, every_made-TypedDirect}
use Rattle.c_typed.specs.declared.expression.TypedForm.{TypedForm, every_made-TypedForm}
use Rattle.c_typed.specs.declared.expression.TypedParam.{every_made-TypedParam}
use Rattle.c_typed.specs.declared.expression.TypedParams.{TypedParams, every_made-TypedParams}
use Rattle.c_typed.specs.declared.expression.TypedSpec.{TypedSpec, every_made-TypedSpec}
use Rattle.c_typed.specs.declared.expression.TypedSuffix.{every_made-TypedSuffix}
use Rattle.c_typed.specs.declared.expression.Declared.{Declared, every_made-Declared, roll-Declared}
use Rattle.c_typed.specs.declared.expression.TypedAbstractDeclarator.{TypedAbstractDeclarator, every_made-TypedAbstractDeclarator, roll-TypedAbstractDeclarator}
use Rattle.c_typed.specs.declared.expression.TypedDeclarator.{TypedDeclarator, every_made-TypedDeclarator, roll-TypedDeclarator}
use Rattle.c_typed.specs.declared.expression.TypedExpr.{TypedExpr, every_made-TypedExpr}
use Rattle.c_typed.specs.declared.expression.TypedMemberDecl.{every_made-TypedMemberDecl, roll-TypedMemberDecl}
use Rattle.c_typed.specs.declared.expression.TypedTypeWord.{TypedTypeWord, every_made-TypedTypeWord, roll-TypedTypeWord}
use Rattle.c_typed.specs.declared.expression.TypedDirect.TheVariants as direct
use Rattle.c_typed.specs.declared.expression.TypedForm.TheVariants as form
use Rattle.c_typed.specs.declared.expression.TypedParam.TheVariants as param
use Rattle.c_typed.specs.declared.expression.TypedParams.TheVariants as params
use Rattle.c_typed.specs.declared.expression.TypedSpec.TheVariants as spec
use Rattle.c_typed.specs.declared.expression.TypedSuffix.TheVariants as suffix
use Rattle.c_typed.specs.declared.expression.TypedForm.{out-TypedForm}
use Rattle.c_typed.specs.declared.expression.TypedDirect.TheOpen.{TypedDirect-F, TypedForm-F, TypedParam-F, TypedParams-F, TypedSpec-F, TypedSuffix-F}
use Rattle.c_operators.specs.Operators.{typed}
use Rattle.c_typed_rows.specs.Contexts.{Context}
use Rattle.c_typed_rows.specs.Expressions.{ExprLevel, IsTypedDeclared, IsTypedExpr, IsTypedSpec, NodeLevel}
use Rattle.c_typing_laws.specs.inner.TypedTrees.{IsTypedAbstract, IsTypedDeclarator, IsTypedDirect, IsTypedForm, IsTypedMember, IsTypedParam, IsTypedParams, IsTypedSuffix, IsTypedTypeWord}

-- things with what holds of each
abbrev pub each_held : {A : Type 0} → (A → Type 0) → Type 0
each_held {A} Q = List ((x : A) × Q x)

module _ (k : Context) where
  pub form-Assign : (x : TypedExpr) (o : AssignOperator) (y : TypedExpr) → IsTypedExpr k x → IsTypedExpr k y → IsTypedForm k (form.Assign x o y)
  unfolding IsTypedDirect IsTypedForm IsTypedParam IsTypedParams IsTypedSpec IsTypedSuffix IsTypedDeclared IsTypedAbstract IsTypedDeclarator IsTypedExpr IsTypedMember IsTypedTypeWord
  form-Assign x o y hx hy = subst (IsTypedForm k) (form.rolls-Assign x o y) (every_made-TypedForm (λ _. Unit {0}) (λ _. Unit {0}) (λ _. Unit {0}) (λ _. Unit {0}) (λ _. Unit {0}) (λ _. Unit {0}) (λ _. Unit {0}) (λ _. Unit {0}) (λ _. Unit {0}) (NodeLevel k) (λ _. Unit {0}) (λ _. Unit {0}) (TypedForm-F.Assign x o y) (TypedForm-F.Assign (x, hx) o (y, hy)) refl tt)

  pub form-Conditional : (e : TypedExpr) (x : TypedExpr) (y : TypedExpr) → IsTypedExpr k e → IsTypedExpr k x → IsTypedExpr k y → IsTypedForm k (form.Conditional e x y)
  unfolding IsTypedDirect IsTypedForm IsTypedParam IsTypedParams IsTypedSpec IsTypedSuffix IsTypedDeclared IsTypedAbstract IsTypedDeclarator IsTypedExpr IsTypedMember IsTypedTypeWord
  form-Conditional e x y he hx hy = subst (IsTypedForm k) (form.rolls-Conditional e x y) (every_made-TypedForm (λ _. Unit {0}) (λ _. Unit {0}) (λ _. Unit {0}) (λ _. Unit {0}) (λ _. Unit {0}) (λ _. Unit {0}) (λ _. Unit {0}) (λ _. Unit {0}) (λ _. Unit {0}) (NodeLevel k) (λ _. Unit {0}) (λ _. Unit {0}) (TypedForm-F.Conditional e x y) (TypedForm-F.Conditional (e, he) (x, hx) (y, hy)) refl tt)

  pub form-Binary : (x : TypedExpr) (o : BinaryOperator) (y : TypedExpr) → IsTypedExpr k x → IsTypedExpr k y → IsTypedForm k (form.Binary x o y)
  unfolding IsTypedDirect IsTypedForm IsTypedParam IsTypedParams IsTypedSpec IsTypedSuffix IsTypedDeclared IsTypedAbstract IsTypedDeclarator IsTypedExpr IsTypedMember IsTypedTypeWord
  form-Binary x o y hx hy = subst (IsTypedForm k) (form.rolls-Binary x o y) (every_made-TypedForm (λ _. Unit {0}) (λ _. Unit {0}) (λ _. Unit {0}) (λ _. Unit {0}) (λ _. Unit {0}) (λ _. Unit {0}) (λ _. Unit {0}) (λ _. Unit {0}) (λ _. Unit {0}) (NodeLevel k) (λ _. Unit {0}) (λ _. Unit {0}) (TypedForm-F.Binary x o y) (TypedForm-F.Binary (x, hx) o (y, hy)) refl tt)

  pub form-Cast : (t : TypedTypeWord) (x : TypedExpr) → IsTypedTypeWord k t → IsTypedExpr k x → IsTypedForm k (form.Cast t x)
  unfolding IsTypedDirect IsTypedForm IsTypedParam IsTypedParams IsTypedSpec IsTypedSuffix IsTypedDeclared IsTypedAbstract IsTypedDeclarator IsTypedExpr IsTypedMember IsTypedTypeWord
  form-Cast t x ht hx = subst (IsTypedForm k) (form.rolls-Cast t x) (every_made-TypedForm (λ _. Unit {0}) (λ _. Unit {0}) (λ _. Unit {0}) (λ _. Unit {0}) (λ _. Unit {0}) (λ _. Unit {0}) (λ _. Unit {0}) (λ _. Unit {0}) (λ _. Unit {0}) (NodeLevel k) (λ _. Unit {0}) (λ _. Unit {0}) (TypedForm-F.Cast t x) (TypedForm-F.Cast (t, ht) (x, hx)) refl tt)

  pub form-PreIncrement : (x : TypedExpr) → IsTypedExpr k x → IsTypedForm k (form.PreIncrement x)
  unfolding IsTypedDirect IsTypedForm IsTypedParam IsTypedParams IsTypedSpec IsTypedSuffix IsTypedDeclared IsTypedAbstract IsTypedDeclarator IsTypedExpr IsTypedMember IsTypedTypeWord
  form-PreIncrement x hx = subst (IsTypedForm k) (form.rolls-PreIncrement x) (every_made-TypedForm (λ _. Unit {0}) (λ _. Unit {0}) (λ _. Unit {0}) (λ _. Unit {0}) (λ _. Unit {0}) (λ _. Unit {0}) (λ _. Unit {0}) (λ _. Unit {0}) (λ _. Unit {0}) (NodeLevel k) (λ _. Unit {0}) (λ _. Unit {0}) (TypedForm-F.PreIncrement x) (TypedForm-F.PreIncrement (x, hx)) refl tt)

  pub form-PreDecrement : (x : TypedExpr) → IsTypedExpr k x → IsTypedForm k (form.PreDecrement x)
  unfolding IsTypedDirect IsTypedForm IsTypedParam IsTypedParams IsTypedSpec IsTypedSuffix IsTypedDeclared IsTypedAbstract IsTypedDeclarator IsTypedExpr IsTypedMember IsTypedTypeWord
  form-PreDecrement x hx = subst (IsTypedForm k) (form.rolls-PreDecrement x) (every_made-TypedForm (λ _. Unit {0}) (λ _. Unit {0}) (λ _. Unit {0}) (λ _. Unit {0}) (λ _. Unit {0}) (λ _. Unit {0}) (λ _. Unit {0}) (λ _. Unit {0}) (λ _. Unit {0}) (NodeLevel k) (λ _. Unit {0}) (λ _. Unit {0}) (TypedForm-F.PreDecrement x) (TypedForm-F.PreDecrement (x, hx)) refl tt)

  pub form-Unary : (o : UnaryOperator) (x : TypedExpr) → IsTypedExpr k x → IsTypedForm k (form.Unary o x)
  unfolding IsTypedDirect IsTypedForm IsTypedParam IsTypedParams IsTypedSpec IsTypedSuffix IsTypedDeclared IsTypedAbstract IsTypedDeclarator IsTypedExpr IsTypedMember IsTypedTypeWord
  form-Unary o x hx = subst (IsTypedForm k) (form.rolls-Unary o x) (every_made-TypedForm (λ _. Unit {0}) (λ _. Unit {0}) (λ _. Unit {0}) (λ _. Unit {0}) (λ _. Unit {0}) (λ _. Unit {0}) (λ _. Unit {0}) (λ _. Unit {0}) (λ _. Unit {0}) (NodeLevel k) (λ _. Unit {0}) (λ _. Unit {0}) (TypedForm-F.Unary o x) (TypedForm-F.Unary o (x, hx)) refl tt)

  pub form-SizeofExpr : (x : TypedExpr) → IsTypedExpr k x → IsTypedForm k (form.SizeofExpr x)
  unfolding IsTypedDirect IsTypedForm IsTypedParam IsTypedParams IsTypedSpec IsTypedSuffix IsTypedDeclared IsTypedAbstract IsTypedDeclarator IsTypedExpr IsTypedMember IsTypedTypeWord
  form-SizeofExpr x hx = subst (IsTypedForm k) (form.rolls-SizeofExpr x) (every_made-TypedForm (λ _. Unit {0}) (λ _. Unit {0}) (λ _. Unit {0}) (λ _. Unit {0}) (λ _. Unit {0}) (λ _. Unit {0}) (λ _. Unit {0}) (λ _. Unit {0}) (λ _. Unit {0}) (NodeLevel k) (λ _. Unit {0}) (λ _. Unit {0}) (TypedForm-F.SizeofExpr x) (TypedForm-F.SizeofExpr (x, hx)) refl tt)

  pub form-SizeofType : (t : TypedTypeWord) → IsTypedTypeWord k t → IsTypedForm k (form.SizeofType t)
  unfolding IsTypedDirect IsTypedForm IsTypedParam IsTypedParams IsTypedSpec IsTypedSuffix IsTypedDeclared IsTypedAbstract IsTypedDeclarator IsTypedExpr IsTypedMember IsTypedTypeWord
  form-SizeofType t ht = subst (IsTypedForm k) (form.rolls-SizeofType t) (every_made-TypedForm (λ _. Unit {0}) (λ _. Unit {0}) (λ _. Unit {0}) (λ _. Unit {0}) (λ _. Unit {0}) (λ _. Unit {0}) (λ _. Unit {0}) (λ _. Unit {0}) (λ _. Unit {0}) (NodeLevel k) (λ _. Unit {0}) (λ _. Unit {0}) (TypedForm-F.SizeofType t) (TypedForm-F.SizeofType (t, ht)) refl tt)

  pub form-Index : (x : TypedExpr) (y : TypedExpr) → IsTypedExpr k x → IsTypedExpr k y → IsTypedForm k (form.Index x y)
  unfolding IsTypedDirect IsTypedForm IsTypedParam IsTypedParams IsTypedSpec IsTypedSuffix IsTypedDeclared IsTypedAbstract IsTypedDeclarator IsTypedExpr IsTypedMember IsTypedTypeWord
  form-Index x y hx hy = subst (IsTypedForm k) (form.rolls-Index x y) (every_made-TypedForm (λ _. Unit {0}) (λ _. Unit {0}) (λ _. Unit {0}) (λ _. Unit {0}) (λ _. Unit {0}) (λ _. Unit {0}) (λ _. Unit {0}) (λ _. Unit {0}) (λ _. Unit {0}) (NodeLevel k) (λ _. Unit {0}) (λ _. Unit {0}) (TypedForm-F.Index x y) (TypedForm-F.Index (x, hx) (y, hy)) refl tt)

  pub form-Member : (x : TypedExpr) (n : List ℕ) (m : ℕ) → IsTypedExpr k x → IsTypedForm k (form.Member x n m)
  unfolding IsTypedDirect IsTypedForm IsTypedParam IsTypedParams IsTypedSpec IsTypedSuffix IsTypedDeclared IsTypedAbstract IsTypedDeclarator IsTypedExpr IsTypedMember IsTypedTypeWord
  form-Member x n m hx = subst (IsTypedForm k) (form.rolls-Member x n m) (every_made-TypedForm (λ _. Unit {0}) (λ _. Unit {0}) (λ _. Unit {0}) (λ _. Unit {0}) (λ _. Unit {0}) (λ _. Unit {0}) (λ _. Unit {0}) (λ _. Unit {0}) (λ _. Unit {0}) (NodeLevel k) (λ _. Unit {0}) (λ _. Unit {0}) (TypedForm-F.Member x n m) (TypedForm-F.Member (x, hx) n m) refl tt)

  pub form-Arrow : (x : TypedExpr) (n : List ℕ) (m : ℕ) → IsTypedExpr k x → IsTypedForm k (form.Arrow x n m)
  unfolding IsTypedDirect IsTypedForm IsTypedParam IsTypedParams IsTypedSpec IsTypedSuffix IsTypedDeclared IsTypedAbstract IsTypedDeclarator IsTypedExpr IsTypedMember IsTypedTypeWord
  form-Arrow x n m hx = subst (IsTypedForm k) (form.rolls-Arrow x n m) (every_made-TypedForm (λ _. Unit {0}) (λ _. Unit {0}) (λ _. Unit {0}) (λ _. Unit {0}) (λ _. Unit {0}) (λ _. Unit {0}) (λ _. Unit {0}) (λ _. Unit {0}) (λ _. Unit {0}) (NodeLevel k) (λ _. Unit {0}) (λ _. Unit {0}) (TypedForm-F.Arrow x n m) (TypedForm-F.Arrow (x, hx) n m) refl tt)

  pub form-PostIncrement : (x : TypedExpr) → IsTypedExpr k x → IsTypedForm k (form.PostIncrement x)
  unfolding IsTypedDirect IsTypedForm IsTypedParam IsTypedParams IsTypedSpec IsTypedSuffix IsTypedDeclared IsTypedAbstract IsTypedDeclarator IsTypedExpr IsTypedMember IsTypedTypeWord
  form-PostIncrement x hx = subst (IsTypedForm k) (form.rolls-PostIncrement x) (every_made-TypedForm (λ _. Unit {0}) (λ _. Unit {0}) (λ _. Unit {0}) (λ _. Unit {0}) (λ _. Unit {0}) (λ _. Unit {0}) (λ _. Unit {0}) (λ _. Unit {0}) (λ _. Unit {0}) (NodeLevel k) (λ _. Unit {0}) (λ _. Unit {0}) (TypedForm-F.PostIncrement x) (TypedForm-F.PostIncrement (x, hx)) refl tt)

  pub form-PostDecrement : (x : TypedExpr) → IsTypedExpr k x → IsTypedForm k (form.PostDecrement x)
  unfolding IsTypedDirect IsTypedForm IsTypedParam IsTypedParams IsTypedSpec IsTypedSuffix IsTypedDeclared IsTypedAbstract IsTypedDeclarator IsTypedExpr IsTypedMember IsTypedTypeWord
  form-PostDecrement x hx = subst (IsTypedForm k) (form.rolls-PostDecrement x) (every_made-TypedForm (λ _. Unit {0}) (λ _. Unit {0}) (λ _. Unit {0}) (λ _. Unit {0}) (λ _. Unit {0}) (λ _. Unit {0}) (λ _. Unit {0}) (λ _. Unit {0}) (λ _. Unit {0}) (NodeLevel k) (λ _. Unit {0}) (λ _. Unit {0}) (TypedForm-F.PostDecrement x) (TypedForm-F.PostDecrement (x, hx)) refl tt)

  pub form-Identifier : (n : List ℕ) (e : Entity) → IsTypedForm k (form.Identifier n e)
  unfolding IsTypedDirect IsTypedForm IsTypedParam IsTypedParams IsTypedSpec IsTypedSuffix IsTypedDeclared IsTypedAbstract IsTypedDeclarator IsTypedExpr IsTypedMember IsTypedTypeWord
  form-Identifier n e = subst (IsTypedForm k) (form.rolls-Identifier n e) (every_made-TypedForm (λ _. Unit {0}) (λ _. Unit {0}) (λ _. Unit {0}) (λ _. Unit {0}) (λ _. Unit {0}) (λ _. Unit {0}) (λ _. Unit {0}) (λ _. Unit {0}) (λ _. Unit {0}) (NodeLevel k) (λ _. Unit {0}) (λ _. Unit {0}) (TypedForm-F.Identifier n e) (TypedForm-F.Identifier n e) refl tt)

  pub form-Number : (n : ℤ) → IsTypedForm k (form.Number n)
  unfolding IsTypedDirect IsTypedForm IsTypedParam IsTypedParams IsTypedSpec IsTypedSuffix IsTypedDeclared IsTypedAbstract IsTypedDeclarator IsTypedExpr IsTypedMember IsTypedTypeWord
  form-Number n = subst (IsTypedForm k) (form.rolls-Number n) (every_made-TypedForm (λ _. Unit {0}) (λ _. Unit {0}) (λ _. Unit {0}) (λ _. Unit {0}) (λ _. Unit {0}) (λ _. Unit {0}) (λ _. Unit {0}) (λ _. Unit {0}) (λ _. Unit {0}) (NodeLevel k) (λ _. Unit {0}) (λ _. Unit {0}) (TypedForm-F.Number n) (TypedForm-F.Number n) refl tt)

  pub form-Text : (bytes : List ℕ) (n : ℕ) → IsTypedForm k (form.Text bytes n)
  unfolding IsTypedDirect IsTypedForm IsTypedParam IsTypedParams IsTypedSpec IsTypedSuffix IsTypedDeclared IsTypedAbstract IsTypedDeclarator IsTypedExpr IsTypedMember IsTypedTypeWord
  form-Text bytes n = subst (IsTypedForm k) (form.rolls-Text bytes n) (every_made-TypedForm (λ _. Unit {0}) (λ _. Unit {0}) (λ _. Unit {0}) (λ _. Unit {0}) (λ _. Unit {0}) (λ _. Unit {0}) (λ _. Unit {0}) (λ _. Unit {0}) (λ _. Unit {0}) (NodeLevel k) (λ _. Unit {0}) (λ _. Unit {0}) (TypedForm-F.Text bytes n) (TypedForm-F.Text bytes n) refl tt)

  pub direct-Name : (n : List ℕ) → IsTypedDirect k (direct.Name n)
  unfolding IsTypedDirect IsTypedForm IsTypedParam IsTypedParams IsTypedSpec IsTypedSuffix IsTypedDeclared IsTypedAbstract IsTypedDeclarator IsTypedExpr IsTypedMember IsTypedTypeWord
  direct-Name n = subst (IsTypedDirect k) (direct.rolls-Name n) (every_made-TypedDirect (λ _. Unit {0}) (λ _. Unit {0}) (λ _. Unit {0}) (λ _. Unit {0}) (λ _. Unit {0}) (λ _. Unit {0}) (λ _. Unit {0}) (λ _. Unit {0}) (λ _. Unit {0}) (NodeLevel k) (λ _. Unit {0}) (λ _. Unit {0}) (TypedDirect-F.Name n) (TypedDirect-F.Name n) refl tt)

  pub direct-Bracketed : (d : TypedDeclarator) → IsTypedDeclarator k d → IsTypedDirect k (direct.Bracketed d)
  unfolding IsTypedDirect IsTypedForm IsTypedParam IsTypedParams IsTypedSpec IsTypedSuffix IsTypedDeclared IsTypedAbstract IsTypedDeclarator IsTypedExpr IsTypedMember IsTypedTypeWord
  direct-Bracketed d hd = subst (IsTypedDirect k) (direct.rolls-Bracketed d) (every_made-TypedDirect (λ _. Unit {0}) (λ _. Unit {0}) (λ _. Unit {0}) (λ _. Unit {0}) (λ _. Unit {0}) (λ _. Unit {0}) (λ _. Unit {0}) (λ _. Unit {0}) (λ _. Unit {0}) (NodeLevel k) (λ _. Unit {0}) (λ _. Unit {0}) (TypedDirect-F.Bracketed d) (TypedDirect-F.Bracketed (d, hd)) refl tt)

  pub param-Named : (s : TypedSpec) (d : Declared) → IsTypedSpec k s → IsTypedDeclared k d → IsTypedParam k (param.Named s d)
  unfolding IsTypedDirect IsTypedForm IsTypedParam IsTypedParams IsTypedSpec IsTypedSuffix IsTypedDeclared IsTypedAbstract IsTypedDeclarator IsTypedExpr IsTypedMember IsTypedTypeWord
  param-Named s d hs hd = subst (IsTypedParam k) (param.rolls-Named s d) (every_made-TypedParam (λ _. Unit {0}) (λ _. Unit {0}) (λ _. Unit {0}) (λ _. Unit {0}) (λ _. Unit {0}) (λ _. Unit {0}) (λ _. Unit {0}) (λ _. Unit {0}) (λ _. Unit {0}) (NodeLevel k) (λ _. Unit {0}) (λ _. Unit {0}) (TypedParam-F.Named s d) (TypedParam-F.Named (s, hs) (d, hd)) refl tt)

  pub param-Unnamed : (s : TypedSpec) (a : TypedAbstractDeclarator) (t : Ty) → IsTypedSpec k s → IsTypedAbstract k a → IsTypedParam k (param.Unnamed s a t)
  unfolding IsTypedDirect IsTypedForm IsTypedParam IsTypedParams IsTypedSpec IsTypedSuffix IsTypedDeclared IsTypedAbstract IsTypedDeclarator IsTypedExpr IsTypedMember IsTypedTypeWord
  param-Unnamed s a t hs ha = subst (IsTypedParam k) (param.rolls-Unnamed s a t) (every_made-TypedParam (λ _. Unit {0}) (λ _. Unit {0}) (λ _. Unit {0}) (λ _. Unit {0}) (λ _. Unit {0}) (λ _. Unit {0}) (λ _. Unit {0}) (λ _. Unit {0}) (λ _. Unit {0}) (NodeLevel k) (λ _. Unit {0}) (λ _. Unit {0}) (TypedParam-F.Unnamed s a t) (TypedParam-F.Unnamed (s, hs) (a, ha) t) refl tt)

  pub params-Nothing : IsTypedParams k params.Nothing
  unfolding IsTypedDirect IsTypedForm IsTypedParam IsTypedParams IsTypedSpec IsTypedSuffix IsTypedDeclared IsTypedAbstract IsTypedDeclarator IsTypedExpr IsTypedMember IsTypedTypeWord
  params-Nothing = subst (IsTypedParams k) params.rolls-Nothing (every_made-TypedParams (λ _. Unit {0}) (λ _. Unit {0}) (λ _. Unit {0}) (λ _. Unit {0}) (λ _. Unit {0}) (λ _. Unit {0}) (λ _. Unit {0}) (λ _. Unit {0}) (λ _. Unit {0}) (NodeLevel k) (λ _. Unit {0}) (λ _. Unit {0}) TypedParams-F.Nothing TypedParams-F.Nothing refl tt)

  pub params-VoidAlone : IsTypedParams k params.VoidAlone
  unfolding IsTypedDirect IsTypedForm IsTypedParam IsTypedParams IsTypedSpec IsTypedSuffix IsTypedDeclared IsTypedAbstract IsTypedDeclarator IsTypedExpr IsTypedMember IsTypedTypeWord
  params-VoidAlone = subst (IsTypedParams k) params.rolls-VoidAlone (every_made-TypedParams (λ _. Unit {0}) (λ _. Unit {0}) (λ _. Unit {0}) (λ _. Unit {0}) (λ _. Unit {0}) (λ _. Unit {0}) (λ _. Unit {0}) (λ _. Unit {0}) (λ _. Unit {0}) (NodeLevel k) (λ _. Unit {0}) (λ _. Unit {0}) TypedParams-F.VoidAlone TypedParams-F.VoidAlone refl tt)

  pub spec-Int : IsTypedSpec k spec.Int
  unfolding IsTypedDirect IsTypedForm IsTypedParam IsTypedParams IsTypedSpec IsTypedSuffix IsTypedDeclared IsTypedAbstract IsTypedDeclarator IsTypedExpr IsTypedMember IsTypedTypeWord
  spec-Int = subst (IsTypedSpec k) spec.rolls-Int (every_made-TypedSpec (λ _. Unit {0}) (λ _. Unit {0}) (λ _. Unit {0}) (λ _. Unit {0}) (λ _. Unit {0}) (λ _. Unit {0}) (λ _. Unit {0}) (λ _. Unit {0}) (λ _. Unit {0}) (NodeLevel k) (λ _. Unit {0}) (λ _. Unit {0}) TypedSpec-F.Int TypedSpec-F.Int refl tt)

  pub spec-Char : IsTypedSpec k spec.Char
  unfolding IsTypedDirect IsTypedForm IsTypedParam IsTypedParams IsTypedSpec IsTypedSuffix IsTypedDeclared IsTypedAbstract IsTypedDeclarator IsTypedExpr IsTypedMember IsTypedTypeWord
  spec-Char = subst (IsTypedSpec k) spec.rolls-Char (every_made-TypedSpec (λ _. Unit {0}) (λ _. Unit {0}) (λ _. Unit {0}) (λ _. Unit {0}) (λ _. Unit {0}) (λ _. Unit {0}) (λ _. Unit {0}) (λ _. Unit {0}) (λ _. Unit {0}) (NodeLevel k) (λ _. Unit {0}) (λ _. Unit {0}) TypedSpec-F.Char TypedSpec-F.Char refl tt)

  pub spec-Void : IsTypedSpec k spec.Void
  unfolding IsTypedDirect IsTypedForm IsTypedParam IsTypedParams IsTypedSpec IsTypedSuffix IsTypedDeclared IsTypedAbstract IsTypedDeclarator IsTypedExpr IsTypedMember IsTypedTypeWord
  spec-Void = subst (IsTypedSpec k) spec.rolls-Void (every_made-TypedSpec (λ _. Unit {0}) (λ _. Unit {0}) (λ _. Unit {0}) (λ _. Unit {0}) (λ _. Unit {0}) (λ _. Unit {0}) (λ _. Unit {0}) (λ _. Unit {0}) (λ _. Unit {0}) (NodeLevel k) (λ _. Unit {0}) (λ _. Unit {0}) TypedSpec-F.Void TypedSpec-F.Void refl tt)

  pub spec-TypeName : (n : List ℕ) → IsTypedSpec k (spec.TypeName n)
  unfolding IsTypedDirect IsTypedForm IsTypedParam IsTypedParams IsTypedSpec IsTypedSuffix IsTypedDeclared IsTypedAbstract IsTypedDeclarator IsTypedExpr IsTypedMember IsTypedTypeWord
  spec-TypeName n = subst (IsTypedSpec k) (spec.rolls-TypeName n) (every_made-TypedSpec (λ _. Unit {0}) (λ _. Unit {0}) (λ _. Unit {0}) (λ _. Unit {0}) (λ _. Unit {0}) (λ _. Unit {0}) (λ _. Unit {0}) (λ _. Unit {0}) (λ _. Unit {0}) (NodeLevel k) (λ _. Unit {0}) (λ _. Unit {0}) (TypedSpec-F.TypeName n) (TypedSpec-F.TypeName n) refl tt)

  pub suffix-Function : (p : TypedParams) → IsTypedParams k p → IsTypedSuffix k (suffix.Function p)
  unfolding IsTypedDirect IsTypedForm IsTypedParam IsTypedParams IsTypedSpec IsTypedSuffix IsTypedDeclared IsTypedAbstract IsTypedDeclarator IsTypedExpr IsTypedMember IsTypedTypeWord
  suffix-Function p hp = subst (IsTypedSuffix k) (suffix.rolls-Function p) (every_made-TypedSuffix (λ _. Unit {0}) (λ _. Unit {0}) (λ _. Unit {0}) (λ _. Unit {0}) (λ _. Unit {0}) (λ _. Unit {0}) (λ _. Unit {0}) (λ _. Unit {0}) (λ _. Unit {0}) (NodeLevel k) (λ _. Unit {0}) (λ _. Unit {0}) (TypedSuffix-F.Function p) (TypedSuffix-F.Function (p, hp)) refl tt)

  pub form-Call : (x : TypedExpr) → IsTypedExpr k x → (hs : each_held (IsTypedExpr k)) → IsTypedForm k (form.Call x (map (λ h. h.0) hs))
  unfolding IsTypedDirect IsTypedForm IsTypedParam IsTypedParams IsTypedSpec IsTypedSuffix IsTypedDeclared IsTypedAbstract IsTypedDeclarator IsTypedExpr IsTypedMember IsTypedTypeWord
  form-Call x hx hs = subst (IsTypedForm k) (form.rolls-Call x (map (λ h. h.0) hs)) (every_made-TypedForm (λ _. Unit {0}) (λ _. Unit {0}) (λ _. Unit {0}) (λ _. Unit {0}) (λ _. Unit {0}) (λ _. Unit {0}) (λ _. Unit {0}) (λ _. Unit {0}) (λ _. Unit {0}) (NodeLevel k) (λ _. Unit {0}) (λ _. Unit {0}) (TypedForm-F.Call x (map (λ h. h.0) hs)) (TypedForm-F.Call (x, hx) hs) refl tt)

  pub params-List : (hs : each_held (IsTypedParam k)) → IsTypedParams k (params.List (map (λ h. h.0) hs))
  unfolding IsTypedDirect IsTypedForm IsTypedParam IsTypedParams IsTypedSpec IsTypedSuffix IsTypedDeclared IsTypedAbstract IsTypedDeclarator IsTypedExpr IsTypedMember IsTypedTypeWord
  params-List hs = subst (IsTypedParams k) (params.rolls-List (map (λ h. h.0) hs)) (every_made-TypedParams (λ _. Unit {0}) (λ _. Unit {0}) (λ _. Unit {0}) (λ _. Unit {0}) (λ _. Unit {0}) (λ _. Unit {0}) (λ _. Unit {0}) (λ _. Unit {0}) (λ _. Unit {0}) (NodeLevel k) (λ _. Unit {0}) (λ _. Unit {0}) (TypedParams-F.List (map (λ h. h.0) hs)) (TypedParams-F.List hs) refl tt)

  pub spec-tag : (n : List ℕ) → IsTypedSpec k (spec.Struct n None)
  unfolding IsTypedDirect IsTypedForm IsTypedParam IsTypedParams IsTypedSpec IsTypedSuffix IsTypedDeclared IsTypedAbstract IsTypedDeclarator IsTypedExpr IsTypedMember IsTypedTypeWord
  spec-tag n = subst (IsTypedSpec k) (spec.rolls-Struct n None) (every_made-TypedSpec (λ _. Unit {0}) (λ _. Unit {0}) (λ _. Unit {0}) (λ _. Unit {0}) (λ _. Unit {0}) (λ _. Unit {0}) (λ _. Unit {0}) (λ _. Unit {0}) (λ _. Unit {0}) (NodeLevel k) (λ _. Unit {0}) (λ _. Unit {0}) (TypedSpec-F.Struct n None) (TypedSpec-F.Struct n None) refl tt)

  pub spec-body : (n : List ℕ) (hs : each_held (IsTypedMember k)) → IsTypedSpec k (spec.Struct n (Some (map (λ h. h.0) hs)))
  unfolding IsTypedDirect IsTypedForm IsTypedParam IsTypedParams IsTypedSpec IsTypedSuffix IsTypedDeclared IsTypedAbstract IsTypedDeclarator IsTypedExpr IsTypedMember IsTypedTypeWord
  spec-body n hs = subst (IsTypedSpec k) (spec.rolls-Struct n (Some (map (λ h. h.0) hs))) (every_made-TypedSpec (λ _. Unit {0}) (λ _. Unit {0}) (λ _. Unit {0}) (λ _. Unit {0}) (λ _. Unit {0}) (λ _. Unit {0}) (λ _. Unit {0}) (λ _. Unit {0}) (λ _. Unit {0}) (NodeLevel k) (λ _. Unit {0}) (λ _. Unit {0}) (TypedSpec-F.Struct n (Some (map (λ h. h.0) hs))) (TypedSpec-F.Struct n (Some hs)) refl tt)

  pub suffix-open : IsTypedSuffix k (suffix.Array None)
  unfolding IsTypedDirect IsTypedForm IsTypedParam IsTypedParams IsTypedSpec IsTypedSuffix IsTypedDeclared IsTypedAbstract IsTypedDeclarator IsTypedExpr IsTypedMember IsTypedTypeWord
  suffix-open = subst (IsTypedSuffix k) (suffix.rolls-Array None) (every_made-TypedSuffix (λ _. Unit {0}) (λ _. Unit {0}) (λ _. Unit {0}) (λ _. Unit {0}) (λ _. Unit {0}) (λ _. Unit {0}) (λ _. Unit {0}) (λ _. Unit {0}) (λ _. Unit {0}) (NodeLevel k) (λ _. Unit {0}) (λ _. Unit {0}) (TypedSuffix-F.Array None) (TypedSuffix-F.Array None) refl tt)

  pub suffix-bound : (x : TypedExpr) → IsTypedExpr k x → IsTypedSuffix k (suffix.Array (Some x))
  unfolding IsTypedDirect IsTypedForm IsTypedParam IsTypedParams IsTypedSpec IsTypedSuffix IsTypedDeclared IsTypedAbstract IsTypedDeclarator IsTypedExpr IsTypedMember IsTypedTypeWord
  suffix-bound x hx = subst (IsTypedSuffix k) (suffix.rolls-Array (Some x)) (every_made-TypedSuffix (λ _. Unit {0}) (λ _. Unit {0}) (λ _. Unit {0}) (λ _. Unit {0}) (λ _. Unit {0}) (λ _. Unit {0}) (λ _. Unit {0}) (λ _. Unit {0}) (λ _. Unit {0}) (NodeLevel k) (λ _. Unit {0}) (λ _. Unit {0}) (TypedSuffix-F.Array (Some x)) (TypedSuffix-F.Array (Some (x, hx))) refl tt)

  pub expr-made : (f : TypedForm) (t : Ty) (c : Constant) → IsTypedForm k f → ExprLevel k (out-TypedForm f) t c → IsTypedExpr k (typed f t c)
  unfolding IsTypedDirect IsTypedForm IsTypedParam IsTypedParams IsTypedSpec IsTypedSuffix IsTypedDeclared IsTypedAbstract IsTypedDeclarator IsTypedExpr IsTypedMember IsTypedTypeWord typed
  expr-made f t c hf level = every_made-TypedExpr (λ _. Unit {0}) (λ _. Unit {0}) (λ _. Unit {0}) (λ _. Unit {0}) (λ _. Unit {0}) (λ _. Unit {0}) (λ _. Unit {0}) (λ _. Unit {0}) (λ _. Unit {0}) (NodeLevel k) (λ _. Unit {0}) (λ _. Unit {0}) (record { form = f; ty = t; constant = c }) (record { form = (f, hf); ty = t; constant = c }) refl level

  pub declared-made : (d : TypedDeclarator) (t : Ty) → IsTypedDeclarator k d → IsTypedDeclared k (roll-Declared (record { declarator = d; ty = t }))
  unfolding IsTypedDirect IsTypedForm IsTypedParam IsTypedParams IsTypedSpec IsTypedSuffix IsTypedDeclared IsTypedAbstract IsTypedDeclarator IsTypedExpr IsTypedMember IsTypedTypeWord
  declared-made d t hd = every_made-Declared (λ _. Unit {0}) (λ _. Unit {0}) (λ _. Unit {0}) (λ _. Unit {0}) (λ _. Unit {0}) (λ _. Unit {0}) (λ _. Unit {0}) (λ _. Unit {0}) (λ _. Unit {0}) (NodeLevel k) (λ _. Unit {0}) (λ _. Unit {0}) (record { declarator = d; ty = t }) (record { declarator = (d, hd); ty = t }) refl tt

  pub declarator-made : (n : ℕ) (d : TypedDirect) → IsTypedDirect k d → (hs : each_held (IsTypedSuffix k)) → IsTypedDeclarator k (roll-TypedDeclarator (record { stars = n; direct = d; suffixes = map (λ h. h.0) hs }))
  unfolding IsTypedDirect IsTypedForm IsTypedParam IsTypedParams IsTypedSpec IsTypedSuffix IsTypedDeclared IsTypedAbstract IsTypedDeclarator IsTypedExpr IsTypedMember IsTypedTypeWord
  declarator-made n d hd hs = every_made-TypedDeclarator (λ _. Unit {0}) (λ _. Unit {0}) (λ _. Unit {0}) (λ _. Unit {0}) (λ _. Unit {0}) (λ _. Unit {0}) (λ _. Unit {0}) (λ _. Unit {0}) (λ _. Unit {0}) (NodeLevel k) (λ _. Unit {0}) (λ _. Unit {0}) (record { stars = n; direct = d; suffixes = map (λ h. h.0) hs }) (record { stars = n; direct = (d, hd); suffixes = hs }) refl tt

  pub abstract-bare : (n : ℕ) (hs : each_held (IsTypedSuffix k)) → IsTypedAbstract k (roll-TypedAbstractDeclarator (record { stars = n; bracketed = None; suffixes = map (λ h. h.0) hs }))
  unfolding IsTypedDirect IsTypedForm IsTypedParam IsTypedParams IsTypedSpec IsTypedSuffix IsTypedDeclared IsTypedAbstract IsTypedDeclarator IsTypedExpr IsTypedMember IsTypedTypeWord
  abstract-bare n hs = every_made-TypedAbstractDeclarator (λ _. Unit {0}) (λ _. Unit {0}) (λ _. Unit {0}) (λ _. Unit {0}) (λ _. Unit {0}) (λ _. Unit {0}) (λ _. Unit {0}) (λ _. Unit {0}) (λ _. Unit {0}) (NodeLevel k) (λ _. Unit {0}) (λ _. Unit {0}) (record { stars = n; bracketed = None; suffixes = map (λ h. h.0) hs }) (record { stars = n; bracketed = None; suffixes = hs }) refl tt

  pub abstract-bracketed : (n : ℕ) (a : TypedAbstractDeclarator) → IsTypedAbstract k a → (hs : each_held (IsTypedSuffix k)) → IsTypedAbstract k (roll-TypedAbstractDeclarator (record { stars = n; bracketed = Some a; suffixes = map (λ h. h.0) hs }))
  unfolding IsTypedDirect IsTypedForm IsTypedParam IsTypedParams IsTypedSpec IsTypedSuffix IsTypedDeclared IsTypedAbstract IsTypedDeclarator IsTypedExpr IsTypedMember IsTypedTypeWord
  abstract-bracketed n a ha hs = every_made-TypedAbstractDeclarator (λ _. Unit {0}) (λ _. Unit {0}) (λ _. Unit {0}) (λ _. Unit {0}) (λ _. Unit {0}) (λ _. Unit {0}) (λ _. Unit {0}) (λ _. Unit {0}) (λ _. Unit {0}) (NodeLevel k) (λ _. Unit {0}) (λ _. Unit {0}) (record { stars = n; bracketed = Some a; suffixes = map (λ h. h.0) hs }) (record { stars = n; bracketed = Some (a, ha); suffixes = hs }) refl tt

  pub member-made : (s : TypedSpec) → IsTypedSpec k s → (hs : each_held (IsTypedDeclared k)) → IsTypedMember k (roll-TypedMemberDecl (record { spec = s; declarators = map (λ h. h.0) hs }))
  unfolding IsTypedDirect IsTypedForm IsTypedParam IsTypedParams IsTypedSpec IsTypedSuffix IsTypedDeclared IsTypedAbstract IsTypedDeclarator IsTypedExpr IsTypedMember IsTypedTypeWord
  member-made s h hs = every_made-TypedMemberDecl (λ _. Unit {0}) (λ _. Unit {0}) (λ _. Unit {0}) (λ _. Unit {0}) (λ _. Unit {0}) (λ _. Unit {0}) (λ _. Unit {0}) (λ _. Unit {0}) (λ _. Unit {0}) (NodeLevel k) (λ _. Unit {0}) (λ _. Unit {0}) (record { spec = s; declarators = map (λ h. h.0) hs }) (record { spec = (s, h); declarators = hs }) refl tt

  pub type_word-made : (s : TypedSpec) (a : TypedAbstractDeclarator) (t : Ty) → IsTypedSpec k s → IsTypedAbstract k a → IsTypedTypeWord k (roll-TypedTypeWord (record { spec = s; declarator = a; ty = t }))
  unfolding IsTypedDirect IsTypedForm IsTypedParam IsTypedParams IsTypedSpec IsTypedSuffix IsTypedDeclared IsTypedAbstract IsTypedDeclarator IsTypedExpr IsTypedMember IsTypedTypeWord
  type_word-made s a t hs ha = every_made-TypedTypeWord (λ _. Unit {0}) (λ _. Unit {0}) (λ _. Unit {0}) (λ _. Unit {0}) (λ _. Unit {0}) (λ _. Unit {0}) (λ _. Unit {0}) (λ _. Unit {0}) (λ _. Unit {0}) (NodeLevel k) (λ _. Unit {0}) (λ _. Unit {0}) (record { spec = s; declarator = a; ty = t }) (record { spec = (s, hs); declarator = (a, ha); ty = t }) refl tt
