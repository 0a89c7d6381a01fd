-- Trees each of whose types passes are those whose parts are such.
use Rattle.std.proofs.Common.{ℕ, ℤ, Bool, IsTrue, List, [], ◌∷◌, map, Some, None, refl, ap, ◌≡◌, subst}
use Rattle.std.specs.List.{AllByRecursion}
use Rattle.c_tree.specs.declared.operator.AssignOperator.{AssignOperator}
use Rattle.c_tree.specs.declared.operator.BinaryOperator.{BinaryOperator}
use Rattle.c_tree.specs.declared.operator.UnaryOperator.{UnaryOperator}
use Rattle.c_types.specs.declared.ty.Ty.{Ty}
use Rattle.c_typed.specs.declared.entity.Constant.{Constant}
use Rattle.c_typed.specs.declared.entity.Entity.{Entity}
use Rattle.c_typed.specs.declared.expression.TypedDirect.{TypedDirect, every_made-TypedDirect, every-TypedDirect}
use Rattle.c_typed.specs.declared.expression.TypedForm.{TypedForm, every_made-TypedForm, every-TypedForm}
use Rattle.c_typed.specs.declared.expression.TypedParam.{every_made-TypedParam, TypedParam, every-TypedParam}
use Rattle.c_typed.specs.declared.expression.TypedParams.{TypedParams, every_made-TypedParams, every-TypedParams}
use Rattle.c_typed.specs.declared.expression.TypedSpec.{TypedSpec, every_made-TypedSpec}
use Rattle.c_typed.specs.declared.expression.TypedSuffix.{every_made-TypedSuffix, TypedSuffix, every-TypedSuffix}
use Rattle.c_typed.specs.declared.expression.Declared.{Declared, every_made-Declared, roll-Declared}
use Rattle.c_typed.specs.declared.expression.TypedAbstractDeclarator.{TypedAbstractDeclarator, every_made-TypedAbstractDeclarator, roll-TypedAbstractDeclarator, every-TypedAbstractDeclarator}
use Rattle.c_typed.specs.declared.expression.TypedDeclarator.{TypedDeclarator, every_made-TypedDeclarator, roll-TypedDeclarator, every-TypedDeclarator}
use Rattle.c_typed.specs.declared.expression.TypedExpr.{TypedExpr, every_made-TypedExpr}
use Rattle.c_typed.specs.declared.expression.TypedMemberDecl.{every_made-TypedMemberDecl, roll-TypedMemberDecl, TypedMemberDecl, every-TypedMemberDecl}
use Rattle.c_typed.specs.declared.expression.TypedTypeWord.{TypedTypeWord, every_made-TypedTypeWord, roll-TypedTypeWord, every-TypedTypeWord}
use Rattle.c_typed.specs.declared.expression.TypedDirect.TheVariants as direct
use Rattle.c_typed.specs.declared.expression.TypedForm.TheVariants as form
use Rattle.c_typed.specs.declared.expression.TypedParam.TheVariants as param
use Rattle.c_typed.specs.declared.expression.TypedParams.TheVariants as params
use Rattle.c_typed.specs.declared.expression.TypedSpec.TheVariants as spec
use Rattle.c_typed.specs.declared.expression.TypedSuffix.TheVariants as suffix
use Rattle.c_typed.specs.declared.expression.TypedDirect.TheOpen.{TypedDirect-F, TypedForm-F, TypedParam-F, TypedParams-F, TypedSpec-F, TypedSuffix-F}
use Rattle.c_operators.specs.Operators.{typed}
use Rattle.c_typed_rows.specs.Types.{DeclaredLevel, DeclaredTypes, ExprLevel, ExprTypes, ParamLevel, SpecTypes, TypeWordLevel}

module _ (fits : Ty → Bool) where
  pub DirectTypes : TypedDirect → Type 0
  DirectTypes = every-TypedDirect (λ _. Unit {0}) (λ _. Unit {0}) (ParamLevel fits) (λ _. Unit {0}) (λ _. Unit {0}) (λ _. Unit {0}) (DeclaredLevel fits) (λ _. Unit {0}) (λ _. Unit {0}) (ExprLevel fits) (λ _. Unit {0}) (TypeWordLevel fits)

  pub FormTypes : TypedForm → Type 0
  FormTypes = every-TypedForm (λ _. Unit {0}) (λ _. Unit {0}) (ParamLevel fits) (λ _. Unit {0}) (λ _. Unit {0}) (λ _. Unit {0}) (DeclaredLevel fits) (λ _. Unit {0}) (λ _. Unit {0}) (ExprLevel fits) (λ _. Unit {0}) (TypeWordLevel fits)

  pub ParamTypes : TypedParam → Type 0
  ParamTypes = every-TypedParam (λ _. Unit {0}) (λ _. Unit {0}) (ParamLevel fits) (λ _. Unit {0}) (λ _. Unit {0}) (λ _. Unit {0}) (DeclaredLevel fits) (λ _. Unit {0}) (λ _. Unit {0}) (ExprLevel fits) (λ _. Unit {0}) (TypeWordLevel fits)

  pub ParamsTypes : TypedParams → Type 0
  ParamsTypes = every-TypedParams (λ _. Unit {0}) (λ _. Unit {0}) (ParamLevel fits) (λ _. Unit {0}) (λ _. Unit {0}) (λ _. Unit {0}) (DeclaredLevel fits) (λ _. Unit {0}) (λ _. Unit {0}) (ExprLevel fits) (λ _. Unit {0}) (TypeWordLevel fits)

  pub SuffixTypes : TypedSuffix → Type 0
  SuffixTypes = every-TypedSuffix (λ _. Unit {0}) (λ _. Unit {0}) (ParamLevel fits) (λ _. Unit {0}) (λ _. Unit {0}) (λ _. Unit {0}) (DeclaredLevel fits) (λ _. Unit {0}) (λ _. Unit {0}) (ExprLevel fits) (λ _. Unit {0}) (TypeWordLevel fits)

  pub AbstractTypes : TypedAbstractDeclarator → Type 0
  AbstractTypes = every-TypedAbstractDeclarator (λ _. Unit {0}) (λ _. Unit {0}) (ParamLevel fits) (λ _. Unit {0}) (λ _. Unit {0}) (λ _. Unit {0}) (DeclaredLevel fits) (λ _. Unit {0}) (λ _. Unit {0}) (ExprLevel fits) (λ _. Unit {0}) (TypeWordLevel fits)

  pub DeclaratorTypes : TypedDeclarator → Type 0
  DeclaratorTypes = every-TypedDeclarator (λ _. Unit {0}) (λ _. Unit {0}) (ParamLevel fits) (λ _. Unit {0}) (λ _. Unit {0}) (λ _. Unit {0}) (DeclaredLevel fits) (λ _. Unit {0}) (λ _. Unit {0}) (ExprLevel fits) (λ _. Unit {0}) (TypeWordLevel fits)

  pub MemberTypes : TypedMemberDecl → Type 0
  MemberTypes = every-TypedMemberDecl (λ _. Unit {0}) (λ _. Unit {0}) (ParamLevel fits) (λ _. Unit {0}) (λ _. Unit {0}) (λ _. Unit {0}) (DeclaredLevel fits) (λ _. Unit {0}) (λ _. Unit {0}) (ExprLevel fits) (λ _. Unit {0}) (TypeWordLevel fits)

  pub WordTypes : TypedTypeWord → Type 0
  WordTypes = every-TypedTypeWord (λ _. Unit {0}) (λ _. Unit {0}) (ParamLevel fits) (λ _. Unit {0}) (λ _. Unit {0}) (λ _. Unit {0}) (DeclaredLevel fits) (λ _. Unit {0}) (λ _. Unit {0}) (ExprLevel fits) (λ _. Unit {0}) (TypeWordLevel fits)

-- things with what holds of each
abbrev pub each_held : {A : Type 0} → (A → Type 0) → Type 0
each_held {A} Q = List ((x : A) × Q x)

module _ (fits : Ty → Bool) where
  pub form-Assign : (x : TypedExpr) (o : AssignOperator) (y : TypedExpr) → ExprTypes fits x → ExprTypes fits y → FormTypes fits (form.Assign x o y)
  unfolding DirectTypes FormTypes ParamTypes ParamsTypes SpecTypes SuffixTypes DeclaredTypes AbstractTypes DeclaratorTypes ExprTypes MemberTypes WordTypes
  form-Assign x o y hx hy = subst (FormTypes fits) (form.rolls-Assign x o y) (every_made-TypedForm (λ _. Unit {0}) (λ _. Unit {0}) (ParamLevel fits) (λ _. Unit {0}) (λ _. Unit {0}) (λ _. Unit {0}) (DeclaredLevel fits) (λ _. Unit {0}) (λ _. Unit {0}) (ExprLevel fits) (λ _. Unit {0}) (TypeWordLevel fits) (TypedForm-F.Assign x o y) (TypedForm-F.Assign (x, hx) o (y, hy)) refl tt)

  pub form-Conditional : (e : TypedExpr) (x : TypedExpr) (y : TypedExpr) → ExprTypes fits e → ExprTypes fits x → ExprTypes fits y → FormTypes fits (form.Conditional e x y)
  unfolding DirectTypes FormTypes ParamTypes ParamsTypes SpecTypes SuffixTypes DeclaredTypes AbstractTypes DeclaratorTypes ExprTypes MemberTypes WordTypes
  form-Conditional e x y he hx hy = subst (FormTypes fits) (form.rolls-Conditional e x y) (every_made-TypedForm (λ _. Unit {0}) (λ _. Unit {0}) (ParamLevel fits) (λ _. Unit {0}) (λ _. Unit {0}) (λ _. Unit {0}) (DeclaredLevel fits) (λ _. Unit {0}) (λ _. Unit {0}) (ExprLevel fits) (λ _. Unit {0}) (TypeWordLevel fits) (TypedForm-F.Conditional e x y) (TypedForm-F.Conditional (e, he) (x, hx) (y, hy)) refl tt)

  pub form-Binary : (x : TypedExpr) (o : BinaryOperator) (y : TypedExpr) → ExprTypes fits x → ExprTypes fits y → FormTypes fits (form.Binary x o y)
  unfolding DirectTypes FormTypes ParamTypes ParamsTypes SpecTypes SuffixTypes DeclaredTypes AbstractTypes DeclaratorTypes ExprTypes MemberTypes WordTypes
  form-Binary x o y hx hy = subst (FormTypes fits) (form.rolls-Binary x o y) (every_made-TypedForm (λ _. Unit {0}) (λ _. Unit {0}) (ParamLevel fits) (λ _. Unit {0}) (λ _. Unit {0}) (λ _. Unit {0}) (DeclaredLevel fits) (λ _. Unit {0}) (λ _. Unit {0}) (ExprLevel fits) (λ _. Unit {0}) (TypeWordLevel fits) (TypedForm-F.Binary x o y) (TypedForm-F.Binary (x, hx) o (y, hy)) refl tt)

  pub form-Cast : (t : TypedTypeWord) (x : TypedExpr) → WordTypes fits t → ExprTypes fits x → FormTypes fits (form.Cast t x)
  unfolding DirectTypes FormTypes ParamTypes ParamsTypes SpecTypes SuffixTypes DeclaredTypes AbstractTypes DeclaratorTypes ExprTypes MemberTypes WordTypes
  form-Cast t x ht hx = subst (FormTypes fits) (form.rolls-Cast t x) (every_made-TypedForm (λ _. Unit {0}) (λ _. Unit {0}) (ParamLevel fits) (λ _. Unit {0}) (λ _. Unit {0}) (λ _. Unit {0}) (DeclaredLevel fits) (λ _. Unit {0}) (λ _. Unit {0}) (ExprLevel fits) (λ _. Unit {0}) (TypeWordLevel fits) (TypedForm-F.Cast t x) (TypedForm-F.Cast (t, ht) (x, hx)) refl tt)

  pub form-PreIncrement : (x : TypedExpr) → ExprTypes fits x → FormTypes fits (form.PreIncrement x)
  unfolding DirectTypes FormTypes ParamTypes ParamsTypes SpecTypes SuffixTypes DeclaredTypes AbstractTypes DeclaratorTypes ExprTypes MemberTypes WordTypes
  form-PreIncrement x hx = subst (FormTypes fits) (form.rolls-PreIncrement x) (every_made-TypedForm (λ _. Unit {0}) (λ _. Unit {0}) (ParamLevel fits) (λ _. Unit {0}) (λ _. Unit {0}) (λ _. Unit {0}) (DeclaredLevel fits) (λ _. Unit {0}) (λ _. Unit {0}) (ExprLevel fits) (λ _. Unit {0}) (TypeWordLevel fits) (TypedForm-F.PreIncrement x) (TypedForm-F.PreIncrement (x, hx)) refl tt)

  pub form-PreDecrement : (x : TypedExpr) → ExprTypes fits x → FormTypes fits (form.PreDecrement x)
  unfolding DirectTypes FormTypes ParamTypes ParamsTypes SpecTypes SuffixTypes DeclaredTypes AbstractTypes DeclaratorTypes ExprTypes MemberTypes WordTypes
  form-PreDecrement x hx = subst (FormTypes fits) (form.rolls-PreDecrement x) (every_made-TypedForm (λ _. Unit {0}) (λ _. Unit {0}) (ParamLevel fits) (λ _. Unit {0}) (λ _. Unit {0}) (λ _. Unit {0}) (DeclaredLevel fits) (λ _. Unit {0}) (λ _. Unit {0}) (ExprLevel fits) (λ _. Unit {0}) (TypeWordLevel fits) (TypedForm-F.PreDecrement x) (TypedForm-F.PreDecrement (x, hx)) refl tt)

  pub form-Unary : (o : UnaryOperator) (x : TypedExpr) → ExprTypes fits x → FormTypes fits (form.Unary o x)
  unfolding DirectTypes FormTypes ParamTypes ParamsTypes SpecTypes SuffixTypes DeclaredTypes AbstractTypes DeclaratorTypes ExprTypes MemberTypes WordTypes
  form-Unary o x hx = subst (FormTypes fits) (form.rolls-Unary o x) (every_made-TypedForm (λ _. Unit {0}) (λ _. Unit {0}) (ParamLevel fits) (λ _. Unit {0}) (λ _. Unit {0}) (λ _. Unit {0}) (DeclaredLevel fits) (λ _. Unit {0}) (λ _. Unit {0}) (ExprLevel fits) (λ _. Unit {0}) (TypeWordLevel fits) (TypedForm-F.Unary o x) (TypedForm-F.Unary o (x, hx)) refl tt)

  pub form-SizeofExpr : (x : TypedExpr) → ExprTypes fits x → FormTypes fits (form.SizeofExpr x)
  unfolding DirectTypes FormTypes ParamTypes ParamsTypes SpecTypes SuffixTypes DeclaredTypes AbstractTypes DeclaratorTypes ExprTypes MemberTypes WordTypes
  form-SizeofExpr x hx = subst (FormTypes fits) (form.rolls-SizeofExpr x) (every_made-TypedForm (λ _. Unit {0}) (λ _. Unit {0}) (ParamLevel fits) (λ _. Unit {0}) (λ _. Unit {0}) (λ _. Unit {0}) (DeclaredLevel fits) (λ _. Unit {0}) (λ _. Unit {0}) (ExprLevel fits) (λ _. Unit {0}) (TypeWordLevel fits) (TypedForm-F.SizeofExpr x) (TypedForm-F.SizeofExpr (x, hx)) refl tt)

  pub form-SizeofType : (t : TypedTypeWord) → WordTypes fits t → FormTypes fits (form.SizeofType t)
  unfolding DirectTypes FormTypes ParamTypes ParamsTypes SpecTypes SuffixTypes DeclaredTypes AbstractTypes DeclaratorTypes ExprTypes MemberTypes WordTypes
  form-SizeofType t ht = subst (FormTypes fits) (form.rolls-SizeofType t) (every_made-TypedForm (λ _. Unit {0}) (λ _. Unit {0}) (ParamLevel fits) (λ _. Unit {0}) (λ _. Unit {0}) (λ _. Unit {0}) (DeclaredLevel fits) (λ _. Unit {0}) (λ _. Unit {0}) (ExprLevel fits) (λ _. Unit {0}) (TypeWordLevel fits) (TypedForm-F.SizeofType t) (TypedForm-F.SizeofType (t, ht)) refl tt)

  pub form-Index : (x : TypedExpr) (y : TypedExpr) → ExprTypes fits x → ExprTypes fits y → FormTypes fits (form.Index x y)
  unfolding DirectTypes FormTypes ParamTypes ParamsTypes SpecTypes SuffixTypes DeclaredTypes AbstractTypes DeclaratorTypes ExprTypes MemberTypes WordTypes
  form-Index x y hx hy = subst (FormTypes fits) (form.rolls-Index x y) (every_made-TypedForm (λ _. Unit {0}) (λ _. Unit {0}) (ParamLevel fits) (λ _. Unit {0}) (λ _. Unit {0}) (λ _. Unit {0}) (DeclaredLevel fits) (λ _. Unit {0}) (λ _. Unit {0}) (ExprLevel fits) (λ _. Unit {0}) (TypeWordLevel fits) (TypedForm-F.Index x y) (TypedForm-F.Index (x, hx) (y, hy)) refl tt)

  pub form-Member : (x : TypedExpr) (n : List ℕ) (m : ℕ) → ExprTypes fits x → FormTypes fits (form.Member x n m)
  unfolding DirectTypes FormTypes ParamTypes ParamsTypes SpecTypes SuffixTypes DeclaredTypes AbstractTypes DeclaratorTypes ExprTypes MemberTypes WordTypes
  form-Member x n m hx = subst (FormTypes fits) (form.rolls-Member x n m) (every_made-TypedForm (λ _. Unit {0}) (λ _. Unit {0}) (ParamLevel fits) (λ _. Unit {0}) (λ _. Unit {0}) (λ _. Unit {0}) (DeclaredLevel fits) (λ _. Unit {0}) (λ _. Unit {0}) (ExprLevel fits) (λ _. Unit {0}) (TypeWordLevel fits) (TypedForm-F.Member x n m) (TypedForm-F.Member (x, hx) n m) refl tt)

  pub form-Arrow : (x : TypedExpr) (n : List ℕ) (m : ℕ) → ExprTypes fits x → FormTypes fits (form.Arrow x n m)
  unfolding DirectTypes FormTypes ParamTypes ParamsTypes SpecTypes SuffixTypes DeclaredTypes AbstractTypes DeclaratorTypes ExprTypes MemberTypes WordTypes
  form-Arrow x n m hx = subst (FormTypes fits) (form.rolls-Arrow x n m) (every_made-TypedForm (λ _. Unit {0}) (λ _. Unit {0}) (ParamLevel fits) (λ _. Unit {0}) (λ _. Unit {0}) (λ _. Unit {0}) (DeclaredLevel fits) (λ _. Unit {0}) (λ _. Unit {0}) (ExprLevel fits) (λ _. Unit {0}) (TypeWordLevel fits) (TypedForm-F.Arrow x n m) (TypedForm-F.Arrow (x, hx) n m) refl tt)

  pub form-PostIncrement : (x : TypedExpr) → ExprTypes fits x → FormTypes fits (form.PostIncrement x)
  unfolding DirectTypes FormTypes ParamTypes ParamsTypes SpecTypes SuffixTypes DeclaredTypes AbstractTypes DeclaratorTypes ExprTypes MemberTypes WordTypes
  form-PostIncrement x hx = subst (FormTypes fits) (form.rolls-PostIncrement x) (every_made-TypedForm (λ _. Unit {0}) (λ _. Unit {0}) (ParamLevel fits) (λ _. Unit {0}) (λ _. Unit {0}) (λ _. Unit {0}) (DeclaredLevel fits) (λ _. Unit {0}) (λ _. Unit {0}) (ExprLevel fits) (λ _. Unit {0}) (TypeWordLevel fits) (TypedForm-F.PostIncrement x) (TypedForm-F.PostIncrement (x, hx)) refl tt)

  pub form-PostDecrement : (x : TypedExpr) → ExprTypes fits x → FormTypes fits (form.PostDecrement x)
  unfolding DirectTypes FormTypes ParamTypes ParamsTypes SpecTypes SuffixTypes DeclaredTypes AbstractTypes DeclaratorTypes ExprTypes MemberTypes WordTypes
  form-PostDecrement x hx = subst (FormTypes fits) (form.rolls-PostDecrement x) (every_made-TypedForm (λ _. Unit {0}) (λ _. Unit {0}) (ParamLevel fits) (λ _. Unit {0}) (λ _. Unit {0}) (λ _. Unit {0}) (DeclaredLevel fits) (λ _. Unit {0}) (λ _. Unit {0}) (ExprLevel fits) (λ _. Unit {0}) (TypeWordLevel fits) (TypedForm-F.PostDecrement x) (TypedForm-F.PostDecrement (x, hx)) refl tt)

  pub form-Identifier : (n : List ℕ) (e : Entity) → FormTypes fits (form.Identifier n e)
  unfolding DirectTypes FormTypes ParamTypes ParamsTypes SpecTypes SuffixTypes DeclaredTypes AbstractTypes DeclaratorTypes ExprTypes MemberTypes WordTypes
  form-Identifier n e = subst (FormTypes fits) (form.rolls-Identifier n e) (every_made-TypedForm (λ _. Unit {0}) (λ _. Unit {0}) (ParamLevel fits) (λ _. Unit {0}) (λ _. Unit {0}) (λ _. Unit {0}) (DeclaredLevel fits) (λ _. Unit {0}) (λ _. Unit {0}) (ExprLevel fits) (λ _. Unit {0}) (TypeWordLevel fits) (TypedForm-F.Identifier n e) (TypedForm-F.Identifier n e) refl tt)

  pub form-Number : (n : ℤ) → FormTypes fits (form.Number n)
  unfolding DirectTypes FormTypes ParamTypes ParamsTypes SpecTypes SuffixTypes DeclaredTypes AbstractTypes DeclaratorTypes ExprTypes MemberTypes WordTypes
  form-Number n = subst (FormTypes fits) (form.rolls-Number n) (every_made-TypedForm (λ _. Unit {0}) (λ _. Unit {0}) (ParamLevel fits) (λ _. Unit {0}) (λ _. Unit {0}) (λ _. Unit {0}) (DeclaredLevel fits) (λ _. Unit {0}) (λ _. Unit {0}) (ExprLevel fits) (λ _. Unit {0}) (TypeWordLevel fits) (TypedForm-F.Number n) (TypedForm-F.Number n) refl tt)

  pub form-Text : (bytes : List ℕ) (n : ℕ) → FormTypes fits (form.Text bytes n)
  unfolding DirectTypes FormTypes ParamTypes ParamsTypes SpecTypes SuffixTypes DeclaredTypes AbstractTypes DeclaratorTypes ExprTypes MemberTypes WordTypes
  form-Text bytes n = subst (FormTypes fits) (form.rolls-Text bytes n) (every_made-TypedForm (λ _. Unit {0}) (λ _. Unit {0}) (ParamLevel fits) (λ _. Unit {0}) (λ _. Unit {0}) (λ _. Unit {0}) (DeclaredLevel fits) (λ _. Unit {0}) (λ _. Unit {0}) (ExprLevel fits) (λ _. Unit {0}) (TypeWordLevel fits) (TypedForm-F.Text bytes n) (TypedForm-F.Text bytes n) refl tt)

  pub direct-Name : (n : List ℕ) → DirectTypes fits (direct.Name n)
  unfolding DirectTypes FormTypes ParamTypes ParamsTypes SpecTypes SuffixTypes DeclaredTypes AbstractTypes DeclaratorTypes ExprTypes MemberTypes WordTypes
  direct-Name n = subst (DirectTypes fits) (direct.rolls-Name n) (every_made-TypedDirect (λ _. Unit {0}) (λ _. Unit {0}) (ParamLevel fits) (λ _. Unit {0}) (λ _. Unit {0}) (λ _. Unit {0}) (DeclaredLevel fits) (λ _. Unit {0}) (λ _. Unit {0}) (ExprLevel fits) (λ _. Unit {0}) (TypeWordLevel fits) (TypedDirect-F.Name n) (TypedDirect-F.Name n) refl tt)

  pub direct-Bracketed : (d : TypedDeclarator) → DeclaratorTypes fits d → DirectTypes fits (direct.Bracketed d)
  unfolding DirectTypes FormTypes ParamTypes ParamsTypes SpecTypes SuffixTypes DeclaredTypes AbstractTypes DeclaratorTypes ExprTypes MemberTypes WordTypes
  direct-Bracketed d hd = subst (DirectTypes fits) (direct.rolls-Bracketed d) (every_made-TypedDirect (λ _. Unit {0}) (λ _. Unit {0}) (ParamLevel fits) (λ _. Unit {0}) (λ _. Unit {0}) (λ _. Unit {0}) (DeclaredLevel fits) (λ _. Unit {0}) (λ _. Unit {0}) (ExprLevel fits) (λ _. Unit {0}) (TypeWordLevel fits) (TypedDirect-F.Bracketed d) (TypedDirect-F.Bracketed (d, hd)) refl tt)

  pub param-Named : (s : TypedSpec) (d : Declared) → SpecTypes fits s → DeclaredTypes fits d → ParamTypes fits (param.Named s d)
  unfolding DirectTypes FormTypes ParamTypes ParamsTypes SpecTypes SuffixTypes DeclaredTypes AbstractTypes DeclaratorTypes ExprTypes MemberTypes WordTypes
  param-Named s d hs hd = subst (ParamTypes fits) (param.rolls-Named s d) (every_made-TypedParam (λ _. Unit {0}) (λ _. Unit {0}) (ParamLevel fits) (λ _. Unit {0}) (λ _. Unit {0}) (λ _. Unit {0}) (DeclaredLevel fits) (λ _. Unit {0}) (λ _. Unit {0}) (ExprLevel fits) (λ _. Unit {0}) (TypeWordLevel fits) (TypedParam-F.Named s d) (TypedParam-F.Named (s, hs) (d, hd)) refl tt)

  pub param-Unnamed : (s : TypedSpec) (a : TypedAbstractDeclarator) (t : Ty) → SpecTypes fits s → AbstractTypes fits a → IsTrue (fits t) → ParamTypes fits (param.Unnamed s a t)
  unfolding DirectTypes FormTypes ParamTypes ParamsTypes SpecTypes SuffixTypes DeclaredTypes AbstractTypes DeclaratorTypes ExprTypes MemberTypes WordTypes
  param-Unnamed s a t hs ha ht = subst (ParamTypes fits) (param.rolls-Unnamed s a t) (every_made-TypedParam (λ _. Unit {0}) (λ _. Unit {0}) (ParamLevel fits) (λ _. Unit {0}) (λ _. Unit {0}) (λ _. Unit {0}) (DeclaredLevel fits) (λ _. Unit {0}) (λ _. Unit {0}) (ExprLevel fits) (λ _. Unit {0}) (TypeWordLevel fits) (TypedParam-F.Unnamed s a t) (TypedParam-F.Unnamed (s, hs) (a, ha) t) refl ht)

  pub params-Nothing : ParamsTypes fits params.Nothing
  unfolding DirectTypes FormTypes ParamTypes ParamsTypes SpecTypes SuffixTypes DeclaredTypes AbstractTypes DeclaratorTypes ExprTypes MemberTypes WordTypes
  params-Nothing = subst (ParamsTypes fits) params.rolls-Nothing (every_made-TypedParams (λ _. Unit {0}) (λ _. Unit {0}) (ParamLevel fits) (λ _. Unit {0}) (λ _. Unit {0}) (λ _. Unit {0}) (DeclaredLevel fits) (λ _. Unit {0}) (λ _. Unit {0}) (ExprLevel fits) (λ _. Unit {0}) (TypeWordLevel fits) TypedParams-F.Nothing TypedParams-F.Nothing refl tt)

  pub params-VoidAlone : ParamsTypes fits params.VoidAlone
  unfolding DirectTypes FormTypes ParamTypes ParamsTypes SpecTypes SuffixTypes DeclaredTypes AbstractTypes DeclaratorTypes ExprTypes MemberTypes WordTypes
  params-VoidAlone = subst (ParamsTypes fits) params.rolls-VoidAlone (every_made-TypedParams (λ _. Unit {0}) (λ _. Unit {0}) (ParamLevel fits) (λ _. Unit {0}) (λ _. Unit {0}) (λ _. Unit {0}) (DeclaredLevel fits) (λ _. Unit {0}) (λ _. Unit {0}) (ExprLevel fits) (λ _. Unit {0}) (TypeWordLevel fits) TypedParams-F.VoidAlone TypedParams-F.VoidAlone refl tt)

  pub spec-Int : SpecTypes fits spec.Int
  unfolding DirectTypes FormTypes ParamTypes ParamsTypes SpecTypes SuffixTypes DeclaredTypes AbstractTypes DeclaratorTypes ExprTypes MemberTypes WordTypes
  spec-Int = subst (SpecTypes fits) spec.rolls-Int (every_made-TypedSpec (λ _. Unit {0}) (λ _. Unit {0}) (ParamLevel fits) (λ _. Unit {0}) (λ _. Unit {0}) (λ _. Unit {0}) (DeclaredLevel fits) (λ _. Unit {0}) (λ _. Unit {0}) (ExprLevel fits) (λ _. Unit {0}) (TypeWordLevel fits) TypedSpec-F.Int TypedSpec-F.Int refl tt)

  pub spec-Char : SpecTypes fits spec.Char
  unfolding DirectTypes FormTypes ParamTypes ParamsTypes SpecTypes SuffixTypes DeclaredTypes AbstractTypes DeclaratorTypes ExprTypes MemberTypes WordTypes
  spec-Char = subst (SpecTypes fits) spec.rolls-Char (every_made-TypedSpec (λ _. Unit {0}) (λ _. Unit {0}) (ParamLevel fits) (λ _. Unit {0}) (λ _. Unit {0}) (λ _. Unit {0}) (DeclaredLevel fits) (λ _. Unit {0}) (λ _. Unit {0}) (ExprLevel fits) (λ _. Unit {0}) (TypeWordLevel fits) TypedSpec-F.Char TypedSpec-F.Char refl tt)

  pub spec-Void : SpecTypes fits spec.Void
  unfolding DirectTypes FormTypes ParamTypes ParamsTypes SpecTypes SuffixTypes DeclaredTypes AbstractTypes DeclaratorTypes ExprTypes MemberTypes WordTypes
  spec-Void = subst (SpecTypes fits) spec.rolls-Void (every_made-TypedSpec (λ _. Unit {0}) (λ _. Unit {0}) (ParamLevel fits) (λ _. Unit {0}) (λ _. Unit {0}) (λ _. Unit {0}) (DeclaredLevel fits) (λ _. Unit {0}) (λ _. Unit {0}) (ExprLevel fits) (λ _. Unit {0}) (TypeWordLevel fits) TypedSpec-F.Void TypedSpec-F.Void refl tt)

  pub spec-TypeName : (n : List ℕ) → SpecTypes fits (spec.TypeName n)
  unfolding DirectTypes FormTypes ParamTypes ParamsTypes SpecTypes SuffixTypes DeclaredTypes AbstractTypes DeclaratorTypes ExprTypes MemberTypes WordTypes
  spec-TypeName n = subst (SpecTypes fits) (spec.rolls-TypeName n) (every_made-TypedSpec (λ _. Unit {0}) (λ _. Unit {0}) (ParamLevel fits) (λ _. Unit {0}) (λ _. Unit {0}) (λ _. Unit {0}) (DeclaredLevel fits) (λ _. Unit {0}) (λ _. Unit {0}) (ExprLevel fits) (λ _. Unit {0}) (TypeWordLevel fits) (TypedSpec-F.TypeName n) (TypedSpec-F.TypeName n) refl tt)

  pub suffix-Function : (p : TypedParams) → ParamsTypes fits p → SuffixTypes fits (suffix.Function p)
  unfolding DirectTypes FormTypes ParamTypes ParamsTypes SpecTypes SuffixTypes DeclaredTypes AbstractTypes DeclaratorTypes ExprTypes MemberTypes WordTypes
  suffix-Function p hp = subst (SuffixTypes fits) (suffix.rolls-Function p) (every_made-TypedSuffix (λ _. Unit {0}) (λ _. Unit {0}) (ParamLevel fits) (λ _. Unit {0}) (λ _. Unit {0}) (λ _. Unit {0}) (DeclaredLevel fits) (λ _. Unit {0}) (λ _. Unit {0}) (ExprLevel fits) (λ _. Unit {0}) (TypeWordLevel fits) (TypedSuffix-F.Function p) (TypedSuffix-F.Function (p, hp)) refl tt)

  pub form-Call : (x : TypedExpr) → ExprTypes fits x → (hs : each_held (ExprTypes fits)) → FormTypes fits (form.Call x (map (λ h. h.0) hs))
  unfolding DirectTypes FormTypes ParamTypes ParamsTypes SpecTypes SuffixTypes DeclaredTypes AbstractTypes DeclaratorTypes ExprTypes MemberTypes WordTypes
  form-Call x hx hs = subst (FormTypes fits) (form.rolls-Call x (map (λ h. h.0) hs)) (every_made-TypedForm (λ _. Unit {0}) (λ _. Unit {0}) (ParamLevel fits) (λ _. Unit {0}) (λ _. Unit {0}) (λ _. Unit {0}) (DeclaredLevel fits) (λ _. Unit {0}) (λ _. Unit {0}) (ExprLevel fits) (λ _. Unit {0}) (TypeWordLevel fits) (TypedForm-F.Call x (map (λ h. h.0) hs)) (TypedForm-F.Call (x, hx) hs) refl tt)

  pub params-List : (hs : each_held (ParamTypes fits)) → ParamsTypes fits (params.List (map (λ h. h.0) hs))
  unfolding DirectTypes FormTypes ParamTypes ParamsTypes SpecTypes SuffixTypes DeclaredTypes AbstractTypes DeclaratorTypes ExprTypes MemberTypes WordTypes
  params-List hs = subst (ParamsTypes fits) (params.rolls-List (map (λ h. h.0) hs)) (every_made-TypedParams (λ _. Unit {0}) (λ _. Unit {0}) (ParamLevel fits) (λ _. Unit {0}) (λ _. Unit {0}) (λ _. Unit {0}) (DeclaredLevel fits) (λ _. Unit {0}) (λ _. Unit {0}) (ExprLevel fits) (λ _. Unit {0}) (TypeWordLevel fits) (TypedParams-F.List (map (λ h. h.0) hs)) (TypedParams-F.List hs) refl tt)

  pub spec-tag : (n : List ℕ) → SpecTypes fits (spec.Struct n None)
  unfolding DirectTypes FormTypes ParamTypes ParamsTypes SpecTypes SuffixTypes DeclaredTypes AbstractTypes DeclaratorTypes ExprTypes MemberTypes WordTypes
  spec-tag n = subst (SpecTypes fits) (spec.rolls-Struct n None) (every_made-TypedSpec (λ _. Unit {0}) (λ _. Unit {0}) (ParamLevel fits) (λ _. Unit {0}) (λ _. Unit {0}) (λ _. Unit {0}) (DeclaredLevel fits) (λ _. Unit {0}) (λ _. Unit {0}) (ExprLevel fits) (λ _. Unit {0}) (TypeWordLevel fits) (TypedSpec-F.Struct n None) (TypedSpec-F.Struct n None) refl tt)

  pub spec-body : (n : List ℕ) (hs : each_held (MemberTypes fits)) → SpecTypes fits (spec.Struct n (Some (map (λ h. h.0) hs)))
  unfolding DirectTypes FormTypes ParamTypes ParamsTypes SpecTypes SuffixTypes DeclaredTypes AbstractTypes DeclaratorTypes ExprTypes MemberTypes WordTypes
  spec-body n hs = subst (SpecTypes fits) (spec.rolls-Struct n (Some (map (λ h. h.0) hs))) (every_made-TypedSpec (λ _. Unit {0}) (λ _. Unit {0}) (ParamLevel fits) (λ _. Unit {0}) (λ _. Unit {0}) (λ _. Unit {0}) (DeclaredLevel fits) (λ _. Unit {0}) (λ _. Unit {0}) (ExprLevel fits) (λ _. Unit {0}) (TypeWordLevel fits) (TypedSpec-F.Struct n (Some (map (λ h. h.0) hs))) (TypedSpec-F.Struct n (Some hs)) refl tt)

  pub suffix-open : SuffixTypes fits (suffix.Array None)
  unfolding DirectTypes FormTypes ParamTypes ParamsTypes SpecTypes SuffixTypes DeclaredTypes AbstractTypes DeclaratorTypes ExprTypes MemberTypes WordTypes
  suffix-open = subst (SuffixTypes fits) (suffix.rolls-Array None) (every_made-TypedSuffix (λ _. Unit {0}) (λ _. Unit {0}) (ParamLevel fits) (λ _. Unit {0}) (λ _. Unit {0}) (λ _. Unit {0}) (DeclaredLevel fits) (λ _. Unit {0}) (λ _. Unit {0}) (ExprLevel fits) (λ _. Unit {0}) (TypeWordLevel fits) (TypedSuffix-F.Array None) (TypedSuffix-F.Array None) refl tt)

  pub suffix-bound : (x : TypedExpr) → ExprTypes fits x → SuffixTypes fits (suffix.Array (Some x))
  unfolding DirectTypes FormTypes ParamTypes ParamsTypes SpecTypes SuffixTypes DeclaredTypes AbstractTypes DeclaratorTypes ExprTypes MemberTypes WordTypes
  suffix-bound x hx = subst (SuffixTypes fits) (suffix.rolls-Array (Some x)) (every_made-TypedSuffix (λ _. Unit {0}) (λ _. Unit {0}) (ParamLevel fits) (λ _. Unit {0}) (λ _. Unit {0}) (λ _. Unit {0}) (DeclaredLevel fits) (λ _. Unit {0}) (λ _. Unit {0}) (ExprLevel fits) (λ _. Unit {0}) (TypeWordLevel fits) (TypedSuffix-F.Array (Some x)) (TypedSuffix-F.Array (Some (x, hx))) refl tt)

  pub expr-made : (f : TypedForm) (t : Ty) (c : Constant) → FormTypes fits f → IsTrue (fits t) → ExprTypes fits (typed f t c)
  unfolding DirectTypes FormTypes ParamTypes ParamsTypes SpecTypes SuffixTypes DeclaredTypes AbstractTypes DeclaratorTypes ExprTypes MemberTypes WordTypes typed
  expr-made f t c hf level = every_made-TypedExpr (λ _. Unit {0}) (λ _. Unit {0}) (ParamLevel fits) (λ _. Unit {0}) (λ _. Unit {0}) (λ _. Unit {0}) (DeclaredLevel fits) (λ _. Unit {0}) (λ _. Unit {0}) (ExprLevel fits) (λ _. Unit {0}) (TypeWordLevel fits) (record { form = f; ty = t; constant = c }) (record { form = (f, hf); ty = t; constant = c }) refl level

  pub declared-made : (d : TypedDeclarator) (t : Ty) → DeclaratorTypes fits d → IsTrue (fits t) → DeclaredTypes fits (roll-Declared (record { declarator = d; ty = t }))
  unfolding DirectTypes FormTypes ParamTypes ParamsTypes SpecTypes SuffixTypes DeclaredTypes AbstractTypes DeclaratorTypes ExprTypes MemberTypes WordTypes
  declared-made d t hd ht = every_made-Declared (λ _. Unit {0}) (λ _. Unit {0}) (ParamLevel fits) (λ _. Unit {0}) (λ _. Unit {0}) (λ _. Unit {0}) (DeclaredLevel fits) (λ _. Unit {0}) (λ _. Unit {0}) (ExprLevel fits) (λ _. Unit {0}) (TypeWordLevel fits) (record { declarator = d; ty = t }) (record { declarator = (d, hd); ty = t }) refl ht

  pub declarator-made : (n : ℕ) (d : TypedDirect) → DirectTypes fits d → (hs : each_held (SuffixTypes fits)) → DeclaratorTypes fits (roll-TypedDeclarator (record { stars = n; direct = d; suffixes = map (λ h. h.0) hs }))
  unfolding DirectTypes FormTypes ParamTypes ParamsTypes SpecTypes SuffixTypes DeclaredTypes AbstractTypes DeclaratorTypes ExprTypes MemberTypes WordTypes
  declarator-made n d hd hs = every_made-TypedDeclarator (λ _. Unit {0}) (λ _. Unit {0}) (ParamLevel fits) (λ _. Unit {0}) (λ _. Unit {0}) (λ _. Unit {0}) (DeclaredLevel fits) (λ _. Unit {0}) (λ _. Unit {0}) (ExprLevel fits) (λ _. Unit {0}) (TypeWordLevel fits) (record { stars = n; direct = d; suffixes = map (λ h. h.0) hs }) (record { stars = n; direct = (d, hd); suffixes = hs }) refl tt

  pub abstract-bare : (n : ℕ) (hs : each_held (SuffixTypes fits)) → AbstractTypes fits (roll-TypedAbstractDeclarator (record { stars = n; bracketed = None; suffixes = map (λ h. h.0) hs }))
  unfolding DirectTypes FormTypes ParamTypes ParamsTypes SpecTypes SuffixTypes DeclaredTypes AbstractTypes DeclaratorTypes ExprTypes MemberTypes WordTypes
  abstract-bare n hs = every_made-TypedAbstractDeclarator (λ _. Unit {0}) (λ _. Unit {0}) (ParamLevel fits) (λ _. Unit {0}) (λ _. Unit {0}) (λ _. Unit {0}) (DeclaredLevel fits) (λ _. Unit {0}) (λ _. Unit {0}) (ExprLevel fits) (λ _. Unit {0}) (TypeWordLevel fits) (record { stars = n; bracketed = None; suffixes = map (λ h. h.0) hs }) (record { stars = n; bracketed = None; suffixes = hs }) refl tt

  pub abstract-bracketed : (n : ℕ) (a : TypedAbstractDeclarator) → AbstractTypes fits a → (hs : each_held (SuffixTypes fits)) → AbstractTypes fits (roll-TypedAbstractDeclarator (record { stars = n; bracketed = Some a; suffixes = map (λ h. h.0) hs }))
  unfolding DirectTypes FormTypes ParamTypes ParamsTypes SpecTypes SuffixTypes DeclaredTypes AbstractTypes DeclaratorTypes ExprTypes MemberTypes WordTypes
  abstract-bracketed n a ha hs = every_made-TypedAbstractDeclarator (λ _. Unit {0}) (λ _. Unit {0}) (ParamLevel fits) (λ _. Unit {0}) (λ _. Unit {0}) (λ _. Unit {0}) (DeclaredLevel fits) (λ _. Unit {0}) (λ _. Unit {0}) (ExprLevel fits) (λ _. Unit {0}) (TypeWordLevel fits) (record { stars = n; bracketed = Some a; suffixes = map (λ h. h.0) hs }) (record { stars = n; bracketed = Some (a, ha); suffixes = hs }) refl tt

  pub member-made : (s : TypedSpec) → SpecTypes fits s → (hs : each_held (DeclaredTypes fits)) → MemberTypes fits (roll-TypedMemberDecl (record { spec = s; declarators = map (λ h. h.0) hs }))
  unfolding DirectTypes FormTypes ParamTypes ParamsTypes SpecTypes SuffixTypes DeclaredTypes AbstractTypes DeclaratorTypes ExprTypes MemberTypes WordTypes
  member-made s h hs = every_made-TypedMemberDecl (λ _. Unit {0}) (λ _. Unit {0}) (ParamLevel fits) (λ _. Unit {0}) (λ _. Unit {0}) (λ _. Unit {0}) (DeclaredLevel fits) (λ _. Unit {0}) (λ _. Unit {0}) (ExprLevel fits) (λ _. Unit {0}) (TypeWordLevel fits) (record { spec = s; declarators = map (λ h. h.0) hs }) (record { spec = (s, h); declarators = hs }) refl tt

  pub type_word-made : (s : TypedSpec) (a : TypedAbstractDeclarator) (t : Ty) → SpecTypes fits s → AbstractTypes fits a → IsTrue (fits t) → WordTypes fits (roll-TypedTypeWord (record { spec = s; declarator = a; ty = t }))
  unfolding DirectTypes FormTypes ParamTypes ParamsTypes SpecTypes SuffixTypes DeclaredTypes AbstractTypes DeclaratorTypes ExprTypes MemberTypes WordTypes
  type_word-made s a t hs ha ht = every_made-TypedTypeWord (λ _. Unit {0}) (λ _. Unit {0}) (ParamLevel fits) (λ _. Unit {0}) (λ _. Unit {0}) (λ _. Unit {0}) (DeclaredLevel fits) (λ _. Unit {0}) (λ _. Unit {0}) (ExprLevel fits) (λ _. Unit {0}) (TypeWordLevel fits) (record { spec = s; declarator = a; ty = t }) (record { spec = (s, hs); declarator = (a, ha); ty = t }) refl ht

-- ---- lists of what holds

module _ {A : Type 0} (Q : A → Type 0) where
  all_held : (xs : List A) → AllByRecursion Q xs → List ((x : A) × Q x)
  all_held [] hs = []
  all_held (x ∷ xs) hs = (x, hs.0) ∷ all_held xs hs.1

  held-same : (xs : List A) (hs : AllByRecursion Q xs) → map (λ h. h.0) (all_held xs hs) ≡ xs
  unfolding all_held
  held-same [] hs = refl
  held-same (x ∷ xs) hs = ap (λ ys. x ∷ ys) (held-same xs hs.1)

  -- what is made of a list with what holds of each
  pub of_held : (P : List A → Type 0) → ((hs : List ((x : A) × Q x)) → P (map (λ h. h.0) hs)) → (xs : List A) → AllByRecursion Q xs → P xs
  of_held P make xs hs = subst P (held-same xs hs) (make (all_held xs hs))
