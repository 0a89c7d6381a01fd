-- The tree of a typed expression by its form, and what stands in an expression with what holds of it.
use Rattle.std.proofs.Common.{◌≡◌, ◌∙◌, map, ap, sym, subst}
use Rattle.c_tree.specs.declared.expression.Expr.{Expr}
use Rattle.c_tree.specs.declared.expression.Expr.TheVariants as expr
use Rattle.c_typed.specs.declared.expression.TypedDirect.{TypedDirect, every-TypedDirect}
use Rattle.c_typed.specs.declared.expression.TypedForm.{TypedForm, every-TypedForm, every_held-TypedForm, every_here-TypedForm, fold-TypedForm, fold-roll-TypedForm, map-TypedForm, out-TypedForm, out-roll-TypedForm, roll-TypedForm, roll-out-TypedForm}
use Rattle.c_typed.specs.declared.expression.TypedParam.{TypedParam, every-TypedParam}
use Rattle.c_typed.specs.declared.expression.TypedParams.{TypedParams, every-TypedParams}
use Rattle.c_typed.specs.declared.expression.TypedSpec.{TypedSpec, every-TypedSpec}
use Rattle.c_typed.specs.declared.expression.TypedSuffix.{TypedSuffix, every-TypedSuffix}
use Rattle.c_typed.specs.declared.expression.Declared.{Declared, every-Declared}
use Rattle.c_typed.specs.declared.expression.TypedAbstractDeclarator.{TypedAbstractDeclarator, every-TypedAbstractDeclarator}
use Rattle.c_typed.specs.declared.expression.TypedDeclarator.{TypedDeclarator, every-TypedDeclarator}
use Rattle.c_typed.specs.declared.expression.TypedExpr.{TypedExpr, every-TypedExpr, every_held-TypedExpr, every_here-TypedExpr, fold_out-TypedExpr, ind-TypedExpr, out-TypedExpr, out-roll-TypedExpr, roll-TypedExpr}
use Rattle.c_typed.specs.declared.expression.TypedMemberDecl.{TypedMemberDecl, every-TypedMemberDecl}
use Rattle.c_typed.specs.declared.expression.TypedTypeWord.{TypedTypeWord, every-TypedTypeWord}
use Rattle.c_typed.specs.declared.expression.TypedDirect.TheOpen.{TypedExpr-F, TypedForm-F}
use Rattle.c_typed.specs.Erased.{erased_abstract, erased_declarator, erased_declared_node, erased_direct, erased_expr, erased_expr_node, erased_form, erased_member, erased_param, erased_params, erased_spec_node, erased_suffix, erased_type_word}
use Rattle.c_operators.specs.Operators.{FormLayer, form_of}
use Rattle.c_typed_rows.specs.Expressions.{ExprNode}
use Rattle.c_typed_constants.specs.Words.{word_tree}

-- ---- trees

-- a form without its types
form_tree : TypedForm → Expr
form_tree = fold-TypedForm _ _ _ _ _ _ _ _ _ _ _ _
    erased_direct erased_form erased_param erased_params erased_spec_node erased_suffix
    erased_declared_node erased_abstract erased_declarator erased_expr_node erased_member erased_type_word

-- the same by its form
abbrev pub layer_tree : FormLayer → Expr
layer_tree (TypedForm-F.Assign x a y) = expr.Assign (erased_expr x) a (erased_expr y)
layer_tree (TypedForm-F.Conditional e x y) = expr.Conditional (erased_expr e) (erased_expr x) (erased_expr y)
layer_tree (TypedForm-F.Binary x o y) = expr.Binary (erased_expr x) o (erased_expr y)
layer_tree (TypedForm-F.Cast w x) = expr.Cast (word_tree w) (erased_expr x)
layer_tree (TypedForm-F.PreIncrement x) = expr.PreIncrement (erased_expr x)
layer_tree (TypedForm-F.PreDecrement x) = expr.PreDecrement (erased_expr x)
layer_tree (TypedForm-F.Unary o x) = expr.Unary o (erased_expr x)
layer_tree (TypedForm-F.SizeofExpr x) = expr.SizeofExpr (erased_expr x)
layer_tree (TypedForm-F.SizeofType w) = expr.SizeofType (word_tree w)
layer_tree (TypedForm-F.Index x i) = expr.Index (erased_expr x) (erased_expr i)
layer_tree (TypedForm-F.Call f arguments) = expr.Call (erased_expr f) (map erased_expr arguments)
layer_tree (TypedForm-F.Member x name n) = expr.Member (erased_expr x) name
layer_tree (TypedForm-F.Arrow x name n) = expr.Arrow (erased_expr x) name
layer_tree (TypedForm-F.PostIncrement x) = expr.PostIncrement (erased_expr x)
layer_tree (TypedForm-F.PostDecrement x) = expr.PostDecrement (erased_expr x)
layer_tree (TypedForm-F.Identifier name e) = expr.Identifier name
layer_tree (TypedForm-F.Number n) = expr.Number n
layer_tree (TypedForm-F.Text bytes n) = expr.Text bytes

form-rolled : (node : FormLayer) → form_tree (roll-TypedForm node) ≡ layer_tree node
unfolding form_tree erased_expr word_tree
form-rolled (TypedForm-F.Assign x a y) = fold-roll-TypedForm _ _ _ _ _ _ _ _ _ _ _ _
    erased_direct erased_form erased_param erased_params erased_spec_node erased_suffix
    erased_declared_node erased_abstract erased_declarator erased_expr_node erased_member erased_type_word (TypedForm-F.Assign x a y)
form-rolled (TypedForm-F.Conditional e x y) = fold-roll-TypedForm _ _ _ _ _ _ _ _ _ _ _ _
    erased_direct erased_form erased_param erased_params erased_spec_node erased_suffix
    erased_declared_node erased_abstract erased_declarator erased_expr_node erased_member erased_type_word (TypedForm-F.Conditional e x y)
form-rolled (TypedForm-F.Binary x o y) = fold-roll-TypedForm _ _ _ _ _ _ _ _ _ _ _ _
    erased_direct erased_form erased_param erased_params erased_spec_node erased_suffix
    erased_declared_node erased_abstract erased_declarator erased_expr_node erased_member erased_type_word (TypedForm-F.Binary x o y)
form-rolled (TypedForm-F.Cast w x) = fold-roll-TypedForm _ _ _ _ _ _ _ _ _ _ _ _
    erased_direct erased_form erased_param erased_params erased_spec_node erased_suffix
    erased_declared_node erased_abstract erased_declarator erased_expr_node erased_member erased_type_word (TypedForm-F.Cast w x)
form-rolled (TypedForm-F.PreIncrement x) = fold-roll-TypedForm _ _ _ _ _ _ _ _ _ _ _ _
    erased_direct erased_form erased_param erased_params erased_spec_node erased_suffix
    erased_declared_node erased_abstract erased_declarator erased_expr_node erased_member erased_type_word (TypedForm-F.PreIncrement x)
form-rolled (TypedForm-F.PreDecrement x) = fold-roll-TypedForm _ _ _ _ _ _ _ _ _ _ _ _
    erased_direct erased_form erased_param erased_params erased_spec_node erased_suffix
    erased_declared_node erased_abstract erased_declarator erased_expr_node erased_member erased_type_word (TypedForm-F.PreDecrement x)
form-rolled (TypedForm-F.Unary o x) = fold-roll-TypedForm _ _ _ _ _ _ _ _ _ _ _ _
    erased_direct erased_form erased_param erased_params erased_spec_node erased_suffix
    erased_declared_node erased_abstract erased_declarator erased_expr_node erased_member erased_type_word (TypedForm-F.Unary o x)
form-rolled (TypedForm-F.SizeofExpr x) = fold-roll-TypedForm _ _ _ _ _ _ _ _ _ _ _ _
    erased_direct erased_form erased_param erased_params erased_spec_node erased_suffix
    erased_declared_node erased_abstract erased_declarator erased_expr_node erased_member erased_type_word (TypedForm-F.SizeofExpr x)
form-rolled (TypedForm-F.SizeofType w) = fold-roll-TypedForm _ _ _ _ _ _ _ _ _ _ _ _
    erased_direct erased_form erased_param erased_params erased_spec_node erased_suffix
    erased_declared_node erased_abstract erased_declarator erased_expr_node erased_member erased_type_word (TypedForm-F.SizeofType w)
form-rolled (TypedForm-F.Index x i) = fold-roll-TypedForm _ _ _ _ _ _ _ _ _ _ _ _
    erased_direct erased_form erased_param erased_params erased_spec_node erased_suffix
    erased_declared_node erased_abstract erased_declarator erased_expr_node erased_member erased_type_word (TypedForm-F.Index x i)
form-rolled (TypedForm-F.Call f arguments) = fold-roll-TypedForm _ _ _ _ _ _ _ _ _ _ _ _
    erased_direct erased_form erased_param erased_params erased_spec_node erased_suffix
    erased_declared_node erased_abstract erased_declarator erased_expr_node erased_member erased_type_word (TypedForm-F.Call f arguments)
form-rolled (TypedForm-F.Member x name n) = fold-roll-TypedForm _ _ _ _ _ _ _ _ _ _ _ _
    erased_direct erased_form erased_param erased_params erased_spec_node erased_suffix
    erased_declared_node erased_abstract erased_declarator erased_expr_node erased_member erased_type_word (TypedForm-F.Member x name n)
form-rolled (TypedForm-F.Arrow x name n) = fold-roll-TypedForm _ _ _ _ _ _ _ _ _ _ _ _
    erased_direct erased_form erased_param erased_params erased_spec_node erased_suffix
    erased_declared_node erased_abstract erased_declarator erased_expr_node erased_member erased_type_word (TypedForm-F.Arrow x name n)
form-rolled (TypedForm-F.PostIncrement x) = fold-roll-TypedForm _ _ _ _ _ _ _ _ _ _ _ _
    erased_direct erased_form erased_param erased_params erased_spec_node erased_suffix
    erased_declared_node erased_abstract erased_declarator erased_expr_node erased_member erased_type_word (TypedForm-F.PostIncrement x)
form-rolled (TypedForm-F.PostDecrement x) = fold-roll-TypedForm _ _ _ _ _ _ _ _ _ _ _ _
    erased_direct erased_form erased_param erased_params erased_spec_node erased_suffix
    erased_declared_node erased_abstract erased_declarator erased_expr_node erased_member erased_type_word (TypedForm-F.PostDecrement x)
form-rolled (TypedForm-F.Identifier name e) = fold-roll-TypedForm _ _ _ _ _ _ _ _ _ _ _ _
    erased_direct erased_form erased_param erased_params erased_spec_node erased_suffix
    erased_declared_node erased_abstract erased_declarator erased_expr_node erased_member erased_type_word (TypedForm-F.Identifier name e)
form-rolled (TypedForm-F.Number n) = fold-roll-TypedForm _ _ _ _ _ _ _ _ _ _ _ _
    erased_direct erased_form erased_param erased_params erased_spec_node erased_suffix
    erased_declared_node erased_abstract erased_declarator erased_expr_node erased_member erased_type_word (TypedForm-F.Number n)
form-rolled (TypedForm-F.Text bytes n) = fold-roll-TypedForm _ _ _ _ _ _ _ _ _ _ _ _
    erased_direct erased_form erased_param erased_params erased_spec_node erased_suffix
    erased_declared_node erased_abstract erased_declarator erased_expr_node erased_member erased_type_word (TypedForm-F.Text bytes n)

expr-outer : (x : TypedExpr) → erased_expr x ≡ form_tree (form_of x)
unfolding erased_expr form_tree form_of
expr-outer x = fold_out-TypedExpr _ _ _ _ _ _ _ _ _ _ _ _
    erased_direct erased_form erased_param erased_params erased_spec_node erased_suffix
    erased_declared_node erased_abstract erased_declarator erased_expr_node erased_member erased_type_word x

pub expr-tree : (x : TypedExpr) → erased_expr x ≡ layer_tree (out-TypedForm (form_of x))
expr-tree x = expr-outer x ∙ ap form_tree (sym (roll-out-TypedForm (form_of x))) ∙ form-rolled (out-TypedForm (form_of x))

-- ---- the operands of an expression that may be a constant

abbrev pub Operands : (TypedExpr → Type 0) → FormLayer → Type 0
Operands Q (TypedForm-F.Conditional e x y) = Q e × Q x × Q y
Operands Q (TypedForm-F.Binary x o y) = Q x × Q y
Operands Q (TypedForm-F.Cast w x) = Q x
Operands Q (TypedForm-F.Unary o x) = Q x
Operands Q _ = Unit {0}

-- two facts of each give a third
pub operands-joined : (P Q R S : TypedExpr → Type 0) → ((e : TypedExpr) → P e → Q e → R e → S e) → (node : FormLayer) → Operands P node → Operands Q node → Operands R node → Operands S node
operands-joined P Q R S h (TypedForm-F.Conditional e x y) p q r = (h e p.0 q.0 r.0, h x p.1 q.1 r.1, h y p.2 q.2 r.2)
operands-joined P Q R S h (TypedForm-F.Binary x o y) p q r = (h x p.0 q.0 r.0, h y p.1 q.1 r.1)
operands-joined P Q R S h (TypedForm-F.Cast w x) p q r = h x p q r
operands-joined P Q R S h (TypedForm-F.Unary o x) p q r = h x p q r
operands-joined P Q R S h _ p q r = tt

module _ (A : TypedDirect → Type 0) (B : TypedForm → Type 0) (C : TypedParam → Type 0) (D : TypedParams → Type 0) (E : TypedSpec → Type 0) (F : TypedSuffix → Type 0) (G : Declared → Type 0) (H : TypedAbstractDeclarator → Type 0) (I : TypedDeclarator → Type 0) (Q : TypedExpr → Type 0) (J : TypedMemberDecl → Type 0) (K : TypedTypeWord → Type 0) where
  abbrev HeldForm : Type 0
  HeldForm = TypedForm-F ((t : TypedDirect) × A t) ((t : TypedForm) × B t) ((t : TypedParam) × C t) ((t : TypedParams) × D t) ((t : TypedSpec) × E t) ((t : TypedSuffix) × F t) ((t : Declared) × G t) ((t : TypedAbstractDeclarator) × H t) ((t : TypedDeclarator) × I t) ((t : TypedExpr) × Q t) ((t : TypedMemberDecl) × J t) ((t : TypedTypeWord) × K t)

  abbrev bare : HeldForm → FormLayer
  bare = map-TypedForm ((t : TypedDirect) × A t) ((t : TypedForm) × B t) ((t : TypedParam) × C t) ((t : TypedParams) × D t) ((t : TypedSpec) × E t) ((t : TypedSuffix) × F t) ((t : Declared) × G t) ((t : TypedAbstractDeclarator) × H t) ((t : TypedDeclarator) × I t) ((t : TypedExpr) × Q t) ((t : TypedMemberDecl) × J t) ((t : TypedTypeWord) × K t)
      TypedDirect TypedForm TypedParam TypedParams TypedSpec TypedSuffix Declared TypedAbstractDeclarator TypedDeclarator TypedExpr TypedMemberDecl TypedTypeWord
      (λ e. e.0) (λ e. e.0) (λ e. e.0) (λ e. e.0) (λ e. e.0) (λ e. e.0) (λ e. e.0) (λ e. e.0) (λ e. e.0) (λ e. e.0) (λ e. e.0) (λ e. e.0)

  held-operands : (y : HeldForm) → Operands Q (bare y)
  held-operands (TypedForm-F.Conditional e x y) = (e.1, x.1, y.1)
  held-operands (TypedForm-F.Binary x o y) = (x.1, y.1)
  held-operands (TypedForm-F.Cast w x) = x.1
  held-operands (TypedForm-F.Unary o x) = x.1
  held-operands _ = tt

-- ---- what holds at every level, of each form and of each expression

module _ (F : FormLayer → Type 0) (N : ExprNode → Type 0) where
  abbrev pub Every : TypedExpr → Type 0
  Every = every-TypedExpr (λ _. Unit {0}) F (λ _. Unit {0}) (λ _. Unit {0}) (λ _. Unit {0}) (λ _. Unit {0})
      (λ _. Unit {0}) (λ _. Unit {0}) (λ _. Unit {0}) N (λ _. Unit {0}) (λ _. Unit {0})

  abbrev EveryForm : TypedForm → Type 0
  EveryForm = every-TypedForm (λ _. Unit {0}) F (λ _. Unit {0}) (λ _. Unit {0}) (λ _. Unit {0}) (λ _. Unit {0})
      (λ _. Unit {0}) (λ _. Unit {0}) (λ _. Unit {0}) N (λ _. Unit {0}) (λ _. Unit {0})

  pub here : (e : TypedExpr) → Every e → N (out-TypedExpr e)
  here = every_here-TypedExpr (λ _. Unit {0}) F (λ _. Unit {0}) (λ _. Unit {0}) (λ _. Unit {0}) (λ _. Unit {0})
      (λ _. Unit {0}) (λ _. Unit {0}) (λ _. Unit {0}) N (λ _. Unit {0}) (λ _. Unit {0})

  every-form : (e : TypedExpr) → Every e → EveryForm (out-TypedExpr e).form
  every-form e h =
      let node = every_held-TypedExpr (λ _. Unit {0}) F (λ _. Unit {0}) (λ _. Unit {0}) (λ _. Unit {0}) (λ _. Unit {0})
      (λ _. Unit {0}) (λ _. Unit {0}) (λ _. Unit {0}) N (λ _. Unit {0}) (λ _. Unit {0}) e h in
      subst EveryForm (ap (λ n. n.form) node.1) node.0.form.1

  pub form-here : (e : TypedExpr) → Every e → F (out-TypedForm (out-TypedExpr e).form)
  form-here e h = every_here-TypedForm (λ _. Unit {0}) F (λ _. Unit {0}) (λ _. Unit {0}) (λ _. Unit {0}) (λ _. Unit {0})
      (λ _. Unit {0}) (λ _. Unit {0}) (λ _. Unit {0}) N (λ _. Unit {0}) (λ _. Unit {0}) (out-TypedExpr e).form (every-form e h)

  pub inside : (e : TypedExpr) → Every e → Operands Every (out-TypedForm (out-TypedExpr e).form)
  inside e h =
      let layer = every_held-TypedForm (λ _. Unit {0}) F (λ _. Unit {0}) (λ _. Unit {0}) (λ _. Unit {0}) (λ _. Unit {0})
      (λ _. Unit {0}) (λ _. Unit {0}) (λ _. Unit {0}) N (λ _. Unit {0}) (λ _. Unit {0}) (out-TypedExpr e).form (every-form e h) in
      subst (Operands Every) layer.1 (held-operands
      (λ t. every-TypedDirect (λ _. Unit {0}) F (λ _. Unit {0}) (λ _. Unit {0}) (λ _. Unit {0}) (λ _. Unit {0}) (λ _. Unit {0}) (λ _. Unit {0}) (λ _. Unit {0}) N (λ _. Unit {0}) (λ _. Unit {0}) t)
      EveryForm
      (λ t. every-TypedParam (λ _. Unit {0}) F (λ _. Unit {0}) (λ _. Unit {0}) (λ _. Unit {0}) (λ _. Unit {0}) (λ _. Unit {0}) (λ _. Unit {0}) (λ _. Unit {0}) N (λ _. Unit {0}) (λ _. Unit {0}) t)
      (λ t. every-TypedParams (λ _. Unit {0}) F (λ _. Unit {0}) (λ _. Unit {0}) (λ _. Unit {0}) (λ _. Unit {0}) (λ _. Unit {0}) (λ _. Unit {0}) (λ _. Unit {0}) N (λ _. Unit {0}) (λ _. Unit {0}) t)
      (λ t. every-TypedSpec (λ _. Unit {0}) F (λ _. Unit {0}) (λ _. Unit {0}) (λ _. Unit {0}) (λ _. Unit {0}) (λ _. Unit {0}) (λ _. Unit {0}) (λ _. Unit {0}) N (λ _. Unit {0}) (λ _. Unit {0}) t)
      (λ t. every-TypedSuffix (λ _. Unit {0}) F (λ _. Unit {0}) (λ _. Unit {0}) (λ _. Unit {0}) (λ _. Unit {0}) (λ _. Unit {0}) (λ _. Unit {0}) (λ _. Unit {0}) N (λ _. Unit {0}) (λ _. Unit {0}) t)
      (λ t. every-Declared (λ _. Unit {0}) F (λ _. Unit {0}) (λ _. Unit {0}) (λ _. Unit {0}) (λ _. Unit {0}) (λ _. Unit {0}) (λ _. Unit {0}) (λ _. Unit {0}) N (λ _. Unit {0}) (λ _. Unit {0}) t)
      (λ t. every-TypedAbstractDeclarator (λ _. Unit {0}) F (λ _. Unit {0}) (λ _. Unit {0}) (λ _. Unit {0}) (λ _. Unit {0}) (λ _. Unit {0}) (λ _. Unit {0}) (λ _. Unit {0}) N (λ _. Unit {0}) (λ _. Unit {0}) t)
      (λ t. every-TypedDeclarator (λ _. Unit {0}) F (λ _. Unit {0}) (λ _. Unit {0}) (λ _. Unit {0}) (λ _. Unit {0}) (λ _. Unit {0}) (λ _. Unit {0}) (λ _. Unit {0}) N (λ _. Unit {0}) (λ _. Unit {0}) t)
      Every
      (λ t. every-TypedMemberDecl (λ _. Unit {0}) F (λ _. Unit {0}) (λ _. Unit {0}) (λ _. Unit {0}) (λ _. Unit {0}) (λ _. Unit {0}) (λ _. Unit {0}) (λ _. Unit {0}) N (λ _. Unit {0}) (λ _. Unit {0}) t)
      (λ t. every-TypedTypeWord (λ _. Unit {0}) F (λ _. Unit {0}) (λ _. Unit {0}) (λ _. Unit {0}) (λ _. Unit {0}) (λ _. Unit {0}) (λ _. Unit {0}) (λ _. Unit {0}) N (λ _. Unit {0}) (λ _. Unit {0}) t)
      layer.0)

-- ---- induction

module _ (Q : TypedExpr → Type 0) where
  abbrev IfForm : TypedForm → Type 0
  IfForm f = Operands Q (out-TypedForm f)

  abbrev Held : Type 0
  Held = HeldForm (λ _. Unit {0}) IfForm (λ _. Unit {0}) (λ _. Unit {0}) (λ _. Unit {0}) (λ _. Unit {0}) (λ _. Unit {0}) (λ _. Unit {0}) (λ _. Unit {0}) Q (λ _. Unit {0}) (λ _. Unit {0})

  abbrev plain : Held → FormLayer
  plain = bare (λ _. Unit {0}) IfForm (λ _. Unit {0}) (λ _. Unit {0}) (λ _. Unit {0}) (λ _. Unit {0}) (λ _. Unit {0}) (λ _. Unit {0}) (λ _. Unit {0}) Q (λ _. Unit {0}) (λ _. Unit {0})

  form-step : (x : FormLayer) (y : Held) → plain y ≡ x → IfForm (roll-TypedForm x)
  form-step x y is = subst (Operands Q) (sym (out-roll-TypedForm x)) (subst (Operands Q) is (held-operands (λ _. Unit {0}) IfForm (λ _. Unit {0}) (λ _. Unit {0}) (λ _. Unit {0}) (λ _. Unit {0}) (λ _. Unit {0}) (λ _. Unit {0}) (λ _. Unit {0}) Q (λ _. Unit {0}) (λ _. Unit {0}) y))

  abbrev Plain : Type 0 → Type 0
  Plain A = (a : A) × Unit {0}

  abbrev HeldNode : Type 0
  HeldNode = TypedExpr-F (Plain TypedDirect) ((f : TypedForm) × IfForm f) (Plain TypedParam) (Plain TypedParams) (Plain TypedSpec) (Plain TypedSuffix) (Plain Declared) (Plain TypedAbstractDeclarator) (Plain TypedDeclarator) ((e : TypedExpr) × Q e) (Plain TypedMemberDecl) (Plain TypedTypeWord)

  module _ (step : (e : TypedExpr) → Operands Q (out-TypedForm (out-TypedExpr e).form) → Q e) where
    abbrev bare-node : HeldNode → ExprNode
    bare-node y = record { form = y.form.0; ty = y.ty; constant = y.constant }

    expr-step : (x : ExprNode) (y : HeldNode) → bare-node y ≡ x → Q (roll-TypedExpr x)
    expr-step x y is = step (roll-TypedExpr x) (subst (λ n. IfForm n.form) (sym (out-roll-TypedExpr x)) (subst (λ n. IfForm n.form) is y.form.1))

    pub induction : (e : TypedExpr) → Q e
    induction = ind-TypedExpr (λ _. Unit {0}) IfForm (λ _. Unit {0}) (λ _. Unit {0}) (λ _. Unit {0}) (λ _. Unit {0}) (λ _. Unit {0}) (λ _. Unit {0}) (λ _. Unit {0}) Q (λ _. Unit {0}) (λ _. Unit {0})
        (λ x y is. tt) form-step (λ x y is. tt) (λ x y is. tt) (λ x y is. tt) (λ x y is. tt) (λ x y is. tt) (λ x y is. tt) (λ x y is. tt) expr-step (λ x y is. tt) (λ x y is. tt)
