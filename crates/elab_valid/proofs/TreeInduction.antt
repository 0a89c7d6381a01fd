-- Induction over typed expressions.
use Rattle.std.proofs.Common.{◌≡◌, List, [], ◌∷◌, map, ap, sym, subst}
use Rattle.c_typed.specs.declared.expression.Declared.{Declared, every-Declared}
use Rattle.c_typed.specs.declared.expression.TypedAbstractDeclarator.{TypedAbstractDeclarator, every-TypedAbstractDeclarator}
use Rattle.c_typed.specs.declared.expression.TypedDeclarator.{TypedDeclarator, every-TypedDeclarator}
use Rattle.c_typed.specs.declared.expression.TypedDirect.{TypedDirect, every-TypedDirect}
use Rattle.c_typed.specs.declared.expression.TypedDirect.TheOpen.{Declared-F, TypedExpr-F, TypedForm-F, TypedParam-F, TypedTypeWord-F}
use Rattle.c_typed.specs.declared.expression.TypedExpr.{TypedExpr, every-TypedExpr, every_here-TypedExpr, every_held-TypedExpr, ind-TypedExpr, out-TypedExpr, roll-TypedExpr, out-roll-TypedExpr}
use Rattle.c_typed.specs.declared.expression.TypedForm.{TypedForm, every-TypedForm, every_held-TypedForm, map-TypedForm, out-TypedForm, roll-TypedForm, out-roll-TypedForm}
use Rattle.c_typed.specs.declared.expression.TypedMemberDecl.{TypedMemberDecl, every-TypedMemberDecl}
use Rattle.c_typed.specs.declared.expression.TypedParam.{TypedParam, every-TypedParam}
use Rattle.c_typed.specs.declared.expression.TypedParams.{TypedParams, every-TypedParams}
use Rattle.c_typed.specs.declared.expression.TypedSpec.{TypedSpec, every-TypedSpec}
use Rattle.c_typed.specs.declared.expression.TypedSuffix.{TypedSuffix, every-TypedSuffix}
use Rattle.c_typed.specs.declared.expression.TypedTypeWord.{TypedTypeWord, every-TypedTypeWord}

abbrev pub Layer : Type 0
Layer = TypedForm-F TypedDirect TypedForm TypedParam TypedParams TypedSpec TypedSuffix Declared TypedAbstractDeclarator TypedDeclarator TypedExpr TypedMemberDecl TypedTypeWord

abbrev pub Node : Type 0
Node = TypedExpr-F TypedDirect TypedForm TypedParam TypedParams TypedSpec TypedSuffix Declared TypedAbstractDeclarator TypedDeclarator TypedExpr TypedMemberDecl TypedTypeWord

abbrev pub EachOf : (TypedExpr → Type 0) → List TypedExpr → Type 0
EachOf Q [] = Unit {0}
EachOf Q (x ∷ xs) = Q x × EachOf Q xs

-- the expressions that stand in a form, but for those in type words
abbrev pub EachPart : (TypedExpr → Type 0) → Layer → Type 0
EachPart Q (TypedForm-F.Assign x a y) = Q x × Q y
EachPart Q (TypedForm-F.Conditional e x y) = Q e × Q x × Q y
EachPart Q (TypedForm-F.Binary x o y) = Q x × Q y
EachPart Q (TypedForm-F.Cast w x) = Q x
EachPart Q (TypedForm-F.PreIncrement x) = Q x
EachPart Q (TypedForm-F.PreDecrement x) = Q x
EachPart Q (TypedForm-F.Unary o x) = Q x
EachPart Q (TypedForm-F.SizeofExpr x) = Q x
EachPart Q (TypedForm-F.SizeofType w) = Unit {0}
EachPart Q (TypedForm-F.Index x i) = Q x × Q i
EachPart Q (TypedForm-F.Call x arguments) = Q x × EachOf Q arguments
EachPart Q (TypedForm-F.Member x name n) = Q x
EachPart Q (TypedForm-F.Arrow x name n) = Q x
EachPart Q (TypedForm-F.PostIncrement x) = Q x
EachPart Q (TypedForm-F.PostDecrement x) = Q x
EachPart Q (TypedForm-F.Identifier x e) = Unit {0}
EachPart Q (TypedForm-F.Number n) = Unit {0}
EachPart Q (TypedForm-F.Text bytes n) = Unit {0}

-- ---- a form whose parts have what is said of them

module _ (Q : TypedExpr → Type 0) (A : TypedDirect → Type 0) (B : TypedForm → Type 0) (C : TypedParam → Type 0) (D : TypedParams → Type 0) (E : TypedSpec → Type 0)
    (F : TypedSuffix → Type 0) (G : Declared → Type 0) (H : TypedAbstractDeclarator → Type 0) (I : TypedDeclarator → Type 0) (J : TypedMemberDecl → Type 0) (K : TypedTypeWord → Type 0) where
  abbrev pub HeldLayer : Type 0
  HeldLayer = TypedForm-F ((t : TypedDirect) × A t) ((t : TypedForm) × B t) ((t : TypedParam) × C t) ((t : TypedParams) × D t) ((t : TypedSpec) × E t) ((t : TypedSuffix) × F t)
      ((t : Declared) × G t) ((t : TypedAbstractDeclarator) × H t) ((t : TypedDeclarator) × I t) ((t : TypedExpr) × Q t) ((t : TypedMemberDecl) × J t) ((t : TypedTypeWord) × K t)

  abbrev pub bare : HeldLayer → Layer
  bare = map-TypedForm ((t : TypedDirect) × A t) ((t : TypedForm) × B t) ((t : TypedParam) × C t) ((t : TypedParams) × D t) ((t : TypedSpec) × E t) ((t : TypedSuffix) × F t)
      ((t : Declared) × G t) ((t : TypedAbstractDeclarator) × H t) ((t : TypedDeclarator) × I t) ((t : TypedExpr) × Q t) ((t : TypedMemberDecl) × J t) ((t : TypedTypeWord) × K t)
      TypedDirect TypedForm TypedParam TypedParams TypedSpec TypedSuffix Declared TypedAbstractDeclarator TypedDeclarator TypedExpr TypedMemberDecl TypedTypeWord
      (λ e. e.0) (λ e. e.0) (λ e. e.0) (λ e. e.0) (λ e. e.0) (λ e. e.0) (λ e. e.0) (λ e. e.0) (λ e. e.0) (λ e. e.0) (λ e. e.0) (λ e. e.0)

  list-parts : (es : List ((t : TypedExpr) × Q t)) → EachOf Q (map (λ e. e.0) es)
  list-parts [] = tt
  list-parts (e ∷ es) = (e.1, list-parts es)

  pub parts : (y : HeldLayer) → EachPart Q (bare y)
  parts (TypedForm-F.Assign x a y) = (x.1, y.1)
  parts (TypedForm-F.Conditional e x y) = (e.1, x.1, y.1)
  parts (TypedForm-F.Binary x o y) = (x.1, y.1)
  parts (TypedForm-F.Cast w x) = x.1
  parts (TypedForm-F.PreIncrement x) = x.1
  parts (TypedForm-F.PreDecrement x) = x.1
  parts (TypedForm-F.Unary o x) = x.1
  parts (TypedForm-F.SizeofExpr x) = x.1
  parts (TypedForm-F.SizeofType w) = tt
  parts (TypedForm-F.Index x i) = (x.1, i.1)
  parts (TypedForm-F.Call x arguments) = (x.1, list-parts arguments)
  parts (TypedForm-F.Member x name n) = x.1
  parts (TypedForm-F.Arrow x name n) = x.1
  parts (TypedForm-F.PostIncrement x) = x.1
  parts (TypedForm-F.PostDecrement x) = x.1
  parts (TypedForm-F.Identifier x e) = tt
  parts (TypedForm-F.Number n) = tt
  parts (TypedForm-F.Text bytes n) = tt

-- ---- what holds at every level

abbrev pub LayerOf : ((A B C D E F G H I J K L : Type 0) → Type 0) → Type 0
LayerOf F = F TypedDirect TypedForm TypedParam TypedParams TypedSpec TypedSuffix Declared TypedAbstractDeclarator TypedDeclarator TypedExpr TypedMemberDecl TypedTypeWord

module _ (P : LayerOf TypedParam-F → Type 0) (D : LayerOf Declared-F → Type 0) (N : Node → Type 0) (W : LayerOf TypedTypeWord-F → Type 0) where
  abbrev pub Every : TypedExpr → Type 0
  Every = every-TypedExpr (λ _. Unit {0}) (λ _. Unit {0}) P (λ _. Unit {0}) (λ _. Unit {0}) (λ _. Unit {0})
      D (λ _. Unit {0}) (λ _. Unit {0}) N (λ _. Unit {0}) W

  abbrev EveryForm : TypedForm → Type 0
  EveryForm = every-TypedForm (λ _. Unit {0}) (λ _. Unit {0}) P (λ _. Unit {0}) (λ _. Unit {0}) (λ _. Unit {0})
      D (λ _. Unit {0}) (λ _. Unit {0}) N (λ _. Unit {0}) W

  pub here : (e : TypedExpr) → Every e → N (out-TypedExpr e)
  here = every_here-TypedExpr (λ _. Unit {0}) (λ _. Unit {0}) P (λ _. Unit {0}) (λ _. Unit {0}) (λ _. Unit {0})
      D (λ _. Unit {0}) (λ _. Unit {0}) N (λ _. Unit {0}) W

  pub inside : (e : TypedExpr) → Every e → EachPart Every (out-TypedForm (out-TypedExpr e).form)
  inside e h =
      let node = every_held-TypedExpr (λ _. Unit {0}) (λ _. Unit {0}) P (λ _. Unit {0}) (λ _. Unit {0}) (λ _. Unit {0})
      D (λ _. Unit {0}) (λ _. Unit {0}) N (λ _. Unit {0}) W e h in
      let form : EveryForm (out-TypedExpr e).form = subst EveryForm (ap (λ n. n.form) node.1) node.0.form.1 in
      let layer = every_held-TypedForm (λ _. Unit {0}) (λ _. Unit {0}) P (λ _. Unit {0}) (λ _. Unit {0}) (λ _. Unit {0})
      D (λ _. Unit {0}) (λ _. Unit {0}) N (λ _. Unit {0}) W (out-TypedExpr e).form form in
      subst (EachPart Every) layer.1 (parts Every
      (λ t. every-TypedDirect (λ _. Unit {0}) (λ _. Unit {0}) P (λ _. Unit {0}) (λ _. Unit {0}) (λ _. Unit {0}) D (λ _. Unit {0}) (λ _. Unit {0}) N (λ _. Unit {0}) W t)
      EveryForm
      (λ t. every-TypedParam (λ _. Unit {0}) (λ _. Unit {0}) P (λ _. Unit {0}) (λ _. Unit {0}) (λ _. Unit {0}) D (λ _. Unit {0}) (λ _. Unit {0}) N (λ _. Unit {0}) W t)
      (λ t. every-TypedParams (λ _. Unit {0}) (λ _. Unit {0}) P (λ _. Unit {0}) (λ _. Unit {0}) (λ _. Unit {0}) D (λ _. Unit {0}) (λ _. Unit {0}) N (λ _. Unit {0}) W t)
      (λ t. every-TypedSpec (λ _. Unit {0}) (λ _. Unit {0}) P (λ _. Unit {0}) (λ _. Unit {0}) (λ _. Unit {0}) D (λ _. Unit {0}) (λ _. Unit {0}) N (λ _. Unit {0}) W t)
      (λ t. every-TypedSuffix (λ _. Unit {0}) (λ _. Unit {0}) P (λ _. Unit {0}) (λ _. Unit {0}) (λ _. Unit {0}) D (λ _. Unit {0}) (λ _. Unit {0}) N (λ _. Unit {0}) W t)
      (λ t. every-Declared (λ _. Unit {0}) (λ _. Unit {0}) P (λ _. Unit {0}) (λ _. Unit {0}) (λ _. Unit {0}) D (λ _. Unit {0}) (λ _. Unit {0}) N (λ _. Unit {0}) W t)
      (λ t. every-TypedAbstractDeclarator (λ _. Unit {0}) (λ _. Unit {0}) P (λ _. Unit {0}) (λ _. Unit {0}) (λ _. Unit {0}) D (λ _. Unit {0}) (λ _. Unit {0}) N (λ _. Unit {0}) W t)
      (λ t. every-TypedDeclarator (λ _. Unit {0}) (λ _. Unit {0}) P (λ _. Unit {0}) (λ _. Unit {0}) (λ _. Unit {0}) D (λ _. Unit {0}) (λ _. Unit {0}) N (λ _. Unit {0}) W t)
      (λ t. every-TypedMemberDecl (λ _. Unit {0}) (λ _. Unit {0}) P (λ _. Unit {0}) (λ _. Unit {0}) (λ _. Unit {0}) D (λ _. Unit {0}) (λ _. Unit {0}) N (λ _. Unit {0}) W t)
      (λ t. every-TypedTypeWord (λ _. Unit {0}) (λ _. Unit {0}) P (λ _. Unit {0}) (λ _. Unit {0}) (λ _. Unit {0}) D (λ _. Unit {0}) (λ _. Unit {0}) N (λ _. Unit {0}) W t)
      layer.0)

-- ---- two and three facts of each part

both_of : (A B C : TypedExpr → Type 0) → ((e : TypedExpr) → A e → B e → C e) → (es : List TypedExpr) → EachOf A es → EachOf B es → EachOf C es
both_of A B C h [] a b = tt
both_of A B C h (e ∷ es) a b = (h e a.0 b.0, both_of A B C h es a.1 b.1)

pub both : (A B C : TypedExpr → Type 0) → ((e : TypedExpr) → A e → B e → C e) → (f : Layer) → EachPart A f → EachPart B f → EachPart C f
both A B C h (TypedForm-F.Assign x a y) p q = (h x p.0 q.0, h y p.1 q.1)
both A B C h (TypedForm-F.Conditional e x y) p q = (h e p.0 q.0, h x p.1 q.1, h y p.2 q.2)
both A B C h (TypedForm-F.Binary x o y) p q = (h x p.0 q.0, h y p.1 q.1)
both A B C h (TypedForm-F.Cast w x) p q = h x p q
both A B C h (TypedForm-F.PreIncrement x) p q = h x p q
both A B C h (TypedForm-F.PreDecrement x) p q = h x p q
both A B C h (TypedForm-F.Unary o x) p q = h x p q
both A B C h (TypedForm-F.SizeofExpr x) p q = h x p q
both A B C h (TypedForm-F.SizeofType w) p q = tt
both A B C h (TypedForm-F.Index x i) p q = (h x p.0 q.0, h i p.1 q.1)
both A B C h (TypedForm-F.Call x arguments) p q = (h x p.0 q.0, both_of A B C h arguments p.1 q.1)
both A B C h (TypedForm-F.Member x name n) p q = h x p q
both A B C h (TypedForm-F.Arrow x name n) p q = h x p q
both A B C h (TypedForm-F.PostIncrement x) p q = h x p q
both A B C h (TypedForm-F.PostDecrement x) p q = h x p q
both A B C h (TypedForm-F.Identifier x e) p q = tt
both A B C h (TypedForm-F.Number n) p q = tt
both A B C h (TypedForm-F.Text bytes n) p q = tt

-- ---- induction

module _ (Q : TypedExpr → Type 0) where
  abbrev IfForm : TypedForm → Type 0
  IfForm f = EachPart Q (out-TypedForm f)

  abbrev Plain : Type 0 → Type 0
  Plain A = (a : A) × Unit {0}

  abbrev Held : Type 0
  Held = HeldLayer Q (λ _. Unit {0}) IfForm (λ _. Unit {0}) (λ _. Unit {0}) (λ _. Unit {0}) (λ _. Unit {0}) (λ _. Unit {0}) (λ _. Unit {0}) (λ _. Unit {0}) (λ _. Unit {0}) (λ _. Unit {0})

  abbrev plain : Held → Layer
  plain = bare Q (λ _. Unit {0}) IfForm (λ _. Unit {0}) (λ _. Unit {0}) (λ _. Unit {0}) (λ _. Unit {0}) (λ _. Unit {0}) (λ _. Unit {0}) (λ _. Unit {0}) (λ _. Unit {0}) (λ _. Unit {0})

  held-parts : (y : Held) → EachPart Q (plain y)
  held-parts = parts Q (λ _. Unit {0}) IfForm (λ _. Unit {0}) (λ _. Unit {0}) (λ _. Unit {0}) (λ _. Unit {0}) (λ _. Unit {0}) (λ _. Unit {0}) (λ _. Unit {0}) (λ _. Unit {0}) (λ _. Unit {0})

  abbrev HeldNode : Type 0
  HeldNode = TypedExpr-F (Plain TypedDirect) ((f : TypedForm) × IfForm f) (Plain TypedParam) (Plain TypedParams) (Plain TypedSpec) (Plain TypedSuffix) (Plain Declared)
      (Plain TypedAbstractDeclarator) (Plain TypedDeclarator) ((e : TypedExpr) × Q e) (Plain TypedMemberDecl) (Plain TypedTypeWord)

  form-step : (x : Layer) (y : Held) → plain y ≡ x → IfForm (roll-TypedForm x)
  form-step x y is = subst (EachPart Q) (sym (out-roll-TypedForm x)) (subst (EachPart Q) is (held-parts y))

  module _ (step : (e : TypedExpr) → EachPart Q (out-TypedForm (out-TypedExpr e).form) → Q e) where
    abbrev bare-node : HeldNode → Node
    bare-node y = record { form = y.form.0; ty = y.ty; constant = y.constant }

    expr-step : (x : Node) (y : HeldNode) → bare-node y ≡ x → Q (roll-TypedExpr x)
    expr-step x y is = step (roll-TypedExpr x) (subst (λ n. IfForm n.form) (sym (out-roll-TypedExpr x)) (subst (λ n. IfForm n.form) is y.form.1))

    pub induction : (e : TypedExpr) → Q e
    induction = ind-TypedExpr (λ _. Unit {0}) IfForm (λ _. Unit {0}) (λ _. Unit {0}) (λ _. Unit {0}) (λ _. Unit {0})
        (λ _. Unit {0}) (λ _. Unit {0}) (λ _. Unit {0}) Q (λ _. Unit {0}) (λ _. Unit {0})
        (λ x y is. tt) form-step (λ x y is. tt) (λ x y is. tt) (λ x y is. tt) (λ x y is. tt)
        (λ x y is. tt) (λ x y is. tt) (λ x y is. tt) expr-step (λ x y is. tt) (λ x y is. tt)
