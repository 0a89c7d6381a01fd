-- The constant of an expression is what is answered of it, form by form.
use Rattle.std.proofs.Common.{◌≡◌, ◌∙◌, ℕ, ℤ, pos, Bool, List, [], ◌∷◌, map, Ok, Err, refl, ap, sym, subst}
use Rattle.c_types.specs.declared.ty.Ty.{Ty, out-Ty}
use Rattle.c_types.specs.Units.{units_of}
use Rattle.c_tree.specs.Fold.{Pass, fold}
use Rattle.c_tree.specs.inner.FoldEquations as equations
use Rattle.c_const.specs.declared.error.ConstRefusal.TheVariants.{Divide}
use Rattle.c_const.specs.Constant.{Answer, Values, ◌>>=◌, constant_value, size_of, value_steps}
use Rattle.c_typed.specs.declared.entity.Constant.{Constant}
use Rattle.c_typed.specs.declared.entity.Constant.TheVariants as constant
use Rattle.c_typed.specs.declared.expression.TypedDirect.TheOpen.{TypedForm-F}
use Rattle.c_typed.specs.declared.expression.TypedExpr.{TypedExpr, out-TypedExpr}
use Rattle.c_typed.specs.declared.expression.TypedForm.{out-TypedForm}
use Rattle.c_typed.specs.declared.expression.TypedTypeWord.{TypedTypeWord, out-TypedTypeWord}
use Rattle.c_typed.specs.Erased.{erased_expr}
use Rattle.c_operators.specs.Constants.{of_binary, of_cast, of_conditional, of_unary}
use Rattle.c_operators.specs.Operators.{FormLayer, constant_of, form_of}
use Rattle.c_typed_rows.specs.Contexts.{Context}
use Rattle.c_typed_rows.specs.Expressions.{FormRow, IsTypedExpr, NodeLevel}
use Rattle.c_typed_constants.specs.Theorems.{ConstantsAgree}
use Rattle.c_typed_constants.specs.Words.{FormReads, IsRead, WordsAreRead, word_tree}
use Rattle.c_typed_constants.proofs.Answers.{Agrees, Of, binary-agrees, cast-agrees, conditional-agrees, never-agrees, other-agrees, unary-agrees}
use Rattle.c_typed_constants.proofs.Trees.{Operands, expr-tree, form-here, here, induction, inside, layer_tree, operands-joined}

-- an answer is one thing
abbrev value_answer : ℤ → Answer ℤ
value_answer v = Ok v

abbrev divide_answer : Answer ℤ
divide_answer = Err Divide

value_same : (u v : ℤ) → value_answer u ≡ value_answer v → u ≡ v
value_same u v is = cc

no_refusal : (v : ℤ) → divide_answer ≡ value_answer v → ⊥
no_refusal v is = cc

module _ (k : Context) (names : List (List ℕ × Ty)) where
  abbrev of : Pass Values
  of = fold (value_steps k.structs names)

  -- what is answered of an expression agrees with its constant
  abbrev ExprAgrees : TypedExpr → Type 0
  ExprAgrees x = Of (constant_of x) (of.expr (erased_expr x))

  -- the same of a form, with this constant
  abbrev FormAgrees : FormLayer → Constant → Type 0
  FormAgrees node c = Of c (of.expr (layer_tree node))

  -- a form's answers are these
  answered : (node : FormLayer) (c d : Constant) (p : Bool → Answer ℤ) → of.expr (layer_tree node) ≡ p → c ≡ d → Of d p → FormAgrees node c
  answered node c d p is same agrees = subst (λ e. Of e (of.expr (layer_tree node))) (sym same) (subst (Of d) (sym is) agrees)

  sized : (w : TypedTypeWord) (n : ℕ) → IsRead k.structs names w → units_of k.structs (out-TypedTypeWord w).ty ≡ Ok n
      → (of.type_word (word_tree w) >>= (λ t. size_of (units_of k.structs t))) ≡ Ok (pos n)
  sized w n read units = ap (λ (r : Answer Ty). r >>= (λ t. size_of (units_of k.structs t))) read ∙ ap size_of units

  form-agrees : (node : FormLayer) (t : Ty) (c : Constant) → FormRow k node t c → FormReads k.structs names node → Operands ExprAgrees node → FormAgrees node c
  form-agrees (TypedForm-F.Assign x a y) t c row reads parts =
      answered (TypedForm-F.Assign x a y) c constant.Other _ (equations.expr-Assign (value_steps k.structs names) (erased_expr x) a (erased_expr y)) row.1 (other-agrees (of.expr (erased_expr x) ∷ of.expr (erased_expr y) ∷ []))
  form-agrees (TypedForm-F.Conditional e x y) t c row reads parts =
      answered (TypedForm-F.Conditional e x y) c (of_conditional (constant_of e) (constant_of x) (constant_of y)) _ (equations.expr-Conditional (value_steps k.structs names) (erased_expr e) (erased_expr x) (erased_expr y)) row.1
      (conditional-agrees (constant_of e) (constant_of x) (constant_of y) (of.expr (erased_expr e)) (of.expr (erased_expr x)) (of.expr (erased_expr y)) parts.0 parts.1 parts.2)
  form-agrees (TypedForm-F.Binary x o y) t c row reads parts =
      answered (TypedForm-F.Binary x o y) c (of_binary o (constant_of x) (constant_of y)) _ (equations.expr-Binary (value_steps k.structs names) (erased_expr x) o (erased_expr y)) row.1
      (binary-agrees o (constant_of x) (constant_of y) (of.expr (erased_expr x)) (of.expr (erased_expr y)) parts.0 parts.1)
  form-agrees (TypedForm-F.Cast w x) t c row reads parts =
      answered (TypedForm-F.Cast w x) c (of_cast (out-Ty t) (constant_of x)) _ (equations.expr-Cast (value_steps k.structs names) (word_tree w) (erased_expr x)) row.1
      (cast-agrees (of.type_word (word_tree w)) t (constant_of x) (of.expr (erased_expr x)) (reads ∙ ap Ok (sym row.0.ty)) parts)
  form-agrees (TypedForm-F.PreIncrement x) t c row reads parts =
      answered (TypedForm-F.PreIncrement x) c constant.Other _ (equations.expr-PreIncrement (value_steps k.structs names) (erased_expr x)) row.1 (other-agrees (of.expr (erased_expr x) ∷ []))
  form-agrees (TypedForm-F.PreDecrement x) t c row reads parts =
      answered (TypedForm-F.PreDecrement x) c constant.Other _ (equations.expr-PreDecrement (value_steps k.structs names) (erased_expr x)) row.1 (other-agrees (of.expr (erased_expr x) ∷ []))
  form-agrees (TypedForm-F.Unary o x) t c row reads parts =
      answered (TypedForm-F.Unary o x) c (of_unary o (constant_of x)) _ (equations.expr-Unary (value_steps k.structs names) o (erased_expr x)) row.1
      (unary-agrees o (constant_of x) (of.expr (erased_expr x)) parts)
  form-agrees (TypedForm-F.SizeofExpr x) t c row reads parts =
      answered (TypedForm-F.SizeofExpr x) c constant.Other _ (equations.expr-SizeofExpr (value_steps k.structs names) (erased_expr x)) row.1 (never-agrees (of.expr (erased_expr x) ∷ []))
  form-agrees (TypedForm-F.SizeofType w) t c row reads parts =
      answered (TypedForm-F.SizeofType w) c (constant.Value (pos row.units)) _ (equations.expr-SizeofType (value_steps k.structs names) (word_tree w)) row.value
      (sized w row.units reads row.are, sized w row.units reads row.are)
  form-agrees (TypedForm-F.Index x i) t c row reads parts =
      answered (TypedForm-F.Index x i) c constant.Other _ (equations.expr-Index (value_steps k.structs names) (erased_expr x) (erased_expr i)) row.1 (other-agrees (of.expr (erased_expr x) ∷ of.expr (erased_expr i) ∷ []))
  form-agrees (TypedForm-F.Call f arguments) t c row reads parts =
      answered (TypedForm-F.Call f arguments) c constant.Other _ (equations.expr-Call (value_steps k.structs names) (erased_expr f) (map erased_expr arguments)) row.1
      (other-agrees (of.expr (erased_expr f) ∷ map of.expr (map erased_expr arguments)))
  form-agrees (TypedForm-F.Member x name n) t c row reads parts =
      answered (TypedForm-F.Member x name n) c constant.Other _ (equations.expr-Member (value_steps k.structs names) (erased_expr x) name) row.1 (other-agrees (of.expr (erased_expr x) ∷ []))
  form-agrees (TypedForm-F.Arrow x name n) t c row reads parts =
      answered (TypedForm-F.Arrow x name n) c constant.Other _ (equations.expr-Arrow (value_steps k.structs names) (erased_expr x) name) row.1 (other-agrees (of.expr (erased_expr x) ∷ []))
  form-agrees (TypedForm-F.PostIncrement x) t c row reads parts =
      answered (TypedForm-F.PostIncrement x) c constant.Other _ (equations.expr-PostIncrement (value_steps k.structs names) (erased_expr x)) row.1 (other-agrees (of.expr (erased_expr x) ∷ []))
  form-agrees (TypedForm-F.PostDecrement x) t c row reads parts =
      answered (TypedForm-F.PostDecrement x) c constant.Other _ (equations.expr-PostDecrement (value_steps k.structs names) (erased_expr x)) row.1 (other-agrees (of.expr (erased_expr x) ∷ []))
  form-agrees (TypedForm-F.Identifier name e) t c row reads parts =
      answered (TypedForm-F.Identifier name e) c constant.Other _ (equations.expr-Identifier (value_steps k.structs names) name) row.1 (other-agrees [])
  form-agrees (TypedForm-F.Number n) t c row reads parts =
      answered (TypedForm-F.Number n) c (constant.Value n) _ (equations.expr-Number (value_steps k.structs names) n) row.1 (refl, refl)
  form-agrees (TypedForm-F.Text bytes n) t c row reads parts =
      answered (TypedForm-F.Text bytes n) c constant.Other _ (equations.expr-Text (value_steps k.structs names) bytes) row.1 (other-agrees [])

  -- ---- whole expressions

  abbrev IfTyped : TypedExpr → Type 0
  IfTyped x = IsTypedExpr k x → WordsAreRead k.structs names x → ExprAgrees x

  abbrev AnyForm : FormLayer → Type 0
  AnyForm node = Unit {0}

  step : (x : TypedExpr) → Operands IfTyped (out-TypedForm (out-TypedExpr x).form) → IfTyped x
  unfolding IsTypedExpr WordsAreRead constant_of form_of
  step x parts typed reads =
      let node : FormLayer = out-TypedForm (out-TypedExpr x).form in
      let operands : Operands ExprAgrees node = operands-joined IfTyped (IsTypedExpr k) (WordsAreRead k.structs names) ExprAgrees (λ e h t r. h t r) node parts
      (inside AnyForm (NodeLevel k) x typed) (inside (FormReads k.structs names) (λ _. Unit {0}) x reads) in
      let level = here AnyForm (NodeLevel k) x typed in
      subst (λ t. Of (constant_of x) (of.expr t)) (sym (expr-tree x))
      (form-agrees node (out-TypedExpr x).ty (out-TypedExpr x).constant level.row (form-here (FormReads k.structs names) (λ _. Unit {0}) x reads) operands)

  all-agree : (x : TypedExpr) → IfTyped x
  all-agree = induction IfTyped step

-- ---- the value

value-is : (c : Constant) (live dead : Answer ℤ) (v : ℤ) → Agrees c live dead → live ≡ Ok v → c ≡ constant.Value v
value-is (constant.Value u) live dead v agrees is = let same : u ≡ v = value_same u v (sym agrees.0 ∙ is) in ap constant.Value same
value-is constant.Divides live dead v agrees is = absurd (no_refusal v (sym agrees.0 ∙ is))
value-is constant.Other live dead v agrees is = absurd (agrees.0 v is)

value-of : (c : Constant) (live dead : Answer ℤ) (v : ℤ) → Agrees c live dead → c ≡ constant.Value v → live ≡ Ok v
value-of (constant.Value u) live dead v agrees is = let same : u ≡ v = cc in agrees.0 ∙ ap Ok same
value-of constant.Divides live dead v agrees is = cc
value-of constant.Other live dead v agrees is = cc

divides-of : (c : Constant) (live dead : Answer ℤ) → Agrees c live dead → c ≡ constant.Divides → live ≡ Err Divide
divides-of (constant.Value u) live dead agrees is = cc
divides-of constant.Divides live dead agrees is = agrees.0
divides-of constant.Other live dead agrees is = cc

pub agree : ConstantsAgree
unfolding constant_value
agree = record {
  value = λ k names x typed reads v. (
    value-of (constant_of x) _ _ v (all-agree k names x typed reads),
    value-is (constant_of x) _ _ v (all-agree k names x typed reads),
  );
  divides = λ k names x typed reads. divides-of (constant_of x) _ _ (all-agree k names x typed reads);
}
