-- The code of each form of an initialiser.
use Rattle.std.proofs.Common.{◌≡◌, ◌∙◌, ℕ, List, [], ◌∷◌, ◌++◌, map, ap, refl, sym, Some, None}
use Rattle.c_types.specs.declared.structs.Member.{Member}
use Rattle.c_types.specs.declared.structs.StructDef.{StructDef}
use Rattle.c_types.specs.declared.ty.Ty.{Ty, out-Ty, out-roll-Ty}
use Rattle.c_types.specs.declared.ty.Ty.TheOpen.{Ty-F}
use Rattle.c_types.specs.declared.ty.Ty.TheVariants as ty
use Rattle.c_types.specs.Structs.{members_of}
use Rattle.c_typed.specs.declared.expression.TypedExpr.{TypedExpr}
use Rattle.c_typed.specs.declared.statement.TypedInit.{TypedInit, out-TypedInit, out-roll-TypedInit}
use Rattle.c_typed.specs.declared.statement.TypedInit.TheOpen.{TypedInit-F}
use Rattle.c_typed.specs.declared.statement.TypedInit.TheVariants as init
use Rattle.elab_rows.specs.Addresses.{slot_assigned}
use Rattle.elab_rows.specs.Units.{scalars}
use Rattle.elab_rows.specs.Values.{converted_code}
use Rattle.elab_rows.specs.declared.scope.Scope.{Scope}
use Rattle.elab_pieces.specs.Initialisers.{ByExpr, Leaves, brace_leaves, initialised_at, leaf_assigned, leaves, part_types, part_types_at}
use Rattle.elab_pieces.specs.Lines.{all_full}
use Rattle.elab_pieces.specs.Statements.{slot_initialised}
use Rattle.elab_statements.specs.declared.targets.Target.{Target}
use Rattle.elab_statements.specs.Initialised.{base_code, initialised_by, kept_leaves}
use Rattle.elab_statements.specs.inner.Leaves.{element_leaves, leaf_lines, lvalue_of, member_leaves, text_lines}
use Rattle.elab_statements.proofs.InitForms.{leaves-Braces, leaves-Expr, leaves-Text}
use Rattle.elab_statements.proofs.LeafLines.{expr_lines, text_is}

out-expr : (e : TypedExpr) → out-TypedInit (init.Expr e) ≡ TypedInit-F.Expr e
out-expr e = ap out-TypedInit (sym (init.rolls-Expr e)) ∙ out-roll-TypedInit (TypedInit-F.Expr e)

-- a slot local
pub slot_expr : (scope : Scope) (s : ℕ) (t : Ty) (i : TypedInit) (e : TypedExpr) → i ≡ init.Expr e
    → slot_initialised scope s t (out-TypedInit i) ≡ slot_assigned s (converted_code scope e t) ∷ []
slot_expr scope s t i e h = ap (λ j. slot_initialised scope s t (out-TypedInit j)) h ∙ ap (slot_initialised scope s t) (out-expr e)

module _ (scope : Scope) (x : Target) where
  -- a whole variable that an expression gives
  pub whole_expr : (i : TypedInit) (e : TypedExpr) → i ≡ init.Expr e
      → initialised_by scope x i ≡ all_full (leaf_assigned scope (lvalue_of x None x.ty) (ByExpr e) ∷ [])
  whole_expr i e h =
      let ls = kept_leaves x.all (leaves scope.structs i x.ty 0) in
      ap (λ j. all_full (initialised_at scope x.ty (base_code x.base) ls (out-TypedInit j))) h
      ∙ ap (λ o. all_full (initialised_at scope x.ty (base_code x.base) ls o)) (out-expr e)

  -- parts
  pub part_expr : (i : TypedInit) (e : TypedExpr) (t : Ty) (k : ℕ) → i ≡ init.Expr e
      → leaf_lines scope x (leaves scope.structs i t k) ≡ all_full (leaf_assigned scope (lvalue_of x (Some k) t) (ByExpr e) ∷ [])
  part_expr i e t k h =
      ap (λ j. leaf_lines scope x (leaves scope.structs j t k)) h ∙ ap (leaf_lines scope x) (leaves-Expr scope.structs e t k) ∙ expr_lines scope x k t e

  pub part_text : (i : TypedInit) (bs : List ℕ) (t : Ty) (k : ℕ) → i ≡ init.Text bs
      → leaf_lines scope x (leaves scope.structs i t k) ≡ text_lines x (bs ++ 0 ∷ []) (scalars scope.structs t) k
  part_text i bs t k h =
      ap (λ j. leaf_lines scope x (leaves scope.structs j t k)) h ∙ ap (leaf_lines scope x) (leaves-Text scope.structs bs t k)
      ∙ sym (text_is scope x (bs ++ 0 ∷ []) (scalars scope.structs t) k)

  pub part_braces : (i : TypedInit) (ps : List TypedInit) (t : Ty) (k : ℕ) → i ≡ init.Braces ps
      → leaf_lines scope x (leaves scope.structs i t k)
      ≡ leaf_lines scope x (brace_leaves scope.structs (map (leaves scope.structs) ps) (part_types scope.structs t) k)
  part_braces i ps t k h =
      ap (λ j. leaf_lines scope x (leaves scope.structs j t k)) h ∙ ap (leaf_lines scope x) (leaves-Braces scope.structs ps t k)

  -- a whole variable that a string gives
  pub whole_text : (bs : List ℕ) → initialised_by scope x (init.Text bs) ≡ text_lines x (bs ++ 0 ∷ []) (scalars scope.structs x.ty) 0
  whole_text bs =
      let i = init.Text bs in
      let ls = kept_leaves x.all (leaves scope.structs i x.ty 0) in
      let opened : out-TypedInit i ≡ TypedInit-F.Text bs = ap out-TypedInit (sym (init.rolls-Text bs)) ∙ out-roll-TypedInit (TypedInit-F.Text bs) in
      ap (λ o. all_full (initialised_at scope x.ty (base_code x.base) ls o)) opened ∙ part_text i bs x.ty 0 refl

-- the parts of an array, and of a struct
pub array_parts : (defs : List StructDef) (ps : List Leaves) (t e : Ty) (n k : ℕ) → t ≡ ty.Array e n
    → brace_leaves defs ps (part_types defs t) k ≡ element_leaves defs ps e n k
array_parts defs ps t e n k h =
    let opened : out-Ty t ≡ Ty-F.Array e n = ap out-Ty (h ∙ sym (ty.rolls-Array e n)) ∙ out-roll-Ty (Ty-F.Array e n) in
    ap (λ o. brace_leaves defs ps (part_types_at defs o) k) opened

pub struct_parts : (defs : List StructDef) (ps : List Leaves) (t : Ty) (s : ℕ) (ms : List Member) (k : ℕ) → t ≡ ty.Struct s → ms ≡ members_of defs s
    → brace_leaves defs ps (part_types defs t) k ≡ member_leaves defs ps ms k
struct_parts defs ps t s ms k h m =
    let opened : out-Ty t ≡ Ty-F.Struct s = ap out-Ty (h ∙ sym (ty.rolls-Struct s)) ∙ out-roll-Ty (Ty-F.Struct s) in
    ap (λ o. brace_leaves defs ps (part_types_at defs o) k) opened ∙ ap (λ ns. brace_leaves defs ps (map (λ n. n.ty) ns) k) (sym m)
