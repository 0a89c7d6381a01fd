-- What stands behind the operands of an operator, and the conversions in front of it.
use Rattle.std.proofs.Common.{◌≡◌, ◌∙◌, ℕ, pos, Bool, true, false, inr, List, [], ◌∷◌, ◌++◌, append_assoc, append-nil, length, Option, Some, None, refl, ap, sym, subst}
use Rattle.std.specs.Prelude.{if◌then◌else◌}
use Rattle.c_types.specs.declared.structs.StructDef.{StructDef}
use Rattle.c_types.specs.declared.ty.Ty.{Ty}
use Rattle.c_types.specs.declared.ty.Ty.TheVariants as ty
use Rattle.c_types.specs.Kinds.{is_pointer, is_scalar, is_scalar_at}
use Rattle.c_types.specs.Same.{same}
use Rattle.c_types.specs.Sound.{names_below}
use Rattle.c_tree.specs.declared.operator.AssignOperator.{AssignOperator}
use Rattle.c_tree.specs.declared.operator.AssignOperator.TheVariants as assign
use Rattle.c_tree.specs.declared.operator.BinaryOperator.{BinaryOperator}
use Rattle.c_tree.specs.declared.operator.BinaryOperator.TheVariants as op
use Rattle.c_tree.specs.Operators.{binary_operator}
use Rattle.c_operators.specs.Operators.{common_type}
use Rattle.core_ir.specs.declared.instr.Instr.{Instr}
use Rattle.core_ir.specs.declared.instr.Instr.TheVariants.{Binary, Cast, PtrAdd}
use Rattle.core_ir.specs.declared.operator.Operator.TheVariants as operator
use Rattle.core_ir.specs.declared.program.Function.{Function}
use Rattle.core_ir.specs.declared.program.Program.{Program}
use Rattle.core_ir.specs.Valid.{is_binary}
use Rattle.core_parts.specs.Theorems.{PartLaws}
use Rattle.elab_rows.specs.declared.operation.Last.{Last}
use Rattle.elab_rows.specs.declared.operation.Last.TheVariants as last
use Rattle.elab_rows.specs.declared.operation.Operation.{Operation}
use Rattle.elab_rows.specs.Made.{Code, behind, combined, converted, extended}
use Rattle.elab_rows.specs.Rows.{Operand, binary_code, converted_to, difference, last_code, number, operand_type, operated, operation_code, operation_of, operator_of, plain, sum, unary_code}
use Rattle.elab_laws.specs.FittingLaws.{RowsFit}
use Rattle.elab_laws.specs.TouchingLaws.{RowsTouch}
use Rattle.elab_laws.specs.Theorems.{GivesAt, RowsAreGood}
use Rattle.elab_laws.specs.Values.{IsGood}
use Rattle.elab_valid.proofs.KeptRows as kept
use Rattle.elab_valid.proofs.KeptRows.{Kept}
use Rattle.elab_valid.proofs.NamedTypes.{int-named}
use Rattle.elab_valid.proofs.OperatorTypes.{common-only, given}
use Rattle.elab_valid.proofs.Sources as source
use Rattle.elab_valid.proofs.Sources.{HasSource}
use Rattle.elab_valid.proofs.TypeKinds.{out-Int}

-- ---- which operators have a row of values

abbrev pub IsOperated : BinaryOperator → Type 0
IsOperated op.LogicalOr = ⊥
IsOperated op.LogicalAnd = ⊥
IsOperated _ = Unit {0}

abbrev IfOperated : Option BinaryOperator → Type 0
IfOperated None = Unit {0}
IfOperated (Some o) = IsOperated o

pub assigned-operated : (a : AssignOperator) (o : BinaryOperator) → binary_operator a ≡ Some o → IsOperated o
assigned-operated assign.Assign o e = absurd (cc)
assigned-operated assign.Add o e = subst (λ (x : Option BinaryOperator). IfOperated x) e tt
assigned-operated assign.Subtract o e = subst (λ (x : Option BinaryOperator). IfOperated x) e tt
assigned-operated assign.Multiply o e = subst (λ (x : Option BinaryOperator). IfOperated x) e tt
assigned-operated assign.Divide o e = subst (λ (x : Option BinaryOperator). IfOperated x) e tt
assigned-operated assign.Remainder o e = subst (λ (x : Option BinaryOperator). IfOperated x) e tt
assigned-operated assign.BitwiseAnd o e = subst (λ (x : Option BinaryOperator). IfOperated x) e tt
assigned-operated assign.BitwiseOr o e = subst (λ (x : Option BinaryOperator). IfOperated x) e tt
assigned-operated assign.BitwiseExclusiveOr o e = subst (λ (x : Option BinaryOperator). IfOperated x) e tt
assigned-operated assign.ShiftLeft o e = subst (λ (x : Option BinaryOperator). IfOperated x) e tt
assigned-operated assign.ShiftRight o e = subst (λ (x : Option BinaryOperator). IfOperated x) e tt

binary_is : (o : BinaryOperator) → IsOperated o → is_binary (operator_of o) ≡ true
binary_is op.LogicalOr h = absurd h
binary_is op.LogicalAnd h = absurd h
binary_is op.Equal h = refl
binary_is op.NotEqual h = refl
binary_is op.Less h = refl
binary_is op.Greater h = refl
binary_is op.LessEqual h = refl
binary_is op.GreaterEqual h = refl
binary_is op.Add h = refl
binary_is op.Subtract h = refl
binary_is op.BitwiseOr h = refl
binary_is op.BitwiseExclusiveOr h = refl
binary_is op.BitwiseAnd h = refl
binary_is op.ShiftLeft h = refl
binary_is op.ShiftRight h = refl
binary_is op.Multiply h = refl
binary_is op.Divide h = refl
binary_is op.Remainder h = refl

pub if-holds : {A : Type 0} (P : A → Type 0) (b : Bool) (x y : A) → P x → P y → P (if b then x else y)
if-holds P true x y hx hy = hx
if-holds P false x y hx hy = hy

pub int-scalar : is_scalar ty.Int ≡ true
unfolding is_scalar
int-scalar = ap is_scalar_at out-Int

-- ---- code that begins with that of another

abbrev pub Begins : Code → Code → Type 0
Begins a c = (place register slot : ℕ) → (rest : List Instr) × ((c place register slot).code ≡ (a place register slot).code ++ rest)

begins-extended : (i : ℕ → ℕ → Instr) (a c : Code) → Begins a c → Begins a (extended i c)
begins-extended i a c h place register slot =
    let x = a place register slot in
    let y = c place register slot in
    let b = h place register slot in
    (b.0 ++ i y.register y.result ∷ [], ap (λ z. z ++ i y.register y.result ∷ []) b.1 ∙ append_assoc x.code b.0 (i y.register y.result ∷ []))

begins-combined : (i : ℕ → ℕ → ℕ → Instr) (a c d : Code) → Begins a c → Begins a (combined i c d)
begins-combined i a c d h place register slot =
    let x = a place register slot in
    let y = c place register slot in
    let z = behind place y d in
    let b = h place register slot in
    let end = i z.register y.result z.result ∷ [] in
    (b.0 ++ z.code ++ end, ap (λ w. w ++ z.code ++ end) b.1 ∙ ap (λ w. w ++ end) (append_assoc x.code b.0 z.code) ∙ append_assoc x.code (b.0 ++ z.code) end)

begins-if : (b : Bool) (a c d : Code) → Begins a c → Begins a d → Begins a (if b then c else d)
begins-if true a c d hc hd = hc
begins-if false a c d hc hd = hd

pub begins-converted : (from to : Ty) (a c : Code) → Begins a c → Begins a (converted from to c)
begins-converted from to a c h = begins-if (same from to) a c (extended (λ d x. Cast d x from to) c) h (begins-extended (λ d x. Cast d x from to) a c h)

begins-last : (l : Last) (a c d : Code) → Begins a c → Begins a (last_code l c d)
begins-last (last.Binary o) a c d h = begins-combined (λ d x y. Binary d o x y) a c d h
begins-last (last.PointerPlus n) a c d h = begins-combined (λ d x y. PtrAdd d x y n) a c d h
begins-last (last.PlusPointer n) a c d h = begins-combined (λ d x y. PtrAdd d y x n) a c d h
begins-last (last.PointerMinus n) a c d h = begins-combined (λ d x y. PtrAdd d x y n) a c (unary_code operator.Subtract d) h
begins-last (last.PointerDifference n) a c d h =
    begins-combined (λ d x y. Binary d operator.Divide x y) a (binary_code operator.Subtract c d) (number (pos n)) (begins-combined (λ d x y. Binary d operator.Subtract x y) a c d h)

pub begins-operation : (r : Operation) (x y : Operand) → Begins x.code (operation_code r x y)
begins-operation r x y =
    begins-last r.last x.code (converted_to r.first x) (converted_to r.second y)
    (begins-converted x.ty r.first x.code x.code (λ place register slot. ([], sym (append-nil (x.code place register slot).code))))

module _ (rows : RowsAreGood) (parts : PartLaws) (fit : RowsFit) (touch : RowsTouch) (p : Program) (f : Function) where
  abbrev Names : Ty → Type 0
  Names t = names_below (length p.structs) t ≡ true

  -- a scalar whose structs are the program's
  abbrev pub IsScalar : Ty → Type 0
  IsScalar t = (is_scalar t ≡ true) × Names t

  pub int-is : IsScalar ty.Int
  int-is = (int-scalar, int-named (length p.structs))

  abbrev LastFits : Last → Type 0
  LastFits (last.Binary o) = is_binary o ≡ true
  LastFits _ = Unit {0}

  record OperationFits (r : Operation) : Type 0 where
    pub first : IsScalar r.first
    pub second : IsScalar r.second
    pub last : LastFits r.last

  module _ (defs : List StructDef) (x y : Operand) (at_x : IsScalar x.ty) (at_y : IsScalar y.ty) where
    operand-type : IsScalar (operand_type x y)
    unfolding operand_type
    operand-type = given IsScalar int-is (common_type x.ty x.is_null y.ty y.is_null) (common-only IsScalar int-is defs x.ty x.is_null y.ty y.is_null at_x at_y)

    plain-fits : (o : BinaryOperator) → IsOperated o → OperationFits (plain o x y)
    plain-fits o h = record { first = operand-type; second = operand-type; last = binary_is o h }

    sum-fits : OperationFits (sum defs x y)
    sum-fits =
        if-holds OperationFits (is_pointer x.ty) _ _ (record { first = at_x; second = int-is; last = tt })
        (if-holds OperationFits (is_pointer y.ty) _ _ (record { first = int-is; second = at_y; last = tt }) (plain-fits op.Add tt))

    difference-fits : OperationFits (difference defs x y)
    difference-fits =
        if-holds OperationFits (is_pointer y.ty) _ _ (record { first = at_x; second = at_y; last = tt })
        (if-holds OperationFits (is_pointer x.ty) _ _ (record { first = at_x; second = int-is; last = tt }) (plain-fits op.Subtract tt))

    operation-fits : (o : BinaryOperator) → IsOperated o → OperationFits (operation_of defs o x y)
    operation-fits op.LogicalOr h = absurd h
    operation-fits op.LogicalAnd h = absurd h
    operation-fits op.Equal h = plain-fits op.Equal h
    operation-fits op.NotEqual h = plain-fits op.NotEqual h
    operation-fits op.Less h = plain-fits op.Less h
    operation-fits op.Greater h = plain-fits op.Greater h
    operation-fits op.LessEqual h = plain-fits op.LessEqual h
    operation-fits op.GreaterEqual h = plain-fits op.GreaterEqual h
    operation-fits op.Add h = sum-fits
    operation-fits op.Subtract h = difference-fits
    operation-fits op.BitwiseOr h = plain-fits op.BitwiseOr h
    operation-fits op.BitwiseExclusiveOr h = plain-fits op.BitwiseExclusiveOr h
    operation-fits op.BitwiseAnd h = plain-fits op.BitwiseAnd h
    operation-fits op.ShiftLeft h = plain-fits op.ShiftLeft h
    operation-fits op.ShiftRight h = plain-fits op.ShiftRight h
    operation-fits op.Multiply h = plain-fits op.Multiply h
    operation-fits op.Divide h = plain-fits op.Divide h
    operation-fits op.Remainder h = plain-fits op.Remainder h

  -- ---- the rows behind the conversions

  good-last : (l : Last) (a b : Code) (place register slot : ℕ) (more : List ℕ) → GivesAt a place register slot more → IsGood b → GivesAt (last_code l a b) place register slot more
  good-last (last.Binary o) a b place register slot more ha hb = rows.operators.binary o a b place register slot more ha hb
  good-last (last.PointerPlus n) a b place register slot more ha hb = rows.operators.pointer_plus n a b place register slot more ha hb
  good-last (last.PlusPointer n) a b place register slot more ha hb = rows.operators.plus_pointer n a b place register slot more ha hb
  good-last (last.PointerMinus n) a b place register slot more ha hb = rows.operators.pointer_minus n a b place register slot more ha hb
  good-last (last.PointerDifference n) a b place register slot more ha hb = rows.operators.pointer_difference n a b place register slot more ha hb

  kept-last : (l : Last) (a b : Code) → LastFits l → Kept fit touch p f a → Kept fit touch p f b → Kept fit touch p f (last_code l a b)
  kept-last (last.Binary o) a b h ha hb = kept.kept_binary fit touch p f o a b h ha hb
  kept-last (last.PointerPlus n) a b h ha hb = kept.kept_plus fit touch p f n a b ha hb
  kept-last (last.PlusPointer n) a b h ha hb = kept.kept_plus_pointer fit touch p f n a b ha hb
  kept-last (last.PointerMinus n) a b h ha hb = kept.kept_minus fit touch p f n a b ha hb
  kept-last (last.PointerDifference n) a b h ha hb = kept.kept_difference fit touch p f n a b ha hb

  source-last : (l : Last) (a b : Code) → HasSource (last_code l a b)
  source-last (last.Binary o) a b = source.combined_source parts (λ d x y. Binary d o x y) a b (λ d x y. refl) (λ d x y e. cc)
  source-last (last.PointerPlus n) a b = source.combined_source parts (λ d x y. PtrAdd d x y n) a b (λ d x y. refl) (λ d x y e. cc)
  source-last (last.PlusPointer n) a b = source.combined_source parts (λ d x y. PtrAdd d y x n) a b (λ d x y. refl) (λ d x y e. cc)
  source-last (last.PointerMinus n) a b = source.combined_source parts (λ d x y. PtrAdd d x y n) a (unary_code operator.Subtract b) (λ d x y. refl) (λ d x y e. cc)
  source-last (last.PointerDifference n) a b =
      source.combined_source parts (λ d x y. Binary d operator.Divide x y) (binary_code operator.Subtract a b) (number (pos n)) (λ d x y. refl) (λ d x y e. cc)

  -- ---- operators over operands that are scalars

  module _ (defs : List StructDef) (o : BinaryOperator) (is : IsOperated o) (y : Operand) (at_y : IsScalar y.ty) (good_y : IsGood y.code) (kept_y : Kept fit touch p f y.code)
      (x : Operand) (at_x : IsScalar x.ty) where
    abbrev row : Operation
    row = operation_of defs o x y

    fits : OperationFits row
    fits = operation-fits defs x y at_x at_y o is

    pub operated-good : (place register slot : ℕ) (more : List ℕ) → GivesAt x.code place register slot more → GivesAt (operated defs o x y) place register slot more
    operated-good place register slot more h =
        good-last row.last (converted_to row.first x) (converted_to row.second y) place register slot more (rows.operators.conversion x.ty row.first x.code place register slot more h)
        (λ place register slot. rows.operators.conversion y.ty row.second y.code place register slot [] (good_y place register slot))

    pub operated-kept : Kept fit touch p f x.code → Kept fit touch p f (operated defs o x y)
    operated-kept h =
        kept-last row.last (converted_to row.first x) (converted_to row.second y) fits.last
        (kept.kept_converted fit touch p f x.ty row.first x.code (inr (at_x.0, fits.first.0)) at_x.1 fits.first.1 h)
        (kept.kept_converted fit touch p f y.ty row.second y.code (inr (at_y.0, fits.second.0)) at_y.1 fits.second.1 kept_y)

    pub operated-source : HasSource (operated defs o x y)
    operated-source = source-last row.last (converted_to row.first x) (converted_to row.second y)
