-- The rows of operators give the types that operators have.
use Rattle.std.proofs.Common.{◌≡◌, ℕ, pos, Bool, true, false, ◌&&◌, ◌||◌, ◌⊎◌, inl, inr, List, [], Option, Some, None, option_map, is_some, refl, subst, ⊎_elim}
use Rattle.std.proofs.lemmas.Option.{same_Some}
use Rattle.std.specs.Prelude.{if◌then◌else◌}
use Rattle.c_types.specs.declared.structs.StructDef.{StructDef}
use Rattle.c_types.specs.declared.ty.Ty.{Ty, out-Ty}
use Rattle.c_types.specs.declared.ty.Ty.TheOpen.{Ty-F}
use Rattle.c_types.specs.declared.ty.Ty.TheVariants as ty
use Rattle.c_types.specs.Kinds.{Outer, is_integer, is_integer_at, is_pointer, is_scalar, target_at, target_of}
use Rattle.c_types.specs.Same.{same}
use Rattle.c_types.specs.Theorems.{SameIsEquality}
use Rattle.c_tree.specs.declared.operator.BinaryOperator.{BinaryOperator}
use Rattle.c_tree.specs.declared.operator.BinaryOperator.TheVariants as op
use Rattle.c_operators.specs.Operators.{added, common_type, compared, if_fits, integers, is_counted, operated_types, ordered, subtracted, tested}
use Rattle.core_ir.specs.declared.instr.Instr.TheVariants.{Binary, Const, PtrAdd, Unary}
use Rattle.core_ir.specs.declared.operator.Operator.{Operator}
use Rattle.core_ir.specs.declared.operator.Operator.TheVariants as operator
use Rattle.core_ir.specs.declared.program.Function.{Function}
use Rattle.core_ir.specs.declared.program.Program.{Program}
use Rattle.elab_rows.specs.declared.operation.Last.{Last}
use Rattle.elab_rows.specs.declared.operation.Last.TheVariants as last
use Rattle.elab_rows.specs.declared.operation.Operation.{Operation}
use Rattle.elab_rows.specs.Made.{Code, Made, behind, combined_made}
use Rattle.elab_rows.specs.Rows.{Operand, binary_code, converted_to, difference, last_code, number, operated, operation_of, sum, unary_code}
use Rattle.elab_valid.proofs.Operations.{IsOperated}
use Rattle.elab_valid.proofs.OperatorTypes.{alternative, counted-pointer, fitted}
use Rattle.elab_valid.proofs.RegisterTypes.{Types}
use Rattle.elab_valid.proofs.TypedRows as typing
use Rattle.elab_valid.proofs.TypedRows.{GivesType, HasValue}
use Rattle.elab_valid.proofs.TypeKinds.{first, second}

-- the type of what stands behind operands of these types
abbrev pub last_type : Last → Ty → Ty → Ty
last_type (last.Binary o) t u = ty.Int
last_type (last.PointerPlus n) t u = t
last_type (last.PlusPointer n) t u = u
last_type (last.PointerMinus n) t u = t
last_type (last.PointerDifference n) t u = ty.Int

abbrev pub row_type : Operation → Ty
row_type r = last_type r.last r.first r.second

-- ---- which type a row has

integer_pointer_at : (o : Outer) → is_integer_at o ≡ true → is_some (target_at o) ≡ true → ⊥
integer_pointer_at Ty-F.Int h m = cc
integer_pointer_at Ty-F.Char h m = cc
integer_pointer_at Ty-F.Void h m = cc
integer_pointer_at (Ty-F.Struct s) h m = cc
integer_pointer_at (Ty-F.Pointer u) h m = cc
integer_pointer_at (Ty-F.Array u n) h m = cc
integer_pointer_at (Ty-F.Function f) h m = cc

integer-pointer : (t : Ty) → is_integer t ≡ true → is_pointer t ≡ true → ⊥
unfolding is_integer is_pointer target_of
integer-pointer t h m = integer_pointer_at (out-Ty t) h m

choose : (P : Operation → Type 0) (b : Bool) (r s : Operation) → (b ≡ true → P r) → (b ≡ false → P s) → P (if b then r else s)
choose P true r s hr hs = hr refl
choose P false r s hr hs = hs refl

integers-int : (a b t : Ty) → integers a b ≡ Some t → ty.Int ≡ t
unfolding integers
integers-int a b t e = (fitted (is_integer a && is_integer b) ty.Int t e).1

integers-both : (a b t : Ty) → integers a b ≡ Some t → (is_integer a ≡ true) × (is_integer b ≡ true)
unfolding integers
integers-both a b t e = let h = (fitted (is_integer a && is_integer b) ty.Int t e).0 in (first (is_integer a) (is_integer b) h, second (is_integer a) (is_integer b) h)

mapped-int : (o : Option Ty) (t : Ty) → option_map (λ (u : Ty). ty.Int) o ≡ Some t → ty.Int ≡ t
mapped-int None t e = absurd (cc)
mapped-int (Some u) t e = same_Some ty.Int t e

compared-int : (a : Ty) (p : Bool) (b : Ty) (q : Bool) (t : Ty) → compared a p b q ≡ Some t → ty.Int ≡ t
unfolding compared
compared-int a p b q t e = mapped-int (common_type a p b q) t e

ordered-int : (a b t : Ty) → ordered a b ≡ Some t → ty.Int ≡ t
unfolding ordered
ordered-int a b t e = (fitted ((is_integer a && is_integer b) || (is_pointer a && same a b)) ty.Int t e).1

pub tested-int : (a b t : Ty) → tested a b ≡ Some t → ty.Int ≡ t
unfolding tested
tested-int a b t e = (fitted (is_scalar a && is_scalar b) ty.Int t e).1

never : {A : Type 0} (b : Bool) → b ≡ true → b ≡ false → A
never true h m = absurd (cc)
never false h m = absurd (cc)

module _ (defs : List StructDef) (x y : Operand) (t : Ty) where
  abbrev a : Ty
  a = x.ty

  abbrev b : Ty
  b = y.ty

  -- what `+` of these may be
  record Sums : Type 0 where
    pub whole : (integers a b ≡ Some t) ⊎ ((((is_pointer a ≡ true) × (a ≡ t)) × (is_integer b ≡ true)) ⊎ (((is_pointer b ≡ true) × (b ≡ t)) × (is_integer a ≡ true)))

  sums : added defs a b ≡ Some t → Sums
  unfolding added
  sums e = record {
    whole = ⊎_elim (λ h. inl h)
        (λ h. inr (⊎_elim
        (λ h. let m = fitted (is_counted defs a && is_integer b) a t h in
        inl ((counted-pointer defs a (first (is_counted defs a) (is_integer b) m.0), m.1), second (is_counted defs a) (is_integer b) m.0))
        (λ h. let m = fitted (is_integer a && is_counted defs b) b t h in
        inr ((counted-pointer defs b (second (is_integer a) (is_counted defs b) m.0), m.1), first (is_integer a) (is_counted defs b) m.0))
        (alternative (if_fits (is_counted defs a && is_integer b) a) (if_fits (is_integer a && is_counted defs b) b) t h)))
        (alternative (integers a b) _ t e);
  }

  sum-type : added defs a b ≡ Some t → row_type (sum defs x y) ≡ t
  sum-type e =
      let s = (sums e).whole in
      choose (λ r. row_type r ≡ t) (is_pointer a) _ _
      (λ pa. ⊎_elim (λ h. absurd (integer-pointer a (integers-both a b t h).0 pa)) (λ h. ⊎_elim (λ m. m.0.1) (λ m. absurd (integer-pointer a m.1 pa)) h) s)
      (λ na. choose (λ r. row_type r ≡ t) (is_pointer b) _ _
      (λ pb. ⊎_elim (λ h. absurd (integer-pointer b (integers-both a b t h).1 pb)) (λ h. ⊎_elim (λ m. never (is_pointer a) m.0.0 na) (λ m. m.0.1) h) s)
      (λ nb. ⊎_elim (λ h. integers-int a b t h) (λ h. ⊎_elim (λ m. never (is_pointer a) m.0.0 na) (λ m. never (is_pointer b) m.0.0 nb) h) s))

  record Differences : Type 0 where
    pub whole : (integers a b ≡ Some t) ⊎ ((((is_pointer a ≡ true) × (a ≡ t)) × (is_integer b ≡ true)) ⊎ (((is_pointer a ≡ true) × (ty.Int ≡ t)) × (same a b ≡ true)))

  differences : subtracted defs a b ≡ Some t → Differences
  unfolding subtracted
  differences e = record {
    whole = ⊎_elim (λ h. inl h)
        (λ h. inr (⊎_elim
        (λ h. let m = fitted (is_counted defs a && is_integer b) a t h in
        inl ((counted-pointer defs a (first (is_counted defs a) (is_integer b) m.0), m.1), second (is_counted defs a) (is_integer b) m.0))
        (λ h. let m = fitted (is_counted defs a && same a b) ty.Int t h in
        inr ((counted-pointer defs a (first (is_counted defs a) (same a b) m.0), m.1), second (is_counted defs a) (same a b) m.0))
        (alternative (if_fits (is_counted defs a && is_integer b) a) (if_fits (is_counted defs a && same a b) ty.Int) t h)))
        (alternative (integers a b) _ t e);
  }

  difference-type : SameIsEquality → subtracted defs a b ≡ Some t → row_type (difference defs x y) ≡ t
  difference-type equal e =
      let s = (differences e).whole in
      choose (λ r. row_type r ≡ t) (is_pointer b) _ _
      (λ pb. ⊎_elim (λ h. integers-int a b t h) (λ h. ⊎_elim (λ m. absurd (integer-pointer b m.1 pb)) (λ m. m.0.1) h) s)
      (λ nb. choose (λ r. row_type r ≡ t) (is_pointer a) _ _
      (λ pa. ⊎_elim (λ h. absurd (integer-pointer a (integers-both a b t h).0 pa))
      (λ h. ⊎_elim (λ m. m.0.1) (λ m. never (is_pointer b) (subst (λ u. is_pointer u ≡ true) ((equal a b).0 m.1) pa) nb) h) s)
      (λ na. ⊎_elim (λ h. integers-int a b t h) (λ h. ⊎_elim (λ m. never (is_pointer a) m.0.0 na) (λ m. never (is_pointer a) m.0.0 na) h) s))

  pub operation-type : SameIsEquality → (o : BinaryOperator) → IsOperated o → operated_types defs o a x.is_null b y.is_null ≡ Some t → row_type (operation_of defs o x y) ≡ t
  operation-type equal op.LogicalOr h e = absurd h
  operation-type equal op.LogicalAnd h e = absurd h
  operation-type equal op.Equal h e = compared-int a x.is_null b y.is_null t e
  operation-type equal op.NotEqual h e = compared-int a x.is_null b y.is_null t e
  operation-type equal op.Less h e = ordered-int a b t e
  operation-type equal op.Greater h e = ordered-int a b t e
  operation-type equal op.LessEqual h e = ordered-int a b t e
  operation-type equal op.GreaterEqual h e = ordered-int a b t e
  operation-type equal op.Add h e = sum-type e
  operation-type equal op.Subtract h e = difference-type equal e
  operation-type equal op.BitwiseOr h e = integers-int a b t e
  operation-type equal op.BitwiseExclusiveOr h e = integers-int a b t e
  operation-type equal op.BitwiseAnd h e = integers-int a b t e
  operation-type equal op.ShiftLeft h e = integers-int a b t e
  operation-type equal op.ShiftRight h e = integers-int a b t e
  operation-type equal op.Multiply h e = integers-int a b t e
  operation-type equal op.Divide h e = integers-int a b t e
  operation-type equal op.Remainder h e = integers-int a b t e

-- ---- rows

module _ (p : Program) (f : Function) (base : Types → Type 0) where
  pub unary-typed : (o : Operator) (t : Ty) (a : Code) → HasValue p f base a t → HasValue p f base (unary_code o a) ty.Int
  unary-typed o t a h place register slot =
      typing.extended-typed p f base (λ d x. Unary d o x) t ty.Int (λ d x. refl) (λ slots b e d x is. (tt, refl)) (a place register slot) register slot [] (h place register slot)

  binary-typed : (o : Operator) (t u : Ty) (x : Made) (place register slot : ℕ) (more : List (ℕ × Ty)) (c : Code) → GivesType p f base x register slot t more → HasValue p f base c u
      → GivesType p f base (combined_made (λ d x y. Binary d o x y) x (behind place x c)) register slot ty.Int more
  binary-typed o t u x place register slot more c h hc =
      typing.combined-typed p f base (λ d x y. Binary d o x y) t u ty.Int (λ d x y. refl) (λ slots b e d x y fx fy. (tt, refl)) x place register slot more c h hc

  last-typed : (l : Last) (t u : Ty) (a c : Code) (place register slot : ℕ) (more : List (ℕ × Ty)) → GivesType p f base (a place register slot) register slot t more → HasValue p f base c u
      → GivesType p f base (last_code l a c place register slot) register slot (last_type l t u) more
  last-typed (last.Binary o) t u a c place register slot more h hc = binary-typed o t u (a place register slot) place register slot more c h hc
  last-typed (last.PointerPlus n) t u a c place register slot more h hc =
      typing.combined-typed p f base (λ d x y. PtrAdd d x y n) t u t (λ d x y. refl) (λ slots b e d x y fx fy. (tt, fx)) (a place register slot) place register slot more c h hc
  last-typed (last.PlusPointer n) t u a c place register slot more h hc =
      typing.combined-typed p f base (λ d x y. PtrAdd d y x n) t u u (λ d x y. refl) (λ slots b e d x y fx fy. (tt, fy)) (a place register slot) place register slot more c h hc
  last-typed (last.PointerMinus n) t u a c place register slot more h hc =
      typing.combined-typed p f base (λ d x y. PtrAdd d x y n) t ty.Int t (λ d x y. refl) (λ slots b e d x y fx fy. (tt, fx)) (a place register slot) place register slot more
      (unary_code operator.Subtract c) h (unary-typed operator.Subtract u c hc)
  last-typed (last.PointerDifference n) t u a c place register slot more h hc =
      binary-typed operator.Divide ty.Int ty.Int (binary_code operator.Subtract a c place register slot) place register slot more (number (pos n))
      (binary-typed operator.Subtract t u (a place register slot) place register slot more c h hc)
      (typing.single-typed p f base (λ d. Const d (pos n)) ty.Int (λ d. refl) (λ slots b e d. (tt, refl)))

  module _ (equal : SameIsEquality) (defs : List StructDef) (o : BinaryOperator) (is : IsOperated o) (x y : Operand) (t : Ty) (types : operated_types defs o x.ty x.is_null y.ty y.is_null ≡ Some t)
      (hy : HasValue p f base y.code y.ty) where
    pub operated-typed : (place register slot : ℕ) (more : List (ℕ × Ty)) → GivesType p f base (x.code place register slot) register slot x.ty more
        → GivesType p f base (operated defs o x y place register slot) register slot t more
    operated-typed place register slot more h =
        let r = operation_of defs o x y in
        let z = operated defs o x y place register slot in
        subst (λ u. GivesType p f base z register slot u more) (operation-type defs x y t equal o is types)
        (last-typed r.last r.first r.second (converted_to r.first x) (converted_to r.second y) place register slot more (typing.converted-typed p f base equal x.ty r.first x.code place register slot more h)
        (λ place register slot. typing.converted-typed p f base equal y.ty r.second y.code place register slot [] (hy place register slot)))
