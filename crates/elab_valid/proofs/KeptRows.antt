-- Rows whose numbers and types are in range, and whose accesses fit their touches.
use Rattle.std.proofs.Common.{◌≡◌, ℕ, ℤ, pos, ◌<◌, Bool, true, false, ◌⊎◌, inl, inr, List, [], ◌∷◌, length, All, refl, sym, subst}
use Rattle.std.proofs.lemmas.List.Elements.{All-cons, All-nil}
use Rattle.std.specs.Prelude.{if◌then◌else◌}
use Rattle.c_types.specs.declared.ty.Ty.{Ty}
use Rattle.c_types.specs.declared.ty.Ty.TheVariants as ty
use Rattle.c_types.specs.Kinds.{is_scalar}
use Rattle.c_types.specs.Same.{same}
use Rattle.core_ir.specs.declared.instr.Instr.{Instr}
use Rattle.core_ir.specs.declared.instr.Instr.TheVariants.{AddrF, AddrG, AddrL, Binary, Cast, Const, GetLocal, Load, PtrAdd, PtrConst, SetLocal, Store, Touch, Unary}
use Rattle.core_ir.specs.declared.operator.Operator.{Operator}
use Rattle.core_ir.specs.declared.operator.Operator.TheVariants as operator
use Rattle.core_ir.specs.declared.program.Function.{Function}
use Rattle.core_ir.specs.declared.program.Program.{Program}
use Rattle.core_ir.specs.Instructions.{types}
use Rattle.core_ir.specs.Parts.{HasPart}
use Rattle.core_ir.specs.Valid.{Fits, IsInRange, TypeFits, is_binary, is_unary}
use Rattle.elab_rows.specs.Addresses.{Lvalue, assigned, loaded, local_address, member_address, pointing, slot_assigned, struct_assigned, updated, with_old_value}
use Rattle.elab_rows.specs.Made.{Code, converted, extended, nothing}
use Rattle.elab_rows.specs.Rows.{binary_code, function_name, number, plus_pointer, pointer_difference, pointer_minus, pointer_plus, slot_value, string, unary_code}
use Rattle.elab_laws.specs.Fitting.{IsFit, IsFitting, PartsFit}
use Rattle.elab_laws.specs.FittingLaws.{RowsFit}
use Rattle.elab_laws.specs.Touching.{HasParts, IsTouching}
use Rattle.elab_laws.specs.TouchingLaws.{RowsTouch}
use Rattle.elab_valid.proofs.TypeKinds.{Converts}

module _ (fit : RowsFit) (touch : RowsTouch) (p : Program) (f : Function) where
  -- all that is asked of code but that it is a part of a full expression
  abbrev pub Kept : Code → Type 0
  Kept c = IsFitting (IsInRange p f) f.slots c × IsTouching p.structs c

  abbrev pub Named : Ty → Type 0
  Named t = TypeFits p.structs t

  abbrev InRange : Instr → Type 0
  InRange i = IsFit (IsInRange p f) f.slots i

  -- ---- instructions

  pub untyped : (i : Instr) → types i ≡ [] → Fits p f i → IsInRange p f i
  untyped i none rest = record { types = subst (All (TypeFits p.structs)) (sym none) (All-nil (TypeFits p.structs)); rest = rest }

  pub one_type : (i : Instr) (t : Ty) → types i ≡ t ∷ [] → Named t → Fits p f i → IsInRange p f i
  one_type i t is h rest = record { types = subst (All (TypeFits p.structs)) (sym is) (All-cons (TypeFits p.structs) t [] h (All-nil (TypeFits p.structs))); rest = rest }

  pub cast_fits : (from to : Ty) → is_scalar from ≡ true → is_scalar to ≡ true → Named from → Named to → (d x : ℕ) → InRange (Cast d x from to)
  cast_fits from to sf st hf ht d x =
      (record { types = All-cons (TypeFits p.structs) from (to ∷ []) hf (All-cons (TypeFits p.structs) to [] ht (All-nil (TypeFits p.structs))); rest = (sf, st) }, tt)

  pub touch_fits : (t : Ty) → Named t → (q : ℕ) → InRange (Touch q t)
  touch_fits t h q = (one_type (Touch q t) t refl h tt, tt)

  pub load_fits : (t : Ty) → Named t → (d q : ℕ) → InRange (Load d q t)
  load_fits t h d q = (one_type (Load d q t) t refl h tt, tt)

  pub store_fits : (t : Ty) → Named t → (q a : ℕ) → InRange (Store q a t)
  store_fits t h q a = (one_type (Store q a t) t refl h tt, tt)

  pub shift_fits : (d q k : ℕ) → InRange (PtrConst d q k)
  shift_fits d q k = (untyped (PtrConst d q k) refl tt, tt)

  -- ---- values without parts

  pub kept_nothing : Kept nothing
  kept_nothing = ((fit p f).nothing, (touch p.structs).nothing)

  pub kept_number : (v : ℤ) → Kept (number v)
  kept_number v = ((fit p f).single (λ d. Const d v) (λ d. (untyped (Const d v) refl tt, tt)), (touch p.structs).single (λ d. Const d v) (λ d. refl))

  pub kept_string : (g : ℕ) → g < length p.globals → Kept (string g)
  kept_string g lt = ((fit p f).single (λ d. AddrG d g) (λ d. (untyped (AddrG d g) refl lt, tt)), (touch p.structs).single (λ d. AddrG d g) (λ d. refl))

  pub kept_function : (n : ℕ) → n < length p.functions → Kept (function_name n)
  kept_function n lt = ((fit p f).single (λ d. AddrF d n) (λ d. (untyped (AddrF d n) refl lt, tt)), (touch p.structs).single (λ d. AddrF d n) (λ d. refl))

  pub kept_slot : (s : ℕ) → s < f.slots → Kept (slot_value s)
  kept_slot s lt = ((fit p f).single (λ d. GetLocal d s) (λ d. (untyped (GetLocal d s) refl tt, lt)), (touch p.structs).single (λ d. GetLocal d s) (λ d. refl))

  pub kept_local : (v : ℕ) → v < length f.locals → Kept (local_address v)
  kept_local v lt = ((fit p f).single (λ d. AddrL d v) (λ d. (untyped (AddrL d v) refl lt, tt)), (touch p.structs).single (λ d. AddrL d v) (λ d. refl))

  -- ---- operators

  pub kept_unary : (o : Operator) (a : Code) → is_unary o ≡ true → Kept a → Kept (unary_code o a)
  kept_unary o a is h =
      ((fit p f).extended (λ d x. Unary d o x) a (λ d x. (untyped (Unary d o x) refl is, tt)) h.0, (touch p.structs).extended (λ d x. Unary d o x) a (λ d x. refl) h.1)

  pub kept_binary : (o : Operator) (a b : Code) → is_binary o ≡ true → Kept a → Kept b → Kept (binary_code o a b)
  kept_binary o a b is ha hb = (
    (fit p f).combined (λ d x y. Binary d o x y) a b (λ d x y. (untyped (Binary d o x y) refl is, tt)) ha.0 hb.0,
    (touch p.structs).combined (λ d x y. Binary d o x y) a b (λ d x y. refl) ha.1 hb.1,
  )

  pub kept_plus : (n : ℕ) (a b : Code) → Kept a → Kept b → Kept (pointer_plus n a b)
  kept_plus n a b ha hb = (
    (fit p f).combined (λ d x y. PtrAdd d x y n) a b (λ d x y. (untyped (PtrAdd d x y n) refl tt, tt)) ha.0 hb.0,
    (touch p.structs).combined (λ d x y. PtrAdd d x y n) a b (λ d x y. refl) ha.1 hb.1,
  )

  pub kept_plus_pointer : (n : ℕ) (a b : Code) → Kept a → Kept b → Kept (plus_pointer n a b)
  kept_plus_pointer n a b ha hb = (
    (fit p f).combined (λ d x y. PtrAdd d y x n) a b (λ d x y. (untyped (PtrAdd d y x n) refl tt, tt)) ha.0 hb.0,
    (touch p.structs).combined (λ d x y. PtrAdd d y x n) a b (λ d x y. refl) ha.1 hb.1,
  )

  pub kept_minus : (n : ℕ) (a b : Code) → Kept a → Kept b → Kept (pointer_minus n a b)
  kept_minus n a b ha hb = kept_plus n a (unary_code operator.Subtract b) ha (kept_unary operator.Subtract b refl hb)

  pub kept_difference : (n : ℕ) (a b : Code) → Kept a → Kept b → Kept (pointer_difference n a b)
  kept_difference n a b ha hb =
      kept_binary operator.Divide (binary_code operator.Subtract a b) (number (pos n)) refl (kept_binary operator.Subtract a b refl ha hb) (kept_number (pos n))

  -- ---- conversions

  kept_if : (b : Bool) (c d : Code) → (b ≡ true → Kept c) → (b ≡ false → Kept d) → Kept (if b then c else d)
  kept_if true c d hc hd = hc refl
  kept_if false c d hc hd = hd refl

  kept_unless_same : (b : Bool) (from to : Ty) (a : Code) → (b ≡ true) ⊎ ((is_scalar from ≡ true) × (is_scalar to ≡ true)) → Named from → Named to → Kept a
      → Kept (if b then a else extended (λ d x. Cast d x from to) a)
  kept_unless_same true from to a c hf ht h = h
  kept_unless_same false from to a (inl e) hf ht h = absurd (cc)
  kept_unless_same false from to a (inr s) hf ht h =
      ((fit p f).extended (λ d x. Cast d x from to) a (cast_fits from to s.0 s.1 hf ht) h.0, (touch p.structs).extended (λ d x. Cast d x from to) a (λ d x. refl) h.1)

  pub kept_converted : (from to : Ty) (a : Code) → Converts from to → Named from → Named to → Kept a → Kept (converted from to a)
  kept_converted from to a c hf ht h = kept_unless_same (same from to) from to a c hf ht h

  -- ---- lvalues in memory

  pub kept_member : (k : ℕ) (a : Code) → Kept a → Kept (member_address k a)
  kept_member k a h =
      ((fit p f).extended (λ d q. PtrConst d q k) a (λ d q. shift_fits d q k) h.0, (touch p.structs).extended (λ d q. PtrConst d q k) a (λ d q. refl) h.1)

  pub kept_loaded : (x : Lvalue) → Named x.root → Named x.ty → HasPart p.structs x.root x.ty → Kept x.address → Kept (loaded x)
  kept_loaded x hr ht part h = ((fit p f).load x (touch_fits x.root hr) (load_fits x.ty ht) h.0, (touch p.structs).load x part h.1)

  pub kept_pointing : (root target : Ty) (a : Code) → is_scalar (ty.Pointer root) ≡ true → is_scalar (ty.Pointer target) ≡ true → Named (ty.Pointer root) → Named (ty.Pointer target)
      → Kept a → Kept (pointing root target a)
  kept_pointing root target a sr st hr ht h =
      ((fit p f).pointing root target a (cast_fits (ty.Pointer root) (ty.Pointer target) sr st hr ht) h.0, (touch p.structs).pointing root target a h.1)

  pub kept_set : (s : ℕ) (v : Code) → s < f.slots → Kept v → Kept (slot_assigned s v)
  kept_set s v lt h =
      ((fit p f).followed (λ x. SetLocal s x) v (λ x. (untyped (SetLocal s x) refl tt, lt)) h.0, (touch p.structs).followed (λ x. SetLocal s x) v (λ x. refl) h.1)

  pub kept_assigned : (x : Lvalue) (v : Code) → Named x.root → Named x.ty → HasPart p.structs x.root x.ty → Kept x.address → Kept v → Kept (assigned x v)
  kept_assigned x v hr ht part h hv = ((fit p f).assigned x v (touch_fits x.root hr) (store_fits x.ty ht) hv.0 h.0, (touch p.structs).assigned x v part hv.1 h.1)

  pub kept_updated : (x : Lvalue) (new : Code → Code) → Named x.root → Named x.ty → HasPart p.structs x.root x.ty → Kept (new (loaded x)) → Kept (updated x new)
  kept_updated x new hr ht part h = ((fit p f).updated x new (touch_fits x.root hr) (store_fits x.ty ht) h.0, (touch p.structs).updated x new part h.1)

  pub kept_old : (old a : Code) → Kept a → Kept (with_old_value old a)
  kept_old old a h = ((fit p f).old_value old a h.0, (touch p.structs).old_value old a h.1)

  -- ---- structs

  abbrev pub NamedParts : List Ty → Type 0
  NamedParts [] = Unit {0}
  NamedParts (t ∷ ts) = Named t × NamedParts ts

  parts_fit : (from to : Ty) (ts : List Ty) → Named from → Named to → NamedParts ts → PartsFit (IsInRange p f) from to ts
  parts_fit from to [] hf ht h = tt
  parts_fit from to (t ∷ ts) hf ht h = (
    record {
      touch_from = λ q. one_type (Touch q from) from refl hf tt;
      touch_to = λ q. one_type (Touch q to) to refl ht tt;
      load = λ d q. one_type (Load d q t) t refl h.0 tt;
      store = λ q a. one_type (Store q a t) t refl h.0 tt;
    },
    parts_fit from to ts hf ht h.1,
  )

  pub kept_struct : (ts : List Ty) (to from : Lvalue) → Named from.root → Named to.root → NamedParts ts → HasParts p.structs from.root ts → HasParts p.structs to.root ts
      → Kept from.address → Kept to.address → Kept (struct_assigned ts to from)
  kept_struct ts to from hf ht named in_from in_to kf kt =
      ((fit p f).struct_assigned ts to from shift_fits (parts_fit from.root to.root ts hf ht named) kf.0 kt.0, (touch p.structs).struct_assigned ts to from in_from in_to kf.1 kt.1)
