-- An access of the safe store stands behind a touch of class Sensitive: its type is a pointer that holds code pointers, and
-- so does each type with such a part.
use Rattle.std.proofs.Common.{◌≡◌, ◌∙◌, ◌≢◌, ℕ, true, List, Option, Some, None, is_some, slice_get, refl, sym, ap, subst}
use Rattle.std.proofs.lemmas.Option.{same_Some}
use Rattle.c_types.specs.declared.structs.StructDef.{StructDef}
use Rattle.c_types.specs.declared.ty.Ty.{Ty, out-Ty}
use Rattle.c_types.specs.declared.ty.Ty.TheOpen.{Ty-F}
use Rattle.c_types.specs.declared.ty.Ty.TheVariants as ty
use Rattle.c_types.specs.Kinds.{Outer, target_at, target_of}
use Rattle.core_ir.specs.declared.instr.Instr.{Instr}
use Rattle.core_ir.specs.declared.instr.Instr.TheVariants as instr
use Rattle.core_ir.specs.declared.program.GlobalVar.{GlobalVar}
use Rattle.core_ir.specs.declared.program.Local.{Local}
use Rattle.core_ir.specs.declared.role.Role.TheVariants as role
use Rattle.core_ir.specs.Instructions.{role_of}
use Rattle.core_ir.specs.Order.{Behind, RoleFits}
use Rattle.core_ir.specs.Outline.{Outline}
use Rattle.core_ir.specs.Parts.{HasPart, element, member, whole}
use Rattle.core_ir.specs.Valid.{access_type, touch_type}
use Rattle.sensitivity.specs.declared.class.Class.{Class}
use Rattle.sensitivity.specs.declared.class.Class.TheVariants as class
use Rattle.sensitivity.specs.Classes.{HasClass}
use Rattle.sensitivity.specs.Holds.{Holds}
use Rattle.sensitivity.specs.Theorems.{ArraysAreAsTheirElements, ClassesAreUnique, HoldersAreSensitive, PointersHold}
use Rattle.machine.specs.declared.code.CodePlace.TheVariants as code
use Rattle.machine.specs.declared.code.ScalarKind.{ScalarKind}
use Rattle.machine.specs.Decided.{Context, decided, global_code, kind_at, kind_of, local_code}
use Rattle.machine.specs.Numbers.{is_kept}
use Rattle.machine.specs.ValidCode.{IsSensitiveTouch, access_kind}

-- ---- instructions

-- an access of a kind is one of a type of that kind
abbrev AccessOf : Context → Instr → ScalarKind → Type 0
AccessOf x i kind = (t : Ty) × (access_type i ≡ Some t) × (kind_of x t ≡ kind)

no_global : (x : Context) (d g : ℕ) (o : Option GlobalVar) (kind : ScalarKind) → access_kind (global_code x d g o) ≡ Some kind → ⊥
no_global x d g None kind is = cc
no_global x d g (Some v) kind is = cc

no_local : (x : Context) (d v : ℕ) (o : Option Local) (kind : ScalarKind) → access_kind (local_code x d v o) ≡ Some kind → ⊥
no_local x d v None kind is = cc
no_local x d v (Some l) kind is = cc

pub access_of : (x : Context) (i : Instr) (kind : ScalarKind) → access_kind (decided x i) ≡ Some kind → AccessOf x i kind
access_of x (instr.Load d p t) kind is = (t, refl, same_Some (kind_of x t) kind is)
access_of x (instr.Store p a t) kind is = (t, refl, same_Some (kind_of x t) kind is)
access_of x (instr.AddrG d g) kind is = absurd (no_global x d g (slice_get x.program.globals g) kind is)
access_of x (instr.AddrL d v) kind is = absurd (no_local x d v (slice_get x.function.locals v) kind is)
access_of x _ kind is = absurd (cc)

-- it stands behind a touch
pub access_behind : (i : Instr) (t : Ty) (outlines : List Outline) (k : ℕ) → access_type i ≡ Some t → RoleFits outlines k (role_of i) → (p : ℕ) × Behind outlines k (role.Touch p)
access_behind (instr.Load d p t) u outlines k is fits = (p, fits)
access_behind (instr.Store p a t) u outlines k is fits = (p, fits)
access_behind (instr.Lock p) u outlines k is fits = (p, fits)
access_behind (instr.Unlock p) u outlines k is fits = (p, fits)
access_behind _ u outlines k is fits = absurd (cc)

-- what has the role of a touch is one
pub record TouchOf (x : Context) (i : Instr) : Type 0 where
  pub register : ℕ
  pub type : Ty
  pub of_type : touch_type i ≡ Some type
  pub is : decided x i ≡ code.Touch register (x.class (ty.Pointer type)) (is_some x.unit)

pub touch_of : (x : Context) (i : Instr) (p : ℕ) → role_of i ≡ role.Touch p → TouchOf x i
touch_of x (instr.Touch q t) p is = record { register = q; type = t; of_type = refl; is = refl }
touch_of x _ p is = absurd (cc)

-- ---- types

module _ (unique : ClassesAreUnique) (hold : PointersHold) (arrays : ArraysAreAsTheirElements) (holders : HoldersAreSensitive) (defs : List StructDef) where
  -- a pointer that holds code pointers
  pub record IsHolder (t : Ty) : Type 0 where
    pub target : Ty
    pub is : target_of t ≡ Some target
    pub holds : Holds defs t

  holder_by : (t target : Ty) (a : Class) → target_of t ≡ Some target → HasClass defs t a → a ≢ class.Regular → IsHolder t
  holder_by t target a is has other = record { target = target; is = is; holds = (hold defs t target a is has).1 other }

  kept_at : (t : Ty) (a : Class) (y : Outer) → out-Ty t ≡ y → HasClass defs t a → is_kept (kind_at a y) ≡ true → IsHolder t
  unfolding target_of
  kept_at t class.Code (Ty-F.Pointer u) is has kept = holder_by t u class.Code (ap target_at is) has (λ e. cc)
  kept_at t class.Sensitive (Ty-F.Pointer u) is has kept = holder_by t u class.Sensitive (ap target_at is) has (λ e. cc)
  kept_at t class.Universal (Ty-F.Pointer u) is has kept = holder_by t u class.Universal (ap target_at is) has (λ e. cc)
  kept_at t class.Regular (Ty-F.Pointer u) is has kept = absurd (cc)
  kept_at t a Ty-F.Int is has kept = absurd (cc)
  kept_at t a Ty-F.Char is has kept = absurd (cc)
  kept_at t a Ty-F.Void is has kept = absurd (cc)
  kept_at t a (Ty-F.Struct s) is has kept = absurd (cc)
  kept_at t a (Ty-F.Array u n) is has kept = absurd (cc)
  kept_at t a (Ty-F.Function f) is has kept = absurd (cc)

  target_of_pointer : (t : Ty) → target_of (ty.Pointer t) ≡ Some t
  unfolding target_of
  target_of_pointer t = ap target_at (ty.outs-Pointer t)

  part_sensitive : {t u : Ty} → HasPart defs t u → IsHolder u → HasClass defs (ty.Pointer t) class.Sensitive
  part_sensitive (whole t) h = holders.pointer defs t h.target h.is h.holds
  part_sensitive (element t u n part) h = (arrays defs t n class.Sensitive).1 (part_sensitive part h)
  part_sensitive (member s ms m u body contains part) h =
      let points = (part_sensitive part h).1 in
      let same : points.target ≡ m.ty = same_Some points.target m.ty (sym points.is ∙ target_of_pointer m.ty) in
      holders.member defs s ms m body contains (subst (Holds defs) same points.holds)

  -- a touch of a type with a part of a kind in the safe store
  pub sensitive_touch :
      (x : Context) (i : Instr) (part : Ty) (touch : TouchOf x i)
      → ((t : Ty) → HasClass defs t (x.class t))
      → HasPart defs touch.type part
      → is_kept (kind_of x part) ≡ true
      → IsSensitiveTouch (decided x i)
  sensitive_touch x i part touch classes has kept =
      let holder = kept_at part (x.class part) (out-Ty part) refl (classes part) kept in
      let pointer = ty.Pointer touch.type in
      let is : x.class pointer ≡ class.Sensitive = unique defs pointer (x.class pointer) class.Sensitive (classes pointer) (part_sensitive has holder) in
      subst IsSensitiveTouch (sym touch.is) (subst (λ a. IsSensitiveTouch (code.Touch touch.register a (is_some x.unit))) (sym is) tt)
