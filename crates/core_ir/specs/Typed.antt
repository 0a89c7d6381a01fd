-- Code whose registers and slots have types: what serves each operand has the type that its use asks for. A `char` counts
-- as an `int`, and a pointer to an array as a pointer to its innermost element.
use Rattle.std.specs.Prelude.{◌≡◌, ℕ, ℤ, All, Contains, List, [], ◌∷◌, length, map, Option, Some, None, slice_get, take}
use Rattle.std.specs.Option.{option_map}
use Rattle.c_types.specs.declared.ty.FnTy.{FnTy, out-FnTy, roll-FnTy}
use Rattle.c_types.specs.declared.ty.Ty.{Ty, out-Ty, fold-Ty}
use Rattle.c_types.specs.declared.ty.Ty.TheOpen.{Ty-F, FnTy-F}
use Rattle.c_types.specs.declared.ty.Ty.TheVariants as ty
use Rattle.core_ir.specs.declared.instr.Instr.{Instr}
use Rattle.core_ir.specs.declared.instr.Instr.TheVariants.{Const, AddrG, AddrL, AddrF, GetLocal, SetLocal, Binary, Unary, PtrAdd, PtrConst, Cast, Load, Store, Call, CallInd, Return, Malloc, Free, Fork, StartArg, StartFn, Input}
use Rattle.core_ir.specs.declared.operator.Operator.{Operator}
use Rattle.core_ir.specs.declared.program.Function.{Function}
use Rattle.core_ir.specs.declared.program.GlobalVar.{GlobalVar}
use Rattle.core_ir.specs.declared.program.Local.{Local}
use Rattle.core_ir.specs.declared.program.Program.{Program}
use Rattle.core_ir.specs.Flow.{Serves}
use Rattle.core_ir.specs.Instructions.{outline_of}

-- ---- types up to `char` and arrays

abbrev pub same_both : Ty → Ty × Ty
same_both t = (t, t)

-- a type, and the same without its outer arrays
abbrev pub element_step : Ty-F (Ty × Ty) FnTy → Ty × Ty
element_step Ty-F.Int = same_both ty.Int
element_step Ty-F.Char = same_both ty.Char
element_step Ty-F.Void = same_both ty.Void
element_step (Ty-F.Struct s) = same_both (ty.Struct s)
element_step (Ty-F.Pointer t) = same_both (ty.Pointer t.0)
element_step (Ty-F.Array t n) = (ty.Array t.0 n, t.1)
element_step (Ty-F.Function f) = same_both (ty.Function f)

abbrev pub function_step : FnTy-F (Ty × Ty) FnTy → FnTy
function_step f = roll-FnTy (record { result = f.result.0; params = map (λ t. t.0) f.params })

-- the innermost element of an array; each other type itself
unfoldable pub element_of : Ty → Ty
element_of t = (fold-Ty (Ty × Ty) FnTy element_step function_step t).1

abbrev pub plain_at : Ty → Ty-F Ty FnTy → Ty
plain_at t Ty-F.Char = ty.Int
plain_at t (Ty-F.Pointer target) = ty.Pointer (element_of target)
plain_at t _ = t

unfoldable pub plain_type : Ty → Ty
plain_type t = plain_at t (out-Ty t)

-- ---- what registers have

abbrev pub void_pointer : Ty
void_pointer = ty.Pointer ty.Void

abbrev pub function_pointer : FnTy → Ty
function_pointer f = ty.Pointer (ty.Function f)

-- what a thread starts with
abbrev pub start_type : FnTy
start_type = roll-FnTy (record { result = ty.Void; params = void_pointer ∷ [] })

-- the instruction stands at the place
abbrev pub IsAt : Function → ℕ → Instr → Type 0
IsAt f k i = slice_get f.body k ≡ Some i

-- what serves a use of a register
abbrev pub ServesIn : Function → ℕ → ℕ → ℕ → Type 0
ServesIn f s u r = Serves (map outline_of f.body) 0 s u r

-- what the instruction at a place defines has this type; `slots` are the types of the slots
pub data TypeAt (p : Program) (f : Function) (slots : List Ty) : ℕ → Ty → Type 0 where
  number : (k d : ℕ) (v : ℤ) → IsAt f k (Const d v) → TypeAt p f slots k ty.Int
  global :
      (k d g : ℕ) (v : GlobalVar)
      → IsAt f k (AddrG d g)
      → slice_get p.globals g ≡ Some v
      → TypeAt p f slots k (ty.Pointer v.ty)
  local :
      (k d v : ℕ) (l : Local)
      → IsAt f k (AddrL d v)
      → slice_get f.locals v ≡ Some l
      → TypeAt p f slots k (ty.Pointer l.ty)
  function :
      (k d g : ℕ) (h : Function)
      → IsAt f k (AddrF d g)
      → slice_get p.functions g ≡ Some h
      → TypeAt p f slots k (function_pointer h.ty)
  slot :
      (k d s : ℕ) (t : Ty)
      → IsAt f k (GetLocal d s)
      → slice_get slots s ≡ Some t
      → TypeAt p f slots k t
  binary : (k d a b : ℕ) (o : Operator) → IsAt f k (Binary d o a b) → TypeAt p f slots k ty.Int
  unary : (k d a : ℕ) (o : Operator) → IsAt f k (Unary d o a) → TypeAt p f slots k ty.Int
  indexed :
      (k d q i n s : ℕ) (t : Ty)
      → IsAt f k (PtrAdd d q i n)
      → ServesIn f s k q
      → TypeAt p f slots s t
      → TypeAt p f slots k t
  shifted :
      (k d q n s : ℕ) (t : Ty)
      → IsAt f k (PtrConst d q n)
      → ServesIn f s k q
      → TypeAt p f slots s t
      → TypeAt p f slots k t
  cast : (k d a : ℕ) (from to : Ty) → IsAt f k (Cast d a from to) → TypeAt p f slots k to
  load : (k d q : ℕ) (t : Ty) → IsAt f k (Load d q t) → TypeAt p f slots k t
  allocation : (k d a : ℕ) → IsAt f k (Malloc d a) → TypeAt p f slots k void_pointer
  thread : (k d : ℕ) → IsAt f k (Fork d) → TypeAt p f slots k ty.Int
  input : (k d a : ℕ) → IsAt f k (Input d a) → TypeAt p f slots k ty.Int

-- ---- what uses ask for

-- the second list has the types that are asked of the registers in the first
abbrev pub asked_each : List ℕ → List Ty → List (ℕ × Ty)
asked_each [] ts = []
asked_each rs [] = []
asked_each (r ∷ rs) (t ∷ ts) = (r, t) ∷ asked_each rs ts

abbrev pub asked_slot : List Ty → ℕ → ℕ → List (ℕ × Ty)
asked_slot slots s a = elim (slice_get slots s) [ None ↦ [] | Some t ↦ (a, t) ∷ [] ]

abbrev pub asked_result : FnTy → Option ℕ → List (ℕ × Ty)
asked_result f None = []
asked_result f (Some a) = (a, (out-FnTy f).result) ∷ []

abbrev pub asked_call : Option Function → List ℕ → List (ℕ × Ty)
asked_call None args = []
asked_call (Some g) args = asked_each args (out-FnTy g.ty).params

-- the registers whose type a use asks for, with that type
abbrev pub asked : Program → Function → List Ty → Instr → List (ℕ × Ty)
asked p f slots (Store q a t) = (a, t) ∷ []
asked p f slots (Cast d a from to) = (a, from) ∷ []
asked p f slots (SetLocal s a) = asked_slot slots s a
asked p f slots (Return a) = asked_result f.ty a
asked p f slots (Call g args s) = asked_call (slice_get p.functions g) args
asked p f slots (CallInd c args t s) = (c, function_pointer t) ∷ asked_each args (out-FnTy t).params
asked p f slots (Free q) = (q, void_pointer) ∷ []
asked p f slots (StartArg t a) = (a, void_pointer) ∷ []
asked p f slots (StartFn t g) = (g, function_pointer start_type) ∷ []
asked p f slots _ = []

-- the type of the result that a slot receives
abbrev pub received : Program → Instr → Option (ℕ × Ty)
received p (Call g args (Some s)) = option_map (λ h. (s, (out-FnTy h.ty).result)) (slice_get p.functions g)
received p (CallInd c args t (Some s)) = Some (s, (out-FnTy t).result)
received p _ = None

-- what serves the use has this type, up to `char` and outer arrays
pub record HasType (p : Program) (f : Function) (slots : List Ty) (s : ℕ) (t : Ty) : Type 0 where
  pub found : Ty
  pub at : TypeAt p f slots s found
  pub fits : plain_type found ≡ plain_type t

pub record IsTypedBody (p : Program) (f : Function) : Type 0 where
  pub slots : List Ty
  pub slot_count : length slots ≡ f.slots
  pub parameters_first : take (length (out-FnTy f.ty).params) slots ≡ (out-FnTy f.ty).params
  pub uses :
      (s u r : ℕ) (i : Instr) (t : Ty)
      → IsAt f u i
      → Contains (asked p f slots i) (r, t)
      → ServesIn f s u r
      → HasType p f slots s t
  pub results :
      (u s : ℕ) (i : Instr) (t : Ty)
      → IsAt f u i
      → received p i ≡ Some (s, t)
      → slice_get slots s ≡ Some t

-- every body is typed, and nothing takes the address of the entry function
pub record IsTypedCode (p : Program) : Type 0 where
  pub bodies : All (IsTypedBody p) p.functions
  pub entry_not_taken :
      (f : Function) (k d : ℕ)
      → Contains p.functions f
      → IsAt f k (AddrF d p.entry)
      → ⊥
