-- What a function's scope, its context and its program say of names agree.
use Rattle.std.specs.Prelude.{◌≡◌, ◌≢◌, ℕ, ◌+◌, ◌<◌, false, List, length, IsTrue, Option, Some, slice_get}
use Rattle.std.specs.Option.{option_map}
use Rattle.c_types.specs.declared.ty.FnTy.{FnTy}
use Rattle.c_types.specs.declared.ty.Ty.{Ty}
use Rattle.c_types.specs.declared.ty.Ty.TheVariants as ty
use Rattle.c_types.specs.Kinds.{is_scalar}
use Rattle.c_types.specs.Sound.{IsSound}
use Rattle.c_types.specs.Units.{has_units}
use Rattle.c_typed.specs.declared.unit.Local.{Local}
use Rattle.c_typed_rows.specs.Contexts.{Context, defined_as, global_type}
use Rattle.core_ir.specs.declared.program.Function.{Function}
use Rattle.core_ir.specs.declared.program.GlobalVar.{GlobalVar}
use Rattle.core_ir.specs.declared.program.Local.{Local as FrameLocal}
use Rattle.core_ir.specs.declared.program.Program.{Program}
use Rattle.elab_rows.specs.declared.scope.Scope.{Scope}
use Rattle.elab_rows.specs.declared.scope.Standing.{Standing}
use Rattle.elab_rows.specs.declared.scope.Standing.TheVariants as stands
use Rattle.elab_rows.specs.Scope.{function_number, standing_of}

-- the type of a global, and of a local of the frame
abbrev pub type_of_global : Program → ℕ → Option Ty
type_of_global p n = option_map (λ (g : GlobalVar). g.ty) (slice_get p.globals n)

abbrev pub local_type : Function → ℕ → Option Ty
local_type f v = option_map (λ (l : FrameLocal). l.ty) (slice_get f.locals v)

-- a local in a slot is a scalar whose address is taken nowhere; another is a local of the frame. The first slots have these types.
abbrev pub StandingFits : List Ty → Function → Local → Standing → Type 0
StandingFits known f l (stands.Slot s) =
    (s < f.slots) × IsTrue (is_scalar l.ty) × (l.is_addressed ≡ false) × (slice_get known s ≡ Some l.ty)
StandingFits known f l (stands.Frame v) = (v < length f.locals) × (local_type f v ≡ Some l.ty)

pub record LocalFits (known : List Ty) (p : Program) (f : Function) (scope : Scope) (n : ℕ) (l : Local) : Type 0 where
  pub standing : Standing
  pub there : standing_of scope n ≡ Some standing
  pub fits : StandingFits known f l standing
  pub units : IsTrue (has_units p.structs l.ty)

pub record GlobalFits (p : Program) (n : ℕ) (t : Ty) : Type 0 where
  pub there : n < length p.globals
  pub is : type_of_global p n ≡ Some t
  pub units : IsTrue (has_units p.structs t)

-- the function of a name, and its type
pub record FunctionFits (p : Program) (scope : Scope) (name : List ℕ) (t : FnTy) : Type 0 where
  pub function : Function
  pub there : slice_get p.functions (function_number scope.functions name) ≡ Some function
  pub ty : function.ty ≡ t
  -- it isn't the entry function
  pub other : function_number scope.functions name ≢ p.entry

-- names of the context stand for what the program has of them, in this function
pub record ScopeFits (known : List Ty) (k : Context) (scope : Scope) (p : Program) (f : Function) : Type 0 where
  pub structs_of_scope : scope.structs ≡ p.structs
  pub structs_of_context : k.structs ≡ p.structs
  pub sound : IsSound p.structs
  pub locals : (n : ℕ) (l : Local) → slice_get k.locals n ≡ Some l → LocalFits known p f scope n l
  pub globals : (n : ℕ) (t : Ty) → global_type k n ≡ Some t → GlobalFits p n t
  pub functions : (name : List ℕ) (t : FnTy) → defined_as k.functions name ≡ Some t → FunctionFits p scope name t
  pub strings : (n : ℕ) (bytes : List ℕ) → slice_get k.strings n ≡ Some bytes → scope.first_string + n < length p.globals
  pub string_types :
      (n : ℕ) (bytes : List ℕ)
      → slice_get k.strings n ≡ Some bytes
      → type_of_global p (scope.first_string + n) ≡ Some (ty.Array ty.Char (length bytes + 1))
