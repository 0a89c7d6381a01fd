-- The scalars of which types consist. Each takes one unit, so an offset is a place in the list.
use Rattle.std.specs.Prelude.{ℕ, zero, suc, List, [], ◌∷◌, ◌++◌, length, map, unwrap_or}
use Rattle.std.specs.Result.{result_ok}
use Rattle.c_types.specs.declared.structs.Member.{Member}
use Rattle.c_types.specs.declared.structs.StructDef.{StructDef}
use Rattle.c_types.specs.declared.ty.FnTy.{FnTy, roll-FnTy}
use Rattle.c_types.specs.declared.ty.Ty.{Ty, fold-Ty}
use Rattle.c_types.specs.declared.ty.Ty.TheOpen.{Ty-F, FnTy-F}
use Rattle.c_types.specs.declared.ty.Ty.TheVariants as ty
use Rattle.c_types.specs.Structs.{members_of}
use Rattle.c_types.specs.Units.{exact_units, offset_of}

-- the units of a type that has some
unfoldable pub units : List StructDef → Ty → ℕ
units defs t = unwrap_or (exact_units defs t) 0

-- the offset of a member of a struct that has units
unfoldable pub offset : List StructDef → ℕ → ℕ → ℕ
offset defs s member = unwrap_or (result_ok (offset_of defs s member)) 0

abbrev pub repeated : {A : Type 0} → ℕ → List A → List A
repeated zero xs = []
repeated (suc n) xs = xs ++ repeated n xs

-- where this says the scalars of structs
module _ (of_struct : ℕ → List Ty) where
  -- a type, and its scalars
  abbrev pub scalars_step : Ty-F (Ty × List Ty) FnTy → Ty × List Ty
  scalars_step Ty-F.Int = (ty.Int, ty.Int ∷ [])
  scalars_step Ty-F.Char = (ty.Char, ty.Char ∷ [])
  scalars_step Ty-F.Void = (ty.Void, [])
  scalars_step (Ty-F.Struct s) = (ty.Struct s, of_struct s)
  scalars_step (Ty-F.Pointer target) = (ty.Pointer target.0, ty.Pointer target.0 ∷ [])
  scalars_step (Ty-F.Array element bound) = (ty.Array element.0 bound, repeated bound element.1)
  scalars_step (Ty-F.Function f) = (ty.Function f, [])

  abbrev pub function_step : FnTy-F (Ty × List Ty) FnTy → FnTy
  function_step f = roll-FnTy (record { result = f.result.0; params = map (λ t. t.0) f.params })

  unfoldable pub scalars_in : Ty → List Ty
  scalars_in t = (fold-Ty (Ty × List Ty) FnTy scalars_step function_step t).1

abbrev pub each_scalars : (ℕ → List Ty) → List Member → List Ty
each_scalars of_struct [] = []
each_scalars of_struct (m ∷ ms) = scalars_in of_struct m.ty ++ each_scalars of_struct ms

-- the scalars of a struct in which structs stand at most so deep
unfoldable pub struct_scalars : ℕ → List StructDef → ℕ → List Ty
struct_scalars zero defs s = []
struct_scalars (suc depth) defs s = each_scalars (struct_scalars depth defs) (members_of defs s)

-- the scalars of a type in order of offset
unfoldable pub scalars : List StructDef → Ty → List Ty
scalars defs = scalars_in (struct_scalars (length defs) defs)
