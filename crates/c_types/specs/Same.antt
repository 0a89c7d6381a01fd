-- When two types are the same: structs by their numbers, all else part by part.
use Rattle.std.specs.Prelude.{Bool, true, false, ◌&&◌, nat_eq, List, [], ◌∷◌, map}
use Rattle.c_types.specs.declared.ty.Ty.{Ty, out-Ty, fold-Ty}
use Rattle.c_types.specs.declared.ty.Ty.TheOpen.{Ty-F, FnTy-F}
use Rattle.c_types.specs.declared.ty.FnTy.{FnTy, out-FnTy, fold-FnTy}

abbrev pub Test : Type 0 → Type 0
Test A = A → Bool

abbrev pub agree : List (Test Ty) → List Ty → Bool
agree [] [] = true
agree (p ∷ ps) (t ∷ ts) = p t && agree ps ts
agree _ _ = false

abbrev pub same_at : Ty-F (Test Ty) (Test FnTy) → Ty-F Ty FnTy → Bool
same_at Ty-F.Int Ty-F.Int = true
same_at Ty-F.Char Ty-F.Char = true
same_at Ty-F.Void Ty-F.Void = true
same_at (Ty-F.Struct m) (Ty-F.Struct n) = nat_eq m n
same_at (Ty-F.Pointer p) (Ty-F.Pointer t) = p t
same_at (Ty-F.Array p m) (Ty-F.Array t n) = nat_eq m n && p t
same_at (Ty-F.Function p) (Ty-F.Function f) = p f
same_at _ _ = false

abbrev pub same_step : Ty-F (Test Ty) (Test FnTy) → Test Ty
same_step s t = same_at s (out-Ty t)

abbrev pub same_function_step : FnTy-F (Test Ty) (Test FnTy) → Test FnTy
same_function_step s f = s.result (out-FnTy f).result && agree s.params (out-FnTy f).params

unfoldable pub same : Ty → Ty → Bool
same = fold-Ty (Test Ty) (Test FnTy) same_step same_function_step

unfoldable pub same_function : FnTy → FnTy → Bool
same_function = fold-FnTy (Test Ty) (Test FnTy) same_step same_function_step

-- equally many, and the same at each place
abbrev pub all_same : List Ty → List Ty → Bool
all_same ts us = agree (map same ts) us
