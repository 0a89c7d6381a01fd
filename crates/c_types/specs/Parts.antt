-- How many parts a type has: each `int`, `char`, `void`, struct, pointer, array and function in it is one.
use Rattle.std.specs.Prelude.{ℕ, ◌+◌, sum}
use Rattle.c_types.specs.declared.ty.Ty.{Ty, fold-Ty}
use Rattle.c_types.specs.declared.ty.Ty.TheOpen.{Ty-F, FnTy-F}
use Rattle.c_types.specs.declared.ty.FnTy.{FnTy, fold-FnTy}

-- a declared type has at most so many
abbrev pub most_parts : ℕ
most_parts = 1000

abbrev pub parts_step : Ty-F ℕ ℕ → ℕ
parts_step (Ty-F.Pointer target) = 1 + target
parts_step (Ty-F.Array element bound) = 1 + element
parts_step (Ty-F.Function f) = f
parts_step _ = 1

abbrev pub function_step : FnTy-F ℕ ℕ → ℕ
function_step f = 1 + f.result + sum f.params

unfoldable pub parts : Ty → ℕ
parts = fold-Ty ℕ ℕ parts_step function_step

unfoldable pub function_parts : FnTy → ℕ
function_parts = fold-FnTy ℕ ℕ parts_step function_step
