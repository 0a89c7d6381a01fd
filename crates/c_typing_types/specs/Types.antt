-- Tests of types: that their bounds are at least 1, that declarators make their functions, and both and their structs.
use Rattle.std.specs.Prelude.{◌≤◌, ℕ, Bool, true, false, ◌&&◌, ◌||◌, nat_le, IsTrue, length}
use Rattle.std.specs.List.{list_all}
use Rattle.c_types.specs.declared.ty.FnTy.{FnTy, fold-FnTy, out-FnTy}
use Rattle.c_types.specs.declared.ty.Ty.{Ty, fold-Ty}
use Rattle.c_types.specs.declared.ty.Ty.TheOpen.{FnTy-F, Ty-F}
use Rattle.c_types.specs.Kinds.{is_scalar, is_void}
use Rattle.c_types.specs.Sound.{function_step, names_below}
use Rattle.c_scope.specs.Declarations.{most_parameters}

-- ---- bounds

abbrev pub bounds_step : Ty-F Bool Bool → Bool
bounds_step (Ty-F.Pointer target) = target
bounds_step (Ty-F.Array element bound) = element && nat_le 1 bound
bounds_step (Ty-F.Function f) = f
bounds_step _ = true

-- each bound in the type, also behind pointers, is at least 1
unfoldable pub has_bounds : Ty → Bool
has_bounds = fold-Ty Bool Bool bounds_step function_step

-- the same of a function's type
unfoldable pub function_has_bounds : FnTy → Bool
function_has_bounds = fold-FnTy Bool Bool bounds_step function_step

-- ---- functions

-- what is known of a type from its parts: that each function in it is one that a declarator makes, and which kind it is
pub record Tested : Type 0 where
  pub fits : Bool
  pub scalar : Bool
  pub void : Bool

abbrev pub functions_step : Ty-F Tested Bool → Tested
functions_step Ty-F.Int = record { fits = true; scalar = true; void = false }
functions_step Ty-F.Char = record { fits = true; scalar = true; void = false }
functions_step Ty-F.Void = record { fits = true; scalar = false; void = true }
functions_step (Ty-F.Struct s) = record { fits = true; scalar = false; void = false }
functions_step (Ty-F.Pointer target) = record { fits = target.fits; scalar = true; void = false }
functions_step (Ty-F.Array element bound) = record { fits = element.fits; scalar = false; void = false }
functions_step (Ty-F.Function f) = record { fits = f; scalar = false; void = false }

-- it gives a scalar or nothing, and takes at most eight scalars
abbrev pub declared_step : FnTy-F Tested Bool → Bool
declared_step f =
    (f.result.fits && (f.result.scalar || f.result.void))
    && (list_all (λ p. p.fits && p.scalar) f.params && nat_le (length f.params) most_parameters)

unfoldable pub tested : Ty → Tested
tested = fold-Ty Tested Bool functions_step declared_step

-- each function in the type, also behind pointers, is so
unfoldable pub functions_fit : Ty → Bool
functions_fit t = (tested t).fits

-- the same of a function's type
unfoldable pub function_fits : FnTy → Bool
function_fits = fold-FnTy Tested Bool functions_step declared_step

-- what that says of a function
pub record IsDeclarable (f : FnTy) : Type 0 where
  pub params : IsTrue (list_all is_scalar (out-FnTy f).params)
  pub few : length (out-FnTy f).params ≤ most_parameters
  pub result : IsTrue (is_scalar (out-FnTy f).result || is_void (out-FnTy f).result)

-- ---- both, and structs

-- it names structs of the first so many, declarators make its functions, and its bounds are at least 1
abbrev pub is_well_made : ℕ → Ty → Bool
is_well_made n t = names_below n t && (functions_fit t && has_bounds t)
