-- Innermost elements and scalars, case by case.
use Rattle.std.specs.Prelude.{ℕ, List, [], ◌∷◌}
use Rattle.c_types.specs.declared.ty.FnTy.{FnTy}
use Rattle.c_types.specs.declared.ty.Ty.{Ty}
use Rattle.c_types.specs.declared.ty.Ty.TheOpen.{Ty-F}
use Rattle.core_ir.specs.Typed.{element_of}
use Rattle.elab_rows.specs.Units.{repeated, scalars_in}

abbrev pub element_by : Ty → Ty-F Ty FnTy → Ty
element_by t (Ty-F.Array e n) = element_of e
element_by t _ = t

abbrev pub scalars_by : (ℕ → List Ty) → Ty → Ty-F Ty FnTy → List Ty
scalars_by of_struct t (Ty-F.Array e n) = repeated n (scalars_in of_struct e)
scalars_by of_struct t (Ty-F.Struct s) = of_struct s
scalars_by of_struct t Ty-F.Void = []
scalars_by of_struct t (Ty-F.Function f) = []
scalars_by of_struct t _ = t ∷ []
