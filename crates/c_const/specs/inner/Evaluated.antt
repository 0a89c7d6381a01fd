-- What is computed of each part of an expression, and what the functions that compute it ensure.
use Rattle.std.specs.Prelude.{ℕ, List}
use Rattle.c_types.specs.declared.structs.StructDef.{StructDef}
use Rattle.c_types.specs.declared.ty.Ty.{Ty}
use Rattle.c_tree.specs.Fold.{Pass, fold}
use Rattle.c_const.specs.Constant.{Values, value_steps}

unfoldable pub evaluated : List StructDef → List (List ℕ × Ty) → Pass Values
evaluated structs names = fold (value_steps structs names)
