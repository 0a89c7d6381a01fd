-- What is known of the types of a source beside its rows.
use Rattle.std.specs.Prelude.{◌≤◌, Bool, length}
use Rattle.c_types.specs.declared.ty.Ty.{Ty}
use Rattle.c_types.specs.Sound.{IsSound}
use Rattle.c_typed.specs.declared.unit.Typed.{Typed}
use Rattle.c_typed_rows.specs.Types.{SourceTypes}
use Rattle.core_ir.specs.Valid.{most_structs}
use Rattle.elab_valid.specs.Types.{TellsTypes}

-- a sound table of structs, and a test that each type of the source passes
pub record TypesFit (t : Typed) (fits : Ty → Bool) : Type 0 where
  pub sound : IsSound t.structs
  pub few : length t.structs ≤ most_structs
  pub tells : TellsTypes t.structs fits
  pub types : SourceTypes fits t
