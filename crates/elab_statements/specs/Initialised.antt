-- What the initialiser of a variable adds: all of its leaves, or those that are given.
use Rattle.std.specs.Prelude.{Bool, true, false, List}
use Rattle.c_typed.specs.declared.statement.TypedInit.{TypedInit, out-TypedInit}
use Rattle.elab_rows.specs.Addresses.{global_address, local_address}
use Rattle.elab_rows.specs.Made.{Code}
use Rattle.elab_rows.specs.declared.scope.Scope.{Scope}
use Rattle.elab_pieces.specs.Initialisers.{Leaf, given_leaves, initialised_at, leaves}
use Rattle.elab_pieces.specs.Lines.{PieceCode, all_full}
use Rattle.elab_statements.specs.declared.targets.Base.{Base}
use Rattle.elab_statements.specs.declared.targets.Base.TheVariants as base
use Rattle.elab_statements.specs.declared.targets.Target.{Target}

abbrev pub base_code : Base → Code
base_code (base.Global g) = global_address g
base_code (base.Local v) = local_address v

abbrev pub kept_leaves : Bool → List Leaf → List Leaf
kept_leaves true ls = ls
kept_leaves false ls = given_leaves ls

-- what an initialiser of the whole variable adds
abbrev pub initialised_by : Scope → Target → TypedInit → PieceCode
initialised_by scope x i =
    all_full (initialised_at scope x.ty (base_code x.base) (kept_leaves x.all (leaves scope.structs i x.ty 0)) (out-TypedInit i))
