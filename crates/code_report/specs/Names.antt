-- The names of what a source declares, in order of declaration.
use Rattle.std.specs.Prelude.{ℕ, if◌then◌else◌, List, [], ◌∷◌}
use Rattle.c_typed.specs.declared.entity.Entity.{Entity}
use Rattle.c_typed.specs.declared.entity.Entity.TheVariants as entity
use Rattle.c_typed.specs.declared.expression.Declared.{Declared}
use Rattle.c_typed.specs.declared.statement.TypedInitDeclarator.{TypedInitDeclarator}
use Rattle.c_typed.specs.declared.unit.Local.{Local}
use Rattle.c_typed.specs.declared.unit.TypedItem.{TypedItem}
use Rattle.c_typed.specs.declared.unit.TypedItem.TheVariants as item
use Rattle.elab_pieces.specs.Program.{name_of}
use Rattle.elab_rows.specs.Scope.{is_slot_local}

-- the names of the frame locals among these variables
abbrev pub frame_names : List Local → List (List ℕ)
frame_names [] = []
frame_names (v ∷ vs) = if is_slot_local v then frame_names vs else v.name ∷ frame_names vs

abbrev pub with_global : Declared → Entity → List (List ℕ) → List (List ℕ)
with_global d (entity.Global n) names = name_of d ∷ names
with_global d _ names = names

-- those of the global variables among these declarators, before others
abbrev pub declared_names : List TypedInitDeclarator → List (List ℕ) → List (List ℕ)
declared_names [] names = names
declared_names (d ∷ ds) names = with_global d.declared d.entity (declared_names ds names)

-- the names of the global variables
abbrev pub global_names : List TypedItem → List (List ℕ)
global_names [] = []
global_names (item.Decl d ∷ is) = declared_names d.declarators (global_names is)
global_names (i ∷ is) = global_names is
