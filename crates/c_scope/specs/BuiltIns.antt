-- The functions that the language has from the start.
use Rattle.std.specs.Prelude.{ℕ, if◌then◌else◌, List, [], ◌∷◌, codes, Option, Some, None}
use Rattle.std.specs.Str.{bytes_eq}
use Rattle.c_types.specs.declared.ty.FnTy.{FnTy}
use Rattle.c_types.specs.declared.ty.Ty.{Ty}
use Rattle.c_types.specs.declared.ty.Ty.TheVariants as ty
use Rattle.c_layers.specs.Shapes.{function}
use Rattle.c_typed.specs.declared.entity.BuiltIn.{BuiltIn}
use Rattle.c_typed.specs.declared.entity.BuiltIn.TheVariants as built_in

abbrev pub Name : Type 0
Name = List ℕ

abbrev pub void_pointer : Ty
void_pointer = ty.Pointer ty.Void

abbrev pub built_ins : List (Name × BuiltIn)
built_ins = (codes "spawn", built_in.Spawn) ∷ (codes "join", built_in.Join) ∷ (codes "lock", built_in.Lock) ∷ (codes "unlock", built_in.Unlock) ∷
    (codes "print", built_in.Print) ∷ (codes "input", built_in.Input) ∷ (codes "malloc", built_in.Malloc) ∷ (codes "free", built_in.Free) ∷ []

abbrev pub named_in : List (Name × BuiltIn) → Name → Option BuiltIn
named_in [] x = None
named_in (b ∷ bs) x = if bytes_eq x b.0 then Some b.1 else named_in bs x

unfoldable pub built_in_named : Name → Option BuiltIn
built_in_named = named_in built_ins

-- a function that a thread runs, and its argument
abbrev pub spawn_type : FnTy
spawn_type = function ty.Int (ty.Pointer (ty.Function (function ty.Void (void_pointer ∷ []))) ∷ void_pointer ∷ [])

unfoldable pub built_in_type : BuiltIn → FnTy
built_in_type built_in.Spawn = spawn_type
built_in_type built_in.Join = function ty.Void (ty.Int ∷ [])
built_in_type built_in.Lock = function ty.Void (ty.Pointer ty.Int ∷ [])
built_in_type built_in.Unlock = function ty.Void (ty.Pointer ty.Int ∷ [])
built_in_type built_in.Print = function ty.Void (ty.Int ∷ [])
built_in_type built_in.Input = function ty.Int (ty.Int ∷ [])
built_in_type built_in.Malloc = function void_pointer (ty.Int ∷ [])
built_in_type built_in.Free = function ty.Void (void_pointer ∷ [])
