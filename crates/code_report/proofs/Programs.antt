-- How many names there are: as many as functions have frame locals, and at most as many as there are globals.
use Rattle.std.proofs.Common.{◌≡◌, ℕ, ◌+◌, ◌≤◌, suc, Bool, true, false, if◌then◌else◌, List, [], ◌∷◌, ◌++◌, length, map, ap, refl, arith}
use Rattle.std.proofs.lemmas.List.{length-append, length-map}
use Rattle.c_types.specs.declared.structs.StructDef.{StructDef}
use Rattle.c_types.specs.declared.ty.Ty.{Ty}
use Rattle.c_typed.specs.declared.entity.Entity.{Entity}
use Rattle.c_typed.specs.declared.entity.Entity.TheVariants as entity
use Rattle.c_typed.specs.declared.statement.TypedInitDeclarator.{TypedInitDeclarator}
use Rattle.c_typed.specs.declared.unit.Local.{Local as Variable}
use Rattle.c_typed.specs.declared.unit.Typed.{Typed}
use Rattle.c_typed.specs.declared.unit.TypedFn.{TypedFn}
use Rattle.c_typed.specs.declared.unit.TypedItem.{TypedItem}
use Rattle.c_typed.specs.declared.unit.TypedItem.TheVariants as item
use Rattle.core_ir.specs.declared.program.Function.{Function}
use Rattle.core_ir.specs.declared.program.Local.{Local}
use Rattle.core_ir.specs.Layout.{first_address}
use Rattle.elab_pieces.specs.Entry.{entry_function}
use Rattle.elab_pieces.specs.Functions.{frame_locals, function_code}
use Rattle.elab_pieces.specs.Globals.{Global, declared_globals, global_list, globals, laid_out, string_type}
use Rattle.elab_pieces.specs.Globals.{with_global as with_variable}
use Rattle.elab_pieces.specs.Program.{definitions, entry_scope, file_scope, function_list, program_of}
use Rattle.elab_rows.specs.declared.scope.Scope.{Scope}
use Rattle.elab_rows.specs.Scope.{is_slot_local}
use Rattle.elab_rows.specs.Units.{units}
use Rattle.code_report.specs.Names.{declared_names, frame_names, global_names, with_global}
use Rattle.code_report.specs.inner.Appending.{HaveFunctions, entry_alone, one_more}

-- ---- frame locals

one_or_none : (b : Bool) (x : List ℕ) (xs : List (List ℕ)) (l : Local) (ls ms : List Local)
    → length xs ≡ length ls → length xs ≡ length ms
    → length (if b then xs else x ∷ xs) ≡ length (if b then ls else l ∷ ms)
one_or_none true x xs l ls ms h k = h
one_or_none false x xs l ls ms h k = ap suc k

pub frame_count : (defs : List StructDef) (at : ℕ) (vs : List Variable) → length (frame_names vs) ≡ length (frame_locals defs at vs)
frame_count defs at [] = refl
frame_count defs at (v ∷ vs) =
    one_or_none (is_slot_local v) v.name (frame_names vs) (record { ty = v.ty; offset = at; units = units defs v.ty }) (frame_locals defs at vs) (frame_locals defs (at + units defs v.ty) vs)
    (frame_count defs at vs) (frame_count defs (at + units defs v.ty) vs)

frames_of : (scope : Scope) (d : TypedFn) → length (frame_names d.locals) ≡ length (function_code scope d).locals
unfolding function_code
frames_of scope d = frame_count scope.structs 0 d.locals

-- ---- functions

made : (scope : Scope) (entry : Function) (ds : List TypedFn) → HaveFunctions ds (map (function_code scope) ds ++ entry ∷ [])
made scope entry [] = entry_alone entry
made scope entry (d ∷ ds) = one_more d ds (function_code scope d) (map (function_code scope) ds ++ entry ∷ []) (frames_of scope d) (made scope entry ds)

pub have_functions : (typed : Typed) → HaveFunctions (definitions typed.items) (program_of typed).functions
unfolding program_of function_list
have_functions typed = made (file_scope typed) (entry_function (entry_scope typed) (globals typed.items) typed.strings) (definitions typed.items)

-- ---- global variables

one_each : (d : TypedInitDeclarator) (e : Entity) (names : List (List ℕ)) (gs : List Global)
    → length names ≡ length gs → length (with_global d.declared e names) ≡ length (with_variable d e gs)
one_each d (entity.Global n) names gs h = ap suc h
one_each d _ names gs h = h

declared_count : (ds : List TypedInitDeclarator) (names : List (List ℕ)) (gs : List Global)
    → length names ≡ length gs → length (declared_names ds names) ≡ length (declared_globals ds gs)
declared_count [] names gs h = h
declared_count (d ∷ ds) names gs h = one_each d d.entity (declared_names ds names) (declared_globals ds gs) (declared_count ds names gs h)

global_count : (is : List TypedItem) → length (global_names is) ≡ length (globals is)
global_count [] = refl
global_count (item.Decl d ∷ is) = declared_count d.declarators (global_names is) (globals is) (global_count is)
global_count (item.Function f ∷ is) = global_count is
global_count (item.Typedef s ds ∷ is) = global_count is

laid_count : (defs : List StructDef) (at : ℕ) (ts : List Ty) → length (laid_out defs at ts) ≡ length ts
laid_count defs at [] = refl
laid_count defs at (t ∷ ts) = ap suc (laid_count defs (at + units defs t) ts)

pub have_globals : (typed : Typed) → length (global_names typed.items) ≤ length (program_of typed).globals
unfolding program_of global_list
have_globals typed =
    let ts = map (λ (g : Global). g.ty) (globals typed.items) in
    let us = map string_type typed.strings in
    omega (
      arith,
      global_count typed.items,
      laid_count typed.structs first_address (ts ++ us),
      length-append ts us,
      length-map (globals typed.items) (λ (g : Global). g.ty),
    )
