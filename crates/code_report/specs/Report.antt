-- The report on a source: the class of a pointer to each struct, where each global variable lies, and for each function
-- how many instructions and checks it has, and which of its frame locals are safe.
use Rattle.std.specs.Prelude.{◌≡◌, ◌↔◌, ℕ, suc, Bool, IsTrue, ◌++◌, List, [], ◌∷◌, length}
use Rattle.c_types.specs.declared.structs.StructDef.{StructDef}
use Rattle.c_types.specs.declared.ty.Ty.TheVariants as ty
use Rattle.c_typed.specs.declared.unit.Typed.{Typed}
use Rattle.c_typed.specs.declared.unit.TypedFn.{TypedFn}
use Rattle.core_ir.specs.declared.program.Function.{Function}
use Rattle.core_ir.specs.declared.program.GlobalVar.{GlobalVar}
use Rattle.core_ir.specs.declared.program.Local.{Local}
use Rattle.core_ir.specs.declared.program.Program.{Program}
use Rattle.core_ir.specs.SafeLocal.{IsSafeLocal}
use Rattle.sensitivity.specs.declared.class.Class.{Class}
use Rattle.sensitivity.specs.Classes.{HasClass}
use Rattle.elab_pieces.specs.Program.{definitions, name_of}
use Rattle.code_report.specs.Checks.{Counts, IsCheck}
use Rattle.code_report.specs.Lines.{function_line, global_line, local_line, struct_line}
use Rattle.code_report.specs.Names.{frame_names, global_names}

-- the lines of the structs of a table from number n on
pub data StructLines (defs : List StructDef) : ℕ → List StructDef → List ℕ → Type 0 where
  no_structs : (n : ℕ) → StructLines defs n [] []
  one_struct :
      (n : ℕ) (d : StructDef) (ds : List StructDef) (c : Class) (text : List ℕ)
      → HasClass defs (ty.Pointer (ty.Struct n)) c
      → StructLines defs (suc n) ds text
      → StructLines defs n (d ∷ ds) (struct_line d.name c ++ text)

-- the lines of global variables with these names; the strings behind them have none
pub data GlobalLines : List (List ℕ) → List GlobalVar → List ℕ → Type 0 where
  no_globals : (strings : List GlobalVar) → GlobalLines [] strings []
  one_global :
      (x : List ℕ) (xs : List (List ℕ)) (g : GlobalVar) (gs : List GlobalVar) (text : List ℕ)
      → GlobalLines xs gs text
      → GlobalLines (x ∷ xs) (g ∷ gs) (global_line x g ++ text)

-- the lines of the frame locals of a function from number v on, with their names
pub data LocalLines (f : Function) : ℕ → List (List ℕ) → List Local → List ℕ → Type 0 where
  no_locals : (v : ℕ) → LocalLines f v [] [] []
  one_local :
      (v : ℕ) (x : List ℕ) (xs : List (List ℕ)) (l : Local) (ls : List Local) (is_safe : Bool) (text : List ℕ)
      → IsTrue is_safe ↔ IsSafeLocal f v
      → LocalLines f (suc v) xs ls text
      → LocalLines f v (x ∷ xs) (l ∷ ls) (local_line x is_safe ++ text)

-- the lines of function n, which is that of a definition: its own, and those of its frame locals
pub record DefinitionLines (defs : List StructDef) (n : ℕ) (d : TypedFn) (f : Function) (text : List ℕ) : Type 0 where
  pub checks : ℕ
  pub counted : Counts (IsCheck defs f) (length f.body) checks
  pub locals : List ℕ
  pub local_lines : LocalLines f 0 (frame_names d.locals) f.locals locals
  pub is : text ≡ function_line n (name_of d.declared) (length f.body) checks ++ locals

-- the lines of the functions of definitions from number n on; the entry function behind them has none
pub data FunctionLines (defs : List StructDef) : ℕ → List TypedFn → List Function → List ℕ → Type 0 where
  no_functions : (n : ℕ) (entry : Function) → FunctionLines defs n [] (entry ∷ []) []
  one_function :
      (n : ℕ) (d : TypedFn) (ds : List TypedFn) (f : Function) (fs : List Function) (lines text : List ℕ)
      → DefinitionLines defs n d f lines
      → FunctionLines defs (suc n) ds fs text
      → FunctionLines defs n (d ∷ ds) (f ∷ fs) (lines ++ text)

-- the report on a source with this program
pub record IsReport (typed : Typed) (p : Program) (text : List ℕ) : Type 0 where
  pub structs : List ℕ
  pub struct_lines : StructLines p.structs 0 p.structs structs
  pub globals : List ℕ
  pub global_lines : GlobalLines (global_names typed.items) p.globals globals
  pub functions : List ℕ
  pub function_lines : FunctionLines p.structs 0 (definitions typed.items) p.functions functions
  pub is : text ≡ structs ++ globals ++ functions
