-- How a text grows by lines, and what elaboration says of how many there are.
use Rattle.std.specs.Prelude.{◌≡◌, ◌+◌, ◌<◌, ℕ, List, [], ◌∷◌, ◌++◌, IfSome, drop, length, slice_get}
use Rattle.c_typed.specs.declared.unit.TypedFn.{TypedFn}
use Rattle.c_typed.specs.declared.unit.TypedItem.{TypedItem}
use Rattle.c_typed.specs.declared.unit.TypedItem.TheVariants as item
use Rattle.core_ir.specs.declared.program.Function.{Function}
use Rattle.core_ir.specs.declared.program.GlobalVar.{GlobalVar}
use Rattle.core_ir.specs.declared.program.Program.{Program}
use Rattle.code_report.specs.Names.{frame_names}
use Rattle.code_report.specs.Report.{FunctionLines, GlobalLines, LocalLines}

-- ---- lines

-- such lines were added
pub record Adds (Lines : List ℕ → Type 0) (old new : List ℕ) : Type 0 where
  pub lines : List ℕ
  pub are : Lines lines
  pub is : new ≡ old ++ lines

-- Of things that are numbered, so many are left behind those whose lines were added: these lines, and any that those
-- left have, are the lines of all.
pub record Passes
    {A : Type 0} (Lines : ℕ → List A → List ℕ → Type 0)
    (first : ℕ) (all : List A) (next : ℕ) (left : List A) (old new : List ℕ) : Type 0 where
  pub count : next + length left ≡ first + length all
  pub added : List ℕ
  pub is : new ≡ old ++ added
  pub whole : (rest : List ℕ) → Lines next left rest → Lines first all (added ++ rest)

-- the lines of things from a number on
abbrev pub GlobalLinesFrom : List GlobalVar → ℕ → List (List ℕ) → List ℕ → Type 0
GlobalLinesFrom gs n names = GlobalLines names (drop n gs)

abbrev pub LocalLinesFrom : Function → ℕ → List (List ℕ) → List ℕ → Type 0
LocalLinesFrom f v names = LocalLines f v names (drop v f.locals)

abbrev pub FunctionLinesFrom : Program → ℕ → List TypedFn → List ℕ → Type 0
FunctionLinesFrom p n ds = FunctionLines p.structs n ds (drop n p.functions)

-- ---- functions

-- each definition has a function, with as many frame locals, and the entry function stands behind
pub data HaveFunctions : List TypedFn → List Function → Type 0 where
  entry_alone : (entry : Function) → HaveFunctions [] (entry ∷ [])
  one_more :
      (d : TypedFn) (ds : List TypedFn) (f : Function) (fs : List Function)
      → length (frame_names d.locals) ≡ length f.locals
      → HaveFunctions ds fs
      → HaveFunctions (d ∷ ds) (f ∷ fs)

-- a definition has such a function, number n
pub record HasFunction (fs : List Function) (n : ℕ) (d : TypedFn) : Type 0 where
  pub within : n < length fs
  pub locals : IfSome (slice_get fs n) (λ f. length (frame_names d.locals) ≡ length f.locals)

-- what an item defines has number n
abbrev pub IsDefined : List Function → ℕ → TypedItem → Type 0
IsDefined fs n (item.Function d) = HasFunction fs n d
IsDefined fs n _ = Unit {0}
