-- The rows of the entry function.
use Rattle.std.specs.Prelude.{ℕ, suc, List, [], ◌∷◌, codes, Option, Some, None}
use Rattle.c_types.specs.declared.ty.FnTy.{FnTy, roll-FnTy}
use Rattle.c_types.specs.declared.ty.Ty.{Ty}
use Rattle.c_types.specs.declared.ty.Ty.TheVariants as ty
use Rattle.c_typed.specs.declared.statement.TypedInit.{TypedInit}
use Rattle.c_typed.specs.declared.statement.TypedInit.TheVariants as init
use Rattle.core_ir.specs.declared.instr.Instr.{Instr}
use Rattle.core_ir.specs.declared.instr.Instr.TheVariants.{Call, Return}
use Rattle.core_ir.specs.declared.program.Function.{Function}
use Rattle.elab_rows.specs.declared.scope.Scope.{Scope}
use Rattle.elab_rows.specs.Addresses.{global_address}
use Rattle.elab_rows.specs.Scope.{function_number}
use Rattle.elab_pieces.specs.Functions.{function_made}
use Rattle.elab_pieces.specs.Globals.{Global, string_type}
use Rattle.elab_pieces.specs.Initialisers.{given_initialised}
use Rattle.elab_pieces.specs.Lines.{PieceCode, all_full, all_joined, joined, no_lines, plain_lines}

abbrev pub optional_given : Scope → ℕ → Ty → Option TypedInit → PieceCode
optional_given scope g t None = no_lines
optional_given scope g t (Some i) = all_full (given_initialised scope t (global_address g) i)

-- per global with initialiser in order, per given leaf: V, converted; AddrG; PtrConst with the leaf's offset unless the
-- global is a scalar; Touch; Store
abbrev pub globals_initialised : Scope → ℕ → List Global → PieceCode
globals_initialised scope g [] = no_lines
globals_initialised scope g (v ∷ vs) =
    joined (optional_given scope g v.ty v.init) (globals_initialised scope (suc g) vs)

-- per unit of each string in order, Const; AddrG; PtrConst; Touch; Store
abbrev pub strings_initialised : Scope → ℕ → List (List ℕ) → PieceCode
strings_initialised scope g [] = no_lines
strings_initialised scope g (s ∷ ss) =
    joined (optional_given scope g (string_type s) (Some (init.Text s))) (strings_initialised scope (suc g) ss)

-- Call main without a result slot; Return
abbrev pub start : Scope → List Instr
start scope = Call (function_number scope.functions (codes "main")) [] None ∷ Return None ∷ []

-- globals, then strings, then the start of the source's program
abbrev pub entry_code : Scope → List Global → List (List ℕ) → PieceCode
entry_code scope variables strings =
    all_joined (
    globals_initialised scope 0 variables
    ∷ strings_initialised scope scope.first_string strings
    ∷ plain_lines (start scope)
    ∷ [])

abbrev pub entry_type : FnTy
entry_type = roll-FnTy (record { result = ty.Void; params = [] })

unfoldable pub entry_function : Scope → List Global → List (List ℕ) → Function
entry_function scope variables strings = function_made entry_type [] (entry_code scope variables strings 0 0)
