-- The program of a typed source.
use Rattle.std.specs.Prelude.{ℕ, true, false, List, [], ◌∷◌, ◌++◌, length, map}
use Rattle.c_types.specs.declared.ty.Ty.TheVariants as ty
use Rattle.c_typed.specs.declared.expression.Declared.{Declared, out-Declared}
use Rattle.c_typed.specs.declared.expression.TypedDeclarator.{TypedDeclarator, fold-TypedDeclarator}
use Rattle.c_typed.specs.declared.expression.TypedDirect.TheOpen.{TypedDirect-F}
use Rattle.c_typed.specs.declared.unit.Typed.{Typed}
use Rattle.c_typed.specs.declared.unit.TypedFn.{TypedFn}
use Rattle.c_typed.specs.declared.unit.TypedItem.{TypedItem}
use Rattle.c_typed.specs.declared.unit.TypedItem.TheVariants as item
use Rattle.core_ir.specs.declared.program.Function.{Function}
use Rattle.core_ir.specs.declared.program.Program.{Program}
use Rattle.elab_rows.specs.declared.scope.Scope.{Scope}
use Rattle.elab_pieces.specs.Entry.{entry_function}
use Rattle.elab_pieces.specs.Functions.{function_code}
use Rattle.elab_pieces.specs.Globals.{global_list, globals}

-- the definitions of functions, in order
abbrev pub definitions : List TypedItem → List TypedFn
definitions [] = []
definitions (item.Function f ∷ is) = f ∷ definitions is
definitions (i ∷ is) = definitions is

-- a direct declarator, with the names of the declarators in it
abbrev pub DirectNames : Type 0
DirectNames = TypedDirect-F (List ℕ) (Unit {0}) (Unit {0}) (Unit {0}) (Unit {0}) (Unit {0}) (List ℕ) (Unit {0}) (List ℕ)
    (Unit {0}) (Unit {0}) (Unit {0})

abbrev pub direct_name : DirectNames → List ℕ
direct_name (TypedDirect-F.Name x) = x
direct_name (TypedDirect-F.Bracketed inside) = inside

-- the name that a declarator has
unfoldable pub declarator_name : TypedDeclarator → List ℕ
declarator_name = fold-TypedDeclarator _ _ _ _ _ _ _ _ _ _ _ _ direct_name (λ _. tt) (λ _. tt) (λ _. tt) (λ _. tt) (λ _. tt)
    (λ d. d.declarator) (λ _. tt) (λ d. d.direct) (λ _. tt) (λ _. tt) (λ _. tt)

-- the name that a typed declarator declares
unfoldable pub name_of : Declared → List ℕ
name_of d = declarator_name (out-Declared d).declarator

-- what all functions of the file see
abbrev pub file_scope : Typed → Scope
file_scope typed = record {
  structs = typed.structs;
  functions = map (λ f. name_of f.declared) (definitions typed.items);
  first_string = length (globals typed.items);
  locals = [];
  result = ty.Void;
  has_frame = false;
  folds = false;
}

abbrev pub entry_scope : Typed → Scope
entry_scope typed = record (file_scope typed) { folds = true }

-- the functions in order of their definitions, and the entry function behind them
unfoldable pub function_list : Typed → List Function
function_list typed =
    map (function_code (file_scope typed)) (definitions typed.items)
    ++ entry_function (entry_scope typed) (globals typed.items) typed.strings ∷ []

unfoldable pub program_of : Typed → Program
program_of typed = record {
  functions = function_list typed;
  globals = global_list typed;
  structs = typed.structs;
  entry = length (definitions typed.items);
}
