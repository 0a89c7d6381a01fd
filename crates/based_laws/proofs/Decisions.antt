-- The instruction of a program for which code stands at a place.
use Rattle.std.proofs.Common.{◌≡◌, ℕ, ◌<◌, length, Some, slice_get, arith}
use Rattle.core_ir.specs.declared.instr.Instr.{Instr}
use Rattle.core_ir.specs.declared.program.Function.{Function}
use Rattle.core_ir.specs.declared.program.Program.{Program}
use Rattle.machine.specs.declared.code.Code.{Code}
use Rattle.machine.specs.declared.code.CodeFunction.{CodeFunction}
use Rattle.machine.specs.declared.code.CodePlace.{CodePlace}
use Rattle.machine.specs.Stands.{FunctionStands, PlaceStands, Stands}
use Rattle.machine.specs.Threads.{place_at}
use Rattle.thread_laws.proofs.Bodies.{StandsIn, stands_in, stands_within}
use Rattle.machine_laws.proofs.Frames.{there_is}

pub record StandsFor (program : Program) (code : Code) (stands : Stands code program) (n k : ℕ) (i : CodePlace) : Type 0 where
  pub function : Function
  pub code_function : CodeFunction
  pub instruction : Instr
  pub there : slice_get program.functions n ≡ Some function
  pub code_there : slice_get code.functions n ≡ Some code_function
  pub at : slice_get function.body k ≡ Some instruction
  pub code_at : slice_get code_function.body k ≡ Some i
  pub stands_for : FunctionStands program stands.class function code_function
  pub place : PlaceStands program stands.class function code_function k instruction i

pub stands_for : (program : Program) (code : Code) (stands : Stands code program) (n k : ℕ) (i : CodePlace)
    → place_at code n k ≡ Some i
    → StandsFor program code stands n k i
stands_for program code stands n k i here =
    let now : StandsIn code n k i = stands_in code n k i here in
    let within : n < length code.functions = stands_within code.functions n now.function now.there in
    let function = there_is program.functions n (omega (arith, within, stands.function_count)) in
    let pair : FunctionStands program stands.class function.0 now.function = stands.functions n function.0 now.function function.1 now.there in
    let low : k < length now.function.body = stands_within now.function.body k i now.at in
    let instruction = there_is function.0.body k (omega (arith, low, pair.place_count)) in
    record {
      function = function.0;
      code_function = now.function;
      instruction = instruction.0;
      there = function.1;
      code_there = now.there;
      at = instruction.1;
      code_at = now.at;
      stands_for = pair;
      place = pair.places k instruction.0 i instruction.1 now.at;
    }
