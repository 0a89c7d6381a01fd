-- The numbers of code that stands for a function are in range.
use Rattle.std.proofs.Common.{◌≡◌, ◌∙◌, ℕ, ◌<◌, List, length, Option, Some, None, slice_get, refl, sym, ap, subst, arith}
use Rattle.std.proofs.lemmas.Option.{none-some}
use Rattle.core_ir.specs.declared.instr.Instr.{Instr}
use Rattle.core_ir.specs.declared.instr.Instr.TheVariants as instr
use Rattle.core_ir.specs.declared.program.Function.{Function}
use Rattle.core_ir.specs.declared.program.GlobalVar.{GlobalVar}
use Rattle.core_ir.specs.declared.program.Local.{Local}
use Rattle.core_ir.specs.declared.program.Program.{Program}
use Rattle.core_ir.specs.Valid.{CanCall, Fits, HasArguments, HasGlobals}
use Rattle.machine.specs.declared.code.Code.{Code}
use Rattle.machine.specs.declared.code.CodeFunction.{CodeFunction}
use Rattle.machine.specs.Decided.{Context, decided, global_code, local_code}
use Rattle.machine.specs.Stands.{FunctionStands, Stands}
use Rattle.machine.specs.ValidCode.{CanCallCode, CodeFits}
use Rattle.icode.proofs.Lists.{there_too, there_within}
use Rattle.icode.proofs.LocalsStand.{globals_within}

module _ (program : Program) (code : Code) (stands : Stands code program) (f : Function) (c : CodeFunction) (same : FunctionStands program stands.class f c) (globals : HasGlobals program)
    (x : Context) (of_program : x.program ≡ program) (of_function : x.function ≡ f) where
  global_fits : (d g : ℕ) (o : Option GlobalVar) → slice_get x.program.globals g ≡ o → g < length program.globals → CodeFits code c (global_code x d g o)
  global_fits d g None is low =
      let there = there_within program.globals g low in
      absurd (none-some there.0 (sym is ∙ ap (λ (p : Program). slice_get p.globals g) of_program ∙ there.1))
  global_fits d g (Some v) is low =
      let at : slice_get program.globals g ≡ Some v = ap (λ (p : Program). slice_get p.globals g) (sym of_program) ∙ is in
      let within = globals_within program.structs 128 program.globals g v globals.lie at in
      record { from = within.0; to = omega (arith, within.1, globals.few_units) }

  local_fits : (d v : ℕ) (o : Option Local) → slice_get x.function.locals v ≡ o → v < length f.locals → CodeFits code c (local_code x d v o)
  local_fits d v None is low =
      let there = there_within f.locals v low in
      absurd (none-some there.0 (sym is ∙ ap (λ (p : Function). slice_get p.locals v) of_function ∙ there.1))
  local_fits d v (Some l) is low =
      let at : slice_get f.locals v ≡ Some l = ap (λ (p : Function). slice_get p.locals v) (sym of_function) ∙ is in
      let there = there_too c.locals f.locals (sym same.local_count) v l at in
      let alike = same.locals v l there.0 at there.1 in
      record { local = there.0; there = there.1; at = sym alike.offset; size = sym alike.units }

  can_call_code : (g : ℕ) (args : List ℕ) → CanCall program g args → CanCallCode code g args
  can_call_code g args can =
      let there = there_too code.functions program.functions (sym stands.function_count) g can.callee can.there in
      let alike = stands.functions g can.callee there.0 can.there there.1 in
      record { callee = there.0; there = there.1; arguments = subst (λ t. HasArguments t args) (sym alike.type) can.arguments }

  pub code_fits : (i : Instr) → Fits program f i → CodeFits code c (decided x i)
  code_fits (instr.AddrG d g) fits = global_fits d g (slice_get x.program.globals g) refl fits
  code_fits (instr.AddrL d v) fits = local_fits d v (slice_get x.function.locals v) refl fits
  code_fits (instr.AddrF d g) fits = omega (arith, fits, stands.function_count)
  code_fits (instr.Binary d o a b) fits = fits
  code_fits (instr.Unary d o a) fits = fits
  code_fits (instr.Call g args s) fits = can_call_code g args fits
  code_fits (instr.CallInd r args t s) fits = fits.0
  code_fits _ fits = tt
