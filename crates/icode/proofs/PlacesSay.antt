-- A place of code that stands for an instruction says where it is, and that alone.
use Rattle.std.proofs.Common.{ℕ, List, map, Option, Some, None, is_some, slice_get}
use Rattle.c_types.specs.declared.ty.Ty.TheVariants as ty
use Rattle.core_ir.specs.declared.instr.Instr.{Instr}
use Rattle.core_ir.specs.declared.instr.Instr.TheVariants as instr
use Rattle.core_ir.specs.declared.program.GlobalVar.{GlobalVar}
use Rattle.core_ir.specs.declared.program.Local.{Local}
use Rattle.core_ir.specs.Instructions.{role_of}
use Rattle.core_ir.specs.Outline.{Outline}
use Rattle.sensitivity.specs.declared.class.Class.{Class}
use Rattle.machine.specs.declared.code.CodeFunction.{CodeFunction}
use Rattle.machine.specs.declared.code.CodePlace.TheVariants as code
use Rattle.machine.specs.Decided.{Context, decided, global_code, local_code}
use Rattle.machine.specs.Outlines.{outline_of_code}
use Rattle.machine.specs.Stands.{IsOriginOf, IsUnitOf, accessed}
use Rattle.machine.specs.ValidCode.{SaysWhere}

module _ (c : CodeFunction) (k : ℕ) (x : Context) where
  abbrev outlines : List Outline
  outlines = map outline_of_code c.body

  global_says : (d g : ℕ) (o : Option GlobalVar) → SaysWhere c k (global_code x d g o)
  global_says d g None = tt
  global_says d g (Some v) = tt

  local_says : (d v : ℕ) (o : Option Local) → SaysWhere c k (local_code x d v o)
  local_says d v None = tt
  local_says d v (Some l) = tt

  touch_says : (p : ℕ) (a : Class) (unit : Option ℕ) → IsUnitOf outlines c.locals k (Some p) unit → SaysWhere c k (code.Touch p a (is_some unit))
  touch_says p a None is = is
  touch_says p a (Some u) is = (u, is)

  pub place_says : (i : Instr) → IsUnitOf outlines c.locals k (accessed (role_of i)) x.unit → IsOriginOf outlines k (role_of i) x.origin → SaysWhere c k (decided x i)
  place_says (instr.AddrG d g) unit origin = global_says d g (slice_get x.program.globals g)
  place_says (instr.AddrL d v) unit origin = local_says d v (slice_get x.function.locals v)
  place_says (instr.Touch p t) unit origin = touch_says p (x.class (ty.Pointer t)) x.unit unit
  place_says (instr.Load d p t) unit origin = unit
  place_says (instr.Store p a t) unit origin = unit
  place_says (instr.CallInd r args t s) unit origin = origin
  place_says _ unit origin = tt
