-- Of an instruction's context its code sees the origin only where a call is indirect.
use Rattle.std.proofs.Common.{◌≡◌, ◌∙◌, ℕ, List, Option, Some, None, slice_get, refl, ap}
use Rattle.c_types.specs.declared.ty.Ty.{Ty}
use Rattle.core_ir.specs.declared.instr.Instr.{Instr}
use Rattle.core_ir.specs.declared.instr.Instr.TheVariants as instr
use Rattle.core_ir.specs.declared.program.Function.{Function}
use Rattle.core_ir.specs.declared.program.GlobalVar.{GlobalVar}
use Rattle.core_ir.specs.declared.program.Local.{Local}
use Rattle.core_ir.specs.declared.program.Program.{Program}
use Rattle.core_ir.specs.Instructions.{role_of}
use Rattle.core_ir.specs.Outline.{Outline}
use Rattle.sensitivity.specs.declared.class.Class.{Class}
use Rattle.machine.specs.declared.code.CodePlace.TheVariants as code
use Rattle.machine.specs.declared.code.Origin.{Origin}
use Rattle.machine.specs.Decided.{Context, decided, global_code, local_code}
use Rattle.machine.specs.Stands.{IsOriginOf}
use Rattle.code_laws.proofs.Origins.{one_origin}

module _ (outlines : List Outline) (k : ℕ) (x : Context) (o : Origin) where
  -- the same but for the origin
  abbrev y : Context
  y = record x { origin = o }

  same_global : (d g : ℕ) (v : Option GlobalVar) → global_code x d g v ≡ global_code y d g v
  same_global d g None = refl
  same_global d g (Some v) = refl

  same_local : (d v : ℕ) (l : Option Local) → local_code x d v l ≡ local_code y d v l
  same_local d v None = refl
  same_local d v (Some l) = refl

  by_origin : (i : Instr) → IsOriginOf outlines k (role_of i) x.origin → IsOriginOf outlines k (role_of i) o → decided x i ≡ decided y i
  by_origin (instr.AddrG d g) a b = same_global d g (slice_get x.program.globals g)
  by_origin (instr.AddrL d v) a b = same_local d v (slice_get x.function.locals v)
  by_origin (instr.CallInd c args t s) a b = ap (λ p. code.CallInd c args t s p) (one_origin outlines k c x.origin o a b)
  by_origin _ a b = refl

module _ (program : Program) (f : Function) where
  abbrev context : (Ty → Class) → Option ℕ → Origin → Context
  context class unit origin = record { program = program; function = f; class = class; unit = unit; origin = origin }

  -- with the same classes and the same unit an instruction has the same code
  pub same_code :
      (outlines : List Outline) (k : ℕ) (class other_class : Ty → Class) (unit other_unit : Option ℕ) (origin other_origin : Origin)
      → class ≡ other_class
      → unit ≡ other_unit
      → (i : Instr)
      → IsOriginOf outlines k (role_of i) origin
      → IsOriginOf outlines k (role_of i) other_origin
      → decided (context class unit origin) i ≡ decided (context other_class other_unit other_origin) i
  same_code outlines k class other_class unit other_unit origin other_origin classes units i a b =
      by_origin outlines k (context class unit origin) other_origin i a b
      ∙ (λ t. decided (context (classes t) (units t) other_origin) i)
