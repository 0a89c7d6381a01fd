-- Code that stands for instructions has their outlines.
use Rattle.std.proofs.Common.{◌≡◌, ℕ, zero, suc, List, [], ◌∷◌, length, map, Option, Some, None, slice_get, refl, arith}
use Rattle.core_ir.specs.declared.instr.Instr.{Instr}
use Rattle.core_ir.specs.declared.instr.Instr.TheVariants as instr
use Rattle.core_ir.specs.declared.program.GlobalVar.{GlobalVar}
use Rattle.core_ir.specs.declared.program.Local.{Local}
use Rattle.core_ir.specs.Instructions.{outline_of}
use Rattle.machine.specs.declared.code.CodePlace.{CodePlace}
use Rattle.machine.specs.Decided.{Context, decided, global_code, local_code}
use Rattle.machine.specs.Outlines.{outline_of_code}

same_global : (x : Context) (d g : ℕ) (o : Option GlobalVar) → outline_of_code (global_code x d g o) ≡ outline_of (instr.AddrG d g)
same_global x d g None = refl
same_global x d g (Some v) = refl

same_local : (x : Context) (d v : ℕ) (o : Option Local) → outline_of_code (local_code x d v o) ≡ outline_of (instr.AddrL d v)
same_local x d v None = refl
same_local x d v (Some l) = refl

pub same_outline : (x : Context) (i : Instr) → outline_of_code (decided x i) ≡ outline_of i
same_outline x (instr.AddrG d g) = same_global x d g (slice_get x.program.globals g)
same_outline x (instr.AddrL d v) = same_local x d v (slice_get x.function.locals v)
same_outline x _ = refl

pub same_outlines :
    (instrs : List Instr) (places : List CodePlace)
    → length places ≡ length instrs
    → ((k : ℕ) (i : Instr) (p : CodePlace) → slice_get instrs k ≡ Some i → slice_get places k ≡ Some p → outline_of_code p ≡ outline_of i)
    → map outline_of_code places ≡ map outline_of instrs
same_outlines [] [] same each = refl
same_outlines [] (p ∷ ps) same each = absurd (omega arith)
same_outlines (i ∷ is) [] same each = absurd (omega arith)
same_outlines (i ∷ is) (p ∷ ps) same each =
    let here = each zero i p refl refl in
    let rest = same_outlines is ps (omega arith) (λ k j q. each (suc k) j q) in
    λ t. here t ∷ rest t
