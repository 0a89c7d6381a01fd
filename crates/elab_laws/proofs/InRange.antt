-- Most kinds of instructions are in range by themselves.
use Rattle.std.proofs.lemmas.List.Elements.{All-nil}
use Rattle.core_ir.specs.declared.instr.Instr.{Instr}
use Rattle.core_ir.specs.declared.instr.Instr.TheVariants.{AddrF, AddrG, AddrL, Binary, Call, CallInd, Cast, Load, Store, Touch, Unary}
use Rattle.core_ir.specs.declared.program.Function.{Function}
use Rattle.core_ir.specs.declared.program.Program.{Program}
use Rattle.core_ir.specs.Valid.{IsInRange, TypeFits}
use Rattle.elab_laws.specs.Fitting.{IsUnasked}

pub unasked_in_range : (p : Program) (f : Function) (i : Instr) → IsUnasked i → IsInRange p f i
unasked_in_range p f (AddrG d g) h = absurd h
unasked_in_range p f (AddrL d v) h = absurd h
unasked_in_range p f (AddrF d g) h = absurd h
unasked_in_range p f (Binary d o a b) h = absurd h
unasked_in_range p f (Unary d o a) h = absurd h
unasked_in_range p f (Cast d a from to) h = absurd h
unasked_in_range p f (Touch q t) h = absurd h
unasked_in_range p f (Load d q t) h = absurd h
unasked_in_range p f (Store q a t) h = absurd h
unasked_in_range p f (Call g args s) h = absurd h
unasked_in_range p f (CallInd c args t s) h = absurd h
unasked_in_range p f _ h = record { types = All-nil (TypeFits p.structs); rest = tt }
