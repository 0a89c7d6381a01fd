-- What the copy of a struct adds.
use Rattle.std.specs.Prelude.{◌≡◌, ℕ, ◌+◌, ◌*◌, List, [], ◌∷◌, ◌++◌, length, Option, Some, None, Result, Ok, Err}
use denote.Param.Weighed.{most}
use Rattle.c_types.specs.declared.structs.Member.{Member}
use Rattle.c_types.specs.declared.structs.StructDef.{StructDef}
use Rattle.c_types.specs.declared.ty.Ty.{Ty, size-Ty}
use Rattle.core_ir.specs.declared.instr.Instr.{Instr}
use Rattle.core_ir.specs.declared.instr.Instr.TheVariants.{Load, PtrConst, Store, Touch}
use Rattle.elab_emit.specs.declared.emitter.Emitter.{Emitter}
use Rattle.elab_emit.specs.declared.emitter.Trouble.{Trouble}
use Rattle.elab_rows.specs.Addresses.{copied_parts}
use Rattle.elab_emit.specs.Emits.{Adds, IsSound, Stops}
use Rattle.elab_rows.specs.Made.{Code}

-- `PtrConst, Touch, Load` of a part
abbrev pub loads : Ty → ℕ → ℕ → Ty → Code
loads root p k t place register slot = record {
  code = PtrConst register p k ∷ Touch register root ∷ Load (register + 1) register t ∷ [];
  result = register + 1;
  register = register + 2;
  slot = slot;
}

-- `PtrConst, Touch, Store` of a part
abbrev pub stores : Ty → ℕ → ℕ → Ty → ℕ → Emitter → List Instr
stores root p k t a e =
    PtrConst e.register p k ∷ Touch e.register root ∷ Store e.register a t ∷ []

-- this code is there, which defines so many registers
abbrev pub CopyOutcome : Emitter → List Instr → ℕ → Result (Unit {0}) Trouble → Emitter → Type 0
CopyOutcome old code n (Ok u) new = Adds old code (old.register + n) old.slot new
CopyOutcome old code n (Err e) new = Stops old code e

-- what is there, and the parts that are left
pub record Copies (from to : Ty) (p q : ℕ) (start : Emitter) (all : List Ty) (now : Emitter) (k : ℕ) (rest : List Ty) : Type 0 where
  pub code : start.code ++ copied_parts from to p q start.register 0 all ≡ now.code ++ copied_parts from to p q now.register k rest
  pub register : start.register + 3 * length all ≡ now.register + 3 * length rest
  pub slot : now.slot ≡ start.slot
  pub sound : IsSound now

-- the greatest depth of a member's type, and that over all structs
abbrev pub greatest_of : List Member → ℕ
greatest_of ms = most (λ m. size-Ty m.ty) ms

abbrev pub greatest_in : Option (List Member) → ℕ
greatest_in None = 0
greatest_in (Some ms) = greatest_of ms

abbrev pub greatest : List StructDef → ℕ
greatest defs = most (λ d. greatest_in d.members) defs
