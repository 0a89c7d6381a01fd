-- What is asked of each instruction alone: its numbers and types, and the slot that it names. A row makes such code where
-- its operands do.
use Rattle.std.specs.Prelude.{ℕ, ◌<◌, ◌≤◌, List, [], ◌∷◌, IfSome}
use Rattle.c_types.specs.declared.ty.Ty.{Ty}
use Rattle.core_ir.specs.declared.instr.Instr.{Instr}
use Rattle.core_ir.specs.declared.instr.Instr.TheVariants.{AddrG, AddrL, AddrF, Binary, Unary, Cast, Touch, Load, Store, Call, CallInd}
use Rattle.core_ir.specs.Instructions.{slot}
use Rattle.elab_rows.specs.Made.{Code}

-- P holds of each of these
abbrev pub EachIs : (Instr → Type 0) → List Instr → Type 0
EachIs P [] = Unit {0}
EachIs P (i ∷ is) = P i × EachIs P is

-- the slot that an instruction names is of the first so many
abbrev pub SlotFits : ℕ → Instr → Type 0
SlotFits slots i = IfSome (slot i) (λ s. s < slots)

-- P holds of the instruction, and its slot is one of the function's
abbrev pub IsFit : (Instr → Type 0) → ℕ → Instr → Type 0
IsFit P slots i = P i × SlotFits slots i

-- Code whose slots are numbered on from the first that it is given. Where the function has all of them, and has
-- those from before, each instruction is fit.
pub record IsFitting (P : Instr → Type 0) (slots : ℕ) (c : Code) : Type 0 where
  pub grows : (place register first : ℕ) → first ≤ (c place register first).slot
  pub fits :
      (place register first : ℕ)
      → (c place register first).slot ≤ slots
      → EachIs (IsFit P slots) (c place register first).code

abbrev pub AreFitting : (Instr → Type 0) → ℕ → List Code → Type 0
AreFitting P slots [] = Unit {0}
AreFitting P slots (c ∷ cs) = IsFitting P slots c × AreFitting P slots cs

-- a kind of instruction of which no number or type is asked beside registers, slots and places
abbrev pub IsUnasked : Instr → Type 0
IsUnasked (AddrG d g) = ⊥
IsUnasked (AddrL d v) = ⊥
IsUnasked (AddrF d f) = ⊥
IsUnasked (Binary d o a b) = ⊥
IsUnasked (Unary d o a) = ⊥
IsUnasked (Cast d a from to) = ⊥
IsUnasked (Touch p t) = ⊥
IsUnasked (Load d p t) = ⊥
IsUnasked (Store p a t) = ⊥
IsUnasked (Call f args s) = ⊥
IsUnasked (CallInd c args t s) = ⊥
IsUnasked _ = Unit {0}

-- a scalar part of a struct can be moved from one root to another
pub record PartFits (P : Instr → Type 0) (from to t : Ty) : Type 0 where
  pub touch_from : (p : ℕ) → P (Touch p from)
  pub touch_to : (p : ℕ) → P (Touch p to)
  pub load : (d p : ℕ) → P (Load d p t)
  pub store : (p a : ℕ) → P (Store p a t)

abbrev pub PartsFit : (Instr → Type 0) → Ty → Ty → List Ty → Type 0
PartsFit P from to [] = Unit {0}
PartsFit P from to (t ∷ ts) = PartFits P from to t × PartsFit P from to ts
