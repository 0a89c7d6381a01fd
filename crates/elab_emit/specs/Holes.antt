-- What the ends of `&&`, `||` and `?:` add, and the holes that they write.
use Rattle.std.specs.Prelude.{◌≡◌, ℕ, ◌+◌, List, [], ◌∷◌, ◌++◌, length, slice_set, Result, Ok, Err}
use Rattle.core_ir.specs.declared.instr.Instr.{Instr}
use Rattle.core_ir.specs.declared.instr.Instr.TheVariants.{GetLocal, SetLocal, Jump, Branch}
use Rattle.elab_emit.specs.declared.emitter.Emitter.{Emitter}
use Rattle.elab_emit.specs.declared.emitter.Trouble.{Trouble}
use Rattle.elab_rows.specs.Choices.{truth_lines}
use Rattle.elab_emit.specs.Emits.{Adds, Stops}

abbrev pub TruthOutcome : Emitter → Result ℕ Trouble → Emitter → Type 0
TruthOutcome old (Ok r) new =
    Adds old (truth_lines old.register old.slot (length old.code + 3)) (old.register + 3) (old.slot + 1) new
    × (r ≡ old.register + 2)
TruthOutcome old (Err e) new = Stops old (truth_lines old.register old.slot (length old.code + 3)) e

-- a branch, and the truth value behind it
abbrev pub and_end : Emitter → ℕ → List Instr
and_end old y = let f = length old.code + 4 in Branch y f ∷ truth_lines old.register old.slot f

-- this code, and the value of the last of three registers
abbrev pub Ends : Emitter → List Instr → ℕ → Emitter → Type 0
Ends old code r new =
    (new.code ≡ code) × (new.register ≡ old.register + 3) × (new.slot ≡ old.slot + 1) × (r ≡ old.register + 2)

abbrev pub AndOutcome : Emitter → ℕ → ℕ → ℕ → Result ℕ Trouble → Emitter → Type 0
AndOutcome old hole x y (Ok r) new =
    Ends old (slice_set (old.code ++ and_end old y) hole (Branch x (length old.code + 4))) r new
AndOutcome old hole x y (Err e) new = Stops old (and_end old y) e

abbrev pub OrOutcome : Emitter → ℕ → ℕ → Result ℕ Trouble → Emitter → Type 0
OrOutcome old hole y (Ok r) new =
    Ends old (slice_set (old.code ++ and_end old y) hole (Jump (length old.code + 1))) r new
OrOutcome old hole y (Err e) new = Stops old (and_end old y) e

abbrev pub arms_end : Emitter → ℕ → ℕ → List Instr
arms_end old s y = SetLocal s y ∷ GetLocal old.register s ∷ []

abbrev pub ArmsOutcome : Emitter → ℕ → ℕ → ℕ → ℕ → ℕ → Result ℕ Trouble → Emitter → Type 0
ArmsOutcome old branch jump c s y (Ok r) new =
    (new.code ≡ slice_set (slice_set (old.code ++ arms_end old s y) branch (Branch c (jump + 1))) jump (Jump (length old.code + 1)))
    × (new.register ≡ old.register + 1) × (new.slot ≡ old.slot) × (r ≡ old.register)
ArmsOutcome old branch jump c s y (Err e) new = Stops old (arms_end old s y) e

-- a branch over a jump that isn't written yet
abbrev pub opened : Emitter → ℕ → List Instr
opened old a = Branch a (length old.code + 2) ∷ Jump 0 ∷ []

abbrev pub TestedOutcome : Emitter → ℕ → Result ℕ Trouble → Emitter → Type 0
TestedOutcome old a (Ok jump) new = Adds old (opened old a) old.register old.slot new × (jump ≡ length old.code + 1)
TestedOutcome old a (Err e) new = Stops old (opened old a) e

abbrev pub KeptOutcome : Emitter → ℕ → Result ℕ Trouble → Emitter → Type 0
KeptOutcome old a (Ok s) new =
    Adds old (SetLocal old.slot a ∷ Jump 0 ∷ []) old.register (old.slot + 1) new × (s ≡ old.slot)
KeptOutcome old a (Err e) new = Stops old (SetLocal old.slot a ∷ Jump 0 ∷ []) e
