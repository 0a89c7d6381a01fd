-- Jumps of `break` and `continue` that are still to be written, and the holes of `if` and of loops.
use Rattle.std.specs.Prelude.{◌≡◌, ℕ, ◌+◌, ◌<◌, Bool, true, false, if◌then◌else◌, List, [], ◌∷◌, ◌++◌, length, slice_set, Option, Some, None, Result, Ok, Err}
use Rattle.core_ir.specs.declared.instr.Instr.{Instr}
use Rattle.core_ir.specs.declared.instr.Instr.TheVariants.{Branch, Jump}
use Rattle.elab_rows.specs.Choices.{tested}
use Rattle.elab_emit.specs.Emits.{Stops}
use Rattle.elab_rows.specs.Made.{Made}
use Rattle.elab_emit.specs.declared.emitter.Trouble.{Trouble}
use Rattle.elab_pieces.specs.Lines.{Breaks, Continues, Does, Line, Piece, led}
use Rattle.elab_pieces.specs.Statements.{test_lines, test_registers, test_slot}
use Rattle.elab_statements.specs.declared.body.Body.{Body}
use Rattle.elab_statements.specs.declared.open.Open.{Open}
use Rattle.elab_statements.specs.declared.conditions.Test.{Test}
use Rattle.elab_statements.specs.Bodies.{Grows}
use Rattle.elab_statements.specs.inner.Pieces.{Reaches}

abbrev pub jump_line : Bool → Line
jump_line true = Continues
jump_line false = Breaks

-- the open lines of code that begins at a place
abbrev pub opens : ℕ → List Line → List Open
opens place [] = []
opens place (Does i ∷ ls) = opens (place + 1) ls
opens place (Breaks ∷ ls) = record { place = place; continues = false } ∷ opens (place + 1) ls
opens place (Continues ∷ ls) = record { place = place; continues = true } ∷ opens (place + 1) ls

abbrev pub AreWithin : ℕ → List Open → Type 0
AreWithin n [] = Unit {0}
AreWithin n (o ∷ os) = (o.place < n) × AreWithin n os

-- each jump is written
abbrev pub closed : List Instr → List Open → ℕ → ℕ → List Instr
closed code [] end next = code
closed code (o ∷ os) end next =
    closed (slice_set code o.place (Jump (if o.continues then next else end))) os end next

-- the lines of a statement are there, and its open ones are kept
abbrev pub StatementOutcome : Body → List Open → Piece → Result (Unit {0}) Trouble → Body → List Open → Type 0
StatementOutcome old before x (Ok u) new after =
    Grows old (led 0 0 x.lines) x.registers x.slot new × (after ≡ before ++ opens (length old.out.code) x.lines)
StatementOutcome old before x (Err e) new after = Stops old.out (led 0 0 x.lines) e

-- what is there, and what is left to be made, with the open lines
pub record Leads (start : Body) (before : List Open) (all : Piece) (now : Body) (kept : List Open) (rest : Piece) : Type 0 where
  pub reaches : Reaches start all now rest
  pub opened : before ++ opens (length start.out.code) all.lines ≡ kept ++ opens (length now.out.code) rest.lines

-- a condition and its branch, which isn't written yet
abbrev pub TestOutcome : Body → Made → Result Test Trouble → Body → Type 0
TestOutcome old m (Ok t) new =
    Grows old (tested m 0) m.register m.slot new × (t.value ≡ m.result) × (t.place ≡ length old.out.code + length m.code)
TestOutcome old m (Err e) new = Stops old.out (tested m 0) e

abbrev pub IsTest : Body → Option Made → Option Test → Type 0
IsTest old None t = t ≡ None
IsTest old (Some m) t = t ≡ Some (record { value = m.result; place = length old.out.code + length m.code })

-- the same of a condition that may not be there
abbrev pub OptionalTest : Body → Option Made → Result (Option Test) Trouble → Body → Type 0
OptionalTest old m (Ok t) new =
    Grows old (test_lines m 0) (test_registers m) (test_slot m old.out.slot) new × IsTest old m t
OptionalTest old m (Err e) new = Stops old.out (test_lines m 0) e

-- the branch of a condition is written
abbrev pub branched : List Instr → Option Test → ℕ → List Instr
branched code None l = code
branched code (Some t) l = slice_set code t.place (Branch t.value l)

abbrev pub IsWithin : ℕ → Option Test → Type 0
IsWithin n None = Unit {0}
IsWithin n (Some t) = t.place < n

-- the code is this now; counts stay
pub record Rewritten (old : Body) (is : List Instr) (new : Body) : Type 0 where
  pub code : new.out.code ≡ is
  pub most : new.registers ≡ old.registers
  pub slot : new.out.slot ≡ old.out.slot

abbrev pub if_end : Body → Test → List Instr
if_end old c = slice_set old.out.code c.place (Branch c.value (length old.out.code))

abbrev pub if_else_end : Body → Test → ℕ → List Instr
if_else_end old c jump =
    slice_set (slice_set old.out.code c.place (Branch c.value (jump + 1))) jump (Jump (length old.out.code))

abbrev pub JumpOutcome : Body → Result ℕ Trouble → Body → Type 0
JumpOutcome old (Ok place) new = Grows old (Jump 0 ∷ []) 0 old.out.slot new × (place ≡ length old.out.code)
JumpOutcome old (Err e) new = Stops old.out (Jump 0 ∷ []) e

abbrev pub LoopOutcome : Body → Option Test → List Open → ℕ → ℕ → Result (Unit {0}) Trouble → Body → Type 0
LoopOutcome old c before start next (Ok u) new =
    let end = length old.out.code + 1 in
    Rewritten old (branched (closed (old.out.code ++ Jump start ∷ []) before end next) c end) new
LoopOutcome old c before start next (Err e) new = Stops old.out (Jump start ∷ []) e

abbrev pub DoOutcome : Body → ℕ → List Open → ℕ → ℕ → Result (Unit {0}) Trouble → Body → Type 0
DoOutcome old value before start next (Ok u) new =
    let end = length old.out.code + 2 in
    Rewritten old (closed (old.out.code ++ Branch value end ∷ Jump start ∷ []) before end next) new
DoOutcome old value before start next (Err e) new = Stops old.out (Branch value (length old.out.code + 2) ∷ Jump start ∷ []) e
