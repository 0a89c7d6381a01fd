-- Functions and globals so far, and the limits that they pass.
use Rattle.std.specs.Prelude.{◌≡◌, ℕ, ◌+◌, ◌<◌, ◌≤◌, Bool, true, false, not, ◌||◌, if◌then◌else◌, nat_le, nat_lt, List, [], ◌++◌, length, Option, Some, None, Result, Ok, Err}
use Rattle.c_types.specs.declared.structs.StructDef.{StructDef}
use Rattle.c_types.specs.declared.ty.Ty.{Ty}
use Rattle.c_types.specs.declared.ty.Ty.TheVariants as ty
use Rattle.c_typed.specs.declared.unit.Typed.{Typed}
use Rattle.core_ir.specs.declared.program.Function.{Function}
use Rattle.core_ir.specs.declared.program.GlobalVar.{GlobalVar}
use Rattle.core_ir.specs.Layout.{first_address, global_units}
use Rattle.core_ir.specs.Valid.{most_frame_units, most_global_units, most_instructions, most_registers, most_slots}
use Rattle.elab_emit.specs.declared.emitter.Trouble.{Trouble}
use Rattle.elab_emit.specs.declared.emitter.Trouble.TheVariants.{TooLong, Memory}
use Rattle.elab_rows.specs.declared.scope.Scope.{Scope}
use Rattle.elab_rows.specs.declared.scope.Standing.{Standing}
use Rattle.elab_pieces.specs.Entry.{entry_function}
use Rattle.elab_pieces.specs.Globals.{globals, laid_out}
use Rattle.elab_pieces.specs.Program.{entry_scope}
use Rattle.elab_pieces.specs.Limits.{all_within, unless}
use Rattle.elab_pieces.specs.Lines.{Piece, PieceCode, led}
use Rattle.elab_statements.specs.Bodies.{PieceOutcome, piece_at}
use Rattle.elab_statements.specs.declared.body.Body.{Body}
use Rattle.elab.specs.declared.programs.Functions.{Functions}
use Rattle.elab.specs.declared.error.ElabRefusal.{ElabRefusal}
use Rattle.elab.specs.declared.error.ElabRefusal.TheVariants as refusal
use Rattle.elab_pieces.specs.declared.limit.LimitName.{LimitName}
use Rattle.elab_pieces.specs.declared.limit.LimitName.TheVariants as limit
use Rattle.elab.specs.declared.frames.Frame.{Frame}
use Rattle.elab.specs.declared.functions.Elaborated.{Elaborated}
use Rattle.elab.specs.declared.globals.Layout.{Layout}
use Rattle.elab.specs.declared.limits.Passed.{Passed}

-- the entry function of a source
abbrev pub entry_of : Typed → Function
entry_of typed = entry_function (entry_scope typed) (globals typed.items) typed.strings

-- what a scope says of the file
abbrev pub bare : Scope → Scope
bare scope = record scope { locals = []; result = ty.Void; has_frame = false }

-- the scope of a function that returns this, with these locals
abbrev pub inside : Scope → Ty → List Standing → Bool → Scope
inside scope t locals has_frame = record scope { locals = locals; result = t; has_frame = has_frame }

abbrev pub IsFrame : Function → Option Frame → Type 0
IsFrame f (Some x) = (x.locals ≡ f.locals) × (x.units ≡ f.frame_units) × (f.frame_units ≤ most_frame_units)
IsFrame f None = most_frame_units < f.frame_units

-- what is there of a function
pub record IsFunction (f : Function) (x : Elaborated) : Type 0 where
  pub type : x.ty ≡ f.ty
  pub registers : x.body.registers ≡ f.registers
  pub slots : x.body.out.slot ≡ f.slots
  pub code : x.body.out.code ≡ f.body
  pub within : length f.body ≤ most_instructions
  pub frame : IsFrame f x.frame

abbrev pub FunctionOutcome : Function → Result Elaborated Trouble → Type 0
FunctionOutcome f (Ok x) = IsFunction f x
FunctionOutcome f (Err TooLong) = most_instructions < length f.body
FunctionOutcome f (Err Memory) = Unit {0}

-- the code of a whole function is there
pub record IsWhole (x : Piece) (b : Body) : Type 0 where
  pub code : b.out.code ≡ led 0 0 x.lines
  pub registers : b.registers ≡ x.registers
  pub slots : b.out.slot ≡ x.slot
  pub within : length b.out.code ≤ most_instructions

abbrev pub BodyOutcome : Piece → Result Body Trouble → Type 0
BodyOutcome x (Ok b) = IsWhole x b
BodyOutcome x (Err TooLong) = most_instructions < length x.lines
BodyOutcome x (Err Memory) = Unit {0}

-- there is a frame, also one that is too large
abbrev pub frame_stands : Option Frame → Bool
frame_stands (Some f) = nat_lt 0 (length f.locals)
frame_stands None = true

-- there is a frame that isn't too large
abbrev pub is_laid_out : Option Frame → Bool
is_laid_out (Some f) = true
is_laid_out None = false

-- ---- limits

-- which limits some of these functions passes
abbrev pub passed_by : List Function → Passed
passed_by fs = record {
  registers = not (all_within most_registers (λ f. f.registers) fs);
  slots = not (all_within most_slots (λ f. f.slots) fs);
  frame = not (all_within most_frame_units (λ f. f.frame_units) fs);
}

-- one more function
abbrev pub noted : Passed → ℕ → ℕ → Bool → Passed
noted p registers slots has_room = record {
  registers = p.registers || not (nat_le registers most_registers);
  slots = p.slots || not (nat_le slots most_slots);
  frame = p.frame || not has_room;
}

abbrev pub first_passed : Passed → Option LimitName
first_passed p =
    if p.registers then Some limit.Registers
    else if p.slots then Some limit.Slots
    else if p.frame then Some limit.Frame
    else None

-- the functions are these, unless a frame is too large
pub record HoldsAll (x : Functions) (fs : List Function) : Type 0 where
  pub passed : x.passed ≡ passed_by fs
  pub list : x.passed.frame ≡ false → x.list ≡ fs
  pub code : all_within most_instructions (λ f. length f.body) fs ≡ true

-- these functions stand behind those, or one of them is too long
abbrev pub AddsAll : List Function → List Function → Result (Unit {0}) ElabRefusal → Functions → Type 0
AddsAll fs gs (Ok u) new = HoldsAll new (fs ++ gs)
AddsAll fs gs (Err refusal.Memory) new = Unit {0}
AddsAll fs gs (Err (refusal.Limit which)) new =
    (which ≡ limit.Code) × (all_within most_instructions (λ f. length f.body) gs ≡ false)

-- the limits of functions, and behind them the next
abbrev pub functions_limit : List Function → Option LimitName → Option LimitName
functions_limit fs next =
    unless (all_within most_instructions (λ f. length f.body) fs) limit.Code
    (unless (all_within most_registers (λ f. f.registers) fs) limit.Registers
    (unless (all_within most_slots (λ f. f.slots) fs) limit.Slots
    (unless (all_within most_frame_units (λ f. f.frame_units) fs) limit.Frame next)))

abbrev pub FunctionsOutcome : List Function → Result (List Function) ElabRefusal → Type 0
FunctionsOutcome fs (Ok found) = (found ≡ fs) × ((next : Option LimitName) → functions_limit fs next ≡ next)
FunctionsOutcome fs (Err refusal.Memory) = Unit {0}
FunctionsOutcome fs (Err (refusal.Limit which)) = (next : Option LimitName) → functions_limit fs next ≡ Some which

-- ---- globals

-- the pieces of some globals are there, and this is the number of the next
abbrev pub RunOutcome : Body → PieceCode → ℕ → Result ℕ Trouble → Body → Type 0
RunOutcome old c behind (Ok at) new = PieceOutcome old (piece_at old c) (Ok tt) new × (at ≡ behind)
RunOutcome old c behind (Err e) new = PieceOutcome old (piece_at old c) (Err e) new

-- where the last global may end
abbrev pub last_address : ℕ
last_address = first_address + most_global_units

-- variables of these types follow those that are there, or pass the limit
abbrev pub LaysOut : List StructDef → List Ty → Layout → Result (Unit {0}) ElabRefusal → Layout → Type 0
LaysOut defs ts old (Ok u) new =
    (new.globals ≡ old.globals ++ laid_out defs old.end ts) × (new.end ≡ old.end + global_units (laid_out defs old.end ts)) × (new.end ≤ last_address)
LaysOut defs ts old (Err refusal.Memory) new = Unit {0}
LaysOut defs ts old (Err (refusal.Limit which)) new =
    (which ≡ limit.Globals) × (last_address < old.end + global_units (laid_out defs old.end ts))

-- what is there, and what is left to be laid out
pub record Lays (defs : List StructDef) (start : Layout) (all : List Ty) (now : Layout) (rest : List Ty) : Type 0 where
  pub globals : start.globals ++ laid_out defs start.end all ≡ now.globals ++ laid_out defs now.end rest
  pub end : start.end + global_units (laid_out defs start.end all) ≡ now.end + global_units (laid_out defs now.end rest)
  pub within : now.end ≤ last_address

abbrev pub LayoutOutcome : List GlobalVar → Result (List GlobalVar) ElabRefusal → Type 0
LayoutOutcome gs (Ok found) = (found ≡ gs) × (global_units gs ≤ most_global_units)
LayoutOutcome gs (Err refusal.Memory) = Unit {0}
LayoutOutcome gs (Err (refusal.Limit which)) = (which ≡ limit.Globals) × (most_global_units < global_units gs)
