-- The code of functions, and of the entry function.
use Rattle.std.specs.Prelude.{ℕ, suc, ◌+◌, Bool, true, false, if◌then◌else◌, nat_lt, List, [], ◌∷◌, length, None, unwrap_or}
use Rattle.c_types.specs.declared.structs.StructDef.{StructDef}
use Rattle.c_types.specs.declared.ty.FnTy.{FnTy, out-FnTy, roll-FnTy}
use Rattle.c_types.specs.declared.ty.Ty.{Ty}
use Rattle.c_types.specs.declared.ty.Ty.TheVariants as ty
use Rattle.c_types.specs.Kinds.{function_of}
use Rattle.c_typed.specs.declared.expression.Declared.{out-Declared}
use Rattle.c_typed.specs.declared.statement.TypedBlock.{TypedBlock}
use Rattle.c_typed.specs.declared.unit.Local.{Local as Variable}
use Rattle.c_typed.specs.declared.unit.TypedFn.{TypedFn}
use Rattle.core_ir.specs.declared.instr.Instr.{Instr}
use Rattle.core_ir.specs.declared.instr.Instr.TheVariants.{Enter}
use Rattle.core_ir.specs.declared.program.Function.{Function}
use Rattle.core_ir.specs.declared.program.Local.{Local}
use Rattle.core_ir.specs.Layout.{local_units}
use Rattle.elab_rows.specs.Addresses.{assigned, local_address}
use Rattle.elab_rows.specs.Made.{Code}
use Rattle.elab_rows.specs.Rows.{slot_value}
use Rattle.elab_rows.specs.declared.scope.Scope.{Scope}
use Rattle.elab_rows.specs.declared.scope.Standing.{Standing}
use Rattle.elab_rows.specs.declared.scope.Standing.TheVariants as stands
use Rattle.elab_rows.specs.Scope.{is_slot_local, slots_behind, standings}
use Rattle.elab_rows.specs.Units.{units}
use Rattle.elab_pieces.specs.Lines.{Piece, PieceCode, all_joined, full, joined, led, no_lines, plain_lines}
use Rattle.elab_pieces.specs.Statements.{block_code, leaving}

-- ---- frames

abbrev pub frame_local : List StructDef → ℕ → Ty → Local
frame_local defs at t = record { ty = t; offset = at; units = units defs t }

-- the frame locals from an offset on, in order of declaration
abbrev pub frame_locals : List StructDef → ℕ → List Variable → List Local
frame_locals defs at [] = []
frame_locals defs at (v ∷ vs) =
    if is_slot_local v then frame_locals defs at vs
    else frame_local defs at v.ty ∷ frame_locals defs (at + units defs v.ty) vs

-- ---- parameters

-- A parameter that is a frame local | GetLocal, AddrL, Touch, Store
abbrev pub parameter_copy : ℕ → ℕ → Ty → Code
parameter_copy s v t =
    assigned (record { ty = t; root = t; address = local_address v; is_member = false }) (slot_value s)

abbrev pub copy_by : ℕ → Ty → Standing → PieceCode
copy_by s t (stands.Slot n) = no_lines
copy_by s t (stands.Frame v) = full (parameter_copy s v t)

-- the copies of parameters of these types, from a slot on
abbrev pub parameter_copies : ℕ → List Ty → List Standing → PieceCode
parameter_copies s [] locals = no_lines
parameter_copies s ts [] = no_lines
parameter_copies s (t ∷ ts) (l ∷ ls) = joined (copy_by s t l) (parameter_copies (suc s) ts ls)

-- ---- bodies

abbrev pub entering : Bool → List Instr
entering true = Enter ∷ []
entering false = []

-- function body | Enter if there is a frame; per parameter that is a frame local GetLocal, AddrL, Touch, Store;
-- statements; Leave if there is a frame; Return
abbrev pub body_code : Bool → PieceCode → PieceCode → PieceCode
body_code has_frame copies statements =
    all_joined (plain_lines (entering has_frame) ∷ copies ∷ statements ∷ plain_lines (leaving has_frame None) ∷ [])

-- nothing is open in a whole body
abbrev pub body_of : Piece → List Instr
body_of x = led 0 0 x.lines

abbrev pub function_made : FnTy → List Local → Piece → Function
function_made t locals x = record {
  ty = t;
  registers = x.registers;
  slots = x.slot;
  locals = locals;
  frame_units = local_units locals;
  body = body_of x;
}

-- ---- whole functions

-- the type of a definition
abbrev pub function_type : TypedFn → FnTy
function_type f =
    unwrap_or (function_of (out-Declared f.declared).ty) (roll-FnTy (record { result = ty.Void; params = [] }))

-- the file's scope, with what a function of this type and these variables adds
abbrev pub function_scope : Scope → FnTy → List Variable → List Local → Scope
function_scope file t variables frame = record file {
  locals = standings (length (out-FnTy t).params) 0 0 variables;
  result = (out-FnTy t).result;
  has_frame = nat_lt 0 (length frame);
}

abbrev pub made_in : Scope → FnTy → List Local → ℕ → TypedBlock → Function
made_in scope t frame slot b =
    function_made t frame
    (body_code scope.has_frame (parameter_copies 0 (out-FnTy t).params scope.locals) (block_code scope b) 0 slot)

abbrev pub made_of : Scope → FnTy → List Variable → List Local → TypedBlock → Function
made_of file t variables frame b =
    made_in (function_scope file t variables frame) t frame (slots_behind (length (out-FnTy t).params) 0 variables) b

-- the function of a definition
unfoldable pub function_code : Scope → TypedFn → Function
function_code file f =
    made_of file (function_type f) f.locals (frame_locals file.structs 0 f.locals) f.block
