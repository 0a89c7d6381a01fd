-- Whole functions, from their frames, scopes and bodies.
use Rattle.std.proofs.Common.{◌≡◌, ◌∙◌, ℕ, ◌<◌, ◌≤◌, true, nat_lt, List, [], ◌∷◌, length, ap, refl, sym, subst, arith, Option, Some, None, Ok, Err, MatchOption, unwrap_or}
use Rattle.std.proofs.lemmas.Bool.{le-leb}
use Rattle.c_types.specs.declared.ty.FnTy.{FnTy, out-FnTy, roll-FnTy}
use Rattle.c_types.specs.declared.ty.Ty.TheVariants as ty
use Rattle.c_types.specs.Kinds.{function_of}
use Rattle.c_typed.specs.declared.expression.Declared.{out-Declared}
use Rattle.c_typed.specs.declared.unit.TypedFn.{TypedFn}
use Rattle.core_ir.specs.declared.program.Local.{Local}
use Rattle.core_ir.specs.Layout.{local_units}
use Rattle.core_ir.specs.Valid.{most_frame_units}
use Rattle.elab_emit.specs.declared.emitter.Trouble.{Trouble}
use Rattle.elab_emit.specs.declared.emitter.Trouble.TheVariants.{TooLong, Memory}
use Rattle.elab_rows.specs.declared.scope.Scope.{Scope}
use Rattle.elab_rows.specs.declared.scope.Standing.{Standing}
use Rattle.elab_rows.specs.Scope.{slots_behind, standings}
use Rattle.elab_pieces.specs.Functions.{body_code, frame_locals, function_code, function_made, function_type, made_in, made_of, parameter_copies}
use Rattle.elab_pieces.specs.Lines.{Piece}
use Rattle.elab_pieces.specs.Statements.{block_code}
use Rattle.elab_statements.specs.declared.body.Body.{Body}
use Rattle.elab.specs.declared.frames.Frame.{Frame}
use Rattle.elab.specs.inner.Programs.{BodyOutcome, FunctionOutcome, IsFrame, IsFunction, IsWhole, frame_stands, inside}
use Rattle.elab_statements.specs.inner.Pieces.{led_length}

-- what `frame_of` finds
abbrev pub FrameIs : List Local → Option Frame → Type 0
FrameIs ls found = MatchOption found (most_frame_units < local_units ls) (λ f. (f.locals ≡ ls) × (f.units ≡ local_units ls) × (local_units ls ≤ most_frame_units))

-- a frame that is too large has a local
large : (ls : List Local) → most_frame_units < local_units ls → nat_lt 0 (length ls) ≡ true
large [] h = absurd (omega (arith, h))
large (l ∷ ls) h = le-leb 1 (length (l ∷ ls)) (omega arith)

stands : (ls : List Local) (found : Option Frame) → FrameIs ls found → frame_stands found ≡ nat_lt 0 (length ls)
stands ls (Some f) h = ap (λ xs. nat_lt 0 (length xs)) h.0
stands ls None h = sym (large ls h)

is_frame : (t : FnTy) (ls : List Local) (x : Piece) (found : Option Frame) → FrameIs ls found → IsFrame (function_made t ls x) found
is_frame t ls x (Some f) h = h
is_frame t ls x None h = h

-- ---- the function of a definition

module _ (file : Scope) (d : TypedFn) (t : FnTy) (typed : function_of (out-Declared d.declared).ty ≡ Some t)
    (places : List Standing) (slots : ℕ) (h_places : places ≡ standings (length (out-FnTy t).params) 0 0 d.locals)
    (h_slots : slots ≡ slots_behind (length (out-FnTy t).params) 0 d.locals)
    (found : Option Frame) (h_frame : FrameIs (frame_locals file.structs 0 d.locals) found) where
  abbrev within : Scope
  within = inside file (out-FnTy t).result places (frame_stands found)

  abbrev whole : Piece
  whole = body_code within.has_frame (parameter_copies 0 (out-FnTy t).params within.locals) (block_code within d.block) 0 slots

  abbrev locals : List Local
  locals = frame_locals file.structs 0 d.locals

  is_made : function_code file d ≡ function_made t locals whole
  unfolding function_code
  is_made =
      let type : function_type d ≡ t = ap (λ o. unwrap_or o (roll-FnTy (record { result = ty.Void; params = [] }))) typed in
      let h_has : frame_stands found ≡ nat_lt 0 (length locals) = stands locals found h_frame in
      ap (λ u. made_of file u d.locals locals d.block) type
      ∙ (λ i. made_in (inside file (out-FnTy t).result (sym h_places i) (sym h_has i)) t locals (sym h_slots i) d.block)

  pub function_done : (body : Body) → BodyOutcome whole (Ok body) → IsFunction (function_code file d) (record { ty = t; body = body; frame = found })
  function_done body w =
      let of_made : IsFunction (function_made t locals whole) (record { ty = t; body = body; frame = found }) =
      record {
        type = refl;
        registers = w.registers;
        slots = w.slots;
        code = w.code;
        within = omega (arith, w.within, ap length w.code);
        frame = is_frame t locals whole found h_frame;
      } in
      subst (λ f. IsFunction f (record { ty = t; body = body; frame = found })) (sym is_made) of_made

  pub function_stops : (e : Trouble) → BodyOutcome whole (Err e) → FunctionOutcome (function_code file d) (Err e)
  function_stops Memory k = tt
  function_stops TooLong k = omega (arith, k, led_length 0 0 whole.lines, ap (λ f. length f.body) is_made)

-- ---- any function whose body is there

-- without locals
pub plain_function : (t : FnTy) (x : Piece) (body : Body) (frame : Frame) → frame.locals ≡ [] → frame.units ≡ 0 → IsWhole x body
    → IsFunction (function_made t [] x) (record { ty = t; body = body; frame = Some frame })
plain_function t x body frame hl hu w = record {
  type = refl;
  registers = w.registers;
  slots = w.slots;
  code = w.code;
  within = omega (arith, w.within, ap length w.code);
  frame = (hl, hu, omega arith);
}

pub plain_stops : (t : FnTy) (x : Piece) (e : Trouble) → BodyOutcome x (Err e) → FunctionOutcome (function_made t [] x) (Err e)
plain_stops t x Memory k = tt
plain_stops t x TooLong k = omega (arith, k, led_length 0 0 x.lines)
