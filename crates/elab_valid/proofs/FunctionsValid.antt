-- The function of a definition is valid, where its names are those of the program and its limits hold.
use Rattle.std.proofs.Common.{◌≡◌, ◌∙◌, ℕ, suc, ◌+◌, ◌<◌, ◌≤◌, Bool, true, false, not, List, [], ◌∷◌, ◌++◌, length, map, take, All, if◌then◌else◌, Some, None, option_map, refl, ap, sym, subst, slice_get, arith, length-append, length-take}
use Rattle.std.proofs.lemmas.List.{length-map}
use Rattle.std.proofs.lemmas.List.Elements.{All-cons, All-nil}
use Rattle.std.specs.List.{AllByRecursion}
use Rattle.c_types.specs.declared.ty.FnTy.{FnTy, out-FnTy}
use Rattle.c_types.specs.declared.ty.Ty.{Ty}
use Rattle.c_types.specs.declared.ty.Ty.TheVariants as ty
use Rattle.c_types.specs.Kinds.{is_void}
use Rattle.c_types.specs.Sound.{function_names_below}
use Rattle.c_typed.specs.declared.statement.TypedBlock.{TypedBlock}
use Rattle.c_typed.specs.declared.unit.Local.{Local as Variable}
use Rattle.c_typed_rows.specs.Contexts.{Context}
use Rattle.c_typed_rows.specs.Statements.{IsTypedBlock, jumps_out}
use Rattle.core_ir.specs.declared.instr.Instr.{Instr}
use Rattle.core_ir.specs.declared.program.Function.{Function}
use Rattle.core_ir.specs.declared.program.Local.{Local}
use Rattle.core_ir.specs.declared.program.Program.{Program}
use Rattle.core_ir.specs.Instructions.{outline_of}
use Rattle.core_ir.specs.Layout.{LocalsLie}
use Rattle.core_ir.specs.Order.{IsWellFormed}
use Rattle.core_ir.specs.Typed.{IsTypedBody}
use Rattle.core_ir.specs.Valid.{IsInRange, IsValidFunction, most_frame_units, most_instructions, most_parameters, most_registers, most_slots}
use Rattle.elab_rows.specs.declared.scope.Scope.{Scope}
use Rattle.elab_rows.specs.declared.scope.Standing.{Standing}
use Rattle.elab_rows.specs.declared.scope.Standing.TheVariants as stands
use Rattle.elab_rows.specs.Addresses.{Lvalue, local_address}
use Rattle.elab_rows.specs.Rows.{slot_value}
use Rattle.elab_rows.specs.Scope.{is_slot_local, one_more_if, slots_behind, standing, standings}
use Rattle.elab_pieces.specs.Functions.{body_code, copy_by, entering, frame_locals, function_scope, made_in, parameter_copies, parameter_copy}
use Rattle.elab_pieces.specs.Lines.{PieceCode, joined, led, no_lines, plain_lines}
use Rattle.elab_pieces.specs.Statements.{block_code, leaving}
use Rattle.elab_laws.specs.Fitting.{EachIs, IsFit}
use Rattle.elab_laws.specs.Touching.{IsTouched}
use Rattle.elab_laws.specs.Values.{IsGood}
use Rattle.elab_piece_laws.specs.Fitting.{IsListedPiece}
use Rattle.elab_piece_laws.specs.FittingLaws.{ListingRows}
use Rattle.elab_piece_laws.specs.Numbered.{Numbers}
use Rattle.elab_piece_laws.specs.Theorems.{body_start}
use Rattle.elab_valid.proofs.Names.{ScopeFits, local_type as frame_type}
use Rattle.c_typed_rows.specs.Types.{BlockTypes}
use Rattle.elab_valid.specs.Types.{TellsTypes}
use Rattle.elab_valid.proofs.KeptRows as kept
use Rattle.elab_valid.proofs.LaidVariables as laid
use Rattle.elab_valid.proofs.LaidVariables.{LocalLaid, frame_count}
use Rattle.elab_valid.proofs.ListPlaces.{at-back, at-front}
use Rattle.elab_valid.proofs.MetParts as met
use Rattle.elab_valid.proofs.MetParts.{GivesValue, InMemory, IsScalar, Laws, Names, Slots}
use Rattle.elab_valid.proofs.NamedTypes.{AreNamed}
use Rattle.elab_valid.proofs.NamesMet.{local-memory, slot-known, slot-valued}
use Rattle.elab_valid.proofs.RegisterTypes.{HasAt, Typed, Types}
use Rattle.elab_valid.proofs.SlotTypes.{EachAt, frame-type, frame_types, list-has, listed, parameters-first, parameters-taken, slot-count, slot_types}
use Rattle.elab_valid.proofs.SoundPieces as pieces
use Rattle.elab_valid.proofs.SoundPieces.{Closed, PieceLaws, SoundPiece}
use Rattle.elab_valid.proofs.StatementsSound.{block-sound}
use Rattle.elab_valid.proofs.TypedBodies as bodies
use Rattle.elab_valid.proofs.TypedBodies.{EntryFree}
use Rattle.elab_valid.proofs.TypedPieces as pieces_typed
use Rattle.elab_valid.proofs.TypedPieces.{LinesTyped}
use Rattle.elab_valid.proofs.TypedRows as typing

pub each-all : (P : Instr → Type 0) (slots : ℕ) (is : List Instr) → EachIs (IsFit P slots) is → All P is
each-all P slots [] h = All-nil P
each-all P slots (i ∷ is) h = All-cons P i is h.0.0 (each-all P slots is h.1)

-- ---- a body and what stands in it

behind-enter : (b : Bool) (c s : PieceCode) (slot : ℕ)
    → ((joined c s (body_start b) slot).slot ≤ (body_code b c s 0 slot).slot) × ((joined c s (body_start b) slot).registers ≤ (body_code b c s 0 slot).registers)
behind-enter true c s slot = (omega arith, omega arith)
behind-enter false c s slot = (omega arith, omega arith)

listed-body : (L : List Instr → Type 0) (slots registers : ℕ) → ListingRows L slots registers → (b : Bool) (c s : PieceCode) → IsListedPiece L slots registers c → IsListedPiece L slots registers s
    → IsListedPiece L slots registers (body_code b c s)
listed-body L slots registers rows b c s hc hs =
    rows.joins (plain_lines (entering b) ∷ c ∷ s ∷ plain_lines (leaving b None) ∷ []) (rows.enters b, (hc, (hs, (rows.return_nothing b, tt))))

module _ (laws : PieceLaws) (p : Program) (k : Context) (file : Scope) (t : FnTy) (variables : List Variable) (b : TypedBlock) (test : Ty → Bool) (tells : TellsTypes p.structs test) where
  abbrev base : Laws
  base = laws.base

  abbrev parameters : List Ty
  parameters = (out-FnTy t).params

  abbrev frame : List Local
  frame = frame_locals file.structs 0 variables

  abbrev pub scope : Scope
  scope = function_scope file t variables frame

  abbrev first_slot : ℕ
  first_slot = slots_behind (length parameters) 0 variables

  abbrev copies : PieceCode
  copies = parameter_copies 0 parameters scope.locals

  abbrev made : Function
  made = made_in scope t frame first_slot b

  -- a function that has the frame, and the slots of variables
  pub record HasPlaces (f : Function) : Type 0 where
    pub ty : f.ty ≡ t
    pub locals : f.locals ≡ frame
    pub slots : first_slot ≤ f.slots

  -- ---- copies of parameters

  abbrev CopyFits : Function → ℕ → Ty → Standing → Type 0
  CopyFits f s t (stands.Slot n) = Unit {0}
  CopyFits f s t (stands.Frame v) = (s < f.slots) × (v < length f.locals) × Names base p f t × (slice_get base.known s ≡ Some t) × (frame_type f v ≡ Some t)

  abbrev CopiesFit : Function → ℕ → List Ty → List Standing → Type 0
  CopiesFit f s [] ls = Unit {0}
  CopiesFit f s ts [] = Unit {0}
  CopiesFit f s (t ∷ ts) (l ∷ ls) = CopyFits f s t l × CopiesFit f (suc s) ts ls

  copy-fits : (f : Function) (in_slot : Bool) (slot at : ℕ) (t : Ty) → slot < f.slots → (in_slot ≡ false → at < length f.locals) → Names base p f t → slice_get base.known slot ≡ Some t → (in_slot ≡ false → frame_type f at ≡ Some t) → CopyFits f slot t (standing in_slot slot at)
  copy-fits f true slot at t lt below names known framed = tt
  copy-fits f false slot at t lt below names known framed = (lt, below refl, names, known, framed refl)

  -- frame locals have the types of these variables, from a place on
  abbrev FramesAt : Function → ℕ → List Variable → Type 0
  FramesAt f at [] = Unit {0}
  FramesAt f at (v ∷ vs) = (is_slot_local v ≡ false → frame_type f at ≡ Some v.ty) × FramesAt f (one_more_if (not (is_slot_local v)) at) vs

  all-copies : (f : Function) (ts : List Ty) (vs : List Variable) (slot at : ℕ) → slot + length ts ≤ f.slots → at + frame_count vs ≤ length f.locals → AreNamed (length p.structs) ts
      → EachAt base.known slot ts → take (length ts) (map (λ (v : Variable). v.ty) vs) ≡ ts → FramesAt f at vs → CopiesFit f slot ts (standings (length ts) slot at vs)
  all-copies f [] vs slot at room frames named known first framed = tt
  all-copies f (t ∷ ts) [] slot at room frames named known first framed = tt
  all-copies f (t ∷ ts) (v ∷ vs) slot at room frames named known first framed =
      let head : v.ty ≡ t = cc in
      let tail : take (length ts) (map (λ (v : Variable). v.ty) vs) ≡ ts = cc in
      let here = laid.false-frame (is_slot_local v) at (frame_count vs) in
      let shift = laid.frames-shift (is_slot_local v) at (frame_count vs) in (
        copy-fits f (is_slot_local v) slot at t (omega (arith, room)) (λ e. let lt = here e in omega (arith, lt, frames)) named.0 known.0 (λ e. framed.0 e ∙ ap (λ z. Some z) head),
        all-copies f ts vs (suc slot) (one_more_if (not (is_slot_local v)) at) (omega (arith, room)) (omega (arith, shift, frames)) named.1 known.1 tail framed.1,
      )

  module _ (f : Function) (names : ScopeFits laws.base.known k scope p f) where
    copy-sound : (s : ℕ) (t : Ty) (l : Standing) → CopyFits f s t l → SoundPiece laws p f scope.has_frame (copy_by s t l)
    copy-sound s t (stands.Slot n) h = pieces.nothing-sound laws p f scope.has_frame
    copy-sound s t (stands.Frame v) h =
        let m = local-memory base p f k scope names v t h.1 h.4 h.2 in
        let x : Lvalue = record { ty = t; root = t; address = local_address v; is_member = false } in
        let good : IsGood (parameter_copy s v t) = λ place register slot. base.rows.addresses.assigned x m.good (slot_value s) place register slot [] (base.rows.singles.slot_value s place register slot) in
        let is_kept = kept.kept_assigned base.fit base.touch p f x (slot_value s) h.2 h.2 m.part m.kept (kept.kept_slot base.fit base.touch p f s h.0) in
        pieces.expression-sound laws p f scope.has_frame (parameter_copy s v t) (pieces.full-sound laws p f scope.has_frame (parameter_copy s v t) (met.done base p f (parameter_copy s v t) good) is_kept
        (met.typed-done base p f (parameter_copy s v t) t
        (λ place register slot. typing.assigned-typed p f (Slots base p f) x (slot_value s) (met.typed-done base p f x.address (ty.Pointer t) m.typed) place register slot []
        (slot-valued base p f k scope names s t (slot-known base p f k scope names s t h.3) place register slot))))

    copies-sound : (s : ℕ) (ts : List Ty) (ls : List Standing) → CopiesFit f s ts ls → SoundPiece laws p f scope.has_frame (parameter_copies s ts ls)
    copies-sound s [] ls h = pieces.nothing-sound laws p f scope.has_frame
    copies-sound s (t ∷ ts) [] h = pieces.nothing-sound laws p f scope.has_frame
    copies-sound s (t ∷ ts) (l ∷ ls) h = pieces.join-sound laws p f scope.has_frame (copy_by s t l) (parameter_copies (suc s) ts ls) (copy-sound s t l h.0) (copies-sound (suc s) ts ls h.1)

  copy-closed : (s : ℕ) (t : Ty) (l : Standing) → Closed (copy_by s t l)
  copy-closed s t (stands.Slot n) = λ place slot. tt
  copy-closed s t (stands.Frame v) = pieces.full-closed (parameter_copy s v t)

  copies-closed : (s : ℕ) (ts : List Ty) (ls : List Standing) → Closed (parameter_copies s ts ls)
  copies-closed s [] ls = λ place slot. tt
  copies-closed s (t ∷ ts) [] = λ place slot. tt
  copies-closed s (t ∷ ts) (l ∷ ls) = pieces.join-closed (copy_by s t l) (parameter_copies (suc s) ts ls) (copy-closed s t l) (copies-closed (suc s) ts ls)

  -- ---- what is known of the definition

  pub record Defined : Type 0 where
    pub structs : file.structs ≡ p.structs
    pub names : (f : Function) → HasPlaces f → ScopeFits laws.base.known k scope p f
    pub result : scope.result ≡ k.result
    pub returns : (f : Function) → is_void k.result ≡ false → IsScalar base p f k.result
    pub first : take (length parameters) (map (λ (v : Variable). v.ty) variables) ≡ parameters
    pub few : length parameters ≤ most_parameters
    pub named : function_names_below (length p.structs) t ≡ true
    pub parameters_named : AreNamed (length p.structs) parameters
    pub laid : AllByRecursion (LocalLaid file.structs) variables
    pub typed : IsTypedBlock k b
    pub fit : BlockTypes test b
    pub inside : jumps_out b ≡ false
    pub known : base.known ≡ slot_types (length parameters) variables

  -- its limits hold
  pub record Limited : Type 0 where
    pub instructions : length made.body ≤ most_instructions
    pub registers : made.registers ≤ most_registers
    pub slots : made.slots ≤ most_slots
    pub frame_units : made.frame_units ≤ most_frame_units

  module _ (defined : Defined) where
    enough : length parameters ≤ length variables
    enough =
        let n = length parameters in
        let taken : length (take n (map (λ (v : Variable). v.ty) variables)) ≡ n = ap length defined.first in
        let cut = length-take n (map (λ (v : Variable). v.ty) variables) in
        let mapped = length-map variables (λ (v : Variable). v.ty) in
        omega (arith, taken, cut, mapped)

    -- the frame locals of a function that has the frame
    frames-by : (f : Function) (at : ℕ) (v : Variable) (vs : List Variable) (b : Bool) → is_slot_local v ≡ b → ((n : ℕ) → frame_type f (at + n) ≡ slice_get (frame_types (v ∷ vs)) n)
        → (b ≡ false → frame_type f at ≡ Some v.ty) × ((n : ℕ) → frame_type f (one_more_if (not b) at + n) ≡ slice_get (frame_types vs) n)
    frames-by f at v vs true e h = (λ z. absurd (cc), λ n. h n ∙ ap (λ (b : Bool). slice_get (if b then frame_types vs else v.ty ∷ frame_types vs) n) e)
    frames-by f at v vs false e h = (
      λ z. ap (frame_type f) (let w : at ≡ at + 0 = omega arith in w) ∙ h 0 ∙ ap (λ (b : Bool). slice_get (if b then frame_types vs else v.ty ∷ frame_types vs) 0) e,
      λ n. ap (frame_type f) (let w : suc at + n ≡ at + suc n = omega arith in w) ∙ h (suc n) ∙ ap (λ (b : Bool). slice_get (if b then frame_types vs else v.ty ∷ frame_types vs) (suc n)) e,
    )

    frames-from : (f : Function) (at : ℕ) (vs : List Variable) → ((n : ℕ) → frame_type f (at + n) ≡ slice_get (frame_types vs) n) → FramesAt f at vs
    frames-from f at [] h = tt
    frames-from f at (v ∷ vs) h =
        let both = frames-by f at v vs (is_slot_local v) refl h in
        (both.0, frames-from f (one_more_if (not (is_slot_local v)) at) vs both.1)

    frames-at : (f : Function) → f.locals ≡ frame → FramesAt f 0 variables
    frames-at f is = frames-from f 0 variables
        (λ n. ap (frame_type f) (let w : 0 + n ≡ n = omega arith in w) ∙ ap (λ ls. option_map (λ (l : Local). l.ty) (slice_get ls n)) is ∙ frame-type file.structs variables 0 n)

    copies-at : (f : Function) → HasPlaces f → SoundPiece laws p f scope.has_frame copies
    copies-at f h =
        let room : 0 + length parameters ≤ first_slot = laid.parameters-fit (length parameters) 0 variables enough in
        let slots = h.slots in
        let frames : length f.locals ≡ frame_count variables = ap length h.locals ∙ laid.frame-length file.structs variables 0 in
        copies-sound f (defined.names f h) 0 parameters scope.locals (all-copies f parameters variables 0 0 (omega (arith, room, slots)) (omega (arith, frames)) defined.parameters_named
        (subst (λ ks. EachAt ks 0 parameters) (sym defined.known) (parameters-first parameters variables defined.first)) defined.first (frames-at f h.locals))

    block-at : (f : Function) → HasPlaces f → SoundPiece laws p f scope.has_frame (block_code scope b) × (jumps_out b ≡ false → Closed (block_code scope b))
    block-at f h = block-sound laws p f scope.has_frame k scope (defined.names f h) test tells refl defined.result (defined.returns f) (ap (λ (z : FnTy). (out-FnTy z).result) h.ty ∙ defined.result) b defined.typed defined.fit

    abbrev whole_body : PieceCode
    whole_body = body_code scope.has_frame copies (block_code scope b)

    -- a body has the slots that it begins with
    bare : Function
    bare = record made { slots = first_slot }

    bare-places : HasPlaces bare
    unfolding bare
    bare-places = record { ty = refl; locals = refl; slots = omega arith }

    grown : first_slot ≤ made.slots
    grown =
        let c = copies-at bare bare-places in
        let s = (block-at bare bare-places).0 in
        (listed-body (EachIs (IsFit (IsInRange p bare) bare.slots)) bare.slots bare.registers (laws.fit.in_range p bare) scope.has_frame copies (block_code scope b) c.range s.range).grows 0 first_slot

    places : HasPlaces made
    places = record { ty = refl; locals = refl; slots = grown }

    abbrev copies-here : SoundPiece laws p made scope.has_frame copies
    copies-here = copies-at made places

    abbrev block-here : SoundPiece laws p made scope.has_frame (block_code scope b)
    block-here = (block-at made places).0

    in-range : EachIs (IsFit (IsInRange p made) made.slots) made.body
    in-range =
        (listed-body (EachIs (IsFit (IsInRange p made) made.slots)) made.slots made.registers (laws.fit.in_range p made) scope.has_frame copies (block_code scope b) copies-here.range block-here.range).lines
        0 first_slot 0 0 (omega arith) (omega arith)

    touched : IsTouched p.structs made.body
    touched =
        (listed-body (IsTouched p.structs) made.slots made.registers (laws.fit.touched p.structs made.slots made.registers) scope.has_frame copies (block_code scope b) copies-here.touched block-here.touched).lines
        0 first_slot 0 0 (omega arith) (omega arith)

    numbered : Numbers made.registers made.slots (led 0 0 (joined copies (block_code scope b) (body_start scope.has_frame) first_slot).lines)
    numbered =
        let within = behind-enter scope.has_frame copies (block_code scope b) first_slot in
        ((laws.numbers.rows made.registers made.slots).join copies (block_code scope b) copies-here.numbered block-here.numbered).lines (body_start scope.has_frame) first_slot 0 0 within.0 within.1

    well-formed : IsWellFormed made.registers made.slots scope.has_frame (map outline_of made.body)
    well-formed =
        laws.good.bodies scope.has_frame copies (block_code scope b) first_slot made.registers made.slots copies-here.good block-here.good
        (pieces.join-closed copies (block_code scope b) (copies-closed 0 parameters scope.locals) ((block-at made places).1 defined.inside) (body_start scope.has_frame) first_slot)
        (laws.numbers.means made.registers made.slots (body_start scope.has_frame) (led 0 0 (joined copies (block_code scope b) (body_start scope.has_frame) first_slot).lines) numbered)

    pub function-valid : Limited → IsValidFunction p made
    function-valid limited =
        let room : 0 + length parameters ≤ first_slot = laid.parameters-fit (length parameters) 0 variables enough in
        record {
          within_limits = record {
            parameters = defined.few;
            parameters_have_slots = omega (arith, room, grown);
            instructions = limited.instructions;
            registers = limited.registers;
            slots = limited.slots;
            frame_units = limited.frame_units;
          };
          type_fits = defined.named;
          laid_out = record {
            locals_lie = subst (λ ds. LocalsLie ds 0 (frame_locals file.structs 0 variables)) defined.structs (laid.locals-lie file.structs 0 variables defined.laid);
            frame_is_its_locals = refl;
          };
          in_range = each-all (IsInRange p made) made.slots made.body in-range;
          well_formed = well-formed;
          touched = (base.touch p.structs).means made.body touched;
        }

    -- ---- types

    body-lines : LinesTyped p made (Slots base p made) (whole_body 0 first_slot) first_slot
    body-lines =
        let end = plain_lines (leaving scope.has_frame None) in
        let rest = joined (block_code scope b) (joined end no_lines) in
        pieces_typed.join-typed p made (Slots base p made) (plain_lines (entering scope.has_frame)) (joined copies rest) (pieces_typed.enters-typed p made (Slots base p made) scope.has_frame)
        (pieces_typed.join-typed p made (Slots base p made) copies rest copies-here.typed
        (pieces_typed.join-typed p made (Slots base p made) (block_code scope b) (joined end no_lines) block-here.typed
        (pieces_typed.join-typed p made (Slots base p made) end no_lines (pieces_typed.return_nothing-typed p made (Slots base p made) scope.has_frame) (pieces_typed.nothing-typed p made (Slots base p made))))) 0 first_slot

    -- the types of its slots: those of variables, and of what expressions keep
    abbrev all_types : List Ty
    all_types = slot_types (length parameters) variables ++ body-lines.temps

    first-count : first_slot ≡ length (slot_types (length parameters) variables)
    first-count = let h = slot-count (length parameters) 0 variables in omega (arith, h)

    known-here : HasAt (listed all_types) 0 base.known
    known-here = subst (HasAt (listed all_types) 0) (sym defined.known)
        (list-has all_types 0 (slot_types (length parameters) variables)
        (λ m u e. ap (slice_get all_types) (let z : 0 + m ≡ m = omega arith in z) ∙ at-front (slot_types (length parameters) variables) body-lines.temps m u e))

    temps-here : HasAt (listed all_types) first_slot body-lines.temps
    temps-here = list-has all_types first_slot body-lines.temps
        (λ m u e. at-back (slot_types (length parameters) variables) body-lines.temps m (first_slot + m) (omega (arith, first-count)) ∙ e)

    abbrev none : Types
    none r = ty.Int

    body-of : Typed p made (listed all_types) none made.body
    body-of = body-lines.typed 0 0 (listed all_types) known-here temps-here none

    slots-all : length all_types ≡ made.slots
    slots-all = omega (arith, length-append (slot_types (length parameters) variables) body-lines.temps, first-count, body-lines.slot_is)

    pub function-typed : IsTypedBody p made
    function-typed =
        bodies.body-typed p made all_types scope.has_frame slots-all well-formed (each-all (IsInRange p made) made.slots made.body in-range) none body-of
        (parameters-taken parameters variables body-lines.temps defined.first)

    pub function-free : EntryFree p made
    function-free = bodies.entry-free p made all_types scope.has_frame slots-all well-formed (each-all (IsInRange p made) made.slots made.body in-range) none body-of
