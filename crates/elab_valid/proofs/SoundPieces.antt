-- All that is asked of a statement's lines, row by row.
use Rattle.std.proofs.Common.{ℕ, ◌+◌, Bool, List, [], ◌∷◌, ◌++◌, length, map, Option, Some, None, option_map}
use Rattle.c_types.specs.declared.ty.FnTy.{out-FnTy}
use Rattle.core_ir.specs.declared.instr.Instr.{Instr}
use Rattle.core_ir.specs.declared.instr.Instr.TheVariants.{Jump}
use Rattle.core_ir.specs.declared.program.Function.{Function}
use Rattle.core_ir.specs.declared.program.Program.{Program}
use Rattle.core_ir.specs.Valid.{IsInRange}
use Rattle.elab_rows.specs.Choices.{tested}
use Rattle.elab_rows.specs.Made.{Code, Made}
use Rattle.elab_pieces.specs.Lines.{Breaks, Continues, Does, Line, Piece, PieceCode, all_full, all_joined, full, joined, led, no_lines, one_line, plain_lines}
use Rattle.elab_pieces.specs.Statements.{do_code, does, guarded, if_by, leaving, loop_code, loop_made, returned, returned_nothing, test_length, test_lines, test_slot, while_code}
use Rattle.elab_laws.specs.Fitting.{EachIs, IsFit}
use Rattle.elab_laws.specs.Theorems.{IsDone}
use Rattle.elab_laws.specs.Touching.{IsTouched}
use Rattle.elab_laws.specs.Values.{IsGood}
use Rattle.elab_piece_laws.specs.Fitting.{IfListedCode, IsListedCode, IsListedPiece}
use Rattle.elab_piece_laws.specs.FittingLaws.{ListingRows, StatementsFit}
use Rattle.elab_piece_laws.specs.Lines.{IfFull, IsClosed, IsFull, IsGoodPiece, IsTest}
use Rattle.elab_piece_laws.specs.Numbered.{Numbers, NumbersOfLines}
use Rattle.elab_piece_laws.specs.Theorems.{StatementsAreGood}
use Rattle.elab_valid.proofs.MetParts as met
use Rattle.elab_valid.proofs.MetParts.{GivesValue, Laws, Slots, Sound, TypedDone, Valued}
use Rattle.elab_valid.proofs.TypedPieces as pieces_typed
use Rattle.elab_valid.proofs.TypedPieces.{IfTyped, IsTypedPiece}

-- the laws of lines beside those of rows
pub record PieceLaws : Type 0 where
  pub base : Laws
  pub good : StatementsAreGood
  pub fit : StatementsFit
  pub numbers : NumbersOfLines

module _ (laws : PieceLaws) (p : Program) (f : Function) (frame : Bool) where
  abbrev InRange : List Instr → Type 0
  InRange = EachIs (IsFit (IsInRange p f) f.slots)

  abbrev Touched : List Instr → Type 0
  Touched = IsTouched p.structs

  abbrev Numbered : List Instr → Type 0
  Numbered = Numbers f.registers f.slots

  abbrev range_rows : ListingRows InRange f.slots f.registers
  range_rows = laws.fit.in_range p f

  abbrev touch_rows : ListingRows Touched f.slots f.registers
  touch_rows = laws.fit.touched p.structs f.slots f.registers

  abbrev number_rows : ListingRows Numbered f.slots f.registers
  number_rows = laws.numbers.rows f.registers f.slots

  -- lines of a statement
  pub record SoundPiece (c : PieceCode) : Type 0 where
    pub good : IsGoodPiece frame c
    pub range : IsListedPiece InRange f.slots f.registers c
    pub touched : IsListedPiece Touched f.slots f.registers c
    pub numbered : IsListedPiece Numbered f.slots f.registers c
    pub typed : IsTypedPiece p f (Slots laws.base p f) c

  -- a full expression
  pub record SoundFull (a : Code) : Type 0 where
    pub good : IsFull a
    pub range : IsListedCode InRange f.slots f.registers a
    pub touched : IsListedCode Touched f.slots f.registers a
    pub numbered : IsListedCode Numbered f.slots f.registers a
    pub typed : TypedDone laws.base p f a

  -- one whose value is used behind it
  pub record SoundTest (a : Code) : Type 0 where
    pub all : SoundFull a
    pub test : IsTest a

  pub full-sound : (a : Code) → IsDone a → Sound laws.base p f a → TypedDone laws.base p f a → SoundFull a
  full-sound a done kept typed = record {
    typed = typed;
    good = λ place slot. done place 0 slot;
    range = record { grows = λ place first. kept.0.grows place 0 first; code = λ place first s r. kept.0.fits place 0 first s };
    touched = record { grows = λ place first. kept.0.grows place 0 first; code = λ place first s r. kept.1 place 0 first };
    numbered = laws.numbers.expression p f a (λ place slot. done place 0 slot) kept.0;
  }

  pub test-sound : (a : Code) → IsGood a → Sound laws.base p f a → TypedDone laws.base p f a → SoundTest a
  test-sound a good kept typed = record { all = full-sound a (met.done laws.base p f a good) kept typed; test = λ place slot. good place 0 slot }

  -- ---- rows

  pub nothing-sound : SoundPiece no_lines
  nothing-sound = record { typed = pieces_typed.nothing-typed p f (Slots laws.base p f); good = (laws.good.statements frame).nothing; range = range_rows.nothing; touched = touch_rows.nothing; numbered = number_rows.nothing }

  pub expression-sound : (a : Code) → SoundFull a → SoundPiece (full a)
  expression-sound a h = record {
    typed = pieces_typed.expression-typed p f (Slots laws.base p f) a h.typed;
    good = (laws.good.statements frame).expression a h.good;
    range = range_rows.expression a h.range;
    touched = touch_rows.expression a h.touched;
    numbered = number_rows.expression a h.numbered;
  }

  pub join-sound : (a b : PieceCode) → SoundPiece a → SoundPiece b → SoundPiece (joined a b)
  join-sound a b ha hb = record {
    typed = pieces_typed.join-typed p f (Slots laws.base p f) a b ha.typed hb.typed;
    good = (laws.good.statements frame).join a b ha.good hb.good;
    range = range_rows.join a b ha.range hb.range;
    touched = touch_rows.join a b ha.touched hb.touched;
    numbered = number_rows.join a b ha.numbered hb.numbered;
  }

  abbrev pub AllSound : List PieceCode → Type 0
  AllSound [] = Unit {0}
  AllSound (c ∷ cs) = SoundPiece c × AllSound cs

  pub joins-sound : (cs : List PieceCode) → AllSound cs → SoundPiece (all_joined cs)
  joins-sound [] h = nothing-sound
  joins-sound (c ∷ cs) h = join-sound c (all_joined cs) h.0 (joins-sound cs h.1)

  abbrev pub AllFull : List Code → Type 0
  AllFull [] = Unit {0}
  AllFull (c ∷ cs) = SoundFull c × AllFull cs

  pub expressions-sound : (cs : List Code) → AllFull cs → SoundPiece (all_full cs)
  expressions-sound [] h = nothing-sound
  expressions-sound (c ∷ cs) h = join-sound (full c) (all_full cs) (expression-sound c h.0) (expressions-sound cs h.1)

  pub breaks-sound : SoundPiece (one_line Breaks)
  breaks-sound = record { typed = pieces_typed.breaks-typed p f (Slots laws.base p f); good = (laws.good.statements frame).breaks; range = range_rows.breaks; touched = touch_rows.breaks; numbered = number_rows.breaks }

  pub continues-sound : SoundPiece (one_line Continues)
  continues-sound = record { typed = pieces_typed.continues-typed p f (Slots laws.base p f); good = (laws.good.statements frame).continues; range = range_rows.continues; touched = touch_rows.continues; numbered = number_rows.continues }

  pub if-sound : (c : Code) (a : PieceCode) → SoundTest c → SoundPiece a → SoundPiece (if_by c a None)
  if-sound c a hc ha = record {
    typed = pieces_typed.if-typed p f (Slots laws.base p f) c a hc.all.typed ha.typed;
    good = (laws.good.statements frame).choice c a None hc.test ha.good tt;
    range = range_rows.choice c a None hc.all.range ha.range tt;
    touched = touch_rows.choice c a None hc.all.touched ha.touched tt;
    numbered = number_rows.choice c a None hc.all.numbered ha.numbered tt;
  }

  pub if_else-sound : (c : Code) (a b : PieceCode) → SoundTest c → SoundPiece a → SoundPiece b → SoundPiece (if_by c a (Some b))
  if_else-sound c a b hc ha hb = record {
    typed = pieces_typed.if_else-typed p f (Slots laws.base p f) c a b hc.all.typed ha.typed hb.typed;
    good = (laws.good.statements frame).choice c a (Some b) hc.test ha.good hb.good;
    range = range_rows.choice c a (Some b) hc.all.range ha.range hb.range;
    touched = touch_rows.choice c a (Some b) hc.all.touched ha.touched hb.touched;
    numbered = number_rows.choice c a (Some b) hc.all.numbered ha.numbered hb.numbered;
  }

  pub while-sound : (c : Code) (a : PieceCode) → SoundTest c → SoundPiece a → SoundPiece (while_code c a)
  while-sound c a hc ha = record {
    typed = pieces_typed.while-typed p f (Slots laws.base p f) c a hc.all.typed ha.typed;
    good = (laws.good.statements frame).while_loop c a hc.test ha.good;
    range = range_rows.while_loop c a hc.all.range ha.range;
    touched = touch_rows.while_loop c a hc.all.touched ha.touched;
    numbered = number_rows.while_loop c a hc.all.numbered ha.numbered;
  }

  pub do-sound : (a : PieceCode) (c : Code) → SoundPiece a → SoundTest c → SoundPiece (do_code a c)
  do-sound a c ha hc = record {
    typed = pieces_typed.do-typed p f (Slots laws.base p f) a c ha.typed hc.all.typed;
    good = (laws.good.statements frame).do_loop a c ha.good hc.test;
    range = range_rows.do_loop a c ha.range hc.all.range;
    touched = touch_rows.do_loop a c ha.touched hc.all.touched;
    numbered = number_rows.do_loop a c ha.numbered hc.all.numbered;
  }

  abbrev pub IfTest : Option Code → Type 0
  IfTest None = Unit {0}
  IfTest (Some c) = SoundTest c

  if_full : (c : Option Code) → IfTest c → IfFull c
  if_full None h = tt
  if_full (Some c) h = h.test

  if_range : (c : Option Code) → IfTest c → IfListedCode InRange f.slots f.registers c
  if_range None h = tt
  if_range (Some c) h = h.all.range

  if_touched : (c : Option Code) → IfTest c → IfListedCode Touched f.slots f.registers c
  if_touched None h = tt
  if_touched (Some c) h = h.all.touched

  if_numbered : (c : Option Code) → IfTest c → IfListedCode Numbered f.slots f.registers c
  if_numbered None h = tt
  if_numbered (Some c) h = h.all.numbered

  if_typed : (c : Option Code) → IfTest c → IfTyped p f (Slots laws.base p f) c
  if_typed None h = tt
  if_typed (Some c) h = h.all.typed

  pub loop-sound : (c : Option Code) (a : PieceCode) (s : Code) → IfTest c → SoundPiece a → SoundFull s → SoundPiece (loop_code c a s)
  loop-sound c a s hc ha hs = record {
    typed = pieces_typed.loop-typed p f (Slots laws.base p f) c a s (if_typed c hc) ha.typed hs.typed;
    good = (laws.good.statements frame).for_loop c a s (if_full c hc) ha.good hs.good;
    range = range_rows.for_loop c a s (if_range c hc) ha.range hs.range;
    touched = touch_rows.for_loop c a s (if_touched c hc) ha.touched hs.touched;
    numbered = number_rows.for_loop c a s (if_numbered c hc) ha.numbered hs.numbered;
  }

  pub return-sound : (a : Code) → SoundTest a → Valued laws.base p f a (out-FnTy f.ty).result → SoundPiece (returned frame a)
  return-sound a h valued = record {
    typed = pieces_typed.return-typed p f (Slots laws.base p f) frame a valued;
    good = (laws.good.statements frame).return_value a h.test;
    range = range_rows.return_value frame a h.all.range;
    touched = touch_rows.return_value frame a h.all.touched;
    numbered = number_rows.return_value frame a h.all.numbered;
  }

  pub return_nothing-sound : SoundPiece (returned_nothing frame)
  return_nothing-sound = record {
    typed = pieces_typed.return_nothing-typed p f (Slots laws.base p f) frame;
    good = (laws.good.statements frame).return_nothing;
    range = range_rows.return_nothing frame;
    touched = touch_rows.return_nothing frame;
    numbered = number_rows.return_nothing frame;
  }

-- ---- lines of which none is open

-- no `break` or `continue` leads out, wherever they stand
abbrev pub Closed : PieceCode → Type 0
Closed c = (place slot : ℕ) → IsClosed (c place slot).lines

pub does-closed : (is : List Instr) → IsClosed (map Does is)
does-closed [] = tt
does-closed (i ∷ is) = does-closed is

pub append-closed : (xs ys : List Line) → IsClosed xs → IsClosed ys → IsClosed (xs ++ ys)
append-closed [] ys hx hy = hy
append-closed (Does i ∷ xs) ys hx hy = append-closed xs ys hx hy
append-closed (Breaks ∷ xs) ys hx hy = absurd hx
append-closed (Continues ∷ xs) ys hx hy = absurd hx

pub join-closed : (a b : PieceCode) → Closed a → Closed b → Closed (joined a b)
join-closed a b ha hb place slot =
    let x = a place slot in
    let y = b (place + length x.lines) x.slot in
    append-closed x.lines y.lines (ha place slot) (hb (place + length x.lines) x.slot)

pub full-closed : (a : Code) → Closed (full a)
full-closed a place slot = does-closed (a place 0 slot).code

pub expressions-closed : (cs : List Code) → Closed (all_full cs)
expressions-closed [] = λ place slot. tt
expressions-closed (c ∷ cs) = join-closed (full c) (all_full cs) (full-closed c) (expressions-closed cs)

pub if-closed : (c : Code) (a : PieceCode) → Closed a → Closed (if_by c a None)
if-closed c a ha place slot =
    let t = c place 0 slot in
    append-closed (does (tested t (place + length t.code + 1 + length (a (place + length t.code + 1) t.slot).lines))) (a (place + length t.code + 1) t.slot).lines
    (does-closed (tested t (place + length t.code + 1 + length (a (place + length t.code + 1) t.slot).lines))) (ha (place + length t.code + 1) t.slot)

pub if_else-closed : (c : Code) (a b : PieceCode) → Closed a → Closed b → Closed (if_by c a (Some b))
if_else-closed c a b ha hb place slot =
    let t = c place 0 slot in
    let x = a (place + length t.code + 1) t.slot in
    let y = b (place + length t.code + 1 + length x.lines + 1) x.slot in
    let g = place + length t.code + 1 + length x.lines + 1 in
    append-closed (does (tested t g)) ((x.lines ++ Does (Jump (g + length y.lines)) ∷ []) ++ y.lines) (does-closed (tested t g))
    (append-closed (x.lines ++ Does (Jump (g + length y.lines)) ∷ []) y.lines
    (append-closed x.lines (Does (Jump (g + length y.lines)) ∷ []) (ha (place + length t.code + 1) t.slot) tt) (hb (place + length t.code + 1 + length x.lines + 1) x.slot))

pub while-closed : (c : Code) (a : PieceCode) → Closed (while_code c a)
while-closed c a place slot =
    let t = c place 0 slot in
    let x = guarded place t a in
    let end = place + length t.code + 1 + length x.lines + 1 in
    does-closed (tested t end ++ led end place x.lines ++ Jump place ∷ [])

pub do-closed : (a : PieceCode) (c : Code) → Closed (do_code a c)
do-closed a c place slot =
    let x = a place slot in
    let condition = place + length x.lines in
    let t = c condition 0 x.slot in
    let end = condition + length t.code + 2 in
    does-closed (led end condition x.lines ++ tested t end ++ Jump place ∷ [])

made-closed : (place : ℕ) (c : Option Made) (x : Piece) (s : Made) → IsClosed (loop_made place c x s).lines
made-closed place c x s =
    let next = place + test_length c + length x.lines in
    let end = next + length s.code + 1 in
    does-closed (test_lines c end ++ led end next x.lines ++ s.code ++ Jump place ∷ [])

pub loop-closed : (c : Option Code) (a : PieceCode) (s : Code) → Closed (loop_code c a s)
loop-closed c a s place slot =
    let t = option_map (λ (z : Code). z place 0 slot) c in
    let x = a (place + test_length t) (test_slot t slot) in
    made-closed place t x (s (place + test_length t + length x.lines) 0 x.slot)

pub return-closed : (frame : Bool) (a : Code) → Closed (returned frame a)
return-closed frame a place slot = let x = a place 0 slot in does-closed (x.code ++ leaving frame (Some x.result))

pub plain-closed : (is : List Instr) → Closed (plain_lines is)
plain-closed is place slot = does-closed is
