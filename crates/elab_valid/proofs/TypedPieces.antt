-- The rows of statements give registers types where their expressions do: each full expression from whatever types.
use Rattle.std.proofs.Common.{◌≡◌, ◌∙◌, ℕ, ◌+◌, Bool, true, false, List, [], ◌∷◌, ◌++◌, length, map, Option, Some, None, option_map, refl, ap, arith, length-append}
use Rattle.c_types.specs.declared.ty.FnTy.{out-FnTy}
use Rattle.c_types.specs.declared.ty.Ty.{Ty}
use Rattle.core_ir.specs.declared.instr.Instr.{Instr}
use Rattle.core_ir.specs.declared.instr.Instr.TheVariants.{Branch, Jump, Leave, Return}
use Rattle.core_ir.specs.declared.program.Function.{Function}
use Rattle.core_ir.specs.declared.program.Program.{Program}
use Rattle.core_ir.specs.Typed.{plain_type}
use Rattle.elab_rows.specs.Choices.{tested}
use Rattle.elab_rows.specs.Made.{Code, Made}
use Rattle.elab_pieces.specs.Functions.{entering}
use Rattle.elab_pieces.specs.Lines.{Breaks, Continues, Does, Line, Piece, PieceCode, full, joined, led, led_line, no_lines, one_line, plain_lines}
use Rattle.elab_pieces.specs.Statements.{do_code, guarded, if_by, leaving, loop_code, loop_made, otherwise, returned, returned_nothing, test_length, test_lines, test_slot, while_code}
use Rattle.elab_valid.proofs.HeldTypes.{Holds}
use Rattle.elab_valid.proofs.RegisterTypes.{Asks, HasAt, Types, Typed, after, has-first, has-rest, run, typed-append}
use Rattle.elab_valid.proofs.TypedRows.{HasValue, IsTypedDone}

module _ (p : Program) (f : Function) (base : Types → Type 0) where
  -- lines that name slots on from the given one
  pub record LinesTyped (x : Piece) (slot : ℕ) : Type 0 where
    pub temps : List Ty
    pub slot_is : x.slot ≡ slot + length temps
    pub typed : (b k : ℕ) (slots : Types) → base slots → HasAt slots slot temps → (e : Types) → Typed p f slots e (led b k x.lines)

  abbrev pub IsTypedPiece : PieceCode → Type 0
  IsTypedPiece c = (place slot : ℕ) → LinesTyped (c place slot) slot

  -- ---- lists

  append-lines : (b k : ℕ) (slots : Types) (ls ms : List Line) (e : Types) → Typed p f slots e (led b k ls) → ((g : Types) → Typed p f slots g (led b k ms)) → Typed p f slots e (led b k (ls ++ ms))
  append-lines b k slots [] ms e hl hm = hm e
  append-lines b k slots (l ∷ ls) ms e hl hm = (hl.0, append-lines b k slots ls ms (after p f slots e (led_line b k l)) hl.1 hm)

  does-lines : (b k : ℕ) (slots : Types) (is : List Instr) (e : Types) → Typed p f slots e is → Typed p f slots e (led b k (map Does is))
  does-lines b k slots [] e h = tt
  does-lines b k slots (i ∷ is) e h = (h.0, does-lines b k slots is (after p f slots e i) h.1)

  append-code : (slots : Types) (c d : List Instr) (e : Types) → Typed p f slots e c → ((g : Types) → Typed p f slots g d) → Typed p f slots e (c ++ d)
  append-code slots c d e hc hd = typed-append p f slots c d e hc (hd (run p f slots e c))

  -- ---- codes

  tested-code : (slots : Types) (c : Made) (l : ℕ) (e : Types) → Typed p f slots e c.code → Typed p f slots e (tested c l)
  tested-code slots c l e h = append-code slots c.code (Branch c.result l ∷ []) e h (λ g. (tt, tt))

  done-code : (x : Made) (slot : ℕ) (h : Holds p f base [] x 0 slot []) (slots : Types) → base slots → HasAt slots slot h.temps → (e : Types) → Typed p f slots e x.code
  done-code x slot h slots b at e = h.typed slots b at e tt

  -- ---- rows

  pub nothing-typed : IsTypedPiece no_lines
  nothing-typed place slot = record { temps = []; slot_is = omega arith; typed = λ b k slots known at e. tt }

  pub expression-typed : (a : Code) → IsTypedDone p f base a → IsTypedPiece (full a)
  expression-typed a h place slot =
      let x = a place 0 slot in
      let g = h place 0 slot in
      record { temps = g.temps; slot_is = g.slot_is; typed = λ b k slots known at e. does-lines b k slots x.code e (done-code x slot g slots known at e) }

  -- one behind another
  pub join-typed : (a c : PieceCode) → IsTypedPiece a → IsTypedPiece c → IsTypedPiece (joined a c)
  join-typed a c ha hc place slot =
      let x = a place slot in
      let y = c (place + length x.lines) x.slot in
      let h = ha place slot in
      let g = hc (place + length x.lines) x.slot in
      record {
        temps = h.temps ++ g.temps;
        slot_is = omega (arith, h.slot_is, g.slot_is, length-append h.temps g.temps);
        typed = λ b k slots known at e.
            append-lines b k slots x.lines y.lines e (h.typed b k slots known (has-first slots slot h.temps g.temps at) e)
            (λ z. g.typed b k slots known (has-rest slots slot x.slot h.temps g.temps h.slot_is at) z);
      }

  pub breaks-typed : IsTypedPiece (one_line Breaks)
  breaks-typed place slot = record { temps = []; slot_is = omega arith; typed = λ b k slots known at e. (tt, tt) }

  pub continues-typed : IsTypedPiece (one_line Continues)
  continues-typed place slot = record { temps = []; slot_is = omega arith; typed = λ b k slots known at e. (tt, tt) }

  pub if-typed : (c : Code) (a : PieceCode) → IsTypedDone p f base c → IsTypedPiece a → IsTypedPiece (if_by c a None)
  if-typed c a hc ha place slot =
      let t = c place 0 slot in
      let x = guarded place t a in
      let l = place + length t.code + 1 + length x.lines in
      let h = hc place 0 slot in
      let g = ha (place + length t.code + 1) t.slot in
      record {
        temps = h.temps ++ g.temps;
        slot_is = omega (arith, h.slot_is, g.slot_is, length-append h.temps g.temps);
        typed = λ b k slots known at e.
            append-lines b k slots (map Does (tested t l)) x.lines e
            (does-lines b k slots (tested t l) e (tested-code slots t l e (done-code t slot h slots known (has-first slots slot h.temps g.temps at) e)))
            (λ z. g.typed b k slots known (has-rest slots slot t.slot h.temps g.temps h.slot_is at) z);
      }

  pub if_else-typed : (c : Code) (a d : PieceCode) → IsTypedDone p f base c → IsTypedPiece a → IsTypedPiece d → IsTypedPiece (if_by c a (Some d))
  if_else-typed c a d hc ha hd place slot =
      let t = c place 0 slot in
      let x = guarded place t a in
      let y = otherwise place t x d in
      let l = place + length t.code + 1 + length x.lines + 1 in
      let end = l + length y.lines in
      let h = hc place 0 slot in
      let g = ha (place + length t.code + 1) t.slot in
      let m = hd (place + length t.code + 1 + length x.lines + 1) x.slot in
      record {
        temps = h.temps ++ (g.temps ++ m.temps);
        slot_is = omega (arith, h.slot_is, g.slot_is, m.slot_is, length-append h.temps (g.temps ++ m.temps), length-append g.temps m.temps);
        typed = λ b k slots known at e.
            let rest = has-rest slots slot t.slot h.temps (g.temps ++ m.temps) h.slot_is at in
            append-lines b k slots (map Does (tested t l)) ((x.lines ++ Does (Jump end) ∷ []) ++ y.lines) e
            (does-lines b k slots (tested t l) e (tested-code slots t l e (done-code t slot h slots known (has-first slots slot h.temps (g.temps ++ m.temps) at) e)))
            (λ z. append-lines b k slots (x.lines ++ Does (Jump end) ∷ []) y.lines z
            (append-lines b k slots x.lines (Does (Jump end) ∷ []) z (g.typed b k slots known (has-first slots t.slot g.temps m.temps rest) z) (λ w. (tt, tt)))
            (λ w. m.typed b k slots known (has-rest slots t.slot x.slot g.temps m.temps g.slot_is rest) w));
      }

  pub while-typed : (c : Code) (a : PieceCode) → IsTypedDone p f base c → IsTypedPiece a → IsTypedPiece (while_code c a)
  while-typed c a hc ha place slot =
      let t = c place 0 slot in
      let x = guarded place t a in
      let end = place + length t.code + 1 + length x.lines + 1 in
      let h = hc place 0 slot in
      let g = ha (place + length t.code + 1) t.slot in
      record {
        temps = h.temps ++ g.temps;
        slot_is = omega (arith, h.slot_is, g.slot_is, length-append h.temps g.temps);
        typed = λ b k slots known at e.
            does-lines b k slots (tested t end ++ led end place x.lines ++ Jump place ∷ []) e
            (append-code slots (tested t end ++ led end place x.lines) (Jump place ∷ []) e
            (append-code slots (tested t end) (led end place x.lines) e (tested-code slots t end e (done-code t slot h slots known (has-first slots slot h.temps g.temps at) e))
            (λ z. g.typed end place slots known (has-rest slots slot t.slot h.temps g.temps h.slot_is at) z)) (λ z. (tt, tt)));
      }

  pub do-typed : (a : PieceCode) (c : Code) → IsTypedPiece a → IsTypedDone p f base c → IsTypedPiece (do_code a c)
  do-typed a c ha hc place slot =
      let x = a place slot in
      let condition = place + length x.lines in
      let t = c condition 0 x.slot in
      let end = condition + length t.code + 2 in
      let g = ha place slot in
      let h = hc condition 0 x.slot in
      record {
        temps = g.temps ++ h.temps;
        slot_is = omega (arith, h.slot_is, g.slot_is, length-append g.temps h.temps);
        typed = λ b k slots known at e.
            does-lines b k slots (led end condition x.lines ++ tested t end ++ Jump place ∷ []) e
            (append-code slots (led end condition x.lines ++ tested t end) (Jump place ∷ []) e
            (append-code slots (led end condition x.lines) (tested t end) e (g.typed end condition slots known (has-first slots slot g.temps h.temps at) e)
            (λ z. tested-code slots t end z (done-code t x.slot h slots known (has-rest slots slot x.slot g.temps h.temps g.slot_is at) z))) (λ z. (tt, tt)));
      }

  -- ---- `for`

  abbrev pub IfTyped : Option Code → Type 0
  IfTyped None = Unit {0}
  IfTyped (Some c) = IsTypedDone p f base c

  -- a condition, if there is one
  record TestTyped (c : Option Made) (slot : ℕ) : Type 0 where
    pub temps : List Ty
    pub slot_is : test_slot c slot ≡ slot + length temps
    pub typed : (l : ℕ) (slots : Types) → base slots → HasAt slots slot temps → (e : Types) → Typed p f slots e (test_lines c l)

  test-typed : (c : Option Code) (place slot : ℕ) → IfTyped c → TestTyped (option_map (λ (z : Code). z place 0 slot) c) slot
  test-typed None place slot h = record { temps = []; slot_is = omega arith; typed = λ l slots known at e. tt }
  test-typed (Some c) place slot h =
      let t = c place 0 slot in
      let g = h place 0 slot in
      record { temps = g.temps; slot_is = g.slot_is; typed = λ l slots known at e. tested-code slots t l e (done-code t slot g slots known at e) }

  made-typed : (place slot : ℕ) (c : Option Made) (x : Piece) (s : Made) → TestTyped c slot → LinesTyped x (test_slot c slot) → Holds p f base [] s 0 x.slot [] → LinesTyped (loop_made place c x s) slot
  made-typed place slot c x s h g m =
      let next = place + test_length c + length x.lines in
      let end = next + length s.code + 1 in
      let lines = led end next x.lines in
      record {
        temps = h.temps ++ (g.temps ++ m.temps);
        slot_is = omega (arith, h.slot_is, g.slot_is, m.slot_is, length-append h.temps (g.temps ++ m.temps), length-append g.temps m.temps);
        typed = λ b k slots known at e.
            let rest = has-rest slots slot (test_slot c slot) h.temps (g.temps ++ m.temps) h.slot_is at in
            does-lines b k slots (test_lines c end ++ lines ++ s.code ++ Jump place ∷ []) e
            (append-code slots (test_lines c end ++ lines ++ s.code) (Jump place ∷ []) e
            (append-code slots (test_lines c end ++ lines) s.code e
            (append-code slots (test_lines c end) lines e (h.typed end slots known (has-first slots slot h.temps (g.temps ++ m.temps) at) e)
            (λ z. g.typed end next slots known (has-first slots (test_slot c slot) g.temps m.temps rest) z))
            (λ z. done-code s x.slot m slots known (has-rest slots (test_slot c slot) x.slot g.temps m.temps g.slot_is rest) z)) (λ z. (tt, tt)));
      }

  pub loop-typed : (c : Option Code) (a : PieceCode) (s : Code) → IfTyped c → IsTypedPiece a → IsTypedDone p f base s → IsTypedPiece (loop_code c a s)
  loop-typed c a s hc ha hs place slot =
      let t = option_map (λ (z : Code). z place 0 slot) c in
      let x = a (place + test_length t) (test_slot t slot) in
      made-typed place slot t x (s (place + test_length t + length x.lines) 0 x.slot) (test-typed c place slot hc) (ha (place + test_length t) (test_slot t slot)) (hs (place + test_length t + length x.lines) 0 x.slot)

  -- ---- returns, and where frames are entered and left

  leaving-code : (frame : Bool) (slots e : Types) (a : Option ℕ) → ((g : Types) → ((r : ℕ) → g r ≡ e r) → Asks p f slots g (Return a)) → Typed p f slots e (leaving frame a)
  leaving-code true slots e a asks = (tt, (asks (after p f slots e Leave) (λ r. refl), tt))
  leaving-code false slots e a asks = (asks e (λ r. refl), tt)

  pub return-typed : (frame : Bool) (a : Code) → HasValue p f base a (out-FnTy f.ty).result → IsTypedPiece (returned frame a)
  return-typed frame a h place slot =
      let x = a place 0 slot in
      let g = h place 0 slot in
      record {
        temps = g.temps;
        slot_is = g.slot_is;
        typed = λ b k slots known at e.
            does-lines b k slots (x.code ++ leaving frame (Some x.result)) e
            (typed-append p f slots x.code (leaving frame (Some x.result)) e (g.typed slots known at e tt)
            (leaving-code frame slots (run p f slots e x.code) (Some x.result) (λ z same. ap plain_type (same x.result) ∙ (g.has slots known at e tt).0)));
      }

  pub return_nothing-typed : (frame : Bool) → IsTypedPiece (returned_nothing frame)
  return_nothing-typed frame place slot = record {
    temps = [];
    slot_is = omega arith;
    typed = λ b k slots known at e. does-lines b k slots (leaving frame None) e (leaving-code frame slots e None (λ z same. tt));
  }

  pub enters-typed : (frame : Bool) → IsTypedPiece (plain_lines (entering frame))
  enters-typed true place slot = record { temps = []; slot_is = omega arith; typed = λ b k slots known at e. (tt, tt) }
  enters-typed false place slot = record { temps = []; slot_is = omega arith; typed = λ b k slots known at e. tt }
