-- What is asked of each line holds of a statement's lines where it holds of its expressions' code.
use Rattle.std.proofs.Common.{ℕ, ◌+◌, ◌≤◌, max, Bool, true, false, List, [], ◌∷◌, ◌++◌, length, Option, Some, None, sym, subst, arith}
use Rattle.std.proofs.Math.Nat.{le-max_left, le-max_right}
use Rattle.std.specs.Option.{option_map}
use Rattle.core_ir.specs.declared.instr.Instr.{Instr}
use Rattle.core_ir.specs.declared.instr.Instr.TheVariants.{Branch, Jump, Leave, Return}
use Rattle.elab_rows.specs.Choices.{tested}
use Rattle.elab_rows.specs.Made.{Code, Made}
use Rattle.elab_pieces.specs.Lines.{Breaks, Continues, Does, Line, PieceCode, all_joined, full, joined, led, no_lines, one_line, plain_lines}
use Rattle.elab_pieces.specs.Functions.{entering}
use Rattle.elab_pieces.specs.Statements.{branch_lines, do_code, does, guarded, if_by, if_code, if_else_code, leaving, loop_code, otherwise, returned, returned_nothing, test_length, test_lines, test_registers, test_slot, while_code}
use Rattle.elab_piece_laws.proofs.LiftedPieces.{led_append, led_does}
use Rattle.elab_piece_laws.specs.Fitting.{AreListed, AreListedPieces, IfListedCode, IfListedPiece, IsListedCode, IsListedPiece}

front_max : (a b n : ℕ) → max a b ≤ n → a ≤ n
front_max a b n h = let g : a ≤ max a b = le-max_left a b in omega arith

back_max : (a b n : ℕ) → max a b ≤ n → b ≤ n
back_max a b n h = let g : b ≤ max a b = le-max_right a b in omega arith

module _ (L : List Instr → Type 0) (slots registers : ℕ) (laws : AreListed L) where
  tested_listed : (x : Made) (l : ℕ) → L x.code → L (tested x l)
  tested_listed x l h = laws.append x.code (Branch x.result l ∷ []) h (laws.branch x.result l)

  closed_listed : (c : List Instr) (b k : ℕ) → L c → L (led b k (does c))
  closed_listed c b k h = subst L (sym (led_does b k c)) h

  lines_listed : (xs ys : List Line) (b k : ℕ) → L (led b k xs) → L (led b k ys) → L (led b k (xs ++ ys))
  lines_listed xs ys b k hx hy = subst L (sym (led_append b k xs ys)) (laws.append (led b k xs) (led b k ys) hx hy)

  pub nothing_listed : IsListedPiece L slots registers no_lines
  nothing_listed = record { grows = λ place first. omega arith; lines = λ place first b k le few. laws.empty }

  pub full_listed : (a : Code) → IsListedCode L slots registers a → IsListedPiece L slots registers (full a)
  full_listed a h = record { grows = h.grows; lines = λ place first b k le few. closed_listed (a place 0 first).code b k (h.code place first le few) }

  pub joined_listed : (a b : PieceCode) → IsListedPiece L slots registers a → IsListedPiece L slots registers b → IsListedPiece L slots registers (joined a b)
  joined_listed a c ha hc = record {
    grows = λ place first.
        let x = a place first in
        let e : first ≤ x.slot = ha.grows place first in
        let g : x.slot ≤ (c (place + length x.lines) x.slot).slot = hc.grows (place + length x.lines) x.slot in
        omega arith;
    lines = λ place first b k le few.
        let x = a place first in
        let y = c (place + length x.lines) x.slot in
        let g : x.slot ≤ y.slot = hc.grows (place + length x.lines) x.slot in
        lines_listed x.lines y.lines b k (ha.lines place first b k (omega arith) (front_max x.registers y.registers registers few))
        (hc.lines (place + length x.lines) x.slot b k le (back_max x.registers y.registers registers few));
  }

  pub all_joined_listed : (cs : List PieceCode) → AreListedPieces L slots registers cs → IsListedPiece L slots registers (all_joined cs)
  all_joined_listed [] h = nothing_listed
  all_joined_listed (c ∷ cs) h = joined_listed c (all_joined cs) h.0 (all_joined_listed cs h.1)

  pub break_listed : IsListedPiece L slots registers (one_line Breaks)
  break_listed = record { grows = λ place first. omega arith; lines = λ place first b k le few. laws.jump b }

  pub continue_listed : IsListedPiece L slots registers (one_line Continues)
  continue_listed = record { grows = λ place first. omega arith; lines = λ place first b k le few. laws.jump k }

  pub if_listed : (c : Code) (a : PieceCode) → IsListedCode L slots registers c → IsListedPiece L slots registers a → IsListedPiece L slots registers (if_code c a)
  if_listed c a hc ha = record {
    grows = λ place first.
        let t = c place 0 first in
        let e : first ≤ t.slot = hc.grows place first in
        let g : t.slot ≤ (guarded place t a).slot = ha.grows (place + length t.code + 1) t.slot in
        omega arith;
    lines = λ place first b k le few.
        let t = c place 0 first in
        let p = place + length t.code + 1 in
        let x = guarded place t a in
        let e = p + length x.lines in
        let g : t.slot ≤ x.slot = ha.grows p t.slot in
        lines_listed (does (tested t e)) x.lines b k (closed_listed (tested t e) b k (tested_listed t e (hc.code place first (omega arith) (front_max t.register x.registers registers few))))
        (ha.lines p t.slot b k le (back_max t.register x.registers registers few));
  }

  pub if_else_listed : (c : Code) (a o : PieceCode) → IsListedCode L slots registers c → IsListedPiece L slots registers a → IsListedPiece L slots registers o → IsListedPiece L slots registers (if_else_code c a o)
  if_else_listed c a o hc ha ho = record {
    grows = λ place first.
        let t = c place 0 first in
        let p = place + length t.code + 1 in
        let x = guarded place t a in
        let e : first ≤ t.slot = hc.grows place first in
        let g : t.slot ≤ x.slot = ha.grows p t.slot in
        let h : x.slot ≤ (otherwise place t x o).slot = ho.grows (p + length x.lines + 1) x.slot in
        omega arith;
    lines = λ place first b k le few.
        let t = c place 0 first in
        let p = place + length t.code + 1 in
        let x = guarded place t a in
        let f = p + length x.lines + 1 in
        let y = otherwise place t x o in
        let e = f + length y.lines in
        let g : t.slot ≤ x.slot = ha.grows p t.slot in
        let h : x.slot ≤ y.slot = ho.grows f x.slot in
        let rest = back_max t.register (max x.registers y.registers) registers few in
        lines_listed (does (tested t f)) (branch_lines x y e) b k (closed_listed (tested t f) b k (tested_listed t f (hc.code place first (omega arith) (front_max t.register (max x.registers y.registers) registers few))))
        (lines_listed (x.lines ++ Does (Jump e) ∷ []) y.lines b k
        (lines_listed x.lines (Does (Jump e) ∷ []) b k (ha.lines p t.slot b k (omega arith) (front_max x.registers y.registers registers rest)) (laws.jump e))
        (ho.lines f x.slot b k le (back_max x.registers y.registers registers rest)));
  }

  pub choice_listed : (c : Code) (a : PieceCode) (b : Option PieceCode) → IsListedCode L slots registers c → IsListedPiece L slots registers a → IfListedPiece L slots registers b → IsListedPiece L slots registers (if_by c a b)
  choice_listed c a None hc ha hb = if_listed c a hc ha
  choice_listed c a (Some b) hc ha hb = if_else_listed c a b hc ha hb

  pub while_listed : (c : Code) (a : PieceCode) → IsListedCode L slots registers c → IsListedPiece L slots registers a → IsListedPiece L slots registers (while_code c a)
  while_listed c a hc ha = record {
    grows = λ place first.
        let t = c place 0 first in
        let e : first ≤ t.slot = hc.grows place first in
        let g : t.slot ≤ (guarded place t a).slot = ha.grows (place + length t.code + 1) t.slot in
        omega arith;
    lines = λ place first b k le few.
        let t = c place 0 first in
        let p = place + length t.code + 1 in
        let x = guarded place t a in
        let e = p + length x.lines + 1 in
        let g : t.slot ≤ x.slot = ha.grows p t.slot in
        closed_listed (tested t e ++ led e place x.lines ++ Jump place ∷ []) b k
        (laws.append (tested t e ++ led e place x.lines) (Jump place ∷ [])
        (laws.append (tested t e) (led e place x.lines) (tested_listed t e (hc.code place first (omega arith) (front_max t.register x.registers registers few))) (ha.lines p t.slot e place le (back_max t.register x.registers registers few)))
        (laws.jump place));
  }

  pub do_listed : (a : PieceCode) (c : Code) → IsListedPiece L slots registers a → IsListedCode L slots registers c → IsListedPiece L slots registers (do_code a c)
  do_listed a c ha hc = record {
    grows = λ place first.
        let x = a place first in
        let e : first ≤ x.slot = ha.grows place first in
        let g : x.slot ≤ (c (place + length x.lines) 0 x.slot).slot = hc.grows (place + length x.lines) x.slot in
        omega arith;
    lines = λ place first b k le few.
        let x = a place first in
        let p = place + length x.lines in
        let t = c p 0 x.slot in
        let e = p + length t.code + 2 in
        let g : x.slot ≤ t.slot = hc.grows p x.slot in
        closed_listed (led e p x.lines ++ tested t e ++ Jump place ∷ []) b k
        (laws.append (led e p x.lines ++ tested t e) (Jump place ∷ [])
        (laws.append (led e p x.lines) (tested t e) (ha.lines place first e p (omega arith) (front_max x.registers t.register registers few)) (tested_listed t e (hc.code p x.slot le (back_max x.registers t.register registers few))))
        (laws.jump place));
  }

  -- ---- `for`

  abbrev made_test : Option Code → ℕ → ℕ → Option Made
  made_test c place first = option_map (λ (t : Code). t place 0 first) c

  test_grows : (c : Option Code) (place first : ℕ) → IfListedCode L slots registers c → first ≤ test_slot (made_test c place first) first
  test_grows None place first h = omega arith
  test_grows (Some c) place first h = h.grows place first

  test_listed : (c : Option Code) (place first e : ℕ) → IfListedCode L slots registers c → test_slot (made_test c place first) first ≤ slots → test_registers (made_test c place first) ≤ registers → L (test_lines (made_test c place first) e)
  test_listed None place first e h le few = laws.empty
  test_listed (Some c) place first e h le few = tested_listed (c place 0 first) e (h.code place first le few)

  pub loop_listed : (c : Option Code) (a : PieceCode) (s : Code) → IfListedCode L slots registers c → IsListedPiece L slots registers a → IsListedCode L slots registers s → IsListedPiece L slots registers (loop_code c a s)
  loop_listed c a s hc ha hs = record {
    grows = λ place first.
        let o = made_test c place first in
        let p = place + test_length o in
        let x = a p (test_slot o first) in
        let d : first ≤ test_slot o first = test_grows c place first hc in
        let e : test_slot o first ≤ x.slot = ha.grows p (test_slot o first) in
        let g : x.slot ≤ (s (p + length x.lines) 0 x.slot).slot = hs.grows (p + length x.lines) x.slot in
        omega arith;
    lines = λ place first b k le few.
        let o = made_test c place first in
        let p = place + test_length o in
        let x = a p (test_slot o first) in
        let q = p + length x.lines in
        let y = s q 0 x.slot in
        let e = q + length y.code + 1 in
        let d : test_slot o first ≤ x.slot = ha.grows p (test_slot o first) in
        let g : x.slot ≤ y.slot = hs.grows q x.slot in
        let rest = back_max (test_registers o) (max x.registers y.register) registers few in
        closed_listed (test_lines o e ++ led e q x.lines ++ y.code ++ Jump place ∷ []) b k
        (laws.append (test_lines o e ++ led e q x.lines ++ y.code) (Jump place ∷ [])
        (laws.append (test_lines o e ++ led e q x.lines) y.code
        (laws.append (test_lines o e) (led e q x.lines) (test_listed c place first e hc (omega arith) (front_max (test_registers o) (max x.registers y.register) registers few))
        (ha.lines p (test_slot o first) e q (omega arith) (front_max x.registers y.register registers rest)))
        (hs.code q x.slot le (back_max x.registers y.register registers rest)))
        (laws.jump place));
  }

  -- ---- returns

  leaving_listed : (frame : Bool) (a : Option ℕ) → L (leaving frame a)
  leaving_listed true a = laws.append (Leave ∷ []) (Return a ∷ []) laws.leave (laws.return a)
  leaving_listed false a = laws.return a

  pub returned_listed : (frame : Bool) (a : Code) → IsListedCode L slots registers a → IsListedPiece L slots registers (returned frame a)
  returned_listed frame a h = record {
    grows = h.grows;
    lines = λ place first b k le few.
        let x = a place 0 first in
        closed_listed (x.code ++ leaving frame (Some x.result)) b k (laws.append x.code (leaving frame (Some x.result)) (h.code place first le few) (leaving_listed frame (Some x.result)));
  }

  pub returned_nothing_listed : (frame : Bool) → IsListedPiece L slots registers (returned_nothing frame)
  returned_nothing_listed frame = record { grows = λ place first. omega arith; lines = λ place first b k le few. closed_listed (leaving frame None) b k (leaving_listed frame None) }

  entering_listed : (frame : Bool) → L (entering frame)
  entering_listed true = laws.enter
  entering_listed false = laws.empty

  pub enters_listed : (frame : Bool) → IsListedPiece L slots registers (plain_lines (entering frame))
  enters_listed frame = record { grows = λ place first. omega arith; lines = λ place first b k le few. closed_listed (entering frame) b k (entering_listed frame) }
