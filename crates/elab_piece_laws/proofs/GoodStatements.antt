-- The rows of statements: each is a piece where its parts are.
use Rattle.std.proofs.Common.{◌≡◌, inl, inr, ℕ, ◌+◌, ◌≤◌, Bool, List, [], ◌∷◌, ◌++◌, length, Option, Some, None, refl, ap, sym, subst, ◌∙◌, arith, length-append, append_assoc}
use Rattle.std.specs.Option.{option_map}
use Rattle.core_ir.specs.declared.instr.Instr.{Instr}
use Rattle.core_ir.specs.declared.instr.Instr.TheVariants.{Jump}
use Rattle.core_parts.specs.Pieces.{Each, IsOutside, IsPart, IsPiece, Leads}
use Rattle.core_parts.specs.Theorems.{PartLaws}
use Rattle.elab_rows.specs.Choices.{tested}
use Rattle.elab_rows.specs.Made.{Code, Made}
use Rattle.elab_pieces.specs.Lines.{Breaks, Continues, Does, Line, PieceCode, all_full, all_joined, full, joined, led, no_lines, one_line}
use Rattle.elab_pieces.specs.Statements.{branch_lines, do_code, does, guarded, if_by, if_code, if_else_code, loop_code, otherwise, test_length, test_lines, test_slot, while_code}
use Rattle.elab_piece_laws.proofs.LiftedPieces.{does_length, jump_piece, led_append, led_does, led_length, narrower, narrower_front, pieces_at, tested_length, tested_piece, weaker}
use Rattle.elab_piece_laws.specs.Lines.{AreFull, AreGoodLines, AreGoodPieces, IfFull, IsFull, IsGoodPiece, IsTest, outlines}
use Rattle.elab_piece_laws.specs.Theorems.{IfGoodPiece}

module _ (laws : PartLaws) (frame : Bool) where
  -- both places lead where they led
  abbrev both : (start last b k : ℕ) → Each (Leads start last (b ∷ k ∷ [])) (b ∷ k ∷ [])
  both start last b k = (inr (inl refl), (inr (inr (inl refl)), tt))

  -- a piece without exits
  pub closed_lines : (c : List Instr) (place : ℕ) → IsPiece frame (outlines c) place [] → AreGoodLines frame (does c) place
  closed_lines c place h b k hb hk =
      subst (λ d. IsPiece frame (outlines d) place (b ∷ k ∷ [])) (sym (led_does b k c)) (weaker laws frame c place (place + length c) [] (b ∷ k ∷ []) refl h tt)

  pub nothing_good : IsGoodPiece frame no_lines
  nothing_good place slot = closed_lines [] place ((laws.composition.none place 0).is_section.piece frame)

  pub full_good : (a : Code) → IsFull a → IsGoodPiece frame (full a)
  full_good a h place slot = closed_lines (a place 0 slot).code place ((h place slot).is_section.piece frame)

  pub break_good : IsGoodPiece frame (one_line Breaks)
  break_good place slot b k hb hk = weaker laws frame (Jump b ∷ []) place (place + 1) (b ∷ []) (b ∷ k ∷ []) refl (jump_piece laws frame place b hb) (inr (inl refl), tt)

  pub continue_good : IsGoodPiece frame (one_line Continues)
  continue_good place slot b k hb hk = weaker laws frame (Jump k ∷ []) place (place + 1) (k ∷ []) (b ∷ k ∷ []) refl (jump_piece laws frame place k hk) (inr (inr (inl refl)), tt)

  -- lines behind lines
  lines_joined : (xs ys : List Line) (place middle : ℕ) → place + length xs ≡ middle → AreGoodLines frame xs place → AreGoodLines frame ys middle → AreGoodLines frame (xs ++ ys) place
  lines_joined xs ys place middle at_middle hx hy b k hb hk =
      let lx = led_length b k xs in
      let ly = led_length b k ys in
      let lxy = length-append xs ys in
      let last = place + length (xs ++ ys) in
      let same : last ≡ middle + length ys = omega arith in
      let front : (l : ℕ) → IsOutside place last l → IsOutside place middle l = λ l h. narrower place middle last l (omega arith) h in
      let back : (l : ℕ) → IsOutside place last l → IsOutside middle last l = λ l h. narrower_front place middle last l (omega arith) h in
      let cx = hx b k (subst (λ n. IsOutside place n b) (sym at_middle) (front b hb)) (subst (λ n. IsOutside place n k) (sym at_middle) (front k hk)) in
      let cy = hy b k (subst (λ n. IsOutside middle n b) same (back b hb)) (subst (λ n. IsOutside middle n k) same (back k hk)) in
      subst (λ d. IsPiece frame (outlines d) place (b ∷ k ∷ [])) (sym (led_append b k xs ys))
      (pieces_at laws frame (led b k xs) (led b k ys) place middle last (b ∷ k ∷ []) (b ∷ k ∷ []) (b ∷ k ∷ []) (omega arith) (omega arith) cx cy
      (back b hb, (back k hk, tt)) (front b hb, (front k hk, tt)) (both place last b k) (both place last b k))

  pub joined_good : (a b : PieceCode) → IsGoodPiece frame a → IsGoodPiece frame b → IsGoodPiece frame (joined a b)
  joined_good a b ha hb place slot =
      let x = a place slot in
      let y = b (place + length x.lines) x.slot in
      lines_joined x.lines y.lines place (place + length x.lines) refl (ha place slot) (hb (place + length x.lines) x.slot)

  pub all_joined_good : (cs : List PieceCode) → AreGoodPieces frame cs → IsGoodPiece frame (all_joined cs)
  all_joined_good [] h = nothing_good
  all_joined_good (c ∷ cs) h = joined_good c (all_joined cs) h.0 (all_joined_good cs h.1)

  pub all_full_good : (cs : List Code) → AreFull cs → IsGoodPiece frame (all_full cs)
  all_full_good [] h = nothing_good
  all_full_good (c ∷ cs) h = joined_good (full c) (all_full cs) (full_good c h.0) (all_full_good cs h.1)

  -- ---- choices

  pub if_good : (c : Code) (a : PieceCode) → IsTest c → IsGoodPiece frame a → IsGoodPiece frame (if_code c a)
  if_good c a hc ha place slot b k hb hk =
      let t = c place 0 slot in
      let p = place + length t.code + 1 in
      let x = guarded place t a in
      let e = p + length x.lines in
      let lt = tested_length t e in
      let ld = does_length (tested t e) in
      let lx = led_length b k x.lines in
      let la = length-append (does (tested t e)) x.lines in
      let same : place + length (does (tested t e) ++ x.lines) ≡ e = omega arith in
      let fb = subst (λ n. IsOutside place n b) same hb in
      let fk = subst (λ n. IsOutside place n k) same hk in
      let front : (l : ℕ) → IsOutside place e l → IsOutside place p l = λ l h. narrower place p e l (omega arith) h in
      let back : (l : ℕ) → IsOutside place e l → IsOutside p e l = λ l h. narrower_front place p e l (omega arith) h in
      let all = pieces_at laws frame (tested t e) (led b k x.lines) place p e (e ∷ []) (b ∷ k ∷ []) (b ∷ k ∷ []) (omega arith) (omega arith)
      (tested_piece laws frame t place 0 e (hc place slot) (inr (omega arith))) (ha p t.slot b k (back b fb) (back k fk))
      (inr (omega arith), tt) (front b fb, (front k fk, tt)) (inl (omega arith, omega arith), tt) (both place e b k) in
      subst (λ d. IsPiece frame (outlines d) place (b ∷ k ∷ [])) (sym (led_append b k (does (tested t e)) x.lines ∙ ap (λ d. d ++ led b k x.lines) (led_does b k (tested t e)))) all

  pub if_else_good : (c : Code) (a o : PieceCode) → IsTest c → IsGoodPiece frame a → IsGoodPiece frame o → IsGoodPiece frame (if_else_code c a o)
  if_else_good c a o hc ha ho place slot b k hb hk =
      let t = c place 0 slot in
      let p = place + length t.code + 1 in
      let x = guarded place t a in
      let j = p + length x.lines in
      let f = j + 1 in
      let y = otherwise place t x o in
      let e = f + length y.lines in
      let lt = tested_length t f in
      let ld = does_length (tested t f) in
      let lx = led_length b k x.lines in
      let ly = led_length b k y.lines in
      let la = length-append (does (tested t f)) (branch_lines x y e) in
      let lb = length-append (x.lines ++ Does (Jump e) ∷ []) y.lines in
      let lj = length-append x.lines (Does (Jump e) ∷ []) in
      let same : place + length (does (tested t f) ++ branch_lines x y e) ≡ e = omega arith in
      let fb = subst (λ n. IsOutside place n b) same hb in
      let fk = subst (λ n. IsOutside place n k) same hk in
      let within : (from to l : ℕ) → place ≤ from → to ≤ e → IsOutside place e l → IsOutside from to l =
      λ from to l low high h. narrower_front place from to l low (narrower place to e l high h) in
      let h1 = pieces_at laws frame (tested t f) (led b k x.lines) place p j (f ∷ []) (b ∷ k ∷ []) (f ∷ b ∷ k ∷ []) (omega arith) (omega arith)
      (tested_piece laws frame t place 0 f (hc place slot) (inr (omega arith))) (ha p t.slot b k (within p j b (omega arith) (omega arith) fb) (within p j k (omega arith) (omega arith) fk))
      (inr (omega arith), tt) (within place p b (omega arith) (omega arith) fb, (within place p k (omega arith) (omega arith) fk, tt)) (inr (inl refl), tt) (inr (inr (inl refl)), (inr (inr (inr (inl refl))), tt)) in
      let l1 = length-append (tested t f) (led b k x.lines) in
      let h2 = pieces_at laws frame (tested t f ++ led b k x.lines) (Jump e ∷ []) place j f (f ∷ b ∷ k ∷ []) (e ∷ []) (e ∷ b ∷ k ∷ []) (omega arith) refl h1 (jump_piece laws frame j e (inr (omega arith)))
      (inr (omega arith), (within j f b (omega arith) (omega arith) fb, (within j f k (omega arith) (omega arith) fk, tt))) (inr (omega arith), tt)
      (inl (omega arith, omega arith), (inr (inr (inl refl)), (inr (inr (inr (inl refl))), tt))) (inr (inl refl), tt) in
      let l2 = length-append (tested t f ++ led b k x.lines) (Jump e ∷ []) in
      let all = pieces_at laws frame (tested t f ++ led b k x.lines ++ Jump e ∷ []) (led b k y.lines) place f e (e ∷ b ∷ k ∷ []) (b ∷ k ∷ []) (b ∷ k ∷ []) (omega arith) (omega arith) h2
      (ho f x.slot b k (within f e b (omega arith) (omega arith) fb) (within f e k (omega arith) (omega arith) fk))
      (inr (omega arith), (within f e b (omega arith) (omega arith) fb, (within f e k (omega arith) (omega arith) fk, tt))) (within place f b (omega arith) (omega arith) fb, (within place f k (omega arith) (omega arith) fk, tt))
      (inl (omega arith, omega arith), (inr (inl refl), (inr (inr (inl refl)), tt))) (both place e b k) in
      let shape : led b k (does (tested t f) ++ branch_lines x y e) ≡ tested t f ++ led b k x.lines ++ Jump e ∷ [] ++ led b k y.lines =
      led_append b k (does (tested t f)) (branch_lines x y e) ∙ ap (λ d. d ++ led b k (branch_lines x y e)) (led_does b k (tested t f))
      ∙ ap (λ d. tested t f ++ d) (led_append b k (x.lines ++ Does (Jump e) ∷ []) y.lines ∙ ap (λ d. d ++ led b k y.lines) (led_append b k x.lines (Does (Jump e) ∷ [])))
      ∙ sym (append_assoc (tested t f) (led b k x.lines ++ Jump e ∷ []) (led b k y.lines))
      ∙ ap (λ d. d ++ led b k y.lines) (sym (append_assoc (tested t f) (led b k x.lines) (Jump e ∷ []))) in
      subst (λ d. IsPiece frame (outlines d) place (b ∷ k ∷ [])) (sym shape) all

  -- ---- loops

  pub while_good : (c : Code) (a : PieceCode) → IsTest c → IsGoodPiece frame a → IsGoodPiece frame (while_code c a)
  while_good c a hc ha place slot =
      let t = c place 0 slot in
      let p = place + length t.code + 1 in
      let x = guarded place t a in
      let j = p + length x.lines in
      let e = j + 1 in
      let lt = tested_length t e in
      let lx = led_length e place x.lines in
      let h1 = pieces_at laws frame (tested t e) (led e place x.lines) place p j (e ∷ []) (e ∷ place ∷ []) (e ∷ []) (omega arith) (omega arith)
      (tested_piece laws frame t place 0 e (hc place slot) (inr (omega arith))) (ha p t.slot e place (inr (omega arith)) (inl (omega arith)))
      (inr (omega arith), tt) (inr (omega arith), (inl (omega arith), tt)) (inr (inl refl), tt) (inr (inl refl), (inl (omega arith, omega arith), tt)) in
      let l1 = length-append (tested t e) (led e place x.lines) in
      let all = pieces_at laws frame (tested t e ++ led e place x.lines) (Jump place ∷ []) place j e (e ∷ []) (place ∷ []) [] (omega arith) refl h1 (jump_piece laws frame j place (inl (omega arith)))
      (inr (omega arith), tt) (inl (omega arith), tt) (inl (omega arith, omega arith), tt) (inl (omega arith, omega arith), tt) in
      closed_lines (tested t e ++ led e place x.lines ++ Jump place ∷ []) place all

  pub do_good : (a : PieceCode) (c : Code) → IsGoodPiece frame a → IsTest c → IsGoodPiece frame (do_code a c)
  do_good a c ha hc place slot =
      let x = a place slot in
      let p = place + length x.lines in
      let t = c p 0 x.slot in
      let j = p + length t.code + 1 in
      let e = p + length t.code + 2 in
      let lt = tested_length t e in
      let lx = led_length e p x.lines in
      let h1 = pieces_at laws frame (led e p x.lines) (tested t e) place p j (e ∷ p ∷ []) (e ∷ []) (e ∷ []) (omega arith) (omega arith)
      (ha place slot e p (inr (omega arith)) (inr (omega arith))) (tested_piece laws frame t p 0 e (hc p x.slot) (inr (omega arith)))
      (inr (omega arith), (inl (omega arith), tt)) (inr (omega arith), tt) (inr (inl refl), (inl (omega arith, omega arith), tt)) (inr (inl refl), tt) in
      let l1 = length-append (led e p x.lines) (tested t e) in
      let all = pieces_at laws frame (led e p x.lines ++ tested t e) (Jump place ∷ []) place j e (e ∷ []) (place ∷ []) [] (omega arith) (omega arith) h1 (jump_piece laws frame j place (inl (omega arith)))
      (inr (omega arith), tt) (inl (omega arith), tt) (inl (omega arith, omega arith), tt) (inl (omega arith, omega arith), tt) in
      closed_lines (led e p x.lines ++ tested t e ++ Jump place ∷ []) place all

  -- a condition, if there is one
  abbrev IfTested : Option Made → ℕ → Type 0
  IfTested None place = Unit {0}
  IfTested (Some t) place = IsPart (outlines t.code) place 0 t.register (t.result ∷ [])

  test_piece : (o : Option Made) (place e : ℕ) → IfTested o place → place + test_length o ≤ e → IsPiece frame (outlines (test_lines o e)) place (e ∷ [])
  test_piece None place e h far = weaker laws frame [] place (place + 0) [] (e ∷ []) refl ((laws.composition.none place 0).is_section.piece frame) tt
  test_piece (Some t) place e h far = tested_piece laws frame t place 0 e h (inr (omega arith))

  test_lines_length : (o : Option Made) (e : ℕ) → length (test_lines o e) ≡ test_length o
  test_lines_length None e = refl
  test_lines_length (Some t) e = tested_length t e

  tested_if : (c : Option Code) (place slot : ℕ) → IfFull c → IfTested (option_map (λ (t : Code). t place 0 slot) c) place
  tested_if None place slot h = tt
  tested_if (Some c) place slot h = h place slot

  pub loop_good : (c : Option Code) (a : PieceCode) (s : Code) → IfFull c → IsGoodPiece frame a → IsFull s → IsGoodPiece frame (loop_code c a s)
  loop_good c a s hc ha hs place slot =
      let o = option_map (λ (t : Code). t place 0 slot) c in
      let p = place + test_length o in
      let x = a p (test_slot o slot) in
      let q = p + length x.lines in
      let y = s q 0 x.slot in
      let j = q + length y.code in
      let e = j + 1 in
      let lt = test_lines_length o e in
      let lx = led_length e q x.lines in
      let h1 = pieces_at laws frame (test_lines o e) (led e q x.lines) place p q (e ∷ []) (e ∷ q ∷ []) (e ∷ []) (omega arith) (omega arith)
      (test_piece o place e (tested_if c place slot hc) (omega arith)) (ha p (test_slot o slot) e q (inr (omega arith)) (inr (omega arith)))
      (inr (omega arith), tt) (inr (omega arith), (inr (omega arith), tt)) (inr (inl refl), tt) (inr (inl refl), (inl (omega arith, omega arith), tt)) in
      let l1 = length-append (test_lines o e) (led e q x.lines) in
      let h2 = pieces_at laws frame (test_lines o e ++ led e q x.lines) y.code place q j (e ∷ []) [] (e ∷ []) (omega arith) refl h1 ((hs q x.slot).is_section.piece frame)
      (inr (omega arith), tt) tt (inr (inl refl), tt) tt in
      let l2 = length-append (test_lines o e ++ led e q x.lines) y.code in
      let all = pieces_at laws frame (test_lines o e ++ led e q x.lines ++ y.code) (Jump place ∷ []) place j e (e ∷ []) (place ∷ []) [] (omega arith) refl h2 (jump_piece laws frame j place (inl (omega arith)))
      (inr (omega arith), tt) (inl (omega arith), tt) (inl (omega arith, omega arith), tt) (inl (omega arith, omega arith), tt) in
      closed_lines (test_lines o e ++ led e q x.lines ++ y.code ++ Jump place ∷ []) place all

  pub choice_good : (c : Code) (a : PieceCode) (b : Option PieceCode) → IsTest c → IsGoodPiece frame a → IfGoodPiece frame b → IsGoodPiece frame (if_by c a b)
  choice_good c a None hc ha hb = if_good c a hc ha
  choice_good c a (Some b) hc ha hb = if_else_good c a b hc ha hb
