-- Returns, and the body of a function.
use Rattle.std.proofs.Common.{◌≡◌, inl, ℕ, ◌+◌, Bool, true, false, List, [], ◌∷◌, ◌++◌, length, Some, None, refl, ap, sym, subst, ◌∙◌, arith, append_assoc}
use Rattle.core_ir.specs.declared.instr.Instr.TheVariants.{Enter, Leave, Return}
use Rattle.core_ir.specs.Instructions.{outline_of}
use Rattle.core_ir.specs.Order.{IsWellFormed}
use Rattle.core_parts.specs.Pieces.{IsPart, IsPiece}
use Rattle.core_parts.specs.Theorems.{PartLaws}
use Rattle.elab_rows.specs.Made.{Code, Made}
use Rattle.elab_pieces.specs.Lines.{Breaks, Continues, Does, Line, led}
use Rattle.elab_pieces.specs.Statements.{leaving, returned, returned_nothing}
use Rattle.elab_piece_laws.proofs.GoodStatements.{closed_lines, joined_good}
use Rattle.elab_piece_laws.proofs.LiftedPieces.{led_append, outlines_append, weaker}
use Rattle.elab_piece_laws.specs.Lines.{AreGoodLines, IsClosed, IsGoodPiece, IsTest, outlines}
use Rattle.elab_piece_laws.specs.Theorems.{BodyRow}

-- where nothing is open, it doesn't matter where `break` and `continue` lead
led_closed : (ls : List Line) (a b c d : ℕ) → IsClosed ls → led a b ls ≡ led c d ls
led_closed [] a b c d h = refl
led_closed (Does i ∷ ls) a b c d h = ap (λ x. i ∷ x) (led_closed ls a b c d h)
led_closed (Breaks ∷ ls) a b c d h = absurd h
led_closed (Continues ∷ ls) a b c d h = absurd h

module _ (laws : PartLaws) where
  -- ---- returns

  value_returned : (frame : Bool) (x : Made) (place register : ℕ) → IsPart (outlines x.code) place register x.register (x.result ∷ []) → IsPiece frame (outlines (x.code ++ leaving frame (Some x.result))) place []
  value_returned true x place register h =
      subst (λ o. IsPiece true o place []) (sym (outlines_append x.code (Leave ∷ Return (Some x.result) ∷ [])))
      (laws.pieces.leaves (outlines x.code) place register x.register (x.result ∷ []) (x.result ∷ []) h (λ r is. is))
  value_returned false x place register h =
      subst (λ o. IsPiece false o place []) (sym (outlines_append x.code (Return (Some x.result) ∷ [])))
      (laws.pieces.returns (outlines x.code) place register x.register (x.result ∷ []) (x.result ∷ []) h (λ r is. is))

  pub returned_good : (frame : Bool) (a : Code) → IsTest a → IsGoodPiece frame (returned frame a)
  returned_good frame a h place slot = closed_lines laws frame ((a place 0 slot).code ++ leaving frame (Some (a place 0 slot).result)) place (value_returned frame (a place 0 slot) place 0 (h place slot))

  nothing_returned : (frame : Bool) (place : ℕ) → IsPiece frame (outlines (leaving frame None)) place []
  nothing_returned true place = laws.pieces.leaves [] place 0 0 [] [] (laws.composition.none place 0) (λ r is. is)
  nothing_returned false place = laws.pieces.returns [] place 0 0 [] [] (laws.composition.none place 0) (λ r is. is)

  pub returned_nothing_good : (frame : Bool) → IsGoodPiece frame (returned_nothing frame)
  returned_nothing_good frame place slot = closed_lines laws frame (leaving frame None) place (nothing_returned frame place)

  -- ---- bodies

  -- lines in which nothing is open, with both places at 0
  closed_piece : (frame : Bool) (ls : List Line) (place : ℕ) → AreGoodLines frame ls place → IsClosed ls → IsPiece frame (outlines (led 0 0 ls)) place []
  closed_piece frame ls place h closed =
      let same : led place place ls ≡ led 0 0 ls = led_closed ls place place 0 0 closed in
      subst (λ c. IsPiece frame (outlines c) place []) same
      (weaker laws frame (led place place ls) place (place + length (led place place ls)) (place ∷ place ∷ []) [] refl (h place place (inl (omega arith)) (inl (omega arith)))
      (inl (omega arith, omega arith), (inl (omega arith, omega arith), tt)))

  pub body_good : (frame : Bool) → BodyRow frame
  body_good true copies statements slot registers slots hc hs closed numbered =
      let x = copies 1 slot in
      let y = statements (1 + length x.lines) x.slot in
      let inner = x.lines ++ y.lines in
      let piece = closed_piece true inner 1 (joined_good laws true copies statements hc hs 1 slot) closed in
      let all = laws.bodies.framed (outlines (led 0 0 inner)) registers slots piece numbered in
      let end = Does Leave ∷ Does (Return None) ∷ [] in
      let shape : outlines (led 0 0 (x.lines ++ (y.lines ++ end))) ≡ outlines (led 0 0 inner) ++ outlines (led 0 0 end) =
      ap (λ l. outlines (led 0 0 l)) (sym (append_assoc x.lines y.lines end)) ∙ ap outlines (led_append 0 0 inner end) ∙ outlines_append (led 0 0 inner) (led 0 0 end) in
      subst (IsWellFormed registers slots true) (ap (λ o. outline_of Enter ∷ o) (sym shape)) all
  body_good false copies statements slot registers slots hc hs closed numbered =
      let x = copies 0 slot in
      let y = statements (0 + length x.lines) x.slot in
      let inner = x.lines ++ y.lines in
      let piece = closed_piece false inner 0 (joined_good laws false copies statements hc hs 0 slot) closed in
      let all = laws.bodies.frameless (outlines (led 0 0 inner)) registers slots piece numbered in
      let end = Does (Return None) ∷ [] in
      let shape : outlines (led 0 0 (x.lines ++ (y.lines ++ end))) ≡ outlines (led 0 0 inner) ++ outlines (led 0 0 end) =
      ap (λ l. outlines (led 0 0 l)) (sym (append_assoc x.lines y.lines end)) ∙ ap outlines (led_append 0 0 inner end) ∙ outlines_append (led 0 0 inner) (led 0 0 end) in
      subst (IsWellFormed registers slots false) (sym shape) all
