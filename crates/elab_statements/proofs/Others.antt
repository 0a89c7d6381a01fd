-- What `if` with `else` emits, step by step.
use Rattle.std.proofs.Common.{◌≡◌, ◌∙◌, ℕ, ◌+◌, ◌<◌, max, List, [], ◌∷◌, ◌++◌, length, ap, sym, subst, arith, append_assoc, append-nil, length-append, Ok, Err}
use Rattle.std.specs.Prelude.{slice_set}
use Rattle.std.proofs.Math.Seq.{set-append_seam}
use Rattle.core_ir.specs.declared.instr.Instr.TheVariants.{Branch, Jump}
use Rattle.elab_rows.specs.Choices.{tested}
use Rattle.elab_emit.specs.Emits.{Stops}
use Rattle.elab_rows.specs.Made.{Code, Made}
use Rattle.elab_emit.specs.declared.emitter.Trouble.{Trouble}
use Rattle.elab_emit.specs.declared.emitter.Trouble.TheVariants.{TooLong, Memory}
use Rattle.elab_pieces.specs.Lines.{Does, Piece, PieceCode, led}
use Rattle.elab_pieces.specs.Statements.{branch_lines, does, guarded, if_else_code, if_else_made, otherwise}
use Rattle.elab_statements.specs.declared.body.Body.{Body}
use Rattle.elab_statements.specs.declared.conditions.Test.{Test}
use Rattle.elab_statements.specs.declared.open.Open.{Open}
use Rattle.elab_statements.specs.inner.Expressions.{made_at}
use Rattle.elab_statements.specs.Bodies.{piece_at}
use Rattle.elab_statements.specs.inner.Jumps.{JumpOutcome, Rewritten, StatementOutcome, TestOutcome, if_else_end, opens}
use Rattle.elab_statements.proofs.Choices.{behind_test, inside_length, inside_tested, test_length}
use Rattle.elab_statements.specs.inner.Pieces.{grown, led_append, led_length}
use Rattle.elab_statements.proofs.Lead.{led_behind, opens_append, opens_behind}

-- the lines of both parts and the jump between them
else_led : (x y : Piece) (j : ℕ) → led 0 0 (branch_lines x y j) ≡ led 0 0 x.lines ++ Jump j ∷ led 0 0 y.lines
else_led x y j =
    led_append 0 0 (x.lines ++ Does (Jump j) ∷ []) y.lines
    ∙ ap (λ is. is ++ led 0 0 y.lines) (led_append 0 0 x.lines (Does (Jump j) ∷ []))
    ∙ append_assoc (led 0 0 x.lines) (Jump j ∷ []) (led 0 0 y.lines)

else_length : (old : Body) (c : Made) (x y : Piece)
    → length (led 0 0 (if_else_made (length old.out.code) c x y).lines) ≡ length c.code + 1 + length x.lines + 1 + length y.lines
else_length old c x y =
    let f = length old.out.code + length c.code + 1 + length x.lines + 1 in
    let j = f + length y.lines in
    ap length (led_behind 0 0 (tested c f) (branch_lines x y j) ∙ ap (λ is. tested c f ++ is) (else_led x y j))
    ∙ omega (
      arith,
      length-append (tested c f) (led 0 0 x.lines ++ Jump j ∷ led 0 0 y.lines),
      length-append c.code (Branch c.result f ∷ []),
      length-append (led 0 0 x.lines) (Jump j ∷ led 0 0 y.lines),
      led_length 0 0 x.lines,
      led_length 0 0 y.lines,
    )

else_opens : (at : ℕ) (x y : Piece) (j : ℕ) → opens at (branch_lines x y j) ≡ opens at x.lines ++ opens (at + length x.lines + 1) y.lines
else_opens at x y j =
    let e : at + (length x.lines + 1) ≡ at + length x.lines + 1 = omega arith in
    opens_append at (x.lines ++ Does (Jump j) ∷ []) y.lines
    ∙ (λ i. opens_append at x.lines (Does (Jump j) ∷ []) i ++ opens (at + length-append x.lines (Does (Jump j) ∷ []) i) y.lines)
    ∙ (λ i. append-nil (opens at x.lines) i ++ opens (e i) y.lines)

module _ (old mid : Body) (C : Code) (t : Test) (h : TestOutcome old (made_at old C) (Ok t) mid)
    (before more : List Open) (last : Body) (a b : PieceCode) (hx : StatementOutcome mid before (piece_at mid a) (Ok tt) last more)
    (ready : Body) (j : ℕ) (hj : JumpOutcome last (Ok j) ready) where
  abbrev first : Piece
  first = piece_at mid a

  abbrev second : Piece
  second = piece_at ready b

  ready_length : length ready.out.code ≡ length old.out.code + length (made_at old C).code + 1 + length first.lines + 1
  ready_length = omega (arith, ap length hj.0.added, length-append last.out.code (Jump 0 ∷ []), inside_length old mid C t h before more last a hx)

  behind_jump : second ≡ otherwise (length old.out.code) (made_at old C) first b
  behind_jump = λ i. b (ready_length i) ((hj.0.next_slot ∙ hx.0.next_slot) i)

  module _ (most : List Open) (far : Body) (hy : StatementOutcome ready more second (Ok tt) far most) where
    abbrev f : ℕ
    f = length old.out.code + length (made_at old C).code + 1 + length first.lines + 1

    far_length : length far.out.code ≡ f + length second.lines
    far_length = grown ready second far hy.0 ∙ ap (λ n. n + length second.lines) ready_length

    pub else_within : j < length far.out.code
    else_within = omega (arith, hj.1, inside_length old mid C t h before more last a hx, far_length)

    pub else_tested : t.place < length far.out.code
    else_tested = omega (arith, h.2, far_length)

    far_whole : far.out.code ≡ last.out.code ++ Jump 0 ∷ led 0 0 second.lines
    far_whole = hy.0.added ∙ ap (λ c. c ++ led 0 0 second.lines) hj.0.added ∙ append_assoc last.out.code (Jump 0 ∷ []) (led 0 0 second.lines)

    pub if_else_row : (new : Body) → Rewritten far (if_else_end far t j) new
        → StatementOutcome old before (piece_at old (if_else_code C a b)) (Ok tt) new most
    if_else_row new k =
        let c = made_at old C in
        let x = first in
        let y = second in
        let end = f + length y.lines in
        let at_jump : j ≡ length (old.out.code ++ (tested c f ++ led 0 0 x.lines)) =
        omega (
          arith,
          hj.1,
          inside_length old mid C t h before more last a hx,
          length-append old.out.code (tested c f ++ led 0 0 x.lines),
          length-append (tested c f) (led 0 0 x.lines),
          length-append c.code (Branch c.result f ∷ []),
          led_length 0 0 x.lines,
        ) in
        let at_else : j + 1 ≡ f = omega (arith, hj.1, inside_length old mid C t h before more last a hx) in
        let front = old.out.code ++ (tested c f ++ led 0 0 x.lines) in
        let rest = led 0 0 y.lines in
        let split : old.out.code ++ (tested c f ++ (led 0 0 x.lines ++ Jump 0 ∷ rest)) ≡ front ++ Jump 0 ∷ rest = simp append_assoc in
        let joint : front ++ Jump end ∷ rest ≡ old.out.code ++ (tested c f ++ (led 0 0 x.lines ++ Jump end ∷ rest)) = simp append_assoc in
        let code : new.out.code ≡ old.out.code ++ led 0 0 (does (tested c f) ++ branch_lines x y end) =
        k.code
        ∙ (λ i. slice_set (slice_set (far_whole i) t.place (Branch t.value (at_else i))) j (Jump (far_length i)))
        ∙ (λ i. slice_set (inside_tested old mid C t h before more last a hx f (Jump 0 ∷ rest) i) (at_jump i) (Jump end))
        ∙ (λ i. slice_set (split i) (length front) (Jump end))
        ∙ set-append_seam front (Jump 0) rest (Jump end)
        ∙ joint
        ∙ (λ i. old.out.code ++ (tested c f ++ sym (else_led x y end) i))
        ∙ ap (λ l. old.out.code ++ l) (sym (led_behind 0 0 (tested c f) (branch_lines x y end))) in
        let most_registers : new.registers ≡ max old.registers (max c.register (max x.registers y.registers)) =
        k.most ∙ hy.0.most ∙ omega (arith, hj.0.most, hx.0.most, h.0.most) in
        let opened : most ≡ before ++ opens (length old.out.code) (does (tested c f) ++ branch_lines x y end) =
        hy.1
        ∙ (λ i. hx.1 i ++ opens (ready_length i) y.lines)
        ∙ append_assoc before (opens (length mid.out.code) x.lines) (opens f y.lines)
        ∙ (λ i. before ++ (opens (test_length old mid C t h i) x.lines ++ opens f y.lines))
        ∙ ap (λ os. before ++ os) (sym (else_opens (length old.out.code + length c.code + 1) x y end))
        ∙ ap (λ n. before ++ opens n (branch_lines x y end)) (omega (arith, length-append c.code (Branch c.result f ∷ [])))
        ∙ ap (λ os. before ++ os) (sym (opens_behind (length old.out.code) (tested c f) (branch_lines x y end))) in
        let made : StatementOutcome old before (if_else_made (length old.out.code) c x y) (Ok tt) new most =
        (record { added = code; most = most_registers; next_slot = k.slot ∙ hy.0.next_slot }, opened) in
        let turned : if_else_made (length old.out.code) c x y ≡ piece_at old (if_else_code C a b) =
        (λ i. if_else_made (length old.out.code) c x (behind_jump i))
        ∙ (λ i. if_else_made (length old.out.code) c (behind_test old mid C t h a i) (otherwise (length old.out.code) c (behind_test old mid C t h a i) b)) in
        subst (λ p. StatementOutcome old before p (Ok tt) new most) turned made

-- ---- where an `if` with `else` stops

module _ (old mid : Body) (C : Code) (a b : PieceCode) where
  all_length : length (led 0 0 (piece_at old (if_else_code C a b)).lines)
      ≡ length (made_at old C).code + 1 + length (guarded (length old.out.code) (made_at old C) a).lines + 1
      + length (otherwise (length old.out.code) (made_at old C) (guarded (length old.out.code) (made_at old C) a) b).lines
  all_length =
      let x = guarded (length old.out.code) (made_at old C) a in
      else_length old (made_at old C) x (otherwise (length old.out.code) (made_at old C) x b)

  pub else_stop : (e : Trouble) → TestOutcome old (made_at old C) (Err e) mid → Stops old.out (led 0 0 (piece_at old (if_else_code C a b)).lines) e
  else_stop Memory k = tt
  else_stop TooLong k = omega (arith, k, all_length, length-append (made_at old C).code (Branch (made_at old C).result 0 ∷ []))

  module _ (t : Test) (h : TestOutcome old (made_at old C) (Ok t) mid) where
    pub else_first : (e : Trouble) → Stops mid.out (led 0 0 (piece_at mid a).lines) e → Stops old.out (led 0 0 (piece_at old (if_else_code C a b)).lines) e
    else_first Memory k = tt
    else_first TooLong k =
        omega (arith, k, all_length, test_length old mid C t h, led_length 0 0 (piece_at mid a).lines, ap (λ p. length p.lines) (behind_test old mid C t h a))

    module _ (before more : List Open) (last : Body) (hx : StatementOutcome mid before (piece_at mid a) (Ok tt) last more) (ready : Body) where
      pub else_between : (e : Trouble) → JumpOutcome last (Err e) ready → Stops old.out (led 0 0 (piece_at old (if_else_code C a b)).lines) e
      else_between Memory k = tt
      else_between TooLong k =
          omega (arith, k, all_length, inside_length old mid C t h before more last a hx, ap (λ p. length p.lines) (behind_test old mid C t h a))

      pub else_second : (j : ℕ) (e : Trouble) → JumpOutcome last (Ok j) ready → Stops ready.out (led 0 0 (piece_at ready b).lines) e
          → Stops old.out (led 0 0 (piece_at old (if_else_code C a b)).lines) e
      else_second j Memory hj k = tt
      else_second j TooLong hj k =
          let x = guarded (length old.out.code) (made_at old C) a in
          let y = otherwise (length old.out.code) (made_at old C) x b in
          let same : piece_at ready b ≡ y =
          behind_jump old mid C t h before more last a b hx ready j hj
          ∙ (λ i. otherwise (length old.out.code) (made_at old C) (behind_test old mid C t h a i) b) in
          omega (
            arith,
            k,
            all_length,
            ready_length old mid C t h before more last a b hx ready j hj,
            led_length 0 0 (piece_at ready b).lines,
            ap (λ p. length p.lines) same,
            ap (λ p. length p.lines) (behind_test old mid C t h a),
          )

pub ruleset else_rows = (else_within, else_tested, if_else_row, else_stop, else_first, else_between, else_second)
