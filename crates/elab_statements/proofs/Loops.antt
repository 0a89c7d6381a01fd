-- What loops emit, step by step.
use Rattle.std.proofs.Common.{◌≡◌, ◌∙◌, ℕ, ◌+◌, max, List, [], ◌∷◌, ◌++◌, length, ap, sym, subst, arith, append_assoc, length-append, Some, Result, Ok, Err}
use Rattle.std.specs.Prelude.{slice_set}
use Rattle.core_ir.specs.declared.instr.Instr.{Instr}
use Rattle.core_ir.specs.declared.instr.Instr.TheVariants.{Branch, Jump}
use Rattle.elab_rows.specs.Choices.{tested}
use Rattle.elab_emit.specs.Emits.{Stops}
use Rattle.elab_rows.specs.Made.{Code}
use Rattle.elab_emit.specs.declared.emitter.Trouble.{Trouble}
use Rattle.elab_emit.specs.declared.emitter.Trouble.TheVariants.{TooLong, Memory}
use Rattle.elab_pieces.specs.Lines.{Piece, PieceCode, led}
use Rattle.elab_pieces.specs.Statements.{guarded, while_code, while_made}
use Rattle.elab_statements.specs.declared.body.Body.{Body}
use Rattle.elab_statements.specs.declared.conditions.Test.{Test}
use Rattle.elab_statements.specs.declared.open.Open.{Open}
use Rattle.elab_statements.specs.Bodies.{PieceOutcome, piece_at}
use Rattle.elab_statements.specs.inner.Expressions.{made_at}
use Rattle.elab_statements.specs.inner.Jumps.{AreWithin, LoopOutcome, StatementOutcome, TestOutcome, closed, opens}
use Rattle.elab_statements.proofs.Choices.{behind_test, hole, inside_length, stops_before, test_length}
use Rattle.elab_statements.specs.inner.Pieces.{grown, led_does, led_length, max_assoc}
use Rattle.elab_statements.proofs.Lead.{lead, opens_within}

-- a loop's own open jumps stand in its code
pub own_within : (mid last : Body) (x : Piece) (own : List Open) → StatementOutcome mid [] x (Ok tt) last own → AreWithin (length last.out.code) own
own_within mid last x own h =
    let e : own ≡ opens (length mid.out.code) x.lines = h.1 in
    subst (λ os. AreWithin (length last.out.code) os) (sym e)
    (opens_within (length mid.out.code) (length last.out.code) x.lines (omega (arith, grown mid x last h.0)))

-- the jumps of a loop's statement are written
pub led_inside : (mid last : Body) (x : Piece) (own : List Open) (rest : List Instr) (end next : ℕ)
    → StatementOutcome mid [] x (Ok tt) last own
    → closed (last.out.code ++ rest) own end next ≡ mid.out.code ++ (led end next x.lines ++ rest)
led_inside mid last x own rest end next h =
    let e : last.out.code ++ rest ≡ mid.out.code ++ (led 0 0 x.lines ++ rest) =
    ap (λ c. c ++ rest) h.0.added ∙ append_assoc mid.out.code (led 0 0 x.lines) rest in
    (λ i. closed (e i) (h.1 i) end next) ∙ lead end next mid.out.code x.lines rest

while_lines : (old : Body) (C : Code) (x : Piece) → length (led 0 0 (while_made (length old.out.code) (made_at old C) x).lines) ≡ length (made_at old C).code + 1 + length x.lines + 1
while_lines old C x =
    let c = made_at old C in
    let place = length old.out.code in
    let end = place + length c.code + 1 + length x.lines + 1 in
    let all = (tested c end ++ led end place x.lines) ++ Jump place ∷ [] in
    ap length (led_does 0 0 all)
    ∙ omega (
      arith,
      length-append (tested c end ++ led end place x.lines) (Jump place ∷ []),
      length-append (tested c end) (led end place x.lines),
      length-append c.code (Branch c.result end ∷ []),
      led_length end place x.lines,
    )

module _ (old mid last : Body) (C : Code) (t : Test) (a : PieceCode) (own : List Open)
    (h : TestOutcome old (made_at old C) (Ok t) mid) (hx : StatementOutcome mid [] (piece_at mid a) (Ok tt) last own) where
  pub while_row : (new : Body) → LoopOutcome last (Some t) own (length old.out.code) (length old.out.code) (Ok tt) new
      → PieceOutcome old (piece_at old (while_code C a)) (Ok tt) new
  while_row new k =
      let c = made_at old C in
      let x = piece_at mid a in
      let place = length old.out.code in
      let end = place + length c.code + 1 + length x.lines + 1 in
      let at_end : length last.out.code + 1 ≡ end = ap (λ n. n + 1) (inside_length old mid C t h [] own last a hx) in
      let rest = led end place x.lines ++ Jump place ∷ [] in
      let front : mid.out.code ++ rest ≡ (old.out.code ++ tested c 0) ++ rest = ap (λ m. m ++ rest) h.0.added in
      let lines : tested c end ++ rest ≡ (tested c end ++ led end place x.lines) ++ Jump place ∷ [] =
      sym (append_assoc (tested c end) (led end place x.lines) (Jump place ∷ [])) in
      let code : new.out.code ≡ old.out.code ++ led 0 0 (while_made place c x).lines =
      k.code
      ∙ (λ i. slice_set (closed (last.out.code ++ Jump place ∷ []) own (at_end i) place) t.place (Branch (h.1 i) (at_end i)))
      ∙ ap (λ m. slice_set m t.place (Branch c.result end)) (led_inside mid last x own (Jump place ∷ []) end place hx ∙ front)
      ∙ hole old.out.code c.code (Branch c.result 0) (Branch c.result end) rest t.place h.2
      ∙ append_assoc old.out.code (tested c end) rest
      ∙ ap (λ m. old.out.code ++ m) (lines ∙ sym (led_does 0 0 ((tested c end ++ led end place x.lines) ++ Jump place ∷ []))) in
      let most : new.registers ≡ max old.registers (max c.register x.registers) =
      k.most ∙ hx.0.most ∙ ap (λ n. max n x.registers) h.0.most ∙ max_assoc old.registers c.register x.registers in
      let made : PieceOutcome old (while_made place c x) (Ok tt) new =
      record { added = code; most = most; next_slot = k.slot ∙ hx.0.next_slot } in
      subst (λ p. PieceOutcome old (while_made place c p) (Ok tt) new) (behind_test old mid C t h a) made

  pub while_end : (new : Body) (e : Trouble) → LoopOutcome last (Some t) own (length old.out.code) (length old.out.code) (Err e) new
      → Stops old.out (led 0 0 (piece_at old (while_code C a)).lines) e
  while_end new Memory k = tt
  while_end new TooLong k =
      omega (
        arith,
        k,
        inside_length old mid C t h [] own last a hx,
        while_lines old C (guarded (length old.out.code) (made_at old C) a),
        ap (λ p. length p.lines) (behind_test old mid C t h a),
      )

  -- over what the code has in place of these
  pub while_done : (jumps : List Open) (from to : ℕ) → jumps ≡ own → from ≡ length old.out.code → to ≡ length old.out.code
      → (r : Result (Unit {0}) Trouble) (new : Body) → LoopOutcome last (Some t) jumps from to r new → PieceOutcome old (piece_at old (while_code C a)) r new
  while_done jumps from to ej ef et (Ok u) new k =
      while_row new (subst (λ (p : List Open × ℕ × ℕ). LoopOutcome last (Some t) p.0 p.1 p.2 (Ok tt) new) (λ i. (ej i, ef i, et i)) k)
  while_done jumps from to ej ef et (Err e) new k =
      while_end new e (subst (λ (p : List Open × ℕ × ℕ). LoopOutcome last (Some t) p.0 p.1 p.2 (Err e) new) (λ i. (ej i, ef i, et i)) k)

-- ---- where a `while` stops

module _ (old mid : Body) (C : Code) (a : PieceCode) where
  pub while_stop : (e : Trouble) → TestOutcome old (made_at old C) (Err e) mid → Stops old.out (led 0 0 (piece_at old (while_code C a)).lines) e
  while_stop e k =
      let c = made_at old C in
      let x = guarded (length old.out.code) c a in
      stops_before old (tested c 0) (led 0 0 (while_made (length old.out.code) c x).lines) e
      (omega (arith, while_lines old C x, length-append c.code (Branch c.result 0 ∷ []))) k

  pub while_late : (t : Test) (e : Trouble) → TestOutcome old (made_at old C) (Ok t) mid → Stops mid.out (led 0 0 (piece_at mid a).lines) e
      → Stops old.out (led 0 0 (piece_at old (while_code C a)).lines) e
  while_late t Memory h k = tt
  while_late t TooLong h k =
      let c = made_at old C in
      let x = guarded (length old.out.code) c a in
      omega (
        arith,
        k,
        ap (λ p. length (led 0 0 p.lines)) (behind_test old mid C t h a),
        led_length 0 0 x.lines,
        test_length old mid C t h,
        while_lines old C x,
      )

pub ruleset while_rows = (own_within, while_row, while_end, while_stop, while_late)
