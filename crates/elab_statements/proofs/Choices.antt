-- What `if` emits, step by step.
use Rattle.std.proofs.Common.{◌≡◌, ◌∙◌, ℕ, ◌+◌, ◌<◌, ◌≤◌, max, List, [], ◌∷◌, ◌++◌, length, ap, sym, subst, arith, append_assoc, append-nil, length-append, Ok, Err}
use Rattle.std.specs.Prelude.{slice_set}
use Rattle.std.proofs.Math.Seq.{set-append_seam}
use Rattle.core_ir.specs.declared.instr.Instr.{Instr}
use Rattle.core_ir.specs.declared.instr.Instr.TheVariants.{Branch}
use Rattle.elab_rows.specs.Choices.{tested}
use Rattle.elab_emit.specs.Emits.{Stops}
use Rattle.elab_rows.specs.Made.{Code, Made}
use Rattle.elab_emit.specs.declared.emitter.Trouble.{Trouble}
use Rattle.elab_emit.specs.declared.emitter.Trouble.TheVariants.{TooLong, Memory}
use Rattle.elab_pieces.specs.Lines.{Piece, PieceCode, led}
use Rattle.elab_pieces.specs.Statements.{does, guarded, if_code, if_made}
use Rattle.elab_statements.specs.declared.body.Body.{Body}
use Rattle.elab_statements.specs.declared.conditions.Test.{Test}
use Rattle.elab_statements.specs.declared.open.Open.{Open}
use Rattle.elab_statements.specs.inner.Expressions.{made_at}
use Rattle.elab_statements.specs.Bodies.{piece_at}
use Rattle.elab_statements.specs.inner.Jumps.{Rewritten, StatementOutcome, TestOutcome, if_end, opens}
use Rattle.elab_statements.specs.inner.Pieces.{grown, led_length, max_assoc}
use Rattle.elab_statements.proofs.Lead.{led_behind, opens_behind}

-- one write into the middle
pub hole : (front c : List Instr) (i j : Instr) (rest : List Instr) (n : ℕ) → n ≡ length front + length c
    → slice_set ((front ++ (c ++ i ∷ [])) ++ rest) n j ≡ (front ++ (c ++ j ∷ [])) ++ rest
hole front c i j rest n e =
    let e1 : (front ++ (c ++ i ∷ [])) ++ rest ≡ (front ++ c) ++ i ∷ rest = simp append_assoc in
    let e2 : (front ++ c) ++ j ∷ rest ≡ (front ++ (c ++ j ∷ [])) ++ rest = simp append_assoc in
    let m : n ≡ length (front ++ c) = omega (arith, e, length-append front c) in
    (λ k. slice_set (e1 k) (m k) j) ∙ set-append_seam (front ++ c) i rest j ∙ e2

-- with fewer instructions it would stop already
pub stops_before : (old : Body) (c d : List Instr) (e : Trouble) → length c ≤ length d → Stops old.out c e → Stops old.out d e
stops_before old c d TooLong n h = omega (arith, n, h)
stops_before old c d Memory n h = tt

-- ---- behind a condition and its branch

module _ (old mid : Body) (C : Code) (t : Test) (h : TestOutcome old (made_at old C) (Ok t) mid) where
  abbrev c : Made
  c = made_at old C

  pub test_length : length mid.out.code ≡ length old.out.code + length c.code + 1
  test_length = omega (arith, ap length h.0.added, length-append old.out.code (tested c 0), length-append c.code (Branch c.result 0 ∷ []))

  pub behind_test : (a : PieceCode) → piece_at mid a ≡ guarded (length old.out.code) c a
  behind_test a = λ i. a (test_length i) (h.0.next_slot i)

  module _ (before more : List Open) (last : Body) (a : PieceCode) (hx : StatementOutcome mid before (piece_at mid a) (Ok tt) last more) where
    abbrev inside : Piece
    inside = piece_at mid a

    pub inside_length : length last.out.code ≡ length old.out.code + length c.code + 1 + length inside.lines
    inside_length = grown mid inside last hx.0 ∙ ap (λ n. n + length inside.lines) test_length

    pub inside_whole : last.out.code ≡ (old.out.code ++ tested c 0) ++ led 0 0 inside.lines
    inside_whole = hx.0.added ∙ ap (λ l. l ++ led 0 0 inside.lines) h.0.added

    pub test_within : t.place < length last.out.code
    test_within = omega (arith, h.2, inside_length)

    -- the branch is written
    pub inside_tested : (l : ℕ) (rest : List Instr) → slice_set (last.out.code ++ rest) t.place (Branch t.value l)
        ≡ old.out.code ++ (tested c l ++ (led 0 0 inside.lines ++ rest))
    inside_tested l rest =
        let e1 : last.out.code ++ rest ≡ (old.out.code ++ tested c 0) ++ (led 0 0 inside.lines ++ rest) =
        ap (λ x. x ++ rest) inside_whole ∙ append_assoc (old.out.code ++ tested c 0) (led 0 0 inside.lines) rest in
        (λ i. slice_set (e1 i) t.place (Branch (h.1 i) l))
        ∙ hole old.out.code c.code (Branch c.result 0) (Branch c.result l) (led 0 0 inside.lines ++ rest) t.place h.2
        ∙ append_assoc old.out.code (tested c l) (led 0 0 inside.lines ++ rest)

    pub if_row : (new : Body) → Rewritten last (if_end last t) new → StatementOutcome old before (piece_at old (if_code C a)) (Ok tt) new more
    if_row new he =
        let x = inside in
        let end = length old.out.code + length c.code + 1 + length x.lines in
        let code : new.out.code ≡ old.out.code ++ led 0 0 (does (tested c end) ++ x.lines) =
        he.code ∙ (λ i. slice_set (sym (append-nil last.out.code) i) t.place (Branch t.value (inside_length i)))
        ∙ inside_tested end [] ∙ (λ i. old.out.code ++ (tested c end ++ append-nil (led 0 0 x.lines) i))
        ∙ ap (λ l. old.out.code ++ l) (sym (led_behind 0 0 (tested c end) x.lines)) in
        let most : new.registers ≡ max old.registers (max c.register x.registers) =
        he.most ∙ hx.0.most ∙ ap (λ n. max n x.registers) h.0.most ∙ max_assoc old.registers c.register x.registers in
        let opened : more ≡ before ++ opens (length old.out.code) (does (tested c end) ++ x.lines) =
        hx.1 ∙ ap (λ n. before ++ opens n x.lines) (test_length ∙ omega (arith, length-append c.code (Branch c.result end ∷ [])))
        ∙ ap (λ os. before ++ os) (sym (opens_behind (length old.out.code) (tested c end) x.lines)) in
        let made : StatementOutcome old before (if_made (length old.out.code) c x) (Ok tt) new more =
        (record { added = code; most = most; next_slot = he.slot ∙ hx.0.next_slot }, opened) in
        subst (λ p. StatementOutcome old before (if_made (length old.out.code) c p) (Ok tt) new more) (behind_test a) made

-- ---- where an `if` stops

module _ (old mid : Body) (C : Code) (a : PieceCode) (before : List Open) where
  if_lines : (x : Piece) → length (led 0 0 (if_made (length old.out.code) (made_at old C) x).lines) ≡ length (made_at old C).code + 1 + length x.lines
  if_lines x =
      let c = made_at old C in
      let l = length old.out.code + length c.code + 1 + length x.lines in
      ap length (led_behind 0 0 (tested c l) x.lines)
      ∙ omega (arith, length-append (tested c l) (led 0 0 x.lines), length-append c.code (Branch c.result l ∷ []), led_length 0 0 x.lines)

  pub if_stop : (e : Trouble) → TestOutcome old (made_at old C) (Err e) mid → Stops old.out (led 0 0 (piece_at old (if_code C a)).lines) e
  if_stop e k =
      let c = made_at old C in
      let x = guarded (length old.out.code) c a in
      stops_before old (tested c 0) (led 0 0 (if_made (length old.out.code) c x).lines) e
      (omega (arith, if_lines x, length-append c.code (Branch c.result 0 ∷ []))) k

  pub if_late : (t : Test) (e : Trouble) → TestOutcome old (made_at old C) (Ok t) mid → Stops mid.out (led 0 0 (piece_at mid a).lines) e
      → Stops old.out (led 0 0 (piece_at old (if_code C a)).lines) e
  if_late t Memory h k = tt
  if_late t TooLong h k =
      let c = made_at old C in
      let x = guarded (length old.out.code) c a in
      omega (
        arith,
        k,
        ap (λ p. length (led 0 0 p.lines)) (behind_test old mid C t h a),
        led_length 0 0 x.lines,
        test_length old mid C t h,
        if_lines x,
      )

pub ruleset if_rows = (test_within, if_row, if_stop, if_late)
