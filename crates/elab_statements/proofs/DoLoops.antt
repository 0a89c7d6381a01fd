-- What `do` emits, step by step.
use Rattle.std.proofs.Common.{◌≡◌, ◌∙◌, ℕ, ◌+◌, max, List, [], ◌∷◌, ◌++◌, length, ap, sym, subst, arith, append_assoc, length-append, Result, Ok, Err}
use Rattle.core_ir.specs.declared.instr.Instr.TheVariants.{Branch, Jump}
use Rattle.elab_rows.specs.Choices.{tested}
use Rattle.elab_emit.specs.Emits.{Stops}
use Rattle.elab_rows.specs.Made.{Code, Made}
use Rattle.elab_emit.specs.declared.emitter.Trouble.{Trouble}
use Rattle.elab_emit.specs.declared.emitter.Trouble.TheVariants.{TooLong, Memory}
use Rattle.elab_pieces.specs.Lines.{Piece, PieceCode, led}
use Rattle.elab_pieces.specs.Statements.{do_code, do_made}
use Rattle.elab_statements.specs.declared.body.Body.{Body}
use Rattle.elab_statements.specs.declared.open.Open.{Open}
use Rattle.elab_statements.specs.inner.Expressions.{FullOutcome, made_at}
use Rattle.elab_statements.specs.Bodies.{PieceOutcome, piece_at}
use Rattle.elab_statements.specs.inner.Jumps.{AreWithin, DoOutcome, StatementOutcome, closed}
use Rattle.elab_statements.specs.inner.Pieces.{grown, led_does, led_length, max_assoc}
use Rattle.elab_statements.proofs.Lead.{opens_within}
use Rattle.elab_statements.proofs.Loops.{led_inside}

do_lines : (old : Body) (x : Piece) (c : Made) → length (led 0 0 (do_made (length old.out.code) x c).lines) ≡ length x.lines + length c.code + 2
do_lines old x c =
    let place = length old.out.code in
    let next = place + length x.lines in
    let end = next + length c.code + 2 in
    ap length (led_does 0 0 ((led end next x.lines ++ tested c end) ++ Jump place ∷ []))
    ∙ omega (
      arith,
      length-append (led end next x.lines ++ tested c end) (Jump place ∷ []),
      length-append (led end next x.lines) (tested c end),
      length-append c.code (Branch c.result end ∷ []),
      led_length end next x.lines,
    )

module _ (old mid : Body) (C : Code) (a : PieceCode) (own : List Open) where
  abbrev inside : Piece
  inside = piece_at old a

  abbrev test : Made
  test = C (length old.out.code + length inside.lines) 0 inside.slot

  pub do_stop : (e : Trouble) → StatementOutcome old [] inside (Err e) mid own → Stops old.out (led 0 0 (piece_at old (do_code a C)).lines) e
  do_stop Memory k = tt
  do_stop TooLong k = omega (arith, k, led_length 0 0 inside.lines, do_lines old inside test)

  module _ (hx : StatementOutcome old [] inside (Ok tt) mid own) where
    same_test : made_at mid C ≡ test
    same_test = λ i. C (grown old inside mid hx.0 i) 0 (hx.0.next_slot i)

    module _ (last : Body) where
      pub do_late : (e : Trouble) → FullOutcome mid (made_at mid C) (Err e) last → Stops old.out (led 0 0 (piece_at old (do_code a C)).lines) e
      do_late Memory k = tt
      do_late TooLong k =
          omega (arith, k, grown old inside mid hx.0, ap (λ m. length m.code) same_test, do_lines old inside test)

      module _ (r : ℕ) (h : FullOutcome mid (made_at mid C) (Ok r) last) where
        last_length : length last.out.code ≡ length old.out.code + length inside.lines + length test.code
        last_length =
            ap length h.0.added ∙ length-append mid.out.code (made_at mid C).code
            ∙ (λ i. grown old inside mid hx.0 i + length (same_test i).code)

        pub do_within : AreWithin (length last.out.code) own
        do_within =
            subst (λ os. AreWithin (length last.out.code) os) (sym hx.1)
            (opens_within (length old.out.code) (length last.out.code) inside.lines (omega (arith, last_length)))

        pub do_end : (new : Body) (e : Trouble) → DoOutcome last r own (length old.out.code) (length mid.out.code) (Err e) new
            → Stops old.out (led 0 0 (piece_at old (do_code a C)).lines) e
        do_end new Memory k = tt
        do_end new TooLong k = omega (arith, k, last_length, do_lines old inside test)

        pub do_row : (new : Body) → DoOutcome last r own (length old.out.code) (length mid.out.code) (Ok tt) new
            → PieceOutcome old (piece_at old (do_code a C)) (Ok tt) new
        do_row new k =
            let x = inside in
            let c = test in
            let place = length old.out.code in
            let next = place + length x.lines in
            let end = next + length c.code + 2 in
            let at_end : length last.out.code + 2 ≡ end = ap (λ n. n + 2) last_length in
            let rest = c.code ++ Branch c.result end ∷ Jump place ∷ [] in
            let whole : last.out.code ++ Branch r (length last.out.code + 2) ∷ Jump place ∷ [] ≡ mid.out.code ++ rest =
            (λ i. h.0.added i ++ Branch (h.1 i) (at_end i) ∷ Jump place ∷ [])
            ∙ append_assoc mid.out.code (made_at mid C).code (Branch (made_at mid C).result end ∷ Jump place ∷ [])
            ∙ ap (λ m. mid.out.code ++ (m.code ++ Branch m.result end ∷ Jump place ∷ [])) same_test in
            let lines : led end next x.lines ++ rest ≡ (led end next x.lines ++ tested c end) ++ Jump place ∷ [] = simp append_assoc in
            let code : new.out.code ≡ old.out.code ++ led 0 0 (do_made place x c).lines =
            k.code
            ∙ (λ i. closed (whole i) own (at_end i) (grown old inside mid hx.0 i))
            ∙ led_inside old mid x own rest end next hx
            ∙ ap (λ m. old.out.code ++ m) (lines ∙ sym (led_does 0 0 ((led end next x.lines ++ tested c end) ++ Jump place ∷ []))) in
            let most : new.registers ≡ max old.registers (max x.registers c.register) =
            k.most ∙ h.0.most ∙ (λ i. max (hx.0.most i) (same_test i).register) ∙ max_assoc old.registers x.registers c.register in
            record { added = code; most = most; next_slot = k.slot ∙ h.0.next_slot ∙ ap (λ m. m.slot) same_test }

        -- over what the code has in place of these
        pub do_done : (jumps : List Open) (from to : ℕ) → jumps ≡ own → from ≡ length old.out.code → to ≡ length mid.out.code
            → (f : Result (Unit {0}) Trouble) (new : Body) → DoOutcome last r jumps from to f new → PieceOutcome old (piece_at old (do_code a C)) f new
        do_done jumps from to ej ef et (Ok u) new k =
            do_row new (subst (λ (p : List Open × ℕ × ℕ). DoOutcome last r p.0 p.1 p.2 (Ok tt) new) (λ i. (ej i, ef i, et i)) k)
        do_done jumps from to ej ef et (Err e) new k =
            do_end new e (subst (λ (p : List Open × ℕ × ℕ). DoOutcome last r p.0 p.1 p.2 (Err e) new) (λ i. (ej i, ef i, et i)) k)

pub ruleset do_rows = (do_stop, do_late, do_within, do_end, do_row)
