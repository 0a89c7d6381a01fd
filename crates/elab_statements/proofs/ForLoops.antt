-- What a `for` emits behind its first part, step by step.
use Rattle.std.proofs.Common.{◌≡◌, ◌∙◌, ℕ, ◌+◌, ◌<◌, ◌≤◌, max, List, [], ◌∷◌, ◌++◌, length, ap, refl, sym, subst, arith, append_assoc, length-append, Option, Some, None, Result, Ok, Err}
use Rattle.std.specs.Option.{option_map}
use Rattle.core_ir.specs.declared.instr.Instr.{Instr}
use Rattle.core_ir.specs.declared.instr.Instr.TheVariants.{Branch, Jump}
use Rattle.elab_rows.specs.Choices.{tested}
use Rattle.elab_emit.specs.Emits.{Stops}
use Rattle.elab_rows.specs.Made.{Code, Made}
use Rattle.elab_emit.specs.declared.emitter.Trouble.{Trouble}
use Rattle.elab_emit.specs.declared.emitter.Trouble.TheVariants.{TooLong, Memory}
use Rattle.elab_pieces.specs.Lines.{Piece, PieceCode, led}
use Rattle.elab_pieces.specs.Statements.{does, loop_code, loop_made, test_length, test_lines, test_registers, test_slot}
use Rattle.elab_statements.specs.declared.body.Body.{Body}
use Rattle.elab_statements.specs.declared.conditions.Test.{Test}
use Rattle.elab_statements.specs.declared.open.Open.{Open}
use Rattle.elab_statements.specs.inner.Expressions.{DoneOutcome, made_at}
use Rattle.elab_statements.specs.Bodies.{PieceOutcome, piece_at}
use Rattle.elab_statements.specs.inner.Jumps.{AreWithin, IsTest, IsWithin, LoopOutcome, OptionalTest, StatementOutcome, branched, closed}
use Rattle.elab_statements.proofs.Choices.{hole}
use Rattle.elab_statements.specs.inner.Pieces.{grown, led_does, led_length}
use Rattle.elab_statements.proofs.Lead.{opens_within}
use Rattle.elab_statements.proofs.Loops.{led_inside}

test_lines_length : (m : Option Made) (l : ℕ) → length (test_lines m l) ≡ test_length m
test_lines_length None l = refl
test_lines_length (Some c) l = length-append c.code (Branch c.result l ∷ [])

-- the branch of a condition stands in the code
test_inside : (old : Body) (m : Option Made) (t : Option Test) (n : ℕ) → IsTest old m t → length old.out.code + test_length m ≤ n → IsWithin n t
test_inside old None t n h k = subst (λ o. IsWithin n o) (sym h) tt
test_inside old (Some c) t n h k =
    let inside : length old.out.code + length c.code < n = omega (arith, k) in subst (λ o. IsWithin n o) (sym h) inside

loop_lines : (place : ℕ) (m : Option Made) (x : Piece) (s : Made)
    → length (led 0 0 (loop_made place m x s).lines) ≡ test_length m + length x.lines + length s.code + 1
loop_lines place m x s =
    let next = place + test_length m + length x.lines in
    let end = next + length s.code + 1 in
    ap length (led_does 0 0 (((test_lines m end ++ led end next x.lines) ++ s.code) ++ Jump place ∷ []))
    ∙ omega (
      arith,
      length-append ((test_lines m end ++ led end next x.lines) ++ s.code) (Jump place ∷ []),
      length-append (test_lines m end ++ led end next x.lines) s.code,
      length-append (test_lines m end) (led end next x.lines),
      test_lines_length m end,
      led_length end next x.lines,
    )

-- the branch of a condition in front is written
branched_front : (old : Body) (m : Option Made) (t : Option Test) (l : ℕ) (rest : List Instr) → IsTest old m t
    → branched ((old.out.code ++ test_lines m 0) ++ rest) t l ≡ (old.out.code ++ test_lines m l) ++ rest
branched_front old None t l rest h = ap (λ o. branched ((old.out.code ++ []) ++ rest) o l) h
branched_front old (Some c) t l rest h =
    ap (λ o. branched ((old.out.code ++ tested c 0) ++ rest) o l) h
    ∙ hole old.out.code c.code (Branch c.result 0) (Branch c.result l) rest (length old.out.code + length c.code) refl

module _ (old mid : Body) (m : Option Made) (t : Option Test) (h : OptionalTest old m (Ok t) mid) (a : PieceCode) (s : Code) where
  abbrev x : Piece
  x = piece_at mid a

  front_length : length mid.out.code ≡ length old.out.code + test_length m
  front_length = ap length h.0.added ∙ length-append old.out.code (test_lines m 0) ∙ ap (λ n. length old.out.code + n) (test_lines_length m 0)

  module _ (last : Body) (own : List Open) (hx : StatementOutcome mid [] x (Ok tt) last own) (ready : Body) where
    last_length : length last.out.code ≡ length old.out.code + test_length m + length x.lines
    last_length = grown mid x last hx.0 ∙ ap (λ n. n + length x.lines) front_length

  module _ (last : Body) (own : List Open) (hx : StatementOutcome mid [] x (Ok tt) last own) (ready : Body)
      (hs : DoneOutcome last (made_at last s) (Ok tt) ready) where
    abbrev step : Made
    step = made_at last s

    ready_length : length ready.out.code ≡ length old.out.code + test_length m + length x.lines + length step.code
    ready_length = ap length hs.added ∙ length-append last.out.code step.code ∙ ap (λ n. n + length step.code) (last_length last own hx ready)

    pub loop_within : AreWithin (length ready.out.code) own
    loop_within =
        subst (λ os. AreWithin (length ready.out.code) os) (sym hx.1)
        (opens_within (length mid.out.code) (length ready.out.code) x.lines (omega (arith, front_length, ready_length)))

    -- over what the codes of its parts are here
    made_loop : (new : Body) → LoopOutcome ready t own (length old.out.code) (length last.out.code) (Ok tt) new
        → PieceOutcome old (loop_made (length old.out.code) m x step) (Ok tt) new
    made_loop new k =
        let place = length old.out.code in
        let next = place + test_length m + length x.lines in
        let end = next + length step.code + 1 in
        let at_end : length ready.out.code + 1 ≡ end = ap (λ n. n + 1) ready_length in
        let rest = led end next x.lines ++ (step.code ++ Jump place ∷ []) in
        let whole : ready.out.code ++ Jump place ∷ [] ≡ last.out.code ++ (step.code ++ Jump place ∷ []) =
        ap (λ c. c ++ Jump place ∷ []) hs.added ∙ append_assoc last.out.code step.code (Jump place ∷ []) in
        let all = ((test_lines m end ++ led end next x.lines) ++ step.code) ++ Jump place ∷ [] in
        let lines : (old.out.code ++ test_lines m end) ++ rest ≡ old.out.code ++ all = simp append_assoc in
        let code : new.out.code ≡ old.out.code ++ led 0 0 (does all) =
        k.code
        ∙ (λ i. branched (closed (whole i) own (at_end i) (last_length last own hx ready i)) t (at_end i))
        ∙ ap (λ c. branched c t end) (led_inside mid last x own (step.code ++ Jump place ∷ []) end next hx ∙ ap (λ c. c ++ rest) h.0.added)
        ∙ branched_front old m t end rest h.1
        ∙ lines ∙ ap (λ c. old.out.code ++ c) (sym (led_does 0 0 all)) in
        let most : new.registers ≡ max old.registers (max (test_registers m) (max x.registers step.register)) =
        k.most ∙ hs.most ∙ omega (arith, hx.0.most, h.0.most) in
        record { added = code; most = most; next_slot = k.slot ∙ hs.next_slot }

-- ---- a `for` behind its first part

module _ (old mid : Body) (C : Option Code) (a : PieceCode) (s : Code) where
  abbrev m : Option Made
  m = option_map (made_at old) C

  abbrev whole : Piece
  whole = piece_at old (loop_code C a s)

  abbrev inside : Piece
  inside = a (length old.out.code + test_length m) (test_slot m old.out.slot)

  abbrev next : Made
  next = s (length old.out.code + test_length m + length inside.lines) 0 inside.slot

  pub loop_stop : (e : Trouble) → OptionalTest old m (Err e) mid → Stops old.out (led 0 0 whole.lines) e
  loop_stop Memory k = tt
  loop_stop TooLong k = omega (arith, k, test_lines_length m 0, loop_lines (length old.out.code) m inside next)

  module _ (t : Option Test) (h : OptionalTest old m (Ok t) mid) where
    same_inside : piece_at mid a ≡ inside
    same_inside = λ i. a (front_length old mid m t h a s i) (h.0.next_slot i)

    pub loop_first : (e : Trouble) → Stops mid.out (led 0 0 (piece_at mid a).lines) e → Stops old.out (led 0 0 whole.lines) e
    loop_first Memory k = tt
    loop_first TooLong k =
        omega (
          arith,
          k,
          front_length old mid m t h a s,
          led_length 0 0 (piece_at mid a).lines,
          ap (λ p. length p.lines) same_inside,
          loop_lines (length old.out.code) m inside next,
        )

    module _ (last : Body) (own : List Open) (hx : StatementOutcome mid [] (piece_at mid a) (Ok tt) last own) (ready : Body) where
      same_next : made_at last s ≡ next
      same_next =
          (λ i. s (last_length old mid m t h a s last own hx ready i) 0 (hx.0.next_slot i))
          ∙ (λ i. s (length old.out.code + test_length m + length (same_inside i).lines) 0 (same_inside i).slot)

      pub loop_late : (e : Trouble) → DoneOutcome last (made_at last s) (Err e) ready → Stops old.out (led 0 0 whole.lines) e
      loop_late Memory k = tt
      loop_late TooLong k =
          omega (
            arith,
            k,
            last_length old mid m t h a s last own hx ready,
            ap (λ p. length p.lines) same_inside,
            ap (λ n. length n.code) same_next,
            loop_lines (length old.out.code) m inside next,
          )

      module _ (hs : DoneOutcome last (made_at last s) (Ok tt) ready) where
        pub loop_jumps : AreWithin (length ready.out.code) own
        loop_jumps = loop_within old mid m t h a s last own hx ready hs

        pub loop_test : IsWithin (length ready.out.code) t
        loop_test = test_inside old m t (length ready.out.code) h.1 (omega (arith, ready_length old mid m t h a s last own hx ready hs))

        pub loop_end : (new : Body) (e : Trouble) → LoopOutcome ready t own (length old.out.code) (length last.out.code) (Err e) new
            → Stops old.out (led 0 0 whole.lines) e
        loop_end new Memory k = tt
        loop_end new TooLong k =
            omega (
              arith,
              k,
              ready_length old mid m t h a s last own hx ready hs,
              ap (λ p. length p.lines) same_inside,
              ap (λ n. length n.code) same_next,
              loop_lines (length old.out.code) m inside next,
            )

        pub loop_row : (new : Body) → LoopOutcome ready t own (length old.out.code) (length last.out.code) (Ok tt) new
            → PieceOutcome old whole (Ok tt) new
        loop_row new k =
            let turned : loop_made (length old.out.code) m (piece_at mid a) (made_at last s) ≡ whole =
            λ i. loop_made (length old.out.code) m (same_inside i) (same_next i) in
            subst (λ p. PieceOutcome old p (Ok tt) new) turned (made_loop old mid m t h a s last own hx ready hs new k)

        -- over what the code has in place of these
        pub loop_done : (jumps : List Open) (from to : ℕ) → jumps ≡ own → from ≡ length old.out.code → to ≡ length last.out.code
            → (r : Result (Unit {0}) Trouble) (new : Body) → LoopOutcome ready t jumps from to r new → PieceOutcome old whole r new
        loop_done jumps from to ej ef et (Ok u) new k =
            loop_row new (subst (λ (p : List Open × ℕ × ℕ). LoopOutcome ready t p.0 p.1 p.2 (Ok tt) new) (λ i. (ej i, ef i, et i)) k)
        loop_done jumps from to ej ef et (Err e) new k =
            loop_end new e (subst (λ (p : List Open × ℕ × ℕ). LoopOutcome ready t p.0 p.1 p.2 (Err e) new) (λ i. (ej i, ef i, et i)) k)

pub ruleset loop_rows = (loop_stop, loop_first, loop_late, loop_jumps, loop_test, loop_end, loop_row)
