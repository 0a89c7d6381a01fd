-- Jumps at holes are written once their places are known.
use Rattle.std.proofs.Common.{◌≡◌, ◌∙◌, ℕ, ◌+◌, List, [], ◌∷◌, ◌++◌, length, ap, arith, append_assoc, length-append, length-set, Result, Ok, Err}
use Rattle.std.specs.Prelude.{slice_set}
use Rattle.std.proofs.Math.Seq.{set-append_seam}
use Rattle.core_ir.specs.declared.instr.Instr.{Instr}
use Rattle.core_ir.specs.declared.instr.Instr.TheVariants.{Branch, GetLocal, Jump, SetLocal}
use Rattle.elab_emit.specs.declared.emitter.Emitter.{Emitter}
use Rattle.elab_emit.specs.declared.emitter.Trouble.{Trouble}
use Rattle.elab_emit.specs.declared.emitter.Trouble.TheVariants.{TooLong, Memory}
use Rattle.elab_rows.specs.Choices.{and_made, conditional_made, or_made, truth_lines}
use Rattle.elab_emit.specs.Emits.{Adds, Outcome}
use Rattle.elab_rows.specs.Made.{Made}
use Rattle.elab_emit.specs.Holes.{AndOutcome, ArmsOutcome, KeptOutcome, OrOutcome, TestedOutcome, and_end, arms_end, opened}

-- one write into the middle
pub seam : (base c y rest : List Instr) (i j : Instr)
    → slice_set ((((base ++ c) ++ i ∷ []) ++ y) ++ rest) (length (base ++ c)) j ≡ base ++ (((c ++ j ∷ []) ++ y) ++ rest)
seam base c y rest i j =
    let e1 : (((base ++ c) ++ i ∷ []) ++ y) ++ rest ≡ (base ++ c) ++ i ∷ (y ++ rest) = simp append_assoc in
    let e2 : (base ++ c) ++ j ∷ (y ++ rest) ≡ base ++ (((c ++ j ∷ []) ++ y) ++ rest) = simp append_assoc in
    ap (λ l. slice_set l (length (base ++ c)) j) e1 ∙ set-append_seam (base ++ c) i (y ++ rest) j ∙ e2

module _ (old mid ready last new : Emitter) (x y : Made) (rx ry : ℕ)
    (hx : Outcome old x (Ok rx) mid) (ho : Adds mid (Branch rx 0 ∷ []) mid.register mid.slot ready) (hy : Outcome ready y (Ok ry) last) where
  and_whole : last.code ≡ ((old.code ++ x.code) ++ Branch rx 0 ∷ []) ++ y.code
  and_whole = hy.0.added ∙ ap (λ c. c ++ y.code) (ho.added ∙ ap (λ c. c ++ Branch rx 0 ∷ []) hx.0.added)

  and_place : length last.code + 4 ≡ length old.code + length x.code + 1 + length y.code + 4
  and_place = omega (arith, ap length hy.0.added, length-append ready.code y.code, ap length ho.added, length-append mid.code (Branch rx 0 ∷ []), ap length hx.0.added, length-append old.code x.code)

  and_patched : slice_set (last.code ++ and_end last ry) (length mid.code) (Branch rx (length last.code + 4))
      ≡ old.code ++ (and_made (length old.code) x y).code
  and_patched =
      let f = length last.code + 4 in
      let rest = and_end last ry in
      let e1 = ap (λ c. slice_set (c ++ rest) (length mid.code) (Branch rx f)) and_whole in
      let e2 = ap (λ c. slice_set ((((old.code ++ x.code) ++ Branch rx 0 ∷ []) ++ y.code) ++ rest) (length c) (Branch rx f)) hx.0.added in
      let e3 = seam old.code x.code y.code rest (Branch rx 0) (Branch rx f) in
      let e4 : old.code ++ (((x.code ++ Branch rx f ∷ []) ++ y.code) ++ rest)
      ≡ old.code ++ (((x.code ++ Branch x.result (length old.code + length x.code + 1 + length y.code + 4) ∷ []) ++ y.code)
      ++ Branch y.result (length old.code + length x.code + 1 + length y.code + 4)
      ∷ truth_lines y.register y.slot (length old.code + length x.code + 1 + length y.code + 4)) =
      λ i. old.code ++ (((x.code ++ Branch (hx.1 i) (and_place i) ∷ []) ++ y.code)
      ++ Branch (hy.1 i) (and_place i) ∷ truth_lines (hy.0.next_register i) (hy.0.next_slot i) (and_place i)) in
      let g = length old.code + length x.code + 1 + length y.code + 4 in
      let e5 : old.code ++ (((x.code ++ Branch x.result g ∷ []) ++ y.code) ++ Branch y.result g ∷ truth_lines y.register y.slot g)
      ≡ old.code ++ (and_made (length old.code) x y).code =
      ap (λ c. old.code ++ c) (simp append_assoc) in
      e1 ∙ e2 ∙ e3 ∙ e4 ∙ e5

  -- the whole row, or why it isn't there
  pub and_outcome : (r : Result ℕ Trouble) → AndOutcome last (length mid.code) rx ry r new → Outcome old (and_made (length old.code) x y) r new
  and_outcome (Ok r) h = (
    record {
      added = h.0 ∙ and_patched;
      next_register = h.1 ∙ ap (λ n. n + 3) hy.0.next_register;
      next_slot = h.2 ∙ ap (λ n. n + 1) hy.0.next_slot;
    },
    h.3 ∙ ap (λ n. n + 2) hy.0.next_register,
  )
  and_outcome (Err Memory) h = tt
  and_outcome (Err TooLong) h =
      omega (
        arith,
        h,
        ap length and_patched,
        length-set (last.code ++ and_end last ry) (length mid.code) (Branch rx (length last.code + 4)),
        length-append last.code (and_end last ry),
        length-append old.code (and_made (length old.code) x y).code,
      )

module _ (old mid ready last new : Emitter) (x y : Made) (rx ry jump : ℕ)
    (hx : Outcome old x (Ok rx) mid) (ho : TestedOutcome mid rx (Ok jump) ready) (hy : Outcome ready y (Ok ry) last) where
  or_whole : last.code ≡ ((old.code ++ (x.code ++ Branch rx (length mid.code + 2) ∷ [])) ++ Jump 0 ∷ []) ++ y.code
  or_whole =
      let e : ready.code ≡ (old.code ++ (x.code ++ Branch rx (length mid.code + 2) ∷ [])) ++ Jump 0 ∷ [] =
      ho.0.added ∙ ap (λ c. c ++ opened mid rx) hx.0.added ∙ simp append_assoc in
      hy.0.added ∙ ap (λ c. c ++ y.code) e

  or_branch : length mid.code + 2 ≡ length old.code + length x.code + 2
  or_branch = omega (arith, ap length hx.0.added, length-append old.code x.code)

  or_jump : length last.code + 1 ≡ length old.code + length x.code + 2 + length y.code + 1
  or_jump = omega (arith, ap length hy.0.added, length-append ready.code y.code, ap length ho.0.added, length-append mid.code (opened mid rx), ap length hx.0.added, length-append old.code x.code)

  or_end : length last.code + 4 ≡ length old.code + length x.code + 2 + length y.code + 1 + 3
  or_end = omega (arith, or_jump)

  or_hole : jump ≡ length (old.code ++ (x.code ++ Branch rx (length mid.code + 2) ∷ []))
  or_hole = omega (arith, ho.1, ap length hx.0.added, length-append old.code x.code, length-append old.code (x.code ++ Branch rx (length mid.code + 2) ∷ []), length-append x.code (Branch rx (length mid.code + 2) ∷ []))

  or_patched : slice_set (last.code ++ and_end last ry) jump (Jump (length last.code + 1)) ≡ old.code ++ (or_made (length old.code) x y).code
  or_patched =
      let rest = and_end last ry in
      let c = x.code ++ Branch rx (length mid.code + 2) ∷ [] in
      let m = length old.code + length x.code + 2 in
      let t = length old.code + length x.code + 2 + length y.code + 1 in
      let e1 = ap (λ l. slice_set (l ++ rest) jump (Jump (length last.code + 1))) or_whole in
      let e2 = ap (λ n. slice_set ((((old.code ++ c) ++ Jump 0 ∷ []) ++ y.code) ++ rest) n (Jump (length last.code + 1))) or_hole in
      let e3 = seam old.code c y.code rest (Jump 0) (Jump (length last.code + 1)) in
      let e4 : old.code ++ (((c ++ Jump (length last.code + 1) ∷ []) ++ y.code) ++ rest)
      ≡ old.code ++ ((((x.code ++ Branch x.result m ∷ []) ++ Jump t ∷ []) ++ y.code) ++ Branch y.result (t + 3) ∷ truth_lines y.register y.slot (t + 3)) =
      λ i. old.code ++ ((((x.code ++ Branch (hx.1 i) (or_branch i) ∷ []) ++ Jump (or_jump i) ∷ []) ++ y.code)
      ++ Branch (hy.1 i) (or_end i) ∷ truth_lines (hy.0.next_register i) (hy.0.next_slot i) (or_end i)) in
      let e5 : old.code ++ ((((x.code ++ Branch x.result m ∷ []) ++ Jump t ∷ []) ++ y.code) ++ Branch y.result (t + 3) ∷ truth_lines y.register y.slot (t + 3))
      ≡ old.code ++ (or_made (length old.code) x y).code =
      ap (λ l. old.code ++ l) (simp append_assoc) in
      e1 ∙ e2 ∙ e3 ∙ e4 ∙ e5

  pub or_outcome : (r : Result ℕ Trouble) → OrOutcome last jump ry r new → Outcome old (or_made (length old.code) x y) r new
  or_outcome (Ok r) h = (
    record {
      added = h.0 ∙ or_patched;
      next_register = h.1 ∙ ap (λ n. n + 3) hy.0.next_register;
      next_slot = h.2 ∙ ap (λ n. n + 1) hy.0.next_slot;
    },
    h.3 ∙ ap (λ n. n + 2) hy.0.next_register,
  )
  or_outcome (Err Memory) h = tt
  or_outcome (Err TooLong) h =
      omega (
        arith,
        h,
        ap length or_patched,
        length-set (last.code ++ and_end last ry) jump (Jump (length last.code + 1)),
        length-append last.code (and_end last ry),
        length-append old.code (or_made (length old.code) x y).code,
      )

module _ (old tested ready chosen kept last new : Emitter) (c x y : Made) (rc rx ry s jump : ℕ)
    (hc : Outcome old c (Ok rc) tested) (ho : Adds tested (Branch rc 0 ∷ []) tested.register tested.slot ready)
    (hx : Outcome ready x (Ok rx) chosen) (hk : KeptOutcome chosen rx (Ok s) kept) (hj : jump + 1 ≡ length kept.code)
    (hy : Outcome kept y (Ok ry) last) where
  abbrev between : List Instr
  between = (x.code ++ SetLocal chosen.slot rx ∷ []) ++ Jump 0 ∷ y.code

  arms_whole : last.code ≡ ((old.code ++ c.code) ++ Branch rc 0 ∷ []) ++ between
  arms_whole =
      hy.0.added
      ∙ ap (λ l. l ++ y.code) (hk.0.added ∙ ap (λ l. l ++ SetLocal chosen.slot rx ∷ Jump 0 ∷ [])
      (hx.0.added ∙ ap (λ l. l ++ x.code) (ho.added ∙ ap (λ l. l ++ Branch rc 0 ∷ []) hc.0.added)))
      ∙ simp append_assoc

  arms_lengths : length kept.code ≡ length old.code + length c.code + 1 + length x.code + 2
  arms_lengths =
      omega (
        arith,
        ap length hk.0.added,
        length-append chosen.code (SetLocal chosen.slot rx ∷ Jump 0 ∷ []),
        ap length hx.0.added,
        length-append ready.code x.code,
        ap length ho.added,
        length-append tested.code (Branch rc 0 ∷ []),
        ap length hc.0.added,
        length-append old.code c.code,
      )

  arms_else : jump + 1 ≡ length old.code + length c.code + 1 + length x.code + 2
  arms_else = hj ∙ arms_lengths

  arms_end_place : length last.code + 1 ≡ length old.code + length c.code + 1 + length x.code + 2 + length y.code + 1
  arms_end_place = omega (arith, arms_lengths, ap length hy.0.added, length-append kept.code y.code)

  abbrev front : List Instr
  front = ((c.code ++ Branch rc (jump + 1) ∷ []) ++ x.code) ++ SetLocal chosen.slot rx ∷ []

  arms_hole : jump ≡ length (old.code ++ front)
  arms_hole =
      omega (
        arith,
        arms_else,
        length-append old.code front,
        length-append ((c.code ++ Branch rc (jump + 1) ∷ []) ++ x.code) (SetLocal chosen.slot rx ∷ []),
        length-append (c.code ++ Branch rc (jump + 1) ∷ []) x.code,
        length-append c.code (Branch rc (jump + 1) ∷ []),
      )

  arms_patched : slice_set (slice_set (last.code ++ arms_end last s ry) (length tested.code) (Branch rc (jump + 1))) jump (Jump (length last.code + 1))
      ≡ old.code ++ (conditional_made (length old.code) c x y).code
  arms_patched =
      let rest = arms_end last s ry in
      let b = Branch rc (jump + 1) in
      let j = Jump (length last.code + 1) in
      let f = length old.code + length c.code + 1 + length x.code + 2 in
      let e1 = ap (λ l. slice_set (slice_set (l ++ rest) (length tested.code) b) jump j) arms_whole in
      let e2 = ap (λ l. slice_set (slice_set ((((old.code ++ c.code) ++ Branch rc 0 ∷ []) ++ between) ++ rest) (length l) b) jump j) hc.0.added in
      let e3 = ap (λ l. slice_set l jump j) (seam old.code c.code between rest (Branch rc 0) b) in
      let e4 : old.code ++ (((c.code ++ b ∷ []) ++ between) ++ rest) ≡ (((old.code ++ front) ++ Jump 0 ∷ []) ++ y.code) ++ rest = simp append_assoc in
      let e5 = ap (λ l. slice_set l jump j) e4 ∙ ap (λ n. slice_set ((((old.code ++ front) ++ Jump 0 ∷ []) ++ y.code) ++ rest) n j) arms_hole in
      let e6 = seam old.code front y.code rest (Jump 0) j in
      let slot : s ≡ x.slot = hk.1 ∙ hx.0.next_slot in
      let e7 : old.code ++ (((front ++ j ∷ []) ++ y.code) ++ rest)
      ≡ old.code ++ ((((((c.code ++ Branch c.result f ∷ []) ++ x.code) ++ SetLocal x.slot x.result ∷ []) ++ Jump (f + length y.code + 1) ∷ []) ++ y.code)
      ++ SetLocal x.slot y.result ∷ GetLocal y.register x.slot ∷ []) =
      λ i. old.code ++ ((((((c.code ++ Branch (hc.1 i) (arms_else i) ∷ []) ++ x.code) ++ SetLocal (hx.0.next_slot i) (hx.1 i) ∷ []) ++ Jump (arms_end_place i) ∷ []) ++ y.code)
      ++ SetLocal (slot i) (hy.1 i) ∷ GetLocal (hy.0.next_register i) (slot i) ∷ []) in
      let e8 : old.code ++ ((((((c.code ++ Branch c.result f ∷ []) ++ x.code) ++ SetLocal x.slot x.result ∷ []) ++ Jump (f + length y.code + 1) ∷ []) ++ y.code)
      ++ SetLocal x.slot y.result ∷ GetLocal y.register x.slot ∷ [])
      ≡ old.code ++ (conditional_made (length old.code) c x y).code =
      ap (λ l. old.code ++ l) (simp append_assoc) in
      e1 ∙ e2 ∙ e3 ∙ e5 ∙ e6 ∙ e7 ∙ e8

  pub arms_outcome : (r : Result ℕ Trouble) → ArmsOutcome last (length tested.code) jump rc s ry r new → Outcome old (conditional_made (length old.code) c x y) r new
  arms_outcome (Ok r) h = (
    record {
      added = h.0 ∙ arms_patched;
      next_register = h.1 ∙ ap (λ n. n + 1) hy.0.next_register;
      next_slot = h.2 ∙ hy.0.next_slot;
    },
    h.3 ∙ hy.0.next_register,
  )
  arms_outcome (Err Memory) h = tt
  arms_outcome (Err TooLong) h =
      omega (
        arith,
        h,
        ap length arms_patched,
        length-set (slice_set (last.code ++ arms_end last s ry) (length tested.code) (Branch rc (jump + 1))) jump (Jump (length last.code + 1)),
        length-set (last.code ++ arms_end last s ry) (length tested.code) (Branch rc (jump + 1)),
        length-append last.code (arms_end last s ry),
        length-append old.code (conditional_made (length old.code) c x y).code,
      )
