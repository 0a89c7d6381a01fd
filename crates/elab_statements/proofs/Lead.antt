-- Open jumps are written: lines are then led to where their loop ends and goes on.
use Rattle.std.proofs.Common.{◌≡◌, ◌∙◌, ℕ, ◌+◌, ◌<◌, ◌≤◌, true, false, if◌then◌else◌, List, [], ◌∷◌, ◌++◌, length, ap, refl, sym, arith, append_assoc, length-append}
use Rattle.std.specs.Prelude.{slice_set}
use Rattle.std.proofs.Math.ListN.{length-set}
use Rattle.std.proofs.Math.Seq.{set-append_seam}
use Rattle.core_ir.specs.declared.instr.Instr.{Instr}
use Rattle.core_ir.specs.declared.instr.Instr.TheVariants.{Jump}
use Rattle.elab_emit.specs.Emits.{IsSound}
use Rattle.elab_emit.specs.declared.emitter.Emitter.{Emitter}
use Rattle.elab_pieces.specs.Lines.{Breaks, Continues, Does, Line, led}
use Rattle.elab_pieces.specs.Statements.{does}
use Rattle.elab_statements.specs.declared.open.Open.{Open}
use Rattle.elab_statements.specs.inner.Jumps.{AreWithin, closed, opens}

pub opens_does : (at : ℕ) (is : List Instr) → opens at (does is) ≡ []
opens_does at [] = refl
opens_does at (i ∷ is) = opens_does (at + 1) is

pub opens_append : (at : ℕ) (ls ms : List Line) → opens at (ls ++ ms) ≡ opens at ls ++ opens (at + length ls) ms
opens_append at [] ms =
    let e : at ≡ at + 0 = omega arith in ap (λ n. opens n ms) e
opens_append at (Does i ∷ ls) ms = opens_append (at + 1) ls ms ∙ ap (λ n. opens (at + 1) ls ++ opens n ms) (omega arith)
opens_append at (Breaks ∷ ls) ms =
    ap (λ os. record { place = at; continues = false } ∷ os) (opens_append (at + 1) ls ms ∙ ap (λ n. opens (at + 1) ls ++ opens n ms) (omega arith))
opens_append at (Continues ∷ ls) ms =
    ap (λ os. record { place = at; continues = true } ∷ os) (opens_append (at + 1) ls ms ∙ ap (λ n. opens (at + 1) ls ++ opens n ms) (omega arith))

pub led_behind : (b k : ℕ) (is : List Instr) (ls : List Line) → led b k (does is ++ ls) ≡ is ++ led b k ls
led_behind b k [] ls = refl
led_behind b k (i ∷ is) ls = ap (λ js. i ∷ js) (led_behind b k is ls)

pub opens_behind : (at : ℕ) (is : List Instr) (ls : List Line) → opens at (does is ++ ls) ≡ opens (at + length is) ls
opens_behind at [] ls = ap (λ n. opens n ls) (omega arith)
opens_behind at (i ∷ is) ls = opens_behind (at + 1) is ls ∙ ap (λ n. opens n ls) (omega arith)

pub opens_within : (at n : ℕ) (ls : List Line) → at + length ls ≤ n → AreWithin n (opens at ls)
opens_within at n [] h = tt
opens_within at n (Does i ∷ ls) h = opens_within (at + 1) n ls (omega (arith, h))
opens_within at n (Breaks ∷ ls) h = (omega (arith, h), opens_within (at + 1) n ls (omega (arith, h)))
opens_within at n (Continues ∷ ls) h = (omega (arith, h), opens_within (at + 1) n ls (omega (arith, h)))

pub within_more : (os : List Open) (n m : ℕ) → n ≤ m → AreWithin n os → AreWithin m os
within_more [] n m h w = tt
within_more (o ∷ os) n m h w =
    let w0 : o.place < n = w.0 in (omega (arith, w0, h), within_more os n m h w.1)

pub closed_length : (code : List Instr) (os : List Open) (b k : ℕ) → length (closed code os b k) ≡ length code
closed_length code [] b k = refl
closed_length code (o ∷ os) b k =
    closed_length (slice_set code o.place (Jump (if o.continues then k else b))) os b k
    ∙ length-set code o.place (Jump (if o.continues then k else b))

-- code that is written again has its length
pub still_sound : (e : Emitter) (code : List Instr) → IsSound e → length code ≡ length e.code → IsSound (record e { code = code })
still_sound e code s h = record {
  code = omega (arith, s.code, h);
  register = omega (arith, s.register, h);
  slot = omega (arith, s.slot, h);
}

-- one line further
step : (front : List Instr) (i : Instr) (rest : List Instr) → front ++ i ∷ rest ≡ (front ++ i ∷ []) ++ rest
step front i rest = sym (append_assoc front (i ∷ []) rest)

longer : (front : List Instr) (i : Instr) → length front + 1 ≡ length (front ++ i ∷ [])
longer front i = omega (arith, length-append front (i ∷ []))

-- what is written is what lines are led to
pub lead : (b k : ℕ) (front : List Instr) (ls : List Line) (rest : List Instr)
    → closed (front ++ (led 0 0 ls ++ rest)) (opens (length front) ls) b k ≡ front ++ (led b k ls ++ rest)
lead b k front [] rest = refl
lead b k front (Does i ∷ ls) rest =
    (λ j. closed (step front i (led 0 0 ls ++ rest) j) (opens (longer front i j) ls) b k)
    ∙ lead b k (front ++ i ∷ []) ls rest ∙ sym (step front i (led b k ls ++ rest))
lead b k front (Breaks ∷ ls) rest =
    ap (λ c. closed c (opens (length front + 1) ls) b k) (set-append_seam front (Jump 0) (led 0 0 ls ++ rest) (Jump b))
    ∙ (λ j. closed (step front (Jump b) (led 0 0 ls ++ rest) j) (opens (longer front (Jump b) j) ls) b k)
    ∙ lead b k (front ++ Jump b ∷ []) ls rest ∙ sym (step front (Jump b) (led b k ls ++ rest))
lead b k front (Continues ∷ ls) rest =
    ap (λ c. closed c (opens (length front + 1) ls) b k) (set-append_seam front (Jump 0) (led 0 0 ls ++ rest) (Jump k))
    ∙ (λ j. closed (step front (Jump k) (led 0 0 ls ++ rest) j) (opens (longer front (Jump k) j) ls) b k)
    ∙ lead b k (front ++ Jump k ∷ []) ls rest ∙ sym (step front (Jump k) (led b k ls ++ rest))
