-- What `&&`, `||` and `?:` emit, step by step.
use Rattle.std.proofs.Common.{◌≡◌, ◌∙◌, ℕ, ◌+◌, ◌≤◌, List, [], ◌∷◌, length, ap, subst, arith, length-append, Result, Ok, Err}
use Rattle.core_ir.specs.declared.instr.Instr.{Instr}
use Rattle.core_ir.specs.declared.instr.Instr.TheVariants.{Branch, Jump, SetLocal}
use Rattle.elab_rows.specs.Choices.{and_code, and_made, conditional_code, conditional_made, or_code, or_made, second_arm}
use Rattle.elab_emit.specs.Emits.{Adds, Outcome, Stops, code_of}
use Rattle.elab_rows.specs.Made.{Code, Made, beyond}
use Rattle.elab_emit.specs.declared.emitter.Emitter.{Emitter}
use Rattle.elab_emit.specs.declared.emitter.Trouble.{Trouble}
use Rattle.elab_emit.specs.declared.emitter.Trouble.TheVariants.{TooLong, Memory}
use Rattle.elab_emit.specs.Holes.{AndOutcome, ArmsOutcome, KeptOutcome, OrOutcome, TestedOutcome, opened}
use Rattle.elab_parts.proofs.Patch.{and_outcome, arms_outcome, or_outcome}

pub stops_longer : (old : Emitter) (c d : List Instr) (e : Trouble) → length c ≤ length d → Stops old c e → Stops old d e
stops_longer old c d TooLong n h = omega (arith, n, h)
stops_longer old c d Memory n h = tt

and_length : (place : ℕ) (x y : Made) → length (and_made place x y).code ≡ length x.code + 1 + (length y.code + 1) + 6
and_length place x y = simp length-append

or_length : (place : ℕ) (x y : Made) → length (or_made place x y).code ≡ length x.code + 1 + 1 + (length y.code + 1) + 6
or_length place x y = simp length-append

pub and_stop : (a b : Code) (old : Emitter) (e : Trouble) → Stops old (code_of old a).code e → Stops old (code_of old (and_code a b)).code e
and_stop a b old e h =
    let x = code_of old a in
    let y = beyond 1 (length old.code) x b in
    stops_longer old x.code (and_made (length old.code) x y).code e (omega (arith, and_length (length old.code) x y)) h

pub and_branch_stop : (a b : Code) (old mid : Emitter) (rx : ℕ) (e : Trouble) → Outcome old (code_of old a) (Ok rx) mid
    → Stops mid (Branch rx 0 ∷ []) e → Stops old (code_of old (and_code a b)).code e
and_branch_stop a b old mid rx Memory h k = tt
and_branch_stop a b old mid rx TooLong h k =
    let x = code_of old a in
    let y = beyond 1 (length old.code) x b in
    omega (arith, k, ap length h.0.added, length-append old.code x.code, and_length (length old.code) x y)

and_place : (a : Code) (old mid ready : Emitter) (rx : ℕ) → Outcome old (code_of old a) (Ok rx) mid
    → Adds mid (Branch rx 0 ∷ []) mid.register mid.slot ready → length ready.code ≡ length old.code + length (code_of old a).code + 1
and_place a old mid ready rx h k =
    omega (arith, ap length k.added, length-append mid.code (Branch rx 0 ∷ []), ap length h.0.added, length-append old.code (code_of old a).code)

and_second : (a b : Code) (old mid ready : Emitter) (rx : ℕ) → Outcome old (code_of old a) (Ok rx) mid
    → Adds mid (Branch rx 0 ∷ []) mid.register mid.slot ready → code_of ready b ≡ beyond 1 (length old.code) (code_of old a) b
and_second a b old mid ready rx h k =
    λ i. b (and_place a old mid ready rx h k i) ((k.next_register ∙ h.0.next_register) i) ((k.next_slot ∙ h.0.next_slot) i)

pub and_late : (a b : Code) (old mid ready : Emitter) (rx : ℕ) (e : Trouble) → Outcome old (code_of old a) (Ok rx) mid
    → Adds mid (Branch rx 0 ∷ []) mid.register mid.slot ready
    → Stops ready (code_of ready b).code e → Stops old (code_of old (and_code a b)).code e
and_late a b old mid ready rx Memory h k m = tt
and_late a b old mid ready rx TooLong h k m =
    let x = code_of old a in
    let y = beyond 1 (length old.code) x b in
    omega (
      arith,
      m,
      ap (λ n. length n.code) (and_second a b old mid ready rx h k),
      and_place a old mid ready rx h k,
      and_length (length old.code) x y,
    )

pub and_row : (a b : Code) (old mid ready last new : Emitter) (rx ry hole : ℕ) (r : Result ℕ Trouble) → Outcome old (code_of old a) (Ok rx) mid
    → hole ≡ length mid.code → Adds mid (Branch rx 0 ∷ []) mid.register mid.slot ready
    → Outcome ready (code_of ready b) (Ok ry) last → AndOutcome last hole rx ry r new
    → Outcome old (code_of old (and_code a b)) r new
and_row a b old mid ready last new rx ry hole r h e k m f =
    let x = code_of old a in
    let y = beyond 1 (length old.code) x b in
    and_outcome old mid ready last new x y rx ry h k (subst (λ n. Outcome ready n (Ok ry) last) (and_second a b old mid ready rx h k) m) r
    (subst (λ n. AndOutcome last n rx ry r new) e f)

pub or_stop : (a b : Code) (old : Emitter) (e : Trouble) → Stops old (code_of old a).code e → Stops old (code_of old (or_code a b)).code e
or_stop a b old e h =
    let x = code_of old a in
    let y = beyond 2 (length old.code) x b in
    stops_longer old x.code (or_made (length old.code) x y).code e (omega (arith, or_length (length old.code) x y)) h

pub or_branch_stop : (a b : Code) (old mid : Emitter) (rx : ℕ) (e : Trouble) → Outcome old (code_of old a) (Ok rx) mid
    → Stops mid (opened mid rx) e → Stops old (code_of old (or_code a b)).code e
or_branch_stop a b old mid rx Memory h k = tt
or_branch_stop a b old mid rx TooLong h k =
    let x = code_of old a in
    let y = beyond 2 (length old.code) x b in
    omega (arith, k, ap length h.0.added, length-append old.code x.code, or_length (length old.code) x y)

or_place : (a : Code) (old mid ready : Emitter) (rx jump : ℕ) → Outcome old (code_of old a) (Ok rx) mid
    → TestedOutcome mid rx (Ok jump) ready → length ready.code ≡ length old.code + length (code_of old a).code + 2
or_place a old mid ready rx jump h k =
    omega (arith, ap length k.0.added, length-append mid.code (opened mid rx), ap length h.0.added, length-append old.code (code_of old a).code)

or_second : (a b : Code) (old mid ready : Emitter) (rx jump : ℕ) → Outcome old (code_of old a) (Ok rx) mid
    → TestedOutcome mid rx (Ok jump) ready → code_of ready b ≡ beyond 2 (length old.code) (code_of old a) b
or_second a b old mid ready rx jump h k =
    λ i. b (or_place a old mid ready rx jump h k i) ((k.0.next_register ∙ h.0.next_register) i) ((k.0.next_slot ∙ h.0.next_slot) i)

pub or_late : (a b : Code) (old mid ready : Emitter) (rx jump : ℕ) (e : Trouble) → Outcome old (code_of old a) (Ok rx) mid
    → TestedOutcome mid rx (Ok jump) ready
    → Stops ready (code_of ready b).code e → Stops old (code_of old (or_code a b)).code e
or_late a b old mid ready rx jump Memory h k m = tt
or_late a b old mid ready rx jump TooLong h k m =
    let x = code_of old a in
    let y = beyond 2 (length old.code) x b in
    omega (
      arith,
      m,
      ap (λ n. length n.code) (or_second a b old mid ready rx jump h k),
      or_place a old mid ready rx jump h k,
      or_length (length old.code) x y,
    )

pub or_row : (a b : Code) (old mid ready last new : Emitter) (rx jump ry : ℕ) (r : Result ℕ Trouble) → Outcome old (code_of old a) (Ok rx) mid
    → TestedOutcome mid rx (Ok jump) ready
    → Outcome ready (code_of ready b) (Ok ry) last → OrOutcome last jump ry r new
    → Outcome old (code_of old (or_code a b)) r new
or_row a b old mid ready last new rx jump ry r h k m f =
    let x = code_of old a in
    let y = beyond 2 (length old.code) x b in
    or_outcome old mid ready last new x y rx ry jump h k (subst (λ n. Outcome ready n (Ok ry) last) (or_second a b old mid ready rx jump h k) m) r f

-- ---- `c ? a : b`

arms_length : (place : ℕ) (c x y : Made) → length (conditional_made place c x y).code ≡ length c.code + 1 + (length x.code + 1 + 1) + (length y.code + 1) + 1
arms_length place c x y =
    let e : length (conditional_made place c x y).code ≡ length c.code + 1 + (length x.code + 1 + 1 + (length y.code + 1) + 1) = simp length-append in
    omega (arith, e)

abbrev first_made : Code → Code → Emitter → Made
first_made c a old = beyond 1 (length old.code) (code_of old c) a

abbrev second_made : Code → Code → Code → Emitter → Made
second_made c a b old = second_arm (length old.code + length (code_of old c).code + 1) (first_made c a old) b

whole_length : (c a b : Code) (old : Emitter) → length (code_of old (conditional_code c a b)).code
    ≡ length (code_of old c).code + 1 + (length (first_made c a old).code + 1 + 1) + (length (second_made c a b old).code + 1) + 1
whole_length c a b old = arms_length (length old.code) (code_of old c) (first_made c a old) (second_made c a b old)

pub conditional_stop : (c a b : Code) (old : Emitter) (e : Trouble) → Stops old (code_of old c).code e
    → Stops old (code_of old (conditional_code c a b)).code e
conditional_stop c a b old e h =
    stops_longer old (code_of old c).code (code_of old (conditional_code c a b)).code e (omega (arith, whole_length c a b old)) h

pub conditional_branch_stop : (c a b : Code) (old tested : Emitter) (rc : ℕ) (e : Trouble) → Outcome old (code_of old c) (Ok rc) tested
    → Stops tested (Branch rc 0 ∷ []) e → Stops old (code_of old (conditional_code c a b)).code e
conditional_branch_stop c a b old tested rc Memory h k = tt
conditional_branch_stop c a b old tested rc TooLong h k =
    omega (arith, k, ap length h.0.added, length-append old.code (code_of old c).code, whole_length c a b old)

conditional_first : (c a : Code) (old tested ready : Emitter) (rc : ℕ) → Outcome old (code_of old c) (Ok rc) tested
    → Adds tested (Branch rc 0 ∷ []) tested.register tested.slot ready → code_of ready a ≡ first_made c a old
conditional_first c a old tested ready rc h k = and_second c a old tested ready rc h k

pub conditional_first_stop : (c a b : Code) (old tested ready : Emitter) (rc : ℕ) (e : Trouble) → Outcome old (code_of old c) (Ok rc) tested
    → Adds tested (Branch rc 0 ∷ []) tested.register tested.slot ready
    → Stops ready (code_of ready a).code e → Stops old (code_of old (conditional_code c a b)).code e
conditional_first_stop c a b old tested ready rc Memory h k m = tt
conditional_first_stop c a b old tested ready rc TooLong h k m =
    omega (
      arith,
      m,
      ap (λ n. length n.code) (conditional_first c a old tested ready rc h k),
      and_place c old tested ready rc h k,
      whole_length c a b old,
    )

-- the condition and its branch, and the first arm
pub record First (c a : Code) (old : Emitter) (rc rx : ℕ) (tested ready chosen : Emitter) : Type 0 where
  pub condition : Outcome old (code_of old c) (Ok rc) tested
  pub branch : Adds tested (Branch rc 0 ∷ []) tested.register tested.slot ready
  pub arm : Outcome ready (code_of ready a) (Ok rx) chosen

chosen_place : (c a : Code) (old tested ready chosen : Emitter) (rc rx : ℕ) → First c a old rc rx tested ready chosen
    → length chosen.code ≡ length old.code + length (code_of old c).code + 1 + length (first_made c a old).code
chosen_place c a old tested ready chosen rc rx h =
    omega (
      arith,
      ap length h.arm.0.added,
      length-append ready.code (code_of ready a).code,
      ap (λ n. length n.code) (conditional_first c a old tested ready rc h.condition h.branch),
      and_place c old tested ready rc h.condition h.branch,
    )

pub conditional_kept_stop : (c a b : Code) (old tested ready chosen kept : Emitter) (rc rx : ℕ) (e : Trouble)
    → Outcome old (code_of old c) (Ok rc) tested → Adds tested (Branch rc 0 ∷ []) tested.register tested.slot ready
    → Outcome ready (code_of ready a) (Ok rx) chosen
    → KeptOutcome chosen rx (Err e) kept → Stops old (code_of old (conditional_code c a b)).code e
conditional_kept_stop c a b old tested ready chosen kept rc rx Memory h k m n = tt
conditional_kept_stop c a b old tested ready chosen kept rc rx TooLong h k m n =
    omega (
      arith,
      n,
      chosen_place c a old tested ready chosen rc rx (record { condition = h; branch = k; arm = m }),
      whole_length c a b old,
    )

kept_place : (c a : Code) (old tested ready chosen kept : Emitter) (rc rx s : ℕ) → First c a old rc rx tested ready chosen
    → KeptOutcome chosen rx (Ok s) kept
    → length kept.code ≡ length old.code + length (code_of old c).code + 1 + length (first_made c a old).code + 2
kept_place c a old tested ready chosen kept rc rx s h n =
    omega (
      arith,
      ap length n.0.added,
      length-append chosen.code (SetLocal chosen.slot rx ∷ Jump 0 ∷ []),
      chosen_place c a old tested ready chosen rc rx h,
    )

conditional_second : (c a b : Code) (old tested ready chosen kept : Emitter) (rc rx s : ℕ) → First c a old rc rx tested ready chosen
    → KeptOutcome chosen rx (Ok s) kept → code_of kept b ≡ second_made c a b old
conditional_second c a b old tested ready chosen kept rc rx s h n =
    let first = conditional_first c a old tested ready rc h.condition h.branch in
    let register : kept.register ≡ (first_made c a old).register = n.0.next_register ∙ h.arm.0.next_register ∙ ap (λ m. m.register) first in
    let slot : kept.slot ≡ (first_made c a old).slot + 1 =
    n.0.next_slot ∙ ap (λ m. m + 1) (h.arm.0.next_slot ∙ ap (λ m. m.slot) first) in
    λ i. b (kept_place c a old tested ready chosen kept rc rx s h n i) (register i) (slot i)

pub conditional_late : (c a b : Code) (old tested ready chosen kept : Emitter) (rc rx s : ℕ) (e : Trouble)
    → Outcome old (code_of old c) (Ok rc) tested → Adds tested (Branch rc 0 ∷ []) tested.register tested.slot ready
    → Outcome ready (code_of ready a) (Ok rx) chosen → KeptOutcome chosen rx (Ok s) kept
    → Stops kept (code_of kept b).code e → Stops old (code_of old (conditional_code c a b)).code e
conditional_late c a b old tested ready chosen kept rc rx s Memory h k m n l = tt
conditional_late c a b old tested ready chosen kept rc rx s TooLong h k m n l =
    let first : First c a old rc rx tested ready chosen = record { condition = h; branch = k; arm = m } in
    omega (
      arith,
      l,
      ap (λ n. length n.code) (conditional_second c a b old tested ready chosen kept rc rx s first n),
      kept_place c a old tested ready chosen kept rc rx s first n,
      whole_length c a b old,
    )

pub conditional_row : (c a b : Code) (old tested ready chosen kept last new : Emitter) (rc rx s branch jump ry : ℕ) (r : Result ℕ Trouble)
    → Outcome old (code_of old c) (Ok rc) tested → branch ≡ length tested.code → Adds tested (Branch rc 0 ∷ []) tested.register tested.slot ready
    → Outcome ready (code_of ready a) (Ok rx) chosen → jump ≡ length chosen.code → KeptOutcome chosen rx (Ok s) kept
    → Outcome kept (code_of kept b) (Ok ry) last
    → ArmsOutcome last branch (jump + 1) rc s ry r new → Outcome old (code_of old (conditional_code c a b)) r new
conditional_row c a b old tested ready chosen kept last new rc rx s branch jump ry r h d k m j n l f =
    let first : First c a old rc rx tested ready chosen = record { condition = h; branch = k; arm = m } in
    let x = conditional_first c a old tested ready rc h k in
    let y = conditional_second c a b old tested ready chosen kept rc rx s first n in
    let place : jump + 1 + 1 ≡ length kept.code =
    omega (arith, j, ap length n.0.added, length-append chosen.code (SetLocal chosen.slot rx ∷ Jump 0 ∷ [])) in
    arms_outcome old tested ready chosen kept last new (code_of old c) (first_made c a old) (second_made c a b old) rc rx ry s (jump + 1)
    h k (subst (λ m. Outcome ready m (Ok rx) chosen) x m) n place (subst (λ m. Outcome kept m (Ok ry) last) y l) r
    (subst (λ i. ArmsOutcome last i (jump + 1) rc s ry r new) d f)
