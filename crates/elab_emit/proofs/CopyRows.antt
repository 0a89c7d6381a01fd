-- The copy of a struct, part by part.
use Rattle.std.proofs.Common.{◌≡◌, ◌∙◌, ℕ, ◌+◌, ◌*◌, ◌<◌, ◌≤◌, List, [], ◌∷◌, ◌++◌, length, ap, sym, refl, arith, append_assoc, append-nil, subst, get_or, length-append, drop, Result, Ok, Err}
use Rattle.std.proofs.lemmas.List.{drop_all, drop_more}
use Rattle.c_types.specs.declared.ty.Ty.{Ty}
use Rattle.core_ir.specs.declared.instr.Instr.{Instr}
use Rattle.core_ir.specs.declared.instr.Instr.TheVariants.{Load, PtrConst, Store, Touch}
use Rattle.elab_rows.specs.Addresses.{copied_part, copied_parts}
use Rattle.elab_emit.specs.Emits.{IsSound, Outcome, Stops, code_of}
use Rattle.elab_emit.specs.declared.emitter.Emitter.{Emitter}
use Rattle.elab_emit.specs.declared.emitter.Trouble.{Trouble}
use Rattle.elab_emit.specs.declared.emitter.Trouble.TheVariants.{TooLong, Memory}
use Rattle.elab_emit.specs.inner.Copies.{Copies, CopyOutcome, loads, stores}

pub copies_start : (from to : Ty) (p q : ℕ) (start : Emitter) (all : List Ty) → IsSound start → Copies from to p q start all start 0 all
copies_start from to p q start all s = record { code = refl; register = refl; slot = refl; sound = s }

pub copies_end : (from to : Ty) (p q : ℕ) (start now : Emitter) (all : List Ty) (k : ℕ) → Copies from to p q start all now k []
    → CopyOutcome start (copied_parts from to p q start.register 0 all) (3 * length all) (Ok tt) now
copies_end from to p q start now all k h = record {
  added = sym (h.code ∙ append-nil now.code);
  next_register = omega (arith, h.register);
  next_slot = h.slot;
}

module _ (from to : Ty) (p q : ℕ) (start now : Emitter) (all : List Ty) (k : ℕ) (t : Ty) (ts : List Ty) (h : Copies from to p q start all now k (t ∷ ts)) where
  pub copies_step : (mid next : Emitter) (a : ℕ) → Outcome now (code_of now (loads from p k t)) (Ok a) mid
      → CopyOutcome mid (stores to q k t a mid) 1 (Ok tt) next → IsSound next → Copies from to p q start all next (k + 1) ts
  copies_step mid next a m n s =
      let d = now.register in
      let register : mid.register ≡ d + 2 = m.0.next_register in
      let last : next.register ≡ d + 3 = omega (arith, n.next_register, register) in
      let first : List Instr = PtrConst d p k ∷ Touch d from ∷ Load (d + 1) d t ∷ [] in
      let second : List Instr = PtrConst (d + 2) q k ∷ Touch (d + 2) to ∷ Store (d + 2) (d + 1) t ∷ [] in
      let rest : List Instr = copied_parts from to p q (d + 3) (k + 1) ts in
      let stored : stores to q k t a mid ≡ second =
      λ i. PtrConst (register i) q k ∷ Touch (register i) to ∷ Store (register i) (m.1 i) t ∷ [] in
      let whole : next.code ≡ (now.code ++ first) ++ second = n.added ∙ (λ i. m.0.added i ++ stored i) in
      let apart : ((now.code ++ first) ++ second) ++ rest ≡ now.code ++ (first ++ (second ++ rest)) =
      append_assoc (now.code ++ first) second rest ∙ append_assoc now.code first (second ++ rest) in
      record {
        code = h.code ∙ sym apart ∙ sym (λ i. whole i ++ copied_parts from to p q (last i) (k + 1) ts);
        register = omega (arith, h.register, last);
        slot = n.next_slot ∙ m.0.next_slot ∙ h.slot;
        sound = s;
      }

  copies_length : length start.code + length (copied_parts from to p q start.register 0 all)
      ≡ length now.code + 6 + length (copied_parts from to p q (now.register + 3) (k + 1) ts)
  copies_length =
      omega (
        arith,
        ap length h.code,
        length-append start.code (copied_parts from to p q start.register 0 all),
        length-append now.code (copied_parts from to p q now.register k (t ∷ ts)),
        length-append (copied_part from to p q now.register k t) (copied_parts from to p q (now.register + 3) (k + 1) ts),
      )

  pub copies_load_stop : (e : Trouble) → Stops now (code_of now (loads from p k t)).code e
      → Stops start (copied_parts from to p q start.register 0 all) e
  copies_load_stop Memory m = tt
  copies_load_stop TooLong m = omega (arith, m, copies_length)

  pub copies_store_stop : (mid : Emitter) (a : ℕ) (e : Trouble) → Outcome now (code_of now (loads from p k t)) (Ok a) mid
      → Stops mid (stores to q k t a mid) e → Stops start (copied_parts from to p q start.register 0 all) e
  copies_store_stop mid a Memory m n = tt
  copies_store_stop mid a TooLong m n =
      omega (arith, n, copies_length, ap length m.0.added, length-append now.code (code_of now (loads from p k t)).code)

-- ---- the same, by the place of a part in the list

module _ (from to : Ty) (p q : ℕ) (start now : Emitter) (all : List Ty) (k : ℕ) where
  pub copies_done : (i : ℕ) → length all ≤ i → Copies from to p q start all now k (drop i all)
      → CopyOutcome start (copied_parts from to p q start.register 0 all) (3 * length all) (Ok tt) now
  copies_done i behind h =
      copies_end from to p q start now all k (subst (λ ts. Copies from to p q start all now k ts) (drop_all i all behind) h)

  abbrev Here : Ty → ℕ → Type 0
  Here t i = Copies from to p q start all now k (t ∷ drop (i + 1) all)

  here_is : (t : Ty) (i : ℕ) → Copies from to p q start all now k (drop i all) → i < length all → t ≡ get_or all i t → Here t i
  here_is t i h within is =
      subst (λ ts. Copies from to p q start all now k ts)
      (drop_more all i t within ∙ ap (λ x. x ∷ drop (i + 1) all) (sym is)) h

  pub copies_next : (t : Ty) (i : ℕ) (mid next : Emitter) (a l : ℕ) → Copies from to p q start all now k (drop i all) → i < length all → t ≡ get_or all i t
      → Outcome now (code_of now (loads from p k t)) (Ok a) mid
      → CopyOutcome mid (stores to q k t a mid) 1 (Ok tt) next → IsSound next → l ≡ k + 1 → Copies from to p q start all next l (drop (i + 1) all)
  copies_next t i mid next a l h within is m n s more =
      subst (λ j. Copies from to p q start all next j (drop (i + 1) all)) (sym more)
      (copies_step from to p q start now all k t (drop (i + 1) all) (here_is t i h within is) mid next a m n s)

  abbrev Ended : Result (Unit {0}) Trouble → Emitter → Type 0
  Ended r new = CopyOutcome start (copied_parts from to p q start.register 0 all) (3 * length all) r new

  pub copies_load_exit : (t : Ty) (i : ℕ) (e : Trouble) (r : Result (Unit {0}) Trouble) (new : Emitter) → Copies from to p q start all now k (drop i all)
      → i < length all → t ≡ get_or all i t → r ≡ Err e → Stops now (code_of now (loads from p k t)).code e → Ended r new
  copies_load_exit t i e r new h within is told m =
      subst (λ x. Ended x new) (sym told) (copies_load_stop from to p q start now all k t (drop (i + 1) all) (here_is t i h within is) e m)

  pub copies_store_exit : (t : Ty) (i : ℕ) (e : Trouble) (r : Result (Unit {0}) Trouble) (new mid : Emitter) (a : ℕ)
      → Copies from to p q start all now k (drop i all)
      → i < length all → t ≡ get_or all i t → r ≡ Err e → Outcome now (code_of now (loads from p k t)) (Ok a) mid
      → Stops mid (stores to q k t a mid) e → Ended r new
  copies_store_exit t i e r new mid a h within is told m n =
      subst (λ x. Ended x new) (sym told)
      (copies_store_stop from to p q start now all k t (drop (i + 1) all) (here_is t i h within is) mid a e m n)
