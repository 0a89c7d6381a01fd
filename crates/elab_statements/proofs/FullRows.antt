-- What stands behind the value of a full expression, step by step.
use Rattle.std.proofs.Common.{◌≡◌, ◌∙◌, ℕ, ◌+◌, Bool, List, [], ◌∷◌, ◌++◌, length, ap, sym, subst, arith, append_assoc, length-append, Some, Result, Ok, Err}
use Rattle.core_ir.specs.declared.instr.Instr.{Instr}
use Rattle.core_ir.specs.declared.instr.Instr.TheVariants.{Store, Touch}
use Rattle.elab_rows.specs.Addresses.{Lvalue, assigned}
use Rattle.elab_emit.specs.Emits.{Outcome, PutOutcome, code_of}
use Rattle.elab_rows.specs.Made.{Code, Made, behind, followed, held}
use Rattle.elab_emit.specs.declared.emitter.Emitter.{Emitter}
use Rattle.elab_emit.specs.declared.emitter.Trouble.{Trouble}
use Rattle.elab_emit.specs.declared.emitter.Trouble.TheVariants.{TooLong, Memory}
use Rattle.elab_pieces.specs.Lines.{led}
use Rattle.elab_pieces.specs.Statements.{leaving, returned}
use Rattle.elab_statements.specs.declared.body.Body.{Body}
use Rattle.elab_statements.specs.inner.Expressions.{DoneOutcome, FullOutcome, made_at}
use Rattle.elab_statements.specs.Bodies.{PieceOutcome, PutAll, piece_at}
use Rattle.elab_statements.specs.inner.Pieces.{led_does, max_zero}

-- ---- an instruction that defines no register

module _ (old mid : Body) (v : Code) (i : ℕ → Instr) where
  abbrev m : Made
  m = made_at old v

  pub followed_stops : (e : Trouble) → FullOutcome old m (Err e) mid → DoneOutcome old (made_at old (followed i v)) (Err e) mid
  followed_stops Memory k = tt
  followed_stops TooLong k = omega (arith, k, length-append m.code (i m.result ∷ []))

  pub followed_row : (a : ℕ) → FullOutcome old m (Ok a) mid → (out : Emitter) (r : Result (Unit {0}) Trouble) → PutOutcome mid.out (i a) r out
      → DoneOutcome old (made_at old (followed i v)) r (record { out = out; registers = mid.registers })
  followed_row a h out (Err Memory) k = tt
  followed_row a h out (Err TooLong) k =
      omega (arith, k, ap length h.0.added, length-append old.out.code m.code, length-append m.code (i m.result ∷ []))
  followed_row a h out (Ok u) k = record {
    added = k.added ∙ (λ j. h.0.added j ++ i (h.1 j) ∷ []) ∙ append_assoc old.out.code m.code (i m.result ∷ []);
    most = h.0.most;
    next_slot = k.next_slot ∙ h.0.next_slot;
  }

-- ---- `return`

module _ (old mid : Body) (v : Code) (has_frame : Bool) where
  abbrev value : Made
  value = made_at old v

  return_lines : length (led 0 0 (piece_at old (returned has_frame v)).lines) ≡ length value.code + length (leaving has_frame (Some value.result))
  return_lines =
      ap length (led_does 0 0 (value.code ++ leaving has_frame (Some value.result))) ∙ length-append value.code (leaving has_frame (Some value.result))

  pub return_stops : (e : Trouble) → FullOutcome old value (Err e) mid → PieceOutcome old (piece_at old (returned has_frame v)) (Err e) mid
  return_stops Memory k = tt
  return_stops TooLong k = omega (arith, k, return_lines)

  pub return_row : (a : ℕ) → FullOutcome old value (Ok a) mid → (new : Body) (r : Result (Unit {0}) Trouble) → PutAll mid (leaving has_frame (Some a)) r new
      → PieceOutcome old (piece_at old (returned has_frame v)) r new
  return_row a h new (Err Memory) k = tt
  return_row a h new (Err TooLong) k =
      omega (arith, k, ap length h.0.added, length-append old.out.code value.code, return_lines, ap (λ x. length (leaving has_frame (Some x))) h.1)
  return_row a h new (Ok u) k = record {
    added = k.added ∙ (λ j. h.0.added j ++ leaving has_frame (Some (h.1 j)))
        ∙ append_assoc old.out.code value.code (leaving has_frame (Some value.result))
        ∙ ap (λ is. old.out.code ++ is) (sym (led_does 0 0 (value.code ++ leaving has_frame (Some value.result))));
    most = k.most ∙ max_zero mid.registers ∙ h.0.most;
    next_slot = k.next_slot ∙ h.0.next_slot;
  }

-- ---- a value that is stored

module _ (old mid : Emitter) (x : Lvalue) (v : Code) where
  abbrev y : Made
  y = code_of old v

  abbrev z : Made
  z = behind (length old.code) y x.address

  abbrev whole : Made
  whole = code_of old (assigned x v)

  abbrev end : List Instr
  end = Touch z.result x.root ∷ Store z.result y.result x.ty ∷ []

  whole_length : length whole.code ≡ length y.code + length z.code + 2
  whole_length = omega (arith, length-append (y.code ++ z.code) end, length-append y.code z.code)

  pub assigned_stops : (e : Trouble) → Outcome old y (Err e) mid → Outcome old whole (Err e) mid
  assigned_stops Memory k = tt
  assigned_stops TooLong k = omega (arith, k, whole_length)

  module _ (a : ℕ) (h : Outcome old y (Ok a) mid) where
    mid_length : length mid.code + 0 ≡ length old.code + length y.code
    mid_length = omega (arith, ap length h.0.added, length-append old.code y.code)

    same_address : behind (length mid.code) (code_of mid (held a)) x.address ≡ z
    same_address = λ i. x.address (mid_length i) (h.0.next_register i) (h.0.next_slot i)

    stored : code_of mid (assigned x (held a))
        ≡ record { code = z.code ++ Touch z.result x.root ∷ Store z.result y.result x.ty ∷ []; result = y.result; register = z.register; slot = z.slot }
    stored = λ i. record {
      code = (same_address i).code ++ Touch (same_address i).result x.root ∷ Store (same_address i).result (h.1 i) x.ty ∷ [];
      result = h.1 i;
      register = (same_address i).register;
      slot = (same_address i).slot;
    }

    pub assigned_row : (new : Emitter) (r : Result ℕ Trouble) → Outcome mid (code_of mid (assigned x (held a))) r new → Outcome old whole r new
    assigned_row new (Err Memory) k = tt
    assigned_row new (Err TooLong) k =
        omega (arith, k, ap (λ n. length n.code) stored, mid_length, whole_length, length-append z.code end)
    assigned_row new (Ok n) k =
        let after : Outcome mid (record { code = z.code ++ end; result = y.result; register = z.register; slot = z.slot }) (Ok n) new =
        subst (λ n'. Outcome mid n' (Ok n) new) stored k in (
          record {
            added = after.0.added ∙ ap (λ c. c ++ (z.code ++ end)) h.0.added ∙ append_assoc old.code y.code (z.code ++ end)
                ∙ ap (λ c. old.code ++ c) (sym (append_assoc y.code z.code end));
            next_register = after.0.next_register;
            next_slot = after.0.next_slot;
          },
          after.1,
        )
