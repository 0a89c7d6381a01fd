-- The rows that branch give registers types where their operands do.
use Rattle.std.proofs.Common.{◌≡◌, ◌∙◌, ℕ, pos, ◌+◌, List, [], ◌∷◌, ◌++◌, length, Some, refl, ap, sym, subst, arith, append_assoc, length-append}
use Rattle.c_types.specs.declared.ty.Ty.{Ty}
use Rattle.c_types.specs.declared.ty.Ty.TheVariants as ty
use Rattle.core_ir.specs.declared.instr.Instr.{Instr}
use Rattle.core_ir.specs.declared.instr.Instr.TheVariants.{Branch, Const, GetLocal, Jump, SetLocal}
use Rattle.core_ir.specs.declared.program.Function.{Function}
use Rattle.core_ir.specs.declared.program.Program.{Program}
use Rattle.core_ir.specs.Typed.{plain_type}
use Rattle.elab_rows.specs.Choices.{and_code, conditional_code, kept_in, or_code, or_lines, second_arm, tested, truth_lines}
use Rattle.elab_rows.specs.Made.{Code, Made, beyond}
use Rattle.elab_valid.proofs.HeldTypes as held
use Rattle.elab_valid.proofs.HeldTypes.{Holds}
use Rattle.elab_valid.proofs.RegisterTypes.{HasAt, Types, after, behind-one, behind-same, has-first, has-rest, run-append, typed-append}
use Rattle.elab_valid.proofs.TypedRows.{GivesType, HasValue}

module _ (p : Program) (f : Function) (base : Types → Type 0) where
  abbrev Value : Code → Ty → Type 0
  Value c t = HasValue p f base c t

  -- ---- `&&` and `||`

  -- from this register and slot on
  truth-holds : (d s l r : ℕ) → Holds p f base [] (record { code = truth_lines d s l; result = r; register = d + 3; slot = s + 1 }) d s ((d + 2, ty.Int) ∷ [])
  truth-holds d s l r = record {
    temps = ty.Int ∷ [];
    slot_is = refl;
    grows = omega arith;
    below = (omega arith, tt);
    typed = λ slots b at e g.
        let e1 = after p f slots e (Const d (pos 1)) in
        (tt, (ap plain_type (behind-same (Some d) d ty.Int e refl ∙ sym at.0), (tt, (tt, (ap plain_type (behind-same (Some (d + 1)) (d + 1) ty.Int e1 refl ∙ sym at.0), (tt, tt))))));
    has = λ slots b at e g.
        let e1 = after p f slots e (Const d (pos 1)) in
        let e2 = after p f slots e1 (Const (d + 1) (pos 0)) in
        (ap plain_type (behind-same (Some (d + 2)) (d + 2) (slots s) e2 refl ∙ at.0), tt);
    keeps = λ slots e w lt.
        let e1 = after p f slots e (Const d (pos 1)) in
        let e2 = after p f slots e1 (Const (d + 1) (pos 0)) in
        behind-one (Some (d + 2)) (d + 2) w (slots s) e2 refl (omega (arith, lt)) ∙ behind-one (Some (d + 1)) (d + 1) w ty.Int e1 refl (omega (arith, lt)) ∙ behind-one (Some d) d w ty.Int e refl lt;
  }

  -- V; Branch
  tested-holds : (x : Made) (register slot l : ℕ) (t : Ty) → GivesType p f base x register slot t [] → Holds p f base [] (record { code = tested x l; result = x.result; register = x.register; slot = x.slot }) register slot []
  tested-holds x register slot l t h =
      held.less p f base [] (record { code = tested x l; result = x.result; register = x.register; slot = x.slot }) register slot ((x.result, t) ∷ []) [] (λ n b. tt) (λ e g. tt)
      (held.uses p f base [] x register slot x.result ((x.result, t) ∷ []) (Branch x.result l) h refl (λ slots b e g. tt))

  truth-behind : (operands : List Instr) (y : Made) (register slot l r : ℕ) → Holds p f base [] (record { code = operands; result = r; register = y.register; slot = y.slot }) register slot []
      → Holds p f base [] (record { code = operands ++ truth_lines y.register y.slot l; result = y.register + 2; register = y.register + 3; slot = y.slot + 1 }) register slot ((y.register + 2, ty.Int) ∷ [])
  truth-behind operands y register slot l r h =
      held.both p f base [] (record { code = operands; result = r; register = y.register; slot = y.slot })
      (record { code = truth_lines y.register y.slot l; result = r; register = y.register + 3; slot = y.slot + 1 }) register slot (y.register + 2) [] ((y.register + 2, ty.Int) ∷ [])
      h (truth-holds y.register y.slot l r)

  pub and-typed : (a b : Code) (t u : Ty) → Value a t → Value b u → Value (and_code a b) ty.Int
  and-typed a b t u ha hb place register slot =
      let x = a place register slot in
      let y = beyond 1 place x b in
      let l = place + length x.code + 1 + length y.code + 4 in
      truth-behind (tested x l ++ tested y l) y register slot l y.result
      (held.both p f base [] (record { code = tested x l; result = x.result; register = x.register; slot = x.slot }) (record { code = tested y l; result = y.result; register = y.register; slot = y.slot })
      register slot y.result [] [] (tested-holds x register slot l t (ha place register slot)) (tested-holds y x.register x.slot l u (hb (place + length x.code + 1) x.register x.slot)))

  pub or-typed : (a b : Code) (t u : Ty) → Value a t → Value b u → Value (or_code a b) ty.Int
  or-typed a b t u ha hb place register slot =
      let x = a place register slot in
      let y = beyond 2 place x b in
      let m = place + length x.code + 2 in
      let l = m + length y.code + 1 in
      let first : Made = record { code = tested x m; result = x.result; register = x.register; slot = x.slot } in
      let jumped : Made = record { code = tested x m ++ Jump l ∷ []; result = x.result; register = x.register; slot = x.slot } in
      truth-behind (or_lines x y m l) y register slot (l + 3) y.result
      (held.both p f base [] jumped (record { code = tested y (l + 3); result = y.result; register = y.register; slot = y.slot }) register slot y.result [] []
      (held.uses p f base [] first register slot x.result [] (Jump l) (tested-holds x register slot m t (ha place register slot)) refl (λ slots b e g. tt))
      (tested-holds y x.register x.slot (l + 3) u (hb (place + length x.code + 2) x.register x.slot)))

  -- ---- `?:`

  -- the value is kept in a slot that has its type
  sets-holds : (more : Types → Type 0) (x : Made) (s register slot : ℕ) (t : Ty) → ((slots : Types) → more slots → slots s ≡ t) → Holds p f more [] x register slot ((x.result, t) ∷ [])
      → Holds p f more [] (record { code = kept_in x s; result = x.result; register = x.register; slot = x.slot }) register slot []
  sets-holds more x s register slot t known h =
      held.less p f more [] (record { code = kept_in x s; result = x.result; register = x.register; slot = x.slot }) register slot ((x.result, t) ∷ []) [] (λ n b. tt) (λ e g. tt)
      (held.uses p f more [] x register slot x.result ((x.result, t) ∷ []) (SetLocal s x.result) h refl (λ slots b e g. g.0 ∙ ap plain_type (sym (known slots b))))

  -- it is kept in the next slot, which has its type, and a jump stands behind it
  pub record KeptFirst (x : Made) (register slot l : ℕ) (t : Ty) : Type 0 where
    pub holds : Holds p f base [] (record { code = kept_in x x.slot ++ Jump l ∷ []; result = x.result; register = x.register; slot = x.slot + 1 }) register slot []
    pub kept : (slots : Types) → HasAt slots slot holds.temps → slots x.slot ≡ t

  first-holds : (x : Made) (register slot l : ℕ) (t : Ty) → GivesType p f base x register slot t [] → KeptFirst x register slot l t
  first-holds x register slot l t h =
      let set = SetLocal x.slot x.result ∷ [] in
      let in_slot = λ (slots : Types) (at : HasAt slots slot (h.temps ++ t ∷ [])). (has-rest slots slot x.slot h.temps (t ∷ []) h.slot_is at).0 in
      record {
        holds = record {
          temps = h.temps ++ t ∷ [];
          slot_is = omega (arith, h.slot_is, length-append h.temps (t ∷ []));
          grows = h.grows;
          below = tt;
          typed = λ slots b at e g.
              let front = has-first slots slot h.temps (t ∷ []) at in
              typed-append p f slots (x.code ++ set) (Jump l ∷ []) e
              (typed-append p f slots x.code set e (h.typed slots b front e g) ((h.has slots b front e g).0 ∙ ap plain_type (sym (in_slot slots at)), tt)) (tt, tt);
          has = λ slots b at e g. tt;
          keeps = λ slots e w lt.
              ap (λ z. z w) (run-append p f slots (x.code ++ set) (Jump l ∷ []) e) ∙ ap (λ z. z w) (run-append p f slots x.code set e) ∙ h.keeps slots e w lt;
        };
        kept = in_slot;
      }

  pub conditional-typed : (c a b : Code) (u t : Ty) → Value c u → Value a t → Value b t → Value (conditional_code c a b) t
  conditional-typed c a b u t hc ha hb place register slot =
      let z = c place register slot in
      let x = beyond 1 place z a in
      let y = second_arm (place + length z.code + 1) x b in
      let l = place + length z.code + 1 + length x.code + 2 in
      let end = l + length y.code + 1 in
      let known : Types → Type 0 = λ slots. base slots × (slots x.slot ≡ t) in
      let first = first-holds x z.register z.slot end t (ha (place + length z.code + 1) z.register z.slot) in
      let start : Made = record { code = kept_in x x.slot ++ Jump end ∷ []; result = x.result; register = x.register; slot = x.slot + 1 } in
      let ky : Made = record { code = kept_in y x.slot; result = y.result; register = y.register; slot = y.slot } in
      let rest : Made = record { code = kept_in y x.slot ++ GetLocal y.register x.slot ∷ []; result = y.register; register = y.register + 1; slot = y.slot } in
      let second = held.under p f base known [] [] y x.register (x.slot + 1) ((y.result, t) ∷ []) (λ slots k. k.0) (λ e g. g) (hb (place + length z.code + 1 + length x.code + 2) x.register (x.slot + 1)) in
      let both = held.append p f base known [] [] ((y.register, t) ∷ []) start rest z.register z.slot y.register first.holds
      (held.gives p f known [] ky x.register (x.slot + 1) y.register [] (GetLocal y.register x.slot) t (sets-holds known y x.slot x.register (x.slot + 1) t (λ slots k. k.1) second) refl
      (λ slots k e g. (tt, ap plain_type k.1))) (λ slots k at. (k, first.kept slots at)) in
      let arms_made : Made = record { code = start.code ++ rest.code; result = y.register; register = y.register + 1; slot = y.slot } in
      let test : Made = record { code = tested z l; result = z.result; register = z.register; slot = z.slot } in
      subst (λ is. Holds p f base [] (record { code = tested z l ++ is; result = y.register; register = y.register + 1; slot = y.slot }) register slot ((y.register, t) ∷ []))
      (sym (append_assoc start.code (kept_in y x.slot) (GetLocal y.register x.slot ∷ [])))
      (held.both p f base [] test arms_made register slot y.register [] ((y.register, t) ∷ []) (tested-holds z register slot l u (hc place register slot)) both)
