-- Assignments by what a name stands for, and those that add the number 1.
use Rattle.std.proofs.Common.{◌≡◌, ◌∙◌, ℕ, ap, sym, subst, Result, Ok}
use Rattle.c_typed.specs.declared.expression.TypedExpr.{TypedExpr}
use Rattle.c_tree.specs.declared.operator.BinaryOperator.{BinaryOperator}
use Rattle.elab_rows.specs.Addresses.{Lvalue, assigned, loaded, slot_assigned, slot_updated, updated}
use Rattle.elab_rows.specs.Made.{Code, Made}
use Rattle.elab_rows.specs.Rows.{slot_value}
use Rattle.elab_rows.specs.Values.{Part, assigned_by, old_value, one, operand, part, postfix_part, updated_by, updated_part}
use Rattle.elab_rows.specs.declared.named.Named.{Named}
use Rattle.elab_rows.specs.declared.named.Named.TheVariants as named
use Rattle.elab_rows.specs.declared.scope.Scope.{Scope}
use Rattle.elab_emit.specs.Emits.{Outcome, Stops, code_of}
use Rattle.elab_emit.specs.declared.emitter.Emitter.{Emitter}
use Rattle.elab_emit.specs.declared.emitter.Trouble.{Trouble}
use Rattle.elab_expr.specs.declared.assignments.Updated.{Updated}
use Rattle.elab_expr.specs.inner.Updates.{UpdateOutcome}
use Rattle.elab_parts.proofs.Nodes.{one_is, one_tree}

-- ---- names: m is what was found to be n

module _ (n m : Named) (l : Lvalue) (old new : Emitter) (is : m ≡ n) where
  pub assigned_slot : (s : ℕ) (a : Code) (r : Result ℕ Trouble) → m ≡ named.Slot s
      → Outcome old (code_of old (slot_assigned s a)) r new → Outcome old (code_of old (assigned_by n l a)) r new
  assigned_slot s a r slot h = subst (λ k. Outcome old (code_of old (assigned_by k l a)) r new) (sym slot ∙ is) h

  pub updated_slot : (s : ℕ) (f : Code → Code) (r : Result Updated Trouble) → m ≡ named.Slot s
      → UpdateOutcome old (code_of old (slot_updated s f)) (code_of old (slot_value s)).result r new
      → UpdateOutcome old (code_of old (updated_by n l f)) (code_of old (old_value n l)).result r new
  updated_slot s f r slot h =
      subst (λ k. UpdateOutcome old (code_of old (updated_by k l f)) (code_of old (old_value k l)).result r new) (sym slot ∙ is) h

pub assigned_other : (n m : Named) (l : Lvalue) (old new : Emitter) → m ≡ n → (a : Code) (r : Result ℕ Trouble)
    → ((s : ℕ) → m ≡ named.Slot s → ⊥) → Outcome old (code_of old (assigned l a)) r new → Outcome old (code_of old (assigned_by n l a)) r new
assigned_other (named.Slot s) m l old new is a r not_slot h = absurd (not_slot s is)
assigned_other (named.Function f) m l old new is a r not_slot h = h
assigned_other (named.BuiltIn b) m l old new is a r not_slot h = h
assigned_other (named.Global g) m l old new is a r not_slot h = h
assigned_other (named.Frame v) m l old new is a r not_slot h = h
assigned_other named.Other m l old new is a r not_slot h = h

pub updated_other : (n m : Named) (l : Lvalue) (old new : Emitter) → m ≡ n → (f : Code → Code) (r : Result Updated Trouble)
    → ((s : ℕ) → m ≡ named.Slot s → ⊥) → UpdateOutcome old (code_of old (updated l f)) (code_of old (loaded l)).result r new
    → UpdateOutcome old (code_of old (updated_by n l f)) (code_of old (old_value n l)).result r new
updated_other (named.Slot s) m l old new is f r not_slot h = absurd (not_slot s is)
updated_other (named.Function n) m l old new is f r not_slot h = h
updated_other (named.BuiltIn b) m l old new is f r not_slot h = h
updated_other (named.Global g) m l old new is f r not_slot h = h
updated_other (named.Frame v) m l old new is f r not_slot h = h
updated_other named.Other m l old new is f r not_slot h = h

-- ---- the number 1

pub counted_row : (scope : Scope) (o : BinaryOperator) (x : Part) (e : TypedExpr) → e ≡ one_tree → (old new : Emitter) (r : Result Updated Trouble)
    → UpdateOutcome old (code_of old (updated_part scope o x (operand (part scope e)))) (code_of old (old_value x.name x.lvalue)).result r new
    → UpdateOutcome old (code_of old (updated_part scope o x (operand one))) (code_of old (old_value x.name x.lvalue)).result r new
counted_row scope o x e is old new r h =
    subst (λ p. UpdateOutcome old (code_of old (updated_part scope o x (operand p))) (code_of old (old_value x.name x.lvalue)).result r new)
    (ap (part scope) is ∙ one_is scope) h

module _ (scope : Scope) (o : BinaryOperator) (x : Part) (old : Emitter) where
  pub postfix_row : (v : Updated) (new : Emitter)
      → UpdateOutcome old (code_of old (updated_part scope o x (operand one))) (code_of old (old_value x.name x.lvalue)).result (Ok v) new
      → Outcome old (code_of old (postfix_part scope o x)) (Ok v.old) new
  postfix_row v new h = (h.0, h.2)

  pub postfix_stop : (t : Trouble) → Stops old (code_of old (updated_part scope o x (operand one))).code t
      → Stops old (code_of old (postfix_part scope o x)).code t
  postfix_stop t h = h
