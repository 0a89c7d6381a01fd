-- What `op=`, `++` and `--` emit, step by step.
use Rattle.std.proofs.Common.{◌≡◌, ℕ, [], ◌∷◌, subst, Result, Ok, Err}
use Rattle.c_types.specs.declared.ty.Ty.{Ty}
use Rattle.core_ir.specs.declared.instr.Instr.TheVariants.{SetLocal, Store, Touch}
use Rattle.elab_rows.specs.Addresses.{Lvalue, loaded, restored_made, slot_assigned, slot_updated, updated}
use Rattle.elab_emit.specs.Emits.{Outcome, Stops, code_of}
use Rattle.elab_rows.specs.Made.{Code, Made, held}
use Rattle.c_tree.specs.declared.operator.BinaryOperator.{BinaryOperator}
use Rattle.elab_rows.specs.Rows.{Operand, slot_value}
use Rattle.elab_rows.specs.Values.{Part, new_value}
use Rattle.elab_rows.specs.declared.scope.Scope.{Scope}
use Rattle.elab_emit.specs.declared.emitter.Emitter.{Emitter}
use Rattle.elab_emit.specs.declared.emitter.Trouble.{Trouble}
use Rattle.elab_parts.specs.inner.Behind.{BeginsWith}
use Rattle.elab_expr.specs.inner.Updates.{UpdateOutcome}
use Rattle.elab_parts.proofs.Operands.{behind_value, followed_over, loaded_over, stops_front, stops_value, then_made}
use Rattle.elab_expr.proofs.LvalueRows.{new_over}

pub restored_step : (root t : Ty) (p q : ℕ) (m : Made) (old mid new : Emitter) (v : ℕ) (r : Result ℕ Trouble)
    → Outcome old m (Ok v) mid → p ≡ q → Outcome mid (restored_made root t p (code_of mid (held v))) r new
    → Outcome old (restored_made root t q m) r new
restored_step root t p q m old mid new v r h e k =
    let y : Made = restored_made root t q (record m { code = [] }) in
    let same : restored_made root t p (code_of mid (held v)) ≡ y =
    λ i. restored_made root t (e i) (record { code = []; result = h.1 i; register = h.0.next_register i; slot = h.0.next_slot i }) in
    then_made old mid new m y v r h (subst (λ n. Outcome mid n r new) same k)

pub slot_step : (s : ℕ) (f : Code → Code) → BeginsWith f → (old mid last new : Emitter) (o n : ℕ) (r : Result ℕ Trouble)
    → Outcome old (code_of old (slot_value s)) (Ok o) mid → Outcome mid (code_of mid (f (held o))) (Ok n) last
    → Outcome last (code_of last (slot_assigned s (held n))) r new → Outcome old (code_of old (slot_updated s f)) r new
slot_step s f begins old mid last new o n r h k l =
    behind_value (slot_assigned s) (followed_over (λ x. SetLocal s x)) (f (slot_value s)) old last new n r
    (behind_value f begins (slot_value s) old mid last o (Ok n) h k) l

pub slot_stop : (s : ℕ) (f : Code → Code) → BeginsWith f → (old : Emitter) (e : Trouble)
    → Stops old (code_of old (slot_value s)).code e → Stops old (code_of old (slot_updated s f)).code e
slot_stop s f begins old e h =
    stops_value (slot_assigned s) (followed_over (λ x. SetLocal s x)) (f (slot_value s)) old e (stops_value f begins (slot_value s) old e h)

pub slot_late : (s : ℕ) (f : Code → Code) → BeginsWith f → (old mid : Emitter) (o : ℕ) (e : Trouble)
    → Outcome old (code_of old (slot_value s)) (Ok o) mid → Stops mid (code_of mid (f (held o))).code e
    → Stops old (code_of old (slot_updated s f)).code e
slot_late s f begins old mid o e h k =
    stops_value (slot_assigned s) (followed_over (λ x. SetLocal s x)) (f (slot_value s)) old e
    (behind_value f begins (slot_value s) old mid mid o (Err e) h k)

pub loaded_step : (l : Lvalue) (old mid opened : Emitter) (p : ℕ) (r : Result ℕ Trouble) → Outcome old (code_of old l.address) (Ok p) mid
    → Outcome mid (code_of mid (loaded (record l { address = held p }))) r opened → Outcome old (code_of old (loaded l)) r opened
loaded_step l old mid opened p r h k = behind_value (λ a. loaded (record l { address = a })) (loaded_over l) l.address old mid opened p r h k

-- what an update begins with
updated_stop : (l : Lvalue) (f : Code → Code) (old : Emitter) (e : Trouble) → Stops old (code_of old (f (loaded l))).code e → Stops old (code_of old (updated l f)).code e
updated_stop l f old e h =
    stops_front old (code_of old (f (loaded l))).code
    (Touch (code_of old l.address).result l.root ∷ Store (code_of old l.address).result (code_of old (f (loaded l))).result l.ty ∷ []) e h

pub address_stop : (l : Lvalue) (f : Code → Code) → BeginsWith f → (old : Emitter) (e : Trouble)
    → Stops old (code_of old l.address).code e → Stops old (code_of old (updated l f)).code e
address_stop l f begins old e h =
    updated_stop l f old e (stops_value f begins (loaded l) old e
    (stops_value (λ a. loaded (record l { address = a })) (loaded_over l) l.address old e h))

pub loaded_stop : (l : Lvalue) (f : Code → Code) → BeginsWith f → (old mid : Emitter) (p : ℕ) (e : Trouble) → Outcome old (code_of old l.address) (Ok p) mid
    → Stops mid (code_of mid (loaded (record l { address = held p }))).code e → Stops old (code_of old (updated l f)).code e
loaded_stop l f begins old mid p e h k =
    updated_stop l f old e (stops_value f begins (loaded l) old e (loaded_step l old mid mid p (Err e) h k))

pub memory_step : (l : Lvalue) (f : Code → Code) → BeginsWith f → (old mid opened last new : Emitter) (p o n : ℕ) (r : Result ℕ Trouble)
    → Outcome old (code_of old l.address) (Ok p) mid
    → Outcome mid (code_of mid (loaded (record l { address = held p }))) (Ok o) opened
    → Outcome opened (code_of opened (f (held o))) (Ok n) last
    → Outcome last (restored_made l.root l.ty p (code_of last (held n))) r new → Outcome old (code_of old (updated l f)) r new
memory_step l f begins old mid opened last new p o n r h k m g =
    restored_step l.root l.ty p (code_of old l.address).result (code_of old (f (loaded l))) old last new n r
    (behind_value f begins (loaded l) old opened last o (Ok n) (loaded_step l old mid opened p (Ok o) h k) m) h.1 g

pub memory_late : (l : Lvalue) (f : Code → Code) → BeginsWith f → (old mid opened : Emitter) (p o : ℕ) (e : Trouble)
    → Outcome old (code_of old l.address) (Ok p) mid
    → Outcome mid (code_of mid (loaded (record l { address = held p }))) (Ok o) opened
    → Stops opened (code_of opened (f (held o))).code e → Stops old (code_of old (updated l f)).code e
memory_late l f begins old mid opened p o e h k m =
    updated_stop l f old e (behind_value f begins (loaded l) old opened opened o (Err e) (loaded_step l old mid opened p (Ok o) h k) m)

-- ---- the same, of the operators of the language

module _ (scope : Scope) (o : BinaryOperator) (x : Part) (y : Operand) where
  abbrev next : Code → Code
  next = new_value scope o x y

  pub slot_row : (s : ℕ) (old mid last new : Emitter) (a n : ℕ) (r : Result ℕ Trouble)
      → Outcome old (code_of old (slot_value s)) (Ok a) mid → Outcome mid (code_of mid (next (held a))) (Ok n) last
      → Outcome last (code_of last (slot_assigned s (held n))) r new → Outcome old (code_of old (slot_updated s next)) r new
  slot_row s old mid last new a n r h k l = slot_step s next (new_over scope o x y) old mid last new a n r h k l

  -- with the old value beside the new one
  pub slot_both : (s : ℕ) (old mid last new : Emitter) (a n w : ℕ)
      → Outcome old (code_of old (slot_value s)) (Ok a) mid → Outcome mid (code_of mid (next (held a))) (Ok n) last
      → Outcome last (code_of last (slot_assigned s (held n))) (Ok w) new
      → UpdateOutcome old (code_of old (slot_updated s next)) (code_of old (slot_value s)).result (Ok (record { old = a; new = w })) new
  slot_both s old mid last new a n w h k l =
      let m : Outcome old (code_of old (slot_updated s next)) (Ok w) new = slot_row s old mid last new a n (Ok w) h k l in
      (m.0, m.1, h.1)

  pub slot_row_stop : (s : ℕ) (old : Emitter) (e : Trouble)
      → Stops old (code_of old (slot_value s)).code e → Stops old (code_of old (slot_updated s next)).code e
  slot_row_stop s old e h = slot_stop s next (new_over scope o x y) old e h

  pub slot_row_late : (s : ℕ) (old mid : Emitter) (a : ℕ) (e : Trouble)
      → Outcome old (code_of old (slot_value s)) (Ok a) mid → Stops mid (code_of mid (next (held a))).code e
      → Stops old (code_of old (slot_updated s next)).code e
  slot_row_late s old mid a e h k = slot_late s next (new_over scope o x y) old mid a e h k

  pub memory_row : (old mid opened last new : Emitter) (p a n : ℕ) (r : Result ℕ Trouble)
      → Outcome old (code_of old x.lvalue.address) (Ok p) mid
      → Outcome mid (code_of mid (loaded (record x.lvalue { address = held p }))) (Ok a) opened
      → Outcome opened (code_of opened (next (held a))) (Ok n) last
      → Outcome last (restored_made x.lvalue.root x.lvalue.ty p (code_of last (held n))) r new
      → Outcome old (code_of old (updated x.lvalue next)) r new
  memory_row old mid opened last new p a n r h k m g = memory_step x.lvalue next (new_over scope o x y) old mid opened last new p a n r h k m g

  pub memory_both : (old mid opened last new : Emitter) (p a n w : ℕ)
      → Outcome old (code_of old x.lvalue.address) (Ok p) mid
      → Outcome mid (code_of mid (loaded (record x.lvalue { address = held p }))) (Ok a) opened
      → Outcome opened (code_of opened (next (held a))) (Ok n) last
      → Outcome last (restored_made x.lvalue.root x.lvalue.ty p (code_of last (held n))) (Ok w) new
      → UpdateOutcome old (code_of old (updated x.lvalue next)) (code_of old (loaded x.lvalue)).result (Ok (record { old = a; new = w })) new
  memory_both old mid opened last new p a n w h k m g =
      let whole : Outcome old (code_of old (updated x.lvalue next)) (Ok w) new = memory_row old mid opened last new p a n (Ok w) h k m g in
      let first : Outcome old (code_of old (loaded x.lvalue)) (Ok a) opened = loaded_step x.lvalue old mid opened p (Ok a) h k in
      (whole.0, whole.1, first.1)

  pub memory_row_stop : (old : Emitter) (e : Trouble)
      → Stops old (code_of old x.lvalue.address).code e → Stops old (code_of old (updated x.lvalue next)).code e
  memory_row_stop old e h = address_stop x.lvalue next (new_over scope o x y) old e h

  pub memory_row_loads : (old mid : Emitter) (p : ℕ) (e : Trouble) → Outcome old (code_of old x.lvalue.address) (Ok p) mid
      → Stops mid (code_of mid (loaded (record x.lvalue { address = held p }))).code e → Stops old (code_of old (updated x.lvalue next)).code e
  memory_row_loads old mid p e h k = loaded_stop x.lvalue next (new_over scope o x y) old mid p e h k

  pub memory_row_late : (old mid opened : Emitter) (p a : ℕ) (e : Trouble) → Outcome old (code_of old x.lvalue.address) (Ok p) mid
      → Outcome mid (code_of mid (loaded (record x.lvalue { address = held p }))) (Ok a) opened
      → Stops opened (code_of opened (next (held a))).code e → Stops old (code_of old (updated x.lvalue next)).code e
  memory_row_late old mid opened p a e h k m = memory_late x.lvalue next (new_over scope o x y) old mid opened p a e h k m
