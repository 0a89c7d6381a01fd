-- Rows of whole expressions, step by step: what stands behind a value that is there, and where a row stops.
use Rattle.std.proofs.Common.{◌≡◌, ◌∙◌, ℕ, ◌+◌, List, [], ◌∷◌, ◌++◌, length, ap, sym, refl, subst, arith, append_assoc, length-append, Result, Ok, Err}
use Rattle.c_types.specs.declared.structs.StructDef.{StructDef}
use Rattle.c_types.specs.declared.ty.Ty.{Ty, out-Ty}
use Rattle.c_tree.specs.declared.operator.BinaryOperator.{BinaryOperator}
use Rattle.c_tree.specs.declared.operator.BinaryOperator.TheVariants as binary
use Rattle.core_ir.specs.declared.instr.Instr.TheVariants.{PtrConst, SetLocal, Store, Touch, Unary}
use Rattle.core_ir.specs.declared.operator.Operator.{Operator}
use Rattle.elab_rows.specs.Addresses.{Lvalue, address_of, assigned, lvalue_value, member_address, pointing, restored_made, stored_made}
use Rattle.elab_emit.specs.Emits.{Outcome, Stops, code_of}
use Rattle.elab_rows.specs.Made.{Code, Made, behind, converted, held}
use Rattle.elab_rows.specs.Rows.{Operand, converted_to, last_code, operand_type, operated, operated_type, operation_code, operation_of, pointer_plus, unary_code}
use Rattle.elab_rows.specs.Values.{Part, assigned_by, converted_part, new_value, old_operand, operand}
use Rattle.elab_emit.specs.declared.emitter.Emitter.{Emitter}
use Rattle.elab_emit.specs.declared.emitter.Trouble.{Trouble}
use Rattle.elab_rows.specs.declared.named.Named.{Named}
use Rattle.elab_rows.specs.declared.named.Named.TheVariants as named
use Rattle.elab_rows.specs.declared.operation.Last.TheVariants as last
use Rattle.elab_rows.specs.declared.operation.Operation.{Operation}
use Rattle.elab_rows.specs.declared.scope.Scope.{Scope}
use Rattle.elab_emit.specs.Held.{from_root}
use Rattle.elab_parts.specs.inner.Behind.{BeginsWith, over, prefixed}
use Rattle.elab_parts.proofs.Operands.{behind_value, converted_over, extended_over, followed_over, last_first, last_second, pointing_over, stops_front, stops_value, then_made, value_over}

-- ---- one row over another

pub over_over : (f g : Code → Code) → BeginsWith f → BeginsWith g → BeginsWith (λ a. f (g a))
over_over f g hf hg a place register slot =
    let x = a place register slot in
    let y = behind place x (g (held x.result)) in
    let gone : (λ p r s. g a p r s) ≡ over a g = λ i p r s. hg a p r s i in
    let first : f (g a) place register slot ≡ f (over a g) place register slot = ap (λ h. f h place register slot) gone in
    let second : f (over a g) place register slot ≡ over (over a g) f place register slot = hf (over a g) place register slot in
    let n : place + length (x.code ++ y.code) ≡ (place + length x.code) + length y.code = omega (arith, length-append x.code y.code) in
    let z : ℕ → Made = λ p. f (held y.result) p y.register y.slot in
    let third : over (over a g) f place register slot ≡ prefixed x (prefixed y (z ((place + length x.code) + length y.code))) =
    λ i. record (z (n i)) { code = append_assoc x.code y.code (z (n i)).code i } in
    let fourth : prefixed y (z ((place + length x.code) + length y.code)) ≡ f (g (held x.result)) (place + length x.code) x.register x.slot =
    sym (hf (g (held x.result)) (place + length x.code) x.register x.slot) in
    first ∙ second ∙ third ∙ ap (prefixed x) fourth

pub operation_over : (r : Operation) (x : Operand) (y : Operand) → BeginsWith (λ a. operation_code r (record x { code = a }) y)
operation_over r x y =
    over_over (λ a. last_code r.last a (converted_to r.second y)) (converted x.ty r.first) (last_first r.last (converted_to r.second y)) (converted_over x.ty r.first)

-- which row an operator has does not hang on the code of its operand
pub operation_same : (defs : List StructDef) (o : BinaryOperator) (x y : Operand) (a : Code)
    → operation_of defs o (record x { code = a }) y ≡ operation_of defs o x y
unfolding operand_type
operation_same defs binary.LogicalOr x y a = refl
operation_same defs binary.LogicalAnd x y a = refl
operation_same defs binary.BitwiseOr x y a = refl
operation_same defs binary.BitwiseExclusiveOr x y a = refl
operation_same defs binary.BitwiseAnd x y a = refl
operation_same defs binary.Equal x y a = refl
operation_same defs binary.NotEqual x y a = refl
operation_same defs binary.Less x y a = refl
operation_same defs binary.Greater x y a = refl
operation_same defs binary.LessEqual x y a = refl
operation_same defs binary.GreaterEqual x y a = refl
operation_same defs binary.ShiftLeft x y a = refl
operation_same defs binary.ShiftRight x y a = refl
operation_same defs binary.Add x y a = refl
operation_same defs binary.Subtract x y a = refl
operation_same defs binary.Multiply x y a = refl
operation_same defs binary.Divide x y a = refl
operation_same defs binary.Remainder x y a = refl

pub operated_over : (defs : List StructDef) (o : BinaryOperator) (x y : Operand) → BeginsWith (λ a. operated defs o (record x { code = a }) y)
operated_over defs o x y a place register slot =
    let same : (c : Code) → operation_code (operation_of defs o (record x { code = c }) y) (record x { code = c }) y place register slot
    ≡ operation_code (operation_of defs o x y) (record x { code = c }) y place register slot =
    λ c. ap (λ r. operation_code r (record x { code = c }) y place register slot) (operation_same defs o x y c) in
    let m = a place register slot in
    same a ∙ operation_over (operation_of defs o x y) x y a place register slot
    ∙ ap (prefixed m) (sym (ap (λ r. operation_code r (record x { code = held m.result }) y (place + length m.code) m.register m.slot) (operation_same defs o x y (held m.result))))

-- ---- values, converted

pub converted_row : (p : Part) (t : Ty) (old mid new : Emitter) (v : ℕ) (r : Result ℕ Trouble) → Outcome old (code_of old p.value) (Ok v) mid
    → Outcome mid (code_of mid (converted_to t (old_operand p (held v)))) r new → Outcome old (code_of old (converted_part p t)) r new
converted_row p t old mid new v r h k = behind_value (converted (operand p).ty t) (converted_over (operand p).ty t) p.value old mid new v r h k

pub converted_stop : (p : Part) (t : Ty) (old : Emitter) (e : Trouble) → Stops old (code_of old p.value).code e → Stops old (code_of old (converted_part p t)).code e
converted_stop p t old e h = stops_value (converted (operand p).ty t) (converted_over (operand p).ty t) p.value old e h

-- ---- operators

pub binary_step : (defs : List StructDef) (o : BinaryOperator) (p : Part) (y : Operand) (old mid new : Emitter) (v : ℕ) (r : Result ℕ Trouble)
    → Outcome old (code_of old p.value) (Ok v) mid
    → Outcome mid (code_of mid (operated defs o (old_operand p (held v)) y)) r new → Outcome old (code_of old (operated defs o (operand p) y)) r new
binary_step defs o p y old mid new v r h k = behind_value (λ a. operated defs o (old_operand p a) y) (operated_over defs o (operand p) y) p.value old mid new v r h k

pub binary_stop : (defs : List StructDef) (o : BinaryOperator) (p : Part) (y : Operand) (old : Emitter) (e : Trouble)
    → Stops old (code_of old p.value).code e → Stops old (code_of old (operated defs o (operand p) y)).code e
binary_stop defs o p y old e h = stops_value (λ a. operated defs o (old_operand p a) y) (operated_over defs o (operand p) y) p.value old e h

pub operation_step : (m : Operation) (x y : Operand) (old mid ready new : Emitter) (v w : ℕ) (r : Result ℕ Trouble)
    → Outcome old (code_of old (converted_to m.first x)) (Ok v) mid
    → Outcome mid (code_of mid (converted_to m.second y)) (Ok w) ready
    → Outcome ready (code_of ready (last_code m.last (held v) (held w))) r new → Outcome old (code_of old (operation_code m x y)) r new
operation_step m x y old mid ready new v w r h k l =
    behind_value (λ a. last_code m.last a (converted_to m.second y)) (last_first m.last (converted_to m.second y)) (converted_to m.first x) old mid new v r h
    (behind_value (λ b. last_code m.last (held v) b) (last_second m.last v) (converted_to m.second y) mid ready new w r k l)

pub operation_stop : (m : Operation) (x y : Operand) (old : Emitter) (e : Trouble)
    → Stops old (code_of old (converted_to m.first x)).code e → Stops old (code_of old (operation_code m x y)).code e
operation_stop m x y old e h =
    stops_value (λ a. last_code m.last a (converted_to m.second y)) (last_first m.last (converted_to m.second y)) (converted_to m.first x) old e h

pub operation_late : (m : Operation) (x y : Operand) (old mid : Emitter) (v : ℕ) (e : Trouble) → Outcome old (code_of old (converted_to m.first x)) (Ok v) mid
    → Stops mid (code_of mid (converted_to m.second y)).code e → Stops old (code_of old (operation_code m x y)).code e
operation_late m x y old mid v e h k =
    behind_value (λ a. last_code m.last a (converted_to m.second y)) (last_first m.last (converted_to m.second y)) (converted_to m.first x) old mid mid v (Err e) h
    (stops_value (λ b. last_code m.last (held v) b) (last_second m.last v) (converted_to m.second y) mid e k)

-- what an operation emits, where that operation was found
pub operated_row : (defs : List StructDef) (o : BinaryOperator) (x : Part) (y : Operand) (a : Code) (m : Operation) (old new : Emitter) (r : Result ℕ Trouble)
    → m ≡ operation_of defs o (operand x) y → Outcome old (code_of old (operation_code m (old_operand x a) y)) r new
    → Outcome old (code_of old (operated defs o (old_operand x a) y)) r new
operated_row defs o x y a m old new r is h =
    subst (λ n. Outcome old (code_of old (operation_code n (old_operand x a) y)) r new) (is ∙ sym (operation_same defs o (operand x) y a)) h
