-- Rows of lvalues, and of what is assigned, step by step: what stands behind a value that is there, and where a row stops.
use Rattle.std.proofs.Common.{◌≡◌, ◌∙◌, ℕ, ◌+◌, List, [], ◌∷◌, ◌++◌, length, ap, sym, refl, subst, arith, append_assoc, length-append, Result, Ok, Err}
use Rattle.c_types.specs.declared.structs.StructDef.{StructDef}
use Rattle.c_types.specs.declared.ty.Ty.{Ty, out-Ty}
use Rattle.c_tree.specs.declared.operator.BinaryOperator.{BinaryOperator}
use Rattle.c_tree.specs.declared.operator.BinaryOperator.TheVariants as binary
use Rattle.core_ir.specs.declared.instr.Instr.TheVariants.{PtrConst, SetLocal, Store, Touch, Unary}
use Rattle.core_ir.specs.declared.operator.Operator.{Operator}
use Rattle.elab_rows.specs.Addresses.{Lvalue, address_of, assigned, lvalue_value, member_address, pointing, restored_made, stored_made}
use Rattle.elab_emit.specs.Emits.{Outcome, Stops, code_of}
use Rattle.elab_rows.specs.Made.{Code, Made, behind, converted, held}
use Rattle.elab_rows.specs.Rows.{Operand, converted_to, last_code, operand_type, operated, operated_type, operation_code, operation_of, pointer_plus, unary_code}
use Rattle.elab_rows.specs.Values.{Part, assigned_by, converted_part, new_value, old_operand, operand}
use Rattle.elab_emit.specs.declared.emitter.Emitter.{Emitter}
use Rattle.elab_emit.specs.declared.emitter.Trouble.{Trouble}
use Rattle.elab_rows.specs.declared.named.Named.{Named}
use Rattle.elab_rows.specs.declared.named.Named.TheVariants as named
use Rattle.elab_rows.specs.declared.operation.Last.TheVariants as last
use Rattle.elab_rows.specs.declared.operation.Operation.{Operation}
use Rattle.elab_rows.specs.declared.scope.Scope.{Scope}
use Rattle.elab_emit.specs.Held.{from_root}
use Rattle.elab_parts.specs.inner.Behind.{BeginsWith, over, prefixed}
use Rattle.elab_parts.proofs.Operands.{behind_value, converted_over, extended_over, followed_over, last_first, last_second, pointing_over, stops_front, stops_value, then_made, value_over}
use Rattle.elab_parts.proofs.ValueRows.{over_over, operated_over}

-- ---- rows that begin with a value

pub new_over : (scope : Scope) (o : BinaryOperator) (x : Part) (y : Operand) → BeginsWith (new_value scope o x y)
new_over scope o x y =
    over_over (converted (operated_type scope.structs o (operand x) y) x.ty) (λ a. operated scope.structs o (old_operand x a) y)
    (converted_over (operated_type scope.structs o (operand x) y) x.ty) (operated_over scope.structs o (operand x) y)

pub assigned_over : (l : Lvalue) → BeginsWith (assigned l)
assigned_over l a place register slot =
    let x = a place register slot in
    let n = place + length x.code in
    let y = l.address n x.register x.slot in
    let end = Touch y.result l.root ∷ Store y.result x.result l.ty ∷ [] in
    let e : n ≡ n + 0 = omega arith in
    (λ i. record { code = append_assoc x.code y.code end i; result = x.result; register = y.register; slot = y.slot })
    ∙ ap (λ m. prefixed x (stored_made l.root l.ty (held x.result m x.register x.slot) (l.address m x.register x.slot))) e

pub assigned_by_over : (n : Named) (l : Lvalue) → BeginsWith (assigned_by n l)
assigned_by_over (named.Slot s) l = followed_over (λ x. SetLocal s x)
assigned_by_over (named.Function f) l = assigned_over l
assigned_by_over (named.BuiltIn b) l = assigned_over l
assigned_by_over (named.Global g) l = assigned_over l
assigned_by_over (named.Frame v) l = assigned_over l
assigned_by_over named.Other l = assigned_over l

-- ---- lvalues

pub lvalue_row : (l : Lvalue) (old mid new : Emitter) (p : ℕ) (r : Result ℕ Trouble) → Outcome old (code_of old l.address) (Ok p) mid
    → Outcome mid (code_of mid (lvalue_value (from_root l.ty l.root (held p)))) r new → Outcome old (code_of old (lvalue_value l)) r new
lvalue_row l old mid new p r h k =
    behind_value (λ a. lvalue_value (from_root l.ty l.root a)) (value_over l.ty l.root (out-Ty l.ty)) l.address old mid new p r h k

pub lvalue_stop : (l : Lvalue) (old : Emitter) (e : Trouble) → Stops old (code_of old l.address).code e → Stops old (code_of old (lvalue_value l)).code e
lvalue_stop l old e h = stops_value (λ a. lvalue_value (from_root l.ty l.root a)) (value_over l.ty l.root (out-Ty l.ty)) l.address old e h

pub pointer_row : (l : Lvalue) (old mid new : Emitter) (p : ℕ) (r : Result ℕ Trouble) → Outcome old (code_of old l.address) (Ok p) mid
    → Outcome mid (code_of mid (pointing l.root l.ty (held p))) r new → Outcome old (code_of old (address_of l)) r new
pointer_row l old mid new p r h k = behind_value (pointing l.root l.ty) (pointing_over l.root l.ty) l.address old mid new p r h k

pub pointer_stop : (l : Lvalue) (old : Emitter) (e : Trouble) → Stops old (code_of old l.address).code e → Stops old (code_of old (address_of l)).code e
pointer_stop l old e h = stops_value (pointing l.root l.ty) (pointing_over l.root l.ty) l.address old e h

-- ---- assignments

pub assigned_row : (n : Named) (l : Lvalue) (c : Code) (old mid new : Emitter) (x : ℕ) (r : Result ℕ Trouble) → Outcome old (code_of old c) (Ok x) mid
    → Outcome mid (code_of mid (assigned_by n l (held x))) r new → Outcome old (code_of old (assigned_by n l c)) r new
assigned_row n l c old mid new x r h k = behind_value (assigned_by n l) (assigned_by_over n l) c old mid new x r h k

pub assigned_stop : (n : Named) (l : Lvalue) (c : Code) (old : Emitter) (e : Trouble) → Stops old (code_of old c).code e → Stops old (code_of old (assigned_by n l c)).code e
assigned_stop n l c old e h = stops_value (assigned_by n l) (assigned_by_over n l) c old e h

-- an address is found behind the value that is assigned
pub stored_row : (l : Lvalue) (x : ℕ) (old mid new : Emitter) (p : ℕ) (r : Result ℕ Trouble) → Outcome old (code_of old l.address) (Ok p) mid
    → Outcome mid (restored_made l.root l.ty p (code_of mid (held x))) r new → Outcome old (code_of old (assigned l (held x))) r new
stored_row l x old mid new p r h k =
    let a = code_of old l.address in
    let y : Made = record {
      code = Touch a.result l.root ∷ Store a.result x l.ty ∷ [];
      result = x;
      register = a.register;
      slot = a.slot;
    } in
    let same : restored_made l.root l.ty p (code_of mid (held x)) ≡ y =
    λ i. restored_made l.root l.ty (h.1 i) (record { code = []; result = x; register = h.0.next_register i; slot = h.0.next_slot i }) in
    let e : length old.code + 0 ≡ length old.code = omega arith in
    subst (λ n. Outcome old (stored_made l.root l.ty (code_of old (held x)) (l.address n old.register old.slot)) r new) (sym e)
    (then_made old mid new a y p r h (subst (λ m. Outcome mid m r new) same k))

pub stored_stop : (l : Lvalue) (x : ℕ) (old : Emitter) (e : Trouble)
    → Stops old (code_of old l.address).code e → Stops old (code_of old (assigned l (held x))).code e
stored_stop l x old e h =
    let a = code_of old l.address in
    let n : length old.code + 0 ≡ length old.code = omega arith in
    subst (λ n. Stops old (stored_made l.root l.ty (code_of old (held x)) (l.address n old.register old.slot)).code e) (sym n)
    (stops_front old a.code (Touch a.result l.root ∷ Store a.result x l.ty ∷ []) e h)

-- ---- elements and members

pub element_row : (n : ℕ) (a i : Code) (old mid ready new : Emitter) (s v w : ℕ) (r : Result ℕ Trouble) → s ≡ n → Outcome old (code_of old a) (Ok v) mid
    → Outcome mid (code_of mid i) (Ok w) ready → Outcome ready (code_of ready (pointer_plus s (held v) (held w))) r new
    → Outcome old (code_of old (pointer_plus n a i)) r new
element_row n a i old mid ready new s v w r is h k l =
    behind_value (λ a. pointer_plus n a i) (last_first (last.PointerPlus n) i) a old mid new v r h
    (behind_value (λ b. pointer_plus n (held v) b) (last_second (last.PointerPlus n) v) i mid ready new w r k
    (subst (λ m. Outcome ready (code_of ready (pointer_plus m (held v) (held w))) r new) is l))

pub element_stop : (n : ℕ) (a i : Code) (old : Emitter) (e : Trouble)
    → Stops old (code_of old a).code e → Stops old (code_of old (pointer_plus n a i)).code e
element_stop n a i old e h = stops_value (λ a. pointer_plus n a i) (last_first (last.PointerPlus n) i) a old e h

pub element_late : (n : ℕ) (a i : Code) (old mid : Emitter) (v : ℕ) (e : Trouble) → Outcome old (code_of old a) (Ok v) mid
    → Stops mid (code_of mid i).code e → Stops old (code_of old (pointer_plus n a i)).code e
element_late n a i old mid v e h k =
    behind_value (λ a. pointer_plus n a i) (last_first (last.PointerPlus n) i) a old mid mid v (Err e) h
    (stops_value (λ b. pointer_plus n (held v) b) (last_second (last.PointerPlus n) v) i mid e k)

pub member_row : (n : ℕ) (a : Code) (old mid new : Emitter) (k v : ℕ) (r : Result ℕ Trouble) → k ≡ n → Outcome old (code_of old a) (Ok v) mid
    → Outcome mid (code_of mid (member_address k (held v))) r new → Outcome old (code_of old (member_address n a)) r new
member_row n a old mid new k v r is h l =
    behind_value (member_address n) (extended_over (λ d p. PtrConst d p n)) a old mid new v r h
    (subst (λ i. Outcome mid (code_of mid (member_address i (held v))) r new) is l)

pub member_stop : (n : ℕ) (a : Code) (old : Emitter) (e : Trouble)
    → Stops old (code_of old a).code e → Stops old (code_of old (member_address n a)).code e
member_stop n a old e h = stops_value (member_address n) (extended_over (λ d p. PtrConst d p n)) a old e h

pub unary_row : (o : Operator) (a : Code) (old mid new : Emitter) (v : ℕ) (r : Result ℕ Trouble) → Outcome old (code_of old a) (Ok v) mid
    → Outcome mid (code_of mid (unary_code o (held v))) r new → Outcome old (code_of old (unary_code o a)) r new
unary_row o a old mid new v r h k = behind_value (unary_code o) (extended_over (λ d x. Unary d o x)) a old mid new v r h k

pub unary_stop : (o : Operator) (a : Code) (old : Emitter) (e : Trouble)
    → Stops old (code_of old a).code e → Stops old (code_of old (unary_code o a)).code e
unary_stop o a old e h = stops_value (unary_code o) (extended_over (λ d x. Unary d o x)) a old e h

-- ---- what an operator gives, converted back

pub back_row : (from to : Ty) (a : Code) (old mid new : Emitter) (v : ℕ) (r : Result ℕ Trouble) → Outcome old (code_of old a) (Ok v) mid
    → Outcome mid (code_of mid (converted from to (held v))) r new → Outcome old (code_of old (converted from to a)) r new
back_row from to a old mid new v r h k = behind_value (converted from to) (converted_over from to) a old mid new v r h k

pub back_stop : (from to : Ty) (a : Code) (old : Emitter) (e : Trouble)
    → Stops old (code_of old a).code e → Stops old (code_of old (converted from to a)).code e
back_stop from to a old e h = stops_value (converted from to) (converted_over from to) a old e h
