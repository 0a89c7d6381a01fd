-- A struct is copied behind the addresses of both.
use Rattle.std.proofs.Common.{◌≡◌, ◌∙◌, ℕ, ◌+◌, ◌*◌, List, ◌++◌, length, ap, sym, subst, append_assoc, length-append, Result, Ok}
use Rattle.c_types.specs.declared.ty.Ty.{Ty}
use Rattle.elab_rows.specs.Addresses.{Lvalue, copied_made, copied_parts, struct_assigned}
use Rattle.elab_emit.specs.Emits.{Outcome, Stops, code_of}
use Rattle.elab_rows.specs.Made.{Made, behind, held}
use Rattle.elab_emit.specs.declared.emitter.Emitter.{Emitter}
use Rattle.elab_emit.specs.declared.emitter.Trouble.{Trouble}
use Rattle.elab_parts.specs.inner.Behind.{prefixed}
use Rattle.elab_parts.proofs.Operands.{stops_behind, stops_front, then_made}

pub struct_row : (parts : List Ty) (to from : Lvalue) (old mid last new : Emitter) (p q : ℕ) (r : Result ℕ Trouble)
    → Outcome old (code_of old from.address) (Ok p) mid → Outcome mid (code_of mid to.address) (Ok q) last
    → Outcome last (copied_made from.root to.root parts (code_of last (held p)) (code_of last (held q))) r new
    → Outcome old (code_of old (struct_assigned parts to from)) r new
struct_row parts to from old mid last new p q r h k l =
    let x = code_of old from.address in
    let y = behind (length old.code) x to.address in
    let long : length mid.code ≡ length old.code + length x.code = ap length h.0.added ∙ length-append old.code x.code in
    let second : code_of mid to.address ≡ y = λ i. to.address (long i) (h.0.next_register i) (h.0.next_slot i) in
    let m = subst (λ z. Outcome mid z (Ok q) last) second k in
    let z : Made = record {
      code = copied_parts from.root to.root x.result y.result y.register 0 parts;
      result = x.result;
      register = y.register + 3 * length parts;
      slot = y.slot;
    } in
    let same : copied_made from.root to.root parts (code_of last (held p)) (code_of last (held q)) ≡ z =
    λ i. record {
      code = copied_parts from.root to.root (h.1 i) (m.1 i) (m.0.next_register i) 0 parts;
      result = h.1 i;
      register = m.0.next_register i + 3 * length parts;
      slot = m.0.next_slot i;
    } in
    let whole : prefixed x (prefixed y z) ≡ code_of old (struct_assigned parts to from) =
    λ i. record { code = sym (append_assoc x.code y.code z.code) i; result = x.result; register = z.register; slot = z.slot } in
    subst (λ n. Outcome old n r new) whole
    (then_made old mid new x (prefixed y z) p r h (then_made mid last new y z q r m (subst (λ n. Outcome last n r new) same l)))

pub struct_stop : (parts : List Ty) (to from : Lvalue) (old : Emitter) (e : Trouble)
    → Stops old (code_of old from.address).code e → Stops old (code_of old (struct_assigned parts to from)).code e
struct_stop parts to from old e h =
    let x = code_of old from.address in
    let y = behind (length old.code) x to.address in
    let z = copied_parts from.root to.root x.result y.result y.register 0 parts in
    subst (λ c. Stops old c e) (sym (append_assoc x.code y.code z)) (stops_front old x.code (y.code ++ z) e h)

pub struct_late : (parts : List Ty) (to from : Lvalue) (old mid : Emitter) (p : ℕ) (e : Trouble)
    → Outcome old (code_of old from.address) (Ok p) mid → Stops mid (code_of mid to.address).code e
    → Stops old (code_of old (struct_assigned parts to from)).code e
struct_late parts to from old mid p e h k =
    let x = code_of old from.address in
    let y = behind (length old.code) x to.address in
    let long : length mid.code ≡ length old.code + length x.code = ap length h.0.added ∙ length-append old.code x.code in
    let second : code_of mid to.address ≡ y = λ i. to.address (long i) (h.0.next_register i) (h.0.next_slot i) in
    let z = copied_parts from.root to.root x.result y.result y.register 0 parts in
    subst (λ c. Stops old c e) (sym (append_assoc x.code y.code z))
    (stops_behind old mid x.code (y.code ++ z) x.register x.slot e h.0
    (stops_front mid y.code z e (subst (λ m. Stops mid m.code e) second k)))
