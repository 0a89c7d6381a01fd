-- Rows that begin with the code of an operand, and how one emission stands behind another.
use Rattle.std.proofs.Common.{◌≡◌, ◌∙◌, ℕ, pos, ◌+◌, Bool, true, false, if◌then◌else◌, List, [], ◌∷◌, ◌++◌, length, ap, sym, refl, subst, arith, append_assoc, append-nil, length-append, Result, Ok, Err}
use Rattle.c_types.specs.declared.ty.Ty.{Ty}
use Rattle.c_types.specs.declared.ty.Ty.TheOpen.{Ty-F}
use Rattle.c_types.specs.declared.ty.Ty.TheVariants as ty
use Rattle.c_types.specs.Kinds.{Outer}
use Rattle.c_types.specs.Same.{same}
use Rattle.core_ir.specs.declared.instr.Instr.{Instr}
use Rattle.core_ir.specs.declared.instr.Instr.TheVariants.{Binary, Cast, Const, Load, PtrAdd, Touch, Unary}
use Rattle.core_ir.specs.declared.operator.Operator.TheVariants as operator
use Rattle.core_ir.specs.Typed.{element_of}
use Rattle.elab_rows.specs.Addresses.{Lvalue, loaded, pointing, value_at}
use Rattle.elab_emit.specs.Emits.{Adds, Outcome, Stops, code_of}
use Rattle.elab_rows.specs.Made.{Code, Made, behind, combined, combined_made, converted, extended, extended_made, followed, held}
use Rattle.elab_rows.specs.Rows.{last_code}
use Rattle.elab_emit.specs.declared.emitter.Emitter.{Emitter}
use Rattle.elab_emit.specs.declared.emitter.Trouble.{Trouble}
use Rattle.elab_emit.specs.declared.emitter.Trouble.TheVariants.{TooLong, Memory}
use Rattle.elab_rows.specs.declared.operation.Last.{Last}
use Rattle.elab_rows.specs.declared.operation.Last.TheVariants as last
use Rattle.elab_emit.specs.Held.{from_root}
use Rattle.elab_parts.specs.inner.Behind.{BeginsWith, prefixed}

-- ---- rows that begin with an operand

with_code : (m : Made) (c : List Instr) → c ≡ m.code → record m { code = c } ≡ m
with_code m c e = λ j. record m { code = e j }

pub extended_over : (i : ℕ → ℕ → Instr) → BeginsWith (extended i)
extended_over i a place register slot = refl

pub followed_over : (i : ℕ → Instr) → BeginsWith (followed i)
followed_over i a place register slot = refl

pub alone_over : BeginsWith (λ a. a)
alone_over a place register slot = let x = a place register slot in sym (with_code x (x.code ++ []) (append-nil x.code))

pub choice_over : (b : Bool) (f g : Code → Code) → BeginsWith f → BeginsWith g → BeginsWith (λ a. if b then f a else g a)
choice_over true f g hf hg = hf
choice_over false f g hf hg = hg

pub converted_over : (from to : Ty) → BeginsWith (converted from to)
converted_over from to = choice_over (same from to) (λ a. a) (extended (λ d x. Cast d x from to)) alone_over (extended_over (λ d x. Cast d x from to))

pub pointing_over : (root target : Ty) → BeginsWith (pointing root target)
pointing_over root target =
    choice_over (same (element_of root) (element_of target)) (λ a. a) (extended (λ d p. Cast d p (ty.Pointer root) (ty.Pointer target)))
    alone_over (extended_over (λ d p. Cast d p (ty.Pointer root) (ty.Pointer target)))

pub loaded_over : (l : Lvalue) → BeginsWith (λ a. loaded (record l { address = a }))
loaded_over l a place register slot =
    let x = a place register slot in
    λ i. record {
      code = append_assoc x.code (Touch x.result l.root ∷ []) (Load x.register x.result l.ty ∷ []) i;
      result = x.register;
      register = x.register + 1;
      slot = x.slot;
    }

pub value_over : (t root : Ty) (o : Outer) → BeginsWith (λ a. value_at (from_root t root a) o)
value_over t root (Ty-F.Array element n) = pointing_over root element
value_over t root (Ty-F.Struct s) = alone_over
value_over t root Ty-F.Int = loaded_over (from_root t root (held 0))
value_over t root Ty-F.Char = loaded_over (from_root t root (held 0))
value_over t root Ty-F.Void = loaded_over (from_root t root (held 0))
value_over t root (Ty-F.Pointer u) = loaded_over (from_root t root (held 0))
value_over t root (Ty-F.Function f) = loaded_over (from_root t root (held 0))

pub first_over : (i : ℕ → ℕ → ℕ → Instr) (b : Code) → BeginsWith (λ a. combined i a b)
first_over i b a place register slot =
    let x = a place register slot in
    let n = place + length x.code in
    let y = b n x.register x.slot in
    let e : n ≡ n + 0 = omega arith in
    (λ j. record {
      code = append_assoc x.code y.code (i y.register x.result y.result ∷ []) j;
      result = y.register;
      register = y.register + 1;
      slot = y.slot;
    })
    ∙ ap (λ m. prefixed x (combined_made i (held x.result m x.register x.slot) (b m x.register x.slot))) e

pub second_over : (i : ℕ → ℕ → ℕ → Instr) (r : ℕ) → BeginsWith (λ b. combined i (held r) b)
second_over i r b place register slot =
    let e : place + 0 ≡ place = omega arith in
    ap (λ m. combined_made i (held r m register slot) (b m register slot)) e

-- a difference by the units of what is pointed to
abbrev difference_made : ℕ → Made → Made → Made
difference_made k x y =
    let u = combined_made (λ d p q. Binary d operator.Subtract p q) x y in
    combined_made (λ d p q. Binary d operator.Divide p q) u
    (record { code = Const u.register (pos k) ∷ []; result = u.register; register = u.register + 1; slot = u.slot })

pub last_first : (l : Last) (b : Code) → BeginsWith (λ a. last_code l a b)
last_first (last.Binary o) b = first_over (λ d x y. Binary d o x y) b
last_first (last.PointerPlus n) b = first_over (λ d x y. PtrAdd d x y n) b
last_first (last.PlusPointer n) b = first_over (λ d x y. PtrAdd d y x n) b
last_first (last.PointerMinus n) b = first_over (λ d x y. PtrAdd d x y n) (extended (λ d x. Unary d operator.Subtract x) b)
last_first (last.PointerDifference k) b = λ a place register slot.
    let x = a place register slot in
    let n = place + length x.code in
    let y = b n x.register x.slot in
    let s = Binary y.register operator.Subtract x.result y.result ∷ [] in
    let c = Const (y.register + 1) (pos k) ∷ [] in
    let q = Binary (y.register + 1 + 1) operator.Divide y.register (y.register + 1) ∷ [] in
    let e : (((x.code ++ y.code) ++ s) ++ c) ++ q ≡ x.code ++ (((y.code ++ s) ++ c) ++ q) = simp append_assoc in
    let m : n ≡ n + 0 = omega arith in
    (λ j. record { code = e j; result = y.register + 1 + 1; register = y.register + 1 + 1 + 1; slot = y.slot })
    ∙ ap (λ l. prefixed x (difference_made k (held x.result l x.register x.slot) (b l x.register x.slot))) m

pub last_second : (l : Last) (r : ℕ) → BeginsWith (λ b. last_code l (held r) b)
last_second (last.Binary o) r = second_over (λ d x y. Binary d o x y) r
last_second (last.PointerPlus n) r = second_over (λ d x y. PtrAdd d x y n) r
last_second (last.PlusPointer n) r = second_over (λ d x y. PtrAdd d y x n) r
last_second (last.PointerMinus k) r = λ b place register slot.
    let y = b place register slot in
    let u = Unary y.register operator.Subtract y.result ∷ [] in
    let p = PtrAdd (y.register + 1) r y.register k ∷ [] in
    let e : place + 0 ≡ place = omega arith in
    ap (λ m. combined_made (λ d x y. PtrAdd d x y k) (held r m register slot)
    (extended_made (λ d x. Unary d operator.Subtract x) (b m register slot))) e
    ∙ (λ j. record { code = append_assoc y.code u p j; result = y.register + 1; register = y.register + 1 + 1; slot = y.slot })
last_second (last.PointerDifference k) r = λ b place register slot.
    let y = b place register slot in
    let s = Binary y.register operator.Subtract r y.result ∷ [] in
    let c = Const (y.register + 1) (pos k) ∷ [] in
    let q = Binary (y.register + 1 + 1) operator.Divide y.register (y.register + 1) ∷ [] in
    let e : ((y.code ++ s) ++ c) ++ q ≡ y.code ++ ((s ++ c) ++ q) = simp append_assoc in
    let z : place + 0 ≡ place = omega arith in
    ap (λ m. difference_made k (held r m register slot) (b m register slot)) z
    ∙ (λ j. record { code = e j; result = y.register + 1 + 1; register = y.register + 1 + 1 + 1; slot = y.slot })

-- ---- one emission behind another

pub stops_front : (old : Emitter) (c d : List Instr) (e : Trouble) → Stops old c e → Stops old (c ++ d) e
stops_front old c d TooLong h = omega (arith, h, length-append c d)
stops_front old c d Memory h = tt

pub stops_behind : (old mid : Emitter) (c d : List Instr) (r s : ℕ) (e : Trouble) → Adds old c r s mid → Stops mid d e → Stops old (c ++ d) e
stops_behind old mid c d r s TooLong h k = omega (arith, k, length-append c d, ap length h.added, length-append old.code c)
stops_behind old mid c d r s Memory h k = tt

pub then_made : (old mid new : Emitter) (x y : Made) (v : ℕ) (r : Result ℕ Trouble)
    → Outcome old x (Ok v) mid → Outcome mid y r new → Outcome old (prefixed x y) r new
then_made old mid new x y v (Ok w) h k = (
  record {
    added = k.0.added ∙ ap (λ c. c ++ y.code) h.0.added ∙ append_assoc old.code x.code y.code;
    next_register = k.0.next_register;
    next_slot = k.0.next_slot;
  },
  k.1,
)
then_made old mid new x y v (Err e) h k = stops_behind old mid x.code y.code x.register x.slot e h.0 k

-- the rest of a row stands behind its operand
pub behind_value : (f : Code → Code) → BeginsWith f → (a : Code) (old mid new : Emitter) (v : ℕ) (r : Result ℕ Trouble)
    → Outcome old (code_of old a) (Ok v) mid → Outcome mid (code_of mid (f (held v))) r new → Outcome old (code_of old (f a)) r new
behind_value f begins a old mid new v r h k =
    let x = code_of old a in
    let long : length mid.code ≡ length old.code + length x.code = ap length h.0.added ∙ length-append old.code x.code in
    let same : code_of mid (f (held v)) ≡ behind (length old.code) x (f (held x.result)) =
    λ j. f (held (h.1 j)) (long j) (h.0.next_register j) (h.0.next_slot j) in
    subst (λ m. Outcome old m r new) (sym (begins a (length old.code) old.register old.slot))
    (then_made old mid new x (behind (length old.code) x (f (held x.result))) v r h (subst (λ m. Outcome mid m r new) same k))

-- a row stops where its operand does
pub stops_value : (f : Code → Code) → BeginsWith f → (a : Code) (old : Emitter) (e : Trouble)
    → Stops old (code_of old a).code e → Stops old (code_of old (f a)).code e
stops_value f begins a old e h =
    let x = code_of old a in
    subst (λ m. Stops old m.code e) (sym (begins a (length old.code) old.register old.slot))
    (stops_front old x.code (behind (length old.code) x (f (held x.result))).code e h)
