-- The rows of addresses, of what lvalues give as values, and of assignments, over the code of their parts.
use Rattle.std.specs.Prelude.{ℕ, ◌+◌, ◌*◌, Bool, if◌then◌else◌, List, [], ◌∷◌, ◌++◌, length}
use Rattle.c_types.specs.declared.ty.Ty.{Ty, out-Ty}
use Rattle.c_types.specs.declared.ty.Ty.TheOpen.{Ty-F}
use Rattle.c_types.specs.declared.ty.Ty.TheVariants as ty
use Rattle.c_types.specs.Kinds.{Outer}
use Rattle.c_types.specs.Same.{same}
use Rattle.core_ir.specs.declared.instr.Instr.{Instr}
use Rattle.core_ir.specs.declared.instr.Instr.TheVariants.{AddrG, AddrL, SetLocal, PtrConst, Cast, Touch, Load, Store}
use Rattle.core_ir.specs.Typed.{element_of}
use Rattle.elab_rows.specs.Made.{Code, Made, behind, extended, followed, single}
use Rattle.elab_rows.specs.Rows.{pointer_plus, slot_value}

-- What the rows ask of an lvalue. Its root is its variable, or the target of the pointer that is dereferenced.
pub record Lvalue : Type 0 where
  pub ty : Ty
  pub root : Ty
  pub address : Code
  -- it is `e.f` or `e->f`
  pub is_member : Bool

-- ---- addresses

-- A of a variable | AddrG or AddrL
abbrev pub global_address : ℕ → Code
global_address g = single (λ d. AddrG d g)

abbrev pub local_address : ℕ → Code
local_address v = single (λ d. AddrL d v)

-- A of `e[i]` | V(e); V(i), converted to `int`; PtrAdd
abbrev pub element_address : ℕ → Code → Code → Code
element_address n p i = pointer_plus n p i

-- A of `e.f`, `e->f` | A(e), or V(e); PtrConst with the offset, also where it is 0
abbrev pub member_address : ℕ → Code → Code
member_address k a = extended (λ d p. PtrConst d p k) a

-- ---- values of lvalues

-- other scalar lvalue as value | A; Touch with the root's type; Load
abbrev pub loaded : Lvalue → Code
loaded x = extended (λ d p. Load d p x.ty) (followed (λ p. Touch p x.root) x.address)

-- `Cast` where root type and target, outer arrays taken off, aren't the same
abbrev pub pointing : Ty → Ty → Code → Code
pointing root target a =
    if same (element_of root) (element_of target) then a
    else extended (λ d p. Cast d p (ty.Pointer root) (ty.Pointer target)) a

-- array lvalue as value | A; Cast where root type and result's target, outer arrays taken off, aren't the same
abbrev pub array_value : Lvalue → Ty → Code
array_value x element = pointing x.root element x.address

-- `&` of an lvalue | A; the same Cast
abbrev pub address_of : Lvalue → Code
address_of x = pointing x.root x.ty x.address

-- the value of an lvalue of this type; of a struct its address alone
abbrev pub value_at : Lvalue → Outer → Code
value_at x (Ty-F.Array element n) = array_value x element
value_at x (Ty-F.Struct s) = x.address
value_at x _ = loaded x

abbrev pub lvalue_value : Lvalue → Code
lvalue_value x = value_at x (out-Ty x.ty)

-- ---- assignments

-- `e1 = e2` | V(e2), converted; SetLocal
abbrev pub slot_assigned : ℕ → Code → Code
slot_assigned s v = followed (λ x. SetLocal s x) v

-- a value and an address; Touch; Store: the value is that which is stored
abbrev pub stored_made : Ty → Ty → Made → Made → Made
stored_made root t x y = record {
  code = x.code ++ y.code ++ Touch y.result root ∷ Store y.result x.result t ∷ [];
  result = x.result;
  register = y.register;
  slot = y.slot;
}

-- `e1 = e2` | V(e2), converted; A(e1); Touch; Store
abbrev pub assigned : Lvalue → Code → Code
assigned x v place register slot =
    let y = v place register slot in stored_made x.root x.ty y (behind place y x.address)

-- `e1 op= e2`, `++ --`. The new value's code, which is the operator's with the conversion back, is given as a function
-- of the old value's.

-- GetLocal; the operator's code; conversion back; SetLocal
abbrev pub slot_updated : ℕ → (Code → Code) → Code
slot_updated s new = slot_assigned s (new (slot_value s))

-- a value; Touch, Store at the address that this register has
abbrev pub restored_made : Ty → Ty → ℕ → Made → Made
restored_made root t p x = record {
  code = x.code ++ Touch p root ∷ Store p x.result t ∷ [];
  result = x.result;
  register = x.register;
  slot = x.slot;
}

-- A(e1), Touch, Load; the operator's code; conversion back; Touch, Store
abbrev pub updated : Lvalue → (Code → Code) → Code
updated x new place register slot =
    restored_made x.root x.ty (x.address place register slot).result (new (loaded x) place register slot)

-- the postfix forms have the old value
abbrev pub with_old_value : Code → Code → Code
with_old_value old a place register slot =
    record (a place register slot) { result = (old place register slot).result }

-- ---- structs

-- a scalar part at an offset | PtrConst, Touch, Load; PtrConst, Touch, Store
abbrev pub copied_part : Ty → Ty → ℕ → ℕ → ℕ → ℕ → Ty → List Instr
copied_part from to p q d k t =
    PtrConst d p k ∷ Touch d from ∷ Load (d + 1) d t
    ∷ PtrConst (d + 2) q k ∷ Touch (d + 2) to ∷ Store (d + 2) (d + 1) t ∷ []

-- the parts from an offset on, with the next register
abbrev pub copied_parts : Ty → Ty → ℕ → ℕ → ℕ → ℕ → List Ty → List Instr
copied_parts from to p q d k [] = []
copied_parts from to p q d k (t ∷ ts) = copied_part from to p q d k t ++ copied_parts from to p q (d + 3) (k + 1) ts

abbrev pub copied_made : Ty → Ty → List Ty → Made → Made → Made
copied_made from to parts x y = record {
  code = x.code ++ y.code ++ copied_parts from to x.result y.result y.register 0 parts;
  result = x.result;
  register = y.register + 3 * length parts;
  slot = y.slot;
}

-- struct `e1 = e2` | A(e2); A(e1); per scalar part in order of offset: PtrConst, Touch, Load, then PtrConst, Touch,
-- Store
abbrev pub struct_assigned : List Ty → Lvalue → Lvalue → Code
struct_assigned parts to from place register slot =
    let x = from.address place register slot in copied_made from.root to.root parts x (behind place x to.address)
