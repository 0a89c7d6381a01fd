-- Each row of elaboration gives a part of a full expression where its operands do. Of the first operand's code this is
-- asked from the row's place, register and slot, with further registers that stay live; of later ones from everywhere.
use Rattle.std.specs.Prelude.{◌≡◌, ◌≢◌, ℕ, ℤ, true, false, ◌+◌, ◌<◌, List, [], ◌∷◌, ◌++◌, length, Some}
use Rattle.c_types.specs.declared.ty.FnTy.{FnTy}
use Rattle.c_types.specs.declared.ty.Ty.{Ty}
use Rattle.c_typed.specs.declared.entity.BuiltIn.{BuiltIn}
use Rattle.c_typed.specs.declared.entity.BuiltIn.TheVariants as built_in
use Rattle.core_ir.specs.declared.instr.Instr.{Instr}
use Rattle.core_ir.specs.declared.operator.Operator.{Operator}
use Rattle.core_ir.specs.declared.role.Role.TheVariants as role
use Rattle.core_ir.specs.Instructions.{defined, role_of}
use Rattle.core_parts.specs.Pieces.{IsPart}
use Rattle.elab_rows.specs.Addresses.{Lvalue, address_of, array_value, assigned, global_address, loaded, local_address, lvalue_value, member_address, slot_assigned, struct_assigned, updated}
use Rattle.elab_rows.specs.Calls.{Listed, arguments, built_in_made, call_code, indirect_code, spawned}
use Rattle.elab_rows.specs.Choices.{and_code, conditional_code, or_code}
use Rattle.elab_rows.specs.Made.{Code, converted}
use Rattle.elab_rows.specs.Rows.{binary_code, function_name, number, plus_pointer, pointer_difference, pointer_minus, pointer_plus, slot_value, string, unary_code}
use Rattle.elab_laws.specs.Values.{AreGood, AreValues, IsGood, IsMade, IsNoNumber, IsValue, outlines}

-- the code gives a value from this place, register and slot, and these registers are live behind it too
abbrev pub GivesAt : Code → ℕ → ℕ → ℕ → List ℕ → Type 0
GivesAt c place register slot more = IsValue (c place register slot) place register more

-- a row over one operand
abbrev pub Keeps : (Code → Code) → Type 0
Keeps row =
    (a : Code) (place register slot : ℕ) (more : List ℕ)
    → GivesAt a place register slot more
    → GivesAt (row a) place register slot more

-- a row over two
abbrev pub KeepsFirst : (Code → Code → Code) → Type 0
KeepsFirst row =
    (a b : Code) (place register slot : ℕ) (more : List ℕ)
    → GivesAt a place register slot more
    → IsGood b
    → GivesAt (row a b) place register slot more

-- a row over an lvalue's address
abbrev pub KeepsAddress : (Lvalue → Code) → Type 0
KeepsAddress row =
    (x : Lvalue) (place register slot : ℕ) (more : List ℕ)
    → GivesAt x.address place register slot more
    → GivesAt (row x) place register slot more

-- one instruction
pub record SingleRows : Type 0 where
  pub number : (v : ℤ) → IsGood (number v)
  pub string : (g : ℕ) → IsGood (string g)
  pub function_name : (f : ℕ) → IsGood (function_name f)
  pub slot_value : (s : ℕ) → IsGood (slot_value s)
  pub global_address : (g : ℕ) → IsGood (global_address g)
  pub local_address : (v : ℕ) → IsGood (local_address v)

pub record OperatorRows : Type 0 where
  pub conversion : (from to : Ty) → Keeps (converted from to)
  pub binary : (o : Operator) → KeepsFirst (binary_code o)
  pub unary : (o : Operator) → Keeps (unary_code o)
  pub pointer_plus : (n : ℕ) → KeepsFirst (pointer_plus n)
  pub plus_pointer : (n : ℕ) → KeepsFirst (plus_pointer n)
  pub pointer_minus : (n : ℕ) → KeepsFirst (pointer_minus n)
  pub pointer_difference : (n : ℕ) → KeepsFirst (pointer_difference n)

pub record ChoiceRows : Type 0 where
  pub both : (a b : Code) → IsGood a → IsGood b → IsGood (and_code a b)
  pub either : (a b : Code) → IsGood a → IsGood b → IsGood (or_code a b)
  pub conditional : (c a b : Code) → IsGood c → IsGood a → IsGood b → IsGood (conditional_code c a b)

pub record AddressRows : Type 0 where
  pub member : (k : ℕ) → Keeps (member_address k)
  pub load : KeepsAddress loaded
  pub array : (element : Ty) → KeepsAddress (λ x. array_value x element)
  pub address : KeepsAddress address_of
  pub value : KeepsAddress lvalue_value
  pub slot_assigned : (s : ℕ) → Keeps (slot_assigned s)
  pub assigned : (x : Lvalue) → IsGood x.address → Keeps (assigned x)
  -- the code of the new value keeps the address's register
  pub updated :
      (x : Lvalue) (new : Code → Code) (place register slot : ℕ) (more : List ℕ)
      → GivesAt (new (loaded x)) place register slot ((x.address place register slot).result ∷ more)
      → GivesAt (updated x new) place register slot more
  pub struct_assigned :
      (parts : List Ty) (to : Lvalue)
      → IsGood to.address
      → KeepsAddress (λ from. struct_assigned parts to from)

-- a row that gives no value
abbrev pub IsDone : Code → Type 0
IsDone c = (place register slot : ℕ) → IsMade (c place register slot) place register []

pub record CallRows : Type 0 where
  pub arguments :
      (cs : List Code) (place register slot : ℕ)
      → AreGood cs
      → AreValues (arguments cs place register slot) place register
  pub call : (f : ℕ) (cs : List Code) → AreGood cs → IsGood (call_code f true cs)
  pub void_call : (f : ℕ) (cs : List Code) → AreGood cs → IsDone (call_code f false cs)
  pub indirect : (t : FnTy) (c : Code) (cs : List Code) → IsGood c → AreGood cs → IsGood (indirect_code t true c cs)
  pub void_indirect :
      (t : FnTy) (c : Code) (cs : List Code)
      → IsGood c
      → AreGood cs
      → IsDone (indirect_code t false c cs)
  -- two arguments, of which the function is no thread's number
  pub spawn :
      (l : Listed) (f a place register : ℕ)
      → l.results ≡ f ∷ a ∷ []
      → IsNoNumber l.code place f
      → AreValues l place register
      → IsValue (spawned l) place register []

-- a built-in call of one argument
abbrev pub BuiltInRow : BuiltIn → Type 0
BuiltInRow b =
    (l : Listed) (r place register : ℕ)
    → l.results ≡ r ∷ []
    → AreValues l place register
    → IsValue (built_in_made b l) place register []

-- ---- which registers hold no thread's number

pub record NumberLaws : Type 0 where
  -- two codes, one behind the other
  pub append :
      (c d : List Instr) (place r : ℕ)
      → IsNoNumber c place r
      → IsNoNumber d (place + length c) r
      → IsNoNumber (c ++ d) place r
  -- a register from before the part
  pub outside :
      (d : List Instr) (place from to r : ℕ) (live : List ℕ)
      → IsPart (outlines d) place from to live
      → r < from
      → IsNoNumber d place r
  -- what the last instruction defines
  pub last :
      (c : List Instr) (i : Instr) (place from to r : ℕ) (live : List ℕ)
      → IsPart (outlines (c ++ i ∷ [])) place from to live
      → defined i ≡ Some r
      → role_of i ≢ role.Fork
      → IsNoNumber (c ++ i ∷ []) place r

pub record RowsAreGood : Type 0 where
  pub singles : SingleRows
  pub operators : OperatorRows
  pub choices : ChoiceRows
  pub addresses : AddressRows
  pub calls : CallRows
  pub built_ins : (b : BuiltIn) → b ≢ built_in.Spawn → BuiltInRow b
  pub numbers : NumberLaws
