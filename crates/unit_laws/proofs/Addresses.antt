-- A register that is on its way to a use and that an address of a frame local made has that address.
use Rattle.std.proofs.Common.{◌≡◌, inl, inr, ℕ, ℤ, zero, suc, pos, ◌+◌, ◌*◌, ◌%◌, ◌^◌, ◌+ℤ◌, ◌*ℤ◌, ◌<◌, Bool, true, false, List, [], ◌∷◌, length, Option, Some, IfSome, slice_get, slice_set, slice_index_or, refl, sym, ap, ◌∙◌, subst, arith}
use Rattle.std.proofs.lemmas.Int.{ints}
use Rattle.core_ir.specs.declared.role.Role.TheVariants as role
use Rattle.core_ir.specs.Flow.{HasRole, IsAmong, Serves}
use Rattle.core_ir.specs.SafeLocal.{IsAddress, base, indexed, shifted}
use Rattle.meaning.specs.declared.action.Reply.{Reply}
use Rattle.meaning.specs.declared.value.Value.{Value}
use Rattle.meaning.specs.declared.value.Value.TheVariants.{Bare, Based, Code as CodeValue}
use Rattle.machine.specs.declared.code.Code.{Code}
use Rattle.machine.specs.declared.code.CodeFunction.{CodeFunction}
use Rattle.machine.specs.declared.code.CodeLocal.{CodeLocal}
use Rattle.machine.specs.declared.code.CodePlace.{CodePlace}
use Rattle.machine.specs.declared.code.CodePlace.TheVariants.{AddrL, Const, PtrAdd, PtrConst}
use Rattle.machine.specs.Frames.{Frame, Goes, ToRegister, Write}
use Rattle.machine.specs.Numbers.{low_word, span}
use Rattle.machine.specs.Outlines.{defined, outline_of_code, role_of, used}
use Rattle.machine.specs.Protected.{effect_of, protected}
use Rattle.machine.specs.Shapes.{number_in, object_of, register, shape_of}
use Rattle.machine.specs.Threads.{written}
use Rattle.machine.specs.ValidCode.{CodeFits, IsValidCodeFunction}
use Rattle.machine.specs.Values.{address_of, moved_value, number_of, object_address}
use Rattle.thread_laws.proofs.Bodies.{at_place}
use Rattle.thread_laws.proofs.Successors.{LeadsTo, leads_to, outlines, role_there, server_defines, stands_at}
use Rattle.machine_laws.proofs.Frames.{written_place}
use Rattle.unit_laws.proofs.LowWords.{low_product, low_sum}
use Rattle.unit_laws.proofs.Served.{EffectWrites, IsUnderWay, WritesOnly, effect_writes, register_stays, step_in, unbroken_use}

-- ---- instructions by their roles

record IsAddrL (i : CodePlace) (v : ℕ) : Type 0 where
  pub d : ℕ
  pub offset : ℕ
  pub units : ℕ
  pub kept : Bool
  pub is : i ≡ AddrL d v offset units kept

address_instruction : (i : CodePlace) (v : ℕ) → role_of i ≡ role.Local v → IsAddrL i v
address_instruction (AddrL d w offset units kept) v is =
    let same : w ≡ v = cc in
    record { d = d; offset = offset; units = units; kept = kept; is = ap (λ (n : ℕ). AddrL d n offset units kept) same }
address_instruction _ v is = absurd (cc)

record IsPtrConst (i : CodePlace) (p n : ℕ) : Type 0 where
  pub d : ℕ
  pub is : i ≡ PtrConst d p n

shift_instruction : (i : CodePlace) (p n : ℕ) → role_of i ≡ role.Shifted p n → IsPtrConst i p n
shift_instruction (PtrConst d q k) p n is =
    let register-is : q ≡ p = cc in
    let number : k ≡ n = cc in
    record { d = d; is = ap (λ (r : ℕ). PtrConst d r k) register-is ∙ ap (λ (m : ℕ). PtrConst d p m) number }
shift_instruction _ p n is = absurd (cc)

record IsPtrAdd (i : CodePlace) (p j n : ℕ) : Type 0 where
  pub d : ℕ
  pub is : i ≡ PtrAdd d p j n

index_instruction : (i : CodePlace) (p j n : ℕ) → role_of i ≡ role.Indexed p j n → IsPtrAdd i p j n
index_instruction (PtrAdd d q k m) p j n is =
    let register-is : q ≡ p = cc in
    let index : k ≡ j = cc in
    let number : m ≡ n = cc in
    record {
      d = d;
      is = ap (λ (r : ℕ). PtrAdd d r k m) register-is ∙ ap (λ (r : ℕ). PtrAdd d p r m) index ∙ ap (λ (r : ℕ). PtrAdd d p j r) number;
    }
index_instruction _ p j n is = absurd (cc)

record IsConst (i : CodePlace) (c : ℤ) : Type 0 where
  pub d : ℕ
  pub is : i ≡ Const d c

const_instruction : (i : CodePlace) (c : ℤ) → role_of i ≡ role.Const c → IsConst i c
const_instruction (Const d b) c is = let same : b ≡ c = cc in record { d = d; is = ap (λ (n : ℤ). Const d n) same }
const_instruction _ c is = absurd (cc)

-- ---- values that are addresses

-- a number or a pointer with bounds, that has this address
abbrev pub IsPointer : Value → ℕ → Type 0
IsPointer (Bare n) a = low_word n ≡ a
IsPointer (Based value lower upper id) a = value % 2 ^ 32 ≡ a
IsPointer (CodeValue f) a = ⊥

pub pointer_address : (v : Value) (a : ℕ) → IsPointer v a → address_of v ≡ a
pointer_address (Bare n) a is = is
pointer_address (Based value lower upper id) a is = is
pointer_address (CodeValue f) a is = absurd is

object_is : (first units id : ℕ) (kept : Bool) → IsPointer (object_address first units id kept) (first % 2 ^ 32)
object_is first units id true = refl
object_is first units id false = refl

moved_is : (v : Value) (k a : ℕ) → IsPointer v a → IsPointer (moved_value v k) ((a + k) % 2 ^ 32)
moved_is (Bare n) k a is = omega (arith, is)
moved_is (Based value lower upper id) k a is = omega (arith, is)
moved_is (CodeValue f) k a is = absurd is

-- ---- frames

-- the address of local l and so many units in a frame with this object
abbrev pub address_at : ℕ → CodeLocal → ℤ → ℕ
address_at id l o = low_word (pos (64 * id + l.offset) +ℤ o)

abbrev pub AddressesIn : Frame Value → CodeFunction → Type 0
AddressesIn fr c =
    (q u r v : ℕ) (o : ℤ) (l : CodeLocal)
    → IsUnderWay c.body q u r fr.place
    → IsAddress (outlines c.body) q v o
    → slice_get c.locals v ≡ Some l
    → IsPointer (register protected fr r) (address_at (object_of protected fr) l o)

abbrev pub ConstantsIn : Frame Value → CodeFunction → Type 0
ConstantsIn fr c =
    (q u r : ℕ) (k : ℤ)
    → IsUnderWay c.body q u r fr.place
    → HasRole (outlines c.body) 0 q (role.Const k)
    → register protected fr r ≡ Bare k

pub record FrameAddresses (fr : Frame Value) (c : CodeFunction) : Type 0 where
  pub addresses : AddressesIn fr c
  pub constants : ConstantsIn fr c

-- at its first place nothing is under way
pub first_addresses : (fr : Frame Value) (c : CodeFunction) → fr.place ≡ 0 → FrameAddresses fr c
first_addresses fr c first = record {
  addresses = λ q u r v o l way address there. absurd (omega (arith, first, way.behind));
  constants = λ q u r k way is. absurd (omega (arith, first, way.behind));
}

read_same : (xs : List Value) (i : ℕ) (v : Value) → i < length xs → slice_index_or (slice_set xs i v) i (Bare (pos 0)) ≡ v
read_same [] i v low = absurd (omega (arith, low))
read_same (x ∷ xs) zero v low = refl
read_same (x ∷ xs) (suc i) v low = read_same xs i v (omega (arith, low))

module _ (code : Code) (c : CodeFunction) (valid : IsValidCodeFunction code c) (depth : ℕ) (top : Frame Value) (answer : Reply) (i : CodePlace) (to : ℕ) (w : Write Value)
    (at : slice_get c.body top.place ≡ Some i)
    (was : FrameAddresses top c)
    (size : length top.registers ≡ c.registers)
    (effect : effect_of code top answer (shape_of protected depth top i) ≡ Goes to w)
    (object : object_of protected (written protected w (record top { place = to })) ≡ object_of protected top) where
  abbrev after : Frame Value
  after = written protected w (record top { place = to })

  leads : LeadsTo top.place i (Goes to w)
  leads = subst (LeadsTo top.place i) effect (leads_to code depth top answer i)

  only : WritesOnly i w
  only = subst (EffectWrites i) effect (effect_writes code depth top answer i)

  -- the register that it defines has what it gives
  made : (j : CodePlace) (r e : ℕ) (v : Value)
      → i ≡ j
      → effect_of code top answer (shape_of protected depth top j) ≡ Goes (top.place + 1) (ToRegister e v)
      → defined j ≡ Some e
      → defined i ≡ Some r
      → register protected after r ≡ v
  made j r e v same makes defines mine =
      let writes : Goes (top.place + 1) (ToRegister e v) ≡ Goes to w =
      sym makes ∙ ap (λ (k : CodePlace). effect_of code top answer (shape_of protected depth top k)) (sym same) ∙ effect in
      let write : ToRegister e v ≡ w = cc in
      let some : Some e ≡ Some r = sym defines ∙ ap defined (sym same) ∙ mine in
      let one : e ≡ r = cc in
      let low : e < c.registers =
      subst (λ (o : Option ℕ). IfSome o (λ d. d < c.registers)) (ap defined same ∙ defines)
      (valid.well_formed.numbers top.place (outline_of_code i) (stands_at c.body top.place i at)).defined in
      let within : e < length top.registers = omega (arith, low, size) in
      ap (λ (x : Write Value). register protected (written protected x (record top { place = to })) r) (sym write)
      ∙ ap (λ (n : ℕ). slice_index_or (slice_set top.registers e v) n (Bare (pos 0))) (sym one)
      ∙ read_same top.registers e v within

  operand_way : (s p : ℕ) → IsAmong (used i) p → Serves (outlines c.body) 0 s top.place p → IsUnderWay c.body s top.place p top.place
  operand_way s p among serves = record {
    serves = serves;
    unbroken = unbroken_use code c valid s top.place p i at among serves;
    behind = serves.before;
    before = omega arith;
  }

  -- what is made at this place
  address_made : (q u r v : ℕ) (o : ℤ) (l : CodeLocal)
      → q ≡ top.place
      → Serves (outlines c.body) 0 top.place u r
      → IsAddress (outlines c.body) q v o
      → slice_get c.locals v ≡ Some l
      → IsPointer (register protected after r) (address_at (object_of protected top) l o)
  address_made q u r v o l here serves (base k w e is none) there =
      let a : IsAddrL i v = address_instruction i v (role_there c.body top.place i (role.Local v) at (subst (λ (n : ℕ). HasRole (outlines c.body) 0 n (role.Local v)) here is)) in
      let mine : defined i ≡ Some r = server_defines c.body top.place u r i at serves in
      let value : Value = object_address (64 * object_of protected top + a.offset) a.units (object_of protected top) a.kept in
      let is-value : register protected after r ≡ value = made (AddrL a.d v a.offset a.units a.kept) r a.d value a.is refl refl mine in
      let fits : CodeFits code c (AddrL a.d v a.offset a.units a.kept) = subst (CodeFits code c) a.is (at_place (CodeFits code c) c.body top.place i valid.in_range at) in
      let one : fits.local ≡ l = let same : Some fits.local ≡ Some l = sym fits.there ∙ there in cc in
      let offset : a.offset ≡ l.offset = fits.at ∙ ap (λ (x : CodeLocal). x.offset) one in
      let number : (64 * object_of protected top + a.offset) % 2 ^ 32 ≡ address_at (object_of protected top) l o =
      ap (λ (n : ℕ). (64 * object_of protected top + n) % 2 ^ 32) offset
      ∙ (let plain : (64 * object_of protected top + l.offset) % 2 ^ 32 ≡ (64 * object_of protected top + l.offset + 0) % 2 ^ 32 = omega arith in plain)
      ∙ ap (λ (e : ℤ). low_word (pos (64 * object_of protected top + l.offset) +ℤ e)) (sym none) in
      subst (λ (x : Value). IsPointer x (address_at (object_of protected top) l o)) (sym is-value)
      (subst (IsPointer value) number (object_is (64 * object_of protected top + a.offset) a.units (object_of protected top) a.kept))
  address_made q u r v o l here serves (shifted k w p n s e sum is from address total) there =
      let a : IsPtrConst i p n = shift_instruction i p n (role_there c.body top.place i (role.Shifted p n) at (subst (λ (m : ℕ). HasRole (outlines c.body) 0 m (role.Shifted p n)) here is)) in
      let mine : defined i ≡ Some r = server_defines c.body top.place u r i at serves in
      let value : Value = moved_value (register protected top p) n in
      let is-value : register protected after r ≡ value = made (PtrConst a.d p n) r a.d value a.is refl refl mine in
      let operand : IsPointer (register protected top p) (address_at (object_of protected top) l e) =
      was.addresses s top.place p v e l
      (operand_way s p (subst (λ (j : CodePlace). IsAmong (used j) p) (sym a.is) (inl refl)) (subst (λ (m : ℕ). Serves (outlines c.body) 0 s m p) here from))
      address there in
      let first : ℤ = pos (64 * object_of protected top + l.offset) in
      let number : address_at (object_of protected top) l o ≡ (address_at (object_of protected top) l e + n) % 2 ^ 32 =
      low_sum (first +ℤ e) n (first +ℤ o) (omega (arith, ints, total)) in
      subst (λ (x : Value). IsPointer x (address_at (object_of protected top) l o)) (sym is-value)
      (subst (IsPointer value) (sym number) (moved_is (register protected top p) n (address_at (object_of protected top) l e) operand))
  address_made q u r v o l here serves (indexed k w p j n s f e m sum is from address served const total) there =
      let a : IsPtrAdd i p j n = index_instruction i p j n (role_there c.body top.place i (role.Indexed p j n) at (subst (λ (x : ℕ). HasRole (outlines c.body) 0 x (role.Indexed p j n)) here is)) in
      let mine : defined i ≡ Some r = server_defines c.body top.place u r i at serves in
      let value : Value = moved_value (register protected top p) (span (number_in protected top j) n) in
      let is-value : register protected after r ≡ value = made (PtrAdd a.d p j n) r a.d value a.is refl refl mine in
      let operand : IsPointer (register protected top p) (address_at (object_of protected top) l e) =
      was.addresses s top.place p v e l
      (operand_way s p (subst (λ (x : CodePlace). IsAmong (used x) p) (sym a.is) (inl refl)) (subst (λ (x : ℕ). Serves (outlines c.body) 0 s x p) here from))
      address there in
      let index : register protected top j ≡ Bare m =
      was.constants f top.place j m
      (operand_way f j (subst (λ (x : CodePlace). IsAmong (used x) j) (sym a.is) (inr (inl refl))) (subst (λ (x : ℕ). Serves (outlines c.body) 0 f x j) here served))
      const in
      let first : ℤ = pos (64 * object_of protected top + l.offset) in
      let spanned : span m n ≡ span (number_in protected top j) n = ap (λ (x : Value). span (number_of x) n) (sym index) in
      let number : address_at (object_of protected top) l o ≡ (address_at (object_of protected top) l e + span m n) % 2 ^ 32 =
      low_product (first +ℤ e) m n (first +ℤ o) (further first e o m n total) in
      subst (λ (x : Value). IsPointer x (address_at (object_of protected top) l o)) (sym is-value)
      (subst (IsPointer value) (sym (number ∙ ap (λ (x : ℕ). (address_at (object_of protected top) l e + x) % 2 ^ 32) spanned))
      (moved_is (register protected top p) (span (number_in protected top j) n) (address_at (object_of protected top) l e) operand)) where
        further : (x e o m : ℤ) (n : ℕ) → o ≡ e +ℤ m *ℤ pos n → x +ℤ o ≡ (x +ℤ e) +ℤ m *ℤ pos n
        further x e o m n is = omega (arith, ints, is)

  constant_made : (q u r : ℕ) (k : ℤ) → q ≡ top.place → Serves (outlines c.body) 0 top.place u r → HasRole (outlines c.body) 0 q (role.Const k) → register protected after r ≡ Bare k
  constant_made q u r k here serves is =
      let a : IsConst i k = const_instruction i k (role_there c.body top.place i (role.Const k) at (subst (λ (n : ℕ). HasRole (outlines c.body) 0 n (role.Const k)) here is)) in
      made (Const a.d k) r a.d (Bare k) a.is refl refl (server_defines c.body top.place u r i at serves)

  place_is : after.place ≡ to
  place_is = written_place w (record top { place = to })

  -- behind it
  pub goes_addresses : FrameAddresses after c
  goes_addresses = record {
    addresses = λ q u r v o l way address there.
        let at-to : IsUnderWay c.body q u r to = subst (λ (n : ℕ). IsUnderWay c.body q u r n) place_is way in
        subst (λ (id : ℕ). IsPointer (register protected after r) (address_at id l o)) (sym object)
        (elim (step_in c.body top.place to q u r w i at leads at-to) [
          | inl serves ↦
              address_made q u r v o l (sym serves) (subst (λ (n : ℕ). Serves (outlines c.body) 0 n u r) (sym serves) at-to.serves) address there
          | inr under ↦
              subst (λ (x : Value). IsPointer x (address_at (object_of protected top) l o)) (sym (register_stays top to w i r only under.1))
              (was.addresses q u r v o l under.0 address there)
        ]);
    constants = λ q u r k way is.
        let at-to : IsUnderWay c.body q u r to = subst (λ (n : ℕ). IsUnderWay c.body q u r n) place_is way in
        elim (step_in c.body top.place to q u r w i at leads at-to) [
          | inl serves ↦ constant_made q u r k (sym serves) (subst (λ (n : ℕ). Serves (outlines c.body) 0 n u r) (sym serves) at-to.serves) is
          | inr under ↦ register_stays top to w i r only under.1 ∙ was.constants q u r k under.0 is
        ];
  }
