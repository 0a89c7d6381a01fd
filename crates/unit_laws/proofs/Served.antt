-- How registers stay as they are between the instruction that serves a use and that use.
use Rattle.std.proofs.Common.{◌≡◌, ◌⊎◌, inl, inr, ℕ, ℤ, zero, suc, pos, ◌+◌, ◌≤◌, ◌<◌, Bool, true, false, if◌then◌else◌, List, [], ◌∷◌, map, slice_get, slice_set, slice_index_or, Option, Some, None, refl, sym, ap, ◌∙◌, subst, arith, get_or-set_other}
use Rattle.core_ir.specs.declared.role.Role.{Role}
use Rattle.core_ir.specs.declared.role.Role.TheVariants as role
use Rattle.core_ir.specs.Flow.{Chain, HasRole, IsAmong, Serves, Unbroken, from_load, from_slot, through}
use Rattle.core_ir.specs.Outline.{Outline}
use Rattle.meaning.specs.declared.action.Reply.{Reply}
use Rattle.meaning.specs.declared.action.Reply.TheVariants as reply
use Rattle.meaning.specs.declared.note.Place.{Place}
use Rattle.meaning.specs.declared.value.Check.TheVariants.{BadFree, Dead}
use Rattle.meaning.specs.declared.value.Stop.{Stop}
use Rattle.meaning.specs.declared.value.Stop.TheVariants.{Failed}
use Rattle.meaning.specs.declared.value.Value.{Value}
use Rattle.meaning.specs.declared.value.Value.TheVariants.{Bare, Code as CodeValue}
use Rattle.machine.specs.declared.code.Code.{Code}
use Rattle.machine.specs.declared.code.CodeFunction.{CodeFunction}
use Rattle.machine.specs.declared.code.CodePlace.{CodePlace}
use Rattle.machine.specs.declared.code.CodePlace.TheVariants.{Const, AddrG, AddrL, AddrF, GetLocal, Binary, Unary, PtrAdd, PtrConst, Cast, Touch, Load, Store, Call, CallInd, Enter, Malloc, Free, Fork, Lock, Join, Input}
use Rattle.machine.specs.declared.code.ScalarKind.{ScalarKind}
use Rattle.machine.specs.Domain.{Callee, Reaches, Refused}
use Rattle.machine.specs.Frames.{Effect, Frame, Goes, Nothing, ToObject, ToRegister, ToSlot, ToUnit, Write}
use Rattle.machine.specs.Numbers.{computed}
use Rattle.machine.specs.Outlines.{defined, outline_of_code, role_of, used}
use Rattle.machine.specs.Protected.{callee_effect, drawn, effect_of, finds_zero, protected, protected_callee, unit_write, unless_no}
use Rattle.machine.specs.Shapes.{defines_number, number_in, read_at, register, shape_of}
use Rattle.machine.specs.Threads.{goes_on, stays, written}
use Rattle.machine.specs.ValidCode.{IsValidCodeFunction}
use Rattle.thread_laws.proofs.Bodies.{order}
use Rattle.thread_laws.proofs.Successors.{IsCall, LeadsTo, Waits, found, jumps_at, outlines, role_there, stands_at}
use Rattle.machine_laws.proofs.Flow.{rules_at}

-- ---- instructions by their roles

pub record IsLoad (i : CodePlace) (p : ℕ) : Type 0 where
  pub d : ℕ
  pub kind : ScalarKind
  pub unit : Option ℕ
  pub is : i ≡ Load d p kind unit

pub load_of : (i : CodePlace) (p : ℕ) → role_of i ≡ role.Load p → IsLoad i p
load_of (Load d q k unit) p is =
    let same : q ≡ p = cc in record { d = d; kind = k; unit = unit; is = ap (λ (r : ℕ). Load d r k unit) same }
load_of _ p is = absurd (cc)

pub record IsGetLocal (i : CodePlace) (s : ℕ) : Type 0 where
  pub d : ℕ
  pub is : i ≡ GetLocal d s

pub slot_of : (i : CodePlace) (s : ℕ) → role_of i ≡ role.Slot s → IsGetLocal i s
slot_of (GetLocal d r) s is = let same : r ≡ s = cc in record { d = d; is = ap (λ (n : ℕ). GetLocal d n) same }
slot_of _ s is = absurd (cc)

pub record IsCast (i : CodePlace) (a : ℕ) : Type 0 where
  pub d : ℕ
  pub from : ScalarKind
  pub to : ScalarKind
  pub is : i ≡ Cast d a from to

pub cast_of : (i : CodePlace) (a : ℕ) → role_of i ≡ role.Cast a → IsCast i a
cast_of (Cast d b from to) a is =
    let same : b ≡ a = cc in record { d = d; from = from; to = to; is = ap (λ (n : ℕ). Cast d n from to) same }
cast_of _ a is = absurd (cc)

-- ---- the register that an instruction defines is all that it writes of them

abbrev pub WritesOnly : CodePlace → Write Value → Type 0
WritesOnly i (ToRegister d v) = defined i ≡ Some d
WritesOnly i _ = Unit {0}

abbrev pub EffectWrites : CodePlace → Effect Value → Type 0
EffectWrites i (Goes to w) = WritesOnly i w
EffectWrites i _ = Unit {0}

numbers_write : (code : Code) (top : Frame Value) (answer : Reply) (i : CodePlace) (d : ℕ) (n : Option ℤ) → defined i ≡ Some d
    → EffectWrites i (effect_of code top answer (defines_number protected d n))
numbers_write code top answer i d None is = tt
numbers_write code top answer i d (Some n) is = is

flag_writes : (top : Frame Value) (i : CodePlace) (why : Stop) (b : Bool) → EffectWrites i (unless_no top why (reply.Flag b))
flag_writes top i why true = tt
flag_writes top i why false = tt

no_writes : (top : Frame Value) (i : CodePlace) (why : Stop) (answer : Reply) → EffectWrites i (unless_no top why answer)
no_writes top i why (reply.Flag b) = flag_writes top i why b
no_writes top i why reply.Nothing = tt
no_writes top i why (reply.Word w) = tt
no_writes top i why (reply.Found e) = tt
no_writes top i why (reply.Slot s) = tt
no_writes top i why (reply.Thread n) = tt

store_writes : (i : CodePlace) (to : ℕ) (unit : Option ℕ) (p a : Value) → EffectWrites i (Goes to (unit_write unit p a))
store_writes i to None p a = tt
store_writes i to (Some u) p a = tt

callee_writes : (i : CodePlace) (arguments : List Value) (read : Option Place) (c : Callee) → EffectWrites i (callee_effect arguments read c)
callee_writes i arguments read (Reaches f) = tt
callee_writes i arguments read (Refused why) = tt

either_writes : (i : CodePlace) (b : Bool) (x y : Effect Value) → EffectWrites i x → EffectWrites i y → EffectWrites i (if b then x else y)
either_writes i true x y p q = p
either_writes i false x y p q = q

drawn_writes : (top : Frame Value) (i : CodePlace) (answer : Reply) → EffectWrites i (drawn top answer)
drawn_writes top i (reply.Slot None) = tt
drawn_writes top i (reply.Slot (Some s)) = tt
drawn_writes top i reply.Nothing = tt
drawn_writes top i (reply.Word w) = tt
drawn_writes top i (reply.Found e) = tt
drawn_writes top i (reply.Flag b) = tt
drawn_writes top i (reply.Thread n) = tt

pub effect_writes : (code : Code) (depth : ℕ) (top : Frame Value) (answer : Reply) (i : CodePlace)
    → EffectWrites i (effect_of code top answer (shape_of protected depth top i))
effect_writes code depth top answer (Const d v) = refl
effect_writes code depth top answer (AddrG d g address units kept) = refl
effect_writes code depth top answer (AddrL d v offset units kept) = refl
effect_writes code depth top answer (AddrF d f) = refl
effect_writes code depth top answer (GetLocal d s) = refl
effect_writes code depth top answer (Binary d op a b) =
    numbers_write code top answer (Binary d op a b) d (computed op (number_in protected top a) (number_in protected top b)) refl
effect_writes code depth top answer (Unary d op a) = refl
effect_writes code depth top answer (PtrAdd d p i s) = refl
effect_writes code depth top answer (PtrConst d p k) = refl
effect_writes code depth top answer (Cast d a from to) = refl
effect_writes code depth top answer (Touch p class marked) = no_writes top (Touch p class marked) (Failed Dead) answer
effect_writes code depth top answer (Load d p k unit) = refl
effect_writes code depth top answer (Store p a k unit) = store_writes (Store p a k unit) (top.place + 1) unit (register protected top p) (register protected top a)
effect_writes code depth top answer (CallInd c args type s o) =
    callee_writes (CallInd c args type s o) (map (register protected top) args) (Some (read_at protected depth top o)) (protected_callee code type (register protected top c))
effect_writes code depth top answer Enter = drawn_writes top Enter answer
effect_writes code depth top answer (Malloc d a) = refl
effect_writes code depth top answer (Free p) = no_writes top (Free p) (Failed BadFree) answer
effect_writes code depth top answer (Fork d) = refl
effect_writes code depth top answer (Lock p) = either_writes (Lock p) (finds_zero answer) (goes_on protected top) (stays protected top) tt tt
effect_writes code depth top answer (Join t) = either_writes (Join t) (finds_zero answer) (stays protected top) (goes_on protected top) tt tt
effect_writes code depth top answer (Input d a) = refl
effect_writes code depth top answer _ = tt

-- a register that isn't defined stays
pub register_stays : (f : Frame Value) (to : ℕ) (w : Write Value) (i : CodePlace) (r : ℕ)
    → WritesOnly i w
    → (defined i ≡ Some r → ⊥)
    → register protected (written protected w (record f { place = to })) r ≡ register protected f r
register_stays f to (ToRegister d v) i r only none =
    get_or-set_other f.registers d r v (Bare (pos 0)) (λ same. none (only ∙ ap (λ (n : ℕ). Some n) (sym same)))
register_stays f to (ToSlot s v) i r only none = refl
register_stays f to (ToUnit unit at v) i r only none = refl
register_stays f to (ToObject id) i r only none = refl
register_stays f to Nothing i r only none = refl

-- what is read where a value was written is that value, if it is a function
pub read_written : (xs : List Value) (i : ℕ) (v : Value) (f : ℕ) → slice_index_or (slice_set xs i v) i (Bare (pos 0)) ≡ CodeValue f → v ≡ CodeValue f
read_written [] i v f is = absurd (cc)
read_written (x ∷ xs) zero v f is = is
read_written (x ∷ xs) (suc i) v f is = read_written xs i v f is

waits_define : (i : CodePlace) (r : ℕ) → Waits i → defined i ≡ Some r → ⊥
waits_define (Lock p) r waits is = cc
waits_define (Join t) r waits is = cc
waits_define _ r waits is = waits

pub calls_define : (i : CodePlace) (r : ℕ) → IsCall i → defined i ≡ Some r → ⊥
calls_define (Call f args s) r call is = cc
calls_define (CallInd f args type s o) r call is = cc
calls_define _ r call is = call

module _ (body : List CodePlace) where
  -- ---- uses that are under way

  -- place x stands behind what serves the use of r at u, and not behind the use
  pub record IsUnderWay (q u r x : ℕ) : Type 0 where
    pub serves : Serves (outlines body) 0 q u r
    pub unbroken : Unbroken (outlines body) 0 q u
    pub behind : q < x
    pub before : x ≤ u

  pub one_server : (s q u r : ℕ) → Serves (outlines body) 0 s u r → Serves (outlines body) 0 q u r → q ≡ s
  one_server s q u r one other =
      elim (order q s) [
        | inl less ↦ absurd (other.nearest s one.by one.there less one.before one.defines)
        | inr (inl more) ↦ absurd (one.nearest q other.by other.there more other.before other.defines)
        | inr (inr same) ↦ same
      ]

  -- behind an instruction a use is under way that it serves, or that was under way and isn't defined by it
  pub step_in : (x to q u r : ℕ) (w : Write Value) (i : CodePlace)
      → slice_get body x ≡ Some i
      → LeadsTo x i (Goes to w)
      → IsUnderWay q u r to
      → (x ≡ q) ⊎ (IsUnderWay q u r x × (defined i ≡ Some r → ⊥))
  step_in x to q u r w i at leads way =
      elim leads [
        | inl next ↦
            elim (order q x) [
              | inl behind ↦ inr (still behind (omega (arith, next, way.before)), apart x i at behind (omega (arith, next, way.before)))
              | inr rest ↦ elim rest [
                | inl less ↦ absurd (omega (arith, less, next, way.behind))
                | inr same ↦ inl (sym same)
              ]
            ]
        | inr other ↦ elim other [
          | inl jump ↦
              let between = way.unbroken x to (jumps_at body x to i at jump) way.behind way.before in
              inr (still between.0 (omega (arith, between.1)), apart x i at between.0 between.1)
          | inr waits ↦
              inr (still (omega (arith, waits.0, way.behind)) (omega (arith, waits.0, way.before)), waits_define i r waits.1)
        ]
      ] where
        still : q < x → x ≤ u → IsUnderWay q u r x
        still behind before = record { serves = way.serves; unbroken = way.unbroken; behind = behind; before = before }

        apart : (y : ℕ) (j : CodePlace) → slice_get body y ≡ Some j → q < y → y < u → defined j ≡ Some r → ⊥
        apart y j there behind before defines = way.serves.nearest y (outline_of_code j) (stands_at body y j there) behind before defines

  -- ---- chains

  abbrev pub LinkedAt : ℕ → Role → ℕ → Type 0
  LinkedAt s (role.Load p) k = k ≡ s
  LinkedAt s (role.Slot n) k = k ≡ s
  LinkedAt s (role.Cast a) k = Chain (outlines body) 0 s a k
  LinkedAt s _ k = ⊥

  -- the first link of a chain, from the use on
  pub record Link (u r k : ℕ) : Type 0 where
    pub s : ℕ
    pub serves : Serves (outlines body) 0 s u r
    pub is : Role
    pub has : HasRole (outlines body) 0 s is
    pub links : LinkedAt s is k

  pub link : {u r k : ℕ} → Chain (outlines body) 0 u r k → Link u r k
  link (from_load s u r p serves has) = record { s = s; serves = serves; is = role.Load p; has = has; links = refl }
  link (from_slot s u r n serves has) = record { s = s; serves = serves; is = role.Slot n; has = has; links = refl }
  link (through s u r a k serves has rest) = record { s = s; serves = serves; is = role.Cast a; has = has; links = rest }

  -- a chain begins before its use
  pub chain_before : {u r k : ℕ} → Chain (outlines body) 0 u r k → k < u
  chain_before (from_load s u r p serves has) = serves.before
  chain_before (from_slot s u r n serves has) = serves.before
  chain_before (through s u r a k serves has rest) = omega (arith, chain_before rest, serves.before)

  linked_before : (s k : ℕ) (is : Role) → LinkedAt s is k → k ≤ s
  linked_before s k (role.Load p) links = omega (arith, links)
  linked_before s k (role.Slot n) links = omega (arith, links)
  linked_before s k (role.Cast a) links = omega (arith, chain_before links)
  linked_before s k _ links = absurd links

  -- and not behind what serves it
  pub chain_first : (q u r k : ℕ) → Chain (outlines body) 0 u r k → Serves (outlines body) 0 q u r → k ≤ q
  chain_first q u r k chain serves =
      let l = link chain in
      omega (arith, linked_before l.s k l.is l.links, one_server l.s q u r l.serves serves)

  -- what has a role, by its role
  pub one_role : (k : ℕ) (a b : Role) → HasRole (outlines body) 0 k a → HasRole (outlines body) 0 k b → a ≡ b
  one_role k a b x y =
      let f = found body k x.instruction x.there in
      sym x.is ∙ ap (λ (o : Outline). o.role) (sym f.is) ∙ role_there body k f.instruction b f.there y

  -- what the chain of a use links to, by the role of what serves it
  pub linked : (s u r j : ℕ) (is : Role) → Serves (outlines body) 0 s u r → HasRole (outlines body) 0 s is → Chain (outlines body) 0 u r j → LinkedAt s is j
  linked s u r j is serves has other =
      let l = link other in
      let here : l.s ≡ s = one_server s l.s u r serves l.serves in
      let same : l.is ≡ is = one_role s l.is is (subst (λ (x : ℕ). HasRole (outlines body) 0 x l.is) here l.has) has in
      subst (λ (x : Role). LinkedAt s x j) same (subst (λ (x : ℕ). LinkedAt x l.is j) here l.links)

  -- a chain begins at one place
  pub one_first : {u r k : ℕ} → Chain (outlines body) 0 u r k → (j : ℕ) → Chain (outlines body) 0 u r j → j ≡ k
  one_first (from_load s u r p serves has) j other = linked s u r j (role.Load p) serves has other
  one_first (from_slot s u r n serves has) j other = linked s u r j (role.Slot n) serves has other
  one_first (through s u r a k serves has rest) j other = one_first rest j (linked s u r j (role.Cast a) serves has other)

-- what an instruction uses is served without a jump from elsewhere
pub unbroken_use : (code : Code) (c : CodeFunction) → IsValidCodeFunction code c → (q u r : ℕ) (i : CodePlace) → slice_get c.body u ≡ Some i → IsAmong (used i) r
    → Serves (outlines c.body) 0 q u r
    → Unbroken (outlines c.body) 0 q u
unbroken_use code c valid q u r i here among serves =
    let served = (rules_at code c valid u i here).served r among in
    subst (λ (s : ℕ). Unbroken (outlines c.body) 0 s u) (one_server c.body q served.server u r serves served.serves) served.unbroken
