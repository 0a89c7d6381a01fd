-- What a frame keeps of its safe locals: their addresses, and that each function that a unit has was told.
use Rattle.std.proofs.Common.{◌≡◌, ◌≢◌, ◌⊎◌, inl, inr, ℕ, suc, pos, ◌+◌, ◌*◌, ◌%◌, ◌^◌, ◌≤◌, ◌<◌, Bool, true, false, if◌then◌else◌, nat_lt, List, [], ◌∷◌, ◌++◌, length, Option, Some, None, slice_get, slice_set, slice_index_or, unwrap_or, refl, sym, ap, ◌∙◌, subst, arith, append_assoc, get_or-set_other, eq-eqb, ne_eqb}
use Rattle.std.proofs.lemmas.Bool.{ltb-true, lt-ltb}
use Rattle.std.proofs.lemmas.Int.{ints}
use Rattle.std.proofs.lemmas.List.Elements.{All-nil, All-push}
use Rattle.core_ir.specs.declared.role.Role.TheVariants as role
use Rattle.core_ir.specs.Flow.{HasRole, IsAmong}
use Rattle.core_ir.specs.Order.{IsFramed, IsOutsideFrames, KeepsFrame}
use Rattle.core_ir.specs.SafeLocal.{IsInside as IsInsideUnits, IsMoved, IsSafe, by_constant, by_index}
use Rattle.meaning.specs.declared.action.Action.{Action}
use Rattle.meaning.specs.declared.action.Reply.{Reply}
use Rattle.meaning.specs.declared.note.Note.{Note}
use Rattle.meaning.specs.declared.note.Note.TheVariants as note
use Rattle.meaning.specs.declared.value.Value.{Value}
use Rattle.meaning.specs.declared.value.Value.TheVariants.{Bare, Code as CodeValue}
use Rattle.machine.specs.Addresses.{slots_for}
use Rattle.machine.specs.declared.code.Code.{Code}
use Rattle.machine.specs.declared.code.CodeFunction.{CodeFunction}
use Rattle.machine.specs.declared.code.CodeLocal.{CodeLocal}
use Rattle.machine.specs.declared.code.CodePlace.{CodePlace}
use Rattle.machine.specs.declared.code.CodePlace.TheVariants.{Enter, Load, Store}
use Rattle.machine.specs.declared.code.ScalarKind.{ScalarKind}
use Rattle.machine.specs.Frames.{Frame, Nothing, ToObject, ToRegister, ToSlot, ToUnit, Write}
use Rattle.machine.specs.Outlines.{outline_of_code, role_of, used}
use Rattle.machine.specs.Protected.{protected, unit_value}
use Rattle.machine.specs.Run.{Site, Step, Turned}
use Rattle.machine.specs.Shapes.{object_of, register}
use Rattle.machine.specs.Stands.{IsUnit}
use Rattle.machine.specs.Threads.{slot_told, slots_told, unit_told, units_in, write_told, written}
use Rattle.machine.specs.Transfers.{IsAtDepth, IsOwnTold, TellsNoOwn, all_told, last_own, or_later, own_note}
use Rattle.machine.specs.ValidCode.{IsValidCodeFunction, ValidCode}
use Rattle.machine.specs.Values.{address_of, told_function}
use Rattle.thread_laws.proofs.Bodies.{local_in_frame, order, stands_within}
use Rattle.thread_laws.proofs.Successors.{outlines, role_there, stands_at}
use Rattle.machine_laws.proofs.Frames.{enters_first}
use Rattle.unit_laws.specs.Objects.{slots_of}
use Rattle.unit_laws.proofs.Addresses.{FrameAddresses, address_at, pointer_address}
use Rattle.unit_laws.proofs.Served.{IsUnderWay, read_written, unbroken_use}
use Rattle.unit_laws.proofs.UnitNumbers.{UnitAt, number_at, same_number, same_offset}

-- ---- what notes tell of units

or_none : (o : Option ℕ) → or_later None o ≡ o
or_none (Some f) = refl
or_none None = refl

pub own_same : (a f : ℕ) → last_own a (note.CodeOwn a f ∷ []) ≡ Some f
own_same a f = or_none (own_note a (note.CodeOwn a f)) ∙ ap (λ (b : Bool). if b then Some f else None) (eq-eqb a a refl)

own_other : (a b : ℕ) (o : Option ℕ) → b ≢ a → last_own a (unit_told protected b o) ≡ None
own_other a b None other = refl
own_other a b (Some f) other = or_none (own_note a (note.CodeOwn b f)) ∙ ap (λ (x : Bool). if x then Some f else None) (ne_eqb b a other)

-- notes that tell nothing of units
abbrev pub IsQuiet : List Note → Type 0
IsQuiet notes = (a : ℕ) → last_own a notes ≡ None

slot_quiet : (d s : ℕ) (o : Option ℕ) → IsQuiet (slot_told protected d s o)
slot_quiet d s None a = refl
slot_quiet d s (Some f) a = refl

slot_in_front : (d s : ℕ) (o : Option ℕ) (rest : List Note) → IsQuiet rest → IsQuiet (slot_told protected d s o ++ rest)
slot_in_front d s None rest quiet a = quiet a
slot_in_front d s (Some f) rest quiet a = ap (λ (x : Option ℕ). or_later x None) (quiet a)

pub slots_quiet : (d s : ℕ) (vs : List Value) → IsQuiet (slots_told protected d s vs)
slots_quiet d s [] a = refl
slots_quiet d s (v ∷ vs) a = slot_in_front d s (told_function v) (slots_told protected d (suc s) vs) (slots_quiet d (suc s) vs) a

-- a write elsewhere than to a unit
abbrev pub IsUnitFree : Write Value → Type 0
IsUnitFree (ToUnit unit at v) = ⊥
IsUnitFree _ = Unit {0}

pub write_quiet : (d : ℕ) (w : Write Value) → IsUnitFree w → IsQuiet (write_told protected d w)
write_quiet d Nothing free a = refl
write_quiet d (ToRegister r v) free a = refl
write_quiet d (ToSlot s v) free a = slot_quiet d s (told_function v) a
write_quiet d (ToObject id) free a = refl
write_quiet d (ToUnit unit at v) free a = absurd free

-- a note in front that is none of a unit
pub front_quiet : (n : Note) (notes : List Note) → ((a : ℕ) → own_note a n ≡ None) → IsQuiet notes → IsQuiet (n ∷ notes)
front_quiet n notes none quiet a = ap (λ (o : Option ℕ). or_later o (own_note a n)) (quiet a) ∙ or_none (own_note a n) ∙ none a

pub own_later : (past : List Step) (step : Step) (t d a f : ℕ) → TellsNoOwn t d a step → IsOwnTold past t d a f → IsOwnTold (past ++ step ∷ []) t d a f
own_later past step t d a f quiet was = record {
  earlier = was.earlier;
  step = was.step;
  later = was.later ++ step ∷ [];
  is = ap (λ (l : List Step). l ++ step ∷ []) was.is ∙ append_assoc was.earlier (was.step ∷ was.later) (step ∷ []);
  by = was.by;
  told = was.told;
  only = All-push (TellsNoOwn t d a) was.later step was.only quiet;
}

own_now : (past : List Step) (step : Step) (t d a f : ℕ) → IsAtDepth t d step → last_own a (all_told step) ≡ Some f → IsOwnTold (past ++ step ∷ []) t d a f
own_now past step t d a f by told = record {
  earlier = past;
  step = step;
  later = [];
  is = refl;
  by = by;
  told = told;
  only = All-nil (TellsNoOwn t d a);
}

-- ---- objects

-- a frame with locals has its object behind its first place, and no other has one
abbrev pub ObjectIs : Frame Value → CodeFunction → Type 0
ObjectIs fr c =
    ((0 < length c.locals) × (0 < fr.place) × ((id : ℕ) × (fr.object ≡ Some id)))
    ⊎ ((fr.object ≡ None) × (0 < length c.locals → fr.place ≡ 0))

-- each function that a unit of the frame's safe locals has was told
abbrev pub UnitsTold : List Step → ℕ → ℕ → Frame Value → CodeFunction → Type 0
UnitsTold past t d fr c =
    (id v o f : ℕ) (l : CodeLocal)
    → fr.object ≡ Some id
    → UnitAt c.locals v o l
    → slice_index_or fr.units (number_at c.locals v o) (Bare (pos 0)) ≡ CodeValue f
    → IsOwnTold past t d (64 * id + (l.offset + o)) f

pub record OwnIn (past : List Step) (t d : ℕ) (fr : Frame Value) (c : CodeFunction) : Type 0 where
  pub size : length fr.registers ≡ c.registers
  pub object : ObjectIs fr c
  pub addresses : FrameAddresses fr c
  pub blank : fr.object ≡ None → (u f : ℕ) → slice_index_or fr.units u (Bare (pos 0)) ≡ CodeValue f → ⊥
  pub units : UnitsTold past t d fr c

abbrev pub OwnFrame : Code → List Step → ℕ → ℕ → Frame Value → Type 0
OwnFrame code past t d fr = (c : CodeFunction) → slice_get code.functions fr.function ≡ Some c → OwnIn past t d fr c

-- no address of the frame's object
abbrev pub IsOutside : Code → ℕ → Frame Value → Type 0
IsOutside code a fr = (id : ℕ) → fr.object ≡ Some id → (a < 64 * id) ⊎ (64 * (id + slots_of code fr) ≤ a)

module _ (code : Code) (c : CodeFunction) (valid : IsValidCodeFunction code c) where
  unit_lies : (v o : ℕ) (l : CodeLocal) → UnitAt c.locals v o l → l.offset + o < c.frame_units
  unit_lies v o l unit = let within = local_in_frame code c v l valid unit.there in omega (arith, within, unit.inside)

  -- a unit's address is in the frame's object
  pub unit_within : (v o : ℕ) (l : CodeLocal) → UnitAt c.locals v o l → l.offset + o < 64 * slots_for c.frame_units
  unit_within v o l unit = let low = unit_lies v o l unit in omega (arith, low)

  moved_is : {u operand : ℕ} → IsMoved (outlines c.body) u operand
      → ((p : ℕ) × (n : ℕ) × HasRole (outlines c.body) 0 u (role.Shifted p n)) ⊎ ((p : ℕ) × (i : ℕ) × (n : ℕ) × HasRole (outlines c.body) 0 u (role.Indexed p i n))
  moved_is (by_constant p n has) = inl (p, n, has)
  moved_is (by_index p i n j k has serves const) = inr (p, i, n, has)

  framed_by : (b : Bool) → nat_lt 0 (length c.locals) ≡ b → KeepsFrame b (outlines c.body)
      → (u : ℕ) (i : CodePlace) → slice_get c.body u ≡ Some i → (IsOutsideFrames (role_of i) → ⊥) → 0 < length c.locals
  framed_by true is keeps u i here inside = ltb-true 0 (length c.locals) is
  framed_by false is keeps u i here inside = absurd (inside (keeps u (outline_of_code i) (stands_at c.body u i here)))

  -- only a function with locals enters its frame
  pub enters_some : (u : ℕ) → slice_get c.body u ≡ Some Enter → 0 < length c.locals
  enters_some u here = framed_by (nat_lt 0 (length c.locals)) refl valid.well_formed.frame u Enter here (λ outside. outside)

  pub framed : 0 < length c.locals → IsFramed (outlines c.body)
  framed some = subst (λ (b : Bool). KeepsFrame b (outlines c.body)) (lt-ltb 0 (length c.locals) some) valid.well_formed.frame

  -- ---- accesses of units

  -- the unit that an access names stands at its address
  pub record AccessesUnit (p u : ℕ) (fr : Frame Value) : Type 0 where
    pub id : ℕ
    pub object : fr.object ≡ Some id
    pub v : ℕ
    pub o : ℕ
    pub l : CodeLocal
    pub unit : UnitAt c.locals v o l
    pub number : u ≡ number_at c.locals v o
    pub address : address_of (register protected fr p) ≡ 64 * id + (l.offset + o)

  module _ (whole : ValidCode code) (past : List Step) (t d : ℕ) (top : Frame Value) (there : slice_get code.functions top.function ≡ Some c)
      (was : OwnIn past t d top c) (low : (id : ℕ) → top.object ≡ Some id → id ≤ 1048576) where
    -- where it has locals and doesn't enter now, it has its object
    has_object : (i : CodePlace) → slice_get c.body top.place ≡ Some i → (i ≡ Enter → ⊥) → 0 < length c.locals → (id : ℕ) × (top.object ≡ Some id)
    has_object i at other some =
        elim was.object [
          | inl has ↦ has.2
          | inr none ↦
              absurd (other (enters_first code whole top.function c i there some (ap (slice_get c.body) (sym (none.1 some)) ∙ at)))
        ]

    pub accesses_unit : (i : CodePlace) (p u : ℕ)
        → slice_get c.body top.place ≡ Some i
        → (i ≡ Enter → ⊥)
        → slice_get (used i) 0 ≡ Some p
        → IsAmong (used i) p
        → ((q n : ℕ) → role_of i ≡ role.Shifted q n → ⊥)
        → ((q j n : ℕ) → role_of i ≡ role.Indexed q j n → ⊥)
        → IsUnit (outlines c.body) c.locals top.place p u
        → AccessesUnit p u top
    accesses_unit i p u at other operand among unshifted unindexed is =
        let some : 0 < length c.locals = omega (arith, stands_within c.locals is.local is.l is.there) in
        let has = has_object i at other some in
        let small = low has.0 has.1 in
        let safe : IsSafe (outlines c.body) is.local is.l.units = (valid.marked is.local is.l is.there).0 is.safe in
        let inside : is.offset < is.l.units =
        elim (safe is.server top.place 0 p (pos is.offset) (outline_of_code i) is.address is.serves (stands_at c.body top.place i at) operand) [
          | inl moved ↦
              absurd (elim (moved_is moved) [
                | inl shift ↦ unshifted shift.0 shift.1 (role_there c.body top.place i (role.Shifted shift.0 shift.1) at shift.2)
                | inr index ↦ unindexed index.0 index.1 index.2 (role_there c.body top.place i (role.Indexed index.0 index.1 index.2) at index.3)
              ])
          | inr accessed ↦ within is.offset is.l.units accessed.1
        ] in
        let unit : UnitAt c.locals is.local is.offset is.l = record { there = is.there; safe = is.safe; inside = inside } in
        let way : IsUnderWay c.body is.server top.place p top.place = record {
          serves = is.serves;
          unbroken = unbroken_use code c valid is.server top.place p i at among is.serves;
          behind = is.serves.before;
          before = omega arith;
        } in
        let pointer = was.addresses.addresses is.server top.place p is.local (pos is.offset) is.l way is.address is.there in
        let first : address_of (register protected top p) ≡ address_at (object_of protected top) is.l (pos is.offset) =
        pointer_address (register protected top p) (address_at (object_of protected top) is.l (pos is.offset)) pointer in
        let object : object_of protected top ≡ has.0 = ap (λ (x : Option ℕ). unwrap_or x 0) has.1 in
        let lies = unit_lies is.local is.offset is.l unit in
        let limit = valid.within_limits.frame_units in
        record {
          id = has.0;
          object = has.1;
          v = is.local;
          o = is.offset;
          l = is.l;
          unit = unit;
          number = is.is;
          address = first ∙ ap (λ (n : ℕ). address_at n is.l (pos is.offset)) object
              ∙ (let plain : (64 * has.0 + is.l.offset + is.offset) % 2 ^ 32 ≡ 64 * has.0 + (is.l.offset + is.offset) = omega (arith, small, lies, limit) in plain);
        } where
          within : (o n : ℕ) → IsInsideUnits (pos o) n → o < n
          within o n is = let less = is.1 in omega (arith, ints, less)

    -- what a marked load reads was told
    pub load_told : (r p u f : ℕ) (kind : ScalarKind)
        → slice_get c.body top.place ≡ Some (Load r p kind (Some u))
        → unit_value top (Some u) ≡ CodeValue f
        → IsOwnTold past t d (address_of (register protected top p)) f
    load_told r p u f kind at is =
        let a : AccessesUnit p u top =
        accesses_unit (Load r p kind (Some u)) p u at (λ enter. cc) refl (inl refl) (λ q n same. cc) (λ q j n same. cc)
        (valid.places top.place (Load r p kind (Some u)) at) in
        subst (λ (n : ℕ). IsOwnTold past t d n f) (sym a.address)
        (was.units a.id a.v a.o f a.l a.object a.unit (ap (λ (n : ℕ). slice_index_or top.units n (Bare (pos 0))) (sym a.number) ∙ is))

    pub store_unit : (p b u : ℕ) (kind : ScalarKind) → slice_get c.body top.place ≡ Some (Store p b kind (Some u)) → AccessesUnit p u top
    store_unit p b u kind at =
        accesses_unit (Store p b kind (Some u)) p u at (λ enter. cc) refl (inl refl) (λ q n same. cc) (λ q j n same. cc)
        (valid.places top.place (Store p b kind (Some u)) at)

    -- ---- units behind a store

    -- the step of a store tells nothing of addresses outside the frame's object
    pub store_outside : (p u a : ℕ) (v : Value) → AccessesUnit p u top → IsOutside code a top → last_own a (unit_told protected (address_of (register protected top p)) (told_function v)) ≡ None
    store_outside p u a v s outside =
        let low-unit = unit_within s.v s.o s.l s.unit in
        let size : slots_of code top ≡ slots_for c.frame_units = ap (λ (o : Option CodeFunction). slots_for (units_in o)) there in
        own_other a (address_of (register protected top p)) (told_function v)
        (λ same. elim (outside s.id s.object) [
          | inl below ↦ omega (arith, same, s.address, below)
          | inr above ↦ omega (arith, same, s.address, above, size, low-unit)
        ])

    pub store_units : (to p u : ℕ) (v : Value) (site : Site) (action : Action) (answer : Reply)
        → AccessesUnit p u top
        → site.depth ≡ d
        → UnitsTold (past ++ Turned t (Some site) action answer (unit_told protected (address_of (register protected top p)) (told_function v)) ∷ []) t d
        (written protected (ToUnit u (address_of (register protected top p)) v) (record top { place = to })) c
    store_units to p u v site action answer s deep id w o f l object unit is =
        let step = Turned t (Some site) action answer (unit_told protected (address_of (register protected top p)) (told_function v)) in
        let one : s.id ≡ id = let some : Some s.id ≡ Some id = sym s.object ∙ object in cc in
        let kept : number_at c.locals w o ≢ u → IsOwnTold (past ++ step ∷ []) t d (64 * id + (l.offset + o)) f =
        λ other. own_later past step t d (64 * id + (l.offset + o)) f (
          inr (omega (arith, deep)),
          own_other (64 * id + (l.offset + o)) (address_of (register protected top p)) (told_function v)
              (λ same. other (same_offset c.locals valid.locals_lie w o s.v s.o l s.l unit s.unit (omega (arith, same, s.address, one)) ∙ sym s.number)),
        )
        (was.units id w o f l object unit (sym (get_or-set_other top.units u (number_at c.locals w o) v (Bare (pos 0)) other) ∙ is)) in
        elim (order (number_at c.locals w o) u) [
          | inl less ↦ kept (λ same. omega (arith, less, same))
          | inr (inl more) ↦ kept (λ same. omega (arith, more, same))
          | inr (inr same) ↦
              let value : v ≡ CodeValue f =
              read_written top.units u v f (ap (λ (n : ℕ). slice_index_or (slice_set top.units u v) n (Bare (pos 0))) (sym same) ∙ is) in
              let offset : s.l.offset + s.o ≡ l.offset + o =
              same_number c.locals valid.locals_lie s.v s.o w o s.l l s.unit unit (sym s.number ∙ sym same) in
              let address : address_of (register protected top p) ≡ 64 * id + (l.offset + o) = omega (arith, s.address, one, offset) in
              own_now past step t d (64 * id + (l.offset + o)) f (refl, deep)
              (ap (λ (x : Value). last_own (64 * id + (l.offset + o)) (unit_told protected (address_of (register protected top p)) (told_function x))) value
              ∙ ap (λ (a : ℕ). last_own (64 * id + (l.offset + o)) (note.CodeOwn a f ∷ [])) address
              ∙ own_same (64 * id + (l.offset + o)) f)
        ]
