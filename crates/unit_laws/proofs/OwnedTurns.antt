-- A turn keeps what frames keep of their safe locals, and gives an object to the frame that enters alone.
use Rattle.std.proofs.Common.{◌≡◌, inl, inr, ℕ, ℤ, pos, ◌+◌, ◌*◌, ◌≤◌, ◌<◌, Bool, true, false, if◌then◌else◌, List, [], ◌∷◌, ◌++◌, length, map, replicate, Option, Some, None, slice_get, slice_index_or, unwrap_or, refl, sym, ap, ◌∙◌, subst, arith}
use Rattle.core_ir.specs.Flow.{Jumps, Serves}
use Rattle.meaning.specs.declared.action.Action.{Action}
use Rattle.meaning.specs.declared.action.Action.TheVariants as act
use Rattle.meaning.specs.declared.action.Reply.{Reply}
use Rattle.meaning.specs.declared.action.Reply.TheVariants as reply
use Rattle.meaning.specs.declared.note.Note.{Note}
use Rattle.meaning.specs.declared.note.Place.{Place}
use Rattle.meaning.specs.declared.value.Check.TheVariants.{BadFree, Dead}
use Rattle.meaning.specs.declared.value.Stop.{Stop}
use Rattle.meaning.specs.declared.value.Stop.TheVariants.{Failed}
use Rattle.meaning.specs.declared.value.Value.{Value}
use Rattle.meaning.specs.declared.value.Value.TheVariants.{Bare, Code as CodeValue}
use Rattle.machine.specs.Addresses.{slots_for}
use Rattle.machine.specs.declared.code.Code.{Code}
use Rattle.machine.specs.declared.code.CodeFunction.{CodeFunction}
use Rattle.machine.specs.declared.code.CodeLocal.{CodeLocal}
use Rattle.machine.specs.declared.code.CodePlace.{CodePlace}
use Rattle.machine.specs.declared.code.CodePlace.TheVariants.{Binary, Touch, Load, Store, CallInd, Enter, Free, Lock, Join}
use Rattle.machine.specs.declared.code.ScalarKind.{ScalarKind}
use Rattle.machine.specs.Domain.{Callee, Reaches, Refused}
use Rattle.machine.specs.Frames.{Effect, Frame, Goes, Nothing, ToObject, ToRegister, ToSlot, ToUnit, Write}
use Rattle.machine.specs.Numbers.{computed}
use Rattle.machine.specs.Outlines.{outline_of_code}
use Rattle.machine.specs.Protected.{action_of, callee_effect, drawn, effect_of, finds_zero, next, protected, protected_callee, unit_value, unless_no}
use Rattle.machine.specs.Run.{Setting, State, Step, Turned}
use Rattle.machine.specs.Shapes.{blank, defines_number, number_in, read_at, register, shape_of}
use Rattle.machine.specs.Threads.{frame_units, goes_on, opened, opened_in, place_at, result_write, stays, units_in, write_told, written}
use Rattle.machine.specs.Transfers.{IsInside, IsOwnTold, all_told, last_own}
use Rattle.machine.specs.ValidCode.{IsValidCodeFunction, ValidCode}
use Rattle.machine.specs.Values.{address_of}
use Rattle.thread_laws.proofs.Bodies.{StandsIn, order, stands_in, valid_function}
use Rattle.thread_laws.proofs.FittingValues.{all_read, all_replicate}
use Rattle.thread_laws.proofs.Successors.{IsCall, LeadsTo, jumps_at, leads_to, outlines, server_defines, stands_at}
use Rattle.machine_laws.proofs.Events.{answer_in}
use Rattle.machine_laws.proofs.Frames.{Drew, GivesNoObject, IsObjectFree, drew, enters_first, gives_no_object, is_enter, opened_function, opened_object, opened_place, opened_registers, written_function, written_object, written_place, written_registers}
use Rattle.unit_laws.specs.Objects.{slots_of}
use Rattle.unit_laws.proofs.Addresses.{FrameAddresses, first_addresses, goes_addresses}
use Rattle.transfer_laws.proofs.Notes.{site_here}
use Rattle.unit_laws.proofs.Owned.{AccessesUnit, IsOutside, IsQuiet, IsUnitFree, ObjectIs, OwnFrame, OwnIn, UnitsTold, enters_some, framed, load_told, own_later, store_outside, store_unit, store_units, unit_within, write_quiet}
use Rattle.unit_laws.proofs.Served.{IsUnderWay, calls_define, step_in}
use Rattle.unit_laws.proofs.UnitNumbers.{UnitAt, number_at}

-- ---- which instruction writes a unit

abbrev UnitBy : Frame Value → CodePlace → ℕ → ℕ → Value → Type 0
UnitBy top (Store p b kind (Some x)) u a v = (x ≡ u) × (a ≡ address_of (register protected top p)) × (v ≡ register protected top b)
UnitBy top _ u a v = ⊥

abbrev EffectUnit : Frame Value → CodePlace → Effect Value → Type 0
EffectUnit top i (Goes to (ToUnit u a v)) = UnitBy top i u a v
EffectUnit top i _ = Unit {0}

module _ (code : Code) (depth : ℕ) (top : Frame Value) (answer : Reply) where
  numbers_unit : (i : CodePlace) (e : ℕ) (n : Option ℤ) → EffectUnit top i (effect_of code top answer (defines_number protected e n))
  numbers_unit i e None = tt
  numbers_unit i e (Some n) = tt

  flag_unit : (i : CodePlace) (why : Stop) (b : Bool) → EffectUnit top i (unless_no top why (reply.Flag b))
  flag_unit i why true = tt
  flag_unit i why false = tt

  no_unit : (i : CodePlace) (why : Stop) (answered : Reply) → EffectUnit top i (unless_no top why answered)
  no_unit i why (reply.Flag b) = flag_unit i why b
  no_unit i why reply.Nothing = tt
  no_unit i why (reply.Word w) = tt
  no_unit i why (reply.Found e) = tt
  no_unit i why (reply.Slot s) = tt
  no_unit i why (reply.Thread n) = tt

  drawn_unit : (i : CodePlace) (answered : Reply) → EffectUnit top i (drawn top answered)
  drawn_unit i (reply.Slot None) = tt
  drawn_unit i (reply.Slot (Some s)) = tt
  drawn_unit i reply.Nothing = tt
  drawn_unit i (reply.Word w) = tt
  drawn_unit i (reply.Found e) = tt
  drawn_unit i (reply.Flag b) = tt
  drawn_unit i (reply.Thread n) = tt

  either_unit : (i : CodePlace) (b : Bool) (x y : Effect Value) → EffectUnit top i x → EffectUnit top i y → EffectUnit top i (if b then x else y)
  either_unit i true x y p q = p
  either_unit i false x y p q = q

  callee_unit : (i : CodePlace) (arguments : List Value) (read : Option Place) (c : Callee) → EffectUnit top i (callee_effect arguments read c)
  callee_unit i arguments read (Reaches f) = tt
  callee_unit i arguments read (Refused why) = tt

  pub effect_unit : (i : CodePlace) → EffectUnit top i (effect_of code top answer (shape_of protected depth top i))
  effect_unit (Binary e op a b) = numbers_unit (Binary e op a b) e (computed op (number_in protected top a) (number_in protected top b))
  effect_unit (Touch p class marked) = no_unit (Touch p class marked) (Failed Dead) answer
  effect_unit (Store p b kind None) = tt
  effect_unit (Store p b kind (Some u)) = (refl, refl, refl)
  effect_unit (Free p) = no_unit (Free p) (Failed BadFree) answer
  effect_unit Enter = drawn_unit Enter answer
  effect_unit (CallInd c args type k o) =
      callee_unit (CallInd c args type k o) (map (register protected top) args) (Some (read_at protected depth top o)) (protected_callee code type (register protected top c))
  effect_unit (Lock p) = either_unit (Lock p) (finds_zero answer) (goes_on protected top) (stays protected top) tt tt
  effect_unit (Join n) = either_unit (Join n) (finds_zero answer) (stays protected top) (goes_on protected top) tt tt
  effect_unit _ = tt

record IsUnitStore (top : Frame Value) (i : CodePlace) (u a : ℕ) (v : Value) : Type 0 where
  pub p : ℕ
  pub b : ℕ
  pub kind : ScalarKind
  pub is : i ≡ Store p b kind (Some u)
  pub address : a ≡ address_of (register protected top p)

unit_store : (top : Frame Value) (i : CodePlace) (u a : ℕ) (v : Value) → UnitBy top i u a v → IsUnitStore top i u a v
unit_store top (Store p b kind (Some x)) u a v by =
    record { p = p; b = b; kind = kind; is = ap (λ (n : ℕ). Store p b kind (Some n)) by.0; address = by.1 }
unit_store top _ u a v by = absurd by

-- ---- frames that keep their units

units_like : (past : List Step) (t d : ℕ) (f g : Frame Value) (c : CodeFunction) → g.object ≡ f.object → g.units ≡ f.units → UnitsTold past t d f c → UnitsTold past t d g c
units_like past t d f g c object units was id v o e l has unit is =
    was id v o e l (sym object ∙ has) unit (ap (λ (us : List Value). slice_index_or us (number_at c.locals v o) (Bare (pos 0))) (sym units) ∙ is)

blank_like : (f g : Frame Value) → g.object ≡ f.object → g.units ≡ f.units
    → (f.object ≡ None → (u e : ℕ) → slice_index_or f.units u (Bare (pos 0)) ≡ CodeValue e → ⊥)
    → g.object ≡ None → (u e : ℕ) → slice_index_or g.units u (Bare (pos 0)) ≡ CodeValue e → ⊥
blank_like f g object units was none u e is =
    was (sym object ∙ none) u e (ap (λ (us : List Value). slice_index_or us u (Bare (pos 0))) (sym units) ∙ is)

-- a step that leaves a frame as it is, and tells nothing of its object's addresses
pub record IsClear (code : Code) (t d : ℕ) (fr : Frame Value) (step : Step) : Type 0 where
  pub inside : IsInside t d step
  pub quiet : (id a : ℕ) → fr.object ≡ Some id → 64 * id ≤ a → a < 64 * (id + slots_of code fr) → last_own a (all_told step) ≡ None

module _ (code : Code) (valid : ValidCode code) (past : List Step) (step : Step) (t : ℕ) where
  within : (fr : Frame Value) (c : CodeFunction) → slice_get code.functions fr.function ≡ Some c → (v o : ℕ) (l : CodeLocal) → UnitAt c.locals v o l
      → l.offset + o < 64 * slots_of code fr
  within fr c there v o l unit =
      let low = unit_within code c (valid_function code fr.function c valid there) v o l unit in
      let size : slots_of code fr ≡ slots_for c.frame_units = ap (λ (x : Option CodeFunction). slots_for (units_in x)) there in
      omega (arith, low, size)

  units_later : (d : ℕ) (fr : Frame Value) (c : CodeFunction) → slice_get code.functions fr.function ≡ Some c → IsClear code t d fr step → UnitsTold past t d fr c
      → UnitsTold (past ++ step ∷ []) t d fr c
  units_later d fr c there clear was id v o f l object unit is =
      let low = within fr c there v o l unit in
      own_later past step t d (64 * id + (l.offset + o)) f
      (clear.inside, clear.quiet id (64 * id + (l.offset + o)) object (omega arith) (omega (arith, low)))
      (was id v o f l object unit is)

  pub frame_later : (d : ℕ) (fr : Frame Value) → IsClear code t d fr step → OwnFrame code past t d fr → OwnFrame code (past ++ step ∷ []) t d fr
  frame_later d fr clear was c there =
      let now = was c there in
      record {
        size = now.size;
        object = now.object;
        addresses = now.addresses;
        blank = now.blank;
        units = units_later d fr c there clear now.units;
      }

-- a quiet step is clear
quiet_clear : (code : Code) (t d : ℕ) (fr : Frame Value) (step : Step) → IsInside t d step → IsQuiet (all_told step) → IsClear code t d fr step
quiet_clear code t d fr step inside quiet = record { inside = inside; quiet = λ id a object low high. quiet a }

-- ---- new frames

abbrev NoFunction : Value → Type 0
NoFunction (CodeValue f) = ⊥
NoFunction v = Unit {0}

units_blank_by : (o : Option CodeFunction) (f : ℕ) (arguments : List Value) (u e : ℕ) → slice_index_or (opened_in protected o f arguments).units u (Bare (pos 0)) ≡ CodeValue e → ⊥
units_blank_by None f arguments u e is = cc
units_blank_by (Some c) f arguments u e is =
    let none : NoFunction (slice_index_or (replicate c.safe_units (blank protected)) u (Bare (pos 0))) =
    all_read NoFunction (replicate c.safe_units (blank protected)) u (Bare (pos 0)) (all_replicate NoFunction c.safe_units (blank protected) tt) tt in
    subst NoFunction is none

pub new_owns : (code : Code) (past : List Step) (t d f : ℕ) (arguments : List Value) → OwnFrame code past t d (opened protected code f arguments)
new_owns code past t d f arguments c there =
    let new : Frame Value = opened protected code f arguments in
    let first : new.place ≡ 0 = opened_place code f arguments in
    let none : new.object ≡ None = opened_object code f arguments in
    record {
      size = opened_registers code f arguments c (ap (λ (n : ℕ). slice_get code.functions n) (sym (opened_function code f arguments)) ∙ there);
      object = inr (none, λ some. first);
      addresses = first_addresses new c first;
      blank = λ is u e value. units_blank_by (slice_get code.functions f) f arguments u e value;
      units = λ id v o e l object unit is. let no : None ≡ Some id = sym none ∙ object in absurd (cc);
    }

-- a caller's frame has the result, and keeps what it has
pub returned_owns : (code : Code) (past : List Step) (t d : ℕ) (caller : Frame Value) (o : Option ℕ) (v : Value)
    → OwnFrame code past t d caller
    → OwnFrame code past t d (written protected (result_write protected o v) caller)
returned_owns code past t d caller None v was c there = was c there
returned_owns code past t d caller (Some k) v was c there =
    let own = was c there in
    record { size = own.size; object = own.object; addresses = record { addresses = own.addresses.addresses; constants = own.addresses.constants }; blank = own.blank; units = own.units }

-- ---- a turn of the top frame

module _ (setting : Setting) (valid : ValidCode setting.code) (few : setting.slots ≤ 1048576) (s : State) (past : List Step) (t : ℕ)
    (top : Frame Value) (below : List (Frame Value)) (was : OwnFrame setting.code past t (length below) top)
    (low : (id : ℕ) → top.object ≡ Some id → id ≤ 1048576)
    (i : CodePlace) (here : place_at setting.code top.function top.place ≡ Some i) where
  abbrev code : Code
  code = setting.code

  abbrev action_at : CodePlace → Action
  action_at j = action_of code t top below (shape_of protected (length below) top j)

  abbrev effect_at : CodePlace → Effect Value
  effect_at j = effect_of code top (answer_in setting s (action_at j)) (shape_of protected (length below) top j)

  abbrev turned : List Note → Step
  turned notes = Turned t (Some (site_here top below)) (action_at i) (answer_in setting s (action_at i)) notes

  abbrev now : StandsIn code top.function top.place i
  now = stands_in code top.function top.place i here

  abbrev rules : IsValidCodeFunction code now.function
  rules = valid_function code top.function now.function valid now.there

  abbrev own : OwnIn past t (length below) top now.function
  own = was now.function now.there

  same_function : (g : Frame Value) (c : CodeFunction) → g.function ≡ top.function → slice_get code.functions g.function ≡ Some c → now.function ≡ c
  same_function g c same there =
      let is : Some now.function ≡ Some c = sym now.there ∙ ap (λ (n : ℕ). slice_get code.functions n) (sym same) ∙ there in cc

  -- an instruction other than `Enter` in a function with locals stands behind the first place
  behind_first : (i ≡ Enter → ⊥) → 0 < length now.function.locals → top.place ≡ 0 → ⊥
  behind_first other some first =
      other (enters_first code valid top.function now.function i now.there some (ap (slice_get now.function.body) (sym first) ∙ now.at))

  -- ---- on in the frame

  module _ (to : ℕ) (w : Write Value) (effect : effect_at i ≡ Goes to w) where
    abbrev after : Frame Value
    after = written protected w (record top { place = to })

    abbrev step : Step
    step = turned (write_told protected (length below) w)

    leads : LeadsTo top.place i (Goes to w)
    leads = subst (LeadsTo top.place i) effect (leads_to code (length below) top (answer_in setting s (action_at i)) i)

    -- the frame isn't entered again
    goes_behind : 0 < length now.function.locals → 0 < top.place → 0 < to
    goes_behind some behind =
        elim leads [
          | inl next ↦ omega (arith, next)
          | inr other ↦ elim other [
            | inl jump ↦
                elim (order 0 to) [
                  | inl less ↦ less
                  | inr (inl more) ↦ absurd (omega (arith, more))
                  | inr (inr first) ↦
                      absurd ((framed code now.function rules some).entry_unreached top.place
                      (subst (λ (n : ℕ). Jumps (outlines now.function.body) 0 top.place n) (sym first) (jumps_at now.function.body top.place to i now.at jump)))
                ]
            | inr waits ↦ omega (arith, waits.0, behind)
          ]
        ]

    -- ---- without an object

    module _ (other : i ≡ Enter → ⊥) where
      free : IsObjectFree w
      free = subst GivesNoObject effect (gives_no_object code (length below) top (answer_in setting s (action_at i)) i other)

      object_same : after.object ≡ top.object
      object_same = written_object w (record top { place = to }) free

      object_goes : ObjectIs after now.function
      object_goes =
          elim own.object [
            | inl has ↦
                inl (has.0, subst (λ (n : ℕ). 0 < n) (sym (written_place w (record top { place = to }))) (goes_behind has.0 has.1), (has.2.0, object_same ∙ has.2.1))
            | inr none ↦ inr (object_same ∙ none.0, λ some. absurd (behind_first other some (none.1 some)))
          ]

      addresses_go : FrameAddresses after now.function
      addresses_go =
          goes_addresses code now.function rules (length below) top (answer_in setting s (action_at i)) i to w now.at own.addresses own.size effect
          (ap (λ (o : Option ℕ). unwrap_or o 0) object_same)

      -- what it writes is no unit
      units_stay : IsUnitFree w → after.units ≡ top.units
      units_stay unit-free = stay w unit-free free where
        stay : (x : Write Value) → IsUnitFree x → IsObjectFree x → (written protected x (record top { place = to })).units ≡ top.units
        stay Nothing unit-free object-free = refl
        stay (ToRegister e v) unit-free object-free = refl
        stay (ToSlot k v) unit-free object-free = refl
        stay (ToUnit u a v) unit-free object-free = absurd unit-free
        stay (ToObject id) unit-free object-free = absurd object-free

      plain_goes : IsUnitFree w → OwnIn (past ++ step ∷ []) t (length below) after now.function
      plain_goes unit-free = record {
        size = written_registers w (record top { place = to }) ∙ own.size;
        object = object_goes;
        addresses = addresses_go;
        blank = blank_like top after object_same (units_stay unit-free) own.blank;
        units = units_like (past ++ step ∷ []) t (length below) top after now.function object_same (units_stay unit-free)
            (units_later code valid past step t (length below) top now.function now.there
            (quiet_clear code t (length below) top step (inr (omega arith)) (write_quiet (length below) w unit-free)) own.units);
      }

    entered_goes : (k : ℕ) (answered : Reply) → i ≡ Enter → drawn top answered ≡ Goes to w → OwnIn (past ++ step ∷ []) t (length below) after now.function
    entered_goes k answered enters is =
        let d : Drew top answered to w = drew top answered to w is in
        let at : slice_get now.function.body top.place ≡ Some Enter = now.at ∙ ap (λ (j : CodePlace). Some j) enters in
        let some : 0 < length now.function.locals = enters_some code now.function rules top.place at in
        let first : top.place ≡ 0 = (framed code now.function rules some).each top.place (outline_of_code Enter) (stands_at now.function.body top.place Enter at) in
        let none : top.object ≡ None = elim own.object [ inl has ↦ absurd (omega (arith, has.1, first)) | inr empty ↦ empty.0 ] in
        let object : after.object ≡ Some d.id = ap (λ (x : Write Value). (written protected x (record top { place = to })).object) d.write in
        let units : after.units ≡ top.units = ap (λ (x : Write Value). (written protected x (record top { place = to })).units) d.write in
        let place : after.place ≡ 1 = written_place w (record top { place = to }) ∙ d.place ∙ (let one : top.place + 1 ≡ 1 = omega (arith, first) in one) in
        record {
          size = written_registers w (record top { place = to }) ∙ own.size;
          object = inl (some, omega (arith, place), (d.id, object));
          addresses = record {
            addresses = λ q u r v o l way address there. absurd (nothing_under q u r first at place way);
            constants = λ q u r n way const. absurd (nothing_under q u r first at place way);
          };
          blank = λ is-none u f value. let no : Some d.id ≡ None = sym object ∙ is-none in absurd (cc);
          units = λ id v o f l has unit value.
              absurd (own.blank none (number_at now.function.locals v o) f
              (ap (λ (us : List Value). slice_index_or us (number_at now.function.locals v o) (Bare (pos 0))) (sym units) ∙ value));
        } where
          nothing_under : (q u r : ℕ) → top.place ≡ 0 → slice_get now.function.body top.place ≡ Some Enter → after.place ≡ 1 → IsUnderWay now.function.body q u r after.place → ⊥
          nothing_under q u r first at place way =
              let here-is : q ≡ top.place = omega (arith, way.behind, place, first) in
              let is : None ≡ Some r =
              server_defines now.function.body top.place u r Enter at (subst (λ (n : ℕ). Serves (outlines now.function.body) 0 n u r) here-is way.serves) in
              cc

    -- ---- a unit

    unit_goes : (u a : ℕ) (v : Value) → w ≡ ToUnit u a v → (i ≡ Enter → ⊥) → OwnIn (past ++ step ∷ []) t (length below) after now.function
    unit_goes u a v is other =
        let by : UnitBy top i u a v = subst (EffectUnit top i) (effect ∙ ap (λ (x : Write Value). Goes to x) is) (effect_unit code (length below) top (answer_in setting s (action_at i)) i) in
        let st : IsUnitStore top i u a v = unit_store top i u a v by in
        let at : slice_get now.function.body top.place ≡ Some (Store st.p st.b st.kind (Some u)) = now.at ∙ ap (λ (j : CodePlace). Some j) st.is in
        let access : AccessesUnit code now.function rules st.p u top =
        store_unit code now.function rules valid past t (length below) top now.there own low st.p st.b u st.kind at in
        let write : w ≡ ToUnit u (address_of (register protected top st.p)) v = is ∙ ap (λ (n : ℕ). ToUnit u n v) st.address in
        record {
          size = written_registers w (record top { place = to }) ∙ own.size;
          object = object_goes other;
          addresses = addresses_go other;
          blank = λ none n f value. let no : Some access.id ≡ None = sym access.object ∙ sym (object_same other) ∙ none in absurd (cc);
          units = subst (λ (x : Write Value). UnitsTold (past ++ turned (write_told protected (length below) x) ∷ []) t (length below) (written protected x (record top { place = to })) now.function)
              (sym write)
              (store_units code now.function rules valid past t (length below) top now.there own low to st.p u v (site_here top below) (action_at i) (answer_in setting s (action_at i)) access refl);
        }

    -- the step tells of no address outside the object
    unit_outside : (u a x : ℕ) (v : Value) → w ≡ ToUnit u a v → IsOutside code x top → last_own x (write_told protected (length below) w) ≡ None
    unit_outside u a x v is outside =
        let by : UnitBy top i u a v = subst (EffectUnit top i) (effect ∙ ap (λ (y : Write Value). Goes to y) is) (effect_unit code (length below) top (answer_in setting s (action_at i)) i) in
        let st : IsUnitStore top i u a v = unit_store top i u a v by in
        let at : slice_get now.function.body top.place ≡ Some (Store st.p st.b st.kind (Some u)) = now.at ∙ ap (λ (j : CodePlace). Some j) st.is in
        let access : AccessesUnit code now.function rules st.p u top =
        store_unit code now.function rules valid past t (length below) top now.there own low st.p st.b u st.kind at in
        ap (λ (y : Write Value). last_own x (write_told protected (length below) y)) (is ∙ ap (λ (n : ℕ). ToUnit u n v) st.address)
        ∙ store_outside code now.function rules valid past t (length below) top now.there own low st.p u x v access outside

    goes_own : OwnIn (past ++ step ∷ []) t (length below) after now.function
    goes_own =
        elim (is_enter i) [
          | inl enters ↦
              entered_goes (slots_for (frame_units code top.function)) (answer_in setting s (act.Alloc (slots_for (frame_units code top.function)))) enters
              (ap (λ (j : CodePlace). effect_at j) (sym enters) ∙ effect)
          | inr other ↦ by_write w refl other
        ] where
          by_write : (x : Write Value) → w ≡ x → (i ≡ Enter → ⊥) → OwnIn (past ++ step ∷ []) t (length below) after now.function
          by_write Nothing is other = plain_goes other (subst IsUnitFree (sym is) tt)
          by_write (ToRegister e v) is other = plain_goes other (subst IsUnitFree (sym is) tt)
          by_write (ToSlot k v) is other = plain_goes other (subst IsUnitFree (sym is) tt)
          by_write (ToUnit u a v) is other = unit_goes u a v is other
          by_write (ToObject id) is other = absurd (subst IsObjectFree is (free other))

    pub goes_outside : (x : ℕ) → IsOutside code x top → last_own x (write_told protected (length below) w) ≡ None
    goes_outside x outside = by_write w refl where
      by_write : (y : Write Value) → w ≡ y → last_own x (write_told protected (length below) w) ≡ None
      by_write Nothing is = write_quiet (length below) w (subst IsUnitFree (sym is) tt) x
      by_write (ToRegister e v) is = write_quiet (length below) w (subst IsUnitFree (sym is) tt) x
      by_write (ToSlot k v) is = write_quiet (length below) w (subst IsUnitFree (sym is) tt) x
      by_write (ToUnit u a v) is = unit_outside u a x v is outside
      by_write (ToObject id) is = write_quiet (length below) w (subst IsUnitFree (sym is) tt) x

    pub goes_owns : OwnFrame code (past ++ step ∷ []) t (length below) after
    goes_owns c there =
        subst (λ (x : CodeFunction). OwnIn (past ++ step ∷ []) t (length below) after x)
        (same_function after c (written_function w (record top { place = to })) there) goes_own

  -- ---- behind a call

  called_own : (notes : List Note) → IsQuiet notes → IsCall i → OwnIn (past ++ turned notes ∷ []) t (length below) (record top { place = top.place + 1 }) now.function
  called_own notes quiet call =
      let other : i ≡ Enter → ⊥ = λ is. subst IsCall is call in
      let gone : Frame Value = record top { place = top.place + 1 } in
      record {
        size = own.size;
        object = elim own.object [
          | inl has ↦ inl (has.0, omega arith, has.2)
          | inr none ↦ inr (none.0, λ some. absurd (behind_first other some (none.1 some)))
        ];
        addresses = record {
          addresses = λ q u r v o l way address there.
              elim (step_in now.function.body top.place (top.place + 1) q u r Nothing i now.at (inl refl) way) [
                | inl serves ↦ absurd (calls_define i r call (server_defines now.function.body top.place u r i now.at
                    (subst (λ (n : ℕ). Serves (outlines now.function.body) 0 n u r) (sym serves) way.serves)))
                | inr under ↦ own.addresses.addresses q u r v o l under.0 address there
              ];
          constants = λ q u r k way const.
              elim (step_in now.function.body top.place (top.place + 1) q u r Nothing i now.at (inl refl) way) [
                | inl serves ↦ absurd (calls_define i r call (server_defines now.function.body top.place u r i now.at
                    (subst (λ (n : ℕ). Serves (outlines now.function.body) 0 n u r) (sym serves) way.serves)))
                | inr under ↦ own.addresses.constants q u r k under.0 const
              ];
        };
        blank = own.blank;
        units = units_like (past ++ turned notes ∷ []) t (length below) top gone now.function refl refl
            (units_later code valid past (turned notes) t (length below) top now.function now.there
            (quiet_clear code t (length below) top (turned notes) (inr (omega arith)) quiet) own.units);
      }

  pub called_owns : (notes : List Note) → IsQuiet notes → IsCall i → OwnFrame code (past ++ turned notes ∷ []) t (length below) (record top { place = top.place + 1 })
  called_owns notes quiet call c there =
      subst (λ (x : CodeFunction). OwnIn (past ++ turned notes ∷ []) t (length below) (record top { place = top.place + 1 }) x)
      (same_function (record top { place = top.place + 1 }) c refl there) (called_own notes quiet call)

  -- ---- its loads of units

  pub loads_told : (r p u f : ℕ) (kind : ScalarKind) → i ≡ Load r p kind (Some u) → unit_value top (Some u) ≡ CodeValue f
      → IsOwnTold past t (length below) (address_of (register protected top p)) f
  loads_told r p u f kind is value =
      load_told code now.function rules valid past t (length below) top now.there own low r p u f kind (now.at ∙ ap (λ (j : CodePlace). Some j) is) value
