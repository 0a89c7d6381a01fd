-- What frames keep of functions: each that a slot has was told, and each that a register has on its way to a call was read.
use Rattle.std.proofs.Common.{◌≡◌, ◌≢◌, ◌⊎◌, inl, inr, ℕ, ℤ, pos, ◌+◌, ◌≤◌, ◌<◌, Bool, true, false, ◌&&◌, if◌then◌else◌, List, [], ◌∷◌, ◌++◌, length, Option, Some, None, slice_get, slice_set, slice_index_or, refl, sym, ap, ◌∙◌, subst, arith, get_or-set_other}
use Rattle.std.specs.FinMap.{get}
use Rattle.core_ir.specs.declared.role.Role.{Role}
use Rattle.core_ir.specs.declared.role.Role.TheVariants as role
use Rattle.core_ir.specs.Flow.{Chain, HasRole, IsAmong, IsKept, Serves}
use Rattle.meaning.specs.declared.action.Action.{Action}
use Rattle.meaning.specs.declared.action.Action.TheVariants as act
use Rattle.meaning.specs.declared.action.Reply.TheVariants as reply
use Rattle.meaning.specs.declared.note.Note.{Note}
use Rattle.meaning.specs.declared.note.Place.{Place}
use Rattle.meaning.specs.declared.note.Place.TheVariants.{At, Slot}
use Rattle.meaning.specs.declared.value.Entry.{Entry}
use Rattle.meaning.specs.declared.value.Entry.TheVariants as entry
use Rattle.meaning.specs.declared.value.Value.{Value}
use Rattle.meaning.specs.declared.value.Value.TheVariants.{Bare, Code as CodeValue}
use Rattle.machine.specs.declared.code.Code.{Code}
use Rattle.machine.specs.declared.code.CodeFunction.{CodeFunction}
use Rattle.machine.specs.declared.code.CodePlace.{CodePlace}
use Rattle.machine.specs.declared.code.CodePlace.TheVariants.{Load, GetLocal, Cast}
use Rattle.machine.specs.declared.code.ScalarKind.{ScalarKind}
use Rattle.machine.specs.Frames.{Effect, Frame, Goes, Nothing, Running, Thread, ToObject, ToRegister, ToSlot, ToUnit, Write}
use Rattle.machine.specs.Numbers.{is_kept, truncated}
use Rattle.machine.specs.Outlines.{defined, outline_of_code, used}
use Rattle.machine.specs.Protected.{action_of, effect_of, load_value, protected, unit_value, unless_unit}
use Rattle.machine.specs.Run.{Setting, Site, State, Step, Turned}
use Rattle.machine.specs.Shapes.{address_in, register, shape_of, slot}
use Rattle.machine.specs.Threads.{place_at, write_told, written}
use Rattle.machine.specs.Transfers.{IsAt, IsInside, IsLast, IsOwnTold, IsSlotTold, PassesBy, last_slot}
use Rattle.machine.specs.ValidCode.{ValidCode}
use Rattle.machine.specs.Values.{address_of, cast_value, number_of}
use Rattle.thread_laws.proofs.Bodies.{StandsIn, order, stands_in, valid_function}
use Rattle.thread_laws.proofs.Successors.{IsCall, LeadsTo, leads_to, outlines, role_there, server_defines, stands_at}
use Rattle.machine_laws.proofs.Events.{answer_in}
use Rattle.machine_laws.proofs.Frames.{written_function, written_place}
use Rattle.transfer_laws.proofs.Notes.{site_here}
use Rattle.unit_laws.proofs.Served.{EffectWrites, IsCast, IsGetLocal, IsLoad, IsUnderWay, Link, LinkedAt, WritesOnly, calls_define, cast_of, chain_before, chain_first, effect_writes, link, load_of, one_role, one_server, read_written, register_stays, slot_of, step_in, unbroken_use}
use Rattle.transfer_laws.proofs.Starts.{loaded_code}
use Rattle.read_laws.proofs.Tells.{Passes, just_last, last_later, of_same, slot_later, slot_now, told_same, write_tells_none}

-- ---- reads

-- the last step at place q in the activation of thread t at depth d got function f from address a
pub record GotAt (past : List Step) (t d q f a : ℕ) : Type 0 where
  pub earlier : List Step
  pub at : Option Site
  pub notes : List Note
  pub last : IsLast past t d q (Turned t at (act.Get a) (reply.Found (Some (entry.Code f))) notes) earlier

-- it read the unit at address a, which was told to have function f
pub record OwnAt (past : List Step) (t d q f a : ℕ) : Type 0 where
  pub earlier : List Step
  pub step : Step
  pub last : IsLast past t d q step earlier
  pub told : IsOwnTold earlier t d a f

-- it read slot s, which was told to have function f
pub record SlotAt (past : List Step) (t d q f s : ℕ) : Type 0 where
  pub earlier : List Step
  pub step : Step
  pub last : IsLast past t d q step earlier
  pub told : IsSlotTold earlier t d s f

abbrev pub LoadAt : List Step → ℕ → ℕ → ℕ → ℕ → Option ℕ → Place → Type 0
LoadAt past t d q f None (At a) = GotAt past t d q f a
LoadAt past t d q f (Some u) (At a) = OwnAt past t d q f a
LoadAt past t d q f unit (Slot depth s) = ⊥

abbrev pub LocalAt : List Step → ℕ → ℕ → ℕ → ℕ → ℕ → Place → Type 0
LocalAt past t d q f n (Slot depth s) = (depth ≡ d) × (n ≡ s) × SlotAt past t d q f s
LocalAt past t d q f n (At a) = ⊥

-- by what stands at place q
abbrev pub ReadAt : List Step → ℕ → ℕ → ℕ → ℕ → Option CodePlace → Place → Type 0
ReadAt past t d q f (Some (Load r p kind unit)) place = LoadAt past t d q f unit place
ReadAt past t d q f (Some (GetLocal r n)) place = LocalAt past t d q f n place
ReadAt past t d q f _ place = ⊥

module _ (past : List Step) (step : Step) (t d q f : ℕ) (passes : PassesBy t d q step) where
  load_later : (unit : Option ℕ) (place : Place) → LoadAt past t d q f unit place → LoadAt (past ++ step ∷ []) t d q f unit place
  load_later None (At a) was = record {
    earlier = was.earlier;
    at = was.at;
    notes = was.notes;
    last = last_later past step t d q (Turned t was.at (act.Get a) (reply.Found (Some (entry.Code f))) was.notes) was.earlier passes was.last;
  }
  load_later (Some u) (At a) was = record {
    earlier = was.earlier;
    step = was.step;
    last = last_later past step t d q was.step was.earlier passes was.last;
    told = was.told;
  }
  load_later unit (Slot depth s) was = absurd was

  local_later : (n : ℕ) (place : Place) → LocalAt past t d q f n place → LocalAt (past ++ step ∷ []) t d q f n place
  local_later n (Slot depth s) was = (
    was.0,
    was.1,
    record {
      earlier = was.2.earlier;
      step = was.2.step;
      last = last_later past step t d q was.2.step was.2.earlier passes was.2.last;
      told = was.2.told;
    },
  )
  local_later n (At a) was = absurd was

  read_later : (o : Option CodePlace) (place : Place) → ReadAt past t d q f o place → ReadAt (past ++ step ∷ []) t d q f o place
  read_later (Some (Load r p kind unit)) place was = load_later unit place was
  read_later (Some (GetLocal r n)) place was = local_later n place was
  read_later _ place was = absurd was

-- ---- frames

-- where the chain of a use of a function's pointer begins, and what its record says of that
abbrev pub OriginAt : List CodePlace → ℕ → Frame Value → ℕ → ℕ → Place → Type 0
OriginAt body d fr first u place =
    ((p : ℕ) × HasRole (outlines body) 0 first (role.Load p) × IsKept (outlines body) 0 first u p × (place ≡ At (address_in protected fr p)))
    ⊎ ((s : ℕ) × HasRole (outlines body) 0 first (role.Slot s) × (place ≡ Slot d s))

origin_less : (body : List CodePlace) (d : ℕ) (fr : Frame Value) (first u v : ℕ) (place : Place) → v ≤ u → OriginAt body d fr first u place → OriginAt body d fr first v place
origin_less body d fr first u v place low origin =
    elim origin [
      | inl load ↦ inl (load.0, load.1, (λ j i there from to. load.2 j i there from (omega (arith, to, low))), load.3)
      | inr other ↦ inr other
    ]

abbrev pub ReadOnceIn : List Step → ℕ → ℕ → Frame Value → List CodePlace → Type 0
ReadOnceIn past t d fr body =
    (q u r first f : ℕ) (place : Place)
    → Chain (outlines body) 0 u r first
    → IsUnderWay body q u r fr.place
    → OriginAt body d fr first u place
    → register protected fr r ≡ CodeValue f
    → ReadAt past t d first f (slice_get body first) place

-- each function that stands in a register under way to a call was read
abbrev pub ReadOnce : Code → List Step → ℕ → ℕ → Frame Value → Type 0
ReadOnce code past t d fr = (c : CodeFunction) → slice_get code.functions fr.function ≡ Some c → ReadOnceIn past t d fr c.body

-- each function that stands in a slot was told
abbrev pub SlotsTold : List Step → ℕ → ℕ → Frame Value → Type 0
SlotsTold past t d fr = (s f : ℕ) → slot protected fr s ≡ CodeValue f → IsSlotTold past t d s f

pub record FrameReads (code : Code) (past : List Step) (t d : ℕ) (fr : Frame Value) : Type 0 where
  pub slots : SlotsTold past t d fr
  pub reads : ReadOnce code past t d fr

abbrev pub FramesRead : Code → List Step → ℕ → List (Frame Value) → Type 0
FramesRead code past t [] = Unit {0}
FramesRead code past t (f ∷ fs) = FrameReads code past t (length fs) f × FramesRead code past t fs

abbrev pub ThreadReads : Code → List Step → ℕ → Thread Value → Type 0
ThreadReads code past t (Running top below) = FramesRead code past t (top ∷ below)
ThreadReads code past t _ = Unit {0}

-- ---- behind steps elsewhere

module _ (code : Code) (past : List Step) (step : Step) (t : ℕ) where
  pub reads_later : (d : ℕ) (fr : Frame Value) → IsInside t d step → ((q : ℕ) → q < fr.place → IsAt t d q step → ⊥) → ReadOnce code past t d fr → ReadOnce code (past ++ step ∷ []) t d fr
  reads_later d fr inside elsewhere was = λ c there q u r first f place chain way origin is.
      let low : first ≤ q = chain_first c.body q u r first chain way.serves in
      read_later past step t d first f (inside, elsewhere first (omega (arith, low, way.behind))) (slice_get c.body first) place
      (was c there q u r first f place chain way origin is)

  pub frame_later : (d : ℕ) (fr : Frame Value) → Passes t d step → FrameReads code past t d fr → FrameReads code (past ++ step ∷ []) t d fr
  frame_later d fr passes was = record {
    slots = λ s f is. slot_later past step t d s f (passes.inside, passes.quiet s) (was.slots s f is);
    reads = reads_later d fr passes.inside (λ q low. passes.elsewhere q) was.reads;
  }

  pub frames_later : (fs : List (Frame Value)) (n : ℕ) → length fs ≤ n → ((d : ℕ) → d < n → Passes t d step) → FramesRead code past t fs → FramesRead code (past ++ step ∷ []) t fs
  frames_later [] n low passes was = tt
  frames_later (f ∷ fs) n low passes was =
      (frame_later (length fs) f (passes (length fs) (omega (arith, low))) was.0, frames_later fs n (omega (arith, low)) passes was.1)

-- ---- new frames

pub new_reads : (code : Code) (past : List Step) (t d : ℕ) (fr : Frame Value) → fr.place ≡ 0 → SlotsTold past t d fr → FrameReads code past t d fr
new_reads code past t d fr first slots = record {
  slots = slots;
  reads = λ c there q u r start f place chain way origin is. absurd (omega (arith, first, way.behind));
}

-- ---- values that are functions

kept_code : (b : Bool) (v : Value) (n : ℤ) (f : ℕ) → (if b then v else Bare n) ≡ CodeValue f → v ≡ CodeValue f
kept_code true v n f is = is
kept_code false v n f is = absurd (cc)

-- ---- a turn that goes on

-- where a marked load reads a function, that was told
abbrev pub OwnsTold : List Step → ℕ → ℕ → Frame Value → CodePlace → Type 0
OwnsTold past t d top i =
    (r p kind-unit f : ℕ) (kind : ScalarKind)
    → i ≡ Load r p kind (Some kind-unit)
    → unit_value top (Some kind-unit) ≡ CodeValue f
    → IsOwnTold past t d (address_of (register protected top p)) f

module _ (setting : Setting) (valid : ValidCode setting.code) (s : State) (past : List Step) (t : ℕ) (top : Frame Value) (below : List (Frame Value))
    (was : FrameReads setting.code past t (length below) top) (i : CodePlace) (here : place_at setting.code top.function top.place ≡ Some i)
    (owned : OwnsTold past t (length below) top i) where
  abbrev code : Code
  code = setting.code

  abbrev d : ℕ
  d = length below

  abbrev action_at : CodePlace → Action
  action_at j = action_of code t top below (shape_of protected (length below) top j)

  abbrev effect_at : CodePlace → Effect Value
  effect_at j = effect_of code top (answer_in setting s (action_at j)) (shape_of protected (length below) top j)

  abbrev turned : Action → List Note → Step
  turned action notes = Turned t (Some (site_here top below)) action (answer_in setting s action) notes

  abbrev now : StandsIn code top.function top.place i
  now = stands_in code top.function top.place i here

  abbrev body : List CodePlace
  body = now.function.body

  passes_by : (q : ℕ) (action : Action) (notes : List Note) → q < top.place → PassesBy t d q (turned action notes)
  passes_by q action notes low = (inr (omega arith), λ at. omega (arith, low, at.2))

  -- ---- what the instruction serves

  load_made : (kind : ScalarKind) (unit : Option ℕ) (kept : Bool) (r p f : ℕ) (notes : List Note)
      → is_kept kind ≡ kept
      → i ≡ Load r p kind unit
      → load_value top kind unit
      (answer_in setting s (unless_unit unit (if kept then act.Get (address_of (register protected top p)) else act.Load (address_of (register protected top p)))))
      ≡ CodeValue f
      → LoadAt
      (past ++ turned (unless_unit unit (if kept then act.Get (address_of (register protected top p)) else act.Load (address_of (register protected top p)))) notes ∷ [])
      t d top.place f unit (At (address_in protected top p))
  load_made kind None true r p f notes kept at is =
      let a = address_of (register protected top p) in
      let found : get s.store.entries a ≡ Some (entry.Code f) = loaded_code (get s.store.entries a) f is in
      let site = site_here top below in
      record {
        earlier = past;
        at = Some site;
        notes = notes;
        last = subst (λ (o : Option Entry). IsLast (past ++ Turned t (Some site) (act.Get a) (reply.Found o) notes ∷ []) t d top.place
            (Turned t (Some site) (act.Get a) (reply.Found (Some (entry.Code f))) notes) past) (sym found)
            (just_last past (Turned t (Some site) (act.Get a) (reply.Found (Some (entry.Code f))) notes) t d top.place (refl, refl, refl));
      }
  load_made kind None false r p f notes kept at is = absurd (cc)
  load_made kind (Some u) kept r p f notes kept-is at is = record {
    earlier = past;
    step = turned act.Own notes;
    last = just_last past (turned act.Own notes) t d top.place (refl, refl, refl);
    told = owned r p u f kind at
        (kept_code (is_kept kind) (unit_value top (Some u)) (truncated kind (number_of (unit_value top (Some u)))) f is);
  }

  module _ (to : ℕ) (w : Write Value) (notes : List Note) (effect : effect_at i ≡ Goes to w) where
    abbrev after : Frame Value
    after = written protected w (record top { place = to })

    abbrev later : List Step
    later = past ++ turned (action_at i) notes ∷ []

    only : WritesOnly i w
    only = subst (λ (e : Effect Value). EffectWrites i e) effect (effect_writes code (length below) top (answer_in setting s (action_at i)) i)

    leads : LeadsTo top.place i (Goes to w)
    leads = subst (LeadsTo top.place i) effect (leads_to code (length below) top (answer_in setting s (action_at i)) i)

    -- the value that stands behind it in the register that it defines
    value_made : (j : CodePlace) (r e f : ℕ) (v : Value) → i ≡ j → effect_at j ≡ Goes (top.place + 1) (ToRegister e v) → defined j ≡ Some e
        → defined i ≡ Some r
        → register protected after r ≡ CodeValue f
        → v ≡ CodeValue f
    value_made j r e f v same makes defines mine is =
        let writes : Goes (top.place + 1) (ToRegister e v) ≡ Goes to w = sym makes ∙ ap (λ (k : CodePlace). effect_at k) (sym same) ∙ effect in
        let write : ToRegister e v ≡ w = cc in
        let some : Some e ≡ Some r = sym defines ∙ ap defined (sym same) ∙ mine in
        let one : e ≡ r = cc in
        read_written top.registers e v f
        (ap (λ (n : ℕ). slice_index_or (slice_set top.registers e v) n (Bare (pos 0))) one
        ∙ ap (λ (x : Write Value). register protected (written protected x (record top { place = to })) r) write ∙ is)

    read_by : (u r f : ℕ) (place : Place) (is : Role) (first : ℕ)
        → HasRole (outlines body) 0 top.place is
        → LinkedAt body top.place is first
        → Serves (outlines body) 0 top.place u r
        → OriginAt body d top first u place
        → top.place ≤ u
        → register protected after r ≡ CodeValue f
        → ReadAt later t d first f (slice_get body first) place
    read_by u r f place (role.Load p) first has links serves origin low is =
        let l : IsLoad i p = load_of i p (role_there body top.place i (role.Load p) now.at has) in
        let mine : defined i ≡ Some r = server_defines body top.place u r i now.at serves in
        let v : Value = load_value top l.kind l.unit (answer_in setting s (action_at (Load l.d p l.kind l.unit))) in
        let code-is : v ≡ CodeValue f = value_made (Load l.d p l.kind l.unit) r l.d f v l.is refl refl mine is in
        let made : LoadAt (past ++ turned (action_at (Load l.d p l.kind l.unit)) notes ∷ []) t d top.place f l.unit (At (address_in protected top p)) =
        load_made l.kind l.unit (is_kept l.kind) l.d p f notes refl l.is code-is in
        let at-is : LoadAt later t d top.place f l.unit (At (address_in protected top p)) =
        subst (λ (j : CodePlace). LoadAt (past ++ turned (action_at j) notes ∷ []) t d top.place f l.unit (At (address_in protected top p))) (sym l.is) made in
        let there : slice_get body first ≡ Some (Load l.d p l.kind l.unit) =
        ap (slice_get body) links ∙ now.at ∙ ap (λ (j : CodePlace). Some j) l.is in
        elim origin [
          | inl load ↦
              let roles : role.Load load.0 ≡ role.Load p =
              one_role body top.place (role.Load load.0) (role.Load p) (subst (λ (n : ℕ). HasRole (outlines body) 0 n (role.Load load.0)) links load.1) has in
              let same : load.0 ≡ p = cc in
              let place-is : place ≡ At (address_in protected top p) = load.3 ∙ ap (λ (n : ℕ). At (address_in protected top n)) same in
              subst (λ (o : Option CodePlace). ReadAt later t d first f o place) (sym there)
              (subst (λ (x : Place). LoadAt later t d first f l.unit x) (sym place-is)
              (subst (λ (n : ℕ). LoadAt later t d n f l.unit (At (address_in protected top p))) (sym links) at-is))
          | inr slot ↦
              let roles : role.Slot slot.0 ≡ role.Load p =
              one_role body top.place (role.Slot slot.0) (role.Load p) (subst (λ (n : ℕ). HasRole (outlines body) 0 n (role.Slot slot.0)) links slot.1) has in
              absurd (cc)
        ]
    read_by u r f place (role.Slot n) first has links serves origin low is =
        let l : IsGetLocal i n = slot_of i n (role_there body top.place i (role.Slot n) now.at has) in
        let mine : defined i ≡ Some r = server_defines body top.place u r i now.at serves in
        let code-is : slot protected top n ≡ CodeValue f = value_made (GetLocal l.d n) r l.d f (slot protected top n) l.is refl refl mine is in
        let there : slice_get body first ≡ Some (GetLocal l.d n) = ap (slice_get body) links ∙ now.at ∙ ap (λ (j : CodePlace). Some j) l.is in
        let read : SlotAt later t d top.place f n = record {
          earlier = past;
          step = turned (action_at i) notes;
          last = just_last past (turned (action_at i) notes) t d top.place (refl, refl, refl);
          told = was.slots n f code-is;
        } in
        elim origin [
          | inl load ↦
              let roles : role.Load load.0 ≡ role.Slot n =
              one_role body top.place (role.Load load.0) (role.Slot n) (subst (λ (k : ℕ). HasRole (outlines body) 0 k (role.Load load.0)) links load.1) has in
              absurd (cc)
          | inr slot ↦
              let roles : role.Slot slot.0 ≡ role.Slot n =
              one_role body top.place (role.Slot slot.0) (role.Slot n) (subst (λ (k : ℕ). HasRole (outlines body) 0 k (role.Slot slot.0)) links slot.1) has in
              let same : slot.0 ≡ n = cc in
              let place-is : place ≡ Slot d n = slot.2 ∙ ap (λ (k : ℕ). Slot d k) same in
              let here-is : LocalAt later t d top.place f n (Slot d n) = (refl, refl, read) in
              subst (λ (o : Option CodePlace). ReadAt later t d first f o place) (sym there)
              (subst (λ (x : Place). LocalAt later t d first f n x) (sym place-is)
              (subst (λ (k : ℕ). LocalAt later t d k f n (Slot d n)) (sym links) here-is))
        ]
    read_by u r f place (role.Cast a) first has links serves origin low is =
        let l : IsCast i a = cast_of i a (role_there body top.place i (role.Cast a) now.at has) in
        let mine : defined i ≡ Some r = server_defines body top.place u r i now.at serves in
        let v : Value = cast_value l.from l.to (register protected top a) in
        let code-is : v ≡ CodeValue f = value_made (Cast l.d a l.from l.to) r l.d f v l.is refl refl mine is in
        let operand : register protected top a ≡ CodeValue f =
        kept_code (is_kept l.from && is_kept l.to) (register protected top a) (truncated l.to (number_of (register protected top a))) f code-is in
        let before : first < top.place = chain_before body links in
        let k : Link body top.place a first = link body links in
        let way : IsUnderWay body k.s top.place a top.place = record {
          serves = k.serves;
          unbroken = unbroken_use code now.function (valid_function code top.function now.function valid now.there) k.s top.place a i now.at
              (subst (λ (j : CodePlace). IsAmong (used j) a) (sym l.is) (inl refl)) k.serves;
          behind = k.serves.before;
          before = omega arith;
        } in
        read_later past (turned (action_at i) notes) t d first f (passes_by first (action_at i) notes before) (slice_get body first) place
        (was.reads now.function now.there k.s top.place a first f place links way (origin_less body d top first u top.place place low origin) operand)
    read_by u r f place _ first has links serves origin low is = absurd links

  -- ---- behind it

  -- where the frame goes on, with this write, and what the instruction serves there is read
  module _ (to : ℕ) (w : Write Value) (step : Step) (leads : LeadsTo top.place i (Goes to w)) (only : WritesOnly i w)
      (passes : (q : ℕ) → q < top.place → PassesBy t d q step)
      (made : (u r f first : ℕ) (place : Place)
      → Chain (outlines body) 0 u r first
      → Serves (outlines body) 0 top.place u r
      → OriginAt body d top first u place
      → top.place ≤ u
      → register protected (written protected w (record top { place = to })) r ≡ CodeValue f
      → ReadAt (past ++ step ∷ []) t d first f (slice_get body first) place) where
    abbrev gone : Frame Value
    gone = written protected w (record top { place = to })

    origin_was : (first u : ℕ) (place : Place) → first ≤ top.place → top.place ≤ u → OriginAt body d gone first u place → OriginAt body d top first u place
    origin_was first u place from until origin =
        elim origin [
          | inl load ↦
              let stays : register protected gone load.0 ≡ register protected top load.0 =
              register_stays top to w i load.0 only (load.2 top.place (outline_of_code i) (stands_at body top.place i now.at) from until) in
              inl (load.0, load.1, load.2, load.3 ∙ ap (λ (v : Value). At (address_of v)) stays)
          | inr other ↦ inr other
        ]

    reads_in : ReadOnceIn (past ++ step ∷ []) t d gone body
    reads_in q u r first f place chain way origin is =
        let place-is : gone.place ≡ to = written_place w (record top { place = to }) in
        let at : IsUnderWay body q u r to = subst (λ (n : ℕ). IsUnderWay body q u r n) place-is way in
        let from : first ≤ q = chain_first body q u r first chain at.serves in
        elim (step_in body top.place to q u r w i now.at leads at) [
          | inl serves ↦
              made u r f first place chain (subst (λ (n : ℕ). Serves (outlines body) 0 n u r) (sym serves) at.serves)
              (origin_was first u place (omega (arith, from, serves)) (omega (arith, serves, at.behind, at.before)) origin)
              (omega (arith, serves, at.behind, at.before)) is
          | inr under ↦
              let stays : register protected gone r ≡ register protected top r = register_stays top to w i r only under.1 in
              read_later past step t d first f (passes first (omega (arith, from, under.0.behind))) (slice_get body first) place
              (was.reads now.function now.there q u r first f place chain under.0
              (origin_was first u place (omega (arith, from, under.0.behind)) under.0.before origin) (sym stays ∙ is))
        ]

    pub moved_reads : ReadOnce code (past ++ step ∷ []) t d gone
    moved_reads c there =
        let is : Some now.function ≡ Some c =
        sym now.there ∙ ap (λ (n : ℕ). slice_get code.functions n) (sym (written_function w (record top { place = to }))) ∙ there in
        let same : now.function ≡ c = cc in
        subst (λ (x : CodeFunction). ReadOnceIn (past ++ step ∷ []) t d gone x.body) same reads_in

  -- ---- slots

  slot_else : (to s' k f : ℕ) (v : Value) → s' ≢ k → slot protected (written protected (ToSlot k v) (record top { place = to })) s' ≡ CodeValue f → slot protected top s' ≡ CodeValue f
  slot_else to s' k f v other is = sym (get_or-set_other top.slots k s' v (Bare (pos 0)) other) ∙ is

  quiet_slot : (s' f : ℕ) (action : Action) (notes : List Note) → last_slot d s' notes ≡ None → slot protected top s' ≡ CodeValue f
      → IsSlotTold (past ++ turned action notes ∷ []) t d s' f
  quiet_slot s' f action notes quiet is =
      slot_later past (turned action notes) t d s' f
      (inr (omega arith), ap (λ (l : List Note). last_slot d s' l) (of_same t notes) ∙ quiet) (was.slots s' f is)

  slots_go : (to : ℕ) (w : Write Value) (action : Action) → SlotsTold (past ++ turned action (write_told protected d w) ∷ []) t d (written protected w (record top { place = to }))
  slots_go to Nothing action s' f is = quiet_slot s' f action (write_told protected d Nothing) refl is
  slots_go to (ToRegister e v) action s' f is = quiet_slot s' f action (write_told protected d (ToRegister e v)) refl is
  slots_go to (ToUnit unit at v) action s' f is =
      quiet_slot s' f action (write_told protected d (ToUnit unit at v)) (write_tells_none d s' d (ToUnit unit at v) tt) is
  slots_go to (ToObject id) action s' f is = quiet_slot s' f action (write_told protected d (ToObject id)) refl is
  slots_go to (ToSlot k v) action s' f is =
      let elsewhere : s' ≢ k → IsSlotTold (past ++ turned action (write_told protected d (ToSlot k v)) ∷ []) t d s' f =
      λ other. quiet_slot s' f action (write_told protected d (ToSlot k v)) (write_tells_none d s' d (ToSlot k v) (λ same. other (sym same)))
      (slot_else to s' k f v other is) in
      elim (order s' k) [
        | inl less ↦ elsewhere (λ same. omega (arith, less, same))
        | inr rest ↦ elim rest [
          | inl more ↦ elsewhere (λ same. omega (arith, more, same))
          | inr same ↦
              let value : v ≡ CodeValue f =
              read_written top.slots k v f (ap (λ (n : ℕ). slice_index_or (slice_set top.slots k v) n (Bare (pos 0))) (sym same) ∙ is) in
              slot_now past (turned action (write_told protected d (ToSlot k v))) t d s' f
              (ap (λ (l : List Note). last_slot d s' l) (of_same t (write_told protected d (ToSlot k v)))
              ∙ ap (λ (n : ℕ). last_slot d n (write_told protected d (ToSlot k v))) same
              ∙ ap (λ (x : Value). last_slot d k (write_told protected d (ToSlot k x))) value
              ∙ told_same d k f)
        ]
      ]

  -- the frame behind an instruction that goes on
  pub goes_reads : (to : ℕ) (w : Write Value) → effect_at i ≡ Goes to w
      → FrameReads code (past ++ turned (action_at i) (write_told protected d w) ∷ []) t d (written protected w (record top { place = to }))
  goes_reads to w effect =
      let notes = write_told protected d w in
      record {
        slots = slots_go to w (action_at i);
        reads = moved_reads to w (turned (action_at i) notes) (leads to w notes effect) (only to w notes effect) (λ q low. passes_by q (action_at i) notes low)
            (λ u r f first place chain serves origin low is.
            let l : Link body u r first = link body chain in
            let at : l.s ≡ top.place = one_server body top.place l.s u r serves l.serves in
            read_by to w notes effect u r f place l.is first
            (subst (λ (n : ℕ). HasRole (outlines body) 0 n l.is) at l.has)
            (subst (λ (n : ℕ). LinkedAt body n l.is first) at l.links)
            serves origin low is);
      }

  -- the frame behind a call that it opened
  pub calls_reads : (notes : List Note) → IsCall i → ((k : ℕ) → last_slot d k notes ≡ None)
      → FrameReads code (past ++ turned (action_at i) notes ∷ []) t d (record top { place = top.place + 1 })
  calls_reads notes call quiet = record {
    slots = λ k f is. quiet_slot k f (action_at i) notes (quiet k) is;
    reads = moved_reads (top.place + 1) Nothing (turned (action_at i) notes) (inl refl) tt (λ q low. passes_by q (action_at i) notes low)
        (λ u r f first place chain serves origin low is.
        absurd (calls_define i r call (server_defines body top.place u r i now.at serves)));
  }
