-- Each turn keeps what frames keep of functions, and each call through a pointer goes to the function that was read.
use Rattle.std.proofs.Common.{◌≡◌, ◌≢◌, inl, inr, ℕ, ℤ, suc, pos, ◌+◌, ◌≤◌, Bool, true, false, if◌then◌else◌, List, [], ◌∷◌, ◌++◌, length, map, Option, Some, None, slice_get, slice_index_or, slice_set, refl, sym, ap, ◌∙◌, subst, arith, get_or-set_other}
use Rattle.core_ir.specs.declared.role.Role.TheVariants as role
use Rattle.core_ir.specs.Flow.{Chain, HasRole, IsKept}
use Rattle.meaning.specs.declared.action.Action.{Action}
use Rattle.meaning.specs.declared.action.Action.TheVariants as act
use Rattle.meaning.specs.declared.action.Reply.{Reply}
use Rattle.meaning.specs.declared.action.Reply.TheVariants as reply
use Rattle.meaning.specs.declared.note.Note.{Note}
use Rattle.meaning.specs.declared.note.Note.TheVariants as note
use Rattle.meaning.specs.declared.note.Place.{Place}
use Rattle.meaning.specs.declared.note.Place.TheVariants.{At, Slot}
use Rattle.meaning.specs.declared.value.Check.TheVariants.{BadFree, Dead}
use Rattle.meaning.specs.declared.value.Entry.{Entry}
use Rattle.meaning.specs.declared.value.Stop.{Stop}
use Rattle.meaning.specs.declared.value.Stop.TheVariants.{Failed}
use Rattle.meaning.specs.declared.value.Value.{Value}
use Rattle.meaning.specs.declared.value.Value.TheVariants.{Bare, Code as CodeValue}
use Rattle.c_types.specs.declared.ty.FnTy.{FnTy}
use Rattle.core_ir.specs.Typed.{start_type}
use Rattle.machine.specs.Addresses.{start_address}
use Rattle.machine.specs.declared.code.Code.{Code}
use Rattle.machine.specs.declared.code.CodePlace.{CodePlace}
use Rattle.machine.specs.declared.code.CodePlace.TheVariants.{Binary, Touch, Load, GetLocal, CallInd, Enter, Free, Lock, Join}
use Rattle.machine.specs.declared.code.Origin.{Origin}
use Rattle.machine.specs.declared.code.Origin.TheVariants as origin
use Rattle.machine.specs.Domain.{Callee, Reaches, Refused}
use Rattle.machine.specs.Frames.{Effect, Ended, Enters, Frame, Goes, Leaves, Running, Starting, Stopped, Stops, Thread, ToSlot, Waiting, is_live}
use Rattle.machine.specs.Numbers.{computed}
use Rattle.machine.specs.Protected.{action_of, callee_effect, drawn, effect_of, finds_zero, found_entry, next, protected, protected_callee, start_by, started, unless_no}
use Rattle.machine.specs.Run.{Setting, Site, State, Step, Turned, takes_turn}
use Rattle.machine.specs.Shapes.{defines_number, number_in, read_at, register, shape_of}
use Rattle.machine.specs.Stands.{IsOrigin, IsOriginOf}
use Rattle.machine.specs.Threads.{Told, applied, begins, body_in, enters, goes_on, leaves, opened, place_at, result_slot, result_write, slots_told, stays, transfer, write_told, written}
use Rattle.machine.specs.Transfers.{IsSlotTold, IsRead, IsReadBefore, IsReadBy, last_slot, told_by}
use Rattle.machine.specs.ValidCode.{IsValidCodeFunction, ValidCode}
use Rattle.machine.specs.Values.{address_of, loaded_entry}
use Rattle.thread_laws.proofs.Bodies.{StandsIn, order, stands_in, valid_function}
use Rattle.thread_laws.proofs.FittingValues.{Each}
use Rattle.thread_laws.proofs.Successors.{IsCall, LeadsTo, has_role, leads_to, outlines}
use Rattle.machine_laws.proofs.Events.{answer_in, told_in}
use Rattle.machine_laws.proofs.Flow.{rules_at}
use Rattle.machine_laws.proofs.Frames.{opened_place, written_function, written_place}
use Rattle.machine_laws.proofs.Turns.{running}
use Rattle.transfer_laws.proofs.Notes.{site_here, slots_quiet, write_quiet}
use Rattle.unit_laws.proofs.Served.{IsUnderWay, Link, link, one_first, read_written, unbroken_use}
use Rattle.transfer_laws.proofs.Starts.{value_reaches}
use Rattle.read_laws.proofs.Tells.{call_tells, deeper_passes, of_same, slot_later, slot_now, slots_elsewhere, slots_tell, told_same, transfer_tells, write_elsewhere, write_tells_none}
use Rattle.read_laws.proofs.CodeReads.{FrameReads, FramesRead, OriginAt, OwnsTold, ReadAt, ReadOnce, SlotsTold, ThreadReads, calls_reads, frames_later, goes_reads, new_reads, reads_later}

-- ---- turns

-- where a thread's next load of a unit reads a function, that was told
abbrev pub OwnReads : Code → List Step → ℕ → Thread Value → Type 0
OwnReads code past t (Running top below) =
    (i : CodePlace) → place_at code top.function top.place ≡ Some i → OwnsTold past t (length below) top i
OwnReads code past t _ = Unit {0}

module _ (setting : Setting) (valid : ValidCode setting.code) (s : State) (past : List Step) (t : ℕ) where
  -- slots that a step tells as they are filled
  slots_now : (d : ℕ) (fr : Frame Value) (step : Step) (first : Note) → told_by t step ≡ first ∷ slots_told protected d 0 fr.slots
      → ((k : ℕ) → last_slot d k (first ∷ slots_told protected d 0 fr.slots) ≡ last_slot d k (slots_told protected d 0 fr.slots))
      → SlotsTold (past ++ step ∷ []) t d fr
  slots_now d fr step first told quiet k f is =
      slot_now past step t d k f (ap (λ (l : List Note). last_slot d k l) told ∙ quiet k ∙ slots_tell d k f fr.slots is)

  -- ---- a frame that is left

  back_like : (d : ℕ) (f g : Frame Value) (later : List Step) → g.function ≡ f.function → g.place ≡ f.place → g.registers ≡ f.registers
      → ReadOnce setting.code later t d f → ReadOnce setting.code later t d g
  back_like d f g later function place registers was c there q u r first e at chain way origin is =
      was c (ap (λ (n : ℕ). slice_get setting.code.functions n) (sym function) ∙ there) q u r first e at chain
      (subst (λ (n : ℕ). IsUnderWay c.body q u r n) place way)
      (elim origin [
        | inl load ↦ inl (load.0, load.1, load.2, load.3 ∙ ap (λ (rs : List Value). At (address_of (slice_index_or rs load.0 (Bare (pos 0))))) registers)
        | inr other ↦ inr other
      ])
      (ap (λ (rs : List Value). slice_index_or rs r (Bare (pos 0))) (sym registers) ∙ is)

  result_registers : (o : Option ℕ) (v : Value) (f : Frame Value) → (written protected (result_write protected o v) f).registers ≡ f.registers
  result_registers None v f = refl
  result_registers (Some k) v f = refl

  module _ (top : Frame Value) (below : List (Frame Value)) where
    abbrev turned : Action → List Note → Step
    turned action notes = Turned t (Some (site_here top below)) action (answer_in setting s action) notes

    -- ---- a frame that stays where it is

    stuck_reads : FramesRead setting.code past t (top ∷ below) → FramesRead setting.code (past ++ turned act.Own [] ∷ []) t (top ∷ below)
    stuck_reads was =
        let quiet : (k : ℕ) → last_slot (length below) k (told_by t (turned act.Own [])) ≡ None =
        λ k. ap (λ (l : List Note). last_slot (length below) k l) (of_same t []) in (
          record {
            slots = λ k f is. slot_later past (turned act.Own []) t (length below) k f (inr (omega arith), quiet k) (was.0.slots k f is);
            reads = reads_later setting.code past (turned act.Own []) t (length below) top (inr (omega arith)) (λ q low at. omega (arith, low, at.2)) was.0.reads;
          },
          frames_later setting.code past (turned act.Own []) t below (length below) (omega arith)
              (λ e low. deeper_passes t e (site_here top below) act.Own (answer_in setting s act.Own) [] low (λ k. refl)) was.1,
        )

    -- ---- into a function

    entered_reads : (i : CodePlace) (action : Action) (f : ℕ) (arguments : List Value) (read : Option Place) (rest : List Note)
        → (was : FramesRead setting.code past t (top ∷ below))
        → ((notes : List Note) → ((k : ℕ) → last_slot (length below) k notes ≡ None)
        → FrameReads setting.code (past ++ turned action notes ∷ []) t (length below) (record top { place = top.place + 1 }))
        → (enters protected setting.code top below f arguments read).notes ≡ rest
        → FramesRead setting.code (past ++ turned action rest ∷ []) t (opened protected setting.code f arguments ∷ record top { place = top.place + 1 } ∷ below)
    entered_reads i action f arguments read rest was caller is =
        let d = length below in
        let new : Frame Value = opened protected setting.code f arguments in
        let told : List Note = slots_told protected (suc d) 0 new.slots in
        let quiet : (e : ℕ) → e ≤ d → (k : ℕ) → last_slot e k rest ≡ None =
        λ e low k. ap (λ (l : List Note). last_slot e k l) (sym is)
        ∙ transfer_tells e k (transfer protected (suc d) f top.place read) told (call_tells e k (suc d) f top.place read)
        ∙ slots_elsewhere e k (suc d) 0 new.slots (λ same. omega (arith, same, low)) in (
          new_reads setting.code (past ++ turned action rest ∷ []) t (suc d) new (opened_place setting.code f arguments)
              (slots_now (suc d) new (turned action rest) (transfer protected (suc d) f top.place read) (of_same t rest ∙ sym is)
              (λ k. transfer_tells (suc d) k (transfer protected (suc d) f top.place read) told (call_tells (suc d) k (suc d) f top.place read))),
          (
            caller rest (quiet d (omega arith)),
            frames_later setting.code past (turned action rest) t below d (omega arith)
                (λ e low. deeper_passes t e (site_here top below) action (answer_in setting s action) rest low (quiet e (omega (arith, low)))) was.1,
          ),
        )

    -- ---- back to the caller

    left_reads : (action : Action) (v : Value) (frames : List (Frame Value)) → frames ≡ below → FramesRead setting.code past t frames
        → ThreadReads setting.code (past ++ turned action (leaves protected setting.code frames v).notes ∷ []) t (leaves protected setting.code frames v).thread
    left_reads action v [] same was = tt
    left_reads action v (caller ∷ others) same was =
        let d = length others in
        let k = result_slot setting.code caller in
        let w = result_write protected k v in
        let notes : List Note = note.Return (suc d) caller.function caller.place ∷ write_told protected d w in
        let step = turned action notes in
        let deep : length below ≡ suc d = ap (λ (l : List (Frame Value)). length l) (sym same) in (
          record {
            slots = returned_slots action caller d v k notes deep was.0.slots refl;
            reads = back_like d caller (written protected w caller) (past ++ step ∷ []) (written_function w caller) (written_place w caller) (result_registers k v caller)
                (reads_later setting.code past step t d caller (inr (omega (arith, deep))) (λ q low at. omega (arith, deep, at.1)) was.0.reads);
          },
          frames_later setting.code past step t others d (omega arith)
              (λ e low. deeper_passes t e (site_here top below) action (answer_in setting s action) notes (omega (arith, deep, low))
              (λ j. transfer_tells e j (note.Return (suc d) caller.function caller.place) (write_told protected d w) refl
              ∙ write_elsewhere e j d w (λ same-depth. omega (arith, same-depth, low)))) was.1,
        ) where
          -- the slot of the result is told, and the others are as they were
          returned_slots : (action : Action) (caller : Frame Value) (d : ℕ) (v : Value) (o : Option ℕ) (notes : List Note) → length below ≡ suc d
              → SlotsTold past t d caller
              → notes ≡ note.Return (suc d) caller.function caller.place ∷ write_told protected d (result_write protected o v)
              → SlotsTold (past ++ turned action notes ∷ []) t d (written protected (result_write protected o v) caller)
          returned_slots action caller d v None notes deep was is j f value =
              slot_later past (turned action notes) t d j f
              (inr (omega (arith, deep)), ap (λ (l : List Note). last_slot d j l) (of_same t notes ∙ is)) (was j f value)
          returned_slots action caller d v (Some k) notes deep was is j f value =
              let elsewhere : j ≢ k → IsSlotTold (past ++ turned action notes ∷ []) t d j f =
              λ other. slot_later past (turned action notes) t d j f (
                inr (omega (arith, deep)),
                ap (λ (l : List Note). last_slot d j l) (of_same t notes ∙ is)
                    ∙ transfer_tells d j (note.Return (suc d) caller.function caller.place) (write_told protected d (ToSlot k v)) refl
                    ∙ write_tells_none d j d (ToSlot k v) (λ same. other (sym same)),
              )
              (was j f (sym (get_or-set_other caller.slots k j v (Bare (pos 0)) other) ∙ value)) in
              elim (order j k) [
                | inl less ↦ elsewhere (λ same. omega (arith, less, same))
                | inr rest ↦ elim rest [
                  | inl more ↦ elsewhere (λ same. omega (arith, more, same))
                  | inr same ↦
                      let is-code : v ≡ CodeValue f =
                      read_written caller.slots k v f (ap (λ (n : ℕ). slice_index_or (slice_set caller.slots k v) n (Bare (pos 0))) (sym same) ∙ value) in
                      slot_now past (turned action notes) t d j f
                      (ap (λ (l : List Note). last_slot d j l) (of_same t notes ∙ is)
                      ∙ transfer_tells d j (note.Return (suc d) caller.function caller.place) (write_told protected d (ToSlot k v)) refl
                      ∙ ap (λ (n : ℕ). last_slot d n (write_told protected d (ToSlot k v))) same
                      ∙ ap (λ (x : Value). last_slot d k (write_told protected d (ToSlot k x))) is-code
                      ∙ told_same d k f)
                ]
              ]

    module _ (was : FramesRead setting.code past t (top ∷ below)) (i : CodePlace) (here : place_at setting.code top.function top.place ≡ Some i)
        (owned : OwnsTold past t (length below) top i) where
      abbrev action_at : CodePlace → Action
      action_at j = action_of setting.code t top below (shape_of protected (length below) top j)

      abbrev effect_at : CodePlace → Effect Value
      effect_at j = effect_of setting.code top (answer_in setting s (action_at j)) (shape_of protected (length below) top j)

      applied_reads : (e : Effect Value) → effect_at i ≡ e
          → ThreadReads setting.code (past ++ turned (action_at i) (applied protected setting.code top below e).notes ∷ []) t (applied protected setting.code top below e).thread
      applied_reads (Stops why) effect = tt
      applied_reads (Goes to w) effect =
          let notes = write_told protected (length below) w in (
            goes_reads setting valid s past t top below was.0 i here owned to w effect,
            frames_later setting.code past (turned (action_at i) notes) t below (length below) (omega arith)
                (λ e low. deeper_passes t e (site_here top below) (action_at i) (answer_in setting s (action_at i)) notes low
                (λ k. write_elsewhere e k (length below) w (λ same. omega (arith, same, low)))) was.1,
          )
      applied_reads (Enters f arguments read) effect =
          let call : IsCall i = subst (LeadsTo top.place i) effect (leads_to setting.code (length below) top (answer_in setting s (action_at i)) i) in
          entered_reads i (action_at i) f arguments read (enters protected setting.code top below f arguments read).notes was
          (λ notes quiet. calls_reads setting valid s past t top below was.0 i here owned notes call quiet) refl
      applied_reads (Leaves v) effect = left_reads (action_at i) v below refl was.1

  -- ---- each turn

  begun_reads : (f : ℕ) (v : Value) (step : Step) → told_by t step ≡ (begins protected setting.code t f v).notes → ThreadReads setting.code (past ++ step ∷ []) t (begins protected setting.code t f v).thread
  begun_reads f v step told =
      let new : Frame Value = opened protected setting.code f (v ∷ []) in (
        new_reads setting.code (past ++ step ∷ []) t 0 new (opened_place setting.code f (v ∷ []))
            (slots_now 0 new step (note.Start f (start_address t)) told (λ k. transfer_tells 0 k (note.Start f (start_address t)) (slots_told protected 0 0 new.slots) refl)),
        tt,
      )

  callee_reads : (later : List Step) (c : Callee) → ThreadReads setting.code later t (start_by c).thread
  callee_reads later (Reaches f) = tt
  callee_reads later (Refused why) = tt

  started_reads : (later : List Step) (o : Option Entry) → ThreadReads setting.code later t (started setting.code o).thread
  started_reads later None = tt
  started_reads later (Some e) = callee_reads later (protected_callee setting.code start_type (loaded_entry (Some e)))

  pub turn_reads : (thread : Thread Value) → is_live thread ≡ true → OwnReads setting.code past t thread → ThreadReads setting.code past t thread
      → ThreadReads setting.code (past ++ (takes_turn setting s t thread).step ∷ []) t (told_in setting s t thread).thread
  turn_reads Waiting live owned was = started_reads _ (found_entry (answer_in setting s (next setting.code t Waiting)))
  turn_reads (Starting f) live owned was =
      begun_reads f (loaded_entry (found_entry (answer_in setting s (next setting.code t (Starting f))))) (takes_turn setting s t (Starting f)).step
      (of_same t (told_in setting s t (Starting f)).notes)
  turn_reads (Running top below) live owned was =
      running setting.code t top below (answer_in setting s) (λ (action : Action) (told : Told Value). ThreadReads setting.code (past ++ turned top below action told.notes ∷ []) t told.thread)
      (λ why. tt)
      (λ none. stuck_reads top below was)
      (λ i here goes. applied_reads top below was i here (owned i here) _ refl)
  turn_reads Ended live owned was = absurd (cc)
  turn_reads (Stopped why) live owned was = absurd (cc)

-- ---- calls through pointers

-- what an effect that calls through a pointer has
abbrev CallsBy : Code → ℕ → Frame Value → CodePlace → ℕ → Place → Type 0
CallsBy code d top (CallInd c args type s o) f place =
    (protected_callee code type (register protected top c) ≡ Reaches f) × (place ≡ read_at protected d top o)
CallsBy code d top _ f place = ⊥

module _ (code : Code) (d : ℕ) (top : Frame Value) where
  abbrev EffectCalls : CodePlace → Effect Value → Type 0
  EffectCalls i (Enters f arguments (Some place)) = CallsBy code d top i f place
  EffectCalls i _ = Unit {0}

  numbers_call : (answer : Reply) (i : CodePlace) (e : ℕ) (n : Option ℤ) → EffectCalls i (effect_of code top answer (defines_number protected e n))
  numbers_call answer i e None = tt
  numbers_call answer i e (Some n) = tt

  flag_calls : (i : CodePlace) (why : Stop) (b : Bool) → EffectCalls i (unless_no top why (reply.Flag b))
  flag_calls i why true = tt
  flag_calls i why false = tt

  no_calls : (i : CodePlace) (why : Stop) (answer : Reply) → EffectCalls i (unless_no top why answer)
  no_calls i why (reply.Flag b) = flag_calls i why b
  no_calls i why reply.Nothing = tt
  no_calls i why (reply.Word w) = tt
  no_calls i why (reply.Found e) = tt
  no_calls i why (reply.Slot s) = tt
  no_calls i why (reply.Thread n) = tt

  drawn_calls : (i : CodePlace) (answer : Reply) → EffectCalls i (drawn top answer)
  drawn_calls i (reply.Slot None) = tt
  drawn_calls i (reply.Slot (Some s)) = tt
  drawn_calls i reply.Nothing = tt
  drawn_calls i (reply.Word w) = tt
  drawn_calls i (reply.Found e) = tt
  drawn_calls i (reply.Flag b) = tt
  drawn_calls i (reply.Thread n) = tt

  either_calls : (i : CodePlace) (b : Bool) (x y : Effect Value) → EffectCalls i x → EffectCalls i y → EffectCalls i (if b then x else y)
  either_calls i true x y p q = p
  either_calls i false x y p q = q

  callee_calls : (c : ℕ) (args : List ℕ) (type : FnTy) (k : Option ℕ) (o : Origin) (callee : Callee) → protected_callee code type (register protected top c) ≡ callee
      → EffectCalls (CallInd c args type k o) (callee_effect (map (register protected top) args) (Some (read_at protected d top o)) callee)
  callee_calls c args type k o (Reaches f) is = (is, refl)
  callee_calls c args type k o (Refused why) is = tt

  effect_calls : (answer : Reply) (i : CodePlace) → EffectCalls i (effect_of code top answer (shape_of protected d top i))
  effect_calls answer (Binary e op a b) = numbers_call answer (Binary e op a b) e (computed op (number_in protected top a) (number_in protected top b))
  effect_calls answer (Touch p class marked) = no_calls (Touch p class marked) (Failed Dead) answer
  effect_calls answer (Free p) = no_calls (Free p) (Failed BadFree) answer
  effect_calls answer Enter = drawn_calls Enter answer
  effect_calls answer (CallInd c args type k o) = callee_calls c args type k o (protected_callee code type (register protected top c)) refl
  effect_calls answer (Lock p) = either_calls (Lock p) (finds_zero answer) (goes_on protected top) (stays protected top) tt tt
  effect_calls answer (Join n) = either_calls (Join n) (finds_zero answer) (stays protected top) (goes_on protected top) tt tt
  effect_calls answer _ = tt

-- the same of the definition
got_is : (past : List Step) (t : ℕ) (site : Site) (q f : ℕ) (o : Option CodePlace) (place : Place) → ReadAt past t site.depth q f o place → IsReadBy o past t site q f place
got_is past t site q f (Some (Load r p kind None)) (At a) was = record { earlier = was.earlier; at = was.at; notes = was.notes; last = was.last }
got_is past t site q f (Some (Load r p kind (Some u))) (At a) was = record { earlier = was.earlier; step = was.step; last = was.last; told = was.told }
got_is past t site q f (Some (Load r p kind unit)) (Slot depth s) was = absurd was
got_is past t site q f (Some (GetLocal r n)) (Slot depth s) was =
    (was.0, was.1, record { earlier = was.2.earlier; step = was.2.step; last = was.2.last; told = was.2.told })
got_is past t site q f (Some (GetLocal r n)) (At a) was = absurd was
got_is past t site q f _ place was = absurd was

-- each call through a pointer that is told goes to what was read
abbrev pub IsCallTold : Code → List Step → ℕ → Option Site → Note → Type 0
IsCallTold code past t at (note.Indirect depth f from place) = IsReadBefore code past t at f from place
IsCallTold code past t at _ = Unit {0}

module _ (code : Code) (valid : ValidCode code) (past : List Step) (t : ℕ) (top : Frame Value) (below : List (Frame Value))
    (was : FrameReads code past t (length below) top) where
  call_is_read : (c : ℕ) (args : List ℕ) (type : FnTy) (k : Option ℕ) (o : Origin) (f : ℕ)
      → place_at code top.function top.place ≡ Some (CallInd c args type k o)
      → protected_callee code type (register protected top c) ≡ Reaches f
      → IsRead code past t (site_here top below) f (read_at protected (length below) top o)
  call_is_read c args type k o f here reaches =
      let d = length below in
      let i = CallInd c args type k o in
      let now : StandsIn code top.function top.place i = stands_in code top.function top.place i here in
      let body = now.function.body in
      let v : IsValidCodeFunction code now.function = valid_function code top.function now.function valid now.there in
      let rule = (rules_at code now.function v top.place i now.at).fits in
      let says : IsOriginOf (outlines body) top.place (role.Indirect c) o = v.places top.place i now.at in
      let first-is : says.0 ≡ rule.first = one_first body rule.chain says.0 says.1 in
      let l : Link body top.place c rule.first = link body rule.chain in
      let way : IsUnderWay body l.s top.place c top.place = record {
        serves = l.serves;
        unbroken = unbroken_use code now.function v l.s top.place c i now.at (inl refl) l.serves;
        behind = l.serves.before;
        before = omega arith;
      } in
      let from : OriginAt body d top rule.first top.place (read_at protected d top o) =
      origin_by body rule.first o (subst (λ (n : ℕ). IsOrigin (outlines body) n o) first-is says.2) (λ p has j x there low high. rule.kept p has j x there low high) in
      let read : ReadAt past t d rule.first f (slice_get body rule.first) (read_at protected d top o) =
      was.reads now.function now.there l.s top.place c rule.first f (read_at protected d top o) rule.chain way from
      (value_reaches code type (register protected top c) f reaches) in
      let same-body : body ≡ body_in (slice_get code.functions top.function) = ap body_in (sym now.there) in
      record {
        register = c;
        first = rule.first;
        called = subst (λ (b : List CodePlace). HasRole (outlines b) 0 top.place (role.Indirect c)) same-body (has_role body top.place i now.at);
        chain = subst (λ (b : List CodePlace). Chain (outlines b) 0 top.place c rule.first) same-body rule.chain;
        read = got_is past t (site_here top below) rule.first f (place_at code top.function rule.first) (read_at protected d top o)
            (subst (λ (b : List CodePlace). ReadAt past t d rule.first f (slice_get b rule.first) (read_at protected d top o)) same-body read);
      } where
        origin_by : (body : List CodePlace) (first : ℕ) (o : Origin) → IsOrigin (outlines body) first o
            → ((p : ℕ) → HasRole (outlines body) 0 first (role.Load p) → IsKept (outlines body) 0 first top.place p)
            → OriginAt body (length below) top first top.place (read_at protected (length below) top o)
        origin_by body first (origin.Register p) is kept = inl (p, is, kept p is, refl)
        origin_by body first (origin.Slot n) is kept = inr (n, is, refl)

  indirect_told : (i : CodePlace) (f : ℕ) (place : Place) → place_at code top.function top.place ≡ Some i → CallsBy code (length below) top i f place
      → IsReadBefore code past t (Some (site_here top below)) f top.place place
  indirect_told (CallInd c args type k o) f place here calls =
      (subst (λ (x : Place). IsRead code past t (site_here top below) f x) (sym calls.1) (call_is_read c args type k o f here calls.0), refl)
  indirect_told _ f place here calls = absurd calls

  abbrev TellsCalls : Note → Type 0
  TellsCalls n = IsCallTold code past t (Some (site_here top below)) n

  left_told : (frames : List (Frame Value)) (v : Value) → Each TellsCalls (leaves protected code frames v).notes
  left_told [] v = (tt, tt)
  left_told (caller ∷ others) v = (tt, write_quiet TellsCalls (λ depth s f. tt) (λ at f. tt) (length others) (result_write protected (result_slot code caller) v))

  entered_told : (i : CodePlace) (f : ℕ) (arguments : List Value) (read : Option Place) → place_at code top.function top.place ≡ Some i
      → EffectCalls code (length below) top i (Enters f arguments read)
      → Each TellsCalls (enters protected code top below f arguments read).notes
  entered_told i f arguments None here calls =
      (tt, slots_quiet TellsCalls (λ depth s f. tt) (λ at f. tt) (suc (length below)) 0 (opened protected code f arguments).slots)
  entered_told i f arguments (Some place) here calls =
      (indirect_told i f place here calls, slots_quiet TellsCalls (λ depth s f. tt) (λ at f. tt) (suc (length below)) 0 (opened protected code f arguments).slots)

  applied_told : (i : CodePlace) (e : Effect Value) → place_at code top.function top.place ≡ Some i → EffectCalls code (length below) top i e
      → Each TellsCalls (applied protected code top below e).notes
  applied_told i (Stops why) here calls = (tt, tt)
  applied_told i (Goes to w) here calls = write_quiet TellsCalls (λ depth s f. tt) (λ at f. tt) (length below) w
  applied_told i (Enters f arguments read) here calls = entered_told i f arguments read here calls
  applied_told i (Leaves v) here calls = left_told below v

callee_told : (code : Code) (past : List Step) (t : ℕ) (c : Callee) → Each (IsCallTold code past t None) (start_by c).notes
callee_told code past t (Reaches f) = tt
callee_told code past t (Refused why) = (tt, tt)

started_told : (code : Code) (past : List Step) (t : ℕ) (o : Option Entry) → Each (IsCallTold code past t None) (started code o).notes
started_told code past t None = tt
started_told code past t (Some e) = callee_told code past t (protected_callee code start_type (loaded_entry (Some e)))

-- each step's calls through pointers
abbrev pub CallsAreRead : Code → List Step → Step → Type 0
CallsAreRead code past (Turned t at action answer notes) = Each (IsCallTold code past t at) notes
CallsAreRead code past _ = Unit {0}

pub turn_calls : (setting : Setting) (valid : ValidCode setting.code) (s : State) (past : List Step) (t : ℕ) (thread : Thread Value) → is_live thread ≡ true
    → ThreadReads setting.code past t thread
    → CallsAreRead setting.code past (takes_turn setting s t thread).step
turn_calls setting valid s past t Waiting live was = started_told setting.code past t (found_entry (answer_in setting s (next setting.code t Waiting)))
turn_calls setting valid s past t (Starting f) live was = (
  tt,
  slots_quiet (IsCallTold setting.code past t None) (λ depth k f. tt) (λ at f. tt) 0 0
      (opened protected setting.code f (loaded_entry (found_entry (answer_in setting s (next setting.code t (Starting f)))) ∷ [])).slots,
)
turn_calls setting valid s past t (Running top below) live was =
    running setting.code t top below (answer_in setting s) (λ (action : Action) (told : Told Value). Each (IsCallTold setting.code past t (Some (site_here top below))) told.notes)
    (λ why. (tt, tt))
    (λ none. tt)
    (λ i here goes. applied_told setting.code valid past t top below was.0 i _ here (effect_calls setting.code (length below) top _ i))
turn_calls setting valid s past t Ended live was = absurd (cc)
turn_calls setting valid s past t (Stopped why) live was = absurd (cc)
