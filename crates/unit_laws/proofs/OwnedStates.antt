-- In every state of a run the objects of frames are apart, and each function that a unit of a safe local has was told.
use Rattle.std.proofs.Common.{◌≡◌, ◌⊎◌, inl, inr, ℕ, suc, ◌+◌, ◌*◌, ◌≤◌, ◌<◌, Bool, true, false, if◌then◌else◌, nat_le, List, [], ◌∷◌, ◌++◌, length, Option, Some, None, slice_get, refl, sym, ap, ◌∙◌, subst, arith}
use Rattle.std.proofs.lemmas.Bool.{leb-true}
use Rattle.core_ir.specs.Typed.{start_type}
use Rattle.meaning.specs.declared.action.Action.{Action}
use Rattle.meaning.specs.declared.action.Action.TheVariants as act
use Rattle.meaning.specs.declared.note.Note.{Note}
use Rattle.meaning.specs.declared.note.Note.TheVariants as note
use Rattle.meaning.specs.declared.note.Place.{Place}
use Rattle.meaning.specs.declared.value.Entry.{Entry}
use Rattle.meaning.specs.declared.value.Value.{Value}
use Rattle.meaning.specs.declared.value.Value.TheVariants.{Code as CodeValue}
use Rattle.machine.specs.Addresses.{slots_for, start_address}
use Rattle.machine.specs.declared.code.Code.{Code}
use Rattle.machine.specs.declared.code.CodePlace.{CodePlace}
use Rattle.machine.specs.declared.code.CodePlace.TheVariants.{Load}
use Rattle.machine.specs.declared.code.ScalarKind.{ScalarKind}
use Rattle.machine.specs.Domain.{Callee, Reaches, Refused}
use Rattle.machine.specs.Frames.{Effect, Ended, Enters, Frame, Goes, Leaves, Running, Starting, Stopped, Stops, Thread, Waiting, Write}
use Rattle.machine.specs.Protected.{action_of, drawn, effect_of, next, protected, protected_callee, start_by, started, unit_value}
use Rattle.machine.specs.Run.{Setting, Site, State, Step, Turned}
use Rattle.machine.specs.Shapes.{register, shape_of}
use Rattle.machine.specs.Store.{drawn_to, first_slot, stored}
use Rattle.machine.specs.Threads.{Told, applied, begins, enters, frame_units, leaves, opened, place_at, result_slot, result_write, slots_told, transfer, units_in, write_told, written}
use Rattle.machine.specs.Transfers.{IsOwnTold, last_own}
use Rattle.machine.specs.ValidCode.{ValidCode}
use Rattle.machine.specs.Values.{address_of, loaded_entry}
use Rattle.thread_laws.proofs.Successors.{IsCall, LeadsTo, leads_to}
use Rattle.machine_laws.proofs.Events.{answer_in, told_in}
use Rattle.machine_laws.proofs.Frames.{Drew, GivesNoObject, drew, gives_no_object, is_enter, opened_object, result_is_free, written_function, written_object}
use Rattle.machine_laws.proofs.Turns.{running}
use Rattle.unit_laws.specs.Objects.{FrameIn, HasFrame, ObjectsLieApart, frames_of, slots_of}
use Rattle.transfer_laws.proofs.Notes.{site_here}
use Rattle.unit_laws.proofs.Owned.{IsOutside, IsQuiet, OwnFrame, front_quiet, slots_quiet, write_quiet}
use Rattle.unit_laws.proofs.OwnedTurns.{IsClear, called_owns, frame_later, goes_outside, goes_owns, loads_told, new_owns, returned_owns}

-- ---- frames of threads

frame_low : (fs : List (Frame Value)) (d : ℕ) (f : Frame Value) → HasFrame fs d f → d < length fs
frame_low [] d f has = absurd has
frame_low (g ∷ gs) d f has = elim has [ inl here ↦ omega (arith, here.0) | inr rest ↦ let low = frame_low gs d f rest in omega (arith, low) ]

abbrev pub FramesOwn : Code → List Step → ℕ → List (Frame Value) → Type 0
FramesOwn code past t [] = Unit {0}
FramesOwn code past t (f ∷ fs) = OwnFrame code past t (length fs) f × FramesOwn code past t fs

pub frames_later : (code : Code) → ValidCode code → (past : List Step) (step : Step) (t : ℕ) (fs : List (Frame Value))
    → ((d : ℕ) (f : Frame Value) → HasFrame fs d f → IsClear code t d f step)
    → FramesOwn code past t fs
    → FramesOwn code (past ++ step ∷ []) t fs
frames_later code valid past step t [] clear was = tt
frames_later code valid past step t (f ∷ fs) clear was = (
  frame_later code valid past step t (length fs) f (clear (length fs) f (inl (refl, refl))) was.0,
  frames_later code valid past step t fs (λ d g has. clear d g (inr has)) was.1,
)

module _ (setting : Setting) (valid : ValidCode setting.code) (few : setting.slots ≤ 1048576) where
  abbrev code : Code
  code = setting.code

  abbrev pub AreApart : State → Type 0
  AreApart s = ObjectsLieApart code s

  -- they are among the slots that were drawn
  abbrev pub AreDrawn : State → Type 0
  AreDrawn s =
      (t d : ℕ) (f : Frame Value) (id : ℕ)
      → FrameIn s t d f
      → f.object ≡ Some id
      → (id + slots_of code f ≤ s.store.next) × (id + slots_of code f ≤ setting.slots)

  pub record OwnState (past : List Step) (s : State) : Type 0 where
    pub frames : (t : ℕ) (thread : Thread Value) → slice_get s.threads t ≡ Some thread → FramesOwn code past t (frames_of thread)
    pub apart : AreApart s
    pub drawn : AreDrawn s

  -- ---- where the frames behind a move come from

  -- it was there, or has no object, or drew it now
  abbrev pub FrameFrom : State → ℕ → ℕ → ℕ → ℕ → ℕ → Frame Value → Type 0
  FrameFrom s next here deep t d f =
      ((g : Frame Value) × FrameIn s t d g × (f.object ≡ g.object) × (slots_of code f ≡ slots_of code g))
      ⊎ ((f.object ≡ None)
      ⊎ ((t ≡ here) × (d ≡ deep) × (f.object ≡ Some s.store.next) × (s.store.next + slots_of code f ≤ setting.slots) × (s.store.next + slots_of code f ≤ next)))

  -- so they stay apart
  module _ (s after : State) (here deep : ℕ)
      (apart : AreApart s) (drawn : AreDrawn s)
      (grows : (n : ℕ) → n ≤ s.store.next → n ≤ setting.slots → n ≤ after.store.next)
      (from : (t d : ℕ) (f : Frame Value) → FrameIn after t d f → FrameFrom s after.store.next here deep t d f) where
    drawn_by : (t d : ℕ) (f : Frame Value) (id : ℕ) → FrameFrom s after.store.next here deep t d f → f.object ≡ Some id
        → (id + slots_of code f ≤ after.store.next) × (id + slots_of code f ≤ setting.slots)
    drawn_by t d f id origin object =
        elim origin [
          | inl old ↦
              let was = drawn t d old.0 id old.1 (sym old.2 ∙ object) in
              let size : slots_of code f ≡ slots_of code old.0 = old.3 in
              let both = grows (id + slots_of code old.0) was.0 was.1 in
              (omega (arith, both, size), omega (arith, was.1, size))
          | inr (inl none) ↦ let no-object : None ≡ Some id = sym none ∙ object in absurd (cc)
          | inr (inr fresh) ↦
              let one : s.store.next ≡ id = let is : Some s.store.next ≡ Some id = sym fresh.2 ∙ object in cc in
              (omega (arith, fresh.4, one), omega (arith, fresh.3, one))
        ]

    pub drawn_after : AreDrawn after
    drawn_after t d f id has object = drawn_by t d f id (from t d f has) object

    old_fresh : (t d : ℕ) (f g : Frame Value) (id other : ℕ) → FrameIn s t d f → f.object ≡ Some id → other ≡ s.store.next → id + slots_of code f ≤ other
    old_fresh t d f g id other has object is = let was = drawn t d f id has object in omega (arith, was.0, is)

    apart_by : (t u d e : ℕ) (f g : Frame Value) (id other : ℕ)
        → FrameFrom s after.store.next here deep t d f
        → FrameFrom s after.store.next here deep u e g
        → f.object ≡ Some id
        → g.object ≡ Some other
        → ((t ≡ u) × (d ≡ e)) ⊎ ((id + slots_of code f ≤ other) ⊎ (other + slots_of code g ≤ id))
    apart_by t u d e f g id other (inl one) (inl two) left right =
        elim (apart t u d e one.0 two.0 id other one.1 two.1 (sym one.2 ∙ left) (sym two.2 ∙ right)) [
          | inl same ↦ inl same
          | inr (inl low) ↦ inr (inl (let size : slots_of code f ≡ slots_of code one.0 = one.3 in omega (arith, low, size)))
          | inr (inr high) ↦ inr (inr (let size : slots_of code g ≡ slots_of code two.0 = two.3 in omega (arith, high, size)))
        ]
    apart_by t u d e f g id other (inr (inl none)) two left right = let no-object : None ≡ Some id = sym none ∙ left in absurd (cc)
    apart_by t u d e f g id other one (inr (inl none)) left right = let no-object : None ≡ Some other = sym none ∙ right in absurd (cc)
    apart_by t u d e f g id other (inl one) (inr (inr fresh)) left right =
        let is : other ≡ s.store.next = let both : Some other ≡ Some s.store.next = sym right ∙ fresh.2 in cc in
        let low = old_fresh t d one.0 g id other one.1 (sym one.2 ∙ left) is in
        let size : slots_of code f ≡ slots_of code one.0 = one.3 in
        inr (inl (omega (arith, low, size)))
    apart_by t u d e f g id other (inr (inr fresh)) (inl two) left right =
        let is : id ≡ s.store.next = let both : Some id ≡ Some s.store.next = sym left ∙ fresh.2 in cc in
        let low = old_fresh u e two.0 f other id two.1 (sym two.2 ∙ right) is in
        let size : slots_of code g ≡ slots_of code two.0 = two.3 in
        inr (inr (omega (arith, low, size)))
    apart_by t u d e f g id other (inr (inr one)) (inr (inr two)) left right = inl (one.0 ∙ sym two.0, one.1 ∙ sym two.1)

    pub apart_after : AreApart after
    apart_after t u d e f g id other one two left right = apart_by t u d e f g id other (from t d f one) (from u e g two) left right

  -- ---- a turn

  module _ (past : List Step) (s : State) (is : OwnState past s) (t : ℕ) (thread : Thread Value) (there : slice_get s.threads t ≡ Some thread) where
    -- what a turn of the thread comes to: what it asks, and where it leads
    pub record TurnOwns (deep : ℕ) (site : Option Site) (outside : ℕ → Type 0) (action : Action) (told : Told Value) : Type 0 where
      pub frames : FramesOwn code (past ++ Turned t site action (answer_in setting s action) told.notes ∷ []) t (frames_of told.thread)
      pub from : (d : ℕ) (f : Frame Value) → HasFrame (frames_of told.thread) d f → FrameFrom s (stored (length s.threads) s.store action).next t deep t d f
      pub tells : (a : ℕ) → outside a → last_own a told.notes ≡ None

    abbrev pub Anywhere : ℕ → Type 0
    Anywhere a = Unit {0}

    pub none_owns : (deep : ℕ) (site : Option Site) (outside : ℕ → Type 0) (action : Action) (after : Thread Value) (notes : List Note) → frames_of after ≡ [] → IsQuiet notes
        → TurnOwns deep site outside action (record { thread = after; notes = notes })
    none_owns deep site outside action after notes none quiet = record {
      frames = subst (FramesOwn code (past ++ Turned t site action (answer_in setting s action) notes ∷ []) t) (sym none) tt;
      from = λ d f has. absurd (subst (λ (fs : List (Frame Value)). HasFrame fs d f) none has);
      tells = λ a out. quiet a;
    }

    pub begun_owns : (f : ℕ) (v : Value) (action : Action) → TurnOwns 0 None Anywhere action (begins protected code t f v)
    begun_owns f v action =
        let new : Frame Value = opened protected code f (v ∷ []) in
        let told = begins protected code t f v in
        record {
          frames = (new_owns code (past ++ Turned t None action (answer_in setting s action) told.notes ∷ []) t 0 f (v ∷ []), tt);
          from = λ d g has. elim has [
            | inl here ↦ inr (inl (subst (λ (x : Frame Value). x.object ≡ None) here.1 (opened_object code f (v ∷ []))))
            | inr rest ↦ absurd rest
          ];
          tells = λ a out. front_quiet (note.Start f (start_address t)) (slots_told protected 0 0 new.slots) (λ b. refl) (slots_quiet 0 0 new.slots) a;
        }

    callee_owns : (c : Callee) (action : Action) → TurnOwns 0 None Anywhere action (start_by c)
    callee_owns (Reaches f) action = none_owns 0 None Anywhere action (Starting f) [] refl (λ a. refl)
    callee_owns (Refused why) action = none_owns 0 None Anywhere action (Stopped why) (note.Stopped why ∷ []) refl (λ a. refl)

    pub started_owns : (o : Option Entry) (action : Action) → TurnOwns 0 None Anywhere action (started code o)
    started_owns None action = none_owns 0 None Anywhere action Waiting [] refl (λ a. refl)
    started_owns (Some e) action = callee_owns (protected_callee code start_type (loaded_entry (Some e))) action

    module _ (top : Frame Value) (below : List (Frame Value)) (runs : thread ≡ Running top below) where
      here-is : slice_get s.threads t ≡ Some (Running top below)
      here-is = there ∙ ap (λ (x : Thread Value). Some x) runs

      own-frames : FramesOwn code past t (top ∷ below)
      own-frames = is.frames t (Running top below) here-is

      top-in : FrameIn s t (length below) top
      top-in = record { thread = Running top below; there = here-is; has = inl (refl, refl) }

      below-in : (d : ℕ) (f : Frame Value) → HasFrame below d f → FrameIn s t d f
      below-in d f has = record { thread = Running top below; there = here-is; has = inr has }

      low : (id : ℕ) → top.object ≡ Some id → id ≤ 1048576
      low id object = let within = is.drawn t (length below) top id top-in object in omega (arith, within.1, few)

      abbrev pub Outside : ℕ → Type 0
      Outside a = IsOutside code a top

      abbrev turned : Action → List Note → Step
      turned action notes = Turned t (Some (site_here top below)) action (answer_in setting s action) notes

      -- another frame's addresses are outside
      pub other_outside : (u d : ℕ) (f : Frame Value) (id a : ℕ) → FrameIn s u d f → ((u ≡ t) × (d ≡ length below) → ⊥) → f.object ≡ Some id
          → 64 * id ≤ a → a < 64 * (id + slots_of code f) → Outside a
      other_outside u d f id a has apart object from to other mine =
          elim (is.apart u t d (length below) f top id other has top-in object mine) [
            | inl same ↦ absurd (apart same)
            | inr (inl under) ↦ inl (omega (arith, under, to))
            | inr (inr over) ↦ inr (omega (arith, over, from))
          ]

      below_clear : (action : Action) (notes : List Note) → ((a : ℕ) → Outside a → last_own a notes ≡ None)
          → (d : ℕ) (f : Frame Value) → HasFrame below d f → IsClear code t d f (turned action notes)
      below_clear action notes tells d f has =
          let deep = frame_low below d f has in
          record {
            inside = inr (omega (arith, deep));
            quiet = λ id a object from to.
                tells a (other_outside t d f id a (below-in d f has) (λ same. omega (arith, same.1, deep)) object from to);
          }

      below_later : (action : Action) (notes : List Note) → ((a : ℕ) → Outside a → last_own a notes ≡ None)
          → FramesOwn code (past ++ turned action notes ∷ []) t below
      below_later action notes tells = frames_later code valid past (turned action notes) t below (below_clear action notes tells) own-frames.1

      old_from : (next d : ℕ) (f g : Frame Value) → FrameIn s t d f → g.object ≡ f.object → g.function ≡ f.function → FrameFrom s next t (length below) t d g
      old_from next d f g has object function =
          inl (f, has, object, ap (λ (n : ℕ). slots_for (units_in (slice_get code.functions n))) function)

      below_from : (next d : ℕ) (f : Frame Value) → HasFrame below d f → FrameFrom s next t (length below) t d f
      below_from next d f has = old_from next d f f (below-in d f has) refl refl

      stuck_owns : TurnOwns (length below) (Some (site_here top below)) Outside act.Own (record { thread = Running top below; notes = [] })
      stuck_owns = record {
        frames = (
          frame_later code valid past (turned act.Own []) t (length below) top
              (record { inside = inr (omega arith); quiet = λ id a object from to. refl }) own-frames.0,
          below_later act.Own [] (λ a out. refl),
        );
        from = λ d f has. elim has [
          | inl here ↦ subst (λ (n : ℕ). FrameFrom s s.store.next t (length below) t n f) (sym here.0)
              (old_from s.store.next (length below) top f top-in (ap (λ (x : Frame Value). x.object) (sym here.1)) (ap (λ (x : Frame Value). x.function) (sym here.1)))
          | inr rest ↦ below_from s.store.next d f rest
        ];
        tells = λ a out. refl;
      }

      module _ (i : CodePlace) (here : place_at code top.function top.place ≡ Some i) where
        abbrev action_at : CodePlace → Action
        action_at j = action_of code t top below (shape_of protected (length below) top j)

        abbrev effect_at : CodePlace → Effect Value
        effect_at j = effect_of code top (answer_in setting s (action_at j)) (shape_of protected (length below) top j)

        abbrev next_at : CodePlace → ℕ
        next_at j = (stored (length s.threads) s.store (action_at j)).next

        -- ---- on in the frame

        drawn_now : (k id : ℕ) (b : Bool) → nat_le (s.store.next + k) setting.slots ≡ b → (if b then Some s.store.next else None) ≡ Some id
            → (id ≡ s.store.next) × (s.store.next + k ≤ setting.slots)
        drawn_now k id true fits found = (cc, leb-true (s.store.next + k) setting.slots fits)
        drawn_now k id false fits found = absurd (cc)

        entered_from : (to : ℕ) (w : Write Value) (k : ℕ) → k ≡ slots_of code top
            → drawn top (answer_in setting s (act.Alloc k)) ≡ Goes to w
            → FrameFrom s (drawn_to s.store.next k) t (length below) t (length below) (written protected w (record top { place = to }))
        entered_from to w k size effect =
            let moved : Frame Value = record top { place = to } in
            let d : Drew top (answer_in setting s (act.Alloc k)) to w = drew top (answer_in setting s (act.Alloc k)) to w effect in
            let found : first_slot setting.slots s.store.next k ≡ Some d.id = let said = d.found in cc in
            let drew-it = drawn_now k d.id (nat_le (s.store.next + k) setting.slots) refl found in
            let object : (written protected w moved).object ≡ Some s.store.next =
            ap (λ (x : Write Value). (written protected x moved).object) d.write ∙ ap (λ (n : ℕ). Some n) drew-it.0 in
            let same : slots_of code (written protected w moved) ≡ k =
            ap (λ (n : ℕ). slots_for (units_in (slice_get code.functions n))) (written_function w moved) ∙ sym size in
            inr (inr (refl, refl, object, omega (arith, same, drew-it.1), omega (arith, same, drew-it.1, few)))

        goes_from : (to : ℕ) (w : Write Value) → effect_at i ≡ Goes to w
            → FrameFrom s (next_at i) t (length below) t (length below) (written protected w (record top { place = to }))
        goes_from to w effect =
            let moved : Frame Value = record top { place = to } in
            elim (is_enter i) [
              | inl enters ↦
                  subst (λ (n : ℕ). FrameFrom s n t (length below) t (length below) (written protected w moved))
                  (ap (λ (j : CodePlace). next_at j) (sym enters))
                  (entered_from to w (slots_for (frame_units code top.function)) refl (ap (λ (j : CodePlace). effect_at j) (sym enters) ∙ effect))
              | inr other ↦
                  old_from (next_at i) (length below) top (written protected w moved) top-in
                  (written_object w moved (subst GivesNoObject effect (gives_no_object code (length below) top (answer_in setting s (action_at i)) i other)))
                  (written_function w moved)
            ]

        goes_all : (to : ℕ) (w : Write Value) → effect_at i ≡ Goes to w
            → TurnOwns (length below) (Some (site_here top below)) Outside (action_at i) (applied protected code top below (Goes to w))
        goes_all to w effect =
            let tells : (a : ℕ) → Outside a → last_own a (write_told protected (length below) w) ≡ None =
            λ a out. goes_outside setting valid few s past t top below own-frames.0 low i here to w effect a out in
            record {
              frames = (
                goes_owns setting valid few s past t top below own-frames.0 low i here to w effect,
                below_later (action_at i) (write_told protected (length below) w) tells,
              );
              from = λ d f has. elim has [
                | inl now ↦ subst (λ (n : ℕ). FrameFrom s (next_at i) t (length below) t n f) (sym now.0)
                    (subst (FrameFrom s (next_at i) t (length below) t (length below)) now.1 (goes_from to w effect))
                | inr rest ↦ below_from (next_at i) d f rest
              ];
              tells = tells;
            }

        -- ---- into a function

        enters_all : (f : ℕ) (arguments : List Value) (read : Option Place) → IsCall i
            → (notes : List Note) → (enters protected code top below f arguments read).notes ≡ notes → IsQuiet notes
            → TurnOwns (length below) (Some (site_here top below)) Outside (action_at i) (enters protected code top below f arguments read)
        enters_all f arguments read call notes same quiet =
            let caller : Frame Value = record top { place = top.place + 1 } in
            let mine : IsQuiet (enters protected code top below f arguments read).notes = subst IsQuiet (sym same) quiet in
            let all : List Note = (enters protected code top below f arguments read).notes in
            record {
              frames = (
                new_owns code (past ++ turned (action_at i) all ∷ []) t (suc (length below)) f arguments,
                (called_owns setting valid few s past t top below own-frames.0 low i here all mine call, below_later (action_at i) all (λ a out. mine a)),
              );
              from = λ d g has. elim has [
                | inl now ↦ inr (inl (subst (λ (x : Frame Value). x.object ≡ None) now.1 (opened_object code f arguments)))
                | inr (inl now) ↦ subst (λ (n : ℕ). FrameFrom s (next_at i) t (length below) t n g) (sym now.0)
                    (subst (FrameFrom s (next_at i) t (length below) t (length below)) now.1 (old_from (next_at i) (length below) top caller top-in refl refl))
                | inr (inr rest) ↦ below_from (next_at i) d g rest
              ];
              tells = λ a out. mine a;
            }

        call_quiet : (f : ℕ) (arguments : List Value) (read : Option Place) → IsQuiet (enters protected code top below f arguments read).notes
        call_quiet f arguments None =
            front_quiet (transfer protected (suc (length below)) f top.place None) (slots_told protected (suc (length below)) 0 (opened protected code f arguments).slots) (λ a. refl)
            (slots_quiet (suc (length below)) 0 (opened protected code f arguments).slots)
        call_quiet f arguments (Some place) =
            front_quiet (transfer protected (suc (length below)) f top.place (Some place)) (slots_told protected (suc (length below)) 0 (opened protected code f arguments).slots) (λ a. refl)
            (slots_quiet (suc (length below)) 0 (opened protected code f arguments).slots)

        -- ---- back to the caller

        result_quiet : (d : ℕ) (o : Option ℕ) (v : Value) → IsQuiet (write_told protected d (result_write protected o v))
        result_quiet d None v = write_quiet d (result_write protected None v) tt
        result_quiet d (Some k) v = write_quiet d (result_write protected (Some k) v) tt

        leaves_all : (v : Value) (frames : List (Frame Value)) → frames ≡ below
            → ((notes : List Note) → IsQuiet notes → FramesOwn code (past ++ turned (action_at i) notes ∷ []) t frames)
            → ((d : ℕ) (f : Frame Value) → HasFrame frames d f → FrameIn s t d f)
            → TurnOwns (length below) (Some (site_here top below)) Outside (action_at i) (leaves protected code frames v)
        leaves_all v [] same later was = none_owns (length below) (Some (site_here top below)) Outside (action_at i) Ended (note.End ∷ []) refl (λ a. refl)
        leaves_all v (caller ∷ others) same later was =
            let k = result_slot code caller in
            let w = result_write protected k v in
            let back : Frame Value = written protected w caller in
            let notes : List Note = note.Return (suc (length others)) caller.function caller.place ∷ write_told protected (length others) w in
            let quiet : IsQuiet notes = front_quiet (note.Return (suc (length others)) caller.function caller.place) (write_told protected (length others) w) (λ a. refl) (result_quiet (length others) k v) in
            let frames = later notes quiet in
            record {
              frames = (returned_owns code (past ++ turned (action_at i) notes ∷ []) t (length others) caller k v frames.0, frames.1);
              from = λ d f has. elim has [
                | inl now ↦ subst (λ (n : ℕ). FrameFrom s (next_at i) t (length below) t n f) (sym now.0)
                    (subst (FrameFrom s (next_at i) t (length below) t (length others)) now.1
                    (old_from (next_at i) (length others) caller back (was (length others) caller (inl (refl, refl))) (written_object w caller (result_is_free k v)) (written_function w caller)))
                | inr rest ↦ old_from (next_at i) d f f (was d f (inr rest)) refl refl
              ];
              tells = λ a out. quiet a;
            }

        applied_all : (e : Effect Value) → effect_at i ≡ e
            → TurnOwns (length below) (Some (site_here top below)) Outside (action_at i) (applied protected code top below e)
        applied_all (Stops why) effect =
            none_owns (length below) (Some (site_here top below)) Outside (action_at i) (Stopped why) (note.Stopped why ∷ []) refl (λ a. refl)
        applied_all (Goes to w) effect = goes_all to w effect
        applied_all (Enters f arguments read) effect =
            enters_all f arguments read (subst (LeadsTo top.place i) effect (leads_to code (length below) top (answer_in setting s (action_at i)) i))
            (enters protected code top below f arguments read).notes refl (call_quiet f arguments read)
        applied_all (Leaves v) effect = leaves_all v below refl (λ notes quiet. below_later (action_at i) notes (λ a out. quiet a)) below-in

      pub running_all : TurnOwns (length below) (Some (site_here top below)) Outside (next code t (Running top below)) (told_in setting s t (Running top below))
      running_all =
          running code t top below (answer_in setting s) (TurnOwns (length below) (Some (site_here top below)) Outside)
          (λ why. none_owns (length below) (Some (site_here top below)) Outside (act.Halt why) (Stopped why) (note.Stopped why ∷ []) refl (λ a. refl))
          (λ none. stuck_owns)
          (λ i here goes. applied_all i here _ refl)

      -- what its next load of a unit reads was told
      pub reads_own : (i : CodePlace) (r p u f : ℕ) (kind : ScalarKind)
          → place_at code top.function top.place ≡ Some i
          → i ≡ Load r p kind (Some u)
          → unit_value top (Some u) ≡ CodeValue f
          → IsOwnTold past t (length below) (address_of (register protected top p)) f
      reads_own i r p u f kind here same value = loads_told setting valid few s past t top below own-frames.0 low i here r p u f kind same value
