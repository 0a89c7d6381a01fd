-- What notes tell of slots and units, and what steps pass by an activation without telling of it.
use Rattle.std.proofs.Common.{◌≡◌, ◌≢◌, inl, inr, ℕ, pos, zero, suc, ◌+◌, ◌<◌, Bool, true, false, if◌then◌else◌, nat_eq, List, [], ◌∷◌, ◌++◌, slice_index_or, Option, Some, None, refl, sym, ap, ◌∙◌, arith, append_assoc, eq-eqb, ne_eqb}
use Rattle.std.proofs.lemmas.List.Elements.{All-nil, All-push}
use Rattle.meaning.specs.declared.action.Action.{Action}
use Rattle.meaning.specs.declared.action.Reply.{Reply}
use Rattle.meaning.specs.declared.note.Note.{Note}
use Rattle.meaning.specs.declared.note.Note.TheVariants as note
use Rattle.meaning.specs.declared.note.Place.{Place}
use Rattle.meaning.specs.declared.value.Value.{Value}
use Rattle.meaning.specs.declared.value.Value.TheVariants.{Bare, Code as CodeValue}
use Rattle.machine.specs.Frames.{Nothing, ToObject, ToRegister, ToSlot, ToUnit, Write}
use Rattle.machine.specs.Protected.{protected}
use Rattle.machine.specs.Run.{CutOff, Idle, Site, Step, Turned, Wrote}
use Rattle.machine.specs.Threads.{slot_told, slots_told, transfer, unit_told, write_told}
use Rattle.machine.specs.Transfers.{IsAt, IsInside, IsLast, IsSlotTold, PassesBy, TellsNoSlot, last_slot, or_later, slot_note, told_by}
use Rattle.machine.specs.Values.{told_function}
use Rattle.machine_laws.proofs.Events.{IsNotOf}

-- ---- slots

or_later-none : (o : Option ℕ) → or_later None o ≡ o
or_later-none (Some f) = refl
or_later-none None = refl

or_later_assoc : (a b c : Option ℕ) → or_later (or_later a b) c ≡ or_later a (or_later b c)
or_later_assoc (Some f) b c = refl
or_later_assoc None b c = refl

or_later_last : (o : Option ℕ) → or_later o None ≡ o
or_later_last (Some f) = refl
or_later_last None = refl

last_slot-append : (d s : ℕ) (xs ys : List Note) → last_slot d s (xs ++ ys) ≡ or_later (last_slot d s ys) (last_slot d s xs)
last_slot-append d s [] ys = sym (or_later_last (last_slot d s ys))
last_slot-append d s (x ∷ xs) ys =
    ap (λ (o : Option ℕ). or_later o (slot_note d s x)) (last_slot-append d s xs ys)
    ∙ or_later_assoc (last_slot d s ys) (last_slot d s xs) (slot_note d s x)

same_slot : (d s f : ℕ) → slot_note d s (note.CodeSlot d s f) ≡ Some f
same_slot d s f =
    ap (λ (b : Bool). if b then (if nat_eq s s then Some f else None) else None) (eq-eqb d d refl)
    ∙ ap (λ (b : Bool). if b then Some f else None) (eq-eqb s s refl)

other_depth : (d s e r f : ℕ) → e ≢ d → slot_note d s (note.CodeSlot e r f) ≡ None
other_depth d s e r f other = ap (λ (b : Bool). if b then (if nat_eq r s then Some f else None) else None) (ne_eqb e d other)

either_none : (b c : Bool) (f : ℕ) → c ≡ false → (if b then (if c then Some f else None) else None) ≡ None
either_none true true f is = absurd (cc)
either_none true false f is = refl
either_none false c f is = refl

other_slot : (d s e r f : ℕ) → r ≢ s → slot_note d s (note.CodeSlot e r f) ≡ None
other_slot d s e r f other = either_none (nat_eq e d) (nat_eq r s) f (ne_eqb r s other)

pub told_same : (d s f : ℕ) → last_slot d s (slot_told protected d s (Some f)) ≡ Some f
told_same d s f = or_later-none (slot_note d s (note.CodeSlot d s f)) ∙ same_slot d s f

told_other_depth : (d s e r : ℕ) (o : Option ℕ) → e ≢ d → last_slot d s (slot_told protected e r o) ≡ None
told_other_depth d s e r None other = refl
told_other_depth d s e r (Some f) other = or_later-none (slot_note d s (note.CodeSlot e r f)) ∙ other_depth d s e r f other

told_other_slot : (d s e r : ℕ) (o : Option ℕ) → r ≢ s → last_slot d s (slot_told protected e r o) ≡ None
told_other_slot d s e r None other = refl
told_other_slot d s e r (Some f) other = or_later-none (slot_note d s (note.CodeSlot e r f)) ∙ other_slot d s e r f other

unit_tells_none : (d s at : ℕ) (o : Option ℕ) → last_slot d s (unit_told protected at o) ≡ None
unit_tells_none d s at None = refl
unit_tells_none d s at (Some f) = refl

-- a write elsewhere than to this slot
abbrev pub IsOtherSlot : ℕ → Write Value → Type 0
IsOtherSlot s (ToSlot r v) = r ≢ s
IsOtherSlot s w = Unit {0}

pub write_tells_none : (d s e : ℕ) (w : Write Value) → IsOtherSlot s w → last_slot d s (write_told protected e w) ≡ None
write_tells_none d s e Nothing free = refl
write_tells_none d s e (ToRegister r v) free = refl
write_tells_none d s e (ToSlot r v) free = told_other_slot d s e r (told_function v) free
write_tells_none d s e (ToUnit unit at v) free = unit_tells_none d s at (told_function v)
write_tells_none d s e (ToObject id) free = refl

pub write_elsewhere : (d s e : ℕ) (w : Write Value) → e ≢ d → last_slot d s (write_told protected e w) ≡ None
write_elsewhere d s e Nothing other = refl
write_elsewhere d s e (ToRegister r v) other = refl
write_elsewhere d s e (ToSlot r v) other = told_other_depth d s e r (told_function v) other
write_elsewhere d s e (ToUnit unit at v) other = unit_tells_none d s at (told_function v)
write_elsewhere d s e (ToObject id) other = refl

-- the slots of another frame
pub slots_elsewhere : (d s e k : ℕ) (vs : List Value) → e ≢ d → last_slot d s (slots_told protected e k vs) ≡ None
slots_elsewhere d s e k [] other = refl
slots_elsewhere d s e k (v ∷ vs) other =
    last_slot-append d s (slot_told protected e k (told_function v)) (slots_told protected e (suc k) vs)
    ∙ ap (λ (o : Option ℕ). or_later o (last_slot d s (slot_told protected e k (told_function v)))) (slots_elsewhere d s e (suc k) vs other)
    ∙ or_later-none (last_slot d s (slot_told protected e k (told_function v)))
    ∙ told_other_depth d s e k (told_function v) other

slots_below : (d s k : ℕ) (vs : List Value) → s < k → last_slot d s (slots_told protected d k vs) ≡ None
slots_below d s k [] low = refl
slots_below d s k (v ∷ vs) low =
    last_slot-append d s (slot_told protected d k (told_function v)) (slots_told protected d (suc k) vs)
    ∙ ap (λ (o : Option ℕ). or_later o (last_slot d s (slot_told protected d k (told_function v)))) (slots_below d s (suc k) vs (omega (arith, low)))
    ∙ or_later-none (last_slot d s (slot_told protected d k (told_function v)))
    ∙ told_other_slot d s d k (told_function v) (λ same. omega (arith, same, low))

-- the last of these slots that is a function
slots_from : (d k j f : ℕ) (vs : List Value) → slice_index_or vs j (Bare (pos 0)) ≡ CodeValue f → last_slot d (k + j) (slots_told protected d k vs) ≡ Some f
slots_from d k j f [] is = absurd (cc)
slots_from d k zero f (v ∷ vs) is =
    let here : k + 0 ≡ k = omega arith in
    let told : last_slot d k (slot_told protected d k (told_function v)) ≡ Some f =
    ap (λ (x : Value). last_slot d k (slot_told protected d k (told_function x))) is ∙ told_same d k f in
    ap (λ (n : ℕ). last_slot d n (slots_told protected d k (v ∷ vs))) here
    ∙ last_slot-append d k (slot_told protected d k (told_function v)) (slots_told protected d (suc k) vs)
    ∙ ap (λ (o : Option ℕ). or_later o (last_slot d k (slot_told protected d k (told_function v)))) (slots_below d k (suc k) vs (omega arith))
    ∙ or_later-none (last_slot d k (slot_told protected d k (told_function v)))
    ∙ told
slots_from d k (suc j) f (v ∷ vs) is =
    let there : suc k + j ≡ k + suc j = omega arith in
    let rest : last_slot d (k + suc j) (slots_told protected d (suc k) vs) ≡ Some f =
    ap (λ (n : ℕ). last_slot d n (slots_told protected d (suc k) vs)) (sym there) ∙ slots_from d (suc k) j f vs is in
    last_slot-append d (k + suc j) (slot_told protected d k (told_function v)) (slots_told protected d (suc k) vs)
    ∙ ap (λ (o : Option ℕ). or_later o (last_slot d (k + suc j) (slot_told protected d k (told_function v)))) rest

pub slots_tell : (d s f : ℕ) (vs : List Value) → slice_index_or vs s (Bare (pos 0)) ≡ CodeValue f → last_slot d s (slots_told protected d 0 vs) ≡ Some f
slots_tell d s f vs is =
    let here : s ≡ 0 + s = omega arith in
    ap (λ (n : ℕ). last_slot d n (slots_told protected d 0 vs)) here ∙ slots_from d 0 s f vs is

-- a transfer in front tells nothing of slots
pub transfer_tells : (d s : ℕ) (n : Note) (notes : List Note) → slot_note d s n ≡ None → last_slot d s (n ∷ notes) ≡ last_slot d s notes
transfer_tells d s n notes none = ap (λ (o : Option ℕ). or_later (last_slot d s notes) o) none ∙ or_later_last (last_slot d s notes)

pub call_tells : (d s depth f from : ℕ) (place : Option Place) → slot_note d s (transfer protected depth f from place) ≡ None
call_tells d s depth f from None = refl
call_tells d s depth f from (Some place) = refl

-- ---- steps

pub of_same : (t : ℕ) (notes : List Note) → (if nat_eq t t then notes else []) ≡ notes
of_same t notes = ap (λ (b : Bool). if b then notes else []) (eq-eqb t t refl)

-- a step that leaves the activation of thread t at depth d as it is: it isn't in it, and tells nothing of its slots
pub record Passes (t d : ℕ) (step : Step) : Type 0 where
  pub inside : IsInside t d step
  pub elsewhere : (q : ℕ) → IsAt t d q step → ⊥
  pub quiet : (s : ℕ) → last_slot d s (told_by t step) ≡ None

told_of_other : (d s u t : ℕ) (notes : List Note) → u ≢ t → last_slot d s (if nat_eq u t then notes else []) ≡ None
told_of_other d s u t notes other = ap (λ (b : Bool). last_slot d s (if b then notes else [])) (ne_eqb u t other)

-- so does each step that is none of the thread
pub others_pass : (t d : ℕ) (step : Step) → IsNotOf t step → Passes t d step
others_pass t d (Turned u (Some site) action answer notes) other = record {
  inside = inl other;
  elsewhere = λ q at. other at.0;
  quiet = λ s. told_of_other d s u t notes other;
}
others_pass t d (Turned u None action answer notes) other = record {
  inside = other;
  elsewhere = λ q at. at;
  quiet = λ s. told_of_other d s u t notes other;
}
others_pass t d (CutOff u) other = record { inside = other; elsewhere = λ q at. at; quiet = λ s. refl }
others_pass t d (Wrote a w) other = record { inside = tt; elsewhere = λ q at. at; quiet = λ s. refl }
others_pass t d Idle other = record { inside = tt; elsewhere = λ q at. at; quiet = λ s. refl }

-- and each turn of a deeper frame that tells nothing of these slots
pub deeper_passes : (t d : ℕ) (site : Site) (action : Action) (answer : Reply) (notes : List Note)
    → d < site.depth
    → ((s : ℕ) → last_slot d s notes ≡ None)
    → Passes t d (Turned t (Some site) action answer notes)
deeper_passes t d site action answer notes deep quiet = record {
  inside = inr (omega (arith, deep));
  elsewhere = λ q at. omega (arith, deep, at.1);
  quiet = λ s. ap (λ (l : List Note). last_slot d s l) (of_same t notes) ∙ quiet s;
}

pub last_later : (past : List Step) (step : Step) (t d q : ℕ) (x : Step) (earlier : List Step) → PassesBy t d q step → IsLast past t d q x earlier → IsLast (past ++ step ∷ []) t d q x earlier
last_later past step t d q x earlier passes was = record {
  later = was.later ++ step ∷ [];
  is = ap (λ (l : List Step). l ++ step ∷ []) was.is ∙ append_assoc earlier (x ∷ was.later) (step ∷ []);
  at = was.at;
  only = All-push (PassesBy t d q) was.later step was.only passes;
}

pub slot_later : (past : List Step) (step : Step) (t d s f : ℕ) → TellsNoSlot t d s step → IsSlotTold past t d s f → IsSlotTold (past ++ step ∷ []) t d s f
slot_later past step t d s f quiet was = record {
  earlier = was.earlier;
  step = was.step;
  later = was.later ++ step ∷ [];
  is = ap (λ (l : List Step). l ++ step ∷ []) was.is ∙ append_assoc was.earlier (was.step ∷ was.later) (step ∷ []);
  told = was.told;
  only = All-push (TellsNoSlot t d s) was.later step was.only quiet;
}

-- it was told just now
pub slot_now : (past : List Step) (step : Step) (t d s f : ℕ) → last_slot d s (told_by t step) ≡ Some f → IsSlotTold (past ++ step ∷ []) t d s f
slot_now past step t d s f told = record {
  earlier = past;
  step = step;
  later = [];
  is = refl;
  told = told;
  only = All-nil (TellsNoSlot t d s);
}

pub just_last : (past : List Step) (step : Step) (t d q : ℕ) → IsAt t d q step → IsLast (past ++ step ∷ []) t d q step past
just_last past step t d q at = record { later = []; is = refl; at = at; only = All-nil (PassesBy t d q) }
