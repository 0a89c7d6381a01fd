-- The values of frames: what is written keeps their number, and the frames of a sound thread have those of their functions.
use Rattle.std.proofs.Common.{◌≡◌, ℕ, ◌+◌, ◌<◌, Bool, ◌&&◌, nat_le, List, [], ◌∷◌, length, refl, sym, ap, ◌∙◌}
use Rattle.std.proofs.lemmas.Bool.{lt-ltb}
use Rattle.std.proofs.lemmas.List.{length-set}
use Rattle.meaning.specs.declared.value.Value.{Value}
use Rattle.machine.specs.declared.code.Code.{Code}
use Rattle.machine.specs.Frames.{Frame, Write, Nothing, ToRegister, ToSlot, ToUnit, ToObject}
use Rattle.machine.specs.Protected.{protected}
use Rattle.machine.specs.Threads.{has_room, size_of, values_of, written}
use Rattle.thread_engine.specs.Sound.{AreSound, EachIsSound, length_of}
use Rattle.thread_engine.specs.inner.Frames.{held}

pub written_keeps_length : (w : Write Value) (f : Frame Value) → length_of (written protected w f) ≡ length_of f
written_keeps_length Nothing f = refl
written_keeps_length (ToRegister d v) f = ap (λ (n : ℕ). n + length f.slots + length f.units) (length-set f.registers d v)
written_keeps_length (ToSlot s v) f = ap (λ (n : ℕ). length f.registers + n + length f.units) (length-set f.slots s v)
written_keeps_length (ToUnit unit at v) f = ap (λ (n : ℕ). length f.registers + length f.slots + n) (length-set f.units unit v)
written_keeps_length (ToObject id) f = refl

-- the values that are held are those that the functions of the frames ask for
held_by_all : (code : Code) (frames : List (Frame Value)) → EachIsSound code frames → held frames ≡ values_of code frames
held_by_all code [] all = refl
held_by_all code (f ∷ fs) all =
    ap (λ (n : ℕ). n + held fs) all.0.size ∙ ap (λ (n : ℕ). size_of code f.function + n) (held_by_all code fs all.1)

pub held_are_values : (code : Code) (frames : List (Frame Value)) → AreSound code frames → held frames ≡ values_of code frames
held_are_values code frames sound = held_by_all code frames sound.each

-- whether there is room, by what is held
pub room_by_counts :
    (code : Code) (frames : List (Frame Value)) (f used size : ℕ)
    → AreSound code frames
    → used ≡ held frames
    → size ≡ size_of code f
    → length frames < 4096
    → nat_le (used + size) 65536 ≡ has_room code frames f
room_by_counts code frames f used size sound counted is few =
    let both : nat_le (used + size) 65536 ≡ nat_le (values_of code frames + size_of code f) 65536 =
    ap (λ (n : ℕ). nat_le (n + size) 65536) (counted ∙ held_are_values code frames sound)
    ∙ ap (λ (n : ℕ). nat_le (values_of code frames + n) 65536) is in
    both ∙ ap (λ (b : Bool). b && nat_le (values_of code frames + size_of code f) 65536) (sym (lt-ltb (length frames) 4096 few))
