-- Which types slots and frame locals have: those of the variables that stand there.
use Rattle.std.proofs.Common.{◌≡◌, ◌∙◌, ℕ, zero, suc, ◌+◌, Bool, true, false, not, List, [], ◌∷◌, ◌++◌, length, map, take, Some, option_map, unwrap_or, refl, ap, subst, slice_get, arith}
use Rattle.std.proofs.lemmas.Option.{same_Some}
use Rattle.std.specs.Prelude.{if◌then◌else◌}
use Rattle.c_types.specs.declared.structs.StructDef.{StructDef}
use Rattle.c_types.specs.declared.ty.Ty.{Ty}
use Rattle.c_types.specs.declared.ty.Ty.TheVariants as ty
use Rattle.c_typed.specs.declared.unit.Local.{Local as Variable}
use Rattle.core_ir.specs.declared.program.Local.{Local}
use Rattle.elab_rows.specs.declared.scope.Standing.{Standing}
use Rattle.elab_rows.specs.declared.scope.Standing.TheVariants as stands
use Rattle.elab_rows.specs.Scope.{is_slot_local, one_more_if, slots_behind, standing, standings}
use Rattle.elab_rows.specs.Units.{units}
use Rattle.elab_pieces.specs.Functions.{frame_local, frame_locals}
use Rattle.elab_valid.proofs.RegisterTypes.{HasAt, Types}

-- ---- lists

-- each slot has its type of a list
abbrev pub listed : List Ty → Types
listed all n = unwrap_or (slice_get all n) ty.Int

pub list-has : (all : List Ty) (n : ℕ) (ts : List Ty) → ((m : ℕ) (t : Ty) → slice_get ts m ≡ Some t → slice_get all (n + m) ≡ Some t) → HasAt (listed all) n ts
list-has all n [] h = tt
list-has all n (t ∷ ts) h = (
  ap (λ o. unwrap_or o ty.Int) (ap (slice_get all) (let z : n ≡ n + 0 = omega arith in z) ∙ h 0 t refl),
  list-has all (suc n) ts (λ m u e. ap (slice_get all) (let z : suc n + m ≡ n + suc m = omega arith in z) ∙ h (suc m) u e),
)

-- ---- variables

-- the types of the slots that variables have, of which so many are parameters
abbrev pub slot_types : ℕ → List Variable → List Ty
slot_types parameters [] = []
slot_types (suc n) (l ∷ ls) = l.ty ∷ slot_types n ls
slot_types zero (l ∷ ls) = if is_slot_local l then l.ty ∷ slot_types zero ls else slot_types zero ls

-- those of the locals of the frame
abbrev pub frame_types : List Variable → List Ty
frame_types [] = []
frame_types (l ∷ ls) = if is_slot_local l then frame_types ls else l.ty ∷ frame_types ls

frame-by : (defs : List StructDef) (at n : ℕ) (v : Variable) (vs : List Variable) (b : Bool) → ((at n : ℕ) → option_map (λ (l : Local). l.ty) (slice_get (frame_locals defs at vs) n) ≡ slice_get (frame_types vs) n)
    → option_map (λ (l : Local). l.ty) (slice_get (if b then frame_locals defs at vs else frame_local defs at v.ty ∷ frame_locals defs (at + units defs v.ty) vs) n) ≡ slice_get (if b then frame_types vs else v.ty ∷ frame_types vs) n
frame-by defs at n v vs true rest = rest at n
frame-by defs at zero v vs false rest = refl
frame-by defs at (suc n) v vs false rest = rest (at + units defs v.ty) n

-- a frame local has its variable's type
pub frame-type : (defs : List StructDef) (vs : List Variable) (at n : ℕ) → option_map (λ (l : Local). l.ty) (slice_get (frame_locals defs at vs) n) ≡ slice_get (frame_types vs) n
frame-type defs [] at n = refl
frame-type defs (v ∷ vs) at n = frame-by defs at n v vs (is_slot_local v) (frame-type defs vs)

-- ---- where a variable stands

-- so many places behind the first, with its type
pub record Behind (types : List Ty) (first place : ℕ) (t : Ty) : Type 0 where
  pub further : ℕ
  pub is : place ≡ first + further
  pub there : slice_get types further ≡ Some t

abbrev pub StandTyped : List Ty → List Ty → ℕ → ℕ → Ty → Standing → Type 0
StandTyped slots frames slot frame t (stands.Slot s) = Behind slots slot s t
StandTyped slots frames slot frame t (stands.Frame v) = Behind frames frame v t

first-one : (types : List Ty) (place : ℕ) (t : Ty) → Behind (t ∷ types) place place t
first-one types place t = record { further = 0; is = omega arith; there = refl }

one-on : (types : List Ty) (first place : ℕ) (t u : Ty) → Behind types (suc first) place t → Behind (u ∷ types) first place t
one-on types first place t u h = record { further = suc h.further; is = omega (arith, h.is); there = h.there }

-- the first variable
here : (b : Bool) (slots frames : List Ty) (slot frame : ℕ) (t : Ty) → StandTyped (if b then t ∷ slots else slots) (if b then frames else t ∷ frames) slot frame t (standing b slot frame)
here true slots frames slot frame t = first-one slots slot t
here false slots frames slot frame t = first-one frames frame t

-- a parameter has a slot also where it is a frame local
here-parameter : (b : Bool) (slots frames : List Ty) (slot frame : ℕ) (t : Ty) → StandTyped (t ∷ slots) (if b then frames else t ∷ frames) slot frame t (standing b slot frame)
here-parameter true slots frames slot frame t = first-one slots slot t
here-parameter false slots frames slot frame t = first-one frames frame t

frame-on : (b : Bool) (frames : List Ty) (frame v : ℕ) (t u : Ty) → Behind frames (one_more_if (not b) frame) v t → Behind (if b then frames else u ∷ frames) frame v t
frame-on true frames frame v t u h = h
frame-on false frames frame v t u h = one-on frames frame v t u h

slot-on : (b : Bool) (slots : List Ty) (slot s : ℕ) (t u : Ty) → Behind slots (one_more_if b slot) s t → Behind (if b then u ∷ slots else slots) slot s t
slot-on true slots slot s t u h = one-on slots slot s t u h
slot-on false slots slot s t u h = h

on : (b : Bool) (slots frames : List Ty) (slot frame : ℕ) (t u : Ty) (s : Standing) → StandTyped slots frames (one_more_if b slot) (one_more_if (not b) frame) t s
    → StandTyped (if b then u ∷ slots else slots) (if b then frames else u ∷ frames) slot frame t s
on b slots frames slot frame t u (stands.Slot s) h = slot-on b slots slot s t u h
on b slots frames slot frame t u (stands.Frame v) h = frame-on b frames frame v t u h

on-parameter : (b : Bool) (slots frames : List Ty) (slot frame : ℕ) (t u : Ty) (s : Standing) → StandTyped slots frames (suc slot) (one_more_if (not b) frame) t s
    → StandTyped (u ∷ slots) (if b then frames else u ∷ frames) slot frame t s
on-parameter b slots frames slot frame t u (stands.Slot s) h = one-on slots slot s t u h
on-parameter b slots frames slot frame t u (stands.Frame v) h = frame-on b frames frame v t u h

pub stands-typed : (parameters slot frame : ℕ) (ls : List Variable) (n : ℕ) (l : Variable) (s : Standing) → slice_get ls n ≡ Some l → slice_get (standings parameters slot frame ls) n ≡ Some s
    → StandTyped (slot_types parameters ls) (frame_types ls) slot frame l.ty s
stands-typed parameters slot frame [] n l s e h = absurd (cc)
stands-typed (suc k) slot frame (x ∷ ls) zero l s e h =
    let b = is_slot_local x in
    subst (λ z. StandTyped (slot_types (suc k) (x ∷ ls)) (frame_types (x ∷ ls)) slot frame l.ty z) (same_Some (standing b slot frame) s h)
    (subst (λ (z : Variable). StandTyped (slot_types (suc k) (x ∷ ls)) (frame_types (x ∷ ls)) slot frame z.ty (standing b slot frame)) (same_Some x l e) (here-parameter b (slot_types k ls) (frame_types ls) slot frame x.ty))
stands-typed zero slot frame (x ∷ ls) zero l s e h =
    let b = is_slot_local x in
    subst (λ z. StandTyped (slot_types zero (x ∷ ls)) (frame_types (x ∷ ls)) slot frame l.ty z) (same_Some (standing b slot frame) s h)
    (subst (λ (z : Variable). StandTyped (slot_types zero (x ∷ ls)) (frame_types (x ∷ ls)) slot frame z.ty (standing b slot frame)) (same_Some x l e) (here b (slot_types zero ls) (frame_types ls) slot frame x.ty))
stands-typed (suc k) slot frame (x ∷ ls) (suc n) l s e h =
    on-parameter (is_slot_local x) (slot_types k ls) (frame_types ls) slot frame l.ty x.ty s (stands-typed k (suc slot) (one_more_if (not (is_slot_local x)) frame) ls n l s e h)
stands-typed zero slot frame (x ∷ ls) (suc n) l s e h =
    on (is_slot_local x) (slot_types zero ls) (frame_types ls) slot frame l.ty x.ty s (stands-typed zero (one_more_if (is_slot_local x) slot) (one_more_if (not (is_slot_local x)) frame) ls n l s e h)

-- from the first on
pub at-first : (types : List Ty) (place : ℕ) (t : Ty) → Behind types 0 place t → slice_get types place ≡ Some t
at-first types place t h = ap (slice_get types) (let z : place ≡ h.further = omega (arith, h.is) in z) ∙ h.there

-- ---- how many there are

one-length : (b : Bool) (x : Ty) (xs : List Ty) (slot n : ℕ) → n ≡ one_more_if b slot + length xs → n ≡ slot + length (if b then x ∷ xs else xs)
one-length true x xs slot n h = omega (arith, h)
one-length false x xs slot n h = h

-- each slot that variables have has a type
pub slot-count : (parameters slot : ℕ) (ls : List Variable) → slots_behind parameters slot ls ≡ slot + length (slot_types parameters ls)
slot-count parameters slot [] = omega arith
slot-count (suc n) slot (l ∷ ls) = let h = slot-count n (suc slot) ls in omega (arith, h)
slot-count zero slot (l ∷ ls) = one-length (is_slot_local l) l.ty (slot_types zero ls) slot (slots_behind zero (one_more_if (is_slot_local l) slot) ls) (slot-count zero (one_more_if (is_slot_local l) slot) ls)

-- ---- parameters

-- each of these stands in turn, from a place on
abbrev pub EachAt : List Ty → ℕ → List Ty → Type 0
EachAt types n [] = Unit {0}
EachAt types n (t ∷ ts) = (slice_get types n ≡ Some t) × EachAt types (suc n) ts

each-on : (x : Ty) (xs : List Ty) (n : ℕ) (ts : List Ty) → EachAt xs n ts → EachAt (x ∷ xs) (suc n) ts
each-on x xs n [] h = tt
each-on x xs n (t ∷ ts) h = (h.0, each-on x xs (suc n) ts h.1)

-- their types come first
pub parameters-first : (ts : List Ty) (ls : List Variable) → take (length ts) (map (λ (v : Variable). v.ty) ls) ≡ ts → EachAt (slot_types (length ts) ls) 0 ts
parameters-first [] ls e = tt
parameters-first (t ∷ ts) [] e = absurd (cc)
parameters-first (t ∷ ts) (l ∷ ls) e =
    let head : l.ty ≡ t = cc in
    let tail : take (length ts) (map (λ (v : Variable). v.ty) ls) ≡ ts = cc in
    (ap (λ z. Some z) head, each-on l.ty (slot_types (length ts) ls) 0 ts (parameters-first ts ls tail))

pub parameters-taken : (ts : List Ty) (ls : List Variable) (more : List Ty) → take (length ts) (map (λ (v : Variable). v.ty) ls) ≡ ts → take (length ts) (slot_types (length ts) ls ++ more) ≡ ts
parameters-taken [] ls more e = refl
parameters-taken (t ∷ ts) [] more e = absurd (cc)
parameters-taken (t ∷ ts) (l ∷ ls) more e =
    let head : l.ty ≡ t = cc in
    let tail : take (length ts) (map (λ (v : Variable). v.ty) ls) ≡ ts = cc in
    λ i. head i ∷ parameters-taken ts ls more tail i
