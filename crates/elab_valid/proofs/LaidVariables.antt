-- Variables one behind the other, and where the locals of a function stand.
use Rattle.std.proofs.Common.{◌≡◌, ◌∙◌, ℕ, zero, suc, ◌+◌, ◌*◌, ◌<◌, ◌≤◌, Bool, true, false, not, List, [], ◌∷◌, ◌++◌, length, Option, Some, None, option_map, unwrap_or, Result, Ok, Err, is_ok, refl, ap, sym, subst, slice_get, arith, nat_le}
use Rattle.std.proofs.lemmas.Bool.{le-leb}
use Rattle.std.proofs.lemmas.Option.{same_Some}
use Rattle.std.specs.List.{AllByRecursion}
use Rattle.std.specs.Option.{ok_or}
use Rattle.std.specs.Prelude.{if◌then◌else◌}
use Rattle.c_types.specs.declared.error.LayoutRefusal.{LayoutRefusal}
use Rattle.c_types.specs.declared.error.LayoutRefusal.TheVariants.{Incomplete, TooLarge}
use Rattle.c_types.specs.declared.structs.StructDef.{StructDef}
use Rattle.c_types.specs.declared.ty.FnTy.{FnTy}
use Rattle.c_types.specs.declared.ty.Ty.{Ty, map-Ty, out-Ty, out-roll-Ty}
use Rattle.c_types.specs.declared.ty.Ty.TheOpen.{Ty-F}
use Rattle.c_types.specs.declared.ty.Ty.TheVariants as ty
use Rattle.c_types.specs.Sound.{names_below}
use Rattle.c_types.specs.Units.{exact_units, has_units, limited, most_units, sized_step, units_of}
use Rattle.c_typed.specs.declared.unit.Local.{Local as Variable}
use Rattle.core_ir.specs.declared.program.GlobalVar.{GlobalVar}
use Rattle.core_ir.specs.Layout.{GlobalsLie, LocalsLie}
use Rattle.elab_rows.specs.declared.scope.Standing.{Standing}
use Rattle.elab_rows.specs.declared.scope.Standing.TheVariants as stands
use Rattle.elab_rows.specs.Scope.{is_slot_local, one_more_if, slots_behind, standing, standings}
use Rattle.elab_rows.specs.Units.{units}
use Rattle.elab_pieces.specs.Functions.{frame_local, frame_locals}
use Rattle.elab_pieces.specs.Globals.{laid_out}
use Rattle.elab_valid.proofs.TypeKinds.{exact-out, fn_units, of_struct, out-Array}

-- ---- units

abbrev If : Bool → ℕ → Result ℕ LayoutRefusal
If b n = if b then Ok n else Err TooLarge

within : (b : Bool) (n : ℕ) → is_ok (If b n) ≡ true → If b n ≡ Ok n
within true n h = refl
within false n h = absurd (cc)

given-units : (o : Option ℕ) → is_ok (limited (ok_or o Incomplete)) ≡ true → limited (ok_or o Incomplete) ≡ Ok (unwrap_or o 0)
given-units None h = absurd (cc)
given-units (Some n) h = within (nat_le n most_units) n h

-- a type that has units has these
pub units-are : (defs : List StructDef) (t : Ty) → has_units defs t ≡ true → units_of defs t ≡ Ok (units defs t)
unfolding has_units units_of units
units-are defs t h = given-units (exact_units defs t) h

pub out-Char : out-Ty ty.Char ≡ Ty-F.Char
out-Char = ap out-Ty (sym ty.rolls-Char) ∙ out-roll-Ty Ty-F.Char

-- an array of `char` has its bound as units
pub array-units : (defs : List StructDef) (n : ℕ) → exact_units defs (ty.Array ty.Char n) ≡ Some (1 * n)
array-units defs n =
    exact-out defs (ty.Array ty.Char n) ∙ ap (λ y. sized_step (of_struct defs) (map-Ty Ty FnTy (Option ℕ) (Option ℕ) (exact_units defs) (fn_units defs) y)) (out-Array ty.Char n)
    ∙ ap (λ o. option_map (λ (m : ℕ). m * n) o) (exact-out defs ty.Char ∙ ap (λ y. sized_step (of_struct defs) (map-Ty Ty FnTy (Option ℕ) (Option ℕ) (exact_units defs) (fn_units defs) y)) out-Char)

few-by : (o : Option ℕ) (n : ℕ) → o ≡ Some n → unwrap_or o 0 ≤ most_units → is_ok (limited (ok_or o Incomplete)) ≡ true
few-by None n e h = absurd (cc)
few-by (Some m) n e h = ap (λ (b : Bool). is_ok (If b m)) (le-leb m most_units h)

-- units that are few are not refused
pub few-units : (defs : List StructDef) (t : Ty) (n : ℕ) → exact_units defs t ≡ Some n → units defs t ≤ most_units → has_units defs t ≡ true
unfolding has_units units_of units
few-units defs t n e h = few-by (exact_units defs t) n e h

-- ---- globals

-- each has units, and names structs of the table
abbrev pub AreLaid : List StructDef → List Ty → Type 0
AreLaid defs [] = Unit {0}
AreLaid defs (t ∷ ts) = ((has_units defs t ≡ true) × (names_below (length defs) t ≡ true)) × AreLaid defs ts

pub laid-append : (defs : List StructDef) (ts us : List Ty) → AreLaid defs ts → AreLaid defs us → AreLaid defs (ts ++ us)
laid-append defs [] us ht hu = hu
laid-append defs (t ∷ ts) us ht hu = (ht.0, laid-append defs ts us ht.1 hu)

pub globals-lie : (defs : List StructDef) (at : ℕ) (ts : List Ty) → AreLaid defs ts → GlobalsLie defs at (laid_out defs at ts)
globals-lie defs at [] h = tt
globals-lie defs at (t ∷ ts) h = (record { at = refl; laid_out = units-are defs t h.0.0; names = h.0.1 }, globals-lie defs (at + units defs t) ts h.1)

pub laid-length : (defs : List StructDef) (at : ℕ) (ts : List Ty) → length (laid_out defs at ts) ≡ length ts
laid-length defs at [] = refl
laid-length defs at (t ∷ ts) = ap suc (laid-length defs (at + units defs t) ts)

-- a global has its type
pub laid-type : (defs : List StructDef) (at : ℕ) (ts : List Ty) (n : ℕ) → option_map (λ (g : GlobalVar). g.ty) (slice_get (laid_out defs at ts) n) ≡ slice_get ts n
laid-type defs at [] n = refl
laid-type defs at (t ∷ ts) zero = refl
laid-type defs at (t ∷ ts) (suc n) = laid-type defs (at + units defs t) ts n

-- ---- frames

pub record LocalLaid (defs : List StructDef) (l : Variable) : Type 0 where
  pub units : has_units defs l.ty ≡ true
  pub named : names_below (length defs) l.ty ≡ true
  pub some : (n : ℕ) → exact_units defs l.ty ≡ Some n → 1 ≤ n

some-units : (o : Option ℕ) → is_ok (limited (ok_or o Incomplete)) ≡ true → ((n : ℕ) → o ≡ Some n → 1 ≤ n) → 1 ≤ unwrap_or o 0
some-units None h some = absurd (cc)
some-units (Some n) h some = some n refl

least-units : (defs : List StructDef) (l : Variable) → LocalLaid defs l → 1 ≤ units defs l.ty
unfolding has_units units_of units
least-units defs l h = some-units (exact_units defs l.ty) h.units h.some

frame-by : (defs : List StructDef) (at : ℕ) (v : Variable) (vs : List Variable) (b : Bool) → LocalLaid defs v → LocalsLie defs at (frame_locals defs at vs) → LocalsLie defs (at + units defs v.ty) (frame_locals defs (at + units defs v.ty) vs)
    → LocalsLie defs at (if b then frame_locals defs at vs else frame_local defs at v.ty ∷ frame_locals defs (at + units defs v.ty) vs)
frame-by defs at v vs true h same more = same
frame-by defs at v vs false h same more = (record { at = refl; laid_out = units-are defs v.ty h.units; names = h.named }, least-units defs v h, more)

pub locals-lie : (defs : List StructDef) (at : ℕ) (vs : List Variable) → AllByRecursion (LocalLaid defs) vs → LocalsLie defs at (frame_locals defs at vs)
locals-lie defs at [] h = tt
locals-lie defs at (v ∷ vs) h = frame-by defs at v vs (is_slot_local v) h.0 (locals-lie defs at vs h.1) (locals-lie defs (at + units defs v.ty) vs h.1)

-- ---- where locals stand

-- how many are frame locals
abbrev pub frame_count : List Variable → ℕ
frame_count [] = 0
frame_count (v ∷ vs) = one_more_if (not (is_slot_local v)) (frame_count vs)

count-by : (defs : List StructDef) (at : ℕ) (v : Variable) (vs : List Variable) (b : Bool) → ((at : ℕ) → length (frame_locals defs at vs) ≡ frame_count vs)
    → length (if b then frame_locals defs at vs else frame_local defs at v.ty ∷ frame_locals defs (at + units defs v.ty) vs) ≡ one_more_if (not b) (frame_count vs)
count-by defs at v vs true rest = rest at
count-by defs at v vs false rest = ap suc (rest (at + units defs v.ty))

pub frame-length : (defs : List StructDef) (vs : List Variable) (at : ℕ) → length (frame_locals defs at vs) ≡ frame_count vs
frame-length defs [] at = refl
frame-length defs (v ∷ vs) at = count-by defs at v vs (is_slot_local v) (frame-length defs vs)

-- in one of so many slots, or one of so many frame locals
abbrev pub StandsIn : ℕ → ℕ → Variable → Standing → Type 0
StandsIn slots frames l (stands.Slot s) = (s < slots) × (is_slot_local l ≡ true)
StandsIn slots frames l (stands.Frame v) = v < frames

more-slots : (a b c d : ℕ) (l : Variable) (s : Standing) → a ≤ c → b ≤ d → StandsIn a b l s → StandsIn c d l s
more-slots a b c d l (stands.Slot s) ac bd h = (omega (arith, h.0), h.1)
more-slots a b c d l (stands.Frame v) ac bd h = omega (arith, h)

grows-if : (b : Bool) (n : ℕ) → n ≤ one_more_if b n
grows-if true n = omega arith
grows-if false n = omega arith

pub slots-grow : (parameters slot : ℕ) (ls : List Variable) → slot ≤ slots_behind parameters slot ls
slots-grow parameters slot [] = omega arith
slots-grow (suc n) slot (l ∷ ls) = let h : suc slot ≤ slots_behind n (suc slot) ls = slots-grow n (suc slot) ls in omega arith
slots-grow zero slot (l ∷ ls) =
    let h : one_more_if (is_slot_local l) slot ≤ slots_behind zero (one_more_if (is_slot_local l) slot) ls = slots-grow zero (one_more_if (is_slot_local l) slot) ls in
    let g : slot ≤ one_more_if (is_slot_local l) slot = grows-if (is_slot_local l) slot in
    omega arith

-- parameters have slots
pub parameters-fit : (parameters slot : ℕ) (ls : List Variable) → parameters ≤ length ls → slot + parameters ≤ slots_behind parameters slot ls
parameters-fit zero slot ls h = let g : slot ≤ slots_behind zero slot ls = slots-grow zero slot ls in omega arith
parameters-fit (suc n) slot [] h = absurd (omega (arith, h))
parameters-fit (suc n) slot (l ∷ ls) h = let g : suc slot + n ≤ slots_behind n (suc slot) ls = parameters-fit n (suc slot) ls (omega (arith, h)) in omega arith

here-stands : (b : Bool) (l : Variable) (slot frame slots frames : ℕ) → is_slot_local l ≡ b → (b ≡ true → slot < slots) → (b ≡ false → frame < frames) → StandsIn slots frames l (standing b slot frame)
here-stands true l slot frame slots frames e hs hf = (hs refl, e)
here-stands false l slot frame slots frames e hs hf = hf refl

true-slot : (b : Bool) (slot n : ℕ) → b ≡ true → one_more_if b slot ≤ n → slot < n
true-slot true slot n e h = omega (arith, h)
true-slot false slot n e h = absurd (cc)

pub false-frame : (b : Bool) (frame n : ℕ) → b ≡ false → frame < frame + one_more_if (not b) n
false-frame true frame n e = absurd (cc)
false-frame false frame n e = omega arith

pub frames-shift : (b : Bool) (frame n : ℕ) → one_more_if (not b) frame + n ≤ frame + one_more_if (not b) n
frames-shift true frame n = omega arith
frames-shift false frame n = omega arith

-- each local stands
pub stands-at : (parameters slot frame : ℕ) (ls : List Variable) (n : ℕ) (l : Variable) → slice_get ls n ≡ Some l
    → (s : Standing) × (slice_get (standings parameters slot frame ls) n ≡ Some s) × StandsIn (slots_behind parameters slot ls) (frame + frame_count ls) l s
stands-at parameters slot frame [] n l e = absurd (cc)
stands-at (suc k) slot frame (x ∷ ls) zero l e =
    let is : x ≡ l = same_Some x l e in
    let g : suc slot ≤ slots_behind k (suc slot) ls = slots-grow k (suc slot) ls in (
      standing (is_slot_local x) slot frame,
      refl,
      subst (λ z. StandsIn (slots_behind k (suc slot) ls) (frame + one_more_if (not (is_slot_local x)) (frame_count ls)) z (standing (is_slot_local x) slot frame)) is
          (here-stands (is_slot_local x) x slot frame (slots_behind k (suc slot) ls) (frame + one_more_if (not (is_slot_local x)) (frame_count ls)) refl (λ z. omega (arith, g)) (λ z. false-frame (is_slot_local x) frame (frame_count ls) z)),
    )
stands-at zero slot frame (x ∷ ls) zero l e =
    let is : x ≡ l = same_Some x l e in
    let behind = slots_behind zero (one_more_if (is_slot_local x) slot) ls in
    let g : one_more_if (is_slot_local x) slot ≤ behind = slots-grow zero (one_more_if (is_slot_local x) slot) ls in (
      standing (is_slot_local x) slot frame,
      refl,
      subst (λ z. StandsIn behind (frame + one_more_if (not (is_slot_local x)) (frame_count ls)) z (standing (is_slot_local x) slot frame)) is
          (here-stands (is_slot_local x) x slot frame behind (frame + one_more_if (not (is_slot_local x)) (frame_count ls)) refl (λ z. true-slot (is_slot_local x) slot behind z g) (λ z. false-frame (is_slot_local x) frame (frame_count ls) z)),
    )
stands-at (suc k) slot frame (x ∷ ls) (suc n) l e =
    let b = is_slot_local x in
    let h = stands-at k (suc slot) (one_more_if (not b) frame) ls n l e in
    (h.0, h.1, more-slots (slots_behind k (suc slot) ls) (one_more_if (not b) frame + frame_count ls) (slots_behind k (suc slot) ls) (frame + one_more_if (not b) (frame_count ls)) l h.0 (omega arith) (frames-shift b frame (frame_count ls)) h.2)
stands-at zero slot frame (x ∷ ls) (suc n) l e =
    let b = is_slot_local x in
    let behind = slots_behind zero (one_more_if b slot) ls in
    let h = stands-at zero (one_more_if b slot) (one_more_if (not b) frame) ls n l e in
    (h.0, h.1, more-slots behind (one_more_if (not b) frame + frame_count ls) behind (frame + one_more_if (not b) (frame_count ls)) l h.0 (omega arith) (frames-shift b frame (frame_count ls)) h.2)
