-- Values that fit a store of so many slots, and that frames keep them.
use Rattle.std.proofs.Common.{◌≡◌, ◌⊎◌, ℕ, ℤ, zero, suc, pos, negsuc, ◌+◌, ◌*◌, ◌%◌, ◌≤◌, ◌<◌, ◌^◌, Bool, true, false, ◌&&◌, if◌then◌else◌, nat_eq, List, [], ◌∷◌, ◌++◌, length, map, take, replicate, slice_get, slice_set, slice_index_or, Option, Some, None, refl, sym, ap, ◌∙◌, subst, arith}
use Rattle.meaning.specs.declared.value.Entry.{Entry}
use Rattle.meaning.specs.declared.value.Entry.TheVariants as entry
use Rattle.meaning.specs.declared.value.Value.{Value}
use Rattle.meaning.specs.declared.value.Value.TheVariants.{Bare, Based, Code}
use Rattle.c_types.specs.declared.ty.FnTy.{out-FnTy}
use Rattle.machine.specs.declared.code.Code.{Code as WholeCode}
use Rattle.machine.specs.declared.code.CodeFunction.{CodeFunction}
use Rattle.machine.specs.declared.code.ScalarKind.{ScalarKind}
use Rattle.machine.specs.Frames.{Frame, Write, Nothing, ToRegister, ToSlot, ToUnit, ToObject}
use Rattle.machine.specs.Lanes.{EntryFits, FoundFits}
use Rattle.machine.specs.Numbers.{is_kept, low_word, truncated}
use Rattle.machine.specs.Protected.{protected}
use Rattle.machine.specs.Shapes.{blank, register}
use Rattle.machine.specs.Threads.{argument_slots, opened, opened_in, result_write, written}
use Rattle.machine.specs.Values.{address_of, cast_value, code_number, entry_of, loaded_entry, loaded_value, moved_number, moved_value, number_of, object_address, value_of}

-- a value that a store with so many slots could give and take
abbrev pub ValueFits : ℕ → Value → Type 0
ValueFits slots (Bare n) = Unit {0}
ValueFits slots (Based value lower upper id) = (value < 2 ^ 32) × (upper ≤ 64 * slots) × (2 ≤ id) × (id < slots)
ValueFits slots (Code f) = f < 4096

low_word_low : (n : ℤ) → low_word n < 2 ^ 32
low_word_low (pos n) = omega arith
low_word_low (negsuc n) = omega arith

pub entry_fits : (slots : ℕ) (v : Value) → ValueFits slots v → EntryFits slots (entry_of v)
entry_fits slots (Bare n) fits = low_word_low n
entry_fits slots (Based value lower upper id) fits = fits
entry_fits slots (Code f) fits = fits

pub value_fits : (slots : ℕ) (e : Entry) → EntryFits slots e → ValueFits slots (value_of e)
value_fits slots (entry.Bare n) fits = tt
value_fits slots (entry.Based value lower upper id) fits = fits
value_fits slots (entry.Code f) fits = fits

pub loaded_fits : (slots : ℕ) (e : Option Entry) → FoundFits slots e → ValueFits slots (loaded_entry e)
loaded_fits slots None fits = tt
loaded_fits slots (Some e) fits = value_fits slots e fits

-- ---- the rules of values

pub object_fits :
    (slots first units id : ℕ) (kept : Bool)
    → first + units ≤ 64 * slots
    → slots ≤ 1048576
    → 2 ≤ id
    → id < slots
    → ValueFits slots (object_address first units id kept)
object_fits slots first units id false within few from to = tt
object_fits slots first units id true within few from to = (omega arith, within, from, to)

moved_low : (n : ℤ) (k : ℕ) → moved_number n k < 2 ^ 32
moved_low n k = omega arith

moved_code_fits : (slots f k : ℕ) (same : Bool) → f < 4096
    → ValueFits slots (if same then Code f else Bare (pos (moved_number (pos (code_number f)) k)))
moved_code_fits slots f k true low = low
moved_code_fits slots f k false low = tt

pub moved_fits : (slots : ℕ) (v : Value) (k : ℕ) → ValueFits slots v → ValueFits slots (moved_value v k)
moved_fits slots (Bare n) k fits = tt
moved_fits slots (Based value lower upper id) k fits = (moved_low (pos value) k, fits.1, fits.2, fits.3)
moved_fits slots (Code f) k fits = moved_code_fits slots f k (nat_eq (moved_number (pos (code_number f)) k) (code_number f)) fits

kept_fits : (slots : ℕ) (kept : Bool) (v : Value) (n : ℤ) → ValueFits slots v → ValueFits slots (if kept then v else Bare n)
kept_fits slots true v n fits = fits
kept_fits slots false v n fits = tt

pub cast_fits : (slots : ℕ) (from to : ScalarKind) (v : Value) → ValueFits slots v → ValueFits slots (cast_value from to v)
cast_fits slots from to v fits = kept_fits slots (is_kept from && is_kept to) v (truncated to (number_of v)) fits

pub unit_load_fits : (slots : ℕ) (k : ScalarKind) (v : Value) → ValueFits slots v → ValueFits slots (loaded_value k v)
unit_load_fits slots k v fits = kept_fits slots (is_kept k) v (truncated k (number_of v)) fits

-- ---- lists

abbrev pub Each : {A : Type 0} → (A → Type 0) → List A → Type 0
Each P [] = Unit {0}
Each P (x ∷ xs) = P x × Each P xs

module _ {A : Type 0} (P : A → Type 0) where
  pub all_set : (xs : List A) (i : ℕ) (x : A) → Each P xs → P x → Each P (slice_set xs i x)
  all_set [] i x all here = tt
  all_set (y ∷ ys) zero x all here = (here, all.1)
  all_set (y ∷ ys) (suc i) x all here = (all.0, all_set ys i x all.1 here)

  pub all_read : (xs : List A) (i : ℕ) (d : A) → Each P xs → P d → P (slice_index_or xs i d)
  all_read [] i d all default = default
  all_read (y ∷ ys) zero d all default = all.0
  all_read (y ∷ ys) (suc i) d all default = all_read ys i d all.1 default

  pub all_replicate : (n : ℕ) (x : A) → P x → Each P (replicate n x)
  all_replicate zero x here = tt
  all_replicate (suc n) x here = (here, all_replicate n x here)

  pub all_append : (xs ys : List A) → Each P xs → Each P ys → Each P (xs ++ ys)
  all_append [] ys left right = right
  all_append (x ∷ xs) ys left right = (left.0, all_append xs ys left.1 right)

  pub all_take : (n : ℕ) (xs : List A) → Each P xs → Each P (take n xs)
  all_take zero xs all = tt
  all_take (suc n) [] all = tt
  all_take (suc n) (x ∷ xs) all = (all.0, all_take n xs all.1)

-- ---- frames

pub record FrameFits (slots : ℕ) (f : Frame Value) : Type 0 where
  pub registers : Each (ValueFits slots) f.registers
  pub slots_fit : Each (ValueFits slots) f.slots
  pub units : Each (ValueFits slots) f.units

pub register_fits : (slots : ℕ) (f : Frame Value) (r : ℕ) → FrameFits slots f → ValueFits slots (register protected f r)
register_fits slots f r fits = all_read (ValueFits slots) f.registers r (Bare (pos 0)) fits.registers tt

pub arguments_fit : (slots : ℕ) (f : Frame Value) (rs : List ℕ) → FrameFits slots f → Each (ValueFits slots) (map (register protected f) rs)
arguments_fit slots f [] fits = tt
arguments_fit slots f (r ∷ rs) fits = (register_fits slots f r fits, arguments_fit slots f rs fits)

-- what is written fits; an object has so many slots
abbrev pub WriteHas : ℕ → ℕ → Write Value → Type 0
WriteHas slots k (ToRegister d v) = ValueFits slots v
WriteHas slots k (ToSlot s v) = ValueFits slots v
WriteHas slots k (ToUnit unit at v) = ValueFits slots v
WriteHas slots k (ToObject id) = (1026 ≤ id) × (id + k ≤ slots)
WriteHas slots k Nothing = Unit {0}

pub written_fits : (slots k : ℕ) (w : Write Value) (f : Frame Value) → WriteHas slots k w → FrameFits slots f → FrameFits slots (written protected w f)
written_fits slots k Nothing f here fits = fits
written_fits slots k (ToRegister d v) f here fits = record {
  registers = all_set (ValueFits slots) f.registers d v fits.registers here;
  slots_fit = fits.slots_fit;
  units = fits.units;
}
written_fits slots k (ToSlot s v) f here fits = record {
  registers = fits.registers;
  slots_fit = all_set (ValueFits slots) f.slots s v fits.slots_fit here;
  units = fits.units;
}
written_fits slots k (ToUnit unit at v) f here fits = record {
  registers = fits.registers;
  slots_fit = fits.slots_fit;
  units = all_set (ValueFits slots) f.units unit v fits.units here;
}
written_fits slots k (ToObject id) f here fits = record {
  registers = fits.registers;
  slots_fit = fits.slots_fit;
  units = fits.units;
}

pub placed_fits : (slots : ℕ) (f : Frame Value) (to : ℕ) → FrameFits slots f → FrameFits slots (record f { place = to })
placed_fits slots f to fits = record { registers = fits.registers; slots_fit = fits.slots_fit; units = fits.units }

pub result_has : (slots k : ℕ) (s : Option ℕ) (v : Value) → ValueFits slots v → WriteHas slots k (result_write protected s v)
result_has slots k None v fits = tt
result_has slots k (Some s) v fits = fits

opened_fits_by : (slots : ℕ) (o : Option CodeFunction) (f : ℕ) (arguments : List Value)
    → Each (ValueFits slots) arguments
    → FrameFits slots (opened_in protected o f arguments)
opened_fits_by slots None f arguments fit = record { registers = tt; slots_fit = tt; units = tt }
opened_fits_by slots (Some c) f arguments fit =
    let P = ValueFits slots in
    let given = take (length (out-FnTy c.ty).params) arguments in
    record {
      registers = all_replicate P c.registers (blank protected) tt;
      slots_fit = all_take P c.slots (given ++ replicate c.slots (blank protected))
          (all_append P given (replicate c.slots (blank protected))
          (all_take P (length (out-FnTy c.ty).params) arguments fit)
          (all_replicate P c.slots (blank protected) tt));
      units = all_replicate P c.safe_units (blank protected) tt;
    }

pub opened_fits : (slots : ℕ) (code : WholeCode) (f : ℕ) (arguments : List Value)
    → Each (ValueFits slots) arguments
    → FrameFits slots (opened protected code f arguments)
opened_fits slots code f arguments fit = opened_fits_by slots (slice_get code.functions f) f arguments fit
