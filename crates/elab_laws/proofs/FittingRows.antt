-- What is asked of each instruction alone, row by row.
use Rattle.std.proofs.Common.{ℕ, ◌+◌, ◌≤◌, Bool, true, false, List, [], ◌∷◌, ◌++◌, length, arith}
use Rattle.std.specs.Prelude.{if◌then◌else◌}
use Rattle.c_types.specs.declared.ty.Ty.{Ty}
use Rattle.c_types.specs.declared.ty.Ty.TheVariants as ty
use Rattle.c_types.specs.Same.{same}
use Rattle.core_ir.specs.declared.instr.Instr.{Instr}
use Rattle.core_ir.specs.declared.instr.Instr.TheVariants.{Cast, Load, PtrConst, Store, Touch}
use Rattle.core_ir.specs.Typed.{element_of}
use Rattle.elab_rows.specs.Addresses.{Lvalue, assigned, copied_parts, loaded, pointing, struct_assigned, updated, with_old_value}
use Rattle.elab_rows.specs.Made.{Code, behind, beyond, combined, converted, extended, followed, nothing, single}
use Rattle.elab_laws.specs.Fitting.{EachIs, IsFit, IsFitting, PartsFit}

pub each_append : (P : Instr → Type 0) (c d : List Instr) → EachIs P c → EachIs P d → EachIs P (c ++ d)
each_append P [] d hc hd = hd
each_append P (i ∷ c) d hc hd = (hc.0, each_append P c d hc.1 hd)

module _ (P : Instr → Type 0) (slots : ℕ) where
  abbrev Fits : List Instr → Type 0
  Fits c = EachIs (IsFit P slots) c

  abbrev Good : Code → Type 0
  Good c = IsFitting P slots c

  then_fits : (c d : List Instr) → Fits c → Fits d → Fits (c ++ d)
  then_fits c d hc hd = each_append (IsFit P slots) c d hc hd

  pub nothing_fits : Good nothing
  nothing_fits = record { grows = λ place register first. omega arith; fits = λ place register first le. tt }

  pub single_fits : (i : ℕ → Instr) → ((d : ℕ) → IsFit P slots (i d)) → Good (single i)
  single_fits i h = record { grows = λ place register first. omega arith; fits = λ place register first le. (h register, tt) }

  pub extended_fits : (i : ℕ → ℕ → Instr) (a : Code) → ((d x : ℕ) → IsFit P slots (i d x)) → Good a → Good (extended i a)
  extended_fits i a h ha = record {
    grows = ha.grows;
    fits = λ place register first le. let x = a place register first in then_fits x.code (i x.register x.result ∷ []) (ha.fits place register first le) (h x.register x.result, tt);
  }

  pub followed_fits : (i : ℕ → Instr) (a : Code) → ((x : ℕ) → IsFit P slots (i x)) → Good a → Good (followed i a)
  followed_fits i a h ha = record {
    grows = ha.grows;
    fits = λ place register first le. let x = a place register first in then_fits x.code (i x.result ∷ []) (ha.fits place register first le) (h x.result, tt);
  }

  -- a code and one behind it, which begins with the first's slots
  module _ (a b : Code) (ha : Good a) (hb : Good b) (place register first n : ℕ) where
    grows_both : first ≤ (beyond n place (a place register first) b).slot
    grows_both =
        let x = a place register first in
        let e : first ≤ x.slot = ha.grows place register first in
        let g : x.slot ≤ (b (place + length x.code + n) x.register x.slot).slot = hb.grows (place + length x.code + n) x.register x.slot in
        omega arith

    fits_first : (beyond n place (a place register first) b).slot ≤ slots → Fits (a place register first).code
    fits_first le =
        let x = a place register first in
        let g : x.slot ≤ (b (place + length x.code + n) x.register x.slot).slot = hb.grows (place + length x.code + n) x.register x.slot in
        ha.fits place register first (omega arith)

    fits_second : (beyond n place (a place register first) b).slot ≤ slots → Fits (beyond n place (a place register first) b).code
    fits_second le = let x = a place register first in hb.fits (place + length x.code + n) x.register x.slot le

  behind_grows : (a b : Code) → Good a → Good b → (place register first : ℕ) → first ≤ (behind place (a place register first) b).slot
  behind_grows a b ha hb place register first =
      let x = a place register first in
      let e : first ≤ x.slot = ha.grows place register first in
      let g : x.slot ≤ (behind place x b).slot = hb.grows (place + length x.code) x.register x.slot in
      omega arith

  behind_fits : (a b : Code) → Good a → Good b → (place register first : ℕ) → (behind place (a place register first) b).slot ≤ slots → Fits ((a place register first).code ++ (behind place (a place register first) b).code)
  behind_fits a b ha hb place register first le =
      let x = a place register first in
      let y = behind place x b in
      let g : x.slot ≤ y.slot = hb.grows (place + length x.code) x.register x.slot in
      then_fits x.code y.code (ha.fits place register first (omega arith)) (hb.fits (place + length x.code) x.register x.slot le)

  pub combined_fits : (i : ℕ → ℕ → ℕ → Instr) (a b : Code) → ((d x y : ℕ) → IsFit P slots (i d x y)) → Good a → Good b → Good (combined i a b)
  combined_fits i a b h ha hb = record {
    grows = behind_grows a b ha hb;
    fits = λ place register first le.
        let x = a place register first in
        let y = behind place x b in
        then_fits (x.code ++ y.code) (i y.register x.result y.result ∷ []) (behind_fits a b ha hb place register first le) (h y.register x.result y.result, tt);
  }

  pub either_fits : (t : Bool) (a b : Code) → Good a → Good b → Good (if t then a else b)
  either_fits true a b ha hb = ha
  either_fits false a b ha hb = hb

  pub converted_fits : (from to : Ty) (a : Code) → ((d x : ℕ) → IsFit P slots (Cast d x from to)) → Good a → Good (converted from to a)
  converted_fits from to a h ha = either_fits (same from to) a (extended (λ d x. Cast d x from to) a) ha (extended_fits (λ d x. Cast d x from to) a h ha)

  -- ---- addresses

  pub loaded_fits : (x : Lvalue) → ((p : ℕ) → IsFit P slots (Touch p x.root)) → ((d p : ℕ) → IsFit P slots (Load d p x.ty)) → Good x.address → Good (loaded x)
  loaded_fits x touch load ha = extended_fits (λ d p. Load d p x.ty) (followed (λ p. Touch p x.root) x.address) load (followed_fits (λ p. Touch p x.root) x.address touch ha)

  pub pointing_fits : (root target : Ty) (a : Code) → ((d p : ℕ) → IsFit P slots (Cast d p (ty.Pointer root) (ty.Pointer target))) → Good a → Good (pointing root target a)
  pointing_fits root target a h ha =
      either_fits (same (element_of root) (element_of target)) a (extended (λ d p. Cast d p (ty.Pointer root) (ty.Pointer target)) a) ha
      (extended_fits (λ d p. Cast d p (ty.Pointer root) (ty.Pointer target)) a h ha)

  pub assigned_fits : (x : Lvalue) (v : Code) → ((p : ℕ) → IsFit P slots (Touch p x.root)) → ((p r : ℕ) → IsFit P slots (Store p r x.ty)) → Good v → Good x.address → Good (assigned x v)
  assigned_fits x v touch store hv ha = record {
    grows = behind_grows v x.address hv ha;
    fits = λ place register first le.
        let y = v place register first in
        let z = behind place y x.address in
        then_fits (y.code ++ z.code) (Touch z.result x.root ∷ Store z.result y.result x.ty ∷ []) (behind_fits v x.address hv ha place register first le) (touch z.result, (store z.result y.result, tt));
  }

  pub updated_fits : (x : Lvalue) (new : Code → Code) → ((p : ℕ) → IsFit P slots (Touch p x.root)) → ((p r : ℕ) → IsFit P slots (Store p r x.ty)) → Good (new (loaded x)) → Good (updated x new)
  updated_fits x new touch store h = record {
    grows = h.grows;
    fits = λ place register first le.
        let p = (x.address place register first).result in
        let y = new (loaded x) place register first in
        then_fits y.code (Touch p x.root ∷ Store p y.result x.ty ∷ []) (h.fits place register first le) (touch p, (store p y.result, tt));
  }

  pub old_fits : (old a : Code) → Good a → Good (with_old_value old a)
  old_fits old a ha = record { grows = ha.grows; fits = ha.fits }

  copied_fits : (from to : Ty) (p q d k : ℕ) (ts : List Ty) → ((d p k : ℕ) → IsFit P slots (PtrConst d p k)) → PartsFit P from to ts → Fits (copied_parts from to p q d k ts)
  copied_fits from to p q d k [] shift h = tt
  copied_fits from to p q d k (t ∷ ts) shift h =
      let f = h.0 in
      (shift d p k, ((f.touch_from d, tt), ((f.load (d + 1) d, tt), (shift (d + 2) q k, ((f.touch_to (d + 2), tt), ((f.store (d + 2) (d + 1), tt), copied_fits from to p q (d + 3) (k + 1) ts shift h.1))))))

  pub struct_fits : (parts : List Ty) (to from : Lvalue) → ((d p k : ℕ) → IsFit P slots (PtrConst d p k)) → PartsFit P from.root to.root parts → Good from.address → Good to.address → Good (struct_assigned parts to from)
  struct_fits parts to from shift h hf ht = record {
    grows = behind_grows from.address to.address hf ht;
    fits = λ place register first le.
        let x = from.address place register first in
        let y = behind place x to.address in
        then_fits (x.code ++ y.code) (copied_parts from.root to.root x.result y.result y.register 0 parts) (behind_fits from.address to.address hf ht place register first le)
        (copied_fits from.root to.root x.result y.result y.register 0 parts shift h);
  }
