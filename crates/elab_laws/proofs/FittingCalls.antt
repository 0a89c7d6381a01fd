-- What is asked of each instruction alone, in the rows that branch and in calls.
use Rattle.std.proofs.Common.{◌≡◌, ℕ, ℤ, pos, suc, ◌+◌, ◌<◌, ◌≤◌, Bool, true, false, List, [], ◌∷◌, ◌++◌, length, Option, Some, None, refl, ap, arith}
use Rattle.std.specs.Prelude.{if◌then◌else◌}
use Rattle.c_types.specs.declared.ty.FnTy.{FnTy}
use Rattle.c_types.specs.declared.ty.Ty.TheVariants as ty
use Rattle.c_typed.specs.declared.entity.BuiltIn.{BuiltIn}
use Rattle.c_typed.specs.declared.entity.BuiltIn.TheVariants as built_in
use Rattle.core_ir.specs.declared.instr.Instr.{Instr}
use Rattle.core_ir.specs.declared.instr.Instr.TheVariants.{Branch, Call, CallInd, Const, Fork, Free, GetLocal, Input, Join, Jump, Lock, Malloc, Print, SetLocal, StartArg, StartFn, Touch, Unlock}
use Rattle.elab_rows.specs.Calls.{Listed, arguments, built_in_code, built_in_made, call_code, first_of, has_place, indirect_code, kept, placed, second_of}
use Rattle.elab_rows.specs.Choices.{and_code, arms, conditional_code, kept_in, or_code, or_lines, second_arm, sets, tested, truth_lines}
use Rattle.elab_rows.specs.Made.{Code, Made, beyond}
use Rattle.elab_laws.proofs.FittingRows.{each_append}
use Rattle.elab_laws.specs.Fitting.{AreFitting, EachIs, IsFit, IsFitting, IsUnasked}

module _ (P : Instr → Type 0) (slots : ℕ) (unasked : (i : Instr) → IsUnasked i → P i) where
  abbrev Fits : List Instr → Type 0
  Fits c = EachIs (IsFit P slots) c

  joined_fits : (c d : List Instr) → Fits c → Fits d → Fits (c ++ d)
  joined_fits c d hc hd = each_append (IsFit P slots) c d hc hd

  -- ---- rows that branch

  tested_fits : (x : Made) (l : ℕ) → Fits x.code → Fits (tested x l)
  tested_fits x l h = joined_fits x.code (Branch x.result l ∷ []) h ((unasked (Branch x.result l) tt, tt), tt)

  jump_fits : (l : ℕ) → Fits (Jump l ∷ [])
  jump_fits l = ((unasked (Jump l) tt, tt), tt)

  kept_in_fits : (x : Made) (s : ℕ) → s < slots → Fits x.code → Fits (kept_in x s)
  kept_in_fits x s low h = joined_fits x.code (SetLocal s x.result ∷ []) h ((unasked (SetLocal s x.result) tt, low), tt)

  get_fits : (d s : ℕ) → s < slots → Fits (GetLocal d s ∷ [])
  get_fits d s low = ((unasked (GetLocal d s) tt, low), tt)

  sets_fits : (d s : ℕ) (v : ℤ) → s < slots → Fits (sets d v s)
  sets_fits d s v low = ((unasked (Const d v) tt, tt), ((unasked (SetLocal s d) tt, low), tt))

  truth_fits : (d s f : ℕ) → s < slots → Fits (truth_lines d s f)
  truth_fits d s f low =
      joined_fits (sets d (pos 1) s ++ Jump (f + 2) ∷ [] ++ sets (d + 1) (pos 0) s) (GetLocal (d + 2) s ∷ [])
      (joined_fits (sets d (pos 1) s ++ Jump (f + 2) ∷ []) (sets (d + 1) (pos 0) s) (joined_fits (sets d (pos 1) s) (Jump (f + 2) ∷ []) (sets_fits d s (pos 1) low) (jump_fits (f + 2))) (sets_fits (d + 1) s (pos 0) low))
      (get_fits (d + 2) s low)

  pub and_fits : (a b : Code) → IsFitting P slots a → IsFitting P slots b → IsFitting P slots (and_code a b)
  and_fits a b ha hb = record {
    grows = λ place register first.
        let x = a place register first in
        let y = beyond 1 place x b in
        let e : first ≤ x.slot = ha.grows place register first in
        let g : x.slot ≤ y.slot = hb.grows (place + length x.code + 1) x.register x.slot in
        omega arith;
    fits = λ place register first le.
        let x = a place register first in
        let y = beyond 1 place x b in
        let f = place + length x.code + 1 + length y.code + 4 in
        let g : x.slot ≤ y.slot = hb.grows (place + length x.code + 1) x.register x.slot in
        joined_fits (tested x f ++ tested y f) (truth_lines y.register y.slot f)
        (joined_fits (tested x f) (tested y f) (tested_fits x f (ha.fits place register first (omega arith))) (tested_fits y f (hb.fits (place + length x.code + 1) x.register x.slot (omega arith))))
        (truth_fits y.register y.slot f (omega arith));
  }

  pub or_fits : (a b : Code) → IsFitting P slots a → IsFitting P slots b → IsFitting P slots (or_code a b)
  or_fits a b ha hb = record {
    grows = λ place register first.
        let x = a place register first in
        let y = beyond 2 place x b in
        let e : first ≤ x.slot = ha.grows place register first in
        let g : x.slot ≤ y.slot = hb.grows (place + length x.code + 2) x.register x.slot in
        omega arith;
    fits = λ place register first le.
        let x = a place register first in
        let y = beyond 2 place x b in
        let m = place + length x.code + 2 in
        let t = m + length y.code + 1 in
        let g : x.slot ≤ y.slot = hb.grows (place + length x.code + 2) x.register x.slot in
        joined_fits (or_lines x y m t) (truth_lines y.register y.slot (t + 3))
        (joined_fits (tested x m ++ Jump t ∷ []) (tested y (t + 3)) (joined_fits (tested x m) (Jump t ∷ []) (tested_fits x m (ha.fits place register first (omega arith))) (jump_fits t))
        (tested_fits y (t + 3) (hb.fits (place + length x.code + 2) x.register x.slot (omega arith))))
        (truth_fits y.register y.slot (t + 3) (omega arith));
  }

  pub conditional_fits : (c a b : Code) → IsFitting P slots c → IsFitting P slots a → IsFitting P slots b → IsFitting P slots (conditional_code c a b)
  conditional_fits c a b hc ha hb = record {
    grows = λ place register first.
        let t = c place register first in
        let x = beyond 1 place t a in
        let p = place + length t.code + 1 in
        let e : first ≤ t.slot = hc.grows place register first in
        let g : t.slot ≤ x.slot = ha.grows p t.register t.slot in
        let h : x.slot + 1 ≤ (second_arm p x b).slot = hb.grows (p + length x.code + 2) x.register (x.slot + 1) in
        omega arith;
    fits = λ place register first le.
        let t = c place register first in
        let x = beyond 1 place t a in
        let p = place + length t.code + 1 in
        let y = second_arm p x b in
        let f = p + length x.code + 2 in
        let e = f + length y.code + 1 in
        let s = x.slot in
        let g : t.slot ≤ x.slot = ha.grows p t.register t.slot in
        let h : x.slot + 1 ≤ y.slot = hb.grows (p + length x.code + 2) x.register (x.slot + 1) in
        let low : s < slots = omega arith in
        joined_fits (tested t f) (arms x y e) (tested_fits t f (hc.fits place register first (omega arith)))
        (joined_fits (kept_in x s ++ Jump e ∷ [] ++ kept_in y s) (GetLocal y.register s ∷ [])
        (joined_fits (kept_in x s ++ Jump e ∷ []) (kept_in y s) (joined_fits (kept_in x s) (Jump e ∷ []) (kept_in_fits x s low (ha.fits p t.register t.slot (omega arith))) (jump_fits e))
        (kept_in_fits y s low (hb.fits (p + length x.code + 2) x.register (x.slot + 1) le)))
        (get_fits y.register s low));
  }

  -- ---- arguments

  -- what is said of several values
  pub record IsListed (l : Listed) (first count : ℕ) : Type 0 where
    pub grows : first ≤ l.slot
    pub counted : length l.results ≡ count
    pub fits : l.slot ≤ slots → Fits l.code

  pub arguments_fit : (cs : List Code) (place register first : ℕ) → AreFitting P slots cs → IsListed (arguments cs place register first) first (length cs)
  arguments_fit [] place register first h = record { grows = omega arith; counted = refl; fits = λ le. tt }
  arguments_fit (c ∷ cs) place register first h =
      let x = c place register first in
      let l = arguments cs (place + length x.code) x.register x.slot in
      let rest = arguments_fit cs (place + length x.code) x.register x.slot h.1 in
      let e : first ≤ x.slot = h.0.grows place register first in
      let g : x.slot ≤ l.slot = rest.grows in
      record {
        grows = omega arith;
        counted = ap suc rest.counted;
        fits = λ le. joined_fits x.code l.code (h.0.fits place register first (omega arith)) (rest.fits le);
      }

  -- ---- calls

  pub call_fits : (f : ℕ) (cs : List Code) → ((args : List ℕ) (s : Option ℕ) → length args ≡ length cs → P (Call f args s)) → AreFitting P slots cs → IsFitting P slots (call_code f true cs)
  call_fits f cs can h = record {
    grows = λ place register first. let l = arguments_fit cs place register first h in let e : first ≤ (arguments cs place register first).slot = l.grows in omega arith;
    fits = λ place register first le.
        let l = arguments cs place register first in
        let is = arguments_fit cs place register first h in
        joined_fits l.code (Call f l.results (Some l.slot) ∷ GetLocal l.register l.slot ∷ []) (is.fits (omega arith))
        ((can l.results (Some l.slot) is.counted, (let low : l.slot < slots = omega arith in low)), get_fits l.register l.slot (omega arith));
  }

  pub void_call_fits : (f : ℕ) (cs : List Code) → ((args : List ℕ) (s : Option ℕ) → length args ≡ length cs → P (Call f args s)) → AreFitting P slots cs → IsFitting P slots (call_code f false cs)
  void_call_fits f cs can h = record {
    grows = λ place register first. (arguments_fit cs place register first h).grows;
    fits = λ place register first le.
        let l = arguments cs place register first in
        let is = arguments_fit cs place register first h in
        joined_fits l.code (Call f l.results None ∷ []) (is.fits le) ((can l.results None is.counted, tt), tt);
  }

  -- a callee, and what keeps it
  pub record IsCallee (x y : Made) : Type 0 where
    pub grows : x.slot ≤ y.slot
    pub fits : y.slot ≤ slots → Fits x.code → Fits y.code

  kept_callee : (x : Made) → IsCallee x (kept x)
  kept_callee x = record {
    grows = omega arith;
    fits = λ le h. joined_fits x.code (SetLocal x.slot x.result ∷ GetLocal x.register x.slot ∷ []) h ((unasked (SetLocal x.slot x.result) tt, (let low : x.slot < slots = omega arith in low)), get_fits x.register x.slot (omega arith));
  }

  either_callee : (t : Bool) (x : Made) → IsCallee x (if t then x else kept x)
  either_callee true x = record { grows = omega arith; fits = λ le h. h }
  either_callee false x = kept_callee x

  placed_callee : (x : Made) → IsCallee x (placed x)
  placed_callee x = either_callee (has_place x.code x.result) x

  module _ (t : FnTy) (c : Code) (cs : List Code) (can : (r : ℕ) (args : List ℕ) (s : Option ℕ) → length args ≡ length cs → P (CallInd r args t s)) (hc : IsFitting P slots c) (h : AreFitting P slots cs) (place register first : ℕ) where
    abbrev listed : Listed
    listed = arguments cs place register first

    abbrev callee : Made
    callee = c (place + length listed.code) listed.register listed.slot

    callee_grows : first ≤ (placed callee).slot
    callee_grows =
        let e : first ≤ listed.slot = (arguments_fit cs place register first h).grows in
        let g : listed.slot ≤ callee.slot = hc.grows (place + length listed.code) listed.register listed.slot in
        let k : callee.slot ≤ (placed callee).slot = (placed_callee callee).grows in
        omega arith

    callee_fits : (placed callee).slot ≤ slots → Fits (listed.code ++ (placed callee).code)
    callee_fits le =
        let is = arguments_fit cs place register first h in
        let g : listed.slot ≤ callee.slot = hc.grows (place + length listed.code) listed.register listed.slot in
        let k : callee.slot ≤ (placed callee).slot = (placed_callee callee).grows in
        joined_fits listed.code (placed callee).code (is.fits (omega arith)) ((placed_callee callee).fits le (hc.fits (place + length listed.code) listed.register listed.slot (omega arith)))

  pub indirect_fits : (t : FnTy) (c : Code) (cs : List Code) → ((r : ℕ) (args : List ℕ) (s : Option ℕ) → length args ≡ length cs → P (CallInd r args t s)) → IsFitting P slots c → AreFitting P slots cs → IsFitting P slots (indirect_code t true c cs)
  indirect_fits t c cs can hc h = record {
    grows = λ place register first. let e = callee_grows t c cs can hc h place register first in omega (arith, e);
    fits = λ place register first le.
        let l = listed t c cs can hc h place register first in
        let x = placed (callee t c cs can hc h place register first) in
        let n = (arguments_fit cs place register first h).counted in
        joined_fits (l.code ++ x.code) (CallInd x.result l.results t (Some x.slot) ∷ GetLocal x.register x.slot ∷ []) (callee_fits t c cs can hc h place register first (omega arith))
        ((can x.result l.results (Some x.slot) n, (let low : x.slot < slots = omega arith in low)), get_fits x.register x.slot (omega arith));
  }

  pub void_indirect_fits : (t : FnTy) (c : Code) (cs : List Code) → ((r : ℕ) (args : List ℕ) (s : Option ℕ) → length args ≡ length cs → P (CallInd r args t s)) → IsFitting P slots c → AreFitting P slots cs → IsFitting P slots (indirect_code t false c cs)
  void_indirect_fits t c cs can hc h = record {
    grows = λ place register first. callee_grows t c cs can hc h place register first;
    fits = λ place register first le.
        let l = listed t c cs can hc h place register first in
        let x = placed (callee t c cs can hc h place register first) in
        let n = (arguments_fit cs place register first h).counted in
        joined_fits (l.code ++ x.code) (CallInd x.result l.results t None ∷ []) (callee_fits t c cs can hc h place register first le) ((can x.result l.results None n, tt), tt);
  }

  -- ---- built-in calls

  built_in_fits : (b : BuiltIn) (l : Listed) → ((p : ℕ) → P (Touch p ty.Int)) → Fits l.code → Fits (built_in_made b l).code
  built_in_fits built_in.Spawn l touch h =
      joined_fits l.code (Fork l.register ∷ StartArg l.register (second_of l.results) ∷ StartFn l.register (first_of l.results) ∷ []) h
      ((unasked (Fork l.register) tt, tt), ((unasked (StartArg l.register (second_of l.results)) tt, tt), ((unasked (StartFn l.register (first_of l.results)) tt, tt), tt)))
  built_in_fits built_in.Join l touch h = joined_fits l.code (Join (first_of l.results) ∷ []) h ((unasked (Join (first_of l.results)) tt, tt), tt)
  built_in_fits built_in.Lock l touch h = joined_fits l.code (Touch (first_of l.results) ty.Int ∷ Lock (first_of l.results) ∷ []) h ((touch (first_of l.results), tt), ((unasked (Lock (first_of l.results)) tt, tt), tt))
  built_in_fits built_in.Unlock l touch h = joined_fits l.code (Touch (first_of l.results) ty.Int ∷ Unlock (first_of l.results) ∷ []) h ((touch (first_of l.results), tt), ((unasked (Unlock (first_of l.results)) tt, tt), tt))
  built_in_fits built_in.Print l touch h = joined_fits l.code (Print (first_of l.results) ∷ []) h ((unasked (Print (first_of l.results)) tt, tt), tt)
  built_in_fits built_in.Input l touch h = joined_fits l.code (Input l.register (first_of l.results) ∷ []) h ((unasked (Input l.register (first_of l.results)) tt, tt), tt)
  built_in_fits built_in.Malloc l touch h = joined_fits l.code (Malloc l.register (first_of l.results) ∷ []) h ((unasked (Malloc l.register (first_of l.results)) tt, tt), tt)
  built_in_fits built_in.Free l touch h = joined_fits l.code (Free (first_of l.results) ∷ []) h ((unasked (Free (first_of l.results)) tt, tt), tt)

  built_in_slot : (b : BuiltIn) (l : Listed) → (built_in_made b l).slot ≡ l.slot
  built_in_slot built_in.Spawn l = refl
  built_in_slot built_in.Join l = refl
  built_in_slot built_in.Lock l = refl
  built_in_slot built_in.Unlock l = refl
  built_in_slot built_in.Print l = refl
  built_in_slot built_in.Input l = refl
  built_in_slot built_in.Malloc l = refl
  built_in_slot built_in.Free l = refl

  pub built_in_call_fits : (b : BuiltIn) (cs : List Code) → ((p : ℕ) → P (Touch p ty.Int)) → AreFitting P slots cs → IsFitting P slots (built_in_code b cs)
  built_in_call_fits b cs touch h = record {
    grows = λ place register first.
        let e : (built_in_made b (arguments cs place register first)).slot ≡ (arguments cs place register first).slot = built_in_slot b (arguments cs place register first) in
        let g : first ≤ (arguments cs place register first).slot = (arguments_fit cs place register first h).grows in
        omega arith;
    fits = λ place register first le.
        let l = arguments cs place register first in
        let e : (built_in_made b l).slot ≡ l.slot = built_in_slot b l in
        built_in_fits b l touch ((arguments_fit cs place register first h).fits (omega arith));
  }
