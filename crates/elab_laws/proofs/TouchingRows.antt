-- Accesses and their touches, row by row.
use Rattle.std.proofs.Common.{◌≡◌, ℕ, zero, pos, suc, ◌+◌, Bool, true, false, List, [], ◌∷◌, ◌++◌, length, Option, Some, None, refl, sym, subst, ◌∙◌}
use Rattle.std.proofs.lemmas.Option.{same_Some}
use Rattle.std.specs.Prelude.{if◌then◌else◌, slice_get}
use Rattle.c_types.specs.declared.structs.StructDef.{StructDef}
use Rattle.c_types.specs.declared.ty.FnTy.{FnTy}
use Rattle.c_types.specs.declared.ty.Ty.{Ty}
use Rattle.c_types.specs.declared.ty.Ty.TheVariants as ty
use Rattle.c_types.specs.Same.{same}
use Rattle.c_typed.specs.declared.entity.BuiltIn.{BuiltIn}
use Rattle.c_typed.specs.declared.entity.BuiltIn.TheVariants as built_in
use Rattle.core_ir.specs.declared.instr.Instr.{Instr}
use Rattle.core_ir.specs.declared.instr.Instr.TheVariants.{Branch, Call, CallInd, Cast, Const, Fork, Free, GetLocal, Input, Join, Jump, Load, Lock, Malloc, Print, PtrConst, SetLocal, StartArg, StartFn, Store, Touch, Unlock}
use Rattle.core_ir.specs.Parts as parts
use Rattle.core_ir.specs.Parts.{HasPart}
use Rattle.core_ir.specs.Typed.{element_of}
use Rattle.core_ir.specs.Valid.{TouchesFit, access_type, touch_type}
use Rattle.elab_rows.specs.Addresses.{Lvalue, assigned, copied_parts, loaded, pointing, struct_assigned, updated}
use Rattle.elab_rows.specs.Calls.{Listed, arguments, built_in_code, built_in_made, call_code, called, first_of, has_place, indirect_code, kept, placed, second_of, with_callee}
use Rattle.elab_rows.specs.Choices.{and_code, arms, conditional_code, kept_in, or_code, or_lines, second_arm, tested, truth_lines}
use Rattle.elab_rows.specs.Made.{Code, Made, behind, beyond, combined, converted, extended, followed, single}
use Rattle.elab_laws.specs.Touching.{AreTouched, AreTouching, HasParts, IsTouched, IsTouching, MayPrecede, Opens}

module _ (defs : List StructDef) where
  -- ---- what it means

  precedes_next : (i j : Instr) (is : List Instr) (whole part : Ty) → MayPrecede defs i is → slice_get is 0 ≡ Some j → touch_type i ≡ Some whole → access_type j ≡ Some part → HasPart defs whole part
  precedes_next i j [] whole part h is touch access = absurd (cc)
  precedes_next i j (x ∷ xs) whole part h is touch access = h whole part touch (subst (λ y. access_type y ≡ Some part) (sym (same_Some x j is)) access)

  fits_at : (code : List Instr) → AreTouched defs code → TouchesFit defs code
  fits_at [] h k touch access whole part at_k next is_touch is_access = absurd (cc)
  fits_at (i ∷ is) h zero touch access whole part at_k next is_touch is_access =
      precedes_next i access is whole part h.0 next (subst (λ y. touch_type y ≡ Some whole) (sym (same_Some i touch at_k)) is_touch) is_access
  fits_at (i ∷ is) h (suc k) touch access whole part at_k next is_touch is_access = fits_at is h.1 k touch access whole part at_k next is_touch is_access

  pub means : (code : List Instr) → IsTouched defs code → TouchesFit defs code
  means code h = fits_at code h.each

  -- ---- lists

  opens_next : (i : Instr) (d : List Instr) → Opens d → MayPrecede defs i d
  opens_next i [] h = tt
  opens_next i (j ∷ d) h = λ whole part touch access. absurd (let e : None ≡ Some part = sym h ∙ access in cc)

  next_more : (i : Instr) (c d : List Instr) → MayPrecede defs i c → Opens d → MayPrecede defs i (c ++ d)
  next_more i [] d h opens = opens_next i d opens
  next_more i (j ∷ c) d h opens = h

  touched_more : (c d : List Instr) → AreTouched defs c → AreTouched defs d → Opens d → AreTouched defs (c ++ d)
  touched_more [] d hc hd opens = hd
  touched_more (i ∷ c) d hc hd opens = (next_more i c d hc.0 opens, touched_more c d hc.1 hd opens)

  opens_more : (c d : List Instr) → Opens c → Opens d → Opens (c ++ d)
  opens_more [] d hc hd = hd
  opens_more (i ∷ c) d hc hd = hc

  pub append : (c d : List Instr) → IsTouched defs c → IsTouched defs d → IsTouched defs (c ++ d)
  append c d hc hd = record { each = touched_more c d hc.each hd.each hd.opens; opens = opens_more c d hc.opens hd.opens }

  empty : IsTouched defs []
  empty = record { each = tt; opens = tt }

  -- no access in front of what opens
  ahead : (i : Instr) (d : List Instr) → access_type i ≡ None → IsTouched defs d → IsTouched defs (i ∷ d)
  ahead i d none h = record { each = (opens_next i d h.opens, h.each); opens = none }

  alone : (i : Instr) → access_type i ≡ None → IsTouched defs (i ∷ [])
  alone i none = ahead i [] none empty

  -- a touch and its access
  accessed : (p : ℕ) (root t : Ty) (x : Instr) (d : List Instr) → access_type x ≡ Some t → HasPart defs root t → touch_type x ≡ None → IsTouched defs d → IsTouched defs (Touch p root ∷ x ∷ d)
  accessed p root t x d is has none h = record {
    each = (
      λ whole part touch access. let a : root ≡ whole = same_Some root whole touch in let b : t ≡ part = same_Some t part (sym is ∙ access) in subst (λ w. HasPart defs w part) a (subst (λ v. HasPart defs root v) b has),
      (opens_next x d h.opens, h.each),
    );
    opens = refl;
  }

  -- ---- operands

  pub nothing_touched : IsTouched defs []
  nothing_touched = empty

  pub extended_touched : (i : ℕ → ℕ → Instr) (a : Code) → ((d x : ℕ) → access_type (i d x) ≡ None) → IsTouching defs a → IsTouching defs (extended i a)
  extended_touched i a none ha place register slot = let x = a place register slot in append x.code (i x.register x.result ∷ []) (ha place register slot) (alone (i x.register x.result) (none x.register x.result))

  pub followed_touched : (i : ℕ → Instr) (a : Code) → ((x : ℕ) → access_type (i x) ≡ None) → IsTouching defs a → IsTouching defs (followed i a)
  followed_touched i a none ha place register slot = let x = a place register slot in append x.code (i x.result ∷ []) (ha place register slot) (alone (i x.result) (none x.result))

  both_touched : (a b : Code) → IsTouching defs a → IsTouching defs b → (place register slot : ℕ) → IsTouched defs ((a place register slot).code ++ (behind place (a place register slot) b).code)
  both_touched a b ha hb place register slot =
      let x = a place register slot in append x.code (behind place x b).code (ha place register slot) (hb (place + length x.code) x.register x.slot)

  pub combined_touched : (i : ℕ → ℕ → ℕ → Instr) (a b : Code) → ((d x y : ℕ) → access_type (i d x y) ≡ None) → IsTouching defs a → IsTouching defs b → IsTouching defs (combined i a b)
  combined_touched i a b none ha hb place register slot =
      let x = a place register slot in
      let y = behind place x b in
      append (x.code ++ y.code) (i y.register x.result y.result ∷ []) (both_touched a b ha hb place register slot) (alone (i y.register x.result y.result) (none y.register x.result y.result))

  either_touched : (t : Bool) (a b : Code) → IsTouching defs a → IsTouching defs b → IsTouching defs (if t then a else b)
  either_touched true a b ha hb = ha
  either_touched false a b ha hb = hb

  pub converted_touched : (from to : Ty) (a : Code) → IsTouching defs a → IsTouching defs (converted from to a)
  converted_touched from to a ha = either_touched (same from to) a (extended (λ d x. Cast d x from to) a) ha (extended_touched (λ d x. Cast d x from to) a (λ d x. refl) ha)

  pub pointing_touched : (root target : Ty) (a : Code) → IsTouching defs a → IsTouching defs (pointing root target a)
  pointing_touched root target a ha =
      either_touched (same (element_of root) (element_of target)) a (extended (λ d p. Cast d p (ty.Pointer root) (ty.Pointer target)) a) ha
      (extended_touched (λ d p. Cast d p (ty.Pointer root) (ty.Pointer target)) a (λ d x. refl) ha)

  -- ---- accesses

  pub stored_touched : (code : List Instr) (p a : ℕ) (root t : Ty) → HasPart defs root t → IsTouched defs code → IsTouched defs (code ++ Touch p root ∷ Store p a t ∷ [])
  stored_touched code p a root t has h = append code (Touch p root ∷ Store p a t ∷ []) h (accessed p root t (Store p a t) [] refl has refl empty)

  pub assigned_touched : (x : Lvalue) (v : Code) → HasPart defs x.root x.ty → IsTouching defs v → IsTouching defs x.address → IsTouching defs (assigned x v)
  assigned_touched x v has hv ha place register slot =
      let y = v place register slot in
      let z = behind place y x.address in
      stored_touched (y.code ++ z.code) z.result y.result x.root x.ty has (both_touched v x.address hv ha place register slot)

  pub updated_touched : (x : Lvalue) (new : Code → Code) → HasPart defs x.root x.ty → IsTouching defs (new (loaded x)) → IsTouching defs (updated x new)
  updated_touched x new has h place register slot =
      let y = new (loaded x) place register slot in stored_touched y.code (x.address place register slot).result y.result x.root x.ty has (h place register slot)

  copied_touched : (from to : Ty) (p q d k : ℕ) (ts : List Ty) → HasParts defs from ts → HasParts defs to ts → IsTouched defs (copied_parts from to p q d k ts)
  copied_touched from to p q d k [] hf ht = empty
  copied_touched from to p q d k (t ∷ ts) hf ht =
      ahead (PtrConst d p k) _ refl (accessed d from t (Load (d + 1) d t) _ refl hf.0 refl
      (ahead (PtrConst (d + 2) q k) _ refl (accessed (d + 2) to t (Store (d + 2) (d + 1) t) _ refl ht.0 refl (copied_touched from to p q (d + 3) (k + 1) ts hf.1 ht.1))))

  pub struct_touched : (parts : List Ty) (to from : Lvalue) → HasParts defs from.root parts → HasParts defs to.root parts → IsTouching defs from.address → IsTouching defs to.address → IsTouching defs (struct_assigned parts to from)
  struct_touched parts to from pf pt hf ht place register slot =
      let x = from.address place register slot in
      let y = behind place x to.address in
      append (x.code ++ y.code) (copied_parts from.root to.root x.result y.result y.register 0 parts) (both_touched from.address to.address hf ht place register slot)
      (copied_touched from.root to.root x.result y.result y.register 0 parts pf pt)

  -- ---- choices

  tested_touched : (x : Made) (l : ℕ) → IsTouched defs x.code → IsTouched defs (tested x l)
  tested_touched x l h = append x.code (Branch x.result l ∷ []) h (alone (Branch x.result l) refl)

  truth_touched : (d s f : ℕ) → IsTouched defs (truth_lines d s f)
  truth_touched d s f =
      ahead (Const d (pos 1)) _ refl (ahead (SetLocal s d) _ refl (ahead (Jump (f + 2)) _ refl (ahead (Const (d + 1) (pos 0)) _ refl (ahead (SetLocal s (d + 1)) _ refl (alone (GetLocal (d + 2) s) refl)))))

  pub and_touched : (a b : Code) → IsTouching defs a → IsTouching defs b → IsTouching defs (and_code a b)
  and_touched a b ha hb place register slot =
      let x = a place register slot in
      let y = beyond 1 place x b in
      let f = place + length x.code + 1 + length y.code + 4 in
      append (tested x f ++ tested y f) (truth_lines y.register y.slot f) (append (tested x f) (tested y f) (tested_touched x f (ha place register slot)) (tested_touched y f (hb (place + length x.code + 1) x.register x.slot)))
      (truth_touched y.register y.slot f)

  pub or_touched : (a b : Code) → IsTouching defs a → IsTouching defs b → IsTouching defs (or_code a b)
  or_touched a b ha hb place register slot =
      let x = a place register slot in
      let y = beyond 2 place x b in
      let m = place + length x.code + 2 in
      let t = m + length y.code + 1 in
      append (or_lines x y m t) (truth_lines y.register y.slot (t + 3))
      (append (tested x m ++ Jump t ∷ []) (tested y (t + 3)) (append (tested x m) (Jump t ∷ []) (tested_touched x m (ha place register slot)) (alone (Jump t) refl)) (tested_touched y (t + 3) (hb (place + length x.code + 2) x.register x.slot)))
      (truth_touched y.register y.slot (t + 3))

  kept_touched : (x : Made) (s : ℕ) → IsTouched defs x.code → IsTouched defs (kept_in x s)
  kept_touched x s h = append x.code (SetLocal s x.result ∷ []) h (alone (SetLocal s x.result) refl)

  pub conditional_touched : (c a b : Code) → IsTouching defs c → IsTouching defs a → IsTouching defs b → IsTouching defs (conditional_code c a b)
  conditional_touched c a b hc ha hb place register slot =
      let t = c place register slot in
      let x = beyond 1 place t a in
      let p = place + length t.code + 1 in
      let y = second_arm p x b in
      let f = p + length x.code + 2 in
      let e = f + length y.code + 1 in
      let s = x.slot in
      append (tested t f) (arms x y e) (tested_touched t f (hc place register slot))
      (append (kept_in x s ++ Jump e ∷ [] ++ kept_in y s) (GetLocal y.register s ∷ [])
      (append (kept_in x s ++ Jump e ∷ []) (kept_in y s) (append (kept_in x s) (Jump e ∷ []) (kept_touched x s (ha p t.register t.slot)) (alone (Jump e) refl)) (kept_touched y s (hb (p + length x.code + 2) x.register (x.slot + 1))))
      (alone (GetLocal y.register s) refl))

  -- ---- calls

  arguments_touched : (cs : List Code) (place register slot : ℕ) → AreTouching defs cs → IsTouched defs (arguments cs place register slot).code
  arguments_touched [] place register slot h = empty
  arguments_touched (c ∷ cs) place register slot h =
      let x = c place register slot in append x.code (arguments cs (place + length x.code) x.register x.slot).code (h.0 place register slot) (arguments_touched cs (place + length x.code) x.register x.slot h.1)

  called_touched : (gives : Bool) (call : Option ℕ → Instr) (l : Listed) → ((s : Option ℕ) → access_type (call s) ≡ None) → IsTouched defs l.code → IsTouched defs (called gives call l).code
  called_touched true call l none h = append l.code (call (Some l.slot) ∷ GetLocal l.register l.slot ∷ []) h (ahead (call (Some l.slot)) (GetLocal l.register l.slot ∷ []) (none (Some l.slot)) (alone (GetLocal l.register l.slot) refl))
  called_touched false call l none h = append l.code (call None ∷ []) h (alone (call None) (none None))

  pub call_touched : (f : ℕ) (gives : Bool) (cs : List Code) → AreTouching defs cs → IsTouching defs (call_code f gives cs)
  call_touched f gives cs h place register slot =
      let l = arguments cs place register slot in called_touched gives (λ s. Call f l.results s) l (λ s. refl) (arguments_touched cs place register slot h)

  placed_touched : (t : Bool) (x : Made) → IsTouched defs x.code → IsTouched defs (if t then x else kept x).code
  placed_touched true x h = h
  placed_touched false x h = append x.code (SetLocal x.slot x.result ∷ GetLocal x.register x.slot ∷ []) h (ahead (SetLocal x.slot x.result) (GetLocal x.register x.slot ∷ []) refl (alone (GetLocal x.register x.slot) refl))

  pub indirect_touched : (t : FnTy) (gives : Bool) (c : Code) (cs : List Code) → IsTouching defs c → AreTouching defs cs → IsTouching defs (indirect_code t gives c cs)
  indirect_touched t gives c cs hc h place register slot =
      let l = arguments cs place register slot in
      let x = c (place + length l.code) l.register l.slot in
      called_touched gives (λ s. CallInd (placed x).result l.results t s) (with_callee l (placed x)) (λ s. refl)
      (append l.code (placed x).code (arguments_touched cs place register slot h) (placed_touched (has_place x.code x.result) x (hc (place + length l.code) l.register l.slot)))

  made_touched : (b : BuiltIn) (l : Listed) → IsTouched defs l.code → IsTouched defs (built_in_made b l).code
  made_touched built_in.Spawn l h = append l.code _ h (ahead (Fork l.register) _ refl (ahead (StartArg l.register (second_of l.results)) _ refl (alone (StartFn l.register (first_of l.results)) refl)))
  made_touched built_in.Join l h = append l.code _ h (alone (Join (first_of l.results)) refl)
  made_touched built_in.Lock l h = append l.code _ h (accessed (first_of l.results) ty.Int ty.Int (Lock (first_of l.results)) [] refl (parts.whole ty.Int) refl empty)
  made_touched built_in.Unlock l h = append l.code _ h (accessed (first_of l.results) ty.Int ty.Int (Unlock (first_of l.results)) [] refl (parts.whole ty.Int) refl empty)
  made_touched built_in.Print l h = append l.code _ h (alone (Print (first_of l.results)) refl)
  made_touched built_in.Input l h = append l.code _ h (alone (Input l.register (first_of l.results)) refl)
  made_touched built_in.Malloc l h = append l.code _ h (alone (Malloc l.register (first_of l.results)) refl)
  made_touched built_in.Free l h = append l.code _ h (alone (Free (first_of l.results)) refl)

  pub built_in_touched : (b : BuiltIn) (cs : List Code) → AreTouching defs cs → IsTouching defs (built_in_code b cs)
  built_in_touched b cs h place register slot = made_touched b (arguments cs place register slot) (arguments_touched cs place register slot h)

  pub single_touched : (i : ℕ → Instr) → ((d : ℕ) → access_type (i d) ≡ None) → IsTouching defs (single i)
  single_touched i none place register slot = alone (i register) (none register)
