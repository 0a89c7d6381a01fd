-- Whether an instruction is at a local, by the mark of its first operand.
use Rattle.std.proofs.Common.{◌≡◌, ◌∙◌, inl, inr, ◌↔◌, ℕ, zero, suc, ◌+◌, ◌<◌, ◌≤◌, Bool, true, false, IsTrue, List, [], ◌∷◌, ◌++◌, length, map, Some, slice_get, refl, sym, ap, subst, arith}
use Rattle.std.proofs.lemmas.Bool.{cases_eq}
use Rattle.std.proofs.lemmas.List.{get_or_at, length-append, length-map}
use Rattle.std.proofs.lemmas.Option.{same_Some, slice_get_within}
use Rattle.std.specs.List.{slice_index_or}
use Rattle.core_ir.specs.declared.program.Function.{Function}
use Rattle.core_ir.specs.Instructions.{outline_of}
use Rattle.core_ir.specs.Outline.{Outline}
use Rattle.core_ir.specs.Flow.{Serves, Stands}
use Rattle.safe_locals.specs.declared.mark.Mark.{Mark}
use Rattle.safe_locals.specs.declared.mark.Mark.TheVariants as mark
use Rattle.safe_locals.specs.AtLocals.{AreAt, AreAtSafe, HasYes, IsAt}
use Rattle.safe_locals.specs.Safe.{AreSafe}
use Rattle.safe_locals.specs.inner.Marks.{AreAtUntil, Tells, is_of, mark_at}
use Rattle.safe_locals.proofs.Serving.{one}
use Rattle.safe_locals.proofs.MarksTell.{address_mark, tells_server}

module _ {code : List Outline} (u : ℕ) (marks : List Mark) (tell : (r : ℕ) → Tells code u r (mark_at marks r)) (i : Outline) (there : Stands code 0 u i) (locals : List Bool) where
  module _ (r : ℕ) (is : slice_get i.used 0 ≡ Some r) where
    by_mark : (m : Mark) → mark_at marks r ≡ m → is_of locals m ≡ true → IsAt code (HasYes locals) u
    by_mark (mark.Address v o) e holds =
        let t = subst (Tells code u r) e (tell r) in
        let s = tells_server (mark.Address v o) t (λ f. cc) in
        record { local = v; such = holds; server = s.0; offset = o; address = t.right s.0 s.1; register = r; serves = s.1; instruction = i; there = there; is = is }
    by_mark (mark.Number c) e holds = absurd (cc)
    by_mark (mark.Read f) e holds = absurd (cc)
    by_mark mark.Other e holds = absurd (cc)

    pub at_exact : IsTrue (is_of locals (mark_at marks r)) ↔ IsAt code (HasYes locals) u
    at_exact = (
      λ yes. by_mark (mark_at marks r) refl yes,
      λ at.
          let same : at.register ≡ r = same_Some at.register r (sym at.is ∙ ap (λ (x : Outline). slice_get x.used 0) (one at.there there) ∙ is) in
          let e : mark_at marks r ≡ mark.Address at.local at.offset =
          address_mark (mark_at marks r) (tell r) (subst (λ x. Serves code 0 at.server u x) same at.serves) at.address in
          ap (λ m. is_of locals m) e ∙ at.such,
    )

  pub none_at : length i.used ≤ 0 → IsAt code (HasYes locals) u → ⊥
  none_at none at =
      let within : 0 < length at.instruction.used = slice_get_within at.instruction.used 0 at.register at.is in
      let same : length at.instruction.used ≡ length i.used = ap (λ (x : Outline). length x.used) (one at.there there) in
      omega (arith, within, same, none)

-- ---- one instruction on, and the end

pub at_first : (code : List Outline) (locals : List Bool) → AreAtUntil code locals 0 []
at_first code locals = record { each = refl; exact = λ k low. absurd (omega (arith, low)) }

old_answer : (at : List Bool) (b : Bool) (k : ℕ) → k < length at → slice_index_or (at ++ b ∷ []) k false ≡ slice_index_or at k false
old_answer [] b k low = absurd (omega (arith, low))
old_answer (x ∷ xs) b zero low = refl
old_answer (x ∷ xs) b (suc k) low = old_answer xs b k (omega (arith, low))

at_more : (code : List Outline) (locals : List Bool) (u : ℕ) (at : List Bool) (b : Bool) → AreAtUntil code locals u at → IsTrue b ↔ IsAt code (HasYes locals) u → AreAtUntil code locals (u + 1) (at ++ b ∷ [])
at_more code locals u at b before now = record {
  each = length-append at (b ∷ []) ∙ ap (λ n. n + 1) before.each;
  exact = λ k low. elim (cases_eq k u) [
    | inl e ↦
        let new : slice_index_or (at ++ b ∷ []) u false ≡ b = get_or_at at b [] false u before.each in
        subst (λ n. HasYes (at ++ b ∷ []) n ↔ IsAt code (HasYes locals) n) (sym e) (subst (λ x. IsTrue x ↔ IsAt code (HasYes locals) u) (sym new) now)
    | inr ne ↦
        let old : slice_index_or (at ++ b ∷ []) k false ≡ slice_index_or at k false = old_answer at b k (omega (arith, low, ne, before.each)) in
        subst (λ x. IsTrue x ↔ IsAt code (HasYes locals) k) (sym old) (before.exact k (omega (arith, low, ne)))
  ];
}

pub at_pushed : (code : List Outline) (locals : List Bool) (u : ℕ) (at new : List Bool) (b : Bool) → new ≡ at ++ b ∷ [] → AreAtUntil code locals u at → IsTrue b ↔ IsAt code (HasYes locals) u → AreAtUntil code locals (u + 1) new
at_pushed code locals u at new b is before now = subst (AreAtUntil code locals (u + 1)) (sym is) (at_more code locals u at b before now)

pub at_all : (code : List Outline) (locals : List Bool) (u : ℕ) (at : List Bool) → length code ≡ u → AreAtUntil code locals u at → AreAt code locals at
at_all code locals u at end are = record {
  each = are.each ∙ sym end;
  exact = λ k low. are.exact k (omega (arith, low, end));
}

-- ---- functions

at_others : {code : List Outline} {P Q : ℕ → Type 0} {k : ℕ} → ((v : ℕ) → P v → Q v) → IsAt code P k → IsAt code Q k
at_others more at = record {
  local = at.local;
  such = more at.local at.such;
  server = at.server;
  offset = at.offset;
  address = at.address;
  register = at.register;
  serves = at.serves;
  instruction = at.instruction;
  there = at.there;
  is = at.is;
}

yes_within : (answers : List Bool) (v : ℕ) → HasYes answers v → v < length answers
yes_within [] v is = absurd (cc)
yes_within (x ∷ xs) zero is = omega arith
yes_within (x ∷ xs) (suc v) is = let low = yes_within xs v is in omega (arith, low)

pub at_function : (f : Function) (safe at : List Bool) → AreSafe f safe → AreAt (map outline_of f.body) safe at → AreAtSafe f at
at_function f safe at are each = record {
  each = each.each ∙ length-map f.body outline_of;
  exact = λ k low.
      let e = each.exact k (omega (arith, low, length-map f.body outline_of)) in (
        λ yes. at_others (λ v is. (are.exact v (omega (arith, yes_within safe v is, are.each))).0 is) (e.0 yes),
        λ is. e.1 (at_others (λ v s. (are.exact v (slice_get_within f.locals v s.local s.there)).1 s) is),
      );
}
