-- What is known against locals, operand by operand.
use Rattle.std.proofs.Common.{◌≡◌, ◌∙◌, inl, inr, ℕ, zero, suc, ◌+◌, ◌<◌, ◌≤◌, Bool, true, false, ◌&&◌, List, length, replicate, Some, slice_get, slice_set, ℤ, pos, int_le, int_lt, refl, sym, ap, subst, arith}
use Rattle.std.specs.List.{slice_index_or}
use Rattle.std.specs.Int.Signed.{le_z_yes, lt_z_yes}
use Rattle.std.proofs.lemmas.Bool.{both_ways, cases_eq}
use Rattle.std.proofs.lemmas.Float.{T_from_true}
use Rattle.std.proofs.lemmas.Int.{ints}
use Rattle.std.proofs.lemmas.List.{get_or-replicate, get_or-set_other, get_or-set_same, length-replicate, length-set}
use Rattle.std.proofs.lemmas.Option.{same_Some, slice_get_within}
use Rattle.core_ir.specs.declared.role.Role.{Role}
use Rattle.core_ir.specs.declared.role.Role.TheVariants as role
use Rattle.core_ir.specs.Outline.{Outline}
use Rattle.core_ir.specs.Flow.{HasRole, Serves, Stands}
use Rattle.core_ir.specs.SafeLocal.{IsAccessed, IsInside, IsMoved, by_constant, by_index, loaded, stored, touched}
use Rattle.safe_locals.specs.declared.mark.Mark.{Mark}
use Rattle.safe_locals.specs.declared.mark.Mark.TheVariants as mark
use Rattle.safe_locals.specs.Safe.{AreSafeIn}
use Rattle.safe_locals.specs.inner.Marks.{AreJudged, IsHarmless, IsSafeUntil, IsUse, Tells, is_harmless, is_harmless_first, is_inside, is_number, mark_at}
use Rattle.safe_locals.proofs.Serving.{one, role_here, role_is, stands_within}
use Rattle.safe_locals.proofs.MarksTell.{address_mark, number_mark, tells_server}

both : (a b : Bool) → (a && b) ≡ true → (a ≡ true) × (b ≡ true)
both true b is = (refl, is)
both false b is = absurd (cc)

both_true : (a b : Bool) → a ≡ true → b ≡ true → (a && b) ≡ true
both_true a b p q = ap (λ x. x && b) p ∙ q

inside_is : (o : ℤ) (units : ℕ) → is_inside o units ≡ true → IsInside o units
inside_is o units is =
    let p = both (int_le (pos 0) o) (int_lt o (pos units)) is in (le_z_yes (T_from_true (int_le (pos 0) o) p.0), lt_z_yes (T_from_true (int_lt o (pos units)) p.1))

inside_true : (o : ℤ) (units : ℕ) → IsInside o units → is_inside o units ≡ true
inside_true o units is = both_true (int_le (pos 0) o) (int_lt o (pos units)) (grind (arith, ints, is.0)) (grind (arith, ints, is.1))

local_same : (v w : ℕ) (q o : ℤ) → mark.Address v q ≡ mark.Address w o → v ≡ w
local_same v w q o f = cc

offset_same : (v w : ℕ) (q o : ℤ) → mark.Address v q ≡ mark.Address w o → q ≡ o
offset_same v w q o f = cc

module _ {code : List Outline} (u : ℕ) (marks : List Mark) (tell : (r : ℕ) → Tells code u r (mark_at marks r)) where
  -- ---- harmless operands

  number_is : (p i n : ℕ) (m : Mark) → mark_at marks i ≡ m → is_number m ≡ true → HasRole code 0 u (role.Indexed p i n) → IsMoved code u 0
  number_is p i n (mark.Number c) e is has =
      let t = subst (Tells code u i) e (tell i) in
      let j = tells_server (mark.Number c) t (λ f. cc) in by_index p i n j.0 c has j.1 (t.right j.0 j.1)
  number_is p i n (mark.Address v o) e is has = absurd (cc)
  number_is p i n (mark.Read f) e is has = absurd (cc)
  number_is p i n mark.Other e is has = absurd (cc)

  first_harmless : (r : Role) (o : ℤ) (units : ℕ) → HasRole code 0 u r → is_harmless_first marks r o units ≡ true → IsHarmless code u 0 o units
  first_harmless (role.Shifted p n) o units has is = inl (by_constant p n has)
  first_harmless (role.Indexed p i n) o units has is = inl (number_is p i n (mark_at marks i) refl is has)
  first_harmless (role.Touch p) o units has is = inr (touched p has, inside_is o units is)
  first_harmless (role.Load p) o units has is = inr (loaded p has, inside_is o units is)
  first_harmless (role.Store p) o units has is = inr (stored p has, inside_is o units is)
  first_harmless _ o units has is = absurd (cc)

  harmless_is : (r : Role) (k : ℕ) (o : ℤ) (units : ℕ) → HasRole code 0 u r → is_harmless marks r k o units ≡ true → IsHarmless code u k o units
  harmless_is r zero o units has is = first_harmless r o units has is
  harmless_is r (suc k) o units has is = absurd (cc)

  module _ (i : Outline) (there : Stands code 0 u i) where
    moved_true : {k : ℕ} (o : ℤ) (units : ℕ) → IsMoved code u k → is_harmless marks i.role k o units ≡ true
    moved_true o units (by_constant p n has) = ap (λ r. is_harmless marks r 0 o units) (role_is there has)
    moved_true o units (by_index p j n s c has serves const) =
        ap (λ r. is_harmless marks r 0 o units) (role_is there has) ∙ ap is_number (number_mark (mark_at marks j) (tell j) serves const)

    accessed_true : {k : ℕ} (o : ℤ) (units : ℕ) → IsAccessed code u k → IsInside o units → is_harmless marks i.role k o units ≡ true
    accessed_true o units (touched p has) is = ap (λ r. is_harmless marks r 0 o units) (role_is there has) ∙ inside_true o units is
    accessed_true o units (loaded p has) is = ap (λ r. is_harmless marks r 0 o units) (role_is there has) ∙ inside_true o units is
    accessed_true o units (stored p has) is = ap (λ r. is_harmless marks r 0 o units) (role_is there has) ∙ inside_true o units is

    harmless_true : (k : ℕ) (o : ℤ) (units : ℕ) → IsHarmless code u k o units → is_harmless marks i.role k o units ≡ true
    harmless_true k o units (inl moved) = moved_true o units moved
    harmless_true k o units (inr accessed) = accessed_true o units accessed.0 accessed.1

    -- ---- one operand on

    module _ (k r : ℕ) (is : slice_get i.used k ≡ Some r) where
      -- the operand's mark, where it is an address
      use_mark : {v : ℕ} {o : ℤ} → IsUse code v u k o → mark_at marks r ≡ mark.Address v o
      use_mark {v} {o} found =
          let same : found.register ≡ r = same_Some found.register r (sym found.is ∙ ap (λ (x : Outline). slice_get x.used k) (one found.there there) ∙ is) in
          address_mark (mark_at marks r) (tell r) (subst (λ x. Serves code 0 found.server u x) same found.serves) found.address

      mark_use : (v : ℕ) (o : ℤ) → mark_at marks r ≡ mark.Address v o → IsUse code v u k o
      mark_use v o e =
          let t = subst (Tells code u r) e (tell r) in
          let s = tells_server (mark.Address v o) t (λ f. cc) in
          record { server = s.0; register = r; instruction = i; address = t.right s.0 s.1; serves = s.1; there = there; is = is }

      until_less : {v n : ℕ} → IsSafeUntil code v n u (k + 1) → IsSafeUntil code v n u k
      until_less all j q o found before = all j q o found (elim before [
        | inl low ↦ inl low
        | inr at ↦ inr (at.0, omega (arith, at.1))
      ])

      until_more : {v n : ℕ} → IsSafeUntil code v n u k → ((o : ℤ) → IsUse code v u k o → IsHarmless code u k o n) → IsSafeUntil code v n u (k + 1)
      until_more {v} {n} all now j q o found before = elim before [
        | inl low ↦ all j q o found (inl low)
        | inr at ↦ elim (cases_eq q k) [
          | inl e ↦
              subst (λ x. IsHarmless code x q o n) (sym at.0) (subst (λ x. IsHarmless code u x o n) (sym e)
              (now o (subst (λ x. IsUse code v u x o) e (subst (λ x. IsUse code v x q o) at.0 found))))
          | inr ne ↦ all j q o found (inr (at.0, omega (arith, at.1)))
        ]
      ]

      module _ (units : List ℕ) (safe : List Bool) (judged : AreJudged code units u k safe) where
        -- nothing is against any local
        pub judged_same : ((v n : ℕ) (o : ℤ) → slice_get units v ≡ Some n → mark_at marks r ≡ mark.Address v o → is_harmless marks i.role k o n ≡ true) → AreJudged code units u (k + 1) safe
        judged_same fine = record {
          each = judged.each;
          sound = λ v n at yes. until_more (judged.sound v n at yes) (λ o found. harmless_is i.role k o n (role_here there) (fine v n o at (use_mark found)));
          complete = λ v n at all. judged.complete v n at (until_less all);
        }

        -- nor where it is harmless
        pub judged_harmless : (w : ℕ) (o : ℤ) (n : ℕ) → slice_get units w ≡ Some n → mark_at marks r ≡ mark.Address w o → is_harmless marks i.role k o n ≡ true → AreJudged code units u (k + 1) safe
        judged_harmless w o n at e fine = judged_same (λ v m q there_v is_v.
            let here : mark.Address w o ≡ mark.Address v q = sym e ∙ is_v in
            let same : w ≡ v = local_same w v o q here in
            let offset : o ≡ q = offset_same w v o q here in
            let size : n ≡ m = same_Some n m (sym at ∙ ap (λ x. slice_get units x) same ∙ there_v) in
            subst (λ x. is_harmless marks i.role k q x ≡ true) size (subst (λ x. is_harmless marks i.role k x n ≡ true) offset fine))

        -- nor where it is of no local
        pub judged_past : (w : ℕ) (o : ℤ) → length units ≤ w → mark_at marks r ≡ mark.Address w o → AreJudged code units u (k + 1) safe
        judged_past w o past e = judged_same (λ v m q there_v is_v.
            let same : w ≡ v = local_same w v o q (sym e ∙ is_v) in
            let inside : v < length units = slice_get_within units v m there_v in
            absurd (omega (arith, past, same, inside)))

        pub judged_other : ((v : ℕ) (o : ℤ) → mark_at marks r ≡ mark.Address v o → ⊥) → AreJudged code units u (k + 1) safe
        judged_other other = judged_same (λ v m q there_v is_v. absurd (other v q is_v))

        -- this is against a local
        pub judged_against : (w : ℕ) (o : ℤ) (n : ℕ) → slice_get units w ≡ Some n → mark_at marks r ≡ mark.Address w o → is_harmless marks i.role k o n ≡ false → AreJudged code units u (k + 1) (slice_set safe w false)
        judged_against w o n at e harm =
            let low : w < length safe = omega (arith, slice_get_within units w n at, judged.each) in
            let now : slice_index_or (slice_set safe w false) w false ≡ false = get_or-set_same safe w false false low in
            let other : (v : ℕ) → (v ≡ w → ⊥) → slice_index_or (slice_set safe w false) v false ≡ slice_index_or safe v false = λ v ne. get_or-set_other safe w v false false ne in
            record {
              each = length-set safe w false ∙ judged.each;
              sound = λ v m there_v yes. elim (cases_eq v w) [
                | inl same ↦ absurd (both_ways _ (ap (λ x. slice_index_or (slice_set safe w false) x false) same ∙ now) yes)
                | inr ne ↦ until_more (judged.sound v m there_v (sym (other v ne) ∙ yes)) (λ q found. absurd (ne (local_same v w q o (sym (use_mark found) ∙ e))))
              ];
              complete = λ v m there_v all. elim (cases_eq v w) [
                | inl same ↦
                    let units_same : m ≡ n = same_Some m n (sym there_v ∙ ap (λ x. slice_get units x) same ∙ at) in
                    let found : IsUse code v u k o = subst (λ x. IsUse code x u k o) (sym same) (mark_use w o e) in
                    let fine = harmless_true k o m (all u k o found (inr (refl, omega arith))) in
                    absurd (both_ways _ harm (subst (λ x. is_harmless marks i.role k o x ≡ true) units_same fine))
                | inr ne ↦ other v ne ∙ judged.complete v m there_v (until_less all)
              ];
            }

-- ---- the first place, the next, and the end

module _ {code : List Outline} where
  pub judged_first : (units : List ℕ) → AreJudged code units 0 0 (replicate (length units) true)
  judged_first units = record {
    each = length-replicate (length units) true;
    sound = λ v n at yes k q o found before. elim before [
      | inl low ↦ absurd (omega arith)
      | inr now ↦ absurd (omega (arith, now.1))
    ];
    complete = λ v n at all. get_or-replicate (length units) v true false (slice_get_within units v n at);
  }

  pub judged_next : (u operands : ℕ) (i : Outline) (units : List ℕ) (safe : List Bool) → Stands code 0 u i → length i.used ≤ operands → AreJudged code units u operands safe → AreJudged code units (u + 1) 0 safe
  judged_next u operands i units safe there all judged = record {
    each = judged.each;
    sound = λ v n at yes k q o found before. judged.sound v n at yes k q o found (elim before [
      | inl low ↦ elim (cases_eq k u) [
        | inl e ↦
            let within = slice_get_within found.instruction.used q found.register found.is in
            let same : length found.instruction.used ≡ length i.used = ap (λ (x : Outline). length x.used) (one (subst (λ x. Stands code 0 x found.instruction) e found.there) there) in
            inr (e, omega (arith, within, same, all))
        | inr ne ↦ inl (omega arith)
      ]
      | inr now ↦ absurd (omega (arith, now.1))
    ]);
    complete = λ v n at safe_all. judged.complete v n at (λ k q o found before. safe_all k q o found (elim before [
      | inl low ↦ inl (omega arith)
      | inr now ↦ inl (omega (arith, now.0))
    ]));
  }

  pub judged_all : (u : ℕ) (units : List ℕ) (safe : List Bool) → length code ≤ u → AreJudged code units u 0 safe → AreSafeIn code units safe
  judged_all u units safe end judged = record {
    each = judged.each;
    exact = λ v n at. (
      λ yes s k q r o i address serves there is.
          judged.sound v n at yes k q o (record { server = s; register = r; instruction = i; address = address; serves = serves; there = there; is = is })
          (inl (omega (arith, stands_within there, end))),
      λ all. judged.complete v n at (λ k q o found before. all found.server k q found.register o found.instruction found.address found.serves found.there found.is),
    );
  }
