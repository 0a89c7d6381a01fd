-- Runs that start threads, and what stands directly before a place, by what the tables say.
use Rattle.std.proofs.Common.{◌≡◌, ◌≢◌, ◌∙◌, inl, inr, ℕ, ◌+◌, ◌-◌, ◌<◌, ◌≤◌, List, Option, Some, None, IfSome, refl, sym, ap, subst, arith}
use Rattle.std.proofs.lemmas.Bool.{cases_lt}
use Rattle.std.proofs.lemmas.Option.{same_Some}
use Rattle.core_ir.specs.declared.role.Role.{Role}
use Rattle.core_ir.specs.declared.role.Role.TheVariants as role
use Rattle.core_ir.specs.Outline.{Outline}
use Rattle.core_ir.specs.Flow.{HasRole, IsUnreached, Serves}
use Rattle.core_ir.specs.Order.{Behind, InStart, IsFresh, IsStart}
use Rattle.core_ir.specs.inner.Found.{AreStarting, defined_in, role_in}
use Rattle.core_ir.specs.inner.Registers.{Defines, IsLast, StartsWith}
use Rattle.core_ir.proofs.Servers.{one_server, serves_from, serves_last}
use Rattle.core_ir.proofs.Places.{defined_in_defines, has_role_in, one, role_in_has}

-- ---- directly before

module _ (code : List Outline) (u : ℕ) (r : Role) where
  pub behind_from : u ≢ 0 → role_in code (u - 1) ≡ Some r → IsUnreached code 0 u → Behind code u r
  behind_from some there none = record {
    before = u - 1;
    next = omega (arith, some);
    there = role_in_has code (u - 1) r there;
    unreached = none;
  }

  pub behind_role : Behind code u r → role_in code (u - 1) ≡ Some r
  behind_role b =
      let e : b.before ≡ u - 1 = omega (arith, b.next) in
      has_role_in code (u - 1) r (subst (λ x. HasRole code 0 x r) e b.there)

-- ---- runs

-- what the three roles are
pub record Starting (a b c : Role) (o : Option ℕ) : Type 0 where
  pub t : ℕ
  pub f : ℕ
  pub first : a ≡ role.Fork
  pub second : b ≡ role.StartArg t
  pub third : c ≡ role.StartFn t f
  pub defined : o ≡ Some t

starting : (a b c : Role) (o : Option ℕ) → AreStarting a b c o → Starting a b c o
starting role.Fork (role.StartArg t) (role.StartFn u f) (Some n) h = record {
  t = t;
  f = f;
  first = refl;
  second = refl;
  third = ap (λ x. role.StartFn x f) (h.1 ∙ sym h.0);
  defined = ap Some (sym h.0);
}
starting _ _ _ _ h = absurd h

module _ (code : List Outline) (k : ℕ) where
  pub start_from : (a b c : Role) → role_in code k ≡ Some a → role_in code (k + 1) ≡ Some b → role_in code (k + 2) ≡ Some c
      → AreStarting a b c (defined_in code k) → IsUnreached code 0 (k + 1) → IsUnreached code 0 (k + 2) → (t f : ℕ) × IsStart code k t f
  start_from a b c ra rb rc are u v =
      let s = starting a b c (defined_in code k) are in
      let d = defined_in_defines code k s.t s.defined in
      let fork = role_in_has code k role.Fork (ra ∙ ap Some s.first) in (
        s.t,
        s.f,
        record {
          number = record {
            instruction = d.by;
            there = d.there;
            is = ap (λ (i : Outline). i.role) (one d.there fork.there) ∙ fork.is;
            defines = d.defines;
          };
          argument = role_in_has code (k + 1) (role.StartArg s.t) (rb ∙ ap Some s.second);
          function = role_in_has code (k + 2) (role.StartFn s.t s.f) (rc ∙ ap Some s.third);
          argument_unreached = u;
          function_unreached = v;
        },
      )

module _ (code : List Outline) (u behind : ℕ) where
  pub in_start_from : behind ≤ u → ((t f : ℕ) × IsStart code (u - behind) t f) → InStart code u behind
  in_start_from low s = record { first = u - behind; thread = s.0; function = s.1; is = omega arith; run = s.2 }

  pub in_start_at : InStart code u behind → (t f : ℕ) × IsStart code (u - behind) t f
  in_start_at s =
      let e : s.first ≡ u - behind = omega (arith, s.is) in
      (s.thread, s.function, subst (λ x. IsStart code x s.thread s.function) e s.run)

-- ---- functions of starts

module _ (code : List Outline) (u f : ℕ) where
  pub fresh_none : IsLast (Defines code f) u None → IsFresh code u f
  fresh_none last = record {
    no_number = λ s serves has. let e = serves_last code s u f None last serves in cc;
    first_start = λ s v t g serves before has other. let e = serves_last code s u f None last serves in cc;
  }

  module _ (s : ℕ) (last : IsLast (Defines code f) u (Some s)) where
    no_start : (o : Option ℕ) → IsLast (StartsWith code f) u o → IfSome o (λ v. v < s + 1) → (v : ℕ) → s < v → v < u → StartsWith code f v → ⊥
    no_start None starts below v after before is = starts v before is
    no_start (Some w) starts below v after before is = starts.2 v (omega arith) before is

    pub fresh_from : (o : Option ℕ) → IsLast (StartsWith code f) u o → (HasRole code 0 s role.Fork → ⊥) → IfSome o (λ v. v < s + 1) → IsFresh code u f
    fresh_from o starts none below = record {
      no_number = λ r serves has. none (subst (λ x. HasRole code 0 x role.Fork) (one_server code r s u f serves (serves_from code s u f last)) has);
      first_start = λ r v t g serves before has other.
          let same : r ≡ s = one_server code r s u f serves (serves_from code s u f last) in
          let register : g ≡ f = same_Some g f (sym other.defines ∙ ap (λ (i : Outline). i.defined) (one other.there serves.there) ∙ serves.defines) in
          no_start o starts below v (omega (arith, other.before)) before (record { thread = t; there = subst (λ x. HasRole code 0 v (role.StartFn t x)) register has });
    }

    pub fresh_number : IsFresh code u f → HasRole code 0 s role.Fork → ⊥
    fresh_number fresh has = fresh.no_number s (serves_from code s u f last) has

    pub fresh_below : (o : Option ℕ) → IsLast (StartsWith code f) u o → IsFresh code u f → IfSome o (λ v. v < s + 1)
    fresh_below None starts fresh = tt
    fresh_below (Some w) starts fresh = elim (cases_lt s w) [
      | inl after ↦
          let serves : Serves code 0 s w f = record {
            by = last.1.by;
            there = last.1.there;
            defines = last.1.defines;
            before = after;
            nearest = λ k i there behind before defines. last.2 k behind (omega (arith, starts.0)) (record { by = i; there = there; defines = defines });
          } in
          absurd (fresh.first_start s w starts.1.thread f (serves_from code s u f last) starts.0 starts.1.there serves)
      | inr low ↦ omega arith
    ]
