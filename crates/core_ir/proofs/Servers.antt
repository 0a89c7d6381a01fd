-- What serves a register, and its chain, one instruction on.
use Rattle.std.proofs.Common.{◌≡◌, ◌∙◌, inl, inr, ℕ, ◌+◌, ◌<◌, List, Option, Some, None, refl, sym, ap, subst, arith}
use Rattle.std.proofs.lemmas.Bool.{cases_eq, cases_lt}
use Rattle.std.proofs.lemmas.Option.{same_Some}
use Rattle.core_ir.specs.declared.role.Role.{Role}
use Rattle.core_ir.specs.declared.role.Role.TheVariants as role
use Rattle.core_ir.specs.Outline.{Outline}
use Rattle.core_ir.specs.Flow.{Chain, from_load, from_slot, through, HasRole, Serves, Stands}
use Rattle.core_ir.specs.inner.Registers.{Defines, IsLast, LinkedAt, entry, linked}
use Rattle.core_ir.proofs.Places.{one}

-- ---- the last place of which something holds

pub last_none : (P : ℕ → Type 0) (o : Option ℕ) → o ≡ None → IsLast P 0 o
last_none P None is = λ k before p. absurd (omega arith)
last_none P (Some s) is = absurd (cc)

pub last_now : (P : ℕ → Type 0) (u : ℕ) (o : Option ℕ) → o ≡ Some u → P u → IsLast P (u + 1) o
last_now P u None is p = absurd (cc)
last_now P u (Some s) is p =
    let e : u ≡ s = same_Some u s (sym is) in
    (omega arith, subst P e p, λ k behind before q. absurd (omega arith))

pub last_kept : (P : ℕ → Type 0) (u : ℕ) (o n : Option ℕ) → n ≡ o → IsLast P u o → (P u → ⊥) → IsLast P (u + 1) n
last_kept P u None None is last none = λ k before p. elim (cases_eq k u) [
  | inl e ↦ none (subst P e p)
  | inr ne ↦ last k (omega arith) p
]
last_kept P u None (Some s) is last none = absurd (cc)
last_kept P u (Some s) None is last none = absurd (cc)
last_kept P u (Some s) (Some t) is last none =
    let e : s ≡ t = same_Some s t (sym is) in (
      omega (arith, last.0),
      subst P e last.1,
      λ k behind before p. elim (cases_eq k u) [
        | inl same ↦ none (subst P same p)
        | inr ne ↦ last.2 k (omega arith) (omega arith) p
      ],
    )

-- ---- servers

module _ (code : List Outline) where
  pub defines_one : {r k : ℕ} {i : Outline} → Stands code 0 k i → Defines code r k → i.defined ≡ Some r
  defines_one {r} {k} {i} here d = ap (λ x. x.defined) (one here d.there) ∙ d.defines

  pub serves_from : (s u r : ℕ) → IsLast (Defines code r) u (Some s) → Serves code 0 s u r
  serves_from s u r last = record {
    by = last.1.by;
    there = last.1.there;
    defines = last.1.defines;
    before = last.0;
    nearest = λ k i there behind before defines. last.2 k behind before (record { by = i; there = there; defines = defines });
  }

  pub serves_last : (s u r : ℕ) (o : Option ℕ) → IsLast (Defines code r) u o → Serves code 0 s u r → o ≡ Some s
  serves_last s u r None last serves = absurd (last s serves.before (record { by = serves.by; there = serves.there; defines = serves.defines }))
  serves_last s u r (Some t) last serves = elim (cases_eq t s) [
    | inl e ↦ ap Some e
    | inr ne ↦ elim (cases_lt t s) [
      | inl low ↦ absurd (last.2 s low serves.before (record { by = serves.by; there = serves.there; defines = serves.defines }))
      | inr high ↦ absurd (serves.nearest t last.1.by last.1.there (omega arith) last.0 last.1.defines)
    ]
  ]

  pub server_defines : (s u r : ℕ) → Serves code 0 s u r → Defines code r s
  server_defines s u r serves = record { by = serves.by; there = serves.there; defines = serves.defines }

  pub one_server : (s t u r : ℕ) → Serves code 0 s u r → Serves code 0 t u r → s ≡ t
  one_server s t u r a b = elim (cases_eq s t) [
    | inl e ↦ e
    | inr ne ↦ elim (cases_lt s t) [
      | inl low ↦ absurd (a.nearest t b.by b.there low b.before b.defines)
      | inr high ↦ absurd (b.nearest s a.by a.there (omega arith) a.before a.defines)
    ]
  ]

  module _ (u : ℕ) where
    pub serves_more : (s r : ℕ) → (Defines code r u → ⊥) → Serves code 0 s u r → Serves code 0 s (u + 1) r
    serves_more s r none serves = record {
      by = serves.by;
      there = serves.there;
      defines = serves.defines;
      before = omega (arith, serves.before);
      nearest = λ k i there behind before defines. elim (cases_eq k u) [
        | inl e ↦ none (record { by = i; there = subst (λ x. Stands code 0 x i) e there; defines = defines })
        | inr ne ↦ serves.nearest k i there behind (omega arith) defines
      ];
    }

    pub serves_less : (s r : ℕ) → (Defines code r u → ⊥) → Serves code 0 s (u + 1) r → Serves code 0 s u r
    serves_less s r none serves = record {
      by = serves.by;
      there = serves.there;
      defines = serves.defines;
      before = elim (cases_eq s u) [
        | inl e ↦ absurd (none (subst (λ x. Defines code r x) e (server_defines s (u + 1) r serves)))
        | inr ne ↦ omega (arith, serves.before)
      ];
      nearest = λ k i there behind before defines. serves.nearest k i there behind (omega arith) defines;
    }

    pub serves_now : (r : ℕ) → Defines code r u → Serves code 0 u (u + 1) r
    serves_now r d = record {
      by = d.by;
      there = d.there;
      defines = d.defines;
      before = omega arith;
      nearest = λ k i there behind before defines. absurd (omega arith);
    }

  -- ---- chains

  -- what a chain begins with
  pub record Link (u r k : ℕ) : Type 0 where
    pub s : ℕ
    pub serves : Serves code 0 s u r
    pub is : Role
    pub has : HasRole code 0 s is
    pub links : LinkedAt code s is k

  pub link : {u r k : ℕ} → Chain code 0 u r k → Link u r k
  link (from_load s u r p serves has) = record { s = s; serves = serves; is = role.Load p; has = has; links = refl }
  link (from_slot s u r n serves has) = record { s = s; serves = serves; is = role.Slot n; has = has; links = refl }
  link (through s u r a k serves has c) = record { s = s; serves = serves; is = role.Cast a; has = has; links = c }

  pub chain_of : (s u r k : ℕ) (is : Role) → Serves code 0 s u r → HasRole code 0 s is → LinkedAt code s is k → Chain code 0 u r k
  chain_of s u r k (role.Load p) serves has links = subst (λ x. Chain code 0 u r x) (sym links) (from_load s u r p serves has)
  chain_of s u r k (role.Slot n) serves has links = subst (λ x. Chain code 0 u r x) (sym links) (from_slot s u r n serves has)
  chain_of s u r k (role.Cast a) serves has links = through s u r a k serves has links
  chain_of s u r k _ serves has links = absurd links

  pub one_role : {k : ℕ} {a b : Role} → HasRole code 0 k a → HasRole code 0 k b → a ≡ b
  one_role x y = sym x.is ∙ ap (λ i. i.role) (one x.there y.there) ∙ y.is

  -- the table's entry for what is defined at u, if the table is right at u
  module _ (u : ℕ) (table : List (Option ℕ)) where
    pub linked_to : ((r k : ℕ) → entry table r ≡ Some k → Chain code 0 u r k) → (is : Role) (k : ℕ) → linked table u is ≡ Some k → LinkedAt code u is k
    linked_to right (role.Load p) k e = same_Some k u (sym e)
    linked_to right (role.Slot n) k e = same_Some k u (sym e)
    linked_to right (role.Cast a) k e = right a k e
    linked_to right _ k e = absurd (cc)

    pub linked_from : ((r k : ℕ) → Chain code 0 u r k → entry table r ≡ Some k) → (is : Role) (k : ℕ) → LinkedAt code u is k → linked table u is ≡ Some k
    linked_from right (role.Load p) k e = ap Some (sym e)
    linked_from right (role.Slot n) k e = ap Some (sym e)
    linked_from right (role.Cast a) k e = right a k e
    linked_from right _ k e = absurd e

  module _ (u : ℕ) where
    pub chain_more : (r k : ℕ) → (Defines code r u → ⊥) → Chain code 0 u r k → Chain code 0 (u + 1) r k
    chain_more r k none c = let l = link c in chain_of l.s (u + 1) r k l.is (serves_more u l.s r none l.serves) l.has l.links

    pub chain_less : (r k : ℕ) → (Defines code r u → ⊥) → Chain code 0 (u + 1) r k → Chain code 0 u r k
    chain_less r k none c = let l = link c in chain_of l.s u r k l.is (serves_less u l.s r none l.serves) l.has l.links

    pub chain_now : (r k : ℕ) (is : Role) → Defines code r u → HasRole code 0 u is → LinkedAt code u is k → Chain code 0 (u + 1) r k
    chain_now r k is d has links = chain_of u (u + 1) r k is (serves_now u r d) has links

    pub chain_is_now : (r k : ℕ) (is : Role) → Defines code r u → HasRole code 0 u is → Chain code 0 (u + 1) r k → LinkedAt code u is k
    chain_is_now r k is d has c =
        let l = link c in
        let here : l.s ≡ u = one_server l.s u (u + 1) r l.serves (serves_now u r d) in
        let same : l.is ≡ is = one_role (subst (λ x. HasRole code 0 x l.is) here l.has) has in
        subst (λ x. LinkedAt code u x k) same (subst (λ x. LinkedAt code x l.is k) here l.links)

  -- a chain begins before its use
  pub chain_first : {u r k : ℕ} → Chain code 0 u r k → k < u
  chain_first (from_load s u r p serves has) = serves.before
  chain_first (from_slot s u r n serves has) = serves.before
  chain_first (through s u r a k serves has c) = omega (arith, chain_first c, serves.before)
