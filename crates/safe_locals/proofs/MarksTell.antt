-- Marks tell what serves each register, one place on.
use Rattle.std.proofs.Common.{◌≡◌, ◌∙◌, inl, inr, ℕ, ◌+◌, ◌<◌, List, length, replicate, Some, None, slice_set, ℤ, pos, ◌+ℤ◌, ◌*ℤ◌, refl, sym, ap, subst, arith}
use Rattle.std.proofs.lemmas.Bool.{cases_eq, cases_lt}
use Rattle.std.proofs.lemmas.List.{get_or-replicate, get_or-set_other, get_or-set_same, get_or_past, length-replicate}
use Rattle.std.proofs.lemmas.Option.{same_Some}
use Rattle.core_ir.specs.declared.role.Role.{Role}
use Rattle.core_ir.specs.declared.role.Role.TheVariants as role
use Rattle.core_ir.specs.Outline.{Outline}
use Rattle.core_ir.specs.Flow.{HasRole, Serves, Stands}
use Rattle.core_ir.specs.SafeLocal.{IsAddress, base, indexed, shifted}
use Rattle.safe_locals.specs.declared.mark.Mark.{Mark}
use Rattle.safe_locals.specs.declared.mark.Mark.TheVariants as mark
use Rattle.core_ir.specs.Flow.{Chain}
use Rattle.safe_locals.specs.inner.Marks.{AreMarks, IsWithin, Makes, MakesOther, Reads, Tells, converted, made, mark_at, most_offset, moved, moved_by}
use Rattle.safe_locals.proofs.Chains.{address_no_chain, chain_of, ends_by, link, number_no_chain, one_read}
use Rattle.safe_locals.proofs.Serving.{nothing_before, one_role, one_server, role_here, serves_less, serves_more, serves_now}
use Rattle.safe_locals.proofs.Addresses.{by_role, one_address}

const_same : (c d : ℤ) → role.Const c ≡ role.Const d → c ≡ d
const_same c d e = cc

module _ {code : List Outline} where
  number_no_address : {s v : ℕ} {c o : ℤ} → HasRole code 0 s (role.Const c) → IsAddress code s v o → ⊥
  number_no_address {s} {v} {c} {o} has a = by_role (role.Const c) has a

  -- ---- the mark, by what serves

  pub address_mark : {u r s v : ℕ} {o : ℤ} (m : Mark) → Tells code u r m → Serves code 0 s u r → IsAddress code s v o → m ≡ mark.Address v o
  address_mark {u} {r} {s} {v} {o} (mark.Address w q) t serves a =
      let same = one_address (t.right s serves) a in ap (λ x. mark.Address x q) same.0 ∙ ap (λ x. mark.Address v x) same.1
  address_mark (mark.Number c) t serves a = absurd (number_no_address (t.right _ serves) a)
  address_mark (mark.Read f) t serves a = absurd (address_no_chain _ f _ _ a (t.right _ serves))
  address_mark mark.Other t serves a = absurd ((t.right _ serves).no_address _ _ a)

  pub number_mark : {u r s : ℕ} {c : ℤ} (m : Mark) → Tells code u r m → Serves code 0 s u r → HasRole code 0 s (role.Const c) → m ≡ mark.Number c
  number_mark {u} {r} {s} {c} (mark.Number d) t serves has = ap mark.Number (const_same d c (one_role (t.right s serves) has))
  number_mark (mark.Address w q) t serves has = absurd (number_no_address has (t.right _ serves))
  number_mark (mark.Read f) t serves has = absurd (number_no_chain _ f _ has (t.right _ serves))
  number_mark mark.Other t serves has = absurd ((t.right _ serves).no_number _ has)

  pub read_mark : {u r s first : ℕ} (m : Mark) → Tells code u r m → Serves code 0 s u r → Reads code s first → m ≡ mark.Read first
  read_mark {u} {r} {s} {first} (mark.Read f) t serves reads = ap mark.Read (one_read s f first (t.right s serves) reads)
  read_mark {u} {r} {s} {first} (mark.Number c) t serves reads = absurd (number_no_chain s first c (t.right s serves) reads)
  read_mark {u} {r} {s} {first} (mark.Address w q) t serves reads = absurd (address_no_chain s first w q (t.right s serves) reads)
  read_mark {u} {r} {s} {first} mark.Other t serves reads = absurd ((t.right s serves).no_chain first reads)

  -- what a mark that isn't `Other` tells of what serves
  pub tells_server : {u r : ℕ} (m : Mark) → Tells code u r m → (m ≡ mark.Other → ⊥) → (s : ℕ) × Serves code 0 s u r
  tells_server m t other = elim t.served [
    | inl e ↦ absurd (other e)
    | inr server ↦ server
  ]

  -- ---- what the instruction at u makes

  module _ (u : ℕ) where
    shifted_makes : (p n : ℕ) (m : Mark) → Tells code u p m → HasRole code 0 u (role.Shifted p n) → Makes code u (moved m (pos n))
    shifted_makes p n (mark.Address v o) t has =
        let s = tells_server (mark.Address v o) t (λ e. cc) in shifted u v p n s.0 o (o +ℤ pos n) has s.1 (t.right s.0 s.1) refl
    shifted_makes p n (mark.Number c) t has = record {
      no_number = λ d is. let e = one_role has is in cc;
      no_address = λ v o a. let x = by_role (role.Shifted p n) has a in number_no_address (t.right x.0 x.2) x.3;
      no_chain = λ f reads. ends_by u f (role.Shifted p n) has reads;
    }
    shifted_makes p n (mark.Read g) t has = record {
      no_number = λ d is. let e = one_role has is in cc;
      no_address = λ v o a. let x = by_role (role.Shifted p n) has a in address_no_chain x.0 g v x.1 x.3 (t.right x.0 x.2);
      no_chain = λ f reads. ends_by u f (role.Shifted p n) has reads;
    }
    shifted_makes p n mark.Other t has = record {
      no_number = λ d is. let e = one_role has is in cc;
      no_address = λ v o a. let x = by_role (role.Shifted p n) has a in (t.right x.0 x.2).no_address v x.1 x.3;
      no_chain = λ f reads. ends_by u f (role.Shifted p n) has reads;
    }

    moved_by_number : (p i n : ℕ) (c : ℤ) (m : Mark) → Tells code u p m → Tells code u i (mark.Number c) → HasRole code 0 u (role.Indexed p i n) → Makes code u (moved m (c *ℤ pos n))
    moved_by_number p i n c (mark.Address v o) t ti has =
        let s = tells_server (mark.Address v o) t (λ e. cc) in
        let j = tells_server (mark.Number c) ti (λ e. cc) in
        indexed u v p i n s.0 j.0 o c (o +ℤ c *ℤ pos n) has s.1 (t.right s.0 s.1) j.1 (ti.right j.0 j.1) refl
    moved_by_number p i n c (mark.Number d) t ti has = record {
      no_number = λ d is. let e = one_role has is in cc;
      no_address = λ v o a. let x = by_role (role.Indexed p i n) has a in number_no_address (t.right x.0 x.4) x.5;
      no_chain = λ f reads. ends_by u f (role.Indexed p i n) has reads;
    }
    moved_by_number p i n c (mark.Read g) t ti has = record {
      no_number = λ d is. let e = one_role has is in cc;
      no_address = λ v o a. let x = by_role (role.Indexed p i n) has a in address_no_chain x.0 g v x.2 x.5 (t.right x.0 x.4);
      no_chain = λ f reads. ends_by u f (role.Indexed p i n) has reads;
    }
    moved_by_number p i n c mark.Other t ti has = record {
      no_number = λ d is. let e = one_role has is in cc;
      no_address = λ v o a. let x = by_role (role.Indexed p i n) has a in (t.right x.0 x.4).no_address v x.2 x.5;
      no_chain = λ f reads. ends_by u f (role.Indexed p i n) has reads;
    }

    -- an index that is no number moves nothing
    no_number_makes : (p i n : ℕ) → ((s : ℕ) (c : ℤ) → Serves code 0 s u i → HasRole code 0 s (role.Const c) → ⊥) → HasRole code 0 u (role.Indexed p i n) → MakesOther code u
    no_number_makes p i n none has = record {
      no_number = λ d is. let e = one_role has is in cc;
      no_address = λ v o a. let x = by_role (role.Indexed p i n) has a in none x.1 x.3 x.6 x.7;
      no_chain = λ f reads. ends_by u f (role.Indexed p i n) has reads;
    }

    indexed_makes : (p i n : ℕ) (m k : Mark) → Tells code u p m → Tells code u i k → HasRole code 0 u (role.Indexed p i n) → Makes code u (moved_by m k n)
    indexed_makes p i n m (mark.Number c) t ti has = moved_by_number p i n c m t ti has
    indexed_makes p i n m (mark.Address w q) t ti has = no_number_makes p i n (λ s c serves is. number_no_address is (ti.right s serves)) has
    indexed_makes p i n m (mark.Read g) t ti has = no_number_makes p i n (λ s c serves is. number_no_chain s g c is (ti.right s serves)) has
    indexed_makes p i n m mark.Other t ti has = no_number_makes p i n (λ s c serves is. (ti.right s serves).no_number c is) has

    -- nor is it the end of a chain, where what is converted is none
    no_chain_makes : (a : ℕ) → ((s f : ℕ) → Serves code 0 s u a → Reads code s f → ⊥) → HasRole code 0 u (role.Cast a) → MakesOther code u
    no_chain_makes a none has = record {
      no_number = λ d is. let e = one_role has is in cc;
      no_address = λ v o x. by_role (role.Cast a) has x;
      no_chain = λ f reads.
          let c : Chain code 0 u a f = ends_by u f (role.Cast a) has reads in
          let l = link c in none l.server f l.serves l.reads;
    }

    cast_makes : (a : ℕ) (m : Mark) → Tells code u a m → HasRole code 0 u (role.Cast a) → Makes code u (converted m)
    cast_makes a (mark.Read f) t has =
        let s = tells_server (mark.Read f) t (λ e. cc) in record { by = role.Cast a; has = has; ends = chain_of s.0 u a f s.1 (t.right s.0 s.1) }
    cast_makes a (mark.Number c) t has = no_chain_makes a (λ s f serves reads. number_no_chain s f c (t.right s serves) reads) has
    cast_makes a (mark.Address v o) t has = no_chain_makes a (λ s f serves reads. address_no_chain s f v o (t.right s serves) reads) has
    cast_makes a mark.Other t has = no_chain_makes a (λ s f serves reads. (t.right s serves).no_chain f reads) has

    module _ (marks : List Mark) (tell : (r : ℕ) → Tells code u r (mark_at marks r)) where
      pub makes : (r : Role) → HasRole code 0 u r → Makes code u (made marks u r)
      makes (role.Const c) has = has
      makes (role.Local v) has = base u v (pos 0) has refl
      makes (role.Shifted p n) has = shifted_makes p n (mark_at marks p) (tell p) has
      makes (role.Indexed p i n) has = indexed_makes p i n (mark_at marks p) (mark_at marks i) (tell p) (tell i) has
      makes (role.Load p) has = record { by = role.Load p; has = has; ends = refl }
      makes (role.Slot s) has = record { by = role.Slot s; has = has; ends = refl }
      makes (role.Cast a) has = cast_makes a (mark_at marks a) (tell a) has
      makes _ has = record {
        no_number = λ d is. let e = one_role has is in cc;
        no_address = λ v o a. by_role _ has a;
        no_chain = λ f reads. ends_by u f _ has reads;
      }

  -- ---- one place on

  pub tells_none : (r : ℕ) (m : Mark) → m ≡ mark.Other → Tells code 0 r m
  tells_none r m is = record { right = λ s serves. absurd (nothing_before serves); served = inl is }

  module _ (u : ℕ) (i : Outline) (there : Stands code 0 u i) where
    tells_kept : (r : ℕ) (m : Mark) → (i.defined ≡ Some r → ⊥) → Tells code u r m → Tells code (u + 1) r m
    tells_kept r m none t = record {
      right = λ s serves. t.right s (serves_less u i there none serves);
      served = elim t.served [
        | inl e ↦ inl e
        | inr server ↦ inr (server.0, serves_more u i there none server.1)
      ];
    }

    tells_now : (r : ℕ) (m : Mark) → i.defined ≡ Some r → Makes code u m → Tells code (u + 1) r m
    tells_now r m defines is = record {
      right = λ s serves. subst (λ x. Makes code x m) (one_server (serves_now u i there defines) serves) is;
      served = inr (u, serves_now u i there defines);
    }

    within_kept : (m : Mark) → IsWithin (most_offset u) m → IsWithin (most_offset (u + 1)) m
    within_kept (mark.Address v o) is = omega (arith, is)
    within_kept (mark.Number c) is = tt
    within_kept (mark.Read f) is = tt
    within_kept mark.Other is = tt

    pub marks_same : (marks : List Mark) → AreMarks code u marks → i.defined ≡ None → AreMarks code (u + 1) marks
    marks_same marks are none = record {
      tell = λ r. tells_kept r (mark_at marks r) (λ e. cc) (are.tell r);
      within = λ r. within_kept (mark_at marks r) (are.within r);
    }

    pub marks_more : (marks : List Mark) (d : ℕ) → AreMarks code u marks → i.defined ≡ Some d → d < length marks → IsWithin (most_offset (u + 1)) (made marks u i.role)
        → AreMarks code (u + 1) (slice_set marks d (made marks u i.role))
    marks_more marks d are defines low within =
        let m : Mark = made marks u i.role in
        let now : mark_at (slice_set marks d m) d ≡ m = get_or-set_same marks d m mark.Other low in
        let other : (r : ℕ) → (r ≡ d → ⊥) → mark_at (slice_set marks d m) r ≡ mark_at marks r = λ r ne. get_or-set_other marks d r m mark.Other ne in
        record {
          tell = λ r. elim (cases_eq r d) [
            | inl e ↦ subst (λ x. Tells code (u + 1) x (mark_at (slice_set marks d m) x)) (sym e)
                (subst (Tells code (u + 1) d) (sym now) (tells_now d m defines (makes u marks are.tell i.role (role_here there))))
            | inr ne ↦ subst (Tells code (u + 1) r) (sym (other r ne)) (tells_kept r (mark_at marks r) (λ e. ne (same_Some r d (sym e ∙ defines))) (are.tell r))
          ];
          within = λ r. elim (cases_eq r d) [
            | inl e ↦ subst (λ x. IsWithin (most_offset (u + 1)) (mark_at (slice_set marks d m) x)) (sym e) (subst (IsWithin (most_offset (u + 1))) (sym now) within)
            | inr ne ↦ subst (IsWithin (most_offset (u + 1))) (sym (other r ne)) (within_kept (mark_at marks r) (are.within r))
          ];
        }

-- nothing is known before the first place
pub marks_first : (code : List Outline) (marks : List Mark) → ((r : ℕ) → mark_at marks r ≡ mark.Other) → AreMarks code 0 marks
marks_first code marks none = record {
  tell = λ r. tells_none {code = code} r (mark_at marks r) (none r);
  within = λ r. subst (IsWithin (most_offset 0)) (sym (none r)) tt;
}

-- a table in which nothing is known
pub other_marks : (n r : ℕ) → mark_at (replicate n mark.Other) r ≡ mark.Other
other_marks n r = elim (cases_lt r n) [
  | inl low ↦ get_or-replicate n r mark.Other mark.Other low
  | inr high ↦ get_or_past (replicate n mark.Other) r mark.Other (omega (arith, length-replicate {A = Mark} n mark.Other))
]
