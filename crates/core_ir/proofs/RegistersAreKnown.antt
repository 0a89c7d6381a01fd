-- What is known of each register, one instruction on.
use Rattle.std.proofs.Common.{◌≡◌, ◌∙◌, inl, inr, ℕ, ◌+◌, ◌<◌, ◌≤◌, List, Some, None, refl, sym, ap, subst, arith}
use Rattle.std.proofs.lemmas.Bool.{cases_eq}
use Rattle.std.proofs.lemmas.Option.{same_Some}
use Rattle.core_ir.specs.declared.registers.Registers.{Registers}
use Rattle.core_ir.specs.declared.role.Role.TheVariants as role
use Rattle.core_ir.specs.Outline.{Outline}
use Rattle.core_ir.specs.Flow.{Chain, HasRole, Stands}
use Rattle.core_ir.specs.inner.Registers.{AreDefined, AreKnown, Defines, IsEntered, IsLast, StartsWith, entry, linked}
use Rattle.core_ir.proofs.Places.{one}
use Rattle.core_ir.proofs.Servers.{chain_is_now, chain_less, chain_more, chain_now, chain_first, defines_one, last_kept, last_none, last_now, linked_from, linked_to}

pub known_none : (code : List Outline) (new : Registers) → ((r : ℕ) → entry new.last r ≡ None) → ((r : ℕ) → entry new.chain r ≡ None) → ((r : ℕ) → entry new.started r ≡ None) → AreKnown code 0 new
known_none code new last chain started = record {
  last = λ r. last_none (Defines code r) _ (last r);
  few = λ r s is. absurd (let e = last r in cc);
  chain = λ r k c. absurd (let low = chain_first code c in omega (arith, low));
  chained = λ r k is. absurd (let e = chain r in cc);
  started = λ r low. last_none (StartsWith code r) _ (started r);
}

module _ (code : List Outline) (u : ℕ) (i : Outline) (here : Stands code 0 u i) where
  here_has : HasRole code 0 u i.role
  here_has = record { instruction = i; there = here; is = refl }

  pub defined_same : (old : Registers) → AreKnown code u old → i.defined ≡ None → AreDefined code (u + 1) old
  defined_same old known none =
      let no : (r : ℕ) → Defines code r u → ⊥ = λ r d. let e = defines_one code here d in cc in
      record {
        last = λ r. last_kept (Defines code r) u _ _ refl (known.last r) (no r);
        few = known.few;
        chain = λ r k c. known.chain r k (chain_less code u r k (no r) c);
        chained = λ r k is. chain_more code u r k (no r) (known.chained r k is);
      }

  pub defined_more : (old new : Registers) (d : ℕ) → AreKnown code u old → i.defined ≡ Some d → d < 1024 → IsEntered old.last d (Some u) new.last → IsEntered old.chain d (linked old.chain u i.role) new.chain → AreDefined code (u + 1) new
  defined_more old new d known defines low last chain =
      let now : Defines code d u = record { by = i; there = here; defines = defines } in
      let no : (r : ℕ) → (r ≡ d → ⊥) → Defines code r u → ⊥ = λ r ne e. ne (same_Some r d (sym (defines_one code here e) ∙ defines)) in
      record {
        last = λ r. elim (cases_eq r d) [
          | inl e ↦ last_now (Defines code r) u _ (ap (λ x. entry new.last x) e ∙ last.there) (subst (λ x. Defines code x u) (sym e) now)
          | inr ne ↦ last_kept (Defines code r) u _ _ (last.elsewhere r ne) (known.last r) (no r ne)
        ];
        few = λ r s is. elim (cases_eq r d) [
          | inl e ↦ omega arith
          | inr ne ↦ known.few r s (sym (last.elsewhere r ne) ∙ is)
        ];
        chain = λ r k c. elim (cases_eq r d) [
          | inl e ↦ ap (λ x. entry new.chain x) e ∙ chain.there ∙ linked_from code u old.chain known.chain i.role k
              (chain_is_now code u d k i.role now here_has (subst (λ x. Chain code 0 (u + 1) x k) e c))
          | inr ne ↦ chain.elsewhere r ne ∙ known.chain r k (chain_less code u r k (no r ne) c)
        ];
        chained = λ r k is. elim (cases_eq r d) [
          | inl e ↦ subst (λ x. Chain code 0 (u + 1) x k) (sym e) (chain_now code u d k i.role now here_has
              (linked_to code u old.chain known.chained i.role k (sym (ap (λ x. entry new.chain x) e ∙ chain.there) ∙ is)))
          | inr ne ↦ chain_more code u r k (no r ne) (known.chained r k (sym (chain.elsewhere r ne) ∙ is))
        ];
      }

  known_from : (new : Registers) → AreDefined code (u + 1) new → ((r : ℕ) → r < 1024 → IsLast (StartsWith code r) (u + 1) (entry new.started r)) → AreKnown code (u + 1) new
  known_from new are started = record { last = are.last; few = are.few; chain = are.chain; chained = are.chained; started = started }

  pub started_same : (old new : Registers) → AreKnown code u old → new.started ≡ old.started → AreDefined code (u + 1) new → ((t f : ℕ) → i.role ≡ role.StartFn t f → 1024 ≤ f) → AreKnown code (u + 1) new
  started_same old new known same are none = known_from new are
      (λ r low. last_kept (StartsWith code r) u _ _ (ap (λ x. entry x r) same) (known.started r low)
      (λ s. let e : i.role ≡ role.StartFn s.thread r = ap (λ x. x.role) (one here s.there.there) ∙ s.there.is in absurd (omega (arith, none s.thread r e))))

  pub started_more : (old mid new : Registers) (t f : ℕ) → AreKnown code u old → mid.started ≡ old.started → AreDefined code (u + 1) mid → i.role ≡ role.StartFn t f → IsEntered mid.started f (Some u) new.started → new.last ≡ mid.last → new.chain ≡ mid.chain → AreKnown code (u + 1) new
  started_more old mid new t f known same are is entered last chain = record {
    last = subst (λ x. (r : ℕ) → IsLast (Defines code r) (u + 1) (entry x r)) (sym last) are.last;
    few = subst (λ x. (r s : ℕ) → entry x r ≡ Some s → r < 1024) (sym last) are.few;
    chain = subst (λ x. (r k : ℕ) → Chain code 0 (u + 1) r k → entry x r ≡ Some k) (sym chain) are.chain;
    chained = subst (λ x. (r k : ℕ) → entry x r ≡ Some k → Chain code 0 (u + 1) r k) (sym chain) are.chained;
    started = λ r low. elim (cases_eq r f) [
      | inl e ↦ last_now (StartsWith code r) u _ (ap (λ x. entry new.started x) e ∙ entered.there)
          (record { thread = t; there = record { instruction = i; there = here; is = is ∙ ap (λ x. role.StartFn t x) (sym e) } })
      | inr ne ↦ last_kept (StartsWith code r) u _ _ (entered.elsewhere r ne ∙ ap (λ x. entry x r) same) (known.started r low)
          (λ s. let e : role.StartFn s.thread r ≡ role.StartFn t f = sym (ap (λ x. x.role) (one here s.there.there) ∙ s.there.is) ∙ is in absurd (ne (cc)))
    ];
  }
