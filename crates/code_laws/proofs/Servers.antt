-- A place has one instruction, and a use one server.
use Rattle.std.proofs.Common.{◌≡◌, ◌∙◌, inl, inr, ℕ, List, sym, ap, arith}
use Rattle.std.proofs.lemmas.Bool.{cases_eq, cases_lt}
use Rattle.std.proofs.lemmas.Option.{same_Some}
use Rattle.core_ir.specs.declared.role.Role.{Role}
use Rattle.core_ir.specs.Outline.{Outline}
use Rattle.core_ir.specs.Flow.{HasRole, Serves, Stands}

module _ (code : List Outline) where
  one_instruction : {k : ℕ} {i j : Outline} → Stands code 0 k i → Stands code 0 k j → i ≡ j
  one_instruction {k} {i} {j} s t = same_Some i j (sym s.there ∙ t.there)

  pub one_role : {k : ℕ} {a b : Role} → HasRole code 0 k a → HasRole code 0 k b → a ≡ b
  one_role x y = sym x.is ∙ ap (λ (i : Outline). i.role) (one_instruction x.there y.there) ∙ y.is

  pub one_server : (s t u r : ℕ) → Serves code 0 s u r → Serves code 0 t u r → s ≡ t
  one_server s t u r a b = elim (cases_eq s t) [
    | inl e ↦ e
    | inr ne ↦ elim (cases_lt s t) [
      | inl low ↦ absurd (a.nearest t b.by b.there low b.before b.defines)
      | inr high ↦ absurd (b.nearest s a.by a.there (omega arith) a.before a.defines)
    ]
  ]
