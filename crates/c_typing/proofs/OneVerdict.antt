-- A verdict is a form, or an item and a rule.
use Rattle.std.proofs.Common.{◌≡◌, ℕ, ◌⊎◌, inl, inr, Ok, Err, refl, ap}
use Rattle.c_tree.specs.declared.statement.Unit.{Unit as Source}
use Rattle.c_typed.specs.declared.unit.Typed.{Typed}
use Rattle.c_scope.specs.declared.rule.Rule.{Rule}
use Rattle.c_typing.specs.Sources.{Verdict, typed_source}
use Rattle.c_typing.specs.Theorems.{BreaksFirst, HasForm, SourcesHaveOneVerdict}

form_or_rule : (v : Verdict Typed) → ((t : Typed) × (v ≡ Ok t)) ⊎ ((item : ℕ) × (r : Rule) × (v ≡ Err (item, r)))
form_or_rule (Ok t) = inl (t, refl)
form_or_rule (Err e) = inr (e.0, e.1, refl)

never_both : (s : Source) (t : Typed) (item : ℕ) (r : Rule) → HasForm s t → BreaksFirst s item r → ⊥
never_both s t item r form breaks = cc

one_form : (s : Source) (t u : Typed) → HasForm s t → HasForm s u → t ≡ u
one_form s t u form other = cc

abbrev at : ℕ → Rule → ℕ × Rule
at item r = (item, r)

same_parts : (item other : ℕ) (r q : Rule) (v : Verdict Typed) → v ≡ Err (at item r) → v ≡ Err (at other q)
    → (item ≡ other) × (r ≡ q)
same_parts item other r q v is also =
    let same : at item r ≡ at other q = cc in
    (ap (λ p. p.0) same, ap (λ p. p.1) same)

pub one_verdict : SourcesHaveOneVerdict
one_verdict = record {
  one = λ s. form_or_rule (typed_source s);
  never_both = never_both;
  one_form = one_form;
  one_rule = λ s item other r q. same_parts item other r q (typed_source s);
}
