-- What is found of a source: a typed form, or one first broken rule.
use Rattle.std.specs.Prelude.{◌≡◌, ℕ, ◌⊎◌, Ok, Err}
use Rattle.c_tree.specs.declared.statement.Unit.{Unit as Source}
use Rattle.c_typed.specs.declared.unit.Typed.{Typed}
use Rattle.c_scope.specs.declared.rule.Rule.{Rule}
use Rattle.c_typing.specs.Sources.{typed_source}

-- the source breaks no rule, and this is its typed form
abbrev pub HasForm : Source → Typed → Type 0
HasForm s t = typed_source s ≡ Ok t

-- this is the first rule that the source breaks, and its item
abbrev pub BreaksFirst : Source → ℕ → Rule → Type 0
BreaksFirst s item r = typed_source s ≡ Err (item, r)

-- a source has a typed form or a first broken rule, never both, and never two of either
pub record SourcesHaveOneVerdict : Type 0 where
  pub one : (s : Source) → ((t : Typed) × HasForm s t) ⊎ ((item : ℕ) × (r : Rule) × BreaksFirst s item r)
  pub never_both : (s : Source) (t : Typed) (item : ℕ) (r : Rule) → HasForm s t → BreaksFirst s item r → ⊥
  pub one_form : (s : Source) (t u : Typed) → HasForm s t → HasForm s u → t ≡ u
  pub one_rule :
      (s : Source) (item other : ℕ) (r q : Rule)
      → BreaksFirst s item r
      → BreaksFirst s other q
      → (item ≡ other) × (r ≡ q)
