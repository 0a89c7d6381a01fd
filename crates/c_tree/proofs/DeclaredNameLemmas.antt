-- The name that a declarator declares is the one with which the grammar reads it.
use Rattle.std.proofs.Common.{◌≡◌, ◌∙◌, ℕ, List, [], ap}
use Rattle.c_tree.specs.declared.expression.Declarator.{Declarator, out-Declarator}
use Rattle.c_tree.specs.declared.expression.Direct.{Direct}
use Rattle.c_tree.specs.declared.expression.Direct.TheVariants as direct
use Rattle.c_tree.specs.declared.expression.Suffix.{Suffix}
use Rattle.c_tree.specs.Marks.{Kinds}
use Rattle.c_tree.specs.Trees.{declarator}
use Rattle.c_tree.specs.Grammar.{DeclaratorReads, DeclaratorForm, DirectReads}
use Rattle.c_tree.specs.inner.FoldEquations as Fold
use Rattle.c_tree.specs.DeclaredName.{naming, declared_name, name_inside}

pub declarator-of : (d : Declarator) → declared_name d ≡ name_inside (out-Declarator d).direct
unfolding declared_name name_inside
declarator-of d = Fold.declarator-of naming d

declarator-made : (n : ℕ) (d : Direct) (ss : List Suffix) → declared_name (declarator n d ss) ≡ name_inside d
unfolding declared_name name_inside
declarator-made n d ss = Fold.declarator-made naming n d ss

pub direct-Name : (x : List ℕ) → name_inside (direct.Name x) ≡ x
unfolding name_inside
direct-Name x = Fold.direct-Name naming x

pub direct-Bracketed : (d : Declarator) → name_inside (direct.Bracketed d) ≡ declared_name d
unfolding declared_name name_inside
direct-Bracketed d = Fold.direct-Bracketed naming d

mutual
  pub DeclaratorReads-name : {names : List (List ℕ)} {h : ℕ} {x : List ℕ} {ts : Kinds} {d : Declarator}
      → DeclaratorReads names h x ts d
      → declared_name d ≡ x
  DeclaratorReads-name (DeclaratorReads.plain h x ts d pairs his few free tis dis) =
      ap declared_name dis ∙ declarator-made 0 (direct.Name x) [] ∙ direct-Name x
  DeclaratorReads-name (DeclaratorReads.formed h x ts d pairs hf inner his few tis r) = DeclaratorForm-name r

  DeclaratorForm-name : {names : List (List ℕ)} {h : ℕ} {x : List ℕ} {ts : Kinds} {d : Declarator}
      → DeclaratorForm names h x ts d
      → declared_name d ≡ x
  DeclaratorForm-name (DeclaratorForm.form h x ts d stars inside suffixes hd hs ds ss his parts tis dis rd rs) =
      ap declared_name dis ∙ declarator-made stars inside suffixes ∙ DirectReads-name rd

  DirectReads-name : {names : List (List ℕ)} {h : ℕ} {x : List ℕ} {ts : Kinds} {d : Direct}
      → DirectReads names h x ts d
      → name_inside d ≡ x
  DirectReads-name (DirectReads.name_inside h x ts d pairs his few free tis dis) = ap name_inside dis ∙ direct-Name x
  DirectReads-name (DirectReads.bracketed h x ts d pairs hf inner inside his some few tis dis r) =
      ap name_inside dis ∙ direct-Bracketed inside ∙ DeclaratorForm-name r
