-- What holds of every tree.
use Rattle.std.specs.Prelude.{◌≡◌, ℕ, List}
use Rattle.c_tree.specs.declared.expression.Declarator.{Declarator}
use Rattle.c_tree.specs.Marks.{Kinds}
use Rattle.c_tree.specs.Grammar.{DeclaratorReads}
use Rattle.c_tree.specs.DeclaredName.{declared_name}

-- the name with which the grammar reads a declarator is the one that its tree declares
abbrev pub DeclaratorsDeclareTheirNames : Type 0
DeclaratorsDeclareTheirNames = (names : List (List ℕ)) (h : ℕ) (x : List ℕ) (ts : Kinds) (d : Declarator)
    → DeclaratorReads names h x ts d
    → declared_name d ≡ x
