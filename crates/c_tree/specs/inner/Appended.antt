-- What the printer's functions do to the text.
use Rattle.std.specs.Prelude.{◌≡◌, ℕ, List, ◌++◌}
use Rattle.c_tree.specs.Marks.{Kinds}
use Rattle.c_tree.specs.Written.{written}

-- the texts of these tokens are appended
pub record Appends (before : List ℕ) (ts : Kinds) (after : List ℕ) : Type 0 where
  pub is : after ≡ before ++ written ts
