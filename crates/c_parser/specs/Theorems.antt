-- What one text can be: at most one item begins it, and it is one source at most, or none.
use Rattle.std.specs.Prelude.{◌≡◌, ℕ, ◌≤◌, List, ◌++◌}
use Rattle.c_tree.specs.declared.statement.Item.{Item}
use Rattle.c_tree.specs.declared.statement.Unit.{Unit as Source}
use Rattle.c_tree.specs.Marks.{Kinds, greatest_depth}
use Rattle.c_tree.specs.RoundTrip.{IsTextOf}
use Rattle.c_tree.specs.Statements.{ItemReads, SourceReads, IsSyntaxRefusal}

-- whatever follows, the tokens begin with one item at most
abbrev pub ItemsAreToldApart : Type 0
ItemsAreToldApart =
    (names : List (List ℕ)) (g h : ℕ) (new more : List (List ℕ)) (ts us rest others : Kinds) (i j : Item)
    → g ≤ greatest_depth
    → h ≤ greatest_depth
    → ItemReads names g new ts i
    → ItemReads names h more us j
    → ts ++ rest ≡ us ++ others
    → (i ≡ j) × (new ≡ more) × (ts ≡ us)

abbrev pub SourcesHaveOneTree : Type 0
SourcesHaveOneTree = (ts : Kinds) (a b : Source) → SourceReads ts a → SourceReads ts b → a ≡ b

-- one text is that of one tree at most
abbrev pub TextsHaveOneTree : Type 0
TextsHaveOneTree = (text : List ℕ) (a b : Source) → IsTextOf a text → IsTextOf b text → a ≡ b

-- a refusal stands behind one number of items, and no source has the tokens
abbrev pub RefusalsAreCertain : Type 0
RefusalsAreCertain =
    (ts : Kinds) (count : ℕ)
    → IsSyntaxRefusal ts count
    → ((other : ℕ) → IsSyntaxRefusal ts other → other ≡ count) × ((source : Source) → SourceReads ts source → ⊥)
