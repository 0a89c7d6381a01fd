-- The lines of a text, and a job's source and script.
use Rattle.std.specs.Prelude.{◌≡◌, ◌≢◌, ℕ, ◌&&◌, cond, nat_eq, List, [], ◌∷◌, ◌++◌, codes}
use Rattle.std.specs.List.{All, concat}

-- b goes to the front of the first line
abbrev pub onto_first : ℕ → List (List ℕ) → List (List ℕ)
onto_first b [] = (b ∷ []) ∷ []
onto_first b (line ∷ lines) = (b ∷ line) ∷ lines

-- the lines, each with the LF that ends it; the last may lack it
abbrev pub lines_of : List ℕ → List (List ℕ)
lines_of [] = []
lines_of (b ∷ bs) = cond (nat_eq b 10) ((10 ∷ []) ∷ lines_of bs) (onto_first b (lines_of bs))

-- what a line says: without its LF, and without one CR directly before that
abbrev pub content : List ℕ → List ℕ
content [] = []
content (b ∷ []) = cond (nat_eq b 10) [] (b ∷ [])
content (b ∷ c ∷ []) = cond (nat_eq b 13 && nat_eq c 10) [] (b ∷ content (c ∷ []))
content (b ∷ c ∷ d ∷ bs) = b ∷ content (c ∷ d ∷ bs)

-- the line that ends a source
abbrev pub IsMark : List ℕ → Type 0
IsMark line = content line ≡ codes "%%"

-- the source is what stands before the first such line, and the script what stands behind it
pub record IsCut (job source script : List ℕ) : Type 0 where
  pub before : List (List ℕ)
  pub mark : List ℕ
  pub after : List (List ℕ)
  pub lines : lines_of job ≡ before ++ mark ∷ after
  pub is_mark : IsMark mark
  pub first : All (λ line. content line ≢ codes "%%") before
  pub source_is : source ≡ concat before
  pub script_is : script ≡ concat after

-- no line ends the source
abbrev pub HasNoMark : List ℕ → Type 0
HasNoMark job = All (λ line. content line ≢ codes "%%") (lines_of job)
