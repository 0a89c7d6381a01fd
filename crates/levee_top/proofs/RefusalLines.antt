-- The line of a rule that is broken, from its two pieces.
use Rattle.std.proofs.Common.{◌≡◌, ◌++◌, ◌∙◌, ℕ, List, ap, append_assoc, sym}

pub type_line : (old mid new words item space rule : List ℕ) → mid ≡ old ++ (words ++ item) → new ≡ mid ++ (space ++ rule)
    → new ≡ old ++ (words ++ item ++ space ++ rule)
type_line old mid new words item space rule first second =
    second ∙ (ap (λ (x : List ℕ). x ++ (space ++ rule)) first
    ∙ (append_assoc old (words ++ item) (space ++ rule)
    ∙ ap (λ (x : List ℕ). old ++ x) (sym (append_assoc (words ++ item) space rule))))
