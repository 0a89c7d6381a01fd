-- A job is cut in one way.
use Rattle.std.proofs.Common.{◌≡◌, ◌≢◌, ◌++◌, ℕ, List, [], ◌∷◌, refl, sym, subst, ap, ◌∙◌, codes}
use Rattle.std.specs.List.{AllByRecursion, concat}
use Rattle.std.proofs.lemmas.List.Elements.{recursion_from_All}
use Rattle.job.specs.Lines.{lines_of, content, IsMark, IsCut, HasNoMark}

abbrev NoMark : List ℕ → Type 0
NoMark line = content line ≢ codes "%%"

-- a list is parted at its first mark in one way
first_mark : (b c : List (List ℕ)) (m n : List ℕ) (x y : List (List ℕ)) → b ++ m ∷ x ≡ c ++ n ∷ y → AllByRecursion NoMark b → IsMark m → AllByRecursion NoMark c → IsMark n → (b ≡ c) × (x ≡ y)
first_mark [] [] m n x y e none is none' is' = (refl, cc)
first_mark [] (l ∷ c) m n x y e none is none' is' = let same : m ≡ l = cc in absurd (none'.0 (subst IsMark same is))
first_mark (l ∷ b) [] m n x y e none is none' is' = let same : n ≡ l = cc in absurd (none.0 (subst IsMark same is'))
first_mark (l ∷ b) (k ∷ c) m n x y e none is none' is' =
    let same : l ≡ k = cc in
    let rest : b ++ m ∷ x ≡ c ++ n ∷ y = cc in
    let parts = first_mark b c m n x y rest none.1 is none'.1 is' in
    (ap (λ (h : List ℕ). h ∷ b) same ∙ ap (λ (t : List (List ℕ)). k ∷ t) parts.0, parts.1)

-- a job is cut in one way
pub cut_is_one : (job source script source' script' : List ℕ) → IsCut job source script → IsCut job source' script' → (source ≡ source') × (script ≡ script')
cut_is_one job source script source' script' a b =
    let parts = first_mark a.before b.before a.mark b.mark a.after b.after (sym a.lines ∙ b.lines)
    (recursion_from_All NoMark a.before a.first) a.is_mark (recursion_from_All NoMark b.before b.first) b.is_mark in
    (a.source_is ∙ (ap concat parts.0 ∙ sym b.source_is), a.script_is ∙ (ap concat parts.1 ∙ sym b.script_is))

no_mark_at : (b : List (List ℕ)) (m : List ℕ) (x : List (List ℕ)) → AllByRecursion NoMark (b ++ m ∷ x) → IsMark m → ⊥
no_mark_at [] m x none is = none.0 is
no_mark_at (l ∷ b) m x none is = no_mark_at b m x none.1 is

-- a job that is cut has a mark
pub cut_has_mark : (job source script : List ℕ) → IsCut job source script → HasNoMark job → ⊥
cut_has_mark job source script a none =
    no_mark_at a.before a.mark a.after (subst (λ (ls : List (List ℕ)). AllByRecursion NoMark ls) a.lines (recursion_from_All NoMark (lines_of job) none)) a.is_mark
