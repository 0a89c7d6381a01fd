-- What a job can be: it is cut in one way at most.
use Rattle.std.specs.Prelude.{◌≡◌, ℕ, List}
use Rattle.job.specs.Lines.{IsCut, HasNoMark}

abbrev pub JobsHaveOneCut : Type 0
JobsHaveOneCut =
    (job source script source' script' : List ℕ)
    → IsCut job source script
    → IsCut job source' script'
    → (source ≡ source') × (script ≡ script')

-- a job that is cut has a line that ends its source
abbrev pub CutJobsHaveAMark : Type 0
CutJobsHaveAMark =
    (job source script : List ℕ)
    → IsCut job source script
    → HasNoMark job
    → ⊥
