-- Words and an input have one outcome. An input is told stage by stage, by its cut, its source and its script, and each
-- stage has one answer.
use Rattle.std.proofs.Common.{◌≡◌, ◌⊎◌, ℕ, ℤ, Bool, true, false, List, Result, Ok, Err, refl, sym, subst, ap, ◌∙◌, inl, inr, ⊎_elim, arith}
use Rattle.core_ir.specs.declared.program.Program.{Program}
use Rattle.job.specs.Theorems.{JobsHaveOneCut, CutJobsHaveAMark}
use Rattle.machine.specs.declared.code.Code.{Code}
use Rattle.machine.specs.Stands.{Stands}
use Rattle.machine.specs.Trace.{trace_of}
use Rattle.meaning.specs.declared.event.Event.{Event}
use Rattle.meaning.specs.Records.{is_violated}
use Rattle.script.specs.declared.error.ScriptRefusal.{ScriptRefusal}
use Rattle.script.specs.declared.error.ScriptRefusal.TheVariants as found
use Rattle.script.specs.declared.read.Script.{Script}
use Rattle.script.specs.Script.{Has}
use Rattle.script.specs.Theorems.{ScriptsHaveOneAnswer}
use Rattle.trace.specs.Text.{run_text}
use Rattle.code_laws.specs.Theorems.{ProgramsHaveOneCode}
use Rattle.levee_top.specs.declared.command.Command.{Command}
use Rattle.levee_top.specs.declared.command.Command.TheVariants.{Run}
use Rattle.levee_top.specs.declared.failure.Failure.{Failure}
use Rattle.levee_top.specs.declared.failure.Failure.TheVariants.{Refused, Memory}
use Rattle.levee_top.specs.declared.refusal.Refusal.{Refusal}
use Rattle.levee_top.specs.declared.refusal.Refusal.TheVariants as refusal
use Rattle.levee_top.specs.declared.status.Status.{Status}
use Rattle.levee_top.specs.Command.{run_words, IsCommand, IsNoCommand}
use Rattle.levee_top.specs.Outcome.{IsRun, status_of, steps_of, IsNoJob, IsJob, IsAccepted, Refuses, no_job, no_program, bad_line, too_long, Outcome, usage, refused, ran}
use Rattle.levee_top.specs.Refusal.{IsRefused}
use Rattle.levee_top.specs.inner.Failure.{script_failure}
use Rattle.levee_top.proofs.OneSource.{SourceLaws, SourceGives, source_is_one, program_gives, refusal_gives}
use Rattle.levee_top.proofs.Stages.{Stage, IsOne, Then, then_is_one, same_found, same_refusal, never_both}

-- the laws of the stages
pub record InputLaws : Type 0 where
  pub cuts : JobsHaveOneCut
  pub marks : CutJobsHaveAMark
  pub source : SourceLaws
  pub scripts : ScriptsHaveOneAnswer
  pub codes : ProgramsHaveOneCode

-- ---- jobs

abbrev JobOf : Stage (List ℕ) (List ℕ × List ℕ)
JobOf input (Ok job) = IsJob input job.0 job.1
JobOf input (Err why) = IsNoJob input × (why ≡ refusal.Job)

not_both : CutJobsHaveAMark → (input source script : List ℕ) → IsNoJob input → IsJob input source script → ⊥
not_both marks input source script none job =
    let few = job.small in
    ⊎_elim (λ long. omega arith) (λ no_mark. marks input source script job.cut no_mark) none

job_is_one : JobsHaveOneCut → CutJobsHaveAMark → IsOne JobOf
job_is_one cuts marks input (Ok a) (Ok b) p q =
    let parts = cuts input a.0 a.1 b.0 b.1 p.cut q.cut in
    ap Ok (ap (λ source. (source, a.1)) parts.0 ∙ ap (λ script. (b.0, script)) parts.1)
job_is_one cuts marks input (Ok a) (Err e) p q = absurd (not_both marks input a.0 a.1 q.0 p)
job_is_one cuts marks input (Err e) (Ok a) p q = absurd (not_both marks input a.0 a.1 p.0 q)
job_is_one cuts marks input (Err e) (Err f) p q = ap Err (p.1 ∙ sym q.1)

-- ---- sources, with the script behind

abbrev SourceOf : Stage (List ℕ × List ℕ) (Program × List ℕ)
SourceOf job (Ok found) = SourceGives job.0 (Ok found.0) × (found.1 ≡ job.1)
SourceOf job (Err why) = SourceGives job.0 (Err why)

sourced_is_one : SourceLaws → IsOne SourceOf
sourced_is_one laws job (Ok a) (Ok b) p q =
    let same = same_found a.0 b.0 (source_is_one laws job.0 (Ok a.0) (Ok b.0) p.0 q.0) in
    ap Ok (ap (λ program. (program, a.1)) same ∙ ap (λ script. (b.0, script)) (p.1 ∙ sym q.1))
sourced_is_one laws job (Ok a) (Err e) p q = absurd (never_both a.0 e (source_is_one laws job.0 (Ok a.0) (Err e) p.0 q))
sourced_is_one laws job (Err e) (Ok a) p q = absurd (never_both a.0 e (source_is_one laws job.0 (Ok a.0) (Err e) q.0 p))
sourced_is_one laws job (Err e) (Err f) p q =
    ap Err (same_refusal {Y = Program} e f (source_is_one laws job.0 (Err e) (Err f) p q))

-- ---- scripts, with the program in front

abbrev ScriptOf : Stage (Program × List ℕ) (Program × Script)
ScriptOf given (Ok found) = (found.0 ≡ given.0) × Has given.1 (Ok found.1)
ScriptOf given (Err why) = (e : ScriptRefusal) × (script_failure e ≡ Refused why) × Has given.1 (Err e)

abbrev IsSameScript : Result Script ScriptRefusal → Result Script ScriptRefusal → Type 0
IsSameScript a b = a ≡ b

same_script : (a b : Script) → IsSameScript (Ok a) (Ok b) → a ≡ b
same_script a b e = cc

never_script : (a : Script) (e : ScriptRefusal) → IsSameScript (Ok a) (Err e) → ⊥
never_script a e same = cc

same_cause : (e f : ScriptRefusal) → IsSameScript (Err e) (Err f) → e ≡ f
same_cause e f same = cc

same_why : (x y : Refusal) → Refused x ≡ Refused y → x ≡ y
same_why x y e = cc

scripted_is_one : ScriptsHaveOneAnswer → IsOne ScriptOf
scripted_is_one scripts given (Ok a) (Ok b) p q =
    let same = same_script a.1 b.1 (scripts given.1 (Ok a.1) (Ok b.1) p.1 q.1) in
    ap Ok (ap (λ program. (program, a.1)) (p.0 ∙ sym q.0) ∙ ap (λ script. (b.0, script)) same)
scripted_is_one scripts given (Ok a) (Err e) p q =
    absurd (never_script a.1 q.0 (scripts given.1 (Ok a.1) (Err q.0) p.1 q.2))
scripted_is_one scripts given (Err e) (Ok a) p q =
    absurd (never_script a.1 p.0 (scripts given.1 (Ok a.1) (Err p.0) q.1 p.2))
scripted_is_one scripts given (Err e) (Err f) p q =
    let same = same_cause p.0 q.0 (scripts given.1 (Err p.0) (Err q.0) p.2 q.2) in
    ap Err (same_why e f (sym p.1 ∙ (ap script_failure same ∙ q.1)))

-- ---- inputs

abbrev InputGives : Stage (List ℕ) (Program × Script)
InputGives = Then (Then JobOf SourceOf) ScriptOf

input_is_one : InputLaws → IsOne InputGives
input_is_one laws =
    then_is_one (Then JobOf SourceOf) ScriptOf
    (then_is_one JobOf SourceOf (job_is_one laws.cuts laws.marks) (sourced_is_one laws.source))
    (scripted_is_one laws.scripts)

refused_gives : (input : List ℕ) (why : Refusal) → Refuses input why → InputGives input (Err why)
refused_gives input why (no_job is none) = inr (why, inr (why, (none, is), refl), refl)
refused_gives input why (no_program source script job refuses) =
    inr (why, inl ((source, script), job, refusal_gives source why refuses), refl)
refused_gives input why (bad_line program script n is has bad) =
    inl ((program, script), inl ((has.source, script), has.job, (program_gives has.source program has.program_is, refl)), (found.Line n, ap Refused (sym is), bad))
refused_gives input why (too_long program script is has long) =
    inl ((program, script), inl ((has.source, script), has.job, (program_gives has.source program has.program_is, refl)), (found.TooLong, ap Refused (sym is), long))

accepted_gives : (input : List ℕ) (program : Program) (inputs : List ℤ) (events : List Event) → IsAccepted input program inputs events → InputGives input (Ok (program, record { inputs = inputs; events = events }))
accepted_gives input program inputs events a =
    let has = a.source_has in
    inl ((program, a.script), inl ((has.source, a.script), has.job, (program_gives has.source program has.program_is, refl)), (refl, a.script_has))

-- ---- words and an input

-- the same status and the same text
abbrev Same : Status → List ℕ → Status → List ℕ → Type 0
Same s t s' t' = (s ≡ s') × (t ≡ t')

-- what a command gives of an input
abbrev CommandGives : Command → List ℕ → Status → List ℕ → Type 0
CommandGives (Run full) input status text =
    (program : Program) × (script : Script) × IsAccepted input program script.inputs script.events
    × IsRun full program script.inputs script.events status text

-- what words that are a command give, of an input that is refused or isn't
abbrev GivesBy : Command → List ℕ → Status → List ℕ → Type 0
GivesBy command input status text =
    ((why : Refusal) × Refuses input why × IsRefused why status text) ⊎ CommandGives command input status text

-- what words give that are no command, or one
abbrev WordsGive : List (List ℕ) → List ℕ → Status → List ℕ → Type 0
WordsGive words input status text =
    (IsNoCommand words × IsRefused refusal.Usage status text)
    ⊎ ((command : Command) × IsCommand words command × GivesBy command input status text)

words_give : (words : List (List ℕ)) (input : List ℕ) (status : Status) (text : List ℕ) → Outcome words input status text → WordsGive words input status text
words_give words input status text (usage none line) = inl (none, line)
words_give words input status text (refused command why is refuses line) = inr (command, is, inl (why, refuses, line))
words_give words input status text (ran full program inputs events is accepted run) =
    inr (Run full, is, inr (program, record { inputs = inputs; events = events }, accepted, run))

run_words_are_one : (full full' : Bool) → run_words full ≡ run_words full' → full ≡ full'
run_words_are_one true true e = refl
run_words_are_one false false e = refl
run_words_are_one true false e = cc
run_words_are_one false true e = cc

command_is_one : (words : List (List ℕ)) (a b : Command) → IsCommand words a → IsCommand words b → a ≡ b
command_is_one words (Run full) (Run full') x y = ap Run (run_words_are_one full full' (sym x ∙ y))

refusal_is_one : (why why' : Refusal) (s s' : Status) (t t' : List ℕ) → why ≡ why' → IsRefused why s t → IsRefused why' s' t' → Same s t s' t'
refusal_is_one why why' s s' t t' e a b =
    let c = subst (λ (w : Refusal). IsRefused w s t) e a in
    (c.status_is ∙ sym b.status_is, c.text_is ∙ sym b.text_is)

-- what is answered and written of the run of this code
abbrev status_of_run : Code → Script → Status
status_of_run code script = status_of (is_violated (trace_of (steps_of code script.inputs script.events)))

abbrev text_of_run : Bool → Code → Script → List ℕ
text_of_run full code script = run_text full script.inputs (trace_of (steps_of code script.inputs script.events))

run_is_one : ProgramsHaveOneCode → (full : Bool) (p p' : Program) (x x' : Script) (s s' : Status) (t t' : List ℕ) → p ≡ p' → x ≡ x'
    → IsRun full p x.inputs x.events s t → IsRun full p' x'.inputs x'.events s' t' → Same s t s' t'
run_is_one codes full p p' x x' s s' t t' e f a b =
    let c : IsRun full p' x'.inputs x'.events s t = subst (λ (y : Script). IsRun full p' y.inputs y.events s t) f (subst (λ (y : Program). IsRun full y x.inputs x.events s t) e a) in
    let same : c.code ≡ b.code = codes p' c.code b.code c.stands b.stands in
    (c.status_is ∙ (ap (λ (code : Code). status_of_run code x') same ∙ sym b.status_is), c.text_is ∙ (ap (λ (code : Code). text_of_run full code x') same ∙ sym b.text_is))

gives_one : InputLaws → (command : Command) (input : List ℕ) (s s' : Status) (t t' : List ℕ) → GivesBy command input s t → GivesBy command input s' t' → Same s t s' t'
gives_one laws (Run full) input s s' t t' a b =
    let one = input_is_one laws input in
    ⊎_elim
    (λ x. ⊎_elim
    (λ y. refusal_is_one x.0 y.0 s s' t t' (same_refusal {Y = Program × Script} x.0 y.0 (one _ _ (refused_gives input x.0 x.1) (refused_gives input y.0 y.1))) x.2 y.2)
    (λ y. absurd (never_both (y.0, y.1) x.0 (one _ _ (accepted_gives input y.0 y.1.inputs y.1.events y.2) (refused_gives input x.0 x.1)))) b)
    (λ x. ⊎_elim
    (λ y. absurd (never_both (x.0, x.1) y.0 (one _ _ (accepted_gives input x.0 x.1.inputs x.1.events x.2) (refused_gives input y.0 y.1))))
    (λ y.
    let same = same_found (x.0, x.1) (y.0, y.1) (one _ _ (accepted_gives input x.0 x.1.inputs x.1.events x.2) (accepted_gives input y.0 y.1.inputs y.1.events y.2)) in
    run_is_one laws.codes full x.0 y.0 x.1 y.1 s s' t t' (ap (λ (z : Program × Script). z.0) same) (ap (λ (z : Program × Script). z.1) same) x.3 y.3) b)
    a

-- one status and one text are the outcome
pub outcome_is_one : InputLaws → (words : List (List ℕ)) (input : List ℕ) (s s' : Status) (t t' : List ℕ) → Outcome words input s t → Outcome words input s' t' → Same s t s' t'
outcome_is_one laws words input s s' t t' a b =
    ⊎_elim
    (λ x. ⊎_elim (λ y. refusal_is_one refusal.Usage refusal.Usage s s' t t' refl x.1 y.1) (λ y. absurd (x.0 y.0 y.1)) (words_give words input s' t' b))
    (λ x. ⊎_elim (λ y. absurd (y.0 x.0 x.1))
    (λ y.
    let same = command_is_one words x.0 y.0 x.1 y.1 in
    gives_one laws y.0 input s s' t t' (subst (λ (c : Command). GivesBy c input s t) same x.2) y.2) (words_give words input s' t' b))
    (words_give words input s t a)
