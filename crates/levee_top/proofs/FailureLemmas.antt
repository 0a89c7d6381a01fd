-- What ends the way of a job is its refusal, or want of memory.
use Rattle.std.proofs.Common.{◌≡◌, ◌≢◌, ◌⊎◌, ℕ, Bool, List, Option, None, Some, MatchOption, Result, Ok, Err, refl, sym, ap, subst, ⊎_elim, inl}
use Rattle.std.specs.Option.{ok_or}
use Rattle.std.specs.Io.KnownBytes.{IsAtEnd}
use Rattle.c_parser.specs.declared.error.ParseRefusal.{ParseRefusal}
use Rattle.c_parser.specs.declared.error.ParseRefusal.TheVariants as parse
use Rattle.c_scope.specs.declared.rule.Rule.{Rule}
use Rattle.c_scope.specs.Numbers.{number_of}
use Rattle.c_tokens.specs.declared.token.LexRefusal.{LexRefusal}
use Rattle.c_tokens.specs.declared.token.LexRefusal.TheVariants as lex
use Rattle.c_tokens.specs.declared.token.Token.{Token}
use Rattle.c_tokens.specs.Lex.{Lexes, IsRefused}
use Rattle.c_tree.specs.declared.statement.Unit.{Unit as Tree}
use Rattle.c_tree.specs.Marks.{kinds_of}
use Rattle.c_tree.specs.RoundTrip.{IsTextOf}
use Rattle.c_tree.specs.Statements.{IsSyntaxRefusal}
use Rattle.c_typed.specs.declared.unit.Typed.{Typed}
use Rattle.c_typing.specs.declared.error.CheckRefusal.{CheckRefusal}
use Rattle.c_typing.specs.declared.error.CheckRefusal.TheVariants as check
use Rattle.c_typing.specs.Checks.{Checks, numbered}
use Rattle.c_typing.specs.Sources.{Verdict, typed_source}
use Rattle.core_ir.specs.declared.program.Program.{Program}
use Rattle.elab.specs.declared.error.ElabRefusal.{ElabRefusal}
use Rattle.elab.specs.declared.error.ElabRefusal.TheVariants as elab
use Rattle.elab_pieces.specs.Limits.{first_limit}
use Rattle.elab.specs.Refusals.{RefusesOnly}
use Rattle.elab_pieces.specs.Program.{program_of}
use Rattle.lv_base.specs.declared.source.ReadEnd.{ReadEnd}
use Rattle.lv_base.specs.declared.source.ReadEnd.TheVariants as read
use Rattle.lv_base.specs.Whole.{Takes, TakesAbove}
use Rattle.script.specs.declared.error.ScriptRefusal.{ScriptRefusal}
use Rattle.script.specs.declared.error.ScriptRefusal.TheVariants as found
use Rattle.script.specs.declared.read.Script.{Script}
use Rattle.script.specs.Script.{IsRefusal, IsScript}
use Rattle.levee_top.specs.declared.command.Command.{Command}
use Rattle.levee_top.specs.declared.command.Command.TheVariants.{Run}
use Rattle.levee_top.specs.declared.failure.Failure.{Failure}
use Rattle.levee_top.specs.declared.failure.Failure.TheVariants as failure
use Rattle.levee_top.specs.declared.refusal.Refusal.{Refusal}
use Rattle.levee_top.specs.declared.refusal.Refusal.TheVariants as refusal
use Rattle.levee_top.specs.declared.status.Status.{Status}
use Rattle.levee_top.specs.Command.{IsCommand, IsNoCommand}
use Rattle.levee_top.specs.Levee.{Gives}
use Rattle.levee_top.specs.Outcome.{IsJob, greatest_job, no_job, no_program, bad_line, too_long, usage, refused, ran}
use Rattle.levee_top.specs.Source.{HasTyped, IsProgramOf, no_tokens, no_tree, breaks_rule, passes_limit}
use Rattle.levee_top.specs.inner.Failure.{read_failure, lex_failure, parse_failure, check_failure, elab_failure, script_failure, Runs, RunsLegally, SourceFails, FailsAt, Ends}
use Rattle.levee_top.proofs.OutcomeLemmas.{refused_is_none, whole_input, long_input, any_input}

-- ---- sources

-- a place that is no token
pub lex_fails : (source : List ℕ) (e : LexRefusal) → (e ≢ lex.Memory → IsRefused source e) → SourceFails source (lex_failure e)
lex_fails source (lex.Byte line) is = no_tokens (lex.Byte line) refl (is (λ same. cc))
lex_fails source (lex.Number line) is = no_tokens (lex.Number line) refl (is (λ same. cc))
lex_fails source (lex.Text line) is = no_tokens (lex.Text line) refl (is (λ same. cc))
lex_fails source (lex.Comment line) is = no_tokens (lex.Comment line) refl (is (λ same. cc))
lex_fails source lex.Memory is = tt

abbrev pub IsParsed : Result Tree ParseRefusal → Result Tree ParseRefusal → Type 0
IsParsed a b = a ≡ b

-- tokens that no item begins
pub parse_fails : (source : List ℕ) (tokens : List Token) (e : ParseRefusal) → Lexes source tokens
    → ((count : ℕ) → IsParsed (Err e) (Err (parse.Syntax count)) → IsSyntaxRefusal (kinds_of tokens) count)
    → SourceFails source (parse_failure e)
parse_fails source tokens (parse.Syntax item) lexes is = no_tree tokens item refl lexes (is item refl)
parse_fails source tokens parse.Memory lexes is = tt

-- the rule that stands behind its number
record Broken (verdict : Verdict Typed) (item number : ℕ) : Type 0 where
  pub rule : Rule
  pub is : verdict ≡ Err (item, rule)
  pub number_is : number ≡ number_of rule

abbrev IsNumbered : Result Typed (ℕ × ℕ) → Result Typed (ℕ × ℕ) → Type 0
IsNumbered a b = a ≡ b

same_pair : (x y : ℕ × ℕ) → IsNumbered (Err x) (Err y) → x ≡ y
same_pair x y e = cc

same_number : (a b c d : ℕ) → IsNumbered (Err (a, b)) (Err (c, d)) → (a ≡ c) × (b ≡ d)
same_number a b c d e =
    let p = same_pair (a, b) (c, d) e in
    (ap (λ (x : ℕ × ℕ). x.0) p, ap (λ (x : ℕ × ℕ). x.1) p)

broken : (verdict : Verdict Typed) (item number : ℕ) → IsNumbered (numbered verdict) (Err (item, number)) → Broken verdict item number
broken (Ok typed) item number e = cc
broken (Err (other, rule)) item number e =
    let same = same_number other (number_of rule) item number e in
    record { rule = rule; is = ap (λ (i : ℕ). Err (i, rule)) same.0; number_is = sym same.1 }

-- a rule that a tree breaks
pub check_fails : (source : List ℕ) (tree : Tree) (e : CheckRefusal) → IsTextOf tree source → Checks (typed_source tree) (Err e)
    → SourceFails source (check_failure e)
check_fails source tree (check.Rule item number) read is =
    let first = broken (typed_source tree) item number is in
    breaks_rule tree item first.rule (ap (λ (n : ℕ). refusal.Type item n) first.number_is) read first.is
check_fails source tree check.Memory read is = tt

-- a limit that a program passes
pub elab_fails : (source : List ℕ) (typed : Typed) (e : ElabRefusal) → HasTyped source typed
    → RefusesOnly {A = Program} (first_limit (program_of typed)) (Err e) → SourceFails source (elab_failure e)
elab_fails source typed (elab.Limit which) has is = passes_limit typed which refl has is
elab_fails source typed elab.Memory has is = tt

-- a source that is refused refuses its input
pub source_fails : (input source script : List ℕ) (e : Failure) → IsJob input source script → SourceFails source e → FailsAt input e
source_fails input source script (failure.Refused why) job refuses = no_program source script job refuses
source_fails input source script failure.Fault job refuses = refuses
source_fails input source script failure.Memory job refuses = tt

-- ---- jobs

-- a script that isn't read has a line that is none, or too many turns
pub script_fails : (input source script : List ℕ) (program : Program) (e : ScriptRefusal) → IsJob input source script
    → IsProgramOf source program → IsRefusal script e → FailsAt input (script_failure e)
script_fails input source script program (found.Line n) job is why =
    bad_line program script n refl (record { source = source; job = job; program_is = is }) why
script_fails input source script program found.TooLong job is why =
    too_long program script refl (record { source = source; job = job; program_is = is }) why
script_fails input source script program found.Memory job is why = tt

-- a job with a program and a script runs so
pub job_runs : (full : Bool) (input source script : List ℕ) (program : Program) (read : Script) (status : Status) (text : List ℕ)
    → IsJob input source script
    → IsProgramOf source program
    → IsScript script read.inputs read.events
    → RunsLegally full program read.inputs read.events status text
    → Runs full input status text
job_runs full input source script program read status text job is has run =
    record {
      program = program;
      inputs = read.inputs;
      events = read.events;
      accepted = record { script = script; source_has = record { source = source; job = job; program_is = is }; script_has = has };
      run = run;
    }

-- where no command is found, the words are none
pub words_end : (words : List (List ℕ)) (o : Option Command) (r : Result Command Refusal) (why : Refusal) → MatchOption o (IsNoCommand words) (IsCommand words) → r ≡ ok_or o refusal.Usage → r ≡ Err why → IsNoCommand words × (why ≡ refusal.Usage)
words_end words None r why is found e = (is, cc)
words_end words (Some command) r why is found e = cc

-- and a command that is found is theirs
pub words_go : (words : List (List ℕ)) (o : Option Command) (r : Result Command Refusal) (command : Command) → MatchOption o (IsNoCommand words) (IsCommand words) → r ≡ ok_or o refusal.Usage → r ≡ Ok command → IsCommand words command
words_go words None r command is found e = cc
words_go words (Some other) r command is found e =
    let same : other ≡ command = cc in
    subst (IsCommand words) same is

-- words that are no command give the usage line, whatever the input
pub usage_ends : (words : List (List ℕ)) (told : Option (List ℕ)) (count : ℕ) → IsNoCommand words → Ends words told count count (failure.Refused refusal.Usage)
usage_ends words told count none = λ status text line.
    let any = any_input told in
    record {
      input = any.input;
      input_is = record { told_is = any.told_is; counted = λ accepted. absurd (refused_is_none refusal.Usage status text line accepted) };
      outcome = usage none line;
      legal = tt;
    }

abbrev pub IsReadSo : {T : Type 0} → Result T ReadEnd → Result T ReadEnd → Type 0
IsReadSo a b = a ≡ b

-- more bytes than a job may have are no job
pub read_ends : {T : Type 0} (words : List (List ℕ)) (command : Command) (old new : Option (List ℕ)) (before after : ℕ) (e : ReadEnd) → IsCommand words command
    → (IsReadSo {T = T} (Err e) (Err read.Long) → TakesAbove greatest_job old new before after) → Ends words old before after (read_failure e)
read_ends words command old new before after read.Fault is long = tt
read_ends words command old new before after read.Memory is long = tt
read_ends words command old new before after read.Long is long = λ status text line.
    let many = long_input old new before after (long refl) in
    record {
      input = many.input;
      input_is = record { told_is = many.told_is; counted = λ accepted. absurd (refused_is_none refusal.Job status text line accepted) };
      outcome = refused command refusal.Job is (no_job refl (inl many.long)) line;
      legal = tt;
    }

-- a job that ended so is refused so
pub job_ends : (words : List (List ℕ)) (command : Command) (old new : Option (List ℕ)) (before after : ℕ) (job : List ℕ) (e : Failure) → IsCommand words command
    → Takes job old new before after → IsAtEnd new → FailsAt job e → Ends words old before after e
job_ends words command old new before after job (failure.Refused why) is takes ended fails = λ status text line.
    record {
      input = job;
      input_is = whole_input old new before after status job takes ended;
      outcome = refused command why is fails line;
      legal = tt;
    }
job_ends words command old new before after job failure.Fault is takes ended fails = tt
job_ends words command old new before after job failure.Memory is takes ended fails = tt

-- and a job that was run gives its run
pub job_gives : (words : List (List ℕ)) (command : Command) (full : Bool) (old new : Option (List ℕ)) (before after : ℕ) (job : List ℕ) (status : Status) (text : List ℕ) → IsCommand words command → command ≡ Run full
    → Takes job old new before after → IsAtEnd new → Runs full job status text → Gives words old before after status text
job_gives words command full old new before after job status text is run takes ended runs =
    record {
      input = job;
      input_is = whole_input old new before after status job takes ended;
      outcome = ran full runs.program runs.inputs runs.events (subst (IsCommand words) run is) runs.accepted runs.run.run;
      legal = runs.run.legal;
    }
