-- What an outcome says of its status and of the words, and the input that was read.
use Rattle.std.proofs.Common.{◌≡◌, ◌<◌, ◌++◌, ℕ, Bool, true, false, List, [], Option, Some, None, refl, sym, subst, ap, ◌∙◌, append-nil, arith, length, length-append}
use Rattle.std.specs.Io.KnownBytes.{Appends, IsAtEnd}
use Rattle.c_tokens.specs.declared.token.LexRefusal.{LexRefusal}
use Rattle.c_tokens.specs.declared.token.LexRefusal.TheVariants as lex
use Rattle.lv_base.specs.Whole.{Takes, TakesAbove}
use Rattle.levee_top.specs.declared.command.Command.TheVariants.{Run}
use Rattle.levee_top.specs.declared.refusal.Refusal.{Refusal}
use Rattle.levee_top.specs.declared.refusal.Refusal.TheVariants as refusal
use Rattle.levee_top.specs.declared.status.Status.{Status}
use Rattle.levee_top.specs.declared.status.Status.TheVariants as status
use Rattle.levee_top.specs.Command.{IsNoCommand}
use Rattle.levee_top.specs.Levee.{IsWhole, IsAcceptance, IsTold, IsInput, Gives}
use Rattle.levee_top.specs.Outcome.{status_of, greatest_job, Refuses, no_job, no_program, bad_line, too_long, Outcome, usage, refused, ran}
use Rattle.levee_top.specs.Refusal.{refusal_status, refusal_text, IsRefused}
use Rattle.levee_top.specs.Source.{of_lex, SourceRefuses, no_tokens, no_tree, breaks_rule, passes_limit}
use Rattle.levee_top.specs.Theorems.{OutcomesAreUnique}

same_refused : (x y : Refusal) → Some x ≡ Some y → x ≡ y
same_refused x y e = cc

-- ---- statuses

refusal_is_whole : (why : Refusal) → IsWhole (refusal_status why)
refusal_is_whole refusal.Usage = tt
refusal_is_whole refusal.Job = tt
refusal_is_whole (refusal.Byte line) = tt
refusal_is_whole (refusal.Number line) = tt
refusal_is_whole (refusal.Text line) = tt
refusal_is_whole (refusal.Comment line) = tt
refusal_is_whole (refusal.Syntax item) = tt
refusal_is_whole (refusal.Type item rule) = tt
refusal_is_whole (refusal.Limit which) = tt
refusal_is_whole (refusal.ScriptLine n) = tt
refusal_is_whole refusal.ScriptLong = tt

run_is_whole : (violated : Bool) → IsWhole (status_of violated)
run_is_whole true = tt
run_is_whole false = tt

-- an outcome is no fault
pub outcome_is_whole : (words : List (List ℕ)) (input : List ℕ) (s : Status) (t : List ℕ) → Outcome words input s t → IsWhole s
outcome_is_whole words input s t (usage none line) = subst IsWhole (sym line.status_is) tt
outcome_is_whole words input s t (refused command why is refuses line) = subst IsWhole (sym line.status_is) (refusal_is_whole why)
outcome_is_whole words input s t (ran full program inputs events is accepted run) = subst IsWhole (sym run.status_is) (run_is_whole _)

-- a refusal is no acceptance
refusal_is_none : (why : Refusal) → IsAcceptance (refusal_status why) → ⊥
refusal_is_none refusal.Usage h = h
refusal_is_none refusal.Job h = h
refusal_is_none (refusal.Byte line) h = h
refusal_is_none (refusal.Number line) h = h
refusal_is_none (refusal.Text line) h = h
refusal_is_none (refusal.Comment line) h = h
refusal_is_none (refusal.Syntax item) h = h
refusal_is_none (refusal.Type item rule) h = h
refusal_is_none (refusal.Limit which) h = h
refusal_is_none (refusal.ScriptLine n) h = h
refusal_is_none refusal.ScriptLong h = h

pub refused_is_none : (why : Refusal) (s : Status) (t : List ℕ) → IsRefused why s t → IsAcceptance s → ⊥
refused_is_none why s t line h = refusal_is_none why (subst IsAcceptance line.status_is h)

-- why a place is no token is never the words
no_token_is_usage : (cause : LexRefusal) (why : Refusal) → of_lex cause ≡ Some why → refusal_status why ≡ status.Refused
no_token_is_usage (lex.Byte line) why e = subst (λ (w : Refusal). refusal_status w ≡ status.Refused) (same_refused (refusal.Byte line) why e) refl
no_token_is_usage (lex.Number line) why e = subst (λ (w : Refusal). refusal_status w ≡ status.Refused) (same_refused (refusal.Number line) why e) refl
no_token_is_usage (lex.Text line) why e = subst (λ (w : Refusal). refusal_status w ≡ status.Refused) (same_refused (refusal.Text line) why e) refl
no_token_is_usage (lex.Comment line) why e = subst (λ (w : Refusal). refusal_status w ≡ status.Refused) (same_refused (refusal.Comment line) why e) refl
no_token_is_usage lex.Memory why e = cc

-- nor why a source is refused
source_refuses : (source : List ℕ) (why : Refusal) → SourceRefuses source why → refusal_status why ≡ status.Refused
source_refuses source why (no_tokens cause is bad) = no_token_is_usage cause why is
source_refuses source why (no_tree tokens item is lexes bad) = rw is refl
source_refuses source why (breaks_rule tree item rule is read bad) = rw is refl
source_refuses source why (passes_limit typed which is has bad) = rw is refl

-- why an input is refused is never the words
refuses_input : (input : List ℕ) (why : Refusal) → Refuses input why → refusal_status why ≡ status.Refused
refuses_input input why (no_job is none) = rw is refl
refuses_input input why (no_program source script job refuses) = source_refuses source why refuses
refuses_input input why (bad_line program script n is has bad) = rw is refl
refuses_input input why (too_long program script is has long) = rw is refl

run_is_no_usage : (violated : Bool) → status_of violated ≡ status.Usage → ⊥
run_is_no_usage true e = cc
run_is_no_usage false e = cc

-- usage is the outcome of words that are no command alone
pub usage_words : (words : List (List ℕ)) (input : List ℕ) (s : Status) (t : List ℕ) → Outcome words input s t → s ≡ status.Usage → IsNoCommand words × (t ≡ refusal_text refusal.Usage)
usage_words words input s t (usage none line) e = (none, line.text_is)
usage_words words input s t (refused command why is refuses line) e =
    let no : status.Refused ≡ status.Usage = sym (refuses_input input why refuses) ∙ (sym line.status_is ∙ e) in
    cc
usage_words words input s t (ran full program inputs events is accepted run) e = absurd (run_is_no_usage _ (sym run.status_is ∙ e))

-- and words that are none have no other
pub no_command_gives : (words : List (List ℕ)) (input : List ℕ) (s : Status) (t : List ℕ) → IsNoCommand words → Outcome words input s t → s ≡ status.Usage
no_command_gives words input s t none (usage none' line) = line.status_is
no_command_gives words input s t none (refused command why is refuses line) = absurd (none command is)
no_command_gives words input s t none (ran full program inputs events is accepted run) = absurd (none (Run full) is)

-- ---- the input that was read

-- what was read to the end is what the source tells
pub whole_input : (old new : Option (List ℕ)) (before after : ℕ) (s : Status) (bytes : List ℕ) → Takes bytes old new before after → IsAtEnd new → IsInput old before after s bytes
whole_input None new before after s bytes takes ended = record { told_is = tt; counted = λ accepted. takes.counted }
whole_input (Some told) None before after s bytes takes ended = absurd takes.taken
whole_input (Some told) (Some rest) before after s bytes takes ended =
    record {
      told_is = takes.taken ∙ ap (λ (r : List ℕ). bytes ++ r) ended ∙ append-nil bytes;
      counted = λ accepted. takes.counted;
    }

-- an input of more bytes than a job may have
pub record LongInput (told : Option (List ℕ)) : Type 0 where
  pub input : List ℕ
  pub told_is : IsTold told input
  pub long : greatest_job < length input

pub long_input : (old new : Option (List ℕ)) (before after : ℕ) → TakesAbove greatest_job old new before after → LongInput old
long_input None new before after h = record { input = h.bytes; told_is = tt; long = h.many }
long_input (Some told) None before after h = absurd h.takes.taken
long_input (Some told) (Some rest) before after h =
    record {
      input = told;
      told_is = refl;
      long = rw h.takes.taken (omega (arith, h.many, length-append h.bytes rest));
    }

-- some input that the source may have
pub record AnyInput (told : Option (List ℕ)) : Type 0 where
  pub input : List ℕ
  pub told_is : IsTold told input

pub any_input : (told : Option (List ℕ)) → AnyInput told
any_input None = record { input = []; told_is = tt }
any_input (Some told) = record { input = told; told_is = refl }

some_is : (a b : List ℕ) → Some a ≡ Some b → a ≡ b
some_is a b e = cc

-- ---- what the top call promises

-- what was written is the text of every outcome, and its status was answered
pub exact_outcome : OutcomesAreUnique → (words : List (List ℕ)) (told held new : Option (List ℕ)) (before after : ℕ) (r s : Status) (t u : List ℕ) → Gives words told before after s t → r ≡ s → u ≡ t → Appends held new u
    → (input : List ℕ) (status : Status) (text : List ℕ) → told ≡ Some input → Outcome words input status text → (r ≡ status) × Appends held new text
exact_outcome unique words None held new before after r s t u gives is same appends input status text told o = cc
exact_outcome unique words (Some bytes) held new before after r s t u gives is same appends input status text told o =
    let inputs : gives.input ≡ input = sym gives.input_is.told_is ∙ some_is bytes input told in
    let one = unique words gives.input s status t text gives.outcome (subst (λ (i : List ℕ). Outcome words i status text) (sym inputs) o) in
    (is ∙ one.0, subst (λ (x : List ℕ). Appends held new x) (same ∙ one.1) appends)
