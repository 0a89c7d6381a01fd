-- A trace is built of its records, each of which goes last, and what is answered of a text is all that it has.
use Rattle.std.proofs.Common.{◌≡◌, ℕ, suc, ℤ, false, List, [], ◌∷◌, ◌++◌, refl, ap, arith, Result, Ok, Err, IfOk, IfErr}
use Rattle.std.proofs.lemmas.Bool.{cond-false}
use Rattle.meaning.specs.Action.{Fits}
use Rattle.meaning.specs.declared.action.Action.{Action}
use Rattle.meaning.specs.declared.action.Action.TheVariants as act
use Rattle.meaning.specs.declared.action.Reply.{Reply}
use Rattle.meaning.specs.declared.action.Reply.TheVariants as reply
use Rattle.meaning.specs.declared.record.Record.{Record}
use Rattle.meaning.specs.declared.record.Record.TheVariants.{Steps, Did, Noted, Wrote}
use Rattle.meaning.specs.Records.{joined, added}
use Rattle.fields.specs.Theorems.{FieldLaws}
use Rattle.trace.specs.Records.{TraceView, IsTold, IsRecord as IsPushed}
use Rattle.trace_reader.specs.declared.error.TraceRefusal.{TraceRefusal}
use Rattle.trace_reader.specs.declared.error.TraceRefusal.TheVariants as refusal
use Rattle.trace_reader.specs.FullText.{IsDeed, IsRecord, join, HasFullText, IsFirstBad, IsRefusal, GivesBack, NamesLine}
use Rattle.trace_reader.specs.inner.Items.{Follows}
use Rattle.trace_reader.proofs.FullLines.{one_trace, no_bad_line, one_bad}

-- ---- what a trace takes

told : (action : Action) (answer : Reply) → IsDeed action answer → IsTold action × Fits action answer
told (act.Get a) (reply.Found e) is = (tt, tt)
told (act.Put a e) reply.Nothing is = (tt, tt)
told (act.Load a) (reply.Word v) is = (tt, tt)
told (act.Store a v) reply.Nothing is = (tt, tt)
told (act.TryLock a) (reply.Word v) is = (tt, tt)
told (act.Alloc k) (reply.Slot s) is = (tt, tt)
told (act.Free i) (reply.Flag b) is = (tt, tt)
told (act.Look i) (reply.Flag b) is = (tt, tt)
told act.Fork (reply.Thread m) is = (tt, tt)
told (act.Input k) (reply.Word v) is = (tt, tt)
told (act.Print v) reply.Nothing is = (tt, tt)
told _ _ is = absurd is

pub pushed : (r : Record) → IsRecord r → IsPushed r
pushed (Steps t n) is = (is.0, is.1)
pushed (Did t action answer) is = (is.0, told action answer is.1)
pushed (Noted t n) is = is.0
pushed (Wrote a v) is = tt

joined_apart : (last r : Record) → join last r ≡ false → joined last r ≡ last ∷ r ∷ []
joined_apart (Steps t n) (Steps u m) apart = cond-false _ _ _ apart
joined_apart _ _ apart = refl

pub added_last : (records : List Record) (r : Record) → Follows records r → added records r ≡ records ++ r ∷ []
added_last [] r last = refl
added_last (x ∷ []) r last = joined_apart x r (last 0 r (omega arith))
added_last (x ∷ y ∷ ys) r last = ap (λ t. x ∷ t) (added_last (y ∷ ys) r (λ k d at. last (suc k) d (omega (arith, at))))

-- ---- what is answered is all that a text has

pub gives_back : (laws : FieldLaws) (text : List ℕ) (r : Result TraceView TraceRefusal) → IfOk r (λ trace. HasFullText trace.inputs trace.records text) → IfErr r (IsRefusal text) → (inputs : List ℤ) (records : List Record) → HasFullText inputs records text → GivesBack inputs records r
gives_back laws text (Ok trace) found refused inputs records has = one_trace laws text trace.inputs inputs trace.records records found has
gives_back laws text (Err (refusal.Line n)) found refused inputs records has = no_bad_line laws text inputs records n has refused
gives_back laws text (Err refusal.Memory) found refused inputs records has = tt

pub names_line : (laws : FieldLaws) (text : List ℕ) (r : Result TraceView TraceRefusal) → IfOk r (λ trace. HasFullText trace.inputs trace.records text) → IfErr r (IsRefusal text) → (n : ℕ) → IsFirstBad text n → NamesLine n r
names_line laws text (Ok trace) found refused n bad = no_bad_line laws text trace.inputs trace.records n found bad
names_line laws text (Err (refusal.Line m)) found refused n bad = one_bad text m n refused bad
names_line laws text (Err refusal.Memory) found refused n bad = tt
