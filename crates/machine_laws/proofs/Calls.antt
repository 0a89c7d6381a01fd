-- The calls that the records of a run show are those of its steps, one step after another.
use Rattle.std.proofs.Common.{◌≡◌, ℕ, Bool, true, false, cond, List, [], ◌∷◌, ◌++◌, map, flat_map, nat_eq, refl, sym, ap, ◌∙◌, append_assoc, append-nil}
use Rattle.meaning.specs.declared.note.Note.{Note}
use Rattle.meaning.specs.declared.record.Record.{Record}
use Rattle.meaning.specs.declared.record.Record.TheVariants.{Steps, Did, Noted, Wrote}
use Rattle.meaning.specs.Legal.{Call}
use Rattle.meaning.specs.Records.{did, or_one_step, counted, joined, added, added_all, calls_of}
use Rattle.machine.specs.Run.{Step, Turned, Wrote as WroteStep, CutOff, Idle}
use Rattle.machine.specs.Trace.{records_of, trace_of}

calls_of-append : (rs ss : List Record) → calls_of (rs ++ ss) ≡ calls_of rs ++ calls_of ss
calls_of-append [] ss = refl
calls_of-append (Did t action reply ∷ rs) ss = ap (λ cs. (action, reply) ∷ cs) (calls_of-append rs ss)
calls_of-append (Steps t n ∷ rs) ss = calls_of-append rs ss
calls_of-append (Noted t note ∷ rs) ss = calls_of-append rs ss
calls_of-append (Wrote a v ∷ rs) ss = calls_of-append rs ss

-- steps show no call, whether they are one record or two
calls_of_steps : (b : Bool) (t u n m : ℕ) → calls_of (cond b (Steps t (counted n m) ∷ []) (Steps t n ∷ Steps u m ∷ [])) ≡ []
calls_of_steps true t u n m = refl
calls_of_steps false t u n m = refl

calls_of-joined : (r s : Record) → calls_of (joined r s) ≡ calls_of (r ∷ []) ++ calls_of (s ∷ [])
calls_of-joined (Steps t n) (Steps u m) = calls_of_steps (nat_eq t u) t u n m
calls_of-joined (Steps t n) (Did u action reply) = refl
calls_of-joined (Steps t n) (Noted u note) = refl
calls_of-joined (Steps t n) (Wrote a v) = refl
calls_of-joined (Did t action reply) s = refl
calls_of-joined (Noted t note) s = refl
calls_of-joined (Wrote a v) s = refl

calls_of-added : (trace : List Record) (r : Record) → calls_of (added trace r) ≡ calls_of trace ++ calls_of (r ∷ [])
calls_of-added [] r = refl
calls_of-added (last ∷ []) r = calls_of-joined last r
calls_of-added (q ∷ s ∷ rs) r = calls_of-append (q ∷ []) (added (s ∷ rs) r)
    ∙ ap (λ cs. calls_of (q ∷ []) ++ cs) (calls_of-added (s ∷ rs) r)
    ∙ sym (append_assoc (calls_of (q ∷ [])) (calls_of (s ∷ rs)) (calls_of (r ∷ [])))
    ∙ ap (λ cs. cs ++ calls_of (r ∷ [])) (sym (calls_of-append (q ∷ []) (s ∷ rs)))

calls_of-added_all : (trace rs : List Record) → calls_of (added_all trace rs) ≡ calls_of trace ++ calls_of rs
calls_of-added_all trace [] = sym (append-nil (calls_of trace))
calls_of-added_all trace (r ∷ rs) = calls_of-added_all (added trace r) rs
    ∙ ap (λ cs. cs ++ calls_of rs) (calls_of-added trace r)
    ∙ append_assoc (calls_of trace) (calls_of (r ∷ [])) (calls_of rs)
    ∙ ap (λ cs. calls_of trace ++ cs) (sym (calls_of-append (r ∷ []) rs))

calls_of_notes : (t : ℕ) (notes : List Note) → calls_of (map (Noted t) notes) ≡ []
calls_of_notes t [] = refl
calls_of_notes t (note ∷ notes) = calls_of_notes t notes

calls_of-or_one_step : (t : ℕ) (rs : List Record) → calls_of (or_one_step t rs) ≡ calls_of rs
calls_of-or_one_step t [] = refl
calls_of-or_one_step t (r ∷ rs) = refl

-- the call of a step, if it is one
abbrev pub calls_by : Step → List Call
calls_by (Turned t site action reply notes) = calls_of (did t action reply)
calls_by _ = []

calls_of-records_of : (step : Step) → calls_of (records_of step) ≡ calls_by step
calls_of-records_of (Turned t site action reply notes) = calls_of-or_one_step t (did t action reply ++ map (Noted t) notes)
    ∙ calls_of-append (did t action reply) (map (Noted t) notes)
    ∙ ap (λ cs. calls_of (did t action reply) ++ cs) (calls_of_notes t notes)
    ∙ append-nil (calls_of (did t action reply))
calls_of-records_of (WroteStep a v) = refl
calls_of-records_of (CutOff t) = refl
calls_of-records_of Idle = refl

calls_of_all_records : (steps : List Step) → calls_of (flat_map records_of steps) ≡ flat_map calls_by steps
calls_of_all_records [] = refl
calls_of_all_records (step ∷ steps) = calls_of-append (records_of step) (flat_map records_of steps)
    ∙ ap (λ cs. cs ++ calls_of (flat_map records_of steps)) (calls_of-records_of step)
    ∙ ap (λ cs. calls_by step ++ cs) (calls_of_all_records steps)

pub calls_of-trace_of : (steps : List Step) → calls_of (trace_of steps) ≡ flat_map calls_by steps
calls_of-trace_of steps = calls_of-added_all [] (flat_map records_of steps) ∙ calls_of_all_records steps
