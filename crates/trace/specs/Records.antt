-- Traces: the inputs of a run and its records, as they may stand one behind another.
use Rattle.std.specs.Prelude.{◌≡◌, ◌≢◌, ℕ, ℤ, ◌^◌, ◌<◌, ◌≤◌, Bool, false, List, ◌∷◌, ◌++◌, refl}
use Rattle.std.specs.Coded.{Coded, code_by, coded_list, coded_ℕ, coded_ℤ, coded×}
use Rattle.std.specs.List.{All}
use Rattle.meaning.specs.Action.{Fits}
use Rattle.meaning.specs.contracts.record.Record as record_contract
use Rattle.meaning.specs.declared.action.Action.{Action}
use Rattle.meaning.specs.declared.action.Action.TheVariants as act
use Rattle.meaning.specs.declared.record.Record.{Record}
use Rattle.meaning.specs.declared.record.Record.TheVariants.{Steps, Did, Noted, Wrote}

-- what contracts see of a trace
pub record TraceView : Type 0 where
  -- the inputs with which its full text begins
  pub inputs : List ℤ
  pub records : List Record
  -- for how many records there is room, at least
  pub spare : ℕ

abbrev pub trace_code : Coded TraceView
trace_code =
    code_by (List ℤ × (List Record × ℕ)) (coded× (coded_list coded_ℤ) (coded× (coded_list record_contract.the_row.coded) coded_ℕ))
    (λ t. (t.inputs, (t.records, t.spare)))
    (λ p. record { inputs = p.0; records = p.1.0; spare = p.1.1 })
    (λ _. refl)

-- an action that a record tells
abbrev pub IsTold : Action → Type 0
IsTold act.Own = ⊥
IsTold (act.Halt why) = ⊥
IsTold _ = Unit {0}

-- what a record may be
abbrev pub IsRecord : Record → Type 0
IsRecord (Steps t n) = (t < 16) × (1 ≤ n)
IsRecord (Did t action reply) = (t < 16) × (IsTold action × Fits action reply)
IsRecord (Noted t note) = t < 16
IsRecord (Wrote a v) = Unit {0}
