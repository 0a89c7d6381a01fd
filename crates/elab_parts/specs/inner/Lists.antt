-- Several values, and what stands behind them.
use Rattle.std.specs.Prelude.{◌≡◌, ℕ, List, ◌++◌, length, Result, Ok, Err}
use Rattle.c_types.specs.declared.ty.FnTy.{FnTy}
use Rattle.elab_emit.specs.declared.emitter.Emitter.{Emitter}
use Rattle.elab_emit.specs.declared.emitter.Trouble.{Trouble}
use Rattle.elab_rows.specs.Calls.{Listed, arguments, built_in_made, call_made, indirect_made, placed}
use Rattle.elab_emit.specs.Emits.{Adds, IsSound, Stops, code_of}
use Rattle.elab_emit.specs.Held.{listed}
use Rattle.elab_rows.specs.Made.{Code, Made}
use Rattle.elab_rows.specs.Values.{Part, returns}
use Rattle.elab_rows.specs.declared.named.Named.{Named}
use Rattle.elab_rows.specs.declared.named.Named.TheVariants as named

-- the code of several values here
abbrev pub list_of : Emitter → List Code → Listed
list_of e parts = arguments parts (length e.code) e.register e.slot

abbrev pub ArgumentsOutcome : Emitter → Listed → Result (List ℕ) Trouble → Emitter → Type 0
ArgumentsOutcome old l (Ok rs) new = Adds old l.code l.register l.slot new × (rs ≡ l.results)
ArgumentsOutcome old l (Err e) new = Stops old l.code e

-- what is there, and what is left to be made
pub record Reaches (start : Emitter) (all : Listed) (found : List ℕ) (now : Emitter) (rest : Listed) : Type 0 where
  pub code : start.code ++ all.code ≡ now.code ++ rest.code
  pub results : all.results ≡ found ++ rest.results
  pub register : all.register ≡ rest.register
  pub slot : all.slot ≡ rest.slot
  pub sound : IsSound now

abbrev pub end_by : Named → FnTy → Listed → Made → Made
end_by (named.Function n) t l c = call_made n (returns t) l
end_by (named.BuiltIn b) t l c = built_in_made b l
end_by _ t l c = indirect_made t (returns t) l (placed c)

-- what a call adds behind its arguments
abbrev pub call_end : Part → FnTy → Emitter → List ℕ → Made
call_end f t e registers = end_by f.name t (listed e registers) (code_of e f.value)
