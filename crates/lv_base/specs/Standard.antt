-- What a source and a sink over the standard library show.
use Rattle.std.specs.Prelude.{ℕ}
use Rattle.lv_base.specs.declared.standard.StdSource.{StdSource}
use Rattle.lv_base.specs.declared.standard.StdSink.{StdSink}

-- the reader
abbrev pub std_source_inner : {R : Type 0} → StdSource R → R
std_source_inner source = source.inner

-- how many faults were counted
abbrev pub std_source_faults : {R : Type 0} → StdSource R → ℕ
std_source_faults source = source.faults

-- how many bytes were read
abbrev pub std_source_read : {R : Type 0} → StdSource R → ℕ
std_source_read source = source.taken

-- the writer
abbrev pub std_sink_inner : {W : Type 0} → StdSink W → W
std_sink_inner sink = sink.inner

-- how many faults were counted
abbrev pub std_sink_faults : {W : Type 0} → StdSink W → ℕ
std_sink_faults sink = sink.faults
