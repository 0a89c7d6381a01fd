-- What a source and a sink over a Vec show.
use Rattle.std.specs.Prelude.{ℕ, List, drop}
use Rattle.lv_base.specs.declared.vector.VecSource.{VecSource}
use Rattle.lv_base.specs.declared.vector.VecSink.{VecSink}

-- the bytes that the source has left
abbrev pub vec_source_left : VecSource → List ℕ
vec_source_left source = drop source.taken source.bytes.items

-- how many bytes were read
abbrev pub vec_source_read : VecSource → ℕ
vec_source_read source = source.taken

-- the bytes that the sink holds
abbrev pub vec_sink_bytes : VecSink → List ℕ
vec_sink_bytes sink = sink.held.items
