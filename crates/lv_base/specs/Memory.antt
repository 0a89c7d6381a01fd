-- What a source and a sink in memory show: their bytes, how they are set up, and their counts.
use Rattle.std.specs.Prelude.{ℕ, ◌-◌, List, vec_len}
use Rattle.lv_base.specs.Vector.{vec_source_left, vec_source_read}
use Rattle.lv_base.specs.declared.memory.MemSource.{MemSource}
use Rattle.lv_base.specs.declared.memory.MemSink.{MemSink}

-- the bytes that the source has left
abbrev pub mem_source_left : MemSource → List ℕ
mem_source_left source = vec_source_left source.bytes

-- how many bytes were read
abbrev pub mem_source_read : MemSource → ℕ
mem_source_read source = vec_source_read source.bytes

-- how many bytes a call reads at most
abbrev pub mem_source_piece : MemSource → ℕ
mem_source_piece source = source.piece

-- the numbers of the calls that fail
abbrev pub mem_source_fails : MemSource → List ℕ
mem_source_fails source = source.fails.items

-- how many calls were made
abbrev pub mem_source_calls : MemSource → ℕ
mem_source_calls source = source.calls

-- how many of them failed
abbrev pub mem_source_faults : MemSource → ℕ
mem_source_faults source = source.faults

-- the bytes that the sink holds
abbrev pub mem_sink_bytes : MemSink → List ℕ
mem_sink_bytes sink = sink.held.items

-- how many more bytes the sink has room for
abbrev pub mem_sink_room : MemSink → ℕ
mem_sink_room sink = sink.room - vec_len sink.held

-- how many bytes a call takes at most
abbrev pub mem_sink_piece : MemSink → ℕ
mem_sink_piece sink = sink.piece

-- the numbers of the calls that fail
abbrev pub mem_sink_fails : MemSink → List ℕ
mem_sink_fails sink = sink.fails.items

-- how many calls were made
abbrev pub mem_sink_calls : MemSink → ℕ
mem_sink_calls sink = sink.calls

-- how many of them failed
abbrev pub mem_sink_faults : MemSink → ℕ
mem_sink_faults sink = sink.faults
