-- What the devices over readers and writers of std show of themselves.
use Rattle.std.specs.Prelude.{ℕ}
use Rattle.jsgen_device.specs.declared.standard.StdSource.{StdSource}
use Rattle.jsgen_device.specs.declared.standard.StdSink.{StdSink}

-- the reader that it stands on
abbrev pub source_reader : {R : Type 0} → StdSource R → R
source_reader s = s.inner

-- how often it has failed
abbrev pub source_faults : {R : Type 0} → StdSource R → ℕ
source_faults s = s.faults

-- the writer that it stands on
abbrev pub sink_writer : {W : Type 0} → StdSink W → W
sink_writer s = s.inner

-- how often it has failed
abbrev pub sink_faults : {W : Type 0} → StdSink W → ℕ
sink_faults s = s.faults
