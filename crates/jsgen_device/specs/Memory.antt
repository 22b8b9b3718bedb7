-- What the devices in memory show of themselves, and what a call does to them.
use Rattle.std.specs.Prelude.{◌≡◌, ℕ, ◌+◌, ◌-◌, ◌^◌, ◌↔◌, min, Bool, true, List, [], ◌∷◌, ◌++◌, length, take, drop, nat_eq, nat_lt, if◌then◌else◌, Option, Some, None, Result, Contains, IsErr, IsTrue, IfOk, OnErr}
use Rattle.jsgen_device.specs.declared.device.Failed.{Failed}
use Rattle.jsgen_device.specs.declared.memory.MemSource.{MemSource}
use Rattle.jsgen_device.specs.declared.memory.SureSource.{SureSource}
use Rattle.jsgen_device.specs.declared.memory.MemSink.{MemSink}
use Rattle.jsgen_device.specs.declared.memory.SureSink.{SureSink}

-- what a counter says behind one more; it stops at its last value
abbrev pub next_call : ℕ → ℕ
next_call calls = min (calls + 1) (2 ^ 64 - 1)

-- ---- a source

-- the bytes still to come
abbrev pub source_left : MemSource → List ℕ
source_left s = drop s.at s.bytes.items

-- how often it has failed
abbrev pub source_faults : MemSource → ℕ
source_faults s = s.faults

-- how often it was called
abbrev pub source_calls : MemSource → ℕ
source_calls s = s.calls

-- the numbers of the calls that fail
abbrev pub source_list : MemSource → List ℕ
source_list s = s.fail.items

-- a call fails where its number is in the list, and otherwise gives as much as there is room for
pub record Pulls (old new : MemSource) (room : ℕ) (result : Result ℕ Failed) : Type 0 where
  pub calls : source_calls new ≡ next_call (source_calls old)
  pub list : source_list new ≡ source_list old
  pub failed : IsErr result ↔ Contains (source_list old) (source_calls new)
  pub count : IfOk result (λ n. n ≡ min room (length (source_left old)))
  pub faults : OnErr result (source_faults new ≡ next_call (source_faults old))

-- the bytes still to come
abbrev pub sure_left : SureSource → List ℕ
sure_left s = drop s.at s.bytes.items

-- ---- a sink

-- the bytes taken
abbrev pub sink_got : MemSink → List ℕ
sink_got s = take s.at s.store.items

-- how often it has failed
abbrev pub sink_faults : MemSink → ℕ
sink_faults s = s.faults

-- how many bytes it can hold in all, and how many more
abbrev pub sink_room : MemSink → ℕ
sink_room s = length s.store.items

abbrev pub room_left : MemSink → ℕ
room_left s = sink_room s - length (sink_got s)

-- how often it was called
abbrev pub sink_calls : MemSink → ℕ
sink_calls s = s.calls

-- the calls that fail: the number of each, and how many bytes it takes before
abbrev pub sink_list : MemSink → List (ℕ × ℕ)
sink_list s = s.fail.items

-- how many bytes the call of this number takes before it fails, where the list has it
abbrev pub listed : List (ℕ × ℕ) → ℕ → Option ℕ
listed [] call = None
listed ((number, takes) ∷ rest) call = if nat_eq number call then Some takes else listed rest call

-- How many bytes of a piece are taken: at a listed call as many as the list says, at most the piece and the room
-- left; at another call all of them or, where they don't fit, none.
abbrev pub taken_of : Option ℕ → ℕ → ℕ → ℕ
taken_of (Some takes) piece room = min (min takes piece) room
taken_of None piece room = if nat_lt room piece then 0 else piece

-- a listed call fails, and another one where the piece doesn't fit
abbrev pub fails : Option ℕ → ℕ → ℕ → Bool
fails (Some takes) piece room = true
fails None piece room = nat_lt room piece

pub record Pushes (old new : MemSink) (piece : List ℕ) (result : Result (Unit {0}) Failed) : Type 0 where
  pub calls : sink_calls new ≡ next_call (sink_calls old)
  pub list : sink_list new ≡ sink_list old
  pub room : sink_room new ≡ sink_room old
  pub got : sink_got new ≡ sink_got old ++ take (taken_of (listed (sink_list old) (sink_calls new)) (length piece) (room_left old)) piece
  pub failed : IsErr result ↔ IsTrue (fails (listed (sink_list old) (sink_calls new)) (length piece) (room_left old))
  pub faults : OnErr result (sink_faults new ≡ next_call (sink_faults old))

-- the bytes taken
abbrev pub sure_got : SureSink → List ℕ
sure_got s = take s.at s.store.items

-- how often it has failed
abbrev pub sure_faults : SureSink → ℕ
sure_faults s = s.faults

-- how many bytes it can hold in all, and how many more
abbrev pub sure_room : SureSink → ℕ
sure_room s = length s.store.items

abbrev pub sure_room_left : SureSink → ℕ
sure_room_left s = sure_room s - length (sure_got s)

-- a call fails where the piece doesn't fit, and then takes nothing
pub record SurelyPushes (old new : SureSink) (piece : List ℕ) (result : Result (Unit {0}) Failed) : Type 0 where
  pub room : sure_room new ≡ sure_room old
  pub got : sure_got new ≡ sure_got old ++ take (taken_of None (length piece) (sure_room_left old)) piece
  pub failed : IsErr result ↔ IsTrue (nat_lt (sure_room_left old) (length piece))
  pub faults : OnErr result (sure_faults new ≡ next_call (sure_faults old))
