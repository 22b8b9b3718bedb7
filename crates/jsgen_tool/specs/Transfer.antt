-- What reading an input whole does to the source.
use Rattle.std.specs.Prelude.{◌≡◌, ⊤, ℕ, ◌<◌, ◌≤◌, List, length, IfSome, Option, Result, Ok, Err, Vec, codes}
use Rattle.std.specs.declared.alloc.Global.{Global}
use Rattle.std.specs.Io.KnownBytes.{Consumes}
use Rattle.jsgen_device.specs.Device.{Rose}
use Rattle.jsgen_tool.specs.declared.transfer.Unread.{Unread}
use Rattle.jsgen_tool.specs.declared.transfer.Unread.TheVariants.{Failed, TooLong, Memory}

-- the most bytes of an input: 32 MiB
abbrev pub limit : ℕ
limit = 33554432

abbrev pub IsWithin : List ℕ → Type 0
IsWithin bytes = length bytes ≤ limit

-- known bytes lose at most n first ones
abbrev pub TakesAtMost : ℕ → Option (List ℕ) → Option (List ℕ) → Type 0
TakesAtMost n old new = (taken : List ℕ) × Consumes old new taken × (length taken ≤ n)

-- what a read to the end says of the bytes held
abbrev pub HeldBy : Result (Vec ℕ Global) Unread → Option (List ℕ) → Type 0
HeldBy (Ok bytes) held = IfSome held (λ told. told ≡ bytes.items) × IsWithin bytes.items
HeldBy (Err TooLong) held = IfSome held (λ told. limit < length told)
HeldBy (Err other) held = ⊤

-- a read to the end fails only where the count rose, and otherwise it is as it was
abbrev pub UnreadCount : Result (Vec ℕ Global) Unread → ℕ → ℕ → Type 0
UnreadCount (Err Failed) before now = (before ≤ now) × Rose before now
UnreadCount other before now = now ≡ before

-- what is said of an input that wasn't read whole
abbrev pub unread_text : Unread → List ℕ
unread_text Failed = codes "read failed"
unread_text TooLong = codes "input too long"
unread_text Memory = codes "out of memory"
