-- Contexts: sets of flags, each a bit.
use Rattle.std.specs.Prelude.{◌≡◌, ℕ, Bool, true, false, ◌==◌}
use Rattle.std.specs.Int.RustNames.{bit_and, bit_or}
use Rattle.bitflags.specs.Sets.{without}
use Rattle.jsgen_printer.specs.declared.context.Context.{Context}

-- the flags' bits
abbrev pub forbid_in : ℕ
forbid_in = 1

abbrev pub forbid_call : ℕ
forbid_call = 2

abbrev pub typescript : ℕ
typescript = 4

abbrev pub tagged_template : ℕ
tagged_template = 8

-- whether the flag is set
abbrev pub has : ℕ → Context → Bool
has flag context = bit_and context.bits flag == flag

-- the same context, in which the flag is set or isn't
abbrev pub with_flag : Bool → ℕ → Context → Context
with_flag true flag context = record { bits = bit_or context.bits flag }
with_flag false flag context = record { bits = without 8 context.bits flag }

-- two contexts have the same flags, but maybe this one
abbrev pub SameBut : ℕ → Context → Context → Type 0
SameBut flag a b = (other : ℕ) → without 8 other flag ≡ other → has other a ≡ has other b
