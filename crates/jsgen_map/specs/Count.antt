-- A machine that counts lines and columns over the bytes of a text, one after the other. What it has to remember is in its state, so a text may be cut anywhere and the count goes on.
use Rattle.std.specs.Prelude.{ℕ, suc, ◌+◌, List, [], ◌∷◌, ◌==◌, ◌||◌, nat_lt, nat_le, if◌then◌else◌}
use Rattle.jsgen_map.specs.declared.count.Count.{Count}
use Rattle.jsgen_map.specs.declared.count.Seen.{Seen}
use Rattle.jsgen_map.specs.declared.count.Seen.TheVariants.{Other, Return, FirstOfSeparator, SecondOfSeparator, FirstOfFour}
use Rattle.jsgen_map.specs.declared.position.Position.{Position}
use Rattle.jsgen_map.specs.LineColumn.{at}

abbrev pub count_at : Position → Seen → Count
count_at p s = record { place = p; seen = s }

abbrev pub next_line : Position → Position
next_line p = at (suc p.line) 0

abbrev pub next_unit : Position → Position
next_unit p = at p.line (p.column + 1)

-- LF behind CR ends no other line
abbrev pub line_feed : Seen → Position → Position
line_feed Return p = p
line_feed s p = next_line p

-- a byte inside a character: the third of U+2028 or U+2029, or the second of four, which has the second unit
abbrev pub inner : Seen → Position → ℕ → Count
inner FirstOfSeparator p b = count_at p (if b == 128 then SecondOfSeparator else Other)
inner SecondOfSeparator p b = if (b == 168) || (b == 169) then count_at (next_line p) Other else count_at p Other
inner FirstOfFour p b = count_at (next_unit p) Other
inner s p b = count_at p Other

abbrev pub lead : ℕ → Seen
lead b = if b == 226 then FirstOfSeparator else (if nat_le 240 b then FirstOfFour else Other)

abbrev pub step : Count → ℕ → Count
step c b =
    if b == 10 then count_at (line_feed c.seen c.place) Other
    else (if b == 13 then count_at (next_line c.place) Return
    else (if nat_lt b 128 then count_at (next_unit c.place) Other
    else (if nat_lt b 192 then inner c.seen c.place b
    else count_at (next_unit c.place) (lead b))))

abbrev pub counted_from : Count → List ℕ → Count
counted_from c [] = c
counted_from c (b ∷ bs) = counted_from (step c b) bs

abbrev pub counted : List ℕ → Count
counted bytes = counted_from (count_at (at 0 0) Other) bytes
