-- The reader: from a state it reads tokens, one after the other, and what stands in brackets by itself. It looks one token ahead, behind brackets.
use Rattle.jsgen_model.specs.Tokens.{Tokens, done, piece, group}
use Rattle.jsgen_one_reading.specs.States.{State, Answer}
use Rattle.jsgen_one_reading.specs.Steps.{step}
use Rattle.jsgen_one_reading.specs.Brackets.{behind, faced, inner, enter}
use Rattle.jsgen_one_reading.specs.Ends.{finish}

-- the answer of the tokens from a state on
abbrev pub run : State → Tokens → Answer
run s done = finish s
run s (piece mark p ts) = run (step s mark p) ts
run s (group mark b inside ts) = run (enter (faced s mark b (behind ts)) b (run (inner (faced s mark b (behind ts)) b) inside)) ts
