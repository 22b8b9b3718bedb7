-- Texts with async functions, generators, `await`, `yield` and loops that wait that ECMA-262 doesn't read as a module, worked out by hand:
-- those that a grammar reads by mistake where one of its rules is left out or too wide.
use Rattle.std.specs.Prelude.{codes}
use Rattle.jsgen_reading_samples.specs.RefusedPatterns.{IsNotRead}

pub record RefusedFunctions : Type 0 where
  -- an operation of one operand before `**` stands in parentheses (13.6)
  pub power_of_awaited : IsNotRead (codes "await a ** b;")
  -- in an arrow function that isn't `async` there is no `await` (15.3)
  pub await_in_plain_arrow : IsNotRead (codes "() => await a;")
  -- nor does a loop wait in a function that isn't (14.7.5)
  pub waiting_in_plain_function : IsNotRead (codes "function f() { for await (a of b); }")
  -- the arrow is on the line of its parameters (15.9)
  pub arrow_behind_line_end : IsNotRead (codes "async x\n=> x;")
  -- `yield` is no operand (15.5)
  pub yield_as_operand : IsNotRead (codes "function* g() { a + yield b; }")
