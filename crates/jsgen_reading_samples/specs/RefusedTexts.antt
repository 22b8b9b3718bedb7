-- Texts that ECMA-262 doesn't read as a module, worked out by hand: those that a grammar reads by mistake where one of its rules is
-- left out or stands a level too high.
use Rattle.std.specs.Prelude.{codes}
use Rattle.jsgen_reading_samples.specs.RefusedPatterns.{IsNotRead}

pub record RefusedTexts : Type 0 where
  -- `{` begins a block where a statement begins (14.5), and no object of which a member is taken
  pub object_first : IsNotRead (codes "{}.a;")
  -- `function` begins a declaration there (14.5), which has a name (15.2), and no expression
  pub function_first : IsNotRead (codes "function(){};")
  -- first in the head of `for` no `in` is an operator (14.7.4), though it is one behind the first semicolon
  pub operator_in_first : IsNotRead (codes "for(a in b;;);")
  -- before `of` a target isn't `async` (14.7.5), which is a name elsewhere
  pub async_before_of : IsNotRead (codes "for(async of b)c;")
  -- `??` and `||` don't mix (13.13), whichever of them would be the operand
  pub coalesced_or : IsNotRead (codes "a??b||c;")
  -- what a power is taken of has no operator before it (13.6), so that it is neither `(-a)**b` nor `-(a**b)`
  pub power_of_negation : IsNotRead (codes "-a**b;")
  -- no optional link goes on from `new` without arguments (13.3), nor stands in what is constructed
  pub optional_link_behind_new : IsNotRead (codes "new a?.b();")
  -- nothing is assigned to a chain with an optional link (13.15.1)
  pub optional_target : IsNotRead (codes "a?.b=c;")
  -- `a=function(){}` gives the function a name, and this doesn't (13.15.2), whereas the tree has no parentheses round a target
  pub unnamed_function : IsNotRead (codes "(a)=function(){};")
  -- an arrow function is no operand, not even where a brace ends it (15.3)
  pub called_body : IsNotRead (codes "a=>{}();")
  -- no line end stands before an arrow (15.3)
  pub arrow_on_next_line : IsNotRead (codes "a\n=>b;")
  -- nor behind `throw` (14.14), which isn't a statement by itself
  pub throw_on_two_lines : IsNotRead (codes "throw\na;")
  -- a word with an escape is no keyword, nor does it stand for a name where what it spells is reserved (12.7.1)
  pub escaped_keyword : IsNotRead (codes "i\\u0066(a);")
