-- Where a node is printed, and what stands in parentheses there.
use Rattle.std.specs.Prelude.{Bool, true, false, not, ◌&&◌, ◌||◌, ◌==◌, nat_le}
use Rattle.jsgen_syntax.specs.Precedence.{rank}
use Rattle.jsgen_syntax.specs.Operator.{binary_level, logical_level}
use Rattle.jsgen_syntax.specs.declared.precedence.Precedence.{Precedence}
use Rattle.jsgen_syntax.specs.declared.precedence.Precedence.TheVariants.{Lowest, Assign, Compare, Prefix, Postfix, New}
use Rattle.jsgen_syntax.specs.declared.operator.BinaryOperator.{BinaryOperator}
use Rattle.jsgen_syntax.specs.declared.operator.BinaryOperator.TheVariants as operators
use Rattle.jsgen_syntax.specs.declared.operator.LogicalOperator.{LogicalOperator}
use Rattle.jsgen_place.specs.declared.place.Context.{Context}
use Rattle.jsgen_place.specs.declared.place.Place.{Place}

abbrev pub free : Context
free = record { forbids_in = false; forbids_call = false; is_tagged = false }

abbrev pub at_level : Precedence → Context → Place
at_level level context = record { level = level; context = context; in_list = false; left_operand = false; plain_quotes = false }

-- a child, under the same context
abbrev pub child : Precedence → Place → Place
child level place = at_level level place.context

abbrev pub left_operand : Precedence → Place → Place
left_operand level place = record (child level place) { left_operand = true }

-- a child where nothing is forbidden
abbrev pub in_brackets : Precedence → Place
in_brackets level = at_level level free

-- a statement
abbrev pub among_statements : Place
among_statements = record (in_brackets Lowest) { in_list = true }

-- a block or an `if` that goes on with a line
abbrev pub within_statement : Place
within_statement = in_brackets Lowest

-- what stands first in the head of a loop, where `in` is forbidden (ECMA-262, 14.7.4)
abbrev pub loop_head : Place
loop_head = at_level Lowest (record free { forbids_in = true })

-- a string that is never in backticks, and names beside it
abbrev pub plainly : Place
plainly = record (in_brackets Lowest) { plain_quotes = true }

-- a member of a class, among others
abbrev pub member : Place → Place
member place = record (child Lowest place) { in_list = true }

-- what stands behind the `in` of a private name, where no other `in` may stand
abbrev pub behind_private : Place
behind_private = at_level Compare (record free { forbids_in = true })

-- calls may stand there
abbrev pub with_calls : Place → Place
with_calls place = record place { context = record place.context { forbids_call = false } }

-- a string is never in backticks there, where the test holds
abbrev pub quoted_plainly : Bool → Place → Place
quoted_plainly test place = record place { plain_quotes = test }

-- the object of a member
abbrev pub linked : Place → Place
linked place = child Postfix place

-- at the level of the object of a member, behind which a source map may have a mark
abbrev pub is_at_link : Place → Bool
is_at_link place = rank place.level == rank Postfix

-- what is called: calls may stand in it
abbrev pub called : Place → Place
called place = with_calls (child Postfix place)

-- what stands before a template that it is handed: of what is forbidden, calls alone stay forbidden
abbrev pub tag : Place → Place
tag place = at_level Postfix (record free { forbids_call = place.context.forbids_call })

-- a template behind its tag, which sees its raw text
abbrev pub tagged : Place → Place
tagged place = record place { context = record place.context { is_tagged = true } }

-- what `new` stands before: no call may stand in it
abbrev pub constructed : Place → Place
constructed place = at_level New (record place.context { forbids_call = true })

abbrev pub allow_in : Bool → Context → Context
allow_in true context = record context { forbids_in = false }
allow_in false context = context

-- within parentheses, where the test holds, `in` may stand
abbrev pub within : Bool → Place → Place
within test place = record place { context = allow_in test place.context }

-- an expression of this level stands in parentheses
abbrev pub wraps : Precedence → Place → Bool
wraps own place = nat_le (rank own) (rank place.level)

-- the level of an update, by whether its operator stands before its operand
abbrev pub update_level : Bool → Precedence
update_level true = Prefix
update_level false = Postfix

-- `in` where it is forbidden
abbrev pub is_forbidden : BinaryOperator → Place → Bool
is_forbidden operators.In place = place.context.forbids_in
is_forbidden o place = false

abbrev pub binary_wraps : BinaryOperator → Place → Bool
binary_wraps o place = wraps (binary_level o) place || is_forbidden o place

-- the operation goes on with a chain of its own operator: a right operand of it, which needs no parentheses
abbrev pub continues_chain : LogicalOperator → Place → Bool
continues_chain o place = not place.left_operand && (rank (logical_level o) == rank place.level)

abbrev pub logical_wraps : LogicalOperator → Place → Bool
logical_wraps o place = wraps (logical_level o) place && not (continues_chain o place)

-- a call stands in parentheses where something tighter is asked for, and where calls are forbidden
abbrev pub call_wraps : Place → Bool
call_wraps place = wraps New place || place.context.forbids_call

-- a chain stands in parentheses before a link that is none of its own, and where calls are forbidden
abbrev pub chain_wraps : Place → Bool
chain_wraps place = wraps Postfix place || place.context.forbids_call

-- its links, within the parentheses where the test holds
abbrev pub chain_place : Bool → Place → Place
chain_place true place = in_brackets Lowest
chain_place false place = place

-- an arrow function stands in parentheses where something tighter is asked for, and where it is marked so
abbrev pub arrow_wraps : Bool → Place → Bool
arrow_wraps pife place = pife || wraps Assign place
