-- What the checker answers about a tree: Ok with its height where it keeps each rule, else the first rule that it breaks.
use Rattle.std.specs.Prelude.{◌≡◌, ℕ, suc, min, max, false, List, [], ◌∷◌, ◌++◌, Option, Result, Ok, Err, if◌then◌else◌}
use Rattle.std.specs.Str.{chars}
use Rattle.std.specs.Borrow.{Bor}
use Rattle.jsgen_syntax.specs.declared.span.Span.{Span}
use Rattle.jsgen_tree.specs.declared.types.NodeSet.{NodeSet}
use Rattle.jsgen_tree.specs.Tree.{Tree, node, Maybe, absent, given, Trees, MaybeTrees, no_list, listed}
use Rattle.jsgen_tree.specs.Options.{Options, options_plain}
use Rattle.jsgen_tree.specs.Job.{Tables, JobData}
use Rattle.jsgen_tree.specs.Scoping.{tables_plain}
use Rattle.jsgen_tree.specs.declared.scoping.Scoping.{Scoping}
use Rattle.jsgen_tree.specs.declared.scoping.PrivateMappings.{PrivateMappings}
use Rattle.jsgen_model.specs.Valid as valid
use Rattle.jsgen_model.specs.Valid.{breaches, span_faults, program_faults, indent_faults, set_faults, child_places, in_slots, in_trees, height, greatest_height, fault_if, passes_levels, surroundings_of}
use Rattle.jsgen_model.specs.declared.fault.TreeFault.{TreeFault}
use Rattle.jsgen_model.specs.declared.fault.TreeFault.TheVariants as faults
use Rattle.jsgen_rules.specs.Verdict.{verdict}
use Rattle.jsgen_rules.specs.Classes.{numbers, counted}
use Rattle.jsgen_rules.specs.declared.private.Classes.{Classes}
use Rattle.jsgen_check.specs.declared.surroundings.Surroundings.{Surroundings}

-- the tables that a caller hands, each or none
abbrev pub tables_of : Option (Bor Scoping) → Option (Bor PrivateMappings) → Tables
tables_of scoping private = tables_plain (record { scoping = scoping; private = private })

-- with the classes round the node
unfoldable pub surroundings_plain : Surroundings → Option (Bor Classes) → valid.Surroundings
surroundings_plain around classes = record { options = options_plain around.options.now; tables = tables_plain around.tables; source = chars around.source.now; is_mapped = around.is_mapped; classes = numbers classes; in_function = around.in_function; may_yield = around.may_yield; may_await = around.may_await }

-- the same as far as the tables of classes go
abbrev pub SameNumber : valid.Surroundings → ℕ → ℕ → Type 0
SameNumber around m n = counted around.tables m ≡ counted around.tables n

-- a height, counted up to what 64 bits hold
abbrev pub capped : ℕ → ℕ
capped height = min height 18446744073709551615

-- Ok with this height where there is no fault, else the first
unfoldable pub measured : ℕ → List TreeFault → Result ℕ TreeFault
measured height [] = Ok (capped height)
measured height (f ∷ fs) = Err f

-- the first fault of two checks
unfoldable pub both : {A : Type 0} → Result (Unit {0}) TreeFault → Result A TreeFault → Result A TreeFault
both (Ok done) r = r
both (Err e) r = Err e

-- the first fault of two checks, else the greater height
unfoldable pub higher : Result ℕ TreeFault → Result ℕ TreeFault → Result ℕ TreeFault
higher (Ok m) (Ok n) = Ok (max m n)
higher (Ok m) (Err e) = Err e
higher (Err e) r = Err e

-- a fault of the children of a node, else its height
unfoldable pub raised : Result ℕ TreeFault → Result ℕ TreeFault
raised (Ok n) = Ok (capped (suc n))
raised (Err e) = Err e

-- what a tree with this span breaks by its height, under these options
abbrev pub height_faults : Options → Span → ℕ → List TreeFault
height_faults options s height = fault_if (if options.minify then false else passes_levels options height) (faults.Indent s.start)

-- a fault of the children of a program, else of its height
unfoldable pub ended : Options → Span → Result ℕ TreeFault → Result (Unit {0}) TreeFault
ended options s (Ok n) = verdict (height_faults options s (capped (suc n)))
ended options s (Err e) = Err e

-- a fault of an expression by itself, else of its height
unfoldable pub topped : Options → Span → Result ℕ TreeFault → Result (Unit {0}) TreeFault
topped options s (Ok n) = verdict (height_faults options s n)
topped options s (Err e) = Err e

-- ---- trees

-- where the next class has this number
unfoldable pub tree_verdict : valid.Surroundings → ℕ → Tree → Result ℕ TreeFault
tree_verdict around next t = measured (height t) (breaches around next t)

-- of a child, at a place that asks for this set
unfoldable pub child_verdict : valid.Surroundings → ℕ → NodeSet → Tree → Result ℕ TreeFault
child_verdict around next set t = measured (height t) (set_faults set t ++ breaches around next t)

-- of a child that may be absent
abbrev pub maybe_verdict : valid.Surroundings → ℕ → NodeSet → Maybe → Result ℕ TreeFault
maybe_verdict around next set absent = Ok 0
maybe_verdict around next set (given t) = child_verdict around next set t

-- of a list of children, each at a place that asks for this set: Ok with the greatest height
unfoldable pub children_verdict : valid.Surroundings → ℕ → NodeSet → Trees → Result ℕ TreeFault
children_verdict around next set ts = measured (greatest_height ts) (in_trees around (record { set = set; around = around } ∷ []) next ts)

-- of a list that may be absent
abbrev pub maybe_children_verdict : valid.Surroundings → ℕ → NodeSet → MaybeTrees → Result ℕ TreeFault
maybe_children_verdict around next set no_list = Ok 0
maybe_children_verdict around next set (listed ts) = children_verdict around next set ts

-- ---- programs

-- the rules that a program breaks, in the order in which they are told: that of its height comes last
abbrev pub told_in : valid.Surroundings → Tree → List TreeFault
told_in around (node type a slots) = span_faults around a.span ++ (program_faults a.span around.source around.options ++ (in_slots around (child_places around 0 (node type a slots)) 0 slots ++ indent_faults around.options (node type a slots)))

-- what is told of a job: the first of them
abbrev pub told : JobData → Result (Unit {0}) TreeFault
told job = verdict (told_in (surroundings_of job) job.program)
