-- The verdict on an expression by itself, whose height is judged behind its other rules.
use Rattle.std.proofs.Common.{◌≡◌, ℕ, ◌+◌, ◌⊎◌, inl, inr, true, false, List, [], ◌∷◌, ◌++◌, nat_lt, Result, if◌then◌else◌, refl, ap, ◌∙◌, arith}
use Rattle.std.proofs.lemmas.Bool.Decides.{nat_tests}
use Rattle.jsgen_syntax.specs.declared.span.Span.{Span}
use Rattle.jsgen_tree.specs.declared.types.NodeSet.TheVariants as sets
use Rattle.jsgen_tree.specs.Options.{Options}
use Rattle.jsgen_tree.specs.Job.{Tables}
use Rattle.jsgen_tree.specs.Tree.{Tree, span_of}
use Rattle.jsgen_model.specs.Valid as valid
use Rattle.jsgen_model.specs.Valid.{at_top, breaches, set_faults, fault_if, passes_levels, indent_faults, height, expression_breaches, Judges}
use Rattle.jsgen_model.specs.declared.fault.TreeFault.{TreeFault}
use Rattle.jsgen_model.specs.declared.fault.TreeFault.TheVariants as faults
use Rattle.jsgen_rules.specs.Verdict.{verdict}
use Rattle.jsgen_check.specs.Verdict.{capped, measured, topped, child_verdict, height_faults}

-- of a height that is counted up to what 64 bits hold, either nothing is cut off, or it passes 32 bits and so does the height
passes : (options : Options) (n : ℕ) → (capped n ≡ n) ⊎ (nat_lt 4294967295 (options.initial_indent + capped n) ≡ true) × (nat_lt 4294967295 (options.initial_indent + n) ≡ true)
passes options n = grind (arith, nat_tests)

same_levels : (options : Options) (n : ℕ) → (capped n ≡ n) ⊎ (nat_lt 4294967295 (options.initial_indent + capped n) ≡ true) × (nat_lt 4294967295 (options.initial_indent + n) ≡ true) → passes_levels options (capped n) ≡ passes_levels options n
same_levels options n (inl e) = ap (passes_levels options) e
same_levels options n (inr h) = rw (h.0, h.1) refl

pub capped_height : (options : Options) (s : Span) (n : ℕ) → height_faults options s (capped n) ≡ height_faults options s n
capped_height options s n = ap (λ b. fault_if (if options.minify then false else b) (faults.Indent s.start)) (same_levels options n (passes options n))

of_topped : (options : Options) (s : Span) (n : ℕ) (a : List TreeFault) → topped options s (measured n a) ≡ verdict (a ++ height_faults options s n)
unfolding topped measured verdict
of_topped options s n [] = ap verdict (capped_height options s n)
of_topped options s n (f ∷ a) = refl

-- the first fault is one of them
judged : (a : List TreeFault) → Judges a (verdict a)
unfolding verdict
judged [] = refl
judged (f ∷ a) = (0, omega arith, refl)

pub of_expression : {r : Result (Unit {0}) TreeFault} {q : Result ℕ TreeFault} (here : valid.Surroundings) (options : Options) (handed : Tables) (s : Span) (t : Tree) → here ≡ at_top options handed [] false → s ≡ span_of t → r ≡ topped options s q → q ≡ child_verdict here 0 sets.Expression t → Judges (expression_breaches options handed t) r
unfolding child_verdict
of_expression {r} {q} here options handed s t same is top below =
    let rules = set_faults sets.Expression t ++ breaches here 0 t in
    let first = top ∙ (ap (topped options s) below ∙ (ap (λ x. topped options x (measured (height t) rules)) is ∙ of_topped options (span_of t) (height t) rules)) in
    let judges : Judges (rules ++ indent_faults options t) r = rw first (judged (rules ++ indent_faults options t)) in
    rw same at judges
