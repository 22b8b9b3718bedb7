-- Expression statements, and what is told of any statement.
use Rattle.std.proofs.Common.{◌≡◌, false, true, refl, ap, ◌∙◌, subst}
use Rattle.jsgen_syntax.specs.declared.precedence.Precedence.TheVariants as levels
use Rattle.jsgen_tree.specs.Job.{Tables}
use Rattle.jsgen_tree.specs.Inside.{ends_open}
use Rattle.jsgen_tree.specs.Tree.{Tree, Atoms}
use Rattle.jsgen_tree.specs.Nodes as tree
use Rattle.jsgen_model.specs.Tokens.{done}
use Rattle.jsgen_model.specs.Items.{◌⊕◌, statement_begins}
use Rattle.jsgen_model.specs.Layout.{Pen, layout, statement}
use Rattle.jsgen_model.specs.Grammar.{Allowed, with_in}
use Rattle.jsgen_model.specs.Grammar as grammar
use Rattle.jsgen_model.specs.Normal.{normal, nothing_of}
use Rattle.jsgen_model.specs.Renamed.{renamed}
use Rattle.jsgen_place.specs.Place.{in_brackets}
use Rattle.jsgen_model.specs.Spell.{spell}
use Rattle.jsgen_token_laws.proofs.Last.{Last}
use Rattle.jsgen_token_laws.proofs.Writes.{then_done}
use Rattle.jsgen_token_laws.proofs.Steps.{gap, begins_written}
use Rattle.jsgen_row_laws.proofs.Families.{IsStatement}
use Rattle.jsgen_row_laws.proofs.Families as family
use Rattle.jsgen_row_laws.proofs.Good.{Good, Printed, operand_ready}
use Rattle.jsgen_row_laws.proofs.Stands.{Unended, UnendedAt, ReadsClosed, Stated, stated_among, SameTree, blank_before_unended, whole_line}
use Rattle.jsgen_row_laws.proofs.Bodies.{EmptyAlone}

-- ---- expression statements

unended_expression : {names : Tables} {q : Pen} {l : Last} (c : Allowed) (a : Atoms) (e : Tree) (p : Pen) → let p1 : Pen = record p { start = statement } in Good names p1 l q (with_in c) grammar.Expression e → Unended names (ReadsClosed c false) (SameTree names (tree.expression_statement a e)) p1 l q
unended_expression c a e p g = record {
  last = g.last;
  tokens = g.tokens;
  writes = g.writes;
  ready = operand_ready g.last g.operand;
  semicolon = g.semicolon;
  reading = tree.expression_statement (nothing_of 0) g.tree;
  reads = record { read = λ last ts h before_else n. grammar.an_expression_statement h (subst (λ us. grammar.starts_statement us ≡ true) (then_done g.tokens) (g.begins done refl)) g.reads };
  same = ap (λ x. tree.expression_statement (nothing_of 0) x) g.same;
}

pub good_expression_statement : {names : Tables} (c : Allowed) (a : Atoms) (e : Tree) → Printed names c e → Stated names c (tree.expression_statement a e)
good_expression_statement {names} c a e f = stated_among refl (whole_line (statement_begins ⊕ spell e (in_brackets levels.Lowest)) inside)
  where
    inside : UnendedAt names (ReadsClosed c false) (SameTree names (tree.expression_statement a e)) (statement_begins ⊕ spell e (in_brackets levels.Lowest))
    inside p l z y k =
        let b = begins_written p l k in
        let g = f (in_brackets levels.Lowest) (layout statement_begins p) b.last (b.semicolon ∙ z) (b.ready y) b.writes.knows in
        blank_before_unended (gap b) (unended_expression c a e p g)

-- ---- any statement

-- the normal form tells what ends open
pub normal_open : {names : Tables} {c : Allowed} {t : Tree} → IsStatement names c t → ends_open (normal (renamed names t)) ≡ ends_open t
normal_open (family.an_expression_statement v) = refl
normal_open family.an_empty_statement = refl
normal_open (family.a_block v) = refl
normal_open (family.an_if v w) = refl
normal_open (family.an_if_with_else v w u) = normal_open u
normal_open (family.a_variable_statement h m v) = refl
normal_open (family.a_for v w x y) = normal_open y
normal_open (family.a_for_in v w x) = normal_open x
normal_open (family.a_for_of m v w x) = normal_open x
normal_open (family.a_while v w) = normal_open w
normal_open (family.a_do_while v w) = refl
normal_open (family.a_labelled_statement h v) = normal_open v
normal_open (family.a_continue v) = refl
normal_open (family.a_break v) = refl
normal_open (family.a_throw v) = refl
normal_open family.a_debugger = refl
normal_open (family.a_return h v) = refl
normal_open (family.a_switch v w) = refl
normal_open (family.a_try v w) = refl

-- of all statements an empty one alone is spelled as one
pub empty_alone : {names : Tables} {c : Allowed} {t : Tree} → IsStatement names c t → EmptyAlone names t
empty_alone family.an_empty_statement e = refl
empty_alone v e = absurd cc
