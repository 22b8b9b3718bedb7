-- Arrays and objects.
use Rattle.std.proofs.Common.{◌≡◌, Bool, true, false, not, refl, ap, subst, arith}
use Rattle.std.proofs.lemmas.Bool.{both_ways}
use Rattle.jsgen_syntax.specs.declared.precedence.Precedence.TheVariants as levels
use Rattle.jsgen_tree.specs.Job.{Tables}
use Rattle.jsgen_tree.specs.Tree.{Tree, Trees, no_trees, more, hole, Atoms}
use Rattle.jsgen_tree.specs.Nodes as tree
use Rattle.jsgen_model.specs.Punctuator.{Round, Square, Brace, opening, closing}
use Rattle.jsgen_model.specs.Tokens.{Tokens, done, group}
use Rattle.jsgen_model.specs.Items.{Items, ◌⊕◌, brackets, a_brace}
use Rattle.jsgen_model.specs.Layout.{Pen, Start, nowhere, statement, arrow_body, default_export, other_end, layout, written, unless_printed, is_barred, written_if, begun_at}
use Rattle.jsgen_model.specs.Grammar.{Allowed, ReadsElement, ReadsElements, ReadsProperty, ReadsProperties, with_in, ReadsExpression}
use Rattle.jsgen_model.specs.Grammar as grammar
use Rattle.jsgen_model.specs.Normal.{nothing_of}
use Rattle.jsgen_place.specs.Place.{in_brackets, within}
use Rattle.jsgen_model.specs.Spell.{spell_elements, are_more, on_lines, ends_in_hole, comma_if, object_inside}
use Rattle.jsgen_token_laws.proofs.Last.{Open, line_of}
use Rattle.jsgen_token_laws.proofs.Steps.{within_brackets, brackets_written}
use Rattle.jsgen_row_laws.proofs.Levels.{under, level_of, lifted, weaken_member, from_primary}
use Rattle.jsgen_row_laws.proofs.Good.{Good, Printed, may_begin, PrintedFrom, wrapped_from, begins_all}
use Rattle.jsgen_row_laws.proofs.Links.{ElementOf}
use Rattle.jsgen_row_laws.proofs.Properties.{PropertyOf}
use Rattle.jsgen_row_laws.proofs.Elements.{InsideAt, nothing_inside, first_inside, hole_inside, inside_lines, inside_braces, members}

-- ---- elements, in brackets

abbrev pub ElementsOf : Tables → Allowed → Trees → Type 0
ElementsOf names c es = (lines : Bool) → InsideAt names (ReadsElements (with_in c)) lines (in_brackets levels.Comma) es

pub no_elements : {names : Tables} (c : Allowed) → ElementsOf names c no_trees
no_elements c lines = nothing_inside (ReadsElements (with_in c)) grammar.no_element lines (in_brackets levels.Comma)

pub first_of_elements : {names : Tables} (c : Allowed) (e : Tree) (es : Trees) → ElementOf names c e → ElementsOf names c es → ElementsOf names c (more e es)
first_of_elements c e es f h lines = first_inside (ReadsElement (with_in c)) (ReadsElements (with_in c)) (λ ts t r. grammar.last_element r) (λ mark a b t us r s. grammar.first_element mark refl r s) lines (in_brackets levels.Comma) e es (f false) (h lines)

pub left_out_of_elements : {names : Tables} (c : Allowed) (es : Trees) → ElementsOf names c es → ElementsOf names c (hole es)
left_out_of_elements c es h lines = hole_inside (ReadsElements (with_in c)) grammar.no_element (λ mark b us r. grammar.an_elision r) lines (in_brackets levels.Comma) es (h lines)

-- ---- arrays

pub good_array : {names : Tables} (c : Allowed) (a : Atoms) (es : Trees) → ElementsOf names c es → Printed names c (tree.array a es)
good_array c a es f place p l z y k =
    let lines : Bool = are_more 2 es in
    let items : Items = spell_elements lines es (in_brackets levels.Comma) ⊕ comma_if (ends_in_hole es) in
    let p1 : Pen = written (opening Square) other_end p in
    let q : Pen = layout (on_lines lines items) p1 in
    let g = inside_lines (ReadsElements (with_in c)) lines items es (f lines) p1 (Open false) z tt (within_brackets Square p l k) in
    record {
      last = Open false;
      tokens = group (line_of l) Square g.tokens done;
      writes = brackets_written Square p q l g.last g.tokens g.writes;
      operand = tt;
      semicolon = g.semicolon;
      begins = λ b n. begins_all p.start (group (line_of l) Square g.tokens b) refl;
      line = λ e. ap not e;
      tree = tree.array (nothing_of 0) g.trees;
      reads = from_primary place (grammar.an_array g.reads);
      same = ap (λ ts. tree.array (nothing_of 0) ts) g.same;
    }

-- ---- properties, in braces

abbrev pub PropertiesOf : Tables → Allowed → Trees → Type 0
PropertiesOf names c ps = (lines : Bool) → InsideAt names (ReadsProperties (with_in c)) lines (in_brackets levels.Comma) ps

pub no_properties : {names : Tables} (c : Allowed) → PropertiesOf names c no_trees
no_properties c lines = nothing_inside (ReadsProperties (with_in c)) grammar.no_property lines (in_brackets levels.Comma)

pub first_of_properties : {names : Tables} (c : Allowed) (t : Tree) (ts : Trees) → PropertyOf names c t → PropertiesOf names c ts → PropertiesOf names c (more t ts)
first_of_properties c t ts f h lines = first_inside (ReadsProperty (with_in c)) (ReadsProperties (with_in c)) (λ us u r. grammar.last_property r) (λ mark a b u us r s. grammar.first_property mark refl r s) lines (in_brackets levels.Comma) t ts f (h lines)

-- ---- objects

-- a brace begins nothing that it may not begin
brace_begins : (start : Start) (v line : Bool) (ts b : Tokens) → is_barred a_brace start ≡ v → may_begin (unless_printed v start) (group line Brace ts b) ≡ true
brace_begins start true line ts b e = refl
brace_begins statement false line ts b e = absurd (both_ways true e refl)
brace_begins arrow_body false line ts b e = absurd (both_ways true e refl)
brace_begins nowhere false line ts b e = refl
brace_begins default_export false line ts b e = refl

-- nothing begins behind one, with a parenthesis or without
nothing_behind : (b : Bool) (p : Pen) → written_if b (closing Round) (written (closing Brace) other_end p) ≡ begun_at nowhere (written_if b (closing Round) (written (closing Brace) other_end p))
nothing_behind true p = refl
nothing_behind false p = refl

pub good_object : {names : Tables} (c : Allowed) (a : Atoms) (ps : Trees) → PropertiesOf names c ps → Printed names c (tree.object_expression a ps)
good_object {names} c a ps f place p l z y k =
    let barred = is_barred a_brace p.start in
    let inside : Pen = layout (object_inside ps items) (written (opening Brace) other_end (written_if barred (opening Round) p)) in
    subst (λ q. Good names p l q (under place c) (level_of place) (tree.object_expression a ps)) (nothing_behind barred inside)
    (wrapped_from c place grammar.Primary barred (λ w. brackets Brace (object_inside ps items)) (tree.object_expression a ps) p
    (λ d ts u r. lifted false levels.Member levels.Lowest (omega arith) (weaken_member false (grammar.a_primary r))) (λ e ts u r. from_primary place r) inner l z y k)
  where
    items : Items
    items = members (are_more 1 ps) ps (in_brackets levels.Comma)

    inner : (v : Bool) → is_barred a_brace p.start ≡ v → PrintedFrom (written_if v (opening Round) p) names (ReadsExpression (under (within v place) c) grammar.Primary) (brackets Brace (object_inside ps items)) (tree.object_expression a ps)
    inner v e l z y k =
        let p1 : Pen = written_if v (opening Round) p in
        let p2 : Pen = written (opening Brace) other_end p1 in
        let g = inside_braces (ReadsProperties (with_in c)) (are_more 1 ps) (in_brackets levels.Comma) ps (f (are_more 1 ps)) p2 (Open false) z tt (within_brackets Brace p1 l k) in
        record {
          last = Open false;
          tokens = group (line_of l) Brace g.tokens done;
          writes = brackets_written Brace p1 (layout (object_inside ps items) p2) l g.last g.tokens g.writes;
          operand = tt;
          semicolon = g.semicolon;
          begins = λ b n. brace_begins p.start v (line_of l) g.tokens b e;
          line = λ h. ap not h;
          tree = tree.object_expression (nothing_of 0) g.trees;
          reads = grammar.an_object g.reads;
          same = ap (λ ts. tree.object_expression (nothing_of 0) ts) g.same;
        }
