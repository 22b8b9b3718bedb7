-- What is laid out by tables of private names is what is laid out where the names stand in their place: kind by kind.
use Rattle.std.proofs.Common.{◌≡◌, ℕ, suc, List, [], ◌∷◌, Bool, true, false, ◌||◌, codes, if◌then◌else◌, refl, sym, ap, ◌∙◌, subst, not}
use Rattle.jsgen_tree.specs.Job.{Tables}
use Rattle.jsgen_tree.specs.Named.{printed_name}
use Rattle.jsgen_model.specs.Private.{printed_private, classes_within}
use Rattle.jsgen_model.specs.Punctuator.{opening, closing, Round}
use Rattle.jsgen_model.specs.Items.{Items, ◌⊕◌, a_brace, Lead, to_block, to_body, to_empty, Break, first_argument, other_argument, import_source, import_options, name, private_name, indentation, marked_indentation, member_line, line_break, deeper, in_class, brackets, wrapped, wrapped_at_start, parentheses_unless_minified, unless_minified, where_same, statement_end, held, lined_case, caught, annotated, commented, in_lines}
use Rattle.jsgen_model.specs.Layout.{Pen, nowhere, layout, are_printed_alike, begun_at, entered, deeper_level, written, written_if, other_end, at_indentation, indent_or_space, indented, is_barred, led, on_one_line, end_statement, with_name_written, with_private_name}
use Rattle.jsgen_private_laws.specs.Settled.{without_private}
use Rattle.jsgen_private_laws.proofs.Settled.{Scope, after_items, settled, tied, scope}

abbrev at_level : ℕ → Pen → Pen
at_level depth pen = record pen { depth = depth }

abbrev in_classes : List ℕ → Pen → Pen
in_classes classes pen = record pen { classes = classes }

-- ---- no item changes the style

indented_style : (text : List ℕ) (p : Pen) → (indented text p).style ≡ p.style
indented_style [] p = refl
indented_style (c ∷ cs) p = refl

at_indentation_style : (b : Bool) (p : Pen) → (at_indentation b p).style ≡ p.style
at_indentation_style true p = refl
at_indentation_style false p = by p.pending_space
  where
    by : (c : Bool) → (indent_or_space c p).style ≡ p.style
    by true = refl
    by false = indented_style _ p

end_style : (b : Bool) (p : Pen) → (end_statement b p).style ≡ p.style
end_style true p = refl
end_style false p = refl

led_style : (lead : Lead) (p : Pen) → (led lead p).style ≡ p.style
led_style to_block p = refl
led_style to_body p = refl
led_style (to_empty s) p = refl

break_style : (at : Break) (p : Pen) → (on_one_line at p).style ≡ p.style
break_style (first_argument o) p = refl
break_style (other_argument o) p = refl
break_style (import_source o) p = refl
break_style import_options p = refl

pub same_style : (i : Items) (p : Pen) → (layout i p).style ≡ p.style
same_style (a ⊕ b) p = same_style b (layout a p) ∙ same_style a p
same_style (deeper i) p = same_style i (record p { depth = deeper_level p.style.minified p.depth })
same_style (brackets b i) p = same_style i (written (opening b) other_end p)
same_style (wrapped t i) p = same_style i (written_if t (opening Round) p)
same_style (wrapped_at_start t opener i) p = same_style i (written_if (t || is_barred opener p.start) (opening Round) p)
same_style (parentheses_unless_minified i) p = same_style i (written_if (not p.style.minified) (opening Round) p)
same_style (unless_minified i) p = either p.style.minified (same_style i p)
  where
    either : (c : Bool) → (layout i p).style ≡ p.style → (if c then p else layout i p).style ≡ p.style
    either true e = refl
    either false e = e
same_style (where_same m k a b) p = either (are_printed_alike p.style.tables m k) (same_style a p) (same_style b p)
  where
    either : (c : Bool) → (layout a p).style ≡ p.style → (layout b p).style ≡ p.style → (if c then layout a p else layout b p).style ≡ p.style
    either true f g = f
    either false f g = g
same_style (in_class i) p = same_style i (entered p)
same_style (held offset i) p = same_style i p
same_style (lined_case only i) p = same_style i (led only.lead p) ∙ led_style only.lead p
same_style (caught start body i) p = same_style i p
same_style (annotated call i) p = same_style i (written_if call.wrapped (opening Round) p)
same_style (commented offset i) p = same_style i (begun_at nowhere (written_if (is_barred a_brace p.start) (opening Round) p))
same_style (in_lines lines starts end i) p = same_style i p
same_style (line_break at) p = break_style at p
same_style indentation p = at_indentation_style p.style.minified p
same_style (marked_indentation always span) p = at_indentation_style p.style.minified p
same_style (member_line offset) p = at_indentation_style p.style.minified (written_if (not p.style.minified) (codes "\n") p)
same_style statement_end p = end_style p.style.minified p
same_style i p = refl

-- ---- kind by kind

at_indentation_tied : (tables : Tables) (classes : List ℕ) (n : ℕ) (b : Bool) (p : Pen) → at_indentation b (tied tables classes n p) ≡ tied tables classes n (at_indentation b p)
at_indentation_tied tables classes n true p = refl
at_indentation_tied tables classes n false p = by p.pending_space
  where
    line : (text : List ℕ) → indented text (tied tables classes n p) ≡ tied tables classes n (indented text p)
    line [] = refl
    line (c ∷ cs) = refl

    by : (c : Bool) → indent_or_space c (tied tables classes n p) ≡ tied tables classes n (indent_or_space c p)
    by true = refl
    by false = line _

end_tied : (tables : Tables) (classes : List ℕ) (n : ℕ) (b : Bool) (p : Pen) → end_statement b (tied tables classes n p) ≡ tied tables classes n (end_statement b p)
end_tied tables classes n true p = refl
end_tied tables classes n false p = refl

led_tied : (tables : Tables) (classes : List ℕ) (n : ℕ) (lead : Lead) (p : Pen) → led lead (tied tables classes n p) ≡ tied tables classes n (led lead p)
led_tied tables classes n to_block p = refl
led_tied tables classes n to_body p = refl
led_tied tables classes n (to_empty s) p = refl

break_tied : (tables : Tables) (classes : List ℕ) (n : ℕ) (at : Break) (p : Pen) → on_one_line at (tied tables classes n p) ≡ tied tables classes n (on_one_line at p)
break_tied tables classes n (first_argument o) p = refl
break_tied tables classes n (other_argument o) p = refl
break_tied tables classes n (import_source o) p = refl
break_tied tables classes n import_options p = refl

-- the same scope, by the style of a pen that has gone on
abbrev Laid : Tables → List ℕ → ℕ → Items → Bool → Pen → Type 0
Laid tables classes n i minified p = layout i (tied tables classes n p) ≡ tied tables classes (after_items (record { minified = minified; tables = tables; classes = classes }) i n) (layout (settled (record { minified = minified; tables = tables; classes = classes }) n i) p)

-- what is laid out by the tables is what is laid out where the names stand in their place
pub laid_out : (tables : Tables) (classes : List ℕ) (n : ℕ) (i : Items) (p : Pen) → p.style.tables ≡ without_private tables → layout i (tied tables classes n p) ≡ tied tables classes (after_items (scope tables classes p) i n) (layout (settled (scope tables classes p) n i) p)
laid_out tables classes n (a ⊕ b) p e =
    let s : Scope = scope tables classes p in
    let q : Pen = layout (settled s n a) p in
    let same = same_style (settled s n a) p in
    let second = laid_out tables classes (after_items s a n) b q (ap (λ style. style.tables) same ∙ e) in
    ap (layout b) (laid_out tables classes n a p e) ∙ subst (λ style. Laid tables classes (after_items s a n) b style.minified q) same second
laid_out tables classes n (deeper i) p e = ap (at_level p.depth) (laid_out tables classes n i (record p { depth = deeper_level p.style.minified p.depth }) e)
laid_out tables classes n (brackets b i) p e = ap (λ q. written (closing b) other_end q) (laid_out tables classes n i (written (opening b) other_end p) e)
laid_out tables classes n (wrapped t i) p e = ap (λ q. written_if t (closing Round) q) (laid_out tables classes n i (written_if t (opening Round) p) e)
laid_out tables classes n (wrapped_at_start t opener i) p e =
    let test : Bool = t || is_barred opener p.start in
    ap (λ q. written_if test (closing Round) q) (laid_out tables classes n i (written_if test (opening Round) p) e)
laid_out tables classes n (parentheses_unless_minified i) p e =
    let test : Bool = not p.style.minified in
    ap (λ q. written_if test (closing Round) q) (laid_out tables classes n i (written_if test (opening Round) p) e)
laid_out tables classes n (unless_minified i) p e = go p.style.minified (laid_out tables classes n i p e)
  where
    go : (c : Bool) → layout i (tied tables classes n p) ≡ tied tables classes (after_items (scope tables classes p) i n) (layout (settled (scope tables classes p) n i) p) → (if c then tied tables classes n p else layout i (tied tables classes n p)) ≡ tied tables classes (if c then n else after_items (scope tables classes p) i n) (if c then p else layout (settled (scope tables classes p) n i) p)
    go true f = refl
    go false f = f
laid_out tables classes n (where_same m k a b) p e = subst (λ t. (if are_printed_alike tables m k then layout a (tied tables classes n p) else layout b (tied tables classes n p)) ≡ tied tables classes (if are_printed_alike tables m k then after_items (scope tables classes p) a n else after_items (scope tables classes p) b n) (if are_printed_alike t m k then layout (settled (scope tables classes p) n a) p else layout (settled (scope tables classes p) n b) p)) (sym e) (go (are_printed_alike tables m k) (laid_out tables classes n a p e) (laid_out tables classes n b p e))
  where
    go : (c : Bool) → layout a (tied tables classes n p) ≡ tied tables classes (after_items (scope tables classes p) a n) (layout (settled (scope tables classes p) n a) p) → layout b (tied tables classes n p) ≡ tied tables classes (after_items (scope tables classes p) b n) (layout (settled (scope tables classes p) n b) p) → (if c then layout a (tied tables classes n p) else layout b (tied tables classes n p)) ≡ tied tables classes (if c then after_items (scope tables classes p) a n else after_items (scope tables classes p) b n) (if c then layout (settled (scope tables classes p) n a) p else layout (settled (scope tables classes p) n b) p)
    go true f g = f
    go false f g = g
laid_out tables classes n (in_class i) p e = ap (in_classes classes) (laid_out tables (classes_within tables n classes) (suc n) i (entered p) e)
laid_out tables classes n (held offset i) p e = laid_out tables classes n i p e
laid_out tables classes n (lined_case only i) p e =
    let q : Pen = led only.lead p in
    let same = led_style only.lead p in
    let inner = laid_out tables classes n i q (ap (λ style. style.tables) same ∙ e) in
    ap (layout i) (led_tied tables classes n only.lead p) ∙ subst (λ style. Laid tables classes n i style.minified q) same inner
laid_out tables classes n (caught start body i) p e = laid_out tables classes n i p e
laid_out tables classes n (annotated call i) p e = ap (λ q. written_if call.wrapped (closing Round) q) (laid_out tables classes n i (written_if call.wrapped (opening Round) p) e)
laid_out tables classes n (commented offset i) p e =
    let test : Bool = is_barred a_brace p.start in
    ap (λ q. begun_at nowhere (written_if test (closing Round) q)) (laid_out tables classes n i (begun_at nowhere (written_if test (opening Round) p)) e)
laid_out tables classes n (in_lines lines starts end i) p e = laid_out tables classes n i p e
laid_out tables classes n (line_break at) p e = break_tied tables classes n at p
laid_out tables classes n (private_name span w) p e = ap (λ t. tied tables classes n (with_private_name (printed_private t p.classes (printed_private tables classes w)) p)) (sym e)
laid_out tables classes n (name span k) p e = ap (λ t. tied tables classes n (with_name_written (printed_name t k) p)) (sym e)
laid_out tables classes n indentation p e = at_indentation_tied tables classes n p.style.minified p
laid_out tables classes n (marked_indentation always span) p e = at_indentation_tied tables classes n p.style.minified p
laid_out tables classes n (member_line offset) p e = at_indentation_tied tables classes n p.style.minified (written_if (not p.style.minified) (codes "\n") p)
laid_out tables classes n statement_end p e = end_tied tables classes n p.style.minified p
laid_out tables classes n i p e = refl
