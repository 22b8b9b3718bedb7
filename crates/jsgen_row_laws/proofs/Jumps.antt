-- Labels, and statements that lead elsewhere: `continue`, `break`, `throw` and `debugger`.
use Rattle.std.proofs.Common.{◌≡◌, ℕ, Bool, true, false, codes, Some, List, refl, sym, ap, ◌∙◌, subst}
use Rattle.jsgen_syntax.specs.declared.precedence.Precedence.TheVariants as levels
use Rattle.jsgen_syntax.specs.Escapes.{name_text, word_value}
use Rattle.jsgen_syntax.specs.Name.{spells_name, is_free_name}
use Rattle.jsgen_syntax.proofs.Escapes.{word_text_value}
use Rattle.jsgen_tree.specs.Job.{Tables}
use Rattle.jsgen_tree.specs.Named.{as_written}
use Rattle.jsgen_tree.specs.Tree.{Tree, Maybe, absent, given, Atoms}
use Rattle.jsgen_tree.specs.Values.{label_identifier_name}
use Rattle.jsgen_tree.specs.Nodes as tree
use Rattle.jsgen_model.specs.Punctuator.{colon}
use Rattle.jsgen_model.specs.Tokens.{Tokens, done, piece, Word, Sign}
use Rattle.jsgen_model.specs.Items.{Items, ◌⊕◌, word, name, punctuator, soft_space, apart}
use Rattle.jsgen_model.specs.Layout.{Pen, layout}
use Rattle.jsgen_model.specs.Grammar.{Allowed, EndsBy, ReadsStatement, ReadsLabel, ReadsReturned}
use Rattle.jsgen_model.specs.Grammar as grammar
use Rattle.jsgen_model.specs.Normal.{normal_maybe, nothing_of, named}
use Rattle.jsgen_model.specs.Renamed.{renamed_maybe}
use Rattle.jsgen_place.specs.declared.place.Place.{Place}
use Rattle.jsgen_place.specs.Place.{among_statements, within_statement, in_brackets, child}
use Rattle.jsgen_model.specs.Spell.{spell, spell_apart, shape, body_items}
use Rattle.jsgen_token_laws.proofs.Characters.{letters_spelled}
use Rattle.jsgen_token_laws.proofs.Last.{Last, After, line_of, Ready, Knows}
use Rattle.jsgen_token_laws.proofs.Writes.{Writes, wrote_none, wrote_both}
use Rattle.jsgen_token_laws.proofs.Steps.{gap, apart_written, wrote_word, wrote_written_name, wrote_punctuator, soft_space_written}
use Rattle.jsgen_row_laws.proofs.Families.{IsLabel}
use Rattle.jsgen_row_laws.proofs.Families as family
use Rattle.jsgen_row_laws.proofs.Names.{free_spelled}
use Rattle.jsgen_row_laws.proofs.Good.{Printed, operand_ready}
use Rattle.jsgen_row_laws.proofs.Bindings.{PrintedIfGiven}
use Rattle.jsgen_row_laws.proofs.Stands.{UnendedAt, ReadsClosed, StatedAt, Stated, stated_among, SameTree, behind_tokens, behind_blank, indented_line, whole_line}
use Rattle.jsgen_row_laws.proofs.Bodies.{EmptyAlone, good_body}

-- ---- labelled statements

abbrev labelled_items : Atoms → Tree → Items
labelled_items b s = name b.span (as_written (label_identifier_name b)) ⊕ (punctuator colon ⊕ body_items (shape s) (spell s within_statement) (spell s among_statements))

pub good_labelled : {names : Tables} (c : Allowed) (a b : Atoms) (s : Tree) → is_free_name (label_identifier_name b) ≡ true → EmptyAlone names s → Stated names c s → Stated names c (tree.labeled_statement a (tree.label_identifier b) s)
good_labelled {names} c a b s h m f = stated_among refl (indented_line (apart ⊕ labelled_items b s) (behind_blank apart (labelled_items b s) (λ p l k. gap (apart_written p l k)) inside))
  where
    v : List ℕ
    v = label_identifier_name b

    inside : StatedAt names c (tree.labeled_statement a (tree.label_identifier b) s) (labelled_items b s)
    inside p l z y k =
        let w : List ℕ = name_text p.style.ascii v in
        let p1 : Pen = layout (name b.span (as_written v)) p in
        let p2 : Pen = layout (punctuator colon) p1 in
        let n = wrote_written_name v p l (free_spelled v h) k in
        let o = wrote_punctuator colon p1 (After (Word w)) tt tt tt n.knows in
        let e : word_value w ≡ Some v = word_text_value p.style.ascii v (free_spelled v h) in
        behind_tokens (piece (line_of l) (Word w) (piece false (Sign colon) done)) (λ u. tree.labeled_statement (nothing_of 0) (tree.label_identifier (named v)) u) (wrote_both n o) (λ last ts u r before_else x. grammar.a_labelled_statement e h (r before_else x)) (λ u i. ap (λ t. tree.labeled_statement (nothing_of 0) (tree.label_identifier (named v)) t) i)
        (good_body c s m f p2 (After (Sign colon)) z tt o.knows)

-- ---- what a jump leads to

-- between two pens stands a label, on the line of what is before it, or nothing
record GoodLabel (names : Tables) (p : Pen) (l : Last) (q : Pen) (m : Maybe) : Type 0 where
  last : Last
  tokens : Tokens
  writes : Writes names p l q last tokens
  ready : Ready last
  semicolon : q.pending_semicolon ≡ false
  reading : Maybe
  reads : ReadsLabel tokens reading
  same : normal_maybe reading ≡ normal_maybe (renamed_maybe names m)

label_written : {names : Tables} {m : Maybe} → IsLabel m → (place : Place) (p : Pen) (l : Last) → line_of l ≡ false → p.pending_semicolon ≡ false → Ready l → Knows names p l → GoodLabel names p l (layout (spell_apart m place) p) m
label_written family.no_label place p l e z y k = record { last = l; tokens = done; writes = wrote_none p p l refl k; ready = y; semicolon = z; reading = absent; reads = grammar.no_label; same = refl }
label_written (family.a_label {a} h) place p l e z y k =
    let v : List ℕ = label_identifier_name a in
    let w : List ℕ = name_text p.style.ascii v in
    let x : word_value w ≡ Some v = word_text_value p.style.ascii v (free_spelled v h) in
    let s = soft_space_written p l k in
    let n = wrote_written_name v (layout soft_space p) s.last (free_spelled v h) s.writes.knows in
    record {
      last = After (Word w);
      tokens = piece (line_of s.last) (Word w) done;
      writes = wrote_both s.writes n;
      ready = tt;
      semicolon = s.semicolon ∙ z;
      reading = given (tree.label_identifier (named v));
      reads = subst (λ b. ReadsLabel (piece b (Word w) done) (given (tree.label_identifier (named v)))) (sym (s.line e)) (grammar.a_label x h);
      same = refl;
    }

-- ---- `continue` and `break`

-- a word, and a label on its line, are read as this statement
abbrev Jumps : Allowed → List ℕ → (Maybe → Tree) → Type 0
Jumps c w made = (last before_else mark : Bool) (ts a : Tokens) (n : Maybe) → EndsBy last ts (piece mark (Word w) a) → ReadsLabel a n → ReadsStatement c last before_else ts (made n)

jump_unended : {names : Tables} {m : Maybe} (c : Allowed) (w : List ℕ) (made : Maybe → Tree) (t : Tree) (place : Place) → spells_name w ≡ true → Jumps c w made → ((n : Maybe) → normal_maybe n ≡ normal_maybe (renamed_maybe names m) → SameTree names t (made n)) → IsLabel m → UnendedAt names (ReadsClosed c false) (SameTree names t) (word w ⊕ spell_apart m place)
jump_unended c w made t place h f same v p l z y k =
    let o = wrote_word w p l h k in
    let g = label_written v place (layout (word w) p) (After (Word w)) refl z tt o.knows in
    record {
      last = g.last;
      tokens = piece (line_of l) (Word w) g.tokens;
      writes = wrote_both o g.writes;
      ready = g.ready;
      semicolon = g.semicolon;
      reading = made g.reading;
      reads = record { read = λ last ts e before_else n. f last before_else (line_of l) ts g.tokens g.reading e g.reads };
      same = same g.reading g.same;
    }

-- where a label stands
abbrev label_place : Place
label_place = child levels.Lowest among_statements

pub good_continue : {names : Tables} {m : Maybe} (c : Allowed) (a : Atoms) → IsLabel m → Stated names c (tree.continue_statement a m)
good_continue {names} {m} c a v =
    stated_among refl (whole_line (word (codes "continue") ⊕ spell_apart m label_place) (jump_unended c (codes "continue") (λ n. tree.continue_statement (nothing_of 0) n) (tree.continue_statement a m) label_place (letters_spelled 99 (codes "ontinue") refl) (λ last before_else mark ts b n e r. grammar.a_continue e r) (λ n i. ap (λ x. tree.continue_statement (nothing_of 0) x) i) v))

pub good_break : {names : Tables} {m : Maybe} (c : Allowed) (a : Atoms) → IsLabel m → Stated names c (tree.break_statement a m)
good_break {names} {m} c a v =
    stated_among refl (whole_line (word (codes "break") ⊕ spell_apart m label_place) (jump_unended c (codes "break") (λ n. tree.break_statement (nothing_of 0) n) (tree.break_statement a m) label_place (letters_spelled 98 (codes "reak") refl) (λ last before_else mark ts b n e r. grammar.a_break e r) (λ n i. ap (λ x. tree.break_statement (nothing_of 0) x) i) v))

-- ---- `throw`

pub good_throw : {names : Tables} (c : Allowed) (a : Atoms) (t : Tree) → Printed names c t → Stated names c (tree.throw_statement a t)
good_throw {names} c a t f = stated_among refl (whole_line items inside)
  where
    argument : Place
    argument = in_brackets levels.Lowest

    items : Items
    items = word (codes "throw") ⊕ (soft_space ⊕ spell t argument)

    inside : UnendedAt names (ReadsClosed c false) (SameTree names (tree.throw_statement a t)) items
    inside p l z y k =
        let p1 : Pen = layout (word (codes "throw")) p in
        let o = wrote_word (codes "throw") p l (letters_spelled 116 (codes "hrow") refl) k in
        let s = soft_space_written p1 (After (Word (codes "throw"))) o.knows in
        let g = f argument (layout soft_space p1) s.last (s.semicolon ∙ z) (s.ready tt) s.writes.knows in
        record {
          last = g.last;
          tokens = piece (line_of l) (Word (codes "throw")) g.tokens;
          writes = wrote_both o (wrote_both s.writes g.writes);
          ready = operand_ready g.last g.operand;
          semicolon = g.semicolon;
          reading = tree.throw_statement (nothing_of 0) g.tree;
          reads = record { read = λ last ts e before_else n. grammar.a_throw e (g.line (s.line refl)) g.reads };
          same = ap (λ x. tree.throw_statement (nothing_of 0) x) g.same;
        }

-- ---- `return`

-- between two pens stands what is given back, on the line of what is before it, or nothing
record GoodReturned (names : Tables) (p : Pen) (l : Last) (q : Pen) (c : Allowed) (m : Maybe) : Type 0 where
  last : Last
  tokens : Tokens
  writes : Writes names p l q last tokens
  ready : Ready last
  semicolon : q.pending_semicolon ≡ false
  reading : Maybe
  reads : ReadsReturned c tokens reading
  same : normal_maybe reading ≡ normal_maybe (renamed_maybe names m)

returned : {names : Tables} (c : Allowed) (m : Maybe) → PrintedIfGiven names c m → (place : Place) (p : Pen) (l : Last) → line_of l ≡ false → p.pending_semicolon ≡ false → Ready l → Knows names p l → GoodReturned names p l (layout (spell_apart m (in_brackets levels.Lowest)) p) c m
returned c absent f place p l e z y k = record { last = l; tokens = done; writes = wrote_none p p l refl k; ready = y; semicolon = z; reading = absent; reads = grammar.nothing_returned; same = refl }
returned c (given t) f place p l e z y k =
    let s = soft_space_written p l k in
    let g = f (in_brackets levels.Lowest) (layout soft_space p) s.last (s.semicolon ∙ z) (s.ready y) s.writes.knows in
    record {
      last = g.last;
      tokens = g.tokens;
      writes = wrote_both s.writes g.writes;
      ready = operand_ready g.last g.operand;
      semicolon = g.semicolon;
      reading = given g.tree;
      reads = grammar.a_returned_value (g.line (s.line e)) g.reads;
      same = ap (λ u. given u) g.same;
    }

pub good_return : {names : Tables} (c : Allowed) (a : Atoms) (m : Maybe) → c.return_statement ≡ true → PrintedIfGiven names c m → Stated names c (tree.return_statement a m)
good_return {names} c a m h f = stated_among refl (whole_line items inside)
  where
    items : Items
    items = word (codes "return") ⊕ spell_apart m (in_brackets levels.Lowest)

    inside : UnendedAt names (ReadsClosed c false) (SameTree names (tree.return_statement a m)) items
    inside p l z y k =
        let o = wrote_word (codes "return") p l (letters_spelled 114 (codes "eturn") refl) k in
        let g = returned c m f among_statements (layout (word (codes "return")) p) (After (Word (codes "return"))) refl z tt o.knows in
        record {
          last = g.last;
          tokens = piece (line_of l) (Word (codes "return")) g.tokens;
          writes = wrote_both o g.writes;
          ready = g.ready;
          semicolon = g.semicolon;
          reading = tree.return_statement (nothing_of 0) g.reading;
          reads = record { read = λ last ts e before_else n. grammar.a_return h e g.reads };
          same = ap (λ x. tree.return_statement (nothing_of 0) x) g.same;
        }

-- ---- `debugger`

pub good_debugger : {names : Tables} (c : Allowed) (a : Atoms) → Stated names c (tree.debugger_statement a)
good_debugger {names} c a = stated_among refl (whole_line (word (codes "debugger")) inside)
  where
    inside : UnendedAt names (ReadsClosed c false) (SameTree names (tree.debugger_statement a)) (word (codes "debugger"))
    inside p l z y k = record {
      last = After (Word (codes "debugger"));
      tokens = piece (line_of l) (Word (codes "debugger")) done;
      writes = wrote_word (codes "debugger") p l (letters_spelled 100 (codes "ebugger") refl) k;
      ready = tt;
      semicolon = z;
      reading = tree.debugger_statement (nothing_of 0);
      reads = record { read = λ last ts e before_else n. grammar.a_debugger e };
      same = refl;
    }
