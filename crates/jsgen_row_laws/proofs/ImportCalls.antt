-- `import.meta` and `import(..)`.
use Rattle.std.proofs.Common.{◌≡◌, ℕ, Bool, true, false, not, codes, None, ◌++◌, List, refl, sym, ap, ◌∙◌, subst, append_assoc, arith}
use Rattle.std.specs.Option.{option_map_or}
use Rattle.jsgen_syntax.specs.Name.{goes_in_word}
use Rattle.jsgen_syntax.specs.declared.precedence.Precedence.TheVariants as levels
use Rattle.jsgen_tree.specs.Job.{Tables}
use Rattle.jsgen_tree.specs.Tree.{Tree, Maybe, absent, given, Atoms}
use Rattle.jsgen_tree.specs.Nodes as tree
use Rattle.jsgen_model.specs.Punctuator.{Round, comma, dot}
use Rattle.jsgen_model.specs.Tokens.{Tokens, done, piece, Word, Sign}
use Rattle.jsgen_model.specs.Items.{Items, ◌⊕◌, word, member_dot, brackets, punctuator, soft_space}
use Rattle.jsgen_model.specs.Layout.{Pen, layout, space_if, is_apart, other_end}
use Rattle.jsgen_model.specs.Grammar.{Allowed, ReadsExpression, ReadsImported, with_in, starts_statement}
use Rattle.jsgen_model.specs.Grammar as grammar
use Rattle.jsgen_model.specs.Normal.{nothing_of}
use Rattle.jsgen_place.specs.Place.{within, in_brackets, call_wraps}
use Rattle.jsgen_model.specs.Spell.{spell, spell_behind_comma}
use Rattle.jsgen_token_laws.proofs.Characters.{letters_spelled, last_behind}
use Rattle.jsgen_token_laws.proofs.Last.{Last, After, line_of, Knows}
use Rattle.jsgen_token_laws.proofs.Writes.{Writes, wrote_both, same_writes}
use Rattle.jsgen_token_laws.proofs.Steps.{wrote_word, wrote_dot}
use Rattle.jsgen_row_laws.proofs.Levels.{under, weaken_member, from_left, lifted}
use Rattle.jsgen_row_laws.proofs.Good.{Printed, begins_all, good_wrapped}
use Rattle.jsgen_row_laws.proofs.Bindings.{PrintedIfGiven}
use Rattle.jsgen_row_laws.proofs.Links.{unwrapped_call}
use Rattle.jsgen_row_laws.proofs.Adds.{behind_operand, behind_token, Is, is, Within, within as inside, ◌⨟◌, ◌&◌, Says, Adds, ◌⨾◌, read, laid, comma_sign, bracketed, spaced}
use Rattle.jsgen_row_laws.proofs.Parts.{Reads, SameMaybe, expression}
use Rattle.jsgen_row_laws.proofs.Words.{good_worded}
use Rattle.jsgen_row_laws.proofs.Stands.{SameTree}

-- ---- the meta property, three tokens of one item

-- behind the dot no space stands
dotted : (code gap : List ℕ) → is_apart other_end (code ++ (gap ++ codes ".")) ≡ false
dotted code gap = ap (λ o. option_map_or goes_in_word o false) (last_behind None code (gap ++ codes ".") ∙ last_behind _ gap (codes "."))

three_words : (code gap : List ℕ) → ((code ++ (gap ++ codes "import")) ++ codes ".") ++ codes "meta" ≡ code ++ (gap ++ codes "import.meta")
three_words code gap = append_assoc (code ++ (gap ++ codes "import")) (codes ".") (codes "meta") ∙ (append_assoc code (gap ++ codes "import") (codes ".meta") ∙ ap (λ x. code ++ x) (append_assoc gap (codes "import") (codes ".meta")))

pub wrote_import_meta : {names : Tables} (p : Pen) (l : Last) → Knows names p l → Writes names p l (layout (word (codes "import.meta")) p) (After (Word (codes "meta"))) (piece (line_of l) (Word (codes "import")) (piece false (Sign dot) (piece false (Word (codes "meta")) done)))
wrote_import_meta p l k =
    let p1 : Pen = layout (word (codes "import")) p in
    let p2 : Pen = layout member_dot p1 in
    let q : Pen = layout (word (codes "meta")) p2 in
    let r : Pen = layout (word (codes "import.meta")) p in
    let w = wrote_word (codes "import") p l (letters_spelled 105 (codes "mport") refl) k in
    let d = wrote_dot p1 (After (Word (codes "import"))) tt w.knows in
    let m = wrote_word (codes "meta") p2 (After (Sign dot)) (letters_spelled 109 (codes "eta") refl) d.knows in
    let gap : List ℕ = space_if (is_apart p.ending p.code) in
    let e : q.code ≡ r.code = ap (λ b. p2.code ++ (space_if b ++ codes "meta")) (dotted p1.code (codes "")) ∙ three_words p.code gap in
    let f = wrote_both w (wrote_both d m) in
    same_writes p r refl (sym e) (record { indent = k.indent; tables = k.tables; ending = subst (λ x. is_apart other_end x ≡ true) e m.knows.ending }) f

pub good_import_meta : {names : Tables} (c : Allowed) (a : Atoms) → Printed names c (tree.import_meta a)
good_import_meta c a place p l z y k = record {
  last = After (Word (codes "meta"));
  tokens = piece (line_of l) (Word (codes "import")) (piece false (Sign dot) (piece false (Word (codes "meta")) done));
  writes = wrote_import_meta p l k;
  operand = tt;
  semicolon = z;
  begins = λ b n. begins_all p.start (piece (line_of l) (Word (codes "import")) (piece false (Sign dot) (piece false (Word (codes "meta")) b))) refl;
  line = λ g. ap not g;
  tree = tree.import_meta (nothing_of 0);
  reads = from_left place (weaken_member place.context.forbids_call grammar.an_import_meta);
  same = refl;
}

-- ---- a call that imports a module

-- between its parentheses: what is imported, and options
abbrev SameCall : Tables → Tree → Maybe → Tree × Maybe → Type 0
SameCall names t m x = SameTree names t x.0 × SameMaybe names m x.1

abbrev Imported : Tables → Allowed → Tree → Maybe → Tokens → Type 0
Imported names c t m = Says (λ ts (x : Tree × Maybe). ReadsImported c ts x.0 x.1) (SameCall names t m)

read_source : (names : Tables) (c : Allowed) (t : Tree) {ts : Tokens} → Reads names (ReadsExpression c grammar.Assignment) t ts → Imported names c t absent ts
read_source names c t r = record { reading = (r.reading, absent); reads = grammar.an_imported r.reads; same = (r.same, refl) }

read_with_options : (names : Tables) (c : Allowed) (t u : Tree) {ts : Tokens} → (Reads names (ReadsExpression c grammar.Assignment) t ⨟ (Is (Sign comma) ⨟ Reads names (ReadsExpression c grammar.Assignment) u)) ts → Imported names c t (given u) ts
read_with_options names c t u (r & (is o & s)) = record { reading = (r.reading, given s.reading); reads = grammar.with_options o refl r.reads s.reads; same = (r.same, ap (λ x. given x) s.same) }

imported : {names : Tables} (c : Allowed) (t : Tree) (m : Maybe) → Printed names c t → PrintedIfGiven names c m → Adds names behind_token (Imported names (with_in c) t m) behind_operand (spell t (in_brackets levels.Comma) ⊕ spell_behind_comma m (in_brackets levels.Comma))
imported {names} c t absent f g = laid (spell t (in_brackets levels.Comma)) _ (λ p e. refl) (read (λ ts r. read_source names (with_in c) t r) (expression c refl f (in_brackets levels.Comma)))
imported {names} c t (given u) f g =
    laid (spell t (in_brackets levels.Comma) ⊕ (punctuator comma ⊕ (soft_space ⊕ spell u (in_brackets levels.Comma)))) (spell t (in_brackets levels.Comma) ⊕ spell_behind_comma (given u) (in_brackets levels.Comma)) (λ p e. refl)
    (read (λ ts r. read_with_options names (with_in c) t u r) (expression c refl f (in_brackets levels.Comma) ⨾ (comma_sign ⨾ spaced (expression c refl g (in_brackets levels.Comma)))))

read_import_call : (names : Tables) (c : Allowed) (a : Atoms) (t : Tree) (m : Maybe) (mark : Bool) (ts : Tokens) → Within Round (Imported names (with_in c) t m) ts → Reads names (ReadsExpression c grammar.Call) (tree.import_call a t m) (piece mark (Word (codes "import")) ts)
read_import_call names c a t m mark ts (inside o r) = record { reading = tree.import_call (nothing_of 0) r.reading.0 r.reading.1; reads = grammar.an_import_call r.reads; same = λ i. tree.import_call (nothing_of 0) (r.same.0 i) (r.same.1 i) }

pub good_import_call : {names : Tables} (c : Allowed) (a : Atoms) (t : Tree) (m : Maybe) → Printed names c t → PrintedIfGiven names c m → Printed names c (tree.import_call a t m)
good_import_call {names} c a t m f g place =
    good_wrapped c place grammar.Call (call_wraps place) (λ w. word (codes "import") ⊕ brackets Round items) (tree.import_call a t m)
    (λ d ts u r. lifted false levels.Postfix levels.Lowest (omega arith) (grammar.a_called_call r)) (λ e ts u r. unwrapped_call place e r)
    (λ v e. good_worded (codes "import") (brackets Round items) (letters_spelled 105 (codes "mport") refl) (λ line b. refl) refl (bracketed Round (imported c t m f g)) (λ mark ts r. read_import_call names (under (within v place) c) a t m mark ts r))
  where
    items : Items
    items = spell t (in_brackets levels.Comma) ⊕ spell_behind_comma m (in_brackets levels.Comma)
