-- A comment on one line is one of its kind as it is printed, too.
use Rattle.std.proofs.Common.{◌≡◌, ℕ, Bool, true, false, not, ◌&&◌, ◌||◌, ◌==◌, List, [], ◌∷◌, ◌++◌, codes, drop, if◌then◌else◌, refl, ap, sym, subst, ◌∙◌}
use Rattle.std.proofs.lemmas.Bool.{false≢true, and_parts, and_from, eqb-true}
use Rattle.jsgen_syntax.specs.Strings.{begins_script}
use Rattle.jsgen_syntax.specs.Raw.{tag_free, tag_free_after}
use Rattle.jsgen_tree.specs.declared.statements.CommentKind.{CommentKind}
use Rattle.jsgen_tree.specs.declared.statements.CommentKind.TheVariants as kinds
use Rattle.jsgen_model.specs.LineEnds.{is_line_terminator}
use Rattle.jsgen_model.specs.Tokens.{has_line_end}
use Rattle.jsgen_model.specs.Valid.{begins_with_mark, ends_at_close, is_comment}
use Rattle.jsgen_comment_text_laws.specs.Law.{is_on_one_line}
use Rattle.jsgen_comment_text_laws.proofs.Closes.{scanned, scan_tags}

-- behind a mark
pub record Begins (mark : List ℕ) (holds : List ℕ → Bool) (text : List ℕ) : Type 0 where
  pub rest : List ℕ
  pub is : text ≡ mark ++ rest
  pub holds_behind : holds rest ≡ true

pub begun : (mark : List ℕ) (holds : List ℕ → Bool) (text : List ℕ) → begins_with_mark mark holds text ≡ true → Begins mark holds text
begun [] holds text e = record { rest = text; is = refl; holds_behind = e }
begun (m ∷ mark) holds [] e = absurd (false≢true e)
begun (m ∷ mark) holds (c ∷ cs) e =
    let k = and_parts (m == c) (begins_with_mark mark holds cs) e in
    let b = begun mark holds cs k.1 in
    record { rest = b.rest; is = ap (λ x. x ∷ cs) (sym (eqb-true m c k.0)) ∙ ap (λ t. m ∷ t) b.is; holds_behind = b.holds_behind }

-- a backslash ends no line
pub same_ends : (b : Bool) (cs : List ℕ) → has_line_end (tag_free_after b cs) ≡ has_line_end cs
unfolding tag_free_after
same_ends b [] = refl
same_ends b (c ∷ cs) = by (b && (c == 47) && begins_script cs) (same_ends (c == 60) cs)
  where
    by : (t : Bool) → has_line_end (tag_free_after (c == 60) cs) ≡ has_line_end cs → has_line_end ((if t then 92 ∷ c ∷ [] else c ∷ []) ++ tag_free_after (c == 60) cs) ≡ has_line_end (c ∷ cs)
    by true rest = ap (λ x. is_line_terminator c || x) rest
    by false rest = ap (λ x. is_line_terminator c || x) rest

pub no_ends : (rest : List ℕ) → not (has_line_end rest) ≡ true → not (has_line_end (tag_free rest)) ≡ true
no_ends rest h = ap not (same_ends false rest) ∙ h

pub closes_alike : (rest : List ℕ) → ends_at_close (tag_free rest) ≡ ends_at_close rest
closes_alike rest = scanned (tag_free rest) ∙ (scan_tags false false rest refl ∙ sym (scanned rest))

pub stays_one : (kind : CommentKind) (text : List ℕ) → is_on_one_line kind ≡ true → is_comment kind text ≡ true → is_comment kind (tag_free text) ≡ true
unfolding tag_free_after
stays_one kinds.Line text n e =
    let b = begun (codes "//") (λ rest. not (has_line_end rest)) text e in
    subst (λ t. is_comment kinds.Line (tag_free t) ≡ true) (sym b.is) (no_ends b.rest b.holds_behind)
stays_one kinds.HtmlOpen text n e =
    let b = begun (codes "<!--") (λ rest. not (has_line_end rest)) text e in
    subst (λ t. is_comment kinds.HtmlOpen (tag_free t) ≡ true) (sym b.is) (no_ends b.rest b.holds_behind)
stays_one kinds.HtmlClose text n e =
    let b = begun (codes "-->") (λ rest. not (has_line_end rest)) text e in
    subst (λ t. is_comment kinds.HtmlClose (tag_free t) ≡ true) (sym b.is) (no_ends b.rest b.holds_behind)
stays_one kinds.SingleLineBlock text n e =
    let b = begun (codes "/*") (λ rest. not (has_line_end rest) && ends_at_close rest) text e in
    let k = and_parts (not (has_line_end b.rest)) (ends_at_close b.rest) b.holds_behind in
    subst (λ t. is_comment kinds.SingleLineBlock (tag_free t) ≡ true) (sym b.is) (and_from (not (has_line_end (tag_free b.rest))) (ends_at_close (tag_free b.rest)) (no_ends b.rest k.0) (closes_alike b.rest ∙ k.1))
stays_one kinds.MultiLineBlock text n e = absurd (false≢true n)

-- `//` in place of `-->`
pub becomes_line : (text : List ℕ) → is_comment kinds.HtmlClose text ≡ true → is_comment kinds.Line (tag_free (codes "//" ++ drop 3 text)) ≡ true
unfolding tag_free_after
becomes_line text e =
    let b = begun (codes "-->") (λ rest. not (has_line_end rest)) text e in
    subst (λ t. is_comment kinds.Line (tag_free (codes "//" ++ drop 3 t)) ≡ true) (sym b.is) (no_ends b.rest b.holds_behind)
