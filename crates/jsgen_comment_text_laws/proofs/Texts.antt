-- What a comment adds to the code of a pen.
use Rattle.std.proofs.Common.{◌≡◌, inl, inr, ℕ, Bool, true, false, ◌&&◌, List, ◌++◌, codes, drop, map, refl, ap, sym, subst, ◌∙◌, append_assoc}
use Rattle.std.proofs.lemmas.Bool.{false≢true, both_ways, and_parts, and_from}
use Rattle.std.proofs.lemmas.List.{append_cancel_left}
use Rattle.jsgen_syntax.specs.Raw.{tag_free, tag_free_after}
use Rattle.jsgen_tree.specs.declared.statements.CommentKind.{CommentKind}
use Rattle.jsgen_tree.specs.declared.statements.CommentKind.TheVariants as kinds
use Rattle.jsgen_model.specs.Comments.{Comment}
use Rattle.jsgen_model.specs.Groups.{lines_of, is_mid_line, html_close, text_written, comment_written, block_lines}
use Rattle.jsgen_model.specs.Layout.{Pen, other_end, written}
use Rattle.jsgen_model.specs.Tokens.{has_line_end}
use Rattle.jsgen_model.specs.Valid.{begins_with_mark, ends_at_close, is_comment}
use Rattle.jsgen_comment_laws.specs.Stand.{IsIndentedByBlanks}
use Rattle.jsgen_comment_laws.proofs.Kept.{indent_is_blank}
use Rattle.jsgen_comment_text_laws.specs.Law.{JobsIndentByBlanks, OwnText, OwnTexts, bare_lines, begins_closed, kind_in_place, text_in_place, is_printed_comment, is_on_one_line, dark_of, CommentsKeepTexts}
use Rattle.jsgen_comment_text_laws.proofs.Lines.{AsLines, printed_lines}
use Rattle.jsgen_comment_text_laws.proofs.Darks.{darks_of_block}
use Rattle.jsgen_comment_text_laws.proofs.Closes.{block_closes}
use Rattle.jsgen_comment_text_laws.proofs.Bare.{block_is_bare, block_has_end}
use Rattle.jsgen_comment_text_laws.proofs.Stays.{begun, stays_one, becomes_line}

-- what a comment of this kind and text adds, in mid-line where the test holds
record Adds (mid_line : Bool) (kind : CommentKind) (own : List ℕ) (p q : Pen) : Type 0 where
  text : List ℕ
  is : q.code ≡ p.code ++ text
  dark : dark_of text ≡ dark_of (tag_free (text_in_place mid_line kind own))
  whole : is_on_one_line kind ≡ true → text ≡ tag_free (text_in_place mid_line kind own)
  lines : is_on_one_line kind ≡ false → is_comment kind own ≡ true → begins_closed (lines_of own) ≡ false → bare_lines text ≡ map tag_free (bare_lines own)
  stays : is_comment kind own ≡ true → is_printed_comment (begins_closed (lines_of own)) (kind_in_place mid_line kind) text ≡ true

on_one_line : (closed : Bool) (kind : CommentKind) (text : List ℕ) → is_on_one_line kind ≡ true → is_comment kind text ≡ true → is_printed_comment closed kind text ≡ true
on_one_line false kind text n e = e
on_one_line true kinds.MultiLineBlock text n e = absurd (false≢true n)
on_one_line true kind text n e = e

-- one that nothing stands in place of
abbrev StandsItself : CommentKind → List ℕ → Type 0
StandsItself kind own = (b : Bool) → (kind_in_place b kind ≡ kind) × (text_in_place b kind own ≡ own)

of_one_line : (kind : CommentKind) (own : List ℕ) (b : Bool) (p : Pen) → (kind_in_place b kind ≡ kind) × (text_in_place b kind own ≡ own) → is_on_one_line kind ≡ true → (is_comment kind own ≡ true → is_comment kind (tag_free own) ≡ true) → Adds b kind own p (written (tag_free own) other_end p)
of_one_line kind own b p h one stays = record {
  text = tag_free own;
  is = refl;
  dark = ap (λ t. dark_of (tag_free t)) (sym h.1);
  whole = λ n. ap tag_free (sym h.1);
  lines = λ n e o. absurd (both_ways (is_on_one_line kind) n one);
  stays = λ e. subst (λ k. is_printed_comment (begins_closed (lines_of own)) k (tag_free own) ≡ true) (sym h.0) (on_one_line (begins_closed (lines_of own)) kind (tag_free own) one (stays e));
}

slashes : (t : List ℕ) → tag_free (codes "//" ++ t) ≡ codes "//" ++ tag_free t
unfolding tag_free_after
slashes t = refl

of_html_close : (own : List ℕ) (b : Bool) (p : Pen) → Adds b kinds.HtmlClose own p (html_close b own p)
of_html_close own true p = record {
  text = tag_free (codes "//" ++ drop 3 own);
  is = append_assoc p.code (codes "//") (tag_free (drop 3 own)) ∙ ap (λ t. p.code ++ t) (sym (slashes (drop 3 own)));
  dark = refl;
  whole = λ n. refl;
  lines = λ n e o. absurd (false≢true (sym n));
  stays = λ e. on_one_line (begins_closed (lines_of own)) kinds.Line (tag_free (codes "//" ++ drop 3 own)) refl (becomes_line own e);
}
of_html_close own false p = of_one_line kinds.HtmlClose own false p (refl, refl) refl (λ e. stays_one kinds.HtmlClose own refl e)

of_block : (own : List ℕ) (b : Bool) (p : Pen) → IsIndentedByBlanks p → (kind_in_place b kinds.MultiLineBlock ≡ kinds.MultiLineBlock) × (text_in_place b kinds.MultiLineBlock own ≡ own) → Adds b kinds.MultiLineBlock own p (block_lines (lines_of own) p)
of_block own b p h same =
    let lines = printed_lines (lines_of own) p h in
    record {
      text = lines.text;
      is = lines.code;
      dark = darks_of_block own lines.text lines.lines ∙ ap (λ t. dark_of (tag_free t)) (sym same.1);
      whole = λ n. absurd (false≢true n);
      lines = λ n e o. bares lines.text lines.lines e o;
      stays = λ e. subst (λ k. is_printed_comment (begins_closed (lines_of own)) k lines.text ≡ true) (sym same.0) (by (begins_closed (lines_of own)) refl lines.text lines.lines e);
    }
  where
    closes : (text : List ℕ) → AsLines (lines_of own) text → is_comment kinds.MultiLineBlock own ≡ true → begins_with_mark (codes "/*") ends_at_close text ≡ true
    closes text as_lines e =
        let b = begun (codes "/*") (λ rest. has_line_end rest && ends_at_close rest) own e in
        block_closes b.rest text (subst (λ t. AsLines (lines_of t) text) b.is as_lines) (and_parts (has_line_end b.rest) (ends_at_close b.rest) b.holds_behind).1

    ends : (text : List ℕ) → AsLines (lines_of own) text → is_comment kinds.MultiLineBlock own ≡ true → begins_closed (lines_of own) ≡ false → has_line_end text ≡ true
    ends text as_lines e o =
        let b = begun (codes "/*") (λ rest. has_line_end rest && ends_at_close rest) own e in
        let k = and_parts (has_line_end b.rest) (ends_at_close b.rest) b.holds_behind in
        block_has_end b.rest text (subst (λ t. AsLines (lines_of t) text) b.is as_lines) k.1 k.0 (subst (λ t. begins_closed (lines_of t) ≡ false) b.is o)

    by : (closed : Bool) → begins_closed (lines_of own) ≡ closed → (text : List ℕ) → AsLines (lines_of own) text → is_comment kinds.MultiLineBlock own ≡ true → is_printed_comment closed kinds.MultiLineBlock text ≡ true
    by true o text as_lines e = closes text as_lines e
    by false o text as_lines e =
        let b = begun (codes "/*") ends_at_close text (closes text as_lines e) in
        let more = subst (λ t. has_line_end t ≡ true) b.is (ends text as_lines e o) in
        subst (λ t. is_comment kinds.MultiLineBlock t ≡ true) (sym b.is) (and_from (has_line_end b.rest) (ends_at_close b.rest) more b.holds_behind)

    bares : (text : List ℕ) → AsLines (lines_of own) text → is_comment kinds.MultiLineBlock own ≡ true → begins_closed (lines_of own) ≡ false → bare_lines text ≡ map tag_free (bare_lines own)
    bares text as_lines e o =
        let b = begun (codes "/*") (λ rest. has_line_end rest && ends_at_close rest) own e in
        block_is_bare b.rest text (subst (λ t. AsLines (lines_of t) text) b.is as_lines) (and_parts (has_line_end b.rest) (ends_at_close b.rest) b.holds_behind).1 (subst (λ t. begins_closed (lines_of t) ≡ false) b.is o) ∙
        ap (λ t. map tag_free (bare_lines t)) (sym b.is)

of_line_itself : (own : List ℕ) → StandsItself kinds.Line own
of_line_itself own true = (refl, refl)
of_line_itself own false = (refl, refl)

of_single_itself : (own : List ℕ) → StandsItself kinds.SingleLineBlock own
of_single_itself own true = (refl, refl)
of_single_itself own false = (refl, refl)

of_open_itself : (own : List ℕ) → StandsItself kinds.HtmlOpen own
of_open_itself own true = (refl, refl)
of_open_itself own false = (refl, refl)

of_block_itself : (own : List ℕ) → StandsItself kinds.MultiLineBlock own
of_block_itself own true = (refl, refl)
of_block_itself own false = (refl, refl)

adds : (kind : CommentKind) (own : List ℕ) (p : Pen) → (is_on_one_line kind ≡ false → IsIndentedByBlanks p) → Adds (is_mid_line p.code) kind own p (text_written kind own p)
adds kinds.Line own p h = of_one_line kinds.Line own (is_mid_line p.code) p (of_line_itself own (is_mid_line p.code)) refl (λ e. stays_one kinds.Line own refl e)
adds kinds.SingleLineBlock own p h = of_one_line kinds.SingleLineBlock own (is_mid_line p.code) p (of_single_itself own (is_mid_line p.code)) refl (λ e. stays_one kinds.SingleLineBlock own refl e)
adds kinds.HtmlOpen own p h = of_one_line kinds.HtmlOpen own (is_mid_line p.code) p (of_open_itself own (is_mid_line p.code)) refl (λ e. stays_one kinds.HtmlOpen own refl e)
adds kinds.HtmlClose own p h = of_html_close own (is_mid_line p.code) p
adds kinds.MultiLineBlock own p h = of_block own (is_mid_line p.code) p (h refl) (of_block_itself own (is_mid_line p.code))

pub comments_keep_texts : CommentsKeepTexts
comments_keep_texts c pen h =
    let a = adds c.kind c.text pen h in
    record { text = a.text; is = a.is; dark = a.dark; whole = a.whole; lines = a.lines; stays = a.stays }

pub jobs_indent_by_blanks : JobsIndentByBlanks
jobs_indent_by_blanks job = indent_is_blank job.options.indent_char

-- behind the code of a pen stands only one text
own_text_behind : (c : Comment) (own : List ℕ) (pen : Pen) → (is_on_one_line c.kind ≡ false → IsIndentedByBlanks pen) → (comment_written c pen).code ≡ pen.code ++ own → OwnText c own
own_text_behind c own pen h is =
    let a = comments_keep_texts c pen h in
    let same : a.text ≡ own = append_cancel_left pen.code a.text own (sym a.is ∙ is) in
    record {
      mid_line = is_mid_line pen.code;
      dark = ap dark_of (sym same) ∙ a.dark;
      whole = λ n. sym same ∙ a.whole n;
      lines = λ n e o. ap bare_lines (sym same) ∙ a.lines n e o;
      stays = λ e. subst (λ t. is_printed_comment (begins_closed (lines_of c.text)) (kind_in_place (is_mid_line pen.code) c.kind) t ≡ true) same (a.stays e);
    }

pub own_texts : OwnTexts
own_texts c own (inl its) = own_text_behind c own its.0 (λ n. its.1.0) its.1.1
own_texts c own (inr its) = own_text_behind c own its.1.0 (λ n. absurd (both_ways (is_on_one_line c.kind) n its.0)) its.1.1
