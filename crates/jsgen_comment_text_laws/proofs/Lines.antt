-- A block as it is printed, line by line.
use Rattle.std.proofs.Common.{zero, suc, ◌≡◌, ℕ, ◌*◌, Bool, true, false, List, [], ◌∷◌, ◌++◌, codes, replicate, refl, ap, sym, ◌∙◌, append_assoc, append-nil, not}
use Rattle.std.specs.List.{list_all}
use Rattle.std.specs.Str.{skip_leading_whitespace}
use Rattle.std.proofs.lemmas.Bool.{false≢true, and_from}
use Rattle.jsgen_syntax.specs.Raw.{tag_free}
use Rattle.jsgen_model.specs.Groups.{opens_block, closes_block, indented_if, block_line, block_lines, is_dark}
use Rattle.jsgen_model.specs.Layout.{Pen, text_if, indented, indent_or_space, at_indentation}
use Rattle.jsgen_comment_laws.specs.Stand.{IsIndentedByBlanks}

-- a space or a tab
abbrev pub is_blank : ℕ → Bool
is_blank c = not (is_dark c)

-- ---- indentation

-- blanks behind the code, and none where a test holds
pub record Indents (test : Bool) (p q : Pen) : Type 0 where
  pub text : List ℕ
  pub code : q.code ≡ p.code ++ text
  pub blank : list_all is_blank text ≡ true
  pub style : q.style ≡ p.style
  pub none : test ≡ true → text ≡ []

nothing : (test : Bool) (p : Pen) → Indents test p p
nothing test p = record { text = []; code = sym (append-nil p.code); blank = refl; style = refl; none = λ e. refl }

blank_of : (c : ℕ) → is_dark c ≡ false → is_blank c ≡ true
blank_of c e = ap not e

all_blank : (n c : ℕ) → is_blank c ≡ true → list_all is_blank (replicate n c) ≡ true
all_blank zero c e = refl
all_blank (suc n) c e = and_from (is_blank c) (list_all is_blank (replicate n c)) e (all_blank n c e)

by_text : (t : List ℕ) (p : Pen) → list_all is_blank t ≡ true → Indents false p (indented t p)
by_text [] p e = nothing false p
by_text (c ∷ cs) p e = record { text = c ∷ cs; code = refl; blank = e; style = refl; none = λ n. absurd (false≢true n) }

or_space : (pending : Bool) (p : Pen) → IsIndentedByBlanks p → Indents false p (indent_or_space pending p)
or_space true p h = record { text = codes " "; code = refl; blank = refl; style = refl; none = λ n. absurd (false≢true n) }
or_space false p h = by_text (replicate (p.depth * p.style.width) p.style.indent) p (all_blank (p.depth * p.style.width) p.style.indent (blank_of p.style.indent h))

indents_by : (minified : Bool) (p : Pen) → IsIndentedByBlanks p → Indents false p (at_indentation minified p)
indents_by true p h = nothing false p
indents_by false p h = or_space p.pending_space p h

indents_unless : (test : Bool) (p : Pen) → IsIndentedByBlanks p → Indents test p (indented_if (not test) p)
indents_unless true p h = nothing true p
indents_unless false p h = indents_by p.style.minified p h

-- ---- lines

-- a line: blanks, unless it opens the block, its text without the white space that it begins with, and a line end, unless it closes the block
pub record AsLine (l text : List ℕ) (Rest : List ℕ → Type 0) : Type 0 where
  pub indentation : List ℕ
  pub rest : List ℕ
  pub is : text ≡ indentation ++ (tag_free (skip_leading_whitespace l) ++ (text_if (not (closes_block l)) (codes "\n") ++ rest))
  pub blank : list_all is_blank indentation ≡ true
  pub opens : opens_block l ≡ true → indentation ≡ []
  pub others : Rest rest

abbrev pub AsLines : List (List ℕ) → List ℕ → Type 0
AsLines [] text = text ≡ []
AsLines (l ∷ ls) text = AsLine l text (λ rest. AsLines ls rest)

pub record Printed (ls : List (List ℕ)) (p q : Pen) : Type 0 where
  pub text : List ℕ
  pub code : q.code ≡ p.code ++ text
  pub lines : AsLines ls text

joined : (a b c d e : List ℕ) → (((a ++ b) ++ c) ++ d) ++ e ≡ a ++ (b ++ (c ++ (d ++ e)))
joined a b c d e = append_assoc ((a ++ b) ++ c) d e ∙ (append_assoc (a ++ b) c (d ++ e) ∙ append_assoc a b (c ++ (d ++ e)))

pub printed_lines : (ls : List (List ℕ)) (p : Pen) → IsIndentedByBlanks p → Printed ls p (block_lines ls p)
printed_lines [] p h = record { text = []; code = sym (append-nil p.code); lines = refl }
printed_lines (l ∷ ls) p h =
    let own = tag_free (skip_leading_whitespace l) in
    let end = text_if (not (closes_block l)) (codes "\n") in
    let i = indents_unless (opens_block l) p h in
    let more = printed_lines ls (block_line l p) (ap (λ s. is_dark s.indent) i.style ∙ h) in
    record {
      text = i.text ++ (own ++ (end ++ more.text));
      code = more.code ∙ (ap (λ x. ((x ++ own) ++ end) ++ more.text) i.code ∙ joined p.code i.text own end more.text);
      lines = record { indentation = i.text; rest = more.text; is = refl; blank = i.blank; opens = i.none; others = more.lines };
    }
