-- A whole expression of a word and a stretch behind it.
use Rattle.std.proofs.Common.{◌≡◌, ℕ, Bool, true, not, List, ap}
use Rattle.jsgen_syntax.specs.Name.{spells_name}
use Rattle.jsgen_tree.specs.Job.{Tables}
use Rattle.jsgen_tree.specs.Tree.{Tree}
use Rattle.jsgen_model.specs.Tokens.{Tokens, piece, ◌⧺◌, Word}
use Rattle.jsgen_model.specs.Items.{Items, ◌⊕◌, word}
use Rattle.jsgen_model.specs.Layout.{layout}
use Rattle.jsgen_model.specs.Grammar.{starts_statement}
use Rattle.jsgen_token_laws.proofs.Last.{After, line_of}
use Rattle.jsgen_token_laws.proofs.Writes.{wrote_both}
use Rattle.jsgen_token_laws.proofs.Steps.{wrote_word}
use Rattle.jsgen_row_laws.proofs.Good.{PrintedAs, begins_all}
use Rattle.jsgen_row_laws.proofs.Adds.{an_operand, End, is_good_for, behind_token, after_token, Adds}
use Rattle.jsgen_row_laws.proofs.Parts.{Reads}

-- a word that begins no declaration, and what stands behind it
pub good_worded : {names : Tables} {P : Tokens → Type 0} {Read : Tokens → Tree → Type 0} {e : End} {t : Tree} (w : List ℕ) (items : Items) → spells_name w ≡ true → ((mark : Bool) (ts : Tokens) → starts_statement (piece mark (Word w) ts) ≡ true) → is_good_for e an_operand ≡ true → Adds names behind_token P e items
    → ((mark : Bool) (ts : Tokens) → P ts → Reads names Read t (piece mark (Word w) ts)) → PrintedAs names Read (word w ⊕ items) t
good_worded w items n s h f build p l z y k =
    let o = wrote_word w p l n k in
    let x = f.from (layout (word w) p) (After (Word w)) z (after_token w) o.knows in
    let r = build (line_of l) x.tokens x.holds in
    record {
      last = x.last;
      tokens = piece (line_of l) (Word w) x.tokens;
      writes = wrote_both o x.writes;
      operand = x.ends an_operand h;
      semicolon = x.semicolon;
      begins = λ b i. begins_all p.start (piece (line_of l) (Word w) (x.tokens ⧺ b)) (s (line_of l) (x.tokens ⧺ b));
      line = λ e. ap not e;
      tree = r.reading;
      reads = r.reads;
      same = r.same;
    }
