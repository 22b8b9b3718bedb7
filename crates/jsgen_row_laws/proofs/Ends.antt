-- What ends a statement: a semicolon that is left to what follows, or nothing more.
use Rattle.std.proofs.Common.{◌≡◌, Bool, true, false, refl, sym, ap, ◌∙◌, subst}
use Rattle.jsgen_tree.specs.Job.{Tables}
use Rattle.jsgen_model.specs.Punctuator.{semicolon}
use Rattle.jsgen_model.specs.Tokens.{Tokens, done, piece, ◌⧺◌, Sign}
use Rattle.jsgen_model.specs.Items.{due_semicolon}
use Rattle.jsgen_model.specs.Layout.{Pen, layout}
use Rattle.jsgen_model.specs.Grammar.{EndsBy}
use Rattle.jsgen_model.specs.Grammar as grammar
use Rattle.jsgen_token_laws.proofs.Last.{Last, After, line_of, Ready, Begun, Knows}
use Rattle.jsgen_token_laws.proofs.Writes.{Writes, then_assoc, then_done}
use Rattle.jsgen_token_laws.proofs.Steps.{due_written, none_due}

-- these tokens are the others with their end: where a semicolon is left it or a brace, and else nothing more
abbrev pub Ended : Bool → Bool → Tokens → Tokens → Type 0
Ended true last ts a = EndsBy last ts a
Ended false last ts a = ts ≡ a

-- however the tokens end, they are read so
pub record Ends (R : Bool → Tokens → Type 0) (left : Bool) (a : Tokens) : Type 0 where
  pub read : (last : Bool) (ts : Tokens) → Ended left last ts a → R last ts

-- a brace ends everything
pub at_brace : (left : Bool) (a : Tokens) → Ended left true a a
at_brace true a = grammar.the_brace
at_brace false a = refl

-- read otherwise
pub ends_since : {R S : Bool → Tokens → Type 0} {left : Bool} {a : Tokens} → ((last : Bool) (ts : Tokens) → R last ts → S last ts) → Ends R left a → Ends S left a
ends_since f e = record { read = λ last ts h. f last ts (e.read last ts h) }

-- what needs no end, where no semicolon is left
pub ends_itself : {R : Bool → Tokens → Type 0} {left : Bool} {a : Tokens} → left ≡ false → ((last : Bool) → R last a) → Ends R left a
ends_itself {R} {a = a} z f = record { read = λ last ts h. subst (λ x. R last x) (sym (subst (λ b. Ended b last ts a) z h)) (f last) }

-- with the semicolon
pub semicolon_behind : {R : Bool → Tokens → Type 0} {a : Tokens} (mark : Bool) → Ends R true a → Ends R false (a ⧺ piece mark (Sign semicolon) done)
semicolon_behind mark e = record { read = λ last ts h. e.read last ts (grammar.a_semicolon mark h) }

-- ---- behind other tokens

semicolon_or_brace : {last : Bool} {ts x : Tokens} (a b : Tokens) → x ≡ a ⧺ b → EndsBy last ts x → (d : Tokens) × (ts ≡ a ⧺ d) × EndsBy last d b
semicolon_or_brace a b e (grammar.a_semicolon mark h) = (b ⧺ piece mark (Sign semicolon) done, h ∙ (ap (λ y. y ⧺ piece mark (Sign semicolon) done) e ∙ then_assoc a b (piece mark (Sign semicolon) done)), grammar.a_semicolon mark refl)
semicolon_or_brace a b e grammar.the_brace = (b, e, grammar.the_brace)

-- what ends two rows ends the second
ended_behind : (left last : Bool) (ts a b : Tokens) → Ended left last ts (a ⧺ b) → (d : Tokens) × (ts ≡ a ⧺ d) × Ended left last d b
ended_behind true last ts a b e = semicolon_or_brace a b refl e
ended_behind false last ts a b e = (b, e, refl)

-- read as something more
pub ends_behind : {R S : Bool → Tokens → Type 0} {left : Bool} {b : Tokens} (a : Tokens) → ((last : Bool) (ts : Tokens) → R last ts → S last (a ⧺ ts)) → Ends R left b → Ends S left (a ⧺ b)
ends_behind {R} {S} {left} {b} a f e = record { read = λ last ts h. let k = ended_behind left last ts a b h in subst (λ x. S last x) (sym k.1) (f last k.0 (e.read last k.0 k.2)) }

-- with their end, tokens begin as without it
pub ended_more : (left last : Bool) (ts a : Tokens) → Ended left last ts a → (d : Tokens) × (ts ≡ a ⧺ d)
ended_more left last ts a e = let k = ended_behind left last ts a done (subst (λ x. Ended left last ts x) (sym (then_done a)) e) in (k.0, k.1)

-- ---- the semicolon that is due

-- it ends what stands before it
pub record Due (names : Tables) (p : Pen) (l : Last) (q : Pen) : Type 0 where
  pub last : Last
  pub tokens : Tokens
  pub writes : Writes names p l q last tokens
  pub ready : Ready last
  pub semicolon : q.pending_semicolon ≡ false
  pub ends : (a : Tokens) → Ended p.pending_semicolon false (a ⧺ tokens) a
  -- behind it a member of a class may begin, where one may without it
  pub begun : (p.pending_semicolon ≡ false → Begun l) → Begun last

pub due_ends : {names : Tables} (p : Pen) (l : Last) → Ready l → Knows names p l → Due names p l (layout due_semicolon p)
due_ends {names} p l y k = by p.pending_semicolon refl
  where
    by : (left : Bool) → p.pending_semicolon ≡ left → Due names p l (layout due_semicolon p)
    by true e = record {
      last = After (Sign semicolon);
      tokens = piece (line_of l) (Sign semicolon) done;
      writes = due_written p l e k;
      ready = tt;
      semicolon = refl;
      ends = λ a. subst (λ left. Ended left false (a ⧺ piece (line_of l) (Sign semicolon) done) a) (sym e) (grammar.a_semicolon (line_of l) refl);
      begun = λ h. tt;
    }
    by false e =
        let n = none_due p l e k in
        record { last = n.last; tokens = done; writes = n.writes; ready = n.ready y; semicolon = n.semicolon ∙ e; ends = λ a. subst (λ left. Ended left false (a ⧺ done) a) (sym e) (then_done a); begun = λ h. n.begun (h e) }
