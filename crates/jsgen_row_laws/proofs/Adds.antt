-- What a stretch of items adds to the code, in a form that composes: what stands before it, its tokens, and what it ends in.
use Rattle.std.proofs.Common.{◌≡◌, ℕ, Bool, true, false, List, refl, sym, ap, ◌∙◌, subst}
use Rattle.std.proofs.lemmas.Bool.{both_ways}
use Rattle.jsgen_syntax.specs.Name.{spells_name}
use Rattle.jsgen_tree.specs.Job.{Tables}
use Rattle.jsgen_model.specs.Punctuator.{Punctuator, Bracket, star, comma, semicolon, ellipsis}
use Rattle.jsgen_model.specs.Tokens.{Tokens, done, piece, group, ◌⧺◌, Piece, Word, Sign}
use Rattle.jsgen_model.specs.Items.{Items, nothing, ◌⊕◌, word, punctuator, soft_space, hard_space, deeper, in_class, brackets}
use Rattle.jsgen_model.specs.Layout.{Pen, other_end, layout, written, entered, deeper_level}
use Rattle.jsgen_model.specs.Punctuator.{opening}
use Rattle.jsgen_token_laws.proofs.Last.{Last, Open, After, line_of, Operand, Ready, Begun, Remembers, NoDot, Knows}
use Rattle.jsgen_token_laws.proofs.Writes.{Writes, wrote_none, wrote_both, wrote_and_none, same_writes}
use Rattle.jsgen_token_laws.proofs.Steps.{Soft, wrote_word, wrote_punctuator, wrote_comma, wrote_semicolon, wrote_dots, wrote_star, soft_space_written, hard_space_written, within_brackets, brackets_written}

-- ---- what stands at the code's end

-- what may be asked of it: that an operand may begin there, or a member of a list, or what goes on from an operand; or that what follows is on its line
pub data Need : Type 0 where
  a_start a_member an_operand a_line : Need

abbrev pub Meets : Need → Last → Type 0
Meets a_start l = Ready l
Meets a_member l = Begun l
Meets an_operand l = Operand l
Meets a_line l = line_of l ≡ false

-- What stands there, by what it is good for: where an operand may begin or a member; behind an operand, behind a word or brackets, behind a comma or another sign; and behind either on another line
pub data End : Type 0 where
  unknown at_start at_member behind_operand behind_token behind_comma behind_sign anywhere : End

abbrev pub is_good_for : End → Need → Bool
is_good_for at_start a_start = true
is_good_for at_member a_start = true
is_good_for at_member a_member = true
is_good_for behind_operand a_start = true
is_good_for behind_operand an_operand = true
is_good_for behind_token n = true
is_good_for behind_comma a_start = true
is_good_for behind_comma a_member = true
is_good_for behind_comma a_line = true
is_good_for behind_sign a_start = true
is_good_for behind_sign a_line = true
is_good_for anywhere a_start = true
is_good_for anywhere a_member = true
is_good_for anywhere an_operand = true
is_good_for e n = false

abbrev pub Ends : End → Last → Type 0
Ends e l = (n : Need) → is_good_for e n ≡ true → Meets n l

-- behind a line end
abbrev pub off_line : End → End
off_line behind_token = anywhere
off_line behind_comma = at_member
off_line behind_sign = at_start
off_line e = e

pub no : {A : Type 0} → false ≡ true → A
no h = absurd (both_ways false refl h)

-- ---- what tokens are read as

-- this token alone
pub data Is (x : Piece) : Tokens → Type 0 where
  is : (mark : Bool) → Is x (piece mark x done)

-- on the line of what stands before it
pub data Follows (x : Piece) : Tokens → Type 0 where
  follows : Follows x (piece false x done)

pub data Nothing : Tokens → Type 0 where
  none : Nothing done

-- a group alone
pub data Within (b : Bracket) (P : Tokens → Type 0) : Tokens → Type 0 where
  within : {ts : Tokens} (mark : Bool) → P ts → Within b P (group mark b ts done)

-- one row behind the other
infixr 40 ◌⨟◌
infixr 40 ◌&◌
pub data ◌⨟◌ (P Q : Tokens → Type 0) : Tokens → Type 0 where
  ◌&◌ : {a b : Tokens} → P a → Q b → (P ⨟ Q) (a ⧺ b)

-- read so, as something of which this holds
pub record Says {X : Type 0} (R : Tokens → X → Type 0) (Same : X → Type 0) (ts : Tokens) : Type 0 where
  pub reading : X
  pub reads : R ts reading
  pub same : Same reading

-- ---- stretches

pub record Added (names : Tables) (P : Tokens → Type 0) (e : End) (p : Pen) (l : Last) (q : Pen) : Type 0 where
  pub last : Last
  pub tokens : Tokens
  pub writes : Writes names p l q last tokens
  pub ends : Ends e last
  pub semicolon : q.pending_semicolon ≡ false
  pub holds : P tokens

-- behind what is good for `d` the items add tokens of which `P` holds, and leave what is good for `e`
pub record Adds (names : Tables) (d : End) (P : Tokens → Type 0) (e : End) (items : Items) : Type 0 where
  pub from : (p : Pen) (l : Last) → p.pending_semicolon ≡ false → Ends d l → Knows names p l → Added names P e p l (layout items p)

-- one behind the other
infixr 50 ◌⨾◌
pub ◌⨾◌ : {names : Tables} {d e f : End} {P Q : Tokens → Type 0} {a b : Items} → Adds names d P e a → Adds names e Q f b → Adds names d (P ⨟ Q) f (a ⊕ b)
◌⨾◌ {a = a} f g = record {
  from = λ p l z y k.
      let x = f.from p l z y k in
      let w = g.from (layout a p) x.last x.semicolon x.ends x.writes.knows in
      record { last = w.last; tokens = x.tokens ⧺ w.tokens; writes = wrote_both x.writes w.writes; ends = w.ends; semicolon = w.semicolon; holds = x.holds & w.holds };
}

-- read as something else
pub read : {names : Tables} {d e : End} {P Q : Tokens → Type 0} {items : Items} → ((ts : Tokens) → P ts → Q ts) → Adds names d P e items → Adds names d Q e items
read h f = record { from = λ p l z y k. let x = f.from p l z y k in record { last = x.last; tokens = x.tokens; writes = x.writes; ends = x.ends; semicolon = x.semicolon; holds = h x.tokens x.holds } }

-- behind what is good for more
pub behind : {names : Tables} {c d e : End} {P : Tokens → Type 0} {items : Items} → ((n : Need) → is_good_for d n ≡ true → is_good_for c n ≡ true) → Adds names d P e items → Adds names c P e items
behind h f = record { from = λ p l z y k. f.from p l z (λ n g. y n (h n g)) k }

comma_covers : (n : Need) → is_good_for at_member n ≡ true → is_good_for behind_comma n ≡ true
comma_covers a_start h = refl
comma_covers a_member h = refl
comma_covers an_operand h = no h
comma_covers a_line h = refl

pub at_comma : {names : Tables} {e : End} {P : Tokens → Type 0} {items : Items} → Adds names at_member P e items → Adds names behind_comma P e items
at_comma f = behind comma_covers f

pub token_covers : (d : End) (n : Need) → is_good_for d n ≡ true → is_good_for behind_token n ≡ true
token_covers d a_start h = refl
token_covers d a_member h = refl
token_covers d an_operand h = refl
token_covers d a_line h = refl

pub at_token : {names : Tables} {d e : End} {P : Tokens → Type 0} {items : Items} → Adds names d P e items → Adds names behind_token P e items
at_token {d = d} f = behind (token_covers d) f

pub start_covers : (d : End) → is_good_for d a_start ≡ true → (n : Need) → is_good_for at_start n ≡ true → is_good_for d n ≡ true
start_covers d g a_start h = g
start_covers d g a_member h = no h
start_covers d g an_operand h = no h
start_covers d g a_line h = no h

-- what begins wherever an operand may
pub at_any : {names : Tables} {d e : End} {P : Tokens → Type 0} {items : Items} → is_good_for d a_start ≡ true → Adds names at_start P e items → Adds names d P e items
at_any {d = d} g f = behind (start_covers d g) f

-- before what is good for less
pub before : {names : Tables} {d e f : End} {P : Tokens → Type 0} {items : Items} → ((n : Need) → is_good_for f n ≡ true → is_good_for e n ≡ true) → Adds names d P e items → Adds names d P f items
before h f = record { from = λ p l z y k. let x = f.from p l z y k in record { last = x.last; tokens = x.tokens; writes = x.writes; ends = λ n g. x.ends n (h n g); semicolon = x.semicolon; holds = x.holds } }

operand_less : (n : Need) → is_good_for behind_operand n ≡ true → is_good_for behind_token n ≡ true
operand_less n h = token_covers behind_operand n h

-- a token of its own is an operand at least
pub at_operand : {names : Tables} {d : End} {P : Tokens → Type 0} {items : Items} → Adds names d P behind_token items → Adds names d P behind_operand items
at_operand f = before operand_less f

not_known : (n : Need) → is_good_for unknown n ≡ true → ⊥
not_known n h = no h

pub forget : {names : Tables} {d e : End} {P : Tokens → Type 0} {items : Items} → Adds names d P e items → Adds names d P unknown items
forget f = before (λ n h. absurd (not_known n h)) f

-- items that are laid out as others
pub laid : {names : Tables} {d e : End} {P : Tokens → Type 0} (a b : Items) → ((p : Pen) → p.style.tables ≡ names → layout b p ≡ layout a p) → Adds names d P e a → Adds names d P e b
laid {names} {e = e} {P} a b h f = record { from = λ p l z y k. subst (λ q. Added names P e p l q) (sym (h p k.tables)) (f.from p l z y k) }

-- marks and comments before it
pub past : {names : Tables} {d e : End} {P : Tokens → Type 0} {i a : Items} → ((p : Pen) → layout i p ≡ p) → Adds names d P e a → Adds names d P e (i ⊕ a)
past {i = i} {a} h f = laid a (i ⊕ a) (λ p t. ap (layout a) (h p)) f

-- and behind it
pub before_nothing : {names : Tables} {d e : End} {P : Tokens → Type 0} {a i : Items} → ((p : Pen) → layout i p ≡ p) → Adds names d P e a → Adds names d P e (a ⊕ i)
before_nothing {a = a} {i} h f = laid a (a ⊕ i) (λ p t. h (layout a p)) f

-- ---- tokens

-- behind a token of any kind but some
pub after_token : (w : List ℕ) → Ends behind_token (After (Word w))
after_token w a_start h = tt
after_token w a_member h = tt
after_token w an_operand h = tt
after_token w a_line h = refl

pub after_group : Ends behind_token (Open false)
after_group a_start h = tt
after_group a_member h = tt
after_group an_operand h = tt
after_group a_line h = refl

after_comma : Ends behind_comma (After (Sign comma))
after_comma a_start h = tt
after_comma a_member h = tt
after_comma an_operand h = no h
after_comma a_line h = refl

after_sign : (s : Punctuator) → Ready (After (Sign s)) → Ends behind_sign (After (Sign s))
after_sign s r a_start h = r
after_sign s r a_member h = no h
after_sign s r an_operand h = no h
after_sign s r a_line h = refl

on_line : {line : Bool} (x : Piece) → line ≡ false → Follows x (piece line x done)
on_line x e = subst (λ b. Follows x (piece b x done)) (sym e) follows

pub keyword : {names : Tables} {d : End} (w : List ℕ) → spells_name w ≡ true → Adds names d (Is (Word w)) behind_token (word w)
keyword w n = record { from = λ p l z y k. record { last = After (Word w); tokens = piece (line_of l) (Word w) done; writes = wrote_word w p l n k; ends = after_token w; semicolon = z; holds = is (line_of l) } }

pub keyword_on_line : {names : Tables} {d : End} (w : List ℕ) → spells_name w ≡ true → is_good_for d a_line ≡ true → Adds names d (Follows (Word w)) behind_token (word w)
keyword_on_line w n h = record { from = λ p l z y k. record { last = After (Word w); tokens = piece (line_of l) (Word w) done; writes = wrote_word w p l n k; ends = after_token w; semicolon = z; holds = on_line (Word w) (y a_line h) } }

pub sign : {names : Tables} {d : End} (s : Punctuator) → NoDot s → Remembers s other_end → Ready (After (Sign s)) → is_good_for d an_operand ≡ true → Adds names d (Is (Sign s)) behind_sign (punctuator s)
sign s i m r h = record { from = λ p l z y k. record { last = After (Sign s); tokens = piece (line_of l) (Sign s) done; writes = wrote_punctuator s p l i m (y an_operand h) k; ends = after_sign s r; semicolon = z; holds = is (line_of l) } }

pub comma_sign : {names : Tables} {d : End} → Adds names d (Is (Sign comma)) behind_comma (punctuator comma)
comma_sign = record { from = λ p l z y k. record { last = After (Sign comma); tokens = piece (line_of l) (Sign comma) done; writes = wrote_comma p l k; ends = after_comma; semicolon = z; holds = is (line_of l) } }

pub semicolon_sign : {names : Tables} {d : End} → Adds names d (Is (Sign semicolon)) behind_sign (punctuator semicolon)
semicolon_sign = record { from = λ p l z y k. record { last = After (Sign semicolon); tokens = piece (line_of l) (Sign semicolon) done; writes = wrote_semicolon p (layout (punctuator semicolon) p) l refl refl k; ends = after_sign semicolon tt; semicolon = z; holds = is (line_of l) } }

pub dots : {names : Tables} {d : End} → is_good_for d a_member ≡ true → Adds names d (Is (Sign ellipsis)) behind_sign (punctuator ellipsis)
dots h = record { from = λ p l z y k. record { last = After (Sign ellipsis); tokens = piece (line_of l) (Sign ellipsis) done; writes = wrote_dots p l (y a_member h) k; ends = after_sign ellipsis tt; semicolon = z; holds = is (line_of l) } }

-- a star where a member may begin, and one on the line of what stands before it
pub star_sign : {names : Tables} {d : End} → is_good_for d a_member ≡ true → Adds names d (Is (Sign star)) behind_sign (punctuator star)
star_sign h = record { from = λ p l z y k. record { last = After (Sign star); tokens = piece (line_of l) (Sign star) done; writes = wrote_star p l (y a_member h) k; ends = after_sign star tt; semicolon = z; holds = is (line_of l) } }

pub star_on_line : {names : Tables} {d : End} → is_good_for d a_member ≡ true → is_good_for d a_line ≡ true → Adds names d (Follows (Sign star)) behind_sign (punctuator star)
star_on_line h i = record { from = λ p l z y k. record { last = After (Sign star); tokens = piece (line_of l) (Sign star) done; writes = wrote_star p l (y a_member h) k; ends = after_sign star tt; semicolon = z; holds = on_line (Sign star) (y a_line i) } }

pub empty : {names : Tables} {d : End} → Adds names d Nothing d nothing
empty = record { from = λ p l z y k. record { last = l; tokens = done; writes = wrote_none p p l refl k; ends = y; semicolon = z; holds = none } }

-- ---- blanks

kept : {names : Tables} {p q : Pen} {l : Last} (s : Soft names p l q) (d : End) → Ends d l → Ends d s.last
kept s d y a_start h = s.ready (y a_start h)
kept s d y a_member h = s.begun (y a_member h)
kept s d y an_operand h = s.operand (y an_operand h)
kept s d y a_line h = s.line (y a_line h)

-- any blank that ends no line
abbrev pub IsSoft : Tables → Items → Type 0
IsSoft names i = (p : Pen) (l : Last) → Knows names p l → Soft names p l (layout i p)

pub behind_soft : {names : Tables} {d e : End} {P : Tokens → Type 0} {a : Items} (i : Items) → IsSoft names i → Adds names d P e a → Adds names d P e (i ⊕ a)
behind_soft {d = d} i s f = record {
  from = λ p l z y k.
      let n = s p l k in
      let x = f.from (layout i p) n.last (n.semicolon ∙ z) (kept n d y) n.writes.knows in
      record { last = x.last; tokens = x.tokens; writes = wrote_both n.writes x.writes; ends = x.ends; semicolon = x.semicolon; holds = x.holds };
}

pub before_soft : {names : Tables} {d e : End} {P : Tokens → Type 0} {a : Items} (i : Items) → IsSoft names i → Adds names d P e a → Adds names d P e (a ⊕ i)
before_soft {e = e} {a = a} i s f = record {
  from = λ p l z y k.
      let x = f.from p l z y k in
      let n = s (layout a p) x.last x.writes.knows in
      record { last = n.last; tokens = x.tokens; writes = wrote_and_none x.writes n.writes; ends = kept n e x.ends; semicolon = n.semicolon ∙ x.semicolon; holds = x.holds };
}

pub spaced : {names : Tables} {d e : End} {P : Tokens → Type 0} {a : Items} → Adds names d P e a → Adds names d P e (soft_space ⊕ a)
spaced f = behind_soft soft_space soft_space_written f

pub before_space : {names : Tables} {d e : End} {P : Tokens → Type 0} {a : Items} → Adds names d P e a → Adds names d P e (a ⊕ soft_space)
before_space f = before_soft soft_space soft_space_written f

pub hard_spaced : {names : Tables} {d e : End} {P : Tokens → Type 0} {a : Items} → Adds names d P e a → Adds names d P e (hard_space ⊕ a)
hard_spaced f = behind_soft hard_space hard_space_written f

-- ---- brackets and levels

pub bracketed : {names : Tables} {d e : End} {P : Tokens → Type 0} {a : Items} (b : Bracket) → Adds names behind_token P e a → Adds names d (Within b P) behind_token (brackets b a)
bracketed {a = a} b f = record {
  from = λ p l z y k.
      let p1 : Pen = written (opening b) other_end p in
      let x = f.from p1 (Open false) z after_group (within_brackets b p l k) in
      record { last = Open false; tokens = group (line_of l) b x.tokens done; writes = brackets_written b p (layout a p1) l x.last x.tokens x.writes; ends = after_group; semicolon = x.semicolon; holds = within (line_of l) x.holds };
}

-- between pens that differ in what no text depends on
around : {names : Tables} {d e : End} {P : Tokens → Type 0} {a i : Items} (inner : Pen → Pen) (outer : Pen → Pen → Pen) → ((p : Pen) → layout i p ≡ outer p (layout a (inner p))) → ((p : Pen) → (inner p).code ≡ p.code) → ((p q : Pen) → (outer p q).code ≡ q.code) → ((p : Pen) → (inner p).pending_semicolon ≡ p.pending_semicolon) → ((p q : Pen) → (outer p q).pending_semicolon ≡ q.pending_semicolon)
    → ((p : Pen) (l : Last) → Knows names p l → Knows names (inner p) l) → ((p q : Pen) (l : Last) → Knows names q l → Knows names (outer p q) l) → Adds names d P e a → Adds names d P e i
around {names} {e = e} {P} {a} {i} inner outer h c d s t k m f = record {
  from = λ p l z y n.
      let x = f.from (inner p) l (s p ∙ z) y (k p l n) in
      let q : Pen = outer p (layout a (inner p)) in
      let w : Added names P e p l q = record { last = x.last; tokens = x.tokens; writes = same_writes p q (c p) (d p (layout a (inner p))) (m p (layout a (inner p)) x.last x.writes.knows) x.writes; ends = x.ends; semicolon = t p (layout a (inner p)) ∙ x.semicolon; holds = x.holds } in
      subst (λ r. Added names P e p l r) (sym (h p)) w;
}

-- one level deeper
pub deep : {names : Tables} {d e : End} {P : Tokens → Type 0} {a : Items} → Adds names d P e a → Adds names d P e (deeper a)
deep f = around (λ p. record p { depth = deeper_level p.style.minified p.depth }) (λ p q. record q { depth = p.depth }) (λ p. refl) (λ p. refl) (λ p q. refl) (λ p. refl) (λ p q. refl)
    (λ p l k. record { indent = k.indent; tables = k.tables; ending = k.ending }) (λ p q l k. record { indent = k.indent; tables = k.tables; ending = k.ending }) f

-- the members of a class have private names of their own
pub of_class : {names : Tables} {d e : End} {P : Tokens → Type 0} {a : Items} → Adds names d P e a → Adds names d P e (in_class a)
of_class f = around entered (λ p q. record q { classes = p.classes }) (λ p. refl) (λ p. refl) (λ p q. refl) (λ p. refl) (λ p q. refl)
    (λ p l k. record { indent = k.indent; tables = k.tables; ending = k.ending }) (λ p q l k. record { indent = k.indent; tables = k.tables; ending = k.ending }) f
