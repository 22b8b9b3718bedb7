-- Stretches that print what has a reading, and what such stretches give.
use Rattle.std.proofs.Common.{◌≡◌, Bool, true}
use Rattle.jsgen_tree.specs.Job.{Tables}
use Rattle.jsgen_tree.specs.Tree.{Tree, Maybe}
use Rattle.jsgen_model.specs.Tokens.{Tokens}
use Rattle.jsgen_model.specs.Items.{Items}
use Rattle.jsgen_model.specs.Grammar.{Allowed, ReadsExpression, on_same_line}
use Rattle.jsgen_model.specs.Normal.{normal_maybe}
use Rattle.jsgen_model.specs.Renamed.{renamed_maybe}
use Rattle.jsgen_model.specs.Spell.{spell}
use Rattle.jsgen_place.specs.declared.place.Place.{Place}
use Rattle.jsgen_token_laws.proofs.Last.{Last, Operand, Ready, Begun, begun_ready}
use Rattle.jsgen_row_laws.proofs.Levels.{level_of, under}
use Rattle.jsgen_row_laws.proofs.Adds.{a_start, a_member, an_operand, a_line, End, is_good_for, unknown, at_start, at_member, behind_operand, Ends, no, Says, Adds}
use Rattle.jsgen_row_laws.proofs.Good.{Printed, operand_ready}
use Rattle.jsgen_row_laws.proofs.Lists.{GivesElement}
use Rattle.jsgen_row_laws.proofs.Ends as ending
use Rattle.jsgen_row_laws.proofs.Stands.{SameTree, UnendedAt}
use Rattle.jsgen_row_laws.proofs.Parentheses.{InsideAt}

abbrev pub SameMaybe : Tables → Maybe → Maybe → Type 0
SameMaybe names m n = normal_maybe n ≡ normal_maybe (renamed_maybe names m)

-- read so, as a tree of this normal form
abbrev pub Reads : Tables → (Tokens → Tree → Type 0) → Tree → Tokens → Type 0
Reads names R t = Says R (SameTree names t)

-- ---- what is known at an end

pub operand_ends : (l : Last) → Operand l → Ends behind_operand l
operand_ends l o a_start h = operand_ready l o
operand_ends l o a_member h = no h
operand_ends l o an_operand h = o
operand_ends l o a_line h = no h

pub member_ends : (l : Last) → Begun l → Ends at_member l
member_ends l b a_start h = begun_ready l b
member_ends l b a_member h = b
member_ends l b an_operand h = no h
member_ends l b a_line h = no h

pub start_ends : (l : Last) → Ready l → Ends at_start l
start_ends l r a_start h = r
start_ends l r a_member h = no h
start_ends l r an_operand h = no h
start_ends l r a_line h = no h

nothing_known : (l : Last) → Ends unknown l
nothing_known l a_start h = no h
nothing_known l a_member h = no h
nothing_known l an_operand h = no h
nothing_known l a_line h = no h

-- ---- what is printed as a stretch

-- an expression
pub expression : {names : Tables} {d : End} {t : Tree} (c : Allowed) → is_good_for d a_start ≡ true → Printed names c t → (place : Place) → Adds names d (Reads names (ReadsExpression (under place c) (level_of place)) t) behind_operand (spell t place)
expression c h f place = record {
  from = λ p l z y k.
      let g = f place p l z (y a_start h) k in
      record { last = g.last; tokens = g.tokens; writes = g.writes; ends = operand_ends g.last g.operand; semicolon = g.semicolon; holds = record { reading = g.tree; reads = g.reads; same = g.same } };
}

-- on the line of what stands before it
pub record OnLine (P : Tokens → Type 0) (ts : Tokens) : Type 0 where
  pub holds : P ts
  pub line : on_same_line ts ≡ true

pub expression_on_line : {names : Tables} {d : End} {t : Tree} (c : Allowed) → is_good_for d a_start ≡ true → is_good_for d a_line ≡ true → Printed names c t → (place : Place) → Adds names d (OnLine (Reads names (ReadsExpression (under place c) (level_of place)) t)) behind_operand (spell t place)
expression_on_line c h i f place = record {
  from = λ p l z y k.
      let g = f place p l z (y a_start h) k in
      record { last = g.last; tokens = g.tokens; writes = g.writes; ends = operand_ends g.last g.operand; semicolon = g.semicolon; holds = record { holds = record { reading = g.tree; reads = g.reads; same = g.same }; line = g.line (y a_line i) } };
}

-- a member of a list, or what stands within brackets
pub element : {names : Tables} {d : End} {R : Tokens → Tree → Type 0} (items : Items) (t : Tree) → is_good_for d a_member ≡ true → GivesElement names R items t → Adds names d (Reads names R t) behind_operand items
element items t h f = record {
  from = λ p l z y k.
      let g = f p l z (y a_member h) k in
      record { last = g.last; tokens = g.tokens; writes = g.writes; ends = operand_ends g.last g.operand; semicolon = g.semicolon; holds = record { reading = g.tree; reads = g.reads; same = g.same } };
}

pub inside : {names : Tables} {d : End} {X : Type 0} {R : Tokens → X → Type 0} {Same : X → Type 0} (items : Items) → is_good_for d a_start ≡ true → InsideAt names R Same items → Adds names d (Says R Same) unknown items
inside items h f = record {
  from = λ p l z y k.
      let g = f p l z (y a_start h) k in
      record { last = g.last; tokens = g.tokens; writes = g.writes; ends = nothing_known g.last; semicolon = g.semicolon; holds = record { reading = g.reading; reads = g.reads; same = g.same } };
}

-- ---- what a stretch gives

pub gives_element : {names : Tables} {R : Tokens → Tree → Type 0} {e : End} (items : Items) (t : Tree) → is_good_for e an_operand ≡ true → Adds names at_member (Reads names R t) e items → GivesElement names R items t
gives_element items t h f p l z b k =
    let x = f.from p l z (member_ends l b) k in
    record { last = x.last; tokens = x.tokens; writes = x.writes; operand = x.ends an_operand h; semicolon = x.semicolon; tree = x.holds.reading; reads = x.holds.reads; same = x.holds.same }

pub gives_inside : {names : Tables} {X : Type 0} {R : Tokens → X → Type 0} {Same : X → Type 0} {e : End} (items : Items) → Adds names at_start (Says R Same) e items → InsideAt names R Same items
gives_inside items f p l z y k =
    let x = f.from p l z (start_ends l y) k in
    record { last = x.last; tokens = x.tokens; writes = x.writes; semicolon = x.semicolon; reading = x.holds.reading; reads = x.holds.reads; same = x.holds.same }

-- without its end
pub gives_unended : {names : Tables} {X : Type 0} {R : Bool → Tokens → X → Type 0} {Same : X → Type 0} {e : End} (items : Items) → is_good_for e a_start ≡ true → Adds names at_start (Says (λ ts x. ending.Ends (λ last us. R last us x) true ts) Same) e items → UnendedAt names R Same items
gives_unended items h f p l z y k =
    let x = f.from p l z (start_ends l y) k in
    record { last = x.last; tokens = x.tokens; writes = x.writes; ready = x.ends a_start h; semicolon = x.semicolon; reading = x.holds.reading; reads = x.holds.reads; same = x.holds.same }
