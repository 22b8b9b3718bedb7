-- Lists with commas between their members, in the form that composes, and braces round them.
use Rattle.std.proofs.Common.{Bool, refl, ap}
use Rattle.jsgen_tree.specs.Job.{Tables}
use Rattle.jsgen_tree.specs.Tree.{Tree, Trees, no_trees, more, hole}
use Rattle.jsgen_model.specs.Punctuator.{comma, Brace}
use Rattle.jsgen_model.specs.Tokens.{Tokens, done, piece, ◌⧺◌, Sign}
use Rattle.jsgen_model.specs.Items.{◌⊕◌, punctuator, soft_space}
use Rattle.jsgen_model.specs.Renamed.{renamed, renamed_trees}
use Rattle.jsgen_place.specs.declared.place.Place.{Place}
use Rattle.jsgen_model.specs.Spell.{spell, spell_list, spaced_braces}
use Rattle.jsgen_row_laws.proofs.Lists.{same_more}
use Rattle.jsgen_row_laws.proofs.Stands.{SameTrees}
use Rattle.jsgen_row_laws.proofs.Adds.{End, at_member, behind_token, unknown, Is, is, Nothing, none, Within, ◌⨟◌, ◌&◌, Says, Adds, ◌⨾◌, read, forget, at_comma, at_token, laid, comma_sign, empty, spaced, before_space, bracketed}
use Rattle.jsgen_row_laws.proofs.Parts.{Reads}
use Rattle.jsgen_row_laws.proofs.Rests.{Every}

-- how a list is read by how its members are: it is empty, one member, or a member, a comma and a list
pub record Listing (R : Tokens → Tree → Type 0) (L : Tokens → Trees → Type 0) : Type 0 where
  pub nothing_there : L done no_trees
  pub last : (ts : Tokens) (t : Tree) → R ts t → L ts (more t no_trees)
  pub first : (mark : Bool) (a b : Tokens) (t : Tree) (us : Trees) → R a t → L b us → L (a ⧺ piece mark (Sign comma) b) (more t us)

-- read so, as trees of these normal forms
abbrev pub ReadsAll : Tables → (Tokens → Trees → Type 0) → Trees → Tokens → Type 0
ReadsAll names L ts = Says L (SameTrees names ts)

list_none : (names : Tables) {R : Tokens → Tree → Type 0} (L : Tokens → Trees → Type 0) → Listing R L → {ts : Tokens} → Nothing ts → ReadsAll names L no_trees ts
list_none names L j none = record { reading = no_trees; reads = j.nothing_there; same = refl }

list_last : (names : Tables) (R : Tokens → Tree → Type 0) (L : Tokens → Trees → Type 0) (t : Tree) → Listing R L → {ts : Tokens} → Reads names R t ts → ReadsAll names L (more t no_trees) ts
list_last names R L t j {ts} r = record { reading = more r.reading no_trees; reads = j.last ts r.reading r.reads; same = ap (λ u. more u no_trees) r.same }

list_first : (names : Tables) (R : Tokens → Tree → Type 0) (L : Tokens → Trees → Type 0) (t : Tree) (ts : Trees) → Listing R L → {us : Tokens} → (Reads names R t ⨟ (Is (Sign comma) ⨟ ReadsAll names L ts)) us → ReadsAll names L (more t ts) us
list_first names R L t ts j (◌&◌ {a = a} r (◌&◌ {b = b} (is mark) s)) = record { reading = more r.reading s.reading; reads = j.first mark a b r.reading s.reading r.reads s.reads; same = same_more r.reading (renamed names t) s.reading (renamed_trees names ts) r.same s.same }

pub comma_list : {names : Tables} (R : Tokens → Tree → Type 0) (L : Tokens → Trees → Type 0) → Listing R L → (place : Place) (ts : Trees) → Every names R place ts → Adds names at_member (ReadsAll names L ts) unknown (spell_list ts place)
comma_list {names} R L j place no_trees f = forget (read (λ us r. list_none names L j r) empty)
comma_list {names} R L j place (more t no_trees) f = forget (read (λ us r. list_last names R L t j r) (laid (spell t place) (spell_list (more t no_trees) place) (λ p e. refl) f.0))
comma_list {names} R L j place (more t (more u us)) f =
    read (λ vs r. list_first names R L t (more u us) j r) (laid (spell t place ⊕ (punctuator comma ⊕ (soft_space ⊕ spell_list (more u us) place))) (spell_list (more t (more u us)) place) (λ p e. refl)
    (f.0 ⨾ (comma_sign ⨾ spaced (at_comma (comma_list R L j place (more u us) f.1)))))
comma_list R L j place (more t (hole us)) f = absurd f.1
comma_list R L j place (hole ts) f = absurd f

-- in braces with a space on each side, or in empty ones
pub list_in_braces : {names : Tables} {d : End} (R : Tokens → Tree → Type 0) (L : Tokens → Trees → Type 0) → Listing R L → (place : Place) (ts : Trees) → Every names R place ts → Adds names d (Within Brace (ReadsAll names L ts)) behind_token (spaced_braces ts (spell_list ts place))
list_in_braces {names} R L j place no_trees f = bracketed Brace (read (λ us r. list_none names L j r) empty)
list_in_braces R L j place (more t ts) f = bracketed Brace (spaced (before_space (at_token (comma_list R L j place (more t ts) f))))
list_in_braces R L j place (hole ts) f = absurd f
