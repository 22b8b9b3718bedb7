-- Lists of a pattern: members with commas between, of which some may be left out, and what takes the rest.
use Rattle.std.proofs.Common.{◌≡◌, Bool, false, refl, ap}
use Rattle.jsgen_tree.specs.Job.{Tables}
use Rattle.jsgen_tree.specs.Tree.{Tree, Maybe, absent, given, Trees, no_trees, more, hole}
use Rattle.jsgen_model.specs.Punctuator.{comma}
use Rattle.jsgen_model.specs.Tokens.{Tokens, done, piece, ◌⧺◌, Sign}
use Rattle.jsgen_model.specs.Items.{Items, ◌⊕◌, punctuator, soft_space}
use Rattle.jsgen_model.specs.Layout.{layout}
use Rattle.jsgen_model.specs.Normal.{normal_maybe, normal_trees}
use Rattle.jsgen_model.specs.Renamed.{renamed, renamed_maybe, renamed_trees}
use Rattle.jsgen_model.specs.Spell.{spell, spell_elements, spell_list, spell_if_given, behind_elements, comma_between}
use Rattle.jsgen_place.specs.declared.place.Place.{Place}
use Rattle.jsgen_row_laws.proofs.Lists.{same_more}
use Rattle.jsgen_row_laws.proofs.Adds.{at_member, behind_operand, unknown, Is, is, Nothing, none, ◌⨟◌, ◌&◌, Says, Adds, ◌⨾◌, read, forget, at_comma, laid, past, comma_sign, empty, spaced}
use Rattle.jsgen_row_laws.proofs.Parts.{Reads}

-- how such a list is read, by how its members are, and what takes the rest
pub record Joins (R Rest : Tokens → Tree → Type 0) (L : Tokens → Trees → Maybe → Type 0) : Type 0 where
  pub nothing_there : L done no_trees absent
  pub last : (ts : Tokens) (t : Tree) → R ts t → L ts (more t no_trees) absent
  pub first : (mark : Bool) (a b : Tokens) (t : Tree) (us : Trees) (r : Maybe) → R a t → L b us r → L (a ⧺ piece mark (Sign comma) b) (more t us) r
  pub rest : (ts : Tokens) (t : Tree) → Rest ts t → L ts no_trees (given t)

-- where members may be left out
abbrev pub Skips : (Tokens → Trees → Maybe → Type 0) → Type 0
Skips L = (mark : Bool) (b : Tokens) (us : Trees) (r : Maybe) → L b us r → L (piece mark (Sign comma) b) (hole us) r

-- read so, as members and a rest of these normal forms
abbrev pub Row : Tables → (Tokens → Trees → Maybe → Type 0) → Trees → Maybe → Tokens → Type 0
Row names L ts m = Says {X = Trees × Maybe} (λ us x. L us x.0 x.1) (λ x. (normal_trees x.0 ≡ normal_trees (renamed_trees names ts)) × (normal_maybe x.1 ≡ normal_maybe (renamed_maybe names m)))

-- each member is printed so, and what takes the rest
abbrev pub Each : Tables → (Tokens → Tree → Type 0) → Place → Trees → Type 0
Each names R place no_trees = Unit {0}
Each names R place (more t ts) = Adds names at_member (Reads names R t) behind_operand (spell t place) × Each names R place ts
Each names R place (hole ts) = Each names R place ts

abbrev pub IfGiven : Tables → (Tokens → Tree → Type 0) → Place → Maybe → Type 0
IfGiven names R place absent = Unit {0}
IfGiven names R place (given t) = Adds names at_member (Reads names R t) behind_operand (spell t place)

-- ---- what is read

row_none : (names : Tables) {R Rest : Tokens → Tree → Type 0} (L : Tokens → Trees → Maybe → Type 0) → Joins R Rest L → {ts : Tokens} → Nothing ts → Row names L no_trees absent ts
row_none names L j none = record { reading = (no_trees, absent); reads = j.nothing_there; same = (refl, refl) }

row_rest : (names : Tables) {R : Tokens → Tree → Type 0} (Rest : Tokens → Tree → Type 0) (L : Tokens → Trees → Maybe → Type 0) (t : Tree) → Joins R Rest L → {ts : Tokens} → Reads names Rest t ts → Row names L no_trees (given t) ts
row_rest names Rest L t j {ts} r = record { reading = (no_trees, given r.reading); reads = j.rest ts r.reading r.reads; same = (refl, ap (λ u. given u) r.same) }

row_last : (names : Tables) (R : Tokens → Tree → Type 0) {Rest : Tokens → Tree → Type 0} (L : Tokens → Trees → Maybe → Type 0) (t : Tree) → Joins R Rest L → {ts : Tokens} → Reads names R t ts → Row names L (more t no_trees) absent ts
row_last names R L t j {ts} r = record { reading = (more r.reading no_trees, absent); reads = j.last ts r.reading r.reads; same = (ap (λ u. more u no_trees) r.same, refl) }

row_first : (names : Tables) (R : Tokens → Tree → Type 0) {Rest : Tokens → Tree → Type 0} (L : Tokens → Trees → Maybe → Type 0) (t : Tree) (ts : Trees) (m : Maybe) → Joins R Rest L → {us : Tokens} → (Reads names R t ⨟ (Is (Sign comma) ⨟ Row names L ts m)) us → Row names L (more t ts) m us
row_first names R L t ts m j (◌&◌ {a = a} r (◌&◌ {b = b} (is mark) s)) = record { reading = (more r.reading s.reading.0, s.reading.1); reads = j.first mark a b r.reading s.reading.0 s.reading.1 r.reads s.reads; same = (same_more r.reading (renamed names t) s.reading.0 (renamed_trees names ts) r.same s.same.0, s.same.1) }

row_hole : (names : Tables) (L : Tokens → Trees → Maybe → Type 0) (ts : Trees) (m : Maybe) → Skips L → {us : Tokens} → (Is (Sign comma) ⨟ Row names L ts m) us → Row names L (hole ts) m us
row_hole names L ts m skip (◌&◌ {b = b} (is mark) s) = record { reading = (hole s.reading.0, s.reading.1); reads = skip mark b s.reading.0 s.reading.1 s.reads; same = (ap (λ us. hole us) s.same.0, s.same.1) }

row_last_hole : (names : Tables) {R Rest : Tokens → Tree → Type 0} (L : Tokens → Trees → Maybe → Type 0) → Joins R Rest L → Skips L → {us : Tokens} → Is (Sign comma) us → Row names L (hole no_trees) absent us
row_last_hole names L j skip (is mark) = record { reading = (hole no_trees, absent); reads = skip mark done no_trees absent j.nothing_there; same = (refl, refl) }

-- ---- with members that may be left out

abbrev pub elements_items : Trees → Maybe → Place → Items
elements_items ts m place = spell_elements false ts place ⊕ behind_elements ts m (spell_if_given m place)

-- of two, what stands behind the list doesn't depend on the first
behind_more : (t : Tree) (u : Tree) (us : Trees) (m : Maybe) (i : Items) → behind_elements (more t (more u us)) m i ≡ behind_elements (more u us) m i
behind_more t u us absent i = refl
behind_more t u us (given r) i = refl

behind_hole : (t : Tree) (us : Trees) (m : Maybe) (i : Items) → behind_elements (more t (hole us)) m i ≡ behind_elements (hole us) m i
behind_hole t us absent i = refl
behind_hole t us (given r) i = refl

hole_more : (u : Tree) (us : Trees) (m : Maybe) (i : Items) → behind_elements (hole (more u us)) m i ≡ behind_elements (more u us) m i
hole_more u us absent i = refl
hole_more u us (given r) i = refl

hole_hole : (us : Trees) (m : Maybe) (i : Items) → behind_elements (hole (hole us)) m i ≡ behind_elements (hole us) m i
hole_hole us absent i = refl
hole_hole us (given r) i = refl

-- what is printed so is printed so behind a comma and a space
next : {names : Tables} {P : Tokens → Type 0} {i : Items} → Adds names at_member P unknown i → Adds names behind_operand (Is (Sign comma) ⨟ P) unknown (punctuator comma ⊕ (soft_space ⊕ i))
next f = comma_sign ⨾ spaced (at_comma f)

pub elements : {names : Tables} (R Rest : Tokens → Tree → Type 0) (L : Tokens → Trees → Maybe → Type 0) → Joins R Rest L → Skips L → (place : Place) (ts : Trees) (m : Maybe) → Each names R place ts → IfGiven names Rest place m → Adds names at_member (Row names L ts m) unknown (elements_items ts m place)
elements {names} R Rest L j skip place no_trees absent f g = forget (read (λ us r. row_none names L j r) (past (λ p. refl) empty))
elements {names} R Rest L j skip place no_trees (given r) f g = forget (read (λ us x. row_rest names Rest L r j x) (past (λ p. refl) (past (λ p. refl) g)))
elements {names} R Rest L j skip place (more t no_trees) absent f g = forget (read (λ us r. row_last names R L t j r) (laid (spell t place) (elements_items (more t no_trees) absent place) (λ p e. refl) f.0))
elements {names} R Rest L j skip place (more t no_trees) (given r) f g =
    read (λ us x. row_first names R L t no_trees (given r) j x) (laid (spell t place ⊕ (punctuator comma ⊕ (soft_space ⊕ spell r place))) (elements_items (more t no_trees) (given r) place) (λ p e. refl) (f.0 ⨾ next (forget (read (λ us x. row_rest names Rest L r j x) g))))
elements {names} R Rest L j skip place (more t (more u us)) m f g =
    read (λ vs x. row_first names R L t (more u us) m j x) (laid (spell t place ⊕ (punctuator comma ⊕ (soft_space ⊕ elements_items (more u us) m place))) (elements_items (more t (more u us)) m place) (λ p e. ap (λ b. layout b (layout (spell_elements false (more t (more u us)) place) p)) (behind_more t u us m (spell_if_given m place)))
    (f.0 ⨾ next (elements R Rest L j skip place (more u us) m f.1 g)))
elements {names} R Rest L j skip place (more t (hole us)) m f g =
    read (λ vs x. row_first names R L t (hole us) m j x) (laid (spell t place ⊕ (punctuator comma ⊕ (soft_space ⊕ elements_items (hole us) m place))) (elements_items (more t (hole us)) m place) (λ p e. ap (λ b. layout b (layout (spell_elements false (more t (hole us)) place) p)) (behind_hole t us m (spell_if_given m place)))
    (f.0 ⨾ next (elements R Rest L j skip place (hole us) m f.1 g)))
elements {names} R Rest L j skip place (hole no_trees) absent f g = forget (read (λ us r. row_last_hole names L j skip r) (past (λ p. refl) comma_sign))
elements {names} R Rest L j skip place (hole no_trees) (given r) f g = read (λ us x. row_hole names L no_trees (given r) skip x) (laid (punctuator comma ⊕ (soft_space ⊕ spell r place)) (elements_items (hole no_trees) (given r) place) (λ p e. refl) (comma_sign ⨾ spaced (at_comma (forget (read (λ us x. row_rest names Rest L r j x) g)))))
elements {names} R Rest L j skip place (hole (more u us)) m f g =
    read (λ vs x. row_hole names L (more u us) m skip x) (laid (punctuator comma ⊕ (soft_space ⊕ elements_items (more u us) m place)) (elements_items (hole (more u us)) m place) (λ p e. ap (λ b. layout b (layout (spell_elements false (hole (more u us)) place) p)) (hole_more u us m (spell_if_given m place)))
    (comma_sign ⨾ spaced (at_comma (elements R Rest L j skip place (more u us) m f g))))
elements {names} R Rest L j skip place (hole (hole us)) m f g =
    read (λ vs x. row_hole names L (hole us) m skip x) (laid (punctuator comma ⊕ (soft_space ⊕ elements_items (hole us) m place)) (elements_items (hole (hole us)) m place) (λ p e. ap (λ b. layout b (layout (spell_elements false (hole (hole us)) place) p)) (hole_hole us m (spell_if_given m place)))
    (comma_sign ⨾ spaced (at_comma (elements R Rest L j skip place (hole us) m f g))))

-- ---- without

-- each member is printed so, and none is left out
abbrev pub Every : Tables → (Tokens → Tree → Type 0) → Place → Trees → Type 0
Every names R place no_trees = Unit {0}
Every names R place (more t ts) = Adds names at_member (Reads names R t) behind_operand (spell t place) × Every names R place ts
Every names R place (hole ts) = ⊥

abbrev pub properties_items : Trees → Maybe → Place → Items
properties_items ts m place = spell_list ts place ⊕ (comma_between ts m ⊕ spell_if_given m place)

between_more : (t u : Tree) (us : Trees) (m : Maybe) → comma_between (more t (more u us)) m ≡ comma_between (more u us) m
between_more t u us absent = refl
between_more t u us (given r) = refl

pub properties : {names : Tables} (R Rest : Tokens → Tree → Type 0) (L : Tokens → Trees → Maybe → Type 0) → Joins R Rest L → (place : Place) (ts : Trees) (m : Maybe) → Every names R place ts → IfGiven names Rest place m → Adds names at_member (Row names L ts m) unknown (properties_items ts m place)
properties {names} R Rest L j place no_trees absent f g = forget (read (λ us r. row_none names L j r) (past (λ p. refl) (past (λ p. refl) empty)))
properties {names} R Rest L j place no_trees (given r) f g = forget (read (λ us x. row_rest names Rest L r j x) (past (λ p. refl) (past (λ p. refl) g)))
properties {names} R Rest L j place (more t no_trees) absent f g = forget (read (λ us r. row_last names R L t j r) (laid (spell t place) (properties_items (more t no_trees) absent place) (λ p e. refl) f.0))
properties {names} R Rest L j place (more t no_trees) (given r) f g =
    read (λ us x. row_first names R L t no_trees (given r) j x) (laid (spell t place ⊕ (punctuator comma ⊕ (soft_space ⊕ spell r place))) (properties_items (more t no_trees) (given r) place) (λ p e. refl) (f.0 ⨾ next (forget (read (λ us x. row_rest names Rest L r j x) g))))
properties {names} R Rest L j place (more t (more u us)) m f g =
    read (λ vs x. row_first names R L t (more u us) m j x) (laid (spell t place ⊕ (punctuator comma ⊕ (soft_space ⊕ properties_items (more u us) m place))) (properties_items (more t (more u us)) m place) (λ p e. ap (λ b. layout (b ⊕ spell_if_given m place) (layout (spell_list (more t (more u us)) place) p)) (between_more t u us m))
    (f.0 ⨾ next (properties R Rest L j place (more u us) m f.1 g)))
properties R Rest L j place (hole ts) m f g = absurd f
properties R Rest L j place (more t (hole us)) m f g = absurd f.1
