-- What stands under a name of a row is what the first field of that name is given.
use Rattle.std.proofs.Common.{◌≡◌, ℕ, suc, ◌+◌, codes, map, List, [], ◌∷◌, Bool, true, false, Option, Some, None, slice_get, refl, sym, ap, ◌∙◌, if◌then◌else◌}
use Rattle.std.specs.Str.{bytes_eq}
use Rattle.std.specs.Ordering.{nat_cmp, match_ordering, is_eq}
use Rattle.std.specs.declared.cmp.Ordering.{Ordering}
use Rattle.std.specs.declared.cmp.Ordering.TheVariants.{Less, Equal, Greater}
use Rattle.std.specs.Cmp.Lexicographic.{slice_cmp}
use Rattle.std.proofs.lemmas.Map.Text.{is_eq-slice_cmp}
use Rattle.serde_json.specs.Data.{Data, string, Members, no_members, member}
use Rattle.serde_json.specs.Find.{get, get_member}
use Rattle.jsgen_tree.specs.declared.types.NodeType.{NodeType}
use Rattle.jsgen_tree.specs.Fields.{fields}
use Rattle.jsgen_flat.specs.Names.{type_name}
use Rattle.jsgen_flat.specs.Flat.{Sections, Shaped, shaped, word, word_data, span_data, members_from, row_data}
use Rattle.jsgen_flat.specs.Views.{given_at, given_by}
use Rattle.jsgen_flat.proofs.FieldNames.{apart}
use Rattle.jsgen_flat.proofs.Placed.{placed}

abbrev pub or_else : Option Data → Option Data → Option Data
or_else None o = o
or_else (Some d) o = Some d

chosen : {A : Type 0} (o : Ordering) (x y : A) → match_ordering o x y x ≡ (if is_eq o then y else x)
chosen Less x y = refl
chosen Equal x y = refl
chosen Greater x y = refl

-- a member is found, or what is found behind it
one_more : (name label : List ℕ) (d : Data) (ms : Members) → get_member name (member label d ms) ≡ (if bytes_eq name label then Some d else get_member name ms)
one_more name label d ms =
    chosen (slice_cmp nat_cmp name label) (get_member name ms) (Some d)
    ∙ ap (λ b. if b then Some d else get_member name ms) (is_eq-slice_cmp name label)

first : (b : Bool) (d : Data) (o p : Option Data) → (if b then Some d else or_else o p) ≡ or_else (if b then Some d else o) p
first true d o p = refl
first false d o p = refl

among : (p : Sections) (name : List ℕ) (n : ℕ) (fs : List Shaped) (others : Members) → get_member name (members_from p n fs others) ≡ or_else (given_by p name n fs) (get_member name others)
among p name n [] others = refl
among p name n (f ∷ fs) others =
    one_more name f.name (word_data p f.shape (word p.rows n)) (members_from p (suc n) fs others)
    ∙ ap (λ o. if bytes_eq name f.name then Some (word_data p f.shape (word p.rows n)) else o) (among p name (suc n) fs others)
    ∙ first (bytes_eq name f.name) (word_data p f.shape (word p.rows n)) (given_by p name (suc n) fs) (get_member name others)

-- the type and the span, behind the fields
abbrev pub beside : Sections → NodeType → ℕ → List ℕ → Option Data
beside p type n name = if bytes_eq name (codes "type") then Some (string (type_name type)) else if bytes_eq name (codes "span") then Some (span_data (word p.rows (n + 1)) (word p.rows (n + 2))) else None

two_more : (p : Sections) (type : NodeType) (n : ℕ) (name : List ℕ) → get_member name (member (codes "type") (string (type_name type)) (member (codes "span") (span_data (word p.rows (n + 1)) (word p.rows (n + 2))) no_members)) ≡ beside p type n name
two_more p type n name =
    one_more name (codes "type") (string (type_name type)) (member (codes "span") (span_data (word p.rows (n + 1)) (word p.rows (n + 2))) no_members)
    ∙ ap (λ o. if bytes_eq name (codes "type") then Some (string (type_name type)) else o) (one_more name (codes "span") (span_data (word p.rows (n + 1)) (word p.rows (n + 2))) no_members)

pub named : (p : Sections) (type : NodeType) (n : ℕ) (name : List ℕ) → get name (row_data p type n) ≡ or_else (given_by p name (n + 3) (map shaped (fields type))) (beside p type n name)
unfolding row_data
named p type n name =
    among p name (n + 3) (map shaped (fields type)) (member (codes "type") (string (type_name type)) (member (codes "span") (span_data (word p.rows (n + 1)) (word p.rows (n + 2))) no_members))
    ∙ ap (λ o. or_else (given_by p name (n + 3) (map shaped (fields type))) o) (two_more p type n name)

-- the same, by the place of a field that has the name
pub by_place : (p : Sections) (type : NodeType) (n : ℕ) (name : List ℕ) (i : ℕ) (d : Data) → given_at p name (i + (n + 3)) (slice_get (map shaped (fields type)) i) ≡ Some d → Some d ≡ get name (row_data p type n)
by_place p type n name i d h =
    sym (named p type n name ∙ ap (λ o. or_else o (beside p type n name)) (placed p name (n + 3) (map shaped (fields type)) i _ d refl (apart type) h))
