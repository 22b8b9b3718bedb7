-- Where no two fields of a type have one name, a field that has the name at its place is the first that has it.
use Rattle.std.proofs.Common.{◌≡◌, ℕ, zero, suc, ◌+◌, List, [], ◌∷◌, Bool, true, false, not, ◌&&◌, ◌||◌, Option, Some, None, slice_get, refl, sym, ap, subst, arith, ◌∙◌, true≢false, if◌then◌else◌}
use Rattle.std.proofs.lemmas.Slice.Eq.{bytes_eq-Decides}
use Rattle.std.specs.Str.{bytes_eq}
use Rattle.serde_json.specs.Data.{Data}
use Rattle.jsgen_flat.specs.Flat.{Sections, Shaped, word, word_data}
use Rattle.jsgen_flat.specs.Views.{given_by, given_at}

abbrev pub has_field : List ℕ → List Shaped → Bool
has_field name [] = false
has_field name (f ∷ fs) = bytes_eq name f.name || has_field name fs

-- no two fields have one name
abbrev pub are_apart : List Shaped → Bool
are_apart [] = true
are_apart (f ∷ fs) = not (has_field f.name fs) && are_apart fs

first_apart : (a b : Bool) → (not a && b) ≡ true → a ≡ false
first_apart false b h = refl
first_apart true b h = absurd (true≢false (sym h))

others_apart : (a b : Bool) → (not a && b) ≡ true → b ≡ true
others_apart false b h = h
others_apart true b h = absurd (true≢false (sym h))

-- what gives a value has the name
here_or_behind : (b has : Bool) (first : Data) (others : Option Data) (d : Data) → (others ≡ Some d → has ≡ true) → (if b then Some first else others) ≡ Some d → (b || has) ≡ true
here_or_behind true has first others d behind h = refl
here_or_behind false has first others d behind h = behind h

named : (p : Sections) (name : List ℕ) (n : ℕ) (fs : List Shaped) (d : Data) → given_by p name n fs ≡ Some d → has_field name fs ≡ true
named p name n [] d h = absurd (cc)
named p name n (f ∷ fs) d h = here_or_behind (bytes_eq name f.name) (has_field name fs) (word_data p f.shape (word p.rows n)) (given_by p name (suc n) fs) d (named p name (suc n) fs d) h

-- a name that a field behind the first has isn't the first's
other : (name label : List ℕ) (fs : List Shaped) (b : Bool) → bytes_eq name label ≡ b → has_field name fs ≡ true → has_field label fs ≡ false → b ≡ false
other name label fs false e there gone = refl
other name label fs true e there gone = absurd (true≢false (sym there ∙ ap (λ s. has_field s fs) ((bytes_eq-Decides name label).0 e) ∙ gone))

chosen : (b : Bool) (first o : Option Data) → b ≡ false → (if b then first else o) ≡ o
chosen false first o h = refl
chosen true first o h = absurd (true≢false h)

first : (b : Bool) (given : Data) (o : Option Data) (d : Data) → (if b then Some given else None) ≡ Some d → (if b then Some given else o) ≡ Some d
first true given o d h = h
first false given o d h = absurd (cc)

pub placed : (p : Sections) (name : List ℕ) (n : ℕ) (fs : List Shaped) (i m : ℕ) (d : Data) → m ≡ i + n → are_apart fs ≡ true → given_at p name m (slice_get fs i) ≡ Some d → given_by p name n fs ≡ Some d
placed p name n [] i m d e apart h = h
placed p name n (f ∷ fs) zero m d e apart h =
    let here : m ≡ n = omega arith in
    first (bytes_eq name f.name) (word_data p f.shape (word p.rows n)) (given_by p name (suc n) fs) d (subst (λ k. given_at p name k (Some f) ≡ Some d) here h)
placed p name n (f ∷ fs) (suc i) m d e apart h =
    let on : m ≡ i + suc n = omega arith in
    let behind : given_by p name (suc n) fs ≡ Some d = placed p name (suc n) fs i m d on (others_apart (has_field f.name fs) (are_apart fs) apart) h in
    chosen (bytes_eq name f.name) (Some (word_data p f.shape (word p.rows n))) (given_by p name (suc n) fs) (other name f.name fs _ refl (named p name (suc n) fs d behind) (first_apart (has_field f.name fs) (are_apart fs) apart)) ∙ behind
