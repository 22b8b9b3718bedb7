-- Licences, each once: the wordings that were seen.
use Rattle.std.proofs.Common.{◌≡◌, ℕ, ◌+◌, ◌<◌, ◌≤◌, Bool, true, false, cond, not, ◌||◌, if◌then◌else◌, List, [], ◌∷◌, ◌++◌, map, reverse, length, drop, get_or, drop_of_length-le, drop-cons, add-one, String, string_bytes, bytes_eq, refl, sym, ap, subst, ◌∙◌, append_assoc, append-nil}
use Rattle.std.specs.declared.alloc.Global.{Global}
use Rattle.std.specs.Bool.{OnFalse}
use Rattle.std.specs.BTreeMap.{is_at}
use Rattle.std.specs.BTreeSet as sorted
use Rattle.std.specs.BTreeSet.{BTreeSet, contains_text}
use Rattle.std.specs.Cmp.Lexicographic.{slice_cmp}
use Rattle.std.specs.List.{filter, list_any}
use Rattle.std.specs.Ordering.{nat_cmp}
use Rattle.std.specs.Str.{chars, IsUtf8}
use Rattle.std.specs.String.{string_cmp}
use Rattle.std.proofs.lemmas.Bool.{both_ways, false_from_ne_true, not-false, not-true, OnFalse_at}
use Rattle.std.proofs.lemmas.List.{map-append, reverse-append}
use Rattle.std.proofs.lemmas.Map.Text.{btree_set_updates_text}
use Rattle.std.proofs.lemmas.Slice.Eq.{bytes_eq-Decides}
use Rattle.std.proofs.lemmas.Str.{IsUtf8-string_bytes}
use Rattle.jsgen_tree.specs.Characters.{characters}
use Rattle.jsgen_tree.specs.Rows.{comment_row}
use Rattle.jsgen_tree.specs.Tree.{Atoms, atoms_of, trees}
use Rattle.jsgen_tree.specs.Values.{comment_content}
use Rattle.jsgen_tree.specs.declared.statements.Comment as tree
use Rattle.jsgen_tree.proofs.Texts.{same_characters}
use Rattle.jsgen_model.specs.Ends.{firsts, is_seen, rows_of, wording}
use Rattle.jsgen_model.specs.Groups.{is_legal}
use Rattle.jsgen_comments.specs.Plain.{comment_plain}

abbrev pub atoms : List tree.Comment → List Atoms
atoms cs = map (λ c. atoms_of (comment_row c)) cs

-- the licences among some comments
abbrev pub legal : List tree.Comment → List Atoms
legal cs = filter (λ a. is_legal (comment_content a)) (rows_of (trees (map comment_row cs)))

-- the wordings of some comments, the last first
abbrev pub wordings : List ℕ → List tree.Comment → List (List ℕ)
wordings source cs = reverse (map (λ c. wording (comment_plain source c)) cs)

-- a set has the bytes of these wordings
abbrev pub HasWordings : BTreeSet (String Global) → List (List ℕ) → Type 0
HasWordings set seen = (bs : List ℕ) → IsUtf8 bs → contains_text set bs ≡ is_seen seen (chars bs)

same_way : (a b : List ℕ) → bytes_eq a b ≡ bytes_eq b a
same_way a b = go (bytes_eq a b) refl
  where
    go : (x : Bool) → bytes_eq a b ≡ x → x ≡ bytes_eq b a
    go true e = sym ((bytes_eq-Decides b a).1 (sym ((bytes_eq-Decides a b).0 e)))
    go false e = sym (false_from_ne_true (bytes_eq b a) (λ h. both_ways (bytes_eq a b) e ((bytes_eq-Decides a b).1 (sym ((bytes_eq-Decides b a).0 h)))))

either : (b s : Bool) → cond b true s ≡ (b || s)
either true s = refl
either false s = refl

-- the keys alone tell what a set has
same_keys : (old new : BTreeSet (String Global)) (bs : List ℕ) → new.keys ≡ old.keys → contains_text new bs ≡ contains_text old bs
same_keys old new bs e = ap (λ ks. list_any (is_at (λ (k : String Global). slice_cmp nat_cmp bs (string_bytes k))) ks) e

pub none_seen : (set : BTreeSet (String Global)) → set.keys ≡ [] → HasWordings set []
none_seen set e = λ bs u. ap (λ ks. list_any (is_at (λ (k : String Global). slice_cmp nat_cmp bs (string_bytes k))) ks) e

-- one more wording
one_more : (old new : BTreeSet (String Global)) (w : String Global) (seen : List (List ℕ)) → HasWordings old seen → sorted.Updates string_cmp old new w true → HasWordings new (characters w ∷ seen)
one_more old new w seen has updates = λ bs u.
    btree_set_updates_text (string_bytes w) old new true updates bs
    ∙ (either (bytes_eq (string_bytes w) bs) (contains_text old bs)
    ∙ (ap (λ b. b || contains_text old bs) (same_way (string_bytes w) bs ∙ sym (same_characters bs (string_bytes w) u (IsUtf8-string_bytes w)))
    ∙ ap (λ b. bytes_eq (chars bs) (characters w) || b) (has bs u)))

grown : (source : List ℕ) (cs : List tree.Comment) (c : tree.Comment) → wordings source (cs ++ c ∷ []) ≡ wording (comment_plain source c) ∷ wordings source cs
grown source cs c =
    let each = λ (d : tree.Comment). wording (comment_plain source d) in
    ap reverse (map-append each cs (c ∷ [])) ∙ reverse-append (map each cs) (each c ∷ [])

-- ---- a step of the loop

-- what was found of some licences, where these are left and the set has the wordings of those that were
pub record IsSoFar (source : List ℕ) (all : List Atoms) (set : BTreeSet (String Global)) (found : List tree.Comment) (rest : List Atoms) : Type 0 where
  pub seen : HasWordings set (wordings source found)
  pub found_then : atoms found ++ firsts source (wordings source found) rest ≡ all

legal_one : (c : tree.Comment) (cs : List tree.Comment) → is_legal c.content ≡ true → legal (c ∷ cs) ≡ atoms_of (comment_row c) ∷ legal cs
legal_one c cs e = ap (λ b. cond b (atoms_of (comment_row c) ∷ legal cs) (legal cs)) e

other_one : (c : tree.Comment) (cs : List tree.Comment) → is_legal c.content ≡ false → legal (c ∷ cs) ≡ legal cs
other_one c cs e = ap (λ b. cond b (atoms_of (comment_row c) ∷ legal cs) (legal cs)) e

seen_one : (source : List ℕ) (seen : List (List ℕ)) (c : tree.Comment) (rest : List Atoms) → is_seen seen (wording (comment_plain source c)) ≡ true → firsts source seen (atoms_of (comment_row c) ∷ rest) ≡ firsts source seen rest
seen_one source seen c rest e = ap (λ b. if b then firsts source seen rest else atoms_of (comment_row c) ∷ firsts source (wording (comment_plain source c) ∷ seen) rest) e

new_one : (source : List ℕ) (seen : List (List ℕ)) (c : tree.Comment) (rest : List Atoms) → is_seen seen (wording (comment_plain source c)) ≡ false → firsts source seen (atoms_of (comment_row c) ∷ rest) ≡ atoms_of (comment_row c) ∷ firsts source (wording (comment_plain source c) ∷ seen) rest
new_one source seen c rest e = ap (λ b. if b then firsts source seen rest else atoms_of (comment_row c) ∷ firsts source (wording (comment_plain source c) ∷ seen) rest) e

next : (cs : List tree.Comment) (i : ℕ) (d : tree.Comment) → i < length cs → drop i cs ≡ get_or cs i d ∷ drop (i + 1) cs
next cs i d l = drop-cons cs i d l ∙ ap (λ n. get_or cs i d ∷ drop n cs) (sym (add-one i))

-- before a licence
before_legal : {source : List ℕ} {all : List Atoms} {set : BTreeSet (String Global)} {found : List tree.Comment} (cs : List tree.Comment) (i : ℕ) (d : tree.Comment) → i < length cs → is_legal (get_or cs i d).content ≡ true → IsSoFar source all set found (legal (drop i cs)) → IsSoFar source all set found (atoms_of (comment_row (get_or cs i d)) ∷ legal (drop (i + 1) cs))
before_legal {source} {all} {set} {found} cs i d l yes_legal h = record {
  seen = h.seen;
  found_then = ap (λ x. atoms found ++ firsts source (wordings source found) x) (sym (ap legal (next cs i d l) ∙ legal_one (get_or cs i d) (drop (i + 1) cs) yes_legal)) ∙ h.found_then;
}

-- past another comment
pub past_other : {source : List ℕ} {all : List Atoms} {set : BTreeSet (String Global)} {found : List tree.Comment} (cs : List tree.Comment) (i : ℕ) (d : tree.Comment) → i < length cs → is_legal (get_or cs i d).content ≡ false → IsSoFar source all set found (legal (drop i cs)) → IsSoFar source all set found (legal (drop (i + 1) cs))
past_other {source} {all} {set} {found} cs i d l not_legal h = record {
  seen = h.seen;
  found_then = ap (λ x. atoms found ++ firsts source (wordings source found) x) (sym (ap legal (next cs i d l) ∙ other_one (get_or cs i d) (drop (i + 1) cs) not_legal)) ∙ h.found_then;
}

is_known : (source : List ℕ) (set : BTreeSet (String Global)) (key : String Global) (seen : List (List ℕ)) (c : tree.Comment) → HasWordings set seen → characters key ≡ wording (comment_plain source c) → contains_text set (string_bytes key) ≡ is_seen seen (wording (comment_plain source c))
is_known source set key seen c has is = has (string_bytes key) (IsUtf8-string_bytes key) ∙ ap (is_seen seen) is

-- past a licence that was found
past_known : {source : List ℕ} {all : List Atoms} {old new : BTreeSet (String Global)} {found : List tree.Comment} (rest : List Atoms) (key : String Global) (c : tree.Comment) → characters key ≡ wording (comment_plain source c) → contains_text old (string_bytes key) ≡ true → new.keys ≡ old.keys → IsSoFar source all old found (atoms_of (comment_row c) ∷ rest) → IsSoFar source all new found rest
past_known {source} {all} {old} {new} {found} rest key c is known keys h =
    let seen = wordings source found in
    record {
      seen = λ bs u. same_keys old new bs keys ∙ h.seen bs u;
      found_then = ap (λ x. atoms found ++ x) (sym (seen_one source seen c rest (sym (is_known source old key seen c h.seen is) ∙ known))) ∙ h.found_then;
    }

-- past a new one
past_new : {source : List ℕ} {all : List Atoms} {old new : BTreeSet (String Global)} {found more : List tree.Comment} (rest : List Atoms) (key : String Global) (c : tree.Comment) → characters key ≡ wording (comment_plain source c) → contains_text old (string_bytes key) ≡ false → sorted.Updates string_cmp old new key true → more ≡ found ++ c ∷ [] → IsSoFar source all old found (atoms_of (comment_row c) ∷ rest) → IsSoFar source all new more rest
past_new {source} {all} {old} {new} {found} {more} rest key c is known updates push h =
    let seen = wordings source found in
    let a = atoms_of (comment_row c) in
    let w = wording (comment_plain source c) in
    let now : wordings source more ≡ w ∷ seen = ap (wordings source) push ∙ grown source found c in
    let one : atoms more ≡ atoms found ++ a ∷ [] = ap atoms push ∙ map-append (λ (d : tree.Comment). atoms_of (comment_row d)) found (c ∷ []) in
    record {
      seen = subst (HasWordings new) (ap (λ x. x ∷ seen) is ∙ sym now) (one_more old new key seen h.seen updates);
      found_then = ap (λ x. x ++ firsts source (wordings source more) rest) one
          ∙ (ap (λ x. (atoms found ++ a ∷ []) ++ firsts source x rest) now
          ∙ (append_assoc (atoms found) (a ∷ []) (firsts source (w ∷ seen) rest)
          ∙ (ap (λ x. atoms found ++ x) (sym (new_one source seen c rest (sym (is_known source old key seen c h.seen is) ∙ known))) ∙ h.found_then)));
    }

-- the same, at an index
pub past_known_at : {source : List ℕ} {all : List Atoms} {old new : BTreeSet (String Global)} {found : List tree.Comment} (cs : List tree.Comment) (i : ℕ) (d : tree.Comment) (key : String Global) (added : Bool) → i < length cs → is_legal (get_or cs i d).content ≡ true → characters key ≡ wording (comment_plain source (get_or cs i d)) → added ≡ not (contains_text old (string_bytes key)) → added ≡ false → OnFalse added (new.keys ≡ old.keys) → IsSoFar source all old found (legal (drop i cs)) → IsSoFar source all new found (legal (drop (i + 1) cs))
past_known_at {source} {all} {old} {new} {found} cs i d key added l yes_legal is tells no_news keys h = past_known (legal (drop (i + 1) cs)) key (get_or cs i d) is (not-false (contains_text old (string_bytes key)) (sym tells ∙ no_news)) (OnFalse_at no_news keys) (before_legal cs i d l yes_legal h)

pub past_new_at : {source : List ℕ} {all : List Atoms} {old new : BTreeSet (String Global)} {found more : List tree.Comment} (cs : List tree.Comment) (i : ℕ) (d : tree.Comment) (key : String Global) (added : Bool) → i < length cs → is_legal (get_or cs i d).content ≡ true → characters key ≡ wording (comment_plain source (get_or cs i d)) → added ≡ not (contains_text old (string_bytes key)) → added ≡ true → sorted.Updates string_cmp old new key true → more ≡ found ++ get_or cs i d ∷ [] → IsSoFar source all old found (legal (drop i cs)) → IsSoFar source all new more (legal (drop (i + 1) cs))
past_new_at {source} {all} {old} {new} {found} {more} cs i d key added l yes_legal is tells news updates push h = past_new (legal (drop (i + 1) cs)) key (get_or cs i d) is (not-true (contains_text old (string_bytes key)) (sym tells ∙ news)) updates push (before_legal cs i d l yes_legal h)

-- before the first comment, and behind the last
pub none_yet : (source : List ℕ) (cs : List tree.Comment) (set : BTreeSet (String Global)) (found : List tree.Comment) → set.keys ≡ [] → found ≡ [] → IsSoFar source (firsts source [] (legal cs)) set found (legal cs)
none_yet source cs set found none empty = record {
  seen = subst (λ x. HasWordings set (wordings source x)) (sym empty) (none_seen set none);
  found_then = ap (λ x. atoms x ++ firsts source (wordings source x) (legal cs)) empty;
}

pub all_found : {source : List ℕ} {all : List Atoms} {set : BTreeSet (String Global)} {found : List tree.Comment} (cs : List tree.Comment) (i : ℕ) → length cs ≤ i → IsSoFar source all set found (legal (drop i cs)) → atoms found ≡ all
all_found {source} {all} {set} {found} cs i end h = sym (append-nil (atoms found)) ∙ (ap (λ x. atoms found ++ firsts source (wordings source found) (legal x)) (sym (drop_of_length-le cs end)) ∙ h.found_then)

-- with the same values
pub moved : {source : List ℕ} {all : List Atoms} {set same : BTreeSet (String Global)} {found more : List tree.Comment} {rest : List Atoms} → same ≡ set → more ≡ found → IsSoFar source all set found rest → IsSoFar source all same more rest
moved {source} {all} {set} {same} {found} {more} {rest} a b h = subst (λ s. IsSoFar source all s more rest) (sym a) (subst (λ cs. IsSoFar source all set cs rest) (sym b) h)
