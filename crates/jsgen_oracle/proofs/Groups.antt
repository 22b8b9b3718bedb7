-- Rows that begin with a group, and those that begin with another token.
use Rattle.std.proofs.Common.{◌≡◌, ℕ, Bool, true, false, cond, ◌==◌, Option, Some, None, List, [], ◌∷◌, ◌++◌, drop, refl, sym, ap, ◌∙◌, subst}
use Rattle.std.proofs.lemmas.Bool.{both_ways, eqb-true}
use Rattle.std.proofs.lemmas.List.{append_cancel_left}
use Rattle.jsgen_model.specs.Punctuator.{Bracket, Round, Square, Brace, opening, closing}
use Rattle.jsgen_model.specs.Tokens.{Tokens, done, piece, group, Piece, text_behind}
use Rattle.jsgen_token_laws.proofs.Characters.{behind_itself}
use Rattle.jsgen_token_laws.proofs.OneList.{one_piece, opening_char, opened, same_bracket, piece_or_group}
use Rattle.jsgen_oracle.specs.Steps.{StandsAt, HasNoPiece, opening_at, ends_row, behind_blanks, mark_at, IsRow, HasNoRow}
use Rattle.jsgen_oracle.proofs.Signs.{text_split}
use Rattle.jsgen_oracle.proofs.Rows.{one_row}

-- ---- brackets

cond_some : {A : Type 0} (b : Bool) (x y : A) (o : Option A) (P : A → Type 0) → (b ≡ true → P x) → (o ≡ Some y → P y) → cond b (Some x) o ≡ Some y → P y
cond_some true x y o P f g e = let same : x ≡ y = cc in subst P same (f refl)
cond_some false x y o P f g e = g e

pub opening_start : (text : List ℕ) (b : Bracket) → opening_at text ≡ Some b → text ≡ opening b ++ drop 1 text
opening_start [] b e = absurd (cc)
opening_start (c ∷ cs) b e =
    cond_some (c == 40) Round b _ (λ d. c ∷ cs ≡ opening d ++ cs) (λ h. ap (λ x. x ∷ cs) (eqb-true c 40 h)) (λ f. cond_some (c == 91) Square b _ (λ d. c ∷ cs ≡ opening d ++ cs) (λ h. ap (λ x. x ∷ cs) (eqb-true c 91 h)) (λ g. cond_some (c == 123) Brace b None (λ d. c ∷ cs ≡ opening d ++ cs) (λ h. ap (λ x. x ∷ cs) (eqb-true c 123 h)) (λ k. absurd (cc)) g) f) e

opening_found : (b : Bracket) (x : List ℕ) → opening_at (opening b ++ x) ≡ Some b
opening_found Round x = refl
opening_found Square x = refl
opening_found Brace x = refl

opening_goes_on : (b : Bracket) (x : List ℕ) → ends_row (opening b ++ x) ≡ false
opening_goes_on Round x = refl
opening_goes_on Square x = refl
opening_goes_on Brace x = refl

opened_text : (b : Bracket) (x : List ℕ) → opening b ++ x ≡ opening_char b ∷ x
opened_text b x = ap (λ t. t ++ x) (opened b)

-- ---- a group

pub record GroupRow (line : Bool) (b : Bracket) (inner rest : List ℕ) : Type 0 where
  pub inside : Tokens
  pub others : Tokens
  pub behind : List ℕ
  pub inside_row : IsRow (mark_at false inner) (behind_blanks inner) inside (closing b ++ behind)
  pub others_row : IsRow (mark_at false behind) (behind_blanks behind) others rest

-- a row that an opening bracket begins begins with a group
group_row : (line : Bool) (b : Bracket) (inner : List ℕ) (ts : Tokens) (rest : List ℕ) → IsRow line (opening b ++ inner) ts rest → GroupRow line b inner rest
group_row line b inner done rest h = absurd (both_ways (ends_row rest) (subst (λ t. ends_row t ≡ false) h.0 (opening_goes_on b inner)) h.1)
group_row line b inner (piece m p ts) rest h = let s = h.2 in absurd (piece_or_group p b h.0 inner s.plain s.spelled (sym s.text_is ∙ opened_text b inner))
group_row line b inner (group m d inside ts) rest h =
    let e : opening_char b ∷ inner ≡ opening_char d ∷ h.0 = sym (opened_text b inner) ∙ (h.3 ∙ opened_text d h.0) in
    let f : opening_char b ≡ opening_char d = cc in
    let g : inner ≡ h.0 = cc in
    let same : b ≡ d = same_bracket b d f in
    let found : GroupRow line d h.0 rest = record { inside = inside; others = ts; behind = h.1; inside_row = h.4; others_row = h.5 } in
    subst (λ x. GroupRow line b x rest) (sym g) (subst (λ x. GroupRow line x h.0 rest) (sym same) found)

pub no_inside : (line : Bool) (b : Bracket) (inner : List ℕ) → HasNoRow (mark_at false inner) (behind_blanks inner) → HasNoRow line (opening b ++ inner)
no_inside line b inner none ts rest h = let g = group_row line b inner ts rest h in none g.inside (closing b ++ g.behind) g.inside_row

pub not_closed : (line : Bool) (b : Bracket) (inner : List ℕ) (us : Tokens) (x : List ℕ) → IsRow (mark_at false inner) (behind_blanks inner) us x → text_behind (closing b) x ≡ None → HasNoRow line (opening b ++ inner)
not_closed line b inner us x r e ts rest h =
    let g = group_row line b inner ts rest h in
    let same = one_row us g.inside false inner x (closing b ++ g.behind) r g.inside_row in
    let found = behind_itself (closing b) g.behind in
    let k : None ≡ Some g.behind = sym e ∙ (ap (λ t. text_behind (closing b) t) same ∙ found) in
    absurd (cc)

pub nothing_behind : (line : Bool) (b : Bracket) (inner : List ℕ) (us : Tokens) (x behind : List ℕ) → IsRow (mark_at false inner) (behind_blanks inner) us x → text_behind (closing b) x ≡ Some behind → HasNoRow (mark_at false behind) (behind_blanks behind) → HasNoRow line (opening b ++ inner)
nothing_behind line b inner us x behind r e none ts rest h =
    let g = group_row line b inner ts rest h in
    let same = one_row us g.inside false inner x (closing b ++ g.behind) r g.inside_row in
    let k : closing b ++ behind ≡ closing b ++ g.behind = sym (text_split (closing b) x behind e) ∙ same in
    let m : behind ≡ g.behind = append_cancel_left (closing b) behind g.behind k in
    none g.others rest (subst (λ t. IsRow (mark_at false t) (behind_blanks t) g.others rest) (sym m) g.others_row)

pub group_stands : (line : Bool) (b : Bracket) (inner : List ℕ) (us : Tokens) (x behind : List ℕ) (ts : Tokens) (rest : List ℕ) → IsRow (mark_at false inner) (behind_blanks inner) us x → text_behind (closing b) x ≡ Some behind → IsRow (mark_at false behind) (behind_blanks behind) ts rest → IsRow line (opening b ++ inner) (group line b us ts) rest
group_stands line b inner us x behind ts rest r e o = (inner, behind, refl, refl, subst (λ t. IsRow (mark_at false inner) (behind_blanks inner) us t) (text_split (closing b) x behind e) r, o)

-- ---- another token

pub record PieceRow (text rest : List ℕ) : Type 0 where
  pub first : Piece
  pub others : Tokens
  pub behind : List ℕ
  pub stands : StandsAt text first behind
  pub others_row : IsRow (mark_at false behind) (behind_blanks behind) others rest

piece_row : (line : Bool) (text : List ℕ) (ts : Tokens) (rest : List ℕ) → ends_row text ≡ false → opening_at text ≡ None → IsRow line text ts rest → PieceRow text rest
piece_row line text done rest g o h = absurd (both_ways (ends_row rest) (subst (λ t. ends_row t ≡ false) h.0 g) h.1)
piece_row line text (piece m p ts) rest g o h = record { first = p; others = ts; behind = h.0; stands = h.2; others_row = h.3 }
piece_row line text (group m b inside ts) rest g o h =
    let k : None ≡ Some b = sym o ∙ (ap opening_at h.3 ∙ opening_found b h.0) in
    absurd (cc)

pub no_token : (line : Bool) (text : List ℕ) → ends_row text ≡ false → opening_at text ≡ None → HasNoPiece text → HasNoRow line text
no_token line text g o none ts rest h = let p = piece_row line text ts rest g o h in none p.first p.behind p.stands

pub no_others : (line : Bool) (text : List ℕ) (p : Piece) (behind : List ℕ) → ends_row text ≡ false → opening_at text ≡ None → StandsAt text p behind → HasNoRow (mark_at false behind) (behind_blanks behind) → HasNoRow line text
no_others line text p behind g o s none ts rest h =
    let q = piece_row line text ts rest g o h in
    let t = q.stands in
    let k = one_piece p q.first behind q.behind s.plain t.plain s.spelled t.spelled s.ends t.ends (sym s.text_is ∙ t.text_is) in
    none q.others rest (subst (λ x. IsRow (mark_at false x) (behind_blanks x) q.others rest) (sym k.1) q.others_row)
