-- The rows of a flat job, one by one.
use Rattle.std.proofs.Common.{◌≡◌, ◌∙◌, ℕ, zero, suc, ◌+◌, ◌-◌, ◌<◌, arith, List, [], ◌∷◌, ◌++◌, length, Option, Some, None, Result, Ok, Err, refl, sym, ap}
use Rattle.serde_json.specs.Data.{Data, null}
use Rattle.jsgen_tree.specs.declared.types.NodeType.{NodeType}
use Rattle.jsgen_tree.specs.Tree.{Tree}
use Rattle.jsgen_pool.specs.Pool.{Entry, there}
use Rattle.jsgen_flat.specs.Flat.{Sections, row_data, row_type, rows_from, rows_of, or_null, width}
use Rattle.jsgen_fields.specs.declared.InputFault.{InputFault}
use Rattle.jsgen_fields.specs.declared.InputFault.TheVariants.{Wrong}
use Rattle.jsgen_fields.specs.Values.{after, at, head, some_rows}
use Rattle.jsgen_fields.specs.Reads.{read_row, read_rows}

read_null : (es : List Entry) (k : ℕ) → length es ≡ k → read_rows (null ∷ []) es ≡ Err (Wrong (at k 0))
read_null es k e = ap (λ n. Err (Wrong (at n 0))) e

one_more : (left : ℕ) → 0 < left → left ≡ suc (left - 1)
one_more zero h = absurd (grind arith)
one_more (suc n) h = grind arith

abbrev next : Sections → ℕ → ℕ → NodeType → (Tree × List Entry) → Result (List Entry) InputFault
next p left n type = λ r. read_rows (rows_from p (left - 1) (n + width type)) (r.1 ++ there r.0 ∷ [])

-- a row that is none is refused
pub refused : (p : Sections) (left n k : ℕ) (es : List Entry) → 0 < left → length es ≡ k → None ≡ row_type p n → read_rows (rows_from p left n) es ≡ Err (Wrong (at k 0))
refused p left n k es more e none =
    ap (λ m. read_rows (rows_from p m n) es) (one_more left more)
    ∙ ap (λ o. read_rows (or_null o (λ type. row_data p type n ∷ rows_from p (left - 1) (n + width type))) es) (sym none)
    ∙ read_null es k e

-- and one that is there is read before those behind it
pub passed : (p q : Sections) (left n m k : ℕ) (es : List Entry) (type : NodeType) → 0 < left → Some type ≡ row_type p n → m ≡ n → q ≡ p → length es ≡ k
    → read_rows (rows_from p left n) es ≡ after (read_row k (row_data q type m) es) (λ r. read_rows (rows_from p (left - 1) (n + width type)) (r.1 ++ there r.0 ∷ []))
passed p q left n m k es type more some same_place same_job e =
    ap (λ r. read_rows (rows_from p r n) es) (one_more left more)
    ∙ ap (λ o. read_rows (or_null o (λ type. row_data p type n ∷ rows_from p (left - 1) (n + width type))) es) (sym some)
    ∙ ap (λ r. after (read_row r (row_data p type n) es) (next p left n type)) e
    ∙ ap (λ s. after (read_row k (row_data s type n) es) (next p left n type)) (sym same_job)
    ∙ ap (λ r. after (read_row k (row_data q type r) es) (next p left n type)) (sym same_place)

or_some : (o : Option NodeType) (f : NodeType → Data) (g : NodeType → List Data) → some_rows (or_null o (λ t. f t ∷ g t)) ≡ Ok (or_null o (λ t. f t ∷ g t))
or_some None f g = refl
or_some (Some t) f g = refl

-- there are rows where their number isn't 0
pub some_of : (p : Sections) → 0 < p.row_count → some_rows (rows_of p) ≡ Ok (rows_of p)
some_of p more =
    ap (λ m. some_rows (rows_from p m 0)) (one_more p.row_count more)
    ∙ or_some (row_type p 0) (λ t. row_data p t 0) (λ t. rows_from p (p.row_count - 1) (0 + width t))
    ∙ ap (λ m. Ok (rows_from p m 0)) (sym (one_more p.row_count more))

-- and there are none where it is 0
pub none_of : (p : Sections) → p.row_count ≡ 0 → some_rows (rows_of p) ≡ Err (Wrong (head 4))
none_of p e = ap (λ m. some_rows (rows_from p m 0)) e
