-- Reading a field and a row gives what its marks and its tree say.
use Rattle.std.proofs.Common.{◌≡◌, ℕ, suc, List, [], ◌∷◌, ◌++◌, length, map, Bool, true, false, Option, Some, None, Result, Ok, Err, refl, sym, ap, ap₂, ◌∙◌, append_assoc, append-nil, if◌then◌else◌}
use Rattle.serde_json.specs.Data.{Data, null, Num, unsigned, negative, float}
use Rattle.serde_json.specs.Find.{as_number}
use Rattle.serde_json.specs.Written.{has_float}
use Rattle.jsgen_syntax.specs.declared.span.Span.{Span}
use Rattle.jsgen_tree.specs.declared.types.NodeType.{NodeType}
use Rattle.jsgen_tree.specs.declared.types.NodeSet.{NodeSet}
use Rattle.jsgen_tree.specs.Atom.{Atom, no_value}
use Rattle.jsgen_tree.specs.Tree.{Tree, trees, holed, listed}
use Rattle.jsgen_tree.specs.Table.{Sort, Presence, Field, absent_value, is_value}
use Rattle.jsgen_tree.specs.Fields.{fields}
use Rattle.jsgen_tree.specs.Table as sorts
use Rattle.jsgen_fields.specs.declared.At.{At}
use Rattle.jsgen_fields.specs.declared.InputFault.{InputFault}
use Rattle.jsgen_fields.specs.declared.InputFault.TheVariants.{Float}
use Rattle.jsgen_fields.specs.Values.{after, at, field, field_in, not_given, in_row, is_needed, items_in, value_in, type_of, span_of}
use Rattle.jsgen_pool.specs.Pool.{Entry, take_row}
use Rattle.jsgen_fields.specs.Reads.{Read, number_in, told, take_child, take_or_hole, take_each, take_given, read_children, value_or, read_value, read_field, read_fields, read_typed, read_node, read_row}
use Rattle.jsgen_fields.specs.Meaning.{Mark, number_marks, child_marks, hole_marks, each, marks_of, given_marks, field_marks, fields_marks, typed_marks, row_marks, number_tree, child_tree, child_or_hole, ok_or_else, Held, a_value, a_list, a_maybe_list, child_held, put_in, held, unread_held, field_held, fields_parts, node_of, typed_tree, row_tree, mark_faults, with_mark, with_marks, faults_in, unless}
use Rattle.jsgen_rows.proofs.Pool.{pool, taken_unless}

-- ---- what a list of marks gives, and two lists one after the other

-- the read gives x where the marks have no fault, and then what is used is what they say
abbrev pub Reads : {A : Type 0} → List Tree → List ℕ → List Mark → A → Read A → Type 0
Reads e u ms x read = read ≡ unless (faults_in e u ms) (x, pool e (with_marks u ms))

with-append : (u : List ℕ) (ms ns : List Mark) → with_marks u (ms ++ ns) ≡ with_marks (with_marks u ms) ns
with-append u [] ns = refl
with-append u (m ∷ ms) ns = with-append (with_mark u m) ms ns

faults-append : (e : List Tree) (u : List ℕ) (ms ns : List Mark) → faults_in e u (ms ++ ns) ≡ faults_in e u ms ++ faults_in e (with_marks u ms) ns
faults-append e u [] ns = refl
faults-append e u (m ∷ ms) ns = ap (λ fs. mark_faults e u m ++ fs) (faults-append e (with_mark u m) ms ns) ∙ sym (append_assoc (mark_faults e u m) (faults_in e (with_mark u m) ms) (faults_in e (with_marks (with_mark u m) ms) ns))

unless-after : {A B : Type 0} (fs gs : List InputFault) (a : A) (b : B) (g : A → Result B InputFault) → g a ≡ unless gs b → after (unless fs a) g ≡ unless (fs ++ gs) b
unless-after [] gs a b g h = h
unless-after (f ∷ fs) gs a b g h = refl

unless-map : {A B : Type 0} (fs : List InputFault) (a : A) (g : A → B) → after (unless fs a) (λ x. Ok (g x)) ≡ unless fs (g a)
unless-map [] a g = refl
unless-map (f ∷ fs) a g = refl

pub then_read : {A B : Type 0} (e : List Tree) (u : List ℕ) (ms ns : List Mark) (x : A) (y : B) (r : Read A) (g : A × List Entry → Read B)
    → Reads e u ms x r → Reads e (with_marks u ms) ns y (g (x, pool e (with_marks u ms))) → Reads e u (ms ++ ns) y (after r g)
then_read e u ms ns x y r g h i =
    ap (λ z. after z g) h
    ∙ unless-after (faults_in e u ms) (faults_in e (with_marks u ms) ns) (x, pool e (with_marks u ms)) (y, pool e (with_marks (with_marks u ms) ns)) g i
    ∙ ap₂ (λ fs w. unless fs (y, pool e w)) (sym (faults-append e u ms ns)) (sym (with-append u ms ns))

pub then_map : {A B : Type 0} (e : List Tree) (u : List ℕ) (ms : List Mark) (x : A) (r : Read A) (f : A → B) → Reads e u ms x r → Reads e u ms (f x) (after r (λ p. Ok (f p.0, p.1)))
then_map e u ms x r f h = ap (λ z. after z (λ p. Ok (f p.0, p.1))) h ∙ unless-map (faults_in e u ms) (x, pool e (with_marks u ms)) (λ p. (f p.0, p.1))

-- ---- children

numbered : (e : List Tree) (u : List ℕ) (a : At) (s : NodeSet) (o : Option Num) → Reads e u (number_marks a s o) (number_tree e o) (after (number_in a o) (λ c. told a (take_row s c (pool e u))))
numbered e u a s None = refl
numbered e u a s (Some (unsigned c)) = taken_unless a s c e u ∙ ap (λ fs. unless fs (number_tree e (Some (unsigned c)), pool e (c ∷ u))) (sym (append-nil _))
numbered e u a s (Some (negative z)) = refl
numbered e u a s (Some (float x)) = refl

a_child_read : (e : List Tree) (u : List ℕ) (a : At) (s : NodeSet) (d : Data) → Reads e u (child_marks a s d) (child_tree e d) (take_child a s d (pool e u))
a_child_read e u a s d = numbered e u a s (as_number d)

hole_read : (e : List Tree) (u : List ℕ) (a : At) (s : NodeSet) (d : Data) → Reads e u (hole_marks a s d) (child_or_hole e d) (take_or_hole a s d (pool e u))
hole_read e u a s null = refl
hole_read e u a s d = then_map e u (child_marks a s d) (child_tree e d) (take_child a s d (pool e u)) Some (a_child_read e u a s d)

-- a place of a list takes what its marks say, whatever is used before
abbrev TakesEach : {X : Type 0} → List Tree → (Data → List Mark) → (Data → X) → (Data → List Entry → Read X) → Type 0
TakesEach e f g take = (u : List ℕ) (d : Data) → Reads e u (f d) (g d) (take d (pool e u))

each_read : {X : Type 0} (e : List Tree) (f : Data → List Mark) (g : Data → X) (take : Data → List Entry → Read X) → TakesEach e f g take
    → (u : List ℕ) (done : List X) (ds : List Data) → Reads e u (each f ds) (done ++ map g ds) (take_each take done ds (pool e u))
each_read e f g take h u done [] = ap (λ x. Ok (x, pool e u)) (sym (append-nil done))
each_read e f g take h u done (d ∷ ds) =
    then_read e u (f d) (each f ds) (g d) (done ++ map g (d ∷ ds)) (take d (pool e u)) (λ t. take_each take (done ++ t.0 ∷ []) ds t.1)
    (h u d)
    (each_read e f g take h (with_marks u (f d)) (done ++ g d ∷ []) ds ∙ ap (λ x. unless (faults_in e (with_marks u (f d)) (each f ds)) (x, pool e (with_marks (with_marks u (f d)) (each f ds)))) (append_assoc done (g d ∷ []) (map g ds)))

-- ---- fields

items_read : {X : Type 0} (e : List Tree) (u : List ℕ) (f : Data → List Mark) (g : Data → X) (take : Data → List Entry → Read X) (hold : List X → Held) → TakesEach e f g take
    → (l : Result (List Data) InputFault) → Reads e u (marks_of (each f) l) (hold (map g (ok_or_else [] l))) (after l (λ ds. after (take_each take [] ds (pool e u)) (λ xs. Ok (hold xs.0, xs.1))))
items_read e u f g take hold h (Err x) = refl
items_read e u f g take hold h (Ok ds) = then_map e u (each f ds) (map g ds) (take_each take [] ds (pool e u)) hold (each_read e f g take h u [] ds)

-- the look for a float, before what is read of the value
float_read : {X : Type 0} (b : Bool) (e : List Tree) (u : List ℕ) (a : At) (o : Option Data) (f : Option Data → List Mark) (x : X) (g : Option Data → Read X)
    → Reads e u (f o) x (g o) → Reads e u (marks_of f (if b then Err (Float a) else Ok o)) x (after (if b then Err (Float a) else Ok o) g)
float_read true e u a o f x g h = refl
float_read false e u a o f x g h = h

in_field : {X : Type 0} (e : List Tree) (u : List ℕ) (a : At) (r : Bool) (o : Option Data) (f : Option Data → List Mark) (x : X) (g : Option Data → Read X)
    → Reads e u (f o) x (g o) → Reads e u (marks_of f (field_in a r o)) x (after (field_in a r o) g)
in_field e u a true None f x g h = refl
in_field e u a false None f x g h = h
in_field e u a true (Some d) f x g h = float_read (has_float d) e u a (Some d) f x g h
in_field e u a false (Some d) f x g h = float_read (has_float d) e u a (Some d) f x g h

value_read : (e : List Tree) (u : List ℕ) (v : Result Atom InputFault) → Reads e u (marks_of (λ value. []) v) (a_value (ok_or_else no_value v)) (after v (λ x. Ok (a_value x, pool e u)))
value_read e u (Ok x) = refl
value_read e u (Err f) = refl

value_given : (e : List Tree) (u : List ℕ) (a : At) (p : Presence) (s : Sort) → is_value s ≡ true → (o : Option Data)
    → Reads e u (given_marks a s o) (held e a p s o) (after (value_or (absent_value p) a s o) (λ v. Ok (a_value v, pool e u)))
value_given e u a p (sorts.child s) h o = cc
value_given e u a p (sorts.children s) h o = cc
value_given e u a p (sorts.maybe_children s) h o = cc
value_given e u a p (sorts.children_or_holes s) h o = cc
value_given e u a p sorts.unread_child h o = cc
value_given e u a p s h None = refl
value_given e u a p s h (Some d) = value_read e u (value_in a s d)

children_given : (e : List Tree) (u : List ℕ) (a : At) (p : Presence) (s : Sort) → is_value s ≡ false → (o : Option Data)
    → Reads e u (given_marks a s o) (held e a p s o) (take_given a p s o (pool e u))
children_given e u a p s h None = refl
children_given e u a p (sorts.child s) h (Some d) = then_map e u (child_marks a s d) (child_tree e d) (take_child a s d (pool e u)) (child_held p) (a_child_read e u a s d)
children_given e u a p (sorts.children s) h (Some d) = items_read e u (child_marks a s) (child_tree e) (take_child a s) (λ ts. a_list (trees ts)) (λ v x. a_child_read e v a s x) (items_in a d)
children_given e u a p (sorts.maybe_children s) h (Some d) = items_read e u (child_marks a s) (child_tree e) (take_child a s) (λ ts. a_maybe_list (listed (trees ts))) (λ v x. a_child_read e v a s x) (items_in a d)
children_given e u a p (sorts.children_or_holes s) h (Some d) = items_read e u (hole_marks a s) (child_or_hole e) (take_or_hole a s) (λ os. a_list (holed os)) (λ v x. hole_read e v a s x) (items_in a d)
children_given e u a p sorts.unread_child h (Some d) = refl
children_given e u a p s h (Some d) = cc

pub after-after : {A B C : Type 0} (r : Result A InputFault) (g : A → Result B InputFault) (f : B → Result C InputFault) → after (after r g) f ≡ after r (λ x. after (g x) f)
after-after (Ok x) g f = refl
after-after (Err e) g f = refl

-- a field that is read, with a value or with children
sort_read : (e : List Tree) (u : List ℕ) (a : At) (b : Bool) (p : Presence) (s : Sort) (o : Option Data) (v : Bool) → is_value s ≡ v
    → Reads e u (marks_of (given_marks a s) (field_in a b o)) (held e a p s o)
    (if v then after (read_value a b (absent_value p) s o) (λ x. Ok (a_value x, pool e u)) else read_children a b p s o (pool e u))
unfolding read_value read_children
sort_read e u a b p s o true h =
    after-after (field_in a b o) (value_or (absent_value p) a s) (λ x. Ok (a_value x, pool e u))
    ∙ in_field e u a b o (given_marks a s) (held e a p s o) (λ d. after (value_or (absent_value p) a s d) (λ x. Ok (a_value x, pool e u))) (value_given e u a p s h o)
sort_read e u a b p s o false h = in_field e u a b o (given_marks a s) (held e a p s o) (λ d. take_given a p s d (pool e u)) (children_given e u a p s h o)

unread_read : (e : List Tree) (u : List ℕ) (a : At) (x : Held) (o : Option Data) → Reads e u (marks_of (λ nothing. []) (not_given a o)) x (after (not_given a o) (λ _. Ok (x, pool e u)))
unfolding not_given
unread_read e u a x None = refl
unread_read e u a x (Some d) = refl

chosen_read : {X : Type 0} (e : List Tree) (u : List ℕ) (b : Bool) (ms ns : List Mark) (x y : X) (f g : Read X) → Reads e u ms x f → Reads e u ns y g
    → Reads e u (if b then ms else ns) (if b then x else y) (if b then f else g)
chosen_read e u true ms ns x y f g h i = h
chosen_read e u false ms ns x y f g h i = i

field_read : (e : List Tree) (u : List ℕ) (a : At) (f : Field) (d : Data) → Reads e u (field_marks a f d) (field_held e a f d) (read_field a f d (pool e u))
field_read e u a f d =
    chosen_read e u f.is_read _ _ _ _ _ _
    (sort_read e u a (is_needed f.presence) f.presence f.sort (field f.name d) (is_value f.sort) refl)
    (unread_read e u a (unread_held f.sort) (field f.name d))

fields_read : (e : List Tree) (u : List ℕ) (k i : ℕ) (fs : List Field) (d : Data) → Reads e u (fields_marks k i fs d) (fields_parts e k i fs d) (read_fields k i fs d (pool e u))
fields_read e u k i [] d = refl
fields_read e u k i (f ∷ fs) d =
    let g : Field = in_row d f in
    let ms : List Mark = field_marks (at k i) g d in
    let x : Held = field_held e (at k i) g d in
    then_read e u ms (fields_marks k (suc i) fs d) x (fields_parts e k i (f ∷ fs) d) (read_field (at k i) g d (pool e u)) (λ h. after (read_fields k (suc i) fs d h.1) (λ p. Ok (put_in h.0 p.0, p.1)))
    (field_read e u (at k i) g d)
    (then_map e (with_marks u ms) (fields_marks k (suc i) fs d) (fields_parts e k (suc i) fs d) (read_fields k (suc i) fs d (pool e (with_marks u ms))) (put_in x) (fields_read e (with_marks u ms) k (suc i) fs d))

-- ---- rows

typed_read : (e : List Tree) (u : List ℕ) (k : ℕ) (d : Data) (t : Result NodeType InputFault) (s : Result Span InputFault)
    → Reads e u (typed_marks k d t s) (typed_tree e k d t s) (after t (λ type. after s (λ span. read_typed k type span d (pool e u))))
unfolding read_node
typed_read e u k d (Err f) s = refl
typed_read e u k d (Ok type) (Err f) = refl
typed_read e u k d (Ok type) (Ok span) = then_map e u (fields_marks k 2 (fields type) d) (fields_parts e k 2 (fields type) d) (read_fields k 2 (fields type) d (pool e u)) (node_of type span) (fields_read e u k 2 (fields type) d)

pub row_read : (e : List Tree) (u : List ℕ) (d : Data) → Reads e u (row_marks (length e) d) (row_tree e d) (read_row (length e) d (pool e u))
row_read e u d = typed_read e u (length e) d (type_of (length e) d) (span_of (length e) d)
