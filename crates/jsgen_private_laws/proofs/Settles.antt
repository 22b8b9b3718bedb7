-- How items settle, joined from how their parts do.
use Rattle.std.proofs.Common.{◌≡◌, ℕ, suc, List, Bool, true, false, ◌&&◌, if◌then◌else◌, refl, ap, ◌∙◌}
use Rattle.std.proofs.lemmas.Bool.{both_ways, and_parts}
use Rattle.jsgen_tree.specs.Named.{Named}
use Rattle.jsgen_model.specs.Punctuator.{Bracket}
use Rattle.jsgen_model.specs.Items.{Items, AnnotatedCall, OnlyStatement, ◌⊕◌, Opener, Lines, private_name, deeper, in_class, brackets, wrapped, wrapped_at_start, parentheses_unless_minified, unless_minified, where_same, held, lined_case, caught, annotated, commented, in_lines}
use Rattle.jsgen_model.specs.Layout.{are_printed_alike}
use Rattle.jsgen_private_laws.proofs.Settled.{Scope, inside, after_items, settled}

-- where the next class has the first number, the first items are the second ones when they are settled, and behind them the next class has the last number
pub record Settles (s : Scope) (n : ℕ) (i j : Items) (m : ℕ) : Type 0 where
  pub is : settled s n i ≡ j
  pub next : after_items s i n ≡ m

-- ---- items without private names and classes

abbrev pub is_still : Items → Bool
is_still (private_name span w) = false
is_still (in_class i) = false
is_still (a ⊕ b) = is_still a && is_still b
is_still (deeper i) = is_still i
is_still (brackets b i) = is_still i
is_still (wrapped test i) = is_still i
is_still (wrapped_at_start test opener i) = is_still i
is_still (parentheses_unless_minified i) = is_still i
is_still (unless_minified i) = is_still i
is_still (where_same m k a b) = is_still a && is_still b
is_still (held offset i) = is_still i
is_still (lined_case only i) = is_still i
is_still (caught start body i) = is_still i
is_still (annotated call i) = is_still i
is_still (commented offset i) = is_still i
is_still (in_lines lines starts end i) = is_still i
is_still i = true

one_of : {A : Type 0} (b : Bool) {x y z : A} → x ≡ z → y ≡ z → (if b then x else y) ≡ z
one_of true e f = e
one_of false e f = f

-- ---- the parts of items

pub both : {s : Scope} {n m o : ℕ} {i j k l : Items} → Settles s n i j m → Settles s m k l o → Settles s n (i ⊕ k) (j ⊕ l) o
both {s} {n} {m} {o} {i} {j} {k} {l} e f = record { is = (λ t. e.is t ⊕ settled s (e.next t) k) ∙ ap (λ x. j ⊕ x) f.is; next = ap (after_items s k) e.next ∙ f.next }

-- the same items, and the same number
pub becomes : {s : Scope} {n m : ℕ} {i j k : Items} → Settles s n i j m → j ≡ k → Settles s n i k m
becomes e f = record { is = e.is ∙ f; next = e.next }

pub counts : {s : Scope} {n m o : ℕ} {i j : Items} → Settles s n i j m → m ≡ o → Settles s n i j o
counts e f = record { is = e.is; next = e.next ∙ f }

pub deeper_settles : {s : Scope} {n m : ℕ} {i j : Items} → Settles s n i j m → Settles s n (deeper i) (deeper j) m
deeper_settles e = record { is = ap deeper e.is; next = e.next }

pub brackets_settle : {s : Scope} {n m : ℕ} {i j : Items} (b : Bracket) → Settles s n i j m → Settles s n (brackets b i) (brackets b j) m
brackets_settle b e = record { is = ap (brackets b) e.is; next = e.next }

pub wrapped_settles : {s : Scope} {n m : ℕ} {i j : Items} (test : Bool) → Settles s n i j m → Settles s n (wrapped test i) (wrapped test j) m
wrapped_settles test e = record { is = ap (wrapped test) e.is; next = e.next }

pub at_start_settles : {s : Scope} {n m : ℕ} {i j : Items} (test : Bool) (opener : Opener) → Settles s n i j m → Settles s n (wrapped_at_start test opener i) (wrapped_at_start test opener j) m
at_start_settles test opener e = record { is = ap (wrapped_at_start test opener) e.is; next = e.next }

pub parentheses_settle : {s : Scope} {n m : ℕ} {i j : Items} → Settles s n i j m → Settles s n (parentheses_unless_minified i) (parentheses_unless_minified j) m
parentheses_settle e = record { is = ap parentheses_unless_minified e.is; next = e.next }

-- what may be left out has no class
pub left_out_settles : {s : Scope} {n : ℕ} {i j : Items} → Settles s n i j n → Settles s n (unless_minified i) (unless_minified j) n
left_out_settles {s} e = record { is = ap unless_minified e.is; next = one_of s.minified refl e.next }

pub where_same_settles : {s : Scope} {n m : ℕ} {i j k l : Items} (x y : Named) → Settles s n i j m → Settles s n k l m → Settles s n (where_same x y i k) (where_same x y j l) m
where_same_settles {s} x y e f = record { is = λ t. where_same x y (e.is t) (f.is t); next = one_of (are_printed_alike s.tables x y) e.next f.next }

pub in_class_settles : {s : Scope} {n m : ℕ} {i j : Items} → Settles (inside s n) (suc n) i j m → Settles s n (in_class i) (in_class j) m
in_class_settles e = record { is = ap in_class e.is; next = e.next }

pub held_settles : {s : Scope} {n m : ℕ} {i j : Items} (offset : ℕ) → Settles s n i j m → Settles s n (held offset i) (held offset j) m
held_settles offset e = record { is = ap (held offset) e.is; next = e.next }

pub lined_settles : {s : Scope} {n m : ℕ} {i j : Items} (only : OnlyStatement) → Settles s n i j m → Settles s n (lined_case only i) (lined_case only j) m
lined_settles only e = record { is = ap (lined_case only) e.is; next = e.next }

pub caught_settles : {s : Scope} {n m : ℕ} {i j : Items} (start body : ℕ) → Settles s n i j m → Settles s n (caught start body i) (caught start body j) m
caught_settles start body e = record { is = ap (caught start body) e.is; next = e.next }

pub annotated_settles : {s : Scope} {n m : ℕ} {i j : Items} (call : AnnotatedCall) → Settles s n i j m → Settles s n (annotated call i) (annotated call j) m
annotated_settles call e = record { is = ap (annotated call) e.is; next = e.next }

pub commented_settles : {s : Scope} {n m : ℕ} {i j : Items} (offset : ℕ) → Settles s n i j m → Settles s n (commented offset i) (commented offset j) m
commented_settles offset e = record { is = ap (commented offset) e.is; next = e.next }

pub in_lines_settle : {s : Scope} {n m : ℕ} {i j : Items} (lines : Lines) (starts : List ℕ) (end : ℕ) → Settles s n i j m → Settles s n (in_lines lines starts end i) (in_lines lines starts end j) m
in_lines_settle lines starts end e = record { is = ap (in_lines lines starts end) e.is; next = e.next }

-- ---- items without private names and classes are settled as they are

pub still : {s : Scope} {n : ℕ} (i : Items) → is_still i ≡ true → Settles s n i i n
still (private_name span w) e = absurd (both_ways false refl e)
still (in_class i) e = absurd (both_ways false refl e)
still (a ⊕ b) e = let p = and_parts (is_still a) (is_still b) e in both (still a p.0) (still b p.1)
still (deeper i) e = deeper_settles (still i e)
still (brackets b i) e = brackets_settle b (still i e)
still (wrapped test i) e = wrapped_settles test (still i e)
still (wrapped_at_start test opener i) e = at_start_settles test opener (still i e)
still (parentheses_unless_minified i) e = parentheses_settle (still i e)
still (unless_minified i) e = left_out_settles (still i e)
still (where_same m k a b) e = let p = and_parts (is_still a) (is_still b) e in where_same_settles m k (still a p.0) (still b p.1)
still (held offset i) e = held_settles offset (still i e)
still (lined_case only i) e = lined_settles only (still i e)
still (caught start body i) e = caught_settles start body (still i e)
still (annotated call i) e = annotated_settles call (still i e)
still (commented offset i) e = commented_settles offset (still i e)
still (in_lines lines starts end i) e = in_lines_settle lines starts end (still i e)
still i e = record { is = refl; next = refl }

-- items that say of themselves that they are still
pub plain : {s : Scope} {n : ℕ} {i : Items} → is_still i ≡ true → Settles s n i i n
plain {s} {n} {i} e = still i e

-- behind, or before, items that are
pub before : {s : Scope} {n m : ℕ} {i k l : Items} → is_still i ≡ true → Settles s n k l m → Settles s n (i ⊕ k) (i ⊕ l) m
before e f = both (plain e) f

pub behind : {s : Scope} {n m : ℕ} {i j k : Items} → Settles s n i j m → is_still k ≡ true → Settles s n (i ⊕ k) (j ⊕ k) m
behind e f = both e (plain f)
