-- The innermost class that holds a name gives its new name.
use Rattle.std.proofs.Common.{◌≡◌, ℕ, Bool, true, false, ◌||◌, cond, if◌then◌else◌, List, [], ◌∷◌, Option, Some, None, is_some, map, String, string_bytes, refl, sym, ap, ◌∙◌, subst}
use Rattle.std.specs.declared.alloc.Global.{Global}
use Rattle.std.specs.List.{list_any, slice_get}
use Rattle.std.specs.Map.{lookup}
use Rattle.std.specs.BTreeMap.{BTreeMap}
use Rattle.std.specs.Option.{option_and_then, option_or, option_map, option_map_or}
use Rattle.std.specs.Str.{bytes_eq, chars, IsUtf8}
use denote.Ref.{Bor}
use Rattle.std.proofs.lemmas.Option.{slice_get-map}
use Rattle.std.proofs.lemmas.Str.{IsUtf8-string_bytes}
use Rattle.jsgen_tree.specs.Characters.{characters}
use Rattle.jsgen_tree.specs.Scoping.{private_plain}
use Rattle.jsgen_tree.specs.declared.scoping.PrivateMappings.{PrivateMappings}
use Rattle.jsgen_tree.proofs.Texts.{same_characters}
use Rattle.jsgen_model.specs.Private.{name_in, private_name_by}
use Rattle.jsgen_printer.specs.Owners.{holding, names_of, names_in, held_in}

either : (a b : Bool) (x y : Option ℕ) → cond b x (cond a x y) ≡ cond (a || b) x y
either true true x y = refl
either true false x y = refl
either false true x y = refl
either false false x y = refl

lookup_holding : (w : List ℕ) (ns : List (List ℕ)) (class : ℕ) (held : List (List ℕ × ℕ)) → lookup (bytes_eq w) (holding ns class held) ≡ cond (list_any (bytes_eq w) ns) (Some class) (lookup (bytes_eq w) held)
lookup_holding w [] class held = refl
lookup_holding w (n ∷ ns) class held = lookup_holding w ns class ((n, class) ∷ held) ∙ either (bytes_eq w n) (list_any (bytes_eq w) ns) (Some class) (lookup (bytes_eq w) held)

-- a table has a new name for the names that it holds
held_name : (w : List ℕ) → IsUtf8 w → (es : List (String Global × String Global)) → is_some (name_in (map (λ e. (characters e.0, characters e.1)) es) (chars w)) ≡ list_any (bytes_eq w) (names_of es)
held_name w u [] = refl
held_name w u (e ∷ es) = rw (same_characters w (string_bytes e.0) u (IsUtf8-string_bytes e.0)) (by (held_name w u es) (bytes_eq w (string_bytes e.0)))
  where
    by : is_some (name_in (map (λ e. (characters e.0, characters e.1)) es) (chars w)) ≡ list_any (bytes_eq w) (names_of es) → (b : Bool) → is_some (if b then Some (characters e.1) else name_in (map (λ e. (characters e.0, characters e.1)) es) (chars w)) ≡ (b || list_any (bytes_eq w) (names_of es))
    by rest true = refl
    by rest false = rest

-- the new name in the table of a class
abbrev pub new_name_in : PrivateMappings → List ℕ → ℕ → Option (List ℕ)
new_name_in m name class = option_and_then (λ table. name_in table name) (slice_get (private_plain m) class)

abbrev table_plain : BTreeMap (String Global) (String Global) → List (List ℕ × List ℕ)
table_plain table = map (λ e. (characters e.0, characters e.1)) table.entries

held_there : (m : Bor PrivateMappings) (w : List ℕ) → IsUtf8 w → (class : ℕ) → is_some (new_name_in m.now (chars w) class) ≡ list_any (bytes_eq w) (names_in (Some m) class)
held_there m w u class = ap (λ o. is_some (option_and_then (λ table. name_in table (chars w)) o)) (slice_get-map table_plain m.now.classes.items class) ∙ by (slice_get m.now.classes.items class)
  where
    by : (o : Option (BTreeMap (String Global) (String Global))) → is_some (option_and_then (λ table. name_in table (chars w)) (option_map table_plain o)) ≡ list_any (bytes_eq w) (option_map_or (λ (t : BTreeMap (String Global) (String Global)). names_of t.entries) o [])
    by None = refl
    by (Some t) = held_name w u t.entries

chosen : (f : ℕ → Option (List ℕ)) (class : ℕ) (holds : Bool) (own : Option (List ℕ)) (owner : Option ℕ) (rest : Option (List ℕ)) → f class ≡ own → is_some own ≡ holds → rest ≡ option_and_then f owner → option_or own rest ≡ option_and_then f (cond holds (Some class) owner)
chosen f class holds (Some v) owner rest is e h = subst (λ b. Some v ≡ option_and_then f (cond b (Some class) owner)) e (sym is)
chosen f class holds None owner rest is e h = subst (λ b. rest ≡ option_and_then f (cond b (Some class) owner)) e h

pub innermost : (m : Bor PrivateMappings) (w : List ℕ) → IsUtf8 w → (classes : List ℕ) → private_name_by (private_plain m.now) classes (chars w) ≡ option_and_then (new_name_in m.now (chars w)) (lookup (bytes_eq w) (held_in (Some m) classes))
innermost m w u [] = refl
innermost m w u (c ∷ cs) =
    chosen (new_name_in m.now (chars w)) c (list_any (bytes_eq w) (names_in (Some m) c)) (new_name_in m.now (chars w) c) (lookup (bytes_eq w) (held_in (Some m) cs)) (private_name_by (private_plain m.now) cs (chars w)) refl (held_there m w u c) (innermost m w u cs)
    ∙ ap (option_and_then (new_name_in m.now (chars w))) (sym (lookup_holding w (names_in (Some m) c) c (held_in (Some m) cs)))
