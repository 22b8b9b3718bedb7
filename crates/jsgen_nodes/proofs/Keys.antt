-- Keys of properties.
use Rattle.std.proofs.Common.{◌≡◌, ℕ, Bool, true, false, ◌&&◌, Option, Some, None, List, refl, if◌then◌else◌}
use Rattle.std.specs.Option.{option_map_or}
use Rattle.std.proofs.lemmas.Bool.{both_ways}
use Rattle.jsgen_tree.specs.Tree.{Tree, type_of, span_of}
use Rattle.jsgen_tree.specs.Nodes as tree
use Rattle.jsgen_tree.specs.Named.{Named, as_written}
use Rattle.jsgen_tree.specs.Inside.{inside_parentheses, is_proto, is_negative_number}
use Rattle.jsgen_model.specs.Punctuator.{colon}
use Rattle.jsgen_model.specs.Items.{Items, nothing, ◌⊕◌, mark, string, punctuator, soft_space, unless_minified, comments, with_key_annotation}
use Rattle.jsgen_model.specs.Spell.{string_in, key_text, items_unless, unless_said, before_value, before_bound, before_target}
use Rattle.jsgen_printer.specs.Printer.{pen_of}
use Rattle.jsgen_printer.specs.Steps.{Lays}
use Rattle.jsgen_printer.specs.declared.printer.Printer.{Printer}
use Rattle.jsgen_printer.proofs.Sequence.{where_same_laid, left_out_laid}
use Rattle.jsgen_nodes.specs.Keys.{is_string, is_number, is_said, is_value_alone, is_bound_alone, is_key_said}

pub bare_string : (t : Tree) → is_string (type_of t) ≡ true → string_in (inside_parentheses t) ≡ string_in t
bare_string (tree.parenthesized a t) h = absurd (both_ways false refl h)
bare_string t h = refl

pub no_string : (t : Tree) → is_string (type_of t) ≡ false → string_in t ≡ None
no_string (tree.string_literal a) h = absurd (both_ways true h refl)
no_string t h = refl

-- the text of a key, by the string that it is and where it stands
pub key_by_string : (t : Tree) (items : Items) → option_map_or (λ v. comments with_key_annotation (span_of t).start ⊕ (mark (span_of t) ⊕ string false v)) (string_in t) items ≡ key_text t items
key_by_string (tree.string_literal a) items = refl
key_by_string t items = refl

pub no_number : (t : Tree) → is_number (type_of t) ≡ false → false ≡ is_negative_number t
no_number (tree.numeric_literal a) h = absurd (both_ways true h refl)
no_number t h = refl

-- ---- what stands before a value, or nothing where the value alone says the key

told : {a b : Printer} (shorthand said : Bool) (items : Items) → said ≡ shorthand → Lays a b (if said then nothing else items) → Lays a b (items_unless shorthand items)
told true said items e h = rw e at h
told false said items e h = rw e at h

said_by_name : {a b : Printer} (w : List ℕ) (value : Option Named) (said : Bool) (items : Items) → said ≡ is_said (pen_of a).style.tables value w → Lays a b (if said then nothing else items) → Lays a b (unless_said w value items)
said_by_name w None said items e h = rw e at h
said_by_name w (Some value) said items e h = where_same_laid value (as_written w) nothing items said e h

said_by_key : {a b : Printer} (proto shorthand said : Bool) (w : List ℕ) (value : Option Named) (items : Items) → said ≡ (if proto then shorthand else is_said (pen_of a).style.tables value w) → Lays a b (if said then nothing else items) → Lays a b (if proto then items_unless shorthand items else unless_said w value items)
said_by_key true shorthand said w value items e h = told shorthand said items e h
said_by_key false shorthand said w value items e h = said_by_name w value said items e h

pub before_value_laid : {a b : Printer} (shorthand said : Bool) (name : Option (List ℕ)) (value : Option Named) (key : Items) → said ≡ is_value_alone (pen_of a).style.tables shorthand name value → Lays a b (if said then nothing else (key ⊕ (punctuator colon ⊕ soft_space))) → Lays a b (before_value shorthand name value key)
before_value_laid shorthand said None value key e h = rw e at h
before_value_laid shorthand said (Some w) value key e h = said_by_key (is_proto w) shorthand said w value (key ⊕ (punctuator colon ⊕ soft_space)) e h

-- the same of a property of a pattern
pub before_bound_laid : {a b : Printer} (said : Bool) (name : Option (List ℕ)) (value : Option Named) (key : Items) → said ≡ is_bound_alone (pen_of a).style.tables name value → Lays a b (if said then nothing else (key ⊕ (punctuator colon ⊕ soft_space))) → Lays a b (before_bound name value key)
before_bound_laid said None value key e h = rw e at h
before_bound_laid said (Some w) value key e h = said_by_name w value said (key ⊕ (punctuator colon ⊕ soft_space)) e h

-- ---- what stands before the target of a property, or in minified text nothing where the target alone says the key

dropped : {a b : Printer} (said : Bool) (key : Items) → true ≡ (pen_of a).style.minified → Lays a b (if said then nothing else key) → Lays a b (if said then unless_minified key else key)
dropped true key m h = left_out_laid key true m h
dropped false key m h = h

kept : {a b : Printer} (said : Bool) (key : Items) → false ≡ (pen_of a).style.minified → Lays a b key → Lays a b (if said then unless_minified key else key)
kept true key m h = left_out_laid key false m h
kept false key m h = h

left_out : {a b : Printer} (minified said : Bool) (w : List ℕ) (n : Named) (key : Items) → minified ≡ (pen_of a).style.minified → said ≡ is_said (pen_of a).style.tables (Some n) w → Lays a b (if minified && said then nothing else key) → Lays a b (before_target (Some w) (Some n) key)
left_out true said w n key m e h = where_same_laid n (as_written w) (unless_minified key) key said e (dropped said key m h)
left_out false said w n key m e h = where_same_laid n (as_written w) (unless_minified key) key said e (kept said key m h)

nothing_said : {a b : Printer} (minified said : Bool) (key : Items) → said ≡ false → Lays a b (if minified && said then nothing else key) → Lays a b key
nothing_said true said key e h = rw e at h
nothing_said false said key e h = h

before_target_by : {a b : Printer} (minified said : Bool) (name : Option (List ℕ)) (target : Option Named) (key : Items) → minified ≡ (pen_of a).style.minified → said ≡ is_key_said (pen_of a).style.tables name target → Lays a b (if minified && said then nothing else key) → Lays a b (before_target name target key)
before_target_by minified said None target key m e h = nothing_said minified said key e h
before_target_by minified said (Some w) None key m e h = nothing_said minified said key e h
before_target_by minified said (Some w) (Some n) key m e h = left_out minified said w n key m e h

pub before_target_laid : {a b : Printer} (left_out : Bool) (name : Option (List ℕ)) (target : Option Named) (key : Items) → left_out ≡ ((pen_of a).style.minified && is_key_said (pen_of a).style.tables name target) → Lays a b (if left_out then nothing else key) → Lays a b (before_target name target key)
before_target_laid {a} left_out name target key e h = before_target_by (pen_of a).style.minified (is_key_said (pen_of a).style.tables name target) name target key refl refl (rw e at h)
