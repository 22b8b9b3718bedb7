-- Names and reserved words (ECMA-262, 12.7). A text is given by its bytes in UTF-8, or by its characters.
use Rattle.std.specs.Prelude.{ℕ, List, [], ◌∷◌, Bool, false, not, ◌&&◌, ◌||◌, ◌==◌, nat_le, codes}
use Rattle.std.specs.Char.{is_ascii_alphanumeric}
use Rattle.std.specs.List.{list_all, list_any}
use Rattle.std.specs.Str.{chars, encode_utf8_all, bytes_eq}
use Rattle.unicode_ident.specs.Ident.{is_xid_start, is_xid_continue}

-- XID_Start, `$` or `_`
abbrev pub starts_name : ℕ → Bool
starts_name c = is_xid_start c || (c == 36) || (c == 95)

-- XID_Continue, `$`, U+200C or U+200D
abbrev pub continues_name : ℕ → Bool
continues_name c = is_xid_continue c || (c == 36) || (c == 8204) || (c == 8205)

-- what can stand in a word, seen from its last byte or its last character
abbrev pub goes_in_word : ℕ → Bool
goes_in_word c = is_ascii_alphanumeric c || (c == 95) || (c == 36) || nat_le 128 c

-- of characters
abbrev pub spells_name : List ℕ → Bool
spells_name [] = false
spells_name (c ∷ cs) = starts_name c && list_all continues_name cs

-- of bytes
abbrev pub is_name : List ℕ → Bool
is_name bytes = spells_name (chars bytes)

abbrev pub is_among : List ℕ → List (List ℕ) → Bool
is_among text words = list_any (λ word. bytes_eq word text) words

-- ReservedWord (12.7.2)
abbrev pub reserved_words : List (List ℕ)
reserved_words = codes "await" ∷ codes "break" ∷ codes "case" ∷ codes "catch" ∷ codes "class" ∷ codes "const" ∷ codes "continue" ∷ codes "debugger" ∷ codes "default" ∷ codes "delete" ∷ codes "do" ∷ codes "else" ∷ codes "enum" ∷ codes "export" ∷ codes "extends" ∷ codes "false" ∷ codes "finally" ∷ codes "for" ∷ codes "function" ∷ codes "if" ∷ codes "import" ∷ codes "in" ∷ codes "instanceof" ∷ codes "new" ∷ codes "null" ∷ codes "return" ∷ codes "super" ∷ codes "switch" ∷ codes "this" ∷ codes "throw" ∷ codes "true" ∷ codes "try" ∷ codes "typeof" ∷ codes "var" ∷ codes "void" ∷ codes "while" ∷ codes "with" ∷ codes "yield" ∷ []

-- what strict code reserves beside them (12.7.2)
abbrev pub strict_words : List (List ℕ)
strict_words = codes "let" ∷ codes "static" ∷ codes "implements" ∷ codes "interface" ∷ codes "package" ∷ codes "private" ∷ codes "protected" ∷ codes "public" ∷ []

unfoldable pub is_reserved : List ℕ → Bool
is_reserved text = is_among text reserved_words

unfoldable pub is_strict_reserved : List ℕ → Bool
is_strict_reserved text = is_among text strict_words

-- of characters: a name that stands for an identifier in a module, whose code is strict (13.1), so neither list has it
abbrev pub is_free_name : List ℕ → Bool
is_free_name name = spells_name name && not (is_reserved (encode_utf8_all name)) && not (is_strict_reserved (encode_utf8_all name))
