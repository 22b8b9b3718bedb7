-- A text that grows, and how it is indented.
use Rattle.std.specs.Prelude.{◌≡◌, ℕ, List, ◌++◌, take, string_bytes}
use Rattle.jsgen_syntax.specs.declared.buffer.CodeBuffer.{CodeBuffer}
use Rattle.jsgen_syntax.specs.declared.buffer.IndentChar.{IndentChar}
use Rattle.jsgen_syntax.specs.declared.buffer.IndentChar.TheVariants as indents

-- the text so far, in bytes
abbrev pub buffer_bytes : CodeBuffer → List ℕ
buffer_bytes b = string_bytes b.text

abbrev pub indent_code : IndentChar → ℕ
indent_code indents.Tab = 9
indent_code indents.Space = 32

-- the byte of indentation, and how many of it a level takes
abbrev pub indent_byte : CodeBuffer → ℕ
indent_byte b = indent_code b.indent

abbrev pub indent_width : CodeBuffer → ℕ
indent_width b = b.width

-- new is old and some first bytes of the text
abbrev pub AppendsPrefix : List ℕ → List ℕ → List ℕ → Type 0
AppendsPrefix old new text = (n : ℕ) × (new ≡ old ++ take n text)
