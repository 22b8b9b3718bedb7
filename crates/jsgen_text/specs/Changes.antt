-- What is changed in a raw text, as it is given to the printing functions.
use Rattle.jsgen_syntax.specs.Raw.{Raw}
use Rattle.jsgen_text.specs.declared.raw.Changes.{Changes}

abbrev pub raw_of : Changes → Raw
raw_of c = record { mode = c.mode; ascii = c.ascii; drops_backslash = c.drops_backslash; frees_tags = c.frees_tags }
