-- A field that holds a word, by what its text means.
use Rattle.std.proofs.Common.{◌≡◌, List, Bool, true, false, Option, Some, None, Result, Ok, Err, refl, ap, ◌∙◌, if◌then◌else◌}
use Rattle.serde_json.specs.Data.{Data}
use Rattle.serde_json.specs.Written.{has_float}
use Rattle.std.specs.Prelude.{ℕ}
use Rattle.jsgen_tree.specs.Atom.{Atom}
use Rattle.jsgen_tree.specs.Table.{Word, word}
use Rattle.jsgen_fields.specs.declared.At.{At}
use Rattle.jsgen_fields.specs.declared.InputFault.{InputFault}
use Rattle.jsgen_fields.specs.declared.InputFault.TheVariants.{Float, Missing, Wrong}
use Rattle.jsgen_fields.specs.Values.{after, or_fault, field_in, text_in, word_meaning}
use Rattle.jsgen_fields.specs.Reads.{value_or, read_value}

-- the text of a field that may not be absent
abbrev text_of : At → Option Data → Result (List ℕ) InputFault
text_of a o = after (field_in a true o) (λ given. after (or_fault (Missing a) given) (text_in a))

abbrev meaning_of : At → List Word → Result (List ℕ) InputFault → Result Atom InputFault
meaning_of a ws r = after r (λ s. or_fault (Wrong a) (word_meaning ws s))

-- where b says whether there is a float
of_given : (a : At) (v : Atom) (ws : List Word) (d : Data) (b : Bool)
    → after (if b then Err (Float a) else Ok (Some d)) (value_or v a (word ws))
    ≡ meaning_of a ws (after (if b then Err (Float a) else Ok (Some d)) (λ given. after (or_fault (Missing a) given) (text_in a)))
of_given a v ws d true = refl
of_given a v ws d false = refl

of_text : (a : At) (v : Atom) (ws : List Word) (o : Option Data) → read_value a true v (word ws) o ≡ meaning_of a ws (text_of a o)
unfolding read_value
of_text a v ws None = refl
of_text a v ws (Some d) = of_given a v ws d (has_float d)

pub word_read : (a : At) (v m : Atom) (ws : List Word) (o : Option Data) (s : List ℕ)
    → text_of a o ≡ Ok s → word_meaning ws s ≡ Some m → read_value a true v (word ws) o ≡ Ok m
word_read a v m ws o s h e = of_text a v ws o ∙ (ap (meaning_of a ws) h ∙ ap (or_fault (Wrong a)) e)

pub word_unknown : (a : At) (v : Atom) (ws : List Word) (o : Option Data) (s : List ℕ)
    → text_of a o ≡ Ok s → word_meaning ws s ≡ None → read_value a true v (word ws) o ≡ Err (Wrong a)
word_unknown a v ws o s h e = of_text a v ws o ∙ (ap (meaning_of a ws) h ∙ ap (or_fault (Wrong a)) e)

pub word_refused : (a : At) (v : Atom) (ws : List Word) (o : Option Data) (e : InputFault)
    → text_of a o ≡ Err e → read_value a true v (word ws) o ≡ Err e
word_refused a v ws o e h = of_text a v ws o ∙ ap (meaning_of a ws) h
