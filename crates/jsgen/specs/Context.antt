-- What a call is handed of what surrounds the node that it prints.
use Rattle.jsgen_place.specs.declared.place.Context as places
use Rattle.jsgen_printer.specs.declared.context.Context.{Context}
use Rattle.jsgen_printer.specs.Context.{has, forbid_in, forbid_call, tagged_template}

-- what is forbidden where the node stands, and whether a template is behind a tag there
abbrev pub context_at : Context → places.Context
context_at context = record { forbids_in = has forbid_in context; forbids_call = has forbid_call context; is_tagged = has tagged_template context }
