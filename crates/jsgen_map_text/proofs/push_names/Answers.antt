use Rattle.std.proofs.Common.{◌++◌, flat_map, string_bytes, ap, ◌∙◌, arith}
use Rattle.std.proofs.lemmas.List.{take_all}
use Rattle.jsgen_map_text.proofs.Steps.{line_of_name, lines_of_names, one_more}
use Rattle.jsgen_map_text.proofs.push_names.Goals as goal

pub loop-name-preserved : goal.loop-name-preserved
loop-name-preserved c = one_more line_of_name (string_bytes c.args.text.now) (string_bytes c.loop-name.text) (string_bytes c.push_name.new.text) c.args.names.now c.loop-name.name-index _ (omega arith) c.loop-name.invariant c.in_ok-push_name.ensures

pub returns : goal.returns
returns c =
    c.loop-name.invariant
    ∙ (ap (λ ns. string_bytes c.args.text.now ++ flat_map line_of_name ns) (take_all c.loop-name.name-index c.args.names.now (omega arith))
    ∙ ap (λ t. string_bytes c.args.text.now ++ t) (lines_of_names c.args.names.now))
