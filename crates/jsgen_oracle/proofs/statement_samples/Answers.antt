use Rattle.jsgen_oracle.proofs.Looped.{let_declaration, var_behind_if, endless_loop, loop_with_declaration, loop_over_keys, loop_over_values, while_loop, do_loop, label_and_jump, jump_without_label, thrown, debugger_alone, cases, handler_and_finalizer, handler_without_name}
use Rattle.jsgen_oracle.proofs.Nested.{else_within_while, else_within_for, else_within_label, else_behind_block, else_behind_while, else_behind_do, statement_behind_do, do_before_brace, update_behind_semicolon}
use Rattle.jsgen_oracle.proofs.statement_samples.Goals as goal

pub returns : goal.returns
returns c = record { let_declaration = let_declaration; var_behind_if = var_behind_if; endless_loop = endless_loop; loop_with_declaration = loop_with_declaration; loop_over_keys = loop_over_keys; loop_over_values = loop_over_values; while_loop = while_loop; do_loop = do_loop; label_and_jump = label_and_jump; jump_without_label = jump_without_label; thrown = thrown; debugger_alone = debugger_alone; cases = cases; handler_and_finalizer = handler_and_finalizer; handler_without_name = handler_without_name; else_within_while = else_within_while; else_within_for = else_within_for; else_within_label = else_within_label; else_behind_block = else_behind_block; else_behind_while = else_behind_while; else_behind_do = else_behind_do; statement_behind_do = statement_behind_do; do_before_brace = do_before_brace; update_behind_semicolon = update_behind_semicolon }
