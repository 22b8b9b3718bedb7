-- What loops, labels, jumps, choices between cases and handlers are read as by ECMA-262, worked out by hand.
use Rattle.std.specs.Prelude.{ℕ, List, codes}
use Rattle.jsgen_tree.specs.declared.statements.VariableDeclarationKind.{VariableDeclarationKind}
use Rattle.jsgen_tree.specs.declared.statements.VariableDeclarationKind.TheVariants.{Const, Let, Var}
use Rattle.jsgen_tree.specs.Tree.{Tree, Maybe, absent, given, Trees, no_trees, more}
use Rattle.jsgen_tree.specs.Nodes as tree
use Rattle.jsgen_model.specs.Normal.{nothing_of, named, unnumbered, declared_as}
use Rattle.jsgen_oracle.specs.Samples.{IsRead, module_of, statement_of, bound, block_of, if_of, incremented_before, empty, a, b, c, d, e}

-- ---- trees

-- one name that is declared, without a value
abbrev pub declaration_of : VariableDeclarationKind → List ℕ → Tree
declaration_of kind name = tree.variable_declaration (declared_as kind) (more (bound name absent) no_trees)

abbrev pub for_of_parts : Maybe → Maybe → Maybe → Tree → Tree
for_of_parts init test update body = tree.for_statement (nothing_of 0) init test update body

abbrev pub over_keys : Tree → Tree → Tree → Tree
over_keys left right body = tree.for_in_statement (nothing_of 0) left right body

abbrev pub over_values : Tree → Tree → Tree → Tree
over_values left right body = tree.for_of_statement (nothing_of 1) left right body

abbrev pub while_of : Tree → Tree → Tree
while_of test body = tree.while_statement (nothing_of 0) test body

abbrev pub do_of : Tree → Tree → Tree
do_of body test = tree.do_while_statement (nothing_of 0) body test

abbrev pub label_of : List ℕ → Tree
label_of name = tree.label_identifier (named name)

abbrev pub labelled : List ℕ → Tree → Tree
labelled name body = tree.labeled_statement (nothing_of 0) (label_of name) body

abbrev pub continue_of : Maybe → Tree
continue_of label = tree.continue_statement (nothing_of 0) label

abbrev pub break_of : Maybe → Tree
break_of label = tree.break_statement (nothing_of 0) label

abbrev pub throw_of : Tree → Tree
throw_of argument = tree.throw_statement (nothing_of 0) argument

abbrev pub debugger : Tree
debugger = tree.debugger_statement (nothing_of 0)

abbrev pub switch_of : Tree → Trees → Tree
switch_of discriminant cases = tree.switch_statement (nothing_of 0) discriminant cases

abbrev pub case_of : Maybe → Trees → Tree
case_of test consequent = tree.switch_case (nothing_of 0) test consequent

abbrev pub try_of : Maybe → Maybe → Tree
try_of handler finalizer = tree.try_statement (nothing_of 0) (block_of no_trees) handler finalizer

abbrev pub catch_of : Maybe → Tree
catch_of param = tree.catch_clause (nothing_of 0) param (block_of no_trees)

-- ---- the samples

pub record StatementSamples : Type 0 where
  pub let_declaration : IsRead (codes "let a;") (module_of (more (declaration_of Let (codes "a")) no_trees))
  -- `var` is a statement (14.3.2)
  pub var_behind_if : IsRead (codes "if(a)var b;") (module_of (more (if_of a (declaration_of Var (codes "b")) absent) no_trees))
  pub endless_loop : IsRead (codes "for(;;);") (module_of (more (for_of_parts absent absent absent empty) no_trees))
  pub loop_with_declaration : IsRead (codes "for(let a;b;c)a;") (module_of (more (for_of_parts (given (declaration_of Let (codes "a"))) (given b) (given c) (statement_of a)) no_trees))
  pub loop_over_keys : IsRead (codes "for(a in b)c;") (module_of (more (over_keys a b (statement_of c)) no_trees))
  pub loop_over_values : IsRead (codes "for(const a of b)c;") (module_of (more (over_values (declaration_of Const (codes "a")) b (statement_of c)) no_trees))
  pub while_loop : IsRead (codes "while(a)b;") (module_of (more (while_of a (statement_of b)) no_trees))
  pub do_loop : IsRead (codes "do a;while(b);") (module_of (more (do_of (statement_of a) b) no_trees))
  pub label_and_jump : IsRead (codes "a:break a;") (module_of (more (labelled (codes "a") (break_of (given (label_of (codes "a"))))) no_trees))
  -- that no loop stands round it is an early error (14.8.1)
  pub jump_without_label : IsRead (codes "continue;") (module_of (more (continue_of absent) no_trees))
  pub thrown : IsRead (codes "throw a;") (module_of (more (throw_of a) no_trees))
  pub debugger_alone : IsRead (codes "debugger;") (module_of (more (debugger) no_trees))
  pub cases : IsRead (codes "switch(a){case b:c;default:}") (module_of (more (switch_of a (more (case_of (given b) (more (statement_of c) no_trees)) (more (case_of absent no_trees) no_trees))) no_trees))
  pub handler_and_finalizer : IsRead (codes "try{}catch(a){}finally{}") (module_of (more (try_of (given (catch_of (given (tree.binding_identifier (unnumbered (codes "a")))))) (given (block_of no_trees))) no_trees))
  pub handler_without_name : IsRead (codes "try{}catch{}") (module_of (more (try_of (given (catch_of absent)) absent) no_trees))
  -- `else` goes with the last `if` that has none, also within a loop or behind a label (14.6)
  pub else_within_while : IsRead (codes "if(a)while(b)if(c)d;else e;") (module_of (more (if_of a (while_of b (if_of c (statement_of d) (given (statement_of e)))) absent) no_trees))
  pub else_within_for : IsRead (codes "if(a)for(;;)if(b)c;else d;") (module_of (more (if_of a (for_of_parts absent absent absent (if_of b (statement_of c) (given (statement_of d)))) absent) no_trees))
  pub else_within_label : IsRead (codes "if(a)b:if(c)d;else e;") (module_of (more (if_of a (labelled (codes "b") (if_of c (statement_of d) (given (statement_of e)))) absent) no_trees))
  -- and with one further out where braces or `do` close what stands between
  pub else_behind_block : IsRead (codes "if(a){if(b)c}else d;") (module_of (more (if_of a (block_of (more (if_of b (statement_of c) absent) no_trees)) (given (statement_of d))) no_trees))
  pub else_behind_while : IsRead (codes "if(a)while(b){if(c)d;}else e;") (module_of (more (if_of a (while_of b (block_of (more (if_of c (statement_of d) absent) no_trees))) (given (statement_of e))) no_trees))
  pub else_behind_do : IsRead (codes "if(a)do if(b)c;while(d);else e;") (module_of (more (if_of a (do_of (if_of b (statement_of c) absent) d) (given (statement_of e))) no_trees))
  pub statement_behind_do : IsRead (codes "do a;while(b);c;") (module_of (more (do_of (statement_of a) b) (more (statement_of c) no_trees)))
  -- before a brace a semicolon may be omitted (12.10)
  pub do_before_brace : IsRead (codes "{do a;while(b)}") (module_of (more (block_of (more (do_of (statement_of a) b) no_trees)) no_trees))
  pub update_behind_semicolon : IsRead (codes "{a;++b}") (module_of (more (block_of (more (statement_of a) (more (statement_of (incremented_before b)) no_trees))) no_trees))
