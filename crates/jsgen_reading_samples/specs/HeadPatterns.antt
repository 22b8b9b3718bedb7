-- What patterns in the heads of loops are read as by ECMA-262, worked out by hand.
use Rattle.std.specs.Prelude.{false, codes}
use Rattle.jsgen_tree.specs.declared.statements.VariableDeclarationKind.TheVariants.{Const, Let}
use Rattle.jsgen_tree.specs.Tree.{absent, no_trees, more}
use Rattle.jsgen_reading_samples.specs.ReadPatterns.{IsRead, module_of, reference_of, a, b, c, d, name_of, key_of, member_of, in_of, object_of, array_binding, object_binding, binding_with_default, binding_property, object_target, target_property, declaration_of, over_values, over_keys}

pub record HeadPatterns : Type 0 where
  -- an object pattern has no parentheses in the head of a loop (14.7.5)
  pub object_before_of : IsRead (codes "for({a}of b);") (module_of (over_values (object_target (more (target_property false (key_of (codes "a")) a) no_trees) absent) b))
  -- with white space between tokens (12.2)
  pub object_before_of_with_spaces : IsRead (codes "for ({a} of b);") (module_of (over_values (object_target (more (target_property false (key_of (codes "a")) a) no_trees) absent) b))
  -- within a pattern `in` is an operator (14.3.3), and the word of the loop stands behind it
  pub in_in_default_before_of : IsRead (codes "for(let{a=b in c}of d);") (module_of (over_values (declaration_of Let (object_binding (more (binding_property false (key_of (codes "a")) (binding_with_default (name_of (codes "a")) (in_of b c))) no_trees) absent) absent) d))
  -- with white space between tokens (12.2)
  pub in_in_default_before_of_with_spaces : IsRead (codes "for (let { a = b in c } of d);") (module_of (over_values (declaration_of Let (object_binding (more (binding_property false (key_of (codes "a")) (binding_with_default (name_of (codes "a")) (in_of b c))) no_trees) absent) absent) d))
  -- a pattern that is declared gets the keys (14.7.5)
  pub pattern_within_pattern : IsRead (codes "for(const[a,{b}]in c);") (module_of (over_keys (declaration_of Const (array_binding (more (name_of (codes "a")) (more (object_binding (more (binding_property false (key_of (codes "b")) (name_of (codes "b"))) no_trees) absent) no_trees)) absent) absent) c))
  -- with white space between tokens (12.2)
  pub pattern_within_pattern_with_spaces : IsRead (codes "for (const [a, { b }] in c);") (module_of (over_keys (declaration_of Const (array_binding (more (name_of (codes "a")) (more (object_binding (more (binding_property false (key_of (codes "b")) (name_of (codes "b"))) no_trees) absent) no_trees)) absent) absent) c))
  -- a member of an object is a simple target in the head of a loop too (14.7.5.1)
  pub member_of_empty_object : IsRead (codes "for({}.x of y);") (module_of (over_values (member_of (object_of no_trees) (codes "x")) (reference_of (codes "y"))))
  -- with white space between tokens (12.2)
  pub member_of_empty_object_with_spaces : IsRead (codes "for ({}.x of y);") (module_of (over_values (member_of (object_of no_trees) (codes "x")) (reference_of (codes "y"))))
  -- `async` alone doesn't stand before `of` (14.7.5), and in parentheses it does
  pub async_in_parentheses : IsRead (codes "for((async)of x);") (module_of (over_values (reference_of (codes "async")) (reference_of (codes "x"))))
  -- with white space between tokens (12.2)
  pub async_in_parentheses_with_spaces : IsRead (codes "for ((async) of x);") (module_of (over_values (reference_of (codes "async")) (reference_of (codes "x"))))
  -- `async` in parentheses over other values (14.7.5)
  pub async_over_other : IsRead (codes "for((async)of b);") (module_of (over_values (reference_of (codes "async")) b))
  -- with white space between tokens (12.2)
  pub async_over_other_with_spaces : IsRead (codes "for ((async) of b);") (module_of (over_values (reference_of (codes "async")) b))
