-- What is printed as a method of what is no function, and before its key.
use Rattle.std.proofs.Common.{◌≡◌, refl}
use Rattle.jsgen_tree.specs.Plain.{node_plain}
use Rattle.jsgen_tree.specs.Rows.{expression_plain, assignment_target_plain, statement_plain, declaration_plain}
use Rattle.jsgen_tree.specs.declared.nodes.Node.{Node}
use Rattle.jsgen_tree.specs.declared.sets.Expression.{Expression}
use Rattle.jsgen_tree.specs.declared.sets.AssignmentTarget.{AssignmentTarget}
use Rattle.jsgen_tree.specs.declared.sets.Statement.{Statement}
use Rattle.jsgen_tree.specs.declared.sets.Declaration.{Declaration}
use Rattle.jsgen_tree.specs.declared.sets.Expression.TheVariants as expressions
use Rattle.jsgen_tree.specs.declared.sets.AssignmentTarget.TheVariants as targets
use Rattle.jsgen_tree.specs.declared.sets.Statement.TheVariants as statements
use Rattle.jsgen_tree.specs.declared.sets.Declaration.TheVariants as declarations
use Rattle.jsgen_nodes.proofs.IsNot.{IsNot}
use Rattle.jsgen_model.specs.Items.{nothing}
use Rattle.jsgen_place.specs.declared.place.Place.{Place}
use Rattle.jsgen_model.specs.Spell.{method_words, spell_method}

pub no_expression_method : (n : Expression Node) (place : Place) → IsNot n expressions.Function → nothing ≡ spell_method (expression_plain node_plain n) place
no_expression_method (expressions.Function b) place no_function = absurd (no_function b refl)
no_expression_method n place no_function = refl

pub no_target_method : (n : AssignmentTarget Node) (place : Place) → nothing ≡ spell_method (assignment_target_plain node_plain n) place
no_target_method (targets.IdentifierReference b) place = refl
no_target_method (targets.StaticMemberExpression b) place = refl
no_target_method (targets.ComputedMemberExpression b) place = refl
no_target_method (targets.PrivateFieldExpression b) place = refl
no_target_method (targets.ArrayAssignmentTarget b) place = refl
no_target_method (targets.ObjectAssignmentTarget b) place = refl

pub no_declaration_method : (n : Declaration Node) (place : Place) → IsNot n declarations.Function → nothing ≡ spell_method (declaration_plain node_plain n) place
no_declaration_method (declarations.VariableDeclaration b) place no_function = refl
no_declaration_method (declarations.Function b) place no_function = absurd (no_function b refl)
no_declaration_method (declarations.Class b) place no_function = refl

pub no_statement_method : (n : Statement Node) (place : Place) → IsNot n statements.Declaration → nothing ≡ spell_method (statement_plain node_plain n) place
no_statement_method (statements.Declaration b) place no_declaration = absurd (no_declaration b refl)
no_statement_method n place no_declaration = refl

pub no_expression_words : (n : Expression Node) → IsNot n expressions.Function → nothing ≡ method_words (expression_plain node_plain n)
no_expression_words (expressions.Function b) no_function = absurd (no_function b refl)
no_expression_words n no_function = refl

pub no_target_words : (n : AssignmentTarget Node) → nothing ≡ method_words (assignment_target_plain node_plain n)
no_target_words (targets.IdentifierReference b) = refl
no_target_words (targets.StaticMemberExpression b) = refl
no_target_words (targets.ComputedMemberExpression b) = refl
no_target_words (targets.PrivateFieldExpression b) = refl
no_target_words (targets.ArrayAssignmentTarget b) = refl
no_target_words (targets.ObjectAssignmentTarget b) = refl

pub no_declaration_words : (n : Declaration Node) → IsNot n declarations.Function → nothing ≡ method_words (declaration_plain node_plain n)
no_declaration_words (declarations.VariableDeclaration b) no_function = refl
no_declaration_words (declarations.Function b) no_function = absurd (no_function b refl)
no_declaration_words (declarations.Class b) no_function = refl

pub no_statement_words : (n : Statement Node) → IsNot n statements.Declaration → nothing ≡ method_words (statement_plain node_plain n)
no_statement_words (statements.Declaration b) no_declaration = absurd (no_declaration b refl)
no_statement_words n no_declaration = refl
