-- Generated from tools/nodes/table.txt; edit that and run tools/nodes/generate.
-- A member that is in no earlier part of the choice, and of no type of this one, is in a later part.
use Rattle.std.proofs.Common.{◌≡◌, true, false, refl, nat_le}
use Rattle.jsgen_nodes.proofs.IsNot.{IsNot}
use Rattle.jsgen_nodes.specs.Parts.{expression_part, assignment_target_part, declaration_part, statement_part, binding_pattern_part}
use Rattle.jsgen_tree.specs.declared.sets.Expression.{Expression}
use Rattle.jsgen_tree.specs.declared.sets.AssignmentTarget.{AssignmentTarget}
use Rattle.jsgen_tree.specs.declared.sets.Declaration.{Declaration}
use Rattle.jsgen_tree.specs.declared.sets.Statement.{Statement}
use Rattle.jsgen_tree.specs.declared.sets.BindingPattern.{BindingPattern}
use Rattle.jsgen_tree.specs.declared.sets.Expression.TheVariants as expressions
use Rattle.jsgen_tree.specs.declared.sets.AssignmentTarget.TheVariants as assignment_targets
use Rattle.jsgen_tree.specs.declared.sets.Declaration.TheVariants as declarations
use Rattle.jsgen_tree.specs.declared.sets.Statement.TheVariants as statements
use Rattle.jsgen_tree.specs.declared.sets.BindingPattern.TheVariants as binding_patterns

pub expression_past_0 : {N : Type 0} (n : Expression N) → IsNot n expressions.IdentifierReference → IsNot n expressions.ThisExpression → IsNot n expressions.NullLiteral → IsNot n expressions.BooleanLiteral → IsNot n expressions.NumericLiteral → IsNot n expressions.BigIntLiteral → IsNot n expressions.StringLiteral → IsNot n expressions.RegExpLiteral → IsNot n expressions.ParenthesizedExpression → IsNot n expressions.BinaryExpression → IsNot n expressions.LogicalExpression → IsNot n expressions.StaticMemberExpression → IsNot n expressions.ComputedMemberExpression → IsNot n expressions.CallExpression → IsNot n expressions.ChainExpression → nat_le 1 (expression_part n) ≡ true
expression_past_0 (expressions.IdentifierReference b) no_0 no_1 no_2 no_3 no_4 no_5 no_6 no_7 no_8 no_9 no_10 no_11 no_12 no_13 no_14 = absurd (no_0 b refl)
expression_past_0 (expressions.ThisExpression b) no_0 no_1 no_2 no_3 no_4 no_5 no_6 no_7 no_8 no_9 no_10 no_11 no_12 no_13 no_14 = absurd (no_1 b refl)
expression_past_0 (expressions.NullLiteral b) no_0 no_1 no_2 no_3 no_4 no_5 no_6 no_7 no_8 no_9 no_10 no_11 no_12 no_13 no_14 = absurd (no_2 b refl)
expression_past_0 (expressions.BooleanLiteral b) no_0 no_1 no_2 no_3 no_4 no_5 no_6 no_7 no_8 no_9 no_10 no_11 no_12 no_13 no_14 = absurd (no_3 b refl)
expression_past_0 (expressions.NumericLiteral b) no_0 no_1 no_2 no_3 no_4 no_5 no_6 no_7 no_8 no_9 no_10 no_11 no_12 no_13 no_14 = absurd (no_4 b refl)
expression_past_0 (expressions.BigIntLiteral b) no_0 no_1 no_2 no_3 no_4 no_5 no_6 no_7 no_8 no_9 no_10 no_11 no_12 no_13 no_14 = absurd (no_5 b refl)
expression_past_0 (expressions.StringLiteral b) no_0 no_1 no_2 no_3 no_4 no_5 no_6 no_7 no_8 no_9 no_10 no_11 no_12 no_13 no_14 = absurd (no_6 b refl)
expression_past_0 (expressions.RegExpLiteral b) no_0 no_1 no_2 no_3 no_4 no_5 no_6 no_7 no_8 no_9 no_10 no_11 no_12 no_13 no_14 = absurd (no_7 b refl)
expression_past_0 (expressions.ParenthesizedExpression b) no_0 no_1 no_2 no_3 no_4 no_5 no_6 no_7 no_8 no_9 no_10 no_11 no_12 no_13 no_14 = absurd (no_8 b refl)
expression_past_0 (expressions.BinaryExpression b) no_0 no_1 no_2 no_3 no_4 no_5 no_6 no_7 no_8 no_9 no_10 no_11 no_12 no_13 no_14 = absurd (no_9 b refl)
expression_past_0 (expressions.LogicalExpression b) no_0 no_1 no_2 no_3 no_4 no_5 no_6 no_7 no_8 no_9 no_10 no_11 no_12 no_13 no_14 = absurd (no_10 b refl)
expression_past_0 (expressions.StaticMemberExpression b) no_0 no_1 no_2 no_3 no_4 no_5 no_6 no_7 no_8 no_9 no_10 no_11 no_12 no_13 no_14 = absurd (no_11 b refl)
expression_past_0 (expressions.ComputedMemberExpression b) no_0 no_1 no_2 no_3 no_4 no_5 no_6 no_7 no_8 no_9 no_10 no_11 no_12 no_13 no_14 = absurd (no_12 b refl)
expression_past_0 (expressions.CallExpression b) no_0 no_1 no_2 no_3 no_4 no_5 no_6 no_7 no_8 no_9 no_10 no_11 no_12 no_13 no_14 = absurd (no_13 b refl)
expression_past_0 (expressions.ChainExpression b) no_0 no_1 no_2 no_3 no_4 no_5 no_6 no_7 no_8 no_9 no_10 no_11 no_12 no_13 no_14 = absurd (no_14 b refl)
expression_past_0 n no_0 no_1 no_2 no_3 no_4 no_5 no_6 no_7 no_8 no_9 no_10 no_11 no_12 no_13 no_14 = refl

pub expression_past_1 : {N : Type 0} (n : Expression N) → nat_le 1 (expression_part n) ≡ true → IsNot n expressions.ArrayExpression → IsNot n expressions.ObjectExpression → nat_le 2 (expression_part n) ≡ true
expression_past_1 (expressions.IdentifierReference b) later no_0 no_1 = let no : false ≡ true = later in cc
expression_past_1 (expressions.ThisExpression b) later no_0 no_1 = let no : false ≡ true = later in cc
expression_past_1 (expressions.NullLiteral b) later no_0 no_1 = let no : false ≡ true = later in cc
expression_past_1 (expressions.BooleanLiteral b) later no_0 no_1 = let no : false ≡ true = later in cc
expression_past_1 (expressions.NumericLiteral b) later no_0 no_1 = let no : false ≡ true = later in cc
expression_past_1 (expressions.BigIntLiteral b) later no_0 no_1 = let no : false ≡ true = later in cc
expression_past_1 (expressions.StringLiteral b) later no_0 no_1 = let no : false ≡ true = later in cc
expression_past_1 (expressions.RegExpLiteral b) later no_0 no_1 = let no : false ≡ true = later in cc
expression_past_1 (expressions.ParenthesizedExpression b) later no_0 no_1 = let no : false ≡ true = later in cc
expression_past_1 (expressions.BinaryExpression b) later no_0 no_1 = let no : false ≡ true = later in cc
expression_past_1 (expressions.LogicalExpression b) later no_0 no_1 = let no : false ≡ true = later in cc
expression_past_1 (expressions.StaticMemberExpression b) later no_0 no_1 = let no : false ≡ true = later in cc
expression_past_1 (expressions.ComputedMemberExpression b) later no_0 no_1 = let no : false ≡ true = later in cc
expression_past_1 (expressions.CallExpression b) later no_0 no_1 = let no : false ≡ true = later in cc
expression_past_1 (expressions.ChainExpression b) later no_0 no_1 = let no : false ≡ true = later in cc
expression_past_1 (expressions.ArrayExpression b) later no_0 no_1 = absurd (no_0 b refl)
expression_past_1 (expressions.ObjectExpression b) later no_0 no_1 = absurd (no_1 b refl)
expression_past_1 n later no_0 no_1 = refl

pub expression_past_2 : {N : Type 0} (n : Expression N) → nat_le 2 (expression_part n) ≡ true → IsNot n expressions.UnaryExpression → IsNot n expressions.NewTarget → IsNot n expressions.UpdateExpression → IsNot n expressions.NewExpression → IsNot n expressions.Super → IsNot n expressions.ImportMeta → nat_le 3 (expression_part n) ≡ true
expression_past_2 (expressions.IdentifierReference b) later no_0 no_1 no_2 no_3 no_4 no_5 = let no : false ≡ true = later in cc
expression_past_2 (expressions.ThisExpression b) later no_0 no_1 no_2 no_3 no_4 no_5 = let no : false ≡ true = later in cc
expression_past_2 (expressions.NullLiteral b) later no_0 no_1 no_2 no_3 no_4 no_5 = let no : false ≡ true = later in cc
expression_past_2 (expressions.BooleanLiteral b) later no_0 no_1 no_2 no_3 no_4 no_5 = let no : false ≡ true = later in cc
expression_past_2 (expressions.NumericLiteral b) later no_0 no_1 no_2 no_3 no_4 no_5 = let no : false ≡ true = later in cc
expression_past_2 (expressions.BigIntLiteral b) later no_0 no_1 no_2 no_3 no_4 no_5 = let no : false ≡ true = later in cc
expression_past_2 (expressions.StringLiteral b) later no_0 no_1 no_2 no_3 no_4 no_5 = let no : false ≡ true = later in cc
expression_past_2 (expressions.RegExpLiteral b) later no_0 no_1 no_2 no_3 no_4 no_5 = let no : false ≡ true = later in cc
expression_past_2 (expressions.ParenthesizedExpression b) later no_0 no_1 no_2 no_3 no_4 no_5 = let no : false ≡ true = later in cc
expression_past_2 (expressions.BinaryExpression b) later no_0 no_1 no_2 no_3 no_4 no_5 = let no : false ≡ true = later in cc
expression_past_2 (expressions.LogicalExpression b) later no_0 no_1 no_2 no_3 no_4 no_5 = let no : false ≡ true = later in cc
expression_past_2 (expressions.StaticMemberExpression b) later no_0 no_1 no_2 no_3 no_4 no_5 = let no : false ≡ true = later in cc
expression_past_2 (expressions.ComputedMemberExpression b) later no_0 no_1 no_2 no_3 no_4 no_5 = let no : false ≡ true = later in cc
expression_past_2 (expressions.CallExpression b) later no_0 no_1 no_2 no_3 no_4 no_5 = let no : false ≡ true = later in cc
expression_past_2 (expressions.ChainExpression b) later no_0 no_1 no_2 no_3 no_4 no_5 = let no : false ≡ true = later in cc
expression_past_2 (expressions.ArrayExpression b) later no_0 no_1 no_2 no_3 no_4 no_5 = let no : false ≡ true = later in cc
expression_past_2 (expressions.ObjectExpression b) later no_0 no_1 no_2 no_3 no_4 no_5 = let no : false ≡ true = later in cc
expression_past_2 (expressions.UnaryExpression b) later no_0 no_1 no_2 no_3 no_4 no_5 = absurd (no_0 b refl)
expression_past_2 (expressions.NewTarget b) later no_0 no_1 no_2 no_3 no_4 no_5 = absurd (no_1 b refl)
expression_past_2 (expressions.UpdateExpression b) later no_0 no_1 no_2 no_3 no_4 no_5 = absurd (no_2 b refl)
expression_past_2 (expressions.NewExpression b) later no_0 no_1 no_2 no_3 no_4 no_5 = absurd (no_3 b refl)
expression_past_2 (expressions.Super b) later no_0 no_1 no_2 no_3 no_4 no_5 = absurd (no_4 b refl)
expression_past_2 (expressions.ImportMeta b) later no_0 no_1 no_2 no_3 no_4 no_5 = absurd (no_5 b refl)
expression_past_2 n later no_0 no_1 no_2 no_3 no_4 no_5 = refl

pub expression_past_3 : {N : Type 0} (n : Expression N) → nat_le 3 (expression_part n) ≡ true → IsNot n expressions.ConditionalExpression → IsNot n expressions.SequenceExpression → IsNot n expressions.AssignmentExpression → nat_le 4 (expression_part n) ≡ true
expression_past_3 (expressions.IdentifierReference b) later no_0 no_1 no_2 = let no : false ≡ true = later in cc
expression_past_3 (expressions.ThisExpression b) later no_0 no_1 no_2 = let no : false ≡ true = later in cc
expression_past_3 (expressions.NullLiteral b) later no_0 no_1 no_2 = let no : false ≡ true = later in cc
expression_past_3 (expressions.BooleanLiteral b) later no_0 no_1 no_2 = let no : false ≡ true = later in cc
expression_past_3 (expressions.NumericLiteral b) later no_0 no_1 no_2 = let no : false ≡ true = later in cc
expression_past_3 (expressions.BigIntLiteral b) later no_0 no_1 no_2 = let no : false ≡ true = later in cc
expression_past_3 (expressions.StringLiteral b) later no_0 no_1 no_2 = let no : false ≡ true = later in cc
expression_past_3 (expressions.RegExpLiteral b) later no_0 no_1 no_2 = let no : false ≡ true = later in cc
expression_past_3 (expressions.ParenthesizedExpression b) later no_0 no_1 no_2 = let no : false ≡ true = later in cc
expression_past_3 (expressions.BinaryExpression b) later no_0 no_1 no_2 = let no : false ≡ true = later in cc
expression_past_3 (expressions.LogicalExpression b) later no_0 no_1 no_2 = let no : false ≡ true = later in cc
expression_past_3 (expressions.StaticMemberExpression b) later no_0 no_1 no_2 = let no : false ≡ true = later in cc
expression_past_3 (expressions.ComputedMemberExpression b) later no_0 no_1 no_2 = let no : false ≡ true = later in cc
expression_past_3 (expressions.CallExpression b) later no_0 no_1 no_2 = let no : false ≡ true = later in cc
expression_past_3 (expressions.ChainExpression b) later no_0 no_1 no_2 = let no : false ≡ true = later in cc
expression_past_3 (expressions.ArrayExpression b) later no_0 no_1 no_2 = let no : false ≡ true = later in cc
expression_past_3 (expressions.ObjectExpression b) later no_0 no_1 no_2 = let no : false ≡ true = later in cc
expression_past_3 (expressions.UnaryExpression b) later no_0 no_1 no_2 = let no : false ≡ true = later in cc
expression_past_3 (expressions.NewTarget b) later no_0 no_1 no_2 = let no : false ≡ true = later in cc
expression_past_3 (expressions.UpdateExpression b) later no_0 no_1 no_2 = let no : false ≡ true = later in cc
expression_past_3 (expressions.NewExpression b) later no_0 no_1 no_2 = let no : false ≡ true = later in cc
expression_past_3 (expressions.Super b) later no_0 no_1 no_2 = let no : false ≡ true = later in cc
expression_past_3 (expressions.ImportMeta b) later no_0 no_1 no_2 = let no : false ≡ true = later in cc
expression_past_3 (expressions.ConditionalExpression b) later no_0 no_1 no_2 = absurd (no_0 b refl)
expression_past_3 (expressions.SequenceExpression b) later no_0 no_1 no_2 = absurd (no_1 b refl)
expression_past_3 (expressions.AssignmentExpression b) later no_0 no_1 no_2 = absurd (no_2 b refl)
expression_past_3 n later no_0 no_1 no_2 = refl

pub expression_past_4 : {N : Type 0} (n : Expression N) → nat_le 4 (expression_part n) ≡ true → IsNot n expressions.Function → IsNot n expressions.ArrowFunctionExpression → IsNot n expressions.AwaitExpression → IsNot n expressions.YieldExpression → nat_le 5 (expression_part n) ≡ true
expression_past_4 (expressions.IdentifierReference b) later no_0 no_1 no_2 no_3 = let no : false ≡ true = later in cc
expression_past_4 (expressions.ThisExpression b) later no_0 no_1 no_2 no_3 = let no : false ≡ true = later in cc
expression_past_4 (expressions.NullLiteral b) later no_0 no_1 no_2 no_3 = let no : false ≡ true = later in cc
expression_past_4 (expressions.BooleanLiteral b) later no_0 no_1 no_2 no_3 = let no : false ≡ true = later in cc
expression_past_4 (expressions.NumericLiteral b) later no_0 no_1 no_2 no_3 = let no : false ≡ true = later in cc
expression_past_4 (expressions.BigIntLiteral b) later no_0 no_1 no_2 no_3 = let no : false ≡ true = later in cc
expression_past_4 (expressions.StringLiteral b) later no_0 no_1 no_2 no_3 = let no : false ≡ true = later in cc
expression_past_4 (expressions.RegExpLiteral b) later no_0 no_1 no_2 no_3 = let no : false ≡ true = later in cc
expression_past_4 (expressions.ParenthesizedExpression b) later no_0 no_1 no_2 no_3 = let no : false ≡ true = later in cc
expression_past_4 (expressions.BinaryExpression b) later no_0 no_1 no_2 no_3 = let no : false ≡ true = later in cc
expression_past_4 (expressions.LogicalExpression b) later no_0 no_1 no_2 no_3 = let no : false ≡ true = later in cc
expression_past_4 (expressions.StaticMemberExpression b) later no_0 no_1 no_2 no_3 = let no : false ≡ true = later in cc
expression_past_4 (expressions.ComputedMemberExpression b) later no_0 no_1 no_2 no_3 = let no : false ≡ true = later in cc
expression_past_4 (expressions.CallExpression b) later no_0 no_1 no_2 no_3 = let no : false ≡ true = later in cc
expression_past_4 (expressions.ChainExpression b) later no_0 no_1 no_2 no_3 = let no : false ≡ true = later in cc
expression_past_4 (expressions.ArrayExpression b) later no_0 no_1 no_2 no_3 = let no : false ≡ true = later in cc
expression_past_4 (expressions.ObjectExpression b) later no_0 no_1 no_2 no_3 = let no : false ≡ true = later in cc
expression_past_4 (expressions.UnaryExpression b) later no_0 no_1 no_2 no_3 = let no : false ≡ true = later in cc
expression_past_4 (expressions.NewTarget b) later no_0 no_1 no_2 no_3 = let no : false ≡ true = later in cc
expression_past_4 (expressions.UpdateExpression b) later no_0 no_1 no_2 no_3 = let no : false ≡ true = later in cc
expression_past_4 (expressions.NewExpression b) later no_0 no_1 no_2 no_3 = let no : false ≡ true = later in cc
expression_past_4 (expressions.Super b) later no_0 no_1 no_2 no_3 = let no : false ≡ true = later in cc
expression_past_4 (expressions.ImportMeta b) later no_0 no_1 no_2 no_3 = let no : false ≡ true = later in cc
expression_past_4 (expressions.ConditionalExpression b) later no_0 no_1 no_2 no_3 = let no : false ≡ true = later in cc
expression_past_4 (expressions.SequenceExpression b) later no_0 no_1 no_2 no_3 = let no : false ≡ true = later in cc
expression_past_4 (expressions.AssignmentExpression b) later no_0 no_1 no_2 no_3 = let no : false ≡ true = later in cc
expression_past_4 (expressions.Function b) later no_0 no_1 no_2 no_3 = absurd (no_0 b refl)
expression_past_4 (expressions.ArrowFunctionExpression b) later no_0 no_1 no_2 no_3 = absurd (no_1 b refl)
expression_past_4 (expressions.AwaitExpression b) later no_0 no_1 no_2 no_3 = absurd (no_2 b refl)
expression_past_4 (expressions.YieldExpression b) later no_0 no_1 no_2 no_3 = absurd (no_3 b refl)
expression_past_4 n later no_0 no_1 no_2 no_3 = refl

pub expression_past_5 : {N : Type 0} (n : Expression N) → nat_le 5 (expression_part n) ≡ true → IsNot n expressions.TemplateLiteral → IsNot n expressions.TaggedTemplateExpression → IsNot n expressions.ImportExpression → nat_le 6 (expression_part n) ≡ true
expression_past_5 (expressions.IdentifierReference b) later no_0 no_1 no_2 = let no : false ≡ true = later in cc
expression_past_5 (expressions.ThisExpression b) later no_0 no_1 no_2 = let no : false ≡ true = later in cc
expression_past_5 (expressions.NullLiteral b) later no_0 no_1 no_2 = let no : false ≡ true = later in cc
expression_past_5 (expressions.BooleanLiteral b) later no_0 no_1 no_2 = let no : false ≡ true = later in cc
expression_past_5 (expressions.NumericLiteral b) later no_0 no_1 no_2 = let no : false ≡ true = later in cc
expression_past_5 (expressions.BigIntLiteral b) later no_0 no_1 no_2 = let no : false ≡ true = later in cc
expression_past_5 (expressions.StringLiteral b) later no_0 no_1 no_2 = let no : false ≡ true = later in cc
expression_past_5 (expressions.RegExpLiteral b) later no_0 no_1 no_2 = let no : false ≡ true = later in cc
expression_past_5 (expressions.ParenthesizedExpression b) later no_0 no_1 no_2 = let no : false ≡ true = later in cc
expression_past_5 (expressions.BinaryExpression b) later no_0 no_1 no_2 = let no : false ≡ true = later in cc
expression_past_5 (expressions.LogicalExpression b) later no_0 no_1 no_2 = let no : false ≡ true = later in cc
expression_past_5 (expressions.StaticMemberExpression b) later no_0 no_1 no_2 = let no : false ≡ true = later in cc
expression_past_5 (expressions.ComputedMemberExpression b) later no_0 no_1 no_2 = let no : false ≡ true = later in cc
expression_past_5 (expressions.CallExpression b) later no_0 no_1 no_2 = let no : false ≡ true = later in cc
expression_past_5 (expressions.ChainExpression b) later no_0 no_1 no_2 = let no : false ≡ true = later in cc
expression_past_5 (expressions.ArrayExpression b) later no_0 no_1 no_2 = let no : false ≡ true = later in cc
expression_past_5 (expressions.ObjectExpression b) later no_0 no_1 no_2 = let no : false ≡ true = later in cc
expression_past_5 (expressions.UnaryExpression b) later no_0 no_1 no_2 = let no : false ≡ true = later in cc
expression_past_5 (expressions.NewTarget b) later no_0 no_1 no_2 = let no : false ≡ true = later in cc
expression_past_5 (expressions.UpdateExpression b) later no_0 no_1 no_2 = let no : false ≡ true = later in cc
expression_past_5 (expressions.NewExpression b) later no_0 no_1 no_2 = let no : false ≡ true = later in cc
expression_past_5 (expressions.Super b) later no_0 no_1 no_2 = let no : false ≡ true = later in cc
expression_past_5 (expressions.ImportMeta b) later no_0 no_1 no_2 = let no : false ≡ true = later in cc
expression_past_5 (expressions.ConditionalExpression b) later no_0 no_1 no_2 = let no : false ≡ true = later in cc
expression_past_5 (expressions.SequenceExpression b) later no_0 no_1 no_2 = let no : false ≡ true = later in cc
expression_past_5 (expressions.AssignmentExpression b) later no_0 no_1 no_2 = let no : false ≡ true = later in cc
expression_past_5 (expressions.Function b) later no_0 no_1 no_2 = let no : false ≡ true = later in cc
expression_past_5 (expressions.ArrowFunctionExpression b) later no_0 no_1 no_2 = let no : false ≡ true = later in cc
expression_past_5 (expressions.AwaitExpression b) later no_0 no_1 no_2 = let no : false ≡ true = later in cc
expression_past_5 (expressions.YieldExpression b) later no_0 no_1 no_2 = let no : false ≡ true = later in cc
expression_past_5 (expressions.TemplateLiteral b) later no_0 no_1 no_2 = absurd (no_0 b refl)
expression_past_5 (expressions.TaggedTemplateExpression b) later no_0 no_1 no_2 = absurd (no_1 b refl)
expression_past_5 (expressions.ImportExpression b) later no_0 no_1 no_2 = absurd (no_2 b refl)
expression_past_5 n later no_0 no_1 no_2 = refl

pub expression_past_6 : {N : Type 0} (n : Expression N) → nat_le 6 (expression_part n) ≡ true → IsNot n expressions.PrivateFieldExpression → IsNot n expressions.PrivateInExpression → IsNot n expressions.Class → ⊥
expression_past_6 (expressions.IdentifierReference b) later no_0 no_1 no_2 = let no : false ≡ true = later in cc
expression_past_6 (expressions.ThisExpression b) later no_0 no_1 no_2 = let no : false ≡ true = later in cc
expression_past_6 (expressions.NullLiteral b) later no_0 no_1 no_2 = let no : false ≡ true = later in cc
expression_past_6 (expressions.BooleanLiteral b) later no_0 no_1 no_2 = let no : false ≡ true = later in cc
expression_past_6 (expressions.NumericLiteral b) later no_0 no_1 no_2 = let no : false ≡ true = later in cc
expression_past_6 (expressions.BigIntLiteral b) later no_0 no_1 no_2 = let no : false ≡ true = later in cc
expression_past_6 (expressions.StringLiteral b) later no_0 no_1 no_2 = let no : false ≡ true = later in cc
expression_past_6 (expressions.RegExpLiteral b) later no_0 no_1 no_2 = let no : false ≡ true = later in cc
expression_past_6 (expressions.ParenthesizedExpression b) later no_0 no_1 no_2 = let no : false ≡ true = later in cc
expression_past_6 (expressions.BinaryExpression b) later no_0 no_1 no_2 = let no : false ≡ true = later in cc
expression_past_6 (expressions.LogicalExpression b) later no_0 no_1 no_2 = let no : false ≡ true = later in cc
expression_past_6 (expressions.StaticMemberExpression b) later no_0 no_1 no_2 = let no : false ≡ true = later in cc
expression_past_6 (expressions.ComputedMemberExpression b) later no_0 no_1 no_2 = let no : false ≡ true = later in cc
expression_past_6 (expressions.CallExpression b) later no_0 no_1 no_2 = let no : false ≡ true = later in cc
expression_past_6 (expressions.ChainExpression b) later no_0 no_1 no_2 = let no : false ≡ true = later in cc
expression_past_6 (expressions.ArrayExpression b) later no_0 no_1 no_2 = let no : false ≡ true = later in cc
expression_past_6 (expressions.ObjectExpression b) later no_0 no_1 no_2 = let no : false ≡ true = later in cc
expression_past_6 (expressions.UnaryExpression b) later no_0 no_1 no_2 = let no : false ≡ true = later in cc
expression_past_6 (expressions.NewTarget b) later no_0 no_1 no_2 = let no : false ≡ true = later in cc
expression_past_6 (expressions.UpdateExpression b) later no_0 no_1 no_2 = let no : false ≡ true = later in cc
expression_past_6 (expressions.NewExpression b) later no_0 no_1 no_2 = let no : false ≡ true = later in cc
expression_past_6 (expressions.Super b) later no_0 no_1 no_2 = let no : false ≡ true = later in cc
expression_past_6 (expressions.ImportMeta b) later no_0 no_1 no_2 = let no : false ≡ true = later in cc
expression_past_6 (expressions.ConditionalExpression b) later no_0 no_1 no_2 = let no : false ≡ true = later in cc
expression_past_6 (expressions.SequenceExpression b) later no_0 no_1 no_2 = let no : false ≡ true = later in cc
expression_past_6 (expressions.AssignmentExpression b) later no_0 no_1 no_2 = let no : false ≡ true = later in cc
expression_past_6 (expressions.Function b) later no_0 no_1 no_2 = let no : false ≡ true = later in cc
expression_past_6 (expressions.ArrowFunctionExpression b) later no_0 no_1 no_2 = let no : false ≡ true = later in cc
expression_past_6 (expressions.AwaitExpression b) later no_0 no_1 no_2 = let no : false ≡ true = later in cc
expression_past_6 (expressions.YieldExpression b) later no_0 no_1 no_2 = let no : false ≡ true = later in cc
expression_past_6 (expressions.TemplateLiteral b) later no_0 no_1 no_2 = let no : false ≡ true = later in cc
expression_past_6 (expressions.TaggedTemplateExpression b) later no_0 no_1 no_2 = let no : false ≡ true = later in cc
expression_past_6 (expressions.ImportExpression b) later no_0 no_1 no_2 = let no : false ≡ true = later in cc
expression_past_6 (expressions.PrivateFieldExpression b) later no_0 no_1 no_2 = absurd (no_0 b refl)
expression_past_6 (expressions.PrivateInExpression b) later no_0 no_1 no_2 = absurd (no_1 b refl)
expression_past_6 (expressions.Class b) later no_0 no_1 no_2 = absurd (no_2 b refl)

pub assignment_target_past_0 : {N : Type 0} (n : AssignmentTarget N) → IsNot n assignment_targets.IdentifierReference → IsNot n assignment_targets.StaticMemberExpression → IsNot n assignment_targets.ComputedMemberExpression → nat_le 1 (assignment_target_part n) ≡ true
assignment_target_past_0 (assignment_targets.IdentifierReference b) no_0 no_1 no_2 = absurd (no_0 b refl)
assignment_target_past_0 (assignment_targets.StaticMemberExpression b) no_0 no_1 no_2 = absurd (no_1 b refl)
assignment_target_past_0 (assignment_targets.ComputedMemberExpression b) no_0 no_1 no_2 = absurd (no_2 b refl)
assignment_target_past_0 n no_0 no_1 no_2 = refl

pub assignment_target_past_1 : {N : Type 0} (n : AssignmentTarget N) → nat_le 1 (assignment_target_part n) ≡ true → IsNot n assignment_targets.ArrayAssignmentTarget → IsNot n assignment_targets.ObjectAssignmentTarget → nat_le 2 (assignment_target_part n) ≡ true
assignment_target_past_1 (assignment_targets.IdentifierReference b) later no_0 no_1 = let no : false ≡ true = later in cc
assignment_target_past_1 (assignment_targets.StaticMemberExpression b) later no_0 no_1 = let no : false ≡ true = later in cc
assignment_target_past_1 (assignment_targets.ComputedMemberExpression b) later no_0 no_1 = let no : false ≡ true = later in cc
assignment_target_past_1 (assignment_targets.ArrayAssignmentTarget b) later no_0 no_1 = absurd (no_0 b refl)
assignment_target_past_1 (assignment_targets.ObjectAssignmentTarget b) later no_0 no_1 = absurd (no_1 b refl)
assignment_target_past_1 n later no_0 no_1 = refl

pub assignment_target_past_2 : {N : Type 0} (n : AssignmentTarget N) → nat_le 2 (assignment_target_part n) ≡ true → IsNot n assignment_targets.PrivateFieldExpression → ⊥
assignment_target_past_2 (assignment_targets.IdentifierReference b) later no_0 = let no : false ≡ true = later in cc
assignment_target_past_2 (assignment_targets.StaticMemberExpression b) later no_0 = let no : false ≡ true = later in cc
assignment_target_past_2 (assignment_targets.ComputedMemberExpression b) later no_0 = let no : false ≡ true = later in cc
assignment_target_past_2 (assignment_targets.ArrayAssignmentTarget b) later no_0 = let no : false ≡ true = later in cc
assignment_target_past_2 (assignment_targets.ObjectAssignmentTarget b) later no_0 = let no : false ≡ true = later in cc
assignment_target_past_2 (assignment_targets.PrivateFieldExpression b) later no_0 = absurd (no_0 b refl)

pub declaration_past_0 : {N : Type 0} (n : Declaration N) → IsNot n declarations.VariableDeclaration → nat_le 1 (declaration_part n) ≡ true
declaration_past_0 (declarations.VariableDeclaration b) no_0 = absurd (no_0 b refl)
declaration_past_0 n no_0 = refl

pub declaration_past_1 : {N : Type 0} (n : Declaration N) → nat_le 1 (declaration_part n) ≡ true → IsNot n declarations.Function → nat_le 2 (declaration_part n) ≡ true
declaration_past_1 (declarations.VariableDeclaration b) later no_0 = let no : false ≡ true = later in cc
declaration_past_1 (declarations.Function b) later no_0 = absurd (no_0 b refl)
declaration_past_1 n later no_0 = refl

pub declaration_past_2 : {N : Type 0} (n : Declaration N) → nat_le 2 (declaration_part n) ≡ true → IsNot n declarations.Class → ⊥
declaration_past_2 (declarations.VariableDeclaration b) later no_0 = let no : false ≡ true = later in cc
declaration_past_2 (declarations.Function b) later no_0 = let no : false ≡ true = later in cc
declaration_past_2 (declarations.Class b) later no_0 = absurd (no_0 b refl)

pub statement_past_0 : {N : Type 0} (n : Statement N) → IsNot n statements.Declaration → nat_le 1 (statement_part n) ≡ true
statement_past_0 (statements.Declaration b) no_0 = absurd (no_0 b refl)
statement_past_0 n no_0 = refl

pub statement_past_1 : {N : Type 0} (n : Statement N) → nat_le 1 (statement_part n) ≡ true → IsNot n statements.ExpressionStatement → IsNot n statements.BlockStatement → IsNot n statements.IfStatement → IsNot n statements.EmptyStatement → nat_le 2 (statement_part n) ≡ true
statement_past_1 (statements.Declaration b) later no_0 no_1 no_2 no_3 = let no : false ≡ true = later in cc
statement_past_1 (statements.ExpressionStatement b) later no_0 no_1 no_2 no_3 = absurd (no_0 b refl)
statement_past_1 (statements.BlockStatement b) later no_0 no_1 no_2 no_3 = absurd (no_1 b refl)
statement_past_1 (statements.IfStatement b) later no_0 no_1 no_2 no_3 = absurd (no_2 b refl)
statement_past_1 (statements.EmptyStatement b) later no_0 no_1 no_2 no_3 = absurd (no_3 b refl)
statement_past_1 n later no_0 no_1 no_2 no_3 = refl

pub statement_past_2 : {N : Type 0} (n : Statement N) → nat_le 2 (statement_part n) ≡ true → IsNot n statements.ForStatement → IsNot n statements.ForInStatement → IsNot n statements.ForOfStatement → IsNot n statements.WhileStatement → IsNot n statements.DoWhileStatement → IsNot n statements.LabeledStatement → IsNot n statements.ContinueStatement → IsNot n statements.BreakStatement → IsNot n statements.ReturnStatement → IsNot n statements.ThrowStatement → IsNot n statements.DebuggerStatement → nat_le 3 (statement_part n) ≡ true
statement_past_2 (statements.Declaration b) later no_0 no_1 no_2 no_3 no_4 no_5 no_6 no_7 no_8 no_9 no_10 = let no : false ≡ true = later in cc
statement_past_2 (statements.ExpressionStatement b) later no_0 no_1 no_2 no_3 no_4 no_5 no_6 no_7 no_8 no_9 no_10 = let no : false ≡ true = later in cc
statement_past_2 (statements.BlockStatement b) later no_0 no_1 no_2 no_3 no_4 no_5 no_6 no_7 no_8 no_9 no_10 = let no : false ≡ true = later in cc
statement_past_2 (statements.IfStatement b) later no_0 no_1 no_2 no_3 no_4 no_5 no_6 no_7 no_8 no_9 no_10 = let no : false ≡ true = later in cc
statement_past_2 (statements.EmptyStatement b) later no_0 no_1 no_2 no_3 no_4 no_5 no_6 no_7 no_8 no_9 no_10 = let no : false ≡ true = later in cc
statement_past_2 (statements.ForStatement b) later no_0 no_1 no_2 no_3 no_4 no_5 no_6 no_7 no_8 no_9 no_10 = absurd (no_0 b refl)
statement_past_2 (statements.ForInStatement b) later no_0 no_1 no_2 no_3 no_4 no_5 no_6 no_7 no_8 no_9 no_10 = absurd (no_1 b refl)
statement_past_2 (statements.ForOfStatement b) later no_0 no_1 no_2 no_3 no_4 no_5 no_6 no_7 no_8 no_9 no_10 = absurd (no_2 b refl)
statement_past_2 (statements.WhileStatement b) later no_0 no_1 no_2 no_3 no_4 no_5 no_6 no_7 no_8 no_9 no_10 = absurd (no_3 b refl)
statement_past_2 (statements.DoWhileStatement b) later no_0 no_1 no_2 no_3 no_4 no_5 no_6 no_7 no_8 no_9 no_10 = absurd (no_4 b refl)
statement_past_2 (statements.LabeledStatement b) later no_0 no_1 no_2 no_3 no_4 no_5 no_6 no_7 no_8 no_9 no_10 = absurd (no_5 b refl)
statement_past_2 (statements.ContinueStatement b) later no_0 no_1 no_2 no_3 no_4 no_5 no_6 no_7 no_8 no_9 no_10 = absurd (no_6 b refl)
statement_past_2 (statements.BreakStatement b) later no_0 no_1 no_2 no_3 no_4 no_5 no_6 no_7 no_8 no_9 no_10 = absurd (no_7 b refl)
statement_past_2 (statements.ReturnStatement b) later no_0 no_1 no_2 no_3 no_4 no_5 no_6 no_7 no_8 no_9 no_10 = absurd (no_8 b refl)
statement_past_2 (statements.ThrowStatement b) later no_0 no_1 no_2 no_3 no_4 no_5 no_6 no_7 no_8 no_9 no_10 = absurd (no_9 b refl)
statement_past_2 (statements.DebuggerStatement b) later no_0 no_1 no_2 no_3 no_4 no_5 no_6 no_7 no_8 no_9 no_10 = absurd (no_10 b refl)
statement_past_2 n later no_0 no_1 no_2 no_3 no_4 no_5 no_6 no_7 no_8 no_9 no_10 = refl

pub statement_past_3 : {N : Type 0} (n : Statement N) → nat_le 3 (statement_part n) ≡ true → IsNot n statements.SwitchStatement → IsNot n statements.TryStatement → nat_le 4 (statement_part n) ≡ true
statement_past_3 (statements.Declaration b) later no_0 no_1 = let no : false ≡ true = later in cc
statement_past_3 (statements.ExpressionStatement b) later no_0 no_1 = let no : false ≡ true = later in cc
statement_past_3 (statements.BlockStatement b) later no_0 no_1 = let no : false ≡ true = later in cc
statement_past_3 (statements.IfStatement b) later no_0 no_1 = let no : false ≡ true = later in cc
statement_past_3 (statements.EmptyStatement b) later no_0 no_1 = let no : false ≡ true = later in cc
statement_past_3 (statements.ForStatement b) later no_0 no_1 = let no : false ≡ true = later in cc
statement_past_3 (statements.ForInStatement b) later no_0 no_1 = let no : false ≡ true = later in cc
statement_past_3 (statements.ForOfStatement b) later no_0 no_1 = let no : false ≡ true = later in cc
statement_past_3 (statements.WhileStatement b) later no_0 no_1 = let no : false ≡ true = later in cc
statement_past_3 (statements.DoWhileStatement b) later no_0 no_1 = let no : false ≡ true = later in cc
statement_past_3 (statements.LabeledStatement b) later no_0 no_1 = let no : false ≡ true = later in cc
statement_past_3 (statements.ContinueStatement b) later no_0 no_1 = let no : false ≡ true = later in cc
statement_past_3 (statements.BreakStatement b) later no_0 no_1 = let no : false ≡ true = later in cc
statement_past_3 (statements.ReturnStatement b) later no_0 no_1 = let no : false ≡ true = later in cc
statement_past_3 (statements.ThrowStatement b) later no_0 no_1 = let no : false ≡ true = later in cc
statement_past_3 (statements.DebuggerStatement b) later no_0 no_1 = let no : false ≡ true = later in cc
statement_past_3 (statements.SwitchStatement b) later no_0 no_1 = absurd (no_0 b refl)
statement_past_3 (statements.TryStatement b) later no_0 no_1 = absurd (no_1 b refl)
statement_past_3 n later no_0 no_1 = refl

pub statement_past_4 : {N : Type 0} (n : Statement N) → nat_le 4 (statement_part n) ≡ true → IsNot n statements.ImportDeclaration → IsNot n statements.ExportDeclaration → IsNot n statements.ExportNamedDeclaration → IsNot n statements.ExportFromDeclaration → IsNot n statements.ExportAllDeclaration → IsNot n statements.ExportDefaultDeclaration → ⊥
statement_past_4 (statements.Declaration b) later no_0 no_1 no_2 no_3 no_4 no_5 = let no : false ≡ true = later in cc
statement_past_4 (statements.ExpressionStatement b) later no_0 no_1 no_2 no_3 no_4 no_5 = let no : false ≡ true = later in cc
statement_past_4 (statements.BlockStatement b) later no_0 no_1 no_2 no_3 no_4 no_5 = let no : false ≡ true = later in cc
statement_past_4 (statements.IfStatement b) later no_0 no_1 no_2 no_3 no_4 no_5 = let no : false ≡ true = later in cc
statement_past_4 (statements.EmptyStatement b) later no_0 no_1 no_2 no_3 no_4 no_5 = let no : false ≡ true = later in cc
statement_past_4 (statements.ForStatement b) later no_0 no_1 no_2 no_3 no_4 no_5 = let no : false ≡ true = later in cc
statement_past_4 (statements.ForInStatement b) later no_0 no_1 no_2 no_3 no_4 no_5 = let no : false ≡ true = later in cc
statement_past_4 (statements.ForOfStatement b) later no_0 no_1 no_2 no_3 no_4 no_5 = let no : false ≡ true = later in cc
statement_past_4 (statements.WhileStatement b) later no_0 no_1 no_2 no_3 no_4 no_5 = let no : false ≡ true = later in cc
statement_past_4 (statements.DoWhileStatement b) later no_0 no_1 no_2 no_3 no_4 no_5 = let no : false ≡ true = later in cc
statement_past_4 (statements.LabeledStatement b) later no_0 no_1 no_2 no_3 no_4 no_5 = let no : false ≡ true = later in cc
statement_past_4 (statements.ContinueStatement b) later no_0 no_1 no_2 no_3 no_4 no_5 = let no : false ≡ true = later in cc
statement_past_4 (statements.BreakStatement b) later no_0 no_1 no_2 no_3 no_4 no_5 = let no : false ≡ true = later in cc
statement_past_4 (statements.ReturnStatement b) later no_0 no_1 no_2 no_3 no_4 no_5 = let no : false ≡ true = later in cc
statement_past_4 (statements.ThrowStatement b) later no_0 no_1 no_2 no_3 no_4 no_5 = let no : false ≡ true = later in cc
statement_past_4 (statements.DebuggerStatement b) later no_0 no_1 no_2 no_3 no_4 no_5 = let no : false ≡ true = later in cc
statement_past_4 (statements.SwitchStatement b) later no_0 no_1 no_2 no_3 no_4 no_5 = let no : false ≡ true = later in cc
statement_past_4 (statements.TryStatement b) later no_0 no_1 no_2 no_3 no_4 no_5 = let no : false ≡ true = later in cc
statement_past_4 (statements.ImportDeclaration b) later no_0 no_1 no_2 no_3 no_4 no_5 = absurd (no_0 b refl)
statement_past_4 (statements.ExportDeclaration b) later no_0 no_1 no_2 no_3 no_4 no_5 = absurd (no_1 b refl)
statement_past_4 (statements.ExportNamedDeclaration b) later no_0 no_1 no_2 no_3 no_4 no_5 = absurd (no_2 b refl)
statement_past_4 (statements.ExportFromDeclaration b) later no_0 no_1 no_2 no_3 no_4 no_5 = absurd (no_3 b refl)
statement_past_4 (statements.ExportAllDeclaration b) later no_0 no_1 no_2 no_3 no_4 no_5 = absurd (no_4 b refl)
statement_past_4 (statements.ExportDefaultDeclaration b) later no_0 no_1 no_2 no_3 no_4 no_5 = absurd (no_5 b refl)

pub binding_pattern_past_0 : {N : Type 0} (n : BindingPattern N) → IsNot n binding_patterns.BindingIdentifier → nat_le 1 (binding_pattern_part n) ≡ true
binding_pattern_past_0 (binding_patterns.BindingIdentifier b) no_0 = absurd (no_0 b refl)
binding_pattern_past_0 n no_0 = refl

pub binding_pattern_past_1 : {N : Type 0} (n : BindingPattern N) → nat_le 1 (binding_pattern_part n) ≡ true → IsNot n binding_patterns.ObjectPattern → IsNot n binding_patterns.ArrayPattern → IsNot n binding_patterns.AssignmentPattern → ⊥
binding_pattern_past_1 (binding_patterns.BindingIdentifier b) later no_0 no_1 no_2 = let no : false ≡ true = later in cc
binding_pattern_past_1 (binding_patterns.ObjectPattern b) later no_0 no_1 no_2 = absurd (no_0 b refl)
binding_pattern_past_1 (binding_patterns.ArrayPattern b) later no_0 no_1 no_2 = absurd (no_1 b refl)
binding_pattern_past_1 (binding_patterns.AssignmentPattern b) later no_0 no_1 no_2 = absurd (no_2 b refl)
