-- Operators as items of the layout.
use Rattle.std.proofs.Common.{◌≡◌, ◌++◌, codes, true, refl}
use Rattle.std.specs.Str.{chars}
use Rattle.jsgen_syntax.specs.Operator.{binary_text, unary_text, update_text}
use Rattle.jsgen_syntax.specs.declared.operator.BinaryOperator.{BinaryOperator}
use Rattle.jsgen_syntax.specs.declared.operator.BinaryOperator.TheVariants as operators
use Rattle.jsgen_syntax.specs.declared.operator.UnaryOperator.{UnaryOperator}
use Rattle.jsgen_syntax.specs.declared.operator.UnaryOperator.TheVariants as unary_operators
use Rattle.jsgen_syntax.specs.declared.operator.UpdateOperator.{UpdateOperator}
use Rattle.jsgen_syntax.specs.declared.operator.UpdateOperator.TheVariants as update_operators
use Rattle.jsgen_syntax.specs.declared.span.Span.{Span}
use Rattle.jsgen_model.specs.Lay.{lay, span_mark}
use Rattle.jsgen_model.specs.Layout.{Pen, written, written_if, space_if}
use Rattle.jsgen_model.specs.Operators.{operator_item, unary_sign, update_item, marked}
use Rattle.jsgen_printer.specs.Printer.{stands_apart, end_of, is_ascii}
use Rattle.jsgen_printer.proofs.Texts.{ascii_chars}

operator_ascii : (o : BinaryOperator) → is_ascii (binary_text o) ≡ true
operator_ascii operators.In = refl
operator_ascii o = refl

-- an operator is its text, apart where it has to be
pub operator_written : (o : BinaryOperator) (pen : Pen) → lay (operator_item o) pen ≡ written (space_if (stands_apart (operator_item o) pen) ++ binary_text o) (end_of (operator_item o)) pen
operator_written operators.In pen = refl
operator_written o pen = refl

pub operator_chars : (o : BinaryOperator) → chars (binary_text o) ≡ binary_text o
operator_chars o = ascii_chars (binary_text o) (operator_ascii o)

unary_ascii : (o : UnaryOperator) → is_ascii (unary_text o) ≡ true
unary_ascii unary_operators.Typeof = refl
unary_ascii o = refl

pub unary_written : (o : UnaryOperator) (pen : Pen) → lay (unary_sign o) pen ≡ written (space_if (stands_apart (unary_sign o) pen) ++ unary_text o) (end_of (unary_sign o)) pen
unary_written unary_operators.Typeof pen = refl
unary_written o pen = refl

-- and with a mark behind the space
pub unary_marked : (o : UnaryOperator) (span : Span) (pen : Pen) → lay (marked span (unary_sign o)) pen ≡ written (unary_text o) (end_of (unary_sign o)) (span_mark span (written_if (stands_apart (unary_sign o) pen) (codes " ") pen))
unary_marked unary_operators.Typeof span pen = refl
unary_marked o span pen = refl

pub unary_chars : (o : UnaryOperator) → chars (unary_text o) ≡ unary_text o
unary_chars o = ascii_chars (unary_text o) (unary_ascii o)

update_ascii : (o : UpdateOperator) → is_ascii (update_text o) ≡ true
update_ascii update_operators.Increment = refl
update_ascii update_operators.Decrement = refl

pub update_written : (o : UpdateOperator) (pen : Pen) → lay (update_item o) pen ≡ written (space_if (stands_apart (update_item o) pen) ++ update_text o) (end_of (update_item o)) pen
update_written update_operators.Increment pen = refl
update_written update_operators.Decrement pen = refl

pub update_marked : (o : UpdateOperator) (span : Span) (pen : Pen) → lay (marked span (update_item o)) pen ≡ written (update_text o) (end_of (update_item o)) (span_mark span (written_if (stands_apart (update_item o) pen) (codes " ") pen))
update_marked update_operators.Increment span pen = refl
update_marked update_operators.Decrement span pen = refl

pub update_chars : (o : UpdateOperator) → chars (update_text o) ≡ update_text o
update_chars o = ascii_chars (update_text o) (update_ascii o)
