use Rattle.jsgen_fields.proofs.Gives.{handed_on}
use Rattle.jsgen_rows.proofs.Objects.{of_object}
use Rattle.jsgen_rows.proofs.options.options_read.Goals as goal

pub returns-in_err-single_quote : goal.returns-in_err-single_quote
returns-in_err-single_quote c = handed_on _ _ _ _ c.from_residual.ensures (λ told. of_object _ _ _ _ _ _ c.as_object.ensures c.if-is_none.ensures (rw (c.in_err-single_quote.ensures told)))

pub returns-in_err-minify : goal.returns-in_err-minify
returns-in_err-minify c = handed_on _ _ _ _ c.from_residual-in_err-minify.ensures (λ told. of_object _ _ _ _ _ _ c.as_object.ensures c.if-is_none.ensures (rw (c.in_ok-single_quote.ensures, c.in_err-minify.ensures told)))

pub returns-in_err-ascii_only : goal.returns-in_err-ascii_only
returns-in_err-ascii_only c = handed_on _ _ _ _ c.from_residual-in_err-ascii_only.ensures (λ told. of_object _ _ _ _ _ _ c.as_object.ensures c.if-is_none.ensures (rw (c.in_ok-single_quote.ensures, c.in_ok-minify.ensures, c.in_err-ascii_only.ensures told)))

pub returns-in_err-comments : goal.returns-in_err-comments
returns-in_err-comments c = handed_on _ _ _ _ c.from_residual-in_err-comments.ensures (λ told. of_object _ _ _ _ _ _ c.as_object.ensures c.if-is_none.ensures (rw (c.in_ok-single_quote.ensures, c.in_ok-minify.ensures, c.in_ok-ascii_only.ensures, c.in_err-comments.ensures told)))

pub returns-in_err-source_map_path : goal.returns-in_err-source_map_path
returns-in_err-source_map_path c = handed_on _ _ _ _ c.from_residual-in_err-source_map_path.ensures (λ told. of_object _ _ _ _ _ _ c.as_object.ensures c.if-is_none.ensures (rw (c.in_ok-single_quote.ensures, c.in_ok-minify.ensures, c.in_ok-ascii_only.ensures, c.in_ok-comments.ensures, c.in_err-source_map_path.ensures told)))

pub returns-in_err-indent_char : goal.returns-in_err-indent_char
returns-in_err-indent_char c = handed_on _ _ _ _ c.from_residual-in_err-indent_char.ensures (λ told. of_object _ _ _ _ _ _ c.as_object.ensures c.if-is_none.ensures (rw (c.in_ok-single_quote.ensures, c.in_ok-minify.ensures, c.in_ok-ascii_only.ensures, c.in_ok-comments.ensures, c.in_ok-source_map_path.ensures, c.in_err-indent_char.ensures told)))

pub returns-in_err-indent_width : goal.returns-in_err-indent_width
returns-in_err-indent_width c = handed_on _ _ _ _ c.from_residual-in_err-indent_width.ensures (λ told. of_object _ _ _ _ _ _ c.as_object.ensures c.if-is_none.ensures (rw (c.in_ok-single_quote.ensures, c.in_ok-minify.ensures, c.in_ok-ascii_only.ensures, c.in_ok-comments.ensures, c.in_ok-source_map_path.ensures, c.in_ok-indent_char.ensures, c.in_err-indent_width.ensures told)))

pub returns-in_err-initial_indent : goal.returns-in_err-initial_indent
returns-in_err-initial_indent c = handed_on _ _ _ _ c.from_residual-in_err-initial_indent.ensures (λ told. of_object _ _ _ _ _ _ c.as_object.ensures c.if-is_none.ensures (rw (c.in_ok-single_quote.ensures, c.in_ok-minify.ensures, c.in_ok-ascii_only.ensures, c.in_ok-comments.ensures, c.in_ok-source_map_path.ensures, c.in_ok-indent_char.ensures, c.in_ok-indent_width.ensures, c.in_err-initial_indent.ensures told)))

pub returns : goal.returns
returns c = of_object _ _ _ _ _ _ c.as_object.ensures c.if-is_none.ensures (rw (c.in_ok-single_quote.ensures, c.in_ok-minify.ensures, c.in_ok-ascii_only.ensures, c.in_ok-comments.ensures, c.in_ok-source_map_path.ensures, c.in_ok-indent_char.ensures, c.in_ok-indent_width.ensures, c.in_ok-initial_indent.ensures))
