use Rattle.jsgen_rules.proofs.Marks.{line_mark, open_mark, close_mark}
use Rattle.jsgen_rules.proofs.comments.is_comment.Goals as goal

pub returns-in-Line : goal.returns-in-Line
returns-in-Line c = rw c.in-Line.is (rw line_mark at c.is_one_line.ensures)

pub returns-in-HtmlOpen : goal.returns-in-HtmlOpen
returns-in-HtmlOpen c = rw c.in-HtmlOpen.is (rw open_mark at c.is_one_line-in-HtmlOpen.ensures)

pub returns-in-HtmlClose : goal.returns-in-HtmlClose
returns-in-HtmlClose c = rw c.in-HtmlClose.is (rw close_mark at c.is_one_line-in-HtmlClose.ensures)
