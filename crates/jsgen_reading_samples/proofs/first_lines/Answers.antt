use Rattle.jsgen_reading_samples.proofs.Hashbangs.{before_directive, alone, never_without, behind_blank, behind_statement}
use Rattle.jsgen_reading_samples.proofs.first_lines.Goals as goal

pub returns : goal.returns
returns c = record { before_directive = before_directive; alone = alone; never_without = never_without; behind_blank = behind_blank; behind_statement = behind_statement }
