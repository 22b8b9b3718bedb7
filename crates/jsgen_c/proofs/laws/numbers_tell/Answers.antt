use Rattle.jsgen_c.proofs.Numbers.{numbers_tell, build_numbers_tell}
use Rattle.jsgen_c.proofs.laws.numbers_tell.Goals as goal

pub returns-clause-one : goal.returns-clause-one
returns-clause-one c = numbers_tell

pub returns-clause-all : goal.returns-clause-all
returns-clause-all c = build_numbers_tell
