use Rattle.std.proofs.Common.{inl}
use Rattle.jsgen_tool.proofs.Promise.{core_prints, due, prints}
use Rattle.jsgen_tool.proofs.top.run.Goals as goal

-- in one record, so that a wrong answer is refused at its first clause
pub returns : goal.returns
returns g c = record {
  usage = c.work-status.ensures.usage;
  read = c.work-status.ensures.read;
  write = c.work-status.ensures.write;
  input = c.work-status.ensures.input;
  rule = c.work-status.ensures.rule;
  output = c.work-status.ensures.output;
  map = c.work-status.ensures.map;
  legal = c.work-status.ensures.legal;
  kept = c.work-status.ensures.kept;
  due = λ is_command unread.
      due c.work-status.result _ _ _ _ _ (λ usage. c.work-status.ensures.usage.0 usage is_command) c.work-status.ensures.read c.work-status.ensures.write c.work-status.ensures.input unread;
  prints = λ is_print job holds plain quiet.
      prints c.work-status.result _ _ _ _ _ _ _ job (λ usage. c.work-status.ensures.usage.0 usage (inl (inl is_print))) c.work-status.ensures.read c.work-status.ensures.write c.work-status.ensures.input (c.work-status.ensures.output is_print) holds plain quiet;
  core_prints = λ is_print job holds core quiet.
      core_prints c.work-status.result _ _ _ _ _ _ _ job (λ usage. c.work-status.ensures.usage.0 usage (inl (inl is_print))) c.work-status.ensures.read c.work-status.ensures.write c.work-status.ensures.input (c.work-status.ensures.output is_print) holds core quiet;
  memory = c.work-status.ensures.memory;
  said = c.say.ensures;
  taken = c.work-status.ensures.taken;
  idle = c.work-status.ensures.idle;
}
