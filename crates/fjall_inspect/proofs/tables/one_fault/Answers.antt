use Rattle.std.proofs.Common.{rules}
use Rattle.fjall_inspect.proofs.tables.one_fault.Goals as goal

pub returns-clause-one : goal.returns-clause-one
returns-clause-one c = record {
  fault = c.in_ok-new.field-0;
  only = search rules;
  file = c.in_ok-new.ensures.file;
  place = c.in_ok-new.ensures.offset;
  error = c.in_ok-new.ensures.error;
}
