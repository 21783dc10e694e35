use Rattle.writing.proofs.Writes.{fault_is}
use Rattle.writing.proofs.writer.fault.Goals as goal

pub returns : goal.returns
returns c = fault_is c.args.case c.write_case.result c.write_case.ensures.0
