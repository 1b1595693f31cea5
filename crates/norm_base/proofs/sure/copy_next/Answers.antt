use Rattle.std.proofs.Common.{arith}
use Rattle.norm_base.proofs.Moved.{moved}
use Rattle.norm_base.proofs.sure.copy_next.Goals as goal

pub returns-clause-moved : goal.returns-clause-moved
returns-clause-moved c = moved c.args.at c.min-count.result c.args.bytes.now c.copy_from_slice.new.self c.args.into.now (omega arith) c.copy_from_slice.ensures.after
