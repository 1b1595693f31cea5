use Rattle.std.proofs.Common.{◌≡◌, Some, arith}
use Rattle.fst_core.proofs.Tops.{end_top}
use Rattle.fst_core.proofs.Chained.{empty_reads}
use Rattle.fst_core.proofs.concats.empty_reading.Goals as goal

pub returns-clause-readings : goal.returns-clause-readings
returns-clause-readings c = empty_reads c.finish.result c.new-built.result c.push.new.self c.new.result.items c.new-built.ensures.value c.in_ok-push.ensures.value c.new.ensures.items c.finish.ensures.value

pub returns-clause-top : goal.returns-clause-top
returns-clause-top c = end_top c.finish.result c.new-built.result c.push.new.self c.new.result.items (Some 0) 0 (λ w h. let q : 0 ≡ w = cc in omega arith) c.new-built.ensures.value c.new.ensures.items c.in_ok-push.ensures.value c.finish.ensures.value
