use Rattle.compose_filter.proofs.Readers.{filtered_reads, whole_reads}
use Rattle.compose_filter.proofs.steps.label_readers.Goals as goal

pub returns-then-sorted : goal.returns-then-sorted
returns-then-sorted c = filtered_reads c.args.label c.args.row.now c.reading.result.now c.reading.ensures.exact

pub returns-else-sorted : goal.returns-else-sorted
returns-else-sorted c = whole_reads c.args.label c.args.row.now
