use Rattle.std.proofs.Common.{◌≡◌, length}
use Rattle.norm_base.specs.Files.{files_of, file_of}
use Rattle.norm_base.proofs.sure.find_file.Given as goal

abbrev pub invariant-loop-rest : goal.invariant-loop-rest
invariant-loop-rest l = file_of (files_of l.rest) l.name ≡ file_of (files_of l.fn.files) l.fn.name

abbrev pub decreases-loop-rest : goal.decreases-loop-rest
decreases-loop-rest l = length l.rest
