use Rattle.std.proofs.Common.{ap, ◌*◌, ◌%◌, bit_xor}
use Rattle.least_path.specs.Mixing.{mixed}
use Rattle.least_path.proofs.hashing.mix.Goals as goal

pub returns : goal.returns
unfolding mixed
returns c = ap (λ n. (bit_xor n c.args.word * 5871781006564002453) % 18446744073709551616) c.rotate_left.ensures
