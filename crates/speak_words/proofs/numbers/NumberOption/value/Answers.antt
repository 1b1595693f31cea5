use Rattle.std.proofs.Common.{arith}
use Rattle.std.specs.Str.Parse.{ParsesUnsigned, ExplainsUnsignedError, HasUnsignedDigitsIfOk}
use Rattle.clap.specs.Words.{found_of}
use Rattle.speak_words.proofs.Getters.{read_number}
use Rattle.speak_words.proofs.numbers.NumberOption.value.Goals as goal

pub returns : goal.returns
returns c =
    let read = read_number _ (λ bs r. ParsesUnsigned 32 10 bs r × ExplainsUnsignedError 10 bs r × HasUnsignedDigitsIfOk bs r)
    (found_of c.args.matches.now) c.args.self.now.name.now c.args.self.now.least c.args.self.now.most c.args.self.now.default
    c.get_one.result c.requires.found c.requires.least c.requires.most (omega arith) (λ text x gives. gives.0) c.get_one.ensures.none c.get_one.ensures.value in
    record { value = rw c.unwrap_or.ensures read.value; least = rw c.unwrap_or.ensures read.least; most = rw c.unwrap_or.ensures read.most }
