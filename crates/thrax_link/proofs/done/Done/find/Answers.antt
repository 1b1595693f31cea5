use Rattle.thrax_link.proofs.Placed.{found_place}
use Rattle.thrax_link.proofs.done.Done.find.Goals as goal

pub returns : goal.returns
returns c = λ files. found_place files c.args.self.now c.args.name.now c.newest.result c.requires.aligned (c.newest.ensures c.args.self.now.names.items c.requires.placed)
