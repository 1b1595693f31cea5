use Rattle.std.proofs.Common.{◌-◌, arith, ap}
use Rattle.least_path.specs.declared.outputs.Letter.{Letter}
use Rattle.least_path.proofs.Letters.{texts_length, texts_set}
use Rattle.least_path.proofs.outputs.note_longer.Goals as goal

pub index_mut-requires : goal.index_mut-requires
index_mut-requires c =
    let n = texts_length c.args.letters.now.items in
    let v = c.args.letters.now.ok.0 in
    omega (arith, c.requires.some, c.requires.at)

pub returns-clause-texts : goal.returns-clause-texts
returns-clause-texts c =
    let l = c.index_mut.result.now in
    texts_set c.index_mut.result.now c.args.letters.now.items (c.args.at - 1) (record { before = l.before; label = l.label; longer = c.args.number; beside = l.beside }) (ap (λ (t : Letter). t.before) c.index_mut.ensures.value) (ap (λ (t : Letter). t.label) c.index_mut.ensures.value)
