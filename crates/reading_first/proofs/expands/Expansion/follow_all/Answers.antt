use Rattle.std.proofs.Common.{refl, arith}
use Rattle.std.proofs.lemmas.Option.{slice_get-get_or}
use Rattle.state_table.proofs.Numbering.{keeps_refl}
use Rattle.reading_first.specs.Expanding.{standing}
use Rattle.reading_first.proofs.Steps.{way_there}
use Rattle.reading_first.proofs.expands.Expansion.follow_all.Goals as goal

pub arcs_of-j-end-requires : goal.arcs_of-j-end-requires
arcs_of-j-end-requires c = record { state = (way_there c.args.at c.index.result.now c.self.view_is c.requires.within c.requires.expanding c.index.ensures).within }

pub loop-j-init : goal.loop-j-init
loop-j-init c = record {
  expanding = c.requires.expanding;
  there = slice_get-get_or c.args.self.now.ways c.args.at (standing 0) c.requires.within;
  more = omega arith;
  same = refl;
  keeps = keeps_refl c.args.parts.now;
}
