use Rattle.std.proofs.Common.{take}
use Rattle.token_record.specs.Meaning.{token_trees}
use Rattle.shared_cascade.specs.Callers.{IsReady}
use Rattle.normaliser.specs.Searches.{Searched}
use Rattle.normaliser.specs.Loads.{verbaliser_of}
use Rattle.normaliser.specs.Parts.{AreJoined}
use Rattle.normaliser.proofs.normalisers.Normaliser.joined.Given as goal

abbrev pub invariant-loop-i : goal.invariant-loop-i
invariant-loop-i l = AreJoined (verbaliser_of l.self) (token_trees (take l.i l.tokens)) l.words.items × IsReady l.self.shared l.caller × Searched l.self.shared l.initial.caller l.caller
