use Rattle.std.proofs.Common.{subst, sym, ◌≡◌, ℕ, Some}
use Rattle.std.specs.Prelude.{IfSome, IfNone, slice_get}
use Rattle.state_table.proofs.Finding.{found_at, absent_at}
use Rattle.state_table.proofs.tables.StateTable.find.Goals as goal

pub returns-clause-found : goal.returns-clause-found
returns-clause-found g c =
    subst (λ v. IfSome c.get_index_of.result (λ i. slice_get v i ≡ Some c.args.key.now)) c.self.view_is
    (found_at c.self.inside.keys.keys _ c.args.key.now c.get_index_of.result c.get_index_of.ensures.index (λ k e. sym (g.met.K.Key.same c.args.key.now k e)))

pub returns-clause-absent : goal.returns-clause-absent
returns-clause-absent g c =
    subst (λ v. IfNone c.get_index_of.result ((i : ℕ) → slice_get v i ≡ Some c.args.key.now → ⊥)) c.self.view_is
    (absent_at c.self.inside.keys.keys _ c.args.key.now c.get_index_of.result c.get_index_of.ensures.found (g.met.K.Eq.laws.refl c.args.key.now))
