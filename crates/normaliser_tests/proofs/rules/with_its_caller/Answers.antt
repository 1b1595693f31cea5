use Rattle.std.proofs.Common.{List, [], ◌∷◌, ◌++◌, All, subst}
use Rattle.std.proofs.lemmas.List.Elements.{All-head, All-tail}
use Rattle.normaliser.specs.Searches.{IsNewCallerOf}
use Rattle.shared_cascade.specs.declared.callers.Caller.{Caller}
use Rattle.normaliser_tests.proofs.rules.with_its_caller.Goals as goal

last_has : (P : Caller → Type 0) (rest : List Caller) (x : Caller) → All P (rest ++ x ∷ []) → P x
last_has P [] x all = All-head P x [] all
last_has P (y ∷ rest) x all = last_has P rest x (All-tail P y (rest ++ x ∷ []) all)

pub returns : goal.returns
returns c =
    let P = IsNewCallerOf c.args.normaliser in
    let parts = rw c.unwrap-caller.ensures at c.pop.ensures.items in
    let new = last_has P c.pop.new.self.items c.unwrap-caller.result (subst (All P) parts c.requires.ready) in
    record { ready = new.ready }
