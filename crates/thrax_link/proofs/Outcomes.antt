-- From the one ending to the one outcome.
use Rattle.std.proofs.Common.{◌≡◌, ◌∙◌, refl, sym, ap, subst, ℕ, List, [], Ok, Err}
use Rattle.std.specs.Prelude.{Result, MatchResult, IfOk, All}
use Rattle.norm_base.specs.Files.{Files}
use Rattle.thrax_meaning.specs.declared.table.Entry.{Entry}
use Rattle.weighted_relations.specs.Expressions.{IsSound}
use Rattle.thrax_link.specs.Answers.{IsLinked, IsOutcome}
use Rattle.thrax_link.specs.Exports.{exports_of}
use Rattle.thrax_link.specs.Linking.{Finished, stopped, linked, LinksUnder, Linked, Outcome, exporting, exports, outcome_of}
use Rattle.thrax_link.specs.Progress.{Sole, Stops, Imports, scope_at}
use Rattle.thrax_link.specs.declared.done.Done.{Done}
use Rattle.thrax_link.specs.declared.grammar.Export.{Export}
use Rattle.thrax_link.specs.declared.fault.LinkFault.{LinkFault}
use Rattle.thrax_link.specs.declared.fault.LinkFault.TheVariants.{Refused, ShelfFault, Memory}
use Rattle.thrax_link.proofs.Soundness.{all_sound}

pub starts : (files : Files) (d : Done) (r : Result ℕ LinkFault) (chain : List (List ℕ)) (done : List Finished) (name : List ℕ) → chain ≡ [] → done ≡ []
    → Imports files d r (LinksUnder files 32 chain name 0 done name) → Imports files d r (LinksUnder files 32 [] name 0 [] name)
starts files d r chain done name c e h =
    subst (λ v. Imports files d r (LinksUnder files 32 [] name 0 v name)) e (subst (λ v. Imports files d r (LinksUnder files 32 v name 0 done name)) c h)

pub stopped_linked : (files : Files) (name : List ℕ) (fault : LinkFault) → Stops fault (LinksUnder files 32 [] name 0 [] name) → IsLinked files name (Err fault)
stopped_linked files name (Refused f n why) s = record { end = stopped f n why; links = s.found; is = refl }
stopped_linked files name ShelfFault s = tt
stopped_linked files name Memory s = tt

pub stopped_only : (files : Files) (name : List ℕ) (fault : LinkFault) → Stops fault (LinksUnder files 32 [] name 0 [] name) → (outcome : Outcome) → Linked files name outcome → IsOutcome (Err fault) outcome
stopped_only files name (Refused f n why) s outcome l = l.is ∙ ap outcome_of (s.only l.end l.links)
stopped_only files name ShelfFault s outcome l = tt
stopped_only files name Memory s outcome l = tt

memory_linked : (files : Files) (name : List ℕ) (fault : LinkFault) → fault ≡ Memory → IsLinked files name (Err fault)
memory_linked files name fault e = subst (λ f. IsLinked files name (Err f)) (sym e) tt

memory_only : (fault : LinkFault) (outcome : Outcome) → fault ≡ Memory → IsOutcome (Err fault) outcome
memory_only fault outcome e = subst (λ f. IsOutcome (Err f) outcome) (sym e) tt

pub granted_linked : (files : Files) (name : List ℕ) (done : List Finished) (tables : List (List Entry)) (k : ℕ) (r : Result (List Export) LinkFault) → Sole (LinksUnder files 32 [] name 0 [] name) (linked done (scope_at files tables k))
    → MatchResult r (λ g. (files : Files) → exports (scope_at files tables k) ≡ exports_of g) (λ fault. fault ≡ Memory) → IsLinked files name r
granted_linked files name done tables k (Ok g) s h = record { end = linked done (scope_at files tables k); links = s.found; is = ap exporting (sym (h files)) }
granted_linked files name done tables k (Err fault) s h = memory_linked files name fault h

pub granted_only : (files : Files) (name : List ℕ) (done : List Finished) (tables : List (List Entry)) (k : ℕ) (r : Result (List Export) LinkFault) → Sole (LinksUnder files 32 [] name 0 [] name) (linked done (scope_at files tables k))
    → MatchResult r (λ g. (files : Files) → exports (scope_at files tables k) ≡ exports_of g) (λ fault. fault ≡ Memory) → (outcome : Outcome) → Linked files name outcome → IsOutcome r outcome
granted_only files name done tables k (Ok g) s h outcome l = l.is ∙ ap outcome_of (s.only l.end l.links) ∙ ap exporting (h files)
granted_only files name done tables k (Err fault) s h outcome l = memory_only fault outcome h

pub granted_sound : (r : Result (List Export) LinkFault) → IfOk r (λ g. All (λ rule. IsSound rule.1) (exports_of g))
granted_sound (Ok g) = all_sound g
granted_sound (Err fault) = tt
