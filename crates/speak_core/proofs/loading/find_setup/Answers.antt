use Rattle.std.proofs.Common.{◌≡◌, ◌∙◌, Some, Ok, Err, Option, Result, IfSome, Vec, ℕ, Global, option_map, ap, subst, sym}
use Rattle.std.proofs.lemmas.Option.{IfSome_then}
use Rattle.norm_base.specs.Files.{file_of}
use Rattle.speak_setup.specs.Setups.{SetupNames, SetupText, names_of, outcome_of}
use Rattle.speak_setup.specs.declared.setup.SetupFault.{SetupFault}
use Rattle.speak_core.specs.Accepted.{RequestAsks}
use Rattle.speak_core.specs.Requests.{request_of}
use Rattle.speak_core.specs.Texts.{absent_text}
use Rattle.speak_core.proofs.Found.{absent_only, fault_stops, refusal_stops}
use Rattle.speak_core.proofs.loading.find_setup.Goals as goal

pub returns-in-Ok-None-clause-finds : goal.returns-in-Ok-None-clause-finds
returns-in-Ok-None-clause-finds g c =
    let none = subst (λ (o : Option (Vec ℕ Global)). IfSome (g.H.Shelf.files c.args.shelf.now) (λ known. option_map (λ (bytes : Vec ℕ Global). bytes.items) o ≡ file_of known c.args.request.now.setup.now)) c.in-Ok-None.field-0-is c.in-Ok-None.ensures.found in
    IfSome_then (g.H.Shelf.files c.args.shelf.now) none
    (λ files is. refusal_stops (RequestAsks files (request_of c.args.request.now)) absent_text c.from_slice.result c.refused.result c.refused.ensures c.from_slice.ensures.items (absent_only files (request_of c.args.request.now) (sym is)))

pub returns-in-Ok-clause-finds : goal.returns-in-Ok-clause-finds
returns-in-Ok-clause-finds g c =
    let there = rw c.in-Ok-Some.field-0-is at c.in-Ok-Some.ensures.found in
    IfSome_then (g.H.Shelf.files c.args.shelf.now) there
    (λ files is. record {
      text = c.deref.result.now;
      there = sym is ∙ ap Some (sym c.deref.ensures.value);
      reads = subst (λ need. SetupText need c.deref.result.now (Ok (names_of c.in-Ok.setup))) c.need_of.ensures c.in-Ok.ensures.read;
      only = subst (λ need. (other : Result SetupNames SetupFault) → SetupText need c.deref.result.now other → other ≡ Ok (names_of c.in-Ok.setup)) c.need_of.ensures c.in-Ok.ensures.only;
    })

pub returns-clause-finds : goal.returns-clause-finds
returns-clause-finds g c =
    let there = rw c.in-Ok-Some.field-0-is at c.in-Ok-Some.ensures.found in
    let fault = c.in-Err-read_setup.fault in
    IfSome_then (g.H.Shelf.files c.args.shelf.now) there
    (λ files is. fault_stops files (request_of c.args.request.now) c.deref.result.now fault c.setup.result c.refused-in-Err-read_setup.result c.setup.ensures.told c.refused-in-Err-read_setup.ensures c.setup.ensures.text
    (subst (λ need. IfSome (outcome_of (Err fault)) (λ o. SetupText need c.deref.result.now o)) c.need_of.ensures c.in-Err-read_setup.ensures.read)
    (subst (λ need. IfSome (outcome_of (Err fault)) (λ o. (other : Result SetupNames SetupFault) → SetupText need c.deref.result.now other → other ≡ o)) c.need_of.ensures c.in-Err-read_setup.ensures.only)
    (sym is ∙ ap Some (sym c.deref.ensures.value)))
