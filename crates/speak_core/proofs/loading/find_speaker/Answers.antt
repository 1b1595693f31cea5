use Rattle.speak_setup.specs.Setups.{names_of}
use Rattle.speak_core.specs.Accepted.{NamesAsk}
use Rattle.speak_core.specs.Requests.{request_of}
use Rattle.speak_core.specs.Loaded.{FindsPlanned, SpeaksBy}
use Rattle.speak_core.proofs.Found.{both_known, known_before, names_found}
use Rattle.speak_core.proofs.loading.find_speaker.Goals as goal

pub returns-clause-finds : goal.returns-clause-finds
returns-clause-finds g c =
    let request = request_of c.args.request.now in
    let names = names_of c.in_ok-setup.setup in
    both_known (g.H.Shelf.files c.args.shelf.now) c.in_ok-setup.ensures.finds
    (known_before (λ files. FindsPlanned SpeaksBy (NamesAsk files request.mode names) c.find_named.result) (g.H.Shelf.files c.args.shelf.now) (g.H.Shelf.files c.find_setup.new.shelf) c.find_setup.ensures.files c.find_named.ensures.finds)
    (λ files s h. names_found files request names s SpeaksBy c.find_named.result h)
