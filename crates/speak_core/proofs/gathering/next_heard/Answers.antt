use Rattle.std.proofs.Common.{◌≡◌, ◌<◌, ◌++◌, ℕ, List, Option, None, Some, IfSome, get_or, length, refl, slice_set}
use Rattle.std.proofs.lemmas.Option.{slice_get-get_or}
use Rattle.std.specs.Option.{option_to_list}
use Rattle.std.specs.declared.alloc.Global.{Global}
use Rattle.std.specs.declared.collections.VecDeque.{VecDeque}
use Rattle.speak_core.specs.Crews.{Takes}
use Rattle.speak_core.specs.declared.batches.Heard.{Heard}
use Rattle.speak_core.proofs.gathering.next_heard.Goals as goal

taken : (queues : List (VecDeque Heard Global)) (worker : ℕ) (d after : VecDeque Heard Global) (r : Option Heard) → worker < length queues → (get_or queues worker d).items ≡ option_to_list r ++ after.items
    → IfSome r (λ h. Takes worker h queues (slice_set queues worker after))
taken queues worker d after None within is = tt
taken queues worker d after (Some h) within is = record { before = get_or queues worker d; after = after; at = slice_get-get_or queues worker d within; next = is; is = refl }

pub returns-clause-takes : goal.returns-clause-takes
returns-clause-takes c = taken c.args.queues.now c.args.worker c.index-queues-worker.result c.pop_front.new.self c.pop_front.result c.requires c.pop_front.ensures.items
