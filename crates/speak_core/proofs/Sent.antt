-- One thread may hand another the share of a worker, and what came of it.
use denote.Param.Send.{IsSend, recorded_send, sendable, struct_send}
use denote.Struct.Declared.{shape}
use denote.Struct.Struct.{Struct}
use Rattle.std.proofs.Crossing.{crosses}
use Rattle.shared_cascade.proofs.Sent.{caller_field}
use Rattle.shared_cascade.proofs.sweeping.Swept.TheSendSync as swept
use Rattle.speak_core.specs.contracts.batches.Heard as heard
use Rattle.speak_core.specs.contracts.shares.Done as done
use Rattle.speak_core.specs.contracts.shares.Share as share

pub heard_send : IsSend heard.the_row
heard_send = search (crosses, sendable) depth 60 fits 20000

pub done_send : IsSend done.the_row
done_send = recorded_send (Struct (shape done.the_type)) _ _ (done.the_type).to_one (struct_send (shape done.the_type) (
  caller_field,
  (
    search (crosses, sendable, heard_send) depth 60 fits 20000,
    (
      swept.the_field_send,
      tt,
    ),
  ),
))

pub share_send : (lft : _) → IsSend (share.the_row lft)
share_send lft = recorded_send (Struct (shape (share.the_type lft))) _ _ (share.the_type lft).to_one (struct_send (shape (share.the_type lft)) (
  caller_field,
  (
    search (crosses, sendable) depth 60 fits 20000,
    (
      search (crosses, sendable) depth 60 fits 20000,
      (
        search (crosses, sendable) depth 60 fits 20000,
        (
          search (crosses, sendable) depth 60 fits 20000,
          (
            search (crosses, sendable) depth 60 fits 20000,
            tt,
          ),
        ),
      ),
    ),
  ),
))
