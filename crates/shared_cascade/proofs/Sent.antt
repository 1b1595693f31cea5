-- One thread may hand another a caller.
use denote.Param.Send.{IsSend, sendable, struct_send}
use denote.Struct.Declared.{shape}
use denote.Struct.Struct.{Struct}
use Rattle.std.proofs.Crossing.{crosses}
use Rattle.place_words.proofs.words.Seat.TheSendSync as seat
use Rattle.shared_cascade.specs.contracts.callers.Caller as caller
use Rattle.shared_cascade.specs.contracts.facts.Grammars as grammars
use Rattle.shared_cascade.specs.contracts.facts.GrammarsFact.TheImpl.{ghosts}

pub caller_field : IsSend (Struct (shape caller.the_type))
caller_field = struct_send (shape caller.the_type) (
  seat.the_field_send grammars.the_row grammars.the_row ghosts,
  (
    search (crosses, sendable) depth 60 fits 20000,
    (
      search (crosses, sendable) depth 60 fits 20000,
      (
        search (crosses, sendable) depth 60 fits 20000,
        (
          search (crosses, sendable) depth 60 fits 20000,
          (
            search (crosses, sendable) depth 60 fits 20000,
            tt,
          ),
        ),
      ),
    ),
  ),
)
