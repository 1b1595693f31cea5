use denote.Exit as exit
use denote.Param.Send.{IsSend, arg_send, param_send, recorded_send, sendable, struct_send}
use denote.Struct.Declared.{shape}
use denote.Struct.Struct.{Struct}
use Rattle.std.proofs.Crossing.{crosses}
use Rattle.normaliser_tests.specs.contracts.beside.Worker as worker
use Rattle.shared_cascade.proofs.Sent.{caller_field}
use Rattle.normaliser_tests.proofs.beside.all_said.Goals as goal

-- one thread may hand another a caller with its work
worker_send : IsSend worker.the_row
worker_send = recorded_send (Struct (shape worker.the_type)) _ _ (worker.the_type).to_one (struct_send (shape worker.the_type) (
  caller_field,
  (
    search (crosses, sendable) depth 60 fits 20000,
    tt,
  ),
))

pub map_vec-requires-send-J : goal.map_vec-requires-send-J
map_vec-requires-send-J g c κs within = param_send 1 _ (arg_send _ exit.no _ worker_send)
