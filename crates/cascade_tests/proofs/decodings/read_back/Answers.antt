use Rattle.std.proofs.Common.{◌<◌, List, ℕ, take, ◌∙◌, ap, arith}
use Rattle.state_tuples.specs.Cascades.{end_of}
use Rattle.state_tuples.specs.Codes.{IsExpansionCode, code_of}
use Rattle.state_tuples.proofs.CodedExpansions.{is_code}
use Rattle.cascade_tests.proofs.decodings.read_back.Goals as goal

pub decode-requires : goal.decode-requires
decode-requires c =
    let cascade = c.args.cascade.now in
    let t = c.args.t.now in
    let x = c.args.x.now in
    let written = c.in-Fits.ensures.code in
    let code : List ℕ = take c.in-Fits.length c.encode.new.into in
    let few : cascade.number < 4294967296 = (let n = c.number-number.ensures.value in let fits = c.number-number.type_inv in omega arith) in
    let coded : IsExpansionCode cascade t code =
    (x.arcs.items, c.requires.expansion.arcs, written.2 ∙ ap (λ end. code_of t end x.arcs.items) c.requires.expansion.finality) in
    record { known = (t, end_of cascade t, x.arcs.items, is_code cascade c.start-start.ensures.sound few t c.requires.known code coded) }
