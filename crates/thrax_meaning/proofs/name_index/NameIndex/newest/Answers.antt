use Rattle.std.proofs.Common.{◌∙◌, ap}
use Rattle.std.specs.HashMap.{get_by}
use Rattle.std.specs.Str.{bytes_eq}
use Rattle.thrax_meaning.proofs.name_index.NameIndex.newest.Goals as goal

pub returns : goal.returns
returns c = λ names h.
    c.copied.ensures ∙ c.get.ensures.value ∙ ap (λ n. get_by (λ k. bytes_eq n k.items) c.args.self.now.places) c.bytes.ensures ∙ h c.args.name.now
