-- What is seen of the devices of a run: what each holds, where it tells, and how often it has failed.
use Rattle.std.specs.Prelude.{◌≡◌, ◌⊎◌, ℕ, List, Option, IfSome}
use Rattle.norm_base.specs.Counts.{Rose}
use Rattle.norm_base.specs.Files.{Files}
use Rattle.norm_base.specs.declared.device.Shelf.{Ghosts as ShelfOf}
use Rattle.norm_base.specs.declared.device.Sink.{Ghosts as SinkOf}
use Rattle.norm_base.specs.declared.device.Source.{Ghosts as SourceOf}

-- the files of a shelf
pub record ShelfSeen : Type 0 where
  pub files : Option Files
  pub faults : ℕ

-- the bytes that a source has left
pub record SourceSeen : Type 0 where
  pub left : Option (List ℕ)
  pub faults : ℕ

-- the bytes that a sink holds
pub record SinkSeen : Type 0 where
  pub held : Option (List ℕ)
  pub faults : ℕ

-- all four at one time
pub record Devices : Type 0 where
  pub shelf : ShelfSeen
  pub source : SourceSeen
  pub out : SinkSeen
  pub err : SinkSeen

-- before a run, and after it
pub record Observed : Type 0 where
  pub before : Devices
  pub after : Devices

abbrev pub sink_seen : {E : Type 0} → SinkOf E → E → SinkSeen
sink_seen sinks sink = record { held = sinks.held sink; faults = sinks.faults sink }

abbrev pub seen_once : {H S O E : Type 0} → ShelfOf H → SourceOf S → SinkOf O → SinkOf E → H → S → O → E → Devices
seen_once shelves sources outs errs shelf source out err = record {
  shelf = record { files = shelves.files shelf; faults = shelves.faults shelf };
  source = record { left = sources.left source; faults = sources.faults source };
  out = sink_seen outs out;
  err = sink_seen errs err;
}

-- what a run saw of its devices: the words for each kind of them, and then the four before and the four after
abbrev pub seen : {H S O E : Type 0} → ShelfOf H → SourceOf S → SinkOf O → SinkOf E → H → S → O → E → H → S → O → E → Observed
seen shelves sources outs errs shelf source out err shelf' source' out' err' = record {
  before = seen_once shelves sources outs errs shelf source out err;
  after = seen_once shelves sources outs errs shelf' source' out' err';
}

-- the count of the shelf rose
abbrev pub ShelfRose : Observed → Type 0
ShelfRose d = Rose d.before.shelf.faults d.after.shelf.faults

-- the count of the shelf, the source, the output or the errors rose
abbrev pub SomeRose : Observed → Type 0
SomeRose d = ShelfRose d ⊎ (Rose d.before.source.faults d.after.source.faults ⊎ (Rose d.before.out.faults d.after.out.faults ⊎ Rose d.before.err.faults d.after.err.faults))

-- the counts of all four stay
abbrev pub NoneRose : Observed → Type 0
NoneRose d = (d.after.shelf.faults ≡ d.before.shelf.faults) × (d.after.source.faults ≡ d.before.source.faults) × (d.after.out.faults ≡ d.before.out.faults) × (d.after.err.faults ≡ d.before.err.faults)

-- this holds of the files of a shelf and of the input that a source had left, where both were told
abbrev pub OfInput : Option Files → Option (List ℕ) → (Files → List ℕ → Type 0) → Type 0
OfInput files left P = IfSome files (λ known. IfSome left (λ input. P known input))
