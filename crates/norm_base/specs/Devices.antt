-- What the devices in memory hold.
use Rattle.std.specs.Prelude.{ℕ, List}
use Rattle.norm_base.specs.Calls.{Calls}
use Rattle.norm_base.specs.Files.{Files}

-- the bytes that are left, and how many of them a call gives at most
pub record PieceSource : Type 0 where
  pub left : List ℕ
  pub piece : ℕ

-- the bytes that were taken, and how many of them a call takes at most
pub record PieceSink : Type 0 where
  pub held : List ℕ
  pub piece : ℕ

-- a source, some of whose calls fail
pub record FailingSource : Type 0 where
  pub left : List ℕ
  pub piece : ℕ
  pub calls : Calls

-- a sink, some of whose calls fail
pub record FailingSink : Type 0 where
  pub held : List ℕ
  pub piece : ℕ
  pub calls : Calls

-- a shelf, some of whose calls fail
pub record FailingShelf : Type 0 where
  pub files : Files
  pub calls : Calls
