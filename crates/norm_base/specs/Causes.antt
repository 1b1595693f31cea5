-- When a device may answer that it failed.
-- A device counts its faults. The count never falls, a call fails only where it rose, and every
-- other answer leaves it.
use Rattle.std.specs.Prelude.{◌≡◌, ℕ, ◌≤◌, OnOk, OnErr, IsErrOf, Result}
use Rattle.norm_base.specs.Counts.{Rose}
use Rattle.norm_base.specs.declared.device.Failed.{Failed}
use Rattle.norm_base.specs.declared.device.FetchFault.{FetchFault}
use Rattle.norm_base.specs.declared.device.FetchFault.TheVariants.{Failed as FetchFailed, Memory as FetchMemory}
use Rattle.norm_base.specs.declared.device.SinkFault.{SinkFault}
use Rattle.norm_base.specs.declared.device.SinkFault.TheVariants.{Failed as SinkFailed, Memory as SinkMemory}

-- what an answer of a source says of its count before and now
pub record ReadCause {T : Type 0} (before now : ℕ) (result : Result T Failed) : Type 0 where
  pub later : before ≤ now
  pub failed : OnErr result (Rose before now)
  pub kept : OnOk result (now ≡ before)

-- what an answer of a sink says of its count before and now
pub record WriteCause {T : Type 0} (before now : ℕ) (result : Result T SinkFault) : Type 0 where
  pub later : before ≤ now
  pub failed : IsErrOf result SinkFailed → Rose before now
  pub kept : OnOk result (now ≡ before)
  pub memory : IsErrOf result SinkMemory → now ≡ before

-- what an answer of a shelf says of its count before and now
pub record FetchCause {T : Type 0} (before now : ℕ) (result : Result T FetchFault) : Type 0 where
  pub later : before ≤ now
  pub failed : IsErrOf result FetchFailed → Rose before now
  pub kept : OnOk result (now ≡ before)
  pub memory : IsErrOf result FetchMemory → now ≡ before
