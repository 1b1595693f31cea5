-- How an expander is left by calls, one after another.
use Rattle.std.proofs.Common.{inl, inr}
use Rattle.least_path.specs.Starting.{StopsAfter}

pub stops_later : {A : Type 0} (on up : A → A → Type 0) → ((x y z : A) → on x y → on y z → on x z) → (x y z : A) → on x y → StopsAfter on up y z → StopsAfter on up x z
stops_later on up again x y z h (inl k) = inl (again x y z h k)
stops_later on up again x y z h (inr k) = inr (k.0, again x y k.0 h k.1, k.2)
