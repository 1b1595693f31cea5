use Rattle.std.proofs.Common.{◌≡◌, ℕ, [], Vec, Global, map, length, get_or}
use Rattle.acceptor_ops.proofs.buckets.Buckets.empty.Given as goal

abbrev pub invariant-loop : goal.invariant-loop
invariant-loop l = record {
  count : length (map (λ (v : Vec ℕ Global). v.items) l.lists.items) ≡ l.counter;
  empty : (c : ℕ) → get_or (map (λ (v : Vec ℕ Global). v.items) l.lists.items) c [] ≡ [];
}
