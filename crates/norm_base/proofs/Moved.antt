-- What a copy of the next bytes into a buffer leaves of them.
use Rattle.std.proofs.Common.{◌≡◌, ℕ, ◌+◌, ◌-◌, ◌≤◌, List, ◌++◌, length, take, drop, sym, take-append-drop, arith, length-drop}
use Rattle.std.proofs.lemmas.List.{take_at, drop-drop, length-take-le}

-- n of the bytes from `at` on were copied
pub moved : (at n : ℕ) (bytes copied into : List ℕ)
    → at + n ≤ length bytes → copied ≡ take (at + n - at) (drop at bytes)
    → drop at bytes ≡ take n (copied ++ drop n into) ++ drop (at + n) bytes
moved at n bytes copied into fits is =
    let within : n ≤ length (drop at bytes) = omega (arith, length-drop at bytes) in
    let same : at + n - at ≡ n = omega arith in
    let whole : copied ≡ take n (drop at bytes) = rw same at is in
    let len : length copied ≡ n = rw whole (length-take-le n (drop at bytes) within) in
    rw (take_at copied (drop n into) n len, whole, ← drop-drop n at bytes) (sym (take-append-drop n (drop at bytes)))
