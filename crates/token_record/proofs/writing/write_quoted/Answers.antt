use Rattle.std.proofs.Common.{◌≡◌, ◌∙◌, ap, arith, ℕ, ◌≤◌, List, [], ◌∷◌, ◌++◌, append_assoc, codes, length, take}
use Rattle.std.specs.List.{flat_map}
use Rattle.std.proofs.lemmas.List.{take_all}
use Rattle.token_record.specs.Written.{escape, quoted}
use Rattle.token_record.proofs.writing.write_quoted.Goals as goal

-- after the last byte
all_bytes : (out v : List ℕ) (i : ℕ) → length v ≤ i → (out ++ codes "\"" ++ flat_map escape (take i v)) ++ 34 ∷ [] ≡ out ++ quoted v
all_bytes out v i l = ap (λ z. (out ++ codes "\"" ++ flat_map escape z) ++ 34 ∷ []) (take_all i v l) ∙ simp append_assoc

pub returns : goal.returns
returns c =
    c.in_ok-push-2.ensures.items ∙ ap (λ z. z ++ 34 ∷ []) c.loop-byte.invariant
    ∙ all_bytes c.args.out.now.items c.args.value.now c.loop-byte.byte-index (omega arith)
