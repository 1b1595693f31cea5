use Rattle.std.proofs.Common.{◌≡◌, ◌+◌, ◌++◌, ◌∷◌, ℕ, [], Vec, Global, map, length, get_or, ap, ◌∙◌, length-append}
use Rattle.std.proofs.lemmas.List.{map-append}
use Rattle.acceptor_ops.proofs.Filling.{no_lists_more}
use Rattle.acceptor_ops.proofs.buckets.Buckets.empty.Goals as goal

pub loop-init : goal.loop-init
loop-init c =
    let e = ap (map (λ (v : Vec ℕ Global). v.items)) c.new-lists.ensures.items in
    record { count = ap length e; empty = λ d. ap (λ r. get_or r d []) e }

pub loop-preserved : goal.loop-preserved
loop-preserved c =
    let e : map (λ (v : Vec ℕ Global). v.items) c.push.new.self.items ≡ map (λ (v : Vec ℕ Global). v.items) c.loop.lists.items ++ [] ∷ [] =
    ap (map (λ (v : Vec ℕ Global). v.items)) c.in_ok-push.ensures.items ∙ map-append (λ (v : Vec ℕ Global). v.items) c.loop.lists.items (c.new.result ∷ []) ∙ ap (λ r. map (λ (v : Vec ℕ Global). v.items) c.loop.lists.items ++ r ∷ []) c.new.ensures.items in
    record {
      count = ap length e ∙ length-append (map (λ (v : Vec ℕ Global). v.items) c.loop.lists.items) ([] ∷ []) ∙ ap (λ n. n + 1) c.loop.invariant.count;
      empty = λ d. ap (λ r. get_or r d []) e ∙ no_lists_more (map (λ (v : Vec ℕ Global). v.items) c.loop.lists.items) c.loop.invariant.empty d;
    }
