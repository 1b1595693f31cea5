-- Where tau reads no empty input, the gap plays no part.
use Rattle.std.proofs.Common.{◌≡◌, ℕ, ◌+◌, List, [], ◌∷◌, ◌++◌}
use Rattle.weighted_relations.specs.Relations.{Relation, Same, IsInput}
use Rattle.weighted_relations.specs.Rewriting.{Manner, obligatory, optional, MayCopy, Rewrites, stop_here, copy, rewrite, Rewritten, Begins as BeginsFull}
use Rattle.rewrite_rules.specs.Gaps.{HasRoom, Begins, NoneBegins, Goes, ends_here, copies, rewrites, GoesWhole}
use Rattle.rewrite_rules.specs.declared.spots.Gap.{Gap}
use Rattle.rewrite_rules.specs.declared.spots.Gap.TheVariants.{Open, Shut}

module _ (T L R : Relation) (some : IsInput T [] → ⊥) where
  room : (g : Gap) (c : ℕ) (u : List ℕ) → HasRoom g (c ∷ u)
  room Open c u = tt
  room Shut c u = tt

  begins_gap : (o r : List ℕ) (g : Gap) (c : ℕ) (u t : List ℕ) → BeginsFull T L R o r c u t → Begins T L R o r g (c ∷ u) t
  begins_gap o r g c u t b = record { parts = b.parts; input = b.input; room = room g c u; ends = b.ends; starts = b.starts }

  begins_full : (o r : List ℕ) (g : Gap) (c : ℕ) (u t : List ℕ) → Begins T L R o r g (c ∷ u) t → BeginsFull T L R o r c u t
  begins_full o r g c u t b = record { parts = b.parts; input = b.input; ends = b.ends; starts = b.starts }

  may_copy : (m : Manner) (o r : List ℕ) (g : Gap) → NoneBegins T L R m o r g → MayCopy T L R m o r
  may_copy optional o r g h = tt
  may_copy obligatory o r g h = λ c u t b. h (c ∷ u) t (begins_gap o r g c u t b)

  never : (o r : List ℕ) (g : Gap) → ((c : ℕ) (u t : List ℕ) → BeginsFull T L R o r c u t → ⊥) → (u t : List ℕ) → Begins T L R o r g u t → ⊥
  never o r g h [] t b = some b.input
  never o r g h (c ∷ u) t b = h c u t (begins_full o r g c u t b)

  none_begins : (m : Manner) (o r : List ℕ) (g : Gap) → MayCopy T L R m o r → NoneBegins T L R m o r g
  none_begins optional o r g h = tt
  none_begins obligatory o r g h = never o r g h

  at_end : (o : List ℕ) (c : ℕ) (u t : List ℕ) → BeginsFull T L R o [] c u t → ⊥
  at_end o c u t b = let e : [] ≡ c ∷ (u ++ t) = b.parts in absurd (cc)

  none_end : (m : Manner) (o : List ℕ) (g : Gap) → NoneBegins T L R m o [] g
  none_end optional o g = tt
  none_end obligatory o g = never o [] g (at_end o)

  goes_on : {m : Manner} {o r : List ℕ} {g : Gap} {y : List ℕ} {w1 w2 : ℕ} (u t v : List ℕ) → Begins T L R o r g u t → T u v w1 → Rewrites T L R m (o ++ v) t y w2 → Rewrites T L R m o r y (w1 + w2)
  goes_on {w1} [] t v b h k = absurd (some (v, w1, h))
  goes_on {o} {r} {g} (c ∷ u) t v b h k = rewrite (begins_full o r g c u t b) h k

  to_full : {m : Manner} {o r : List ℕ} {g : Gap} {y : List ℕ} {w : ℕ} → Goes T L R m o r g y w → Rewrites T L R m o r y w
  to_full (ends_here h) = stop_here
  to_full {m} (copies {o} {r} {c} {g} h k) = copy (may_copy m o (c ∷ r) g h) (to_full k)
  to_full (rewrites {u} {t} {v} b h k) = goes_on u t v b h (to_full k)

  from_full : {m : Manner} {o r y : List ℕ} {w : ℕ} → Rewrites T L R m o r y w → (g : Gap) → Goes T L R m o r g y w
  from_full {m} (stop_here {o}) g = ends_here (none_end m o g)
  from_full {m} (copy {o} {r} {c} h k) g = copies (none_begins m o (c ∷ r) g h) (from_full k Open)
  from_full (rewrite {o} {r} {u} {t} {c} b h k) g = rewrites (begins_gap o r g c u t b) h (from_full k Open)

  pub gapless : (S : Relation) (m : Manner) → Same (GoesWhole T L R S m) (Rewritten T L R S m)
  gapless S m x y w = (
    λ h. record { within = h.within; rewrites = to_full h.goes },
    λ h. record { within = h.within; goes = from_full h.rewrites Open },
  )
