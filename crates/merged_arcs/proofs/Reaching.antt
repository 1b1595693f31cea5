-- Sets of states that are reached by paths with the same labels and weights.
use Rattle.std.specs.Prelude.{◌≡◌, ℕ, ◌<◌, List, [], ◌∷◌, ◌++◌, length, get_or}
use Rattle.std.specs.List.{Contains}
use Rattle.std.specs.List.Sorted.{IsStrictlyIncreasing}
use Rattle.std.proofs.Common.{refl, sym, subst, arith}
use Rattle.weighted_relations.specs.declared.Arc.{Arc}
use Rattle.weighted_relations.specs.Machines.{Machine}
use Rattle.merged_arcs.specs.Merged.{Alike, IsArcOf, Leads, Reached, Gathers, TwoEnds, EndsDiffer}
use Rattle.merged_arcs.proofs.Readings.{one_in}

-- one arc more
record Last (a : Machine) (s : ℕ) (word : List Arc) (x : Arc) (t : ℕ) : Type 0 where
  pub state : ℕ
  pub leads : Leads a s word state
  pub arc : Arc
  pub is : Contains (get_or a.arcs state []) arc
  pub alike : Alike x arc
  pub next : arc.next ≡ t

last_of : (a : Machine) (s : ℕ) (word : List Arc) (x : Arc) (t : ℕ) → Leads a s (word ++ x ∷ []) t → Last a s word x t
last_of a s [] x t h = record { state = s; leads = refl; arc = h.0; is = h.1; alike = h.2; next = h.3 }
last_of a s (z ∷ word) x t h =
    let r = last_of a h.0.next word x t h.3 in
    record { state = r.state; leads = (h.0, h.1, h.2, r.leads); arc = r.arc; is = r.is; alike = r.alike; next = r.next }

from_last : (a : Machine) (s : ℕ) (word : List Arc) (x : Arc) (t : ℕ) → Last a s word x t → Leads a s (word ++ x ∷ []) t
from_last a s [] x t r = (r.arc, subst (λ n. Contains (get_or a.arcs n []) r.arc) (sym r.leads) r.is, r.alike, r.next)
from_last a s (z ∷ word) x t r =
    let h = r.leads in
    (h.0, h.1, h.2, from_last a h.0.next word x t (record { state = r.state; leads = h.3; arc = r.arc; is = r.is; alike = r.alike; next = r.next }))

one_rises : (s : ℕ) → IsStrictlyIncreasing (s ∷ [])
one_rises s k l = absurd (omega (arith, l))

pub reached_start : (a : Machine) → Reached a (a.start ∷ [])
reached_start a = record {
  word = [];
  states = λ t. (
    λ h. sym (one_in a.start t h),
    λ e. subst (Contains (a.start ∷ [])) e (0, (let l : 0 < length (a.start ∷ []) = omega arith in l), refl),
  );
  order = one_rises a.start;
}

pub reached_more : (a : Machine) (set new : List ℕ) (x : Arc) → Reached a set → Gathers (IsArcOf a set) x new → Reached a new
reached_more a set new x had g = record {
  word = had.word ++ x ∷ [];
  states = λ t. (
    λ h.
        let q = (g.all t).0 h in
        from_last a a.start had.word x t (record { state = q.is.0; leads = (had.states q.is.0).0 q.is.1; arc = q.arc; is = q.is.2; alike = q.alike; next = q.next }),
    λ h.
        let r = last_of a a.start had.word x t h in
        (g.all t).1 (record { arc = r.arc; is = (r.state, (had.states r.state).1 r.leads, r.is); alike = r.alike; next = r.next }),
  );
  order = g.order;
}

pub ends_differ : (a : Machine) (set : List ℕ) → Reached a set → TwoEnds a (Contains set) → EndsDiffer a
ends_differ a set had two = record {
  word = had.word;
  ends = record { one = two.one; other = two.other; first = (had.states two.one).0 two.first; second = (had.states two.other).0 two.second; ends = two.ends };
}
