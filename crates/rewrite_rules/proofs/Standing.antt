-- The automata say of texts what the machine needs.
use Rattle.std.proofs.Common.{◌≡◌, ℕ, ◌<◌, ◌↔◌, List, [], ◌∷◌, ◌++◌, length, Bool, true, false, refl, sym, ◌∙◌, ap, subst, arith, inl, inr, append_assoc, true≢false}
use Rattle.std.specs.Prelude.{All, IsTrue, ◌&&◌, ◌||◌, reverse}
use Rattle.std.proofs.lemmas.List.{reverse-append}
use Rattle.std.proofs.lemmas.Bool.{and_parts, and_from, or_cases}
use Rattle.std.proofs.lemmas.List.Elements.{All-head, All-tail, All-nil, All-cons, All-append}
use Rattle.weighted_relations.specs.Relations.{Relation, IsLabel, IsByte, IsInput}
use Rattle.weighted_relations.specs.RelationLaws.{input_accepted}
use Rattle.weighted_relations.specs.Machines.{Machine, Reads}
use Rattle.weighted_relations.specs.Rewriting.{EndsIn, StartsWith}
use Rattle.acceptor_ops.specs.Tables.{Table, step_of, run_from, IsTotal}
use Rattle.rewrite_rules.specs.Gaps.{HasRoom}
use Rattle.rewrite_rules.specs.Bimachine.{run, behind}
use Rattle.rewrite_rules.specs.Stands.{IsPlain, Ahead, Stands}
use Rattle.rewrite_rules.specs.PartsOf.{parts, accepts_at, live_at, right_of, begins_of, IsDead, AreLive}
use Rattle.rewrite_rules.specs.Languages.{Fronts, LeftText, BackText, Speaks, Conditions}
use Rattle.rewrite_rules.specs.declared.automata.Automata.{Automata}
use Rattle.rewrite_rules.specs.declared.spots.Gap.{Gap}
use Rattle.rewrite_rules.specs.declared.spots.Gap.TheVariants.{Open, Shut}

run_same : (d : Table) (s : ℕ) (x : List ℕ) → run_from d s x ≡ run (step_of d) s x
run_same d s [] = refl
run_same d s (c ∷ x) = run_same d (step_of d s c) x

run_last : (d : Table) (s : ℕ) (x : List ℕ) (c : ℕ) → run_from d s (x ++ c ∷ []) ≡ step_of d (run_from d s x) c
run_last d s [] c = refl
run_last d s (b ∷ x) c = run_last d (step_of d s b) x c

-- what is accepted from a state keeps it live
dead_stays : (d : Table) (s : ℕ) → IsDead d s → (x : List ℕ) → IsPlain x → run (step_of d) s x ≡ s
dead_stays d s h [] px = refl
dead_stays d s h (c ∷ x) px = ap (λ z. run (step_of d) z x) (h.stays c (All-head IsByte c x px)) ∙ dead_stays d s h x (All-tail IsByte c x px)

live_is : (d : Table) (live : List Bool) → AreLive d live → (s : ℕ) (x : List ℕ) → IsPlain x → IsTrue (accepts_at d (run (step_of d) s x)) → IsTrue (live_at live s)
live_is d live h s x px acc = by (live_at live s) refl
  where
    by : (b : Bool) → live_at live s ≡ b → IsTrue (live_at live s)
    by true e = e
    by false e = absurd (true≢false (sym acc ∙ ap (accepts_at d) (dead_stays d s (h.dead s e) x px) ∙ (h.dead s e).accepts))

-- labels
plain_labels : (x : List ℕ) → IsPlain x → All IsLabel x
plain_labels [] h = All-nil IsLabel
plain_labels (c ∷ x) h =
    let k = All-head IsByte c x h in
    All-cons IsLabel c x (k.0, omega (arith, k.1)) (plain_labels x (All-tail IsByte c x h))

front_labels : (x y : List ℕ) → All IsLabel (x ++ y) → All IsLabel x
front_labels [] y h = All-nil IsLabel
front_labels (c ∷ x) y h = All-cons IsLabel c x (All-head IsLabel c (x ++ y) h) (front_labels x y (All-tail IsLabel c (x ++ y) h))

back_labels : (x y : List ℕ) → All IsLabel (x ++ y) → All IsLabel y
back_labels [] y h = h
back_labels (c ∷ x) y h = back_labels x y (All-tail IsLabel c (x ++ y) h)

reverse_labels : (x : List ℕ) → All IsLabel x → All IsLabel (reverse x)
reverse_labels [] h = h
reverse_labels (c ∷ x) h =
    subst (All IsLabel) (sym (reverse-append (c ∷ []) x))
    (All-append IsLabel (reverse x) (c ∷ []) (reverse_labels x (All-tail IsLabel c x h)) (All-cons IsLabel c [] (All-head IsLabel c x h) (All-nil IsLabel)))

-- a plain text in front of the last mark ends before it
split : (u r z : List ℕ) → IsPlain u → r ++ 257 ∷ [] ≡ u ++ z → (t : List ℕ) × (r ≡ u ++ t) × (z ≡ t ++ 257 ∷ [])
split [] r z h e = (r, refl, sym e)
split (c ∷ u) [] z h e = absurd (let k = All-head IsByte c u h in let q : 257 ≡ c = cc in omega (arith, k.1))
split (c ∷ u) (d ∷ r) z h e =
    let q : d ≡ c = cc in
    let s = split u r z (All-tail IsByte c u h) (cc) in
    (s.0, ap (λ x. x ∷ r) q ∙ ap (λ x. c ∷ x) s.1, s.2)

or_left : (a b : Bool) → a ≡ true → (a || b) ≡ true
or_left true b h = refl
or_left false b h = absurd (cc)

or_right : (a b : Bool) → b ≡ true → (a || b) ≡ true
or_right true b h = refl
or_right false b h = h

heads : (a b : ℕ) (x y : List ℕ) → a ∷ x ≡ b ∷ y → (a ≡ b → ⊥) → ⊥
heads a b x y e h = h (cc)

-- a plain text does not begin with a mark
no_mark : (r z : List ℕ) → IsPlain r → r ++ 257 ∷ [] ≡ 256 ∷ z → ⊥
no_mark [] z h e = heads 257 256 [] z e (omega arith)
no_mark (c ∷ r) z h e = let k = All-head IsByte c r h in let q : c ≡ 256 = cc in omega (arith, k.1)

-- the backward automaton's state, by a run
behind_run : (m : Machine) (t : Automata) → t.back_start ≡ step_of t.back t.back.start 257 → (r : List ℕ) → behind (parts m t) r ≡ run_from t.back t.back.start (reverse (r ++ 257 ∷ []))
behind_run m t e [] = e
behind_run m t e (c ∷ r) =
    ap (λ s. step_of t.back s c) (behind_run m t e r) ∙ sym (run_last t.back t.back.start (reverse (r ++ 257 ∷ [])) c) ∙
    ap (run_from t.back t.back.start) (sym (reverse-append (c ∷ []) (r ++ 257 ∷ [])))

mark_labels : (r : List ℕ) → IsPlain r → All IsLabel (r ++ 257 ∷ [])
mark_labels r h = All-append IsLabel r (257 ∷ []) (plain_labels r h) (All-cons IsLabel 257 [] (omega arith, omega arith) (All-nil IsLabel))

module _ (m : Machine) (t : Automata) (L R S : Relation) (au : Speaks (Reads m) L R S t) (fair : Conditions (Reads m) L R S) (total : IsTotal t.back) (live : AreLive t.sigma t.live.items) where
  -- the left automaton
  ends_to : (z : List ℕ) → LeftText L z → EndsIn L z
  ends_to z j = record { front = j.front; back = j.back; parts = j.parts; accepted = (input_accepted L fair.left j.back).0 j.ends }

  ends_from : (z : List ℕ) → All IsLabel z → EndsIn L z → LeftText L z
  ends_from z labels e = record { front = e.front; back = e.back; parts = e.parts; labels = front_labels e.front e.back (subst (All IsLabel) e.parts labels); ends = (input_accepted L fair.left e.back).1 e.accepted }

  -- what follows the front of what the backward automaton accepts
  starts_to : (x middle rest : List ℕ) → x ≡ middle ++ rest → IsInput R middle → StartsWith R x
  starts_to x middle rest e h = record { front = middle; back = rest; parts = e; accepted = (input_accepted R fair.right middle).0 h }

  back_of : (front x : List ℕ) → All IsLabel x → IsInput (Fronts (Reads m)) front → StartsWith R x → BackText (Reads m) R (front ++ x)
  back_of front x labels begins e = record {
    front = front;
    middle = e.front;
    rest = e.back;
    parts = ap (λ v. front ++ v) e.parts;
    begins = begins;
    starts = (input_accepted R fair.right e.front).1 e.accepted;
    labels = back_labels e.front e.back (subst (All IsLabel) e.parts labels);
  }

  by_head : (r x z : List ℕ) → (x ≡ [] → ⊥) → IsPlain x → 256 ∷ r ≡ x ++ z → ⊥
  by_head r [] z h p e = h refl
  by_head r (c ∷ x) z h p e = let k = All-head IsByte c x p in heads 256 c r (x ++ z) e (λ q. omega (arith, k.1))

  right_to : (r : List ℕ) → BackText (Reads m) R (256 ∷ r) → StartsWith R r
  right_to r j = elim j.begins.2 [
    | inl h ↦ absurd (by_head r j.front (j.middle ++ j.rest) h.some (fair.tau_unmarked j.front j.begins.0 j.begins.1 h.reads).0 j.parts)
    | inr h ↦
        let e : 256 ∷ r ≡ 256 ∷ (j.middle ++ j.rest) = j.parts ∙ ap (λ v. v ++ (j.middle ++ j.rest)) h.input in
        let same : r ≡ j.middle ++ j.rest = cc in
        starts_to r j.middle j.rest same j.starts
  ]

  right_from : (r : List ℕ) → All IsLabel r → StartsWith R r → BackText (Reads m) R (256 ∷ r)
  right_from r labels h = back_of (256 ∷ []) r labels (256 ∷ [], 0, inr (record { input = refl; output = refl; weight = refl })) h

  room_shut : (u : List ℕ) → (u ≡ [] → ⊥) → HasRoom Shut u
  room_shut [] h = h refl
  room_shut (c ∷ u) h = tt

  room : (g : Gap) (u : List ℕ) → HasRoom Shut u → HasRoom g u
  room Open u h = tt
  room Shut u h = h

  some_of : (u : List ℕ) → HasRoom Shut u → u ≡ [] → ⊥
  some_of [] h e = h
  some_of (c ∷ u) h e = absurd (cc)

  begins_to : (g : Gap) (r : List ℕ) → IsPlain r → BackText (Reads m) R (r ++ 257 ∷ []) → Ahead (Reads m) R g r
  begins_to g r pr j = elim j.begins.2 [
    | inl h ↦
        let s = split j.front r (j.middle ++ j.rest) (fair.tau_unmarked j.front j.begins.0 j.begins.1 h.reads).0 j.parts in
        record { u = j.front; t = s.0; parts = s.1; input = (j.begins.0, j.begins.1, h.reads); room = room g j.front (room_shut j.front h.some); starts = starts_to (s.0 ++ 257 ∷ []) j.middle j.rest (sym s.2) j.starts }
    | inr h ↦ absurd (no_mark r (j.middle ++ j.rest) pr (j.parts ∙ ap (λ v. v ++ (j.middle ++ j.rest)) h.input))
  ]

  begins_from : (r u z : List ℕ) → IsPlain r → r ≡ u ++ z → IsInput (Reads m) u → HasRoom Shut u → StartsWith R (z ++ 257 ∷ []) → BackText (Reads m) R (r ++ 257 ∷ [])
  begins_from r u z pr e input some starts =
      let at : r ++ 257 ∷ [] ≡ u ++ (z ++ 257 ∷ []) = ap (λ v. v ++ 257 ∷ []) e ∙ append_assoc u z (257 ∷ []) in
      let labels : All IsLabel (z ++ 257 ∷ []) = back_labels u (z ++ 257 ∷ []) (subst (All IsLabel) at (mark_labels r pr)) in
      subst (BackText (Reads m) R) (sym at) (back_of u (z ++ 257 ∷ []) labels (input.0, input.1, inl (record { reads = input.2; some = some_of u some })) starts)

  -- what the tests of a backward state say
  right_is : (r : List ℕ) → IsPlain r → IsTrue (right_of t.back (behind (parts m t) r)) ↔ StartsWith R (r ++ 257 ∷ [])
  right_is r pr =
      let z = r ++ 257 ∷ [] in
      let labels : All IsLabel (256 ∷ z) = All-cons IsLabel 256 z (omega arith, omega arith) (mark_labels r pr) in
      let at : step_of t.back (behind (parts m t) r) 256 ≡ run_from t.back t.back.start (reverse (256 ∷ z)) =
      ap (λ s. step_of t.back s 256) (behind_run m t au.back_start r) ∙ sym (run_last t.back t.back.start (reverse z) 256) ∙ ap (run_from t.back t.back.start) (sym (reverse-append (256 ∷ []) z)) in (
        λ h. right_to z ((au.back (256 ∷ z)).0 (record { labels = reverse_labels (256 ∷ z) labels; accepted = ap (accepts_at t.back) (sym at) ∙ h })),
        λ h. ap (accepts_at t.back) at ∙ ((au.back (256 ∷ z)).1 (right_from z (mark_labels r pr) h)).accepted,
      )

  some_begins : (r : List ℕ) → IsPlain r → IsTrue (accepts_at t.back (behind (parts m t) r)) ↔ BackText (Reads m) R (r ++ 257 ∷ [])
  some_begins r pr =
      let z = r ++ 257 ∷ [] in
      let at = behind_run m t au.back_start r in (
        λ h. (au.back z).0 (record { labels = reverse_labels z (mark_labels r pr); accepted = ap (accepts_at t.back) (sym at) ∙ h }),
        λ h. ap (accepts_at t.back) at ∙ ((au.back z).1 h).accepted,
      )

  begins_is : (g : Gap) (r : List ℕ) → IsPlain r → IsTrue (begins_of t.back t.inserts g (behind (parts m t) r)) ↔ Ahead (Reads m) R g r
  begins_is Shut r pr = (
    λ h. begins_to Shut r pr ((some_begins r pr).0 h),
    λ a. (some_begins r pr).1 (begins_from r a.u a.t pr a.parts a.input a.room a.starts),
  )
  begins_is Open r pr = (
    λ h. elim (or_cases (accepts_at t.back (behind (parts m t) r)) (t.inserts && right_of t.back (behind (parts m t) r)) h) [
      | inl k ↦ begins_to Open r pr ((some_begins r pr).0 k)
      | inr k ↦
          let both = and_parts t.inserts (right_of t.back (behind (parts m t) r)) k in
          record { u = []; t = r; parts = refl; input = au.inserts.0 both.0; room = tt; starts = (right_is r pr).0 both.1 }
    ],
    λ a. by_input a.u a.t a.parts a.input a.starts,
  ) where
    by_input : (u z : List ℕ) → r ≡ u ++ z → IsInput (Reads m) u → StartsWith R (z ++ 257 ∷ []) → IsTrue (begins_of t.back t.inserts Open (behind (parts m t) r))
    by_input [] z e input starts =
        let here : IsTrue (right_of t.back (behind (parts m t) r)) = (right_is r pr).1 (subst (λ v. StartsWith R (v ++ 257 ∷ [])) (sym e) starts) in
        or_right (accepts_at t.back (behind (parts m t) r)) (t.inserts && right_of t.back (behind (parts m t) r)) (and_from t.inserts (right_of t.back (behind (parts m t) r)) (au.inserts.1 input) here)
    by_input (c ∷ u) z e input starts =
        or_left (accepts_at t.back (behind (parts m t) r)) (t.inserts && right_of t.back (behind (parts m t) r)) ((some_begins r pr).1 (begins_from r (c ∷ u) z pr e input tt starts))

  within : (r : List ℕ) → IsPlain r → behind (parts m t) r < length t.back.next
  within [] h = subst (λ n. n < length t.back.next) (sym au.back_start) (total.steps t.back.start 257 total.start (omega arith, omega arith))
  within (c ∷ r) h =
      let k = All-head IsByte c r h in
      total.steps (behind (parts m t) r) c (within r (All-tail IsByte c r h)) (k.0, omega (arith, k.1))

  pub stands : Stands (parts m t) L R S
  stands = record {
    sigma = λ x px. (
      λ h. (input_accepted S fair.sigma x).0 ((au.sigma x).0 (record { labels = plain_labels x px; accepted = ap (accepts_at t.sigma) (run_same t.sigma t.sigma.start x) ∙ h })),
      λ h. ap (accepts_at t.sigma) (sym (run_same t.sigma t.sigma.start x)) ∙ ((au.sigma x).1 ((input_accepted S fair.sigma x).1 h)).accepted,
    );
    sigma_live = live_is t.sigma t.live.items live;
    sigma_plain = λ x a. (fair.sigma_unmarked x x a.0 a.1).0;
    tau_input = λ u v w h. (fair.tau_unmarked u v w h).0;
    tau_output = λ u v w h. (fair.tau_unmarked u v w h).1;
    left = λ o po.
        let labels : All IsLabel (256 ∷ o) = All-cons IsLabel 256 o (omega arith, omega arith) (plain_labels o po) in
        let at : run (step_of t.left) t.left_start o ≡ run_from t.left t.left.start (256 ∷ o) = ap (λ s. run (step_of t.left) s o) au.left_start ∙ sym (run_same t.left (step_of t.left t.left.start 256) o) in (
          λ h. ends_to (256 ∷ o) ((au.left (256 ∷ o)).0 (record { labels = labels; accepted = ap (accepts_at t.left) (sym at) ∙ h })),
          λ h. ap (accepts_at t.left) at ∙ ((au.left (256 ∷ o)).1 (ends_from (256 ∷ o) labels h)).accepted,
        );
    right = right_is;
    begins = begins_is;
    within = within;
  }
