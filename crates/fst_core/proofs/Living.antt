-- The states from which a final one can be reached are those to which the arcs turned round lead from the final ones.
use Rattle.std.specs.Prelude.{◌≡◌, ◌↔◌, ◌+◌, ◌<◌, ◌^◌, ℕ, true, false, List, [], ◌∷◌, Option, Some, None, length}
use Rattle.std.specs.Option.{is_some}
use Rattle.std.specs.List.{Contains}
use Rattle.std.proofs.Common.{refl, sym, ◌∙◌, ap, subst, inl, inr, arith}
use Rattle.std.proofs.lemmas.Bool.{cases_lt}
use Rattle.std.proofs.lemmas.List.Elements.{Contains-append_left, Contains-push, Contains-push_cases}
use Rattle.weighted_relations.specs.declared.Arc.{Arc}
use Rattle.weighted_relations.specs.Graphs.{stop, step, label}
use Rattle.weighted_relations.specs.Machines.{Machine, Path, IsArc, final_of, WellFormed}
use Rattle.fst_core.specs.declared.search.Follow.TheVariants.{Every}
use Rattle.fst_core.specs.States.{States, as_machine}
use Rattle.fst_core.specs.Turned.{turned, TurnedArcs, Below, OneFinal}
use Rattle.fst_core.specs.Reach.{Leads, here, on, Found, Added, LedTo}
use Rattle.fst_core.specs.Useful.{IsAlive, FinalsFound}
use Rattle.fst_core.proofs.Fits.{no_arc, no_end}

pub within_arcs : (m : Machine) (s k : ℕ) (a : Arc) → IsArc m.arcs s k a → s < length m.arcs
within_arcs m s k a h = elim (cases_lt s (length m.arcs)) [ inl l ↦ l | inr l ↦ absurd (no_arc m.arcs s k a l h) ]

pub within_ends : (m : Machine) (s w : ℕ) → WellFormed m → final_of m.finals s ≡ Some w → s < length m.arcs
within_ends m s w sound h = elim (cases_lt s (length m.finals)) [
  | inl l ↦ (let e : length m.finals ≡ length m.arcs = sound.finals in omega arith)
  | inr l ↦ absurd (no_end m.finals s w l h)
]

pub some_of : {X : Type 0} (o : Option X) → is_some o ≡ true → (x : X) × (o ≡ Some x)
some_of (Some x) e = (x, refl)
some_of None e = absurd (cc)

pub none_of : {X : Type 0} (o : Option X) → is_some o ≡ false → o ≡ None
none_of (Some x) e = absurd (cc)
none_of None e = refl

-- the final states, one at a time
pub finals_none : (m : Machine) (old : List ℕ) → FinalsFound m 0 old old
finals_none m old = record { all = λ s w l h. absurd (omega (arith, l)); kept = λ s h. h; only = λ s h. inl h }

pub finals_other : (m : Machine) (k : ℕ) (old new : List ℕ) → FinalsFound m k old new → final_of m.finals k ≡ None → FinalsFound m (k + 1) old new
finals_other m k old new had none = record {
  all = λ s w l h. elim (cases_lt s k) [
    | inl low ↦ had.all s w low h
    | inr high ↦
        let e : s ≡ k = omega arith in
        let no : None ≡ Some w = sym none ∙ ap (final_of m.finals) (sym e) ∙ h in
        absurd (cc)
  ];
  kept = had.kept;
  only = had.only;
}

pub finals_more : (m : Machine) (k w : ℕ) (old : List ℕ) (f g : Found) → FinalsFound m k old f.states → final_of m.finals k ≡ Some w → Added f k g → FinalsFound m (k + 1) old g.states
finals_more m k w old f g had is add =
    let stays : (s : ℕ) → Contains f.states s → Contains g.states s = λ s h. elim add [
      | inl e ↦ subst (λ (v : Found). Contains v.states s) (sym e.1) h
      | inr e ↦ subst (λ (v : Found). Contains v.states s) (sym e.1) (Contains-append_left f.states (k ∷ []) s h)
    ] in
    let there : Contains g.states k = elim add [
      | inl e ↦ subst (λ (v : Found). Contains v.states k) (sym e.1) e.0
      | inr e ↦ subst (λ (v : Found). Contains v.states k) (sym e.1) (Contains-push f.states k)
    ] in
    record {
      all = λ s v l h. elim (cases_lt s k) [
        | inl low ↦ stays s (had.all s v low h)
        | inr high ↦ let e : k ≡ s = omega arith in subst (Contains g.states) e there
      ];
      kept = λ s h. stays s (had.kept s h);
      only = λ s h. elim add [
        | inl e ↦ had.only s (subst (λ (v : Found). Contains v.states s) e.1 h)
        | inr e ↦ elim (Contains-push_cases f.states k s (subst (λ (v : Found). Contains v.states s) e.1 h)) [
          | inl c ↦ had.only s c
          | inr c ↦ inr (w, subst (λ n. final_of m.finals n ≡ Some w) c is)
        ]
      ];
    }

pub added_size : (f : Found) (s : ℕ) (g : Found) → Added f s g → g.size ≡ f.size
added_size f s g add = elim add [ inl e ↦ ap (λ (v : Found). v.size) e.1 | inr e ↦ ap (λ (v : Found). v.size) e.1 ]

-- the arcs turned round make a transducer
pub backwards_sound : (p : Machine) (start at n : ℕ) (b c : States) → WellFormed p → start ≡ p.start → n ≡ length p.arcs → TurnedArcs p (Below (length p.arcs)) b.arcs → OneFinal at n c → b.finals ≡ c.finals → WellFormed (as_machine start b)
backwards_sound p start at n b c sound e m turn one same =
    let count : length b.arcs ≡ length p.arcs = turn.count in
    let ends : length b.finals ≡ n = ap length same ∙ one.count in
    record {
      finals = omega arith;
      start = (let l : p.start < length p.arcs = sound.start in omega arith);
      arcs = λ t j a h.
          let s = turn.only t j a h in
          let f = sound.arcs a.next s.place s.arc s.there in
          let input : a.input ≡ s.arc.input = ap (λ (z : Arc). z.input) s.is in
          let output : a.output ≡ s.arc.output = ap (λ (z : Arc). z.output) s.is in
          let weight : a.weight ≡ s.arc.weight = ap (λ (z : Arc). z.weight) s.is in
          let next : a.next < length p.arcs = within_arcs p a.next s.place s.arc s.there in
          record {
            input = (let q = f.input in omega arith);
            output = (let q = f.output in omega arith);
            weight = subst (λ v. v < 2 ^ 54) (sym weight) f.weight;
            next = omega arith;
          };
      weights = λ s w h.
          let q = one.only s w (ap (λ f. final_of f s) (sym same) ∙ h) in
          subst (λ v. v < 2 ^ 54) (sym q.1) (omega arith);
    }

module _ (m back : Machine) (arcs : TurnedArcs m (Below (length m.arcs)) back.arcs) where
  led_alive : {s t : ℕ} → Leads back Every s t → IsAlive m s → IsAlive m t
  led_alive here h = h
  led_alive (on {t} k a leads there f) h =
      let r = led_alive leads h in
      let s = arcs.only t k a there in
      (label s.arc.input r.0, label s.arc.output r.1, s.arc.weight + r.2, (s.place ∷ r.3.0, step s.there (subst (λ n. Path m n r.3.0 r.0 r.1 r.2) (sym s.next) r.3.1)))

  led_of : {s : ℕ} {ks x y : List ℕ} {w : ℕ} (seeds : List ℕ) → ((t v : ℕ) → final_of m.finals t ≡ Some v → Contains seeds t) → Path m s ks x y w → LedTo back Every seeds s
  led_of seeds ends (stop {s} {w} h) = record { seed = s; is = ends s w h; leads = here }
  led_of seeds ends (step {s} {k} {a} arc path) =
      let r = led_of seeds ends path in
      let j = arcs.all s k a (within_arcs m s k a arc) arc in
      record { seed = r.seed; is = r.is; leads = on j.0 (turned s a) r.leads j.1 tt }

  pub live_found : (seeds found : List ℕ) → WellFormed m → FinalsFound m (length m.arcs) [] seeds → ((t : ℕ) → Contains found t ↔ LedTo back Every seeds t) → (s : ℕ) → Contains found s ↔ IsAlive m s
  live_found seeds found sound ends all s = (
    λ h.
        let r = (all s).0 h in
        elim (ends.only r.seed r.is) [
          | inl c ↦ absurd (omega (arith, c.1))
          | inr e ↦ led_alive r.leads ([], [], e.0, ([], stop e.1))
        ],
    λ h. (all s).1 (led_of seeds (λ t v e. ends.all t v (within_ends m t v sound e) e) h.3.1),
  )
