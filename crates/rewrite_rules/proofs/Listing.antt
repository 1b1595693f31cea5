-- The moves that the code goes over are those of the machine.
use Rattle.std.proofs.Common.{◌≡◌, ◌≤◌, ◌<◌, ◌⊎◌, ◌↔◌, ℕ, zero, suc, List, [], ◌∷◌, length, get_or, Some, refl, sym, ◌∙◌, ap, subst, arith, inl, inr}
use Rattle.std.specs.Prelude.{slice_get, IsTrue}
use Rattle.std.specs.List.{Contains}
use Rattle.std.proofs.lemmas.Option.{slice_get_within}
use Rattle.weighted_relations.specs.declared.Arc.{Arc}
use Rattle.weighted_relations.specs.Relations.{IsByte}
use Rattle.weighted_relations.specs.Machines.{Machine}
use Rattle.acceptor_ops.specs.Tables.{step_of}
use Rattle.rewrite_rules.specs.Moves.{moved}
use Rattle.rewrite_rules.specs.Bimachine.{Parts, Moves, guess, copied, enter, walk, leave}
use Rattle.rewrite_rules.specs.PartsOf.{parts, live_at}
use Rattle.rewrite_rules.specs.Classes.{class_at, first, AreAlike, IsMember}
use Rattle.rewrite_rules.specs.Befores.{before_at, LeadTo}
use Rattle.rewrite_rules.specs.Tables.{Ready}
use Rattle.rewrite_rules.specs.Steps.{IsMove, Below, Guess, CopyOf, copy_step, Pass, Enter, WalkFrom, WalkBy, walk_step, Walk, Leave}
use Rattle.rewrite_rules.specs.declared.arcs.Step.{Step}
use Rattle.rewrite_rules.specs.declared.arcs.Place.{Place}
use Rattle.rewrite_rules.specs.declared.arcs.Tables.{Tables}
use Rattle.rewrite_rules.specs.declared.spots.Gap.{Gap}
use Rattle.rewrite_rules.specs.declared.spots.Gap.TheVariants.{Open}
use Rattle.rewrite_rules.specs.declared.spots.Held.{Held}
use Rattle.rewrite_rules.specs.declared.spots.Spot.{Spot}
use Rattle.rewrite_rules.specs.declared.spots.Spot.TheVariants.{Hub, Outside, Inside}
use Rattle.rewrite_rules.proofs.Drawing.{got_contains, contains_got}

-- the copies of all bytes, one by one
abbrev Copies : Parts → ℕ → ℕ → ℕ → Step → Type 0
Copies p s l b x = (c : ℕ) × (d : ℕ) × IsByte c × (d < p.back_count) × (p.back_step d c ≡ b) × IsTrue (p.sigma_live (p.sigma_step s c)) × (x ≡ copy_step c (Outside (p.sigma_step s c) (p.left_step l c) d Open))

hub_cases : {p : Parts} {i o v : ℕ} {t : Spot} → Moves p Hub i o v t → Guess p p.back_count (record { input = i; output = o; weight = v; to = t })
hub_cases (guess {b} l) = (b, l, refl)

outside_cases : {p : Parts} {s l b : ℕ} {g : Gap} {i o v : ℕ} {t : Spot} → Moves p (Outside s l b g) i o v t →
    Enter p (record { sigma = s; left = l; back = b }) g (record { input = i; output = o; weight = v; to = t }) ⊎
    (Rattle.rewrite_rules.specs.Bimachine.MayPass p.manner (p.left_accepts l) (p.may_begin g b) × Copies p s l b (record { input = i; output = o; weight = v; to = t }))
outside_cases (copied {d} {c} byte dl e on pass) = inr (pass, (c, d, byte, dl, e, on, refl))
outside_cases (enter a h) = inl ((a, h), refl)

inside_cases : {p : Parts} {s l b q : ℕ} {h : Held} {i o v : ℕ} {t : Spot} → Moves p (Inside s l b q h) i o v t →
    Walk p (record { sigma = s; left = l; back = b }) (get_or p.tau.arcs q []) h (length (get_or p.tau.arcs q [])) (record { input = i; output = o; weight = v; to = t }) ⊎
    Leave p (record { sigma = s; left = l; back = b }) q h (record { input = i; output = o; weight = v; to = t })
inside_cases {p} (walk {d} {q} {a} k arc low dl e on) = inl (k, slice_get_within (get_or p.tau.arcs q []) k a arc, (a, arc, (d, low, dl, e, on, refl)))
inside_cases (leave {w} {g} fin acc gl) = inr (w, g, fin, acc, gl, refl)

pub lists_hub : (p : Parts) (x : Step) → Guess p p.back_count x ↔ IsMove p Hub x
lists_hub p x = (λ (b, l, e). subst (IsMove p Hub) (sym e) (guess l), λ k. hub_cases k)

pub lists_inside : (p : Parts) (at : Place) (q : ℕ) (h : Held) (x : Step) → (Leave p at q h x ⊎ Walk p at (get_or p.tau.arcs q []) h (length (get_or p.tau.arcs q [])) x) ↔ IsMove p (Inside at.sigma at.left at.back q h) x
lists_inside p at q h x = (
  λ k. elim k [
    | inl (w, g, fin, acc, gl, e) ↦ subst (IsMove p (Inside at.sigma at.left at.back q h)) (sym e) (leave fin acc gl)
    | inr (i, il, (a, arc, (d, low, dl, to, on, e))) ↦ subst (IsMove p (Inside at.sigma at.left at.back q h)) (sym e) (walk i arc low dl to on)
  ],
  λ k. elim (inside_cases k) [ inl m ↦ inr m | inr m ↦ inl m ],
)

module _ (m : Machine) (t : Tables) (ready : Ready m t) where
  -- one byte of a class stands for all
  copies_to : (at : Place) (x : Step) → Below (CopyOf t at) (length t.classes.members) x → Copies (parts m t.automata) at.sigma at.left at.back x
  copies_to at x (n, nl, (on, (j, jl, (d, is, (c, has, e))))) =
      let member : IsMember t.automata t.classes n c = ready.classes.sound n c has in
      let like : AreAlike t.automata (first t.classes n) c = member.alike in
      let lead : LeadTo t.automata.back (first t.classes n) (length t.automata.back.next) (get_or t.befores n []) = ready.befores.each n nl in
      let from = (lead.sources at.back d).0 (got_contains (before_at t.befores n at.back) j d is) in (
        c,
        d,
        member.byte,
        from.0,
        sym (like.back d) ∙ from.1,
        ap (live_at t.automata.live.items) (sym (like.sigma at.sigma)) ∙ on,
        e ∙ ap (λ s. copy_step c (Outside s (step_of t.automata.left at.left (first t.classes n)) d Open)) (like.sigma at.sigma) ∙ ap (λ l. copy_step c (Outside (step_of t.automata.sigma at.sigma c) l d Open)) (like.left at.left),
      )

  copies_from : (at : Place) (x : Step) → Copies (parts m t.automata) at.sigma at.left at.back x → Below (CopyOf t at) (length t.classes.members) x
  copies_from at x (c, d, byte, dl, e, on, is) =
      let n : ℕ = class_at t.classes c in
      let high : c < 256 = omega (arith, byte.1) in
      let nl : n < length t.classes.members = ready.classes.within c byte.0 high in
      let has : Contains (get_or t.classes.members n []) c = ready.classes.all c byte.0 high in
      let like : AreAlike t.automata (first t.classes n) c = (ready.classes.sound n c has).alike in
      let lead : LeadTo t.automata.back (first t.classes n) (length t.automata.back.next) (get_or t.befores n []) = ready.befores.each n nl in
      let among : Contains (before_at t.befores n at.back) d = (lead.sources at.back d).1 (dl, like.back d ∙ e) in
      let got = contains_got (before_at t.befores n at.back) d among in (
        n,
        nl,
        (
          ap (live_at t.automata.live.items) (like.sigma at.sigma) ∙ on,
          (
            got.0,
            slice_get_within (before_at t.befores n at.back) got.0 d got.1,
            (
              d,
              got.1,
              (
                c,
                has,
                is ∙ ap (λ s. copy_step c (Outside s (step_of t.automata.left at.left c) d Open)) (sym (like.sigma at.sigma)) ∙ ap (λ l. copy_step c (Outside (step_of t.automata.sigma at.sigma (first t.classes n)) l d Open)) (sym (like.left at.left)),
              ),
            ),
          ),
        ),
      )

  pub lists_outside : (at : Place) (g : Gap) (x : Step) → (Enter (parts m t.automata) at g x ⊎ Pass (parts m t.automata) t at g x) ↔ IsMove (parts m t.automata) (Outside at.sigma at.left at.back g) x
  lists_outside at g x = (
    λ k. elim k [
      | inl ((a, h), e) ↦ subst (IsMove (parts m t.automata) (Outside at.sigma at.left at.back g)) (sym e) (enter a h)
      | inr (pass, copies) ↦ go pass (copies_to at x copies)
    ],
    λ k. elim (outside_cases k) [ inl h ↦ inl h | inr (pass, h) ↦ inr (pass, copies_from at x h) ],
  ) where
    go : Rattle.rewrite_rules.specs.Bimachine.MayPass (parts m t.automata).manner ((parts m t.automata).left_accepts at.left) ((parts m t.automata).may_begin g at.back) → Copies (parts m t.automata) at.sigma at.left at.back x → IsMove (parts m t.automata) (Outside at.sigma at.left at.back g) x
    go pass (c, d, byte, dl, to, on, e) = subst (IsMove (parts m t.automata) (Outside at.sigma at.left at.back g)) (sym e) (copied byte dl to on pass)

  -- an arc of tau that reads nothing leaves the backward automaton where it is
  pub walks_empty : (at : Place) (h : Held) (a : Arc) → a.input ≡ 0 → at.back < length t.automata.back.next → (x : Step) → WalkFrom (parts m t.automata) at h a (at.back ∷ []) x ↔ WalkBy (parts m t.automata) at h a x
  walks_empty at h a e l x = (
    λ (on, (k, kl, (d, is, to))). let same : d ≡ at.back = one k d is in (d, omega (arith, e), subst (λ n. n < length t.automata.back.next) (sym same) l, ap (moved (step_of t.automata.back) d) e ∙ same, on, to),
    λ (d, low, dl, at', on, to). let same : d ≡ at.back = sym (ap (moved (step_of t.automata.back) d) e) ∙ at' in (on, (0, omega arith, (at.back, refl, to ∙ ap (walk_step (parts m t.automata) at h a) same))),
  ) where
    one : (k d : ℕ) → slice_get (at.back ∷ []) k ≡ Some d → d ≡ at.back
    one zero d is = cc
    one (suc k) d is = absurd (cc)

  moved_label : (f : ℕ → ℕ → ℕ) (s n : ℕ) → 1 ≤ n → moved f s n ≡ f s n
  moved_label f s zero l = absurd (omega (arith, l))
  moved_label f s (suc n) l = refl

  pub walks_label : (at : Place) (h : Held) (a : Arc) (sources : List ℕ) → 1 ≤ a.input → a.input ≤ 255 → sources ≡ before_at t.befores (class_at t.classes a.input) at.back → (x : Step) → WalkFrom (parts m t.automata) at h a sources x ↔ WalkBy (parts m t.automata) at h a x
  walks_label at h a sources low high is x =
      let n : ℕ = class_at t.classes a.input in
      let top : a.input < 256 = omega arith in
      let nl : n < length t.classes.members = ready.classes.within a.input low top in
      let like : AreAlike t.automata (first t.classes n) a.input = (ready.classes.sound n a.input (ready.classes.all a.input low top)).alike in
      let lead : LeadTo t.automata.back (first t.classes n) (length t.automata.back.next) (get_or t.befores n []) = ready.befores.each n nl in (
        λ (on, (k, kl, (d, at', to))).
            let from = (lead.sources at.back d).0 (got_contains (before_at t.befores n at.back) k d (ap (λ z. slice_get z k) (sym is) ∙ at')) in
            (d, high, from.0, moved_label (step_of t.automata.back) d a.input low ∙ sym (like.back d) ∙ from.1, on, to),
        λ (d, low', dl, to, on, e).
            let got = contains_got (before_at t.befores n at.back) d ((lead.sources at.back d).1 (dl, like.back d ∙ sym (moved_label (step_of t.automata.back) d a.input low) ∙ to)) in
            let at' : slice_get sources got.0 ≡ Some d = ap (λ z. slice_get z got.0) is ∙ got.1 in
            (on, (got.0, slice_get_within sources got.0 d at', (d, at', e))),
      )

  -- an arc of tau that reads a mark is walked nowhere
  pub walks_mark : (at : Place) (h : Held) (a : Arc) → 255 < a.input → (x : Step) → WalkBy (parts m t.automata) at h a x → ⊥
  walks_mark at h a high x (d, low, dl, to, on, e) = omega (arith, low)

  pub source_within : (b n : ℕ) → n < length t.classes.members → b < length t.automata.back.next → b < length (get_or t.befores n [])
  source_within b n nl l = let lead : LeadTo t.automata.back (first t.classes n) (length t.automata.back.next) (get_or t.befores n []) = ready.befores.each n nl in subst (λ k. b < k) (sym lead.count) l
