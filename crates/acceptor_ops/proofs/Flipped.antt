-- Runs of automata, and an automaton whose marks are turned round.
use Rattle.std.proofs.Common.{◌≡◌, ◌↔◌, ℕ, ◌<◌, Bool, true, false, not, List, [], ◌∷◌, map, length, get_or, refl, sym, ap, subst, ◌∙◌, true≢false}
use Rattle.std.specs.Prelude.{All}
use Rattle.std.proofs.lemmas.List.{length-map, get_or-map}
use Rattle.std.proofs.lemmas.List.Elements.{All-head, All-tail}
use Rattle.weighted_relations.specs.Relations.{IsLabel}
use Rattle.acceptor_ops.specs.Tables.{Table, class_of, step_of, run_from, Accepts, Others, IsTotal}

-- a step stays among the states
pub step_within : (t : Table) → IsTotal t → (s n : ℕ) → s < length t.next → IsLabel n → step_of t s n < length t.next
step_within t total s n l i = total.steps s n l i

pub run_within : (t : Table) → IsTotal t → (x : List ℕ) (s : ℕ) → s < length t.next → All IsLabel x → run_from t s x < length t.next
run_within t total [] s l h = l
run_within t total (n ∷ x) s l h = run_within t total x (step_of t s n) (step_within t total s n l (All-head IsLabel n x h)) (All-tail IsLabel n x h)

-- a run goes by the classes and the next states alone
pub run_same : (t u : Table) → t.classes ≡ u.classes → t.next ≡ u.next → (x : List ℕ) (s : ℕ) → run_from t s x ≡ run_from u s x
run_same t u c e [] s = refl
run_same t u c e (n ∷ x) s = run_same t u c e x (step_of t s n) ∙ ap (λ v. run_from u v x) (ap (λ r. get_or (get_or r s []) (class_of t.classes n) 0) e ∙ ap (λ r. get_or (get_or u.next s []) (class_of r n) 0) c)

module _ (d e : Table) (total : IsTotal d) (start : e.start ≡ d.start) (classes : e.classes ≡ d.classes) (next : e.next ≡ d.next) (marks : e.accepting ≡ map not d.accepting) where
  pub flipped_total : IsTotal e
  flipped_total = record {
    count = ap length marks ∙ length-map d.accepting not ∙ total.count ∙ ap length (sym next);
    start = subst (λ s. s < length e.next) (sym start) (subst (λ r. d.start < length r) (sym next) total.start);
    classes = ap length classes ∙ total.classes;
    within = subst (λ r. (s l : ℕ) → s < length r → IsLabel l → class_of e.classes l < length (get_or r s [])) (sym next)
        (subst (λ c. (s l : ℕ) → s < length d.next → IsLabel l → class_of c l < length (get_or d.next s [])) (sym classes) total.within);
    steps = subst (λ r. (s l : ℕ) → s < length r → IsLabel l → get_or (get_or r s []) (class_of e.classes l) 0 < length r) (sym next)
        (subst (λ c. (s l : ℕ) → s < length d.next → IsLabel l → get_or (get_or d.next s []) (class_of c l) 0 < length d.next) (sym classes) total.steps);
  }

  at : (x : List ℕ) → All IsLabel x → get_or e.accepting (run_from e e.start x) false ≡ not (get_or d.accepting (run_from d d.start x) false)
  at x h =
      let r : run_from e e.start x ≡ run_from d d.start x = run_same e d classes next x e.start ∙ ap (λ s. run_from d s x) start in
      let l : run_from d d.start x < length d.accepting = subst (λ n. run_from d d.start x < n) (sym total.count) (run_within d total x d.start total.start h) in
      ap (λ n. get_or e.accepting n false) r ∙ ap (λ a. get_or a (run_from d d.start x) false) marks ∙ get_or-map not d.accepting (run_from d d.start x) false false l

  pub flipped_accepts : (x : List ℕ) → Accepts e x ↔ Others (Accepts d) x
  flipped_accepts x = (
    λ h. record { labels = h.labels; other = λ k. true≢false (sym h.accepted ∙ at x h.labels ∙ ap not k.accepted) },
    λ h. record { labels = h.labels; accepted = at x h.labels ∙ by h (get_or d.accepting (run_from d d.start x) false) refl },
  )
    where
      by : (h : Others (Accepts d) x) (b : Bool) → get_or d.accepting (run_from d d.start x) false ≡ b → not (get_or d.accepting (run_from d d.start x) false) ≡ true
      by h true q = absurd (h.other (record { labels = h.labels; accepted = q }))
      by h false q = ap not q
