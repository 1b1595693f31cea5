-- Every reading of the rewrite has a run of the machine.
use Rattle.std.proofs.Common.{◌≡◌, ◌≤◌, ℕ, zero, suc, ◌+◌, List, [], ◌∷◌, ◌++◌, Some, refl, sym, ◌∙◌, ap, subst, arith, zero-add, append_assoc, add_assoc, append-nil}
use Rattle.std.specs.Prelude.{IsTrue}
use Rattle.std.proofs.lemmas.Bool.{and_parts}
use Rattle.std.proofs.lemmas.List.Elements.{All-head, All-tail, All-nil, All-cons, All-append}
use Rattle.weighted_relations.specs.Relations.{Relation, Same, IsByte}
use Rattle.weighted_relations.specs.Graphs.{stop, step, label}
use Rattle.weighted_relations.specs.Machines.{Path, Reads}
use Rattle.weighted_relations.specs.Rewriting.{Manner, obligatory, optional}
use Rattle.rewrite_rules.specs.Gaps.{gap_after, NoneBegins, Goes, ends_here, copies, rewrites, GoesWhole}
use Rattle.rewrite_rules.specs.Moves.{System, Run, halt, move, moved}
use Rattle.rewrite_rules.specs.Bimachine.{Parts, held_after, gap_left, MayPass, guess, copied, enter, walk, leave, done, bimachine, run, behind}
use Rattle.rewrite_rules.specs.declared.spots.Gap.{Gap}
use Rattle.rewrite_rules.specs.declared.spots.Gap.TheVariants.{Open, Shut}
use Rattle.rewrite_rules.specs.declared.spots.Held.{Held}
use Rattle.rewrite_rules.specs.declared.spots.Held.TheVariants.{Fresh, Used}
use Rattle.rewrite_rules.specs.declared.spots.Spot.{Spot}
use Rattle.rewrite_rules.specs.declared.spots.Spot.TheVariants.{Hub, Outside, Inside}
use Rattle.rewrite_rules.specs.Stands.{IsPlain, Ahead, Stands}
use Rattle.rewrite_rules.proofs.Sound.{run_label, run_append, behind_label, label_append, label_front, RoomAt, gap_from, gap_label, sound}

room_unlabel : (h : Held) (n : ℕ) (u : List ℕ) → RoomAt h (label n u) → RoomAt (held_after h n) u
room_unlabel h zero u r = r
room_unlabel h (suc n) u r = tt

gap_there : (h : Held) → RoomAt h [] → gap_left h ≡ Some (gap_from h [])
gap_there (Fresh Open) r = refl
gap_there (Fresh Shut) r = absurd r
gap_there Used r = refl

plain_label : (n : ℕ) (x t : List ℕ) → IsPlain (label n x ++ t) → IsPlain (x ++ t)
plain_label zero x t h = h
plain_label (suc n) x t h = All-tail IsByte (suc n) (x ++ t) h

low_label : (n : ℕ) (x t : List ℕ) → IsPlain (label n x ++ t) → n ≤ 255
low_label zero x t h = omega arith
low_label (suc n) x t h = (All-head IsByte (suc n) (x ++ t) h).1

plain_rest : (u t : List ℕ) → IsPlain (u ++ t) → IsPlain t
plain_rest [] t h = h
plain_rest (c ∷ u) t h = plain_rest u t (All-tail IsByte c (u ++ t) h)

pub run_tag : (S : System) (s : S.Spot) {x x' y y' : List ℕ} {w w' : ℕ} → x ≡ x' → y ≡ y' → w ≡ w' → Run S s x y w → Run S s x' y' w'
run_tag S s {x} {x'} {y} {y'} {w} {w'} ex ey ew h = subst (λ v. Run S s x' y' v) ew (subst (λ b. Run S s x' b w) ey (subst (λ a. Run S s a y w) ex h))

module _ (p : Parts) (L R S : Relation) (st : Stands p L R S) where
  may_pass : (m : Manner) (g : Gap) (o r : List ℕ) → IsPlain o → IsPlain r → NoneBegins (Reads p.tau) L R m o r g → MayPass m (p.left_accepts (run p.left_step p.left_start o)) (p.may_begin g (behind p r))
  may_pass optional g o r po pr none = tt
  may_pass obligatory g o r po pr none = λ h.
      let both = and_parts (p.left_accepts (run p.left_step p.left_start o)) (p.may_begin g (behind p r)) h in
      let a : Ahead (Reads p.tau) R g r = (st.begins g r pr).0 both.1 in
      none a.u a.t (record { parts = a.parts; input = a.input; room = a.room; ends = (st.left o po).0 both.0; starts = a.starts })

  -- tau's path, and what follows it
  lift : {q : ℕ} {ks u v : List ℕ} {w1 : ℕ} → Path p.tau q ks u v w1 → (s l : ℕ) (h : Held) (t z : List ℕ) (w2 : ℕ) → IsPlain (u ++ t) → RoomAt h u → IsTrue (p.right_accepts (behind p t)) → Run (bimachine p) (Outside (run p.sigma_step s u) (run p.left_step l v) (behind p t) (gap_from h u)) t z w2 → Run (bimachine p) (Inside s l (behind p (u ++ t)) q h) (u ++ t) (v ++ z) (w1 + w2)
  lift (stop fin) s l h t z w2 pl room starts r = move (leave fin starts (gap_there h room)) r
  lift {q} (step {k} {ks} {a} {x} {y} {w} arc path) s l h t z w2 pl room starts r =
      let px : IsPlain (x ++ t) = plain_label a.input x t pl in
      let there : Outside (run p.sigma_step s (label a.input x)) (run p.left_step l (label a.output y)) (behind p t) (gap_from h (label a.input x)) ≡
      Outside (run p.sigma_step (moved p.sigma_step s a.input) x) (run p.left_step (moved p.left_step l a.output) y) (behind p t) (gap_from (held_after h a.input) x) =
      ap (λ n. Outside n (run p.left_step l (label a.output y)) (behind p t) (gap_from h (label a.input x))) (run_label p.sigma_step s a.input x) ∙
      ap (λ n. Outside (run p.sigma_step (moved p.sigma_step s a.input) x) n (behind p t) (gap_from h (label a.input x))) (run_label p.left_step l a.output y) ∙
      ap (Outside (run p.sigma_step (moved p.sigma_step s a.input) x) (run p.left_step (moved p.left_step l a.output) y) (behind p t)) (sym (gap_label h a.input x)) in
      let rest : Run (bimachine p) (Inside (moved p.sigma_step s a.input) (moved p.left_step l a.output) (behind p (x ++ t)) a.next (held_after h a.input)) (x ++ t) (y ++ z) (w + w2) =
      lift path (moved p.sigma_step s a.input) (moved p.left_step l a.output) (held_after h a.input) t z w2 px (room_unlabel h a.input x room) starts
      (subst (λ (k : Spot). Run (bimachine p) k t z w2) there r) in
      run_tag (bimachine p) (Inside s l (behind p (label a.input x ++ t)) q h) (label_append a.input x t) (label_append a.output y z) (sym (add_assoc a.weight w w2))
      (move (walk k arc (low_label a.input x t pl) (st.within (x ++ t) px) (sym (behind_label p a.input (x ++ t)) ∙ ap (behind p) (label_append a.input x t)) (st.sigma_live (moved p.sigma_step s a.input) (x ++ t) px (sound p L R S st rest).ends)) rest)

  record Continues (s : ℕ) (o r : List ℕ) (g : Gap) (y : List ℕ) (w : ℕ) : Type 0 where
    z : List ℕ
    output : y ≡ o ++ z
    goes : Run (bimachine p) (Outside s (run p.left_step p.left_start o) (behind p r) g) r z w

  complete : {o r : List ℕ} {g : Gap} {y : List ℕ} {w : ℕ} → Goes (Reads p.tau) L R p.manner o r g y w → IsPlain o → IsPlain r → (s : ℕ) → IsTrue (p.sigma_accepts (run p.sigma_step s r)) → Continues s o r g y w
  complete (ends_here {o} {g} none) po pr s acc = record {
    z = [];
    output = sym (append-nil o);
    goes = halt (done acc refl (may_pass p.manner g o [] po pr none));
  }
  complete (copies {o} {r} {c} {g} {y} {w} none rest) po pr s acc =
      let here = All-head IsByte c r pr in
      let px : IsPlain r = All-tail IsByte c r pr in
      let ih : Continues (p.sigma_step s c) (o ++ c ∷ []) r Open y w = complete rest (All-append IsByte o (c ∷ []) po (All-cons IsByte c [] here (All-nil IsByte))) px (p.sigma_step s c) acc in
      record {
        z = c ∷ ih.z;
        output = ih.output ∙ append_assoc o (c ∷ []) ih.z;
        goes = run_tag (bimachine p) (Outside s (run p.left_step p.left_start o) (behind p (c ∷ r)) g) (label_front c r here.0) (label_front c ih.z here.0) (zero-add w)
            (move (copied here (st.within r px) refl (st.sigma_live (p.sigma_step s c) r px acc) (may_pass p.manner g o (c ∷ r) po pr none))
            (subst (λ n. Run (bimachine p) (Outside (p.sigma_step s c) n (behind p r) Open) r ih.z w) (run_append p.left_step p.left_start o (c ∷ [])) ih.goes));
      }
  complete (rewrites {o} {r} {g} {u} {t} {v} {y} {w1} {w2} k path rest) po pr s acc =
      let pt : IsPlain (u ++ t) = subst IsPlain k.parts pr in
      let pv : IsPlain v = st.tau_output u v w1 path in
      let there : run p.sigma_step s r ≡ run p.sigma_step (run p.sigma_step s u) t = ap (run p.sigma_step s) k.parts ∙ run_append p.sigma_step s u t in
      let ih : Continues (run p.sigma_step s u) (o ++ v) t (gap_after u) y w2 =
      complete rest (All-append IsByte o v po pv) (plain_rest u t pt) (run p.sigma_step s u) (ap p.sigma_accepts (sym there) ∙ acc) in
      record {
        z = v ++ ih.z;
        output = ih.output ∙ append_assoc o v ih.z;
        goes = subst (λ x. Run (bimachine p) (Outside s (run p.left_step p.left_start o) (behind p x) g) x (v ++ ih.z) (w1 + w2)) (sym k.parts)
            (run_tag (bimachine p) (Outside s (run p.left_step p.left_start o) (behind p (u ++ t)) g) refl refl (zero-add (w1 + w2))
            (move (enter ((st.left o po).1 k.ends) (ap (λ x. p.may_begin g (behind p x)) (sym k.parts) ∙ (st.begins g r pr).1 (record { u = u; t = t; parts = k.parts; input = k.input; room = k.room; starts = k.starts })))
            (lift path.1 s (run p.left_step p.left_start o) (Fresh g) t ih.z w2 pt k.room ((st.right t (plain_rest u t pt)).1 k.starts)
            (subst (λ n. Run (bimachine p) (Outside (run p.sigma_step s u) n (behind p t) (gap_after u)) t ih.z w2) (run_append p.left_step p.left_start o v) ih.goes))));
      }

  from_rewritten : (x y : List ℕ) (w : ℕ) → GoesWhole (Reads p.tau) L R S p.manner x y w → Run (bimachine p) Hub x y w
  from_rewritten x y w h =
      let px : IsPlain x = st.sigma_plain x h.within in
      let k : Continues p.sigma_start [] x Open y w = complete h.goes (All-nil IsByte) px p.sigma_start ((st.sigma x px).1 h.within) in
      run_tag (bimachine p) Hub refl (sym k.output) (zero-add w) (move (guess (st.within x px)) k.goes)

-- the machine's runs read what the rewrite does
pub every_run : (p : Parts) (L R S : Relation) → Stands p L R S → Same (Run (bimachine p) Hub) (GoesWhole (Reads p.tau) L R S p.manner)
every_run p L R S st x y w = (λ h. sound p L R S st h, from_rewritten p L R S st x y w)
