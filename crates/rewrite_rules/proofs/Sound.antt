-- Every run of the machine is a reading of the rewrite.
use Rattle.std.proofs.Common.{◌≡◌, ◌≤◌, ℕ, zero, suc, ◌+◌, List, [], ◌∷◌, ◌++◌, Some, refl, sym, ◌∙◌, ap, subst, arith, zero-add, append_assoc, add_assoc, append-nil}
use Rattle.std.specs.Prelude.{IsTrue}
use Rattle.std.proofs.lemmas.Bool.{and_from}
use Rattle.std.proofs.lemmas.List.Elements.{All-nil, All-cons, All-append}
use Rattle.weighted_relations.specs.Relations.{Relation, IsByte}
use Rattle.weighted_relations.specs.Graphs.{stop, step, label}
use Rattle.weighted_relations.specs.Machines.{From, Reads}
use Rattle.weighted_relations.specs.Rewriting.{Manner, obligatory, optional}
use Rattle.rewrite_rules.specs.Gaps.{HasRoom, gap_after, Begins, NoneBegins, Goes, ends_here, copies, rewrites, GoesWhole}
use Rattle.rewrite_rules.specs.Moves.{Run, halt, move, moved}
use Rattle.rewrite_rules.specs.Bimachine.{Parts, held_after, gap_left, MayPass, Moves, guess, copied, enter, walk, leave, Ends, done, bimachine, run, behind}
use Rattle.rewrite_rules.specs.declared.spots.Gap.{Gap}
use Rattle.rewrite_rules.specs.declared.spots.Gap.TheVariants.{Open, Shut}
use Rattle.rewrite_rules.specs.declared.spots.Held.{Held}
use Rattle.rewrite_rules.specs.declared.spots.Held.TheVariants.{Fresh, Used}
use Rattle.rewrite_rules.specs.declared.spots.Spot.{Spot}
use Rattle.rewrite_rules.specs.declared.spots.Spot.TheVariants.{Hub, Outside, Inside}
use Rattle.rewrite_rules.specs.Stands.{IsPlain, Stands}

pub run_label : (f : ℕ → ℕ → ℕ) (q n : ℕ) (x : List ℕ) → run f q (label n x) ≡ run f (moved f q n) x
run_label f q zero x = refl
run_label f q (suc n) x = refl

pub run_append : (f : ℕ → ℕ → ℕ) (q : ℕ) (x y : List ℕ) → run f q (x ++ y) ≡ run f (run f q x) y
run_append f q [] y = refl
run_append f q (c ∷ x) y = run_append f (f q c) x y

pub behind_label : (p : Parts) (n : ℕ) (x : List ℕ) → behind p (label n x) ≡ moved p.back_step (behind p x) n
behind_label p zero x = refl
behind_label p (suc n) x = refl

pub label_append : (n : ℕ) (x y : List ℕ) → label n (x ++ y) ≡ label n x ++ y
label_append zero x y = refl
label_append (suc n) x y = refl

pub label_front : (n : ℕ) (x : List ℕ) → 1 ≤ n → label n x ≡ n ∷ x
label_front zero x l = absurd (omega (arith, l))
label_front (suc n) x l = refl

-- whether a rewrite that ends at once after these has read what it must
abbrev pub RoomAt : Held → List ℕ → Type 0
RoomAt (Fresh g) u = HasRoom g u
RoomAt Used u = Unit {0}

abbrev pub gap_from : Held → List ℕ → Gap
gap_from (Fresh g) u = gap_after u
gap_from Used u = Open

pub room_label : (h : Held) (n : ℕ) (u : List ℕ) → RoomAt (held_after h n) u → RoomAt h (label n u)
room_label h zero u r = r
room_label (Fresh Open) (suc n) u r = tt
room_label (Fresh Shut) (suc n) u r = tt
room_label Used (suc n) u r = tt

pub gap_label : (h : Held) (n : ℕ) (u : List ℕ) → gap_from (held_after h n) u ≡ gap_from h (label n u)
gap_label h zero u = refl
gap_label (Fresh g) (suc n) u = refl
gap_label Used (suc n) u = refl

pub room_end : (h : Held) (g : Gap) → gap_left h ≡ Some g → RoomAt h []
room_end (Fresh Open) g e = tt
room_end (Fresh Shut) g e = absurd (cc)
room_end Used g e = tt

pub gap_end : (h : Held) (g : Gap) → gap_left h ≡ Some g → g ≡ gap_from h []
gap_end (Fresh Open) g e = cc
gap_end (Fresh Shut) g e = absurd (cc)
gap_end Used g e = cc

-- a reading under equal names
pub retag : {tau L R : Relation} {m : Manner} {o r : List ℕ} {g : Gap} {y y' : List ℕ} {w w' : ℕ} → y ≡ y' → w ≡ w' → Goes tau L R m o r g y w → Goes tau L R m o r g y' w'
retag {tau} {L} {R} {m} {o} {r} {g} {y} {y'} {w} {w'} ey ew h = subst (λ v. Goes tau L R m o r g y' v) ew (subst (λ z. Goes tau L R m o r g z w) ey h)

module _ (p : Parts) (L R S : Relation) (st : Stands p L R S) where
  abbrev pub Here : List ℕ → List ℕ → Gap → List ℕ → ℕ → Type 0
  Here = Goes (Reads p.tau) L R p.manner

  -- what the rest of a run says outside of a rewrite
  pub record Out (s l b : ℕ) (g : Gap) (x y : List ℕ) (w : ℕ) : Type 0 where
    pub plain : IsPlain x
    pub guessed : b ≡ behind p x
    pub ends : IsTrue (p.sigma_accepts (run p.sigma_step s x))
    pub goes : (o : List ℕ) → IsPlain o → l ≡ run p.left_step p.left_start o → Here o x g (o ++ y) w

  -- and inside of one
  pub record In (s l b q : ℕ) (h : Held) (x y : List ℕ) (w : ℕ) : Type 0 where
    pub u : List ℕ
    pub t : List ℕ
    pub v : List ℕ
    pub z : List ℕ
    pub w1 : ℕ
    pub w2 : ℕ
    pub input : x ≡ u ++ t
    pub output : y ≡ v ++ z
    pub weight : w ≡ w1 + w2
    pub path : From p.tau q u v w1
    pub plain : IsPlain t
    pub guessed : b ≡ behind p x
    pub ends : IsTrue (p.sigma_accepts (run p.sigma_step s x))
    pub room : RoomAt h u
    pub starts : IsTrue (p.right_accepts (behind p t))
    pub goes : (o : List ℕ) → IsPlain o → run p.left_step l v ≡ run p.left_step p.left_start o → Here o t (gap_from h u) (o ++ z) w2

  abbrev pub Meaning : Spot → List ℕ → List ℕ → ℕ → Type 0
  Meaning Hub x y w = GoesWhole (Reads p.tau) L R S p.manner x y w
  Meaning (Outside s l b g) x y w = Out s l b g x y w
  Meaning (Inside s l b q h) x y w = In s l b q h x y w

  none_begins : (m : Manner) (l b : ℕ) (g : Gap) (o r : List ℕ) → IsPlain o → IsPlain r → l ≡ run p.left_step p.left_start o → b ≡ behind p r → MayPass m (p.left_accepts l) (p.may_begin g b) → NoneBegins (Reads p.tau) L R m o r g
  none_begins optional l b g o r po pr el eb h = tt
  none_begins obligatory l b g o r po pr el eb h = λ u t k.
      let a : IsTrue (p.left_accepts l) = ap p.left_accepts el ∙ (st.left o po).1 k.ends in
      let d : IsTrue (p.may_begin g b) = ap (p.may_begin g) eb ∙ (st.begins g r pr).1 (record { u = u; t = t; parts = k.parts; input = k.input; room = k.room; starts = k.starts }) in
      h (and_from (p.left_accepts l) (p.may_begin g b) a d)

  meaning_tag : (s : Spot) {x x' y y' : List ℕ} {w w' : ℕ} → x ≡ x' → y ≡ y' → w ≡ w' → Meaning s x y w → Meaning s x' y' w'
  meaning_tag s {x} {x'} {y} {y'} {w} {w'} ex ey ew h = subst (λ v. Meaning s x' y' v) ew (subst (λ b. Meaning s x' b w) ey (subst (λ a. Meaning s a y w) ex h))

  sound_end : {s : Spot} {w : ℕ} → Ends p s w → Meaning s [] [] w
  sound_end (done {s} {l} {b} {g} acc e pass) = record {
    plain = All-nil IsByte;
    guessed = e;
    ends = acc;
    goes = λ o po el. retag (sym (append-nil o)) refl (ends_here (none_begins p.manner l b g o [] po (All-nil IsByte) el e pass));
  }

  sound_move : {i o v : ℕ} {s t : Spot} (x y : List ℕ) (w : ℕ) → Moves p s i o v t → Meaning t x y w → Meaning s (label i x) (label o y) (v + w)
  sound_move x y w (guess {b} l) m = meaning_tag Hub refl refl (sym (zero-add w)) (record { within = (st.sigma x m.plain).0 m.ends; goes = m.goes [] (All-nil IsByte) refl })
  sound_move x y w (copied {s} {l} {b} {d} {c} {g} byte dl e on pass) m =
      meaning_tag (Outside s l b g) (sym (label_front c x byte.0)) (sym (label_front c y byte.0)) (sym (zero-add w)) (
      let px : IsPlain (c ∷ x) = All-cons IsByte c x byte m.plain in
      let eb : b ≡ behind p (c ∷ x) = sym e ∙ ap (λ z. p.back_step z c) m.guessed in
      record {
        plain = px;
        guessed = eb;
        ends = m.ends;
        goes = λ o po el. copies (none_begins p.manner l b g o (c ∷ x) po px el eb pass)
            (retag (append_assoc o (c ∷ []) y) refl (m.goes (o ++ c ∷ []) (All-append IsByte o (c ∷ []) po (All-cons IsByte c [] byte (All-nil IsByte)))
            (ap (λ z. p.left_step z c) el ∙ sym (run_append p.left_step p.left_start o (c ∷ [])))));
      })
  sound_move x y w (enter {s} {l} {b} {g} acc ahead) m =
      meaning_tag (Outside s l b g) refl refl (sym (zero-add w)) (
      let pu : IsPlain m.u = st.tau_input m.u m.v m.w1 m.path in
      let pv : IsPlain m.v = st.tau_output m.u m.v m.w1 m.path in
      record {
        plain = subst IsPlain (sym m.input) (All-append IsByte m.u m.t pu m.plain);
        guessed = m.guessed;
        ends = m.ends;
        goes = λ o po el.
            let begins : Begins (Reads p.tau) L R o x g m.u m.t = record {
              parts = m.input;
              input = (m.v, m.w1, m.path);
              room = m.room;
              ends = (st.left o po).0 (ap p.left_accepts (sym el) ∙ acc);
              starts = (st.right m.t m.plain).0 m.starts;
            } in
            retag (append_assoc o m.v m.z ∙ ap (λ k. o ++ k) (sym m.output)) (sym m.weight)
            (rewrites begins m.path (m.goes (o ++ m.v) (All-append IsByte o m.v po pv)
            (ap (λ k. run p.left_step k m.v) el ∙ sym (run_append p.left_step p.left_start o m.v))));
      })
  sound_move x y w (walk {s} {l} {b} {d} {q} {h} {a} k arc high dl e on) m = record {
    u = label a.input m.u;
    t = m.t;
    v = label a.output m.v;
    z = m.z;
    w1 = a.weight + m.w1;
    w2 = m.w2;
    input = ap (label a.input) m.input ∙ label_append a.input m.u m.t;
    output = ap (label a.output) m.output ∙ label_append a.output m.v m.z;
    weight = ap (λ n. a.weight + n) m.weight ∙ sym (add_assoc a.weight m.w1 m.w2);
    path = (k ∷ m.path.0, step arc m.path.1);
    plain = m.plain;
    guessed = sym e ∙ ap (λ n. moved p.back_step n a.input) m.guessed ∙ sym (behind_label p a.input x);
    ends = ap p.sigma_accepts (run_label p.sigma_step s a.input x) ∙ m.ends;
    room = room_label h a.input m.u m.room;
    starts = m.starts;
    goes = λ o po el. subst (λ g. Here o m.t g (o ++ m.z) m.w2) (gap_label h a.input m.u) (m.goes o po (sym (run_label p.left_step l a.output m.v) ∙ el));
  }
  sound_move x y w' (leave {s} {l} {b} {q} {w} {h} {g} fin acc gl) m = record {
    u = [];
    t = x;
    v = [];
    z = y;
    w1 = w;
    w2 = w';
    input = refl;
    output = refl;
    weight = refl;
    path = ([], stop fin);
    plain = m.plain;
    guessed = m.guessed;
    ends = m.ends;
    room = room_end h g gl;
    starts = ap p.right_accepts (sym m.guessed) ∙ acc;
    goes = λ o po el. subst (λ k. Here o x k (o ++ y) w') (gap_end h g gl) (m.goes o po el);
  }

  pub sound : {s : Spot} {x y : List ℕ} {w : ℕ} → Run (bimachine p) s x y w → Meaning s x y w
  sound (halt e) = sound_end e
  sound (move {x} {y} {w} m r) = sound_move x y w m (sound r)
