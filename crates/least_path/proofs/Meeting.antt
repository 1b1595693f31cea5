-- A node is met, in a search by lists.
use Rattle.std.proofs.Common.{◌≡◌, ◌≢◌, ◌<◌, ◌⊎◌, ◌↔◌, ℕ, ◌+◌, List, [], ◌++◌, Some, None, Vec, Global, slice_get, set, length, arith, refl, sym, ap, ◌∙◌, subst, inl, inr, length-set, append_assoc}
use Rattle.std.specs.Prelude.{All, Contains}
use Rattle.std.proofs.lemmas.Bool.{cases_lt, cases_eq}
use Rattle.std.proofs.lemmas.List.{append-nil, get_or_past, get_or-set_same, get_or-set_other}
use Rattle.std.proofs.lemmas.List.Elements.{All-weaker}
use Rattle.weighted_relations.specs.Least.{Below}
use Rattle.weighted_relations.specs.Order.{below_refl}
use Rattle.weighted_relations.specs.Searches.{Edges, Under}
use Rattle.weighted_relations.specs.SearchLaws.{under_more}
use Rattle.least_path.specs.declared.node.Node.{Node}
use Rattle.least_path.specs.declared.queue.Entry.{Entry}
use Rattle.least_path.specs.declared.marks.Mark.{Mark}
use Rattle.least_path.specs.declared.marks.Mark.TheVariants.{Unmet, Waiting, Done}
use Rattle.least_path.specs.declared.relaxing.Relaxed.{Relaxed}
use Rattle.least_path.specs.Texts.{text_of, Grows}
use Rattle.least_path.specs.Waiting.{Fits}
use Rattle.least_path.specs.Notes.{Noted, HasOneEnd}
use Rattle.least_path.specs.Marks.{mark_of, best_of, IsShorter}
use Rattle.least_path.specs.Keeps.{IsEdge}
use Rattle.least_path.specs.Growths.{Leading}
use Rattle.least_path.specs.Ending.{Every}
use Rattle.least_path.specs.Passing.{LedOn, Stays, UnderOn}
use Rattle.least_path.specs.Relaxing.{Marked, IsMet, Kept, Gained}
use Rattle.least_path.proofs.Growing.{IsGrowth}
use Rattle.least_path.proofs.Letters.{grows_same, grows_text, grows_trans}
use Rattle.least_path.proofs.Noting.{noted_same, noted_within}
use Rattle.least_path.proofs.Passing.{led_as, stay_led, stay_under, stayed, under_as, under_on_as, unstay_under}
use Rattle.least_path.proofs.Waiters.{fits_grow}

-- what has a best way is within
pub best_within : (marks : List Mark) (k : ℕ) (b : Entry) → best_of (mark_of marks k) ≡ Some b → k < length marks
best_within marks k b h = elim (cases_lt k (length marks)) [
  | inl l ↦ l
  | inr l ↦ (let past : mark_of marks k ≡ Unmet = get_or_past marks k Unmet (omega arith) in let none : None ≡ Some b = sym (ap best_of past) ∙ h in absurd (cc))
]

module _ (old new : Relaxed) (n : Node) (i : ℕ) (mid : List Mark) (noted : Noted Unmet old.nodes new.nodes old.marks.items mid n i) (one_end : HasOneEnd new.nodes) (kept : Kept old) (grows : Grows old.outputs new.outputs) where
  -- a mark that stays is the mark of the same node
  stay : {has : Mark → Entry → Type 0} (m : Node) (v : ℕ) (x : List ℕ) → ((t : Mark) (b : Entry) → has t b → best_of t ≡ Some b) → (h : Marked has old m v x) → mark_of new.marks.items h.number ≡ mark_of old.marks.items h.number → Marked has new m v x
  stay {has} m v x best h same =
      let fits : Fits old.outputs h.way = kept.fits h.number h.way (best (mark_of old.marks.items h.number) h.way h.mark) in
      record {
        number = h.number;
        way = h.way;
        node = noted.stays h.number m h.node;
        mark = subst (λ t. has t h.way) (sym same) h.mark;
        weight = h.weight;
        output = grows_text old.outputs new.outputs grows h.way.output fits.output ∙ h.output;
      }

  was : {has : Mark → Entry → Type 0} (m : Node) (v : ℕ) (x : List ℕ) → ((t : Mark) (b : Entry) → has t b → best_of t ≡ Some b) → (h : Marked has new m v x) → mark_of new.marks.items h.number ≡ mark_of old.marks.items h.number → Marked has old m v x
  was {has} m v x best h same =
      let mark : has (mark_of old.marks.items h.number) h.way = subst (λ t. has t h.way) same h.mark in
      let found : best_of (mark_of old.marks.items h.number) ≡ Some h.way = best (mark_of old.marks.items h.number) h.way mark in
      let fits : Fits old.outputs h.way = kept.fits h.number h.way found in
      let within : h.number < length old.marks.items = best_within old.marks.items h.number h.way found in
      let even = kept.even in
      record {
        number = h.number;
        way = h.way;
        node = noted.only h.number m h.node (omega arith);
        mark = mark;
        weight = h.weight;
        output = sym (grows_text old.outputs new.outputs grows h.way.output fits.output) ∙ h.output;
      }

  pub places_grow : All (λ k. k < length new.nodes) old.lists
  places_grow = All-weaker (λ k. k < length old.nodes) (λ k. k < length new.nodes) (λ k h. let l = noted.longer in omega arith) old.lists kept.places

  new_nodes : (u : ℕ) (z : List ℕ) (k : ℕ) (m : Node) → slice_get new.nodes k ≡ Some m → (slice_get old.nodes k ≡ Some m) ⊎ ((u' : ℕ) × (z' : List ℕ) × LedOn Stays (IsEdge n u z) m u' z')
  new_nodes u z k m h = elim (cases_lt k (length old.nodes)) [
    | inl l ↦ inl (noted.only k m h l)
    | inr l ↦ inr (u, z, stay_led (IsEdge n u z) m u z (noted.new_one k m h l, refl, refl))
  ]

  -- the node of the number is met at a way
  own_met : (b : Entry) → best_of (mark_of new.marks.items i) ≡ Some b → (m : Node) → m ≡ n → IsMet new m b.weight (text_of new.outputs b.output)
  own_met b h m e = record { number = i; way = b; node = subst (λ t. slice_get new.nodes i ≡ Some t) (sym e) noted.number; mark = h; weight = refl; output = refl }

  pub best_fits : (b : Entry) → best_of (mark_of mid i) ≡ Some b → Fits new.outputs b
  best_fits b h = fits_grow old.outputs new.outputs grows b (kept.fits i b (sym (ap best_of (noted_same noted i)) ∙ h))

  pub shorter_below : (weight len : ℕ) (y : List ℕ) → len ≡ length y → (b : Entry) → best_of (mark_of mid i) ≡ Some b → IsShorter b weight len → Below b.weight (text_of new.outputs b.output) weight y
  shorter_below weight len y e b h p =
      let l : b.length ≡ length (text_of new.outputs b.output) = (best_fits b h).length in
      elim p [ inl k ↦ inl k | inr k ↦ inr (k.0, inl (let s : b.length < len = k.1 in omega arith)) ]

  -- where its best way is no greater, nothing changes
  pub gained_passed : new.marks.items ≡ mid → new.lists ≡ old.lists → (w : ℕ) (y : List ℕ) (u : ℕ) (z : List ℕ) (b : Entry) → best_of (mark_of mid i) ≡ Some b → Below b.weight (text_of new.outputs b.output) (w + u) (y ++ z) → Gained Stays Every old new w y (IsEdge n u z)
  gained_passed marked lists w y u z b best below =
      let same : (k : ℕ) → mark_of new.marks.items k ≡ mark_of old.marks.items k = λ k. ap (λ xs. mark_of xs k) marked ∙ noted_same noted k in
      record {
        kept = record {
          one_end = one_end;
          even = ap length marked ∙ noted.even;
          fits = λ k d h. fits_grow old.outputs new.outputs grows d (kept.fits k d (sym (ap best_of (same k)) ∙ h));
          places = subst (All (λ k. k < length new.nodes)) (sym lists) places_grow;
        };
        texts = grows;
        nodes = noted.stays;
        new_nodes = new_nodes u z;
        done = λ m v x h. was m v x (λ t d e. ap best_of e) h (same h.number);
        stays = λ m v x h. record { weight = v; output = x; entry = stay m v x (λ t d e. e) h (same h.number); below = below_refl v x };
        covered = λ m v x e h. stay_under (IsMet new) m (w + v) (y ++ x) (record {
          weight = b.weight;
          output = text_of new.outputs b.output;
          entry = own_met b (ap (λ xs. best_of (mark_of xs i)) marked ∙ best) m e.0;
          below = subst (λ t. Below b.weight (text_of new.outputs b.output) (w + t) (y ++ x)) (sym e.1) (subst (λ t. Below b.weight (text_of new.outputs b.output) (w + u) (y ++ t)) (sym e.2) below);
        });
        sound = λ m v x h. inl (was m v x (λ t d e. e) h (same h.number));
        listed = λ k d h. inr (d, sym (same k) ∙ h);
        queued = λ k h. subst (λ xs. Contains xs k) (sym lists) h;
      }

  -- where not, the way takes the place of the best one, and the node waits
  module _ (e : Entry) (fits : Fits new.outputs e) (marked : new.marks.items ≡ set mid i (Waiting e)) where
    own : mark_of new.marks.items i ≡ Waiting e
    own = ap (λ xs. mark_of xs i) marked ∙ get_or-set_same mid i (Waiting e) Unmet (noted_within noted)

    other : (k : ℕ) → k ≢ i → mark_of new.marks.items k ≡ mark_of old.marks.items k
    other k ne = ap (λ xs. mark_of xs k) marked ∙ get_or-set_other mid i k (Waiting e) Unmet ne ∙ noted_same noted k

    pub gained_better : All (λ k. k < length new.nodes) new.lists → ((k : ℕ) → Contains old.lists k → Contains new.lists k) → Contains new.lists i ⊎ ((d : Entry) × (mark_of old.marks.items i ≡ Waiting d))
        → (w : ℕ) (y : List ℕ) (u : ℕ) (z : List ℕ) → e.weight ≡ w + u → text_of new.outputs e.output ≡ y ++ z
        → ((b : Entry) → best_of (mark_of mid i) ≡ Some b → Below e.weight (text_of new.outputs e.output) b.weight (text_of new.outputs b.output)) → Gained Stays Every old new w y (IsEdge n u z)
    gained_better places queued there w y u z weight output better =
        let found : best_of (mark_of new.marks.items i) ≡ Some e = ap best_of own in
        record {
          kept = record {
            one_end = one_end;
            even = (let l : length new.marks.items ≡ length (set mid i (Waiting e)) = ap length marked in let k = length-set mid i (Waiting e) in let v = noted.even in omega arith);
            fits = λ k d h. elim (cases_eq k i) [
              | inl q ↦
                  let both : Some e ≡ Some d = sym found ∙ ap (λ j. best_of (mark_of new.marks.items j)) (sym q) ∙ h in
                  let same : e ≡ d = cc in
                  subst (Fits new.outputs) same fits
              | inr q ↦ fits_grow old.outputs new.outputs grows d (kept.fits k d (sym (ap best_of (other k q)) ∙ h))
            ];
            places = places;
          };
          texts = grows;
          nodes = noted.stays;
          new_nodes = new_nodes u z;
          done = λ m v x h. elim (cases_eq h.number i) [
            | inl q ↦ (let both : Waiting e ≡ Done h.way = sym own ∙ ap (mark_of new.marks.items) (sym q) ∙ h.mark in absurd (cc))
            | inr q ↦ was m v x (λ t d e. ap best_of e) h (other h.number q)
          ];
          stays = λ m v x h. elim (cases_eq h.number i) [
            | inl q ↦
                let node : m ≡ n =
                let both : Some m ≡ Some n = sym (noted.stays h.number m h.node) ∙ ap (slice_get new.nodes) q ∙ noted.number in cc in
                let old_best : best_of (mark_of mid i) ≡ Some h.way = ap best_of (noted_same noted i) ∙ ap (λ j. best_of (mark_of old.marks.items j)) (sym q) ∙ h.mark in
                let old_fits : Fits old.outputs h.way = kept.fits h.number h.way h.mark in
                let text : text_of new.outputs h.way.output ≡ x = grows_text old.outputs new.outputs grows h.way.output old_fits.output ∙ h.output in
                record {
                  weight = e.weight;
                  output = text_of new.outputs e.output;
                  entry = own_met e found m node;
                  below = subst (λ t. Below e.weight (text_of new.outputs e.output) t x) h.weight (subst (Below e.weight (text_of new.outputs e.output) h.way.weight) text (better h.way old_best));
                }
            | inr q ↦ record { weight = v; output = x; entry = stay m v x (λ t d e. e) h (other h.number q); below = below_refl v x }
          ];
          covered = λ m v x k h. stay_under (IsMet new) m (w + v) (y ++ x) (record {
            weight = e.weight;
            output = text_of new.outputs e.output;
            entry = own_met e found m k.0;
            below =
                let a : e.weight ≡ w + v = weight ∙ ap (λ t. w + t) (sym k.1) in
                let b : text_of new.outputs e.output ≡ y ++ x = output ∙ ap (λ t. y ++ t) (sym k.2) in
                subst (λ t. Below e.weight (text_of new.outputs e.output) t (y ++ x)) a (subst (Below e.weight (text_of new.outputs e.output) e.weight) b (below_refl e.weight (text_of new.outputs e.output)));
          });
          sound = λ m v x h. elim (cases_eq h.number i) [
            | inl q ↦
                let node : m ≡ n =
                let both : Some m ≡ Some n = sym h.node ∙ ap (slice_get new.nodes) q ∙ noted.number in cc in
                let ways : Some h.way ≡ Some e = sym h.mark ∙ ap (λ j. best_of (mark_of new.marks.items j)) q ∙ found in
                let way : h.way ≡ e = cc in
                inr (u, z, stay_led (IsEdge n u z) m u z (node, refl, refl), sym h.weight ∙ ap (λ (d : Entry). d.weight) way ∙ weight, sym h.output ∙ ap (λ (d : Entry). text_of new.outputs d.output) way ∙ output)
            | inr q ↦ inl (was m v x (λ t d e. e) h (other h.number q))
          ];
          listed = λ k d h. elim (cases_eq k i) [
            | inl q ↦ elim there [
              | inl f ↦ inl (subst (Contains new.lists) (sym q) f)
              | inr f ↦ inr (f.0, ap (mark_of old.marks.items) q ∙ f.1)
            ]
            | inr q ↦ inr (d, sym (other k q) ∙ h)
          ];
          queued = queued;
        }

-- where no edge leads to a node that counts, nothing is to be met
pub gained_none : (On : Edges Node) (counts : Node → Type 0) (s : Relaxed) (w : ℕ) (y : List ℕ) (D : Leading) → Kept s → ((n : Node) (u : ℕ) (z : List ℕ) → D n u z → counts n → ⊥) → Gained On counts s s w y D
gained_none On counts s w y D kept empty = record {
  kept = kept;
  texts = grows_same s.outputs s.outputs refl;
  nodes = λ k n h. h;
  new_nodes = λ k n h. inl h;
  done = λ n v x h. h;
  stays = λ n v x h. record { weight = v; output = x; entry = h; below = below_refl v x };
  covered = λ n u z h k. absurd (empty n u z h k);
  sound = λ n v x h. inl h;
  listed = λ k b h. inr (b, h);
  queued = λ k h. h;
}

gained_then : (On : Edges Node) (counts : Node → Type 0) (a b c : Relaxed) (w : ℕ) (y : List ℕ) (D1 D2 D : Leading) → Gained On counts a b w y D1 → Gained On counts b c w y D2
    → ((n : Node) (u : ℕ) (z : List ℕ) → D n u z → D1 n u z ⊎ D2 n u z) → ((n : Node) (u : ℕ) (z : List ℕ) → D1 n u z → D n u z) → ((n : Node) (u : ℕ) (z : List ℕ) → D2 n u z → D n u z) → Gained On counts a c w y D
gained_then On counts a b c w y D1 D2 D f g split first second =
    let later : (n : Node) (v : ℕ) (x : List ℕ) → Under (IsMet b) n v x → Under (IsMet c) n v x = λ n v x h. under_more (IsMet c) n h.weight v h.output x h.below (g.stays n h.weight h.output h.entry) in
    record {
      kept = g.kept;
      texts = grows_trans a.outputs b.outputs c.outputs f.texts g.texts;
      nodes = λ k n h. g.nodes k n (f.nodes k n h);
      new_nodes = λ k n h. elim (g.new_nodes k n h) [
        | inl i ↦ elim (f.new_nodes k n i) [ inl j ↦ inl j | inr j ↦ inr (j.0, j.1, led_as On D1 D first n j.0 j.1 j.2) ]
        | inr i ↦ inr (i.0, i.1, led_as On D2 D second n i.0 i.1 i.2)
      ];
      done = λ n v x h. f.done n v x (g.done n v x h);
      stays = λ n v x h. later n v x (f.stays n v x h);
      covered = λ n u z h k. elim (split n u z h) [
        | inl i ↦ under_on_as On (IsMet b) (IsMet c) later n (w + u) (y ++ z) (f.covered n u z i k)
        | inr i ↦ g.covered n u z i k
      ];
      sound = λ n v x h. elim (g.sound n v x h) [
        | inl i ↦ elim (f.sound n v x i) [ inl j ↦ inl j | inr j ↦ inr (j.0, j.1, led_as On D1 D first n j.0 j.1 j.2, j.3, j.4) ]
        | inr i ↦ inr (i.0, i.1, led_as On D2 D second n i.0 i.1 i.2, i.3, i.4)
      ];
      listed = λ k d h. elim (g.listed k d h) [
        | inl i ↦ inl i
        | inr i ↦ elim (f.listed k i.0 i.1) [ inl j ↦ inl (g.queued k j) | inr j ↦ inr j ]
      ];
      queued = λ k h. g.queued k (f.queued k h);
    }

pub gained_as : (On : Edges Node) (counts : Node → Type 0) (a b : Relaxed) (w : ℕ) (y : List ℕ) (D E : Leading) → Gained On counts a b w y D → ((n : Node) (u : ℕ) (z : List ℕ) → E n u z ↔ D n u z) → Gained On counts a b w y E
gained_as On counts a b w y D E f same = record {
  kept = f.kept;
  texts = f.texts;
  nodes = f.nodes;
  new_nodes = λ k n h. elim (f.new_nodes k n h) [ inl j ↦ inl j | inr j ↦ inr (j.0, j.1, led_as On D E (λ m u z. (same m u z).1) n j.0 j.1 j.2) ];
  done = f.done;
  stays = f.stays;
  covered = λ n u z h k. f.covered n u z ((same n u z).0 h) k;
  sound = λ n v x h. elim (f.sound n v x h) [ inl j ↦ inl j | inr j ↦ inr (j.0, j.1, led_as On D E (λ m u z. (same m u z).1) n j.0 j.1 j.2, j.3, j.4) ];
  listed = f.listed;
  queued = f.queued;
}

pub gained_growth : (On : Edges Node) (counts : Node → Type 0) (w : ℕ) (y : List ℕ) → IsGrowth (λ a b D. Gained On counts a b w y D)
gained_growth On counts w y = record { joins = λ a b c D1 D2 D. gained_then On counts a b c w y D1 D2 D; says = λ a b D E. gained_as On counts a b w y D E }

-- A node is met at the end of what an edge leads to.
pub gained_through : (On : Edges Node) (counts : Node → Type 0) (a b : Relaxed) (n o : Node) (v w t u more : ℕ) (x y r z text : List ℕ) → On n o more text → v + t ≡ (w + u) + more → x ++ r ≡ (y ++ z) ++ text
    → Gained Stays Every a b v x (IsEdge o t r) → Gained On counts a b w y (IsEdge n u z)
gained_through On counts a b n o v w t u more x y r z text on weight written g = record {
  kept = g.kept;
  texts = g.texts;
  nodes = g.nodes;
  new_nodes = λ k m h. elim (g.new_nodes k m h) [ inl i ↦ inl i | inr i ↦ (let e = stayed (IsEdge o t r) m i.0 i.1 i.2 in inr (u + more, z ++ text, led m e.0)) ];
  done = g.done;
  stays = g.stays;
  covered = λ m u' z' e k.
      let h = g.covered o t r (refl, refl, refl) tt in
      let under : Under (IsMet b) o (v + t) (x ++ r) = unstay_under (IsMet b) o (v + t) (x ++ r) h in
      subst (λ q. UnderOn On (IsMet b) q (w + u') (y ++ z')) (sym e.0) (subst (λ q. UnderOn On (IsMet b) n (w + q) (y ++ z')) (sym e.1) (subst (λ q. UnderOn On (IsMet b) n (w + u) (y ++ q)) (sym e.2)
      (record { node = o; more = more; text = text; on = on; under = under_as (IsMet b) o (v + t) ((w + u) + more) (x ++ r) ((y ++ z) ++ text) weight written under })));
  sound = λ m v' x' h. elim (g.sound m v' x' h) [
    | inl i ↦ inl i
    | inr i ↦
        let e = stayed (IsEdge o t r) m i.0 i.1 i.2 in
        inr (u + more, z ++ text, led m e.0, (let a : v' ≡ v + i.0 = i.3 in let b : i.0 ≡ t = e.1 in omega arith), i.4 ∙ ap (λ q. x ++ q) e.2 ∙ written ∙ append_assoc y z text)
  ];
  listed = g.listed;
  queued = g.queued;
} where
  led : (m : Node) → m ≡ o → LedOn On (IsEdge n u z) m (u + more) (z ++ text)
  led m e = record { first = n; weight = u; output = z; edge = (refl, refl, refl); more = more; text = text; on = subst (λ q. On n q more text) (sym e) on; whole = refl; written = refl }

-- nothing is passed over, and what holds of every node holds of those that count
pub gained_of : (On : Edges Node) (counts : Node → Type 0) (a b : Relaxed) (w : ℕ) (y : List ℕ) (n : Node) (u : ℕ) (z : List ℕ) → On n n 0 [] → Gained Stays Every a b w y (IsEdge n u z) → Gained On counts a b w y (IsEdge n u z)
gained_of On counts a b w y n u z on g = gained_through On counts a b n n w w u u 0 y y z z [] on (omega arith) (sym (append-nil (y ++ z))) g

-- the same output by other words
pub gained_at : (On : Edges Node) (counts : Node → Type 0) (b c : Relaxed) (w : ℕ) (y y' : List ℕ) {D : Leading} → y' ≡ y → Gained On counts b c w y' D → Gained On counts b c w y D
gained_at On counts b c w y y' {D} e g = subst (λ t. Gained On counts b c w t D) e g

-- more outputs alone
pub kept_texts : (a b : Relaxed) → Kept a → Grows a.outputs b.outputs → b.nodes ≡ a.nodes → b.marks ≡ a.marks → b.lists ≡ a.lists → Kept b
kept_texts a b kept grows nodes marks lists = record {
  one_end = subst HasOneEnd (sym nodes) kept.one_end;
  even = ap (λ (v : Vec Mark Global). length v.items) marks ∙ kept.even ∙ ap length (sym nodes);
  fits = λ k d h. fits_grow a.outputs b.outputs grows d (kept.fits k d (sym (ap (λ (v : Vec Mark Global). best_of (mark_of v.items k)) marks) ∙ h));
  places = subst (λ ns. All (λ k. k < length ns) b.lists) (sym nodes) (subst (All (λ k. k < length a.nodes)) (sym lists) kept.places);
}

pub gained_texts : (On : Edges Node) (counts : Node → Type 0) (a b : Relaxed) (w : ℕ) (y : List ℕ) → Kept a → Grows a.outputs b.outputs → b.nodes ≡ a.nodes → b.marks ≡ a.marks → b.lists ≡ a.lists → Gained On counts a b w y (λ n u z. ⊥)
gained_texts On counts a b w y kept grows nodes marks lists = record {
  kept = kept_texts a b kept grows nodes marks lists;
  texts = grows;
  nodes = λ k n h. subst (λ ns. slice_get ns k ≡ Some n) (sym nodes) h;
  new_nodes = λ k n h. inl (subst (λ ns. slice_get ns k ≡ Some n) nodes h);
  done = λ n v x h. was n v x (λ t d e. ap best_of e) h;
  stays = λ n v x h. record { weight = v; output = x; entry = stay n v x h; below = below_refl v x };
  covered = λ n u z h k. absurd h;
  sound = λ n v x h. inl (was n v x (λ t d e. e) h);
  listed = λ k d h. inr (d, sym (mark k) ∙ h);
  queued = λ k h. subst (λ xs. Contains xs k) (sym lists) h;
} where
  mark : (k : ℕ) → mark_of b.marks.items k ≡ mark_of a.marks.items k
  mark k = ap (λ (v : Vec Mark Global). mark_of v.items k) marks

  stay : (n : Node) (v : ℕ) (x : List ℕ) → IsMet a n v x → IsMet b n v x
  stay n v x h = record {
    number = h.number;
    way = h.way;
    node = subst (λ ns. slice_get ns h.number ≡ Some n) (sym nodes) h.node;
    mark = ap best_of (mark h.number) ∙ h.mark;
    weight = h.weight;
    output = grows_text a.outputs b.outputs grows h.way.output (kept.fits h.number h.way h.mark).output ∙ h.output;
  }

  was : {has : Mark → Entry → Type 0} (n : Node) (v : ℕ) (x : List ℕ) → ((t : Mark) (d : Entry) → has t d → best_of t ≡ Some d) → Marked has b n v x → Marked has a n v x
  was {has} n v x best h =
      let has_it : has (mark_of a.marks.items h.number) h.way = subst (λ t. has t h.way) (mark h.number) h.mark in
      record {
        number = h.number;
        way = h.way;
        node = subst (λ ns. slice_get ns h.number ≡ Some n) nodes h.node;
        mark = has_it;
        weight = h.weight;
        output = sym (grows_text a.outputs b.outputs grows h.way.output (kept.fits h.number h.way (best (mark_of a.marks.items h.number) h.way has_it)).output) ∙ h.output;
      }
