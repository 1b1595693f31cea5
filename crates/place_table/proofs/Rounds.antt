-- The two rounds of a publishing, way by way.
use Rattle.std.proofs.Common.{◌≡◌, ◌≢◌, ℕ, ◌+◌, ◌<◌, ◌≤◌, List, [], ◌∷◌, ◌++◌, length, get_or, set, take, sym, refl, ap, ◌∙◌, subst, arith, append_assoc, length-append, Bool, if◌then◌else◌, ne_eqb}
use Rattle.std.proofs.lemmas.List.{append-nil, take_more, take_more_set, take-take, get_or-take}
use Rattle.place_words.specs.declared.layout.TheConstants.{STATE}
use Rattle.place_words.specs.declared.view.View.{View}
use Rattle.place_words.specs.declared.view.Mode.TheVariants.{Idle, Writing}
use Rattle.place_words.specs.declared.view.Entry.{Entry}
use Rattle.place_words.specs.declared.view.Entry.TheVariants.{TakeEmpty, TakeShown}
use Rattle.place_words.specs.Steps.{took_empty, took_shown}
use Rattle.place_table.specs.declared.answers.Refusal.{Refusal}
use Rattle.place_table.specs.declared.answers.Refusal.TheVariants.{Held}
use Rattle.place_table.specs.Entries.{fills, logged}
use Rattle.place_table.specs.Ways.{first_ways, way_at, way_count, ways}
use Rattle.place_table.specs.Publishings.{tries_of, AllRefused, NoneEmpty, Refused, TookEmpty, TookNone, TookShown}
use Rattle.place_table.proofs.Runs.{All_next}
use Rattle.place_table.proofs.Order.{way_here, ways_length, ways_next, ways_take}

-- an entry after a run, and a run after that
log_split : (l es fs : List Entry) (e : Entry) → ((l ++ es) ++ e ∷ []) ++ fs ≡ l ++ (es ++ e ∷ fs)
log_split l es fs e = append_assoc (l ++ es) (e ∷ []) fs ∙ append_assoc l es (e ∷ fs)

pub filled_shown : {T : Type 0} (v : View T) (p : ℕ) (es fs : List Entry) → logged (took_shown (logged v es) p STATE) fs ≡ logged v (es ++ TakeShown p STATE ∷ fs)
filled_shown v p es fs = ap (λ (l : List Entry). record v { mode = Idle; log = l }) (log_split v.log es fs (TakeShown p STATE))

refused_append : (ps ws : List ℕ) (rs : List Refusal) (es : List Entry) (p w : ℕ) (r : Refusal) (b : List Entry) → AllRefused ps ws rs es → Refused p w r b → AllRefused (ps ++ p ∷ []) (ws ++ w ∷ []) (rs ++ r ∷ []) (es ++ b)
refused_append [] [] [] es p w r b h x = (b, [], x, refl, ap (λ (l : List Entry). l ++ b) h ∙ sym (append-nil b))
refused_append (q ∷ ps) (y ∷ ws) (s ∷ rs) es p w r b h x = (h.0, h.1 ++ b, h.2, refused_append ps ws rs h.1 p w r b h.3 x, ap (λ (l : List Entry). l ++ b) h.4 ∙ append_assoc h.0 h.1 b)
refused_append [] [] (s ∷ rs) es p w r b h x = absurd h
refused_append [] (y ∷ ws) rs es p w r b h x = absurd h
refused_append (q ∷ ps) [] rs es p w r b h x = absurd h
refused_append (q ∷ ps) (y ∷ ws) [] es p w r b h x = absurd h

pub refused_next : (key : List ℕ) (n i p : ℕ) (found : List ℕ) (refusals : List Refusal) (r : Refusal) (es b : List Entry) → i < length found → i < length refusals → p ≡ way_at key n i
    → AllRefused (first_ways key n i) (take i found) (take i refusals) es → Refused p (get_or found i 0) r b
    → AllRefused (first_ways key n (i + 1)) (take (i + 1) found) (take (i + 1) (set refusals i r)) (es ++ b)
refused_next key n i p found refusals r es b few less is before here =
    let a = sym (ways_next key n i p is) in let c = sym (take_more found i 0 few) in let d = sym (take_more_set refusals i r less) in
    subst (λ (z : List ℕ × List ℕ × List Refusal). AllRefused z.0 z.1 z.2 (es ++ b)) (λ j. (a j, c j, d j)) (refused_append (first_ways key n i) (take i found) (take i refusals) es p (get_or found i 0) r b before here)

pub shown_taken : (code key : List ℕ) (n i p : ℕ) (found : List ℕ) (refusals : List Refusal) (w : ℕ) (es : List Entry) → i < way_count n → p ≡ way_at key n i → get_or found i 0 ≡ STATE
    → AllRefused (first_ways key n i) (take i found) (take i refusals) es → TookShown code (ways key n) (take (way_count n) found) p (es ++ TakeShown p STATE ∷ fills p code w)
shown_taken code key n i p found refusals w es lt is shown refused = let here = way_here key n i p lt is in record {
  k = i;
  refusals = take i refusals;
  before = es;
  w = w;
  within = here.0;
  at = here.1;
  shown = get_or-take (way_count n) found i 0 lt ∙ shown;
  refused = (let a = sym (ways_take key n (way_count n) i (omega arith)) in let b = sym (take-take i (way_count n) found (omega arith)) in
      subst (λ (z : List ℕ × List ℕ). AllRefused z.0 z.1 (take i refusals) es) (λ j. (a j, b j)) refused);
  entries = refl;
}

pub none_taken : (key : List ℕ) (n i count : ℕ) (found : List ℕ) (refusals : List Refusal) (es : List Entry) → count ≡ way_count n → i ≡ count → AllRefused (first_ways key n i) (take i found) (take i refusals) es
    → ((k : ℕ) → i ≤ k → k < 4 → get_or refusals k (Held 0) ≡ Held 0) → TookNone (ways key n) (take (way_count n) found) refusals count es
none_taken key n i count found refusals es is end refused past = record {
  count = is ∙ sym (ways_length key n (way_count n));
  refused = (let a : i ≡ way_count n = end ∙ is in subst (λ (z : ℕ × ℕ). AllRefused (first_ways key n z.0) (take z.0 found) (take z.1 refusals) es) (λ j. (a j, end j)) refused);
  past = λ k low high. past k (omega arith) high;
}

-- a try that found a place that is not empty
pub tried_more : {T : Type 0} (v : View T) (p w : ℕ) (es : List Entry) → w ≢ 0 → took_empty (logged v es) p w ≡ logged v (es ++ TakeEmpty p w ∷ [])
tried_more v p w es full = ap (λ (b : Bool). record v { mode = (if b then Writing p [] else Idle); log = (v.log ++ es) ++ TakeEmpty p w ∷ [] }) (ne_eqb w 0 full)
    ∙ ap (λ (l : List Entry). record v { mode = Idle; log = l }) (append_assoc v.log es (TakeEmpty p w ∷ []))

pub filled_empty : {T : Type 0} (v : View T) (p : ℕ) (es fs : List Entry) → logged (took_empty (logged v es) p 0) fs ≡ logged v (es ++ TakeEmpty p 0 ∷ fs)
filled_empty v p es fs = ap (λ (l : List Entry). record v { mode = Idle; log = l }) (log_split v.log es fs (TakeEmpty p 0))

tries_append : (ps ws : List ℕ) (p w : ℕ) → length ws ≡ length ps → tries_of (ps ++ p ∷ []) (ws ++ w ∷ []) ≡ tries_of ps ws ++ TakeEmpty p w ∷ []
tries_append [] [] p w same = refl
tries_append (q ∷ ps) (x ∷ ws) p w same = ap (λ (l : List Entry). TakeEmpty q x ∷ l) (tries_append ps ws p w (omega arith))
tries_append [] (x ∷ ws) p w same = absurd (omega arith)
tries_append (q ∷ ps) [] p w same = absurd (omega arith)

pub none_empty_next : (key : List ℕ) (n i p : ℕ) (found : List ℕ) (w : ℕ) (es : List Entry) → i < length found → p ≡ way_at key n i → w ≢ 0
    → NoneEmpty (first_ways key n i) (take i found) es → NoneEmpty (first_ways key n (i + 1)) (take (i + 1) (set found i w)) (es ++ TakeEmpty p w ∷ [])
none_empty_next key n i p found w es few is full before = let a = ways_next key n i p is in let b = take_more_set found i w few in
    let long : length (take i found ++ w ∷ []) ≡ length (first_ways key n i ++ p ∷ []) = omega (arith, before.count, length-append (take i found) (w ∷ []), length-append (first_ways key n i) (p ∷ [])) in record {
      count = ap length b ∙ long ∙ sym (ap length a);
      full = All_next (λ x. x ≢ 0) found i w few before.full full;
      entries = ap (λ (l : List Entry). l ++ TakeEmpty p w ∷ []) before.entries ∙ sym (tries_append (first_ways key n i) (take i found) p w before.count) ∙ (λ j. tries_of (sym a j) (sym b j));
    }

pub empty_taken : (code key : List ℕ) (n i p : ℕ) (found : List ℕ) (w : ℕ) (es : List Entry) → i < way_count n → p ≡ way_at key n i
    → NoneEmpty (first_ways key n i) (take i found) es → TookEmpty code (ways key n) p (es ++ TakeEmpty p 0 ∷ fills p code w)
empty_taken code key n i p found w es lt is full = let here = way_here key n i p lt is in record {
  k = i;
  words = take i found;
  before = es;
  w = w;
  within = here.0;
  at = here.1;
  full = subst (λ (l : List ℕ). NoneEmpty l (take i found) es) (sym (ways_take key n (way_count n) i (omega arith))) full;
  entries = refl;
}
