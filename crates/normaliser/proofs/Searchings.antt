-- What searches by a caller do to its log, and which cascade they search.
use Rattle.std.proofs.Common.{◌≡◌, ◌∙◌, ℕ, zero, suc, List, [], ◌∷◌, ◌++◌, Err, Ok, OnErr, OnOk, Result, Some, ap, append-nil, append_assoc, inl, inr, refl, slice_get, subst, sym}
use Rattle.fst_core.proofs.Searches.{contains_at, contains_from}
use Rattle.least_path.specs.Starting.{IsStart, StartsAt, StopsAfter, WritesBytes}
use Rattle.place_words.specs.declared.view.Entry.{Entry}
use Rattle.place_words.specs.Seats.{number_of, view_of}
use Rattle.place_words.specs.declared.view.View.{View}
use Rattle.shared_cascade.specs.Callers.{cascades_in, log_of, places_in}
use Rattle.shared_cascade.specs.Episodes.{Episodes}
use Rattle.shared_cascade.specs.Hands.{GivesUp, GoesOn, IsStill}
use Rattle.shared_cascade.specs.Tallies.{with_all}
use Rattle.shared_cascade.specs.declared.callers.Caller.{Caller}
use Rattle.shared_cascade.specs.declared.facts.Grammars.{Grammars}
use Rattle.shared_cascade.specs.declared.hands.Hand.{Hand}
use Rattle.shared_cascade.specs.declared.shared.Shared.{Shared}
use Rattle.shared_cascade.specs.declared.tallies.Outcome.{Outcome}
use Rattle.shared_cascade.specs.declared.tallies.Tally.{Tally}
use Rattle.state_tuples.specs.Calls.{HaveOwnNumbers}
use Rattle.state_tuples.specs.Cascades.{Cascaded, first_tuple}
use Rattle.state_tuples.specs.declared.tuples.Tuple.{Tuple}
use Rattle.weighted_relations.specs.Machines.{Reads}
use Rattle.weighted_relations.specs.Relations.{Cascade, IsUnmarked, Relation}
use Rattle.normaliser.specs.Cascades.{Begins, relation_at}
use Rattle.normaliser.specs.Searches.{Did, GaveUp, KeepsSeat, Searched, Stopped}
use Rattle.normaliser.specs.declared.faults.LineFault.{LineFault}
use Rattle.normaliser.specs.declared.faults.LineFault.TheVariants.{NulByte, LongLine, NoPath, NotTokens, TooManyFields, NoWords, Memory}

-- episodes after episodes
both : (cs : List Cascaded) (n : ℕ) (os ps : List Outcome) (es fs : List Entry) → Episodes cs n os es → Episodes cs n ps fs → Episodes cs n (os ++ ps) (es ++ fs)
both cs n [] ps es fs h g = subst (λ t. Episodes cs n ps (t ++ fs)) (sym h) g
both cs n (o ∷ os) ps es fs h g =
    (h.0, h.1, h.2 ++ fs, h.3, both cs n os ps h.2 fs h.4 g, ap (λ t. t ++ fs) h.5 ∙ append_assoc h.1 h.2 fs)

both_counted : (os ps : List Outcome) (t : Tally) → with_all (os ++ ps) t ≡ with_all ps (with_all os t)
both_counted [] ps t = refl
both_counted (o ∷ os) ps t = both_counted os ps _

-- a seat stays where its view does but for its log
pub seat_kept : (c d : Caller) (es : List Entry) → view_of d.seat ≡ record (view_of c.seat) { log = log_of c ++ es } → KeepsSeat c d
seat_kept c d es view = record {
  seats = ap (λ (v : View Grammars). v.seats) view;
  number = sym d.seat.single.0 ∙ ap (λ (v : View Grammars). v.from) view ∙ c.seat.single.0;
}

pub seat_same : (c d : Caller) → d.seat ≡ c.seat → KeepsSeat c d
seat_same c d same = record { seats = ap (λ x. (view_of x).seats) same; number = ap number_of same }

pub seat_still : (c m d : Caller) → KeepsSeat c m → KeepsSeat m d → KeepsSeat c d
seat_still c m d f g = record { seats = g.seats ∙ f.seats; number = g.number ∙ f.number }

module _ (s : Shared) where
  pub searched_none : (c : Caller) → Searched s c c
  searched_none c = record {
    outcomes = [];
    entries = [];
    episodes = refl;
    log = sym (append-nil (log_of c));
    tally = refl;
    seat = record { seats = refl; number = refl };
  }

  pub searched_more : (c m d : Caller) → Searched s c m → Searched s m d → Searched s c d
  searched_more c m d f g = record {
    outcomes = f.outcomes ++ g.outcomes;
    entries = f.entries ++ g.entries;
    episodes = both (cascades_in s) (places_in s) f.outcomes g.outcomes f.entries g.entries f.episodes g.episodes;
    log = g.log ∙ (ap (λ l. l ++ g.entries) f.log ∙ append_assoc (log_of c) f.entries g.entries);
    tally = g.tally ∙ (ap (with_all g.outcomes) f.tally ∙ sym (both_counted f.outcomes g.outcomes c.tally));
    seat = seat_still c m d f.seat g.seat;
  }

  pub stopped_after : (c m d : Caller) → Searched s c m → Stopped s m d → Stopped s c d
  stopped_after c m d f (inl g) = inl (searched_more c m d f g)
  stopped_after c m d f (inr (middle, g, up)) = inr (middle, searched_more c m middle f g, up)

  -- whatever is answered after searches that ended
  pub did_with : (c d : Caller) → Searched s c d → {T : Type 0} (r : Result T LineFault) → Did s c d r
  did_with c d h (Ok x) = h
  did_with c d h (Err (NulByte at)) = h
  did_with c d h (Err LongLine) = h
  did_with c d h (Err NoPath) = h
  did_with c d h (Err (NotTokens n)) = h
  did_with c d h (Err (TooManyFields n)) = h
  did_with c d h (Err (NoWords n)) = h
  did_with c d h (Err Memory) = inl h

  -- a fault after searches that ended
  pub did_after : (T U : Type 0) (c m d : Caller) → Searched s c m → (fault : LineFault) → Did s m d {T = T} (Err fault) → Did s c d {T = U} (Err fault)
  did_after T U c m d f (NulByte at) g = searched_more c m d f g
  did_after T U c m d f LongLine g = searched_more c m d f g
  did_after T U c m d f NoPath g = searched_more c m d f g
  did_after T U c m d f (NotTokens n) g = searched_more c m d f g
  did_after T U c m d f (TooManyFields n) g = searched_more c m d f g
  did_after T U c m d f (NoWords n) g = searched_more c m d f g
  did_after T U c m d f Memory g = stopped_after c m d f g

  stopped_seat : (c d : Caller) → Stopped s c d → KeepsSeat c d
  stopped_seat c d (inl h) = h.seat
  stopped_seat c d (inr (middle, h, up)) = seat_still c middle d h.seat (seat_kept middle d up.1.1 up.1.3)

  -- whatever was answered, the caller has its seat
  pub did_seat : {T : Type 0} (c d : Caller) (r : Result T LineFault) → Did s c d r → KeepsSeat c d
  did_seat c d (Ok x) h = h.seat
  did_seat c d (Err (NulByte at)) h = h.seat
  did_seat c d (Err LongLine) h = h.seat
  did_seat c d (Err NoPath) h = h.seat
  did_seat c d (Err (NotTokens n)) h = h.seat
  did_seat c d (Err (TooManyFields n)) h = h.seat
  did_seat c d (Err (NoWords n)) h = h.seat
  did_seat c d (Err Memory) h = stopped_seat c d h

-- what a hand did, its caller did

pub hand_searched : (x y : Hand) → GoesOn x y → Searched x.shared.now x.caller.now y.caller.now
hand_searched x y on = record { outcomes = on.outcomes; entries = on.entries; episodes = on.episodes; log = ap (λ (v : View Grammars). v.log) on.view; tally = on.tally; seat = seat_kept x.caller.now y.caller.now on.entries on.view }

pub hand_stopped : (x y : Hand) → StopsAfter GoesOn GivesUp x y → Stopped x.shared.now x.caller.now y.caller.now
hand_stopped x y (inl on) = inl (hand_searched x y on)
hand_stopped x y (inr (m, on, up)) =
    inr (m.caller.now, hand_searched x m on, subst (λ s. GaveUp s m.caller.now y.caller.now) on.still.shared (up.key, up.adds))

pub err_stopped : {T E : Type 0} (x y : Hand) (r : Result T E) → OnErr r (StopsAfter GoesOn GivesUp x y) → OnErr r (Stopped x.shared.now x.caller.now y.caller.now)
err_stopped x y (Ok t) h = tt
err_stopped x y (Err e) h = hand_stopped x y h

stops_still : (x y : Hand) → StopsAfter GoesOn GivesUp x y → IsStill x y
stops_still x y (inl on) = on.still
stops_still x y (inr (m, on, up)) = record { shared = up.still.shared ∙ on.still.shared; caller = up.still.caller ∙ on.still.caller }

pub still_after : {T E : Type 0} (x y : Hand) (r : Result T E) → OnOk r (GoesOn x y) → OnErr r (StopsAfter GoesOn GivesUp x y) → IsStill x y
still_after x y (Ok t) on up = on.still
still_after x y (Err e) on up = stops_still x y up

-- the cascade that begins at a tuple

relation_is : (cs : List Cascaded) (n : ℕ) (c : Cascaded) → slice_get cs n ≡ Some c → relation_at n cs ≡ Cascade Reads c.parts
relation_is [] n c at = cc
relation_is (d ∷ cs) zero c at = let same : d ≡ c = cc in ap (λ (e : Cascaded). Cascade Reads e.parts) same
relation_is (d ∷ cs) (suc n) c at = relation_is cs n c at

-- one that begins at a tuple, at its place
record BeginsAt (cs : List Cascaded) (n : ℕ) (start : Tuple) : Type 0 where
  c : Cascaded
  at : slice_get cs n ≡ Some c
  first : start ≡ first_tuple c

begins_with : (cs : List Cascaded) (n : ℕ) (start : Tuple) → Begins cs n start → BeginsAt cs n start
begins_with [] n start h = absurd h
begins_with (c ∷ cs) zero start h = record { c = c; at = refl; first = h }
begins_with (c ∷ cs) (suc n) start h = let b = begins_with cs n start h in record { c = b.c; at = b.at; first = b.first }

module _ (cs : List Cascaded) (n : ℕ) (start : Tuple) (h : Begins cs n start) where
  b : BeginsAt cs n start
  b = begins_with cs n start h

  begins_at : StartsAt cs start b.c
  begins_at = record { one = contains_from cs n b.c b.at; first = b.first }

  pub is_start : IsStart cs start
  is_start = (b.c, begins_at)

  -- what the search finds is found of this relation
  pub least_of : (P : Relation → Type 0) → ((c : Cascaded) → StartsAt cs start c → P (Cascade Reads c.parts)) → P (relation_at n cs)
  least_of P found = subst P (sym (relation_is cs n b.c b.at)) (found b.c begins_at)

  -- no other of the cascades begins there
  only_start : HaveOwnNumbers cs → (c : Cascaded) → StartsAt cs start c → b.c ≡ c
  only_start own c s =
      let there = contains_at cs c s.one in
      let number : b.c.number ≡ c.number = ap (λ (t : Tuple). t.cascade) (sym b.first ∙ s.first) in
      let place : n ≡ there.0 = own n there.0 b.c c b.at there.1 number in
      let same : Some b.c ≡ Some c = sym b.at ∙ (ap (slice_get cs) place ∙ there.1) in
      cc

  pub writes_bytes : HaveOwnNumbers cs → IsUnmarked (relation_at n cs) → WritesBytes cs start
  writes_bytes own clean c s x y w reads =
      let same : relation_at n cs ≡ Cascade Reads c.parts = relation_is cs n b.c b.at ∙ ap (λ (e : Cascaded). Cascade Reads e.parts) (only_start own c s) in
      (subst IsUnmarked same clean x y w reads).1

-- what is so is so of an error
pub on_err : {T E : Type 0} (r : Result T E) (P : Type 0) → P → OnErr r P
on_err (Ok x) P p = tt
on_err (Err e) P p = p
