use Rattle.std.specs.Prelude.{◌≡◌, ◌<◌, ◌+◌, ◌*◌, Some, filter, length, nat_eq}
use Rattle.std.specs.Vec.{vec_capacity}
use Rattle.std.proofs.Common.{refl, ◌∙◌, ap, subst, arith, inl, inr}
use Rattle.std.proofs.lemmas.Result.{on_err_weaker, on_ok_weaker}
use Rattle.state_tuples.specs.Codes.{key}
use Rattle.shared_cascade.specs.Callers.{FoundFor, MadeFor, MissedFor, Visited, cascades_in, grammars_of, places_in}
use Rattle.shared_cascade.specs.Episodes.{Episode, Missed}
use Rattle.shared_cascade.specs.HandLaws.{own_numbers}
use Rattle.shared_cascade.specs.Hands.{HadNoRoom, ShortEpisode, Wanting}
use Rattle.shared_cascade.proofs.Finding.{Expanded, expanded, no_room, whole}
use Rattle.shared_cascade.proofs.Going.{found_part, found_so, gave_up, gave_up_late, goes_on, made_part, missed_part, on_any_error, on_any_value}
use Rattle.shared_cascade.proofs.Handing.{arcs_owed}
use Rattle.shared_cascade.proofs.Keeping.{adds_so, at_rest, readied}
use Rattle.shared_cascade.proofs.hands.HandExpander.arcs_on.Goals as goal

pub returns-in_err-visit-clause-ready : goal.returns-in_err-visit-clause-ready
returns-in_err-visit-clause-ready c =
    let s = c.args.self.now.shared.now in
    readied s c.args.self.now.caller.now _ (MissedFor s c.args.t.now) c.requires.ready c.in_err-visit.ensures.missing (missed_part s c.args.t.now c.args.self.now.caller.now)

pub returns-in_err-visit-clause-up : goal.returns-in_err-visit-clause-up
returns-in_err-visit-clause-up c =
    let s = c.args.self.now.shared.now in
    let k = key c.args.t.now in
    let m = c.in_err-visit.ensures.missing in
    on_any_error _ (gave_up c.args.self.now _ k (record { shared = refl; caller = refl }) m.before
    (adds_so c.args.self.now.caller.now c.visit.new.caller (MissedFor s c.args.t.now) (λ o es. Missed (places_in s) k es) (λ o es h. h.1) m.adds))

pub returns-in_err-visit-clause-refused : goal.returns-in_err-visit-clause-refused
returns-in_err-visit-clause-refused c =
    let s = c.args.self.now.shared.now in
    on_any_error _ (adds_so c.args.self.now.caller.now c.visit.new.caller (MissedFor s c.args.t.now) _ (λ o es h. inr h.1) c.in_err-visit.ensures.missing.adds)

pub returns-in_err-visit-clause-wanting : goal.returns-in_err-visit-clause-wanting
returns-in_err-visit-clause-wanting c =
    let s = c.args.self.now.shared.now in
    on_any_error _ (adds_so c.args.self.now.caller.now c.visit.new.caller (MissedFor s c.args.t.now) _ (λ o es h. inl h.1) c.in_err-visit.ensures.missing.adds)

pub returns-in-Held-clause-arcs : goal.returns-in-Held-clause-arcs
returns-in-Held-clause-arcs c =
    let s = c.args.self.now.shared.now in
    let t = c.args.t.now in
    let old = c.args.self.now.caller.now in
    let at = subst (Visited s old c.visit.new.caller t) c.in-Held.is c.in_ok-visit.ensures.visited in
    let e = c.take_arcs.ensures in
    on_ok_weaker c.take_arcs.result
    (λ h. (let x = expanded s old c.visit.new.caller t c.requires.ready c.requires.known at (λ end arcs. c.take_arcs.new.into.items ≡ filter (λ a. nat_eq a.input c.args.label) arcs) h in
    arcs_owed (grammars_of s) s.numbered c.requires.ready.sound t x.c x.among x.known (own_numbers c.args.self.now) c.args.label x.arcs c.take_arcs.new.into.items x.ordered x.holds))
    e.arcs

pub returns-in-Held-clause-ready : goal.returns-in-Held-clause-ready
returns-in-Held-clause-ready c =
    let s = c.args.self.now.shared.now in
    let t = c.args.t.now in
    let old = c.args.self.now.caller.now in
    let at = subst (Visited s old c.visit.new.caller t) c.in-Held.is c.in_ok-visit.ensures.visited in
    let e = c.take_arcs.ensures in
    let most = 28 + length e.left.0 in
    let w = whole s old c.visit.new.caller c.take_arcs.new.caller t e.left.0 e.left.1 (at_rest s old c.requires.ready) at e.own e.left.3 e.tally e.before in
    readied s old c.take_arcs.new.caller (FoundFor s t most) c.requires.ready w (found_part s t old most)

pub returns-in-Held-clause-on : goal.returns-in-Held-clause-on
returns-in-Held-clause-on c =
    let s = c.args.self.now.shared.now in
    let t = c.args.t.now in
    let old = c.args.self.now.caller.now in
    let at = subst (Visited s old c.visit.new.caller t) c.in-Held.is c.in_ok-visit.ensures.visited in
    let e = c.take_arcs.ensures in
    let most = 28 + length e.left.0 in
    let w = whole s old c.visit.new.caller c.take_arcs.new.caller t e.left.0 e.left.1 (at_rest s old c.requires.ready) at e.own e.left.3 e.tally e.before in
    on_any_value c.take_arcs.result (goes_on c.args.self.now _ (key t) (record { shared = refl; caller = refl }) w.before (adds_so old c.take_arcs.new.caller (FoundFor s t most) (Episode (cascades_in s) (places_in s) (key t)) (found_so s t most) w.adds))

pub returns-in-Held-clause-up : goal.returns-in-Held-clause-up
returns-in-Held-clause-up c =
    let s = c.args.self.now.shared.now in
    let t = c.args.t.now in
    let old = c.args.self.now.caller.now in
    let at = subst (Visited s old c.visit.new.caller t) c.in-Held.is c.in_ok-visit.ensures.visited in
    let e = c.take_arcs.ensures in
    let most = 28 + length e.left.0 in
    let w = whole s old c.visit.new.caller c.take_arcs.new.caller t e.left.0 e.left.1 (at_rest s old c.requires.ready) at e.own e.left.3 e.tally e.before in
    on_any_error c.take_arcs.result (gave_up_late c.args.self.now _ (key t) (record { shared = refl; caller = refl }) w.before (adds_so old c.take_arcs.new.caller (FoundFor s t most) (Episode (cascades_in s) (places_in s) (key t)) (found_so s t most) w.adds))

pub returns-in-Held-clause-counted : goal.returns-in-Held-clause-counted
returns-in-Held-clause-counted c =
    let s = c.args.self.now.shared.now in
    let t = c.args.t.now in
    let old = c.args.self.now.caller.now in
    let at = subst (Visited s old c.visit.new.caller t) c.in-Held.is c.in_ok-visit.ensures.visited in
    let e = c.take_arcs.ensures in
    let most = 28 + length e.left.0 in
    let w = whole s old c.visit.new.caller c.take_arcs.new.caller t e.left.0 e.left.1 (at_rest s old c.requires.ready) at e.own e.left.3 e.tally e.before in
    ap Some w.looks

pub returns-in-Held-clause-episode : goal.returns-in-Held-clause-episode
returns-in-Held-clause-episode c =
    let s = c.args.self.now.shared.now in
    let t = c.args.t.now in
    let old = c.args.self.now.caller.now in
    let at = subst (Visited s old c.visit.new.caller t) c.in-Held.is c.in_ok-visit.ensures.visited in
    let e = c.take_arcs.ensures in
    let most = 28 + length e.left.0 in
    let w = whole s old c.visit.new.caller c.take_arcs.new.caller t e.left.0 e.left.1 (at_rest s old c.requires.ready) at e.own e.left.3 e.tally e.before in
    on_any_value c.take_arcs.result (adds_so old c.take_arcs.new.caller (FoundFor s t most) (Episode (cascades_in s) (places_in s) (key t)) (found_so s t most) w.adds)

pub returns-in-Held-clause-refused : goal.returns-in-Held-clause-refused
returns-in-Held-clause-refused c =
    let s = c.args.self.now.shared.now in
    let t = c.args.t.now in
    let old = c.args.self.now.caller.now in
    let at = subst (Visited s old c.visit.new.caller t) c.in-Held.is c.in_ok-visit.ensures.visited in
    let e = c.take_arcs.ensures in
    let most = 28 + length e.left.0 in
    let w = whole s old c.visit.new.caller c.take_arcs.new.caller t e.left.0 e.left.1 (at_rest s old c.requires.ready) at e.own e.left.3 e.tally e.before in
    on_any_error c.take_arcs.result (adds_so old c.take_arcs.new.caller (FoundFor s t most) _ (λ o es h. inl (found_so s t most o es h)) w.adds)

pub returns-in-Held-clause-read : goal.returns-in-Held-clause-read
returns-in-Held-clause-read c =
    let s = c.args.self.now.shared.now in
    let t = c.args.t.now in
    let old = c.args.self.now.caller.now in
    let at = subst (Visited s old c.visit.new.caller t) c.in-Held.is c.in_ok-visit.ensures.visited in
    let e = c.take_arcs.ensures in
    let most = 28 + length e.left.0 in
    let w = whole s old c.visit.new.caller c.take_arcs.new.caller t e.left.0 e.left.1 (at_rest s old c.requires.ready) at e.own e.left.3 e.tally e.before in
    on_ok_weaker c.take_arcs.result
    (λ few. adds_so old c.take_arcs.new.caller (FoundFor s t most) (ShortEpisode (cascades_in s) (places_in s) (key t) (38 + 6 * length c.take_arcs.new.into.items)) (λ o es h. (found_so s t most o es h, λ same. omega (arith, h.2, few))) w.adds)
    e.left.2

pub returns-in-Held-clause-wanting : goal.returns-in-Held-clause-wanting
returns-in-Held-clause-wanting c =
    let s = c.args.self.now.shared.now in
    let t = c.args.t.now in
    let old = c.args.self.now.caller.now in
    let at = subst (Visited s old c.visit.new.caller t) c.in-Held.is c.in_ok-visit.ensures.visited in
    let e = c.take_arcs.ensures in
    let most = 28 + length e.left.0 in
    let w = whole s old c.visit.new.caller c.take_arcs.new.caller t e.left.0 e.left.1 (at_rest s old c.requires.ready) at e.own e.left.3 e.tally e.before in
    on_err_weaker c.take_arcs.result
    (λ h. (let x = expanded s old c.visit.new.caller t c.requires.ready c.requires.known at (λ end arcs. vec_capacity c.clear.new.self < length (filter (λ a. nat_eq a.input c.args.label) arcs)) h in
    let none = subst (HadNoRoom (cascades_in s) t c.args.label) c.clear.ensures.capacity (no_room s t (own_numbers c.args.self.now) c.args.label (vec_capacity c.clear.new.self) x) in
    adds_so old c.take_arcs.new.caller (FoundFor s t most) (Wanting (cascades_in s) (places_in s) (key t) (HadNoRoom (cascades_in s) t c.args.label (vec_capacity c.args.into.now))) (λ o es k. inr (found_so s t most o es k, none)) w.adds))
    e.full

pub returns-in-Made-clause-arcs : goal.returns-in-Made-clause-arcs
returns-in-Made-clause-arcs c =
    let s = c.args.self.now.shared.now in
    let t = c.args.t.now in
    let old = c.args.self.now.caller.now in
    let v = subst (Visited s old c.visit.new.caller t) c.in-Made.is c.in_ok-visit.ensures.visited in
    let looked = v.0 in
    let m = v.1 in
    on_ok_weaker c.put_readers.result
    (λ h. arcs_owed (grammars_of s) s.numbered c.requires.ready.sound t m.0 m.1 m.2 (own_numbers c.args.self.now) c.args.label c.visit.new.caller.arcs.items c.put_readers.new.into.items m.3
    (h ∙ ap (filter (λ a. nat_eq a.input c.args.label)) c.deref.ensures.value))
    c.put_readers.ensures.arcs

pub returns-in-Made-clause-ready : goal.returns-in-Made-clause-ready
returns-in-Made-clause-ready c =
    let s = c.args.self.now.shared.now in
    let t = c.args.t.now in
    let old = c.args.self.now.caller.now in
    let v = subst (Visited s old c.visit.new.caller t) c.in-Made.is c.in_ok-visit.ensures.visited in
    let looked = v.0 in
    readied s old c.visit.new.caller (MadeFor s old t) c.requires.ready looked (made_part s t old)

pub returns-in-Made-clause-on : goal.returns-in-Made-clause-on
returns-in-Made-clause-on c =
    let s = c.args.self.now.shared.now in
    let t = c.args.t.now in
    let old = c.args.self.now.caller.now in
    let v = subst (Visited s old c.visit.new.caller t) c.in-Made.is c.in_ok-visit.ensures.visited in
    let looked = v.0 in
    on_any_value c.put_readers.result (goes_on c.args.self.now _ (key t) (record { shared = refl; caller = refl }) looked.before (adds_so old c.visit.new.caller (MadeFor s old t) (Episode (cascades_in s) (places_in s) (key t)) (λ o es h. h.0) looked.adds))

pub returns-in-Made-clause-up : goal.returns-in-Made-clause-up
returns-in-Made-clause-up c =
    let s = c.args.self.now.shared.now in
    let t = c.args.t.now in
    let old = c.args.self.now.caller.now in
    let v = subst (Visited s old c.visit.new.caller t) c.in-Made.is c.in_ok-visit.ensures.visited in
    let looked = v.0 in
    on_any_error c.put_readers.result (gave_up_late c.args.self.now _ (key t) (record { shared = refl; caller = refl }) looked.before (adds_so old c.visit.new.caller (MadeFor s old t) (Episode (cascades_in s) (places_in s) (key t)) (λ o es h. h.0) looked.adds))

pub returns-in-Made-clause-counted : goal.returns-in-Made-clause-counted
returns-in-Made-clause-counted c =
    let s = c.args.self.now.shared.now in
    let t = c.args.t.now in
    let old = c.args.self.now.caller.now in
    let v = subst (Visited s old c.visit.new.caller t) c.in-Made.is c.in_ok-visit.ensures.visited in
    let looked = v.0 in
    ap Some looked.looks

pub returns-in-Made-clause-episode : goal.returns-in-Made-clause-episode
returns-in-Made-clause-episode c =
    let s = c.args.self.now.shared.now in
    let t = c.args.t.now in
    let old = c.args.self.now.caller.now in
    let v = subst (Visited s old c.visit.new.caller t) c.in-Made.is c.in_ok-visit.ensures.visited in
    let looked = v.0 in
    on_any_value c.put_readers.result (adds_so old c.visit.new.caller (MadeFor s old t) (Episode (cascades_in s) (places_in s) (key t)) (λ o es h. h.0) looked.adds)

pub returns-in-Made-clause-refused : goal.returns-in-Made-clause-refused
returns-in-Made-clause-refused c =
    let s = c.args.self.now.shared.now in
    let t = c.args.t.now in
    let old = c.args.self.now.caller.now in
    let v = subst (Visited s old c.visit.new.caller t) c.in-Made.is c.in_ok-visit.ensures.visited in
    let looked = v.0 in
    on_any_error c.put_readers.result (adds_so old c.visit.new.caller (MadeFor s old t) _ (λ o es h. inl h.0) looked.adds)

pub returns-in-Made-clause-read : goal.returns-in-Made-clause-read
returns-in-Made-clause-read c =
    let s = c.args.self.now.shared.now in
    let t = c.args.t.now in
    let old = c.args.self.now.caller.now in
    let v = subst (Visited s old c.visit.new.caller t) c.in-Made.is c.in_ok-visit.ensures.visited in
    let looked = v.0 in
    on_any_value c.put_readers.result (adds_so old c.visit.new.caller (MadeFor s old t) (ShortEpisode (cascades_in s) (places_in s) (key t) (38 + 6 * length c.put_readers.new.into.items)) (λ o es h. (h.0, λ same. absurd (h.1 same))) looked.adds)

pub returns-in-Made-clause-wanting : goal.returns-in-Made-clause-wanting
returns-in-Made-clause-wanting c =
    let s = c.args.self.now.shared.now in
    let t = c.args.t.now in
    let old = c.args.self.now.caller.now in
    let v = subst (Visited s old c.visit.new.caller t) c.in-Made.is c.in_ok-visit.ensures.visited in
    let looked = v.0 in
    let m = v.1 in
    on_err_weaker c.put_readers.result
    (λ h. (let full = subst (λ arcs. vec_capacity c.clear.new.self < length (filter (λ a. nat_eq a.input c.args.label) arcs)) c.deref.ensures.value h in
    let x : Expanded s t (λ end arcs. vec_capacity c.clear.new.self < length (filter (λ a. nat_eq a.input c.args.label) arcs)) =
    record { c = m.0; among = m.1; known = m.2; arcs = c.visit.new.caller.arcs.items; ordered = m.3; holds = full } in
    let none = subst (HadNoRoom (cascades_in s) t c.args.label) c.clear.ensures.capacity (no_room s t (own_numbers c.args.self.now) c.args.label (vec_capacity c.clear.new.self) x) in
    adds_so old c.visit.new.caller (MadeFor s old t) (Wanting (cascades_in s) (places_in s) (key t) (HadNoRoom (cascades_in s) t c.args.label (vec_capacity c.args.into.now))) (λ o es k. inr (k.0, none)) looked.adds))
    c.put_readers.ensures.full
