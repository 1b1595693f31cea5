use Rattle.std.specs.Prelude.{◌≡◌, ◌+◌, Some, length}
use Rattle.std.proofs.Common.{refl, ap, subst, arith}
use Rattle.state_tuples.specs.Codes.{key}
use Rattle.shared_cascade.specs.Callers.{FoundFor, MadeFor, MissedFor, Visited, cascades_in, grammars_of, places_in}
use Rattle.shared_cascade.specs.Episodes.{Episode, Missed}
use Rattle.shared_cascade.specs.HandLaws.{own_numbers}
use Rattle.shared_cascade.specs.Hands.{ShortEpisode}
use Rattle.shared_cascade.proofs.Finding.{expanded, whole}
use Rattle.shared_cascade.proofs.Going.{found_part, found_so, gave_up, goes_on, made_part, missed_part, on_any_error}
use Rattle.shared_cascade.proofs.Handing.{end_owed}
use Rattle.shared_cascade.proofs.Keeping.{adds_so, at_rest, readied}
use Rattle.shared_cascade.proofs.hands.HandExpander.finality.Goals as goal

pub returns-in_err-visit-clause-ready : goal.returns-in_err-visit-clause-ready
returns-in_err-visit-clause-ready c =
    let s = c.args.self.now.shared.now in
    readied s c.args.self.now.caller.now _ (MissedFor s c.args.t.now) c.requires.ready c.in_err-visit.ensures.missing (missed_part s c.args.t.now c.args.self.now.caller.now)

pub returns-in_err-visit-clause-up : goal.returns-in_err-visit-clause-up
returns-in_err-visit-clause-up c =
    let s = c.args.self.now.shared.now in
    let k = key c.args.t.now in
    let m = c.in_err-visit.ensures.missing in
    on_any_error _ (gave_up c.args.self.now _ k (record { shared = refl; caller = refl }) m.before
    (adds_so c.args.self.now.caller.now c.visit.new.caller (MissedFor s c.args.t.now) (λ o es. Missed (places_in s) k es) (λ o es h. h.1) m.adds))

pub returns-in-Held-clause-end : goal.returns-in-Held-clause-end
returns-in-Held-clause-end c =
    let s = c.args.self.now.shared.now in
    let t = c.args.t.now in
    let old = c.args.self.now.caller.now in
    let at = subst (Visited s old c.visit.new.caller t) c.in-Held.is c.in_ok-visit.ensures.visited in
    let x = expanded s old c.visit.new.caller t c.requires.ready c.requires.known at (λ end arcs. c.take_end.result ≡ end) c.take_end.ensures.end in
    end_owed (grammars_of s) s.numbered c.requires.ready.sound t x.c x.among x.known (own_numbers c.args.self.now) c.take_end.result x.holds

pub returns-in-Held-clause-ready : goal.returns-in-Held-clause-ready
returns-in-Held-clause-ready c =
    let s = c.args.self.now.shared.now in
    let t = c.args.t.now in
    let old = c.args.self.now.caller.now in
    let at = subst (Visited s old c.visit.new.caller t) c.in-Held.is c.in_ok-visit.ensures.visited in
    let e = c.take_end.ensures in
    let w = whole s old c.visit.new.caller c.take_end.new.caller t e.left.0 e.left.1 (at_rest s old c.requires.ready) at e.own e.left.3 e.tally e.before in
    readied s old c.take_end.new.caller (FoundFor s t (28 + length e.left.0)) c.requires.ready w (found_part s t old (28 + length e.left.0))

pub returns-in-Held-clause-on : goal.returns-in-Held-clause-on
returns-in-Held-clause-on c =
    let s = c.args.self.now.shared.now in
    let t = c.args.t.now in
    let old = c.args.self.now.caller.now in
    let at = subst (Visited s old c.visit.new.caller t) c.in-Held.is c.in_ok-visit.ensures.visited in
    let e = c.take_end.ensures in
    let w = whole s old c.visit.new.caller c.take_end.new.caller t e.left.0 e.left.1 (at_rest s old c.requires.ready) at e.own e.left.3 e.tally e.before in
    goes_on c.args.self.now _ (key t) (record { shared = refl; caller = refl }) w.before
    (adds_so old c.take_end.new.caller (FoundFor s t (28 + length e.left.0)) (Episode (cascades_in s) (places_in s) (key t)) (found_so s t (28 + length e.left.0)) w.adds)

pub returns-in-Held-clause-counted : goal.returns-in-Held-clause-counted
returns-in-Held-clause-counted c =
    let s = c.args.self.now.shared.now in
    let t = c.args.t.now in
    let old = c.args.self.now.caller.now in
    let at = subst (Visited s old c.visit.new.caller t) c.in-Held.is c.in_ok-visit.ensures.visited in
    let e = c.take_end.ensures in
    let w = whole s old c.visit.new.caller c.take_end.new.caller t e.left.0 e.left.1 (at_rest s old c.requires.ready) at e.own e.left.3 e.tally e.before in
    ap Some w.looks

pub returns-in-Held-clause-episode : goal.returns-in-Held-clause-episode
returns-in-Held-clause-episode c =
    let s = c.args.self.now.shared.now in
    let t = c.args.t.now in
    let old = c.args.self.now.caller.now in
    let at = subst (Visited s old c.visit.new.caller t) c.in-Held.is c.in_ok-visit.ensures.visited in
    let e = c.take_end.ensures in
    let w = whole s old c.visit.new.caller c.take_end.new.caller t e.left.0 e.left.1 (at_rest s old c.requires.ready) at e.own e.left.3 e.tally e.before in
    adds_so old c.take_end.new.caller (FoundFor s t (28 + length e.left.0)) (Episode (cascades_in s) (places_in s) (key t)) (found_so s t (28 + length e.left.0)) w.adds

pub returns-in-Held-clause-read : goal.returns-in-Held-clause-read
returns-in-Held-clause-read c =
    let s = c.args.self.now.shared.now in
    let t = c.args.t.now in
    let old = c.args.self.now.caller.now in
    let at = subst (Visited s old c.visit.new.caller t) c.in-Held.is c.in_ok-visit.ensures.visited in
    let e = c.take_end.ensures in
    let w = whole s old c.visit.new.caller c.take_end.new.caller t e.left.0 e.left.1 (at_rest s old c.requires.ready) at e.own e.left.3 e.tally e.before in
    adds_so old c.take_end.new.caller (FoundFor s t (28 + length e.left.0)) (ShortEpisode (cascades_in s) (places_in s) (key t) 30)
    (λ o es h. (found_so s t (28 + length e.left.0) o es h, λ same. omega (arith, h.2, e.left.2))) w.adds

pub returns-in-Made-clause-ready : goal.returns-in-Made-clause-ready
returns-in-Made-clause-ready c =
    let s = c.args.self.now.shared.now in
    let t = c.args.t.now in
    let old = c.args.self.now.caller.now in
    let v = subst (Visited s old c.visit.new.caller t) c.in-Made.is c.in_ok-visit.ensures.visited in
    readied s old c.visit.new.caller (MadeFor s old t) c.requires.ready v.0 (made_part s t old)

pub returns-in-Made-clause-on : goal.returns-in-Made-clause-on
returns-in-Made-clause-on c =
    let s = c.args.self.now.shared.now in
    let t = c.args.t.now in
    let old = c.args.self.now.caller.now in
    let v = subst (Visited s old c.visit.new.caller t) c.in-Made.is c.in_ok-visit.ensures.visited in
    let looked = v.0 in
    goes_on c.args.self.now _ (key t) (record { shared = refl; caller = refl }) looked.before
    (adds_so old c.visit.new.caller (MadeFor s old t) (Episode (cascades_in s) (places_in s) (key t)) (λ o es h. h.0) looked.adds)
