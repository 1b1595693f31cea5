use Rattle.std.specs.Prelude.{◌≡◌, ◌<◌, [], ◌∷◌, All, Some, get_or, length, slice_get}
use Rattle.std.proofs.Common.{refl, sym, ◌∙◌, ap, subst, arith}
use Rattle.std.proofs.lemmas.List.Elements.{All-cons, All-nil}
use Rattle.std.proofs.lemmas.List.{append-nil, get_or-map, length-map}
use Rattle.std.proofs.lemmas.Option.{get_or_from_slice_get, slice_get-get_or, slice_get_within}
use Rattle.state_tuples.specs.Cascades.{IsSound}
use Rattle.place_words.specs.Seats.{number_of, view_of}
use Rattle.shared_cascade.specs.Callers.{log_before}
use Rattle.shared_cascade.specs.Counts.{AreWhole}
use Rattle.shared_cascade.specs.Grammars.{cascades_of}
use Rattle.shared_cascade.specs.declared.callers.Caller.{Caller}
use Rattle.shared_cascade.proofs.shared.Shared.open.Goals as goal

pub returns-clause-callers : goal.returns-clause-callers
returns-clause-callers c k d lt =
    let callers = c.in_ok-callers.callers.items in
    let x : Caller = get_or callers k d in
    let seats = c.in_ok-callers.ensures.seats in
    let fact = c.in_ok-table.ensures.fact in
    let there : get_or c.in_ok-table.all.items k x.seat ≡ x.seat = ap (λ l. get_or l k x.seat) (sym seats) ∙ get_or-map (λ (y : Caller). y.seat) callers k d x.seat lt in
    let within : k < length c.in_ok-table.all.items = (let e = ap length seats in let f = length-map callers (λ (y : Caller). y.seat) in omega arith) in
    let at : slice_get c.in_ok-table.all.items k ≡ Some x.seat = slice_get-get_or c.in_ok-table.all.items k x.seat within ∙ ap Some there in
    let view = c.in_ok-table.ensures.views k x.seat at in
    let log = ap (λ v. v.log) view in
    let begun = ap (λ s. (view_of s).log) (c.in_ok-callers.ensures.before k d lt) in
    let tally = c.in_ok-callers.ensures.tallies k d lt in
    record {
      ready = record {
        together = c.in_ok-table.ensures.own k x.seat at;
        tag = ap (λ v. v.tag) view ∙ sym fact;
        idle = ap (λ v. v.mode) view;
        whole = subst (AreWhole _) (sym log) refl;
        sound = subst (λ g. All IsSound (cascades_of g)) (sym fact) (All-cons IsSound c.args.classifier (c.args.verbaliser ∷ []) c.start-first.ensures.sound (All-cons IsSound c.args.verbaliser [] c.start-second.ensures.sound (All-nil IsSound)));
        counted = record {
          since = [];
          log = sym (append-nil (log_before x) ∙ begun);
          is = record { parts = []; are = refl; tally = tally };
          alone = λ one. ap (λ t. t.no_place) tally;
        };
      };
      log = log;
      tally = tally;
    }

pub returns-clause-seats : goal.returns-clause-seats
returns-clause-seats c k d lt =
    let callers = c.in_ok-callers.callers.items in
    let x : Caller = get_or callers k d in
    let seats = c.in_ok-callers.ensures.seats in
    let there : get_or c.in_ok-table.all.items k x.seat ≡ x.seat = ap (λ l. get_or l k x.seat) (sym seats) ∙ get_or-map (λ (y : Caller). y.seat) callers k d x.seat lt in
    let within : k < length c.in_ok-table.all.items = (let e = ap length seats in let f = length-map callers (λ (y : Caller). y.seat) in omega arith) in
    ap (λ v. v.seats) (c.in_ok-table.ensures.views k x.seat (slice_get-get_or c.in_ok-table.all.items k x.seat within ∙ ap Some there))

pub returns-clause-numbers : goal.returns-clause-numbers
returns-clause-numbers c k d is =
    let callers = c.in_ok-callers.callers.items in
    let lt = slice_get_within callers k d is in
    let x : Caller = get_or callers k d in
    let same : x ≡ d = get_or_from_slice_get callers k d d is in
    let seats = c.in_ok-callers.ensures.seats in
    let there : get_or c.in_ok-table.all.items k x.seat ≡ x.seat = ap (λ l. get_or l k x.seat) (sym seats) ∙ get_or-map (λ (y : Caller). y.seat) callers k d x.seat lt in
    let within : k < length c.in_ok-table.all.items = (let e = ap length seats in let f = length-map callers (λ (y : Caller). y.seat) in omega arith) in
    subst (λ (y : Caller). number_of y.seat ≡ k) same (c.in_ok-table.ensures.numbers k x.seat (slice_get-get_or c.in_ok-table.all.items k x.seat within ∙ ap Some there))
