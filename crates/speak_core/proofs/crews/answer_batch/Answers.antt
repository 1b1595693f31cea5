use denote.Exit as exit
use denote.Param.Send.{arg_send, param_send}
use Rattle.std.proofs.Common.{◌≡◌, ◌∙◌, ◌+◌, ap, length, refl, sym, arith}
use Rattle.std.proofs.lemmas.List.{length-map}
use Rattle.speak_core.specs.Parts.{lines_of}
use Rattle.speak_core.specs.Reports.{swept_sum}
use Rattle.speak_words.specs.declared.asked.Settings.{Settings}
use Rattle.speak_core.specs.declared.shares.Share.{Share}
use Rattle.speak_core.proofs.Dealing.{AllWorked, can_work, crew_back, crew_ran, last_swept, workers_heard}
use Rattle.speak_core.proofs.Sent.{done_send, share_send}
use Rattle.speak_core.proofs.crews.answer_batch.Goals as goal

pub map_vec-requires-send-J : goal.map_vec-requires-send-J
map_vec-requires-send-J g c κs within = param_send 1 _ (arg_send _ exit.no _ (share_send _))

pub map_vec-requires-send-X : goal.map_vec-requires-send-X
map_vec-requires-send-X g c κs within = param_send 2 _ (arg_send _ exit.no _ done_send)

pub map_vec-requires-after_bounds : goal.map_vec-requires-after_bounds
map_vec-requires-after_bounds g c κs within i x inside is =
    can_work c.args.speaker.now.normaliser c.args.crew.now c.requires.ready c.args.first c.args.lines.now c.in_ok-shares.shares.items c.in_ok-shares.ensures.callers c.in_ok-shares.ensures.shares c.requires.first c.requires.numbers i x inside is

pub returns-clause-ready : goal.returns-clause-ready
returns-clause-ready g c =
    let worked : AllWorked c.args.speaker.now c.in_ok-shares.shares.items c.in_ok-done.done.items = λ i d within. let one = (c.in_ok-done.ensures.each i d within).1 in (one.job, one.job_is, one.call.met) in
    let same : length c.in_ok-done.done.items ≡ length c.in_ok-shares.shares.items = let a = c.in_ok-done.done.ok in let b = c.in_ok-shares.shares.ok in let l = c.in_ok-done.ensures.len in omega (arith, a, b, l) in
    let width = sym (length-map c.in_ok-shares.shares.items (λ (s : Share). s.caller)) ∙ ap length c.in_ok-shares.ensures.callers in
    crew_back c.args.speaker.now c.in_ok-shares.shares.items c.in_ok-done.done.items same worked c.args.crew.now (record c.take_back.new.crew { swept = c.add_swept.new.swept }) c.requires.ready c.in_ok-shares.ensures.callers width (c.take_back.ensures.settings ∙ c.deal.ensures.settings) c.in_ok-queues.ensures.callers

pub add_swept-requires : goal.add_swept-requires
add_swept-requires g c =
    let worked : AllWorked c.args.speaker.now c.in_ok-shares.shares.items c.in_ok-done.done.items = λ i d within. let one = (c.in_ok-done.ensures.each i d within).1 in (one.job, one.job_is, one.call.met) in
    let same : length c.in_ok-done.done.items ≡ length c.in_ok-shares.shares.items = let a = c.in_ok-done.done.ok in let b = c.in_ok-shares.shares.ok in let l = c.in_ok-done.ensures.len in omega (arith, a, b, l) in
    let width = sym (length-map c.in_ok-shares.shares.items (λ (s : Share). s.caller)) ∙ ap length c.in_ok-shares.ensures.callers in
    let found = last_swept c.args.speaker.now c.in_ok-shares.shares.items c.in_ok-done.done.items same worked c.args.crew.now c.requires.ready width c.args.first (lines_of c.args.lines.now) c.in_ok-shares.ensures.shares c.swept_last-swept.result (rw c.deref.ensures.value at c.swept_last-swept.ensures) in
    let before : swept_sum c.take_back.new.crew.swept ≡ swept_sum c.args.crew.now.swept = ap swept_sum (c.take_back.ensures.swept ∙ c.deal.ensures.swept) in
    rw (before, found) c.requires.room

pub returns-clause-answers : goal.returns-clause-answers
returns-clause-answers g c =
    let worked : AllWorked c.args.speaker.now c.in_ok-shares.shares.items c.in_ok-done.done.items = λ i d within. let one = (c.in_ok-done.ensures.each i d within).1 in (one.job, one.job_is, one.call.met) in
    let same : length c.in_ok-done.done.items ≡ length c.in_ok-shares.shares.items = let a = c.in_ok-done.done.ok in let b = c.in_ok-shares.shares.ok in let l = c.in_ok-done.ensures.len in omega (arith, a, b, l) in
    let heard = workers_heard c.args.speaker.now c.in_ok-shares.shares.items c.in_ok-done.done.items same worked c.args.crew.now.settings.jobs c.args.crew.now.settings.sweep c.args.first (lines_of c.args.lines.now) c.in_ok-shares.ensures.shares in
    let jobs = ap (λ (t : Settings). t.jobs) (c.take_back.ensures.settings ∙ c.deal.ensures.settings) in
    c.gather.ensures.answers c.args.speaker.now (rw (c.deref_mut.ensures.value, c.in_ok-queues.ensures.heard, jobs) heard)

pub returns-clause-swept : goal.returns-clause-swept
returns-clause-swept g c =
    let worked : AllWorked c.args.speaker.now c.in_ok-shares.shares.items c.in_ok-done.done.items = λ i d within. let one = (c.in_ok-done.ensures.each i d within).1 in (one.job, one.job_is, one.call.met) in
    let same : length c.in_ok-done.done.items ≡ length c.in_ok-shares.shares.items = let a = c.in_ok-done.done.ok in let b = c.in_ok-shares.shares.ok in let l = c.in_ok-done.ensures.len in omega (arith, a, b, l) in
    let width = sym (length-map c.in_ok-shares.shares.items (λ (s : Share). s.caller)) ∙ ap length c.in_ok-shares.ensures.callers in
    let found = last_swept c.args.speaker.now c.in_ok-shares.shares.items c.in_ok-done.done.items same worked c.args.crew.now c.requires.ready width c.args.first (lines_of c.args.lines.now) c.in_ok-shares.ensures.shares c.swept_last-swept.result (rw c.deref.ensures.value at c.swept_last-swept.ensures) in
    let before : swept_sum c.take_back.new.crew.swept ≡ swept_sum c.args.crew.now.swept = ap swept_sum (c.take_back.ensures.swept ∙ c.deal.ensures.swept) in
    (let d = c.add_swept.ensures.done in let w = c.add_swept.ensures.was in let z : swept_sum c.add_swept.new.swept ≡ swept_sum c.take_back.new.crew.swept + swept_sum c.swept_last-swept.result = omega (arith, d, w) in z) ∙ (rw (before, found) refl)

pub returns-clause-ran : goal.returns-clause-ran
returns-clause-ran g c = λ whole.
    let worked : AllWorked c.args.speaker.now c.in_ok-shares.shares.items c.in_ok-done.done.items = λ i d within. let one = (c.in_ok-done.ensures.each i d within).1 in (one.job, one.job_is, one.call.met) in
    let same : length c.in_ok-done.done.items ≡ length c.in_ok-shares.shares.items = let a = c.in_ok-done.done.ok in let b = c.in_ok-shares.shares.ok in let l = c.in_ok-done.ensures.len in omega (arith, a, b, l) in
    let jobs = ap (λ (t : Settings). t.jobs) (c.take_back.ensures.settings ∙ c.deal.ensures.settings) in
    let swept = c.take_back.ensures.swept ∙ c.deal.ensures.swept in
    crew_ran c.args.speaker.now c.in_ok-shares.shares.items c.in_ok-done.done.items same worked c.args.crew.now c.requires.ready c.in_ok-shares.ensures.callers c.args.first (lines_of c.args.lines.now) c.in_ok-shares.ensures.shares c.gather.result.all.items
    (c.gather.ensures.count whole ∙ sym (length-map c.args.lines.now (λ line. line.now))) (rw (c.deref_mut.ensures.value, c.in_ok-queues.ensures.heard, jobs) at c.gather.ensures.from) (record c.take_back.new.crew { swept = c.add_swept.new.swept }) c.swept_last-swept.result (c.take_back.ensures.settings ∙ c.deal.ensures.settings) c.in_ok-queues.ensures.callers
    (rw c.deref.ensures.value at c.swept_last-swept.ensures) (c.add_swept.ensures.done ∙ ap (λ x. x.done + c.swept_last-swept.result.done) swept) (c.add_swept.ensures.was ∙ ap (λ x. x.was + c.swept_last-swept.result.was) swept)
