use Rattle.std.proofs.Common.{subst}
use Rattle.fst_core.specs.Useful.{KeptStates}
use Rattle.fst_core.proofs.Uses.{KeepsUseful, keeps_useful, trimmed_reads, trimmed_states, trim_of}
use Rattle.fst_core.proofs.trims.trim.Goals as goal

pub returns-clause-readings : goal.returns-clause-readings
returns-clause-readings c =
    let p = c.args.a.now in
    let keep = c.in_ok-keep.keep.items in
    let useful : KeepsUseful p keep = keeps_useful p c.in_ok-ahead.ahead c.in_ok-live.live.states keep c.start-start.ensures.sound c.in_ok-ahead.ensures.states c.in_ok-live.ensures.states c.in_ok-keep.ensures.count c.in_ok-keep.ensures.marks in
    trimmed_reads p c.in_ok-m.m keep c.start-start.ensures.sound (subst (λ v. KeptStates p v c.in_ok-m.m) c.deref.ensures.value c.in_ok-m.ensures.states) useful

pub returns-clause-states : goal.returns-clause-states
returns-clause-states c =
    let p = c.args.a.now in
    let keep = c.in_ok-keep.keep.items in
    let useful : KeepsUseful p keep = keeps_useful p c.in_ok-ahead.ahead c.in_ok-live.live.states keep c.start-start.ensures.sound c.in_ok-ahead.ensures.states c.in_ok-live.ensures.states c.in_ok-keep.ensures.count c.in_ok-keep.ensures.marks in
    trimmed_states p c.in_ok-m.m keep c.start-start.ensures.sound (subst (λ v. KeptStates p v c.in_ok-m.m) c.deref.ensures.value c.in_ok-m.ensures.states) useful

pub returns-clause-kept : goal.returns-clause-kept
returns-clause-kept c =
    let p = c.args.a.now in
    let keep = c.in_ok-keep.keep.items in
    let useful : KeepsUseful p keep = keeps_useful p c.in_ok-ahead.ahead c.in_ok-live.live.states keep c.start-start.ensures.sound c.in_ok-ahead.ensures.states c.in_ok-live.ensures.states c.in_ok-keep.ensures.count c.in_ok-keep.ensures.marks in
    trim_of p c.in_ok-m.m keep c.start-start.ensures.sound (subst (λ v. KeptStates p v c.in_ok-m.m) c.deref.ensures.value c.in_ok-m.ensures.states) useful c.in_ok-keep.ensures.count
