-- A caller is ready again after whole looks and publishings.
use Rattle.std.specs.Prelude.{◌≡◌, ℕ, ◌+◌, List, [], ◌++◌}
use Rattle.std.proofs.lemmas.List.{append-nil}
use Rattle.place_words.specs.declared.view.Mode.TheVariants.{Idle}
use Rattle.place_words.specs.declared.view.View.{View}
use Rattle.std.proofs.Common.{refl, sym, ◌∙◌, ap, subst}
use Rattle.place_words.specs.declared.view.Entry.{Entry}
use Rattle.place_words.specs.Seats.{IsSeatOf, view_of}
use Rattle.place_table.specs.Entries.{logged}
use Rattle.place_table.specs.Tables.{words_of}
use Rattle.place_table.specs.Ways.{way_count}
use Rattle.shared_cascade.specs.declared.callers.Caller.{Caller}
use Rattle.shared_cascade.specs.declared.shared.Shared.{Shared}
use Rattle.shared_cascade.specs.Callers.{IsAtRest, log_of, looks_of, places_in}
use Rattle.shared_cascade.specs.Counts.{AreWhole, looks_in}
use Rattle.shared_cascade.proofs.Counting.{Runs, joined}

-- it is at rest, and has made so many looks more
pub record Again (s : Shared) (c d : Caller) (k : ℕ) : Type 0 where
  pub rest : IsAtRest s d
  pub looks : looks_of s d ≡ looks_of s c + k

pub again : (s : Shared) (c d : Caller) (es : List Entry) (k : ℕ) → IsAtRest s c → IsSeatOf (words_of s.table) d.seat → view_of d.seat ≡ logged (view_of c.seat) es → Runs (way_count (places_in s)) 0 es 0 k → Again s c d k
again s c d es k h own view runs =
    let n = way_count (places_in s) in
    let log = sym (ap (λ v. v.log) view) in
    let all = joined n 0 (log_of c) es (record { left = h.whole; ended = refl }) runs in
    record {
      rest = record {
        together = own;
        tag = ap (λ v. v.tag) view ∙ h.tag;
        idle = ap (λ v. v.mode) view;
        whole = subst (AreWhole n) log all.left;
        sound = h.sound;
      };
      looks = subst (λ l. looks_in n l ≡ looks_of s c + k) log all.ended;
    }

-- a view that is idle, after nothing
pub same_view : {T : Type 0} (v : View T) → v.mode ≡ Idle → v ≡ logged v []
same_view v h = λ i. record v { mode = h i; log = sym (append-nil v.log) i }

-- an idle view stays idle
pub still_idle : {T : Type 0} (v : View T) (es : List Entry) → v.mode ≡ Idle → logged v es ≡ record v { log = v.log ++ es }
still_idle v es h = λ i. record v { mode = sym h i; log = v.log ++ es }
