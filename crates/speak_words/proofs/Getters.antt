-- The number of an option, as a typed getter reads it.
use Rattle.std.proofs.Common.{Bool, ◌≡◌, ◌≤◌, ◌<◌, ◌^◌, ℕ, List, Option, Some, None, IfSome, Result, Ok, refl, unwrap_or}
use Rattle.std.specs.Option.{option_map_or}
use Rattle.std.specs.Str.Parse.{ParsesUnsigned}
use Rattle.clap.specs.Words.{ReadsOne, Text, one_of, one_text, rows_of}
use Rattle.clap.specs.declared.parser.matches.Found.{Found}
use Rattle.clap.proofs.CallerReads.{signed_reads}
use Rattle.clap.proofs.WalkLemmas.{one_text-rows}
use Rattle.std.specs.Borrow.{Bor}
use Rattle.std.specs.Prelude.{option_map}
use Rattle.speak_words.specs.Asked.{job, job_of, number}
use Rattle.speak_words.specs.declared.asked.Asked.{Asked}
use Rattle.speak_words.specs.declared.asked.Mode.{Mode}
use Rattle.speak_words.specs.declared.asked.Settings.{Settings}
use Rattle.speak_words.specs.Numbers.{HasNumberIn}

-- a number in bounds is read, and the default stands where there is none
pub record Reads (f : Found) (id : Text) (low high other n : ℕ) : Type 0 where
  pub value : n ≡ option_map_or number (one_of id (rows_of f)) other
  pub least : low ≤ n
  pub most : n ≤ high

pub read_number : (E : Type 0) (G : List ℕ → Result ℕ E → Type 0) (f : Found) (id : Text) (least most other : ℕ) (r : Option ℕ)
    → HasNumberIn least most id f → least ≤ other → other ≤ most → most < 2 ^ 32
    → ((text : Text) (x : Result ℕ E) → G text x → ParsesUnsigned 32 10 text x)
    → (one_text f id ≡ None → r ≡ None) → ((text : Text) → one_text f id ≡ Some text → ReadsOne G text r)
    → Reads f id least most other (unwrap_or r other)
read_number E G f id least most other r has low high fits only none some = go (one_text f id) refl
  where
    go : (o : Option Text) → one_text f id ≡ o → Reads f id least most other (unwrap_or r other)
    go None is = rw (none is) (
        record { value = rw (← one_text-rows f id, is) refl; least = low; most = high }
        )
    go (Some text) is =
        let given = has text is in
        let read = some text is in
        let got = signed_reads E G 32 least most given.0 r (rw (← given.1) read) only fits given.2 in
        let parsed = only text (Ok got.0) (rw got.1 at read) in
        rw got.1 (record { value = rw (← one_text-rows f id, is) parsed.1; least = got.2; most = got.3 })

-- a reference or a default, as a text
pub unwrap_or-now : (o : Option (Bor Text)) (other : Bor Text) → (unwrap_or o other).now ≡ unwrap_or (option_map (λ s. s.now) o) other.now
unwrap_or-now None other = refl
unwrap_or-now (Some s) other = refl

pub same_job : (mode mode2 : Text) (setup setup2 : Option Text) (count count2 start start2 : ℕ)
    → mode ≡ mode2 → setup ≡ setup2 → count ≡ count2 → start ≡ start2 → job mode setup count start ≡ job mode2 setup2 count2 start2
same_job mode mode2 setup setup2 count count2 start start2 modes setups counts starts = rw (modes, setups, counts, starts) refl

abbrev asked : Settings → Mode → Asked
asked s m = record { mode = m; settings = s }

module _ (s : Settings) where
  pub job-asked : (o : Option Mode) → option_map (λ a. job_of a.mode) (option_map (asked s) o) ≡ option_map job_of o
  job-asked None = refl
  job-asked (Some mode) = refl

  pub settings-asked : (P : Settings → Type 0) → P s → (o : Option Mode) → IfSome (option_map (asked s) o) (λ a. P a.settings)
  settings-asked P holds None = tt
  settings-asked P holds (Some mode) = holds

pub same_settings : (places places2 jobs jobs2 sweep sweep2 : ℕ) (report report2 : Bool) → places ≡ places2 → jobs ≡ jobs2 → sweep ≡ sweep2 → report ≡ report2
    → ◌≡◌ {A = Settings} (record { places = places; jobs = jobs; sweep = sweep; report = report }) (record { places = places2; jobs = jobs2; sweep = sweep2; report = report2 })
same_settings places places2 jobs jobs2 sweep sweep2 report report2 p j s r = rw (p, j, s, r) refl
